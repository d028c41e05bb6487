-- `sync_rings::markers::marker` meets its contract.
-- Assumes nothing.
use Prim.Native.Nat.{ℕ, ◌%◌, ◌^◌, ◌<◌}
use mathlib.Core.Path.{◌≡◌, ap, ap₂, sym, ◌∙◌}
use mathlib.Core.List.{List}
use native.Mathlib.Omega.{arith}
use native.Mathlib.Nat.{zero-add}
use Rattle.coding_markers.specs.Markers.{marker}
use lib.Dec.{eqb}
use lib.Bits.{bit_xor, xor_lt}
use lib.Count.{ones, ones-le}
use lib.ListN.{get_or}
use Rattle.sync_rules.specs.Ring.{ring}
use Rattle.sync_rules.specs.Matching.{spell, marker_bits, matches, errors, differing}
use Rattle.sync_rules.proofs.Rings.{length_ring}
use Rattle.sync_rings.proofs.Marks.{marker_small, xor_differing, marker_spelled, marker_length, marker_binary, ring_binary, sixteen_ring}
use Rattle.sync_rings.proofs.markers.marker.Goals as goal

pub returns : goal.returns
unfolding matches errors ones
returns c =
    let a = c.args in
    let xs = a.bits.now in
    let k = a.segment in
    let r = ring xs a.from 16 in
    let v = c.spelled-value in
    let g : get_or c.markers.result k 0 ≡ marker k = ap (λ (l : List ℕ). get_or l k 0) c.markers.ensures in
    let m : get_or c.markers.result k 0 ≡ spell 0 (marker_bits k) = g ∙ marker_spelled k c.requires.fact_2 in
    let small : get_or c.markers.result k 0 < 2 ^ 16 = rw g (marker_small k c.requires.fact_2) in
    let d : ones (bit_xor v.result (get_or c.markers.result k 0)) ≡ differing r (marker_bits k) =
    ap₂ (λ (x y : ℕ). ones (bit_xor x y)) v.ensures m
    ∙ xor_differing r (marker_bits k) 0 0 (length_ring xs a.from 16 ∙ sym (marker_length k)) (ring_binary xs a.from 16 c.requires.fact_1) (marker_binary k)
    ∙ zero-add (differing r (marker_bits k)) in record { ok = λ f p n e h. ap₂ (λ (x y : ℕ). eqb (x % 16384) (y % 16384)) (v.ensures ∙ ap (spell 0) (sixteen_ring xs a.from f p n e h)) g; errors = λ f p n e h. d ∙ ap (λ (l : List ℕ). differing l (marker_bits k)) (sixteen_ring xs a.from f p n e h); few = ones-le 16 (bit_xor v.result (get_or c.markers.result k 0)) (xor_lt 16 v.result (get_or c.markers.result k 0) (omega arith) small) }
