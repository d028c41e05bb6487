use Rattle.bits.proofs.Filling.{set_more}
use mathlib.Core.Path.{◌≡◌, ◌∙◌, refl, ap}
use mathlib.Core.List.{List, []}
use Prim.Native.Nat.{ℕ, ◌+◌, ◌*◌, ◌/◌, ◌<◌}
use native.Mathlib.Omega.{arith}
use lib.ListN.{get_or, length-set}
use Rattle.voice_path_rules.specs.Path.{searched_by, best, survivor_at, cost_of, weigh, path}
use Rattle.voice_path.specs.Rows.{kept}
use Rattle.bits.specs.Bit.{bit_lo}
use Rattle.voice_path_rules.specs.declared.Seen.{Seen}
use Rattle.voice_path_rules.proofs.Places.{weigh_le}
use Rattle.voice_path_rules.proofs.Ways.{survivor_small}
use Rattle.voice_path.proofs.Forwards.{start_at, start_le, arrive_le, arrive_cong, survivor_cong, best_more}
use Rattle.voice_path.proofs.Rows.{walk_cong}
use Rattle.voice_path.proofs.search_by.Goals as goal

pub loop-t-init : goal.loop-t-init
unfolding best
loop-t-init c = (omega arith, refl, start_le, start_at, λ k h. absurd (omega arith))

pub step-requires : goal.step-requires
step-requires c =
    let v = c.loop-t.invariant in
    record { weighed = c.observe.ensures.1; by_index = λ s h. omega (arith, v.2 s h) }

pub pack-requires : goal.pack-requires
pack-requires c = λ s h. rw (c.step.ensures.chosen s h) (survivor_small _ _ s)

pub loop-t-preserved : goal.loop-t-preserved
unfolding cost_of
loop-t-preserved c =
    let l = c.loop-t in
    let a = c.args in
    let o = c.observe.result in
    let g = c.observe.ensures in
    let st = c.step.ensures in
    let v = l.invariant in
    let d = cost_of a.table.now.entries a.received.now.bits a.weights.now in
    let same : (r : ℕ) → weigh o r ≡ d l.t r = λ r. ap (λ (x : Seen). weigh x r) g.0 in (
      omega arith,
      simp length-set v.1,
      λ s h.
          omega (
            arith,
            st.next s h,
            arrive_le (λ (i : ℕ). get_or l.costs i 0) (weigh o) s (65536 + 510 * l.t) 510 (v.2 (s / 2) (omega arith))
                (omega (arith, weigh_le o s, g.1.wa, g.1.wb)),
          ),
      λ s h. st.next s h ∙ arrive_cong (λ (i : ℕ). get_or l.costs i 0) (best d l.t) (weigh o) (d l.t) v.3 same s h ∙ best_more d l.t s,
      set_more
          l.survivors
          []
          (λ (k : ℕ) (row : List ℕ). (s : ℕ) → s < 256 → bit_lo row s ≡ survivor_at d k s)
          l.t
          c.pack.result
          (omega arith)
          v.4
          (λ s h. c.pack.ensures s h ∙ st.chosen s h ∙ survivor_cong (λ (i : ℕ). get_or l.costs i 0) (best d l.t) (weigh o) (d l.t) v.3 same s h),
    )

pub returns : goal.returns
unfolding searched_by path kept
returns c =
    let l = c.loop-t in
    let a = c.args in
    let d = cost_of a.table.now.entries a.received.now.bits a.weights.now in
    c.trace.ensures ∙ walk_cong (kept l.survivors) (survivor_at d) 94 (λ k h. l.invariant.4 k (omega arith)) (λ k s. survivor_small (best d k) (d k) s) 0 (omega arith)
