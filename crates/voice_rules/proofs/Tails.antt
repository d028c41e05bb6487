-- A word with its tail made anew: bytes 0 to 33 stay, and it depends on them alone.
-- Assumes nothing.
use mathlib.Core.List.{List, ◌++◌}
use mathlib.Core.Path.{◌≡◌, sym, ap, ap₂, ◌∙◌}
use Prim.Native.Nat.{ℕ, zero, suc, ◌+◌, ◌-◌, ◌<◌}
use native.Mathlib.Decide.{dec_lt}
use native.Mathlib.Omega.{arith}
use lib.ListN.{length, get_or, take, drop, replicate, length-drop, length-append, get_or-append}
use lib.Seq.{ext_get_or, get_or-take, get_or-drop, length-take-le, get_or-append-add}
use Rattle.bits.specs.Bit.{Bytes}
use Rattle.bits.proofs.Belows.{below_none, below_cons, below_append, below_take, below_drop}
use Rattle.tail_rules.specs.Encode.{tail_of}
use Rattle.tail_rules.specs.Calls.{tail_in}
use Rattle.tail_rules.specs.Repair.{Answer, refused, repaired, repair_of, Repairs}
use Rattle.tail_rules.proofs.Searching.{means}
use Rattle.tail_rules.proofs.Encoding.{tail_code, tail_six}
use Rattle.voice_rules.specs.Encoded.{with_tail}

module _ (w : List ℕ) (e : length w ≡ 42) where
  length_front : length (take 28 w) ≡ 28
  length_front = length-take-le 28 w (omega arith)

  length_six : length (take 6 (drop 28 w)) ≡ 6
  length_six = length-take-le 6 (drop 28 w) (simp length-drop (omega arith))

  -- byte 28 + k, below byte 34
  six_at : (k : ℕ) → k < 6 → get_or (take 6 (drop 28 w)) k 0 ≡ get_or w (28 + k) 0
  six_at k h = get_or-take 6 (drop 28 w) k 0 h ∙ get_or-drop 28 w k 0

  pub tail_front : (k : ℕ) → k < 34 → get_or (with_tail w) k 0 ≡ get_or w k 0
  unfolding with_tail
  tail_front k h = go (dec_lt k 28)
    where
      made : List ℕ
      made = tail_of (take 6 (drop 28 w))

      go : Dec (k < 28) → get_or (take 28 w ++ made) k 0 ≡ get_or w k 0
      go (yes p) = get_or-append (take 28 w) made 0 k (rw length_front p) ∙ get_or-take 28 w k 0 p
      go (no p) =
          let m : 28 + (k - 28) ≡ k = omega arith in
          ap (λ (j : ℕ). get_or (take 28 w ++ made) j 0) (sym (ap (λ (j : ℕ). j + (k - 28)) length_front ∙ m))
          ∙ get_or-append-add (take 28 w) made (k - 28) 0
          ∙ sym (get_or-take 6 made (k - 28) 0 (omega arith))
          ∙ ap (λ (l : List ℕ). get_or l (k - 28) 0) (tail_six (take 6 (drop 28 w)) length_six)
          ∙ six_at (k - 28) (omega arith) ∙ ap (λ (j : ℕ). get_or w j 0) m

  module _ (b : Bytes w) where
    six_bytes : Bytes (take 6 (drop 28 w))
    six_bytes = below_take 6 (drop 28 w) (below_drop 28 w b)

    pub with_tail_bytes : Bytes (with_tail w)
    unfolding with_tail
    with_tail_bytes = below_append (take 28 w) (below_take 28 w b) (tail_code (take 6 (drop 28 w)) length_six six_bytes).bytes

    pub length_with_tail : length (with_tail w) ≡ 42
    unfolding with_tail
    length_with_tail =
        length-append (take 28 w) (tail_of (take 6 (drop 28 w))) ∙ omega (arith, length_front, (tail_code (take 6 (drop 28 w)) length_six six_bytes).long)

-- it depends on the first 34 bytes alone
pub tail_same : (v w : List ℕ) → length v ≡ 42 → length w ≡ 42 → ((k : ℕ) → k < 34 → get_or v k 0 ≡ get_or w k 0) → with_tail v ≡ with_tail w
unfolding with_tail
tail_same v w ev ew same = ap₂ (λ (a b : List ℕ). a ++ tail_of b) one two
  where
    one : take 28 v ≡ take 28 w
    one =
        ext_get_or 0 (take 28 v) (take 28 w) (length_front v ev ∙ sym (length_front w ew)) (λ k h.
        let l : k < 28 = omega (arith, length_front v ev) in
        get_or-take 28 v k 0 l ∙ same k (omega arith) ∙ sym (get_or-take 28 w k 0 l))

    two : take 6 (drop 28 v) ≡ take 6 (drop 28 w)
    two =
        ext_get_or 0 (take 6 (drop 28 v)) (take 6 (drop 28 w)) (length_six v ev ∙ sym (length_six w ew)) (λ k h.
        let l : k < 6 = omega (arith, length_six v ev) in
        six_at v ev k l ∙ same (28 + k) (omega arith) ∙ sym (six_at w ew k l))

-- ---- what a repair gives

zero_bytes : (n : ℕ) → Bytes (replicate n 0)
zero_bytes zero = below_none 256 (omega arith)
zero_bytes (suc n) = below_cons (omega arith) (zero_bytes n)

given_bytes : (es t : List ℕ) (a : Answer) → Repairs es t a → Bytes (tail_in a)
unfolding Repairs
given_bytes es t refused h = zero_bytes 14
given_bytes es t (repaired c n) h = h.0.code.bytes

pub repaired_bytes_lem : (es t : List ℕ) → Bytes (tail_in (repair_of es t))
repaired_bytes_lem es t = given_bytes es t (repair_of es t) (means es t)
