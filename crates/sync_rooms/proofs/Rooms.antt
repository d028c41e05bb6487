-- Laws of what is laid into the room.
-- Assumes nothing.
use mathlib.Core.Path.{◌≡◌, refl, sym, ap, ap₂, ◌∙◌}
use mathlib.Core.List.{List, [], ◌∷◌, ◌++◌, append_assoc}
use Prim.Native.Nat.{ℕ, zero, suc, ◌+◌, ◌-◌, ◌*◌, ◌%◌, ◌<◌}
use native.Mathlib.Nat.{add-zero, zero-add}
use native.Mathlib.Numerals.{add-one}
use native.Mathlib.Omega.{arith}
use lib.ListN.{get_or, length, take, drop, set, length-drop, length-append}
use lib.Seq.{sets, drop-drop, take-append-le, drop-append-le}
use Rattle.sync_rules.specs.Ring.{ring, runs}
use Rattle.sync_rules.specs.Matching.{spell}
use Rattle.sync_rules.specs.Room.{bytes_of}
use Rattle.sync_rules.proofs.Rings.{length_ring, drop_ring, take_ring, ring_snoc}

shift : (f i : ℕ) → suc f + i ≡ f + suc i
shift f i = omega arith

-- a run and what follows it
pub sets_append : (l : List ℕ) (i : ℕ) (us vs : List ℕ) → sets (sets l i us) (i + length us) vs ≡ sets l i (us ++ vs)
sets_append l i [] vs = ap (λ (k : ℕ). sets l k vs) (add-zero i)
sets_append l i (u ∷ us) vs = ap (λ (k : ℕ). sets (sets (set l i u) (suc i) us) k vs) (sym (shift i (length us))) ∙ sets_append (set l i u) (suc i) us vs

pub sets_more : (l : List ℕ) (i n : ℕ) (us : List ℕ) (v : ℕ) → length us ≡ n → set (sets l i us) (i + n) v ≡ sets l i (us ++ (v ∷ []))
sets_more l i n us v e = ap (λ (k : ℕ). set (sets l i us) (i + k) v) (sym e) ∙ sets_append l i us (v ∷ [])

pub length_bytes_of : (n : ℕ) (xs : List ℕ) → length (bytes_of n xs) ≡ n
unfolding bytes_of
length_bytes_of zero xs = refl
length_bytes_of (suc n) xs = ap suc (length_bytes_of n (drop 8 xs))

pub bytes_of_snoc : (n : ℕ) (xs : List ℕ) → bytes_of (suc n) xs ≡ bytes_of n xs ++ (spell 0 (take 8 (drop (8 * n) xs)) ∷ [])
unfolding bytes_of
bytes_of_snoc zero xs = refl
bytes_of_snoc (suc n) xs = ap (λ (l : List ℕ). spell 0 (take 8 xs) ∷ l) (bytes_of_snoc n (drop 8 xs) ∙ ap (λ (l : List ℕ). bytes_of n (drop 8 xs) ++ (spell 0 (take 8 l) ∷ [])) (drop-drop (8 * n) 8 xs ∙ ap (λ (k : ℕ). drop k xs) (eight n)))
  where
    eight : (n : ℕ) → 8 + 8 * n ≡ 8 * suc n
    eight n = omega arith

-- byte i of a ring's run
pub bytes_of_ring : (xs : List ℕ) (f i : ℕ) → i < 16 → bytes_of (i + 1) (ring xs f 128) ≡ bytes_of i (ring xs f 128) ++ (spell 0 (ring xs (f + 8 * i) 8) ∷ [])
bytes_of_ring xs f i h =
    ap (λ (k : ℕ). bytes_of k (ring xs f 128)) (add-one i) ∙ bytes_of_snoc i (ring xs f 128)
    ∙ ap (λ (l : List ℕ). bytes_of i (ring xs f 128) ++ (spell 0 l ∷ [])) (ap (take 8) (drop_ring xs f 128 (8 * i)) ∙ take_ring xs (f + 8 * i) (128 - 8 * i) 8 (omega arith))

pub bytes_of_append : (m n : ℕ) (us vs : List ℕ) → length us ≡ 8 * m → bytes_of (m + n) (us ++ vs) ≡ bytes_of m us ++ bytes_of n vs
unfolding bytes_of
bytes_of_append zero n [] vs e = ap (λ (k : ℕ). bytes_of k vs) (zero-add n)
bytes_of_append zero n (u ∷ us) vs e = absurd (omega arith)
bytes_of_append (suc m) n us vs e =
    ap (λ (k : ℕ). bytes_of k (us ++ vs)) (shift' m n)
    ∙ ap₂ (λ (a : List ℕ) (b : List ℕ). spell 0 a ∷ b) (take-append-le 8 us vs (omega arith)) (ap (bytes_of (m + n)) (drop-append-le 8 us vs (omega arith)) ∙ bytes_of_append m n (drop 8 us) vs (length-drop 8 us ∙ less (length us) m e))
  where
    shift' : (m n : ℕ) → suc m + n ≡ suc (m + n)
    shift' m n = omega arith

    less : (k m : ℕ) → k ≡ 8 * suc m → k - 8 ≡ 8 * m
    less k m e = omega arith

pub ring_more : (xs : List ℕ) (f n : ℕ) → ring xs f (n + 1) ≡ ring xs f n ++ (get_or xs ((f + n) % 1155) 0 ∷ [])
ring_more xs f n = ap (ring xs f) (add-one n) ∙ ring_snoc xs f n

-- three runs of k elements, one behind the other
pub three_runs : (l : List ℕ) (i k : ℕ) (a b d : List ℕ) → length a ≡ k → length b ≡ k → sets (sets (sets l i a) (i + k) b) (i + (k + k)) d ≡ sets l i (a ++ (b ++ d))
three_runs l i k a b d ea eb =
    ap (λ (z : List ℕ). sets z (i + (k + k)) d) (ap (λ (n : ℕ). sets (sets l i a) (i + n) b) (sym ea) ∙ sets_append l i a b)
    ∙ ap (λ (n : ℕ). sets (sets l i (a ++ b)) (i + n) d) (sym (length-append a b ∙ ap₂ ◌+◌ ea eb))
    ∙ sets_append l i (a ++ b) d
    ∙ ap (sets l i) (append_assoc a b d)

pub bytes_of_runs : (xs : List ℕ) (base p q : ℕ) → bytes_of 48 (runs xs base p q) ≡ bytes_of 16 (ring xs base 128) ++ (bytes_of 16 (ring xs (base + p) 128) ++ bytes_of 16 (ring xs (base + q) 128))
unfolding runs
bytes_of_runs xs base p q =
    bytes_of_append 16 32 (ring xs base 128) (ring xs (base + p) 128 ++ ring xs (base + q) 128) (length_ring xs base 128)
    ∙ ap (λ (l : List ℕ). bytes_of 16 (ring xs base 128) ++ l) (bytes_of_append 16 16 (ring xs (base + p) 128) (ring xs (base + q) 128) (length_ring xs (base + p) 128))
