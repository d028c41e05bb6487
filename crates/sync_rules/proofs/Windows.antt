-- What a stretch of the stream shows, from any place of it on.
-- Assumes nothing.
use mathlib.Core.Path.{◌≡◌, refl, sym, ap, ◌∙◌}
use mathlib.Core.List.{List, ◌++◌}
use Prim.Native.Nat.{ℕ, ◌+◌, ◌-◌, ◌%◌, ◌≤◌}
use native.Mathlib.Omega.{arith}
use lib.Dec.{eqb}
use lib.ListN.{length, take, drop, length-drop}
use lib.Seq.{drop-drop, take-append-le, drop-append-le, take-add}
use Rattle.coding_markers.specs.Markers.{marker}
use Rattle.sync_rules.specs.Matching.{spell, marker_bits, sixteen, differing, matches, errors, shows, in_place, locks_at}
use Rattle.sync_rules.specs.Frames.{cut}
use Rattle.bits.proofs.Tests.{and_like}
use Rattle.sync_rules.proofs.Tests.{two_like}

-- the w bits of xs from p on and of ys from q on show the same
abbrev pub Alike : ℕ → List ℕ → ℕ → List ℕ → ℕ → Type 0
Alike w xs p ys q = (i a b : ℕ) → a ≡ p + i → b ≡ q + i → i + 16 ≤ w → sixteen xs a ≡ sixteen ys b

pub matches_like : (xs : List ℕ) (p : ℕ) (ys : List ℕ) (q k : ℕ) → sixteen xs p ≡ sixteen ys q → matches xs p k ≡ matches ys q k
unfolding matches
matches_like xs p ys q k e = ap (λ (l : List ℕ). eqb (spell 0 l % 16384) (marker k % 16384)) e

errors_like : (xs : List ℕ) (p : ℕ) (ys : List ℕ) (q k : ℕ) → sixteen xs p ≡ sixteen ys q → errors xs p k ≡ errors ys q k
unfolding errors
errors_like xs p ys q k e = ap (λ (l : List ℕ). differing l (marker_bits k)) e

module _ (xs : List ℕ) (p : ℕ) (ys : List ℕ) (q : ℕ) where
  pub same_matches : Alike 272 xs p ys q → (i a b k : ℕ) → a ≡ p + i → b ≡ q + i → i ≤ 256 → matches xs a k ≡ matches ys b k
  same_matches h i a b k ea eb l = matches_like xs a ys b k (h i a b ea eb (omega arith))

  pub same_errors : Alike 272 xs p ys q → (i a b k : ℕ) → a ≡ p + i → b ≡ q + i → i ≤ 256 → errors xs a k ≡ errors ys b k
  same_errors h i a b k ea eb l = errors_like xs a ys b k (h i a b ea eb (omega arith))

  pub same_shows : Alike 272 xs p ys q → shows xs p ≡ shows ys q
  unfolding shows
  same_shows h =
      two_like _ _ _ _ _ _ (same_matches h 0 p q 0 (omega arith) (omega arith) (omega arith))
      (same_matches h 128 (p + 128) (q + 128) 1 refl refl (omega arith)) (same_matches h 256 (p + 256) (q + 256) 2 refl refl (omega arith))

  pub same_in_place : Alike 272 xs p ys q → in_place xs p ≡ in_place ys q
  unfolding in_place
  same_in_place h =
      and_like _ _ _ _ _ _ (same_matches h 0 p q 0 (omega arith) (omega arith) (omega arith))
      (same_matches h 128 (p + 128) (q + 128) 1 refl refl (omega arith)) (same_matches h 256 (p + 256) (q + 256) 2 refl refl (omega arith))

pub same_locks : (xs : List ℕ) (p : ℕ) (ys : List ℕ) (q : ℕ) → Alike 1152 xs p ys q → locks_at xs p ≡ locks_at ys q
unfolding locks_at
same_locks xs p ys q h =
    and_like _ _ _ _ _ _ (same_shows xs p ys q (λ i a b ea eb l. h i a b ea eb (omega arith)))
    (same_shows xs (p + 384) ys (q + 384) (λ i a b ea eb l. h (384 + i) a b (omega arith) (omega arith) (omega arith)))
    (same_shows xs (p + 768) ys (q + 768) (λ i a b ea eb l. h (768 + i) a b (omega arith) (omega arith) (omega arith)))

-- w bits that have arrived: the stream from a on shows them at p, and the whole stream, with what comes later, at a + p
pub seen : (H X : List ℕ) (w a p b : ℕ) → b ≡ a + p → b + w ≤ length H → Alike w (drop a H) p (H ++ X) b
unfolding sixteen
seen H X w a p b e l i c d ec ed h =
    let n : a + c ≡ d = omega arith in
    let f : d ≤ length H = omega arith in
    let g : 16 ≤ length (drop d H) = omega (arith, length-drop d H) in
    ap (take 16) (drop-drop c a H) ∙ ap (λ (k : ℕ). take 16 (drop k H)) n ∙ sym (ap (take 16) (drop-append-le d H X f) ∙ take-append-le 16 (drop d H) X g)

pub cut_whole : (xs : List ℕ) → cut xs 128 256 ≡ take 384 xs
unfolding cut
cut_whole xs =
    ap (λ (l : List ℕ). take 128 xs ++ (take 128 (drop 128 xs) ++ take 128 l)) (sym (drop-drop 128 128 xs))
    ∙ ap (λ (l : List ℕ). take 128 xs ++ l) (sym (take-add 128 128 (drop 128 xs)))
    ∙ sym (take-add 128 256 xs)

pub take_arrived : (H X : List ℕ) (a n : ℕ) → a + n ≤ length H → take n (drop a H) ≡ take n (drop a (H ++ X))
take_arrived H X a n l =
    let f : a ≤ length H = omega arith in
    let g : n ≤ length (drop a H) = omega (arith, length-drop a H) in
    sym (ap (take n) (drop-append-le a H X f) ∙ take-append-le n (drop a H) X g)
