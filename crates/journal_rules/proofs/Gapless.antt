-- The journal of a list of frames leaves no break.
-- Assumes nothing.
use Rattle.std.proofs.Common.{Some}
use mathlib.Core.Bool.{Bool, true, false, cond, ◌&&◌, and-false}
use mathlib.Core.List.{List, [], ◌∷◌, ◌++◌}
use mathlib.Core.Path.{◌≡◌, refl, ap, ap₂, ◌∙◌}
use Prim.Native.Nat.{ℕ, ◌+◌, ◌-◌, ◌^◌, ◌<◌, ◌≤◌}
use native.Mathlib.Nat.{le_refl, zero-add}
use native.Mathlib.Omega.{arith}
use lib.Dec.{ltb, leb}
use borrow.Author.Tests.{ltb-true, ltb-false, le-ltb, le-leb, lt-leb}
use Rattle.journal_rules.specs.declared.Body.TheVariants.{Frame}
use Rattle.journal_rules.specs.Record.{end_of, fair, allowed}
use Rattle.journal_rules.specs.Gaps.{Framed, Piece, piece_of, gap_after, gap_to, gap_pieces, pieces_from, pieces_of, pieces_alone, frames_in, covering, Spaced, Follow, last_of, AllFair, AllAllowed}

-- ---- by the one test of a gap

module _ (P : List Piece → Type 0) (o next : ℕ) (rest : List Piece) where
  gap_cases : (o + 384 < next → P (record { entry = gap_after o next; envelope = [] } ∷ rest)) → (next ≤ o + 384 → P rest)
      → P (gap_pieces (gap_to (Some o) next) ++ rest)
  gap_cases yes-gap no_gap = go (ltb (o + 384) next) refl
    where
      go : (t : Bool) → ltb (o + 384) next ≡ t → P (gap_pieces (gap_to (Some o) next) ++ rest)
      go true e = rw e (yes-gap (ltb-true (o + 384) next e))
      go false e = rw e (no_gap (ltb-false (o + 384) next e))

-- ---- each starts where the one before it ends

follow_from : (o : ℕ) (fs : List Framed) → Spaced o fs → Follow (o + 384) (pieces_from (Some o) fs)
unfolding pieces_from
follow_from o [] s = tt
follow_from o (f ∷ fs) s =
    gap_cases (Follow (o + 384)) o f.place (piece_of f ∷ pieces_from (Some f.place) fs)
    (λ h. (refl, (omega arith, follow_from f.place fs s.1)))
    (λ h. (omega arith, follow_from f.place fs s.1))

pub follows : (f : Framed) (fs : List Framed) → Spaced f.place fs → Follow f.place (pieces_of (f ∷ fs))
unfolding pieces_from
follows f fs s = (refl, follow_from f.place fs s)

-- ---- entries that follow each other cover each bit once

-- where the last of the entries ends
abbrev end_after : ℕ → List Piece → ℕ
end_after start [] = start
end_after start (p ∷ ps) = end_after (end_of p.entry) ps

end_ge : (start : ℕ) (ps : List Piece) → Follow start ps → start ≤ end_after start ps
end_ge start [] h = le_refl start
end_ge start (p ∷ ps) h = omega (arith, h.0, end_ge (end_of p.entry) ps h.1)

cover_before : (start x : ℕ) (ps : List Piece) → Follow start ps → x < start → covering x ps ≡ 0
unfolding covering
cover_before start x [] h l = refl
cover_before start x (p ∷ ps) h l =
    let e : leb p.entry.offset x ≡ false = lt-leb p.entry.offset x (omega (arith, h.0)) in
    rw e (zero-add (covering x ps) ∙ cover_before (end_of p.entry) x ps h.1 (omega (arith, h.0)))

cover_after : (start x : ℕ) (ps : List Piece) → Follow start ps → end_after start ps ≤ x → covering x ps ≡ 0
unfolding covering
cover_after start x [] h l = refl
cover_after start x (p ∷ ps) h l =
    let e : ltb x (end_of p.entry) ≡ false = le-ltb x (end_of p.entry) (omega (arith, end_ge (end_of p.entry) ps h.1)) in
    simp (e, and-false) (zero-add (covering x ps) ∙ cover_after (end_of p.entry) x ps h.1 l)

-- a bit from an entry's offset on: in it, or in one of those that follow
cover_cons : (x : ℕ) (p : Piece) (ps : List Piece) → p.entry.offset ≤ x → (x < end_of p.entry → covering x ps ≡ 0) → (end_of p.entry ≤ x → covering x ps ≡ 1)
    → covering x (p ∷ ps) ≡ 1
unfolding covering
cover_cons x p ps k here later = go (ltb x (end_of p.entry)) refl
  where
    first : leb p.entry.offset x ≡ true
    first = le-leb p.entry.offset x k

    go : (t : Bool) → ltb x (end_of p.entry) ≡ t → cond (leb p.entry.offset x && ltb x (end_of p.entry)) 1 0 + covering x ps ≡ 1
    go true e = rw (first, e, here (ltb-true x (end_of p.entry) e))
    go false e = rw (first, e) (zero-add (covering x ps) ∙ later (ltb-false x (end_of p.entry) e))

cover_once : (start x : ℕ) (ps : List Piece) → Follow start ps → start ≤ x → x < end_after start ps → covering x ps ≡ 1
unfolding covering
cover_once start x [] h k l = absurd (omega arith)
cover_once start x (p ∷ ps) h k l =
    cover_cons x p ps (omega (arith, h.0)) (λ g. cover_before (end_of p.entry) x ps h.1 g) (λ g. cover_once (end_of p.entry) x ps h.1 g l)

end_from : (o : ℕ) (fs : List Framed) → Spaced o fs → end_after (o + 384) (pieces_from (Some o) fs) ≡ last_of o fs + 384
unfolding pieces_from
end_from o [] s = refl
end_from o (f ∷ fs) s =
    gap_cases (λ (ps : List Piece). end_after (o + 384) ps ≡ last_of f.place fs + 384) o f.place (piece_of f ∷ pieces_from (Some f.place) fs)
    (λ h. end_from f.place fs s.1)
    (λ h. end_from f.place fs s.1)

end_of_lem : (f : Framed) (fs : List Framed) → Spaced f.place fs → end_after f.place (pieces_of (f ∷ fs)) ≡ last_of f.place fs + 384
unfolding pieces_from
end_of_lem f fs s = end_from f.place fs s

module _ (f : Framed) (fs : List Framed) (s : Spaced f.place fs) (x : ℕ) where
  pub once : f.place ≤ x → x < last_of f.place fs + 384 → covering x (pieces_of (f ∷ fs)) ≡ 1
  once k l = cover_once f.place x (pieces_of (f ∷ fs)) (follows f fs s) k (omega (arith, end_of_lem f fs s))

  pub none_before : x < f.place → covering x (pieces_of (f ∷ fs)) ≡ 0
  none_before l = cover_before f.place x (pieces_of (f ∷ fs)) (follows f fs s) l

  pub none_after : last_of f.place fs + 384 ≤ x → covering x (pieces_of (f ∷ fs)) ≡ 0
  none_after l = cover_after f.place x (pieces_of (f ∷ fs)) (follows f fs s) (omega (arith, end_of_lem f fs s))

-- ---- the frames stand in it unchanged

unchanged_from : (o : ℕ) (fs : List Framed) → frames_in (pieces_from (Some o) fs) ≡ pieces_alone fs
unfolding pieces_from frames_in pieces_alone
unchanged_from o [] = refl
unchanged_from o (f ∷ fs) =
    gap_cases (λ (ps : List Piece). frames_in ps ≡ piece_of f ∷ pieces_alone fs) o f.place (piece_of f ∷ pieces_from (Some f.place) fs)
    (λ h. ap (λ (ps : List Piece). piece_of f ∷ ps) (unchanged_from f.place fs))
    (λ h. ap (λ (ps : List Piece). piece_of f ∷ ps) (unchanged_from f.place fs))

pub unchanged : (fs : List Framed) → frames_in (pieces_of fs) ≡ pieces_alone fs
unfolding pieces_from frames_in pieces_alone
unchanged [] = refl
unchanged (f ∷ fs) = ap (λ (ps : List Piece). piece_of f ∷ ps) (unchanged_from f.place fs)

-- ---- every entry may be written

last_ge : (o : ℕ) (fs : List Framed) → Spaced o fs → o ≤ last_of o fs
last_ge o [] s = le_refl o
last_ge o (f ∷ fs) s = omega (arith, s.0, last_ge f.place fs s.1)

frame_allowed : (f : Framed) → fair (Frame f.figures) ≡ true → f.place + 384 ≤ 2 ^ 42 → allowed (piece_of f).entry ≡ true
frame_allowed f h l = ap₂ ◌&&◌ h (le-leb (f.place + 384) (2 ^ 42) l)

writable_from : (o : ℕ) (fs : List Framed) → Spaced o fs → AllFair fs → last_of o fs + 384 ≤ 2 ^ 42 → AllAllowed (pieces_from (Some o) fs)
unfolding pieces_from
writable_from o [] s g l = tt
writable_from o (f ∷ fs) s g l =
    let top : f.place ≤ last_of f.place fs = last_ge f.place fs s.1 in
    let rest : AllAllowed (piece_of f ∷ pieces_from (Some f.place) fs) = (frame_allowed f g.0 (omega arith), writable_from f.place fs s.1 g.1 l) in
    gap_cases AllAllowed o f.place (piece_of f ∷ pieces_from (Some f.place) fs)
    (λ h. (ap₂ ◌&&◌ (le-leb 1 (f.place - (o + 384)) (omega arith)) (le-leb (o + 384 + (f.place - (o + 384))) (2 ^ 42) (omega arith)), rest))
    (λ h. rest)

pub writable : (f : Framed) (fs : List Framed) → Spaced f.place fs → AllFair (f ∷ fs) → last_of f.place fs + 384 ≤ 2 ^ 42 → AllAllowed (pieces_of (f ∷ fs))
unfolding pieces_from
writable f fs s g l =
    let top : f.place ≤ last_of f.place fs = last_ge f.place fs s in
    (frame_allowed f g.0 (omega arith), writable_from f.place fs s g.1 l)
