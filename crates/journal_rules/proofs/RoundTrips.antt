-- One meaning has one record: what is written reads back, and what reads is what would be written. Theorems about the definitions alone.
-- Assumes nothing.
use Rattle.std.proofs.Common.{Result, Ok, Err}
use mathlib.Core.Bool.{Bool, true, false, cond, ◌&&◌}
use mathlib.Core.List.{List, [], ◌∷◌, ◌++◌}
use mathlib.Core.Path.{◌≡◌, refl, sym, ap, ap₂, ◌∙◌, subst}
use Prim.Native.Nat.{ℕ, zero, suc, ◌+◌, ◌^◌, ◌<◌, ◌≤◌}
use native.Mathlib.Numerals.{add-one}
use native.Mathlib.Omega.{arith}
use lib.Dec.{leb, eqb}
use lib.ListN.{length, take, drop, get_or, replicate, length-drop, take-append-drop}
use lib.Seq.{drop-cons, drop-drop, take_all, length-take-le}
use borrow.Author.Tests.{eq-eqb, ne_eqb, eqb-true, leb-true}
use Rattle.bits.specs.Bit.{Bytes}
use Rattle.bits.specs.BigEndian.{big_endian, value_of}
use Rattle.bits.specs.Refusals.{number_of}
use Rattle.bits.specs.declared.Refusal.{Refusal}
use Rattle.bits.specs.declared.Refusal.TheVariants.{Record}
use Rattle.bits.proofs.Ands.{both_true}
use Rattle.bits.proofs.Belows.{below_take, below_drop}
use Rattle.bits.proofs.BigEndians.{value_big, big_value}
use Rattle.journal_rules.specs.declared.Outcome.{Outcome}
use Rattle.journal_rules.specs.declared.Outcome.TheVariants.{Untried, Accepted, Refused as RefusedFrame}
use Rattle.journal_rules.specs.declared.Figures.{Figures}
use Rattle.journal_rules.specs.declared.Body.{Body}
use Rattle.journal_rules.specs.declared.Body.TheVariants.{Frame, Gap}
use Rattle.journal_rules.specs.declared.Entry.{Entry}
use Rattle.journal_rules.specs.Record.{bit_of, outcome_number, size_fits, allowed, may_correct, record_of, entry_at}
use Rattle.journal_rules.specs.Reading.{outcome_at, all_zero, offset_in, length_in, figures_in, is_gap, is_frame, read_gap, read_frame, read_of, envelope_in}
use Rattle.journal_rules.specs.Statements.{UnreadBy}
use Rattle.journal_rules.proofs.Zeros.{zero_is}
use Rattle.journal_rules.proofs.Readings.{unread, gap_in, frame_in, read_by, frame_yes}

-- ---- what is written reads back

gap_back : (o n : ℕ) (envelope : List ℕ) → allowed (entry_at o (Gap n)) ≡ true → read_of 64 (record_of (entry_at o (Gap n)) envelope) ≡ Ok (entry_at o (Gap n))
unfolding big_endian
gap_back o n envelope h =
    let tests = both_true (leb 1 n) (leb (o + n) (2 ^ 42)) h in
    let ends : o + n ≤ 2 ^ 42 = leb-true (o + n) (2 ^ 42) tests.1 in
    let first : value_of (big_endian 8 o) ≡ o = value_big 8 o (omega arith) in
    let second : value_of (big_endian 8 n) ≡ n = value_big 8 n (omega arith) in
    ap₂ (λ (x y : ℕ). cond (allowed (entry_at x (Gap y))) (Ok (entry_at x (Gap y))) unread) first second
    ∙ ap (λ (b : Bool). cond b (Ok (entry_at o (Gap n))) unread) h

bit_back : (b : Bool) → eqb (bit_of b) 1 ≡ b
bit_back true = refl
bit_back false = refl

bit_le : (b : Bool) → bit_of b ≤ 1
bit_le true = omega arith
bit_le false = omega arith

outcome_back : (x : Outcome) → outcome_at (outcome_number x) ≡ x
outcome_back Untried = refl
outcome_back Accepted = refl
outcome_back RefusedFrame = refl

outcome_le : (x : Outcome) → outcome_number x ≤ 2
outcome_le Untried = omega arith
outcome_le Accepted = omega arith
outcome_le RefusedFrame = omega arith

frame_back : (o : ℕ) (f : Figures) (envelope : List ℕ) → length envelope ≡ 48 → allowed (entry_at o (Frame f)) ≡ true
    → read_of 64 (record_of (entry_at o (Frame f)) envelope) ≡ Ok (entry_at o (Frame f))
unfolding big_endian
frame_back o f envelope l h =
    let r : List ℕ = record_of (entry_at o (Frame f)) envelope in
    let ends : leb (o + 384) (2 ^ 42) ≡ true = (both_true (leb f.errors 48 && may_correct f.outcome f.corrected) (leb (o + 384) (2 ^ 42)) h).1 in
    let far : o + 384 ≤ 2 ^ 42 = leb-true (o + 384) (2 ^ 42) ends in
    let first : offset_in r ≡ o = value_big 8 o (omega arith) in
    let made : Bool → Outcome → Figures = λ m x. record { matched = m; errors = f.errors; outcome = x; corrected = f.corrected } in
    let all : figures_in r ≡ f = ap₂ made (bit_back f.matched) (outcome_back f.outcome) in
    let good : allowed (frame_in r) ≡ true = ap₂ (λ (x : ℕ) (g : Figures). allowed (entry_at x (Frame g))) first all ∙ h in
    sym (read_by 64 r true true false (eq-eqb (length r) 64 (omega arith)) refl refl)
    ∙ sym (frame_yes r (bit_le f.matched) (outcome_le f.outcome) refl good)
    ∙ ap₂ (λ (x : ℕ) (g : Figures). Ok (entry_at x (Frame g))) first all

pub written_reads : (e : Entry) (envelope : List ℕ) → size_fits e.body (length envelope) ≡ true → allowed e ≡ true
    → read_of 64 (record_of e envelope) ≡ Ok e
written_reads e envelope = go e.offset e.body
  where
    go : (o : ℕ) (b : Body) → size_fits b (length envelope) ≡ true → allowed (entry_at o b) ≡ true → read_of 64 (record_of (entry_at o b) envelope) ≡ Ok (entry_at o b)
    go o (Frame f) s h = frame_back o f envelope (eqb-true (length envelope) 48 s) h
    go o (Gap n) s h = gap_back o n envelope h

-- ---- what reads is what would be written

-- k bytes of a record, as a number and back
number_back : (r : List ℕ) (at k : ℕ) → Bytes r → at + k ≤ length r → big_endian k (value_of (take k (drop at r))) ≡ take k (drop at r)
number_back r at k h l =
    big_value (take k (drop at r)) k (length-take-le k (drop at r) (simp length-drop (omega arith))) (below_take k (drop at r) (below_drop at r h))

-- zeros
zeros_at : (r : List ℕ) (at k : ℕ) → at + k ≤ length r → all_zero (take k (drop at r)) ≡ true → take k (drop at r) ≡ replicate k 0
zeros_at r at k l z =
    zero_is (take k (drop at r)) z ∙ ap (λ (n : ℕ). replicate n 0) (length-take-le k (drop at r) (simp length-drop (omega arith)))

part : (r : List ℕ) (at k : ℕ) → drop at r ≡ take k (drop at r) ++ drop (at + k) r
part r at k = sym (take-append-drop k (drop at r)) ∙ ap (λ (l : List ℕ). take k (drop at r) ++ l) (drop-drop k at r)

one : (r : List ℕ) (at x : ℕ) → at < length r → get_or r at 0 ≡ x → drop at r ≡ x ∷ drop (at + 1) r
one r at x h e = drop-cons r at 0 h ∙ ap₂ (λ (y : ℕ) (n : ℕ). y ∷ drop n r) e (sym (add-one at))

bit_of_lem : (x : ℕ) → x ≤ 1 → x ≡ bit_of (eqb x 1)
bit_of_lem zero h = refl
bit_of_lem (suc zero) h = refl
bit_of_lem (suc (suc x)) h = absurd (omega arith)

outcome_of : (x : ℕ) → x ≤ 2 → x ≡ outcome_number (outcome_at x)
outcome_of zero h = refl
outcome_of (suc zero) h = refl
outcome_of (suc (suc zero)) h = refl
outcome_of (suc (suc (suc x))) h = absurd (omega arith)

module _ (r : List ℕ) (h : Bytes r) (l : length r ≡ 64) where
  gap_is : (envelope : List ℕ) → get_or r 8 0 ≡ 1 → is_gap r ≡ true → r ≡ record_of (gap_in r) envelope
  gap_is envelope k g =
      let t = both_true (all_zero (take 7 (drop 9 r)) && all_zero (take 40 (drop 24 r))) (allowed (gap_in r)) g in
      let z = both_true (all_zero (take 7 (drop 9 r))) (all_zero (take 40 (drop 24 r))) t.0 in
      let last : drop 24 r ≡ replicate 40 0 = sym (take_all 40 (drop 24 r) (simp length-drop (omega arith))) ∙ zeros_at r 24 40 (omega arith) z.1 in
      let len : drop 16 r ≡ big_endian 8 (length_in r) ++ replicate 40 0 = part r 16 8 ∙ ap₂ ◌++◌ (sym (number_back r 16 8 h (omega arith))) last in
      let mid : drop 9 r ≡ replicate 7 0 ++ drop 16 r = part r 9 7 ∙ ap (λ (x : List ℕ). x ++ drop 16 r) (zeros_at r 9 7 (omega arith) z.0) in
      part r 0 8 ∙ ap₂ ◌++◌ (sym (number_back r 0 8 h (omega arith))) (one r 8 1 (omega arith) k ∙ ap (λ (x : List ℕ). 1 ∷ x) (mid ∙ ap (λ (x : List ℕ). replicate 7 0 ++ x) len))

  frame_is : get_or r 8 0 ≡ 0 → is_frame r ≡ true → r ≡ record_of (frame_in r) (drop 16 r)
  frame_is k g =
      let t = both_true (leb (get_or r 9 0) 1 && leb (get_or r 11 0) 2 && all_zero (take 3 (drop 13 r))) (allowed (frame_in r)) g in
      let z = both_true (leb (get_or r 9 0) 1 && leb (get_or r 11 0) 2) (all_zero (take 3 (drop 13 r))) t.0 in
      let s = both_true (leb (get_or r 9 0) 1) (leb (get_or r 11 0) 2) z.0 in
      let m : get_or r 9 0 ≡ bit_of (eqb (get_or r 9 0) 1) = bit_of_lem (get_or r 9 0) (leb-true (get_or r 9 0) 1 s.0) in
      let x : get_or r 11 0 ≡ outcome_number (outcome_at (get_or r 11 0)) = outcome_of (get_or r 11 0) (leb-true (get_or r 11 0) 2 s.1) in
      let e₁₃ : drop 13 r ≡ replicate 3 0 ++ drop 16 r = part r 13 3 ∙ ap (λ (y : List ℕ). y ++ drop 16 r) (zeros_at r 13 3 (omega arith) z.1) in
      let e₁₂ : drop 12 r ≡ get_or r 12 0 ∷ (replicate 3 0 ++ drop 16 r) = one r 12 (get_or r 12 0) (omega arith) refl ∙ ap (λ (y : List ℕ). get_or r 12 0 ∷ y) e₁₃ in
      let e₁₁ : drop 11 r ≡ outcome_number (outcome_at (get_or r 11 0)) ∷ get_or r 12 0 ∷ (replicate 3 0 ++ drop 16 r) = one r 11 (outcome_number (outcome_at (get_or r 11 0))) (omega arith) x ∙ ap (λ (y : List ℕ). outcome_number (outcome_at (get_or r 11 0)) ∷ y) e₁₂ in
      let e₁₀ : drop 10 r ≡ get_or r 10 0 ∷ outcome_number (outcome_at (get_or r 11 0)) ∷ get_or r 12 0 ∷ (replicate 3 0 ++ drop 16 r) = one r 10 (get_or r 10 0) (omega arith) refl ∙ ap (λ (y : List ℕ). get_or r 10 0 ∷ y) e₁₁ in
      let e₉ : drop 9 r ≡ bit_of (eqb (get_or r 9 0) 1) ∷ get_or r 10 0 ∷ outcome_number (outcome_at (get_or r 11 0)) ∷ get_or r 12 0 ∷ (replicate 3 0 ++ drop 16 r) = one r 9 (bit_of (eqb (get_or r 9 0) 1)) (omega arith) m ∙ ap (λ (y : List ℕ). bit_of (eqb (get_or r 9 0) 1) ∷ y) e₁₀ in
      part r 0 8 ∙ ap₂ ◌++◌ (sym (number_back r 0 8 h (omega arith))) (one r 8 0 (omega arith) k ∙ ap (λ (y : List ℕ). 0 ∷ y) e₉)

-- what a record that says an entry is: a frame's, or a gap's
data Says (r : List ℕ) (e : Entry) : Type 0 where
  frame : length r ≡ 64 → get_or r 8 0 ≡ 0 → is_frame r ≡ true → frame_in r ≡ e → Says r e
  gap : length r ≡ 64 → get_or r 8 0 ≡ 1 → is_gap r ≡ true → gap_in r ≡ e → Says r e

held : (a b : Entry) → ◌≡◌ {A = Result Entry Refusal} (Ok a) (Ok b) → a ≡ b
held a b e = cc

never : (e : Entry) → unread ≡ Ok e → ⊥
never e p = let z : ◌≡◌ {A = ℕ} 0 1 = cc in omega arith

says : (r : List ℕ) (e : Entry) → read_of 64 r ≡ Ok e → Says r e
says r e = go (eqb (length r) 64) (eqb (get_or r 8 0) 0) (eqb (get_or r 8 0) 1) refl refl refl
  where
    by_frame : length r ≡ 64 → get_or r 8 0 ≡ 0 → (g : Bool) → is_frame r ≡ g → cond g (Ok (frame_in r)) unread ≡ Ok e → Says r e
    by_frame l k true g q = frame l k g (held (frame_in r) e q)
    by_frame l k false g q = absurd (never e q)

    by_gap : length r ≡ 64 → get_or r 8 0 ≡ 1 → (g : Bool) → is_gap r ≡ g → cond g (Ok (gap_in r)) unread ≡ Ok e → Says r e
    by_gap l k true g q = gap l k g (held (gap_in r) e q)
    by_gap l k false g q = absurd (never e q)

    go : (s k g : Bool) → eqb (length r) 64 ≡ s → eqb (get_or r 8 0) 0 ≡ k → eqb (get_or r 8 0) 1 ≡ g → cond s (cond k (read_frame r) (cond g (read_gap r) unread)) unread ≡ Ok e → Says r e
    go true true g p q t m = by_frame (eqb-true (length r) 64 p) (eqb-true (get_or r 8 0) 0 q) (is_frame r) refl m
    go true false true p q t m = by_gap (eqb-true (length r) 64 p) (eqb-true (get_or r 8 0) 1 t) (is_gap r) refl m
    go true false false p q t m = absurd (never e m)
    go false k g p q t m = absurd (never e m)

pub read_written : (r : List ℕ) → Bytes r → (e : Entry) → read_of 64 r ≡ Ok e → r ≡ record_of e (envelope_in e.body r)
read_written r h e q = go (says r e q)
  where
    go : Says r e → r ≡ record_of e (envelope_in e.body r)
    go (frame l k t p) =
        subst (λ (x : Entry). r ≡ record_of x (envelope_in x.body r)) p
        (frame_is r h l k t ∙ ap (record_of (frame_in r)) (sym (take_all 48 (drop 16 r) (simp length-drop (omega arith)))))
    go (gap l k t p) = subst (λ (x : Entry). r ≡ record_of x (envelope_in x.body r)) p (gap_is r h l [] k t)

pub read_allowed : (r : List ℕ) (e : Entry) → read_of 64 r ≡ Ok e → allowed e ≡ true
read_allowed r e q = go (says r e q)
  where
    go : Says r e → allowed e ≡ true
    go (frame l k t p) = subst (λ (x : Entry). allowed x ≡ true) p (both_true (leb (get_or r 9 0) 1 && leb (get_or r 11 0) 2 && all_zero (take 3 (drop 13 r))) (allowed (frame_in r)) t).1
    go (gap l k t p) = subst (λ (x : Entry). allowed x ≡ true) p (both_true (all_zero (take 7 (drop 9 r)) && all_zero (take 40 (drop 24 r))) (allowed (gap_in r)) t).1

pub one_record : (r s : List ℕ) → Bytes r → Bytes s → (e : Entry) → read_of 64 r ≡ Ok e → read_of 64 s ≡ Ok e
    → envelope_in e.body r ≡ envelope_in e.body s → r ≡ s
one_record r s hr hs e p q v = read_written r hr e p ∙ ap (record_of e) v ∙ sym (read_written s hs e q)

pub envelope_lies : (o : ℕ) (f : Figures) (envelope : List ℕ) → length envelope ≡ 48 → envelope_in (Frame f) (record_of (entry_at o (Frame f)) envelope) ≡ envelope
unfolding big_endian
envelope_lies o f envelope l = take_all 48 envelope (omega arith)

-- ---- what is not read

pub unread_twelve : (size : ℕ) (r : List ℕ) → (length r ≡ size → ⊥) → UnreadBy 12 (read_of size r)
unread_twelve size r n = subst (UnreadBy 12) (read_by size r false _ _ (ne_eqb (length r) size n) refl refl) refl

pub only_twelve : (size : ℕ) (r : List ℕ) (x : Refusal) → read_of size r ≡ Err x → number_of x ≡ 12
only_twelve size r x = go (eqb (length r) size) (eqb (get_or r 8 0) 0) (eqb (get_or r 8 0) 1)
  where
    known : unread ≡ Err x → number_of x ≡ 12
    known p = let e : Record ≡ x = cc in ap number_of (sym e)

    held_not : (e : Entry) → Ok e ≡ Err x → number_of x ≡ 12
    held_not e p = let z : ◌≡◌ {A = ℕ} 0 1 = cc in absurd (omega arith)

    by : (g : Bool) (e : Entry) → cond g (Ok e) unread ≡ Err x → number_of x ≡ 12
    by true e p = held_not e p
    by false e p = known p

    go : (s k g : Bool) → cond s (cond k (read_frame r) (cond g (read_gap r) unread)) unread ≡ Err x → number_of x ≡ 12
    go true true g p = by (is_frame r) (frame_in r) p
    go true false true p = by (is_gap r) (gap_in r) p
    go true false false p = known p
    go false k g p = known p
