-- The recorder of two streams refuses too little memory, and nothing is done then.
-- Assumes nothing.
use Rattle.std.proofs.Common.{Option, Result, Ok, Err}
use mathlib.Core.Path.{◌≡◌, refl, sym, ap, ◌∙◌, subst}
use mathlib.Core.Bool.{Bool, true, false, cond, true≢false}
use mathlib.Core.List.{List, [], ◌∷◌}
use Prim.Native.Nat.{ℕ, zero, suc, ◌+◌, ◌≤◌, ◌<◌}
use native.Mathlib.Omega.{arith}
use borrow.Author.Tests.{ltb-true}
use lib.Dec.{ltb}
use lib.ListN.{length}
use lib.Seq.{sets}
use Rattle.bits.specs.declared.Refusal.TheVariants.{FrameRoom}
use Rattle.journal_rules.specs.Gaps.{Framed, pieces_from}
use Rattle.merge_recorder_rules.specs.Steps.{both_of, merge_need, flushed_in, MergeSteppedBy, MergeFlushedBy}
use Rattle.merge_recorder_rules.specs.declared.MergeRecorder.{MergeRecorder}
use Rattle.merge_recorder_rules.specs.declared.MergeStepped.{MergeStepped}
use Rattle.merging_rules.specs.Piles.{Pile, Handed, handed}
use Rattle.merging_rules.specs.Turns.{Both, walk, flushed}
use Rattle.merging_rules.specs.Works.{pile_of, last_written, bytes_of}
use Rattle.recorder_rules.specs.Makings.{Trying, rendered}
use Rattle.sync_rules.specs.State.{Input}
use Rattle.demands.specs.Demand1.{test, first_number, small_memory, number_in_push, Unmerged, MergeStepRefuses}
use Rattle.bits.specs.declared.Refusal.{Refusal}

by_memory : (b : Bool) → number_in_push (cond b (Err FrameRoom) (Ok tt)) ≡ first_number (test 2 b ∷ [])
unfolding first_number
by_memory true = refl
by_memory false = refl

-- a refusal is one for want of memory
small : (b : Bool) (a : Result Unit Refusal) → a ≡ cond b (Err FrameRoom) (Ok tt) → (number_in_push a ≡ 0 → ⊥) → b ≡ true
small true a e h = refl
small false a e h = absurd (h (ap number_in_push e))

no_bytes : (e : Option ℕ) → bytes_of e [] ≡ []
unfolding pieces_from rendered
no_bytes e = refl

module _ (try : Trying) (out : List ℕ) (xs : List Input) (over : Bool) (ys : List Input) (ended : Bool) (r : MergeRecorder) (a : MergeStepped) (out' : List ℕ) (s : MergeSteppedBy try out out' xs over ys ended r a) where
  abbrev made : ℕ → List Framed
  made n = (walk n try xs ys (both_of r)).out

  none_used : length out < merge_need → (n : ℕ) → a.used ≡ n → n ≡ 0
  none_used l zero e = refl
  none_used l (suc n) e = absurd (omega (arith, s.before 0 (omega (arith, e))))

  unmerged : length out < merge_need → Unmerged r out a out'
  unfolding walk last_written
  unmerged l =
      let used = none_used l a.used refl in
      let bytes : bytes_of r.earlier (made a.used) ≡ [] = ap (λ (n : ℕ). bytes_of r.earlier (made n)) used ∙ no_bytes r.earlier in
      record {
        nothing = (used, s.size ∙ ap length bytes);
        state = s.both ∙ ap (λ (n : ℕ). (walk n try xs ys (both_of r)).both) used;
        earlier = s.earlier ∙ ap (λ (n : ℕ). last_written r.earlier (made n)) used;
        lent = s.stored ∙ ap (sets out 0) bytes;
      }

  pub merge_step : MergeStepRefuses r out a out'
  merge_step =
      record {
        exactly = ap number_in_push s.answer ∙ by_memory (ltb (length out) merge_need);
        as_before = λ h. unmerged (ltb-true (length out) merge_need (small (ltb (length out) merge_need) a.answer s.answer h));
      }

module _ (out : List ℕ) (r : MergeRecorder) (a : MergeStepped) (out' : List ℕ) (s : MergeFlushedBy out out' r a) where
  abbrev p : Pile
  p = pile_of r.work

  unflushed : ltb (length out) merge_need ≡ true → Unmerged r out a out'
  unfolding last_written
  unflushed b =
      let nothing : flushed_in (length out) p ≡ handed p [] [] = ap (λ (t : Bool). cond t (handed p [] []) (flushed p)) b in
      let bytes : bytes_of r.earlier (flushed_in (length out) p).out ≡ [] = ap (λ (h : Handed). bytes_of r.earlier h.out) nothing ∙ no_bytes r.earlier in
      record {
        nothing = (s.used, s.size ∙ ap length bytes);
        state = s.both ∙ ap (λ (h : Handed). both h.pile) nothing;
        earlier = s.earlier ∙ ap (λ (h : Handed). last_written r.earlier h.out) nothing;
        lent = s.stored ∙ ap (sets out 0) bytes;
      }
    where
      both : Pile → Both
      both q = record { first = (both_of r).first; second = (both_of r).second; pile = q }

  pub merge_flush : MergeStepRefuses r out a out'
  merge_flush =
      record {
        exactly = ap number_in_push s.answer ∙ by_memory (ltb (length out) merge_need);
        as_before = λ h. unflushed (small (ltb (length out) merge_need) a.answer s.answer h);
      }
