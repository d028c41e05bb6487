-- What a push and a feed hand back.
-- Assumes nothing.
use Rattle.std.proofs.Common.{Result}
use mathlib.Core.Path.{◌≡◌, sym, subst}
use mathlib.Core.List.{List}
use Prim.Native.Nat.{ℕ}
use lib.ListN.{length}
use Rattle.sync.specs.declared.Pushed.{Pushed}
use Rattle.sync.specs.declared.Synchroniser.{Synchroniser}
use Rattle.sync.specs.View.{view, ValidSynchroniser}
use Rattle.sync.specs.Answers.{PushedBy, handed_of}
use Rattle.sync_rules.specs.State.{Input}
use Rattle.sync_numbers.specs.declared.numbers.Numbers.{Numbers}
use Rattle.sync_frames.specs.declared.frames.Drained.{Drained}
use Rattle.sync_numbers.specs.View.{Steady, Few, Rings}
use Rattle.sync_frames.specs.Frames.{DrainedBy}
use Rattle.sync_inputs.specs.Answers.{answer_to, push_of}
use Rattle.sync_steps.proofs.Answering.{PushedInto}
use Rattle.bits.specs.declared.Refusal.{Refusal}

-- ---- a synchroniser lends its rings
module _ (s : Synchroniser) (v : ValidSynchroniser s) (long : length s.bits ≡ 1155) (as_long : length s.reliabilities ≡ 1155) where
  pub lends : Steady s.numbers × (Few s.numbers × Rings s.bits s.reliabilities)
  lends = (v.steady, (v.few, record { long = long; as_long = as_long; binary = v.binary }))

-- ---- what it hands back

make : List ℕ → List ℕ → Numbers → Synchroniser
make b r n = record { bits = b; reliabilities = r; numbers = n }

make_same : (b b' r r' : List ℕ) (n n' : Numbers) → b ≡ b' → r ≡ r' → n ≡ n' → make b r n ≡ make b' r' n'
make_same b b' r r' n n' p q t = cc

same_parts : (s : Synchroniser) (b r : List ℕ) (n : Numbers) → b ≡ s.bits → r ≡ s.reliabilities → n ≡ s.numbers → record { bits = b; reliabilities = r; numbers = n } ≡ s
unfolding make
same_parts s b r n p q t = make_same b s.bits r s.reliabilities n s.numbers p q t

module _ (s : Synchroniser) (bits reliabilities room room' : List ℕ) (numbers : Numbers) (x : Input) (a : Result Unit Refusal) (d : Drained) (i : PushedInto s.bits s.reliabilities bits reliabilities room room' s.numbers x a d) where
  abbrev with_numbers : Numbers → Pushed
  with_numbers n = handed_of a d (record { bits = bits; reliabilities = reliabilities; numbers = n })

  D : DrainedBy bits reliabilities room room' 0 3 (push_of (answer_to (length room) x (view s)) x (view s)) d.numbers d.count d.heads
  D = subst (λ (b : Result Unit Refusal). DrainedBy bits reliabilities room room' 0 3 (push_of b x (view s)) d.numbers d.count d.heads) i.answer i.drained

  by_parts : PushedBy room room' s x (with_numbers d.numbers)
  by_parts =
      record {
        answer = i.answer;
        valid = record { steady = D.steady; binary = i.rings.binary; few = D.few };
        next = D.next;
        many = D.many;
        figures = D.figures;
        stored = D.stored;
        kept = λ z. let k = i.kept z in same_parts s bits reliabilities d.numbers k.0 k.1 k.2;
      }

  pub handed_by : numbers ≡ d.numbers → (p : Pushed) → p ≡ with_numbers numbers → PushedBy room room' s x p
  handed_by en p e =
      subst (λ (q : Pushed). PushedBy room room' s x q) (sym e)
      (subst (λ (n : Numbers). PushedBy room room' s x (with_numbers n)) (sym en) by_parts)
