-- What a write answers, from its two tests: what is refused, and what is written.
-- Assumes nothing.
use Rattle.std.proofs.Common.{Result, Ok, Err}
use mathlib.Core.Bool.{Bool, true, false, cond, ◌&&◌}
use mathlib.Core.List.{List}
use mathlib.Core.Path.{◌≡◌, refl, sym, ap, subst}
use Prim.Native.Nat.{ℕ}
use lib.Dec.{eqb}
use lib.ListN.{length}
use Rattle.bits.specs.declared.Refusal.{Refusal}
use Rattle.bits.specs.declared.Refusal.TheVariants.{Size, Record}
use Rattle.journal_rules.specs.declared.Entry.{Entry}
use Rattle.journal_rules.specs.Record.{record_of, size_fits, allowed, write_answer, write_leaves, left_by}
use Rattle.journal_rules.specs.Statements.{RefusedBy}

module _ (size : ℕ) (e : Entry) (envelope room : List ℕ) where
  -- the two tests of a write
  abbrev pub Sized : Bool → Type 0
  Sized b = size_fits e.body (length envelope) ≡ b

  abbrev pub Good : Bool → Type 0
  Good b = (eqb (length room) size && allowed e) ≡ b

  answer_is : (s g : Bool) → Sized s → Good g → write_answer size e envelope room ≡ cond s (cond g (Ok tt) (Err Record)) (Err Size)
  answer_is s g p q = cc

  pub writes_nothing : (x : Refusal) → write_answer size e envelope room ≡ Err x → write_leaves size e envelope room ≡ room
  writes_nothing x q = ap (λ (a : Result Unit Refusal). left_by a (record_of e envelope) room) q

  pub five : Sized false → RefusedBy 5 (write_answer size e envelope room)
  five p = subst (RefusedBy 5) (sym (answer_is false _ p refl)) refl

  pub twelve : Sized true → Good false → RefusedBy 12 (write_answer size e envelope room)
  twelve p q = subst (RefusedBy 12) (sym (answer_is true false p q)) refl

  pub else_written : Sized true → Good true → write_answer size e envelope room ≡ Ok tt
  else_written p q = answer_is true true p q
