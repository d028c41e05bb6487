-- A record of another length reads as refused by 12, and is shown so.
-- Assumes nothing.
use Rattle.std.proofs.Common.{Result, Err}
use mathlib.Core.List.{List}
use mathlib.Core.Path.{◌≡◌, ap}
use Prim.Native.Nat.{ℕ}
use lib.ListN.{length}
use Rattle.bits.proofs.Conds.{cond_ne}
use Rattle.bits.specs.declared.Refusal.TheVariants.{Record}
use Rattle.journal_rules.specs.Reading.{say_of}
use Rattle.lines_rules.specs.Entries.{shown_as, shown_record}
use Rattle.lines_rules.specs.Statements.{refused_as}
use Rattle.lines_rules.proofs.cut_records.Goals as goal
use Rattle.bits.specs.declared.Refusal.{Refusal}
use Rattle.journal_rules.specs.declared.Entry.{Entry}

twelve : (bytes : List ℕ) (number : ℕ) → (length bytes ≡ 64 → ⊥) → shown_record bytes number ≡ refused_as 12 number
twelve bytes number n = ap (λ (x : Result Entry Refusal). shown_as x number) (cond_ne (length bytes) 64 (say_of bytes) (Err Record) n)

pub returns : goal.returns
returns c = record { twelve = twelve }
