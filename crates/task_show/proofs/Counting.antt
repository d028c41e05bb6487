-- The counts of records: frames and gaps are records, and one record more is one more at most.
-- Assumes nothing.
use mathlib.Core.Path.{◌≡◌, refl, sym, ap, ◌∙◌, subst}
use mathlib.Core.List.{List, [], ◌∷◌}
use Prim.Native.Nat.{ℕ, ◌+◌, ◌≤◌}
use native.Mathlib.Omega.{arith}
use Rattle.lines_rules.specs.Entries.{shown_record}
use Rattle.lines_rules.specs.declared.What.{What}
use Rattle.lines_rules.specs.declared.What.TheVariants.{AFrame, AGap, NoRecord}
use Rattle.task_show.specs.Tallies.{counted_as, none_printed, printed_for, Counts}
use Rattle.task_show.specs.declared.Printed.{Printed}

Sums : Printed → Type 0
Sums p = p.records ≡ p.frames + p.gaps

counted_sums : (w : What) (p : Printed) → Sums p → Sums (counted_as w p)
unfolding Sums
counted_sums AFrame p e = omega arith
counted_sums AGap p e = omega arith
counted_sums NoRecord p e = e

sums : (rs : List (List ℕ)) → Sums (printed_for rs)
unfolding printed_for Sums
sums [] = refl
sums (r ∷ rs) = counted_sums (shown_record r (printed_for rs).records).what (printed_for rs) (sums rs)

module _ (p : Printed) (c : Counts p) where
  pub sum : p.records ≡ p.frames + p.gaps
  unfolding Sums
  sum = subst Sums (sym c.counted) (sums c.read)

  pub one_more : (r : List ℕ) (w : What) (q : Printed) → w ≡ (shown_record r p.records).what → q ≡ counted_as w p → Counts q
  unfolding printed_for
  one_more r w q e f =
      record {
        read = r ∷ c.read;
        counted = f ∙ ap (λ (z : What). counted_as z p) e ∙ ap (λ (z : Printed). counted_as (shown_record r z.records).what z) c.counted;
      }

pub few : (w : What) (p : Printed) → (counted_as w p).records ≤ p.records + 1
few AFrame p = omega arith
few AGap p = omega arith
few NoRecord p = omega arith

pub none_yet : Counts none_printed
unfolding printed_for
none_yet = record { read = []; counted = refl }
