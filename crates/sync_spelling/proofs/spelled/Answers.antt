-- `spelled`: after i turns `value` is what the first i bits spell, and `at` is the place of the next one.
-- Assumes nothing.
use Prim.Native.Nat.{ℕ, ◌<◌}
use mathlib.Core.Path.{◌≡◌, ap}
use mathlib.Core.List.{List}
use native.Mathlib.Omega.{arith}
use borrow.Author.Rules.{rules}
use lib.Pow.{pow_mono}
use lib.ListN.{get_or}
use Rattle.sync_rules.specs.Ring.{ring}
use Rattle.bits.specs.Bit.{Bits}
use Rattle.sync_rules.specs.Matching.{spell}
use Rattle.sync_rules.proofs.Rings.{spell_lt, spell_more}
use Rattle.sync_spelling.proofs.spelled.Goals as goal
use Rattle.sync_spelling.proofs.spelled.Goals.{then-at-eq-MOST_HELD, else-at-eq-MOST_HELD}

-- fifteen bits or fewer
below : (bits : List ℕ) (from i v : ℕ) → Bits bits → i < 16 → v ≡ spell 0 (ring bits from i) → v < 32768
below bits from i v b h e = omega (arith, spell_lt bits from i b, pow_mono {i = i} {j = 15} (omega arith))

pub loop-i-init : goal.loop-i-init
unfolding spell ring
loop-i-init c = search rules

pub overflow_mul-value : goal.overflow_mul-value
overflow_mul-value c =
    let l = c.loop-i in
    record { fits = omega (arith, below c.args.bits.now c.args.from l._i l.value c.requires.fact_1 (omega arith) l.invariant.spells) }

pub overflow_add-value : goal.overflow_add-value
overflow_add-value c =
    let l = c.loop-i in
    record { fits = omega (arith, below c.args.bits.now c.args.from l._i l.value c.requires.fact_1 (omega arith) l.invariant.spells, c.from.ensures, c.requires.fact_1.at l.at) }

pub loop-i-preserved : goal.loop-i-preserved
loop-i-preserved c =
    let l = c.loop-i in
    record {
      round = elim c.if-at-eq-MOST_HELD.branch [ then-at-eq-MOST_HELD w ↦ omega arith | else-at-eq-MOST_HELD w ↦ omega arith ];
      spells = omega (arith, spell_more c.args.bits.now c.args.from l._i, c.from.ensures, ap (λ (k : ℕ). get_or c.args.bits.now k 0) l.invariant.round);
    }
