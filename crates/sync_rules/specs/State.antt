-- What a synchroniser is: the bits that it holds and its figures, and what a push brings.
-- Assumes nothing.
use Rattle.std.specs.Prelude.{List, [], ◌∷◌, ◌++◌, Bool, false, ℕ, ◌+◌, ◌-◌, ◌*◌, ◌/◌, ◌%◌, min, ℤ, length, drop}
use Rattle.std.proofs.Math.IntN.{sub_ℕ}
use Rattle.sync_rules.specs.declared.StreamFigures.{StreamFigures}
use Rattle.sync_rules.specs.Figures.{no_figures, dibit_taken, slips_counted}
use Rattle.sync_rules.specs.Moves.{Move, laters, earliers}

pub record State : Type 0 where
  pub held : List ℕ  -- the restorable bits, then the pending ones
  pub reliabilities : List ℕ  -- one for each held bit
  pub restorable : ℕ  -- how many of the held bits are restorable: 0, 1 or 2
  pub figures : StreamFigures  -- what it has counted, and whether it holds a lock

abbrev pub pending : State → List ℕ
pending m = drop m.restorable m.held

-- the same bits with these figures
abbrev pub with_figures : StreamFigures → State → State
with_figures f m = record { held = m.held; reliabilities = m.reliabilities; restorable = m.restorable; figures = f }

-- slips followed
abbrev pub slips : State → ℕ
slips m = m.figures.later + m.figures.earlier

-- the signed net slip: two bits for each slip to a later symbol, less two for each to an earlier one
abbrev pub net_slip : State → ℤ
net_slip m = sub_ℕ (2 * m.figures.later) (2 * m.figures.earlier)

-- the end of the stream so far: the offset of the bit behind the last pending one
abbrev pub stream_end : State → ℕ
stream_end m = m.figures.clock + length (pending m)

abbrev pub start : State
start = record { held = []; reliabilities = []; restorable = 0; figures = no_figures }

-- k pending bits passed: the last two passed are restorable
unfoldable pub pass : ℕ → State → State
pass k m = record { held = drop (m.restorable + k - 2) m.held; reliabilities = drop (m.restorable + k - 2) m.reliabilities; restorable = min 2 (m.restorable + k); figures = m.figures }

-- the restorable bits pending again
unfoldable pub restore : State → State
restore m = record { held = m.held; reliabilities = m.reliabilities; restorable = 0; figures = m.figures }

-- a move counted
unfoldable pub counted : Move → State → State
unfolding laters earliers
counted v m = with_figures (slips_counted (laters v) (earliers v) m.figures) m

-- what a push brings: a dibit, the reliabilities of its two bits, and whether it is a soft push
pub record Input : Type 0 where
  pub dibit : ℕ
  pub of_first : ℕ
  pub of_second : ℕ
  pub soft : Bool

-- a hard push: "hard bits count 255"
abbrev pub hard : ℕ → Input
hard d = record { dibit = d; of_first = 255; of_second = 255; soft = false }

-- the two bits of a push, the high one first
abbrev pub bits_of : Input → List ℕ
bits_of x = x.dibit / 2 ∷ x.dibit % 2 ∷ []

unfoldable pub bring : Input → State → State
bring x m = record { held = m.held ++ bits_of x; reliabilities = m.reliabilities ++ (x.of_first ∷ x.of_second ∷ []); restorable = m.restorable; figures = dibit_taken x.soft m.figures }
