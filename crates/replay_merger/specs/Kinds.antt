-- Which case each of the kinds 15 to 17 is: the table of docs/REPLAY.md. A case goes through all that answer kinds, and each hands on what is not its own.
-- Assumes nothing.
use Rattle.std.specs.Prelude.{◌≡◌, cond, List, [], ℕ, eqb, Option}
use Rattle.replay_bytes.specs.Answers.{bytes}
use Rattle.merger_rules.specs.Merging.{View}
use Rattle.merger_rules.specs.Scripts.{started}
use Rattle.merger.specs.declared.Merger.{Merger}
use Rattle.merger.specs.States.{ValidMerger}
use Rattle.replay_merger.specs.declared.Merged.{Merged}
use Rattle.replay_merger.specs.Merges.{Case, case, ToldBy, push_case, release_case}

-- the case of a kind, or that it is not one of these
pub data Turn : Type 0 where
  own : Case → Turn
  another : Turn

-- 15: a new merger, and no byte
abbrev pub new_case : Case
new_case = case (bytes []) started

abbrev pub turn_of : ℕ → List ℕ → View → Turn
turn_of kind input v = cond (eqb kind 15) (own new_case) (cond (eqb kind 16) (own (push_case input v)) (cond (eqb kind 17) (own (release_case input v)) another))

-- nothing is touched, and the size of the answer is handed on
pub record HandedOn (m : Merger) (size : Option ℕ) (before after : List ℕ) (r : Merged) : Type 0 where
  pub valid : ValidMerger r.merger
  pub kept : r.merger ≡ m
  pub handed : r.size ≡ size
  pub silent : after ≡ before

abbrev pub Turned : Turn → Merger → Option ℕ → List ℕ → List ℕ → Merged → Type 0
Turned (own o) m size before after r = ToldBy m o before after r
Turned another m size before after r = HandedOn m size before after r
