-- What the answers of the merger add to the counts.
-- Assumes nothing.
use Rattle.std.specs.Prelude.{◌≡◌, Bool, true, false, cond, List, [], ◌∷◌, ℕ, ◌+◌, Result, Ok, Err}
use Rattle.merger_rules.specs.Merging.{View, push_of, release_of}
use Rattle.merger_rules.specs.Scripts.{push, release}
use Rattle.merger_rules.specs.declared.Keeping.{Keeping}
use Rattle.merger_rules.specs.declared.Keeping.TheVariants.{Kept, Double, Late}
use Rattle.merger_rules.specs.declared.Released.{Released}
use Rattle.merger_rules.specs.declared.Released.TheVariants.{Frame, PassedOver, NothingReady}
use Rattle.merging_shelf.specs.Slots.{count_freed}
use Rattle.merging_rules.specs.Piles.{Deed, called, gave_way, Pile}
use Rattle.merging_rules.specs.Orders.{comes_again}
use Rattle.bits.specs.declared.Refusal.{Refusal}

-- the answers to the pushes, but for those of frames that come again
abbrev pub answers_of : List Deed → View → List (Result Keeping Refusal)
answers_of [] v = []
answers_of (called (push s h) ∷ ds) v =
    cond (comes_again h.check (push_of s h v).answer) (answers_of ds (push_of s h v).next) ((push_of s h v).answer ∷ answers_of ds (push_of s h v).next)
answers_of (called (release a b flush) ∷ ds) v = answers_of ds (release_of a b flush v).next
answers_of (gave_way s h ∷ ds) v = answers_of ds v

-- how many frames gave way
abbrev pub ways_given : List Deed → ℕ
ways_given [] = 0
ways_given (called c ∷ ds) = ways_given ds
ways_given (gave_way s h ∷ ds) = 1 + ways_given ds

unfoldable pub how_often : ((Result Keeping Refusal) → Bool) → List (Result Keeping Refusal) → ℕ
how_often f [] = 0
how_often f (k ∷ ks) = cond (f k) 1 0 + how_often f ks

abbrev pub is_kept : Result Keeping Refusal → Bool
is_kept (Ok Kept) = true
is_kept (Ok Double) = false
is_kept (Ok Late) = false
is_kept (Err r) = false

abbrev pub is_double : Result Keeping Refusal → Bool
is_double (Ok Kept) = false
is_double (Ok Double) = true
is_double (Ok Late) = false
is_double (Err r) = false

abbrev pub is_late : Result Keeping Refusal → Bool
is_late (Ok Kept) = false
is_late (Ok Double) = false
is_late (Ok Late) = true
is_late (Err r) = false

-- how many frames the releases took out whose answer is such a one
abbrev pub taken_out : (Released → Bool) → List Deed → View → ℕ
taken_out f [] v = 0
taken_out f (called (push s h) ∷ ds) v = taken_out f ds (push_of s h v).next
taken_out f (called (release a b flush) ∷ ds) v = cond (f (release_of a b flush v).answer) (count_freed (release_of a b flush v).freed) 0 + taken_out f ds (release_of a b flush v).next
taken_out f (gave_way s h ∷ ds) v = taken_out f ds v

abbrev pub is_frame : Released → Bool
is_frame (Frame r) = true
is_frame PassedOver = false
is_frame NothingReady = false

abbrev pub is_passed_over : Released → Bool
is_passed_over (Frame r) = false
is_passed_over PassedOver = true
is_passed_over NothingReady = false

-- what the deeds ds, on the pile p, add to the counts: q has them then
pub record CountsMore (ds : List Deed) (p q : Pile) : Type 0 where
  pub kept : q.answered.kept ≡ p.answered.kept + how_often is_kept (answers_of ds p.merger)
  pub late : q.answered.late ≡ p.answered.late + how_often is_late (answers_of ds p.merger)
  pub double : q.answered.double ≡ p.answered.double + how_often is_double (answers_of ds p.merger)
  -- a frame counts as refused where it gave way, and else never
  pub refused : q.answered.refused ≡ p.answered.refused + ways_given ds
  -- of each position that was handed on one frame is in the journal, and the other one, where there is one, gave way to it
  pub handed_on : q.gone.released + q.gone.others ≡ p.gone.released + p.gone.others + taken_out is_frame ds p.merger
  pub passed_over : q.gone.passed ≡ p.gone.passed + taken_out is_passed_over ds p.merger
