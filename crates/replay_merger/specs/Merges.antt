-- What a case of the kinds 16 and 17 answers and leaves: the table of docs/REPLAY.md, by the definitions that the contracts of `merger` cite.
-- Assumes nothing.
use Rattle.std.specs.Prelude.{◌≡◌, Bool, true, false, cond, List, [], ◌∷◌, ◌++◌, ℕ, ◌-◌, ◌/◌, ◌%◌, eqb, length, get_or, Option}
use Rattle.replay_bytes.specs.Answers.{Answer, bytes, unfit, Told}
use Rattle.replay_merger_bytes.specs.MergerBytes.{clock_if, eight_at, head_in, pushed_number, release_bytes}
use Rattle.merger.specs.declared.Merger.{Merger}
use Rattle.merger_rules.specs.declared.Release.{Release}
use Rattle.merger_rules.specs.declared.Released.{Released}
use Rattle.merger_rules.specs.declared.Released.TheVariants.{Frame, PassedOver, NothingReady}
use Rattle.merger_rules.specs.Merging.{View, held_of, PushStep, push_of}
use Rattle.merger.specs.States.{view_of}
use Rattle.merger_rules.specs.Source.{source_release}
use Rattle.merger.specs.States.{ValidMerger}
use Rattle.replay_merger.specs.declared.Merged.{Merged}

-- what a case answers, and the merger after it
pub record Case : Type 0 where
  pub answer : Answer
  pub next : View

abbrev pub case : Answer → View → Case
case a v = record { answer = a; next = v }

-- how a case on the merger m is told: the answer's bytes in the lent memory, their number, and the merger. Where the input does not fit, the
-- merger itself comes back
pub record ToldBy (m : Merger) (o : Case) (before after : List ℕ) (r : Merged) : Type 0 where
  pub valid : ValidMerger r.merger
  pub leaves : view_of r.merger ≡ o.next
  pub tells : Told o.answer before after r.size
  pub kept : o.answer ≡ unfit → r.merger ≡ m

-- ---- 16: "0 kept, 1 double, 2 late, or 100 plus the refusal's number"

abbrev pub push_in : List ℕ → View → PushStep
push_in input v = push_of (get_or input 0 0) (held_of (head_in input) (eight_at input 14) (eqb (get_or input 22 0) 1)) v

abbrev pub push_case : List ℕ → View → Case
push_case input v = cond (eqb (length input) 23) (case (bytes (pushed_number (push_in input v).answer ∷ [])) (push_in input v).next) (case unfit v)

-- ---- 17: "how many positions went until nothing was ready; for each released frame offset (8), matched, errors, moves (3), number (8), 1 where it
-- is the alternate"

unfoldable pub frames_bytes : List Release → List ℕ
frames_bytes [] = []
frames_bytes (r ∷ rs) = release_bytes r ++ frames_bytes rs

-- the source's whole release: what went are the positions that are no longer pending
abbrev pub released_by : Option ℕ → Option ℕ → Bool → View → Case
released_by s₀ s₁ flush v =
    let o = source_release s₀ s₁ flush v.pending v.last in
    case (bytes ((length v.pending - length o.next.pending) ∷ frames_bytes o.frames)) o.next

-- "flags (1 flush, 2 and 4: the first and second stream's settled offset is there), two settled offsets (8 each)"
abbrev pub release_case : List ℕ → View → Case
release_case input v =
    cond (eqb (length input) 17)
    (released_by (clock_if (eqb (get_or input 0 0 / 2 % 2) 1) (eight_at input 1)) (clock_if (eqb (get_or input 0 0 / 4 % 2) 1) (eight_at input 9)) (eqb (get_or input 0 0 % 2) 1) v)
    (case unfit v)

-- ---- one release of them

-- a position went
abbrev pub is_gone : Released → Bool
is_gone (Frame r) = true
is_gone PassedOver = true
is_gone NothingReady = false
