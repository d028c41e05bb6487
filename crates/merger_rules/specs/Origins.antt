-- Where the frames that a script hands on come from. Assumes nothing.
use Rattle.std.specs.Prelude.{◌≡◌, cond, List, [], ◌∷◌, ◌⊎◌, ℕ, Option, Some, Ok}
use Rattle.merger_rules.specs.declared.Held.{Held}
use Rattle.merger_rules.specs.declared.Keeping.TheVariants.{Kept}
use Rattle.merger_rules.specs.declared.Release.{Release}
use Rattle.merger_rules.specs.Merging.{View, push_of, snapped}
use Rattle.merger_rules.specs.Scripts.{Call, after, push, release}

-- a script pushes a frame of a stream, and it is kept
abbrev pub KeepsAt : ℕ → Held → Call → View → Type 0
KeepsAt s h (push t k) v = (t ≡ s) × (k ≡ h) × ((push_of t k v).answer ≡ Ok Kept)
KeepsAt s h (release s₀ s₁ flush) v = ⊥

abbrev pub Keeps : List Call → View → ℕ → Held → Type 0
Keeps [] v s h = ⊥
Keeps (c ∷ cs) v s h = KeepsAt s h c v ⊎ Keeps cs (after c v) s h

-- a release after `last`: a frame that was taken in on its stream, with its own number and figures but for the offset, which is snapped. Its moves are
-- those of the frame that was pushed (document 02, A3: "The merger passes them on unchanged")
pub record Origin (Taken : ℕ → Held → Type 0) (last : Option ℕ) (r : Release) : Type 0 where
  pub frame : Held
  pub taken : Taken (cond r.alternate 1 0) frame
  pub number : r.number ≡ frame.number
  pub offset : r.figures.offset ≡ snapped last frame.figures.offset
  pub matched : r.figures.matched ≡ frame.figures.matched
  pub errors : r.figures.errors ≡ frame.figures.errors
  pub moves : r.figures.moves ≡ frame.figures.moves

abbrev pub Origins : (ℕ → Held → Type 0) → Option ℕ → List Release → Type 0
Origins Taken last [] = Unit {0}
Origins Taken last (r ∷ rs) = Origin Taken last r × Origins Taken (Some r.figures.offset) rs
