-- Whole scripts of calls: the frames that they hand on, and the state that they leave. Assumes nothing.
use Rattle.std.specs.Prelude.{Bool, List, [], ◌∷◌, ◌++◌, ℕ, Option, None}
use Rattle.merger_rules.specs.declared.Held.{Held}
use Rattle.merger_rules.specs.declared.Release.{Release}
use Rattle.merger_rules.specs.declared.Released.{Released}
use Rattle.merger_rules.specs.declared.Released.TheVariants.{Frame, PassedOver, NothingReady}
use Rattle.merger_rules.specs.Merging.{View, view, push_of, release_of}

pub data Call : Type 0 where
  push : ℕ → Held → Call
  release : Option ℕ → Option ℕ → Bool → Call

-- the state before any call
abbrev pub started : View
started = view [] None

-- what a call leaves
abbrev pub after : Call → View → View
after (push s h) v = (push_of s h v).next
after (release s₀ s₁ flush) v = (release_of s₀ s₁ flush v).next

-- what an answer hands on
abbrev pub given : Released → List Release
given (Frame r) = r ∷ []
given PassedOver = []
given NothingReady = []

abbrev pub given_by : Call → View → List Release
given_by (push s h) v = []
given_by (release s₀ s₁ flush) v = given (release_of s₀ s₁ flush v).answer

-- the frames that a script hands on, in order, and the state that it leaves
abbrev pub releases : List Call → View → List Release
releases [] v = []
releases (c ∷ cs) v = given_by c v ++ releases cs (after c v)

abbrev pub left : List Call → View → View
left [] v = v
left (c ∷ cs) v = left cs (after c v)
