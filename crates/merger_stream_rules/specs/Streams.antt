-- The frames of one stream alone, on any grid: what a synchroniser gives, across slips and reacquisitions. Assumes nothing.
use Rattle.std.specs.Prelude.{◌≡◌, List, [], ◌∷◌, ℕ, ◌+◌, ◌<◌, ◌≤◌, Option, Some, None, Result, Ok, Err}
use Rattle.bits.specs.Refusals.{number_of}
use Rattle.merger_rules.specs.declared.Keeping.{Keeping}
use Rattle.merger_rules.specs.declared.Keeping.TheVariants.{Kept, Double, Late}
use Rattle.merger_rules.specs.declared.Released.{Released}
use Rattle.merger_rules.specs.declared.Released.TheVariants.{Frame, PassedOver, NothingReady}
use Rattle.merger_rules.specs.Merging.{View, push_of, release_of}
use Rattle.merger_rules.specs.States.{key_at}
use Rattle.merger_rules.specs.Scripts.{Call, push, release}
use Rattle.bits.specs.declared.Refusal.{Refusal}

-- only stream s pushes, and each frame lies 384 or more above the one before; f is the least offset that may come
abbrev pub Alone : ℕ → ℕ → List Call → Type 0
Alone s f [] = Unit {0}
Alone s f (push t h ∷ cs) = (t ≡ s) × (f ≤ h.figures.offset) × Alone s (h.figures.offset + 384) cs
Alone s f (release s₀ s₁ flush ∷ cs) = Alone s f cs

-- exactly half a frame after the last release
abbrev pub Halfway : Option ℕ → ℕ → Type 0
Halfway None o = ⊥
Halfway (Some l) o = o ≡ l + 192

-- a push is kept, or late and halfway, or refused by 8 or 9
abbrev pub KeptOrHalfway : Option ℕ → ℕ → Result Keeping Refusal → Type 0
KeptOrHalfway last o (Ok Kept) = Unit {0}
KeptOrHalfway last o (Ok Double) = ⊥
KeptOrHalfway last o (Ok Late) = Halfway last o
KeptOrHalfway last o (Err r) = 7 < number_of r

-- a release passes nothing over, and moves the first frame back by at most 191 and on by at most 192: k is its own offset
abbrev pub MovedLittle : ℕ → Released → Type 0
MovedLittle k (Frame r) = (k ≤ r.figures.offset + 191) × (r.figures.offset ≤ k + 192)
MovedLittle k PassedOver = ⊥
MovedLittle k NothingReady = Unit {0}

abbrev pub Unbroken : List Call → View → Type 0
Unbroken [] v = Unit {0}
Unbroken (push s h ∷ cs) v = KeptOrHalfway v.last h.figures.offset (push_of s h v).answer × Unbroken cs (push_of s h v).next
Unbroken (release s₀ s₁ flush ∷ cs) v = MovedLittle (key_at v.pending 0) (release_of s₀ s₁ flush v).answer × Unbroken cs (release_of s₀ s₁ flush v).next
