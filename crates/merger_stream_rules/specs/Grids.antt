-- Frames of both streams on one grid of 384, and what two synchronisers promise. Assumes nothing.
use Rattle.std.specs.Prelude.{◌≡◌, Bool, true, false, ◌||◌, List, [], ◌∷◌, ◌++◌, ℕ, zero, suc, ◌+◌, ◌%◌, ◌<◌, ◌≤◌, eqb, Some, None, Result, Ok, Err}
use Rattle.bits.specs.Refusals.{number_of}
use Rattle.merger_rules.specs.declared.Position.{Position}
use Rattle.merger_rules.specs.declared.Keeping.{Keeping}
use Rattle.merger_rules.specs.declared.Keeping.TheVariants.{Kept, Double, Late}
use Rattle.merger_rules.specs.declared.Release.{Release}
use Rattle.merger_rules.specs.declared.Released.TheVariants.{PassedOver}
use Rattle.merger_rules.specs.Merging.{View, push_of, release_of}
use Rattle.merger_rules.specs.Scripts.{Call, after, push, release}
use Rattle.merger_rules.specs.Offsets.{Past}
use Rattle.bits.specs.declared.Refusal.{Refusal}

unfoldable pub has : ℕ → List ℕ → Bool
has x [] = false
has x (y ∷ ys) = eqb y x || has x ys

abbrev pub offsets_of : List Release → List ℕ
offsets_of [] = []
offsets_of (r ∷ rs) = r.figures.offset ∷ offsets_of rs

abbrev pub keys_of : List Position → List ℕ
keys_of [] = []
keys_of (p ∷ ps) = p.key ∷ keys_of ps

-- the offset of a frame that is taken in, kept or double: neither refused nor late
abbrev pub took_offset : ℕ → Result Keeping Refusal → List ℕ
took_offset o (Ok Kept) = o ∷ []
took_offset o (Ok Double) = o ∷ []
took_offset o (Ok Late) = []
took_offset o (Err r) = []

abbrev pub took_offsets_at : Call → View → List ℕ
took_offsets_at (push s h) v = took_offset h.figures.offset (push_of s h v).answer
took_offsets_at (release s₀ s₁ flush) v = []

abbrev pub took_offsets : List Call → View → List ℕ
took_offsets [] v = []
took_offsets (c ∷ cs) v = took_offsets_at c v ++ took_offsets cs (after c v)

-- every frame pushed lies on the grid g + 384 k
abbrev pub OnGrid : ℕ → List Call → Type 0
OnGrid g [] = Unit {0}
OnGrid g (push s h ∷ cs) = (h.figures.offset % 384 ≡ g) × OnGrid g cs
OnGrid g (release s₀ s₁ flush ∷ cs) = OnGrid g cs

-- no release of a script passes a position over
abbrev pub NonePassed : List Call → View → Type 0
NonePassed [] v = Unit {0}
NonePassed (push s h ∷ cs) v = NonePassed cs (push_of s h v).next
NonePassed (release s₀ s₁ flush ∷ cs) v = ((release_of s₀ s₁ flush v).answer ≡ PassedOver → ⊥) × NonePassed cs (release_of s₀ s₁ flush v).next

-- a push of a script is answered `late` only where its place has been released or passed
abbrev pub LateArePast : List Call → View → Type 0
LateArePast [] v = Unit {0}
LateArePast (push s h ∷ cs) v = ((push_of s h v).answer ≡ Ok Late → Past v.last h.figures.offset) × LateArePast cs (push_of s h v).next
LateArePast (release s₀ s₁ flush ∷ cs) v = LateArePast cs (release_of s₀ s₁ flush v).next

-- strictly rising numbers
abbrev pub Over : ℕ → List ℕ → Type 0
Over x [] = Unit {0}
Over x (y ∷ ys) = x < y

abbrev pub Ordered : List ℕ → Type 0
Ordered [] = Unit {0}
Ordered (x ∷ xs) = Over x xs × Ordered xs

-- ── what the synchronisers promise ──

abbrev pub NoPush : List Call → Type 0
NoPush [] = Unit {0}
NoPush (push s h ∷ cs) = ⊥
NoPush (release s₀ s₁ flush ∷ cs) = NoPush cs

-- each stream's frames rise, none comes below what its stream called settled, and settled offsets do not fall; after a flush or an absent stream
-- nothing is pushed. f₀ and f₁ are what the two streams have promised so far
abbrev pub Honest : ℕ → ℕ → List Call → Type 0
Honest f₀ f₁ [] = Unit {0}
Honest f₀ f₁ (push zero h ∷ cs) = (f₀ ≤ h.figures.offset) × Honest (h.figures.offset + 1) f₁ cs
Honest f₀ f₁ (push (suc zero) h ∷ cs) = (f₁ ≤ h.figures.offset) × Honest f₀ (h.figures.offset + 1) cs
Honest f₀ f₁ (push (suc (suc s)) h ∷ cs) = ⊥
Honest f₀ f₁ (release (Some a) (Some b) false ∷ cs) = (f₀ ≤ a) × (f₁ ≤ b) × Honest a b cs
Honest f₀ f₁ (release (Some a) None false ∷ cs) = NoPush cs
Honest f₀ f₁ (release None s₁ false ∷ cs) = NoPush cs
Honest f₀ f₁ (release s₀ s₁ true ∷ cs) = NoPush cs

-- no push is late or double: each is kept, but for refusals 8 and 9
abbrev pub NotLost : Result Keeping Refusal → Type 0
NotLost (Ok Kept) = Unit {0}
NotLost (Ok Double) = ⊥
NotLost (Ok Late) = ⊥
NotLost (Err r) = 7 < number_of r

abbrev pub NoneLost : List Call → View → Type 0
NoneLost [] v = Unit {0}
NoneLost (push s h ∷ cs) v = NotLost (push_of s h v).answer × NoneLost cs (push_of s h v).next
NoneLost (release s₀ s₁ flush ∷ cs) v = NoneLost cs (release_of s₀ s₁ flush v).next
