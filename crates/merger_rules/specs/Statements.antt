-- What is proved of the merger's definitions, each the `ensures` of an empty public function (src/lib.rt). Assumes nothing.
use Rattle.std.specs.Prelude.{◌≡◌, Bool, true, false, List, ◌∷◌, ℕ, ◌+◌, ◌*◌, ◌<◌, ◌≤◌, length, Option, Some, None, Err}
use Rattle.bits.specs.declared.Refusal.{Refusal}
use Rattle.merger_rules.specs.declared.Held.{Held}
use Rattle.merger_rules.specs.declared.Position.{Position}
use Rattle.merger_rules.specs.declared.Released.TheVariants.{NothingReady}
use Rattle.merger_rules.specs.Merging.{View, view, is_late, push_of, is_ready, snapped, freed_of, none_freed, release_step, release_of}
use Rattle.merger_rules.specs.States.{Sound}
use Rattle.merger_rules.specs.Scripts.{Call, started, releases, left}
use Rattle.merger_rules.specs.Offsets.{Later, Advances, Rising, offset_at, Passed, Fate}
use Rattle.merger_rules.specs.Counts.{pending_of, released_of, kept_of, freed_in}
use Rattle.merger_rules.specs.Origins.{Keeps, Origins}
use Rattle.merger_rules.specs.Source.{source_push, source_release, times}
use Rattle.merger_rules.specs.Rounds.{Round, RoomIn, Paced, one_sided}

-- every state that a start and further calls have reached is sound
pub record Reached : Type 0 where
  pub start : Sound started
  pub pushed : (s : ℕ) (h : Held) (v : View) → Sound v → Sound (push_of s h v).next
  pub released : (s₀ s₁ : Option ℕ) (flush : Bool) (v : View) → Sound v → Sound (release_of s₀ s₁ flush v).next

-- each release lies a whole frame or more above the last, and less than 16 frames above it a whole number of frames; the offsets of a script rise,
-- and none comes twice
pub record Rises : Type 0 where
  pub each : (s₀ s₁ : Option ℕ) (flush : Bool) (v : View) → Advances v.last (release_of s₀ s₁ flush v).answer (release_of s₀ s₁ flush v).next.last
  pub all : (calls : List Call) (v : View) → Rising v.last (releases calls v)
  pub no_two : (calls : List Call) (v : View) (i j : ℕ) → i < j → j < length (releases calls v) → offset_at (releases calls v) i < offset_at (releases calls v) j

-- how far snapping moves an offset: from 192 after the last release on, back by at most 191 and on by at most 192; less than 192 after it, on to 384 after it;
-- 16 frames after it, at it and before it, not at all. So never back by more than 191, nor on by more than 383
pub record Snapping : Type 0 where
  pub near : (l o : ℕ) → l + 192 ≤ o → o < l + 16 * 384 → (o ≤ snapped (Some l) o + 191) × (snapped (Some l) o ≤ o + 192)
  pub close : (l o : ℕ) → l < o → o < l + 192 → snapped (Some l) o ≡ l + 384
  pub far : (l o : ℕ) → l + 16 * 384 ≤ o → snapped (Some l) o ≡ o
  pub behind : (l o : ℕ) → o ≤ l → snapped (Some l) o ≡ o
  pub first : (o : ℕ) → snapped None o ≡ o
  pub any : (last : Option ℕ) (o : ℕ) → (o ≤ snapped last o + 191) × (snapped last o ≤ o + 383)

-- a position is taken out only when each stream has delivered it or moved past it, or at a flush; then it is always taken out, the first one alone
pub record OnlyReady : Type 0 where
  pub needs : (s₀ s₁ : Option ℕ) (p : Position) (ps : List Position) (last : Option ℕ) → ((release_of s₀ s₁ false (view (p ∷ ps) last)).answer ≡ NothingReady → ⊥)
      → Passed s₀ p.key p.primary × Passed s₁ p.key p.alternate
  pub suffices : (s₀ s₁ : Option ℕ) (p : Position) (ps : List Position) (last : Option ℕ) → Passed s₀ p.key p.primary × Passed s₁ p.key p.alternate
      → (release_of s₀ s₁ false (view (p ∷ ps) last)).answer ≡ NothingReady → ⊥
  pub at_flush : (s₀ s₁ : Option ℕ) (p : Position) (ps : List Position) (last : Option ℕ) → (release_of s₀ s₁ true (view (p ∷ ps) last)).answer ≡ NothingReady → ⊥

-- what becomes of a position that is ready: in a reached state its chosen frame is handed on, or lies at the last release or before it and is passed over
pub record Fates : Type 0 where
  pub each : (s₀ s₁ : Option ℕ) (flush : Bool) (p : Position) (ps : List Position) (last : Option ℕ) → Sound (view (p ∷ ps) last) → is_ready s₀ s₁ flush p ≡ true
      → Fate last p (release_of s₀ s₁ flush (view (p ∷ ps) last)).answer

-- the numbers that a release gives back are those of the position that it takes out, and none where nothing is ready. Over any script each kept number is given
-- back exactly once or is pending; a number that is handed on is given back; so a number that was kept once is handed on at most once
pub record GivenBack : Type 0 where
  pub taken_out : (s₀ s₁ : Option ℕ) (flush : Bool) (p : Position) (ps : List Position) (last : Option ℕ) → is_ready s₀ s₁ flush p ≡ true
      → ((release_of s₀ s₁ flush (view (p ∷ ps) last)).freed ≡ freed_of p) × ((release_of s₀ s₁ flush (view (p ∷ ps) last)).next.pending ≡ ps)
  pub not_ready : (s₀ s₁ : Option ℕ) (flush : Bool) (v : View) → (release_of s₀ s₁ flush v).answer ≡ NothingReady → release_of s₀ s₁ flush v ≡ release_step NothingReady none_freed v
  pub balance : (x : ℕ) (calls : List Call) (v : View) → kept_of x calls v + pending_of x v.pending ≡ freed_in x calls v + pending_of x (left calls v).pending
  pub released_freed : (x : ℕ) (calls : List Call) (v : View) → released_of x (releases calls v) ≤ freed_in x calls v
  pub once : (x : ℕ) (calls : List Call) → kept_of x calls started ≤ 1 → released_of x (releases calls started) ≤ 1

-- what a script hands on are frames that it pushed and that were kept: figures and number their own, only the offset snapped to what was handed on before
pub record FromKept : Type 0 where
  pub all : (calls : List Call) → Origins (Keeps calls started) None (releases calls started)

-- a push that is not refused leaves what the source's leaves; the source's release, of all that is ready, is the one-position call as often as there
-- are positions, or oftener
pub record AsTheSource : Type 0 where
  pub pushed : (s : ℕ) (h : Held) (v : View) → Sound v → ((r : Refusal) → (push_of s h v).answer ≡ Err r → ⊥) → (push_of s h v).next ≡ source_push s h v
  pub repeated : (s₀ s₁ : Option ℕ) (flush : Bool) (l : List Position) (last : Option ℕ) (n : ℕ) → length l ≤ n → times n s₀ s₁ flush (view l last) ≡ source_release s₀ s₁ flush l last

-- frames off the grid. After a frame of own offset o that was released as l, a frame of own offset n, a whole frame or more after it, is not passed
-- over; if o was moved on by at most 191, n is not late either, and is moved back by at most 191 and on by at most 192. Only a frame exactly half a
-- frame off the grid is moved on by 192, and then the next frame of its stream, 384 after it, is late
pub record OffGrid : Type 0 where
  pub not_passed : (last : Option ℕ) (o n : ℕ) → o + 384 ≤ n → Later (Some (snapped last o)) n
  pub not_late : (last : Option ℕ) (o n : ℕ) → snapped last o ≤ o + 191 → o + 384 ≤ n → is_late (Some (snapped last o)) n ≡ false
  pub moved : (last : Option ℕ) (o n : ℕ) → snapped last o ≤ o + 192 → o + 384 ≤ n → (n ≤ snapped (Some (snapped last o)) n + 191) × (snapped (Some (snapped last o)) n ≤ n + 192)
  pub half : (l k : ℕ) → k < 15 → (snapped (Some l) (l + k * 384 + 576) ≡ l + k * 384 + 768) × (is_late (Some (l + k * 384 + 768)) (l + k * 384 + 960) ≡ true)

-- refusal 9 does not come to a caller that releases all that is ready after at most j frames, none of them more than d above either settled offset.
-- It comes with the seventeenth frame of a stream where the other one stands still
pub record NeverFull : Type 0 where
  pub room : (d j : ℕ) (rounds : List Round) → d + 192 * j ≤ 2880 → Paced d j 0 0 rounds → RoomIn rounds started
  pub seventeen : RoomIn (one_sided 17 0) started → ⊥
