-- frame.rs `Merger::push` and the loop of `Merger::release`, from their own text. The map is the list of its positions, in the order of their keys;
-- `decodes` is the yes or no that came with the frame; `settled` is a pair of clocks. Of Merging.antt only the types and `view` are used. Assumes
-- nothing.
use Rattle.std.specs.Prelude.{Bool, true, false, cond, not, ◌&&◌, ◌||◌, List, [], ◌∷◌, ◌++◌, ℕ, zero, suc, ◌+◌, ◌-◌, ◌*◌, ◌/◌, max, ltb, leb, eqb, Option, Some, None}
use Rattle.merger_rules.specs.declared.Held.{Held}
use Rattle.merger_rules.specs.declared.Position.{Position}
use Rattle.merger_rules.specs.declared.Release.{Release}
use Rattle.merger_rules.specs.Merging.{View, view, release_of}
use Rattle.merger_rules.specs.Scripts.{given}

-- `Option`: is_some of a slot, is_some_and and is_none_or of a clock
abbrev pub is_some : Option Held → Bool
is_some None = false
is_some (Some frame) = true

abbrev pub is_some_and : Option ℕ → (ℕ → Bool) → Bool
is_some_and None f = false
is_some_and (Some x) f = f x

abbrev pub is_none_or : Option ℕ → (ℕ → Bool) → Bool
is_none_or None f = true
is_none_or (Some x) f = f x

-- ── push ──

-- `range(offset.saturating_sub(SAME_FRAME_BITS)..=offset + SAME_FRAME_BITS)`, `.next()`: the first key in the range
abbrev pub first_in : ℕ → List Position → Option ℕ
first_in offset [] = None
first_in offset (p ∷ ps) = cond (leb (offset - 191) p.key && leb p.key (offset + 191)) (Some p.key) (first_in offset ps)

abbrev pub unwrap_or : Option ℕ → ℕ → ℕ
unwrap_or None o = o
unwrap_or (Some k) o = k

-- `if slot.is_none() { *slot = Some(frame); }`
abbrev pub set_none : Option Held → Held → Option Held
set_none slot frame = cond (is_some slot) slot (Some frame)

abbrev pub slot_set : ℕ → Held → Position → Position
slot_set zero frame p = record { key = p.key; primary = set_none p.primary frame; alternate = p.alternate }
slot_set (suc k) frame p = record { key = p.key; primary = p.primary; alternate = set_none p.alternate frame }

-- `self.pending.entry(key).or_default()[stream]`, set: the map in the order of its keys
abbrev pub entry_set : ℕ → ℕ → Held → List Position → List Position
entry_set key stream frame [] = slot_set stream frame (record { key = key; primary = None; alternate = None }) ∷ []
entry_set key stream frame (p ∷ ps) =
    cond (ltb p.key key) (p ∷ entry_set key stream frame ps)
    (cond (eqb p.key key) (slot_set stream frame p ∷ ps) (slot_set stream frame (record { key = key; primary = None; alternate = None }) ∷ p ∷ ps))

abbrev pub source_push : ℕ → Held → View → View
source_push stream frame v =
    cond (is_some_and v.last (λ r. ltb (frame.figures.offset + 191) (r + 384))) v
    (view (entry_set (unwrap_or (first_in frame.figures.offset v.pending) frame.figures.offset) stream frame v.pending) v.last)

-- ── release ──

-- `slots[k].is_some() || settled[k].is_none_or(|position| position > key + SAME_FRAME_BITS)`
abbrev pub slot_ready : Option ℕ → ℕ → Option Held → Bool
slot_ready settled key slot = is_some slot || is_none_or settled (λ position. ltb (key + 191) position)

-- `match self.released`: the offset on the last frame's grid, `GRID_FRAMES` being 16
abbrev pub offset_on : Option ℕ → ℕ → ℕ
offset_on None o = o
offset_on (Some last) o = cond (ltb last o && ltb (o - last) (16 * 384)) (last + max ((o - last + 192) / 384) 1 * 384) o

-- one turn of the loop: what it puts into `out`, and `self.released` after it
pub record Turn : Type 0 where
  pub out : List Release
  pub released : Option ℕ

abbrev pub turn : List Release → Option ℕ → Turn
turn out released = record { out = out; released = released }

-- `if self.released.is_some_and(|last| offset <= last) { continue; }`, else released
abbrev pub hand_on : Held → Bool → ℕ → Option ℕ → Turn
hand_on frame alternate offset released =
    cond (is_some_and released (λ last. leb offset last)) (turn [] released)
    (turn (record { figures = record { offset = offset; matched = frame.figures.matched; errors = frame.figures.errors; moves = frame.figures.moves }; number = frame.number; alternate = alternate } ∷ []) (Some offset))

-- `match (primary, alternate)`
abbrev pub turn_of : Option Held → Option Held → Option ℕ → Turn
turn_of (Some p) (Some a) released =
    cond (p.check || not a.check) (hand_on p false (offset_on released p.figures.offset) released) (hand_on a true (offset_on released a.figures.offset) released)
turn_of (Some p) None released = hand_on p false (offset_on released p.figures.offset) released
turn_of None (Some a) released = hand_on a true (offset_on released a.figures.offset) released
turn_of None None released = turn [] released

-- what the whole call hands back, and what it leaves
pub record Many : Type 0 where
  pub frames : List Release
  pub next : View

abbrev pub many : List Release → View → Many
many rs v = record { frames = rs; next = v }

-- `while let Some((&key, slots)) = self.pending.iter().next()`
abbrev pub source_release : Option ℕ → Option ℕ → Bool → List Position → Option ℕ → Many
source_release s₀ s₁ flush [] released = many [] (view [] released)
source_release s₀ s₁ flush (p ∷ ps) released =
    cond (flush || (slot_ready s₀ p.key p.primary && slot_ready s₁ p.key p.alternate))
    (many ((turn_of p.primary p.alternate released).out ++ (source_release s₀ s₁ flush ps (turn_of p.primary p.alternate released).released).frames)
    (source_release s₀ s₁ flush ps (turn_of p.primary p.alternate released).released).next)
    (many [] (view (p ∷ ps) released))

-- the one-position call, n times
abbrev pub times : ℕ → Option ℕ → Option ℕ → Bool → View → Many
times zero s₀ s₁ flush v = many [] v
times (suc n) s₀ s₁ flush v =
    many (given (release_of s₀ s₁ flush v).answer ++ (times n s₀ s₁ flush (release_of s₀ s₁ flush v).next).frames)
    (times n s₀ s₁ flush (release_of s₀ s₁ flush v).next).next
