-- The merger (frame.rs `Merger`; document 01, "Synchroniser and merger"): what each call answers and leaves. Assumes nothing.
use Rattle.std.specs.Prelude.{Bool, true, false, cond, not, ◌&&◌, ◌||◌, List, [], ◌∷◌, ◌++◌, ℕ, zero, suc, ◌+◌, ◌-◌, ◌*◌, ◌/◌, max, ltb, leb, length, get_or, take, drop, set, Option, Some, None, Result, Ok, Err}
use Rattle.bits.specs.Sizes.{frame_bits, most_offset}
use Rattle.bits.specs.declared.Refusal.TheVariants.{Stream, Offset, Positions}
use Rattle.sync_rules.specs.declared.Head.{Head}
use Rattle.merger_rules.specs.declared.Held.{Held}
use Rattle.merger_rules.specs.declared.Freed.{Freed}
use Rattle.merger_rules.specs.declared.Position.{Position}
use Rattle.merger_rules.specs.declared.Chosen.{Chosen}
use Rattle.merger_rules.specs.declared.Keeping.{Keeping}
use Rattle.merger_rules.specs.declared.Keeping.TheVariants.{Kept, Double, Late}
use Rattle.merger_rules.specs.declared.Release.{Release}
use Rattle.merger_rules.specs.declared.Released.{Released}
use Rattle.merger_rules.specs.declared.Released.TheVariants.{Frame, PassedOver, NothingReady}
use Rattle.bits.specs.declared.Refusal.{Refusal}

-- what a merger is, to all of its answers: the positions pending, lowest key first, and the offset released last, or none
pub record View : Type 0 where
  pub pending : List Position
  pub last : Option ℕ

abbrev pub view : List Position → Option ℕ → View
view ps l = record { pending = ps; last = l }

abbrev pub held_of : Head → ℕ → Bool → Held
held_of f n b = record { figures = f; number = n; check = b }

-- ── a push ──

-- "offset + 191 < released + 384"
abbrev pub is_late : Option ℕ → ℕ → Bool
is_late None o = false
is_late (Some r) o = ltb (o + 191) (r + frame_bits)

-- the two lie at most 191 apart: the same frame
abbrev pub is_near : ℕ → ℕ → Bool
is_near o k = leb o (k + 191) && leb k (o + 191)

-- the place of the first position within 191 of the offset; the number of positions if there is none
unfoldable pub home_of : ℕ → List Position → ℕ
home_of o [] = 0
home_of o (p ∷ ps) = cond (is_near o p.key) 0 (suc (home_of o ps))

-- the place of a new key in the order: how many keys, from the first, are below it
unfoldable pub order_of : ℕ → List Position → ℕ
order_of o [] = 0
order_of o (p ∷ ps) = cond (ltb p.key o) (suc (order_of o ps)) 0

abbrev pub insert_at : {X : Type 0} → ℕ → X → List X → List X
insert_at p x l = take p l ++ x ∷ drop p l

abbrev pub place_on : ℕ → Position → Option Held
place_on zero p = p.primary
place_on (suc k) p = p.alternate

abbrev pub is_held : Option Held → Bool
is_held None = false
is_held (Some h) = true

abbrev pub taken : ℕ → Position → Bool
taken s p = is_held (place_on s p)

abbrev pub filled : ℕ → Held → Position → Position
filled zero h p = record { key = p.key; primary = Some h; alternate = p.alternate }
filled (suc k) h p = record { key = p.key; primary = p.primary; alternate = Some h }

abbrev pub no_position : Position
no_position = record { key = 0; primary = None; alternate = None }

-- a new position, whose key is the frame's offset
abbrev pub alone : ℕ → Held → Position
alone s h = filled s h (record { key = h.figures.offset; primary = None; alternate = None })

-- what a push answers, and what it leaves
pub record PushStep : Type 0 where
  pub answer : Result Keeping Refusal
  pub next : View

abbrev pub push_step : Result Keeping Refusal → View → PushStep
push_step a v = record { answer = a; next = v }

-- the frame belongs to the position at a place: kept there unless the stream's place is taken
abbrev pub join_of : ℕ → Held → View → ℕ → PushStep
join_of s h v at =
    cond (taken s (get_or v.pending at no_position)) (push_step (Ok Double) v)
    (push_step (Ok Kept) (view (set v.pending at (filled s h (get_or v.pending at no_position))) v.last))

-- 16 positions are pending
abbrev pub is_full : List Position → Bool
is_full l = leb 16 (length l)

-- the frame belongs to none: a new position, in order, while there is room
abbrev pub open_of : ℕ → Held → View → ℕ → PushStep
open_of s h v at =
    cond (is_full v.pending) (push_step (Err Positions) v)
    (push_step (Ok Kept) (view (insert_at at (alone s h) v.pending) v.last))

abbrev pub put_of : ℕ → Held → View → PushStep
put_of s h v =
    cond (ltb (home_of h.figures.offset v.pending) (length v.pending))
    (join_of s h v (home_of h.figures.offset v.pending))
    (open_of s h v (order_of h.figures.offset v.pending))

-- a push: refusals 7, 8, late, 9, in this order
abbrev pub push_of : ℕ → Held → View → PushStep
push_of s h v =
    cond (ltb 1 s) (push_step (Err Stream) v)
    (cond (ltb most_offset h.figures.offset) (push_step (Err Offset) v)
    (cond (is_late v.last h.figures.offset) (push_step (Ok Late) v)
    (put_of s h v)))

-- ── a release ──

-- a stream has delivered the position, or moved past it (an absent one has)
abbrev pub passed : Option ℕ → ℕ → Option Held → Bool
passed settled k (Some h) = true
passed None k None = true
passed (Some s) k None = ltb (k + 191) s

abbrev pub is_ready : Option ℕ → Option ℕ → Bool → Position → Bool
is_ready s₀ s₁ flush p = flush || (passed s₀ p.key p.primary && passed s₁ p.key p.alternate)

-- a frame that is chosen, and whether it is the alternate's
abbrev pub chosen : Held → Bool → Option Chosen
chosen h b = Some (record { frame = h; alternate = b })

-- the primary's frame, unless only the alternate's passes the check
abbrev pub choose_of : Option Held → Option Held → Option Chosen
choose_of (Some f) (Some g) = cond (f.check || not g.check) (chosen f false) (chosen g true)
choose_of (Some f) None = chosen f false
choose_of None (Some g) = chosen g true
choose_of None None = None

abbrev pub choice_of : Position → Option Chosen
choice_of p = choose_of p.primary p.alternate

-- a distance on the grid: the nearest multiple of 384, at least one
abbrev pub steps : ℕ → ℕ
steps d = max 1 ((d + 192) / frame_bits) * frame_bits

-- a frame less than 16 frames after the last release goes to its grid
abbrev pub snapped : Option ℕ → ℕ → ℕ
snapped None o = o
snapped (Some l) o = cond (ltb l o && ltb (o - l) (16 * frame_bits)) (l + steps (o - l)) o

abbrev pub is_after : Option ℕ → ℕ → Bool
is_after None o = true
is_after (Some l) o = ltb l o

-- the numbers that a position gives back: those of the frames that it holds
abbrev pub free_of : Option Held → Option ℕ
free_of None = None
free_of (Some h) = Some h.number

abbrev pub freed_of : Position → Freed
freed_of p = record { primary = free_of p.primary; alternate = free_of p.alternate }

abbrev pub none_freed : Freed
none_freed = freed_of no_position

-- what a release answers, the numbers that are free again, and what it leaves
pub record ReleaseStep : Type 0 where
  pub answer : Released
  pub freed : Freed
  pub next : View

abbrev pub release_step : Released → Freed → View → ReleaseStep
release_step a f v = record { answer = a; freed = f; next = v }

abbrev pub released_as : ℕ → Held → Bool → Release
released_as o h b = record { figures = record { offset = o; matched = h.figures.matched; errors = h.figures.errors; moves = h.figures.moves }; number = h.number; alternate = b }

-- what becomes of a position that is ready, with the others and the last release
abbrev pub settle : Option Chosen → Freed → List Position → Option ℕ → ReleaseStep
settle None f ps last = release_step PassedOver f (view ps last)
settle (Some c) f ps last =
    cond (is_after last (snapped last c.frame.figures.offset))
    (release_step (Frame (released_as (snapped last c.frame.figures.offset) c.frame c.alternate)) f (view ps (Some (snapped last c.frame.figures.offset))))
    (release_step PassedOver f (view ps last))

abbrev pub release_from : Option ℕ → Option ℕ → Bool → List Position → Option ℕ → ReleaseStep
release_from s₀ s₁ flush [] last = release_step NothingReady none_freed (view [] last)
release_from s₀ s₁ flush (p ∷ ps) last =
    cond (is_ready s₀ s₁ flush p) (settle (choice_of p) (freed_of p) ps last) (release_step NothingReady none_freed (view (p ∷ ps) last))

-- a release: of the first position alone
abbrev pub release_of : Option ℕ → Option ℕ → Bool → View → ReleaseStep
release_of s₀ s₁ flush v = release_from s₀ s₁ flush v.pending v.last
