-- The slots of the shelf: which are taken, and which are freed by the numbers that the merger gives back.
-- Assumes nothing.
use Rattle.std.specs.Prelude.{Bool, false, cond, List, [], ◌∷◌, map, ℕ, suc, ◌+◌, ◌<◌, get_or, set, replicate, Option, Some, None}
use Rattle.bits.specs.Bit.{sum}
use Rattle.journal_rules.specs.declared.Outcome.TheVariants.{Untried}
use Rattle.merger_rules.specs.declared.Freed.{Freed}
use Rattle.merging_shelf.specs.declared.Shelf.{Shelf}
use Rattle.merging_shelf.specs.declared.Slot.{Slot}

-- a slot for each of the two frames of 16 positions, and one for the frame that is handed in
abbrev pub shelf_slots : ℕ
shelf_slots = 33

-- 1 where a slot is taken
unfoldable pub bit_at : List Bool → ℕ → ℕ
bit_at taken x = cond (get_or taken x false) 1 0

-- how many slots are taken
unfoldable pub used : List Bool → ℕ
used taken = sum shelf_slots (bit_at taken)

-- the first free slot of the shelf: its place is the number that the merger gets with the frame
unfoldable pub free_slot : List Bool → ℕ
free_slot [] = 0
free_slot (t ∷ ts) = cond t (suc (free_slot ts)) 0

-- a number that a place gives back is a slot's
abbrev pub IsSlot : Option ℕ → Type 0
IsSlot None = Unit {0}
IsSlot (Some n) = n < shelf_slots

-- the slots with that one free again
abbrev pub cleared : Option ℕ → List Bool → List Bool
cleared None taken = taken
cleared (Some n) taken = set taken n false

-- how many numbers a place, and a position, gives back
abbrev pub count_free : Option ℕ → ℕ
count_free None = 0
count_free (Some n) = 1

abbrev pub count_freed : Freed → ℕ
count_freed f = count_free f.primary + count_free f.alternate

-- ---- what lies in the slots

-- a slot in which nothing was laid
abbrev pub empty_slot : Slot
empty_slot = record { taken = false; tried = record { outcome = Untried; corrected = 0 }; envelope = replicate 48 0 }

-- which slots are taken
abbrev pub taken_in : Shelf → List Bool
taken_in s = map (λ (t : Slot). t.taken) s.slots

-- a slot by its number; there is none past the last one
abbrev pub no_slot : Slot
no_slot = record { taken = false; tried = record { outcome = Untried; corrected = 0 }; envelope = [] }

abbrev pub slot_at : List Slot → ℕ → Slot
slot_at slots n = get_or slots n no_slot

-- a slot that is free again: what was laid there stays
abbrev pub freed : Slot → Slot
freed t = record { taken = false; tried = t.tried; envelope = t.envelope }

-- the slots with that one free again, whose number a place gives back
abbrev pub cleared_slots : Option ℕ → List Slot → List Slot
cleared_slots None slots = slots
cleared_slots (Some n) slots = set slots n (freed (slot_at slots n))
