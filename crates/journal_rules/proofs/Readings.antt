-- What a record says, test by test.
-- Assumes nothing.
use Rattle.std.proofs.Common.{Result, Ok, Err}
use mathlib.Core.Path.{◌≡◌, sym, ap, ap₂}
use mathlib.Core.Bool.{Bool, true, cond, ◌&&◌}
use mathlib.Core.List.{List}
use Prim.Native.Nat.{ℕ, ◌≤◌}
use lib.Dec.{leb, eqb}
use lib.ListN.{length, take, drop, get_or}
use borrow.Author.Tests.{le-leb}
use Rattle.journal_rules.specs.declared.Body.TheVariants.{Frame, Gap}
use Rattle.journal_rules.specs.declared.Entry.{Entry}
use Rattle.bits.specs.declared.Refusal.TheVariants.{Record}
use Rattle.journal_rules.specs.Record.{allowed, entry_at}
use Rattle.journal_rules.specs.Reading.{all_zero, offset_in, length_in, figures_in, read_gap, read_frame, read_of}
use Rattle.bits.specs.declared.Refusal.{Refusal}

abbrev pub unread : Result Entry Refusal
unread = Err Record

-- the entry at a gap's places of a record, and at a frame's
abbrev pub gap_in : List ℕ → Entry
gap_in r = entry_at (offset_in r) (Gap (length_in r))

abbrev pub frame_in : List ℕ → Entry
frame_in r = entry_at (offset_in r) (Frame (figures_in r))

module _ (r : List ℕ) where
  frame_by : (a b z g : Bool) → leb (get_or r 9 0) 1 ≡ a → leb (get_or r 11 0) 2 ≡ b → all_zero (take 3 (drop 13 r)) ≡ z → allowed (frame_in r) ≡ g → cond (a && b && z && g) (Ok (frame_in r)) unread ≡ read_frame r
  frame_by a b z g p q s t = ap (λ (x : Bool). cond x (Ok (frame_in r)) unread) (sym (ap₂ ◌&&◌ (ap₂ ◌&&◌ (ap₂ ◌&&◌ p q) s) t))

  pub frame_yes : get_or r 9 0 ≤ 1 → get_or r 11 0 ≤ 2 → all_zero (take 3 (drop 13 r)) ≡ true → allowed (frame_in r) ≡ true → Ok (frame_in r) ≡ read_frame r
  frame_yes h k z g = frame_by true true true true (le-leb (get_or r 9 0) 1 h) (le-leb (get_or r 11 0) 2 k) z g

module _ (size : ℕ) (r : List ℕ) where
  pub read_by : (s k g : Bool) → eqb (length r) size ≡ s → eqb (get_or r 8 0) 0 ≡ k → eqb (get_or r 8 0) 1 ≡ g
      → cond s (cond k (read_frame r) (cond g (read_gap r) unread)) unread ≡ read_of size r
  read_by s k g p q t =
      sym (ap₂ (λ (x : Bool) (y : Result Entry Refusal). cond x y unread) p (ap₂ (λ (x : Bool) (y : Result Entry Refusal). cond x (read_frame r) y) q (ap (λ (x : Bool). cond x (read_gap r) unread) t)))
