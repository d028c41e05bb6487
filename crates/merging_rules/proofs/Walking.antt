-- Two recordings, turn by turn: their synchronisers go on as those of each alone, and all their frames are handed in.
-- Assumes nothing.
use Rattle.std.proofs.Common.{None}
use mathlib.Core.Path.{◌≡◌, refl, sym, ap, subst, ◌∙◌}
use mathlib.Core.List.{List, []}
use Prim.Native.Nat.{ℕ, zero, suc, ◌+◌, ◌≤◌, max}
use native.Mathlib.Omega.{arith}
use lib.ListN.{length, take, drop, length-append}
use lib.Seq.{take_all}
use Rattle.bits.specs.Alls.{All}
use Rattle.merging_shelf.specs.Slots.{used, taken_in}
use Rattle.merging_shelf.proofs.Shelving.{none_used}
use Rattle.recorder_rules.specs.Calls.{frames_for}
use Rattle.recorder_rules.specs.Makings.{Trying}
use Rattle.sync_call_rules.specs.Calls.{shown_as}
use Rattle.sync_call_rules.proofs.Shown.{shown_append}
use Rattle.sync_rules.specs.Counts.{state_after}
use Rattle.sync_rules.specs.Demand.{sent_by}
use Rattle.sync_rules.specs.Frames.{Frame}
use Rattle.sync_rules.specs.Pushes.{run}
use Rattle.sync_rules.specs.Sizes.{most_dibits}
use Rattle.sync_rules.specs.State.{State, Input}
use Rattle.sync_steps.specs.Feeds.{FedOut}
use Rattle.merging_rules.specs.Piles.{Pile, Handed, handed, then, no_pile, offered_all, all_released}
use Rattle.merging_rules.specs.Turns.{Turned, fed, made_of, turn, walk, begun, flushed, whole}
use Rattle.merging_rules.specs.Orders.{sent_for}
use Rattle.merging_rules.specs.Merged.{Dibits}
use Rattle.merging_rules.proofs.Piling.{Good, good_start, Fares, fares_then, fares_none}
use Rattle.merging_rules.proofs.Releasing.{times_fare, flush_empties}
use Rattle.merging_rules.proofs.Sending.{sent_fine}
use Rattle.merging_rules.proofs.Offering.{IsOf, all_fare}
use Rattle.merging_rules.proofs.Feeding.{up_to, Fed, fed_one, fed_next, fed_sent, fed_in}

-- what a turn hands on and leaves, as of a call
abbrev pub as_handed : Turned → Handed
as_handed t = handed t.both.pile t.out t.deeds

module _ (try : Trying) (xs ys : List Input) (dx : Dibits xs) (dy : Dibits ys) where
  abbrev pub fares : ℕ → Pile → Handed → Type 0
  fares = Fares try (sent_for xs) (sent_for ys)

  abbrev good : Pile → Type 0
  good = Good try (sent_for xs) (sent_for ys)

  -- the frames of both are handed in
  in_fares : (o q : FedOut) → All (IsOf (sent_for xs)) (shown_as o.sent) → All (IsOf (sent_for ys)) (shown_as q.sent) → (p : Pile) → good p
      → fares (length (shown_as o.sent) + length (shown_as q.sent)) p (then (offered_all try 0 (shown_as o.sent) p) (offered_all try 1 (shown_as q.sent)))
  in_fares o q a b p g =
      let gs = sent_for xs in
      let hs = sent_for ys in
      let m = length (shown_as o.sent) in
      let n = length (shown_as q.sent) in
      let f = offered_all try 0 (shown_as o.sent) p in
      let u : fares m p f = all_fare try gs hs (sent_fine xs dx) (sent_fine ys dy) 0 (omega arith) (shown_as o.sent) a p g in
      fares_then try gs hs m n (m + n) refl p f (offered_all try 1 (shown_as q.sent)) u (all_fare try gs hs (sent_fine xs dx) (sent_fine ys dy) 1 (omega arith) (shown_as q.sent) b f.pile u.good)

  -- and then all that is ready is released
  made_fares : (o q : FedOut) → All (IsOf (sent_for xs)) (shown_as o.sent) → All (IsOf (sent_for ys)) (shown_as q.sent) → (p : Pile) → good p
      → fares (length (shown_as o.sent) + length (shown_as q.sent)) p (made_of try o q p)
  made_fares o q a b p g =
      let n = length (shown_as o.sent) + length (shown_as q.sent) in
      let f = then (offered_all try 0 (shown_as o.sent) p) (offered_all try 1 (shown_as q.sent)) in
      let u : fares n p f = in_fares o q a b p g in
      fares_then try (sent_for xs) (sent_for ys) n 0 n (omega arith) p f (all_released _ _ _) u (times_fare try (sent_for xs) (sent_for ys) _ _ _ _ f.pile u.good)

  -- ---- the first n turns

  abbrev pub walk_to : ℕ → Turned
  walk_to n = walk n try xs ys begun

  pub record Walked (n : ℕ) : Type 0 where
    pub first : (walk_to n).both.first ≡ state_after (up_to n xs)
    pub second : (walk_to n).both.second ≡ state_after (up_to n ys)
    pub faring : fares (length (frames_for (up_to n xs)) + length (frames_for (up_to n ys))) no_pile (as_handed (walk_to n))

  walked_none : Walked 0
  unfolding walk sent_by run shown_as
  walked_none = record { first = refl; second = refl; faring = fares_none try (sent_for xs) (sent_for ys) no_pile (good_start try (sent_for xs) (sent_for ys)) }

  -- the feeds of turn n
  abbrev pub first_fed : ℕ → FedOut
  first_fed n = fed (take 1 (drop n xs)) (walk_to n).both.first

  abbrev pub second_fed : ℕ → FedOut
  second_fed n = fed (take 1 (drop n ys)) (walk_to n).both.second

  pub first_fed_lem : (n : ℕ) → Walked n → Fed xs n (state_after (up_to n xs)) (first_fed n)
  first_fed_lem n w = subst (λ (m : State). Fed xs n (state_after (up_to n xs)) (fed (take 1 (drop n xs)) m)) (sym w.first) (fed_one xs dx n)

  pub second_fed_lem : (n : ℕ) → Walked n → Fed ys n (state_after (up_to n ys)) (second_fed n)
  second_fed_lem n w = subst (λ (m : State). Fed ys n (state_after (up_to n ys)) (fed (take 1 (drop n ys)) m)) (sym w.second) (fed_one ys dy n)

  -- at most 16 positions wait once its frames are handed in
  pub few_wait : (n : ℕ) → Walked n
      → length (then (offered_all try 0 (shown_as (first_fed n).sent) (walk_to n).both.pile) (offered_all try 1 (shown_as (second_fed n).sent))).pile.merger.pending ≤ 16
  few_wait n w =
      (in_fares (first_fed n) (second_fed n) (fed_in xs n (first_fed n) (first_fed_lem n w)) (fed_in ys n (second_fed n) (second_fed_lem n w)) (walk_to n).both.pile w.faring.good).good.sound.few

  more_frames : (zs : List Input) (n : ℕ) (o : FedOut) → Fed zs n (state_after (up_to n zs)) o → length (frames_for (up_to (suc n) zs)) ≡ length (frames_for (up_to n zs)) + length (shown_as o.sent)
  more_frames zs n o f =
      let before = sent_by [] (up_to n zs) in
      ap (λ (l : List Frame). length (shown_as l)) (fed_sent zs n o f) ∙ ap length (shown_append before o.sent) ∙ length-append (shown_as before) (shown_as o.sent)

  walked_more : (n : ℕ) → Walked n → Walked (suc n)
  unfolding walk turn
  walked_more n w =
      let gs = sent_for xs in
      let hs = sent_for ys in
      let o = first_fed n in
      let q = second_fed n in
      let u = first_fed_lem n w in
      let v = second_fed_lem n w in
      let before = length (frames_for (up_to n xs)) + length (frames_for (up_to n ys)) in
      let new = length (shown_as o.sent) + length (shown_as q.sent) in
      let turned : fares new (walk_to n).both.pile (made_of try o q (walk_to n).both.pile) = made_fares o q (fed_in xs n o u) (fed_in ys n q v) (walk_to n).both.pile w.faring.good in
      record {
        first = fed_next xs n o u;
        second = fed_next ys n q v;
        faring = fares_then try gs hs before new (length (frames_for (up_to (suc n) xs)) + length (frames_for (up_to (suc n) ys))) (omega (arith, more_frames xs n o u, more_frames ys n q v))
            no_pile (as_handed (walk_to n)) (made_of try o q) w.faring turned;
      }

  pub walked_to : (n : ℕ) → Walked n
  walked_to zero = walked_none
  walked_to (suc n) = walked_more n (walked_to n)

  -- ---- all turns, and the flush

  pub all_of : (zs : List Input) (n : ℕ) → length zs ≤ n → up_to n zs ≡ take most_dibits zs
  all_of zs n h = ap (take most_dibits) (take_all n zs h)

  pub whole_fares : fares (length (sent_for xs) + length (sent_for ys)) no_pile (whole try xs ys)
  whole_fares =
      let n = max (length xs) (length ys) in
      let w = walked_to n in
      let many = length (frames_for (up_to n xs)) + length (frames_for (up_to n ys)) in
      let p = (walk_to n).both.pile in
      fares_then try (sent_for xs) (sent_for ys) many 0 (length (sent_for xs) + length (sent_for ys))
      (omega (arith, ap (λ (l : List Input). length (frames_for l)) (all_of xs n (omega arith)), ap (λ (l : List Input). length (frames_for l)) (all_of ys n (omega arith))))
      no_pile (as_handed (walk_to n)) flushed w.faring (times_fare try (sent_for xs) (sent_for ys) _ _ _ _ p w.faring.good)

  -- none is left waiting
  pub none_waits : used (taken_in (whole try xs ys).pile.shelf) ≡ 0
  none_waits =
      let n = max (length xs) (length ys) in
      let p = (walk_to n).both.pile in
      let g = whole_fares.good in
      none_used (taken_in (whole try xs ys).pile.shelf) (whole try xs ys).pile.merger.pending g.shelved
      (omega (arith, flush_empties 16 None None p, (walked_to n).faring.good.sound.few))
