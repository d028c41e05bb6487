-- In each turn the primary's frames are handed in before the alternate's.
-- Assumes nothing.
use Rattle.std.proofs.Common.{Option, None}
use mathlib.Core.Path.{sym, subst, ◌∙◌}
use mathlib.Core.Bool.{Bool, true, false}
use mathlib.Core.List.{List, [], ◌∷◌, ◌++◌, append_assoc}
use Prim.Native.Nat.{ℕ, zero, suc, max}
use lib.ListN.{length, take, drop}
use Rattle.bits.proofs.Conds.{cond_both}
use Rattle.recorder_rules.specs.Makings.{Trying}
use Rattle.sync_call_rules.specs.Calls.{Got}
use Rattle.sync_rules.specs.State.{Input}
use Rattle.sync_steps.specs.Feeds.{FedOut}
use Rattle.merging_rules.specs.Piles.{Deed, Pile, Handed, then, decodes, push_for, insists, gives_way, offered, offered_all, released, released_times}
use Rattle.merging_rules.specs.Turns.{fed, made_of, turn, walk, begun, whole}
use Rattle.merging_rules.specs.Orders.{PrimaryFirst}

-- ---- frames of a stream

module _ (try : Trying) where
  offered_first : (g : Got) (p : Pile) (rest : List Deed) → PrimaryFirst false rest → PrimaryFirst false ((offered try 0 g p).deeds ++ rest)
  offered_first g p rest r = cond_both (λ (h : Handed). PrimaryFirst false (h.deeds ++ rest)) (insists (decodes try g) (push_for try 0 g p).answer) _ _ r (cond_both (λ (h : Handed). PrimaryFirst false (h.deeds ++ rest)) (gives_way try 0 g p) _ _ r r)

  all_first : (l : List Got) (p : Pile) (rest : List Deed) → PrimaryFirst false rest → PrimaryFirst false ((offered_all try 0 l p).deeds ++ rest)
  unfolding offered_all
  all_first [] p rest r = r
  all_first (g ∷ l) p rest r =
      let q = (offered try 0 g p).pile in
      subst (PrimaryFirst false) (sym (append_assoc (offered try 0 g p).deeds (offered_all try 0 l q).deeds rest)) (offered_first g p ((offered_all try 0 l q).deeds ++ rest) (all_first l q rest r))

  -- the alternate's, behind which either may come
  abbrev Either : List Deed → Type 0
  Either cs = (b : Bool) → PrimaryFirst b cs

  offered_second : (g : Got) (p : Pile) (rest : List Deed) → Either rest → Either ((offered try 1 g p).deeds ++ rest)
  offered_second g p rest r b = cond_both (λ (h : Handed). PrimaryFirst b (h.deeds ++ rest)) (insists (decodes try g) (push_for try 1 g p).answer) _ _ (r true) (cond_both (λ (h : Handed). PrimaryFirst b (h.deeds ++ rest)) (gives_way try 1 g p) _ _ (r true) (r true))

  all_second : (l : List Got) (p : Pile) (rest : List Deed) → Either rest → Either ((offered_all try 1 l p).deeds ++ rest)
  unfolding offered_all
  all_second [] p rest r = r
  all_second (g ∷ l) p rest r =
      let q = (offered try 1 g p).pile in
      subst Either (sym (append_assoc (offered try 1 g p).deeds (offered_all try 1 l q).deeds rest)) (offered_second g p ((offered_all try 1 l q).deeds ++ rest) (all_second l q rest r))

  -- ---- releases

  times_first : (n : ℕ) (a b : Option ℕ) (p : Pile) (rest : List Deed) → PrimaryFirst false rest → PrimaryFirst false ((released_times n a b false p).deeds ++ rest)
  unfolding released_times
  times_first zero a b p rest r = r
  times_first (suc n) a b p rest r = times_first n a b (released a b false p).pile rest r

  times_either : (n : ℕ) (a b : Option ℕ) (p : Pile) (rest : List Deed) → PrimaryFirst false rest → Either ((released_times (suc n) a b false p).deeds ++ rest)
  unfolding released_times
  times_either n a b p rest r c = times_first n a b (released a b false p).pile rest r

  flush_first : (n : ℕ) (a b : Option ℕ) (p : Pile) → PrimaryFirst false (released_times n a b true p).deeds
  unfolding released_times
  flush_first zero a b p = tt
  flush_first (suc n) a b p = flush_first n a b (released a b true p).pile

  -- ---- turns

  turn_first : (l m : List Got) (p : Pile) (n : ℕ) (a b : Option ℕ) (rest : List Deed) → PrimaryFirst false rest
      → let two = then (offered_all try 0 l p) (offered_all try 1 m) in PrimaryFirst false ((two.deeds ++ (released_times (suc n) a b false two.pile).deeds) ++ rest)
  turn_first l m p n a b rest r =
      let one = offered_all try 0 l p in
      let two = offered_all try 1 m one.pile in
      let last = released_times (suc n) a b false two.pile in
      subst (PrimaryFirst false) (sym (append_assoc (one.deeds ++ two.deeds) last.deeds rest ∙ append_assoc one.deeds two.deeds (last.deeds ++ rest)))
      (all_first l p (two.deeds ++ (last.deeds ++ rest)) (all_second m one.pile (last.deeds ++ rest) (times_either n a b two.pile rest r) false))

  made_first : (o q : FedOut) (p : Pile) (rest : List Deed) → PrimaryFirst false rest → PrimaryFirst false ((made_of try o q p).deeds ++ rest)
  made_first o q p rest r = turn_first _ _ p 15 _ _ rest r

  walk_first : (n : ℕ) (xs ys : List Input) (rest : List Deed) → PrimaryFirst false rest → PrimaryFirst false ((walk n try xs ys begun).deeds ++ rest)
  unfolding walk turn
  walk_first zero xs ys rest r = r
  walk_first (suc n) xs ys rest r =
      let w = walk n try xs ys begun in
      let o = fed (take 1 (drop n xs)) w.both.first in
      let q = fed (take 1 (drop n ys)) w.both.second in
      subst (PrimaryFirst false) (sym (append_assoc w.deeds (made_of try o q w.both.pile).deeds rest)) (walk_first n xs ys ((made_of try o q w.both.pile).deeds ++ rest) (made_first o q w.both.pile rest r))

  pub primary_first : (xs ys : List Input) → PrimaryFirst false (whole try xs ys).deeds
  primary_first xs ys =
      let n = max (length xs) (length ys) in
      let p = (walk n try xs ys begun).both.pile in
      walk_first n xs ys (released_times 16 None None true p).deeds (flush_first 16 None None p)
