-- All frames of both recordings are handed in, each stream's in their order.
-- Assumes nothing.
use Rattle.std.proofs.Common.{Option, None}
use mathlib.Core.Path.{◌≡◌, refl, sym, ap, subst, ◌∙◌}
use mathlib.Core.Bool.{Bool, true, false, true≢false}
use mathlib.Core.List.{List, [], ◌∷◌, ◌++◌, append_assoc, append-nil}
use Prim.Native.Nat.{ℕ, zero, suc, ◌≤◌, max}
use native.Mathlib.Omega.{arith}
use lib.ListN.{length}
use Rattle.bits.specs.Alls.{All}
use Rattle.bits.proofs.Conds.{cond_cases}
use Rattle.merger_rules.specs.Merging.{View, push_of, release_of}
use Rattle.merger_rules.specs.Scripts.{push, release, started}
use Rattle.merger_rules.specs.declared.Held.{Held}
use Rattle.recorder_rules.specs.Calls.{frames_for}
use Rattle.recorder_rules.specs.Makings.{Trying}
use Rattle.sync_call_rules.specs.Calls.{Got, shown_as}
use Rattle.sync_call_rules.proofs.Shown.{shown_append}
use Rattle.sync_rules.specs.Counts.{state_after}
use Rattle.sync_rules.specs.Demand.{sent_by}
use Rattle.sync_rules.specs.Pushes.{run}
use Rattle.sync_rules.specs.State.{Input}
use Rattle.sync_steps.specs.Feeds.{FedOut}
use Rattle.merging_rules.specs.Piles.{Deed, called, gave_way, Pile, Handed, then, decodes, held_for, push_for, insists, gives_way, offered, offered_all, released, released_times}
use Rattle.merging_rules.specs.Turns.{made_of, turn, walk, whole}
use Rattle.merging_rules.specs.Orders.{sent_for, without, LeavesOne, GaveWay, InOrder}
use Rattle.merging_rules.specs.Merged.{Dibits}
use Rattle.merging_rules.proofs.Sending.{Fine, sent_fine}
use Rattle.merging_rules.proofs.Piling.{frames_at, Good}
use Rattle.merging_rules.proofs.Offering.{IsOf, as_said, is_fine, refused_still, not_again, offered_fares, all_fare}
use Rattle.merging_rules.proofs.Yielding.{insists_decodes, not_refused_rests, leaves_one, gave_way_lem}
use Rattle.merging_rules.proofs.Feeding.{up_to, Fed, fed_sent, fed_in}
use Rattle.merging_rules.proofs.Walking.{walk_to, first_fed, second_fed, first_fed_lem, second_fed_lem, walked_to, all_of}

module _ (try : Trying) where
  -- a frame, and frames, of a stream in front of those that are still to be handed in
  abbrev First : Bool → ℕ → Got → List Got → List Got → List Deed → View → Type 0
  First again zero g gs hs cs v = InOrder try again (g ∷ gs) hs cs v
  First again (suc s) g gs hs cs v = InOrder try again gs (g ∷ hs) cs v

  abbrev Ahead : ℕ → List Got → List Got → List Got → List Deed → View → Type 0
  Ahead zero l gs hs cs v = InOrder try false (l ++ gs) hs cs v
  Ahead (suc s) l gs hs cs v = InOrder try false gs (l ++ hs) cs v

  -- ---- one deed

  -- one that decodes may take the last position
  decodes_on : (h : Held) (v w : View) → h.check ≡ true → LeavesOne h v w
  decodes_on h v w e f = absurd (true≢false (sym e ∙ f))

  push_done : (s : ℕ) (g : Got) (h : Held) (v : View) (gs hs : List Got) (rest : List Deed) → h.figures ≡ g.head → h.check ≡ decodes try g → insists h.check (push_of s h v).answer ≡ false
      → LeavesOne h v (push_of s h v).next → InOrder try false gs hs rest (push_of s h v).next → First false s g gs hs (called (push s h) ∷ rest) v
  push_done zero g h v gs hs rest f c n k r =
      ((f, c), k, subst (λ (b : Bool). InOrder try b (without b (g ∷ gs)) hs rest (push_of 0 h v).next) (sym (sym (as_said h.check (push_of 0 h v).answer) ∙ n)) r)
  push_done (suc s) g h v gs hs rest f c n k r =
      ((f, c), k, subst (λ (b : Bool). InOrder try b gs (without b (g ∷ hs)) rest (push_of (suc s) h v).next) (sym (sym (as_said h.check (push_of (suc s) h v).answer) ∙ n)) r)

  push_again : (s : ℕ) (g : Got) (h : Held) (v : View) (gs hs : List Got) (rest : List Deed) → h.figures ≡ g.head → h.check ≡ decodes try g → insists h.check (push_of s h v).answer ≡ true
      → First true s g gs hs rest (push_of s h v).next → First false s g gs hs (called (push s h) ∷ rest) v
  push_again zero g h v gs hs rest f c n r =
      ((f, c), decodes_on h v (push_of 0 h v).next (insists_decodes h.check (push_of 0 h v).answer n), subst (λ (b : Bool). InOrder try b (without b (g ∷ gs)) hs rest (push_of 0 h v).next) (sym (sym (as_said h.check (push_of 0 h v).answer) ∙ n)) r)
  push_again (suc s) g h v gs hs rest f c n r =
      ((f, c), decodes_on h v (push_of (suc s) h v).next (insists_decodes h.check (push_of (suc s) h v).answer n), subst (λ (b : Bool). InOrder try b gs (without b (g ∷ hs)) rest (push_of (suc s) h v).next) (sym (sym (as_said h.check (push_of (suc s) h v).answer) ∙ n)) r)

  way_given : (s : ℕ) (g : Got) (h : Held) (v : View) (gs hs : List Got) (rest : List Deed) → h.figures ≡ g.head → h.check ≡ decodes try g → GaveWay h v → InOrder try false gs hs rest v
      → First false s g gs hs (gave_way s h ∷ rest) v
  way_given zero g h v gs hs rest f c k r = ((f, c), k, r)
  way_given (suc s) g h v gs hs rest f c k r = ((f, c), k, r)

  -- the release before its time
  release_on : (s : ℕ) (g : Got) (a b : Option ℕ) (v : View) (gs hs : List Got) (rest : List Deed) → First false s g gs hs rest (release_of a b true v).next → First true s g gs hs (called (release a b true) ∷ rest) v
  release_on zero g a b v gs hs rest r = (tt, r)
  release_on (suc s) g a b v gs hs rest r = (tt, r)

  times_on : (n : ℕ) (a b : Option ℕ) (p : Pile) (gs hs : List Got) (rest : List Deed) → InOrder try false gs hs rest (released_times n a b false p).pile.merger → InOrder try false gs hs ((released_times n a b false p).deeds ++ rest) p.merger
  unfolding released_times
  times_on zero a b p gs hs rest r = r
  times_on (suc n) a b p gs hs rest r = times_on n a b (released a b false p).pile gs hs rest r

  flush_on : (n : ℕ) (a b : Option ℕ) (p : Pile) → InOrder try false [] [] (released_times n a b true p).deeds p.merger
  unfolding released_times
  flush_on zero a b p = (refl, refl)
  flush_on (suc n) a b p = ((refl, refl), flush_on n a b (released a b true p).pile)

  -- ---- frames

  module _ (gs hs : List Got) (fine : All Fine gs) (also : All Fine hs) where
    offered_first : (s : ℕ) → s ≤ 1 → (g : Got) → IsOf (frames_at try gs hs s) g → (p : Pile) → Good try gs hs p → (ks ls : List Got) (rest : List Deed)
        → InOrder try false ks ls rest (offered try s g p).pile.merger → First false s g ks ls ((offered try s g p).deeds ++ rest) p.merger
    offered_first s t g i p w ks ls rest =
        cond_cases (λ (h : Handed). InOrder try false ks ls rest h.pile.merger → First false s g ks ls (h.deeds ++ rest) p.merger) (insists (decodes try g) (push_for try s g p).answer) _ _
        (λ e r. push_again s g (held_for try g p) p.merger ks ls (called (release None None true) ∷ called (push s (held_for try g q)) ∷ rest) refl refl e
        (subst (First true s g ks ls (called (release None None true) ∷ called (push s (held_for try g q)) ∷ rest)) (sym (refused_still s (held_for try g p) p.merger (decodes try g) e))
        (release_on s g None None p.merger ks ls (called (push s (held_for try g q)) ∷ rest)
        (push_done s g (held_for try g q) q.merger ks ls rest refl refl (not_refused_rests (decodes try g) (push_for try s g q).answer (not_again try gs hs fine also s t g i p w))
        (decodes_on (held_for try g q) q.merger (push_for try s g q).next (insists_decodes (decodes try g) (push_for try s g p).answer e)) r))))
        (λ n. cond_cases (λ (h : Handed). InOrder try false ks ls rest h.pile.merger → First false s g ks ls (h.deeds ++ rest) p.merger) (gives_way try s g p) _ _
        (λ k r. way_given s g (held_for try g p) p.merger ks ls rest refl refl (gave_way_lem s (held_for try g p) p.merger t (omega (arith, (is_fine try gs hs fine also s g i).low)) k) r)
        (λ k r. push_done s g (held_for try g p) p.merger ks ls rest refl refl n (leaves_one s (held_for try g p) p.merger k) r))
      where
        q : Pile
        q = (released None None true p).pile

    put_ahead : (s : ℕ) (g : Got) (l ks ls : List Got) (cs ds : List Deed) (v w : View) → ((ks ls : List Got) → InOrder try false ks ls ds w → First false s g ks ls cs v) → Ahead s l ks ls ds w → Ahead s (g ∷ l) ks ls cs v
    put_ahead zero g l ks ls cs ds v w f r = f (l ++ ks) ls r
    put_ahead (suc s) g l ks ls cs ds v w f r = f ks (l ++ ls) r

    none_ahead : (s : ℕ) (ks ls : List Got) (cs : List Deed) (v : View) → InOrder try false ks ls cs v → Ahead s [] ks ls cs v
    none_ahead zero ks ls cs v r = r
    none_ahead (suc s) ks ls cs v r = r

    all_ahead : (s : ℕ) → s ≤ 1 → (l : List Got) → All (IsOf (frames_at try gs hs s)) l → (p : Pile) → Good try gs hs p → (ks ls : List Got) (rest : List Deed)
        → InOrder try false ks ls rest (offered_all try s l p).pile.merger → Ahead s l ks ls ((offered_all try s l p).deeds ++ rest) p.merger
    unfolding offered_all
    all_ahead s t [] a p w ks ls rest r = none_ahead s ks ls rest p.merger r
    all_ahead s t (g ∷ l) a p w ks ls rest r =
        let q = (offered try s g p).pile in
        let good = (offered_fares try gs hs fine also s t g a.0 p w).good in
        let more = (offered_all try s l q).deeds in
        subst (λ (cs : List Deed). Ahead s (g ∷ l) ks ls cs p.merger) (sym (append_assoc (offered try s g p).deeds more rest))
        (put_ahead s g l ks ls ((offered try s g p).deeds ++ (more ++ rest)) (more ++ rest) p.merger q.merger (λ ks ls. offered_first s t g a.0 p w ks ls (more ++ rest)) (all_ahead s t l a.1 q good ks ls rest r))

-- ---- turns

module _ (try : Trying) (xs ys : List Input) (dx : Dibits xs) (dy : Dibits ys) where
  abbrev fine_x : All Fine (sent_for xs)
  fine_x = sent_fine xs dx

  abbrev fine_y : All Fine (sent_for ys)
  fine_y = sent_fine ys dy

  -- frames of both, and then releases
  turn_ahead : (l m : List Got) → All (IsOf (sent_for xs)) l → All (IsOf (sent_for ys)) m → (p : Pile) → Good try (sent_for xs) (sent_for ys) p → (ks ls : List Got) (rest : List Deed) (n : ℕ) (c d : Option ℕ)
      → let two = then (offered_all try 0 l p) (offered_all try 1 m) in
      let last = released_times n c d false two.pile in
      InOrder try false ks ls rest last.pile.merger → InOrder try false (l ++ ks) (m ++ ls) ((two.deeds ++ last.deeds) ++ rest) p.merger
  turn_ahead l m a b p w ks ls rest n c d r =
      let one = offered_all try 0 l p in
      let good = (all_fare try (sent_for xs) (sent_for ys) fine_x fine_y 0 (omega arith) l a p w).good in
      let two = offered_all try 1 m one.pile in
      let last = released_times n c d false two.pile in
      let after = times_on try n c d two.pile ks ls rest r in
      let second : InOrder try false ks (m ++ ls) (two.deeds ++ (last.deeds ++ rest)) one.pile.merger
      = all_ahead try (sent_for xs) (sent_for ys) fine_x fine_y 1 (omega arith) m b one.pile good ks ls (last.deeds ++ rest) after in
      subst (λ (cs : List Deed). InOrder try false (l ++ ks) (m ++ ls) cs p.merger) (sym (append_assoc (one.deeds ++ two.deeds) last.deeds rest ∙ append_assoc one.deeds two.deeds (last.deeds ++ rest)))
      (all_ahead try (sent_for xs) (sent_for ys) fine_x fine_y 0 (omega arith) l a p w ks (m ++ ls) (two.deeds ++ (last.deeds ++ rest)) second)

  made_ahead : (o q : FedOut) → All (IsOf (sent_for xs)) (shown_as o.sent) → All (IsOf (sent_for ys)) (shown_as q.sent) → (p : Pile) → Good try (sent_for xs) (sent_for ys) p → (ks ls : List Got) (rest : List Deed)
      → InOrder try false ks ls rest (made_of try o q p).pile.merger → InOrder try false (shown_as o.sent ++ ks) (shown_as q.sent ++ ls) ((made_of try o q p).deeds ++ rest) p.merger
  made_ahead o q a b p w ks ls rest r = turn_ahead (shown_as o.sent) (shown_as q.sent) a b p w ks ls rest _ _ _ r

  frames_on : (zs : List Input) (n : ℕ) (o : FedOut) → Fed zs n (state_after (up_to n zs)) o → (ks : List Got) → frames_for (up_to n zs) ++ (shown_as o.sent ++ ks) ≡ frames_for (up_to (suc n) zs) ++ ks
  frames_on zs n o f ks =
      let before = sent_by [] (up_to n zs) in
      sym (append_assoc (shown_as before) (shown_as o.sent) ks) ∙ ap (λ (l : List Got). l ++ ks) (sym (shown_append before o.sent) ∙ ap shown_as (sym (fed_sent zs n o f)))

  walk_ahead : (n : ℕ) (ks ls : List Got) (rest : List Deed) → InOrder try false ks ls rest (walk_to try xs ys dx dy n).both.pile.merger
      → InOrder try false (frames_for (up_to n xs) ++ ks) (frames_for (up_to n ys) ++ ls) ((walk_to try xs ys dx dy n).deeds ++ rest) started
  unfolding walk turn sent_by run shown_as
  walk_ahead zero ks ls rest r = r
  walk_ahead (suc n) ks ls rest r =
      let w = walked_to try xs ys dx dy n in
      let o = first_fed try xs ys dx dy n in
      let q = second_fed try xs ys dx dy n in
      let u = first_fed_lem try xs ys dx dy n w in
      let v = second_fed_lem try xs ys dx dy n w in
      let before = walk_to try xs ys dx dy n in
      let made = (made_of try o q before.both.pile).deeds in
      let cs = before.deeds ++ (made ++ rest) in
      subst (λ (ds : List Deed). InOrder try false (frames_for (up_to (suc n) xs) ++ ks) (frames_for (up_to (suc n) ys) ++ ls) ds started) (sym (append_assoc before.deeds made rest))
      (subst (λ (l : List Got). InOrder try false l (frames_for (up_to (suc n) ys) ++ ls) cs started) (frames_on xs n o u ks)
      (subst (λ (l : List Got). InOrder try false (frames_for (up_to n xs) ++ (shown_as o.sent ++ ks)) l cs started) (frames_on ys n q v ls)
      (walk_ahead n (shown_as o.sent ++ ks) (shown_as q.sent ++ ls) (made ++ rest) (made_ahead o q (fed_in xs n o u) (fed_in ys n q v) before.both.pile w.faring.good ks ls rest r))))

  pub in_order : InOrder try false (sent_for xs) (sent_for ys) (whole try xs ys).deeds started
  in_order =
      let n = max (length xs) (length ys) in
      let w = walk_to try xs ys dx dy n in
      let flush = released_times 16 None None true w.both.pile in
      let all : (zs : List Input) → length zs ≤ n → frames_for (up_to n zs) ++ [] ≡ sent_for zs = λ zs h. append-nil (frames_for (up_to n zs)) ∙ ap frames_for (all_of try xs ys dx dy zs n h) in
      subst (λ (l : List Got). InOrder try false l (sent_for ys) (w.deeds ++ flush.deeds) started) (all xs (omega arith))
      (subst (λ (l : List Got). InOrder try false (frames_for (up_to n xs) ++ []) l (w.deeds ++ flush.deeds) started) (all ys (omega arith))
      (walk_ahead n [] [] flush.deeds (flush_on try 16 None None w.both.pile)))
