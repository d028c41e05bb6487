-- Each stream keeps what the releases promise of it: no frame comes below what was called settled.
-- Assumes nothing.
use Rattle.std.proofs.Common.{Option, Some, None}
use mathlib.Core.Path.{◌≡◌, sym, ap, subst, ◌∙◌}
use mathlib.Core.Bool.{true, false}
use mathlib.Core.List.{List, [], ◌∷◌, ◌++◌, append_assoc, append-nil}
use Prim.Native.Nat.{ℕ, zero, suc, max}
use native.Mathlib.Omega.{arith}
use lib.ListN.{length}
use Rattle.bits.specs.Alls.{All}
use Rattle.bits.proofs.Conds.{cond_both, cond_le}
use Rattle.merge_stretches.specs.Stretches.{settled_of}
use Rattle.merger_rules.specs.Scripts.{push, release}
use Rattle.merger_rules.specs.declared.Held.{Held}
use Rattle.recorder_rules.specs.Makings.{Trying}
use Rattle.sync_call_rules.specs.Calls.{Got, shown_as}
use Rattle.sync_rules.specs.Counts.{state_after}
use Rattle.sync_rules.specs.Pushes.{run}
use Rattle.sync_rules.specs.State.{Input}
use Rattle.sync_steps.specs.Feeds.{FedOut}
use Rattle.merging_rules.specs.Piles.{Deed, called, gave_way, Pile, Handed, then, held_for, decodes, push_for, insists, gives_way, offered, offered_all, released, released_times}
use Rattle.merging_rules.specs.Turns.{made_of, turn, walk, whole}
use Rattle.merging_rules.specs.Settling.{Open, Further, Promised, settled_at}
use Rattle.merging_rules.specs.Merged.{Dibits}
use Rattle.merging_rules.proofs.Feeding.{up_to, many, Fed, fed_next, settled_as, fed_open, fed_further}
use Rattle.merging_rules.proofs.Walking.{walk_to, first_fed, second_fed, first_fed_lem, second_fed_lem, walked_to}

-- what is promised of a stream
abbrev OpenFor : ℕ → Option ℕ → Option ℕ → ℕ → Type 0
OpenFor zero a b o = Open a o
OpenFor (suc s) a b o = Open b o

same : (c : Option ℕ) → Further c c
same None = tt
same (Some c) = omega arith

module _ (try : Trying) (a b : Option ℕ) (rest : List Deed) (r : Promised a b rest) where
  -- ---- frames that are handed in

  push_keeps : (s : ℕ) (h : Held) (more : List Deed) → OpenFor s a b h.figures.offset → Promised a b more → Promised a b (called (push s h) ∷ more)
  push_keeps zero h more o m = (o, m)
  push_keeps (suc s) h more o m = (o, m)

  way_keeps : (s : ℕ) (h : Held) (more : List Deed) → OpenFor s a b h.figures.offset → Promised a b more → Promised a b (gave_way s h ∷ more)
  way_keeps zero h more o m = (o, m)
  way_keeps (suc s) h more o m = (o, m)

  offered_keeps : (s : ℕ) (g : Got) (p : Pile) (more : List Deed) → OpenFor s a b g.head.offset → Promised a b more → Promised a b ((offered try s g p).deeds ++ more)
  offered_keeps s g p more o m =
      let q = (released None None true p).pile in
      cond_both (λ (h : Handed). Promised a b (h.deeds ++ more)) (insists (decodes try g) (push_for try s g p).answer) _ _
      (push_keeps s (held_for try g p) (called (release None None true) ∷ called (push s (held_for try g q)) ∷ more) o (push_keeps s (held_for try g q) more o m))
      (cond_both (λ (h : Handed). Promised a b (h.deeds ++ more)) (gives_way try s g p) _ _ (way_keeps s (held_for try g p) more o m) (push_keeps s (held_for try g p) more o m))

  all_keep : (s : ℕ) (l : List Got) (p : Pile) (more : List Deed) → All (λ (g : Got). OpenFor s a b g.head.offset) l → Promised a b more → Promised a b ((offered_all try s l p).deeds ++ more)
  unfolding offered_all
  all_keep s [] p more o m = m
  all_keep s (g ∷ l) p more o m =
      let q = (offered try s g p).pile in
      subst (Promised a b) (sym (append_assoc (offered try s g p).deeds (offered_all try s l q).deeds more)) (offered_keeps s g p ((offered_all try s l q).deeds ++ more) o.0 (all_keep s l q more o.1 m))

  -- ---- releases

  -- with what is promised already
  again_keep : (n : ℕ) (p : Pile) → Promised a b ((released_times n a b false p).deeds ++ rest)
  unfolding released_times
  again_keep zero p = r
  again_keep (suc n) p = (same a, same b, again_keep n (released a b false p).pile)

  -- as at a flush
  pub flush_keeps : (n : ℕ) (p : Pile) → Promised a b ((released_times n None None true p).deeds ++ rest)
  unfolding released_times
  flush_keeps zero p = r
  flush_keeps (suc n) p = flush_keeps n (released None None true p).pile

  -- further than before
  pub times_keep : (c d : Option ℕ) → Further c a → Further d b → (n : ℕ) (p : Pile) → Promised c d ((released_times (suc n) a b false p).deeds ++ rest)
  unfolding released_times
  times_keep c d u v n p = (u, v, again_keep n (released a b false p).pile)

-- ---- a turn

module _ (try : Trying) (xs ys : List Input) (dx : Dibits xs) (dy : Dibits ys) where
  -- what is promised after n turns
  abbrev said_of : List Input → ℕ → Option ℕ
  said_of zs n = settled_at n zs (state_after (up_to n zs))

  -- frames of both, and then releases with what is promised from then on
  turn_keeps : (l m : List Got) (p : Pile) (a b : Option ℕ) (rest : List Deed) → All (λ (g : Got). Open a g.head.offset) l → All (λ (g : Got). Open b g.head.offset) m
      → (n : ℕ) (c d : Option ℕ) → Further a c → Further b d → Promised c d rest
      → let two = then (offered_all try 0 l p) (offered_all try 1 m) in Promised a b ((two.deeds ++ (released_times (suc n) c d false two.pile).deeds) ++ rest)
  turn_keeps l m p a b rest u v n c d f g r =
      let one = offered_all try 0 l p in
      let two = offered_all try 1 m one.pile in
      let last = released_times (suc n) c d false two.pile in
      let after : Promised a b (last.deeds ++ rest) = times_keep try c d rest r a b f g n two.pile in
      subst (Promised a b) (sym (append_assoc (one.deeds ++ two.deeds) last.deeds rest ∙ append_assoc one.deeds two.deeds (last.deeds ++ rest)))
      (all_keep try a b (last.deeds ++ rest) after 0 l p (two.deeds ++ (last.deeds ++ rest)) u (all_keep try a b (last.deeds ++ rest) after 1 m one.pile (last.deeds ++ rest) v after))

  made_keeps : (o q : FedOut) (p : Pile) (a b : Option ℕ) (rest : List Deed) → All (λ (g : Got). Open a g.head.offset) (shown_as o.sent) → All (λ (g : Got). Open b g.head.offset) (shown_as q.sent)
      → Further a (settled_of o) → Further b (settled_of q) → Promised (settled_of o) (settled_of q) rest → Promised a b ((made_of try o q p).deeds ++ rest)
  made_keeps o q p a b rest u v f g r = turn_keeps (shown_as o.sent) (shown_as q.sent) p a b rest u v 15 _ _ f g r

  settled_said : (zs : List Input) (n : ℕ) (o : FedOut) → Fed zs n (state_after (up_to n zs)) o → said_of zs (suc n) ≡ settled_of o
  settled_said zs n o f = sym (settled_as zs n (state_after (up_to n zs)) o f ∙ ap (settled_at (suc n) zs) (fed_next zs n o f))

  said_first : (zs : List Input) → said_of zs 0 ≡ Some 0
  unfolding run
  said_first zs = cond_le {A = (Option ℕ)} 0 (many zs) _ _ (omega arith)

  -- ---- all turns

  walk_keeps : (n : ℕ) (rest : List Deed) → Promised (said_of xs n) (said_of ys n) rest → Promised (Some 0) (Some 0) ((walk_to try xs ys dx dy n).deeds ++ rest)
  unfolding walk turn
  walk_keeps zero rest r = subst (λ (k : Option ℕ). Promised k (Some 0) rest) (said_first xs) (subst (λ (k : Option ℕ). Promised (said_of xs 0) k rest) (said_first ys) r)
  walk_keeps (suc n) rest r =
      let w = walked_to try xs ys dx dy n in
      let o = first_fed try xs ys dx dy n in
      let q = second_fed try xs ys dx dy n in
      let u = first_fed_lem try xs ys dx dy n w in
      let v = second_fed_lem try xs ys dx dy n w in
      let before = walk_to try xs ys dx dy n in
      let made = (made_of try o q before.both.pile).deeds in
      let then-on : Promised (settled_of o) (settled_of q) rest = subst (λ (k : Option ℕ). Promised k (settled_of q) rest) (settled_said xs n o u) (subst (λ (k : Option ℕ). Promised (said_of xs (suc n)) k rest) (settled_said ys n q v) r) in
      subst (Promised (Some 0) (Some 0)) (sym (append_assoc before.deeds made rest))
      (walk_keeps n (made ++ rest) (made_keeps o q before.both.pile (said_of xs n) (said_of ys n) rest (fed_open xs dx n o u) (fed_open ys dy n q v) (fed_further xs dx n o u) (fed_further ys dy n q v) then-on))

  pub promised : Promised (Some 0) (Some 0) (whole try xs ys).deeds
  promised =
      let n = max (length xs) (length ys) in
      let w = walk_to try xs ys dx dy n in
      let flush = (released_times 16 None None true w.both.pile).deeds in
      walk_keeps n flush
      (subst (Promised (said_of xs n) (said_of ys n)) (append-nil flush) (flush_keeps try (said_of xs n) (said_of ys n) [] tt 16 w.both.pile))
