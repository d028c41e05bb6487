-- After each turn nothing that waits is ready.
-- Assumes nothing.
use Rattle.std.proofs.Common.{Option}
use mathlib.Core.Path.{◌≡◌, refl, sym, ap, subst}
use mathlib.Core.Bool.{Bool, false}
use mathlib.Core.List.{List, [], ◌∷◌}
use Prim.Native.Nat.{ℕ, zero, suc, ◌≤◌}
use native.Mathlib.Omega.{arith}
use lib.ListN.{length}
use Rattle.merge_stretches.specs.Stretches.{settled_of}
use Rattle.merger_rules.specs.Merging.{View, release_of}
use Rattle.merger_rules.specs.declared.Position.{Position}
use Rattle.merger_rules.specs.declared.Released.{Released}
use Rattle.merger_rules.specs.declared.Released.TheVariants.{Frame, PassedOver, NothingReady}
use Rattle.recorder_rules.specs.Makings.{Trying}
use Rattle.sync_call_rules.specs.Calls.{shown_as}
use Rattle.sync_rules.specs.Counts.{state_after}
use Rattle.sync_rules.specs.State.{Input}
use Rattle.merging_rules.specs.Piles.{Pile, then, offered_all, released, released_times}
use Rattle.merging_rules.specs.Turns.{turn, walk}
use Rattle.merging_rules.proofs.Handing.{idle_times}
use Rattle.merging_rules.proofs.Takings.{taken_by, release_fell}
use Rattle.merging_rules.specs.Settling.{settled_at, Prompt}
use Rattle.merging_rules.specs.Merged.{Dibits}
use Rattle.merging_rules.proofs.Feeding.{up_to, settled_as}
use Rattle.merging_rules.proofs.Walking.{walk_to, first_fed, second_fed, first_fed_lem, second_fed_lem, few_wait, walked_to}

-- ---- as often released as positions wait

module _ (a b : Option ℕ) (flush : Bool) where
  abbrev Rests : View → Type 0
  Rests v = (release_of a b flush v).answer ≡ NothingReady

  times_stay : (n : ℕ) (p : Pile) → Rests p.merger → Rests (released_times n a b flush p).pile.merger
  times_stay n p e = subst (λ (q : Pile). Rests q.merger) (sym (idle_times a b flush n p e).pile) e

  empty_rests : (l : List Position) (last : Option ℕ) → length l ≤ 0 → Rests (record { pending = l; last = last })
  empty_rests [] last h = refl
  empty_rests (p ∷ ps) last h = absurd (omega arith)

  pub times_rest : (n : ℕ) (p : Pile) → length p.merger.pending ≤ n → Rests (released_times n a b flush p).pile.merger
  unfolding released_times
  times_rest zero p h = empty_rests p.merger.pending p.merger.last h
  times_rest (suc n) p h = by (release_of a b flush p.merger).answer refl (times_rest n (released a b flush p).pile)
    where
      fewer : (r : Released) → (release_of a b flush p.merger).answer ≡ r → taken_by r ≡ 1 → length (released a b flush p).pile.merger.pending ≤ n
      fewer r e k = omega (arith, ap taken_by e, release_fell a b flush p.merger.pending p.merger.last)

      next : Pile
      next = (released a b flush p).pile

      by : (r : Released) → (release_of a b flush p.merger).answer ≡ r → (length next.merger.pending ≤ n → Rests (released_times n a b flush next).pile.merger) → Rests (released_times n a b flush next).pile.merger
      by (Frame r) e rest = rest (fewer (Frame r) e refl)
      by PassedOver e rest = rest (fewer PassedOver e refl)
      by NothingReady e rest = times_stay (suc n) p e

-- ---- after each turn

module _ (try : Trying) (xs ys : List Input) (dx : Dibits xs) (dy : Dibits ys) where
  pub prompt : (n : ℕ) → Prompt try xs ys n
  unfolding walk turn
  prompt zero = refl
  prompt (suc n) =
      let w = walked_to try xs ys dx dy n in
      let o = first_fed try xs ys dx dy n in
      let q = second_fed try xs ys dx dy n in
      let v = (walk_to try xs ys dx dy (suc n)).both.pile.merger in
      let p = (then (offered_all try 0 (shown_as o.sent) (walk_to try xs ys dx dy n).both.pile) (offered_all try 1 (shown_as q.sent))).pile in
      subst (λ (k : Option ℕ). (release_of k (settled_at (suc n) ys q.next) false v).answer ≡ NothingReady) (settled_as xs n (state_after (up_to n xs)) o (first_fed_lem try xs ys dx dy n w))
      (subst (λ (k : Option ℕ). (release_of (settled_of o) k false v).answer ≡ NothingReady) (settled_as ys n (state_after (up_to n ys)) q (second_fed_lem try xs ys dx dy n w))
      (times_rest (settled_of o) (settled_of q) false 16 p (few_wait try xs ys dx dy n w)))
