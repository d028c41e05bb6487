-- Numbers: what was kept is given back once or pending, and what is handed on is given back. Assumes nothing.
use Rattle.std.proofs.Common.{Option, Some, None}
use mathlib.Core.Path.{◌≡◌, refl, ap, ◌∙◌}
use mathlib.Core.Bool.{Bool, true, false, not, ◌||◌}
use mathlib.Core.List.{List, [], ◌∷◌, ◌++◌}
use Prim.Native.Nat.{ℕ, zero, suc, ◌+◌, ◌<◌, ◌≤◌}
use native.Mathlib.Nat.{not-suc-le-zero, le_of_suc-le-suc}
use native.Mathlib.Omega.{arith}
use lib.ListN.{length, get_or, set}
use Rattle.bits.proofs.Conds.{cond_both}
use Rattle.merger_rules.specs.declared.Held.{Held}
use Rattle.merger_rules.specs.declared.Freed.{Freed}
use Rattle.merger_rules.specs.declared.Position.{Position}
use Rattle.merger_rules.specs.declared.Chosen.{Chosen}
use Rattle.merger_rules.specs.declared.Release.{Release}
use Rattle.merger_rules.specs.Merging.{chosen, View, home_of, order_of, insert_at, is_held, taken, filled, no_position, alone, PushStep, push_of, is_ready, choose_of, choice_of, snapped, is_after, free_of, freed_of, ReleaseStep, settle, release_from, release_of}
use Rattle.merger_rules.specs.Scripts.{Call, started, given, releases, left, push, release}
use Rattle.merger_rules.specs.Counts.{one, in_place, in_free, pending_of, released_of, kept_by, kept_of, in_freed, freed_in}
use Rattle.merger_rules.proofs.Contrary.{contrary}
use Rattle.merger_rules.proofs.Pushes.{push_cases, join_cases, open_cases}

module _ (x : ℕ) where
  empty : (q : Option Held) → is_held q ≡ false → in_place x q ≡ 0
  empty None e = refl
  empty (Some h) e = contrary cc

  place_filled : (s : ℕ) (h : Held) (p : Position) → taken s p ≡ false
      → in_place x (filled s h p).primary + in_place x (filled s h p).alternate ≡ one x h.number + (in_place x p.primary + in_place x p.alternate)
  place_filled zero h p e = let z : in_place x p.primary ≡ 0 = empty p.primary e in omega arith
  place_filled (suc s) h p e = let z : in_place x p.alternate ≡ 0 = empty p.alternate e in omega arith

  place_alone : (s : ℕ) (h : Held) → in_place x (alone s h).primary + in_place x (alone s h).alternate ≡ one x h.number
  place_alone zero h = omega arith
  place_alone (suc s) h = omega arith

  pending_set : (l : List Position) (i : ℕ) (s : ℕ) (h : Held) → i < length l → taken s (get_or l i no_position) ≡ false
      → pending_of x (set l i (filled s h (get_or l i no_position))) ≡ one x h.number + pending_of x l
  unfolding pending_of
  pending_set [] i s h k e = absurd (not-suc-le-zero k)
  pending_set (p ∷ ps) zero s h k e = let z = place_filled s h p e in omega arith
  pending_set (p ∷ ps) (suc i) s h k e = let z = pending_set ps i s h (le_of_suc-le-suc k) e in omega arith

  pending_insert : (n : ℕ) (q : Position) (l : List Position) → pending_of x (insert_at n q l) ≡ in_place x q.primary + in_place x q.alternate + pending_of x l
  unfolding pending_of
  pending_insert zero q l = refl
  pending_insert (suc n) q [] = refl
  pending_insert (suc n) q (p ∷ l) = let z = pending_insert n q l in omega arith

  -- a push keeps one frame, or none
  Counted : Held → View → PushStep → Type 0
  Counted h v y = pending_of x y.next.pending ≡ kept_by x h y.answer + pending_of x v.pending

  none : (n : ℕ) → n ≡ 0 + n
  none n = omega arith

  push_counted_lem : (s : ℕ) (h : Held) (v : View) → Counted h v (push_of s h v)
  unfolding Counted
  push_counted_lem s h v =
      push_cases (Counted h v) s h v (λ _. none _) (λ _. none _) (λ _. none _)
      (λ _ i. join_cases (Counted h v) s h v _ (λ _. none _) (pending_set v.pending (home_of h.figures.offset v.pending) s h i))
      (λ _ _. open_cases (Counted h v) s h v (order_of h.figures.offset v.pending) (λ _. none _)
      (λ _. pending_insert (order_of h.figures.offset v.pending) (alone s h) v.pending ∙ ap (λ (n : ℕ). n + pending_of x v.pending) (place_alone s h)))

  -- what a place gives back is what it held
  free_place : (q : Option Held) → in_free x (free_of q) ≡ in_place x q
  free_place None = refl
  free_place (Some h) = refl

  -- of a release: what it gives back and leaves was pending, and what it hands on is given back
  record Told (l : List Position) (y : ReleaseStep) : Type 0 where
    balance : pending_of x l ≡ in_freed x y.freed + pending_of x y.next.pending
    within : released_of x (given y.answer) ≤ in_freed x y.freed

  chosen_of : Option Chosen → ℕ
  chosen_of None = 0
  chosen_of (Some c) = one x c.frame.number

  chosen_one : (a b : Option Held) → chosen_of (choose_of a b) ≤ in_place x a + in_place x b
  unfolding chosen_of
  chosen_one None None = omega arith
  chosen_one None (Some h) = omega arith
  chosen_one (Some h) None = omega arith
  chosen_one (Some h) (Some i) =
      cond_both (λ (c : Option Chosen). chosen_of c ≤ one x h.number + one x i.number) (h.check || not i.check) (chosen h false) (chosen i true) (omega arith) (omega arith)

  settle_told : (c : Option Chosen) (f : Freed) (l ps : List Position) (last : Option ℕ) → pending_of x l ≡ in_freed x f + pending_of x ps → chosen_of c ≤ in_freed x f → Told l (settle c f ps last)
  unfolding released_of chosen_of
  settle_told None f l ps last e k = record { balance = e; within = omega arith }
  settle_told (Some c) f l ps last e k =
      cond_both (Told l) (is_after last (snapped last c.frame.figures.offset)) _ _ (record { balance = e; within = omega arith }) (record { balance = e; within = omega arith })

  release_told : (s₀ s₁ : Option ℕ) (flush : Bool) (l : List Position) (last : Option ℕ) → Told l (release_from s₀ s₁ flush l last)
  unfolding released_of pending_of
  release_told s₀ s₁ flush [] last = record { balance = refl; within = omega arith }
  release_told s₀ s₁ flush (p ∷ ps) last =
      cond_both (Told (p ∷ ps)) (is_ready s₀ s₁ flush p) _ _ (
      let a : in_free x (free_of p.primary) ≡ in_place x p.primary = free_place p.primary in
      let b : in_free x (free_of p.alternate) ≡ in_place x p.alternate = free_place p.alternate in
      let c : chosen_of (choice_of p) ≤ in_place x p.primary + in_place x p.alternate = chosen_one p.primary p.alternate in
      settle_told (choice_of p) (freed_of p) (p ∷ ps) ps last (omega arith) (omega arith))
      (record { balance = omega arith; within = omega arith })

  released_append : (r s : List Release) → released_of x (r ++ s) ≡ released_of x r + released_of x s
  unfolding released_of
  released_append [] s = omega arith
  released_append (r ∷ rs) s = let z = released_append rs s in omega arith

  -- each number that was kept, or pending before, is given back once or pending
  pub balanced : (calls : List Call) (v : View) → kept_of x calls v + pending_of x v.pending ≡ freed_in x calls v + pending_of x (left calls v).pending
  unfolding kept_of freed_in Counted
  balanced [] v = refl
  balanced (push s h ∷ cs) v =
      let w : View = (push_of s h v).next in
      let z : kept_of x cs w + pending_of x w.pending ≡ freed_in x cs w + pending_of x (left cs w).pending = balanced cs w in
      let y : pending_of x w.pending ≡ kept_by x h (push_of s h v).answer + pending_of x v.pending = push_counted_lem s h v in
      omega arith
  balanced (release s₀ s₁ flush ∷ cs) v =
      let w : View = (release_of s₀ s₁ flush v).next in
      let z : kept_of x cs w + pending_of x w.pending ≡ freed_in x cs w + pending_of x (left cs w).pending = balanced cs w in
      let y : pending_of x v.pending ≡ in_freed x (release_of s₀ s₁ flush v).freed + pending_of x w.pending = (release_told s₀ s₁ flush v.pending v.last).balance in
      omega arith

  -- what is handed on is given back
  pub released_freed : (calls : List Call) (v : View) → released_of x (releases calls v) ≤ freed_in x calls v
  unfolding freed_in released_of
  released_freed [] v = omega arith
  released_freed (push s h ∷ cs) v = let z = released_freed cs (push_of s h v).next in omega arith
  released_freed (release s₀ s₁ flush ∷ cs) v =
      let w : View = (release_of s₀ s₁ flush v).next in
      let z : released_of x (releases cs w) ≤ freed_in x cs w = released_freed cs w in
      let y : released_of x (given (release_of s₀ s₁ flush v).answer) ≤ in_freed x (release_of s₀ s₁ flush v).freed = (release_told s₀ s₁ flush v.pending v.last).within in
      let a : released_of x (given (release_of s₀ s₁ flush v).answer ++ releases cs w) ≡ released_of x (given (release_of s₀ s₁ flush v).answer) + released_of x (releases cs w) = released_append (given (release_of s₀ s₁ flush v).answer) (releases cs w) in
      omega arith

  -- so what was kept once is handed on at most once
  pub at_most_once : (calls : List Call) → kept_of x calls started ≤ 1 → released_of x (releases calls started) ≤ 1
  unfolding pending_of
  at_most_once calls k =
      let a : kept_of x calls started + 0 ≡ freed_in x calls started + pending_of x (left calls started).pending = balanced calls started in
      let b : released_of x (releases calls started) ≤ freed_in x calls started = released_freed calls started in
      omega arith
