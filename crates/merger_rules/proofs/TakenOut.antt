-- When a position is taken out, what becomes of it, and what is then left. Assumes nothing.
use Rattle.std.proofs.Common.{Option, Some, None}
use mathlib.Core.Path.{◌≡◌, refl, sym, ap, ap₂, subst, ◌∙◌}
use mathlib.Core.Bool.{Bool, true, false, cond, not, ◌&&◌, ◌||◌}
use mathlib.Core.List.{List, [], ◌∷◌}
use Prim.Native.Nat.{ℕ, ◌<◌, ◌+◌}
use borrow.Author.Tests.{lt-ltb, ltb-true}
use Rattle.bits.specs.Alls.{All}
use Rattle.bits.proofs.Conds.{cond_cases, cond_both}
use Rattle.bits.proofs.Ands.{both_true}
use native.Mathlib.Omega.{arith}
use Rattle.merger_rules.specs.declared.Freed.{Freed}
use Rattle.merger_rules.specs.declared.Position.{Position}
use Rattle.merger_rules.specs.declared.Chosen.{Chosen}
use Rattle.merger_rules.specs.declared.Released.TheVariants.{NothingReady}
use Rattle.merger_rules.specs.Merging.{chosen, View, view, is_held, passed, is_ready, choose_of, choice_of, snapped, is_after, freed_of, none_freed, ReleaseStep, release_step, settle, release_from, release_of}
use Rattle.merger_rules.specs.States.{Sound}
use Rattle.merger_rules.specs.Offsets.{Passed, Fate, handed_on, passed_over}
use Rattle.merger_rules.proofs.Contrary.{contrary}
use Rattle.merger_rules.proofs.Snaps.{after_later, not_after_past}
use Rattle.merger_rules.specs.declared.Held.{Held}

has_passed : (s : Option ℕ) (k : ℕ) (q : Option Held) → passed s k q ≡ true → Passed s k q
has_passed None k None e = tt
has_passed (Some s) k None e = omega (arith, ltb-true _ s e)
has_passed None k (Some h) e = tt
has_passed (Some s) k (Some h) e = tt

is_passed : (s : Option ℕ) (k : ℕ) (q : Option Held) → Passed s k q → passed s k q ≡ true
is_passed None k None p = refl
is_passed (Some s) k None p = let h : k + 191 < s = p in lt-ltb _ s (omega arith)
is_passed None k (Some h) p = refl
is_passed (Some s) k (Some h) p = refl

-- a position that is taken out is released or passed over
settled_something : (c : Option Chosen) (f : Freed) (ps : List Position) (last : Option ℕ) → (settle c f ps last).answer ≡ NothingReady → ⊥
settled_something None f ps last e = contrary cc
settled_something (Some c) f ps last e =
    cond_both (λ (y : ReleaseStep). y.answer ≡ NothingReady → ⊥) (is_after last (snapped last c.frame.figures.offset)) _ _
    (λ d. contrary cc) (λ d. contrary cc) e

rest_left : (c : Option Chosen) (f : Freed) (ps : List Position) (last : Option ℕ) → ((settle c f ps last).freed ≡ f) × ((settle c f ps last).next.pending ≡ ps)
rest_left None f ps last = (refl, refl)
rest_left (Some c) f ps last =
    cond_both (λ (y : ReleaseStep). (y.freed ≡ f) × (y.next.pending ≡ ps)) (is_after last (snapped last c.frame.figures.offset)) _ _ (refl, refl) (refl, refl)

-- what holds of each pending position holds of those that a release leaves
pub release_all : (P : Position → Type 0) (s₀ s₁ : Option ℕ) (flush : Bool) (l : List Position) (last : Option ℕ) → All P l → All P (release_from s₀ s₁ flush l last).next.pending
release_all P s₀ s₁ flush [] last a = a
release_all P s₀ s₁ flush (p ∷ ps) last a =
    cond_both (λ (y : ReleaseStep). All P y.next.pending) (is_ready s₀ s₁ flush p) _ _ (subst (All P) (sym (rest_left (choice_of p) (freed_of p) ps last).1) a.1) a

module _ (s₀ s₁ : Option ℕ) (p : Position) (ps : List Position) (last : Option ℕ) where
  released_as_lem : (flush : Bool) → is_ready s₀ s₁ flush p ≡ true → release_of s₀ s₁ flush (view (p ∷ ps) last) ≡ settle (choice_of p) (freed_of p) ps last
  released_as_lem flush e = ap (λ (t : Bool). cond t (settle (choice_of p) (freed_of p) ps last) (release_step NothingReady none_freed (view (p ∷ ps) last))) e

  pub needs_passed : ((release_of s₀ s₁ false (view (p ∷ ps) last)).answer ≡ NothingReady → ⊥) → Passed s₀ p.key p.primary × Passed s₁ p.key p.alternate
  needs_passed n =
      cond_cases (λ (y : ReleaseStep). (y.answer ≡ NothingReady → ⊥) → Passed s₀ p.key p.primary × Passed s₁ p.key p.alternate) (is_ready s₀ s₁ false p) _ _
      (λ e _. let b : (passed s₀ p.key p.primary ≡ true) × (passed s₁ p.key p.alternate ≡ true) = both_true _ _ e in (has_passed s₀ p.key p.primary b.0, has_passed s₁ p.key p.alternate b.1))
      (λ _ k. absurd (k refl)) n

  is_ready_lem : Passed s₀ p.key p.primary × Passed s₁ p.key p.alternate → is_ready s₀ s₁ false p ≡ true
  is_ready_lem q = ap₂ ◌&&◌ (is_passed s₀ p.key p.primary q.0) (is_passed s₁ p.key p.alternate q.1)

  something : (flush : Bool) → is_ready s₀ s₁ flush p ≡ true → (release_of s₀ s₁ flush (view (p ∷ ps) last)).answer ≡ NothingReady → ⊥
  something flush e n = settled_something (choice_of p) (freed_of p) ps last (sym (ap (λ (y : ReleaseStep). y.answer) (released_as_lem flush e)) ∙ n)

  pub passed_suffices : Passed s₀ p.key p.primary × Passed s₁ p.key p.alternate → (release_of s₀ s₁ false (view (p ∷ ps) last)).answer ≡ NothingReady → ⊥
  passed_suffices q = something false (is_ready_lem q)

  pub flush_suffices : (release_of s₀ s₁ true (view (p ∷ ps) last)).answer ≡ NothingReady → ⊥
  flush_suffices = something true refl

  pub taken_out : (flush : Bool) → is_ready s₀ s₁ flush p ≡ true
      → ((release_of s₀ s₁ flush (view (p ∷ ps) last)).freed ≡ freed_of p) × ((release_of s₀ s₁ flush (view (p ∷ ps) last)).next.pending ≡ ps)
  taken_out flush e = subst (λ (y : ReleaseStep). (y.freed ≡ freed_of p) × (y.next.pending ≡ ps)) (sym (released_as_lem flush e)) (rest_left (choice_of p) (freed_of p) ps last)

  fate_of : (c : Option Chosen) (f : Freed) → choice_of p ≡ c → (c ≡ None → ⊥) → Fate last p (settle c f ps last).answer
  fate_of None f e n = absurd (n refl)
  fate_of (Some c) f e n =
      cond_cases (λ (y : ReleaseStep). Fate last p y.answer) (is_after last (snapped last c.frame.figures.offset)) _ _
      (λ t. handed_on c.frame c.alternate e (after_later last c.frame.figures.offset t))
      (λ t. passed_over c.frame c.alternate e (not_after_past last c.frame.figures.offset t))

  pub fate : (flush : Bool) → Sound (view (p ∷ ps) last) → is_ready s₀ s₁ flush p ≡ true → Fate last p (release_of s₀ s₁ flush (view (p ∷ ps) last)).answer
  fate flush w e =
      subst (λ (y : ReleaseStep). Fate last p y.answer) (sym (released_as_lem flush e))
      (fate_of (choice_of p) (freed_of p) refl (some p.primary p.alternate w.fair.0.held))
    where
      some : (a b : Option Held) → is_held a || is_held b ≡ true → choose_of a b ≡ None → ⊥
      some None None f g = contrary cc
      some None (Some h) f g = contrary cc
      some (Some h) None f g = contrary cc
      some (Some h) (Some i) f e =
          cond_both (λ (c : Option Chosen). c ≡ None → ⊥) (h.check || not i.check) (chosen h false) (chosen i true) (λ g. contrary cc) (λ g. contrary cc) e

-- where nothing is ready, nothing is given back and nothing changes
pub not_ready : (s₀ s₁ : Option ℕ) (flush : Bool) (v : View) → (release_of s₀ s₁ flush v).answer ≡ NothingReady → release_of s₀ s₁ flush v ≡ release_step NothingReady none_freed v
not_ready s₀ s₁ flush v = from v.pending v.last
  where
    from : (l : List Position) (last : Option ℕ) → (release_from s₀ s₁ flush l last).answer ≡ NothingReady → release_from s₀ s₁ flush l last ≡ release_step NothingReady none_freed (view l last)
    from [] last e = refl
    from (p ∷ ps) last e =
        cond_both (λ (y : ReleaseStep). y.answer ≡ NothingReady → y ≡ release_step NothingReady none_freed (view (p ∷ ps) last)) (is_ready s₀ s₁ flush p) _ _
        (λ d. absurd (settled_something (choice_of p) (freed_of p) ps last d)) (λ d. refl) e
