-- Every call leaves a sound state: a law of the definitions. Assumes nothing.
use Rattle.std.proofs.Common.{Option}
use mathlib.Core.Path.{◌≡◌, refl, sym, subst}
use mathlib.Core.Bool.{Bool, true, false, cond}
use mathlib.Core.List.{List, [], ◌∷◌}
use Prim.Native.Nat.{ℕ, suc, ◌+◌, ◌<◌, ◌≤◌}
use native.Mathlib.Nat.{not-suc-le-zero, le_of_suc-le-suc}
use native.Mathlib.Omega.{arith}
use lib.Dec.{ltb, leb}
use lib.ListN.{length}
use borrow.Author.Tests.{ltb-true, ltb-false, leb-true}
use Rattle.bits.proofs.Ands.{both_true}
use Rattle.merger_rules.specs.declared.Held.{Held}
use Rattle.merger_rules.specs.declared.Position.{Position}
use Rattle.merger_rules.specs.declared.Released.TheVariants.{NothingReady}
use Rattle.merger_rules.specs.Merging.{View, view, is_near, home_of, PushStep, open_of, push_of, is_ready, choice_of, freed_of, none_freed, release_step, settle, release_from}
use Rattle.merger_rules.specs.States.{below_of, IsNear, key_at, Nowhere, Sound}
use Rattle.merger_rules.specs.Scripts.{started}
use Rattle.merger_rules.proofs.Pushes.{push_cases}
use Rattle.merger_rules.proofs.Homes.{at_home, in_order}
use Rattle.merger_rules.proofs.Sound.{join_sound, open_sound, rest_sound, give_sound, fair_choose}

pub start_sound : Sound started
start_sound = record { few = omega arith; fair = tt; spaced = tt; marked = tt }

near_fact : (o k : ℕ) → is_near o k ≡ true → IsNear o k
near_fact o k e = let b : (leb o (k + 191) ≡ true) × (leb k (o + 191) ≡ true) = both_true _ _ e in record { low = leb-true _ _ b.0; high = leb-true _ _ b.1 }

-- a home is near
pub home_near : (o : ℕ) (l : List Position) → home_of o l < length l → IsNear o (key_at l (home_of o l))
unfolding home_of
home_near o [] h = absurd (not-suc-le-zero h)
home_near o (p ∷ ps) h = by (is_near o p.key) refl (home_near o ps) h
  where
    by : (b : Bool) → is_near o p.key ≡ b → (home_of o ps < length ps → IsNear o (key_at ps (home_of o ps)))
        → cond b 0 (suc (home_of o ps)) < suc (length ps) → IsNear o (key_at (p ∷ ps) (cond b 0 (suc (home_of o ps))))
    by true e r h = near_fact o p.key e
    by false e r h = r (le_of_suc-le-suc h)

-- without a home, none is near
pub nowhere : (o : ℕ) (l : List Position) → length l ≤ home_of o l → Nowhere o l
nowhere o l h k = by (ltb (o + 191) (key_at l (below_of o l))) refl
  where
    by : (b : Bool) → ltb (o + 191) (key_at l (below_of o l)) ≡ b → o + 191 < key_at l (below_of o l)
    by true e = ltb-true _ _ e
    by false e = let z : home_of o l ≡ below_of o l = at_home o l k (ltb-false _ _ e) in absurd (omega arith)

pub push_sound : (s : ℕ) (h : Held) (v : View) → Sound v → Sound (push_of s h v).next
push_sound s h v g =
    push_cases (λ (y : PushStep). Sound y.next) s h v (λ _. g) (λ _. g) (λ _. g)
    (λ p i. join_sound s h v (home_of h.figures.offset v.pending) g i (home_near h.figures.offset v.pending i) p.offset)
    (λ p i. let n : Nowhere h.figures.offset v.pending = nowhere h.figures.offset v.pending i in
    subst (λ (i : ℕ). Sound (open_of s h v i).next) (sym (in_order h.figures.offset v.pending n)) (open_sound s h v g n p.offset))

pub release_sound : (s₀ s₁ : Option ℕ) (flush : Bool) (l : List Position) (last : Option ℕ) → Sound (view l last) → Sound (release_from s₀ s₁ flush l last).next
release_sound s₀ s₁ flush [] last g = g
release_sound s₀ s₁ flush (p ∷ ps) last g = by (is_ready s₀ s₁ flush p)
  where
    by : (t : Bool) → Sound (cond t (settle (choice_of p) (freed_of p) ps last) (release_step NothingReady none_freed (view (p ∷ ps) last))).next
    by true = give_sound (choice_of p) (freed_of p) ps last (rest_sound (p ∷ ps) last g) (fair_choose p.key p.primary p.alternate g.fair.0.first g.fair.0.second)
    by false = g
