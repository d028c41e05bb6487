-- The test of a table says what `Admitted` says.
-- Assumes nothing.
use mathlib.Core.Bool.{Bool, true, false, ◌&&◌, ◌||◌}
use mathlib.Core.List.{List}
use mathlib.Core.Logic.{◌⊎◌, inl, inr}
use mathlib.Core.Path.{◌≡◌, refl, sym, subst}
use Prim.Native.Nat.{ℕ, ◌+◌, ◌*◌, ◌<◌}
use native.Mathlib.Omega.{arith}
use lib.Dec.{T, ltb, eqb}
use lib.ListN.{get_or, length}
use borrow.Author.Tests.{lt-ltb, eq-eqb, ne_eqb, ltb-true, eqb-true}
use Rattle.bits.specs.Alls.{all_below}
use Rattle.bits.proofs.Computed.{below}
use Rattle.protected_rules.specs.Table.{count, Admitted, odd_fits, even_fits, each_once, admits}
use Rattle.bits.proofs.Turns.{all_true}

-- a table of another length is not admitted
pub not_long : (table : List ℕ) → (length table ≡ 188 → ⊥) → false ≡ admits table
unfolding admits
not_long table h = simp (ne_eqb (length table) 188 h)

-- one of the right length is, when each test passes
pub by_tests : (table : List ℕ) (a b d : Bool) → length table ≡ 188 → a ≡ odd_fits table → b ≡ even_fits table → d ≡ each_once table → a && (b && d) ≡ admits table
unfolding admits
by_tests table a b d e p q r = simp (eq-eqb (length table) 188 e, p, q, r)

and_left : (a b : Bool) → a && b ≡ true → a ≡ true
and_left true b e = refl
and_left false b e = e

and_right : (a b : Bool) → a && b ≡ true → b ≡ true
and_right true b e = e
and_right false b e = let z : ◌≡◌ {A = ℕ} 0 1 = cc in absurd (omega arith)

all_at : (n : ℕ) (f : ℕ → Bool) → all_below n f ≡ true → (k : ℕ) → k < n → f k ≡ true
all_at n f e k h = go (f k) (below n f (subst T (sym e) tt) k h)
  where
    go : (t : Bool) → T t → t ≡ true
    go true h = refl
    go false h = absurd h

either : (x y : ℕ) → (t : Bool) → ltb x 176 ≡ t → t || eqb x y ≡ true → (x < 176) ⊎ (x ≡ y)
either x y true p e = inl (ltb-true x 176 p)
either x y false p e = inr (eqb-true x y e)

pub admits_admitted : (table : List ℕ) → admits table ≡ true → Admitted table
unfolding admits odd_fits even_fits each_once
admits_admitted table e =
    let r = and_right (eqb (length table) 188) (odd_fits table && (even_fits table && each_once table)) e in
    let s = and_right (odd_fits table) (even_fits table && each_once table) r in
    let o : odd_fits table ≡ true = and_left (odd_fits table) (even_fits table && each_once table) r in
    let v : even_fits table ≡ true = and_left (even_fits table) (each_once table) s in
    let w : each_once table ≡ true = and_right (even_fits table) (each_once table) s in
    record {
      long = eqb-true (length table) 188 (and_left (eqb (length table) 188) (odd_fits table && (even_fits table && each_once table)) e);
      odd = λ t h. ltb-true (get_or table (2 * t + 1) 0) 176 (all_at 94 (λ t. ltb (get_or table (2 * t + 1) 0) 176) o t h);
      even = λ t h. either (get_or table (2 * t) 0) 255 (ltb (get_or table (2 * t) 0) 176) refl (all_at 94 (λ t. ltb (get_or table (2 * t) 0) 176 || eqb (get_or table (2 * t) 0) 255) v t h);
      once = λ k h. eqb-true (count k table) 1 (all_at 176 (λ k. eqb (count k table) 1) w k h);
    }

-- and back
entry : (x : ℕ) → (x < 176) ⊎ (x ≡ 255) → ltb x 176 || eqb x 255 ≡ true
entry x (inl h) = simp (lt-ltb x 176 h)
entry x (inr e) = rw e refl

pub admitted_admits : (table : List ℕ) → Admitted table → admits table ≡ true
unfolding odd_fits even_fits each_once
admitted_admits table a =
    sym (by_tests table true true true a.long
    (all_true 94 (λ t. ltb (get_or table (2 * t + 1) 0) 176) (λ t h. lt-ltb (get_or table (2 * t + 1) 0) 176 (a.odd t h)))
    (all_true 94 (λ t. ltb (get_or table (2 * t) 0) 176 || eqb (get_or table (2 * t) 0) 255) (λ t h. entry (get_or table (2 * t) 0) (a.even t h)))
    (all_true 176 (λ k. eqb (count k table) 1) (λ k h. eq-eqb (count k table) 1 (a.once k h))))
