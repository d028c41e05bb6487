-- Two rising lists of numbers with the same members are one. Assumes nothing.
use mathlib.Core.Path.{◌≡◌, refl, sym, ap, ap₂, ◌∙◌}
use mathlib.Core.Bool.{Bool, true, false, ◌||◌}
use mathlib.Core.List.{List, [], ◌∷◌}
use Prim.Native.Nat.{ℕ, ◌<◌, ◌≤◌}
use native.Mathlib.Omega.{arith}
use lib.Dec.{ltb, leb, eqb}
use borrow.Author.Tests.{ltb-true, ltb-false, leb-true, leb-false, eq-eqb, ne_eqb}
use Rattle.merger_stream_rules.specs.Grids.{has, Over, Ordered}
use Rattle.merger_rules.proofs.Contrary.{contrary}

below_all : (x y : ℕ) (l : List ℕ) → Over x l → Ordered l → y ≤ x → has y l ≡ false
unfolding has
below_all x y [] o s h = refl
below_all x y (z ∷ l) o s h =
    let k : x < z = o in
    ap (λ (t : Bool). t || has y l) (ne_eqb z y (λ e. omega arith)) ∙ below_all z y l s.0 s.1 (omega arith)

member_ge : (a b : ℕ) (bs : List ℕ) → Over b bs → Ordered bs → has a (b ∷ bs) ≡ true → b ≤ a
unfolding has
member_ge a b bs o s e = by (ltb a b) refl
  where
    by : (t : Bool) → ltb a b ≡ t → b ≤ a
    by true f =
        let h : a < b = ltb-true _ _ f in
        let k : a ≤ b = omega arith in
        let z : (eqb b a || has a bs) ≡ false = ap (λ (t : Bool). t || has a bs) (ne_eqb b a (λ q. omega arith)) ∙ below_all b a bs o s k in
        contrary cc
    by false f = ltb-false _ _ f

head_has : (a : ℕ) (l : List ℕ) → has a (a ∷ l) ≡ true
unfolding has
head_has a l = ap (λ (t : Bool). t || has a l) (eq-eqb a a refl)

pub same_rising : (a b : List ℕ) → Ordered a → Ordered b → ((x : ℕ) → has x a ≡ has x b) → a ≡ b
unfolding has
same_rising [] [] s t f = refl
same_rising [] (y ∷ b) s t f = let e : false ≡ has y (y ∷ b) = f y in let k : has y (y ∷ b) ≡ true = head_has y b in contrary cc
same_rising (x ∷ a) [] s t f = let e : has x (x ∷ a) ≡ false = f x in let k : has x (x ∷ a) ≡ true = head_has x a in contrary cc
same_rising (x ∷ a) (y ∷ b) s t f =
    let h : y ≤ x = member_ge x y b t.0 t.1 (sym (f x) ∙ head_has x a) in
    let k : x ≤ y = member_ge y x a s.0 s.1 (f y ∙ head_has y b) in
    let e : x ≡ y = omega arith in
    ap₂ (λ (z : ℕ) (l : List ℕ). z ∷ l) e (same_rising a b s.1 t.1 (tails e))
  where
    tails : x ≡ y → (z : ℕ) → has z a ≡ has z b
    tails e z = by (leb z x) refl
      where
        by : (c : Bool) → leb z x ≡ c → has z a ≡ has z b
        by true g = let h : z ≤ x = leb-true _ _ g in let k : z ≤ y = omega arith in below_all x z a s.0 s.1 h ∙ sym (below_all y z b t.0 t.1 k)
        by false g =
            let h : x < z = leb-false _ _ g in
            sym (ap (λ (t : Bool). t || has z a) (ne_eqb x z (λ q. omega arith))) ∙ f z ∙ ap (λ (t : Bool). t || has z b) (ne_eqb y z (λ q. omega arith))
