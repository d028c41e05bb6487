-- Six erased places prove nothing: whatever the tail, its bytes there can be chosen so that all six syndromes vanish.
-- Assumes nothing.
use mathlib.Core.Bool.{Bool, true, false, ◌||◌, false≢true}
use mathlib.Core.List.{List, [], ◌∷◌}
use mathlib.Core.Path.{◌≡◌, refl, sym, ap, ap₂, subst, ◌∙◌}
use Prim.Native.Nat.{ℕ, zero, suc, ◌+◌, ◌<◌, ◌≤◌}
use native.Mathlib.Nat.{zero-add}
use native.Mathlib.Omega.{arith}
use lib.Bits.{bit_xor, xor_zero_r}
use lib.Dec.{eqb, eqb-suc-suc}
use lib.ListN.{length, get_or}
use borrow.Author.Tests.{eq-eqb, ne_eqb, eqb-true}
use Rattle.bits.specs.Bit.{tab, Bytes}
use Rattle.bits.proofs.Belows.{below_tab}
use Rattle.bits.proofs.Tabs.{length_tab, tab_at}
use Rattle.tail_algebra.proofs.Fields.{⊕-self, add-⊗}
use Rattle.bits.specs.Alls.{All}
use Rattle.bits.proofs.Alls.{all_map}
use Rattle.tail_algebra.proofs.Vandermonde.{pow, sum_eq, sum_ext, sum_add, moment}
use Rattle.tail_algebra.proofs.Weights.{weights, weights_moment}
use Rattle.tail_algebra.proofs.Word.{places, all_below_lem, erased, tick}
use Rattle.tail_algebra.proofs.Erasures.{marked, cons_mark, marked_moment, marked_distinct}
use Rattle.tail_algebra.proofs.Bytes.{Byte, byte_eq, gf, X, distinct, zero_lt}
use Rattle.tail_rules.specs.Code.{syndrome, among, wrong, Near}
use Rattle.tail_rules.specs.Steps.{exponents_of}
use Rattle.tail_rules.proofs.AtMostOne.{get_d_lift, at, syndrome_moment, erased_suc, erased_none, erased_ext}
use Rattle.tail_rules.proofs.Locating.{wrong_le}
use Rattle.tail_rules.specs.Calls.{each_once}
use Rattle.tail_rules.proofs.ErasedPlaces.{head_of}

abbrev 𝟘 : Byte
𝟘 = (0, zero_lt)

-- ---- as many places are erased as are given

erased_one : (n e : ℕ) → e < n → erased gf X (λ p. eqb p e) (places n) ≡ 1
erased_one zero e l = absurd (omega arith)
erased_one (suc n) zero l =
    ap₂ (λ (b : Bool) (k : ℕ). tick gf X b k) (eq-eqb 0 0 refl)
    (erased_suc (λ p. eqb p 0) (places n) ∙ erased_none (λ p. eqb (suc p) 0) (λ p. ne_eqb (suc p) 0 (λ q. absurd (omega (arith, q)))) (places n))
erased_one (suc n) (suc e) l =
    ap₂ (λ (b : Bool) (k : ℕ). tick gf X b k) (ne_eqb 0 (suc e) (λ q. absurd (omega (arith, q))))
    (erased_suc (λ p. eqb p (suc e)) (places n) ∙ erased_ext (λ p. eqb (suc p) (suc e)) (λ p. eqb p e) (λ p. eqb-suc-suc p e) (places n)
    ∙ erased_one n e (omega arith))

erased_both : (E G : ℕ → Bool) → ((p : ℕ) → E p ≡ true → G p ≡ false) → (ps : List ℕ)
    → erased gf X (λ p. E p || G p) ps ≡ erased gf X E ps + erased gf X G ps
erased_both E G h [] = refl
erased_both E G h (p ∷ ps) = go (E p) (G p) (h p) (erased_both E G h ps)
  where
    go : (a b : Bool) → (a ≡ true → b ≡ false) → erased gf X (λ p. E p || G p) ps ≡ erased gf X E ps + erased gf X G ps
        → tick gf X (a || b) (erased gf X (λ p. E p || G p) ps) ≡ tick gf X a (erased gf X E ps) + tick gf X b (erased gf X G ps)
    go true true k e = absurd (false≢true (sym (k refl)))
    go true false k e = omega (arith, e)
    go false true k e = omega (arith, e)
    go false false k e = e

erased_all : (es : List ℕ) → each_once es ≡ true → erased gf X (λ p. among p es) (places 14) ≡ length es
erased_all [] h = erased_none (λ p. false) (λ p. refl) (places 14)
erased_all (e ∷ es) h =
    let v = head_of e es h in
    erased_both (λ p. eqb p e) (λ p. among p es) (λ p q. ap (λ (k : ℕ). among k es) (eqb-true p e q) ∙ v.new) (places 14)
    ∙ ap₂ (λ (a b : ℕ). a + b) (erased_one 14 e v.low) (erased_all es v.rest) ∙ one_more (length es)
  where
    one_more : (n : ℕ) → 1 + n ≡ suc n
    one_more n = omega arith

marked_count : (m : ℕ → Bool) (ps : List ℕ) → length (marked gf X m ps) ≡ erased gf X m ps
marked_count m [] = refl
marked_count m (p ∷ ps) = go (m p) (marked_count m ps)
  where
    go : (b : Bool) → length (marked gf X m ps) ≡ erased gf X m ps → length (cons_mark gf X b p (marked gf X m ps)) ≡ tick gf X b (erased gf X m ps)
    go true e = ap suc e
    go false e = e

marked_true : (m : ℕ → Bool) (ps : List ℕ) → All (λ p. m p ≡ true) (marked gf X m ps)
marked_true m [] = tt
marked_true m (p ∷ ps) = go (m p) refl (marked_true m ps)
  where
    go : (b : Bool) → m p ≡ b → All (λ p. m p ≡ true) (marked gf X m ps) → All (λ p. m p ≡ true) (cons_mark gf X b p (marked gf X m ps))
    go true e h = (e, h)
    go false e h = h

-- ---- the bytes to add

only : Bool → Byte → Byte
only true x = x
only false x = 𝟘

module _ (es t : List ℕ) (lt : length t ≡ 14) (ht : Bytes t) (once : each_once es ≡ true) (six : length es ≡ 6) where
  abbrev E : ℕ → Bool
  E p = among p es

  abbrev U : List ℕ
  U = marked gf X E (places 14)

  S : ℕ → Byte
  S i = moment gf X (places 14) (at t ht) i

  w : ℕ → Byte
  w p = only (E p) (weights gf X U S p)

  on : (p : ℕ) → E p ≡ true → w p ≡ weights gf X U S p
  unfolding w only
  on p e = ap (λ (b : Bool). only b (weights gf X U S p)) e

  off : (p : ℕ) → E p ≡ false → w p ≡ 𝟘
  unfolding w only
  off p e = ap (λ (b : Bool). only b (weights gf X U S p)) e

  w_moment : (i : ℕ) → i < 6 → moment gf X (places 14) w i ≡ S i
  w_moment i l =
      sym (marked_moment gf X E w (places 14) (all_map {Q = λ p. p < 14} {R = λ p. E p ≡ false → w p ≡ 𝟘} (λ p h. off p) (places 14) (all_below_lem 14)) i)
      ∙ sum_ext gf U _ _ (all_map (λ p e. ap (λ (x : Byte). gf.◌⊗◌ x (pow gf (X p) i)) (on p e)) U (marked_true E (places 14)))
      ∙ weights_moment gf X U (marked_distinct gf X E (places 14) distinct) S i (subst (λ (n : ℕ). i < n) (sym count) l)
    where
      count : length U ≡ 6
      count = marked_count E (places 14) ∙ erased_all es once ∙ six

  -- the codeword
  f : ℕ → Byte
  f p = gf.◌⊕◌ (at t ht p) (w p)

  c : List ℕ
  c = tab 14 (λ p. (f p).0)

  hc : Bytes c
  unfolding c
  hc = below_tab 14 (λ p. (f p).0) zero_lt (λ p l. (f p).1)

  at_c : (p : ℕ) → p < 14 → at c hc p ≡ f p
  unfolding at c
  at_c p l = byte_eq (get_d_lift c hc p ∙ tab_at 14 (λ p. (f p).0) p l)

  long_c : length c ≡ 14
  unfolding c
  long_c = length_tab 14 (λ p. (f p).0)

  twice : (i : ℕ) → gf.◌⊕◌ (moment gf X (places 14) (at t ht) i) (S i) ≡ 𝟘
  unfolding S
  twice i = ⊕-self gf (moment gf X (places 14) (at t ht) i)

  zero_c : (i : ℕ) → i < 6 → syndrome c i ≡ 0
  unfolding f
  zero_c i l =
      sym (syndrome_moment c hc long_c i)
      ∙ ap (λ (x : Byte). x.0)
      (sum_ext gf (places 14) _ _ (all_map (λ p h. ap (λ (x : Byte). gf.◌⊗◌ x (pow gf (X p) i)) (at_c p h)) (places 14) (all_below_lem 14))
      ∙ sum_eq gf (places 14) _ _ (λ p. add-⊗ gf (at t ht p) (w p) (pow gf (X p) i))
      ∙ sum_add gf (places 14) (λ p. gf.◌⊗◌ (at t ht p) (pow gf (X p) i)) (λ p. gf.◌⊗◌ (w p) (pow gf (X p) i))
      ∙ ap (λ (x : Byte). gf.◌⊕◌ (moment gf X (places 14) (at t ht) i) x) (w_moment i l) ∙ twice i)

  kept : (p : ℕ) → p < 14 → E p ≡ false → get_or c p 0 ≡ get_or t p 0
  unfolding c f at
  kept p l e =
      tab_at 14 (λ p. (f p).0) p l ∙ ap₂ bit_xor (get_d_lift t ht p) (ap (λ (x : Byte). x.0) (off p e)) ∙ xor_zero_r (get_or t p 0)

  few : wrong es t c ≤ 0
  unfolding tab exponents_of
  few =
      wrong_le 0 es t c (tab 14 (λ i. 1)) (lt ∙ sym (length_tab 14 (λ i. 1))) (long_c ∙ sym (length_tab 14 (λ i. 1)))
      (λ j l a n. kept j (subst (λ (k : ℕ). j < k) (length_tab 14 (λ i. 1)) l) (ap (λ (k : ℕ). among k es) (sym (zero-add j)) ∙ a))

  pub always_near : (d : List ℕ) × Near es t d
  always_near = (c, record { code = record { long = long_c; bytes = hc; zero_at = zero_c }; close = omega (arith, few, six) })
