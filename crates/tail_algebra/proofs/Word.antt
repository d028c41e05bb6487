-- Words: Horner's value is a moment over the places; where a word is not zero; two words close to one are one.
-- Assumes nothing.
use mathlib.Core.Path.{◌≡◌, refl, sym, ap, ap₂, ◌∙◌}
use mathlib.Core.Bool.{Bool, true, false}
use mathlib.Core.List.{List, [], ◌∷◌, map}
use Prim.Native.Nat.{ℕ, zero, suc, ◌+◌, ◌*◌, ◌-◌, ◌<◌, ◌≤◌}
use native.Mathlib.Omega.{arith}
use lib.ListN.{length, get_or}
use Rattle.tail_algebra.proofs.Fields.{Field, ring, same, zero-⊗, ⊕-zero, ⊕-self, zero-⊕, add-⊗, ⊗-one, one-⊗}
use Rattle.bits.specs.Alls.{All}
use Rattle.bits.proofs.Alls.{all_map}
use Rattle.tail_algebra.proofs.Vandermonde.{Distinct, pow, sum, sum_eq, sum_add, moment, vander}

-- the places of a word of n bytes
abbrev pub places : ℕ → List ℕ
places zero = []
places (suc n) = 0 ∷ map suc (places n)

pub all_suc : (Q : ℕ → Type 0) (ps : List ℕ) → All (λ p. Q (suc p)) ps → All Q (map suc ps)
all_suc Q [] h = tt
all_suc Q (p ∷ ps) h = (h.0, all_suc Q ps h.1)

up : (p n : ℕ) → p < n → suc p < suc n
up p n l = omega arith

pub all_below_lem : (n : ℕ) → All (λ p. p < n) (places n)
all_below_lem zero = tt
all_below_lem (suc n) = (omega arith, all_suc (λ p. p < suc n) (places n) (all_map (λ p (l : p < n). up p n l) (places n) (all_below_lem n)))

node_zero : (n : ℕ) → n ≡ suc n - 1
node_zero n = omega arith

node_suc : (n p : ℕ) → n - suc p ≡ suc n - suc (suc p)
node_suc n p = omega arith

module _ (K : Field) where
  open K use {F, ◌⊕◌, ◌⊗◌, 𝟘, 𝟙}

  infixl 60 ◌⊕◌
  infixl 70 ◌⊗◌
  -- Horner: the value at x of the polynomial whose coefficients these are, the first of highest degree
  unfoldable pub horner : F → List F → F → F
  horner v [] x = v
  horner v (b ∷ bs) x = horner (v ⊗ x ⊕ b) bs x

  module _ (α : F) where
    -- the node of place p in a word of n bytes
    abbrev pub node : ℕ → ℕ → F
    node n p = pow K α (n - suc p)

    pow_mul : (x y : F) (n : ℕ) → pow K (x ⊗ y) n ≡ pow K x n ⊗ pow K y n
    unfolding pow
    pow_mul x y zero = sym (⊗-one K 𝟙)
    pow_mul x y (suc n) = ap (λ t. x ⊗ y ⊗ t) (pow_mul x y n) ∙ four x y (pow K x n) (pow K y n)
      where
        four : (x y a b : F) → x ⊗ y ⊗ (a ⊗ b) ≡ x ⊗ a ⊗ (y ⊗ b)
        four x y a b = simp ring

    pow_one : (n : ℕ) → pow K 𝟙 n ≡ 𝟙
    unfolding pow
    pow_one zero = refl
    pow_one (suc n) = one-⊗ K (pow K 𝟙 n) ∙ pow_one n

    pub pow_swap : (x : F) (a b : ℕ) → pow K (pow K x a) b ≡ pow K (pow K x b) a
    unfolding pow
    pow_swap x zero b = pow_one b
    pow_swap x (suc a) b = pow_mul x (pow K x a) b ∙ ap (λ t. pow K x b ⊗ t) (pow_swap x a b)

    sum_map : (ps : List ℕ) (f : ℕ → F) → sum K (map suc ps) f ≡ sum K ps (λ p. f (suc p))
    unfolding sum
    sum_map [] f = refl
    sum_map (p ∷ ps) f = ap (λ t. f (suc p) ⊕ t) (sum_map ps f)

    horner_step : (v x b y m : F) → (v ⊗ x ⊕ b) ⊗ y ⊕ m ≡ v ⊗ (x ⊗ y) ⊕ (b ⊗ y ⊕ m)
    horner_step v x b y m = simp ring

    -- the syndrome i of a word is the i-th moment of its bytes
    pub horner_moment : (t : List F) (i : ℕ) (v : F)
        → horner v t (pow K α i) ≡ v ⊗ pow K (pow K α i) (length t) ⊕ moment K (node (length t)) (places (length t)) (λ p. get_or t p 𝟘) i
    unfolding horner pow sum
    horner_moment [] i v = sym (⊕-zero K (v ⊗ 𝟙) ∙ ⊗-one K v)
    horner_moment (b ∷ bs) i v =
        horner_moment bs i (v ⊗ pow K α i ⊕ b)
        ∙ horner_step v (pow K α i) b (pow K (pow K α i) (length bs)) (moment K (node (length bs)) (places (length bs)) (λ p. get_or bs p 𝟘) i)
        ∙ ap (λ y. v ⊗ (pow K α i ⊗ pow K (pow K α i) (length bs)) ⊕ y)
        (ap₂ (λ y z. b ⊗ y ⊕ z)
        (pow_swap α i (length bs) ∙ ap (λ (k : ℕ). pow K (pow K α k) i) (node_zero (length bs)))
        (sum_eq K (places (length bs)) _ _ (λ p. ap (λ (k : ℕ). get_or bs p 𝟘 ⊗ pow K (pow K α k) i) (node_suc (length bs) p))
        ∙ sym (sum_map (places (length bs)) (λ p. get_or (b ∷ bs) p 𝟘 ⊗ pow K (node (suc (length bs)) p) i))))

  module _ {P : Type 0} (X : P → F) where
    -- the places where w is not zero
    abbrev pub cons_if : (p : P) {A : Type 0} → Dec A → List P → List P
    cons_if p (yes e) ps = ps
    cons_if p (no e) ps = p ∷ ps

    abbrev pub supp : (P → F) → List P → List P
    supp w [] = []
    supp w (p ∷ ps) = cons_if p (K.zero? (w p)) (supp w ps)

    pub supp_moment : (w : P → F) (ps : List P) (i : ℕ) → moment K X (supp w ps) w i ≡ moment K X ps w i
    unfolding sum
    supp_moment w [] i = refl
    supp_moment w (p ∷ ps) i = go (K.zero? (w p)) (supp_moment w ps i)
      where
        go : (q : Dec (w p ≡ 𝟘)) → moment K X (supp w ps) w i ≡ moment K X ps w i
            → moment K X (cons_if p q (supp w ps)) w i ≡ w p ⊗ pow K (X p) i ⊕ moment K X ps w i
        go (yes e) h = h ∙ sym (ap (λ y. y ⊗ pow K (X p) i ⊕ moment K X ps w i) e ∙ ap (λ y. y ⊕ moment K X ps w i) (zero-⊗ K (pow K (X p) i)) ∙ zero-⊕ K (moment K X ps w i))
        go (no e) h = ap (λ y. w p ⊗ pow K (X p) i ⊕ y) h

    pub all_supp : (Q : P → Type 0) (w : P → F) (ps : List P) → All Q ps → All Q (supp w ps)
    all_supp Q w [] h = tt
    all_supp Q w (p ∷ ps) h = go (K.zero? (w p)) (all_supp Q w ps h.1)
      where
        go : (q : Dec (w p ≡ 𝟘)) → All Q (supp w ps) → All Q (cons_if p q (supp w ps))
        go (yes e) g = g
        go (no e) g = (h.0, g)

    pub supp_distinct : (w : P → F) (ps : List P) → Distinct K X ps → Distinct K X (supp w ps)
    supp_distinct w [] h = tt
    supp_distinct w (p ∷ ps) h = go (K.zero? (w p)) (supp_distinct w ps h.1)
      where
        go : (q : Dec (w p ≡ 𝟘)) → Distinct K X (supp w ps) → Distinct K X (cons_if p q (supp w ps))
        go (yes e) g = g
        go (no e) g = (all_supp (λ q. ¬ (X q ≡ X p)) w ps h.0, g)

    pub supp_live : (w : P → F) (ps : List P) → All (λ p. ¬ (w p ≡ 𝟘)) (supp w ps)
    supp_live w [] = tt
    supp_live w (p ∷ ps) = go (K.zero? (w p)) (supp_live w ps)
      where
        go : (q : Dec (w p ≡ 𝟘)) → All (λ p. ¬ (w p ≡ 𝟘)) (supp w ps) → All (λ p. ¬ (w p ≡ 𝟘)) (cons_if p q (supp w ps))
        go (yes e) g = g
        go (no e) g = (e, g)

    pub supp_zero : (w : P → F) (ps : List P) → All (λ p. w p ≡ 𝟘) (supp w ps) → All (λ p. w p ≡ 𝟘) ps
    supp_zero w [] h = tt
    supp_zero w (p ∷ ps) h = go (K.zero? (w p)) h (supp_zero w ps)
      where
        go : (q : Dec (w p ≡ 𝟘)) → All (λ p. w p ≡ 𝟘) (cons_if p q (supp w ps))
            → (All (λ p. w p ≡ 𝟘) (supp w ps) → All (λ p. w p ≡ 𝟘) ps) → All (λ p. w p ≡ 𝟘) (p ∷ ps)
        go (yes e) g f = (e, f g)
        go (no e) g f = (g.0, f g.1)

    -- MINIMUM DISTANCE: a word with n zero syndromes and at most n bytes that are not zero is zero
    pub minimum : (n : ℕ) (ps : List P) → Distinct K X ps → (w : P → F) → ((i : ℕ) → i < n → moment K X ps w i ≡ 𝟘)
        → length (supp w ps) ≤ n → All (λ p. w p ≡ 𝟘) ps
    minimum n ps d w h l =
        supp_zero w ps (vander K X (supp w ps) (supp_distinct w ps d) w (λ i q. supp_moment w ps i ∙ h i (omega arith)))

    -- ---- errors outside a set of erased places

    abbrev pub unless : Bool → F → F
    unless true a = 𝟘
    unless false a = a

    abbrev pub tick : Bool → ℕ → ℕ
    tick true n = suc n
    tick false n = n

    abbrev pub erased : (P → Bool) → List P → ℕ
    erased E [] = 0
    erased E (p ∷ ps) = tick (E p) (erased E ps)

    -- the number of places that are not erased and at which w is not zero
    abbrev pub errors : (P → Bool) → (P → F) → List P → ℕ
    errors E w ps = length (supp (λ p. unless (E p) (w p)) ps)

    tick_le : (e : Bool) (n : ℕ) → n ≤ tick e n
    tick_le true n = omega arith
    tick_le false n = omega arith

    pub triangle : (E : P → Bool) (u v : P → F) (ps : List P)
        → length (supp (λ p. u p ⊕ v p) ps) ≤ errors E u ps + errors E v ps + erased E ps
    triangle E u v [] = omega arith
    triangle E u v (p ∷ ps) =
        go (E p) (K.zero? (u p ⊕ v p)) (K.zero? (unless (E p) (u p))) (K.zero? (unless (E p) (v p))) (triangle E u v ps)
      where
        go : (e : Bool) (q : Dec (u p ⊕ v p ≡ 𝟘)) (r : Dec (unless e (u p) ≡ 𝟘)) (s : Dec (unless e (v p) ≡ 𝟘))
            → length (supp (λ p. u p ⊕ v p) ps) ≤ errors E u ps + errors E v ps + erased E ps
            → length (cons_if p q (supp (λ p. u p ⊕ v p) ps))
            ≤ length (cons_if p r (supp (λ p. unless (E p) (u p)) ps)) + length (cons_if p s (supp (λ p. unless (E p) (v p)) ps)) + tick e (erased E ps)
        go e (yes q) (yes r) (yes s) h = omega (arith, tick_le e (erased E ps))
        go e (yes q) (yes r) (no s) h = omega (arith, tick_le e (erased E ps))
        go e (yes q) (no r) (yes s) h = omega (arith, tick_le e (erased E ps))
        go e (yes q) (no r) (no s) h = omega (arith, tick_le e (erased E ps))
        go true (no q) (yes r) (yes s) h = omega arith
        go false (no q) (yes r) (yes s) h = absurd (q (ap₂ ◌⊕◌ r s ∙ ⊕-self K 𝟘))
        go e (no q) (yes r) (no s) h = omega (arith, tick_le e (erased E ps))
        go e (no q) (no r) (yes s) h = omega (arith, tick_le e (erased E ps))
        go e (no q) (no r) (no s) h = omega (arith, tick_le e (erased E ps))

    twice_eq : (t c d y : F) → t ⊕ c ⊕ (t ⊕ d) ≡ c ⊕ d
    twice_eq t c d y = simp ring

    -- UNIQUENESS: at most one codeword has 2 e + f ≤ n, for f erased places and e errors elsewhere
    pub unique : (n : ℕ) (ps : List P) → Distinct K X ps → (E : P → Bool) (t c d : P → F)
        → ((i : ℕ) → i < n → moment K X ps c i ≡ 𝟘) → ((i : ℕ) → i < n → moment K X ps d i ≡ 𝟘)
        → 2 * errors E (λ p. t p ⊕ c p) ps + erased E ps ≤ n → 2 * errors E (λ p. t p ⊕ d p) ps + erased E ps ≤ n
        → All (λ p. c p ≡ d p) ps
    unique n ps dist E t c d hc hd lc ld =
        all_map (λ p e. same K (sym (twice_eq (t p) (c p) (d p) 𝟘) ∙ e)) ps
        (minimum n ps dist (λ p. t p ⊕ c p ⊕ (t p ⊕ d p))
        (λ i l.
        sum_eq K ps _ _ (λ p. ap (λ y. y ⊗ pow K (X p) i) (twice_eq (t p) (c p) (d p) 𝟘) ∙ add-⊗ K (c p) (d p) (pow K (X p) i))
        ∙ sum_add K ps (λ p. c p ⊗ pow K (X p) i) (λ p. d p ⊗ pow K (X p) i)
        ∙ ap₂ ◌⊕◌ (hc i l) (hd i l) ∙ ⊕-self K 𝟘)
        (omega (arith, triangle E (λ p. t p ⊕ c p) (λ p. t p ⊕ d p) ps)))
