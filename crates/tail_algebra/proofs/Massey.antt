-- Berlekamp-Massey on a sequence of power sums: the locator's length is the number of places, and each place is a root.
-- Assumes nothing.
use mathlib.Core.Path.{◌≡◌, refl, sym, ap, ap₂, subst, ◌∙◌}
use mathlib.Core.List.{List, [], ◌∷◌}
use Prim.Native.Nat.{ℕ, zero, suc, ◌+◌, ◌-◌, ◌<◌, ◌≤◌}
use native.Mathlib.Nat.{not-suc-le-zero, suc-add, zero-add}
use native.Mathlib.Decide.{dec_le, ℕ_discrete}
use native.Mathlib.Omega.{arith}
use lib.ListN.{length, get_or}
use Rattle.tail_algebra.proofs.Fields.{Field, ring, ⊗-zero, zero-⊗, ⊗-comm, ⊗-assoc, ⊕-self, ⊗-one, one-⊗}
use Rattle.bits.specs.Alls.{All}
use Rattle.bits.proofs.Alls.{all_map}
use Rattle.tail_algebra.proofs.Vandermonde.{Distinct, pow, sum, sum_eq, sum_zero, sum_add, sum_mul, moment, vander}
use Rattle.tail_algebra.proofs.Polynomial.{eval, eval_zeros, DegLe, deg_mono, upd, length_upd, eval_upd, deg_upd}

module _ (K : Field) where
  open K use {F, ◌⊕◌, ◌⊗◌, 𝟘, 𝟙}

  infixl 60 ◌⊕◌
  infixl 70 ◌⊗◌
  pub pow_add : (x : F) (a b : ℕ) → pow K x (a + b) ≡ pow K x a ⊗ pow K x b
  unfolding pow
  pow_add x zero b = ap (λ (n : ℕ). pow K x n) (zero-add b) ∙ sym (one-⊗ K (pow K x b))
  pow_add x (suc a) b =
      ap (λ (n : ℕ). pow K x n) (suc-add a b) ∙ ap (λ y. x ⊗ y) (pow_add x a b) ∙ sym (⊗-assoc K x (pow K x a) (pow K x b))

  pub pow_live : (x : F) → ¬ (x ≡ 𝟘) → (n : ℕ) → ¬ (pow K x n ≡ 𝟘)
  unfolding pow
  pow_live x h zero e = K.one_not_zero e
  pow_live x h (suc n) e = pow_live x h n (K.no_zero x (pow K x n) e h)

  -- the coefficient of x^n in the product of the polynomial C and the series s
  unfoldable pub conv : List F → (ℕ → F) → ℕ → F
  conv [] s n = 𝟘
  conv (c ∷ cs) s zero = c ⊗ s 0
  conv (c ∷ cs) s (suc n) = c ⊗ s (suc n) ⊕ conv cs s n

  module _ {P : Type 0} (X Z : P → F) (XZ : (p : P) → X p ⊗ Z p ≡ 𝟙) where
    abbrev M : List P → (P → F) → ℕ → F
    M = moment K X

    pub live : (p : P) → ¬ (X p ≡ 𝟘)
    live p e = K.one_not_zero (sym (XZ p) ∙ ap (λ y. y ⊗ Z p) e ∙ zero-⊗ K (Z p))

    apart_Z : (p q : P) → ¬ (X q ≡ X p) → ¬ (Z q ≡ Z p)
    apart_Z p q h e =
        h (sym (⊗-one K (X q)) ∙ ap (λ y. X q ⊗ y) (sym (XZ p)) ∙ turn (X q) (X p) (Z p)
        ∙ ap (λ y. X p ⊗ (X q ⊗ y)) (sym e) ∙ ap (λ y. X p ⊗ y) (XZ q) ∙ ⊗-one K (X p))
      where
        turn : (a b c : F) → a ⊗ (b ⊗ c) ≡ b ⊗ (a ⊗ c)
        turn a b c = simp ring

    pub distinct_Z : (ps : List P) → Distinct K X ps → Distinct K Z ps
    distinct_Z [] h = tt
    distinct_Z (p ∷ ps) h = (all_map (λ q n. apart_Z p q n) ps h.0, distinct_Z ps h.1)

    pub moment_zero : (ps : List P) (w : P → F) (n : ℕ) → All (λ p. w p ≡ 𝟘) ps → M ps w n ≡ 𝟘
    moment_zero ps w n h = sum_zero K ps _ (all_map (λ p e. ap (λ y. y ⊗ pow K (X p) n) e ∙ zero-⊗ K (pow K (X p) n)) ps h)

    pub moment_shift : (ps : List P) (w : P → F) (k i : ℕ) → M ps (λ p. w p ⊗ pow K (X p) k) i ≡ M ps w (k + i)
    moment_shift ps w k i =
        sum_eq K ps _ _ (λ p. ⊗-assoc K (w p) (pow K (X p) k) (pow K (X p) i) ∙ ap (λ y. w p ⊗ y) (sym (pow_add (X p) k i)))

    -- as many moments in a row as places, from the k-th on
    pub vander_from : (ps : List P) → Distinct K X ps → (w : P → F) (k : ℕ)
        → ((i : ℕ) → i < length ps → M ps w (k + i) ≡ 𝟘) → All (λ p. w p ≡ 𝟘) ps
    vander_from ps d w k h =
        all_map (λ p e. K.no_zero (pow K (X p) k) (w p) (⊗-comm K (pow K (X p) k) (w p) ∙ e) (pow_live (X p) (live p) k)) ps
        (vander K X ps d (λ p. w p ⊗ pow K (X p) k) (λ i l. moment_shift ps w k i ∙ h i l))

    -- Z takes a moment one down
    down_eq : (p : P) (u y : F) → Z p ⊗ u ⊗ (X p ⊗ y) ≡ u ⊗ y
    down_eq p u y = reorder (X p) (Z p) u y ∙ ap (λ t. t ⊗ (u ⊗ y)) (XZ p) ∙ one-⊗ K (u ⊗ y)
      where
        reorder : (x z u y : F) → z ⊗ u ⊗ (x ⊗ y) ≡ x ⊗ z ⊗ (u ⊗ y)
        reorder x z u y = simp ring

    down : (ps : List P) (w : P → F) (n : ℕ) → M ps (λ p. Z p ⊗ w p) (suc n) ≡ M ps w n
    unfolding pow
    down ps w n = sum_eq K ps _ _ (λ p. down_eq p (w p) (pow K (X p) n))

    down_by : (ps : List P) (w : P → F) (g n : ℕ) → M ps (λ p. pow K (Z p) g ⊗ w p) (g + n) ≡ M ps w n
    unfolding pow
    down_by ps w zero n =
        ap (λ (k : ℕ). M ps (λ p. 𝟙 ⊗ w p) k) (zero-add n)
        ∙ sum_eq K ps _ _ (λ p. ap (λ y. y ⊗ pow K (X p) n) (one-⊗ K (w p)))
    down_by ps w (suc g) n =
        ap (λ (k : ℕ). M ps (λ p. Z p ⊗ pow K (Z p) g ⊗ w p) k) (suc-add g n)
        ∙ sum_eq K ps _ _ (λ p. ap (λ y. y ⊗ pow K (X p) (suc (g + n))) (⊗-assoc K (Z p) (pow K (Z p) g) (w p)))
        ∙ down ps (λ p. pow K (Z p) g ⊗ w p) (g + n)
        ∙ down_by ps w g n

    value_eq₀ : (c u z e y : F) → e ≡ 𝟘 → c ⊗ (u ⊗ y) ≡ u ⊗ (c ⊕ z ⊗ e) ⊗ y
    value_eq₀ c u z e y h = plain ∙ ap (λ t. u ⊗ (c ⊕ z ⊗ t) ⊗ y) (sym h)
      where
        plain : c ⊗ (u ⊗ y) ≡ u ⊗ (c ⊕ z ⊗ 𝟘) ⊗ y
        plain = simp ring

    value_eq₁ : (c u z e y : F) → c ⊗ (u ⊗ y) ⊕ z ⊗ (u ⊗ e) ⊗ y ≡ u ⊗ (c ⊕ z ⊗ e) ⊗ y
    value_eq₁ c u z e y = simp ring

    nil_eq : (u y : F) → 𝟘 ≡ u ⊗ 𝟘 ⊗ y
    nil_eq u y = simp ring

    -- the discrepancy of C at n is the n-th moment of the weights times C's values
    pub conv_moment : (C : List F) (n : ℕ) → DegLe K n C → (ps : List P) (Y : P → F) (s : ℕ → F)
        → ((k : ℕ) → k ≤ n → s k ≡ M ps Y k) → conv C s n ≡ M ps (λ p. Y p ⊗ eval K C (Z p)) n
    unfolding conv eval
    conv_moment [] n d ps Y s h =
        sym (sum_mul K ps 𝟘 (λ p. 𝟘) ∙ zero-⊗ K (sum K ps (λ p. 𝟘)))
        ∙ sum_eq K ps _ _ (λ p. zero-⊗ K 𝟘 ∙ nil_eq (Y p) (pow K (X p) n))
    conv_moment (c ∷ cs) zero d ps Y s h =
        ap (λ y. c ⊗ y) (h 0 (omega arith))
        ∙ sym (sum_mul K ps c (λ p. Y p ⊗ pow K (X p) 0))
        ∙ sum_eq K ps _ _ (λ p. value_eq₀ c (Y p) (Z p) (eval K cs (Z p)) (pow K (X p) 0) (eval_zeros K cs (Z p) d))
    conv_moment (c ∷ cs) (suc n) d ps Y s h =
        ap₂ (λ y t. c ⊗ y ⊕ t) (h (suc n) (omega arith)) (conv_moment cs n d ps Y s (λ k l. h k (omega arith)))
        ∙ ap₂ ◌⊕◌ (sym (sum_mul K ps c (λ p. Y p ⊗ pow K (X p) (suc n)))) (sym (down ps (λ p. Y p ⊗ eval K cs (Z p)) n))
        ∙ sym (sum_add K ps (λ p. c ⊗ (Y p ⊗ pow K (X p) (suc n))) (λ p. Z p ⊗ (Y p ⊗ eval K cs (Z p)) ⊗ pow K (X p) (suc n)))
        ∙ sum_eq K ps _ _ (λ p. value_eq₁ c (Y p) (Z p) (eval K cs (Z p)) (pow K (X p) (suc n)))

    -- ---- the invariant, for the weights Y at the places ps

    module _ (ps : List P) (Y : P → F) where
      -- the n-th moment of Y times the values of C
      abbrev D : List F → ℕ → F
      D C n = M ps (λ p. Y p ⊗ eval K C (Z p)) n

      -- before step n: B had length m when it failed, at step `at`, by b
      pub record Prev (n gap m : ℕ) (B : List F) (b : F) : Type 0 where
        pub at : ℕ
        pub when : at + gap ≡ n
        pub fails : D B at ≡ b
        pub held : (k : ℕ) → m ≤ k → k < at → D B k ≡ 𝟘

      pub record Inv (N n : ℕ) (C B : List F) (L gap : ℕ) (b : F) : Type 0 where
        pub one : get_or C 0 𝟘 ≡ 𝟙
        pub long : length C ≡ suc N
        pub deg : DegLe K L C
        pub low : L ≤ n
        pub few : L ≤ length ps
        pub holds : (k : ℕ) → L ≤ k → k < n → D C k ≡ 𝟘
        pub m : ℕ
        pub deg_b : DegLe K m B
        pub sizes : m + gap + L ≡ n + 1
        pub gap_pos : 1 ≤ gap
        pub b_live : ¬ (b ≡ 𝟘)
        pub prev : 1 ≤ L → Prev n gap m B b

      -- no discrepancy: the gap widens
      pub keep : (N n : ℕ) (C B : List F) (L gap : ℕ) (b : F) → Inv N n C B L gap b → D C n ≡ 𝟘
          → Inv N (suc n) C B L (suc gap) b
      keep N n C B L gap b v e =
          record {
            one = v.one;
            long = v.long;
            deg = v.deg;
            low = omega arith;
            few = v.few;
            holds = λ k l h. further k l h (ℕ_discrete k n);
            m = v.m;
            deg_b = v.deg_b;
            sizes = omega (arith, v.sizes);
            gap_pos = omega arith;
            b_live = v.b_live;
            prev = λ l. record { at = (v.prev l).at; when = omega (arith, (v.prev l).when); fails = (v.prev l).fails; held = (v.prev l).held };
          }
        where
          further : (k : ℕ) → L ≤ k → k < suc n → Dec (k ≡ n) → D C k ≡ 𝟘
          further k l h (yes q) = ap (λ (j : ℕ). D C j) q ∙ e
          further k l h (no q) = v.holds k l (omega arith)

      -- a discrepancy comes early: before as many steps past the length as there are places
      pub early : Distinct K X ps → (n : ℕ) (C : List F) (L : ℕ) → ((k : ℕ) → L ≤ k → k < n → D C k ≡ 𝟘)
          → ¬ (D C n ≡ 𝟘) → n < L + length ps
      early d n C L holds e = decide (dec_le (L + length ps) n)
        where
          decide : Dec (L + length ps ≤ n) → n < L + length ps
          decide (yes q) =
              absurd (e (moment_zero ps (λ p. Y p ⊗ eval K C (Z p)) n
              (vander_from ps d (λ p. Y p ⊗ eval K C (Z p)) L (λ i l. holds (L + i) (omega arith) (omega arith)))))
          decide (no q) = omega (arith, q)

      upd_value : (u e k z f y : F) → u ⊗ (e ⊕ k ⊗ (z ⊗ f)) ⊗ y ≡ u ⊗ e ⊗ y ⊕ k ⊗ (z ⊗ (u ⊗ f) ⊗ y)
      upd_value u e k z f y = simp ring

      -- the moments of the corrected locator
      pub D_upd : (C : List F) (gap : ℕ) (κ : F) (B : List F) (m j : ℕ) → DegLe K m B → m + gap < length C
          → D (upd K C gap κ B) (gap + j) ≡ D C (gap + j) ⊕ κ ⊗ D B j
      D_upd C gap κ B m j h l =
          sum_eq K ps _ _ (λ p.
          ap (λ y. Y p ⊗ y ⊗ pow K (X p) (gap + j)) (eval_upd K C gap κ B m (Z p) h l)
          ∙ upd_value (Y p) (eval K C (Z p)) κ (pow K (Z p) gap) (eval K B (Z p)) (pow K (X p) (gap + j)))
          ∙ sum_add K ps (λ p. Y p ⊗ eval K C (Z p) ⊗ pow K (X p) (gap + j))
          (λ p. κ ⊗ (pow K (Z p) gap ⊗ (Y p ⊗ eval K B (Z p)) ⊗ pow K (X p) (gap + j)))
          ∙ ap (λ y. D C (gap + j) ⊕ y)
          (sum_mul K ps κ (λ p. pow K (Z p) gap ⊗ (Y p ⊗ eval K B (Z p)) ⊗ pow K (X p) (gap + j))
          ∙ ap (λ y. κ ⊗ y) (down_by ps (λ p. Y p ⊗ eval K B (Z p)) gap j))

      -- after the correction nothing fails up to n
      fixed : (N n : ℕ) (C B : List F) (L gap : ℕ) (b : F) (v : Inv N n C B L gap b) (κ : F) → κ ⊗ b ≡ D C n → n < N
          → 1 ≤ L → (k : ℕ) → v.m + gap ≤ k → L ≤ k → k < suc n → D (upd K C gap κ B) k ≡ 𝟘
      fixed N n C B L gap b v κ e h l k lo lL hi =
          subst (λ (i : ℕ). D (upd K C gap κ B) i ≡ 𝟘) split
          (D_upd C gap κ B v.m (k - gap) v.deg_b (omega (arith, v.sizes, v.long)) ∙ zero_there (ℕ_discrete k n))
        where
          split : gap + (k - gap) ≡ k
          split = omega arith

          zero_there : Dec (k ≡ n) → D C (gap + (k - gap)) ⊕ κ ⊗ D B (k - gap) ≡ 𝟘
          zero_there (yes q) =
              ap₂ (λ (i j : ℕ). D C i ⊕ κ ⊗ D B j) (omega arith) (omega (arith, (v.prev l).when))
              ∙ ap (λ y. D C n ⊕ κ ⊗ y) (v.prev l).fails
              ∙ ap (λ y. D C n ⊕ y) e ∙ ⊕-self K (D C n)
          zero_there (no q) =
              ap₂ (λ x y. x ⊕ κ ⊗ y) (v.holds (gap + (k - gap)) (omega arith) (omega arith))
              ((v.prev l).held (k - gap) (omega arith) (omega (arith, (v.prev l).when)))
              ∙ ap (λ y. 𝟘 ⊕ y) (⊗-zero K κ) ∙ ⊕-self K 𝟘

      head_upd : (C : List F) (g : ℕ) (κ : F) (B : List F) → 1 ≤ g → get_or (upd K C g κ B) 0 𝟘 ≡ get_or C 0 𝟘
      unfolding upd
      head_upd [] g κ B h = refl
      head_upd (c ∷ cs) zero κ B h = absurd (not-suc-le-zero h)
      head_upd (c ∷ cs) (suc g) κ B h = refl

      -- a discrepancy, and the locator is long enough
      pub stay : (N n : ℕ) (C B : List F) (L gap : ℕ) (b κ : F) → Inv N n C B L gap b → n < N → κ ⊗ b ≡ D C n → n < L + L
          → Inv N (suc n) (upd K C gap κ B) B L (suc gap) b
      stay N n C B L gap b κ v h e l =
          record {
            one = head_upd C gap κ B v.gap_pos ∙ v.one;
            long = length_upd K C gap κ B ∙ v.long;
            deg = deg_upd K C gap κ B L v.m v.deg v.deg_b (omega (arith, v.sizes));
            low = omega (arith, v.low);
            few = v.few;
            holds = λ k lo hi. fixed N n C B L gap b v κ e h (omega arith) k (omega (arith, v.sizes)) lo hi;
            m = v.m;
            deg_b = v.deg_b;
            sizes = omega (arith, v.sizes);
            gap_pos = omega arith;
            b_live = v.b_live;
            prev = λ q. record { at = (v.prev q).at; when = omega (arith, (v.prev q).when); fails = (v.prev q).fails; held = (v.prev q).held };
          }

      -- a discrepancy, and the locator must grow
      pub grow : Distinct K X ps → (N n : ℕ) (C B : List F) (L gap : ℕ) (b κ : F) → Inv N n C B L gap b → n < N → κ ⊗ b ≡ D C n
          → ¬ (D C n ≡ 𝟘) → L + L ≤ n → Inv N (suc n) (upd K C gap κ B) C (n + 1 - L) 1 (D C n)
      grow d N n C B L gap b κ v h e live l =
          record {
            one = head_upd C gap κ B v.gap_pos ∙ v.one;
            long = length_upd K C gap κ B ∙ v.long;
            deg =
                deg_upd K C gap κ B (n + 1 - L) v.m (deg_mono K C L (n + 1 - L) (omega arith) v.deg) v.deg_b
                (omega (arith, v.sizes));
            low = omega arith;
            few = omega (arith, early d n C L v.holds live);
            holds = λ k lo hi. held k lo hi (dec_le 1 L);
            m = L;
            deg_b = v.deg;
            sizes = omega arith;
            gap_pos = omega arith;
            b_live = live;
            prev = λ q. record { at = n; when = omega arith; fails = refl; held = v.holds };
          }
        where
          held : (k : ℕ) → n + 1 - L ≤ k → k < suc n → Dec (1 ≤ L) → D (upd K C gap κ B) k ≡ 𝟘
          held k lo hi (yes q) = fixed N n C B L gap b v κ e h q k (omega (arith, v.sizes)) (omega arith) hi
          held k lo hi (no q) = absurd (omega (arith, q))
