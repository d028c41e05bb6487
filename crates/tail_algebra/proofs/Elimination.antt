-- Gauss-Jordan: each column's step keeps the solutions; at the end they can be read off; no pivot means a solution of zeros that is not zero.
-- Assumes nothing.
use mathlib.Core.Path.{◌≡◌, refl, sym, ap, ap₂, subst, ◌∙◌}
use mathlib.Core.List.{List, [], ◌∷◌, map}
use Prim.Native.Nat.{ℕ, zero, suc, ◌<◌, ◌≤◌}
use native.Mathlib.Nat.{le_of_suc-le-suc, not-suc-le-zero}
use native.Mathlib.Decide.{dec_lt, ℕ_discrete}
use native.Mathlib.Omega.{arith}
use Rattle.tail_algebra.proofs.Fields.{Field, ring, same, ⊗-zero, zero-⊗, ⊗-assoc, ⊕-zero, ⊕-self, zero-⊕, add-⊗, ⊗-one, one-⊗}
use Rattle.bits.specs.Alls.{All}
use Rattle.bits.proofs.Alls.{all_map}
use Rattle.tail_algebra.proofs.Vandermonde.{sum, sum_eq, sum_ext, sum_zero, sum_add, sum_mul}
use Rattle.tail_algebra.proofs.Word.{places, all_below_lem}

module _ (K : Field) where
  open K use {F, ◌⊕◌, ◌⊗◌, 𝟘, 𝟙}

  infixl 60 ◌⊕◌
  infixl 70 ◌⊗◌
  -- a matrix by row and column; the product of a row of n entries with a vector
  abbrev pub Mat : Type 0
  Mat = ℕ → ℕ → F

  unfoldable pub dot : ℕ → (ℕ → F) → (ℕ → F) → F
  dot n a z = sum K (places n) (λ c. a c ⊗ z c)

  dot_mul : (n : ℕ) (k : F) (a z : ℕ → F) → dot n (λ c. k ⊗ a c) z ≡ k ⊗ dot n a z
  unfolding dot
  dot_mul n k a z = sum_eq K (places n) _ _ (λ c. ⊗-assoc K k (a c) (z c)) ∙ sum_mul K (places n) k (λ c. a c ⊗ z c)

  dot_add : (n : ℕ) (a b z : ℕ → F) → dot n (λ c. a c ⊕ b c) z ≡ dot n a z ⊕ dot n b z
  unfolding dot
  dot_add n a b z = sum_eq K (places n) _ _ (λ c. add-⊗ K (a c) (b c) (z c)) ∙ sum_add K (places n) (λ c. a c ⊗ z c) (λ c. b c ⊗ z c)

  dot_eq : (n : ℕ) (a b z : ℕ → F) → ((c : ℕ) → a c ≡ b c) → dot n a z ≡ dot n b z
  unfolding dot
  dot_eq n a b z h = sum_eq K (places n) _ _ (λ c. ap (λ y. y ⊗ z c) (h c))

  -- z is a solution: each of the m rows of A, of n entries, has product zero with it
  abbrev pub Solves : ℕ → ℕ → Mat → (ℕ → F) → Type 0
  Solves m n A z = (r : ℕ) → r < m → dot n (A r) z ≡ 𝟘

  -- one column cleared: the pivot's row is scaled, a multiple of it is added to each other row
  pub record Cleared (m col : ℕ) (A B : Mat) : Type 0 where
    pub by : F
    pub pivot : by ⊗ A col col ≡ 𝟙
    pub scaled : (c : ℕ) → B col c ≡ by ⊗ A col c
    pub others : (r : ℕ) → r < m → ¬ (r ≡ col) → (c : ℕ) → B r c ≡ A r c ⊕ A r col ⊗ B col c

  module _ (m n col : ℕ) (A B : Mat) (v : Cleared m col A B) (inside : col < m) where
    pivot_row : (c : ℕ) → A col c ≡ A col col ⊗ B col c
    pivot_row c =
        sym (one-⊗ K (A col c)) ∙ ap (λ y. y ⊗ A col c) (sym v.pivot) ∙ turn v.by (A col col) (A col c)
        ∙ ap (λ y. A col col ⊗ y) (sym (v.scaled c))
      where
        turn : (i p a : F) → i ⊗ p ⊗ a ≡ p ⊗ (i ⊗ a)
        turn i p a = simp ring

    back_row : (r : ℕ) → r < m → ¬ (r ≡ col) → (c : ℕ) → A r c ≡ B r c ⊕ A r col ⊗ B col c
    back_row r l q c = undo (A r c) (A r col ⊗ B col c) ∙ ap (λ y. y ⊕ A r col ⊗ B col c) (sym (v.others r l q c))
      where
        undo : (a b : F) → a ≡ a ⊕ b ⊕ b
        undo a b = simp ring

    pub cleared_to : (z : ℕ → F) → Solves m n A z → Solves m n B z
    cleared_to z h r l = row (ℕ_discrete r col)
      where
        piv : dot n (B col) z ≡ 𝟘
        piv = dot_eq n (B col) (λ c. v.by ⊗ A col c) z v.scaled ∙ dot_mul n v.by (A col) z ∙ ap (λ y. v.by ⊗ y) (h col inside) ∙ ⊗-zero K v.by

        row : Dec (r ≡ col) → dot n (B r) z ≡ 𝟘
        row (yes q) = ap (λ (k : ℕ). dot n (B k) z) q ∙ piv
        row (no q) =
            dot_eq n (B r) (λ c. A r c ⊕ A r col ⊗ B col c) z (v.others r l q) ∙ dot_add n (A r) (λ c. A r col ⊗ B col c) z
            ∙ ap₂ ◌⊕◌ (h r l) (dot_mul n (A r col) (B col) z ∙ ap (λ y. A r col ⊗ y) piv ∙ ⊗-zero K (A r col)) ∙ ⊕-self K 𝟘

    pub cleared_from : (z : ℕ → F) → Solves m n B z → Solves m n A z
    cleared_from z h r l = row (ℕ_discrete r col)
      where
        row : Dec (r ≡ col) → dot n (A r) z ≡ 𝟘
        row (yes q) =
            ap (λ (k : ℕ). dot n (A k) z) q ∙ dot_eq n (A col) (λ c. A col col ⊗ B col c) z pivot_row ∙ dot_mul n (A col col) (B col) z
            ∙ ap (λ y. A col col ⊗ y) (h col inside) ∙ ⊗-zero K (A col col)
        row (no q) =
            dot_eq n (A r) (λ c. B r c ⊕ A r col ⊗ B col c) z (back_row r l q) ∙ dot_add n (B r) (λ c. A r col ⊗ B col c) z
            ∙ ap₂ ◌⊕◌ (h r l) (dot_mul n (A r col) (B col) z ∙ ap (λ y. A r col ⊗ y) (h col inside) ∙ ⊗-zero K (A r col)) ∙ ⊕-self K 𝟘

  -- the first k columns are those of the unit matrix
  pub record Units (m k : ℕ) (A : Mat) : Type 0 where
    pub ones : (r : ℕ) → r < k → A r r ≡ 𝟙
    pub zeros : (r c : ℕ) → r < m → c < k → ¬ (r ≡ c) → A r c ≡ 𝟘

  pub units_cleared : (m col : ℕ) (A B : Mat) → Cleared m col A B → col < m → Units m col A → Units m (suc col) B
  units_cleared m col A B v inside u =
      record { ones = λ r l. one r l (ℕ_discrete r col); zeros = λ r c l h q. nought r c l h q (ℕ_discrete r col) (ℕ_discrete c col) }
    where
      top : B col col ≡ 𝟙
      top = v.scaled col ∙ v.pivot

      left : (c : ℕ) → c < col → B col c ≡ 𝟘
      left c l = v.scaled c ∙ ap (λ y. v.by ⊗ y) (u.zeros col c inside l (λ e. absurd (omega (arith, e)))) ∙ ⊗-zero K v.by

      kept : (r c : ℕ) → r < m → c < col → ¬ (r ≡ col) → B r c ≡ A r c
      kept r c l h q = v.others r l q c ∙ ap (λ y. A r c ⊕ A r col ⊗ y) (left c h) ∙ ap (λ y. A r c ⊕ y) (⊗-zero K (A r col)) ∙ ⊕-zero K (A r c)

      one : (r : ℕ) → r < suc col → Dec (r ≡ col) → B r r ≡ 𝟙
      one r l (yes q) = subst (λ (k : ℕ). B k k ≡ 𝟙) (sym q) top
      one r l (no q) = kept r r (omega arith) (omega (arith, q)) q ∙ u.ones r (omega (arith, q))

      nought : (r c : ℕ) → r < m → c < suc col → ¬ (r ≡ c) → Dec (r ≡ col) → Dec (c ≡ col) → B r c ≡ 𝟘
      nought r c l h q (yes e) (yes f) = absurd (q (e ∙ sym f))
      nought r c l h q (yes e) (no f) = ap (λ (k : ℕ). B k c) e ∙ left c (omega (arith, f))
      nought r c l h q (no e) (yes f) =
          ap (λ (k : ℕ). B r k) f ∙ v.others r l e col ∙ ap (λ y. A r col ⊕ A r col ⊗ y) top
          ∙ ap (λ y. A r col ⊕ y) (⊗-one K (A r col)) ∙ ⊕-self K (A r col)
      nought r c l h q (no e) (no f) = kept r c l (omega (arith, f)) e ∙ u.zeros r c l (omega (arith, f)) q

  -- ---- a sum over places with one or two terms that are not zero

  pick : ℕ → ℕ → F → F
  pick zero zero y = y
  pick zero (suc c) y = 𝟘
  pick (suc i) zero y = 𝟘
  pick (suc i) (suc c) y = pick i c y

  pick_same : (i : ℕ) (y : F) → pick i i y ≡ y
  unfolding pick
  pick_same zero y = refl
  pick_same (suc i) y = pick_same i y

  pick_other : (i c : ℕ) (y : F) → ¬ (c ≡ i) → pick i c y ≡ 𝟘
  unfolding pick
  pick_other zero zero y h = absurd (h refl)
  pick_other zero (suc c) y h = refl
  pick_other (suc i) zero y h = refl
  pick_other (suc i) (suc c) y h = pick_other i c y (λ e. h (ap suc e))

  pub sum_suc : (ps : List ℕ) (f : ℕ → F) → sum K (map suc ps) f ≡ sum K ps (λ p. f (suc p))
  unfolding sum
  sum_suc [] f = refl
  sum_suc (p ∷ ps) f = ap (λ t. f (suc p) ⊕ t) (sum_suc ps f)

  all_any : (Q : ℕ → Type 0) (ps : List ℕ) → ((p : ℕ) → Q p) → All Q ps
  all_any Q [] h = tt
  all_any Q (p ∷ ps) h = (h p, all_any Q ps h)

  sum_pick : (n i : ℕ) (f : ℕ → F) → i < n → sum K (places n) (λ c. pick i c (f c)) ≡ f i
  unfolding sum pick
  sum_pick zero i f h = absurd (not-suc-le-zero h)
  sum_pick (suc n) zero f h =
      ap (λ y. f 0 ⊕ y) (sum_suc (places n) (λ c. pick 0 c (f c)) ∙ sum_zero K (places n) _ (all_any (λ c. 𝟘 ≡ 𝟘) (places n) (λ p. refl))) ∙ ⊕-zero K (f 0)
  sum_pick (suc n) (suc i) f h =
      zero-⊕ K _ ∙ sum_suc (places n) (λ c. pick (suc i) c (f c)) ∙ sum_pick n i (λ c. f (suc c)) (le_of_suc-le-suc h)

  pub sum_two : (n i j : ℕ) (f : ℕ → F) → i < n → j < n → ¬ (i ≡ j) → ((c : ℕ) → c < n → ¬ (c ≡ i) → ¬ (c ≡ j) → f c ≡ 𝟘)
      → sum K (places n) f ≡ f i ⊕ f j
  sum_two n i j f hi hj d h =
      sum_ext K (places n) f (λ c. pick i c (f c) ⊕ pick j c (f c)) (all_map (λ c l. at c l (ℕ_discrete c i) (ℕ_discrete c j)) (places n) (all_below_lem n))
      ∙ sum_add K (places n) (λ c. pick i c (f c)) (λ c. pick j c (f c))
      ∙ ap₂ ◌⊕◌ (sum_pick n i f hi) (sum_pick n j f hj)
    where
      at : (c : ℕ) → c < n → Dec (c ≡ i) → Dec (c ≡ j) → f c ≡ pick i c (f c) ⊕ pick j c (f c)
      at c l (yes p) (yes q) = absurd (d (sym p ∙ q))
      at c l (yes p) (no q) =
          sym (ap₂ ◌⊕◌ (subst (λ (k : ℕ). pick k c (f c) ≡ f c) p (pick_same c (f c))) (pick_other j c (f c) q) ∙ ⊕-zero K (f c))
      at c l (no p) (yes q) =
          sym (ap₂ ◌⊕◌ (pick_other i c (f c) p) (subst (λ (k : ℕ). pick k c (f c) ≡ f c) q (pick_same c (f c))) ∙ zero-⊕ K (f c))
      at c l (no p) (no q) = h c l p q ∙ sym (ap₂ ◌⊕◌ (pick_other i c (f c) p) (pick_other j c (f c) q) ∙ ⊕-self K 𝟘)

  -- ---- the end: a solution with last entry one is what stands in the last column
  pub done : (m : ℕ) (A : Mat) (z : ℕ → F) → Units m m A → Solves m (suc m) A z → z m ≡ 𝟙 → (r : ℕ) → r < m → z r ≡ A r m
  unfolding dot
  done m A z u h one r l =
      same K
      (ap₂ ◌⊕◌ (sym (one-⊗ K (z r)) ∙ ap (λ y. y ⊗ z r) (sym (u.ones r l))) (sym (⊗-one K (A r m)) ∙ ap (λ y. A r m ⊗ y) (sym one))
      ∙ sym (sum_two (suc m) r m (λ c. A r c ⊗ z c) (omega arith) (omega arith) (λ e. absurd (omega (arith, e)))
      (λ c lc p q. ap (λ y. y ⊗ z c) (u.zeros r c l (omega (arith, q)) (λ e. p (sym e))) ∙ zero-⊗ K (z c)))
      ∙ h r l)

  -- ---- no pivot: a vector that is not zero solves the system without the last column
  kernel : (col : ℕ) (A : Mat) (c : ℕ) → Dec (c < col) → Dec (c ≡ col) → F
  kernel col A c (yes p) q = A c col
  kernel col A c (no p) (yes q) = 𝟙
  kernel col A c (no p) (no q) = 𝟘

  pub kernel_of : ℕ → Mat → ℕ → F
  kernel_of col A c = kernel col A c (dec_lt c col) (ℕ_discrete c col)

  kernel_low : (col : ℕ) (A : Mat) (c : ℕ) → c < col → kernel_of col A c ≡ A c col
  unfolding kernel kernel_of
  kernel_low col A c h = go (dec_lt c col)
    where
      go : (d : Dec (c < col)) → kernel col A c d (ℕ_discrete c col) ≡ A c col
      go (yes p) = refl
      go (no p) = absurd (p h)

  pub kernel_one : (col : ℕ) (A : Mat) → kernel_of col A col ≡ 𝟙
  unfolding kernel kernel_of
  kernel_one col A = go (dec_lt col col) (ℕ_discrete col col)
    where
      go : (d : Dec (col < col)) (e : Dec (col ≡ col)) → kernel col A col d e ≡ 𝟙
      go (yes p) e = absurd (omega (arith, p))
      go (no p) (yes e) = refl
      go (no p) (no e) = absurd (e refl)

  pub kernel_high : (col : ℕ) (A : Mat) (c : ℕ) → col < c → kernel_of col A c ≡ 𝟘
  unfolding kernel kernel_of
  kernel_high col A c h = go (dec_lt c col) (ℕ_discrete c col)
    where
      go : (d : Dec (c < col)) (e : Dec (c ≡ col)) → kernel col A c d e ≡ 𝟘
      go (yes p) e = absurd (omega (arith, p))
      go (no p) (yes e) = absurd (omega (arith, e))
      go (no p) (no e) = refl

  pub stuck : (m n col : ℕ) (A : Mat) → Units m col A → col < m → m ≤ n → ((r : ℕ) → r < m → col ≤ r → A r col ≡ 𝟘)
      → Solves m n A (kernel_of col A)
  unfolding dot
  stuck m n col A u l ln h r lr = go (dec_lt r col)
    where
      z : ℕ → F
      z = kernel_of col A

      high : (c : ℕ) → ¬ (c < col) → ¬ (c ≡ col) → A r c ⊗ z c ≡ 𝟘
      high c p q = ap (λ y. A r c ⊗ y) (kernel_high col A c (omega (arith, p, q))) ∙ ⊗-zero K (A r c)

      off : (c : ℕ) → ¬ (c ≡ r) → ¬ (c ≡ col) → Dec (c < col) → A r c ⊗ z c ≡ 𝟘
      off c p q (yes i) = ap (λ y. y ⊗ z c) (u.zeros r c lr i (λ e. p (sym e))) ∙ zero-⊗ K (z c)
      off c p q (no i) = high c i q

      below : (c : ℕ) → col ≤ r → Dec (c < col) → Dec (c ≡ col) → A r c ⊗ z c ≡ 𝟘
      below c k (yes i) q = ap (λ y. y ⊗ z c) (u.zeros r c lr i (λ e. absurd (omega (arith, e)))) ∙ zero-⊗ K (z c)
      below c k (no i) (yes q) = ap (λ y. y ⊗ z c) (ap (λ (j : ℕ). A r j) q ∙ h r lr k) ∙ zero-⊗ K (z c)
      below c k (no i) (no q) = high c i q

      go : Dec (r < col) → sum K (places n) (λ c. A r c ⊗ z c) ≡ 𝟘
      go (yes p) =
          sum_two n r col (λ c. A r c ⊗ z c) (omega arith) (omega arith) (λ e. absurd (omega (arith, e))) (λ c lc i j. off c i j (dec_lt c col))
          ∙ ap₂ ◌⊕◌ (ap₂ ◌⊗◌ (u.ones r p) (kernel_low col A r p) ∙ one-⊗ K (A r col)) (ap (λ y. A r col ⊗ y) (kernel_one col A) ∙ ⊗-one K (A r col))
          ∙ ⊕-self K (A r col)
      go (no p) = sum_zero K (places n) _ (all_any _ (places n) (λ c. below c (omega (arith, p)) (dec_lt c col) (ℕ_discrete c col)))

  -- ---- two rows exchanged
  pub record Swapped (m i j : ℕ) (A B : Mat) : Type 0 where
    pub first : (c : ℕ) → B i c ≡ A j c
    pub second : (c : ℕ) → B j c ≡ A i c
    pub rest : (r : ℕ) → r < m → ¬ (r ≡ i) → ¬ (r ≡ j) → (c : ℕ) → B r c ≡ A r c

  pub swapped_back : {m i j : ℕ} {A B : Mat} → Swapped m i j A B → Swapped m i j B A
  swapped_back v = record { first = λ c. sym (v.second c); second = λ c. sym (v.first c); rest = λ r l p q c. sym (v.rest r l p q c) }

  pub swapped_to : (m n i j : ℕ) (A B : Mat) → Swapped m i j A B → i < m → j < m → (z : ℕ → F) → Solves m n A z → Solves m n B z
  swapped_to m n i j A B v hi hj z h r l = go (ℕ_discrete r i) (ℕ_discrete r j)
    where
      go : Dec (r ≡ i) → Dec (r ≡ j) → dot n (B r) z ≡ 𝟘
      go (yes p) q = ap (λ (k : ℕ). dot n (B k) z) p ∙ dot_eq n (B i) (A j) z v.first ∙ h j hj
      go (no p) (yes q) = ap (λ (k : ℕ). dot n (B k) z) q ∙ dot_eq n (B j) (A i) z v.second ∙ h i hi
      go (no p) (no q) = dot_eq n (B r) (A r) z (v.rest r l p q) ∙ h r l

  pub units_swapped : (m k i j : ℕ) (A B : Mat) → Swapped m i j A B → k ≤ i → k ≤ j → i < m → j < m → k ≤ m → Units m k A → Units m k B
  units_swapped m k i j A B v ki kj hi hj km u =
      record {
        ones = λ r l. v.rest r (omega arith) (λ e. absurd (omega (arith, e))) (λ e. absurd (omega (arith, e))) r ∙ u.ones r l;
        zeros = λ r c l h q. go r c l h q (ℕ_discrete r i) (ℕ_discrete r j);
      }
    where
      go : (r c : ℕ) → r < m → c < k → ¬ (r ≡ c) → Dec (r ≡ i) → Dec (r ≡ j) → B r c ≡ 𝟘
      go r c l h q (yes p) s = ap (λ (y : ℕ). B y c) p ∙ v.first c ∙ u.zeros j c hj h (λ e. absurd (omega (arith, e)))
      go r c l h q (no p) (yes s) = ap (λ (y : ℕ). B y c) s ∙ v.second c ∙ u.zeros i c hi h (λ e. absurd (omega (arith, e)))
      go r c l h q (no p) (no s) = v.rest r l p s c ∙ u.zeros r c l h q
