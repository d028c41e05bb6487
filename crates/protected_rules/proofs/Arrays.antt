-- What `array::from_fn` makes by a closure that changes nothing: the table of what the closure gives.
-- Assumes nothing.
use Rattle.std.proofs.Common.{List, ◌≡◌, ℕ, zero, suc, ◌+◌, ◌<◌, ◌≤◌, slice_index_or, subst, refl, sym, ◌∙◌, arith}
use Rattle.std.specs.Array.{IsFromFnResult, IsFromFnResultFrom}
use denote.Param.Members.{Mut, Called}
use native.Mathlib.Decide.{ℕ_discrete}
use Rattle.bits.specs.Bit.{tab}
use Rattle.bits.proofs.Tabs.{is_tab}

module _ {F : Type 0} (g : Mut F (ℕ × Unit {0}) ℕ) (f : F) (n : ℕ) (h : ℕ → ℕ) (calls : (i y : ℕ) (q : F) → i < n → Called g f (i, tt) y q → (y ≡ h i) × (q ≡ f)) where
  held : (ys : List ℕ) (i m : ℕ) (p : F) → p ≡ f → i + m ≡ n → IsFromFnResultFrom g p ys i m → (k : ℕ) → i ≤ k → k < n → slice_index_or ys k 0 ≡ h k
  held ys i zero p e z r k l u = absurd (omega arith)
  held ys i (suc m) p e z r k l u =
      let both : (r.1 ≡ h i) × (r.0 ≡ f) = calls i r.1 r.0 (omega arith) (subst (λ (x : F). Called g x (i, tt) r.1 r.0) e r.3) in
      go (λ l. held ys (i + 1) m r.0 both.1 (omega arith) r.4 k l u) (r.2.1 0 ∙ both.0) (ℕ_discrete k i)
    where
      go : (i + 1 ≤ k → slice_index_or ys k 0 ≡ h k) → slice_index_or ys i 0 ≡ h i → Dec (k ≡ i) → slice_index_or ys k 0 ≡ h k
      go later here (yes q) = subst (λ (x : ℕ). slice_index_or ys x 0 ≡ h x) (sym q) here
      go later here (no q) = later (omega arith)

  pub made_by : (ys : List ℕ) → IsFromFnResult g f ys n → ys ≡ tab n h
  made_by ys r = is_tab ys n h r.long (λ k l. held ys 0 n f refl (omega arith) r.each k (omega arith) l)
