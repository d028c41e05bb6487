-- Differences with their sign.
-- Assumes nothing.
use mathlib.Core.Path.{◌≡◌, refl, sym, ap, ap₂, ◌∙◌}
use mathlib.Core.Bool.{Bool, true, false, cond}
use Prim.Native.Nat.{ℕ, zero, suc, ◌+◌, ◌-◌}
use native.Mathlib.Nat.{add-zero, sub-zero}
use native.Mathlib.Omega.{arith}
use borrow.Author.Tests.{ltb-true, ltb-false}
use lib.Dec.{ltb}
use lib.IntN.{ℤ, pos, negsuc, sub_ℕ, neg_ℤ, ◌+ℤ◌, ◌-ℤ◌, +ℤ_assoc, +ℤ_comm, neg_ℤ-+ℤ, neg_ℤ-neg_ℤ}
use Rattle.bits.proofs.Conds.{cond_lt, cond_ge}

pub minus : (a b : ℕ) → pos a -ℤ pos b ≡ sub_ℕ a b
minus a zero = ap pos (add-zero a ∙ sym (sub-zero a)) ∙ sym (cond_ge a 0 (negsuc (0 - suc a)) (pos (a - 0)) (omega arith))
minus a (suc b) = refl

pub whole : (a : ℕ) → pos a ≡ sub_ℕ a 0
whole a = ap pos (sym (sub-zero a)) ∙ sym (cond_ge a 0 (negsuc (0 - suc a)) (pos (a - 0)) (omega arith))

across : (x y u v : ℤ) → (x +ℤ y) +ℤ (u +ℤ v) ≡ (x +ℤ u) +ℤ (y +ℤ v)
across x y u v =
    +ℤ_assoc x y (u +ℤ v)
    ∙ ap (λ (z : ℤ). x +ℤ z) (sym (+ℤ_assoc y u v) ∙ ap (λ (z : ℤ). z +ℤ v) (+ℤ_comm y u) ∙ +ℤ_assoc u y v)
    ∙ sym (+ℤ_assoc x u (y +ℤ v))

pub sub_add : (a b c d : ℕ) → sub_ℕ (a + c) (b + d) ≡ sub_ℕ a b +ℤ sub_ℕ c d
sub_add a b c d =
    sym (minus (a + c) (b + d)) ∙ ap (λ (z : ℤ). pos (a + c) +ℤ z) (neg_ℤ-+ℤ (pos b) (pos d)) ∙ across (pos a) (pos c) (neg_ℤ (pos b)) (neg_ℤ (pos d))
    ∙ ap₂ (λ (x y : ℤ). x +ℤ y) (minus a b) (minus c d)

turned : (c d : ℕ) → neg_ℤ (sub_ℕ c d) ≡ sub_ℕ d c
turned c d =
    ap neg_ℤ (sym (minus c d)) ∙ neg_ℤ-+ℤ (pos c) (neg_ℤ (pos d)) ∙ ap (λ (z : ℤ). neg_ℤ (pos c) +ℤ z) (neg_ℤ-neg_ℤ (pos d)) ∙ +ℤ_comm (neg_ℤ (pos c)) (pos d) ∙ minus d c

pub sub_sub : (a b c d : ℕ) → sub_ℕ a b -ℤ sub_ℕ c d ≡ sub_ℕ (a + d) (b + c)
sub_sub a b c d = ap (λ (z : ℤ). sub_ℕ a b +ℤ z) (turned c d) ∙ sym (sub_add a b d c)

pub sub_like : (a b c d : ℕ) → a + d ≡ c + b → sub_ℕ a b ≡ sub_ℕ c d
sub_like a b c d e = go (ltb a b) refl
  where
    go : (t : Bool) → ltb a b ≡ t → cond t (negsuc (b - suc a)) (pos (a - b)) ≡ sub_ℕ c d
    go true w =
        let l = ltb-true a b w in
        let h : b - suc a ≡ d - suc c = omega arith in
        ap negsuc h ∙ sym (cond_lt c d (negsuc (d - suc c)) (pos (c - d)) (omega arith))
    go false w =
        let l = ltb-false a b w in
        let h : a - b ≡ c - d = omega arith in
        ap pos h ∙ sym (cond_ge c d (negsuc (d - suc c)) (pos (c - d)) (omega arith))

-- b lies x - y behind a
pub behind : (a b x y : ℕ) → b + y ≡ a + x → pos b ≡ pos a +ℤ sub_ℕ x y
behind a b x y e =
    whole b ∙ sub_like b 0 (a + x) (0 + y) (omega arith) ∙ sub_add a 0 x y ∙ ap (λ (z : ℤ). z +ℤ sub_ℕ x y) (sym (whole a))
