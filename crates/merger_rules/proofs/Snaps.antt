-- The grid of the last release. Assumes nothing.
use Rattle.std.proofs.Common.{Option, Some, None}
use mathlib.Core.Path.{◌≡◌, refl, sym, ap, subst, ◌∙◌}
use mathlib.Core.Bool.{Bool, true, false}
use Prim.Native.Nat.{ℕ, ◌+◌, ◌-◌, ◌*◌, ◌/◌, ◌<◌, ◌≤◌}
use native.Mathlib.Nat.{max-eq_left, max-eq_right}
use native.Mathlib.Omega.{arith}
use lib.Dec.{ltb}
use borrow.Author.Tests.{lt-ltb, le-ltb, ltb-true, ltb-false}
use Rattle.merger_rules.specs.Merging.{is_late, steps, snapped, is_after}
use Rattle.merger_rules.specs.Offsets.{Later, Past, Clear}
use Rattle.merger_rules.proofs.Contrary.{contrary}

steps_one : (d : ℕ) → d < 192 → steps d ≡ 384
steps_one d h = ap (λ (q : ℕ). q * 384) (max-eq_left (let k : (d + 192) / 384 ≤ 1 = omega arith in k))

steps_more : (d : ℕ) → 192 ≤ d → steps d ≡ (d + 192) / 384 * 384
steps_more d h = ap (λ (q : ℕ). q * 384) (max-eq_right (let k : 1 ≤ (d + 192) / 384 = omega arith in k))

module _ (l o : ℕ) where
  pub snap_behind : o ≤ l → snapped (Some l) o ≡ o
  snap_behind h = simp (le-ltb l o h)

  pub snap_far : l < o → 6144 ≤ o - l → snapped (Some l) o ≡ o
  snap_far h g = simp (lt-ltb l o h, le-ltb (o - l) 6144 g)

  pub snap_near : l < o → o - l < 6144 → snapped (Some l) o ≡ l + steps (o - l)
  snap_near h g = simp (lt-ltb l o h, lt-ltb (o - l) 6144 g)

  pub snap_one : l < o → o - l < 192 → snapped (Some l) o ≡ l + 384
  snap_one h g = let k : o - l < 6144 = omega arith in snap_near h k ∙ ap (λ (x : ℕ). l + x) (steps_one (o - l) g)

  pub snap_grid : l < o → o - l < 6144 → 192 ≤ o - l → snapped (Some l) o ≡ l + (o - l + 192) / 384 * 384
  snap_grid h g k = snap_near h g ∙ ap (λ (x : ℕ). l + x) (steps_more (o - l) k)

-- the four cases: at the last release or before it; less than 192 after it; on its grid; 16 frames after it
pub snap_cases : (P : ℕ → Type 0) (l o : ℕ)
    → (o ≤ l → P o) → (l < o → o - l < 192 → P (l + 384)) → (l < o → 192 ≤ o - l → o - l < 6144 → P (l + (o - l + 192) / 384 * 384)) → (l < o → 6144 ≤ o - l → P o)
    → P (snapped (Some l) o)
snap_cases P l o a b c d = by (ltb l o) refl (ltb (o - l) 6144) refl (ltb (o - l) 192) refl
  where
    by : (x : Bool) → ltb l o ≡ x → (y : Bool) → ltb (o - l) 6144 ≡ y → (z : Bool) → ltb (o - l) 192 ≡ z → P (snapped (Some l) o)
    by true e true f true g = subst P (sym (snap_one l o (ltb-true _ _ e) (ltb-true _ _ g))) (b (ltb-true _ _ e) (ltb-true _ _ g))
    by true e true f false g = subst P (sym (snap_grid l o (ltb-true _ _ e) (ltb-true _ _ f) (ltb-false _ _ g))) (c (ltb-true _ _ e) (ltb-false _ _ g) (ltb-true _ _ f))
    by true e false f z g = subst P (sym (snap_far l o (ltb-true _ _ e) (ltb-false _ _ f))) (d (ltb-true _ _ e) (ltb-false _ _ f))
    by false e y f z g = subst P (sym (snap_behind l o (ltb-false _ _ e))) (a (ltb-false _ _ e))

-- a frame is moved on by at most 383
pub snapped_le : (last : Option ℕ) (o : ℕ) → snapped last o ≤ o + 383
snapped_le None o = omega arith
snapped_le (Some l) o = snap_cases (λ (x : ℕ). x ≤ o + 383) l o (λ h. omega arith) (λ h k. omega arith) (λ h k f. omega arith) (λ h k. omega arith)

-- and back by at most 191
pub snapped_ge : (last : Option ℕ) (o : ℕ) → o ≤ snapped last o + 191
snapped_ge None o = omega arith
snapped_ge (Some l) o = snap_cases (λ (x : ℕ). o ≤ x + 191) l o (λ h. omega arith) (λ h k. omega arith) (λ h k f. omega arith) (λ h k. omega arith)

-- from 192 after the last release on, it is moved on by at most 192
pub snapped_half : (l o : ℕ) → l + 192 ≤ o → snapped (Some l) o ≤ o + 192
snapped_half l o w = snap_cases (λ (x : ℕ). x ≤ o + 192) l o (λ h. omega arith) (λ h k. absurd (omega arith)) (λ h k f. omega arith) (λ h k. omega arith)

-- what lies after the last release is put after it, and nothing else is
pub later_after : (last : Option ℕ) (o : ℕ) → Later last o → is_after last (snapped last o) ≡ true
later_after None o h = refl
later_after (Some l) o w =
    snap_cases (λ (x : ℕ). is_after (Some l) x ≡ true) l o (λ h. absurd (omega arith)) (λ h k. lt-ltb l _ (omega arith)) (λ h k f. lt-ltb l _ (omega arith)) (λ h k. lt-ltb l _ (omega arith))

pub after_later : (last : Option ℕ) (o : ℕ) → is_after last (snapped last o) ≡ true → Later last o
after_later None o e = tt
after_later (Some l) o t = snap_cases (λ (x : ℕ). is_after (Some l) x ≡ true → l < o) l o (λ h e. omega (arith, ltb-true l _ e)) (λ h k e. h) (λ h k f e. h) (λ h k e. h) t

pub not_after_past : (last : Option ℕ) (o : ℕ) → is_after last (snapped last o) ≡ false → Past last o
not_after_past None o e = contrary cc
not_after_past (Some l) o t =
    snap_cases (λ (x : ℕ). is_after (Some l) x ≡ false → o ≤ l) l o (λ h e. h) (λ h k e. absurd (omega (arith, ltb-false l _ e)))
    (λ h k f e. absurd (omega (arith, ltb-false l _ e))) (λ h k e. omega (arith, ltb-false l _ e)) t

-- what is not passed over lies clear of the last release
pub clear : (last : Option ℕ) (o : ℕ) → is_after last (snapped last o) ≡ true → Clear last (snapped last o)
clear None o e = tt
clear (Some l) o t =
    snap_cases (λ (x : ℕ). is_after (Some l) x ≡ true → Clear (Some l) x) l o
    (λ h e. absurd (omega (arith, ltb-true l _ e)))
    (λ h k e. (omega arith, λ _. omega arith))
    (λ h k f e. (omega arith, λ _. omega arith))
    (λ h k e. (omega arith, λ w. absurd (omega arith)))
    t

-- ── frames off the grid ──

module _ (last : Option ℕ) (o n : ℕ) (w : o + 384 ≤ n) where
  pub slip_later : Later (Some (snapped last o)) n
  slip_later = let k : snapped last o ≤ o + 383 = snapped_le last o in omega arith

  pub slip_not_late : snapped last o ≤ o + 191 → is_late (Some (snapped last o)) n ≡ false
  slip_not_late h = le-ltb (n + 191) _ (omega arith)

  pub slip_moved : snapped last o ≤ o + 192 → (n ≤ snapped (Some (snapped last o)) n + 191) × (snapped (Some (snapped last o)) n ≤ n + 192)
  slip_moved h = let k : snapped last o + 192 ≤ n = omega arith in (snapped_ge (Some (snapped last o)) n, snapped_half (snapped last o) n k)

-- half a frame off the grid: moved on by 192, and the next is late
pub slip_half : (l k : ℕ) → k < 15 → (snapped (Some l) (l + k * 384 + 576) ≡ l + k * 384 + 768) × (is_late (Some (l + k * 384 + 768)) (l + k * 384 + 960) ≡ true)
slip_half l k h =
    let o : ℕ = l + k * 384 + 576 in
    let a : l < l + k * 384 + 576 = omega arith in
    let b : l + k * 384 + 576 - l < 6144 = omega arith in
    let c : 192 ≤ l + k * 384 + 576 - l = omega arith in
    let e : l + (l + k * 384 + 576 - l + 192) / 384 * 384 ≡ l + k * 384 + 768 = omega arith in
    (snap_grid l (l + k * 384 + 576) a b c ∙ e, lt-ltb (l + k * 384 + 960 + 191) _ (omega arith))
