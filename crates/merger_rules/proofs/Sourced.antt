-- The source's push: the same state, where it is not refused. Assumes nothing.
use Rattle.std.proofs.Common.{Option, Some, None, Err}
use mathlib.Core.Path.{◌≡◌, refl, sym, ap, ◌∙◌}
use mathlib.Core.Bool.{Bool, true, false, cond, ◌&&◌}
use mathlib.Core.List.{List, [], ◌∷◌}
use Prim.Native.Nat.{ℕ, zero, suc, ◌+◌, ◌-◌, ◌<◌, ◌≤◌}
use native.Mathlib.Nat.{not-suc-le-zero, le_of_suc-le-suc}
use native.Mathlib.Omega.{arith}
use lib.Dec.{ltb, leb, eqb}
use lib.ListN.{length, get_or, set}
use lib.Seq.{set-get_or}
use borrow.Author.Tests.{le-leb, lt-leb, leb-true, leb-false}
use Rattle.bits.specs.declared.Refusal.{Refusal}
use Rattle.bits.specs.declared.Refusal.TheVariants.{Stream, Offset, Positions}
use Rattle.bits.proofs.Conds.{cond_lt, cond_ge, cond_eq, cond_ne}
use Rattle.merger_rules.specs.declared.Held.{Held}
use Rattle.merger_rules.specs.declared.Position.{Position}
use Rattle.merger_rules.specs.Merging.{View, view, is_late, is_near, home_of, order_of, insert_at, is_held, taken, filled, no_position, alone, PushStep, push_of}
use Rattle.merger_rules.specs.States.{key_at, Under, Spaced, Sound}
use Rattle.merger_rules.specs.Source.{is_some_and, first_in, unwrap_or, set_none, slot_set, entry_set, source_push}
use Rattle.merger_rules.proofs.Contrary.{contrary}
use Rattle.merger_rules.proofs.Pushes.{push_cases, join_cases, open_cases}
use Rattle.merger_rules.proofs.Homes.{near_yes}

late_same : (last : Option ℕ) (o : ℕ) → is_some_and last (λ r. ltb (o + 191) (r + 384)) ≡ is_late last o
late_same None o = refl
late_same (Some l) o = refl

-- the source's range is `is_near`
near_same : (o k : ℕ) → (leb (o - 191) k && leb k (o + 191)) ≡ is_near o k
near_same o k = ap (λ (t : Bool). t && leb k (o + 191)) (by (leb o (k + 191)) refl)
  where
    by : (t : Bool) → leb o (k + 191) ≡ t → leb (o - 191) k ≡ t
    by true e = let h : o ≤ k + 191 = leb-true _ _ e in let g : o - 191 ≤ k = omega arith in le-leb _ _ g
    by false e = let h : k + 191 < o = leb-false _ _ e in let g : k < o - 191 = omega arith in lt-leb _ _ g

-- the first key in the range is the home's, or there is none
first_home : (o : ℕ) (l : List Position) → home_of o l < length l → first_in o l ≡ Some (key_at l (home_of o l))
unfolding home_of
first_home o [] h = absurd (not-suc-le-zero h)
first_home o (p ∷ ps) h = ap (λ (t : Bool). cond t (Some p.key) (first_in o ps)) (near_same o p.key) ∙ by (is_near o p.key) (first_home o ps) h
  where
    by : (b : Bool) → (home_of o ps < length ps → first_in o ps ≡ Some (key_at ps (home_of o ps))) → cond b 0 (suc (home_of o ps)) < suc (length ps)
        → cond b (Some p.key) (first_in o ps) ≡ Some (key_at (p ∷ ps) (cond b 0 (suc (home_of o ps))))
    by true r h = refl
    by false r h = r (le_of_suc-le-suc h)

first_none : (o : ℕ) (l : List Position) → length l ≤ home_of o l → first_in o l ≡ None
unfolding home_of
first_none o [] h = refl
first_none o (p ∷ ps) h = ap (λ (t : Bool). cond t (Some p.key) (first_in o ps)) (near_same o p.key) ∙ by (is_near o p.key) (first_none o ps) h
  where
    by : (b : Bool) → (length ps ≤ home_of o ps → first_in o ps ≡ None) → suc (length ps) ≤ cond b 0 (suc (home_of o ps)) → cond b (Some p.key) (first_in o ps) ≡ None
    by true r h = absurd (not-suc-le-zero h)
    by false r h = r (le_of_suc-le-suc h)

-- ── the slot ──

set_some : (q : Option Held) (h : Held) → is_held q ≡ true → set_none q h ≡ q
set_some None h e = contrary cc
set_some (Some k) h e = refl

slot_taken : (s : ℕ) (h : Held) (p : Position) → taken s p ≡ true → slot_set s h p ≡ p
slot_taken zero h p e = ap (λ (q : Option Held). record { key = p.key; primary = q; alternate = p.alternate }) (set_some p.primary h e)
slot_taken (suc s) h p e = ap (λ (q : Option Held). record { key = p.key; primary = p.primary; alternate = q }) (set_some p.alternate h e)

set_none_lem : (q : Option Held) (h : Held) → is_held q ≡ false → set_none q h ≡ Some h
set_none_lem None h e = refl
set_none_lem (Some k) h e = contrary cc

slot_free : (s : ℕ) (h : Held) (p : Position) → taken s p ≡ false → slot_set s h p ≡ filled s h p
slot_free zero h p e = ap (λ (q : Option Held). record { key = p.key; primary = q; alternate = p.alternate }) (set_none_lem p.primary h e)
slot_free (suc s) h p e = ap (λ (q : Option Held). record { key = p.key; primary = p.primary; alternate = q }) (set_none_lem p.alternate h e)

slot_alone : (s : ℕ) (h : Held) → slot_set s h (record { key = h.figures.offset; primary = None; alternate = None }) ≡ alone s h
slot_alone zero h = refl
slot_alone (suc s) h = refl

-- ── the map ──

-- later keys are higher
key_above : (k : ℕ) (l : List Position) (i : ℕ) → Under k l → Spaced l → i < length l → k < key_at l i
key_above k [] i u s h = absurd (not-suc-le-zero h)
key_above k (p ∷ ps) zero u s h = let u' : k + 191 < p.key = u in omega arith
key_above k (p ∷ ps) (suc i) u s h = let u' : k + 191 < p.key = u in let r : p.key < key_at ps i = key_above p.key ps i s.0 s.1 (le_of_suc-le-suc h) in omega arith

module _ (s : ℕ) (h : Held) where
  -- at a key that is there
  entry_at : (l : List Position) (i : ℕ) → Spaced l → i < length l → entry_set (key_at l i) s h l ≡ set l i (slot_set s h (get_or l i no_position))
  entry_at [] i sp k = absurd (not-suc-le-zero k)
  entry_at (p ∷ ps) zero sp k =
      let e : p.key ≤ p.key = omega arith in
      cond_ge p.key p.key _ _ e ∙ cond_eq p.key p.key _ _ refl
  entry_at (p ∷ ps) (suc i) sp k =
      cond_lt p.key (key_at ps i) _ _ (key_above p.key ps i sp.0 sp.1 (le_of_suc-le-suc k))
      ∙ ap (λ (l : List Position). p ∷ l) (entry_at ps i sp.1 (le_of_suc-le-suc k))

  -- at a new key
  entry_new : (l : List Position) → length l ≤ home_of h.figures.offset l → entry_set h.figures.offset s h l ≡ insert_at (order_of h.figures.offset l) (alone s h) l
  unfolding home_of order_of
  entry_new [] n = ap (λ (p : Position). p ∷ []) (slot_alone s h)
  entry_new (p ∷ ps) n = by (is_near h.figures.offset p.key) refl n (ltb p.key h.figures.offset) refl (entry_new ps)
    where
      o : ℕ
      o = h.figures.offset

      by : (b : Bool) → is_near h.figures.offset p.key ≡ b → suc (length ps) ≤ cond b 0 (suc (home_of h.figures.offset ps))
          → (t : Bool) → ltb p.key h.figures.offset ≡ t → (length ps ≤ home_of h.figures.offset ps → entry_set h.figures.offset s h ps ≡ insert_at (order_of h.figures.offset ps) (alone s h) ps)
          → cond t (p ∷ entry_set h.figures.offset s h ps) (cond (eqb p.key h.figures.offset) (slot_set s h p ∷ ps) (slot_set s h (record { key = h.figures.offset; primary = None; alternate = None }) ∷ p ∷ ps))
          ≡ insert_at (cond t (suc (order_of h.figures.offset ps)) 0) (alone s h) (p ∷ ps)
      by true e n t f r = absurd (not-suc-le-zero n)
      by false e n true f r = ap (λ (l : List Position). p ∷ l) (r (le_of_suc-le-suc n))
      by false e n false f r =
          cond_ne p.key h.figures.offset _ _ (λ q. apart q)
          ∙ ap (λ (x : Position). x ∷ p ∷ ps) (slot_alone s h)
        where
          apart : p.key ≡ h.figures.offset → ⊥
          apart q =
              let a : h.figures.offset ≤ p.key + 191 = omega arith in
              let b : p.key ≤ h.figures.offset + 191 = omega arith in
              let k : is_near h.figures.offset p.key ≡ true = near_yes h.figures.offset p.key a b in
              contrary cc

  pub source_push_lem : (v : View) → Sound v → ((r : Refusal) → (push_of s h v).answer ≡ Err r → ⊥) → (push_of s h v).next ≡ source_push s h v
  source_push_lem v w n =
      push_cases Q s h v (λ _ n. absurd (n Stream refl)) (λ _ n. absurd (n Offset refl)) (λ e _. sym (ap whole (late_same v.last h.figures.offset ∙ e)))
      (λ p i. join_cases Q s h v _
      (λ t _. sym (put p.time ∙ joined i (get_or v.pending (home_of h.figures.offset v.pending) no_position) (slot_taken s h _ t)
      ∙ ap (λ (l : List Position). view l v.last) (set-get_or v.pending (home_of h.figures.offset v.pending) no_position)))
      (λ t _. sym (put p.time ∙ joined i _ (slot_free s h _ t))))
      (λ p i. open_cases Q s h v (order_of h.figures.offset v.pending) (λ _ n. absurd (n Positions refl))
      (λ _ _. sym (put p.time ∙ ap (λ (k : Option ℕ). into (unwrap_or k h.figures.offset)) (first_none h.figures.offset v.pending i)
      ∙ ap (λ (l : List Position). view l v.last) (entry_new v.pending i))))
      n
    where
      Q : PushStep → Type 0
      Q y = ((r : Refusal) → y.answer ≡ Err r → ⊥) → y.next ≡ source_push s h v

      into : ℕ → View
      into k = view (entry_set k s h v.pending) v.last

      whole : Bool → View
      whole t = cond t v (into (unwrap_or (first_in h.figures.offset v.pending) h.figures.offset))

      put : is_late v.last h.figures.offset ≡ false → source_push s h v ≡ into (unwrap_or (first_in h.figures.offset v.pending) h.figures.offset)
      put e = ap whole (late_same v.last h.figures.offset ∙ e)

      joined : home_of h.figures.offset v.pending < length v.pending → (q : Position) → slot_set s h (get_or v.pending (home_of h.figures.offset v.pending) no_position) ≡ q
          → into (unwrap_or (first_in h.figures.offset v.pending) h.figures.offset) ≡ view (set v.pending (home_of h.figures.offset v.pending) q) v.last
      joined i q e =
          ap (λ (k : Option ℕ). into (unwrap_or k h.figures.offset)) (first_home h.figures.offset v.pending i)
          ∙ ap (λ (l : List Position). view l v.last) (entry_at v.pending (home_of h.figures.offset v.pending) w.spaced i
          ∙ ap (λ (p : Position). set v.pending (home_of h.figures.offset v.pending) p) e)
