-- The one-position call, repeated, is the source's whole release. Assumes nothing.
use Rattle.std.proofs.Common.{Option, Some, None}
use mathlib.Core.Path.{◌≡◌, refl, sym, ap, ap₂, subst, ◌∙◌}
use mathlib.Core.Bool.{Bool, true, false, cond, not, ◌&&◌, ◌||◌}
use mathlib.Core.List.{List, [], ◌∷◌, ◌++◌}
use Prim.Native.Nat.{ℕ, zero, suc, ◌+◌, ◌-◌, ◌*◌, ◌/◌, ◌≤◌}
use native.Mathlib.Nat.{not-suc-le-zero, le_of_suc-le-suc, max_comm}
use lib.Dec.{ltb, leb}
use lib.ListN.{length}
use borrow.Author.Tests.{le-leb, lt-leb, ltb-true, ltb-false}
use native.Mathlib.Omega.{arith}
use Rattle.merger_rules.specs.declared.Held.{Held}
use Rattle.merger_rules.specs.declared.Freed.{Freed}
use Rattle.merger_rules.specs.declared.Position.{Position}
use Rattle.merger_rules.specs.declared.Release.{Release}
use Rattle.merger_rules.specs.declared.Released.TheVariants.{Frame, PassedOver, NothingReady}
use Rattle.merger_rules.specs.Merging.{chosen, View, view, passed, is_ready, choose_of, choice_of, snapped, is_after, freed_of, none_freed, ReleaseStep, release_step, released_as, settle, release_of}
use Rattle.merger_rules.specs.Scripts.{given}
use Rattle.merger_rules.specs.Source.{is_some_and, slot_ready, offset_on, Turn, turn, hand_on, turn_of, Many, many, source_release, times}

-- ── one turn of the source's loop is one release ──

slot_same : (s : Option ℕ) (k : ℕ) (q : Option Held) → slot_ready s k q ≡ passed s k q
slot_same None k None = refl
slot_same (Some s) k None = refl
slot_same None k (Some h) = refl
slot_same (Some s) k (Some h) = refl

pub ready_same : (s₀ s₁ : Option ℕ) (flush : Bool) (p : Position) → (flush || (slot_ready s₀ p.key p.primary && slot_ready s₁ p.key p.alternate)) ≡ is_ready s₀ s₁ flush p
ready_same s₀ s₁ flush p = ap₂ (λ (a b : Bool). flush || (a && b)) (slot_same s₀ p.key p.primary) (slot_same s₁ p.key p.alternate)

offset_same : (last : Option ℕ) (o : ℕ) → offset_on last o ≡ snapped last o
offset_same None o = refl
offset_same (Some l) o = ap (λ (q : ℕ). cond (ltb l o && ltb (o - l) (16 * 384)) (l + q * 384) o) (max_comm ((o - l + 192) / 384) 1)

-- "offset <= last" is the contrary of "last < offset"
not_after : (last : Option ℕ) (o : ℕ) → is_some_and last (λ l. leb o l) ≡ not (is_after last o)
not_after None o = refl
not_after (Some l) o = by (is_after (Some l) o) refl
  where
    by : (t : Bool) → is_after (Some l) o ≡ t → leb o l ≡ not t
    by true e = lt-leb o l (omega (arith, ltb-true l _ e))
    by false e = le-leb o l (omega (arith, ltb-false l _ e))

-- a release with the positions ps behind it, and a turn of the loop
record Same (ps : List Position) (y : ReleaseStep) (t : Turn) : Type 0 where
  out : given y.answer ≡ t.out
  next : y.next ≡ view ps t.released

module _ (f : Freed) (ps : List Position) (last : Option ℕ) where
  hand_same : (h : Held) (b : Bool) → Same ps (settle (chosen h b) f ps last) (hand_on h b (offset_on last h.figures.offset) last)
  hand_same h b =
      subst (λ (o : ℕ). Same ps (settle (chosen h b) f ps last) (hand_on h b o last)) (sym (offset_same last h.figures.offset))
      (subst (λ (t : Bool). Same ps (settle (chosen h b) f ps last) (cond t over on)) (sym (not_after last to)) (by (is_after last to)))
    where
      to : ℕ
      to = snapped last h.figures.offset

      over : Turn
      over = turn [] last

      on : Turn
      on = turn (released_as to h b ∷ []) (Some to)

      by : (t : Bool) → Same ps (cond t (release_step (Frame (released_as to h b)) f (view ps (Some to))) (release_step PassedOver f (view ps last))) (cond (not t) over on)
      by true = record { out = refl; next = refl }
      by false = record { out = refl; next = refl }

  turn_same : (a b : Option Held) → Same ps (settle (choose_of a b) f ps last) (turn_of a b last)
  turn_same None None = record { out = refl; next = refl }
  turn_same None (Some h) = hand_same h true
  turn_same (Some h) None = hand_same h false
  turn_same (Some h) (Some i) = by (h.check || not i.check)
    where
      by : (t : Bool)
          → Same ps (settle (cond t (chosen h false) (chosen i true)) f ps last)
          (cond t (hand_on h false (offset_on last h.figures.offset) last) (hand_on i true (offset_on last i.figures.offset) last))
      by true = hand_same h false
      by false = hand_same i true

-- ── the loop ──

module _ (s₀ s₁ : Option ℕ) (flush : Bool) where
  -- what n more calls make of a step
  abbrev on : ℕ → ReleaseStep → Many
  on n y = many (given y.answer ++ (times n s₀ s₁ flush y.next).frames) (times n s₀ s₁ flush y.next).next

  -- where nothing is ready, nothing changes, however often one asks
  stays : (n : ℕ) (v : View) → release_of s₀ s₁ flush v ≡ release_step NothingReady none_freed v → times n s₀ s₁ flush v ≡ many [] v
  stays zero v e = refl
  stays (suc n) v e = ap (on n) e ∙ stays n v e

  pub repeated : (l : List Position) (last : Option ℕ) (n : ℕ) → length l ≤ n → times n s₀ s₁ flush (view l last) ≡ source_release s₀ s₁ flush l last
  repeated [] last n k = stays n (view [] last) refl
  repeated (p ∷ ps) last zero k = absurd (not-suc-le-zero k)
  repeated (p ∷ ps) last (suc n) k = by (is_ready s₀ s₁ flush p) refl (repeated ps (turn_of p.primary p.alternate last).released n (le_of_suc-le-suc k))
    where
      out : Turn
      out = turn_of p.primary p.alternate last

      whole : Bool → Many
      whole t = cond t (many (out.out ++ (source_release s₀ s₁ flush ps out.released).frames) (source_release s₀ s₁ flush ps out.released).next) (many [] (view (p ∷ ps) last))

      by : (t : Bool) → is_ready s₀ s₁ flush p ≡ t → times n s₀ s₁ flush (view ps out.released) ≡ source_release s₀ s₁ flush ps out.released
          → times (suc n) s₀ s₁ flush (view (p ∷ ps) last) ≡ source_release s₀ s₁ flush (p ∷ ps) last
      by true e r =
          let w : Same ps (settle (choice_of p) (freed_of p) ps last) out = turn_same (freed_of p) ps last p.primary p.alternate in
          ap (λ (t : Bool). on n (cond t (settle (choice_of p) (freed_of p) ps last) (release_step NothingReady none_freed (view (p ∷ ps) last)))) e
          ∙ ap₂ (λ (a : List Release) (v : View). many (a ++ (times n s₀ s₁ flush v).frames) (times n s₀ s₁ flush v).next) w.out w.next
          ∙ ap (λ (y : Many). many (out.out ++ y.frames) y.next) r
          ∙ sym (ap whole (ready_same s₀ s₁ flush p ∙ e))
      by false e r =
          stays (suc n) (view (p ∷ ps) last) (ap (λ (t : Bool). cond t (settle (choice_of p) (freed_of p) ps last) (release_step NothingReady none_freed (view (p ∷ ps) last))) e)
          ∙ sym (ap whole (ready_same s₀ s₁ flush p ∙ e))
