-- The front of a frame, by the way that its tests went.
-- Assumes nothing.
use mathlib.Core.Path.{◌≡◌, refl, sym, ap, ◌∙◌, subst}
use mathlib.Core.List.{List}
use mathlib.Core.Bool.{Bool, true, false, ◌&&◌, cond}
use Prim.Native.Nat.{ℕ, ◌+◌, ◌*◌, ◌^◌, ◌≤◌, ◌<◌}
use native.Mathlib.Omega.{arith}
use borrow.Author.Tests.{eq-eqb, ne_eqb}
use lib.Dec.{eqb}
use lib.ListN.{drop}
use Rattle.sync_numbers.specs.declared.numbers.Numbers.{Numbers}
use Rattle.sync_rules.specs.Ring.{ring}
use Rattle.sync_numbers.specs.View.{view_of, held_of, Sound}
use Rattle.sync_numbers.specs.Numbers.{Dropped, Restored, numbers_with}
use Rattle.sync_frames.specs.Frames.{Fronted}
use Rattle.sync_rules.specs.Matching.{matches}
use Rattle.sync_rules.specs.Moves.{Move, Stay, Later, Earlier, move_by, laters, earliers}
use Rattle.sync_rules.specs.State.{State, with_figures, counted}
use Rattle.sync_rules.specs.Frames.{front_move, follow}
use Rattle.sync_rules.specs.declared.StreamFigures.{StreamFigures}
use Rattle.sync_rules.specs.Figures.{slips_counted}
use Rattle.sync_numbers.proofs.Pendings.{pending_ring}
use Rattle.sync_numbers.proofs.Slipping.{slipped_sound, dropped_figures, restored_figures}
use Rattle.bits.proofs.Tests.{cond_yes, cond_no}

-- what a test of the ring saw, of what is pending
pub of_pending : {A : Type 0} (P : List ℕ → A) (xs : List ℕ) (c : Numbers) (r : A) → r ≡ P (ring xs (c.first + c.restorable) c.pending) → r ≡ P (drop c.restorable (held_of xs c))
of_pending P xs c r e = e ∙ ap P (sym (pending_ring xs c.first c.restorable c.pending))

one_later : State → State
one_later m = with_figures (slips_counted 1 0 m.figures) m

one_earlier : State → State
one_earlier m = with_figures (slips_counted 0 1 m.figures) m

-- one slip more can be counted
pub fits : (c d : Numbers) (i j : ℕ) → Sound c → d.figures ≡ c.figures → i ≤ 1 → j ≤ 1 → (d.figures.later + i < 2 ^ 64) × (d.figures.earlier + j < 2 ^ 64)
fits c d i j s e h k = (omega (arith, ap (λ (f : StreamFigures). f.later) e), omega (arith, ap (λ (f : StreamFigures). f.earlier) e))

module _ (xs : List ℕ) (c : Numbers) (s : Sound c) (long : 392 ≤ c.pending) (few : c.figures.later + c.figures.earlier ≤ 3 * c.figures.frames) (a : Bool) (ea : a ≡ matches (ring xs (c.first + c.restorable) c.pending) 0 0) where
  -- a front that is followed by the move v
  by : (v : Move) (ys : List ℕ) → v ≡ front_move (view_of xs ys c) → follow v (view_of xs ys c) ≡ follow (front_move (view_of xs ys c)) (view_of xs ys c)
  by v ys e = ap (λ (w : Move). follow w (view_of xs ys c)) e

  unmoved : ((ys : List ℕ) → Stay ≡ front_move (view_of xs ys c)) → Fronted xs c c
  unfolding follow
  unmoved e = record { sound = s; same = λ ys. by Stay ys (e ys); slips_few = omega arith; long = omega arith; failures = refl; locked = refl; frames = refl; held = omega arith }

  -- a slip followed from the numbers d
  slips : (i j : ℕ) (d r : Numbers) → r ≡ numbers_with (slips_counted i j d.figures) d → i + j ≡ 1 → Sound d → d.figures ≡ c.figures → 390 ≤ d.pending → d.restorable + d.pending ≤ c.restorable + c.pending
      → ((ys : List ℕ) → view_of xs ys (numbers_with (slips_counted i j d.figures) d) ≡ follow (front_move (view_of xs ys c)) (view_of xs ys c)) → Fronted xs c r
  slips i j d r e h sd ef many held same =
      let el = ap (λ (f : StreamFigures). f.later) ef in
      let ee = ap (λ (f : StreamFigures). f.earlier) ef in
      let en = ap (λ (f : StreamFigures). f.frames) ef in
      subst (Fronted xs c) (sym e)
      (record { sound = slipped_sound d i j sd (omega arith); same = same; slips_few = omega arith; long = many; failures = ap (λ (f : StreamFigures). f.failures) ef; locked = ap (λ (f : StreamFigures). f.locked) ef; frames = en; held = held })

  pub stays : a ≡ true → Fronted xs c c
  unfolding front_move move_by
  stays t = unmoved (λ ys. cond_yes _ _ _ _ (of_pending (λ l. matches l 0 0) xs c a ea) t)

  module _ (fa : a ≡ false) (b : Bool) (eb : b ≡ matches (ring xs (c.first + c.restorable) c.pending) 2 0) where
    pub later : b ≡ true → (d : Numbers) → Dropped c 2 d → (r : Numbers) → r ≡ numbers_with (slips_counted 1 0 d.figures) d → Fronted xs c r
    unfolding front_move move_by follow counted laters earliers one_later
    later t d dr r e =
        let n = dr.count in
        let o = dr.sound.restorable_few in
        slips 1 0 d r e (omega arith) dr.sound (dropped_figures c d 2 dr) (omega arith) (omega arith)
        (λ ys. ap one_later (dr.same xs ys) ∙ by Later ys (cond_yes _ _ _ _ (of_pending (λ l. matches l 2 0) xs c b eb) t ∙ cond_no _ _ _ _ (of_pending (λ l. matches l 0 0) xs c a ea) fa))

    module _ (fb : b ≡ false) where
      third : (v : Move) (ys : List ℕ) → v ≡ cond (eqb c.restorable 2 && matches (held_of xs c) 0 0) Earlier Stay → v ≡ front_move (view_of xs ys c)
      unfolding front_move move_by
      third v ys e = e ∙ cond_no _ _ _ _ (of_pending (λ l. matches l 2 0) xs c b eb) fb ∙ cond_no _ _ _ _ (of_pending (λ l. matches l 0 0) xs c a ea) fa

      pub none : (c.restorable ≡ 2 → ⊥) → Fronted xs c c
      none n = unmoved (λ ys. third Stay ys (cond_no _ _ _ _ (ap (λ (t : Bool). t && matches (held_of xs c) 0 0) (sym (ne_eqb c.restorable 2 n))) refl))

      module _ (two : c.restorable ≡ 2) (e : Bool) (ee : e ≡ matches (held_of xs c) 0 0) where
        both : e ≡ (eqb c.restorable 2 && matches (held_of xs c) 0 0)
        both = ee ∙ ap (λ (t : Bool). t && matches (held_of xs c) 0 0) (sym (eq-eqb c.restorable 2 two))

        pub still : e ≡ false → Fronted xs c c
        still f = unmoved (λ ys. third Stay ys (cond_no _ _ _ _ both f))

        pub earlier : e ≡ true → (d : Numbers) → Restored c d → (r : Numbers) → r ≡ numbers_with (slips_counted 0 1 d.figures) d → Fronted xs c r
        unfolding follow counted laters earliers one_earlier
        earlier t d rs r e =
            let n = rs.count in
            slips 0 1 d r e (omega arith) rs.sound (restored_figures c d rs) (omega arith) (omega arith) (λ ys. ap one_earlier (rs.same xs ys) ∙ by Earlier ys (third Earlier ys (cond_yes _ _ _ _ both t)))
