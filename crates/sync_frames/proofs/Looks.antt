-- When a frame is ready.
-- Assumes nothing.
use mathlib.Core.Path.{◌≡◌, sym, ap, ap₂, ◌∙◌}
use mathlib.Core.List.{List}
use mathlib.Core.Bool.{Bool, true, false, ◌&&◌, ◌||◌, true≢false}
use Prim.Native.Nat.{ℕ, ◌+◌, ◌≤◌, ◌<◌}
use native.Mathlib.Omega.{arith}
use borrow.Author.Tests.{le-leb, lt-leb}
use lib.Dec.{leb}
use lib.ListN.{length}
use Rattle.sync_numbers.specs.declared.numbers.Numbers.{Numbers}
use Rattle.std.specs.Prelude.{Some, None}
use Rattle.sync_rules.specs.Ring.{ring}
use Rattle.sync_numbers.specs.View.{view_of, Steady}
use Rattle.sync_frames.specs.Frames.{Ready, Looked}
use Rattle.sync_rules.specs.Matching.{in_place}
use Rattle.sync_rules.specs.Frames.{ready}
use Rattle.sync_rules.proofs.Rings.{length_ring}
use Rattle.sync_numbers.proofs.Pendings.{pending_ring}

module _ (xs : List ℕ) (c : Numbers) (st : Steady c) where
  -- `ready` by the lock, the count and the marker test
  shape : (ys : List ℕ) → (c.figures.locked && (leb 384 c.pending && (in_place (ring xs (c.first + c.restorable) c.pending) 0 || leb 392 c.pending))) ≡ ready (view_of xs ys c)
  unfolding ready
  shape ys =
      ap₂ (λ (n : ℕ) (l : List ℕ). c.figures.locked && (leb 384 n && (in_place l 0 || leb 392 n)))
      (sym (ap length (pending_ring xs c.first c.restorable c.pending) ∙ length_ring xs (c.first + c.restorable) c.pending))
      (sym (pending_ring xs c.first c.restorable c.pending))

  never : {A : Type 0} {b : Bool} → None ≡ Some b → A
  never e = cc

  none : (c.figures.locked ≡ true → c.pending ≤ 391) → ((ys : List ℕ) → false ≡ ready (view_of xs ys c)) → Looked xs c None
  none h f = record { same = f; can = λ b w. never w; seen = λ b w. never w; few = λ w v. h v }

  pub asleep : c.figures.locked ≡ false → Looked xs c None
  asleep e =
      let f : (ys : List ℕ) → false ≡ ready (view_of xs ys c) = λ ys. ap (λ (b : Bool). b && (leb 384 c.pending && (in_place (ring xs (c.first + c.restorable) c.pending) 0 || leb 392 c.pending))) (sym e) ∙ shape ys in
      none (λ v. absurd (true≢false (sym v ∙ e))) f

  module _ (lk : c.figures.locked ≡ true) where
    locks : (m : Bool) → m ≡ (leb 384 c.pending && (in_place (ring xs (c.first + c.restorable) c.pending) 0 || leb 392 c.pending)) → (ys : List ℕ) → m ≡ ready (view_of xs ys c)
    locks m e ys = e ∙ ap (λ (b : Bool). b && (leb 384 c.pending && (in_place (ring xs (c.first + c.restorable) c.pending) 0 || leb 392 c.pending))) (sym lk) ∙ shape ys

    pub short : c.pending < 384 → Looked xs c None
    short h =
        let f = locks false (ap (λ (b : Bool). b && (in_place (ring xs (c.first + c.restorable) c.pending) 0 || leb 392 c.pending)) (sym (lt-leb 384 c.pending h))) in
        none (λ v. omega arith) f

    module _ (h : 384 ≤ c.pending) (i : Bool) (ei : i ≡ in_place (ring xs (c.first + c.restorable) c.pending) 0) where
      long : (m : Bool) → m ≡ (i || leb 392 c.pending) → (ys : List ℕ) → m ≡ ready (view_of xs ys c)
      long m e = locks m (e ∙ ap₂ (λ (b j : Bool). b && (j || leb 392 c.pending)) (sym (le-leb 384 c.pending h)) ei)

      able : (b : Bool) → i ≡ b → (i ≡ false → 392 ≤ c.pending) → Ready c b
      able b t e = record { sound = st.sound; low = st.low; slips = st.slips; failures = st.fails lk; locked = lk; enough = h; more = λ v. e (t ∙ v) }

      -- it is in place, or 392 bits are pending
      pub goes : true ≡ (i || leb 392 c.pending) → (i ≡ false → 392 ≤ c.pending) → Looked xs c (Some i)
      goes t e = record { same = long true t; can = λ b w. able b (cc) e; seen = λ b w. sym (cc) ∙ ei; few = λ w v. never (sym w) }

      pub placed : i ≡ true → Looked xs c (Some i)
      placed t = goes (ap (λ (j : Bool). j || leb 392 c.pending) (sym t)) (λ v. absurd (true≢false (sym t ∙ v)))

      pub waits : i ≡ false → c.pending < 392 → Looked xs c None
      waits t l =
          let f = long false (ap₂ (λ (j k : Bool). j || k) (sym t) (sym (lt-leb 392 c.pending l))) in
          none (λ v. omega arith) f

      pub slips : i ≡ false → 392 ≤ c.pending → Looked xs c (Some i)
      slips t l = goes (ap₂ (λ (j k : Bool). j || k) (sym t) (sym (le-leb 392 c.pending l))) (λ v. l)
