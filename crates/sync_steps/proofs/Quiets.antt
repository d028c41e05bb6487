-- Too few bits pending for a search or a frame: neither changes anything.
-- Assumes nothing.
use mathlib.Core.Path.{◌≡◌, refl, sym, ap, ap₂, ◌∙◌, subst}
use mathlib.Core.List.{List, []}
use mathlib.Core.Bool.{Bool, true, false}
use Prim.Native.Nat.{ℕ, ◌+◌, ◌-◌, ◌≤◌, ◌<◌, min}
use native.Mathlib.Omega.{arith}
use native.Mathlib.Nat.{add-zero}
use lib.ListN.{drop}
use borrow.Author.Tests.{le-ltb}
use Rattle.sync_numbers.specs.declared.numbers.Numbers.{Numbers}
use Rattle.sync_frames.specs.declared.frames.Drained.{Drained}
use Rattle.std.specs.Prelude.{None}
use Rattle.sync_rules.specs.Ring.{ring}
use Rattle.sync_numbers.specs.View.{view_of, Steady, Few}
use Rattle.sync_numbers.specs.Numbers.{Dropped}
use Rattle.sync_frames.specs.Frames.{Looked, DrainedBy, nothing_of, heads_of}
use Rattle.sync_pushes.specs.Steps.{Searched, Waiting}
use Rattle.sync_steps.specs.Steps.{SentAfter}
use Rattle.sync_rules.specs.declared.StreamFigures.{StreamFigures}
use Rattle.sync_rules.specs.Figures.{bits_passed}
use Rattle.sync_rules.specs.Matching.{first_of, locks_at}
use Rattle.sync_rules.specs.State.{State, pass}
use Rattle.sync_rules.specs.Pushes.{drain}
use Rattle.sync_pushes.proofs.Searches.{unmoved, searched}
use Rattle.sync_frames.proofs.Looks.{short, asleep}
use Rattle.sync_frames.proofs.Drains.{ends}

pass_none : (m : State) → m.restorable ≤ 2 → m ≡ pass 0 m
unfolding pass
pass_none m h = ap₂ (λ (i r : ℕ). record { held = drop i m.held; reliabilities = drop i m.reliabilities; restorable = r; figures = m.figures }) none same
  where
    none : 0 ≡ m.restorable + 0 - 2
    none = omega arith

    same : m.restorable ≡ min 2 (m.restorable + 0)
    same = omega arith

-- a search that passes no bit and finds no lock
passed_none : (f : StreamFigures) → f.locked ≡ false → bits_passed 0 false f ≡ f
passed_none f e = rw (add-zero, ← e)

module _ (xs : List ℕ) (c : Numbers) (st : Steady c) where
  dropped_none : Dropped c 0 c
  dropped_none = record { sound = st.sound; count = omega (arith, st.sound.restorable_few); pending = omega arith; same = λ ys zs. pass_none (view_of ys zs c) st.sound.restorable_few }

  nowhere : (f : ℕ → Bool) (n : ℕ) → 0 ≡ n → 0 ≡ first_of f 0 n
  unfolding first_of
  nowhere f n e = ap (first_of f 0) e

  -- a search that no place is tried in
  searches_none : (b : Bool) → c.figures.locked ≡ b → c.pending ≤ 1151 → Searched xs c c
  searches_none true e h = unmoved xs c st.sound st.low st.fails e
  searches_none false e h =
      searched xs c st.sound st.low e 0 (nowhere (locks_at (ring xs (c.first + c.restorable) c.pending)) (c.pending - 1151) (omega arith)) (omega arith) c dropped_none c.figures
      (sym (passed_none c.figures e) ∙ ap (λ (t : Bool). bits_passed 0 t c.figures) (sym (le-ltb 0 (c.pending - 1151) (omega arith))))

  -- a look at too few bits
  looks_none : (b : Bool) → c.figures.locked ≡ b → (c.figures.locked ≡ true → c.pending < 384) → Looked xs c None
  looks_none true e h = short xs c st e (h e)
  looks_none false e h = asleep xs c st e

module _ (bits reliabilities room : List ℕ) (c : Numbers) (st : Steady c) (w : Waiting c) where
  few : Few c
  few = ((λ l. omega (arith, w.0 l)), w.1)

  rests : DrainedBy bits reliabilities room room 0 3 (drain 3 (view_of bits reliabilities c)) c 0 (heads_of 3 [])
  rests = ends bits reliabilities room 0 2 c st few false ((looks_none bits c st c.figures.locked refl w.0).same reliabilities) refl

  -- so that nothing follows once the bits are brought
  pub waits : SentAfter bits reliabilities room room c (nothing_of c)
  waits = subst (λ (m : State). DrainedBy bits reliabilities room room 0 3 (drain 3 m) c 0 (heads_of 3 [])) ((searches_none bits c st c.figures.locked refl w.1).same reliabilities) rests

  pub waits_as : (d : Drained) → d ≡ nothing_of c → SentAfter bits reliabilities room room c d
  waits_as d e = subst (λ (z : Drained). SentAfter bits reliabilities room room c z) (sym e) waits

  -- or once a search was made, from c₀ on
  pub searched_rests : (c₀ : Numbers) → Searched bits c₀ c → SentAfter bits reliabilities room room c₀ (nothing_of c)
  searched_rests c₀ s = subst (λ (m : State). DrainedBy bits reliabilities room room 0 3 (drain 3 m) c 0 (heads_of 3 [])) (s.same reliabilities) rests

-- the frames behind a search
pub searched_sends : (bits reliabilities room room' : List ℕ) (c r : Numbers) (d : Drained) → Searched bits c r → DrainedBy bits reliabilities room room' 0 3 (drain 3 (view_of bits reliabilities r)) d.numbers d.count d.heads → SentAfter bits reliabilities room room' c d
searched_sends bits reliabilities room room' c r d s g = subst (λ (m : State). DrainedBy bits reliabilities room room' 0 3 (drain 3 m) d.numbers d.count d.heads) (s.same reliabilities) g
