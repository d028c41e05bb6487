-- Two bits brought into the rings, and the push from its parts.
-- Assumes nothing.
use mathlib.Core.Path.{◌≡◌, sym, ap, ap₂, ◌∙◌, subst}
use mathlib.Core.List.{List, [], ◌∷◌, ◌++◌, append_assoc}
use Prim.Native.Nat.{ℕ, ◌+◌, ◌/◌, ◌%◌, ◌≤◌, ◌<◌, ◌^◌}
use native.Mathlib.Omega.{arith}
use lib.ListN.{length, set, length-set}
use Rattle.sync_numbers.specs.declared.numbers.Numbers.{Numbers}
use Rattle.sync_rules.specs.Ring.{ring}
use Rattle.bits.specs.Bit.{Bits}
use Rattle.bits.proofs.BelowSets.{below_set}
use Rattle.sync_numbers.specs.View.{view_of, Steady}
use Rattle.sync_pushes.specs.Steps.{Brought, Searched, appended_to}
use Rattle.sync_rules.specs.Figures.{dibit_taken}
use Rattle.sync_rules.specs.State.{State, Input, bring}
use Rattle.sync_rules.specs.Pushes.{search, drain, step}
use Rattle.sync_rules.proofs.Rings.{ring_put}

pub put_two : (xs : List ℕ) (f n a b : ℕ) → length xs ≡ 1155 → n + 2 ≤ 1155 → (m : ℕ) → m ≡ n + 1 + 1 → ring (set (set xs ((f + n) % 1155) a) ((f + n + 1) % 1155) b) f m ≡ ring xs f n ++ (a ∷ b ∷ [])
put_two xs f n a b e h m em =
    let ys = set xs ((f + n) % 1155) a in
    let p : f + n + 1 ≡ f + (n + 1) = omega arith in
    ap₂ (λ (k j : ℕ). ring (set ys (k % 1155) b) f j) p em
    ∙ ring_put ys f (n + 1) b (length-set xs ((f + n) % 1155) a ∙ e) (omega arith)
    ∙ ap (λ (l : List ℕ). l ++ (b ∷ [])) (ring_put xs f n a e (omega arith))
    ∙ append_assoc (ring xs f n) (a ∷ []) (b ∷ [])

module _ (xs ys : List ℕ) (c : Numbers) (lx : length xs ≡ 1155) (ly : length ys ≡ 1155) (st : Steady c) (few : c.pending ≤ 1151) (room? : c.figures.taken < 2 ^ 40) (x : Input) where
  abbrev pub new_bits : List ℕ
  new_bits = set (set xs ((c.first + (c.restorable + c.pending)) % 1155) (x.dibit / 2)) ((c.first + (c.restorable + c.pending) + 1) % 1155) (x.dibit % 2)

  abbrev pub new_rels : List ℕ
  new_rels = set (set ys ((c.first + (c.restorable + c.pending)) % 1155) x.of_first) ((c.first + (c.restorable + c.pending) + 1) % 1155) x.of_second

  abbrev bringing : List ℕ → List ℕ → State
  bringing h r = record { held = h; reliabilities = r; restorable = c.restorable; figures = dibit_taken x.soft c.figures }

  pub binary_new : Bits xs → x.dibit < 4 → Bits new_bits
  binary_new h l = below_set (set xs ((c.first + (c.restorable + c.pending)) % 1155) (x.dibit / 2)) ((c.first + (c.restorable + c.pending) + 1) % 1155) (x.dibit % 2) (below_set xs ((c.first + (c.restorable + c.pending)) % 1155) (x.dibit / 2) h (omega arith)) (omega arith)

  fits : c.restorable + c.pending + 2 ≤ 1155
  fits = omega (arith, st.sound.restorable_few)

  brought : view_of new_bits new_rels (appended_to c x.soft) ≡ bring x (view_of xs ys c)
  unfolding bring
  brought =
      ap₂ (λ (h r : List ℕ). bringing h r)
      (put_two xs c.first (c.restorable + c.pending) (x.dibit / 2) (x.dibit % 2) lx fits (c.restorable + (c.pending + 2)) (omega arith))
      (put_two ys c.first (c.restorable + c.pending) x.of_first x.of_second ly fits (c.restorable + (c.pending + 2)) (omega arith))

  pub sound_new : (one : Numbers) → one ≡ appended_to c x.soft → Steady one
  sound_new one e =
      let s = st.sound in
      subst (λ (z : Numbers). Steady z) (sym e)
      (record {
        sound = record { first_in_lem = s.first_in_lem; restorable_few = s.restorable_few; held_few = omega (arith, s.restorable_few); taken_few = omega arith; tide = omega (arith, st.low); grid = s.grid; synchronised_few = s.synchronised_few; slips_few = s.slips_few; failures_few = s.failures_few };
        low = omega (arith, st.low);
        slips = st.slips;
        fails = st.fails;
      })

  newly : (one : Numbers) → one ≡ appended_to c x.soft → Bits xs → x.dibit < 4 → Brought xs ys new_bits new_rels c x one
  newly one e bi l =
      record {
        numbers = e;
        steady = sound_new one e;
        rings = record { long = length-set (set xs _ _) _ _ ∙ length-set xs _ _ ∙ lx; as_long = length-set (set ys _ _) _ _ ∙ length-set ys _ _ ∙ ly; binary = binary_new bi l };
        same = ap (view_of new_bits new_rels) e ∙ brought;
      }

  pub brings : (bits reliabilities : List ℕ) → bits ≡ new_bits → reliabilities ≡ new_rels → (one : Numbers) → one ≡ appended_to c x.soft → Bits xs → x.dibit < 4 → Brought xs ys bits reliabilities c x one
  brings bits reliabilities eb er one e bi l =
      subst (λ (v : List ℕ). Brought xs ys v reliabilities c x one) (sym eb)
      (subst (λ (w : List ℕ). Brought xs ys new_bits w c x one) (sym er) (newly one e bi l))

pub stepped : (xs ys bits reliabilities : List ℕ) (c : Numbers) (x : Input) (one : Numbers) → Brought xs ys bits reliabilities c x one → drain 3 (search (view_of bits reliabilities one)) ≡ step x (view_of xs ys c)
unfolding step
stepped xs ys bits reliabilities c x one b = ap (λ (m : State). drain 3 (search m)) b.same

pub steady_two : (xs : List ℕ) (c r : Numbers) → Steady c → Searched xs c r → Steady r
steady_two xs c r st s = record { sound = s.sound; low = s.low; slips = omega (arith, s.slips, s.frames, st.slips); fails = s.fails }
