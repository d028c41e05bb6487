-- The two ways into each of the states 2 p and 2 p + 1: the four registers cost two numbers between them.
-- Assumes nothing.
use mathlib.Core.Bool.{Bool, true, false, cond, ◌&&◌}
use mathlib.Core.List.{List}
use mathlib.Core.Path.{◌≡◌, refl}
use Prim.Native.Nat.{ℕ, ◌+◌, ◌-◌, ◌*◌, ◌/◌, ◌<◌, min}
use native.Mathlib.Omega.{arith}
use borrow.Author.Tests.{eqb-true, eqb-false}
use lib.Dec.{T, ltb, eqb, eqb→eq}
use lib.Count.{ones, ones_in}
use lib.ListN.{length, get_or, set, length-set}
use Rattle.bits.specs.Alls.{all_below}
use Rattle.bits.proofs.Filling.{set_more}
use Rattle.bits.proofs.Computed.{below, both_left, both_right}
use Rattle.protected_rules.specs.Convolution.{parity_of, even_mask, odd_mask}
use Rattle.voice_path_rules.specs.declared.Seen.{Seen}
use Rattle.voice_path_rules.specs.Path.{disagree, weigh, arrive, survivor}
use Rattle.voice_path_steps.specs.Steps.{Weighed}

-- ---- the parities of a register: both masks have their lowest and their highest bit

flipped : ℕ → ℕ → Bool
flipped g p =
    eqb (parity_of g (2 * p + 1) + parity_of g (2 * p)) 1
    && (eqb (parity_of g (2 * p + 256) + parity_of g (2 * p)) 1
    && eqb (parity_of g (2 * p + 1 + 256)) (parity_of g (2 * p)))

all_flipped_odd : T (all_below 128 (flipped odd_mask))
unfolding flipped parity_of ones ones_in
all_flipped_odd = tt

all_flipped_even : T (all_below 128 (flipped even_mask))
unfolding flipped parity_of ones ones_in
all_flipped_even = tt

-- ---- the ways into the states 2 p and 2 p + 1

disagree_flip : (w x y a : ℕ) → x + y ≡ 1 → a < 2 → disagree w x a + disagree w y a ≡ w
disagree_flip w x y a e h = go (eqb x a) (eqb y a) refl refl
  where
    go : (s t : Bool) → eqb x a ≡ s → eqb y a ≡ t → cond s 0 w + cond t 0 w ≡ w
    go true true p q = absurd (omega (arith, eqb-true x a p, eqb-true y a q))
    go true false p q = omega arith
    go false true p q = omega arith
    go false false p q = absurd (omega (arith, eqb-false x a p, eqb-false y a q))

flip_at : (g : ℕ) → T (all_below 128 (flipped g)) → (p : ℕ) → p < 128
    → (parity_of g (2 * p + 1) + parity_of g (2 * p) ≡ 1)
    × (parity_of g (2 * p + 256) + parity_of g (2 * p) ≡ 1)
    × (parity_of g (2 * p + 1 + 256) ≡ parity_of g (2 * p))
unfolding flipped
flip_at g t p h =
    let f = below 128 (flipped g) t p h in
    let f1 = eqb (parity_of g (2 * p + 1) + parity_of g (2 * p)) 1 in
    let f2 = eqb (parity_of g (2 * p + 256) + parity_of g (2 * p)) 1 in
    let f3 = eqb (parity_of g (2 * p + 1 + 256)) (parity_of g (2 * p)) in (
      eqb→eq _ _ (both_left f1 (f2 && f3) f),
      eqb→eq _ _ (both_left f2 f3 (both_right f1 (f2 && f3) f)),
      eqb→eq _ _ (both_right f2 f3 (both_right f1 (f2 && f3) f)),
    )

module _ (o : Seen) (w : Weighed o) (p : ℕ) (h : p < 128) where
  weigh_low : weigh o (2 * p + 1) + weigh o (2 * p) ≡ o.wa + o.wb
  unfolding weigh
  weigh_low =
      omega (
        arith,
        disagree_flip o.wa _ _ o.a (flip_at odd_mask all_flipped_odd p h).0 w.a,
        disagree_flip o.wb _ _ o.b (flip_at even_mask all_flipped_even p h).0 w.b,
      )

  weigh_high : weigh o (2 * p + 256) + weigh o (2 * p) ≡ o.wa + o.wb
  unfolding weigh
  weigh_high =
      omega (
        arith,
        disagree_flip o.wa _ _ o.a (flip_at odd_mask all_flipped_odd p h).1 w.a,
        disagree_flip o.wb _ _ o.b (flip_at even_mask all_flipped_even p h).1 w.b,
      )

  weigh_both : weigh o (2 * p + 1 + 256) ≡ weigh o (2 * p)
  unfolding weigh
  weigh_both = rw ((flip_at odd_mask all_flipped_odd p h).2, (flip_at even_mask all_flipped_even p h).2)

  half_even : 2 * p / 2 ≡ p
  half_even = omega arith

  half_odd : (2 * p + 1) / 2 ≡ p
  half_odd = omega arith

  high_is : weigh o (2 * p + 256) ≡ o.wa + o.wb - weigh o (2 * p)
  high_is = omega (arith, weigh_high)

  low_is : weigh o (2 * p + 1) ≡ o.wa + o.wb - weigh o (2 * p)
  low_is = omega (arith, weigh_low)

  module _ (c : ℕ → ℕ) where
    pub arrive_even : arrive c (weigh o) (2 * p) ≡ min (c p + weigh o (2 * p)) (c (p + 128) + (o.wa + o.wb - weigh o (2 * p)))
    unfolding arrive
    arrive_even = rw (half_even, high_is)

    pub arrive_odd : arrive c (weigh o) (2 * p + 1) ≡ min (c p + (o.wa + o.wb - weigh o (2 * p))) (c (p + 128) + weigh o (2 * p))
    unfolding arrive
    arrive_odd = rw (half_odd, low_is, weigh_both)

    pub survivor_even : survivor c (weigh o) (2 * p) ≡ cond (ltb (c (p + 128) + (o.wa + o.wb - weigh o (2 * p))) (c p + weigh o (2 * p))) 1 0
    unfolding survivor
    survivor_even = rw (half_even, high_is)

    pub survivor_odd : survivor c (weigh o) (2 * p + 1) ≡ cond (ltb (c (p + 128) + weigh o (2 * p)) (c p + (o.wa + o.wb - weigh o (2 * p)))) 1 0
    unfolding survivor
    survivor_odd = rw (half_odd, low_is, weigh_both)

-- ---- a list that is filled by twos

pub pair_more : (l : List ℕ) (f : ℕ → ℕ) (p x y : ℕ) → length l ≡ 256 → p < 128 → ((s : ℕ) → s < 2 * p → get_or l s 0 ≡ f s)
    → x ≡ f (2 * p) → y ≡ f (2 * p + 1) → (s : ℕ) → s < 2 * (p + 1) → get_or (set (set l (2 * p) x) (2 * p + 1) y) s 0 ≡ f s
pair_more l f p x y len hp h hx hy s hs =
    set_more (set l (2 * p) x) 0 (λ (k : ℕ) (v : ℕ). v ≡ f k) (2 * p + 1) y (simp length-set (omega arith))
    (set_more l 0 (λ (k : ℕ) (v : ℕ). v ≡ f k) (2 * p) x (omega arith) h hx)
    hy
    s
    (omega arith)
