-- Document 01: "Coded bits 2i and 2i+1 are bit i of the bytes from 5 and from 21. Payload bits 78-117 are word bytes 0-4, bits 118-157 are
-- bytes 16-20; the top two bits of byte 19 come back zero."
-- Assumes nothing.
use Rattle.std.specs.Prelude.{cond, List, ◌≡◌, ℕ, ◌+◌, ◌-◌, ◌*◌, ◌/◌, ◌%◌, ◌<◌, ltb, get_or, length}
use Rattle.bits.specs.Bit.{bit_lo, tab, number, Bytes}

-- 158 bits in 20 bytes
pub record Payload (p : List ℕ) : Type 0 where
  pub long : length p ≡ 20
  pub bytes : Bytes p
  pub top : get_or p 19 0 < 64

-- ---- the coded bits of a word

-- where coded bit m lies
abbrev pub coded_place : ℕ → ℕ
coded_place m = 40 + 128 * (m % 2) + m / 2

unfoldable pub coded : List ℕ → List ℕ
coded w = tab 176 (λ m. bit_lo w (coded_place m))

-- byte k of the word w with the coded bits d put in
unfoldable pub with_coded_byte : List ℕ → List ℕ → ℕ → ℕ
with_coded_byte w d k =
    cond (ltb k 5) (get_or w k 0)
    (cond (ltb k 16) (number 8 (λ j. get_or d (16 * (k - 5) + 2 * j) 0))
    (cond (ltb k 21) (get_or w k 0)
    (cond (ltb k 32) (number 8 (λ j. get_or d (16 * (k - 21) + 1 + 2 * j) 0)) (get_or w k 0))))

unfoldable pub with_coded : List ℕ → List ℕ → List ℕ
with_coded w d = tab 42 (with_coded_byte w d)

-- ---- the payload of a word and its input

unfoldable pub payload_bit : List ℕ → List ℕ → ℕ → ℕ
payload_bit w x i =
    cond (ltb i 78) (get_or x (4 + i) 0)
    (cond (ltb i 118) (bit_lo w (i - 78))
    (cond (ltb i 158) (bit_lo w (128 + (i - 118))) 0))

unfoldable pub payload_of : List ℕ → List ℕ → List ℕ
payload_of w x = tab 20 (λ k. number 8 (λ j. payload_bit w x (8 * k + j)))

-- the bytes of a word that hold payload bits 78 to 157, below its tail
unfoldable pub front_byte : List ℕ → ℕ → ℕ
front_byte p k =
    cond (ltb k 5) (number 8 (λ j. bit_lo p (78 + (8 * k + j))))
    (cond (ltb k 16) 0
    (cond (ltb k 21) (number 8 (λ j. bit_lo p (118 + (8 * (k - 16) + j)))) 0))

unfoldable pub front : List ℕ → List ℕ
front p = tab 42 (front_byte p)
