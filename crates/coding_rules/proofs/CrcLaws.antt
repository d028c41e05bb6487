-- Laws of the checksum's register: the bits of a byte, the byte joined at the top, and the remainder.
-- Assumes nothing.
use mathlib.Core.List.{List}
use mathlib.Core.Path.{◌≡◌, refl, sym, ap, ap₂, ◌∙◌, subst}
use Prim.Native.Nat.{ℕ, zero, suc, ◌+◌, ◌-◌, ◌*◌, ◌/◌, ◌%◌, ◌^◌, ◌≤◌, ◌<◌}
use native.Mathlib.Nat.{add-zero, add-suc, le_refl, le-suc, le_trans, mul-one, mul_assoc, mul_comm, pow-suc}
use native.Mathlib.Omega.{arith}
use lib.Bits.{bit_xor, xor_self, xor_zero_r, xor_comm, xor_lt, xor_mod, xor_shr, xor_shifted}
use lib.Dec.{lit<, lit≤}
use lib.ListN.{length, get_or}
use Rattle.bits.specs.Bit.{digit, bit_hi}
use Rattle.bits.specs.Polynomials.{poly, Multiple, none}
use Rattle.bits.proofs.Computed.{same_below}
use Rattle.bits.proofs.Digits.{digit_lt}
use Rattle.bits.proofs.Multiples.{multiple_xor, multiple_double, multiple_once, one_remainder}
use Rattle.bits.proofs.Xor.{xor_assoc, xor_medial, xor_swap, xor_twice, xor_again, xor_scale, xor_double, times_xor_bit}
use Rattle.coding_rules.specs.Crc.{crc_step, crc_run, crc_of, RemainderOf}

-- ---- the register stays a register

joined_lt : (r b : ℕ) → r < 65536 → b < 2 → bit_xor (r / 32768) b < 2
joined_lt r b hr hb = xor_lt 1 (r / 32768) b (omega arith) hb

pub crc_step_lt : (r b : ℕ) → r < 65536 → b < 2 → crc_step r b < 65536
unfolding crc_step
crc_step_lt r b hr hb = xor_lt 16 (r % 32768 * 2) (bit_xor (r / 32768) b * 0x1021) (omega arith) (omega (arith, joined_lt r b hr hb))

pub crc_run_lt : (r : ℕ) (f : ℕ → ℕ) (n : ℕ) → r < 65536 → ((j : ℕ) → f j < 2) → crc_run r f n < 65536
unfolding crc_run
crc_run_lt r f zero hr hf = hr
crc_run_lt r f (suc n) hr hf = crc_step_lt (crc_run r f n) (f n) (crc_run_lt r f n hr hf) (hf n)

-- ---- bits and bytes of a message

crc_run_add : (r : ℕ) (f : ℕ → ℕ) (n m : ℕ) → crc_run r f (n + m) ≡ crc_run (crc_run r f n) (λ j. f (n + j)) m
unfolding crc_run
crc_run_add r f n zero = ap (crc_run r f) (add-zero n)
crc_run_add r f n (suc m) = ap (crc_run r f) (add-suc n m) ∙ ap (λ (q : ℕ). crc_step q (f (n + m))) (crc_run_add r f n m)

crc_run_ext : (r : ℕ) (f g : ℕ → ℕ) (n : ℕ) → ((j : ℕ) → j < n → f j ≡ g j) → crc_run r f n ≡ crc_run r g n
unfolding crc_run
crc_run_ext r f g zero h = refl
crc_run_ext r f g (suc n) h = ap₂ crc_step (crc_run_ext r f g n (λ j l. h j (le_trans l (le-suc n)))) (h n (le_refl (suc n)))

-- a byte more: its eight bits, highest first
crc_run_byte : (r : ℕ) (m : List ℕ) (i : ℕ)
    → crc_run r (bit_hi m) (8 * (i + 1)) ≡ crc_run (crc_run r (bit_hi m) (8 * i)) (λ j. digit (get_or m i 0) (7 - j)) 8
crc_run_byte r m i =
    let e : 8 * (i + 1) ≡ 8 * i + 8 = omega arith in
    ap (crc_run r (bit_hi m)) e ∙ crc_run_add r (bit_hi m) (8 * i) 8
    ∙ crc_run_ext _ _ _ 8 (λ j h.
    let e₁ : (8 * i + j) / 8 ≡ i = omega arith in
    let e₂ : (8 * i + j) % 8 ≡ j = omega arith in
    ap₂ (λ (x y : ℕ). digit (get_or m x 0) (7 - y)) e₁ e₂)

pub crc_none : (r : ℕ) (f : ℕ → ℕ) → r ≡ crc_run r f 0
unfolding crc_run
crc_none r f = refl

-- a loop's turn over the bytes, with the register before it and after it
pub crc_turn : (r : ℕ) (m : List ℕ) (i : ℕ) {q q' : ℕ} → q ≡ crc_run r (bit_hi m) (8 * i) → q' ≡ crc_run q (λ j. digit (get_or m i 0) (7 - j)) 8
    → q' ≡ crc_run r (bit_hi m) (8 * (i + 1))
crc_turn r m i e h = h ∙ ap (λ (x : ℕ). crc_run x (λ j. digit (get_or m i 0) (7 - j)) 8) e ∙ sym (crc_run_byte r m i)

-- ---- a whole byte joined at the register's top

-- what waits below the top bit only moves up
below_top : (r u : ℕ) → crc_step (bit_xor r u) 0 ≡ bit_xor (crc_step r (u / 32768)) (u % 32768 * 2)
unfolding crc_step
below_top r u =
    ap₂ (λ (x y : ℕ). bit_xor (x * 2) (y * 0x1021)) (xor_mod r u 15) (xor_zero_r (bit_xor r u / 32768) ∙ xor_shr r u 15)
    ∙ ap (λ (x : ℕ). bit_xor x (bit_xor (r / 32768) (u / 32768) * 0x1021)) (xor_double (r % 32768) (u % 32768))
    ∙ xor_swap (r % 32768 * 2) (u % 32768 * 2) (bit_xor (r / 32768) (u / 32768) * 0x1021)

-- the n first bits of a byte have entered, the others wait at the register's top
abbrev waiting : ℕ → ℕ → ℕ
waiting x n = x * 2 ^ (8 + n) % 65536

top : (x n : ℕ) → n < 8 → waiting x n / 32768 ≡ digit x (7 - n)
top x zero h = omega arith
top x (suc zero) h = omega arith
top x (suc (suc zero)) h = omega arith
top x (suc (suc (suc zero))) h = omega arith
top x (suc (suc (suc (suc zero)))) h = omega arith
top x (suc (suc (suc (suc (suc zero))))) h = omega arith
top x (suc (suc (suc (suc (suc (suc zero)))))) h = omega arith
top x (suc (suc (suc (suc (suc (suc (suc zero))))))) h = omega arith
top x (suc (suc (suc (suc (suc (suc (suc (suc n)))))))) h = absurd (omega arith)

next : (x n : ℕ) → waiting x n % 32768 * 2 ≡ waiting x (suc n)
next x n =
    let e : x * 2 ^ (8 + suc n) ≡ x * 2 ^ (8 + n) * 2 =
    ap (λ (k : ℕ). x * 2 ^ k) (add-suc 8 n) ∙ ap (λ (y : ℕ). x * y) (pow-suc 2 (8 + n)) ∙ sym (mul_assoc x (2 ^ (8 + n)) 2) in
    omega (arith, e)

quiet : ℕ → ℕ
quiet j = 0

entered : (r x n : ℕ) → n ≤ 8 → crc_run (bit_xor r (waiting x 0)) quiet n ≡ bit_xor (crc_run r (λ j. digit x (7 - j)) n) (waiting x n)
unfolding crc_run quiet
entered r x zero h = refl
entered r x (suc n) h =
    ap (λ (y : ℕ). crc_step y 0) (entered r x n (omega arith))
    ∙ below_top (crc_run r (λ j. digit x (7 - j)) n) (waiting x n)
    ∙ ap₂ (λ (y z : ℕ). bit_xor (crc_step (crc_run r (λ j. digit x (7 - j)) n) y) z) (top x n (omega arith)) (next x n)

-- a quiet step is linear
quiet_step : (a b : ℕ) → a < 65536 → b < 65536 → crc_step (bit_xor a b) 0 ≡ bit_xor (crc_step a 0) (crc_step b 0)
unfolding crc_step
quiet_step a b ha hb =
    let h : ℕ = a / 32768 in
    let k : ℕ = b / 32768 in
    let e : bit_xor h k * 0x1021 ≡ bit_xor (h * 0x1021) (k * 0x1021) =
    mul_comm (bit_xor h k) 0x1021 ∙ times_xor_bit 0x1021 h k (omega arith) (omega arith) ∙ ap₂ bit_xor (mul_comm 0x1021 h) (mul_comm 0x1021 k) in
    let q : (x : ℕ) → bit_xor x 0 * 0x1021 ≡ x * 0x1021 = λ x. ap (λ (y : ℕ). y * 0x1021) (xor_zero_r x) in
    ap₂ (λ (x y : ℕ). bit_xor (x * 2) y) (xor_mod a b 15) (q (bit_xor a b / 32768) ∙ ap (λ (y : ℕ). y * 0x1021) (xor_shr a b 15))
    ∙ ap₂ bit_xor (xor_double (a % 32768) (b % 32768)) e
    ∙ xor_medial (a % 32768 * 2) (b % 32768 * 2) (h * 0x1021) (k * 0x1021)
    ∙ ap₂ (λ (x y : ℕ). bit_xor (bit_xor (a % 32768 * 2) x) (bit_xor (b % 32768 * 2) y)) (sym (q h)) (sym (q k))

quiet_lt : (a n : ℕ) → a < 65536 → crc_run a quiet n < 65536
unfolding quiet
quiet_lt a n h = crc_run_lt a quiet n h (λ j. omega arith)

quiet_xor : (a b n : ℕ) → a < 65536 → b < 65536 → crc_run (bit_xor a b) quiet n ≡ bit_xor (crc_run a quiet n) (crc_run b quiet n)
unfolding crc_run quiet
quiet_xor a b zero ha hb = refl
quiet_xor a b (suc n) ha hb =
    ap (λ (x : ℕ). crc_step x 0) (quiet_xor a b n ha hb) ∙ quiet_step (crc_run a quiet n) (crc_run b quiet n) (quiet_lt a n ha) (quiet_lt b n hb)

-- the low byte only moves up; the high byte leaves this behind
unfoldable pub folded : ℕ → ℕ
folded t = let u : ℕ = bit_xor t (t / 16) in bit_xor (bit_xor (u % 16 * 4096) (u * 32)) u

low_byte : (l : ℕ) → l < 256 → crc_run l quiet 8 ≡ l * 256
unfolding crc_run crc_step quiet
low_byte = same_below (λ l. crc_run l quiet 8) (λ l. l * 256) 256 tt

high_byte : (t : ℕ) → t < 256 → crc_run (t * 256) quiet 8 ≡ folded t
unfolding crc_run crc_step quiet folded
high_byte = same_below (λ t. crc_run (t * 256) quiet 8) folded 256 tt

-- the eight bits of a byte, at once
pub byte_at_once : (r x : ℕ) → r < 65536 → x < 256 → bit_xor (r % 256 * 256) (folded (bit_xor (r / 256) x)) ≡ crc_run r (λ j. digit x (7 - j)) 8
byte_at_once r x hr hx =
    let h : ℕ = r / 256 in
    let l : ℕ = r % 256 in
    let t : ℕ = bit_xor h x in
    let ht : t < 256 = xor_lt 8 h x (omega arith) hx in
    let e : r ≡ h * 256 + l = omega arith in
    let w₀ : waiting x 0 ≡ x * 256 = omega arith in
    let w₈ : waiting x 8 ≡ 0 = omega arith in
    let d : bit_xor r (waiting x 0) ≡ bit_xor (t * 256) l =
    ap₂ bit_xor (e ∙ sym (xor_shifted h 8 l (omega arith))) w₀ ∙ xor_swap (h * 256) l (x * 256) ∙ ap (λ (y : ℕ). bit_xor y l) (xor_scale 8 h x) in
    xor_comm (l * 256) (folded t)
    ∙ sym (ap₂ bit_xor (high_byte t ht) (low_byte l (omega arith)))
    ∙ sym (quiet_xor (t * 256) l 8 (omega arith) (omega arith))
    ∙ ap (λ (y : ℕ). crc_run y quiet 8) (sym d)
    ∙ entered r x 8 (lit≤ tt)
    ∙ ap (bit_xor (crc_run r (λ j. digit x (7 - j)) 8)) w₈
    ∙ xor_zero_r (crc_run r (λ j. digit x (7 - j)) 8)

-- ---- the remainder of a division

-- x·r + b·x^16 is the joined bit times 0x11021, plus the next register
division_step : (r b : ℕ) → r < 65536 → b < 2 → bit_xor (r * 2) (b * 65536) ≡ bit_xor (0x11021 * bit_xor (r / 32768) b) (crc_step r b)
unfolding crc_step
division_step r b hr hb =
    let t : ℕ = bit_xor (r / 32768) b in
    let ht : t < 2 = joined_lt r b hr hb in
    let h : ℕ = r / 32768 in
    let l : ℕ = r % 32768 * 2 in
    let e₁ : r * 2 ≡ h * 65536 + l = omega arith in
    let e₂ : 0x11021 * t ≡ t * 65536 + t * 0x1021 = omega arith in
    ap (λ (x : ℕ). bit_xor x (b * 65536)) (e₁ ∙ sym (xor_shifted h 16 l (omega arith)))
    ∙ xor_swap (h * 65536) l (b * 65536)
    ∙ ap (λ (x : ℕ). bit_xor x l) (xor_scale 16 h b)
    ∙ sym (ap (bit_xor (t * 65536)) (xor_again (t * 0x1021) l))
    ∙ ap (bit_xor (t * 65536)) (ap (bit_xor (t * 0x1021)) (xor_comm (t * 0x1021) l))
    ∙ sym (xor_assoc (t * 65536) (t * 0x1021) (bit_xor l (t * 0x1021)))
    ∙ ap (λ (x : ℕ). bit_xor x (bit_xor l (t * 0x1021))) (xor_shifted t 16 (t * 0x1021) (omega arith) ∙ sym e₂)

-- the message times x^16, with the initial register added at its top
abbrev dividend : ℕ → (ℕ → ℕ) → ℕ → ℕ
dividend r f n = bit_xor (poly f n * 65536) (r * 2 ^ n)

dividend_more : (r : ℕ) (f : ℕ → ℕ) (n : ℕ) → f n < 2 → dividend r f (suc n) ≡ bit_xor (dividend r f n * 2) (f n * 65536)
unfolding poly
dividend_more r f n h =
    let a : ℕ = poly f n * 65536 in
    let b : ℕ = f n in
    let e₁ : (2 * poly f n + b) * 65536 ≡ poly f n * 131072 + b * 65536 = omega arith in
    let e₂ : poly f n * 131072 ≡ a * 2 = omega arith in
    let e₃ : r * 2 ^ suc n ≡ r * 2 ^ n * 2 = ap (λ (x : ℕ). r * x) (pow-suc 2 n) ∙ sym (mul_assoc r (2 ^ n) 2) in
    ap₂ bit_xor (e₁ ∙ sym (xor_shifted (poly f n) 17 (b * 65536) (omega arith)) ∙ ap (λ (x : ℕ). bit_xor x (b * 65536)) e₂) e₃
    ∙ xor_swap (a * 2) (b * 65536) (r * 2 ^ n * 2)
    ∙ ap (λ (x : ℕ). bit_xor x (b * 65536)) (sym (xor_double a (r * 2 ^ n)))

run_remainder : (r : ℕ) (f : ℕ → ℕ) (n : ℕ) → r < 65536 → ((j : ℕ) → f j < 2) → Multiple 0x11021 (bit_xor (dividend r f n) (crc_run r f n))
unfolding crc_run poly
run_remainder r f zero hr hf = subst (Multiple 0x11021) (sym (ap (λ (x : ℕ). bit_xor x r) (mul-one r) ∙ xor_self r)) none
run_remainder r f (suc n) hr hf =
    let a : ℕ = dividend r f n in
    let c : ℕ = crc_run r f n in
    let b : ℕ = f n in
    let t : ℕ = bit_xor (c / 32768) b in
    let hc : c < 65536 = crc_run_lt r f n hr hf in
    let s : bit_xor (b * 65536) (crc_step c b) ≡ bit_xor (c * 2) (0x11021 * t) =
    sym (xor_again (c * 2) (bit_xor (b * 65536) (crc_step c b)))
    ∙ ap (bit_xor (c * 2)) (sym (xor_assoc (c * 2) (b * 65536) (crc_step c b)) ∙ ap (λ (x : ℕ). bit_xor x (crc_step c b)) (division_step c b hc (hf n))
    ∙ xor_twice (0x11021 * t) (crc_step c b)) in
    subst (Multiple 0x11021)
    (ap (λ (x : ℕ). bit_xor x (0x11021 * t)) (xor_double a c)
    ∙ xor_assoc (a * 2) (c * 2) (0x11021 * t) ∙ ap (bit_xor (a * 2)) (sym s)
    ∙ sym (xor_assoc (a * 2) (b * 65536) (crc_step c b)) ∙ ap (λ (x : ℕ). bit_xor x (crc_step c b)) (sym (dividend_more r f n (hf n))))
    (multiple_xor (multiple_double (run_remainder r f n hr hf)) (multiple_once 0x11021 t (joined_lt c b hc (hf n))))

pub crc_remainder : (m : List ℕ) → RemainderOf m (crc_of m)
crc_remainder m =
    record {
      small = crc_run_lt 0xffff (bit_hi m) (8 * length m) (lit< tt) (λ j. digit_lt (get_or m (j / 8) 0) (7 - j % 8));
      divides = run_remainder 0xffff (bit_hi m) (8 * length m) (lit< tt) (λ j. digit_lt (get_or m (j / 8) 0) (7 - j % 8));
    }

pub crc_only : (m : List ℕ) (c : ℕ) → RemainderOf m c → c ≡ crc_of m
crc_only m c h =
    one_remainder 0x11021 16 (lit≤ tt) (lit< tt) (dividend 0xffff (bit_hi m) (8 * length m)) c (crc_of m)
    h.small (crc_remainder m).small h.divides (crc_remainder m).divides
