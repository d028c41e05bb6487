-- The field's laws over its definition, for bytes, numbers below 256. Every byte but 0 is a power of 2, and powers multiply by adding their
-- exponents: so a product commutes and associates, has no zero divisors, and every byte but 0 has an inverse.
-- Assumes nothing.
use mathlib.Core.Path.{◌≡◌, refl, sym, ap, ap₂, ◌∙◌, subst}
use mathlib.Core.Logic.{◌⊎◌, inl, inr}
use mathlib.Core.Bool.{Bool, true, false, cond}
use Prim.Native.Nat.{ℕ, zero, suc, ◌+◌, ◌-◌, ◌*◌, ◌/◌, ◌%◌, ◌<◌, ◌≤◌}
use native.Mathlib.Nat.{add-zero, zero-add, suc-add, add-suc, add_comm, add_assoc, mod-eq_of_lt, div-add-mod', zero-mul, zero-lt-suc, lt_irrefl, not-suc-le-zero, le_of_suc-le-suc}
use native.Mathlib.Omega.{arith}
use lib.Dec.{T, eqb, eqb→eq, eqb_refl, eqb-zero-suc, lit<, lit≤}
use lib.ListN.{get_or}
use lib.Bits.{bit_xor, xor_comm, xor_self, xor_zero_r}
use Rattle.bits.proofs.Xor.{xor_assoc, xor_left_comm, xor_again}
use Rattle.field_rules.specs.Field.{product, power, first_from, quotient, Log}
use Rattle.field_rules.proofs.Products.{product_lt, product_low, low_lt, product_xor, product_zero_l, product_zero_r, product_one_l, power_lt, power_add, power_255, power_pos}
use Rattle.field_rules.proofs.TableRules.{logs, logs_lt, logs_rule, logs_of_power}

-- the logarithm of a byte
log : ℕ → ℕ
log a = get_or logs a 0

log_rule : (a : ℕ) → 0 < a → a < 256 → power (log a) ≡ a
unfolding log
log_rule = logs_rule

-- each byte but 0 has a logarithm
pub logarithm : (a : ℕ) → 0 < a → a < 256 → (i : ℕ) × (i < 255) × (power i ≡ a)
logarithm a p h = (get_or logs a 0, logs_lt a h, logs_rule a p h)

-- a law of bytes holds of 0 and of every power of 2
pub by_power {ℓ} : (P : ℕ → Type ℓ) → P 0 → ((i : ℕ) → P (power i)) → (a : ℕ) → a < 256 → P a
by_power P z f zero h = z
by_power P z f (suc a) h = subst P (log_rule (suc a) (zero-lt-suc a) h) (f (log (suc a)))

pub power_distinct : (i j : ℕ) → i < 255 → j < 255 → power i ≡ power j → i ≡ j
power_distinct i j hi hj e = sym (logs_of_power i hi) ∙ ap (λ (x : ℕ). get_or logs x 0) e ∙ logs_of_power j hj

byte_comm : (a b : ℕ) → a < 256 → b < 256 → product a b ≡ product b a
byte_comm a b ha hb =
    by_power (λ (a : ℕ). product a b ≡ product b a) (product_zero_l b ∙ sym (product_zero_r b))
    (λ i. by_power (λ (b : ℕ). product (power i) b ≡ product b (power i)) (product_zero_r (power i) ∙ sym (product_zero_l (power i)))
    (λ j. power_add i j ∙ ap power (add_comm i j) ∙ sym (power_add j i))
    b
    hb)
    a
    ha

pub product_comm : (a b : ℕ) → product a b ≡ product b a
product_comm a b = sym (product_low a b) ∙ byte_comm (a % 256) (b % 256) (low_lt a) (low_lt b) ∙ product_low b a

pub product_one_r : (a : ℕ) → a < 256 → product a 1 ≡ a
product_one_r a h = product_comm a 1 ∙ product_one_l a h

pub product_xor_r : (a b c : ℕ) → product (bit_xor a b) c ≡ bit_xor (product a c) (product b c)
product_xor_r a b c = product_comm (bit_xor a b) c ∙ product_xor c a b ∙ ap₂ bit_xor (product_comm c a) (product_comm c b)

byte_assoc : (a b c : ℕ) → a < 256 → b < 256 → c < 256 → product (product a b) c ≡ product a (product b c)
byte_assoc a b c ha hb hc =
    by_power (λ (a : ℕ). product (product a b) c ≡ product a (product b c))
    (ap (λ (x : ℕ). product x c) (product_zero_l b) ∙ product_zero_l c ∙ sym (product_zero_l (product b c)))
    (λ i. by_power (λ (b : ℕ). product (product (power i) b) c ≡ product (power i) (product b c))
    (ap (λ (x : ℕ). product x c) (product_zero_r (power i)) ∙ product_zero_l c
    ∙ sym (ap (product (power i)) (product_zero_l c) ∙ product_zero_r (power i)))
    (λ j. by_power (λ (c : ℕ). product (product (power i) (power j)) c ≡ product (power i) (product (power j) c))
    (product_zero_r (product (power i) (power j)) ∙ sym (ap (product (power i)) (product_zero_r (power j)) ∙ product_zero_r (power i)))
    (λ k. ap (λ (x : ℕ). product x (power k)) (power_add i j) ∙ power_add (i + j) k ∙ ap power (add_assoc i j k)
    ∙ sym (ap (product (power i)) (power_add j k) ∙ power_add i (j + k)))
    c
    hc)
    b
    hb)
    a
    ha

pub product_assoc : (a b c : ℕ) → product (product a b) c ≡ product a (product b c)
product_assoc a b c =
    sym (product_low (product a b) c)
    ∙ ap (λ (x : ℕ). product x (c % 256)) (mod-eq_of_lt (product_lt a b) ∙ sym (product_low a b))
    ∙ byte_assoc (a % 256) (b % 256) (c % 256) (low_lt a) (low_lt b) (low_lt c)
    ∙ ap (product (a % 256)) (product_low b c ∙ sym (mod-eq_of_lt (product_lt b c)))
    ∙ product_low a (product b c)

pub product_left_comm : (a b c : ℕ) → product a (product b c) ≡ product b (product a c)
product_left_comm a b c = sym (product_assoc a b c) ∙ ap (λ (x : ℕ). product x c) (product_comm a b) ∙ product_assoc b a c

-- For `simp ring`: two sums of products are brought to one form.
pub ruleset ring =
    (product_xor, product_xor_r, product_zero_l, product_zero_r, product_assoc, product_left_comm, product_comm, xor_assoc, xor_left_comm, xor_comm, xor_self, xor_again, xor_zero_r)

-- a product is 0 only where a factor is
pub no_zero_divisors : (a b : ℕ) → a < 256 → b < 256 → product a b ≡ 0 → (a ≡ 0) ⊎ (b ≡ 0)
no_zero_divisors a b ha hb =
    by_power (λ (a : ℕ). product a b ≡ 0 → (a ≡ 0) ⊎ (b ≡ 0)) (λ e. inl refl)
    (λ i. by_power (λ (b : ℕ). product (power i) b ≡ 0 → (power i ≡ 0) ⊎ (b ≡ 0)) (λ e. inr refl)
    (λ j e. absurd (lt_irrefl 0 (subst (λ (x : ℕ). 0 < x) (sym (power_add i j) ∙ e) (power_pos (i + j))))) b hb) a ha

-- a power's exponent counts modulo 255
power_turn : (q r : ℕ) → power (q * 255 + r) ≡ power r
power_turn zero r = ap power (ap (λ (x : ℕ). x + r) (zero-mul 255) ∙ zero-add r)
power_turn (suc q) r =
    ap power turned ∙ sym (power_add 255 (q * 255 + r)) ∙ ap (λ (x : ℕ). product x (power (q * 255 + r))) power_255
    ∙ product_one_l (power (q * 255 + r)) (power_lt (q * 255 + r)) ∙ power_turn q r
  where
    turned : suc q * 255 + r ≡ 255 + (q * 255 + r)
    turned = omega arith

pub power_mod : (i : ℕ) → power (i % 255) ≡ power i
power_mod i = sym (power_turn (i / 255) (i % 255)) ∙ ap power (div-add-mod' i 255)

-- ---- the inverse and the quotient

inverse : ℕ → ℕ
inverse b = power (255 - log b)

inverse_product : (b : ℕ) → 0 < b → b < 256 → product (inverse b) b ≡ 1
unfolding inverse log
inverse_product b p h =
    ap (product (power (255 - log b))) (sym (log_rule b p h)) ∙ power_add (255 - log b) (log b)
    ∙ ap power fill ∙ power_255
  where
    fill : 255 - log b + log b ≡ 255
    fill = omega (arith, logs_lt b h)

-- a times c, times c's inverse
undone : (a c : ℕ) → a < 256 → 0 < c → c < 256 → product (product a c) (inverse c) ≡ a
undone a c ha p hc =
    product_assoc a c (inverse c)
    ∙ ap (product a) (product_comm c (inverse c) ∙ inverse_product c p hc) ∙ product_one_r a ha

pub product_cancel : (a b c : ℕ) → a < 256 → b < 256 → 0 < c → c < 256 → product a c ≡ product b c → a ≡ b
product_cancel a b c ha hb p hc e = sym (undone a c ha p hc) ∙ ap (λ (x : ℕ). product x (inverse c)) e ∙ undone b c hb p hc

-- where a test passes at a number of those tried, it passes at the first
first_passes : (f : ℕ → Bool) (n k d : ℕ) → d < n → T (f (k + d)) → T (f (first_from f n k))
unfolding first_from
first_passes f zero k d h t = absurd (not-suc-le-zero h)
first_passes f (suc n) k zero h t = go (f k) refl
  where
    go : (x : Bool) → f k ≡ x → T (f (cond x k (first_from f n (suc k))))
    go true e = subst (λ (j : ℕ). T (f j)) (add-zero k) t
    go false e = absurd (subst T e (subst (λ (j : ℕ). T (f j)) (add-zero k) t))
first_passes f (suc n) k (suc d) h t =
    go (first_passes f n (suc k) d (le_of_suc-le-suc h) (subst (λ (j : ℕ). T (f j)) (add-suc k d ∙ sym (suc-add k d)) t)) (f k) refl
  where
    go : T (f (first_from f n (suc k))) → (x : Bool) → f k ≡ x → T (f (cond x k (first_from f n (suc k))))
    go ih true e = subst T (sym e) tt
    go ih false e = ih

first_none : (f : ℕ → Bool) → ((c : ℕ) → f c ≡ false) → (n k : ℕ) → first_from f n k ≡ 0
unfolding first_from
first_none f e zero k = refl
first_none f e (suc n) k = ap (λ (x : Bool). cond x k (first_from f n (suc k))) (e k) ∙ first_none f e n (suc k)

first_lt : (f : ℕ → Bool) (m n k : ℕ) → 0 < m → k + n ≤ m → first_from f n k < m
unfolding first_from
first_lt f m zero k p h = p
first_lt f m (suc n) k p h = go (first_lt f m n (suc k) p (subst (λ (j : ℕ). j ≤ m) (add-suc k n ∙ sym (suc-add k n)) h)) (f k)
  where
    go : first_from f n (suc k) < m → (x : Bool) → cond x k (first_from f n (suc k)) < m
    go ih true = omega arith
    go ih false = ih

pub quotient_lt : (a b : ℕ) → quotient a b < 256
unfolding quotient
quotient_lt a b = first_lt (λ c. eqb (product c b) a) 256 256 0 (lit< tt) (lit≤ tt)

pub quotient_product : (a b : ℕ) → a < 256 → 0 < b → b < 256 → product (quotient a b) b ≡ a
unfolding quotient
quotient_product a b ha p hb =
    eqb→eq (product (quotient a b) b) a
    (first_passes (λ c. eqb (product c b) a) 256 0 (product a (inverse b)) (product_lt a (inverse b))
    (subst (λ (c : ℕ). T (eqb (product c b) a)) (sym (zero-add (product a (inverse b))))
    (subst (λ (x : ℕ). T (eqb x a)) (sym back) (eqb_refl a))))
  where
    back : product (product a (inverse b)) b ≡ a
    back =
        product_assoc a (inverse b) b ∙ ap (product a) (inverse_product b p hb) ∙ product_one_r a ha

pub quotient_zero : (a : ℕ) → quotient a 0 ≡ 0
unfolding quotient first_from product
quotient_zero zero = refl
quotient_zero (suc a) =
    first_none (λ c. eqb (product c 0) (suc a)) (λ c. ap (λ (x : ℕ). eqb x (suc a)) (product_zero_r c) ∙ eqb-zero-suc a) 256 0

-- the quotient is the one byte whose product with b is a
pub quotient_unique : (a b c : ℕ) → a < 256 → 0 < b → b < 256 → c < 256 → product c b ≡ a → quotient a b ≡ c
quotient_unique a b c ha p hb hc e =
    product_cancel (quotient a b) c b (quotient_lt a b) hc p hb (quotient_product a b ha p hb ∙ sym e)

pub zero_quotient : (b : ℕ) → b < 256 → quotient 0 b ≡ 0
zero_quotient zero h = quotient_zero 0
zero_quotient (suc b) h = quotient_unique 0 (suc b) 0 (lit< tt) (zero-lt-suc b) h (lit< tt) (product_zero_l (suc b))

-- ---- what the code computes: the power of a sum, or of a difference, of logarithms

pub product_by_logs : (a b i j : ℕ) → 0 < a → 0 < b → Log a i → Log b j → power (i + j) ≡ product a b
product_by_logs a b i j p q la lb = sym (power_add i j) ∙ ap₂ product (la.rule p) (lb.rule q)

pub quotient_by_logs : (a b i j : ℕ) → 0 < a → a < 256 → 0 < b → b < 256 → Log a i → Log b j → power (i + 255 - j) ≡ quotient a b
quotient_by_logs a b i j p ha q hb la lb =
    sym (quotient_unique a b (power (i + 255 - j)) ha q hb (power_lt (i + 255 - j))
    (ap (product (power (i + 255 - j))) (sym (lb.rule q)) ∙ power_add (i + 255 - j) j ∙ ap power filled
    ∙ sym (power_add i 255) ∙ ap₂ product (la.rule p) power_255 ∙ product_one_r a ha))
  where
    filled : i + 255 - j + j ≡ i + 255
    filled = omega (arith, lb.small)
