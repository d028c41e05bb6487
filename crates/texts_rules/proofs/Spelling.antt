-- The text of a number says the number, and is what `io::decimal` makes.
-- Assumes nothing.
use mathlib.Core.Bool.{Bool, true, false, cond}
use mathlib.Core.List.{List, [], ◌∷◌, ◌++◌}
use mathlib.Core.Path.{◌≡◌, refl, sym, ap, ap₂, ◌∙◌, subst}
use Prim.Native.Nat.{ℕ, zero, suc, ◌+◌, ◌-◌, ◌*◌, ◌/◌, ◌%◌, ◌^◌, ◌<◌, ◌≤◌}
use native.Mathlib.Nat.{pow-suc, pow-le-pow_right, lt_of_lt_of_le}
use native.Mathlib.Omega.{arith}
use lib.Dec.{ltb, lit<}
use lib.IntN.{ℤ, pos, negsuc, nat_abs}
use lib.ListN.{length, length-append}
use lib.Signed.{lt_z}
use borrow.Author.Tests.{ltb-true, ltb-false}
use Rattle.bits.proofs.Conds.{cond_lt, cond_ge, cond_cases}
use Rattle.io.specs.Digits.{last_digits, hex_digit_ascii, IsDigitCount}
use Rattle.texts_rules.specs.Decimal.{decimal_in, decimal, signed_decimal, said_from, said_by}

-- ---- the digits say the number

said_append : (a : ℕ) (xs ys : List ℕ) → said_from a (xs ++ ys) ≡ said_from (said_from a xs) ys
unfolding said_from
said_append a [] ys = refl
said_append a (x ∷ xs) ys = said_append (a * 10 + (x - 48)) xs ys

pub says_in : (k n : ℕ) → n < 10 ^ k → said_by (decimal_in k n) ≡ n
unfolding decimal_in said_from
says_in zero n h = omega arith
says_in (suc k) n h =
    let g : n < 10 ^ k * 10 = rw (pow-suc 10 k) at h in
    cond_cases (λ (l : List ℕ). said_by l ≡ n) (ltb n 10) ((48 + n) ∷ []) (decimal_in k (n / 10) ++ ((48 + n % 10) ∷ []))
    (λ t. omega arith)
    (λ t.
    let e : said_by (decimal_in k (n / 10)) ≡ n / 10 = says_in k (n / 10) (omega arith) in
    said_append 0 (decimal_in k (n / 10)) ((48 + n % 10) ∷ []) ∙ omega (arith, e))

-- ---- no zero in front

-- the first of two lists' elements, where the first list has any
first_of : (a : List ℕ) (x : ℕ) (ds rest : List ℕ) → a ++ rest ≡ x ∷ ds → (a ≡ [] → ⊥) → (b : List ℕ) × (a ≡ x ∷ b)
first_of [] x ds rest e n = absurd (n refl)
first_of (y ∷ a) x ds rest e n = (a, cc)

never_empty : (k n : ℕ) → 0 < n → n < 10 ^ k → decimal_in k n ≡ [] → ⊥
unfolding decimal_in said_from
never_empty k n h l e = let z : 0 ≡ n = sym (ap said_by e) ∙ says_in k n l in omega arith

pub no_zero_first : (k n : ℕ) (ds : List ℕ) → n < 10 ^ k → decimal_in k n ≡ 48 ∷ ds → n ≡ 0
unfolding decimal_in
no_zero_first zero n ds h = λ e. omega arith
no_zero_first (suc k) n ds h =
    let g : n < 10 ^ k * 10 = rw (pow-suc 10 k) at h in
    cond_cases (λ (l : List ℕ). l ≡ 48 ∷ ds → n ≡ 0) (ltb n 10) ((48 + n) ∷ []) (decimal_in k (n / 10) ++ ((48 + n % 10) ∷ []))
    (λ t e. let d : 48 + n ≡ 48 = cc in omega arith)
    (λ t e.
    let big : 10 ≤ n = ltb-false n 10 t in
    let top = first_of (decimal_in k (n / 10)) 48 ds ((48 + n % 10) ∷ []) e (never_empty k (n / 10) (omega arith) (omega arith)) in
    let z : n / 10 ≡ 0 = no_zero_first k (n / 10) top.0 (omega arith) top.1 in
    omega arith)

-- ---- the sign

first_in_lem : (a : List ℕ) (x d : ℕ) (ds : List ℕ) → a ++ (x ∷ []) ≡ d ∷ ds → 48 ≤ x → ((es : List ℕ) → a ≡ d ∷ es → 48 ≤ d) → 48 ≤ d
first_in_lem [] x d ds e h f = let same : x ≡ d = cc in omega arith
first_in_lem (y ∷ a) x d ds e h f = f a (cc)

-- a digit is no minus sign, which is 45
first_digit : (k n d : ℕ) (ds : List ℕ) → decimal_in k n ≡ d ∷ ds → 48 ≤ d
unfolding decimal_in
first_digit zero n d ds = λ e. let z : ◌≡◌ {A = ℕ} 0 1 = cc in absurd (omega arith)
first_digit (suc k) n d ds =
    cond_cases (λ (l : List ℕ). l ≡ d ∷ ds → 48 ≤ d) (ltb n 10) ((48 + n) ∷ []) (decimal_in k (n / 10) ++ ((48 + n % 10) ∷ []))
    (λ t e. let same : 48 + n ≡ d = cc in omega arith)
    (λ t e. first_in_lem (decimal_in k (n / 10)) (48 + n % 10) d ds e (omega arith) (λ es. first_digit k (n / 10) d es))

decimal_apart : (a b : ℕ) → a < 10 ^ 20 → b < 10 ^ 20 → decimal a ≡ decimal b → a ≡ b
decimal_apart a b h k e = sym (says_in 20 a h) ∙ ap said_by e ∙ says_in 20 b k

pub signed_apart : (a b : ℤ) → nat_abs a < 10 ^ 20 → nat_abs b < 10 ^ 20 → signed_decimal a ≡ signed_decimal b → a ≡ b
signed_apart (pos a) (pos b) h k e = ap pos (decimal_apart a b h k e)
signed_apart (pos a) (negsuc b) h k e = absurd (omega (arith, first_digit 20 a 45 _ e))
signed_apart (negsuc a) (pos b) h k e = absurd (omega (arith, first_digit 20 b 45 _ (sym e)))
signed_apart (negsuc a) (negsuc b) h k e = let same : decimal (suc a) ≡ decimal (suc b) = cc in ap negsuc (omega (arith, decimal_apart (suc a) (suc b) h k same))

-- ---- what `io::decimal` makes

fewest_one : (k n : ℕ) → n < 10 → IsDigitCount 10 1 n (suc k) → k ≡ 0
fewest_one zero n h f = refl
fewest_one (suc k) n h f =
    let same : suc (suc k) - 1 ≡ suc k = omega arith in
    let low : 10 ^ suc k ≤ n = rw same at (f.2 (omega arith)) in
    let p : 10 ^ 1 ≤ 10 ^ suc k = pow-le-pow_right (lit< tt) {i = 1} {j = suc k} (omega arith) in
    absurd (omega arith)

pub fewest_digits : (k j n : ℕ) → k ≤ j → IsDigitCount 10 1 n k → last_digits 10 k n ≡ decimal_in j n
unfolding decimal_in
fewest_digits zero j n l f = absurd (omega (arith, f.0))
fewest_digits (suc k) zero n l f = absurd (omega arith)
fewest_digits (suc k) (suc j) n l f =
    cond_cases (λ (t : List ℕ). last_digits 10 k (n / 10) ++ (hex_digit_ascii (n % 10) ∷ []) ≡ t) (ltb n 10) ((48 + n) ∷ []) (decimal_in j (n / 10) ++ ((48 + n % 10) ∷ []))
    (λ t.
    let small : n < 10 = ltb-true n 10 t in
    let none : k ≡ 0 = fewest_one k n small f in
    let m : n % 10 ≡ n = omega arith in
    ap (λ (i : ℕ). last_digits 10 i (n / 10) ++ (hex_digit_ascii (n % 10) ∷ [])) none ∙ ap (λ (x : ℕ). hex_digit_ascii x ∷ []) m ∙ ap (λ (x : ℕ). x ∷ []) (cond_lt n 10 (48 + n) (87 + n) small))
    (λ t.
    let big : 10 ≤ n = ltb-false n 10 t in
    let top : n < 10 ^ k * 10 = rw (pow-suc 10 k) at f.1 in
    let more : 0 < k = pos k top big in
    let same : suc k - 1 ≡ k = omega arith in
    let least : 10 ^ k ≤ n = rw same at (f.2 (omega arith)) in
    ap₂ (λ (a : List ℕ) (x : ℕ). a ++ (x ∷ [])) (fewest_digits k j (n / 10) (omega arith) (more, div_lt k top, λ h. low k n h least)) (cond_lt (n % 10) 10 (48 + n % 10) (87 + n % 10) (omega arith)))
  where
    div_lt : (k : ℕ) → n < 10 ^ k * 10 → n / 10 < 10 ^ k
    div_lt k a = omega arith

    pos : (k : ℕ) → n < 10 ^ k * 10 → 10 ≤ n → 0 < k
    pos zero a b = absurd (omega arith)
    pos (suc k) a b = omega arith

    low : (k n : ℕ) → 1 < k → 10 ^ k ≤ n → 10 ^ (k - 1) ≤ n / 10
    low zero n h g = absurd (omega arith)
    low (suc k) n h g =
        let e : 10 ^ k * 10 ≤ n = rw (pow-suc 10 k) at g in
        let same : suc k - 1 ≡ k = omega arith in
        rw same (omega arith)

-- a number of 64 bits has at most twenty digits
pub fewest_twenty : (k n : ℕ) → n < 2 ^ 64 → IsDigitCount 10 1 n k → k ≤ 20
fewest_twenty k n h f = go (ltb 20 k) refl
  where
    go : (t : Bool) → ltb 20 k ≡ t → k ≤ 20
    go true e =
        let big : 20 < k = ltb-true 20 k e in
        let p : 10 ^ 20 ≤ 10 ^ (k - 1) = pow-le-pow_right (lit< tt) {i = 20} {j = k - 1} (omega arith) in
        let l : 10 ^ (k - 1) ≤ n = f.2 (omega arith) in
        absurd (omega arith)
    go false e = ltb-false 20 k e
