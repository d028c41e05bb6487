-- A test as code takes it: x is what was tested, t what it stands for. Laws of `cond` and `◌&&◌` by the way that was taken.
-- Assumes nothing.
use mathlib.Core.Path.{◌≡◌, refl, sym, ◌∙◌}
use mathlib.Core.Bool.{Bool, true, false, true≢false, cond, ◌&&◌}

pub cond_yes : {A : Type 0} (t x : Bool) (a b : A) → x ≡ t → x ≡ true → a ≡ cond t a b
cond_yes true x a b p q = refl
cond_yes false x a b p q = absurd (true≢false (sym q ∙ p))

pub cond_no : {A : Type 0} (t x : Bool) (a b : A) → x ≡ t → x ≡ false → b ≡ cond t a b
cond_no true x a b p q = absurd (true≢false (sym p ∙ q))
cond_no false x a b p q = refl

-- three tests in a row: the first two passed and the third decides, the second failed, the first failed
pub and_ttx : (a b c x y z : Bool) → x ≡ a → x ≡ true → y ≡ b → y ≡ true → z ≡ c → z ≡ (a && (b && c))
and_ttx true true c x y z p p' q q' r = r
and_ttx true false c x y z p p' q q' r = cc
and_ttx false b c x y z p p' q q' r = cc

pub and_tf : (a b c x y : Bool) → x ≡ a → x ≡ true → y ≡ b → y ≡ false → false ≡ (a && (b && c))
and_tf true true c x y p p' q q' = cc
and_tf true false c x y p p' q q' = refl
and_tf false b c x y p p' q q' = refl

pub and_f : (a b x : Bool) → x ≡ a → x ≡ false → false ≡ (a && b)
and_f true b x p q = cc
and_f false b x p q = refl

pub and_like : (a b c a' b' c' : Bool) → a ≡ a' → b ≡ b' → c ≡ c' → (a && (b && c)) ≡ (a' && (b' && c'))
and_like a b c a' b' c' p q r = cc
