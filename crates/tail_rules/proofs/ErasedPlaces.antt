-- Which places may be erased: the test as the code runs it, and that it is the document's proposition.
-- Assumes nothing.
use mathlib.Core.Bool.{Bool, true, false, not, ◌&&◌, ◌||◌, false≢true}
use mathlib.Core.List.{List, [], ◌∷◌}
use mathlib.Core.Path.{◌≡◌, refl, sym, ap, ap₂, subst, ◌∙◌}
use Prim.Native.Nat.{ℕ, zero, suc, ◌+◌, ◌<◌, ◌≤◌}
use native.Mathlib.Decide.{dec_le}
use native.Mathlib.Nat.{not-suc-le-zero, le_of_suc-le-suc}
use native.Mathlib.Omega.{arith}
use lib.Dec.{leb, eqb}
use lib.ListN.{length, get_or, drop}
use borrow.Author.Tests.{le-leb, lt-leb, leb-true, leb-false, eqb-true, eq-eqb}
use Rattle.bits.specs.Bit.{Below}
use Rattle.bits.proofs.Belows.{below_none, below_cons}
use Rattle.tail_rules.specs.Code.{among}
use Rattle.tail_rules.proofs.Loops.{cut, drop_end}
use Rattle.tail_rules.specs.Calls.{each_once, erasable, NotErasable, many, above, twice}

-- ---- the loop, from place i on

once_by : (es : List ℕ) (i : ℕ) (a b : Bool) → i < length es → leb (get_or es i 0) 13 ≡ a → among (get_or es i 0) (drop (i + 1) es) ≡ b
    → each_once (drop i es) ≡ (a && not b && each_once (drop (i + 1) es))
unfolding each_once
once_by es i a b h p q =
    ap each_once (cut es i h) ∙ ap₂ (λ (x y : Bool). x && not y && each_once (drop (i + 1) es)) p q

module _ (es : List ℕ) (i e : ℕ) (h : i < length es) (q : e ≡ get_or es i 0) where
  pub once_high : 13 < e → each_once (drop i es) ≡ false
  once_high l = once_by es i false (among (get_or es i 0) (drop (i + 1) es)) h (lt-leb (get_or es i 0) 13 (subst (λ (k : ℕ). 13 < k) q l)) refl

  low : e ≤ 13 → leb (get_or es i 0) 13 ≡ true
  low l = le-leb (get_or es i 0) 13 (subst (λ (k : ℕ). k ≤ 13) q l)

  later : (b : Bool) → among e (drop (i + 1) es) ≡ b → among (get_or es i 0) (drop (i + 1) es) ≡ b
  later b a = ap (λ (k : ℕ). among k (drop (i + 1) es)) (sym q) ∙ a

  pub once_twice : e ≤ 13 → among e (drop (i + 1) es) ≡ true → each_once (drop i es) ≡ false
  once_twice l a = once_by es i true true h (low l) (later true a)

  pub once_later : e ≤ 13 → among e (drop (i + 1) es) ≡ false → each_once (drop i es) ≡ each_once (drop (i + 1) es)
  once_later l a = once_by es i true false h (low l) (later false a)

pub once_end : (es : List ℕ) (i : ℕ) → length es ≤ i → each_once (drop i es) ≡ true
unfolding each_once
once_end es i h = ap each_once (drop_end es i h)

pub erasable_few : (es : List ℕ) → length es ≤ 6 → erasable es ≡ each_once es
unfolding erasable
erasable_few es h = ap (λ (b : Bool). b && each_once es) (le-leb (length es) 6 h)

pub erasable_many : (es : List ℕ) → 6 < length es → erasable es ≡ false
unfolding erasable
erasable_many es h = ap (λ (b : Bool). b && each_once es) (lt-leb (length es) 6 h)

-- ---- what a yes says

pub few_of : (es : List ℕ) → erasable es ≡ true → length es ≤ 6
few_of es e = go (dec_le (length es) 6)
  where
    go : Dec (length es ≤ 6) → length es ≤ 6
    go (yes l) = l
    go (no l) = absurd (false≢true (sym (erasable_many es (omega (arith, l))) ∙ e))

pub once_of : (es : List ℕ) → erasable es ≡ true → each_once es ≡ true
once_of es e = sym (erasable_few es (few_of es e)) ∙ e

pub record Head (e : ℕ) (es : List ℕ) : Type 0 where
  pub low : e < 14
  pub new : among e es ≡ false
  pub rest : each_once es ≡ true

pub head_of : (e : ℕ) (es : List ℕ) → each_once (e ∷ es) ≡ true → Head e es
unfolding each_once
head_of e es h = go (leb e 13) (among e es) refl refl h
  where
    go : (a b : Bool) → leb e 13 ≡ a → among e es ≡ b → (a && not b && each_once es) ≡ true → Head e es
    go true true p q r = absurd (false≢true r)
    go true false p q r = let l : e ≤ 13 = leb-true e 13 p in record { low = omega arith; new = q; rest = r }
    go false true p q r = absurd (false≢true r)
    go false false p q r = absurd (false≢true r)

inside : (es : List ℕ) → each_once es ≡ true → Below 14 es
inside [] h = below_none 14 (omega arith)
inside (e ∷ es) h = let v = head_of e es h in below_cons v.low (inside es v.rest)

pub inside_of : (es : List ℕ) → erasable es ≡ true → Below 14 es
inside_of es e = inside es (once_of es e)

-- ---- among, by places

pub among_at : (x : ℕ) (es : List ℕ) (j : ℕ) → j < length es → x ≡ get_or es j 0 → among x es ≡ true
among_at x [] j l e = absurd (not-suc-le-zero l)
among_at x (y ∷ es) zero l e = ap (λ (b : Bool). b || among x es) (eq-eqb x y e)
among_at x (y ∷ es) (suc j) l e = or_right (eqb x y) (among_at x es j (le_of_suc-le-suc l) e)
  where
    or_right : (b : Bool) {c : Bool} → c ≡ true → (b || c) ≡ true
    or_right true h = refl
    or_right false h = h

among_where : (x : ℕ) (es : List ℕ) → among x es ≡ true → (j : ℕ) × (j < length es) × (x ≡ get_or es j 0)
among_where x [] h = absurd (false≢true h)
among_where x (y ∷ es) h = go (eqb x y) refl h (among_where x es)
  where
    go : (b : Bool) → eqb x y ≡ b → (b || among x es) ≡ true → (among x es ≡ true → (j : ℕ) × (j < length es) × (x ≡ get_or es j 0))
        → (j : ℕ) × (j < length (y ∷ es)) × (x ≡ get_or (y ∷ es) j 0)
    go true p q ih = (0, omega arith, eqb-true x y p)
    go false p q ih = let w = ih q in (suc w.0, omega (arith, w.1), w.2)

-- ---- refusal 11 as a proposition

distinct : (es : List ℕ) → each_once es ≡ true → (i j : ℕ) → i < j → j < length es → ¬ (get_or es i 0 ≡ get_or es j 0)
distinct [] h i j l k e = not-suc-le-zero k
distinct (x ∷ es) h i zero l k e = not-suc-le-zero l
distinct (x ∷ es) h zero (suc j) l k e = false≢true (sym (head_of x es h).new ∙ among_at x es j (le_of_suc-le-suc k) e)
distinct (x ∷ es) h (suc i) (suc j) l k e = distinct es (head_of x es h).rest i j (le_of_suc-le-suc l) (le_of_suc-le-suc k) e

no_yes : (es : List ℕ) → NotErasable es → ¬ (erasable es ≡ true)
no_yes es (many l) e = absurd (omega (arith, l, few_of es e))
no_yes es (above i l h) e = absurd (omega (arith, h, (inside_of es e).at i))
no_yes es (twice i j l k q) e = distinct es (once_of es e) i j l k q

pub erasable_not : (es : List ℕ) → NotErasable es → erasable es ≡ false
erasable_not es n = go (erasable es) refl
  where
    go : (b : Bool) → erasable es ≡ b → b ≡ false
    go true e = absurd (no_yes es n e)
    go false e = refl

further : (e : ℕ) (es : List ℕ) → NotErasable es → NotErasable (e ∷ es)
further e es (many l) = many (omega (arith, l))
further e es (above i l h) = above (suc i) (omega (arith, l)) h
further e es (twice i j l k q) = twice (suc i) (suc j) (omega (arith, l)) (omega (arith, k)) q

not_once : (es : List ℕ) → each_once es ≡ false → NotErasable es
unfolding each_once
not_once [] h = absurd (false≢true (sym h))
not_once (e ∷ es) h = go (leb e 13) (among e es) refl refl h (not_once es)
  where
    go : (a b : Bool) → leb e 13 ≡ a → among e es ≡ b → (a && not b && each_once es) ≡ false → (each_once es ≡ false → NotErasable es) → NotErasable (e ∷ es)
    go false b p q r ih = above 0 (omega arith) (leb-false e 13 p)
    go true true p q r ih = let w = among_where e es q in twice 0 (suc w.0) (omega arith) (omega (arith, w.1)) w.2
    go true false p q r ih = further e es (ih r)

pub not_erasable : (es : List ℕ) → erasable es ≡ false → NotErasable es
not_erasable es e = go (dec_le (length es) 6)
  where
    go : Dec (length es ≤ 6) → NotErasable es
    go (yes l) = not_once es (sym (erasable_few es l) ∙ e)
    go (no l) = many (omega (arith, l))
