-- Bytes put behind bytes.
-- Assumes nothing.
use mathlib.Core.Path.{◌≡◌, refl, sym, ap, ◌∙◌, subst}
use mathlib.Core.List.{List, [], ◌∷◌, ◌++◌}
use native.Mathlib.Decide.{dec_le}
use Prim.Native.Nat.{ℕ, suc, ◌+◌, ◌<◌, ◌≤◌, min}
use native.Mathlib.Nat.{add-zero, add-suc, suc-add}
use native.Mathlib.Omega.{arith}
use native.Mathlib.Numerals.{add-one}
use lib.ListN.{length, get_or, take, set, length-append}
use lib.Seq.{sets, length-sets, set_out, take-suc}
use Rattle.std.proofs.Common.{Option, Some, None}
use Rattle.replay_bytes.specs.Bytes.{Put, PutSome}

sets_append : (l xs ys : List ℕ) (i : ℕ) → sets l i (xs ++ ys) ≡ sets (sets l i xs) (i + length xs) ys
sets_append l [] ys i = ap (λ (k : ℕ). sets l k ys) (sym (add-zero i))
sets_append l (x ∷ xs) ys i = sets_append (set l i x) xs ys (suc i) ∙ ap (λ (k : ℕ). sets (sets (set l i x) (suc i) xs) k ys) (suc-add i (length xs) ∙ sym (add-suc i (length xs)))

-- behind the end nothing is stored
sets_out : (l ys : List ℕ) (i : ℕ) → length l ≤ i → sets l i ys ≡ l
sets_out l [] i h = refl
sets_out l (y ∷ ys) i h = ap (λ (k : List ℕ). sets k (suc i) ys) (set_out l i y h) ∙ sets_out l ys (suc i) (omega arith)

sets_clipped : (l ys : List ℕ) (n i : ℕ) → n ≡ length l → sets l (min n i) ys ≡ sets l i ys
sets_clipped l ys n i e = go (dec_le i n)
  where
    go : Dec (i ≤ n) → sets l (min n i) ys ≡ sets l i ys
    go (yes h) = ap (λ (k : ℕ). sets l k ys) (omega arith)
    go (no h) = sets_out l ys (min n i) (omega (arith, h)) ∙ sym (sets_out l ys i (omega (arith, h)))

-- nothing put leaves all as it was
pub put_none : (l : List ℕ) (place next : ℕ) → next ≡ min (length l) place → Put l place [] l next
put_none l place next e = record { holds = refl; goes_on = e ∙ ap (λ (k : ℕ). min (length l) k) (sym (add-zero place)) }

-- the same bytes, otherwise written
pub put_as : {l : List ℕ} {place : ℕ} {xs ys m : List ℕ} {i : ℕ} → Put l place xs m i → xs ≡ ys → Put l place ys m i
put_as {l} {place} {xs} {ys} {m} {i} p e = subst (λ (k : List ℕ). Put l place k m i) e p

pub some_as : (o : Option ℕ) (l : List ℕ) (place : ℕ) (m : List ℕ) {xs ys : List ℕ} → PutSome l place xs m o → xs ≡ ys → PutSome l place ys m o
some_as o l place m p e = subst (λ (k : List ℕ). PutSome l place k m o) e p

-- the memory keeps its length
pub same_long : {l : List ℕ} {place : ℕ} {xs m : List ℕ} {i : ℕ} → Put l place xs m i → length m ≡ length l
same_long {l} {place} {xs} p = ap length p.holds ∙ length-sets l place xs

-- bytes put behind bytes
pub put_more : {l : List ℕ} {place : ℕ} {xs m : List ℕ} {i : ℕ} {ys n : List ℕ} {j : ℕ} → Put l place xs m i → Put m i ys n j → Put l place (xs ++ ys) n j
put_more {l} {place} {xs} {m} {i} {ys} {n} {j} p q =
    let long : length m ≡ length l = same_long p in
    record {
      holds =
          q.holds
          ∙ ap (λ (k : ℕ). sets m k ys) p.goes_on
          ∙ ap (λ (k : List ℕ). sets k (min (length l) (place + length xs)) ys) p.holds
          ∙ sets_clipped (sets l place xs) ys (length l) (place + length xs) (sym (length-sets l place xs))
          ∙ sym (sets_append l xs ys place);
      goes_on = omega (arith, length-append xs ys, p.goes_on, q.goes_on);
    }

-- the same, where the place behind may be missing
pub some_more : (o : Option ℕ) (ys n : List ℕ) {l : List ℕ} {place : ℕ} {xs m : List ℕ} {i : ℕ} → Put l place xs m i → PutSome m i ys n o → PutSome l place (xs ++ ys) n o
some_more (Some j) ys n p q = put_more p q
some_more None ys n p q = q

-- the next byte of bytes that are put one after the other
pub put_next : (bs : List ℕ) (k : ℕ) {l : List ℕ} {place : ℕ} {m : List ℕ} {i : ℕ} {n : List ℕ} {j : ℕ} → Put l place (take k bs) m i → k < length bs → Put m i (get_or bs k 0 ∷ []) n j
    → Put l place (take (k + 1) bs) n j
put_next bs k p h q = put_as (put_more p q) (sym (ap (λ (i : ℕ). take i bs) (add-one k) ∙ take-suc bs k 0 h))

sets_cons : (x : ℕ) (l ys : List ℕ) (i : ℕ) → sets (x ∷ l) (suc i) ys ≡ x ∷ sets l i ys
sets_cons x l [] i = refl
sets_cons x l (y ∷ ys) i = sets_cons x (set l i y) ys (suc i)

set_front : (l ys : List ℕ) (x y : ℕ) → set (sets l 0 (x ∷ ys)) 0 y ≡ sets l 0 (y ∷ ys)
set_front [] ys x y = ap (λ (k : List ℕ). set k 0 y) (sets_out [] ys 1 (omega arith)) ∙ sym (sets_out [] ys 1 (omega arith))
set_front (a ∷ l) ys x y = ap (λ (k : List ℕ). set k 0 y) (sets_cons x l ys 0) ∙ sym (sets_cons y l ys 0)

-- a byte put over the first one
pub put_front : {l : List ℕ} {x : ℕ} {ys m : List ℕ} {i y : ℕ} {n : List ℕ} {j : ℕ} → Put l 0 (x ∷ ys) m i → Put m 0 (y ∷ []) n j → Put l 0 (y ∷ ys) n i
put_front {l} {x} {ys} {m} {i} {y} {n} {j} p q = record { holds = q.holds ∙ ap (λ (k : List ℕ). set k 0 y) p.holds ∙ set_front l ys x y; goes_on = p.goes_on }
