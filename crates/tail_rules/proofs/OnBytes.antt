-- Berlekamp-Massey on numbers is Berlekamp-Massey on the bytes that they are.
-- Assumes nothing.
use mathlib.Core.Bool.{◌||◌, Bool, true, false, false≢true}
use mathlib.Core.Path.{◌≡◌, refl, sym, ap, ap₂, ◌∙◌}
use mathlib.Core.List.{List, [], ◌∷◌}
use Prim.Native.Nat.{ℕ, zero, suc, ◌+◌, ◌*◌, ◌-◌, ◌<◌, ◌≤◌}
use native.Mathlib.Numerals.{add-one}
use native.Mathlib.Decide.{dec_le}
use native.Mathlib.Omega.{arith}
use lib.Dec.{eqb}
use lib.Bits.{bit_xor}
use lib.ListN.{get_or, replicate, length}
use borrow.Author.Tests.{eq-eqb, ne_eqb, le-leb, lt-leb, eqb-true, eqb-false}
use Rattle.bits.specs.Bit.{Below}
use Rattle.bits.proofs.Belows.{below_rest}
use Rattle.field_rules.specs.Field.{product, power}
use Rattle.field_rules.proofs.Products.{power_lt, power_add, power_255}
use Rattle.field_rules.proofs.Laws.{power_distinct}
use Rattle.bits.specs.Alls.{All}
use Rattle.tail_algebra.proofs.Erasures.{gamma, gamma_root, gamma_root_more, gamma_live}
use Rattle.tail_algebra.proofs.Polynomial.{upd, eval}
use Rattle.tail_algebra.proofs.Massey.{conv}
use Rattle.tail_algebra.proofs.Locate.{State, corrected, stepped, run}
use Rattle.tail_algebra.proofs.Bytes.{Byte, byte_eq, gf, X, zero_lt}
use Rattle.tail_rules.specs.Code.{among}
use Rattle.tail_rules.specs.Steps.{eval_at, erasure_locator}
use Rattle.tail_rules.specs.Massey as N

abbrev pub low : List Byte → List ℕ
low [] = []
low (b ∷ bs) = b.0 ∷ low bs

cons : {x y : ℕ} {xs ys : List ℕ} → x ≡ y → xs ≡ ys → ◌≡◌ {A = List ℕ} (x ∷ xs) (y ∷ ys)
cons p q = ap₂ (λ (x : ℕ) (xs : List ℕ). x ∷ xs) p q

upd_low : (C : List Byte) (g : ℕ) (k : Byte) (B : List Byte) → low (upd gf C g k B) ≡ N.updated (low C) g k.0 (low B)
unfolding upd N.updated
upd_low [] g k B = refl
upd_low (c ∷ cs) zero k [] = refl
upd_low (c ∷ cs) zero k (b ∷ bs) = cons refl (upd_low cs zero k bs)
upd_low (c ∷ cs) (suc g) k B = cons refl (upd_low cs g k B)

pub conv_low : (C : List Byte) (s : ℕ → Byte) (sn : List ℕ) (n : ℕ) → ((k : ℕ) → k ≤ n → (s k).0 ≡ get_or sn k 0) → (conv gf C s n).0 ≡ N.coefficient (low C) sn n
unfolding conv N.coefficient
conv_low [] s sn n h = refl
conv_low (c ∷ cs) s sn zero h = ap (λ (x : ℕ). product c.0 x) (h 0 (omega arith))
conv_low (c ∷ cs) s sn (suc n) h =
    ap₂ bit_xor (ap (λ (x : ℕ). product c.0 x) (h (suc n) (omega arith))) (conv_low cs s sn n (λ k l. h k (omega arith)))

abbrev pub down : State gf → N.State
down st = N.state (low st.loc) (low st.old) st.degree st.gap st.last.0

by : {a b a' b' : Bool} (n : ℕ) (st : N.State) (d : ℕ) → a ≡ a' → b ≡ b' → N.step_by a b n st d ≡ N.step_by a' b' n st d
by n st d p q = ap₂ (λ x y. N.step_by x y n st d) p q

corrected_low : (n : ℕ) (st : State gf) (d : Byte) → ¬ (d.0 ≡ 0) → (q : Dec (st.degree + st.degree ≤ n)) → down (corrected gf n st d q) ≡ N.step n (down st) d.0
unfolding N.step N.step_by
corrected_low n st d e (yes l) =
    ap (λ (x : List ℕ). N.state x (low st.loc) (n + 1 - st.degree) 1 d.0) (upd_low st.loc st.gap (gf.◌⊘◌ d st.last) st.old)
    ∙ sym (by n (down st) d.0 (ne_eqb d.0 0 e) (le-leb (2 * st.degree) n (omega arith)))
corrected_low n st d e (no l) =
    ap₂ (λ (x : List ℕ) (g : ℕ). N.state x (low st.old) st.degree g st.last.0) (upd_low st.loc st.gap (gf.◌⊘◌ d st.last) st.old) (sym (add-one st.gap))
    ∙ sym (by n (down st) d.0 (ne_eqb d.0 0 e) (lt-leb (2 * st.degree) n (omega (arith, l))))

stepped_low : (n : ℕ) (st : State gf) (d : Byte) (q : Dec (d ≡ (0, zero_lt))) → down (stepped gf n st d q) ≡ N.step n (down st) d.0
unfolding N.step N.step_by
stepped_low n st d (yes q) =
    ap (λ (g : ℕ). N.state (low st.loc) (low st.old) st.degree g st.last.0) (sym (add-one st.gap))
    ∙ sym (by n (down st) d.0 (eq-eqb d.0 0 (ap (λ (x : Byte). x.0) q)) refl)
stepped_low n st d (no q) = corrected_low n st d (λ e. q (byte_eq e)) (dec_le (st.degree + st.degree) n)

zeros_low : (n : ℕ) → low (replicate n (0, zero_lt)) ≡ replicate n 0
zeros_low zero = refl
zeros_low (suc n) = cons refl (zeros_low n)

pub run_low : (s : ℕ → Byte) (sn : List ℕ) (len : ℕ) → ((k : ℕ) → k < len → (s k).0 ≡ get_or sn k 0) → (n : ℕ) → n ≤ len → down (run gf 6 s n) ≡ N.run sn n
unfolding run N.run
run_low s sn len h zero l = ap (λ (x : List ℕ). N.state x x 0 1 1) (cons refl (zeros_low 6))
run_low s sn len h (suc n) l =
    stepped_low n (run gf 6 s n) (conv gf (run gf 6 s n).loc s n) (gf.zero? (conv gf (run gf 6 s n).loc s n))
    ∙ ap₂ (λ (x : N.State) (d : ℕ). N.step n x d) (run_low s sn len h n (omega arith))
    (conv_low (run gf 6 s n).loc s sn n (λ k q. h k (omega arith)) ∙ ap (λ (x : N.State). N.coefficient x.loc sn n) (run_low s sn len h n (omega arith)))

pub eval_low : (C : List Byte) (z : Byte) → (eval gf C z).0 ≡ eval_at (low C) z.0
unfolding eval eval_at
eval_low [] z = refl
eval_low (c ∷ cs) z = ap (λ (y : ℕ). bit_xor c.0 (product z.0 y)) (eval_low cs z)

-- ---- the erasure locator

-- the inverse of a place's node
abbrev pub Z : ℕ → Byte
Z p = (power (255 - (13 - p)), power_lt (255 - (13 - p)))

pub XZ : (p : ℕ) → gf.◌⊗◌ (X p) (Z p) ≡ gf.𝟙
XZ p = byte_eq (power_add (13 - p) (255 - (13 - p)) ∙ ap power (whole_turn p) ∙ power_255)
  where
    whole_turn : (p : ℕ) → 13 - p + (255 - (13 - p)) ≡ 255
    whole_turn p = omega arith

pub gamma_low : (es : List ℕ) → low (gamma gf X Z XZ 6 es) ≡ erasure_locator es
unfolding gamma erasure_locator
gamma_low [] = cons refl (zeros_low 6)
gamma_low (e ∷ es) =
    upd_low (gamma gf X Z XZ 6 es) 1 (X e) (gamma gf X Z XZ 6 es)
    ∙ ap (λ (l : List ℕ). N.updated l 1 (power (13 - e)) l) (gamma_low es)

-- an erased place is a root of it, another is none
pub erased_root : (p : ℕ) (es : List ℕ) → length es ≤ 6 → among p es ≡ true → eval gf (gamma gf X Z XZ 6 es) (Z p) ≡ gf.𝟘
erased_root p [] l h = absurd (false≢true h)
erased_root p (e ∷ es) l h = go (eqb p e) refl h (erased_root p es (omega arith))
  where
    go : (b : Bool) → eqb p e ≡ b → b || among p es ≡ true → (among p es ≡ true → eval gf (gamma gf X Z XZ 6 es) (Z p) ≡ gf.𝟘)
        → eval gf (gamma gf X Z XZ 6 (e ∷ es)) (Z p) ≡ gf.𝟘
    go true q r ih = ap (λ (k : ℕ). eval gf (gamma gf X Z XZ 6 (e ∷ es)) (Z k)) (eqb-true p e q) ∙ gamma_root gf X Z XZ 6 e es l
    go false q r ih = gamma_root_more gf X Z XZ 6 p e es l (ih r)

same_place : (q p : ℕ) → q < 14 → p < 14 → 13 - q ≡ 13 - p → p ≡ q
same_place q p a b e = omega arith

apart : (p : ℕ) → p < 14 → (es : List ℕ) → Below 14 es → among p es ≡ false → All (λ q. ¬ (X q ≡ X p)) es
apart p l [] i h = tt
apart p l (e ∷ es) i h = go (eqb p e) refl h (apart p l es (below_rest i))
  where
    go : (b : Bool) → eqb p e ≡ b → b || among p es ≡ false → (among p es ≡ false → All (λ q. ¬ (X q ≡ X p)) es)
        → All (λ q. ¬ (X q ≡ X p)) (e ∷ es)
    go true q r ih = absurd (false≢true (sym r))
    go false q r ih = (
      (λ x. eqb-false p e q (same_place e p (i.at 0) l (power_distinct (13 - e) (13 - p) (omega arith) (omega arith) (ap (λ (y : Byte). y.0) x)))),
      ih r,
    )

pub other_live : (p : ℕ) → p < 14 → (es : List ℕ) → length es ≤ 6 → Below 14 es → among p es ≡ false → ¬ (eval gf (gamma gf X Z XZ 6 es) (Z p) ≡ gf.𝟘)
other_live p l es f i h = gamma_live gf X Z XZ 6 p es f (apart p l es i h)
