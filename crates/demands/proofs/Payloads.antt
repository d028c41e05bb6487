-- Payloads for demand 2: encoding reads 158 bits, and an accepted payload's encoding is one that the call leaves.
-- Assumes nothing.
use Rattle.std.proofs.Common.{Result, Ok, Err}
use mathlib.Core.Bool.{Bool, true, false, cond, ◌&&◌}
use mathlib.Core.List.{List}
use mathlib.Core.Logic.{◌⊎◌, inl, inr}
use mathlib.Core.Path.{◌≡◌, refl, sym, ap, ap₂, ◌∙◌, subst}
use Prim.Native.Nat.{ℕ, zero, suc, ◌+◌, ◌-◌, ◌*◌, ◌/◌, ◌%◌, ◌<◌, ◌≤◌}
use native.Mathlib.Decide.{dec_lt}
use native.Mathlib.Omega.{arith}
use lib.Dec.{eqb, ltb}
use lib.ListN.{length, get_or, length-set}
use lib.Seq.{get_or-set_same, get_or-set_other}
use borrow.Author.Tests.{eq-eqb}
use Rattle.bits.specs.Bit.{digit, bit_lo, Bytes}
use Rattle.bits.specs.declared.Refusal.TheVariants.{Size, Table}
use Rattle.bits.proofs.Conds.{cond_lt, cond_ge}
use Rattle.bits.proofs.Digits.{number_ext}
use Rattle.bits.proofs.Tabs.{tab_ext}
use Rattle.bits.proofs.Xor.{bit_cases}
use Rattle.coding_rules.specs.Scramble.{descrambled, scrambled}
use Rattle.protected_rules.specs.Checksum.{input_of}
use Rattle.protected_rules.specs.Table.{Admitted, admits}
use Rattle.protected_rules.specs.Word.{Payload, front_byte, front}
use Rattle.protected_rules.proofs.Admission.{admits_admitted, admitted_admits}
use Rattle.protected_rules.proofs.InputBits.{input_ext}
use Rattle.voice_rules.specs.declared.Stage.{Stage}
use Rattle.bits.specs.declared.Refusal.{Refusal}
use Rattle.voice_rules.specs.declared.Speech.{Speech}
use Rattle.voice_rules.specs.Calls.{encode_answer, encode_leaves, payload_in, accepted, answered, decode_answer}
use Rattle.voice_rules.specs.Encoded.{joined, encoded_word}
use Rattle.voice_rules.specs.Hard.{decoded_word}
use Rattle.voice_rules.specs.Statements.{RoundTrip, Encodes, ExactDistance, Injective}
use Rattle.voice_rules.specs.Trial.{Outcome}
use Rattle.voice_rules.proofs.ComesBack.{there_again}
use Rattle.demands.specs.Demand2.{cleared, Differs, Demand2, EncodedAndDecoded, DecodedAndEncoded}

-- ---- the top two bits of byte 19

low_digit : (v j : ℕ) → j < 6 → digit (v % 64) j ≡ digit v j
low_digit v zero h = omega arith
low_digit v (suc zero) h = omega arith
low_digit v (suc (suc zero)) h = omega arith
low_digit v (suc (suc (suc zero))) h = omega arith
low_digit v (suc (suc (suc (suc zero)))) h = omega arith
low_digit v (suc (suc (suc (suc (suc zero))))) h = omega arith
low_digit v (suc (suc (suc (suc (suc (suc j)))))) h = absurd (omega arith)

cond_same : (a b : ℕ) (x x' y y' : ℕ) → (a < b → x ≡ x') → (b ≤ a → y ≡ y') → cond (ltb a b) x y ≡ cond (ltb a b) x' y'
cond_same a b x x' y y' p q = go (dec_lt a b)
  where
    go : Dec (a < b) → cond (ltb a b) x y ≡ cond (ltb a b) x' y'
    go (yes l) = cond_lt a b x y l ∙ p l ∙ sym (cond_lt a b x' y' l)
    go (no l) = let g : b ≤ a = omega arith in cond_ge a b x y g ∙ q g ∙ sym (cond_ge a b x' y' g)

-- what is made of 158 bits is the same for payloads that have the same
module _ (p q : List ℕ) (same : (i : ℕ) → i < 158 → bit_lo p i ≡ bit_lo q i) where
  front_same : front p ≡ front q
  unfolding front front_byte
  front_same =
      tab_ext 42 (front_byte p) (front_byte q) (λ k h.
      cond_same k 5 _ _ _ _ (λ l. number_ext 8 _ _ (λ j m. same (78 + (8 * k + j)) (omega arith))) (λ l.
      cond_same k 16 0 0 _ _ (λ m. refl) (λ m.
      cond_same k 21 _ _ 0 0 (λ n. number_ext 8 _ _ (λ j o. same (118 + (8 * (k - 16) + j)) (omega arith))) (λ n. refl))))

  input_same : input_of p ≡ input_of q
  input_same = input_ext p q (λ i h. same i (omega arith))

  word_same : (table : List ℕ) (flag : ℕ) → encoded_word table p flag ≡ encoded_word table q flag
  unfolding encoded_word
  word_same table flag = ap₂ (λ (f x : List ℕ). joined table f x flag) front_same input_same

module _ (p : List ℕ) (long : length p ≡ 20) where
  cleared_top : get_or (cleared p) 19 0 ≡ get_or p 19 0 % 64
  cleared_top = get_or-set_same p 19 (get_or p 19 0 % 64) 0 (omega arith)

  cleared_bit : (i : ℕ) → i < 158 → bit_lo p i ≡ bit_lo (cleared p) i
  cleared_bit i h = go (dec_lt (i / 8) 19)
    where
      go : Dec (i / 8 < 19) → bit_lo p i ≡ bit_lo (cleared p) i
      go (yes l) = ap (λ (v : ℕ). digit v (i % 8)) (sym (get_or-set_other p 19 (i / 8) (get_or p 19 0 % 64) 0 (λ e. omega arith)))
      go (no l) =
          let e : i / 8 ≡ 19 = omega arith in
          ap (λ (k : ℕ). digit (get_or p k 0) (i % 8)) e
          ∙ sym (low_digit (get_or p 19 0) (i % 8) (omega arith))
          ∙ ap (λ (v : ℕ). digit v (i % 8)) (sym cleared_top)
          ∙ ap (λ (k : ℕ). digit (get_or (cleared p) k 0) (i % 8)) (sym e)

  pub cleared_leaves : (table : List ℕ) (a : Bool) (e : List ℕ) → encode_leaves table p a e ≡ encode_leaves table (cleared p) a e
  unfolding encode_leaves
  cleared_leaves table a e =
      ap₂ (λ (n : ℕ) (w : List ℕ). cond (eqb n 20 && eqb (length e) 48) (cond (admits table) (scrambled w) e) e)
      (sym (length-set p 19 (get_or p 19 0 % 64))) (word_same p (cleared p) cleared_bit table (cond a 1 0))

  pub cleared_payload : Bytes p → Payload (cleared p)
  cleared_payload b =
      record {
        long = length-set p 19 (get_or p 19 0 % 64) ∙ long;
        bytes = record { at = λ k. at_byte k (dec_lt k 19) (dec_lt 19 k) };
        top = omega (arith, cleared_top);
      }
    where
      at_byte : (k : ℕ) → Dec (k < 19) → Dec (19 < k) → get_or (cleared p) k 0 < 256
      at_byte k (yes l) m = rw (get_or-set_other p 19 k (get_or p 19 0 % 64) 0 (λ e. omega arith)) (b.at k)
      at_byte k (no l) (yes m) = rw (get_or-set_other p 19 k (get_or p 19 0 % 64) 0 (λ e. omega arith)) (b.at k)
      at_byte k (no l) (no m) =
          let e : k ≡ 19 = omega arith in
          rw e (omega (arith, cleared_top))

-- ---- an accepted payload's encoding

small : (a : Bool) → cond a 1 0 < 2
small true = omega arith
small false = omega arith

-- the word of what encoding leaves
left_word : (table : List ℕ) → Admitted table → (p : List ℕ) → Payload p → (a : Bool) (e : List ℕ) → length e ≡ 48
    → descrambled (encode_leaves table p a e) ≡ encoded_word table p (cond a 1 0)
unfolding encode_leaves
left_word table t p q a e h =
    simp (eq-eqb (length p) 20 q.long, eq-eqb (length e) 48 h, admitted_admits table t) (there_again table t p q (cond a 1 0) (small a))

-- what is accepted, is so with an admitted table
was_admitted : (t u : Bool) (o : Outcome) (s : Stage) (n : ℕ) (p : List ℕ)
    → cond t (cond u (answered o) (Err Table)) (Err Size) ≡ accepted s n p → u ≡ true
was_admitted t true o s n p e = refl
was_admitted true false o s n p e =
    let z : ◌≡◌ {A = ℕ} 0 1 = cc in absurd (omega arith)
was_admitted false false o s n p e =
    let z : ◌≡◌ {A = ℕ} 0 1 = cc in absurd (omega arith)

decode_admitted : (table e : List ℕ) (s : Stage) (n : ℕ) (p : List ℕ) → decode_answer table e ≡ accepted s n p → Admitted table
unfolding decode_answer
decode_admitted table e s n p d =
    admits_admitted table (was_admitted (eqb (length e) 48) (admits table) (decoded_word table (descrambled e)) s n p d)

-- each flag is that of a yes or a no
flag_of : (flag : ℕ) → flag < 2 → (a : Bool) × (flag ≡ cond a 1 0)
flag_of = bit_cases (λ (f : ℕ). (a : Bool) × (f ≡ cond a 1 0)) (false, refl) (true, refl)

encoded_differs : (table word p : List ℕ) (n flag : ℕ) → Encodes table word p n flag → Differs (encoded_word table p flag) word n
encoded_differs table word p n flag c = record { exactly = c.exact; first = c.first; second = c.second }

module _ (exact : ExactDistance) (table e : List ℕ) (s : Stage) (n : ℕ) (p : List ℕ) (d : decode_answer table e ≡ accepted s n p) where
  abbrev found : Payload p × ((flag : ℕ) × Encodes table (descrambled e) p n flag)
  found = exact table e s n p d

  pub exactly_left : Payload p × ((a : Bool) × ((room : List ℕ) → length room ≡ 48 → Differs (descrambled (encode_leaves table p a room)) (descrambled e) n))
  exactly_left =
      let q = found.0 in
      let c = found.1.1 in
      let f = flag_of found.1.0 c.flag_small in (
        q,
        (
          f.0,
          λ room h.
              subst (λ (w : List ℕ). Differs w (descrambled e) n)
              (ap (encoded_word table p) f.1 ∙ sym (left_word table (decode_admitted table e s n p d) p q f.0 room h))
              (encoded_differs table (descrambled e) p n found.1.0 c),
        ),
      )

-- ---- the demand

written : (table p e : List ℕ) → Admitted table → length p ≡ 20 → length e ≡ 48 → encode_answer table p e ≡ Ok tt
unfolding encode_answer
written table p e t h k = simp (eq-eqb (length p) 20 h, eq-eqb (length e) 48 k, admitted_admits table t)

pub demand_two : RoundTrip → ExactDistance → Injective → Demand2
demand_two r exact inj =
    record {
      encodes = written;
      comes_back = λ table p a e t q h. r.hard table t p q a e h;
      comes_back_softly = λ table p a e rs t q h. r.soft table t p q a e rs h;
      exact_distance = exactly_left exact;
      distinct = λ table p q a b e t hp hq h. inj table t p q hp hq a b e h;
      ignores = λ table p a e h. cleared_leaves p h table a e;
      comes_back_cleared = λ table p a e t h b k.
          ap (decode_answer table) (cleared_leaves p h table a e) ∙ r.hard table t (cleared p) (cleared_payload p h b) a e k;
    }

-- ---- of the calls themselves

pub encoded_and_decoded : RoundTrip → (table p : List ℕ) (a : Bool) (e e' : List ℕ) (r : Result Speech Refusal) → e' ≡ encode_leaves table p a e → r ≡ decode_answer table e'
    → EncodedAndDecoded table p a e e' r
encoded_and_decoded round table p a e e' r left answer =
    record { leaves = left; answer = answer; comes_back = λ t q h. answer ∙ ap (decode_answer table) left ∙ round.hard table t p q a e h }

module _ (exact : ExactDistance) (table e plain other plain' other' : List ℕ) (r : Result Speech Refusal) (answer : r ≡ decode_answer table e)
    (first : plain' ≡ encode_leaves table (payload_in r) false plain) (second : other' ≡ encode_leaves table (payload_in r) true other) where
  one_is_near : (s : Stage) (n : ℕ) (p : List ℕ) → r ≡ accepted s n p → length plain ≡ 48 → length other ≡ 48
      → Differs (descrambled plain') (descrambled e) n ⊎ Differs (descrambled other') (descrambled e) n
  one_is_near s n p is h k =
      let x = exactly_left exact table e s n p (sym answer ∙ is) in
      go x.1.0 x.1.1
    where
      same : payload_in r ≡ p
      same = ap payload_in is

      near : (a : Bool) (room room' : List ℕ) → room' ≡ encode_leaves table (payload_in r) a room → Differs (descrambled (encode_leaves table p a room)) (descrambled e) n
          → Differs (descrambled room') (descrambled e) n
      near a room room' left d =
          subst (λ (l : List ℕ). Differs (descrambled l) (descrambled e) n) (sym (left ∙ ap (λ (q : List ℕ). encode_leaves table q a room) same)) d

      go : (a : Bool) → ((room : List ℕ) → length room ≡ 48 → Differs (descrambled (encode_leaves table p a room)) (descrambled e) n)
          → Differs (descrambled plain') (descrambled e) n ⊎ Differs (descrambled other') (descrambled e) n
      go false f = inl (near false plain plain' first (f plain h))
      go true f = inr (near true other other' second (f other k))

  pub decoded_and_encoded : DecodedAndEncoded table e plain other plain' other' r
  decoded_and_encoded = record { answer = answer; leaves_plain = first; leaves_other = second; has_encoding = one_is_near }
