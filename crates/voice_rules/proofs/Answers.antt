-- Demand 2 and the rest of the statements, from what is heard in a word to what the calls answer.
-- Assumes nothing.
use Rattle.std.proofs.Common.{Result, Ok, Err}
use mathlib.Core.Bool.{Bool, true, false, cond}
use mathlib.Core.List.{List}
use mathlib.Core.Path.{◌≡◌, refl, sym, ap, ◌∙◌}
use Prim.Native.Nat.{ℕ, ◌+◌, ◌-◌, ◌*◌, ◌/◌, ◌%◌, ◌<◌}
use native.Mathlib.Omega.{arith}
use lib.Bits.{xor_lt}
use lib.Dec.{eqb, lit<}
use lib.ListN.{length, get_or}
use borrow.Author.Tests.{eq-eqb}
use Rattle.bits.specs.Bit.{bit_hi, number, Bytes}
use Rattle.bits.specs.declared.Refusal.{Refusal}
use Rattle.bits.specs.declared.Refusal.TheVariants.{Size, Table}
use Rattle.bits.proofs.Belows.{below_tab}
use Rattle.bits.proofs.Conds.{cond_both}
use Rattle.bits.proofs.Digits.{digit_lt, number_lt}
use Rattle.bits.proofs.Tabs.{length_tab}
use Rattle.coding_rules.specs.Scramble.{place, s, word_bit, envelope_byte, descrambled, scrambled}
use Rattle.coding_rules.proofs.ScrambleLaws.{s_lt}
use Rattle.protected_rules.specs.Table.{Admitted, admits}
use Rattle.protected_rules.specs.Word.{Payload}
use Rattle.protected_rules.proofs.Admission.{admitted_admits}
use Rattle.voice_rules.specs.declared.Speech.{Speech}
use Rattle.voice_rules.specs.declared.Stage.{Stage}
use Rattle.voice_rules.specs.declared.Stage.TheVariants.{StageA}
use Rattle.voice_rules.specs.Calls.{encode_sized, encode_answer, encode_leaves, no_payload, payload_in, accepted, answered, decoded_by, decode_answer, soft_answer}
use Rattle.voice_rules.specs.Encoded.{encoded_word}
use Rattle.voice_rules.specs.Hard.{decoded_word}
use Rattle.voice_rules.specs.Soft.{softly_decoded_word}
use Rattle.voice_rules.specs.Statements.{RoundTrip, ExactDistance, Injective, Refusing, OneAnswer}
use Rattle.voice_rules.specs.Trial.{Outcome, heard, silent}
use Rattle.voice_rules.proofs.ComesBack.{heard_back, heard_softly, there_again}
use Rattle.voice_rules.proofs.ExactDistance.{heard_encodes}

-- ---- envelopes and words

length_scrambled : (w : List ℕ) → length (scrambled w) ≡ 48
unfolding scrambled
length_scrambled w = length_tab 48 (envelope_byte w)

pub length_descrambled : (e : List ℕ) → length (descrambled e) ≡ 42
unfolding descrambled
length_descrambled e = length_tab 42 (λ k. number 8 (λ j. word_bit e (8 * k + j)))

pub descrambled_bytes : (e : List ℕ) → Bytes (descrambled e)
unfolding descrambled
descrambled_bytes e =
    below_tab 42 (λ k. number 8 (λ j. word_bit e (8 * k + j))) (lit< tt) (λ k h.
    number_lt 8 (λ j. word_bit e (8 * k + j)) (λ j l.
    xor_lt 1 (bit_hi e (place (8 * k + j))) (s (8 * k + j)) (digit_lt (get_or e (place (8 * k + j) / 8) 0) (7 - place (8 * k + j) % 8)) (s_lt (8 * k + j))))

-- ---- what is encoded comes back

flag_small : (a : Bool) → cond a 1 0 < 2
flag_small a = cond_both (λ (v : ℕ). v < 2) a 1 0 (lit< tt) (lit< tt)

module _ (table : List ℕ) (t : Admitted table) where
  -- an admitted table and an envelope of 48 bytes: what is heard is answered
  decoded_is : (e : List ℕ) → length e ≡ 48 → (f : List ℕ → Outcome) → decoded_by table e f ≡ answered (f (descrambled e))
  decoded_is e h f = simp (eq-eqb (length e) 48 h, admitted_admits table t)

  module _ (p : List ℕ) (q : Payload p) (a : Bool) (e : List ℕ) (h : length e ≡ 48) where
    leaves_is : encode_leaves table p a e ≡ scrambled (encoded_word table p (cond a 1 0))
    unfolding encode_leaves
    leaves_is = simp (eq-eqb (length p) 20 q.long, eq-eqb (length e) 48 h, admitted_admits table t)

    -- where the encoded word is heard, so is the envelope
    back : (f : List ℕ → Outcome) → f (encoded_word table p (cond a 1 0)) ≡ heard StageA p 0
        → decoded_by table (encode_leaves table p a e) f ≡ accepted StageA 0 p
    back f g =
        ap (λ (l : List ℕ). decoded_by table l f) leaves_is
        ∙ decoded_is (scrambled (encoded_word table p (cond a 1 0))) (length_scrambled (encoded_word table p (cond a 1 0))) f
        ∙ ap answered (ap f (there_again table t p q (cond a 1 0) (flag_small a)) ∙ g)

    hard_back : decode_answer table (encode_leaves table p a e) ≡ accepted StageA 0 p
    unfolding decode_answer
    hard_back = back (decoded_word table) (heard_back table t p q (cond a 1 0) (flag_small a))

    soft_back : (rs : List ℕ) → soft_answer table (encode_leaves table p a e) rs ≡ accepted StageA 0 p
    unfolding soft_answer
    soft_back rs = back (λ word. softly_decoded_word table word rs) (heard_softly table t p q (cond a 1 0) (flag_small a) rs)

pub round_trip : RoundTrip
round_trip = record { hard = λ table t p q a e h. hard_back table t p q a e h; soft = λ table t p q a e rs h. soft_back table t p q a e h rs }

pub injective : Injective
injective table t p q hp hq a b e h same =
    ap payload_in (sym (hard_back table t p hp a e h) ∙ ap (decode_answer table) same ∙ hard_back table t q hq b e h)

-- ---- what is accepted was heard

was_heard : (t u : Bool) (o : Outcome) (s : Stage) (n : ℕ) (p : List ℕ)
    → cond t (cond u (answered o) (Err Table)) (Err Size) ≡ accepted s n p → o ≡ heard s p n
was_heard true true (heard s' p' n') s n p e =
    let r : ◌≡◌ {A = Speech} (record { stage = s'; corrected = n'; payload = p' }) (record { stage = s; corrected = n; payload = p }) = cc in
    let i : s' ≡ s = ap (λ (x : Speech). x.stage) r in
    let j : n' ≡ n = ap (λ (x : Speech). x.corrected) r in
    let k : p' ≡ p = ap (λ (x : Speech). x.payload) r in
    cc
was_heard true true silent s n p e =
    let z : ◌≡◌ {A = ℕ} 0 1 = cc in absurd (omega arith)
was_heard true false o s n p e =
    let z : ◌≡◌ {A = ℕ} 0 1 = cc in absurd (omega arith)
was_heard false u o s n p e =
    let z : ◌≡◌ {A = ℕ} 0 1 = cc in absurd (omega arith)

pub exact_distance : ExactDistance
unfolding decode_answer
exact_distance table e s n p d =
    heard_encodes table (descrambled e) (length_descrambled e) (descrambled_bytes e) s p n
    (was_heard (eqb (length e) 48) (admits table) (decoded_word table (descrambled e)) s n p d)

-- ---- refusals

unwritten : (t u : Bool) (w e : List ℕ) (r : Refusal) → ◌≡◌ {A = Result Unit Refusal} (cond t (cond u (Ok tt) (Err Table)) (Err Size)) (Err r)
    → cond t (cond u w e) e ≡ e
unwritten true true w e r h = let z : ◌≡◌ {A = ℕ} 0 1 = cc in absurd (omega arith)
unwritten true false w e r h = refl
unwritten false u w e r h = refl

no_payload_lem : (t u : Bool) (o : Outcome) (r : Refusal) → cond t (cond u (answered o) (Err Table)) (Err Size) ≡ Err r
    → payload_in (cond t (cond u (answered o) (Err Table)) (Err Size)) ≡ no_payload
no_payload_lem true true (heard s p n) r h = let z : ◌≡◌ {A = ℕ} 0 1 = cc in absurd (omega arith)
no_payload_lem true true silent r h = refl
no_payload_lem true false o r h = refl
no_payload_lem false u o r h = refl

pub refusing : Refusing
unfolding encode_answer encode_leaves decode_answer soft_answer
refusing =
    record {
      encode = λ table p a e r h. unwritten (encode_sized p e) (admits table) (scrambled (encoded_word table p (cond a 1 0))) e r h;
      decode = λ table e r h. no_payload_lem (eqb (length e) 48) (admits table) (decoded_word table (descrambled e)) r h;
      soft = λ table e rs r h. no_payload_lem (eqb (length e) 48) (admits table) (softly_decoded_word table (descrambled e) rs) r h;
    }

pub one_answer : OneAnswer
one_answer =
    record {
      encode = λ table p e r q hr hs. hr ∙ sym hs;
      leaves = λ table p a e f g hf hg. hf ∙ sym hg;
      decode = λ table e r q hr hs. hr ∙ sym hs;
      soft = λ table e rs r q hr hs. hr ∙ sym hs;
    }
