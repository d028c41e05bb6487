-- The starred examples that want more than computing: the table that is refused, snapping, and the gate before the joint trials.
-- Assumes nothing.
use mathlib.Core.Bool.{true, false, cond}
use mathlib.Core.List.{List, [], ◌∷◌, ◌++◌, map}
use mathlib.Core.Path.{◌≡◌, refl, sym, ap, ◌∙◌}
use Prim.Native.Nat.{ℕ, ◌+◌, ◌-◌, ◌*◌, ◌/◌, ◌≤◌, ◌<◌}
use native.Mathlib.Omega.{arith}
use lib.Count.{ones, ones_in}
use lib.Dec.{leb}
use lib.ListN.{length, get_or, set, take, drop, take-append-drop}
use borrow.Author.Tests.{eq-eqb}
use Rattle.bits.specs.Alls.{All}
use Rattle.bits.specs.Bit.{tab}
use Rattle.bits.specs.declared.Refusal.TheVariants.{Table}
use Rattle.coding_rules.specs.Crc.{crc_run, crc_step}
use Rattle.coding_rules.specs.Scramble.{s, descrambled}
use Rattle.field_rules.specs.Field.{product}
use Rattle.merger_rules.proofs.Snaps.{snap_far, snap_one, snap_grid}
use Rattle.protected_rules.proofs.Admission.{admits_admitted, admitted_admits}
use Rattle.protected_rules.proofs.Examples.{stand_in_admitted, replaced_refused, last_bit}
use Rattle.protected_rules.specs.StandIn.{stand_in}
use Rattle.protected_rules.specs.Table.{count}
use Rattle.sync_rules.specs.Matching.{spell, differing, marker_bits, sixteen, matches, errors}
use Rattle.voice_rules.specs.Calls.{encode_answer, decode_answer, soft_answer, answered}
use Rattle.voice_rules.specs.Candidate.{mode_apart, low_flag, trial}
use Rattle.voice_rules.specs.Hard.{hard_trial, joint_tests, joint_trial, trials_by, hard_trials, decoded_word}
use Rattle.voice_rules.specs.Trial.{Measure, measure, passes, Trial, Verdict, speech, fails, judged, verdict, silent, or_else, first_of}
use Rattle.voice_rules.specs.declared.Test.TheVariants.{ModeBits}
use Rattle.demands.specs.Examples.{Example, Holds, starred, codes, admitted, refusal, snaps, joint, jointless, OnlyJointLeft, Happens, ungated}
use Rattle.demands.proofs.OnlyJoint.{mode_bits, mode_is, happens}

-- ---- tables

stand_in_lem : Holds (admitted stand_in)
stand_in_lem = admits_admitted stand_in stand_in_admitted

last_input : Holds (codes (93 ∷ []) (174 ∷ 175 ∷ []))
unfolding tab count
last_input = last_bit

replaced : Holds (refusal (set stand_in 15 13) 4)
unfolding encode_answer decode_answer soft_answer
replaced = (
  Table,
  refl,
  record {
    encode = λ payload envelope h k. simp (eq-eqb (length payload) 20 h, eq-eqb (length envelope) 48 k, replaced_refused);
    decode = λ envelope h. simp (eq-eqb (length envelope) 48 h, replaced_refused);
    soft = λ envelope rs h. simp (eq-eqb (length envelope) 48 h, replaced_refused);
  },
)

-- ---- snapping

near : (d e : ℕ) → 192 ≤ d → d < 6144 → (d + 192) / 384 * 384 ≡ e → Holds (snaps d e)
near d e a b f l =
    let h : l < l + d = omega arith in
    let k : l + d - l ≡ d = omega arith in
    snap_grid l (l + d) h (omega arith) (omega arith) ∙ ap (λ (x : ℕ). l + (x + 192) / 384 * 384) k ∙ ap (λ (x : ℕ). l + x) f

close : Holds (snaps 191 384)
close l = let h : l < l + 191 = omega arith in let k : l + 191 - l < 192 = omega arith in snap_one l (l + 191) h k

far : (d : ℕ) → 6144 ≤ d → Holds (snaps d d)
far d far-off l = let h : l < l + d = omega arith in let k : 6144 ≤ l + d - l = omega arith in snap_far l (l + d) h k

-- ---- the gate before the joint trials

-- the trial's first test is m
Opens : Measure → Trial → Type 0
Opens m t = t.tests ≡ m ∷ drop 1 t.tests

module _ (m : Measure) where
  judged_first : (t : Trial) → Opens m t → verdict t ≡ cond (passes m) (verdict (ungated t)) (fails m)
  unfolding verdict Opens
  judged_first t o = ap (λ (ms : List Measure). judged ms (speech t.payload t.corrected)) o

  gate_open : passes m ≡ true → (ts : List Trial) → All (Opens m) ts → first_of ts ≡ first_of (map ungated ts)
  unfolding first_of
  gate_open p [] a = refl
  gate_open p (t ∷ ts) a = rw (judged_first t a.0, p, gate_open p ts a.1)

  gate_shut : passes m ≡ false → (ts : List Trial) → All (Opens m) ts → first_of ts ≡ silent
  unfolding first_of
  gate_shut p [] a = refl
  gate_shut p (t ∷ ts) a = rw (judged_first t a.0, p, gate_shut p ts a.1)

-- where the first trials give nothing the others are the answer
after_silence : (ts us : List Trial) → first_of ts ≡ silent → first_of (ts ++ us) ≡ first_of us
unfolding first_of
after_silence [] us h = refl
after_silence (t ∷ ts) us h = go (after_silence ts us) (verdict t) h
  where
    go : (first_of ts ≡ silent → first_of (ts ++ us) ≡ first_of us) → (v : Verdict) → or_else t.stage v (first_of ts) ≡ silent
        → or_else t.stage v (first_of (ts ++ us)) ≡ first_of us
    go on (fails m) e = on e
    go on (speech p n) e = let z : ◌≡◌ {A = ℕ} 0 1 = cc in absurd (omega arith)

gate : List ℕ → Measure
gate word = measure ModeBits (mode_apart word (low_flag word)) 2

gated : (table word : List ℕ) → All (Opens (gate word)) (drop 4 (hard_trials table word))
unfolding Opens gate hard_trials trials_by joint_trial hard_trial trial joint_tests
gated table word = (refl, (refl, (refl, (refl, tt))))

gate_is : (w : List ℕ) (a b : ℕ) → get_or w 32 0 ≡ a → get_or w 33 0 ≡ b → passes (gate w) ≡ leb (mode_bits a b) 2
unfolding gate
gate_is w a b e f = ap (λ (n : ℕ). leb n 2) (mode_is w a b e f)

module _ (table envelope : List ℕ) where
  joint_trials : List Trial
  joint_trials = drop 4 (hard_trials table (descrambled envelope))

  -- where (a) to (c) accept nothing the joint trials are the answer
  joint_answers : {a b : ℕ} → OnlyJointLeft table envelope a b → decode_answer table envelope ≡ answered (first_of joint_trials)
  unfolding decode_answer decoded_word joint_trials
  joint_answers h =
      let ts = hard_trials table (descrambled envelope) in
      let e : first_of ts ≡ first_of (drop 4 ts) = ap first_of (sym (take-append-drop 4 ts)) ∙ after_silence (take 4 ts) (drop 4 ts) h.nothing in
      simp (eq-eqb (length envelope) 48 h.sized, admitted_admits table h.lent) (ap answered e)

tried : (a b : ℕ) → Happens a b → leb (mode_bits a b) 2 ≡ true → Holds (joint a b)
unfolding joint_trials
tried a b met few = (
  met,
  λ table envelope h.
      let w = descrambled envelope in
      joint_answers table envelope h ∙ ap answered (gate_open (gate w) (gate_is w a b h.has32 h.has33 ∙ few) (joint_trials table envelope) (gated table w)),
)

untried : (a b : ℕ) → Happens a b → leb (mode_bits a b) 2 ≡ false → Holds (jointless a b)
unfolding joint_trials
untried a b met many = (
  met,
  λ table envelope h.
      let w = descrambled envelope in
      joint_answers table envelope h ∙ ap answered (gate_shut (gate w) (gate_is w a b h.has32 h.has33 ∙ many) (joint_trials table envelope) (gated table w)),
)

-- ---- the list, a part at a time

coding_layer : All Holds (take 15 starred)
unfolding crc_run crc_step product s
coding_layer = (refl, (refl, (refl, (refl, (refl, (refl, (refl, (refl, (refl, (refl, (refl, (refl, (refl, (refl, (refl, tt)))))))))))))))

markers_and_tables : All Holds (take 6 (drop 15 starred))
unfolding matches errors spell differing marker_bits sixteen tab stand_in
markers_and_tables = ((refl, refl), ((refl, refl), (last_input, (stand_in_lem, (refl, (replaced, tt))))))

merging : All Holds (take 8 (drop 21 starred))
merging =
    let b : Holds (snaps 575 384) = near 575 384 (omega arith) (omega arith) refl in
    let c : Holds (snaps 576 768) = near 576 768 (omega arith) (omega arith) refl in
    let d : Holds (snaps 6143 6144) = near 6143 6144 (omega arith) (omega arith) refl in
    (refl, (refl, (close, (b, (c, (d, (far _ (omega arith), (far _ (omega arith), tt))))))))

gates : All Holds (drop 29 starred)
unfolding mode_bits ones ones_in
gates = (tried _ _ (happens _ _ (omega arith) (omega arith) refl) refl, (untried _ _ (happens _ _ (omega arith) (omega arith) refl) refl, tt))

join : (xs ys : List Example) → All Holds xs → All Holds ys → All Holds (xs ++ ys)
join [] ys a b = b
join (x ∷ xs) ys a b = (a.0, join xs ys a.1 b)

pub all_hold : All Holds starred
all_hold =
    join (take 15 starred) (drop 15 starred) coding_layer
    (join (take 6 (drop 15 starred)) (drop 21 starred) markers_and_tables (join (take 8 (drop 21 starred)) (drop 29 starred) merging gates))
