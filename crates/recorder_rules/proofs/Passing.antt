-- Steps one behind the other through an input, and through one input behind another: what a program's loops add to.
-- Assumes nothing.
use Rattle.std.proofs.Common.{None}
use mathlib.Core.Path.{◌≡◌, refl, sym, ap, ◌∙◌, subst}
use mathlib.Core.List.{List, [], ◌∷◌, ◌++◌, append_assoc, append-nil}
use Prim.Native.Nat.{ℕ, zero, suc, ◌+◌, ◌≤◌}
use native.Mathlib.Omega.{arith}
use lib.ListN.{length, drop, length-append}
use lib.Seq.{drop-drop, drop-append-le}
use Rattle.sync.specs.View.{view}
use Rattle.sync_inputs.specs.Inputs.{hardly, unpacked}
use Rattle.sync_rules.specs.Counts.{state_after}
use Rattle.sync_rules.specs.State.{Input}
use Rattle.recorder_rules.specs.Makings.{Making, accepted_in}
use Rattle.recorder_rules.specs.Steps.{dibits_of, SteppedBy}
use Rattle.recorder_rules.specs.Calls.{Called, lent_to, Meets, History, state_of, pushed_by, accepted_by, frames_for, Through, rest_of, Made, Gone}
use Rattle.recorder_rules.specs.Statements.{whole_input}
use Rattle.recorder_rules.specs.declared.Recorder.{Recorder}
use Rattle.recorder_rules.specs.declared.Stepped.{Stepped}
use Rattle.recorder_rules.proofs.Histories.{used_few, steps_make_lem, cut_anywhere_lem}

-- ---- steps behind steps

history_append : (p : Making) (cs bs : List Called) (r : Recorder) → History p r cs → History p (state_of r cs) bs → History p r (cs ++ bs)
unfolding History state_of
history_append p [] bs r h k = k
history_append p (c ∷ cs) bs r h k = (h.0, history_append p cs bs c.answer.next h.1 k)

state_append : (cs bs : List Called) (r : Recorder) → state_of r (cs ++ bs) ≡ state_of (state_of r cs) bs
unfolding state_of
state_append [] bs r = refl
state_append (c ∷ cs) bs r = state_append cs bs c.answer.next

through_append : (ds : List Input) (cs bs : List Called) → Through ds cs → Through (rest_of ds cs) bs → Through ds (cs ++ bs)
unfolding Through rest_of
through_append ds [] bs w v = v
through_append ds (c ∷ cs) bs w v = (w.0, through_append (drop c.answer.used ds) cs bs w.1 v)

rest_append : (ds : List Input) (cs bs : List Called) → rest_of ds (cs ++ bs) ≡ rest_of (rest_of ds cs) bs
unfolding rest_of
rest_append ds [] bs = refl
rest_append ds (c ∷ cs) bs = rest_append (drop c.answer.used ds) cs bs

counts_append : (cs bs : List Called) → accepted_by (cs ++ bs) ≡ accepted_by cs + accepted_by bs
unfolding accepted_by
counts_append [] bs = omega arith
counts_append (c ∷ cs) bs = omega (arith, counts_append cs bs)

-- steps through an input, and further steps through its rest
gone_on : (p : Making) (r s t : Recorder) (ds es rest : List Input) (a b : ℕ) → Gone p r ds s es a → Gone p s es t rest b → Gone p r ds t rest (a + b)
gone_on p r s t ds es rest a b g h =
    record {
      steps = g.steps ++ h.steps;
      history = history_append p g.steps h.steps r g.history (subst (λ (z : Recorder). History p z h.steps) (sym g.there) h.history);
      through = through_append ds g.steps h.steps g.through (subst (λ (l : List Input). Through l h.steps) (sym g.left) h.through);
      there = state_append g.steps h.steps r ∙ ap (λ (z : Recorder). state_of z h.steps) g.there ∙ h.there;
      left = rest_append ds g.steps h.steps ∙ ap (λ (l : List Input). rest_of l h.steps) g.left ∙ h.left;
      counts = omega (arith, counts_append g.steps h.steps, g.counts, h.counts);
    }

-- ---- an input with more behind it

lent_few : (ds later : List Input) (c : Called) → ds ≡ lent_to c ++ later → length (lent_to c) ≤ length ds
lent_few ds later c e = omega (arith, ap length e, length-append (lent_to c) later)

-- a step uses dibits of the input in front alone
drop_wide : (p : Making) (r : Recorder) (ds es : List Input) (c : Called) (cs : List Called) → Meets p r c → Through ds (c ∷ cs) → drop c.answer.used (ds ++ es) ≡ drop c.answer.used ds ++ es
unfolding Through
drop_wide p r ds es c cs s w = drop-append-le c.answer.used ds es (omega (arith, used_few p r c s, lent_few ds w.0.0 c w.0.1))

through_wide : (p : Making) (cs : List Called) (r : Recorder) (ds es : List Input) → History p r cs → Through ds cs → Through (ds ++ es) cs
unfolding History Through
through_wide p [] r ds es h w = refl
through_wide p (c ∷ cs) r ds es h w =
    ((w.0.0 ++ es, ap (λ (l : List Input). l ++ es) w.0.1 ∙ append_assoc (lent_to c) w.0.0 es), subst (λ (l : List Input). Through l cs) (sym (drop_wide p r ds es c cs h.0 w)) (through_wide p cs c.answer.next (drop c.answer.used ds) es h.1 w.1))

rest_wide : (p : Making) (cs : List Called) (r : Recorder) (ds es : List Input) → History p r cs → Through ds cs → rest_of (ds ++ es) cs ≡ rest_of ds cs ++ es
unfolding History Through rest_of
rest_wide p [] r ds es h w = refl
rest_wide p (c ∷ cs) r ds es h w =
    ap (λ (l : List Input). rest_of l cs) (drop_wide p r ds es c cs h.0 w) ∙ rest_wide p cs c.answer.next (drop c.answer.used ds) es h.1 w.1

pub gone_wide : (p : Making) (r s : Recorder) (ds rest es : List Input) (a : ℕ) → Gone p r ds s rest a → Gone p r (ds ++ es) s (rest ++ es) a
gone_wide p r s ds rest es a g =
    record {
      steps = g.steps;
      history = g.history;
      through = through_wide p g.steps r ds es g.history g.through;
      there = g.there;
      left = rest_wide p g.steps r ds es g.history g.through ∙ ap (λ (l : List Input). l ++ es) g.left;
      counts = g.counts;
    }

-- ---- dibits of packed bytes

drop_hardly : (k : ℕ) (l : List ℕ) → drop k (hardly l) ≡ hardly (drop k l)
drop_hardly zero l = refl
drop_hardly (suc k) [] = refl
drop_hardly (suc k) (x ∷ l) = drop_hardly k l

pub dibits_on : (bytes : List ℕ) (from k : ℕ) → drop k (dibits_of bytes from) ≡ dibits_of bytes (from + k)
dibits_on bytes from k = drop_hardly k (drop from (unpacked bytes)) ∙ ap hardly (drop-drop k from (unpacked bytes))

-- one step
gone_one : (p : Making) (r s : Recorder) (bytes : List ℕ) (from used accepted : ℕ) → Made p r bytes from used accepted s → Gone p r (dibits_of bytes from) s (dibits_of bytes (from + used)) accepted
unfolding History Through state_of rest_of accepted_by
gone_one p r s bytes from used accepted m =
    record {
      steps = m.call ∷ [];
      history = (m.meets, refl);
      through = (([], sym m.lent ∙ sym (append-nil (lent_to m.call))), refl);
      there = m.next;
      left = ap (λ (k : ℕ). drop k (dibits_of bytes from)) m.takes ∙ dibits_on bytes from used;
      counts = omega (arith, m.counts);
    }

-- ---- what a loop starts with, and what a turn adds

pub gone_none : (p : Making) (r : Recorder) (ds : List Input) → Gone p r ds r ds 0
unfolding History Through state_of rest_of accepted_by
gone_none p r ds = record { steps = []; history = refl; through = refl; there = refl; left = refl; counts = refl }

-- what a step promises, as a step made
pub made_by : (p : Making) (r : Recorder) (bytes : List ℕ) (from : ℕ) (out left : List ℕ) (a : Stepped) → SteppedBy p out left (dibits_of bytes from) r a → Made p r bytes from a.used a.accepted a.next
made_by p r bytes from out left a s = record { call = record { bytes = bytes; from = from; out = out; left = left; answer = a }; lent = refl; takes = refl; counts = refl; next = refl; meets = s }

-- a step more
pub gone_more : (p : Making) (r s t : Recorder) (ds : List Input) (bytes : List ℕ) (from used a b : ℕ) → Gone p r ds s (dibits_of bytes from) a → Made p s bytes from used b t
    → Gone p r ds t (dibits_of bytes (from + used)) (a + b)
gone_more p r s t ds bytes from used a b g m = gone_on p r s t ds (dibits_of bytes from) (dibits_of bytes (from + used)) a b g (gone_one p s t bytes from used b m)

-- a piece of the input more
pub gone_append : (p : Making) (r s t : Recorder) (ds es rest : List Input) (a b : ℕ) → Gone p r ds s [] a → Gone p s es t rest b → Gone p r (ds ++ es) t rest (a + b)
gone_append p r s t ds es rest a b g h = gone_on p r s t (ds ++ es) es rest a b (gone_wide p r s ds [] es a g) h

-- ---- the whole input

pub whole_input_lem : whole_input
whole_input_lem p q r s f ds accepted g =
    let cs = g.steps in
    let all : pushed_by cs ≡ ds = sym (append-nil (pushed_by cs)) ∙ ap (λ (l : List Input). pushed_by cs ++ l) (sym g.left) ∙ cut_anywhere_lem p r cs g.history ds g.through in
    let made = steps_make_lem p q r f cs g.history in (
      made.bytes ∙ ap (λ (xs : List Input). p.bytes None (frames_for xs)) all,
      sym g.counts ∙ made.accepted ∙ ap (λ (xs : List Input). accepted_in p.accepts (frames_for xs)) all,
      ap (λ (z : Recorder). view z.sync) (sym g.there) ∙ made.next ∙ ap state_after all,
    )
