-- `put_frame`: the gap's record, then the frame's.
-- Assumes nothing.
use mathlib.Core.Path.{◌≡◌, refl, sym, ap, ◌∙◌, subst}
use mathlib.Core.Bool.{true, cond}
use Prim.Native.Nat.{ℕ, ◌+◌, ◌≤◌}
use native.Mathlib.Omega.{arith}
use borrow.Author.Tests.{eq-eqb}
use lib.ListN.{length}
use lib.Seq.{sets}
use Rattle.bits.proofs.Conds.{cond_both}
use Rattle.journal_rules.specs.Record.{entry_at, record_of, allowed, size_fits}
use Rattle.journal_rules.specs.declared.Body.TheVariants.{Frame}
use Rattle.journal_rules.specs.declared.Entry.{Entry}
use Rattle.journal_rules.specs.declared.Figures.{Figures}
use Rattle.journal_rules.specs.declared.Outcome.{Outcome}
use Rattle.journal_rules.specs.declared.Tried.{Tried}
use Rattle.sync_rules.specs.declared.Head.{Head}
use Rattle.recorder_rules.specs.Makings.{is_accepted}
use Rattle.recorder_records.proofs.Putting.{frame_allowed, laid_one}
use borrow.Author.Rules.{rules}
use Rattle.recorder_records.proofs.put_frame.Goals as goal

figures : Head → Tried → Figures
figures h t = record { matched = h.matched; errors = h.errors; outcome = t.outcome; corrected = t.corrected }

-- an outcome counts once at most
one_few : (o : Outcome) → cond (is_accepted o) 1 0 ≤ 1
one_few o = cond_both (λ (n : ℕ). n ≤ 1) (is_accepted o) 1 0 (omega arith) (omega arith)

pub put_entry-size-requires : goal.put_entry-size-requires
unfolding figures
put_entry-size-requires c =
    let a = c.args in
    let same : length c.put_gap-at.new.out ≡ length a.out.now = search rules in
    let is = sym c.frame_entry.ensures in record { fact_1 = subst (λ (e : Entry). allowed e ≡ true) is (frame_allowed a.head.offset (figures a.head a.tried) c.requires.fact_1.ends c.requires.fact_1.errors c.requires.fact_2); fact_2 = subst (λ (e : Entry). size_fits e.body (length a.envelope.now) ≡ true) is (eq-eqb _ _ c.requires.fact_3); fact_3 = omega (arith, c.requires.fact_4, c.put_gap-at.ensures.few) }

pub overflow_add-result : goal.overflow_add-result
overflow_add-result c =
    omega (arith, c.requires.fact_5, c.accepted_by.ensures, one_few c.args.tried.outcome)

pub returns : goal.returns
returns c try e =
    let a = c.args in
    let h = a.head in
    laid_one try a.out.now _ _ a.before _ (record { head = h; envelope = a.envelope.now }) c.put_gap-at.result c.requires.fact_3 c.put_gap-at.ensures.size c.put_gap-at.ensures.stored c.put_entry-size.ensures.size
    (c.put_entry-size.ensures.stored
    ∙ ap (λ (x : Entry). sets c.put_gap-at.new.out c.put_gap-at.result (record_of x a.envelope.now)) c.frame_entry.ensures
    ∙ ap (λ (t : Tried). sets c.put_gap-at.new.out c.put_gap-at.result (record_of (entry_at h.offset (Frame (record { matched = h.matched; errors = h.errors; outcome = t.outcome; corrected = t.corrected }))) a.envelope.now)) (sym e))
    (ap (λ (n : ℕ). a.before.accepted + n) (c.accepted_by.ensures ∙ ap (λ (t : Tried). cond (is_accepted t.outcome) 1 0) (sym e))) refl
