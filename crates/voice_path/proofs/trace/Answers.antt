use mathlib.Core.Path.{◌≡◌, ◌∙◌, refl, subst, sym}
use mathlib.Core.List.{◌++◌, append-nil}
use Prim.Native.Nat.{ℕ, ◌+◌, ◌-◌}
use native.Mathlib.Omega.{arith}
use lib.ListN.{drop, length-set}
use Rattle.bits.specs.Bit.{Bits}
use Rattle.voice_path_rules.specs.Path.{walk}
use Rattle.voice_path_rules.proofs.Walked.{walk_bits}
use Rattle.voice_path.specs.Rows.{kept}
use Rattle.voice_path.proofs.Rows.{trace_more}
use Rattle.voice_path.proofs.trace.Goals as goal

pub loop-t-init : goal.loop-t-init
loop-t-init c = (omega arith, refl, append-nil _)

pub loop-t-preserved : goal.loop-t-preserved
unfolding kept
loop-t-preserved c =
    let l = c.loop-t in
    let rows = c.args.survivors in
    let v = l.invariant in
    let n = l.t - 1 in
    let e : c.survivor_bit.result ≡ kept rows n l.state = c.survivor_bit.ensures.0 in
    let one : l.t ≡ n + 1 = omega arith in (
      omega arith,
      simp length-set v.1,
      rw e
          (trace_more (kept rows) n l.state l.bits (omega arith)
          ∙ subst (λ (m : ℕ). walk (kept rows) m l.state ++ drop m l.bits ≡ walk (kept rows) 94 0) one v.2),
    )

pub invariant_of-result : goal.invariant_of-result
unfolding walk
invariant_of-result c =
    let l = c.loop-t in
    let rows = c.args.survivors in
    let none : l.t ≡ 0 = omega arith in
    record { each = subst Bits (sym (subst (λ (m : ℕ). walk (kept rows) m l.state ++ drop m l.bits ≡ walk (kept rows) 94 0) none l.invariant.2)) (walk_bits (kept rows) 94 0) }

pub returns : goal.returns
unfolding walk
returns c =
    let l = c.loop-t in
    let rows = c.args.survivors in
    let none : l.t ≡ 0 = omega arith in
    subst (λ (m : ℕ). walk (kept rows) m l.state ++ drop m l.bits ≡ walk (kept rows) 94 0) none l.invariant.2
