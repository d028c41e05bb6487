use mathlib.Core.Bool.{cond}
use mathlib.Core.Path.{refl, sym, ap, ◌∙◌}
use Prim.Native.Nat.{ℕ, ◌+◌, ◌*◌, ◌-◌, ◌<◌, min}
use native.Mathlib.Omega.{arith}
use lib.Dec.{ltb}
use lib.ListN.{get_or, length-set}
use Rattle.voice_path_rules.specs.Path.{arrive, survivor, weigh}
use Rattle.voice_path_rules.proofs.Places.{weigh_le}
use Rattle.voice_path_steps.proofs.Pairs.{arrive_even, arrive_odd, survivor_even, survivor_odd, pair_more}
use Rattle.voice_path_steps.proofs.step.Goals as goal

pub loop-prior-init : goal.loop-prior-init
loop-prior-init c = (omega arith, refl, refl, (λ s h. absurd (omega arith)), (λ s h. absurd (omega arith)))

pub differ-d-requires : goal.differ-d-requires
differ-d-requires c = record { within = omega arith; weighed = c.requires.weighed }

pub overflow_sub-seen : goal.overflow_sub-seen
overflow_sub-seen c =
    omega (arith, weigh_le c.args.seen (2 * c.loop-prior.prior), c.differ-d.ensures)

pub butterfly-p-requires : goal.butterfly-p-requires
butterfly-p-requires c =
    let a = c.args in
    let p = c.loop-prior.prior in
    let small = c.requires.by_index in
    let w = c.requires.weighed in
    let le = weigh_le a.seen (2 * p) in
    let wa = w.wa in
    let wb = w.wb in
    let e = c.differ-d.ensures in
    (small p (omega arith), small (p + 128) (omega arith), omega arith, omega arith)

pub loop-prior-preserved : goal.loop-prior-preserved
loop-prior-preserved c =
    let l = c.loop-prior in
    let v = l.invariant in
    let o = c.args.seen in
    let k : ℕ → ℕ = λ i. get_or c.args.costs i 0 in
    let p : ℕ = l.prior in
    let h : p < 128 = omega arith in
    let d = c.differ-d.ensures in
    let b = c.butterfly-p.ensures in
    let r = c.butterfly-p.result in (
      omega arith,
      simp length-set v.1,
      simp length-set v.2,
      pair_more l.next (arrive k (weigh o)) l.prior r.even r.odd v.1 h v.3
          (b.even ∙ ap (λ (x : ℕ). min (k p + x) (k (p + 128) + (o.wa + o.wb - x))) d ∙ sym (arrive_even o c.requires.weighed p h k))
          (b.odd ∙ ap (λ (x : ℕ). min (k p + (o.wa + o.wb - x)) (k (p + 128) + x)) d ∙ sym (arrive_odd o c.requires.weighed p h k)),
      pair_more l.chosen (survivor k (weigh o)) l.prior r.ebit r.obit v.2 h v.4
          (b.ebit ∙ ap (λ (x : ℕ). cond (ltb (k (p + 128) + (o.wa + o.wb - x)) (k p + x)) 1 0) d ∙ sym (survivor_even o c.requires.weighed p h k))
          (b.obit ∙ ap (λ (x : ℕ). cond (ltb (k (p + 128) + x) (k p + (o.wa + o.wb - x))) 1 0) d ∙ sym (survivor_odd o c.requires.weighed p h k)),
    )

pub returns : goal.returns
returns c =
    let v = c.loop-prior.invariant in
    record { next = λ s h. v.3 s (omega arith); chosen = λ s h. v.4 s (omega arith) }
