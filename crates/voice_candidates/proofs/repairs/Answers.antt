use Rattle.std.proofs.Common.{refl, sym, ◌∙◌, arith}
use Rattle.voice_candidates.proofs.Turns.{first_turn, no_turn_left, no_repair, accepted_here, goes_on}
use Rattle.voice_candidates.proofs.repairs.Goals as goal

pub loop-k-init : goal.loop-k-init
loop-k-init c = let r = c.args.received.now in first_turn r.table.entries r.word c.args.input.now.bits c.args.places.now _ refl refl

pub loop-k-preserved-in_default : goal.loop-k-preserved-in_default
loop-k-preserved-in_default c =
    let r = c.args.received.now in
    let l = c.loop-k in
    no_repair r.table.entries r.word c.args.input.now.bits c.args.places.now _ l.words l.n l.k l.invariant (omega (arith, c.loop-k-test.true)) (sym c.mend.ensures ∙ c.in_default.is)

pub returns-then-is_some : goal.returns-then-is_some
returns-then-is_some c =
    let r = c.args.received.now in
    let l = c.loop-k in
    accepted_here r.table.entries r.word c.args.input.now.bits c.args.places.now _ l.words l.n l.k l.invariant (omega (arith, c.loop-k-test.true)) c.in-Some.mended
    (sym c.mend.ensures ∙ c.in-Some.is) _ c.try_candidate-heard.ensures (sym c.is_some.ensures ∙ c.if-is_some.true)

pub loop-k-preserved : goal.loop-k-preserved
loop-k-preserved c =
    let r = c.args.received.now in
    let l = c.loop-k in
    goes_on r.table.entries r.word c.args.input.now.bits c.args.places.now _ l.words l.n l.k l.invariant (omega (arith, c.loop-k-test.true)) c.in-Some.mended
    (sym c.mend.ensures ∙ c.in-Some.is) _ c.try_candidate-heard.ensures (sym c.is_some.ensures ∙ c.if-is_some.false)

pub returns : goal.returns
returns c =
    let r = c.args.received.now in
    let l = c.loop-k in
    no_turn_left r.table.entries r.word c.args.input.now.bits c.args.places.now _ l.words l.n l.k l.invariant (omega (arith, c.loop-k-test.false))
