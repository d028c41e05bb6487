-- `fed_soft` tells what the feed answers.
-- Assumes nothing.
use mathlib.Core.Path.{◌≡◌, sym, ap, ap₂, ◌∙◌}
use mathlib.Core.List.{List}
use Prim.Native.Nat.{ℕ, ◌+◌, ◌-◌, ◌≤◌}
use native.Mathlib.Nat.{le_refl}
use native.Mathlib.Omega.{arith}
use lib.ListN.{length, take, drop, length-drop}
use lib.Seq.{take_all}
use Rattle.bits.proofs.Conds.{cond_le}
use Rattle.sync_inputs.specs.Inputs.{softly}
use Rattle.sync.specs.View.{view}
use Rattle.replay_sync.specs.Streams.{fed_soft_case, feed_case, named}
use Rattle.replay_sync.proofs.Reading.{named_is}
use Rattle.replay_sync.proofs.Telling.{fed_told, told_as}
use Rattle.replay_sync.proofs.fed_soft.Goals as goal

pub returns : goal.returns
returns c =
    let input : List ℕ = c.args.input.now in
    let room : List ℕ = c.args.room.now in
    let s = c.args.s in
    let w = c.pair-middle.result in
    let is : w ≡ named input 0 = named_is input 0 c.pair-middle.ensures.0 c.at.ensures c.at-2.ensures in
    let taken : 2 + w - 2 ≡ named input 0 = omega arith in
    let enough : 2 + named input 0 ≤ length input = omega (arith, c.if-input-middle.false) in
    let dibits : List ℕ = take (2 + w - 2) (drop 2 input) in
    let reliable : List ℕ = take (length input - (2 + w)) (drop (2 + w) input) in
    let front : dibits ≡ take (named input 0) (drop 2 input) = ap (λ (n : ℕ). take n (drop 2 input)) taken in
    let rest : reliable ≡ drop (2 + named input 0) input = take_all (length input - (2 + w)) (drop (2 + w) input) (simp length-drop (le_refl _)) ∙ ap (λ (n : ℕ). drop (2 + n) input) is in
    told_as (feed_case room (softly dibits reliable) (view s)) (fed_soft_case room input (view s))
    (ap₂ (λ (a b : List ℕ). feed_case room (softly a b) (view s)) front rest ∙ sym (cond_le (2 + named input 0) (length input) _ _ enough))
    (fed_told s room (softly dibits reliable) c.feed_soft-f.ensures c.put_fed.ensures)
