-- `release_first`: what the merger takes out leaves the shelf, is laid where it is a frame, and is counted.
-- Assumes nothing.
use mathlib.Core.Path.{refl, sym, subst}
use Prim.Native.Nat.{ℕ}
use Rattle.merging_rules.specs.Accounts.{TakesOut}
use Rattle.merging_rules.proofs.Takings.{takes, gone_few}
use Rattle.merging_releasing.proofs.Storing.{freed_slots, writable, need_fits, one_less, valid_after, moved_after, reserved_after}
use Rattle.merging_releasing.proofs.release_first.Goals as goal

pub put_released-laid-requires : goal.put_released-laid-requires
put_released-laid-requires c =
    let w = c.args.before.work in
    let r = c.release-after.result in
    let s = freed_slots w c.requires.fact_1 _ _ _ r c.release-after.ensures in
    record { fact_1 = s.0; fact_2 = s.1; fact_3 = writable w c.requires.fact_1 _ _ _ r c.release-after.ensures; fact_4 = need_fits w c.requires.fact_1 _ _ _ r c.release-after.ensures _ _ c.requires.fact_3 }

pub counted-requires : goal.counted-requires
counted-requires c =
    let w = c.args.before.work in
    let r = c.release-after.result in record { fact_1 = subst (λ (k : ℕ). TakesOut r.answer k) (sym c.how_many.ensures) (takes w.merger _ _ _ r c.release-after.ensures r.answer refl); fact_2 = gone_few w c.requires.fact_1.accounted _ _ _ r c.release-after.ensures c.requires.fact_2 _ c.how_many.ensures }

pub without-requires : goal.without-requires
without-requires c =
    let s = freed_slots c.args.before.work c.requires.fact_1 _ _ _ c.release-after.result c.release-after.ensures in
    record { fact_1 = s.0; fact_2 = s.1 }

pub returns : goal.returns
returns c =
    let w = c.args.before.work in
    let v = c.requires.fact_1 in
    let r = c.release-after.result in
    let g = c.release-after.ensures in record { valid = valid_after w v _ _ _ r g _ _ _ c.without.ensures c.how_many.ensures c.counted.ensures; moved = moved_after w v _ _ _ r g _ _ _ c.without.ensures c.how_many.ensures c.counted.ensures _ _ _ _ c.put_released-laid.ensures.frames_laid; reserved = reserved_after w v _ _ _ r g _ _ _ c.without.ensures c.how_many.ensures c.counted.ensures _ _ _ _ c.put_released-laid.ensures.frames_laid c.put_released-laid.ensures.few; fewer = one_less w v _ _ _ r g }
