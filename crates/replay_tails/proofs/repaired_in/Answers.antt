-- `repaired_in` tells the status, the count, and what is left in the lent bytes.
-- Assumes nothing.
use Rattle.std.proofs.Common.{Result, ap₂, ◌++◌, List, ℕ}
use Rattle.bits.specs.declared.Refusal.{Refusal}
use Rattle.replay_bytes.proofs.Puts.{put_as, put_more}
use Rattle.replay_tails.specs.Tails.{repair_bytes}
use Rattle.replay_tails.proofs.repaired_in.Goals as goal

pub returns : goal.returns
returns c =
    put_as (put_more c.put_repairing-next.ensures c.put_all.ensures) (ap₂ (λ (a : Result ℕ Refusal) (l : List ℕ). repair_bytes a ++ l) c.repair_by-answer.ensures.value c.repair_by-answer.ensures.leaves)
