-- `made_in` tells the status, and what is left in the word.
-- Assumes nothing.
use Rattle.std.proofs.Common.{ap, ap₂, ◌∙◌, ◌∷◌, List, ℕ}
use Rattle.replay_bytes.proofs.Puts.{put_as, put_more}
use Rattle.replay_tails.specs.Tails.{status_of}
use Rattle.replay_tails.proofs.made_in.Goals as goal

pub returns : goal.returns
returns c =
    put_as (put_more c.put-next.ensures c.put_all.ensures)
    (ap₂ (λ (k : ℕ) (l : List ℕ). k ∷ l) (c.status.ensures ∙ ap status_of c.encode_word-writing.ensures.value) c.encode_word-writing.ensures.leaves)
