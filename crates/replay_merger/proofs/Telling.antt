-- How a case of the merger is told, by what was put.
-- Assumes nothing.
use mathlib.Core.Path.{◌≡◌}
use mathlib.Core.List.{List}
use Prim.Native.Nat.{ℕ}
use Rattle.std.proofs.Common.{Some}
use Rattle.replay_bytes.specs.Answers.{bytes}
use Rattle.replay_bytes.specs.Bytes.{Put}
use Rattle.replay_bytes.proofs.Telling.{fits}
use Rattle.merger.specs.declared.Merger.{Merger}
use Rattle.merger_rules.specs.Merging.{View}
use Rattle.merger.specs.States.{view_of}
use Rattle.merger.specs.States.{ValidMerger}
use Rattle.replay_merger.specs.Merges.{case, ToldBy}

pub told : {m next : Merger} {before after : List ℕ} {n : ℕ} (b : List ℕ) (v : View) → ValidMerger next → view_of next ≡ v → Put before 0 b after n
    → ToldBy m (case (bytes b) v) before after (record { size = Some n; merger = next })
told b v valid leaves puts = record { valid = valid; leaves = leaves; tells = puts; kept = λ k. absurd (fits b k) }
