-- What holds of any history of steps over two streams.
-- Assumes nothing.
use Rattle.std.specs.Prelude.{◌≡◌, List, [], ◌++◌, ℕ, ◌≤◌, length, take, None}
use Rattle.merging_rules.specs.Turns.{begun, whole, merged_frames}
use Rattle.merging_rules.specs.Works.{pile_of, bytes_of}
use Rattle.recorder_rules.specs.Makings.{Trying}
use Rattle.sync_rules.specs.State.{Input}
use Rattle.merge_recorder_rules.specs.declared.MergeRecorder.{MergeRecorder}
use Rattle.merge_recorder_rules.specs.declared.MergeStepped.{MergeStepped}
use Rattle.merge_recorder_rules.specs.Steps.{both_of, merge_need, MergeFlushedBy}
use Rattle.merge_recorder_rules.specs.Calls.{MergeCalled, MergeHistory, merge_state, merge_handed, MergeThrough, merge_rest}

pub record MergeFresh (r : MergeRecorder) : Type 0 where
  pub nothing : both_of r ≡ begun
  pub earlier : r.earlier ≡ None

-- Two whole streams, cut anywhere and apart from each other, and the flush when both have ended: the bytes handed out are the journal of the frames that the
-- merger released, dibit by dibit (`merged_frames`), whatever the cuts; and the counts are theirs. What these frames are is `merged_rule` (crate merging_rules).
pub record MergeRecorded (try : Trying) (xs ys : List Input) (cs : List MergeCalled) (left : List ℕ) (a : MergeStepped) : Type 0 where
  pub bytes : merge_handed cs ++ take a.size left ≡ bytes_of None (merged_frames try xs ys)
  pub pile : pile_of a.next.work ≡ (whole try xs ys).pile

abbrev pub merge_records : Type 0
merge_records = (try : Trying) (r : MergeRecorder) → MergeFresh r → (cs : List MergeCalled) → MergeHistory try r cs → (xs ys : List Input) → MergeThrough xs ys cs
    → merge_rest xs cs ≡ [] → merge_rest ys cs ≡ [] → (out left : List ℕ) → merge_need ≤ length out → (a : MergeStepped) → MergeFlushedBy out left (merge_state r cs) a
    → MergeRecorded try xs ys cs left a
