-- What leaves the case: the records and lines that are made of the frames of a stream, and the merged journal of two. Our user's rule: "A gap you cannot see is a surface you
-- invented."
--
-- In plain words: a recorder is lent the packed dibits of a stream piece by piece, and memory for what it makes of their frames. Let it be called any
-- number of times, refused calls among them, and the input be cut anywhere. What the calls hand out, one behind the other, is exactly what is made of
-- the frames that the synchroniser sends for these dibits, in their order: no frame is left out, none comes twice, none is invented, and no cut can be
-- seen. In a journal the frames stand unchanged, at least 384 bits of the clock apart, and all gaps between them are there, so that each bit of the
-- clock from the first frame to the last is in exactly one record (`Unbroken`, crates/journal_rules/specs/Statements.antt); no record is refused, and
-- each reads back as its entry.
--
-- Two streams of the same time: the recorder of both is lent what is there of each, and goes dibit by dibit through them. What it hands out is the journal of
-- the frames that the merger released, in their order, each with the envelope of the stream that it names; every frame of both is in the journal or in exactly
-- one count.
--
-- What it does not say: that a program puts these bytes into a file, which no contract can say. Before the first frame and behind the last no gap is
-- told.
--
-- Where the names are defined: what is made of frames, a `Making` (`journal`, `listing`, `slipping`), in crates/recorder_rules/specs/Makings.antt; what
-- a call promises, `SteppedBy`, in Steps.antt there: the calls are recorder_lines::step and recorder::step; a `History` of calls, an input cut anywhere
-- (`Through`, `Gone`) and the frames that the synchroniser sends (`frames_for`) in Calls.antt; the theorems in Statements.antt. What they come to for each
-- thing that recorder::step can be asked, lines of speech among them, is in crates/recorder/specs/Statements.antt; what a call refuses in `Demand1`,
-- field `step`. Of two streams: what each dibit does (`walk`, `whole`) in crates/merging_rules/specs/Turns.antt and Piles.antt, what is proved of it in
-- Merged.antt; what a call promises, `MergeSteppedBy`, in crates/merge_recorder_rules/specs/Steps.antt, a history of calls in Calls.antt.
-- Assumes nothing.
use Rattle.merge_recorder_rules.specs.Statements.{merge_records}
use Rattle.merging_rules.specs.Merged.{merged_rule}
use Rattle.recorder_rules.specs.Statements.{MakingsSequential, step_rules, steps_make, cut_anywhere, whole_input, journal_rule}

pub record Recording : Type 0 where
  -- a journal, whatever is said of its frames, a listing and the slips are made frame by frame, and the three frames of a push fit the memory asked for
  pub makings : MakingsSequential
  -- a call that is lent a dibit and memory enough goes on, and lays no more than there is memory for
  pub goes_on : step_rules
  -- of any history of calls from a start: what they handed out is made of exactly the frames that the synchroniser sends for the dibits pushed
  pub steps : steps_make
  -- of an input cut anywhere: none of its dibits is pushed twice, and none is left out but those behind the last call
  pub cut : cut_anywhere
  -- of an input that was used up: what was handed out is made of its dibits' frames, so it does not depend on the cuts
  pub whole : whole_input
  -- of the journal of any such history: no break between its first and its last frame, no record left out or refused, and each reads back
  pub journal : journal_rule
  -- of two streams, cut anywhere and apart from each other: what was handed out is the journal of the frames that the merger released, whatever the cuts
  pub merges : merge_records
  -- and of these frames: where each comes from, that no frame is lost that is not counted, and that the journal has no break and no refused record
  pub merged : merged_rule
