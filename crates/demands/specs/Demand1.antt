-- DEMAND 1. Every call on every input ends with an answer. Bad input is refused with its number from document 01, the state is the one before
-- the call, lent memory keeps its bytes.
-- In this order: document 01's table 'Numbered refusals', each of its lines once, as a test; what it is to refuse by tests in an order; the number
-- of each kind of answer; what each call refuses; and `Demand1`, a field a call: what its contract promises refuses so.
-- A field speaks of exactly the definitions that the call's contract cites: coding::descramble ensures that it answers `size_answer` and leaves
-- `after_descramble`, Synchroniser::push ensures `PushedBy`. And the crates demand_coding, demand_speech, demand_stream and demand_recording make each call
-- and promise the same of what it gave and left.
-- Where a name is from, the lines below say: Rattle.coding_rules.specs.Calls is the file crates/coding_rules/specs/Calls.antt, and what lies under `declared`
-- is a type of the crate's src/.
-- Inputs are not restricted: no call has a `requires` but its state's invariant, which every call that hands out a state ensures. What is lent
-- only to be read no call can write. That a call ends is said nowhere: a function that may not end is not proved at all.
-- Assumes nothing.
use Rattle.std.specs.Prelude.{Bool, true, false, cond, not, ◌&&◌, ◌||◌, List, [], ◌∷◌, ◌++◌, ◌≡◌, ℕ, ◌^◌, ◌<◌, eqb, leb, ltb, length, get_or, take, drop, Option, Result, Ok, Err}
use Rattle.bits.specs.Refusals.{number_of}
use Rattle.coding_rules.specs.Calls.{size_answer, after_descramble, after_scramble}
use Rattle.coding_rules.specs.Scramble.{descrambled}
use Rattle.journal_rules.specs.Record.{allowed, Wrote}
use Rattle.journal_rules.specs.Reading.{is_frame, is_gap, read_of}
use Rattle.journal_rules.specs.declared.Body.{Body}
use Rattle.journal_rules.specs.declared.Body.TheVariants.{Frame, Gap}
use Rattle.journal_rules.specs.declared.Entry.{Entry}
use Rattle.merge_recorder_rules.specs.Steps.{both_of, merge_need, MergeSteppedBy, MergeFlushedBy}
use Rattle.merge_recorder_rules.specs.declared.MergeRecorder.{MergeRecorder}
use Rattle.merge_recorder_rules.specs.declared.MergeStepped.{MergeStepped}
use Rattle.merger_rules.specs.Merging.{is_late, is_near, held_of, push_of}
use Rattle.merger.specs.States.{view_of, PushGave}
use Rattle.merger.specs.declared.AfterPush.{AfterPush}
use Rattle.merger.specs.declared.Merger.{Merger}
use Rattle.merger_rules.specs.declared.Position.{Position}
use Rattle.merger_rules.specs.declared.Keeping.{Keeping}
use Rattle.merger_rules.specs.declared.Keeping.TheVariants as keeping
use Rattle.protected_rules.specs.Table.{Admitted, admits}
use Rattle.recorder_rules.specs.Makings.{Making, Sequential, Trying}
use Rattle.recorder_rules.specs.Steps.{dibits_of, SteppedBy}
use Rattle.recorder_rules.specs.declared.Recorder.{Recorder}
use Rattle.recorder_rules.specs.declared.Stepped.{Stepped}
use Rattle.sync.specs.Answers.{PushedBy}
use Rattle.sync.specs.Feeds.{FedBy}
use Rattle.sync_steps.specs.Feeds.{fed_of}
use Rattle.sync_inputs.specs.Inputs.{hardly, softly, unpacked}
use Rattle.sync_frames.specs.Frames.{heads_of}
use Rattle.sync.specs.View.{view}
use Rattle.sync.specs.declared.Fed.{Fed}
use Rattle.sync.specs.declared.Pushed.{Pushed}
use Rattle.sync.specs.declared.Synchroniser.{Synchroniser}
use Rattle.sync_rules.specs.Pushes.{run}
use Rattle.sync_rules.specs.State.{State, Input, hard}
use Rattle.sync_rules.specs.declared.Head.{Head}
use Rattle.tail_rules.specs.Calls.{erasable, NotErasable, tail_answer, tail_leaves, word_answer, word_leaves}
use Rattle.tail_rules.specs.Encode as making
use Rattle.tail_rules.specs.Repair.{Answer, refused, repaired, Repairs, repair_of}
use Rattle.voice_rules.specs.Calls.{encode_answer, encode_leaves, decode_answer, soft_answer, no_payload, payload_in}
use Rattle.voice_rules.specs.Hard.{decoded_word}
use Rattle.voice_rules.specs.Soft.{softly_decoded_word}
use Rattle.voice_rules.specs.Trial.{Outcome, heard, silent}
use Rattle.voice_rules.specs.declared.Speech.{Speech}
use Rattle.bits.specs.declared.Refusal.{Refusal}

-- ---- document 01, 'Numbered refusals': No., given exactly when

pub record Test : Type 0 where
  pub number : ℕ
  pub given : Bool

abbrev pub test : ℕ → Bool → Test
test n b = record { number = n; given = b }

-- dibit above 3
abbrev pub bad_dibit : ℕ → Test
bad_dibit dibit = test 1 (ltb 3 dibit)

-- lent room below 1,296 bytes
abbrev pub small_room : List ℕ → Test
small_room room = test 2 (ltb (length room) 1296)

-- 2^40 dibits already taken
abbrev pub stream_end : State → Test
stream_end state = test 3 (leb (2 ^ 40) state.figures.taken)

-- lent table not admitted, its length included
abbrev pub not_admitted : List ℕ → Test
not_admitted table = test 4 (not (admits table))

-- envelope not 48, payload not 20, word not 42 or tail not 14 bytes
abbrev pub wrong_size : ℕ → List ℕ → Test
wrong_size size bytes = test 5 (not (eqb (length bytes) size))

-- no stage accepts
abbrev pub is_silent : Outcome → Bool
is_silent (heard stage payload corrected) = false
is_silent silent = true

abbrev pub no_speech : Outcome → Test
no_speech outcome = test 6 (is_silent outcome)

-- merger stream not 0 or 1
abbrev pub bad_stream : ℕ → Test
bad_stream stream = test 7 (ltb 1 stream)

-- pushed frame's offset above 2^42
abbrev pub high_offset : ℕ → Test
high_offset offset = test 8 (ltb (2 ^ 42) offset)

-- 16 positions pending and none belongs to the new frame: none lies within 191 of it
unfoldable pub belongs : ℕ → List Position → Bool
belongs offset [] = false
belongs offset (p ∷ ps) = is_near offset p.key || belongs offset ps

abbrev pub no_position : ℕ → List Position → Test
no_position offset pending = test 9 (leb 16 (length pending) && not (belongs offset pending))

-- no repair by the rules below
abbrev pub is_refused : Answer → Bool
is_refused refused = true
is_refused (repaired codeword changed) = false

abbrev pub no_repair : List ℕ → List ℕ → Test
no_repair erased tail = test 10 (is_refused (repair_of erased tail))

-- more than six places, one above 13, or one given twice
abbrev pub bad_erasure : List ℕ → Test
bad_erasure places = test 11 (not (erasable places))

-- a journal record, read or to be written, breaks a rule below, its length included
abbrev pub bad_record : List ℕ → Bool → Test
bad_record bytes rules = test 12 (not (eqb (length bytes) 64 && rules))

-- ---- what it is to refuse

-- the number of the first of these tests that is given; 0: nothing is refused
unfoldable pub first_number : List Test → ℕ
first_number [] = 0
first_number (t ∷ ts) = cond t.given t.number (first_number ts)

-- a call refuses by these tests: the number of its answer is that of the first that is given, and where there is one, `Before`: all is as before
pub record Refuses (tests : List Test) (number : ℕ) (Before : Type 0) : Type 0 where
  pub exactly : number ≡ first_number tests
  pub as_before : (number ≡ 0 → ⊥) → Before

-- ---- the number of an answer, for each kind of answer; 0: it is no refusal

abbrev pub number_in_writing : Result Unit Refusal → ℕ
number_in_writing (Ok u) = 0
number_in_writing (Err r) = number_of r

abbrev pub number_in_repairing : Result ℕ Refusal → ℕ
number_in_repairing (Ok changed) = 0
number_in_repairing (Err r) = number_of r

abbrev pub number_in_decoding : Result Speech Refusal → ℕ
number_in_decoding (Ok speech) = 0
number_in_decoding (Err r) = number_of r

abbrev pub number_in_push : Result Unit Refusal → ℕ
number_in_push (Ok u) = 0
number_in_push (Err r) = number_of r

abbrev pub number_in_keeping : Result Keeping Refusal → ℕ
number_in_keeping (Ok keeping.Kept) = 0
number_in_keeping (Ok keeping.Double) = 0
number_in_keeping (Ok keeping.Late) = 0
number_in_keeping (Err r) = number_of r

abbrev pub number_in_reading : Result Entry Refusal → ℕ
number_in_reading (Ok entry) = 0
number_in_reading (Err r) = number_of r

-- ---- what each call refuses
-- "Order: pushes test 1, 2, 3; encoding and decoding 5, 4, 6; the journal 5, 12; tail repair 5, 11, 10; the merger 7, 8, late, 9. A refused call
-- returns only the number and writes nowhere."
-- Of each call: what it is given, its answer, and last what the memory lent to be written holds afterwards, with a prime.

-- word and envelope, either into the other's lent memory: 5
abbrev pub ScramblingRefuses : List ℕ → List ℕ → Result Unit Refusal → List ℕ → List ℕ → Type 0
ScramblingRefuses envelope word answer lent lent' = Refuses (wrong_size 48 envelope ∷ wrong_size 42 word ∷ []) (number_in_writing answer) (lent' ≡ lent)

-- the repair of a tail, of a word's tail: 5, 11, 10
abbrev pub TailRefuses : List ℕ → List ℕ → Result ℕ Refusal → List ℕ → Type 0
TailRefuses tail places answer tail' =
    Refuses (wrong_size 14 tail ∷ bad_erasure places ∷ no_repair places tail ∷ []) (number_in_repairing answer) (tail' ≡ tail)

abbrev pub WordRefuses : List ℕ → List ℕ → Result ℕ Refusal → List ℕ → Type 0
WordRefuses word places answer word' =
    Refuses (wrong_size 42 word ∷ bad_erasure places ∷ no_repair places (drop 28 word) ∷ []) (number_in_repairing answer) (word' ≡ word)

-- a word's tail made: 5
abbrev pub MakingRefuses : List ℕ → Result Unit Refusal → List ℕ → Type 0
MakingRefuses word answer word' = Refuses (wrong_size 42 word ∷ []) (number_in_writing answer) (word' ≡ word)

-- encoding: 5, 4
abbrev pub EncodingRefuses : List ℕ → List ℕ → List ℕ → Result Unit Refusal → List ℕ → Type 0
EncodingRefuses table payload envelope answer envelope' =
    Refuses (wrong_size 20 payload ∷ wrong_size 48 envelope ∷ not_admitted table ∷ []) (number_in_writing answer) (envelope' ≡ envelope)

-- decoding, hard or soft, by what it hears in a word: 5, 4, 6. Of a refusal nothing but the number comes back: it has no payload, and `payload_in` gives zeros
abbrev pub DecodingRefuses : List ℕ → List ℕ → (List ℕ → Outcome) → Result Speech Refusal → Type 0
DecodingRefuses table envelope hears r =
    Refuses (wrong_size 48 envelope ∷ not_admitted table ∷ no_speech (hears (descrambled envelope)) ∷ []) (number_in_decoding r) (payload_in r ≡ no_payload)

-- a soft push, beside `hard`
abbrev pub soft : ℕ → ℕ → ℕ → Input
soft dibit first second = record { dibit = dibit; of_first = first; of_second = second; soft = true }

-- a push: 1, 2, 3
abbrev pub push_tests : List ℕ → State → ℕ → List Test
push_tests room state dibit = bad_dibit dibit ∷ small_room room ∷ stream_end state ∷ []

-- a push that did nothing: the synchroniser itself comes back, without a frame, and the room is as it was
pub record Unpushed (s : Synchroniser) (room : List ℕ) (r : Pushed) (room' : List ℕ) : Type 0 where
  pub state : r.next ≡ s
  pub nothing : (r.count ≡ 0) × (r.heads ≡ heads_of 3 [])
  pub lent : room' ≡ room

abbrev pub PushRefuses : Synchroniser → Input → List ℕ → Pushed → List ℕ → Type 0
PushRefuses s x room r room' = Refuses (push_tests room (view s) x.dibit) (number_in_push r.answer) (Unpushed s room r room')

-- the tests of the next of these inputs, where there is one
abbrev pub next_tests : List ℕ → State → List Input → List Test
next_tests room state [] = []
next_tests room state (x ∷ xs) = push_tests room state x.dibit

-- A feed is pushes one after the other, up to one that sends frames or is refused, or to the end; `used` of them were made. What it refuses is
-- one push, and the state is the one before that push.
pub record FeedRefuses (s : Synchroniser) (inputs : List Input) (room : List ℕ) (r : Fed) (room' : List ℕ) : Type 0 where
  -- the state is that of the pushes made
  pub state : view r.pushed.next ≡ (run (take r.used inputs) (view s)).next
  -- where no frame was sent, the number is that of the next input's tests in this state; the room is then as it was before the call
  pub refuses : r.pushed.count ≡ 0
      → Refuses (next_tests room (view r.pushed.next) (drop r.used inputs)) (number_in_push r.pushed.answer) ((r.pushed.heads ≡ heads_of 3 []) × (room' ≡ room))
  -- where frames were sent, nothing is refused
  pub sends : 0 < r.pushed.count → number_in_push r.pushed.answer ≡ 0

-- lent memory below what the frames of a push may need: the synchroniser is then lent no room, which is test 2
abbrev pub small_memory : ℕ → List ℕ → Test
small_memory need out = test 2 (ltb (length out) need)

-- a step of a recording, the tests of the next of these dibits, where there is one: 1, 2, 3
abbrev pub step_tests : ℕ → List ℕ → State → List Input → List Test
step_tests need out state [] = []
step_tests need out state (x ∷ xs) = bad_dibit x.dibit ∷ small_memory need out ∷ stream_end state ∷ []

-- a step that handed out nothing: no byte, no accepted frame, the frame before is still the one before, and the lent memory is as it was
pub record Unstepped (r : Recorder) (out : List ℕ) (a : Stepped) (out' : List ℕ) : Type 0 where
  pub nothing : (a.size ≡ 0) × (a.accepted ≡ 0)
  pub earlier : a.next.earlier ≡ r.earlier
  pub lent : out' ≡ out

-- A step is pushes of packed dibits one after the other, up to one that sends frames or is refused, or to the end; `used` of them were made. What it
-- refuses is one push, and the state is the one before that push.
pub record StepRefuses (p : Making) (r : Recorder) (inputs : List Input) (out : List ℕ) (a : Stepped) (out' : List ℕ) : Type 0 where
  -- the state is that of the pushes made
  pub state : view a.next.sync ≡ (run (take a.used inputs) (view r.sync)).next
  -- where they sent no frame, the number is that of the next dibit's tests in this state, and refused, nothing is handed out
  pub refuses : (run (take a.used inputs) (view r.sync)).sent ≡ []
      → Refuses (step_tests p.need out (view a.next.sync) (drop a.used inputs)) (number_in_push a.answer) (Unstepped r out a out')
  -- where they sent frames, nothing is refused
  pub sends : 0 < length (run (take a.used inputs) (view r.sync)).sent → number_in_push a.answer ≡ 0

-- a call of the recorder of two streams that did nothing: both synchronisers, the merger, what waits and the counts are as they were, and nothing is written
pub record Unmerged (r : MergeRecorder) (out : List ℕ) (a : MergeStepped) (out' : List ℕ) : Type 0 where
  pub nothing : (a.used ≡ 0) × (a.size ≡ 0)
  pub state : both_of a.next ≡ both_of r
  pub earlier : a.next.earlier ≡ r.earlier
  pub lent : out' ≡ out

-- the recorder of two streams: 2, where the lent memory is below what one turn may need
abbrev pub MergeStepRefuses : MergeRecorder → List ℕ → MergeStepped → List ℕ → Type 0
MergeStepRefuses r out a out' = Refuses (small_memory merge_need out ∷ []) (number_in_push a.answer) (Unmerged r out a out')

-- the merger: 7, 8, late, 9. Late is an answer and no refusal, and nothing behind it is tested
abbrev pub late : Option ℕ → ℕ → Test
late last offset = test 0 (is_late last offset)

abbrev pub says_late : Result Keeping Refusal → Bool
says_late (Ok keeping.Kept) = false
says_late (Ok keeping.Double) = false
says_late (Ok keeping.Late) = true
says_late (Err r) = false

pub record MergerRefuses (m : Merger) (stream offset : ℕ) (r : AfterPush) : Type 0 where
  -- refused, the merger itself comes back
  pub refuses : Refuses (bad_stream stream ∷ high_offset offset ∷ late m.last offset ∷ no_position offset (view_of m).pending ∷ [])
      (number_in_keeping r.answer) (r.merger ≡ m)
  -- it says late exactly where neither 7 nor 8 is given and the frame is late, and then too the merger itself comes back
  pub says_late_lem : says_late r.answer ≡ (eqb (first_number (bad_stream stream ∷ high_offset offset ∷ [])) 0 && is_late m.last offset)
  pub late_back : says_late r.answer ≡ true → r.merger ≡ m

-- the journal: 5, 12. A frame has an envelope, a gap has none
abbrev pub envelope_tests : Body → List ℕ → List Test
envelope_tests (Frame figures) envelope = wrong_size 48 envelope ∷ []
envelope_tests (Gap span) envelope = []

abbrev pub WritingRefuses : Entry → List ℕ → List ℕ → Result Unit Refusal → List ℕ → Type 0
WritingRefuses entry envelope bytes answer bytes' =
    Refuses (envelope_tests entry.body envelope ++ (bad_record bytes (allowed entry) ∷ [])) (number_in_writing answer) (bytes' ≡ bytes)

-- a record that is read keeps the rules of its kind, 0 or 1
abbrev pub rules_in : List ℕ → Bool
rules_in bytes = cond (eqb (get_or bytes 8 0) 0) (is_frame bytes) (eqb (get_or bytes 8 0) 1 && is_gap bytes)

-- a reading has nothing that could change: a refusal holds the number alone
abbrev pub ReadingRefuses : List ℕ → Result Entry Refusal → Type 0
ReadingRefuses bytes answer = number_in_reading answer ≡ first_number (bad_record bytes (rules_in bytes) ∷ [])

-- ---- the calls

pub record Demand1 : Type 0 where
  -- coding
  pub descramble : (envelope word : List ℕ) → ScramblingRefuses envelope word (size_answer envelope word) word (after_descramble envelope word)
  pub scramble : (word envelope : List ℕ) → ScramblingRefuses envelope word (size_answer envelope word) envelope (after_scramble word envelope)
  -- tail
  pub repair_erasures : (tail places : List ℕ) → TailRefuses tail places (tail_answer places tail) (tail_leaves places tail)
  pub repair : (tail : List ℕ) → TailRefuses tail [] (tail_answer [] tail) (tail_leaves [] tail)
  pub repair_word_erasures : (word places : List ℕ) → WordRefuses word places (word_answer places word) (word_leaves places word)
  pub repair_word : (word : List ℕ) → WordRefuses word [] (word_answer [] word) (word_leaves [] word)
  pub encode_word : (word : List ℕ) → MakingRefuses word (making.encode_answer word) (making.encode_leaves word)
  -- voice_frame and voice_soft
  pub encode : (table payload : List ℕ) (alternate : Bool) (envelope : List ℕ)
      → EncodingRefuses table payload envelope (encode_answer table payload envelope) (encode_leaves table payload alternate envelope)
  pub decode : (table envelope : List ℕ) → DecodingRefuses table envelope (decoded_word table) (decode_answer table envelope)
  pub decode_soft : (table envelope reliabilities : List ℕ)
      → DecodingRefuses table envelope (λ word. softly_decoded_word table word reliabilities) (soft_answer table envelope reliabilities)
  -- sync
  pub push : (s : Synchroniser) (dibit : ℕ) (room : List ℕ) (r : Pushed) (room' : List ℕ)
      → PushedBy room room' s (hard dibit) r → PushRefuses s (hard dibit) room r room'
  pub push_soft : (s : Synchroniser) (dibit first second : ℕ) (room : List ℕ) (r : Pushed) (room' : List ℕ)
      → PushedBy room room' s (soft dibit first second) r → PushRefuses s (soft dibit first second) room r room'
  pub feed : (s : Synchroniser) (dibits room : List ℕ) (r : Fed) (room' : List ℕ)
      → FedBy room room' (fed_of (length room) (hardly dibits) (view s)) r → FeedRefuses s (hardly dibits) room r room'
  pub feed_soft : (s : Synchroniser) (dibits reliable room : List ℕ) (r : Fed) (room' : List ℕ)
      → FedBy room room' (fed_of (length room) (softly dibits reliable) (view s)) r → FeedRefuses s (softly dibits reliable) room r room'
  pub feed_packed : (s : Synchroniser) (bytes : List ℕ) (start : ℕ) (room : List ℕ) (r : Fed) (room' : List ℕ)
      → FedBy room room' (fed_of (length room) (hardly (drop start (unpacked bytes))) (view s)) r → FeedRefuses s (hardly (drop start (unpacked bytes))) room r room'
  -- recorder_steps::step, whatever is laid of the frames; by it recorder_lines::step (the lines of a listing or of the slips) and recorder::step (records or speech)
  pub step : (p : Making) → Sequential p → (r : Recorder) (bytes : List ℕ) (from : ℕ) (out : List ℕ) (a : Stepped) (out' : List ℕ)
      → SteppedBy p out out' (dibits_of bytes from) r a → StepRefuses p r (dibits_of bytes from) out a out'
  -- merge_recorder
  pub merge_step : (try : Trying) (out : List ℕ) (primary : List Input) (over : Bool) (alternate : List Input) (ended : Bool) (r : MergeRecorder) (a : MergeStepped) (out' : List ℕ)
      → MergeSteppedBy try out out' primary over alternate ended r a → MergeStepRefuses r out a out'
  pub merge_flush : (out : List ℕ) (r : MergeRecorder) (a : MergeStepped) (out' : List ℕ) → MergeFlushedBy out out' r a → MergeStepRefuses r out a out'
  -- merger
  pub merger_push : (m : Merger) (stream : ℕ) (figures : Head) (number : ℕ) (check : Bool) (r : AfterPush)
      → PushGave m (push_of stream (held_of figures number check) (view_of m)) r → MergerRefuses m stream figures.offset r
  -- journal
  pub write : (entry : Entry) (envelope bytes : List ℕ) (answer : Result Unit Refusal) (bytes' : List ℕ)
      → Wrote 64 entry envelope bytes answer bytes' → WritingRefuses entry envelope bytes answer bytes'
  pub read : (bytes : List ℕ) → ReadingRefuses bytes (read_of 64 bytes)
  -- tests 4, 11 and 10 compute what document 01 says in words: `Admitted`, `NotErasable`, `Repairs`. The call protected::admitted answers `admits`
  pub admitted : (table : List ℕ) → (admits table ≡ true → Admitted table) × (Admitted table → admits table ≡ true)
  pub erasure : (places : List ℕ) → (erasable places ≡ false → NotErasable places) × (NotErasable places → erasable places ≡ false)
  pub repairs : (places tail : List ℕ) → Repairs places tail (repair_of places tail)

-- All other calls refuse nothing: coding::crc16 (bytes of any number) and markers; field::product, quotient (0 by zero) and power;
-- Synchroniser::new and its figures; recorder_steps::start and recorder_lines::last_line; Merger::new, clear, release (nothing ready is an answer) and
-- merger::chosen (envelopes of any length); journal::gap_to; bits::number_of. A function that is lent tables or has another `requires` serves the
-- crates above it.
