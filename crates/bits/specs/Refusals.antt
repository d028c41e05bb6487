-- Document 01, 'Numbered refusals' (1 to 12), and document 02 (13 to 19): the number of each.
-- Assumes nothing.
use Rattle.std.specs.Prelude.{ℕ}
use Rattle.bits.specs.declared.Refusal.{Refusal}
use Rattle.bits.specs.declared.Refusal.TheVariants.{Dibit, FrameRoom, StreamEnd, Table, Size, NoSpeech, Stream, Offset, Positions, Tail, Erasure, Record, Moves, Cut, SoftRecord, Reliability, Break, Outside, Index}

abbrev pub number_of : Refusal → ℕ
number_of Dibit = 1
number_of FrameRoom = 2
number_of StreamEnd = 3
number_of Table = 4
number_of Size = 5
number_of NoSpeech = 6
number_of Stream = 7
number_of Offset = 8
number_of Positions = 9
number_of Tail = 10
number_of Erasure = 11
number_of Record = 12
number_of Moves = 13
number_of Cut = 14
number_of SoftRecord = 15
number_of Reliability = 16
number_of Break = 17
number_of Outside = 18
number_of Index = 19
