-- The numbers of the kinds (docs/REPLAY.md, "A case").
-- Assumes nothing.
use Rattle.std.specs.Prelude.{◌≡◌, ◌⊎◌, ◌<◌, ℕ, Result, MatchResult}
use Rattle.replay_bytes.specs.declared.kind.Kind.{Kind}
use Rattle.replay_bytes.specs.declared.kind.Kind.TheVariants.{Checksum, Scrambling, Descrambling, Field, Tail, TailRepair, WordRepair, Table, Encoding, Decoding, SoftDecoding, NewSynchroniser, Push, SoftPush, NewMerger, MergerPush, MergerRelease, Feed, SoftFeed, PackedFeed}
use Rattle.replay_bytes.specs.declared.kind.UnknownKind.{UnknownKind}

-- the number in a list
abbrev pub kind_number : Kind → ℕ
kind_number Checksum = 1
kind_number Scrambling = 2
kind_number Descrambling = 3
kind_number Field = 4
kind_number Tail = 5
kind_number TailRepair = 6
kind_number WordRepair = 7
kind_number Table = 8
kind_number Encoding = 9
kind_number Decoding = 10
kind_number SoftDecoding = 11
kind_number NewSynchroniser = 12
kind_number Push = 13
kind_number SoftPush = 14
kind_number NewMerger = 15
kind_number MergerPush = 16
kind_number MergerRelease = 17
kind_number Feed = 18
kind_number SoftFeed = 19
kind_number PackedFeed = 20

-- the kind with this number, or that none has it
abbrev pub Named : ℕ → Result Kind UnknownKind → Type 0
Named number r = MatchResult r (λ kind. number ≡ kind_number kind) (λ e. (e.0 ≡ number) × ((number ≡ 0) ⊎ (20 < number)))
