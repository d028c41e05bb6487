-- What is read of an input: numbers of eight bytes, and a refusal's number in a byte.
-- Assumes nothing.
use Rattle.std.proofs.Common.{◌≡◌, sym, ap, ◌∙◌, List, ℕ, ◌+◌, ◌-◌, ◌<◌, ◌≤◌, Result, Ok, Err, length, get_or, take, drop}
use Rattle.std.proofs.lemmas.List.{take_rest, length-drop, length-take-le}
use native.Mathlib.Omega.{arith}
use lib.Seq.{get_or-take}
use Rattle.bits.specs.Bit.{tab}
use Rattle.bits.specs.Refusals.{number_of}
use Rattle.bits.specs.declared.Refusal.{Refusal}
use Rattle.bits.specs.declared.Refusal.TheVariants.{Dibit, FrameRoom, StreamEnd, Table, Size, NoSpeech, Stream, Offset, Positions, Tail, Erasure, Record, Moves, Cut, SoftRecord, Reliability, Break, Outside, Index}
use Rattle.bits.proofs.Tabs.{is_tab}
use Rattle.merger_rules.specs.declared.Keeping.{Keeping}
use Rattle.merger_rules.specs.declared.Keeping.TheVariants.{Kept, Double, Late}
use Rattle.replay_merger_bytes.specs.MergerBytes.{pushed_number}

first_eight : (l : List ℕ) → 8 ≤ length l → tab 8 (λ i. get_or l i 0) ≡ take 8 l
first_eight l h = sym (is_tab (take 8 l) 8 (λ i. get_or l i 0) (length-take-le 8 l h) (λ k j. get_or-take 8 l k 0 j))

pub eight_taken : (input : List ℕ) (from : ℕ) → from + 8 ≤ length input → tab 8 (λ i. get_or (take (length input - from) (drop from input)) i 0) ≡ take 8 (drop from input)
eight_taken input from h = ap (λ (l : List ℕ). tab 8 (λ i. get_or l i 0)) (take_rest input from) ∙ first_eight (drop from input) (simp length-drop (omega arith))

number_few : (r : Refusal) → number_of r < 20
number_few Dibit = omega arith
number_few FrameRoom = omega arith
number_few StreamEnd = omega arith
number_few Table = omega arith
number_few Size = omega arith
number_few NoSpeech = omega arith
number_few Stream = omega arith
number_few Offset = omega arith
number_few Positions = omega arith
number_few Tail = omega arith
number_few Erasure = omega arith
number_few Record = omega arith
number_few Moves = omega arith
number_few Cut = omega arith
number_few SoftRecord = omega arith
number_few Reliability = omega arith
number_few Break = omega arith
number_few Outside = omega arith
number_few Index = omega arith

-- so that 100 plus it is a byte
pub few : (a : Result Keeping Refusal) → pushed_number a < 120
few (Ok Kept) = omega arith
few (Ok Double) = omega arith
few (Ok Late) = omega arith
few (Err r) = omega (arith, number_few r)
