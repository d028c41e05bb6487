-- The journal takes what the decoder says of a frame: it corrects at most 32 bits.
-- Assumes nothing.
use Rattle.std.proofs.Common.{Result, Ok, Err}
use mathlib.Core.Bool.{true}
use mathlib.Core.Path.{◌≡◌, refl}
use Prim.Native.Nat.{◌≤◌}
use borrow.Author.Tests.{le-leb}
use Rattle.journal_rules.specs.Record.{may_correct}
use Rattle.voice_corrected_rules.proofs.Corrected.{few_corrected}
use Rattle.voice_rules.specs.Calls.{decode_answer}
use Rattle.bits.specs.declared.Refusal.{Refusal}
use Rattle.voice_rules.specs.declared.Speech.{Speech}
use Rattle.frame_outcomes.specs.Outcomes.{tried_by, FairOutcomes}

fair_by : (d : Result Speech Refusal) → ((s : Speech) → d ≡ Ok s → s.corrected ≤ 32) → may_correct (tried_by d).outcome (tried_by d).corrected ≡ true
fair_by (Ok s) h = le-leb s.corrected 32 (h s refl)
fair_by (Err x) h = refl

pub tried_fair : FairOutcomes
tried_fair table envelope = fair_by (decode_answer table envelope) (λ s e. few_corrected table envelope s.stage s.corrected s.payload e)
