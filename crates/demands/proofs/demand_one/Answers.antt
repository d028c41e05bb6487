-- Demand 1, field by field.
-- Assumes nothing.
use mathlib.Core.List.{[]}
use lib.ListN.{drop}
use Rattle.protected_rules.proofs.Admission.{admits_admitted, admitted_admits}
use Rattle.recorder_rules.specs.Steps.{dibits_of}
use Rattle.sync_inputs.specs.Inputs.{hardly, softly, unpacked}
use Rattle.sync_rules.specs.State.{hard}
use Rattle.tail_rules.proofs.ErasedPlaces.{not_erasable, erasable_not}
use Rattle.tail_rules.proofs.Searching.{means}
use Rattle.demands.specs.Demand1.{soft}
use Rattle.demands.proofs.RefusedSizes as sizes
use Rattle.demands.proofs.RefusedPushes.{push_refuses, feed_refuses}
use Rattle.demands.proofs.RefusedSteps.{step_refuses}
use Rattle.demands.proofs.RefusedMerges.{merge_step, merge_flush}
use Rattle.demands.proofs.RefusedFrames.{merger_push, write, read}
use Rattle.demands.proofs.demand_one.Goals as goal

pub returns : goal.returns
returns c =
    record {
      descramble = sizes.descramble;
      scramble = sizes.scramble;
      repair_erasures = sizes.repair_erasures;
      repair = λ tail. sizes.repair_erasures tail [];
      repair_word_erasures = sizes.repair_word_erasures;
      repair_word = λ word. sizes.repair_word_erasures word [];
      encode_word = sizes.encode_word;
      encode = sizes.encode;
      decode = sizes.decode;
      decode_soft = sizes.decode_soft;
      push = λ s dibit. push_refuses s (hard dibit);
      push_soft = λ s dibit first second. push_refuses s (soft dibit first second);
      feed = λ s dibits. feed_refuses s (hardly dibits);
      feed_soft = λ s dibits reliable. feed_refuses s (softly dibits reliable);
      feed_packed = λ s bytes start. feed_refuses s (hardly (drop start (unpacked bytes)));
      step = λ p q r bytes from. step_refuses p q r (dibits_of bytes from);
      merge_step = merge_step;
      merge_flush = merge_flush;
      merger_push = merger_push;
      write = write;
      read = read;
      admitted = λ table. (admits_admitted table, admitted_admits table);
      erasure = λ places. (not_erasable places, erasable_not places);
      repairs = means;
    }
