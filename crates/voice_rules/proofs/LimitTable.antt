-- The table of limits, computed from the trials.
-- Assumes nothing.
use mathlib.Core.Path.{refl}
use Rattle.voice_rules.specs.Candidate.{candidate_tests, repair_tests, trial}
use Rattle.voice_rules.specs.Hard.{hard_trial, plain_trial, repair_trial, joint_tests, joint_trial, trials_by, hard_trials}
use Rattle.voice_rules.specs.LimitTable.{LimitTable}
use Rattle.voice_rules.specs.Soft.{soft_trial, mended_trial, mended_trials, soft_repairs, soft_trials}

pub limit_table : LimitTable
unfolding candidate_tests repair_tests trial hard_trial plain_trial repair_trial joint_tests joint_trial trials_by hard_trials soft_trial mended_trial mended_trials soft_repairs soft_trials
limit_table = record { hard = λ table word. refl; soft = λ table word rs. refl }
