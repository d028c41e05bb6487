-- What a decoding tries after a path search is the nearest, since the search finds it and there is only one.
-- Assumes nothing.
use mathlib.Core.List.{List, [], ◌∷◌}
use mathlib.Core.Path.{◌≡◌, ap, ap₂, subst}
use Prim.Native.Nat.{ℕ, ◌-◌}
use native.Mathlib.Omega.{arith}
use lib.ListN.{get_or}
use Rattle.bits.specs.Bit.{Bytes}
use Rattle.bits.proofs.Belows.{below_tab}
use Rattle.bits.proofs.Sums.{sum_ext}
use Rattle.bits.proofs.Tabs.{tab_at}
use Rattle.voice_path_rules.specs.Nearest.{weight_apart, Nearest}
use Rattle.voice_path_rules.specs.Path.{disagree, searched, searched_by}
use Rattle.voice_path_rules.proofs.Nearest.{nearest_path}
use Rattle.protected_rules.specs.Convolution.{convolved}
use Rattle.protected_rules.specs.Table.{Admitted}
use Rattle.protected_rules.specs.Word.{coded, coded_place}
use Rattle.protected_rules.proofs.WordBits.{coded_bits, coded_at}
use Rattle.voice_rules.specs.declared.Stage.TheVariants.{StageC}
use Rattle.voice_rules.specs.Candidate.{low_flag, valid_mode, valid_crc}
use Rattle.voice_rules.specs.Hard.{succeeds, mended, plain_trial, repair_trial, joint_trial, trials_by, hard_trials}
use Rattle.voice_rules.specs.Soft.{reliability, weights_of, soft_trial, mended_trials, soft_repairs, soft_trials}
use Rattle.voice_rules.specs.Nearest.{bits_away, reliability_away, repair_in, NearestTried}

module _ (table : List ℕ) (a : Admitted table) (word : List ℕ) where
  found : (x : List ℕ) → Nearest (bits_away table word) x → searched table (coded word) ≡ x
  found x n = nearest_path.only (bits_away table word) (searched table (coded word)) x (nearest_path.hard table (coded word) a (coded_bits word)) n

  module _ (rs : List ℕ) (b : Bytes rs) where
    weights_bytes : Bytes (weights_of rs)
    unfolding weights_of
    weights_bytes = below_tab 176 _ (omega arith) (λ m h. b.at _)

    -- the weights are the reliabilities of the coded bits' places
    by_place : (x : List ℕ) → weight_apart (weights_of rs) (convolved table x) (coded word) ≡ reliability_away table word rs x
    unfolding weight_apart weights_of
    by_place x =
        sum_ext 176 _ _ (λ m h.
        ap₂ (λ (w c : ℕ). disagree w (get_or (convolved table x) m 0) c) (tab_at 176 (λ m. reliability rs (coded_place m)) m h) (coded_at word m h))

    found_softly : (x : List ℕ) → Nearest (reliability_away table word rs) x → searched_by table (coded word) (weights_of rs) ≡ x
    found_softly x n =
        nearest_path.only (reliability_away table word rs) (searched_by table (coded word) (weights_of rs)) x
        (subst (λ (away : List ℕ → ℕ). Nearest away (searched_by table (coded word) (weights_of rs))) (λ i x. by_place x i)
        (nearest_path.weighted table (coded word) (weights_of rs) a weights_bytes))
        n

pub nearest_tried : NearestTried
unfolding hard_trials trials_by soft_trials
nearest_tried =
    record {
      stage_b = λ table word x a n.
          ap (λ (y : List ℕ). repair_trial table word (succeeds (repair_in word)) (mended word (repair_in word)) y ∷ [])
          (found table a (mended word (repair_in word)) x n);
      stage_c = λ table word x a n. ap (λ (y : List ℕ). plain_trial StageC table word y ∷ []) (found table a word x n);
      stage_d = λ table word x a n.
          ap (λ (y : List ℕ). joint_trial table word y (low_flag word) ∷ joint_trial table word y (1 - low_flag word) ∷ []) (found table a word x n);
      soft = λ table word rs x a b n.
          ap (λ (y : List ℕ). soft_trial table word word y (valid_mode word ∷ valid_crc word ∷ []) ∷ mended_trials table word y (word ∷ []) (soft_repairs word rs))
          (found_softly table a word rs b x n);
    }
