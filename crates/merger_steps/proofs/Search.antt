-- The code's one search: how many of the first n positions lie below a frame. Assumes nothing.
use Rattle.std.proofs.Common.{◌≡◌, ℕ, suc, ◌+◌, ◌-◌, ◌≤◌, List, Option, Some, None, Bool, not, cond, nat_le, nat_lt, ltb, length, take, refl, sym, ◌∙◌, arith}
use Rattle.std.specs.Prelude.{position}
use Rattle.std.specs.List.{position_or_len}
use Rattle.std.specs.Option.{unwrap_or}
use Rattle.std.proofs.lemmas.Bool.Decides.{nat_tests}
use Rattle.std.proofs.lemmas.List.Recursion.{is_position_or_len}
use Rattle.bits.proofs.Conds.{cond_cases}
use Rattle.std.proofs.lemmas.List.Sums.{prefix_len-le-length}
use borrow.Author.Tests.{ltb-false}
use lib.Seq.{length-take-le}
use Rattle.merger_rules.specs.declared.Position.{Position}
use Rattle.merger_rules.specs.States.{below_of}

-- the key reaches up to a lowest one
abbrev pub reaches : ℕ → Position → Bool
reaches lowest p = nat_le lowest p.key

step : (o k b : ℕ) → cond (ltb (k + 191) o) (suc b) 0 ≡ cond (nat_le (o - 191) k) 0 (1 + b)
step o k b = grind (arith, nat_tests)

-- the positions that lie below are those before the first that does not
below_first : (o : ℕ) (l : List Position) → below_of o l ≡ position_or_len (reaches (o - 191)) l
unfolding below_of
below_first o l = is_position_or_len (below_of o) (reaches (o - 191)) refl (λ p ps. step o p.key (below_of o ps)) l

-- what is found at i of m, or n where nothing is found
placed : (i m n : ℕ) → m ≡ n → i ≤ n → unwrap_or (cond (nat_lt i m) (Some i) None) n ≡ i
placed i m n e h = cond_cases Q (nat_lt i m) (Some i) None (λ _. refl) (λ f. let g : m ≤ i = ltb-false i m f in omega arith)
  where
    Q : Option ℕ → Type 0
    Q o = unwrap_or o n ≡ i

pub below_found : (o n : ℕ) (l : List Position) → n ≤ length l → (unwrap_or (position (reaches (o - 191)) (take n l)) n ≡ below_of o (take n l)) × (below_of o (take n l) ≤ n)
below_found o n l h =
    let k : length (take n l) ≡ n = length-take-le n l h in
    let f : below_of o (take n l) ≡ position_or_len (reaches (o - 191)) (take n l) = below_first o (take n l) in
    let g : position_or_len (reaches (o - 191)) (take n l) ≤ length (take n l) = prefix_len-le-length (λ (p : Position). not (reaches (o - 191) p)) (take n l) in
    (placed _ _ n k (omega arith) ∙ sym f, omega arith)
