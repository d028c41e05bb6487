-- A table is admitted in one way only, and so are bits: what a ghost field holds has at most one proof. A reader of the promises needs none of it.
-- Assumes nothing.
use Rattle.std.specs.Prelude.{List, ◌⊎◌, ◌≡◌, ℕ, ◌+◌, ◌*◌, ◌<◌, length, get_or}
use Rattle.std.proofs.Common.{inl, inr, ap, arith}
use Rattle.std.proofs.Props.{props}
use Rattle.bits.specs.Bit.{Bits}
use Rattle.protected_rules.specs.Table.{count, Admitted}

below_or_255 : (e : ℕ) → IsProp ((e < 176) ⊎ (e ≡ 255))
below_or_255 e (inl a) (inl b) = let one : IsProp (e < 176) = hlevel props in ap inl (one a b)
below_or_255 e (inr a) (inr b) = let one : IsProp (e ≡ 255) = hlevel props in ap inr (one a b)
below_or_255 e (inl a) (inr b) = absurd (omega arith)
below_or_255 e (inr a) (inl b) = absurd (omega arith)

pub Admitted_prop : (table : List ℕ) → IsProp (Admitted table)
Admitted_prop table x y =
    let long : IsProp (length table ≡ 188) = hlevel props in
    let odd : IsProp ((t : ℕ) → t < 94 → get_or table (2 * t + 1) 0 < 176) = hlevel props in
    let once : IsProp ((k : ℕ) → k < 176 → count k table ≡ 1) = hlevel props in
    λ i. record {
      long = long x.long y.long i;
      odd = odd x.odd y.odd i;
      even = λ t h. below_or_255 (get_or table (2 * t) 0) (x.even t h) (y.even t h) i;
      once = once x.once y.once i;
    }

pub Bits_prop : (l : List ℕ) → IsProp (Bits l)
Bits_prop l x y =
    let one : IsProp ((k : ℕ) → get_or l k 0 < 2) = hlevel props in
    λ i. record { at = one x.at y.at i }
