-- Document 01's starred examples of the protected frame, by computing.
-- Assumes nothing.
use mathlib.Core.Bool.{true, false}
use mathlib.Core.List.{[], ◌∷◌, ◌++◌}
use mathlib.Core.Path.{◌≡◌, refl}
use lib.Count.{ones, ones_in}
use lib.ListN.{set, replicate}
use Rattle.bits.specs.Bit.{tab}
use Rattle.protected_rules.specs.Table.{count, index_of, odd_fits, even_fits, each_once, admits}
use Rattle.protected_rules.specs.StandIn.{stand_in}
use Rattle.protected_rules.specs.Convolution.{parity_of, state_after, entry_bit, convolved}

-- the stand-in table is admitted
pub stand_in_admitted : admits stand_in ≡ true
unfolding admits odd_fits even_fits each_once stand_in count
stand_in_admitted = refl

-- with its number 14 (entry 15) replaced by 13 it is not
pub replaced_refused : admits (set stand_in 15 13) ≡ false
unfolding admits odd_fits even_fits each_once stand_in count
replaced_refused = refl

-- nor where an entry is too many, 176 stands at an odd entry, or 176 or 254 at an even one
pub longer_refused : admits (stand_in ++ (255 ∷ [])) ≡ false
unfolding admits odd_fits even_fits each_once stand_in count
longer_refused = refl

pub odd_refused : admits (set (set stand_in 0 0) 1 176) ≡ false
unfolding admits odd_fits even_fits each_once stand_in count
odd_refused = refl

pub even_refused : (admits (set stand_in 0 176) ≡ false) × (admits (set stand_in 0 254) ≡ false)
unfolding admits odd_fits even_fits each_once stand_in count
even_refused = (refl, refl)

-- only input bit 93 set: coded bits 174 and 175 alone are one
pub last_bit : convolved stand_in (replicate 93 0 ++ (1 ∷ [])) ≡ replicate 174 0 ++ (1 ∷ 1 ∷ [])
unfolding convolved tab entry_bit index_of stand_in parity_of state_after ones ones_in
last_bit = refl
