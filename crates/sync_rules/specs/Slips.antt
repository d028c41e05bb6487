-- What the moves of frames add up to (document 02, A3).
-- Assumes nothing.
use Rattle.std.specs.Prelude.{◌≡◌, List, [], ◌∷◌, ℕ, ◌+◌, ◌*◌, ◌/◌, ◌≤◌, ℤ, pos, nat_abs, ◌+ℤ◌, ◌-ℤ◌}
use Rattle.std.proofs.Math.IntN.{sub_ℕ}
use Rattle.sync_rules.specs.declared.Moves.{Moves}
use Rattle.sync_rules.specs.State.{State, Input, slips, net_slip}
use Rattle.sync_rules.specs.Frames.{Frame}
use Rattle.sync_rules.specs.Pushes.{run}

-- by how many bits a frame makes the net slip rise: "front moves and third-segment shifts"
abbrev pub net_of : Moves → ℤ
net_of v = v.front +ℤ v.third

-- How many slips it follows, counted at each place where it can follow one: at its front, at its second segment and at its third. Each is a symbol,
-- two bits, to one side or the other; at the third segment it is what the shift there has more than the second's.
abbrev pub slips_of : Moves → ℕ
slips_of v = nat_abs v.front / 2 + nat_abs v.second / 2 + nat_abs (v.third -ℤ v.second) / 2

-- both, added up over frames
unfoldable pub net_of_all : List Moves → ℤ
net_of_all [] = pos 0
net_of_all (v ∷ vs) = net_of v +ℤ net_of_all vs

unfoldable pub slips_of_all : List Moves → ℕ
slips_of_all [] = 0
slips_of_all (v ∷ vs) = slips_of v + slips_of_all vs

-- an even number of bits from -2n to 2n
abbrev pub Symbols : ℕ → ℤ → Type 0
Symbols n z = (i : ℕ) × (i ≤ 2 * n) × (z ≡ sub_ℕ (2 * i) (2 * n))

-- "its front (-2, 0 or 2) and the shifts in force at its second segment (-2 to 2) and third (-4 to 4)", all even; and the third's is no more than a symbol
-- from the second's
pub record InRange (v : Moves) : Type 0 where
  pub front : Symbols 1 v.front
  pub second : Symbols 1 v.second
  pub third : Symbols 2 v.third
  pub further : Symbols 1 (v.third -ℤ v.second)

unfoldable pub AllInRange : List Moves → Type 0
AllInRange [] = Unit {0}
AllInRange (v ∷ vs) = InRange v × AllInRange vs

-- From the state m to the state n, while frames with the moves vs went out.
pub record SlippedBy (m n : State) (vs : List Moves) : Type 0 where
  -- "the net slip equals the sum of front moves and third-segment shifts of the frames sent"
  pub net : net_slip n ≡ net_slip m +ℤ net_of_all vs
  -- the slips followed are the frames' own, one by one
  pub followed : slips n ≡ slips m + slips_of_all vs
  pub ranges : AllInRange vs

unfoldable pub moves_of : List Frame → List Moves
moves_of [] = []
moves_of (f ∷ fs) = f.moves ∷ moves_of fs

-- "Over any run": of any pushes, from any state on
abbrev pub move_rule : Type 0
move_rule = (m : State) (xs : List Input) → SlippedBy m (run xs m).next (moves_of (run xs m).sent)
