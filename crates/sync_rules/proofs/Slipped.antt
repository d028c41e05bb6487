-- The moves of the frames sent: what they add up to is what the state counts, and each lies in its range.
-- Assumes nothing.
use mathlib.Core.Path.{◌≡◌, refl, sym, ap, ap₂, ◌∙◌, subst}
use mathlib.Core.List.{List, [], ◌∷◌, ◌++◌}
use Prim.Native.Nat.{ℕ, zero, suc, ◌+◌, ◌-◌, ◌*◌, ◌/◌, ◌≤◌}
use native.Mathlib.Omega.{arith}
use lib.IntN.{ℤ, pos, sub_ℕ, nat_abs, ◌+ℤ◌, ◌-ℤ◌, +ℤ_assoc, +ℤ_idl, +ℤ_idr}
use Rattle.bits.proofs.Conds.{cond_cases}
use Rattle.sync_rules.specs.declared.Moves.{Moves}
use Rattle.sync_rules.specs.Matching.{in_place}
use Rattle.sync_rules.specs.Moves.{Move, Stay, Later, Earlier, moved, in_bits, moves_at, laters, earliers}
use Rattle.sync_rules.specs.State.{State, Input, pending, slips, net_slip, pass, restore, counted, bring}
use Rattle.sync_rules.specs.Frames.{Frame, Sent, ready, front_move, follow, second_shift, second_at, third_shift, third_at, frame_at, leave, send_at, send_shifted, send}
use Rattle.sync_rules.specs.Pushes.{Out, search_at, search, drain, step, run}
use Rattle.sync_rules.specs.Slips.{net_of, slips_of, net_of_all, slips_of_all, Symbols, InRange, AllInRange, SlippedBy, moves_of, move_rule}
use Rattle.sync_rules.proofs.Signed.{sub_add, sub_sub, sub_like}
use Rattle.sync_rules.proofs.Lying.{moved_by, moves_few}

-- moves that are the same one by one
pub same_moves : (f f' s s' t t' : ℤ) → f ≡ f' → s ≡ s' → t ≡ t' → ◌≡◌ {A = Moves} (record { front = f; second = s; third = t }) (record { front = f'; second = s'; third = t' })
same_moves f f' s s' t t' p q r = cc

-- ---- one move, by how it is counted
abbrev pub by : Move → ℤ
by v = sub_ℕ (2 * laters v) (2 * earliers v)

pub front_told : (v : Move) (p q : ℕ) → (moves_at v p q).front ≡ by v
unfolding in_bits laters earliers
front_told Stay p q = refl
front_told Later p q = refl
front_told Earlier p q = refl

halves : (v : Move) → nat_abs (by v) / 2 ≡ laters v + earliers v
unfolding laters earliers
halves Stay = refl
halves Later = refl
halves Earlier = refl

symbols : (k a b i : ℕ) → i ≤ 2 * k → a + 2 * k ≡ 2 * i + b → Symbols k (sub_ℕ a b)
symbols k a b i h e = (i, h, sub_like a b (2 * i) (2 * k) e)

one_symbol : (v : Move) (z : ℤ) → z ≡ by v → Symbols 1 z
one_symbol v z e = let f = moves_few v in subst (Symbols 1) (sym e) (symbols 1 (2 * laters v) (2 * earliers v) (1 + laters v - earliers v) (omega arith) (omega arith))

-- what moves add up to, where each is so many symbols
net_sum : (x : Moves) (a b c d : ℕ) → x.front ≡ sub_ℕ a b → x.third ≡ sub_ℕ c d → net_of x ≡ sub_ℕ (a + c) (b + d)
net_sum x a b c d e f = ap₂ (λ (y z : ℤ). y +ℤ z) e f ∙ sym (sub_add a b c d)

slips_sum : (x : Moves) (v w u : Move) → x.front ≡ by v → x.second ≡ by w → x.third -ℤ x.second ≡ by u → slips_of x ≡ (laters v + earliers v) + (laters w + earliers w) + (laters u + earliers u)
slips_sum x v w u e f g =
    let half : (v : Move) (z : ℤ) → z ≡ by v → nat_abs z / 2 ≡ laters v + earliers v = λ v z e. ap (λ (y : ℤ). nat_abs y / 2) e ∙ halves v in
    ap₂ (λ (i j : ℕ). i + j + nat_abs (x.third -ℤ x.second) / 2) (half v x.front e) (half w x.second f)
    ∙ ap (λ (i : ℕ). (laters v + earliers v) + (laters w + earliers w) + i) (half u (x.third -ℤ x.second) g)

-- ---- a frame, with the moves v, w and u to its front and to its segments
abbrev pub told : Move → Move → Move → Moves
told v w u = moves_at v (moved w 128) (moved u (moved w 128 + 128))

pub second_told : (v w u : Move) → (told v w u).second ≡ by w
unfolding moved laters earliers
second_told v Stay u = refl
second_told v Later u = refl
second_told v Earlier u = refl

third_told : (v w u : Move) → (told v w u).third ≡ sub_ℕ (2 * (laters w + laters u)) (2 * (earliers w + earliers u))
unfolding moved laters earliers
third_told v Stay Stay = refl
third_told v Stay Later = refl
third_told v Stay Earlier = refl
third_told v Later Stay = refl
third_told v Later Later = refl
third_told v Later Earlier = refl
third_told v Earlier Stay = refl
third_told v Earlier Later = refl
third_told v Earlier Earlier = refl

module _ (v w u : Move) where
  pub further_told : (told v w u).third -ℤ (told v w u).second ≡ by u
  further_told =
      ap₂ (λ (y z : ℤ). y -ℤ z) (third_told v w u) (second_told v w u) ∙ sub_sub (2 * (laters w + laters u)) (2 * (earliers w + earliers u)) (2 * laters w) (2 * earliers w)
      ∙ sub_like (2 * (laters w + laters u) + 2 * earliers w) (2 * (earliers w + earliers u) + 2 * laters w) (2 * laters u) (2 * earliers u) (omega arith)

  in_range : InRange (told v w u)
  in_range =
      let f = moves_few w in
      let g = moves_few u in
      record {
        front = one_symbol v _ (front_told v (moved w 128) (moved u (moved w 128 + 128)));
        second = one_symbol w _ (second_told v w u);
        third = subst (Symbols 2) (sym (third_told v w u)) (symbols 2 (2 * (laters w + laters u)) (2 * (earliers w + earliers u)) (2 + laters w + laters u - earliers w - earliers u) (omega arith) (omega arith));
        further = one_symbol u _ further_told;
      }

  one_frame : (m n : State) → n.figures.later ≡ m.figures.later + (laters v + (laters w + laters u)) → n.figures.earlier ≡ m.figures.earlier + (earliers v + (earliers w + earliers u)) → SlippedBy m n (told v w u ∷ [])
  unfolding net_of_all slips_of_all AllInRange
  one_frame m n e f =
      let x = told v w u in
      let front = front_told v (moved w 128) (moved u (moved w 128 + 128)) in
      record {
        net =
            sub_like (2 * n.figures.later) (2 * n.figures.earlier) (2 * m.figures.later + (2 * laters v + 2 * (laters w + laters u))) (2 * m.figures.earlier + (2 * earliers v + 2 * (earliers w + earliers u))) (omega arith)
            ∙ sub_add (2 * m.figures.later) (2 * m.figures.earlier) (2 * laters v + 2 * (laters w + laters u)) (2 * earliers v + 2 * (earliers w + earliers u))
            ∙ ap (λ (z : ℤ). net_slip m +ℤ z) (sym (net_sum x (2 * laters v) (2 * earliers v) (2 * (laters w + laters u)) (2 * (earliers w + earliers u)) front (third_told v w u)) ∙ sym (+ℤ_idr (net_of x)));
        followed = omega (arith, slips_sum x v w u front (second_told v w u) further_told);
        ranges = (in_range, tt);
      }

-- the counts of a followed front move
pub followed : (v : Move) (m : State) → ((follow v m).figures.later ≡ m.figures.later + laters v) × ((follow v m).figures.earlier ≡ m.figures.earlier + earliers v)
unfolding follow counted pass restore laters earliers
followed Stay m = (omega arith, omega arith)
followed Later m = (refl, refl)
followed Earlier m = (refl, refl)

in_place_slips : (m : State) → SlippedBy m (send_at Stay m 128 256).next ((send_at Stay m 128 256).frame.moves ∷ [])
unfolding send_at leave frame_at moved laters earliers
in_place_slips m = one_frame Stay Stay Stay m (send_at Stay m 128 256).next (omega arith) (omega arith)

shifted_slips : (v : Move) (m n : State) → (n.figures.later ≡ m.figures.later + laters v) → (n.figures.earlier ≡ m.figures.earlier + earliers v) → SlippedBy m (send_shifted v n).next ((send_shifted v n).frame.moves ∷ [])
unfolding send_shifted send_at leave frame_at counted
shifted_slips v m n e f = one_frame v (second_shift n) (third_shift n) m (send_shifted v n).next (omega arith) (omega arith)

sent_slips : (m : State) → SlippedBy m (send m).next ((send m).frame.moves ∷ [])
unfolding send
sent_slips m =
    let f = followed (front_move m) m in
    cond_cases (λ (s : Sent). SlippedBy m s.next (s.frame.moves ∷ [])) (in_place (pending m) 0) _ _ (λ t. in_place_slips m) (λ w. shifted_slips (front_move m) m (follow (front_move m) m) f.0 f.1)

-- ---- frames, and pushes
net_append : (vs ws : List Moves) → net_of_all (vs ++ ws) ≡ net_of_all vs +ℤ net_of_all ws
unfolding net_of_all
net_append [] ws = sym (+ℤ_idl (net_of_all ws))
net_append (v ∷ vs) ws = ap (λ (z : ℤ). net_of v +ℤ z) (net_append vs ws) ∙ sym (+ℤ_assoc (net_of v) (net_of_all vs) (net_of_all ws))

slips_append : (vs ws : List Moves) → slips_of_all (vs ++ ws) ≡ slips_of_all vs + slips_of_all ws
unfolding slips_of_all
slips_append [] ws = omega arith
slips_append (v ∷ vs) ws = omega (arith, slips_append vs ws)

range_append : (vs ws : List Moves) → AllInRange vs → AllInRange ws → AllInRange (vs ++ ws)
unfolding AllInRange
range_append [] ws a b = b
range_append (v ∷ vs) ws a b = (a.0, range_append vs ws a.1 b)

moves_append : (fs gs : List Frame) → moves_of (fs ++ gs) ≡ moves_of fs ++ moves_of gs
unfolding moves_of
moves_append [] gs = refl
moves_append (f ∷ fs) gs = ap (λ (vs : List Moves). f.moves ∷ vs) (moves_append fs gs)

-- no frame, and the counts stay
none : (m n : State) → n.figures.later ≡ m.figures.later → n.figures.earlier ≡ m.figures.earlier → SlippedBy m n []
unfolding net_of_all slips_of_all AllInRange
none m n e f = record { net = ap₂ (λ (i j : ℕ). sub_ℕ (2 * i) (2 * j)) e f ∙ sym (+ℤ_idr (net_slip m)); followed = omega arith; ranges = tt }

then : (m n o : State) (vs ws : List Moves) → SlippedBy m n vs → SlippedBy n o ws → SlippedBy m o (vs ++ ws)
then m n o vs ws u w =
    record {
      net =
          w.net ∙ ap (λ (z : ℤ). z +ℤ net_of_all ws) u.net ∙ +ℤ_assoc (net_slip m) (net_of_all vs) (net_of_all ws)
          ∙ ap (λ (z : ℤ). net_slip m +ℤ z) (sym (net_append vs ws));
      followed = omega (arith, u.followed, w.followed, slips_append vs ws);
      ranges = range_append vs ws u.ranges w.ranges;
    }

drain_slips : (n : ℕ) (m : State) → SlippedBy m (drain n m).next (moves_of (drain n m).sent)
unfolding drain moves_of
drain_slips zero m = none m m refl refl
drain_slips (suc n) m =
    cond_cases (λ (o : Out). SlippedBy m o.next (moves_of o.sent)) (ready m) _ _
    (λ t. let s = send m in then m s.next (drain n s.next).next (s.frame.moves ∷ []) (moves_of (drain n s.next).sent) (sent_slips m) (drain_slips n s.next))
    (λ w. none m m refl refl)

search_slips : (x : Input) (m : State) → SlippedBy m (search (bring x m)) []
unfolding search search_at bring
search_slips x m = cond_cases (λ (n : State). SlippedBy m n []) m.figures.locked _ _ (λ t. none m _ refl refl) (λ w. none m _ refl refl)

step_slips : (x : Input) (m : State) → SlippedBy m (step x m).next (moves_of (step x m).sent)
unfolding step
step_slips x m =
    let n = search (bring x m) in
    then m n (drain 3 n).next [] (moves_of (drain 3 n).sent) (search_slips x m) (drain_slips 3 n)

pub move_rule_lem : move_rule
unfolding run moves_of
move_rule_lem m [] = none m m refl refl
move_rule_lem m (x ∷ xs) =
    let n = (step x m).next in
    subst (SlippedBy m (run xs n).next) (sym (moves_append (step x m).sent (run xs n).sent))
    (then m n (run xs n).next (moves_of (step x m).sent) (moves_of (run xs n).sent) (step_slips x m) (move_rule_lem n xs))
