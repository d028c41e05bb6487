-- The frames in a room's slots, what is laid of one more of them, and that it finds room.
-- Assumes nothing.
use mathlib.Core.Path.{◌≡◌, refl, sym, ap, ◌∙◌, subst}
use mathlib.Core.Bool.{Bool}
use mathlib.Core.List.{List, [], ◌∷◌, ◌++◌}
use Prim.Native.Nat.{ℕ, zero, suc, ◌+◌, ◌*◌, ◌≤◌, ◌<◌}
use Prim.Native.Nat.mul
use native.Mathlib.Numerals.{add-one}
use native.Mathlib.Omega.{arith}
use lib.ListN.{length, get_or, take, drop, length-take, length-drop}
use lib.Seq.{length-sets, take-suc, length-take-le}
use Rattle.bits.proofs.Conds.{cond_both}
use Rattle.bits.specs.Alls.{All}
use Rattle.recorder_rules.specs.Makings.{Making, Sequential, WholeFrame, accepted_in}
use Rattle.recorder_rules.specs.Steps.{LaidBy}
use Rattle.recorder_rules.specs.declared.Laid.{Laid}
use Rattle.recorder_rules.proofs.Laying.{laid_append}
use Rattle.sync_call_rules.specs.Calls.{Got, slots}
use Rattle.sync_rules.specs.Frames.{no_head}
use Rattle.sync_rules.specs.Sizes.{slot_size}
use Rattle.sync_rules.specs.declared.Head.{Head}

-- the frame with this head in slot k
abbrev in_slot : Head → List ℕ → ℕ → Got
in_slot h room k = record { head = h; envelope = take 48 (drop (slot_size * k) room) }

pub slots_append : (hs js : List Head) (room : List ℕ) (k : ℕ) → slots (hs ++ js) room k ≡ slots hs room k ++ slots js room (k + length hs)
unfolding slots
slots_append [] js room k = let e : k ≡ k + 0 = omega arith in ap (slots js room) e
slots_append (h ∷ hs) js room k =
    let e : suc k + length hs ≡ k + suc (length hs) = omega arith in
    ap (λ (l : List Got). in_slot h room k ∷ l) (slots_append hs js room (suc k) ∙ ap (λ (i : ℕ). slots hs room (suc k) ++ slots js room i) e)

slots_next : (heads : List Head) (room : List ℕ) (k : ℕ) → k < length heads → slots (take (k + 1) heads) room 0 ≡ slots (take k heads) room 0 ++ (in_slot (get_or heads k no_head) room k ∷ [])
unfolding slots
slots_next heads room k h =
    let n : length (take k heads) ≡ k = length-take-le k heads (omega arith) in
    let z : 0 + length (take k heads) ≡ k = omega arith in
    ap (λ (i : ℕ). slots (take i heads) room 0) (add-one k)
    ∙ ap (λ (hs : List Head). slots hs room 0) (take-suc heads k no_head h)
    ∙ slots_append (take k heads) (get_or heads k no_head ∷ []) room 0
    ∙ ap (λ (i : ℕ). slots (take k heads) room 0 ++ (in_slot (get_or heads k no_head) room i ∷ [])) z

-- ---- what is laid of them

-- one more frame, with the envelope of its slot
pub laid_next : (p : Making) → Sequential p → (heads : List Head) (room out mid left : List ℕ) (before between after : Laid) (k : ℕ) (envelope : List ℕ) → k < length heads
    → envelope ≡ take 48 (drop (slot_size * k) room) → LaidBy p out mid before (slots (take k heads) room 0) between
    → LaidBy p mid left between (record { head = get_or heads k no_head; envelope = envelope } ∷ []) after → LaidBy p out left before (slots (take (k + 1) heads) room 0) after
laid_next p s heads room out mid left before between after k envelope h e a b =
    let g : Got = in_slot (get_or heads k no_head) room k in
    let one : LaidBy p mid left between (g ∷ []) after = subst (λ (l : List ℕ). LaidBy p mid left between (record { head = get_or heads k no_head; envelope = l } ∷ []) after) e b in
    subst (λ (gs : List Got). LaidBy p out left before gs after) (sym (slots_next heads room k h))
    (laid_append p s out mid left before between after (slots (take k heads) room 0) (g ∷ []) a one)

-- the memory stays as long as it was
pub laid_length : (p : Making) (out left : List ℕ) (before after : Laid) (gs : List Got) → LaidBy p out left before gs after → length left ≡ length out
laid_length p out left before after gs l = ap length l.stored ∙ length-sets out before.size (p.bytes before.earlier gs)

-- ---- that one more finds room

-- a slot's envelope is whole
pub slot_whole : (room : List ℕ) (k : ℕ) (envelope : List ℕ) → slot_size * k + 48 ≤ length room → envelope ≡ take 48 (drop (slot_size * k) room) → length envelope ≡ 48
slot_whole room k envelope h e = ap length e ∙ omega (arith, length-take 48 (drop (slot_size * k) room), length-drop (slot_size * k) room)

whole_from : (hs : List Head) (room : List ℕ) (j : ℕ) → slot_size * (j + length hs) ≤ length room → All WholeFrame (slots hs room j)
unfolding slots
whole_from [] room j h = tt
whole_from (g ∷ hs) room j h =
    (omega (arith, length-take 48 (drop (slot_size * j) room), length-drop (slot_size * j) room), whole_from hs room (suc j) (omega arith))

pub slots_whole : (heads : List Head) (room : List ℕ) (k : ℕ) → slot_size * k ≤ length room → All WholeFrame (slots (take k heads) room 0)
slots_whole heads room k h = whole_from (take k heads) room 0 (omega (arith, length-take k heads))

-- where n of three shares are taken there is room for another
pub share_more : (share n : ℕ) → n < 3 → share * n + share ≤ 3 * share
share_more share zero h = omega arith
share_more share (suc zero) h = omega arith
share_more share (suc (suc zero)) h = omega arith
share_more share (suc (suc (suc n))) h = absurd (omega arith)

slots_many : (hs : List Head) (room : List ℕ) (j : ℕ) → length (slots hs room j) ≡ length hs
unfolding slots
slots_many [] room j = refl
slots_many (g ∷ hs) room j = ap suc (slots_many hs room (suc j))

accepted_few : (f : List ℕ → Bool) (gs : List Got) → accepted_in f gs ≤ length gs
unfolding accepted_in
accepted_few f [] = omega arith
accepted_few f (g ∷ gs) = omega (arith, accepted_few f gs, cond_both (λ (n : ℕ). n ≤ 1) (f g.envelope) 1 0 (omega arith) (omega arith))

-- no more are accepted than are laid
pub laid_accepted : (p : Making) (heads : List Head) (room out mid : List ℕ) (before laid : Laid) (k : ℕ) → LaidBy p out mid before (slots (take k heads) room 0) laid
    → laid.accepted ≤ before.accepted + k
laid_accepted p heads room out mid before laid k l =
    omega (arith, l.accepted, accepted_few p.accepts (slots (take k heads) room 0), slots_many (take k heads) room 0, length-take k heads)

-- with one more laid one more share is taken
pub share_next : (size before share k : ℕ) → size ≤ before + share → before ≤ share * k → size ≤ share * (k + 1)
share_next size before share k a b = omega (arith, mul.suc share k, add-one k)
