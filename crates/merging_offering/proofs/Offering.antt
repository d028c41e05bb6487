-- What a frame that is handed in, or gives way, leaves can be written later; and frames handed in one after the other.
-- Assumes nothing.
use Rattle.std.proofs.Common.{None, Result, Ok, Err}
use mathlib.Core.Path.{◌≡◌, refl, sym, ap, ap₂, subst, ◌∙◌}
use mathlib.Core.Bool.{Bool, true, false, cond}
use mathlib.Core.List.{List, [], ◌∷◌, ◌++◌, append_assoc, append-nil}
use Prim.Native.Nat.{ℕ, zero, suc, ◌+◌, ◌-◌, ◌*◌, ◌≤◌, ◌<◌}
use native.Mathlib.Omega.{arith}
use native.Mathlib.Numerals.{add-one}
use lib.ListN.{length, get_or, take, drop, length-set, length-take}
use lib.Seq.{take-suc}
use Rattle.bits.specs.Alls.{All}
use Rattle.bits.specs.declared.Refusal.TheVariants.{Positions}
use Rattle.bits.proofs.Alls.{all_at, all_set}
use Rattle.journal_rules.specs.Gaps.{Framed}
use Rattle.journal_rules.specs.declared.Tried.{Tried}
use Rattle.merger.specs.States.{view_of, PushGave}
use Rattle.merger.specs.declared.AfterPush.{AfterPush}
use Rattle.merger.proofs.Gave.{len}
use Rattle.merger_rules.specs.Merging.{View, held_of, home_of, order_of, filled, no_position, alone, PushStep, push_of}
use Rattle.merger_rules.specs.Scripts.{push}
use Rattle.merger_rules.specs.declared.Held.{Held}
use Rattle.merger_rules.specs.declared.Keeping.{Keeping}
use Rattle.merger_rules.specs.declared.Keeping.TheVariants.{Kept, Double, Late}
use Rattle.merger_rules.specs.declared.Position.{Position}
use Rattle.merger_rules.proofs.Inserts.{length_insert, all_insert}
use Rattle.merger_rules.proofs.Pushes.{push_cases, join_cases, open_cases}
use Rattle.merging_shelf.specs.Slots.{shelf_slots, free_slot, taken_in}
use Rattle.merging_shelf.specs.declared.Shelf.{Shelf}
use Rattle.merging_shelf.proofs.Shelving.{taken_laid}
use Rattle.merging_rules.specs.Accounts.{told_of, counted, slots_after}
use Rattle.merging_rules.specs.Piles.{called, Pile, Handed, handed, then, laid_on, decodes, held_for, push_for, offered_once, released, insists, yields, gives_way, let_go, offered, offered_all}
use Rattle.merging_rules.specs.Works.{pile_of, FramesLaid, MovedBy, said, FairTried, FairSlot, Storable, StorablePosition, ValidWork}
use Rattle.merging_rules.specs.declared.Answered.{Answered}
use Rattle.merging_rules.specs.declared.Work.{Work}
use Rattle.merging_rules.proofs.Handing.{Same, laid_nothing, laid_more}
use Rattle.merging_rules.proofs.Takings.{push_counted_lem, push_accounts}
use Rattle.recorder_rules.specs.Makings.{Trying, is_accepted}
use Rattle.recorder_rules.specs.declared.Laid.{Laid}
use Rattle.sync_call_rules.specs.Calls.{Got, slots}
use Rattle.sync_rules.specs.Frames.{no_head}
use Rattle.sync_rules.specs.Sizes.{slot_size}
use Rattle.sync_rules.specs.declared.Head.{Head}
use Rattle.bits.specs.declared.Refusal.{Refusal}

-- ---- by the merger's rules

filled_storable : (s : ℕ) (h : Held) (p : Position) → Storable h.figures → StorablePosition p → StorablePosition (filled s h p)
filled_storable zero h p t q = (t, q.1)
filled_storable (suc s) h p t q = (q.0, t)

push_storable : (s : ℕ) (h : Held) (v : View) → Storable h.figures → All StorablePosition v.pending → All StorablePosition (push_of s h v).next.pending
push_storable s h v k a =
    push_cases Q s h v (λ _. a) (λ _. a) (λ _. a)
    (λ p i. join_cases Q s h v (home_of h.figures.offset v.pending) (λ _. a)
    (λ _. all_set StorablePosition v.pending (home_of h.figures.offset v.pending) _ a
    (filled_storable s h _ k (all_at StorablePosition no_position v.pending (home_of h.figures.offset v.pending) a i))))
    (λ p _. open_cases Q s h v (order_of h.figures.offset v.pending) (λ _. a)
    (λ _. all_insert StorablePosition (order_of h.figures.offset v.pending) v.pending (alone s h) a
    (filled_storable s h (record { key = h.figures.offset; primary = None; alternate = None }) k (tt, tt))))
  where
    Q : PushStep → Type 0
    Q y = All StorablePosition y.next.pending

push_more : (s : ℕ) (h : Held) (v : View) → length (push_of s h v).next.pending ≤ length v.pending + 1
push_more s h v =
    push_cases Q s h v (λ _. omega arith) (λ _. omega arith) (λ _. omega arith)
    (λ p i. join_cases Q s h v (home_of h.figures.offset v.pending) (λ _. omega arith)
    (λ _. omega (arith, length-set v.pending (home_of h.figures.offset v.pending) (filled s h (get_or v.pending (home_of h.figures.offset v.pending) no_position)))))
    (λ p _. open_cases Q s h v (order_of h.figures.offset v.pending) (λ _. omega arith)
    (λ _. omega (arith, length_insert (order_of h.figures.offset v.pending) (alone s h) v.pending)))
  where
    Q : PushStep → Type 0
    Q y = length y.next.pending ≤ length v.pending + 1

-- ---- of a work
laid_slots : (k : Result Keeping Refusal) (slot : ℕ) (t : Tried) (envelope : List ℕ) (s : Shelf) → taken_in (laid_on k slot t envelope s) ≡ slots_after k slot (taken_in s)
laid_slots (Ok Kept) slot t envelope s = taken_laid s.slots slot t envelope
laid_slots (Ok Double) slot t envelope s = refl
laid_slots (Ok Late) slot t envelope s = refl
laid_slots (Err x) slot t envelope s = refl

laid_fair : (k : Result Keeping Refusal) (slot : ℕ) (t : Tried) (envelope : List ℕ) (s : Shelf) → FairTried t → length envelope ≡ 48 → All FairSlot s.slots → All FairSlot (laid_on k slot t envelope s).slots
laid_fair (Ok Kept) slot t envelope s f l a = all_set FairSlot s.slots slot _ a (record { tried = f; envelope = l })
laid_fair (Ok Double) slot t envelope s f l a = a
laid_fair (Ok Late) slot t envelope s f l a = a
laid_fair (Err x) slot t envelope s f l a = a

module _ (w : Work) (v : ValidWork w) (stream slot : ℕ) (first : slot ≡ free_slot (taken_in w.shelf)) (head : Head) (h : Storable head) (t : Tried) (f : FairTried t) (passes : Bool) (yes : passes ≡ is_accepted t.outcome) (r : AfterPush) (g : PushGave w.merger (push_of stream (held_of head slot passes) (view_of w.merger)) r) (envelope : List ℕ) where
  abbrev got : Got
  got = record { head = head; envelope = envelope }

  same : push_of stream (held_of head slot passes) (view_of w.merger) ≡ push_for (said t) stream got (pile_of w)
  same = ap₂ (λ (n : ℕ) (b : Bool). push_of stream (held_of head n b) (view_of w.merger)) first yes

  pub answered_as : r.answer ≡ (push_for (said t) stream got (pile_of w)).answer
  answered_as = g.answers ∙ ap (λ (y : PushStep). y.answer) same

  pub one_more : r.merger.n ≤ w.merger.n + 1
  one_more =
      omega (arith, push_more stream (held_of head slot passes) (view_of w.merger), ap (λ (z : View). length z.pending) g.leaves, len w.merger v.accounted.valid, len r.merger g.valid)

  module _ (shelf : Shelf) (answered : Answered) (s : shelf ≡ laid_on r.answer slot t envelope w.shelf) (a : answered ≡ counted r.answer w.answered) where
    abbrev next : Work
    next = record { merger = r.merger; shelf = shelf; answered = answered; gone = w.gone }

    pub offered_as : pile_of next ≡ (offered_once (said t) stream got (pile_of w)).pile
    offered_as =
        let k = push_for (said t) stream got (pile_of w) in
        ap₂ (λ (m : View) (z : Shelf). record { merger = m; shelf = z; answered = answered; gone = w.gone }) (g.leaves ∙ ap (λ (y : PushStep). y.next) same) (s ∙ ap₂ (λ (b : Result Keeping Refusal) (n : ℕ). laid_on b n t envelope w.shelf) answered_as first)
        ∙ ap (λ (z : Answered). record { merger = k.next; shelf = laid_on k.answer (free_slot (taken_in w.shelf)) t envelope w.shelf; answered = z; gone = w.gone }) (a ∙ ap (λ (b : Result Keeping Refusal). counted b w.answered) answered_as)

    pub valid_offered : slot < shelf_slots → get_or (taken_in w.shelf) slot false ≡ false → length envelope ≡ 48 → ValidWork next
    valid_offered small free long =
        record {
          accounted = push_accounts w v.accounted stream (held_of head slot passes) r g small free shelf answered (ap taken_in s ∙ laid_slots r.answer slot t envelope w.shelf) a;
          storable = subst (λ (z : View). All StorablePosition z.pending) (sym g.leaves) (push_storable stream (held_of head slot passes) (view_of w.merger) h v.storable);
          fair = subst (λ (z : Shelf). All FairSlot z.slots) (sym s) (laid_fair r.answer slot t envelope w.shelf f long v.fair);
        }

-- ---- a frame that is handed in, once or once more, or gives way
pub told_once : (try : Trying) (stream : ℕ) (g : Got) (p q : Pile) → q ≡ (offered_once try stream g p).pile → told_of q.answered ≡ told_of p.answered + 1
told_once try stream g p q e = ap (λ (z : Pile). told_of z.answered) e ∙ (push_counted_lem (push_for try stream g p).answer p.answered).0

no : (b : Bool) (x y : Handed) → b ≡ false → cond b x y ≡ y
no b x y e = ap (λ (z : Bool). cond z x y) e

yes : (b : Bool) (x y : Handed) → b ≡ true → cond b x y ≡ x
yes b x y e = ap (λ (z : Bool). cond z x y) e

module _ (t : Tried) (stream : ℕ) (g : Got) (w : Work) where
  -- whether it gives way, by what was counted of the positions
  pub gives_as : (w' : Work) (decoded : Bool) (k : Result Keeping Refusal) → ValidWork w → ValidWork w' → decoded ≡ decodes (said t) g → k ≡ (push_for (said t) stream g (pile_of w)).answer
      → pile_of w' ≡ (offered_once (said t) stream g (pile_of w)).pile → yields decoded k w.merger.n w'.merger.n ≡ gives_way (said t) stream g (pile_of w)
  gives_as w' decoded k v v' d a p =
      ap₂ (λ (b : Bool) (y : Result Keeping Refusal). yields b y w.merger.n w'.merger.n) d a
      ∙ ap₂ (λ (m n : ℕ). yields (decodes (said t) g) (push_for (said t) stream g (pile_of w)).answer m n) (sym (len w.merger v.accounted.valid))
      (sym (len w'.merger v'.accounted.valid) ∙ ap (λ (q : Pile). length q.merger.pending) p)

  -- nothing is handed on
  moved_none : (h : Handed) (out : List ℕ) (lay : Laid) (w' : Work) → h.out ≡ [] → pile_of w' ≡ h.pile → offered (said t) stream g (pile_of w) ≡ h → MovedBy (offered (said t) stream g (pile_of w)) out out lay w' lay
  moved_none h out lay w' n p a =
      record { pile = p ∙ sym (ap (λ (h : Handed). h.pile) a); laid = subst (λ (fs : List Framed). FramesLaid out out lay fs lay) (sym (ap (λ (h : Handed). h.out) a ∙ n)) (laid_nothing out lay) }

  abbrev insisted : Bool
  insisted = insists (decodes (said t) g) (push_for (said t) stream g (pile_of w)).answer

  -- it is handed in once
  pub offered_once_lem : (out : List ℕ) (lay : Laid) (w' : Work) → insisted ≡ false → gives_way (said t) stream g (pile_of w) ≡ false → pile_of w' ≡ (offered_once (said t) stream g (pile_of w)).pile
      → MovedBy (offered (said t) stream g (pile_of w)) out out lay w' lay
  offered_once_lem out lay w' e f p =
      moved_none (offered_once (said t) stream g (pile_of w)) out lay w' refl p
      (no insisted _ _ e ∙ no (gives_way (said t) stream g (pile_of w)) (let_go (said t) stream g (pile_of w)) (offered_once (said t) stream g (pile_of w)) f)

  -- it gives way
  abbrev without : Work
  without = record { merger = w.merger; shelf = w.shelf; answered = counted (Err Positions) w.answered; gone = w.gone }

  pub offered_none : (out : List ℕ) (lay : Laid) (w' : Work) → insisted ≡ false → gives_way (said t) stream g (pile_of w) ≡ true → w' ≡ without → MovedBy (offered (said t) stream g (pile_of w)) out out lay w' lay
  offered_none out lay w' e f p =
      moved_none (let_go (said t) stream g (pile_of w)) out lay w' refl (ap pile_of p)
      (no insisted _ _ e ∙ yes (gives_way (said t) stream g (pile_of w)) (let_go (said t) stream g (pile_of w)) (offered_once (said t) stream g (pile_of w)) f)

  pub valid_none : (w' : Work) → ValidWork w → w' ≡ without → ValidWork w'
  valid_none w' v p =
      let a = v.accounted in
      subst ValidWork (sym p)
      (record { accounted = record { valid = a.valid; slots = a.slots; shelved = a.shelved; balance = a.balance }; storable = v.storable; fair = v.fair })

  pub told_none : (w' : Work) → w' ≡ without → told_of w'.answered ≡ told_of w.answered + 1
  told_none w' p = ap (λ (z : Work). told_of z.answered) p ∙ (push_counted_lem (Err Positions) w.answered).0

  -- the first position goes out before its time, and it is handed in once more
  pub offered_twice : (out left : List ℕ) (lay lay' : Laid) (u w' : Work) → insists (decodes (said t) g) (push_for (said t) stream g (pile_of w)).answer ≡ true
      → MovedBy (released None None true (pile_of w)) out left lay u lay' → pile_of w' ≡ (offered_once (said t) stream g (pile_of u)).pile
      → MovedBy (offered (said t) stream g (pile_of w)) out left lay w' lay'
  offered_twice out left lay lay' u w' e m p =
      let a : offered (said t) stream g (pile_of w) ≡ then (then (handed (pile_of w) [] (called (push stream (held_for (said t) g (pile_of w))) ∷ [])) (released None None true)) (offered_once (said t) stream g) = yes _ _ _ e in
      record {
        pile = p ∙ ap (λ (q : Pile). (offered_once (said t) stream g q).pile) m.pile ∙ sym (ap (λ (h : Handed). h.pile) a);
        laid = subst (λ (fs : List Framed). FramesLaid out left lay fs lay') (sym (ap (λ (h : Handed). h.out) a ∙ append-nil (released None None true (pile_of w)).out)) m.laid;
      }

-- what is said of the envelope is what is tried
pub tried_as_lem : (try : Trying) (t : Tried) (stream : ℕ) (g : Got) (w : Work) (out left : List ℕ) (lay lay' : Laid) (w' : Work) → t ≡ try g.envelope → MovedBy (offered (said t) stream g (pile_of w)) out left lay w' lay'
    → MovedBy (offered try stream g (pile_of w)) out left lay w' lay'
tried_as_lem try t stream g w out left lay lay' w' e m = subst (λ (z : Tried). MovedBy (offered (said z) stream g (pile_of w)) out left lay w' lay') e m

-- ---- frames one after the other

slots_more : (hs : List Head) (h : Head) (room : List ℕ) (k : ℕ) → slots (hs ++ (h ∷ [])) room k ≡ slots hs room k ++ (record { head = h; envelope = take 48 (drop (slot_size * (k + length hs)) room) } ∷ [])
unfolding slots
slots_more [] h room k = ap (λ (n : ℕ). record { head = h; envelope = take 48 (drop (slot_size * n) room) } ∷ []) (none k)
  where
    none : (k : ℕ) → k ≡ k + 0
    none k = omega arith
slots_more (x ∷ hs) h room k =
    ap (λ (l : List Got). record { head = x; envelope = take 48 (drop (slot_size * k) room) } ∷ l)
    (slots_more hs h room (suc k) ∙ ap (λ (n : ℕ). slots hs room (suc k) ++ (record { head = h; envelope = take 48 (drop (slot_size * n) room) } ∷ [])) (next k (length hs)))
  where
    next : (k n : ℕ) → suc k + n ≡ k + suc n
    next k n = omega arith

all_more : (try : Trying) (stream : ℕ) (gs : List Got) (g : Got) (p : Pile) → Same (offered_all try stream (gs ++ (g ∷ [])) p) (then (offered_all try stream gs p) (offered try stream g))
unfolding offered_all
all_more try stream [] g p = record { pile = refl; out = append-nil (offered try stream g p).out }
all_more try stream (x ∷ gs) g p =
    let q = (offered try stream x p).pile in
    let r = all_more try stream gs g q in
    record {
      pile = r.pile;
      out = ap (λ (l : List Framed). (offered try stream x p).out ++ l) r.out ∙ sym (append_assoc (offered try stream x p).out (offered_all try stream gs q).out (offered try stream g (offered_all try stream gs q).pile).out);
    }

module _ (try : Trying) (stream : ℕ) (heads : List Head) (room : List ℕ) (first : Work) (out₀ : List ℕ) (lay₀ : Laid) where
  pub none_offered : MovedBy (offered_all try stream (slots (take 0 heads) room 0) (pile_of first)) out₀ out₀ lay₀ first lay₀
  unfolding offered_all slots
  none_offered = record { pile = refl; laid = laid_nothing out₀ lay₀ }

  pub one_offered : (k : ℕ) (out out' : List ℕ) (lay lay' : Laid) (w w' : Work) → k < length heads → MovedBy (offered_all try stream (slots (take k heads) room 0) (pile_of first)) out₀ out lay₀ w lay
      → MovedBy (offered try stream (record { head = get_or heads k no_head; envelope = take (slot_size * k + 48 - slot_size * k) (drop (slot_size * k) room) }) (pile_of w)) out out' lay w' lay'
      → MovedBy (offered_all try stream (slots (take (k + 1) heads) room 0) (pile_of first)) out₀ out' lay₀ w' lay'
  one_offered k out out' lay lay' w w' i m s =
      let size : slot_size * k + 48 - slot_size * k ≡ 48 = omega arith in
      let n = subst (λ (j : ℕ). MovedBy (offered try stream (record { head = get_or heads k no_head; envelope = take j (drop (slot_size * k) room) }) (pile_of w)) out out' lay w' lay') size s in
      let g : Got = record { head = get_or heads k no_head; envelope = take 48 (drop (slot_size * k) room) } in
      let gs = slots (take k heads) room 0 in
      let long : 0 + length (take k heads) ≡ k = omega (arith, length-take k heads) in
      let more : slots (take (k + 1) heads) room 0 ≡ gs ++ (g ∷ []) = ap (λ (l : List Head). slots l room 0) (ap (λ (j : ℕ). take j heads) (add-one k) ∙ take-suc heads k no_head i) ∙ slots_more (take k heads) (get_or heads k no_head) room 0 ∙ ap (λ (j : ℕ). gs ++ (record { head = get_or heads k no_head; envelope = take 48 (drop (slot_size * j) room) } ∷ [])) long in
      let a = all_more try stream gs g (pile_of first) in
      let R = offered_all try stream gs (pile_of first) in
      subst (λ (l : List Got). MovedBy (offered_all try stream l (pile_of first)) out₀ out' lay₀ w' lay') (sym more)
      (record {
        pile = n.pile ∙ ap (λ (p : Pile). (offered try stream g p).pile) m.pile ∙ sym a.pile;
        laid = subst (λ (fs : List Framed). FramesLaid out₀ out' lay₀ fs lay') (ap (λ (p : Pile). R.out ++ (offered try stream g p).out) m.pile ∙ sym a.out)
            (laid_more out₀ out out' lay₀ lay lay' R.out (offered try stream g (pile_of w)).out m.laid n.laid);
      })
