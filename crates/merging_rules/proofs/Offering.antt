-- A frame that is handed in, also one that is refused and handed in again: it lies in its slot, and all others where they lay; and one that gives way.
-- Assumes nothing.
use Rattle.std.proofs.Common.{Option, Some, None, Result, Ok, Err}
use mathlib.Core.Path.{◌≡◌, refl, sym, ap, subst, ◌∙◌}
use mathlib.Core.Bool.{Bool, true, false, true≢false, cond}
use mathlib.Core.List.{List, [], ◌∷◌}
use Prim.Native.Nat.{ℕ, zero, suc, ◌+◌, ◌≤◌, ◌<◌}
use native.Mathlib.Omega.{arith}
use borrow.Author.Tests.{leb-true}
use lib.ListN.{length, get_or, set, length-map}
use lib.Seq.{get_or-set_same, get_or-set_other}
use Rattle.bits.specs.Alls.{All}
use Rattle.bits.specs.Sizes.{most_offset}
use Rattle.bits.specs.declared.Refusal.TheVariants.{Positions}
use Rattle.bits.proofs.Alls.{all_at}
use Rattle.bits.proofs.Conds.{cond_cases, cond_eq}
use Rattle.merger_rules.specs.Counts.{one, in_place, pending_of}
use Rattle.merger_rules.specs.Merging.{View, order_of, PushStep, push_of}
use Rattle.merger_rules.specs.Scripts.{push}
use Rattle.merger_rules.specs.declared.Held.{Held}
use Rattle.merger_rules.specs.declared.Keeping.{Keeping}
use Rattle.merger_rules.specs.declared.Keeping.TheVariants.{Kept, Double, Late}
use Rattle.merger_rules.specs.declared.Position.{Position}
use Rattle.merger_rules.proofs.Contrary.{contrary}
use Rattle.merger_rules.proofs.Kept.{InPlace, Both, push_taken}
use Rattle.merger_rules.proofs.Pushes.{push_cases, join_cases, open_cases}
use Rattle.merger_rules.proofs.SoundCalls.{push_sound}
use Rattle.merging_shelf.specs.Slots.{shelf_slots, bit_at, used, taken_in, no_slot, slot_at}
use Rattle.merging_shelf.specs.declared.Slot.{Slot}
use Rattle.merging_shelf.proofs.Shelving.{bit_free, free_is, free_within, room_left, taken_laid}
use Rattle.recorder_rules.specs.Makings.{Trying}
use Rattle.sync_call_rules.specs.Calls.{Got}
use Rattle.merging_rules.specs.declared.Answered.{Answered}
use Rattle.merging_rules.specs.Accounts.{counted, slots_after}
use Rattle.merging_rules.specs.Piles.{called, Pile, Handed, handed, then, slot_for, decodes, held_for, push_for, laid_on, offered_once, released, insists, gives_way, let_go, offered, offered_all}
use Rattle.merging_rules.proofs.Takings.{Laid, laid, push_counted_lem}
use Rattle.merging_rules.specs.Orders.{no_got, comes_again}
use Rattle.merging_rules.specs.Tallies.{how_often, is_kept, is_double, is_late, CountsMore}
use Rattle.merging_rules.proofs.Sending.{Fine}
use Rattle.merging_rules.proofs.Piling.{frames_at, Lies, LieAll, Good, Fares, fares_then, fares_none}
use Rattle.merging_rules.proofs.Releasing.{release_fares, flush_one}
use Rattle.merging_rules.proofs.Yielding.{not_refused_rests, handed_once}
use Rattle.bits.specs.declared.Refusal.{Refusal}

-- a frame of a list
pub record IsOf (l : List Got) (g : Got) : Type 0 where
  pub number : ℕ
  pub sent : number < length l
  pub same : get_or l number no_got ≡ g

-- a frame insists where it is to come again
pub as_said : (d : Bool) (k : Result Keeping Refusal) → insists d k ≡ comes_again d k
as_said d (Ok Kept) = refl
as_said d (Ok Double) = refl
as_said d (Ok Late) = refl
as_said d (Err r) = refl

-- a push that is refused leaves the merger as it was
pub again_still : (s : ℕ) (h : Held) (v : View) (d : Bool) → comes_again d (push_of s h v).answer ≡ true → (push_of s h v).next ≡ v
again_still s h v d =
    push_cases Q s h v (λ _ _. refl) (λ _ _. refl) (λ _ e. contrary cc)
    (λ _ _. join_cases Q s h v _ (λ _ e. contrary cc) (λ _ e. contrary cc))
    (λ _ _. open_cases Q s h v (order_of h.figures.offset v.pending) (λ _ _. refl) (λ _ e. contrary cc))
  where
    Q : PushStep → Type 0
    Q y = comes_again d y.answer ≡ true → y.next ≡ v

pub refused_still : (s : ℕ) (h : Held) (v : View) (d : Bool) → insists d (push_of s h v).answer ≡ true → (push_of s h v).next ≡ v
refused_still s h v d e = again_still s h v d (sym (as_said d (push_of s h v).answer) ∙ e)

-- ---- what an answer adds to the counts

often_one : (f : Result Keeping Refusal → Bool) (k : Result Keeping Refusal) (l : List (Result Keeping Refusal)) → l ≡ k ∷ [] → how_often f l ≡ cond (f k) 1 0 + 0
unfolding how_often
often_one f k l e = ap (how_often f) e

record Adds (k : Result Keeping Refusal) (l : List (Result Keeping Refusal)) (a : Answered) : Type 0 where
  kept : (counted k a).kept ≡ a.kept + how_often is_kept l
  late : (counted k a).late ≡ a.late + how_often is_late l
  double : (counted k a).double ≡ a.double + how_often is_double l
  refused : (counted k a).refused ≡ a.refused + 0

adds : (k : Result Keeping Refusal) (l : List (Result Keeping Refusal)) (a : Answered) → l ≡ k ∷ [] → insists true k ≡ false → Adds k l a
adds (Ok Kept) l a e n = record { kept = omega (arith, often_one is_kept (Ok Kept) l e); late = omega (arith, often_one is_late (Ok Kept) l e); double = omega (arith, often_one is_double (Ok Kept) l e); refused = omega arith }
adds (Ok Double) l a e n = record { kept = omega (arith, often_one is_kept (Ok Double) l e); late = omega (arith, often_one is_late (Ok Double) l e); double = omega (arith, often_one is_double (Ok Double) l e); refused = omega arith }
adds (Ok Late) l a e n = record { kept = omega (arith, often_one is_kept (Ok Late) l e); late = omega (arith, often_one is_late (Ok Late) l e); double = omega (arith, often_one is_double (Ok Late) l e); refused = omega arith }
adds (Err r) l a e n = absurd (true≢false n)

module _ (try : Trying) (gs hs : List Got) (fine : All Fine gs) (also : All Fine hs) where
  abbrev frames : ℕ → List Got
  frames = frames_at try gs hs

  fine_at : (s : ℕ) → All Fine (frames s)
  fine_at zero = fine
  fine_at (suc s) = also

  pub is_fine : (s : ℕ) (g : Got) → IsOf (frames s) g → Fine g
  is_fine s g i = subst Fine i.same (all_at Fine no_got (frames s) i.number (fine_at s) i.sent)

  -- ---- what lies in the other slots

  module _ (slot : ℕ) (t : Slot) (slots : List Slot) where
    there : (n : ℕ) → (n ≡ slot → ⊥) → slot_at (set slots slot t) n ≡ slot_at slots n
    there n o = get_or-set_other slots slot n t no_slot o

    other_lies : (s : ℕ) (h : Held) → (h.number ≡ slot → ⊥) → Lies try gs hs slots s h → Lies try gs hs (set slots slot t) s h
    other_lies s h o l =
        record { number = l.number; sent = l.sent; figures = l.figures; said = ap (λ (x : Slot). x.tried) (there h.number o) ∙ l.said; envelope = ap (λ (x : Slot). x.envelope) (there h.number o) ∙ l.envelope }

    other_place : (s : ℕ) (q : Option Held) → in_place slot q ≡ 0 → InPlace (Lies try gs hs slots) s q → InPlace (Lies try gs hs (set slots slot t)) s q
    other_place s None z l = tt
    other_place s (Some h) z l = other_lies s h (λ e. let y : one slot h.number ≡ 1 = cond_eq {A = ℕ} h.number slot 1 0 e in absurd (omega arith)) l

    others_lie : (l : List Position) → pending_of slot l ≡ 0 → All (Both (Lies try gs hs slots)) l → All (Both (Lies try gs hs (set slots slot t))) l
    unfolding pending_of
    others_lie [] z a = tt
    others_lie (p ∷ ps) z a = ((other_place 0 p.primary (omega arith) a.0.0, other_place 1 p.alternate (omega arith) a.0.1), others_lie ps (omega arith) a.1)

    new_lies : (s : ℕ) (g : Got) → IsOf (frames s) g → (h : Held) → h.figures ≡ g.head → h.number ≡ slot → slot < length slots → t.tried ≡ try g.envelope → t.envelope ≡ g.envelope
        → Lies try gs hs (set slots slot t) s h
    new_lies s g i h f e w a b =
        let here : slot_at (set slots slot t) h.number ≡ t = ap (slot_at (set slots slot t)) e ∙ get_or-set_same slots slot t no_slot w in
        record {
          number = i.number;
          sent = i.sent;
          figures = f ∙ ap (λ (k : Got). k.head) (sym i.same);
          said = ap (λ (x : Slot). x.tried) here ∙ a ∙ ap (λ (k : Got). try k.envelope) (sym i.same);
          envelope = ap (λ (x : Slot). x.envelope) here ∙ b ∙ ap (λ (k : Got). k.envelope) (sym i.same);
        }

  -- ---- a frame, handed in once

  module _ (s : ℕ) (g : Got) (i : IsOf (frames s) g) (p : Pile) (w : Good try gs hs p) where
    abbrev taken : List Bool
    taken = taken_in p.shelf

    abbrev held : Held
    held = held_for try g p

    small : slot_for p < shelf_slots
    small = free_within taken (room_left taken p.merger.pending w.shelved w.sound.few)

    free : get_or taken (slot_for p) false ≡ false
    free = free_is taken

    not_there : pending_of (slot_for p) p.merger.pending ≡ 0
    not_there = sym (w.shelved (slot_for p)) ∙ bit_free taken (slot_for p) free

    -- the slots, and what is counted
    in_slots : (k : Result Keeping Refusal) → (push_for try s g p).answer ≡ k → Laid taken (push_for try s g p).next.pending k (slots_after k (slot_for p) taken)
    in_slots k e = laid taken w.slots p.merger w.shelved s held small free k e

    -- one that is not kept leaves the shelf as it was
    shelf_stays : ((push_for try s g p).answer ≡ Ok Kept → ⊥) → LieAll try gs hs p.shelf.slots (push_for try s g p).next
    shelf_stays n = push_taken (Lies try gs hs p.shelf.slots) s held p.merger (λ e. absurd (n e)) w.lie

    laid_good : (k : Result Keeping Refusal) → (push_for try s g p).answer ≡ k
        → Good try gs hs (record { merger = (push_for try s g p).next; shelf = laid_on k (slot_for p) (try g.envelope) g.envelope p.shelf; answered = counted k p.answered; gone = p.gone })
    laid_good (Ok Kept) e =
        let l = in_slots (Ok Kept) e in
        let slots = p.shelf.slots in
        let new : Slot = record { taken = true; tried = try g.envelope; envelope = g.envelope } in
        let now : taken_in (record { slots = set slots (slot_for p) new }) ≡ set taken (slot_for p) true = taken_laid slots (slot_for p) (try g.envelope) g.envelope in
        let within : slot_for p < length slots = omega (arith, small, w.slots, length-map slots (λ (x : Slot). x.taken)) in
        record {
          sound = push_sound s held p.merger w.sound;
          slots = ap length now ∙ l.slots;
          shelved = λ x. ap (λ (t : List Bool). bit_at t x) now ∙ l.shelved x;
          balance = omega (arith, w.balance, l.more, ap used now);
          lie = push_taken (Lies try gs hs (set slots (slot_for p) new)) s held p.merger
              (λ _. new_lies (slot_for p) new slots s g i held refl refl within refl refl)
              (others_lie (slot_for p) new slots p.merger.pending not_there w.lie);
        }
    laid_good (Ok Double) e =
        let l = in_slots (Ok Double) e in
        record { sound = push_sound s held p.merger w.sound; slots = w.slots; shelved = l.shelved; balance = w.balance; lie = shelf_stays (λ f. contrary cc) }
    laid_good (Ok Late) e =
        let l = in_slots (Ok Late) e in
        record { sound = push_sound s held p.merger w.sound; slots = w.slots; shelved = l.shelved; balance = w.balance; lie = shelf_stays (λ f. contrary cc) }
    laid_good (Err r) e =
        let l = in_slots (Err r) e in
        record { sound = push_sound s held p.merger w.sound; slots = w.slots; shelved = l.shelved; balance = w.balance; lie = shelf_stays (λ f. contrary cc) }

    -- it is counted, where it is not refused
    counts_one : insists true (push_for try s g p).answer ≡ false → CountsMore (called (push s held) ∷ []) p (offered_once try s g p).pile
    counts_one n =
        let k = (push_for try s g p).answer in
        let done : comes_again (decodes try g) k ≡ false = sym (as_said (decodes try g) k) ∙ not_refused_rests (decodes try g) k n in
        let c = adds k (cond (comes_again (decodes try g) k) [] (k ∷ [])) p.answered (ap (λ (b : Bool). cond b [] (k ∷ [])) done) n in
        record { kept = c.kept; late = c.late; double = c.double; refused = c.refused; handed_on = omega arith; passed_over = omega arith }

    once_fares : insists true (push_for try s g p).answer ≡ false → Fares try gs hs 1 p (offered_once try s g p)
    once_fares n = record {
      good = laid_good (push_for try s g p).answer refl;
      follows = refl;
      out = tt;
      written = omega arith;
      told = (push_counted_lem (push_for try s g p).answer p.answered).0;
      counts = counts_one n;
    }

    -- ---- a frame that gives way

    let_go_fares : Fares try gs hs 1 p (let_go try s g p)
    unfolding how_often
    let_go_fares = record {
      good = record { sound = w.sound; slots = w.slots; shelved = w.shelved; balance = w.balance; lie = w.lie };
      follows = refl;
      out = tt;
      written = omega arith;
      told = (push_counted_lem (Err Positions) p.answered).0;
      counts = record { kept = omega arith; late = omega arith; double = omega arith; refused = omega arith; handed_on = omega arith; passed_over = omega arith };
    }

  -- ---- refused, and handed in again

  refused_counts : (s : ℕ) (g : Got) (p : Pile) → insists (decodes try g) (push_for try s g p).answer ≡ true → CountsMore (called (push s (held_for try g p)) ∷ []) p p
  unfolding how_often
  refused_counts s g p e =
      let k = (push_for try s g p).answer in
      let none : cond (comes_again (decodes try g) k) [] (k ∷ []) ≡ [] = ap (λ (b : Bool). cond b [] (k ∷ [])) (sym (as_said (decodes try g) k) ∙ e) in
      let often : (f : Result Keeping Refusal → Bool) → how_often f (cond (comes_again (decodes try g) k) [] (k ∷ [])) ≡ 0 = λ f. ap (how_often f) none in
      record { kept = omega (arith, often is_kept); late = omega (arith, often is_late); double = omega (arith, often is_double); refused = omega arith; handed_on = omega arith; passed_over = omega arith }

  -- a push is not refused where fewer than 16 positions wait
  not_refused : (s : ℕ) (h : Held) (v : View) → s ≤ 1 → h.figures.offset ≤ most_offset → length v.pending ≤ 15 → insists true (push_of s h v).answer ≡ false
  not_refused s h v t o l =
      push_cases Q s h v (λ e. absurd (omega arith)) (λ e. absurd (omega arith)) (λ _. refl)
      (λ _ _. join_cases Q s h v _ (λ _. refl) (λ _. refl))
      (λ _ _. open_cases Q s h v (order_of h.figures.offset v.pending) (λ e. let k : 16 ≤ length v.pending = leb-true 16 (length v.pending) e in absurd (omega arith)) (λ _. refl))
    where
      Q : PushStep → Type 0
      Q y = insists true y.answer ≡ false

  -- so it is not refused again once a position was released
  pub not_again : (s : ℕ) → s ≤ 1 → (g : Got) → IsOf (frames s) g → (p : Pile) → Good try gs hs p → insists true (push_for try s g (released None None true p).pile).answer ≡ false
  not_again s t g i p w =
      let q = (released None None true p).pile in
      not_refused s (held_for try g q) q.merger t (omega (arith, (is_fine s g i).low)) (omega (arith, flush_one None None p.merger.pending p.merger.last, w.sound.few))

  pub offered_fares : (s : ℕ) → s ≤ 1 → (g : Got) → IsOf (frames s) g → (p : Pile) → Good try gs hs p → Fares try gs hs 1 p (offered try s g p)
  offered_fares s t g i p w =
      cond_cases (Fares try gs hs 1 p) (insists (decodes try g) (push_for try s g p).answer) _ _ again
      (λ n. cond_cases (Fares try gs hs 1 p) (gives_way try s g p) _ _ (λ _. let_go_fares s g i p w)
      (λ k. once_fares s g i p w (handed_once (decodes try g) (push_for try s g p).answer (length p.merger.pending) (length (push_for try s g p).next.pending) n k)))
    where
      first : Handed
      first = handed p [] (called (push s (held_for try g p)) ∷ [])

      again : insists (decodes try g) (push_for try s g p).answer ≡ true → Fares try gs hs 1 p (then (then first (released None None true)) (offered_once try s g))
      again e =
          let q = (released None None true p).pile in
          let refused : Fares try gs hs 0 p first = record { good = w; follows = refused_still s (held_for try g p) p.merger (decodes try g) e; out = tt; written = omega arith; told = omega arith; counts = refused_counts s g p e } in
          let out = release_fares try gs hs None None true p w in
          fares_then try gs hs 0 1 1 refl p (then first (released None None true)) (offered_once try s g) (fares_then try gs hs 0 0 0 refl p first (released None None true) refused out) (once_fares s g i q out.good (not_again s t g i p w))

  -- ---- frames one after the other

  pub all_fare : (s : ℕ) → s ≤ 1 → (l : List Got) → All (IsOf (frames s)) l → (p : Pile) → Good try gs hs p → Fares try gs hs (length l) p (offered_all try s l p)
  unfolding offered_all
  all_fare s t [] a p w = fares_none try gs hs p w
  all_fare s t (g ∷ l) a p w =
      let o = offered_fares s t g a.0 p w in
      fares_then try gs hs 1 (length l) (suc (length l)) (omega arith) p (offered try s g p) (offered_all try s l) o (all_fare s t l a.1 (offered try s g p).pile o.good)
