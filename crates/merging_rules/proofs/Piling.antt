-- What holds of a pile between calls, and of a call; and of a call after another.
-- Assumes nothing.
use Rattle.std.proofs.Common.{Option, Result}
use mathlib.Core.Path.{◌≡◌, refl, sym, ap, subst, ◌∙◌}
use mathlib.Core.Bool.{Bool, true, false, cond}
use mathlib.Core.List.{List, [], ◌∷◌, ◌++◌}
use Prim.Native.Nat.{ℕ, zero, suc, ◌+◌, ◌<◌}
use native.Mathlib.Omega.{arith}
use lib.ListN.{length, get_or, length-append}
use Rattle.bits.specs.Alls.{All}
use Rattle.merger_rules.specs.Counts.{pending_of}
use Rattle.merger_rules.specs.Merging.{View, push_of, release_of}
use Rattle.merger_rules.specs.Scripts.{push, release, left}
use Rattle.merger_rules.specs.States.{Sound}
use Rattle.merger_rules.specs.declared.Held.{Held}
use Rattle.merger_rules.specs.declared.Keeping.{Keeping}
use Rattle.merger_rules.specs.declared.Released.{Released}
use Rattle.merger_rules.proofs.Kept.{Both}
use Rattle.merger_rules.proofs.SoundCalls.{start_sound}
use Rattle.merging_shelf.specs.Slots.{shelf_slots, bit_at, used, taken_in, slot_at}
use Rattle.merging_shelf.specs.declared.Slot.{Slot}
use Rattle.merging_shelf.proofs.Shelving.{empty_shelved, none_used}
use Rattle.recorder_rules.specs.Makings.{Trying}
use Rattle.sync_call_rules.specs.Calls.{Got}
use Rattle.merging_rules.specs.Accounts.{told_of, gone_of}
use Rattle.merging_rules.specs.Piles.{Deed, called, gave_way, calls_in, Pile, Handed, then, empty_shelf, no_pile}
use Rattle.merging_rules.specs.Orders.{no_got, comes_again}
use Rattle.merging_rules.specs.Tallies.{answers_of, how_often, is_kept, is_double, is_late, ways_given, taken_out, is_frame, is_passed_over, CountsMore}
use Rattle.merging_rules.proofs.Owning.{Owned, owned, owned_append, left_last, AsOwned, out_append}
use Rattle.bits.specs.declared.Refusal.{Refusal}

-- ---- scripts, one behind the other

pub left_append : (cs ds : List Deed) (v : View) → left (calls_in (cs ++ ds)) v ≡ left (calls_in ds) (left (calls_in cs) v)
left_append [] ds v = refl
left_append (called (push s h) ∷ cs) ds v = left_append cs ds (push_of s h v).next
left_append (called (release a b flush) ∷ cs) ds v = left_append cs ds (release_of a b flush v).next
left_append (gave_way s h ∷ cs) ds v = left_append cs ds v

-- ---- what is counted over them

pub answers_append : (cs ds : List Deed) (v : View) → answers_of (cs ++ ds) v ≡ answers_of cs v ++ answers_of ds (left (calls_in cs) v)
answers_append [] ds v = refl
answers_append (called (push s h) ∷ cs) ds v =
    let k = (push_of s h v).answer in
    let w = (push_of s h v).next in
    ap (λ (l : List (Result Keeping Refusal)). cond (comes_again h.check k) l (k ∷ l)) (answers_append cs ds w) ∙ sym (cond_append (comes_again h.check k) k (answers_of cs w) (answers_of ds (left (calls_in cs) w)))
  where
    cond_append : (b : Bool) (k : Result Keeping Refusal) (l m : List (Result Keeping Refusal)) → cond b l (k ∷ l) ++ m ≡ cond b (l ++ m) (k ∷ (l ++ m))
    cond_append true k l m = refl
    cond_append false k l m = refl
answers_append (called (release a b flush) ∷ cs) ds v = answers_append cs ds (release_of a b flush v).next
answers_append (gave_way s h ∷ cs) ds v = answers_append cs ds v

ways_append : (cs ds : List Deed) → ways_given (cs ++ ds) ≡ ways_given cs + ways_given ds
ways_append [] ds = omega arith
ways_append (called c ∷ cs) ds = ways_append cs ds
ways_append (gave_way s h ∷ cs) ds = omega (arith, ways_append cs ds)

often_append : (f : Result Keeping Refusal → Bool) (ks ls : List (Result Keeping Refusal)) → how_often f (ks ++ ls) ≡ how_often f ks + how_often f ls
unfolding how_often
often_append f [] ls = omega arith
often_append f (k ∷ ks) ls = omega (arith, often_append f ks ls)

taken_append : (f : Released → Bool) (cs ds : List Deed) (v : View) → taken_out f (cs ++ ds) v ≡ taken_out f cs v + taken_out f ds (left (calls_in cs) v)
taken_append f [] ds v = omega arith
taken_append f (called (push s h) ∷ cs) ds v = taken_append f cs ds (push_of s h v).next
taken_append f (called (release a b flush) ∷ cs) ds v = omega (arith, taken_append f cs ds (release_of a b flush v).next)
taken_append f (gave_way s h ∷ cs) ds v = taken_append f cs ds v

-- the counts of a script, and of another on what it leaves
counts_then : (cs ds : List Deed) (p q r : Pile) → left (calls_in cs) p.merger ≡ q.merger → CountsMore cs p q → CountsMore ds q r → CountsMore (cs ++ ds) p r
counts_then cs ds p q r e a b =
    let often : (f : Result Keeping Refusal → Bool) → how_often f (answers_of (cs ++ ds) p.merger) ≡ how_often f (answers_of cs p.merger) + how_often f (answers_of ds q.merger)
    = λ f. ap (how_often f) (answers_append cs ds p.merger ∙ ap (λ (v : View). answers_of cs p.merger ++ answers_of ds v) e) ∙ often_append f (answers_of cs p.merger) (answers_of ds q.merger) in
    let out : (f : Released → Bool) → taken_out f (cs ++ ds) p.merger ≡ taken_out f cs p.merger + taken_out f ds q.merger
    = λ f. taken_append f cs ds p.merger ∙ ap (λ (v : View). taken_out f cs p.merger + taken_out f ds v) e in
    record {
      kept = omega (arith, a.kept, b.kept, often is_kept);
      late = omega (arith, a.late, b.late, often is_late);
      double = omega (arith, a.double, b.double, often is_double);
      refused = omega (arith, a.refused, b.refused, ways_append cs ds);
      handed_on = omega (arith, a.handed_on, b.handed_on, out is_frame);
      passed_over = omega (arith, a.passed_over, b.passed_over, out is_passed_over);
    }

pub no_counts : (p : Pile) → CountsMore [] p p
unfolding how_often
no_counts p = record { kept = omega arith; late = omega arith; double = omega arith; refused = omega arith; handed_on = omega arith; passed_over = omega arith }

module _ (try : Trying) (gs hs : List Got) where
  -- ---- what holds of a pile

  -- the frames of a stream
  abbrev pub frames_at : ℕ → List Got
  frames_at zero = gs
  frames_at (suc s) = hs

  -- a frame that waits is one of its stream, and its slot holds its envelope, and what is said of it
  pub record Lies (slots : List Slot) (s : ℕ) (h : Held) : Type 0 where
    pub number : ℕ
    pub sent : number < length (frames_at s)
    pub figures : h.figures ≡ (get_or (frames_at s) number no_got).head
    pub said : (slot_at slots h.number).tried ≡ try (get_or (frames_at s) number no_got).envelope
    pub envelope : (slot_at slots h.number).envelope ≡ (get_or (frames_at s) number no_got).envelope

  abbrev pub LieAll : List Slot → View → Type 0
  LieAll slots v = All (Both (Lies slots)) v.pending

  pub record Good (p : Pile) : Type 0 where
    pub sound : Sound p.merger
    pub slots : length (taken_in p.shelf) ≡ shelf_slots
    -- a slot is taken exactly where its number waits
    pub shelved : (x : ℕ) → bit_at (taken_in p.shelf) x ≡ pending_of x p.merger.pending
    pub balance : p.answered.kept ≡ gone_of p.gone + used (taken_in p.shelf)
    pub lie : LieAll p.shelf.slots p.merger

  pub good_start : Good no_pile
  good_start = record {
    sound = start_sound;
    slots = refl;
    shelved = empty_shelved (taken_in empty_shelf) [] refl refl;
    balance = omega (arith, none_used (taken_in empty_shelf) [] (empty_shelved (taken_in empty_shelf) [] refl refl) refl);
    lie = tt;
  }

  -- ---- what holds of a call that tells of n frames

  pub record Fares (n : ℕ) (p : Pile) (h : Handed) : Type 0 where
    pub good : Good h.pile
    pub follows : left (calls_in h.deeds) p.merger ≡ h.pile.merger
    pub out : AsOwned try gs hs p.merger.last (owned h.deeds p.merger) h.out
    pub written : h.pile.gone.released ≡ p.gone.released + length h.out
    pub told : told_of h.pile.answered ≡ told_of p.answered + n
    pub counts : CountsMore h.deeds p h.pile

  pub fares_then : (m n k : ℕ) → k ≡ m + n → (p : Pile) (h : Handed) (f : Pile → Handed) → Fares m p h → Fares n h.pile (f h.pile) → Fares k p (then h f)
  fares_then m n k e p h f a b =
      let cs = h.deeds in
      let ds = (f h.pile).deeds in
      record {
        good = b.good;
        follows = left_append cs ds p.merger ∙ ap (left (calls_in ds)) a.follows ∙ b.follows;
        out = subst (λ (os : List Owned). AsOwned try gs hs p.merger.last os (h.out ++ (f h.pile).out)) (sym (owned_append cs ds p.merger ∙ ap (λ (v : View). owned cs p.merger ++ owned ds v) a.follows))
            (out_append try gs hs p.merger.last (owned cs p.merger) (owned ds h.pile.merger) h.out (f h.pile).out a.out
            (subst (λ (k : Option ℕ). AsOwned try gs hs k (owned ds h.pile.merger) (f h.pile).out) (ap (λ (v : View). v.last) (sym a.follows) ∙ left_last cs p.merger) b.out));
        written = omega (arith, a.written, b.written, length-append h.out (f h.pile).out);
        told = omega (arith, a.told, b.told);
        counts = counts_then cs ds p h.pile (f h.pile).pile a.follows a.counts b.counts;
      }

  pub fares_none : (p : Pile) → Good p → Fares 0 p (record { pile = p; out = []; deeds = [] })
  fares_none p g = record { good = g; follows = refl; out = tt; written = omega arith; told = omega arith; counts = no_counts p }
