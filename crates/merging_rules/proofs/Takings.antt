-- What a push and a release do to the numbers that wait.
-- Assumes nothing.
use Rattle.std.proofs.Common.{Option, Some, None, Result, Ok, Err}
use mathlib.Core.Path.{◌≡◌, refl, sym, ap, subst, ◌∙◌}
use mathlib.Core.Bool.{Bool, true, false}
use mathlib.Core.List.{List, [], ◌∷◌, ◌++◌}
use Prim.Native.Nat.{ℕ, ◌+◌, ◌≤◌, ◌<◌}
use native.Mathlib.Omega.{arith}
use lib.Dec.{eqb}
use lib.ListN.{length, get_or, length-set}
use Rattle.bits.proofs.Conds.{cond_both}
use Rattle.merger_rules.specs.Counts.{in_free, pending_of, released_of, one, kept_by, kept_of, in_freed, freed_in}
use Rattle.merger_rules.specs.Merging.{View, push_of, is_ready, choice_of, freed_of, snapped, is_after, ReleaseStep, settle, release_from, release_of}
use Rattle.merger.specs.States.{view_of, ValidMerger, PushGave, ReleaseGave}
use Rattle.merger_rules.specs.Scripts.{push, release, given}
use Rattle.merger.specs.declared.AfterPush.{AfterPush}
use Rattle.merger.specs.declared.AfterRelease.{AfterRelease}
use Rattle.merger_rules.specs.declared.Chosen.{Chosen}
use Rattle.merger_rules.specs.declared.Freed.{Freed}
use Rattle.merger_rules.specs.declared.Held.{Held}
use Rattle.merger.specs.declared.Merger.{Merger}
use Rattle.merger_rules.specs.declared.Position.{Position}
use Rattle.merger_rules.specs.declared.Keeping.{Keeping}
use Rattle.merger_rules.specs.declared.Keeping.TheVariants.{Kept, Double, Late}
use Rattle.merger_rules.specs.declared.Release.{Release}
use Rattle.merger_rules.specs.declared.Released.{Released}
use Rattle.merger_rules.specs.declared.Released.TheVariants.{Frame, PassedOver, NothingReady}
use Rattle.merger_rules.proofs.Counting.{balanced, released_freed}
use Rattle.merger_rules.proofs.TakenOut.{not_ready}
use Rattle.merger.proofs.Gave.{len}
use Rattle.merging_rules.specs.declared.Answered.{Answered}
use Rattle.merging_rules.specs.declared.Gone.{Gone}
use Rattle.merging_rules.specs.declared.Work.{Work}
use Rattle.merging_shelf.specs.declared.Shelf.{Shelf}
use Rattle.merging_shelf.specs.Slots.{shelf_slots, bit_at, used, IsSlot, taken_in, cleared, count_free, count_freed}
use Rattle.merging_rules.specs.Accounts.{told_of, most_told, gone_of, slots_after, counted, takes_in, gone_by, TakesOut, waiting, IsFrameSlot, Fewer, Accounted, TookOut}
use Rattle.merging_rules.specs.Statements.{push_counted, release_counted, slot_left, all_counted}
use Rattle.merging_shelf.proofs.Shelving.{one_same, slot_filled, one_more_used, none_used, room_left, small_freed, slots_freed, fewer_used, as_long, number_small}
use Rattle.bits.specs.declared.Refusal.{Refusal}

-- ---- a push

pub push_gives : (x s : ℕ) (h : Held) (v : View) → pending_of x (push_of s h v).next.pending ≡ kept_by x h (push_of s h v).answer + pending_of x v.pending
unfolding kept_of freed_in
push_gives x s h v = let all = balanced x (push s h ∷ []) v in omega arith

-- ---- a release

pub release_gives : (x : ℕ) (s₀ s₁ : Option ℕ) (flush : Bool) (v : View)
    → pending_of x v.pending ≡ in_freed x (release_of s₀ s₁ flush v).freed + pending_of x (release_of s₀ s₁ flush v).next.pending
unfolding kept_of freed_in
release_gives x s₀ s₁ flush v = let all = balanced x (release s₀ s₁ flush ∷ []) v in omega arith

-- how many positions an answer takes out
abbrev pub taken_by : Released → ℕ
taken_by (Frame r) = 1
taken_by PassedOver = 1
taken_by NothingReady = 0

abbrev pub Fell : List Position → ReleaseStep → Type 0
Fell l y = taken_by y.answer + length y.next.pending ≡ length l

settle_fell : (c : Option Chosen) (f : Freed) (p : Position) (ps : List Position) (last : Option ℕ) → Fell (p ∷ ps) (settle c f ps last)
settle_fell None f p ps last = omega arith
settle_fell (Some c) f p ps last = cond_both (Fell (p ∷ ps)) (is_after last (snapped last c.frame.figures.offset)) _ _ (omega arith) (omega arith)

pub release_fell : (s₀ s₁ : Option ℕ) (flush : Bool) (l : List Position) (last : Option ℕ) → Fell l (release_from s₀ s₁ flush l last)
release_fell s₀ s₁ flush [] last = omega arith
release_fell s₀ s₁ flush (p ∷ ps) last = cond_both (Fell (p ∷ ps)) (is_ready s₀ s₁ flush p) _ _ (settle_fell (choice_of p) (freed_of p) p ps last) (omega arith)

pub settle_takes : (c : Option Chosen) (f : Freed) (ps : List Position) (last : Option ℕ) → taken_by (settle c f ps last).answer ≡ 1
settle_takes None f ps last = refl
settle_takes (Some c) f ps last = cond_both (λ (y : ReleaseStep). taken_by y.answer ≡ 1) (is_after last (snapped last c.frame.figures.offset)) _ _ refl refl

pub flush_takes : (s₀ s₁ : Option ℕ) (l : List Position) (last : Option ℕ) → taken_by (release_from s₀ s₁ true l last).answer ≡ 0 → length l ≡ 0
flush_takes s₀ s₁ [] last e = refl
flush_takes s₀ s₁ (p ∷ ps) last e = absurd (omega (arith, settle_takes (choice_of p) (freed_of p) ps last))

given_one : (a : Released) (r : Release) → a ≡ Frame r → 1 ≤ released_of r.number (given a ++ [])
unfolding released_of
given_one a r e = subst (λ (b : Released). 1 ≤ released_of r.number (given b ++ [])) (sym e) (omega (arith, one_same r.number))

frame_frees : (s₀ s₁ : Option ℕ) (flush : Bool) (v : View) (r : Release) → (release_of s₀ s₁ flush v).answer ≡ Frame r → 1 ≤ in_freed r.number (release_of s₀ s₁ flush v).freed
unfolding freed_in
frame_frees s₀ s₁ flush v r e =
    let out : 1 ≤ released_of r.number (given (release_of s₀ s₁ flush v).answer ++ []) = given_one _ r e in
    let within : released_of r.number (given (release_of s₀ s₁ flush v).answer ++ []) ≤ in_freed r.number (release_of s₀ s₁ flush v).freed + 0 = released_freed r.number (release s₀ s₁ flush ∷ []) v in
    omega arith

-- ---- the counts

pub push_counted_lem : push_counted
push_counted_lem (Ok Kept) a = (omega arith, omega arith)
push_counted_lem (Ok Double) a = (omega arith, omega arith)
push_counted_lem (Ok Late) a = (omega arith, omega arith)
push_counted_lem (Err r) a = (omega arith, omega arith)

pub release_counted_lem : release_counted
release_counted_lem (Frame r) out g h = omega arith
release_counted_lem PassedOver out g h = omega arith
release_counted_lem NothingReady out g h = omega (arith, h)

free_counts : (x : ℕ) (f : Option ℕ) → in_free x f ≤ count_free f
free_counts x None = omega arith
free_counts x (Some n) = cond_both (λ (k : ℕ). k ≤ 1) (eqb n x) 1 0 (omega arith) (omega arith)

-- the frame that is handed on is one of those taken out, and where nothing is ready none is
pub takes_out : (s₀ s₁ : Option ℕ) (flush : Bool) (v : View) (a : Released) → (release_of s₀ s₁ flush v).answer ≡ a → TakesOut a (count_freed (release_of s₀ s₁ flush v).freed)
takes_out s₀ s₁ flush v (Frame f) e =
    let y = (release_of s₀ s₁ flush v).freed in
    omega (arith, frame_frees s₀ s₁ flush v f e, free_counts f.number y.primary, free_counts f.number y.alternate)
takes_out s₀ s₁ flush v PassedOver e = tt
takes_out s₀ s₁ flush v NothingReady e = ap (λ (y : ReleaseStep). count_freed y.freed) (not_ready s₀ s₁ flush v e)

module _ (m : Merger) (s₀ s₁ : Option ℕ) (flush : Bool) (r : AfterRelease) (g : ReleaseGave (release_of s₀ s₁ flush (view_of m)) r) where
  pub took_out : TookOut m r.merger r.freed
  took_out = record {
    valid = g.valid;
    gives = λ x. release_gives x s₀ s₁ flush (view_of m)
        ∙ ap (λ (f : Freed). in_freed x f + pending_of x (release_of s₀ s₁ flush (view_of m)).next.pending) (sym g.frees)
        ∙ ap (λ (v : View). in_freed x r.freed + pending_of x v.pending) (sym g.leaves);
  }

  frees_one : (f : Release) → r.answer ≡ Frame f → 1 ≤ in_freed f.number r.freed
  frees_one f e =
      subst (λ (y : Freed). 1 ≤ in_freed f.number y) (sym g.frees) (frame_frees s₀ s₁ flush (view_of m) f (sym g.answers ∙ e))

  pub takes : (a : Released) → r.answer ≡ a → TakesOut a (count_freed r.freed)
  takes a e = subst (λ (y : Freed). TakesOut a (count_freed y)) (sym g.frees) (takes_out s₀ s₁ flush (view_of m) a (sym g.answers ∙ e))

  pub fell : ValidMerger m → taken_by r.answer + r.merger.n ≡ m.n
  fell valid =
      let before : length (view_of m).pending ≡ m.n = len m valid in
      let after : length (view_of r.merger).pending ≡ r.merger.n = len r.merger g.valid in
      let same : length (view_of r.merger).pending ≡ length (release_of s₀ s₁ flush (view_of m)).next.pending = ap (λ (v : View). length v.pending) g.leaves in
      let answer : taken_by r.answer ≡ taken_by (release_of s₀ s₁ flush (view_of m)).answer = ap taken_by g.answers in
      let all : taken_by (release_of s₀ s₁ flush (view_of m)).answer + length (release_of s₀ s₁ flush (view_of m)).next.pending ≡ length (view_of m).pending
      = release_fell s₀ s₁ flush (view_of m).pending m.last in
      omega arith

  -- the number of the frame that is handed on is a slot's
  pub frame_slot : (taken : List Bool) → length taken ≡ shelf_slots → ((x : ℕ) → bit_at taken x ≡ waiting m x) → (a : Released) → r.answer ≡ a → IsFrameSlot a
  frame_slot taken long shelved (Frame f) e = number_small taken r.freed (waiting r.merger) long (λ x. shelved x ∙ took_out.gives x) f.number (frees_one f e)
  frame_slot taken long shelved PassedOver e = tt
  frame_slot taken long shelved NothingReady e = tt

  -- nothing is ready where no position went out
  none_out : (a : Released) → taken_by a ≡ 0 → a ≡ NothingReady
  none_out (Frame f) e = absurd (omega arith)
  none_out PassedOver e = absurd (omega arith)
  none_out NothingReady e = refl

  pub fewer : ValidMerger m → Fewer s₀ s₁ flush m r.merger
  fewer valid = record {
    no_more = omega (arith, fell valid);
    idle = λ e. let none : r.answer ≡ NothingReady = none_out r.answer (omega (arith, fell valid, e)) in
        let same = not_ready s₀ s₁ flush (view_of m) (sym g.answers ∙ none) in
        ap (λ (v : View). (release_of s₀ s₁ flush v).answer) (g.leaves ∙ ap (λ (y : ReleaseStep). y.next) same) ∙ sym g.answers ∙ none;
  }

  -- as many frames are gone as were taken out
  pub gone_more : (t : Gone) (c : ℕ) → c ≡ count_freed r.freed → gone_of (gone_by r.answer c t) ≡ gone_of t + count_freed r.freed
  gone_more t c e = ap (λ (k : ℕ). gone_of (gone_by r.answer k t)) e ∙ release_counted_lem r.answer (count_freed r.freed) t (takes r.answer refl)

-- the shelf's slots after a release
pub record Emptied (w : Work) (m : Merger) (f : Freed) (taken : List Bool) : Type 0 where
  pub slots : length taken ≡ shelf_slots
  pub shelved : (x : ℕ) → bit_at taken x ≡ waiting m x
  pub fewer : used (taken_in w.shelf) ≡ count_freed f + used taken

-- what a release gives back lies on the shelf
module _ (w : Work) (a : Accounted w) (m : Merger) (f : Freed) (t : TookOut w.merger m f) where
  on_shelf : (x : ℕ) → bit_at (taken_in w.shelf) x ≡ in_freed x f + waiting m x
  on_shelf x = a.shelved x ∙ t.gives x

  pub slots_small : IsSlot f.primary × IsSlot f.alternate
  slots_small = small_freed (taken_in w.shelf) f (waiting m) a.slots on_shelf

  pub emptied : (taken : List Bool) → taken ≡ cleared f.alternate (cleared f.primary (taken_in w.shelf)) → Emptied w m f taken
  emptied taken e = record {
    slots = ap length e ∙ as_long (taken_in w.shelf) f (waiting m) a.slots on_shelf;
    shelved = λ x. ap (λ (u : List Bool). bit_at u x) e ∙ slots_freed (taken_in w.shelf) f (waiting m) a.slots on_shelf x;
    fewer = fewer_used (taken_in w.shelf) f (waiting m) a.slots on_shelf ∙ ap (λ (u : List Bool). count_freed f + used u) (sym e);
  }

pub slot_left_lem : slot_left
slot_left_lem w a = room_left (taken_in w.shelf) (view_of w.merger).pending a.shelved a.valid.sound.few

pub all_counted_lem : all_counted
all_counted_lem w a e = omega (arith, a.balance, none_used (taken_in w.shelf) (view_of w.merger).pending a.shelved (len w.merger a.valid ∙ e))

-- ---- the work after a push

-- the shelf's slots after the merger's answer
pub record Laid (before : List Bool) (l : List Position) (k : Result Keeping Refusal) (taken : List Bool) : Type 0 where
  pub slots : length taken ≡ shelf_slots
  pub shelved : (x : ℕ) → bit_at taken x ≡ pending_of x l
  pub more : used taken ≡ used before + takes_in k

module _ (taken : List Bool) (slots : length taken ≡ shelf_slots) (v : View) (shelved : (x : ℕ) → bit_at taken x ≡ pending_of x v.pending) (s : ℕ) (h : Held) where
  waits : (x : ℕ) (k : Result Keeping Refusal) → (push_of s h v).answer ≡ k → pending_of x (push_of s h v).next.pending ≡ kept_by x h k + pending_of x v.pending
  waits x k e = push_gives x s h v ∙ ap (λ (q : Result Keeping Refusal). kept_by x h q + pending_of x v.pending) e

  -- no slot more is taken
  still : (k : Result Keeping Refusal) → (push_of s h v).answer ≡ k → ((x : ℕ) → kept_by x h k ≡ 0) → takes_in k ≡ 0 → Laid taken (push_of s h v).next.pending k taken
  still k e z n = record { slots = slots; shelved = λ x. omega (arith, waits x k e, shelved x, z x); more = omega (arith, n) }

  pub laid : h.number < shelf_slots → get_or taken h.number false ≡ false → (k : Result Keeping Refusal) → (push_of s h v).answer ≡ k → Laid taken (push_of s h v).next.pending k (slots_after k h.number taken)
  laid small free (Ok Kept) e =
      let within : h.number < length taken = omega arith in
      record {
        slots = length-set taken h.number true ∙ slots;
        shelved = λ x. slot_filled taken h.number within free x ∙ ap (λ (n : ℕ). one x h.number + n) (shelved x) ∙ sym (waits x (Ok Kept) e);
        more = one_more_used taken h.number within free small;
      }
  laid small free (Ok Double) e = still (Ok Double) e (λ x. refl) refl
  laid small free (Ok Late) e = still (Ok Late) e (λ x. refl) refl
  laid small free (Err f) e = still (Err f) e (λ x. refl) refl

module _ (w : Work) (a : Accounted w) (s : ℕ) (h : Held) (r : AfterPush) (g : PushGave w.merger (push_of s h (view_of w.merger)) r) where
  pub push_accounts : h.number < shelf_slots → get_or (taken_in w.shelf) h.number false ≡ false → (shelf : Shelf) (answered : Answered) → taken_in shelf ≡ slots_after r.answer h.number (taken_in w.shelf)
      → answered ≡ counted r.answer w.answered → Accounted (record { merger = r.merger; shelf = shelf; answered = answered; gone = w.gone })
  push_accounts small free shelf answered t c =
      let l = laid (taken_in w.shelf) a.slots (view_of w.merger) a.shelved s h small free r.answer (sym g.answers) in
      record {
        valid = g.valid;
        slots = ap length t ∙ l.slots;
        shelved = λ x. ap (λ (u : List Bool). bit_at u x) t ∙ l.shelved x ∙ ap (λ (v : View). pending_of x v.pending) (sym g.leaves);
        balance = omega (arith, ap used t, l.more, a.balance, ap (λ (y : Answered). y.kept) c, (push_counted_lem r.answer w.answered).1);
      }

-- ---- the work after a release
module _ (w : Work) (a : Accounted w) (s₀ s₁ : Option ℕ) (flush : Bool) (r : AfterRelease) (g : ReleaseGave (release_of s₀ s₁ flush (view_of w.merger)) r) where
  pub release_accounts : (shelf : Shelf) (gone : Gone) (out : ℕ) → taken_in shelf ≡ cleared r.freed.alternate (cleared r.freed.primary (taken_in w.shelf))
      → out ≡ count_freed r.freed → gone ≡ gone_by r.answer out w.gone → Accounted (record { merger = r.merger; shelf = shelf; answered = w.answered; gone = gone })
  release_accounts shelf gone out t c e =
      let l = emptied w a r.merger r.freed (took_out w.merger s₀ s₁ flush r g) (taken_in shelf) t in
      record {
        valid = g.valid;
        slots = l.slots;
        shelved = l.shelved;
        balance = omega (arith, l.fewer, a.balance, ap gone_of e, gone_more w.merger s₀ s₁ flush r g w.gone out c);
      }

  -- what is gone after it was taken in
  pub gone_few : told_of w.answered < most_told → (out : ℕ) → out ≡ count_freed r.freed → gone_of w.gone + out < most_told
  gone_few h out c =
      let l = emptied w a r.merger r.freed (took_out w.merger s₀ s₁ flush r g) _ refl in
      omega (arith, l.fewer, a.balance)
