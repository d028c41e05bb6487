-- A frame for which the positions are too few: one that gives way, and one that does not.
-- Assumes nothing.
use Rattle.std.proofs.Common.{Result, Ok, Err}
use mathlib.Core.Path.{◌≡◌, refl, sym, ap, ◌∙◌}
use mathlib.Core.Bool.{Bool, true, false, true≢false, not, ◌&&◌}
use Prim.Native.Nat.{ℕ, ◌≤◌, ◌<◌}
use native.Mathlib.Omega.{arith}
use borrow.Author.Tests.{ltb-true, ltb-false, lt-ltb, leb-true, not-true}
use lib.Dec.{ltb}
use lib.ListN.{length, get_or, set, length-set}
use Rattle.bits.specs.Sizes.{most_offset}
use Rattle.bits.proofs.Ands.{both_true}
use Rattle.merger_rules.specs.Merging.{View, home_of, order_of, insert_at, filled, no_position, alone, PushStep, push_of}
use Rattle.merger_rules.specs.declared.Held.{Held}
use Rattle.merger_rules.specs.declared.Keeping.{Keeping}
use Rattle.merger_rules.specs.declared.Keeping.TheVariants.{Kept, Double, Late}
use Rattle.merger_rules.proofs.Inserts.{length_insert}
use Rattle.merger_rules.proofs.Pushes.{push_cases, join_cases, open_cases}
use Rattle.merging_rules.specs.Piles.{insists, yields}
use Rattle.merging_rules.specs.Orders.{LeavesOne, GaveWay}
use Rattle.bits.specs.declared.Refusal.{Refusal}

-- ---- by the answer

-- one that insists decodes
pub insists_decodes : (d : Bool) (k : Result Keeping Refusal) → insists d k ≡ true → d ≡ true
insists_decodes d (Ok Kept) e = absurd (true≢false (sym e))
insists_decodes d (Ok Double) e = absurd (true≢false (sym e))
insists_decodes d (Ok Late) e = absurd (true≢false (sym e))
insists_decodes d (Err x) e = e

-- what is not refused insists on nothing
pub not_refused_rests : (d : Bool) (k : Result Keeping Refusal) → insists true k ≡ false → insists d k ≡ false
not_refused_rests d (Ok Kept) e = refl
not_refused_rests d (Ok Double) e = refl
not_refused_rests d (Ok Late) e = refl
not_refused_rests d (Err x) e = absurd (true≢false e)

-- one that neither insists nor yields is not refused
pub handed_once : (d : Bool) (k : Result Keeping Refusal) (before after : ℕ) → insists d k ≡ false → yields d k before after ≡ false → insists true k ≡ false
handed_once d (Ok Kept) before after e f = refl
handed_once d (Ok Double) before after e f = refl
handed_once d (Ok Late) before after e f = refl
handed_once d (Err x) before after e f = absurd (true≢false (sym (ap not e) ∙ f))

-- ---- by the positions

undecoded : (d b : Bool) → (not d && b) ≡ true → d ≡ false
undecoded true b e = absurd (true≢false (sym e))
undecoded false b e = refl

grows : (d : Bool) (before after : ℕ) → (not d && (ltb 15 after && ltb before after)) ≡ true → (15 < after) × (before < after)
grows d before after e =
    let both = both_true (ltb 15 after) (ltb before after) (both_true (not d) (ltb 15 after && ltb before after) e).1 in
    (ltb-true 15 after both.0, ltb-true before after both.1)

stays_low : (d : Bool) (before after : ℕ) → (not d && (ltb 15 after && ltb before after)) ≡ false → d ≡ false → before < 16 → after < 16
stays_low d before after e u l = by (ltb 15 after) refl
  where
    by : (b : Bool) → ltb 15 after ≡ b → after < 16
    by true f =
        let g = lt-ltb before after (omega (arith, ltb-true 15 after f)) in
        absurd (true≢false (sym (ap (λ (b : Bool). not b && (ltb 15 after && ltb before after)) u ∙ ap (λ (b : Bool). b && ltb before after) f ∙ g) ∙ e))
    by false f = omega (arith, ltb-false 15 after f)

module _ (s : ℕ) (h : Held) (v : View) where
  abbrev yielding : PushStep → Bool
  yielding y = yields h.check y.answer (length v.pending) (length y.next.pending)

  -- one that does not yield
  pub leaves_one : yielding (push_of s h v) ≡ false → LeavesOne h v (push_of s h v).next
  leaves_one =
      push_cases Q s h v (λ _ _ _ l. l) (λ _ _ _ l. l) (λ _ _ _ l. l)
      (λ _ _. join_cases Q s h v _ (λ _ _ _ l. l) (λ _ e u l. stays_low h.check _ _ e u l))
      (λ _ _. open_cases Q s h v (order_of h.figures.offset v.pending) (λ _ _ _ l. l) (λ _ e u l. stays_low h.check _ _ e u l))
    where
      Q : PushStep → Type 0
      Q y = yielding y ≡ false → LeavesOne h v y.next

  -- one that yields
  pub gave_way_lem : s ≤ 1 → h.figures.offset ≤ most_offset → yielding (push_of s h v) ≡ true → GaveWay h v
  gave_way_lem t o =
      let home = home_of h.figures.offset v.pending in
      let order = order_of h.figures.offset v.pending in
      let own = filled s h (get_or v.pending home no_position) in
      let n = length v.pending in
      push_cases Q s h v (λ e. absurd (omega arith)) (λ e. absurd (omega arith)) (λ _ e. absurd (true≢false (sym e)))
      (λ _ _. join_cases Q s h v home (λ _ e. absurd (true≢false (sym e)))
      (λ _ e. absurd (omega (arith, (grows h.check n (length (set v.pending home own)) e).1, length-set v.pending home own))))
      (λ p f. open_cases Q s h v order
      (λ full e. record { undecoded = not-true h.check e; few_free = omega (arith, leb-true 16 (length v.pending) full); in_time = p.time; none_own = f })
      (λ _ e. record { undecoded = undecoded h.check _ e; few_free = omega (arith, (grows h.check n (length (insert_at order (alone s h) v.pending)) e).0, length_insert order (alone s h) v.pending); in_time = p.time; none_own = f }))
    where
      Q : PushStep → Type 0
      Q y = yielding y ≡ true → GaveWay h v
