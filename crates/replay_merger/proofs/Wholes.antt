-- One release of the source's whole release: what it hands on and leaves, and what is left to be released.
-- Assumes nothing.
use Rattle.std.proofs.Common.{Option, Some, None}
use mathlib.Core.Path.{◌≡◌, refl, sym, ap, ap₂, ◌∙◌}
use mathlib.Core.Bool.{Bool, true, false, cond, true≢false}
use mathlib.Core.List.{List, [], ◌∷◌, ◌++◌, append-nil, append_assoc}
use Prim.Native.Nat.{ℕ, suc, ◌+◌, ◌-◌}
use native.Mathlib.Nat.{le_refl}
use native.Mathlib.Omega.{arith}
use lib.ListN.{length}
use Rattle.replay_bytes.specs.Bytes.{Put}
use Rattle.replay_bytes.proofs.Puts.{put_as, put_front, put_more, put_none, same_long}
use Rattle.merger_rules.specs.declared.Chosen.{Chosen}
use Rattle.merger_rules.specs.declared.Freed.{Freed}
use Rattle.merger_rules.specs.declared.Position.{Position}
use Rattle.merger_rules.specs.declared.Release.{Release}
use Rattle.merger_rules.specs.declared.Released.{Released}
use Rattle.merger_rules.specs.declared.Released.TheVariants.{Frame, PassedOver, NothingReady}
use Rattle.merger_rules.specs.Merging.{View, view, is_ready, is_after, snapped, choice_of, freed_of, none_freed, released_as, ReleaseStep, release_step, settle, release_of}
use Rattle.merger_rules.specs.Scripts.{given}
use Rattle.merger_rules.specs.Source.{Many, many, turn_of, source_release, times}
use Rattle.merger_rules.proofs.Repeated.{ready_same, repeated}
use Rattle.replay_merger_bytes.specs.MergerBytes.{release_bytes}
use Rattle.replay_merger.specs.Merges.{frames_bytes, is_gone}

frames_append : (a b : List Release) → frames_bytes (a ++ b) ≡ frames_bytes a ++ frames_bytes b
unfolding frames_bytes
frames_append [] b = refl
frames_append (r ∷ a) b = ap (λ (l : List ℕ). release_bytes r ++ l) (frames_append a b) ∙ sym (append_assoc (release_bytes r) (frames_bytes a) (frames_bytes b))

none_given_lem : (a : Released) → is_gone a ≡ false → given a ≡ []
none_given_lem (Frame r) e = absurd (true≢false e)
none_given_lem PassedOver e = refl
none_given_lem NothingReady e = refl

module _ (s₀ s₁ : Option ℕ) (flush : Bool) where
  -- all that is ready, released
  abbrev pub whole : View → Many
  whole v = source_release s₀ s₁ flush v.pending v.last

  -- a position that is ready goes, it alone
  record Went (ps : List Position) (y : ReleaseStep) : Type 0 where
    went : is_gone y.answer ≡ true
    rest : y.next.pending ≡ ps

  settled : (c : Option Chosen) (f : Freed) (ps : List Position) (last : Option ℕ) → Went ps (settle c f ps last)
  settled None f ps last = record { went = refl; rest = refl }
  settled (Some c) f ps last = by (is_after last (snapped last c.frame.figures.offset))
    where
      to : ℕ
      to = snapped last c.frame.figures.offset

      by : (t : Bool) → Went ps (cond t (release_step (Frame (released_as to c.frame c.alternate)) f (view ps (Some to))) (release_step PassedOver f (view ps last)))
      by true = record { went = refl; rest = refl }
      by false = record { went = refl; rest = refl }

  -- a step of the whole release
  pub record Part (v : View) (y : ReleaseStep) : Type 0 where
    pub none : is_gone y.answer ≡ false → (y.next ≡ v) × (whole v ≡ many [] v)
    pub fewer : is_gone y.answer ≡ true → suc (length y.next.pending) ≡ length v.pending
    pub frames : (whole v).frames ≡ given y.answer ++ (whole y.next).frames
    pub next : (whole v).next ≡ (whole y.next).next

  part : (l : List Position) (last : Option ℕ) → Part (view l last) (release_of s₀ s₁ flush (view l last))
  part [] last = record { none = λ e. (refl, refl); fewer = λ e. absurd (true≢false (sym e)); frames = refl; next = refl }
  part (p ∷ ps) last = by (is_ready s₀ s₁ flush p) refl
    where
      v : View
      v = view (p ∷ ps) last

      on : ReleaseStep → Many
      on y = many (given y.answer ++ (times (length ps) s₀ s₁ flush y.next).frames) (times (length ps) s₀ s₁ flush y.next).next

      going : ReleaseStep
      going = settle (choice_of p) (freed_of p) ps last

      staying : ReleaseStep
      staying = release_step NothingReady none_freed v

      ready : Many
      ready =
          many ((turn_of p.primary p.alternate last).out ++ (source_release s₀ s₁ flush ps (turn_of p.primary p.alternate last).released).frames)
          (source_release s₀ s₁ flush ps (turn_of p.primary p.alternate last).released).next

      by : (t : Bool) → is_ready s₀ s₁ flush p ≡ t → Part v (cond t going staying)
      by true e =
          let w : Went ps going = settled (choice_of p) (freed_of p) ps last in
          let few : length going.next.pending ≡ length ps = ap length w.rest in
          let this : whole v ≡ on going = sym (repeated s₀ s₁ flush (p ∷ ps) last (suc (length ps)) (le_refl _)) ∙ ap (λ (t : Bool). on (cond t going staying)) e in
          let others : times (length ps) s₀ s₁ flush going.next ≡ whole going.next = repeated s₀ s₁ flush going.next.pending going.next.last (length ps) (omega arith) in
          record {
            none = λ k. absurd (true≢false (sym w.went ∙ k));
            fewer = λ k. ap suc few;
            frames = ap (λ (m : Many). m.frames) this ∙ ap (λ (m : Many). given going.answer ++ m.frames) others;
            next = ap (λ (m : Many). m.next) this ∙ ap (λ (m : Many). m.next) others;
          }
      by false e =
          let all : whole v ≡ many [] v = ap (λ (t : Bool). cond t ready (many [] v)) (ready_same s₀ s₁ flush p ∙ e) in
          record { none = λ k. (refl, all); fewer = λ k. absurd (true≢false (sym k)); frames = refl; next = refl }

  pub part_of : (v : View) → Part v (release_of s₀ s₁ flush v)
  part_of v = part v.pending v.last

  -- releases so far, of all from v₀ on: v is left, and the frames' bytes are put
  pub record Releasing (v₀ v : View) (out₀ : List ℕ) (place₀ : ℕ) (out : List ℕ) (place gone : ℕ) : Type 0 where
    pub so_far : List Release
    pub frames : (whole v₀).frames ≡ so_far ++ (whole v).frames
    pub next : (whole v₀).next ≡ (whole v).next
    pub count : gone + length v.pending ≡ length v₀.pending
    pub puts : Put out₀ place₀ (frames_bytes so_far) out place

  -- at first, behind a byte that was put
  pub starts : (v : View) {before out : List ℕ} {place : ℕ} → Put before 0 (0 ∷ []) out place → Releasing v v out place out place 0
  unfolding frames_bytes
  starts v {out = out} {place} p = record { so_far = []; frames = refl; next = refl; count = omega arith; puts = put_none out place place (omega (arith, p.goes_on, same_long p)) }

  pub goes_on : {v₀ v v' : View} {out₀ : List ℕ} {place₀ : ℕ} {out : List ℕ} {place gone : ℕ} {after : List ℕ} {place' : ℕ} (y : ReleaseStep) → Releasing v₀ v out₀ place₀ out place gone → Part v y
      → is_gone y.answer ≡ true → Put out place (frames_bytes (given y.answer)) after place' → v' ≡ y.next → Releasing v₀ v' out₀ place₀ after place' (gone + 1)
  goes_on y r w g p e = record {
    so_far = r.so_far ++ given y.answer;
    frames = r.frames ∙ ap (λ (l : List Release). r.so_far ++ l) w.frames ∙ sym (append_assoc r.so_far (given y.answer) (whole y.next).frames) ∙ ap (λ (u : View). (r.so_far ++ given y.answer) ++ (whole u).frames) (sym e);
    next = r.next ∙ w.next ∙ ap (λ (u : View). (whole u).next) (sym e);
    count = omega (arith, w.fewer g, r.count, ap (λ (u : View). length u.pending) e);
    puts = put_as (put_more r.puts p) (sym (frames_append r.so_far (given y.answer)));
  }

  -- nothing is ready: all is told, with the number of positions put over the first byte
  pub ends : {v₀ v : View} {before out₀ : List ℕ} {place₀ : ℕ} {out : List ℕ} {place gone : ℕ} {after : List ℕ} {place' : ℕ} {last : List ℕ} {j : ℕ} (y : ReleaseStep) → Put before 0 (0 ∷ []) out₀ place₀
      → Releasing v₀ v out₀ place₀ out place gone → Part v y → is_gone y.answer ≡ false → Put out place (frames_bytes (given y.answer)) after place' → Put after 0 (gone ∷ []) last j
      → (y.next ≡ (whole v₀).next) × Put before 0 ((length v₀.pending - length (whole v₀).next.pending) ∷ frames_bytes (whole v₀).frames) last place'
  ends {v₀} {v} {gone = gone} y b r w g p q =
      let stay : y.next ≡ v = (w.none g).0 in
      let over : whole v ≡ many [] v = (w.none g).1 in
      let left : (whole v₀).next ≡ v = r.next ∙ ap (λ (m : Many). m.next) over in
      let none : given y.answer ≡ [] = none_given_lem y.answer g in
      let all : (whole v₀).frames ≡ r.so_far = r.frames ∙ ap (λ (m : Many). r.so_far ++ m.frames) over ∙ append-nil r.so_far in
      let went : gone ≡ length v₀.pending - length (whole v₀).next.pending = omega (arith, r.count, ap (λ (u : View). length u.pending) left) in
      let told : frames_bytes r.so_far ++ frames_bytes (given y.answer) ≡ frames_bytes (whole v₀).frames =
      ap (λ (l : List Release). frames_bytes r.so_far ++ frames_bytes l) none ∙ sym (frames_append r.so_far []) ∙ ap frames_bytes (append-nil r.so_far ∙ sym all) in
      (stay ∙ sym left, put_as (put_front (put_more b (put_more r.puts p)) q) (ap₂ (λ (n : ℕ) (l : List ℕ). n ∷ l) went told))
