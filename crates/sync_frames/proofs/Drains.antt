-- Frames one after the other.
-- Assumes nothing.
use mathlib.Core.Path.{◌≡◌, refl, sym, ap, ap₂, ◌∙◌, subst}
use mathlib.Core.List.{List, [], ◌∷◌, ◌++◌, append_assoc}
use mathlib.Core.Bool.{Bool, true, false}
use Prim.Native.Nat.{ℕ, zero, suc, ◌+◌, ◌-◌, ◌*◌, ◌≤◌, ◌<◌}
use native.Mathlib.Nat.{add-zero, zero-add}
use native.Mathlib.Numerals.{add-one}
use native.Mathlib.Omega.{arith}
use lib.ListN.{length, take, drop, set, length-set}
use lib.Seq.{take-suc-set, drop-drop}
use Rattle.std.specs.Prelude.{Some, None}
use Rattle.std.proofs.lemmas.List.{drop-set-lt, take-append-drop}
use Rattle.sync_numbers.specs.declared.numbers.Numbers.{Numbers}
use Rattle.sync_rules.specs.declared.Head.{Head}
use Rattle.sync_rules.specs.declared.Moves.{Moves}
use Rattle.sync_frames.specs.declared.frames.Drained.{Drained}
use Rattle.sync_frames.specs.declared.frames.Framed.{Framed}
use Rattle.sync_numbers.specs.View.{Few, view_of, Steady}
use Rattle.sync_frames.specs.Frames.{heads_of, Looked, SentBy, DrainedBy, drained_of, head_of}
use Rattle.sync_rules.specs.State.{State}
use Rattle.sync_rules.specs.Frames.{Frame, Sent, ready, send}
use Rattle.sync_rules.specs.Pushes.{Out, drain}
use Rattle.sync_rules.specs.Room.{laid}
use Rattle.bits.proofs.Tests.{cond_yes, cond_no}

pub steady_of : (bits reliabilities room room' : List ℕ) (to n : ℕ) (s : Sent) (r : Framed) → SentBy bits reliabilities room room' to n s r → Steady r.numbers
steady_of bits reliabilities room room' to n s r x = record { sound = x.sound; low = x.low; slips = x.slips; fails = x.fails }

by_lock : (b : Bool) (n : ℕ) → (b ≡ true → n ≤ 391) → (b ≡ false → n ≤ 1151) → n ≤ 1151
by_lock true n f g = omega (arith, f refl)
by_lock false n f g = g refl

-- a state in which no frame is ready
pub few_of : (xs : List ℕ) (c : Numbers) → Looked xs c None → (c.figures.locked ≡ false → c.pending ≤ 1151) → Few c
few_of xs c x g = (x.few refl, by_lock c.figures.locked c.pending (x.few refl) g)

module _ (bits reliabilities : List ℕ) where
  nothing : (room : List ℕ) (k n : ℕ) (c : Numbers) (o : Out) → Steady c → Few c → record { sent = []; next = view_of bits reliabilities c } ≡ o → DrainedBy bits reliabilities room room k n o c 0 (heads_of n [])
  unfolding laid
  nothing room k n c o st fw e = subst (λ (z : Out). DrainedBy bits reliabilities room room k n z c 0 (heads_of n [])) e (record { steady = st; few = fw; next = refl; many = refl; figures = refl; stored = refl })

  pub ends : (room : List ℕ) (k n : ℕ) (c : Numbers) → Steady c → Few c → (b : Bool) → b ≡ ready (view_of bits reliabilities c) → b ≡ false → DrainedBy bits reliabilities room room k (suc n) (drain (suc n) (view_of bits reliabilities c)) c 0 (heads_of (suc n) [])
  unfolding drain
  ends room k n c st fw b e f = nothing room k (suc n) c _ st fw (cond_no _ _ _ _ e f)

  pub full : (room : List ℕ) (k : ℕ) (c : Numbers) → Steady c → Few c → DrainedBy bits reliabilities room room k 0 (drain 0 (view_of bits reliabilities c)) c 0 (heads_of 0 [])
  unfolding drain
  full room k c st fw = nothing room k 0 c _ st fw refl

  more : Frame → Out → Out
  more f o = record { sent = f ∷ o.sent; next = o.next }

  once : (n : ℕ) (m : State) (b : Bool) → b ≡ ready m → b ≡ true → more (send m).frame (drain n (send m).next) ≡ drain (suc n) m
  unfolding drain more
  once n m b e t = cond_yes _ _ _ _ e t

  mk : ℕ → Bool → ℕ → Moves → Head
  mk o m e v = record { offset = o; matched = m; errors = e; moves = v }

  mk_eq : (o o' : ℕ) (m m' : Bool) (e e' : ℕ) (v v' : Moves) → o ≡ o' → m ≡ m' → e ≡ e' → v ≡ v' → mk o m e v ≡ mk o' m' e' v'
  mk_eq o o' m m' e e' v v' p q r s = cc

  head_eq : (a : Head) (f : Frame) → a.offset ≡ f.offset → a.matched ≡ f.matched → a.errors ≡ f.errors → a.moves ≡ f.moves → a ≡ head_of f
  unfolding mk
  head_eq a f p q r s = mk_eq _ _ _ _ _ _ _ _ p q r s

  pub again : (room r1 r2 : List ℕ) (k n most : ℕ) (c : Numbers) (b : Bool) → b ≡ ready (view_of bits reliabilities c) → b ≡ true
      → (f : Framed) → SentBy bits reliabilities room r1 (432 * k) most (send (view_of bits reliabilities c)) f
      → (numbers : Numbers) (count : ℕ) (hs : List Head) → DrainedBy bits reliabilities r1 r2 (suc k) n (drain n (view_of bits reliabilities f.numbers)) numbers count hs
      → DrainedBy bits reliabilities room r2 k (suc n) (drain (suc n) (view_of bits reliabilities c)) numbers (suc count) (f.head ∷ hs)
  unfolding laid more heads_of
  again room r1 r2 k n most c b e t f s numbers count hs d =
      let M = view_of bits reliabilities c in
      let d' : DrainedBy bits reliabilities r1 r2 (suc k) n (drain n (send M).next) numbers count hs = subst (λ (z : State). DrainedBy bits reliabilities r1 r2 (suc k) n (drain n z) numbers count hs) s.next d in
      subst (λ (z : Out). DrainedBy bits reliabilities room r2 k (suc n) z numbers (suc count) (f.head ∷ hs)) (once n M b e t)
      (record {
        steady = d'.steady;
        few = d'.few;
        next = d'.next;
        many = ap suc d'.many;
        figures = ap₂ (λ (x : Head) (l : List Head). x ∷ l) (head_eq f.head (send M).frame s.head.0 s.head.1 s.head.2 s.head.3) d'.figures;
        stored = d'.stored ∙ ap (λ (z : List ℕ). laid z (suc k) (drain n (send M).next).sent) s.laid;
      })

-- no frame is ready at once
pub rests : (bits reliabilities room : List ℕ) (c : Numbers) → Steady c → (c.figures.locked ≡ false → c.pending ≤ 1151) → Looked bits c None → (d : Drained) → d ≡ drained_of c 0 (heads_of 3 [])
    → DrainedBy bits reliabilities room room 0 3 (drain 3 (view_of bits reliabilities c)) d.numbers d.count d.heads
rests bits reliabilities room c st f l d e =
    subst (λ (z : Drained). DrainedBy bits reliabilities room room 0 3 (drain 3 (view_of bits reliabilities c)) z.numbers z.count z.heads) (sym e)
    (ends bits reliabilities room 0 2 c st (few_of bits c l f) false (l.same reliabilities) refl)

-- ---- the heads so far, and zeros behind them
rest_of : (hs : List Head) (i : ℕ) → drop i hs ≡ heads_of (3 - i) [] → i < 3 → drop (i + 1) hs ≡ heads_of (3 - (i + 1)) []
unfolding heads_of
rest_of hs i e h = sym (drop-drop 1 i hs) ∙ ap (drop 1) e ∙ shorter i h
  where
    shorter : (i : ℕ) → i < 3 → drop 1 (heads_of (3 - i) []) ≡ heads_of (3 - (i + 1)) []
    shorter zero h = refl
    shorter (suc zero) h = refl
    shorter (suc (suc zero)) h = refl
    shorter (suc (suc (suc i))) h = absurd (omega arith)

joined : (hs : List Head) (i : ℕ) (a : Head) (behind : List Head) → i < length hs → take i hs ++ (a ∷ behind) ≡ take (i + 1) (set hs i a) ++ behind
joined hs i a behind h =
    sym (append_assoc (take i hs) (a ∷ []) behind) ∙ ap (λ (l : List Head). l ++ behind) (sym (ap (λ (n : ℕ). take n (set hs i a)) (add-one i) ∙ take-suc-set hs i a h))

-- ---- the loop: `slot` frames went out
pub record Draining (bits reliabilities room₀ : List ℕ) (c₀ : Numbers) (room : List ℕ) (slot : ℕ) (d : Drained) : Type 0 where
  pub steady : Steady d.numbers
  pub many : d.count ≡ slot
  pub long : length d.heads ≡ 3
  pub rest : drop slot d.heads ≡ heads_of (3 - slot) []
  pub passed : d.numbers.pending + 378 * slot ≤ c₀.pending
  pub few : d.numbers.figures.locked ≡ false → d.numbers.pending ≤ 1151
  -- what the other slots then get completes it
  pub ahead : (room' : List ℕ) (numbers : Numbers) (count : ℕ) (heads : List Head)
      → DrainedBy bits reliabilities room room' slot (3 - slot) (drain (3 - slot) (view_of bits reliabilities d.numbers)) numbers count heads
      → DrainedBy bits reliabilities room₀ room' 0 3 (drain 3 (view_of bits reliabilities c₀)) numbers (slot + count) (take slot d.heads ++ heads)

module _ (bits reliabilities room₀ : List ℕ) (c₀ : Numbers) where
  abbrev Whole : List ℕ → Numbers → ℕ → List Head → Type 0
  Whole room' numbers count heads = DrainedBy bits reliabilities room₀ room' 0 3 (drain 3 (view_of bits reliabilities c₀)) numbers count heads

  abbrev Part : List ℕ → Numbers → ℕ → ℕ → List ℕ → Numbers → ℕ → List Head → Type 0
  Part room c k n room' numbers count heads = DrainedBy bits reliabilities room room' k n (drain n (view_of bits reliabilities c)) numbers count heads

  matching : (room' : List ℕ) (numbers : Numbers) (m n : ℕ) (hs ks : List Head) → m ≡ n → hs ≡ ks → Whole room' numbers m hs → Whole room' numbers n ks
  matching room' numbers m n hs ks e f w = subst (λ (i : ℕ). Whole room' numbers i ks) e (subst (λ (l : List Head). Whole room' numbers m l) f w)

  at : (room : List ℕ) (c : Numbers) (j k m n : ℕ) (room' : List ℕ) (numbers : Numbers) (count : ℕ) (heads : List Head) → j ≡ k → m ≡ n → Part room c j m room' numbers count heads → Part room c k n room' numbers count heads
  at room c j k m n room' numbers count heads e f p = subst (λ (i : ℕ). Part room c k i room' numbers count heads) f (subst (λ (i : ℕ). Part room c i m room' numbers count heads) e p)

  pub drain_starts : (d : Drained) → d ≡ drained_of c₀ 0 (heads_of 3 []) → Steady c₀ → (c₀.figures.locked ≡ false → c₀.pending ≤ 1151) → Draining bits reliabilities room₀ c₀ room₀ 0 d
  unfolding heads_of
  drain_starts d e st f =
      subst (λ (z : Drained). Draining bits reliabilities room₀ c₀ room₀ 0 z) (sym e)
      (record { steady = st; many = refl; long = refl; rest = refl; passed = omega arith; few = f; ahead = λ room' numbers count heads p. matching room' numbers count (0 + count) heads heads (sym (zero-add count)) refl p })

  module _ (room : List ℕ) (slot : ℕ) (d : Drained) (D : Draining bits reliabilities room₀ c₀ room slot d) where
    same_heads : take slot d.heads ++ heads_of (3 - slot) [] ≡ d.heads
    same_heads = ap (λ (l : List Head). take slot d.heads ++ l) (sym D.rest) ∙ take-append-drop slot d.heads

    closes : Part room d.numbers slot (3 - slot) room d.numbers 0 (heads_of (3 - slot) []) → Whole room d.numbers d.count d.heads
    closes p = matching room d.numbers (slot + 0) d.count _ d.heads (add-zero slot ∙ sym D.many) same_heads (D.ahead room d.numbers 0 (heads_of (3 - slot) []) p)

    -- no frame is ready
    pub drain_ends : slot < 3 → Looked bits d.numbers None → Whole room d.numbers d.count d.heads
    drain_ends h l =
        let n = 3 - (slot + 1) in
        let e : suc n ≡ 3 - slot = omega arith in
        closes (subst (λ (i : ℕ). Part room d.numbers slot i room d.numbers 0 (heads_of i [])) e (ends bits reliabilities room slot n d.numbers D.steady (few_of bits d.numbers l D.few) false (l.same reliabilities) refl))

    -- all slots are taken
    pub drain_full : slot ≡ 3 → Steady c₀ → Whole room d.numbers d.count d.heads
    drain_full h st =
        let e : 0 ≡ 3 - slot = omega arith in
        let few : Few d.numbers = ((λ w. omega (arith, D.passed, st.sound.held_few)), omega (arith, D.passed, st.sound.held_few)) in
        closes (subst (λ (i : ℕ). Part room d.numbers slot i room d.numbers 0 (heads_of i [])) e (full bits reliabilities room slot d.numbers D.steady few))

    -- one frame more
    pub drain_goes_on : slot < 3 → (placed : Bool) → Looked bits d.numbers (Some placed) → (room₁ : List ℕ) (to : ℕ) → to ≡ 432 * slot → (f : Framed)
        → SentBy bits reliabilities room room₁ to (d.numbers.pending + 2) (send (view_of bits reliabilities d.numbers)) f
        → Steady c₀ → Draining bits reliabilities room₀ c₀ room₁ (slot + 1) (drained_of f.numbers (d.count + 1) (set d.heads slot f.head))
    drain_goes_on h placed l room₁ to et f s st =
        let n = 3 - (slot + 1) in
        let k : suc n ≡ 3 - slot = omega arith in
        let s' : SentBy bits reliabilities room room₁ (432 * slot) (d.numbers.pending + 2) (send (view_of bits reliabilities d.numbers)) f = subst (λ (i : ℕ). SentBy bits reliabilities room room₁ i (d.numbers.pending + 2) (send (view_of bits reliabilities d.numbers)) f) et s in
        record {
          steady = steady_of _ _ _ _ _ _ _ _ s;
          many = ap (λ (i : ℕ). i + 1) D.many;
          long = length-set d.heads slot f.head ∙ D.long;
          rest = drop-set-lt (slot + 1) d.heads slot f.head (omega arith) ∙ rest_of d.heads slot D.rest (omega arith);
          passed = omega (arith, s.pending, D.passed);
          few = λ w. omega (arith, s.pending, D.passed, st.sound.held_few);
          ahead = λ room' numbers count heads p.
              matching room' numbers (slot + suc count) (slot + 1 + count) _ _ (omega arith) (joined d.heads slot f.head heads (omega (arith, D.long)))
              (D.ahead room' numbers (suc count) (f.head ∷ heads) (at room d.numbers slot slot (suc n) (3 - slot) room' numbers (suc count) (f.head ∷ heads) refl k
              (again bits reliabilities room room₁ room' slot n _ d.numbers true (l.same reliabilities) refl f s' numbers count heads (at room₁ f.numbers (slot + 1) (suc slot) n n room' numbers count heads (add-one slot) refl p))));
        }
