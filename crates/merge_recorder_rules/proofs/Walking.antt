-- Turns one after the other, and a calm stretch of two streams, fed at once, as many turns of one dibit each.
-- Assumes nothing.
use Rattle.std.proofs.Common.{Option, Some, Result, Ok}
use mathlib.Core.Path.{◌≡◌, refl, sym, ap, ap₂, subst, ◌∙◌}
use mathlib.Core.Bool.{false}
use mathlib.Core.Logic.{◌⊎◌, ⊎_elim}
use mathlib.Core.List.{List, [], ◌∷◌, ◌++◌, append_assoc, append-nil}
use Prim.Native.Nat.{ℕ, zero, suc, ◌+◌, ◌-◌, ◌≤◌, ◌<◌}
use native.Mathlib.Omega.{arith}
use native.Mathlib.Numerals.{add-one}
use lib.ListN.{length, take, drop}
use lib.Seq.{drop-drop}
use Rattle.journal_rules.specs.Gaps.{Framed}
use Rattle.merger_rules.specs.Merging.{release_of}
use Rattle.merger_rules.specs.declared.Released.TheVariants.{NothingReady}
use Rattle.merge_stretches.specs.Statements.{Calm, Stretch}
use Rattle.merge_stretches.specs.Stretches.{settled_by, settled_of, calm}
use Rattle.merge_stretches.proofs.Calming.{calm_rule_lem}
use Rattle.merging_rules.specs.Piles.{Pile, Handed, handed, then, offered_all, all_released}
use Rattle.merging_rules.specs.Turns.{Both, Turned, fed, made_of, turn, walk}
use Rattle.merging_rules.proofs.Handing.{Same, then_same, idle_times}
use Rattle.recorder_rules.specs.Makings.{Trying}
use Rattle.recorder_rules.proofs.Rising.{Dibits}
use Rattle.sync_call_rules.specs.Calls.{shown_as}
use Rattle.sync_rules.specs.Frames.{Frame}
use Rattle.sync_rules.specs.Pushes.{step}
use Rattle.sync_rules.specs.State.{State, Input}
use Rattle.sync_steps.specs.Feeds.{FedOut, one_more, fed_of}
use Rattle.sync_steps.proofs.Feeding.{fed_silent}
use Rattle.bits.specs.declared.Refusal.{Refusal}

-- ---- turns

-- the first n turns are of the dibits at the front
pub walk_front : (n : ℕ) (try : Trying) (xs ys us vs : List Input) (b : Both) → ((j : ℕ) → j < n → take 1 (drop j xs) ≡ take 1 (drop j us)) → ((j : ℕ) → j < n → take 1 (drop j ys) ≡ take 1 (drop j vs))
    → walk n try xs ys b ≡ walk n try us vs b
unfolding walk
walk_front zero try xs ys us vs b p q = refl
walk_front (suc n) try xs ys us vs b p q =
    let before = walk_front n try xs ys us vs b (λ j i. p j (omega arith)) (λ j i. q j (omega arith)) in
    ap₂ (λ (x y : List Input). joined (walk n try xs ys b) (turn try x y (walk n try xs ys b).both)) (p n (omega arith)) (q n (omega arith))
    ∙ ap (λ (w : Turned). joined w (turn try (take 1 (drop n us)) (take 1 (drop n vs)) w.both)) before
  where
    joined : Turned → Turned → Turned
    joined w t = record { both = t.both; out = w.out ++ t.out; deeds = w.deeds ++ t.deeds }

-- n turns behind the first m
pub record Onwards (try : Trying) (xs ys : List Input) (b : Both) (m n : ℕ) : Type 0 where
  pub both : (walk (m + n) try xs ys b).both ≡ (walk n try (drop m xs) (drop m ys) (walk m try xs ys b).both).both
  pub out : (walk (m + n) try xs ys b).out ≡ (walk m try xs ys b).out ++ (walk n try (drop m xs) (drop m ys) (walk m try xs ys b).both).out

pub walk_add : (try : Trying) (xs ys : List Input) (b : Both) (m n : ℕ) → Onwards try xs ys b m n
unfolding walk
walk_add try xs ys b m zero =
    record { both = ap (λ (k : ℕ). (walk k try xs ys b).both) (none m); out = ap (λ (k : ℕ). (walk k try xs ys b).out) (none m) ∙ sym (append-nil (walk m try xs ys b).out) }
  where
    none : (m : ℕ) → m + 0 ≡ m
    none m = omega arith
walk_add try xs ys b m (suc n) =
    let r = walk_add try xs ys b m n in
    let s = (walk m try xs ys b).both in
    let w = walk n try (drop m xs) (drop m ys) s in
    let x : take 1 (drop (m + n) xs) ≡ take 1 (drop n (drop m xs)) = ap (take 1) (sym (drop-drop n m xs)) in
    let y : take 1 (drop (m + n) ys) ≡ take 1 (drop n (drop m ys)) = ap (take 1) (sym (drop-drop n m ys)) in
    let t : turn try (take 1 (drop (m + n) xs)) (take 1 (drop (m + n) ys)) (walk (m + n) try xs ys b).both ≡ turn try (take 1 (drop n (drop m xs))) (take 1 (drop n (drop m ys))) w.both
    = ap₂ (λ (u v : List Input). turn try u v (walk (m + n) try xs ys b).both) x y ∙ ap (turn try (take 1 (drop n (drop m xs))) (take 1 (drop n (drop m ys)))) r.both in
    record {
      both = ap (λ (k : ℕ). (walk k try xs ys b).both) (next m n) ∙ ap (λ (z : Turned). z.both) t;
      out = ap (λ (k : ℕ). (walk k try xs ys b).out) (next m n) ∙ ap₂ (λ (f g : List Framed). f ++ g) r.out (ap (λ (z : Turned). z.out) t)
          ∙ append_assoc (walk m try xs ys b).out w.out (turn try (take 1 (drop n (drop m xs))) (take 1 (drop n (drop m ys))) w.both).out;
    }
  where
    next : (m n : ℕ) → m + suc n ≡ suc (m + n)
    next m n = omega arith

-- ---- nothing comes, and nothing is ready

nobody : (try : Trying) (stream : ℕ) (z : Pile) → Same (offered_all try stream (shown_as []) z) (handed z [] [])
unfolding offered_all shown_as
nobody try stream z = record { pile = refl; out = refl }

none_sent_lem : (try : Trying) (stream : ℕ) (fs : List Frame) (z : Pile) → fs ≡ [] → Same (offered_all try stream (shown_as fs) z) (handed z [] [])
none_sent_lem try stream fs z h = subst (λ (l : List Frame). Same (offered_all try stream (shown_as l) z) (handed z [] [])) (sym h) (nobody try stream z)

pub made_idle : (try : Trying) (o q : FedOut) (p : Pile) → o.sent ≡ [] → q.sent ≡ [] → (release_of (settled_of o) (settled_of q) false p.merger).answer ≡ NothingReady → Same (made_of try o q p) (handed p [] [])
made_idle try o q p e f i =
    let s = then_same (offered_all try 0 (shown_as o.sent) p) (handed p [] []) (offered_all try 1 (shown_as q.sent)) (λ z. handed z [] []) (none_sent_lem try 0 o.sent p e) (λ z. none_sent_lem try 1 q.sent z f) in
    let t = then_same (then (offered_all try 0 (shown_as o.sent) p) (offered_all try 1 (shown_as q.sent))) (handed p [] []) (all_released (settled_of o) (settled_of q) false) (all_released (settled_of o) (settled_of q) false)
    (record { pile = s.pile; out = s.out }) (λ z. record { pile = refl; out = refl }) in
    let r = idle_times (settled_of o) (settled_of q) false 16 p i in
    record { pile = t.pile ∙ r.pile; out = t.out ∙ r.out }

-- ---- one dibit of a calm stretch

record Next (xs : List Input) (i : ℕ) : Type 0 where
  dibit : Input
  good : dibit.dibit < 4
  here : drop i xs ≡ dibit ∷ drop (suc i) xs

next : (xs : List Input) (i : ℕ) → Dibits xs → i < length xs → Next xs i
next [] i d h = absurd (omega arith)
next (x ∷ xs) zero d h = record { dibit = x; good = d.0; here = refl }
next (x ∷ xs) (suc i) d h = let n = next xs i d.1 (omega arith) in record { dibit = n.dibit; good = n.good; here = n.here }

module _ (xs : List Input) (i : ℕ) (n : Next xs i) (m : State) (c : Calm n.dibit m) where
  abbrev after : State
  after = (step n.dibit m).next

  alone : fed (take 1 (drop i xs)) m ≡ one_more (fed [] after)
  alone = ap (λ (l : List Input). fed (take 1 l) m) n.here ∙ fed_silent 1296 n.dibit [] m c.taken c.sent

  further : (k : ℕ) → fed (take (suc k) (drop i xs)) m ≡ one_more (fed (take k (drop (suc i) xs)) after)
  further k = ap (λ (l : List Input). fed (take (suc k) l) m) n.here ∙ fed_silent 1296 n.dibit (take k (drop (suc i) xs)) m c.taken c.sent

  alone_settled : settled_of (fed (take 1 (drop i xs)) m) ≡ Some m.figures.clock
  unfolding one_more fed_of settled_by
  alone_settled = ap settled_of alone ∙ ap Some c.clock

  alone_sent : (fed (take 1 (drop i xs)) m).sent ≡ []
  unfolding one_more fed_of
  alone_sent = ap (λ (o : FedOut). o.sent) alone

  alone_next : (fed (take 1 (drop i xs)) m).next ≡ after
  unfolding one_more fed_of
  alone_next = ap (λ (o : FedOut). o.next) alone

  joined : (k : ℕ) → (fed (take k (drop (i + 1) xs)) after).next ≡ (fed (take (suc k) (drop i xs)) m).next
  unfolding one_more
  joined k = ap (λ (j : ℕ). (fed (take k (drop j xs)) after).next) (add-one i) ∙ sym (ap (λ (o : FedOut). o.next) (further k))

-- ---- what is fed at once

record Whole (o : FedOut) (m : State) : Type 0 where
  answer : o.answer ≡ Ok tt
  sent : o.sent ≡ []
  clock : o.next.figures.clock ≡ m.figures.clock

whole : (xs : List Input) → Dibits xs → (n i : ℕ) (m : State) → i + n ≤ length xs → n ≤ calm m → Whole (fed (take n (drop i xs)) m) m
unfolding fed_of
whole xs d zero i m h p = record { answer = refl; sent = refl; clock = refl }
whole xs d (suc n) i m h p =
    let x = next xs i d (omega arith) in
    let c = calm_rule_lem m x.dibit x.good (omega arith) in
    let r = whole xs d n (suc i) (after xs i x m c) (omega arith) (omega (arith, c.rest)) in
    subst (λ (o : FedOut). Whole o m) (sym (further xs i x m c n)) (one_before (fed (take n (drop (suc i) xs)) (after xs i x m c)) r c.clock)
  where
    one_before : {a : State} (o : FedOut) → Whole o a → a.figures.clock ≡ m.figures.clock → Whole (one_more o) m
    one_before o r e = record { answer = r.answer; sent = r.sent; clock = r.clock ∙ e }

whole_settled : (xs : List Input) → Dibits xs → (n i : ℕ) (m : State) → 1 ≤ n → i + n ≤ length xs → n ≤ calm m → settled_of (fed (take n (drop i xs)) m) ≡ Some m.figures.clock
unfolding one_more settled_by
whole_settled xs d zero i m l h p = absurd (omega arith)
whole_settled xs d (suc n) i m l h p =
    let x = next xs i d (omega arith) in
    let c = calm_rule_lem m x.dibit x.good (omega arith) in
    let r = whole xs d n (suc i) (after xs i x m c) (omega arith) (omega (arith, c.rest)) in
    ap settled_of (further xs i x m c n) ∙ settled_more (fed (take n (drop (suc i) xs)) (after xs i x m c)) r.answer ∙ ap Some (r.clock ∙ c.clock)
  where
    settled_more : (o : FedOut) → o.answer ≡ Ok tt → settled_of (one_more o) ≡ Some o.next.figures.clock
    settled_more o e = ap (λ (a : Result Unit Refusal). settled_by (suc o.used) a o.next.figures.clock) e

-- ---- a stretch

abbrev pub IdleBoth : Both → Type 0
IdleBoth a = (release_of (Some a.first.figures.clock) (Some a.second.figures.clock) false a.pile.merger).answer ≡ NothingReady

same_clocks : (p : Pile) {k k' l l' : ℕ} → k ≡ k' → l ≡ l' → (release_of (Some k) (Some l) false p.merger).answer ≡ NothingReady → (release_of (Some k') (Some l') false p.merger).answer ≡ NothingReady
same_clocks p {k} {k'} {l} {l'} e f o =
    subst (λ (z : ℕ). (release_of (Some k') (Some z) false p.merger).answer ≡ NothingReady) f (subst (λ (z : ℕ). (release_of (Some z) (Some l) false p.merger).answer ≡ NothingReady) e o)

same_settled : (p : Pile) {a b : Option ℕ} {k l : ℕ} → a ≡ Some k → b ≡ Some l → (release_of (Some k) (Some l) false p.merger).answer ≡ NothingReady → (release_of a b false p.merger).answer ≡ NothingReady
same_settled p {a} {b} {k} {l} e f o =
    subst (λ (z : Option ℕ). (release_of a z false p.merger).answer ≡ NothingReady) (sym f) (subst (λ (z : Option ℕ). (release_of z (Some l) false p.merger).answer ≡ NothingReady) (sym e) o)

module _ (try : Trying) (xs ys : List Input) where
  fed_both : ℕ → ℕ → Both → Both
  fed_both n i a = record { first = (fed (take n (drop i xs)) a.first).next; second = (fed (take n (drop i ys)) a.second).next; pile = a.pile }

  record CalmTurn (i : ℕ) (a b : Both) : Type 0 where
    both : (turn try (take 1 (drop i xs)) (take 1 (drop i ys)) a).both ≡ b
    out : (turn try (take 1 (drop i xs)) (take 1 (drop i ys)) a).out ≡ []

  calm_turn : (i : ℕ) (a : Both) → IdleBoth a → (x : Next xs i) (y : Next ys i) (c : Calm x.dibit a.first) (f : Calm y.dibit a.second)
      → CalmTurn i a (record { first = after xs i x a.first c; second = after ys i y a.second f; pile = a.pile })
  unfolding turn
  calm_turn i a o x y c f =
      let s = made_idle try (fed (take 1 (drop i xs)) a.first) (fed (take 1 (drop i ys)) a.second) a.pile (alone_sent xs i x a.first c) (alone_sent ys i y a.second f)
      (same_settled a.pile (alone_settled xs i x a.first c) (alone_settled ys i y a.second f) o) in
      record {
        both = ap₂ (λ (u v : State). record { first = u; second = v; pile = (made_of try (fed (take 1 (drop i xs)) a.first) (fed (take 1 (drop i ys)) a.second) a.pile).pile }) (alone_next xs i x a.first c) (alone_next ys i y a.second f)
            ∙ ap (λ (p : Pile). record { first = after xs i x a.first c; second = after ys i y a.second f; pile = p }) s.pile;
        out = s.out;
      }

  module _ (b : Both) where
    pub record WalkedTo (n : ℕ) (a : Both) (fs : List Framed) : Type 0 where
      pub both : (walk n try xs ys b).both ≡ a
      pub out : (walk n try xs ys b).out ≡ fs

    -- one turn more
    walk_one : (i : ℕ) (a : Both) (fs : List Framed) → WalkedTo i a fs
        → WalkedTo (i + 1) (turn try (take 1 (drop i xs)) (take 1 (drop i ys)) a).both (fs ++ (turn try (take 1 (drop i xs)) (take 1 (drop i ys)) a).out)
    unfolding walk
    walk_one i a fs w =
        record {
          both = ap (λ (k : ℕ). (walk k try xs ys b).both) (add-one i) ∙ ap (λ (z : Both). (turn try (take 1 (drop i xs)) (take 1 (drop i ys)) z).both) w.both;
          out = ap (λ (k : ℕ). (walk k try xs ys b).out) (add-one i) ∙ ap₂ (λ (l : List Framed) (z : Both). l ++ (turn try (take 1 (drop i xs)) (take 1 (drop i ys)) z).out) w.out w.both;
        }

    module _ (d : Dibits xs) (e : Dibits ys) where
      walk_calm : (n i : ℕ) (a : Both) (fs : List Framed) → WalkedTo i a fs → IdleBoth a → i + n ≤ length xs → i + n ≤ length ys → n ≤ calm a.first → n ≤ calm a.second → WalkedTo (i + n) (fed_both n i a) fs
      unfolding fed_of fed_both
      walk_calm zero i a fs w o h k p q = subst (λ (j : ℕ). WalkedTo j (fed_both 0 i a) fs) (none i) w
        where
          none : (i : ℕ) → i ≡ i + 0
          none i = omega arith
      walk_calm (suc n) i a fs w o h k p q =
          let x = next xs i d (omega arith) in
          let y = next ys i e (omega arith) in
          let c = calm_rule_lem a.first x.dibit x.good (omega arith) in
          let f = calm_rule_lem a.second y.dibit y.good (omega arith) in
          let z : Both = record { first = after xs i x a.first c; second = after ys i y a.second f; pile = a.pile } in
          let t = calm_turn i a o x y c f in
          let u = walk_one i a fs w in
          let v : WalkedTo (i + 1) z fs = record { both = u.both ∙ t.both; out = u.out ∙ ap (λ (l : List Framed). fs ++ l) t.out ∙ append-nil fs } in
          let r : WalkedTo (i + 1 + n) (fed_both n (i + 1) z) fs
          = walk_calm n (i + 1) z fs v (same_clocks a.pile (sym c.clock) (sym f.clock) o) (omega arith) (omega arith) (omega (arith, c.rest)) (omega (arith, f.rest)) in
          subst (λ (j : ℕ). WalkedTo j (fed_both (suc n) i a) fs) (shift i n) (subst (λ (s : Both). WalkedTo (i + 1 + n) s fs) (ap₂ (λ (g l : State). record { first = g; second = l; pile = a.pile }) (joined xs i x a.first c n) (joined ys i y a.second f n)) r)
        where
          shift : (i n : ℕ) → i + 1 + n ≡ i + suc n
          shift i n = omega arith

      -- what is fed at once, and what is made of it
      abbrev made_at : ℕ → ℕ → Both → Handed
      made_at n i a = made_of try (fed (take n (drop i xs)) a.first) (fed (take n (drop i ys)) a.second) a.pile

      pub record Rounded (n i : ℕ) (a : Both) (fs : List Framed) : Type 0 where
        pub there : WalkedTo (i + n) (record { first = (fed (take n (drop i xs)) a.first).next; second = (fed (take n (drop i ys)) a.second).next; pile = (made_at n i a).pile }) (fs ++ (made_at n i a).out)
        -- nothing was handed on before the last of the turns
        pub before : (j : ℕ) → i ≤ j → j < i + n → (walk j try xs ys b).out ≡ fs

      by_one : (i : ℕ) (a : Both) (fs : List Framed) → WalkedTo i a fs → Rounded 1 i a fs
      unfolding turn
      by_one i a fs w = record { there = walk_one i a fs w; before = λ j h k. ap (λ (z : ℕ). (walk z try xs ys b).out) (only j h k) ∙ w.out }
        where
          only : (j : ℕ) → i ≤ j → j < i + 1 → j ≡ i
          only j h k = omega arith

      by_stretch : (n i : ℕ) (a : Both) (fs : List Framed) → WalkedTo i a fs → IdleBoth a → 1 ≤ n → i + n ≤ length xs → i + n ≤ length ys → n ≤ calm a.first → n ≤ calm a.second → Rounded n i a fs
      unfolding fed_both
      by_stretch n i a fs w o l h k p q =
          let s = made_idle try (fed (take n (drop i xs)) a.first) (fed (take n (drop i ys)) a.second) a.pile (whole xs d n i a.first h p).sent (whole ys e n i a.second k q).sent
          (same_settled a.pile (whole_settled xs d n i a.first l h p) (whole_settled ys e n i a.second l k q) o) in
          let r = walk_calm n i a fs w o h k p q in
          record {
            there = record {
              both = r.both ∙ sym (ap (λ (z : Pile). record { first = (fed (take n (drop i xs)) a.first).next; second = (fed (take n (drop i ys)) a.second).next; pile = z }) s.pile);
              out = r.out ∙ sym (ap (λ (z : List Framed). fs ++ z) s.out ∙ append-nil fs);
            };
            before = λ j f g. ap (λ (z : ℕ). (walk z try xs ys b).out) (back j f) ∙ (walk_calm (j - i) i a fs w o (fits j (length xs) f g h) (fits j (length ys) f g k) (few j (calm a.first) f g p) (few j (calm a.second) f g q)).out;
          }
        where
          back : (j : ℕ) → i ≤ j → j ≡ i + (j - i)
          back j f = omega arith

          fits : (j m : ℕ) → i ≤ j → j < i + n → i + n ≤ m → i + (j - i) ≤ m
          fits j m f g h = omega arith

          few : (j m : ℕ) → i ≤ j → j < i + n → n ≤ m → j - i ≤ m
          few j m f g h = omega arith

      -- one dibit of each, or calm for both and there in both
      pub walk_on : (n i : ℕ) (a : Both) (fs : List Framed) → WalkedTo i a fs → IdleBoth a → Stretch a.first a.second (length xs - i) (length ys - i) n → Rounded n i a fs
      walk_on n i a fs w o r =
          ⊎_elim (λ h. subst (λ (k : ℕ). Rounded k i a fs) (sym h) (by_one i a fs w))
          (λ c. by_stretch n i a fs w o r.some (within (length xs) r.some c.2) (within (length ys) r.some c.3) c.0 c.1)
          r.calm
        where
          within : (l : ℕ) → 1 ≤ n → n ≤ l - i → i + n ≤ l
          within l h k = omega arith
