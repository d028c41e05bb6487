-- No push both takes and loses a lock: the first frame of a new lock shows two markers, at most two follow in the push, and a lock ends with the third failure.
-- Of every state, reached or not.
-- Assumes nothing.
use mathlib.Core.Path.{◌≡◌, refl, sym, ap, ap₂, ◌∙◌, subst}
use mathlib.Core.Logic.{◌⊎◌, inl, inr}
use mathlib.Core.List.{List, []}
use mathlib.Core.Bool.{Bool, true, false, true≢false, cond, ◌&&◌, ◌||◌}
use Prim.Native.Nat.{ℕ, zero, suc, ◌+◌, ◌-◌, ◌≤◌, ◌<◌, min}
use native.Mathlib.Omega.{arith}
use borrow.Author.Tests.{eqb-true, ltb-true, lt-ltb, le-leb}
use lib.Dec.{eqb, leb}
use lib.ListN.{length, take, drop, length-drop}
use lib.Seq.{drop-drop}
use Rattle.sync_rules.specs.Matching.{sixteen, two_of, matches, shows, in_place, locks_at, first_of}
use Rattle.sync_rules.specs.Moves.{Move, Stay, Later, Earlier, moved, move_by, move_to}
use Rattle.sync_rules.specs.State.{State, Input, pending, pass, restore, counted, bring}
use Rattle.sync_rules.specs.Frames.{Sent, ready, front_move, follow, second_shift, second_at, third_shift, third_at, frame_at, leave, send_at, send_shifted, send}
use Rattle.sync_rules.specs.Pushes.{Out, tries, search_at, search, drain, step}
use Rattle.sync_rules.specs.Demand.{Loses}
use Rattle.bits.proofs.Ands.{both_true}
use Rattle.bits.proofs.Conds.{cond_cases}
use Rattle.bits.proofs.Tests.{cond_yes}
use Rattle.sync_rules.proofs.Tests.{two_like}
use Rattle.sync_rules.proofs.Order.{move_cases}
use Rattle.sync_rules.proofs.Windows.{matches_like}
use Rattle.sync_rules.proofs.Demands.{drain_one}
use Rattle.sync_rules.proofs.Rides.{search_at_lem, no_lock}

-- ---- what bits show behind the first j
matches_behind : (xs : List ℕ) (j p k i : ℕ) → i ≡ j + p → matches (drop j xs) p k ≡ matches xs i k
unfolding sixteen
matches_behind xs j p k i e = matches_like (drop j xs) p xs i k (ap (take 16) (drop-drop p j xs) ∙ ap (λ (n : ℕ). take 16 (drop n xs)) (sym e))

shows_behind : (xs : List ℕ) (j p i : ℕ) → i ≡ j + p → shows (drop j xs) p ≡ shows xs i
unfolding shows
shows_behind xs j p i e =
    two_like _ _ _ _ _ _ (matches_behind xs j p 0 i e) (matches_behind xs j (p + 128) 1 (i + 128) (omega arith)) (matches_behind xs j (p + 256) 2 (i + 256) (omega arith))

-- k bits passed
pass_pending : (k : ℕ) (m : State) → pending (pass k m) ≡ drop k (pending m)
unfolding pass
pass_pending k m =
    let e : m.restorable + k - 2 + min 2 (m.restorable + k) ≡ m.restorable + k = omega arith in
    drop-drop (min 2 (m.restorable + k)) (m.restorable + k - 2) m.held ∙ ap (λ (n : ℕ). drop n m.held) e ∙ sym (drop-drop k m.restorable m.held)

-- ---- a search that ends in a lock: its three frames are the first ones pending
first_found : (f : ℕ → Bool) (p n : ℕ) → first_of f p n < p + n → f (first_of f p n) ≡ true
unfolding first_of
first_found f p zero = λ h. absurd (omega arith)
first_found f p (suc n) = cond_cases (λ (r : ℕ). r < p + suc n → f r ≡ true) (f p) p (first_of f (suc p) n) (λ t h. t) (λ w h. first_found f (suc p) n (omega arith))

pub record Found (m : State) : Type 0 where
  pub shown : shows (pending m) 0 ≡ true
  pub many : 1152 ≤ length (pending m)
  pub locked : m.figures.locked ≡ true
  pub failures : m.figures.failures ≡ 0

module _ (m : State) where
  found_at : (p : ℕ) → (p < tries m → locks_at (pending m) p ≡ true) → (search_at m p).figures.locked ≡ true → Found (search_at m p)
  unfolding search_at tries locks_at pass
  found_at p there t =
      let h = ltb-true p (tries m) t in
      let e : pending (pass p m) ≡ drop p (pending m) = pass_pending p m in
      record {
        shown = ap (λ (l : List ℕ). shows l 0) e ∙ shows_behind (pending m) p 0 p (omega arith) ∙ (both_true (shows (pending m) p) _ (there h)).0;
        many = omega (arith, ap length e, length-drop p (pending m));
        locked = t;
        failures = ap (λ (b : Bool). cond b 0 m.figures.failures) t;
      }

  pub found : m.figures.locked ≡ false → (search m).figures.locked ≡ true → Found (search m)
  found shut =
      let p = first_of (locks_at (pending m)) 0 (tries m) in
      subst (λ (n : State). n.figures.locked ≡ true → Found n) (sym (search_at_lem m p shut refl))
      (found_at p (λ h. first_found (locks_at (pending m)) 0 (tries m) (omega arith)))

-- ---- the first frame of a lock shows two markers

-- a segment's marker is found, or is in none of the three places
module _ (xs : List ℕ) (p k : ℕ) where
  abbrev To : Move → Type 0
  To v = (matches xs (moved v p) k ≡ true) ⊎ ((v ≡ Stay) × (matches xs p k ≡ false) × (matches xs (p + 2) k ≡ false) × (matches xs (p - 2) k ≡ false))

  moves_to : To (move_to xs p k)
  unfolding move_to moved
  moves_to = move_cases To (matches xs p k) (matches xs (p + 2) k) (matches xs (p - 2) k) (λ t. inl t) (λ f t. inl t) (λ f g t. inl t) (λ f g h. inr (refl, f, g, h))

  stays : matches xs p k ≡ true → move_to xs p k ≡ Stay
  unfolding move_to move_by
  stays t = sym (cond_yes (matches xs p k) (matches xs p k) Stay _ refl t)

  hits : {b : Bool} → b ≡ true → ((matches xs p k ≡ false) × (matches xs (p + 2) k ≡ false) × (matches xs (p - 2) k ≡ false) → b ≡ false) → matches xs (moved (move_to xs p k) p) k ≡ true
  hits t miss = go moves_to
    where
      go : To (move_to xs p k) → matches xs (moved (move_to xs p k) p) k ≡ true
      go (inl e) = e
      go (inr w) = absurd (true≢false (sym t ∙ miss (w.1, w.2, w.3)))

-- two of three stay two where the second and the third are looked for again
two_again : (a b c b' c' : Bool) → two_of a b c ≡ true → (b ≡ true → b' ≡ true) → (b ≡ true → c ≡ true → c' ≡ true) → (b ≡ false → c ≡ true → (b' ≡ true) ⊎ (c' ≡ true)) → two_of a b' c' ≡ true
unfolding two_of
two_again true true c b' c' e f g h = ap (λ (x : Bool). two_of true x c') (f refl)
two_again true false true b' c' e f g h = either (h refl refl)
  where
    last : (x : Bool) → two_of true x true ≡ true
    last true = refl
    last false = refl

    either : (b' ≡ true) ⊎ (c' ≡ true) → two_of true b' c' ≡ true
    either (inl t) = ap (λ (x : Bool). two_of true x c') t
    either (inr t) = ap (two_of true b') t ∙ last b'
two_again true false false b' c' e f g h = absurd (true≢false (sym e))
two_again false true true b' c' e f g h = ap₂ (two_of false) (f refl) (g refl refl)
two_again false true false b' c' e f g h = absurd (true≢false (sym e))
two_again false false c b' c' e f g h = absurd (true≢false (sym e))

-- of two that are not the first the second is one
two_behind : (a b c : Bool) → two_of a b c ≡ true → a ≡ false → b ≡ true
unfolding two_of
two_behind true b c e w = absurd (true≢false w)
two_behind false true c e w = refl
two_behind false false c e w = absurd (true≢false (sym e))

module _ (m : State) where
  abbrev second : Bool
  second = matches (pending m) (second_at m) 1

  abbrev third : Bool
  third = matches (pending m) (third_at m) 2

  says : (o : Move) → (send_shifted o m).frame.matched ≡ two_of (matches (pending m) 0 0) second third
  unfolding send_shifted send_at frame_at counted
  says o = refl

  third_found : second_shift m ≡ Stay → matches (pending m) 256 2 ≡ true → third ≡ true
  unfolding third_shift moved
  third_found e t =
      subst (λ (v : Move). matches (pending m) (moved (move_to (pending m) (moved v 128 + 128) 2) (moved v 128 + 128)) 2 ≡ true) (sym e) (hits (pending m) 256 2 t (λ w. w.0))

  -- its front in place
  stay_shows : (o : Move) → shows (pending m) 0 ≡ true → (send_shifted o m).frame.matched ≡ true
  unfolding shows second_shift
  stay_shows o e =
      says o
      ∙ two_again (matches (pending m) 0 0) (matches (pending m) 128 1) (matches (pending m) 256 2) second third e
      (λ t. hits (pending m) 128 1 t (λ w. w.0))
      (λ t. third_found (stays (pending m) 128 1 t))
      (λ f t. go (moves_to (pending m) 128 1) t)
    where
      go : To (pending m) 128 1 (second_shift m) → matches (pending m) 256 2 ≡ true → (second ≡ true) ⊎ (third ≡ true)
      go (inl t) u = inl t
      go (inr w) u = inr (third_found w.0 u)

  -- its front and its second segment found
  both_show : (o : Move) → matches (pending m) 0 0 ≡ true → second ≡ true → (send_shifted o m).frame.matched ≡ true
  unfolding two_of
  both_show o t u = says o ∙ ap₂ (λ (a b : Bool). two_of a b third) t u

module _ (m : State) (shown : shows (pending m) 0 ≡ true) where
  behind : matches (pending m) 0 0 ≡ false → matches (pending m) 128 1 ≡ true
  unfolding shows
  behind w = two_behind (matches (pending m) 0 0) (matches (pending m) 128 1) (matches (pending m) 256 2) shown w

  later_shows : matches (pending m) 0 0 ≡ false → matches (pending m) 2 0 ≡ true → (send_shifted Later (counted Later (pass 2 m))).frame.matched ≡ true
  unfolding counted second_shift
  later_shows w t =
      let e : pending (pass 2 m) ≡ drop 2 (pending m) = pass_pending 2 m in
      let u : matches (pending (pass 2 m)) 0 0 ≡ true = ap (λ (l : List ℕ). matches l 0 0) e ∙ matches_behind (pending m) 2 0 0 2 refl ∙ t in
      let v : matches (pending (pass 2 m)) 126 1 ≡ true = ap (λ (l : List ℕ). matches l 126 1) e ∙ matches_behind (pending m) 2 126 1 128 refl ∙ behind w in
      both_show (counted Later (pass 2 m)) Later u (hits (pending (pass 2 m)) 128 1 v (λ n. n.2))

  earlier_shows : matches (pending m) 0 0 ≡ false → m.restorable ≡ 2 → matches m.held 0 0 ≡ true → (send_shifted Earlier (counted Earlier (restore m))).frame.matched ≡ true
  unfolding counted restore second_shift
  earlier_shows w two t =
      let v : matches m.held 130 1 ≡ true = sym (matches_behind m.held m.restorable 128 1 130 (omega arith)) ∙ behind w in
      both_show (counted Earlier (restore m)) Earlier t (hits m.held 128 1 v (λ n. n.1))

  front_shows : (send_shifted (front_move m) (follow (front_move m) m)).frame.matched ≡ true
  unfolding front_move follow
  front_shows =
      move_cases (λ (v : Move). (send_shifted v (follow v m)).frame.matched ≡ true) (matches (pending m) 0 0) (matches (pending m) 2 0) (eqb m.restorable 2 && matches m.held 0 0)
      (λ t. stay_shows m Stay shown) later_shows
      (λ w v t. let b = both_true (eqb m.restorable 2) (matches m.held 0 0) t in earlier_shows w (eqb-true m.restorable 2 b.0) b.1)
      (λ w v u. stay_shows m Stay shown)

  in_place_shows : (send_at Stay m 128 256).frame.matched ≡ true
  unfolding send_at frame_at shows
  in_place_shows = shown

  pub first_shows : (send m).frame.matched ≡ true
  unfolding send
  first_shows = cond_cases (λ (s : Sent). s.frame.matched ≡ true) (in_place (pending m) 0) _ _ (λ t. in_place_shows) (λ w. front_shows)

-- ---- a frame with two markers leaves a lock and no failure; any other one failure more, and a lock unless that is the third
record Leaves (m : State) (s : Sent) : Type 0 where
  good : s.frame.matched ≡ true → (s.next.figures.failures ≡ 0) × (s.next.figures.locked ≡ true)
  one : s.next.figures.failures ≤ m.figures.failures + 1
  locked : m.figures.failures ≤ 1 → s.next.figures.locked ≡ true

at_leaves : (v : Move) (m n : State) (p q : ℕ) → n.figures.failures ≡ m.figures.failures → Leaves m (send_at v n p q)
unfolding send_at leave
at_leaves v m n p q e =
    record {
      good = λ t. (ap (λ (b : Bool). cond b 0 (n.figures.failures + 1)) t, sym (cond_yes (frame_at v n p q).matched (frame_at v n p q).matched true _ refl t));
      one = cond_cases (λ (k : ℕ). k ≤ m.figures.failures + 1) (frame_at v n p q).matched 0 (n.figures.failures + 1) (λ t. omega arith) (λ w. omega arith);
      locked = λ h. cond_cases (λ (b : Bool). b ≡ true) (frame_at v n p q).matched true _ (λ t. refl) (λ w. lt-ltb (n.figures.failures + 1) _ (omega arith));
    }

front_failures : (v : Move) (m : State) → (follow v m).figures.failures ≡ m.figures.failures
unfolding follow counted pass restore
front_failures Stay m = refl
front_failures Later m = refl
front_failures Earlier m = refl

leaves : (m : State) → Leaves m (send m)
unfolding send send_shifted counted
leaves m =
    cond_cases (Leaves m) (in_place (pending m) 0) _ _ (λ t. at_leaves Stay m m 128 256 refl)
    (λ w. let n = follow (front_move m) m in at_leaves (front_move m) m (counted (third_shift n) (counted (second_shift n) n)) (second_at n) (third_at n) (front_failures (front_move m) m))

-- ---- pushes
keeps : (n : ℕ) (m : State) → m.figures.locked ≡ true → m.figures.failures + n ≤ 2 → (drain n m).next.figures.locked ≡ true
unfolding drain
keeps zero m t h = t
keeps (suc n) m t h =
    let l = leaves m in
    cond_cases (λ (o : Out). o.next.figures.locked ≡ true) (ready m) _ _ (λ r. keeps n (send m).next (l.locked (omega arith)) (omega (arith, l.one))) (λ w. t)

first_keeps : (m : State) → Found m → (drain 3 m).next.figures.locked ≡ true
unfolding drain
first_keeps m f =
    let g = (leaves m).good (first_shows m f.shown) in
    cond_cases (λ (o : Out). o.next.figures.locked ≡ true) (ready m) _ _ (λ r. keeps 2 (send m).next g.1 (omega (arith, g.0))) (λ w. f.locked)

brought_locked : (x : Input) (m : State) → (bring x m).figures.locked ≡ m.figures.locked
unfolding bring
brought_locked x m = refl

-- a push that takes a lock hands it back
pub taken_kept : (x : Input) (m : State) → m.figures.locked ≡ false → (search (bring x m)).figures.locked ≡ true → (step x m).next.figures.locked ≡ true
unfolding step
taken_kept x m w t = first_keeps (search (bring x m)) (found (bring x m) (brought_locked x m ∙ w) t)

-- one that ends a lock found it there
pub found_it : (x : Input) (m : State) → Loses x m → m.figures.locked ≡ true
unfolding Loses
found_it x m lost = go m.figures.locked refl
  where
    go : (b : Bool) → m.figures.locked ≡ b → m.figures.locked ≡ true
    go true t = t
    go false w = absurd (true≢false (sym (taken_kept x m w lost.0) ∙ lost.1))

-- one that takes a lock sends a frame: with none there is no lock
found_ready : (m : State) → Found m → ready m ≡ true
unfolding ready
found_ready m f = all m.figures.locked (leb _ (length (pending m))) (in_place (pending m) 0) (leb _ (length (pending m))) f.locked (le-leb _ (length (pending m)) (omega (arith, f.many))) (le-leb _ (length (pending m)) (omega (arith, f.many)))
  where
    all : (a b c d : Bool) → a ≡ true → b ≡ true → d ≡ true → (a && (b && (c || d))) ≡ true
    all a b true d p q r = ap₂ (λ (i j : Bool). i && (j && true)) p q
    all a b false d p q r = ap₂ (λ (i j : Bool). i && (j && d)) p q ∙ r

pub quiet_shut : (x : Input) (m : State) → m.figures.locked ≡ false → (step x m).sent ≡ [] → (step x m).next.figures.locked ≡ false
unfolding step
quiet_shut x m w none = go (search (bring x m)).figures.locked refl
  where
    go : (b : Bool) → (search (bring x m)).figures.locked ≡ b → (drain 3 (search (bring x m))).next.figures.locked ≡ false
    go true t =
        let f = found (bring x m) (brought_locked x m ∙ w) t in
        absurd (omega (arith, ap length (sym (ap (λ (o : Out). o.sent) (drain_one 2 (search (bring x m)) (found_ready (search (bring x m)) f))) ∙ none)))
    go false v = ap (λ (o : Out). o.next.figures.locked) (no_lock 3 (search (bring x m)) v) ∙ v

-- by what goes out: frames and no lock, or a lock and no frame, and there was a lock before
pub sends_found : (x : Input) (m : State) → 0 < length (step x m).sent → (step x m).next.figures.locked ≡ false → m.figures.locked ≡ true
unfolding step Loses
sends_found x m some w = go (search (bring x m)).figures.locked refl
  where
    go : (b : Bool) → (search (bring x m)).figures.locked ≡ b → m.figures.locked ≡ true
    go true t = found_it x m (t, w)
    go false v = absurd (omega (arith, ap (λ (o : Out). length o.sent) (no_lock 3 (search (bring x m)) v)))

pub quiet_found : (x : Input) (m : State) → (step x m).sent ≡ [] → (step x m).next.figures.locked ≡ true → m.figures.locked ≡ true
quiet_found x m none t = go m.figures.locked refl
  where
    go : (b : Bool) → m.figures.locked ≡ b → m.figures.locked ≡ true
    go true u = u
    go false w = absurd (true≢false (sym t ∙ quiet_shut x m w none))
