-- Demand 3 over the calls: a history of calls follows the rules, and so the demand over the rules is one over the calls.
-- Assumes nothing.
use Rattle.std.proofs.Common.{Result, Ok, Err}
use mathlib.Core.Path.{◌≡◌, refl, sym, ap, ap₂, ◌∙◌, subst}
use mathlib.Core.Logic.{inl, inr}
use mathlib.Core.List.{List, [], ◌∷◌, ◌++◌, append_assoc, append-nil, map}
use mathlib.Core.Bool.{Bool, true, false, cond}
use Prim.Native.Nat.{ℕ, zero, suc, ◌+◌, ◌-◌, ◌*◌, ◌≤◌, ◌<◌, ◌^◌}
use native.Mathlib.Omega.{arith}
use borrow.Author.Tests.{ltb-false, eqb-true, eqb-false}
use lib.Dec.{eqb, leb, ltb}
use lib.ListN.{length, get_or, take, drop}
use Rattle.sync.specs.declared.Synchroniser.{Synchroniser}
use Rattle.sync.specs.declared.Pushed.{Pushed}
use Rattle.sync_rules.specs.declared.Head.{Head}
use Rattle.sync.specs.declared.Fed.{Fed}
use Rattle.sync.specs.View.{ValidSynchroniser, view}
use Rattle.sync_frames.specs.Frames.{head_of, heads_of}
use Rattle.sync.specs.Answers.{PushedBy}
use Rattle.sync_inputs.specs.Answers.{answer_to, push_of, takes}
use Rattle.bits.specs.declared.Refusal.TheVariants.{Dibit, FrameRoom, StreamEnd}
use Rattle.sync_rules.specs.Matching.{errors, locks_at, in_place}
use Rattle.sync_rules.specs.Moves.{no_moves}
use Rattle.sync_rules.specs.State.{State, Input, start, hard, pending, bring}
use Rattle.sync_rules.specs.Frames.{Frame}
use Rattle.sync_rules.specs.Pushes.{Out, search, drain, step, run}
use Rattle.sync_rules.specs.Room.{bytes_of, laid}
use Rattle.sync_rules.specs.Demand.{stream, FirstLock, Begins, Loses, place_of, sent_by, last_offset, first_offset, Figures, figures, in_a_row, Demand3}
use Rattle.sync_call_rules.specs.Calls.{Call, pushing, feeding, answer_of, left_by, Meets, made, made_by, History, state_of, accepted, Got, slots, handed, shown_as, place_in, BeginsAt, last_got, first_got, got_in_a_row}
use Rattle.sync_call_rules.specs.Statements.{Follows, calls_follow, demand_calls}
use Rattle.sync_numbers.proofs.Pendings.{pending_is}
use Rattle.sync_rules.proofs.Hunts.{run_next, run_sent}
use Rattle.sync_rules.proofs.Rides.{no_lock}
use Rattle.sync_rules.proofs.Demands.{demand_three}
use Rattle.sync_call_rules.specs.Feeds.{FeedRule}
use Rattle.sync.specs.Feeds.{FedBy}
use Rattle.sync_steps.specs.Feeds.{FedOut, one_more, unless_sent, unless_refused, fed_of}
use Rattle.sync_call_rules.proofs.Feeding.{feed_rules_lem}
use Rattle.sync_call_rules.proofs.Shown.{shown_append}
use Rattle.sync_call_rules.proofs.Slots.{none_fit, Fit, drain_fit, drain_most, read_slots}
use Rattle.bits.specs.declared.Refusal.{Refusal}

-- ---- made_by call
abbrev pub out : Call → List Got
out c = slots (take (answer_of c).count (answer_of c).heads) (left_by c) 0

-- what the call does is what the pushes do that it made
pub record Does (s : Synchroniser) (c : Call) : Type 0 where
  pub valid : ValidSynchroniser (answer_of c).next
  pub next : view (answer_of c).next ≡ (run (made_by c) (view s)).next
  pub sent : out c ≡ shown_as (run (made_by c) (view s)).sent

step_fit : (x : Input) (m : State) → Fit (step x m).sent
unfolding step
step_fit x m = drain_fit 3 (search (bring x m))

step_most : (x : Input) (m : State) → length (step x m).sent ≤ 3
unfolding step
step_most x m = drain_most 3 (search (bring x m))

run_none : (m : State) → (run [] m).sent ≡ []
unfolding run
run_none m = refl

run_one : (x : Input) (m : State) → ((run (x ∷ []) m).next ≡ (step x m).next) × ((run (x ∷ []) m).sent ≡ (step x m).sent)
unfolding run
run_one x m = (refl, append-nil (step x m).sent)

-- the heads of the frames, without the zeros behind them
heads_taken : (n : ℕ) (fs : List Frame) → length fs ≤ n → take (length fs) (heads_of n fs) ≡ map head_of fs
unfolding heads_of
heads_taken n [] h = refl
heads_taken zero (f ∷ fs) h = absurd (omega arith)
heads_taken (suc n) (f ∷ fs) h = ap (λ (l : List Head). head_of f ∷ l) (heads_taken n fs (omega arith))

pub heads_are : (count : ℕ) (heads : List Head) (fs : List Frame) → length fs ≤ 3 → count ≡ length fs → heads ≡ heads_of 3 fs → take count heads ≡ map head_of fs
heads_are count heads fs h e g = ap₂ (λ (n : ℕ) (l : List Head). take n l) e g ∙ heads_taken 3 fs h

-- frames that fit the room are read in it as they are
frames_read : (fs : List Frame) (room left : List ℕ) (hs : List Head) → Fit fs → length fs ≤ 3 → 1296 ≤ length room → hs ≡ map head_of fs → left ≡ laid room 0 fs → slots hs left 0 ≡ shown_as fs
frames_read fs room left hs w n h eh el =
    let f : 432 * (0 + length fs) ≤ length room = omega arith in
    ap₂ (λ (hs : List Head) (l : List ℕ). slots hs l 0) eh el ∙ read_slots fs room 0 w f

zero_not : (n : ℕ) → 0 < n → n ≡ 0 → ⊥
zero_not n h e = omega arith

above : (n : ℕ) → (n ≡ 0 → ⊥) → 0 < n
above zero h = absurd (h refl)
above (suc n) h = omega arith

-- the frames of a feed: none, or those of one push, and then the room is large enough
pub record Fits (room : ℕ) (fs : List Frame) : Type 0 where
  pub fit : Fit fs
  pub most : length fs ≤ 3
  pub large : 0 < length fs → 1296 ≤ room

no_frames : (room : ℕ) → Fits room []
no_frames room = record { fit = none_fit; most = omega arith; large = λ h. absurd (zero_not 0 h refl) }

step_fits : (room : ℕ) (x : Input) (m : State) → 1296 ≤ room → Fits room (step x m).sent
step_fits room x m h = record { fit = step_fit x m; most = step_most x m; large = λ w. h }

taken_fits : (room : ℕ) (x : Input) (m : State) → answer_to room x m ≡ Ok tt → 1296 ≤ room
unfolding answer_to takes
taken_fits room x m e = go (ltb 3 x.dibit) (ltb room 1296) refl e
  where
    go : (a b : Bool) → ltb room 1296 ≡ b → cond a (Err Dibit) (cond b (Err FrameRoom) (cond (leb (2 ^ 40) m.figures.taken) (Err StreamEnd) (Ok (tt {0})))) ≡ Ok (tt {0}) → 1296 ≤ room
    go true b eb w = absurd (omega (arith, ap takes w))
    go false true eb w = absurd (omega (arith, ap takes w))
    go false false eb w = ltb-false room 1296 eb

pub push_fits : (room : ℕ) (x : Input) (m : State) (a : Result Unit Refusal) → answer_to room x m ≡ a → Fits room (push_of a x m).sent
unfolding push_of
push_fits room x m (Ok u) e = step_fits room x m (taken_fits room x m e)
push_fits room x m (Err f) e = no_frames room

sent_fits : (room : ℕ) (fs : List Frame) (next : State) (rest : FedOut) → Fits room fs → Fits room rest.sent → Fits room (unless_sent fs next rest).sent
unfolding unless_sent one_more
sent_fits room [] next rest a b = b
sent_fits room (f ∷ fs) next rest a b = a

answer_fits : (room : ℕ) (x : Input) (m : State) (rest : FedOut) → Fits room rest.sent → (a : Result Unit Refusal) → answer_to room x m ≡ a → Fits room (unless_refused a m (step x m) rest).sent
unfolding unless_refused
answer_fits room x m rest b (Ok u) e = sent_fits room (step x m).sent (step x m).next rest (step_fits room x m (taken_fits room x m e)) b
answer_fits room x m rest b (Err f) e = no_frames room

pub fed_fits : (room : ℕ) (xs : List Input) (m : State) → Fits room (fed_of room xs m).sent
unfolding fed_of
fed_fits room [] m = no_frames room
fed_fits room (x ∷ xs) m = answer_fits room x m (fed_of room xs (step x m).next) (fed_fits room xs (step x m).next) (answer_to room x m) refl

laid_none : (room : List ℕ) (fs : List Frame) → length fs ≡ 0 → (left : List ℕ) (hs : List Head) → hs ≡ map head_of fs → slots hs left 0 ≡ shown_as fs
unfolding slots shown_as
laid_none room [] z left hs e = ap (λ (l : List Head). slots l left 0) e
laid_none room (f ∷ fs) z left hs e = absurd (omega arith)

out_read : (room : List ℕ) (fs : List Frame) → Fits (length room) fs → (left : List ℕ) (hs : List Head) → hs ≡ map head_of fs → left ≡ laid room 0 fs → slots hs left 0 ≡ shown_as fs
out_read room fs w left hs eh el = go (eqb (length fs) 0) refl
  where
    go : (b : Bool) → eqb (length fs) 0 ≡ b → slots hs left 0 ≡ shown_as fs
    go true e = laid_none room fs (eqb-true (length fs) 0 e) left hs eh
    go false e = frames_read fs room left hs w.fit w.most (w.large (above (length fs) (eqb-false (length fs) 0 e))) eh el

pub made_run : (a : Result Unit Refusal) (x : Input) (m : State) → ((push_of a x m).next ≡ (run (made a x) m).next) × ((push_of a x m).sent ≡ (run (made a x) m).sent)
unfolding push_of made run
made_run (Ok u) x m = (refl, sym (append-nil (step x m).sent))
made_run (Err f) x m = (refl, refl)

does_push : (s : Synchroniser) (x : Input) (room left : List ℕ) (r : Pushed) → PushedBy room left s x r → Does s (pushing x room left r)
unfolding answer_of left_by made_by
does_push s x room left r p =
    let m = view s in
    let a = answer_to (length room) x m in
    let o = push_of a x m in
    let w = push_fits (length room) x m a refl in
    let e : made a x ≡ made r.answer x = ap (λ (z : Result Unit Refusal). made z x) (sym p.answer) in
    record {
      valid = p.valid;
      next = p.next ∙ (made_run a x m).0 ∙ ap (λ (xs : List Input). (run xs m).next) e;
      sent = out_read room o.sent w left (take r.count r.heads) (heads_are r.count r.heads o.sent w.most p.many p.figures) p.stored
          ∙ ap shown_as ((made_run a x m).1 ∙ ap (λ (xs : List Input). (run xs m).sent) e);
    }

does_feed : (s : Synchroniser) (xs : List Input) (room left : List ℕ) (f : Fed) → FedBy room left (fed_of (length room) xs (view s)) f → Does s (feeding xs room left f)
unfolding answer_of left_by made_by
does_feed s xs room left f b =
    let m = view s in
    let o = fed_of (length room) xs m in
    let r = feed_rules_lem (length room) xs m in
    let w = fed_fits (length room) xs m in
    let e : take o.used xs ≡ take f.used xs = ap (λ (n : ℕ). take n xs) (sym b.used) in
    record {
      valid = b.valid;
      next = b.next ∙ r.next ∙ ap (λ (ys : List Input). (run ys m).next) e;
      sent = out_read room o.sent w left (take f.pushed.count f.pushed.heads) (heads_are f.pushed.count f.pushed.heads o.sent w.most b.many b.figures) b.stored
          ∙ ap shown_as (r.sent ∙ ap (λ (ys : List Input). (run ys m).sent) e);
    }

pub does : (s : Synchroniser) (c : Call) → Meets s c → Does s c
unfolding Meets
does s (pushing x room left r) a = does_push s x room left r a
does s (feeding xs room left f) a = does_feed s xs room left f a

-- ---- a history
pub follows : (cs : List Call) (s : Synchroniser) → ValidSynchroniser s → History s cs → Follows s cs
unfolding History state_of accepted handed run shown_as
follows [] s v h = record { valid = v; next = refl; sent = refl }
follows (c ∷ cs) s v h =
    let d = does s c h.0 in
    let f = follows cs (answer_of c).next d.valid h.1 in
    record {
      valid = f.valid;
      next = f.next ∙ ap (λ (m : State). (run (accepted cs) m).next) d.next ∙ sym (run_next (made_by c) (accepted cs) (view s));
      sent = ap₂ (λ (a b : List Got). a ++ b) d.sent (f.sent ∙ ap (λ (m : State). shown_as (run (accepted cs) m).sent) d.next)
          ∙ sym (shown_append (run (made_by c) (view s)).sent (run (accepted cs) (run (made_by c) (view s)).next).sent) ∙ ap shown_as (sym (run_sent (made_by c) (accepted cs) (view s)));
    }

history_left : (cs ds : List Call) (s : Synchroniser) → History s (cs ++ ds) → History s cs × History (state_of s cs) ds
unfolding History state_of
history_left [] ds s h = (refl, h)
history_left (c ∷ cs) ds s h = let r = history_left cs ds (answer_of c).next h.1 in ((h.0, r.0), r.1)

accepted_append : (cs ds : List Call) → accepted (cs ++ ds) ≡ accepted cs ++ accepted ds
unfolding accepted
accepted_append [] ds = refl
accepted_append (c ∷ cs) ds = ap (λ (l : List Input). made_by c ++ l) (accepted_append cs ds) ∙ sym (append_assoc (made_by c) (accepted cs) (accepted ds))

state_append : (cs ds : List Call) (s : Synchroniser) → state_of s (cs ++ ds) ≡ state_of (state_of s cs) ds
unfolding state_of
state_append [] ds s = refl
state_append (c ∷ cs) ds s = state_append cs ds (answer_of c).next

-- ---- the demand
to_gots : List Figures → List Got
to_gots [] = []
to_gots (f ∷ fs) = record { head = record { offset = f.offset; matched = f.matched; errors = f.errors; moves = f.moves }; envelope = bytes_of 48 f.bits } ∷ to_gots fs

shown_is : (fs : List Frame) → shown_as fs ≡ to_gots (figures fs)
unfolding shown_as to_gots figures
shown_is [] = refl
shown_is (f ∷ fs) = ap (λ (l : List Got). record { head = head_of f; envelope = bytes_of 48 f.bits } ∷ l) (shown_is fs)

take_gots : (k : ℕ) (fs : List Figures) → take k (to_gots fs) ≡ to_gots (take k fs)
unfolding to_gots
take_gots zero fs = refl
take_gots (suc k) [] = refl
take_gots (suc k) (f ∷ fs) = ap (λ (l : List Got). record { head = record { offset = f.offset; matched = f.matched; errors = f.errors; moves = f.moves }; envelope = bytes_of 48 f.bits } ∷ l) (take_gots k fs)

row_is : (s : List ℕ) (q o k : ℕ) → to_gots (in_a_row s q o k) ≡ got_in_a_row s q o k
unfolding to_gots in_a_row got_in_a_row
row_is s q o zero = refl
row_is s q o (suc k) = ap (λ (l : List Got). record { head = record { offset = o; matched = true; errors = errors s q 0 + errors s (q + 128) 1 + errors s (q + 256) 2; moves = no_moves }; envelope = bytes_of 48 (take 384 (drop q s)) } ∷ l) (row_is s (q + 384) (o + 384) k)

shown_figures : (s : List ℕ) (q o k : ℕ) (fs : List Frame) → take k (figures fs) ≡ in_a_row s q o k → take k (shown_as fs) ≡ got_in_a_row s q o k
shown_figures s q o k fs e = ap (take k) (shown_is fs) ∙ take_gots k (figures fs) ∙ ap to_gots e ∙ row_is s q o k

last_shown : (d : ℕ) (fs : List Frame) → last_got d (shown_as fs) ≡ last_offset d fs
unfolding last_got last_offset shown_as
last_shown d [] = refl
last_shown d (f ∷ fs) = last_shown f.offset fs

first_shown : (fs : List Frame) (p q : ℕ) → first_got (shown_as fs) p q ≡ first_offset fs p q
unfolding first_got first_offset shown_as
first_shown [] p q = refl
first_shown (f ∷ fs) p q = ap (λ (n : ℕ). n + 384 + (q - p)) (last_shown f.offset fs)

-- the demand by its parts: the pushes I, the place P, the frames F handed out before and G after
record Shape (I : List Input) (P : ℕ) (F G : List Got) : Type 0 where
  early : (later : List Input) (q : ℕ) → FirstLock (stream (I ++ later)) P q → length (stream I) ≤ q + 1151 → G ≡ []
  never : ((i : ℕ) → P ≤ i → i + 1152 ≤ length (stream I) → locks_at (stream I) i ≡ false) → G ≡ []
  exact : (q k : ℕ) → FirstLock (stream I) P q → q + 384 * k ≤ length (stream I) → ((j : ℕ) → j < k → in_place (stream I) (q + 384 * j) ≡ true) → take k G ≡ got_in_a_row (stream I) q (first_got F P q) k

none_shown_lem : shown_as [] ≡ []
unfolding shown_as
none_shown_lem = refl

shaped : (A B : List Input) → Demand3 A B → Shape (A ++ B) (place_of A) (shown_as (sent_by [] A)) (shown_as (sent_by A B))
shaped A B d =
    record {
      early = λ later q f l. ap shown_as (d.early later q f l) ∙ none_shown_lem;
      never = λ w. ap shown_as (d.never w) ∙ none_shown_lem;
      exact = λ q k f l row. shown_figures (stream (A ++ B)) q (first_offset (sent_by [] A) (place_of A) q) k (sent_by A B) (d.exact q k f l row) ∙ ap (λ (o : ℕ). got_in_a_row (stream (A ++ B)) q o k) (sym (first_shown (sent_by [] A) (place_of A) q));
    }

-- a push that sends a frame and ends with no lock has ended a lock
ends_lock : (x : Input) (m : State) → 0 < length (step x m).sent → (step x m).next.figures.locked ≡ false → Loses x m
unfolding Loses step
ends_lock x m h w = (go (search (bring x m)).figures.locked refl, w)
  where
    go : (b : Bool) → (search (bring x m)).figures.locked ≡ b → (search (bring x m)).figures.locked ≡ true
    go true e = e
    go false e = absurd (zero_not (length (drain 3 (search (bring x m))).sent) h (ap (λ (o : Out). length o.sent) (no_lock 3 (search (bring x m)) e)))

-- the last push that a call made ended a lock
record Ends (s : Synchroniser) (c : Call) : Type 0 where
  earlier : List Input
  last : Input
  made : made_by c ≡ earlier ++ (last ∷ [])
  loses : Loses last (run earlier (view s)).next

taken_ends : (s : Synchroniser) (x : Input) (room left : List ℕ) (r : Pushed) → 0 < r.count → r.next.numbers.figures.locked ≡ false → (a : Result Unit Refusal) → r.answer ≡ a
    → r.count ≡ length (push_of a x (view s)).sent → view r.next ≡ (push_of a x (view s)).next → Ends s (pushing x room left r)
unfolding made_by made run push_of
taken_ends s x room left r n w (Ok u) e count next =
    record { earlier = []; last = x; made = ap (λ (z : Result Unit Refusal). made z x) e; loses = ends_lock x (view s) (omega (arith, count)) (sym (ap (λ (z : State). z.figures.locked) next) ∙ w) }
taken_ends s x room left r n w (Err f) e count next = absurd (zero_not _ n count)

ends_push : (s : Synchroniser) (x : Input) (room left : List ℕ) (r : Pushed) → PushedBy room left s x r → 0 < r.count → r.next.numbers.figures.locked ≡ false → Ends s (pushing x room left r)
unfolding made_by run
ends_push s x room left r p n w = go r.answer refl
  where
    m : State
    m = view s

    same : push_of (answer_to (length room) x (view s)) x (view s) ≡ push_of r.answer x (view s)
    same = ap (λ (z : Result Unit Refusal). push_of z x (view s)) (sym p.answer)

    count : r.count ≡ length (push_of r.answer x (view s)).sent
    count = p.many ∙ ap (λ (o : Out). length o.sent) same

    next : view r.next ≡ (push_of r.answer x (view s)).next
    next = p.next ∙ ap (λ (o : Out). o.next) same

    go : (a : Result Unit Refusal) → r.answer ≡ a → Ends s (pushing x room left r)
    go a e = taken_ends s x room left r n w a e (count ∙ ap (λ (z : Result Unit Refusal). length (push_of z x (view s)).sent) e) (next ∙ ap (λ (z : Result Unit Refusal). (push_of z x (view s)).next) e)

take_snoc : (xs : List Input) (j : ℕ) (d : Input) → j < length xs → take (suc j) xs ≡ take j xs ++ (get_or xs j d ∷ [])
take_snoc [] j d h = absurd (omega arith)
take_snoc (x ∷ xs) zero d h = refl
take_snoc (x ∷ xs) (suc j) d h = ap (λ (l : List Input). x ∷ l) (take_snoc xs j d (omega arith))

run_last : (ys : List Input) (x : Input) (m : State) → ((run (ys ++ (x ∷ [])) m).next ≡ (step x (run ys m).next).next) × ((run (ys ++ (x ∷ [])) m).sent ≡ (run ys m).sent ++ (step x (run ys m).next).sent)
unfolding run
run_last ys x m = (run_next ys (x ∷ []) m, run_sent ys (x ∷ []) m ∙ ap (λ (l : List Frame). (run ys m).sent ++ l) (append-nil (step x (run ys m).next).sent))

ends_feed : (s : Synchroniser) (xs : List Input) (room left : List ℕ) (f : Fed) → FedBy room left (fed_of (length room) xs (view s)) f → 0 < f.pushed.count → f.pushed.next.numbers.figures.locked ≡ false → Ends s (feeding xs room left f)
unfolding made_by
ends_feed s xs room left f b n w = go (fed_of (length room) xs (view s)).used refl
  where
    r : FeedRule (length room) xs (view s) (fed_of (length room) xs (view s))
    r = feed_rules_lem (length room) xs (view s)

    go : (k : ℕ) → (fed_of (length room) xs (view s)).used ≡ k → Ends s (feeding xs room left f)
    go zero e = absurd (zero_not f.pushed.count n (b.many ∙ ap length (r.sent ∙ ap (λ (i : ℕ). (run (take i xs) (view s)).sent) e ∙ run_none (view s))))
    go (suc j) e =
        let h : j < length xs = omega (arith, r.few) in
        let ys = take j xs in
        let x = get_or xs j (hard 0) in
        let q : take (fed_of (length room) xs (view s)).used xs ≡ ys ++ (x ∷ []) = ap (λ (i : ℕ). take i xs) e ∙ take_snoc xs j (hard 0) h in
        let st : (fed_of (length room) xs (view s)).sent ≡ (step x (run ys (view s)).next).sent =
        r.sent ∙ ap (λ (zs : List Input). (run zs (view s)).sent) q ∙ (run_last ys x (view s)).1 ∙ ap (λ (l : List Frame). l ++ (step x (run ys (view s)).next).sent) (r.before j (omega arith)).0 in
        let nx : view f.pushed.next ≡ (step x (run ys (view s)).next).next = b.next ∙ r.next ∙ ap (λ (zs : List Input). (run zs (view s)).next) q ∙ (run_last ys x (view s)).0 in
        record {
          earlier = ys;
          last = x;
          made = ap (λ (i : ℕ). take i xs) b.used ∙ q;
          loses = ends_lock x (run ys (view s)).next (omega (arith, b.many, ap length st)) (sym (ap (λ (z : State). z.figures.locked) nx) ∙ w);
        }

ends : (s : Synchroniser) (c : Call) → Meets s c → 0 < (answer_of c).count → (answer_of c).next.numbers.figures.locked ≡ false → Ends s c
unfolding Meets answer_of
ends s (pushing x room left r) a n w = ends_push s x room left r a n w
ends s (feeding xs room left f) a n w = ends_feed s xs room left f a n w

begins_lost : (s : Synchroniser) → ValidSynchroniser s → view s ≡ start → (cs : List Call) (c : Call) → History s (cs ++ (c ∷ [])) → 0 < (answer_of c).count → (answer_of c).next.numbers.figures.locked ≡ false → Begins (accepted (cs ++ (c ∷ [])))
unfolding Begins History accepted
begins_lost s v e cs c h n w =
    let H = history_left cs (c ∷ []) s h in
    let f = follows cs s v H.0 in
    let E = ends (state_of s cs) c H.1.0 n w in
    let m : view (state_of s cs) ≡ (run (accepted cs) start).next = f.next ∙ ap (λ (z : State). (run (accepted cs) z).next) e in
    inr (
      accepted cs ++ E.earlier,
      E.last,
      accepted_append cs (c ∷ []) ∙ ap (λ (l : List Input). accepted cs ++ l) (append-nil (made_by c) ∙ E.made) ∙ sym (append_assoc (accepted cs) E.earlier (E.last ∷ [])),
      subst (λ (z : State). Loses E.last z) (ap (λ (z : State). (run E.earlier z).next) m ∙ sym (run_next (accepted cs) E.earlier start)) E.loses,
    )

begins : (s : Synchroniser) → ValidSynchroniser s → view s ≡ start → (before : List Call) → History s before → BeginsAt before → Begins (accepted before)
unfolding BeginsAt Begins accepted
begins s v e before h (inl z) = inl (ap accepted z)
begins s v e before h (inr b) = subst (λ (l : List Call). Begins (accepted l)) (sym b.2) (begins_lost s v e b.0 b.1 (subst (History s) b.2 h) b.3 b.4)

pub demand_calls_lem : demand_calls
unfolding sent_by run place_in place_of
demand_calls_lem s v e before after h b =
    let H = history_left before after s h in
    let f = follows before s v H.0 in
    let g = follows after (state_of s before) f.valid H.1 in
    let A = accepted before in
    let B = accepted after in
    let m : view (state_of s before) ≡ (run A start).next = f.next ∙ ap (λ (z : State). (run A z).next) e in
    let eF : handed before ≡ shown_as (sent_by [] A) = f.sent ∙ ap (λ (z : State). shown_as (run A z).sent) e in
    let eG : handed after ≡ shown_as (sent_by A B) = g.sent ∙ ap (λ (z : State). shown_as (run B z).sent) m in
    let eI : accepted (before ++ after) ≡ A ++ B = accepted_append before after in
    let eP : place_in s before ≡ place_of A = ap (λ (n : ℕ). length (stream A) - n) (sym (pending_is (state_of s before).bits (state_of s before).reliabilities (state_of s before).numbers) ∙ ap (λ (z : State). length (pending z)) m) in
    let d : Shape (A ++ B) (place_of A) (shown_as (sent_by [] A)) (shown_as (sent_by A B)) = shaped A B (demand_three A B (begins s v e before H.0 b)) in
    let d1 : Shape (accepted (before ++ after)) (place_of A) (shown_as (sent_by [] A)) (shown_as (sent_by A B)) = subst (λ (I : List Input). Shape I (place_of A) (shown_as (sent_by [] A)) (shown_as (sent_by A B))) (sym eI) d in
    let d2 : Shape (accepted (before ++ after)) (place_in s before) (shown_as (sent_by [] A)) (shown_as (sent_by A B)) = subst (λ (P : ℕ). Shape (accepted (before ++ after)) P (shown_as (sent_by [] A)) (shown_as (sent_by A B))) (sym eP) d1 in
    let d3 : Shape (accepted (before ++ after)) (place_in s before) (handed before) (shown_as (sent_by A B)) = subst (λ (F : List Got). Shape (accepted (before ++ after)) (place_in s before) F (shown_as (sent_by A B))) (sym eF) d2 in
    let d4 : Shape (accepted (before ++ after)) (place_in s before) (handed before) (handed after) = subst (λ (G : List Got). Shape (accepted (before ++ after)) (place_in s before) (handed before) G) (sym eG) d3 in
    record { early = d4.early; never = d4.never; exact = d4.exact }

pub calls_follow_lem : calls_follow
calls_follow_lem s v cs h = follows cs s v h
