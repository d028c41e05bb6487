-- The frames that a history of calls hands out, with their reliabilities.
-- Assumes nothing.
use Rattle.std.proofs.Common.{Result, Ok, Err}
use mathlib.Core.Path.{◌≡◌, refl, sym, ap, ap₂, ◌∙◌, subst}
use mathlib.Core.List.{List, [], ◌∷◌, ◌++◌, map}
use mathlib.Core.Bool.{Bool}
use Prim.Native.Nat.{ℕ, ◌+◌, ◌*◌, ◌≤◌}
use native.Mathlib.Omega.{arith}
use lib.ListN.{length, take}
use Rattle.sync.specs.declared.Synchroniser.{Synchroniser}
use Rattle.sync.specs.declared.Pushed.{Pushed}
use Rattle.sync.specs.declared.Fed.{Fed}
use Rattle.sync_rules.specs.declared.Head.{Head}
use Rattle.sync.specs.View.{ValidSynchroniser, view}
use Rattle.sync.specs.Answers.{PushedBy}
use Rattle.sync.specs.Feeds.{FedBy}
use Rattle.sync_call_rules.specs.Calls.{Call, pushing, feeding, answer_of, left_by, Meets, made, made_by, History, accepted, Whole, whole_slots, handed_whole, whole_as}
use Rattle.sync_call_rules.specs.Statements.{reliable_calls}
use Rattle.sync_frames.specs.Frames.{head_of}
use Rattle.sync_inputs.specs.Answers.{answer_to, push_of}
use Rattle.sync_steps.specs.Feeds.{FedOut, one_more, unless_sent, unless_refused, fed_of}
use Rattle.sync_rules.specs.State.{State, Input, start}
use Rattle.sync_rules.specs.Frames.{Frame}
use Rattle.sync_rules.specs.Pushes.{step, run}
use Rattle.sync_rules.specs.Demand.{sent_by}
use Rattle.sync_rules.specs.Room.{laid}
use Rattle.sync_rules.specs.Counts.{state_after}
use Rattle.sync_rules.specs.Reliabilities.{Marked}
use Rattle.sync_rules.proofs.Hunts.{run_next, run_sent}
use Rattle.sync_rules.proofs.Reliabilities.{step_reached, step_marked}
use Rattle.sync_call_rules.proofs.Feeding.{feed_rules_lem}
use Rattle.sync_call_rules.proofs.Slots.{read_whole}
use Rattle.sync_call_rules.proofs.Histories.{Fits, heads_are, push_fits, fed_fits, made_run, Does, does}
use Rattle.bits.specs.declared.Refusal.{Refusal}

-- ---- frames have reliabilities by the soft mark of the state that they leave
no_frames_marked : (soft : Bool) → Marked soft []
unfolding Marked
no_frames_marked soft = tt

push_marked : (a : Result Unit Refusal) (x : Input) (m : State) (ys : List Input) → m ≡ state_after ys → Marked (push_of a x m).next.figures.soft (push_of a x m).sent
unfolding push_of
push_marked (Ok u) x m ys e = step_marked x m ys e
push_marked (Err f) x m ys e = no_frames_marked m.figures.soft

sent_marked : (fs : List Frame) (next : State) (rest : FedOut) → Marked next.figures.soft fs → Marked rest.next.figures.soft rest.sent → Marked (unless_sent fs next rest).next.figures.soft (unless_sent fs next rest).sent
unfolding unless_sent one_more
sent_marked [] next rest h k = k
sent_marked (f ∷ fs) next rest h k = h

answer_marked : (a : Result Unit Refusal) (x : Input) (m : State) (rest : FedOut) → Marked (step x m).next.figures.soft (step x m).sent → Marked rest.next.figures.soft rest.sent
    → Marked (unless_refused a m (step x m) rest).next.figures.soft (unless_refused a m (step x m) rest).sent
unfolding unless_refused
answer_marked (Ok u) x m rest h k = sent_marked (step x m).sent (step x m).next rest h k
answer_marked (Err f) x m rest h k = no_frames_marked m.figures.soft

fed_marked : (room : ℕ) (xs : List Input) (m : State) (ys : List Input) → m ≡ state_after ys → Marked (fed_of room xs m).next.figures.soft (fed_of room xs m).sent
unfolding fed_of
fed_marked room [] m ys e = no_frames_marked m.figures.soft
fed_marked room (x ∷ xs) m ys e = answer_marked (answer_to room x m) x m (fed_of room xs (step x m).next) (step_marked x m ys e) (fed_marked room xs (step x m).next (ys ++ (x ∷ [])) (step_reached x m ys e))

-- ---- a call
whole_read : (fs : List Frame) (room left : List ℕ) (soft : Bool) (hs : List Head) → Fits (length room) fs → Marked soft fs → hs ≡ map head_of fs → left ≡ laid room 0 fs → whole_slots soft hs left 0 ≡ whole_as fs
unfolding whole_slots whole_as
whole_read [] room left soft hs w k eh el = ap (λ (l : List Head). whole_slots soft l left 0) eh
whole_read (f ∷ fs) room left soft hs w k eh el =
    let big : 1296 ≤ length room = w.large (omega arith) in
    let most = w.most in
    ap₂ (λ (l : List Head) (r : List ℕ). whole_slots soft l r 0) eh el ∙ read_whole soft (f ∷ fs) room 0 k (omega arith)

abbrev whole_out : Call → List Whole
whole_out c = whole_slots (answer_of c).next.numbers.figures.soft (take (answer_of c).count (answer_of c).heads) (left_by c) 0

push_whole : (s : Synchroniser) (x : Input) (room left : List ℕ) (r : Pushed) → PushedBy room left s x r → (ys : List Input) → view s ≡ state_after ys → whole_out (pushing x room left r) ≡ whole_as (run (made_by (pushing x room left r)) (view s)).sent
unfolding answer_of left_by made_by
push_whole s x room left r p ys e =
    let m = view s in
    let a = answer_to (length room) x m in
    let o = push_of a x m in
    let w = push_fits (length room) x m a refl in
    let soft : o.next.figures.soft ≡ r.next.numbers.figures.soft = sym (ap (λ (n : State). n.figures.soft) p.next) in
    whole_read o.sent room left r.next.numbers.figures.soft (take r.count r.heads) w (subst (λ (b : Bool). Marked b o.sent) soft (push_marked a x m ys e)) (heads_are r.count r.heads o.sent w.most p.many p.figures) p.stored
    ∙ ap whole_as ((made_run a x m).1 ∙ ap (λ (z : Result Unit Refusal). (run (made z x) m).sent) (sym p.answer))

feed_whole : (s : Synchroniser) (xs : List Input) (room left : List ℕ) (f : Fed) → FedBy room left (fed_of (length room) xs (view s)) f → (ys : List Input) → view s ≡ state_after ys → whole_out (feeding xs room left f) ≡ whole_as (run (made_by (feeding xs room left f)) (view s)).sent
unfolding answer_of left_by made_by
feed_whole s xs room left f b ys e =
    let m = view s in
    let o = fed_of (length room) xs m in
    let r = feed_rules_lem (length room) xs m in
    let w = fed_fits (length room) xs m in
    let soft : o.next.figures.soft ≡ f.pushed.next.numbers.figures.soft = sym (ap (λ (n : State). n.figures.soft) b.next) in
    whole_read o.sent room left f.pushed.next.numbers.figures.soft (take f.pushed.count f.pushed.heads) w (subst (λ (t : Bool). Marked t o.sent) soft (fed_marked (length room) xs m ys e)) (heads_are f.pushed.count f.pushed.heads o.sent w.most b.many b.figures) b.stored
    ∙ ap whole_as (r.sent ∙ ap (λ (n : ℕ). (run (take n xs) m).sent) (sym b.used))

call_whole : (s : Synchroniser) (c : Call) → Meets s c → (ys : List Input) → view s ≡ state_after ys → whole_out c ≡ whole_as (run (made_by c) (view s)).sent
unfolding Meets
call_whole s (pushing x room left r) a = push_whole s x room left r a
call_whole s (feeding xs room left f) a = feed_whole s xs room left f a

-- ---- a history
whole_append : (fs gs : List Frame) → whole_as (fs ++ gs) ≡ whole_as fs ++ whole_as gs
unfolding whole_as
whole_append [] gs = refl
whole_append (f ∷ fs) gs = cc (whole_append fs gs)

follows_whole : (cs : List Call) (s : Synchroniser) → History s cs → (ys : List Input) → view s ≡ state_after ys → handed_whole cs ≡ whole_as (run (accepted cs) (view s)).sent
unfolding History accepted handed_whole run whole_as
follows_whole [] s h ys e = refl
follows_whole (c ∷ cs) s h ys e =
    let n = (does s c h.0).next in
    let there : view (answer_of c).next ≡ state_after (ys ++ made_by c) = n ∙ ap (λ (m : State). (run (made_by c) m).next) e ∙ sym (run_next ys (made_by c) start) in
    ap₂ (λ (a b : List Whole). a ++ b) (call_whole s c h.0 ys e) (follows_whole cs (answer_of c).next h.1 (ys ++ made_by c) there ∙ ap (λ (m : State). whole_as (run (accepted cs) m).sent) n)
    ∙ sym (whole_append (run (made_by c) (view s)).sent (run (accepted cs) (run (made_by c) (view s)).next).sent) ∙ ap whole_as (sym (run_sent (made_by c) (accepted cs) (view s)))

none_yet : (m : State) → m ≡ start → m ≡ state_after []
unfolding run
none_yet m e = e

pub reliable_calls_lem : reliable_calls
unfolding sent_by run
reliable_calls_lem s v e cs h = follows_whole cs s h [] (none_yet (view s) e) ∙ ap (λ (m : State). whole_as (run (accepted cs) m).sent) e
