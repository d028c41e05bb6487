-- How a case of the synchroniser is told: by what a feed promises, and by how its answer was put.
-- Assumes nothing.
use Rattle.std.proofs.Common.{Result}
use mathlib.Core.Path.{◌≡◌, sym, ap, ◌∙◌, subst}
use mathlib.Core.List.{List, ◌++◌}
use Prim.Native.Nat.{ℕ}
use lib.ListN.{length}
use Rattle.replay_bytes.specs.Answers.{bytes}
use Rattle.replay_bytes.specs.Bytes.{PutSome, last_bytes}
use Rattle.replay_bytes.proofs.Puts.{some_as}
use Rattle.replay_bytes.proofs.Telling.{fits}
use Rattle.sync.specs.Feeds.{FedBy}
use Rattle.sync_steps.specs.Feeds.{fed_of}
use Rattle.sync_frames.specs.Frames.{heads_of}
use Rattle.sync.specs.View.{ValidSynchroniser, view}
use Rattle.sync.specs.declared.Fed.{Fed}
use Rattle.sync.specs.declared.Synchroniser.{Synchroniser}
use Rattle.sync_rules.specs.Frames.{Frame}
use Rattle.sync_rules.specs.Room.{laid}
use Rattle.sync_rules.specs.State.{State, Input}
use Rattle.sync_rules.specs.declared.Head.{Head}
use Rattle.replay_pushes.specs.Pushes.{ShownFed, pushed_bytes}
use Rattle.replay_sync.specs.Streams.{Case, ToldBy, feed_case, sent_bytes}
use Rattle.replay_pushes.specs.declared.Synchronised.{Synchronised}
use Rattle.bits.specs.declared.Refusal.{Refusal}

pub told_as : {s : Synchroniser} {room before after : List ℕ} {r : Synchronised} (o p : Case) → o ≡ p → ToldBy s o room before after r → ToldBy s p room before after r
told_as {s} {room} {before} {after} {r} o p e t = subst (λ (x : Case). ToldBy s x room before after r) e t

told : {s : Synchroniser} {room before after : List ℕ} {r : Synchronised} (b left : List ℕ) (m : State) → ValidSynchroniser r.sync → view r.sync ≡ m → room ≡ left → PutSome before 0 b after r.size
    → ToldBy s (record { answer = bytes b; room = left; next = m }) room before after r
told b left m valid next stored puts = record { valid = valid; next = next; stored = stored; tells = puts; kept = λ k. absurd (fits b k) }

-- what an answer tells, by what it is
sent_as : {a a' : Result Unit Refusal} {n : ℕ} {heads : List Head} {room left : List ℕ} {m m' : State} (sent : List Frame) → a ≡ a' → n ≡ length sent → heads ≡ heads_of 3 sent → room ≡ left → m ≡ m'
    → pushed_bytes a n heads room m ≡ sent_bytes a' sent left m'
sent_as {a} {a'} {n} {heads} {room} {left} {m} {m'} sent ea en eh er em =
    ap (λ (k : Result Unit Refusal). pushed_bytes k n heads room m) ea
    ∙ ap (λ (k : ℕ). pushed_bytes a' k heads room m) en
    ∙ ap (λ (k : List Head). pushed_bytes a' (length sent) k room m) eh
    ∙ ap (λ (k : List ℕ). pushed_bytes a' (length sent) (heads_of 3 sent) k m) er
    ∙ ap (λ (k : State). pushed_bytes a' (length sent) (heads_of 3 sent) left k) em

pub fed_told : (s : Synchroniser) (room : List ℕ) (xs : List Input) {room' : List ℕ} {f : Fed} {before after : List ℕ} {r : Synchronised} → FedBy room room' (fed_of (length room) xs (view s)) f
    → ShownFed f room' before after r → ToldBy s (feed_case room xs (view s)) room' before after r
fed_told s room xs {f = f} q w =
    let o = fed_of (length room) xs (view s) in
    let said = sent_bytes o.answer o.sent (laid room 0 o.sent) o.next in
    told (last_bytes 2 o.used ++ said) (laid room 0 o.sent) o.next
    (subst ValidSynchroniser (sym w.next) q.valid) (ap view w.next ∙ q.next) q.stored
    (some_as _ _ _ _ w.puts
    (ap (λ (l : List ℕ). last_bytes 2 f.used ++ l) (sent_as o.sent q.answer q.many q.figures q.stored q.next)
    ∙ ap (λ (k : ℕ). last_bytes 2 k ++ said) q.used))
