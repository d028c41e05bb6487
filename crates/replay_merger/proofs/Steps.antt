-- A release, and the bytes that are put of it.
-- Assumes nothing.
use mathlib.Core.Path.{◌≡◌, sym, ap, ◌∙◌, subst}
use mathlib.Core.Bool.{true, false}
use mathlib.Core.List.{List, [], ◌∷◌, append-nil}
use Prim.Native.Nat.{ℕ, ◌≤◌}
use native.Mathlib.Omega.{arith}
use lib.ListN.{length}
use Rattle.replay_bytes.specs.Bytes.{Put}
use Rattle.replay_bytes.proofs.Puts.{put_as, put_none}
use Rattle.merger_rules.specs.declared.Release.{Release}
use Rattle.merger_rules.specs.declared.Released.{Released}
use Rattle.merger_rules.specs.declared.Released.TheVariants.{Frame, PassedOver, NothingReady}
use Rattle.merger_rules.specs.Scripts.{given}
use Rattle.replay_merger_bytes.specs.MergerBytes.{release_bytes}
use Rattle.replay_merger.specs.Merges.{frames_bytes, is_gone}

pub frames_one : (r : Release) → frames_bytes (r ∷ []) ≡ release_bytes r
unfolding frames_bytes
frames_one r = append-nil (release_bytes r)

-- no frame
pub frames_none : (out : List ℕ) (to : ℕ) → to ≤ length out → Put out to (frames_bytes []) out to
unfolding frames_bytes
frames_none out to h = put_none out to to (omega arith)

-- what a release handed on is put, be it a frame or a position without one
frame_put : {a b : Released} {r : Release} {out : List ℕ} {to : ℕ} {m : List ℕ} {i : ℕ} → a ≡ b → a ≡ Frame r → Put out to (release_bytes r) m i → (is_gone b ≡ true) × Put out to (frames_bytes (given b)) m i
frame_put {r = r} e g p =
    let is : Frame r ≡ _ = sym g ∙ e in
    (sym (ap is_gone is), put_as p (sym (frames_one r) ∙ ap (λ (x : Released). frames_bytes (given x)) is))

none_put : {a b : Released} {out : List ℕ} {to : ℕ} → a ≡ b → a ≡ PassedOver → to ≤ length out → (is_gone b ≡ true) × Put out to (frames_bytes (given b)) out to
none_put {out = out} {to} e g h =
    let is : PassedOver ≡ _ = sym g ∙ e in
    (sym (ap is_gone is), put_as (frames_none out to h) (ap (λ (x : Released). frames_bytes (given x)) is))

-- nothing is ready
pub nothing_put : {a b : Released} {out : List ℕ} {to : ℕ} → a ≡ b → a ≡ NothingReady → to ≤ length out → (is_gone b ≡ false) × Put out to (frames_bytes (given b)) out to
nothing_put {out = out} {to} e g h =
    let is : NothingReady ≡ _ = sym g ∙ e in
    (sym (ap is_gone is), put_as (frames_none out to h) (ap (λ (x : Released). frames_bytes (given x)) is))

-- the same, as the loop's match leaves it
module _ {a b : Released} {out : List ℕ} {to : ℕ} {after : List ℕ} {n : ℕ} {m : List ℕ} {i : ℕ} (e : a ≡ b) (am : after ≡ m) (an : n ≡ i) where
  left : (is_gone b ≡ true) × Put out to (frames_bytes (given b)) m i → (is_gone b ≡ true) × Put out to (frames_bytes (given b)) after n
  left p = (p.0, subst (λ (k : List ℕ). Put out to (frames_bytes (given b)) k n) (sym am) (subst (λ (k : ℕ). Put out to (frames_bytes (given b)) m k) (sym an) p.1))

  pub frame_left : {r : Release} → a ≡ Frame r → Put out to (release_bytes r) m i → (is_gone b ≡ true) × Put out to (frames_bytes (given b)) after n
  frame_left g p = left (frame_put e g p)

pub none_left : {a b : Released} {out : List ℕ} {to : ℕ} {after : List ℕ} {n : ℕ} → a ≡ b → after ≡ out → n ≡ to → a ≡ PassedOver → to ≤ length out → (is_gone b ≡ true) × Put out to (frames_bytes (given b)) after n
none_left e am an g h = left e am an (none_put e g h)
