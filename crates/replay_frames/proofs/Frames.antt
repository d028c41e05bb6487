-- The bytes of frames, one more at a time.
-- Assumes nothing.
use mathlib.Core.Path.{◌≡◌, refl, sym, ap, ◌∙◌}
use mathlib.Core.Bool.{Bool}
use mathlib.Core.List.{List, [], ◌∷◌, ◌++◌, append-nil, append_assoc}
use Prim.Native.Nat.{ℕ, suc, ◌+◌, ◌<◌}
use native.Mathlib.Nat.{add-zero, add-suc, suc-add}
use native.Mathlib.Numerals.{add-one}
use native.Mathlib.Omega.{arith}
use lib.ListN.{length, get_or, take}
use lib.Seq.{length-take-le, take-suc}
use Rattle.sync_rules.specs.declared.Head.{Head}
use Rattle.replay_frames.specs.Frames.{frame_bytes, head_bytes, slot_bytes}

module _ (soft : Bool) (room : List ℕ) where
  frame_append : (hs gs : List Head) (k : ℕ) → frame_bytes soft room k (hs ++ gs) ≡ frame_bytes soft room k hs ++ frame_bytes soft room (k + length hs) gs
  unfolding frame_bytes
  frame_append [] gs k = ap (λ (i : ℕ). frame_bytes soft room i gs) (sym (add-zero k))
  frame_append (h ∷ hs) gs k =
      ap (λ (l : List ℕ). (head_bytes h ++ slot_bytes soft room k) ++ l)
      (frame_append hs gs (suc k) ∙ ap (λ (i : ℕ). frame_bytes soft room (suc k) hs ++ frame_bytes soft room i gs) (suc-add k (length hs) ∙ sym (add-suc k (length hs))))
      ∙ sym (append_assoc (head_bytes h ++ slot_bytes soft room k) (frame_bytes soft room (suc k) hs) (frame_bytes soft room (k + suc (length hs)) gs))

  frame_one : (h : Head) (k : ℕ) → frame_bytes soft room k (h ∷ []) ≡ head_bytes h ++ slot_bytes soft room k
  unfolding frame_bytes
  frame_one h k = append-nil (head_bytes h ++ slot_bytes soft room k)

  pub frame_none : (k : ℕ) → [] ≡ frame_bytes soft room k []
  unfolding frame_bytes
  frame_none k = refl

  -- the frame in slot k behind those before it
  pub frame_more : (heads : List Head) (k : ℕ) (d : Head) → k < length heads
      → frame_bytes soft room 0 (take k heads) ++ (head_bytes (get_or heads k d) ++ slot_bytes soft room k) ≡ frame_bytes soft room 0 (take (k + 1) heads)
  frame_more heads k d h =
      let long : length (take k heads) ≡ k = length-take-le k heads (omega arith) in
      let place : 0 + length (take k heads) ≡ k = omega arith in
      ap (λ (l : List ℕ). frame_bytes soft room 0 (take k heads) ++ l) (sym (ap (λ (i : ℕ). frame_bytes soft room i (get_or heads k d ∷ [])) place ∙ frame_one (get_or heads k d) k))
      ∙ sym (frame_append (take k heads) (get_or heads k d ∷ []) 0)
      ∙ ap (frame_bytes soft room 0) (sym (ap (λ (i : ℕ). take i heads) (add-one k) ∙ take-suc heads k d h))
