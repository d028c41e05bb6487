-- The lines of a listing and of the slips go through frames one after the other, and those of three frames fit.
-- Assumes nothing.
use mathlib.Core.Path.{◌≡◌, refl, sym, ap, ◌∙◌}
use mathlib.Core.List.{List, [], ◌∷◌, ◌++◌, append_assoc}
use Prim.Native.Nat.{ℕ, zero, suc, ◌+◌, ◌*◌, ◌/◌, ◌%◌, ◌≤◌}
use native.Mathlib.Omega.{arith}
use lib.Dec.{ltb}
use lib.IntN.{ℤ, pos, negsuc}
use lib.ListN.{length, length-append}
use Rattle.bits.proofs.Conds.{cond_both}
use Rattle.journal_rules.specs.Gaps.{Piece, pieces_from}
use Rattle.journal_rules.specs.Record.{bit_of}
use Rattle.journal_rules.specs.declared.Body.{Body}
use Rattle.journal_rules.specs.declared.Body.TheVariants.{Frame, Gap}
use Rattle.lines_rules.specs.Entries.{listed_body, listed_text}
use Rattle.lines_rules.specs.Slips.{has_move, slip_line_text}
use Rattle.lines_rules.specs.Text.{spaced, spaced_signed, line_feed, slip_text}
use Rattle.sync_call_rules.specs.Calls.{Got}
use Rattle.sync_rules.specs.declared.Head.{Head}
use Rattle.texts_rules.specs.Decimal.{decimal_in, signed_decimal}
use Rattle.recorder_rules.specs.Makings.{untried, frames_of, rendered, slip_lines, listing, slipping, Sequential}
use Rattle.recorder_rules.proofs.Laying.{rendered_none, rendered_more, pieces_few}

-- ---- numbers are short

decimal_few : (k n : ℕ) → length (decimal_in k n) ≤ k
unfolding decimal_in
decimal_few zero n = omega arith
decimal_few (suc k) n =
    cond_both (λ (l : List ℕ). length l ≤ suc k) (ltb n 10) ((48 + n) ∷ []) (decimal_in k (n / 10) ++ ((48 + n % 10) ∷ []))
    (omega arith)
    (omega (arith, length-append (decimal_in k (n / 10)) ((48 + n % 10) ∷ []), decimal_few k (n / 10)))

signed_few : (z : ℤ) → length (signed_decimal z) ≤ 21
signed_few (pos n) = omega (arith, decimal_few 20 n)
signed_few (negsuc n) = omega (arith, decimal_few 20 (suc n))

-- ---- a listing

listed_few : (o : ℕ) (b : Body) → length (listed_body o b) ≤ 128
listed_few o (Frame f) =
    let m = spaced (bit_of f.matched) in
    let e = spaced f.errors in
    omega (arith, length-append (spaced o ++ m ++ e) line_feed, length-append (spaced o ++ m) e, length-append (spaced o) m, decimal_few 20 o, decimal_few 20 (bit_of f.matched), decimal_few 20 f.errors)
listed_few o (Gap n) =
    omega (arith, length-append (spaced o ++ spaced n) line_feed, length-append (spaced o) (spaced n), decimal_few 20 o, decimal_few 20 n)

lines_few : (ps : List Piece) → length (rendered listed_text ps) ≤ 128 * length ps
unfolding rendered
lines_few [] = omega arith
lines_few (p ∷ ps) = omega (arith, length-append (listed_text p) (rendered listed_text ps), listed_few p.entry.offset p.entry.body, lines_few ps)

pub listing_sequential : Sequential listing
listing_sequential =
    record {
      none = rendered_none untried listed_text;
      more = rendered_more untried listed_text;
      fits = λ e gs w h. omega (arith, lines_few (pieces_from e (frames_of untried gs)), pieces_few untried e gs);
    }

-- ---- the slips

slips_append : (gs hs : List Got) → slip_lines (gs ++ hs) ≡ slip_lines gs ++ slip_lines hs
unfolding slip_lines
slips_append [] hs = refl
slips_append (g ∷ gs) hs = ap (λ (l : List ℕ). slip_line_text g.head ++ l) (slips_append gs hs) ∙ sym (append_assoc (slip_line_text g.head) (slip_lines gs) (slip_lines hs))

slip_few : (h : Head) → length (slip_line_text h) ≤ 256
slip_few h =
    let m = h.moves in
    let o = spaced h.offset in
    let f = spaced_signed m.front in
    let g = spaced_signed m.second in
    let t = spaced_signed m.third in
    cond_both (λ (l : List ℕ). length l ≤ 256) (has_move m) (slip_text h.offset m.front m.second m.third) []
    (omega (arith, length-append (o ++ f ++ g ++ t) line_feed, length-append (o ++ f ++ g) t, length-append (o ++ f) g, length-append o f, decimal_few 20 h.offset, signed_few m.front, signed_few m.second, signed_few m.third))
    (omega arith)

slips_few : (gs : List Got) → length (slip_lines gs) ≤ 256 * length gs
unfolding slip_lines
slips_few [] = omega arith
slips_few (g ∷ gs) = omega (arith, length-append (slip_line_text g.head) (slip_lines gs), slip_few g.head, slips_few gs)

pub slipping_sequential : Sequential slipping
unfolding slip_lines
slipping_sequential = record { none = λ e. refl; more = λ e gs hs. slips_append gs hs; fits = λ e gs w h. omega (arith, slips_few gs) }
