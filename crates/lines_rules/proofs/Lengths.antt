-- How long a line's text is at most: a number has at most twenty digits.
-- Assumes nothing.
use Rattle.std.proofs.Common.{Option, Some, None, Result, Ok, Err}
use mathlib.Core.Bool.{Bool}
use mathlib.Core.List.{List, [], ◌∷◌, ◌++◌}
use mathlib.Core.Path.{◌≡◌, refl}
use Prim.Native.Nat.{ℕ, zero, suc, ◌+◌, ◌/◌, ◌%◌, ◌≤◌}
use native.Mathlib.Omega.{arith}
use lib.Dec.{ltb}
use lib.IntN.{ℤ, pos, negsuc}
use lib.ListN.{length, length-append}
use Rattle.bits.proofs.Conds.{cond_cases}
use Rattle.bits.proofs.Tabs.{length_tab}
use Rattle.bits.specs.Refusals.{number_of}
use Rattle.journal_rules.specs.Record.{bit_of}
use Rattle.journal_rules.specs.declared.Body.{Body}
use Rattle.journal_rules.specs.declared.Body.TheVariants.{Frame, Gap}
use Rattle.journal_rules.specs.declared.Figures.{Figures}
use Rattle.journal_rules.specs.declared.Outcome.{Outcome}
use Rattle.journal_rules.specs.declared.Outcome.TheVariants.{Untried, Accepted, Refused as RefusedFrame}
use Rattle.sync_rules.specs.declared.Head.{Head}
use Rattle.texts_rules.specs.Decimal.{decimal_in, signed_decimal}
use Rattle.texts_rules.specs.Text.{hex_at, line_of}
use Rattle.texts_rules.specs.declared.Line.{Line}
use Rattle.lines_rules.specs.Text.{frame_text, gap_text, end_text, slip_text, slips_end_text, refused_text, speech_text}
use Rattle.lines_rules.specs.Entries.{listed_body, between_text, outcome_words, figures_text, shown_body, shown_as}
use Rattle.lines_rules.specs.Slips.{has_move, slip_line_text}
use Rattle.bits.specs.declared.Refusal.{Refusal}
use Rattle.journal_rules.specs.declared.Entry.{Entry}

digits_few : (k n : ℕ) → length (decimal_in k n) ≤ k
unfolding decimal_in
digits_few zero n = omega arith
digits_few (suc k) n =
    cond_cases (λ (l : List ℕ). length l ≤ suc k) (ltb n 10) ((48 + n) ∷ []) (decimal_in k (n / 10) ++ ((48 + n % 10) ∷ []))
    (λ t. omega arith)
    (λ t. omega (arith, length-append (decimal_in k (n / 10)) ((48 + n % 10) ∷ []), digits_few k (n / 10)))

signed_few : (z : ℤ) → length (signed_decimal z) ≤ 21
signed_few (pos n) = omega (arith, digits_few 20 n)
signed_few (negsuc n) = omega (arith, digits_few 20 (suc n))

pub frame_short : (offset : ℕ) (matched : Bool) (errors : ℕ) → length (frame_text offset matched errors) ≤ 69
frame_short offset matched errors =
    let o = digits_few 20 offset in
    let m = digits_few 20 (bit_of matched) in
    let e = digits_few 20 errors in
    simp length-append (omega arith)

pub gap_short : (offset long : ℕ) → length (gap_text offset long) ≤ 46
gap_short offset long =
    let o = digits_few 20 offset in
    let n = digits_few 20 long in
    simp length-append (omega arith)

pub listed_short : (offset : ℕ) (body : Body) → length (listed_body offset body) ≤ 69
listed_short offset (Frame f) = frame_short offset f.matched f.errors
listed_short offset (Gap n) = omega (arith, gap_short offset n)

pub between_short : (b : Option Entry) → length (between_text b) ≤ 69
between_short None = omega arith
between_short (Some e) = listed_short e.offset e.body

pub end_short : (a b c : ℕ) → length (end_text a b c) ≤ 68
end_short a b c =
    let k = digits_few 20 a in
    let m = digits_few 20 b in
    let n = digits_few 20 c in
    simp length-append (omega arith)

pub slips_end_short : (frames slips : ℕ) (net : ℤ) → length (slips_end_text frames slips net) ≤ 69
slips_end_short frames slips net =
    let k = digits_few 20 frames in
    let m = digits_few 20 slips in
    let n = signed_few net in
    simp length-append (omega arith)

pub refused_short : (first second : ℕ) → length (refused_text first second) ≤ 50
refused_short first second =
    let a = digits_few 20 first in
    let b = digits_few 20 second in
    simp length-append (omega arith)

pub speech_short : (offset corrected : ℕ) (payload : List ℕ) → length (speech_text offset corrected payload) ≤ 90
speech_short offset corrected payload =
    let o = digits_few 20 offset in
    let n = digits_few 20 corrected in
    let p = length_tab 40 (hex_at payload) in
    simp length-append (omega arith)

slip_text_short : (offset : ℕ) (front second third : ℤ) → length (slip_text offset front second third) ≤ 92
slip_text_short offset front second third =
    let o = digits_few 20 offset in
    let a = signed_few front in
    let b = signed_few second in
    let c = signed_few third in
    simp length-append (omega arith)

pub slip_short : (h : Head) → length (slip_line_text h) ≤ 92
slip_short h =
    cond_cases (λ (t : List ℕ). length t ≤ 92) (has_move h.moves) (slip_text h.offset h.moves.front h.moves.second h.moves.third) []
    (λ t. slip_text_short h.offset h.moves.front h.moves.second h.moves.third)
    (λ t. omega arith)

-- ---- a journal's record

outcome_short : (o : Outcome) (corrected : ℕ) → length (outcome_words o corrected) ≤ 30
outcome_short Untried corrected = omega arith
outcome_short Accepted corrected = omega (arith, digits_few 20 corrected)
outcome_short RefusedFrame corrected = omega arith

figures_short : (offset : ℕ) (f : Figures) → length (figures_text offset f) ≤ 99
figures_short offset f =
    let o = digits_few 20 offset in
    let m = digits_few 20 (bit_of f.matched) in
    let e = digits_few 20 f.errors in
    let w = outcome_short f.outcome f.corrected in
    simp length-append (omega arith)

-- a line that has a text, which is short enough to be written
pub record ShortText (l : Line) : Type 0 where
  pub text : List ℕ
  pub has : l ≡ line_of text
  pub few : length text ≤ 99

body_short : (offset : ℕ) (b : Body) → ShortText (shown_body offset b).line
body_short offset (Frame f) = record { text = figures_text offset f; has = refl; few = figures_short offset f }
body_short offset (Gap n) = record { text = gap_text offset n; has = refl; few = omega (arith, gap_short offset n) }

pub shown_short : (x : Result Entry Refusal) (number : ℕ) → ShortText (shown_as x number).line
shown_short (Ok e) number = body_short e.offset e.body
shown_short (Err x) number = record { text = refused_text (number_of x) number; has = refl; few = omega (arith, refused_short (number_of x) number) }
