-- The text of each line, in ASCII.
-- Assumes nothing.
use Rattle.std.specs.Prelude.{Bool, List, [], ◌∷◌, ◌++◌, ℕ, ℤ}
use Rattle.bits.specs.Bit.{tab}
use Rattle.journal_rules.specs.Record.{bit_of}
use Rattle.texts_rules.specs.Decimal.{decimal, signed_decimal}
use Rattle.texts_rules.specs.Text.{hex_at}

-- a number behind a space
abbrev pub spaced : ℕ → List ℕ
spaced n = 32 ∷ decimal n

-- a number with its sign behind a space
abbrev pub spaced_signed : ℤ → List ℕ
spaced_signed z = 32 ∷ signed_decimal z

abbrev pub line_feed : List ℕ
line_feed = 10 ∷ []

-- "frame lines being offset, matched, errors"
abbrev pub frame_words : ℕ → Bool → ℕ → List ℕ
frame_words offset matched errors = (102 ∷ 114 ∷ 97 ∷ 109 ∷ 101 ∷ []) ++ spaced offset ++ spaced (bit_of matched) ++ spaced errors

abbrev pub frame_text : ℕ → Bool → ℕ → List ℕ
frame_text offset matched errors = frame_words offset matched errors ++ line_feed

-- "A gap prints `gap`, offset, length"
abbrev pub gap_text : ℕ → ℕ → List ℕ
gap_text offset long = (103 ∷ 97 ∷ 112 ∷ []) ++ spaced offset ++ spaced long ++ line_feed

-- `end`, and the first two counts of a last line
abbrev pub end_words : ℕ → ℕ → List ℕ
end_words a b = (101 ∷ 110 ∷ 100 ∷ []) ++ spaced a ++ spaced b

-- "the last line frames, slips, pending bits"
abbrev pub end_text : ℕ → ℕ → ℕ → List ℕ
end_text a b c = end_words a b ++ spaced c ++ line_feed

-- `slip OFFSET FRONT SECOND THIRD`
abbrev pub slip_text : ℕ → ℤ → ℤ → ℤ → List ℕ
slip_text offset front second third = (115 ∷ 108 ∷ 105 ∷ 112 ∷ []) ++ spaced offset ++ spaced_signed front ++ spaced_signed second ++ spaced_signed third ++ line_feed

-- "last line `end FRAMES SLIPS NETSLIP`"
abbrev pub slips_end_text : ℕ → ℕ → ℤ → List ℕ
slips_end_text frames slips net = end_words frames slips ++ spaced_signed net ++ line_feed

-- `refused` and two numbers: of a record, the refusal's number and the record's; of a frame that is no speech, its offset and the refusal's number
abbrev pub refused_text : ℕ → ℕ → List ℕ
refused_text first second = (114 ∷ 101 ∷ 102 ∷ 117 ∷ 115 ∷ 101 ∷ 100 ∷ []) ++ spaced first ++ spaced second ++ line_feed

-- `refused` and the refusal's number: a call's answer, on standard error
abbrev pub refusal_text : ℕ → List ℕ
refusal_text number = (114 ∷ 101 ∷ 102 ∷ 117 ∷ 115 ∷ 101 ∷ 100 ∷ []) ++ spaced number ++ line_feed

-- `late`, `double`, `passed over` and `refused`, each with how many frames of two merged recordings it kept out of the journal
abbrev pub left_out_words : ℕ → ℕ → ℕ → List ℕ
left_out_words late double passed =
    (108 ∷ 97 ∷ 116 ∷ 101 ∷ []) ++ spaced late
    ++ (32 ∷ 100 ∷ 111 ∷ 117 ∷ 98 ∷ 108 ∷ 101 ∷ []) ++ spaced double
    ++ (32 ∷ 112 ∷ 97 ∷ 115 ∷ 115 ∷ 101 ∷ 100 ∷ 32 ∷ 111 ∷ 118 ∷ 101 ∷ 114 ∷ []) ++ spaced passed

abbrev pub left_out_text : ℕ → ℕ → ℕ → ℕ → List ℕ
left_out_text late double passed refused = left_out_words late double passed ++ (32 ∷ 114 ∷ 101 ∷ 102 ∷ 117 ∷ 115 ∷ 101 ∷ 100 ∷ []) ++ spaced refused ++ line_feed

-- `speech`, the frame's offset, its corrected bits, and its payload in 40 digits
abbrev pub speech_text : ℕ → ℕ → List ℕ → List ℕ
speech_text offset corrected payload =
    (115 ∷ 112 ∷ 101 ∷ 101 ∷ 99 ∷ 104 ∷ []) ++ spaced offset ++ spaced corrected ++ (32 ∷ []) ++ tab 40 (hex_at payload) ++ line_feed
