-- The line that has a text, and the hexadecimal digits of a payload.
-- Assumes nothing.
use Rattle.std.specs.Prelude.{cond, List, ◌++◌, ℕ, ◌-◌, ◌/◌, ◌%◌, ltb, length, replicate, get_or}
use Rattle.io.specs.Digits.{hex_digit_ascii}
use Rattle.texts_rules.specs.declared.Line.{Line}

-- the line that has this text
unfoldable pub line_of : List ℕ → Line
line_of t = record { size = length t; bytes = t ++ replicate (128 - length t) 0 }

-- digit i of a payload in hexadecimal: two digits a byte, the high half first
abbrev pub hex_at : List ℕ → ℕ → ℕ
hex_at payload i = hex_digit_ascii (cond (ltb (i % 2) 1) (get_or payload (i / 2) 0 / 16) (get_or payload (i / 2) 0 % 16))
