-- What the two public calls answer and leave in the memory lent for the result: refusal 5 for a wrong size, and then nothing is written.
-- Assumes nothing.
use Rattle.std.specs.Prelude.{Bool, cond, ◌&&◌, List, [], ℕ, eqb, length, Result, Ok, Err}
use Rattle.bits.specs.declared.Refusal.TheVariants.{Size}
use Rattle.coding_rules.specs.Scramble.{descrambled, scrambled}
use Rattle.bits.specs.declared.Refusal.{Refusal}

-- an envelope has 48 bytes and a word has 42
abbrev pub sized : List ℕ → List ℕ → Bool
sized envelope word = eqb (length envelope) 48 && eqb (length word) 42

unfoldable pub size_answer : List ℕ → List ℕ → Result Unit Refusal
size_answer envelope word = cond (sized envelope word) (Ok tt) (Err Size)

-- what a descrambling leaves where the word was to go
unfoldable pub after_descramble : List ℕ → List ℕ → List ℕ
after_descramble envelope word = cond (sized envelope word) (descrambled envelope) word

-- what a scrambling leaves where the envelope was to go
unfoldable pub after_scramble : List ℕ → List ℕ → List ℕ
after_scramble word envelope = cond (sized envelope word) (scrambled word) envelope
