-- What the encoder answers and leaves, return by return.
-- Assumes nothing.
use Rattle.std.proofs.Common.{Err}
use mathlib.Core.Bool.{Bool, true, false, cond, ◌&&◌}
use mathlib.Core.List.{List}
use mathlib.Core.Path.{◌≡◌, refl, ap, ◌∙◌}
use Prim.Native.Nat.{ℕ}
use lib.Dec.{eqb}
use lib.ListN.{length}
use borrow.Author.Tests.{eq-eqb, ne_eqb}
use Rattle.bits.specs.declared.Refusal.TheVariants.{Size, Table}
use Rattle.coding_rules.specs.Calls.{size_answer, after_scramble}
use Rattle.coding_rules.specs.Scramble.{scrambled}
use Rattle.protected_rules.specs.Table.{admits}
use Rattle.voice_rules.specs.Calls.{encode_sized, encode_answer, encode_leaves}
use Rattle.voice_rules.specs.Encoded.{encoded_word}

module _ (table payload envelope : List ℕ) (alternate : Bool) where
  module _ (e : encode_sized payload envelope ≡ false) where
    pub size_answer_lem : Err Size ≡ encode_answer table payload envelope
    unfolding encode_answer
    size_answer_lem = rw e refl

    pub size_leaves : envelope ≡ encode_leaves table payload alternate envelope
    unfolding encode_leaves
    size_leaves = rw e refl

  pub short_payload : (length payload ≡ 20 → ⊥) → encode_sized payload envelope ≡ false
  short_payload h = ap (λ (t : Bool). t && eqb (length envelope) 48) (ne_eqb (length payload) 20 h)

  module _ (p : length payload ≡ 20) where
    pub short_envelope : (length envelope ≡ 48 → ⊥) → encode_sized payload envelope ≡ false
    short_envelope h = simp (eq-eqb (length payload) 20 p, ne_eqb (length envelope) 48 h)

    module _ (q : length envelope ≡ 48) where
      module _ (a : admits table ≡ false) where
        pub table_answer : Err Table ≡ encode_answer table payload envelope
        unfolding encode_answer
        table_answer = simp (eq-eqb (length payload) 20 p, eq-eqb (length envelope) 48 q, a)

        pub table_leaves : envelope ≡ encode_leaves table payload alternate envelope
        unfolding encode_leaves
        table_leaves = simp (eq-eqb (length payload) 20 p, eq-eqb (length envelope) 48 q, a)

      module _ (a : admits table ≡ true) (word : List ℕ) (w : word ≡ encoded_word table payload (cond alternate 1 0)) (l : length word ≡ 42) where
        pub made_answer : size_answer envelope word ≡ encode_answer table payload envelope
        unfolding size_answer encode_answer
        made_answer = simp (eq-eqb (length payload) 20 p, eq-eqb (length envelope) 48 q, eq-eqb (length word) 42 l, a)

        pub made_leaves : after_scramble word envelope ≡ encode_leaves table payload alternate envelope
        unfolding after_scramble encode_leaves
        made_leaves =
            let e : after_scramble word envelope ≡ scrambled word = simp (eq-eqb (length envelope) 48 q, eq-eqb (length word) 42 l) in
            e ∙ ap scrambled w ∙ simp (eq-eqb (length payload) 20 p, eq-eqb (length envelope) 48 q, a)
