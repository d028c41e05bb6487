-- `sync_inputs::packed_at` meets its contract.
-- Assumes nothing.
use mathlib.Core.Path.{◌≡◌, sym, ap, ◌∙◌}
use mathlib.Core.List.{List, [], ◌∷◌}
use Prim.Native.Nat.{ℕ, suc, ◌+◌, ◌/◌, ◌%◌, ◌<◌}
use native.Mathlib.Omega.{arith}
use lib.ListN.{length, drop, get_or}
use Rattle.std.proofs.lemmas.Grind.{get_or_default_zero}
use Rattle.sync_rules.specs.State.{hard}
use Rattle.sync_inputs.specs.Inputs.{hardly, unpacked}
use Rattle.sync_inputs.proofs.Inputs.{packed_next, length_packed}
use Rattle.sync_inputs.proofs.packed_at.Goals as goal

-- the next push that there is
lands : (bs : List ℕ) (start used : ℕ) → start / 4 + (start % 4 + used) / 4 < length bs → (d b : ℕ) → b ≡ get_or bs (start / 4 + (start % 4 + used) / 4) 0 → d ≡ get_or (unpacked (b ∷ [])) ((start % 4 + used) % 4) 0
    → drop used (hardly (drop start (unpacked bs))) ≡ hard d ∷ drop (suc used) (hardly (drop start (unpacked bs)))
lands bs start used h d b eb ed =
    packed_next bs start used (start / 4 + (start % 4 + used) / 4) ((start % 4 + used) % 4) (omega arith) (omega arith) h
    ∙ ap (λ (i : ℕ). hard i ∷ drop (suc used) (hardly (drop start (unpacked bs)))) (sym (ed ∙ ap (λ (x : ℕ). get_or (unpacked (x ∷ [])) ((start % 4 + used) % 4) 0) eb))

pub returns-in_err-byte : goal.returns-in_err-byte
returns-in_err-byte c = rw c.from_residual.ensures (omega (arith, c.in_err-byte.ensures.lookup, length_packed c.args.bytes.now c.args.start))

pub returns : goal.returns
returns c =
    let found = c.in_ok-byte.ensures.lookup in
    let a = c.args in
    let at = a.start / 4 + (a.start % 4 + a.used) / 4 in
    let h : at < length a.bytes.now = omega (arith, found.0) in
    rw c.hard_given.ensures (lands a.bytes.now a.start a.used h _ _ (found.1 ∙ get_or_default_zero a.bytes.now at _ h) c.dibit_of-dibit.ensures)
