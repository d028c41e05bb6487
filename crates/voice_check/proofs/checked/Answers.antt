use Rattle.std.proofs.Common.{ap, sym, ◌∙◌}
use mathlib.Core.List.{List}
use Prim.Native.Nat.{ℕ}
use Rattle.protected_rules.specs.Convolution.{coded_apart}
use Rattle.voice_rules.specs.Candidate.{bytes_apart}
use Rattle.voice_check.proofs.CandidateCheck.{ends_fail, checksum_fails, distance_fails, tail_fails, all_pass, remade_made}
use Rattle.voice_check.proofs.checked.Goals as goal

pub returns-then-end_bits-gt0 : goal.returns-then-end_bits-gt0
returns-then-end_bits-gt0 c =
    let table = c.args.table.now.entries in
    let bits = c.args.received.now in
    let k = c.args.candidate.now in
    let x = c.args.input.now.bits in
    let s = c.args.stage in
    let n = c.args.allowed in
    let g = c.args.extra in
    ends_fail s table bits k x n g _ c.end_bits.ensures c.if-end_bits-gt0.true

pub returns-then-checksum_in-checksum_of : goal.returns-then-checksum_in-checksum_of
returns-then-checksum_in-checksum_of c =
    let table = c.args.table.now.entries in
    let bits = c.args.received.now in
    let k = c.args.candidate.now in
    let x = c.args.input.now.bits in
    let s = c.args.stage in
    let n = c.args.allowed in
    let g = c.args.extra in
    checksum_fails s table bits k x n g _ c.end_bits.ensures c.if-end_bits-gt0.false
    (λ e. c.if-checksum_in-checksum_of.true (c.checksum_in.ensures ∙ e ∙ sym c.checksum_of.ensures))

pub returns-then-distance-allowed : goal.returns-then-distance-allowed
returns-then-distance-allowed c =
    let table = c.args.table.now.entries in
    let bits = c.args.received.now in
    let k = c.args.candidate.now in
    let x = c.args.input.now.bits in
    let s = c.args.stage in
    let n = c.args.allowed in
    let g = c.args.extra in
    let same = sym c.checksum_in.ensures ∙ c.if-checksum_in-checksum_of.false ∙ c.checksum_of.ensures in
    let code = c.convolution-code.ensures in
    let e₃ = c.coded_apart-distance.ensures.0 ∙ ap (λ (l : List ℕ). coded_apart l bits) code in
    distance_fails s table bits k x n g _ c.end_bits.ensures c.if-end_bits-gt0.false same _ e₃ c.if-distance-allowed.true

pub returns-then-bytes_apart-gt0 : goal.returns-then-bytes_apart-gt0
returns-then-bytes_apart-gt0 c =
    let table = c.args.table.now.entries in
    let bits = c.args.received.now in
    let k = c.args.candidate.now in
    let x = c.args.input.now.bits in
    let s = c.args.stage in
    let n = c.args.allowed in
    let g = c.args.extra in
    let same = sym c.checksum_in.ensures ∙ c.if-checksum_in-checksum_of.false ∙ c.checksum_of.ensures in
    let code = c.convolution-code.ensures in
    let e₃ = c.coded_apart-distance.ensures.0 ∙ ap (λ (l : List ℕ). coded_apart l bits) code in
    let made = remade_made table k x _ _ _ code c.write_protected-filled.ensures c.with_tail-remade.ensures in
    let e₄ = c.bytes_apart.ensures ∙ ap (λ (l : List ℕ). bytes_apart l k 34 8) made in
    tail_fails s table bits k x n g _ c.end_bits.ensures c.if-end_bits-gt0.false same _ e₃ c.if-distance-allowed.false _ e₄ c.if-bytes_apart-gt0.true

pub returns : goal.returns
returns c =
    let table = c.args.table.now.entries in
    let bits = c.args.received.now in
    let k = c.args.candidate.now in
    let x = c.args.input.now.bits in
    let s = c.args.stage in
    let n = c.args.allowed in
    let g = c.args.extra in
    let same = sym c.checksum_in.ensures ∙ c.if-checksum_in-checksum_of.false ∙ c.checksum_of.ensures in
    let code = c.convolution-code.ensures in
    let e₃ = c.coded_apart-distance.ensures.0 ∙ ap (λ (l : List ℕ). coded_apart l bits) code in
    let made = remade_made table k x _ _ _ code c.write_protected-filled.ensures c.with_tail-remade.ensures in
    let e₄ = c.bytes_apart.ensures ∙ ap (λ (l : List ℕ). bytes_apart l k 34 8) made in
    all_pass s table bits k x n g _ c.end_bits.ensures c.if-end_bits-gt0.false same _ e₃ c.if-distance-allowed.false _ e₄ c.if-bytes_apart-gt0.false _ c.payload_of.ensures
