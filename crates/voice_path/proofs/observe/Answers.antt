use lib.ListN.{get_or}
use mathlib.Core.Path.{◌≡◌, ◌∙◌, sym, ap}
use mathlib.Core.Logic.{⊎_elim}
use Prim.Native.Nat.{ℕ, ◌*◌, ◌<◌}
use native.Mathlib.Omega.{arith}
use borrow.Author.Tests.{eq-eqb, ne_eqb}
use Rattle.voice_path_rules.specs.Path.{seen_at}
use Rattle.voice_path.proofs.observe.Goals as goal

pub bounds-received-odd : goal.bounds-received-odd
bounds-received-odd c =
    omega (arith, c.args.table.now.admitted.odd c.args.t c.requires, c.from-odd.ensures)

pub bounds-weights-odd : goal.bounds-weights-odd
bounds-weights-odd c =
    omega (arith, c.args.table.now.admitted.odd c.args.t c.requires, c.from-odd.ensures)

pub returns-then-even-eq255 : goal.returns-then-even-eq255
unfolding seen_at
returns-then-even-eq255 c =
    let odd = c.from-odd.ensures in
    let even = c.from-even.ensures in
    let a = c.from-a.ensures in
    let wa = c.from-wa.ensures in
    let pa = a ∙ ap (λ (i : ℕ). get_or c.args.received.now.bits i 0) odd in
    let pw = wa ∙ ap (λ (i : ℕ). get_or c.args.weights.now i 0) odd in
    let hodd = c.args.table.now.admitted.odd c.args.t c.requires in (
      rw (eq-eqb (get_or c.args.table.now.entries (2 * c.args.t) 0) 255 (sym even ∙ c.if-even-eq255.true)) (λ i. record { a = pa i; wa = pw i; b = 0; wb = 0 }),
      record { a = rw pa (c.args.received.now.each.at _); b = omega arith; wa = omega (arith, wa); wb = omega arith },
    )

pub bounds-received-even : goal.bounds-received-even
bounds-received-even c =
    ⊎_elim (λ h. omega (arith, c.from-even.ensures)) (λ e. absurd (c.if-even-eq255.false (c.from-even.ensures ∙ e)))
    (c.args.table.now.admitted.even c.args.t c.requires)

pub bounds-weights-even : goal.bounds-weights-even
bounds-weights-even c =
    ⊎_elim (λ h. omega (arith, c.from-even.ensures)) (λ e. absurd (c.if-even-eq255.false (c.from-even.ensures ∙ e)))
    (c.args.table.now.admitted.even c.args.t c.requires)

pub returns : goal.returns
unfolding seen_at
returns c =
    let odd = c.from-odd.ensures in
    let even = c.from-even.ensures in
    let a = c.from-a.ensures in
    let wa = c.from-wa.ensures in
    let b = c.from.ensures in
    let wb = c.from-2.ensures in
    let pa = a ∙ ap (λ (i : ℕ). get_or c.args.received.now.bits i 0) odd in
    let pw = wa ∙ ap (λ (i : ℕ). get_or c.args.weights.now i 0) odd in
    let pb = b ∙ ap (λ (i : ℕ). get_or c.args.received.now.bits i 0) even in
    let pv = wb ∙ ap (λ (i : ℕ). get_or c.args.weights.now i 0) even in
    let hodd = c.args.table.now.admitted.odd c.args.t c.requires in
    let left : get_or c.args.table.now.entries (2 * c.args.t) 0 ≡ 255 → ⊥ = λ e. c.if-even-eq255.false (even ∙ e) in
    let heven : get_or c.args.table.now.entries (2 * c.args.t) 0 < 176 =
    ⊎_elim (λ h. h) (λ e. absurd (left e)) (c.args.table.now.admitted.even c.args.t c.requires) in (
      rw (ne_eqb (get_or c.args.table.now.entries (2 * c.args.t) 0) 255 left) (λ i. record { a = pa i; wa = pw i; b = pb i; wb = pv i }),
      record { a = rw pa (c.args.received.now.each.at _); b = rw pb (c.args.received.now.each.at _); wa = omega (arith, wa); wb = omega (arith, wb) },
    )
