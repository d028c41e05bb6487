-- How many frames of a number x are pending, were kept by a script, were handed on, were given back. Assumes nothing.
use Rattle.std.specs.Prelude.{cond, List, [], ◌∷◌, ℕ, ◌+◌, eqb, Option, Some, None, Result, Ok, Err}
use Rattle.merger_rules.specs.declared.Held.{Held}
use Rattle.merger_rules.specs.declared.Freed.{Freed}
use Rattle.merger_rules.specs.declared.Position.{Position}
use Rattle.merger_rules.specs.declared.Keeping.{Keeping}
use Rattle.merger_rules.specs.declared.Keeping.TheVariants.{Kept, Double, Late}
use Rattle.merger_rules.specs.declared.Release.{Release}
use Rattle.merger_rules.specs.Merging.{View, push_of, release_of}
use Rattle.merger_rules.specs.Scripts.{Call, after, push, release}
use Rattle.bits.specs.declared.Refusal.{Refusal}

abbrev pub one : ℕ → ℕ → ℕ
one x n = cond (eqb n x) 1 0

abbrev pub in_place : ℕ → Option Held → ℕ
in_place x None = 0
in_place x (Some h) = one x h.number

abbrev pub in_free : ℕ → Option ℕ → ℕ
in_free x None = 0
in_free x (Some n) = one x n

unfoldable pub pending_of : ℕ → List Position → ℕ
pending_of x [] = 0
pending_of x (p ∷ ps) = in_place x p.primary + in_place x p.alternate + pending_of x ps

unfoldable pub released_of : ℕ → List Release → ℕ
released_of x [] = 0
released_of x (r ∷ rs) = one x r.number + released_of x rs

abbrev pub kept_by : ℕ → Held → Result Keeping Refusal → ℕ
kept_by x h (Ok Kept) = one x h.number
kept_by x h (Ok Double) = 0
kept_by x h (Ok Late) = 0
kept_by x h (Err r) = 0

abbrev pub kept_at : ℕ → Call → View → ℕ
kept_at x (push s h) v = kept_by x h (push_of s h v).answer
kept_at x (release s₀ s₁ flush) v = 0

unfoldable pub kept_of : ℕ → List Call → View → ℕ
kept_of x [] v = 0
kept_of x (c ∷ cs) v = kept_at x c v + kept_of x cs (after c v)

abbrev pub in_freed : ℕ → Freed → ℕ
in_freed x f = in_free x f.primary + in_free x f.alternate

abbrev pub freed_at : ℕ → Call → View → ℕ
freed_at x (push s h) v = 0
freed_at x (release s₀ s₁ flush) v = in_freed x (release_of s₀ s₁ flush v).freed

unfoldable pub freed_in : ℕ → List Call → View → ℕ
freed_in x [] v = 0
freed_in x (c ∷ cs) v = freed_at x c v + freed_in x cs (after c v)
