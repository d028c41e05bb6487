-- The frames that a script releases, with their own offsets; and the frames that are written for them.
-- Assumes nothing.
use Rattle.std.proofs.Common.{Option, Some, None}
use mathlib.Core.Path.{◌≡◌, refl, sym, ap, ◌∙◌}
use mathlib.Core.Bool.{cond}
use mathlib.Core.List.{List, [], ◌∷◌, ◌++◌, append_assoc}
use Prim.Native.Nat.{ℕ, ◌<◌}
use lib.ListN.{length, get_or}
use Rattle.journal_rules.specs.Gaps.{Framed}
use Rattle.merger_rules.specs.Merging.{View, choice_of, snapped, push_of, release_of}
use Rattle.merger_rules.specs.Offsets.{Advances}
use Rattle.merger_rules.specs.Scripts.{push, release, given, releases, left}
use Rattle.merger_rules.specs.declared.Chosen.{Chosen}
use Rattle.merger_rules.specs.declared.Position.{Position}
use Rattle.merger_rules.specs.declared.Release.{Release}
use Rattle.merger_rules.specs.declared.Released.{Released}
use Rattle.merger_rules.specs.declared.Released.TheVariants.{Frame, PassedOver, NothingReady}
use Rattle.merger_rules.proofs.Rising.{advances, push_last}
use Rattle.recorder_rules.specs.Makings.{Trying, framed_of}
use Rattle.sync_call_rules.specs.Calls.{Got}
use Rattle.merging_rules.specs.Piles.{Deed, called, gave_way, calls_in}
use Rattle.merging_rules.specs.Orders.{no_got}

pub record Owned : Type 0 where
  pub own : ℕ
  pub release : Release

-- ---- of a script

abbrev pub chosen_at : List Position → Option Chosen
chosen_at [] = None
chosen_at (p ∷ ps) = choice_of p

abbrev pub own_of : Option Chosen → ℕ
own_of None = 0
own_of (Some c) = c.frame.figures.offset

abbrev pub own_given : Released → Option Chosen → List Owned
own_given (Frame r) c = record { own = own_of c; release = r } ∷ []
own_given PassedOver c = []
own_given NothingReady c = []

abbrev pub owned : List Deed → View → List Owned
owned [] v = []
owned (called (push s h) ∷ cs) v = owned cs (push_of s h v).next
owned (called (release a b flush) ∷ cs) v = own_given (release_of a b flush v).answer (chosen_at v.pending) ++ owned cs (release_of a b flush v).next
owned (gave_way s h ∷ cs) v = owned cs v

pub owned_append : (cs ds : List Deed) (v : View) → owned (cs ++ ds) v ≡ owned cs v ++ owned ds (left (calls_in cs) v)
owned_append [] ds v = refl
owned_append (called (push s h) ∷ cs) ds v = owned_append cs ds (push_of s h v).next
owned_append (gave_way s h ∷ cs) ds v = owned_append cs ds v
owned_append (called (release a b flush) ∷ cs) ds v =
    let y = release_of a b flush v in
    let o = own_given y.answer (chosen_at v.pending) in
    ap (λ (l : List Owned). o ++ l) (owned_append cs ds y.next) ∙ sym (append_assoc o (owned cs y.next) (owned ds (left (calls_in cs) y.next)))

-- they are its releases
abbrev pub releases_in : List Owned → List Release
releases_in [] = []
releases_in (o ∷ os) = o.release ∷ releases_in os

given_in : (a : Released) (c : Option Chosen) (os : List Owned) → releases_in (own_given a c ++ os) ≡ given a ++ releases_in os
given_in (Frame r) c os = refl
given_in PassedOver c os = refl
given_in NothingReady c os = refl

pub releases_in_lem : (cs : List Deed) (v : View) → releases_in (owned cs v) ≡ releases (calls_in cs) v
releases_in_lem [] v = refl
releases_in_lem (called (push s h) ∷ cs) v = releases_in_lem cs (push_of s h v).next
releases_in_lem (gave_way s h ∷ cs) v = releases_in_lem cs v
releases_in_lem (called (release a b flush) ∷ cs) v =
    let y = release_of a b flush v in
    given_in y.answer (chosen_at v.pending) (owned cs y.next) ∙ ap (λ (l : List Release). given y.answer ++ l) (releases_in_lem cs y.next)

-- what was released last
abbrev pub last_by : Option ℕ → List Owned → Option ℕ
last_by last [] = last
last_by last (o ∷ os) = last_by (Some o.release.figures.offset) os

last_given : (a : Released) (c : Option Chosen) (last next : Option ℕ) (os : List Owned) → Advances last a next → last_by next os ≡ last_by last (own_given a c ++ os)
last_given (Frame r) c last next os w = ap (λ (k : Option ℕ). last_by k os) w.1
last_given PassedOver c last next os w = ap (λ (k : Option ℕ). last_by k os) w
last_given NothingReady c last next os w = ap (λ (k : Option ℕ). last_by k os) w

pub left_last : (cs : List Deed) (v : View) → (left (calls_in cs) v).last ≡ last_by v.last (owned cs v)
left_last [] v = refl
left_last (called (push s h) ∷ cs) v = left_last cs (push_of s h v).next ∙ ap (λ (k : Option ℕ). last_by k (owned cs (push_of s h v).next)) (push_last s h v)
left_last (gave_way s h ∷ cs) v = left_last cs v
left_last (called (release a b flush) ∷ cs) v =
    let y = release_of a b flush v in
    left_last cs y.next ∙ last_given y.answer (chosen_at v.pending) v.last y.next.last (owned cs y.next) (advances a b flush v)

-- ---- what is written for them

module _ (try : Trying) (gs hs : List Got) where
  pub record OwnFrom (l : List Got) (last : Option ℕ) (o : Owned) (f : Framed) : Type 0 where
    pub number : ℕ
    pub sent : number < length l
    pub envelope : f.bytes ≡ (get_or l number no_got).envelope
    pub figures : f.figures ≡ (framed_of try (get_or l number no_got)).figures
    pub own : o.own ≡ (get_or l number no_got).head.offset
    pub moved : o.release.figures.offset ≡ snapped last o.own
    pub place : f.place ≡ o.release.figures.offset

  abbrev pub AsOwned : Option ℕ → List Owned → List Framed → Type 0
  AsOwned last [] [] = Unit {0}
  AsOwned last [] (f ∷ fs) = ⊥
  AsOwned last (o ∷ os) [] = ⊥
  AsOwned last (o ∷ os) (f ∷ fs) = OwnFrom (cond o.release.alternate hs gs) last o f × AsOwned (Some o.release.figures.offset) os fs

  pub out_append : (last : Option ℕ) (os ps : List Owned) (fs ts : List Framed) → AsOwned last os fs → AsOwned (last_by last os) ps ts → AsOwned last (os ++ ps) (fs ++ ts)
  out_append last [] ps [] ts a b = b
  out_append last [] ps (f ∷ fs) ts a b = absurd a
  out_append last (o ∷ os) ps [] ts a b = absurd a
  out_append last (o ∷ os) ps (f ∷ fs) ts a b = (a.0, out_append (Some o.release.figures.offset) os ps fs ts a.1 b)
