-- One trial after the other, as the code tries them: the first speech that is heard is handed back.
-- Assumes nothing.
use Rattle.std.proofs.Common.{Option, None, Some}
use Rattle.std.specs.Option.{option_or, MatchOption}
use mathlib.Core.List.{List, [], ◌∷◌, ◌++◌}
use mathlib.Core.Path.{◌≡◌, refl, sym, ap, ◌∙◌}
use Rattle.voice_rules.specs.declared.Speech.{Speech}
use Rattle.voice_rules.specs.Trial.{Trial, Verdict, speech, fails, verdict, or_else, first_of}
use Rattle.voice_speech.specs.Heard.{speech_of, said, told}

pub told_first : (t : Trial) (ts : List Trial) → told (first_of (t ∷ ts)) ≡ option_or (said t) (told (first_of ts))
unfolding first_of
told_first t ts = go (verdict t)
  where
    go : (v : Verdict) → told (or_else t.stage v (first_of ts)) ≡ option_or (speech_of t.stage v) (told (first_of ts))
    go (speech p n) = refl
    go (fails m) = refl

pub or_assoc : (a b c : Option Speech) → option_or (option_or a b) c ≡ option_or a (option_or b c)
or_assoc None b c = refl
or_assoc (Some s) b c = refl

pub or_none : (a : Option Speech) → option_or a None ≡ a
or_none None = refl
or_none (Some s) = refl

-- two rows of trials, one after the other
pub told_append : (ts us : List Trial) → told (first_of (ts ++ us)) ≡ option_or (told (first_of ts)) (told (first_of us))
unfolding first_of
told_append [] us = refl
told_append (t ∷ ts) us = told_first t (ts ++ us) ∙ ap (option_or (said t)) (told_append ts us) ∙ sym (or_assoc (said t) (told (first_of ts)) (told (first_of us)))
    ∙ ap (λ (a : Option Speech). option_or a (told (first_of us))) (sym (told_first t ts))

-- what `or_else` gives: the first speech, or where there is none what its closure gives
pub or_else_is : {P : Type 0} (a b r : Option Speech) → MatchOption a P (λ s. r ≡ Some s) → (P → r ≡ b) → r ≡ option_or a b
or_else_is None b r h f = f h
or_else_is (Some s) b r h f = h
