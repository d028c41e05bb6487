-- Demand 1 of the merger and of the journal.
-- Assumes nothing.
use Rattle.std.proofs.Common.{Result, Ok, Err}
use mathlib.Core.Bool.{Bool, true, false, true≢false, cond, not, ◌&&◌, ◌||◌}
use mathlib.Core.List.{List, [], ◌∷◌, ◌++◌}
use mathlib.Core.Path.{◌≡◌, refl, sym, ap, ◌∙◌}
use Prim.Native.Nat.{ℕ, suc, ◌^◌}
use native.Mathlib.Nat.{zero-lt-suc}
use lib.Dec.{eqb, leb, ltb, leb-suc-suc}
use lib.ListN.{length, get_or, set}
use borrow.Author.Tests.{lt-ltb}
use Rattle.bits.specs.declared.Refusal.TheVariants.{Stream, Offset, Positions, Size, Record}
use Rattle.journal_rules.specs.Record.{allowed, size_fits, entry_at, record_of, left_by, write_answer, Wrote}
use Rattle.journal_rules.specs.Reading.{is_frame, is_gap, offset_in, length_in, figures_in, read_of}
use Rattle.journal_rules.specs.declared.Body.{Body}
use Rattle.journal_rules.specs.declared.Body.TheVariants.{Frame, Gap}
use Rattle.journal_rules.specs.declared.Entry.{Entry}
use Rattle.merger_rules.specs.Merging.{View, view, is_late, is_near, held_of, home_of, order_of, taken, filled, alone, no_position, insert_at, PushStep, push_step, put_of, push_of}
use Rattle.merger.specs.States.{view_of, PushGave}
use Rattle.merger.specs.declared.AfterPush.{AfterPush}
use Rattle.merger_rules.specs.declared.Held.{Held}
use Rattle.merger.specs.declared.Merger.{Merger}
use Rattle.merger_rules.specs.declared.Position.{Position}
use Rattle.merger_rules.specs.declared.Keeping.{Keeping}
use Rattle.merger_rules.specs.declared.Keeping.TheVariants.{Kept, Double, Late}
use Rattle.sync_rules.specs.declared.Head.{Head}
use Rattle.demands.specs.Demand1.{test, bad_stream, high_offset, late, belongs, first_number, Refuses, MergerRefuses, says_late, number_in_keeping, number_in_writing, number_in_reading, bad_record, envelope_tests, WritingRefuses, ReadingRefuses}
use Rattle.bits.specs.declared.Refusal.{Refusal}

-- ---- the merger

-- a frame belongs to a position exactly where it has a home
home_belongs : (o : ℕ) (ps : List Position) → ltb (home_of o ps) (length ps) ≡ belongs o ps
unfolding home_of belongs
home_belongs o [] = refl
home_belongs o (p ∷ ps) = by (is_near o p.key) (home_belongs o ps)
  where
    by : (b : Bool) → ltb (home_of o ps) (length ps) ≡ belongs o ps → ltb (cond b 0 (suc (home_of o ps))) (suc (length ps)) ≡ (b || belongs o ps)
    by true e = lt-ltb 0 (suc (length ps)) (zero-lt-suc (length ps))
    by false e = leb-suc-suc (suc (home_of o ps)) (length ps) ∙ e

-- a frame that is put: it has a home (h), whose place is taken (t), or it has none and 16 positions are pending (f)
abbrev PutBy : Bool → Bool → Bool → View → View → View → PushStep
PutBy h t f v w u = cond h (cond t (push_step (Ok Double) v) (push_step (Ok Kept) w)) (cond f (push_step (Err Positions) v) (push_step (Ok Kept) u))

abbrev PushedBy : Bool → Bool → Bool → View → PushStep → PushStep
PushedBy a b c v put = cond a (push_step (Err Stream) v) (cond b (push_step (Err Offset) v) (cond c (push_step (Ok Late) v) put))

merger_cases : (a b c h t f : Bool) (v w u : View)
    → number_in_keeping (PushedBy a b c v (PutBy h t f v w u)).answer ≡ first_number (test 7 a ∷ test 8 b ∷ test 0 c ∷ test 9 (f && not h) ∷ [])
unfolding first_number
merger_cases true b c h t f v w u = refl
merger_cases false true c h t f v w u = refl
merger_cases false false true h t f v w u = refl
merger_cases false false false true true true v w u = refl
merger_cases false false false true true false v w u = refl
merger_cases false false false true false true v w u = refl
merger_cases false false false true false false v w u = refl
merger_cases false false false false t true v w u = refl
merger_cases false false false false t false v w u = refl

put_not_late : (h t f : Bool) (v w u : View) → says_late (PutBy h t f v w u).answer ≡ false
put_not_late true true f v w u = refl
put_not_late true false f v w u = refl
put_not_late false t true v w u = refl
put_not_late false t false v w u = refl

late_cases : (a b c : Bool) (v : View) (put : PushStep) → says_late put.answer ≡ false
    → says_late (PushedBy a b c v put).answer ≡ (eqb (first_number (test 7 a ∷ test 8 b ∷ [])) 0 && c)
unfolding first_number
late_cases true b c v put n = refl
late_cases false true c v put n = refl
late_cases false false true v put n = refl
late_cases false false false v put n = n

-- what is kept is neither refused nor late
kept_number : (a : Result Keeping Refusal) → a ≡ Ok Kept → number_in_keeping a ≡ 0
kept_number a e = ap number_in_keeping e

kept_not_late : (a : Result Keeping Refusal) → says_late a ≡ true → a ≡ Ok Kept → ⊥
kept_not_late a l e = let z : false ≡ true = sym (ap says_late e) ∙ l in true≢false (sym z)

module _ (m : Merger) (stream : ℕ) (figures : Head) (number : ℕ) (check : Bool) (r : AfterPush)
    (gave : PushGave m (push_of stream (held_of figures number check) (view_of m)) r) where
  abbrev Was : View
  Was = view_of m

  abbrev At : ℕ
  At = figures.offset

  abbrev New : Held
  New = held_of figures number check

  abbrev Home : ℕ
  Home = home_of At Was.pending

  abbrev HasHome : Bool
  HasHome = ltb Home (length Was.pending)

  abbrev Taken : Bool
  Taken = taken stream (get_or Was.pending Home no_position)

  abbrev Full : Bool
  Full = leb 16 (length Was.pending)

  abbrev Joined : View
  Joined = view (set Was.pending Home (filled stream New (get_or Was.pending Home no_position))) Was.last

  abbrev Opened : View
  Opened = view (insert_at (order_of At Was.pending) (alone stream New) Was.pending) Was.last

  pub merger_push : MergerRefuses m stream At r
  merger_push =
      record {
        refuses =
            record {
              exactly =
                  ap number_in_keeping gave.answers
                  ∙ merger_cases (ltb 1 stream) (ltb (2 ^ 42) At) (is_late m.last At) HasHome Taken Full Was Joined Opened
                  ∙ ap (λ (h : Bool). first_number (bad_stream stream ∷ high_offset At ∷ late m.last At ∷ test 9 (Full && not h) ∷ [])) (home_belongs At Was.pending);
              as_before = λ z. gave.kept (λ k. z (kept_number r.answer k));
            };
        says_late_lem =
            ap says_late gave.answers
            ∙ late_cases (ltb 1 stream) (ltb (2 ^ 42) At) (is_late m.last At) Was (put_of stream New Was) (put_not_late HasHome Taken Full Was Joined Opened);
        late_back = λ l. gave.kept (kept_not_late r.answer l);
      }

-- ---- the journal

write_cases : (body : Body) (envelope : List ℕ) (good : Bool) (new old : List ℕ)
    → Refuses (envelope_tests body envelope ++ (test 12 (not good) ∷ []))
    (number_in_writing (cond (size_fits body (length envelope)) (cond good (Ok tt) (Err Record)) (Err Size)))
    (left_by (cond (size_fits body (length envelope)) (cond good (Ok tt) (Err Record)) (Err Size)) new old ≡ old)
unfolding first_number
write_cases (Frame f) envelope good new old = by (eqb (length envelope) 48) good
  where
    by : (a g : Bool)
        → Refuses (test 5 (not a) ∷ test 12 (not g) ∷ []) (number_in_writing (cond a (cond g (Ok tt) (Err Record)) (Err Size)))
        (left_by (cond a (cond g (Ok tt) (Err Record)) (Err Size)) new old ≡ old)
    by true true = record { exactly = refl; as_before = λ h. absurd (h refl) }
    by true false = record { exactly = refl; as_before = λ h. refl }
    by false g = record { exactly = refl; as_before = λ h. refl }
write_cases (Gap n) envelope good new old = by good
  where
    by : (g : Bool)
        → Refuses (test 12 (not g) ∷ []) (number_in_writing (cond g (Ok tt) (Err Record))) (left_by (cond g (Ok tt) (Err Record)) new old ≡ old)
    by true = record { exactly = refl; as_before = λ h. absurd (h refl) }
    by false = record { exactly = refl; as_before = λ h. refl }

pub write : (entry : Entry) (envelope bytes : List ℕ) (answer : Result Unit Refusal) (bytes' : List ℕ)
    → Wrote 64 entry envelope bytes answer bytes' → WritingRefuses entry envelope bytes answer bytes'
write entry envelope bytes answer bytes' wrote =
    record {
      exactly = ap number_in_writing wrote.answered ∙ by_cases.exactly;
      as_before = λ h. wrote.left ∙ by_cases.as_before (λ z. h (ap number_in_writing wrote.answered ∙ z));
    }
  where
    by_cases : Refuses (envelope_tests entry.body envelope ++ (bad_record bytes (allowed entry) ∷ [])) (number_in_writing (write_answer 64 entry envelope bytes))
        (left_by (write_answer 64 entry envelope bytes) (record_of entry envelope) bytes ≡ bytes)
    by_cases = write_cases entry.body envelope (eqb (length bytes) 64 && allowed entry) (record_of entry envelope) bytes

read_cases : (long frame-kind gap-kind frame gap : Bool) (e d : Entry)
    → number_in_reading (cond long (cond frame-kind (cond frame (Ok e) (Err Record)) (cond gap-kind (cond gap (Ok d) (Err Record)) (Err Record))) (Err Record))
    ≡ first_number (test 12 (not (long && cond frame-kind frame (gap-kind && gap))) ∷ [])
unfolding first_number
read_cases false k l f g e d = refl
read_cases true true l true g e d = refl
read_cases true true l false g e d = refl
read_cases true false true f true e d = refl
read_cases true false true f false e d = refl
read_cases true false false f g e d = refl

pub read : (bytes : List ℕ) → ReadingRefuses bytes (read_of 64 bytes)
read bytes =
    read_cases (eqb (length bytes) 64) (eqb (get_or bytes 8 0) 0) (eqb (get_or bytes 8 0) 1) (is_frame bytes) (is_gap bytes)
    (entry_at (offset_in bytes) (Frame (figures_in bytes))) (entry_at (offset_in bytes) (Gap (length_in bytes)))
