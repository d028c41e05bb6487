-- Histories of steps, each on the recorder that the one before handed back.
-- Assumes nothing.
use Rattle.std.specs.Prelude.{◌≡◌, List, [], ◌∷◌, ◌++◌, ℕ, ◌+◌, take, drop}
use Rattle.sync_call_rules.specs.Calls.{Got, shown_as}
use Rattle.sync_rules.specs.State.{Input}
use Rattle.sync_rules.specs.Demand.{sent_by}
use Rattle.recorder_rules.specs.declared.Recorder.{Recorder}
use Rattle.recorder_rules.specs.declared.Stepped.{Stepped}
use Rattle.recorder_rules.specs.Makings.{Making}
use Rattle.recorder_rules.specs.Steps.{dibits_of, SteppedBy}

-- one step: the packed bytes that it was lent and from which dibit on, the lent memory before and after, and the answer
pub record Called : Type 0 where
  pub bytes : List ℕ
  pub from : ℕ
  pub out : List ℕ
  pub left : List ℕ
  pub answer : Stepped

-- the dibits that it was lent
abbrev pub lent_to : Called → List Input
lent_to c = dibits_of c.bytes c.from

-- the step c on the recorder r is as `step` promises it
abbrev pub Meets : Making → Recorder → Called → Type 0
Meets p r c = SteppedBy p c.out c.left (lent_to c) r c.answer

-- the steps cs, the first on the recorder r and each other on the one that the step before handed back
unfoldable pub History : Making → Recorder → List Called → Type 0
History p r [] = r ≡ r
History p r (c ∷ cs) = Meets p r c × History p c.answer.next cs

-- the recorder that the last step handed back
unfoldable pub state_of : Recorder → List Called → Recorder
state_of r [] = r
state_of r (c ∷ cs) = state_of c.answer.next cs

-- the dibits that were pushed: of each step those that it used
unfoldable pub pushed_by : List Called → List Input
pushed_by [] = []
pushed_by (c ∷ cs) = take c.answer.used (lent_to c) ++ pushed_by cs

-- the bytes handed out: of each step as many as it says
unfoldable pub handed_out : List Called → List ℕ
handed_out [] = []
handed_out (c ∷ cs) = take c.answer.size c.left ++ handed_out cs

-- how many frames were accepted
unfoldable pub accepted_by : List Called → ℕ
accepted_by [] = 0
accepted_by (c ∷ cs) = c.answer.accepted + accepted_by cs

-- the frames that the synchroniser sends for these dibits from the start on
abbrev pub frames_for : List Input → List Got
frames_for xs = shown_as (sent_by [] xs)

-- ---- an input, cut anywhere

-- each step is lent the next dibits of ds, however many, and the next step goes on behind those that were used
unfoldable pub Through : List Input → List Called → Type 0
Through ds [] = ds ≡ ds
Through ds (c ∷ cs) = ((later : List Input) × (ds ≡ lent_to c ++ later)) × Through (drop c.answer.used ds) cs

-- those that no step used
unfoldable pub rest_of : List Input → List Called → List Input
rest_of ds [] = ds
rest_of ds (c ∷ cs) = rest_of (drop c.answer.used ds) cs

-- ---- for programs: what their loops promise

-- a step was made on r with these bytes from that dibit on: it used n dibits, and accepted so many frames, and handed back s
pub record Made (p : Making) (r : Recorder) (bytes : List ℕ) (from used accepted : ℕ) (s : Recorder) : Type 0 where
  pub call : Called
  pub lent : lent_to call ≡ dibits_of bytes from
  pub takes : call.answer.used ≡ used
  pub counts : call.answer.accepted ≡ accepted
  pub next : call.answer.next ≡ s
  pub meets : Meets p r call

-- steps were made that lead from r to s, go through the dibits ds up to the rest, and accepted so many frames
pub record Gone (p : Making) (r : Recorder) (ds : List Input) (s : Recorder) (rest : List Input) (accepted : ℕ) : Type 0 where
  pub steps : List Called
  pub history : History p r steps
  pub through : Through ds steps
  pub there : state_of r steps ≡ s
  pub left : rest_of ds steps ≡ rest
  pub counts : accepted_by steps ≡ accepted
