-- What an engine may say to a call or a job, and what it is then.
use Rattle.std.specs.Prelude.{◌≡◌, ◌≢◌, ◌⊎◌, ℕ, true, ◌+◌, ◌-◌, ◌^◌, ◌<◌, ◌≤◌, List, [], ◌∷◌, ◌++◌, length, min, slice_get, Some}
use Rattle.std.specs.List.{concat}
use Rattle.vx_model.specs.Answer.{Answer, Shows, Accepts, WrongSize, OutOfRange, answer_of}
use Rattle.vx_model.specs.declared.call.Call.{Call}
use Rattle.vx_model.specs.declared.call.Call.TheVariants.{Write as WriteBlocks}
use Rattle.vx_model.specs.declared.call.Reply.{Reply}
use Rattle.vx_model.specs.declared.call.Reply.TheVariants.{Got, Done, Logged, Refused}
use Rattle.vx_model.specs.declared.call.Update.{Update}
use Rattle.vx_model.specs.declared.history.Line.{Line}
use Rattle.vx_model.specs.declared.no.No.{No}
use Rattle.vx_model.specs.declared.no.No.TheVariants as no
use Rattle.vx_model.specs.declared.no.Counted.TheVariants as counted
use Rattle.vx_turn.specs.declared.ask.Ask.{Ask}
use Rattle.vx_turn.specs.declared.ask.Ask.TheVariants.{Ordered, Charged}
use Rattle.vx_turn.specs.declared.ask.Said.{Said}
use Rattle.vx_turn.specs.declared.ask.Said.TheVariants.{Replied, Worked}
use Rattle.vx_turn.specs.declared.ask.Job.{Job}
use Rattle.vx_turn.specs.declared.ask.Job.TheVariants.{Apply, Fetch, Acked, Wait}
use Rattle.vx_turn.specs.declared.ask.JobReply.{JobReply}
use Rattle.vx_turn.specs.declared.ask.JobReply.TheVariants as job
use Rattle.vx_turn.specs.declared.meaning.Counts.{Counts}
use Rattle.vx_turn.specs.declared.meaning.State.{State}
use Rattle.vx_turn.specs.Volumes.{Volumes, as_content, volumes_written}

abbrev pub LiesAmong : {A : Type 0} → A → List A → Type 0
LiesAmong x xs = (i : ℕ) × (slice_get xs i ≡ Some x)

abbrev pub Rises : Counts → Counts → Type 0
Rises c d = (c.faults ≤ d.faults) × (c.held ≤ d.held)

-- a count rose, or stands at the greatest value that a count has, where it stays
abbrev pub CountRose : ℕ → ℕ → Type 0
CountRose before after = (before < after) ⊎ (2 ^ 64 - 1 ≤ after)

-- a link that the job names is one of so many
abbrev pub NamesLink : ℕ → Job → Type 0
NamesLink links (Acked link net stored) = link < links
NamesLink links j = Unit {0}

-- 6 or 7
abbrev pub IsFault : No → Type 0
IsFault no.Down = Unit {0}
IsFault (no.Device disk) = Unit {0}
IsFault cause = ⊥

-- 20
abbrev pub IsHalt : No → Type 0
IsHalt (no.Halted disk) = Unit {0}
IsHalt cause = ⊥

-- 12, 13, 14, or 19 for a number: the write is held
abbrev pub IsHoldCause : No → Type 0
IsHoldCause (no.LogFull link) = Unit {0}
IsHoldCause (no.Stalled link) = Unit {0}
IsHoldCause (no.LinkDown link) = Unit {0}
IsHoldCause (no.Limit counted.Number most) = Unit {0}
IsHoldCause cause = ⊥

-- 19 for a number
abbrev pub IsNumberLimit : No → Type 0
IsNumberLimit (no.Limit counted.Number most) = Unit {0}
IsNumberLimit cause = ⊥

-- 22
abbrev pub IsDamage : No → Type 0
IsDamage (no.Damaged unit block stored computed) = Unit {0}
IsDamage cause = ⊥

-- 19 for a number, or 22
abbrev pub IsBound : No → Type 0
IsBound (no.Limit counted.Number most) = Unit {0}
IsBound (no.Damaged unit block stored computed) = Unit {0}
IsBound cause = ⊥

abbrev pub IsUnknown : No → Type 0
IsUnknown (no.Unknown what) = Unit {0}
IsUnknown cause = ⊥

abbrev pub IsWrite : Call → Type 0
IsWrite (WriteBlocks vol start bytes) = Unit {0}
IsWrite call = ⊥

-- the reply is 20
abbrev pub IsStop : Reply → Type 0
IsStop (Refused cause) = IsHalt cause
IsStop reply = ⊥

-- why else a call is refused that is within its bounds: 6 and 7 only where the count of faults rose, and 12, 13, 14 and 19 for a number
-- only to writes, where the count of held writes rose
abbrev pub RefusesCall : Call → Counts → Counts → No → Type 0
RefusesCall call before after cause = (IsFault cause × CountRose before.faults after.faults) ⊎ (IsHoldCause cause × IsWrite call × CountRose before.held after.held)

-- the reply to a call that is not 20, by what the content alone gives: blocks or the next number, else a refusal with its cause. 3 and 4
-- come exactly where the content gives them
abbrev pub RepliesBy : Answer → ℕ → Call → Reply → Counts → Counts → Type 0
RepliesBy (Shows blocks) head call (Got bytes) before after = bytes ≡ concat blocks
RepliesBy (Shows blocks) head call (Refused cause) before after = RefusesCall call before after cause
RepliesBy Accepts head call (Done n) before after = n ≡ head + 1
RepliesBy Accepts head call (Logged n) before after = n ≡ head + 1
RepliesBy Accepts head call (Refused cause) before after = RefusesCall call before after cause
RepliesBy WrongSize head call (Refused no.Size) before after = Unit {0}
RepliesBy OutOfRange head call (Refused no.Range) before after = Unit {0}
RepliesBy answer head call reply before after = ⊥

-- a call is replied to, with 20 only where the engine was stopped, and a job gets a job's reply
abbrev pub RepliesTo : Type 0 → Volumes → ℕ → ℕ → Ask → Said → Counts → Counts → Type 0
RepliesTo stopped volumes ring head (Ordered call) (Replied reply) before after = (IsStop reply × stopped) ⊎ RepliesBy (answer_of (as_content volumes) ring call) head call reply before after
RepliesTo stopped volumes ring head (Charged j) (Worked reply into) before after = Unit {0}
RepliesTo stopped volumes ring head ask said before after = ⊥

-- a logged write is put into the volumes, and nothing else changes them
abbrev pub volumes_after : Volumes → Ask → Said → Volumes
volumes_after vs (Ordered (WriteBlocks vol start bytes)) (Replied (Done n)) = volumes_written vs (record { volume = vol; start = start; bytes = bytes })
volumes_after vs (Ordered (WriteBlocks vol start bytes)) (Replied (Logged n)) = volumes_written vs (record { volume = vol; start = start; bytes = bytes })
volumes_after vs ask said = vs

-- a logged write has the last number
abbrev pub head_after : ℕ → Said → ℕ
head_after head (Replied (Done n)) = n
head_after head (Replied (Logged n)) = n
head_after head said = head

-- the call logged this update on the line
abbrev pub LogsUpdate : Line → Ask → Said → Update → Type 0
LogsUpdate l (Ordered (WriteBlocks vol start bytes)) (Replied (Done n)) u = u ≡ record { line = l; number = n; vol = vol; block = start; bytes = bytes }
LogsUpdate l (Ordered (WriteBlocks vol start bytes)) (Replied (Logged n)) u = u ≡ record { line = l; number = n; vol = vol; block = start; bytes = bytes }
LogsUpdate l ask said u = ⊥

-- why a job is refused: 6 and 7 only where the count of faults rose, 20 only where the engine was halted before, 19 for a number
abbrev pub Caused : State → No → State → Type 0
Caused s cause t = (IsFault cause × CountRose s.counts.faults t.counts.faults) ⊎ ((IsHalt cause × (s.halted ≡ true)) ⊎ IsNumberLimit cause)

-- a fetch is refused with 22 too, as it reads
abbrev pub FetchEnds : State → No → State → Type 0
FetchEnds s cause t = Caused s cause t ⊎ IsDamage cause

-- the number was logged, and neither it nor any before it is kept
abbrev pub IsGone : State → ℕ → Type 0
IsGone s n = (n ≤ s.head) × ((u : Update) → LiesAmong u s.kept → n < u.number)

-- the least number that is kept, or one above the last logged one where nothing is
abbrev pub IsLow : State → ℕ → Type 0
IsLow s low = ((s.kept ≡ []) × (low ≡ s.head + 1)) ⊎ (((u : Update) × LiesAmong u s.kept × (u.number ≡ low)) × ((u : Update) → LiesAmong u s.kept → low ≤ u.number))

-- a wait is refused with 15 for its number, with 1 only above the last logged number, or as any job
abbrev pub WaitEnds : State → ℕ → No → State → Type 0
WaitEnds s n cause t = Caused s cause t ⊎ ((cause ≡ no.Unconfirmed n) ⊎ (IsUnknown cause × (s.head < n)))

-- what a job may be answered
abbrev pub SaysJob : State → Job → JobReply → Update → State → Type 0
SaysJob s (Apply count) (job.Done m) into t = (s.applied < s.head) × (m ≡ min s.head (s.applied + count)) × (t.applied ≡ m)
SaysJob s (Apply count) job.Nothing into t = s.head ≤ s.applied
SaysJob s (Apply count) (job.Refused cause) into t = Caused s cause t
SaysJob s (Fetch n) (job.Done m) into t = (m ≡ n) × (into.number ≡ n) × (into.line ≡ s.line) × LiesAmong into s.kept
SaysJob s (Fetch n) job.Nothing into t = s.head < n
SaysJob s (Fetch n) (job.Gone low) into t = IsGone s n × IsLow s low
SaysJob s (Fetch n) (job.Refused cause) into t = FetchEnds s cause t × (IsGone s n → ⊥)
SaysJob s (Acked link net stored) (job.Done m) into t = slice_get t.nets link ≡ Some m
SaysJob s (Acked link net stored) (job.Refused cause) into t = Caused s cause t
SaysJob s (Wait n) (job.Done m) into t = m ≡ n
SaysJob s (Wait n) job.Nothing into t = Unit {0}
SaysJob s (Wait n) (job.Refused cause) into t = WaitEnds s n cause t
SaysJob s j reply into t = ⊥

abbrev pub TellsJob : State → Ask → Said → State → Type 0
TellsJob s (Charged j) (Worked reply into) t = SaysJob s j reply into t
TellsJob s ask said t = Unit {0}

-- an acknowledgement may raise what its link's peer has received, and nothing else changes that of a link
abbrev pub Nets : Ask → List ℕ → List ℕ → Type 0
Nets (Charged (Acked link net stored)) xs ys = (length ys ≡ length xs) × ((i n m : ℕ) → slice_get xs i ≡ Some n → slice_get ys i ≡ Some m → (n ≤ m) × (i ≢ link → m ≡ n))
Nets ask xs ys = ys ≡ xs

-- the count of held writes rises only where a write is held
abbrev pub HoldsBy : Ask → Said → (before after : ℕ) → Type 0
HoldsBy (Ordered call) (Replied (Refused cause)) before after = (after ≡ before) ⊎ (IsHoldCause cause × IsWrite call)
HoldsBy ask said before after = after ≡ before

-- the engine was s, was asked this, said that, and is t
pub record EngineActs (s : State) (ask : Ask) (said : Said) (t : State) : Type 0 where
  pub rises : Rises s.counts t.counts
  pub held : HoldsBy ask said s.counts.held t.counts.held
  pub replied : RepliesTo (s.halted ≡ true) s.volumes s.ring s.head ask said s.counts t.counts
  pub tells : TellsJob s ask said t
  pub volumes_is : t.volumes ≡ volumes_after s.volumes ask said
  pub ring_is : t.ring ≡ s.ring
  pub head_is : t.head ≡ head_after s.head said
  pub applied : (s.applied ≤ t.applied) × (t.applied ≤ t.head)
  pub line_is : t.line ≡ s.line
  pub keeps : (u : Update) → LiesAmong u t.kept → LiesAmong u s.kept ⊎ LogsUpdate s.line ask said u
  pub logged : (u : Update) → LogsUpdate s.line ask said u → LiesAmong u t.kept
  pub nets : Nets ask s.nets t.nets
  pub halts : t.halted ≡ true → (s.halted ≡ true) ⊎ CountRose s.counts.faults t.counts.faults
  pub trail_is : t.trail ≡ s.trail ++ (ask, said) ∷ []
