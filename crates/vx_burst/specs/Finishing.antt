-- How far a burst has come.
use Rattle.std.specs.Prelude.{◌≡◌, ◌⊎◌, ℕ, suc, ◌+◌, ◌-◌, ◌<◌, ◌≤◌, ◌==◌, List, [], ◌∷◌, ◌++◌, length, map, take, slice_get, Some}
use Rattle.vx_model.specs.declared.call.Call.{Call}
use Rattle.vx_model.specs.declared.call.Reply.{Reply}
use Rattle.vx_model.specs.declared.call.Update.{Update}
use Rattle.vx_turn.specs.declared.ask.Ask.{Ask}
use Rattle.vx_turn.specs.declared.ask.Ask.TheVariants.{Ordered, Charged}
use Rattle.vx_turn.specs.declared.ask.Said.{Said}
use Rattle.vx_turn.specs.declared.ask.Said.TheVariants.{Replied, Worked}
use Rattle.vx_turn.specs.declared.ask.Job.TheVariants.{Acked, Wait}
use Rattle.vx_model.specs.declared.no.No.TheVariants as no
use Rattle.vx_model.specs.Numbers.{one_if}
use Rattle.vx_turn.specs.declared.ask.JobReply.TheVariants as job
use Rattle.vx_turn.specs.declared.meaning.Entry.{Entry}
use Rattle.vx_turn.specs.declared.meaning.State.{State}
use Rattle.vx_turn.specs.Acting.{LiesAmong, CountRose}
use Rattle.vx_turn.specs.History.{Legal, FitsHistory, HasLogged, asked, point_of, point_after}
use Rattle.vx_settle.specs.declared.peer.Stand.{Stand}
use Rattle.vx_settle.specs.Peers.{PeerGoes, LiesIn, GetsNext}
use Rattle.vx_settle.specs.Bringing.{Events, NoLimit, NoGone, HasAcked, AsksAgain, WaitsFor}
use Rattle.vx_settle.specs.declared.bringing.Ended.{Ended}
use Rattle.vx_settle.specs.declared.bringing.Ended.TheVariants as ended
use Rattle.vx_burst_threads.specs.declared.plan.Told.{Told}
use Rattle.vx_burst_threads.specs.declared.plan.Waited.{Waited}
use Rattle.vx_burst_threads.specs.declared.plan.Planned.{Planned}
use Rattle.vx_burst_threads.specs.declared.plan.Answered.{Answered}
use Rattle.vx_burst_threads.specs.declared.plan.Told.TheVariants as told
use Rattle.vx_burst_threads.specs.declared.plan.Waited.TheVariants as waited
use Rattle.vx_burst_threads.specs.Planning.{call_for, IsToldAs, IsStalled}

-- no acknowledgement of this link has a number above this one
abbrev pub NoneAbove : ℕ → ℕ → Events → Type 0
NoneAbove link net es = (n stored : ℕ) (said : Said) → LiesAmong (Charged (Acked link n stored), said) es → n ≤ net

module _ {P : Type 0} (stand : P → Stand) (root : P → P) where
  -- the peer p became q: it got the next updates of its line, each of which was logged in the history, or kept at the start
  pub record Went (start : State) (log : List Entry) (p q : P) : Type 0 where
    pub goes : PeerGoes (stand p) (stand q)
    pub got : List Update
    pub took : GetsNext (stand p) got (stand q)
    pub from : (u : Update) → LiesAmong u got → LiesAmong u start.kept ⊎ HasLogged start.line log u
    pub rooted : root q ≡ root p

  -- an acknowledgement is of one of the peers, and its numbers are not above that peer's
  abbrev pub AckWithin : List P → Ask → Type 0
  AckWithin ps (Charged (Acked link net stored)) = (i : ℕ) × (q : P) × (slice_get ps i ≡ Some q) × (link ≡ (stand q).link) × (net ≤ (stand q).net) × (stored ≤ (stand q).stored)
  AckWithin ps ask = Unit {0}

  -- the engine is where a legal history has come to, and each peer went on by what that history logged
  pub record BurstUnderway (start : State) (firsts : List P) (log : List Entry) (s : State) (ps : List P) : Type 0 where
    pub legal : Legal start log
    pub fits : FitsHistory start log s
    pub long : length ps ≡ length firsts
    pub each : (i : ℕ) (p q : P) → slice_get firsts i ≡ Some p → slice_get ps i ≡ Some q → Went start log p q
    pub acks : (e : Entry) → LiesAmong e log → AckWithin ps e.ask

  -- nothing stood in the way of the link in the whole run, up to the end of these events, where the peer had received up to net
  pub record IsSoundRun (start : State) (front : List Entry) (p q : P) (net : ℕ) : Type 0 where
    pub line : (stand p).line ≡ start.line
    pub calm : CountRose (stand p).faults (stand q).faults → ⊥
    pub kept : (u : Update) → LiesAmong u start.kept → LiesIn (stand p).sizes u
    pub logged : (u : Update) → HasLogged start.line front u → LiesIn (stand p).sizes u
    pub there : NoGone (net + 1) (map asked front)

  -- no two peers are of one link
  abbrev pub PeersApart : List P → Type 0
  PeersApart ps = (i j : ℕ) (p q : P) → slice_get ps i ≡ Some p → slice_get ps j ≡ Some q → (stand p).link ≡ (stand q).link → i ≡ j

  -- each peer that is sound at the end of these events, where it has received up to net, had acknowledged this number before it, and was
  -- not refused. No acknowledgement of its link has a number above net until then
  abbrev pub Excused : State → List P → List P → List Entry → ℕ → Type 0
  Excused start firsts ps front number = (i : ℕ) (p q : P) → slice_get firsts i ≡ Some p → slice_get ps i ≡ Some q
      → (net : ℕ) × ((stand p).net ≤ net) × (net ≤ (stand q).net) × (PeersApart firsts → NoneAbove (stand p).link net (map asked front)) × (IsSoundRun start front p q net → HasAcked (stand p).link number (map asked front))

-- the count of faults did not rise in the run, and no job was refused for a greatest number or a digest
abbrev pub IsCalm : State → List Entry → State → Type 0
IsCalm start log s = (CountRose start.counts.faults s.counts.faults → ⊥) × NoLimit (map asked log)

-- the history is front, and then an entry that asked this and was said that, and then some more
pub record Splits (log front : List Entry) (ask : Ask) (said : Said) : Type 0 where
  pub entry : Entry
  pub rest : List Entry
  pub is : log ≡ (front ++ entry ∷ []) ++ rest
  pub asks : entry.ask ≡ ask
  pub says : entry.said ≡ said

-- the last logged number behind these events
abbrev pub head_behind : State → List Entry → ℕ
head_behind start front = (point_after (point_of start) front).head

abbrev pub IsCallAsk : Ask → Type 0
IsCallAsk (Ordered call) = Unit {0}
IsCallAsk ask = ⊥

-- a job is left out, and so may be a stalled answer to a call for which IsLeft says so, behind so many calls that stay
abbrev pub IsLeftOut : (ℕ → Call → Type 0) → ℕ → Ask → Said → Type 0
IsLeftOut IsLeft n (Charged j) said = Unit {0}
IsLeftOut IsLeft n (Ordered call) (Replied reply) = IsStalled reply × IsLeft n call
IsLeftOut IsLeft n ask said = ⊥

-- the calls that stay of these events, behind n that stay before them
abbrev pub Stay : (ℕ → Call → Type 0) → ℕ → Events → Events → Type 0
Stay IsLeft n [] ys = ys ≡ []
Stay IsLeft n (x ∷ xs) ys = (IsLeftOut IsLeft n x.0 x.1 × Stay IsLeft n xs ys) ⊎ ((zs : Events) × (ys ≡ x ∷ zs) × IsCallAsk x.0 × Stay IsLeft (suc n) xs zs)

-- these calls are themselves a legal history, which leads to the engine's volumes and last number
pub record LeadsHistory (start : State) (calls : Events) (s : State) : Type 0 where
  pub entries : List Entry
  pub are : map asked entries ≡ calls
  pub legal : Legal start entries
  pub volumes_is : s.volumes ≡ (point_after (point_of start) entries).volumes
  pub head_is : s.head ≡ (point_after (point_of start) entries).head

-- the call is that of a member of the plan which has no place yet, or whose place is behind n others: it was asked again
abbrev pub IsAskedAgain : List Planned → List Answered → ℕ → Call → Type 0
IsAskedAgain plan answers n call = (k : ℕ) × (pl : Planned) × (a : Answered) × (slice_get plan k ≡ Some pl) × (slice_get answers k ≡ Some a) × (call ≡ call_for pl) × ((a.place ≡ 0) ⊎ (n < a.place))

-- these calls stay of the events up to a moment
abbrev pub AreBefore : Events → List Entry → Type 0
AreBefore ys front = Stay (λ n call. Unit {0}) 0 (map asked front) ys

-- a call is that of a member of the plan
abbrev pub IsOfPlan : List Planned → Ask → Type 0
IsOfPlan plan (Ordered call) = (k : ℕ) × (pl : Planned) × (slice_get plan k ≡ Some pl) × (call ≡ call_for pl)
IsOfPlan plan (Charged j) = Unit {0}

-- the job has no answer yet
abbrev pub IsNothing : Said → Type 0
IsNothing (Worked job.Nothing into) = Unit {0}
IsNothing said = ⊥

-- how many answers have no place
abbrev pub unplaced : List Answered → ℕ
unplaced [] = 0
unplaced (a ∷ answers) = one_if (a.place == 0) + unplaced answers

-- the first k answers have places
abbrev pub ArePlaced : List Answered → ℕ → Type 0
ArePlaced answers k = (j : ℕ) (a : Answered) → j < k → slice_get answers j ≡ Some a → 0 < a.place

module _ {P : Type 0} (stand : P → Stand) (root : P → P) where
  -- where the run is calm, this was asked and answered so at such a moment, and then each sound peer had acknowledged the number
  abbrev pub HasExcuse : State → List P → List Entry → State → List P → Ask → (Said → Type 0) → (List Entry → Type 0) → (List Entry → ℕ) → Type 0
  HasExcuse start firsts log s ps ask IsSaid IsMoment number = IsCalm start log s → (said : Said) × IsSaid said × ((front : List Entry) × Splits log front ask said × IsMoment front × Excused stand root start firsts ps front (number front))

  -- the answer stands at its place among the calls that stay. Where it is stalled, that has its excuse at just this place
  pub record IsPlaced (start : State) (firsts : List P) (log : List Entry) (s : State) (ps : List P) (stays : Events) (pl : Planned) (a : Answered) : Type 0 where
    pub reply : Reply
    pub at : slice_get stays (a.place - 1) ≡ Some (Ordered (call_for pl), Replied reply)
    pub told : IsToldAs reply a.reply
    pub stalled : IsStalled reply → HasExcuse start firsts log s ps (Ordered (call_for pl)) (λ said. said ≡ Replied reply) (AreBefore (take (a.place - 1) stays)) (head_behind start)

  -- so many of the plan's members have their places, from 1, each once, and rising in each thread
  pub record BurstStage (start : State) (firsts : List P) (plan : List Planned) (log : List Entry) (s : State) (ps : List P) (answers : List Answered) (taken : ℕ) (stays : Events) : Type 0 where
    pub underway : BurstUnderway stand root start firsts log s ps
    pub left : Stay (IsAskedAgain plan answers) 0 (map asked log) stays
    pub calls : (e : Entry) → LiesAmong e log → IsOfPlan plan e.ask
    pub count : length stays ≡ taken
    pub rest : taken + unplaced answers ≡ length plan
    pub long : length answers ≡ length plan
    pub each : (k : ℕ) (pl : Planned) (a : Answered) → slice_get plan k ≡ Some pl → slice_get answers k ≡ Some a → 0 < a.place → IsPlaced start firsts log s ps stays pl a
    pub apart : (j k : ℕ) (a b : Answered) → slice_get answers j ≡ Some a → slice_get answers k ≡ Some b → 0 < a.place → a.place ≡ b.place → j ≡ k
    pub rises : (j k : ℕ) (pj pk : Planned) (a b : Answered) → j < k → slice_get plan j ≡ Some pj → slice_get plan k ≡ Some pk → pj.thread ≡ pk.thread → slice_get answers j ≡ Some a → slice_get answers k ≡ Some b
        → 0 < b.place → (0 < a.place) × (a.place < b.place)

  -- a stage is followed by another one
  abbrev pub StagesOn : List Planned → State → List P → List Answered → ℕ → State → List P → List Answered → ℕ → Type 0
  StagesOn plan s ps as1 n t qs bs m = (start : State) (firsts : List P) (log : List Entry) (stays : Events) → BurstStage start firsts plan log s ps as1 n stays
      → (log2 : List Entry) × (stays2 : Events) × BurstStage start firsts plan log2 t qs bs m stays2

  -- the call was asked again, behind everything that the peers could be brought to take
  abbrev pub AskedOne : State → List P → Planned → ℕ → Answered → State → List P → Type 0
  AskedOne s ps pl place a t qs = (reply : Reply) × AsksAgain stand root s ps (call_for pl) reply t qs × IsToldAs reply a.reply × (a.place ≡ place)

  -- how the waiting for a logged write ended, and why it did not
  pub record IsWaited (start : State) (firsts : List P) (log : List Entry) (s : State) (ps : List P) (a : Answered) : Type 0 where
    pub done : a.waited ≡ waited.Done → (n : ℕ) × (into : Update) × (a.reply ≡ told.Logged n) × LiesAmong (Charged (Wait n), Worked (job.Done n) into) (map asked log)
    pub unconfirmed : a.waited ≡ waited.Unconfirmed → (n : ℕ) × (into : Update) × (a.reply ≡ told.Logged n) × LiesAmong (Charged (Wait n), Worked (job.Refused (no.Unconfirmed n)) into) (map asked log)
    pub no : a.waited ≡ waited.No → (n : ℕ) → a.reply ≡ told.Logged n → HasExcuse start firsts log s ps (Charged (Wait n)) IsNothing (λ front. Unit {0}) (λ front. n)

abbrev pub waiting_end : Ended → Waited
waiting_end ended.No = waited.No
waiting_end ended.Done = waited.Done
waiting_end ended.Unconfirmed = waited.Unconfirmed

module _ {P : Type 0} (stand : P → Stand) (root : P → P) where
  -- a logged call was waited for, and for another nothing was done
  abbrev pub WaitedOne : State → List P → Told → Waited → State → List P → Type 0
  WaitedOne s ps reply r t qs = ((n : ℕ) × (e : Ended) × (reply ≡ told.Logged n) × WaitsFor stand root s ps n e t qs × (r ≡ waiting_end e))
      ⊎ (((n : ℕ) → reply ≡ told.Logged n → ⊥) × (r ≡ waited.No) × (t ≡ s) × (qs ≡ ps))

  -- the first k answers were waited for: each stage is followed by one with the same answers but for that
  pub record WaitedOn (start : State) (firsts : List P) (plan : List Planned) (n : ℕ) (stays : Events) (k : ℕ) (t : State) (qs : List P) (answers : List Answered) : Type 0 where
    pub log : List Entry
    pub stage : BurstStage stand root start firsts plan log t qs answers n stays
    pub waited : (j : ℕ) (a : Answered) → j < k → slice_get answers j ≡ Some a → IsWaited stand root start firsts log t qs a

  abbrev pub WaitsOn : State → List P → List Answered → ℕ → State → List P → List Answered → Type 0
  WaitsOn s ps olds k t qs answers = (start : State) (firsts : List P) (plan : List Planned) (log : List Entry) (n : ℕ) (stays : Events) → BurstStage stand root start firsts plan log s ps olds n stays → ArePlaced olds (length olds)
      → WaitedOn start firsts plan n stays k t qs answers
