-- Histories of calls and jobs, and which of them are legal.
use Rattle.std.specs.Prelude.{◌≡◌, ◌⊎◌, ℕ, suc, true, ◌<◌, ◌==◌, List, [], ◌∷◌, ◌++◌, length, map, cond}
use Rattle.vx_model.specs.declared.call.Update.{Update}
use Rattle.vx_model.specs.declared.history.Line.{Line}
use Rattle.vx_turn.specs.declared.ask.Ask.{Ask}
use Rattle.vx_turn.specs.declared.ask.Ask.TheVariants.{Charged}
use Rattle.vx_turn.specs.declared.ask.Said.{Said}
use Rattle.vx_turn.specs.declared.ask.Said.TheVariants.{Worked}
use Rattle.vx_turn.specs.declared.ask.Job.TheVariants.{Fetch}
use Rattle.vx_turn.specs.declared.ask.JobReply.TheVariants as job
use Rattle.vx_turn.specs.declared.meaning.Counts.{Counts}
use Rattle.vx_turn.specs.declared.meaning.State.{State}
use Rattle.vx_turn.specs.declared.meaning.Entry.{Entry}
use Rattle.vx_turn.specs.Volumes.{Volumes}
use Rattle.vx_turn.specs.Acting.{LiesAmong, Rises, CountRose, RepliesTo, volumes_after, head_after, LogsUpdate}

-- what a history has come to: the volumes, the last number, and the counts before and after its last entry
pub record Point : Type 0 where
  pub volumes : Volumes
  pub head : ℕ
  pub before : Counts
  pub after : Counts

abbrev pub point_of : State → Point
point_of s = record { volumes = s.volumes; head = s.head; before = s.counts; after = s.counts }

abbrev pub next_point : Point → Entry → Point
next_point p e = record { volumes = volumes_after p.volumes e.ask e.said; head = head_after p.head e.said; before = e.before; after = e.after }

abbrev pub point_after : Point → List Entry → Point
point_after p [] = p
point_after p (e ∷ es) = point_after (next_point p e) es

-- the entry may follow: no count falls, and the reply is right for a history that began with so many faults and a ring of so many blocks
abbrev pub FollowsEntry : ℕ → ℕ → Point → Entry → Type 0
FollowsEntry faults ring p e = Rises p.before e.before × Rises p.after e.after × Rises e.before e.after
    × RepliesTo (CountRose faults e.before.faults) p.volumes ring p.head e.ask e.said e.before e.after

abbrev pub LegalFrom : ℕ → ℕ → Point → List Entry → Type 0
LegalFrom faults ring p [] = Unit {0}
LegalFrom faults ring p (e ∷ es) = FollowsEntry faults ring p e × LegalFrom faults ring (next_point p e) es

-- each entry may follow those before it, from what the engine was at the start
abbrev pub Legal : State → List Entry → Type 0
Legal s log = LegalFrom s.counts.faults s.ring (point_of s) log

-- an entry of the history logged the update on the line
abbrev pub HasLogged : Line → List Entry → Update → Type 0
HasLogged l [] u = ⊥
HasLogged l (e ∷ es) u = LogsUpdate l e.ask e.said u ⊎ HasLogged l es u

abbrev pub asked : Entry → Ask × Said
asked e = (e.ask, e.said)

-- what a fetch gave has the number that was asked for, and was logged in what is seen, or kept at the start
abbrev pub Given : State → List Entry → Ask → Said → Type 0
Given start seen (Charged (Fetch n)) (Worked (job.Done m) into) = (m ≡ n) × (into.number ≡ n) × (LiesAmong into start.kept ⊎ HasLogged start.line seen into)
Given start seen ask said = Unit {0}

-- the engine is where the history has come to
pub record Reaches (start : State) (log : List Entry) (s : State) : Type 0 where
  pub volumes_is : s.volumes ≡ (point_after (point_of start) log).volumes
  pub head_is : s.head ≡ (point_after (point_of start) log).head
  pub ring_is : s.ring ≡ start.ring
  pub line_is : s.line ≡ start.line
  pub before : Rises (point_after (point_of start) log).before s.counts
  pub after : Rises (point_after (point_of start) log).after s.counts
  pub since : Rises start.counts s.counts
  pub keeps : (u : Update) → LiesAmong u s.kept → LiesAmong u start.kept ⊎ HasLogged start.line log u
  pub links : length s.nets ≡ length start.nets
  pub halts : s.halted ≡ true → CountRose start.counts.faults s.counts.faults

-- it is there, and what it was asked and said is just that
abbrev pub FitsHistory : State → List Entry → State → Type 0
FitsHistory start log s = Reaches start log s × (s.trail ≡ start.trail ++ map asked log)

-- the places of a caller's entries, where the first entry has the place suc n
abbrev pub places_from : ℕ → ℕ → List Entry → List ℕ
places_from n by [] = []
places_from n by (e ∷ es) = cond (e.caller == by) (suc n ∷ places_from (suc n) by es) (places_from (suc n) by es)

-- the places of a caller's entries, from 1
abbrev pub places : ℕ → List Entry → List ℕ
places by log = places_from 0 by log

-- the log begins with what was seen
abbrev pub BeginsWith : List Entry → List Entry → Type 0
BeginsWith seen log = (rest : List Entry) × (log ≡ seen ++ rest)

-- each caller's number is below the number of callers
abbrev pub Named : ℕ → List Entry → Type 0
Named callers [] = Unit {0}
Named callers (e ∷ es) = (e.caller < callers) × Named callers es
