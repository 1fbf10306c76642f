-- What a line is answered, by what is said of its last event.
use Rattle.std.specs.Prelude.{◌≡◌, ℕ, ◌*◌, Bool, true, false, List, [], ◌∷◌, drop, length}
use Rattle.vx_model.specs.declared.limits.TheConstants.{BLOCK}
use Rattle.vx_model.specs.Content.{Content, fold_writes}
use Rattle.vx_history.specs.Doubts.{Doubted, happened}
use Rattle.vx_history.specs.Refusals.{Outcome}
use Rattle.vx_history.specs.Step.{step}
use Rattle.vx_history.specs.World.{Node, World}
use Rattle.vx_history.specs.declared.event.Event.{Event}
use Rattle.vx_history.specs.declared.event.Event.TheVariants.{Read as ReadAt}
use Rattle.vx_history.specs.declared.event.Said.{Said as EventSaid}
use Rattle.vx_history.specs.declared.event.Said.TheVariants.{Done as IsDone, DoneAt as IsDoneAt, Logged as IsLogged, Pending as IsPending, Got as HasGot, Taken as IsTaken, Ignored as IsIgnored, Recovered as IsRecovered, Refused as IsRefused}
use Rattle.vx_script.specs.declared.line.ScriptLine.{ScriptLine}
use Rattle.vx_script.specs.declared.line.ScriptLine.TheVariants.{Status}
use Rattle.vx_events.specs.Doubts.{doubt_chosen}
use Rattle.vx_events.specs.Facts.{site_number}
use Rattle.vx_events.specs.LinkViews.{linked_view}
use Rattle.vx_events.specs.declared.said.Said.{Said}
use Rattle.vx_events.specs.declared.said.Said.TheVariants.{Done, DoneAt, Logged, Pending, Got, Shown, Taken, Ignored, Recovered, Refused}

-- The reply that repeats what is said of an event at this site. A recovery is answered with the status of the site too.
abbrev pub RepeatsSaid : World → (site : ℕ) → EventSaid → Said → Type 0
RepeatsSaid w s IsDone said = said ≡ Done
RepeatsSaid w s (IsDoneAt number) said = said ≡ DoneAt number
RepeatsSaid w s (IsLogged number) said = said ≡ Logged number
RepeatsSaid w s (IsPending number) said = said ≡ Pending number
RepeatsSaid w s (HasGot bytes) said = said ≡ Got bytes
RepeatsSaid w s IsTaken said = said ≡ Taken
RepeatsSaid w s IsIgnored said = said ≡ Ignored
RepeatsSaid w s (IsRecovered number) said = said ≡ Recovered number (linked_view w s)
RepeatsSaid w s (IsRefused why) said = said ≡ Refused why

-- the content of a site with all writes that came to it, of which some may wait
abbrev pub received_content : Node → Content
received_content n = fold_writes n.base (drop n.safe n.log)

-- so many blocks, which are what is said of the read where contents are told
pub record GivesBlocks (told : Type 0) (count : ℕ) (o : EventSaid) (said : Said) : Type 0 where
  pub bytes : List ℕ
  pub got : said ≡ Got bytes
  pub size : length bytes ≡ BLOCK * count
  pub is : told → o ≡ HasGot bytes

-- the reply by one event and its outcome
abbrev pub RepeatsOf : Type 0 → (site : ℕ) → Event → Outcome → Said → Type 0
RepeatsOf told s (ReadAt p volume start count) o said = GivesBlocks told count o.said said
RepeatsOf told s other o said = RepeatsSaid o.world s o.said said

-- a write is done, whether some link has to confirm it or none
abbrev pub is_written : Said → Bool
is_written (DoneAt number) = true
is_written (Logged number) = true
is_written other = false

-- a line without events is done, and a `status` shows its site
abbrev pub SaysItself : World → ScriptLine → Said → Type 0
SaysItself w (Status site) said = said ≡ Shown (linked_view w (site_number w site))
SaysItself w other said = said ≡ Done

-- The reply of a line at this site by these events, from this world on: by the last of them. A crash of a site in doubt takes what it may be
-- on its disks, or does not.
abbrev pub Replies : Type 0 → ScriptLine → (site : ℕ) → (taken : Bool) → Doubted → List Event → Said → Type 0
Replies told line s taken d [] said = SaysItself d.world line said
Replies told line s taken d (e ∷ []) said = RepeatsOf told s e (step (doubt_chosen taken d e).world e) said
Replies told line s taken d (e ∷ f ∷ es) said = Replies told line s taken (happened d e taken) (f ∷ es) said
