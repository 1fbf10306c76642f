-- What each message of a replay makes of the site that receives, and what then is to be done.
use Rattle.std.specs.Prelude.{ℕ, Bool, true, false, ◌&&◌, eqb, ltb, leb, if◌then◌else◌}
use Rattle.vx_history.specs.Receiving.{is_log_phase}
use Rattle.vx_history.specs.declared.receiver.RState.{RState}
use Rattle.vx_model.specs.Sites.{same_line}
use Rattle.vx_model.specs.declared.history.Line.{Line}
use Rattle.vx_model.specs.declared.site.Mark.TheVariants.{Consistent, Inconsistent}
use Rattle.vx_model.specs.declared.site.SPhase.{SPhase}
use Rattle.vx_model.specs.declared.site.SPhase.TheVariants.{Quiet, Regions, Log, ForkKept}
use Rattle.vx_replay.specs.declared.event.QEvent.{QEvent}
use Rattle.vx_replay.specs.declared.event.QEvent.TheVariants.{Start, Region, Done}
use Rattle.vx_replay.specs.declared.event.QAction.{QAction}
use Rattle.vx_replay.specs.declared.event.QAction.TheVariants.{Ignored, Again, Begin, Store, Close}

-- a receiver after a message, and what it then does
pub record AtReceiver : Type 0 where
  pub state : RState
  pub action : QAction

abbrev pub as_it_was : RState → QAction → AtReceiver
as_it_was s action = record { state = s; action = action }

abbrev pub phase_copies : SPhase → Bool
phase_copies Quiet = false
phase_copies Regions = true
phase_copies Log = false
phase_copies ForkKept = false

-- it stores the regions of this replay of its line
abbrev pub copies : RState → Line → (id : ℕ) → Bool
copies s line id = same_line line s.line && (eqb id s.replay && phase_copies s.phase)

-- it has the regions of this replay, and takes updates
abbrev pub fills : RState → Line → (id : ℕ) → Bool
fills s line id = same_line line s.line && (eqb id s.replay && is_log_phase s.phase)

-- a later replay of its line begins, from a number that is not below its last one
abbrev pub begins : RState → Line → (id start : ℕ) → Bool
begins s line id start = same_line line s.line && (ltb s.replay id && leb s.last start)

-- from here on until the replay's end it may lack writes; the waiting records are in its volumes
abbrev pub begun : RState → (id : ℕ) → RState
begun s id = record s { waiting = 0; mark = Inconsistent; phase = Regions; replay = id; end = 0 }

abbrev pub start_came : RState → Line → (id start : ℕ) → AtReceiver
start_came s line id start =
    if begins s line id start
    then record { state = begun s id; action = Begin }
    else as_it_was s (if copies s line id then Again else Ignored)

abbrev pub region_came : RState → Line → (id : ℕ) → AtReceiver
region_came s line id = as_it_was s (if copies s line id then Store else Ignored)

-- it stands at the start with an empty log, and is consistent at once where no region was read later
abbrev pub closed : RState → (start end : ℕ) → RState
closed s start end = record s { last = start; waiting = 0; phase = Log; end = end; mark = if leb end start then Consistent else s.mark }

abbrev pub done_came : RState → Line → (id start end : ℕ) → AtReceiver
done_came s line id start end =
    if copies s line id
    then record { state = closed s start end; action = Close }
    else as_it_was s (if fills s line id then Again else Ignored)

-- what this message makes of a receiver
abbrev pub secondary_step : RState → QEvent → AtReceiver
secondary_step s (Start line id start) = start_came s line id start
secondary_step s (Region line id) = region_came s line id
secondary_step s (Done line id start end) = done_came s line id start end

-- the replay that a message belongs to
abbrev pub id_of : QEvent → ℕ
id_of (Start line id start) = id
id_of (Region line id) = id
id_of (Done line id start end) = id
