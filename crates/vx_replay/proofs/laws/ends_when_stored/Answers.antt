-- `ends_when_stored`: clauses finished, only, ignored and earlier.
use Rattle.vx_replay.proofs.Ends.{earlier-ignored, finished-only, finished-stored, ignored-keeps}
use Rattle.vx_replay.proofs.laws.ends_when_stored.Goals as goal

pub returns-clause-finished : goal.returns-clause-finished
returns-clause-finished c = finished-stored

pub returns-clause-only : goal.returns-clause-only
returns-clause-only c = finished-only

pub returns-clause-ignored : goal.returns-clause-ignored
returns-clause-ignored c = ignored-keeps

pub returns-clause-earlier : goal.returns-clause-earlier
returns-clause-earlier c = earlier-ignored
