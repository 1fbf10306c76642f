-- Whether the newest configuration of a group is committed, and no plex is held back.
use Rattle.std.proofs.Common.{◌∙◌, ◌&&◌, ap, sym}
use Rattle.vx_grouped.specs.GroupNotes.{holds_none}
use Rattle.vx_diskset.proofs.IdleFalls.{and_false, and_true}
use Rattle.vx_diskset.proofs.idles.is_sure.Goals as goal

pub returns-in-None : goal.returns-in-None
returns-in-None g c = and_true c.args.laid.now.core.inner.committed ∙ ap (λ o. c.args.laid.now.core.inner.committed && holds_none o) (sym c.in-None.is)

pub returns-in-Some : goal.returns-in-Some
returns-in-Some g c = and_false c.args.laid.now.core.inner.committed ∙ ap (λ o. c.args.laid.now.core.inner.committed && holds_none o) (sym c.in-Some.is)
