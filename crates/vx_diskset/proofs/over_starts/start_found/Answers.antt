-- A replicated volume group that was found over a group of a site that had none.
use Rattle.std.proofs.Common.{◌∙◌, inr, refl, sym}
use Rattle.vx_diskset.proofs.OverStarting.{plain_fails}
use Rattle.vx_diskset.proofs.over_starts.start_found.Goals as goal

pub start_dark-requires-clause-there : goal.start_dark-requires-clause-there
start_dark-requires-clause-there g c = λ κs lives. c.requires.there

pub start_dark-requires-clause-large : goal.start_dark-requires-clause-large
start_dark-requires-clause-large g c = λ κs lives. c.requires.large

pub returns-then-is_dark : goal.returns-then-is_dark
returns-then-is_dark g c = record { starts = c.start_dark.ensures.starts (sym c.is_dark.ensures ∙ c.if-is_dark.true) }

pub returns-else-is_dark : goal.returns-else-is_dark
returns-else-is_dark g c = record {
  starts = plain_fails c.args.away c.args.rested c.args.units.now c.args.laid c.args.laid c.args.cut c.too_few.result c.plain_back.result.0 c.plain_back.result.1 (inr (refl, c.too_few.ensures)) c.plain_back.ensures;
}
