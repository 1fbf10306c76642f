-- `attach`: clauses moved and done; what `attach_from` asks.
use Rattle.std.specs.Prelude.{Some}
use Rattle.std.specs.Option.{option_copied}
use Rattle.vx_resync.specs.Picks.{missed_or}
use Rattle.vx_resync.proofs.CauseLemmas.{ok_by}
use Rattle.vx_resync.proofs.CopyLemmas.{plain_Resyncs}
use Rattle.vx_resync.proofs.PickLemmas.{gives_active}
use Rattle.vx_resync.proofs.resync.attach.Goals as goal

pub attach_from-requires-clause-from : goal.attach_from-requires-clause-from
attach_from-requires-clause-from g c = gives_active c.args.c.now c.args.vol c.find_source-source.result (Some c.args.plex) c.find_source-source.ensures.can

pub returns-clause-moved : goal.returns-clause-moved
returns-clause-moved g c = plain_Resyncs c.args.c.now c.args.vol c.find_source-source.result (Some c.args.plex) (missed_or c.args.plex (option_copied c.args.fmr)) (g.S.Shelf.meaning c.args.shelf.now) (g.S.Shelf.meaning c.attach_from.new.shelf) c.find_source-source.ensures c.attach_from.ensures.moved

pub returns-clause-done : goal.returns-clause-done
returns-clause-done g c = ok_by _ _ c.attach_from.result c.attach_from.ensures.done (λ left. record { source = c.find_source-source.result; is = c.find_source-source.ensures; left = left })
