-- `deport_whole`: its clauses; what the calls ask.
use Rattle.std.proofs.Common.{Bool, subst, arith}
use Rattle.std.specs.Prelude.{Err}
use Rattle.vx_group.proofs.HoldLemmas.{wide_shape}
use Rattle.vx_loggroup.specs.LoggedVolumes.{LoggedStands}
use Rattle.vx_loggroup.proofs.DeportedLogs.{deport_stands}
use Rattle.vx_loggroup.proofs.RestMaps.{maps_stand}
use Rattle.vx_loggroup.proofs.SettledFacts.{reads_sure}
use Rattle.vx_loggroup.proofs.RestTells.{tells_by}
use Rattle.vx_loggroup.proofs.deporting.deport_whole.Goals as goal

pub rest_by-rested-requires : goal.rest_by-rested-requires
rest_by-rested-requires g c = record { few = let many = c.requires.stands.many in let few = c.requires.stands.group.stands.few in let same = (wide_shape c.args.core.now).volumes in omega (arith, many, few, same) }

pub deport_in-requires : goal.deport_in-requires
deport_in-requires g c = record { stands = c.requires.stands.group }

pub returns-in-Ok-clause-tells : goal.returns-in-Ok-clause-tells
returns-in-Ok-clause-tells g c =
    tells_by c.args.core.now c.args.logs.now.items c.args.alike.now c.args.stopped (g.S.Shelf.meaning c.args.shelf.now) (g.S.Shelf.meaning c.deport_in.new.shelf) c.requires.stands c.in-Ok.ensures.ends c.in-Ok.ensures.up c.rest_by-rested.result c.rest_by-rested.ensures.each

pub returns-in-Ok-clause-maps : goal.returns-in-Ok-clause-maps
returns-in-Ok-clause-maps g c = λ going. maps_stand c.args.core.now c.args.logs.now.items c.args.alike.now (g.S.Shelf.meaning c.args.shelf.now) (g.S.Shelf.meaning c.deport_in.new.shelf) (subst (λ (s : Bool). LoggedStands c.args.core.now c.args.logs.now.items c.args.alike.now s (g.S.Shelf.meaning c.args.shelf.now)) going c.requires.stands) c.in-Ok.ensures.ends

pub returns-in-Ok-clause-rests : goal.returns-in-Ok-clause-rests
returns-in-Ok-clause-rests g c = c.rest_by-rested.ensures.rests

pub returns-in-Ok-clause-trusts : goal.returns-in-Ok-clause-trusts
returns-in-Ok-clause-trusts g c = tt

pub returns-in-Err-clause-stands : goal.returns-in-Err-clause-stands
returns-in-Err-clause-stands g c = deport_stands c.args.core.now c.deport_in.new.core c.args.logs.now.items c.args.alike.now c.args.stopped (g.S.Shelf.meaning c.args.shelf.now) (g.S.Shelf.meaning c.deport_in.new.shelf) c.requires.stands (Err c.in-Err.stop) c.in-Err.ensures.ends c.in-Err.ensures.back

pub returns-in-Err-clause-finds : goal.returns-in-Err-clause-finds
returns-in-Err-clause-finds g c = c.in-Err.ensures.finds

pub returns-in-Err-clause-maps : goal.returns-in-Err-clause-maps
returns-in-Err-clause-maps g c = λ going. tt

pub returns-in-Err-clause-rests : goal.returns-in-Err-clause-rests
returns-in-Err-clause-rests g c = tt

pub returns-in-Err-clause-trusts : goal.returns-in-Err-clause-trusts
returns-in-Err-clause-trusts g c = c.in-Err.ensures.logs

pub returns-in-Err-clause-settles : goal.returns-in-Err-clause-settles
returns-in-Err-clause-settles g c = c.in-Err.ensures.settles (reads_sure c.args.core.now c.args.logs.now.items c.args.alike.now c.args.stopped (g.S.Shelf.meaning c.args.shelf.now) c.requires.stands c.requires.sure)

pub returns-in-Ok-clause-agreed : goal.returns-in-Ok-clause-agreed
returns-in-Ok-clause-agreed g c = tt

pub returns-in-Err-clause-agreed : goal.returns-in-Err-clause-agreed
returns-in-Err-clause-agreed g c = c.in-Err.ensures.agreed

pub returns-in-Ok-clause-stands : goal.returns-in-Ok-clause-stands
returns-in-Ok-clause-stands g c = tt

pub returns-in-Ok-clause-up : goal.returns-in-Ok-clause-up
returns-in-Ok-clause-up g c = c.in-Ok.ensures.up

pub returns-in-Ok-clause-back : goal.returns-in-Ok-clause-back
returns-in-Ok-clause-back g c = tt

pub returns-in-Ok-clause-finds : goal.returns-in-Ok-clause-finds
returns-in-Ok-clause-finds g c = tt

pub returns-in-Ok-clause-settles : goal.returns-in-Ok-clause-settles
returns-in-Ok-clause-settles g c = tt

pub returns-in-Err-clause-up : goal.returns-in-Err-clause-up
returns-in-Err-clause-up g c = tt

pub returns-in-Err-clause-back : goal.returns-in-Err-clause-back
returns-in-Err-clause-back g c = c.in-Err.ensures.back

pub returns-in-Err-clause-tells : goal.returns-in-Err-clause-tells
returns-in-Err-clause-tells g c = tt
