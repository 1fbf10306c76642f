-- `deport`: clauses can and tells; what `deport_whole` asks, and what stands then.
use Rattle.std.proofs.Common.{refl, length}
use Rattle.vx_config.specs.declared.entry.VolumeLog.TheVariants.{Fmr}
use Rattle.vx_group.specs.Holding.{wide}
use Rattle.vx_group.proofs.CrashLemmas.{group_can}
use Rattle.vx_loggroup.specs.Moving.{no_volume}
use Rattle.vx_loggroup.proofs.ComesLemmas.{maps_come, new_none}
use Rattle.vx_loggroup.proofs.EndedLemmas.{same_end}
use Rattle.vx_loggroup.proofs.FactLemmas.{from_logged, to_logged}
use Rattle.vx_loggroup.proofs.FreshLemmas.{fresh_still}
use Rattle.vx_loggroup.proofs.KeepingLemmas.{frames_places}
use Rattle.vx_loggroup.proofs.SettledFacts.{settled_by, sure_next, volumes_few}
use Rattle.vx_disk.specs.Shelf.{Nothing}
use Rattle.vx_loggroup.proofs.group.LoggedGroup.deport.Goals as goal

pub deport_whole-requires : goal.deport_whole-requires
deport_whole-requires g c = record { stands = from_logged c.args.self.core c.args.self.logs.items c.args.self.alike c.args.self.stopped (g.S.Shelf.meaning c.args.self.shelf) c.args.self.stands; sure = c.args.self.settles.sure }

pub invariant_of-result : goal.invariant_of-result
invariant_of-result g c = record { stands = to_logged c.deport_whole.new.core c.args.self.logs.items c.args.self.alike c.args.self.stopped (g.S.Shelf.meaning c.deport_whole.new.shelf) c.in-Err.ensures.stands; begins = fresh_still c.args.self.core c.deport_whole.new.core c.args.self.fresh (g.S.Shelf.meaning c.args.self.shelf) (g.S.Shelf.meaning c.deport_whole.new.shelf) c.in-Err.ensures.back c.args.self.begins; settles = settled_by c.args.self.core c.deport_whole.new.core c.args.self.alike c.args.self.alike (g.S.Shelf.meaning c.args.self.shelf) (g.S.Shelf.meaning c.deport_whole.new.shelf) c.in-Err.ensures.settles (λ up. sure_next (length c.args.self.core.inner.config.volumes) (length c.deport_whole.new.core.inner.config.volumes) c.args.self.core.inner.unsure c.deport_whole.new.core.inner.unsure c.args.self.alike c.args.self.alike (volumes_few c.args.self.core c.deport_whole.new.core (g.S.Shelf.meaning c.args.self.shelf) (g.S.Shelf.meaning c.deport_whole.new.shelf) Nothing c.in-Err.ensures.back) c.in-Err.ensures.ends.quiesces.sure (λ v is set. set) (c.args.self.settles.sure (λ down. up (c.in-Err.ensures.back.falls down)))) c.args.self.settles }

pub returns-in-Ok-clause-can : goal.returns-in-Ok-clause-can
returns-in-Ok-clause-can g c = group_can (wide c.args.self.core).config c.args.self.core.inner (g.S.Shelf.meaning c.args.self.shelf) (g.S.Shelf.meaning c.deport_whole.new.shelf) c.in-Ok.ensures.ends

pub returns-in-Ok-clause-tells : goal.returns-in-Ok-clause-tells
returns-in-Ok-clause-tells g c = c.in-Ok.ensures.tells

pub returns-in-Ok-clause-maps : goal.returns-in-Ok-clause-maps
returns-in-Ok-clause-maps g c = (c.in-Ok.ensures.maps, c.in-Ok.ensures.rests)

pub returns-in-Err-clause-maps : goal.returns-in-Err-clause-maps
returns-in-Err-clause-maps g c = tt

pub returns-in-Ok-clause-kept : goal.returns-in-Ok-clause-kept
returns-in-Ok-clause-kept g c = tt

pub returns-in-Err-clause-kept : goal.returns-in-Err-clause-kept
returns-in-Err-clause-kept g c = record {
  logs = refl;
  alike = refl;
  stopped = refl;
  comes =
      maps_come c.args.self.core.inner.config c.deport_whole.new.core.inner.config c.args.self.logs.items (λ v r at. frames_places c.args.self.core.inner.config c.deport_whole.new.core.inner.config c.in-Err.ensures.ends.quiesces.loses.frames v Fmr r at) c.in-Err.ensures.ends.quiesces.loses.disks.stays
      (λ v some told. c.in-Err.ensures.trusts.each v Fmr told) no_volume c.args.self.logs.items c.args.self.stopped c.args.self.stopped (λ on. on) (new_none c.args.self.logs.items c.args.self.logs.items (λ w none. none));
  ends =
      same_end c.args.self.core.inner.config c.deport_whole.new.core.inner.config c.args.self.logs.items c.args.self.stopped (g.S.Shelf.meaning c.args.self.shelf) (g.S.Shelf.meaning c.deport_whole.new.shelf) c.in-Err.ensures.ends.quiesces.loses.disks.blamed
      (λ v r at. frames_places c.args.self.core.inner.config c.deport_whole.new.core.inner.config c.in-Err.ensures.ends.quiesces.loses.frames v Fmr r at) c.in-Err.ensures.ends.parts.later;
}

pub returns-in-Ok-clause-agreed : goal.returns-in-Ok-clause-agreed
returns-in-Ok-clause-agreed g c = tt

pub returns-in-Err-clause-agreed : goal.returns-in-Err-clause-agreed
returns-in-Err-clause-agreed g c = c.in-Err.ensures.agreed
