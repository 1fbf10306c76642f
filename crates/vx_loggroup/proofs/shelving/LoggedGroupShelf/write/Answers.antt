-- `write`: what `write_fresh` asks, and what stands then.
use Rattle.std.proofs.Common.{ap, arith}
use Rattle.vx_config.specs.declared.entry.VolumeLog.TheVariants.{Fmr}
use Rattle.vx_loggroup.specs.Attaching.{fmr_or}
use Rattle.vx_loggroup.specs.Moving.{only_volume}
use Rattle.vx_loggroup.proofs.ComesLemmas.{maps_come, new_here, trusts_maps}
use Rattle.vx_loggroup.proofs.EndedLemmas.{maps_end}
use Rattle.vx_loggroup.proofs.FactLemmas.{from_logged, to_logged}
use Rattle.vx_loggroup.specs.Mirrors.{names_none}
use Rattle.vx_loggroup.proofs.KeepingLemmas.{frames_places}
use Rattle.vx_loggroup.proofs.MirrorLemmas.{keep_loses}
use Rattle.vx_loggroup.proofs.SettledFacts.{settled_next, volumes_few, wrote_flags}
use Rattle.vx_disk.specs.Shelf.{Written}
use Rattle.vx_group.specs.Holding.{wide}
use Rattle.vx_group.specs.Stands.{inner_meaning}
use Rattle.vx_loggroup.proofs.shelving.LoggedGroupShelf.write.Goals as goal

pub write_fresh-requires-clause-stands : goal.write_fresh-requires-clause-stands
write_fresh-requires-clause-stands g c = from_logged c.args.self.now.core c.args.self.now.logs.items c.args.self.now.alike c.args.self.now.stopped (g.S.Shelf.meaning c.args.self.now.shelf) c.args.self.now.stands

pub write_fresh-requires-clause-fresh : goal.write_fresh-requires-clause-fresh
write_fresh-requires-clause-fresh g c = c.args.self.now.begins

pub returns-clause-loses : goal.returns-clause-loses
returns-clause-loses g c = c.write_fresh.ensures.loses.loses

pub invariant_of-self : goal.invariant_of-self
invariant_of-self g c = record { stands = to_logged c.write_fresh.new.core c.write_fresh.new.logs.items c.write_fresh.new.alike c.write_fresh.new.stopped (g.S.Shelf.meaning c.write_fresh.new.shelf) c.write_fresh.ensures.stands; begins = c.write_fresh.ensures.fresh; settles = settled_next c.args.self.now.core c.write_fresh.new.core c.args.self.now.alike c.write_fresh.new.alike (g.S.Shelf.meaning c.args.self.now.shelf) (g.S.Shelf.meaning c.write_fresh.new.shelf) c.write_fresh.ensures.finds (volumes_few c.args.self.now.core c.write_fresh.new.core (g.S.Shelf.meaning c.args.self.now.shelf) (g.S.Shelf.meaning c.write_fresh.new.shelf) (Written c.args.unit c.args.block c.args.bytes.now) c.write_fresh.ensures.goes) c.write_fresh.ensures.goes.falls (wrote_flags (Unit {0}) c.args.unit c.args.self.now.core.inner.unsure c.write_fresh.new.core.inner.unsure c.args.self.now.alike c.write_fresh.new.alike (inner_meaning (wide c.args.self.now.core) (g.S.Shelf.meaning c.args.self.now.shelf)) (inner_meaning (wide c.write_fresh.new.core) (g.S.Shelf.meaning c.write_fresh.new.shelf)) c.write_fresh.result c.write_fresh.ensures.alike c.write_fresh.ensures.flags c.write_fresh.ensures.unsure c.write_fresh.ensures.cause) c.args.self.now.settles }

pub returns-clause-mirrors : goal.returns-clause-mirrors
returns-clause-mirrors g c = keep_loses names_none c.args.self.now.core c.write_fresh.new.core (g.S.Shelf.meaning c.args.self.now.shelf) (g.S.Shelf.meaning c.write_fresh.new.shelf) c.write_fresh.ensures.loses.loses

pub returns-clause-keeps : goal.returns-clause-keeps
returns-clause-keeps g c = c.write_fresh.ensures.keeps

pub returns-clause-kept : goal.returns-clause-kept
returns-clause-kept g c = c.write_fresh.ensures.kept

pub returns-clause-refused : goal.returns-clause-refused
returns-clause-refused g c = c.write_fresh.ensures.refused

pub returns-clause-moves : goal.returns-clause-moves
returns-clause-moves g c = c.write_fresh.ensures.moves

pub returns-clause-comes : goal.returns-clause-comes
returns-clause-comes g c = maps_come c.args.self.now.core.inner.config c.write_fresh.new.core.inner.config c.write_fresh.new.logs.items (λ v r at. frames_places c.args.self.now.core.inner.config c.write_fresh.new.core.inner.config c.write_fresh.ensures.loses.loses.frames v Fmr r at) c.write_fresh.ensures.loses.loses.disks.stays (trusts_maps c.args.unit c.args.self.now.core.inner.config c.write_fresh.new.core.inner.config c.write_fresh.new.logs.items c.write_fresh.ensures.trusts)
    (only_volume c.args.unit) c.args.self.now.logs.items c.args.self.now.stopped c.write_fresh.new.stopped c.write_fresh.ensures.stays
    (new_here c.args.unit c.args.self.now.logs.items c.write_fresh.new.logs.items (λ w apart. ap fmr_or (c.write_fresh.ensures.marks.others w apart)))

pub returns-clause-ends_maps : goal.returns-clause-ends_maps
returns-clause-ends_maps g c = maps_end c.args.self.now.core c.write_fresh.new.core c.args.self.now.logs.items c.write_fresh.new.logs.items c.args.self.now.stopped c.write_fresh.new.stopped (g.S.Shelf.meaning c.args.self.now.shelf) (g.S.Shelf.meaning c.write_fresh.new.shelf) c.write_fresh.ensures.keeps
    c.write_fresh.ensures.loses.loses.disks.blamed (λ off on. let full = c.write_fresh.ensures.full off on in omega (arith, full)) (λ v r at. frames_places c.args.self.now.core.inner.config c.write_fresh.new.core.inner.config c.write_fresh.ensures.loses.loses.frames v Fmr r at) c.write_fresh.ensures.loses.loses.parts.later

pub returns-clause-stays : goal.returns-clause-stays
returns-clause-stays g c = c.write_fresh.ensures.stays

pub returns-clause-alike : goal.returns-clause-alike
returns-clause-alike g c = c.write_fresh.ensures.alike

pub returns-clause-flags : goal.returns-clause-flags
returns-clause-flags g c = c.write_fresh.ensures.flags

pub returns-clause-rests : goal.returns-clause-rests
returns-clause-rests g c = c.write_fresh.ensures.rests

pub returns-clause-free : goal.returns-clause-free
returns-clause-free g c = c.write_fresh.ensures.free
