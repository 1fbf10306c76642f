-- `det`: what `det_fresh` asks, and what stands then.
use Rattle.std.proofs.Common.{◌≡◌, ◌∙◌, false, true, refl, sym}
use Rattle.vx_config.specs.declared.entry.VolumeLog.TheVariants.{Fmr}
use Rattle.vx_loggroup.specs.Moving.{only_volume}
use Rattle.vx_loggroup.proofs.ComesLemmas.{maps_come, new_here, trusts_maps}
use Rattle.vx_loggroup.proofs.EndedLemmas.{maps_end}
use Rattle.vx_loggroup.proofs.FactLemmas.{from_logged, to_logged}
use Rattle.vx_loggroup.proofs.KeepingLemmas.{frames_places}
use Rattle.vx_loggroup.proofs.MirrorLemmas.{keep_det}
use Rattle.vx_group.proofs.TrustLemmas.{ok_from}
use Rattle.vx_loggroup.proofs.SureLemmas.{says_losses}
use Rattle.vx_loggroup.proofs.SettledFacts.{settled_same, volumes_few}
use Rattle.vx_disk.specs.Shelf.{Nothing}
use Rattle.vx_loggroup.proofs.group.LoggedGroup.det.Goals as goal

pub det_fresh-requires-clause-stands : goal.det_fresh-requires-clause-stands
det_fresh-requires-clause-stands g c = from_logged c.args.self.now.core c.args.self.now.logs.items c.args.self.now.alike c.args.self.now.stopped (g.S.Shelf.meaning c.args.self.now.shelf) c.args.self.now.stands

pub det_fresh-requires-clause-fresh : goal.det_fresh-requires-clause-fresh
det_fresh-requires-clause-fresh g c = c.args.self.now.begins

pub invariant_of-self : goal.invariant_of-self
invariant_of-self g c = record { stands = to_logged c.det_fresh.new.core c.det_fresh.new.logs.items c.args.self.now.alike c.args.self.now.stopped (g.S.Shelf.meaning c.det_fresh.new.shelf) c.det_fresh.ensures.stands; begins = c.det_fresh.ensures.fresh; settles = settled_same c.args.self.now.core c.det_fresh.new.core c.args.self.now.alike (g.S.Shelf.meaning c.args.self.now.shelf) (g.S.Shelf.meaning c.det_fresh.new.shelf) c.det_fresh.ensures.finds (volumes_few c.args.self.now.core c.det_fresh.new.core (g.S.Shelf.meaning c.args.self.now.shelf) (g.S.Shelf.meaning c.det_fresh.new.shelf) Nothing c.det_fresh.ensures.goes) c.det_fresh.ensures.goes.falls c.args.self.now.settles }

pub returns-clause-mirrors : goal.returns-clause-mirrors
returns-clause-mirrors g c = keep_det c.args.vol c.args.plex c.args.self.now.core c.det_fresh.new.core (g.S.Shelf.meaning c.args.self.now.shelf) (g.S.Shelf.meaning c.det_fresh.new.shelf) c.det_fresh.ensures.others c.det_fresh.ensures.disks

pub returns-clause-keeps : goal.returns-clause-keeps
returns-clause-keeps g c = c.det_fresh.ensures.keeps

pub returns-clause-moves : goal.returns-clause-moves
returns-clause-moves g c = c.det_fresh.ensures.moves

pub returns-clause-comes : goal.returns-clause-comes
returns-clause-comes g c = maps_come c.args.self.now.core.inner.config c.det_fresh.new.core.inner.config c.det_fresh.new.logs.items (λ v r at. frames_places c.args.self.now.core.inner.config c.det_fresh.new.core.inner.config c.det_fresh.ensures.frames v Fmr r at) c.det_fresh.ensures.disks.stays (trusts_maps c.args.vol c.args.self.now.core.inner.config c.det_fresh.new.core.inner.config c.det_fresh.new.logs.items c.det_fresh.ensures.trusts)
    (only_volume c.args.vol) c.args.self.now.logs.items c.args.self.now.stopped c.args.self.now.stopped (λ on. on) (new_here c.args.vol c.args.self.now.logs.items c.det_fresh.new.logs.items c.det_fresh.ensures.left)

pub returns-clause-ends_maps : goal.returns-clause-ends_maps
returns-clause-ends_maps g c = maps_end c.args.self.now.core c.det_fresh.new.core c.args.self.now.logs.items c.det_fresh.new.logs.items c.args.self.now.stopped c.args.self.now.stopped (g.S.Shelf.meaning c.args.self.now.shelf) (g.S.Shelf.meaning c.det_fresh.new.shelf) c.det_fresh.ensures.keeps
    c.det_fresh.ensures.disks.blamed (λ off on. absurd (let clash : false ≡ true = sym off ∙ on in cc)) (λ v r at. frames_places c.args.self.now.core.inner.config c.det_fresh.new.core.inner.config c.det_fresh.ensures.frames v Fmr r at) c.det_fresh.ensures.parts.later

pub returns-clause-flags : goal.returns-clause-flags
returns-clause-flags g c = (refl, refl)

pub returns-clause-stays : goal.returns-clause-stays
returns-clause-stays g c = c.det_fresh.ensures.stays

pub returns-clause-kept : goal.returns-clause-kept
returns-clause-kept g c = ok_from c.det_fresh.result (says_losses c.args.self.now.core c.det_fresh.new.core c.args.self.now.logs.items c.det_fresh.new.logs.items) c.det_fresh.ensures.kept

pub returns-clause-said : goal.returns-clause-said
returns-clause-said g c = c.det_fresh.ensures.said

pub returns-clause-refused : goal.returns-clause-refused
returns-clause-refused g c = c.det_fresh.ensures.refused

pub returns-clause-goes : goal.returns-clause-goes
returns-clause-goes g c = c.det_fresh.ensures.goes

pub returns-clause-parts : goal.returns-clause-parts
returns-clause-parts g c = c.det_fresh.ensures.parts

pub returns-clause-disks : goal.returns-clause-disks
returns-clause-disks g c = c.det_fresh.ensures.disks

pub returns-clause-frames : goal.returns-clause-frames
returns-clause-frames g c = c.det_fresh.ensures.frames

pub returns-clause-below : goal.returns-clause-below
returns-clause-below g c = c.det_fresh.ensures.below

pub returns-clause-on : goal.returns-clause-on
returns-clause-on g c = c.det_fresh.ensures.on

pub returns-clause-begins : goal.returns-clause-begins
returns-clause-begins g c = c.det_fresh.ensures.begins

pub returns-clause-off : goal.returns-clause-off
returns-clause-off g c = c.det_fresh.ensures.off

pub returns-clause-others : goal.returns-clause-others
returns-clause-others g c = c.det_fresh.ensures.others

pub returns-clause-maps : goal.returns-clause-maps
returns-clause-maps g c = c.det_fresh.ensures.maps

pub returns-clause-trust : goal.returns-clause-trust
returns-clause-trust g c = c.det_fresh.ensures.trust

pub returns-clause-agreed : goal.returns-clause-agreed
returns-clause-agreed g c = c.det_fresh.ensures.agreed

pub returns-clause-finds : goal.returns-clause-finds
returns-clause-finds g c = c.det_fresh.ensures.finds

pub returns-clause-cause : goal.returns-clause-cause
returns-clause-cause g c = c.det_fresh.ensures.cause
