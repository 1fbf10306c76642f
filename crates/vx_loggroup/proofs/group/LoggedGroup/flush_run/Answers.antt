-- The method `flush_run`: what the function asks, and what stands then.
use Rattle.std.proofs.Common.{◌≡◌, ◌∙◌, ap, false, true, refl, sym}
use Rattle.vx_config.specs.declared.entry.VolumeLog.TheVariants.{Fmr}
use Rattle.vx_loggroup.specs.Attaching.{fmr_or}
use Rattle.vx_loggroup.specs.Moving.{no_volume}
use Rattle.vx_loggroup.proofs.ComesLemmas.{gone_by, maps_come, new_none, trusts_maps}
use Rattle.vx_loggroup.proofs.EndedLemmas.{maps_end}
use Rattle.vx_loggroup.proofs.FactLemmas.{from_logged, to_logged}
use Rattle.vx_loggroup.proofs.KeepingLemmas.{frames_places}
use Rattle.vx_loggroup.proofs.FreshLemmas.{fresh_still}
use Rattle.vx_loggroup.specs.Mirrors.{names_none}
use Rattle.vx_loggroup.proofs.MirrorLemmas.{keep_loses}
use Rattle.vx_group.proofs.TrustLemmas.{ok_from}
use Rattle.vx_loggroup.proofs.SureLemmas.{says_losses}
use Rattle.vx_loggroup.proofs.SettledFacts.{settled_same, volumes_few}
use Rattle.vx_disk.specs.Shelf.{Nothing}
use Rattle.vx_loggroup.proofs.group.LoggedGroup.flush_run.Goals as goal

pub flush_run-requires-clause-stands : goal.flush_run-requires-clause-stands
flush_run-requires-clause-stands g c = from_logged c.args.self.now.core c.args.self.now.logs.items c.args.self.now.alike c.args.self.now.stopped (g.S.Shelf.meaning c.args.self.now.shelf) c.args.self.now.stands

pub returns-clause-loses : goal.returns-clause-loses
returns-clause-loses g c = c.flush_run.ensures.loses.loses

pub invariant_of-self : goal.invariant_of-self
invariant_of-self g c = record { stands = to_logged c.flush_run.new.core c.flush_run.new.logs.items c.args.self.now.alike c.args.self.now.stopped (g.S.Shelf.meaning c.flush_run.new.shelf) c.flush_run.ensures.stands; begins = fresh_still c.args.self.now.core c.flush_run.new.core c.args.self.now.fresh (g.S.Shelf.meaning c.args.self.now.shelf) (g.S.Shelf.meaning c.flush_run.new.shelf) c.flush_run.ensures.goes c.args.self.now.begins; settles = settled_same c.args.self.now.core c.flush_run.new.core c.args.self.now.alike (g.S.Shelf.meaning c.args.self.now.shelf) (g.S.Shelf.meaning c.flush_run.new.shelf) c.flush_run.ensures.finds (volumes_few c.args.self.now.core c.flush_run.new.core (g.S.Shelf.meaning c.args.self.now.shelf) (g.S.Shelf.meaning c.flush_run.new.shelf) Nothing c.flush_run.ensures.goes) c.flush_run.ensures.goes.falls c.args.self.now.settles }

pub returns-clause-mirrors : goal.returns-clause-mirrors
returns-clause-mirrors g c = keep_loses names_none c.args.self.now.core c.flush_run.new.core (g.S.Shelf.meaning c.args.self.now.shelf) (g.S.Shelf.meaning c.flush_run.new.shelf) c.flush_run.ensures.loses.loses

pub returns-clause-keeps : goal.returns-clause-keeps
returns-clause-keeps g c = c.flush_run.ensures.keeps

pub returns-clause-moves : goal.returns-clause-moves
returns-clause-moves g c = c.flush_run.ensures.moves

pub returns-clause-gone : goal.returns-clause-gone
returns-clause-gone g c = gone_by c.args.vol c.args.self.now.logs.items c.flush_run.new.logs.items c.flush_run.ensures.gone (λ w apart. ap fmr_or (c.flush_run.ensures.marks.others w apart))

pub returns-clause-comes : goal.returns-clause-comes
returns-clause-comes g c = maps_come c.args.self.now.core.inner.config c.flush_run.new.core.inner.config c.flush_run.new.logs.items (λ v r at. frames_places c.args.self.now.core.inner.config c.flush_run.new.core.inner.config c.flush_run.ensures.loses.loses.frames v Fmr r at) c.flush_run.ensures.loses.loses.disks.stays (trusts_maps c.args.vol c.args.self.now.core.inner.config c.flush_run.new.core.inner.config c.flush_run.new.logs.items c.flush_run.ensures.trusts)
    no_volume c.args.self.now.logs.items c.args.self.now.stopped c.args.self.now.stopped (λ on. on) (new_none c.args.self.now.logs.items c.flush_run.new.logs.items (gone_by c.args.vol c.args.self.now.logs.items c.flush_run.new.logs.items c.flush_run.ensures.gone (λ w apart. ap fmr_or (c.flush_run.ensures.marks.others w apart))))

pub returns-clause-ends_maps : goal.returns-clause-ends_maps
returns-clause-ends_maps g c = maps_end c.args.self.now.core c.flush_run.new.core c.args.self.now.logs.items c.flush_run.new.logs.items c.args.self.now.stopped c.args.self.now.stopped (g.S.Shelf.meaning c.args.self.now.shelf) (g.S.Shelf.meaning c.flush_run.new.shelf) c.flush_run.ensures.keeps
    c.flush_run.ensures.loses.loses.disks.blamed (λ off on. absurd (let clash : false ≡ true = sym off ∙ on in cc)) (λ v r at. frames_places c.args.self.now.core.inner.config c.flush_run.new.core.inner.config c.flush_run.ensures.loses.loses.frames v Fmr r at) c.flush_run.ensures.loses.loses.parts.later

pub returns-clause-flags : goal.returns-clause-flags
returns-clause-flags g c = (refl, refl)

pub returns-clause-rests : goal.returns-clause-rests
returns-clause-rests g c = c.flush_run.ensures.rests

pub returns-clause-left : goal.returns-clause-left
returns-clause-left g c = c.flush_run.ensures.left

pub returns-clause-kept : goal.returns-clause-kept
returns-clause-kept g c = ok_from c.flush_run.result (says_losses c.args.self.now.core c.flush_run.new.core c.args.self.now.logs.items c.flush_run.new.logs.items) c.flush_run.ensures.kept

pub returns-clause-said : goal.returns-clause-said
returns-clause-said g c = c.flush_run.ensures.said
