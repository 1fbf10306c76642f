-- `make_volume`: what `make_fresh` asks, and what stands then.
use Rattle.std.proofs.Common.{◌≡◌, ◌∙◌, false, true, inl, sym}
use Rattle.vx_config.specs.declared.entry.VolumeLog.TheVariants.{Fmr}
use Rattle.vx_loggroup.specs.Moving.{no_volume}
use Rattle.vx_loggroup.proofs.ComesLemmas.{maps_come, new_same}
use Rattle.vx_loggroup.proofs.EndedLemmas.{maps_end}
use Rattle.vx_loggroup.proofs.FactLemmas.{from_logged, to_logged}
use Rattle.vx_loggroup.proofs.KeepingLemmas.{extends_places}
use Rattle.vx_loggroup.proofs.MovedLemmas.{move_none}
use Rattle.vx_loggroup.proofs.MirrorLemmas.{keep_make}
use Rattle.vx_loggroup.proofs.SureLemmas.{says_losses}
use Rattle.vx_loggroup.proofs.SettledFacts.{settled_made}
use Rattle.vx_loggroup.proofs.group.LoggedGroup.make_volume.Goals as goal

pub make_fresh-requires-clause-stands : goal.make_fresh-requires-clause-stands
make_fresh-requires-clause-stands g c = from_logged c.args.self.now.core c.args.self.now.logs.items c.args.self.now.alike c.args.self.now.stopped (g.S.Shelf.meaning c.args.self.now.shelf) c.args.self.now.stands

pub make_fresh-requires-clause-fresh : goal.make_fresh-requires-clause-fresh
make_fresh-requires-clause-fresh g c = c.args.self.now.begins

pub invariant_of-self : goal.invariant_of-self
invariant_of-self g c = record { stands = to_logged c.make_fresh.new.core c.make_fresh.new.logs.items c.make_fresh.new.alike c.args.self.now.stopped (g.S.Shelf.meaning c.make_fresh.new.shelf) c.make_fresh.ensures.stands; begins = c.make_fresh.ensures.fresh; settles = settled_made c.args.self.now.core c.make_fresh.new.core c.args.name.now c.args.want.now (g.S.Shelf.meaning c.args.self.now.shelf) (g.S.Shelf.meaning c.make_fresh.new.shelf) (c.make_fresh.new.shelf ≡ c.args.self.now.shelf) c.args.self.now.alike c.make_fresh.new.alike c.make_fresh.result c.make_fresh.ensures.finds c.make_fresh.ensures.refused c.make_fresh.ensures.ends c.make_fresh.ensures.alike c.make_fresh.ensures.flags c.make_fresh.ensures.stays.goes.falls c.args.self.now.settles }

pub returns-clause-mirrors : goal.returns-clause-mirrors
returns-clause-mirrors g c = keep_make c.args.self.now.core c.make_fresh.new.core (g.S.Shelf.meaning c.args.self.now.shelf) (g.S.Shelf.meaning c.make_fresh.new.shelf) c.make_fresh.ensures.stays c.make_fresh.ensures.disks

pub returns-clause-keeps : goal.returns-clause-keeps
returns-clause-keeps g c = c.make_fresh.ensures.keeps

pub returns-clause-moves : goal.returns-clause-moves
returns-clause-moves g c = move_none c.args.self.now.core.inner.config c.make_fresh.new.core.inner.config c.args.self.now.logs.items c.make_fresh.new.logs.items (λ v. inl (c.make_fresh.ensures.left v))

pub returns-clause-comes : goal.returns-clause-comes
returns-clause-comes g c = maps_come c.args.self.now.core.inner.config c.make_fresh.new.core.inner.config c.make_fresh.new.logs.items (λ v r at. extends_places c.args.self.now.core.inner.config c.make_fresh.new.core.inner.config c.make_fresh.ensures.stays.shape v Fmr r at) c.make_fresh.ensures.disks.stays (λ v some told. c.make_fresh.ensures.trusts.each v Fmr told)
    no_volume c.args.self.now.logs.items c.args.self.now.stopped c.args.self.now.stopped (λ on. on) (new_same c.args.self.now.logs.items c.make_fresh.new.logs.items c.make_fresh.ensures.left)

pub returns-clause-ends_maps : goal.returns-clause-ends_maps
returns-clause-ends_maps g c = maps_end c.args.self.now.core c.make_fresh.new.core c.args.self.now.logs.items c.make_fresh.new.logs.items c.args.self.now.stopped c.args.self.now.stopped (g.S.Shelf.meaning c.args.self.now.shelf) (g.S.Shelf.meaning c.make_fresh.new.shelf) c.make_fresh.ensures.keeps
    c.make_fresh.ensures.disks.blamed (λ off on. absurd (let clash : false ≡ true = sym off ∙ on in cc)) (λ v r at. extends_places c.args.self.now.core.inner.config c.make_fresh.new.core.inner.config c.make_fresh.ensures.stays.shape v Fmr r at) c.make_fresh.ensures.parts.later

pub returns-clause-left : goal.returns-clause-left
returns-clause-left g c = c.make_fresh.ensures.left

pub returns-clause-alike : goal.returns-clause-alike
returns-clause-alike g c = c.make_fresh.ensures.alike

pub returns-clause-flags : goal.returns-clause-flags
returns-clause-flags g c = c.make_fresh.ensures.flags

pub returns-clause-kept : goal.returns-clause-kept
returns-clause-kept g c = says_losses c.args.self.now.core c.make_fresh.new.core c.args.self.now.logs.items c.make_fresh.new.logs.items c.make_fresh.ensures.kept

pub returns-clause-refused : goal.returns-clause-refused
returns-clause-refused g c = c.make_fresh.ensures.refused

pub returns-clause-stays : goal.returns-clause-stays
returns-clause-stays g c = c.make_fresh.ensures.stays

pub returns-clause-below : goal.returns-clause-below
returns-clause-below g c = c.make_fresh.ensures.below

pub returns-clause-ends : goal.returns-clause-ends
returns-clause-ends g c = c.make_fresh.ensures.ends

pub returns-clause-parts : goal.returns-clause-parts
returns-clause-parts g c = c.make_fresh.ensures.parts

pub returns-clause-disks : goal.returns-clause-disks
returns-clause-disks g c = c.make_fresh.ensures.disks

pub returns-clause-held : goal.returns-clause-held
returns-clause-held g c = c.make_fresh.ensures.held

pub returns-clause-up : goal.returns-clause-up
returns-clause-up g c = c.make_fresh.ensures.up

pub returns-clause-newest : goal.returns-clause-newest
returns-clause-newest g c = c.make_fresh.ensures.newest

pub returns-clause-trust : goal.returns-clause-trust
returns-clause-trust g c = c.make_fresh.ensures.trust

pub returns-clause-whole : goal.returns-clause-whole
returns-clause-whole g c = c.make_fresh.ensures.whole

pub returns-clause-agreed : goal.returns-clause-agreed
returns-clause-agreed g c = c.make_fresh.ensures.agreed

pub returns-clause-finds : goal.returns-clause-finds
returns-clause-finds g c = c.make_fresh.ensures.finds

pub returns-clause-unmoved : goal.returns-clause-unmoved
returns-clause-unmoved g c = c.make_fresh.ensures.unmoved

pub returns-clause-begins : goal.returns-clause-begins
returns-clause-begins g c = c.make_fresh.ensures.begins
