-- `att`: what `att_held` asks, and what stands then.
use Rattle.std.proofs.Common.{◌≡◌, ◌∙◌, false, true, refl, sym, length}
use Rattle.vx_config.specs.declared.entry.VolumeLog.TheVariants.{Fmr}
use Rattle.vx_loggroup.proofs.AttMoves.{att_begins, att_moves, attached_on, going_on}
use Rattle.vx_loggroup.proofs.EndedLemmas.{maps_end}
use Rattle.vx_loggroup.proofs.FactLemmas.{from_logged, to_logged}
use Rattle.vx_loggroup.proofs.KeepingLemmas.{shape_places}
use Rattle.vx_loggroup.proofs.FreshLemmas.{fresh_still}
use Rattle.vx_loggroup.specs.Attaching.{leaves_maps, map_by, maps_gone}
use Rattle.vx_loggroup.specs.LoggedVolumes.{is_alike}
use Rattle.vx_loggroup.proofs.MirrorLemmas.{keep_att}
use Rattle.vx_loggroup.proofs.SettledFacts.{settled_by, sure_next, volumes_few}
use Rattle.vx_group.proofs.UnsureMarks.{same_unsure}
use Rattle.vx_disk.specs.Shelf.{Nothing}
use Rattle.vx_loggroup.proofs.group.LoggedGroup.att.Goals as goal

pub att_held-requires : goal.att_held-requires
att_held-requires g c = record { stands = from_logged c.args.self.now.core c.args.self.now.logs.items c.args.self.now.alike c.args.self.now.stopped (g.S.Shelf.meaning c.args.self.now.shelf) c.args.self.now.stands }

pub invariant_of-self : goal.invariant_of-self
invariant_of-self g c = record { stands = to_logged c.att_held.new.core c.att_held.new.logs.items c.args.self.now.alike c.args.self.now.stopped (g.S.Shelf.meaning c.att_held.new.shelf) c.att_held.ensures.stands; begins = fresh_still c.args.self.now.core c.att_held.new.core c.args.self.now.fresh (g.S.Shelf.meaning c.args.self.now.shelf) (g.S.Shelf.meaning c.att_held.new.shelf) c.att_held.ensures.attaches.goes c.args.self.now.begins; settles = settled_by c.args.self.now.core c.att_held.new.core c.args.self.now.alike c.args.self.now.alike (g.S.Shelf.meaning c.args.self.now.shelf) (g.S.Shelf.meaning c.att_held.new.shelf) c.att_held.ensures.settles (λ up. sure_next (length c.args.self.now.core.inner.config.volumes) (length c.att_held.new.core.inner.config.volumes) c.args.self.now.core.inner.unsure c.att_held.new.core.inner.unsure c.args.self.now.alike c.args.self.now.alike (volumes_few c.args.self.now.core c.att_held.new.core (g.S.Shelf.meaning c.args.self.now.shelf) (g.S.Shelf.meaning c.att_held.new.shelf) Nothing c.att_held.ensures.attaches.goes) (same_unsure c.args.self.now.core.inner.unsure c.att_held.new.core.inner.unsure c.att_held.ensures.attaches.unsure) (λ v is set. set) (c.args.self.now.settles.sure (λ down. up (c.att_held.ensures.attaches.goes.falls down)))) c.args.self.now.settles }

pub returns-clause-mirrors : goal.returns-clause-mirrors
returns-clause-mirrors g c = keep_att _ c.args.vol c.args.plex (map_by c.args.self.now.logs.items c.args.self.now.core.inner.config c.args.self.now.stopped (g.S.Shelf.meaning c.args.self.now.shelf).down c.args.vol c.args.plex) c.args.self.now.core c.att_held.new.core (g.S.Shelf.meaning c.args.self.now.shelf) (g.S.Shelf.meaning c.att_held.new.shelf) c.att_held.ensures.attaches c.att_held.ensures.regains

pub returns-clause-keeps : goal.returns-clause-keeps
returns-clause-keeps g c = c.att_held.ensures.keeps

pub returns-clause-moves : goal.returns-clause-moves
returns-clause-moves g c =
    att_moves (is_alike c.args.self.now.alike c.args.vol) c.args.self.now.stopped c.att_held.result c.args.self.now.core c.att_held.new.core c.args.vol c.args.plex c.args.self.now.logs.items c.att_held.new.logs.items c.att_held.ensures.maps c.att_held.ensures.follows
    (λ leaves l at f has. (((from_logged c.args.self.now.core c.args.self.now.logs.items c.args.self.now.alike c.args.self.now.stopped (g.S.Shelf.meaning c.args.self.now.shelf) c.args.self.now.stands).each c.args.vol l at).on (going_on (is_alike c.args.self.now.alike c.args.vol) c.args.self.now.stopped (maps_gone c.args.self.now.core.inner.config c.args.self.now.logs.items c.att_held.new.logs.items c.args.vol) c.att_held.result leaves)).fits.fmr f has)
    (attached_on c.att_held.result c.args.self.now.core c.att_held.new.core c.args.vol c.args.plex (g.S.Shelf.meaning c.att_held.new.shelf) (λ no is. (c.att_held.ensures.refused no is).0) (λ none on. (c.att_held.ensures.already none on).1) c.att_held.ensures.ends)

pub returns-clause-comes : goal.returns-clause-comes
returns-clause-comes g c = att_begins (leaves_maps (is_alike c.args.self.now.alike c.args.vol) c.args.self.now.stopped (maps_gone c.args.self.now.core.inner.config c.args.self.now.logs.items c.att_held.new.logs.items c.args.vol) c.att_held.result) c.args.self.now.core c.att_held.new.core c.args.vol c.args.plex c.args.self.now.logs.items c.att_held.new.logs.items c.args.self.now.stopped c.att_held.ensures.maps c.att_held.ensures.follows

pub returns-clause-ends_maps : goal.returns-clause-ends_maps
returns-clause-ends_maps g c = maps_end c.args.self.now.core c.att_held.new.core c.args.self.now.logs.items c.att_held.new.logs.items c.args.self.now.stopped c.args.self.now.stopped (g.S.Shelf.meaning c.args.self.now.shelf) (g.S.Shelf.meaning c.att_held.new.shelf) c.att_held.ensures.keeps
    c.att_held.ensures.regains.blamed (λ off on. absurd (let clash : false ≡ true = sym off ∙ on in cc)) (λ v r at. shape_places c.args.self.now.core.inner.config c.att_held.new.core.inner.config c.att_held.ensures.attaches.shape v Fmr r at) c.att_held.ensures.attaches.parts.later

pub returns-clause-flags : goal.returns-clause-flags
returns-clause-flags g c = (refl, refl)

pub returns-clause-kept : goal.returns-clause-kept
returns-clause-kept g c = c.att_held.ensures.kept

pub returns-clause-tests : goal.returns-clause-tests
returns-clause-tests g c = c.att_held.ensures.tests

pub returns-clause-refused : goal.returns-clause-refused
returns-clause-refused g c = c.att_held.ensures.refused

pub returns-clause-already : goal.returns-clause-already
returns-clause-already g c = c.att_held.ensures.already

pub returns-clause-count : goal.returns-clause-count
returns-clause-count g c = c.att_held.ensures.count

pub returns-clause-attaches : goal.returns-clause-attaches
returns-clause-attaches g c = c.att_held.ensures.attaches

pub returns-clause-ends : goal.returns-clause-ends
returns-clause-ends g c = c.att_held.ensures.ends

pub returns-clause-regains : goal.returns-clause-regains
returns-clause-regains g c = c.att_held.ensures.regains

pub returns-clause-held : goal.returns-clause-held
returns-clause-held g c = c.att_held.ensures.held

pub returns-clause-follows : goal.returns-clause-follows
returns-clause-follows g c = c.att_held.ensures.follows

pub returns-clause-trust : goal.returns-clause-trust
returns-clause-trust g c = c.att_held.ensures.trust

pub returns-clause-finds : goal.returns-clause-finds
returns-clause-finds g c = c.att_held.ensures.finds

pub returns-clause-free : goal.returns-clause-free
returns-clause-free g c = c.att_held.ensures.free

pub returns-clause-cause : goal.returns-clause-cause
returns-clause-cause g c = c.att_held.ensures.cause
