-- `write_staged`: clauses follows, cause, arrives, names and spends; what `write_fronts` asks.
use Rattle.std.proofs.Common.{ap, sym, subst}
use Rattle.vx_disk.specs.Causes.{Names}
use Rattle.vx_disk.proofs.Naming.{names_before, names_exit}
use Rattle.std.proofs.lemmas.Result.{err_from_is_err_and, on_ok_weaker}
use Rattle.vx_ringio.specs.Tracks.{Arrives, Follows, RingLies}
use Rattle.vx_srl.specs.Fronts.{seal_written}
use Rattle.vx_srl.specs.Views.{Log}
use Rattle.vx_srl.proofs.FrontLaws.{ended_err, ended_last, flush_cut, fronts_cut, fronts_follow, lies_stays, places_low, seal_arrives, seal_follows}
use Rattle.vx_srl.proofs.LogLists.{place_low}
use Rattle.vx_disk.proofs.Spending.{spends_none, then_spends}
use Rattle.vx_srl.proofs.log.Srl.write_staged.Goals as goal

pub returns-in_err-flush_ring-clause-follows : goal.returns-in_err-flush_ring-clause-follows
returns-in_err-flush_ring-clause-follows g c =
    subst (λ (x : Log). Follows x.unit x.ring (seal_written x.ring x.staged) (g.S.Shelf.meaning c.args.shelf.now) (g.S.Shelf.meaning c.flush_ring.new.shelf)) c.self.view_is
    (flush_cut c.self.inside.unit c.self.inside.ring _ _ _ (c.flush_ring.ensures.follows c.self.inside.ring))

pub write_fronts-requires-clause-lies : goal.write_fronts-requires-clause-lies
write_fronts-requires-clause-lies g c =
    lies_stays c.self.inside.unit c.self.inside.ring _ _ _ (c.flush_ring.ensures.follows c.self.inside.ring) (subst (λ (x : Log). RingLies x.unit x.ring (g.S.Shelf.meaning c.args.shelf.now)) (sym c.self.view_is) c.requires.lies)

pub write_fronts-requires-clause-places : goal.write_fronts-requires-clause-places
write_fronts-requires-clause-places g c =
    places_low c.self.inside.ring c.self.inside.header.place c.self.inside.records.items (place_low c.self.inside.ring c.self.inside.header c.self.invariant.ordered.of_ring) c.self.invariant.ordered.placed

pub returns-in_err-write_fronts-clause-follows : goal.returns-in_err-write_fronts-clause-follows
returns-in_err-write_fronts-clause-follows g c =
    subst (λ (x : Log). Follows x.unit x.ring (seal_written x.ring x.staged) (g.S.Shelf.meaning c.args.shelf.now) (g.S.Shelf.meaning c.write_fronts.new.shelf)) c.self.view_is
    (fronts_cut c.self.inside.unit c.self.inside.ring _ _ _ (c.flush_ring.ensures.follows c.self.inside.ring) (c.in_ok-flush_ring.ensures.arrives c.self.inside.ring) _ c.write_fronts.ensures.follows)

pub returns-in_err-write_fronts-clause-cause : goal.returns-in_err-write_fronts-clause-cause
returns-in_err-write_fronts-clause-cause g c =
    let p = err_from_is_err_and c.from_residual-in_err-write_fronts.result c.from_residual-in_err-write_fronts.ensures.1 in
    ended_err _ c.self.inside.unit c.self.inside.ring _ _ (g.S.Shelf.meaning c.flush_ring.new.shelf) (g.S.Shelf.meaning c.write_fronts.new.shelf) c.from_residual-in_err-write_fronts.result p.0 p.1 (c.flush_ring.ensures.follows c.self.inside.ring)
    (rw p.2 c.in_err-write_fronts.ensures.cause)

pub flush_ring-requires-2 : goal.flush_ring-requires-2
flush_ring-requires-2 g c =
    let first = lies_stays c.self.inside.unit c.self.inside.ring _ _ _ (c.flush_ring.ensures.follows c.self.inside.ring) (subst (λ (x : Log). RingLies x.unit x.ring (g.S.Shelf.meaning c.args.shelf.now)) (sym c.self.view_is) c.requires.lies) in
    record { exists = (lies_stays c.self.inside.unit c.self.inside.ring _ _ _ c.write_fronts.ensures.follows first).exists }

pub returns-clause-follows : goal.returns-clause-follows
returns-clause-follows g c =
    subst (λ (x : Log). Follows x.unit x.ring (seal_written x.ring x.staged) (g.S.Shelf.meaning c.args.shelf.now) (g.S.Shelf.meaning c.flush_ring-2.new.shelf)) c.self.view_is
    (seal_follows c.self.inside.unit c.self.inside.ring _ _ _ (c.flush_ring.ensures.follows c.self.inside.ring) (c.in_ok-flush_ring.ensures.arrives c.self.inside.ring)
    _ c.write_fronts.ensures.follows c.in_ok-write_fronts.ensures.arrives _ (c.flush_ring-2.ensures.follows c.self.inside.ring))

pub returns-clause-arrives : goal.returns-clause-arrives
returns-clause-arrives g c =
    on_ok_weaker c.flush_ring-2.result
    (λ last. subst (λ (x : Log). Arrives x.unit x.ring (seal_written x.ring x.staged) (g.S.Shelf.meaning c.args.shelf.now) (g.S.Shelf.meaning c.flush_ring-2.new.shelf)) c.self.view_is
    (seal_arrives c.self.inside.unit c.self.inside.ring _ _ _ (c.flush_ring.ensures.follows c.self.inside.ring) (c.in_ok-flush_ring.ensures.arrives c.self.inside.ring)
    _ c.write_fronts.ensures.follows c.in_ok-write_fronts.ensures.arrives _ (last c.self.inside.ring)))
    c.flush_ring-2.ensures.arrives

pub returns-clause-cause : goal.returns-clause-cause
returns-clause-cause g c =
    let first = fronts_follow c.self.inside.unit c.self.inside.ring _ _ _ (c.flush_ring.ensures.follows c.self.inside.ring) (c.in_ok-flush_ring.ensures.arrives c.self.inside.ring) _ c.write_fronts.ensures.follows in
    ended_last _ c.self.inside.unit c.self.inside.ring _ _ _ _ c.flush_ring-2.result first c.flush_ring-2.ensures.cause

pub returns-in_err-write_fronts-clause-spends : goal.returns-in_err-write_fronts-clause-spends
returns-in_err-write_fronts-clause-spends g c = then_spends _ _ _ c.flush_ring.ensures.spends c.write_fronts.ensures.spends

pub returns-clause-spends : goal.returns-clause-spends
returns-clause-spends g c = then_spends _ _ _ (then_spends _ _ _ c.flush_ring.ensures.spends c.write_fronts.ensures.spends) c.flush_ring-2.ensures.spends

pub returns-in_err-flush_ring-clause-names : goal.returns-in_err-flush_ring-clause-names
returns-in_err-flush_ring-clause-names g c =
    let p = err_from_is_err_and c.from_residual.result c.from_residual.ensures.1 in
    names_exit (Unit {0}) (Unit {0}) _ _ _ _ _ c.from_residual.result p.0 _ p.1 p.2 (ap (λ (x : Log). x.unit) c.self.view_is) (spends_none (g.S.Shelf.meaning c.args.shelf.now)).told c.in_err-flush_ring.ensures.names

pub returns-in_err-write_fronts-clause-names : goal.returns-in_err-write_fronts-clause-names
returns-in_err-write_fronts-clause-names g c =
    let p = err_from_is_err_and c.from_residual-in_err-write_fronts.result c.from_residual-in_err-write_fronts.ensures.1 in
    names_exit (Unit {0}) (Unit {0}) _ _ _ _ _ c.from_residual-in_err-write_fronts.result p.0 _ p.1 p.2 (ap (λ (x : Log). x.unit) c.self.view_is) c.flush_ring.ensures.spends.told c.in_err-write_fronts.ensures.names

pub returns-clause-names : goal.returns-clause-names
returns-clause-names g c =
    subst (λ (x : Log). Names (g.S.Shelf.meaning c.args.shelf.now).disks x.unit c.flush_ring-2.result) c.self.view_is
    (names_before (Unit {0}) _ _ _ _ c.flush_ring-2.result (then_spends _ _ _ c.flush_ring.ensures.spends c.write_fronts.ensures.spends).told c.flush_ring-2.ensures.names)
