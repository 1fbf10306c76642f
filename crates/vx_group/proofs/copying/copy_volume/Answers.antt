-- `copy_volume`: clauses moved, mirrored, cause and agreed.
use Rattle.std.specs.Option.{option_copied}
use Rattle.vx_resync.specs.Picks.{marked_or}
use Rattle.vx_group.proofs.CallLemmas.{blames_later}
use Rattle.vx_group.proofs.CopyLemmas.{flush_Mirrored, flush_Moved, ok_blamed, ok_both}
use Rattle.vx_group.proofs.Standing.{apart_of_core}
use Rattle.vx_group.proofs.TrustLemmas.{err_from}
use Rattle.vx_group.proofs.copying.copy_volume.Goals as goal

pub returns-clause-moved : goal.returns-clause-moved
returns-clause-moved g c =
    flush_Moved c.args.core.now c.copy_regions.new.core c.flush_plexes.new.core c.args.vol c.args.source (marked_or (option_copied c.args.drl)) (g.S.Shelf.meaning c.args.shelf.now) (g.S.Shelf.meaning c.copy_regions.new.shelf) (g.S.Shelf.meaning c.flush_plexes.new.shelf) c.in-Ok.ensures.copied
    c.flush_plexes.ensures.narrows c.flush_plexes.ensures.spent c.flush_plexes.ensures.others c.flush_plexes.ensures.stands

pub returns-clause-mirrored : goal.returns-clause-mirrored
returns-clause-mirrored g c =
    ok_blamed _ _ c.flush_plexes.result (g.S.Shelf.meaning c.copy_regions.new.shelf) (g.S.Shelf.meaning c.flush_plexes.new.shelf) (ok_both _ _ c.flush_plexes.result (ok_both _ _ c.flush_plexes.result (c.flush_plexes.ensures.settled c.in-Ok.ensures.copied.settled) c.flush_plexes.ensures.all) c.flush_plexes.ensures.trust) c.flush_plexes.ensures.cause
    (λ both up. flush_Mirrored c.args.core.now c.copy_regions.new.core c.flush_plexes.new.core c.args.vol c.args.source (marked_or (option_copied c.args.drl)) (g.S.Shelf.meaning c.args.shelf.now) (g.S.Shelf.meaning c.copy_regions.new.shelf) (g.S.Shelf.meaning c.flush_plexes.new.shelf) c.in-Ok.ensures.copied
    c.flush_plexes.ensures.narrows c.flush_plexes.ensures.spent c.flush_plexes.ensures.others c.flush_plexes.ensures.stands both.0.0 both.1 up both.0.1
    (λ w p k in_it on. (apart_of_core c.args.core.now (g.S.Shelf.meaning c.args.shelf.now) c.requires.stands).above w p k in_it on))

pub returns-clause-cause : goal.returns-clause-cause
returns-clause-cause g c = blames_later c.flush_plexes.result (g.S.Shelf.meaning c.args.shelf.now) (g.S.Shelf.meaning c.copy_regions.new.shelf) (g.S.Shelf.meaning c.flush_plexes.new.shelf) c.copy_regions.ensures.moved.acts.disk_faults c.flush_plexes.ensures.cause

pub returns-clause-agreed : goal.returns-clause-agreed
returns-clause-agreed g c = err_from c.flush_plexes.result (λ keeps is. keeps (c.in-Ok.ensures.copied.trust is)) c.flush_plexes.ensures.agreed
