-- The map of a plex of a volume that is emptied.
use Rattle.vx_groupmaps.proofs.BeginLemmas.{begin_covers, begin_goes, begin_ready, begin_stands, has_map}
use Rattle.vx_logs.proofs.MarkLemmas.{fits_later, same_drl}
use Rattle.vx_groupmaps.proofs.beginning.begin_map.Goals as goal

pub empty_one-requires : goal.empty_one-requires
empty_one-requires g c = record { has = has_map c.args.config.now c.requires.checked c.args.vol c.requires.some c.args.logs.now c.requires.fits (g.S.Shelf.meaning c.args.shelf.now) c.requires.disks c.args.plex c.requires.exists }

pub returns-clause-goes : goal.returns-clause-goes
returns-clause-goes g c =
    begin_goes c.args.config.now c.requires.checked c.args.vol c.requires.some c.args.logs.now c.requires.fits (g.S.Shelf.meaning c.args.shelf.now) c.requires.disks c.args.plex (g.S.Shelf.meaning c.empty_one.new.shelf) c.empty_one.ensures.writes

pub returns-clause-fits : goal.returns-clause-fits
returns-clause-fits g c =
    fits_later c.args.config.now c.args.vol c.args.logs.now (record { drl = c.args.logs.now.drl; fmr = c.empty_one.new.fmr }) c.requires.fits (same_drl c.args.logs.now.drl) c.empty_one.ensures.keeps

pub returns-clause-stands : goal.returns-clause-stands
returns-clause-stands g c =
    begin_stands c.args.config.now c.requires.checked c.args.vol c.requires.some c.args.logs.now c.requires.fits (g.S.Shelf.meaning c.args.shelf.now) c.requires.disks c.args.plex (g.S.Shelf.meaning c.empty_one.new.shelf) c.empty_one.ensures.writes
    c.empty_one.new.fmr c.empty_one.result c.empty_one.ensures.answers

pub returns-clause-covers : goal.returns-clause-covers
returns-clause-covers g c =
    begin_covers c.args.config.now c.requires.checked c.args.vol c.requires.some c.args.logs.now c.requires.fits (g.S.Shelf.meaning c.args.shelf.now) c.requires.disks c.args.plex (g.S.Shelf.meaning c.empty_one.new.shelf) c.empty_one.ensures.writes
    c.empty_one.new.fmr c.empty_one.result c.empty_one.ensures.answers

pub returns-clause-ready : goal.returns-clause-ready
returns-clause-ready g c =
    begin_ready c.args.config.now c.requires.checked c.args.vol c.requires.some c.args.logs.now c.requires.fits (g.S.Shelf.meaning c.args.shelf.now) c.requires.disks c.args.plex (g.S.Shelf.meaning c.empty_one.new.shelf) c.empty_one.ensures.writes
    c.empty_one.new.fmr c.empty_one.result c.empty_one.ensures.answers
