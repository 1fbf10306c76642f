-- The map of a plex of a volume that becomes another one's.
use Rattle.std.proofs.Common.{◌∙◌, ap}
use Rattle.vx_groupmaps.proofs.CopyRows.{both_there, copy_goes, copy_stands}
use Rattle.vx_logs.proofs.MarkLemmas.{fits_later, same_drl}
use Rattle.vx_model.specs.Sizes.{regions_of as regions_in}
use Rattle.vx_groupmaps.proofs.copying.copy_map.Goals as goal

pub copy_one-requires : goal.copy_one-requires
copy_one-requires g c = record {
  has = both_there c.args.config.now c.requires.checked c.args.vol c.requires.some c.args.logs.now c.requires.fits (g.S.Shelf.meaning c.args.shelf.now) c.requires.disks c.args.to c.args.from c.div_ceil-count.result (c.div_ceil-count.ensures ∙ ap regions_in c.blocks_of.ensures) c.requires.to c.requires.from
      c.requires.apart;
}

pub returns-clause-goes : goal.returns-clause-goes
returns-clause-goes g c =
    copy_goes c.args.config.now c.requires.checked c.args.vol c.requires.some c.args.logs.now c.requires.fits (g.S.Shelf.meaning c.args.shelf.now) c.requires.disks (g.S.Shelf.meaning c.copy_one.new.shelf) c.copy_one.ensures.writes

pub returns-clause-fits : goal.returns-clause-fits
returns-clause-fits g c =
    fits_later c.args.config.now c.args.vol c.args.logs.now (record { drl = c.args.logs.now.drl; fmr = c.copy_one.new.fmr }) c.requires.fits (same_drl c.args.logs.now.drl) c.copy_one.ensures.keeps

pub returns-clause-stands : goal.returns-clause-stands
returns-clause-stands g c =
    copy_stands c.args.config.now c.requires.checked c.args.vol c.requires.some c.args.logs.now c.requires.fits (g.S.Shelf.meaning c.args.shelf.now) c.requires.disks (g.S.Shelf.meaning c.copy_one.new.shelf) c.copy_one.ensures.writes
    c.args.to c.args.from c.copy_one.new.fmr c.copy_one.result c.copy_one.ensures.answers
