-- Marks that are taken off.
use Rattle.std.proofs.Common.{refl}
use Rattle.vx_grouplogs.specs.Covering.{OnLogs}
use Rattle.vx_logs.proofs.MarkLemmas.{fits_later, same_fmr}
use Rattle.vx_grouplogs.proofs.CoverLemmas.{all_cover, all_memory, clear_goes, clear_stands, clears_refused, drl_lies, others_kept}
use Rattle.vx_grouplogs.proofs.GroupLemmas.{logs_keep}
use Rattle.vx_grouplogs.proofs.clearing.clear_marks.Goals as goal

pub clear_drl-requires : goal.clear_drl-requires
clear_drl-requires g c =
    record { lies = drl_lies c.args.config.now c.requires.checked c.args.vol c.requires.some c.args.logs.now c.requires.fits (g.S.Shelf.meaning c.args.shelf.now) c.requires.disks }

pub returns-in-Ok-clause-goes : goal.returns-in-Ok-clause-goes
returns-in-Ok-clause-goes g c =
    clear_goes c.args.config.now c.requires.checked c.args.vol c.requires.some c.args.logs.now c.requires.fits (g.S.Shelf.meaning c.args.shelf.now) (g.S.Shelf.meaning c.clear_drl.new.shelf) c.requires.disks c.clear_drl.ensures.writes

pub returns-in-Ok-clause-group : goal.returns-in-Ok-clause-group
returns-in-Ok-clause-group g c =
    logs_keep c.args.config.now c.requires.checked c.args.vol (g.S.Shelf.meaning c.args.shelf.now) (g.S.Shelf.meaning c.clear_drl.new.shelf) (g.met.S.Shelf.lawful c.args.shelf.now) (g.met.S.Shelf.lawful c.clear_drl.new.shelf)
    (clear_goes c.args.config.now c.requires.checked c.args.vol c.requires.some c.args.logs.now c.requires.fits (g.S.Shelf.meaning c.args.shelf.now) (g.S.Shelf.meaning c.clear_drl.new.shelf) c.requires.disks c.clear_drl.ensures.writes)

pub returns-in-Ok-clause-others : goal.returns-in-Ok-clause-others
returns-in-Ok-clause-others g c =
    others_kept c.args.config.now c.requires.checked c.args.vol (g.S.Shelf.meaning c.args.shelf.now) (g.S.Shelf.meaning c.clear_drl.new.shelf) c.requires.disks
    (clear_goes c.args.config.now c.requires.checked c.args.vol c.requires.some c.args.logs.now c.requires.fits (g.S.Shelf.meaning c.args.shelf.now) (g.S.Shelf.meaning c.clear_drl.new.shelf) c.requires.disks c.clear_drl.ensures.writes)

pub returns-in-Ok-clause-fits : goal.returns-in-Ok-clause-fits
returns-in-Ok-clause-fits g c =
    fits_later c.args.config.now c.args.vol c.args.logs.now (record { drl = c.clear_drl.new.drl; fmr = c.args.logs.now.fmr }) c.requires.fits c.clear_drl.ensures.keeps (same_fmr c.args.logs.now.fmr)

pub returns-in-Ok-clause-memory : goal.returns-in-Ok-clause-memory
returns-in-Ok-clause-memory g c =
    all_memory c.args.config.now c.requires.checked c.args.vol (OnLogs c.args.config.now c.args.vol) (g.S.Shelf.meaning c.args.shelf.now) (g.S.Shelf.meaning c.clear_drl.new.shelf)
    (clear_goes c.args.config.now c.requires.checked c.args.vol c.requires.some c.args.logs.now c.requires.fits (g.S.Shelf.meaning c.args.shelf.now) (g.S.Shelf.meaning c.clear_drl.new.shelf) c.requires.disks c.clear_drl.ensures.writes) (λ u b x on. on) (record { drl = c.clear_drl.new.drl; fmr = c.args.logs.now.fmr })

pub returns-in-Ok-clause-covers : goal.returns-in-Ok-clause-covers
returns-in-Ok-clause-covers g c =
    all_cover c.args.config.now c.requires.checked c.args.vol (OnLogs c.args.config.now c.args.vol) (g.S.Shelf.meaning c.args.shelf.now) (g.S.Shelf.meaning c.clear_drl.new.shelf)
    (clear_goes c.args.config.now c.requires.checked c.args.vol c.requires.some c.args.logs.now c.requires.fits (g.S.Shelf.meaning c.args.shelf.now) (g.S.Shelf.meaning c.clear_drl.new.shelf) c.requires.disks c.clear_drl.ensures.writes) (λ u b x on. on)

pub returns-in-Err-clause-goes : goal.returns-in-Err-clause-goes
returns-in-Err-clause-goes g c =
    clear_goes c.args.config.now c.requires.checked c.args.vol c.requires.some c.args.logs.now c.requires.fits (g.S.Shelf.meaning c.args.shelf.now) (g.S.Shelf.meaning c.clear_drl.new.shelf) c.requires.disks c.clear_drl.ensures.writes

pub returns-in-Err-clause-group : goal.returns-in-Err-clause-group
returns-in-Err-clause-group g c =
    logs_keep c.args.config.now c.requires.checked c.args.vol (g.S.Shelf.meaning c.args.shelf.now) (g.S.Shelf.meaning c.clear_drl.new.shelf) (g.met.S.Shelf.lawful c.args.shelf.now) (g.met.S.Shelf.lawful c.clear_drl.new.shelf)
    (clear_goes c.args.config.now c.requires.checked c.args.vol c.requires.some c.args.logs.now c.requires.fits (g.S.Shelf.meaning c.args.shelf.now) (g.S.Shelf.meaning c.clear_drl.new.shelf) c.requires.disks c.clear_drl.ensures.writes)

pub returns-in-Err-clause-others : goal.returns-in-Err-clause-others
returns-in-Err-clause-others g c =
    others_kept c.args.config.now c.requires.checked c.args.vol (g.S.Shelf.meaning c.args.shelf.now) (g.S.Shelf.meaning c.clear_drl.new.shelf) c.requires.disks
    (clear_goes c.args.config.now c.requires.checked c.args.vol c.requires.some c.args.logs.now c.requires.fits (g.S.Shelf.meaning c.args.shelf.now) (g.S.Shelf.meaning c.clear_drl.new.shelf) c.requires.disks c.clear_drl.ensures.writes)

pub returns-in-Err-clause-fits : goal.returns-in-Err-clause-fits
returns-in-Err-clause-fits g c =
    fits_later c.args.config.now c.args.vol c.args.logs.now (record { drl = c.clear_drl.new.drl; fmr = c.args.logs.now.fmr }) c.requires.fits c.clear_drl.ensures.keeps (same_fmr c.args.logs.now.fmr)

pub returns-in-Err-clause-memory : goal.returns-in-Err-clause-memory
returns-in-Err-clause-memory g c =
    all_memory c.args.config.now c.requires.checked c.args.vol (OnLogs c.args.config.now c.args.vol) (g.S.Shelf.meaning c.args.shelf.now) (g.S.Shelf.meaning c.clear_drl.new.shelf)
    (clear_goes c.args.config.now c.requires.checked c.args.vol c.requires.some c.args.logs.now c.requires.fits (g.S.Shelf.meaning c.args.shelf.now) (g.S.Shelf.meaning c.clear_drl.new.shelf) c.requires.disks c.clear_drl.ensures.writes) (λ u b x on. on) (record { drl = c.clear_drl.new.drl; fmr = c.args.logs.now.fmr })

pub returns-in-Err-clause-covers : goal.returns-in-Err-clause-covers
returns-in-Err-clause-covers g c =
    all_cover c.args.config.now c.requires.checked c.args.vol (OnLogs c.args.config.now c.args.vol) (g.S.Shelf.meaning c.args.shelf.now) (g.S.Shelf.meaning c.clear_drl.new.shelf)
    (clear_goes c.args.config.now c.requires.checked c.args.vol c.requires.some c.args.logs.now c.requires.fits (g.S.Shelf.meaning c.args.shelf.now) (g.S.Shelf.meaning c.clear_drl.new.shelf) c.requires.disks c.clear_drl.ensures.writes) (λ u b x on. on)

pub returns-in-Ok-clause-clears : goal.returns-in-Ok-clause-clears
returns-in-Ok-clause-clears g c =
    (c.in-Ok.ensures.clears.0, refl, refl, c.in-Ok.ensures.clears.1)

pub returns-in-Err-clause-clears : goal.returns-in-Err-clause-clears
returns-in-Err-clause-clears g c =
    clears_refused c.args.logs.now.drl c.clear_drl.new.drl c.args.logs.now (record { drl = c.clear_drl.new.drl; fmr = c.args.logs.now.fmr }) (g.S.Shelf.meaning c.args.shelf.now) (g.S.Shelf.meaning c.clear_drl.new.shelf) c.in-Err.no c.in-Err.ensures.clears

pub returns-in-Ok-clause-stands : goal.returns-in-Ok-clause-stands
returns-in-Ok-clause-stands g c =
    clear_stands c.args.config.now c.requires.checked c.args.vol c.requires.some c.args.logs.now c.requires.fits (g.S.Shelf.meaning c.args.shelf.now) (g.S.Shelf.meaning c.clear_drl.new.shelf) c.requires.disks c.clear_drl.ensures.writes c.in-Ok.drl (record { drl = c.clear_drl.new.drl; fmr = c.args.logs.now.fmr }) c.in-Ok.ensures.clears.0 refl
