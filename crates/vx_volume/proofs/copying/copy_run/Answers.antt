-- `copy_run`: clauses goes, cause and ok; what `read_plex` and `write_plex` ask.
use Rattle.std.proofs.Common.{ℕ, ◌/◌, length, OnOk, ap, ◌∙◌, subst, arith}
use Rattle.vx_disk.specs.Shelf.{Goes, Nothing}
use Rattle.vx_disk.proofs.Runs.{weaker}
use Rattle.vx_volume.specs.Copies.{OnCopy}
use Rattle.vx_volume.specs.Volumes.{OnPlex, PlexRead, PlexWrote}
use Rattle.vx_volume.proofs.CopyLemmas.{asked_by, disks_still, one_run, part_end, part_goes, plex_cause, run_inside, source_cause}
use Rattle.vx_volume.proofs.PlaceLemmas.{fits_of}
use Rattle.vx_volume.proofs.copying.copy_run.Goals as goal

pub read_plex-requires-clause-asked : goal.read_plex-requires-clause-asked
read_plex-requires-clause-asked g c = asked_by c.args.config.now c.args.vol c.args.source c.args.block (length c.args.run.now / 512) c.requires.checked c.requires.from c.requires.volume (let same = one_run c.args.count (length c.args.run.now) c.requires.long in let within = c.requires.within in omega (arith, same, within)) (let fits = c.blocks_of.type_inv in omega (arith, fits, c.blocks_of.ensures))

pub read_plex-requires-clause-fits : goal.read_plex-requires-clause-fits
read_plex-requires-clause-fits g c = fits_of c.args.config.now c.requires.checked c.args.vol c.args.source c.args.block (length c.args.run.now / 512) (g.S.Shelf.meaning c.args.shelf.now) c.requires.disks c.requires.from
    (λ k run. run_inside c.args.config.now c.args.vol c.args.block (length c.args.run.now / 512) k c.requires.volume (let same = one_run c.args.count (length c.args.run.now) c.requires.long in let within = c.requires.within in omega (arith, same, within)) run)

pub read_plex-requires-clause-whole : goal.read_plex-requires-clause-whole
read_plex-requires-clause-whole g c = omega (arith, c.requires.long)

pub returns-in-Err-clause-goes : goal.returns-in-Err-clause-goes
returns-in-Err-clause-goes g c = weaker Nothing (OnCopy c.args.config.now c.args.vol c.args.plex) (g.S.Shelf.meaning c.args.shelf.now) (g.S.Shelf.meaning c.read_plex.new.shelf) c.read_plex.ensures.goes (λ u b x none. absurd none)

pub returns-in-Err-clause-cause : goal.returns-in-Err-clause-cause
returns-in-Err-clause-cause g c = source_cause c.args.config.now c.args.vol c.args.source c.args.plex (g.S.Shelf.meaning c.args.shelf.now) (g.S.Shelf.meaning c.read_plex.new.shelf) c.in-Err.error c.in-Err.ensures.cause

pub write_plex-requires-clause-asked : goal.write_plex-requires-clause-asked
write_plex-requires-clause-asked g c = asked_by c.args.config.now c.args.vol c.args.plex c.args.block (length c.read_plex.new.into / 512) c.requires.checked c.requires.to c.requires.volume (let same = (ap (λ (k : ℕ). k / 512) c.read_plex.auto.into ∙ one_run c.args.count (length c.args.run.now) c.requires.long) in let within = c.requires.within in omega (arith, same, within)) (let fits = c.blocks_of.type_inv in omega (arith, fits, c.blocks_of.ensures))

pub write_plex-requires-clause-fits : goal.write_plex-requires-clause-fits
write_plex-requires-clause-fits g c = fits_of c.args.config.now c.requires.checked c.args.vol c.args.plex c.args.block (length c.read_plex.new.into / 512) (g.S.Shelf.meaning c.read_plex.new.shelf)
    (disks_still c.args.config.now.disks (g.S.Shelf.meaning c.args.shelf.now) (g.S.Shelf.meaning c.read_plex.new.shelf) c.requires.disks c.read_plex.ensures.goes.units c.read_plex.ensures.goes.size) c.requires.to
    (λ k run. run_inside c.args.config.now c.args.vol c.args.block (length c.read_plex.new.into / 512) k c.requires.volume (let same = (ap (λ (k : ℕ). k / 512) c.read_plex.auto.into ∙ one_run c.args.count (length c.args.run.now) c.requires.long) in let within = c.requires.within in omega (arith, same, within)) run)

pub write_plex-requires-clause-whole : goal.write_plex-requires-clause-whole
write_plex-requires-clause-whole g c = let same = c.read_plex.auto.into in let long = c.requires.long in omega (arith, same, long)

pub write_plex-requires-clause-up : goal.write_plex-requires-clause-up
write_plex-requires-clause-up g c = c.in-Ok.ensures.cause

pub returns-clause-goes : goal.returns-clause-goes
returns-clause-goes g c = part_goes c.args.config.now c.args.vol c.args.source c.args.plex c.args.block c.args.count c.read_plex.new.into (g.S.Shelf.meaning c.args.shelf.now) (g.S.Shelf.meaning c.read_plex.new.shelf) (g.S.Shelf.meaning c.write_plex.new.shelf) c.requires.volume c.requires.within c.read_plex.ensures.goes (subst (λ (k : ℕ). Goes (OnPlex c.args.config.now c.args.vol c.args.plex c.args.block k c.read_plex.new.into) (g.S.Shelf.meaning c.read_plex.new.shelf) (g.S.Shelf.meaning c.write_plex.new.shelf)) (ap (λ (k : ℕ). k / 512) c.read_plex.auto.into ∙ one_run c.args.count (length c.args.run.now) c.requires.long) c.write_plex.ensures.goes)

pub returns-clause-ok : goal.returns-clause-ok
returns-clause-ok g c = part_end c.args.config.now c.args.vol c.args.source c.args.plex c.args.block c.args.count c.read_plex.new.into (g.S.Shelf.meaning c.args.shelf.now) (g.S.Shelf.meaning c.read_plex.new.shelf) (g.S.Shelf.meaning c.write_plex.new.shelf) c.requires.volume c.requires.within c.read_plex.ensures.goes (subst (λ (k : ℕ). Goes (OnPlex c.args.config.now c.args.vol c.args.plex c.args.block k c.read_plex.new.into) (g.S.Shelf.meaning c.read_plex.new.shelf) (g.S.Shelf.meaning c.write_plex.new.shelf)) (ap (λ (k : ℕ). k / 512) c.read_plex.auto.into ∙ one_run c.args.count (length c.args.run.now) c.requires.long) c.write_plex.ensures.goes)
    (g.met.S.Shelf.lawful c.write_plex.new.shelf) c.in-Ok.ensures.cause
    (subst (λ (k : ℕ). PlexRead c.args.config.now c.args.vol c.args.source c.args.block c.args.block k c.read_plex.new.into (g.S.Shelf.meaning c.args.shelf.now)) (one_run c.args.count (length c.args.run.now) c.requires.long) c.in-Ok.ensures.ok)
    c.write_plex.result
    (subst (λ (k : ℕ). OnOk c.write_plex.result (PlexWrote c.args.config.now c.args.vol c.args.plex c.args.block k c.args.block k c.read_plex.new.into (g.S.Shelf.meaning c.read_plex.new.shelf) (g.S.Shelf.meaning c.write_plex.new.shelf))) (ap (λ (k : ℕ). k / 512) c.read_plex.auto.into ∙ one_run c.args.count (length c.args.run.now) c.requires.long) c.write_plex.ensures.ok)

pub returns-clause-cause : goal.returns-clause-cause
returns-clause-cause g c = plex_cause c.args.config.now c.args.vol c.args.source c.args.plex (g.S.Shelf.meaning c.args.shelf.now) (g.S.Shelf.meaning c.read_plex.new.shelf) (g.S.Shelf.meaning c.write_plex.new.shelf) c.read_plex.ensures.goes.faults c.read_plex.ensures.goes.disk_faults c.write_plex.result c.write_plex.ensures.cause
