-- `read_plex`: what stays true in its loop over `done`.
use Rattle.std.proofs.Common.{ℕ, ◌+◌, ◌/◌, ap, subst, sym}
use Rattle.vx_volume.specs.Steps.{ReadPart}
use Rattle.vx_volume.proofs.ReadRuns.{no_read, read_more}
use Rattle.vx_volume.proofs.reading.read_plex.Goals as goal

pub loop-done-init : goal.loop-done-init
loop-done-init g c = no_read _ _ _ _ _ _ _ c.requires.up

pub loop-done-preserved : goal.loop-done-preserved
loop-done-preserved g c =
    subst (λ (n : ℕ). ReadPart c.args.config.now c.args.vol c.args.plex c.args.block n (c.loop-done.done + c.in-Ok.count) c.read_run.new.into (g.S.Shelf.meaning c.args.shelf.now) (g.S.Shelf.meaning c.read_run.new.shelf)) (ap (λ (k : ℕ). k / 512) (sym c.read_run.auto.into))
    (read_more _ _ _ _ _ _ _ _ _ _ c.loop-done.invariant c.read_run.ensures.goes _ _ c.in-Ok.ensures.ok c.read_run.ensures.down)
