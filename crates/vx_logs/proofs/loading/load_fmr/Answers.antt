-- A log that is read where it is in use.
use Rattle.std.proofs.Common.{◌∙◌, sym}
use Rattle.vx_config.specs.declared.entry.VolumeLog.TheVariants.{Fmr}
use Rattle.vx_logs.proofs.LoadLemmas.{has_log}
use Rattle.vx_logs.proofs.LogLemmas.{holds_of}
use Rattle.vx_logs.proofs.loading.load_fmr.Goals as goal

pub load-requires-clause-has : goal.load-requires-clause-has
load-requires-clause-has g c = has_log c.args.config.now c.args.volume Fmr c.requires.checked c.requires.some (sym c.is_used.ensures ∙ c.if-not-is_used.false)

pub load-requires-clause-disks : goal.load-requires-clause-disks
load-requires-clause-disks g c = holds_of c.args.config.now.disks (g.S.Shelf.meaning c.args.shelf.now) c.requires.disks
