-- A log that is taken up, or lost.
use Rattle.std.proofs.Common.{◌∙◌, inr, refl, sym}
use Rattle.vx_config.specs.declared.entry.VolumeLog.TheVariants.{Drl}
use Rattle.vx_logs.proofs.LoadLemmas.{has_log}
use Rattle.vx_logs.proofs.LogLemmas.{holds_of}
use Rattle.vx_groupmaps.proofs.TakenLemmas.{device_rose, unused_apart}
use Rattle.vx_grouplogs.proofs.loading.load_marks.Goals as goal

pub returns-then-not-is_used-clause-takes : goal.returns-then-not-is_used-clause-takes
returns-then-not-is_used-clause-takes g c =
    let off = sym c.is_used.ensures ∙ c.if-not-is_used.true in
    (off, unused_apart c.args.config.now c.args.vol Drl off)

pub returns-in-Err-No-Device-clause-takes : goal.returns-in-Err-No-Device-clause-takes
returns-in-Err-No-Device-clause-takes g c =
    (refl, sym c.is_used.ensures ∙ c.if-not-is_used.false, inr (device_rose (g.S.Shelf.meaning c.args.shelf.now) (g.S.Shelf.meaning c.load.new.shelf) c.in-Err-No-Device.field-0 c.in-Err-No-Device.field-0-0 c.in-Err-No-Device.field-0-0-0 c.in-Err-No-Device.field-0-is c.in-Err-No-Device.field-0-0-is c.in-Err-No-Device.ensures.cause))

pub load-requires-clause-has : goal.load-requires-clause-has
load-requires-clause-has g c = has_log c.args.config.now c.args.vol Drl c.requires.checked c.requires.some (sym c.is_used.ensures ∙ c.if-not-is_used.false)

pub load-requires-clause-disks : goal.load-requires-clause-disks
load-requires-clause-disks g c = holds_of c.args.config.now.disks (g.S.Shelf.meaning c.args.shelf.now) c.requires.disks
