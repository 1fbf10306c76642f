-- `hold_failed`: clauses wanted and falls.
use Rattle.std.proofs.Common.{◌≡◌, ◌∙◌, true, ap, sym, get_or, ℕ, List}
use Rattle.std.specs.Prelude.{slice_set}
use Rattle.vx_config.specs.declared.entry.DiskEntry.{DiskEntry}
use Rattle.vx_copies.proofs.Marked.{blocks_is, failed_now, mark_falls, mark_wanted}
use Rattle.vx_copies.proofs.Settling.{no_disk}
use Rattle.vx_copies.proofs.marking.hold_failed.Goals as goal

set_is : (c : goal.After-set) → c.set.new.self ≡ slice_set c.args.config.now.disks c.args.disk (failed_now c.args.config.now.disks c.args.disk)
set_is c = c.set.ensures ∙ ap (λ (b : ℕ). slice_set c.args.config.now.disks c.args.disk (record { blocks = b; failed = true }))
    (ap (λ (xs : List DiskEntry). (get_or xs c.args.disk no_disk).blocks) c.as_slice.ensures.disks ∙ sym (blocks_is c.args.config.now.disks c.args.disk no_disk c.requires.inside))

pub returns-clause-wanted : goal.returns-clause-wanted
returns-clause-wanted c = mark_wanted c.args.config.now c.args.disk c.set.new.self c.requires.inside (set_is c)

pub returns-clause-falls : goal.returns-clause-falls
returns-clause-falls c = mark_falls c.args.config.now c.args.disk c.set.new.self c.requires.inside (set_is c)
