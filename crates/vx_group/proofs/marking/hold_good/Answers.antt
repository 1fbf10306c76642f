-- `hold_good`: its result.
use Rattle.std.proofs.Common.{◌∙◌, ap, sym, get_or, ℕ, List, false}
use Rattle.std.specs.Prelude.{slice_set}
use Rattle.vx_config.specs.declared.entry.DiskEntry.{DiskEntry}
use Rattle.vx_copies.proofs.Marked.{blocks_is}
use Rattle.vx_copies.proofs.Settling.{no_disk}
use Rattle.vx_group.proofs.marking.hold_good.Goals as goal

pub returns : goal.returns
returns c =
    ap (λ (ds : List DiskEntry). record { serial = c.args.config.now.serial; site = c.args.config.now.site; disks = ds; volumes = c.args.config.now.volumes; rvg = c.args.config.now.rvg })
    (c.set.ensures ∙ ap (λ (b : ℕ). slice_set c.args.config.now.disks c.args.disk (record { blocks = b; failed = false }))
    (ap (λ (xs : List DiskEntry). (get_or xs c.args.disk no_disk).blocks) c.as_slice.ensures.disks ∙ sym (blocks_is c.args.config.now.disks c.args.disk no_disk c.requires.inside)))
