-- `put_volumes`: its result; what stays true in its loop over `volume`.
use Rattle.std.proofs.Common.{length, ap, ◌∙◌}
use Rattle.vx_wire.specs.Numbers.{be_bytes}
use Rattle.vx_config.specs.Table.{volume}
use Rattle.vx_config.specs.Pages.{onto}
use Rattle.vx_config.specs.declared.entry.VolumeEntry.{VolumeEntry}
use Rattle.vx_config.proofs.PageLemmas.{many-first, many-more, many-all}
use Rattle.vx_config.proofs.spelling.put_volumes.Goals as goal

pub loop-volume-init : goal.loop-volume-init
loop-volume-init c = many-first volume c.args.page.now c.u8.new.self (be_bytes 1 (length c.args.volumes.now)) c.args.volumes.now c.u8.ensures

pub loop-volume-preserved : goal.loop-volume-preserved
loop-volume-preserved c = many-more volume c.args.page.now c.loop-volume.page c.put_volume.new.page (be_bytes 1 (length c.args.volumes.now)) c.args.volumes.now c.loop-volume.volume-index _ c.loop-volume-test.true c.loop-volume.invariant (c.put_volume.ensures ∙ ap (λ (x : VolumeEntry). onto c.loop-volume.page (volume.spell x)) c.volume-item.is)

pub returns : goal.returns
returns c = many-all volume c.args.page.now c.loop-volume.page (be_bytes 1 (length c.args.volumes.now)) c.args.volumes.now c.loop-volume.volume-index c.loop-volume-test.false c.loop-volume.invariant
