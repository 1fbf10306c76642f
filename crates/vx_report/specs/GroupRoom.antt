-- A volume as a status shows it.
use Rattle.std.specs.Prelude.{List}
use Rattle.vx_model.specs.declared.site.PlexState.{PlexState}
use Rattle.vx_report.specs.declared.group_room.VolumeHead.{VolumeHead}
use Rattle.vx_report.specs.declared.view.VolumeView.{VolumeView}

-- a volume with these plexes
abbrev pub volume_shown : VolumeHead → List PlexState → VolumeView
volume_shown head states = record { name = head.name; blocks = head.blocks; drl = head.drl; fmr = head.fmr; plexes = states }
