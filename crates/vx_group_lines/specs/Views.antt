-- What a status shows of a group of disks, by its configuration.
use Rattle.std.specs.Prelude.{[], map, Option, None}
use Rattle.vx_config.specs.declared.config.Config.{Config}
use Rattle.vx_events.specs.GroupViews.{config_disks, volume_view, volumes_of}
use Rattle.vx_order.specs.declared.facts.SiteFacts.{SiteFacts}
use Rattle.vx_report.specs.declared.view.SiteView.{SiteView}

-- a site over a group with this configuration, or with none in memory
abbrev pub view_with : SiteFacts → Option Config → SiteView
view_with f config = record { name = f.name; state = f.state; disks = config_disks config; volumes = map volume_view (volumes_of config); rvg = None; links = [] }
