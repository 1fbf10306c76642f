-- `data_volume`: what it gives.
use Rattle.std.proofs.Common.{◌≡◌, ◌∙◌, ℕ, List, Option, Some, ap, sym, length}
use Rattle.std.proofs.lemmas.Option.{slice_get-get_or}
use Rattle.std.specs.Prelude.{slice_get}
use Rattle.vx_config.specs.Checks.{blocks_or_none}
use Rattle.vx_config.specs.declared.entry.VolumeEntry.{VolumeEntry}
use Rattle.vx_events.specs.GroupViews.{plain_fact}
use Rattle.vx_events.specs.RvgFits.{entry_name}
use Rattle.vx_events.specs.RvgViews.{plexes_in}
use Rattle.vx_order.specs.declared.facts.VolumeFacts.{VolumeFacts}
use Rattle.vx_order.specs.declared.facts.VolumeKind.TheVariants.{Data}
use Rattle.vx_group_facts.proofs.seen.data_volume.Goals as goal

abbrev data_by : Option VolumeEntry → VolumeFacts
data_by o = record { name = entry_name o; blocks = blocks_or_none o; kind = Data; plexes = plexes_in o }

pub returns : goal.returns
returns c =
    let vs = c.args.volumes.now in
    let at : slice_get vs c.args.place ≡ Some c.index-volumes-place.result = slice_get-get_or vs c.args.place _ c.requires ∙ ap (λ e. Some e) (sym c.index-volumes-place.is) in
    ap (λ (f : VolumeFacts). let x : VolumeFacts = record f { kind = Data } in x) c.volume_seen.ensures ∙ ap (λ (o : Option VolumeEntry). data_by o) (sym at)
