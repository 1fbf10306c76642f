-- What the disks have of the maps of missed regions that were in memory as a group was deported.
use Rattle.std.proofs.Common.{List, Bool, false, refl, arith}
use Rattle.std.proofs.lemmas.Option.{slice_get_within}
use Rattle.vx_disk.specs.Shelf.{Meaning}
use Rattle.vx_group.specs.Deports.{DeportedBy}
use Rattle.vx_group.specs.Holding.{wide}
use Rattle.vx_group.specs.declared.group_core.GroupCore.{GroupCore}
use Rattle.vx_group.proofs.HoldLemmas.{wide_shape}
use Rattle.vx_logs.specs.declared.logs.Logs.{Logs}
use Rattle.vx_loggroup.specs.LoggedVolumes.{LoggedStands}
use Rattle.vx_loggroup.specs.Moving.{MapsStand}
use Rattle.vx_loggroup.proofs.DeportedLogs.{on_at}
use Rattle.vx_loggroup.proofs.NewLemmas.{has_maps}

pub maps_stand : (c : GroupCore) (ls : List Logs) (alike : List Bool) (m new : Meaning) → LoggedStands c ls alike false m → DeportedBy (wide c).config c.inner m new → MapsStand ls new
maps_stand c ls alike m new stands it = record {
  each = λ v f is.
      let now = has_maps ls v f is in
      (on_at c m new stands.group it v now.logs (let low = slice_get_within ls v now.logs now.at in let many = stands.many in let same = (wide_shape c).volumes in omega (arith, low, many, same)) ((stands.each v now.logs now.at).on refl)).stands.fmr f now.has;
}
