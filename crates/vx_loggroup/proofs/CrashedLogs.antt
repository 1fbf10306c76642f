-- What the disks of a group with logs tell behind a crash.
use Rattle.std.proofs.Common.{◌≡◌, ◌⊎◌, inl, inr, ℕ, ◌<◌, Bool, true, false, None, List, length, arith}
use Rattle.std.proofs.lemmas.Bool.{cases_lt}
use Rattle.vx_config.specs.declared.entry.VolumeLog.TheVariants.{Drl}
use Rattle.vx_disk.specs.Racks.{Stopped}
use Rattle.vx_disk.specs.Shelf.{Lawful, Meaning}
use Rattle.vx_disk.specs.Racks.{IsRack}
use Rattle.vx_disk.proofs.Alikes.{rest_Settled}
use Rattle.vx_group.specs.Holding.{wide}
use Rattle.vx_group.specs.Resumes.{AtRest}
use Rattle.vx_group.specs.declared.group_core.GroupCore.{GroupCore}
use Rattle.vx_group.proofs.HoldLemmas.{wide_shape}
use Rattle.vx_grouplogs.specs.On.{VolumeOn}
use Rattle.vx_kept.specs.LogRuns.{log_trusted}
use Rattle.vx_logimport.specs.Covers.{DisksTell}
use Rattle.vx_logimport.proofs.ToldLemmas.{beyond_told}
use Rattle.vx_logs.specs.declared.logs.Logs.{Logs}
use Rattle.vx_loggroup.specs.LoggedVolumes.{LoggedStands}
use Rattle.vx_loggroup.proofs.SetLemmas.{item_at}

pub crash_tells : (c : GroupCore) (ls : List Logs) (a : List Bool) (s : Bool) (m m' : Meaning) → LoggedStands c ls a s m → Stopped m m' → Lawful m' → IsRack m' → s ≡ false → (v : ℕ)
    → ((l : Logs) → v < length c.inner.config.volumes → VolumeOn (wide c).config v l m → (log_trusted (wide c).config v Drl ≡ true → l.drl ≡ None → ⊥) ⊎ AtRest m' → DisksTell v m') → DisksTell v m'
crash_tells c ls a s m m' stands stopped law rack going v tells = elim (cases_lt v (length c.inner.config.volumes)) [
  | inl lt ↦ (
      let it = item_at ls v (let many = stands.many in omega (arith, lt, many)) in
      tells it.0 lt ((stands.each v it.0 it.1).on going) (inr (record { one = λ u b x y left other. (rest_Settled m' law rack stopped.down).each u b x y tt left other }))
      )
  | inr le ↦ beyond_told c v m m' stands.group (let same = (wide_shape c).volumes in omega (arith, le, same)) stopped.units stopped.size stopped.leaves
]
