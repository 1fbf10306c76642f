-- A failed call on the group of a site names the disk of its log, or of one of its volumes.
use Rattle.std.proofs.Common.{◌≡◌, ◌∙◌, ◌⊎◌, inl, inr, ◌+◌, ◌-◌, ◌<◌, ℕ, ap, arith, refl, subst, sym}
use Rattle.std.specs.Prelude.{IfErr, IsSome, Option, Some, None, Result, Ok, Err, true, false}
use Rattle.vx_model.specs.declared.no.No.{No}
use Rattle.vx_model.specs.declared.no.No.TheVariants.{Device}
use Rattle.vx_model.specs.declared.units.Units.{Units}
use Rattle.vx_history.specs.Groups.{GroupNode}
use Rattle.vx_history.specs.World.{Node}
use Rattle.vx_disk.specs.Causes.{WithDisks}
use Rattle.vx_disk.specs.Disks.{Disks}
use Rattle.vx_disk.specs.Racks.{IsRack}
use Rattle.vx_disk.specs.Shelf.{Meaning}
use Rattle.vx_disk.specs.declared.shelf.Shelf.{Ghosts}
use Rattle.vx_disk.specs.Causes.{BlamesUnit}
use Rattle.vx_rvg.specs.Groups.{BlamesVolumes}
use Rattle.vx_rvg.specs.Views.{Core, unit_of}
use Rattle.vx_rvg.specs.declared.group.Rvg.{Rvg}
use Rattle.vx_secondary.specs.declared.secondary.Secondary.{Secondary}
use Rattle.vx_diskset.specs.Blames.{BlamesGroup, BlamesSite, IsGroupDisk}
use Rattle.vx_diskset.specs.Holds.{KeptBeside}
use Rattle.vx_events.specs.Fails.{IsSiteDisk}
use Rattle.vx_events.proofs.Values.{length-values_from, slice_index-values_from}
use Rattle.vx_diskset.specs.Layouts.{raw_units, units_by, units_of}
use Rattle.vx_diskset.specs.Shelves.{BlamesRack}
use Rattle.vx_disk.specs.Spends.{Spent}
use Rattle.vx_disk.specs.Spends.{Spends}
use Rattle.vx_diskset.specs.Stands.{IsReceiverAt, IsUpAt, SiteStands}
use Rattle.vx_diskset.specs.declared.disk_set.DiskSet.{DiskSet}
use Rattle.vx_diskset.specs.declared.disk_set.DiskSet.TheVariants.{Up, Receives}
use Rattle.vx_diskset.proofs.RawSets.{up_there, receiver_there}

-- a rack tells its disks
pub disks_are : (m : Meaning) → IsRack m → IsSome m.disks
disks_are m rack = subst (λ (o : Option Disks). IsSome o) (sym rack.is) refl

by_unit : (m : Meaning) (c : Core) (why : No) → c.log.unit ≡ c.units.srl → BlamesUnit m.disks c.log.unit why → BlamesRack m.disks c.units why
by_unit m c (Device disk) place blames = λ some. inl (blames some ∙ place)
by_unit m c other place blames = tt

by_volumes : (m : Meaning) (c : Core) (why : No) → BlamesVolumes m.disks c.units.vols why → BlamesRack m.disks c.units why
by_volumes m c (Device disk) blames = λ some. inr (blames some)
by_volumes m c other blames = tt

-- a call of the log
pub unit_blamed : {T : Type 0} (r : Result T No) (m : Meaning) (c : Core) → c.log.unit ≡ c.units.srl → IfErr r (λ why. BlamesUnit m.disks c.log.unit why) → IfErr r (λ why. BlamesRack m.disks c.units why)
unit_blamed (Ok x) m c place blames = tt
unit_blamed (Err why) m c place blames = by_unit m c why place blames

-- an apply
pub volumes_blamed : {T : Type 0} (r : Result T No) (m : Meaning) (c : Core) → IfErr r (λ why. BlamesVolumes m.disks c.units.vols why) → IfErr r (λ why. BlamesRack m.disks c.units why)
volumes_blamed (Ok x) m c blames = tt
volumes_blamed (Err why) m c blames = by_volumes m c why blames

-- a shelf behind a call is a rack where it was one
still_rack : (old new : Option Disks) (P : Disks → Disks → Type 0) → WithDisks old new P → IsSome old → IsSome new
still_rack None new P with some = let wrong : false ≡ true = some in absurd (cc)
still_rack (Some o) None P with some = absurd with
still_rack (Some o) (Some n) P with some = refl

-- the units are those of before, and calls were made before
pub blamed_since : (old new : Meaning) (units units' : Units) (why : No) → Spends old new → units' ≡ units → BlamesRack new.disks units' why → BlamesRack old.disks units why
blamed_since old new units units' (Device disk) spends same blames = λ some. subst (λ (u : Units). IsGroupDisk u disk) same (blames (still_rack old.disks new.disks (Spent old.size old.down new.down) spends.told some))
blamed_since old new units units' other spends same blames = tt

pub all_blamed_since : {T : Type 0} (old new : Meaning) (r : Result T No) (units units' : Units) → Spends old new → units' ≡ units → IfErr r (λ why. BlamesRack new.disks units' why) → IfErr r (λ why. BlamesRack old.disks units why)
all_blamed_since old new (Ok x) units units' spends same blames = tt
all_blamed_since old new (Err why) units units' spends same blames = blamed_since old new units units' why spends same blames

-- of a rack
on_rack : (m : Meaning) (units : Units) (why : No) → IsRack m → BlamesRack m.disks units why → BlamesGroup units why
on_rack m units (Device disk) rack blames = blames (disks_are m rack)
on_rack m units other rack blames = tt

pub rack_blamed : {T : Type 0} (r : Result T No) (m : Meaning) (units : Units) → IsRack m → IfErr r (λ why. BlamesRack m.disks units why) → IfErr r (λ why. BlamesGroup units why)
rack_blamed (Ok x) m units rack blames = tt
rack_blamed (Err why) m units rack blames = on_rack m units why rack blames

-- of a raw set it is the first disk, or one before the last
raw_disk : (disks disk : ℕ) → IsGroupDisk (raw_units disks) disk → (disk ≡ 0) ⊎ (disk + 1 < disks)
raw_disk disks disk (inl first) = inl first
raw_disk disks disk (inr (v, (low, is))) =
    let inside : v < disks - 2 = omega (arith, low, length-values_from (λ (j : ℕ). j) 1 (disks - 2)) in
    let at : unit_of (raw_units disks).vols v ≡ 1 + v = slice_index-values_from 1 (disks - 2) v inside in
    inr (omega (arith, at, inside, is))

site_disk : (n : Node) (disk : ℕ) → IsGroupDisk (units_of n) disk → IsSiteDisk n disk
site_disk n disk at = λ none. raw_disk n.disks disk (subst (λ (u : Units). IsGroupDisk u disk) (ap (λ (o : Option GroupNode). units_by o n.disks) none) at)

site_blamed : (n : Node) (units : Units) (why : No) → units ≡ units_of n → BlamesGroup units why → BlamesSite n why
site_blamed n units (Device disk) same blames = site_disk n disk (subst (λ (u : Units). IsGroupDisk u disk) same blames)
site_blamed n units other same blames = tt

all_site_blamed : {T : Type 0} (r : Result T No) (n : Node) (units : Units) → units ≡ units_of n → IfErr r (λ why. BlamesGroup units why) → IfErr r (λ why. BlamesSite n why)
all_site_blamed (Ok x) n units same blames = tt
all_site_blamed (Err why) n units same blames = site_blamed n units why same blames

module _ {R : Type 0} {g : Ghosts R} where
  -- of a site that is up, and of one that receives
  pub blamed_up : {T : Type 0} (r : Result T No) (beside : KeptBeside) (n : Node) (e : DiskSet R g) (rvg : Rvg R g) → e ≡ Up rvg → SiteStands beside n e → IsRack (g.meaning rvg.shelf) → IfErr r (λ why. BlamesRack (g.meaning rvg.shelf).disks rvg.core.units why) → IfErr r (λ why. BlamesSite n why)
  blamed_up r beside n e rvg is stands rack blames =
      let up : IsUpAt beside n rvg.core (g.meaning rvg.shelf) = (up_there beside n e rvg is stands).1 in
      all_site_blamed r n rvg.core.units up.units (rack_blamed r (g.meaning rvg.shelf) rvg.core.units rack blames)

  pub blamed_receiver : {T : Type 0} (r : Result T No) (beside : KeptBeside) (n : Node) (e : DiskSet R g) (s : Secondary R g) → e ≡ Receives s → SiteStands beside n e → IsRack (g.meaning s.rvg.shelf)
      → IfErr r (λ why. BlamesRack (g.meaning s.rvg.shelf).disks s.rvg.core.units why) → IfErr r (λ why. BlamesSite n why)
  blamed_receiver r beside n e s is stands rack blames =
      let at : IsReceiverAt beside n s.rvg.core s.waiting (g.meaning s.rvg.shelf) = (receiver_there beside n e s is stands).1 in
      all_site_blamed r n s.rvg.core.units at.units (rack_blamed r (g.meaning s.rvg.shelf) s.rvg.core.units rack blames)
