-- A group that an earlier run left on the disks of a bare site, of which it is not known what they hold.
use Rattle.std.specs.Prelude.{◌≡◌, ◌⊎◌, ℕ, [], Option, Result, Ok, Err, Some, None, true}
use Rattle.vx_model.specs.declared.errors.Stop.{Stop}
use Rattle.vx_model.specs.declared.errors.Stop.TheVariants.{No as Refused}
use Rattle.vx_model.specs.declared.no.No.TheVariants.{NoConfig}
use Rattle.vx_disk.specs.Shelf.{Meaning}
use Rattle.vx_disk.specs.declared.shelf.Shelf.{Ghosts}
use Rattle.vx_config.specs.declared.config.Config.{Config}
use Rattle.vx_history.specs.Groups.{GroupNode}
use Rattle.vx_history.specs.Steps.{burned}
use Rattle.vx_history.specs.World.{Node}
use Rattle.vx_grouped.specs.Begins.{group_begun}
use Rattle.vx_grouped.specs.Finds.{FindStops, IsFoundNote}
use Rattle.vx_grouped.specs.GroupSites.{UpNoted, site_config}
use Rattle.vx_grouped.specs.SiteEnds.{HasNow}
use Rattle.vx_grouped.specs.SiteMaps.{StandMaps}
use Rattle.vx_grouped.specs.SiteReturns.{ImportWhy}
use Rattle.vx_grouped.specs.declared.group_site.GroupSite.{GroupSite}
use Rattle.vx_grouped.specs.declared.group_site.GroupSite.TheVariants.{Deported}
use Rattle.vx_untold.specs.Shades.{rack_of}
use Rattle.vx_diskset.specs.GroupCalls.{bare_disks, cut_in}
use Rattle.vx_diskset.specs.Holds.{KeptBeside}
use Rattle.vx_diskset.specs.OverRises.{FoundOver}
use Rattle.vx_diskset.specs.OverStarts.{WithPlain}
use Rattle.vx_diskset.specs.Stands.{IsRackTold, SiteStands}
use Rattle.vx_diskset.specs.declared.disk_set.DiskSet.{DiskSet}
use Rattle.vx_diskset.specs.declared.disk_set.DiskSet.TheVariants.{Bare, OfGroup, Over}
use Rattle.vx_diskset.specs.declared.group_set.CutWrite.{CutWrite}
use Rattle.vx_diskset.specs.declared.group_set.GroupSet.{GroupSet}
use Rattle.vx_diskset.specs.declared.over_set.OverSet.{OverSet}

module _ {R : Type 0} {g : Ghosts R} where
  -- a group came up, with this note and configuration
  abbrev pub FoundUp : ℕ → Node → GroupSite R g → Type 0
  FoundUp site n e = (note : GroupNode) × (c : Config) × IsFoundNote note c × HasNow c e × UpNoted (group_begun note site n) note e × StandMaps note e

  -- there is no replicated volume group over it
  abbrev pub HasPlain : GroupSite R g → Type 0
  HasPlain e = (c : Config) → site_config e ≡ Some c → c.rvg ≡ None

  -- it came up with a replicated volume group over it, which stands by itself
  abbrev pub FoundApart : Node → OverSet R g → Type 0
  FoundApart n s = (beside : KeptBeside) → beside.doubt ≡ None → beside.links ≡ [] → FoundOver beside n (burned n.fuse) s

  abbrev pub FoundIn : ℕ → Node → DiskSet R g → Type 0
  FoundIn site n (OfGroup s) = FoundUp site n s.site × HasPlain s.site
  FoundIn site n (Over s) = FoundApart n s
  FoundIn site n other = ⊥

  -- disks that are handed back
  abbrev pub InBare : (Meaning → Type 0) → DiskSet R g → Type 0
  InBare P (Bare rack) = P (g.meaning rack)
  InBare P other = ⊥

  -- the group that was found, or the disks that were handed back
  abbrev pub FindsOn : ℕ → Node → Meaning → DiskSet R g → Result (Unit {0}) Stop → Type 0
  FindsOn site n old new (Ok done) = FoundIn site n new × (cut_in new ≡ None)
  FindsOn site n old new (Err stop) = InBare (λ m. FindStops n old m stop) new

  -- disks by themselves are those of a bare site again
  abbrev pub given_bare : GroupSite R g → Option CutWrite → DiskSet R g
  given_bare (Deported idle) cut = Bare (rack_of idle.rack)
  given_bare other cut = let s : GroupSet R g = record { site = other; cut = cut } in OfGroup s

  abbrev pub bare_again : DiskSet R g → DiskSet R g
  bare_again (OfGroup s) = given_bare s.site s.cut
  bare_again other = other

  -- what was started over a group that was found; the disks of one that is not taken up are those of a bare site again
  abbrev pub StartsBare : GroupSite R g → DiskSet R g → Result (Unit {0}) Stop → Type 0
  StartsBare e new (Ok done) = WithPlain true None e None new (Ok done)
  StartsBare e new (Err stop) = (mid : DiskSet R g) × (new ≡ bare_again mid) × WithPlain true None e None mid (Err stop)

  -- A group came up, of whose rack nothing is told; or none did, and the site is bare still.
  abbrev pub FindsIs : ℕ → Node → DiskSet R g → DiskSet R g → Result (Unit {0}) Stop → Type 0
  FindsIs site n old new (Ok done) = (IsRackTold new → ⊥) × FoundIn site n new × (cut_in new ≡ None)
  FindsIs site n old new (Err stop) = ((beside : KeptBeside) → SiteStands beside n new) × ((stop ≡ Refused NoConfig) ⊎ ImportWhy ⊥ ⊥ (bare_disks old) (bare_disks new) stop)
