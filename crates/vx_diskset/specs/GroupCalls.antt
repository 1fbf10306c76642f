-- What the calls on the group of a site promise.
use Rattle.std.specs.Prelude.{◌≡◌, ℕ, Option, None, Result}
use Rattle.vx_model.specs.Content.{Write}
use Rattle.vx_model.specs.declared.errors.Stop.{Stop}
use Rattle.vx_disk.specs.Shelf.{Meaning}
use Rattle.vx_disk.specs.declared.shelf.Shelf.{Ghosts}
use Rattle.vx_config.specs.declared.config.Config.{Config}
use Rattle.vx_history.specs.World.{Node}
use Rattle.vx_rvg.specs.Views.{Core}
use Rattle.vx_watched.specs.Empty.{no_shelf}
use Rattle.vx_watched.specs.Since.{CalledSince}
use Rattle.vx_grouped.specs.Begins.{BeginsGroup}
use Rattle.vx_grouped.specs.GroupSites.{site_config, site_disks}
use Rattle.vx_grouped.specs.declared.group_site.GroupSite.{GroupSite}
use Rattle.vx_diskset.specs.Aboves.{above_in, core_of, site_in}
use Rattle.vx_diskset.specs.GroupSets.{cut_value}
use Rattle.vx_diskset.specs.declared.disk_set.DiskSet.{DiskSet}
use Rattle.vx_diskset.specs.declared.disk_set.DiskSet.TheVariants.{Bare, Spoiled, OfGroup, Over}
use Rattle.vx_diskset.specs.declared.group_set.CutWrite.{CutWrite}

module _ {R : Type 0} {g : Ghosts R} where
  -- they are those of a group, of which this holds
  abbrev pub AtSite : (GroupSite R g → Type 0) → DiskSet R g → Type 0
  AtSite P (OfGroup s) = P s.site
  AtSite P (Over s) = P (site_in s)
  AtSite P other = ⊥

  -- and they have no replicated volume group
  abbrev pub AtPlain : (GroupSite R g → Type 0) → DiskSet R g → Type 0
  AtPlain P (OfGroup s) = P s.site
  AtPlain P other = ⊥

  -- or they have one
  abbrev pub AtOver : (GroupSite R g → Type 0) → DiskSet R g → Type 0
  AtOver P (Over s) = P (site_in s)
  AtOver P other = ⊥

  -- And so they are behind the call, which makes no replicated volume group. Of those that have one nothing is said here.
  abbrev pub OnSites : (GroupSite R g → GroupSite R g → Type 0) → DiskSet R g → DiskSet R g → Type 0
  OnSites P (OfGroup old) new = AtPlain (P old.site) new
  OnSites P (Over old) new = Unit {0}
  OnSites P old new = ⊥

  -- So they are behind an import, where it found no replicated volume group. Where it did, or the site had one, more is said elsewhere.
  abbrev pub AtFound : (GroupSite R g → Type 0) → DiskSet R g → Type 0
  AtFound P (OfGroup s) = P s.site
  AtFound P (Over s) = Unit {0}
  AtFound P other = ⊥

  abbrev pub ImportsOn : (GroupSite R g → GroupSite R g → Type 0) → DiskSet R g → DiskSet R g → Type 0
  ImportsOn P (OfGroup old) new = AtFound (P old.site) new
  ImportsOn P (Over old) new = Unit {0}
  ImportsOn P old new = ⊥

  -- the write that the fuse cut
  abbrev pub cut_in : DiskSet R g → Option Write
  cut_in (OfGroup s) = cut_value s.cut
  cut_in (Over s) = cut_value s.cut
  cut_in other = None

  -- the write that a recovery hands out: none, where it found a replicated volume group
  abbrev pub cut_behind : DiskSet R g → Option CutWrite → Option CutWrite
  cut_behind (Over s) cut = None
  cut_behind other cut = cut

  -- and where the group had one: none, where it has none any more
  abbrev pub cut_above : DiskSet R g → Option CutWrite → Option CutWrite
  cut_above (Over s) cut = cut
  cut_above other cut = None

  -- the configuration of a group that is up
  abbrev pub config_in : DiskSet R g → Option Config
  config_in (OfGroup s) = site_config s.site
  config_in (Over s) = site_config (site_in s)
  config_in other = None

  -- the replicated volume group over a group that is up
  abbrev pub core_in : DiskSet R g → Option Core
  core_in (Over s) = core_of (above_in s)
  core_in other = None

  -- whatever calls were made of them, those on the disks of a group are accounted for
  abbrev pub CalledOn : DiskSet R g → DiskSet R g → Type 0
  CalledOn (OfGroup old) new = AtSite (λ s. CalledSince (site_disks old.site) (site_disks s)) new
  CalledOn (Over old) new = AtSite (λ s. CalledSince (site_disks (site_in old)) (site_disks s)) new
  CalledOn old new = Unit {0}

  -- the disks of a bare site, whatever was begun on them
  abbrev pub bare_disks : DiskSet R g → Meaning
  bare_disks (Bare rack) = g.meaning rack
  bare_disks (Spoiled rack) = g.meaning rack
  bare_disks (OfGroup s) = site_disks s.site
  bare_disks other = no_shelf

  -- the disks of a bare site are a group without volumes; or a disk failed, or memory was wanted, and labels of it may stand on them
  abbrev pub InitIs : ℕ → Node → DiskSet R g → DiskSet R g → Result (Unit {0}) Stop → Type 0
  InitIs site n old new result = AtPlain (λ e. BeginsGroup site n (bare_disks old) e result) new × (cut_in new ≡ None)
