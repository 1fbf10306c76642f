-- The disks of a site that got a replicated volume group: they have one, and its group is up below it.
use Rattle.std.proofs.Common.{◌≡◌, ◌∙◌, false, true, sym, refl}
use Rattle.std.specs.Prelude.{Some, IsTrue}
use Rattle.vx_model.specs.Sites.{is_origin}
use Rattle.vx_model.specs.declared.site.SiteState.TheVariants.{Bare as IsBare, Up as IsUp, Deported as IsAway, Down as IsDown}
use Rattle.vx_disk.specs.Shelf.{Meaning}
use Rattle.vx_disk.specs.declared.shelf.Shelf.{Ghosts}
use Rattle.vx_config.specs.declared.config.Config.{Config}
use Rattle.vx_history.specs.Groups.{GroupNode}
use Rattle.vx_history.specs.World.{Node}
use Rattle.vx_diskset.specs.LaidBlocks.{laid_blockwise}
use Rattle.vx_rvg.specs.Views.{Core}
use Rattle.vx_grouped.specs.GroupNotes.{NotesConfig}
use Rattle.vx_grouped.specs.GroupSites.{site_config, site_disks}
use Rattle.vx_diskset.specs.Aboves.{above_site, below_site, core_of}
use Rattle.vx_diskset.specs.GroupCalls.{AtSite, core_in}
use Rattle.vx_diskset.specs.Holds.{KeptBeside}
use Rattle.vx_diskset.specs.Noted.{NotedOn, SiteNoted, below_rvg}
use Rattle.vx_diskset.specs.Stands.{IsUpAt, OverStands, SiteStands}
use Rattle.vx_diskset.specs.declared.disk_set.DiskSet.{DiskSet}
use Rattle.vx_diskset.specs.declared.disk_set.DiskSet.TheVariants.{Bare, Spoiled, Up, Receives, Down, OfGroup, Over, Gone}
use Rattle.vx_diskset.specs.declared.over_set.OverSite.{OverSite}
use Rattle.vx_diskset.specs.declared.over_set.OverSite.TheVariants.{Origin as OriginSite, Receiver as ReceiverSite, Deported as OverAway, Down as OverFell, Gone as NoOver}
use Rattle.vx_events.specs.GroupLines.{is_over_group}
use Rattle.vx_watched.specs.Empty.{no_shelf}
use Rattle.vx_yard.proofs.OverGroup.{both_ways, set_over}

away_never : (k : Node) → k.state ≡ IsAway → k.state ≡ IsUp → ⊥
away_never k away up = let e : IsAway ≡ IsUp = sym away ∙ up in cc

down_never : (k : Node) → k.state ≡ IsDown → k.state ≡ IsUp → ⊥
down_never k down up = let e : IsDown ≡ IsUp = sym down ∙ up in cc

module _ {R : Type 0} {g : Ghosts R} where
  -- what the volumes of a site with a replicated volume group hold
  abbrev pub over_volumes : OverSite R g → Meaning
  over_volumes (OriginSite f) = laid_blockwise f.laid
  over_volumes (ReceiverSite f) = laid_blockwise f.laid
  over_volumes (OverAway idle) = no_shelf
  over_volumes (OverFell idle) = no_shelf
  over_volumes NoOver = no_shelf

  abbrev pub set_volumes : DiskSet R g → Meaning
  set_volumes (Bare rack) = no_shelf
  set_volumes (Spoiled rack) = no_shelf
  set_volumes (Up rvg) = no_shelf
  set_volumes (Receives s) = no_shelf
  set_volumes (Down rack) = no_shelf
  set_volumes (OfGroup s) = no_shelf
  set_volumes (Over s) = over_volumes s.site
  set_volumes Gone = no_shelf

  -- of the replicated volume group over a group, and of the group
  pub record OriginOver (beside : KeptBeside) (k : Node) (gained : GroupNode) (s : OverSite R g) : Type 0 where
    pub core : Core
    pub above : core_of (above_site s) ≡ Some core
    pub stands : IsUpAt beside k core (over_volumes s)
    pub config : Config
    pub has : site_config (below_site s) ≡ Some config
    pub noted : NotesConfig gained config
    pub up : IsTrue (site_disks (below_site s)).down → ⊥

  origin_over : (beside : KeptBeside) (k : Node) (gained : GroupNode) (s : OverSite R g) → OverStands beside k s → NotedOn (below_rvg k) gained (below_site s) → k.state ≡ IsUp → is_origin k.role ≡ true → OriginOver beside k gained s
  origin_over beside k gained (OriginSite f) it noted up origin = record {
    core = f.core;
    above = refl;
    stands = it;
    config = f.laid.core.inner.config;
    has = refl;
    noted = record { is = noted.at.lies.config; spells = noted.spells };
    up = noted.at.up;
  }
  origin_over beside k gained (ReceiverSite f) it noted up origin = absurd (both_ways origin it.role)
  origin_over beside k gained (OverAway idle) it noted up origin = absurd (away_never k it.0 up)
  origin_over beside k gained (OverFell idle) it noted up origin = absurd (down_never k it.0 up)
  origin_over beside k gained NoOver it noted up origin = absurd it

  -- of its disk set
  pub record RvgOver (beside : KeptBeside) (k : Node) (gained : GroupNode) (e : DiskSet R g) : Type 0 where
    pub core : Core
    pub has_core : core_in e ≡ Some core
    pub stands : IsUpAt beside k core (set_volumes e)
    pub config : Config
    pub has : AtSite (λ x. site_config x ≡ Some config) e
    pub noted : NotesConfig gained config
    pub up : AtSite (λ x. IsTrue (site_disks x).down → ⊥) e

  pub rvg_over : (beside : KeptBeside) (k : Node) (gained : GroupNode) (e : DiskSet R g) → SiteStands beside k e → SiteNoted k gained e → is_over_group k ≡ false → k.state ≡ IsUp → is_origin k.role ≡ true → RvgOver beside k gained e
  rvg_over beside k gained (Bare rack) it noted apart up origin = absurd noted
  rvg_over beside k gained (Spoiled rack) it noted apart up origin = absurd noted
  rvg_over beside k gained (Up rvg) it noted apart up origin = absurd noted
  rvg_over beside k gained (Receives s) it noted apart up origin = absurd noted
  rvg_over beside k gained (Down rack) it noted apart up origin = absurd noted
  rvg_over beside k gained (OfGroup s) it noted apart up origin = absurd (both_ways (set_over beside k s it (λ bare. let e : IsBare ≡ IsUp = sym bare ∙ up in cc)) apart)
  rvg_over beside k gained (Over s) it noted apart up origin =
      let o : OriginOver beside k gained s.site = origin_over beside k gained s.site it.1 noted.0 up origin in
      record { core = o.core; has_core = o.above; stands = o.stands; config = o.config; has = o.has; noted = o.noted; up = o.up }
  rvg_over beside k gained Gone it noted apart up origin = absurd noted
