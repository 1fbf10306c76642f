-- What calls of a group that is up make of what its site notes of its maps.
use Rattle.std.proofs.Common.{◌≡◌, ◌∙◌, ℕ, ap, refl, sym, subst, false, true, IsTrue}
use Rattle.std.specs.Prelude.{None, Some, Err, Ok}
use Rattle.vx_config.specs.declared.config.Config.{Config}
use Rattle.vx_disk.specs.Shelf.{Meaning}
use Rattle.vx_disk.specs.declared.shelf.Shelf.{Ghosts}
use Rattle.vx_group.specs.declared.group_core.GroupCore.{GroupCore}
use Rattle.vx_history.specs.Groups.{GroupNode, MissedNote}
use Rattle.vx_history.specs.World.{Node}
use Rattle.vx_model.specs.Content.{Write}
use Rattle.vx_model.specs.declared.no.No.{No}
use Rattle.vx_model.specs.declared.no.No.TheVariants.{Device, Down as IsOff}
use Rattle.vx_volume.specs.Plexes.{active}
use Rattle.vx_grouped.specs.Ends.{WriteLeaves}
use Rattle.vx_grouped.specs.GroupSites.{idle_disks, laid_disks, site_config}
use Rattle.vx_grouped.specs.MapsNoted.{CopiesNoted, MapsNoted}
use Rattle.vx_grouped.specs.PlainMaps.{MapParts, PartsLeft, PartsMoved, PartsNoted, laid_parts}
use Rattle.vx_grouped.specs.SiteEnds.{is_off}
use Rattle.vx_grouped.specs.SiteMaps.{DeportMapped, DiskMaps, MapsLike, MapsMoved, MapsOf, RestsNot, StaysMapped, UpMaps}
use Rattle.vx_grouped.specs.declared.group_site.GroupSite.TheVariants.{Deported, Down, Up}
use Rattle.vx_grouped.specs.declared.idle.Idle.{Idle}
use Rattle.vx_grouped.specs.declared.laid.Laid.{Laid}

one_config : (a b : Config) → Some a ≡ Some b → a ≡ b
one_config a b is = cc is

-- behind a write that answers no 6 the disks are up
pub up_still : (n : Node) (note : GroupNode) (own : Write) (core : GroupCore) (m : Meaning) (no : No) → is_off no ≡ false → WriteLeaves {T = Unit {0}} n note own core m (Err no) → IsTrue m.down → ⊥
up_still n note own core m (Device disk) off leaves = leaves.1.up
up_still n note own core m IsOff off leaves = absurd (let clash : true ≡ false = off in cc)
up_still n note own core m other off leaves = absurd leaves

module _ {R : Type 0} {g : Ghosts R} where
  -- the group is up behind the call
  pub up_maps : (By : Meaning → Meaning → Config → Config → MissedNote → MissedNote → Type 0) (old new : Laid R g) → (IsTrue (laid_disks new).down → ⊥)
      → PartsMoved (By (laid_disks old) (laid_disks new)) (laid_parts old) (laid_parts new) (laid_disks new) → UpMaps By (Up old) (Up new)
  up_maps By old new up moved = (
    λ c d was now.
        subst (λ (x : Config). MapsMoved (By (laid_disks old) (laid_disks new) x d) x d (Up old) (Up new)) (one_config old.core.inner.config c was)
        (subst (λ (y : Config). MapsMoved (By (laid_disks old) (laid_disks new) old.core.inner.config y) old.core.inner.config y (Up old) (Up new)) (one_config new.core.inner.config d now)
        (record { so = λ w noted. moved.so w up noted })),
    tt,
  )

  -- it crashed
  pub down_maps : (By : Meaning → Meaning → Config → Config → MissedNote → MissedNote → Type 0) (old : Laid R g) (idle : Idle R g) → RestsNot idle.rested → UpMaps By (Up old) (Down idle)
  down_maps By old idle rests = (λ c d was none. absurd (let clash : None ≡ Some d = none in cc), rests)

  -- the disks of a group that crashed have what was in memory
  pub crash_up : (old : Laid R g) (idle : Idle R g) → ((w : MissedNote) → PartsNoted w (laid_parts old) → DiskMaps w old.core.inner.config (idle_disks idle)) → RestsNot idle.rested → StaysMapped (Up old) (Down idle)
  crash_up old idle maps rests = λ note it.
      let same : old.core.inner.config ≡ it.config = it.up old.core.inner.config refl in
      let noted = subst (λ (x : Config). MapsNoted note.maps x old.logs.items old.alike old.stopped) (sym same) it.maps in
      record {
        config = it.config;
        is = it.is;
        spells = it.spells;
        up = λ c is. absurd (let clash : None ≡ Some c = is in cc);
        maps = λ bright. record { disks = subst (λ (x : Config). DiskMaps note.maps x (idle_disks idle)) same (maps note.maps noted); rests = rests };
      }

  -- so many regions are copied to a plex, by what is noted
  pub copies_up : (old : Laid R g) (vol plex count : ℕ) → ((w : MissedNote) → PartsNoted w (laid_parts old) → active old.core.inner.config vol plex ≡ false → CopiesNoted w old.core.inner.config vol plex count)
      → (c : Config) (w : MissedNote) → site_config (Up old) ≡ Some c → MapsOf w c (Up old) → active c vol plex ≡ false → CopiesNoted w c vol plex count
  copies_up old vol plex count copies = λ c w was.
      subst (λ (x : Config). MapsOf w x (Up old) → active x vol plex ≡ false → CopiesNoted w x vol plex count) (one_config old.core.inner.config c was) (λ noted off. copies w noted off)

  -- its parts are as they were
  pub read_maps : (old new : Laid R g) → laid_parts new ≡ laid_parts old → StaysMapped (Up old) (Up new)
  read_maps old new same = λ note it. record {
    config = it.config;
    is = it.is;
    spells = it.spells;
    up = λ c is. it.up c (ap (λ (x : MapParts). Some x.config) (sym same) ∙ is);
    maps = subst (λ (x : MapParts). MapsNoted note.maps it.config x.logs x.flags x.stopped) (sym same) it.maps;
  }

  -- it was deported: its disks have what was in memory
  pub left_maps : (old : Laid R g) (idle : Idle R g) → PartsLeft (laid_parts old) idle.rested (laid_disks old) (idle_disks idle) → DeportMapped (Up old) (Deported idle) (Ok tt)
  left_maps old idle left = λ c d was all.
      subst (λ (x : Config). MapsMoved (MapsLike (laid_disks old) (idle_disks idle) x d) x d (Up old) (Deported idle)) (one_config old.core.inner.config c was) (record { so = λ w noted. left.so w d noted all })
