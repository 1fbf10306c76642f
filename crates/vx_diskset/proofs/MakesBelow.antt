-- A volume that is made in the group below a replicated volume group, by what the site notes of it.
use Rattle.std.proofs.Common.{◌≡◌, ◌∙◌, ℕ, true, false, List, ap, subst, sym}
use Rattle.std.specs.Prelude.{IfOk, Ok, Err, Result}
use Rattle.vx_model.specs.declared.errors.Stop.{Stop}
use Rattle.vx_model.specs.declared.errors.Stop.TheVariants.{No as Refused, OutOfMemory}
use Rattle.vx_model.specs.declared.site.SiteState.TheVariants.{Up as IsUp}
use Rattle.vx_config.specs.Configs.{HasSpelling}
use Rattle.vx_disk.specs.Racks.{IsRack}
use Rattle.vx_disk.specs.Shelf.{Meaning}
use Rattle.vx_disk.specs.declared.shelf.Shelf.{Ghosts}
use Rattle.vx_blockwise.specs.Blocks.{blockwise}
use Rattle.vx_ground.specs.Lifted.{volumes_over}
use Rattle.vx_group.specs.declared.group_core.GroupCore.{GroupCore}
use Rattle.vx_history.specs.Groups.{GroupNode}
use Rattle.vx_history.specs.World.{Node}
use Rattle.vx_layout.specs.declared.shape.Shape.{Shape}
use Rattle.vx_untold.specs.Shades.{shade_meaning}
use Rattle.vx_untold.specs.declared.shade.Shade.{Shade}
use Rattle.vx_watched.specs.Since.{CalledSince}
use Rattle.vx_watched.specs.Traces.{TellsLess}
use Rattle.vx_grouped.specs.Added.{IsUnmoved, note_added}
use Rattle.vx_grouped.specs.ConfigMoves.{LosesSome}
use Rattle.vx_grouped.specs.GroupSites.{GroupUp, idle_disks, laid_below, laid_disks, site_disks, with_note}
use Rattle.vx_grouped.specs.SiteAdds.{LacksVolume, MakesVolume}
use Rattle.vx_grouped.specs.SiteEnds.{stops_down}
use Rattle.vx_grouped.specs.declared.group_site.GroupSite.{GroupSite}
use Rattle.vx_grouped.specs.declared.group_site.GroupSite.TheVariants.{Up, Deported, Down, Marked, Gone}
use Rattle.vx_grouped.specs.declared.idle.Idle.{Idle}
use Rattle.vx_grouped.specs.declared.laid.Laid.{Laid}
use Rattle.vx_grouped.proofs.SiteAddLemmas.{ended, failed_since, made_done, made_up, none_of, not_made, spells}
use Rattle.vx_diskset.specs.Aboves.{above_in, site_in}
use Rattle.vx_diskset.specs.Founded.{LaidFell}
use Rattle.vx_diskset.specs.Holds.{KeptBeside}
use Rattle.vx_diskset.specs.LaidBlocks.{laid_blockwise}
use Rattle.vx_diskset.specs.OverKeeps.{StaysAbove}
use Rattle.vx_diskset.specs.OverPlains.{note_tidied}
use Rattle.vx_diskset.specs.OverVolumes.{StandsAgain, StillSite, VolBelow}
use Rattle.vx_diskset.specs.Stands.{AboveStands, SiteStands}
use Rattle.vx_diskset.specs.declared.above.Above.{Above}
use Rattle.vx_diskset.specs.declared.disk_set.DiskSet.TheVariants.{Over}
use Rattle.vx_diskset.specs.declared.over_set.OverSet.{OverSet}
use Rattle.vx_diskset.proofs.CallsBelow.{called_below, calls_settled, cut_below}
use Rattle.vx_diskset.proofs.GroupCalling.{IsSettled, up_settled}
use Rattle.vx_diskset.proofs.OverFrames.{OverUp, over_from, over_to}
use Rattle.vx_diskset.proofs.Tidied.{site_tidied}

-- what holds where memory was short
pub unmoved_map : {T : Type 0} {A B : Type 0} → (A → B) → (r : Result T Stop) → IsUnmoved r A → IsUnmoved r B
unmoved_map f (Ok x) it = tt
unmoved_map f (Err (Refused why)) it = tt
unmoved_map f (Err OutOfMemory) it = f it

-- so nothing is said where the fuse ran out
pub off_unmoved : (A : Type 0) (stop : Stop) → stops_down stop ≡ true → IsUnmoved {T = ℕ} (Err stop) A
off_unmoved A (Refused why) off = tt
off_unmoved A OutOfMemory off = absurd (let clash : false ≡ true = off in cc)

-- what is so of each answer
pub if_any : {T : Type 0} {P : T → Type 0} (r : Result T Stop) → ((x : T) → P x) → IfOk r P
if_any (Ok x) each = each x
if_any (Err stop) each = tt

module _ {R : Type 0} {g : Ghosts R} (n : Node) (note : GroupNode) (name : List ℕ) (want : Shape) (group new : Laid R g) (up : GroupUp n note (laid_below group).tells group.core (laid_disks group)) (since : CalledSince (laid_disks group) (laid_disks new))
    (less : TellsLess (laid_below group) (laid_below new)) (has : HasSpelling new.core.inner.config) (racks : (s : Shade R) → IsRack (shade_meaning g.meaning s)) where
  pub vol_below_done : (vol : ℕ) → MakesVolume name want group.core (laid_disks group) new.core (laid_disks new) (Ok vol) → VolBelow n note name want (Up group) (Up new) (Ok vol)
  vol_below_done vol works = let it = made_done n note name want group new up since less has racks vol works in (it.0, it.1, site_tidied n (note_added vol want.blocks it.0) (Up new) it.2, it.3)

  pub vol_below_up : (stop : Stop) → stops_down stop ≡ false → MakesVolume name want group.core (laid_disks group) new.core (laid_disks new) (Err stop) → IsUnmoved {T = ℕ} (Err stop) ((new.core ≡ group.core) × (new.shelf ≡ group.shelf))
      → VolBelow n note name want (Up group) (Up new) (Err stop)
  vol_below_up (Refused why) off works still =
      called_below ℕ n note group new false (λ c d. ⊥) (LosesSome (laid_disks group) (laid_disks new)) (LosesSome (laid_disks group) (laid_disks new)) (LacksVolume (Up group) name want) (Err (Refused why))
      (made_up n note name want group new up since less has racks (Refused why) off works still)
  vol_below_up OutOfMemory off works still = made_up n note name want group new up since less has racks OutOfMemory off works still

  pub vol_below_cut : (pick : ℕ) (idle : Idle R g) → LaidFell pick new idle → (stop : Stop) → stops_down stop ≡ true → MakesVolume name want group.core (laid_disks group) new.core (laid_disks new) (Err stop) → VolBelow n note name want (Up group) (Down idle) (Err stop)
  vol_below_cut pick idle fell (Refused why) off works =
      cut_below ℕ n note group new false (λ c d. ⊥) (LosesSome (laid_disks group) (idle_disks idle)) (LosesSome (laid_disks group) (idle_disks idle)) (LacksVolume (Up group) name want) up since less (spells n note name want group new up since less has racks) pick idle fell (Refused why) off
      (works.leaves n note up.at) (λ once tight none. works.agreed (up.at.lies.committed tight none))
      (λ which is blames.
      not_made n note name want group new up since less has racks (Refused why) works idle.rack
      (ended n note name want group new up since less has racks (Refused why) works (none_of n note name want group new up since less has racks (Refused why) works which is blames) which is).0
      (failed_since (laid_disks group) (laid_disks new) (idle_disks idle) fell.stopped works.disks))
  vol_below_cut pick idle fell OutOfMemory off works = cc

module _ {R : Type 0} {g : Ghosts R} where
  -- behind it the disks are up, or have no fuse
  pub vol_below_settled : (rackful : (r : R) → IsRack (g.meaning r)) (n : Node) (note : GroupNode) (name : List ℕ) (want : Shape) (old new : GroupSite R g) (r : Result ℕ Stop) → VolBelow n note name want old new r → IsSettled new
  vol_below_settled rackful n note name want old new (Ok vol) it = up_settled rackful (with_note (note_tidied (note_added vol want.blocks it.0)) n) (note_tidied (note_added vol want.blocks it.0)) new it.2
  vol_below_settled rackful n note name want old new (Err (Refused why)) it =
      calls_settled rackful ℕ false (λ c d. ⊥) (LosesSome (site_disks old) (site_disks new)) (LosesSome (site_disks old) (site_disks new)) (LacksVolume old name want) n note old new (Err (Refused why)) it
  vol_below_settled rackful n note name want old new (Err OutOfMemory) it = up_settled rackful n note new it

  -- ---- nothing has changed

  laid_still : (old new : Laid R g) → new.core ≡ old.core → new.shelf ≡ old.shelf → laid_blockwise old ≡ laid_blockwise new
  laid_still old new core shelf =
      sym (ap (λ (c : GroupCore). blockwise (volumes_over c (shade_meaning g.meaning new.shelf))) core ∙ ap (λ (s : Shade R). blockwise (volumes_over old.core (shade_meaning g.meaning s))) shelf)

  over_still : (beside : KeptBeside) (n : Node) (a : Above) (old new : GroupSite R g) → StillSite old new → OverUp beside n a old → OverUp beside n a new
  over_still beside n a (Up old) (Up new) still it = subst (λ (m : Meaning). AboveStands beside n a m) (laid_still old new still.0 still.1) it
  over_still beside n a (Up old) (Deported idle) still it = absurd still
  over_still beside n a (Up old) (Down idle) still it = absurd still
  over_still beside n a (Up old) (Marked rack) still it = absurd still
  over_still beside n a (Up old) Gone still it = absurd still
  over_still beside n a (Deported idle) new still it = absurd it
  over_still beside n a (Down idle) new still it = absurd it
  over_still beside n a (Marked rack) new still it = absurd it
  over_still beside n a Gone new still it = absurd it

  above_still : (old new : GroupSite R g) (a b : Above) → StillSite old new → StaysAbove a new b → b ≡ a
  above_still (Up old) (Up new) a b still is = is
  above_still (Up old) (Deported idle) a b still is = absurd still
  above_still (Up old) (Down idle) a b still is = absurd still
  above_still (Up old) (Marked rack) a b still is = absurd still
  above_still (Up old) Gone a b still is = absurd still
  above_still (Deported idle) new a b still is = absurd still
  above_still (Down idle) new a b still is = absurd still
  above_still (Marked rack) new a b still is = absurd still
  above_still Gone new a b still is = absurd still

  pub disks_still : (old new : GroupSite R g) → StillSite old new → (site_disks new).disks ≡ (site_disks old).disks
  disks_still (Up old) (Up new) still = ap (λ (s : Shade R). (shade_meaning g.meaning s).disks) still.1
  disks_still (Up old) (Deported idle) still = absurd still
  disks_still (Up old) (Down idle) still = absurd still
  disks_still (Up old) (Marked rack) still = absurd still
  disks_still (Up old) Gone still = absurd still
  disks_still (Deported idle) new still = absurd still
  disks_still (Down idle) new still = absurd still
  disks_still (Marked rack) new still = absurd still
  disks_still Gone new still = absurd still

  -- the site stands in the same world
  pub stands_still : (old new : OverSet R g) (a : Above) (e e' : GroupSite R g) → a ≡ above_in old → e ≡ site_in old → site_in new ≡ e' → StaysAbove a e' (above_in new) → StillSite e e' → StandsAgain old new
  stands_still old new a e e' above_is site_is at above still = record { same = by }
    where
      by : (beside : KeptBeside) (n : Node) → SiteStands beside n (Over old) → n.state ≡ IsUp → SiteStands beside n (Over new)
      by beside n stands state =
          let was : OverUp beside n (above_in old) (site_in old) = over_to beside n old.site state stands.1 in
          let it : OverUp beside n a e = subst (λ (x : GroupSite R g). OverUp beside n a x) (sym site_is) (subst (λ (x : Above). OverUp beside n x (site_in old)) (sym above_is) was) in
          let now : OverUp beside n a e' = over_still beside n a e e' still it in
          (stands.0, over_from beside n new.site (subst (λ (x : GroupSite R g). OverUp beside n (above_in new) x) (sym at) (subst (λ (x : Above). OverUp beside n x e') (sym (above_still e e' a (above_in new) still above)) now)))
