-- The disks of a site whose group has a replicated volume group, once it is no longer known what they hold.
use Rattle.std.proofs.Common.{◌≡◌, true, false, IsTrue, refl, subst, sym}
use Rattle.std.specs.Prelude.{Err, IsSome, None, Option, Some}
use Rattle.vx_config.specs.Checks.{blocks_of}
use Rattle.vx_config.specs.declared.config.Config.{Config}
use Rattle.vx_disk.specs.Shelf.{Lawful, Meaning}
use Rattle.vx_disk.specs.declared.shelf.Shelf.{Ghosts}
use Rattle.vx_events.specs.RvgNotes.{inside_of}
use Rattle.vx_grouped.specs.Brings.{RestKnown}
use Rattle.vx_grouped.specs.Readies.{ready_of}
use Rattle.vx_grouped.specs.SiteReturns.{LeftLess, LessLeft, stops_early}
use Rattle.vx_grouped.specs.declared.group_site.GroupSite.TheVariants.{Down, Deported}
use Rattle.vx_grouped.specs.declared.idle.Idle.{Idle}
use Rattle.vx_history.specs.Groups.{GroupNode}
use Rattle.vx_history.specs.World.{Fuse, NoFuse, Node}
use Rattle.vx_logimport.specs.declared.rested.Rested.{Rested}
use Rattle.vx_model.specs.declared.errors.Stop.{Stop}
use Rattle.vx_model.specs.declared.site.SiteState.{SiteState}
use Rattle.vx_model.specs.declared.site.SiteState.TheVariants.{Down as IsDown, Deported as IsAway}
use Rattle.vx_model.specs.declared.units.Units.{Units}
use Rattle.vx_untold.specs.Shades.{shade_meaning}
use Rattle.vx_untold.specs.declared.shade.Shade.{Shade}
use Rattle.vx_diskset.specs.Holds.{KeptBeside}
use Rattle.vx_diskset.specs.Layouts.{IsLaidBy, units_by, units_of}
use Rattle.vx_diskset.specs.Stands.{FellOver, FellSettles, IsOverSite, OverStands, RestsOver, RvgSettles, SiteStands, idle_ready, AwayLeft}
use Rattle.vx_diskset.specs.declared.disk_set.DiskSet.TheVariants.{Over}
use Rattle.vx_diskset.specs.declared.over_set.OverSet.{OverSet}
use Rattle.vx_diskset.specs.declared.over_set.OverSite.{OverSite}
use Rattle.vx_diskset.specs.declared.over_set.OverSite.TheVariants.{Down as GroupFell, Deported as GroupAway}
use Rattle.vx_diskset.proofs.OverDisks.{LeavesLess, fell_less, settles_less, away_less}
use Rattle.vx_diskset.proofs.StaysUp.{not_true}

pub some_in : (o : Option Rested) → IsSome o → (r : Rested) × (o ≡ Some r)
some_in None is = absurd (let clash : false ≡ true = is in cc)
some_in (Some r) is = (r, refl)

-- disks that tell nothing leave no image
settles_dim : (units : Units) (m : Meaning) → Lawful m → (IsTrue m.tells → ⊥) → RvgSettles units m
settles_dim units m law untold = record { each = λ i x v all found inside. absurd (law.none (not_true m.tells untold) 0 0 (i 0 0) (all 0 0)) }

module _ (beside : KeptBeside) (n : Node) (state : SiteState) (fuse : Fuse) (group : Option GroupNode) (units : units_by group n.disks ≡ units_of n) where
  abbrev k : Node
  k = record n { state = state; fuse = fuse; group = group }

  rests_dim : (P Q : Config → Type 0) (a b : Meaning) → (IsTrue b.tells → ⊥) → RestsOver P beside n a → RestsOver Q beside k b
  rests_dim P Q a b untold it = record {
    config = it.config;
    sure = it.sure;
    lies = subst (λ (u : Units). IsLaidBy u n.ring n.volumes n.base.size (blocks_of it.config.volumes)) (sym units) it.lies;
    there = λ j is. it.there j (subst (λ (u : Units). inside_of u j ≡ true) units is);
    low = it.low;
    logged = it.logged;
    begun = λ told. absurd (untold told);
    left = λ told. absurd (untold told);
  }

  ground_dim : (group ≡ None → ⊥) → IsOverSite beside n → IsOverSite beside k
  ground_dim has it = (has, it.1, it.2, it.3, it.4, it.5)

module _ {R : Type 0} {g : Ghosts R} (beside : KeptBeside) (n : Node) (group : Option GroupNode) (units : units_by group n.disks ≡ units_of n) (has : group ≡ None → ⊥) (P : Config → Type 0) (a : Meaning) (rests : RestsOver P beside n a) (over : IsOverSite beside n) (idle : Idle R g)
    (untold : IsTrue (idle_ready idle).tells → ⊥) where
  module _ (laws : (s : Shade R) → Lawful (shade_meaning g.meaning s)) where
    fell_by : (s : OverSite R g) → s ≡ GroupFell idle → OverStands beside (record n { state = IsDown; fuse = NoFuse; group = group }) s
    fell_by s is = subst (λ (x : OverSite R g). OverStands beside (record n { state = IsDown; fuse = NoFuse; group = group }) x) (sym is) (
      refl,
      refl,
      rests_dim beside n IsDown NoFuse group units P (λ c. FellOver c beside (record n { state = IsDown; fuse = NoFuse; group = group }) (idle_ready idle)) a (idle_ready idle) untold rests,
      λ r came. settles_dim (units_of (record n { state = IsDown; fuse = NoFuse; group = group })) (idle_ready idle) (laws (ready_of idle.agreed idle.rack)) untold,
    )

    -- they are down
    pub fell_dim : (s : OverSet R g) → s.site ≡ GroupFell idle → SiteStands beside (record n { state = IsDown; fuse = NoFuse; group = group }) (Over s)
    fell_dim s is = (ground_dim beside n IsDown NoFuse group units has over, fell_by s.site is)

  -- or they are by themselves
  pub away_dim : (fuse : Fuse) (s : OverSet R g) → s.site ≡ GroupAway idle → SiteStands beside (record n { state = IsAway; fuse = fuse; group = group }) (Over s)
  away_dim fuse s is = (
    ground_dim beside n IsAway fuse group units has over,
    subst (λ (x : OverSite R g). OverStands beside (record n { state = IsAway; fuse = fuse; group = group }) x) (sym is) (
      refl,
      rests_dim beside n IsAway fuse group units P (λ c. AwayLeft c beside (record n { state = IsAway; fuse = fuse; group = group }) (idle_ready idle)) a (idle_ready idle) untold rests,
    ),
  )

-- ---- an import that was refused before anything was written

pub less_left : (m m' : Meaning) → LeftLess m m' → LeavesLess m m'
less_left m m' it = record { units = it.units; size = it.size; tells = it.tells; leaves = it.leaves }

module _ {R : Type 0} {g : Ghosts R} (beside : KeptBeside) (n : Node) (s : OverSet R g) (stop : Stop) (early : stops_early stop ≡ true) (over : IsOverSite beside n) (idle now : Idle R g) where
  -- it crashed, and is down still
  pub fell_still : n.state ≡ IsDown → n.fuse ≡ NoFuse → RestsOver (λ c. FellOver c beside n (idle_ready idle)) beside n (idle_ready idle) → FellSettles n idle → RestKnown idle.rested (Err stop) → LessLeft (idle_ready idle) (Down now) (Err stop) → s.site ≡ GroupFell now
      → SiteStands beside n (Over s)
  fell_still state unfused rests settles known less is =
      let lower : LeavesLess (idle_ready idle) (idle_ready now) = less_left (idle_ready idle) (idle_ready now) (less early) in
      let some = some_in idle.rested (known early) in (
        over,
        subst (λ (x : OverSite R g). OverStands beside n x) (sym is) (
          state,
          unfused,
          fell_less beside n (idle_ready idle) (idle_ready now) lower rests,
          λ r came. settles_less beside n (idle_ready idle) (idle_ready now) lower (units_of n) (settles some.0 some.1),
        ),
      )

  -- or it was deported, and is so still
  pub away_still : n.state ≡ IsAway → RestsOver (λ c. AwayLeft c beside n (idle_ready idle)) beside n (idle_ready idle) → LessLeft (idle_ready idle) (Deported now) (Err stop) → s.site ≡ GroupAway now → SiteStands beside n (Over s)
  away_still state rests less is = (
    over,
    subst (λ (x : OverSite R g). OverStands beside n x) (sym is) (state, away_less beside n (idle_ready idle) (idle_ready now) (less_left (idle_ready idle) (idle_ready now) (less early)) rests),
  )
