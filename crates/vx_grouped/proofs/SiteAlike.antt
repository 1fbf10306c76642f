-- Disks of a site's group of which some are made to fail: whatever the site is noted as, it still is.
use Rattle.std.proofs.Common.{◌≡◌, ◌≢◌, ℕ, Bool, subst}
use Rattle.vx_disk.specs.Causes.{WithDisks}
use Rattle.vx_disk.specs.Disks.{Disks, Untouched}
use Rattle.vx_disk.specs.Racks.{Alike}
use Rattle.vx_disk.specs.declared.shelf.Shelf.{Ghosts}
use Rattle.vx_history.specs.World.{Node}
use Rattle.vx_group.specs.Holding.{wide}
use Rattle.vx_group.specs.Stands.{inner_meaning}
use Rattle.vx_grouped.specs.GroupSites.{CutNoted, GroupSiteStands, UpNoted, idle_disks, laid_disks, laid_below, idle_below}
use Rattle.vx_grouped.specs.SetFuses.{HasFuse}
use Rattle.vx_grouped.specs.SiteEnds.{StaysAlike}
use Rattle.vx_grouped.specs.declared.idle.Idle.{Idle}
use Rattle.vx_grouped.specs.declared.laid.Laid.{Laid}
use Rattle.vx_grouped.specs.declared.group_site.GroupSite.{GroupSite}
use Rattle.vx_grouped.specs.declared.group_site.GroupSite.TheVariants.{Up, Deported, Down}
use Rattle.vx_grouped.proofs.AlikeLemmas.{alike_away, alike_down, alike_fallen, alike_up, fuse_stays}
use Rattle.vx_watched.specs.Traces.{TellsLess}

-- what is told of disks of which one is made to fail, or no longer
abbrev Told : (disk : ℕ) → Bool → Disks → Disks → Type 0
Told disk on o n = Untouched o n × (n.failing disk ≡ on) × ((u : ℕ) → u ≢ disk → n.failing u ≡ o.failing u)

module _ {R : Type 0} {g : Ghosts R} (e : GroupSite R g) (disk : ℕ) (on : Bool) where
  pub up_stays : (group new : Laid R g) → e ≡ Up group → new.core ≡ group.core → Alike (laid_disks group) (laid_disks new) → (laid_disks new).down ≡ (laid_disks group).down
      → (laid_disks new).armed ≡ (laid_disks group).armed → Alike (inner_meaning (wide group.core) (laid_disks group)) (inner_meaning (wide new.core) (laid_disks new))
      → WithDisks (laid_disks group).disks (laid_disks new).disks (Told disk on) → TellsLess (laid_below group) (laid_below new) → StaysAlike e (Up new)
  up_stays group new is core alike down armed volumes told less =
      let fuse : (n : Node) → HasFuse n.fuse (laid_disks group) → HasFuse n.fuse (laid_disks new) = λ n. fuse_stays n.fuse (laid_disks group) (laid_disks new) (Told disk on) armed (λ o d it. it.0.fuse) told in
      record {
        up = λ n note it. let was = subst (λ x. UpNoted n note x) is it in
            alike_up n note group.core new.core (laid_disks group) (laid_disks new) core alike down volumes (laid_below group).tells (laid_below new).tells less (fuse n was.fuse) was;
        cut = λ n note it. alike_fallen n note group.core new.core (laid_disks group) (laid_disks new) core alike down volumes (laid_below group).tells (laid_below new).tells less (subst (λ x. CutNoted n note x) is it);
        stands = λ n it. let was = subst (λ x. GroupSiteStands n x) is it in
            (was.0, alike_up n was.0 group.core new.core (laid_disks group) (laid_disks new) core alike down volumes (laid_below group).tells (laid_below new).tells less (fuse n was.1.fuse) was.1);
      }

  module _ (rack new : Idle R g) (alike : Alike (idle_disks rack) (idle_disks new)) (down : (idle_disks new).down ≡ (idle_disks rack).down) (armed : (idle_disks new).armed ≡ (idle_disks rack).armed)
      (told : WithDisks (idle_disks rack).disks (idle_disks new).disks (Told disk on)) (same : new.agreed ≡ rack.agreed) (less : TellsLess (idle_below rack) (idle_below new)) where
    pub away_stays : e ≡ Deported rack → StaysAlike e (Deported new)
    away_stays is = record {
      up = λ n note it. absurd (subst (λ x. UpNoted n note x) is it);
      cut = λ n note it. absurd (subst (λ x. CutNoted n note x) is it);
      stands = λ n it. let was = subst (λ x. GroupSiteStands n x) is it in
          (was.0, alike_away n (idle_disks rack) (idle_disks new) alike down armed rack.agreed new.agreed same (idle_below rack).tells (idle_below new).tells less was.0 (fuse_stays n.fuse (idle_disks rack) (idle_disks new) (Told disk on) armed (λ o d t. t.0.fuse) told was.1.fuse) was.1);
    }

    pub down_stays : e ≡ Down rack → StaysAlike e (Down new)
    down_stays is = record {
      up = λ n note it. absurd (subst (λ x. UpNoted n note x) is it);
      cut = λ n note it. absurd (subst (λ x. CutNoted n note x) is it);
      stands = λ n it. let was = subst (λ x. GroupSiteStands n x) is it in (was.0, alike_down n (idle_disks rack) (idle_disks new) alike down armed rack.agreed new.agreed same (idle_below rack).tells (idle_below new).tells less was.0 was.1);
    }
