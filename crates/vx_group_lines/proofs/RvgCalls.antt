-- The calls of a line that makes a replicated volume group, and the fuse behind them.
use Rattle.vx_above.proofs.FuseGoing.{fused_goes}
use Rattle.std.proofs.Common.{◌≡◌, ℕ, refl}
use Rattle.std.proofs.lemmas.Bool.{false_from_ne_true}
use Rattle.std.specs.Prelude.{IsTrue}
use Rattle.vx_disk.specs.declared.shelf.Shelf.{Ghosts}
use Rattle.vx_history.specs.Groups.{GroupNode}
use Rattle.vx_history.specs.Steps.{burned}
use Rattle.vx_history.specs.World.{Node}
use Rattle.vx_watched.specs.Since.{CalledSince}
use Rattle.vx_grouped.specs.GroupSites.{site_disks}
use Rattle.vx_grouped.specs.declared.group_site.GroupSite.{GroupSite}
use Rattle.vx_diskset.specs.Aboves.{site_in}
use Rattle.vx_diskset.specs.Asked.{FusedAs}
use Rattle.vx_diskset.specs.GroupCalls.{AtSite}
use Rattle.vx_diskset.specs.Makings.{below_in}
use Rattle.vx_diskset.specs.Noted.{SiteNoted}
use Rattle.vx_diskset.specs.Stands.{faults_at}
use Rattle.vx_diskset.specs.declared.disk_set.DiskSet.{DiskSet}
use Rattle.vx_diskset.specs.declared.disk_set.DiskSet.TheVariants.{Bare, Spoiled, Up, Receives, Down, OfGroup, Over, Gone}
use Rattle.vx_diskset.specs.declared.group_set.GroupSet.{GroupSet}
use Rattle.vx_group_lines.proofs.GroupCalls.{fused_since}

module _ {R : Type 0} {g : Ghosts R} where
  -- the calls on the disks of a site are those on its group, with a replicated volume group over it or without
  pub below_faults : (n : Node) (next : GroupNode) (e : DiskSet R g) (none : GroupSite R g) → SiteNoted n next e → (k : ℕ) → faults_at e k ≡ (site_disks (below_in e none)).disk_faults k
  below_faults n next (Bare rack) none it k = absurd it
  below_faults n next (Spoiled rack) none it k = absurd it
  below_faults n next (Up rvg) none it k = absurd it
  below_faults n next (Receives s) none it k = absurd it
  below_faults n next (Down rack) none it k = absurd it
  below_faults n next (OfGroup s) none it k = refl
  below_faults n next (Over s) none it k = refl
  below_faults n next Gone none it k = absurd it

  -- the fuse of disks that are up still
  pub fused_below : (n m : Node) (set : GroupSet R g) (after : DiskSet R g) → m.fuse ≡ burned n.fuse → AtSite (λ x. CalledSince (site_disks set.site) (site_disks x)) after → AtSite (λ x. IsTrue (site_disks x).down → ⊥) after → FusedAs n (OfGroup set)
      → FusedAs m after
  fused_below n m set (Bare rack) is since up h = absurd since
  fused_below n m set (Spoiled rack) is since up h = absurd since
  fused_below n m set (Up rvg) is since up h = absurd since
  fused_below n m set (Receives s) is since up h = absurd since
  fused_below n m set (Down rack) is since up h = absurd since
  fused_below n m set (OfGroup next) is since up h = fused_since n m set next is since up h
  fused_below n m set (Over next) is since up h =
      fused_goes n m (OfGroup set) (Over next) is since.rack (λ o x was now. (since.told o x was now).fuse (false_from_ne_true (site_disks (site_in next)).down up)) h
  fused_below n m set Gone is since up h = absurd since
