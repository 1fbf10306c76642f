-- Calls on a replicated volume group over a group of disks that is up, by parts.
use Rattle.std.proofs.Common.{◌≡◌, refl}
use Rattle.vx_disk.specs.declared.shelf.Shelf.{Ghosts}
use Rattle.vx_ground.specs.Accounts.{GroundSince, ground_state}
use Rattle.vx_ground.specs.Lifted.{laid_volumes}
use Rattle.vx_grouped.specs.GroupSites.{laid_below, laid_disks}
use Rattle.vx_grouped.specs.declared.laid.Laid.{Laid}
use Rattle.vx_rvg.specs.Views.{Core}
use Rattle.vx_watched.specs.Since.{CalledSince}
use Rattle.vx_watched.specs.Traces.{TellsLess}
use Rattle.vx_watched.proofs.SinceLemmas.{since_none}
use Rattle.vx_ground.proofs.AccountLemmas.{ground_none}
use Rattle.vx_diskset.proofs.BlockWorks.{no_changes}
use Rattle.vx_diskset.specs.Founded.{FoundedWorks}
use Rattle.vx_diskset.specs.Works.{KeepsSound}
use Rattle.vx_diskset.proofs.OverWorks.{carried_core}

module _ {R : Type 0} {g : Ghosts R} where
  pub founded_works : (c c0 d d0 : Core) (l l0 k k0 : Laid R g) → c0 ≡ c → l0 ≡ l → d ≡ d0 → k ≡ k0 → KeepsSound c0 d0 (laid_volumes l0) (laid_volumes k0)
      → GroundSince (ground_state l0.core) (laid_disks l0) (ground_state k0.core) (laid_disks k0) → CalledSince (laid_disks l0) (laid_disks k0) → TellsLess (laid_below l0) (laid_below k0) → FoundedWorks c l d k
  founded_works c c0 d d0 l l0 k k0 first laid last new keeps ground since told =
      carried_core (λ x a y b. FoundedWorks x a y b) c c0 d d0 l l0 k k0 first laid last new (record { units = keeps.units; moves = keeps.moves; ground = ground; since = since; told = told })

  -- no call
  pub founded_none : (c : Core) (laid : Laid R g) → FoundedWorks c laid c laid
  founded_none c laid = record {
    units = refl;
    moves = no_changes c (laid_volumes laid);
    ground = ground_none (ground_state laid.core) (laid_disks laid);
    since = since_none (laid_disks laid);
    told = λ told. told;
  }
