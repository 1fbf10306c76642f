-- What a replicated volume group finds of its site in the volumes of a group that an import brought up: of disks that crashed, and of those that were deported.
use Rattle.std.proofs.Common.{◌≡◌, ◌<◌, inl, inr, ℕ, true, IsTrue, length}
use Rattle.std.specs.Prelude.{None}
use Rattle.vx_disk.specs.Racks.{IsRack}
use Rattle.vx_disk.specs.Shelf.{Meaning}
use Rattle.vx_disk.specs.declared.shelf.Shelf.{Ghosts}
use Rattle.vx_events.specs.RvgNotes.{inside_of}
use Rattle.vx_ground.specs.Lifted.{laid_volumes}
use Rattle.vx_group.specs.Resumes.{AtRest}
use Rattle.vx_grouped.specs.Brings.{BringsSite}
use Rattle.vx_grouped.specs.GroupSites.{laid_disks}
use Rattle.vx_grouped.specs.Readies.{ready_of}
use Rattle.vx_grouped.specs.declared.idle.Idle.{Idle}
use Rattle.vx_grouped.specs.declared.laid.Laid.{Laid}
use Rattle.vx_history.specs.World.{Node}
use Rattle.vx_config.specs.declared.config.Config.{Config}
use Rattle.vx_untold.specs.Shades.{shade_meaning}
use Rattle.vx_untold.specs.declared.shade.Shade.{Shade}
use Rattle.vx_diskset.specs.Holds.{KeptBeside, most_header, state_with}
use Rattle.vx_diskset.specs.Lasts.{LeftWith}
use Rattle.vx_diskset.specs.Layouts.{IsLaid, units_of}
use Rattle.vx_diskset.specs.Stands.{AwayLeft, AwayOver, FellOver, RestsOver, RvgSettles, idle_ready}
use Rattle.vx_diskset.proofs.OverCame.{alike_rests, away_laid, away_left, away_there, fell_laid, fell_left, fell_there, rack_rests, told_rest}

module _ {R : Type 0} {g : Ghosts R} where
  pub record HasVolumes (beside : KeptBeside) (n : Node) (laid : Laid R g) : Type 0 where
    pub sure : beside.doubt ≡ None
    pub low : n.low ≡ 1
    pub logged : length n.log ≡ n.safe
    pub begun : 0 < n.session
    pub lies : IsLaid (units_of n) n.ring n.volumes n.base.size (laid_volumes laid)
    pub there : (k : ℕ) → inside_of (units_of n) k ≡ true → k < (laid_volumes laid).units
    pub left : LeftWith (units_of n) n.ring (state_with n beside.links) n.session (most_header beside n) n.log n.base (laid_volumes laid)

  module _ (beside : KeptBeside) (n : Node) (idle : Idle R g) (laid : Laid R g) (brings : BringsSite (idle_ready idle) laid) (told : IsTrue (laid_disks laid).tells) where
    abbrev first : Meaning
    first = shade_meaning g.meaning brings.first

    pub told_before : IsTrue (idle_ready idle).tells
    told_before = told_rest (idle_ready idle) first laid.core (laid_disks laid) brings.revived brings.brings told

    -- of disks that crashed, whose blocks have one value each
    module _ (rests : RestsOver (λ c. FellOver c beside n (idle_ready idle)) beside n (idle_ready idle)) (settled : RvgSettles (units_of n) (idle_ready idle)) (one : AtRest (idle_ready idle)) where
      first_rests : AtRest first
      first_rests = alike_rests (idle_ready idle) first brings.revived one

      pub fell_has : HasVolumes beside n laid
      fell_has = record {
        sure = rests.sure;
        low = rests.low;
        logged = rests.logged;
        begun = rests.begun told_before;
        lies = fell_laid n (idle_ready idle) first laid.core (laid_disks laid) brings.revived brings.brings first_rests rests settled told;
        there = fell_there n (idle_ready idle) first laid.core (laid_disks laid) brings.revived brings.brings first_rests rests settled told;
        left = fell_left n (idle_ready idle) first laid.core (laid_disks laid) brings.revived brings.brings first_rests rests settled told;
      }

    -- their rack is down
    pub one_down : ((s : Shade R) → IsRack (shade_meaning g.meaning s)) → IsTrue (idle_ready idle).down → AtRest (idle_ready idle)
    one_down racks down = rack_rests (idle_ready idle) (racks (ready_of idle.agreed idle.rack)) down told_before

    -- of disks that were deported
    given_has : RestsOver (λ c. AwayOver c beside n (idle_ready idle)) beside n (idle_ready idle) → HasVolumes beside n laid
    given_has rests = record {
      sure = rests.sure;
      low = rests.low;
      logged = rests.logged;
      begun = rests.begun told_before;
      lies = away_laid n (idle_ready idle) first laid.core (laid_disks laid) brings.revived brings.brings rests told;
      there = away_there n (idle_ready idle) first laid.core (laid_disks laid) brings.revived brings.brings rests told;
      left = away_left n (idle_ready idle) first laid.core (laid_disks laid) brings.revived brings.brings rests told;
    }

    with_left : (P Q : Config → Type 0) (it : RestsOver P beside n (idle_ready idle)) → Q it.config → RestsOver Q beside n (idle_ready idle)
    with_left P Q it left = record { config = it.config; sure = it.sure; lies = it.lies; there = it.there; low = it.low; logged = it.logged; begun = it.begun; left = λ tells. left }

    pub away_has : RestsOver (λ c. AwayLeft c beside n (idle_ready idle)) beside n (idle_ready idle) → HasVolumes beside n laid
    away_has rests = by (rests.left told_before)
      where
        by : AwayLeft rests.config beside n (idle_ready idle) → HasVolumes beside n laid
        by (inl away) = given_has (with_left (λ c. AwayLeft c beside n (idle_ready idle)) (λ c. AwayOver c beside n (idle_ready idle)) rests away)
        by (inr fell) = fell_has (with_left (λ c. AwayLeft c beside n (idle_ready idle)) (λ c. FellOver c beside n (idle_ready idle)) rests fell.over) fell.settles fell.one
