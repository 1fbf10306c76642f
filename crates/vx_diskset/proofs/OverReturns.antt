-- A replicated volume group over a group of disks comes up with it, where contents are told.
use Rattle.std.proofs.Common.{◌≡◌, ◌∙◌, ◌<◌, IsTrue, refl}
use Rattle.std.specs.Prelude.{None, Some}
use Rattle.vx_disk.specs.Shelf.{Lawful}
use Rattle.vx_disk.specs.declared.shelf.Shelf.{Ghosts}
use Rattle.vx_events.specs.GroupViews.{config_of}
use Rattle.vx_history.specs.Groups.{GroupNode}
use Rattle.vx_history.specs.World.{Fuse, Node}
use Rattle.vx_rvg.specs.Starts.{IsStarted}
use Rattle.vx_rvg.specs.Views.{IsSound}
use Rattle.vx_srl.specs.Views.{most_number}
use Rattle.vx_untold.specs.Shades.{shade_meaning}
use Rattle.vx_untold.specs.declared.shade.Shade.{Shade}
use Rattle.vx_group.specs.Holding.{wide}
use Rattle.vx_group.specs.Laws.{group_lawful}
use Rattle.vx_ground.specs.Lifted.{laid_volumes}
use Rattle.vx_grouped.specs.GroupSites.{laid_disks}
use Rattle.vx_grouped.specs.declared.laid.Laid.{Laid}
use Rattle.vx_diskset.specs.Fuses.{FuseOn}
use Rattle.vx_diskset.specs.Holds.{KeptBeside}
use Rattle.vx_diskset.specs.Layouts.{config_units, units_of}
use Rattle.vx_diskset.specs.OverRises.{came_with}
use Rattle.vx_diskset.specs.OverStarts.{Started}
use Rattle.vx_diskset.specs.Stands.{IsOverSite, IsUpAt, SiteStands}
use Rattle.vx_diskset.specs.Works.{OnlyLog}
use Rattle.vx_diskset.specs.declared.disk_set.DiskSet.TheVariants.{Over}
use Rattle.vx_diskset.specs.declared.over_set.OverSet.{OverSet}
use Rattle.vx_diskset.proofs.BlockLemmas.{up_alone}
use Rattle.vx_diskset.proofs.OverHas.{HasVolumes}
use Rattle.vx_diskset.proofs.OverUp.{over_came, over_session, set_came}

never_none : {A : Type 0} {x : A} → Some x ≡ None → ⊥
never_none e = cc

-- on a group, with this note of it
over_again : (beside : KeptBeside) (n : Node) (note : GroupNode) (fuse : Fuse) → beside.doubt ≡ None → IsOverSite beside n → IsOverSite beside (came_with fuse note n)
over_again beside n note fuse sure over = ((λ none. never_none none), sure, over.2, over.3, over.4, over.5)

module _ {R : Type 0} {g : Ghosts R} (laws : (s : Shade R) → Lawful (shade_meaning g.meaning s)) (beside : KeptBeside) (n : Node) (note : GroupNode) (fuse : Fuse) (laid : Laid R g) (s : OverSet R g) (units : config_units (config_of note.config) ≡ units_of n) (over : IsOverSite beside n)
    (started : Started (units_of n) laid s) (told : IsTrue (laid_disks laid).tells) (on : FuseOn fuse (laid_volumes started.laid)) (has : HasVolumes beside n laid) where
  here : Lawful (laid_volumes started.laid)
  here = group_lawful (wide started.laid.core) (shade_meaning g.meaning started.laid.shelf) (laws started.laid.shelf) started.laid.stands.group.stands

  does : OnlyLog (units_of n) (laid_volumes laid) (laid_volumes started.laid) × IsSound started.core (laid_volumes started.laid) × IsStarted (units_of n) (laid_volumes laid) started.core (laid_volumes started.laid) × (IsTrue (laid_volumes started.laid).down → ⊥)
  does = started.starts.does

  came_up : IsUpAt beside (came_with fuse note n) started.core (laid_volumes started.laid)
  came_up =
      over_came beside n note fuse (laid_volumes laid) (laid_volumes started.laid) started.core units has.low has.logged has.sure has.begun has.lies has.there has.left does.0 does.1 does.2 does.3 here on

  -- there was a further session
  pub came_session : n.session < most_number
  came_session =
      over_session beside n note fuse (laid_volumes laid) (laid_volumes started.laid) started.core units has.low has.logged has.sure has.begun has.lies has.there has.left does.0 does.1 does.2 does.3 here on
      (started.starts.since.tells ∙ told)

  pub came_again : SiteStands beside (came_with fuse note n) (Over s)
  came_again = (
    over_again beside n note fuse has.sure over,
    set_came beside (came_with fuse note n) s started.laid started.core started.site started.above
        (up_alone (came_with fuse note n) started.core (laid_volumes started.laid) refl here does.1 came_up),
  )
