-- The note of a group that an import brought, behind calls on the volumes of its replicated volume group.
use Rattle.std.proofs.Common.{◌≡◌, ◌∙◌, inl, inr, ⊎_elim, ℕ, Bool, ap, refl, sym}
use Rattle.std.specs.Prelude.{None, Option, Some}
use Rattle.vx_config.specs.declared.config.Config.{Config}
use Rattle.vx_disk.specs.Racks.{IsRack}
use Rattle.vx_disk.specs.declared.shelf.Shelf.{Ghosts}
use Rattle.vx_events.specs.GroupViews.{config_of}
use Rattle.vx_events.specs.RvgFits.{config_rvg, rvg_noted}
use Rattle.vx_ground.specs.Accounts.{GroundSince, ground_state}
use Rattle.vx_ground.specs.Lifted.{laid_volumes}
use Rattle.vx_grouped.specs.GroupNotes.{noted_config}
use Rattle.vx_grouped.specs.GroupSites.{GroupUp, UpNoted, laid_below, laid_disks}
use Rattle.vx_grouped.specs.SiteReturns.{returned_with}
use Rattle.vx_grouped.specs.declared.group_site.GroupSite.TheVariants.{Up}
use Rattle.vx_grouped.specs.declared.laid.Laid.{Laid}
use Rattle.vx_history.specs.Groups.{GroupNode}
use Rattle.vx_history.specs.Steps.{burned}
use Rattle.vx_history.specs.World.{Fuse, Node}
use Rattle.vx_model.specs.declared.units.Units.{Units}
use Rattle.vx_untold.specs.Shades.{shade_meaning}
use Rattle.vx_untold.specs.declared.shade.Shade.{Shade}
use Rattle.vx_watched.specs.Since.{CalledSince}
use Rattle.vx_watched.specs.Traces.{TellsLess}
use Rattle.vx_diskset.specs.Aboves.{InsideOf}
use Rattle.vx_diskset.specs.Layouts.{config_units, units_or}
use Rattle.vx_diskset.specs.Noted.{NotesWorked, TidyNote, below_rvg}
use Rattle.vx_diskset.specs.OverRises.{came_with}
use Rattle.vx_diskset.specs.Shelves.{ChangesOnly, OfRvg}
use Rattle.vx_diskset.specs.Works.{OnlyLog}
use Rattle.vx_diskset.proofs.GroundNotes.{note_ground}
use Rattle.vx_diskset.proofs.MadeOver.{group_as}
use Rattle.vx_diskset.proofs.OverNoted.{note_read, units_same}
use Rattle.vx_diskset.proofs.OverNotes.{next_is, over_notes}

-- the units of a configuration that names some
or_read : (o : Option Units) (u : Units) → o ≡ Some u → units_or o ≡ u
or_read None u named = absurd (let clash : None ≡ Some u = named in cc)
or_read (Some x) u named = let same : x ≡ u = cc in same

some_read : (o : Option Config) (u : Units) → config_rvg o ≡ Some u → config_units o ≡ u
some_read None u named = absurd (let clash : None ≡ Some u = named in cc)
some_read (Some c) u named = or_read c.rvg u named

pub units_read : (note : GroupNode) (u : Units) → rvg_noted note ≡ Some u → config_units (config_of note.config) ≡ u
units_read note u named = some_read (config_of note.config) u named

module _ {R : Type 0} {g : Ghosts R} where
  -- the group of a site in its next session, as the import left it
  pub up_here : (n : Node) (note middle : GroupNode) (laid : Laid R g) → UpNoted (returned_with middle (record (below_rvg n) { group = Some note })) middle (Up laid) → GroupUp (below_rvg (came_with (burned n.fuse) middle n)) middle (laid_below laid).tells laid.core (laid_disks laid)
  up_here n note middle laid up =
      group_as (returned_with middle (record (below_rvg n) { group = Some note })) (below_rvg (came_with (burned n.fuse) middle n)) middle (laid_below laid).tells laid.core (laid_disks laid)
      (record { is = refl; none = record { role = refl; volumes = refl; log = refl; safe = refl; running = refl } }) refl refl refl refl up

  module _ (racks : (s : Shade R) → IsRack (shade_meaning g.meaning s)) (n : Node) (middle : GroupNode) (fuse : Fuse) (u : Units) (laid new : Laid R g) (inside : InsideOf u middle) (named : rvg_noted middle ≡ Some u)
      (up : GroupUp (below_rvg (came_with fuse middle n)) middle (laid_below laid).tells laid.core (laid_disks laid)) (ground : GroundSince (ground_state laid.core) (laid_disks laid) (ground_state new.core) (laid_disks new)) (since : CalledSince (laid_disks laid) (laid_disks new))
      (less : TellsLess (laid_below laid) (laid_below new)) (only : OnlyLog u (laid_volumes laid) (laid_volumes new)) where
    moves : ChangesOnly (OfRvg u) (laid_volumes laid) (laid_volumes new)
    moves = record { units = only.units; size = only.size; tells = only.tells; leaves = λ v b x left. ⊎_elim (λ was. inl was) (λ log. inr (inl log)) (only.leaves v b x left) }

    pub moved : NotesWorked (came_with fuse middle n) middle (Up laid) (Up new)
    moved = over_notes (came_with fuse middle n) middle u laid new racks up ground since less moves inside

    abbrev next : GroupNode
    next = moved.0

    pub inside_then : InsideOf u next
    inside_then = λ v disk. ap (λ (f : ℕ → Bool). f v) moved.1.same.inside ∙ inside v disk

    pub named_then : rvg_noted next ≡ Some u
    named_then =
        ap (λ (o : Option Config). config_rvg o) (note_read next moved.2.now moved.2.noted_now) ∙ moved.2.change.parts.rvg
        ∙ sym (ap (λ (o : Option Config). config_rvg o) (note_read middle moved.2.was moved.2.noted)) ∙ named

    pub units_then : config_units (config_of next.config) ≡ u
    units_then = units_same middle next moved.2.was moved.2.now moved.2.noted moved.2.noted_now moved.2.change.parts.rvg ∙ units_read middle u named

    pub tidy_then : TidyNote u next
    tidy_then = record { tidy = moved.4; named = named_then }

    -- with this configuration, and what its commits say of imports
    pub moved_is : next ≡ note_ground (noted_config new.core.inner.config) new.core middle
    unfolding moved
    moved_is = next_is (came_with fuse middle n) middle u laid new racks up ground since less moves inside
