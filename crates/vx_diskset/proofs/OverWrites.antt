-- Writes to a volume of the group below a replicated volume group, behind which imports of disks that crashed may disagree.
use Rattle.std.proofs.Common.{◌≡◌, true, subst, sym}
use Rattle.std.specs.Prelude.{Err, Ok, Result}
use Rattle.vx_disk.specs.Racks.{IsRack}
use Rattle.vx_disk.specs.declared.shelf.Shelf.{Ghosts}
use Rattle.vx_events.specs.RvgOver.{note_loosened}
use Rattle.vx_grouped.specs.ConfigMoves.{LosesSome}
use Rattle.vx_grouped.specs.GroupSites.{UpNoted, site_disks, with_note}
use Rattle.vx_grouped.specs.SiteEnds.{ConfigGoes, PlainWrote}
use Rattle.vx_grouped.specs.declared.group_site.GroupSite.{GroupSite}
use Rattle.vx_history.specs.Groups.{GroupNode, note_cut, note_doubt, note_write}
use Rattle.vx_history.specs.Steps.{crashed}
use Rattle.vx_history.specs.World.{Node}
use Rattle.vx_model.specs.Content.{Write}
use Rattle.vx_model.specs.declared.no.No.{No}
use Rattle.vx_model.specs.declared.no.No.TheVariants.{Device, Down as IsOff}
use Rattle.vx_diskset.specs.OverAways.{DoubtsFallen}
use Rattle.vx_diskset.specs.OverWrites.{WroteBelow}
use Rattle.vx_diskset.proofs.GroupCalling.{IsSettled, down_settled, up_settled}
use Rattle.vx_diskset.proofs.Loosened.{begun_tidy, is_some_begun, up_loosened}
use Rattle.vx_diskset.proofs.OverDoubted.{doubted_down, doubts_rose, goes_down, same_up}

module _ {R : Type 0} {g : Ghosts R} (n : Node) (note : GroupNode) (x : Write) (o mid new : GroupSite R g) (is : DoubtsFallen mid new) where
  pub wrote_below : (r : Result (Unit {0}) No) → PlainWrote n note x o mid r → WroteBelow n note x o new r
  wrote_below (Ok done) it = subst (λ (e : GroupSite R g). PlainWrote n note x o e (Ok tt)) (sym (same_up (with_note (note_write x it.0) n) (note_write x it.0) mid new is it.2)) it
  wrote_below (Err (Device disk)) it =
      let same : new ≡ mid = same_up (with_note (note_doubt x it.0) n) (note_doubt x it.0) mid new is it.2 in (
        it.0,
        is_some_begun it.0.begun,
        it.1,
        begun_tidy it.0,
        subst (λ (e : GroupSite R g). UpNoted (with_note (note_loosened (is_some_begun it.0.begun) (note_doubt x it.0)) n) (note_loosened (is_some_begun it.0.begun) (note_doubt x it.0)) e) (sym same)
            (up_loosened (is_some_begun it.0.begun) (with_note (note_doubt x it.0) n) (note_doubt x it.0) mid it.2),
        doubts_rose (site_disks o) disk mid new is it.3,
        subst (λ (e : GroupSite R g). ConfigGoes (LosesSome (site_disks o) (site_disks e)) note it.0 o e) (sym same) it.4,
      )
  wrote_below (Err IsOff) it = (
    it.0,
    it.1,
    doubted_down (crashed (with_note (note_cut x it.0) n) 0) (note_cut x it.0) mid new is it.2,
    it.3,
    goes_down (crashed (with_note (note_cut x it.0) n) 0) (note_cut x it.0) note it.0 o mid new is it.2 it.4,
  )
  wrote_below (Err other) it = absurd it

module _ {R : Type 0} {g : Ghosts R} (rackful : (r : R) → IsRack (g.meaning r)) where
  -- behind one the disks are up, or have no fuse
  pub writes_settled : (n : Node) (note : GroupNode) (x : Write) (o new : GroupSite R g) (r : Result (Unit {0}) No) → WroteBelow n note x o new r → IsSettled new
  writes_settled n note x o new (Ok done) it = up_settled rackful (with_note (note_write x it.0) n) (note_write x it.0) new it.2
  writes_settled n note x o new (Err (Device disk)) it = up_settled rackful (with_note (note_loosened it.1 (note_doubt x it.0)) n) (note_loosened it.1 (note_doubt x it.0)) new it.4
  writes_settled n note x o new (Err IsOff) it = down_settled rackful (crashed (with_note (note_loosened true (note_cut x it.0)) n) 0) (note_loosened true (note_cut x it.0)) new it.2
  writes_settled n note x o new (Err other) it = absurd it
