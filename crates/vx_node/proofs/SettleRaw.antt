-- The second site of a link that is settled has no replicated volume group over a group, as the apply within sees it: no writes arise there.
use Rattle.std.proofs.Common.{◌≡◌, ◌∙◌, ℕ, List, false, ap, subst, sym}
use Rattle.vx_model.specs.Sites.{is_origin}
use Rattle.vx_model.specs.declared.site.Role.{Role}
use Rattle.vx_history.specs.Doubts.{Doubted}
use Rattle.vx_history.specs.World.{World}
use Rattle.vx_disk.specs.declared.shelf.Shelf.{Ghosts}
use Rattle.vx_script.specs.declared.line.ScriptLine.TheVariants.{Apply}
use Rattle.vx_events.specs.RvgSteps.{is_for_rvg}
use Rattle.vx_events.specs.RvgViews.{is_over_rvg}
use Rattle.vx_settling.proofs.WithinOne.{number_burnt}
use Rattle.vx_settling.specs.Burnt.{burnt_world, noted_as}
use Rattle.vx_link_lines.proofs.OverGroups.{second_off_at}
use Rattle.vx_node.specs.Settling.{SettlesFor}
use Rattle.vx_yard.specs.declared.yard.Yard.{Yard}

module _ {R : Type 0} {g : Ghosts R} (first second : List ℕ) (a b : ℕ) (d : Doubted) (y : Yard R g) (serves : SettlesFor first second a b d y) where
  abbrev v : World
  v = burnt_world serves.noted.fuses d.world

  pub apply_raw : (count : ℕ) → is_for_rvg v (Apply second count) ≡ false
  apply_raw count =
      let n = serves.noted in
      let can = serves.may.can in
      subst (λ (k : ℕ). is_over_rvg (v.nodes k) ≡ false) (sym (number_burnt n.fuses d.world second ∙ serves.to))
      (second_off_at (noted_as n.fuses d) y b n.stands can.second (ap (λ (r : Role). is_origin r) can.secondary))
