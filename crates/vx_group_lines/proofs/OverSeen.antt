-- Which sites have a replicated volume group over their group, as the tests see them.
use Rattle.std.proofs.Common.{◌≡◌, ◌∙◌, ◌<◌, ℕ, Bool, true, false, List, length, ap, sym, refl, arith}
use Rattle.std.specs.Prelude.{◌&&◌, eqb, not, Some, is_some, slice_get}
use Rattle.vx_disk.specs.declared.shelf.Shelf.{Ghosts}
use Rattle.vx_history.specs.Doubts.{Doubted}
use Rattle.vx_history.specs.World.{Node, World}
use Rattle.vx_order.specs.declared.facts.SiteFacts.{SiteFacts}
use Rattle.vx_events.proofs.Places.{some_same}
use Rattle.vx_events.proofs.Values.{length-values_from}
use Rattle.vx_events.specs.Facts.{seat_of}
use Rattle.vx_events.specs.GroupLines.{is_over_group}
use Rattle.vx_events.specs.GroupNotes.{note_at}
use Rattle.vx_events.specs.GroupViews.{config_of, volumes_of}
use Rattle.vx_events.specs.RvgFits.{entries_noted, rvg_noted}
use Rattle.vx_events.specs.RvgSteps.{over_rvg_at}
use Rattle.vx_events.specs.RvgViews.{data_units, is_over_rvg, others_of}
use Rattle.vx_events.specs.StepsOver.{fact_over}
use Rattle.vx_yard.proofs.NamedSite.{fact_of, place_at}
use Rattle.vx_yard.specs.Standing.{StandsFor}
use Rattle.vx_yard.specs.declared.yard.Yard.{Yard}
use Rattle.vx_group_lines.proofs.Going.{data_first, plain_first, seen_by, shown_table, some_volume}
use Rattle.vx_group_lines.specs.Plain.{starts_with_data}

first_seen : (n : Node) (b : Bool) → is_over_rvg n ≡ b → (b && starts_with_data (shown_table n b)) ≡ b
first_seen n false is = refl
first_seen n true is = data_first (entries_noted (note_at n)) (data_units (rvg_noted (note_at n))) n.volumes (others_of (config_of (note_at n).config)) (some_volume (is_some n.group) (length n.volumes) is)

-- a site over a group without one has none
without : (group empty : Bool) → (group && empty) ≡ true → (group && not empty) ≡ false
without true true is = refl
without true false is = absurd (let clash : false ≡ true = is in cc)
without false empty is = refl

over_by : (w : World) (s : ℕ) (b : Bool) → is_over_group (w.nodes s) ≡ b → ((seen_by w s b).grouped && starts_with_data (seen_by w s b).volumes) ≡ is_over_rvg (w.nodes s)
over_by w s true is =
    plain_first (volumes_of (config_of (note_at (w.nodes s)).config)) ∙ sym (without (is_some (w.nodes s).group) (eqb (length (w.nodes s).volumes) 0) is)
over_by w s false is = first_seen (w.nodes s) (is_over_rvg (w.nodes s)) refl

module _ {R : Type 0} {g : Ghosts R} (d : Doubted) (y : Yard R g) (s : ℕ) (f : SiteFacts) (stands : StandsFor d y) (below : s < length y.facts.items) (at : slice_get y.facts.items s ≡ Some f) where
  inside : s < d.world.sites
  inside = omega (arith, below, ap (λ (fs : List SiteFacts). length fs) stands.facts, length-values_from (λ i. fact_over d.world i) 0 d.world.sites)

  over_is : (f.grouped && starts_with_data f.volumes) ≡ is_over_rvg (d.world.nodes s)
  over_is =
      ap (λ (x : SiteFacts). x.grouped && starts_with_data x.volumes) (some_same (sym at ∙ fact_of d y s stands inside)) ∙ over_by d.world s (is_over_group (d.world.nodes s)) refl

  pub over_then : f.grouped ≡ true → starts_with_data f.volumes ≡ is_over_rvg (d.world.nodes s)
  over_then grouped = ap (λ (b : Bool). b && starts_with_data f.volumes) (sym grouped) ∙ over_is

  pub over_off : f.grouped ≡ false → f.grouped ≡ is_over_rvg (d.world.nodes s)
  over_off grouped = grouped ∙ ap (λ (b : Bool). b && starts_with_data f.volumes) (sym grouped) ∙ over_is

module _ {R : Type 0} {g : Ghosts R} where
  pub over_named : (d : Doubted) (y : Yard R g) (name : List ℕ) (s : ℕ) → StandsFor d y → seat_of y.facts.items name ≡ Some s → is_over_rvg (d.world.nodes s) ≡ over_rvg_at d.world name
  over_named d y name s stands seat = ap (λ (k : ℕ). is_over_rvg (d.world.nodes k)) (sym (place_at d y name s stands seat).number)
