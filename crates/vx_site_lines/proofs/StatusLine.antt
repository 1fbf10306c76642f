-- What a line leads to that asks for the status of a site.
use Rattle.std.proofs.Common.{◌≡◌, ◌∙◌, ◌<◌, ℕ, List, [], false, true, ap, sym, subst, refl, arith}
use Rattle.std.specs.Prelude.{Some}
use Rattle.vx_disk.specs.declared.shelf.Shelf.{Ghosts}
use Rattle.vx_history.specs.Doubts.{Doubted}
use Rattle.vx_history.specs.World.{Node}
use Rattle.vx_report.specs.declared.view.SiteView.{SiteView}
use Rattle.vx_script.specs.declared.line.ScriptLine.TheVariants.{Status}
use Rattle.vx_events.specs.Ends.{AllDone}
use Rattle.vx_events.specs.Facts.{seat_of}
use Rattle.vx_events.specs.GroupLines.{is_over_group}
use Rattle.vx_events.specs.GroupNotes.{note_at}
use Rattle.vx_events.specs.LinkViews.{linked_view}
use Rattle.vx_events.specs.RvgOver.{EndsOver}
use Rattle.vx_events.specs.RvgSteps.{over_rvg_at}
use Rattle.vx_events.specs.RvgViews.{is_over_rvg, over_disks}
use Rattle.vx_events.specs.StepsOver.{over_group_at}
use Rattle.vx_events.specs.declared.said.Said.TheVariants.{Shown}
use Rattle.vx_yard.specs.AboveLines.{LeadsAbove}
use Rattle.vx_yard.specs.Standing.{Leads, StandsFor}
use Rattle.vx_yard.specs.Yards.{IsTold, count_of}
use Rattle.vx_yard.specs.declared.yard.Yard.{Yard}
use Rattle.vx_yard.proofs.ChangeSite.{rose_none}
use Rattle.vx_yard.proofs.NamedSite.{apart_at, named_at, place_at}
use Rattle.vx_yard.proofs.SiteEvents.{first_choice}
use Rattle.vx_site_lines.proofs.AboveEnds.{stays_over}

module _ {R : Type 0} {g : Ghosts R} where
  -- over no group of disks
  pub status_leads : (d : Doubted) (y : Yard R g) (name : List ℕ) (s : ℕ) (view : SiteView) → StandsFor d y → over_group_at d.world name ≡ false → over_rvg_at d.world name ≡ false → seat_of y.facts.items name ≡ Some s
      → ((s < d.world.sites) → is_over_group (d.world.nodes s) ≡ false → is_over_rvg (d.world.nodes s) ≡ false → view ≡ linked_view d.world s) → Leads d (Status name) (Shown view) y y
  status_leads d y name s view stands apart off at is =
      let seat = named_at d y name s stands apart at in
      record {
        next = d;
        fails = [];
        done = record {
          ends = AllDone first_choice false tt (ap (λ (v : SiteView). Shown v) (is seat.below (apart_at d y name s stands apart at) (subst (λ (i : ℕ). is_over_rvg (d.world.nodes i) ≡ false) seat.number off) ∙ ap (λ (i : ℕ). linked_view d.world i) (sym seat.number))) (record { world = refl; after = λ i. refl; strayed = refl });
          counts = tt;
          works = tt;
          calls = tt;
        };
        carries = λ was. was;
        stands = stands;
        rose = rose_none (count_of y) (count_of y) (λ i u. omega arith);
      }

  -- with a replicated volume group over its group
  pub status_above : (d : Doubted) (y : Yard R g) (name : List ℕ) (s : ℕ) (view : SiteView) → StandsFor d y → over_rvg_at d.world name ≡ true → seat_of y.facts.items name ≡ Some s
      → ((s < d.world.sites) → is_over_rvg (d.world.nodes s) ≡ true → view ≡ over_disks (d.world.nodes s) (note_at (d.world.nodes s)) (linked_view d.world s)) → LeadsAbove d (Status name) (Shown view) y y
  status_above d y name s view stands rvg at is =
      let n : Node = d.world.nodes s in
      let seat = place_at d y name s stands at in
      let over : is_over_rvg n ≡ true = subst (λ (i : ℕ). is_over_rvg (d.world.nodes i) ≡ true) seat.number rvg in
      let inner : SiteView = linked_view d.world s in
      record {
        next = d;
        fails = [];
        works = subst (λ (i : ℕ). EndsOver (IsTold y) d (Status name) i [] (Shown view) d) (sym seat.number)
            (stays_over (IsTold y) d (Status name) s (Shown inner) (Shown view) d
            (AllDone first_choice false tt (ap (λ (i : ℕ). Shown (linked_view d.world i)) (sym seat.number)) (record { world = refl; after = λ i. refl; strayed = refl }))
            refl (ap (λ (v : SiteView). Shown v) (is seat.below over)) over refl refl);
        carries = λ was. was;
        stands = stands;
        rose = rose_none (count_of y) (count_of y) (λ i u. omega arith);
      }
