-- A line that crashes a site with a replicated volume group over its group.
use Rattle.std.proofs.Common.{◌≡◌, ◌<◌, ℕ, true, List, [], subst, sym, refl}
use Rattle.std.specs.Prelude.{Some}
use Rattle.vx_disk.specs.declared.shelf.Shelf.{Ghosts}
use Rattle.vx_history.specs.Doubts.{Doubted}
use Rattle.vx_history.specs.World.{Fuse, Node}
use Rattle.vx_model.specs.declared.site.SiteState.TheVariants.{Up}
use Rattle.vx_script.specs.declared.line.ScriptLine.TheVariants.{Crash}
use Rattle.vx_events.specs.Facts.{seat_of}
use Rattle.vx_events.specs.GroupNotes.{IsKnown, note_at}
use Rattle.vx_events.specs.RvgOver.{EndsOver, fuse_behind}
use Rattle.vx_events.specs.RvgSteps.{over_rvg_at}
use Rattle.vx_events.specs.RvgViews.{is_over_rvg}
use Rattle.vx_events.specs.declared.said.Said.TheVariants.{Done}
use Rattle.vx_yard.specs.AboveLines.{LeadsAbove}
use Rattle.vx_yard.specs.Standing.{Falls, StandsFor, crash_of}
use Rattle.vx_yard.specs.Working.{IsFree}
use Rattle.vx_yard.specs.Yards.{IsTold}
use Rattle.vx_yard.specs.declared.yard.Yard.{Yard}
use Rattle.vx_yard.proofs.CrashSite.{crash_ends, crash_up}
use Rattle.vx_yard.proofs.NamedSite.{place_at}
use Rattle.vx_site_lines.proofs.AboveEnds.{stays_over}

module _ {R : Type 0} {g : Ghosts R} where
  pub crash_above : (d : Doubted) (old new : Yard R g) (name : List ℕ) (pick s : ℕ) → StandsFor d old → over_rvg_at d.world name ≡ true → IsFree old (Crash name pick) → seat_of old.facts.items name ≡ Some s
      → ((d : Doubted) → StandsFor d old → s < d.world.sites → (d.world.nodes s).state ≡ Up → Falls d s old new) → LeadsAbove d (Crash name pick) Done old new
  crash_above d old new name pick s stands rvg free is fell =
      let m : Node = d.world.nodes s in
      let seat = place_at d old name s stands is in
      let f = fell d stands seat.below (crash_up d old name pick s stands free is) in
      let e : Doubted = crash_of d s f.count f.taken in
      record {
        next = e;
        fails = [];
        works = subst (λ (i : ℕ). EndsOver (IsTold new) d (Crash name pick) i [] Done e) (sym seat.number)
            (stays_over (IsTold new) d (Crash name pick) s Done Done e (crash_ends (IsKnown (IsTold new) (note_at m)) d name pick s old new seat.number f) refl refl
            (subst (λ (i : ℕ). is_over_rvg (d.world.nodes i) ≡ true) seat.number rvg) f.group (subst (λ (x : Fuse). fuse_behind (Crash name pick) m.fuse x ≡ x) (sym f.fuse) refl));
        carries = f.carries;
        stands = f.stands;
        rose = f.rose;
      }
