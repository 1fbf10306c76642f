-- How a line of links ends where an event of it that writes a header is ended by a failing disk, by a fuse or by want of a number.
use Rattle.std.proofs.Common.{◌≡◌, ◌≤◌, ℕ, List, [], ◌∷◌, ◌++◌, ap, sym, refl, arith}
use Rattle.std.specs.Prelude.{Err}
use Rattle.vx_history.specs.Doubts.{Doubted, Runs}
use Rattle.vx_history.specs.Stops.{ComesTo, IsFused, IsOpen, WritesAt, all_fails}
use Rattle.vx_history.specs.World.{Node, World}
use Rattle.vx_history.specs.declared.event.Event.{Event}
use Rattle.vx_model.specs.declared.limits.TheConstants.{MOST_NUMBER}
use Rattle.vx_model.specs.declared.no.No.{No}
use Rattle.vx_model.specs.declared.no.No.TheVariants.{Device, Limit, Down as Off}
use Rattle.vx_script.specs.declared.line.ScriptLine.{ScriptLine}
use Rattle.vx_disk.specs.declared.shelf.Shelf.{Ghosts}
use Rattle.vx_events.specs.Fails.{Fails}
use Rattle.vx_events.specs.LinkEnds.{AreLeft, LinkEnds, LinksCut, LinksHalt, NoHeader, TakesNumber, link_noted}
use Rattle.vx_events.specs.LinkLists.{link_events}
use Rattle.vx_events.specs.Stamps.{most_stamp_at}
use Rattle.vx_events.specs.declared.said.Said.{Said}
use Rattle.vx_events.specs.declared.said.Said.TheVariants.{Refused}
use Rattle.vx_link_lines.specs.Headed.{HeadedIs, NextFor, noted_by}
use Rattle.vx_yard.specs.Yards.{IsTold}
use Rattle.vx_yard.specs.declared.yard.Yard.{Yard}

-- an event of this site, behind those before it
pub record IsBehind (d : Doubted) (line : ScriptLine) (note : (ℕ → Node) → ℕ → Node) (e : Event) (s : ℕ) (middle : Doubted) : Type 0 where
  pub before : List Event
  pub rest : List Event
  pub split : link_events d.world line ≡ before ++ e ∷ rest
  pub runs : Runs d before middle
  pub none : all_fails before ≡ []
  pub opens : IsOpen (middle.world.nodes s)
  pub writes : WritesAt middle.world e s
  pub takes : TakesNumber middle.world e s
  pub notes : (v : World) → link_noted d.world line v ≡ record v { nodes = note v.nodes }
  pub fused : IsFused (middle.world.nodes s).fuse → IsFused (d.world.nodes s).fuse

module _ {R : Type 0} {g : Ghosts R} where
  -- the line ended so, and the yard stands for what it left
  pub record PartEnds (d : Doubted) (line : ScriptLine) (said : Said) (start : Doubted) (old new : Yard R g) : Type 0 where
    pub next : Doubted
    pub fails : Fails
    pub ends : LinkEnds (IsTold new) d line fails said next
    pub goes : NextFor fails start next old new

  module _ (d : Doubted) (line : ScriptLine) (note : (ℕ → Node) → ℕ → Node) (e : Event) (s : ℕ) (middle : Doubted) (b : IsBehind d line note e s middle) (old new : Yard R g) where
    left : (last : Doubted) → AreLeft line d last (noted_by note last)
    left last = record { world = sym (b.notes last.world); after = λ i. refl; strayed = refl }

    comes : ComesTo d (link_events d.world line) e s middle
    comes = record { before = b.before; rest = b.rest; split = b.split; runs = b.runs; fails = b.none; opens = b.opens; writes = b.writes }

    pub headed_ends : (why : No) → HeadedIs note middle e s old new (Err why) → PartEnds d line (Refused why) (noted_by note middle) old new
    headed_ends (Device disk) h = record { next = _; fails = (s, disk) ∷ []; ends = LinksHalt e s disk middle comes h.0 refl refl (left _); goes = h.1 }
    headed_ends (Limit what most) h = record {
      next = _;
      fails = [];
      ends = NoHeader b.before b.rest e s middle b.split b.takes b.runs b.none (λ told. let least : MOST_NUMBER ≤ most_stamp_at middle.world s = h.least told in omega (arith, least)) refl
          (ap (λ (x : No). let r : Said = Refused x in r) h.is) (left middle);
      goes = h.next;
    }
    headed_ends Off h = record { next = _; fails = []; ends = LinksCut e s h.kept h.taken middle comes (b.fused h.fused) refl refl (left _); goes = h.next }
    headed_ends other h = absurd h
