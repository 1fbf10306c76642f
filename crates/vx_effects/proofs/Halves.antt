-- What an event that writes one header leaves where a disk failed in it, and where a fuse cut it.
use Rattle.std.proofs.Common.{◌≡◌, ◌∙◌, ℕ, ◌+◌, List, Bool, refl, ap}
use Rattle.std.specs.Prelude.{Option, Some, None}
use Rattle.vx_history.proofs.Behind.{after_of}
use Rattle.vx_history.proofs.Updates.{at_place}
use Rattle.vx_history.specs.Doubts.{Doubted, crashed_as, halved, resolved_at}
use Rattle.vx_history.specs.Events.{kept_of, link_left}
use Rattle.vx_history.specs.Step.{step}
use Rattle.vx_history.specs.Steps.{burned, crashed}
use Rattle.vx_history.specs.World.{Gathering, Link, Node, Packet, World}
use Rattle.vx_history.specs.declared.event.Event.{Event}
use Rattle.vx_events.specs.Effects.{ChangesAt, EffectAt}
use Rattle.vx_effects.proofs.Effects.{changes_then, crash_turns, resolved_changes, resolved_headers}
use Rattle.vx_effects.proofs.Fitting.{updated_other}

-- a site that a disk halted
abbrev pub stopped : Node → (disk : ℕ) → Node
stopped n disk = record n { halted = Some disk; fuse = burned n.fuse }

-- the world behind an event that crashes no site
abbrev pub behind : Doubted → Event → Doubted
behind d e = record d { world = (step d.world e).world }

module _ (d : Doubted) (e : Event) (s : ℕ) (n : Node) (row : ℕ → Link) (packets : List Packet) (gathered : Option Gathering)
    (f : EffectAt s d (behind d e) n row (d.world.headers s + 1) (d.after s) packets gathered) where
  pub halved_effect : (disk : ℕ)
      → EffectAt s d (halved d e s disk) (stopped (d.world.nodes s) disk) (d.world.links s) (d.world.headers s + 1) (Some (after_of d e s disk)) d.world.packets (d.world.gathering s)
  halved_effect disk = record {
    site = record {
      sites = refl;
      nodes = λ i apart. updated_other d.world.nodes s i (stopped (d.world.nodes s) disk) apart;
      links = λ i k apart. refl;
      headers = f.site.headers;
      after = λ i apart. updated_other d.after s i (Some (after_of d e s disk)) apart;
      strayed = λ calm. calm;
      gathering = λ i apart. refl;
    };
    is = record {
      node = at_place d.world.nodes s (stopped (d.world.nodes s) disk);
      links = λ k. refl;
      headers = f.is.headers;
      after = at_place d.after s (Some (after_of d e s disk));
    };
    sent = refl;
    gathering = refl;
  }

  -- the node that it may be is that of the event, halted
  pub may_be_node : (disk : ℕ) → (after_of d e s disk).node ≡ stopped n disk
  may_be_node disk = at_place (step d.world e).world.nodes s (stopped ((step d.world e).world.nodes s) disk) ∙ ap (λ (m : Node). stopped m disk) f.is.node

  pub may_be_row : (disk k : ℕ) → (after_of d e s disk).row k ≡ row k
  may_be_row disk k = f.is.links k

-- a crash of a site that may be in doubt
pub crashed_effect : (d : Doubted) (s kept : ℕ) (taken : Bool)
    → EffectAt s d (crashed_as d s kept taken) (crashed ((resolved_at d s taken).world.nodes s) (kept_of ((resolved_at d s taken).world.nodes s) kept))
    (λ k. link_left ((resolved_at d s taken).world.nodes s) (kept_of ((resolved_at d s taken).world.nodes s) kept) ((resolved_at d s taken).world.links s k)) (d.world.headers s) None d.world.packets None
crashed_effect d s kept taken =
    let r : Doubted = resolved_at d s taken in
    let w : World = r.world in
    let j : ℕ = kept_of (w.nodes s) kept in
    let n : Node = crashed (w.nodes s) j in
    let row : ℕ → Link = λ to. link_left (w.nodes s) j (w.links s to) in
    let t = crash_turns s w j in
    let c : ChangesAt s d r = resolved_changes d s taken in
    record {
      site = changes_then s d r (crashed_as d s kept taken) c.site (record {
        sites = t.sites;
        nodes = λ i apart. t.nodes i ∙ updated_other w.nodes s i n apart;
        links = λ i k apart. t.links i k ∙ ap (λ (r : ℕ → Link). r k) (updated_other w.links s i row apart);
        headers = λ i apart. t.headers i;
        after = λ i apart. refl;
        strayed = λ calm. calm;
        gathering = λ i apart. t.gathering i ∙ updated_other w.gathering s i None apart;
      });
      is = record {
        node = t.nodes s ∙ at_place w.nodes s n;
        links = λ k. t.links s k ∙ ap (λ (r : ℕ → Link). r k) (at_place w.links s row);
        headers = t.headers s ∙ resolved_headers d s taken s;
        after = at_place d.after s None;
      };
      sent = t.sent ∙ c.packets;
      gathering = t.gathering s ∙ at_place w.gathering s None;
    }
