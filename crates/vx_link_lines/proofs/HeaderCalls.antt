-- An event that writes one header of a site's log, and what a call on the disks of the site promises that does it.
use Rattle.std.proofs.Common.{◌≡◌, ◌∙◌, ◌≤◌, ◌+◌, ℕ, List, ap, length}
use Rattle.std.specs.Prelude.{◌&&◌, eqb, Option, Some, None, is_some, Result, Ok, Err}
use Rattle.vx_history.specs.Groups.{GroupNode}
use Rattle.vx_history.specs.Doubts.{Doubted}
use Rattle.vx_history.specs.Stops.{IsFused, IsOpen, WritesAt}
use Rattle.vx_history.specs.World.{Gathering, Link, Node, Volume}
use Rattle.vx_history.specs.declared.event.Event.{Event}
use Rattle.vx_history.specs.Steps.{worked}
use Rattle.vx_model.specs.declared.no.No.{No}
use Rattle.vx_model.specs.declared.no.No.TheVariants.{Device, Limit, Down as IsOff}
use Rattle.vx_model.specs.declared.state.KeptLink.{KeptLink}
use Rattle.vx_model.specs.declared.state.State.{State}
use Rattle.vx_disk.specs.declared.shelf.Shelf.{Ghosts}
use Rattle.vx_diskset.specs.DiskSets.{RoseAt, halted_at, no_number}
use Rattle.vx_diskset.specs.Holds.{KeptBeside, most_header, row_links, sure_of}
use Rattle.vx_diskset.specs.Keeps.{KeptWith, restated}
use Rattle.vx_diskset.specs.Stands.{IsToldAt, SiteStands}
use Rattle.vx_diskset.specs.declared.disk_set.DiskSet.{DiskSet}
use Rattle.vx_events.specs.Effects.{EffectAt}
use Rattle.vx_events.specs.Fails.{IsLogDisk}
use Rattle.vx_events.specs.GroupLines.{is_over_group}
use Rattle.vx_events.specs.LinksFit.{LinksFit}
use Rattle.vx_effects.specs.Settings.{SetsFail}
use Rattle.vx_link_lines.specs.Headed.{behind}
use Rattle.vx_srl.specs.Views.{most_number}

-- the same site: what is not written in a header of its log is as it was
pub record SameBody (n m : Node) : Type 0 where
  pub state : m.state ≡ n.state
  pub name : m.name ≡ n.name
  pub disks : m.disks ≡ n.disks
  pub blocks : m.blocks ≡ n.blocks
  pub volumes : m.volumes ≡ n.volumes
  pub group : m.group ≡ n.group
  pub failing : m.failing ≡ n.failing
  pub fuse : m.fuse ≡ n.fuse

-- such a site is over a group where that is
pub over_body : (n m : Node) → SameBody n m → is_over_group m ≡ is_over_group n
over_body n m like =
    ap (λ (o : Option GroupNode). is_some o && eqb (length m.volumes) 0) like.group
    ∙ ap (λ (vs : List Volume). is_some n.group && eqb (length vs) 0) like.volumes

-- an event that writes one header of the log of a site over no group, which is this node with these links then
pub record IsHeader (d : Doubted) (e : Event) (s : ℕ) (m : Node) (ls : List KeptLink) (gathered : Option Gathering) : Type 0 where
  pub row : ℕ → Link
  pub effect : EffectAt s d (behind d e) m row (d.world.headers s + 1) (d.after s) d.world.packets gathered
  pub kept : row_links row d.world.sites ≡ ls
  pub sure : d.after s ≡ None
  pub like : SameBody (d.world.nodes s) m
  pub fits : LinksFit (behind d e)
  pub fits_before : LinksFit d
  pub sets : SetsFail e
  pub opens : IsOpen (d.world.nodes s)
  pub none : (d.world.nodes s).group ≡ None
  pub writes : WritesAt d.world e s

-- a halted site that may be this node with these links on its disks
abbrev pub in_doubt : KeptBeside → (m : Node) → List KeptLink → (disk : ℕ) → KeptBeside
in_doubt beside m ls disk = record {
  links = beside.links;
  headers = beside.headers + 1;
  doubt = Some (record { node = halted_at m disk; links = ls; headers = beside.headers + 1 });
}

module _ {R : Type 0} {g : Ghosts R} where
  -- a site n is this node m with these links; or a disk failed, and it may be that or not; or no number is left; or its fuse ran out
  abbrev pub Answered : (KeptBeside → Node → DiskSet R g → Type 0) → KeptBeside → (n m : Node) → List KeptLink → (old new : DiskSet R g) → Result (Unit {0}) No → Type 0
  Answered Off beside n m ls old new (Ok done) = SiteStands (sure_of (record { node = m; links = ls; headers = beside.headers + 1 })) (worked m) new
  Answered Off beside n m ls old new (Err (Device disk)) = SiteStands (in_doubt beside m ls disk) (halted_at n disk) new × RoseAt old new disk × IsLogDisk n disk
  Answered Off beside n m ls old new (Err (Limit what most)) = (Limit what most ≡ no_number) × (IsToldAt new → most_number ≤ most_header beside n) × SiteStands beside n new
  Answered Off beside n m ls old new (Err IsOff) = IsFused n.fuse × Off (in_doubt beside m ls 0) (halted_at n 0) new
  Answered Off beside n m ls old new (Err other) = ⊥

  -- a state that is made durable
  pub answered_keep : (Off : KeptBeside → Node → DiskSet R g → Type 0) (beside : KeptBeside) (n : Node) (st : State) (old new : DiskSet R g) (result : Result (Unit {0}) No)
      → KeptWith Off beside n st old new result → Answered Off beside n (restated n st) st.links old new result
  answered_keep Off beside n st old new (Ok done) is = is
  answered_keep Off beside n st old new (Err (Device disk)) is = is
  answered_keep Off beside n st old new (Err (Limit what most)) is = is
  answered_keep Off beside n st old new (Err IsOff) is = is
  answered_keep Off beside n st old new (Err other) is = absurd is
