-- What holds of every world that can come about.
use Rattle.std.specs.Prelude.{◌≡◌, ◌⊎◌, ℕ, ◌≤◌, true, false, length, take, None}
use Rattle.vx_model.specs.Content.{fold_writes, IsPrefixOf}
use Rattle.vx_history.specs.World.{Node, History, World}
use Rattle.vx_history.specs.GoodCopies.{GoodCopy, GoodReplays}
use Rattle.vx_history.specs.Refusals.{is_bunker}
use Rattle.vx_model.specs.Sites.{is_origin}
use Rattle.vx_model.specs.declared.history.Line.{Line}
use Rattle.vx_model.specs.declared.site.Mark.TheVariants.{Consistent}
use Rattle.vx_model.specs.declared.site.SPhase.TheVariants.{Quiet}
use Rattle.vx_model.specs.declared.site.SiteState.TheVariants.{Bare, Up}

-- more than disks was made of the site
abbrev pub IsMade : Node → Type 0
IsMade n = n.state ≡ Bare → ⊥

-- What the volumes hold is told by the log: outside a replay, and wherever the site is marked consistent. A site that copies regions, or
-- that has to go on to the end of its replay, or that keeps the map of a fork, may hold other blocks until it is marked consistent.
abbrev pub TellsContent : Node → Type 0
TellsContent n = (n.phase ≡ Quiet) ⊎ (n.mark ≡ Consistent)

-- What a site holds, by what is recorded of the line on which it stands.
pub record GoodNode (h : History) (i : ℕ) (n : Node) : Type 0 where
  pub safe_fits : n.safe ≤ length n.log
  -- an origin's line has that site as its origin
  pub own_line : IsMade n → is_origin n.role ≡ true → n.line.origin ≡ i
  -- a receiver's log is a first part of what its line holds
  pub receiver_log : IsMade n → is_origin n.role ≡ false → IsPrefixOf n.log h.held
  -- the durable writes of an origin are those that its line holds
  pub origin_log : IsMade n → is_origin n.role ≡ true → take n.safe n.log ≡ h.held
  -- an origin that is not halted has no write that is not durable
  pub origin_whole : is_origin n.role ≡ true → n.halted ≡ None → length n.log ≤ n.safe
  pub origin_mark : is_origin n.role ≡ true → n.mark ≡ Consistent
  -- a bare site is no bunker, and stands on no line
  pub plain : n.state ≡ Bare → (is_bunker n.role ≡ false) × (n.line.generation ≡ 0)
  -- what the volumes hold with the durable writes is those writes put into what they held at number 0
  pub content : TellsContent n → n.base ≡ fold_writes n.start (take n.safe n.log)
  -- and what replays say of a receiver
  pub copy : IsMade n → is_origin n.role ≡ false → GoodCopy h.held (h.replays i) n

pub record Good (w : World) : Type 0 where
  pub nodes : (i : ℕ) → GoodNode (w.lines (w.nodes i).line) i (w.nodes i)
  -- the site that began a line on which a site stands is no longer bare
  pub begun : (i : ℕ) → IsMade (w.nodes i) → IsMade (w.nodes (w.nodes i).line.origin)
  -- numbers that are not given out yet are bare
  pub later : (i : ℕ) → w.sites ≤ i → (w.nodes i).state ≡ Bare
  -- no number was answered that the line does not hold
  pub told : (l : Line) → (w.lines l).told ≤ length (w.lines l).held
  -- the replays to each site were read from what the line holds
  pub replays : (l : Line) (s : ℕ) → GoodReplays (w.lines l).held ((w.lines l).replays s)

-- an origin that takes writes: it is up and no disk has halted it
pub record IsWorking (n : Node) : Type 0 where
  pub up : n.state ≡ Up
  pub origin : is_origin n.role ≡ true
  pub running : n.halted ≡ None
