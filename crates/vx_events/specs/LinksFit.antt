-- What holds of the links of every world that a run comes to, whether the disks tell their contents or not.
use Rattle.std.specs.Prelude.{◌≡◌, ℕ, ◌≤◌, Bool, true, false, Some}
use Rattle.vx_history.specs.Doubts.{After, Doubted}
use Rattle.vx_history.specs.Listed.{HasPlaces}
use Rattle.vx_history.specs.Refusals.{is_running}
use Rattle.vx_history.specs.Sends.{is_linked}
use Rattle.vx_history.specs.World.{Link, Node, World, no_link}
use Rattle.vx_model.specs.Sites.{is_origin}
use Rattle.vx_model.specs.declared.link.Mode.{Mode}
use Rattle.vx_model.specs.declared.link.Mode.TheVariants.{Log, Dcm, Replay, Fork, Stale}
use Rattle.vx_model.specs.declared.link.Prot.TheVariants.{Fail}
use Rattle.vx_model.specs.declared.site.SPhase.TheVariants.{Quiet}
use Rattle.vx_model.specs.declared.site.SiteState.TheVariants.{Bare, Down, Up}

-- by the log, or by nothing yet
abbrev pub is_plain_mode : Mode → Bool
is_plain_mode Log = true
is_plain_mode Dcm = false
is_plain_mode (Replay id phase left start end) = false
is_plain_mode (Fork maps) = false
is_plain_mode Stale = true

-- a link as lines make and keep it: writes fail where its log is full, and it keeps no map
pub record IsPlain (l : Link) : Type 0 where
  pub prot : l.prot ≡ Fail
  pub mode : is_plain_mode l.mode ≡ true
  pub bunker : l.bunker ≡ false
  pub trimmed : l.trimmed ≡ 0
  pub map : (volume region : ℕ) → l.map volume region ≡ false

-- The links of site p, among so many sites: each has a place of its own, leads to another site, and is plain; where there is none, nothing is kept.
pub record RowFits (p sites : ℕ) (row : ℕ → Link) : Type 0 where
  pub places : HasPlaces sites row
  pub apart : (k : ℕ) → is_linked (row k) ≡ true → k ≡ p → ⊥
  pub plain : (k : ℕ) → is_linked (row k) ≡ true → IsPlain (row k)
  pub none : (k : ℕ) → is_linked (row k) ≡ false → row k ≡ no_link

-- a site of which nothing is made keeps no link, and no header was written for it
pub record IsBlank (w : World) (p : ℕ) : Type 0 where
  pub links : (k : ℕ) → is_linked (w.links p k) ≡ false
  pub headers : w.headers p ≡ 0

-- links start at a site only where writes of a line arise
abbrev pub StartsAt : Node → (row : ℕ → Link) → Type 0
StartsAt n row = (k : ℕ) → is_linked (row k) ≡ true → is_origin n.role ≡ true

-- of a site that is down it is forgotten who fed it
abbrev pub IsRested : Node → Type 0
IsRested n = n.state ≡ Down → n.fed_by ≡ n.other

-- a site in doubt is up and halted, either way; and either way its links fit, writes arise there where it has any, and it is in no replay
pub record DoubtFits (w : World) (p : ℕ) (a : After) : Type 0 where
  pub up : (w.nodes p).state ≡ Up
  pub halted : is_running (w.nodes p).halted ≡ false
  pub up_too : a.node.state ≡ Up
  pub halted_too : is_running a.node.halted ≡ false
  pub row : RowFits p w.sites a.row
  pub starts : StartsAt a.node a.row
  pub quiet : a.node.phase ≡ Quiet

-- The links of each site fit, and where it has any writes arise there; a number from that of the sites on is bare; a bare site is blank, and none is in doubt. No site is
-- in a replay, and of one that is down it is forgotten who fed it.
pub record LinksFit (d : Doubted) : Type 0 where
  pub rows : (p : ℕ) → RowFits p d.world.sites (d.world.links p)
  pub later : (p : ℕ) → d.world.sites ≤ p → (d.world.nodes p).state ≡ Bare
  pub bare : (p : ℕ) → (d.world.nodes p).state ≡ Bare → IsBlank d.world p
  pub doubts : (p : ℕ) (a : After) → d.after p ≡ Some a → DoubtFits d.world p a
  pub starts : (p : ℕ) → StartsAt (d.world.nodes p) (d.world.links p)
  pub quiet : (p : ℕ) → (d.world.nodes p).phase ≡ Quiet
  pub rests : (p : ℕ) → IsRested (d.world.nodes p)
