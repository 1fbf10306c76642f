-- The links that the header of a log keeps of a site.
use Rattle.std.specs.Prelude.{ℕ, List, [], ◌∷◌}
use Rattle.vx_history.specs.Events.{linked_sites}
use Rattle.vx_history.specs.World.{Node, Link}
use Rattle.vx_model.specs.declared.link.Mode.{Mode}
use Rattle.vx_model.specs.declared.link.Mode.TheVariants as mode
use Rattle.vx_model.specs.declared.state.KeptLink.{KeptLink}
use Rattle.vx_model.specs.declared.state.KeptMode.{KeptMode}
use Rattle.vx_model.specs.declared.state.KeptMode.TheVariants as kept
use Rattle.vx_model.specs.declared.state.State.{State}

abbrev pub kept_mode : Mode → KeptMode
kept_mode mode.Log = kept.Log
kept_mode mode.Dcm = kept.Dcm
kept_mode (mode.Replay id phase left start end) = kept.Replay
kept_mode (mode.Fork maps) = kept.Fork
kept_mode mode.Stale = kept.Stale

-- the number at which a replay began, and 0 outside one
abbrev pub kept_start : Mode → ℕ
kept_start mode.Log = 0
kept_start mode.Dcm = 0
kept_start (mode.Replay id phase left start end) = start
kept_start (mode.Fork maps) = 0
kept_start mode.Stale = 0

abbrev pub kept_link : (site : ℕ) → Link → KeptLink
kept_link s l = record {
  site = s;
  attached = l.attached;
  bunker = l.bunker;
  mode = kept_mode l.mode;
  sync = l.sync;
  prot = l.prot;
  stored = l.stored;
  start = kept_start l.mode;
}

abbrev pub kept_links : (ℕ → Link) → List ℕ → List KeptLink
kept_links row [] = []
kept_links row (s ∷ ss) = kept_link s (row s) ∷ kept_links row ss

-- what the header of its log keeps of a site with these links, among so many sites
abbrev pub header_state : Node → (row : ℕ → Link) → (sites : ℕ) → State
header_state n row sites = record {
  line = n.line;
  top = n.top;
  role = n.role;
  mark = n.mark;
  phase = n.phase;
  replay = n.replay;
  end = n.end;
  other = n.other;
  parent = n.parent;
  fork = n.fork;
  links = kept_links row (linked_sites row sites 0 sites);
}
