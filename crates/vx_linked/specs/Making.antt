-- Links that are made, opened or given another setting, in memory and as the header of a log keeps them.
use Rattle.std.specs.Prelude.{ℕ, Bool, ◌&&◌, nat_le, List, [], map, max, true, false, if◌then◌else◌}
use Rattle.vx_model.specs.declared.link.Link.{Link}
use Rattle.vx_model.specs.declared.link.Mode.TheVariants.{Log, Stale}
use Rattle.vx_model.specs.declared.link.Prot.TheVariants.{Fail}
use Rattle.vx_model.specs.declared.link.SyncMode.{SyncMode}
use Rattle.vx_model.specs.Sites.{same_line}
use Rattle.vx_model.specs.declared.limits.TheConstants.{MOST_NUMBER}
use Rattle.vx_model.specs.declared.site.Mark.TheVariants.{Inconsistent}
use Rattle.vx_model.specs.declared.site.Role.TheVariants.{Secondary}
use Rattle.vx_model.specs.declared.site.SPhase.TheVariants.{Quiet}
use Rattle.vx_model.specs.declared.state.KeptLink.{KeptLink}
use Rattle.vx_model.specs.declared.state.State.{State}
use Rattle.vx_history.specs.KeptLinks.{kept_mode, kept_start}
use Rattle.vx_order.specs.declared.facts.LinkFacts.{LinkFacts}

-- a link to a site in this session: attached, not connected, and by nothing
abbrev pub fresh_link : (site : ℕ) → SyncMode → (session : ℕ) → Link
fresh_link site sync session = record {
  site = site;
  bunker = false;
  attached = true;
  connected = false;
  paused = false;
  sync = sync;
  prot = Fail;
  session = session;
  net = 0;
  stored = 0;
  sent = 0;
  trimmed = 0;
  mode = Stale;
}

-- the link goes by the log from this number on
abbrev pub opened_link : Link → (head : ℕ) → Link
opened_link l head = record l { mode = Log; net = head; stored = head; sent = head }

abbrev pub set_link : Link → SyncMode → Link
set_link l sync = record l { sync = sync; prot = Fail }

-- a link as a header keeps it
abbrev pub kept_plain : Link → KeptLink
kept_plain l = record {
  site = l.site;
  attached = l.attached;
  bunker = l.bunker;
  mode = kept_mode l.mode;
  sync = l.sync;
  prot = l.prot;
  stored = l.stored;
  start = kept_start l.mode;
}

-- the links of a site as the header of its log keeps them
abbrev pub kept_each : List LinkFacts → List KeptLink
kept_each ls = map (λ l. kept_plain l.link) ls

-- a header has a spelling for the link
abbrev pub is_state_spelled : KeptLink → Bool
is_state_spelled l = nat_le l.stored MOST_NUMBER && nat_le l.start MOST_NUMBER

-- the state of the second site behind an empty log of the first one's line: a secondary of the first, whose number this is, without links
abbrev pub joined_state : State → (number : ℕ) → State → State
joined_state a number n = record {
  line = a.line;
  top = max n.top a.line.generation;
  role = Secondary;
  mark = Inconsistent;
  phase = Quiet;
  replay = if same_line n.line a.line then n.replay else 0;
  end = 0;
  other = number;
  parent = a.parent;
  fork = a.fork;
  links = [];
}
