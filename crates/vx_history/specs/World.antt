-- Sites, the links between them, lines of history, what sites put together from parts, and all that was ever sent or promised.
use Rattle.std.specs.Prelude.{[], ℕ, Bool, false, List, eqb, if◌then◌else◌, Option, None}
use Rattle.vx_model.specs.Sites.{same_line, no_line}
use Rattle.vx_model.specs.Content.{Write, Content, zeros}
use Rattle.vx_model.specs.declared.history.Line.{Line}
use Rattle.vx_model.specs.declared.site.Role.{Role}
use Rattle.vx_model.specs.declared.site.Role.TheVariants.{Primary}
use Rattle.vx_model.specs.declared.site.Mark.{Mark}
use Rattle.vx_model.specs.declared.site.Mark.TheVariants.{Consistent}
use Rattle.vx_model.specs.declared.site.SPhase.{SPhase}
use Rattle.vx_model.specs.declared.site.SPhase.TheVariants.{Quiet}
use Rattle.vx_model.specs.declared.site.SiteState.{SiteState}
use Rattle.vx_model.specs.declared.site.SiteState.TheVariants.{Bare}
use Rattle.vx_model.specs.declared.link.SyncMode.{SyncMode}
use Rattle.vx_model.specs.declared.link.SyncMode.TheVariants.{Off as NeverWaits}
use Rattle.vx_model.specs.declared.link.Prot.{Prot}
use Rattle.vx_model.specs.declared.link.Prot.TheVariants.{Off as NoProtection}
use Rattle.vx_model.specs.declared.link.Mode.{Mode}
use Rattle.vx_model.specs.declared.link.Mode.TheVariants.{Stale}
use Rattle.vx_history.specs.Groups.{GroupNode}

-- What is recorded of the replays to one site: the id of the last one, and 0 where none was begun; and of each id the number at which its
-- origin's log ended as the replay began, and as the last of its regions was read.
pub record Replays : Type 0 where
  pub begun : ℕ
  pub start : ℕ → ℕ
  pub read : ℕ → ℕ

abbrev pub no_replays : Replays
no_replays = record { begun = 0; start = λ i. 0; read = λ i. 0 }

-- What is recorded of a line: the line and the number from which it came (generation 0 where it came from none), what its
-- volumes held at number 0, the writes that are durable at its origin, number 1 first, the greatest number answered, and of each site the
-- replays to it.
pub record History : Type 0 where
  pub parent : Line
  pub fork : ℕ
  pub start : Content
  pub held : List Write
  pub told : ℕ
  pub replays : ℕ → Replays

-- a data volume, by its name and its blocks
pub record Volume : Type 0 where
  pub name : List ℕ
  pub blocks : ℕ

-- a set of regions of each volume
abbrev pub Regions : Type 0
Regions = ℕ → ℕ → Bool

abbrev pub no_regions : Regions
no_regions v r = false

-- The fuse of a site's disks: none is set; or it was just set, and lets so many writes and flushes pass; or some may have passed, and at
-- most so many are left.
pub data Fuse : Type 0 where
  NoFuse : Fuse
  FuseSet : (calls : ℕ) → Fuse
  FuseLit : (most : ℕ) → Fuse

pub record Node : Type 0 where
  pub name : List ℕ
  pub state : SiteState
  -- how many disks it has, and the blocks of each
  pub disks : ℕ
  pub blocks : ℕ
  -- the blocks of its log that hold records
  pub ring : ℕ
  -- the data volumes of its replicated volume group
  pub volumes : List Volume
  pub role : Role
  pub line : Line
  pub parent : Line
  pub fork : ℕ
  -- the greatest generation that it ever stood on
  pub top : ℕ
  -- the lines on which it ever stood, the first of them first
  pub stood : List Line
  pub session : ℕ
  pub mark : Mark
  pub phase : SPhase
  pub replay : ℕ
  pub end : ℕ
  pub other : ℕ
  -- who sent the last update that it took; its primary, where it took none since it came up or joined its line
  pub fed_by : ℕ
  -- what its volumes held at number 0 of its line
  pub start : Content
  -- what a crash keeps with the first `safe` writes
  pub base : Content
  -- all writes of its line, number 1 first
  pub log : List Write
  -- how many of them a crash keeps for certain
  pub safe : ℕ
  -- the least number that a bunker holds
  pub low : ℕ
  -- the disk that halted it
  pub halted : Option ℕ
  -- the map that it keeps of a fork
  pub fork_map : Option Regions
  -- the fuse of its disks
  pub fuse : Fuse
  -- which of its disks are made to fail; no event sets it
  pub failing : ℕ → Bool
  -- what it notes of its group of disks; no event sets it
  pub group : Option GroupNode

-- a link, and the place in which it was made among those of its site
pub record Link : Type 0 where
  pub made : Option ℕ
  pub bunker : Bool
  pub attached : Bool
  pub connected : Bool
  pub paused : Bool
  pub sync : SyncMode
  pub prot : Prot
  pub session : ℕ
  pub net : ℕ
  pub stored : ℕ
  pub sent : ℕ
  pub trimmed : ℕ
  pub mode : Mode
  pub map : Regions
  -- the regions that were sent since the last tick
  pub since : Regions

pub data Message : Type 0 where
  Hello : (session number stored : ℕ) → Message
  Update : (number : ℕ) → (write : Write) → Message
  NetAck : (session number : ℕ) → Message
  DataAck : (number : ℕ) → Message

-- a packet carries one part of a message, the first of which is part 0
pub record Packet : Type 0 where
  pub source : ℕ
  pub target : ℕ
  pub line : Line
  pub message : Message
  pub part : ℕ

-- what the parts of one message have in common: their source and line, the message's kind, session and number, and how many they are
pub record Key : Type 0 where
  pub source : ℕ
  pub kind : ℕ
  pub line : Line
  pub session : ℕ
  pub number : ℕ
  pub parts : ℕ

-- a message of which not all parts have come, and of each part whether it has
pub record Gathering : Type 0 where
  pub key : Key
  pub came : List Bool

-- by what a site keeps a promised number: by its disks, or as long as this session lasts
pub data Surety : Type 0 where
  Durable : Surety
  InSession : (session : ℕ) → Surety

pub record Promise : Type 0 where
  pub line : Line
  pub number : ℕ
  pub site : ℕ
  pub surety : Surety

-- Sites go by numbers from 0 in the order of their making; a number from `sites` on is no site yet.
pub record World : Type 0 where
  pub sites : ℕ
  pub nodes : ℕ → Node
  pub links : ℕ → ℕ → Link
  pub lines : Line → History
  pub packets : List Packet
  pub promised : List Promise
  -- of each site the message in assembly
  pub gathering : ℕ → Option Gathering
  -- of each site how many headers were written to its log, but for those of its sessions' beginnings
  pub headers : ℕ → ℕ

abbrev pub no_volumes : Content
no_volumes = zeros (λ v. 0)

-- a site of which nothing is made yet
abbrev pub bare_site : List ℕ → ℕ → ℕ → Node
bare_site name disks blocks = record {
  name = name;
  state = Bare;
  disks = disks;
  blocks = blocks;
  ring = 0;
  volumes = [];
  role = Primary;
  line = no_line;
  parent = no_line;
  fork = 0;
  top = 0;
  stood = [];
  session = 0;
  mark = Consistent;
  phase = Quiet;
  replay = 0;
  end = 0;
  other = 0xffff_ffff;
  fed_by = 0xffff_ffff;
  start = no_volumes;
  base = no_volumes;
  log = [];
  safe = 0;
  low = 1;
  halted = None;
  fork_map = None;
  fuse = NoFuse;
  failing = λ d. false;
  group = None;
}

abbrev pub no_link : Link
no_link = record {
  made = None;
  bunker = false;
  attached = false;
  connected = false;
  paused = false;
  sync = NeverWaits;
  prot = NoProtection;
  session = 0;
  net = 0;
  stored = 0;
  sent = 0;
  trimmed = 0;
  mode = Stale;
  map = no_regions;
  since = no_regions;
}

abbrev pub no_history : History
no_history = record { parent = no_line; fork = 0; start = no_volumes; held = []; told = 0; replays = λ s. no_replays }

-- no site has been made
abbrev pub empty_world : World
empty_world = record {
  sites = 0;
  nodes = λ i. bare_site [] 0 0;
  links = λ p s. no_link;
  lines = λ l. no_history;
  packets = [];
  promised = [];
  gathering = λ i. None;
  headers = λ i. 0;
}

-- f with this value at this place
abbrev pub updated : {A : Type 0} → (ℕ → A) → ℕ → A → ℕ → A
updated f i x k = if eqb k i then x else f k

abbrev pub line_updated : {A : Type 0} → (Line → A) → Line → A → Line → A
line_updated f l x k = if same_line k l then x else f k

abbrev pub with_node : World → ℕ → Node → World
with_node w i n = record w { nodes = updated w.nodes i n }

-- also a record for the line on which the site then stands
abbrev pub with_history : World → ℕ → Node → History → World
with_history w i n h = record w { nodes = updated w.nodes i n; lines = line_updated w.lines n.line h }
