-- What a world in memory is seen as. Headers are not counted in it.
use Rattle.std.specs.Prelude.{◌≡◌, ℕ, ◌+◌, ◌*◌, ◌-◌, ◌/◌, ◌<◌, true, false, eqb, leb, ltb, ◌&&◌, List, [], ◌∷◌, ◌++◌, length, map, get_or, Option, Some, None, if◌then◌else◌, codes}
use Rattle.std.specs.Fmt.{decimal}
use Rattle.vx_model.specs.Content.{Content as PlainContent, zeros, fold_writes}
use Rattle.vx_model.specs.Sites.{no_line, same_line}
use Rattle.vx_history.specs.World.{Volume, Regions, no_regions, no_link, no_replays, no_history, bare_site, updated, NoFuse}
use Rattle.vx_model.specs.declared.limits.TheConstants.{REGION}
use Rattle.vx_history.specs.Regions.{joined_maps}
use Rattle.vx_history.specs.World.{Node as PlainNode, Link as PlainLink, History as PlainHistory, World as PlainWorld}
use Rattle.vx_history.specs.World.{Packet as PlainPacket, Key as PlainKey, Gathering as PlainGathering, Surety as PlainSurety, Promise as PlainPromise}
use Rattle.vx_history.specs.World.{Durable as PlainDurable, InSession as PlainInSession}
use Rattle.vx_model.specs.declared.history.Line.{Line}
use Rattle.vx_sites.specs.declared.content.Content.{Content}
use Rattle.vx_sites.specs.declared.history.History.{History}
use Rattle.vx_sites.specs.declared.history.Entry.{Entry}
use Rattle.vx_sites.specs.declared.link.Link.{Link}
use Rattle.vx_sites.specs.declared.link.Row.{Row}
use Rattle.vx_sites.specs.declared.maps.MapChange.{MapChange}
use Rattle.vx_sites.specs.declared.maps.MapChange.TheVariants.{Clear, Mark}
use Rattle.vx_sites.specs.declared.maps.MapEntry.{MapEntry}
use Rattle.vx_sites.specs.declared.node.Node.{Node}
use Rattle.vx_sites.specs.declared.packet.Packet.{Packet}
use Rattle.vx_sites.specs.declared.gathering.Key.{Key}
use Rattle.vx_sites.specs.declared.gathering.Gathering.{Gathering}
use Rattle.vx_sites.specs.declared.gathering.Place.{Place}
use Rattle.vx_sites.specs.declared.packet.Surety.{Surety}
use Rattle.vx_sites.specs.declared.packet.Surety.TheVariants.{Durable, InSession}
use Rattle.vx_sites.specs.declared.packet.Promise.{Promise}
use Rattle.vx_sites.specs.declared.world.World.{World}
use Rattle.vx_sites.specs.Messages.{message_of}

-- volumes of these many blocks each
abbrev pub sizes : List ℕ → ℕ → ℕ
sizes blocks v = get_or blocks v 0

-- they are named d1, d2 and so on, the first with number k
abbrev pub named_volumes : ℕ → List ℕ → List Volume
named_volumes k [] = []
named_volumes k (b ∷ bs) = record { name = codes "d" ++ decimal k; blocks = b } ∷ named_volumes (k + 1) bs

-- they have these names, and those behind are named by their numbers
abbrev pub called_volumes : List (List ℕ) → ℕ → List ℕ → List Volume
called_volumes names k [] = []
called_volumes [] k (b ∷ bs) = record { name = codes "d" ++ decimal k; blocks = b } ∷ called_volumes [] (k + 1) bs
called_volumes (name ∷ names) k (b ∷ bs) = record { name = name; blocks = b } ∷ called_volumes names (k + 1) bs

abbrev pub content_of : Content → PlainContent
content_of c = fold_writes (zeros (sizes c.sizes.items)) c.writes.items

abbrev pub history_of : History → PlainHistory
history_of h = record { parent = no_line; fork = 0; start = content_of h.start; held = h.held.items; told = h.told; replays = λ s. no_replays }

abbrev pub node_of : Node → PlainNode
node_of n = record {
  name = n.name;
  state = n.state;
  disks = n.disks;
  blocks = n.blocks;
  ring = n.ring;
  volumes = called_volumes n.names.items 1 n.volumes.items;
  role = n.role;
  line = n.line;
  parent = no_line;
  fork = 0;
  top = n.top;
  stood = n.stood.items;
  session = n.session;
  mark = n.mark;
  phase = n.phase;
  replay = n.replay;
  end = n.end;
  other = n.other;
  fed_by = n.fed_by;
  start = content_of n.start;
  base = content_of n.base;
  log = n.log.items;
  safe = n.safe;
  low = 1;
  halted = n.halted;
  fork_map = None;
  fuse = NoFuse;
  failing = λ d. false;
  group = None;
}

abbrev pub link_of : Link → PlainLink
link_of l = record {
  made = l.made;
  bunker = l.state.bunker;
  attached = l.state.attached;
  connected = l.state.connected;
  paused = l.state.paused;
  sync = l.state.sync;
  prot = l.state.prot;
  session = l.state.session;
  net = l.state.net;
  stored = l.state.stored;
  sent = l.state.sent;
  trimmed = l.state.trimmed;
  mode = l.state.mode;
  map = no_regions;
  since = no_regions;
}

abbrev pub packet_of : Packet → PlainPacket
packet_of p = record { source = p.source; target = p.target; line = p.line; message = message_of p.message; part = p.part }

abbrev pub plain_key : Key → PlainKey
plain_key k = record { source = k.source; kind = k.kind; line = k.line; session = k.session; number = k.number; parts = k.parts }

abbrev pub gathering_of : Gathering → PlainGathering
gathering_of g = record { key = plain_key g.key; came = g.came.items }

abbrev pub held_of : Option Gathering → Option PlainGathering
held_of None = None
held_of (Some g) = Some (gathering_of g)

-- a site beyond the last place has nothing in assembly
abbrev pub places_of : List Place → ℕ → Option PlainGathering
places_of places i = get_or (map (λ p. held_of p.held) places) i None

abbrev pub surety_of : Surety → PlainSurety
surety_of Durable = PlainDurable
surety_of (InSession session) = PlainInSession session

abbrev pub plain_promise : Promise → PlainPromise
plain_promise p = record { line = p.line; number = p.number; site = p.site; surety = surety_of p.surety }

-- a site beyond the last is bare, without a name and disks
abbrev pub nodes_of : List Node → ℕ → PlainNode
nodes_of nodes i = get_or (map node_of nodes) i (bare_site [] 0 0)

-- the links of one site but for their maps, each in the place of the site that it leads to
abbrev pub row_of : List Link → ℕ → PlainLink
row_of links s = get_or (map link_of links) s no_link

abbrev pub links_of : List Row → ℕ → ℕ → PlainLink
links_of rows p = get_or (map (λ r. row_of r.links.items) rows) p (λ s. no_link)

-- the regions of a volume that so many bytes touch, from a block on
abbrev pub marks_at : (volume start bytes : ℕ) → Regions
marks_at volume start bytes v r = eqb v volume && (leb (start / REGION) r && ltb (512 * (REGION * r - start)) bytes)

abbrev pub map_made : MapChange → Regions → Regions
map_made Clear map = no_regions
map_made (Mark volume start bytes) map = joined_maps map (marks_at volume start bytes)

-- the maps of all links with this one from one site to another
abbrev pub with_link_map : (ℕ → ℕ → Regions) → (from to : ℕ) → Regions → ℕ → ℕ → Regions
with_link_map maps from to map = updated maps from (updated (maps from) to map)

abbrev pub maps_made : MapEntry → (ℕ → ℕ → Regions) → ℕ → ℕ → Regions
maps_made e maps = with_link_map maps e.from e.to (map_made e.change (maps e.from e.to))

-- what is made of the maps of all links, one after another
abbrev pub maps_from : (ℕ → ℕ → Regions) → List MapEntry → ℕ → ℕ → Regions
maps_from maps [] = maps
maps_from maps (e ∷ es) = maps_from (maps_made e maps) es

abbrev pub link_maps : List MapEntry → ℕ → ℕ → Regions
link_maps es = maps_from (λ p s. no_regions) es

abbrev pub with_map : Regions → PlainLink → PlainLink
with_map map l = record l { map = map }

-- the links of these rows, each with its map
abbrev pub mapped_links : List MapEntry → List Row → ℕ → ℕ → PlainLink
mapped_links entries rows p s = with_map (link_maps entries p s) (links_of rows p s)

-- the first entry of the line
abbrev pub lines_of : List Entry → Line → PlainHistory
lines_of [] l = no_history
lines_of (e ∷ es) l = if same_line l e.line then history_of e.history else lines_of es l

-- the first entry of this line stands at this place
pub record IsEntry (entries : List Entry) (line : Line) (at : ℕ) : Type 0 where
  pub within : at < length entries
  pub here : (d : Entry) → same_line line (get_or entries at d).line ≡ true
  pub first : (k : ℕ) (d : Entry) → k < at → same_line line (get_or entries k d).line ≡ false

-- no entry is of this line
abbrev pub IsNewLine : List Entry → Line → Type 0
IsNewLine entries line = (k : ℕ) (d : Entry) → k < length entries → same_line line (get_or entries k d).line ≡ false

abbrev pub world_of : World → PlainWorld
world_of w = record {
  sites = length w.nodes.items;
  nodes = nodes_of w.nodes.items;
  links = mapped_links w.maps.entries.items w.rows.items;
  lines = lines_of w.lines.items;
  packets = w.packets;
  promised = map plain_promise w.promised.items;
  gathering = places_of w.gathering.items;
  headers = λ i. 0;
}
