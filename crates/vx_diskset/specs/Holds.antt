-- What the disks hold of a site, whatever a crash at this moment leaves on them.
use Rattle.std.specs.Prelude.{◌≡◌, ◌⊎◌, ℕ, ◌+◌, ◌<◌, ◌≤◌, List, [], length, take, drop, Option, Some, None, IsTrue}
use Rattle.vx_model.specs.Content.{fold_writes}
use Rattle.vx_history.specs.Doubts.{After, Doubted}
use Rattle.vx_history.specs.Events.{linked_sites}
use Rattle.vx_history.specs.KeptLinks.{kept_links}
use Rattle.vx_history.specs.World.{Link, Node, World}
use Rattle.vx_model.specs.declared.state.State.{State}
use Rattle.vx_model.specs.declared.state.KeptLink.{KeptLink}
use Rattle.vx_model.specs.declared.site.SiteState.TheVariants.{Up, Down}
use Rattle.vx_disk.specs.Shelf.{Meaning, Image}
use Rattle.vx_events.specs.Stamps.{most_stamp}
use Rattle.vx_diskset.specs.Lasts.{FoundWith}
use Rattle.vx_diskset.specs.Layouts.{LiesOn, units_of}

-- a site with the links that the header of its log keeps, and how many headers were written to that log but for those that begin sessions
pub record KeptSite : Type 0 where
  pub node : Node
  pub links : List KeptLink
  pub headers : ℕ

-- What the world has of a site beside its node: its links, as the header of its log keeps them; how many headers were written to that log but
-- for those that begin sessions; and where it is halted, what its disks may hold of it besides, as the call that failed may be on them.
pub record KeptBeside : Type 0 where
  pub links : List KeptLink
  pub headers : ℕ
  pub doubt : Option KeptSite

-- a site without links, for whose log no header was written but those that begin sessions
abbrev pub site_alone : KeptBeside
site_alone = record { links = []; headers = 0; doubt = None }

abbrev pub sure_of : KeptSite → KeptBeside
sure_of k = record { links = k.links; headers = k.headers; doubt = None }

-- the site as its node says it
abbrev pub itself : KeptBeside → Node → KeptSite
itself beside n = record { node = n; links = beside.links; headers = beside.headers }

-- what the header of its log keeps of a site, with these links
abbrev pub state_with : Node → List KeptLink → State
state_with n links = record {
  line = n.line;
  top = n.top;
  role = n.role;
  mark = n.mark;
  phase = n.phase;
  replay = n.replay;
  end = n.end;
  other = n.other;
  parent = n.parent;
  fork = n.fork;
  links = links;
}

-- the links of a row that the header of a log keeps: those that were made, in the order of their making, among so many sites
abbrev pub row_links : (ℕ → Link) → (sites : ℕ) → List KeptLink
row_links row sites = kept_links row (linked_sites row sites 0 sites)

-- the links that the header of a site's log keeps, by the world
abbrev pub header_links : World → ℕ → List KeptLink
header_links w s = row_links (w.links s) w.sites

abbrev pub doubt_of : World → (s : ℕ) → Option After → Option KeptSite
doubt_of w s None = None
doubt_of w s (Some a) = Some (record { node = a.node; links = row_links a.row w.sites; headers = w.headers s })

-- what a world in which sites may be in doubt has of a site beside its node
abbrev pub beside_of : Doubted → ℕ → KeptBeside
beside_of d s = record { links = header_links d.world s; headers = d.world.headers s; doubt = doubt_of d.world s (d.after s) }

-- no header of its log has a greater stamp
abbrev pub most_header : KeptBeside → Node → ℕ
most_header beside n = most_stamp n + beside.headers

-- nor where so many of its writes are durable
abbrev pub most_with : KeptBeside → Node → (count : ℕ) → ℕ
most_with beside n count = most_header beside (record n { safe = count })

-- On these disks stands the site's log, with its state, these links, its session and the last of its writes, up to one of the numbers that a crash may
-- keep; and the volumes with the log over them have the site's content with the writes up to that number.
pub record HasWrites (beside : KeptBeside) (n : Node) (i : Image) : Type 0 where
  pub count : ℕ
  pub least : n.safe ≤ count
  pub most : count ≤ length n.log
  pub found : FoundWith (units_of n) n.ring (state_with n beside.links) n.session (most_with beside n count) i (take count n.log) (fold_writes n.base (drop n.safe (take count n.log)))

-- the same of what it may be besides
abbrev pub HasDoubted : Option KeptSite → Image → Type 0
HasDoubted None i = ⊥
HasDoubted (Some k) i = HasWrites (sure_of k) k.node i

-- an image has the site, or what it may be besides
abbrev pub HasSite : KeptBeside → Node → Image → Type 0
HasSite beside n i = HasWrites beside n i ⊎ HasDoubted beside.doubt i

-- what a site may be besides lies on the same disks
pub record MayBe (k : KeptSite) (m : Meaning) : Type 0 where
  pub state : k.node.state ≡ Up
  pub lies : LiesOn k.node m
  pub low : k.node.low ≡ 1
  pub logged : k.node.safe ≤ length k.node.log
  pub begun : IsTrue m.tells → 0 < k.node.session

-- while a site is up or down
pub record HoldsSite (beside : KeptBeside) (n : Node) (m : Meaning) : Type 0 where
  pub up : n.state ≡ Up → (i : Image) → m.now i → HasSite beside n i
  pub down : n.state ≡ Down → (i : Image) → m.now i → HasSite beside n i
