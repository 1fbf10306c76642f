-- What holds of sites, links, packets and promises in every world that can come about. What links, packets and promises say of their
-- sites is kept by every event only together with the further facts, which are numbered here.
use Rattle.std.specs.Prelude.{◌≡◌, ◌≢◌, ℕ, ◌≤◌, Bool, true, false, ◌||◌, List, [], ◌∷◌, length, None}
use Rattle.std.specs.List.{AllByRecursion}
use Rattle.vx_model.specs.Content.{Write, IsNumber}
use Rattle.vx_history.specs.World.{Node, Link, History, Message, Packet, Promise, Surety, World, Hello, Update, NetAck, DataAck, Durable, InSession}
use Rattle.vx_model.specs.Sites.{is_origin, same_line}
use Rattle.vx_history.specs.Good.{Good, IsMade}
use Rattle.vx_history.specs.GoodCopies.{GoodMode}
use Rattle.vx_model.specs.declared.history.Line.{Line}
use Rattle.vx_model.specs.declared.site.Mark.TheVariants.{Consistent}
use Rattle.vx_model.specs.declared.site.SPhase.TheVariants.{Quiet, Log as ByLog}
use Rattle.vx_model.specs.declared.site.SiteState.{SiteState}
use Rattle.vx_model.specs.declared.site.SiteState.TheVariants.{Bare, Up, Deported, Down}
use Rattle.vx_history.specs.Refusals.{keeps_links, is_bunker}
use Rattle.vx_history.specs.Sends.{is_linked}

-- Fact 1. "The present session" is the session of a site that is up. After a crash a site stands in its old session still, without the
-- records that it had in memory; its session rises as it comes up again.
abbrev pub IsPresent : Node → ℕ → Type 0
IsPresent n session = (n.state ≡ Up) × (n.session ≡ session)

-- down or deported: more than bare, and not up
abbrev pub is_at_rest : SiteState → Bool
is_at_rest Bare = false
is_at_rest Up = false
is_at_rest Deported = true
is_at_rest Down = true

-- Fact 2. A site that is down or deported has no write that a further crash could lose: as it comes up it is not halted, and then an origin
-- has none.
abbrev pub LosesNothing : Node → Type 0
LosesNothing n = is_at_rest n.state ≡ true → length n.log ≤ n.safe

-- Fact 3. What a receiver counts as its primary is the site that began its line.
abbrev pub IsFed : Node → Type 0
IsFed n = is_origin n.role ≡ false → n.other ≡ n.line.origin

-- Fact 14. No site stands in a replay, and none keeps the map of a fork: no event brings a site there. So each site takes updates, and
-- its content is told by its log.
abbrev pub TakesUpdates : Node → Type 0
TakesUpdates n = n.phase ≡ Quiet

-- Fact 16. A receiver in a replay's last phase that has durable all writes up to the end of the replay is marked consistent, unless it is
-- down or halted. So what it says that it has stored it says as a consistent site.
abbrev pub IsMarked : Node → Type 0
IsMarked n = n.state ≡ Up → n.halted ≡ None → n.phase ≡ ByLog → n.end ≤ n.safe → n.mark ≡ Consistent

-- ## Who came to a line

-- the line is one of these
abbrev pub has_line : List Line → Line → Bool
has_line [] line = false
has_line (l ∷ ls) line = same_line line l || has_line ls line

-- Fact 17. Of a line on which site i ever stood: neither the site nor the line's origin is bare, its generation is at most the greatest on
-- which the one and the other ever stood, and it is no newer than the site's present line where both are of one origin. So to a line of a
-- higher generation than its origin ever stood on nobody came.
pub record HasCome (nodes : ℕ → Node) (i : ℕ) (line : Line) : Type 0 where
  pub here : IsMade (nodes i)
  pub there : IsMade (nodes line.origin)
  pub top : line.generation ≤ (nodes i).top
  pub named : line.generation ≤ (nodes line.origin).top
  pub rises : line.origin ≡ (nodes i).line.origin → line.generation ≤ (nodes i).line.generation

-- Fact 18. Where writes arise a site stands on the newest line on which it ever stood.
abbrev pub IsNewest : Node → Type 0
IsNewest n = is_origin n.role ≡ true → n.top ≡ n.line.generation

-- Fact 19. A site that is more than bare came to the line on which it stands.
abbrev pub StoodHere : Node → Type 0
StoodHere n = IsMade n → has_line n.stood n.line ≡ true

-- ## Links

-- a link from a site, now a, to a receiver on the same line, now b
abbrev pub IsFollowed : Node → Node → Link → Type 0
IsFollowed a b l = (is_linked l ≡ true) × (is_origin b.role ≡ false) × (b.line ≡ a.line)

-- Fact 4. A bare site has no link and is at the end of none: else a session could begin again from 1.
abbrev pub HasEnds : Node → Node → Link → Type 0
HasEnds a b l = is_linked l ≡ true → IsMade a × IsMade b

-- Fact 5. Links start at sites that send: where writes arise, and at bunkers. A secondary has none.
abbrev pub StartsAtSender : Node → Link → Type 0
StartsAtSender a l = is_linked l ≡ true → keeps_links a.role ≡ true

-- Fact 6. A link goes to another site: so the site at its other end, on the line of an origin, receives.
abbrev pub GoesElsewhere : (p s : ℕ) → Link → Type 0
GoesElsewhere p s l = is_linked l ≡ true → p ≢ s

-- The site has this number on its disks. And where a replay is to end at it, the site is marked consistent: so a link that then goes by the
-- log feeds a consistent site.
abbrev pub HasStored : Node → ℕ → Type 0
HasStored n k = (k ≤ n.safe) × (n.phase ≡ ByLog → n.end ≤ k → n.mark ≡ Consistent)

-- Fact 20. A link goes to a site that came to its line. None waits for a site that is still to come.
abbrev pub HasArrived : Node → Node → Link → Type 0
HasArrived a b l = is_linked l ≡ true → has_line b.stood a.line ≡ true

-- What the link of site p, now a, to site s, now b, says of b, by what is recorded of the line of a: its session is not above that of b,
-- what is stored is on the disks there, what was acknowledged in the present session is in memory there, and what its mode says.
pub record GoodLink (h : History) (p s : ℕ) (a b : Node) (l : Link) : Type 0 where
  pub ends : HasEnds a b l
  pub starts : StartsAtSender a l
  pub apart : GoesElsewhere p s l
  pub came : HasArrived a b l
  pub session : is_linked l ≡ true → l.session ≤ b.session
  pub stored : IsFollowed a b l → HasStored b l.stored
  pub net : IsFollowed a b l → IsPresent b l.session → l.net ≤ length b.log
  pub says : is_origin a.role ≡ true → IsFollowed a b l → GoodMode h.held (h.replays s) b l.map l.stored l.mode

-- ## Packets

-- What a message says that was sent on this line, of which this is held, from the site that is now n. No session in it is above that
-- of the site. An update is its line's. An acknowledgement from memory holds in the session in which it was sent. One from disk holds
-- as long as the site stands on that line.
-- Fact 8. And so does what any greeting of that line says is stored, whatever its session: a link may hear of a later session by an
-- old greeting.
abbrev pub GoodMessage : List Write → Node → Line → Message → Type 0
GoodMessage held n line (Update number write) = IsNumber held number write
GoodMessage held n line (NetAck session number) =
    (session ≤ n.session) × (n.line ≡ line → IsPresent n session → number ≤ length n.log)
GoodMessage held n line (Hello session number stored) =
    (session ≤ n.session) × (n.line ≡ line → IsPresent n session → number ≤ length n.log) × (n.line ≡ line → HasStored n stored)
GoodMessage held n line (DataAck number) = n.line ≡ line → HasStored n number

-- Fact 9. The line's origin stands on it and keeps no link to site i, which is no bunker. Links are made, and not taken back while their
-- origin stands on its line: so who is a stranger always was. A bunker may stand on the line with its records before it has the link.
abbrev pub IsStranger : (ℕ → Node) → (ℕ → ℕ → Link) → Line → ℕ → Type 0
IsStranger nodes links line i =
    ((nodes line.origin).line ≡ line) × (is_linked (links line.origin i) ≡ false) × (is_bunker (nodes i).role ≡ false)

-- Strangers are sent no updates, and what they say of the line is that they have nothing of it. So a site may come to a line with an
-- empty log, and what it said before stays true.
abbrev pub StrangerSays : (to from : Type 0) → Message → Type 0
StrangerSays to from (Update number write) = to → ⊥
StrangerSays to from (NetAck session number) = from → number ≤ 0
StrangerSays to from (Hello session number stored) = from → (number ≤ 0) × (stored ≤ 0)
StrangerSays to from (DataAck number) = from → number ≤ 0

-- Fact 10. What is said on a line, or promised of a site on it, is said by a site, or of one, that came to the line. So a site that makes its
-- first line, or one of a higher generation than it ever stood on, finds nothing said on it, and a site that comes to a line for the first
-- time said nothing there.
abbrev pub CameTo : (ℕ → Node) → Line → ℕ → Type 0
CameTo nodes line i = has_line (nodes i).stood line ≡ true

pub record GoodPacket (nodes : ℕ → Node) (links : ℕ → ℕ → Link) (lines : Line → History) (p : Packet) : Type 0 where
  pub said : GoodMessage (lines p.line).held (nodes p.source) p.line p.message
  pub known : StrangerSays (IsStranger nodes links p.line p.target) (IsStranger nodes links p.line p.source) p.message
  pub came : CameTo nodes p.line p.source

-- ## Promises

-- A number is kept on a line, by the site's disks or in this session.
-- Fact 11. The session is not above the site's: else the promise would speak of a session that is still to come.
abbrev pub IsKept : Node → Line → ℕ → Surety → Type 0
IsKept n line number Durable = n.line ≡ line → number ≤ n.safe
IsKept n line number (InSession session) = (session ≤ n.session) × (n.line ≡ line → IsPresent n session → number ≤ length n.log)

pub record GoodPromise (nodes : ℕ → Node) (links : ℕ → ℕ → Link) (e : Promise) : Type 0 where
  pub kept : IsKept (nodes e.site) e.line e.number e.surety
  -- nothing was promised of a stranger
  pub known : IsStranger nodes links e.line e.site → ⊥
  pub came : CameTo nodes e.line e.site

-- ## Worlds

-- a stranger that stands on the line as a receiver has nothing of it
abbrev pub KnownNode : (ℕ → Node) → (ℕ → ℕ → Link) → ℕ → Node → Type 0
KnownNode nodes links i n = IsMade n → is_origin n.role ≡ false → IsStranger nodes links n.line i → length n.log ≤ 0

-- Fact 15. A link of a bunker goes to a site that is no stranger on the bunker's line: so what it is sent it was to have.
abbrev pub FedByBunker : (ℕ → Node) → (ℕ → ℕ → Link) → (p s : ℕ) → Type 0
FedByBunker nodes links p s =
    is_linked (links p s) ≡ true → is_origin (nodes p).role ≡ false → IsStranger nodes links (nodes p).line s → ⊥

pub record Sound (w : World) : Type 0 where
  pub good : Good w
  pub whole : (i : ℕ) → LosesNothing (w.nodes i)
  pub fed : (i : ℕ) → IsFed (w.nodes i)
  pub takes : (i : ℕ) → TakesUpdates (w.nodes i)
  pub marked : (i : ℕ) → IsMarked (w.nodes i)
  pub newest : (i : ℕ) → IsNewest (w.nodes i)
  pub stands : (i : ℕ) → StoodHere (w.nodes i)
  pub come : (i : ℕ) → AllByRecursion (HasCome w.nodes i) (w.nodes i).stood
  pub links : (p s : ℕ) → GoodLink (w.lines (w.nodes p).line) p s (w.nodes p) (w.nodes s) (w.links p s)
  pub bunkers : (p s : ℕ) → FedByBunker w.nodes w.links p s
  pub packets : AllByRecursion (GoodPacket w.nodes w.links w.lines) w.packets
  pub promised : AllByRecursion (GoodPromise w.nodes w.links) w.promised
  pub known : (i : ℕ) → KnownNode w.nodes w.links i (w.nodes i)
  -- Fact 22. No replay was begun: no event begins one.
  pub unbegun : (l : Line) (s : ℕ) → ((w.lines l).replays s).begun ≡ 0
