-- What the yard promises where a site comes up with the links that the header of its log keeps.
use Rattle.std.specs.Prelude.{◌≡◌, ℕ, ◌<◌, Bool, true, false, ◌&&◌, ◌||◌, drop, if◌then◌else◌, List, [], ◌∷◌, ◌++◌, Some, None, slice_get, slice_set}
use Rattle.vx_model.specs.Sites.{is_origin}
use Rattle.vx_model.specs.declared.site.SPhase.{SPhase}
use Rattle.vx_model.specs.declared.site.SPhase.TheVariants.{Quiet, Regions, Log as LogPhase, ForkKept}
use Rattle.vx_model.specs.declared.site.SiteState.TheVariants.{Up, Down}
use Rattle.vx_model.specs.declared.state.KeptLink.{KeptLink}
use Rattle.vx_model.specs.declared.state.KeptMode.{KeptMode}
use Rattle.vx_model.specs.declared.state.KeptMode.TheVariants.{Log, Dcm, Replay, Fork, Stale}
use Rattle.vx_model.specs.declared.state.State.{State}
use Rattle.vx_model.specs.Sizes.{ring_of}
use Rattle.vx_courier.specs.UnderWay.{FlightStands}
use Rattle.vx_diskset.specs.Holds.{KeptBeside, state_with}
use Rattle.vx_diskset.specs.Layouts.{IsRoomOf}
use Rattle.vx_diskset.specs.Stands.{SiteStands}
use Rattle.vx_diskset.specs.declared.disk_set.DiskSet.{DiskSet}
use Rattle.vx_disk.specs.declared.shelf.Shelf.{Ghosts}
use Rattle.vx_history.specs.Doubts.{Doubted}
use Rattle.vx_history.specs.Sends.{packets_of}
use Rattle.vx_history.specs.World.{Hello, Node, Packet}
use Rattle.vx_history.specs.declared.event.Event.TheVariants.{Crash as CrashAt}
use Rattle.vx_history.specs.Events.{logged_blocks}
use Rattle.vx_effects.specs.Restarts.{are_fine, facts_again}
use Rattle.vx_events.specs.Doubts.{run_as}
use Rattle.vx_events.specs.Fails.{Fails}
use Rattle.vx_events.specs.GroupLines.{is_over_group}
use Rattle.vx_events.specs.Lines.{IsDone as IsDoneLine}
use Rattle.vx_events.specs.LinkViews.{linked_view}
use Rattle.vx_events.specs.Lists.{Choice, crash_count}
use Rattle.vx_order.specs.declared.facts.SiteFacts.{SiteFacts}
use Rattle.vx_events.specs.declared.said.Said.{Said}
use Rattle.vx_events.specs.declared.said.Said.TheVariants.{Recovered}
use Rattle.vx_report.specs.declared.view.SiteView.{SiteView}
use Rattle.vx_script.specs.declared.line.ScriptLine.{ScriptLine}
use Rattle.vx_yard.specs.Carries.{Carries}
use Rattle.vx_yard.specs.Changes.{up_facts}
use Rattle.vx_yard.specs.Standing.{StandsFor}
use Rattle.vx_yard.specs.Stands.{RoseAll}
use Rattle.vx_yard.specs.Yards.{IsTold, count_of}
use Rattle.vx_site_lines.specs.declared.rooms.RiseRoom.{RiseRoom}
use Rattle.vx_site_lines.specs.declared.rooms.ShowRoom.{ShowRoom}
use Rattle.vx_yard.specs.declared.yard.Yard.{Yard}

abbrev pub is_quiet : SPhase → Bool
is_quiet Quiet = true
is_quiet Regions = false
is_quiet LogPhase = false
is_quiet ForkKept = false

abbrev pub is_none : List KeptLink → Bool
is_none [] = true
is_none (l ∷ ls) = false

-- A log in this state is one with which site s may come up among so many: it is in no replay, each link is one that it may keep, and where it has any writes
-- of a line arise.
abbrev pub can_rise : (s sites : ℕ) → State → Bool
can_rise s sites state = is_quiet state.phase && (are_fine s sites state.links && (is_origin state.role || is_none state.links))

abbrev pub is_by_log : KeptMode → Bool
is_by_log Log = true
is_by_log Dcm = false
is_by_log Replay = false
is_by_log Fork = false
is_by_log Stale = false

-- the blocks of its site's log that a link needs which the header keeps
abbrev pub link_needs : Node → KeptLink → ℕ
link_needs n l = if l.attached && is_by_log l.mode then logged_blocks (drop l.stored n.log) else 0

-- so many blocks are what this link needs
pub record IsNeed (n : Node) (l : KeptLink) (blocks : ℕ) : Type 0 where
  pub is : blocks ≡ link_needs n l

-- in these places stand the blocks that each link needs
pub record AreNeeds (n : Node) (links : List KeptLink) (used : List ℕ) : Type 0 where
  pub each : (k : ℕ) (l : KeptLink) → slice_get links k ≡ Some l → slice_get used k ≡ Some (link_needs n l)

-- what the tests see of a site that came up with this state, so many writes and such a ring
abbrev pub risen_facts : State → (last ring : ℕ) → (used : List ℕ) → SiteFacts → SiteFacts
risen_facts state last ring used f = record (up_facts state last ring f) { links = facts_again state.links used }

-- one that receives greets the one that it followed
abbrev pub hello_by : (s : ℕ) → State → (session last : ℕ) → List Packet
hello_by s state session last = if is_origin state.role then [] else packets_of s state.other state.line (Hello session last last)

-- the world from which a site is recovered, but for the disks that are made to fail: one that is up crashes first
pub data RisesFrom (d : Doubted) (s : ℕ) (c : Choice) (taken : Bool) (h : Doubted) : Type 0 where
  WasUp : (d.world.nodes s).state ≡ Up → h ≡ run_as taken d (CrashAt s (crash_count (d.world.nodes s) c.kept) ∷ []) → RisesFrom d s c taken h
  WasDown : (d.world.nodes s).state ≡ Down → taken ≡ false → h ≡ d → RisesFrom d s c taken h

-- the links before place k have theirs
pub record NeedsBelow (n : Node) (links : List KeptLink) (used : List ℕ) (k : ℕ) : Type 0 where
  pub each : (j : ℕ) (l : KeptLink) → j < k → slice_get links j ≡ Some l → slice_get used j ≡ Some (link_needs n l)

-- a site may come up with this state of its log, in which its links need so much
pub record IsRisen (s sites : ℕ) (n : Node) (state : State) (used : List ℕ) : Type 0 where
  pub kept : state ≡ state_with n state.links
  pub may : can_rise s sites state ≡ true
  pub needs : AreNeeds n state.links used

-- room for the links of a site, in which nothing is yet
pub record IsEmptyShowRoom (room : ShowRoom) : Type 0 where
  pub links : room.links ≡ []
  pub views : room.views ≡ []

-- memory that a recovery takes before: room for a raw set on disks of so many blocks, in which nothing is yet
pub record IsEmptyRiseRoom (blocks : ℕ) (room : RiseRoom) : Type 0 where
  pub start : IsRoomOf blocks (ring_of blocks) room.start
  pub waiting : room.waiting ≡ []
  pub shows : IsEmptyShowRoom room.shows

module _ {R : Type 0} {g : Ghosts R} where
  -- of each site for which its disk set stands, the number of its last write, and its session
  pub record LastAt (s last : ℕ) (y : Yard R g) : Type 0 where
    pub each : (beside : KeptBeside) (n : Node) (e : DiskSet R g) → slice_get y.disk_sets.items s ≡ Some e → SiteStands beside n e → n.state ≡ Up → n.halted ≡ None → last ≡ n.safe

  pub record SessionAt (s session : ℕ) (y : Yard R g) : Type 0 where
    pub each : (beside : KeptBeside) (n : Node) (e : DiskSet R g) → slice_get y.disk_sets.items s ≡ Some e → SiteStands beside n e → n.state ≡ Up → is_over_group n ≡ false → session ≡ n.session

  -- The site came up with this state of its log: the tests see it, the one that it followed feeds it, and it greets that one.
  pub record RisesTo (s ring : ℕ) (state : State) (used : List ℕ) (said : Said) (old new : Yard R g) : Type 0 where
    pub last : ℕ
    pub session : ℕ
    pub view : SiteView
    pub last_is : LastAt s last old
    pub session_is : SessionAt s session old
    pub says : said ≡ Recovered last view
    pub shows : (d : Doubted) → StandsFor d new → s < d.world.sites → is_over_group (d.world.nodes s) ≡ false → view ≡ linked_view d.world s
    pub facts : (f : SiteFacts) → slice_get old.facts.items s ≡ Some f → new.facts.items ≡ slice_set old.facts.items s (risen_facts state last ring used f)
    pub disk_sets : new.disk_sets ≡ old.disk_sets
    pub racks : new.racks ≡ old.racks
    pub assemblies : new.assemblies ≡ old.assemblies
    pub feeders : new.feeders.items ≡ slice_set old.feeders.items s state.other
    pub flight : (ps : List Packet) → FlightStands ps old.flight → FlightStands (ps ++ hello_by s state session last) new.flight

  -- how such a site stands
  pub record ViewAt (s : ℕ) (view : SiteView) (y : Yard R g) : Type 0 where
    pub each : (d : Doubted) → StandsFor d y → s < d.world.sites → is_over_group (d.world.nodes s) ≡ false → view ≡ linked_view d.world s

  -- The line was done and answered so, from this yard on, which stands for the world `mid` behind a first event of the line.
  pub record LeadsFrom (mid d : Doubted) (line : ScriptLine) (said : Said) (old new : Yard R g) : Type 0 where
    pub next : Doubted
    pub fails : Fails
    pub done : IsDoneLine (IsTold new) d line fails said next
    pub stands : StandsFor next new
    pub carries : Carries mid old → Carries next new
    pub rose : RoseAll fails (count_of old) (count_of new)
