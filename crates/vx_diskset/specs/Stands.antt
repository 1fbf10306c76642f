-- What the disks of a site stand for: how its rack, or the group over it, agrees with its node of the world.
use Rattle.std.specs.Prelude.{◌≡◌, ◌⊎◌, ℕ, ◌+◌, ◌<◌, ◌≤◌, List, [], Some, length, take, drop, None, Bool, IsTrue, IsFalse, true, false}
use Rattle.vx_model.specs.declared.limits.TheConstants.{LEAST_BLOCKS, MOST_DISKS}
use Rattle.vx_model.specs.Content.{zero_block}
use Rattle.vx_model.specs.Sites.{is_origin}
use Rattle.vx_model.specs.declared.call.Update.{Update}
use Rattle.vx_history.specs.Events.{logged_blocks}
use Rattle.vx_history.specs.World.{Node, NoFuse, bare_site}
use Rattle.vx_model.specs.declared.state.KeptLink.{KeptLink}
use Rattle.vx_diskset.specs.Holds.{KeptBeside}
use Rattle.vx_model.specs.declared.site.SiteState.TheVariants.{Bare as IsBare, Up as IsUp, Down as IsDown}
use Rattle.vx_disk.specs.Shelf.{Meaning, Image, Keeps}
use Rattle.vx_disk.specs.declared.shelf.Shelf.{Ghosts}
use Rattle.vx_rvg.specs.Views.{Core, last_of}
use Rattle.vx_secondary.specs.Receivers.{writes_of_updates}
use Rattle.vx_diskset.specs.declared.disk_set.DiskSet.{DiskSet}
use Rattle.vx_diskset.specs.declared.disk_set.DiskSet.TheVariants.{Bare, Spoiled, Up, Receives, Down, OfGroup, Over, Gone}
use Rattle.vx_grouped.specs.GroupSites.{FitsPlain, GroupSiteStands, IsMarkedSite, site_below, site_disks}
use Rattle.vx_history.specs.Groups.{GroupNode}
use Rattle.vx_diskset.specs.GroupSets.{cut_value, noted_cut}
use Rattle.vx_diskset.specs.declared.group_set.CutWrite.{CutWrite}
use Rattle.vx_diskset.specs.declared.group_set.GroupSet.{GroupSet}
use Rattle.vx_diskset.specs.Fuses.{FuseOn, IsFirstLog}
use Rattle.vx_diskset.specs.Holds.{HasSite, KeptSite, MayBe, site_alone, state_with}
use Rattle.vx_diskset.specs.Holds.{most_header}
use Rattle.vx_diskset.specs.LaidBlocks.{laid_blockwise}
use Rattle.vx_diskset.specs.Lasts.{FoundWith, LeftWith, StandsHolding}
use Rattle.vx_diskset.specs.Layouts.{IsLaidBy, LiesOn, LiesRaw, raw_units, units_of}
use Rattle.vx_model.specs.declared.site.SiteState.TheVariants.{Deported as IsAway}
use Rattle.vx_group.specs.Resumes.{AtRest, stopped}
use Rattle.vx_group.specs.Settles.{LivesAgree}
use Rattle.vx_logimport.specs.declared.rested.Rested.{Rested}
use Rattle.vx_model.specs.declared.units.Units.{Units}
use Rattle.vx_config.specs.Checks.{blocks_of}
use Rattle.vx_config.specs.declared.config.Config.{Config}
use Rattle.vx_copies.specs.Answers.{returned}
use Rattle.vx_copyfmt.specs.Imports.{Found}
use Rattle.vx_disk.specs.Shelf.{Each}
use Rattle.vx_kept.specs.Groups.{Shows, found as finds, group_meaning}
use Rattle.vx_kept.specs.Keeping.{Extends}
use Rattle.vx_kept.specs.Opens.{OpenVolumes}
use Rattle.vx_grouped.specs.Readies.{ready_of}
use Rattle.vx_grouped.specs.declared.idle.Idle.{Idle}
use Rattle.vx_untold.specs.Shades.{shade_meaning}
use Rattle.vx_events.specs.RvgFits.{rvg_noted}
use Rattle.vx_events.specs.RvgNotes.{inside_of}
use Rattle.vx_diskset.specs.Aboves.{above_in, site_in}
use Rattle.vx_diskset.specs.declared.above.Above.{Above}
use Rattle.vx_diskset.specs.declared.above.Above.TheVariants.{Nothing, Origin, Receiver}
use Rattle.vx_diskset.specs.declared.over_set.OverSite.{OverSite}
use Rattle.vx_diskset.specs.declared.over_set.OverSite.TheVariants.{Origin as OriginSite, Receiver as ReceiverSite, Deported as GroupAway, Down as GroupFell, Gone as NoGroup}
use Rattle.vx_grouped.specs.SiteMaps.{StandMaps}
use Rattle.vx_diskset.specs.Needs.{TakesAs}

-- a rack that is not fitted, is up, and has no fuse
pub record IsUnfitted (m : Meaning) : Type 0 where
  pub units : m.units ≡ 0
  pub up : IsFalse m.down
  pub unarmed : IsFalse m.armed

-- a rack with so many disks of so many blocks, which is up
pub record IsFitted (disks blocks : ℕ) (m : Meaning) : Type 0 where
  pub units : m.units ≡ disks
  pub size : (u : ℕ) → u < disks → m.size u ≡ blocks
  pub up : IsFalse m.down

-- a bare site with this name, these disks, and these of them made to fail
abbrev pub bare_with : Node → Node
bare_with n = record (bare_site n.name n.disks n.blocks) { failing = n.failing }

-- the disks of a bare site: those behind the first hold zeros
pub record IsBareAt (n : Node) (m : Meaning) : Type 0 where
  pub is : n ≡ bare_with n
  pub fitted : IsFitted n.disks n.blocks m
  pub unarmed : IsFalse m.armed
  pub few : n.disks ≤ MOST_DISKS
  pub some : LEAST_BLOCKS ≤ n.blocks
  pub blank : (u b : ℕ) → 0 < u → u < n.disks → b < n.blocks → Keeps m u b zero_block

-- the disks of a bare site of which nothing was begun: the first holds zeros too
pub record IsCleanAt (n : Node) (m : Meaning) : Type 0 where
  pub bare : IsBareAt n m
  pub front : (b : ℕ) → b < n.blocks → Keeps m 0 b zero_block

-- the disks of a bare site on which a group was begun
pub record IsMarkedAt (n : Node) (m : Meaning) : Type 0 where
  pub marked : IsMarkedSite n m
  pub is : n ≡ bare_with n
  pub few : n.disks ≤ MOST_DISKS
  pub some : LEAST_BLOCKS ≤ n.blocks

-- the disks of a site under its replicated volume group, with what the world has of it beside its node
pub record IsUpAt (beside : KeptBeside) (n : Node) (c : Core) (m : Meaning) : Type 0 where
  pub state : n.state ≡ IsUp
  pub up : IsFalse m.down
  pub fuse : FuseOn n.fuse m
  pub lies : LiesOn n m
  pub low : n.low ≡ 1
  pub units : c.units ≡ units_of n
  pub ring : c.log.ring ≡ n.ring
  -- of disks that tell no contents it is not known which links the log keeps, nor how great its stamp is
  pub found : List KeptLink
  pub kept : c.log.header.state ≡ state_with n found
  pub linked : IsTrue m.tells → found ≡ beside.links
  pub session : c.log.header.incarnation ≡ n.session
  pub begun : IsTrue m.tells → 0 < n.session
  pub stamp : IsTrue m.tells → n.halted ≡ None → c.log.header.stamp + 1 ≤ most_header beside n
  -- in its first session the log of an origin begins with the site's first write, as long as it did not go round
  pub fresh : is_origin n.role ≡ true → IsTrue m.tells → n.halted ≡ None → n.session ≡ 1 → logged_blocks n.log ≤ n.ring → IsFirstLog c.log n.log
  pub first : 0 < c.log.header.low
  pub head : last_of c ≡ n.safe
  pub halted : c.halted ≡ n.halted
  pub logged : n.safe ≤ length n.log
  -- while no write failed all are durable
  pub durable : n.halted ≡ None → length n.log ≤ n.safe
  pub takes : n.halted ≡ None → TakesAs c.log n.log
  -- while no write failed, it has the content, and its log the last of the writes; and whatever a crash leaves has the writes that it may keep
  pub content : n.halted ≡ None → IsTrue m.tells → StandsHolding c n.log n.base m
  pub left : (i : Image) → m.now i → HasSite beside n i
  -- a site that runs is what its node says
  pub sure : n.halted ≡ None → beside.doubt ≡ None
  pub may : (k : KeptSite) → beside.doubt ≡ Some k → MayBe k m

-- The disks of a site that receives, under its replicated volume group, behind which these updates wait. Those that an apply logged before a
-- disk ended it are in the log, and of the site they wait still.
pub record IsReceiverAt (beside : KeptBeside) (n : Node) (c : Core) (us : List Update) (m : Meaning) : Type 0 where
  pub state : n.state ≡ IsUp
  pub role : is_origin n.role ≡ false
  pub up : IsFalse m.down
  pub fuse : FuseOn n.fuse m
  pub lies : LiesOn n m
  pub low : n.low ≡ 1
  pub units : c.units ≡ units_of n
  pub ring : c.log.ring ≡ n.ring
  pub found : List KeptLink
  pub kept : c.log.header.state ≡ state_with n found
  pub linked : IsTrue m.tells → found ≡ beside.links
  pub session : c.log.header.incarnation ≡ n.session
  pub begun : IsTrue m.tells → 0 < n.session
  pub stamp : IsTrue m.tells → n.halted ≡ None → c.log.header.stamp + 1 ≤ most_header beside n
  pub first : 0 < c.log.header.low
  pub least : n.safe ≤ last_of c
  pub most : last_of c ≤ length n.log
  pub head : n.halted ≡ None → last_of c ≡ n.safe
  pub halted : c.halted ≡ n.halted
  pub waits : writes_of_updates us ≡ drop (last_of c) n.log
  pub takes : n.halted ≡ None → TakesAs c.log (take n.safe n.log)
  -- while no call failed, it has the content with the writes that are durable, and its log the last of these
  pub content : n.halted ≡ None → IsTrue m.tells → StandsHolding c (take n.safe n.log) n.base m
  pub left : (i : Image) → m.now i → HasSite beside n i
  pub sure : n.halted ≡ None → beside.doubt ≡ None
  pub may : (k : KeptSite) → beside.doubt ≡ Some k → MayBe k m

-- the disks of a site, up or down: a crash leaves its writes on them
pub record IsHeldAt (beside : KeptBeside) (n : Node) (m : Meaning) : Type 0 where
  pub lies : LiesOn n m
  pub low : n.low ≡ 1
  pub logged : n.safe ≤ length n.log
  pub begun : IsTrue m.tells → 0 < n.session
  pub left : (i : Image) → m.now i → HasSite beside n i
  pub may : (k : KeptSite) → beside.doubt ≡ Some k → MayBe k m

-- the disks of a raw set that crashed: they have one log and one content, that of the site
pub record IsDownAt (beside : KeptBeside) (n : Node) (m : Meaning) : Type 0 where
  pub state : n.state ≡ IsDown
  pub unfused : n.fuse ≡ NoFuse
  pub down : IsTrue m.down
  pub unarmed : IsFalse m.armed
  pub sure : beside.doubt ≡ None
  pub raw : n.group ≡ None
  pub lies : LiesRaw n m
  pub low : n.low ≡ 1
  pub logged : length n.log ≡ n.safe
  pub begun : IsTrue m.tells → 0 < n.session
  pub left : IsTrue m.tells → LeftWith (raw_units n.disks) n.ring (state_with n beside.links) n.session (most_header beside n) n.log n.base m

-- The disks of a site that crashed, whose group has a replicated volume group. Of each image that they leave an import finds a configuration by which the volumes
-- show the site's log, which has all its writes, and its content.
pub record FellOver (c : Config) (beside : KeptBeside) (n : Node) (m : Meaning) : Type 0 where
  pub extends : (i : Image) (x : Config) → Each m.leaves i → finds m i ≡ Found x → Extends x c
  pub found : (i : Image) (x : Config) (above : Image) → Each m.leaves i → finds m i ≡ Found x → Shows c x i above
      → FoundWith (units_of n) n.ring (state_with n beside.links) n.session (most_header beside n) above n.log n.base

-- Those of one that was deported: by each configuration that an import finds the volumes have that log and that content, whatever a crash leaves of them.
pub record AwayOver (c : Config) (beside : KeptBeside) (n : Node) (m : Meaning) : Type 0 where
  pub extends : (i : Image) (x : Config) → Each m.leaves i → finds m i ≡ Found x → Extends x c
  pub left : (i : Image) (x opened : Config) (readable : ℕ → Bool) → Each m.leaves i → finds m i ≡ Found x → OpenVolumes 0 (returned readable x) opened
      → LeftWith (units_of n) n.ring (state_with n beside.links) n.session (most_header beside n) n.log n.base (group_meaning opened (λ v. 0) m)

-- The same of either, as an import sees the disks: where imports may disagree nothing is told. Which replicated volume group a configuration has that is found is said of
-- the note of the site, apart.
pub record RestsOver (Left : Config → Type 0) (beside : KeptBeside) (n : Node) (m : Meaning) : Type 0 where
  pub config : Config
  pub sure : beside.doubt ≡ None
  pub lies : IsLaidBy (units_of n) n.ring n.volumes n.base.size (blocks_of config.volumes)
  pub there : (k : ℕ) → inside_of (units_of n) k ≡ true → k < length config.volumes
  pub low : n.low ≡ 1
  pub logged : length n.log ≡ n.safe
  pub begun : IsTrue m.tells → 0 < n.session
  pub left : IsTrue m.tells → Left config

-- each configuration that is found has an ACTIVE plex of each volume of the replicated volume group, which stopped uncleanly, or its plexes that take part are alike
pub record RvgSettles (units : Units) (m : Meaning) : Type 0 where
  pub each : (i : Image) (x : Config) (v : ℕ) → Each m.leaves i → finds m i ≡ Found x → inside_of units v ≡ true → (stopped x v ≡ true) ⊎ LivesAgree x v m

-- Disks that crashed behind the start of a replicated volume group that was refused, and were brought up by themselves: they have one value of each block besides.
pub record FellAgain (c : Config) (beside : KeptBeside) (n : Node) (m : Meaning) : Type 0 where
  pub over : FellOver c beside n m
  pub settles : RvgSettles (units_of n) m
  pub one : AtRest m

-- what is left of a site that is deported: its group was deported, or so a start was refused behind an import of it
abbrev pub AwayLeft : Config → KeptBeside → Node → Meaning → Type 0
AwayLeft c beside n m = AwayOver c beside n m ⊎ FellAgain c beside n m

-- a site that is on no group of disks, whatever it may be besides
abbrev pub IsUngrouped : KeptBeside → Node → Type 0
IsUngrouped beside n = (n.group ≡ None) × ((k : KeptSite) → beside.doubt ≡ Some k → k.node.group ≡ None)

-- two sites on the same disks, with the same units
pub record SameGround (k n : Node) : Type 0 where
  pub units : units_of k ≡ units_of n
  pub disks : k.disks ≡ n.disks
  pub blocks : k.blocks ≡ n.blocks

-- one on a group of disks, which is never in doubt: it has no links, and writes of its line arise there
abbrev pub IsOverSite : KeptBeside → Node → Type 0
IsOverSite beside n = (n.group ≡ None → ⊥) × (beside.doubt ≡ None) × (n.disks ≤ MOST_DISKS) × (LEAST_BLOCKS ≤ n.blocks) × (beside.links ≡ []) × (is_origin n.role ≡ true)

-- a write is cut only at a site that is down, and lies in its volume
pub record CutLies (n : Node) (x : CutWrite) : Type 0 where
  pub down : n.state ≡ IsDown
  pub fits : (note : GroupNode) → n.group ≡ Some note → FitsPlain note x.volume x.block (length x.bytes)

-- a replicated volume group over these volumes
abbrev pub AboveStands : KeptBeside → Node → Above → Meaning → Type 0
AboveStands beside n Nothing m = ⊥
AboveStands beside n (Origin core) m = IsUpAt beside n core m
AboveStands beside n (Receiver core waiting) m = IsReceiverAt beside n core waiting m

-- of an origin, where no updates wait behind it
abbrev pub RoleBy : Node → Above → Type 0
RoleBy n Nothing = Unit {0}
RoleBy n (Origin core) = is_origin n.role ≡ true
RoleBy n (Receiver core waiting) = Unit {0}

-- all writes up to this number are in the volumes
abbrev pub AppliedIn : ℕ → Above → Type 0
AppliedIn number Nothing = ⊥
AppliedIn number (Origin core) = core.applied ≡ number
AppliedIn number (Receiver core waiting) = core.applied ≡ number

module _ {R : Type 0} {g : Ghosts R} where
  -- The disks of a site that has a group of disks, and no replicated volume group, with the write that its fuse cut. Such a site is never in doubt, and has no links. On
  -- those of a bare one a group was begun.
  pub record IsGroupSet (beside : KeptBeside) (n : Node) (s : GroupSet R g) : Type 0 where
    pub sure : (n.state ≡ IsBare → ⊥) → beside.doubt ≡ None
    pub unlinked : (n.state ≡ IsBare → ⊥) → beside.links ≡ []
    pub stands : GroupSiteStands n s.site
    pub cut : cut_value s.cut ≡ noted_cut n.group
    pub lies : (x : CutWrite) → s.cut ≡ Some x → CutLies n x
    pub bare : n.state ≡ IsBare → n ≡ bare_with n
    pub few : n.disks ≤ MOST_DISKS
    pub some : LEAST_BLOCKS ≤ n.blocks
    pub maps : (n.state ≡ IsBare → ⊥) → (note : GroupNode) → n.group ≡ Some note → StandMaps note s.site
    -- the configuration that it notes names no replicated volume group
    pub plain : (n.state ≡ IsBare → ⊥) → (note : GroupNode) → n.group ≡ Some note → rvg_noted note ≡ None

  -- disks by themselves as an import sees them
  abbrev pub idle_ready : Idle R g → Meaning
  idle_ready idle = shade_meaning g.meaning (ready_of idle.agreed idle.rack)

  -- so it is of disks that crashed, unless their group lacked a commit
  abbrev pub FellSettles : Node → Idle R g → Type 0
  FellSettles n idle = (r : Rested) → idle.rested ≡ Some r → RvgSettles (units_of n) (idle_ready idle)

  -- The disks of a site whose group has a replicated volume group, whose volumes crashes leave block by block. What the site notes of its group is said apart.
  abbrev pub OverStands : KeptBeside → Node → OverSite R g → Type 0
  OverStands beside n (OriginSite founded) = AboveStands beside n (Origin founded.core) (laid_blockwise founded.laid)
  OverStands beside n (ReceiverSite founded) = AboveStands beside n (Receiver founded.core founded.waiting) (laid_blockwise founded.laid)
  OverStands beside n (GroupAway idle) = (n.state ≡ IsAway) × RestsOver (λ c. AwayLeft c beside n (idle_ready idle)) beside n (idle_ready idle)
  OverStands beside n (GroupFell idle) = (n.state ≡ IsDown) × (n.fuse ≡ NoFuse) × RestsOver (λ c. FellOver c beside n (idle_ready idle)) beside n (idle_ready idle) × FellSettles n idle
  OverStands beside n NoGroup = ⊥

  -- the disks of a site, with what the world has of it beside its node
  abbrev pub SiteStands : KeptBeside → Node → DiskSet R g → Type 0
  SiteStands beside n (Bare rack) = IsCleanAt n (g.meaning rack)
  SiteStands beside n (Spoiled rack) = IsBareAt n (g.meaning rack)
  SiteStands beside n (Up rvg) = IsUngrouped beside n × IsUpAt beside n rvg.core (g.meaning rvg.shelf)
  SiteStands beside n (Receives s) = IsUngrouped beside n × IsReceiverAt beside n s.rvg.core s.waiting (g.meaning s.rvg.shelf)
  SiteStands beside n (Down rack) = IsDownAt beside n (g.meaning rack)
  SiteStands beside n (OfGroup s) = IsGroupSet beside n s
  SiteStands beside n (Over s) = IsOverSite beside n × OverStands beside n s.site
  SiteStands beside n Gone = ⊥

  -- the same of a site without links, as each is that the lines which are built make
  abbrev pub StandsAlone : Node → DiskSet R g → Type 0
  StandsAlone n e = SiteStands site_alone n e

  -- a site whose group is up without the room in which updates wait is an origin
  abbrev pub RoleIs : Node → DiskSet R g → Type 0
  RoleIs n (Bare rack) = Unit {0}
  RoleIs n (Spoiled rack) = Unit {0}
  RoleIs n (Up rvg) = is_origin n.role ≡ true
  RoleIs n (Receives s) = Unit {0}
  RoleIs n (Down rack) = Unit {0}
  RoleIs n (OfGroup s) = Unit {0}
  RoleIs n (Over s) = RoleBy n (above_in s)
  RoleIs n Gone = Unit {0}

  -- a call that leaves the group of a site with the room in which updates wait, or without it
  pub record KeepsRole (old new : DiskSet R g) : Type 0 where
    pub kept : (n : Node) → RoleIs n old → RoleIs n new

  abbrev pub CutOver : KeptBeside → Node → OverSite R g → Type 0
  CutOver beside n (OriginSite founded) = IsHeldAt beside n (laid_blockwise founded.laid)
  CutOver beside n (ReceiverSite founded) = IsHeldAt beside n (laid_blockwise founded.laid)
  CutOver beside n other = ⊥

  -- a group whose shelf is down: a crash leaves the site's writes on its disks
  abbrev pub CutAt : KeptBeside → Node → DiskSet R g → Type 0
  CutAt beside n (Bare rack) = ⊥
  CutAt beside n (Spoiled rack) = ⊥
  CutAt beside n (Up rvg) = IsUngrouped beside n × IsHeldAt beside n (g.meaning rvg.shelf)
  CutAt beside n (Receives s) = IsUngrouped beside n × IsHeldAt beside n (g.meaning s.rvg.shelf)
  CutAt beside n (Down rack) = ⊥
  CutAt beside n (OfGroup s) = ⊥
  CutAt beside n (Over s) = IsOverSite beside n × CutOver beside n s.site
  CutAt beside n Gone = ⊥

  -- the disk set of a number that no site has
  abbrev pub IsUnused : DiskSet R g → Type 0
  IsUnused (Bare rack) = IsUnfitted (g.meaning rack)
  IsUnused (Spoiled rack) = ⊥
  IsUnused (Up rvg) = ⊥
  IsUnused (Receives s) = ⊥
  IsUnused (Down rack) = ⊥
  IsUnused (OfGroup s) = ⊥
  IsUnused (Over s) = ⊥
  IsUnused Gone = ⊥

  -- Whether the contents of its disks are told: those of a group by its rack, whatever the site notes of them; those below a replicated volume group only where it is
  -- known what they hold.
  abbrev pub IsToldAt : DiskSet R g → Type 0
  IsToldAt (Bare rack) = IsTrue (g.meaning rack).tells
  IsToldAt (Spoiled rack) = IsTrue (g.meaning rack).tells
  IsToldAt (Up rvg) = IsTrue (g.meaning rvg.shelf).tells
  IsToldAt (Receives s) = IsTrue (g.meaning s.rvg.shelf).tells
  IsToldAt (Down rack) = IsTrue (g.meaning rack).tells
  IsToldAt (OfGroup s) = IsTrue (site_below s.site).tells
  IsToldAt (Over s) = IsTrue (site_disks (site_in s)).tells
  IsToldAt Gone = ⊥

  -- Whether its rack tells its contents, whatever is known of them: this is what calls keep, as an import may find disks of which it is not known what they hold.
  abbrev pub IsRackTold : DiskSet R g → Type 0
  IsRackTold (Over s) = IsTrue (site_below (site_in s)).tells
  IsRackTold other = IsToldAt other

  -- the count of the faults of a disk
  abbrev pub faults_at : DiskSet R g → ℕ → ℕ
  faults_at (Bare rack) d = (g.meaning rack).disk_faults d
  faults_at (Spoiled rack) d = (g.meaning rack).disk_faults d
  faults_at (Up rvg) d = (g.meaning rvg.shelf).disk_faults d
  faults_at (Receives s) d = (g.meaning s.rvg.shelf).disk_faults d
  faults_at (Down rack) d = (g.meaning rack).disk_faults d
  faults_at (OfGroup s) d = (site_disks s.site).disk_faults d
  faults_at (Over s) d = (site_disks (site_in s)).disk_faults d
  faults_at Gone d = 0

  -- all writes up to this number are in the volumes of its group, and none behind it
  abbrev pub InVolumes : ℕ → DiskSet R g → Type 0
  InVolumes number (Bare rack) = ⊥
  InVolumes number (Spoiled rack) = ⊥
  InVolumes number (Up rvg) = rvg.core.applied ≡ number
  InVolumes number (Receives s) = s.rvg.core.applied ≡ number
  InVolumes number (Down rack) = ⊥
  InVolumes number (OfGroup s) = ⊥
  InVolumes number (Over s) = AppliedIn number (above_in s)
  InVolumes number Gone = ⊥
