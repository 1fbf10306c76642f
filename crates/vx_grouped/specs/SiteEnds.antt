-- How calls leave the disks of a site with a group.
use Rattle.std.specs.Prelude.{◌≡◌, ◌-◌, ◌<◌, ℕ, true, false, List, Bool, Option, Some, None, Result, Ok, Err}
use Rattle.vx_model.specs.Content.{Write}
use Rattle.vx_model.specs.declared.errors.Stop.{Stop}
use Rattle.vx_model.specs.declared.errors.Stop.TheVariants.{No as Refused, OutOfMemory}
use Rattle.vx_model.specs.declared.no.No.{No}
use Rattle.vx_model.specs.declared.no.Counted.TheVariants.{Number as Numbers}
use Rattle.vx_model.specs.declared.no.No.TheVariants.{Device, Down as IsOff, Limit}
use Rattle.vx_disk.specs.Causes.{OnDisks}
use Rattle.vx_disk.specs.Counts.{Rose}
use Rattle.vx_disk.specs.Disks.{Crashed}
use Rattle.vx_disk.specs.Racks.{Stopped}
use Rattle.vx_disk.specs.Shelf.{Meaning}
use Rattle.vx_disk.specs.declared.shelf.Shelf.{Ghosts}
use Rattle.vx_history.specs.Groups.{GroupNode, NoteSettles, NoteUnsettles, note_cut, note_doubt, note_write}
use Rattle.vx_history.specs.Steps.{crashed, worked}
use Rattle.vx_history.specs.Stops.{IsFused}
use Rattle.vx_history.specs.World.{Node}
use Rattle.vx_config.specs.Table.{greatest}
use Rattle.vx_config.specs.declared.config.Config.{Config}
use Rattle.vx_volume.specs.Plexes.{active}
use Rattle.vx_group.specs.Attaches.{att_refusal}
use Rattle.vx_group.specs.Dets.{det_refusal, margin}
use Rattle.vx_untold.specs.Shades.{shade_meaning}
use Rattle.vx_watched.specs.Traces.{TellsLess}
use Rattle.vx_kept.specs.Commits.{IsCommitted}
use Rattle.vx_grouped.specs.Copied.{CopiesRegions}
use Rattle.vx_grouped.specs.ConfigMoves.{AttCuts, AttDone, AttFails, CleansPlexes, DetCuts, DetDone, DetFails, EachPlexRose, LosesSome}
use Rattle.vx_grouped.specs.GroupNotes.{NotesConfig}
use Rattle.vx_grouped.specs.GroupSites.{AwayNoted, CutNoted, DownNoted, GroupSiteStands, UpNoted, deported_with, laid_disks, site_below, site_config, site_disks, with_note}
use Rattle.vx_grouped.specs.Plain.{ReadsPlain}
use Rattle.vx_grouped.specs.declared.group_site.GroupSite.{GroupSite}
use Rattle.vx_grouped.specs.declared.group_site.GroupSite.TheVariants.{Up, Deported}

-- whether it says that the disks are down
abbrev pub is_off : No → Bool
is_off IsOff = true
is_off other = false

abbrev pub stops_down : Stop → Bool
stops_down (Refused IsOff) = true
stops_down other = false

module _ {R : Type 0} {g : Ghosts R} where
  -- each image has the configuration that is noted
  abbrev pub NewestCommitted : GroupNode → GroupSite R g → Type 0
  NewestCommitted note (Deported idle) = (c : Config) × NotesConfig note c × IsCommitted c (shade_meaning g.meaning idle.rack)
  NewestCommitted note other = ⊥

  -- whatever the site is noted as, it still is
  pub record StaysAlike (old new : GroupSite R g) : Type 0 where
    pub up : (n : Node) (note : GroupNode) → UpNoted n note old → UpNoted n note new
    pub cut : (n : Node) (note : GroupNode) → CutNoted n note old → CutNoted n note new
    pub stands : (n : Node) → GroupSiteStands n old → GroupSiteStands n new

  -- no count of a disk changed, and the rack tells no more than it did
  pub record CountsAlike (old new : GroupSite R g) : Type 0 where
    pub counts : (d : ℕ) → (site_disks new).disk_faults d ≡ (site_disks old).disk_faults d
    pub told : TellsLess (site_below old) (site_below new)

  -- the disks crashed with this pick, or nothing was done to them
  abbrev pub MayCrashSite : ℕ → GroupSite R g → GroupSite R g → Type 0
  MayCrashSite pick (Up group) new = Stopped (shade_meaning g.meaning group.shelf) (site_disks new) × OnDisks (shade_meaning g.meaning group.shelf).disks (site_disks new).disks (Crashed (shade_meaning g.meaning group.shelf).size pick)
  MayCrashSite pick old new = new ≡ old

  -- the group, where it is up, has this configuration
  abbrev pub HasNow : Config → GroupSite R g → Type 0
  HasNow c (Up group) = group.core.inner.config ≡ c
  HasNow c other = Unit {0}

  -- the configuration that is noted behind a call comes of the one before by such a change
  pub record ConfigGoes (Change : Config → Config → Type 0) (note next : GroupNode) (old new : GroupSite R g) : Type 0 where
    pub was : Config
    pub now : Config
    pub had : site_config old ≡ Some was
    pub has : HasNow now new
    pub noted : NotesConfig note was
    pub noted_now : NotesConfig next now
    pub change : Change was now

  -- A write to a volume: done, its blocks have what was written. Else a disk failed, and each of them has that or what it had; or the fuse ran
  -- out, and so it is behind the crash. No other refusal comes.
  abbrev pub PlainWrote : Node → GroupNode → Write → GroupSite R g → GroupSite R g → Result (Unit {0}) No → Type 0
  PlainWrote n note x old new (Ok done) =
      (next : GroupNode) × NoteSettles note next × UpNoted (with_note (note_write x next) n) (note_write x next) new × ConfigGoes (LosesSome (site_disks old) (site_disks new)) note next old new
  PlainWrote n note x old new (Err (Device disk)) =
      (next : GroupNode) × NoteUnsettles false note next × UpNoted (with_note (note_doubt x next) n) (note_doubt x next) new × Rose ((site_disks old).disk_faults disk) ((site_disks new).disk_faults disk)
      × ConfigGoes (LosesSome (site_disks old) (site_disks new)) note next old new
  PlainWrote n note x old new (Err IsOff) =
      (next : GroupNode) × NoteUnsettles false note next × DownNoted (crashed (with_note (note_cut x next) n) 0) (note_cut x next) new × IsFused n.fuse
      × ConfigGoes (LosesSome (site_disks old) (site_disks new)) note next old new
  PlainWrote n note x old new (Err other) = ⊥

  -- a call on a disk failed of each plex of the volume that takes part
  abbrev pub SiteGivesUp : ℕ → GroupSite R g → Meaning → Type 0
  SiteGivesUp vol (Up group) new = EachPlexRose group.core.inner.config vol (laid_disks group) new
  SiteGivesUp vol other new = ⊥

  -- a read of a volume: of each block a value that it may have; or each plex that takes part failed
  abbrev pub PlainRead : Node → GroupNode → ℕ → ℕ → List ℕ → GroupSite R g → GroupSite R g → Result (Unit {0}) No → Type 0
  PlainRead n note vol block bytes old new (Ok done) = ReadsPlain note (site_disks old) vol block bytes × UpNoted (worked n) note new
  PlainRead n note vol block bytes old new (Err (Device disk)) =
      UpNoted (worked n) note new × Rose ((site_disks old).disk_faults disk) ((site_disks new).disk_faults disk) × SiteGivesUp vol old (site_disks new)
  PlainRead n note vol block bytes old new (Err other) = ⊥

  -- A call that writes to no volume: each has what it had. Done, failed, or cut by the fuse, its configuration changes so. A refusal but 6 and 7 has this reason, and has
  -- changed nothing; and memory suffices. In some calls a second commit may have been refused behind the first one (`twice`).
  abbrev pub SiteCalled : {T : Type 0} → (twice : Bool) → (Done Fails Cuts : Config → Config → Type 0) → (No → Type 0) → Node → GroupNode → GroupSite R g → GroupSite R g → Result T Stop → Type 0
  SiteCalled twice Done Fails Cuts Lacks n note old new (Ok done) = (next : GroupNode) × NoteSettles note next × UpNoted (with_note next n) next new × ConfigGoes Done note next old new
  SiteCalled twice Done Fails Cuts Lacks n note old new (Err (Refused (Device disk))) =
      (next : GroupNode) × NoteUnsettles twice note next × UpNoted (with_note next n) next new × Rose ((site_disks old).disk_faults disk) ((site_disks new).disk_faults disk) × ConfigGoes Fails note next old new
  SiteCalled twice Done Fails Cuts Lacks n note old new (Err (Refused IsOff)) =
      (next : GroupNode) × NoteUnsettles twice note next × DownNoted (crashed (with_note next n) 0) next new × IsFused n.fuse × ConfigGoes Cuts note next old new
  SiteCalled twice Done Fails Cuts Lacks n note old new (Err (Refused other)) = UpNoted (worked n) note new × Lacks other
  SiteCalled twice Done Fails Cuts Lacks n note old new (Err OutOfMemory) = ⊥

  -- the first test of a detach, and of an attach, that refuses it
  abbrev pub refuses_det : GroupSite R g → ℕ → ℕ → Option No
  refuses_det (Up group) vol plex = det_refusal group.core.inner.config vol plex
  refuses_det other vol plex = None

  abbrev pub refuses_att : GroupSite R g → ℕ → ℕ → Option No
  refuses_att (Up group) vol plex = att_refusal group.core.inner.config vol plex
  refuses_att other vol plex = None

  -- whether a plex of a group that is up is ACTIVE
  abbrev pub is_plex_on : GroupSite R g → ℕ → ℕ → Bool
  is_plex_on (Up group) vol plex = active group.core.inner.config vol plex
  is_plex_on other vol plex = false

  -- as many regions as are copied to a plex of the volume
  abbrev pub RegionsOf : GroupSite R g → ℕ → ℕ → Type 0
  RegionsOf (Up group) vol count = CopiesRegions group.core.inner.config vol count
  RegionsOf other vol count = ⊥

  -- a plex that is detached: refused by the first test that holds
  abbrev pub DetCalled : Node → GroupNode → ℕ → ℕ → GroupSite R g → GroupSite R g → Result (Unit {0}) Stop → Type 0
  DetCalled n note vol plex old new r =
      SiteCalled {T = Unit {0}} false (DetDone vol plex (site_disks old) (site_disks new)) (DetFails (site_disks old) (site_disks new)) (DetCuts vol plex (site_disks old) (site_disks new)) (λ which. refuses_det old vol plex ≡ Some which) n note old new r

  -- and one that is attached
  abbrev pub AttCalled : Node → GroupNode → ℕ → ℕ → GroupSite R g → GroupSite R g → Result ℕ Stop → Type 0
  AttCalled n note vol plex old new r =
      SiteCalled {T = ℕ} true (AttDone vol plex (site_disks old) (site_disks new)) (AttFails vol plex (site_disks old) (site_disks new)) (AttCuts vol plex (site_disks old) (site_disks new)) (λ which. refuses_att old vol plex ≡ Some which) n note old new r

  -- too few serials are left for a deport
  abbrev pub LacksDeport : GroupSite R g → No → Type 0
  LacksDeport (Up group) which = (which ≡ Limit Numbers greatest) × (greatest - margin < group.core.inner.config.serial)
  LacksDeport other which = ⊥

  -- A deport: done, the disks are by themselves, each image has the configuration that is noted, and each volume has on them what it had. It is refused for
  -- want of serials, or as any call.
  abbrev pub SiteDeported : Node → GroupNode → GroupSite R g → GroupSite R g → Result (Unit {0}) Stop → Type 0
  SiteDeported n note old new (Ok done) =
      (next : GroupNode) × NoteSettles note next × AwayNoted (deported_with next n) next new × ConfigGoes (CleansPlexes (site_disks old) (site_disks new)) note next old new
      × NewestCommitted next new
  SiteDeported n note old new (Err stop) =
      SiteCalled {T = Unit {0}} false (λ c d. ⊥) (LosesSome (site_disks old) (site_disks new)) (LosesSome (site_disks old) (site_disks new)) (λ which. LacksDeport old which) n note old new (Err stop)
