-- How the group of a site that crashed comes up again, and what it says of the write that the fuse cut.
use Rattle.std.specs.Prelude.{◌≡◌, ℕ, ◌≤◌, IsFalse, length, Option, Some, None, Result, Ok, Err}
use Rattle.vx_model.specs.Content.{Write}
use Rattle.vx_model.specs.declared.errors.Stop.{Stop}
use Rattle.vx_model.specs.declared.errors.Stop.TheVariants.{No as Refused}
use Rattle.vx_model.specs.declared.no.No.{No}
use Rattle.vx_model.specs.declared.no.No.TheVariants.{Device}
use Rattle.vx_disk.specs.Counts.{Rose}
use Rattle.vx_disk.specs.Disks.{Disks}
use Rattle.vx_disk.specs.Shelf.{Meaning}
use Rattle.vx_disk.specs.declared.shelf.Shelf.{Ghosts}
use Rattle.vx_history.specs.Groups.{GroupNode}
use Rattle.vx_history.specs.Steps.{crashed, worked}
use Rattle.vx_history.specs.World.{Node}
use Rattle.vx_grouped.specs.GroupSites.{DownNoted, FitsPlain, UpNoted, site_disks, with_note}
use Rattle.vx_grouped.specs.Keepings.{KeepsPlain}
use Rattle.vx_grouped.specs.SiteReturns.{FailsFused}
use Rattle.vx_watched.specs.Since.{is_rack}
use Rattle.vx_grouped.specs.SiteReturns.{SiteRecovers}
use Rattle.vx_grouped.specs.declared.group_site.GroupSite.{GroupSite}
use Rattle.vx_diskset.specs.GroupCalls.{AtFound, AtPlain, cut_behind, cut_in}
use Rattle.vx_diskset.specs.GroupSets.{cut_value}
use Rattle.vx_diskset.specs.declared.disk_set.DiskSet.{DiskSet}
use Rattle.vx_diskset.specs.declared.disk_set.DiskSet.TheVariants.{OfGroup, Over}
use Rattle.vx_diskset.specs.declared.group_set.CutWrite.{CutWrite}
use Rattle.vx_grouped.specs.SiteMaps.{CameMapped}
use Rattle.vx_diskset.specs.declared.group_set.KeptWrite.{KeptWrite}

-- the note of a site on which this write is still cut
abbrev pub still_cut : Option CutWrite → GroupNode → GroupNode
still_cut cut note = record note { cut = cut_value cut }

-- What is said of the write that was cut: of each of its blocks whether it has what was to be written. Nothing, where its volume is not there any more.
abbrev pub KeptIs : GroupNode → Meaning → Option CutWrite → Option KeptWrite → Type 0
KeptIs note m None kept = kept ≡ None
KeptIs note m (Some x) None = FitsPlain note x.volume x.block (length x.bytes) → ⊥
KeptIs note m (Some x) (Some k) = (k.write ≡ x) × KeepsPlain note m x.volume x.block x.bytes k.bits

-- a write was cut, and lies in its volume
abbrev pub CutFits : GroupNode → Option CutWrite → Type 0
CutFits note None = ⊥
CutFits note (Some x) = FitsPlain note x.volume x.block (length x.bytes)

-- Disks behind an import, and what was read and crashed of them then: the same are made to fail. While they are up, a fuse that is set was set before, and
-- has no more calls left.
pub record RisesSince (old new : Meaning) : Type 0 where
  pub counts : (d : ℕ) → old.disk_faults d ≤ new.disk_faults d
  pub rack : is_rack new.disks ≡ is_rack old.disks
  pub failing : (o n : Disks) → old.disks ≡ Some o → new.disks ≡ Some n → (u : ℕ) → n.failing u ≡ o.failing u
  pub passes : (o n : Disks) → old.disks ≡ Some o → new.disks ≡ Some n → IsFalse new.down → FailsFused o n

module _ {R : Type 0} {g : Ghosts R} where
  -- what was read of the write that was cut, at a group that is up
  abbrev pub LooksKept : Node → GroupNode → Option CutWrite → GroupSite R g → GroupSite R g → Result (Option KeptWrite) No → Type 0
  LooksKept n note cut old new (Ok kept) = UpNoted (worked n) note new × KeptIs note (site_disks old) cut kept
  LooksKept n note cut old new (Err (Device disk)) = UpNoted (worked n) note new × CutFits note cut × Rose ((site_disks old).disk_faults disk) ((site_disks new).disk_faults disk)
  LooksKept n note cut old new (Err other) = ⊥

  -- A group that came up says what is kept of the write that was cut, which is cut no longer. Where a disk failed in that, it is down again, and the write
  -- is cut still.
  abbrev pub RisesWith : Node → GroupNode → Option CutWrite → GroupSite R g → DiskSet R g → Result (Option KeptWrite) Stop → Type 0
  RisesWith n note cut old new (Ok kept) = AtPlain (UpNoted (worked n) note) new × (cut_in new ≡ None) × KeptIs note (site_disks old) cut kept
  RisesWith n note cut old new (Err (Refused (Device disk))) =
      AtPlain (DownNoted (crashed (with_note (still_cut cut note) n) 0) (still_cut cut note)) new × (cut_in new ≡ cut_value cut) × CutFits note cut
      × AtPlain (λ e. Rose ((site_disks old).disk_faults disk) ((site_disks e).disk_faults disk)) new
  RisesWith n note cut old new (Err other) = ⊥

  -- a recovery that was refused in its import leaves the write that was cut
  pub record StaysBack (n : Node) (note : GroupNode) (old : GroupSite R g) (cut : Option CutWrite) (new : DiskSet R g) (stop : Stop) : Type 0 where
    pub refused : AtFound (λ e. SiteRecovers n note old e (Err stop)) new
    pub cut_stays : cut_in new ≡ cut_value cut

  -- A recovery of the group of a site that crashed, as far as its import: the write that was cut is handed out.
  abbrev pub RaisesAt : Node → GroupNode → GroupSite R g → Option CutWrite → DiskSet R g → Result (Option CutWrite) Stop → Type 0
  RaisesAt n note old was new (Ok cut) = AtFound (λ e. SiteRecovers n note old e (Ok tt)) new × (cut_in new ≡ None) × (cut ≡ cut_behind new was)
  RaisesAt n note old was new (Err stop) = StaysBack n note old was new stop

  -- of a site with a replicated volume group more is said elsewhere
  abbrev pub RaisesGroup : Node → GroupNode → DiskSet R g → DiskSet R g → Result (Option CutWrite) Stop → Type 0
  RaisesGroup n note (OfGroup s) new r = RaisesAt n note s.site s.cut new r
  RaisesGroup n note (Over s) new r = Unit {0}
  RaisesGroup n note old new r = ⊥

  -- so far what is noted of the maps goes on
  abbrev pub RaisesMapsAt : GroupSite R g → DiskSet R g → Result (Option CutWrite) Stop → Type 0
  RaisesMapsAt old new (Ok cut) = AtFound (λ e. CameMapped old e (Ok tt)) new
  RaisesMapsAt old new (Err stop) = AtFound (λ e. CameMapped old e (Err stop)) new

  abbrev pub RaisesMaps : DiskSet R g → DiskSet R g → Result (Option CutWrite) Stop → Type 0
  RaisesMaps (OfGroup s) new r = RaisesMapsAt s.site new r
  RaisesMaps (Over s) new r = Unit {0}
  RaisesMaps old new r = ⊥

  -- and what is read then of that write; of a site with a replicated volume group more is said elsewhere
  abbrev pub LooksAt : Node → GroupNode → Option CutWrite → DiskSet R g → DiskSet R g → Result (Option KeptWrite) Stop → Type 0
  LooksAt n note cut (OfGroup s) new r = RisesWith n note cut s.site new r
  LooksAt n note cut (Over s) new r = Unit {0}
  LooksAt n note cut old new r = ⊥

  -- the write that is cut behind an import: none, where it came up
  abbrev pub cut_past : {T : Type 0} → Result T Stop → DiskSet R g → Option Write
  cut_past (Ok done) old = None
  cut_past (Err stop) old = cut_in old
