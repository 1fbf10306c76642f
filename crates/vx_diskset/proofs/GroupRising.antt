-- A group that comes up again, and what is kept of the write that the fuse cut.
use Rattle.std.proofs.Common.{◌≡◌, ℕ, Bool, true, false, List, ap, length, refl, subst, sym, not}
use Rattle.std.specs.Prelude.{Option, Some, None, Result, Ok, Err}
use Rattle.vx_model.specs.declared.errors.Stop.{Stop}
use Rattle.vx_model.specs.declared.errors.Stop.TheVariants.{No as Refused}
use Rattle.vx_model.specs.declared.no.No.{No}
use Rattle.vx_model.specs.declared.no.No.TheVariants.{Device}
use Rattle.vx_disk.specs.Counts.{Rose}
use Rattle.vx_disk.specs.Racks.{IsRack}
use Rattle.vx_disk.specs.Shelf.{Meaning}
use Rattle.vx_disk.specs.declared.shelf.Shelf.{Ghosts}
use Rattle.vx_history.specs.Groups.{GroupNode}
use Rattle.vx_history.specs.Steps.{crashed, worked}
use Rattle.vx_history.specs.World.{Node}
use Rattle.vx_grouped.specs.GroupSites.{DownNoted, FitsPlain, UpNoted, site_disks, with_note, dimmed_site, site_below}
use Rattle.vx_grouped.specs.SiteEnds.{MayCrashSite, stops_down}
use Rattle.vx_grouped.specs.SiteKeeps.{PlainKept}
use Rattle.vx_grouped.specs.SiteReturns.{ImportRefused, SiteImports, as_imported, returned_with, is_dimmed, stops_early}
use Rattle.vx_untold.specs.Shades.{rack_of, shade_meaning}
use Rattle.vx_diskset.specs.Asked.{FuseGoesOn, SameFailing}
use Rattle.vx_diskset.specs.DiskSets.{Later}
use Rattle.vx_grouped.specs.declared.group_site.GroupSite.{GroupSite}
use Rattle.vx_grouped.specs.declared.group_site.GroupSite.TheVariants.{Up, Deported, Down, Marked, Gone}
use Rattle.vx_grouped.proofs.SettleLemmas.{fuse_burned}
use Rattle.vx_grouped.proofs.SiteLemmas.{up_burned}
use Rattle.vx_diskset.specs.GroupCalls.{AtSite}
use Rattle.vx_diskset.specs.Recovers.{LooksKept, RisesSince, RisesWith, still_cut}
use Rattle.vx_diskset.specs.declared.disk_set.DiskSet.{DiskSet}
use Rattle.vx_diskset.specs.declared.disk_set.DiskSet.TheVariants.{OfGroup}
use Rattle.vx_diskset.specs.declared.group_set.CutWrite.{CutWrite}
use Rattle.vx_diskset.specs.declared.group_set.GroupSet.{GroupSet}
use Rattle.vx_diskset.specs.declared.group_set.KeptWrite.{KeptWrite}
use Rattle.vx_diskset.proofs.GroupCalling.{IsSettled, OnGroup, away_settled, down_settled, failing_risen, fuse_risen, has_group, later_risen, on_group, rises_fell, up_settled, told_before, told_behind, at_map, at_both}
use Rattle.vx_grouped.specs.GroupNotes.{note_dimmed}
use Rattle.vx_watched.specs.Traces.{TellsLess}

module _ {R : Type 0} {g : Ghosts R} where
  -- ---- what is read at a group that is up

  pub up_again : (n : Node) (note : GroupNode) (s : GroupSite R g) → UpNoted n note s → UpNoted (worked n) note s
  up_again n note (Up group) it =
      let m = shade_meaning g.meaning group.shelf in
      up_burned n note (g.meaning (rack_of group.shelf)).tells group.core m it.noted it.lit it.spells (fuse_burned n.fuse m m (λ none. none) it.fuse) it.at
  up_again n note (Deported idle) it = absurd it
  up_again n note (Down idle) it = absurd it
  up_again n note (Marked rack) it = absurd it
  up_again n note Gone it = absurd it

  pub looked_none : (n : Node) (note : GroupNode) (s : GroupSite R g) → UpNoted n note s → LooksKept n note None s s (Ok None)
  looked_none n note s it = (up_again n note s it, refl)

  -- a volume that is not there any more
  pub looked_lost : (n : Node) (note : GroupNode) (x : CutWrite) (s : GroupSite R g) → UpNoted n note s → (FitsPlain note x.volume x.block (length x.bytes) → ⊥) → LooksKept n note (Some x) s s (Ok None)
  looked_lost n note x s it lost = (up_again n note s it, lost)

  module _ (n : Node) (note : GroupNode) (x : CutWrite) (old new : GroupSite R g) (bytes : List ℕ) (same : bytes ≡ x.bytes) where
    pub looked_bits : (bits : List Bool) → PlainKept n note x.volume x.block bytes old new (Ok bits) → LooksKept n note (Some x) old new (Ok (Some (record { write = x; bits = bits })))
    looked_bits bits it = subst (λ (b : List ℕ). PlainKept n note x.volume x.block b old new (Ok bits) → LooksKept n note (Some x) old new (Ok (Some (record { write = x; bits = bits })))) (sym same) (λ was. (was.1, (refl, was.0))) it

    pub looked_unread : (no : No) → FitsPlain note x.volume x.block (length x.bytes) → PlainKept n note x.volume x.block bytes old new (Err no) → LooksKept n note (Some x) old new (Err no)
    looked_unread (Device disk) fits it = (it.0, fits, it.1)
    looked_unread other fits it = absurd it

  -- ---- the site behind it

  -- a group on which a write is cut again
  pub down_cut : (n : Node) (note : GroupNode) (cut : Option CutWrite) (s : GroupSite R g) → DownNoted (crashed (worked n) 0) note s → DownNoted (crashed (with_note (still_cut cut note) n) 0) (still_cut cut note) s
  down_cut n note cut (Up group) it = absurd it
  down_cut n note cut (Deported idle) it = absurd it
  down_cut n note cut (Down idle) it = record {
    lit = it.lit;
    agrees = it.agrees;
    noted = record { is = refl; none = record { role = it.noted.none.role; volumes = it.noted.none.volumes; log = it.noted.none.log; safe = it.noted.none.safe; running = it.noted.none.running } };
    unfused = it.unfused;
    stopped = it.stopped;
    last = it.last;
    spells = it.spells;
    away = record {
      state = it.away.state;
      config = it.away.config;
      found = record { each = it.away.found.each };
      runs = it.away.runs;
      some = record { large = it.away.some.large; some = it.away.some.some };
      lies = record { units = it.away.lies.units; size = it.away.lies.size; can = it.away.lies.can; sizes = it.away.lies.sizes; finds = it.away.lies.finds; volumes = it.away.lies.volumes; has = it.away.lies.has };
    };
  }
  down_cut n note cut (Marked rack) it = absurd it
  down_cut n note cut Gone it = absurd it

  -- a crash raises no count
  pub crash_counts : (pick : ℕ) (mid new : GroupSite R g) → MayCrashSite pick mid new → (d : ℕ) → (site_disks new).disk_faults d ≡ (site_disks mid).disk_faults d
  crash_counts pick (Up group) new it d = it.0.counts.disk_faults d
  crash_counts pick (Deported idle) new it d = ap (λ (s : GroupSite R g). (site_disks s).disk_faults d) it
  crash_counts pick (Down idle) new it d = ap (λ (s : GroupSite R g). (site_disks s).disk_faults d) it
  crash_counts pick (Marked rack) new it d = ap (λ (s : GroupSite R g). (site_disks s).disk_faults d) it
  crash_counts pick Gone new it d = ap (λ (s : GroupSite R g). (site_disks s).disk_faults d) it

  pub rises_crash : (m : Meaning) (pick : ℕ) (mid new : GroupSite R g) → RisesSince m (site_disks mid) → MayCrashSite pick mid new → RisesSince m (site_disks new)
  rises_crash m pick (Up group) new since it = rises_fell m (shade_meaning g.meaning group.shelf) (site_disks new) pick since it.0 it.1
  rises_crash m pick (Deported idle) new since it = subst (λ (s : GroupSite R g). RisesSince m (site_disks s)) (sym it) since
  rises_crash m pick (Down idle) new since it = subst (λ (s : GroupSite R g). RisesSince m (site_disks s)) (sym it) since
  rises_crash m pick (Marked rack) new since it = subst (λ (s : GroupSite R g). RisesSince m (site_disks s)) (sym it) since
  rises_crash m pick Gone new since it = subst (λ (s : GroupSite R g). RisesSince m (site_disks s)) (sym it) since

  pub rises_kept : (n : Node) (note : GroupNode) (cut : Option CutWrite) (old mid : GroupSite R g) (kept : Option KeptWrite) → LooksKept n note cut old mid (Ok kept)
      → RisesWith n note cut old (let s : GroupSet R g = record { site = mid; cut = None } in OfGroup s) (Ok kept)
  rises_kept n note cut old mid kept it = (it.0, refl, it.1)

  pub rises_unread : (n : Node) (note : GroupNode) (cut : Option CutWrite) (old mid new : GroupSite R g) (pick : ℕ) (no : No) → LooksKept n note cut old mid (Err no)
      → ((k : Node) (next : GroupNode) → UpNoted k next mid → DownNoted (crashed k 0) next new) → MayCrashSite pick mid new
      → RisesWith n note cut old (let s : GroupSet R g = record { site = new; cut = cut } in OfGroup s) (Err (Refused no))
  rises_unread n note cut old mid new pick (Device disk) it crash fell = (
    down_cut n note cut new (crash (worked n) note it.0),
    refl,
    it.1,
    subst (λ (k : ℕ). Rose ((site_disks old).disk_faults disk) k) (sym (crash_counts pick mid new fell disk)) it.2,
  )
  rises_unread n note cut old mid new pick other it crash fell = absurd it

  -- ---- the disks of the site behind it

  module _ (old new : DiskSet R g) (o : GroupSet R g) (is : old ≡ OfGroup o) (since : AtSite (λ e. RisesSince (site_disks o.site) (site_disks e)) new) (less : AtSite (λ e. TellsLess (site_below o.site) (site_below e)) new) where
    now : OnGroup new (λ e. RisesSince (site_disks o.site) (site_disks e))
    now = on_group (λ e. RisesSince (site_disks o.site) (site_disks e)) new since

    pub rise_failing : SameFailing old new
    rise_failing = failing_risen old new (site_disks o.site) (site_disks now.site) (has_group old o is) now.disks now.has

    pub rise_later : Later old new
    rise_later =
        later_risen old new (site_disks o.site) (site_disks now.site) (has_group old o is) now.disks now.has (λ told. told_before old o is (told_behind (site_below o.site) new less told))

    pub rise_fuse : AtSite IsSettled new → FuseGoesOn old new
    rise_fuse at =
        let on = on_group (λ e. RisesSince (site_disks o.site) (site_disks e) × IsSettled e) new (at_both (λ e. RisesSince (site_disks o.site) (site_disks e)) IsSettled new since at) in
        fuse_risen old new (site_disks o.site) (site_disks on.site) (has_group old o is) on.disks on.has.0 on.has.1.rack on.has.1.at

  module _ (rackful : (r : R) → IsRack (g.meaning r)) where
    at_settled : (P : GroupSite R g → Type 0) (new : DiskSet R g) → ((s : GroupSite R g) → P s → IsSettled s) → AtSite P new → AtSite IsSettled new
    at_settled P new each it = at_map P IsSettled each new it

    refused_settled : (off : Bool) (n : Node) (note : GroupNode) (m : Meaning) (stop : Stop) (s : GroupSite R g) → ImportRefused off n note m s stop → IsSettled s
    refused_settled true n note m stop s it = down_settled rackful (crashed (returned_with (note_dimmed true note) n) 0) (note_dimmed true note) s it.0
    refused_settled false n note m stop s it = away_settled rackful (worked (dimmed_site (not (stops_early stop)) note n)) (note_dimmed (not (stops_early stop)) note) s it.0

    pub imported_settled : (n : Node) (note : GroupNode) (o s : GroupSite R g) (r : Result (Unit {0}) Stop) → SiteImports n note o s r → IsSettled s
    imported_settled n note o s (Ok done) it = up_settled rackful (returned_with it.0.0 n) it.0.0 s it.0.2
    imported_settled n note o s (Err stop) it = refused_settled (stops_down stop) (dimmed_site (is_dimmed o) note n) (note_dimmed (is_dimmed o) note) (as_imported o) stop s it

    pub import_settled : (n : Node) (note : GroupNode) (o : GroupSite R g) (new : DiskSet R g) (r : Result (Unit {0}) Stop) → AtSite (λ e. SiteImports n note o e r) new → AtSite IsSettled new
    import_settled n note o new r it = at_settled (λ e. SiteImports n note o e r) new (λ s at. imported_settled n note o s r at) it
