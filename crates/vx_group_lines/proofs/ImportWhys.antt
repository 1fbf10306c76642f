-- Why an import of a group is refused, and what a refused import leaves.
use Rattle.vx_above.proofs.FuseGoing.{fused_goes}
use Rattle.std.proofs.Common.{[], ⊎_elim, ◌≡◌, ◌∙◌, ◌⊎◌, ℕ, Bool, true, false, ap, sym, subst, refl, inl, inr, IsTrue}
use Rattle.std.specs.Prelude.{Contains, Option, Some, None, IsFalse, not}
use Rattle.vx_model.specs.declared.errors.Stop.TheVariants.{No as StopsBy}
use Rattle.vx_model.specs.declared.no.Counted.{Counted}
use Rattle.vx_model.specs.declared.no.Counted.TheVariants.{Number as Numbers}
use Rattle.vx_model.specs.declared.no.No.{No}
use Rattle.vx_model.specs.declared.no.No.TheVariants.{Unknown, Exists, Range, Size, Role, Down as IsOff, Device, Missing, NoConfig, LastPlex, Space, LogFull, Stalled, LinkDown, Unconfirmed, Inconsistent, Behind, Replaying, Limit, Halted, Gap, Damaged, Paused, Unsettled, Format}
use Rattle.vx_disk.specs.Causes.{WithDisks}
use Rattle.vx_disk.specs.Counts.{Rose}
use Rattle.vx_disk.specs.Disks.{Disks}
use Rattle.vx_disk.specs.Shelf.{Meaning}
use Rattle.vx_disk.specs.declared.shelf.Shelf.{Ghosts}
use Rattle.vx_config.specs.Table.{greatest}
use Rattle.vx_config.specs.declared.config.Config.{Config}
use Rattle.vx_history.specs.Groups.{GroupNode}
use Rattle.vx_history.specs.Steps.{burned, crashed}
use Rattle.vx_history.specs.Stops.{IsFused}
use Rattle.vx_history.specs.World.{Node, NoFuse}
use Rattle.vx_untold.specs.Shades.{shade_meaning}
use Rattle.vx_untold.specs.declared.shade.Shade.{Shade}
use Rattle.vx_untold.specs.declared.shade.Shade.TheVariants.{Bright, Dark}
use Rattle.vx_watched.specs.Since.{is_rack}
use Rattle.vx_grouped.proofs.ReadyLemmas.{imported_same}
use Rattle.vx_grouped.specs.GroupSites.{AwayNoted, DownNoted, UpNoted, site_config, site_disks, with_note, dimmed_site}
use Rattle.vx_grouped.specs.Readies.{ready_of}
use Rattle.vx_grouped.specs.SiteEnds.{HasNow, stops_down}
use Rattle.vx_grouped.specs.SiteReturns.{ImportRefused, ImportWhy, KeepsFuse, KnownAway, SomeRose, as_imported, returned_with, stops_early}
use Rattle.vx_grouped.specs.declared.group_site.GroupSite.{GroupSite}
use Rattle.vx_grouped.specs.declared.group_site.GroupSite.TheVariants.{Up as SiteUp, Deported as SiteAway, Down as SiteDown, Marked, Gone as SiteGone}
use Rattle.vx_diskset.specs.Asked.{FusedAs, SameFailing, disks_told}
use Rattle.vx_diskset.specs.declared.disk_set.DiskSet.{DiskSet}
use Rattle.vx_diskset.specs.declared.disk_set.DiskSet.TheVariants.{OfGroup}
use Rattle.vx_diskset.specs.declared.group_set.GroupSet.{GroupSet}
use Rattle.vx_events.specs.Fails.{Fails}
use Rattle.vx_events.specs.GroupEnds.{ImportRefuses, KnowsNothing, NotFound}
use Rattle.vx_group_lines.proofs.GroupEnding.{IsQuiet}
use Rattle.vx_group_lines.proofs.GroupMarks.{none_as}
use Rattle.vx_group_lines.proofs.Returning.{SitsOn}
use Rattle.vx_grouped.specs.GroupNotes.{note_dimmed}
use Rattle.vx_group_lines.proofs.Dimming.{KnownBy, dimmed_by, early_known, knows_none, none_found, notes_refused}

-- ---- the disks as an import sees them

ready_disks : {R : Type 0} (meaning : R → Meaning) (agreed : Bool) (s : Shade R) → (shade_meaning meaning (ready_of agreed s)).disks ≡ (shade_meaning meaning s).disks
ready_disks meaning true s = refl
ready_disks meaning false (Dark r) = refl
ready_disks meaning false (Bright r) = refl

-- ---- why it was refused

-- whether such a refusal may come behind the first write
abbrev pub is_late : No → Bool
is_late why = not (stops_early (StopsBy why))

-- a reason that the world knows, of which the tests see nothing
pub record Why (told : Type 0) (dims : Bool) (s : ℕ) (note : GroupNode) (fails : Fails) (why : No) : Type 0 where
  pub quiet : IsQuiet why
  pub known : KnownBy told (is_late why) dims s note fails why
  pub refuses : ImportRefuses told s note fails why

limit_most : (s : ℕ) (note : GroupNode) (fails : Fails) (what : Counted) (most : ℕ) → what ≡ Numbers → most ≡ greatest → NotFound s note fails (Limit what most)
limit_most s note fails what most is most_is = subst (λ (w : Counted). NotFound s note fails (Limit w most)) (sym is) most_is

quiet_limit : (what : Counted) (most : ℕ) → IsQuiet (Limit what most)
quiet_limit what most = record { facts = λ f. refl; loads = λ s a b h. h }

module _ (told : Type 0) (dims : Bool) (s : ℕ) (note : GroupNode) (fails : Fails) (told_new : Type 0) (loose : dims ≡ true → note.loose ≡ true) (o e : Meaning) where
  -- every reason but a device and a fuse
  pub why_is : (why : No) → (told → (dimmed_by (is_late why) dims note).dark ≡ false → told_new) → ((k : ℕ) → why ≡ Missing k → Rose (o.disk_faults k) (e.disk_faults k) → Contains fails (s, k)) → ImportWhy told_new (KnownAway told_new note) o e (StopsBy why)
      → (SomeRose o e → fails ≡ [] → ⊥)
      → ((disk : ℕ) → why ≡ Device disk → ⊥) → (why ≡ IsOff → ⊥) → Why told dims s note fails why
  why_is (Device disk) tells names it none not_device not_off = absurd (not_device disk refl)
  why_is IsOff tells names it none not_device not_off = absurd (not_off refl)
  why_is (Missing disk) tells names it none not_device not_off = record {
    quiet = record { facts = λ f. refl; loads = λ s a b h. h };
    known = early_known told dims s note fails (Missing disk) loose (names disk refl it) (names disk refl it) (λ k. refl);
    refuses = inl (names disk refl it);
  }
  why_is NoConfig tells names it none not_device not_off = ⊎_elim
      (λ found. record {
        quiet = record { facts = λ f. refl; loads = λ s a b h. h };
        known = early_known told dims s note fails NoConfig loose found tt (λ k. refl);
        refuses = inl found;
      })
      (λ nothing. record { quiet = record { facts = λ f. refl; loads = λ s a b h. h }; known = inr (nothing, tt); refuses = inr (nothing, tt) })
      (none_found told told_new dims s note fails loose tells (λ sure. none (it sure)))
  why_is (Limit what most) tells names it none not_device not_off = record {
    quiet = quiet_limit what most;
    known = subst (λ (w : Counted). KnownBy told true dims s note fails (Limit w most)) (sym it.0) (inl (it.1, notes_refused true dims note));
    refuses = inl (limit_most s note fails what most it.0 it.1);
  }
  why_is (Damaged unit block stored computed) tells names it none not_device not_off =
      let nothing : KnowsNothing told note = knows_none told dims note loose (λ yes_ bright. it (tells yes_ bright)) in
      record { quiet = record { facts = λ f. refl; loads = λ s a b h. h }; known = inr (nothing, tt); refuses = inr (nothing, tt) }
  why_is (Format version) tells names it none not_device not_off =
      let nothing : KnowsNothing told note = knows_none told dims note loose (λ yes_ bright. it (tells yes_ bright)) in
      record { quiet = record { facts = λ f. refl; loads = λ s a b h. h }; known = inr (nothing, tt); refuses = inr (nothing, tt) }
  why_is (Unknown what) tells names it none not_device not_off = absurd it
  why_is (Exists name) tells names it none not_device not_off = absurd it
  why_is Range tells names it none not_device not_off = absurd it
  why_is Size tells names it none not_device not_off = absurd it
  why_is Role tells names it none not_device not_off = absurd it
  why_is LastPlex tells names it none not_device not_off = absurd it
  why_is (Space need have) tells names it none not_device not_off = absurd it
  why_is (LogFull link) tells names it none not_device not_off = absurd it
  why_is (Stalled link) tells names it none not_device not_off = absurd it
  why_is (LinkDown link) tells names it none not_device not_off = absurd it
  why_is (Unconfirmed number) tells names it none not_device not_off = absurd it
  why_is Inconsistent tells names it none not_device not_off = absurd it
  why_is (Behind stored head) tells names it none not_device not_off = absurd it
  why_is (Replaying link) tells names it none not_device not_off = absurd it
  why_is (Halted disk) tells names it none not_device not_off = absurd it
  why_is (Gap low need) tells names it none not_device not_off = absurd it
  why_is Paused tells names it none not_device not_off = absurd it
  why_is (Unsettled stored head) tells names it none not_device not_off = absurd it

-- the disk of a reason
abbrev pub why_disk : No → ℕ
why_disk (Device disk) = disk
why_disk (Missing disk) = disk
why_disk other = 0

-- the node of a deported site whose fuse is lost
abbrev pub unfused_with : GroupNode → Node → Node
unfused_with note n = record n { group = Some note; fuse = NoFuse }

pub failing_rack : (o n : Option Disks) → (P : Disks → Disks → Type 0) → WithDisks o n P → is_rack n ≡ is_rack o
failing_rack None None P it = refl
failing_rack None (Some n) P it = absurd it
failing_rack (Some o) None P it = absurd it
failing_rack (Some o) (Some n) P it = refl

module _ {R : Type 0} {g : Ghosts R} where
  pub imported_disks : (e : GroupSite R g) → (as_imported e).disks ≡ (site_disks e).disks
  imported_disks (SiteUp group) = refl
  imported_disks (SiteAway idle) = ready_disks g.meaning idle.agreed idle.rack
  imported_disks (SiteDown idle) = ready_disks g.meaning idle.agreed idle.rack
  imported_disks (Marked rack) = refl
  imported_disks SiteGone = refl

  pub away_unfused : (n : Node) (note : GroupNode) (e : GroupSite R g) → AwayNoted (with_note note n) note e → IsFalse (site_disks e).armed → AwayNoted (unfused_with note n) note e
  away_unfused n note (SiteUp group) it unarmed = absurd it
  away_unfused n note (SiteAway idle) it unarmed = record {
    noted = record { is = refl; none = none_as (with_note note n) (unfused_with note n) refl refl refl refl refl it.noted.none };
    lit = it.lit;
    agrees = it.agrees;
    up = it.up;
    fuse = unarmed;
    last = it.last;
    newest = it.newest;
    spells = it.spells;
    away = record {
      state = it.away.state;
      config = it.away.config;
      frames = it.away.frames;
      found = it.away.found;
      some = record { large = it.away.some.large; some = it.away.some.some };
      lies = record {
        units = it.away.lies.units;
        size = it.away.lies.size;
        can = it.away.lies.can;
        sizes = it.away.lies.sizes;
        finds = it.away.lies.finds;
        volumes = it.away.lies.volumes;
        has = it.away.lies.has;
      };
    };
  }
  away_unfused n note (SiteDown idle) it unarmed = absurd it
  away_unfused n note (Marked rack) it unarmed = absurd it
  away_unfused n note SiteGone it unarmed = absurd it

  pub sits_away : (n : Node) (note : GroupNode) (e : GroupSite R g) → AwayNoted n note e → SitsOn n (as_imported e)
  sits_away n note (SiteUp laid) it = absurd it
  sits_away n note (SiteDown idle) it = absurd it
  sits_away n note (SiteAway idle) it =
      let same = imported_same {R = R} {g = g} (SiteAway idle) in
      record { units = same.units ∙ it.away.lies.units; size = λ u low. same.size u ∙ it.away.lies.size u low }
  sits_away n note (Marked rack) it = absurd it
  sits_away n note SiteGone it = absurd it

  -- the configuration of a group that came up
  pub config_now : (m : Node) (k : GroupNode) (c : Config) (e : GroupSite R g) → UpNoted m k e → HasNow c e → site_config e ≡ Some c
  config_now m k c (SiteUp group) it has = ap (λ (x : Config). Some x) has
  config_now m k c (SiteAway idle) it has = absurd it
  config_now m k c (SiteDown idle) it has = absurd it
  config_now m k c (Marked rack) it has = absurd it
  config_now m k c SiteGone it has = absurd it

  pub fused_keeps : (n m : Node) (before after : DiskSet R g) (set next : GroupSet R g) → before ≡ OfGroup set → after ≡ OfGroup next → m.fuse ≡ burned n.fuse → SameFailing before after → KeepsFuse (as_imported set.site) (site_disks next.site)
      → FusedAs n before → FusedAs m (OfGroup next)
  fused_keeps n m before after set next was is fuse failing keeps h =
      fused_goes n m (OfGroup set) (OfGroup next) fuse
      (failing_rack (site_disks set.site).disks (site_disks next.site).disks (λ o x. (u : ℕ) → x.failing u ≡ o.failing u)
      (subst (λ (y : DiskSet R g). WithDisks (site_disks set.site).disks (disks_told y) (λ o x. (u : ℕ) → x.failing u ≡ o.failing u)) is
      (subst (λ (y : DiskSet R g). WithDisks (disks_told y) (disks_told after) (λ o x. (u : ℕ) → x.failing u ≡ o.failing u)) was failing.told)))
      (λ o x at now. keeps.goes o x (imported_disks set.site ∙ at) now) (subst (λ (y : DiskSet R g). FusedAs n y) was h)

  -- what a refused import left, by its reason
  abbrev pub StaysAway : (late dims : Bool) → Node → GroupNode → Meaning → GroupSite R g → Type 0
  StaysAway late dims n note old e = AwayNoted (with_note (dimmed_by late dims note) n) (dimmed_by late dims note) e × (IsFalse (site_disks e).armed ⊎ KeepsFuse old (site_disks e))

  abbrev pub ImportCases : Bool → Node → GroupNode → Meaning → GroupSite R g → No → Type 0
  ImportCases dims n note old e why =
      ((disk : ℕ) × (why ≡ Device disk) × StaysAway true dims n note old e × Rose (old.disk_faults disk) ((site_disks e).disk_faults disk))
      ⊎ ((why ≡ IsOff) × DownNoted (crashed (returned_with (dimmed_by true dims note) n) 0) (dimmed_by true dims note) e × IsFused n.fuse)
      ⊎ (StaysAway (is_late why) dims n note old e × ImportWhy (IsTrue (site_disks e).tells) (KnownAway (IsTrue (site_disks e).tells) note) old (site_disks e) (StopsBy why) × ((disk : ℕ) → why ≡ Device disk → ⊥) × (why ≡ IsOff → ⊥))

  pub import_cases : (dims : Bool) (n : Node) (note : GroupNode) (old : Meaning) (e : GroupSite R g) (why : No) → ImportRefused (stops_down (StopsBy why)) (dimmed_site dims note n) (note_dimmed dims note) old e (StopsBy why) → ImportCases dims n note old e why
  import_cases dims n note old e (Device disk) it = inl (disk, refl, (it.0, it.1), it.2)
  import_cases dims n note old e IsOff it = inr (inl (refl, it.0, it.1))
  import_cases dims n note old e (Unknown what) it = inr (inr ((it.0, it.1), it.2, (λ k w. absurd (cc)), λ w. absurd (cc)))
  import_cases dims n note old e (Exists name) it = inr (inr ((it.0, it.1), it.2, (λ k w. absurd (cc)), λ w. absurd (cc)))
  import_cases dims n note old e Range it = inr (inr ((it.0, it.1), it.2, (λ k w. absurd (cc)), λ w. absurd (cc)))
  import_cases dims n note old e Size it = inr (inr ((it.0, it.1), it.2, (λ k w. absurd (cc)), λ w. absurd (cc)))
  import_cases dims n note old e Role it = inr (inr ((it.0, it.1), it.2, (λ k w. absurd (cc)), λ w. absurd (cc)))
  import_cases dims n note old e (Missing disk) it = inr (inr ((it.0, it.1), it.2, (λ k w. absurd (cc)), λ w. absurd (cc)))
  import_cases dims n note old e NoConfig it = inr (inr ((it.0, it.1), it.2, (λ k w. absurd (cc)), λ w. absurd (cc)))
  import_cases dims n note old e LastPlex it = inr (inr ((it.0, it.1), it.2, (λ k w. absurd (cc)), λ w. absurd (cc)))
  import_cases dims n note old e (Space need have) it = inr (inr ((it.0, it.1), it.2, (λ k w. absurd (cc)), λ w. absurd (cc)))
  import_cases dims n note old e (LogFull link) it = inr (inr ((it.0, it.1), it.2, (λ k w. absurd (cc)), λ w. absurd (cc)))
  import_cases dims n note old e (Stalled link) it = inr (inr ((it.0, it.1), it.2, (λ k w. absurd (cc)), λ w. absurd (cc)))
  import_cases dims n note old e (LinkDown link) it = inr (inr ((it.0, it.1), it.2, (λ k w. absurd (cc)), λ w. absurd (cc)))
  import_cases dims n note old e (Unconfirmed number) it = inr (inr ((it.0, it.1), it.2, (λ k w. absurd (cc)), λ w. absurd (cc)))
  import_cases dims n note old e Inconsistent it = inr (inr ((it.0, it.1), it.2, (λ k w. absurd (cc)), λ w. absurd (cc)))
  import_cases dims n note old e (Behind stored head) it = inr (inr ((it.0, it.1), it.2, (λ k w. absurd (cc)), λ w. absurd (cc)))
  import_cases dims n note old e (Replaying link) it = inr (inr ((it.0, it.1), it.2, (λ k w. absurd (cc)), λ w. absurd (cc)))
  import_cases dims n note old e (Limit what most) it = inr (inr ((it.0, it.1), it.2, (λ k w. absurd (cc)), λ w. absurd (cc)))
  import_cases dims n note old e (Halted disk) it = inr (inr ((it.0, it.1), it.2, (λ k w. absurd (cc)), λ w. absurd (cc)))
  import_cases dims n note old e (Gap low need) it = inr (inr ((it.0, it.1), it.2, (λ k w. absurd (cc)), λ w. absurd (cc)))
  import_cases dims n note old e (Damaged unit block stored computed) it = inr (inr ((it.0, it.1), it.2, (λ k w. absurd (cc)), λ w. absurd (cc)))
  import_cases dims n note old e Paused it = inr (inr ((it.0, it.1), it.2, (λ k w. absurd (cc)), λ w. absurd (cc)))
  import_cases dims n note old e (Unsettled stored head) it = inr (inr ((it.0, it.1), it.2, (λ k w. absurd (cc)), λ w. absurd (cc)))
  import_cases dims n note old e (Format version) it = inr (inr ((it.0, it.1), it.2, (λ k w. absurd (cc)), λ w. absurd (cc)))
