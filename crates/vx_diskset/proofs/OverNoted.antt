-- How the note of a site moves in a call on the replicated volume group over its group, up to the crash behind it.
use Rattle.std.proofs.Common.{◌≡◌, ◌∙◌, ◌⊎◌, inl, inr, ℕ, Bool, true, false, List, [], ap, length, refl, subst, sym}
use Rattle.std.specs.Prelude.{Err, IsFalse, IsTrue, Ok, Option, Result, Some}
use Rattle.vx_config.specs.Forms.{Reading}
use Rattle.vx_config.specs.Table.{config}
use Rattle.vx_config.specs.declared.config.Config.{Config}
use Rattle.vx_disk.specs.declared.shelf.Shelf.{Ghosts}
use Rattle.vx_events.specs.GroupViews.{config_of, read_front}
use Rattle.vx_events.specs.RvgFits.{config_rvg, entries_noted, rvg_noted}
use Rattle.vx_history.specs.Groups.{GroupNode}
use Rattle.vx_history.specs.Steps.{crashed}
use Rattle.vx_history.specs.Stops.{IsFused}
use Rattle.vx_history.specs.World.{Node}
use Rattle.vx_kept.specs.Cleans.{at_serial}
use Rattle.vx_model.specs.declared.no.No.{No}
use Rattle.vx_model.specs.declared.site.SiteState.TheVariants.{Up as IsUp, Down as IsDown, Deported as IsAway}
use Rattle.vx_model.specs.declared.units.Units.{Units}
use Rattle.vx_grouped.specs.GroupNotes.{NotesConfig, noted_config}
use Rattle.vx_grouped.specs.GroupSites.{CutNoted, DownNoted, UpNoted, idle_disks, site_disks, with_note}
use Rattle.vx_grouped.specs.SiteEnds.{HasNow, is_off}
use Rattle.vx_grouped.specs.declared.group_site.GroupSite.{GroupSite}
use Rattle.vx_grouped.specs.declared.group_site.GroupSite.TheVariants.{Up, Deported, Down, Marked, Gone}
use Rattle.vx_grouped.proofs.NotedLemmas.{noted_is}
use Rattle.vx_grouped.proofs.SiteLemmas.{away_as, some_as}
use Rattle.vx_diskset.specs.Aboves.{InsideOf, IsInside, above_site, below_site, site_in}
use Rattle.vx_diskset.specs.Asked.{IsRawSet}
use Rattle.vx_diskset.specs.Blames.{IsGroupDisk}
use Rattle.vx_diskset.specs.GroupSets.{cut_value}
use Rattle.vx_diskset.specs.Holds.{KeptBeside}
use Rattle.vx_diskset.specs.Layouts.{config_units, units_by, units_of, units_or}
use Rattle.vx_diskset.specs.Noted.{AgreesStill, NotedOn, NotesMoved, NotesOn, NotesWorked, OverCalled, OverFalls, OversCalled, OversFall, RestsNamed, SiteNoted, TidyNote, below_rvg}
use Rattle.vx_diskset.specs.Stands.{OverStands, SiteStands}
use Rattle.vx_diskset.specs.declared.disk_set.DiskSet.{DiskSet}
use Rattle.vx_diskset.specs.declared.disk_set.DiskSet.TheVariants.{Bare, Spoiled, Up as UpSet, Receives, Down as DownSet, OfGroup, Over, Gone as GoneSet}
use Rattle.vx_diskset.specs.declared.group_set.CutWrite.{CutWrite}
use Rattle.vx_diskset.specs.declared.over_set.OverSet.{OverSet}
use Rattle.vx_diskset.specs.declared.over_set.OverSite.{OverSite}
use Rattle.vx_diskset.specs.declared.over_set.OverSite.TheVariants.{Origin as OriginSite, Receiver as ReceiverSite, Deported as GroupAway, Down as GroupFell, Gone as NoGroup}
use Rattle.vx_diskset.proofs.CountMoves.{counts_lose}
use Rattle.vx_diskset.proofs.UnderCalling.{under_both, under_since}

-- ---- the units that a note names

spelled_back : (note : List ℕ) (c : Config) → note ≡ noted_config c → config.read (noted_config c) ≡ Ok (at_serial 0 c, []) → config_of note ≡ Some (at_serial 0 c)
spelled_back note c is back = ap (λ (bytes : List ℕ). config_of bytes) is ∙ ap (λ (r : Reading Config). read_front r) back

pub note_read : (note : GroupNode) (c : Config) → NotesConfig note c → config_of note.config ≡ Some (at_serial 0 c)
unfolding noted_config
note_read note c it = spelled_back note.config c it.is (noted_is (at_serial 0 c) it.spells)

pub units_same : (note next : GroupNode) (was now : Config) → NotesConfig note was → NotesConfig next now → now.rvg ≡ was.rvg → config_units (config_of next.config) ≡ config_units (config_of note.config)
units_same note next was now first last same =
    ap (λ (o : Option Config). config_units o) (note_read next now last) ∙ ap (λ (r : Option Units). units_or r) same ∙ sym (ap (λ (o : Option Config). config_units o) (note_read note was first))

-- ---- what is noted of a site

module _ {R : Type 0} {g : Ghosts R} where
  pub noted_up : (beside : KeptBeside) (n : Node) (note : GroupNode) (s : OverSite R g) → OverStands beside n s → n.state ≡ IsUp → NotedOn (below_rvg n) note (below_site s) → UpNoted (below_rvg n) note (below_site s)
  noted_up beside n note (OriginSite f) stands up it = it
  noted_up beside n note (ReceiverSite f) stands up it = it
  noted_up beside n note (GroupAway idle) stands up it = absurd (let clash : IsAway ≡ IsUp = sym stands.0 ∙ up in cc)
  noted_up beside n note (GroupFell idle) stands up it = absurd (let clash : IsDown ≡ IsUp = sym stands.0 ∙ up in cc)
  noted_up beside n note NoGroup stands up it = absurd stands

  inside_above : (beside : KeptBeside) (n : Node) (note : GroupNode) (s : OverSite R g) → OverStands beside n s → InsideOf (units_of n) note → IsInside note (above_site s)
  inside_above beside n note (OriginSite f) stands it = subst (λ (u : Units). InsideOf u note) (sym stands.units) it
  inside_above beside n note (ReceiverSite f) stands it = subst (λ (u : Units). InsideOf u note) (sym stands.units) it
  inside_above beside n note (GroupAway idle) stands it = tt
  inside_above beside n note (GroupFell idle) stands it = tt
  inside_above beside n note NoGroup stands it = tt

  pub up_group : (k : Node) (note : GroupNode) (e : GroupSite R g) → UpNoted k note e → k.group ≡ Some note
  up_group k note (Up laid) it = it.noted.is
  up_group k note (Deported idle) it = absurd it
  up_group k note (Down idle) it = absurd it
  up_group k note (Marked rack) it = absurd it
  up_group k note Gone it = absurd it

  pub up_noted : (k : Node) (note : GroupNode) (e : GroupSite R g) → UpNoted k note e → NotedOn k note e
  up_noted k note (Up laid) it = it
  up_noted k note (Deported idle) it = absurd it
  up_noted k note (Down idle) it = absurd it
  up_noted k note (Marked rack) it = absurd it
  up_noted k note Gone it = absurd it

  -- of one that is up nothing is said of imports
  pub up_named : (k : Node) (note : GroupNode) (units : Units) (count : ℕ) (e : GroupSite R g) → UpNoted k note e → RestsNamed units count e
  up_named k note units count (Up laid) it = tt
  up_named k note units count (Deported idle) it = absurd it
  up_named k note units count (Down idle) it = absurd it
  up_named k note units count (Marked rack) it = absurd it
  up_named k note units count Gone it = absurd it

  up_running : (k : Node) (note : GroupNode) (e : GroupSite R g) → UpNoted k note e → IsTrue (site_disks e).down → ⊥
  up_running k note (Up laid) it down = it.at.up down
  up_running k note (Deported idle) it down = it
  up_running k note (Down idle) it down = it
  up_running k note (Marked rack) it down = it
  up_running k note Gone it down = it

  pub cut_down : (k : Node) (note : GroupNode) (e : GroupSite R g) → CutNoted k note e → IsTrue (site_disks e).down
  cut_down k note (Up laid) it = it.cut.down
  cut_down k note (Deported idle) it = absurd it
  cut_down k note (Down idle) it = absurd it
  cut_down k note (Marked rack) it = absurd it
  cut_down k note Gone it = absurd it

  has_down : (c : Config) (k : Node) (note : GroupNode) (e : GroupSite R g) → DownNoted k note e → HasNow c e
  has_down c k note (Up laid) it = absurd it
  has_down c k note (Deported idle) it = absurd it
  has_down c k note (Down idle) it = tt
  has_down c k note (Marked rack) it = absurd it
  has_down c k note Gone it = absurd it

  -- a site that crashed, as its group has it
  pub down_to : (k : Node) (count : ℕ) (note : GroupNode) (e : GroupSite R g) → k.group ≡ Some note → DownNoted (crashed (below_rvg k) 0) note e → NotedOn (below_rvg (crashed k count)) note e
  down_to k count note (Up laid) is it = absurd it
  down_to k count note (Deported idle) is it = absurd it
  down_to k count note (Down idle) is it = record {
    noted = record { is = is; none = record { role = refl; volumes = refl; log = refl; safe = refl; running = refl } };
    lit = it.lit;
    agrees = it.agrees;
    unfused = refl;
    stopped = it.stopped;
    last = it.last;
    spells = it.spells;
    away = record {
      state = refl;
      config = it.away.config;
      found = it.away.found;
      runs = it.away.runs;
      some = some_as (crashed (below_rvg k) 0) (below_rvg (crashed k count)) it.last refl refl it.away.some;
      lies = away_as (crashed (below_rvg k) 0) (below_rvg (crashed k count)) note it.last (idle_disks idle) refl refl it.away.lies;
    };
  }
  down_to k count note (Marked rack) is it = absurd it
  down_to k count note Gone is it = absurd it

  pub down_again : (k : Node) (note : GroupNode) (e : GroupSite R g) → k.group ≡ Some note → DownNoted (crashed (below_rvg k) 0) note e → NotedOn (below_rvg (crashed k 0)) note e
  down_again k note e is it = down_to k 0 note e is it

module _ {R : Type 0} {g : Ghosts R} (beside : KeptBeside) (n : Node) (note : GroupNode) (old new : OverSet R g) (stands : SiteStands beside n (Over old)) (state : n.state ≡ IsUp) (noted : SiteNoted n note (Over old)) (called : OverCalled old new) where
  up_old : UpNoted (below_rvg n) note (site_in old)
  up_old = noted_up beside n note old.site stands.1 state noted.0

  moved : NotesWorked n note (site_in old) (site_in new)
  moved = called.notes n note up_old (inside_above beside n note old.site stands.1 noted.2)

  abbrev next : GroupNode
  next = moved.0

  abbrev after : Node
  after = with_note next n

  same_units : units_of after ≡ units_of n
  same_units =
      units_same note next moved.2.was moved.2.now moved.2.noted moved.2.noted_now moved.2.change.parts.rvg
      ∙ sym (ap (λ (o : Option GroupNode). units_by o n.disks) (up_group (below_rvg n) note (site_in old) up_old))

  inside_so : InsideOf (units_of after) next
  inside_so = λ u disk. ap (λ (f : ℕ → Bool). f u) moved.1.same.inside ∙ noted.2 u (subst (λ (us : Units). IsGroupDisk us u) same_units disk)

  -- its configuration names the same replicated volume group
  named_so : rvg_noted next ≡ Some (units_of after)
  named_so =
      ap (λ (o : Option Config). config_rvg o) (note_read next moved.2.now moved.2.noted_now) ∙ moved.2.change.parts.rvg
      ∙ sym (ap (λ (o : Option Config). config_rvg o) (note_read note moved.2.was moved.2.noted)) ∙ noted.3.named ∙ ap (λ (u : Units). Some u) (sym same_units)

  tidy_so : TidyNote (units_of after) next
  tidy_so = record { tidy = moved.4; named = named_so }

  cut_so : (s : OverSet R g) → s.cut ≡ new.cut → cut_value s.cut ≡ next.cut
  cut_so s same = ap (λ (o : Option CutWrite). cut_value o) same ∙ called.cut ∙ noted.1 ∙ sym moved.1.same.cut

  notes_running : IsFalse (site_disks (site_in new)).down → NotesMoved n note (site_in old) (Over old) (site_in new) (Over new)
  notes_running running = (next, moved.1, moved.2, by moved.3)
    where
      by : (UpNoted (below_rvg after) next (site_in new) × AgreesStill note next (site_disks (site_in old)) (site_disks (site_in new))) ⊎ (CutNoted (below_rvg after) next (site_in new) × IsFused n.fuse)
          → (SiteNoted after next (Over new) × AgreesStill note next (site_disks (site_in old)) (site_disks (site_in new))) ⊎ (SiteNoted (crashed after 0) next (Over new) × IsFused n.fuse)
      by (inl it) = inl ((up_noted (below_rvg after) next (site_in new) it.0, cut_so new refl, inside_so, tidy_so, up_named (below_rvg after) next (units_of after) (length (entries_noted next)) (site_in new) it.0), it.1)
      by (inr it) = absurd (let clash : true ≡ false = sym (cut_down (below_rvg after) next (site_in new) it.0) ∙ running in cc)

  notes_fallen : (s : OverSet R g) → IsTrue (site_disks (site_in new)).down → OverFalls new s → NotesMoved n note (site_in old) (Over old) (site_in s) (Over s)
  notes_fallen s down falls = by moved.3
    where
      by : (UpNoted (below_rvg after) next (site_in new) × AgreesStill note next (site_disks (site_in old)) (site_disks (site_in new))) ⊎ (CutNoted (below_rvg after) next (site_in new) × IsFused n.fuse)
          → NotesMoved n note (site_in old) (Over old) (site_in s) (Over s)
      by (inl it) = absurd (up_running (below_rvg after) next (site_in new) it.0 down)
      by (inr it) =
          let fell : DownNoted (crashed (below_rvg after) 0) next (site_in s) = falls.fallen (below_rvg after) next moved.4 it.0 in (
            next,
            moved.1,
            record {
              was = moved.2.was;
              now = moved.2.now;
              had = moved.2.had;
              has = has_down moved.2.now (crashed (below_rvg after) 0) next (site_in s) fell;
              noted = moved.2.noted;
              noted_now = moved.2.noted_now;
              change = counts_lose (site_disks (site_in old)) (site_disks (site_in new)) (site_disks (site_in s)) falls.counts moved.2.was moved.2.now moved.2.change;
            },
            inr ((down_again after next (site_in s) refl fell, cut_so s falls.cut, inside_so, tidy_so, falls.named (below_rvg after) next (units_of after) (inr it.0) named_so), it.1),
          )

-- ---- calls on the disks of a site

module _ {R : Type 0} {g : Ghosts R} where
  -- of a raw set, or a group alone, nothing is said
  pub notes_raw : (e new : DiskSet R g) → IsRawSet e → NotesOn e new
  notes_raw (Bare rack) new raw = record { each = λ beside n note stands state noted. tt; calls = tt }
  notes_raw (Spoiled rack) new raw = record { each = λ beside n note stands state noted. tt; calls = tt }
  notes_raw (UpSet rvg) new raw = record { each = λ beside n note stands state noted. tt; calls = tt }
  notes_raw (Receives s) new raw = record { each = λ beside n note stands state noted. tt; calls = tt }
  notes_raw (DownSet rack) new raw = record { each = λ beside n note stands state noted. tt; calls = tt }
  notes_raw (OfGroup s) new raw = record { each = λ beside n note stands state noted. tt; calls = tt }
  notes_raw (Over s) new raw = absurd raw
  notes_raw GoneSet new raw = record { each = λ beside n note stands state noted. tt; calls = tt }

  pub overs_raw : {T : Type 0} (e new : DiskSet R g) (r : Result T No) → IsRawSet e → OversCalled e new r
  overs_raw (Bare rack) new r raw = tt
  overs_raw (Spoiled rack) new r raw = tt
  overs_raw (UpSet rvg) new r raw = tt
  overs_raw (Receives s) new r raw = tt
  overs_raw (DownSet rack) new r raw = tt
  overs_raw (OfGroup s) new r raw = tt
  overs_raw (Over s) new r raw = absurd raw
  overs_raw GoneSet new r raw = tt

  falls_raw : (e new : DiskSet R g) → IsRawSet e → IsRawSet new → OversFall e new
  falls_raw (Bare rack) new raw apart = apart
  falls_raw (Spoiled rack) new raw apart = apart
  falls_raw (UpSet rvg) new raw apart = apart
  falls_raw (Receives s) new raw apart = apart
  falls_raw (DownSet rack) new raw apart = apart
  falls_raw (OfGroup s) new raw apart = apart
  falls_raw (Over s) new raw apart = absurd raw
  falls_raw GoneSet new raw apart = apart

  not_over : (e : DiskSet R g) → ((s : OverSet R g) → e ≡ Over s → ⊥) → IsRawSet e
  not_over (Bare rack) never = tt
  not_over (Spoiled rack) never = tt
  not_over (UpSet rvg) never = tt
  not_over (Receives s) never = tt
  not_over (DownSet rack) never = tt
  not_over (OfGroup s) never = tt
  not_over (Over s) never = absurd (never s refl)
  not_over GoneSet never = tt

  pub falls_rest : (e : DiskSet R g) → ((s : OverSet R g) → e ≡ Over s → ⊥) → OversFall e e
  falls_rest e never = falls_raw e e (not_over e never) (not_over e never)

  pub falls_as : (e new : DiskSet R g) → IsRawSet e → IsRawSet new → OversFall e new
  falls_as e new raw apart = falls_raw e new raw apart

  down_still : (n : Node) (note : GroupNode) (s : OverSet R g) → UpNoted (below_rvg n) note (site_in s) → (site_disks (site_in s)).down ≡ false
  down_still n note s up = by (site_disks (site_in s)).down refl
    where
      by : (t : Bool) → (site_disks (site_in s)).down ≡ t → t ≡ false
      by false is = refl
      by true is = absurd (up_running (below_rvg n) note (site_in s) up is)

  over_notes_on : (old new : OverSet R g) → OverCalled old new → ((site_disks (site_in old)).down ≡ false → (site_disks (site_in new)).down ≡ false) → NotesOn (Over old) (Over new)
  over_notes_on old new called stays = record {
    each = λ beside n note stands state noted.
        notes_running beside n note old new stands state noted called (stays (down_still n note old (noted_up beside n note old.site stands.1 state noted.0)));
    calls = under_since (site_disks (site_in old)) (site_disks (site_in new)) called.since;
  }

  over_notes_fell : (old mid new : OverSet R g) → OverCalled old mid → ((site_disks (site_in old)).down ≡ false → (site_disks (site_in mid)).down ≡ true) → OverFalls mid new → NotesOn (Over old) (Over new)
  over_notes_fell old mid new called falls fell = record {
    each = λ beside n note stands state noted.
        notes_fallen beside n note old mid stands state noted called new (falls (down_still n note old (noted_up beside n note old.site stands.1 state noted.0))) fell;
    calls = under_both (site_disks (site_in old)) (site_disks (site_in mid)) (site_disks (site_in new)) (under_since (site_disks (site_in old)) (site_disks (site_in mid)) called.since) fell.calls;
  }

  -- a read
  pub notes_read : (e : DiskSet R g) (o s : OverSet R g) → e ≡ Over o → OverCalled o s → (site_disks (site_in s)).down ≡ (site_disks (site_in o)).down → NotesOn e (Over s)
  notes_read e o s is called same = subst (λ (x : DiskSet R g). NotesOn x (Over s)) (sym is) (over_notes_on o s called (λ up. same ∙ up))

  -- a call that is done
  pub notes_done : {T : Type 0} (x : T) (old new : DiskSet R g) → OversCalled old new (Ok x) → NotesOn old new
  notes_done x (Over old) (Over new) it = over_notes_on old new it.0 it.1
  notes_done x (Over old) (Bare rack) it = absurd it
  notes_done x (Over old) (Spoiled rack) it = absurd it
  notes_done x (Over old) (UpSet rvg) it = absurd it
  notes_done x (Over old) (Receives s) it = absurd it
  notes_done x (Over old) (DownSet rack) it = absurd it
  notes_done x (Over old) (OfGroup s) it = absurd it
  notes_done x (Over old) GoneSet it = absurd it
  notes_done x (Bare rack) new it = notes_raw (Bare rack) new tt
  notes_done x (Spoiled rack) new it = notes_raw (Spoiled rack) new tt
  notes_done x (UpSet rvg) new it = notes_raw (UpSet rvg) new tt
  notes_done x (Receives s) new it = notes_raw (Receives s) new tt
  notes_done x (DownSet rack) new it = notes_raw (DownSet rack) new tt
  notes_done x (OfGroup s) new it = notes_raw (OfGroup s) new tt
  notes_done x GoneSet new it = notes_raw GoneSet new tt

  -- one that is refused over disks that are up
  pub notes_refused : (T : Type 0) (why : No) (old new : DiskSet R g) → is_off why ≡ false → OversCalled {T = T} old new (Err why) → NotesOn old new
  notes_refused T why (Over old) (Over new) on it = over_notes_on old new it.0 (λ up. it.1 up ∙ on)
  notes_refused T why (Over old) (Bare rack) on it = absurd it
  notes_refused T why (Over old) (Spoiled rack) on it = absurd it
  notes_refused T why (Over old) (UpSet rvg) on it = absurd it
  notes_refused T why (Over old) (Receives s) on it = absurd it
  notes_refused T why (Over old) (DownSet rack) on it = absurd it
  notes_refused T why (Over old) (OfGroup s) on it = absurd it
  notes_refused T why (Over old) GoneSet on it = absurd it
  notes_refused T why (Bare rack) new on it = notes_raw (Bare rack) new tt
  notes_refused T why (Spoiled rack) new on it = notes_raw (Spoiled rack) new tt
  notes_refused T why (UpSet rvg) new on it = notes_raw (UpSet rvg) new tt
  notes_refused T why (Receives s) new on it = notes_raw (Receives s) new tt
  notes_refused T why (DownSet rack) new on it = notes_raw (DownSet rack) new tt
  notes_refused T why (OfGroup s) new on it = notes_raw (OfGroup s) new tt
  notes_refused T why GoneSet new on it = notes_raw GoneSet new tt

  fell_over : (T : Type 0) (why : No) (old : OverSet R g) (mid new : DiskSet R g) → is_off why ≡ true → OversCalled {T = T} (Over old) mid (Err why) → OversFall mid new → NotesOn (Over old) new
  fell_over T why old (Over mid) (Over new) off it fell = over_notes_fell old mid new it.0 (λ up. it.1 up ∙ off) fell
  fell_over T why old (Over mid) (Bare rack) off it fell = absurd fell
  fell_over T why old (Over mid) (Spoiled rack) off it fell = absurd fell
  fell_over T why old (Over mid) (UpSet rvg) off it fell = absurd fell
  fell_over T why old (Over mid) (Receives s) off it fell = absurd fell
  fell_over T why old (Over mid) (DownSet rack) off it fell = absurd fell
  fell_over T why old (Over mid) (OfGroup s) off it fell = absurd fell
  fell_over T why old (Over mid) GoneSet off it fell = absurd fell
  fell_over T why old (Bare rack) new off it fell = absurd it
  fell_over T why old (Spoiled rack) new off it fell = absurd it
  fell_over T why old (UpSet rvg) new off it fell = absurd it
  fell_over T why old (Receives s) new off it fell = absurd it
  fell_over T why old (DownSet rack) new off it fell = absurd it
  fell_over T why old (OfGroup s) new off it fell = absurd it
  fell_over T why old GoneSet new off it fell = absurd it

  -- one in which the fuse ran out, and the crash behind it
  pub notes_cut : (T : Type 0) (why : No) (old mid new : DiskSet R g) → is_off why ≡ true → OversCalled {T = T} old mid (Err why) → OversFall mid new → NotesOn old new
  notes_cut T why (Over old) mid new off it fell = fell_over T why old mid new off it fell
  notes_cut T why (Bare rack) mid new off it fell = notes_raw (Bare rack) new tt
  notes_cut T why (Spoiled rack) mid new off it fell = notes_raw (Spoiled rack) new tt
  notes_cut T why (UpSet rvg) mid new off it fell = notes_raw (UpSet rvg) new tt
  notes_cut T why (Receives s) mid new off it fell = notes_raw (Receives s) new tt
  notes_cut T why (DownSet rack) mid new off it fell = notes_raw (DownSet rack) new tt
  notes_cut T why (OfGroup s) mid new off it fell = notes_raw (OfGroup s) new tt
  notes_cut T why GoneSet mid new off it fell = notes_raw GoneSet new tt
