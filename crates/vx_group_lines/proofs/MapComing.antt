-- How what is noted of the maps of a site's group goes on as the group comes up from its disks, or is refused.
use Rattle.std.proofs.Common.{◌≡◌, ◌∙◌, ◌⊎◌, ◌<◌, inl, inr, ℕ, Bool, true, false, List, [], length, ap, refl, subst, sym, IsTrue}
use Rattle.std.specs.Prelude.{◌||◌, not, None, Some, Ok, Err}
use Rattle.vx_model.specs.declared.errors.Stop.{Stop}
use Rattle.vx_config.specs.Configs.{HasSpelling}
use Rattle.vx_config.specs.declared.config.Config.{Config}
use Rattle.vx_config.specs.declared.entry.VolumeEntry.{VolumeEntry}
use Rattle.vx_disk.specs.Shelf.{Meaning}
use Rattle.vx_disk.specs.declared.shelf.Shelf.{Ghosts}
use Rattle.vx_history.specs.Groups.{GroupNode, MissedNote}
use Rattle.vx_history.specs.Missing.{with_maps}
use Rattle.vx_history.specs.World.{Node}
use Rattle.vx_kept.specs.Cleans.{at_serial}
use Rattle.vx_grouped.proofs.RunMapLemmas.{never_clean, stopped_why}
use Rattle.vx_grouped.specs.Clean.{StopsClean}
use Rattle.vx_grouped.specs.GroupNotes.{NotesConfig, note_dimmed, noted_config}
use Rattle.vx_grouped.specs.GroupSites.{AwayNoted, DownNoted, idle_disks, site_config, site_disks}
use Rattle.vx_grouped.specs.SiteMaps.{BackMaps, CameMapped, MapsOf, RisenMaps, StandMaps}
use Rattle.vx_grouped.specs.SiteReturns.{ConfigReturns, NoteReturns, stops_early}
use Rattle.vx_grouped.specs.declared.group_site.GroupSite.{GroupSite}
use Rattle.vx_grouped.specs.declared.group_site.GroupSite.TheVariants.{Deported, Down, Gone, Marked, Up}
use Rattle.vx_events.specs.GroupMaps.{MapsRecovered}
use Rattle.vx_group_lines.proofs.Dimming.{dimmed_by}
use Rattle.vx_above.proofs.GroupStatus.{config_is}
use Rattle.vx_group_lines.proofs.MapGoing.{one_config, to_site}

or_off : (a b : Bool) → (a || b) ≡ false → (a ≡ false) × (b ≡ false)
or_off true b is = absurd (let clash : true ≡ false = is in cc)
or_off false b is = (refl, is)

early_by : (b : Bool) → not b ≡ false → b ≡ true
early_by true is = refl
early_by false is = absurd (let clash : true ≡ false = is in cc)

-- ---- what a note says besides

pub returns_with : (w : MissedNote) (told : Type 0) (note next : GroupNode) → NoteReturns told note next → NoteReturns told note (with_maps w next)
returns_with w told note next it = record { begun = it.begun; loose = it.loose; cut = it.cut; dark = it.dark; inside = it.inside; block = it.block; may = it.may; size = it.size }

-- what is known behind it was known before
pub bright_before : (dims : Bool) (note next : GroupNode) → next.dark ≡ (note_dimmed dims note).dark → next.dark ≡ false → note.dark ≡ false
bright_before dims note next dark bright = (or_off dims note.dark (sym dark ∙ bright)).1

module _ {R : Type 0} {g : Ghosts R} where
  abbrev pub config_with : (w : MissedNote) (note next : GroupNode) (old : Meaning) (new : GroupSite R g) → ConfigReturns note next old new → ConfigReturns note (with_maps w next) old new
  config_with w note next old new it = record {
    was = it.was;
    now = it.now;
    has = it.has;
    noted = it.noted;
    noted_now = record { is = it.noted_now.is; spells = it.noted_now.spells };
    sizes = it.sizes;
    change = it.change;
    one = it.one;
    opens = it.opens;
    parts = it.parts;
  }

  -- ---- a group that came up

  -- The next note has these maps, and the site stands for it. Where it is known what the disks hold, and contents are told, they come so of those before.
  pub record MapsCame (By : MissedNote → Type 0) (next : GroupNode) (new : GroupSite R g) : Type 0 where
    pub maps : MissedNote
    pub by : next.dark ≡ false → IsTrue (site_disks new).tells → By maps
    pub stands : StandMaps (with_maps maps next) new

  pub stands_up : (w : MissedNote) (next : GroupNode) (c : Config) (e : GroupSite R g) → site_config e ≡ Some c → NotesConfig next c → MapsOf w c e → StandMaps (with_maps w next) e
  stands_up w next c e is noted it = record {
    config = c;
    is = noted.is;
    spells = noted.spells;
    up = λ d some. one_config d c (sym some ∙ is);
    maps = to_site w next c c e is it;
  }

  came_by : (By : MissedNote → Type 0) (next : GroupNode) (d : Config) (new : GroupSite R g) → site_config new ≡ Some d → NotesConfig next d → (w : MissedNote) × MapsOf w d new
      → (next.dark ≡ false → IsTrue (site_disks new).tells → (w : MissedNote) × By w × MapsOf w d new) → MapsCame By next new
  came_by By next d new is noted some told = by next.dark refl (site_disks new).tells refl
    where
      by : (dark : Bool) → next.dark ≡ dark → (tells : Bool) → (site_disks new).tells ≡ tells → MapsCame By next new
      by true dark tells is_told = record { maps = some.0; by = λ bright _. absurd (let clash : true ≡ false = sym dark ∙ bright in cc); stands = stands_up some.0 next d new is noted some.1 }
      by false dark true is_told = let then = told dark is_told in record { maps = then.0; by = λ _ _. then.1; stands = stands_up then.0 next d new is noted then.2 }
      by false dark false is_told = record { maps = some.0; by = λ _ tells. absurd (let clash : false ≡ true = sym is_told ∙ tells in cc); stands = stands_up some.0 next d new is noted some.1 }

  -- an import
  pub comes_back : (n : Node) (note next : GroupNode) (dims : Bool) (old new : GroupSite R g) (d : Config) (had : StandMaps note old) → AwayNoted n note old → next.dark ≡ (note_dimmed dims note).dark → site_config new ≡ Some d → NotesConfig next d
      → CameMapped old new (Ok tt) → MapsCame (λ w. BackMaps (site_disks old) (site_disks new) had.config d note.maps w) next new
  comes_back n note next dims (Up group) new d had away dark is noted came = absurd away
  comes_back n note next dims (Deported idle) new d had away dark is noted came =
      came_by (λ (w : MissedNote). BackMaps (idle_disks idle) (site_disks new) had.config d note.maps w) next d new is noted (came.some d is)
      (λ bright tells. came.so note.maps had.config d tells is (had.maps (or_off dims note.dark (sym dark ∙ bright)).1))
  comes_back n note next dims (Down idle) new d had away dark is noted came = absurd away
  comes_back n note next dims (Marked rack) new d had away dark is noted came = absurd away
  comes_back n note next dims Gone new d had away dark is noted came = absurd away

  -- a recovery
  pub comes_up : (n : Node) (note next : GroupNode) (dims : Bool) (old new : GroupSite R g) (d : Config) → StandMaps note old → DownNoted n note old → next.dark ≡ (note_dimmed dims note).dark → site_config new ≡ Some d → NotesConfig next d
      → CameMapped old new (Ok tt) → MapsCame (λ w. RisenMaps (site_disks old) (site_disks new) w) next new
  comes_up n note next dims (Up group) new d had down dark is noted came = absurd down
  comes_up n note next dims (Deported idle) new d had down dark is noted came = absurd down
  comes_up n note next dims (Down idle) new d had down dark is noted came =
      came_by (λ (w : MissedNote). RisenMaps (idle_disks idle) (site_disks new) w) next d new is noted (came.some d is)
      (λ bright tells. came.none d is (had.maps (or_off dims note.dark (sym dark ∙ bright)).1).rests)
  comes_up n note next dims (Marked rack) new d had down dark is noted came = absurd down
  comes_up n note next dims Gone new d had down dark is noted came = absurd down

  -- so the line says of the note, where no more may be on the disks than is noted
  pub recovered_so : (n : Node) (note next : GroupNode) (old : GroupSite R g) (new : Meaning) → DownNoted n note old → note.dark ≡ false → IsTrue new.tells → RisenMaps (site_disks old) new next.maps → (was : Config) → NotesConfig note was
      → (note.loose ≡ false → note.begun ≡ [] → (v b : ℕ) → b < next.bytes.size v → (next.others v b ≡ []) ⊎ ((v < length was.volumes) × StopsClean was v)) → MapsRecovered note next
  recovered_so n note next (Up group) new down bright tells it was noted ones = absurd down
  recovered_so n note next (Deported idle) new down bright tells it was noted ones = absurd down
  recovered_so n note next (Down idle) new down bright tells it was noted ones = record {
    none = it.mapped;
    doubt = λ v on. stopped_why note down.last (idle_disks idle) down.away.found down.away.runs bright v (it.doubt v on tells);
    one = λ tight none v b low. by v b (ones tight none v b low);
  }
    where
      same : was.volumes ≡ down.last.volumes
      same =
          ap (λ (c : Config). c.volumes)
          (one_config (at_serial 0 was) (at_serial 0 down.last) (sym (config_is note.config was noted.is noted.spells) ∙ config_is note.config down.last down.away.config down.spells))

      by : (v b : ℕ) → (next.others v b ≡ []) ⊎ ((v < length was.volumes) × StopsClean was v) → next.others v b ≡ []
      by v b (inl none) = none
      by v b (inr clean) = absurd (never_clean was down.last same v (down.away.runs bright v (subst (λ (vs : List VolumeEntry). v < length vs) same clean.0)) clean.1)
  recovered_so n note next (Marked rack) new down bright tells it was noted ones = absurd down
  recovered_so n note next Gone new down bright tells it was noted ones = absurd down

  -- ---- one that is refused

  away_by : (m : Node) (k : GroupNode) (c : Config) (e : GroupSite R g) → AwayNoted m k e → k.config ≡ noted_config c → HasSpelling (at_serial 0 c) → (k.dark ≡ false → MapsOf k.maps c e) → StandMaps k e
  away_by m k c (Up group) away is spells it = absurd away
  away_by m k c (Deported idle) away is spells it = record { config = c; is = is; spells = spells; up = λ d some. absurd (let clash : None ≡ Some d = some in cc); maps = it }
  away_by m k c (Down idle) away is spells it = absurd away
  away_by m k c (Marked rack) away is spells it = absurd away
  away_by m k c Gone away is spells it = absurd away

  down_by : (m : Node) (k : GroupNode) (c : Config) (e : GroupSite R g) → DownNoted m k e → k.config ≡ noted_config c → HasSpelling (at_serial 0 c) → (k.dark ≡ false → MapsOf k.maps c e) → StandMaps k e
  down_by m k c (Up group) down is spells it = absurd down
  down_by m k c (Deported idle) down is spells it = absurd down
  down_by m k c (Down idle) down is spells it = record { config = c; is = is; spells = spells; up = λ d some. absurd (let clash : None ≡ Some d = some in cc); maps = it }
  down_by m k c (Marked rack) down is spells it = absurd down
  down_by m k c Gone down is spells it = absurd down

  first_away : (n : Node) (note : GroupNode) (old new : GroupSite R g) (stop : Stop) (had : StandMaps note old) → AwayNoted n note old → note.dark ≡ false → stops_early stop ≡ true → CameMapped old new (Err stop) → MapsOf note.maps had.config new
  first_away n note (Up group) new stop had away bright early came = absurd away
  first_away n note (Deported idle) new stop had away bright early came = came early note.maps had.config (had.maps bright)
  first_away n note (Down idle) new stop had away bright early came = absurd away
  first_away n note (Marked rack) new stop had away bright early came = absurd away
  first_away n note Gone new stop had away bright early came = absurd away

  first_down : (n : Node) (note : GroupNode) (old new : GroupSite R g) (stop : Stop) (had : StandMaps note old) → DownNoted n note old → note.dark ≡ false → stops_early stop ≡ true → CameMapped old new (Err stop) → MapsOf note.maps had.config new
  first_down n note (Up group) new stop had down bright early came = absurd down
  first_down n note (Deported idle) new stop had down bright early came = absurd down
  first_down n note (Down idle) new stop had down bright early came = came early note.maps had.config (had.maps bright)
  first_down n note (Marked rack) new stop had down bright early came = absurd down
  first_down n note Gone new stop had down bright early came = absurd down

  -- behind an import: where it is known still what the disks hold, nothing was written
  pub stays_away : (n m : Node) (note : GroupNode) (late dims : Bool) (old new : GroupSite R g) (stop : Stop) → StandMaps note old → AwayNoted n note old → AwayNoted m (dimmed_by late dims note) new → late ≡ not (stops_early stop)
      → CameMapped old new (Err stop) → StandMaps (dimmed_by late dims note) new
  stays_away n m note late dims old new stop had away there late_is came =
      away_by m (dimmed_by late dims note) had.config new there had.is had.spells
      (λ bright.
      let first = or_off late (dims || note.dark) bright in
      first_away n note old new stop had away (or_off dims note.dark first.1).1 (early_by (stops_early stop) (sym late_is ∙ first.0)) came)

  -- behind a recovery
  pub stays_down : (n m : Node) (note : GroupNode) (late dims : Bool) (old new : GroupSite R g) (stop : Stop) → StandMaps note old → DownNoted n note old → DownNoted m (dimmed_by late dims note) new → late ≡ not (stops_early stop)
      → CameMapped old new (Err stop) → StandMaps (dimmed_by late dims note) new
  stays_down n m note late dims old new stop had down there late_is came =
      down_by m (dimmed_by late dims note) had.config new there had.is had.spells
      (λ bright.
      let first = or_off late (dims || note.dark) bright in
      first_down n note old new stop had down (or_off dims note.dark first.1).1 (early_by (stops_early stop) (sym late_is ∙ first.0)) came)

  -- and where the fuse ran out in an import
  pub fell_dark : (m : Node) (note : GroupNode) (dims : Bool) (old new : GroupSite R g) → StandMaps note old → DownNoted m (dimmed_by true dims note) new → StandMaps (dimmed_by true dims note) new
  fell_dark m note dims old new had down = down_by m (dimmed_by true dims note) had.config new down had.is had.spells (λ bright. absurd (let clash : true ≡ false = bright in cc))
