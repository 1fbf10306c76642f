-- What an import makes of what is noted of the maps of a group.
use Rattle.std.proofs.Common.{◌≡◌, ◌∙◌, ◌<◌, ◌≤◌, ◌*◌, ◌&&◌, inl, ℕ, Bool, true, false, List, length, refl, sym, ap, subst, IsTrue, arith}
use Rattle.std.specs.Prelude.{Option, None, Some, ltb, not, slice_get}
use Rattle.std.proofs.lemmas.Bool.{lt-ltb, ltb-true}
use Rattle.std.proofs.lemmas.Option.{slice_get_within}
use Rattle.vx_config.specs.Checks.{blocks_of, plexes_of}
use Rattle.vx_config.specs.declared.config.Config.{Config}
use Rattle.vx_config.specs.declared.entry.LogEntry.{LogEntry}
use Rattle.vx_config.specs.declared.entry.VolumeEntry.{VolumeEntry}
use Rattle.vx_config.specs.declared.entry.VolumeLog.TheVariants.{Fmr}
use Rattle.vx_copies.specs.Answers.{returned}
use Rattle.vx_copyfmt.specs.Imports.{Found}
use Rattle.vx_disk.specs.Shelf.{Each, Lawful, Meaning}
use Rattle.vx_fmr.specs.Missed.{Missed}
use Rattle.vx_group.specs.Resumes.{CanImport, stopped}
use Rattle.vx_group.specs.declared.group_core.GroupCore.{GroupCore}
use Rattle.vx_group.proofs.HoldLemmas.{narrow_on, wide_shape}
use Rattle.vx_grouplogs.proofs.LogShape.{same_count}
use Rattle.vx_history.specs.Groups.{MissedNote}
use Rattle.vx_history.specs.Missing.{maps_none}
use Rattle.vx_kept.specs.Commits.{IsCommitted}
use Rattle.vx_kept.specs.Groups.{found}
use Rattle.vx_kept.specs.Keeping.{frame_at}
use Rattle.vx_kept.proofs.Chosen.{frames_volumes}
use Rattle.vx_logimport.specs.Rests.{RestsNone}
use Rattle.vx_logimport.specs.declared.rested.Rested.{Rested}
use Rattle.vx_loggroup.specs.Attaching.{fmr_at}
use Rattle.vx_loggroup.specs.LoggedVolumes.{LoggedStands, is_alike}
use Rattle.vx_loggroup.specs.Moving.{IsThere, MapTaken, goes_by, missed_by}
use Rattle.vx_loggroup.specs.Opens.{IsOpened}
use Rattle.vx_loggroup.specs.Taking.{MapsMay}
use Rattle.vx_loggroup.proofs.RestingLemmas.{none_below}
use Rattle.vx_logs.specs.Marks.{stride_of}
use Rattle.vx_logs.specs.declared.logs.Logs.{Logs}
use Rattle.vx_maplog.specs.Logs.{log_of, log_or}
use Rattle.vx_model.specs.Sizes.{map_blocks, regions_of}
use Rattle.vx_model.specs.declared.limits.TheConstants.{MAP_REGIONS}
use Rattle.vx_volume.specs.Plexes.{active}
use Rattle.vx_grouped.specs.MapsNoted.{MapsNoted}
use Rattle.vx_grouped.specs.PlainMaps.{PartsBack, map_parts}
use Rattle.vx_grouped.specs.Clean.{StopsClean}
use Rattle.vx_grouped.specs.SiteMaps.{BackMaps, IdleMaps, RisenMaps}
use Rattle.vx_grouped.proofs.BackMapLemmas.{back_maps, back_note, back_noted}
use Rattle.vx_grouped.proofs.MapStandLemmas.{logs_of}
use Rattle.vx_grouped.proofs.NotedMapLemmas.{map_in}
use Rattle.vx_grouped.proofs.WrittenMapLemmas.{on_count}

-- ---- volumes that stopped cleanly

-- none of its plexes is ACTIVE
pub clean_of : (c : Config) (v : ℕ) → stopped c v ≡ false → StopsClean c v
unfolding stopped
clean_of c v off = record { each = λ p. by p (active c v p) refl }
  where
    by : (p : ℕ) (x : Bool) → active c v p ≡ x → active c v p ≡ false
    by p false is = is
    by p true is = none_below (active c v) (plexes_of c v) off p (on_count c v p is)

log_low : (c : Config) (v : ℕ) (e : LogEntry) → log_of c v Fmr ≡ Some e → v < length c.volumes
log_low c v e is = by (slice_get c.volumes v) refl is
  where
    by : (o : Option VolumeEntry) → slice_get c.volumes v ≡ o → log_or Fmr o ≡ Some e → v < length c.volumes
    by None at is = absurd (let clash : None ≡ Some e = is in cc)
    by (Some x) at is = slice_get_within c.volumes v x at

found_is : (x y : Config) → Found x ≡ Found y → x ≡ y
found_is x y is = cc

not_both : (x : Bool) → (x ≡ true → ⊥) → x ≡ false
not_both true none = absurd (none refl)
not_both false none = refl

sure_flag : (x y : Bool) → (x && not y) ≡ false → x ≡ true → y ≡ true
sure_flag true true off on = refl
sure_flag true false off on = let clash : true ≡ false = off in cc
sure_flag false y off on = let clash : false ≡ true = on in cc

left_flag : (x y : Bool) → (x && not y) ≡ true → (x ≡ true) × (y ≡ false)
left_flag true false is = (refl, refl)
left_flag true true is = let clash : false ≡ true = is in cc
left_flag false y is = let clash : false ≡ true = is in cc

-- ---- what memory has

not_off : (x : Bool) → not x ≡ false → x ≡ true
not_off true off = refl
not_off false off = let clash : true ≡ false = off in cc

abbrev pub memory_note : Config → List Logs → List Bool → Bool → MissedNote
memory_note d logs flags t = record {
  mapped = goes_by logs d t;
  missed = λ v p r. missed_by (fmr_at logs v) true p r;
  perhaps = λ v p r. false;
  doubt = λ v. not (is_alike flags v);
  serial = d.serial;
}

-- what memory has, whatever was noted
pub memory_noted : (d : Config) (logs : List Logs) (flags : List Bool) (t : Bool) → MapsNoted (memory_note d logs flags t) d logs flags t
memory_noted d logs flags t = record {
  mapped = λ v. refl;
  most = λ v p r f on at it has. inl (ap (λ (o : Option Missed). missed_by o true p r) at ∙ has);
  least = λ v p r f on at it off has. sym (ap (λ (o : Option Missed). missed_by o true p r) at) ∙ has;
  alike = λ v low sure. not_off (is_alike flags v) sure;
  serial = refl;
}

module _ {S : Type 0} (meaning : S → Meaning) (rested : Rested) (old : Meaning) (law : Lawful old) (can : CanImport old) (core : GroupCore) (logs : List Logs) (flags : List Bool) (ended : Bool) (new : Meaning) (it : IsOpened meaning rested old core logs flags ended new)
    (stands : LoggedStands core logs flags ended new) where
  -- ---- the configuration that was found

  abbrev x : Config
  x = it.resumed.config

  frames_x : (v : ℕ) → frame_at core.inner.config v ≡ frame_at x v
  frames_x v =
      it.loses.frames v ∙ it.resumed.shape.frames v ∙ it.resumed.taken.opens.alike.shape.frames v ∙ frames_volumes (returned it.resumed.taken.readable x) x refl v

  blocks_k : (v : ℕ) → blocks_of core.inner.config.volumes v ≡ blocks_of it.marked.core.config.volumes v
  blocks_k v = let size = it.goes.size v in let same = (wide_shape core).blocks v in omega (arith, size, same)

  blocks_x : (v : ℕ) → blocks_of core.inner.config.volumes v ≡ blocks_of x.volumes v
  blocks_x v =
      let two : blocks_of it.resumed.opened.volumes v ≡ blocks_of x.volumes v = it.resumed.taken.opens.alike.shape.blocks v in
      blocks_k v ∙ it.resumed.shape.blocks v ∙ two

  many_k : length core.inner.config.volumes ≡ length it.marked.core.config.volumes
  many_k = let units = it.goes.units in let same = (wide_shape core).volumes in omega (arith, units, same)

  many_x : length core.inner.config.volumes ≡ length x.volumes
  many_x =
      let two : length it.resumed.opened.volumes ≡ length x.volumes = it.resumed.taken.opens.alike.shape.volumes in
      many_k ∙ it.resumed.shape.volumes ∙ two

  -- a volume stopped cleanly where the import says so
  clean_x : (v : ℕ) → stopped x v ≡ false → StopsClean x v
  clean_x = clean_of x

  -- of one whose plexes are not alike
  not_alike : (v : ℕ) → v < length core.inner.config.volumes → is_alike flags v ≡ false → stopped x v ≡ false
  not_alike v low off = not_both (stopped x v) (λ on. let clash : false ≡ true = sym off ∙ it.mended v (subst (λ (n : ℕ). v < n) many_k low) on in cc)

  none_of : (o : Option Missed) (f : Missed) → o ≡ Some f → o ≡ None → ⊥
  none_of o f is none = let clash : None ≡ Some f = sym none ∙ is in cc

  -- why a map is in memory
  why_map : (v : ℕ) (f : Missed) → fmr_at logs v ≡ Some f → MapsMay it.marked.good it.marked.core.config it.marked.stopped rested v
  why_map v f at = let one = logs_of logs v f at in it.maps.each v one.one one.at (none_of one.one.fmr f one.has)

  log_volume : (v : ℕ) (f : Missed) → fmr_at logs v ≡ Some f → v < length core.inner.config.volumes
  log_volume v f at =
      let one = logs_of logs v f at in
      let low = slice_get_within logs v one.one one.at in
      let many = stands.many in
      let same = (wide_shape core).volumes in
      omega (arith, low, many, same)

  clean_map : (v : ℕ) (f : Missed) → fmr_at logs v ≡ Some f → stopped x v ≡ false
  clean_map v f at = sym (it.resumed.flags v (subst (λ (n : ℕ). v < n) many_k (log_volume v f at))) ∙ (why_map v f at).clean

  -- ---- the image that was read

  each_told : IsTrue new.tells → Each old.leaves it.resumed.taken.image
  each_told tells = λ u b. law.shown u b (it.resumed.taken.image u b) (it.resumed.taken.read (sym it.resumed.goes.tells ∙ sym it.goes.tells ∙ tells) u b)

  finds_x : IsTrue new.tells → found old it.resumed.taken.image ≡ Found x
  finds_x tells = can.one it.resumed.taken.image it.resumed.taken.image it.resumed.taken.readable x (each_told tells) (each_told tells) it.resumed.taken.is

  low_x : (v : ℕ) → v < length core.inner.config.volumes → v < length x.volumes
  low_x v low = subst (λ (n : ℕ). v < n) many_x low

  module _ (c : Config) (tells : IsTrue new.tells) (all : IsCommitted c old) where
    each : Each old.leaves it.resumed.taken.image
    each = each_told tells

    one : x ≡ c
    one = found_is x c (sym (finds_x tells) ∙ all.finds it.resumed.taken.image each)

    -- the serial does not fall
    serial_later : c.serial ≤ core.inner.config.serial
    serial_later =
        let was = it.resumed.resumed in
        let has : Each old.leaves was.taken.image = λ u b. law.shown u b (was.taken.image u b) (was.taken.read (sym was.goes.tells ∙ sym it.goes.tells ∙ tells) u b) in
        let here : was.config ≡ c = found_is was.config c (sym (can.one was.taken.image was.taken.image was.taken.readable was.config has has was.taken.is) ∙ all.finds was.taken.image has) in
        let first : c.serial ≡ was.config.serial = ap (λ (y : Config). y.serial) (sym here) in
        let opened : was.opened.serial ≡ was.config.serial = was.taken.opens.alike.serial in
        let one = was.loses.parts.later in
        let two = it.loses.parts.later in
        omega (arith, first, opened, one, two)

    low_c : (v : ℕ) → v < length core.inner.config.volumes → v < length c.volumes
    low_c v low = subst (λ (y : Config). v < length y.volumes) one (low_x v low)

    -- ---- an import of a group that was deported

    module _ (w : MissedNote) (idle : IdleMaps w c (Some rested) old) where
      blocks : (v : ℕ) → blocks_of core.inner.config.volumes v ≡ blocks_of c.volumes v
      blocks v = blocks_x v ∙ ap (λ (y : Config). blocks_of y.volumes v) one

      count : (v : ℕ) → plexes_of core.inner.config v ≡ plexes_of c v
      count v = same_count x core.inner.config v (frames_x v) (blocks_x v) ∙ ap (λ (y : Config). plexes_of y v) one

      plexes : (v p r : ℕ) → goes_by logs core.inner.config ended v ≡ true → IsThere core.inner.config v p r → IsThere c v p r
      plexes v p r on at = record { plex = subst (λ (n : ℕ). p < n) (count v) at.plex; region = subst (λ (n : ℕ). r < n) (ap regions_of (blocks v)) at.region }

      strides : (v : ℕ) → goes_by logs core.inner.config ended v ≡ true → stride_of core.inner.config v ≡ stride_of c v
      strides v on = by (blocks_of core.inner.config.volumes v) (blocks_of c.volumes v) (blocks v)
        where
          by : (a b : ℕ) → a ≡ b → MAP_REGIONS * map_blocks a ≡ MAP_REGIONS * map_blocks b
          by a b same = ap (λ (n : ℕ). MAP_REGIONS * map_blocks n) same

      taken : (v : ℕ) (f : Missed) → goes_by logs core.inner.config ended v ≡ true → fmr_at logs v ≡ Some f → (w.mapped v ≡ true) × MapTaken c core.inner.config v f it.resumed.taken.image
      taken v f on at =
          let took = it.took.each v f it.resumed.taken.image c at each (all.finds it.resumed.taken.image each) in
          (idle.known it.resumed.taken.image rested v took.entry each refl (why_map v f at).maps (log_low c v took.entry took.used.is) took.used took.good, took)

      clean : (v : ℕ) → goes_by logs core.inner.config ended v ≡ true → StopsClean c v
      clean v on = let f = map_in logs core.inner.config ended v on in subst (λ (y : Config). StopsClean y v) one (clean_x v (clean_map v f.0 f.1))

      doubts : (v : ℕ) → v < length core.inner.config.volumes → is_alike flags v ≡ false → (w.doubt v ≡ true) × StopsClean c v
      doubts v low off = (by (w.doubt v) refl, subst (λ (y : Config). StopsClean y v) one (clean_x v (not_alike v low off)))
        where
          by : (b : Bool) → w.doubt v ≡ b → w.doubt v ≡ true
          by true is = is
          by false is = absurd (let clash : false ≡ true = sym off ∙ it.resting v (subst (λ (n : ℕ). v < n) many_k low) (idle.alike rested refl v (low_c v low) is) in cc)

      not_before : w.serial ≤ core.inner.config.serial
      not_before = let noted = idle.serial it.resumed.taken.image each in let later = serial_later in omega (arith, noted, later)

      came_noted : MapsNoted (back_note w c core.inner.config logs flags ended) core.inner.config logs flags ended
      came_noted =
          back_noted w c c core.inner.config logs flags ended it.resumed.taken.image old new (idle.disks.each it.resumed.taken.image c each (all.finds it.resumed.taken.image each)) plexes strides taken
          (narrow_on core new stands.group) clean doubts not_before

      came_maps : BackMaps old new c core.inner.config w (back_note w c core.inner.config logs flags ended)
      came_maps =
          back_maps w c c core.inner.config logs flags ended it.resumed.taken.image old new (idle.disks.each it.resumed.taken.image c each (all.finds it.resumed.taken.image each)) plexes strides taken
          (narrow_on core new stands.group) clean doubts not_before

  -- ---- a recovery, which knows no map

  module _ (none : RestsNone rested) where
    no_maps : (v : ℕ) → goes_by logs core.inner.config ended v ≡ false
    no_maps v =
        not_both (goes_by logs core.inner.config ended v)
        (λ on. let f = map_in logs core.inner.config ended v on in let clash : false ≡ true = sym (none.maps v) ∙ (why_map v f.0 f.1).maps in cc)

    abbrev crashed_note : MissedNote
    crashed_note = record (maps_none core.inner.config.serial) { doubt = λ v. ltb v (length core.inner.config.volumes) && not (is_alike flags v) }

    crashed_noted : MapsNoted crashed_note core.inner.config logs flags ended
    crashed_noted = record {
      mapped = λ v. sym (no_maps v);
      most = λ v p r f on at it has. let clash : false ≡ true = on in cc;
      least = λ v p r f on at it off has. let clash : false ≡ true = on in cc;
      alike = λ v low sure. sure_flag (ltb v (length core.inner.config.volumes)) (is_alike flags v) sure (lt-ltb v (length core.inner.config.volumes) low);
      serial = refl;
    }

    crashed_risen : RisenMaps old new crashed_note
    crashed_risen = record {
      mapped = λ v. refl;
      doubt = λ v is tells.
          let flag = left_flag (ltb v (length core.inner.config.volumes)) (is_alike flags v) is in
          let low = ltb-true v (length core.inner.config.volumes) flag.0 in
          record { image = it.resumed.taken.image; config = x; each = each_told tells; finds = finds_x tells; clean = clean_x v (not_alike v low flag.1); low = low_x v low };
    }

  pub parts_came : PartsBack rested old (map_parts core.inner.config logs flags ended) new
  parts_came = record {
    so = λ w c tells idle. (back_note w c core.inner.config logs flags ended, came_maps c tells idle.all w idle, came_noted c tells idle.all w idle);
    some = (memory_note core.inner.config logs flags ended, memory_noted core.inner.config logs flags ended);
    none = λ none. (crashed_note none, crashed_risen none, crashed_noted none);
  }
