-- What the disks of a group with logs have of the regions that plexes missed, by what is noted of its maps in memory.
use Rattle.std.proofs.Common.{◌≡◌, ◌<◌, ℕ, Bool, true, false, List, [], ap, length, refl, sym, ◌∙◌, subst, arith}
use Rattle.std.specs.Prelude.{Option, Some, None, not, slice_get}
use Rattle.std.proofs.lemmas.Option.{slice_get_within}
use Rattle.vx_config.specs.Checks.{blocks_of, plexes_of, plexes_or}
use Rattle.vx_config.specs.declared.config.Config.{Config}
use Rattle.vx_config.specs.declared.entry.VolumeEntry.{VolumeEntry}
use Rattle.vx_config.specs.declared.entry.VolumeLog.TheVariants.{Fmr}
use Rattle.vx_copyfmt.specs.Imports.{Found}
use Rattle.vx_disk.specs.Shelf.{Each, Image, Meaning}
use Rattle.vx_fmr.specs.Missed.{Missed}
use Rattle.vx_group.specs.Holding.{wide}
use Rattle.vx_group.specs.declared.group_core.GroupCore.{GroupCore}
use Rattle.vx_group.proofs.HoldLemmas.{narrow_sound, wide_shape}
use Rattle.vx_grouplogs.proofs.LogShape.{fits_same}
use Rattle.vx_history.specs.Groups.{MissedNote}
use Rattle.vx_history.specs.Missing.{maps_none}
use Rattle.vx_kept.specs.Groups.{found}
use Rattle.vx_kept.specs.LogRuns.{log_place}
use Rattle.vx_logs.specs.declared.logs.Logs.{Logs}
use Rattle.vx_model.specs.Sizes.{regions_of}
use Rattle.vx_loggroup.specs.Attaching.{fmr_at, fmr_or}
use Rattle.vx_loggroup.specs.LoggedVolumes.{LoggedStands, is_alike}
use Rattle.vx_loggroup.specs.Moving.{IsThere, goes_by}
use Rattle.vx_grouped.specs.MapsNoted.{MapsNoted, MapsOnDisk}
use Rattle.vx_grouped.specs.SiteMaps.{DiskMaps}
use Rattle.vx_grouped.proofs.DiskMapLemmas.{MapLies, disk_noted, log_there, map_lies}
use Rattle.vx_grouped.proofs.NotedMapLemmas.{map_in}

-- the logs of a volume whose maps are in memory
pub record LogsOf (logs : List Logs) (v : ℕ) (f : Missed) : Type 0 where
  pub one : Logs
  pub at : slice_get logs v ≡ Some one
  pub has : one.fmr ≡ Some f

pub logs_of : (logs : List Logs) (v : ℕ) (f : Missed) → fmr_at logs v ≡ Some f → LogsOf logs v f
logs_of logs v f is = by (slice_get logs v) refl is
  where
    by : (o : Option Logs) → slice_get logs v ≡ o → fmr_or o ≡ Some f → LogsOf logs v f
    by None at is = let clash : None ≡ Some f = is in cc
    by (Some l) at is = record { one = l; at = at; has = is }

-- a volume with a plex is there
pub volume_there : (c : Config) (v p : ℕ) → p < plexes_of c v → v < length c.volumes
volume_there c v p low = by (slice_get c.volumes v) refl low
  where
    by : (o : Option VolumeEntry) → slice_get c.volumes v ≡ o → p < plexes_or o → v < length c.volumes
    by None none low = absurd (omega (arith, low))
    by (Some x) is low = slice_get_within c.volumes v x is

some_blocks : (blocks r : ℕ) → r < regions_of blocks → 0 < blocks
some_blocks blocks r low = omega (arith, low)

module _ (core : GroupCore) (logs : List Logs) (flags : List Bool) (stopped : Bool) (m : Meaning) (stands : LoggedStands core logs flags stopped m) where
  pub stood_lies : (v p r : ℕ) (f : Missed) → stopped ≡ false → fmr_at logs v ≡ Some f → IsThere core.inner.config v p r → MapLies core.inner.config v f m
  stood_lies v p r f going at it =
      let l = logs_of logs v f at in
      let on = (stands.each v l.one l.at).on going in
      let shape = wide_shape core in
      let fits = fits_same (wide core).config core.inner.config v (sym (shape.frames v)) (sym (shape.blocks v)) (λ log. sym (shape.logs v log)) l.one on.fits in
      map_lies core.inner.config (narrow_sound core m stands.group) v (some_blocks (blocks_of core.inner.config.volumes v) r it.region) f m (fits.fmr f l.has) (on.stands.fmr f l.has)

  -- so it is in an image with the same logs of these volumes
  pub up_disk : (w : MissedNote) (x : Config) (i : Image) → MapsNoted w core.inner.config logs flags stopped → Each m.leaves i → ((v : ℕ) → v < length core.inner.config.volumes → log_place x v Fmr ≡ log_place core.inner.config v Fmr)
      → MapsOnDisk w core.inner.config x i
  up_disk w x i noted each same =
      disk_noted w core.inner.config x logs flags stopped m i noted (λ v p r f going at it. stood_lies v p r f going at it)
      (λ v p r e it is. log_there core.inner.config x v (same v (volume_there core.inner.config v p it.plex)) e is) each

  -- so it is of each image that a crash may leave, by the configuration that is found in it
  pub up_found : (w : MissedNote) (x : Config) (i : Image) → MapsNoted w core.inner.config logs flags stopped → Each m.leaves i → found m i ≡ Found x → MapsOnDisk w core.inner.config x i
  up_found w x i noted each at =
      let shape = wide_shape core in
      let kin = stands.group.stands.kept.kin i x each at in
      up_disk w x i noted each (λ v low. kin.shape.logs v Fmr (subst (λ (n : ℕ). v < n) (sym shape.volumes) low) ∙ shape.logs v Fmr)

  -- and of disks of which a crash leaves nothing else
  pub crash_maps : (w : MissedNote) (new : Meaning) → MapsNoted w core.inner.config logs flags stopped → ((i : Image) → Each new.leaves i → Each m.leaves i) → ((i : Image) → found new i ≡ found m i) → DiskMaps w core.inner.config new
  crash_maps w new noted within same = record { each = λ i x each at. up_found w x i noted (within i each) (sym (same i) ∙ at) }

-- A recovery knows no map: where attaches go by none, that is noted.
pub none_noted : (c : Config) (logs : List Logs) (flags : List Bool) (stopped : Bool) → ((v : ℕ) → goes_by logs c stopped v ≡ false) → MapsNoted (record (maps_none c.serial) { doubt = λ v. not (is_alike flags v) }) c logs flags stopped
none_noted c logs flags stopped none = record {
  mapped = λ v. sym (none v);
  most = λ v p r f on at it has. let clash : false ≡ true = on in cc;
  least = λ v p r f on at it off has. let clash : false ≡ true = on in cc;
  alike = λ v low sure. not_false (is_alike flags v) sure;
  serial = refl;
}
  where
    not_false : (x : Bool) → not x ≡ false → x ≡ true
    not_false true off = refl
    not_false false off = let clash : true ≡ false = off in cc

-- of what is not known nothing is asked of disks
pub none_on_disks : (serial : ℕ) (c : Config) (m : Meaning) → DiskMaps (maps_none serial) c m
none_on_disks serial c m = record {
  each = λ i x each at. record {
    most = λ e v p r on used it has. let clash : false ≡ true = on in cc;
    least = λ e v p r on used it old has. let clash : false ≡ true = on in cc;
  };
}

-- A group without volumes has no map.
pub empty_noted : (c : Config) (logs : List Logs) (flags : List Bool) (stopped : Bool) → c.volumes ≡ [] → length logs ≡ length c.volumes → MapsNoted (maps_none c.serial) c logs flags stopped
empty_noted c logs flags stopped none many = record {
  mapped = λ v. sym (goes v);
  most = λ v p r f on at it has. let clash : false ≡ true = on in cc;
  least = λ v p r f on at it off has. let clash : false ≡ true = on in cc;
  alike = λ v low sure. absurd (omega (arith, low, count));
  serial = refl;
}
  where
    count : length c.volumes ≡ 0
    count = ap (λ (vs : List VolumeEntry). length vs) none

    by : (v : ℕ) (x : Bool) → goes_by logs c stopped v ≡ x → goes_by logs c stopped v ≡ false
    by v false is = is
    by v true is = let f = map_in logs c stopped v is in let one = logs_of logs v f.0 f.1 in let low = slice_get_within logs v one.one one.at in absurd (omega (arith, low, many, count))

    goes : (v : ℕ) → goes_by logs c stopped v ≡ false
    goes v = by v (goes_by logs c stopped v) refl
