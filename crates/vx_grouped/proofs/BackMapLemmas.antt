-- What is known of the regions that plexes missed, as a group that was deported comes up again.
use Rattle.std.proofs.Common.{◌≡◌, ◌<◌, ◌≤◌, ◌&&◌, ℕ, Bool, true, false, List, length, refl, inr}
use Rattle.std.proofs.lemmas.Bool.{lt-ltb, ltb-true}
use Rattle.std.specs.Prelude.{Some, ltb, not}
use Rattle.vx_config.specs.declared.config.Config.{Config}
use Rattle.vx_disk.specs.Shelf.{Image, Meaning}
use Rattle.vx_fmr.specs.Missed.{Missed}
use Rattle.vx_history.specs.Groups.{MissedNote}
use Rattle.vx_history.specs.Missing.{maps_returned}
use Rattle.vx_logs.specs.Marks.{stride_of}
use Rattle.vx_logs.specs.declared.logs.Logs.{Logs}
use Rattle.vx_loggroup.specs.Attaching.{fmr_at}
use Rattle.vx_loggroup.specs.LoggedVolumes.{is_alike}
use Rattle.vx_loggroup.specs.Moving.{IsThere, MapTaken, goes_by}
use Rattle.vx_grouped.specs.MapsNoted.{MapsNoted, MapsOnDisk}
use Rattle.vx_grouped.specs.Clean.{StopsClean}
use Rattle.vx_grouped.specs.SiteMaps.{BackMaps}
use Rattle.vx_grouped.proofs.DiskMapLemmas.{noted_returned}
use Rattle.vx_grouped.proofs.NotedMapLemmas.{map_in}
use Rattle.vx_kept.specs.Choice.{live}
use Rattle.vx_kept.specs.Keeping.{AllOn}

first_of : (x y : Bool) → (x && y) ≡ true → x ≡ true
first_of true y is = refl
first_of false y is = let clash : false ≡ true = is in cc

second_of : (x y : Bool) → (x && y) ≡ true → y ≡ true
second_of true y is = is
second_of false y is = let clash : false ≡ true = is in cc

is_off : (x : Bool) → not x ≡ true → x ≡ false
is_off true is = let clash : false ≡ true = is in cc
is_off false is = refl

is_on : (x y : Bool) → (x && not y) ≡ false → x ≡ true → y ≡ true
is_on true true off on = refl
is_on true false off on = let clash : true ≡ false = off in cc
is_on false y off on = let clash : false ≡ true = on in cc

-- what is noted then
abbrev pub back_note : MissedNote → Config → Config → List Logs → List Bool → Bool → MissedNote
back_note w c d logs flags t = maps_returned (goes_by logs d t) d.serial (live c) (live d) (λ v. ltb v (length d.volumes) && not (is_alike flags v)) w

-- The image i had the configuration x, where c was noted; d is in memory now. The maps that are there are those of the image, of volumes of which they were known and
-- which stopped cleanly; only the plexes of one that stopped so, and of which a write had failed, are not said to be alike.
module _ (w : MissedNote) (c x d : Config) (logs : List Logs) (flags : List Bool) (t : Bool) (i : Image) (m m' : Meaning) (disk : MapsOnDisk w c x i)
    (plexes : (v p r : ℕ) → goes_by logs d t v ≡ true → IsThere d v p r → IsThere c v p r) (strides : (v : ℕ) → goes_by logs d t v ≡ true → stride_of d v ≡ stride_of c v)
    (taken : (v : ℕ) (f : Missed) → goes_by logs d t v ≡ true → fmr_at logs v ≡ Some f → (w.mapped v ≡ true) × MapTaken x d v f i) (all : AllOn d)
    (clean : (v : ℕ) → goes_by logs d t v ≡ true → StopsClean c v) (doubts : (v : ℕ) → v < length d.volumes → is_alike flags v ≡ false → (w.doubt v ≡ true) × StopsClean c v) (later : w.serial ≤ d.serial) where
  pub back_noted : MapsNoted (back_note w c d logs flags t) d logs flags t
  back_noted =
      let it = noted_returned w c x d logs flags t i disk plexes strides taken all in
      record {
        mapped = λ v. refl;
        most = it.most;
        least = it.least;
        alike = λ v low sure. is_on (ltb v (length d.volumes)) (is_alike flags v) sure (lt-ltb v (length d.volumes) low);
        serial = refl;
      }

  -- memory may have been wanting for those that are not there
  pub back_maps : BackMaps m m' c d w (back_note w c d logs flags t)
  back_maps = record {
    back = record {
      stays = λ v on stopped. inr (inr tt);
      only = λ v on. let f = map_in logs d t v on in ((taken v f.0 on f.1).0, clean v on);
      missed = λ v p r on. refl;
      perhaps = λ v p r on. refl;
      doubt = λ v is.
          doubts v (ltb-true v (length d.volumes) (first_of (ltb v (length d.volumes)) (not (is_alike flags v)) is)) (is_off (is_alike flags v) (second_of (ltb v (length d.volumes)) (not (is_alike flags v)) is));
      later = later;
    };
  }
