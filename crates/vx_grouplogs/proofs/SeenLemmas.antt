-- The log of a volume stands on beside calls that leave its blocks alone and show nothing new of the volume.
use Rattle.std.proofs.Common.{◌≡◌, ◌∙◌, ℕ, ◌+◌, ◌/◌, true, List, refl, sym, subst, arith}
use Rattle.vx_bitmap.specs.Maps.{Map, MapOn}
use Rattle.vx_config.specs.Checks.{blocks_of as blocks_in, is_sound}
use Rattle.vx_config.specs.declared.config.Config.{Config}
use Rattle.vx_config.specs.declared.entry.VolumeLog.{VolumeLog}
use Rattle.vx_config.specs.declared.entry.VolumeLog.TheVariants.{Drl as DrlLog, Fmr as FmrLog}
use Rattle.vx_disk.specs.Shelf.{Meaning}
use Rattle.vx_kept.specs.Groups.{OnSome}
use Rattle.vx_kept.specs.Keeping.{frame_at}
use Rattle.vx_kept.specs.LogRuns.{log_place, log_trusted}
use Rattle.vx_logs.specs.declared.logs.Logs.{Logs}
use Rattle.vx_maplog.specs.Logs.{LogLoaded}
use Rattle.vx_volume.specs.Plexes.{DisksFit, Inside}
use Rattle.vx_grouplogs.specs.Covering.{AllAlike, DiskCovers, OnLogs}
use Rattle.vx_grouplogs.specs.On.{VolumeOn}
use Rattle.vx_grouplogs.proofs.CoverLemmas.{region_inside, some_of}
use Rattle.vx_grouplogs.proofs.LogPlaces.{entry_blocks, map_on}
use Rattle.vx_grouplogs.proofs.LogShape.{fits_same, run_back, run_in}

-- a volume lies where it lay, and so do its logs
pub record KeepsVolume (v : ℕ) (c d : Config) : Type 0 where
  pub inside : (b : ℕ) → Inside d v b → Inside c v b
  pub blocks : blocks_in d.volumes v ≡ blocks_in c.volumes v
  pub logs : (log : VolumeLog) → log_place d v log ≡ log_place c v log
  pub frames : frame_at d v ≡ frame_at c v

-- a block of its logs, where they lie there too
pub logs_same : (c d : Config) (v u b : ℕ) (x : List ℕ) → ((log : VolumeLog) → log_place d v log ≡ log_place c v log) → OnLogs c v u b x → OnLogs d v u b x
logs_same c d v u b x same at =
    let run = run_in c d v at.log (same at.log) at.entry at.is in
    record {
      log = at.log;
      entry = run.entry;
      is = run.is;
      run = record { there = at.run.there ∙ sym run.disk; first = let start = run.start in omega (arith, start, at.run.first); last = let start = run.start in let blocks = run.blocks in omega (arith, start, blocks, at.run.last) };
    }

-- a crash leaves nothing new of the blocks of its logs, and of its blocks no value that it might not have left
pub record ShowsNone (v : ℕ) (c d : Config) (m m' : Meaning) : Type 0 where
  pub logs : (u b : ℕ) (x : List ℕ) → OnLogs c v u b x → m'.leaves u b x → m.leaves u b x
  pub some : (b : ℕ) (x : List ℕ) → OnSome d m'.leaves v b x → OnSome c m.leaves v b x

module _ (v : ℕ) (c d : Config) (sound : is_sound c ≡ true) (l : Logs) (m m' : Meaning) (fit : DisksFit c.disks m) (keeps : KeepsVolume v c d) (shows : ShowsNone v c d m m') (on : VolumeOn c v l m) where
  map_seen : (log : VolumeLog) (map : Map) → LogLoaded c v log map → MapOn map m → MapOn map m'
  map_seen log map it stood = record {
    each = λ k lt. record {
      only = λ x left.
          let at = map_on c sound v (some_of c v log map k it lt) m fit log map it map.unit (map.first + k) x (record { there = refl; first = omega arith; last = omega (arith, lt) }) in
          (stood.each k lt).only x (shows.logs map.unit (map.first + k) x at left);
    };
  }

  -- the log on its disk, where it is trusted only where it was
  disk_seen : (log_trusted d v DrlLog ≡ true → log_trusted c v DrlLog ≡ true) → log_trusted d v DrlLog ≡ true → DiskCovers d v m'
  disk_seen trusted told = record {
    so = λ e b p q x y z is in_d on_p on_q left off at_p at_q.
        let run = run_back c d v DrlLog (keeps.logs DrlLog) e is in
        let inside = keeps.inside b in_d in
        let left' : m'.leaves run.entry.disk (run.entry.start + (b / 64) / 4096) z = subst (λ (n : ℕ). m'.leaves run.entry.disk (n + (b / 64) / 4096) z) (sym run.start) (subst (λ (u : ℕ). m'.leaves u (e.start + (b / 64) / 4096) z) (sym run.disk) left) in
        let blocks = entry_blocks c sound v (omega (arith, inside.within)) m fit run.entry run.is in
        let low = region_inside (blocks_in c.volumes v) b inside.within in
        let at : OnLogs c v run.entry.disk (run.entry.start + (b / 64) / 4096) z = record { log = DrlLog; entry = run.entry; is = run.is; run = record { there = refl; first = omega arith; last = omega (arith, blocks, low) } } in
        let one = shows.some b x (record { inside = in_d; plex = p; is_on = on_p; value = at_p }) in
        let two = shows.some b y (record { inside = in_d; plex = q; is_on = on_q; value = at_q }) in
        (on.disk (trusted told)).so run.entry b one.plex two.plex x y z run.is inside one.is_on two.is_on (shows.logs run.entry.disk (run.entry.start + (b / 64) / 4096) z at left') off one.value two.value;
  }

  -- where it is known what the log on its disk covers
  pub on_given : (log_trusted d v DrlLog ≡ true → DiskCovers d v m') → VolumeOn d v l m'
  on_given disk = record {
    fits = fits_same c d v keeps.frames keeps.blocks keeps.logs l on.fits;
    stands = record { drl = λ e is. map_seen DrlLog e.map (on.fits.drl e is).log (on.stands.drl e is); fmr = λ f is. map_seen FmrLog f.map (on.fits.fmr f is).log (on.stands.fmr f is) };
    memory = record { so = λ e is. record { one = λ b x y off one two. (on.memory.so e is).one b x y off (shows.some b x one) (shows.some b y two) } };
    disk = disk;
  }

  pub on_seen : (log_trusted d v DrlLog ≡ true → log_trusted c v DrlLog ≡ true) → VolumeOn d v l m'
  on_seen trusted = on_given (disk_seen trusted)

-- where all plexes are alike, any log covers them
pub alike_covers : (c : Config) (v : ℕ) (m : Meaning) → AllAlike c v m → DiskCovers c v m
alike_covers c v m alike = record {
  so = λ e b p q x y z is inside on_p on_q left off at_p at_q. alike.one b x y refl (record { inside = inside; plex = p; is_on = on_p; value = at_p }) (record { inside = inside; plex = q; is_on = on_q; value = at_q });
}
