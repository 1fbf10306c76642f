-- The logs and the plexes of a volume in two configurations in which it lies alike.
use Rattle.std.proofs.Common.{◌≡◌, ◌∙◌, ℕ, ◌*◌, ◌≤◌, Option, Some, None, false, refl, sym, ap, subst, arith}
use Rattle.std.specs.Prelude.{is_some, map, slice_get}
use Rattle.std.specs.Option.{option_map}
use Rattle.std.proofs.lemmas.List.{length-map}
use Rattle.std.proofs.lemmas.Option.{same_Some, slice_get-map}
use Rattle.vx_config.specs.Changes.{with_state}
use Rattle.vx_config.specs.Checks.{blocks_of as blocks_in, plexes_of, plexes_or}
use Rattle.vx_config.specs.declared.config.Config.{Config}
use Rattle.vx_config.specs.declared.entry.LogEntry.{LogEntry}
use Rattle.vx_config.specs.declared.entry.PlexEntry.{PlexEntry}
use Rattle.vx_config.specs.declared.entry.Subdisk.{Subdisk}
use Rattle.vx_config.specs.declared.entry.VolumeEntry.{VolumeEntry}
use Rattle.vx_config.specs.declared.entry.VolumeLog.{VolumeLog}
use Rattle.vx_config.specs.declared.entry.VolumeLog.TheVariants.{Drl as DrlLog, Fmr as FmrLog}
use Rattle.vx_bitmap.specs.Maps.{Map}
use Rattle.vx_kept.specs.Keeping.{frame, frame_at, frame_or}
use Rattle.vx_kept.specs.LogRuns.{log_place, run_or}
use Rattle.vx_layout.specs.Places.{HasBlock, has_plex, plex_in}
use Rattle.vx_logs.specs.Held.{LogsFit}
use Rattle.vx_logs.specs.declared.logs.Logs.{Logs}
use Rattle.vx_maplog.specs.Logs.{LogLoaded, log_blocks, log_of, maps_in_log}
use Rattle.vx_model.specs.Sizes.{map_blocks, regions_of as regions_in}
use Rattle.vx_model.specs.declared.site.PlexState.TheVariants.{Stale}
use Rattle.vx_model.specs.declared.limits.TheConstants.{MOST_MAP_BLOCKS}

-- ---- an entry with the same run

pub record SameRun (o : Option LogEntry) (e : LogEntry) : Type 0 where
  pub entry : LogEntry
  pub is : o ≡ Some entry
  pub disk : entry.disk ≡ e.disk
  pub start : entry.start ≡ e.start
  pub blocks : entry.blocks ≡ e.blocks

same_run : (o p : Option LogEntry) (e : LogEntry) → run_or o ≡ run_or p → p ≡ Some e → SameRun o e
same_run o p e same at = by o refl (same ∙ ap run_or at)
  where
    by : (q : Option LogEntry) → o ≡ q → run_or q ≡ run_or (Some e) → SameRun o e
    by None is none = absurd cc
    by (Some f) is run =
        let one = same_Some {A = Subdisk} (record { disk = f.disk; start = f.start; blocks = f.blocks }) (record { disk = e.disk; start = e.start; blocks = e.blocks }) run in
        record { entry = f; is = is; disk = ap (λ (s : Subdisk). s.disk) one; start = ap (λ (s : Subdisk). s.start) one; blocks = ap (λ (s : Subdisk). s.blocks) one }

pub run_in : (c d : Config) (v : ℕ) (log : VolumeLog) → log_place d v log ≡ log_place c v log → (e : LogEntry) → log_of c v log ≡ Some e → SameRun (log_of d v log) e
unfolding log_place
run_in c d v log same e is = same_run (log_of d v log) (log_of c v log) e same is

pub run_back : (c d : Config) (v : ℕ) (log : VolumeLog) → log_place d v log ≡ log_place c v log → (e : LogEntry) → log_of d v log ≡ Some e → SameRun (log_of c v log) e
unfolding log_place
run_back c d v log same e is = same_run (log_of c v log) (log_of d v log) e (sym same) is

-- ---- a frame has the plexes

plexes_frame : (o : Option VolumeEntry) → plexes_or (frame_or o) ≡ plexes_or o
unfolding frame
plexes_frame None = refl
plexes_frame (Some v) = length-map v.plexes (with_state Stale false)

some_state : (o : Option PlexEntry) → is_some (option_map (with_state Stale false) o) ≡ is_some o
some_state None = refl
some_state (Some p) = refl

has_frame : (o : Option VolumeEntry) (p : ℕ) → is_some (plex_in (frame_or o) p) ≡ is_some (plex_in o p)
unfolding frame
has_frame None p = refl
has_frame (Some v) p = ap is_some (slice_get-map (with_state Stale false) v.plexes p) ∙ some_state (slice_get v.plexes p)

-- ---- a volume that lies alike

module _ (c d : Config) (v : ℕ) (frames : frame_at d v ≡ frame_at c v) (blocks : blocks_in d.volumes v ≡ blocks_in c.volumes v) where
  pub same_count : plexes_of d v ≡ plexes_of c v
  same_count = sym (plexes_frame (slice_get d.volumes v)) ∙ ap plexes_or frames ∙ plexes_frame (slice_get c.volumes v)

  pub has_back : (p b : ℕ) → HasBlock d v p b → HasBlock c v p b
  unfolding has_plex
  has_back p b has = record {
    plex = sym (has_frame (slice_get c.volumes v) p) ∙ ap (λ (o : Option VolumeEntry). is_some (plex_in o p)) (sym frames) ∙ has_frame (slice_get d.volumes v) p ∙ has.plex;
    block = let low = has.block in omega (arith, low, blocks);
  }

  same_blocks : (log : VolumeLog) → log_blocks d v log ≡ log_blocks c v log
  same_blocks log = ap (λ (n : ℕ). maps_in_log log n * map_blocks (blocks_in d.volumes v)) same_count ∙ ap (λ (n : ℕ). maps_in_log log (plexes_of c v) * map_blocks n) blocks

  module _ (logs : (log : VolumeLog) → log_place d v log ≡ log_place c v log) where
    pub loaded_same : (log : VolumeLog) (map : Map) → LogLoaded c v log map → LogLoaded d v log map
    loaded_same log map it =
        let run = run_in c d v log (logs log) it.entry it.is in
        record {
          entry = run.entry;
          is = run.is;
          run = record {
            there = it.run.there ∙ sym run.disk;
            begins = it.run.begins ∙ sym run.start;
            long = it.run.long ∙ ap (λ (n : ℕ). 512 * n) (sym (same_blocks log));
            few = subst (λ (n : ℕ). n ≤ MOST_MAP_BLOCKS) (sym (same_blocks log)) it.run.few;
          };
        }

    pub fits_same : (l : Logs) → LogsFit c v l → LogsFit d v l
    fits_same l fits = record {
      drl = λ e is. let it = fits.drl e is in record { log = loaded_same DrlLog e.map it.log; regions = it.regions ∙ ap regions_in (sym blocks) };
      fmr = λ f is. let it = fits.fmr f is in record {
        log = loaded_same FmrLog f.map it.log;
        plexes = it.plexes ∙ sym same_count;
        stride = it.stride ∙ ap (λ (n : ℕ). 4096 * map_blocks n) (sym blocks);
        regions = it.regions ∙ ap regions_in (sym blocks);
      };
    }
