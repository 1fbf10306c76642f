-- What the log of missed regions keeps.
use Rattle.std.proofs.Common.{◌≡◌, ◌∙◌, ℕ, ◌*◌, ◌<◌, ◌≤◌, length, sym, ap, subst, arith}
use Rattle.std.specs.Int.{div_ceil}
use Rattle.std.proofs.Math.Nat.{mul_left_comm}
use Rattle.vx_model.specs.Sizes.{map_blocks}
use Rattle.vx_bitmap.specs.Maps.{Map}
use Rattle.vx_config.specs.Checks.{blocks_of, plexes_of}
use Rattle.vx_config.specs.declared.config.Config.{Config}
use Rattle.vx_config.specs.declared.entry.VolumeLog.TheVariants.{Fmr as FmrLog}
use Rattle.vx_maplog.specs.Logs.{LogLoaded}
use Rattle.vx_fmr.specs.Missed.{IsMissedKept}

-- the maps of a log have a bit for each region of each plex
pub kept_of : (c : Config) (v : ℕ) (map : Map) (blocks plexes stride regions : ℕ) → LogLoaded c v FmrLog map → blocks ≡ blocks_of c.volumes v → 0 < blocks → plexes ≡ plexes_of c v
    → stride ≡ 4096 * map_blocks blocks → regions ≡ div_ceil blocks 64 → IsMissedKept map plexes stride regions
kept_of c v map blocks plexes stride regions log is some count wide number =
    let maps : ℕ = plexes * map_blocks blocks in
    let same : plexes_of c v * map_blocks (blocks_of c.volumes v) ≡ plexes * map_blocks blocks = ap (λ (n : ℕ). n * map_blocks (blocks_of c.volumes v)) (sym count) ∙ ap (λ (n : ℕ). plexes * map_blocks n) (sym is) in
    let long : length map.bytes ≡ 512 * (plexes * map_blocks blocks) = log.run.long ∙ ap (λ (n : ℕ). 512 * n) same in
    let few : plexes * map_blocks blocks ≤ 65536 = subst (λ (n : ℕ). n ≤ 65536) same log.run.few in
    let all : plexes * stride ≡ 4096 * (plexes * map_blocks blocks) = ap (λ (n : ℕ). plexes * n) wide ∙ mul_left_comm plexes 4096 (map_blocks blocks) in
    let bits : stride ≡ 4096 * div_ceil regions 4096 = wide ∙ ap (λ (n : ℕ). 4096 * div_ceil n 4096) (sym number) in
    record {
      some = omega (arith, number, some);
      fit = omega (arith, bits);
      all = omega (arith, all, long);
      few = omega (arith, all, few);
    }
