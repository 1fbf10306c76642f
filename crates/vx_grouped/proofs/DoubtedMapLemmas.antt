-- The maps of plexes that were ACTIVE, behind a write that was refused and left copies that may differ: they have the regions of the write alone.
use Rattle.std.proofs.Common.{◌≡◌, ◌∙◌, ◌<◌, ◌≤◌, ◌*◌, ℕ, Bool, true, false, List, ap, subst, arith}
use Rattle.std.specs.Int.{div_ceil}
use Rattle.std.specs.Prelude.{Some}
use Rattle.vx_config.specs.Checks.{blocks_of, plexes_of}
use Rattle.vx_config.specs.declared.config.Config.{Config}
use Rattle.vx_disk.specs.Shelf.{Meaning}
use Rattle.vx_fmr.specs.Missed.{Missed, has_missed}
use Rattle.vx_group.specs.Holding.{wide}
use Rattle.vx_group.specs.declared.group_core.GroupCore.{GroupCore}
use Rattle.vx_group.proofs.HoldLemmas.{wide_shape}
use Rattle.vx_grouplogs.proofs.LogShape.{same_count}
use Rattle.vx_kept.specs.Keeping.{frame_at}
use Rattle.vx_logged.proofs.HoldsLemmas.{inner_blocks, inner_count}
use Rattle.vx_loggroup.proofs.MovedLemmas.{run_here}
use Rattle.vx_loggroup.proofs.NewLemmas.{HasMaps, has_maps}
use Rattle.vx_loggroup.specs.Attaching.{fmr_at}
use Rattle.vx_loggroup.specs.Facts.{FmrFact, LoggedFact}
use Rattle.vx_loggroup.specs.Marks.{RunsMaps}
use Rattle.vx_loggroup.specs.Moving.{IsThere, in_run}
use Rattle.vx_logs.specs.declared.logs.Logs.{Logs}
use Rattle.vx_model.specs.Sizes.{map_blocks, regions_of}
use Rattle.vx_volume.specs.Plexes.{active}

-- a plex of this volume that was ACTIVE has these regions alone in its map
pub record RunAlone (c : Config) (logs : List Logs) (vol : ℕ) (these : ℕ → ℕ → Bool) : Type 0 where
  pub so : (p r : ℕ) (g : Missed) → fmr_at logs vol ≡ Some g → IsThere c vol p r → active c vol p ≡ true → has_missed g p r ≡ true → these vol r ≡ true

-- a map has a bit for each region
few_regions : (s blocks : ℕ) → s ≡ 4096 * map_blocks blocks → regions_of blocks ≤ s
few_regions s blocks is = by (regions_of blocks) is
  where
    by : (m : ℕ) → s ≡ 4096 * div_ceil m 4096 → m ≤ s
    by m is = omega (arith, is)

-- from a group c, by the logs of d
module _ (c d : GroupCore) (logs : List Logs) (alike : List Bool) (stopped : Bool) (m : Meaning) (fact : LoggedFact d logs alike stopped m) (vol first last : ℕ) (frames : frame_at d.inner.config vol ≡ frame_at c.inner.config vol)
    (size : blocks_of (wide d).config.volumes vol ≡ blocks_of (wide c).config.volumes vol) where
  counts_alone : plexes_of (wide d).config vol ≡ plexes_of c.inner.config vol
  counts_alone = same_count d.inner.config (wide d).config vol ((wide_shape d).frames vol) ((wide_shape d).blocks vol) ∙ inner_count c d vol frames size

  blocks_alone : blocks_of (wide d).config.volumes vol ≡ blocks_of c.inner.config.volumes vol
  blocks_alone = (wide_shape d).blocks vol ∙ inner_blocks c d vol size

  pub runs_alone : stopped ≡ false → RunsMaps (active c.inner.config vol) vol first last logs → RunAlone c.inner.config logs vol (in_run vol first last)
  runs_alone going run = record { so = λ p r g at it on has. by p r g (has_maps logs vol g at) it on has }
    where
      by : (p r : ℕ) (g : Missed) → HasMaps logs vol g → IsThere c.inner.config vol p r → active c.inner.config vol p ≡ true → has_missed g p r ≡ true → in_run vol first last vol r ≡ true
      by p r g now it on has =
          let map : FmrFact (wide d).config vol g = ((fact.each vol now.logs now.at).on going).fmr g now.has in
          let low : p < g.plexes = let plex = it.plex in let many = map.plexes in let same = counts_alone in omega (arith, plex, many, same) in
          let few : regions_of (blocks_of c.inner.config.volumes vol) ≤ g.stride = subst (λ (n : ℕ). n ≤ g.stride) (ap regions_of blocks_alone) (few_regions g.stride (blocks_of (wide d).config.volumes vol) map.stride) in
          let lt : r < g.stride = let region = it.region in omega (arith, region, few) in
          let is = (run.here now.logs now.at).only g now.has p r low lt on has in
          run_here vol first last r is.0 is.1
