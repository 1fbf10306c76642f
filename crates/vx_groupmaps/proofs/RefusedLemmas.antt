-- Notes in the maps of all plexes.
use Rattle.std.proofs.Common.{◌≡◌, ◌∙◌, inl, inr, ℕ, zero, suc, ◌<◌, ◌≤◌, Bool, true, false, Option, Some, None, List, refl, ap, subst, arith}
use Rattle.std.specs.Prelude.{◌&&◌}
use Rattle.std.proofs.lemmas.Bool.{and_parts, cases_eq}
use Rattle.vx_config.specs.Checks.{blocks_of as blocks_in, is_sound, plexes_of}
use Rattle.vx_config.specs.declared.config.Config.{Config}
use Rattle.vx_config.specs.declared.entry.VolumeLog.TheVariants.{Fmr as FmrLog}
use Rattle.vx_disk.specs.Blocks.{bit_at}
use Rattle.vx_disk.specs.Shelf.{Goes, Meaning}
use Rattle.vx_disk.proofs.Runs.{weaker}
use Rattle.vx_fmr.specs.Missed.{Missed}
use Rattle.vx_logs.specs.Held.{FmrRun, LogsFit}
use Rattle.vx_logs.specs.Noting.{FmrAt, FmrNoted, IsMissedMap, below}
use Rattle.vx_logs.specs.declared.logs.Logs.{Logs}
use Rattle.vx_logs.proofs.LogLemmas.{log_lies}
use Rattle.vx_logs.proofs.NoteLemmas.{kept_later}
use Rattle.vx_logs.proofs.PlexesLemmas.{NotesTo}
use Rattle.vx_model.specs.Sizes.{regions_of as regions_in}
use Rattle.vx_volume.specs.Plexes.{DisksFit}
use Rattle.vx_groupmaps.specs.Refusing.{AreMissedMaps, MapBlocks, all_plexes, first_plexes}
use Rattle.vx_groupmaps.proofs.MapPlaces.{maps_kept}

-- ---- the set of all plexes

abbrev all_bits : ℕ → Bool
all_bits zero = true
all_bits (suc n) = bit_at all_plexes n && all_bits n

bits_below : (n : ℕ) → all_bits n ≡ true → (k : ℕ) → k < n → bit_at all_plexes k ≡ true
bits_below zero all k lt = absurd (omega (arith, lt))
bits_below (suc n) all k lt =
    let parts = and_parts (bit_at all_plexes n) (all_bits n) all in
    elim (cases_eq k n) [
      | inl here ↦ ap (bit_at all_plexes) here ∙ parts.0
      | inr other ↦ bits_below n parts.1 k (omega (arith, lt, other))
    ]

pub has_all : (k : ℕ) → k < 8 → bit_at all_plexes k ≡ true
has_all k lt = bits_below 8 refl k lt

-- ---- the loop

-- the next plex has its map
pub map_later : (n first last : ℕ) (f g : Missed) (m m1 : Meaning) → IsMissedMap last f m → NotesTo n all_plexes false first last f g m m1 → IsMissedMap last g m1
map_later n first last f g m m1 has at = record {
  lies = record {
    exists = omega (arith, has.lies.exists, at.noted.same.place.unit, at.writes.units);
    within = let size : m1.size g.map.unit ≡ m.size f.map.unit = at.writes.size g.map.unit ∙ ap m.size at.noted.same.place.unit in omega (arith, has.lies.within, at.noted.same.place.first, at.noted.same.place.long, size);
  };
  kept = kept_later f g has.kept at.noted.same;
  inside = omega (arith, has.inside, at.noted.same.shape.regions);
}

-- all of them
pub first_noted : (n plexes first last : ℕ) (f g : Missed) (m m' : Meaning) → n ≤ plexes → plexes ≤ n → NotesTo n all_plexes false first last f g m m' → FmrNoted (first_plexes plexes) false first last f g m m'
first_noted n plexes first last f g m m' low high at =
    let is : n ≡ plexes = omega (arith, low, high) in
    subst (λ (k : ℕ). FmrNoted (below k all_plexes) false first last f g m m') is at.noted

-- ---- where there is a log

pub noted_blocks : (those : ℕ → Bool) (first last : ℕ) (o : Option Missed) (m m' : Meaning) → Goes (FmrAt those false first last o m) m m' → Goes (MapBlocks o) m m'
noted_blocks those first last o m m' goes = weaker (FmrAt those false first last o m) (MapBlocks o) m m' goes (by o)
  where
    by : (o : Option Missed) (u b : ℕ) (x : List ℕ) → FmrAt those false first last o m u b x → FmrRun o u b
    by None u b x at = at
    by (Some f) u b x at = at.run

pub maps_there : (c : Config) → is_sound c ≡ true → (v : ℕ) → 0 < blocks_in c.volumes v → (l : Logs) → LogsFit c v l → (m : Meaning) → DisksFit c.disks m → (last : ℕ) → last < regions_in (blocks_in c.volumes v) → AreMissedMaps (plexes_of c v) last l.fmr m
maps_there c sound v some l fits m fit last lt = by l.fmr refl
  where
    by : (o : Option Missed) → l.fmr ≡ o → AreMissedMaps (plexes_of c v) last o m
    by None is = tt
    by (Some f) is =
        let ld = fits.fmr f is in
        (record { lies = log_lies c v FmrLog f.map m sound some fit ld.log; kept = maps_kept c sound v some f ld; inside = omega (arith, lt, ld.regions) }, omega (arith, ld.plexes))
