-- A site that keeps its log and its data volumes, and notes the replicated volume group that it noted, has that one.
use Rattle.std.proofs.Common.{◌≡◌, ◌∙◌, ℕ, List, [], ◌∷◌, Option, Some, ap, map, refl, sym}
use Rattle.std.specs.List.{AllByRecursion}
use Rattle.std.specs.Prelude.{slice_get, unwrap_or}
use Rattle.vx_model.specs.Sizes.{ring_of}
use Rattle.vx_model.specs.declared.units.Units.{Units}
use Rattle.vx_history.specs.Groups.{GroupNode}
use Rattle.vx_history.specs.Volumes.{as_volume}
use Rattle.vx_history.specs.World.{Node}
use Rattle.vx_history.specs.declared.volumes.DataVolume.{DataVolume}
use Rattle.vx_config.specs.Checks.{blocks_of, blocks_or_none}
use Rattle.vx_config.specs.declared.config.Config.{Config}
use Rattle.vx_config.specs.declared.entry.VolumeEntry.{VolumeEntry}
use Rattle.vx_events.specs.GroupNotes.{no_note, note_at}
use Rattle.vx_events.specs.GroupViews.{config_of}
use Rattle.vx_events.specs.RvgFits.{FitsNoted, FitsRvg, HasUnits, HasVolume, KeepsRvg, KeptConfig, KeptVolume, NoteKeepsRvg, data_at, entry_name}

module _ (c d : Config) (keeps : KeepsRvg c d) where
  pub has_kept : (v : ℕ) → HasVolume c.volumes v → HasVolume d.volumes v
  has_kept v (e, at) = let k : KeptVolume e (slice_get d.volumes v) = keeps.volumes v e at in (k.now, k.is)

  pub all_kept : (places : List ℕ) → AllByRecursion (HasVolume c.volumes) places → AllByRecursion (HasVolume d.volumes) places
  all_kept [] all = tt
  all_kept (x ∷ xs) (here, rest) = (has_kept x here, all_kept xs rest)

  name_kept : (v : ℕ) → HasVolume c.volumes v → entry_name (slice_get d.volumes v) ≡ entry_name (slice_get c.volumes v)
  name_kept v (e, at) =
      let k : KeptVolume e (slice_get d.volumes v) = keeps.volumes v e at in
      ap (λ (o : Option VolumeEntry). entry_name o) k.is ∙ k.name ∙ sym (ap (λ (o : Option VolumeEntry). entry_name o) at)

  blocks_kept : (v : ℕ) → HasVolume c.volumes v → blocks_of d.volumes v ≡ blocks_of c.volumes v
  blocks_kept v (e, at) =
      let k : KeptVolume e (slice_get d.volumes v) = keeps.volumes v e at in
      ap (λ (o : Option VolumeEntry). blocks_or_none o) k.is ∙ k.blocks ∙ sym (ap (λ (o : Option VolumeEntry). blocks_or_none o) at)

  one_kept : (v : ℕ) → HasVolume c.volumes v → data_at d.volumes v ≡ data_at c.volumes v
  one_kept v has =
      ap (λ (name : List ℕ). let x : DataVolume = record { place = v; name = name; blocks = blocks_of d.volumes v } in x) (name_kept v has)
      ∙ ap (λ (blocks : ℕ). let x : DataVolume = record { place = v; name = entry_name (slice_get c.volumes v); blocks = blocks } in x) (blocks_kept v has)

  pub data_kept : (places : List ℕ) → AllByRecursion (HasVolume c.volumes) places → map (data_at d.volumes) places ≡ map (data_at c.volumes) places
  data_kept [] all = refl
  data_kept (x ∷ xs) (here, rest) =
      ap (λ (y : DataVolume). y ∷ map (data_at d.volumes) xs) (one_kept x here) ∙ ap (λ (ys : List DataVolume). data_at c.volumes x ∷ ys) (data_kept xs rest)

pub fits_again : (n m : Node) → m.ring ≡ n.ring → m.volumes ≡ n.volumes → NoteKeepsRvg (note_at n) (note_at m) → FitsNoted n → FitsNoted m
fits_again n m ring volumes keeps f =
    let c : Config = f.config in
    let units : Units = f.units in
    let k : KeptConfig c (note_at m) = keeps c f.is in
    record {
      config = k.now;
      is = k.is;
      units = f.units;
      fits = record {
        rvg = k.keeps.rvg ∙ f.fits.rvg;
        volumes = volumes ∙ f.fits.volumes ∙ ap (λ (ys : List DataVolume). map as_volume ys) (sym (data_kept c k.now k.keeps units.vols f.has.vols));
        ring = ring ∙ f.fits.ring ∙ ap ring_of (sym (blocks_kept c k.now k.keeps units.srl f.has.srl));
      };
      has = record { srl = has_kept c k.now k.keeps units.srl f.has.srl; vols = all_kept c k.now k.keeps units.vols f.has.vols };
    }

-- what came up with the replicated volume group of the configuration that is noted
pub fits_found : (k m : Node) (c : Config) (units : Units) (next : GroupNode) → m.group ≡ Some next → m.ring ≡ k.ring → m.volumes ≡ k.volumes
    → config_of next.config ≡ Some c → FitsRvg k c units → HasUnits c.volumes units → FitsNoted m
fits_found k m c units next noted ring volumes config fits has = record {
  config = c;
  is = ap (λ (o : Option GroupNode). config_of (unwrap_or o no_note).config) noted ∙ config;
  units = units;
  fits = record { rvg = fits.rvg; volumes = volumes ∙ fits.volumes; ring = ring ∙ fits.ring };
  has = has;
}
