-- What the calls of a line make of a configuration keeps its replicated volume group, and each volume with its name and its blocks.
use Rattle.std.proofs.Common.{◌≡◌, ◌∙◌, ℕ, zero, suc, List, [], ◌∷◌, Bool, Option, Some, None, ap, map, refl, sym}
use Rattle.std.specs.Prelude.{slice_get}
use Rattle.vx_model.specs.declared.site.PlexState.{PlexState}
use Rattle.vx_config.specs.Changes.{Matched}
use Rattle.vx_config.specs.declared.config.Config.{Config}
use Rattle.vx_config.specs.declared.entry.VolumeEntry.{VolumeEntry}
use Rattle.vx_events.proofs.Places.{never_some, some_same}
use Rattle.vx_events.specs.Fails.{Fails}
use Rattle.vx_events.specs.GroupConfigs.{ConfigGoesBy, VolumeGoesBy, VolumeStays, opened_again, volume_again}
use Rattle.vx_events.specs.RvgFits.{KeepsRvg, KeptVolume}
use Rattle.vx_config.specs.declared.entry.PlexEntry.{PlexEntry}

pub keeps_self : (c : Config) → KeepsRvg c c
keeps_self c = record { rvg = refl; volumes = λ v e at. record { now = e; is = at; name = refl; blocks = refl } }

pub keeps_then : (c d e : Config) → KeepsRvg c d → KeepsRvg d e → KeepsRvg c e
keeps_then c d e f g = record {
  rvg = g.rvg ∙ f.rvg;
  volumes = λ v x at.
      let y : KeptVolume x (slice_get d.volumes v) = f.volumes v x at in
      let z : KeptVolume y.now (slice_get e.volumes v) = g.volumes v y.now y.is in
      record { now = z.now; is = z.is; name = z.name ∙ y.name; blocks = z.blocks ∙ y.blocks };
}

-- ---- plexes alone change

matched : (By : VolumeEntry → PlexEntry → PlexState → Type 0) (o p : Option VolumeEntry) (e : VolumeEntry) → Matched (VolumeGoesBy By) o p → o ≡ Some e → KeptVolume e p
matched By None p e m is = absurd (never_some is)
matched By (Some x) None e m is = absurd m
matched By (Some x) (Some y) e m is =
    let same : x ≡ e = some_same is in
    record { now = y; is = refl; name = m.name ∙ ap (λ (v : VolumeEntry). v.name) same; blocks = m.blocks ∙ ap (λ (v : VolumeEntry). v.blocks) same }

pub stayed : (p : Option VolumeEntry) (e : VolumeEntry) → Matched VolumeStays (Some e) p → KeptVolume e p
stayed None e m = absurd m
stayed (Some y) e m = record { now = y; is = refl; name = m.name; blocks = m.blocks }

pub loses_keeps : {By : VolumeEntry → PlexEntry → PlexState → Type 0} (again : ℕ → Bool) (s : ℕ) (fails : Fails) (c d : Config) → ConfigGoesBy By again s fails c d → KeepsRvg c d
loses_keeps {By} again s fails c d x = record {
  rvg = x.rvg;
  volumes = λ v e at. matched By (slice_get c.volumes v) (slice_get d.volumes v) e (x.volumes v) at;
}

-- ---- volumes that are changed in place, with their names and their blocks

abbrev Alike : (VolumeEntry → VolumeEntry) → Type 0
Alike f = (v : VolumeEntry) → ((f v).name ≡ v.name) × ((f v).blocks ≡ v.blocks)

mapped : (f : VolumeEntry → VolumeEntry) → Alike f → (xs : List VolumeEntry) (k : ℕ) (e : VolumeEntry) → slice_get xs k ≡ Some e → KeptVolume e (slice_get (map f xs) k)
mapped f same [] k e at = absurd (cc)
mapped f same (x ∷ xs) zero e at =
    let is : x ≡ e = some_same at in
    record {
      now = f x;
      is = refl;
      name = (same x).0 ∙ ap (λ (v : VolumeEntry). v.name) is;
      blocks = (same x).1 ∙ ap (λ (v : VolumeEntry). v.blocks) is;
    }
mapped f same (x ∷ xs) (suc k) e at = mapped f same xs k e at

unmapped : (f : VolumeEntry → VolumeEntry) → Alike f → (xs : List VolumeEntry) (k : ℕ) (e : VolumeEntry) → slice_get (map f xs) k ≡ Some e → KeptVolume e (slice_get xs k)
unmapped f same [] k e at = absurd (cc)
unmapped f same (x ∷ xs) zero e at =
    let is : f x ≡ e = some_same at in
    record {
      now = x;
      is = refl;
      name = sym (same x).0 ∙ ap (λ (v : VolumeEntry). v.name) is;
      blocks = sym (same x).1 ∙ ap (λ (v : VolumeEntry). v.blocks) is;
    }
unmapped f same (x ∷ xs) (suc k) e at = unmapped f same xs k e at

-- plexes that stopped cleanly take part again, or stopped so
pub again_keeps : (c : Config) → KeepsRvg c (opened_again c)
again_keeps c = record { rvg = refl; volumes = λ v e at. mapped volume_again (λ _. (refl, refl)) c.volumes v e at }

pub closed_keeps : (c : Config) → KeepsRvg (opened_again c) c
closed_keeps c = record { rvg = refl; volumes = λ v e at. unmapped volume_again (λ _. (refl, refl)) c.volumes v e at }
