-- On which disks a plex lies, whatever its state.
use Rattle.std.proofs.Common.{◌≡◌, inl, inr, ℕ, zero, suc, ◌≤◌, Bool, true, false, Option, Some, None, List, refl, ap, sym, ◌∙◌, subst}
use Rattle.std.specs.Prelude.{if◌then◌else◌, slice_get}
use Rattle.vx_disk.specs.Blocks.{bit_at}
use Rattle.vx_disk.specs.Shelf.{Meaning}
use Rattle.vx_disk.proofs.Causing.{Rose_after}
use Rattle.vx_model.specs.declared.site.PlexState.{PlexState}
use Rattle.vx_model.specs.declared.site.PlexState.TheVariants.{Stale}
use Rattle.vx_config.specs.Changes.{stated, with_state}
use Rattle.vx_config.specs.declared.config.Config.{Config}
use Rattle.vx_config.specs.declared.entry.PlexEntry.{PlexEntry}
use Rattle.vx_config.specs.declared.entry.VolumeEntry.{VolumeEntry}
use Rattle.vx_layout.specs.Places.{plex_at, plex_in}
use Rattle.vx_volume.specs.Plexes.{uses, uses_or}
use Rattle.vx_volume.specs.Volumes.{PlexBlamed}
use Rattle.vx_kept.specs.States.{stale_at, staled, whole_of}
use Rattle.vx_kept.proofs.StateLemmas.{map_one, plex_apart, plex_same}
use Rattle.vx_group.proofs.OpeningLemmas.{here_or_apart}

pub uses_volumes : (c d : Config) → d.volumes ≡ c.volumes → (v p u : ℕ) → uses d v p u ≡ uses c v p u
unfolding uses
uses_volumes c d volumes v p u = ap (λ (vs : List VolumeEntry). uses_or u (plex_in (slice_get vs v) p)) volumes

uses_map : (u : ℕ) (s : PlexState) (w : Bool) (o : Option PlexEntry) → uses_or u (map_one (with_state s w) o) ≡ uses_or u o
uses_map u s w None = refl
uses_map u s w (Some e) = refl

pub uses_stated : (v p : ℕ) (s : PlexState) (w : Bool) (c : Config) (x q u : ℕ) → uses (stated v p s w c) x q u ≡ uses c x q u
unfolding uses
uses_stated v p s w c x q u = elim (here_or_apart x v q p) [
  | inl here ↦ subst (λ (y : ℕ). uses_or u (plex_at (stated v p s w c) y q) ≡ uses_or u (plex_at c y q)) (sym here.0)
      (subst (λ (r : ℕ). uses_or u (plex_at (stated v p s w c) v r) ≡ uses_or u (plex_at c v r)) (sym here.1) (ap (uses_or u) (plex_same v p s w c) ∙ uses_map u s w (plex_at c v p)))
  | inr apart ↦ ap (uses_or u) (plex_apart v p s w c x q apart)
]

pub uses_staled : (v set : ℕ) (c : Config) (n x q u : ℕ) → uses (staled v set c n) x q u ≡ uses c x q u
uses_staled v set c zero x q u = refl
uses_staled v set c (suc n) x q u = by (bit_at set n) (uses_staled v set c n x q u)
  where
    by : (b : Bool) → uses (staled v set c n) x q u ≡ uses c x q u → uses (if b then stale_at v n (staled v set c n) else staled v set c n) x q u ≡ uses c x q u
    by true was = uses_stated v n Stale (whole_of (staled v set c n) v n) (staled v set c n) x q u ∙ was
    by false was = was

-- ---- a plex of which a call failed

pub blamed_by : (c d : Config) (v p : ℕ) (old new : Meaning) → ((u : ℕ) → uses d v p u ≡ uses c v p u) → PlexBlamed d v p old new → PlexBlamed c v p old new
blamed_by c d v p old new same blamed = record { disk = blamed.disk; is_its = sym (same blamed.disk) ∙ blamed.is_its; rose = blamed.rose }

pub blamed_before : (c : Config) (v p : ℕ) (old mid new : Meaning) → ((u : ℕ) → mid.faults u ≤ new.faults u) → PlexBlamed c v p old mid → PlexBlamed c v p old new
blamed_before c v p old mid new le blamed = record { disk = blamed.disk; is_its = blamed.is_its; rose = Rose_after (old.faults blamed.disk) (mid.faults blamed.disk) (new.faults blamed.disk) blamed.rose (le blamed.disk) }
