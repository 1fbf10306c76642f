-- What becomes of a configuration, by the counts of disks alone.
use Rattle.std.proofs.Common.{◌≡◌, ◌⊎◌, inl, inr, ℕ, subst, sym}
use Rattle.std.specs.Prelude.{Option, Some, None}
use Rattle.vx_disk.specs.Counts.{Rose}
use Rattle.vx_disk.specs.Shelf.{Meaning}
use Rattle.vx_model.specs.declared.site.PlexState.{PlexState}
use Rattle.vx_config.specs.Changes.{Matched}
use Rattle.vx_config.specs.declared.config.Config.{Config}
use Rattle.vx_config.specs.declared.entry.DiskEntry.{DiskEntry}
use Rattle.vx_config.specs.declared.entry.PlexEntry.{PlexEntry}
use Rattle.vx_config.specs.declared.entry.VolumeEntry.{VolumeEntry}
use Rattle.vx_grouped.specs.ConfigMoves.{DiskMoves, LosesSome, PlexMoves, PlexRose, StateMoves, VolumeMoves, VolumeRose, none_again}

in_both : {A : Type 0} (P Q : A → A → Type 0) (x y : Option A) → ((a b : A) → P a b → Q a b) → Matched P x y → Matched Q x y
in_both P Q None None go it = it
in_both P Q None (Some b) go it = it
in_both P Q (Some a) None go it = it
in_both P Q (Some a) (Some b) go it = go a b it

module _ (o e e' : Meaning) (counts : (d : ℕ) → e'.disk_faults d ≡ e.disk_faults d) where
  rose_as : (d : ℕ) → Rose (o.disk_faults d) (e.disk_faults d) → Rose (o.disk_faults d) (e'.disk_faults d)
  rose_as d rose = subst (λ (k : ℕ). Rose (o.disk_faults d) k) (sym (counts d)) rose

  plex_rose : (p : PlexEntry) → PlexRose o e p → PlexRose o e' p
  plex_rose p it = record { disk = it.disk; lies = it.lies; below = it.below; rose = rose_as it.disk it.rose }

  volume_rose : (v : VolumeEntry) → VolumeRose o e v → VolumeRose o e' v
  volume_rose v it = record { place = it.place; plex = it.plex; at = it.at; rose = plex_rose it.plex it.rose }

  state_as : (v : VolumeEntry) (p : PlexEntry) (t : PlexState) → StateMoves o e v p t → StateMoves o e' v p t
  state_as v p t (inl same) = inl same
  state_as v p t (inr (inl lost)) = inr (inl (lost.0, plex_rose p lost.1))
  state_as v p t (inr (inr back)) = inr (inr (back.0, volume_rose v back.1))

  plex_as : (v : VolumeEntry) (p q : PlexEntry) → PlexMoves (StateMoves o e v) p q → PlexMoves (StateMoves o e' v) p q
  plex_as v p q it = record { subdisks = it.subdisks; state = state_as v p q.state it.state }

  volume_as : (v u : VolumeEntry) → VolumeMoves (StateMoves o e) v u → VolumeMoves (StateMoves o e') v u
  volume_as v u it = record {
    name = it.name;
    blocks = it.blocks;
    ncol = it.ncol;
    width = it.width;
    prefer = it.prefer;
    drl = it.drl;
    fmr = it.fmr;
    plexes = λ k. in_both (PlexMoves (StateMoves o e v)) (PlexMoves (StateMoves o e' v)) _ _ (plex_as v) (it.plexes k);
  }

  disk_as : (k : ℕ) (a b : DiskEntry) → DiskMoves none_again o e k a b → DiskMoves none_again o e' k a b
  disk_as k a b it = record {
    blocks = it.blocks;
    failed = λ is. elim (it.failed is) [
      | inl was ↦ inl was
      | inr rose ↦ inr (rose_as k rose)
    ];
    stays = it.stays;
  }

  pub counts_lose : (c d : Config) → LosesSome o e c d → LosesSome o e' c d
  counts_lose c d it = record {
    parts = it.parts;
    disks = λ k. in_both (DiskMoves none_again o e k) (DiskMoves none_again o e' k) _ _ (disk_as k) (it.disks k);
    volumes = λ v. in_both (VolumeMoves (StateMoves o e)) (VolumeMoves (StateMoves o e')) _ _ volume_as (it.volumes v);
  }
