-- The configuration of a group behind an import, beside the one that was taken up.
use Rattle.std.proofs.Common.{◌≡◌, ◌⊎◌, inl, inr, ℕ, ◌<◌, Bool, true, false, List, Option, Some, None, refl, sym, ◌∙◌, ap, subst}
use Rattle.std.specs.Prelude.{slice_get}
use Rattle.std.specs.List.{list_any}
use Rattle.vx_disk.specs.Counts.{Rose}
use Rattle.vx_disk.specs.Shelf.{Meaning}
use Rattle.vx_model.specs.declared.site.PlexState.{PlexState}
use Rattle.vx_config.specs.Changes.{Matched, live_again}
use Rattle.vx_config.specs.declared.config.Config.{Config}
use Rattle.vx_config.specs.declared.entry.PlexEntry.{PlexEntry}
use Rattle.vx_config.specs.declared.entry.Subdisk.{Subdisk}
use Rattle.vx_config.specs.declared.entry.VolumeEntry.{VolumeEntry}
use Rattle.vx_layout.specs.Places.{lies_on, plex_at, plex_in}
use Rattle.vx_volume.specs.Plexes.{uses, uses_or}
use Rattle.vx_kept.specs.Keeping.{AllOn, frame_at}
use Rattle.vx_kept.proofs.Frames.{SameOne, SamePlex, same_of}
use Rattle.vx_group.proofs.UsesLemmas.{blamed_by}
use Rattle.vx_grouped.specs.ConfigMoves.{OpensMoves, PlexRose, VolumeMoves, VolumeRose}
use Rattle.vx_grouped.specs.Returns.{TakesOpened}
use Rattle.vx_grouped.specs.StateChanges.{StateStays}
use Rattle.vx_grouped.proofs.MovesLemmas.{plex_rose, volume_moves, volume_rose}
use Rattle.vx_grouped.proofs.StateChangeLemmas.{states_stay}

-- ---- volumes with the same frames

one_plex : (a b : Option PlexEntry) → SamePlex a b → (p : PlexEntry) → a ≡ Some p → (q : PlexEntry) × (b ≡ Some q)
one_plex None b same p is = absurd (let no_one : None ≡ Some p = is in cc)
one_plex (Some a) None same p is = absurd same
one_plex (Some a) (Some b) same p is = (b, refl)

in_volume : (a b : Option VolumeEntry) → SameOne a b → (k : ℕ) (p : PlexEntry) → plex_in a k ≡ Some p → (q : PlexEntry) × (plex_in b k ≡ Some q)
in_volume None b same k p is = absurd (let no_one : None ≡ Some p = is in cc)
in_volume (Some v) None same k p is = absurd same
in_volume (Some v) (Some u) same k p is = one_plex (slice_get v.plexes k) (slice_get u.plexes k) (same.plexes k) p is

uses_plex : (a b : Option PlexEntry) → SamePlex a b → (u : ℕ) → uses_or u b ≡ uses_or u a
uses_plex None None same u = refl
uses_plex None (Some b) same u = absurd same
uses_plex (Some a) None same u = absurd same
uses_plex (Some a) (Some b) same u = ap (λ (ss : List Subdisk). list_any (lies_on u) ss) same

uses_one : (a b : Option VolumeEntry) → SameOne a b → (k u : ℕ) → uses_or u (plex_in b k) ≡ uses_or u (plex_in a k)
uses_one None None same k u = refl
uses_one None (Some b) same k u = absurd same
uses_one (Some v) None same k u = absurd same
uses_one (Some v) (Some w) same k u = uses_plex (slice_get v.plexes k) (slice_get w.plexes k) (same.plexes k) u

uses_framed : (c d : Config) (v : ℕ) → frame_at d v ≡ frame_at c v → (k u : ℕ) → uses d v k u ≡ uses c v k u
unfolding uses
uses_framed c d v frames k u = uses_one (slice_get c.volumes v) (slice_get d.volumes v) (same_of (slice_get c.volumes v) (slice_get d.volumes v) frames) k u

-- ---- what was taken up

module _ (m0 m m' : Meaning) (units : m.units ≡ m0.units) (faults : (u : ℕ) → m.disk_faults u ≡ m0.disk_faults u) (one : (u : ℕ) → m.disk_faults u ≡ m.faults u) (two : (u : ℕ) → m'.disk_faults u ≡ m'.faults u) where
  plex_since : (p : PlexEntry) → PlexRose m m' p → PlexRose m0 m' p
  plex_since p it = record {
    disk = it.disk;
    lies = it.lies;
    below = subst (λ (n : ℕ). it.disk < n) units it.below;
    rose = subst (λ (x : ℕ). Rose x (m'.disk_faults it.disk)) (faults it.disk) it.rose;
  }

  volume_since : (v : VolumeEntry) → VolumeRose m m' v → VolumeRose m0 m' v
  volume_since v it = record { place = it.place; plex = it.plex; at = it.at; rose = plex_since it.plex it.rose }

  module _ (d : Config) (on : AllOn d) (t : TakesOpened m d m') where
    lies : (v k u : ℕ) → uses t.opened v k u ≡ uses t.config v k u
    lies v k u = uses_framed t.config t.opened v (t.frames v) k u

    by_stay : (v : ℕ) (e : VolumeEntry) (k : ℕ) (p o : PlexEntry) (is : PlexState) → slice_get t.config.volumes v ≡ Some e → plex_at t.config v k ≡ Some p → o.state ≡ live_again p.state → StateStays t.opened v k m m' o.state is → OpensMoves m0 m' e p is
    by_stay v e k p o is at_e at_p opens (inl same) = inl (same ∙ opens)
    by_stay v e k p o is at_e at_p opens (inr (inl lost)) =
        inr (inl (lost.0, plex_since p (plex_rose t.config m m' one two t.sound t.count v k p at_p (blamed_by t.config t.opened v k m m' (lies v k) lost.1))))
    by_stay v e k p o is at_e at_p opens (inr (inr back)) =
        inr (inr (back.0, volume_since e (volume_rose t.config m m' one two t.sound t.count v e at_e back.1.0 (blamed_by t.config t.opened v back.1.0 m m' (lies v back.1.0) back.1.1))))

    pub takes_moves : (v : ℕ) → Matched (VolumeMoves (OpensMoves m0 m')) (slice_get t.config.volumes v) (slice_get d.volumes v)
    takes_moves v = volume_moves (OpensMoves m0 m') t.config d v (t.loses.frames v ∙ t.frames v) (λ e k p q at_e at_p at_q.
        let o = in_volume (slice_get t.config.volumes v) (slice_get t.opened.volumes v) (same_of (slice_get t.config.volumes v) (slice_get t.opened.volumes v) (t.frames v)) k p at_p in
        by_stay v e k p o.0 q.state at_e at_p (t.states v k p o.0 at_p o.1) (states_stay t.opened d m m' t.on on t.loses v k o.0 q o.1 at_q))
