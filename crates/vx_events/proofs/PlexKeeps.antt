-- A configuration of which a plex is put in another state, or that gets one more volume, keeps its replicated volume group, and each volume with its name and its blocks.
use Rattle.std.proofs.Common.{◌≡◌, ◌∙◌, ◌⊎◌, inl, inr, ℕ, zero, suc, false, List, [], ◌∷◌, ◌++◌, Bool, Some, ap, refl, subst, sym}
use Rattle.std.specs.Prelude.{slice_get}
use Rattle.vx_model.specs.declared.site.PlexState.{PlexState}
use Rattle.vx_config.specs.Changes.{changed_at, stated, with_plex}
use Rattle.vx_config.specs.declared.config.Config.{Config}
use Rattle.vx_config.specs.declared.entry.PlexEntry.{PlexEntry}
use Rattle.vx_config.specs.declared.entry.VolumeEntry.{VolumeEntry}
use Rattle.vx_events.proofs.Places.{some_same}
use Rattle.vx_events.proofs.RvgConfigs.{keeps_then, loses_keeps}
use Rattle.vx_events.specs.Fails.{Fails}
use Rattle.vx_history.specs.Groups.{GroupNode}
use Rattle.vx_layout.specs.Made.{with_volume}
use Rattle.vx_layout.specs.declared.shape.Shape.{Shape}
use Rattle.vx_events.specs.GroupConfigs.{AddsVolume, ConfigGoesBy, PutsPlex}
use Rattle.vx_events.specs.GroupNotes.{NotesVolume}
use Rattle.vx_events.specs.RvgFits.{KeepsRvg, KeptVolume, NoteKeepsRvg}

-- a volume that is changed in place, with its name and its blocks
changed : (f : VolumeEntry → VolumeEntry) → ((v : VolumeEntry) → ((f v).name ≡ v.name) × ((f v).blocks ≡ v.blocks)) → (place : ℕ) (xs : List VolumeEntry) (k : ℕ) (e : VolumeEntry) → slice_get xs k ≡ Some e
    → KeptVolume e (slice_get (changed_at f place xs) k)
changed f same place [] k e at = absurd (cc)
changed f same zero (x ∷ xs) zero e at =
    let is : x ≡ e = some_same at in
    record {
      now = f x;
      is = refl;
      name = (same x).0 ∙ ap (λ (v : VolumeEntry). v.name) is;
      blocks = (same x).1 ∙ ap (λ (v : VolumeEntry). v.blocks) is;
    }
changed f same zero (x ∷ xs) (suc k) e at = record { now = e; is = at; name = refl; blocks = refl }
changed f same (suc p) (x ∷ xs) zero e at = record { now = e; is = at; name = refl; blocks = refl }
changed f same (suc p) (x ∷ xs) (suc k) e at = changed f same p xs k e at

stated_keeps : (v p : ℕ) (kind : PlexState) (whole : Bool) (c : Config) → KeepsRvg c (stated v p kind whole c)
stated_keeps v p kind whole c = record { rvg = refl; volumes = λ w e at. changed (with_plex p kind whole) (λ _. (refl, refl)) v c.volumes w e at }

puts_keeps : (v p : ℕ) (kind : PlexState) (c d : Config) → PutsPlex v p kind c d → KeepsRvg c d
puts_keeps v p kind c d x = subst (λ (k : Config). KeepsRvg c k) (sym x.is) (stated_keeps v p kind x.whole c)

-- a plex is in another state, or not, and calls failed
pub puts_or : {By : VolumeEntry → PlexEntry → PlexState → Type 0} (again : ℕ → Bool) (s : ℕ) (fails : Fails) (v p : ℕ) (kind : PlexState) (c d : Config)
    → ConfigGoesBy By again s fails c d ⊎ ((x : Config) × PutsPlex v p kind c x × ConfigGoesBy By again s fails x d) → KeepsRvg c d
puts_or again s fails v p kind c d (inl loses) = loses_keeps again s fails c d loses
puts_or again s fails v p kind c d (inr (x, puts, loses)) = keeps_then c x d (puts_keeps v p kind c x puts) (loses_keeps again s fails x d loses)

-- ---- one volume more

appended : (xs ys : List VolumeEntry) (k : ℕ) (e : VolumeEntry) → slice_get xs k ≡ Some e → slice_get (xs ++ ys) k ≡ Some e
appended [] ys k e at = absurd (cc)
appended (x ∷ xs) ys zero e at = at
appended (x ∷ xs) ys (suc k) e at = appended xs ys k e at

more_keeps : (c : Config) (v : VolumeEntry) → KeepsRvg c (with_volume c v)
more_keeps c v = record { rvg = refl; volumes = λ k e at. record { now = e; is = appended c.volumes (v ∷ []) k e at; name = refl; blocks = refl } }

adds_keeps : (name : List ℕ) (want : Shape) (c d : Config) → AddsVolume name want c d → KeepsRvg c d
adds_keeps name want c d x = subst (λ (k : Config). KeepsRvg c k) (sym x.is) (more_keeps c x.volume)

pub volume_keeps : (s : ℕ) (fails : Fails) (name : List ℕ) (want : Shape) (note next : GroupNode) → NotesVolume s fails name want note next → NoteKeepsRvg note next
volume_keeps s fails name want note next x c at = record {
  now = x.now;
  is = x.is;
  keeps = subst (λ (k : Config). KeepsRvg k x.now) (some_same (sym x.was ∙ at))
      (keeps_then x.old x.made x.now (adds_keeps name want x.old x.made x.adds) (loses_keeps (λ _. false) s fails x.made x.now x.loses));
}
