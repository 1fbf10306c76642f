-- What is the same of volumes that have one frame: all but the states of their plexes and the loss of their logs.
use Rattle.std.proofs.Common.{◌≡◌, ℕ, zero, suc, false, Option, Some, None, List, [], ◌∷◌, refl, ap, sym, ◌∙◌}
use Rattle.std.proofs.lemmas.Option.{same_Some}
use Rattle.std.specs.Prelude.{is_some, map, slice_get}
use Rattle.vx_model.specs.declared.site.PlexState.TheVariants.{Stale}
use Rattle.vx_config.specs.Changes.{lost_as, with_state}
use Rattle.vx_config.specs.declared.config.Config.{Config}
use Rattle.vx_config.specs.declared.entry.LogEntry.{LogEntry}
use Rattle.vx_config.specs.declared.entry.PlexEntry.{PlexEntry}
use Rattle.vx_config.specs.declared.entry.VolumeEntry.{VolumeEntry}
use Rattle.vx_kept.specs.Keeping.{frame, frame_at, frame_or, name_or, volume_name}

names_frame : (o : Option VolumeEntry) → name_or (frame_or o) ≡ name_or o
unfolding frame
names_frame None = refl
names_frame (Some v) = refl

-- the same name
pub names_of : (x c : Config) (v w : ℕ) → frame_at x v ≡ frame_at c w → volume_name x v ≡ volume_name c w
names_of x c v w is = sym (names_frame (slice_get x.volumes v)) ∙ ap name_or is ∙ names_frame (slice_get c.volumes w)

-- ---- the parts of a volume

-- at one place there is none of both, or both are there and lie on the same subdisks
abbrev pub SamePlex : Option PlexEntry → Option PlexEntry → Type 0
SamePlex None None = Unit {0}
SamePlex None (Some q) = ⊥
SamePlex (Some p) None = ⊥
SamePlex (Some p) (Some q) = q.subdisks ≡ p.subdisks

-- volumes that are the same but for the states of plexes and the loss of logs
pub record SameVolume (v u : VolumeEntry) : Type 0 where
  pub name : u.name ≡ v.name
  pub blocks : u.blocks ≡ v.blocks
  pub ncol : u.ncol ≡ v.ncol
  pub width : u.width ≡ v.width
  pub prefer : u.prefer ≡ v.prefer
  pub drl : is_some u.drl ≡ is_some v.drl
  pub fmr : is_some u.fmr ≡ is_some v.fmr
  pub plexes : (k : ℕ) → SamePlex (slice_get v.plexes k) (slice_get u.plexes k)

-- at one place there is none of both, or both are there and are the same
abbrev pub SameOne : Option VolumeEntry → Option VolumeEntry → Type 0
SameOne None None = Unit {0}
SameOne None (Some u) = ⊥
SameOne (Some v) None = ⊥
SameOne (Some v) (Some u) = SameVolume v u

some_lost : (o : Option LogEntry) → is_some (lost_as false o) ≡ is_some o
some_lost None = refl
some_lost (Some l) = refl

pub heads_of : (p q : PlexEntry) (ps qs : List PlexEntry) → q ∷ qs ≡ p ∷ ps → (q ≡ p) × (qs ≡ ps)
heads_of p q ps qs is = (cc is, cc is)

subdisks_of : (p q : PlexEntry) → with_state Stale false q ≡ with_state Stale false p → q.subdisks ≡ p.subdisks
subdisks_of p q is = ap (λ (e : PlexEntry). e.subdisks) is

same_plexes : (ps qs : List PlexEntry) → map (with_state Stale false) qs ≡ map (with_state Stale false) ps → (k : ℕ) → SamePlex (slice_get ps k) (slice_get qs k)
same_plexes [] [] is k = tt
same_plexes [] (q ∷ qs) is k = absurd (let no_one : with_state Stale false q ∷ map (with_state Stale false) qs ≡ [] = is in cc)
same_plexes (p ∷ ps) [] is k = absurd (let no_one : [] ≡ with_state Stale false p ∷ map (with_state Stale false) ps = is in cc)
same_plexes (p ∷ ps) (q ∷ qs) is zero = subdisks_of p q (heads_of (with_state Stale false p) (with_state Stale false q) (map (with_state Stale false) ps) (map (with_state Stale false) qs) is).0
same_plexes (p ∷ ps) (q ∷ qs) is (suc k) = same_plexes ps qs (heads_of (with_state Stale false p) (with_state Stale false q) (map (with_state Stale false) ps) (map (with_state Stale false) qs) is).1 k

frame_same : (v u : VolumeEntry) → frame u ≡ frame v → SameVolume v u
unfolding frame
frame_same v u is = record {
  name = ap (λ (x : VolumeEntry). x.name) is;
  blocks = ap (λ (x : VolumeEntry). x.blocks) is;
  ncol = ap (λ (x : VolumeEntry). x.ncol) is;
  width = ap (λ (x : VolumeEntry). x.width) is;
  prefer = ap (λ (x : VolumeEntry). x.prefer) is;
  drl = sym (some_lost u.drl) ∙ ap (λ (x : VolumeEntry). is_some x.drl) is ∙ some_lost v.drl;
  fmr = sym (some_lost u.fmr) ∙ ap (λ (x : VolumeEntry). is_some x.fmr) is ∙ some_lost v.fmr;
  plexes = same_plexes v.plexes u.plexes (ap (λ (x : VolumeEntry). x.plexes) is);
}

pub same_of : (o p : Option VolumeEntry) → frame_or p ≡ frame_or o → SameOne o p
same_of None None is = tt
same_of None (Some u) is = absurd (let no_one : Some (frame u) ≡ None = is in cc)
same_of (Some v) None is = absurd (let no_one : None ≡ Some (frame v) = is in cc)
same_of (Some v) (Some u) is = frame_same v u (same_Some (frame u) (frame v) is)
