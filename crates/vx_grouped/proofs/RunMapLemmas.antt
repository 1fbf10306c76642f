-- A group that crashed: where no further configuration may stand on its disks no volume of it stopped cleanly.
use Rattle.std.proofs.Common.{◌≡◌, ◌∙◌, ◌<◌, ◌⊎◌, inl, inr, ℕ, Bool, true, false, List, [], ◌∷◌, ap, arith, length, refl, subst, sym}
use Rattle.std.specs.Prelude.{Contains}
use Rattle.vx_config.specs.declared.config.Config.{Config}
use Rattle.vx_config.specs.declared.entry.VolumeEntry.{VolumeEntry}
use Rattle.vx_disk.specs.Shelf.{Meaning}
use Rattle.vx_history.specs.Groups.{GroupNode}
use Rattle.vx_kept.specs.Cleans.{at_serial}
use Rattle.vx_kept.proofs.Chosen.{active_volumes}
use Rattle.vx_grouped.specs.Away.{AllRun}
use Rattle.vx_grouped.specs.GroupNotes.{NotesFound, noted_try}
use Rattle.vx_grouped.specs.Clean.{StoppedSome, StopsClean}
use Rattle.vx_volume.specs.Plexes.{SomeActive}

-- a list that is empty has nothing in it
pub in_none : (l : List (List ℕ)) (x : List ℕ) → l ≡ [] → Contains l x → ⊥
in_none l x none has = by (subst (λ (k : List (List ℕ)). Contains k x) none has)
  where
    by : Contains [] x → ⊥
    by (k, low, is) = omega (arith, low)

-- The volumes of an image's configuration are those that are noted; so one that stopped cleanly by it did by the note.
volumes_as : (note : GroupNode) (last : Config) → note.begun ≡ [] → (x : Config) → (at_serial 0 x ≡ at_serial 0 last) ⊎ Contains note.begun (noted_try x) → x.volumes ≡ last.volumes
volumes_as note last none x (inl same) = ap (λ (c : Config). c.volumes) same
volumes_as note last none x (inr has) = absurd (in_none note.begun (noted_try x) none has)

pub noted_as_is : (note : GroupNode) (last : Config) → note.begun ≡ [] → (x : Config) → (at_serial 0 x ≡ at_serial 0 last) ⊎ Contains note.begun (noted_try x) → at_serial 0 x ≡ at_serial 0 last
noted_as_is note last none x (inl same) = same
noted_as_is note last none x (inr has) = absurd (in_none note.begun (noted_try x) none has)

pub clean_noted : (note : GroupNode) (last : Config) (m : Meaning) → NotesFound note last m → note.loose ≡ false → note.begun ≡ [] → (v : ℕ) → StoppedSome m v → (v < length last.volumes) × StopsClean last v
clean_noted note last m found tight none v some =
    let same : some.config.volumes ≡ last.volumes = volumes_as note last none some.config (found.each tight some.image some.config some.each some.finds) in (
      subst (λ (vs : List VolumeEntry). v < length vs) same some.low,
      record { each = λ p. sym (active_volumes some.config last same v p) ∙ some.clean.each p },
    )

-- no volume with a plex that is ACTIVE stopped cleanly
pub never_clean : (c last : Config) → c.volumes ≡ last.volumes → (v : ℕ) → SomeActive last v → StopsClean c v → ⊥
never_clean c last same v on clean = let clash : false ≡ true = sym (clean.each on.plex) ∙ active_volumes c last same v on.plex ∙ on.is_on in cc

module _ (note : GroupNode) (last : Config) (m : Meaning) (found : NotesFound note last m) (runs : AllRun note last) (bright : note.dark ≡ false) (tight : note.loose ≡ false) (none : note.begun ≡ []) where
  pub none_stopped : (v : ℕ) → StoppedSome m v → ⊥
  none_stopped v some =
      let was = clean_noted note last m found tight none v some in
      never_clean last last refl v (runs bright v was.0) was.1

by_begun : (l : List (List ℕ)) → (l ≡ [] → ⊥) ⊎ (l ≡ [])
by_begun [] = inr refl
by_begun (x ∷ xs) = inl (λ is. let clash : x ∷ xs ≡ [] = is in cc)

-- so a volume that did says of the note what may be on the disks
pub stopped_why : (note : GroupNode) (last : Config) (m : Meaning) → NotesFound note last m → AllRun note last → note.dark ≡ false → (v : ℕ) → StoppedSome m v → (note.begun ≡ [] → ⊥) ⊎ (note.loose ≡ true)
stopped_why note last m found runs bright v some = by note.loose refl
  where
    tight : note.loose ≡ false → (note.begun ≡ [] → ⊥) ⊎ (note.begun ≡ []) → (note.begun ≡ [] → ⊥) ⊎ (note.loose ≡ true)
    tight t (inl many) = inl many
    tight t (inr none) = absurd (none_stopped note last m found runs bright t none v some)

    by : (b : Bool) → note.loose ≡ b → (note.begun ≡ [] → ⊥) ⊎ (note.loose ≡ true)
    by true is = inr is
    by false is = tight is (by_begun note.begun)
