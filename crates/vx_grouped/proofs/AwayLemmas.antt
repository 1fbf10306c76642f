-- A group that crashed, as its site notes it.
use Rattle.std.proofs.Common.{◌≡◌, ◌<◌, ◌≤◌, inl, ℕ, true, length, refl, sym, ◌∙◌, subst, IsTrue}
use Rattle.vx_model.specs.declared.site.SiteState.TheVariants.{Down as IsDown}
use Rattle.vx_disk.specs.Racks.{Stopped}
use Rattle.vx_disk.specs.Shelf.{Each, Image, Meaning}
use Rattle.vx_history.specs.Groups.{GroupNode, BlockMay}
use Rattle.vx_history.specs.World.{Node}
use Rattle.vx_config.specs.declared.config.Config.{Config}
use Rattle.vx_copyfmt.specs.Imports.{Found}
use Rattle.vx_kept.specs.Choice.{live}
use Rattle.vx_kept.specs.Groups.{found}
use Rattle.vx_kept.specs.Keeping.{Kin}
use Rattle.vx_kept.proofs.Steps.{inside_back}
use Rattle.vx_layout.specs.Places.{place}
use Rattle.vx_volume.specs.Plexes.{Inside, SomeActive}
use Rattle.vx_group.specs.Holding.{wide}
use Rattle.vx_group.specs.Resumes.{CanImport}
use Rattle.vx_group.specs.Stands.{InnerStands}
use Rattle.vx_group.specs.declared.group_core.GroupCore.{GroupCore}
use Rattle.vx_group.proofs.HoldLemmas.{wide_shape}
use Rattle.vx_grouped.specs.Away.{AwayLies, AwayFit, IsAwayAt}
use Rattle.vx_grouped.specs.GroupNotes.{GroupLies}
use Rattle.vx_kept.proofs.Chosen.{extends_shape}
use Rattle.vx_grouped.proofs.ImageLemmas.{less_from, less_noted}

module _ (n : Node) (note : GroupNode) (c : GroupCore) (m m' : Meaning) (lies : GroupLies n note c m) (stopped : Stopped m m') (stands : InnerStands (wide c) m') where
  kin : (i : Image) (x : Config) → Each m'.leaves i → found m' i ≡ Found x → Kin (wide c).config x
  kin i x each is = stands.kept.kin i x each is

  has : (i : Image) (x : Config) → Each m'.leaves i → found m' i ≡ Found x → (v p b : ℕ) → Inside c.inner.config v b → IsTrue (live x v p) → BlockMay note v b (i (place x v p b).0 (place x v p b).1)
  has i x each is v p b inside on =
      let it = kin i x each is in
      let there : Inside (wide c).config v b = inside_back (wide c).config c.inner.config (wide_shape c) v b inside in
      let same : place x v p b ≡ place (wide c).config v p b = it.shape.place v p b there.volume in
      subst (λ (at : ℕ × ℕ). BlockMay note v b (i at.0 at.1)) (sym same)
      (lies.holds.has v b (i (place (wide c).config v p b).0 (place (wide c).config v p b).1) there.volume there.within
      (inl (record { inside = there; plex = p; is_on = it.on v p there.volume on; value = stopped.leaves (place (wide c).config v p b).0 (place (wide c).config v p b).1 (i (place (wide c).config v p b).0 (place (wide c).config v p b).1) (each (place (wide c).config v p b).0 (place (wide c).config v p b).1) })))

  crash_lies : (c.inner.agreed ≡ true → CanImport m') → AwayLies (record n { state = IsDown }) note c.inner.config m'
  crash_lies can = record {
    units = stopped.units ∙ lies.units;
    size = λ u low. stopped.size u ∙ lies.size u low;
    can = λ tight. can (lies.agreed tight);
    sizes = λ v. lies.holds.size v ∙ (wide_shape c).blocks v;
    finds = stands.kept.finds;
    volumes = λ i x each is. extends_shape x (wide c).config c.inner.config (kin i x each is).shape (wide_shape c);
    has = has;
  }

  crash_some : AwayFit (record n { state = IsDown }) c.inner.config
  crash_some = record {
    large = λ more. subst (λ (x : ℕ). 1024 ≤ x) (stopped.size 0 ∙ lies.size 0 more) (stands.large.each 0 (subst (λ (x : ℕ). 0 < x) (sym (stopped.units ∙ lies.units)) more));
    some = λ all. stands.some (record { each = λ u low is. all.each u low });
  }

  pub crash_away : ((v : ℕ) → v < length c.inner.config.volumes → SomeActive c.inner.config v) → (c.inner.agreed ≡ true → CanImport m') → IsAwayAt (record n { state = IsDown }) note c.inner.config m'
  crash_away runs can = record { state = refl; config = lies.config; found = less_noted note c.inner.config m m' (less_from m m' stopped.units stopped.size stopped.leaves) lies.images.noted; runs = λ bright. runs; some = crash_some; lies = crash_lies can }

-- the same of equal parts
pub lies_at : {S : Type 0} (meaning : S → Meaning) (n : Node) (note : GroupNode) (c d : GroupCore) (s t : S) → d ≡ c → t ≡ s → GroupLies n note c (meaning s) → GroupLies n note d (meaning t)
lies_at meaning n note c d s t core shelf it = subst (λ (x : GroupCore). GroupLies n note x (meaning t)) (sym core) (subst (λ y. GroupLies n note c (meaning y)) (sym shelf) it)
