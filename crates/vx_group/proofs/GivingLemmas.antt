-- An image of the disks shows what an import of it gives.
use Rattle.std.proofs.Common.{◌≡◌, inl, inr, ℕ, ◌<◌, ◌≤◌, Bool, true, IsTrue, List, length, refl, sym, ◌∙◌, subst, arith}
use Rattle.vx_disk.specs.Shelf.{Each, Image, Lawful, Meaning}
use Rattle.vx_copyfmt.specs.Imports.{Found}
use Rattle.vx_config.specs.declared.config.Config.{Config}
use Rattle.vx_copies.specs.Answers.{returned}
use Rattle.vx_layout.specs.Places.{place}
use Rattle.vx_volume.specs.Plexes.{Inside}
use Rattle.vx_kept.specs.Choice.{chosen}
use Rattle.vx_kept.specs.Groups.{Shows, found, found_by}
use Rattle.vx_kept.specs.Keeping.{Extends}
use Rattle.vx_kept.specs.Opens.{OpenVolumes}
use Rattle.vx_kept.proofs.Chosen.{place_volumes}
use Rattle.vx_kept.proofs.Lasting.{cases_bool}
use Rattle.vx_group.specs.Imports.{GivesImage}
use Rattle.vx_group.specs.Resumes.{AtRest, CanImport, IsMended, stopped}
use Rattle.vx_group.specs.Stands.{inner_meaning}
use Rattle.vx_group.specs.declared.inner.Inner.{Inner}

module _ (old : Meaning) (config opened : Config) (core : Inner) (new : Meaning) (R : ℕ → Bool) (image : Image) (law : Lawful old) (law' : Lawful (inner_meaning core new)) (can : CanImport old)
    (read : IsTrue old.tells → Each old.reads image) (is : found_by old R image ≡ Found config) (opens : OpenVolumes 0 (returned R config) opened)
    (mended : (v : ℕ) → v < length opened.volumes → stopped config v ≡ true → IsMended opened v (chosen config v) core old new) where
  told_by : (i : Image) → Each old.leaves i → IsTrue old.tells
  told_by i each = elim (cases_bool old.tells) [
    | inl tells ↦ tells
    | inr not ↦ absurd (law.none not 0 0 (i 0 0) (each 0 0))
  ]

  -- each image has the configuration that was found
  one_found : (x : Config) (i : Image) → Each old.leaves i → found old i ≡ Found x → x ≡ config
  one_found x i each in_x =
      let both : Found x ≡ Found config = sym in_x ∙ can.one image i R config (λ u b. law.shown u b (image u b) (read (told_by i each) u b)) each is in
      cc

  place_is : (v p b : ℕ) → place opened v p b ≡ place config v p b
  place_is v p b = opens.alike.shape.place v p b ∙ sym (place_volumes config (returned R config) refl v p b)

  shown : (c : Config) (i above : Image) (v b : ℕ) (value : List ℕ) → AtRest old → Each old.leaves i → Extends config c → Shows c config i above → stopped config v ≡ true → Inside c v b → (inner_meaning core new).reads v b value → value ≡ above v b
  shown c i above v b value rest each extends shows stop in_it now =
      let lt : v < length c.volumes = in_it.volume in
      let more : length c.volumes ≤ length config.volumes = extends.volumes in
      let count : length opened.volumes ≡ length config.volumes = opens.alike.shape.volumes in
      let same = opens.alike.shape.blocks v in
      let blocks = extends.blocks v lt in
      let below = in_it.within in
      let it = mended v (omega (arith, lt, more, count)) stop in
      let inside : Inside opened v b = record { volume = omega (arith, lt, more, count); within = omega (arith, same, blocks, below) } in
      let s : ℕ = chosen config v in
      let left : old.leaves (place config v s b).0 (place config v s b).1 (it.value b) = subst (λ (q : ℕ × ℕ). old.leaves q.0 q.1 (it.value b)) (place_is v s b)
      (law.shown (place opened v s b).0 (place opened v s b).1 (it.value b) (it.origin b inside (told_by i each))) in
      it.one b value inside (law'.shown v b value now)
      ∙ rest.one (place config v s b).0 (place config v s b).1 (it.value b) (i (place config v s b).0 (place config v s b).1) left (each (place config v s b).0 (place config v s b).1) ∙ sym (shows.here v b in_it)

  pub gives_image : GivesImage old core new
  gives_image = record {
    reads = λ c x i above v b value rest each in_x extends shows stop in_it now.
        subst (λ (y : Config). Extends y c → Shows c y i above → stopped y v ≡ true → value ≡ above v b) (sym (one_found x i each in_x))
        (λ more this ended. shown c i above v b value rest each more this ended in_it now) extends shows stop;
  }
