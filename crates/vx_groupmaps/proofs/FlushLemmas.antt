-- Plexes that go by their maps, made durable one after the other.
use Rattle.std.proofs.Common.{◌≡◌, ◌∙◌, inl, inr, ℕ, ◌+◌, ◌<◌, ◌≤◌, Bool, true, false, Option, Some, None, List, length, set, get_or-set_same, get_or-set_other, length-set, IsTrue, refl, sym, ap, subst, arith}
use Rattle.std.specs.Prelude.{Err, slice_get}
use Rattle.std.proofs.lemmas.Bool.{cases_eq}
use Rattle.vx_config.specs.Checks.{is_sound}
use Rattle.vx_config.specs.declared.config.Config.{Config}
use Rattle.vx_config.specs.declared.entry.PlexEntry.{PlexEntry}
use Rattle.vx_config.specs.declared.entry.VolumeEntry.{VolumeEntry}
use Rattle.vx_disk.specs.Blocks.{bit_at}
use Rattle.vx_disk.specs.Shelf.{Goes, Meaning, Nothing}
use Rattle.vx_disk.specs.declared.shelf.ShelfError.{ShelfError}
use Rattle.vx_disk.specs.declared.shelf.ShelfError.TheVariants.{Fault}
use Rattle.vx_disk.proofs.Causing.{Rose_after, Rose_before}
use Rattle.vx_disk.proofs.Runs.{same_Goes}
use Rattle.vx_layout.specs.Places.{place, plex_in}
use Rattle.vx_volume.specs.Plexes.{Inside, uses}
use Rattle.vx_volume.specs.Sets.{bits}
use Rattle.vx_volume.specs.Steps.{FlushedBelow, in_set}
use Rattle.vx_volume.specs.Volumes.{PlexBlamed, PlexCause, PlexFlushed}
use Rattle.vx_volume.proofs.BitLemmas.{bit_of}
use Rattle.vx_volume.proofs.ReadRuns.{leaves_before, reads_before, still}
use Rattle.vx_volume.proofs.UsesLemmas.{TherePlex, plex_disk, plex_uses}
use Rattle.vx_groupmaps.specs.Flushing.{MappedFlushed, MappedLoop}
use Rattle.vx_groupmaps.specs.Missing.{by_map, mapped_or}
use Rattle.vx_groupmaps.proofs.MapPlaces.{mapped_few}

-- ---- the disks of one plex

-- a plex that goes by its map is there
mapped_plex : (c : Config) (v p : ℕ) → IsTrue (by_map c v p) → TherePlex c v p
unfolding by_map
mapped_plex c v p is = by_volume (slice_get c.volumes v) refl
  where
    by_plex : (x : VolumeEntry) → slice_get c.volumes v ≡ Some x → (o : Option PlexEntry) → slice_get x.plexes p ≡ o → mapped_or o ≡ true → TherePlex c v p
    by_plex x at None at_p on = absurd (let clash : false ≡ true = on in cc)
    by_plex x at (Some a) at_p on = record { volume = x; plex = a; at_v = at; at_p = at_p }

    by_volume : (o : Option VolumeEntry) → slice_get c.volumes v ≡ o → TherePlex c v p
    by_volume None at = absurd (let clash : false ≡ true = ap (λ (o : Option VolumeEntry). mapped_or (plex_in o p)) (sym at) ∙ is in cc)
    by_volume (Some x) at = by_plex x at (slice_get x.plexes p) refl (ap (λ (o : Option VolumeEntry). mapped_or (plex_in o p)) (sym at) ∙ is)

module _ (c : Config) (sound : is_sound c ≡ true) (v p : ℕ) (is_map : IsTrue (by_map c v p)) where
  pub mapped_uses : (k : ℕ) → Inside c v k → IsTrue (uses c v p (place c v p k).0)
  mapped_uses k inside = plex_uses c sound v p (mapped_plex c v p is_map) k inside

  pub mapped_disk : (d : ℕ) → IsTrue (uses c v p d) → d < length c.disks
  mapped_disk d is = plex_disk c sound v p (mapped_plex c v p is_map) d is

  pub mapped_flushed : (disk : ℕ) (old m : Meaning) → length c.disks ≤ disk → FlushedBelow c v p disk old m → PlexFlushed c v p old m
  mapped_flushed disk old m le is = record {
    each = λ k x inside left. let on = mapped_uses k inside in is.each (place c v p k).0 (place c v p k).1 x (omega (arith, le, mapped_disk (place c v p k).0 on)) on left;
  }

-- ---- one plex after the other

pub mapped_start : (c : Config) (v : ℕ) (failed : List Bool) (m : Meaning) → (IsTrue m.down → ⊥) → length failed ≡ 8 → ((p : ℕ) → in_set failed p ≡ false) → MappedLoop c v 0 failed m m
mapped_start c v failed m up long none = record {
  goes = same_Goes Nothing m;
  up = up;
  long = long;
  flushed = λ p lt is out. absurd (omega (arith, lt));
  blamed = λ p is. absurd (let clash : false ≡ true = sym (none p) ∙ is in cc);
}

module _ (c : Config) (v i : ℕ) (failed failed' : List Bool) (old m : Meaning) (loop : MappedLoop c v i failed old m) where
  pub mapped_pass : by_map c v i ≡ false → failed' ≡ failed → MappedLoop c v (i + 1) failed' old m
  mapped_pass off f = rw f (record {
    goes = loop.goes;
    up = loop.up;
    long = loop.long;
    flushed = λ p lt is out. elim (cases_eq p i) [
      | inl at ↦ absurd (let clash : true ≡ false = sym is ∙ ap (λ (q : ℕ). by_map c v q) at ∙ off in cc)
      | inr not ↦ loop.flushed p (omega (arith, lt, not)) is out
    ];
    blamed = λ p is. let it = loop.blamed p is in (omega (arith, it.0), it.1, it.2);
  })

  module _ (m' : Meaning) (is_map : by_map c v i ≡ true) (goes : Goes Nothing m m') (up : IsTrue m'.down → ⊥) where
    pub mapped_goes : Goes Nothing old m'
    mapped_goes = still old m m' loop.goes goes

    flushed_on : (p : ℕ) → PlexFlushed c v p old m → PlexFlushed c v p old m'
    flushed_on p flushed = record { each = λ k x inside left. flushed.each k x inside (leaves_before m m' (place c v p k).0 (place c v p k).1 x goes left) }

    blamed_on : (p : ℕ) → PlexBlamed c v p old m → PlexBlamed c v p old m'
    blamed_on p blamed = record { disk = blamed.disk; is_its = blamed.is_its; rose = Rose_after _ _ _ blamed.rose (goes.faults blamed.disk) }

    pub mapped_ok : PlexFlushed c v i m m' → failed' ≡ failed → MappedLoop c v (i + 1) failed' old m'
    mapped_ok flushed f = rw f (record {
      goes = mapped_goes;
      up = up;
      long = loop.long;
      flushed = λ p lt is out. elim (cases_eq p i) [
        | inl at ↦ subst (λ (q : ℕ). PlexFlushed c v q old m') (sym at)
            (record { each = λ k x inside left. reads_before old m (place c v i k).0 (place c v i k).1 x loop.goes loop.up (flushed.each k x inside left) })
        | inr not ↦ flushed_on p (loop.flushed p (omega (arith, lt, not)) is out)
      ];
      blamed = λ p is. let it = loop.blamed p is in (omega (arith, it.0), it.1, blamed_on p it.2);
    })

    pub mapped_failed : i < 8 → PlexBlamed c v i m m' → failed' ≡ set failed i true → MappedLoop c v (i + 1) failed' old m'
    mapped_failed lt blamed f = rw f (record {
      goes = mapped_goes;
      up = up;
      long = length-set failed i true ∙ loop.long;
      flushed = λ p below is out. elim (cases_eq p i) [
        | inl at ↦ absurd (let clash : true ≡ false = sym (get_or-set_same failed i true false in_list) ∙ subst (λ (q : ℕ). in_set (set failed i true) q ≡ false) at out in cc)
        | inr not ↦ flushed_on p (loop.flushed p (omega (arith, below, not)) is (sym (get_or-set_other failed i p true false not) ∙ out))
      ];
      blamed = λ p is. elim (cases_eq p i) [
        | inl at ↦ subst (λ (q : ℕ). (q < i + 1) × IsTrue (by_map c v q) × PlexBlamed c v q old m') (sym at)
            (omega arith, is_map, record { disk = blamed.disk; is_its = blamed.is_its; rose = Rose_before _ _ _ (loop.goes.faults blamed.disk) blamed.rose })
        | inr not ↦ let it = loop.blamed p (sym (get_or-set_other failed i p true false not) ∙ is) in (omega (arith, it.0), it.1, blamed_on p it.2)
      ];
    })
      where
        in_list : i < length failed
        in_list = omega (arith, lt, loop.long)

  pub mapped_failed_by : (m' : Meaning) → by_map c v i ≡ true → Goes Nothing m m' → i < 8 → (disk : ℕ) (e : ShelfError) → e ≡ Fault disk → PlexCause {T = Unit {0}} c v i m m' (Err e) → failed' ≡ set failed i true → MappedLoop c v (i + 1) failed' old m'
  mapped_failed_by m' is_map goes lt disk error is raw f =
      let cause = subst (λ (x : ShelfError). PlexCause {T = Unit {0}} c v i m m' (Err x)) is raw in
      mapped_failed m' is_map goes cause.2 lt cause.0 f

pub mapped_end : (c : Config) → is_sound c ≡ true → (v count : ℕ) (failed : List Bool) (set : ℕ) (old m : Meaning) → 8 ≤ count → set ≡ bits failed → MappedLoop c v count failed old m → MappedFlushed c v set old m
mapped_end c sound v count failed set old m at_end is loop = record {
  flushed = λ p is_map out. loop.flushed p (omega (arith, mapped_few c sound v p is_map, at_end)) is_map (sym (bit p) ∙ out);
  blamed = λ p on. let it = loop.blamed p (sym (bit p) ∙ on) in (it.1, it.2);
  up = loop.up;
}
  where
    bit : (p : ℕ) → bit_at set p ≡ in_set failed p
    bit p = ap (λ (n : ℕ). bit_at n p) is ∙ bit_of failed p
