-- A read of a volume as one of the group.
use Rattle.std.proofs.Common.{Err, ◌≡◌, inl, inr, ℕ, ◌+◌, ◌/◌, ◌<◌, ◌≤◌, Bool, IsTrue, List, length, sym, subst, arith}
use Rattle.vx_disk.specs.Shelf.{Fits, Meaning, Read, Values, piece}
use Rattle.vx_config.specs.Checks.{blocks_of}
use Rattle.vx_volume.specs.Plexes.{Inside, active}
use Rattle.vx_volume.specs.Volumes.{AllPlexesFailed, PlexRead, VolumeReads}
use Rattle.vx_volume.specs.declared.volume.Volume.{Volume}
use Rattle.vx_config.specs.declared.config.Config.{Config}
use Rattle.vx_model.specs.declared.no.No.{No}
use Rattle.vx_model.specs.declared.no.No.TheVariants.{Device}
use Rattle.vx_kept.specs.Groups.{seen}
use Rattle.vx_kept.proofs.Steps.{inside_back, inside_same}
use Rattle.vx_group.specs.Holding.{GroupStands, wide}
use Rattle.vx_group.specs.Stands.{inner_meaning}
use Rattle.vx_group.specs.declared.group_core.GroupCore.{GroupCore}
use Rattle.vx_group.specs.declared.inner.Inner.{Inner}
use Rattle.vx_group.proofs.HoldLemmas.{narrow_size, narrow_units, narrow_wider, wide_shape}

-- a read that was refused with a fault
pub fault_reads : (c : Config) (v w : Volume) (block n : ℕ) (bytes : List ℕ) (old new : Meaning) (why : No) (disk : ℕ) → why ≡ Device disk → VolumeReads c v w block n bytes old new (Err why) → AllPlexesFailed c v.number disk old new
fault_reads c v w block n bytes old new why disk is reads =
    let both : AllPlexesFailed c v.number disk old new × (w ≡ v) = subst (λ (x : No). VolumeReads c v w block n bytes old new (Err x)) is reads in
    both.0

module _ (core : Inner) (v block : ℕ) (bytes : List ℕ) (m m' : Meaning) (fits : Fits (inner_meaning core m) v block (length bytes)) where
  pub group_read : (p : ℕ) → IsTrue (active core.config v p) → PlexRead core.config v p block block (length bytes / 512) bytes m → Read (inner_meaning core m) v block bytes
  group_read p is_on read = record {
    each = λ tells b covers.
        let within : b < block + length bytes / 512 = omega (arith, covers.first, covers.last, fits.whole) in
        let in_it : Inside core.config v b = record { volume = fits.exists; within = omega (arith, within, fits.within) } in
        inl (record { inside = in_it; plex = p; is_on = is_on; value = read.each tells b (record { first = covers.first; last = within }) });
  }

-- the same of a group of which a plex may be held back
module _ (core : GroupCore) (m : Meaning) (stands : GroupStands core m) (v block : ℕ) where
  pub narrow_fits : (before after : List ℕ) → length after ≡ length before → Fits (inner_meaning (wide core) m) v block (length before) → Fits (inner_meaning core.inner m) v block (length after)
  narrow_fits before after same fits = record {
    exists = let lt : v < length (wide core).config.volumes = fits.exists in let units = narrow_units core m stands in omega (arith, lt, units);
    some = let some = fits.some in omega (arith, some, same);
    whole = let whole = fits.whole in omega (arith, whole, same);
    within = let le : block + length before / 512 ≤ blocks_of (wide core).config.volumes v = fits.within in let size = narrow_size core m stands v in omega (arith, le, size, same);
  }

  -- each value that a plex has that is ACTIVE in memory is one of the group
  seen_wide : (tells : Bool) (values : Values) (b : ℕ) (x : List ℕ) → seen tells core.inner.config values v b x → seen tells (wide core).config values v b x
  seen_wide tells values b x (inl is) = inl (record {
    inside = inside_back (wide core).config core.inner.config (wide_shape core) v b is.inside;
    plex = is.plex;
    is_on = narrow_wider core m stands v is.plex is.is_on;
    value = subst (λ (q : ℕ × ℕ). values q.0 q.1 x) (sym ((wide_shape core).place v is.plex b)) is.value;
  })
  seen_wide tells values b x (inr out) = inr (record { tells = out.tells; outside = λ in_it. out.outside (inside_same (wide core).config core.inner.config (wide_shape core) v b in_it); empty = out.empty })

  pub wide_read : (bytes : List ℕ) (m' : Meaning) → Fits (inner_meaning core.inner m) v block (length bytes) → (p : ℕ) → IsTrue (active core.inner.config v p) → PlexRead core.inner.config v p block block (length bytes / 512) bytes m → Read (inner_meaning (wide core) m) v block bytes
  wide_read bytes m' fits p is_on read =
      let narrow = group_read core.inner v block bytes m m' fits p is_on read in
      record { each = λ tells b covers. seen_wide m.tells m.reads b (piece block bytes b) (narrow.each tells b covers) }
