-- The commit of a configuration with plexes STALE.
use Rattle.std.proofs.Common.{◌≡◌, ℕ, zero, suc, ◌+◌, ◌<◌, Bool, true, false, List, length, refl, ap, sym, ◌∙◌, subst, arith}
use Rattle.std.specs.Prelude.{◌&&◌, ◌==◌, if◌then◌else◌}
use Rattle.std.proofs.lemmas.Bool.{and_from, and_parts}
use Rattle.vx_disk.specs.Blocks.{bit_at}
use Rattle.vx_disk.specs.Shelf.{Meaning}
use Rattle.vx_copyfmt.specs.Commits.{Tidy}
use Rattle.vx_model.specs.declared.site.PlexState.TheVariants.{Stale}
use Rattle.vx_config.specs.Changes.{stated}
use Rattle.vx_config.specs.Checks.{is_sound}
use Rattle.vx_config.specs.Configs.{CanSpell}
use Rattle.vx_config.specs.declared.config.Config.{Config}
use Rattle.vx_config.specs.declared.entry.DiskEntry.{DiskEntry}
use Rattle.vx_copies.specs.Bodies.{fits_units, have_blocks, is_wanted}
use Rattle.vx_copies.specs.Commits.{Refused}
use Rattle.vx_copies.specs.Looking.{on_shelf}
use Rattle.vx_copies.specs.Marks.{failed_at}
use Rattle.vx_copies.proofs.OneTry.{wanted_same, wanted_serial}
use Rattle.vx_model.specs.declared.no.No.{No}
use Rattle.vx_volume.specs.Plexes.{active}
use Rattle.vx_kept.specs.Choice.{live}
use Rattle.vx_kept.specs.Keeping.{AllOn, MayBeNext, IsTidy}
use Rattle.vx_kept.specs.States.{AreOn, SomeLeft, staled, stale_at, whole_of}
use Rattle.vx_kept.proofs.Chosen.{active_volumes}
use Rattle.vx_kept.proofs.Narrower.{staled_follows, staled_on}
use Rattle.vx_kept.proofs.StateLemmas.{is_staled}

-- a configuration with another serial
abbrev pub with_serial : ℕ → Config → Config
with_serial s c = record { serial = s; site = c.site; disks = c.disks; volumes = c.volumes; rvg = c.rvg }

module _ (v set : ℕ) (c a : Config) (is : a ≡ staled v set c 8) where
  serial_is : a.serial ≡ c.serial
  serial_is = ap (λ (x : Config). x.serial) is ∙ (is_staled v set 8 c).serial

  disks_are : a.disks ≡ c.disks
  disks_are = ap (λ (x : Config). x.disks) is ∙ (is_staled v set 8 c).disks

  pub stale_tidy : (m : Meaning) → IsTidy c m → IsTidy a m
  stale_tidy m tidy = record {
    each = λ u held. subst (λ (s : ℕ). Tidy (on_shelf m) (s + 1) (m.leaves u)) (sym serial_is)
        (tidy.each u (record { below = held.below; good = ap (λ (ds : List DiskEntry). failed_at ds u) (sym disks_are) ∙ held.good }));
  }

  pub stale_wanted : (units : ℕ) (size : ℕ → ℕ) → is_wanted units size c ≡ true → (is_sound c ≡ true → is_sound a ≡ true) → is_wanted units size a ≡ true
  stale_wanted units size wanted sound =
      let parts = and_parts (is_sound c) (fits_units units size c) wanted in
      and_from (is_sound a) (fits_units units size a) (sound parts.0) (ap (λ (ds : List DiskEntry). length ds == units && have_blocks size 0 ds) disks_are ∙ parts.1)

  pub stale_follows : (v < length c.volumes → SomeLeft c v set) → is_sound c ≡ true → AllOn c → MayBeNext c a
  stale_follows left sound on = subst (MayBeNext c) (sym is) (staled_follows v set c left sound on)

  pub stale_on : (v < length c.volumes → SomeLeft c v set) → is_sound c ≡ true → AllOn c → AllOn a
  stale_on left sound on = subst AllOn (sym is) (staled_on v set c left sound on)

-- ---- a refused one

whole_serial : (s : ℕ) (d : Config) (v p : ℕ) → whole_of (with_serial s d) v p ≡ whole_of d v p
unfolding whole_of
whole_serial s d v p = refl

staled_serial : (v set n s : ℕ) (c : Config) → staled v set (with_serial s c) n ≡ with_serial s (staled v set c n)
staled_serial v set zero s c = refl
staled_serial v set (suc n) s c = by (staled_serial v set n s c) (bit_at set n)
  where
    by : staled v set (with_serial s c) n ≡ with_serial s (staled v set c n) → (b : Bool) → (if b then stale_at v n (staled v set (with_serial s c) n) else staled v set (with_serial s c) n) ≡ with_serial s (if b then stale_at v n (staled v set c n) else staled v set c n)
    by again true = ap (stale_at v n) again ∙ ap (λ (w : Bool). stated v n Stale w (with_serial s (staled v set c n))) (whole_serial s (staled v set c n) v n)
    by again false = again

-- what is refused is put back
pub put_back : (good v set : ℕ) (c a d : Config) (old new : Meaning) (why : No) → a ≡ staled v set c 8 → Refused good a d old new why → d ≡ staled v set (with_serial d.serial c) 8
put_back good v set c a d old new why is refused = refused.kept ∙ ap (with_serial d.serial) is ∙ sym (staled_serial v set 8 d.serial c)

pub on_serial : (v set s : ℕ) (c : Config) → AreOn c v set → AreOn (with_serial s c) v set
on_serial v set s c on = record { each = λ p in_it. active_volumes (with_serial s c) c refl v p ∙ on.each p in_it }

pub all_serial : (s : ℕ) (c : Config) → AllOn c → AllOn (with_serial s c)
unfolding active live
all_serial s c on = record { each = λ v p is. on.each v p is }

pub can_serial : (s : ℕ) (c d : Config) → CanSpell c → CanSpell d → s ≡ d.serial → CanSpell (with_serial s c)
can_serial s c d can last is = record { serial = let le = last.serial in omega (arith, le, is); disks = can.disks; rvg = can.rvg }

pub wanted_back : (s : ℕ) (c : Config) (old new : Meaning) → new.units ≡ old.units → ((u : ℕ) → new.size u ≡ old.size u) → is_wanted old.units old.size c ≡ true → is_wanted new.units new.size (with_serial s c) ≡ true
wanted_back s c old new units size wanted = wanted_same old new (with_serial s c) units size (wanted_serial old.units old.size c s wanted)
