-- What calls on the logs of a volume are to a group over the shelf.
use Rattle.std.proofs.Common.{◌≡◌, ℕ, ◌+◌, ◌/◌, true, refl, arith}
use Rattle.vx_config.specs.Checks.{is_sound}
use Rattle.vx_config.specs.declared.config.Config.{Config}
use Rattle.vx_disk.specs.Shelf.{Each, Goes, Image, Lawful, Meaning, Nothing}
use Rattle.vx_kept.specs.Commits.{Member}
use Rattle.vx_kept.specs.Groups.{group_meaning}
use Rattle.vx_kept.specs.Keeping.{Acts, Kept, Sees}
use Rattle.vx_kept.proofs.Committed.{fewer}
use Rattle.vx_kept.proofs.Lasting.{low_Acts, low_Kept}
use Rattle.vx_kept.proofs.Narrower.{stand_apart}
use Rattle.vx_kept.proofs.StateLemmas.{same_shape}
use Rattle.vx_kept.proofs.Steps.{group-Goes}
use Rattle.vx_layout.specs.Places.{place}
use Rattle.vx_grouplogs.specs.Covering.{DiskCovers, ImageCovers, OnLogs}
use Rattle.vx_grouplogs.specs.Keeps.{KeepsGroup}
use Rattle.vx_grouplogs.proofs.LogPlaces.{logs_above, logs_beside}

module _ (c : Config) (sound : is_sound c ≡ true) (v : ℕ) (G : ℕ → Type 0) (m m' : Meaning) (before : Lawful m) (after : Lawful m') (kept : Kept c G m) (goes : Goes (OnLogs c v) m m') where
  pub logs_Acts : Acts (OnLogs c v) (Sees c G m) m m'
  logs_Acts = low_Acts c G m m' (OnLogs c v) goes (logs_above c sound v) before after kept

  -- the disks keep the configuration
  pub logs_Kept : Kept c G m'
  logs_Kept = low_Kept c G m m' (OnLogs c v) goes (logs_above c sound v) before after kept

  -- the volumes read as before, at each moment and in each image
  pub logs_group : (faults : ℕ → ℕ) → Goes Nothing (group_meaning c faults m) (group_meaning c faults m')
  logs_group faults = group-Goes c c G faults faults m m' (OnLogs c v) Nothing logs_Acts (stand_apart c sound) (same_shape c) (λ w p is. is)
      (λ w p b x inside is_on at. absurd (logs_beside c sound v w p b (place c w p b).0 (place c w p b).1 x inside is_on refl at)) (λ w. omega arith) (λ not t i left. after.never not t i left)

-- what is said of all that a crash leaves, of one image
pub image_covers : (c : Config) (v : ℕ) (m : Meaning) (i : Image) → DiskCovers c v m → Each m.leaves i → ImageCovers c v i
image_covers c v m i covers each = record {
  so = λ e b p q is inside on_p on_q off.
      covers.so e b p q (i (place c v p b).0 (place c v p b).1) (i (place c v q b).0 (place c v q b).1) (i e.disk (e.start + (b / 64) / 4096)) is inside on_p on_q (each e.disk (e.start + (b / 64) / 4096)) off
      (each (place c v p b).0 (place c v p b).1) (each (place c v q b).0 (place c v q b).1);
}

-- a call on the logs of one volume keeps the group
pub logs_keep : (c : Config) → is_sound c ≡ true → (v : ℕ) (m m' : Meaning) → Lawful m → Lawful m' → Goes (OnLogs c v) m m' → KeepsGroup c m m'
logs_keep c sound v m m' before after goes = record {
  goes = λ good faults kept. logs_group c sound v (Member good m) m m' before after kept goes faults;
  kept = λ good kept. fewer c (Member good m) (Member good m') m' (λ u it. record { below = let lt = it.below in omega (arith, goes.units, lt); is = it.is }) (logs_Kept c sound v (Member good m) m m' before after kept goes);
}
