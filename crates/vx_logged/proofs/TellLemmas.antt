-- What the logs of a group tell of each image.
use Rattle.std.proofs.Common.{◌≡◌, ◌∙◌, ℕ, ◌+◌, ◌/◌, ◌%◌, ◌<◌, true, false, List, length, sym, ap, arith}
use Rattle.vx_bitmap.specs.Bits.{is_marked}
use Rattle.vx_config.specs.declared.config.Config.{Config}
use Rattle.vx_config.specs.declared.entry.VolumeLog.TheVariants.{Drl}
use Rattle.vx_disk.specs.Shelf.{Each, Image, Meaning}
use Rattle.vx_kept.specs.Keeping.{Kin}
use Rattle.vx_kept.proofs.Low.{found_same}
use Rattle.vx_logs.specs.Held.{logged_in}
use Rattle.vx_logs.specs.declared.logs.Logs.{Logs}
use Rattle.vx_volume.specs.Plexes.{Inside}
use Rattle.vx_group.specs.Holding.{GroupStands, wide}
use Rattle.vx_group.specs.declared.group_core.GroupCore.{GroupCore}
use Rattle.vx_group.proofs.HoldLemmas.{wide_shape}
use Rattle.vx_group.proofs.TrustingLemmas.{used_trusted}
use Rattle.vx_grouplogs.specs.On.{VolumeOn}
use Rattle.vx_grouplogs.proofs.GroupLemmas.{image_covers}
use Rattle.vx_grouplogs.proofs.LogShape.{run_back}
use Rattle.vx_logged.specs.Logged.{LogOn}
use Rattle.vx_logged.specs.Tells.{ImageTells, LogTells}

-- an image of a group tells by its own configuration what the disks cover by that in memory
module _ (c x : Config) (v : ℕ) (l : Logs) (m : Meaning) (i : Image) (lt : v < length c.volumes) (on : VolumeOn c v l m) (each : Each m.leaves i) (kin : Kin c x) where
  pub image_tells : ImageTells x v i
  image_tells = record {
    so = λ e p q b in_use inside live_p live_q off.
        let trusted = kin.shape.trusted v Drl lt (used_trusted x v e in_use) in
        let run = run_back c x v Drl (kin.shape.logs v Drl lt) e in_use.is in
        let there : Inside c v b = record { volume = lt; within = omega (arith, inside.within, kin.shape.blocks v lt) } in
        let off' : logged_in run.entry i (b / 64) ≡ false =
        ap (λ (u : ℕ). is_marked (i u (run.entry.start + (b / 64) / 4096)) ((b / 64) % 4096)) run.disk ∙ ap (λ (n : ℕ). is_marked (i e.disk (n + (b / 64) / 4096)) ((b / 64) % 4096)) run.start ∙ off in
        let same = (image_covers c v m i (on.disk trusted) each).so run.entry b p q run.is there (kin.on v p lt live_p) (kin.on v q lt live_q) off' in
        ap (λ (at : ℕ × ℕ). i at.0 at.1) (kin.shape.place v p b lt) ∙ same ∙ ap (λ (at : ℕ × ℕ). i at.0 at.1) (sym (kin.shape.place v q b lt));
  }

-- fewer images tell what all told
pub less_tells : (v : ℕ) (m m' : Meaning) → m'.units ≡ m.units → ((u : ℕ) → m'.size u ≡ m.size u) → ((u b : ℕ) (y : List ℕ) → m'.leaves u b y → m.leaves u b y) → LogTells v m → LogTells v m'
less_tells v m m' units size less tells = record {
  so = λ i x each is. tells.so i x (λ u b. less u b (i u b) (each u b)) (sym (found_same m m' units size (λ u. true) i) ∙ is);
}

pub group_tells : (core : GroupCore) (v : ℕ) (l : Logs) (m : Meaning) → GroupStands core m → v < length core.inner.config.volumes → LogOn core v l m → LogTells v m
group_tells core v l m stands lt on = record {
  so = λ i x each is. image_tells (wide core).config x v l m i (let count = (wide_shape core).volumes in omega (arith, count, lt)) on each (stands.stands.kept.kin i x each is);
}
