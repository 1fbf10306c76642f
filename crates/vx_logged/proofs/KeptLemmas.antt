-- Logs of a volume that are in memory or held as lost, behind the calls of a flush.
use Rattle.std.proofs.Common.{◌≡◌, ◌∙◌, inl, inr, ℕ, ◌+◌, ◌<◌, ◌≤◌, Bool, true, false, None, refl, sym, ap, arith}
use Rattle.vx_config.specs.Checks.{blocks_of}
use Rattle.vx_config.specs.Table.{greatest}
use Rattle.vx_config.specs.declared.entry.VolumeLog.TheVariants.{Drl, Fmr}
use Rattle.vx_disk.specs.Shelf.{Goes, Meaning, Nothing}
use Rattle.vx_group.specs.Holding.{wide}
use Rattle.vx_group.specs.Stands.{inner_meaning}
use Rattle.vx_group.specs.declared.group_core.GroupCore.{GroupCore}
use Rattle.vx_group.specs.declared.inner.Inner.{Inner}
use Rattle.vx_group.proofs.HoldLemmas.{wide_none}
use Rattle.vx_logs.specs.declared.logs.Logs.{Logs}
use Rattle.vx_logged.specs.Behind.{AreKept, BothKept, MapSaid}
use Rattle.vx_logged.specs.Logged.{LogKept, MapKept, Narrowed}

-- ---- calls that trust no log anew, and leave the log as it was

pub log_later : (c d : GroupCore) (v : ℕ) (l k : Logs) → Narrowed c d → k.drl ≡ l.drl → LogKept c v l → LogKept d v k
log_later c d v l k narrow same was = λ told none. was (narrow.less v Drl told) (sym same ∙ none)

pub map_later : (c d : GroupCore) (v : ℕ) (l k : Logs) → Narrowed c d → k.fmr ≡ l.fmr → MapKept c v l → MapKept d v k
map_later c d v l k narrow same was = λ told none. was (narrow.less v Fmr told) (sym same ∙ none)

pub both_later : (c d : GroupCore) (v : ℕ) (l : Logs) → Narrowed c d → BothKept c v l → BothKept d v l
both_later c d v l narrow was = record { drl = λ told none. was.drl (narrow.less v Drl told) none; fmr = λ told none. was.fmr (narrow.less v Fmr told) none }

-- ---- what is said of both

pub both_kept : (core : GroupCore) (v : ℕ) (l : Logs) → BothKept core v l → AreKept core v l
both_kept core v l it = record { so = inl (it.drl, inl it.fmr) }

-- where the calls say whether they are done
pub kept_by : (core : GroupCore) (v : ℕ) (l : Logs) (done : Bool) → (done ≡ true → LogKept core v l) → MapKept core v l → (done ≡ false → greatest ≤ core.inner.config.serial + 9) → AreKept core v l
kept_by core v l true drl fmr spent = record { so = inl (drl refl, inl fmr) }
kept_by core v l false drl fmr spent = record { so = inr (spent refl) }

pub kept_said : (core : GroupCore) (v : ℕ) (l : Logs) (done : Bool) → (done ≡ true → LogKept core v l) → (done ≡ true → MapSaid core v l) → (done ≡ false → greatest ≤ core.inner.config.serial + 9) → AreKept core v l
kept_said core v l true drl fmr spent = record { so = inl (drl refl, fmr refl) }
kept_said core v l false drl fmr spent = record { so = inr (spent refl) }

-- ---- a volume that has blocks

-- behind calls that change nothing it does not come to have none
pub some_blocks : (c d : GroupCore) (v blocks : ℕ) (m m' : Meaning) → d.held ≡ None → Goes Nothing (inner_meaning (wide c) m) (inner_meaning (wide d) m') → blocks ≡ blocks_of d.inner.config.volumes v → blocks ≡ 0 → 0 < blocks_of (wide c).config.volumes v → ⊥
some_blocks c d v blocks m m' none goes is zero some =
    let same : blocks_of d.inner.config.volumes v ≡ blocks_of (wide c).config.volumes v = ap (λ (i : Inner). blocks_of i.config.volumes v) (sym (wide_none d none)) ∙ goes.size v in
    omega (arith, some, same, is, zero)
