-- Logs that calls of a group take out of memory, and those that they come to hold as lost.
use Rattle.std.proofs.Common.{◌≡◌, ◌∙◌, inl, inr, ℕ, ◌+◌, ◌<◌, ◌≤◌, Bool, true, false, None, refl, sym, ap, subst}
use Rattle.std.proofs.lemmas.Bool.{cases_lt}
use Rattle.vx_config.specs.Table.{greatest}
use Rattle.vx_config.specs.declared.config.Config.{Config}
use Rattle.vx_config.specs.declared.entry.VolumeLog.{VolumeLog}
use Rattle.vx_config.specs.declared.entry.VolumeLog.TheVariants.{Drl, Fmr}
use Rattle.vx_disk.specs.Shelf.{Meaning}
use Rattle.vx_group.specs.Holding.{wide}
use Rattle.vx_group.specs.Loses.{TrustsBut, TrustsStill}
use Rattle.vx_group.specs.declared.group_core.GroupCore.{GroupCore}
use Rattle.vx_group.specs.declared.inner.Inner.{Inner}
use Rattle.vx_group.proofs.HoldLemmas.{wide_none}
use Rattle.vx_grouplogs.specs.Gone.{LogsDrop, has_log}
use Rattle.vx_grouplogs.proofs.GoneLemmas.{drop_same}
use Rattle.vx_kept.specs.LogRuns.{log_place}
use Rattle.vx_logs.specs.declared.logs.Logs.{Logs}
use Rattle.vx_logged.specs.Logged.{DropsBut, Narrowed, TrustsIn}

-- ---- logs that are held as lost

pub trusts_all : (v : ℕ) (this : VolumeLog) (c : Config) → TrustsBut v this c c
trusts_all v this c = record { each = λ w log apart is. is }

-- a call that holds none as lost
pub trusts_in : (v : ℕ) (k : Logs) (c d : Config) → TrustsStill c d → TrustsIn v k c d
trusts_in v k c d still = record { each = λ w log mem is. still.each w log is }

pub trusts_then : (v : ℕ) (k : Logs) (c d e : Config) → TrustsIn v k c d → TrustsIn v k d e → TrustsIn v k c e
trusts_then v k c d e one two = record { each = λ w log mem is. two.each w log mem (one.each w log mem is) }

-- fewer logs are in memory
pub trusts_less : (v : ℕ) (l k : Logs) (c d : Config) → ((log : VolumeLog) → has_log log k ≡ true → has_log log l ≡ true) → TrustsIn v l c d → TrustsIn v k c d
trusts_less v l k c d none trusts = record { each = λ w log mem is. trusts.each w log (λ same. none log (mem same)) is }

-- a call that may hold one log as lost, where it is not in memory
pub trusts_but : (v : ℕ) (this : VolumeLog) (k : Logs) (c d : Config) (has : Bool) → has ≡ has_log this k → TrustsBut v this c d → (has ≡ true → TrustsStill c d) → TrustsIn v k c d
trusts_but v this k c d true told but still = trusts_in v k c d (still refl)
trusts_but v this k c d false told but still = record {
  each = λ w log mem is. but.each w log (λ at. (let clash : false ≡ true = told ∙ subst (λ (x : VolumeLog). has_log x k ≡ true) at.1 (mem at.0) in cc)) is;
}

-- ---- a plex that is held back still

-- where one is held back behind its detach, no serial is left then
pub ready_spent : (c d : GroupCore) → (c.inner.config.serial < greatest → d.held ≡ None) → (greatest ≤ c.inner.config.serial → d ≡ c) → (d.held ≡ None → ⊥) → greatest ≤ d.inner.config.serial
ready_spent c d done full held = elim (cases_lt c.inner.config.serial greatest) [
  | inl low ↦ absurd (held (done low))
  | inr spent ↦ subst (λ (x : GroupCore). greatest ≤ x.inner.config.serial) (sym (full spent)) spent
]

-- ---- logs that are taken out of memory

-- the logs lie alike where no plex is held back
pub inner_places : (c d : GroupCore) (v : ℕ) → d.held ≡ None → Narrowed c d → (log : VolumeLog) → log_place d.inner.config v log ≡ log_place (wide c).config v log
inner_places c d v none narrow log = sym (ap (λ (i : Inner). log_place i.config v log) (wide_none d none)) ∙ narrow.shape.logs v log

pub drops_so : (c d : GroupCore) (v : ℕ) (l k : Logs) (m m' : Meaning) → LogsDrop (wide c).config v l k m m' → DropsBut c d v l k m m'
drops_so c d v l k m m' drops = record { so = inl drops; none = drops.none }

-- where no serial is left the maps are taken out of memory
pub no_map : (l : Logs) (log : VolumeLog) → has_log log (record { drl = l.drl; fmr = None }) ≡ true → has_log log l ≡ true
no_map l Drl has = has
no_map l Fmr has = absurd (let clash : false ≡ true = has in cc)

pub drops_spent : (c d : GroupCore) (v : ℕ) (l k : Logs) (m m' mid : Meaning) → greatest ≤ d.inner.config.serial + 9 → LogsDrop (wide c).config v l k m mid → DropsBut c d v l (record { drl = k.drl; fmr = None }) m m'
drops_spent c d v l k m m' mid spent drops = record { so = inr spent; none = λ log has. drops.none log (no_map k log has) }

-- notes behind a write that was refused, or none where logs are stopped
pub drops_refused : (c : Config) (v : ℕ) (l k : Logs) (m m' : Meaning) (stopped : Bool) → (stopped ≡ false → LogsDrop c v l k m m') → (stopped ≡ true → k ≡ l) → LogsDrop c v l k m m'
drops_refused c v l k m m' false drops stays = drops refl
drops_refused c v l k m m' true drops stays = subst (λ (j : Logs). LogsDrop c v l j m m') (sym (stays refl)) (drop_same c v l m m')
