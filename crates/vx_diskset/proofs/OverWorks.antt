-- Work on a replicated volume group by its parts: carried along equations between them.
use Rattle.std.proofs.Common.{◌≡◌, ℕ, sym, subst}
use Rattle.vx_model.specs.declared.units.Units.{Units}
use Rattle.vx_disk.specs.Moves.{Anything, Moves, Run, Says}
use Rattle.vx_disk.specs.Shelf.{Meaning}
use Rattle.vx_disk.proofs.Moving.{wider}
use Rattle.vx_rvg.specs.Views.{Core}
use Rattle.vx_diskset.specs.Works.{LogBlocks, OnlyLog}

pub carried_core : {S : Type 0} (P : Core → S → Core → S → Type 0) (c c0 d d0 : Core) (s s0 t t0 : S) → c0 ≡ c → s0 ≡ s → d ≡ d0 → t ≡ t0 → P c0 s0 d0 t0 → P c s d t
carried_core P c c0 d d0 s s0 t t0 first shelf last new it =
    subst (λ (x : Core). P x s d t) first (subst (λ y. P c0 y d t) shelf (subst (λ (x : Core). P c0 s0 x t) (sym last) (subst (λ y. P c0 s0 d0 y) (sym new) it)))

-- what is asked of a group by its parts
pub asked_core : {S : Type 0} (P : Core → S → Type 0) (c c0 : Core) (s s0 : S) → c0 ≡ c → s0 ≡ s → P c s → P c0 s0
asked_core P c c0 s s0 first shelf it = subst (λ (x : Core). P x s0) (sym first) (subst (λ y. P c y) (sym shelf) it)

-- a group that was taken apart
pub moved_core : {S : Type 0} (P : Core → S → Type 0) (d d0 : Core) (t t0 : S) → d ≡ d0 → t ≡ t0 → P d0 t0 → P d t
moved_core P d d0 t t0 last new it = subst (λ (x : Core). P x t) (sym last) (subst (λ y. P d0 y) (sym new) it)

-- a log that is made or started changes its own unit alone
pub only_log : (units : Units) (base count : ℕ) (P : Says) (old new : Meaning) → Moves (Run units.srl base count) P old new → OnlyLog units old new
only_log units base count P old new moves = wider (Run units.srl base count) (LogBlocks units) P Anything old new moves (λ u b run. run.there) (λ i beside is. tt)
