-- Logs of a volume that begin one behind the other.
use Rattle.std.proofs.Common.{◌≡◌, ◌∙◌, ℕ, ◌<◌, Option, None, ap, arith}
use Rattle.vx_config.specs.Checks.{blocks_of}
use Rattle.vx_disk.specs.Shelf.{Goes, Meaning, Nothing}
use Rattle.vx_drl.specs.Dirty.{Dirty}
use Rattle.vx_group.specs.Holding.{wide}
use Rattle.vx_group.specs.Stands.{inner_meaning}
use Rattle.vx_group.specs.declared.group_core.GroupCore.{GroupCore}
use Rattle.vx_group.specs.declared.inner.Inner.{Inner}
use Rattle.vx_group.proofs.HoldLemmas.{wide_none}
use Rattle.vx_grouplogs.specs.Marking.{NoMarks, dirty_or}
use Rattle.vx_logs.specs.declared.logs.Logs.{Logs}

-- a volume has as many blocks behind calls that change nothing
pub blocks_later : (c d : GroupCore) (v : ℕ) (m m' : Meaning) → c.held ≡ None → d.held ≡ None → Goes Nothing (inner_meaning (wide c) m) (inner_meaning (wide d) m') → 0 < blocks_of c.inner.config.volumes v → 0 < blocks_of d.inner.config.volumes v
blocks_later c d v m m' none gone goes some =
    let old : blocks_of (wide c).config.volumes v ≡ blocks_of c.inner.config.volumes v = ap (λ (i : Inner). blocks_of i.config.volumes v) (wide_none c none) in
    let new : blocks_of (wide d).config.volumes v ≡ blocks_of d.inner.config.volumes v = ap (λ (i : Inner). blocks_of i.config.volumes v) (wide_none d gone) in
    let same = goes.size v in
    omega (arith, old, new, same, some)

-- the same dirty region log has no mark
pub off_same : (n : ℕ) (l k : Logs) → k.drl ≡ l.drl → NoMarks n l → NoMarks n k
off_same n l k same off = record { each = λ r lt. ap (λ (o : Option Dirty). dirty_or o r) same ∙ off.each r lt }
