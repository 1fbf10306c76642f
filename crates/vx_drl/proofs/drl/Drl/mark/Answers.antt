-- The regions that a mark changed, as the log tells them.
use Rattle.std.proofs.Common.{true, subst}
use Rattle.std.specs.Prelude.{OnOk}
use Rattle.vx_bitmap.specs.Bits.{Changed, is_marked}
use Rattle.vx_bitmap.specs.Maps.{regions_mapped}
use Rattle.vx_drl.specs.Dirty.{Dirty, is_dirty}
use Rattle.vx_drl.proofs.drl.Drl.mark.Goals as goal

pub returns-clause-changed : goal.returns-clause-changed
returns-clause-changed g c =
    subst (λ (d : Dirty). OnOk c.set_run.result (Changed c.args.first c.args.last true (regions_mapped d.map) (is_dirty d) (is_marked c.set_run.new.self.bytes))) c.self.view_is c.set_run.ensures.changed
