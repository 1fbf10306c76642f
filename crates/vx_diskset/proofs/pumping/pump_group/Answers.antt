-- A pump of a link, over the group of its site.
use Rattle.std.proofs.Common.{◌∙◌, arith, sym, subst, refl}
use Rattle.vx_rvg.specs.Views.{Core}
use Rattle.vx_diskset.specs.Stands.{IsUpAt}
use Rattle.vx_diskset.proofs.MakeGroup.{fuse_untouched}
use Rattle.vx_diskset.proofs.PumpGroup.{never_lacks, pump_sends, pump_stops, pumped_is}
use Rattle.vx_diskset.proofs.ReadGroup.{reads_up}
use Rattle.vx_diskset.proofs.pumping.pump_group.Goals as goal

pub returns-then-low-link-clause-pumped : goal.returns-then-low-link-clause-pumped
returns-then-low-link-clause-pumped g c = λ d k up none told there is flight.
    let low = never_lacks d c.args.site c.args.link.now.site k c.args.rvg.now.core (g.S.Shelf.meaning c.args.rvg.now.shelf) c.args.link.now up none told there is (sym c.goes_by_log.ensures ∙ c.if-goes_by_log.true) c.if-link.true in
    absurd (omega (arith, low, c.low-low.ensures, c.if-low-link.true))

pub returns-clause-pumped : goal.returns-clause-pumped
returns-clause-pumped g c = λ d k up none told there is flight.
    pumped_is d c.args.site c.args.rvg.now.core (g.S.Shelf.meaning c.args.rvg.now.shelf) (g.S.Shelf.meaning c.pump.new.rvg.shelf) c.args.link.now c.pump.new.link (g.N.Net.flying c.args.flight.now) (g.N.Net.flying c.pump.new.flight) c.pump.result
    up none told c.pump.ensures.down is flight c.pump.ensures.moved c.pump.ensures.cause

pub returns-clause-stops : goal.returns-clause-stops
returns-clause-stops g c = λ beside n up none rack.
    pump_stops n c.args.rvg.now.core (g.S.Shelf.meaning c.args.rvg.now.shelf) (g.S.Shelf.meaning c.pump.new.rvg.shelf) c.args.link.now c.pump.result up c.args.rvg.now.sound.log_unit
    rack c.pump.ensures.down c.pump.ensures.cause c.pump.ensures.asks c.pump.ensures.blames

pub returns-clause-more : goal.returns-clause-more
returns-clause-more g c = λ beside n up.
    pump_sends n c.args.rvg.now.core (g.S.Shelf.meaning c.args.rvg.now.shelf) c.args.site c.args.link.now (g.N.Net.flying c.args.flight.now) (g.N.Net.flying c.pump.new.flight) c.pump.result up c.pump.ensures.more

pub returns-clause-stands : goal.returns-clause-stands
returns-clause-stands g c = λ beside n up.
    let lawful = g.met.S.Shelf.lawful in
    let old = g.S.Shelf.meaning c.args.rvg.now.shelf in
    let new = g.S.Shelf.meaning c.pump.new.rvg.shelf in
    subst (λ (k : Core). IsUpAt beside n k new) (sym c.pump.ensures.core)
    (reads_up n c.args.rvg.now.core old new (sym up.halted ∙ sym c.in_default.ensures) up (lawful c.args.rvg.now.shelf) (lawful c.pump.new.rvg.shelf) c.args.rvg.now.sound.log_unit c.pump.ensures.goes c.pump.ensures.down
    (fuse_untouched n.fuse old new c.pump.ensures.disks c.pump.ensures.goes.unarmed up.fuse))

pub returns-in-Some-clause-link : goal.returns-in-Some-clause-link
returns-in-Some-clause-link g c = refl

pub returns-in-Some-clause-unsent : goal.returns-in-Some-clause-unsent
returns-in-Some-clause-unsent g c = refl

pub returns-in-Some-clause-rule : goal.returns-in-Some-clause-rule
returns-in-Some-clause-rule g c = tt

pub returns-then-low-link-clause-link : goal.returns-then-low-link-clause-link
returns-then-low-link-clause-link g c = refl

pub returns-then-low-link-clause-unsent : goal.returns-then-low-link-clause-unsent
returns-then-low-link-clause-unsent g c = refl

pub returns-then-low-link-clause-rule : goal.returns-then-low-link-clause-rule
returns-then-low-link-clause-rule g c = tt
