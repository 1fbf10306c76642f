-- A pump of a site that is up on a rack.
use Rattle.std.proofs.Common.{subst, sym}
use Rattle.std.specs.Prelude.{IfErr}
use Rattle.vx_peers.specs.Senders.{pump_asks}
use Rattle.vx_diskset.specs.Asked.{IsRawSet}
use Rattle.vx_diskset.specs.Pumps.{PumpStop}
use Rattle.vx_diskset.specs.Stands.{faults_at}
use Rattle.vx_diskset.specs.declared.disk_set.DiskSet.TheVariants.{Up}
use Rattle.vx_diskset.proofs.Blamed.{disks_are}
use Rattle.vx_diskset.proofs.disk_set.DiskSet.pump.Goals as goal
use Rattle.vx_diskset.proofs.RawSets.{up_there}

pub returns-in-Up-clause-stops : goal.returns-in-Up-clause-stops
returns-in-Up-clause-stops g c = λ beside n stands raw origin state apart none.
    let is_rack = (g.met.R.Rack g.world.𝓛 g.world.𝓜 g.world.𝓡 ((λ s x. x), (λ x. x), (λ x. x), λ x. x)).rack in
    subst (λ e. IfErr c.pump_group.result (PumpStop n (pump_asks c.args.link.now n.safe) (faults_at e) (faults_at (Up c.pump_group.new.rvg)))) (sym c.in-Up.is)
    (c.pump_group.ensures.stops beside n (up_there beside n c.args.self.now c.in-Up.rvg c.in-Up.is stands).1 none (λ own. disks_are (g.R.Shelf.meaning c.in-Up.rvg.shelf) (is_rack c.in-Up.rvg.shelf)))

pub returns-in-Up-clause-more : goal.returns-in-Up-clause-more
returns-in-Up-clause-more g c = λ beside n stands. c.pump_group.ensures.more beside n (up_there beside n c.args.self.now c.in-Up.rvg c.in-Up.is stands).1

pub returns-in-Over-clause-pumped : goal.returns-in-Over-clause-pumped
returns-in-Over-clause-pumped g c = λ d k stands raw origin up apart none told there is flight. absurd (subst (λ e. IsRawSet e) c.in-Over.is raw)

pub returns-in-Over-clause-stops : goal.returns-in-Over-clause-stops
returns-in-Over-clause-stops g c = λ beside n stands raw origin up apart none. absurd (subst (λ e. IsRawSet e) c.in-Over.is raw)
