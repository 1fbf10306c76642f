-- `crash`: clauses crashed, durable, cut, asked and stopped.
use Rattle.std.proofs.Common.{◌∙◌, IsTrue, ap, subst, sym}
use Rattle.vx_diskset.specs.Stands.{CutAt, IsToldAt, SiteStands}
use Rattle.vx_diskset.proofs.OverFalls.{fell_asked, fell_later, fell_role, fell_seen, fell_stopped, fell_notes}
use Rattle.vx_diskset.proofs.RawSets.{cut_received, receiver_there, up_there}
use Rattle.vx_diskset.proofs.CrashGroup.{crashed_at, cut_crashed, held_crashed}
use Rattle.vx_group.specs.Holding.{wide}
use Rattle.vx_group.specs.Laws.{group_lawful}
use Rattle.vx_untold.specs.Shades.{shade_lawful, shade_meaning}
use Rattle.vx_diskset.proofs.Fallen.{group_fell, over_fell, received_fell, up_fell}
use Rattle.vx_diskset.specs.DiskSets.{with_first}
use Rattle.vx_diskset.specs.declared.disk_set.DiskSet.TheVariants.{Down, OfGroup, Over}
use Rattle.vx_diskset.proofs.Asking.{crash_did}
use Rattle.vx_diskset.proofs.KeepsFailing.{stopped_up}
use Rattle.vx_diskset.proofs.Receiving.{receiver_held}
use Rattle.vx_diskset.proofs.OverGroups.{set_crashed, set_fell, set_stopped, set_told}
use Rattle.vx_diskset.specs.Asked.{IsRawSet}
use Rattle.vx_diskset.proofs.OverNoted.{falls_as, falls_rest}
use Rattle.vx_diskset.proofs.disk_set.DiskSet.crash.Goals as goal

pub returns-in-Up-clause-crashed : goal.returns-in-Up-clause-crashed
returns-in-Up-clause-crashed g c = λ beside n stands state.
    let lawful = (g.met.R.Shelf g.world.𝓛 g.world.𝓜 g.world.𝓡 ((λ s x. x), (λ x. x), (λ x. x), λ x. x)).lawful in
    let is_rack = (g.met.R.Rack g.world.𝓛 g.world.𝓜 g.world.𝓡 ((λ s x. x), (λ x. x), (λ x. x), λ x. x)).rack in
    let at = up_there beside n c.args.self c.in-Up.rvg c.in-Up.is stands in
    crashed_at n c.in-Up.rvg.core c.in-Up.rvg.shelf c.into_shelf-rack.result c.crash.new.self c.into_shelf-rack.ensures at.0 at.1
    (lawful c.crash.new.self) (is_rack c.crash.new.self) c.crash.ensures.stopped

pub returns-in-Up-clause-durable : goal.returns-in-Up-clause-durable
returns-in-Up-clause-durable g c = λ beside n stands state running.
    let lawful = (g.met.R.Shelf g.world.𝓛 g.world.𝓜 g.world.𝓡 ((λ s x. x), (λ x. x), (λ x. x), λ x. x)).lawful in
    let is_rack = (g.met.R.Rack g.world.𝓛 g.world.𝓜 g.world.𝓡 ((λ s x. x), (λ x. x), (λ x. x), λ x. x)).rack in
    let at = up_there beside n c.args.self c.in-Up.rvg c.in-Up.is stands in
    up_fell beside n c.args.self (Down c.crash.new.self) c.in-Up.rvg c.in-Up.is stands running
    (crashed_at n c.in-Up.rvg.core c.in-Up.rvg.shelf c.into_shelf-rack.result c.crash.new.self c.into_shelf-rack.ensures at.0 at.1
    (lawful c.crash.new.self) (is_rack c.crash.new.self) c.crash.ensures.stopped)

pub returns-in-Up-clause-cut : goal.returns-in-Up-clause-cut
returns-in-Up-clause-cut g c = λ beside n cut.
    let lawful = (g.met.R.Shelf g.world.𝓛 g.world.𝓜 g.world.𝓡 ((λ s x. x), (λ x. x), (λ x. x), λ x. x)).lawful in
    let is_rack = (g.met.R.Rack g.world.𝓛 g.world.𝓜 g.world.𝓡 ((λ s x. x), (λ x. x), (λ x. x), λ x. x)).rack in
    cut_crashed n _ c.in-Up.rvg c.into_shelf-rack.result c.crash.new.self c.in-Up.is c.into_shelf-rack.ensures cut (lawful c.crash.new.self) (is_rack c.crash.new.self) c.crash.ensures.stopped

pub returns-in-Up-clause-asked : goal.returns-in-Up-clause-asked
returns-in-Up-clause-asked g c = λ beside n stands state. crash_did c.args.self c.in-Up.rvg c.into_shelf-rack.result c.crash.new.self c.args.pick c.in-Up.is c.into_shelf-rack.ensures c.crash.ensures.disks

pub returns-in-Up-clause-stopped : goal.returns-in-Up-clause-stopped
returns-in-Up-clause-stopped g c = stopped_up c.args.self c.in-Up.rvg c.into_shelf-rack.result c.crash.new.self c.args.pick c.in-Up.is c.into_shelf-rack.ensures c.crash.ensures.disks c.crash.ensures.stopped.size

pub returns-in-Receives-clause-crashed : goal.returns-in-Receives-clause-crashed
returns-in-Receives-clause-crashed g c = λ beside n stands state.
    let lawful = (g.met.R.Shelf g.world.𝓛 g.world.𝓜 g.world.𝓡 ((λ s x. x), (λ x. x), (λ x. x), λ x. x)).lawful in
    let is_rack = (g.met.R.Rack g.world.𝓛 g.world.𝓜 g.world.𝓡 ((λ s x. x), (λ x. x), (λ x. x), λ x. x)).rack in
    let at = receiver_there beside n c.args.self c.in-Receives.site c.in-Receives.is stands in
    held_crashed n c.in-Receives.site.rvg.shelf c.into_shelf-rack-in-Receives.result c.crash-in-Receives.new.self (c.into_shelf-rack-in-Receives.ensures ∙ ap (λ r. r.shelf) c.into_rvg.ensures)
    at.0 (receiver_held n c.in-Receives.site.rvg.core c.in-Receives.site.waiting (g.R.Shelf.meaning c.in-Receives.site.rvg.shelf) at.1)
    (lawful c.crash-in-Receives.new.self) (is_rack c.crash-in-Receives.new.self) c.crash-in-Receives.ensures.stopped

pub returns-in-Receives-clause-durable : goal.returns-in-Receives-clause-durable
returns-in-Receives-clause-durable g c = λ beside n stands state running.
    let lawful = (g.met.R.Shelf g.world.𝓛 g.world.𝓜 g.world.𝓡 ((λ s x. x), (λ x. x), (λ x. x), λ x. x)).lawful in
    let is_rack = (g.met.R.Rack g.world.𝓛 g.world.𝓜 g.world.𝓡 ((λ s x. x), (λ x. x), (λ x. x), λ x. x)).rack in
    received_fell beside n c.args.self c.in-Receives.site c.into_shelf-rack-in-Receives.result c.crash-in-Receives.new.self c.in-Receives.is (c.into_shelf-rack-in-Receives.ensures ∙ ap (λ r. r.shelf) c.into_rvg.ensures) stands running
    (lawful c.in-Receives.site.rvg.shelf) (lawful c.crash-in-Receives.new.self) (is_rack c.crash-in-Receives.new.self) c.crash-in-Receives.ensures.stopped

pub returns-in-Receives-clause-cut : goal.returns-in-Receives-clause-cut
returns-in-Receives-clause-cut g c = λ beside n cut.
    let lawful = (g.met.R.Shelf g.world.𝓛 g.world.𝓜 g.world.𝓡 ((λ s x. x), (λ x. x), (λ x. x), λ x. x)).lawful in
    let is_rack = (g.met.R.Rack g.world.𝓛 g.world.𝓜 g.world.𝓡 ((λ s x. x), (λ x. x), (λ x. x), λ x. x)).rack in
    let at = cut_received beside n c.args.self c.in-Receives.site c.in-Receives.is cut in
    held_crashed n c.in-Receives.site.rvg.shelf c.into_shelf-rack-in-Receives.result c.crash-in-Receives.new.self (c.into_shelf-rack-in-Receives.ensures ∙ ap (λ r. r.shelf) c.into_rvg.ensures)
    at.0 at.1 (lawful c.crash-in-Receives.new.self) (is_rack c.crash-in-Receives.new.self) c.crash-in-Receives.ensures.stopped

pub returns-in-OfGroup-clause-crashed : goal.returns-in-OfGroup-clause-crashed
returns-in-OfGroup-clause-crashed g c = λ beside n stands state.
    set_crashed beside n c.args.self c.in-OfGroup.group c.crash-in-OfGroup.result c.in-OfGroup.is (λ note. c.crash-in-OfGroup.ensures.crashed n note) c.crash-in-OfGroup.ensures.maps stands state

pub returns-in-OfGroup-clause-durable : goal.returns-in-OfGroup-clause-durable
returns-in-OfGroup-clause-durable g c = λ beside n stands state running.
    group_fell beside n c.args.self (OfGroup (record c.in-OfGroup.group { site = c.crash-in-OfGroup.result })) c.in-OfGroup.group c.in-OfGroup.is stands state
    (set_crashed beside n c.args.self c.in-OfGroup.group c.crash-in-OfGroup.result c.in-OfGroup.is (λ note. c.crash-in-OfGroup.ensures.crashed n note) c.crash-in-OfGroup.ensures.maps stands state)

pub returns-in-OfGroup-clause-asked : goal.returns-in-OfGroup-clause-asked
returns-in-OfGroup-clause-asked g c = λ beside n stands state.
    set_told beside n c.args.pick c.args.self c.in-OfGroup.group c.crash-in-OfGroup.result c.in-OfGroup.is (λ note. c.crash-in-OfGroup.ensures.asked n note) stands state

pub returns-in-OfGroup-clause-stopped : goal.returns-in-OfGroup-clause-stopped
returns-in-OfGroup-clause-stopped g c = set_stopped c.args.pick c.args.self c.in-OfGroup.group c.crash-in-OfGroup.result c.in-OfGroup.is c.crash-in-OfGroup.ensures.stopped

pub returns-in-OfGroup-clause-later : goal.returns-in-OfGroup-clause-later
returns-in-OfGroup-clause-later g c = set_fell c.args.pick c.args.self c.in-OfGroup.group c.crash-in-OfGroup.result c.in-OfGroup.is c.crash-in-OfGroup.ensures.stopped c.crash-in-OfGroup.ensures.told

pub returns-in-Over-clause-crashed : goal.returns-in-Over-clause-crashed
returns-in-Over-clause-crashed g c = λ beside n stands state. c.crash-in-Over.ensures.crashed beside n (subst (λ e. SiteStands beside n e) c.in-Over.is stands) state

pub returns-in-Over-clause-durable : goal.returns-in-Over-clause-durable
returns-in-Over-clause-durable g c = λ beside n stands state running.
    let laws = shade_lawful g.R.Shelf.meaning (g.met.R.Shelf g.world.𝓛 g.world.𝓜 g.world.𝓡 ((λ s x. x), (λ x. x), (λ x. x), λ x. x)).lawful in
    over_fell (λ f. group_lawful (wide f.laid.core) (shade_meaning g.R.Shelf.meaning f.laid.shelf) (laws f.laid.shelf) f.laid.stands.group.stands) beside n state running c.args.self (Over c.crash-in-Over.result) c.in-Over.over c.in-Over.is stands
    (λ cut. c.crash-in-Over.ensures.held beside (with_first n n.safe) cut)

pub returns-in-Over-clause-cut : goal.returns-in-Over-clause-cut
returns-in-Over-clause-cut g c = λ beside n cut. c.crash-in-Over.ensures.held beside n (subst (λ e. CutAt beside n e) c.in-Over.is cut)

pub returns-in-Over-clause-asked : goal.returns-in-Over-clause-asked
returns-in-Over-clause-asked g c = λ beside n stands state.
    fell_asked c.args.pick c.args.self c.in-Over.over c.crash-in-Over.result c.in-Over.is c.crash-in-Over.ensures.stopped (c.crash-in-Over.ensures.asked beside n (subst (λ e. SiteStands beside n e) c.in-Over.is stands) state)

pub returns-in-Over-clause-stopped : goal.returns-in-Over-clause-stopped
returns-in-Over-clause-stopped g c = fell_stopped c.args.pick c.args.self c.in-Over.over c.crash-in-Over.result c.in-Over.is c.crash-in-Over.ensures.stopped

pub returns-in-Over-clause-role : goal.returns-in-Over-clause-role
returns-in-Over-clause-role g c = fell_role c.args.pick c.args.self c.in-Over.over c.crash-in-Over.result c.in-Over.is c.crash-in-Over.ensures.stopped c.crash-in-Over.ensures.above

pub returns-in-Over-clause-later : goal.returns-in-Over-clause-later
returns-in-Over-clause-later g c = fell_later c.args.pick c.args.self c.in-Over.over c.crash-in-Over.result c.in-Over.is c.crash-in-Over.ensures.stopped c.crash-in-Over.ensures.told

pub returns-in-Over-clause-seen : goal.returns-in-Over-clause-seen
returns-in-Over-clause-seen g c = fell_seen c.args.pick c.args.self c.in-Over.over c.crash-in-Over.result c.in-Over.is c.crash-in-Over.ensures.stopped

pub returns-in-OfGroup-clause-seen : goal.returns-in-OfGroup-clause-seen
returns-in-OfGroup-clause-seen g c = λ told. subst (λ e. IsToldAt e) (sym c.in-OfGroup.is) (c.crash-in-OfGroup.ensures.told told)

pub returns-in-Up-clause-seen : goal.returns-in-Up-clause-seen
returns-in-Up-clause-seen g c = λ told.
    subst (λ e. IsToldAt e) (sym c.in-Up.is) (subst (λ r. IsTrue (g.R.Shelf.meaning r).tells) c.into_shelf-rack.ensures (sym c.crash.ensures.stopped.tells ∙ told))

pub returns-in-Receives-clause-seen : goal.returns-in-Receives-clause-seen
returns-in-Receives-clause-seen g c = λ told.
    subst (λ e. IsToldAt e) (sym c.in-Receives.is) (subst (λ r. IsTrue (g.R.Shelf.meaning r).tells) (c.into_shelf-rack-in-Receives.ensures ∙ ap (λ r. r.shelf) c.into_rvg.ensures) (sym c.crash-in-Receives.ensures.stopped.tells ∙ told))

pub returns-in-Up-clause-fallen : goal.returns-in-Up-clause-fallen
returns-in-Up-clause-fallen g c = falls_as c.args.self _ (subst (λ e. IsRawSet e) (sym c.in-Up.is) tt) tt

pub returns-in-Receives-clause-fallen : goal.returns-in-Receives-clause-fallen
returns-in-Receives-clause-fallen g c = falls_as c.args.self _ (subst (λ e. IsRawSet e) (sym c.in-Receives.is) tt) tt

pub returns-in-OfGroup-clause-fallen : goal.returns-in-OfGroup-clause-fallen
returns-in-OfGroup-clause-fallen g c = falls_as c.args.self _ (subst (λ e. IsRawSet e) (sym c.in-OfGroup.is) tt) tt

pub returns-in-Over-clause-fallen : goal.returns-in-Over-clause-fallen
returns-in-Over-clause-fallen g c = fell_notes c.args.pick c.args.self c.in-Over.over c.crash-in-Over.result c.in-Over.is c.crash-in-Over.ensures.stopped c.crash-in-Over.ensures.fallen c.crash-in-Over.ensures.noted c.crash-in-Over.ensures.named c.crash-in-Over.ensures.cut

pub returns-in_default-clause-fallen : goal.returns-in_default-clause-fallen
returns-in_default-clause-fallen g c = falls_rest c.args.self c.in_default.not-Over
