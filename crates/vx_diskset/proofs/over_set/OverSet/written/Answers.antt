-- A write, by what the site is.
use Rattle.vx_diskset.proofs.OverCalls.{over_logged, over_up}
use Rattle.vx_untold.specs.Shades.{shade_rack}
use Rattle.vx_diskset.proofs.OverCalled.{origin_called}
use Rattle.vx_diskset.proofs.FoundedWork.{founded_none}
use Rattle.std.proofs.Common.{subst, arith}
use Rattle.std.specs.Prelude.{IsFalse}
use Rattle.vx_grouped.specs.GroupSites.{site_disks}
use Rattle.vx_diskset.specs.Aboves.{below_site}
use Rattle.vx_diskset.specs.LaidBlocks.{laid_blockwise}
use Rattle.vx_diskset.proofs.MakeGroup.{up_volumes}
use Rattle.vx_diskset.proofs.OverIdle.{rest_called, logs_never}
use Rattle.vx_diskset.proofs.over_set.OverSet.written.Goals as goal

pub returns-then-volume-volumes-clause-wrote : goal.returns-then-volume-volumes-clause-wrote
returns-then-volume-volumes-clause-wrote g c = λ beside n stands origin can has.
    over_logged beside n c.args.self c.in-Origin.founded c.write-founded.result.0 c.args.self.cut c.in-Origin.is stands.0 _ c.write-founded.result.1
    (c.write-founded.ensures.wrote beside n (over_up beside n c.args.self c.in-Origin.founded c.write-founded.result.0 c.args.self.cut c.in-Origin.is stands) can has)

pub returns-then-volume-volumes-clause-called : goal.returns-then-volume-volumes-clause-called
returns-then-volume-volumes-clause-called g c =
    let is_rack = (g.met.R.Rack g.world.𝓛 g.world.𝓜 g.world.𝓡 ((λ s x. x), (λ x. x), (λ x. x), λ x. x)).rack in
    origin_called c.args.self c.in-Origin.founded c.write-founded.result.0 c.in-Origin.is (shade_rack g.R.Shelf.meaning is_rack) c.write-founded.ensures.works

pub returns-else-volume-volumes-clause-called : goal.returns-else-volume-volumes-clause-called
returns-else-volume-volumes-clause-called g c =
    let is_rack = (g.met.R.Rack g.world.𝓛 g.world.𝓜 g.world.𝓡 ((λ s x. x), (λ x. x), (λ x. x), λ x. x)).rack in
    origin_called c.args.self c.in-Origin.founded c.in-Origin.founded c.in-Origin.is (shade_rack g.R.Shelf.meaning is_rack) (founded_none c.in-Origin.founded.core c.in-Origin.founded.laid)

pub returns-then-volume-volumes-clause-off : goal.returns-then-volume-volumes-clause-off
returns-then-volume-volumes-clause-off g c = λ up. c.write-founded.ensures.off (subst (λ s. IsFalse (site_disks (below_site s)).down) c.in-Origin.is up)

pub returns-else-volume-volumes-clause-off : goal.returns-else-volume-volumes-clause-off
returns-else-volume-volumes-clause-off g c = λ up. subst (λ s. IsFalse (site_disks (below_site s)).down) c.in-Origin.is up

pub returns-else-volume-volumes-clause-wrote : goal.returns-else-volume-volumes-clause-wrote
returns-else-volume-volumes-clause-wrote g c = λ beside n stands origin can has.
    let count = up_volumes n c.in-Origin.founded.core (laid_blockwise c.in-Origin.founded.laid) (over_up beside n c.args.self c.in-Origin.founded c.in-Origin.founded c.args.self.cut c.in-Origin.is stands) in
    absurd (let there = can.volume_exists in let past = c.if-volume-volumes.false in let all = c.volumes.ensures in omega (arith, count, there, past, all))

pub returns-in_default-clause-wrote : goal.returns-in_default-clause-wrote
returns-in_default-clause-wrote g c = λ beside n stands origin can has. absurd (logs_never beside n c.args.self.site c.in_default.not-Origin stands.1 can.up origin)

pub returns-in_default-clause-called : goal.returns-in_default-clause-called
returns-in_default-clause-called g c =
    let is_rack = (g.met.R.Rack g.world.𝓛 g.world.𝓜 g.world.𝓡 ((λ s x. x), (λ x. x), (λ x. x), λ x. x)).rack in
    rest_called (shade_rack g.R.Shelf.meaning is_rack) c.args.self

pub returns-in_default-clause-off : goal.returns-in_default-clause-off
returns-in_default-clause-off g c = λ up. up
