-- A read, by what the site is.
use Rattle.vx_diskset.proofs.FoundedWork.{founded_none}
use Rattle.vx_diskset.proofs.OverCalled.{origin_called, receiver_called}
use Rattle.vx_diskset.proofs.OverCalls.{over_read, over_up}
use Rattle.vx_diskset.proofs.OverReceivers as receivers
use Rattle.vx_model.specs.Content.{blocks_in}
use Rattle.vx_blockwise.specs.Blocks.{alone_lawful}
use Rattle.vx_untold.specs.Shades.{shade_lawful, shade_meaning, shade_rack}
use Rattle.vx_group.specs.Holding.{wide}
use Rattle.vx_group.specs.Laws.{group_lawful}
use Rattle.vx_diskset.proofs.Receiving.{durable_of, receiver_volumes}
use Rattle.std.proofs.Common.{◌∙◌, ap, arith, subst, sym, refl}
use Rattle.vx_grouped.specs.GroupSites.{site_disks}
use Rattle.vx_diskset.specs.Aboves.{below_site}
use Rattle.vx_diskset.specs.Stands.{OverStands}
use Rattle.vx_ground.specs.Lifted.{laid_volumes}
use Rattle.vx_diskset.specs.LaidBlocks.{laid_blockwise}
use Rattle.vx_diskset.proofs.MakeGroup.{up_volumes}
use Rattle.vx_diskset.proofs.OverIdle.{rest_called, off_never}
use Rattle.vx_diskset.proofs.over_set.OverSet.was_read.Goals as goal

pub returns-then-volume-volumes-clause-read : goal.returns-then-volume-volumes-clause-read
returns-then-volume-volumes-clause-read g c = λ beside n stands can.
    over_read beside n c.args.self c.in-Origin.founded c.read-founded.result.0 c.args.self.cut c.in-Origin.is stands.0 c.args.volume c.args.start (blocks_in c.args.into.now) c.read-founded.new.into c.read-founded.result.1
    (c.read-founded.ensures.read beside n (over_up beside n c.args.self c.in-Origin.founded c.read-founded.result.0 c.args.self.cut c.in-Origin.is stands) can)

pub returns-then-volume-volumes-clause-called : goal.returns-then-volume-volumes-clause-called
returns-then-volume-volumes-clause-called g c =
    let is_rack = (g.met.R.Rack g.world.𝓛 g.world.𝓜 g.world.𝓡 ((λ s x. x), (λ x. x), (λ x. x), λ x. x)).rack in
    origin_called c.args.self c.in-Origin.founded c.read-founded.result.0 c.in-Origin.is (shade_rack g.R.Shelf.meaning is_rack) c.read-founded.ensures.works

pub returns-else-volume-volumes-clause-called : goal.returns-else-volume-volumes-clause-called
returns-else-volume-volumes-clause-called g c =
    let is_rack = (g.met.R.Rack g.world.𝓛 g.world.𝓜 g.world.𝓡 ((λ s x. x), (λ x. x), (λ x. x), λ x. x)).rack in
    origin_called c.args.self c.in-Origin.founded c.in-Origin.founded c.in-Origin.is (shade_rack g.R.Shelf.meaning is_rack) (founded_none c.in-Origin.founded.core c.in-Origin.founded.laid)

pub returns-then-volume-volumes-2-clause-read : goal.returns-then-volume-volumes-2-clause-read
returns-then-volume-volumes-2-clause-read g c = λ beside n stands can.
    let laws = shade_lawful g.R.Shelf.meaning (g.met.R.Shelf g.world.𝓛 g.world.𝓜 g.world.𝓡 ((λ s x. x), (λ x. x), (λ x. x), λ x. x)).lawful in
    let laid = c.in-Receiver.founded.laid in
    let lawful = group_lawful (wide laid.core) (shade_meaning g.R.Shelf.meaning laid.shelf) (laws laid.shelf) laid.stands.group.stands in
    receivers.over_read beside n c.args.self c.in-Receiver.founded c.read-founded-then-volume-volumes-2.result.0 c.args.self.cut c.in-Receiver.is c.read-founded-then-volume-volumes-2.ensures.waiting stands can.running c.args.volume c.args.start (blocks_in c.args.into.now) c.read-founded-then-volume-volumes-2.new.into c.read-founded-then-volume-volumes-2.result.1
    (c.read-founded-then-volume-volumes-2.ensures.read beside (durable_of n) (receivers.over_durable beside n c.args.self c.in-Receiver.founded c.read-founded-then-volume-volumes-2.result.0 c.args.self.cut c.in-Receiver.is c.read-founded-then-volume-volumes-2.ensures.waiting stands can.running (alone_lawful (laid_volumes laid) lawful))
    (record { up = can.up; running = can.running; volume_exists = can.volume_exists; within = can.within }))

pub returns-then-volume-volumes-2-clause-called : goal.returns-then-volume-volumes-2-clause-called
returns-then-volume-volumes-2-clause-called g c =
    let is_rack = (g.met.R.Rack g.world.𝓛 g.world.𝓜 g.world.𝓡 ((λ s x. x), (λ x. x), (λ x. x), λ x. x)).rack in
    receiver_called c.args.self c.in-Receiver.founded c.read-founded-then-volume-volumes-2.result.0 c.in-Receiver.is (shade_rack g.R.Shelf.meaning is_rack) c.read-founded-then-volume-volumes-2.ensures.works

pub returns-else-volume-volumes-2-clause-called : goal.returns-else-volume-volumes-2-clause-called
returns-else-volume-volumes-2-clause-called g c =
    let is_rack = (g.met.R.Rack g.world.𝓛 g.world.𝓜 g.world.𝓡 ((λ s x. x), (λ x. x), (λ x. x), λ x. x)).rack in
    receiver_called c.args.self c.in-Receiver.founded c.in-Receiver.founded c.in-Receiver.is (shade_rack g.R.Shelf.meaning is_rack) (founded_none c.in-Receiver.founded.core c.in-Receiver.founded.laid)

pub returns-then-volume-volumes-clause-down : goal.returns-then-volume-volumes-clause-down
returns-then-volume-volumes-clause-down g c = c.read-founded.ensures.down ∙ sym (ap (λ s. (site_disks (below_site s)).down) c.in-Origin.is)

pub returns-else-volume-volumes-clause-down : goal.returns-else-volume-volumes-clause-down
returns-else-volume-volumes-clause-down g c = sym (ap (λ s. (site_disks (below_site s)).down) c.in-Origin.is)

pub returns-then-volume-volumes-2-clause-down : goal.returns-then-volume-volumes-2-clause-down
returns-then-volume-volumes-2-clause-down g c = c.read-founded-then-volume-volumes-2.ensures.down ∙ sym (ap (λ s. (site_disks (below_site s)).down) c.in-Receiver.is)

pub returns-else-volume-volumes-2-clause-down : goal.returns-else-volume-volumes-2-clause-down
returns-else-volume-volumes-2-clause-down g c = sym (ap (λ s. (site_disks (below_site s)).down) c.in-Receiver.is)

pub returns-else-volume-volumes-clause-read : goal.returns-else-volume-volumes-clause-read
returns-else-volume-volumes-clause-read g c = λ beside n stands can.
    let count = up_volumes n c.in-Origin.founded.core (laid_blockwise c.in-Origin.founded.laid) (over_up beside n c.args.self c.in-Origin.founded c.in-Origin.founded c.args.self.cut c.in-Origin.is stands) in
    absurd (let there = can.volume_exists in let past = c.if-volume-volumes.false in let all = c.volumes.ensures in omega (arith, count, there, past, all))

pub returns-else-volume-volumes-2-clause-read : goal.returns-else-volume-volumes-2-clause-read
returns-else-volume-volumes-2-clause-read g c = λ beside n stands can.
    let count = receiver_volumes n c.in-Receiver.founded.core c.in-Receiver.founded.waiting (laid_blockwise c.in-Receiver.founded.laid) (subst (λ s. OverStands beside n s) c.in-Receiver.is stands.1) in
    absurd (let there = can.volume_exists in let past = c.if-volume-volumes-2.false in let all = c.volumes-in-Receiver.ensures in omega (arith, count, there, past, all))

pub returns-in_default-clause-read : goal.returns-in_default-clause-read
returns-in_default-clause-read g c = λ beside n stands can. absurd (off_never beside n c.args.self.site c.in_default.not-Origin c.in_default.not-Receiver stands.1 can.up)

pub returns-in_default-clause-called : goal.returns-in_default-clause-called
returns-in_default-clause-called g c =
    let is_rack = (g.met.R.Rack g.world.𝓛 g.world.𝓜 g.world.𝓡 ((λ s x. x), (λ x. x), (λ x. x), λ x. x)).rack in
    rest_called (shade_rack g.R.Shelf.meaning is_rack) c.args.self

pub returns-in_default-clause-down : goal.returns-in_default-clause-down
returns-in_default-clause-down g c = refl
