-- `read`: its result.
use Rattle.std.proofs.Common.{rules, ◌≡◌, ◌<◌, ◌≤◌, ◌+◌, refl, inl, inr, arith}
use Rattle.vx_plain.specs.declared.small.TheConstants.{VOLUME_BLOCKS}
use Rattle.vx_plain.proofs.Logged.{read-range, read-fault}
use Rattle.vx_plain.proofs.small.Core.read.Goals as goal
use Rattle.vx_plain.proofs.small.Core.read.Goals.{then-vol-ne0-via-then-vol-ne0, then-vol-ne0-via-else-vol-ne0+then-start-count}

pub returns-then-vol-ne0 : goal.returns-then-vol-ne0
returns-then-vol-ne0 c = let some : 0 < c.args.count = search rules in let few : c.args.count ≤ 16 = search rules in
    elim c.then-vol-ne0.branch [
      | then-vol-ne0-via-then-vol-ne0 w ↦ (let far : 0 < c.args.vol = search rules in read-range c.args.self.now c.args.vol c.args.start c.args.count (inl far) some few)
      | then-vol-ne0-via-else-vol-ne0+then-start-count w ↦ (let t = w.if-start-count in let over : VOLUME_BLOCKS < c.args.start + c.args.count = omega (arith, t) in read-range c.args.self.now c.args.vol c.args.start c.args.count (inr over) some few)
    ]

pub returns : goal.returns
returns c = let some : 0 < c.args.count = search rules in let few : c.args.count ≤ 16 = search rules in let is : c.args.vol ≡ 0 = search rules in
    let t = c.if-start-count.false in let within : c.args.start + c.args.count ≤ VOLUME_BLOCKS = omega (arith, t, few) in
    read-fault c.args.self.now (record c.args.self.now { faults = c.raised-self.result }) c.args.vol c.args.start c.args.count 0 is within some few refl refl c.raised-self.ensures refl
