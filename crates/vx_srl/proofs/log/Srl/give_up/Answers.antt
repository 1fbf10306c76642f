-- `give_up`: its result; the invariant of what it hands on.
use Rattle.std.proofs.Common.{◌≡◌, ℕ, ◌≤◌, ◌∙◌, drop, ap, arith}
use Rattle.vx_srl.proofs.SaveKept.{is_saved, still_kept}
use Rattle.vx_srl.proofs.log.Srl.give_up.Goals as goal

all_gone : (k n : ℕ) → k ≤ n → n ≤ k → k ≡ n
all_gone k n a b = omega (arith, a, b)

pub invariant_of-self : goal.invariant_of-self
invariant_of-self c =
    let i = c.self.inside in
    let gone = ap (λ (k : ℕ). drop k i.records.items) (all_gone c.loop.counter c.args.gone c.loop.auto.counter-end c.loop-test.false) in
    still_kept i.unit i.ring i.header c.args.header i.records.items _ i.sealed i.end i.used c.args.gone c.args.self.now c.self.view_is c.requires.held c.requires.gone_is c.requires.header
    _ _ _ _ _ _ c.loop.invariant.ring c.loop.invariant.sealed c.loop.invariant.end (c.loop.invariant.items ∙ gone)
    c.self.invariant c.requires.spell c.requires.of_ring c.loop.invariant.used c.loop.invariant.capacity

pub returns : goal.returns
returns c =
    let i = c.self.inside in
    let gone = ap (λ (k : ℕ). drop k i.records.items) (all_gone c.loop.counter c.args.gone c.loop.auto.counter-end c.loop-test.false) in
    is_saved i.unit i.ring i.header c.args.header i.records.items 0 i.sealed i.end i.used c.args.gone c.args.self.now c.self.view_is c.requires.held c.requires.gone_is c.requires.header
    _ _ _ 0 0 _ c.loop.invariant.ring c.loop.invariant.sealed c.loop.invariant.end (c.loop.invariant.items ∙ gone) _ c.loop.invariant.unit
