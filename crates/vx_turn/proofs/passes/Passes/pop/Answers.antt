-- `pop`: its result.
use Rattle.std.proofs.Common.{rules, refl, ◌≡◌, ◌+◌, [], length}
use Rattle.std.specs.Prelude.{MatchOption}
use Rattle.vx_turn.proofs.Dealing.{pops}
use Rattle.vx_turn.proofs.passes.Passes.pop.Goals as goal

pub returns : goal.returns
returns c =
    let cases : MatchOption c.pop.result ((c.args.self.now.left.items ≡ []) × (c.pop.new.self.items ≡ [])) (λ _. length c.args.self.now.left.items ≡ length c.pop.new.self.items + 1) = search rules in
    pops c.args.self.now c.pop.new.self.items c.pop.result cases c.pop.ensures.items (record { left = c.pop.new.self }) refl
