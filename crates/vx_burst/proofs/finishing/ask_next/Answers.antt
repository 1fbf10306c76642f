-- `ask_next`: clauses stages, links, rest and placed.
use Rattle.std.proofs.Common.{rules, ◌≡◌, ◌∙◌, ◌+◌, refl, slice_get, Some, arith, slice_index_or}
use Rattle.std.proofs.lemmas.Option.{slice_get_read, slice_get-get_or}
use Rattle.vx_settle.proofs.ManyPeers.{set-long}
use Rattle.vx_burst.proofs.Stages.{stages-asked, asked-links, placed-set, unplaced-set}
use Rattle.vx_burst.proofs.finishing.ask_next.Goals as goal

pub returns-clause-stages : goal.returns-clause-stages
returns-clause-stages g c =
    let at : slice_get c.args.plan.now c.args.at ≡ Some c.in-Some.planned.now = slice_get_read c.args.plan.now _ c.args.at c.in-Some.planned.now refl (search rules) (search rules) in
    let old = slice_index_or c.args.answers.now c.args.at c.index-answers-at.result in
    let was : slice_get c.args.answers.now c.args.at ≡ Some old = slice_get-get_or c.args.answers.now c.args.at c.index-answers-at.result (let x = c.requires.inside.0 in let y = c.requires.inside.1 in omega (arith, x, y)) in
    let none : old.place ≡ 0 = search rules in
    stages-asked g.P.Peer.stand g.P.Peer.root c.args.plan.now (g.E.Engine.state c.args.engine.now) (g.E.Engine.state c.ask_one.new.engine) c.args.peers.now c.ask_one.new.peers c.args.answers.now c.args.taken c.args.at c.in-Some.planned.now old c.ask_one.result
    at was none c.requires.placed c.ask_one.ensures.asked

pub returns-clause-links : goal.returns-clause-links
returns-clause-links g c = asked-links g.P.Peer.stand g.P.Peer.root (g.E.Engine.state c.args.engine.now) (g.E.Engine.state c.ask_one.new.engine) c.args.peers.now c.ask_one.new.peers c.in-Some.planned.now (c.args.taken + 1) c.ask_one.result c.ask_one.ensures.asked c.requires.links

pub returns-clause-rest : goal.returns-clause-rest
returns-clause-rest g c =
    let old = slice_index_or c.args.answers.now c.args.at c.index-answers-at.result in
    let was : slice_get c.args.answers.now c.args.at ≡ Some old = slice_get-get_or c.args.answers.now c.args.at c.index-answers-at.result (let x = c.requires.inside.0 in let y = c.requires.inside.1 in omega (arith, x, y)) in
    let none : old.place ≡ 0 = search rules in
    let place : c.ask_one.result.place ≡ c.args.taken + 1 = c.ask_one.ensures.asked.3 in
    let u = unplaced-set c.args.answers.now c.args.at old c.ask_one.result was none (omega (arith, place)) in let r = c.requires.rest in
    (omega (arith, u, r), set-long c.args.answers.now c.args.at c.ask_one.result ∙ c.requires.inside.1)

pub returns-clause-placed : goal.returns-clause-placed
returns-clause-placed g c = let place : c.ask_one.result.place ≡ c.args.taken + 1 = c.ask_one.ensures.asked.3 in placed-set c.args.answers.now c.args.at c.ask_one.result c.requires.placed (omega (arith, place))
