-- `open_link`: its result.
use Rattle.std.proofs.Common.{◌∙◌, Bool, ℕ, ap}
use Rattle.std.specs.Prelude.{not}
use Rattle.vx_model.specs.declared.no.No.TheVariants.{Role as WrongRole}
use Rattle.vx_history.specs.World.{Link, Node, World}
use Rattle.vx_history.specs.Refusals.{says, unless}
use Rattle.vx_history.specs.Sends.{with_link}
use Rattle.vx_history.specs.Events.{opened}
use Rattle.vx_history.specs.Step.{done}
use Rattle.vx_history.specs.declared.event.Said.TheVariants.{Done}
use Rattle.vx_sites.specs.Shapes.{with_map, world_of}
use Rattle.vx_world.proofs.settings.open_link.Goals as goal

pub returns : goal.returns
returns c = λ sync prot.
    let w : World = world_of c.args.world.now in
    let l : Link = w.links c.args.from c.args.to in
    let head : ℕ = c.node.result.now.safe in
    ap (λ (v : World). says v Done)
    (c.in_ok-set_link.ensures
    ∙ ap (λ (k : Link). with_link w c.args.from c.args.to (with_map l.map (opened k head))) c.link-link.ensures
    ∙ ap (λ (n : Node). with_link w c.args.from c.args.to (opened l n.safe)) c.node.ensures)
    ∙ ap (λ (b : Bool). unless (not b) WrongRole w (done (with_link w c.args.from c.args.to (opened l (w.nodes c.args.from).safe)))) c.if-not-may_open.ensures
