-- `link_by_part`: its result.
use Rattle.std.proofs.Common.{◌∙◌, sym, ap}
use Rattle.vx_history.specs.Step.{link_part}
use Rattle.vx_history.specs.declared.event.LinkPart.{LinkPart}
use Rattle.vx_sites.specs.Shapes.{world_of}
use Rattle.vx_world.proofs.Passing.{passed}
use Rattle.vx_world.proofs.settings.link_by_part.Goals as goal

pub returns-in-Joins : goal.returns-in-Joins
returns-in-Joins c =
    passed c.join.result (world_of c.join.new.world) _ _
    (ap (λ (part : LinkPart). link_part part (world_of c.args.world.now) c.args.from c.args.to c.args.sync c.args.prot) (sym c.in-Joins.is)) (c.join.ensures c.args.sync c.args.prot)

pub returns-in-Marked : goal.returns-in-Marked
returns-in-Marked c =
    c.mark.ensures c.args.sync c.args.prot ∙ ap (λ (part : LinkPart). link_part part (world_of c.args.world.now) c.args.from c.args.to c.args.sync c.args.prot) (sym c.in-Marked.is)

pub returns-in-Opened : goal.returns-in-Opened
returns-in-Opened c =
    passed c.open_link.result (world_of c.open_link.new.world) _ _
    (ap (λ (part : LinkPart). link_part part (world_of c.args.world.now) c.args.from c.args.to c.args.sync c.args.prot) (sym c.in-Opened.is))
    (c.open_link.ensures c.args.sync c.args.prot)
