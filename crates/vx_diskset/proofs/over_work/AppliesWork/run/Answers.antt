-- An apply by parts, on a shelf around the one that is given.
use Rattle.std.proofs.Common.{◌∙◌, ap, subst, sym}
use Rattle.vx_blockwise.specs.Blocks.{blockwise_since}
use Rattle.vx_blockwise.specs.Pasts.{shelves_of}
use Rattle.vx_rvg.specs.Views.{IsSound}
use Rattle.vx_diskset.proofs.BlockWorks.{apply_inside, sound_before}
use Rattle.vx_diskset.proofs.OverWorks.{carried_core}
use Rattle.vx_diskset.specs.Works.{DoesApply}
use Rattle.vx_diskset.proofs.over_work.AppliesWork.run.Goals as goal

pub together-rvg-requires : goal.together-rvg-requires
together-rvg-requires g c =
    subst (λ s. IsSound c.args.self.core (blockwise_since g.S.Shelf.meaning (shelves_of c.over.result.past.value) (g.S.Shelf.meaning s))) (sym c.over.ensures)
    (sound_before g.S.Shelf.meaning (shelves_of c.over.result.past.value) (g.S.Shelf.meaning c.args.shelf) c.args.self.core c.requires)

pub returns : goal.returns
returns g c =
    carried_core (λ x s y t. DoesApply x c.args.self.to (g.S.Shelf.meaning s) y (g.S.Shelf.meaning t) c.apply_group-answer.result)
    c.args.self.core c.together-rvg.result.core c.apart-mixed.result.1 c.apply_group-answer.new.rvg.core c.args.shelf c.together-rvg.result.shelf.shelf c.into_shelf.result c.apply_group-answer.new.rvg.shelf.shelf
    c.together-rvg.ensures.core (ap (λ b. b.shelf) c.together-rvg.ensures.shelf ∙ c.over.ensures) c.apart-mixed.ensures.core (c.into_shelf.ensures ∙ ap (λ b. b.shelf) c.apart-mixed.ensures.shelf)
    (apply_inside g.S.Shelf.meaning (shelves_of c.together-rvg.result.shelf.past.value) (shelves_of c.apply_group-answer.new.rvg.shelf.past.value) (g.S.Shelf.meaning c.together-rvg.result.shelf.shelf) (g.S.Shelf.meaning c.apply_group-answer.new.rvg.shelf.shelf)
    c.together-rvg.result.core c.apply_group-answer.new.rvg.core c.apply_group-answer.new.rvg.sound c.together-rvg.result.sound c.apply_group-answer.ensures.units c.apply_group-answer.ensures.moves c.apply_group-answer.result
    c.args.self.to c.apply_group-answer.ensures.applied c.apply_group-answer.ensures.reached c.apply_group-answer.ensures.off)
