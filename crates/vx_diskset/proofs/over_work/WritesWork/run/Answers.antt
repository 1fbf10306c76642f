-- A write by parts, on a shelf around the one that is given.
use Rattle.std.proofs.Common.{◌<◌, ◌∙◌, length, ap, subst, sym}
use Rattle.vx_blockwise.specs.Blocks.{blockwise_since}
use Rattle.vx_blockwise.specs.Pasts.{shelves_of}
use Rattle.vx_rvg.specs.Views.{Core, IsSound}
use Rattle.vx_diskset.proofs.BlockWorks.{sound_before, write_inside}
use Rattle.vx_diskset.proofs.OverWorks.{carried_core}
use Rattle.vx_diskset.specs.Works.{DoesWrite}
use Rattle.vx_diskset.proofs.over_work.WritesWork.run.Goals as goal

pub together-rvg-requires : goal.together-rvg-requires
together-rvg-requires g c =
    subst (λ s. IsSound c.args.self.core (blockwise_since g.S.Shelf.meaning (shelves_of c.over.result.past.value) (g.S.Shelf.meaning s))) (sym c.over.ensures)
    (sound_before g.S.Shelf.meaning (shelves_of c.over.result.past.value) (g.S.Shelf.meaning c.args.shelf) c.args.self.core c.requires.sound)

pub write_group-answer-requires : goal.write_group-answer-requires
write_group-answer-requires g c = record {
  volume = subst (λ (x : Core). c.args.self.volume < length x.units.vols) (sym c.together-rvg.ensures.core) c.requires.there;
  some = c.requires.some;
  few = c.requires.few;
  whole = c.requires.whole;
}

pub returns : goal.returns
returns g c =
    carried_core (λ x s y t. DoesWrite x c.args.self.volume c.args.self.start c.args.self.bytes.now c.args.self.hold (g.S.Shelf.meaning s) y (g.S.Shelf.meaning t) c.write_group-answer.result)
    c.args.self.core c.together-rvg.result.core c.apart-mixed.result.1 c.write_group-answer.new.rvg.core c.args.shelf c.together-rvg.result.shelf.shelf c.into_shelf.result c.write_group-answer.new.rvg.shelf.shelf
    c.together-rvg.ensures.core (ap (λ b. b.shelf) c.together-rvg.ensures.shelf ∙ c.over.ensures) c.apart-mixed.ensures.core (c.into_shelf.ensures ∙ ap (λ b. b.shelf) c.apart-mixed.ensures.shelf)
    (write_inside g.S.Shelf.meaning (shelves_of c.together-rvg.result.shelf.past.value) (shelves_of c.write_group-answer.new.rvg.shelf.past.value) (g.S.Shelf.meaning c.together-rvg.result.shelf.shelf) (g.S.Shelf.meaning c.write_group-answer.new.rvg.shelf.shelf)
    c.together-rvg.result.core c.write_group-answer.new.rvg.core c.write_group-answer.new.rvg.sound c.together-rvg.result.sound c.write_group-answer.ensures.group.units c.write_group-answer.ensures.moves c.write_group-answer.result
    c.args.self.volume c.args.self.start c.args.self.bytes.now c.args.self.hold c.write_group-answer.ensures.wrote c.write_group-answer.ensures.takes c.write_group-answer.ensures.group c.write_group-answer.ensures.off)
