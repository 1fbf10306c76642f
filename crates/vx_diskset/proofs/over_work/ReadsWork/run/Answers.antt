-- A read by parts.
use Rattle.std.proofs.Common.{◌≡◌, ◌≤◌, ◌∙◌, ◌++◌, ℕ, List, length, take, drop, replicate, length-take-le, arith, refl, sym}
use Rattle.std.proofs.lemmas.List.{take_at}
use Rattle.vx_diskset.proofs.OverReads.{front_blocks, front_room, reads_room}
use Rattle.vx_diskset.proofs.OverWorks.{asked_core, carried_core}
use Rattle.vx_diskset.specs.Works.{AsksRead, DoesRead}
use Rattle.vx_diskset.proofs.over_work.ReadsWork.run.Goals as goal

pub together-rvg-requires : goal.together-rvg-requires
together-rvg-requires g c = c.requires.sound

pub read-answer-requires-clause-volume : goal.read-answer-requires-clause-volume
read-answer-requires-clause-volume g c =
    (asked_core (λ x s. AsksRead x c.args.self.volume c.args.self.count (g.S.Shelf.meaning s)) c.args.self.core c.together-rvg.result.core c.args.shelf c.together-rvg.result.shelf c.together-rvg.ensures.core c.together-rvg.ensures.shelf c.requires).there

pub read-answer-requires-clause-blocks : goal.read-answer-requires-clause-blocks
read-answer-requires-clause-blocks g c = front_blocks c.args.self.count (replicate 8192 0) refl c.requires.some c.requires.few c.requires.whole

pub returns : goal.returns
returns g c =
    let none : List ℕ = replicate 8192 0 in
    let auto : length c.read-answer.new.into ≡ length (take c.args.self.count none) = c.read-answer.auto.into in
    let zeros : length none ≡ 8192 = refl in
    let few : c.args.self.count ≤ 8192 = c.requires.few in
    let long : length c.read-answer.new.into ≡ c.args.self.count = auto ∙ length-take-le c.args.self.count none (omega (arith, few, zeros)) in
    let room : List ℕ = c.read-answer.new.into ++ drop c.args.self.count none in
    carried_core (λ x s y t. DoesRead x c.args.self.volume c.args.self.start c.args.self.count (g.S.Shelf.meaning s) y room (g.S.Shelf.meaning t) c.read-answer.result)
    c.args.self.core c.together-rvg.result.core c.apart-shelf.result.1 c.read-answer.new.self.core c.args.shelf c.together-rvg.result.shelf c.apart-shelf.result.0 c.read-answer.new.self.shelf
    c.together-rvg.ensures.core c.together-rvg.ensures.shelf c.apart-shelf.ensures.core c.apart-shelf.ensures.shelf
    (reads_room c.together-rvg.result.core c.read-answer.new.self.core c.args.self.volume c.args.self.start c.args.self.count c.read-answer.new.into room (length (take c.args.self.count none)) (sym auto) (g.S.Shelf.meaning c.together-rvg.result.shelf)
    (g.S.Shelf.meaning c.read-answer.new.self.shelf) c.read-answer.result (g.met.S.Shelf.lawful c.together-rvg.result.shelf) (g.met.S.Shelf.lawful c.read-answer.new.self.shelf) c.together-rvg.result.sound c.read-answer.ensures.core
    c.read-answer.new.self.sound c.read-answer.ensures.answers c.read-answer.ensures.gives c.read-answer.ensures.goes c.read-answer.ensures.down c.read-answer.ensures.disks
    (front_room c.args.self.count c.read-answer.new.into none zeros few long) (take_at c.read-answer.new.into (drop c.args.self.count none) c.args.self.count long))
