-- What a receiver shows, by parts.
use Rattle.std.proofs.Common.{◌≡◌, ◌≤◌, ◌∙◌, ◌++◌, ℕ, List, length, take, drop, replicate, length-take-le, ap, arith, refl, subst, sym}
use Rattle.std.proofs.lemmas.List.{take_at}
use Rattle.vx_model.specs.declared.call.Update.{Update}
use Rattle.vx_secondary.specs.Receivers.{Wait}
use Rattle.vx_diskset.proofs.OverReads.{front_blocks, front_room}
use Rattle.vx_diskset.proofs.OverWorks.{asked_core, carried_core}
use Rattle.vx_diskset.proofs.Showing.{shows_room}
use Rattle.vx_diskset.specs.Works.{AsksShow, DoesShow}
use Rattle.vx_diskset.proofs.over_work.ShowsWork.run.Goals as goal

pub together-rvg-requires : goal.together-rvg-requires
together-rvg-requires g c = c.requires.read.sound

pub together-site-requires : goal.together-site-requires
together-site-requires g c =
    asked_core (λ x s. Wait x (g.S.Shelf.meaning s).size c.args.self.waiting) c.args.self.core c.together-rvg.result.core c.args.shelf c.together-rvg.result.shelf c.together-rvg.ensures.core c.together-rvg.ensures.shelf c.requires.waits

pub show-answer-requires-clause-volume : goal.show-answer-requires-clause-volume
show-answer-requires-clause-volume g c =
    (asked_core (λ x s. AsksShow x c.args.self.waiting c.args.self.volume c.args.self.count (g.S.Shelf.meaning s)) c.args.self.core c.together-site.result.rvg.core c.args.shelf c.together-site.result.rvg.shelf
    (ap (λ r. r.core) c.together-site.ensures.group ∙ c.together-rvg.ensures.core) (ap (λ r. r.shelf) c.together-site.ensures.group ∙ c.together-rvg.ensures.shelf) c.requires).read.there

pub show-answer-requires-clause-blocks : goal.show-answer-requires-clause-blocks
show-answer-requires-clause-blocks g c = front_blocks c.args.self.count (replicate 8192 0) refl c.requires.read.some c.requires.read.few c.requires.read.whole

pub returns : goal.returns
returns g c =
    let none : List ℕ = replicate 8192 0 in
    let auto : length c.show-answer.new.into ≡ length (take c.args.self.count none) = c.show-answer.auto.into in
    let zeros : length none ≡ 8192 = refl in
    let few : c.args.self.count ≤ 8192 = c.requires.read.few in
    let long : length c.show-answer.new.into ≡ c.args.self.count = auto ∙ length-take-le c.args.self.count none (omega (arith, few, zeros)) in
    let room : List ℕ = c.show-answer.new.into ++ drop c.args.self.count none in
    carried_core (λ x s y t. DoesShow x c.args.self.waiting c.args.self.volume c.args.self.start c.args.self.count (g.S.Shelf.meaning s) y c.apart-rvg.result.1 room (g.S.Shelf.meaning t) c.show-answer.result)
    c.args.self.core c.together-site.result.rvg.core c.apart-shelf.result.1 c.show-answer.new.self.rvg.core c.args.shelf c.together-site.result.rvg.shelf c.apart-shelf.result.0 c.show-answer.new.self.rvg.shelf
    (ap (λ r. r.core) c.together-site.ensures.group ∙ c.together-rvg.ensures.core) (ap (λ r. r.shelf) c.together-site.ensures.group ∙ c.together-rvg.ensures.shelf)
    (c.apart-shelf.ensures.core ∙ ap (λ r. r.core) c.apart-rvg.ensures.group) (c.apart-shelf.ensures.shelf ∙ ap (λ r. r.shelf) c.apart-rvg.ensures.group)
    (subst (λ (us : List Update). DoesShow c.together-site.result.rvg.core us c.args.self.volume c.args.self.start c.args.self.count (g.S.Shelf.meaning c.together-site.result.rvg.shelf) c.show-answer.new.self.rvg.core c.apart-rvg.result.1 room (g.S.Shelf.meaning c.show-answer.new.self.rvg.shelf) c.show-answer.result)
    c.together-site.ensures.waiting
    (shows_room c.together-site.result.rvg.core c.show-answer.new.self.rvg.core c.together-site.result.waiting c.apart-rvg.result.1 c.args.self.volume c.args.self.start c.args.self.count c.show-answer.new.into room (length (take c.args.self.count none)) (sym auto)
    (g.S.Shelf.meaning c.together-site.result.rvg.shelf) (g.S.Shelf.meaning c.show-answer.new.self.rvg.shelf) c.show-answer.result (g.met.S.Shelf.lawful c.together-site.result.rvg.shelf) (g.met.S.Shelf.lawful c.show-answer.new.self.rvg.shelf)
    c.together-site.result.rvg.sound c.show-answer.ensures.core c.show-answer.new.self.rvg.sound (c.apart-rvg.ensures.waiting ∙ c.show-answer.ensures.waiting) c.show-answer.ensures.answers c.show-answer.ensures.gives c.show-answer.ensures.goes
    c.show-answer.ensures.down c.show-answer.ensures.disks (front_room c.args.self.count c.show-answer.new.into none zeros few long) (take_at c.show-answer.new.into (drop c.args.self.count none) c.args.self.count long)))
