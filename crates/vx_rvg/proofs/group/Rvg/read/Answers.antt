-- The group behind a read, and what it gives.
use Rattle.std.proofs.Common.{IsTrue, List}
use Rattle.vx_model.specs.Content.{Content, blocks_in}
use Rattle.vx_ringlog.specs.Records.{Record}
use Rattle.vx_rvg.specs.Contents.{ShowsContent}
use Rattle.vx_rvg.specs.Holdings.{Holding}
use Rattle.vx_rvg.specs.Stands.{IsCovered, Stands}
use Rattle.vx_rvg.proofs.ReadAnswers.{on_same}
use Rattle.vx_rvg.proofs.ReadStands.{ready_covers, rest_sound, rest_stands}
use Rattle.vx_rvg.proofs.group.Rvg.read.Goals as goal

pub invariant_of-self : goal.invariant_of-self
invariant_of-self g c = record { sound = rest_sound c.args.self.now.core (g.S.Shelf.meaning c.args.self.now.shelf) (g.S.Shelf.meaning c.read_blocks.new.shelf) c.read_blocks.ensures.goes c.args.self.now.sound }

pub returns-clause-gives : goal.returns-clause-gives
returns-clause-gives g c =
    let all : Type 0 = (x : Content) (rs : List Record) → IsCovered c.args.self.now.core x rs (g.S.Shelf.meaning c.args.self.now.shelf) → IsTrue (g.S.Shelf.meaning c.args.self.now.shelf).tells → ShowsContent x c.args.vol c.args.start (blocks_in c.args.into.now) c.read_blocks.new.into in
    let held : Type 0 = (h : Holding) → Stands c.args.self.now.core h (g.S.Shelf.meaning c.args.self.now.shelf) → IsTrue (g.S.Shelf.meaning c.args.self.now.shelf).tells → ShowsContent h.content c.args.vol c.args.start (blocks_in c.args.into.now) c.read_blocks.new.into in
    on_same c.read_blocks.result all held (λ give h stands tells. give h.content stands.log.held (ready_covers c.args.self.now.core h.content (g.S.Shelf.meaning c.args.self.now.shelf) stands.log stands.ready) tells) c.read_blocks.ensures.gives

pub returns-clause-stands : goal.returns-clause-stands
returns-clause-stands g c h stands up = rest_stands c.args.self.now.core (g.S.Shelf.meaning c.args.self.now.shelf) (g.S.Shelf.meaning c.read_blocks.new.shelf) c.read_blocks.ensures.goes up h stands
