-- What a read in a group commit gives, and the group behind it.
use Rattle.std.proofs.Common.{IsTrue, List, ◌++◌}
use Rattle.vx_model.specs.Content.{Content, Write, blocks_in, fold_writes}
use Rattle.vx_ringlog.specs.Records.{Record}
use Rattle.vx_rvg.specs.Commits.{HasStaged}
use Rattle.vx_rvg.specs.Contents.{ShowsContent}
use Rattle.vx_rvg.specs.Holdings.{Holding}
use Rattle.vx_rvg.specs.Stands.{IsCovered}
use Rattle.vx_rvg.proofs.CommitCalls.{counted_same}
use Rattle.vx_rvg.proofs.ReadAnswers.{on_same}
use Rattle.vx_rvg.proofs.ReadStands.{rest_sizes, rest_staged}
use Rattle.vx_rvg.proofs.StagedSound.{few_applied, staged_same}
use Rattle.vx_rvg.proofs.StagedStands.{staged_covers}
use Rattle.vx_rvg.proofs.staging.Staging.read.Goals as goal

pub invariant_of-self : goal.invariant_of-self
invariant_of-self g c = record {
  sound = staged_same c.args.self.now.core (g.S.Shelf.meaning c.args.self.now.shelf) (g.S.Shelf.meaning c.read_blocks.new.shelf) (rest_sizes (g.S.Shelf.meaning c.args.self.now.shelf) (g.S.Shelf.meaning c.read_blocks.new.shelf) c.read_blocks.ensures.goes) c.args.self.now.sound;
  counted = counted_same c.args.self.now.waiting c.args.self.now.core (g.S.Shelf.meaning c.args.self.now.shelf) (g.S.Shelf.meaning c.read_blocks.new.shelf) (rest_sizes (g.S.Shelf.meaning c.args.self.now.shelf) (g.S.Shelf.meaning c.read_blocks.new.shelf) c.read_blocks.ensures.goes) c.args.self.now.counted;
}

pub returns-clause-gives : goal.returns-clause-gives
returns-clause-gives g c =
    let all : Type 0 = (x : Content) (rs : List Record) → IsCovered c.args.self.now.core x rs (g.S.Shelf.meaning c.args.self.now.shelf) → IsTrue (g.S.Shelf.meaning c.args.self.now.shelf).tells → ShowsContent x c.args.vol c.args.start (blocks_in c.args.into.now) c.read_blocks.new.into in
    let staged : Type 0 = (xs : List Write) (h : Holding) → HasStaged xs c.args.self.now.core h (g.S.Shelf.meaning c.args.self.now.shelf) → IsTrue (g.S.Shelf.meaning c.args.self.now.shelf).tells
    → ShowsContent (fold_writes h.content xs) c.args.vol c.args.start (blocks_in c.args.into.now) c.read_blocks.new.into in
    on_same c.read_blocks.result all staged
    (λ give xs h has tells. give (fold_writes h.content xs) (has.stands.log.held ++ has.stands.log.staged)
    (staged_covers xs c.args.self.now.core h (g.S.Shelf.meaning c.args.self.now.shelf) has (few_applied c.args.self.now.core c.args.self.now.core.log.staged (g.S.Shelf.meaning c.args.self.now.shelf) c.args.self.now.sound c.read_blocks.ensures.numbers)) tells) c.read_blocks.ensures.gives

pub returns-clause-staged : goal.returns-clause-staged
returns-clause-staged g c xs h has up = rest_staged c.args.self.now.core (g.S.Shelf.meaning c.args.self.now.shelf) (g.S.Shelf.meaning c.read_blocks.new.shelf) c.read_blocks.ensures.goes up xs h has
