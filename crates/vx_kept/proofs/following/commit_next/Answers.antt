-- `commit_next`: clauses acts, ends, on, finds and trusts; what `commit_in` asks.
use Rattle.vx_disk.specs.Shelf.{Meaning}
use Rattle.vx_kept.specs.Commits.{Member}
use Rattle.vx_kept.proofs.Committed.{base_of, take_acts}
use Rattle.vx_kept.proofs.Narrower.{sound_few, wanted_sound}
use Rattle.vx_kept.proofs.Nexts.{next_ends, next_on}
use Rattle.vx_kept.proofs.Trusting.{sees_of, tried_finds, trust_ends}
use Rattle.vx_kept.proofs.following.commit_next.Goals as goal

pub commit_in-requires-clause-short : goal.commit_in-requires-clause-short
commit_in-requires-clause-short g c =
    let m : Meaning = g.S.Shelf.meaning c.args.shelf.now in
    sound_few c.args.next.now (wanted_sound m.units m.size c.args.next.now c.requires.wanted)

pub returns-clause-acts : goal.returns-clause-acts
returns-clause-acts g c =
    let old : Meaning = g.S.Shelf.meaning c.args.shelf.now in
    let new : Meaning = g.S.Shelf.meaning c.commit_in.new.shelf in
    take_acts c.args.good c.args.before.now c.args.next.now c.commit_in.new.config old new (g.met.S.Shelf.lawful c.args.shelf.now) (g.met.S.Shelf.lawful c.commit_in.new.shelf) c.requires.kept c.requires.tidy c.requires.follows c.commit_in.ensures.begins c.commit_in.ensures.fit

pub returns-clause-ends : goal.returns-clause-ends
returns-clause-ends g c =
    let old : Meaning = g.S.Shelf.meaning c.args.shelf.now in
    let new : Meaning = g.S.Shelf.meaning c.commit_in.new.shelf in
    next_ends c.args.good c.args.before.now c.args.next.now c.commit_in.new.config old new (g.met.S.Shelf.lawful c.args.shelf.now) (g.met.S.Shelf.lawful c.commit_in.new.shelf) c.requires.kept c.requires.tidy c.requires.follows c.requires.on
    c.commit_in.ensures.begins c.commit_in.ensures.fit c.commit_in.ensures.wanted c.commit_in.result c.commit_in.ensures.ends

pub returns-clause-on : goal.returns-clause-on
returns-clause-on g c = next_on c.args.good c.args.next.now c.commit_in.new.config (g.S.Shelf.meaning c.args.shelf.now) (g.S.Shelf.meaning c.commit_in.new.shelf) c.requires.on c.commit_in.result c.commit_in.ensures.ends

pub returns-clause-trusts : goal.returns-clause-trusts
returns-clause-trusts g c =
    let old : Meaning = g.S.Shelf.meaning c.args.shelf.now in
    let new : Meaning = g.S.Shelf.meaning c.commit_in.new.shelf in
    trust_ends c.args.good c.args.before.now c.args.next.now c.commit_in.new.config old new (g.met.S.Shelf.lawful c.args.shelf.now) (g.met.S.Shelf.lawful c.commit_in.new.shelf) (base_of c.args.before.now (Member c.args.good old) old c.requires.kept) c.requires.tidy c.requires.follows.serial
    (sees_of c.args.before.now (Member c.args.good old) old c.requires.kept) c.commit_in.ensures.begins.moves.units c.commit_in.ensures.begins.moves.size c.commit_in.ensures.begins.moves.tells c.commit_in.new.config.serial c.commit_in.ensures.finds c.commit_in.result c.commit_in.ensures.ends

pub returns-clause-finds : goal.returns-clause-finds
returns-clause-finds g c =
    let old : Meaning = g.S.Shelf.meaning c.args.shelf.now in
    let new : Meaning = g.S.Shelf.meaning c.commit_in.new.shelf in
    tried_finds c.args.good c.args.before.now c.args.next.now c.commit_in.new.config old new (g.met.S.Shelf.lawful c.args.shelf.now) (g.met.S.Shelf.lawful c.commit_in.new.shelf) (base_of c.args.before.now (Member c.args.good old) old c.requires.kept) c.requires.tidy c.requires.follows.serial
    (sees_of c.args.before.now (Member c.args.good old) old c.requires.kept) c.commit_in.ensures.begins.moves.units c.commit_in.ensures.begins.moves.size c.commit_in.ensures.begins.moves.tells c.commit_in.new.config.serial c.commit_in.ensures.finds
