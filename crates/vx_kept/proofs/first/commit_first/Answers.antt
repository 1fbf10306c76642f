-- `commit_first`: clauses ends and trusts; what `commit_in` asks.
use Rattle.vx_disk.specs.Shelf.{Meaning}
use Rattle.vx_kept.proofs.Firsts.{first_ends, first_trusts}
use Rattle.vx_kept.proofs.Narrower.{sound_few, wanted_sound}
use Rattle.vx_kept.proofs.first.commit_first.Goals as goal

pub commit_in-requires-clause-short : goal.commit_in-requires-clause-short
commit_in-requires-clause-short g c =
    let m : Meaning = g.S.Shelf.meaning c.args.shelf.now in
    sound_few c.args.config.now (wanted_sound m.units m.size c.args.config.now c.requires.wanted)

pub returns-clause-ends : goal.returns-clause-ends
returns-clause-ends g c =
    let old : Meaning = g.S.Shelf.meaning c.args.shelf.now in
    let new : Meaning = g.S.Shelf.meaning c.commit_in.new.shelf in
    first_ends c.args.good c.args.config.now c.commit_in.new.config old new (g.met.S.Shelf.lawful c.args.shelf.now) (g.met.S.Shelf.lawful c.commit_in.new.shelf) c.requires.cleared c.requires.labels
    (wanted_sound old.units old.size c.args.config.now c.requires.wanted) c.requires.on c.commit_in.ensures.begins c.commit_in.ensures.fit c.commit_in.ensures.wanted c.commit_in.result c.commit_in.ensures.ends

pub returns-clause-trusts : goal.returns-clause-trusts
returns-clause-trusts g c =
    let old : Meaning = g.S.Shelf.meaning c.args.shelf.now in
    first_trusts c.args.good c.args.config.now c.commit_in.new.config old (g.S.Shelf.meaning c.commit_in.new.shelf) c.requires.cleared c.requires.labels c.commit_in.result c.commit_in.ensures.ends
