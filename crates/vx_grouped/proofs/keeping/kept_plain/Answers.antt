-- `kept_plain`: what it tells of each block, and that what is noted stays.
use Rattle.std.proofs.Common.{◌≡◌, ◌≤◌, ◌∙◌, ℕ, List, length, take, drop, replicate, length-take-le, arith, refl}
use Rattle.vx_group.specs.Holding.{wide}
use Rattle.vx_group.specs.Laws.{group_lawful}
use Rattle.vx_group.specs.Stands.{inner_meaning}
use Rattle.vx_grouped.proofs.KeepingLemmas.{keeps_front}
use Rattle.vx_grouped.proofs.PlainMapLemmas.{parts_same}
use Rattle.vx_grouped.proofs.ReadLemmas.{read_stays, reads_plain}
use Rattle.vx_grouped.proofs.keeping.kept_plain.Goals as goal

pub returns-in-Ok-clause-kept : goal.returns-in-Ok-clause-kept
returns-in-Ok-clause-kept g c = λ note it.
    let bytes : List ℕ = c.args.bytes.now in
    let none : List ℕ = replicate 8192 0 in
    let auto : length c.read.new.into ≡ length (take (length bytes) none) = c.read.auto.into in
    let zeros : length none ≡ 8192 = refl in
    let few : length bytes ≤ 8192 = c.requires.few in
    let long : length c.read.new.into ≡ length bytes = auto ∙ length-take-le (length bytes) none (omega (arith, few, zeros)) in
    keeps_front note (g.S.Shelf.meaning c.args.group.now.shelf) c.args.vol c.args.block c.read.new.into c.args.bytes.now c.compared.result (drop (length bytes) none) long
    (reads_plain note (inner_meaning (wide c.args.group.now.core) (g.S.Shelf.meaning c.args.group.now.shelf)) (g.S.Shelf.meaning c.args.group.now.shelf) c.args.vol c.args.block c.args.bytes.now c.read.new.into long refl
    (group_lawful (wide c.args.group.now.core) (g.S.Shelf.meaning c.args.group.now.shelf) (g.met.S.Shelf.lawful c.args.group.now.shelf) c.args.group.now.stands.group.stands) it c.requires.fits c.in-Ok.ensures.ok)
    c.compared.ensures

pub returns-in-Ok-clause-stays : goal.returns-in-Ok-clause-stays
returns-in-Ok-clause-stays g c = λ n note at.
    read_stays n note c.args.group.now.core c.read.new.self.core (g.S.Shelf.meaning c.args.group.now.shelf) (g.S.Shelf.meaning c.read.new.self.shelf) (g.met.S.Shelf.lawful c.args.group.now.shelf) (g.met.S.Shelf.lawful c.read.new.self.shelf)
    c.read.ensures.below c.read.ensures.down c.read.ensures.goes c.read.ensures.same c.read.ensures.held c.read.ensures.settled c.read.ensures.trusted at

pub returns-in-Err-clause-stays : goal.returns-in-Err-clause-stays
returns-in-Err-clause-stays g c = λ n note at.
    read_stays n note c.args.group.now.core c.read.new.self.core (g.S.Shelf.meaning c.args.group.now.shelf) (g.S.Shelf.meaning c.read.new.self.shelf) (g.met.S.Shelf.lawful c.args.group.now.shelf) (g.met.S.Shelf.lawful c.read.new.self.shelf)
    c.read.ensures.below c.read.ensures.down c.read.ensures.goes c.read.ensures.same c.read.ensures.held c.read.ensures.settled c.read.ensures.trusted at

pub returns-in-Ok-clause-maps : goal.returns-in-Ok-clause-maps
returns-in-Ok-clause-maps g c =
    parts_same c.args.group.now.core.inner.config c.read.new.self.core.inner.config c.args.group.now.logs.items c.read.new.self.logs.items c.args.group.now.alike c.read.new.self.alike c.args.group.now.stopped c.read.new.self.stopped
    c.read.ensures.same c.read.ensures.logs c.read.ensures.alike c.read.ensures.stopped

pub returns-in-Err-clause-maps : goal.returns-in-Err-clause-maps
returns-in-Err-clause-maps g c =
    parts_same c.args.group.now.core.inner.config c.read.new.self.core.inner.config c.args.group.now.logs.items c.read.new.self.logs.items c.args.group.now.alike c.read.new.self.alike c.args.group.now.stopped c.read.new.self.stopped
    c.read.ensures.same c.read.ensures.logs c.read.ensures.alike c.read.ensures.stopped

pub returns-in-Ok-clause-same : goal.returns-in-Ok-clause-same
returns-in-Ok-clause-same g c = c.read.ensures.same

pub returns-in-Ok-clause-below : goal.returns-in-Ok-clause-below
returns-in-Ok-clause-below g c = c.read.ensures.below

pub returns-in-Ok-clause-cause : goal.returns-in-Ok-clause-cause
returns-in-Ok-clause-cause g c = tt

pub returns-in-Err-clause-same : goal.returns-in-Err-clause-same
returns-in-Err-clause-same g c = c.read.ensures.same

pub returns-in-Err-clause-below : goal.returns-in-Err-clause-below
returns-in-Err-clause-below g c = c.read.ensures.below

pub returns-in-Err-clause-kept : goal.returns-in-Err-clause-kept
returns-in-Err-clause-kept g c = λ note holds. tt
