-- A run of regions, by the places that they have.
use Rattle.std.proofs.Common.{arith}
use Rattle.std.proofs.lemmas.Result.{on_ok_weaker}
use Rattle.vx_dcm.proofs.RunMarks.{bits_of, moves_of, run_between, run_marked, run_was}
use Rattle.vx_dcm.proofs.dcm.Dcm.mark_run.Goals as goal

pub place-start-requires : goal.place-start-requires
place-start-requires g c = record { exists = record { map = c.requires.exists.map; region = omega (arith, c.requires.exists.region, c.requires.some) } }

pub returns-clause-marked : goal.returns-clause-marked
returns-clause-marked g c =
    on_ok_weaker c.change.result
    (λ changed. run_marked c.args.self.now c.change.new.self c.change.ensures.placed c.change.ensures.sizes c.args.slot c.args.vol c.args.first c.args.last c.place-start.result c.place-end.result
    c.requires.exists c.place-start.ensures.is c.place-end.ensures.is c.args.on changed)
    c.change.ensures.changed

pub returns-clause-part : goal.returns-clause-part
returns-clause-part g c =
    run_between c.args.self.now c.change.new.self c.change.ensures.placed c.change.ensures.sizes c.args.slot c.args.vol c.args.first c.args.last c.place-start.result c.place-end.result
    c.requires.exists c.place-start.ensures.is c.place-end.ensures.is c.args.on c.change.ensures.part

pub returns-clause-nothing : goal.returns-clause-nothing
returns-clause-nothing g c = λ all.
    c.change.ensures.nothing
    (run_was c.args.self.now c.change.new.self c.change.ensures.placed c.change.ensures.sizes c.args.slot c.args.vol c.args.first c.args.last c.place-start.result c.place-end.result
    c.requires.exists c.place-start.ensures.is c.place-end.ensures.is c.args.on all)

pub returns-clause-moves : goal.returns-clause-moves
returns-clause-moves g c =
    moves_of c.place-start.result c.place-end.result _ _ c.place-start.ensures.is c.place-end.ensures.is c.args.on c.args.self.now.map (g.S.Shelf.meaning c.args.shelf.now) (g.S.Shelf.meaning c.change.new.shelf) c.change.ensures.moves

pub returns-clause-bits : goal.returns-clause-bits
returns-clause-bits g c = bits_of c.place-start.result c.place-end.result _ _ c.place-start.ensures.is c.place-end.ensures.is c.args.on c.args.self.now c.change.new.self c.change.ensures.part
