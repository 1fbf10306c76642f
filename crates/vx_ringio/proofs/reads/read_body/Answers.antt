-- `read_body`: clauses shows, gave, spends, works and names.
use Rattle.std.proofs.Common.{arith, ◌≡◌, ◌∙◌, eqb-true, sym, length}
use Rattle.std.proofs.lemmas.Result.{on_ok_weaker}
use Rattle.vx_ringio.specs.Classes.{class_of}
use Rattle.vx_ringio.proofs.Following.{reads_stay}
use Rattle.vx_disk.proofs.Naming.{names_before}
use Rattle.vx_ringio.proofs.Parts.{gave_parts, in_parts, places_first, places_parts}
use Rattle.vx_disk.proofs.Spending.{on_always, then_spends}
use Rattle.vx_ringio.proofs.reads.read_body.Goals as goal

pub returns-then-is_empty-clause-shows : goal.returns-then-is_empty-clause-shows
returns-then-is_empty-clause-shows g c = λ k reads.
    let parts = in_parts c.args.ring c.args.place c.min-before_end.result _ c.read_part.new.into c.split_at_mut-one.result.1.now (omega arith) c.min-before_end.ensures
    (omega arith) c.split_at_mut-one.ensures.back_len c.requires.blocks.whole in
    places_first (λ at b. class_of c.args.ring b ≡ k at) c.args.ring c.args.place _ _ parts (eqb-true _ 0 (sym c.is_empty.ensures ∙ c.if-is_empty.true)) (c.in_ok-read_part.ensures.shows k reads)

pub returns-then-is_empty-clause-gave : goal.returns-then-is_empty-clause-gave
returns-then-is_empty-clause-gave g c = λ tells.
    let parts = in_parts c.args.ring c.args.place c.min-before_end.result _ c.read_part.new.into c.split_at_mut-one.result.1.now (omega arith) c.min-before_end.ensures
    (omega arith) c.split_at_mut-one.ensures.back_len c.requires.blocks.whole in
    places_first ((g.S.Shelf.meaning c.args.shelf.now).reads c.args.unit) c.args.ring c.args.place _ _ parts (eqb-true _ 0 (sym c.is_empty.ensures ∙ c.if-is_empty.true)) (c.in_ok-read_part.ensures.gave tells)

pub returns-else-is_empty-clause-shows : goal.returns-else-is_empty-clause-shows
returns-else-is_empty-clause-shows g c =
    let parts = in_parts c.args.ring c.args.place c.min-before_end.result (length c.args.into.now) c.read_part.new.into c.read_part-else-is_empty.new.into (omega arith) c.min-before_end.ensures
    (omega arith) (omega arith) c.requires.blocks.whole in
    on_ok_weaker c.read_part-else-is_empty.result
    (λ shows. λ k reads. places_parts (λ at b. class_of c.args.ring b ≡ k at) c.args.ring c.args.place _ _ parts (c.in_ok-read_part.ensures.shows k reads)
    (shows k (reads_stay c.args.unit c.args.ring k _ _ c.read_part.ensures.goes c.in_ok-read_part.ensures.cause.after reads)))
    c.read_part-else-is_empty.ensures.shows

pub returns-else-is_empty-clause-gave : goal.returns-else-is_empty-clause-gave
returns-else-is_empty-clause-gave g c =
    let parts = in_parts c.args.ring c.args.place c.min-before_end.result (length c.args.into.now) c.read_part.new.into c.read_part-else-is_empty.new.into (omega arith) c.min-before_end.ensures
    (omega arith) (omega arith) c.requires.blocks.whole in
    on_ok_weaker c.read_part-else-is_empty.result
    (gave_parts c.args.unit c.args.ring c.args.place _ _ (g.S.Shelf.meaning c.args.shelf.now) (g.S.Shelf.meaning c.read_part.new.shelf) parts c.read_part.ensures.goes c.in_ok-read_part.ensures.cause.after c.in_ok-read_part.ensures.gave)
    c.read_part-else-is_empty.ensures.gave

pub returns-else-is_empty-clause-spends : goal.returns-else-is_empty-clause-spends
returns-else-is_empty-clause-spends g c = then_spends _ _ _ c.read_part.ensures.spends c.read_part-else-is_empty.ensures.spends

pub returns-else-is_empty-clause-works : goal.returns-else-is_empty-clause-works
returns-else-is_empty-clause-works g c = on_always c.read_part-else-is_empty.result c.in_ok-read_part.ensures.works

pub returns-else-is_empty-clause-names : goal.returns-else-is_empty-clause-names
returns-else-is_empty-clause-names g c = names_before (Unit {0}) _ _ _ _ c.read_part-else-is_empty.result c.read_part.ensures.disks c.read_part-else-is_empty.ensures.names
