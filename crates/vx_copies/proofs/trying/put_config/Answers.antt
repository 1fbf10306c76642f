-- `put_config`: clauses tried, ok, stops, first, order and calls.
use Rattle.std.proofs.Common.{◌≡◌, ◌*◌, length, ap, sym, Some, false, true, OnOk, IfErr, List, ℕ, take, subst, ◌∙◌}
use Rattle.std.proofs.lemmas.List.{take-take}
use Rattle.vx_disk.specs.Blocks.{bit_at}
use Rattle.vx_disk.specs.Burns.{MakesCalls}
use Rattle.vx_disk.specs.Disks.{count_below}
use Rattle.vx_disk.specs.Shelf.{Meaning}
use Rattle.vx_copyio.specs.Putting.{AllNew, CopyStops, GoodFirst, IsMember, part_of}
use Rattle.vx_copyio.proofs.Spreading.{on_err, on_ok}
use Rattle.vx_copies.specs.Answers.{good_set}
use Rattle.vx_copies.specs.Looking.{on_shelf}
use Rattle.vx_copies.specs.Marks.{good_count}
use Rattle.vx_copies.proofs.Goods.{count_good}
use Rattle.vx_copies.proofs.OneTry.{wanted_count}
use Rattle.vx_copies.specs.Orders.{OrderedThis}
use Rattle.vx_copies.specs.Tries.{AllThis, GoodBefore, Tried, TryStops}
use Rattle.vx_copies.proofs.Tried.{of_copied, of_new, of_ordered, of_stops, serial_reads, spelling_reads}
use Rattle.vx_copies.proofs.trying.put_config.Goals as goal
use Rattle.vx_copies.proofs.trying.put_config.Given.{Over}

abbrev body_of : (g : Over) (c : goal.After-put_copies g) → List ℕ
body_of g c = take c.spell-front.result.1 c.spell-front.new.room

reads_as : (g : Over) (c : goal.After-put_copies g) → on_shelf (g.S.Shelf.meaning c.args.shelf.now) c.spell-front.result.0.serial (take c.spell-front.result.0.length (body_of g c)) ≡ Some c.args.config.now
reads_as g c = serial_reads (g.S.Shelf.meaning c.args.shelf.now).units (g.S.Shelf.meaning c.args.shelf.now).size c.spell-front.result.0.serial (take c.spell-front.result.0.length (body_of g c)) c.args.config.now
    c.spell-front.ensures.serial
    (spelling_reads (g.S.Shelf.meaning c.args.shelf.now).units (g.S.Shelf.meaning c.args.shelf.now).size (take c.spell-front.result.0.length (body_of g c)) c.args.config.now
    c.spell-front.ensures.has (take-take c.spell-front.result.0.length c.spell-front.result.1 c.spell-front.new.room c.spell-front.ensures.inside ∙ c.spell-front.ensures.body) c.requires.wanted)

pub returns-clause-tried : goal.returns-clause-tried
returns-clause-tried g c =
    let old : Meaning = g.S.Shelf.meaning c.args.shelf.now in
    let new : Meaning = g.S.Shelf.meaning c.put_copies.new.shelf in
    subst (λ s. Tried (IsMember (bit_at s) old.units) c.args.config.now old new) c.good_of-set.ensures
    (of_copied c.spell-front.result.0 (body_of g c) c.args.config.now old c.spell-front.ensures.serial (reads_as g c) (IsMember (bit_at c.good_of-set.result) old.units) new c.put_copies.ensures.copied)

pub returns-clause-ok : goal.returns-clause-ok
returns-clause-ok g c =
    let old : Meaning = g.S.Shelf.meaning c.args.shelf.now in
    let new : Meaning = g.S.Shelf.meaning c.put_copies.new.shelf in
    subst (λ s. OnOk c.put_copies.result (AllThis (IsMember (bit_at s) old.units) c.args.config.now old new)) c.good_of-set.ensures
    (on_ok c.put_copies.result (AllNew (IsMember (bit_at c.good_of-set.result) old.units) c.spell-front.result.0 (body_of g c) old new)
    (AllThis (IsMember (bit_at c.good_of-set.result) old.units) c.args.config.now old new)
    (of_new c.spell-front.result.0 (body_of g c) c.args.config.now old c.spell-front.ensures.serial (reads_as g c) (IsMember (bit_at c.good_of-set.result) old.units) new)
    c.put_copies.ensures.ok)

pub returns-clause-stops : goal.returns-clause-stops
returns-clause-stops g c =
    let old : Meaning = g.S.Shelf.meaning c.args.shelf.now in
    let new : Meaning = g.S.Shelf.meaning c.put_copies.new.shelf in
    subst (λ s. IfErr c.put_copies.result (TryStops (IsMember (bit_at s) old.units) c.args.config.now old new)) c.good_of-set.ensures
    (on_err c.put_copies.result (CopyStops (bit_at c.good_of-set.result) old.units c.spell-front.result.0 (body_of g c) old new)
    (TryStops (IsMember (bit_at c.good_of-set.result) old.units) c.args.config.now old new)
    (of_stops c.spell-front.result.0 (body_of g c) c.args.config.now old c.spell-front.ensures.serial (reads_as g c) (bit_at c.good_of-set.result) new)
    c.put_copies.ensures.stops)

pub returns-clause-first : goal.returns-clause-first
returns-clause-first g c =
    let old : Meaning = g.S.Shelf.meaning c.args.shelf.now in
    let new : Meaning = g.S.Shelf.meaning c.put_copies.new.shelf in
    on_err c.put_copies.result (GoodFirst c.good_of-set.result c.args.good old.units c.spell-front.result.0 (body_of g c) old new)
    (GoodBefore c.args.good c.args.config.now old new)
    (λ failed first. record {
      done = λ out. subst (λ s. AllThis (IsMember (part_of s c.args.good true) old.units) c.args.config.now old new) c.good_of-set.ensures
          (of_new c.spell-front.result.0 (body_of g c) c.args.config.now old c.spell-front.ensures.serial (reads_as g c) (IsMember (part_of c.good_of-set.result c.args.good true) old.units) new (first.done out));
    })
    c.put_copies.ensures.first

pub returns-clause-order : goal.returns-clause-order
returns-clause-order g c =
    let old : Meaning = g.S.Shelf.meaning c.args.shelf.now in
    let new : Meaning = g.S.Shelf.meaning c.put_copies.new.shelf in
    subst (λ s. OrderedThis (IsMember (part_of s c.args.good true) old.units) (IsMember (part_of s c.args.good false) old.units) c.args.config.now old new) c.good_of-set.ensures
    (of_ordered c.spell-front.result.0 (body_of g c) c.args.config.now old c.spell-front.ensures.serial (reads_as g c) (IsMember (part_of c.good_of-set.result c.args.good true) old.units)
    (IsMember (part_of c.good_of-set.result c.args.good false) old.units) new c.put_copies.ensures.order)

pub returns-clause-calls : goal.returns-clause-calls
returns-clause-calls g c =
    let old : Meaning = g.S.Shelf.meaning c.args.shelf.now in
    let new : Meaning = g.S.Shelf.meaning c.put_copies.new.shelf in
    let count : length c.args.config.now.disks ≡ old.units = wanted_count old.units old.size c.args.config.now c.requires.wanted in
    let all : count_below (bit_at c.good_of-set.result) old.units ≡ good_count c.args.config.now.disks =
    ap (λ (s : ℕ). count_below (bit_at s) old.units) c.good_of-set.ensures ∙ ap (count_below (bit_at (good_set c.args.config.now.disks))) (sym count) ∙ count_good c.args.config.now.disks in
    subst (λ (n : ℕ). OnOk c.put_copies.result (MakesCalls (4 * n) old new)) all c.put_copies.ensures.calls
