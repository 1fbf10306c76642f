-- `put_copies`: clauses copied, ok, stops, first, order, calls and up.
use Rattle.std.proofs.Common.{◌≡◌, ◌*◌, ℕ, IfErr, OnOk, true, false, sym, subst, ◌∙◌}
use Rattle.vx_disk.specs.Blocks.{bit_at}
use Rattle.vx_disk.specs.Burns.{MakesCalls}
use Rattle.vx_disk.specs.Disks.{count_below}
use Rattle.vx_disk.specs.Shelf.{Meaning}
use Rattle.vx_copyio.specs.Putting.{AllNew, Copied, CopyStops, GoodFirst, IsMember, KeepsUp, part_of}
use Rattle.vx_copyio.proofs.Counted.{both_parts}
use Rattle.vx_copyio.proofs.Ordering.{first_ordered, second_ordered}
use Rattle.vx_copyio.proofs.Spreading.{both_copied, both_new, first_copied, first_new, first_stops, part_good, second_stops, on_err, on_ok, part_cover, part_in, part_out}
use Rattle.vx_copyio.proofs.spread.put_copies.Goals as goal

pub returns-in-Err-clause-copied : goal.returns-in-Err-clause-copied
returns-in-Err-clause-copied g c =
    let old : Meaning = g.S.Shelf.meaning c.args.shelf.now in
    first_copied c.args.header.now c.args.body.now (part_of c.args.set c.args.good true) (part_of c.args.set c.args.good false) (bit_at c.args.set) old.units
    (part_out c.args.set c.args.good) (part_in c.args.set c.args.good true) (part_in c.args.set c.args.good false) (part_cover c.args.set c.args.good)
    old (g.S.Shelf.meaning c.put_part.new.shelf) c.put_part.ensures.copied

pub returns-clause-copied : goal.returns-clause-copied
returns-clause-copied g c =
    let old : Meaning = g.S.Shelf.meaning c.args.shelf.now in
    let mid : Meaning = g.S.Shelf.meaning c.put_part.new.shelf in
    let new : Meaning = g.S.Shelf.meaning c.put_part-2.new.shelf in
    both_copied c.args.header.now c.args.body.now (part_of c.args.set c.args.good true) (part_of c.args.set c.args.good false) (bit_at c.args.set) old.units
    (part_out c.args.set c.args.good) (part_in c.args.set c.args.good true) (part_in c.args.set c.args.good false) (part_cover c.args.set c.args.good)
    old mid c.put_part.ensures.copied new
    (subst (λ n. Copied (IsMember (part_of c.args.set c.args.good false) n) c.args.header.now c.args.body.now mid new) c.put_part.ensures.copied.moves.units c.put_part-2.ensures.copied)

pub returns-clause-ok : goal.returns-clause-ok
returns-clause-ok g c =
    let old : Meaning = g.S.Shelf.meaning c.args.shelf.now in
    let mid : Meaning = g.S.Shelf.meaning c.put_part.new.shelf in
    let new : Meaning = g.S.Shelf.meaning c.put_part-2.new.shelf in
    on_ok c.put_part-2.result (AllNew (IsMember (part_of c.args.set c.args.good false) old.units) c.args.header.now c.args.body.now mid new)
    (AllNew (IsMember (bit_at c.args.set) old.units) c.args.header.now c.args.body.now old new)
    (both_new c.args.header.now c.args.body.now (part_of c.args.set c.args.good true) (part_of c.args.set c.args.good false) (bit_at c.args.set) old.units
    (part_out c.args.set c.args.good) (part_in c.args.set c.args.good true) (part_in c.args.set c.args.good false) (part_cover c.args.set c.args.good)
    old mid c.put_part.ensures.copied new
    (subst (λ n. Copied (IsMember (part_of c.args.set c.args.good false) n) c.args.header.now c.args.body.now mid new) c.put_part.ensures.copied.moves.units c.put_part-2.ensures.copied)
    c.in-Ok.ensures.ok)
    (subst (λ n. OnOk c.put_part-2.result (AllNew (IsMember (part_of c.args.set c.args.good false) n) c.args.header.now c.args.body.now mid new)) c.put_part.ensures.copied.moves.units c.put_part-2.ensures.ok)

pub returns-in-Err-clause-stops : goal.returns-in-Err-clause-stops
returns-in-Err-clause-stops g c =
    let old : Meaning = g.S.Shelf.meaning c.args.shelf.now in
    let new : Meaning = g.S.Shelf.meaning c.put_part.new.shelf in
    first_stops c.args.header.now c.args.body.now (part_of c.args.set c.args.good true) (part_of c.args.set c.args.good false) (bit_at c.args.set) old.units
    (part_out c.args.set c.args.good) (part_in c.args.set c.args.good true) (part_in c.args.set c.args.good false) (part_cover c.args.set c.args.good)
    old new c.put_part.ensures.copied c.in-Err.failed c.in-Err.ensures.stops

pub returns-clause-stops : goal.returns-clause-stops
returns-clause-stops g c =
    let old : Meaning = g.S.Shelf.meaning c.args.shelf.now in
    let mid : Meaning = g.S.Shelf.meaning c.put_part.new.shelf in
    let new : Meaning = g.S.Shelf.meaning c.put_part-2.new.shelf in
    on_err c.put_part-2.result (CopyStops (part_of c.args.set c.args.good false) old.units c.args.header.now c.args.body.now mid new)
    (CopyStops (bit_at c.args.set) old.units c.args.header.now c.args.body.now old new)
    (second_stops c.args.header.now c.args.body.now (part_of c.args.set c.args.good true) (part_of c.args.set c.args.good false) (bit_at c.args.set) old.units
    (part_out c.args.set c.args.good) (part_in c.args.set c.args.good true) (part_in c.args.set c.args.good false) (part_cover c.args.set c.args.good)
    old mid c.put_part.ensures.copied new
    (subst (λ n. Copied (IsMember (part_of c.args.set c.args.good false) n) c.args.header.now c.args.body.now mid new) c.put_part.ensures.copied.moves.units c.put_part-2.ensures.copied)
    c.in-Ok.ensures.ok)
    (subst (λ n. IfErr c.put_part-2.result (CopyStops (part_of c.args.set c.args.good false) n c.args.header.now c.args.body.now mid new)) c.put_part.ensures.copied.moves.units c.put_part-2.ensures.stops)

pub returns-in-Err-clause-first : goal.returns-in-Err-clause-first
returns-in-Err-clause-first g c = record {
  done = λ out.
      let clash : false ≡ true = sym out ∙ part_good c.args.set c.args.good c.in-Err.failed.disk c.in-Err.ensures.stops.member.is in absurd cc;
}

pub returns-clause-first : goal.returns-clause-first
returns-clause-first g c =
    let old : Meaning = g.S.Shelf.meaning c.args.shelf.now in
    let mid : Meaning = g.S.Shelf.meaning c.put_part.new.shelf in
    let new : Meaning = g.S.Shelf.meaning c.put_part-2.new.shelf in
    on_err c.put_part-2.result (CopyStops (part_of c.args.set c.args.good false) old.units c.args.header.now c.args.body.now mid new)
    (GoodFirst c.args.set c.args.good old.units c.args.header.now c.args.body.now old new)
    (λ failed stops. record {
      done = λ out. first_new c.args.header.now c.args.body.now (part_of c.args.set c.args.good true) (part_of c.args.set c.args.good false) (bit_at c.args.set) old.units
          (part_out c.args.set c.args.good) (part_in c.args.set c.args.good true) (part_in c.args.set c.args.good false) (part_cover c.args.set c.args.good)
          old mid c.put_part.ensures.copied new
          (subst (λ n. Copied (IsMember (part_of c.args.set c.args.good false) n) c.args.header.now c.args.body.now mid new) c.put_part.ensures.copied.moves.units c.put_part-2.ensures.copied)
          c.in-Ok.ensures.ok;
    })
    (subst (λ n. IfErr c.put_part-2.result (CopyStops (part_of c.args.set c.args.good false) n c.args.header.now c.args.body.now mid new)) c.put_part.ensures.copied.moves.units c.put_part-2.ensures.stops)

apart : (set good n u : ℕ) → IsMember (part_of set good true) n u → IsMember (part_of set good false) n u → ⊥
apart set good n u one two = let clash : false ≡ true = sym (part_out set good u one.is) ∙ two.is in cc

pub returns-in-Err-clause-order : goal.returns-in-Err-clause-order
returns-in-Err-clause-order g c =
    let old : Meaning = g.S.Shelf.meaning c.args.shelf.now in
    first_ordered c.args.header.now c.args.body.now (IsMember (part_of c.args.set c.args.good true) old.units) (IsMember (part_of c.args.set c.args.good false) old.units) (apart c.args.set c.args.good old.units)
    old (g.S.Shelf.meaning c.put_part.new.shelf) c.put_part.ensures.copied

pub returns-clause-order : goal.returns-clause-order
returns-clause-order g c =
    let old : Meaning = g.S.Shelf.meaning c.args.shelf.now in
    let mid : Meaning = g.S.Shelf.meaning c.put_part.new.shelf in
    let new : Meaning = g.S.Shelf.meaning c.put_part-2.new.shelf in
    second_ordered c.args.header.now c.args.body.now (IsMember (part_of c.args.set c.args.good true) old.units) (IsMember (part_of c.args.set c.args.good false) old.units) (apart c.args.set c.args.good old.units)
    old mid c.put_part.ensures.copied c.in-Ok.ensures.ok new
    (subst (λ n. Copied (IsMember (part_of c.args.set c.args.good false) n) c.args.header.now c.args.body.now mid new) c.put_part.ensures.copied.moves.units c.put_part-2.ensures.copied)

pub returns-clause-calls : goal.returns-clause-calls
returns-clause-calls g c =
    let old : Meaning = g.S.Shelf.meaning c.args.shelf.now in
    let mid : Meaning = g.S.Shelf.meaning c.put_part.new.shelf in
    let new : Meaning = g.S.Shelf.meaning c.put_part-2.new.shelf in
    on_ok c.put_part-2.result (MakesCalls (4 * count_below (part_of c.args.set c.args.good false) mid.units) mid new) (MakesCalls (4 * count_below (bit_at c.args.set) old.units) old new)
    (λ last. both_parts c.args.set c.args.good old.units old mid new c.in-Ok.ensures.calls
    (subst (λ n. MakesCalls (4 * count_below (part_of c.args.set c.args.good false) n) mid new) c.put_part.ensures.copied.moves.units last))
    c.put_part-2.ensures.calls

pub returns-clause-up : goal.returns-clause-up
returns-clause-up g c =
    let old : Meaning = g.S.Shelf.meaning c.args.shelf.now in
    let mid : Meaning = g.S.Shelf.meaning c.put_part.new.shelf in
    let new : Meaning = g.S.Shelf.meaning c.put_part-2.new.shelf in
    on_ok c.put_part-2.result (KeepsUp mid new) (KeepsUp old new) (λ last was. last (c.in-Ok.ensures.up was)) c.put_part-2.ensures.up
