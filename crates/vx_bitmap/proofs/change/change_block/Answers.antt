-- The change of a run within one block, case by case.
use Rattle.std.proofs.Common.{◌≡◌, ◌∙◌, ◌+◌, ◌-◌, ◌*◌, ◌≤◌, ℕ, List, length, sym, ap, subst, refl, arith}
use Rattle.std.proofs.lemmas.Result.{err_from_is_err_and}
use Rattle.vx_model.specs.Content.{block_of}
use Rattle.vx_model.proofs.Contents.{cut}
use Rattle.vx_disk.proofs.Naming.{names_done, names_exit}
use Rattle.vx_disk.proofs.Spending.{spends_none}
use Rattle.vx_bitmap.specs.Bits.{Changed, is_marked}
use Rattle.vx_bitmap.specs.Maps.{Map}
use Rattle.vx_bitmap.proofs.Blocks.{all_in_block, block_moves, block_stands, block_writes, bytes_changed, equal_bytes, put_other, put_same, put_size, unequal_bytes}
use Rattle.vx_bitmap.proofs.change.change_block.Goals as goal

pub returns-then-eq-clause-changed : goal.returns-then-eq-clause-changed
returns-then-eq-clause-changed g c =
    let map : Map = record { unit = c.args.unit; first = c.args.first; bytes = c.args.bytes.now } in
    let was : c.copy_from_slice.new.self ≡ block_of c.args.bytes.now c.args.block = cut c.args.block c.args.bytes.now c.copy_from_slice.new.self c.copy_from_slice.ensures.after in
    bytes_changed map c.args.block c.args.start c.args.end c.args.value c.mark_run.new.block c.requires.from c.requires.some c.requires.to
    (subst (λ (b : List ℕ). Changed (c.args.start - 4096 * c.args.block) (c.args.end - 4096 * c.args.block) c.args.value 4096 (is_marked b) (is_marked c.mark_run.new.block)) was c.mark_run.ensures.changed)
    c.args.bytes.now (8 * length c.args.bytes.now) (sym (cut c.args.block c.args.bytes.now c.mark_run.new.block (equal_bytes c.eq.result _ _ c.eq.ensures c.if-eq.true)))
    (λ k other. refl)

pub returns-in_err-put-clause-moves : goal.returns-in_err-put-clause-moves
returns-in_err-put-clause-moves g c =
    let map : Map = record { unit = c.args.unit; first = c.args.first; bytes = c.args.bytes.now } in
    let was : c.copy_from_slice.new.self ≡ block_of c.args.bytes.now c.args.block = cut c.args.block c.args.bytes.now c.copy_from_slice.new.self c.copy_from_slice.ensures.after in
    block_moves map c.args.block c.args.start c.args.end c.args.value c.mark_run.new.block c.requires.from c.requires.some c.requires.to
    (subst (λ (b : List ℕ). Changed (c.args.start - 4096 * c.args.block) (c.args.end - 4096 * c.args.block) c.args.value 4096 (is_marked b) (is_marked c.mark_run.new.block)) was c.mark_run.ensures.changed)
    (g.S.Shelf.meaning c.args.shelf.now) (g.S.Shelf.meaning c.put.new.shelf) c.requires.whole c.mark_run.array_long c.requires.inside c.put.ensures.goes

pub returns-in_err-put-clause-nothing : goal.returns-in_err-put-clause-nothing
returns-in_err-put-clause-nothing g c = λ all.
    let was : c.copy_from_slice.new.self ≡ block_of c.args.bytes.now c.args.block = cut c.args.block c.args.bytes.now c.copy_from_slice.new.self c.copy_from_slice.ensures.after in
    absurd (unequal_bytes c.eq.result _ _ c.eq.ensures c.if-eq.false
    (c.mark_run.ensures.still (all_in_block c.args.bytes.now c.copy_from_slice.new.self c.args.block c.args.start c.args.end c.args.value c.requires.from c.requires.some c.requires.to was all) ∙ c.copy_from_slice.ensures.after))

pub returns-clause-moves : goal.returns-clause-moves
returns-clause-moves g c =
    let map : Map = record { unit = c.args.unit; first = c.args.first; bytes = c.args.bytes.now } in
    let was : c.copy_from_slice.new.self ≡ block_of c.args.bytes.now c.args.block = cut c.args.block c.args.bytes.now c.copy_from_slice.new.self c.copy_from_slice.ensures.after in
    block_moves map c.args.block c.args.start c.args.end c.args.value c.mark_run.new.block c.requires.from c.requires.some c.requires.to
    (subst (λ (b : List ℕ). Changed (c.args.start - 4096 * c.args.block) (c.args.end - 4096 * c.args.block) c.args.value 4096 (is_marked b) (is_marked c.mark_run.new.block)) was c.mark_run.ensures.changed)
    (g.S.Shelf.meaning c.args.shelf.now) (g.S.Shelf.meaning c.put.new.shelf) c.requires.whole c.mark_run.array_long c.requires.inside c.put.ensures.goes

pub returns-clause-stands : goal.returns-clause-stands
returns-clause-stands g c = λ on.
    let map : Map = record { unit = c.args.unit; first = c.args.first; bytes = c.args.bytes.now } in
    let was : c.copy_from_slice.new.self ≡ block_of c.args.bytes.now c.args.block = cut c.args.block c.args.bytes.now c.copy_from_slice.new.self c.copy_from_slice.ensures.after in
    let w : ℕ = 512 * c.args.block + 512 - 512 * c.args.block in
    let fits : 512 * c.args.block + 512 ≤ length c.args.bytes.now = omega (arith, c.requires.inside) in
    let fresh : c.copy_from_slice-2.new.self ≡ c.mark_run.new.block = c.copy_from_slice-2.ensures.after in
    let long : length c.copy_from_slice-2.new.self ≡ 512 = ap (λ (b : List ℕ). length b) fresh ∙ c.mark_run.array_long in
    block_stands map c.args.block c.args.start c.args.end c.args.value c.mark_run.new.block c.requires.from c.requires.some c.requires.to
    (subst (λ (b : List ℕ). Changed (c.args.start - 4096 * c.args.block) (c.args.end - 4096 * c.args.block) c.args.value 4096 (is_marked b) (is_marked c.mark_run.new.block)) was c.mark_run.ensures.changed)
    (g.S.Shelf.meaning c.args.shelf.now) (g.S.Shelf.meaning c.put.new.shelf) _ c.mark_run.array_long c.put.ensures.goes c.in_ok-put.ensures.kept
    (put_size c.args.block w c.args.bytes.now c.copy_from_slice-2.new.self (omega arith) long fits)
    (put_same c.args.block w c.args.bytes.now c.copy_from_slice-2.new.self (omega arith) long fits ∙ fresh)
    (λ k other. put_other c.args.block w c.args.bytes.now c.copy_from_slice-2.new.self (omega arith) long fits k other) on

pub returns-clause-changed : goal.returns-clause-changed
returns-clause-changed g c =
    let map : Map = record { unit = c.args.unit; first = c.args.first; bytes = c.args.bytes.now } in
    let was : c.copy_from_slice.new.self ≡ block_of c.args.bytes.now c.args.block = cut c.args.block c.args.bytes.now c.copy_from_slice.new.self c.copy_from_slice.ensures.after in
    let w : ℕ = 512 * c.args.block + 512 - 512 * c.args.block in
    let fits : 512 * c.args.block + 512 ≤ length c.args.bytes.now = omega (arith, c.requires.inside) in
    let fresh : c.copy_from_slice-2.new.self ≡ c.mark_run.new.block = c.copy_from_slice-2.ensures.after in
    let long : length c.copy_from_slice-2.new.self ≡ 512 = ap (λ (b : List ℕ). length b) fresh ∙ c.mark_run.array_long in
    bytes_changed map c.args.block c.args.start c.args.end c.args.value c.mark_run.new.block c.requires.from c.requires.some c.requires.to
    (subst (λ (b : List ℕ). Changed (c.args.start - 4096 * c.args.block) (c.args.end - 4096 * c.args.block) c.args.value 4096 (is_marked b) (is_marked c.mark_run.new.block)) was c.mark_run.ensures.changed)
    _ (8 * length c.args.bytes.now)
    (put_same c.args.block w c.args.bytes.now c.copy_from_slice-2.new.self (omega arith) long fits ∙ fresh)
    (λ k other. put_other c.args.block w c.args.bytes.now c.copy_from_slice-2.new.self (omega arith) long fits k other)

pub returns-clause-nothing : goal.returns-clause-nothing
returns-clause-nothing g c = λ all.
    let was : c.copy_from_slice.new.self ≡ block_of c.args.bytes.now c.args.block = cut c.args.block c.args.bytes.now c.copy_from_slice.new.self c.copy_from_slice.ensures.after in
    absurd (unequal_bytes c.eq.result _ _ c.eq.ensures c.if-eq.false
    (c.mark_run.ensures.still (all_in_block c.args.bytes.now c.copy_from_slice.new.self c.args.block c.args.start c.args.end c.args.value c.requires.from c.requires.some c.requires.to was all) ∙ c.copy_from_slice.ensures.after))

pub returns-in_err-put-clause-writes : goal.returns-in_err-put-clause-writes
returns-in_err-put-clause-writes g c =
    let map : Map = record { unit = c.args.unit; first = c.args.first; bytes = c.args.bytes.now } in
    let was : c.copy_from_slice.new.self ≡ block_of c.args.bytes.now c.args.block = cut c.args.block c.args.bytes.now c.copy_from_slice.new.self c.copy_from_slice.ensures.after in
    block_writes map c.args.block c.args.start c.args.end c.args.value c.mark_run.new.block c.requires.from c.requires.some c.requires.to
    (subst (λ (b : List ℕ). Changed (c.args.start - 4096 * c.args.block) (c.args.end - 4096 * c.args.block) c.args.value 4096 (is_marked b) (is_marked c.mark_run.new.block)) was c.mark_run.ensures.changed)
    (g.S.Shelf.meaning c.args.shelf.now) (g.S.Shelf.meaning c.put.new.shelf) c.mark_run.array_long c.requires.inside c.put.ensures.goes

pub returns-clause-writes : goal.returns-clause-writes
returns-clause-writes g c =
    let map : Map = record { unit = c.args.unit; first = c.args.first; bytes = c.args.bytes.now } in
    let was : c.copy_from_slice.new.self ≡ block_of c.args.bytes.now c.args.block = cut c.args.block c.args.bytes.now c.copy_from_slice.new.self c.copy_from_slice.ensures.after in
    block_writes map c.args.block c.args.start c.args.end c.args.value c.mark_run.new.block c.requires.from c.requires.some c.requires.to
    (subst (λ (b : List ℕ). Changed (c.args.start - 4096 * c.args.block) (c.args.end - 4096 * c.args.block) c.args.value 4096 (is_marked b) (is_marked c.mark_run.new.block)) was c.mark_run.ensures.changed)
    (g.S.Shelf.meaning c.args.shelf.now) (g.S.Shelf.meaning c.put.new.shelf) c.mark_run.array_long c.requires.inside c.put.ensures.goes

pub returns-then-eq-clause-spends : goal.returns-then-eq-clause-spends
returns-then-eq-clause-spends g c = spends_none (g.S.Shelf.meaning c.args.shelf.now)

pub returns-then-eq-clause-names : goal.returns-then-eq-clause-names
returns-then-eq-clause-names g c = names_done (Unit {0}) _ (g.S.Shelf.meaning c.args.shelf.now).disks c.args.unit

pub returns-in_err-put-clause-names : goal.returns-in_err-put-clause-names
returns-in_err-put-clause-names g c =
    let p = err_from_is_err_and c.from_residual.result c.from_residual.ensures.1 in
    names_exit (Unit {0}) (Unit {0}) _ _ _ _ _ c.from_residual.result p.0 _ p.1 p.2 refl (spends_none (g.S.Shelf.meaning c.args.shelf.now)).told c.in_err-put.ensures.names

pub returns-clause-names : goal.returns-clause-names
returns-clause-names g c = names_done (Unit {0}) _ (g.S.Shelf.meaning c.args.shelf.now).disks c.args.unit
