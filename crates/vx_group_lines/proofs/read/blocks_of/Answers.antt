-- Blocks that were read into a place for them.
use Rattle.std.proofs.Common.{◌≡◌, ◌∙◌, ℕ, List, length, ap, sym, subst, arith}
use Rattle.std.proofs.lemmas.Result.{err_from_is_err_and}
use Rattle.vx_grouped.specs.GroupSites.{FitsPlain}
use Rattle.vx_diskset.proofs.ReadGroup.{written_over}
use Rattle.vx_group_lines.proofs.GroupRead.{gave_below, gave_none, gave_plain, none_below}
use Rattle.vx_group_lines.proofs.read.blocks_of.Goals as goal

pub returns-in_err-read_plain-clause-read : goal.returns-in_err-read_plain-clause-read
returns-in_err-read_plain-clause-read g c = λ n note up fits.
    let p = err_from_is_err_and c.from_residual.result c.from_residual.ensures.1 in
    let room : length c.deref_mut.result.now ≡ length c.args.room.items = ap (λ (xs : List ℕ). length xs) c.deref_mut.ensures.value in
    rw (p.1, p.2)
    (gave_none n note c.args.volume c.args.start c.read_plain.new.into c.args.disk_set.now c.read_plain.new.self c.in_err-read_plain.field-0.0
    (c.in_err-read_plain.ensures.read n note up (subst (λ (k : ℕ). FitsPlain note c.args.volume c.args.start k) (sym room) fits)))

pub returns-clause-read : goal.returns-clause-read
returns-clause-read g c = λ n note up fits.
    let room : length c.deref_mut.result.now ≡ length c.args.room.items = ap (λ (xs : List ℕ). length xs) c.deref_mut.ensures.value in
    gave_plain n note c.args.volume c.args.start c.read_plain.new.into c.new.result c.args.disk_set.now c.read_plain.new.self c.in_ok-read_plain.field-0
    (c.new.ensures ∙ written_over c.args.room.len c.read_plain.new.into _ (omega (arith, c.read_plain.auto.into, ap (λ (xs : List ℕ). length xs) c.deref_mut.ensures.value, c.args.room.ok)))
    (c.in_ok-read_plain.ensures.read n note up (subst (λ (k : ℕ). FitsPlain note c.args.volume c.args.start k) (sym room) fits))

pub returns-clause-size : goal.returns-clause-size
returns-clause-size g c =
    ap (λ (xs : List ℕ). length xs)
    (c.new.ensures ∙ written_over c.args.room.len c.read_plain.new.into _ (omega (arith, c.read_plain.auto.into, ap (λ (xs : List ℕ). length xs) c.deref_mut.ensures.value, c.args.room.ok)))
    ∙ omega (arith, c.read_plain.auto.into, ap (λ (xs : List ℕ). length xs) c.deref_mut.ensures.value)

pub returns-in_err-read_plain-clause-maps : goal.returns-in_err-read_plain-clause-maps
returns-in_err-read_plain-clause-maps g c = λ n note up fits.
    let room : length c.deref_mut.result.now ≡ length c.args.room.items = ap (λ (xs : List ℕ). length xs) c.deref_mut.ensures.value in
    c.in_err-read_plain.ensures.maps n note up (subst (λ (k : ℕ). FitsPlain note c.args.volume c.args.start k) (sym room) fits)

pub returns-clause-maps : goal.returns-clause-maps
returns-clause-maps g c = λ n note up fits.
    let room : length c.deref_mut.result.now ≡ length c.args.room.items = ap (λ (xs : List ℕ). length xs) c.deref_mut.ensures.value in
    c.in_ok-read_plain.ensures.maps n note up (subst (λ (k : ℕ). FitsPlain note c.args.volume c.args.start k) (sym room) fits)

pub returns-in_err-read_plain-clause-over : goal.returns-in_err-read_plain-clause-over
returns-in_err-read_plain-clause-over g c =
    let p = err_from_is_err_and c.from_residual.result c.from_residual.ensures.1 in
    let room : length c.deref_mut.result.now ≡ length c.args.room.items = ap (λ (xs : List ℕ). length xs) c.deref_mut.ensures.value in
    rw (p.1, p.2)
    (none_below c.args.volume c.args.start (length c.args.room.items) (length c.deref_mut.result.now) c.read_plain.new.into c.args.disk_set.now c.read_plain.new.self c.in_err-read_plain.field-0.0 room c.in_err-read_plain.ensures.over)

pub returns-clause-over : goal.returns-clause-over
returns-clause-over g c =
    let room : length c.deref_mut.result.now ≡ length c.args.room.items = ap (λ (xs : List ℕ). length xs) c.deref_mut.ensures.value in
    gave_below c.args.volume c.args.start (length c.args.room.items) (length c.deref_mut.result.now) c.read_plain.new.into c.new.result c.args.disk_set.now c.read_plain.new.self c.in_ok-read_plain.field-0
    (c.new.ensures ∙ written_over c.args.room.len c.read_plain.new.into _ (omega (arith, c.read_plain.auto.into, ap (λ (xs : List ℕ). length xs) c.deref_mut.ensures.value, c.args.room.ok))) room
    c.in_ok-read_plain.ensures.over
