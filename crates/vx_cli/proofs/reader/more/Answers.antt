-- `more`: clause more.
use Rattle.std.proofs.Common.{◌≡◌, ◌<◌, [], length, arith}
use Rattle.std.proofs.lemmas.List.{nil_from_length}
use Rattle.vx_cli.proofs.ReaderLemmas.{more_is, more_held}
use Rattle.vx_cli.proofs.reader.more.Goals as goal

pub returns-then-is_empty-clause-more : goal.returns-then-is_empty-clause-more
returns-then-is_empty-clause-more g c =
    let none : c.args.held.now.items ≡ [] = nil_from_length _ (grind arith) in
    more_is c.fill.result c.args.held.now.items c.fill.new.held.items _ _ none c.fill.ensures.fill (λ e. omega (arith, c.fill.ensures.more e))

pub returns-else-is_empty-clause-more : goal.returns-else-is_empty-clause-more
returns-else-is_empty-clause-more g c =
    let some : 0 < length c.args.held.now.items = grind arith in
    more_held c.args.held.now.items _ some
