-- `find_line`: clauses same and place.
use Rattle.std.proofs.Common.{◌≡◌, List, length, refl, subst}
use Rattle.vx_sites.specs.Shapes.{IsNewLine}
use Rattle.vx_sites.specs.declared.history.Entry.{Entry}
use Rattle.vx_sites.proofs.Entries.{lines-push, entry_pushed}
use Rattle.vx_sites.proofs.history.find_line.Goals as goal

pub returns-clause-same : goal.returns-clause-same
returns-clause-same c = rw c.in_ok-push.ensures.items (lines-push c.args.lines.now.items _ c.none.ensures)

pub returns-clause-place : goal.returns-clause-place
returns-clause-place c =
    let long : c.len-at.result ≡ length c.args.lines.now.items = cc in
    let fresh : IsNewLine c.args.lines.now.items c.args.line.now = subst (λ (es : List Entry). IsNewLine es c.args.line.now) c.deref.ensures.value c.in_default.ensures in
    rw (c.in_ok-push.ensures.items, long) (entry_pushed c.args.lines.now.items c.args.line.now _ fresh refl)
