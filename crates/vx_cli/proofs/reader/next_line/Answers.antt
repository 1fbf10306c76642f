-- `next_line`: clause next.
use Rattle.std.proofs.Common.{◌≡◌, ◌<◌, length, false, List, ℕ, sym, subst, arith}
use Rattle.vx_script.specs.Lines.{HasNoNewline}
use Rattle.vx_cli.specs.Reading.{CutIs}
use Rattle.vx_cli.proofs.ReaderLemmas.{next_cut, next_last, next_long, follows_uncut}
use Rattle.vx_cli.proofs.reader.next_line.Goals as goal

pub returns-then-branch-clause-next : goal.returns-then-branch-clause-next
returns-then-branch-clause-next g c =
    next_cut _ c.loop-held.held.items c.cut.new.line.items c.cut.new.held.items _ _ (rw c.if-branch.true at c.in_ok-cut.ensures.cut) c.loop-held.invariant.before

pub returns-then-not-branch-clause-next : goal.returns-then-not-branch-clause-next
returns-then-not-branch-clause-next g c =
    let cut : CutIs false c.loop-held.held.items c.cut.new.line.items c.cut.new.held.items = rw c.if-branch.false at c.in_ok-cut.ensures.cut in
    let some : 0 < length c.fill.new.held.items = grind arith in
    let same : c.extend_from_slice.new.self.items ≡ c.fill.new.held.items = grind arith in
    let was = rw c.if-not-branch.true at c.in_ok-fill.ensures.fill in
    let before : 0 < length c.cut.new.held.items = subst (λ (xs : List ℕ). 0 < length xs) was.0 some in
    next_last _ c.cut.new.held.items c.extend_from_slice.new.self.items c.fill.new.held.items _ _ _
    (follows_uncut _ _ _ _ _ cut.1 c.loop-held.invariant.before) (subst HasNoNewline (sym cut.1) cut.0) before was same

pub returns-then-branch-2-clause-next : goal.returns-then-branch-2-clause-next
returns-then-branch-2-clause-next g c =
    next_cut _ c.loop-held.held.items c.cut-2.new.line.items c.cut-2.new.held.items _ _ (rw c.if-branch-2.true at c.in_ok-cut-2.ensures.cut) c.loop-held.invariant.before

pub returns-else-branch-2-clause-next : goal.returns-else-branch-2-clause-next
returns-else-branch-2-clause-next g c =
    let cut : CutIs false c.loop-held.held.items c.cut-2.new.line.items c.cut-2.new.held.items = rw c.if-branch-2.false at c.in_ok-cut-2.ensures.cut in
    next_long _ c.loop-held.held.items c.cut-2.new.line.items _ _ c.loop-held.invariant.before cut.0 (omega arith)
