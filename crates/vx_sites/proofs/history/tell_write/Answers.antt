-- `tell_write`: its result.
use Rattle.std.proofs.Common.{◌≡◌, ◌+◌, length, refl, arith}
use Rattle.vx_history.specs.World.{History}
use Rattle.vx_history.specs.Steps.{told_of}
use Rattle.vx_sites.proofs.Entries.{line_changed}
use Rattle.vx_sites.proofs.history.tell_write.Goals as goal

pub returns : goal.returns
returns c =
    let told : c.len.result ≡ length c.index_mut.result.now.history.held.items + 1 = omega (arith, c.len.ensures, c.in_ok-push.ensures.len, c.index_mut.result.now.history.held.ok.0) in
    line_changed c.find_line.new.lines.items c.args.lines.now.items c.args.line.now c.in_ok-at.at c.index_mut.result.now
    (record { start = c.index_mut.result.now.history.start; held = c.push.new.self; told = c.len.result })
    (λ (h : History). told_of h c.args.write) c.in_ok-at.ensures.place c.index_mut.ensures.value c.in_ok-at.ensures.same
    (rw (c.in_ok-push.ensures.items, told) refl)
