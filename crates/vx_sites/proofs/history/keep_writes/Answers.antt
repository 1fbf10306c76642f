-- `keep_writes`: its result.
use Rattle.std.proofs.Common.{refl}
use Rattle.vx_history.specs.World.{History}
use Rattle.vx_sites.proofs.Entries.{line_changed}
use Rattle.vx_sites.proofs.history.keep_writes.Goals as goal

pub returns : goal.returns
returns c =
    line_changed c.find_line.new.lines.items c.args.lines.now.items c.args.line.now c.in_ok-at.at c.index_mut.result.now
    (record { start = c.index_mut.result.now.history.start; held = c.in_ok-lines.field-0; told = c.index_mut.result.now.history.told })
    (λ (h : History). record h { held = c.args.writes.now }) c.in_ok-at.ensures.place c.index_mut.ensures.value c.in_ok-at.ensures.same
    (rw c.in_ok-lines.ensures.items refl)
