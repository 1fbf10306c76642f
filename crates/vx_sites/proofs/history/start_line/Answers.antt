-- `start_line`: its result.
use Rattle.std.proofs.Common.{refl}
use Rattle.vx_history.specs.World.{History}
use Rattle.vx_sites.specs.Shapes.{content_of}
use Rattle.vx_sites.proofs.Entries.{line_changed}
use Rattle.vx_sites.proofs.history.start_line.Goals as goal

pub returns : goal.returns
returns c =
    line_changed c.find_line.new.lines.items c.args.lines.now.items c.args.line.now c.in_ok-at.at c.index_mut.result.now
    (record { start = c.args.start; held = c.index_mut.result.now.history.held; told = c.index_mut.result.now.history.told })
    (λ (h : History). record h { start = content_of c.args.start }) c.in_ok-at.ensures.place c.index_mut.ensures.value c.in_ok-at.ensures.same
    refl
