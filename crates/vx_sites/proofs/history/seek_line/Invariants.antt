-- The loop of `seek_line` over `at`: what stays true.
use Rattle.std.proofs.Common.{◌≡◌, ℕ, ◌<◌, get_or, false}
use Rattle.vx_model.specs.Sites.{same_line}
use Rattle.vx_sites.specs.declared.history.Entry.{Entry}
use Rattle.vx_sites.proofs.history.seek_line.Given as goal

abbrev pub invariant-loop-at : goal.invariant-loop-at
invariant-loop-at l = (k : ℕ) (d : Entry) → k < l.at → same_line l.line (get_or l.lines k d).line ≡ false
