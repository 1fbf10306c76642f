-- `lengthen_rows`: what stays true in its loop over `alloc`.
use Rattle.std.proofs.Common.{◌∙◌, ℕ, List, ap}
use Rattle.vx_history.specs.World.{no_link}
use Rattle.vx_sites.specs.Shapes.{row_of}
use Rattle.vx_sites.specs.declared.link.Row.{Row}
use Rattle.vx_sites.specs.declared.link.Link.{Link as OwnLink}
use Rattle.vx_sites.proofs.Tables.{seen-longer}
use Rattle.vx_sites.proofs.link.lengthen_rows.Goals as goal

pub loop-alloc-preserved : goal.loop-alloc-preserved
loop-alloc-preserved c =
    rw c.in_ok-push.ensures.items
    (seen-longer (λ (r : Row). row_of r.links.items) (λ (s : ℕ). no_link) c.loop-alloc.rows.items (record { links = c.new.result }) (ap (λ (ls : List OwnLink). row_of ls) c.new.ensures.items)
    ∙ c.loop-alloc.invariant)
