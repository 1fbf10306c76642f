-- `change`: its result.
use Rattle.std.proofs.Common.{◌∙◌, ap}
use Rattle.vx_model.specs.declared.link.Mode.{Mode}
use Rattle.vx_history.specs.Admission.{changed_mode}
use Rattle.vx_history.specs.World.{Link}
use Rattle.vx_history.specs.declared.admission.Change.{Change}
use Rattle.vx_sites.specs.Shapes.{link_of}
use Rattle.vx_sites.proofs.row.change.Goals as goal

pub returns : goal.returns
returns c = λ k.
    let l : Link = link_of c.args.link.now in
    ap (λ (m : Mode). let x : Link = record l { mode = m } in x) (c.mode_after-mode.ensures ∙ ap (λ (h : Change). changed_mode h l.mode) (c.change_of-change.ensures k))
