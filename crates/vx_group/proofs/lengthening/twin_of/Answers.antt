-- `twin_of`: its result.
use Rattle.std.proofs.Common.{[], sym, ◌∙◌}
use Rattle.std.proofs.lemmas.List.{append-nil}
use Rattle.vx_config.specs.Configs.{spelled_config}
use Rattle.vx_group.proofs.lengthening.twin_of.Goals as goal

pub returns-in-Ok-decode : goal.returns-in-Ok-decode
returns-in-Ok-decode c =
    let spelling = c.in-Ok.ensures.spelling in
    (c.in-Ok-decode.ensures.only c.args.config.now [] spelling.has (c.as_slice.ensures ∙ spelling.is ∙ sym (append-nil (spelled_config c.args.config.now)))).0
