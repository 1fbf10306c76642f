-- `read_body`: clause found.
use Rattle.std.proofs.Common.{sym, subst}
use Rattle.vx_config.specs.Configs.{Stops}
use Rattle.vx_copies.proofs.Bodies.{read_whole, read_unwanted, read_longer, read_refused}
use Rattle.vx_copies.proofs.body.read_body.Goals.{else-length-body-via-then-length-body+else-is_wanted, else-length-body-via-else-length-body}
use Rattle.vx_copies.proofs.body.read_body.Goals as goal

pub returns-then-is_wanted-clause-found : goal.returns-then-is_wanted-clause-found
returns-then-is_wanted-clause-found g c = read_whole _ _ c.args.body.now c.in-Ok.config c.in-Ok.length c.in-Ok.ensures.found c.if-length-body.true (sym c.if-is_wanted.ensures.wanted)

pub returns-else-length-body-clause-found : goal.returns-else-length-body-clause-found
returns-else-length-body-clause-found g c = elim c.else-length-body.branch [
  | else-length-body-via-then-length-body+else-is_wanted w ↦ read_unwanted _ _ c.args.body.now c.in-Ok.config c.in-Ok.length c.in-Ok.ensures.found w.if-length-body.true (sym w.if-is_wanted.ensures.wanted)
  | else-length-body-via-else-length-body w ↦ read_longer _ _ c.args.body.now c.in-Ok.config c.in-Ok.length c.in-Ok.ensures.found c.in-Ok.ensures.len w.if-length-body.false
]

pub returns-in-Err-BadConfig-clause-found : goal.returns-in-Err-BadConfig-clause-found
returns-in-Err-BadConfig-clause-found g c = read_refused _ _ c.args.body.now c.in-Err-BadConfig.field-0-0 (subst (Stops c.args.body.now) c.in-Err-BadConfig.field-0-is c.in-Err-BadConfig.ensures.stop)
