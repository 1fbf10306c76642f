-- `plex_lines`: its result.
use Rattle.vx_order.proofs.GroupLemmas.{detach_lines_are, attach_lines_are}
use Rattle.vx_order.proofs.group_laws.plex_lines.Goals as goal

pub returns : goal.returns
returns c = record { detach = detach_lines_are; attach = attach_lines_are }
