-- Each clause is part of its theorem.
use Rattle.vx_effects.proofs.LinkRows.{changed_kept, further_kept}
use Rattle.vx_effects.proofs.link_laws.headers_keep_a_link.Goals as goal

pub returns : goal.returns
returns c = record { changed = changed_kept; further = further_kept }
