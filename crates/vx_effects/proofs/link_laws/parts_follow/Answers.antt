-- Each clause is part of its theorem.
use Rattle.vx_effects.proofs.LinkParts.{made_follows, marked_follows, opened_follows}
use Rattle.vx_effects.proofs.link_laws.parts_follow.Goals as goal

pub returns : goal.returns
returns c = record { made = made_follows; marked = marked_follows; opened = opened_follows }
