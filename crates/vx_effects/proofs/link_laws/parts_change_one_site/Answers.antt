-- Each clause is part of its theorem.
use Rattle.vx_effects.proofs.LinkParts.{joins_effect, made_effect, marked_effect, opened_effect}
use Rattle.vx_effects.proofs.link_laws.parts_change_one_site.Goals as goal

pub returns : goal.returns
returns c = record { joins = joins_effect; made = made_effect; marked = marked_effect; opened = opened_effect }
