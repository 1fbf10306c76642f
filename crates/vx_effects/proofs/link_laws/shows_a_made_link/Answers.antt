-- Each clause is part of its theorem.
use Rattle.vx_effects.proofs.LinkRows.{further_is, joined_is, marked_shows}
use Rattle.vx_effects.proofs.link_laws.shows_a_made_link.Goals as goal

pub returns : goal.returns
returns c = record { joined = joined_is; further = further_is; marked = marked_shows }
