-- The clause is its theorem.
use Rattle.vx_events.proofs.LinkTesting.{no_links_seen}
use Rattle.vx_events.proofs.link_laws.sees_no_links.Goals as goal

pub returns : goal.returns
returns c = no_links_seen
