-- Each clause is its theorem.
use Rattle.vx_events.proofs.LinkWrites.{write_let_in, put_let_in}
use Rattle.vx_events.proofs.link_laws.links_let_in.Goals as goal

pub returns : goal.returns
returns c = record { write = write_let_in; put = put_let_in }
