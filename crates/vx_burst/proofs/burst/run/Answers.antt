-- `run`: what `work_all` asks.
use Rattle.std.proofs.Common.{rules, ◌≡◌, ◌+◌, sym, ap, subst, length, ℕ}
use Rattle.vx_turn.specs.Passing.{table_of, first_engine, AreDealt}
use Rattle.vx_burst.proofs.burst.run.Goals as goal

pub work_all-requires-clause-dealt : goal.work_all-requires-clause-dealt
work_all-requires-clause-dealt g c κs within =
    let e : c.len-2.result ≡ length c.args.peers.items = search rules in
    let same : (first_engine c.in-Ok.made.0).inner ≡ c.args.engine = ap (λ x. x.inner) c.in-Ok.ensures.first in
    subst (λ (x : ℕ × g.row.E.Denot). AreDealt (table_of c.in-Ok.made.0) (g.E.Engine.state x.1) (c.args.threads + x.0 + 1) (c.args.threads + x.0 + 1) c.in-Ok.made.1)
    (λ i. (e i, sym same i)) c.in-Ok.ensures.ok
