-- `close_from`: its result.
use Rattle.std.proofs.Common.{ap, sym, refl, subst}
use Rattle.vx_turn.specs.Turning.{Out}
use Rattle.vx_turn.specs.Resting.{only}
use Rattle.vx_turn.specs.Passing.{first_engine}
use Rattle.vx_turn.proofs.Holding.{covered}
use Rattle.vx_turn.proofs.turn.Turn.close_from.Goals as goal

pub returns : goal.returns
returns g c = let st = g.E.Engine.state in let rt = g.E.Engine.root in let first = first_engine c.args.self in
    let is = ap only c.into_seat-seat.ensures.2 in
    let o = subst (λ v. Out st rt first v c.out-engine.result.0 c.out-engine.result.1 c.out-engine.new.seat.me) (sym is) c.out-engine.ensures.out in record {
      log = o.log;
      begins = o.tells.begins;
      legal = o.legal;
      fits = o.fits;
      own = λ by ps i. (o.tells.own by ps i).0;
      named = o.named;
      whole = λ all. covered _ _ o.log (only c.args.pass.badge.views) refl o.tells.begins o.tells o.named all;
      rooted = o.rooted;
    }
