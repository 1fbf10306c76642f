-- `settle_logs`: its result; what the calls ask.
use Rattle.std.proofs.Common.{◌∙◌, Bool, refl, sym, arith}
use Rattle.std.proofs.lemmas.Bool.{not-false}
use Rattle.std.specs.Prelude.{not}
use Rattle.vx_loggroup.proofs.AlikeLemmas.{stop_stands}
use Rattle.vx_loggroup.proofs.OpenLemmas.{begins_later}
use Rattle.vx_loggroup.proofs.SettleLemmas.{settle_then, stop_by, settle_marks}
use Rattle.vx_group.proofs.CallLemmas.{not_down}
use Rattle.vx_loggroup.proofs.UnsureGroups.{unsure_stands, with_unsure}
use Rattle.vx_group.proofs.HoldLemmas.{wide_shape}
use Rattle.vx_loggroup.proofs.opening.settle_logs.Goals as goal

pub lose_all-requires : goal.lose_all-requires
lose_all-requires g c = record { stands = stop_stands c.clear_all.new.core c.clear_all.new.logs.items c.args.alike (not c.in-Ok.done) (g.S.Shelf.meaning c.clear_all.new.shelf) c.clear_all.ensures.stands }

pub returns-in-Err : goal.returns-in-Err
returns-in-Err g c = record {
  core = c.clear_all.new.core;
  logs = c.clear_all.new.logs.items;
  flags = c.args.alike;
  ended = _;
  settles = c.clear_all.ensures.settles;
  stands = c.clear_all.ensures.stands;
  agreed = c.in-Err.ensures.agreed;
  cause = stop_by Bool (g.S.Shelf.meaning c.args.shelf.now) (g.S.Shelf.meaning c.args.shelf.now) (g.S.Shelf.meaning c.clear_all.new.shelf) c.in-Err.error c.refusal.result (λ d. omega arith) c.refusal.ensures c.in-Err.ensures.cause;
}

pub returns-in-Err-lose_all : goal.returns-in-Err-lose_all
returns-in-Err-lose_all g c = record {
  core = c.lose_all.new.core;
  logs = c.clear_all.new.logs.items;
  flags = c.args.alike;
  ended = not c.in-Ok.done;
  settles = settle_then c.args.core c.clear_all.new.core c.lose_all.new.core (g.S.Shelf.meaning c.args.shelf.now) (g.S.Shelf.meaning c.clear_all.new.shelf) (g.S.Shelf.meaning c.lose_all.new.shelf) c.clear_all.ensures.settles c.lose_all.ensures.settles;
  stands = c.lose_all.ensures.stands;
  agreed = λ is. c.in-Err-lose_all.ensures.agreed (c.in-Ok.ensures.trust is);
  cause = stop_by (Unit {0}) (g.S.Shelf.meaning c.args.shelf.now) (g.S.Shelf.meaning c.clear_all.new.shelf) (g.S.Shelf.meaning c.lose_all.new.shelf) c.in-Err-lose_all.error c.refusal-in-Err-lose_all.result c.clear_all.ensures.settles.goes.disk_faults c.refusal-in-Err-lose_all.ensures c.in-Err-lose_all.ensures.cause;
}

pub returns-then-is_down : goal.returns-then-is_down
returns-then-is_down g c = record {
  core = c.lose_all.new.core;
  logs = c.clear_all.new.logs.items;
  flags = c.args.alike;
  ended = not c.in-Ok.done;
  settles = settle_then c.args.core c.clear_all.new.core c.lose_all.new.core (g.S.Shelf.meaning c.args.shelf.now) (g.S.Shelf.meaning c.clear_all.new.shelf) (g.S.Shelf.meaning c.lose_all.new.shelf) c.clear_all.ensures.settles c.lose_all.ensures.settles;
  stands = c.lose_all.ensures.stands;
  agreed = λ is. c.lose_all.ensures.stands.group.stands.trusts.both (c.in-Ok-lose_all.ensures.trust (c.in-Ok.ensures.trust is));
  cause = sym c.is_down.ensures ∙ c.if-is_down.true;
}

pub returns : goal.returns
returns g c = record {
  settles = settle_then c.args.core c.lose_all.new.core (with_unsure c.doubt_all.new.unsure c.lose_all.new.core) (g.S.Shelf.meaning c.args.shelf.now) (g.S.Shelf.meaning c.lose_all.new.shelf) (g.S.Shelf.meaning c.lose_all.new.shelf)
      (settle_then c.args.core c.clear_all.new.core c.lose_all.new.core (g.S.Shelf.meaning c.args.shelf.now) (g.S.Shelf.meaning c.clear_all.new.shelf) (g.S.Shelf.meaning c.lose_all.new.shelf) c.clear_all.ensures.settles c.lose_all.ensures.settles)
      (settle_marks c.lose_all.new.core c.doubt_all.new.unsure (g.S.Shelf.meaning c.lose_all.new.shelf) c.doubt_all.ensures.more);
  trust = λ is. c.in-Ok-lose_all.ensures.trust (c.in-Ok.ensures.trust is);
  same = refl;
  shrink = c.clear_all.ensures.shrink;
  up = not_down c.is_down.result (g.S.Shelf.meaning c.lose_all.new.shelf).down c.is_down.ensures c.if-is_down.false;
  off = λ going. c.in-Ok.ensures.off (not-false c.in-Ok.done going);
  stands = unsure_stands c.lose_all.new.core c.doubt_all.new.unsure c.clear_all.new.logs.items c.args.alike (not c.in-Ok.done) (g.S.Shelf.meaning c.lose_all.new.shelf) c.lose_all.ensures.stands;
  begins = begins_later c.args.core (with_unsure c.doubt_all.new.unsure c.lose_all.new.core) c.args.alike c.args.logs.items (g.S.Shelf.meaning c.args.shelf.now) (g.S.Shelf.meaning c.lose_all.new.shelf) c.requires.stands c.requires.same
      (settle_then c.args.core c.lose_all.new.core (with_unsure c.doubt_all.new.unsure c.lose_all.new.core) (g.S.Shelf.meaning c.args.shelf.now) (g.S.Shelf.meaning c.lose_all.new.shelf) (g.S.Shelf.meaning c.lose_all.new.shelf)
      (settle_then c.args.core c.clear_all.new.core c.lose_all.new.core (g.S.Shelf.meaning c.args.shelf.now) (g.S.Shelf.meaning c.clear_all.new.shelf) (g.S.Shelf.meaning c.lose_all.new.shelf) c.clear_all.ensures.settles c.lose_all.ensures.settles)
      (settle_marks c.lose_all.new.core c.doubt_all.new.unsure (g.S.Shelf.meaning c.lose_all.new.shelf) c.doubt_all.ensures.more)).goes;
  sure = record {
    each = λ v lt off. c.doubt_all.ensures.sure v (let few = c.lose_all.ensures.stands.group.stands.few in let same = (wide_shape c.lose_all.new.core).volumes in omega (arith, lt, few, same)) off;
  };
}
