-- `deal`: what `split_seat-dealt` asks; what stays true in its loop over `number`.
use Rattle.std.proofs.Common.{rules, ◌≡◌, ap, sym, ◌∙◌, ◌<◌, subst, arith, suc, ◌+◌, ◌-◌, length, length-append, refl}
use Rattle.vx_turn.specs.Turning.{lower}
use Rattle.vx_turn.specs.Passing.{PassesLeft}
use Rattle.vx_turn.proofs.Keeps.{deals}
use Rattle.vx_turn.proofs.Dealing.{one_more, dealt, ok_of}
use Rattle.vx_turn.proofs.turn.Turn.deal.Goals as goal

pub split_seat-dealt-requires : goal.split_seat-dealt-requires
split_seat-dealt-requires g c = (search rules, search rules, deals g.E.Engine.state g.E.Engine.root c.args.self.now.table.shared.key.engine.value _ _ (subst (λ m. m.0.low < m.0.high) (sym c.loop-number.invariant.root) c.loop-number-test.true))

pub loop-number-preserved : goal.loop-number-preserved
loop-number-preserved g c =
    let inv = c.loop-number.invariant in let cut = c.split_seat-dealt.ensures in let z = c.args.self.now.table.shared.table_id in let start = c.args.seat.me.0.start in let n = c.loop-number.number in
    let ok = ok_of c.push.result (sym c.is_err.ensures.value ∙ c.if-is_err.false) in let e = rw ok at c.push.ensures.items in
    let at : length c.loop-number.left.items + suc (n - 1) ≡ c.args.callers = omega (arith, inv.count, c.loop-number-test.true) in
    let long : length c.push.new.self.items ≡ length c.loop-number.left.items + 1 = ap length e ∙ length-append c.loop-number.left.items _ in record {
      count = omega (arith, long, inv.count, c.loop-number-test.true);
      room = search rules;
      left = subst (λ l. PassesLeft z start c.args.callers l) (sym e) (one_more z start c.args.callers c.loop-number.left.items (n - 1) _ at
          (dealt z start c.args.callers (n - 1) n c.loop-number.seat.me.0 c.split_seat-dealt.result.me.0 _ (ap (λ m. m.0) inv.root) refl (c.into_badge.ensures.0 ∙ (cut.3 ∙ inv.table)) (ap (λ m. m.0) cut.4) c.into_badge.ensures.2) inv.left);
      table = cut.0 ∙ inv.table;
      root = cut.2 ∙ ap (λ m. (lower m.0, m.1)) inv.root;
    }
