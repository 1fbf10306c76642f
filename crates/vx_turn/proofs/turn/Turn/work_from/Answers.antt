-- `work_from`: clause work; what `back` asks; the invariant of what it hands on.
use Rattle.std.proofs.Common.{◌≡◌, ap, sym, refl, ◌∙◌, subst, false, true, ◌∷◌, []}
use Rattle.vx_turn.specs.Turning.{IsOneSeat, longer_by}
use Rattle.vx_turn.specs.Resting.{only}
use Rattle.vx_turn.specs.Passing.{first_engine}
use Rattle.vx_turn.specs.declared.ask.Ask.TheVariants.{Charged}
use Rattle.vx_turn.specs.declared.ask.Said.TheVariants.{Worked}
use Rattle.vx_turn.proofs.Holding.{ready}
use Rattle.vx_turn.proofs.Passing.{rests, call_done, after_ask}
use Rattle.vx_turn.proofs.turn.Turn.work_from.Goals as goal

pub back-requires-clause-ready : goal.back-requires-clause-ready
back-requires-clause-ready g c κs within = let is : only c.args.pass.now.badge.views ≡ c.into_seat-seat.result.me.0 = ap only (ap (λ b. b.views) (sym c.replace-badge.ensures.value) ∙ c.into_seat-seat.ensures.2) in
    ready g.E.Engine.state g.E.Engine.root (first_engine c.args.self.now) c.into_seat-seat.result.me.0 c.out-place.result.0 c.out-place.result.1 c.out-place.new.seat.me (record { engine = c.job-reply.new.self; before = c.of-before.result; last = Rattle.vx_turn.specs.declared.slot.Last.TheVariants.Charged c.of.result c.of-2.result c.of-3.result }) (Charged c.args.job.now) (Worked c.job-reply.result c.job-reply.new.into)
    c.out-place.ensures.out (subst IsOneSeat is c.args.pass.now.at_rest.3) c.job-reply.ensures.acts c.job-reply.ensures.root c.of-before.ensures (ap Charged c.of.ensures) (λ i. Worked (c.of-2.ensures i) (c.of-3.ensures i))

pub invariant_of-pass : goal.invariant_of-pass
invariant_of-pass g c = let is : only c.args.pass.now.badge.views ≡ c.into_seat-seat.result.me.0 = ap only (ap (λ b. b.views) (sym c.replace-badge.ensures.value) ∙ c.into_seat-seat.ensures.2) in
    let old = subst (λ v. (v.holds ≡ false) × (v.low ≡ c.args.pass.now.number) × IsOneSeat v × (v.live ≡ true)) is (c.args.pass.now.at_rest.1, c.args.pass.now.at_rest.2, c.args.pass.now.at_rest.3, c.args.pass.now.at_rest.4) in
    let o = c.out-place.ensures.out in let v = c.into_seat-seat.result.me.0 in
    let views = c.into_badge.ensures.2 ∙ (ap (λ m. m.0 ∷ []) c.back.ensures.back ∙ ap (λ m. longer_by g.E.Engine.state m.0 c.out-place.result.0 (record { engine = c.job-reply.new.self; before = c.of-before.result; last = Rattle.vx_turn.specs.declared.slot.Last.TheVariants.Charged c.of.result c.of-2.result c.of-3.result }) ∷ []) o.seat) in
    record { at_rest = rests c.into_badge.result.views (after_ask g.E.Engine.state g.E.Engine.root (first_engine c.args.self.now) v o.log c.out-place.result.0 (record { engine = c.job-reply.new.self; before = c.of-before.result; last = Rattle.vx_turn.specs.declared.slot.Last.TheVariants.Charged c.of.result c.of-2.result c.of-3.result })) c.args.pass.now.number views refl old.1 old.2 old.3 }

pub returns-clause-work : goal.returns-clause-work
returns-clause-work g c = let is : only c.args.pass.now.badge.views ≡ c.into_seat-seat.result.me.0 = ap only (ap (λ b. b.views) (sym c.replace-badge.ensures.value) ∙ c.into_seat-seat.ensures.2) in
    let old = subst (λ v. (v.holds ≡ false) × (v.low ≡ c.args.pass.now.number) × IsOneSeat v × (v.live ≡ true)) is (c.args.pass.now.at_rest.1, c.args.pass.now.at_rest.2, c.args.pass.now.at_rest.3, c.args.pass.now.at_rest.4) in
    let o = c.out-place.ensures.out in let v = c.into_seat-seat.result.me.0 in
    let views = c.into_badge.ensures.2 ∙ (ap (λ m. m.0 ∷ []) c.back.ensures.back ∙ ap (λ m. longer_by g.E.Engine.state m.0 c.out-place.result.0 (record { engine = c.job-reply.new.self; before = c.of-before.result; last = Rattle.vx_turn.specs.declared.slot.Last.TheVariants.Charged c.of.result c.of-2.result c.of-3.result }) ∷ []) o.seat) in (
      c.out-place.result.0,
      call_done g.E.Engine.state g.E.Engine.root (first_engine c.args.self.now) c.args.pass.now _ v c.out-place.result.0 c.out-place.result.1 c.out-place.new.seat.me (record { engine = c.job-reply.new.self; before = c.of-before.result; last = Rattle.vx_turn.specs.declared.slot.Last.TheVariants.Charged c.of.result c.of-2.result c.of-3.result })
          (Charged c.args.job.now) (Worked c.job-reply.result c.job-reply.new.into) o is old.1 old.2 c.job-reply.ensures.acts c.of-before.ensures (ap Charged c.of.ensures) (λ i. Worked (c.of-2.ensures i) (c.of-3.ensures i)) (ap only views),
    )
