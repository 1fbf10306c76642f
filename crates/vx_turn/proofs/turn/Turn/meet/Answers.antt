-- `meet`: clause met; what `join_seat` and `load` ask; the invariant of what it hands on.
use Rattle.std.proofs.Common.{rules, ◌≡◌, ap, sym, ◌∙◌, subst, false, true, ◌∷◌, []}
use Rattle.vx_turn.specs.Turning.{IsOneSeat, joined_views}
use Rattle.vx_turn.specs.Resting.{only}
use Rattle.vx_turn.specs.Passing.{first_engine}
use Rattle.vx_turn.proofs.Keeps.{meets, looks}
use Rattle.vx_turn.proofs.Passing.{rests, meet_done}
use Rattle.vx_turn.proofs.turn.Turn.meet.Goals as goal

pub join_seat-requires : goal.join_seat-requires
join_seat-requires g c = let is : only c.args.pass.now.badge.views ≡ c.into_seat-seat.result.me.0 = ap only (ap (λ b. b.views) (sym c.replace-badge.ensures.value) ∙ c.into_seat-seat.ensures.2) in
    let old = subst (λ v. (v.holds ≡ false) × (v.low ≡ c.args.pass.now.number) × IsOneSeat v × (v.live ≡ true)) is (c.args.pass.now.at_rest.1, c.args.pass.now.at_rest.2, c.args.pass.now.at_rest.3, c.args.pass.now.at_rest.4) in
    let is2 : only c.args.other.badge.views ≡ c.into_seat.result.me.0 = ap only c.into_seat.ensures.2 in
    let its = subst (λ v. IsOneSeat v × (v.live ≡ true)) is2 (c.args.other.at_rest.3, c.args.other.at_rest.4) in
    (search rules, search rules, search rules, search rules, meets g.E.Engine.state g.E.Engine.root (first_engine c.args.self.now) _ _ c.into_seat-seat.result.me.0 c.into_seat.result.me.0 old.0 old.3 its.1 its.0)

pub load-requires : goal.load-requires
load-requires g c = (search rules, search rules, looks g.E.Engine.state g.E.Engine.root (first_engine c.args.self.now) _ _ _)

pub invariant_of-pass : goal.invariant_of-pass
invariant_of-pass g c = let is : only c.args.pass.now.badge.views ≡ c.into_seat-seat.result.me.0 = ap only (ap (λ b. b.views) (sym c.replace-badge.ensures.value) ∙ c.into_seat-seat.ensures.2) in
    let old = subst (λ v. (v.holds ≡ false) × (v.low ≡ c.args.pass.now.number) × IsOneSeat v × (v.live ≡ true)) is (c.args.pass.now.at_rest.1, c.args.pass.now.at_rest.2, c.args.pass.now.at_rest.3, c.args.pass.now.at_rest.4) in
    let now = c.load.ensures.2.0 ∙ c.join_seat.ensures.2 in
    record { at_rest = rests c.into_badge.result.views (joined_views c.into_seat-seat.result.me.0 c.into_seat.result.me.0) c.args.pass.now.number (c.into_badge.ensures.2 ∙ ap (λ m. m.0 ∷ []) now) old.0 old.1 old.2 old.3 }

pub returns-clause-met : goal.returns-clause-met
returns-clause-met g c = let is : only c.args.pass.now.badge.views ≡ c.into_seat-seat.result.me.0 = ap only (ap (λ b. b.views) (sym c.replace-badge.ensures.value) ∙ c.into_seat-seat.ensures.2) in
    let old = subst (λ v. (v.holds ≡ false) × (v.low ≡ c.args.pass.now.number) × IsOneSeat v × (v.live ≡ true)) is (c.args.pass.now.at_rest.1, c.args.pass.now.at_rest.2, c.args.pass.now.at_rest.3, c.args.pass.now.at_rest.4) in
    let is2 : only c.args.other.badge.views ≡ c.into_seat.result.me.0 = ap only c.into_seat.ensures.2 in
    let now = c.load.ensures.2.0 ∙ c.join_seat.ensures.2 in
    meet_done c.args.pass.now c.args.other _ c.into_seat-seat.result.me.0 c.into_seat.result.me.0 is is2 (ap (λ v. v.low) (sym is2) ∙ c.args.other.at_rest.2) (ap only (c.into_badge.ensures.2 ∙ ap (λ m. m.0 ∷ []) now))
    (subst (λ m. Rattle.vx_turn.specs.Turning.TellsView m.0.seen m.0) c.join_seat.ensures.2 c.load.ensures.2.1)
    (subst (λ m. Rattle.vx_turn.specs.History.Legal m.0.start m.0.seen) c.join_seat.ensures.2 (c.load.ensures.2.2 (ap (λ m. m.0.live) c.join_seat.ensures.2 ∙ old.3)))
