-- `pump`: clauses moved, more and rule.
use Rattle.std.proofs.Common.{◌∙◌, ℕ, true, ap, sym, subst, arith}
use Rattle.vx_model.specs.declared.state.State.{State}
use Rattle.vx_history.specs.Sending.{Sent}
use Rattle.vx_model.specs.declared.history.Line.{Line}
use Rattle.vx_history.specs.declared.sender.Action.{Action}
use Rattle.vx_history.specs.declared.sender.SEvent.TheVariants.{Pump}
use Rattle.vx_history.specs.declared.sender.SFacts.{SFacts}
use Rattle.vx_packet.specs.declared.message.Envelope.{Envelope}
use Rattle.vx_peers.specs.Senders.{SendsBy, SendsRange, pump_asks, pumped_at, way_from}
use Rattle.vx_sender.proofs.Events.{updates-fit}
use Rattle.vx_peers.proofs.Pumps.{moved_none, moved_range, rule_same, sends_live, sends_none}
use Rattle.vx_peers.proofs.MorePackets.{none_asked}
use Rattle.vx_peers.proofs.pumping.pump.Goals as goal

pub returns-in-Nothing-clause-moved : goal.returns-in-Nothing-clause-moved
returns-in-Nothing-clause-moved g c = λ w from tells link flight.
    let core = c.args.rvg.now.core in
    let m = g.S.Shelf.meaning c.args.rvg.now.shelf in
    let to = c.args.link.now.site in
    let same = rule_same w c.args.site to core m from c.args.link.now c.head.result link c.head.ensures in
    let action = sym (ap (λ (r : Sent). r.action) same) ∙ sym c.step.ensures.action in
    moved_none w c.args.site to core m from c.step.new.link (g.N.Net.flying c.args.flight.now) (c.step.ensures.link ∙ ap (λ (r : Sent). r.link) same)
    (sends_none w c.args.site to core m from c.step.result action c.in-Nothing.is) flight

pub returns-in_ok-send_range-in-Updates-clause-moved : goal.returns-in_ok-send_range-in-Updates-clause-moved
returns-in_ok-send_range-in-Updates-clause-moved g c = λ w from tells link flight.
    let core = c.args.rvg.now.core in
    let m = g.S.Shelf.meaning c.args.rvg.now.shelf in
    let to = c.args.link.now.site in
    let same = rule_same w c.args.site to core m from c.args.link.now c.head.result link c.head.ensures in
    let action = sym (ap (λ (r : Sent). r.action) same) ∙ sym c.step.ensures.action ∙ c.in-Updates.is in
    let facts : SFacts = record { safe = c.head.result; line_ok = true } in
    let fits = updates-fit c.args.link.now Pump facts c.in-Updates.from c.in-Updates.to (sym c.step.ensures.action ∙ c.in-Updates.is) in
    let sent = c.in_ok-send_range-in-Updates.ensures.sent tells from.held from.stands in
    moved_range w c.args.site to core m from c.in-Updates.from c.in-Updates.to (record { source = c.args.site; target = to; line = c.state.result.now.line }) c.step.new.link
    (g.N.Net.flying c.args.flight.now) (g.N.Net.flying c.send_range.new.flight) (c.step.ensures.link ∙ ap (λ (r : Sent). r.link) same) action
    (ap (λ (s : State). let e : Envelope = record { source = c.args.site; target = to; line = s.line } in e) c.state.ensures.is) sent.0
    (omega (arith, fits.3, c.head.ensures)) (omega (arith, fits.1, c.requires.held (sends_live c.args.link.now facts c.in-Updates.from c.in-Updates.to (sym c.step.ensures.action ∙ c.in-Updates.is)), from.stands.low)) flight

pub returns-in-Nothing-clause-more : goal.returns-in-Nothing-clause-more
returns-in-Nothing-clause-more g c =
    let f = g.N.Net.flying c.args.flight.now in
    let core = c.args.rvg.now.core in
    let e = way_from c.args.site c.args.link.now.site core.log.header.state.line in
    subst (λ (a : Action). SendsBy a e f f) (c.step.ensures.action ∙ ap (λ (safe : ℕ). pump_asks c.args.link.now safe) c.head.ensures) (none_asked c.step.result e f c.in-Nothing.is)

pub returns-in_ok-send_range-in-Updates-clause-more : goal.returns-in_ok-send_range-in-Updates-clause-more
returns-in_ok-send_range-in-Updates-clause-more g c =
    let f = g.N.Net.flying c.args.flight.now in
    let f' = g.N.Net.flying c.send_range.new.flight in
    let core = c.args.rvg.now.core in
    let to = c.args.link.now.site in
    subst (λ (a : Action). SendsBy a (way_from c.args.site to core.log.header.state.line) f f') (sym c.in-Updates.is ∙ c.step.ensures.action ∙ ap (λ (safe : ℕ). pump_asks c.args.link.now safe) c.head.ensures)
    (subst (λ (l : Line). SendsRange (way_from c.args.site to l) c.in-Updates.from c.in-Updates.to f f') (ap (λ (s : State). s.line) c.state.ensures.is) c.in_ok-send_range-in-Updates.ensures.more)

pub returns-in-Nothing-clause-rule : goal.returns-in-Nothing-clause-rule
returns-in-Nothing-clause-rule g c = c.step.ensures.link ∙ ap (λ (safe : ℕ). pumped_at c.args.link.now safe) c.head.ensures

pub returns-in_ok-send_range-in-Updates-clause-rule : goal.returns-in_ok-send_range-in-Updates-clause-rule
returns-in_ok-send_range-in-Updates-clause-rule g c = c.step.ensures.link ∙ ap (λ (safe : ℕ). pumped_at c.args.link.now safe) c.head.ensures
