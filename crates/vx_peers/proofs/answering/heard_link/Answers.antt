-- `heard_link`: its result.
use Rattle.std.proofs.Common.{◌≡◌, ◌∙◌, ap, sym, subst, ℕ}
use Rattle.vx_history.specs.Events.{delivered, packet_at}
use Rattle.vx_history.specs.LinkForms.{plain_link}
use Rattle.vx_history.specs.Sending.{Sent}
use Rattle.vx_parts.specs.Spelling.{spelled_message}
use Rattle.vx_peers.specs.Answers.{Listens}
use Rattle.vx_peers.proofs.Found.{never_none, never_other, read_so}
use Rattle.vx_peers.proofs.Hears.{event_for, event_is, link_so, message_is, never_empty, same_value, step_is}
use Rattle.vx_peers.proofs.answering.heard_link.Goals as goal

pub returns-in_default : goal.returns-in_default
returns-in_default g c = λ w p site at target answers flight listens link.
    absurd (never_none w.packets c.args.number p at (g.N.Net.flying c.args.flight.now) flight c.in_default.ensures.packet)

pub returns-in_default-decode : goal.returns-in_default-decode
returns-in_default-decode g c = λ w p site at target answers flight listens link.
    absurd (never_other w.packets c.args.number p at (g.N.Net.flying c.args.flight.now) flight c.in-Some.bytes.now c.in-Some.ensures.packet c.decode.result c.decode.ensures.only c.in_default-decode.is)

pub returns-in_default-read_one : goal.returns-in_default-read_one
returns-in_default-read_one g c = λ w p site at target answers flight listens link.
    let f = g.N.Net.flying c.args.flight.now in
    let here = subst (λ (t : ℕ). Listens (w.nodes t) (w.links t p.source) c.args.safe c.args.line.now) (sym target) listens in
    let read = read_so w.packets c.args.number p at f flight c.in-Some.bytes.now c.in-Some-decode.part c.in-Some.ensures.packet c.decode.result c.decode.ensures.only c.in-Some-decode.is in
    absurd (never_empty c.read_one.result (spelled_message p.message) (message_is w c.args.number p at answers f flight c.args.safe c.args.line.now here c.in-Some.bytes.now c.in-Some-decode.part read c.read_one.result c.read_one.ensures.only) c.in_default-read_one.is)

pub returns-in_default-event_of : goal.returns-in_default-event_of
returns-in_default-event_of g c = λ w p site at target answers flight listens link.
    let f = g.N.Net.flying c.args.flight.now in
    let here = subst (λ (t : ℕ). Listens (w.nodes t) (w.links t p.source) c.args.safe c.args.line.now) (sym target) listens in
    let read = read_so w.packets c.args.number p at f flight c.in-Some.bytes.now c.in-Some-decode.part c.in-Some.ensures.packet c.decode.result c.decode.ensures.only c.in-Some-decode.is in
    let whole = message_is w c.args.number p at answers f flight c.args.safe c.args.line.now here c.in-Some.bytes.now c.in-Some-decode.part read c.read_one.result c.read_one.ensures.only in
    let message = same_value c.read_one.result (spelled_message p.message) c.in-Some-read_one.message whole c.in-Some-read_one.is in
    let event = event_is w c.args.number p at answers f flight c.args.safe c.args.line.now here c.in-Some-read_one.message message c.event_of.result c.event_of.ensures in
    absurd (never_empty c.event_of.result (event_for p.message) event c.in_default-event_of.is)

pub returns : goal.returns
returns g c = λ w p site at target answers flight listens link.
    let f = g.N.Net.flying c.args.flight.now in
    let here = subst (λ (t : ℕ). Listens (w.nodes t) (w.links t p.source) c.args.safe c.args.line.now) (sym target) listens in
    let plain = subst (λ (t : ℕ). c.args.link.now ≡ plain_link p.source (w.links t p.source)) (sym target) link in
    let read = read_so w.packets c.args.number p at f flight c.in-Some.bytes.now c.in-Some-decode.part c.in-Some.ensures.packet c.decode.result c.decode.ensures.only c.in-Some-decode.is in
    let whole = message_is w c.args.number p at answers f flight c.args.safe c.args.line.now here c.in-Some.bytes.now c.in-Some-decode.part read c.read_one.result c.read_one.ensures.only in
    let message = same_value c.read_one.result (spelled_message p.message) c.in-Some-read_one.message whole c.in-Some-read_one.is in
    let event = event_is w c.args.number p at answers f flight c.args.safe c.args.line.now here c.in-Some-read_one.message message c.event_of.result c.event_of.ensures in
    let step = step_is w c.args.number p at answers f flight c.args.safe c.args.line.now here c.in-Some.bytes.now c.in-Some-decode.part read c.args.link.now plain c.eq.result c.eq.ensures c.in-Some-event_of.event (same_value c.event_of.result (event_for p.message) c.in-Some-event_of.event event c.in-Some-event_of.is) in
    subst (λ (t : ℕ). c.step-action.new.link ≡ plain_link p.source ((delivered w c.args.number (packet_at w.packets c.args.number)).world.links t p.source)) target
    (link_so w c.args.number p at answers f flight c.args.safe c.args.line.now here c.step-action.new.link (c.step-action.ensures.link ∙ ap (λ (r : Sent). r.link) step))
