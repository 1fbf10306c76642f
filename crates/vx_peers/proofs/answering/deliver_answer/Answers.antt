-- `deliver_answer`: clauses exact and part.
use Rattle.std.proofs.Common.{◌≡◌, ◌∙◌, ap, sym, subst, ℕ}
use Rattle.vx_courier.specs.Together.{AssemblyStands}
use Rattle.vx_history.specs.Events.{delivered, packet_at}
use Rattle.vx_history.specs.LinkForms.{plain_link}
use Rattle.vx_history.specs.Sending.{Sent}
use Rattle.vx_parts.specs.Spelling.{spelled_message}
use Rattle.vx_history.specs.declared.event.Said.TheVariants.{Ignored as IsIgnored, Taken as IsTaken}
use Rattle.vx_peers.specs.Answers.{LinkStandsFor, Listens, PartStandsFor}
use Rattle.vx_peers.proofs.Found.{never_none, never_other, read_so}
use Rattle.vx_peers.proofs.Hears.{event_for, event_is, ignored_so, message_is, never_empty, not_taken, part_ignored, part_taken, same_value, step_is, taken_so}
use Rattle.vx_peers.proofs.answering.deliver_answer.Goals as goal

pub returns-in_default-clause-exact : goal.returns-in_default-clause-exact
returns-in_default-clause-exact g c = λ w p site at target answers one flight listens link stands.
    absurd (never_none w.packets c.args.number p at (g.N.Net.flying c.args.flight.now) flight c.in_default.ensures.packet)

pub returns-in_default-clause-part : goal.returns-in_default-clause-part
returns-in_default-clause-part g c = λ w p site at target answers flight listens link.
    absurd (never_none w.packets c.args.number p at (g.N.Net.flying c.args.flight.now) flight c.in_default.ensures.packet)

pub returns-in_default-decode-clause-exact : goal.returns-in_default-decode-clause-exact
returns-in_default-decode-clause-exact g c = λ w p site at target answers one flight listens link stands.
    absurd (never_other w.packets c.args.number p at (g.N.Net.flying c.args.flight.now) flight c.in-Some.bytes.now c.in-Some.ensures.packet c.decode.result c.decode.ensures.only c.in_default-decode.is)

pub returns-in_default-decode-clause-part : goal.returns-in_default-decode-clause-part
returns-in_default-decode-clause-part g c = λ w p site at target answers flight listens link.
    absurd (never_other w.packets c.args.number p at (g.N.Net.flying c.args.flight.now) flight c.in-Some.bytes.now c.in-Some.ensures.packet c.decode.result c.decode.ensures.only c.in_default-decode.is)

pub returns-in_default-read_one-clause-exact : goal.returns-in_default-read_one-clause-exact
returns-in_default-read_one-clause-exact g c = λ w p site at target answers one flight listens link stands.
    let f = g.N.Net.flying c.args.flight.now in
    let here = subst (λ (t : ℕ). Listens (w.nodes t) (w.links t p.source) c.args.safe c.args.line.now) (sym target) listens in
    let read = read_so w.packets c.args.number p at f flight c.in-Some.bytes.now c.in-Some-decode.part c.in-Some.ensures.packet c.decode.result c.decode.ensures.only c.in-Some-decode.is in
    absurd (never_empty c.read_one.result (spelled_message p.message) (message_is w c.args.number p at answers f flight c.args.safe c.args.line.now here c.in-Some.bytes.now c.in-Some-decode.part read c.read_one.result c.read_one.ensures.only) c.in_default-read_one.is)

pub returns-in_default-read_one-clause-part : goal.returns-in_default-read_one-clause-part
returns-in_default-read_one-clause-part g c = λ w p site at target answers flight listens link.
    let f = g.N.Net.flying c.args.flight.now in
    let here = subst (λ (t : ℕ). Listens (w.nodes t) (w.links t p.source) c.args.safe c.args.line.now) (sym target) listens in
    let read = read_so w.packets c.args.number p at f flight c.in-Some.bytes.now c.in-Some-decode.part c.in-Some.ensures.packet c.decode.result c.decode.ensures.only c.in-Some-decode.is in
    absurd (never_empty c.read_one.result (spelled_message p.message) (message_is w c.args.number p at answers f flight c.args.safe c.args.line.now here c.in-Some.bytes.now c.in-Some-decode.part read c.read_one.result c.read_one.ensures.only) c.in_default-read_one.is)

pub returns-in_default-event_of-clause-exact : goal.returns-in_default-event_of-clause-exact
returns-in_default-event_of-clause-exact g c = λ w p site at target answers one flight listens link stands.
    let f = g.N.Net.flying c.args.flight.now in
    let here = subst (λ (t : ℕ). Listens (w.nodes t) (w.links t p.source) c.args.safe c.args.line.now) (sym target) listens in
    let read = read_so w.packets c.args.number p at f flight c.in-Some.bytes.now c.in-Some-decode.part c.in-Some.ensures.packet c.decode.result c.decode.ensures.only c.in-Some-decode.is in
    let whole = message_is w c.args.number p at answers f flight c.args.safe c.args.line.now here c.in-Some.bytes.now c.in-Some-decode.part read c.read_one.result c.read_one.ensures.only in
    let message = same_value c.read_one.result (spelled_message p.message) c.in-Some-read_one.message whole c.in-Some-read_one.is in
    let event = event_is w c.args.number p at answers f flight c.args.safe c.args.line.now here c.in-Some-read_one.message message c.event_of.result c.event_of.ensures in
    absurd (never_empty c.event_of.result (event_for p.message) event c.in_default-event_of.is)

pub returns-in_default-event_of-clause-part : goal.returns-in_default-event_of-clause-part
returns-in_default-event_of-clause-part g c = λ w p site at target answers flight listens link.
    let f = g.N.Net.flying c.args.flight.now in
    let here = subst (λ (t : ℕ). Listens (w.nodes t) (w.links t p.source) c.args.safe c.args.line.now) (sym target) listens in
    let read = read_so w.packets c.args.number p at f flight c.in-Some.bytes.now c.in-Some-decode.part c.in-Some.ensures.packet c.decode.result c.decode.ensures.only c.in-Some-decode.is in
    let whole = message_is w c.args.number p at answers f flight c.args.safe c.args.line.now here c.in-Some.bytes.now c.in-Some-decode.part read c.read_one.result c.read_one.ensures.only in
    let message = same_value c.read_one.result (spelled_message p.message) c.in-Some-read_one.message whole c.in-Some-read_one.is in
    let event = event_is w c.args.number p at answers f flight c.args.safe c.args.line.now here c.in-Some-read_one.message message c.event_of.result c.event_of.ensures in
    absurd (never_empty c.event_of.result (event_for p.message) event c.in_default-event_of.is)

pub returns-in-Nothing-clause-exact : goal.returns-in-Nothing-clause-exact
returns-in-Nothing-clause-exact g c = λ w p site at target answers one flight listens link stands.
    let f = g.N.Net.flying c.args.flight.now in
    let here = subst (λ (t : ℕ). Listens (w.nodes t) (w.links t p.source) c.args.safe c.args.line.now) (sym target) listens in
    let there = subst (λ (t : ℕ). AssemblyStands w.packets t (w.gathering t) c.args.assembly.now) (sym target) stands in
    let plain = subst (λ (t : ℕ). c.args.link.now ≡ plain_link p.source (w.links t p.source)) (sym target) link in
    let read = read_so w.packets c.args.number p at f flight c.in-Some.bytes.now c.in-Some-decode.part c.in-Some.ensures.packet c.decode.result c.decode.ensures.only c.in-Some-decode.is in
    let whole = message_is w c.args.number p at answers f flight c.args.safe c.args.line.now here c.in-Some.bytes.now c.in-Some-decode.part read c.read_one.result c.read_one.ensures.only in
    let message = same_value c.read_one.result (spelled_message p.message) c.in-Some-read_one.message whole c.in-Some-read_one.is in
    let event = event_is w c.args.number p at answers f flight c.args.safe c.args.line.now here c.in-Some-read_one.message message c.event_of.result c.event_of.ensures in
    let step = step_is w c.args.number p at answers f flight c.args.safe c.args.line.now here c.in-Some.bytes.now c.in-Some-decode.part read c.args.link.now plain c.eq.result c.eq.ensures c.in-Some-event_of.event (same_value c.event_of.result (event_for p.message) c.in-Some-event_of.event event c.in-Some-event_of.is) in
    subst (λ (t : ℕ). LinkStandsFor (delivered w c.args.number (packet_at w.packets c.args.number)) t p.source c.step.new.link c.args.assembly.now f IsIgnored) target
    (ignored_so w c.args.number p at answers f flight c.args.safe c.args.line.now here c.args.assembly.now there c.step.new.link (c.step.ensures.link ∙ ap (λ (r : Sent). r.link) step)
    (λ taken. not_taken c.step.result c.in-Nothing.is (c.step.ensures.action ∙ ap (λ (r : Sent). r.action) step ∙ taken)))

pub returns-in-Nothing-clause-part : goal.returns-in-Nothing-clause-part
returns-in-Nothing-clause-part g c = λ w p site at target answers flight listens link.
    let f = g.N.Net.flying c.args.flight.now in
    let here = subst (λ (t : ℕ). Listens (w.nodes t) (w.links t p.source) c.args.safe c.args.line.now) (sym target) listens in
    let plain = subst (λ (t : ℕ). c.args.link.now ≡ plain_link p.source (w.links t p.source)) (sym target) link in
    let read = read_so w.packets c.args.number p at f flight c.in-Some.bytes.now c.in-Some-decode.part c.in-Some.ensures.packet c.decode.result c.decode.ensures.only c.in-Some-decode.is in
    let whole = message_is w c.args.number p at answers f flight c.args.safe c.args.line.now here c.in-Some.bytes.now c.in-Some-decode.part read c.read_one.result c.read_one.ensures.only in
    let message = same_value c.read_one.result (spelled_message p.message) c.in-Some-read_one.message whole c.in-Some-read_one.is in
    let event = event_is w c.args.number p at answers f flight c.args.safe c.args.line.now here c.in-Some-read_one.message message c.event_of.result c.event_of.ensures in
    let step = step_is w c.args.number p at answers f flight c.args.safe c.args.line.now here c.in-Some.bytes.now c.in-Some-decode.part read c.args.link.now plain c.eq.result c.eq.ensures c.in-Some-event_of.event (same_value c.event_of.result (event_for p.message) c.in-Some-event_of.event event c.in-Some-event_of.is) in
    subst (λ (t : ℕ). PartStandsFor (delivered w c.args.number (packet_at w.packets c.args.number)) t p.source c.step.new.link f IsIgnored) target
    (part_ignored w c.args.number p at answers f flight c.args.safe c.args.line.now here c.step.new.link (c.step.ensures.link ∙ ap (λ (r : Sent). r.link) step)
    (λ taken. not_taken c.step.result c.in-Nothing.is (c.step.ensures.action ∙ ap (λ (r : Sent). r.action) step ∙ taken)))

pub returns-in-Taken-clause-exact : goal.returns-in-Taken-clause-exact
returns-in-Taken-clause-exact g c = λ w p site at target answers one flight listens link stands.
    let f = g.N.Net.flying c.args.flight.now in
    let here = subst (λ (t : ℕ). Listens (w.nodes t) (w.links t p.source) c.args.safe c.args.line.now) (sym target) listens in
    let there = subst (λ (t : ℕ). AssemblyStands w.packets t (w.gathering t) c.args.assembly.now) (sym target) stands in
    let plain = subst (λ (t : ℕ). c.args.link.now ≡ plain_link p.source (w.links t p.source)) (sym target) link in
    let read = read_so w.packets c.args.number p at f flight c.in-Some.bytes.now c.in-Some-decode.part c.in-Some.ensures.packet c.decode.result c.decode.ensures.only c.in-Some-decode.is in
    let whole = message_is w c.args.number p at answers f flight c.args.safe c.args.line.now here c.in-Some.bytes.now c.in-Some-decode.part read c.read_one.result c.read_one.ensures.only in
    let message = same_value c.read_one.result (spelled_message p.message) c.in-Some-read_one.message whole c.in-Some-read_one.is in
    let event = event_is w c.args.number p at answers f flight c.args.safe c.args.line.now here c.in-Some-read_one.message message c.event_of.result c.event_of.ensures in
    let step = step_is w c.args.number p at answers f flight c.args.safe c.args.line.now here c.in-Some.bytes.now c.in-Some-decode.part read c.args.link.now plain c.eq.result c.eq.ensures c.in-Some-event_of.event (same_value c.event_of.result (event_for p.message) c.in-Some-event_of.event event c.in-Some-event_of.is) in
    subst (λ (t : ℕ). LinkStandsFor (delivered w c.args.number (packet_at w.packets c.args.number)) t p.source c.step.new.link c.take-whole.new.self f IsTaken) target
    (taken_so w c.args.number p at answers f flight c.args.safe c.args.line.now here c.args.assembly.now there c.step.new.link (c.step.ensures.link ∙ ap (λ (r : Sent). r.link) step)
    (sym (ap (λ (r : Sent). r.action) step) ∙ sym c.step.ensures.action ∙ c.in-Taken.is) one c.in-Some.bytes.now c.in-Some-decode.part read c.take-whole.result c.take-whole.new.self c.take-whole.ensures)

pub returns-in-Taken-clause-part : goal.returns-in-Taken-clause-part
returns-in-Taken-clause-part g c = λ w p site at target answers flight listens link.
    let f = g.N.Net.flying c.args.flight.now in
    let here = subst (λ (t : ℕ). Listens (w.nodes t) (w.links t p.source) c.args.safe c.args.line.now) (sym target) listens in
    let plain = subst (λ (t : ℕ). c.args.link.now ≡ plain_link p.source (w.links t p.source)) (sym target) link in
    let read = read_so w.packets c.args.number p at f flight c.in-Some.bytes.now c.in-Some-decode.part c.in-Some.ensures.packet c.decode.result c.decode.ensures.only c.in-Some-decode.is in
    let whole = message_is w c.args.number p at answers f flight c.args.safe c.args.line.now here c.in-Some.bytes.now c.in-Some-decode.part read c.read_one.result c.read_one.ensures.only in
    let message = same_value c.read_one.result (spelled_message p.message) c.in-Some-read_one.message whole c.in-Some-read_one.is in
    let event = event_is w c.args.number p at answers f flight c.args.safe c.args.line.now here c.in-Some-read_one.message message c.event_of.result c.event_of.ensures in
    let step = step_is w c.args.number p at answers f flight c.args.safe c.args.line.now here c.in-Some.bytes.now c.in-Some-decode.part read c.args.link.now plain c.eq.result c.eq.ensures c.in-Some-event_of.event (same_value c.event_of.result (event_for p.message) c.in-Some-event_of.event event c.in-Some-event_of.is) in
    subst (λ (t : ℕ). PartStandsFor (delivered w c.args.number (packet_at w.packets c.args.number)) t p.source c.step.new.link f IsTaken) target
    (part_taken w c.args.number p at answers f flight c.args.safe c.args.line.now here c.step.new.link (c.step.ensures.link ∙ ap (λ (r : Sent). r.link) step)
    (sym (ap (λ (r : Sent). r.action) step) ∙ sym c.step.ensures.action ∙ c.in-Taken.is))
