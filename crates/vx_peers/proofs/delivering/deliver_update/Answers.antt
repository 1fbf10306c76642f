-- `deliver_update`: clauses delivered and took.
use Rattle.std.proofs.Common.{◌≡◌, ◌∙◌, inl, inr, ap, sym, subst, refl, arith, Some, Option, Bool, ℕ}
use Rattle.std.specs.Prelude.{None}
use Rattle.vx_packet.specs.Packets.{payload_in}
use Rattle.vx_rvg.specs.Views.{Core}
use Rattle.vx_courier.specs.Together.{AssemblyStands}
use Rattle.vx_history.specs.Events.{delivered, packet_at}
use Rattle.vx_history.specs.declared.event.Said.TheVariants.{Ignored as IsIgnored, Taken as IsTaken}
use Rattle.vx_model.specs.declared.state.State.{State}
use Rattle.vx_peers.specs.Receivers.{AcksAgain, GatheredIs, NoneWaits, NotHeard, OneWaits, ReceivesWrites, SendsOn, StandsForOutcome, WaitsBy, acks_of, rule_at}
use Rattle.vx_peers.specs.Senders.{Sends}
use Rattle.vx_peers.proofs.Delivers.{again_at, ignored_at, is_idle, never_lost, read_of, rule_is, rule_read, some_kept, some_waits}
use Rattle.vx_peers.proofs.Found.{never_none, never_other}
use Rattle.vx_peers.proofs.MorePackets.{more_acknowledged}
use Rattle.vx_peers.proofs.delivering.deliver_update.Goals as goal

pub returns-in_default-get-clause-delivered : goal.returns-in_default-get-clause-delivered
returns-in_default-get-clause-delivered g c = λ w p k x at target message one flight receives stands fits.
    absurd (never_none w.packets c.args.number p at (g.N.Net.flying c.args.flight.now) flight c.in_default-get.ensures.packet)

pub returns-in_default-decode-clause-delivered : goal.returns-in_default-decode-clause-delivered
returns-in_default-decode-clause-delivered g c = λ w p k x at target message one flight receives stands fits.
    absurd (never_other w.packets c.args.number p at (g.N.Net.flying c.args.flight.now) flight c.in-Some-get.bytes.now c.in-Some-get.ensures.packet c.decode.result c.decode.ensures.only c.in_default-decode.is)

pub returns-in-Nothing : goal.returns-in-Nothing
returns-in-Nothing g c = record {
  took = λ w p k x at message flight running.
      let core = c.args.secondary.now.rvg.core in
      let us = c.args.secondary.now.waiting in
      let f = g.N.Net.flying c.args.flight.now in
      let read = read_of w c.args.number p k x at message f flight c.in-Some-get.bytes.now c.in-Some-decode.part c.in-Some-get.ensures.packet c.decode.result c.decode.ensures.only c.in-Some-decode.is in
      NotHeard (is_idle (rule_at core us p.line k) c.rule_for.result (rule_read core us p k c.in-Some-get.bytes.now c.in-Some-decode.part read c.rule_for.result c.rule_for.ensures) c.in-Nothing.is) refl refl refl refl refl;
  delivered = λ w p k x at target message one flight receives stands fits.
      let core = c.args.secondary.now.rvg.core in
      let us = c.args.secondary.now.waiting in
      let f = g.N.Net.flying c.args.flight.now in
      let here = subst (λ (t : ℕ). ReceivesWrites (w.nodes t) core us c.args.fed_by.now) (sym target) receives in
      let there = subst (λ (t : ℕ). AssemblyStands w.packets t (w.gathering t) c.args.assembly.now) (sym target) stands in
      let running = sym here.halted ∙ sym c.halted.ensures ∙ c.in_default.is in
      let read = read_of w c.args.number p k x at message f flight c.in-Some-get.bytes.now c.in-Some-decode.part c.in-Some-get.ensures.packet c.decode.result c.decode.ensures.only c.in-Some-decode.is in
      let rule = rule_is w c.args.number p k x at message f flight core us c.args.fed_by.now here running c.in-Some-get.bytes.now c.in-Some-decode.part read c.rule_for.result c.rule_for.ensures in
      subst (λ (t : ℕ). StandsForOutcome (delivered w c.args.number (packet_at w.packets c.args.number)) t core us c.args.fed_by.now c.args.assembly.now f IsIgnored) target
      (ignored_at w c.args.number p k x at message f flight core us c.args.fed_by.now here running c.args.assembly.now there c.rule_for.result rule c.in-Nothing.is);
  group = refl;
  waiting = tt;
  fed_by = tt;
  assembly = tt;
  unsent = tt;
}

pub returns-else-number-gt-MOST_NUMBER-clause-delivered : goal.returns-else-number-gt-MOST_NUMBER-clause-delivered
returns-else-number-gt-MOST_NUMBER-clause-delivered g c = λ w p k x at target message one flight receives stands fits.
    let core = c.args.secondary.now.rvg.core in
    let us = c.args.secondary.now.waiting in
    let f = g.N.Net.flying c.args.flight.now in
    let here = subst (λ (t : ℕ). ReceivesWrites (w.nodes t) core us c.args.fed_by.now) (sym target) receives in
    let there = subst (λ (t : ℕ). AssemblyStands w.packets t (w.gathering t) c.args.assembly.now) (sym target) stands in
    let running = sym here.halted ∙ sym c.halted.ensures ∙ c.in_default.is in
    let read = read_of w c.args.number p k x at message f flight c.in-Some-get.bytes.now c.in-Some-decode.part c.in-Some-get.ensures.packet c.decode.result c.decode.ensures.only c.in-Some-decode.is in
    let rule = rule_is w c.args.number p k x at message f flight core us c.args.fed_by.now here running c.in-Some-get.bytes.now c.in-Some-decode.part read c.rule_for.result c.rule_for.ensures in
    let sends = subst (λ (t : ℕ). SendsOn t c.in-Some-decode.part.source c.state.result.now.line c.session-session.result c.in-IgnoredAck.number f (g.N.Net.flying c.acknowledge-in-IgnoredAck.new.flight)) (sym target) c.acknowledge-in-IgnoredAck.ensures.sends in
    subst (λ (t : ℕ). StandsForOutcome (delivered w c.args.number (packet_at w.packets c.args.number)) t core us c.args.fed_by.now c.args.assembly.now (g.N.Net.flying c.acknowledge-in-IgnoredAck.new.flight) IsIgnored) target
    (again_at w c.args.number p k x at message f flight core us c.args.fed_by.now here running c.args.assembly.now there c.in-IgnoredAck.number (sym rule ∙ c.in-IgnoredAck.is) c.in-Some-get.bytes.now c.in-Some-decode.part read
    c.state.result.now.line c.session-session.result (ap (λ (s : State). s.line) c.state.ensures.is) c.session-session.ensures.is (g.N.Net.flying c.acknowledge-in-IgnoredAck.new.flight) (omega (arith, c.if-count-ge-MOST_NUMBER.false, c.count.ensures.count)) sends)

pub returns-in-None-clause-delivered : goal.returns-in-None-clause-delivered
returns-in-None-clause-delivered g c = λ w p k x at target message one flight receives stands fits.
    let core = c.args.secondary.now.rvg.core in
    let us = c.args.secondary.now.waiting in
    let f = g.N.Net.flying c.args.flight.now in
    let here = subst (λ (t : ℕ). ReceivesWrites (w.nodes t) core us c.args.fed_by.now) (sym target) receives in
    let there = subst (λ (t : ℕ). AssemblyStands w.packets t (w.gathering t) c.args.assembly.now) (sym target) stands in
    let running = sym here.halted ∙ sym c.halted.ensures ∙ c.in_default.is in
    let bytes = c.in-Some-get.bytes.now in
    let part = c.in-Some-decode.part in
    let read = read_of w c.args.number p k x at message f flight bytes part c.in-Some-get.ensures.packet c.decode.result c.decode.ensures.only c.in-Some-decode.is in
    let rule = rule_is w c.args.number p k x at message f flight core us c.args.fed_by.now here running bytes part read c.rule_for.result c.rule_for.ensures in
    let takes = sym rule ∙ c.in-Take.is in
    let size = (g.S.Shelf.meaning c.args.secondary.now.rvg.shelf).size in
    let waiting = c.gather.new.secondary.waiting in
    let new = c.gather.new.assembly in
    let gathered = subst (λ (r : Option Bool). GatheredIs core size part (payload_in part bytes) us c.args.assembly.now waiting new r) (c.in-None.is) c.gather.ensures.gathered in
    absurd (never_lost w c.args.number p k x at message f flight core us c.args.fed_by.now here running c.args.assembly.now there c.in-Take.ack takes size fits one bytes part read waiting new gathered)

pub returns-in-Some-false-clause-delivered : goal.returns-in-Some-false-clause-delivered
returns-in-Some-false-clause-delivered g c = λ w p k x at target message one flight receives stands fits.
    let core = c.args.secondary.now.rvg.core in
    let us = c.args.secondary.now.waiting in
    let f = g.N.Net.flying c.args.flight.now in
    let here = subst (λ (t : ℕ). ReceivesWrites (w.nodes t) core us c.args.fed_by.now) (sym target) receives in
    let there = subst (λ (t : ℕ). AssemblyStands w.packets t (w.gathering t) c.args.assembly.now) (sym target) stands in
    let running = sym here.halted ∙ sym c.halted.ensures ∙ c.in_default.is in
    let bytes = c.in-Some-get.bytes.now in
    let part = c.in-Some-decode.part in
    let read = read_of w c.args.number p k x at message f flight bytes part c.in-Some-get.ensures.packet c.decode.result c.decode.ensures.only c.in-Some-decode.is in
    let rule = rule_is w c.args.number p k x at message f flight core us c.args.fed_by.now here running bytes part read c.rule_for.result c.rule_for.ensures in
    let takes = sym rule ∙ c.in-Take.is in
    let size = (g.S.Shelf.meaning c.args.secondary.now.rvg.shelf).size in
    let waiting = c.gather.new.secondary.waiting in
    let new = c.gather.new.assembly in
    let gathered = subst (λ (r : Option Bool). GatheredIs core size part (payload_in part bytes) us c.args.assembly.now waiting new r) (c.in-Some-false.is ∙ ap (λ (b : Bool). Some b) c.in-Some-false.field-0-test) c.gather.ensures.gathered in
    let done = some_kept w c.args.number p k x at message f flight core us c.args.fed_by.now here running c.args.assembly.now there c.in-Take.ack takes size fits one bytes part read waiting new gathered in
    subst (λ (v : Core). StandsForOutcome (delivered w c.args.number (packet_at w.packets c.args.number)) c.args.site v waiting c.args.fed_by.now new f IsTaken) (sym (ap (λ r. r.core) c.gather.ensures.group))
    (subst (λ (t : ℕ). StandsForOutcome (delivered w c.args.number (packet_at w.packets c.args.number)) t core waiting c.args.fed_by.now new f IsTaken) target done)

pub returns-in-Some-true-clause-delivered : goal.returns-in-Some-true-clause-delivered
returns-in-Some-true-clause-delivered g c = λ w p k x at target message one flight receives stands fits.
    let core = c.args.secondary.now.rvg.core in
    let us = c.args.secondary.now.waiting in
    let f = g.N.Net.flying c.args.flight.now in
    let here = subst (λ (t : ℕ). ReceivesWrites (w.nodes t) core us c.args.fed_by.now) (sym target) receives in
    let there = subst (λ (t : ℕ). AssemblyStands w.packets t (w.gathering t) c.args.assembly.now) (sym target) stands in
    let running = sym here.halted ∙ sym c.halted.ensures ∙ c.in_default.is in
    let bytes = c.in-Some-get.bytes.now in
    let part = c.in-Some-decode.part in
    let read = read_of w c.args.number p k x at message f flight bytes part c.in-Some-get.ensures.packet c.decode.result c.decode.ensures.only c.in-Some-decode.is in
    let rule = rule_is w c.args.number p k x at message f flight core us c.args.fed_by.now here running bytes part read c.rule_for.result c.rule_for.ensures in
    let takes = sym rule ∙ c.in-Take.is in
    let size = (g.S.Shelf.meaning c.args.secondary.now.rvg.shelf).size in
    let waiting = c.gather.new.secondary.waiting in
    let new = c.gather.new.assembly in
    let gathered = subst (λ (r : Option Bool). GatheredIs core size part (payload_in part bytes) us c.args.assembly.now waiting new r) (c.in-Some-true.is ∙ ap (λ (b : Bool). Some b) c.in-Some-true.field-0-test) c.gather.ensures.gathered in
    let f' = g.N.Net.flying c.acknowledge.new.flight in
    let sends = subst (λ (t : ℕ). SendsOn t part.source c.state.result.now.line c.session-session.result c.in-Take.ack f f') (sym target) c.acknowledge.ensures.sends in
    let done = some_waits w c.args.number p k x at message f flight core us c.args.fed_by.now here running c.args.assembly.now there c.in-Take.ack takes size fits one bytes part read waiting new gathered c.state.result.now.line c.session-session.result (ap (λ (s : State). s.line) c.state.ensures.is) c.session-session.ensures.is f' (omega (arith, c.if-count-ge-MOST_NUMBER.false, c.count.ensures.count)) sends in
    subst (λ (v : Core). StandsForOutcome (delivered w c.args.number (packet_at w.packets c.args.number)) c.args.site v waiting part.source new f' IsTaken) (sym (ap (λ r. r.core) c.gather.ensures.group))
    (subst (λ (t : ℕ). StandsForOutcome (delivered w c.args.number (packet_at w.packets c.args.number)) t core waiting part.source new f' IsTaken) target done)

-- ---- whatever is in assembly

pub returns-in-Some-clause-took : goal.returns-in-Some-clause-took
returns-in-Some-clause-took g c = λ w p k x at message flight running. absurd (let e : Some c.in-Some.field-0 ≡ None = sym c.in-Some.is ∙ c.halted.ensures ∙ running in cc)

pub returns-in_default-get-clause-took : goal.returns-in_default-get-clause-took
returns-in_default-get-clause-took g c = λ w p k x at message flight running.
    absurd (never_none w.packets c.args.number p at (g.N.Net.flying c.args.flight.now) flight c.in_default-get.ensures.packet)

pub returns-in_default-decode-clause-took : goal.returns-in_default-decode-clause-took
returns-in_default-decode-clause-took g c = λ w p k x at message flight running.
    absurd (never_other w.packets c.args.number p at (g.N.Net.flying c.args.flight.now) flight c.in-Some-get.bytes.now c.in-Some-get.ensures.packet c.decode.result c.decode.ensures.only c.in_default-decode.is)

pub returns-else-number-gt-MOST_NUMBER-clause-took : goal.returns-else-number-gt-MOST_NUMBER-clause-took
returns-else-number-gt-MOST_NUMBER-clause-took g c = λ w p k x at message flight running.
    let core = c.args.secondary.now.rvg.core in
    let us = c.args.secondary.now.waiting in
    let f = g.N.Net.flying c.args.flight.now in
    let f' = g.N.Net.flying c.acknowledge-in-IgnoredAck.new.flight in
    let part = c.in-Some-decode.part in
    let bytes = c.in-Some-get.bytes.now in
    let read = read_of w c.args.number p k x at message f flight bytes part c.in-Some-get.ensures.packet c.decode.result c.decode.ensures.only c.in-Some-decode.is in
    let sends = more_acknowledged c.args.site part.source core c.state.result.now.line c.session-session.result c.in-IgnoredAck.number f f' (ap (λ (s : State). s.line) c.state.ensures.is) c.session-session.ensures.is
    (omega (arith, c.if-count-ge-MOST_NUMBER.false, c.count.ensures.count)) c.acknowledge-in-IgnoredAck.ensures.sends in
    AcksAgain c.in-IgnoredAck.number (sym (rule_read core us p k bytes part read c.rule_for.result c.rule_for.ensures) ∙ c.in-IgnoredAck.is) refl refl refl
    (subst (λ (i : ℕ). Sends (acks_of c.args.site i core c.in-IgnoredAck.number) f f') read.source sends) refl

pub returns-in-None-clause-took : goal.returns-in-None-clause-took
returns-in-None-clause-took g c = λ w p k x at message flight running.
    let core = c.args.secondary.now.rvg.core in
    let us = c.args.secondary.now.waiting in
    let part = c.in-Some-decode.part in
    let bytes = c.in-Some-get.bytes.now in
    let read = read_of w c.args.number p k x at message (g.N.Net.flying c.args.flight.now) flight bytes part c.in-Some-get.ensures.packet c.decode.result c.decode.ensures.only c.in-Some-decode.is in
    NoneWaits c.in-Take.ack (sym (rule_read core us p k bytes part read c.rule_for.result c.rule_for.ensures) ∙ c.in-Take.is)
    (subst (λ (r : Option Bool). WaitsBy r us c.gather.new.secondary.waiting) c.in-None.is c.gather.ensures.waits) refl refl (inr refl)

pub returns-in-Some-false-clause-took : goal.returns-in-Some-false-clause-took
returns-in-Some-false-clause-took g c = λ w p k x at message flight running.
    let core = c.args.secondary.now.rvg.core in
    let us = c.args.secondary.now.waiting in
    let part = c.in-Some-decode.part in
    let bytes = c.in-Some-get.bytes.now in
    let read = read_of w c.args.number p k x at message (g.N.Net.flying c.args.flight.now) flight bytes part c.in-Some-get.ensures.packet c.decode.result c.decode.ensures.only c.in-Some-decode.is in
    NoneWaits c.in-Take.ack (sym (rule_read core us p k bytes part read c.rule_for.result c.rule_for.ensures) ∙ c.in-Take.is)
    (subst (λ (r : Option Bool). WaitsBy r us c.gather.new.secondary.waiting) (c.in-Some-false.is ∙ ap (λ (b : Bool). Some b) c.in-Some-false.field-0-test) c.gather.ensures.waits) refl refl (inl refl)

pub returns-in-Some-true-clause-took : goal.returns-in-Some-true-clause-took
returns-in-Some-true-clause-took g c = λ w p k x at message flight running.
    let core = c.args.secondary.now.rvg.core in
    let us = c.args.secondary.now.waiting in
    let f = g.N.Net.flying c.args.flight.now in
    let f' = g.N.Net.flying c.acknowledge.new.flight in
    let part = c.in-Some-decode.part in
    let bytes = c.in-Some-get.bytes.now in
    let waits = subst (λ (r : Option Bool). WaitsBy r us c.gather.new.secondary.waiting) (c.in-Some-true.is ∙ ap (λ (b : Bool). Some b) c.in-Some-true.field-0-test) c.gather.ensures.waits in
    let read = read_of w c.args.number p k x at message f flight bytes part c.in-Some-get.ensures.packet c.decode.result c.decode.ensures.only c.in-Some-decode.is in
    let sends = more_acknowledged c.args.site part.source core c.state.result.now.line c.session-session.result c.in-Take.ack f f' (ap (λ (s : State). s.line) c.state.ensures.is) c.session-session.ensures.is
    (omega (arith, c.if-count-ge-MOST_NUMBER.false, c.count.ensures.count)) c.acknowledge.ensures.sends in
    OneWaits waits.0 c.in-Take.ack (sym (rule_read core us p k bytes part read c.rule_for.result c.rule_for.ensures) ∙ c.in-Take.is) waits.1 read.source
    (subst (λ (i : ℕ). Sends (acks_of c.args.site i core c.in-Take.ack) f f') read.source sends) refl
