-- The packet of a number at its target, by its kind.
use Rattle.std.proofs.Common.{◌<◌, ◌≤◌, ap, refl, arith}
use Rattle.vx_history.specs.Events.{packet_at}
use Rattle.vx_diskset.specs.Asked.{HeadUnder}
use Rattle.vx_events.specs.declared.said.Said.TheVariants.{Ignored}
use Rattle.vx_packet.specs.declared.part.Part.{Part}
use Rattle.vx_script.specs.declared.line.ScriptLine.TheVariants.{Deliver}
use Rattle.vx_yard.specs.OfSites.{HasCalled, OfSite, TouchesNone, heard_calls}
use Rattle.vx_link_lines.proofs.DeliverCalls.{answer_calls, if_ok_then, unsited_calls, update_calls}
use Rattle.vx_link_lines.proofs.DeliverLine.{found, kind_answer, kind_update, never_lost, packet_kept, sites_many}
use Rattle.vx_link_lines.proofs.HeardLine.{unsited_stays}
use Rattle.vx_yard.proofs.OfSites.{all_still}
use Rattle.vx_link_lines.proofs.deliver.deliver_line.Goals as goal

pub returns-in_default-clause-leads : goal.returns-in_default-clause-leads
returns-in_default-clause-leads g c = λ d stands carries good.
    let q = packet_kept d c.args.yard.now c.args.number carries c.requires.free in
    absurd (never_lost c.part_at.result (packet_at d.world.packets c.args.number) q.0 (c.part_at.ensures d.world.packets carries.flight) q.1 c.in_default.is)

pub returns-in_default-clause-asked : goal.returns-in_default-clause-asked
returns-in_default-clause-asked g c = λ d stands. all_still c.args.yard.now _ refl

pub returns-in_default-clause-told : goal.returns-in_default-clause-told
returns-in_default-clause-told g c = λ told. told

pub returns-in_default-clause-files : goal.returns-in_default-clause-files
returns-in_default-clause-files g c = refl

pub returns-then-target-len-clause-leads : goal.returns-then-target-len-clause-leads
returns-then-target-len-clause-leads g c = λ d stands carries good.
    let y = c.args.yard.now in
    let f = found d y c.args.number c.part_at.result c.in-Some.part carries c.requires.free (c.part_at.ensures d.world.packets carries.flight) c.in-Some.is in
    let past : d.world.sites ≤ f.packet.target = omega (arith, c.if-target-len.true, c.len.ensures, y.facts.ok, sites_many d y stands, f.to) in
    unsited_stays d c.args.number f.packet y f.at stands past

pub returns-then-target-len-clause-asked : goal.returns-then-target-len-clause-asked
returns-then-target-len-clause-asked g c = λ d stands. all_still c.args.yard.now _ refl

pub returns-then-target-len-clause-told : goal.returns-then-target-len-clause-told
returns-then-target-len-clause-told g c = λ told. told

pub returns-then-target-len-clause-files : goal.returns-then-target-len-clause-files
returns-then-target-len-clause-files g c = refl

pub hand_update-requires-clause-disk_set : goal.hand_update-requires-clause-disk_set
hand_update-requires-clause-disk_set g c κs within = omega (arith, c.if-target-len.false, c.len.ensures, c.args.yard.now.facts.ok, c.requires.kept.few, c.requires.kept.eight)

pub hand_update-requires-clause-site : goal.hand_update-requires-clause-site
hand_update-requires-clause-site g c κs within = omega (arith, c.if-target-len.false, c.len.ensures, c.args.yard.now.facts.ok)

pub hand_update-requires-clause-place : goal.hand_update-requires-clause-place
hand_update-requires-clause-place g c κs within = omega (arith, c.if-target-len.false, c.len.ensures, c.args.yard.now.facts.ok, c.requires.kept.few, c.requires.kept.places)

pub hand_update-requires-clause-feeder : goal.hand_update-requires-clause-feeder
hand_update-requires-clause-feeder g c κs within = omega (arith, c.if-target-len.false, c.len.ensures, c.args.yard.now.facts.ok, c.requires.kept.few, c.requires.kept.numbers)

pub hand_update-requires-clause-few : goal.hand_update-requires-clause-few
hand_update-requires-clause-few g c κs within = omega (arith, c.if-target-len.false, c.len.ensures, c.args.yard.now.facts.ok, c.requires.kept.few)

pub returns-then-part-eq-UPDATE-clause-leads : goal.returns-then-part-eq-UPDATE-clause-leads
returns-then-part-eq-UPDATE-clause-leads g c = λ d stands carries good.
    let y = c.args.yard.now in
    let f = found d y c.args.number c.part_at.result c.in-Some.part carries c.requires.free (c.part_at.ensures d.world.packets carries.flight) c.in-Some.is in
    let kind = ap (λ (x : Part). x.kind) f.is in
    let update = kind_update f.packet (omega (arith, c.if-part-eq-UPDATE.true, kind)) in
    let below : c.in-Some.part.target < d.world.sites = omega (arith, c.if-target-len.false, c.len.ensures, y.facts.ok, sites_many d y stands) in
    c.hand_update.ensures.leads d f.packet update.0 update.1 stands carries good f.at f.to below update.2

pub returns-then-part-eq-UPDATE-clause-asked : goal.returns-then-part-eq-UPDATE-clause-asked
returns-then-part-eq-UPDATE-clause-asked g c = λ d stands. c.hand_update.ensures.asked

pub returns-then-part-eq-UPDATE-clause-told : goal.returns-then-part-eq-UPDATE-clause-told
returns-then-part-eq-UPDATE-clause-told g c = c.hand_update.ensures.told

pub returns-then-part-eq-UPDATE-clause-files : goal.returns-then-part-eq-UPDATE-clause-files
returns-then-part-eq-UPDATE-clause-files g c = c.hand_update.ensures.files

pub hear_answer-requires-clause-disk_set : goal.hear_answer-requires-clause-disk_set
hear_answer-requires-clause-disk_set g c κs within = omega (arith, c.if-target-len.false, c.len.ensures, c.args.yard.now.facts.ok, c.requires.kept.few, c.requires.kept.eight)

pub hear_answer-requires-clause-site : goal.hear_answer-requires-clause-site
hear_answer-requires-clause-site g c κs within = omega (arith, c.if-target-len.false, c.len.ensures, c.args.yard.now.facts.ok)

pub hear_answer-requires-clause-place : goal.hear_answer-requires-clause-place
hear_answer-requires-clause-place g c κs within = omega (arith, c.if-target-len.false, c.len.ensures, c.args.yard.now.facts.ok, c.requires.kept.few, c.requires.kept.places)

pub hear_answer-requires-clause-few : goal.hear_answer-requires-clause-few
hear_answer-requires-clause-few g c κs within = omega (arith, c.if-target-len.false, c.len.ensures, c.args.yard.now.facts.ok, c.requires.kept.few)

pub returns-clause-leads : goal.returns-clause-leads
returns-clause-leads g c = λ d stands carries good.
    let y = c.args.yard.now in
    let f = found d y c.args.number c.part_at.result c.in-Some.part carries c.requires.free (c.part_at.ensures d.world.packets carries.flight) c.in-Some.is in
    let kind = ap (λ (x : Part). x.kind) f.is in
    let below : c.in-Some.part.target < d.world.sites = omega (arith, c.if-target-len.false, c.len.ensures, y.facts.ok, sites_many d y stands) in
    c.hear_answer.ensures.leads d f.packet stands carries good f.at f.to f.from below (kind_answer f.packet (λ e. omega (arith, c.if-part-eq-UPDATE.false, kind, e)))

pub returns-clause-asked : goal.returns-clause-asked
returns-clause-asked g c = λ d stands.
    let y = c.args.yard.now in
    c.hear_answer.ensures.asked d stands (omega (arith, c.if-target-len.false, c.len.ensures, y.facts.ok, sites_many d y stands))

pub returns-clause-told : goal.returns-clause-told
returns-clause-told g c = c.hear_answer.ensures.told

pub returns-clause-files : goal.returns-clause-files
returns-clause-files g c = c.hear_answer.ensures.files

pub returns-in_default-clause-called : goal.returns-in_default-clause-called
returns-in_default-clause-called g c = λ d stands carries.
    let q = packet_kept d c.args.yard.now c.args.number carries c.requires.free in
    absurd (never_lost c.part_at.result (packet_at d.world.packets c.args.number) q.0 (c.part_at.ensures d.world.packets carries.flight) q.1 c.in_default.is)

pub returns-then-target-len-clause-called : goal.returns-then-target-len-clause-called
returns-then-target-len-clause-called g c = λ d stands carries.
    let y = c.args.yard.now in
    let f = found d y c.args.number c.part_at.result c.in-Some.part carries c.requires.free (c.part_at.ensures d.world.packets carries.flight) c.in-Some.is in
    let past : d.world.sites ≤ f.packet.target = omega (arith, c.if-target-len.true, c.len.ensures, y.facts.ok, sites_many d y stands, f.to) in
    unsited_calls d.world c.args.number f.packet Ignored y f.at past

pub returns-then-part-eq-UPDATE-clause-called : goal.returns-then-part-eq-UPDATE-clause-called
returns-then-part-eq-UPDATE-clause-called g c = λ d stands carries.
    let y = c.args.yard.now in
    let new = c.hand_update.new.yard in
    let f = found d y c.args.number c.part_at.result c.in-Some.part carries c.requires.free (c.part_at.ensures d.world.packets carries.flight) c.in-Some.is in
    let kind = ap (λ (x : Part). x.kind) f.is in
    let update = kind_update f.packet (omega (arith, c.if-part-eq-UPDATE.true, kind)) in
    let below : c.in-Some.part.target < d.world.sites = omega (arith, c.if-target-len.false, c.len.ensures, y.facts.ok, sites_many d y stands) in
    if_ok_then (λ said. OfSite (TouchesNone said) c.in-Some.part.target y new) (λ said. HasCalled d.world (Deliver c.args.number) said y new) c.hand_update.result
    (λ said calls. update_calls d.world c.args.number f.packet said y new c.in-Some.part.target f.at f.to below update.0 update.1 update.2 calls) c.hand_update.ensures.called

pub returns-clause-called : goal.returns-clause-called
returns-clause-called g c = λ d stands carries.
    let y = c.args.yard.now in
    let new = c.hear_answer.new.yard in
    let t = c.in-Some.part.target in
    let q = c.in-Some.part.source in
    let f = found d y c.args.number c.part_at.result c.in-Some.part carries c.requires.free (c.part_at.ensures d.world.packets carries.flight) c.in-Some.is in
    let kind = ap (λ (x : Part). x.kind) f.is in
    let below : t < d.world.sites = omega (arith, c.if-target-len.false, c.len.ensures, y.facts.ok, sites_many d y stands) in
    let answers = kind_answer f.packet (λ e. omega (arith, c.if-part-eq-UPDATE.false, kind, e)) in
    if_ok_then (λ said. OfSite (HeadUnder (heard_calls d.world c.args.number t q) said) t y new) (λ said. HasCalled d.world (Deliver c.args.number) said y new) c.hear_answer.result
    (λ said calls. answer_calls d.world c.args.number f.packet said y new t f.at f.to below q f.from answers calls)
    (c.hear_answer.ensures.called d f.packet stands carries f.at f.to f.from below answers)
