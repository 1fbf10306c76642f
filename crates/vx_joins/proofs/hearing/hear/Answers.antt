-- A greeting or an acknowledgement at the disks of a site whose link hears it.
use Rattle.std.proofs.Common.{◌≡◌, ◌<◌, ℕ, ap, subst, refl, arith}
use Rattle.std.specs.Prelude.{Result, Ok, Err}
use Rattle.vx_model.specs.declared.errors.Stop.{Stop}
use Rattle.vx_model.specs.declared.errors.Stop.TheVariants.{No as StoppedBy, OutOfMemory}
use Rattle.vx_model.specs.declared.link.Link.{Link as PlainLink}
use Rattle.vx_model.specs.declared.state.State.{State}
use Rattle.vx_history.specs.declared.event.Said.{Said}
use Rattle.vx_history.specs.LinkForms.{plain_link}
use Rattle.vx_peers.specs.Answers.{Listens}
use Rattle.vx_courier.specs.Together.{AssemblyStands}
use Rattle.vx_diskset.specs.Asked.{HeadUnder, stored_calls}
use Rattle.vx_diskset.specs.Holds.{beside_of, header_links, state_with}
use Rattle.vx_diskset.specs.Stands.{SiteStands}
use Rattle.vx_joins.specs.Hearings.{HeardAt, IsListening, PartHeardAt, reply_by, world_behind}
use Rattle.vx_joins.proofs.StoresCalls.{never_stops, stores_as}
use Rattle.vx_joins.proofs.StoresLink.{heard_not, heard_ok, none_above, part_heard_not, part_heard_ok, stop_under, stored_as}
use Rattle.vx_joins.proofs.hearing.hear.Goals as goal

pub returns-in-Err-clause-heard : goal.returns-in-Err-clause-heard
returns-in-Err-clause-heard g c = λ d p site at target answers one flight listening link assembly stands state raw.
    let f = g.N.Net.flying c.args.flight.now in
    let a = c.args.assembly.now in
    subst
    (λ (t : ℕ). IsListening (d.world.nodes t) (d.world.links t p.source) → c.args.link.now ≡ plain_link p.source (d.world.links t p.source) → SiteStands (beside_of d t) (d.world.nodes t) c.args.disks.now
    → c.args.state.now ≡ state_with (d.world.nodes t) (header_links d.world t) → HeardAt d t p.source c.args.number c.args.disks.now c.keep_stored.new.disks c.args.link.now a f (Err c.in-Err.stop)) target
    (λ listening link stands state.
    let safe = c.last-safe.ensures.is (beside_of d p.target) (d.world.nodes p.target) stands listening.up listening.running in
    let line = ap (λ (s : State). s.line) state in
    let listens = (let l : Listens (d.world.nodes p.target) (d.world.links p.target p.source) c.last-safe.result c.args.state.now.line =
    record { up = listening.up; running = listening.running; keeps = listening.keeps; linked = listening.linked; safe_is = safe; line_is = line } in l) in
    let heard = c.heard_link-heard.ensures d.world p p.target at refl answers flight listens link in
    let stored = c.in-Err.ensures.kept (beside_of d p.target) (d.world.nodes p.target) stands raw listening.up listening.running listening.apart state (none_above d c.args.number p at answers f flight c.last-safe.result c.args.state.now.line listens listening.plain c.args.link.now c.heard_link-heard.result link heard) in
    heard_not d c.args.number p at answers f flight c.last-safe.result c.args.state.now.line listens listening.plain c.args.disks.now c.keep_stored.new.disks c.args.link.now a c.in-Err.stop
    (stored_as d c.args.number p at answers f flight c.last-safe.result c.args.state.now.line listens listening.plain c.args.disks.now c.keep_stored.new.disks c.args.link.now c.heard_link-heard.result (Err c.in-Err.stop) link heard stored))
    listening link stands state

pub returns-in-Ok-clause-heard : goal.returns-in-Ok-clause-heard
returns-in-Ok-clause-heard g c = λ d p site at target answers one flight listening link assembly stands state raw.
    let f = g.N.Net.flying c.args.flight.now in
    let new = c.deliver_answer.new.assembly in
    let moved = c.deliver_answer.new.link in
    let said = c.deliver_answer.result in
    subst
    (λ (t : ℕ). IsListening (d.world.nodes t) (d.world.links t p.source) → c.args.link.now ≡ plain_link p.source (d.world.links t p.source) → AssemblyStands d.world.packets t (d.world.gathering t) c.args.assembly.now
    → SiteStands (beside_of d t) (d.world.nodes t) c.args.disks.now → c.args.state.now ≡ state_with (d.world.nodes t) (header_links d.world t) → HeardAt d t p.source c.args.number c.args.disks.now c.keep_stored.new.disks moved new f (Ok said)) target
    (λ listening link assembly stands state.
    let safe = c.last-safe.ensures.is (beside_of d p.target) (d.world.nodes p.target) stands listening.up listening.running in
    let line = ap (λ (s : State). s.line) state in
    let listens = (let l : Listens (d.world.nodes p.target) (d.world.links p.target p.source) c.last-safe.result c.args.state.now.line =
    record { up = listening.up; running = listening.running; keeps = listening.keeps; linked = listening.linked; safe_is = safe; line_is = line } in l) in
    let heard = c.heard_link-heard.ensures d.world p p.target at refl answers flight listens link in
    let stored = c.in-Ok.ensures.kept (beside_of d p.target) (d.world.nodes p.target) stands raw listening.up listening.running listening.apart state (none_above d c.args.number p at answers f flight c.last-safe.result c.args.state.now.line listens listening.plain c.args.link.now c.heard_link-heard.result link heard) in
    let answered = c.deliver_answer.ensures.exact d.world p p.target at refl answers one flight listens link assembly in
    heard_ok d c.args.number p at answers f flight c.last-safe.result c.args.state.now.line listens listening.plain c.args.disks.now c.keep_stored.new.disks moved new said
    (stored_as d c.args.number p at answers f flight c.last-safe.result c.args.state.now.line listens listening.plain c.args.disks.now c.keep_stored.new.disks c.args.link.now c.heard_link-heard.result (Ok tt) link heard stored)
    answered)
    listening link assembly stands state

pub returns-in-Err-clause-called : goal.returns-in-Err-clause-called
returns-in-Err-clause-called g c = λ beside n stands. c.in-Err.ensures.called beside n stands

pub returns-in-Ok-clause-called : goal.returns-in-Ok-clause-called
returns-in-Ok-clause-called g c = λ beside n stands. c.in-Ok.ensures.called beside n stands

pub returns-in-Err-clause-part : goal.returns-in-Err-clause-part
returns-in-Err-clause-part g c = λ d p site at target answers flight listening link stands state raw.
    let f = g.N.Net.flying c.args.flight.now in
    subst
    (λ (t : ℕ). IsListening (d.world.nodes t) (d.world.links t p.source) → c.args.link.now ≡ plain_link p.source (d.world.links t p.source) → SiteStands (beside_of d t) (d.world.nodes t) c.args.disks.now
    → c.args.state.now ≡ state_with (d.world.nodes t) (header_links d.world t) → PartHeardAt d t p.source c.args.number c.args.disks.now c.keep_stored.new.disks c.args.link.now f (Err c.in-Err.stop)) target
    (λ listening link stands state.
    let safe = c.last-safe.ensures.is (beside_of d p.target) (d.world.nodes p.target) stands listening.up listening.running in
    let line = ap (λ (s : State). s.line) state in
    let listens = (let l : Listens (d.world.nodes p.target) (d.world.links p.target p.source) c.last-safe.result c.args.state.now.line =
    record { up = listening.up; running = listening.running; keeps = listening.keeps; linked = listening.linked; safe_is = safe; line_is = line } in l) in
    let heard = c.heard_link-heard.ensures d.world p p.target at refl answers flight listens link in
    let stored = c.in-Err.ensures.kept (beside_of d p.target) (d.world.nodes p.target) stands raw listening.up listening.running listening.apart state (none_above d c.args.number p at answers f flight c.last-safe.result c.args.state.now.line listens listening.plain c.args.link.now c.heard_link-heard.result link heard) in
    part_heard_not d c.args.number p at answers f flight c.last-safe.result c.args.state.now.line listens listening.plain c.args.disks.now c.keep_stored.new.disks c.args.link.now c.in-Err.stop
    (stored_as d c.args.number p at answers f flight c.last-safe.result c.args.state.now.line listens listening.plain c.args.disks.now c.keep_stored.new.disks c.args.link.now c.heard_link-heard.result (Err c.in-Err.stop) link heard stored))
    listening link stands state

pub returns-in-Ok-clause-part : goal.returns-in-Ok-clause-part
returns-in-Ok-clause-part g c = λ d p site at target answers flight listening link stands state raw.
    let f = g.N.Net.flying c.args.flight.now in
    let moved = c.deliver_answer.new.link in
    let said = c.deliver_answer.result in
    subst
    (λ (t : ℕ). IsListening (d.world.nodes t) (d.world.links t p.source) → c.args.link.now ≡ plain_link p.source (d.world.links t p.source)
    → SiteStands (beside_of d t) (d.world.nodes t) c.args.disks.now → c.args.state.now ≡ state_with (d.world.nodes t) (header_links d.world t) → PartHeardAt d t p.source c.args.number c.args.disks.now c.keep_stored.new.disks moved f (Ok said)) target
    (λ listening link stands state.
    let safe = c.last-safe.ensures.is (beside_of d p.target) (d.world.nodes p.target) stands listening.up listening.running in
    let line = ap (λ (s : State). s.line) state in
    let listens = (let l : Listens (d.world.nodes p.target) (d.world.links p.target p.source) c.last-safe.result c.args.state.now.line =
    record { up = listening.up; running = listening.running; keeps = listening.keeps; linked = listening.linked; safe_is = safe; line_is = line } in l) in
    let heard = c.heard_link-heard.ensures d.world p p.target at refl answers flight listens link in
    let stored = c.in-Ok.ensures.kept (beside_of d p.target) (d.world.nodes p.target) stands raw listening.up listening.running listening.apart state (none_above d c.args.number p at answers f flight c.last-safe.result c.args.state.now.line listens listening.plain c.args.link.now c.heard_link-heard.result link heard) in
    let answered = c.deliver_answer.ensures.part d.world p p.target at refl answers flight listens link in
    part_heard_ok d c.args.number p at answers f flight c.last-safe.result c.args.state.now.line listens listening.plain c.args.disks.now c.keep_stored.new.disks moved said
    (stored_as d c.args.number p at answers f flight c.last-safe.result c.args.state.now.line listens listening.plain c.args.disks.now c.keep_stored.new.disks c.args.link.now c.heard_link-heard.result (Ok tt) link heard stored)
    answered)
    listening link stands state

pub returns-in-Err-clause-short : goal.returns-in-Err-clause-short
returns-in-Err-clause-short g c = λ is. c.in-Err.ensures.short (stop_under Said (Unit {0}) c.in-Err.stop OutOfMemory is)

pub returns-in-Err-clause-rises : goal.returns-in-Err-clause-rises
returns-in-Err-clause-rises g c = λ d p site why at target answers flight listening link stands state is.
    subst
    (λ (t : ℕ). IsListening (d.world.nodes t) (d.world.links t p.source) → c.args.link.now ≡ plain_link p.source (d.world.links t p.source) → SiteStands (beside_of d t) (d.world.nodes t) c.args.disks.now
    → c.args.state.now ≡ state_with (d.world.nodes t) (header_links d.world t) → (d.world.links t p.source).stored < ((world_behind d.world c.args.number).links t p.source).stored) target
    (λ listening link stands state.
    let safe = c.last-safe.ensures.is (beside_of d p.target) (d.world.nodes p.target) stands listening.up listening.running in
    let line = ap (λ (s : State). s.line) state in
    let listens = (let l : Listens (d.world.nodes p.target) (d.world.links p.target p.source) c.last-safe.result c.args.state.now.line =
    record { up = listening.up; running = listening.running; keeps = listening.keeps; linked = listening.linked; safe_is = safe; line_is = line } in l) in
    let heard = c.heard_link-heard.ensures d.world p p.target at refl answers flight listens link in
    omega (arith, c.in-Err.ensures.rises why (stop_under Said (Unit {0}) c.in-Err.stop (StoppedBy why) is), ap (λ (k : PlainLink). k.stored) link, ap (λ (k : PlainLink). k.stored) heard))
    listening link stands state

pub returns-in-Ok-clause-headed : goal.returns-in-Ok-clause-headed
returns-in-Ok-clause-headed g c = λ d p site at target answers flight listening link stands state some.
    subst
    (λ (t : ℕ). IsListening (d.world.nodes t) (d.world.links t p.source) → c.args.link.now ≡ plain_link p.source (d.world.links t p.source) → SiteStands (beside_of d t) (d.world.nodes t) c.args.disks.now
    → c.args.state.now ≡ state_with (d.world.nodes t) (header_links d.world t)
    → HeadUnder (stored_calls (d.world.links t p.source).stored ((world_behind d.world c.args.number).links t p.source).stored) (reply_by (let r : Result Said Stop = Ok c.deliver_answer.result in r)) c.args.disks.now c.keep_stored.new.disks) target
    (λ listening link stands state.
    let safe = c.last-safe.ensures.is (beside_of d p.target) (d.world.nodes p.target) stands listening.up listening.running in
    let line = ap (λ (s : State). s.line) state in
    let listens = (let l : Listens (d.world.nodes p.target) (d.world.links p.target p.source) c.last-safe.result c.args.state.now.line =
    record { up = listening.up; running = listening.running; keeps = listening.keeps; linked = listening.linked; safe_is = safe; line_is = line } in l) in
    let heard = c.heard_link-heard.ensures d.world p p.target at refl answers flight listens link in
    stores_as c.args.link.now.stored (d.world.links p.target p.source).stored c.heard_link-heard.result.stored ((world_behind d.world c.args.number).links p.target p.source).stored (reply_by (let r : Result Said Stop = Ok c.deliver_answer.result in r))
    c.args.disks.now c.keep_stored.new.disks (ap (λ (k : PlainLink). k.stored) link) (ap (λ (k : PlainLink). k.stored) heard) (c.in-Ok.ensures.headed (beside_of d p.target) (d.world.nodes p.target) stands (λ is. never_stops tt OutOfMemory is)))
    listening link stands state

pub returns-in-Err-clause-headed : goal.returns-in-Err-clause-headed
returns-in-Err-clause-headed g c = λ d p site at target answers flight listening link stands state some.
    subst
    (λ (t : ℕ). IsListening (d.world.nodes t) (d.world.links t p.source) → c.args.link.now ≡ plain_link p.source (d.world.links t p.source) → SiteStands (beside_of d t) (d.world.nodes t) c.args.disks.now
    → c.args.state.now ≡ state_with (d.world.nodes t) (header_links d.world t)
    → HeadUnder (stored_calls (d.world.links t p.source).stored ((world_behind d.world c.args.number).links t p.source).stored) (reply_by (let r : Result Said Stop = Err c.in-Err.stop in r)) c.args.disks.now c.keep_stored.new.disks) target
    (λ listening link stands state.
    let safe = c.last-safe.ensures.is (beside_of d p.target) (d.world.nodes p.target) stands listening.up listening.running in
    let line = ap (λ (s : State). s.line) state in
    let listens = (let l : Listens (d.world.nodes p.target) (d.world.links p.target p.source) c.last-safe.result c.args.state.now.line =
    record { up = listening.up; running = listening.running; keeps = listening.keeps; linked = listening.linked; safe_is = safe; line_is = line } in l) in
    let heard = c.heard_link-heard.ensures d.world p p.target at refl answers flight listens link in
    stores_as c.args.link.now.stored (d.world.links p.target p.source).stored c.heard_link-heard.result.stored ((world_behind d.world c.args.number).links p.target p.source).stored (reply_by (let r : Result Said Stop = Err c.in-Err.stop in r))
    c.args.disks.now c.keep_stored.new.disks (ap (λ (k : PlainLink). k.stored) link) (ap (λ (k : PlainLink). k.stored) heard) (c.in-Err.ensures.headed (beside_of d p.target) (d.world.nodes p.target) stands (λ is. some (stop_under (Unit {0}) Said c.in-Err.stop OutOfMemory is))))
    listening link stands state
