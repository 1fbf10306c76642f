-- Each line that works on links.
use Rattle.std.proofs.Common.{◌≡◌, ap, false, refl, subst, sym}
use Rattle.std.specs.Prelude.{IfOk}
use Rattle.vx_model.specs.declared.link.Prot.TheVariants.{Fail}
use Rattle.vx_script.specs.declared.line.ScriptLine.{ScriptLine}
use Rattle.vx_events.specs.RvgLinks.{links_rvg}
use Rattle.vx_yard.specs.OfSites.{AsAsked, HasCalled}
use Rattle.vx_yard.specs.Standing.{Leads, LeadsIs}
use Rattle.vx_yard.specs.Stands.{AreTold}
use Rattle.vx_yard.specs.Working.{IsFree}
use Rattle.vx_link_lines.proofs.AnswerFor.{if_ok, memory_taken}
use Rattle.vx_link_lines.proofs.links.work_link.Goals as goal

pub link_line-requires-clause-free : goal.link_line-requires-clause-free
link_line-requires-clause-free g c = λ κs lives. (_, subst (λ (line : ScriptLine). IsFree c.args.yard.now line) c.in-Link.is c.requires.free)

pub returns-in-Link-clause-leads : goal.returns-in-Link-clause-leads
returns-in-Link-clause-leads g c = λ d stands off carries.
    subst (λ (line : ScriptLine). LeadsIs d line c.args.yard.now c.link_line.new.yard c.link_line.result) (sym c.in-Link.is) (c.link_line.ensures.leads d _ stands (subst (λ (line : ScriptLine). links_rvg d.world line ≡ false) c.in-Link.is off))

pub returns-in-Link-clause-asked : goal.returns-in-Link-clause-asked
returns-in-Link-clause-asked g c = λ d stands off.
    subst (λ (line : ScriptLine). AsAsked d.world line c.args.yard.now c.link_line.new.yard) (sym c.in-Link.is) (c.link_line.ensures.asked d Fail stands (subst (λ (line : ScriptLine). links_rvg d.world line ≡ false) c.in-Link.is off))

pub returns-in-Link-clause-called : goal.returns-in-Link-clause-called
returns-in-Link-clause-called g c = λ d stands off.
    subst (λ (line : ScriptLine). IfOk c.link_line.result (λ said. HasCalled d.world line said c.args.yard.now c.link_line.new.yard)) (sym c.in-Link.is) (c.link_line.ensures.called d Fail stands (subst (λ (line : ScriptLine). links_rvg d.world line ≡ false) c.in-Link.is off))

pub set_line-requires-clause-free : goal.set_line-requires-clause-free
set_line-requires-clause-free g c = λ κs lives. (_, subst (λ (line : ScriptLine). IsFree c.args.yard.now line) c.in-Set.is c.requires.free)

pub returns-in-Set-clause-leads : goal.returns-in-Set-clause-leads
returns-in-Set-clause-leads g c = λ d stands off carries.
    subst (λ (line : ScriptLine). LeadsIs d line c.args.yard.now c.set_line.new.yard c.set_line.result) (sym c.in-Set.is) (c.set_line.ensures.leads d _ stands)

pub returns-in-Set-clause-asked : goal.returns-in-Set-clause-asked
returns-in-Set-clause-asked g c = λ d stands off.
    subst (λ (line : ScriptLine). AsAsked d.world line c.args.yard.now c.set_line.new.yard) (sym c.in-Set.is) (c.set_line.ensures.asked d Fail stands)

pub returns-in-Set-clause-called : goal.returns-in-Set-clause-called
returns-in-Set-clause-called g c = λ d stands off.
    subst (λ (line : ScriptLine). IfOk c.set_line.result (λ said. HasCalled d.world line said c.args.yard.now c.set_line.new.yard)) (sym c.in-Set.is) (c.set_line.ensures.called d Fail stands)

pub connect_line-requires-clause-free : goal.connect_line-requires-clause-free
connect_line-requires-clause-free g c = λ κs lives. subst (λ (line : ScriptLine). IsFree c.args.yard.now line) c.in-Connect.is c.requires.free

pub returns-in-Connect-clause-leads : goal.returns-in-Connect-clause-leads
returns-in-Connect-clause-leads g c = λ d stands off carries.
    subst (λ (line : ScriptLine). LeadsIs d line c.args.yard.now c.connect_line.new.yard c.connect_line.result) (sym c.in-Connect.is) (c.connect_line.ensures.leads d stands carries)

pub returns-in-Connect-clause-asked : goal.returns-in-Connect-clause-asked
returns-in-Connect-clause-asked g c = λ d stands off.
    subst (λ (line : ScriptLine). AsAsked d.world line c.args.yard.now c.connect_line.new.yard) (sym c.in-Connect.is) (ap (λ es. es.items) c.connect_line.ensures.still)

pub returns-in-Connect-clause-told : goal.returns-in-Connect-clause-told
returns-in-Connect-clause-told g c = λ told. subst (λ es. AreTold es.items) c.connect_line.ensures.still told

pub returns-in-Connect-clause-called : goal.returns-in-Connect-clause-called
returns-in-Connect-clause-called g c = λ d stands off.
    if_ok (λ said. HasCalled d.world c.args.words.now said c.args.yard.now c.connect_line.new.yard) c.connect_line.result
    (λ said. subst (λ (line : ScriptLine). HasCalled d.world line said c.args.yard.now c.connect_line.new.yard) (sym c.in-Connect.is) tt)

pub cut_line-requires-clause-free : goal.cut_line-requires-clause-free
cut_line-requires-clause-free g c = λ κs lives. subst (λ (line : ScriptLine). IsFree c.args.yard.now line) c.in-Cut.is c.requires.free

pub returns-in-Cut-clause-leads : goal.returns-in-Cut-clause-leads
returns-in-Cut-clause-leads g c = λ d stands off carries.
    subst (λ (line : ScriptLine). Leads d line c.cut_line.result c.args.yard.now c.cut_line.new.yard) (sym c.in-Cut.is) (c.cut_line.ensures.leads d stands carries)

pub returns-in-Cut-clause-asked : goal.returns-in-Cut-clause-asked
returns-in-Cut-clause-asked g c = λ d stands off.
    subst (λ (line : ScriptLine). AsAsked d.world line c.args.yard.now c.cut_line.new.yard) (sym c.in-Cut.is) (ap (λ es. es.items) c.cut_line.ensures.still)

pub returns-in-Cut-clause-told : goal.returns-in-Cut-clause-told
returns-in-Cut-clause-told g c = λ told. subst (λ es. AreTold es.items) c.cut_line.ensures.still told

pub returns-in-Cut-clause-called : goal.returns-in-Cut-clause-called
returns-in-Cut-clause-called g c = λ d stands off. subst (λ (line : ScriptLine). HasCalled d.world line c.cut_line.result c.args.yard.now c.cut_line.new.yard) (sym c.in-Cut.is) tt

pub pause_line-requires-clause-free : goal.pause_line-requires-clause-free
pause_line-requires-clause-free g c = λ κs lives. subst (λ (line : ScriptLine). IsFree c.args.yard.now line) c.in-Pause.is c.requires.free

pub returns-in-Pause-clause-leads : goal.returns-in-Pause-clause-leads
returns-in-Pause-clause-leads g c = λ d stands off carries.
    subst (λ (line : ScriptLine). Leads d line c.pause_line.result c.args.yard.now c.pause_line.new.yard) (sym c.in-Pause.is) (c.pause_line.ensures.leads d stands carries)

pub returns-in-Pause-clause-asked : goal.returns-in-Pause-clause-asked
returns-in-Pause-clause-asked g c = λ d stands off.
    subst (λ (line : ScriptLine). AsAsked d.world line c.args.yard.now c.pause_line.new.yard) (sym c.in-Pause.is) (ap (λ es. es.items) c.pause_line.ensures.still)

pub returns-in-Pause-clause-told : goal.returns-in-Pause-clause-told
returns-in-Pause-clause-told g c = λ told. subst (λ es. AreTold es.items) c.pause_line.ensures.still told

pub returns-in-Pause-clause-called : goal.returns-in-Pause-clause-called
returns-in-Pause-clause-called g c = λ d stands off. subst (λ (line : ScriptLine). HasCalled d.world line c.pause_line.result c.args.yard.now c.pause_line.new.yard) (sym c.in-Pause.is) tt

pub resume_line-requires-clause-free : goal.resume_line-requires-clause-free
resume_line-requires-clause-free g c = λ κs lives. subst (λ (line : ScriptLine). IsFree c.args.yard.now line) c.in-Resume.is c.requires.free

pub returns-in-Resume-clause-leads : goal.returns-in-Resume-clause-leads
returns-in-Resume-clause-leads g c = λ d stands off carries.
    subst (λ (line : ScriptLine). Leads d line c.resume_line.result c.args.yard.now c.resume_line.new.yard) (sym c.in-Resume.is) (c.resume_line.ensures.leads d stands carries)

pub returns-in-Resume-clause-asked : goal.returns-in-Resume-clause-asked
returns-in-Resume-clause-asked g c = λ d stands off.
    subst (λ (line : ScriptLine). AsAsked d.world line c.args.yard.now c.resume_line.new.yard) (sym c.in-Resume.is) (ap (λ es. es.items) c.resume_line.ensures.still)

pub returns-in-Resume-clause-told : goal.returns-in-Resume-clause-told
returns-in-Resume-clause-told g c = λ told. subst (λ es. AreTold es.items) c.resume_line.ensures.still told

pub returns-in-Resume-clause-called : goal.returns-in-Resume-clause-called
returns-in-Resume-clause-called g c = λ d stands off. subst (λ (line : ScriptLine). HasCalled d.world line c.resume_line.result c.args.yard.now c.resume_line.new.yard) (sym c.in-Resume.is) tt

pub tick_line-requires-clause-free : goal.tick_line-requires-clause-free
tick_line-requires-clause-free g c = λ κs lives. subst (λ (line : ScriptLine). IsFree c.args.yard.now line) c.in-Tick.is c.requires.free

pub returns-in-Tick-clause-leads : goal.returns-in-Tick-clause-leads
returns-in-Tick-clause-leads g c = λ d stands off carries.
    subst (λ (line : ScriptLine). Leads d line c.tick_line.result c.args.yard.now c.tick_line.new.yard) (sym c.in-Tick.is) (c.tick_line.ensures.leads d stands carries)

pub returns-in-Tick-clause-asked : goal.returns-in-Tick-clause-asked
returns-in-Tick-clause-asked g c = λ d stands off.
    subst (λ (line : ScriptLine). AsAsked d.world line c.args.yard.now c.tick_line.new.yard) (sym c.in-Tick.is) (ap (λ es. es.items) c.tick_line.ensures.still)

pub returns-in-Tick-clause-told : goal.returns-in-Tick-clause-told
returns-in-Tick-clause-told g c = λ told. subst (λ es. AreTold es.items) c.tick_line.ensures.still told

pub returns-in-Tick-clause-called : goal.returns-in-Tick-clause-called
returns-in-Tick-clause-called g c = λ d stands off. subst (λ (line : ScriptLine). HasCalled d.world line c.tick_line.result c.args.yard.now c.tick_line.new.yard) (sym c.in-Tick.is) tt

pub wait_line-requires-clause-free : goal.wait_line-requires-clause-free
wait_line-requires-clause-free g c = λ κs lives. subst (λ (line : ScriptLine). IsFree c.args.yard.now line) c.in-Wait.is c.requires.free

pub returns-in-Wait-clause-leads : goal.returns-in-Wait-clause-leads
returns-in-Wait-clause-leads g c = λ d stands off carries.
    subst (λ (line : ScriptLine). Leads d line c.wait_line.result c.args.yard.now c.args.yard.now) (sym c.in-Wait.is) (c.wait_line.ensures.leads d stands carries)

pub returns-in-Wait-clause-asked : goal.returns-in-Wait-clause-asked
returns-in-Wait-clause-asked g c = λ d stands off. subst (λ (line : ScriptLine). AsAsked d.world line c.args.yard.now c.args.yard.now) (sym c.in-Wait.is) refl

pub returns-in-Wait-clause-called : goal.returns-in-Wait-clause-called
returns-in-Wait-clause-called g c = λ d stands off. subst (λ (line : ScriptLine). HasCalled d.world line c.wait_line.result c.args.yard.now c.args.yard.now) (sym c.in-Wait.is) tt

pub pump_line-requires-clause-free : goal.pump_line-requires-clause-free
pump_line-requires-clause-free g c = λ κs lives. subst (λ (line : ScriptLine). IsFree c.args.yard.now line) c.in-Pump.is c.requires.free

pub returns-in-Pump-clause-leads : goal.returns-in-Pump-clause-leads
returns-in-Pump-clause-leads g c = λ d stands off carries.
    subst (λ (line : ScriptLine). LeadsIs d line c.args.yard.now c.pump_line.new.yard c.pump_line.result) (sym c.in-Pump.is) (c.pump_line.ensures.leads d stands carries)

pub returns-in-Pump-clause-asked : goal.returns-in-Pump-clause-asked
returns-in-Pump-clause-asked g c = λ d stands off.
    subst (λ (line : ScriptLine). AsAsked d.world line c.args.yard.now c.pump_line.new.yard) (sym c.in-Pump.is) (c.pump_line.ensures.asked d stands)

pub returns-in-Pump-clause-called : goal.returns-in-Pump-clause-called
returns-in-Pump-clause-called g c = λ d stands off.
    subst (λ (line : ScriptLine). IfOk c.pump_line.result (λ said. HasCalled d.world line said c.args.yard.now c.pump_line.new.yard)) (sym c.in-Pump.is) (c.pump_line.ensures.called d stands)

pub returns-in-Link-clause-whole : goal.returns-in-Link-clause-whole
returns-in-Link-clause-whole g c = λ none. memory_taken c.args.words.now _ c.in-Link.is refl none

pub returns-in-Set-clause-whole : goal.returns-in-Set-clause-whole
returns-in-Set-clause-whole g c = λ none. memory_taken c.args.words.now _ c.in-Set.is refl none

pub returns-in-Connect-clause-whole : goal.returns-in-Connect-clause-whole
returns-in-Connect-clause-whole g c = λ none. memory_taken c.args.words.now _ c.in-Connect.is refl none

pub returns-in-Pump-clause-whole : goal.returns-in-Pump-clause-whole
returns-in-Pump-clause-whole g c = λ none. memory_taken c.args.words.now _ c.in-Pump.is refl none

pub returns-in-Cut-clause-whole : goal.returns-in-Cut-clause-whole
returns-in-Cut-clause-whole g c = λ none. refl

pub returns-in-Pause-clause-whole : goal.returns-in-Pause-clause-whole
returns-in-Pause-clause-whole g c = λ none. refl

pub returns-in-Resume-clause-whole : goal.returns-in-Resume-clause-whole
returns-in-Resume-clause-whole g c = λ none. refl

pub returns-in-Tick-clause-whole : goal.returns-in-Tick-clause-whole
returns-in-Tick-clause-whole g c = λ none. refl

pub returns-in-Wait-clause-whole : goal.returns-in-Wait-clause-whole
returns-in-Wait-clause-whole g c = λ none. refl
