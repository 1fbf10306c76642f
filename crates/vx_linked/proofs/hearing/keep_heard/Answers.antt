-- `keep_heard`: clause world.
use Rattle.std.proofs.Common.{◌∙◌, List, ap, sym}
use Rattle.vx_order.specs.declared.facts.SiteFacts.{SiteFacts}
use Rattle.vx_linked.specs.Tables.{fact_between}
use Rattle.vx_linked.proofs.Heard.{keeps_so}
use Rattle.vx_linked.proofs.Shown.{between, has_place}
use Rattle.vx_linked.proofs.hearing.keep_heard.Goals as goal

pub returns-clause-world : goal.returns-clause-world
returns-clause-world c = λ w number p e is at target source heard listening link.
    let h = has_place c.args.sites.now c.args.target c.args.source c.requires.linked in
    let found = between w c.args.target c.args.source h.found (ap (λ (fs : List SiteFacts). fact_between fs c.args.target c.args.source) (sym is) ∙ h.found_is) in
    keeps_so w number p e c.args.target c.args.source at target source heard listening found.linked c.args.sites.now c.put_link.new.sites c.args.link.now is c.put_link.ensures.put link
