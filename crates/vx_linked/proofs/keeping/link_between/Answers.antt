-- `link_between`: clause world.
use Rattle.std.proofs.Common.{◌∙◌, List, ap, sym}
use Rattle.std.specs.Prelude.{Option}
use Rattle.vx_order.specs.declared.facts.SiteFacts.{SiteFacts}
use Rattle.vx_linked.specs.Tables.{fact_between, link_leading}
use Rattle.vx_linked.proofs.Shown.{between}
use Rattle.vx_linked.proofs.keeping.link_between.Goals as goal

pub returns-clause-world : goal.returns-clause-world
returns-clause-world c = λ w l is some.
    between w c.args.from c.args.to l
    (ap (λ (fs : List SiteFacts). fact_between fs c.args.from c.args.to) (sym is)
    ∙ ap (λ (o : Option SiteFacts). link_leading o c.args.to) (sym c.site_at.ensures) ∙ sym c.find_in.ensures ∙ some)
