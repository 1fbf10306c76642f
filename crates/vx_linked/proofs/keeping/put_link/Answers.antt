-- `put_link`: clause world; what `put_in` asks.
use Rattle.std.proofs.Common.{◌∙◌, List, ap, sym}
use Rattle.std.proofs.lemmas.Option.{slice_get_within}
use Rattle.vx_order.specs.declared.facts.SiteFacts.{SiteFacts}
use Rattle.vx_linked.specs.Tables.{fact_between}
use Rattle.vx_linked.proofs.Shown.{between, has_place, put_is}
use Rattle.vx_linked.proofs.keeping.put_link.Goals as goal

pub put_in-requires : goal.put_in-requires
put_in-requires c =
    let h = has_place c.args.sites.now c.args.from c.args.to c.requires.linked in
    record { within = slice_get_within c.args.sites.now c.args.from h.site h.site_is; linked = h }

pub returns-clause-world : goal.returns-clause-world
returns-clause-world c = λ w l is made link.
    let h = has_place c.args.sites.now c.args.from c.args.to c.requires.linked in
    let found = between w c.args.from c.args.to h.found (ap (λ (fs : List SiteFacts). fact_between fs c.args.from c.args.to) (sym is) ∙ h.found_is) in
    put_is w c.args.from c.args.to c.args.sites.now c.put_in.new.sites c.args.link.now l is c.put_in.ensures found.up made link
