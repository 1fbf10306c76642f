-- `put_in`: its result; what `put_to` asks.
use Rattle.std.proofs.Common.{◌≡◌, ◌∙◌, ℕ, sym, subst}
use Rattle.std.specs.Prelude.{Some, IsSome}
use Rattle.vx_order.specs.declared.facts.SiteFacts.{SiteFacts}
use Rattle.vx_events.proofs.Places.{some_same}
use Rattle.vx_linked.specs.Tables.{place_to, site_relinked}
use Rattle.vx_linked.proofs.Shown.{get_at, put_so}
use Rattle.vx_linked.proofs.keeping.put_in.Goals as goal

pub put_to-requires : goal.put_to-requires
put_to-requires c =
    let at = get_at c.args.sites.now c.args.from c.index-sites-from.result c.requires.within c.index-sites-from.is in
    record { linked = subst (λ (s : SiteFacts). IsSome (place_to c.args.to s.links)) (some_same (sym c.requires.linked.site_is ∙ at) ∙ c.index-sites-from.is) c.requires.linked.placed }

pub returns : goal.returns
returns c =
    let at = get_at c.args.sites.now c.args.from c.index-sites-from.result c.requires.within c.index-sites-from.is in
    put_so c.args.sites.now c.args.from c.args.to c.requires.linked c.index-sites-from.result c.put_to.new.site c.args.link.now at
    (subst (λ (s : SiteFacts). (k : ℕ) → place_to c.args.to s.links ≡ Some k → c.put_to.new.site ≡ site_relinked s k c.args.link.now) (sym c.index-sites-from.is) c.put_to.ensures)
