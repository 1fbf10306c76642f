-- What the status of a site is made from.
use Rattle.std.specs.Prelude.{ℕ, List, [], Option, Some, None, map}
use Rattle.vx_model.specs.declared.site.SiteState.{SiteState}
use Rattle.vx_model.specs.declared.site.SiteState.TheVariants.{Bare, Up, Deported, Down}
use Rattle.vx_order.specs.declared.facts.SiteFacts.{SiteFacts}
use Rattle.vx_order.specs.declared.facts.RvgFacts.{RvgFacts}
use Rattle.vx_order.specs.declared.facts.LinkFacts.{LinkFacts}
use Rattle.vx_order.specs.Links.{site_name}
use Rattle.vx_report.specs.declared.view.LinkView.{LinkView}
use Rattle.vx_report.specs.declared.view.RvgView.{RvgView}
use Rattle.vx_report.specs.declared.view.SiteView.{SiteView}

abbrev pub group_seen : List SiteFacts → ℕ → RvgFacts → RvgView
group_seen sites session rvg = record {
  role = rvg.role;
  generation = rvg.line.generation;
  origin = site_name sites rvg.line.origin;
  head = rvg.last;
  mark = rvg.mark;
  session = session;
  halted = rvg.halted;
}

abbrev pub group_in : List SiteFacts → ℕ → Option RvgFacts → Option RvgView
group_in sites session None = None
group_in sites session (Some rvg) = Some (group_seen sites session rvg)

-- the group of a site that is up
abbrev pub group_at : SiteState → List SiteFacts → ℕ → Option RvgFacts → Option RvgView
group_at Bare sites session rvg = None
group_at Up sites session rvg = group_in sites session rvg
group_at Deported sites session rvg = None
group_at Down sites session rvg = None

-- a link, which keeps no map
abbrev pub link_seen : List SiteFacts → LinkFacts → LinkView
link_seen sites l = record {
  name = site_name sites l.link.site;
  bunker = l.link.bunker;
  attached = l.link.attached;
  connected = l.link.connected;
  paused = l.link.paused;
  mode = l.link.mode;
  marked = 0;
  net = l.link.net;
  stored = l.link.stored;
}

abbrev pub links_seen : List SiteFacts → List LinkFacts → List LinkView
links_seen sites links = map (λ l. link_seen sites l) links

-- a site in this session, with these links
abbrev pub site_seen : List SiteFacts → ℕ → SiteFacts → List LinkView → SiteView
site_seen sites session site links = record { name = site.name; state = site.state; disks = []; volumes = []; rvg = group_at site.state sites session site.rvg; links = links }
