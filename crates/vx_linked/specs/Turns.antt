-- Events of one link that look at nothing of its site, in memory.
use Rattle.std.specs.Prelude.{◌≡◌, ℕ, ◌<◌, true, false, List}
use Rattle.vx_courier.specs.UnderWay.{FlightStands}
use Rattle.vx_events.specs.GroupLines.{is_over_group}
use Rattle.vx_events.specs.LinkedFacts.{link_fact}
use Rattle.vx_events.specs.StepsOver.{facts_over}
use Rattle.vx_history.specs.Sending.{sent_step}
use Rattle.vx_history.specs.Sends.{is_linked}
use Rattle.vx_history.specs.Step.{step}
use Rattle.vx_history.specs.World.{World}
use Rattle.vx_history.specs.declared.event.Event.{Event}
use Rattle.vx_history.specs.declared.event.Said.TheVariants.{Done}
use Rattle.vx_history.specs.declared.sender.SEvent.{SEvent}
use Rattle.vx_model.specs.declared.link.Link.{Link as PlainLink}
use Rattle.vx_model.specs.declared.site.SiteState.TheVariants.{Up}
use Rattle.vx_net.specs.Flights.{Flying}
use Rattle.vx_order.specs.declared.facts.SiteFacts.{SiteFacts}
use Rattle.vx_order.specs.declared.facts.LinkFacts.{LinkFacts}
use Rattle.vx_linked.specs.Tables.{FoundLink, relinked}

-- what is kept in memory of a world: the facts of its sites with their links, and what is under way
pub record FactsStandFor (w : World) (sites : List SiteFacts) (f : Flying) : Type 0 where
  pub facts : sites ≡ facts_over w
  pub flight : FlightStands w.packets f

-- the event is done, and this stands for the world behind it
pub record ComesBehind (w : World) (e : Event) (sites : List SiteFacts) (f : Flying) : Type 0 where
  pub said : (step w e).said ≡ Done
  pub stands : FactsStandFor (step w e).world sites f

-- what the rule of links makes of a link by such an event
abbrev pub turned : SEvent → PlainLink → PlainLink
turned e l = (sent_step l e (record { safe = 0; line_ok = true })).link

abbrev pub fact_turned : SEvent → LinkFacts → LinkFacts
fact_turned e l = record l { link = turned e l.link }

-- the link of this site to that one has this event behind it; each other link, and whatever else there is of the sites, is as it was
pub record Turned (e : SEvent) (from to : List ℕ) (old new : List SiteFacts) : Type 0 where
  pub at : FoundLink old from to
  pub new_is : new ≡ relinked old at.here at.site at.place (fact_turned e at.link)

-- a site that shows this link to another is up and over no group, and the link is that of the world
pub record IsLinkOf (w : World) (from to : ℕ) (l : LinkFacts) : Type 0 where
  pub below : from < w.sites
  pub apart : is_over_group (w.nodes from) ≡ false
  pub up : (w.nodes from).state ≡ Up
  pub linked : is_linked (w.links from to) ≡ true
  pub link_is : l ≡ link_fact (w.nodes from) to (w.links from to)

-- the link that a line names is this one, with the same blocks above its hold
pub record Relinked (from to : List ℕ) (l : PlainLink) (old new : List SiteFacts) : Type 0 where
  pub at : FoundLink old from to
  pub new_is : new ≡ relinked old at.here at.site at.place (record at.link { link = l })
