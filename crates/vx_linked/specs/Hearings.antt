-- A link that hears a greeting or an acknowledgement, in memory.
use Rattle.std.specs.Prelude.{◌≡◌, ℕ, Bool, true, false, ◌&&◌, List, Option, Some, None, slice_get, if◌then◌else◌}
use Rattle.vx_history.specs.Refusals.{is_running, keeps_links}
use Rattle.vx_history.specs.World.{Node, World}
use Rattle.vx_model.specs.declared.site.SiteState.TheVariants.{Up}
use Rattle.vx_order.specs.Sites.{rvg_of}
use Rattle.vx_order.specs.declared.facts.LinkFacts.{LinkFacts}
use Rattle.vx_order.specs.declared.facts.RvgFacts.{RvgFacts}
use Rattle.vx_order.specs.declared.facts.SiteFacts.{SiteFacts}
use Rattle.vx_linked.specs.Tables.{fact_between}
use Rattle.vx_linked.specs.Turns.{IsLinkOf}

abbrev pub group_listens : Option RvgFacts → Bool
group_listens None = false
group_listens (Some r) = is_running r.halted && keeps_links r.role

-- a site that is up and not halted, at which links start
abbrev pub listens : Option SiteFacts → Bool
listens site = group_listens (rvg_of site)

-- the link of this site to that one, where the site listens
abbrev pub hearing : List SiteFacts → (target source : ℕ) → Option LinkFacts
hearing sites target source = if listens (slice_get sites target) then fact_between sites target source else None

-- the same of a site of the world
pub record IsHearing (n : Node) : Type 0 where
  pub up : n.state ≡ Up
  pub running : n.halted ≡ None
  pub keeps : keeps_links n.role ≡ true

-- the link that hears is that of the world
pub record Hears (w : World) (target source : ℕ) (l : LinkFacts) : Type 0 where
  pub site : IsHearing (w.nodes target)
  pub link : IsLinkOf w target source l
