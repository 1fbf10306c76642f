-- The loop of `are_shaped` over `site`: what stays true.
use Rattle.std.proofs.Common.{◌≡◌, ◌<◌, ℕ}
use Rattle.std.specs.Prelude.{Some, slice_get}
use Rattle.vx_order.specs.declared.facts.SiteFacts.{SiteFacts as SiteValue}
use Rattle.vx_yard.specs.Yards.{IsShaped}
use Rattle.vx_yard.proofs.whole.are_shaped.Given as goal

-- the sites so far have the shape
abbrev pub invariant-loop-site : goal.invariant-loop-site
invariant-loop-site l = (s : ℕ) (f : SiteValue) → s < l.site-index → slice_get l.sites s ≡ Some f → IsShaped f
