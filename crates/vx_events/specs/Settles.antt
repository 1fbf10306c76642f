-- What the tests of a line that settles a link say of the world.
use Rattle.std.specs.Prelude.{◌≡◌, ℕ, ◌<◌, true, false, None}
use Rattle.vx_history.specs.Sends.{is_linked}
use Rattle.vx_history.specs.World.{World}
use Rattle.vx_model.specs.Sites.{is_origin}
use Rattle.vx_model.specs.declared.link.Mode.TheVariants.{Log}
use Rattle.vx_model.specs.declared.site.Role.TheVariants.{Secondary}
use Rattle.vx_model.specs.declared.site.SiteState.TheVariants.{Up}

-- two sites that are up and not halted, and an attached, connected link in mode Log between them that is not paused; writes arise at the first, and the
-- second is a secondary on its line
pub record CanSettle (w : World) (p s : ℕ) : Type 0 where
  pub first : p < w.sites
  pub second : s < w.sites
  pub apart : s ≡ p → ⊥
  pub here : (w.nodes p).state ≡ Up
  pub there : (w.nodes s).state ≡ Up
  pub runs_here : (w.nodes p).halted ≡ None
  pub runs_there : (w.nodes s).halted ≡ None
  pub sender : is_origin (w.nodes p).role ≡ true
  pub secondary : (w.nodes s).role ≡ Secondary
  pub line : (w.nodes s).line ≡ (w.nodes p).line
  pub linked : is_linked (w.links p s) ≡ true
  pub bunker : (w.links p s).bunker ≡ false
  pub attached : (w.links p s).attached ≡ true
  pub connected : (w.links p s).connected ≡ true
  pub running : (w.links p s).paused ≡ false
  pub mode : (w.links p s).mode ≡ Log
