-- Writes that are durable where they arise.
use Rattle.std.specs.Prelude.{◌≡◌, ◌≤◌, ◌<◌, ℕ, length, true, None}
use Rattle.vx_model.specs.Sites.{is_origin}
use Rattle.vx_model.specs.declared.site.SiteState.TheVariants.{Up}
use Rattle.vx_history.specs.World.{World}

-- of a site that is up and runs, and at which writes arise, all are durable
pub record AreDurable (w : World) : Type 0 where
  pub each : (i : ℕ) → i < w.sites → (w.nodes i).state ≡ Up → (w.nodes i).halted ≡ None → is_origin (w.nodes i).role ≡ true → length (w.nodes i).log ≤ (w.nodes i).safe
