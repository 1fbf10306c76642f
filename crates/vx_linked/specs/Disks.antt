-- What the disks of sites hold, as events of links in memory leave it.
use Rattle.std.specs.Prelude.{◌≡◌, ℕ}
use Rattle.vx_history.specs.Events.{linked_sites}
use Rattle.vx_history.specs.KeptLinks.{kept_links}
use Rattle.vx_history.specs.World.{World}

-- Each site is as it was but for its links, and the header of its log keeps the same of those; no header was written, and what a site puts
-- together stays.
pub record LeavesDisks (w v : World) : Type 0 where
  pub sites : v.sites ≡ w.sites
  pub nodes : (i : ℕ) → v.nodes i ≡ w.nodes i
  pub kept : (i : ℕ)
      → kept_links (v.links i) (linked_sites (v.links i) v.sites 0 v.sites) ≡ kept_links (w.links i) (linked_sites (w.links i) w.sites 0 w.sites)
  pub headers : (i : ℕ) → v.headers i ≡ w.headers i
  pub gathering : (i : ℕ) → v.gathering i ≡ w.gathering i
