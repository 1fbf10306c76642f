-- Worlds that come of the lines that are built: of sites without links.
use Rattle.std.specs.Prelude.{◌≡◌, ℕ, false, Some, slice_get, None}
use Rattle.vx_history.specs.Sends.{is_linked}
use Rattle.vx_history.specs.World.{Node, Volume, World}
use Rattle.vx_model.specs.declared.site.Role.TheVariants.{Primary}

-- no site keeps a link
pub record IsUnlinked (w : World) : Type 0 where
  pub none : (p s : ℕ) → is_linked (w.links p s) ≡ false

-- no site is over a group of disks
pub record HasNoGroups (w : World) : Type 0 where
  pub none : (i : ℕ) → (w.nodes i).group ≡ None

-- each site is a primary
pub record ArePrimaries (w : World) : Type 0 where
  pub each : (i : ℕ) → (w.nodes i).role ≡ Primary

-- each volume of a site has as many blocks as the site's content has there
pub record IsSizedAs (n : Node) : Type 0 where
  pub each : (v : ℕ) (x : Volume) → slice_get n.volumes v ≡ Some x → n.base.size v ≡ x.blocks
