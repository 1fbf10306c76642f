-- What is told of the disks of a site with a group, by its note.
use Rattle.std.proofs.Common.{◌≡◌, Bool, IsTrue, true, false, not, refl}
use Rattle.vx_disk.specs.declared.shelf.Shelf.{Ghosts}
use Rattle.vx_history.specs.Groups.{GroupNode}
use Rattle.vx_history.specs.World.{Node}
use Rattle.vx_grouped.specs.GroupSites.{AwayNoted, DownNoted, UpNoted, site_below, site_disks}
use Rattle.vx_grouped.specs.SiteReturns.{is_dimmed}
use Rattle.vx_grouped.specs.declared.group_site.GroupSite.{GroupSite}
use Rattle.vx_grouped.specs.declared.group_site.GroupSite.TheVariants.{Up, Deported, Down, Marked, Gone}

loose_of : (loose agreed : Bool) → (loose ≡ false → agreed ≡ true) → not agreed ≡ true → loose ≡ true
loose_of true agreed agrees off = refl
loose_of false true agrees off = cc
loose_of false false agrees off = let clash : false ≡ true = agrees refl in cc

module _ {R : Type 0} {g : Ghosts R} where
  -- unless the note says that nothing is known of them, they tell where the rack does
  pub lit_up : (n : Node) (note : GroupNode) (e : GroupSite R g) → UpNoted n note e → note.dark ≡ false → IsTrue (site_below e).tells → IsTrue (site_disks e).tells
  lit_up n note (Up group) it bright told = it.lit bright told
  lit_up n note (Deported idle) it bright told = absurd it
  lit_up n note (Down idle) it bright told = absurd it
  lit_up n note (Marked rack) it bright told = absurd it
  lit_up n note Gone it bright told = absurd it

  pub lit_down : (n : Node) (note : GroupNode) (e : GroupSite R g) → DownNoted n note e → note.dark ≡ false → IsTrue (site_below e).tells → IsTrue (site_disks e).tells
  lit_down n note (Up group) it bright told = absurd it
  lit_down n note (Deported idle) it bright told = absurd it
  lit_down n note (Down idle) it bright told = it.lit bright told
  lit_down n note (Marked rack) it bright told = absurd it
  lit_down n note Gone it bright told = absurd it

  pub lit_away : (n : Node) (note : GroupNode) (e : GroupSite R g) → AwayNoted n note e → note.dark ≡ false → IsTrue (site_below e).tells → IsTrue (site_disks e).tells
  lit_away n note (Up group) it bright told = absurd it
  lit_away n note (Deported idle) it bright told = it.lit bright told
  lit_away n note (Down idle) it bright told = absurd it
  lit_away n note (Marked rack) it bright told = absurd it
  lit_away n note Gone it bright told = absurd it

  -- an import takes what is known of them only where they may disagree
  pub dims_down : (n : Node) (note : GroupNode) (e : GroupSite R g) → DownNoted n note e → is_dimmed e ≡ true → note.loose ≡ true
  dims_down n note (Up group) it off = absurd it
  dims_down n note (Deported idle) it off = absurd it
  dims_down n note (Down idle) it off = loose_of note.loose idle.agreed it.agrees off
  dims_down n note (Marked rack) it off = absurd it
  dims_down n note Gone it off = absurd it

  pub dims_away : (n : Node) (note : GroupNode) (e : GroupSite R g) → AwayNoted n note e → is_dimmed e ≡ true → note.loose ≡ true
  dims_away n note (Up group) it off = absurd it
  dims_away n note (Deported idle) it off = loose_of note.loose idle.agreed it.agrees off
  dims_away n note (Down idle) it off = absurd it
  dims_away n note (Marked rack) it off = absurd it
  dims_away n note Gone it off = absurd it
