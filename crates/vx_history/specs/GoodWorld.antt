-- What holds of every world that can come about, all of it: sites, links, packets and promises, writes, messages in assembly, and the places of
-- links.
use Rattle.std.specs.Prelude.{ℕ}
use Rattle.vx_history.specs.World.{World}
use Rattle.vx_history.specs.Fits.{Fitting}
use Rattle.vx_history.specs.GoodGatherings.{Gathers}
use Rattle.vx_history.specs.Listed.{HasPlaces}
use Rattle.vx_history.specs.Sound.{Sound}

pub record GoodWorld (w : World) : Type 0 where
  pub sound : Sound w
  pub fits : Fitting w
  pub gathers : Gathers w
  pub places : (p : ℕ) → HasPlaces w.sites (w.links p)
