-- What a yard carries beside its sites: the packets that are under way, what each site puts together of them, and which site feeds it.
use Rattle.std.specs.Prelude.{◌≡◌, ℕ, length, slice_get, Some, false}
use Rattle.vx_courier.specs.Together.{AssemblyStands}
use Rattle.vx_courier.specs.UnderWay.{FlightStands}
use Rattle.vx_disk.specs.declared.shelf.Shelf.{Ghosts}
use Rattle.vx_history.specs.Doubts.{Doubted}
use Rattle.vx_model.specs.Sites.{is_origin}
use Rattle.vx_model.specs.declared.limits.TheConstants.{MOST_SITES}
use Rattle.vx_model.specs.declared.site.SiteState.TheVariants.{Up}
use Rattle.vx_packet.specs.Assemblies.{Assembled}
use Rattle.vx_yard.specs.Yards.{IsTold}
use Rattle.vx_yard.specs.declared.yard.Yard.{Yard}

module _ {R : Type 0} {g : Ghosts R} where
  -- The packets under way are those of the world, whether contents are told or not, and where they are told, and the world has not strayed, each site puts together what it
  -- does in the world. A site that is up and receives has the number of the one that feeds it.
  pub record Carries (d : Doubted) (y : Yard R g) : Type 0 where
    pub flight : FlightStands d.world.packets y.flight
    pub places : length y.assemblies.items ≡ MOST_SITES
    pub assemblies : IsTold y → d.strayed ≡ false → (s : ℕ) (a : Assembled) → slice_get y.assemblies.items s ≡ Some a → AssemblyStands d.world.packets s (d.world.gathering s) a
    pub numbers : length y.feeders.items ≡ MOST_SITES
    pub feeders : (s feeder : ℕ) → slice_get y.feeders.items s ≡ Some feeder → (d.world.nodes s).state ≡ Up → is_origin (d.world.nodes s).role ≡ false → feeder ≡ (d.world.nodes s).fed_by
