-- What the disks of a site make of a greeting or an acknowledgement that one of its links hears.
use Rattle.std.specs.Prelude.{◌≡◌, ℕ, ◌+◌, Bool, true, false, eqb, ltb, List, map, None, Result, Ok, Err, if◌then◌else◌}
use Rattle.vx_events.specs.GroupLines.{is_over_group}
use Rattle.vx_events.specs.LinksFit.{is_plain_mode}
use Rattle.vx_model.specs.declared.errors.Stop.{Stop}
use Rattle.vx_model.specs.declared.errors.Stop.TheVariants.{No as Refused, OutOfMemory}
use Rattle.vx_model.specs.declared.link.Link.{Link as PlainLink}
use Rattle.vx_model.specs.declared.site.SiteState.TheVariants.{Up as IsUp}
use Rattle.vx_model.specs.declared.state.KeptLink.{KeptLink}
use Rattle.vx_history.specs.Doubts.{Doubted}
use Rattle.vx_history.specs.Events.{delivered, packet_at}
use Rattle.vx_history.specs.Refusals.{keeps_links}
use Rattle.vx_history.specs.Sends.{is_linked}
use Rattle.vx_history.specs.World.{Link, Node, World}
use Rattle.vx_history.specs.declared.event.Said.{Said}
use Rattle.vx_history.specs.Steps.{worked}
use Rattle.vx_events.specs.declared.said.Said.{Said as Reply}
use Rattle.vx_events.specs.declared.said.Said.TheVariants.{Done, Refused as IsRefused}
use Rattle.vx_disk.specs.declared.shelf.Shelf.{Ghosts}
use Rattle.vx_net.specs.Flights.{Flying}
use Rattle.vx_packet.specs.Assemblies.{Assembled}
use Rattle.vx_peers.specs.Answers.{AnsweredAt, PartAnsweredAt}
use Rattle.vx_diskset.specs.Holds.{KeptBeside, beside_of, header_links, state_with}
use Rattle.vx_diskset.specs.Keeps.{KeptAt}
use Rattle.vx_diskset.specs.Stands.{SiteStands}
use Rattle.vx_diskset.specs.declared.disk_set.DiskSet.{DiskSet}

-- a site that is up and runs, and keeps this link, which goes by the log or by nothing
pub record IsListening (n : Node) (l : Link) : Type 0 where
  pub up : n.state ≡ IsUp
  pub running : n.halted ≡ None
  pub apart : is_over_group n ≡ false
  pub keeps : keeps_links n.role ≡ true
  pub linked : is_linked l ≡ true
  pub plain : is_plain_mode l.mode ≡ true

-- a link with this number stored, if it leads to this site
abbrev pub stored_at : (to number : ℕ) → KeptLink → KeptLink
stored_at to number l = if eqb l.site to then record l { stored = number } else l

abbrev pub links_stored : (to number : ℕ) → List KeptLink → List KeptLink
links_stored to number links = map (stored_at to number) links

-- the reply of a call that answers no number, as far as its calls on disks go
abbrev pub reply_by : {T : Type 0} → Result T Stop → Reply
reply_by (Ok value) = Done
reply_by (Err (Refused why)) = IsRefused why
reply_by (Err OutOfMemory) = Done

-- the world behind the delivery of the packet of a number
abbrev pub world_behind : World → (number : ℕ) → World
world_behind w number = (delivered w number (packet_at w.packets number)).world

module _ {R : Type 0} {g : Ghosts R} where
  -- the disks of a site with these links: with a header more where more is stored
  abbrev pub StoresAt : KeptBeside → Node → (rose : Bool) → List KeptLink → DiskSet R g → Type 0
  StoresAt beside n true links new = SiteStands (record { links = links; headers = beside.headers + 1; doubt = None }) (worked n) new
  StoresAt beside n false links new = SiteStands (record { links = links; headers = beside.headers; doubt = beside.doubt }) n new

  -- with a header that has this number stored of the link to a site, where it is more than was
  abbrev pub StoredIs : KeptBeside → Node → (to old stored : ℕ) → DiskSet R g → DiskSet R g → Result (Unit {0}) Stop → Type 0
  StoredIs beside n to old stored e new (Ok done) = StoresAt beside n (ltb old stored) (if ltb old stored then links_stored to stored beside.links else beside.links) new
  StoredIs beside n to old stored e new (Err (Refused why)) = KeptAt beside n (state_with n (links_stored to stored beside.links)) e new (Err why)
  StoredIs beside n to old stored e new (Err OutOfMemory) = SiteStands beside n new

  -- The packet was delivered: what is said, the link and what is in assembly are what the world has, and the disks are those of the site with
  -- its links. Or the header with them ended as one that is kept does; or a number is past those that a header may have.
  abbrev pub HeardAt : (d : Doubted) → (site source number : ℕ) → DiskSet R g → DiskSet R g → PlainLink → Assembled → Flying → Result Said Stop → Type 0
  HeardAt d site source number old new l a f (Ok said) =
      AnsweredAt d.world site source number l a f said
      × StoresAt (beside_of d site) (d.world.nodes site) (ltb (d.world.links site source).stored ((world_behind d.world number).links site source).stored) (header_links (world_behind d.world number) site) new
  HeardAt d site source number old new l a f (Err (Refused why)) =
      KeptAt (beside_of d site) (d.world.nodes site) (state_with (d.world.nodes site) (header_links (world_behind d.world number) site)) old new (Err why)
  HeardAt d site source number old new l a f (Err OutOfMemory) = SiteStands (beside_of d site) (d.world.nodes site) new

  -- the same but for what is in assembly
  abbrev pub PartHeardAt : (d : Doubted) → (site source number : ℕ) → DiskSet R g → DiskSet R g → PlainLink → Flying → Result Said Stop → Type 0
  PartHeardAt d site source number old new l f (Ok said) =
      PartAnsweredAt d.world site source number l f said
      × StoresAt (beside_of d site) (d.world.nodes site) (ltb (d.world.links site source).stored ((world_behind d.world number).links site source).stored) (header_links (world_behind d.world number) site) new
  PartHeardAt d site source number old new l f (Err (Refused why)) =
      KeptAt (beside_of d site) (d.world.nodes site) (state_with (d.world.nodes site) (header_links (world_behind d.world number) site)) old new (Err why)
  PartHeardAt d site source number old new l f (Err OutOfMemory) = SiteStands (beside_of d site) (d.world.nodes site) new
