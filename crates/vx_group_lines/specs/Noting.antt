-- What a yard keeps where the tests of a line see something else of one site.
use Rattle.std.specs.List.{position}
use Rattle.std.specs.Prelude.{◌≡◌, ℕ, List, Option, Some, None, slice_get, slice_set, unwrap_or, Result, Ok, Err}
use Rattle.std.specs.Str.{bytes_eq}
use Rattle.vx_config.specs.declared.config.Config.{Config}
use Rattle.vx_config.specs.declared.entry.VolumeEntry.{VolumeEntry}
use Rattle.vx_disk.specs.declared.shelf.Shelf.{Ghosts}
use Rattle.vx_model.specs.declared.errors.OutOfMemory.{OutOfMemory}
use Rattle.vx_model.specs.declared.errors.Stop.{Stop}
use Rattle.vx_model.specs.declared.no.No.{No as Refusal}
use Rattle.vx_model.specs.declared.errors.Stop.TheVariants.{No as StopsBy, OutOfMemory as MemoryStop}
use Rattle.vx_order.specs.declared.facts.SiteFacts.{SiteFacts}
use Rattle.vx_grouped.specs.GroupSites.{site_config}
use Rattle.vx_diskset.specs.GroupCalls.{AtSite, core_in}
use Rattle.vx_diskset.specs.declared.disk_set.DiskSet.{DiskSet}
use Rattle.vx_diskset.specs.declared.disk_set.DiskSet.TheVariants.{Over}
use Rattle.vx_events.specs.declared.said.Said.{Said}
use Rattle.vx_events.specs.declared.said.Said.TheVariants.{Refused}
use Rattle.vx_events.specs.RvgViews.{kinds_by}
use Rattle.vx_packet.specs.Assemblies.{Assembled}
use Rattle.vx_rvg.specs.Views.{Core, last_of}
use Rattle.vx_yard.specs.Changes.{up_facts}
use Rattle.vx_yard.specs.GroupFacts.{group_up_facts}
use Rattle.vx_yard.specs.Loads.{LetGoBy}
use Rattle.vx_yard.specs.Writes.{below_facts}
use Rattle.vx_yard.specs.declared.yard.Yard.{Yard}

-- the number of the first volume of this name, or 0
abbrev pub number_in : List VolumeEntry → List ℕ → ℕ
number_in volumes name = unwrap_or (position (λ volume. bytes_eq volume.name name) volumes) 0

-- what the tests see of a site that comes up as a group of this configuration, with this replicated volume group over it
abbrev pub made_facts : Core → Config → SiteFacts → SiteFacts
made_facts core c f = up_facts core.log.header.state (last_of core) core.log.ring (group_up_facts (kinds_by c.rvg c.volumes) f)

-- and where one may stand over it
abbrev pub core_shown : Option Core → SiteFacts → SiteFacts
core_shown None f = f
core_shown (Some core) f = up_facts core.log.header.state (last_of core) core.log.ring f

module _ {R : Type 0} {g : Ghosts R} where
  -- all but what the tests see of its sites, and what these put together
  pub record KeepsRest (old new : Yard R g) : Type 0 where
    pub disk_sets : new.disk_sets ≡ old.disk_sets
    pub racks : new.racks ≡ old.racks
    pub flight : new.flight ≡ old.flight
    pub feeders : new.feeders ≡ old.feeders
    pub dir : new.dir ≡ old.dir

  -- a site with these facts behind a call that was refused so, and the reply
  pub record IsNotedRefusal (s : ℕ) (f : SiteFacts) (why : Refusal) (old new : Yard R g) (result : Result Said OutOfMemory) : Type 0 where
    pub facts : new.facts.items ≡ slice_set old.facts.items s (below_facts why f)
    pub assemblies : LetGoBy why s old.assemblies.items new.assemblies.items
    pub same : KeepsRest old new
    pub said : result ≡ Ok (Refused why)

  abbrev pub reply_noted : (s : ℕ) → SiteFacts → Stop → Yard R g → Yard R g → Result Said OutOfMemory → Type 0
  reply_noted s f (StopsBy why) old new result = IsNotedRefusal s f why old new result
  reply_noted s f MemoryStop old new result = (new ≡ old) × (result ≡ Err (record {}))

  -- What a site has in assembly where an import of these disks was refused: it is let go where the site is down; but one over whose group a replicated volume group is
  -- has nothing there.
  abbrev pub LetsGoUnder : DiskSet R g → Refusal → (s : ℕ) → List Assembled → List Assembled → Type 0
  LetsGoUnder (Over o) why s old new = new ≡ old
  LetsGoUnder other why s old new = LetGoBy why s old new

  pub record LetsGoAt (s : ℕ) (why : Refusal) (old new : Yard R g) : Type 0 where
    pub disk_set : DiskSet R g
    pub there : slice_get old.disk_sets.items s ≡ Some disk_set
    pub is : LetsGoUnder disk_set why s old.assemblies.items new.assemblies.items

  -- a site with these disks and these facts behind an import that was refused so, and the reply
  pub record IsKeptRefusal (e : DiskSet R g) (s : ℕ) (f : SiteFacts) (why : Refusal) (old new : Yard R g) (result : Result Said OutOfMemory) : Type 0 where
    pub facts : new.facts.items ≡ slice_set old.facts.items s (below_facts why f)
    pub assemblies : LetsGoUnder e why s old.assemblies.items new.assemblies.items
    pub same : KeepsRest old new
    pub said : result ≡ Ok (Refused why)

  abbrev pub reply_kept : DiskSet R g → (s : ℕ) → SiteFacts → Stop → Yard R g → Yard R g → Result Said OutOfMemory → Type 0
  reply_kept e s f (StopsBy why) old new result = IsKeptRefusal e s f why old new result
  reply_kept e s f MemoryStop old new result = (new ≡ old) × (result ≡ Err (record {}))

  pub record ImportReply (s : ℕ) (f : SiteFacts) (stop : Stop) (old new : Yard R g) (result : Result Said OutOfMemory) : Type 0 where
    pub disk_set : DiskSet R g
    pub there : slice_get old.disk_sets.items s ≡ Some disk_set
    pub is : reply_kept disk_set s f stop old new result

  -- the group of the site is up with this configuration
  pub record HasConfig (s : ℕ) (c : Config) (y : Yard R g) : Type 0 where
    pub disk_set : DiskSet R g
    pub there : slice_get y.disk_sets.items s ≡ Some disk_set
    pub is : AtSite (λ site. site_config site ≡ Some c) disk_set

  -- this replicated volume group stands over it
  pub record HasCore (s : ℕ) (core : Core) (y : Yard R g) : Type 0 where
    pub disk_set : DiskSet R g
    pub there : slice_get y.disk_sets.items s ≡ Some disk_set
    pub is : core_in disk_set ≡ Some core

  -- and none does
  pub record HasNoCore (s : ℕ) (y : Yard R g) : Type 0 where
    pub disk_set : DiskSet R g
    pub there : slice_get y.disk_sets.items s ≡ Some disk_set
    pub is : core_in disk_set ≡ None

  -- and it is not up
  pub record HasNoConfig (s : ℕ) (y : Yard R g) : Type 0 where
    pub disk_set : DiskSet R g
    pub there : slice_get y.disk_sets.items s ≡ Some disk_set
    pub is : AtSite (λ site. site_config site ≡ None) disk_set
