-- Where there is no site with a replicated volume group over its group of disks no line is open.
-- A volume at such a site that is no other volume of the group is a data volume.
use Rattle.std.proofs.Common.{◌≡◌, ◌∙◌, ℕ, Bool, true, false, List, refl, ap}
use Rattle.std.specs.Prelude.{◌&&◌, ◌||◌, not}
use Rattle.vx_history.specs.World.{Node, World}
use Rattle.vx_order.specs.Calls.{is_data}
use Rattle.vx_order.specs.declared.facts.VolumeKind.{VolumeKind}
use Rattle.vx_order.specs.declared.facts.VolumeKind.TheVariants.{Data, Map, Plain, Srl}
use Rattle.vx_script.specs.declared.line.ScriptLine.{ScriptLine}
use Rattle.vx_script.specs.declared.line.ScriptLine.TheVariants.{Apply, Crash, Disk, Fuse, GroupDeport, GroupImport, Link, PlexAttach, PlexDetach, Put, Read, Recover, Show, Status, Volume, Write}
use Rattle.vx_events.specs.Facts.{site_number}
use Rattle.vx_events.specs.OpenLines.{HasNoOpen}
use Rattle.vx_events.specs.RvgOver.{is_plain_kind, kind_named}
use Rattle.vx_events.specs.RvgSteps.{HasNoRvgs, is_for_rvg}
use Rattle.vx_events.specs.RvgViews.{is_over_rvg}

data_by : (over : Bool) (kind : VolumeKind) → over ≡ true → (over && not (is_data kind)) ≡ false → kind ≡ Data
data_by true Data is closed = refl
data_by true Srl is closed = absurd (cc)
data_by true Map is closed = absurd (cc)
data_by true Plain is closed = absurd (cc)
data_by false kind is closed = absurd (cc)

-- neither
pub first_off : (a b : Bool) → (a || b) ≡ false → a ≡ false
first_off true b is = absurd (let clash : true ≡ false = is in cc)
first_off false b is = refl

pub last_off : (a b : Bool) → (a || b) ≡ false → b ≡ false
last_off true b is = absurd (let clash : true ≡ false = is in cc)
last_off false b is = is

-- the volume of this name is a data volume
pub open_data : (n : Node) (volume : List ℕ) → is_over_rvg n ≡ true → (is_over_rvg n && not (is_data (kind_named n volume))) ≡ false → kind_named n volume ≡ Data
open_data n volume over closed = data_by (is_over_rvg n) (kind_named n volume) over closed

pub open_inside : (n : Node) (volume : List ℕ) → is_over_rvg n ≡ true → (is_over_rvg n && not (is_data (kind_named n volume))) ≡ false → is_plain_kind (kind_named n volume) ≡ false
open_inside n volume over closed = ap is_plain_kind (open_data n volume over closed)

module _ (w : World) (none : HasNoRvgs w) where
  either_none : (a b : Bool) → a ≡ false → b ≡ false → (a || b) ≡ false
  either_none a b e f = ap (λ (x : Bool). x || b) e ∙ f

  pub open_none : HasNoOpen w
  open_none (Link p s sync prot) = either_none (is_over_rvg (w.nodes (site_number w p))) (is_over_rvg (w.nodes (site_number w s))) (none (site_number w p)) (none (site_number w s))
  open_none other = refl

  pub for_none : (line : ScriptLine) → is_for_rvg w line ≡ false
  for_none (GroupDeport site) = none (site_number w site)
  for_none (GroupImport site) = none (site_number w site)
  for_none (Volume site volume blocks mirrors layout log map policy) = none (site_number w site)
  for_none (PlexDetach site volume plex) = none (site_number w site)
  for_none (PlexAttach site volume plex) = none (site_number w site)
  for_none (Disk site disk state) = none (site_number w site)
  for_none (Crash site pick) = none (site_number w site)
  for_none (Fuse site calls pick) = none (site_number w site)
  for_none (Recover site) = none (site_number w site)
  for_none (Write site volume start count fill) = none (site_number w site)
  for_none (Put site volume start bytes) = none (site_number w site)
  for_none (Read site volume start count) = none (site_number w site)
  for_none (Show site volume start count) = none (site_number w site)
  for_none (Apply site to) = none (site_number w site)
  for_none (Status site) = none (site_number w site)
  for_none other = refl
