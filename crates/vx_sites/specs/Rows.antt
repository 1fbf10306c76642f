-- What events make of the links of one site, and of their maps.
use Rattle.std.specs.Prelude.{ℕ, ◌+◌, Bool, true, false}
use Rattle.vx_model.specs.Content.{Write, blocks_in}
use Rattle.vx_model.specs.declared.link.Mode.{Mode}
use Rattle.vx_model.specs.declared.link.Mode.TheVariants.{Log, Dcm, Replay, Fork, Stale}
use Rattle.vx_history.specs.World.{Node, Link, Regions, updated}
use Rattle.vx_history.specs.Admission.{change, hold}
use Rattle.vx_history.specs.ChangeMaps.{map_changed}
use Rattle.vx_history.specs.Events.{used_above}
use Rattle.vx_history.specs.LinkForms.{plain_link}
use Rattle.vx_history.specs.declared.admission.Change.{Change}

-- how a link changes as a write is let in
abbrev pub change_by_write : Node → Write → (site : ℕ) → Link → Change
change_by_write n x s l = change (blocks_in x.bytes + 1) n.ring (plain_link s l) (used_above n s l)

-- what then becomes of its map
abbrev pub map_let_in : Node → Write → (site : ℕ) → Link → Regions → Regions
map_let_in n x s l map = map_changed (change_by_write n x s l) l.mode map n.log (hold (plain_link s l))

-- the maps of all links, where those of the links of one site are changed, each by the place of its other end
abbrev pub row_turned : (ℕ → ℕ → Regions) → (site : ℕ) → (ℕ → Regions → Regions) → ℕ → ℕ → Regions
row_turned maps site change = updated maps site (λ k. change k (maps site k))

-- whether a link in this mode is in a replay, which has regions still to copy
abbrev pub is_copied : Mode → Bool
is_copied Log = false
is_copied Dcm = false
is_copied (Replay id phase left start end) = true
is_copied (Fork maps) = false
is_copied Stale = false

-- whether a link in this mode keeps a map of what is written
abbrev pub keeps_map : Mode → Bool
keeps_map Log = false
keeps_map Dcm = true
keeps_map (Replay id phase left start end) = false
keeps_map (Fork maps) = true
keeps_map Stale = false
