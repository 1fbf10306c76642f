-- A region of a replay that comes to a receiver.
use Rattle.std.specs.Prelude.{◌≡◌, ℕ, ◌*◌, ◌-◌, Bool, ◌&&◌, ltb, min, List, length}
use Rattle.vx_model.specs.Content.{Write, blocks_in}
use Rattle.vx_model.specs.declared.call.Update.{Update}
use Rattle.vx_model.specs.declared.history.Line.{Line}
use Rattle.vx_model.specs.declared.limits.TheConstants.{REGION}
use Rattle.vx_disk.specs.Moves.{Moves, Union}
use Rattle.vx_disk.specs.Shelf.{Meaning}
use Rattle.vx_replay.specs.Secondary.{secondary_step}
use Rattle.vx_replay.specs.declared.event.QAction.{QAction}
use Rattle.vx_replay.specs.declared.event.QEvent.TheVariants.{Region}
use Rattle.vx_rvg.specs.Stores.{Storing, store_blocks}
use Rattle.vx_rvg.specs.Views.{Core, Waits, last_of, unit_of}
use Rattle.vx_secondary.specs.Logging.{SameGroup}
use Rattle.vx_secondary.specs.Receivers.{receiver_of}

-- what the rule says of a region of this line and replay
abbrev pub region_action : Core → List Update → Line → (id : ℕ) → QAction
region_action c us line id = (secondary_step (receiver_of c us) (Region line id)).action

-- whether the volume is there and has the region
abbrev pub volume_has_region : Core → (size : ℕ → ℕ) → (vol region : ℕ) → Bool
volume_has_region c size vol region = ltb vol (length c.units.vols) && ltb (REGION * region) (size (unit_of c.units.vols vol))

-- how many blocks a region of a volume of so many blocks has
abbrev pub region_blocks : (blocks region : ℕ) → ℕ
region_blocks blocks region = min REGION (blocks - REGION * region)

-- the region as a write
abbrev pub region_write : (vol region : ℕ) → List ℕ → Write
region_write vol region bytes = record { volume = vol; start = REGION * region; bytes = bytes }

-- Whatever a call that puts these blocks answers: the units, state, session and last number stay, it changes blocks that wait for their
-- volumes, those that are put and the log's where it holds records, and each image in it has what the group held, or that without the
-- records and with some of the blocks.
pub record PuttingRegion (c c' : Core) (x : Write) (m m' : Meaning) : Type 0 where
  pub same : SameGroup c c'
  pub last : last_of c' ≡ last_of c
  pub moves : Moves (Union (Waits c m) (store_blocks c x.volume x.start (blocks_in x.bytes))) (Storing c x m) m m'
