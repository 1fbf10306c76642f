-- How an import ends.
use Rattle.std.specs.Prelude.{◌≡◌, ◌⊎◌, ℕ, ◌<◌, true, false, IsTrue, List, length, Result, Ok, Err}
use Rattle.vx_disk.specs.Shelf.{Each, Goes, Image, Meaning, Nothing}
use Rattle.vx_model.specs.declared.errors.Stop.{Stop}
use Rattle.vx_model.specs.declared.errors.Stop.TheVariants.{No as Refused, OutOfMemory}
use Rattle.vx_model.specs.declared.no.No.TheVariants as refusal
use Rattle.vx_config.specs.declared.config.Config.{Config}
use Rattle.vx_copyfmt.specs.Imports.{Found}
use Rattle.vx_copies.specs.Answers.{Imported}
use Rattle.vx_copyio.specs.Labelling.{HasSmall}
use Rattle.vx_volume.specs.Plexes.{Inside, active}
use Rattle.vx_kept.specs.Choice.{chosen}
use Rattle.vx_kept.specs.Groups.{Shows, found, group_meaning}
use Rattle.vx_kept.specs.Keeping.{Extends, SameShape}
use Rattle.vx_group.specs.Finishes.{SameOr, StopsLate}
use Rattle.vx_group.specs.Loses.{LosesPlexes}
use Rattle.vx_group.specs.Resumes.{AtRest, IsFresh, IsMended, NotTaken, TakenUp, stopped}
use Rattle.vx_group.specs.Stands.{InnerStands, inner_meaning}
use Rattle.vx_group.specs.declared.inner.Inner.{Inner}

-- Behind a crash the group gives what an image of the disks shows: a block of a volume that stopped uncleanly reads as the plex by which the image goes
-- has it.
pub record GivesImage (old : Meaning) (core : Inner) (new : Meaning) : Type 0 where
  pub reads : (c x : Config) (i above : Image) (v b : ℕ) (value : List ℕ) → AtRest old → Each old.leaves i → found old i ≡ Found x → Extends x c → Shows c x i above → stopped x v ≡ true → Inside c v b
      → (inner_meaning core new).reads v b value → value ≡ above v b

-- A group stands on the disks as the one that was found, with each plex that took part ACTIVE, under a later serial; each image has its
-- configuration, which is committed. Its volumes read as the plexes that took part. A volume that stopped uncleanly reads as the plex by
-- which an image of it goes, and a crash leaves of each block one value.
pub record Resumed (old : Meaning) (core : Inner) (new : Meaning) : Type 0 where
  pub config : Config
  pub opened : Config
  pub taken : TakenUp old new config opened
  pub stands : InnerStands core new
  pub settled : core.unsettled ≡ false
  pub up : IsTrue new.down → ⊥
  pub fresh : IsFresh core
  pub same : SameOr opened core.config old new
  pub loses : LosesPlexes opened core.config old new
  pub on : (v p : ℕ) → IsTrue (active core.config v p) → IsTrue (active opened v p)
  pub finds : (i : Image) → Each new.leaves i → found new i ≡ Found core.config
  pub committed : core.committed ≡ true
  pub goes : Goes Nothing (group_meaning opened (λ v. 0) old) (inner_meaning core new)
  pub mended : (v : ℕ) → v < length opened.volumes → stopped config v ≡ true → IsMended opened v (chosen config v) core old new
  pub gives : GivesImage old core new

-- what stands on the disks is the group that was found, with its volumes, as far as it was settled, and imports agree
pub record HalfResumed (old new : Meaning) : Type 0 where
  pub config : Config
  pub core : Inner
  pub opened : Config
  pub taken : TakenUp old new config opened
  pub stands : InnerStands core new
  pub shape : SameShape core.config opened
  pub agreed : core.agreed ≡ true
  pub goes : Goes Nothing (group_meaning opened (λ v. 0) old) (inner_meaning core new)

-- Why nothing is taken up: the shelf is down, or a disk is too small for one of a group, or what the reads gave says so, or what was found is
-- not taken up.
abbrev pub StopsEarly : Meaning → Meaning → Stop → Type 0
StopsEarly old new (Refused why) = (IsTrue old.down × (why ≡ refusal.Down)) ⊎ (HasSmall old × (why ≡ refusal.NoConfig)) ⊎ Imported old new (Err (Refused why)) ⊎ NotTaken old new why
StopsEarly old new OutOfMemory = Unit {0}

abbrev pub StopsBehind : Meaning → Meaning → Stop → Type 0
StopsBehind old new (Refused why) = StopsLate old new why
StopsBehind old new OutOfMemory = ⊥

-- refused before anything was written, or behind what was taken up
abbrev pub ImportStops : Meaning → Meaning → Stop → Type 0
ImportStops old new stop = (Goes Nothing old new × StopsEarly old new stop) ⊎ (HalfResumed old new × StopsBehind old new stop)

abbrev pub ImportEnds : Meaning → Meaning → Result Inner Stop → Type 0
ImportEnds old new (Ok core) = Resumed old core new
ImportEnds old new (Err stop) = ImportStops old new stop
