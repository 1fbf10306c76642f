-- What calls of a group do, by the parts of the group before and behind them.
use Rattle.std.specs.Prelude.{◌≡◌, ◌⊎◌, ◌-◌, ◌<◌, ℕ, true, false, List, Some, None, Result, Ok, Err, IfErr, IfOk, OnOk, IsTrue}
use Rattle.vx_disk.specs.Causes.{DeviceCause}
use Rattle.vx_disk.specs.Shelf.{Goes, Meaning, Nothing, Written}
use Rattle.vx_model.specs.declared.errors.Stop.{Stop}
use Rattle.vx_model.specs.declared.errors.Stop.TheVariants.{No as Refused}
use Rattle.vx_model.specs.declared.no.Counted.TheVariants.{Number as Numbers}
use Rattle.vx_model.specs.declared.no.No.{No}
use Rattle.vx_model.specs.declared.no.No.TheVariants.{Device, Limit}
use Rattle.vx_history.specs.Groups.{GroupNode}
use Rattle.vx_history.specs.World.{Node}
use Rattle.vx_config.specs.Table.{greatest}
use Rattle.vx_volume.specs.Plexes.{active, uses}
use Rattle.vx_group.specs.Attaches.{IsAttached, att_refusal}
use Rattle.vx_group.specs.Dets.{DetStops, det_refusal, margin}
use Rattle.vx_group.specs.GivesUp.{EachBlamed}
use Rattle.vx_group.specs.Holding.{wide}
use Rattle.vx_group.specs.Loses.{LosesPlexes}
use Rattle.vx_group.specs.Stands.{inner_meaning}
use Rattle.vx_group.specs.declared.group_core.GroupCore.{GroupCore}
use Rattle.vx_watched.specs.Since.{CalledSince}
use Rattle.vx_watched.specs.Traces.{TellsLess}
use Rattle.vx_grouped.specs.ConfigMoves.{none_again}
use Rattle.vx_grouped.specs.Copied.{CopiesRegions}
use Rattle.vx_grouped.specs.CoreMoves.{BothOn, CoreMoves}
use Rattle.vx_grouped.specs.Ends.{CallLeaves, WriteLeaves, plain_write}
use Rattle.vx_grouped.specs.GroupNotes.{IsGroupAt}
use Rattle.vx_grouped.specs.Plain.{HoldsPlain, ReadsPlain}

-- a write to a volume, which is made durable
pub record PlainWrites (vol block : ℕ) (bytes : List ℕ) (c : GroupCore) (m : Meaning) (d : GroupCore) (m' : Meaning) (r : Result (Unit {0}) No) : Type 0 where
  pub leaves : (n : Node) (note : GroupNode) → IsGroupAt n note c m → WriteLeaves n note (plain_write vol block bytes) d m' r
  pub goes : Goes (Written vol block bytes) (inner_meaning (wide c) m) (inner_meaning (wide d) m')
  pub loses : LosesPlexes c.inner.config d.inner.config m m'
  pub on : BothOn c.inner.config d.inner.config m.units
  pub trust : OnOk r (c.inner.committed ≡ true → d.inner.committed ≡ true)
  pub agreed : IfErr r (λ no. c.inner.committed ≡ true → d.inner.agreed ≡ true)
  pub cause : IfErr r (DeviceCause m m')

-- a read of a volume
pub record PlainReads (vol block : ℕ) (bytes : List ℕ) (c : GroupCore) (m : Meaning) (d : GroupCore) (m' : Meaning) (r : Result (Unit {0}) No) : Type 0 where
  pub reads : (note : GroupNode) → HoldsPlain note (inner_meaning (wide c) m) → OnOk r (ReadsPlain note m vol block bytes)
  pub gives_up : (disk : ℕ) → r ≡ Err (Device disk) → EachBlamed c.inner.config vol m m'
  pub stays : (n : Node) (note : GroupNode) → IsGroupAt n note c m → IsGroupAt n note d m'
  pub goes : Goes Nothing (inner_meaning (wide c) m) (inner_meaning (wide d) m')
  pub same : d.inner.config ≡ c.inner.config
  pub cause : IfErr r (DeviceCause m m')

-- a plex that is detached
pub record PlexDets (vol plex : ℕ) (c : GroupCore) (m : Meaning) (d : GroupCore) (m' : Meaning) (r : Result (Unit {0}) Stop) : Type 0 where
  pub refused : (no : No) → det_refusal c.inner.config vol plex ≡ Some no → r ≡ Err (Refused no)
  pub leaves : (n : Node) (note : GroupNode) → IsGroupAt n note c m → CallLeaves n note d m' r
  pub off : OnOk r (active d.inner.config vol plex ≡ false)
  pub undone : (disk : ℕ) → r ≡ Err (Refused (Device disk)) → active d.inner.config vol plex ≡ active c.inner.config vol plex
  pub others : (w p : ℕ) → (w ≡ vol → p ≡ plex → ⊥) → active d.inner.config w p ≡ active c.inner.config w p
  pub trust : OnOk r (c.inner.committed ≡ true → d.inner.committed ≡ true)
  pub agreed : IfErr r (λ stop. c.inner.committed ≡ true → d.inner.agreed ≡ true)
  pub cause : det_refusal c.inner.config vol plex ≡ None → DetStops m m' r
  pub narrows : (w p : ℕ) → IsTrue (active d.inner.config w p) → IsTrue (active c.inner.config w p)
  pub goes : Goes Nothing (inner_meaning (wide c) m) (inner_meaning (wide d) m')
  pub moves : CoreMoves none_again c.inner.config d.inner.config m m'

-- a plex that is attached
pub record PlexAtts (vol plex : ℕ) (c : GroupCore) (m : Meaning) (d : GroupCore) (m' : Meaning) (r : Result ℕ Stop) : Type 0 where
  pub refused : (no : No) → att_refusal c.inner.config vol plex ≡ Some no → r ≡ Err (Refused no)
  pub already : att_refusal c.inner.config vol plex ≡ None → IsTrue (active c.inner.config vol plex) → r ≡ Ok 0
  pub count : active c.inner.config vol plex ≡ false → IfOk r (CopiesRegions c.inner.config vol)
  pub attached : active c.inner.config vol plex ≡ false → OnOk r (IsAttached vol plex d.inner.config m')
  pub leaves : (n : Node) (note : GroupNode) → IsGroupAt n note c m → CallLeaves n note d m' r
  pub undone : active c.inner.config vol plex ≡ false → (disk : ℕ) → r ≡ Err (Refused (Device disk)) → active d.inner.config vol plex ≡ false
  pub others : (w p : ℕ) → (w ≡ vol → p ≡ plex → ⊥) → active d.inner.config w p ≡ active c.inner.config w p
  pub trust : OnOk r (c.inner.committed ≡ true → d.inner.committed ≡ true)
  pub cause : att_refusal c.inner.config vol plex ≡ None → DetStops m m' r
  pub stays : IsTrue (active c.inner.config vol plex) → OnOk r (IsTrue (active d.inner.config vol plex))
  pub goes : Goes Nothing (inner_meaning (wide c) m) (inner_meaning (wide d) m')
  pub moves : CoreMoves (uses c.inner.config vol plex) c.inner.config d.inner.config m m'

-- what is known of the disks of a group that was deported, or that is given back
abbrev pub DeportSince : {S G : Type 0} → Meaning → (S → Meaning) → (G → Meaning) → Result S (G × Stop) → Type 0
DeportSince old meaning back (Ok s) = CalledSince old (meaning s)
DeportSince old meaning back (Err (g, stop)) = CalledSince old (back g)

-- and of its rack, which tells no more than it did
abbrev pub DeportShows : {S G : Type 0} → Meaning → (S → Meaning) → (G → Meaning) → Result S (G × Stop) → Type 0
DeportShows old below back (Ok s) = TellsLess old (below s)
DeportShows old below back (Err (g, stop)) = TellsLess old (back g)

-- a deport is refused where too few serials are left, or for a device
abbrev pub DeportRefuses : {S G : Type 0} → GroupCore → Meaning → (G → Meaning) → Result S (G × Stop) → Type 0
DeportRefuses c old back (Ok s) = Unit {0}
DeportRefuses c old back (Err (g, stop)) = ((stop ≡ Refused (Limit Numbers greatest)) × (greatest - margin < c.inner.config.serial)) ⊎ DetStops {T = Unit {0}} old (back g) (Err stop)
