-- What a line makes of what a site notes of the regions that plexes missed, by what configurations say before and behind it.
use Rattle.std.specs.Prelude.{◌≡◌, ◌⊎◌, ◌+◌, ◌*◌, ◌<◌, ◌≤◌, ◌&&◌, ◌||◌, ℕ, Bool, true, false, not, Option, Some, None}
use Rattle.vx_model.specs.declared.limits.TheConstants.{COMMIT_SERIALS, MOST_NUMBER}
use Rattle.vx_history.specs.Groups.{MissedNote}
use Rattle.vx_history.specs.Missing.{first_failed, missed_then, no_plex, none_missed, perhaps_then, this_volume}

-- no volume, and this one alone
abbrev pub InNoVolume : ℕ → Type 0
InNoVolume v = ⊥

abbrev pub InVolume : ℕ → ℕ → Type 0
InVolume vol v = v ≡ vol

-- Why the maps of a volume are known no more: a call on the disk of their log failed; or their log was held as lost; or no serial is left to commit that it is.
-- `disk` has the disk of the log of each volume, where it has one that is not lost.
abbrev pub MapsGone : (Failed : ℕ → Type 0) → (disk : ℕ → Option ℕ) → (w new : MissedNote) → ℕ → Type 0
MapsGone Failed disk w new v = ((k : ℕ) × (disk v ≡ Some k) × Failed k) ⊎ (disk v ≡ None) ⊎ (MOST_NUMBER ≤ w.serial + 6 * COMMIT_SERIALS) ⊎ (MOST_NUMBER ≤ new.serial + COMMIT_SERIALS)

-- Of which volumes the maps are known: of those of which they were, but where they are gone, or lost; and of those where a log may begin. The serial does not
-- fall.
pub record StayKnown (Failed Lost Begins : ℕ → Type 0) (disk : ℕ → Option ℕ) (w new : MissedNote) : Type 0 where
  pub stays : (v : ℕ) → w.mapped v ≡ true → (new.mapped v ≡ true) ⊎ MapsGone Failed disk w new v ⊎ Lost v
  pub begins : (v : ℕ) → new.mapped v ≡ true → (w.mapped v ≡ true) ⊎ Begins v
  pub later : w.serial ≤ new.serial

-- A call in which those regions were written: what each plex has missed then, where that is known. So many volumes there were.
pub record MapsWritten (count : ℕ) (was now anew these : ℕ → ℕ → Bool) (w new : MissedNote) : Type 0 where
  pub missed : (v p r : ℕ) → new.mapped v ≡ true → new.missed v p r ≡ missed_then w was now these v p r
  pub perhaps : (v p r : ℕ) → new.mapped v ≡ true → new.perhaps v p r ≡ perhaps_then w was now anew v p r
  pub doubt : (v : ℕ) → v < count → new.doubt v ≡ w.doubt v

-- A write of those regions of a volume that failed: any plex of it may have missed them. Where its copies may differ then (`fell`), as they might not before, the
-- plexes that took part may have missed no others.
pub record MapsFailed (vol : ℕ) (was now these : ℕ → ℕ → Bool) (w new : MissedNote) : Type 0 where
  pub fell : Bool
  pub missed : (v p r : ℕ) → new.mapped v ≡ true → new.missed v p r ≡ (not (first_failed w vol fell was v p) && missed_then w was now none_missed v p r)
  pub perhaps : (v p r : ℕ) → new.mapped v ≡ true → new.perhaps v p r ≡ true → (these v r ≡ true) ⊎ ((first_failed w vol fell was v p ≡ false) × (perhaps_then w was now no_plex v p r ≡ true))
  pub doubt : (v : ℕ) → new.doubt v ≡ (w.doubt v || (this_volume vol v && fell))

-- a region that a plex of volume v may have missed, as its map becomes that of another one: only in a volume of which a write failed
pub record TookRow (w : MissedNote) (vol plex v p r : ℕ) : Type 0 where
  pub here : v ≡ vol
  pub same : p ≡ plex
  pub doubt : w.doubt vol ≡ true
  pub from : ℕ
  pub has : (w.missed vol from r ≡ true) ⊎ (w.perhaps vol from r ≡ true)

-- An attach of a plex, in which no region was written. So many volumes there were.
pub record MapsJoined (count vol plex : ℕ) (was now : ℕ → ℕ → Bool) (w new : MissedNote) : Type 0 where
  pub missed : (v p r : ℕ) → new.mapped v ≡ true → new.missed v p r ≡ missed_then w was now none_missed v p r
  pub perhaps : (v p r : ℕ) → new.mapped v ≡ true → new.perhaps v p r ≡ true → (perhaps_then w was now no_plex v p r ≡ true) ⊎ TookRow w vol plex v p r
  pub doubt : (v : ℕ) → v < count → new.doubt v ≡ w.doubt v

-- A group that was deported came up. The maps of a volume that stopped cleanly are known as they were, but where they are gone, or memory is wanting for them; those
-- of each other volume are not. A plex that goes off in it misses nothing, but perhaps what was left in its map. The serial does not fall.
pub record MapsBack (Failed : ℕ → Type 0) (wanting : Type 0) (clean : ℕ → Type 0) (disk : ℕ → Option ℕ) (was now : ℕ → ℕ → Bool) (w new : MissedNote) : Type 0 where
  pub stays : (v : ℕ) → w.mapped v ≡ true → clean v → (new.mapped v ≡ true) ⊎ MapsGone Failed disk w new v ⊎ wanting
  pub only : (v : ℕ) → new.mapped v ≡ true → (w.mapped v ≡ true) × clean v
  pub missed : (v p r : ℕ) → new.mapped v ≡ true → new.missed v p r ≡ missed_then w was now none_missed v p r
  pub perhaps : (v p r : ℕ) → new.mapped v ≡ true → new.perhaps v p r ≡ perhaps_then w was now no_plex v p r
  pub doubt : (v : ℕ) → new.doubt v ≡ true → (w.doubt v ≡ true) × clean v
  pub later : w.serial ≤ new.serial
