-- How a call on a group changes what its site notes of the regions that plexes missed.
use Rattle.std.specs.Prelude.{◌≡◌, ◌⊎◌, ◌==◌, ◌+◌, ◌-◌, ◌/◌, ◌<◌, ℕ, zero, suc, if◌then◌else◌, Bool, true, false, not, ◌&&◌, ◌||◌, eqb, leb}
use Rattle.vx_model.specs.Content.{Write, blocks_in}
use Rattle.vx_model.specs.declared.limits.TheConstants.{REGION}
use Rattle.vx_history.specs.Groups.{GroupNode, MissedNote}

-- no region of any volume
abbrev pub none_missed : ℕ → ℕ → Bool
none_missed v r = false

-- the regions of a write
abbrev pub in_write : Write → ℕ → ℕ → Bool
in_write x v r = eqb v x.volume && (leb (x.start / REGION) r && leb r ((x.start + blocks_in x.bytes - 1) / REGION))

abbrev pub this_volume : ℕ → ℕ → Bool
this_volume vol v = v == vol

-- ---- whose maps begin anew, where they go off in a call

-- none
abbrev pub no_plex : ℕ → ℕ → Bool
no_plex v p = false

-- each of a volume of which no write failed, as it is written
abbrev pub each_anew : MissedNote → ℕ → ℕ → ℕ → Bool
each_anew w vol v p = this_volume vol v && not (w.doubt v)

-- this plex of it, as it is detached
abbrev pub one_anew : MissedNote → (vol plex : ℕ) → ℕ → ℕ → Bool
one_anew w vol plex v p = this_volume vol v && (p == plex && not (w.doubt v))

-- Of a volume the plexes that took part, as a write of it fails, behind which its copies may differ (`fell`) as they might not before: the regions of that write
-- alone are in their maps then.
abbrev pub first_failed : MissedNote → (vol : ℕ) → (fell : Bool) → (was : ℕ → ℕ → Bool) → ℕ → ℕ → Bool
first_failed w vol fell was v p = this_volume vol v && (was v p && (not (w.doubt v) && fell))

-- ---- one call: `was` says which plexes took part before it, `now` which do behind it

-- a plex took part, and does no more
abbrev pub goes_off : (was now : ℕ → ℕ → Bool) → ℕ → ℕ → Bool
goes_off was now v p = was v p && not (now v p)

-- What is in the map of a plex before the call: what is noted, where that is known; else, as its map begins in the call, all where it took no part, and nothing
-- where it did.
abbrev pub missed_first : MissedNote → (was : ℕ → ℕ → Bool) → ℕ → ℕ → ℕ → Bool
missed_first w was v p r = if w.mapped v then w.missed v p r else not (was v p)

abbrev pub perhaps_first : MissedNote → ℕ → ℕ → ℕ → Bool
perhaps_first w v p r = w.mapped v && w.perhaps v p r

-- What it has missed behind the call, in which those regions were written: these, where it goes off; these beside what it had, where it takes no part; and else
-- what was left in its map.
abbrev pub missed_then : MissedNote → (was now : ℕ → ℕ → Bool) → (these : ℕ → ℕ → Bool) → ℕ → ℕ → ℕ → Bool
missed_then w was now these v p r = if goes_off was now v p then these v r else (missed_first w was v p r || (not (now v p) && these v r))

-- What it may have missed beside that: what it might before, and what was left in the map of one that goes off; nothing where the map of one that goes off begins
-- anew.
abbrev pub perhaps_then : MissedNote → (was now anew : ℕ → ℕ → Bool) → ℕ → ℕ → ℕ → Bool
perhaps_then w was now anew v p r = not (goes_off was now v p && anew v p) && (perhaps_first w v p r || (goes_off was now v p && missed_first w was v p r))

-- Behind a call in which those regions were written. The maps of these volumes are known behind it, and the configuration has this serial.
abbrev pub maps_written : (mapped : ℕ → Bool) (serial : ℕ) (was now anew : ℕ → ℕ → Bool) (these : ℕ → ℕ → Bool) → MissedNote → MissedNote
maps_written mapped serial was now anew these w = record {
  mapped = mapped;
  missed = missed_then w was now these;
  perhaps = perhaps_then w was now anew;
  doubt = w.doubt;
  serial = serial;
}

-- behind one that made a volume
abbrev pub maps_added : (mapped : ℕ → Bool) (serial : ℕ) (was now : ℕ → ℕ → Bool) (vol : ℕ) → MissedNote → MissedNote
maps_added mapped serial was now vol w = record (maps_written mapped serial was now no_plex none_missed w) { doubt = λ v. not (this_volume vol v) && w.doubt v }

-- Behind a write of those regions of a volume that failed: any plex of it may have missed them; and where its copies may differ then, no map of it begins anew
-- from then on.
abbrev pub maps_doubted : (mapped : ℕ → Bool) (serial : ℕ) (was now : ℕ → ℕ → Bool) (vol : ℕ) (fell : Bool) (these : ℕ → ℕ → Bool) → MissedNote → MissedNote
maps_doubted mapped serial was now vol fell these w = record {
  mapped = mapped;
  missed = λ v p r. not (first_failed w vol fell was v p) && missed_then w was now none_missed v p r;
  perhaps = λ v p r. these v r || (not (first_failed w vol fell was v p) && perhaps_then w was now no_plex v p r);
  doubt = λ v. w.doubt v || (this_volume vol v && fell);
  serial = serial;
}

-- behind an import that takes up the maps of these volumes
abbrev pub maps_returned : (mapped : ℕ → Bool) (serial : ℕ) (was now : ℕ → ℕ → Bool) (doubt : ℕ → Bool) → MissedNote → MissedNote
maps_returned mapped serial was now doubt w = record (maps_written mapped serial was now no_plex none_missed w) { doubt = doubt }

-- nothing is known of any plex of a configuration with this serial
abbrev pub maps_none : ℕ → MissedNote
maps_none serial = record { mapped = λ v. false; missed = λ v p r. false; perhaps = λ v p r. false; doubt = λ v. false; serial = serial }

abbrev pub no_maps : MissedNote
no_maps = maps_none 0

-- ---- how many regions an attach copies

-- how many regions below a number are in a set
abbrev pub count_regions : (ℕ → Bool) → ℕ → ℕ
count_regions set zero = 0
count_regions set (suc n) = count_regions set n + (if set n then 1 else 0)

-- The regions of a plex that are copied, of so many: all that it has missed, and of the others only those that it may have missed.
pub record CopiesMissed (w : MissedNote) (v p n count : ℕ) : Type 0 where
  pub set : ℕ → Bool
  pub least : (r : ℕ) → r < n → w.missed v p r ≡ true → set r ≡ true
  pub most : (r : ℕ) → r < n → set r ≡ true → (w.missed v p r ≡ true) ⊎ (w.perhaps v p r ≡ true)
  pub count_is : count ≡ count_regions set n

-- the note of a group, with what is noted of its maps
abbrev pub with_maps : MissedNote → GroupNode → GroupNode
with_maps w note = record note { maps = w }
