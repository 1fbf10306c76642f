-- Links that change as a write is let in, that are attached or detached, and that are in a replay, in memory.
use Rattle.std.specs.Prelude.{ℕ, zero, suc, ◌+◌, ◌*◌, Bool, true, false, List, [], ◌∷◌, map, if◌then◌else◌}
use Rattle.vx_history.specs.Admission.{change, changed, is_holding}
use Rattle.vx_history.specs.declared.admission.Change.{Change}
use Rattle.vx_history.specs.declared.admission.Change.TheVariants.{Stays, ToDcm, ToStale}
use Rattle.vx_model.specs.declared.link.Link.{Link}
use Rattle.vx_model.specs.declared.link.Mode.{Mode}
use Rattle.vx_model.specs.declared.link.Mode.TheVariants.{Dcm, Fork, Log, Replay, Stale}
use Rattle.vx_order.specs.declared.facts.LinkFacts.{LinkFacts}
use Rattle.vx_replay.specs.Primary.{primary_step}
use Rattle.vx_replay.specs.declared.event.PEvent.{PEvent}

-- a link that has become this one, of whose log it needs what it did, or nothing where it needs none of it any more
abbrev pub with_need : Link → LinkFacts → LinkFacts
with_need next l = record { link = next; used = if is_holding next then l.used else 0 }

-- a link behind a change of its mode
abbrev pub changed_fact : Change → LinkFacts → LinkFacts
changed_fact Stays l = l
changed_fact ToStale l = with_need (changed ToStale l.link) l
changed_fact ToDcm l = with_need (changed ToDcm l.link) l

-- a link as a write is let in that takes so many blocks of a ring of these
abbrev pub converted_fact : (need room : ℕ) → LinkFacts → LinkFacts
converted_fact need room l = changed_fact (change need room l.link l.used) l

abbrev pub converted_facts : (need room : ℕ) → List LinkFacts → List LinkFacts
converted_facts need room ls = map (converted_fact need room) ls

-- the first links, so many, each behind a change of its own
abbrev pub turned_below : (LinkFacts → LinkFacts) → ℕ → List LinkFacts → List LinkFacts
turned_below f zero ls = ls
turned_below f (suc k) [] = []
turned_below f (suc k) (l ∷ ls) = f l ∷ turned_below f k ls

-- the regions of a write are marked in the map of such a link
abbrev pub mode_maps : Mode → Bool
mode_maps Log = false
mode_maps Dcm = true
mode_maps (Replay id phase left start end) = false
mode_maps (Fork maps) = true
mode_maps Stale = false

-- the places of the links in whose maps the regions of a write are marked: the first place is the lowest bit
abbrev pub places_with_maps : List LinkFacts → ℕ
places_with_maps [] = 0
places_with_maps (l ∷ ls) = (if mode_maps l.link.mode then 1 else 0) + 2 * places_with_maps ls

-- a link that is attached; its mode stays
abbrev pub attached_link : Link → Link
attached_link l = record l { attached = true }

-- a link that is detached: all regions have to be copied
abbrev pub detached_link : Link → Link
detached_link l = record l { attached = false; mode = Stale }

-- a link behind an event of its replay
abbrev pub replayed_fact : PEvent → LinkFacts → LinkFacts
replayed_fact e l = with_need (primary_step l.link e).link l
