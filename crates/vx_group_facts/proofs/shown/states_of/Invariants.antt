-- The loop of `states_of` over `place`: what stays true.
use Rattle.std.proofs.Common.{◌≡◌, length, map, take}
use Rattle.vx_model.specs.declared.limits.TheConstants.{MOST_PLEXES}
use Rattle.vx_events.specs.GroupViews.{state_of_plex}
use Rattle.vx_group_facts.proofs.shown.states_of.Given as goal

abbrev pub invariant-loop-place : goal.invariant-loop-place
invariant-loop-place l = (length l.states ≡ MOST_PLEXES) × (take l.place l.states ≡ map state_of_plex (take l.place l.plexes))
