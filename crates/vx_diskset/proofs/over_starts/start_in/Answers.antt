-- A start, for which memory is taken first.
use Rattle.std.proofs.Common.{◌∙◌, ◌*◌, ◌<◌, ◌≤◌, ℕ, List, ap, arith, length, refl, subst, sym}
use Rattle.std.specs.Prelude.{slice_index}
use Rattle.vx_disk.specs.Maps.{maps_of}
use Rattle.vx_ground.specs.Lifted.{laid_volumes}
use Rattle.vx_model.specs.declared.limits.TheConstants.{LEAST_BLOCKS, LINK_PLACES, MOST_DATA_VOLUMES}
use Rattle.vx_model.specs.Sizes.{ring_of}
use Rattle.vx_diskset.proofs.over_starts.start_in.Goals as goal

pub size-blocks-requires-after_bounds : goal.size-blocks-requires-after_bounds
size-blocks-requires-after_bounds g c = λ κs lives. c.requires.there.log_exists

pub maps_over-maps-requires-clause-few : goal.maps_over-maps-requires-clause-few
maps_over-maps-requires-clause-few g c = λ κs lives. subst (λ (xs : List ℕ). length xs ≤ MOST_DATA_VOLUMES) (sym c.as_slice-vols.ensures.units) c.as_slice-vols.ensures.few

pub maps_over-maps-requires-clause-exist : goal.maps_over-maps-requires-clause-exist
maps_over-maps-requires-clause-exist g c = λ κs lives. subst (λ (xs : List ℕ). (v : ℕ) → v < length xs → slice_index xs v < (laid_volumes c.args.laid).units) (sym c.as_slice-vols.ensures.units) c.requires.there.exist

pub start_room-requires : goal.start_room-requires
start_room-requires g c = subst (λ k. LEAST_BLOCKS ≤ k) (sym c.size-blocks.ensures) c.requires.large

pub start_with-requires-clause-there : goal.start_with-requires-clause-there
start_with-requires-clause-there g c = λ κs lives. c.requires.there

pub start_with-requires-clause-large : goal.start_with-requires-clause-large
start_with-requires-clause-large g c = λ κs lives. c.requires.large

pub start_with-requires-clause-room : goal.start_with-requires-clause-room
start_with-requires-clause-room g c = λ κs lives. c.in-Ok.ensures.0 ∙ ap (λ k. ring_of k) c.size-blocks.ensures

pub start_with-requires-clause-maps : goal.start_with-requires-clause-maps
start_with-requires-clause-maps g c = λ κs lives.
    let is = c.in-Ok.ensures.1 ∙ c.maps_over-maps.ensures ∙ ap (λ (xs : List ℕ). LINK_PLACES * maps_of xs (laid_volumes c.args.laid)) c.as_slice-vols.ensures.units in
    omega (arith, is)

pub returns-in-Ok : goal.returns-in-Ok
returns-in-Ok g c = record { starts = c.start_with.ensures.starts }

pub returns-in-Err : goal.returns-in-Err
returns-in-Err g c = record { starts = (refl, λ why same on down. absurd (cc)) }
