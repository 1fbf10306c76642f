-- `kinds_seen`: what the calls ask, and what it gives.
use Rattle.std.proofs.Common.{◌≡◌, ◌∙◌, ◌++◌, ◌≤◌, ℕ, List, ap, length, map, sym, arith}
use Rattle.std.specs.Prelude.{slice_get}
use Rattle.std.proofs.lemmas.List.{length-map}
use Rattle.vx_events.specs.RvgViews.{data_seen, others_from}
use Rattle.vx_order.specs.declared.facts.VolumeFacts.{VolumeFacts}
use Rattle.vx_group_facts.proofs.KindPlaces.{data_within, kinds_few}
use Rattle.vx_group_facts.proofs.seen.kinds_seen.Goals as goal

pub with_data-room-requires-clause-few : goal.with_data-room-requires-clause-few
with_data-room-requires-clause-few c =
    let many : length c.as_slice.result.now ≡ length c.args.units.now.vols = ap (λ (ns : List ℕ). length ns) c.as_slice.ensures.units in
    omega (arith, many, kinds_few c.args.volumes.now c.args.units.now c.requires.group, c.requires.few)

pub with_data-room-requires-clause-within : goal.with_data-room-requires-clause-within
with_data-room-requires-clause-within c = λ k place at.
    data_within c.args.volumes.now c.args.units.now c.requires.group k place (ap (λ (ns : List ℕ). slice_get ns k) (sym c.as_slice.ensures.units) ∙ at)

pub with_others-requires-clause-fits : goal.with_others-requires-clause-fits
with_others-requires-clause-fits c =
    let vs = c.args.volumes.now in
    let u = c.args.units.now in
    let many : length c.with_data-room.result ≡ length u.vols =
    ap (λ (fs : List VolumeFacts). length fs) c.with_data-room.ensures ∙ length-map c.as_slice.result.now (data_seen vs) ∙ ap (λ (ns : List ℕ). length ns) c.as_slice.ensures.units in
    omega (arith, many, kinds_few vs u c.requires.group, c.requires.few)

pub returns : goal.returns
returns c =
    c.into_table.ensures ∙ c.with_others.ensures
    ∙ ap (λ (fs : List VolumeFacts). fs ++ others_from c.args.units.now 0 c.args.volumes.now)
    (c.with_data-room.ensures ∙ ap (λ (ns : List ℕ). map (data_seen c.args.volumes.now) ns) c.as_slice.ensures.units)
