-- `with_others`: what `with_other` asks; what stays true in its loop over `place`.
use Rattle.std.proofs.Common.{◌≡◌, ◌∙◌, ◌+◌, ◌++◌, ◌≤◌, ℕ, Bool, List, [], ◌∷◌, Some, ap, length, sym, take, arith}
use Rattle.std.proofs.lemmas.List.{append_assoc, length-append}
use Rattle.std.proofs.lemmas.Option.{slice_get-get_or}
use Rattle.std.specs.Prelude.{slice_get}
use Rattle.vx_events.specs.RvgViews.{is_data_unit, kinded, others_from, unless_data}
use Rattle.vx_order.specs.declared.facts.VolumeFacts.{VolumeFacts}
use Rattle.vx_group_facts.proofs.KindPlaces.{others_more, others_part}
use Rattle.vx_group_facts.proofs.seen.with_others.Goals as goal

pub with_other-room-requires : goal.with_other-room-requires
with_other-room-requires c = record {
  room = λ plain.
      let n : ℕ = c.loop-place.place in
      let vs = c.args.volumes.now in
      let u = c.args.units.now in
      let v = c.index-volumes-place.result in
      let at : slice_get vs n ≡ Some v = slice_get-get_or vs n _ c.loop-place-test.true ∙ ap (λ e. Some e) (sym c.index-volumes-place.is) in
      let before : List VolumeFacts = others_from u 0 (take n vs) in
      let many : length c.loop-place.room ≡ length c.args.start + length before = ap (λ (fs : List VolumeFacts). length fs) c.loop-place.invariant ∙ length-append c.args.start before in
      let more : others_from u 0 (take (n + 1) vs) ≡ before ++ kinded u n v ∷ [] =
      others_more u n vs v at ∙ ap (λ (b : Bool). before ++ unless_data b (kinded u n v) []) plain in
      let count : length (others_from u 0 (take (n + 1) vs)) ≡ length before + 1 = ap (λ (fs : List VolumeFacts). length fs) more ∙ length-append before (kinded u n v ∷ []) in
      let part : length (others_from u 0 (take (n + 1) vs)) ≤ length (others_from u 0 vs) = others_part u 0 (n + 1) vs in
      omega (arith, many, count, part, c.requires.fits);
}

pub loop-place-preserved : goal.loop-place-preserved
loop-place-preserved c =
    let n : ℕ = c.loop-place.place in
    let vs = c.args.volumes.now in
    let u = c.args.units.now in
    let v = c.index-volumes-place.result in
    let at : slice_get vs n ≡ Some v = slice_get-get_or vs n _ c.loop-place-test.true ∙ ap (λ e. Some e) (sym c.index-volumes-place.is) in
    let before : List VolumeFacts = others_from u 0 (take n vs) in
    let one : List VolumeFacts = unless_data (is_data_unit u.vols n) (kinded u n v) [] in
    c.with_other-room.ensures ∙ ap (λ (fs : List VolumeFacts). fs ++ one) c.loop-place.invariant ∙ append_assoc c.args.start before one
    ∙ ap (λ (fs : List VolumeFacts). c.args.start ++ fs) (sym (others_more u n vs v at))
