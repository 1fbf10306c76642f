-- `are_same`: its result; what stays true in its loop over `volume`.
use Rattle.std.proofs.Common.{◌≡◌, ◌∙◌, ℕ, ◌+◌, ◌<◌, suc, Bool, List, length, take, true, slice_index_or, sym, ap, subst, arith}
use Rattle.std.specs.Prelude.{◌&&◌}
use Rattle.vx_history.specs.Refusals.{agree}
use Rattle.vx_sites.specs.Shapes.{named_volumes}
use Rattle.vx_sites.proofs.Volumes.{agree_apart, agree_differs, agree_more, tells_apart, tells_same}
use Rattle.vx_sites.proofs.bounds.are_same.Goals as goal

pub returns-then-here-there : goal.returns-then-here-there
returns-then-here-there c = sym (agree_apart 1 1 c.args.here.now c.args.there.now c.if-here-there.true)

pub returns-then-here-volume : goal.returns-then-here-volume
returns-then-here-volume c =
    let i : ℕ = c.loop-volume.volume in
    let here : i < length c.args.here.now = c.loop-volume-test.true in
    let there : i < length c.args.there.now = omega (arith, here, c.if-here-there.false) in
    sym (agree_differs 1 1 c.args.here.now c.args.there.now i here there
    (tells_apart (slice_index_or c.args.here.now i 0) (slice_index_or c.args.there.now i 0) c.if-here-volume.true))

pub loop-volume-preserved : goal.loop-volume-preserved
loop-volume-preserved c =
    let xs : List ℕ = c.args.here.now in
    let ys : List ℕ = c.args.there.now in
    let i : ℕ = c.loop-volume.volume in
    let here : i < length xs = c.loop-volume-test.true in
    let there : i < length ys = omega (arith, here, c.if-here-there.false) in
    let on : suc i ≡ i + 1 = omega arith in
    subst (λ (k : ℕ). agree (named_volumes 1 (take k xs)) (named_volumes 1 (take k ys)) ≡ true) on
    (agree_more 1 1 xs ys i here there
    ∙ ap (λ (b : Bool). b && agree (named_volumes 1 (take i xs)) (named_volumes 1 (take i ys)))
    (tells_same (slice_index_or xs i 0) (slice_index_or ys i 0) c.if-here-volume.false)
    ∙ c.loop-volume.invariant)
