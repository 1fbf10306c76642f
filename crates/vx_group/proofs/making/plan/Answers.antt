-- `plan`: clause ends; what `find_space`, `volume_of` and `longer` ask.
use Rattle.std.proofs.Common.{inl, refl, ap, sym, ◌∙◌, arith}
use Rattle.std.specs.List.{list_all}
use Rattle.vx_kept.proofs.Narrower.{sound_few}
use Rattle.vx_group.specs.Makes.{is_few}
use Rattle.vx_group.proofs.MakeLemmas.{finds_plan, planned}
use Rattle.vx_group.proofs.ShapeLemmas.{log_long, may_make}
use Rattle.vx_group.proofs.making.plan.Goals as goal

pub find_space-requires : goal.find_space-requires
find_space-requires c = (may_make c.args.config.now c.args.name.now c.args.want.now c.requires.may).shape (let fits = c.width_of.type_inv in omega (arith, fits, c.width_of.ensures))

pub returns-in-Err-clause-ends : goal.returns-in-Err-clause-ends
returns-in-Err-clause-ends c = finds_plan c.args.config.now c.args.name.now c.args.want.now c.in-Err.stop c.in-Err.ensures

pub returns-then-not-are_few-clause-ends : goal.returns-then-not-are_few-clause-ends
returns-then-not-are_few-clause-ends c = (record { found = c.in-Ok.found; space = c.in-Ok.ensures; many = inl (ap (list_all is_few) (sym c.deref.ensures.value) ∙ sym c.if-not-are_few.ensures) }, refl)

pub volume_of-requires-clause-shape : goal.volume_of-requires-clause-shape
volume_of-requires-clause-shape c = (may_make c.args.config.now c.args.name.now c.args.want.now c.requires.may).shape (let fits = c.width_of.type_inv in omega (arith, fits, c.width_of.ensures))

pub volume_of-requires-clause-many : goal.volume_of-requires-clause-many
volume_of-requires-clause-many c = c.in-Ok.ensures.many

pub volume_of-requires-clause-few : goal.volume_of-requires-clause-few
volume_of-requires-clause-few c = ap (list_all is_few) (sym c.deref.ensures.value) ∙ sym c.if-not-are_few.ensures

pub volume_of-requires-clause-logs : goal.volume_of-requires-clause-logs
volume_of-requires-clause-logs c = log_long c.args.want.now _ _ c.args.want.now.drl c.args.want.now.fmr c.in-Ok.found.logs c.in-Ok.ensures.logs

pub longer-requires-clause-few : goal.longer-requires-clause-few
longer-requires-clause-few c = sound_few c.args.config.now c.requires.checked

pub longer-requires-clause-room : goal.longer-requires-clause-room
longer-requires-clause-room c = (may_make c.args.config.now c.args.name.now c.args.want.now c.requires.may).room

pub returns-in-Ok-volume_of-clause-ends : goal.returns-in-Ok-volume_of-clause-ends
returns-in-Ok-volume_of-clause-ends c =
    planned c.args.config.now c.args.name.now c.args.want.now c.in-Ok.found c.in-Ok-volume_of.volume c.requires.checked c.requires.may
    ((may_make c.args.config.now c.args.name.now c.args.want.now c.requires.may).shape (let fits = c.width_of.type_inv in omega (arith, fits, c.width_of.ensures)))
    c.requires.prefer c.in-Ok.ensures c.in-Ok-volume_of.ensures c.longer.result c.longer.ensures
