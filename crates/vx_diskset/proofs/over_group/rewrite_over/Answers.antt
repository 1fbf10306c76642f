-- The data volumes of a replicated volume group that is made are written as they read.
use Rattle.std.proofs.Common.{ℕ, List, refl, subst}
use Rattle.std.specs.Prelude.{Contains}
use Rattle.vx_ground.specs.Lifted.{laid_volumes}
use Rattle.vx_diskset.specs.Works.{DoesRewrite}
use Rattle.vx_diskset.proofs.OverMaking.{placed_then}
use Rattle.vx_diskset.proofs.Rewriting.{is_there}
use Rattle.vx_diskset.proofs.over_group.rewrite_over.Goals as goal

pub work_over-requires-after_bounds : goal.work_over-requires-after_bounds
work_over-requires-after_bounds g c = λ κs lives. λ u among.
    let placed = placed_then c.args.laid c.args.units.now c.requires.may (laid_volumes c.args.laid) refl (λ v. refl) in
    is_there c.args.units.now.vols (laid_volumes c.args.laid).units placed.exist u (subst (λ (xs : List ℕ). Contains xs u) c.as_slice-volumes.ensures.units among)

pub returns-clause-does : goal.returns-clause-does
returns-clause-does g c = subst (λ (xs : List ℕ). DoesRewrite xs (laid_volumes c.args.laid) (laid_volumes c.work_over.result.0) c.work_over.result.1) c.as_slice-volumes.ensures.units c.work_over.ensures.does

pub returns-clause-ground : goal.returns-clause-ground
returns-clause-ground g c = c.work_over.ensures.ground

pub returns-clause-since : goal.returns-clause-since
returns-clause-since g c = c.work_over.ensures.since

pub returns-clause-told : goal.returns-clause-told
returns-clause-told g c = c.work_over.ensures.told
