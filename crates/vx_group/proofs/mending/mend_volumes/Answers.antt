-- `mend_volumes`: clauses mended, only and agreed; what `copy_volume` asks; what stays true in its loop over `vol`.
use Rattle.std.proofs.Common.{◌+◌, ◌<◌, ℕ, sym, subst, ap, length, arith, ◌∙◌, Err}
use Rattle.std.specs.Prelude.{Option}
use Rattle.vx_config.specs.Checks.{blocks_of}
use Rattle.vx_drl.specs.Dirty.{Dirty}
use Rattle.vx_model.specs.Sizes.{regions_of}
use Rattle.vx_resync.specs.Picks.{DrlReaches, InPicked, marked_or}
use Rattle.vx_group.specs.Copying.{CopyMoved, Mirrored}
use Rattle.vx_group.specs.Resumes.{source_at}
use Rattle.vx_group.specs.Mends.{Mending, drl_at}
use Rattle.vx_group.specs.Stands.{inner_meaning}
use Rattle.vx_group.specs.declared.inner.Inner.{Inner}
use Rattle.vx_group.proofs.MendLemmas.{mend_more, mend_on, mend_skip, none_mended, only_more, same_Goes}
use Rattle.vx_group.proofs.mending.mend_volumes.Goals.{then-stopped-vol+in-Ok, else-stopped-vol}
use Rattle.vx_group.proofs.CallLemmas.{blames_later}
use Rattle.vx_group.proofs.mending.mend_volumes.Goals as goal

pub loop-vol-init : goal.loop-vol-init
loop-vol-init g c =
    none_mended c.args.core.now c.args.stopped.now c.args.sources.now c.args.logs.now (g.S.Shelf.meaning c.args.shelf.now) c.requires.stands c.requires.settled c.requires.up (same_Goes (inner_meaning c.args.core.now (g.S.Shelf.meaning c.args.shelf.now)))

pub returns-in-Err-clause-mended : goal.returns-in-Err-clause-mended
returns-in-Err-clause-mended g c =
    mend_on c.args.core.now c.loop-vol.core c.args.stopped.now c.args.sources.now c.args.logs.now c.loop-vol.vol (g.S.Shelf.meaning c.args.shelf.now) (g.S.Shelf.meaning c.loop-vol.shelf) c.loop-vol.invariant c.copy_volume.new.core (g.S.Shelf.meaning c.copy_volume.new.shelf)
    (g.met.S.Shelf.lawful c.loop-vol.shelf) (g.met.S.Shelf.lawful c.copy_volume.new.shelf) (c.requires.on c.loop-vol.vol (let count = ap length c.as_slice-vol-end.ensures.volumes in omega (arith, count, c.loop-vol-test.true))) _ c.copy_volume.ensures.moved

pub loop-vol-preserved : goal.loop-vol-preserved
loop-vol-preserved g c =
    elim c.if-stopped-vol.branch [
      | then-stopped-vol+in-Ok w ↦
          subst (λ s. Mending c.args.core.now c.args.stopped.now c.args.sources.now c.args.logs.now (c.loop-vol.vol + 1) c.if-stopped-vol.core (g.S.Shelf.meaning c.args.shelf.now) (g.S.Shelf.meaning s)) (sym w.shelf-is)
          (subst (λ (k : Inner). Mending c.args.core.now c.args.stopped.now c.args.sources.now c.args.logs.now (c.loop-vol.vol + 1) k (g.S.Shelf.meaning c.args.shelf.now) (g.S.Shelf.meaning w.copy_volume.new.shelf)) (sym w.core-is)
          (mend_more c.args.core.now c.loop-vol.core c.args.stopped.now c.args.sources.now c.args.logs.now c.loop-vol.vol (g.S.Shelf.meaning c.args.shelf.now) (g.S.Shelf.meaning c.loop-vol.shelf) c.loop-vol.invariant w.copy_volume.new.core (g.S.Shelf.meaning w.copy_volume.new.shelf)
          (g.met.S.Shelf.lawful c.loop-vol.shelf) (g.met.S.Shelf.lawful w.copy_volume.new.shelf) (c.requires.on c.loop-vol.vol (let count = ap length c.as_slice-vol-end.ensures.volumes in omega (arith, count, c.loop-vol-test.true))) (marked_or (drl_at c.args.logs.now c.loop-vol.vol)) (g.met.S.Shelf.lawful c.args.shelf.now) (c.requires.tell.agree c.loop-vol.vol (let count = ap length c.as_slice-vol-end.ensures.volumes in omega (arith, count, c.loop-vol-test.true)) w.if-stopped-vol.true)
          (subst (λ (o : Option Dirty). Mirrored c.loop-vol.core c.loop-vol.vol (source_at c.args.sources.now c.loop-vol.vol) (marked_or o) w.copy_volume.new.core (g.S.Shelf.meaning c.loop-vol.shelf) (g.S.Shelf.meaning w.copy_volume.new.shelf)) w.drl_of-drl.ensures w.in-Ok.ensures.mirrored)
          (only_more c.args.core.now c.loop-vol.core c.args.stopped.now c.args.sources.now c.args.logs.now c.loop-vol.vol (g.S.Shelf.meaning c.args.shelf.now) (g.S.Shelf.meaning c.loop-vol.shelf) c.loop-vol.invariant w.copy_volume.new.core (g.S.Shelf.meaning w.copy_volume.new.shelf)
          (g.met.S.Shelf.lawful c.loop-vol.shelf) (g.met.S.Shelf.lawful w.copy_volume.new.shelf) (c.requires.on c.loop-vol.vol (let count = ap length c.as_slice-vol-end.ensures.volumes in omega (arith, count, c.loop-vol-test.true))) w.if-stopped-vol.true
          (subst (λ (o : Option Dirty). CopyMoved c.loop-vol.core c.loop-vol.vol (source_at c.args.sources.now c.loop-vol.vol) (InPicked (marked_or o)) w.copy_volume.new.core (g.S.Shelf.meaning c.loop-vol.shelf) (g.S.Shelf.meaning w.copy_volume.new.shelf)) w.drl_of-drl.ensures w.copy_volume.ensures.moved))))
      | else-stopped-vol w ↦
          subst (λ s. Mending c.args.core.now c.args.stopped.now c.args.sources.now c.args.logs.now (c.loop-vol.vol + 1) c.if-stopped-vol.core (g.S.Shelf.meaning c.args.shelf.now) (g.S.Shelf.meaning s)) (sym w.shelf-is)
          (subst (λ (k : Inner). Mending c.args.core.now c.args.stopped.now c.args.sources.now c.args.logs.now (c.loop-vol.vol + 1) k (g.S.Shelf.meaning c.args.shelf.now) (g.S.Shelf.meaning c.loop-vol.shelf)) (sym w.core-is)
          (mend_skip c.args.core.now c.loop-vol.core c.args.stopped.now c.args.sources.now c.args.logs.now c.loop-vol.vol (g.S.Shelf.meaning c.args.shelf.now) (g.S.Shelf.meaning c.loop-vol.shelf) c.loop-vol.invariant w.if-stopped-vol.false))
    ]

pub copy_volume-requires-clause-reach : goal.copy_volume-requires-clause-reach
copy_volume-requires-clause-reach g c =
    let there : c.loop-vol.vol < length c.args.core.now.config.volumes = let count = ap length c.as_slice-vol-end.ensures.volumes in omega (arith, count, c.loop-vol-test.true) in
    subst (λ (o : Option Dirty). DrlReaches (regions_of (blocks_of c.loop-vol.core.config.volumes c.loop-vol.vol)) o) (sym c.drl_of-drl.ensures)
    (subst (λ (n : ℕ). DrlReaches (regions_of n) (drl_at c.args.logs.now c.loop-vol.vol)) (sym (c.loop-vol.invariant.on.shape.blocks c.loop-vol.vol)) (c.requires.tell.reach c.loop-vol.vol there))

pub returns-in-Err-clause-only : goal.returns-in-Err-clause-only
returns-in-Err-clause-only g c =
    only_more c.args.core.now c.loop-vol.core c.args.stopped.now c.args.sources.now c.args.logs.now c.loop-vol.vol (g.S.Shelf.meaning c.args.shelf.now) (g.S.Shelf.meaning c.loop-vol.shelf) c.loop-vol.invariant c.copy_volume.new.core (g.S.Shelf.meaning c.copy_volume.new.shelf)
    (g.met.S.Shelf.lawful c.loop-vol.shelf) (g.met.S.Shelf.lawful c.copy_volume.new.shelf) (c.requires.on c.loop-vol.vol (let count = ap length c.as_slice-vol-end.ensures.volumes in omega (arith, count, c.loop-vol-test.true))) c.if-stopped-vol.true
    (subst (λ (o : Option Dirty). CopyMoved c.loop-vol.core c.loop-vol.vol (source_at c.args.sources.now c.loop-vol.vol) (InPicked (marked_or o)) c.copy_volume.new.core (g.S.Shelf.meaning c.loop-vol.shelf) (g.S.Shelf.meaning c.copy_volume.new.shelf)) c.drl_of-drl.ensures c.copy_volume.ensures.moved)

pub returns-clause-only : goal.returns-clause-only
returns-clause-only g c = c.loop-vol.invariant.only

pub returns-in-Err-clause-agreed : goal.returns-in-Err-clause-agreed
returns-in-Err-clause-agreed g c = λ is. c.in-Err.ensures.agreed (c.loop-vol.invariant.trust is)

pub copy_volume-requires-clause-stands : goal.copy_volume-requires-clause-stands
copy_volume-requires-clause-stands g c = c.loop-vol.invariant.on.stands

pub copy_volume-requires-clause-settled : goal.copy_volume-requires-clause-settled
copy_volume-requires-clause-settled g c = c.loop-vol.invariant.settled

pub copy_volume-requires-clause-there : goal.copy_volume-requires-clause-there
copy_volume-requires-clause-there g c = let count = ap length c.as_slice-vol-end.ensures.volumes in let same = c.loop-vol.invariant.on.shape.volumes in omega (arith, count, same, c.loop-vol-test.true)

pub copy_volume-requires-clause-is_on : goal.copy_volume-requires-clause-is_on
copy_volume-requires-clause-is_on g c =
    c.loop-vol.invariant.still c.loop-vol.vol (source_at c.args.sources.now c.loop-vol.vol) (omega arith) ∙ c.requires.on c.loop-vol.vol (let count = ap length c.as_slice-vol-end.ensures.volumes in omega (arith, count, c.loop-vol-test.true))

pub copy_volume-requires-clause-up : goal.copy_volume-requires-clause-up
copy_volume-requires-clause-up g c = c.loop-vol.invariant.up

pub returns-in-Err-clause-cause : goal.returns-in-Err-clause-cause
returns-in-Err-clause-cause g c = blames_later {T = Unit {0}} (Err c.in-Err.error) (g.S.Shelf.meaning c.args.shelf.now) (g.S.Shelf.meaning c.loop-vol.shelf) (g.S.Shelf.meaning c.copy_volume.new.shelf) c.loop-vol.invariant.on.disk_faults c.in-Err.ensures.cause

pub returns-clause-cause : goal.returns-clause-cause
returns-clause-cause g c = c.loop-vol.invariant.up
