-- `copy_regions`: clauses moved, cause, copied and agreed; what `is_picked` and `copy_region` ask; what stays true in its loop over `region`.
use Rattle.std.proofs.Common.{◌+◌, Err, sym, ◌∙◌, subst, arith}
use Rattle.std.specs.Option.{option_copied}
use Rattle.vx_config.specs.Checks.{blocks_of}
use Rattle.vx_model.specs.Sizes.{regions_of}
use Rattle.vx_resync.specs.Picks.{InPicked, InPickedBelow, marked_or}
use Rattle.vx_resync.proofs.PickLemmas.{drl_less}
use Rattle.vx_group.specs.Copying.{RunCopied}
use Rattle.vx_group.specs.declared.inner.Inner.{Inner}
use Rattle.vx_group.proofs.CallLemmas.{blames_later}
use Rattle.vx_group.proofs.CopyLemmas.{moved_wider, none_Copied}
use Rattle.vx_group.proofs.RegionLemmas.{all_Copied, passed_Copied, region_Copied, region_Moved}
use Rattle.vx_group.proofs.copying.copy_regions.Goals.{then-is_picked+in-Ok, else-is_picked}
use Rattle.vx_group.proofs.copying.copy_regions.Goals as goal

pub loop-region-init : goal.loop-region-init
loop-region-init g c = (none_Copied c.args.core.now c.args.vol c.args.source (marked_or (option_copied c.args.drl)) (g.S.Shelf.meaning c.args.shelf.now) c.requires.stands c.requires.settled c.requires.is_on c.requires.up, omega arith)

pub is_picked-requires : goal.is_picked-requires
is_picked-requires g c = record { inside = drl_less (regions_of (blocks_of c.args.core.now.config.volumes c.args.vol)) (c.loop-region.region + 1) (option_copied c.args.drl) (omega (arith, c.loop-region-test.true, c.div_ceil-regions.ensures, c.blocks_of.ensures)) c.requires.reach }

pub copy_region-requires-clause-there : goal.copy_region-requires-clause-there
copy_region-requires-clause-there g c = let same = c.loop-region.invariant.0.moved.shape.volumes in let there = c.requires.there in omega (arith, same, there)

pub copy_region-requires-clause-inside : goal.copy_region-requires-clause-inside
copy_region-requires-clause-inside g c = let same = c.loop-region.invariant.0.moved.shape.blocks c.args.vol in omega (arith, same, c.loop-region-test.true, c.div_ceil-regions.ensures, c.blocks_of.ensures)

pub returns-in-Err-clause-moved : goal.returns-in-Err-clause-moved
returns-in-Err-clause-moved g c =
    region_Moved c.args.core.now c.loop-region.core c.copy_region.new.core c.args.vol c.args.source (marked_or (option_copied c.args.drl)) c.loop-region.region (g.S.Shelf.meaning c.args.shelf.now) (g.S.Shelf.meaning c.loop-region.shelf) (g.S.Shelf.meaning c.copy_region.new.shelf) c.loop-region.invariant.0 (sym c.is_picked.ensures ∙ c.if-is_picked.true) c.copy_region.ensures.moved

pub returns-in-Err-clause-cause : goal.returns-in-Err-clause-cause
returns-in-Err-clause-cause g c = blames_later {T = Unit {0}} (Err c.in-Err.error) (g.S.Shelf.meaning c.args.shelf.now) (g.S.Shelf.meaning c.loop-region.shelf) (g.S.Shelf.meaning c.copy_region.new.shelf) c.loop-region.invariant.0.moved.acts.disk_faults c.in-Err.ensures.cause

pub loop-region-preserved : goal.loop-region-preserved
loop-region-preserved g c = (
  elim c.if-is_picked.branch [
    | then-is_picked+in-Ok w ↦
        subst (λ s. RunCopied c.args.core.now c.args.vol c.args.source (InPickedBelow (marked_or (option_copied c.args.drl)) (c.loop-region.region + 1)) c.if-is_picked.core (g.S.Shelf.meaning c.args.shelf.now) (g.S.Shelf.meaning s)) (sym w.shelf-is)
        (subst (λ (k : Inner). RunCopied c.args.core.now c.args.vol c.args.source (InPickedBelow (marked_or (option_copied c.args.drl)) (c.loop-region.region + 1)) k (g.S.Shelf.meaning c.args.shelf.now) (g.S.Shelf.meaning w.copy_region.new.shelf)) (sym w.core-is)
        (region_Copied c.args.core.now c.loop-region.core w.copy_region.new.core c.args.vol c.args.source (marked_or (option_copied c.args.drl)) c.loop-region.region (g.S.Shelf.meaning c.args.shelf.now) (g.S.Shelf.meaning c.loop-region.shelf) (g.S.Shelf.meaning w.copy_region.new.shelf) c.loop-region.invariant.0 (sym c.is_picked.ensures ∙ w.if-is_picked.true) w.in-Ok.ensures.copied))
    | else-is_picked w ↦
        subst (λ s. RunCopied c.args.core.now c.args.vol c.args.source (InPickedBelow (marked_or (option_copied c.args.drl)) (c.loop-region.region + 1)) c.if-is_picked.core (g.S.Shelf.meaning c.args.shelf.now) (g.S.Shelf.meaning s)) (sym w.shelf-is)
        (subst (λ (k : Inner). RunCopied c.args.core.now c.args.vol c.args.source (InPickedBelow (marked_or (option_copied c.args.drl)) (c.loop-region.region + 1)) k (g.S.Shelf.meaning c.args.shelf.now) (g.S.Shelf.meaning c.loop-region.shelf)) (sym w.core-is)
        (passed_Copied c.args.core.now c.args.vol c.args.source (marked_or (option_copied c.args.drl)) c.loop-region.region c.loop-region.core (g.S.Shelf.meaning c.args.shelf.now) (g.S.Shelf.meaning c.loop-region.shelf) (sym c.is_picked.ensures ∙ w.if-is_picked.false) c.loop-region.invariant.0))
  ],
  omega (arith, c.loop-region-test.true),
)

pub returns-clause-copied : goal.returns-clause-copied
returns-clause-copied g c = all_Copied c.args.core.now c.args.vol c.args.source (marked_or (option_copied c.args.drl)) c.loop-region.region c.loop-region.core (g.S.Shelf.meaning c.args.shelf.now) (g.S.Shelf.meaning c.loop-region.shelf) (omega (arith, c.loop-region-test.false, c.div_ceil-regions.ensures, c.blocks_of.ensures)) c.loop-region.invariant.0

pub returns-clause-moved : goal.returns-clause-moved
returns-clause-moved g c =
    moved_wider c.args.core.now c.args.vol c.args.source (InPickedBelow (marked_or (option_copied c.args.drl)) c.loop-region.region) (InPicked (marked_or (option_copied c.args.drl))) c.loop-region.core (g.S.Shelf.meaning c.args.shelf.now) (g.S.Shelf.meaning c.loop-region.shelf) (λ k is. is.picked) c.loop-region.invariant.0.moved

pub returns-in-Err-clause-agreed : goal.returns-in-Err-clause-agreed
returns-in-Err-clause-agreed g c = λ is. c.in-Err.ensures.agreed (c.loop-region.invariant.0.trust is)
