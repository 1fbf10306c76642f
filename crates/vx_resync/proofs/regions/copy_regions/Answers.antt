-- `copy_regions`: clauses goes, cause, ok, count and blamed; what `is_picked` and `copy_region` ask; what stays true in its loop over `region`.
use Rattle.std.proofs.Common.{◌≡◌, ◌+◌, ℕ, sym, ◌∙◌, subst, arith}
use Rattle.std.specs.Option.{option_copied}
use Rattle.vx_config.specs.Checks.{blocks_of}
use Rattle.vx_model.specs.Sizes.{regions_of}
use Rattle.vx_disk.proofs.Causing.{cause_before}
use Rattle.vx_resync.specs.Copies.{CopiedBelow}
use Rattle.vx_resync.specs.Picks.{InPicked, InPickedBelow, is_picked, picked_below}
use Rattle.vx_resync.proofs.CauseLemmas.{copy_accepted, copy_refused_later}
use Rattle.vx_resync.proofs.CopyLemmas.{alike_less, below_goes, none_copied, passed_region, ready_after, region_copied, region_goes}
use Rattle.vx_resync.proofs.PickLemmas.{in_regions, maps_less}
use Rattle.vx_resync.proofs.regions.copy_regions.Goals.{then-is_picked+in-Ok, else-is_picked}
use Rattle.vx_resync.proofs.regions.copy_regions.Goals as goal

pub loop-region-init : goal.loop-region-init
loop-region-init g c = (none_copied c.args.config.now c.args.vol c.args.source c.args.to (is_picked c.args.to (option_copied c.args.drl) (option_copied c.args.fmr)) (g.S.Shelf.meaning c.args.shelf.now) c.requires.ready.up, omega arith)

pub is_picked-requires : goal.is_picked-requires
is_picked-requires g c = record { inside = maps_less (regions_of (blocks_of c.args.config.now.volumes c.args.vol)) (c.loop-region.region + 1) c.args.to (option_copied c.args.drl) (option_copied c.args.fmr) (omega (arith, c.loop-region-test.true, c.div_ceil-regions.ensures, c.blocks_of.ensures)) c.requires.reach }

pub copy_region-requires-clause-ready : goal.copy_region-requires-clause-ready
copy_region-requires-clause-ready g c = ready_after c.args.config.now c.args.vol c.args.source c.args.to _ (g.S.Shelf.meaning c.args.shelf.now) (g.S.Shelf.meaning c.loop-region.shelf) c.loop-region.invariant.0.goes c.loop-region.invariant.0.alike.up c.requires.ready

pub copy_region-requires-clause-inside : goal.copy_region-requires-clause-inside
copy_region-requires-clause-inside g c = omega (arith, c.loop-region-test.true, c.div_ceil-regions.ensures, c.blocks_of.ensures)

pub returns-in-Err-clause-goes : goal.returns-in-Err-clause-goes
returns-in-Err-clause-goes g c =
    below_goes c.args.config.now c.args.vol c.args.source c.args.to (is_picked c.args.to (option_copied c.args.drl) (option_copied c.args.fmr)) (c.loop-region.region + 1) (g.S.Shelf.meaning c.args.shelf.now) (g.S.Shelf.meaning c.copy_region.new.shelf)
    (region_goes c.args.config.now c.args.vol c.args.source c.args.to (is_picked c.args.to (option_copied c.args.drl) (option_copied c.args.fmr)) c.loop-region.region c.loop-region.copied (g.S.Shelf.meaning c.args.shelf.now) (g.S.Shelf.meaning c.loop-region.shelf) (g.S.Shelf.meaning c.copy_region.new.shelf) c.requires.ready c.loop-region.invariant.0 (sym c.is_picked.ensures ∙ c.if-is_picked.true) c.copy_region.ensures.goes)

pub returns-in-Err-clause-cause : goal.returns-in-Err-clause-cause
returns-in-Err-clause-cause g c = cause_before (g.S.Shelf.meaning c.args.shelf.now) (g.S.Shelf.meaning c.loop-region.shelf) (g.S.Shelf.meaning c.copy_region.new.shelf) c.loop-region.invariant.0.goes.disk_faults c.in-Err.no c.in-Err.ensures.cause

pub loop-region-preserved : goal.loop-region-preserved
loop-region-preserved g c = (
  elim c.if-is_picked.branch [
    | then-is_picked+in-Ok w ↦
        subst (λ s. CopiedBelow c.args.config.now c.args.vol c.args.source c.args.to (is_picked c.args.to (option_copied c.args.drl) (option_copied c.args.fmr)) (c.loop-region.region + 1) c.if-is_picked.copied (g.S.Shelf.meaning c.args.shelf.now) (g.S.Shelf.meaning s)) (sym w.shelf-is)
        (subst (λ (n : ℕ). CopiedBelow c.args.config.now c.args.vol c.args.source c.args.to (is_picked c.args.to (option_copied c.args.drl) (option_copied c.args.fmr)) (c.loop-region.region + 1) n (g.S.Shelf.meaning c.args.shelf.now) (g.S.Shelf.meaning w.copy_region.new.shelf)) (sym w.copied-is)
        (region_copied c.args.config.now c.args.vol c.args.source c.args.to (is_picked c.args.to (option_copied c.args.drl) (option_copied c.args.fmr)) c.loop-region.region c.loop-region.copied (g.S.Shelf.meaning c.args.shelf.now) (g.S.Shelf.meaning c.loop-region.shelf) (g.S.Shelf.meaning w.copy_region.new.shelf) c.requires.ready c.loop-region.invariant.0 (sym c.is_picked.ensures ∙ w.if-is_picked.true) w.copy_region.ensures.goes w.in-Ok.ensures.ok))
    | else-is_picked w ↦
        subst (λ s. CopiedBelow c.args.config.now c.args.vol c.args.source c.args.to (is_picked c.args.to (option_copied c.args.drl) (option_copied c.args.fmr)) (c.loop-region.region + 1) c.if-is_picked.copied (g.S.Shelf.meaning c.args.shelf.now) (g.S.Shelf.meaning s)) (sym w.shelf-is)
        (subst (λ (n : ℕ). CopiedBelow c.args.config.now c.args.vol c.args.source c.args.to (is_picked c.args.to (option_copied c.args.drl) (option_copied c.args.fmr)) (c.loop-region.region + 1) n (g.S.Shelf.meaning c.args.shelf.now) (g.S.Shelf.meaning c.loop-region.shelf)) (sym w.copied-is)
        (passed_region c.args.config.now c.args.vol c.args.source c.args.to (is_picked c.args.to (option_copied c.args.drl) (option_copied c.args.fmr)) c.loop-region.region c.loop-region.copied (g.S.Shelf.meaning c.args.shelf.now) (g.S.Shelf.meaning c.loop-region.shelf) c.loop-region.invariant.0 (sym c.is_picked.ensures ∙ w.if-is_picked.false)))
  ],
  omega (arith, c.loop-region-test.true),
)

pub returns-clause-goes : goal.returns-clause-goes
returns-clause-goes g c = below_goes c.args.config.now c.args.vol c.args.source c.args.to (is_picked c.args.to (option_copied c.args.drl) (option_copied c.args.fmr)) c.loop-region.region (g.S.Shelf.meaning c.args.shelf.now) (g.S.Shelf.meaning c.loop-region.shelf) c.loop-region.invariant.0.goes

pub returns-clause-ok : goal.returns-clause-ok
returns-clause-ok g c =
    alike_less c.args.config.now c.args.vol c.args.source c.args.to (InPickedBelow (is_picked c.args.to (option_copied c.args.drl) (option_copied c.args.fmr)) c.loop-region.region) (InPicked (is_picked c.args.to (option_copied c.args.drl) (option_copied c.args.fmr))) (g.S.Shelf.meaning c.args.shelf.now) (g.S.Shelf.meaning c.loop-region.shelf)
    (λ k inside is. record { below = in_regions c.args.config.now c.args.vol c.loop-region.region k (omega (arith, c.loop-region-test.false, c.div_ceil-regions.ensures, c.blocks_of.ensures)) inside; picked = is }) c.loop-region.invariant.0.alike

pub returns-clause-count : goal.returns-clause-count
returns-clause-count g c =
    let same : c.loop-region.region ≡ regions_of (blocks_of c.args.config.now.volumes c.args.vol) = omega (arith, c.loop-region-test.false, c.loop-region.invariant.1, c.div_ceil-regions.ensures, c.blocks_of.ensures) in
    subst (λ (n : ℕ). c.loop-region.copied ≡ picked_below (is_picked c.args.to (option_copied c.args.drl) (option_copied c.args.fmr)) n) same c.loop-region.invariant.0.counted

pub returns-in-Err-clause-blamed : goal.returns-in-Err-clause-blamed
returns-in-Err-clause-blamed g c = copy_refused_later (Unit {0}) ℕ c.args.config.now c.args.vol c.args.source c.args.to (g.S.Shelf.meaning c.args.shelf.now) (g.S.Shelf.meaning c.loop-region.shelf) (g.S.Shelf.meaning c.copy_region.new.shelf) c.loop-region.invariant.0.goes.faults c.loop-region.invariant.0.goes.disk_faults c.in-Err.no c.in-Err.ensures.blamed

pub returns-clause-blamed : goal.returns-clause-blamed
returns-clause-blamed g c = copy_accepted c.args.config.now c.args.vol c.args.source c.args.to (g.S.Shelf.meaning c.args.shelf.now) (g.S.Shelf.meaning c.loop-region.shelf) c.loop-region.copied c.loop-region.invariant.0.alike.up
