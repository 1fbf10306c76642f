-- Maps that are filled, one after the other.
use Rattle.std.proofs.Common.{◌≡◌, ◌∙◌, ◌-◌, ◌/◌, ℕ, true, false, ap, sym, subst, arith}
use Rattle.vx_groupmaps.specs.Filling.{AreFilled}
use Rattle.vx_groupmaps.proofs.FillLemmas.{fill_covers, fill_end, fill_fits, fill_goes, fill_pass, fill_stands, fill_start, fill_then, has_region}
use Rattle.vx_groupmaps.proofs.filling.fill_maps.Goals.{then-is_in+then-goes_by_map+in-Ok+else-gone, then-is_in+else-goes_by_map, else-is_in}
use Rattle.vx_groupmaps.proofs.filling.fill_maps.Goals as goal

pub loop-plex-init : goal.loop-plex-init
loop-plex-init g c = fill_start c.args.config.now c.args.vol c.args.set ((c.blocks_of.result - 1) / 64) c.args.logs.now (g.S.Shelf.meaning c.args.shelf.now) c.requires.fits

pub fill_one-requires : goal.fill_one-requires
fill_one-requires g c = record { has = has_region c.args.config.now c.requires.checked c.args.vol c.requires.some c.args.set ((c.blocks_of.result - 1) / 64) (ap (λ (n : ℕ). (n - 1) / 64) c.blocks_of.ensures) c.args.logs.now c.loop-plex.logs (g.S.Shelf.meaning c.args.shelf.now) (g.S.Shelf.meaning c.loop-plex.shelf) c.requires.disks c.loop-plex.plex c.loop-plex.invariant (sym c.goes_by_map.ensures ∙ c.if-goes_by_map.true) }

pub returns-then-gone-clause-goes : goal.returns-then-gone-clause-goes
returns-then-gone-clause-goes g c = fill_goes c.args.config.now c.requires.checked c.args.vol c.requires.some c.args.set ((c.blocks_of.result - 1) / 64) (ap (λ (n : ℕ). (n - 1) / 64) c.blocks_of.ensures) c.args.logs.now c.loop-plex.logs (g.S.Shelf.meaning c.args.shelf.now) (g.S.Shelf.meaning c.loop-plex.shelf) c.requires.disks c.loop-plex.plex c.loop-plex.invariant (sym c.goes_by_map.ensures ∙ c.if-goes_by_map.true) (g.S.Shelf.meaning c.fill_one.new.shelf) c.fill_one.ensures.writes c.fill_one.new.fmr

pub returns-then-gone-clause-stands : goal.returns-then-gone-clause-stands
returns-then-gone-clause-stands g c = fill_stands c.args.config.now c.requires.checked c.args.vol c.requires.some c.args.set ((c.blocks_of.result - 1) / 64) (ap (λ (n : ℕ). (n - 1) / 64) c.blocks_of.ensures) c.args.logs.now c.loop-plex.logs (g.S.Shelf.meaning c.args.shelf.now) (g.S.Shelf.meaning c.loop-plex.shelf) c.requires.disks c.loop-plex.plex c.loop-plex.invariant (sym c.goes_by_map.ensures ∙ c.if-goes_by_map.true) (g.S.Shelf.meaning c.fill_one.new.shelf) c.fill_one.ensures.writes c.fill_one.new.fmr c.in-Ok.gone c.in-Ok.ensures.answers

pub returns-in-Err-clause-goes : goal.returns-in-Err-clause-goes
returns-in-Err-clause-goes g c = fill_goes c.args.config.now c.requires.checked c.args.vol c.requires.some c.args.set ((c.blocks_of.result - 1) / 64) (ap (λ (n : ℕ). (n - 1) / 64) c.blocks_of.ensures) c.args.logs.now c.loop-plex.logs (g.S.Shelf.meaning c.args.shelf.now) (g.S.Shelf.meaning c.loop-plex.shelf) c.requires.disks c.loop-plex.plex c.loop-plex.invariant (sym c.goes_by_map.ensures ∙ c.if-goes_by_map.true) (g.S.Shelf.meaning c.fill_one.new.shelf) c.fill_one.ensures.writes c.fill_one.new.fmr

pub returns-in-Err-clause-fits : goal.returns-in-Err-clause-fits
returns-in-Err-clause-fits g c = fill_fits c.args.config.now c.requires.checked c.args.vol c.requires.some c.args.set ((c.blocks_of.result - 1) / 64) (ap (λ (n : ℕ). (n - 1) / 64) c.blocks_of.ensures) c.args.logs.now c.loop-plex.logs (g.S.Shelf.meaning c.args.shelf.now) (g.S.Shelf.meaning c.loop-plex.shelf) c.requires.disks c.loop-plex.plex c.loop-plex.invariant (sym c.goes_by_map.ensures ∙ c.if-goes_by_map.true) (g.S.Shelf.meaning c.fill_one.new.shelf) c.fill_one.ensures.writes c.fill_one.new.fmr c.fill_one.ensures.keeps

pub loop-plex-preserved : goal.loop-plex-preserved
loop-plex-preserved g c =
    elim c.if-is_in.branch [
      | then-is_in+then-goes_by_map+in-Ok+else-gone w ↦
          rw (w.logs-is, w.shelf-is) (fill_then c.args.config.now c.requires.checked c.args.vol c.requires.some c.args.set ((c.blocks_of.result - 1) / 64) (ap (λ (n : ℕ). (n - 1) / 64) c.blocks_of.ensures) c.args.logs.now c.loop-plex.logs (g.S.Shelf.meaning c.args.shelf.now) (g.S.Shelf.meaning c.loop-plex.shelf) c.requires.disks c.loop-plex.plex c.loop-plex.invariant (sym w.goes_by_map.ensures ∙ w.if-goes_by_map.true) (g.S.Shelf.meaning w.fill_one.new.shelf) w.fill_one.ensures.writes w.fill_one.new.fmr w.in-Ok.gone w.in-Ok.ensures.answers w.if-gone.false w.fill_one.ensures.keeps)
      | then-is_in+else-goes_by_map w ↦
          rw (w.logs-is, w.shelf-is) (fill_pass c.args.config.now c.args.vol c.args.set ((c.blocks_of.result - 1) / 64) c.loop-plex.plex c.args.logs.now c.loop-plex.logs (g.S.Shelf.meaning c.args.shelf.now) (g.S.Shelf.meaning c.loop-plex.shelf)
          (λ on is_map. let clash : true ≡ false = sym is_map ∙ sym w.goes_by_map.ensures ∙ w.if-goes_by_map.false in cc) c.loop-plex.invariant)
      | else-is_in w ↦
          rw (w.logs-is, w.shelf-is) (fill_pass c.args.config.now c.args.vol c.args.set ((c.blocks_of.result - 1) / 64) c.loop-plex.plex c.args.logs.now c.loop-plex.logs (g.S.Shelf.meaning c.args.shelf.now) (g.S.Shelf.meaning c.loop-plex.shelf)
          (λ on is_map. let clash : true ≡ false = sym on ∙ sym c.is_in.ensures ∙ w.if-is_in.false in cc) c.loop-plex.invariant)
    ]

pub returns-clause-filled : goal.returns-clause-filled
returns-clause-filled g c =
    subst (λ (n : ℕ). AreFilled c.args.config.now c.args.vol c.args.set n c.loop-plex.logs) (ap (λ (n : ℕ). (n - 1) / 64) c.blocks_of.ensures)
    (fill_end c.args.config.now c.requires.checked c.args.vol c.args.set ((c.blocks_of.result - 1) / 64) c.loop-plex.plex c.args.logs.now c.loop-plex.logs (g.S.Shelf.meaning c.args.shelf.now) (g.S.Shelf.meaning c.loop-plex.shelf) (omega (arith, c.loop-plex-test.false)) c.loop-plex.invariant)

pub returns-clause-covers : goal.returns-clause-covers
returns-clause-covers g c = λ spare cover.
    fill_covers c.args.config.now c.requires.checked c.args.vol c.args.set ((c.blocks_of.result - 1) / 64) c.loop-plex.plex c.args.logs.now c.loop-plex.logs (g.S.Shelf.meaning c.args.shelf.now) (g.S.Shelf.meaning c.loop-plex.shelf) (omega (arith, c.loop-plex-test.false)) c.loop-plex.invariant spare cover
