-- A log of missed regions that is taken up, or lost.
use Rattle.std.proofs.Common.{◌≡◌, ◌∙◌, Some, None, inr, refl, sym}
use Rattle.vx_config.specs.declared.entry.VolumeLog.TheVariants.{Fmr}
use Rattle.vx_groupmaps.proofs.TakenLemmas.{device_rose, found_fits, taken_agrees, unused_apart}
use Rattle.vx_groupmaps.proofs.loading.load_maps.Goals as goal

pub returns-then-not-is_used-clause-takes : goal.returns-then-not-is_used-clause-takes
returns-then-not-is_used-clause-takes g c =
    let off = sym c.is_used.ensures ∙ c.if-not-is_used.true in
    (off, unused_apart c.args.config.now c.args.vol Fmr off)

pub returns-then-not-is_used-clause-covers : goal.returns-then-not-is_used-clause-covers
returns-then-not-is_used-clause-covers g c = λ disk f is up. absurd (let clash : None ≡ Some f = is in cc)

pub returns-then-on_failed_disk-clause-covers : goal.returns-then-on_failed_disk-clause-covers
returns-then-on_failed_disk-clause-covers g c = λ disk f is up. absurd (let clash : None ≡ Some f = is in cc)

pub returns-in-Err-No-Device-clause-covers : goal.returns-in-Err-No-Device-clause-covers
returns-in-Err-No-Device-clause-covers g c = λ disk f is up. absurd (let clash : None ≡ Some f = is in cc)

pub returns-in-Err-No-Device-clause-takes : goal.returns-in-Err-No-Device-clause-takes
returns-in-Err-No-Device-clause-takes g c =
    (refl, sym c.is_used.ensures ∙ c.if-not-is_used.false, inr (device_rose (g.S.Shelf.meaning c.args.shelf.now) (g.S.Shelf.meaning c.load_fmr.new.shelf) c.in-Err-No-Device.field-0 c.in-Err-No-Device.field-0-0 c.in-Err-No-Device.field-0-0-0 c.in-Err-No-Device.field-0-is c.in-Err-No-Device.field-0-0-is c.in-Err-No-Device.ensures.cause))

pub returns-in-Ok-clause-fits : goal.returns-in-Ok-clause-fits
returns-in-Ok-clause-fits g c = λ f is. found_fits c.args.config.now c.args.vol (g.S.Shelf.meaning c.args.shelf.now) (g.S.Shelf.meaning c.load_fmr.new.shelf) c.in-Ok.fmr f is c.in-Ok.ensures.found

pub returns-in-Ok-clause-covers : goal.returns-in-Ok-clause-covers
returns-in-Ok-clause-covers g c = λ disk f is up.
    taken_agrees c.args.config.now c.requires.checked c.args.vol c.requires.some (g.S.Shelf.meaning c.args.shelf.now) (g.S.Shelf.meaning c.load_fmr.new.shelf) (g.met.S.Shelf.lawful c.args.shelf.now) c.load_fmr.ensures.goes disk c.in-Ok.fmr f is c.in-Ok.ensures.found up
