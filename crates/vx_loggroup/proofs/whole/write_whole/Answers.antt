-- `write_whole`: clauses stands and marks; what `write_marked` asks.
use Rattle.std.proofs.Common.{◌≡◌, ◌∙◌, ◌/◌, inl, inr, true, false, length, refl, sym, arith, ℕ, ap}
use Rattle.std.proofs.lemmas.Bool.{false_from_ne_true}
use Rattle.vx_disk.specs.Shelf.{Written}
use Rattle.vx_group.specs.Holding.{wide}
use Rattle.vx_logs.specs.Writes.{first_region, last_region}
use Rattle.vx_loggroup.proofs.AlikeLemmas.{going_back, index_low, marks_set, notes_set, reads_wrote, set_stands, runs_set}
use Rattle.vx_group.proofs.CallLemmas.{not_down}
use Rattle.vx_logged.specs.Begun.{begun_refused, fell_in}
use Rattle.vx_logged.specs.Behind.{all_those}
use Rattle.vx_logged.specs.Logged.{are_off}
use Rattle.vx_logged.proofs.BeginLemmas.{but_more}
use Rattle.vx_loggroup.specs.LoggedVolumes.{is_alike}
use Rattle.vx_loggroup.proofs.FreshLemmas.{begun_more}
use Rattle.vx_volume.specs.Plexes.{active}
use Rattle.vx_loggroup.proofs.SetLemmas.{item_of}
use Rattle.vx_loggroup.proofs.KeepingLemmas.{kept_set}
use Rattle.vx_loggroup.proofs.KeepingCalls.{marked_keeps}
use Rattle.vx_loggroup.proofs.WroteMoves.{gone_set, holds_set, none_set, trusts_set}
use Rattle.vx_loggroup.proofs.whole.write_whole.Goals as goal

pub index_mut-requires : goal.index_mut-requires
index_mut-requires g c = let lt = (index_low c.args.core.now c.args.logs.now.items c.args.alike.now c.args.stopped.now (g.S.Shelf.meaning c.args.shelf.now) c.args.vol c.requires.stands c.requires.fits.exists) in omega (arith, c.args.logs.now.ok, lt)

pub write_marked-requires-clause-log : goal.write_marked-requires-clause-log
write_marked-requires-clause-log g c = (c.requires.stands.each c.args.vol c.index_mut.result.now (item_of c.args.logs.now.items c.args.vol c.index_mut.result.now c.index_mut.ensures.value (index_low c.args.core.now c.args.logs.now.items c.args.alike.now c.args.stopped.now (g.S.Shelf.meaning c.args.shelf.now) c.args.vol c.requires.stands c.requires.fits.exists))).on

pub returns-in-Ok-clause-stands : goal.returns-in-Ok-clause-stands
returns-in-Ok-clause-stands g c =
    set_stands (Written c.args.vol c.args.block c.args.bytes.now) c.args.core.now c.write_marked.new.core c.args.logs.now.items c.args.alike.now c.args.alike.now c.args.stopped.now c.write_marked.new.stopped c.args.vol c.write_marked.new.logs (g.S.Shelf.meaning c.args.shelf.now) (g.S.Shelf.meaning c.write_marked.new.shelf) c.requires.stands c.write_marked.ensures.stands c.write_marked.ensures.goes
    (λ w b x apart put. apart put.covers.there) (going_back c.args.stopped.now c.write_marked.new.stopped c.write_marked.ensures.stays) c.write_marked.ensures.others (λ w apart. refl)
    (record {
      on = c.write_marked.ensures.log;
      maps = λ going. c.write_marked.ensures.maps going ((c.requires.stands.each c.args.vol c.index_mut.result.now (item_of c.args.logs.now.items c.args.vol c.index_mut.result.now c.index_mut.ensures.value (index_low c.args.core.now c.args.logs.now.items c.args.alike.now c.args.stopped.now (g.S.Shelf.meaning c.args.shelf.now) c.args.vol c.requires.stands c.requires.fits.exists))).maps (going_back c.args.stopped.now c.write_marked.new.stopped c.write_marked.ensures.stays going));
      alike = λ is up. reads_wrote (Written c.args.vol c.args.block c.args.bytes.now) c.args.core.now c.write_marked.new.core (g.S.Shelf.meaning c.args.shelf.now) (g.S.Shelf.meaning c.write_marked.new.shelf) c.write_marked.ensures.goes c.args.vol c.args.block c.args.bytes.now c.in-Ok.ensures.ok
          ((c.requires.stands.each c.args.vol c.index_mut.result.now (item_of c.args.logs.now.items c.args.vol c.index_mut.result.now c.index_mut.ensures.value (index_low c.args.core.now c.args.logs.now.items c.args.alike.now c.args.stopped.now (g.S.Shelf.meaning c.args.shelf.now) c.args.vol c.requires.stands c.requires.fits.exists))).alike is (λ down. up (c.write_marked.ensures.goes.falls down)));
    })

pub returns-in-Err-clause-stands : goal.returns-in-Err-clause-stands
returns-in-Err-clause-stands g c =
    set_stands (Written c.args.vol c.args.block c.args.bytes.now) c.args.core.now c.write_marked.new.core c.args.logs.now.items c.args.alike.now c.set_alike.new.alike c.args.stopped.now c.write_marked.new.stopped c.args.vol c.write_marked.new.logs (g.S.Shelf.meaning c.args.shelf.now) (g.S.Shelf.meaning c.write_marked.new.shelf) c.requires.stands c.write_marked.ensures.stands c.write_marked.ensures.goes
    (λ w b x apart put. apart put.covers.there) (going_back c.args.stopped.now c.write_marked.new.stopped c.write_marked.ensures.stays) c.write_marked.ensures.others c.set_alike.ensures.others
    (record {
      on = c.write_marked.ensures.log;
      maps = λ going. c.write_marked.ensures.maps going ((c.requires.stands.each c.args.vol c.index_mut.result.now (item_of c.args.logs.now.items c.args.vol c.index_mut.result.now c.index_mut.ensures.value (index_low c.args.core.now c.args.logs.now.items c.args.alike.now c.args.stopped.now (g.S.Shelf.meaning c.args.shelf.now) c.args.vol c.requires.stands c.requires.fits.exists))).maps (going_back c.args.stopped.now c.write_marked.new.stopped c.write_marked.ensures.stays going));
      alike = λ is up. absurd (let clash : false ≡ true = sym c.set_alike.ensures.here ∙ is in cc);
    })

pub returns-in-Ok-clause-marks : goal.returns-in-Ok-clause-marks
returns-in-Ok-clause-marks g c = marks_set (wide c.args.core.now).config c.args.vol (first_region c.args.block) (last_region c.args.block (length c.args.bytes.now / 512)) c.args.logs.now.items c.index_mut.result.now c.write_marked.new.logs (item_of c.args.logs.now.items c.args.vol c.index_mut.result.now c.index_mut.ensures.value (index_low c.args.core.now c.args.logs.now.items c.args.alike.now c.args.stopped.now (g.S.Shelf.meaning c.args.shelf.now) c.args.vol c.requires.stands c.requires.fits.exists)) c.write_marked.ensures.adds

pub returns-in-Err-clause-marks : goal.returns-in-Err-clause-marks
returns-in-Err-clause-marks g c = marks_set (wide c.args.core.now).config c.args.vol (first_region c.args.block) (last_region c.args.block (length c.args.bytes.now / 512)) c.args.logs.now.items c.index_mut.result.now c.write_marked.new.logs (item_of c.args.logs.now.items c.args.vol c.index_mut.result.now c.index_mut.ensures.value (index_low c.args.core.now c.args.logs.now.items c.args.alike.now c.args.stopped.now (g.S.Shelf.meaning c.args.shelf.now) c.args.vol c.requires.stands c.requires.fits.exists)) c.write_marked.ensures.adds

pub returns-in-Ok-clause-notes : goal.returns-in-Ok-clause-notes
returns-in-Ok-clause-notes g c = notes_set (fell_in c.args.core.now c.write_marked.new.core c.args.vol) (are_off c.write_marked.new.core c.args.vol) c.args.vol (first_region c.args.block) (last_region c.args.block (length c.args.bytes.now / 512)) c.args.logs.now.items c.index_mut.result.now c.write_marked.new.logs (item_of c.args.logs.now.items c.args.vol c.index_mut.result.now c.index_mut.ensures.value (index_low c.args.core.now c.args.logs.now.items c.args.alike.now c.args.stopped.now (g.S.Shelf.meaning c.args.shelf.now) c.args.vol c.requires.stands c.requires.fits.exists)) c.in-Ok.ensures.notes

pub returns-in-Ok-clause-marked : goal.returns-in-Ok-clause-marked
returns-in-Ok-clause-marked g c = c.write_marked.ensures.marked

pub returns-in-Err-clause-notes : goal.returns-in-Err-clause-notes
returns-in-Err-clause-notes g c = notes_set (begun_refused c.args.core.now c.write_marked.new.core c.args.vol (is_alike c.args.alike.now c.args.vol)) all_those c.args.vol (first_region c.args.block) (last_region c.args.block (length c.args.bytes.now / 512)) c.args.logs.now.items c.index_mut.result.now c.write_marked.new.logs (item_of c.args.logs.now.items c.args.vol c.index_mut.result.now c.index_mut.ensures.value (index_low c.args.core.now c.args.logs.now.items c.args.alike.now c.args.stopped.now (g.S.Shelf.meaning c.args.shelf.now) c.args.vol c.requires.stands c.requires.fits.exists))
    (but_more (begun_refused c.args.core.now c.write_marked.new.core c.args.vol c.is_sure-sure.result) (begun_refused c.args.core.now c.write_marked.new.core c.args.vol (is_alike c.args.alike.now c.args.vol)) all_those all_those (first_region c.args.block) (last_region c.args.block (length c.args.bytes.now / 512)) c.index_mut.result.now c.write_marked.new.logs
    (λ p on. begun_more c.args.core.now c.write_marked.new.core c.args.vol c.is_sure-sure.result (is_alike c.args.alike.now c.args.vol) (λ is. sym c.is_alike.ensures ∙ c.is_sure-sure.ensures.alike is) p on) (λ p on. on) c.in-Err.ensures.notes)

pub returns-in-Err-clause-marked : goal.returns-in-Err-clause-marked
returns-in-Err-clause-marked g c = c.write_marked.ensures.marked

pub returns-in-Ok-clause-keeps : goal.returns-in-Ok-clause-keeps
returns-in-Ok-clause-keeps g c = marked_keeps c.args.core.now c.write_marked.new.core c.args.vol c.args.logs.now.items c.index_mut.result.now c.write_marked.new.logs (g.S.Shelf.meaning c.args.shelf.now) (g.S.Shelf.meaning c.write_marked.new.shelf) (item_of c.args.logs.now.items c.args.vol c.index_mut.result.now c.index_mut.ensures.value (index_low c.args.core.now c.args.logs.now.items c.args.alike.now c.args.stopped.now (g.S.Shelf.meaning c.args.shelf.now) c.args.vol c.requires.stands c.requires.fits.exists)) c.write_marked.ensures.loses.loses c.write_marked.ensures.trusts c.write_marked.ensures.drops

pub returns-in-Err-clause-keeps : goal.returns-in-Err-clause-keeps
returns-in-Err-clause-keeps g c = marked_keeps c.args.core.now c.write_marked.new.core c.args.vol c.args.logs.now.items c.index_mut.result.now c.write_marked.new.logs (g.S.Shelf.meaning c.args.shelf.now) (g.S.Shelf.meaning c.write_marked.new.shelf) (item_of c.args.logs.now.items c.args.vol c.index_mut.result.now c.index_mut.ensures.value (index_low c.args.core.now c.args.logs.now.items c.args.alike.now c.args.stopped.now (g.S.Shelf.meaning c.args.shelf.now) c.args.vol c.requires.stands c.requires.fits.exists)) c.write_marked.ensures.loses.loses c.write_marked.ensures.trusts c.write_marked.ensures.drops

pub returns-in-Ok-clause-kept : goal.returns-in-Ok-clause-kept
returns-in-Ok-clause-kept g c = λ off. kept_set c.write_marked.new.core c.args.logs.now.items c.args.vol c.write_marked.new.logs (c.in-Ok.ensures.kept off)

pub write_marked-requires-clause-one : goal.write_marked-requires-clause-one
write_marked-requires-clause-one g c = λ is. (c.requires.stands.each c.args.vol c.index_mut.result.now (item_of c.args.logs.now.items c.args.vol c.index_mut.result.now c.index_mut.ensures.value (index_low c.args.core.now c.args.logs.now.items c.args.alike.now c.args.stopped.now (g.S.Shelf.meaning c.args.shelf.now) c.args.vol c.requires.stands c.requires.fits.exists))).alike (sym c.is_alike.ensures ∙ c.is_sure-sure.ensures.alike is)
    (not_down c.is_down-down.result (g.S.Shelf.meaning c.args.shelf.now).down c.is_down-down.ensures (c.is_sure-sure.ensures.up is))

pub returns-in-Ok-clause-begins : goal.returns-in-Ok-clause-begins
returns-in-Ok-clause-begins g c = λ alike going. runs_set (fell_in c.args.core.now c.write_marked.new.core c.args.vol) c.args.vol (first_region c.args.block) (last_region c.args.block (length c.args.bytes.now / 512)) c.args.logs.now.items c.write_marked.new.logs
    (c.in-Ok.ensures.begins (c.is_sure-sure.ensures.all (c.is_alike.ensures ∙ alike) (going_back c.args.stopped.now c.write_marked.new.stopped c.write_marked.ensures.stays going) (c.is_down-down.ensures ∙ false_from_ne_true (g.S.Shelf.meaning c.args.shelf.now).down c.in-Ok.ensures.cause.before)) going)

pub returns-in-Err-clause-begins : goal.returns-in-Err-clause-begins
returns-in-Err-clause-begins g c = λ alike going. tt

pub returns-in-Ok-clause-refused : goal.returns-in-Ok-clause-refused
returns-in-Ok-clause-refused g c = λ alike going up. tt

pub returns-in-Err-clause-refused : goal.returns-in-Err-clause-refused
returns-in-Err-clause-refused g c = λ alike going up off. runs_set (active c.args.core.now.inner.config c.args.vol) c.args.vol (first_region c.args.block) (last_region c.args.block (length c.args.bytes.now / 512)) c.args.logs.now.items c.write_marked.new.logs
    (c.in-Err.ensures.refused (c.is_sure-sure.ensures.all (c.is_alike.ensures ∙ alike) (going_back c.args.stopped.now c.write_marked.new.stopped c.write_marked.ensures.stays going) (c.is_down-down.ensures ∙ false_from_ne_true (g.S.Shelf.meaning c.args.shelf.now).down up)) going)

pub returns-in-Ok-clause-holds : goal.returns-in-Ok-clause-holds
returns-in-Ok-clause-holds g c = λ off. holds_set c.write_marked.new.core.inner.config c.args.vol (first_region c.args.block) (last_region c.args.block (length c.args.bytes.now / 512)) c.args.logs.now.items c.write_marked.new.logs (c.in-Ok.ensures.holds off)

pub returns-in-Err-clause-holds : goal.returns-in-Err-clause-holds
returns-in-Err-clause-holds g c = λ off. tt

pub returns-in-Ok-clause-gone : goal.returns-in-Ok-clause-gone
returns-in-Ok-clause-gone g c = gone_set c.args.vol c.args.logs.now.items c.index_mut.result.now c.write_marked.new.logs (item_of c.args.logs.now.items c.args.vol c.index_mut.result.now c.index_mut.ensures.value (index_low c.args.core.now c.args.logs.now.items c.args.alike.now c.args.stopped.now (g.S.Shelf.meaning c.args.shelf.now) c.args.vol c.requires.stands c.requires.fits.exists)) c.in-Ok.ensures.notes.gone

pub returns-in-Err-clause-gone : goal.returns-in-Err-clause-gone
returns-in-Err-clause-gone g c = gone_set c.args.vol c.args.logs.now.items c.index_mut.result.now c.write_marked.new.logs (item_of c.args.logs.now.items c.args.vol c.index_mut.result.now c.index_mut.ensures.value (index_low c.args.core.now c.args.logs.now.items c.args.alike.now c.args.stopped.now (g.S.Shelf.meaning c.args.shelf.now) c.args.vol c.requires.stands c.requires.fits.exists)) c.in-Err.ensures.notes.gone

pub returns-in-Ok-clause-trusts : goal.returns-in-Ok-clause-trusts
returns-in-Ok-clause-trusts g c = trusts_set c.args.vol c.args.logs.now.items c.write_marked.new.logs c.args.core.now.inner.config c.write_marked.new.core.inner.config c.write_marked.ensures.trusts

pub returns-in-Err-clause-trusts : goal.returns-in-Err-clause-trusts
returns-in-Err-clause-trusts g c = trusts_set c.args.vol c.args.logs.now.items c.write_marked.new.logs c.args.core.now.inner.config c.write_marked.new.core.inner.config c.write_marked.ensures.trusts

pub returns-in-Ok-clause-stays : goal.returns-in-Ok-clause-stays
returns-in-Ok-clause-stays g c = c.write_marked.ensures.stays

pub returns-in-Err-clause-stays : goal.returns-in-Err-clause-stays
returns-in-Err-clause-stays g c = c.write_marked.ensures.stays

pub returns-in-Ok-clause-alike : goal.returns-in-Ok-clause-alike
returns-in-Ok-clause-alike g c = refl

pub returns-in-Err-clause-alike : goal.returns-in-Err-clause-alike
returns-in-Err-clause-alike g c = tt

pub returns-in-Ok-clause-flags : goal.returns-in-Ok-clause-flags
returns-in-Ok-clause-flags g c = λ w apart. refl

pub returns-in-Err-clause-flags : goal.returns-in-Err-clause-flags
returns-in-Err-clause-flags g c = c.set_alike.ensures.others

pub returns-in-Ok-clause-rests : goal.returns-in-Ok-clause-rests
returns-in-Ok-clause-rests g c = c.write_marked.ensures.rests

pub returns-in-Err-clause-rests : goal.returns-in-Err-clause-rests
returns-in-Err-clause-rests g c = c.write_marked.ensures.rests

pub returns-in-Err-clause-free : goal.returns-in-Err-clause-free
returns-in-Err-clause-free g c = λ off. tt

pub returns-in-Ok-clause-free : goal.returns-in-Ok-clause-free
returns-in-Ok-clause-free g c = λ off. elim (c.in-Ok.ensures.free off) [
  | inl none ↦ inl none
  | inr gone ↦ inr (none_set c.args.vol c.args.logs.now.items c.write_marked.new.logs gone)
]

pub returns-in-Ok-clause-unsure : goal.returns-in-Ok-clause-unsure
returns-in-Ok-clause-unsure g c = c.in-Ok.ensures.unsure

pub returns-in-Ok-clause-gives_up : goal.returns-in-Ok-clause-gives_up
returns-in-Ok-clause-gives_up g c = tt

pub returns-in-Err-clause-unsure : goal.returns-in-Err-clause-unsure
returns-in-Err-clause-unsure g c = c.in-Err.ensures.unsure

pub returns-in-Err-clause-gives_up : goal.returns-in-Err-clause-gives_up
returns-in-Err-clause-gives_up g c = c.in-Err.ensures.gives_up

pub returns-in-Ok-clause-goes : goal.returns-in-Ok-clause-goes
returns-in-Ok-clause-goes g c = c.write_marked.ensures.goes

pub returns-in-Ok-clause-loses : goal.returns-in-Ok-clause-loses
returns-in-Ok-clause-loses g c = c.write_marked.ensures.loses

pub returns-in-Ok-clause-ok : goal.returns-in-Ok-clause-ok
returns-in-Ok-clause-ok g c = c.in-Ok.ensures.ok

pub returns-in-Ok-clause-finds : goal.returns-in-Ok-clause-finds
returns-in-Ok-clause-finds g c = c.write_marked.ensures.finds

pub returns-in-Ok-clause-full : goal.returns-in-Ok-clause-full
returns-in-Ok-clause-full g c = c.write_marked.ensures.full

pub returns-in-Ok-clause-trust : goal.returns-in-Ok-clause-trust
returns-in-Ok-clause-trust g c = c.in-Ok.ensures.trust

pub returns-in-Ok-clause-agreed : goal.returns-in-Ok-clause-agreed
returns-in-Ok-clause-agreed g c = tt

pub returns-in-Ok-clause-cause : goal.returns-in-Ok-clause-cause
returns-in-Ok-clause-cause g c = c.in-Ok.ensures.cause

pub returns-in-Err-clause-goes : goal.returns-in-Err-clause-goes
returns-in-Err-clause-goes g c = c.write_marked.ensures.goes

pub returns-in-Err-clause-loses : goal.returns-in-Err-clause-loses
returns-in-Err-clause-loses g c = c.write_marked.ensures.loses

pub returns-in-Err-clause-ok : goal.returns-in-Err-clause-ok
returns-in-Err-clause-ok g c = tt

pub returns-in-Err-clause-finds : goal.returns-in-Err-clause-finds
returns-in-Err-clause-finds g c = c.write_marked.ensures.finds

pub returns-in-Err-clause-full : goal.returns-in-Err-clause-full
returns-in-Err-clause-full g c = c.write_marked.ensures.full

pub returns-in-Err-clause-trust : goal.returns-in-Err-clause-trust
returns-in-Err-clause-trust g c = tt

pub returns-in-Err-clause-agreed : goal.returns-in-Err-clause-agreed
returns-in-Err-clause-agreed g c = c.in-Err.ensures.agreed

pub returns-in-Err-clause-cause : goal.returns-in-Err-clause-cause
returns-in-Err-clause-cause g c = c.in-Err.ensures.cause

pub returns-in-Err-clause-kept : goal.returns-in-Err-clause-kept
returns-in-Err-clause-kept g c = λ off. tt
