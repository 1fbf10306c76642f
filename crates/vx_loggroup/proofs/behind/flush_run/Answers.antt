-- `flush_run`: clauses stands and marks; what the calls ask.
use Rattle.std.proofs.Common.{◌∙◌, ap, refl, sym, arith}
use Rattle.std.proofs.lemmas.Bool.{false_from_ne_true, not-true}
use Rattle.std.specs.Prelude.{not}
use Rattle.std.proofs.Math.ListN.{set}
use Rattle.vx_disk.specs.Shelf.{Nothing}
use Rattle.vx_group.specs.Attaches.{region_count}
use Rattle.vx_group.specs.Holding.{wide}
use Rattle.vx_group.specs.Stands.{inner_meaning}
use Rattle.vx_group.proofs.CallLemmas.{not_down}
use Rattle.vx_group.proofs.TrustLemmas.{ok_from}
use Rattle.vx_loggroup.specs.LoggedVolumes.{is_alike}
use Rattle.vx_loggroup.proofs.AlikeLemmas.{done_up, here_stands, hold_set, index_low, left_up, marks_set, notes_set, runs_set, set_stands}
use Rattle.vx_loggroup.proofs.FreshLemmas.{lists_none}
use Rattle.vx_loggroup.proofs.NewLemmas.{list_same}
use Rattle.vx_loggroup.proofs.SetLemmas.{item_of, set_other}
use Rattle.vx_loggroup.proofs.WroteMoves.{gone_set, run_follows, trusts_set}
use Rattle.vx_loggroup.specs.Attaching.{fmr_or}
use Rattle.vx_logged.specs.Begun.{fell_in}
use Rattle.vx_logged.specs.Logged.{are_off}
use Rattle.vx_logs.specs.Writes.{first_region, last_region}
use Rattle.vx_loggroup.proofs.KeepingCalls.{marked_keeps}
use Rattle.vx_group.proofs.HoldLemmas.{wide_shape}
use Rattle.vx_loggroup.proofs.KeepingLemmas.{kept_set}
use Rattle.vx_loggroup.proofs.SureLemmas.{ok_under, set_sure}
use Rattle.vx_loggroup.proofs.behind.flush_run.Goals as goal

pub index_mut-requires : goal.index_mut-requires
index_mut-requires g c = let lt = (index_low c.args.core.now c.args.logs.now.items c.args.alike.now c.args.stopped (g.S.Shelf.meaning c.args.shelf.now) c.args.vol c.requires.stands c.requires.there) in omega (arith, c.args.logs.now.ok, lt)

pub flush_noted-requires-clause-log : goal.flush_noted-requires-clause-log
flush_noted-requires-clause-log g c = λ is. (c.requires.stands.each c.args.vol c.index_mut.result.now (item_of c.args.logs.now.items c.args.vol c.index_mut.result.now c.index_mut.ensures.value (index_low c.args.core.now c.args.logs.now.items c.args.alike.now c.args.stopped (g.S.Shelf.meaning c.args.shelf.now) c.args.vol c.requires.stands c.requires.there))).on (not-true c.args.stopped is)

pub flush_noted-requires-clause-sure : goal.flush_noted-requires-clause-sure
flush_noted-requires-clause-sure g c = λ is. ap not (c.is_sure-sure.ensures.going is)

pub flush_noted-requires-clause-one : goal.flush_noted-requires-clause-one
flush_noted-requires-clause-one g c = λ is. (c.requires.stands.each c.args.vol c.index_mut.result.now (item_of c.args.logs.now.items c.args.vol c.index_mut.result.now c.index_mut.ensures.value (index_low c.args.core.now c.args.logs.now.items c.args.alike.now c.args.stopped (g.S.Shelf.meaning c.args.shelf.now) c.args.vol c.requires.stands c.requires.there))).alike (sym c.is_alike.ensures ∙ c.is_sure-sure.ensures.alike is)
    (not_down c.is_down-down.result (g.S.Shelf.meaning c.args.shelf.now).down c.is_down-down.ensures (c.is_sure-sure.ensures.up is))

pub returns-clause-stands : goal.returns-clause-stands
returns-clause-stands g c =
    set_stands Nothing c.args.core.now c.flush_noted.new.core c.args.logs.now.items c.args.alike.now c.args.alike.now c.args.stopped c.args.stopped c.args.vol c.flush_noted.new.logs (g.S.Shelf.meaning c.args.shelf.now) (g.S.Shelf.meaning c.flush_noted.new.shelf) c.requires.stands c.flush_noted.ensures.stands c.flush_noted.ensures.goes
    (λ w b x apart none. none) (λ off. off) c.flush_noted.ensures.others (λ w apart. refl)
    (here_stands c.args.core.now c.flush_noted.new.core c.args.vol c.index_mut.result.now c.flush_noted.new.logs (is_alike c.args.alike.now c.args.vol) c.args.stopped (g.S.Shelf.meaning c.args.shelf.now) (g.S.Shelf.meaning c.flush_noted.new.shelf)
    (c.requires.stands.each c.args.vol c.index_mut.result.now (item_of c.args.logs.now.items c.args.vol c.index_mut.result.now c.index_mut.ensures.value (index_low c.args.core.now c.args.logs.now.items c.args.alike.now c.args.stopped (g.S.Shelf.meaning c.args.shelf.now) c.args.vol c.requires.stands c.requires.there))) c.flush_noted.ensures.goes c.flush_noted.ensures.log c.flush_noted.ensures.maps)

pub returns-clause-marks : goal.returns-clause-marks
returns-clause-marks g c = marks_set (wide c.args.core.now).config c.args.vol (first_region c.args.block) (last_region c.args.block c.args.count) c.args.logs.now.items c.index_mut.result.now c.flush_noted.new.logs (item_of c.args.logs.now.items c.args.vol c.index_mut.result.now c.index_mut.ensures.value (index_low c.args.core.now c.args.logs.now.items c.args.alike.now c.args.stopped (g.S.Shelf.meaning c.args.shelf.now) c.args.vol c.requires.stands c.requires.there)) c.flush_noted.ensures.adds

pub returns-clause-maps : goal.returns-clause-maps
returns-clause-maps g c = notes_set (fell_in c.args.core.now c.flush_noted.new.core c.args.vol) (are_off c.flush_noted.new.core c.args.vol) c.args.vol (first_region c.args.block) (last_region c.args.block c.args.count) c.args.logs.now.items c.index_mut.result.now c.flush_noted.new.logs (item_of c.args.logs.now.items c.args.vol c.index_mut.result.now c.index_mut.ensures.value (index_low c.args.core.now c.args.logs.now.items c.args.alike.now c.args.stopped (g.S.Shelf.meaning c.args.shelf.now) c.args.vol c.requires.stands c.requires.there)) c.flush_noted.ensures.notes

pub returns-clause-keeps : goal.returns-clause-keeps
returns-clause-keeps g c = marked_keeps c.args.core.now c.flush_noted.new.core c.args.vol c.args.logs.now.items c.index_mut.result.now c.flush_noted.new.logs (g.S.Shelf.meaning c.args.shelf.now) (g.S.Shelf.meaning c.flush_noted.new.shelf) (item_of c.args.logs.now.items c.args.vol c.index_mut.result.now c.index_mut.ensures.value (index_low c.args.core.now c.args.logs.now.items c.args.alike.now c.args.stopped (g.S.Shelf.meaning c.args.shelf.now) c.args.vol c.requires.stands c.requires.there)) c.flush_noted.ensures.loses.loses c.flush_noted.ensures.trusts c.flush_noted.ensures.drops

pub returns-clause-begins : goal.returns-clause-begins
returns-clause-begins g c = λ alike going.
    done_up c.flush_noted.result (inner_meaning (wide c.args.core.now) (g.S.Shelf.meaning c.args.shelf.now)) (inner_meaning (wide c.flush_noted.new.core) (g.S.Shelf.meaning c.flush_noted.new.shelf)) c.args.vol c.flush_noted.ensures.cause
    (λ up. c.flush_noted.ensures.begins (c.is_sure-sure.ensures.all (c.is_alike.ensures ∙ alike) going (c.is_down-down.ensures ∙ false_from_ne_true (g.S.Shelf.meaning c.args.shelf.now).down up)))
    (λ run. runs_set (fell_in c.args.core.now c.flush_noted.new.core c.args.vol) c.args.vol (first_region c.args.block) (last_region c.args.block c.args.count) c.args.logs.now.items c.flush_noted.new.logs run)

pub returns-clause-holds : goal.returns-clause-holds
returns-clause-holds g c = λ going some. ok_from c.flush_noted.result (λ these. hold_set (fell_in c.args.core.now c.flush_noted.new.core c.args.vol) c.args.vol (first_region c.args.block) (last_region c.args.block c.args.count) c.args.logs.now.items c.flush_noted.new.logs these) (c.flush_noted.ensures.holds (ap not going) some)

pub returns-clause-gone : goal.returns-clause-gone
returns-clause-gone g c = gone_set c.args.vol c.args.logs.now.items c.index_mut.result.now c.flush_noted.new.logs (item_of c.args.logs.now.items c.args.vol c.index_mut.result.now c.index_mut.ensures.value (index_low c.args.core.now c.args.logs.now.items c.args.alike.now c.args.stopped (g.S.Shelf.meaning c.args.shelf.now) c.args.vol c.requires.stands c.requires.there)) c.flush_noted.ensures.notes.gone

pub returns-clause-trusts : goal.returns-clause-trusts
returns-clause-trusts g c = trusts_set c.args.vol c.args.logs.now.items c.flush_noted.new.logs c.args.core.now.inner.config c.flush_noted.new.core.inner.config c.flush_noted.ensures.trusts

pub returns-clause-moves : goal.returns-clause-moves
returns-clause-moves g c = λ going some.
    run_follows c.args.core.now c.args.core.now c.flush_noted.new.core c.args.vol (region_count (wide c.args.core.now).config c.args.vol) c.args.logs.now.items c.args.logs.now.items (set c.args.logs.now.items c.args.vol c.flush_noted.new.logs) (λ w p. refl) refl refl
    (lists_none c.args.vol (region_count (wide c.args.core.now).config c.args.vol) c.args.logs.now.items) (list_same c.args.core.now.inner.config c.args.vol c.args.logs.now.items) (λ k at f is. ((c.requires.stands.each c.args.vol k at).on going).fits.fmr f is)
    (first_region c.args.block) (last_region c.args.block c.args.count) (is_alike c.args.alike.now c.args.vol) c.flush_noted.result (g.S.Shelf.meaning c.flush_noted.new.shelf) c.flush_noted.ensures.stands (c.flush_noted.ensures.loses.loses.frames c.args.vol) (c.flush_noted.ensures.goes.size c.args.vol)
    (λ w apart. ap fmr_or (set_other c.args.logs.now.items c.args.vol c.flush_noted.new.logs w apart)) (returns-clause-gone g c) (λ alike. returns-clause-begins g c alike going) (returns-clause-maps g c) (returns-clause-holds g c going some)

pub returns-clause-rests : goal.returns-clause-rests
returns-clause-rests g c = c.flush_noted.ensures.rests

pub returns-clause-left : goal.returns-clause-left
returns-clause-left g c = λ alike going.
    left_up c.flush_noted.result (g.S.Shelf.meaning c.args.shelf.now) (g.S.Shelf.meaning c.flush_noted.new.shelf) c.flush_noted.ensures.goes.falls
    (λ up. c.flush_noted.ensures.left (c.is_sure-sure.ensures.all (c.is_alike.ensures ∙ alike) going (c.is_down-down.ensures ∙ false_from_ne_true (g.S.Shelf.meaning c.args.shelf.now).down up)))
    (λ none. runs_set (fell_in c.args.core.now c.flush_noted.new.core c.args.vol) c.args.vol (first_region c.args.block) (last_region c.args.block c.args.count) c.args.logs.now.items c.flush_noted.new.logs none)

pub returns-clause-kept : goal.returns-clause-kept
returns-clause-kept g c = ok_from c.flush_noted.result (set_sure c.args.core.now c.flush_noted.new.core c.args.vol c.args.logs.now.items c.index_mut.result.now c.flush_noted.new.logs (item_of c.args.logs.now.items c.args.vol c.index_mut.result.now c.index_mut.ensures.value (index_low c.args.core.now c.args.logs.now.items c.args.alike.now c.args.stopped (g.S.Shelf.meaning c.args.shelf.now) c.args.vol c.requires.stands c.requires.there)) c.flush_noted.ensures.narrow) (ok_under _ c.flush_noted.result c.flush_noted.ensures.kept)

pub returns-clause-said : goal.returns-clause-said
returns-clause-said g c = λ alike going some.
    done_up c.flush_noted.result (inner_meaning (wide c.args.core.now) (g.S.Shelf.meaning c.args.shelf.now)) (inner_meaning (wide c.flush_noted.new.core) (g.S.Shelf.meaning c.flush_noted.new.shelf)) c.args.vol c.flush_noted.ensures.cause
    (λ up. c.flush_noted.ensures.said (c.is_sure-sure.ensures.all (c.is_alike.ensures ∙ alike) going (c.is_down-down.ensures ∙ false_from_ne_true (g.S.Shelf.meaning c.args.shelf.now).down up)) (let same = (wide_shape c.args.core.now).blocks c.args.vol in omega (arith, some, same)))
    (λ kept. kept_set c.flush_noted.new.core c.args.logs.now.items c.args.vol c.flush_noted.new.logs kept)

pub returns-clause-unsure : goal.returns-clause-unsure
returns-clause-unsure g c = c.flush_noted.ensures.marks

pub returns-clause-gives_up : goal.returns-clause-gives_up
returns-clause-gives_up g c = c.flush_noted.ensures.gives_up

pub returns-clause-goes : goal.returns-clause-goes
returns-clause-goes g c = c.flush_noted.ensures.goes

pub returns-clause-loses : goal.returns-clause-loses
returns-clause-loses g c = c.flush_noted.ensures.loses

pub returns-clause-ok : goal.returns-clause-ok
returns-clause-ok g c = c.flush_noted.ensures.ok

pub returns-clause-finds : goal.returns-clause-finds
returns-clause-finds g c = c.flush_noted.ensures.finds

pub returns-clause-trust : goal.returns-clause-trust
returns-clause-trust g c = c.flush_noted.ensures.trust

pub returns-clause-agreed : goal.returns-clause-agreed
returns-clause-agreed g c = c.flush_noted.ensures.agreed

pub returns-clause-cause : goal.returns-clause-cause
returns-clause-cause g c = c.flush_noted.ensures.cause
