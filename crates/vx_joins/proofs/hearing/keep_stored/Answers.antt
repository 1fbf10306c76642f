-- The header with more stored, where there is more.
use Rattle.std.proofs.Common.{◌∙◌, ap, sym, subst, refl, arith}
use Rattle.vx_model.specs.declared.state.State.{State}
use Rattle.vx_diskset.specs.Keeps.{CanKeep}
use Rattle.vx_joins.specs.Hearings.{links_stored}
use Rattle.vx_events.specs.declared.said.Said.TheVariants.{Done, Refused}
use Rattle.vx_joins.proofs.StoresCalls.{stores_more, stores_none}
use Rattle.vx_joins.proofs.StoresLink.{called_none, can_store, stored_more, stored_not, stored_same}
use Rattle.vx_joins.proofs.hearing.keep_stored.Goals as goal

pub returns-then-stored-old-clause-kept : goal.returns-then-stored-old-clause-kept
returns-then-stored-old-clause-kept g c = λ beside n stands raw up running apart state less. stored_same beside n c.args.to c.args.old c.args.stored c.args.disks.now c.args.disks.now (omega (arith, c.if-stored-old.true)) stands

pub returns-in-Ok-clause-kept : goal.returns-in-Ok-clause-kept
returns-in-Ok-clause-kept g c = λ beside n stands raw up running apart state less.
    let is = c.state_stored-kept.ensures.is ∙ ap (λ (s : State). record s { links = links_stored c.args.to c.args.stored s.links }) state in
    stored_more beside n c.args.to c.args.old c.args.stored c.state_stored-kept.result c.args.disks.now c.keep.new.self (omega (arith, c.if-stored-old.false)) is
    (c.in-Ok.ensures.kept beside n stands raw (subst (λ (s : State). CanKeep beside n s) (sym is) (can_store beside n c.args.to c.args.stored up running apart less)))

pub returns-in-Err-clause-kept : goal.returns-in-Err-clause-kept
returns-in-Err-clause-kept g c = λ beside n stands raw up running apart state less.
    let is = c.state_stored-kept.ensures.is ∙ ap (λ (s : State). record s { links = links_stored c.args.to c.args.stored s.links }) state in
    stored_not beside n c.args.to c.args.old c.args.stored c.state_stored-kept.result c.args.disks.now c.keep.new.self c.in-Err.no is
    (c.in-Err.ensures.kept beside n stands raw (subst (λ (s : State). CanKeep beside n s) (sym is) (can_store beside n c.args.to c.args.stored up running apart less)))

pub returns-then-stored-old-clause-called : goal.returns-then-stored-old-clause-called
returns-then-stored-old-clause-called g c = λ beside n stands. called_none c.args.disks.now

pub returns-then-stored-gt-MOST_NUMBER-clause-called : goal.returns-then-stored-gt-MOST_NUMBER-clause-called
returns-then-stored-gt-MOST_NUMBER-clause-called g c = λ beside n stands. called_none c.args.disks.now

pub returns-in-Ok-clause-called : goal.returns-in-Ok-clause-called
returns-in-Ok-clause-called g c = λ beside n stands. c.in-Ok.ensures.called beside n stands

pub returns-in-Err-clause-called : goal.returns-in-Err-clause-called
returns-in-Err-clause-called g c = λ beside n stands. c.in-Err.ensures.called beside n stands

pub returns-then-stored-old-clause-headed : goal.returns-then-stored-old-clause-headed
returns-then-stored-old-clause-headed g c = λ beside n stands some. stores_none c.args.old c.args.stored c.args.disks.now (omega (arith, c.if-stored-old.true))

pub returns-then-stored-gt-MOST_NUMBER-clause-headed : goal.returns-then-stored-gt-MOST_NUMBER-clause-headed
returns-then-stored-gt-MOST_NUMBER-clause-headed g c = λ beside n stands some. absurd (some refl)

pub returns-in-Ok-clause-headed : goal.returns-in-Ok-clause-headed
returns-in-Ok-clause-headed g c = λ beside n stands some. stores_more c.args.old c.args.stored Done c.args.disks.now c.keep.new.self (omega (arith, c.if-stored-old.false)) (c.in-Ok.ensures.headed beside n stands)

pub returns-in-Err-clause-headed : goal.returns-in-Err-clause-headed
returns-in-Err-clause-headed g c = λ beside n stands some.
    stores_more c.args.old c.args.stored (Refused c.in-Err.no) c.args.disks.now c.keep.new.self (omega (arith, c.if-stored-old.false)) (c.in-Err.ensures.headed beside n stands)
