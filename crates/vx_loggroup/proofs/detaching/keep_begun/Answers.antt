-- `keep_begun`: its clauses; what `keep_map` asks.
use Rattle.std.proofs.Common.{Bool, false, refl, subst, sym, arith}
use Rattle.vx_disk.specs.Causes.{DeviceCause}
use Rattle.vx_model.specs.declared.no.No.{No}
use Rattle.vx_group.specs.Holding.{wide}
use Rattle.vx_group.specs.Stands.{inner_meaning}
use Rattle.vx_group.proofs.HoldLemmas.{wide_shape}
use Rattle.vx_loggroup.proofs.AlikeLemmas.{all_whole}
use Rattle.vx_loggroup.proofs.DetachedLogs.{det_cause}
use Rattle.vx_loggroup.proofs.KeepingLemmas.{here_trusts}
use Rattle.vx_loggroup.proofs.SetLemmas.{item_of}
use Rattle.vx_logged.proofs.RefuseLemmas.{map_said}
use Rattle.vx_loggroup.proofs.SureLemmas.{said_at}
use Rattle.vx_loggroup.proofs.detaching.keep_begun.Goals as goal

pub keep_map-requires-clause-stands : goal.keep_map-requires-clause-stands
keep_map-requires-clause-stands g c = c.requires.stands.group

pub keep_map-requires-clause-there : goal.keep_map-requires-clause-there
keep_map-requires-clause-there g c = let there = c.requires.there in let same = (wide_shape c.args.core.now).volumes in omega (arith, there, same)

pub returns-in-Ok-clause-stands : goal.returns-in-Ok-clause-stands
returns-in-Ok-clause-stands g c = all_whole c.args.core.now c.keep_map.new.core c.args.logs.now.items c.args.alike.now false (g.S.Shelf.meaning c.args.shelf.now) (g.S.Shelf.meaning c.keep_map.new.shelf) c.requires.stands c.keep_map.ensures.stands c.keep_map.ensures.goes c.keep_map.ensures.logs

pub returns-in-Err-clause-stands : goal.returns-in-Err-clause-stands
returns-in-Err-clause-stands g c = all_whole c.args.core.now c.keep_map.new.core c.args.logs.now.items c.args.alike.now false (g.S.Shelf.meaning c.args.shelf.now) (g.S.Shelf.meaning c.keep_map.new.shelf) c.requires.stands c.keep_map.ensures.stands c.keep_map.ensures.goes c.keep_map.ensures.logs

pub returns-in-Ok-clause-still : goal.returns-in-Ok-clause-still
returns-in-Ok-clause-still g c = c.keep_map.ensures.still c.requires.none

pub returns-in-Err-clause-still : goal.returns-in-Err-clause-still
returns-in-Err-clause-still g c = c.keep_map.ensures.still c.requires.none

pub returns-in-Err-clause-cause : goal.returns-in-Err-clause-cause
returns-in-Err-clause-cause g c = subst (λ (why : No). DeviceCause (g.S.Shelf.meaning c.args.shelf.now) (g.S.Shelf.meaning c.keep_map.new.shelf) why) (sym c.refusal.ensures)
    (det_cause Bool (Unit {0}) (g.S.Shelf.meaning c.args.shelf.now) (g.S.Shelf.meaning c.args.shelf.now) (g.S.Shelf.meaning c.keep_map.new.shelf) c.args.vol (inner_meaning (wide c.args.core.now) (g.S.Shelf.meaning c.args.shelf.now)) (inner_meaning (wide c.keep_map.new.core) (g.S.Shelf.meaning c.keep_map.new.shelf)) refl refl refl (λ u. omega arith) c.in-Err.error c.in-Err.ensures.cause)

pub returns-in-Ok-clause-loses : goal.returns-in-Ok-clause-loses
returns-in-Ok-clause-loses g c = c.keep_map.ensures.loses.loses

pub returns-in-Err-clause-loses : goal.returns-in-Err-clause-loses
returns-in-Err-clause-loses g c = c.keep_map.ensures.loses.loses

pub returns-in-Ok-clause-rises : goal.returns-in-Ok-clause-rises
returns-in-Ok-clause-rises g c = c.keep_map.ensures.loses.rises

pub returns-in-Err-clause-rises : goal.returns-in-Err-clause-rises
returns-in-Err-clause-rises g c = c.keep_map.ensures.loses.rises

pub returns-in-Ok-clause-finds : goal.returns-in-Ok-clause-finds
returns-in-Ok-clause-finds g c =
    c.keep_map.ensures.finds

pub returns-in-Err-clause-finds : goal.returns-in-Err-clause-finds
returns-in-Err-clause-finds g c =
    c.keep_map.ensures.finds

pub returns-in-Ok-clause-trusts : goal.returns-in-Ok-clause-trusts
returns-in-Ok-clause-trusts g c = here_trusts c.args.vol c.args.logs.now.items c.index.result.now (item_of c.args.logs.now.items c.args.vol c.index.result.now c.index.ensures (let many = c.requires.stands.many in let there = c.requires.there in omega (arith, many, there))) c.args.core.now.inner.config c.keep_map.new.core.inner.config c.keep_map.ensures.trusts

pub returns-in-Err-clause-trusts : goal.returns-in-Err-clause-trusts
returns-in-Err-clause-trusts g c = here_trusts c.args.vol c.args.logs.now.items c.index.result.now (item_of c.args.logs.now.items c.args.vol c.index.result.now c.index.ensures (let many = c.requires.stands.many in let there = c.requires.there in omega (arith, many, there))) c.args.core.now.inner.config c.keep_map.new.core.inner.config c.keep_map.ensures.trusts

pub returns-in-Ok-clause-narrow : goal.returns-in-Ok-clause-narrow
returns-in-Ok-clause-narrow g c = c.keep_map.ensures.narrow

pub returns-in-Err-clause-narrow : goal.returns-in-Err-clause-narrow
returns-in-Err-clause-narrow g c = c.keep_map.ensures.narrow

pub returns-in-Ok-clause-said : goal.returns-in-Ok-clause-said
returns-in-Ok-clause-said g c = said_at c.keep_map.new.core c.args.vol c.args.logs.now.items c.index.result.now (item_of c.args.logs.now.items c.args.vol c.index.result.now c.index.ensures (let many = c.requires.stands.many in let there = c.requires.there in omega (arith, many, there))) (map_said c.keep_map.new.core c.args.vol c.index.result.now c.in-Ok.field-0 c.in-Ok.ensures.kept c.in-Ok.ensures.spent)

pub returns-in-Ok-clause-few : goal.returns-in-Ok-clause-few
returns-in-Ok-clause-few g c = c.in-Ok.ensures.few

pub returns-in-Ok-clause-goes : goal.returns-in-Ok-clause-goes
returns-in-Ok-clause-goes g c = c.keep_map.ensures.goes

pub returns-in-Ok-clause-below : goal.returns-in-Ok-clause-below
returns-in-Ok-clause-below g c = c.keep_map.ensures.below

pub returns-in-Ok-clause-trust : goal.returns-in-Ok-clause-trust
returns-in-Ok-clause-trust g c = c.in-Ok.ensures.trust

pub returns-in-Ok-clause-agreed : goal.returns-in-Ok-clause-agreed
returns-in-Ok-clause-agreed g c = tt

pub returns-in-Err-clause-goes : goal.returns-in-Err-clause-goes
returns-in-Err-clause-goes g c = c.keep_map.ensures.goes

pub returns-in-Err-clause-below : goal.returns-in-Err-clause-below
returns-in-Err-clause-below g c = c.keep_map.ensures.below

pub returns-in-Err-clause-few : goal.returns-in-Err-clause-few
returns-in-Err-clause-few g c = tt

pub returns-in-Err-clause-said : goal.returns-in-Err-clause-said
returns-in-Err-clause-said g c = tt

pub returns-in-Err-clause-trust : goal.returns-in-Err-clause-trust
returns-in-Err-clause-trust g c = tt

pub returns-in-Err-clause-agreed : goal.returns-in-Err-clause-agreed
returns-in-Err-clause-agreed g c = c.in-Err.ensures.agreed
