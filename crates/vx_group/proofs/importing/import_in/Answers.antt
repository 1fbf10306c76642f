-- `import_in`: clauses ends and same; what `renew` asks.
use Rattle.std.proofs.Common.{inl, inr, refl, sym, ◌∙◌}
use Rattle.vx_group.proofs.ImportLemmas.{import_early, import_late, import_ok, serial_left, source_active}
use Rattle.vx_group.proofs.MendLemmas.{no_marks, same_Goes}
use Rattle.vx_group.proofs.CallLemmas.{not_down}
use Rattle.vx_disk.specs.Shelf.{Nothing}
use Rattle.vx_group.proofs.UnitLemmas.{acts_units, goes_units, same_units, then_units}
use Rattle.vx_group.proofs.importing.import_in.Goals as goal

pub renew-requires-clause-on : goal.renew-requires-clause-on
renew-requires-clause-on g c = source_active (g.S.Shelf.meaning c.args.shelf.now) (g.S.Shelf.meaning c.take_up.new.shelf) c.in-Ok.plan c.in-Ok.ensures.takes

pub renew-requires-clause-more : goal.renew-requires-clause-more
renew-requires-clause-more g c = serial_left (g.S.Shelf.meaning c.args.shelf.now) (g.S.Shelf.meaning c.take_up.new.shelf) c.in-Ok.plan c.in-Ok.ensures.takes

pub returns-then-is_down-clause-ends : goal.returns-then-is_down-clause-ends
returns-then-is_down-clause-ends g c = inl (same_Goes (g.S.Shelf.meaning c.args.shelf.now), inl (sym c.is_down.ensures ∙ c.if-is_down.true, refl))

pub returns-then-not-are_large-clause-ends : goal.returns-then-not-are_large-clause-ends
returns-then-not-are_large-clause-ends g c = inl (same_Goes (g.S.Shelf.meaning c.args.shelf.now), inr (inl (c.are_large.ensures.small c.if-not-are_large.true, refl)))

pub returns-in-Err-clause-ends : goal.returns-in-Err-clause-ends
returns-in-Err-clause-ends g c = import_early (g.S.Shelf.meaning c.args.shelf.now) (g.S.Shelf.meaning c.take_up.new.shelf) c.in-Err.stop c.take_up.ensures.goes c.in-Err.ensures.takes

pub returns-in-Ok-renew-clause-ends : goal.returns-in-Ok-renew-clause-ends
returns-in-Ok-renew-clause-ends g c =
    import_ok (g.S.Shelf.meaning c.args.shelf.now) (g.S.Shelf.meaning c.take_up.new.shelf) c.in-Ok.plan c.in-Ok.ensures.takes (g.S.Shelf.meaning c.renew.new.shelf) (g.met.S.Shelf.lawful c.args.shelf.now) (g.met.S.Shelf.lawful c.take_up.new.shelf) c.take_up.ensures.goes
    (c.are_large.ensures.large c.if-not-are_large.false) c.requires.can c.renew.new.core (g.met.S.Shelf.lawful c.renew.new.shelf) (λ down. not_down c.is_down.result (g.S.Shelf.meaning c.args.shelf.now).down c.is_down.ensures c.if-is_down.false (sym c.take_up.ensures.down ∙ down)) c.in-Ok-renew.ensures.renews c.in-Ok-renew.ensures.trust

pub returns-in-Err-renew-clause-ends : goal.returns-in-Err-renew-clause-ends
returns-in-Err-renew-clause-ends g c =
    import_late (g.S.Shelf.meaning c.args.shelf.now) (g.S.Shelf.meaning c.take_up.new.shelf) c.in-Ok.plan c.in-Ok.ensures.takes (g.S.Shelf.meaning c.renew.new.shelf) (g.met.S.Shelf.lawful c.args.shelf.now) (g.met.S.Shelf.lawful c.take_up.new.shelf) c.take_up.ensures.goes
    (c.are_large.ensures.large c.if-not-are_large.false) c.requires.can c.renew.new.core c.in-Err-renew.no c.in-Err-renew.ensures.renews c.in-Err-renew.ensures.agreed

pub renew-requires-clause-tell : goal.renew-requires-clause-tell
renew-requires-clause-tell g c = no_marks c.in-Ok.plan.core.config c.in-Ok.plan.stopped (g.S.Shelf.meaning c.take_up.new.shelf)

pub returns-then-is_down-clause-same : goal.returns-then-is_down-clause-same
returns-then-is_down-clause-same g c = same_units (g.S.Shelf.meaning c.args.shelf.now)

pub returns-then-not-are_large-clause-same : goal.returns-then-not-are_large-clause-same
returns-then-not-are_large-clause-same g c = same_units (g.S.Shelf.meaning c.args.shelf.now)

pub returns-in-Err-clause-same : goal.returns-in-Err-clause-same
returns-in-Err-clause-same g c = goes_units Nothing (g.S.Shelf.meaning c.args.shelf.now) (g.S.Shelf.meaning c.take_up.new.shelf) c.take_up.ensures.goes

pub returns-in-Ok-renew-clause-same : goal.returns-in-Ok-renew-clause-same
returns-in-Ok-renew-clause-same g c = then_units (g.S.Shelf.meaning c.args.shelf.now) (g.S.Shelf.meaning c.take_up.new.shelf) (g.S.Shelf.meaning c.renew.new.shelf) (goes_units Nothing (g.S.Shelf.meaning c.args.shelf.now) (g.S.Shelf.meaning c.take_up.new.shelf) c.take_up.ensures.goes) (acts_units _ _ (g.S.Shelf.meaning c.take_up.new.shelf) (g.S.Shelf.meaning c.renew.new.shelf) c.renew.ensures.only)

pub returns-in-Err-renew-clause-same : goal.returns-in-Err-renew-clause-same
returns-in-Err-renew-clause-same g c = then_units (g.S.Shelf.meaning c.args.shelf.now) (g.S.Shelf.meaning c.take_up.new.shelf) (g.S.Shelf.meaning c.renew.new.shelf) (goes_units Nothing (g.S.Shelf.meaning c.args.shelf.now) (g.S.Shelf.meaning c.take_up.new.shelf) c.take_up.ensures.goes) (acts_units _ _ (g.S.Shelf.meaning c.take_up.new.shelf) (g.S.Shelf.meaning c.renew.new.shelf) c.renew.ensures.only)
