-- `import_marked`: its clauses; what `read_logs` and `renew` ask.
use Rattle.std.proofs.Common.{inl, inr, List, refl, subst, sym, ◌∙◌}
use Rattle.vx_kept.specs.Keeping.{Acts}
use Rattle.vx_logs.specs.declared.logs.Logs.{Logs}
use Rattle.vx_group.specs.Attaches.{AnyImage}
use Rattle.vx_group.specs.Mends.{MarksTell, OnMarked}
use Rattle.vx_group.proofs.CallLemmas.{not_down}
use Rattle.vx_group.proofs.ImportLemmas.{import_early, import_late, serial_left, source_active}
use Rattle.vx_group.proofs.MendLemmas.{same_Goes}
use Rattle.vx_group.proofs.Standing.{fit_of, sound_of}
use Rattle.vx_disk.specs.Shelf.{Nothing}
use Rattle.vx_group.proofs.UnitLemmas.{acts_units, goes_units, same_units, then_units}
use Rattle.vx_logimport.proofs.ImportedLemmas.{reads_old, resumed_by, taken_read, told_by, unread, whole_goes}
use Rattle.vx_logimport.proofs.importing.import_marked.Goals as goal

pub returns-then-is_down-clause-ends : goal.returns-then-is_down-clause-ends
returns-then-is_down-clause-ends g c = inl (same_Goes (g.S.Shelf.meaning c.args.shelf.now), inl (sym c.is_down.ensures ∙ c.if-is_down.true, refl))

pub returns-then-not-are_large-clause-ends : goal.returns-then-not-are_large-clause-ends
returns-then-not-are_large-clause-ends g c = inl (same_Goes (g.S.Shelf.meaning c.args.shelf.now), inr (inl (c.are_large.ensures.small c.if-not-are_large.true, refl)))

pub returns-in-Err-clause-ends : goal.returns-in-Err-clause-ends
returns-in-Err-clause-ends g c = import_early (g.S.Shelf.meaning c.args.shelf.now) (g.S.Shelf.meaning c.take_up.new.shelf) c.in-Err.stop c.take_up.ensures.goes c.in-Err.ensures.takes

pub read_logs-requires-clause-few : goal.read_logs-requires-clause-few
read_logs-requires-clause-few g c = c.in-Ok.ensures.takes.stands.few

pub read_logs-requires-clause-checked : goal.read_logs-requires-clause-checked
read_logs-requires-clause-checked g c = sound_of c.in-Ok.plan.core (g.S.Shelf.meaning c.take_up.new.shelf) c.in-Ok.ensures.takes.stands

pub read_logs-requires-clause-disks : goal.read_logs-requires-clause-disks
read_logs-requires-clause-disks g c = fit_of c.in-Ok.plan.core (g.S.Shelf.meaning c.take_up.new.shelf) c.in-Ok.ensures.takes.stands

pub renew-requires-clause-stands : goal.renew-requires-clause-stands
renew-requires-clause-stands g c = (taken_read (g.S.Shelf.meaning c.args.shelf.now) (g.S.Shelf.meaning c.take_up.new.shelf) (g.S.Shelf.meaning c.read_logs.new.shelf) c.in-Ok.plan c.in-Ok.ensures.takes (g.met.S.Shelf.lawful c.args.shelf.now) (g.met.S.Shelf.lawful c.take_up.new.shelf) (g.met.S.Shelf.lawful c.read_logs.new.shelf) c.take_up.ensures.goes c.read_logs.ensures.goes).stands

pub renew-requires-clause-on : goal.renew-requires-clause-on
renew-requires-clause-on g c = source_active (g.S.Shelf.meaning c.args.shelf.now) (g.S.Shelf.meaning c.take_up.new.shelf) c.in-Ok.plan c.in-Ok.ensures.takes

pub renew-requires-clause-more : goal.renew-requires-clause-more
renew-requires-clause-more g c = serial_left (g.S.Shelf.meaning c.args.shelf.now) (g.S.Shelf.meaning c.take_up.new.shelf) c.in-Ok.plan c.in-Ok.ensures.takes

pub renew-requires-clause-tell : goal.renew-requires-clause-tell
renew-requires-clause-tell g c =
    subst (λ (ls : List Logs). MarksTell c.in-Ok.plan.core.config c.in-Ok.plan.stopped ls (g.S.Shelf.meaning c.read_logs.new.shelf)) (sym c.as_slice.ensures.value)
    (told_by (g.S.Shelf.meaning c.args.shelf.now) (g.S.Shelf.meaning c.take_up.new.shelf) (g.S.Shelf.meaning c.read_logs.new.shelf) c.in-Ok.plan c.in-Ok.ensures.takes (g.met.S.Shelf.lawful c.args.shelf.now) (g.met.S.Shelf.lawful c.take_up.new.shelf) (g.met.S.Shelf.lawful c.read_logs.new.shelf) c.take_up.ensures.goes c.read_logs.ensures.goes c.args.told.now c.in-Ok-read_logs.logs.items (λ down. not_down c.is_down.result (g.S.Shelf.meaning c.args.shelf.now).down c.is_down.ensures c.if-is_down.false (sym c.take_up.ensures.down ∙ down)) c.in-Ok-read_logs.ensures.read c.requires.can c.requires.covers c.requires.tells)

pub returns-in-Err-read_logs-clause-ends : goal.returns-in-Err-read_logs-clause-ends
returns-in-Err-read_logs-clause-ends g c = unread (g.S.Shelf.meaning c.args.shelf.now) (g.S.Shelf.meaning c.take_up.new.shelf) c.in-Ok.plan c.in-Ok.ensures.takes (g.met.S.Shelf.lawful c.args.shelf.now) (g.met.S.Shelf.lawful c.take_up.new.shelf) c.take_up.ensures.goes (c.are_large.ensures.large c.if-not-are_large.false) c.requires.can (g.S.Shelf.meaning c.read_logs.new.shelf) (g.met.S.Shelf.lawful c.read_logs.new.shelf) c.read_logs.ensures.goes c.in-Err-read_logs.stop c.in-Err-read_logs.ensures.cause

pub returns-in-Ok-renew-clause-ends : goal.returns-in-Ok-renew-clause-ends
returns-in-Ok-renew-clause-ends g c =
    resumed_by (g.S.Shelf.meaning c.args.shelf.now) (g.S.Shelf.meaning c.read_logs.new.shelf) c.in-Ok.plan (taken_read (g.S.Shelf.meaning c.args.shelf.now) (g.S.Shelf.meaning c.take_up.new.shelf) (g.S.Shelf.meaning c.read_logs.new.shelf) c.in-Ok.plan c.in-Ok.ensures.takes (g.met.S.Shelf.lawful c.args.shelf.now) (g.met.S.Shelf.lawful c.take_up.new.shelf) (g.met.S.Shelf.lawful c.read_logs.new.shelf) c.take_up.ensures.goes c.read_logs.ensures.goes) (g.met.S.Shelf.lawful c.args.shelf.now) (g.met.S.Shelf.lawful c.read_logs.new.shelf) (whole_goes (g.S.Shelf.meaning c.args.shelf.now) (g.S.Shelf.meaning c.take_up.new.shelf) (g.S.Shelf.meaning c.read_logs.new.shelf) c.in-Ok.plan c.in-Ok.ensures.takes (g.met.S.Shelf.lawful c.args.shelf.now) (g.met.S.Shelf.lawful c.take_up.new.shelf) (g.met.S.Shelf.lawful c.read_logs.new.shelf) c.take_up.ensures.goes c.read_logs.ensures.goes) (c.are_large.ensures.large c.if-not-are_large.false) c.requires.can (g.S.Shelf.meaning c.renew.new.shelf) c.renew.new.core c.in-Ok-read_logs.logs (g.S.Shelf.meaning c.read_logs.new.shelf) c.args.told.now
    (reads_old (g.S.Shelf.meaning c.args.shelf.now) (g.S.Shelf.meaning c.take_up.new.shelf) (g.S.Shelf.meaning c.read_logs.new.shelf) c.in-Ok.plan c.in-Ok.ensures.takes (g.met.S.Shelf.lawful c.args.shelf.now) (g.met.S.Shelf.lawful c.take_up.new.shelf) (g.met.S.Shelf.lawful c.read_logs.new.shelf) c.take_up.ensures.goes c.read_logs.ensures.goes c.args.told.now c.in-Ok-read_logs.logs.items (λ down. not_down c.is_down.result (g.S.Shelf.meaning c.args.shelf.now).down c.is_down.ensures c.if-is_down.false (sym c.take_up.ensures.down ∙ down)) c.in-Ok-read_logs.ensures.read) (λ d. c.in-Ok-renew.ensures.renews.made.on.disk_faults d) c.in-Ok-read_logs.ensures.logs c.requires.covers c.requires.tells (g.met.S.Shelf.lawful c.renew.new.shelf) c.in-Ok-read_logs.ensures.up c.in-Ok-renew.ensures.renews c.in-Ok-renew.ensures.trust
    (subst (λ (ls : List Logs). Acts (OnMarked c.in-Ok.plan.core.config c.in-Ok.plan.stopped ls) AnyImage (g.S.Shelf.meaning c.read_logs.new.shelf) (g.S.Shelf.meaning c.renew.new.shelf)) c.as_slice.ensures.value c.renew.ensures.only)

pub returns-in-Err-renew-clause-ends : goal.returns-in-Err-renew-clause-ends
returns-in-Err-renew-clause-ends g c =
    import_late (g.S.Shelf.meaning c.args.shelf.now) (g.S.Shelf.meaning c.read_logs.new.shelf) c.in-Ok.plan (taken_read (g.S.Shelf.meaning c.args.shelf.now) (g.S.Shelf.meaning c.take_up.new.shelf) (g.S.Shelf.meaning c.read_logs.new.shelf) c.in-Ok.plan c.in-Ok.ensures.takes (g.met.S.Shelf.lawful c.args.shelf.now) (g.met.S.Shelf.lawful c.take_up.new.shelf) (g.met.S.Shelf.lawful c.read_logs.new.shelf) c.take_up.ensures.goes c.read_logs.ensures.goes) (g.S.Shelf.meaning c.renew.new.shelf) (g.met.S.Shelf.lawful c.args.shelf.now) (g.met.S.Shelf.lawful c.read_logs.new.shelf) (whole_goes (g.S.Shelf.meaning c.args.shelf.now) (g.S.Shelf.meaning c.take_up.new.shelf) (g.S.Shelf.meaning c.read_logs.new.shelf) c.in-Ok.plan c.in-Ok.ensures.takes (g.met.S.Shelf.lawful c.args.shelf.now) (g.met.S.Shelf.lawful c.take_up.new.shelf) (g.met.S.Shelf.lawful c.read_logs.new.shelf) c.take_up.ensures.goes c.read_logs.ensures.goes) (c.are_large.ensures.large c.if-not-are_large.false) c.requires.can c.renew.new.core c.in-Err-renew.no c.in-Err-renew.ensures.renews c.in-Err-renew.ensures.agreed

pub returns-then-is_down-clause-same : goal.returns-then-is_down-clause-same
returns-then-is_down-clause-same g c = same_units (g.S.Shelf.meaning c.args.shelf.now)

pub returns-then-not-are_large-clause-same : goal.returns-then-not-are_large-clause-same
returns-then-not-are_large-clause-same g c = same_units (g.S.Shelf.meaning c.args.shelf.now)

pub returns-in-Err-clause-same : goal.returns-in-Err-clause-same
returns-in-Err-clause-same g c = goes_units Nothing (g.S.Shelf.meaning c.args.shelf.now) (g.S.Shelf.meaning c.take_up.new.shelf) c.take_up.ensures.goes

pub returns-in-Err-read_logs-clause-same : goal.returns-in-Err-read_logs-clause-same
returns-in-Err-read_logs-clause-same g c = then_units (g.S.Shelf.meaning c.args.shelf.now) (g.S.Shelf.meaning c.take_up.new.shelf) (g.S.Shelf.meaning c.read_logs.new.shelf) (goes_units Nothing (g.S.Shelf.meaning c.args.shelf.now) (g.S.Shelf.meaning c.take_up.new.shelf) c.take_up.ensures.goes) (goes_units Nothing (g.S.Shelf.meaning c.take_up.new.shelf) (g.S.Shelf.meaning c.read_logs.new.shelf) c.read_logs.ensures.goes)

pub returns-in-Ok-renew-clause-same : goal.returns-in-Ok-renew-clause-same
returns-in-Ok-renew-clause-same g c = then_units (g.S.Shelf.meaning c.args.shelf.now) (g.S.Shelf.meaning c.read_logs.new.shelf) (g.S.Shelf.meaning c.renew.new.shelf) (then_units (g.S.Shelf.meaning c.args.shelf.now) (g.S.Shelf.meaning c.take_up.new.shelf) (g.S.Shelf.meaning c.read_logs.new.shelf) (goes_units Nothing (g.S.Shelf.meaning c.args.shelf.now) (g.S.Shelf.meaning c.take_up.new.shelf) c.take_up.ensures.goes) (goes_units Nothing (g.S.Shelf.meaning c.take_up.new.shelf) (g.S.Shelf.meaning c.read_logs.new.shelf) c.read_logs.ensures.goes)) (acts_units _ _ (g.S.Shelf.meaning c.read_logs.new.shelf) (g.S.Shelf.meaning c.renew.new.shelf) c.renew.ensures.only)

pub returns-in-Err-renew-clause-same : goal.returns-in-Err-renew-clause-same
returns-in-Err-renew-clause-same g c = then_units (g.S.Shelf.meaning c.args.shelf.now) (g.S.Shelf.meaning c.read_logs.new.shelf) (g.S.Shelf.meaning c.renew.new.shelf) (then_units (g.S.Shelf.meaning c.args.shelf.now) (g.S.Shelf.meaning c.take_up.new.shelf) (g.S.Shelf.meaning c.read_logs.new.shelf) (goes_units Nothing (g.S.Shelf.meaning c.args.shelf.now) (g.S.Shelf.meaning c.take_up.new.shelf) c.take_up.ensures.goes) (goes_units Nothing (g.S.Shelf.meaning c.take_up.new.shelf) (g.S.Shelf.meaning c.read_logs.new.shelf) c.read_logs.ensures.goes)) (acts_units _ _ (g.S.Shelf.meaning c.read_logs.new.shelf) (g.S.Shelf.meaning c.renew.new.shelf) c.renew.ensures.only)
