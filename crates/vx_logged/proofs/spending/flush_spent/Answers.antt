-- `flush_spent`: its clauses.
use Rattle.std.proofs.Common.{inl, inr, refl}
use Rattle.vx_config.specs.Checks.{blocks_of}
use Rattle.vx_group.specs.Holding.{wide}
use Rattle.vx_grouplogs.specs.Marking.{MarksFewer}
use Rattle.vx_grouplogs.proofs.KnowActs.{know_none}
use Rattle.vx_groupmaps.specs.Missing.{none_spared}
use Rattle.vx_logs.specs.declared.logs.Logs.{Logs}
use Rattle.vx_model.specs.Sizes.{regions_of}
use Rattle.vx_logged.specs.Begun.{MapsBut, MapsOff, fell_in}
use Rattle.vx_logged.specs.Behind.{none_missing, AreKept}
use Rattle.vx_logged.specs.Logged.{Known, LogOn, TrustsIn}
use Rattle.vx_logged.proofs.BeginLemmas.{but_none, off_none}
use Rattle.vx_logged.proofs.GoneLogs.{drops_so, no_map, trusts_less}
use Rattle.vx_logged.proofs.SpentLemmas.{bare, bare_fewer, bare_on, by_spent, drops_by}
use Rattle.vx_logged.proofs.spending.flush_spent.Goals as goal

pub returns-in-Err-clause-stands : goal.returns-in-Err-clause-stands
returns-in-Err-clause-stands g c = c.flush_cleared.ensures.stands

pub returns-in-Err-clause-goes : goal.returns-in-Err-clause-goes
returns-in-Err-clause-goes g c = c.flush_cleared.ensures.goes

pub returns-in-Err-clause-loses : goal.returns-in-Err-clause-loses
returns-in-Err-clause-loses g c = c.flush_cleared.ensures.loses

pub returns-in-Err-clause-log : goal.returns-in-Err-clause-log
returns-in-Err-clause-log g c = c.flush_cleared.ensures.log

pub returns-in-Err-clause-others : goal.returns-in-Err-clause-others
returns-in-Err-clause-others g c = c.flush_cleared.ensures.others

pub returns-in-Err-clause-fewer : goal.returns-in-Err-clause-fewer
returns-in-Err-clause-fewer g c = c.flush_cleared.ensures.fewer

pub returns-in-Err-clause-narrow : goal.returns-in-Err-clause-narrow
returns-in-Err-clause-narrow g c = c.flush_cleared.ensures.narrow

pub returns-in-Err-clause-maps : goal.returns-in-Err-clause-maps
returns-in-Err-clause-maps g c = c.flush_cleared.ensures.maps

pub returns-in-Err-clause-notes : goal.returns-in-Err-clause-notes
returns-in-Err-clause-notes g c = c.flush_cleared.ensures.notes

pub returns-in-Err-clause-trusts : goal.returns-in-Err-clause-trusts
returns-in-Err-clause-trusts g c = c.flush_cleared.ensures.trusts

pub returns-in-Err-clause-finds : goal.returns-in-Err-clause-finds
returns-in-Err-clause-finds g c = c.flush_cleared.ensures.finds

pub returns-in-Err-clause-begins : goal.returns-in-Err-clause-begins
returns-in-Err-clause-begins g c = λ is. tt

pub returns-in-Err-clause-drops : goal.returns-in-Err-clause-drops
returns-in-Err-clause-drops g c = drops_so c.args.core.now c.flush_cleared.new.core c.args.vol c.args.logs.now c.flush_cleared.new.logs (g.S.Shelf.meaning c.args.shelf.now) (g.S.Shelf.meaning c.flush_cleared.new.shelf) c.flush_cleared.ensures.drops

pub returns-in-Err-clause-agreed : goal.returns-in-Err-clause-agreed
returns-in-Err-clause-agreed g c = c.in-Err.ensures.agreed

pub returns-in-Err-clause-cause : goal.returns-in-Err-clause-cause
returns-in-Err-clause-cause g c = c.in-Err.ensures.cause

pub returns-clause-stands : goal.returns-clause-stands
returns-clause-stands g c = c.flush_cleared.ensures.stands

pub returns-clause-goes : goal.returns-clause-goes
returns-clause-goes g c = c.flush_cleared.ensures.goes

pub returns-clause-loses : goal.returns-clause-loses
returns-clause-loses g c = c.flush_cleared.ensures.loses

pub returns-clause-others : goal.returns-clause-others
returns-clause-others g c = c.flush_cleared.ensures.others

pub returns-clause-finds : goal.returns-clause-finds
returns-clause-finds g c = c.flush_cleared.ensures.finds

pub returns-clause-ok : goal.returns-clause-ok
returns-clause-ok g c = c.in-Ok.ensures.ok

pub returns-clause-trust : goal.returns-clause-trust
returns-clause-trust g c = c.in-Ok.ensures.trust

pub returns-clause-cause : goal.returns-clause-cause
returns-clause-cause g c = c.in-Ok.ensures.cause

pub returns-clause-agreed : goal.returns-clause-agreed
returns-clause-agreed g c = tt

pub returns-clause-log : goal.returns-clause-log
returns-clause-log g c = λ on. by_spent (λ (k : Logs). LogOn c.flush_cleared.new.core c.args.vol k (g.S.Shelf.meaning c.flush_cleared.new.shelf)) c.flush_cleared.new.logs c.drop_spent.new.logs c.drop_spent.ensures.drl c.drop_spent.ensures.kept (c.flush_cleared.ensures.log on) (λ spent. bare_on (wide c.flush_cleared.new.core).config c.args.vol c.flush_cleared.new.logs (g.S.Shelf.meaning c.flush_cleared.new.shelf) (c.flush_cleared.ensures.log on))

pub returns-clause-fewer : goal.returns-clause-fewer
returns-clause-fewer g c = by_spent (λ (k : Logs). MarksFewer (regions_of (blocks_of (wide c.args.core.now).config.volumes c.args.vol)) c.args.logs.now k) c.flush_cleared.new.logs c.drop_spent.new.logs c.drop_spent.ensures.drl c.drop_spent.ensures.kept c.flush_cleared.ensures.fewer
    (λ spent. bare_fewer (regions_of (blocks_of (wide c.args.core.now).config.volumes c.args.vol)) c.args.logs.now c.flush_cleared.new.logs c.flush_cleared.ensures.fewer)

pub returns-clause-narrow : goal.returns-clause-narrow
returns-clause-narrow g c = c.flush_cleared.ensures.narrow

pub returns-clause-maps : goal.returns-clause-maps
returns-clause-maps g c = λ know. by_spent (λ (k : Logs). Known c.flush_cleared.new.core c.args.vol k (g.S.Shelf.meaning c.flush_cleared.new.shelf)) c.flush_cleared.new.logs c.drop_spent.new.logs c.drop_spent.ensures.drl c.drop_spent.ensures.kept (c.flush_cleared.ensures.maps know) (λ spent. know_none (wide c.flush_cleared.new.core).config c.args.vol none_spared (bare c.flush_cleared.new.logs) (g.S.Shelf.meaning c.flush_cleared.new.shelf) refl)

pub returns-clause-notes : goal.returns-clause-notes
returns-clause-notes g c = by_spent (λ (k : Logs). MapsBut (fell_in c.args.core.now c.flush_cleared.new.core c.args.vol) none_missing 0 0 c.args.logs.now k) c.flush_cleared.new.logs c.drop_spent.new.logs c.drop_spent.ensures.drl c.drop_spent.ensures.kept c.flush_cleared.ensures.notes (λ spent. but_none (fell_in c.args.core.now c.flush_cleared.new.core c.args.vol) none_missing 0 0 c.args.logs.now (bare c.flush_cleared.new.logs) refl)

pub returns-clause-begins : goal.returns-clause-begins
returns-clause-begins g c = λ is. elim (c.in-Ok.ensures.begins is) [
  | inl off ↦ by_spent (λ (k : Logs). MapsOff (fell_in c.args.core.now c.flush_cleared.new.core c.args.vol) k) c.flush_cleared.new.logs c.drop_spent.new.logs c.drop_spent.ensures.drl c.drop_spent.ensures.kept off (λ spent. off_none (fell_in c.args.core.now c.flush_cleared.new.core c.args.vol) (bare c.flush_cleared.new.logs) refl)
  | inr spent ↦ off_none (fell_in c.args.core.now c.flush_cleared.new.core c.args.vol) c.drop_spent.new.logs (c.drop_spent.ensures.spent is spent)
]

pub returns-clause-drops : goal.returns-clause-drops
returns-clause-drops g c = drops_by c.args.core.now c.flush_cleared.new.core c.args.vol c.args.logs.now c.flush_cleared.new.logs c.drop_spent.new.logs (g.S.Shelf.meaning c.args.shelf.now) (g.S.Shelf.meaning c.flush_cleared.new.shelf) c.drop_spent.ensures.drl c.drop_spent.ensures.kept c.flush_cleared.ensures.drops

pub returns-clause-trusts : goal.returns-clause-trusts
returns-clause-trusts g c = by_spent (λ (k : Logs). TrustsIn c.args.vol k c.args.core.now.inner.config c.flush_cleared.new.core.inner.config) c.flush_cleared.new.logs c.drop_spent.new.logs c.drop_spent.ensures.drl c.drop_spent.ensures.kept c.flush_cleared.ensures.trusts
    (λ spent. trusts_less c.args.vol c.flush_cleared.new.logs (bare c.flush_cleared.new.logs) c.args.core.now.inner.config c.flush_cleared.new.core.inner.config (no_map c.flush_cleared.new.logs) c.flush_cleared.ensures.trusts)

pub returns-in-Err-clause-left : goal.returns-in-Err-clause-left
returns-in-Err-clause-left g c = c.in-Err.ensures.left

pub returns-clause-left : goal.returns-clause-left
returns-clause-left g c = λ is. tt

pub returns-in-Err-clause-kept : goal.returns-in-Err-clause-kept
returns-in-Err-clause-kept g c = λ was. tt

pub returns-in-Err-clause-said : goal.returns-in-Err-clause-said
returns-in-Err-clause-said g c = λ is some. tt

pub returns-clause-kept : goal.returns-clause-kept
returns-clause-kept g c = λ was. by_spent (λ (k : Logs). AreKept c.flush_cleared.new.core c.args.vol k) c.flush_cleared.new.logs c.drop_spent.new.logs c.drop_spent.ensures.drl c.drop_spent.ensures.kept (c.in-Ok.ensures.kept was) (λ spent. record { so = inr spent })

pub returns-clause-said : goal.returns-clause-said
returns-clause-said g c = λ is some. by_spent (λ (k : Logs). AreKept c.flush_cleared.new.core c.args.vol k) c.flush_cleared.new.logs c.drop_spent.new.logs c.drop_spent.ensures.drl c.drop_spent.ensures.kept (c.in-Ok.ensures.said is some) (λ spent. record { so = inr spent })

pub returns-in-Err-clause-marks : goal.returns-in-Err-clause-marks
returns-in-Err-clause-marks g c = c.in-Err.ensures.marks

pub returns-in-Err-clause-gives_up : goal.returns-in-Err-clause-gives_up
returns-in-Err-clause-gives_up g c = c.in-Err.ensures.gives_up

pub returns-clause-marks : goal.returns-clause-marks
returns-clause-marks g c = c.in-Ok.ensures.marks

pub returns-clause-gives_up : goal.returns-clause-gives_up
returns-clause-gives_up g c = tt
