-- `det_alone`: its clauses; what `detach_plex` asks.
use Rattle.std.proofs.Common.{inr, refl, subst, sym, ◌∙◌}
use Rattle.vx_group.proofs.AloneLemmas.{alone_goes, alone_narrows}
use Rattle.vx_group.proofs.CallLemmas.{not_down}
use Rattle.vx_group.proofs.FindingLemmas.{still_group}
use Rattle.vx_group.proofs.FoundThrough.{alone_finds}
use Rattle.vx_group.proofs.GiveLemmas.{kept_or_down}
use Rattle.vx_group.proofs.HoldLemmas.{from_none, none_Stands}
use Rattle.vx_group.proofs.TrustStillLemmas.{same_logs}
use Rattle.vx_group.proofs.UnsureMarks.{same_unsure}
use Rattle.vx_disk.specs.Causes.{DeviceCause}
use Rattle.vx_disk.specs.Shelf.{Nothing}
use Rattle.vx_disk.proofs.Runs.{same_Goes}
use Rattle.vx_group.specs.Holding.{wide}
use Rattle.vx_group.specs.Stands.{inner_meaning}
use Rattle.vx_model.specs.declared.no.No.{No}
use Rattle.vx_group.proofs.FailingLemmas.{no_failing}
use Rattle.vx_group.proofs.FinishLemmas.{blamed_cause}
use Rattle.vx_group.proofs.LoseLemmas.{none_parts}
use Rattle.vx_group.proofs.RvgLemmas.{no_narrows}
use Rattle.vx_group.proofs.det.det_alone.Goals as goal

pub detach_plex-requires-clause-stands : goal.detach_plex-requires-clause-stands
detach_plex-requires-clause-stands g c = from_none c.args.core.now (g.S.Shelf.meaning c.args.shelf.now) c.requires.none c.requires.stands

pub detach_plex-requires-clause-is_on : goal.detach_plex-requires-clause-is_on
detach_plex-requires-clause-is_on g c = c.requires.is_on

pub detach_plex-requires-clause-other : goal.detach_plex-requires-clause-other
detach_plex-requires-clause-other g c = c.requires.other

pub detach_plex-requires-clause-more : goal.detach_plex-requires-clause-more
detach_plex-requires-clause-more g c = c.requires.more

pub detach_plex-requires-clause-up : goal.detach_plex-requires-clause-up
detach_plex-requires-clause-up g c = not_down c.is_down.result (g.S.Shelf.meaning c.args.shelf.now).down c.is_down.ensures c.if-is_down.false

pub returns-then-is_down-clause-agreed : goal.returns-then-is_down-clause-agreed
returns-then-is_down-clause-agreed g c = λ is. c.requires.stands.stands.trusts.both is

pub returns-then-is_down-clause-stays : goal.returns-then-is_down-clause-stays
returns-then-is_down-clause-stays g c = inr refl

pub returns-then-is_down-clause-finds : goal.returns-then-is_down-clause-finds
returns-then-is_down-clause-finds g c = still_group c.args.core.now (g.S.Shelf.meaning c.args.shelf.now)

pub returns-then-is_down-clause-logs : goal.returns-then-is_down-clause-logs
returns-then-is_down-clause-logs g c = same_logs c.args.core.now.inner.config

pub returns-then-is_down-clause-free : goal.returns-then-is_down-clause-free
returns-then-is_down-clause-free g c = c.requires.none

pub returns-in-Ok-clause-stands : goal.returns-in-Ok-clause-stands
returns-in-Ok-clause-stands g c = none_Stands (record { inner = c.detach_plex.new.core; held = c.args.core.now.held }) (g.S.Shelf.meaning c.detach_plex.new.shelf) c.requires.none c.detach_plex.ensures.stands

pub returns-in-Ok-clause-goes : goal.returns-in-Ok-clause-goes
returns-in-Ok-clause-goes g c = alone_goes c.args.core.now (record { inner = c.detach_plex.new.core; held = c.args.core.now.held }) (g.S.Shelf.meaning c.args.shelf.now) (g.S.Shelf.meaning c.detach_plex.new.shelf) c.requires.none c.requires.none c.detach_plex.ensures.narrows c.requires.stands (g.met.S.Shelf.lawful c.detach_plex.new.shelf)

pub returns-in-Ok-clause-narrows : goal.returns-in-Ok-clause-narrows
returns-in-Ok-clause-narrows g c = alone_narrows c.args.core.now (record { inner = c.detach_plex.new.core; held = c.args.core.now.held }) (g.S.Shelf.meaning c.args.shelf.now) (g.S.Shelf.meaning c.detach_plex.new.shelf) c.requires.none c.requires.none c.detach_plex.ensures.narrows

pub returns-in-Ok-clause-parts : goal.returns-in-Ok-clause-parts
returns-in-Ok-clause-parts g c = c.detach_plex.ensures.parts

pub returns-in-Ok-clause-disks : goal.returns-in-Ok-clause-disks
returns-in-Ok-clause-disks g c = c.detach_plex.ensures.failing

pub returns-in-Ok-clause-others : goal.returns-in-Ok-clause-others
returns-in-Ok-clause-others g c = c.detach_plex.ensures.others

pub returns-in-Ok-clause-free : goal.returns-in-Ok-clause-free
returns-in-Ok-clause-free g c = c.requires.none

pub returns-in-Ok-clause-finds : goal.returns-in-Ok-clause-finds
returns-in-Ok-clause-finds g c = alone_finds c.args.core.now (record { inner = c.detach_plex.new.core; held = c.args.core.now.held }) (g.S.Shelf.meaning c.args.shelf.now) (g.S.Shelf.meaning c.detach_plex.new.shelf) c.requires.none c.requires.none c.detach_plex.ensures.finds c.detach_plex.ensures.settles (same_unsure c.args.core.now.inner.unsure c.detach_plex.new.core.unsure c.detach_plex.ensures.narrows.unsure)

pub returns-in-Ok-clause-logs : goal.returns-in-Ok-clause-logs
returns-in-Ok-clause-logs g c = c.detach_plex.ensures.logs

pub returns-in-Err-clause-stands : goal.returns-in-Err-clause-stands
returns-in-Err-clause-stands g c = none_Stands (record { inner = c.detach_plex.new.core; held = c.args.core.now.held }) (g.S.Shelf.meaning c.detach_plex.new.shelf) c.requires.none c.detach_plex.ensures.stands

pub returns-in-Err-clause-goes : goal.returns-in-Err-clause-goes
returns-in-Err-clause-goes g c = alone_goes c.args.core.now (record { inner = c.detach_plex.new.core; held = c.args.core.now.held }) (g.S.Shelf.meaning c.args.shelf.now) (g.S.Shelf.meaning c.detach_plex.new.shelf) c.requires.none c.requires.none c.detach_plex.ensures.narrows c.requires.stands (g.met.S.Shelf.lawful c.detach_plex.new.shelf)

pub returns-in-Err-clause-narrows : goal.returns-in-Err-clause-narrows
returns-in-Err-clause-narrows g c = alone_narrows c.args.core.now (record { inner = c.detach_plex.new.core; held = c.args.core.now.held }) (g.S.Shelf.meaning c.args.shelf.now) (g.S.Shelf.meaning c.detach_plex.new.shelf) c.requires.none c.requires.none c.detach_plex.ensures.narrows

pub returns-in-Err-clause-parts : goal.returns-in-Err-clause-parts
returns-in-Err-clause-parts g c = c.detach_plex.ensures.parts

pub returns-in-Err-clause-disks : goal.returns-in-Err-clause-disks
returns-in-Err-clause-disks g c = c.detach_plex.ensures.failing

pub returns-in-Err-clause-others : goal.returns-in-Err-clause-others
returns-in-Err-clause-others g c = c.detach_plex.ensures.others

pub returns-in-Err-clause-free : goal.returns-in-Err-clause-free
returns-in-Err-clause-free g c = c.requires.none

pub returns-in-Err-clause-finds : goal.returns-in-Err-clause-finds
returns-in-Err-clause-finds g c = alone_finds c.args.core.now (record { inner = c.detach_plex.new.core; held = c.args.core.now.held }) (g.S.Shelf.meaning c.args.shelf.now) (g.S.Shelf.meaning c.detach_plex.new.shelf) c.requires.none c.requires.none c.detach_plex.ensures.finds c.detach_plex.ensures.settles (same_unsure c.args.core.now.inner.unsure c.detach_plex.new.core.unsure c.detach_plex.ensures.narrows.unsure)

pub returns-in-Err-clause-logs : goal.returns-in-Err-clause-logs
returns-in-Err-clause-logs g c = c.detach_plex.ensures.logs

pub returns-in-Ok-clause-off : goal.returns-in-Ok-clause-off
returns-in-Ok-clause-off g c = c.in-Ok.ensures.off

pub returns-in-Ok-clause-trust : goal.returns-in-Ok-clause-trust
returns-in-Ok-clause-trust g c = c.in-Ok.ensures.trust

pub returns-in-Err-clause-agreed : goal.returns-in-Err-clause-agreed
returns-in-Err-clause-agreed g c = c.in-Err.ensures.agreed

pub returns-in-Err-clause-stays : goal.returns-in-Err-clause-stays
returns-in-Err-clause-stays g c = kept_or_down c.args.core.now.inner.config c.args.core.now.inner.config c.detach_plex.new.core.config (g.S.Shelf.meaning c.args.shelf.now) (g.S.Shelf.meaning c.detach_plex.new.shelf) c.in-Err.error refl c.in-Err.ensures.keeps c.in-Err.ensures.cause

pub returns-then-is_down-clause-stands : goal.returns-then-is_down-clause-stands
returns-then-is_down-clause-stands g c = c.requires.stands

pub returns-then-is_down-clause-goes : goal.returns-then-is_down-clause-goes
returns-then-is_down-clause-goes g c = same_Goes Nothing (inner_meaning (wide c.args.core.now) (g.S.Shelf.meaning c.args.shelf.now))

pub returns-then-is_down-clause-narrows : goal.returns-then-is_down-clause-narrows
returns-then-is_down-clause-narrows g c = no_narrows c.args.core.now (g.S.Shelf.meaning c.args.shelf.now)

pub returns-then-is_down-clause-parts : goal.returns-then-is_down-clause-parts
returns-then-is_down-clause-parts g c = none_parts c.args.core.now.inner.config

pub returns-then-is_down-clause-disks : goal.returns-then-is_down-clause-disks
returns-then-is_down-clause-disks g c = no_failing (g.S.Shelf.meaning c.args.shelf.now) (g.S.Shelf.meaning c.args.shelf.now) c.args.core.now.inner.config.disks c.args.core.now.inner.config.disks refl

pub returns-then-is_down-clause-off : goal.returns-then-is_down-clause-off
returns-then-is_down-clause-off g c = tt

pub returns-then-is_down-clause-others : goal.returns-then-is_down-clause-others
returns-then-is_down-clause-others g c = λ w p apart. refl

pub returns-then-is_down-clause-trust : goal.returns-then-is_down-clause-trust
returns-then-is_down-clause-trust g c = tt

pub returns-then-is_down-clause-cause : goal.returns-then-is_down-clause-cause
returns-then-is_down-clause-cause g c = sym c.is_down.ensures ∙ c.if-is_down.true

pub returns-in-Ok-clause-cause : goal.returns-in-Ok-clause-cause
returns-in-Ok-clause-cause g c = tt

pub returns-in-Ok-clause-stays : goal.returns-in-Ok-clause-stays
returns-in-Ok-clause-stays g c = tt

pub returns-in-Ok-clause-agreed : goal.returns-in-Ok-clause-agreed
returns-in-Ok-clause-agreed g c = tt

pub returns-in-Err-clause-off : goal.returns-in-Err-clause-off
returns-in-Err-clause-off g c = tt

pub returns-in-Err-clause-trust : goal.returns-in-Err-clause-trust
returns-in-Err-clause-trust g c = tt

pub returns-in-Err-clause-cause : goal.returns-in-Err-clause-cause
returns-in-Err-clause-cause g c = subst (λ (why : No). DeviceCause (g.S.Shelf.meaning c.args.shelf.now) (g.S.Shelf.meaning c.detach_plex.new.shelf) why) (sym c.refusal.ensures) (blamed_cause (Unit {0}) (g.S.Shelf.meaning c.args.shelf.now) (g.S.Shelf.meaning c.detach_plex.new.shelf) c.in-Err.error c.in-Err.ensures.cause)
