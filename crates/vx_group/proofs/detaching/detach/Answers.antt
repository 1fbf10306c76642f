-- `detach`: each clause is that of `detach_named`.
use Rattle.std.proofs.Common.{ℕ}
use Rattle.vx_group.proofs.LostLemmas.{error_to, keeps_to, or_to}
use Rattle.vx_group.proofs.detaching.detach.Goals as goal

pub detach_named-requires-clause-stands : goal.detach_named-requires-clause-stands
detach_named-requires-clause-stands g c = c.requires.stands

pub detach_named-requires-clause-settled : goal.detach_named-requires-clause-settled
detach_named-requires-clause-settled g c = c.requires.settled

pub detach_named-requires-clause-left : goal.detach_named-requires-clause-left
detach_named-requires-clause-left g c = c.requires.left

pub detach_named-requires-clause-those : goal.detach_named-requires-clause-those
detach_named-requires-clause-those g c = c.requires.those

pub returns-in-Ok-clause-stands : goal.returns-in-Ok-clause-stands
returns-in-Ok-clause-stands g c = c.detach_named.ensures.stands

pub returns-in-Err-clause-stands : goal.returns-in-Err-clause-stands
returns-in-Err-clause-stands g c = c.detach_named.ensures.stands

pub returns-in-Ok-clause-narrows : goal.returns-in-Ok-clause-narrows
returns-in-Ok-clause-narrows g c = c.detach_named.ensures.narrows

pub returns-in-Err-clause-narrows : goal.returns-in-Err-clause-narrows
returns-in-Err-clause-narrows g c = c.detach_named.ensures.narrows

pub returns-in-Ok-clause-others : goal.returns-in-Ok-clause-others
returns-in-Ok-clause-others g c = c.detach_named.ensures.others

pub returns-in-Err-clause-others : goal.returns-in-Err-clause-others
returns-in-Err-clause-others g c = c.detach_named.ensures.others

pub returns-in-Ok-clause-lies : goal.returns-in-Ok-clause-lies
returns-in-Ok-clause-lies g c = c.detach_named.ensures.lies

pub returns-in-Err-clause-lies : goal.returns-in-Err-clause-lies
returns-in-Err-clause-lies g c = c.detach_named.ensures.lies

pub returns-in-Ok-clause-parts : goal.returns-in-Ok-clause-parts
returns-in-Ok-clause-parts g c = c.detach_named.ensures.parts

pub returns-in-Err-clause-parts : goal.returns-in-Err-clause-parts
returns-in-Err-clause-parts g c = c.detach_named.ensures.parts

pub returns-in-Ok-clause-failing : goal.returns-in-Ok-clause-failing
returns-in-Ok-clause-failing g c = c.detach_named.ensures.failing

pub returns-in-Err-clause-failing : goal.returns-in-Err-clause-failing
returns-in-Err-clause-failing g c = c.detach_named.ensures.failing

pub returns-in-Ok-clause-good : goal.returns-in-Ok-clause-good
returns-in-Ok-clause-good g c = c.detach_named.ensures.good

pub returns-in-Err-clause-good : goal.returns-in-Err-clause-good
returns-in-Err-clause-good g c = c.detach_named.ensures.good

pub returns-in-Ok-clause-kept : goal.returns-in-Ok-clause-kept
returns-in-Ok-clause-kept g c = c.detach_named.ensures.kept

pub returns-in-Err-clause-kept : goal.returns-in-Err-clause-kept
returns-in-Err-clause-kept g c = c.detach_named.ensures.kept

pub returns-in-Ok-clause-none : goal.returns-in-Ok-clause-none
returns-in-Ok-clause-none g c = c.detach_named.ensures.none

pub returns-in-Err-clause-none : goal.returns-in-Err-clause-none
returns-in-Err-clause-none g c = c.detach_named.ensures.none

pub returns-in-Ok-clause-finds : goal.returns-in-Ok-clause-finds
returns-in-Ok-clause-finds g c = c.detach_named.ensures.finds

pub returns-in-Err-clause-finds : goal.returns-in-Err-clause-finds
returns-in-Err-clause-finds g c = c.detach_named.ensures.finds

pub returns-in-Ok-clause-logs : goal.returns-in-Ok-clause-logs
returns-in-Ok-clause-logs g c = c.detach_named.ensures.logs

pub returns-in-Err-clause-logs : goal.returns-in-Err-clause-logs
returns-in-Err-clause-logs g c = c.detach_named.ensures.logs

pub returns-in-Ok-clause-off : goal.returns-in-Ok-clause-off
returns-in-Ok-clause-off g c = c.in-Ok.ensures.off

pub returns-in-Ok-clause-settled : goal.returns-in-Ok-clause-settled
returns-in-Ok-clause-settled g c = c.in-Ok.ensures.settled

pub returns-in-Ok-clause-few : goal.returns-in-Ok-clause-few
returns-in-Ok-clause-few g c = c.in-Ok.ensures.few

pub returns-in-Ok-clause-room : goal.returns-in-Ok-clause-room
returns-in-Ok-clause-room g c = c.in-Ok.ensures.room

pub returns-in-Ok-clause-trust : goal.returns-in-Ok-clause-trust
returns-in-Ok-clause-trust g c = c.in-Ok.ensures.trust

pub returns-in-Ok-clause-whole : goal.returns-in-Ok-clause-whole
returns-in-Ok-clause-whole g c = c.in-Ok.ensures.whole

pub returns-in-Ok-clause-committed : goal.returns-in-Ok-clause-committed
returns-in-Ok-clause-committed g c = c.in-Ok.ensures.committed

pub returns-in-Ok-clause-cause : goal.returns-in-Ok-clause-cause
returns-in-Ok-clause-cause g c = c.in-Ok.ensures.cause

pub returns-in-Ok-clause-sure : goal.returns-in-Ok-clause-sure
returns-in-Ok-clause-sure g c = c.in-Ok.ensures.sure

pub returns-in-Err-clause-missed : goal.returns-in-Err-clause-missed
returns-in-Err-clause-missed g c = c.in-Err.ensures.missed

pub returns-in-Err-clause-agreed : goal.returns-in-Err-clause-agreed
returns-in-Err-clause-agreed g c = c.in-Err.ensures.agreed

pub returns-in-Err-clause-keeps : goal.returns-in-Err-clause-keeps
returns-in-Err-clause-keeps g c = keeps_to ℕ (Unit {0}) c.args.core.now.config c.detach_named.new.core.config c.in-Err.error c.in-Err.ensures.keeps

pub returns-in-Err-clause-cause : goal.returns-in-Err-clause-cause
returns-in-Err-clause-cause g c = or_to ℕ (Unit {0}) c.args.failed.disk c.in-Err.error (g.S.Shelf.meaning c.args.shelf.now) (g.S.Shelf.meaning c.detach_named.new.shelf) c.in-Err.ensures.cause

pub returns-in-Err-clause-sure : goal.returns-in-Err-clause-sure
returns-in-Err-clause-sure g c = λ less. error_to ℕ (Unit {0}) c.in-Err.error (g.S.Shelf.meaning c.args.shelf.now) (g.S.Shelf.meaning c.detach_named.new.shelf) (c.in-Err.ensures.sure less)
