-- Whether a block of zeros is taken for a header.
use Rattle.std.proofs.Common.{subst}
use Rattle.vx_ringio.specs.Reading.{SeesTop}
use Rattle.vx_diskset.proofs.StartBare.{zeros_seen, never_valid, never_broken}
use Rattle.vx_diskset.proofs.starting.is_log.Goals as goal

pub returns-after-matches-clause-none : goal.returns-after-matches-clause-none
returns-after-matches-clause-none g c = λ told keeps.
    let lawful = (g.met.R.Shelf g.world.𝓛 g.world.𝓜 g.world.𝓡 ((λ s x. x), (λ x. x), (λ x. x), λ x. x)).lawful in
    absurd (never_valid c.args.ring c.in-Ok-Valid.header (zeros_seen c.args.ring c.args.block (g.R.Shelf.meaning c.args.rack.now) _ (lawful c.args.rack.now) keeps
    (subst (λ s. SeesTop 0 c.args.ring c.args.block (g.R.Shelf.meaning c.args.rack.now) s) c.in-Ok-Valid.field-0-is (c.in-Ok-Valid.ensures.sees told))))

pub returns-in-Ok-Broken-clause-none : goal.returns-in-Ok-Broken-clause-none
returns-in-Ok-Broken-clause-none g c = λ told keeps.
    let lawful = (g.met.R.Shelf g.world.𝓛 g.world.𝓜 g.world.𝓡 ((λ s x. x), (λ x. x), (λ x. x), λ x. x)).lawful in
    absurd (never_broken c.args.ring c.in-Ok-Broken.field-0-0 c.in-Ok-Broken.field-0-1 (zeros_seen c.args.ring c.args.block (g.R.Shelf.meaning c.args.rack.now) _ (lawful c.args.rack.now) keeps
    (subst (λ s. SeesTop 0 c.args.ring c.args.block (g.R.Shelf.meaning c.args.rack.now) s) c.in-Ok-Broken.field-0-is (c.in-Ok-Broken.ensures.sees told))))
