-- `lose_up`: clauses attaches, idle, same, failing, finds and logs.
use Rattle.std.proofs.Common.{refl}
use Rattle.vx_disk.specs.Shelf.{Nothing}
use Rattle.vx_kept.specs.Commits.{Member}
use Rattle.vx_kept.specs.Keeping.{Sees}
use Rattle.vx_kept.proofs.Steps.{same_Acts}
use Rattle.vx_group.specs.Attaches.{AnyImage}
use Rattle.vx_group.proofs.AttachLemmas.{any_acts, narrows_attaches}
use Rattle.vx_group.proofs.FailingLemmas.{no_failing}
use Rattle.vx_group.proofs.FindingLemmas.{none_finds}
use Rattle.vx_group.proofs.LostLemmas.{active_plexes}
use Rattle.vx_group.proofs.SourcesLemmas.{no_attaches}
use Rattle.vx_group.proofs.TrustStillLemmas.{same_logs, still_but}
use Rattle.vx_group.proofs.SettleCalls.{same_told}
use Rattle.vx_group.proofs.losing_attached.lose_up.Goals as goal

pub returns-then-is_down-clause-attaches : goal.returns-then-is_down-clause-attaches
returns-then-is_down-clause-attaches g c = λ v p map. no_attaches v p map c.args.core.now (g.S.Shelf.meaning c.args.shelf.now) (g.met.S.Shelf.lawful c.args.shelf.now) c.requires.stands

pub returns-clause-attaches : goal.returns-clause-attaches
returns-clause-attaches g c = λ v p map.
    narrows_attaches v p map c.args.core.now c.lose_log.new.core (g.S.Shelf.meaning c.args.shelf.now) (g.S.Shelf.meaning c.lose_log.new.shelf) (g.met.S.Shelf.lawful c.lose_log.new.shelf) c.requires.stands c.lose_log.ensures.narrows c.lose_log.ensures.parts
    (λ w q apart. active_plexes c.args.core.now.config c.lose_log.new.core.config c.lose_log.ensures.plexes w q)

pub returns-then-is_down-clause-idle : goal.returns-then-is_down-clause-idle
returns-then-is_down-clause-idle g c = same_Acts AnyImage (g.S.Shelf.meaning c.args.shelf.now)

pub returns-clause-idle : goal.returns-clause-idle
returns-clause-idle g c =
    any_acts Nothing Nothing (Sees c.args.core.now.config (Member c.args.core.now.good (g.S.Shelf.meaning c.args.shelf.now)) (g.S.Shelf.meaning c.args.shelf.now)) (g.S.Shelf.meaning c.args.shelf.now) (g.S.Shelf.meaning c.lose_log.new.shelf) c.lose_log.ensures.narrows.acts (λ u k x none. none)

pub returns-then-is_down-clause-same : goal.returns-then-is_down-clause-same
returns-then-is_down-clause-same g c = λ w q. refl

pub returns-clause-same : goal.returns-clause-same
returns-clause-same g c = active_plexes c.args.core.now.config c.lose_log.new.core.config c.lose_log.ensures.plexes

pub returns-then-is_down-clause-failing : goal.returns-then-is_down-clause-failing
returns-then-is_down-clause-failing g c = no_failing (g.S.Shelf.meaning c.args.shelf.now) (g.S.Shelf.meaning c.args.shelf.now) c.args.core.now.config.disks c.args.core.now.config.disks refl

pub returns-then-is_down-clause-finds : goal.returns-then-is_down-clause-finds
returns-then-is_down-clause-finds g c = none_finds c.args.core.now (g.S.Shelf.meaning c.args.shelf.now)

pub returns-clause-finds : goal.returns-clause-finds
returns-clause-finds g c = c.lose_log.ensures.finds

pub returns-then-is_down-clause-logs : goal.returns-then-is_down-clause-logs
returns-then-is_down-clause-logs g c = still_but c.args.vol c.args.log c.args.core.now.config c.args.core.now.config (same_logs c.args.core.now.config)

pub returns-clause-logs : goal.returns-clause-logs
returns-clause-logs g c = c.lose_log.ensures.logs

pub returns-then-is_down-clause-settles : goal.returns-then-is_down-clause-settles
returns-then-is_down-clause-settles g c = same_told c.args.core.now (g.S.Shelf.meaning c.args.shelf.now)

pub returns-clause-settles : goal.returns-clause-settles
returns-clause-settles g c = c.lose_log.ensures.settles
