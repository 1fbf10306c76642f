-- `try_from`: clauses attaches, tried and knows; what `copy_from` asks.
use Rattle.std.proofs.Common.{inl, refl, sym, ◌∙◌}
use Rattle.std.specs.Option.{option_copied}
use Rattle.vx_group.proofs.SourcesLemmas.{no_attaches, tried_by}
use Rattle.vx_kept.proofs.Findings.{same_from}
use Rattle.vx_kept.specs.Finds.{NoConfiguration}
use Rattle.vx_group.proofs.TrustStillLemmas.{same_logs}
use Rattle.vx_group.proofs.attaching.try_from.Goals as goal

pub returns-then-not-is_active-clause-attaches : goal.returns-then-not-is_active-clause-attaches
returns-then-not-is_active-clause-attaches g c =
    no_attaches c.args.vol c.args.plex (option_copied c.args.fmr) c.args.core.now (g.S.Shelf.meaning c.args.shelf.now) (g.met.S.Shelf.lawful c.args.shelf.now) c.requires.stands

pub returns-then-not-is_active-clause-tried : goal.returns-then-not-is_active-clause-tried
returns-then-not-is_active-clause-tried g c =
    (inl (sym c.is_active.ensures ∙ c.if-not-is_active.true, refl), c.requires.up)

pub copy_from-requires-clause-from : goal.copy_from-requires-clause-from
copy_from-requires-clause-from g c =
    sym c.is_active.ensures ∙ c.if-not-is_active.false

pub returns-clause-tried : goal.returns-clause-tried
returns-clause-tried g c =
    tried_by c.args.core.now.config c.args.vol c.args.source c.args.plex c.args.device (g.S.Shelf.meaning c.args.shelf.now) (g.S.Shelf.meaning c.copy_from.new.shelf) c.copy_from.result c.copy_from.ensures.cause

pub returns-then-not-is_active-clause-knows : goal.returns-then-not-is_active-clause-knows
returns-then-not-is_active-clause-knows g c = λ up. c.requires.knows

pub returns-then-not-is_active-clause-less : goal.returns-then-not-is_active-clause-less
returns-then-not-is_active-clause-less g c =
    same_from NoConfiguration (g.S.Shelf.meaning c.args.shelf.now)

pub returns-then-not-is_active-clause-logs : goal.returns-then-not-is_active-clause-logs
returns-then-not-is_active-clause-logs g c = same_logs c.args.core.now.config

pub returns-clause-logs : goal.returns-clause-logs
returns-clause-logs g c = c.copy_from.ensures.logs
