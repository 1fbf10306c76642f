-- `lose_attached`: what `lose_up` asks; clauses stands, attaches, ends, failing, finds and logs.
use Rattle.std.proofs.Common.{◌∙◌, refl}
use Rattle.vx_kept.proofs.StateLemmas.{same_shape}
use Rattle.vx_group.proofs.AloneLemmas.{alone_attaches, alone_core, back_failing, alone_told}
use Rattle.vx_group.proofs.HoldLemmas.{back_Stands, back_gone, back_others, back_parts, back_shape, back_wide, from_none, none_Stands, wide_none}
use Rattle.vx_group.proofs.LoseLemmas.{none_parts}
use Rattle.vx_group.proofs.TrustStillLemmas.{back_logs, but_then}
use Rattle.vx_group.proofs.losing_attached.lose_attached.Goals as goal

pub lose_up-requires-clause-stands : goal.lose_up-requires-clause-stands
lose_up-requires-clause-stands g c = from_none c.args.core.now (g.S.Shelf.meaning c.args.shelf.now) c.requires.alone c.requires.stands

pub returns-in-Ok-clause-stands : goal.returns-in-Ok-clause-stands
returns-in-Ok-clause-stands g c = none_Stands (record { inner = c.lose_up.new.core; held = c.args.core.now.held }) (g.S.Shelf.meaning c.lose_up.new.shelf) c.requires.alone c.lose_up.ensures.stands

pub returns-in-Ok-clause-attaches : goal.returns-in-Ok-clause-attaches
returns-in-Ok-clause-attaches g c = λ map.
    alone_attaches c.args.core.now (record { inner = c.lose_up.new.core; held = c.args.core.now.held }) c.lose_up.new.core (g.S.Shelf.meaning c.args.shelf.now) (g.S.Shelf.meaning c.lose_up.new.shelf) c.requires.alone (wide_none (record { inner = c.lose_up.new.core; held = c.args.core.now.held }) c.requires.alone)
    c.args.vol c.args.plex map (c.lose_up.ensures.attaches c.args.vol c.args.plex map) (same_shape c.lose_up.new.core.config) (λ w q apart. refl) (none_parts c.lose_up.new.core.config)

pub returns-in-Ok-clause-idle : goal.returns-in-Ok-clause-idle
returns-in-Ok-clause-idle g c = c.lose_up.ensures.idle

pub returns-in-Ok-clause-ends : goal.returns-in-Ok-clause-ends
returns-in-Ok-clause-ends g c = record { is_on = c.lose_up.ensures.same c.args.vol c.args.plex ∙ c.requires.is_on; committed = c.in-Ok.ensures.committed }

pub returns-in-Ok-clause-failing : goal.returns-in-Ok-clause-failing
returns-in-Ok-clause-failing g c = c.lose_up.ensures.failing

pub returns-in-Ok-clause-finds : goal.returns-in-Ok-clause-finds
returns-in-Ok-clause-finds g c =
    alone_core c.args.core.now (record { inner = c.lose_up.new.core; held = c.args.core.now.held }) c.lose_up.new.core (g.S.Shelf.meaning c.args.shelf.now) (g.S.Shelf.meaning c.lose_up.new.shelf) c.requires.alone (wide_none (record { inner = c.lose_up.new.core; held = c.args.core.now.held }) c.requires.alone) c.lose_up.ensures.finds

pub returns-in-Ok-clause-logs : goal.returns-in-Ok-clause-logs
returns-in-Ok-clause-logs g c = c.lose_up.ensures.logs

pub returns-in-Err-clause-stands : goal.returns-in-Err-clause-stands
returns-in-Err-clause-stands g c = back_Stands c.args.vol c.args.plex (record { inner = c.lose_up.new.core; held = c.args.core.now.held }) c.hold_back.new.core c.requires.alone c.hold_back.ensures (g.S.Shelf.meaning c.lose_up.new.shelf) c.lose_up.ensures.stands

pub returns-in-Err-clause-attaches : goal.returns-in-Err-clause-attaches
returns-in-Err-clause-attaches g c = λ map.
    alone_attaches c.args.core.now c.hold_back.new.core c.lose_up.new.core (g.S.Shelf.meaning c.args.shelf.now) (g.S.Shelf.meaning c.lose_up.new.shelf) c.requires.alone (back_wide c.args.vol c.args.plex (record { inner = c.lose_up.new.core; held = c.args.core.now.held }) c.hold_back.new.core c.requires.alone c.hold_back.ensures)
    c.args.vol c.args.plex map (c.lose_up.ensures.attaches c.args.vol c.args.plex map) (back_shape c.args.vol c.args.plex (record { inner = c.lose_up.new.core; held = c.args.core.now.held }) c.hold_back.new.core c.requires.alone c.hold_back.ensures)
    (back_others c.args.vol c.args.plex (record { inner = c.lose_up.new.core; held = c.args.core.now.held }) c.hold_back.new.core c.requires.alone c.hold_back.ensures)
    (back_parts c.args.vol c.args.plex c.lose_up.new.core.config (record { inner = c.lose_up.new.core; held = c.args.core.now.held }) c.hold_back.new.core c.requires.alone c.hold_back.ensures (none_parts c.lose_up.new.core.config))

pub returns-in-Err-clause-idle : goal.returns-in-Err-clause-idle
returns-in-Err-clause-idle g c = c.lose_up.ensures.idle

pub returns-in-Err-clause-ends : goal.returns-in-Err-clause-ends
returns-in-Err-clause-ends g c =
    back_gone c.args.vol c.args.plex (record { inner = c.lose_up.new.core; held = c.args.core.now.held }) c.hold_back.new.core
    (record { plex = c.requires.other.plex; is_on = c.lose_up.ensures.same c.args.vol c.requires.other.plex ∙ c.requires.other.is_on; apart = c.requires.other.apart }) c.hold_back.ensures

pub returns-in-Err-clause-failing : goal.returns-in-Err-clause-failing
returns-in-Err-clause-failing g c =
    back_failing c.args.vol c.args.plex (record { inner = c.lose_up.new.core; held = c.args.core.now.held }) c.hold_back.new.core c.requires.alone c.hold_back.ensures c.args.core.now.inner.config.disks (g.S.Shelf.meaning c.args.shelf.now) (g.S.Shelf.meaning c.lose_up.new.shelf) c.lose_up.ensures.failing

pub returns-in-Err-clause-finds : goal.returns-in-Err-clause-finds
returns-in-Err-clause-finds g c =
    alone_core c.args.core.now c.hold_back.new.core c.lose_up.new.core (g.S.Shelf.meaning c.args.shelf.now) (g.S.Shelf.meaning c.lose_up.new.shelf) c.requires.alone (back_wide c.args.vol c.args.plex (record { inner = c.lose_up.new.core; held = c.args.core.now.held }) c.hold_back.new.core c.requires.alone c.hold_back.ensures) c.lose_up.ensures.finds

pub returns-in-Err-clause-logs : goal.returns-in-Err-clause-logs
returns-in-Err-clause-logs g c =
    but_then c.args.vol c.args.log c.args.core.now.inner.config c.lose_up.new.core.config c.hold_back.new.core.inner.config c.lose_up.ensures.logs (back_logs c.args.vol c.args.plex (record { inner = c.lose_up.new.core; held = c.args.core.now.held }) c.hold_back.new.core c.hold_back.ensures)

pub returns-in-Ok-clause-settles : goal.returns-in-Ok-clause-settles
returns-in-Ok-clause-settles g c =
    alone_told c.args.core.now (record { inner = c.lose_up.new.core; held = c.args.core.now.held }) c.lose_up.new.core (g.S.Shelf.meaning c.args.shelf.now) (g.S.Shelf.meaning c.lose_up.new.shelf) c.requires.alone (wide_none (record { inner = c.lose_up.new.core; held = c.args.core.now.held }) c.requires.alone) c.lose_up.ensures.settles

pub returns-in-Err-clause-settles : goal.returns-in-Err-clause-settles
returns-in-Err-clause-settles g c =
    alone_told c.args.core.now c.hold_back.new.core c.lose_up.new.core (g.S.Shelf.meaning c.args.shelf.now) (g.S.Shelf.meaning c.lose_up.new.shelf) c.requires.alone (back_wide c.args.vol c.args.plex (record { inner = c.lose_up.new.core; held = c.args.core.now.held }) c.hold_back.new.core c.requires.alone c.hold_back.ensures) c.lose_up.ensures.settles
