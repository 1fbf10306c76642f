-- `regain`: clauses stands, narrows, volumes, few, regains and held; what `recommit` asks.
use Rattle.std.proofs.Common.{ap, arith, false, length, refl, subst, sym, true, ◌∙◌}
use Rattle.vx_config.specs.declared.config.Config.{Config}
use Rattle.vx_group.specs.Stands.{InnerStands}
use Rattle.vx_group.proofs.CallLemmas.{both_Narrows}
use Rattle.vx_group.proofs.RegainLemmas.{back_narrows, flags_back, regained_Narrows, regained_Stands, none_holds, regained_held, regained_regains, same_narrows, same_regains, then_regains}
use Rattle.vx_group.proofs.FindingLemmas.{as_finds, none_finds, ends_finds}
use Rattle.vx_group.proofs.FoundThrough.{back_finds, recommit_finds}
use Rattle.vx_group.proofs.SettleCalls.{as_told, ends_told, same_told}
use Rattle.vx_group.proofs.regaining.regain.Goals as goal
use Rattle.vx_group.proofs.LoseLemmas.{but_parts, then_parts}

pub returns-then-not-hold_plex-clause-stands : goal.returns-then-not-hold_plex-clause-stands
returns-then-not-hold_plex-clause-stands g c =
    subst (λ (x : Config). InnerStands (record { config = x; good = c.args.core.now.good; room = c.args.core.now.room; unsettled = c.args.core.now.unsettled; committed = c.args.core.now.committed; agreed = c.args.core.now.agreed; next = c.args.core.now.next; faults = c.args.core.now.faults; unsure = c.args.core.now.unsure }) (g.S.Shelf.meaning c.args.shelf.now)) (sym (c.hold_plex.ensures.regained.none c.if-not-hold_plex.true)) c.requires.stands

pub returns-then-not-hold_plex-clause-narrows : goal.returns-then-not-hold_plex-clause-narrows
returns-then-not-hold_plex-clause-narrows g c =
    same_narrows c.args.core.now (record { config = c.hold_plex.new.config; good = c.args.core.now.good; room = c.args.core.now.room; unsettled = c.args.core.now.unsettled; committed = c.args.core.now.committed; agreed = c.args.core.now.agreed; next = c.args.core.now.next; faults = c.args.core.now.faults; unsure = c.args.core.now.unsure }) (g.S.Shelf.meaning c.args.shelf.now) c.hold_plex.ensures.regained.same.volumes refl refl

pub returns-then-not-hold_plex-clause-volumes : goal.returns-then-not-hold_plex-clause-volumes
returns-then-not-hold_plex-clause-volumes g c =
    c.hold_plex.ensures.regained.same.volumes

pub returns-then-not-hold_plex-clause-few : goal.returns-then-not-hold_plex-clause-few
returns-then-not-hold_plex-clause-few g c =
    let same = c.hold_plex.ensures.regained.same.serial in omega (arith, same)

pub returns-then-not-hold_plex-clause-regains : goal.returns-then-not-hold_plex-clause-regains
returns-then-not-hold_plex-clause-regains g c =
    regained_regains c.args.core.now.config c.hold_plex.new.config c.args.vol c.args.plex (length c.args.core.now.config.disks) c.hold_plex.result (g.S.Shelf.meaning c.args.shelf.now) c.hold_plex.ensures.regained

pub returns-then-not-hold_plex-clause-held : goal.returns-then-not-hold_plex-clause-held
returns-then-not-hold_plex-clause-held g c =
    none_holds c.args.core.now.config c.hold_plex.new.config c.args.vol c.args.plex c.hold_plex.result (g.S.Shelf.meaning c.args.shelf.now) c.hold_plex.ensures.regained c.if-not-hold_plex.true

pub recommit-requires-clause-more : goal.recommit-requires-clause-more
recommit-requires-clause-more g c =
    let same = c.hold_plex.ensures.regained.same.serial in let more = c.requires.more in omega (arith, same, more)

pub recommit-requires-clause-held : goal.recommit-requires-clause-held
recommit-requires-clause-held g c =
    regained_held c.args.core.now.config c.hold_plex.new.config c.args.vol c.args.plex c.hold_plex.result c.hold_plex.ensures.regained

pub recommit-requires-clause-stands : goal.recommit-requires-clause-stands
recommit-requires-clause-stands g c =
    regained_Stands c.args.core.now c.hold_plex.new.config c.args.vol c.args.plex (length c.args.core.now.config.disks) c.hold_plex.result (g.S.Shelf.meaning c.args.shelf.now) c.requires.stands c.hold_plex.ensures.regained

pub returns-in-Ok-clause-narrows : goal.returns-in-Ok-clause-narrows
returns-in-Ok-clause-narrows g c =
    both_Narrows c.args.core.now (record { config = c.hold_plex.new.config; good = c.args.core.now.good; room = c.args.core.now.room; unsettled = true; committed = c.args.core.now.committed; agreed = c.args.core.now.agreed; next = c.args.core.now.next; faults = c.args.core.now.faults; unsure = c.args.core.now.unsure }) c.recommit.new.core (g.S.Shelf.meaning c.args.shelf.now) (g.S.Shelf.meaning c.args.shelf.now) (g.S.Shelf.meaning c.recommit.new.shelf) c.hold_plex.ensures.regained.same.volumes refl (regained_Narrows c.args.core.now c.hold_plex.new.config c.args.vol c.args.plex (length c.args.core.now.config.disks) c.hold_plex.result (g.S.Shelf.meaning c.args.shelf.now) c.requires.stands c.hold_plex.ensures.regained) c.recommit.ensures.narrows

pub returns-in-Ok-clause-volumes : goal.returns-in-Ok-clause-volumes
returns-in-Ok-clause-volumes g c =
    c.recommit.ensures.volumes ∙ c.hold_plex.ensures.regained.same.volumes

pub returns-in-Ok-clause-few : goal.returns-in-Ok-clause-few
returns-in-Ok-clause-few g c =
    let same = c.hold_plex.ensures.regained.same.serial in let count = c.hold_plex.ensures.regained.same.count in let few = c.hold_plex.ensures.few in let le = c.in-Ok.ensures.few in omega (arith, same, count, few, le)

pub returns-in-Ok-clause-regains : goal.returns-in-Ok-clause-regains
returns-in-Ok-clause-regains g c =
    then_regains (g.S.Shelf.meaning c.args.shelf.now) (g.S.Shelf.meaning c.args.shelf.now) (g.S.Shelf.meaning c.recommit.new.shelf) (λ u. omega arith) c.recommit.ensures.narrows.acts.faults c.args.core.now.config c.hold_plex.new.config c.recommit.new.core.config c.args.vol c.args.plex c.recommit.ensures.failing (regained_regains c.args.core.now.config c.hold_plex.new.config c.args.vol c.args.plex (length c.args.core.now.config.disks) c.hold_plex.result (g.S.Shelf.meaning c.args.shelf.now) c.hold_plex.ensures.regained)

pub returns-in-Ok-clause-held : goal.returns-in-Ok-clause-held
returns-in-Ok-clause-held g c = record { held = c.in-Ok.ensures.held; committed = λ on. c.in-Ok.ensures.committed }

pub returns-then-not-core-clause-narrows : goal.returns-then-not-core-clause-narrows
returns-then-not-core-clause-narrows g c =
    both_Narrows c.args.core.now (record { config = c.hold_plex.new.config; good = c.args.core.now.good; room = c.args.core.now.room; unsettled = true; committed = c.args.core.now.committed; agreed = c.args.core.now.agreed; next = c.args.core.now.next; faults = c.args.core.now.faults; unsure = c.args.core.now.unsure }) c.recommit.new.core (g.S.Shelf.meaning c.args.shelf.now) (g.S.Shelf.meaning c.args.shelf.now) (g.S.Shelf.meaning c.recommit.new.shelf) c.hold_plex.ensures.regained.same.volumes refl (regained_Narrows c.args.core.now c.hold_plex.new.config c.args.vol c.args.plex (length c.args.core.now.config.disks) c.hold_plex.result (g.S.Shelf.meaning c.args.shelf.now) c.requires.stands c.hold_plex.ensures.regained) c.recommit.ensures.narrows

pub returns-then-not-core-clause-volumes : goal.returns-then-not-core-clause-volumes
returns-then-not-core-clause-volumes g c =
    c.recommit.ensures.volumes ∙ c.hold_plex.ensures.regained.same.volumes

pub returns-then-not-core-clause-regains : goal.returns-then-not-core-clause-regains
returns-then-not-core-clause-regains g c =
    then_regains (g.S.Shelf.meaning c.args.shelf.now) (g.S.Shelf.meaning c.args.shelf.now) (g.S.Shelf.meaning c.recommit.new.shelf) (λ u. omega arith) c.recommit.ensures.narrows.acts.faults c.args.core.now.config c.hold_plex.new.config c.recommit.new.core.config c.args.vol c.args.plex c.recommit.ensures.failing (regained_regains c.args.core.now.config c.hold_plex.new.config c.args.vol c.args.plex (length c.args.core.now.config.disks) c.hold_plex.result (g.S.Shelf.meaning c.args.shelf.now) c.hold_plex.ensures.regained)

pub returns-else-not-core-clause-stands : goal.returns-else-not-core-clause-stands
returns-else-not-core-clause-stands g c =
    flags_back c.args.core.now c.recommit.new.core c.copy-kept.result (g.S.Shelf.meaning c.args.shelf.now) (g.S.Shelf.meaning c.recommit.new.shelf) c.requires.stands c.recommit.ensures.stands c.copy-kept.ensures (c.recommit.ensures.failing.count ∙ c.hold_plex.ensures.regained.same.count) (λ u. c.recommit.ensures.failing.blocks u ∙ c.hold_plex.ensures.regained.blocks u) (c.recommit.ensures.good c.if-not-core.false) c.if-not-core.false

pub returns-else-not-core-clause-narrows : goal.returns-else-not-core-clause-narrows
returns-else-not-core-clause-narrows g c =
    both_Narrows c.args.core.now c.recommit.new.core (record { config = record { serial = c.recommit.new.core.config.serial; site = c.recommit.new.core.config.site; disks = c.copy-kept.result; volumes = c.recommit.new.core.config.volumes; rvg = c.recommit.new.core.config.rvg }; good = c.recommit.new.core.good; room = c.recommit.new.core.room; unsettled = c.recommit.new.core.unsettled; committed = false; agreed = c.recommit.new.core.agreed; next = c.recommit.new.core.next; faults = c.recommit.new.core.faults; unsure = c.recommit.new.core.unsure }) (g.S.Shelf.meaning c.args.shelf.now) (g.S.Shelf.meaning c.recommit.new.shelf) (g.S.Shelf.meaning c.recommit.new.shelf) (c.recommit.ensures.volumes ∙ c.hold_plex.ensures.regained.same.volumes) (c.recommit.ensures.good c.if-not-core.false) (both_Narrows c.args.core.now (record { config = c.hold_plex.new.config; good = c.args.core.now.good; room = c.args.core.now.room; unsettled = true; committed = c.args.core.now.committed; agreed = c.args.core.now.agreed; next = c.args.core.now.next; faults = c.args.core.now.faults; unsure = c.args.core.now.unsure }) c.recommit.new.core (g.S.Shelf.meaning c.args.shelf.now) (g.S.Shelf.meaning c.args.shelf.now) (g.S.Shelf.meaning c.recommit.new.shelf) c.hold_plex.ensures.regained.same.volumes refl (regained_Narrows c.args.core.now c.hold_plex.new.config c.args.vol c.args.plex (length c.args.core.now.config.disks) c.hold_plex.result (g.S.Shelf.meaning c.args.shelf.now) c.requires.stands c.hold_plex.ensures.regained) c.recommit.ensures.narrows) (back_narrows c.args.core.now c.recommit.new.core c.copy-kept.result (g.S.Shelf.meaning c.args.shelf.now) (g.S.Shelf.meaning c.recommit.new.shelf) c.requires.stands c.recommit.ensures.stands c.copy-kept.ensures (c.recommit.ensures.failing.count ∙ c.hold_plex.ensures.regained.same.count) (λ u. c.recommit.ensures.failing.blocks u ∙ c.hold_plex.ensures.regained.blocks u) (c.recommit.ensures.good c.if-not-core.false) c.if-not-core.false)

pub returns-else-not-core-clause-volumes : goal.returns-else-not-core-clause-volumes
returns-else-not-core-clause-volumes g c =
    c.recommit.ensures.volumes ∙ c.hold_plex.ensures.regained.same.volumes

pub returns-else-not-core-clause-regains : goal.returns-else-not-core-clause-regains
returns-else-not-core-clause-regains g c =
    let back : Config = record { serial = c.recommit.new.core.config.serial; site = c.recommit.new.core.config.site; disks = c.copy-kept.result; volumes = c.recommit.new.core.config.volumes; rvg = c.recommit.new.core.config.rvg } in
    same_regains c.args.core.now.config back c.args.vol c.args.plex (g.S.Shelf.meaning c.args.shelf.now) (g.S.Shelf.meaning c.recommit.new.shelf) c.copy-kept.ensures

pub returns-then-not-hold_plex-clause-parts : goal.returns-then-not-hold_plex-clause-parts
returns-then-not-hold_plex-clause-parts g c = but_parts c.args.core.now.config c.hold_plex.new.config c.hold_plex.ensures.regained.same

pub returns-in-Ok-clause-parts : goal.returns-in-Ok-clause-parts
returns-in-Ok-clause-parts g c = then_parts c.args.core.now.config c.hold_plex.new.config c.recommit.new.core.config (but_parts c.args.core.now.config c.hold_plex.new.config c.hold_plex.ensures.regained.same) c.recommit.ensures.parts

pub returns-then-not-core-clause-parts : goal.returns-then-not-core-clause-parts
returns-then-not-core-clause-parts g c = then_parts c.args.core.now.config c.hold_plex.new.config c.recommit.new.core.config (but_parts c.args.core.now.config c.hold_plex.new.config c.hold_plex.ensures.regained.same) c.recommit.ensures.parts

pub returns-else-not-core-clause-parts : goal.returns-else-not-core-clause-parts
returns-else-not-core-clause-parts g c =
    let parts = then_parts c.args.core.now.config c.hold_plex.new.config c.recommit.new.core.config (but_parts c.args.core.now.config c.hold_plex.new.config c.hold_plex.ensures.regained.same) c.recommit.ensures.parts in
    record { site = parts.site; rvg = parts.rvg; count = ap length c.copy-kept.ensures; later = parts.later }

pub returns-then-not-hold_plex-clause-finds : goal.returns-then-not-hold_plex-clause-finds
returns-then-not-hold_plex-clause-finds g c =
    as_finds c.args.core.now c.args.core.now _ (g.S.Shelf.meaning c.args.shelf.now) (g.S.Shelf.meaning c.args.shelf.now) (c.hold_plex.ensures.regained.none c.if-not-hold_plex.true) refl refl (none_finds c.args.core.now (g.S.Shelf.meaning c.args.shelf.now))

pub returns-in-Ok-clause-finds : goal.returns-in-Ok-clause-finds
returns-in-Ok-clause-finds g c =
    ends_finds c.args.core.now c.recommit.new.core (g.S.Shelf.meaning c.args.shelf.now) (g.S.Shelf.meaning c.recommit.new.shelf) c.in-Ok.ensures.finds

pub returns-then-not-core-clause-finds : goal.returns-then-not-core-clause-finds
returns-then-not-core-clause-finds g c =
    recommit_finds c.args.core.now (record { config = c.hold_plex.new.config; good = c.args.core.now.good; room = c.args.core.now.room; unsettled = true; committed = c.args.core.now.committed; agreed = c.args.core.now.agreed; next = c.args.core.now.next; faults = c.args.core.now.faults; unsure = c.args.core.now.unsure }) c.recommit.new.core (g.S.Shelf.meaning c.args.shelf.now) (g.S.Shelf.meaning c.recommit.new.shelf) c.if-not-core.true c.in-Err.ensures.finds

pub returns-else-not-core-clause-finds : goal.returns-else-not-core-clause-finds
returns-else-not-core-clause-finds g c =
    back_finds c.args.core.now (record { config = c.hold_plex.new.config; good = c.args.core.now.good; room = c.args.core.now.room; unsettled = true; committed = c.args.core.now.committed; agreed = c.args.core.now.agreed; next = c.args.core.now.next; faults = c.args.core.now.faults; unsure = c.args.core.now.unsure }) c.recommit.new.core c.copy-kept.result (g.S.Shelf.meaning c.args.shelf.now) (g.S.Shelf.meaning c.recommit.new.shelf) c.in-Err.ensures.finds

pub returns-then-not-hold_plex-clause-settles : goal.returns-then-not-hold_plex-clause-settles
returns-then-not-hold_plex-clause-settles g c =
    as_told c.args.core.now c.args.core.now _ (g.S.Shelf.meaning c.args.shelf.now) (g.S.Shelf.meaning c.args.shelf.now) (ap (λ (x : Config). x.serial) (c.hold_plex.ensures.regained.none c.if-not-hold_plex.true)) refl (same_told c.args.core.now (g.S.Shelf.meaning c.args.shelf.now))

pub returns-in-Ok-clause-settles : goal.returns-in-Ok-clause-settles
returns-in-Ok-clause-settles g c = ends_told c.args.core.now c.recommit.new.core (g.S.Shelf.meaning c.args.shelf.now) (g.S.Shelf.meaning c.recommit.new.shelf) (λ lacks. let more = c.requires.more in let spent = lacks.spent in omega (arith, more, spent)) c.recommit.ensures.settles

pub returns-then-not-core-clause-settles : goal.returns-then-not-core-clause-settles
returns-then-not-core-clause-settles g c = ends_told c.args.core.now c.recommit.new.core (g.S.Shelf.meaning c.args.shelf.now) (g.S.Shelf.meaning c.recommit.new.shelf) (λ lacks. let more = c.requires.more in let spent = lacks.spent in omega (arith, more, spent)) c.recommit.ensures.settles

pub returns-else-not-core-clause-settles : goal.returns-else-not-core-clause-settles
returns-else-not-core-clause-settles g c =
    as_told c.args.core.now c.recommit.new.core _ (g.S.Shelf.meaning c.args.shelf.now) (g.S.Shelf.meaning c.recommit.new.shelf) refl refl
    (ends_told c.args.core.now c.recommit.new.core (g.S.Shelf.meaning c.args.shelf.now) (g.S.Shelf.meaning c.recommit.new.shelf) (λ lacks. let more = c.requires.more in let spent = lacks.spent in omega (arith, more, spent)) c.recommit.ensures.settles)
