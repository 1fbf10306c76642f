-- A plex that is detached: what it leaves, and refusals of disks that are down behind it.
use Rattle.std.proofs.Common.{◌∙◌, ◌≡◌, ◌-◌, ◌&&◌, IsTrue, None, ap, length, sym}
use Rattle.std.specs.Prelude.{nat_le, nat_lt, not}
use Rattle.vx_config.specs.Checks.{plexes_of}
use Rattle.vx_config.specs.Table.{greatest}
use Rattle.vx_group.specs.Dets.{any_below, det_refusal, is_other, margin}
use Rattle.vx_group.proofs.CallLemmas.{not_down}
use Rattle.vx_grouped.proofs.BothLemmas.{moves_by}
use Rattle.vx_grouped.proofs.KeepLemmas.{agreed_either, call_cut, call_leaves, det_not_down, fell_else, free_either, never_fell, same_at, undone_det}
use Rattle.vx_volume.specs.Plexes.{active}
use Rattle.vx_group.proofs.HoldLemmas.{wide_shape}
use Rattle.vx_logged.proofs.HoldsLemmas.{inner_blocks}
use Rattle.vx_grouped.proofs.PlexMapLemmas.{det_parts}
use Rattle.vx_group.specs.declared.group_core.GroupCore.{GroupCore}
use Rattle.vx_grouped.proofs.StayPartLemmas.{stay_same}
use Rattle.vx_grouped.proofs.plexes.det_plex.Goals as goal

pub returns-then-is_down-clause-refused : goal.returns-then-is_down-clause-refused
returns-then-is_down-clause-refused g c = λ why is.
    absurd (never_fell g.S.Shelf.meaning c.args.group.now.shelf c.det-answer.new.self.shelf (c.det-answer.ensures.refused why is).2 c.requires.up (sym c.is_down.ensures ∙ c.if-is_down.true))

pub returns-then-is_down-clause-leaves : goal.returns-then-is_down-clause-leaves
returns-then-is_down-clause-leaves g c = λ n note at.
    call_cut n note c.args.group.now.core c.det-answer.new.self.core (g.S.Shelf.meaning c.args.group.now.shelf) (g.S.Shelf.meaning c.det-answer.new.self.shelf) at c.det-answer.new.self.stands.group
    c.det-answer.ensures.below.units c.det-answer.ensures.below.size c.det-answer.ensures.goes c.det-answer.ensures.finds.core (sym c.is_down.ensures ∙ c.if-is_down.true)

pub returns-then-is_down-clause-agreed : goal.returns-then-is_down-clause-agreed
returns-then-is_down-clause-agreed g c =
    agreed_either c.det-answer.result c.args.group.now.core.inner.committed c.det-answer.new.self.core.inner.committed c.det-answer.new.self.core.inner.agreed c.det-answer.ensures.trust c.det-answer.new.self.stands.group.stands.trusts.both c.det-answer.ensures.agreed

pub returns-then-is_down-clause-cause : goal.returns-then-is_down-clause-cause
returns-then-is_down-clause-cause g c = λ is. sym c.is_down.ensures ∙ c.if-is_down.true

pub returns-clause-leaves : goal.returns-clause-leaves
returns-clause-leaves g c = λ n note at.
    call_leaves n note c.args.group.now.core c.det-answer.new.self.core (g.S.Shelf.meaning c.args.group.now.shelf) (g.S.Shelf.meaning c.det-answer.new.self.shelf) at c.det-answer.new.self.stands.group
    c.det-answer.ensures.below.units c.det-answer.ensures.below.size c.det-answer.ensures.goes c.det-answer.ensures.finds.core
    c.det-answer.result (det_refusal c.args.group.now.core.inner.config c.args.vol c.args.plex) (not_down c.is_down.result (g.S.Shelf.meaning c.det-answer.new.self.shelf).down c.is_down.ensures c.if-is_down.false)
    c.det-answer.ensures.trust (free_either c.det-answer.result (c.args.group.now.core.held ≡ None → c.det-answer.new.self.core.held ≡ None) c.det-answer.ensures.finds.free) c.det-answer.ensures.cause
    (λ why is. ((c.det-answer.ensures.refused why is).0, same_at g.S.Shelf.meaning n note c.args.group.now.core c.det-answer.new.self.core c.args.group.now.shelf c.det-answer.new.self.shelf (c.det-answer.ensures.refused why is).1 (c.det-answer.ensures.refused why is).2 at))
    (det_not_down (nat_le (length c.args.group.now.core.inner.config.volumes) c.args.vol) (nat_le (plexes_of c.args.group.now.core.inner.config c.args.vol) c.args.plex)
    (active c.args.group.now.core.inner.config c.args.vol c.args.plex && not (any_below (is_other c.args.group.now.core.inner.config c.args.vol c.args.plex) (plexes_of c.args.group.now.core.inner.config c.args.vol)))
    (nat_lt (greatest - margin) c.args.group.now.core.inner.config.serial) c.args.vol c.args.plex greatest)

pub returns-then-is_down-clause-moves : goal.returns-then-is_down-clause-moves
returns-then-is_down-clause-moves g c =
    moves_by c.args.group.now.core c.det-answer.new.self.core (g.S.Shelf.meaning c.args.group.now.shelf) (g.S.Shelf.meaning c.det-answer.new.self.shelf) c.args.group.now.stands.group c.det-answer.new.self.stands.group c.det-answer.ensures.parts c.det-answer.ensures.frames c.det-answer.ensures.disks

pub returns-clause-moves : goal.returns-clause-moves
returns-clause-moves g c =
    moves_by c.args.group.now.core c.det-answer.new.self.core (g.S.Shelf.meaning c.args.group.now.shelf) (g.S.Shelf.meaning c.det-answer.new.self.shelf) c.args.group.now.stands.group c.det-answer.new.self.stands.group c.det-answer.ensures.parts c.det-answer.ensures.frames c.det-answer.ensures.disks

pub returns-then-is_down-clause-maps : goal.returns-then-is_down-clause-maps
returns-then-is_down-clause-maps g c = λ was now. (record { so = λ w up noted. absurd (up (sym c.is_down.ensures ∙ c.if-is_down.true)) }, tt)

pub returns-clause-maps : goal.returns-clause-maps
returns-clause-maps g c = λ was now.
    det_parts c.args.group.now.core c.det-answer.new.self.core c.args.group.now.logs.items c.det-answer.new.self.logs.items c.args.group.now.stopped c.det-answer.new.self.stopped c.args.group.now.alike c.det-answer.new.self.alike (g.S.Shelf.meaning c.args.group.now.shelf) (g.S.Shelf.meaning c.det-answer.new.self.shelf) was now c.args.group.now.stands.group c.det-answer.new.self.stands.group
    c.det-answer.ensures.frames (sym (wide_shape c.det-answer.new.self.core).volumes ∙ c.det-answer.ensures.goes.units ∙ (wide_shape c.args.group.now.core).volumes) (λ v. inner_blocks c.args.group.now.core c.det-answer.new.self.core v (c.det-answer.ensures.goes.size v)) c.det-answer.ensures.ends_maps c.det-answer.ensures.flags
    c.args.vol c.args.plex c.det-answer.result c.det-answer.ensures.comes c.det-answer.ensures.moves (λ why is. (c.det-answer.ensures.refused why is).0)
    (λ why is.
    let same = c.det-answer.ensures.refused why is in
    stay_same c.args.group.now.core.inner.config c.det-answer.new.self.core.inner.config c.args.group.now.logs.items c.det-answer.new.self.logs.items c.args.group.now.alike c.det-answer.new.self.alike c.args.group.now.stopped c.det-answer.new.self.stopped same.3
    c.det-answer.ensures.flags.0 c.det-answer.ensures.flags.1 (ap (λ (x : GroupCore). x.inner.config) same.1)) c.det-answer.ensures.cause c.det-answer.ensures.stays

pub returns-then-is_down-clause-undone : goal.returns-then-is_down-clause-undone
returns-then-is_down-clause-undone g c = λ disk is. absurd (fell_else disk is)

pub returns-clause-undone : goal.returns-clause-undone
returns-clause-undone g c = λ disk is.
    undone_det c.det-answer.result disk (IsTrue (g.S.Shelf.meaning c.det-answer.new.self.shelf).down) (active c.det-answer.new.self.core.inner.config c.args.vol c.args.plex ≡ active c.args.group.now.core.inner.config c.args.vol c.args.plex) c.det-answer.ensures.stays is
    (not_down c.is_down.result (g.S.Shelf.meaning c.det-answer.new.self.shelf).down c.is_down.ensures c.if-is_down.false)

pub returns-clause-goes : goal.returns-clause-goes
returns-clause-goes g c = c.det-answer.ensures.goes

pub returns-clause-off : goal.returns-clause-off
returns-clause-off g c = c.det-answer.ensures.off

pub returns-clause-others : goal.returns-clause-others
returns-clause-others g c = c.det-answer.ensures.others

pub returns-clause-trust : goal.returns-clause-trust
returns-clause-trust g c = c.det-answer.ensures.trust

pub returns-clause-agreed : goal.returns-clause-agreed
returns-clause-agreed g c = c.det-answer.ensures.agreed

pub returns-clause-cause : goal.returns-clause-cause
returns-clause-cause g c = c.det-answer.ensures.cause

pub returns-then-is_down-clause-goes : goal.returns-then-is_down-clause-goes
returns-then-is_down-clause-goes g c = c.det-answer.ensures.goes

pub returns-then-is_down-clause-off : goal.returns-then-is_down-clause-off
returns-then-is_down-clause-off g c = tt

pub returns-then-is_down-clause-others : goal.returns-then-is_down-clause-others
returns-then-is_down-clause-others g c = c.det-answer.ensures.others

pub returns-then-is_down-clause-trust : goal.returns-then-is_down-clause-trust
returns-then-is_down-clause-trust g c = tt
