-- A plex that is attached: what it leaves, and refusals of disks that are down behind it.
use Rattle.std.proofs.Common.{◌∙◌, ◌-◌, Bool, ap, length, sym}
use Rattle.std.proofs.lemmas.Bool.{false_from_ne_true}
use Rattle.std.specs.Prelude.{nat_le, nat_lt}
use Rattle.vx_config.specs.Checks.{plexes_of}
use Rattle.vx_config.specs.Table.{greatest}
use Rattle.vx_group.specs.Attaches.{att_refusal, missed_regions}
use Rattle.vx_group.specs.Dets.{margin}
use Rattle.vx_group.proofs.CallLemmas.{not_down}
use Rattle.vx_grouped.proofs.CopiedLemmas.{copies_by}
use Rattle.vx_grouped.proofs.KeepLemmas.{att_not_down, attached_by, call_cut, call_leaves, fell_else, never_fell, same_at, undone_by}
use Rattle.vx_grouped.proofs.BothLemmas.{regains_by, stays_by}
use Rattle.vx_loggroup.specs.Attaching.{map_by}
use Rattle.vx_grouped.proofs.PlexMapLemmas.{att_parts, ok_each}
use Rattle.vx_group.specs.declared.group_core.GroupCore.{GroupCore}
use Rattle.vx_grouped.proofs.StayPartLemmas.{stay_held}
use Rattle.vx_grouped.proofs.plexes.att_plex.Goals as goal

pub returns-then-is_down-clause-refused : goal.returns-then-is_down-clause-refused
returns-then-is_down-clause-refused g c = λ why is.
    absurd (never_fell g.S.Shelf.meaning c.args.group.now.shelf c.att-answer.new.self.shelf (c.att-answer.ensures.refused why is).2 c.requires.up (sym c.is_down.ensures ∙ c.if-is_down.true))

pub returns-then-is_down-clause-already : goal.returns-then-is_down-clause-already
returns-then-is_down-clause-already g c = λ may on.
    absurd (never_fell g.S.Shelf.meaning c.args.group.now.shelf c.att-answer.new.self.shelf (c.att-answer.ensures.already may on).2 c.requires.up (sym c.is_down.ensures ∙ c.if-is_down.true))

pub returns-then-is_down-clause-leaves : goal.returns-then-is_down-clause-leaves
returns-then-is_down-clause-leaves g c = λ n note at.
    call_cut n note c.args.group.now.core c.att-answer.new.self.core (g.S.Shelf.meaning c.args.group.now.shelf) (g.S.Shelf.meaning c.att-answer.new.self.shelf) at c.att-answer.new.self.stands.group
    c.att-answer.ensures.attaches.acts.units c.att-answer.ensures.attaches.acts.size c.att-answer.ensures.attaches.goes c.att-answer.ensures.finds (sym c.is_down.ensures ∙ c.if-is_down.true)

pub returns-then-is_down-clause-cause : goal.returns-then-is_down-clause-cause
returns-then-is_down-clause-cause g c = λ is. sym c.is_down.ensures ∙ c.if-is_down.true

pub returns-clause-attached : goal.returns-clause-attached
returns-clause-attached g c = λ off. attached_by c.att-answer.result c.args.vol c.args.plex c.att-answer.new.self.core.inner.config (g.S.Shelf.meaning c.att-answer.new.self.shelf) (c.att-answer.ensures.ends off)

pub returns-then-is_down-clause-undone : goal.returns-then-is_down-clause-undone
returns-then-is_down-clause-undone g c = λ off disk is. absurd (fell_else disk is)

pub returns-clause-undone : goal.returns-clause-undone
returns-clause-undone g c = λ off disk is. undone_by c.att-answer.result c.args.vol c.args.plex c.att-answer.new.self.core.inner.config (g.S.Shelf.meaning c.att-answer.new.self.shelf) disk (c.att-answer.ensures.ends off) is

pub returns-clause-leaves : goal.returns-clause-leaves
returns-clause-leaves g c = λ n note at.
    call_leaves n note c.args.group.now.core c.att-answer.new.self.core (g.S.Shelf.meaning c.args.group.now.shelf) (g.S.Shelf.meaning c.att-answer.new.self.shelf) at c.att-answer.new.self.stands.group
    c.att-answer.ensures.attaches.acts.units c.att-answer.ensures.attaches.acts.size c.att-answer.ensures.attaches.goes c.att-answer.ensures.finds
    c.att-answer.result (att_refusal c.args.group.now.core.inner.config c.args.vol c.args.plex) (not_down c.is_down.result (g.S.Shelf.meaning c.att-answer.new.self.shelf).down c.is_down.ensures c.if-is_down.false)
    c.att-answer.ensures.trust c.att-answer.ensures.free c.att-answer.ensures.cause
    (λ why is. ((c.att-answer.ensures.refused why is).0, same_at g.S.Shelf.meaning n note c.args.group.now.core c.att-answer.new.self.core c.args.group.now.shelf c.att-answer.new.self.shelf (c.att-answer.ensures.refused why is).1 (c.att-answer.ensures.refused why is).2 at))
    (att_not_down (nat_le (length c.args.group.now.core.inner.config.volumes) c.args.vol) (nat_le (plexes_of c.args.group.now.core.inner.config c.args.vol) c.args.plex)
    (nat_lt (greatest - margin) c.args.group.now.core.inner.config.serial) c.args.vol c.args.plex greatest)

pub returns-then-is_down-clause-moves : goal.returns-then-is_down-clause-moves
returns-then-is_down-clause-moves g c =
    regains_by c.args.group.now.core c.att-answer.new.self.core (g.S.Shelf.meaning c.args.group.now.shelf) (g.S.Shelf.meaning c.att-answer.new.self.shelf) c.args.group.now.stands.group c.att-answer.new.self.stands.group
    c.att-answer.ensures.attaches.acts.units c.att-answer.ensures.attaches.acts.size c.args.vol c.args.plex c.att-answer.ensures.attaches.parts c.att-answer.ensures.attaches.shape c.att-answer.ensures.regains

pub returns-clause-moves : goal.returns-clause-moves
returns-clause-moves g c =
    regains_by c.args.group.now.core c.att-answer.new.self.core (g.S.Shelf.meaning c.args.group.now.shelf) (g.S.Shelf.meaning c.att-answer.new.self.shelf) c.args.group.now.stands.group c.att-answer.new.self.stands.group
    c.att-answer.ensures.attaches.acts.units c.att-answer.ensures.attaches.acts.size c.args.vol c.args.plex c.att-answer.ensures.attaches.parts c.att-answer.ensures.attaches.shape c.att-answer.ensures.regains

pub returns-clause-stays : goal.returns-clause-stays
returns-clause-stays g c = λ on. stays_by c.att-answer.result (att_refusal c.args.group.now.core.inner.config c.args.vol c.args.plex) c.args.vol c.args.plex c.args.group.now.core c.att-answer.new.self.core (λ why is. (c.att-answer.ensures.refused why is).0)
    (λ none. (c.att-answer.ensures.already none on).1) on

pub returns-clause-copies : goal.returns-clause-copies
returns-clause-copies g c = λ off.
    copies_by c.att-answer.result c.args.group.now.core c.args.group.now.logs.items c.args.group.now.alike c.args.group.now.stopped (g.S.Shelf.meaning c.args.group.now.shelf) c.args.group.now.stands c.args.vol c.args.plex (c.att-answer.ensures.count off)

pub returns-then-is_down-clause-maps : goal.returns-then-is_down-clause-maps
returns-then-is_down-clause-maps g c = λ was now. (record { so = λ w up noted. absurd (up (sym c.is_down.ensures ∙ c.if-is_down.true)) }, tt)

pub returns-clause-maps : goal.returns-clause-maps
returns-clause-maps g c = λ was now.
    att_parts c.args.group.now.core c.att-answer.new.self.core c.args.group.now.logs.items c.att-answer.new.self.logs.items c.args.group.now.stopped c.att-answer.new.self.stopped c.args.group.now.alike c.att-answer.new.self.alike (g.S.Shelf.meaning c.args.group.now.shelf) (g.S.Shelf.meaning c.att-answer.new.self.shelf) was now c.args.group.now.stands.group c.att-answer.new.self.stands.group
    c.att-answer.ensures.attaches.shape.frames c.att-answer.ensures.attaches.shape.volumes c.att-answer.ensures.attaches.shape.blocks c.att-answer.ensures.ends_maps c.att-answer.ensures.flags
    c.args.vol c.args.plex c.att-answer.result c.att-answer.ensures.comes c.att-answer.ensures.moves (λ why is. (c.att-answer.ensures.refused why is).0) (λ off. ok_each c.att-answer.result (λ n same. same ∙ ap (λ (x : Bool). missed_regions c.args.group.now.core.inner.config c.args.vol c.args.plex (map_by c.args.group.now.logs.items c.args.group.now.core.inner.config c.args.group.now.stopped x c.args.vol c.args.plex)) (false_from_ne_true (g.S.Shelf.meaning c.args.group.now.shelf).down c.requires.up)) (c.att-answer.ensures.count off))
    (λ why is.
    let same = c.att-answer.ensures.refused why is in
    stay_held c.args.group.now.core.inner.config c.att-answer.new.self.core.inner.config c.args.group.now.logs.items c.att-answer.new.self.logs.items c.args.group.now.alike c.att-answer.new.self.alike c.args.group.now.stopped c.att-answer.new.self.stopped
    (c.att-answer.ensures.tests why is) c.att-answer.ensures.flags.0 c.att-answer.ensures.flags.1 (ap (λ (x : GroupCore). x.inner.config) same.1))
    c.att-answer.ensures.cause

pub returns-clause-refused : goal.returns-clause-refused
returns-clause-refused g c = c.att-answer.ensures.refused

pub returns-clause-already : goal.returns-clause-already
returns-clause-already g c = c.att-answer.ensures.already

pub returns-clause-count : goal.returns-clause-count
returns-clause-count g c = c.att-answer.ensures.count

pub returns-clause-regains : goal.returns-clause-regains
returns-clause-regains g c = c.att-answer.ensures.regains

pub returns-clause-trust : goal.returns-clause-trust
returns-clause-trust g c = c.att-answer.ensures.trust

pub returns-clause-cause : goal.returns-clause-cause
returns-clause-cause g c = c.att-answer.ensures.cause

pub returns-then-is_down-clause-regains : goal.returns-then-is_down-clause-regains
returns-then-is_down-clause-regains g c = c.att-answer.ensures.regains

pub returns-then-is_down-clause-trust : goal.returns-then-is_down-clause-trust
returns-then-is_down-clause-trust g c = tt
