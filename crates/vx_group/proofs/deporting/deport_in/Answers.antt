-- `deport_in`: clauses ends and back; what `close` asks.
use Rattle.std.proofs.Common.{sym, arith, subst, ◌∙◌, Err, refl}
use Rattle.vx_disk.specs.Shelf.{Nothing}
use Rattle.vx_disk.proofs.Runs.{same_Goes}
use Rattle.vx_group.specs.Holding.{wide}
use Rattle.vx_group.specs.Stands.{inner_meaning}
use Rattle.vx_group.proofs.BehindLemmas.{back_goes, behind_back, behind_deported, released_back, group_still}
use Rattle.vx_group.proofs.HoldLemmas.{from_none, wide_none}
use Rattle.vx_group.proofs.ThroughLemmas.{released_goes, through_goes}
use Rattle.vx_group.proofs.FindingLemmas.{images_of, still_images}
use Rattle.vx_group.proofs.FoundThrough.{ahead_told, second_images}
use Rattle.vx_group.proofs.TrustStillLemmas.{same_logs, then_logs}
use Rattle.vx_group.proofs.SettleCalls.{same_told}
use Rattle.vx_group.proofs.SettleDeport.{reads_behind}
use Rattle.vx_group.specs.Settles.{ReadsSure}
use Rattle.vx_group.specs.declared.inner.Inner.{Inner}
use Rattle.vx_group.proofs.CallLemmas.{not_down}
use Rattle.vx_disk.specs.Causes.{DeviceCause}
use Rattle.vx_model.specs.declared.no.No.{No}
use Rattle.vx_group.proofs.DeportLemmas.{stops_cause, stops_later}
use Rattle.vx_group.proofs.FinishLemmas.{blamed_cause}
use Rattle.vx_group.proofs.deporting.deport_in.Goals as goal

pub returns-in-Err-clause-ends : goal.returns-in-Err-clause-ends
returns-in-Err-clause-ends g c = released_back c.args.core.now c.release.new.core (g.S.Shelf.meaning c.args.shelf.now) (g.S.Shelf.meaning c.release.new.shelf) c.requires.stands c.release.ensures.narrows c.release.ensures.volumes c.release.ensures.failing c.release.ensures.stands c.release.ensures.parts

pub close-requires-clause-stands : goal.close-requires-clause-stands
close-requires-clause-stands g c = from_none c.release.new.core (g.S.Shelf.meaning c.release.new.shelf) (c.in-Ok.ensures.done (let le = c.if-core.false in omega (arith, le))) c.release.ensures.stands

pub returns-in-Ok-close-clause-ends : goal.returns-in-Ok-close-clause-ends
returns-in-Ok-close-clause-ends g c =
    behind_deported c.args.core.now c.release.new.core (g.S.Shelf.meaning c.args.shelf.now) (g.S.Shelf.meaning c.release.new.shelf) c.requires.stands c.release.ensures.narrows c.release.ensures.volumes c.release.ensures.failing (c.in-Ok.ensures.done (let le = c.if-core.false in omega (arith, le))) c.in-Ok.ensures.cause c.release.ensures.parts c.in-Ok.ensures.trust c.close.new.core (g.S.Shelf.meaning c.close.new.shelf) c.in-Ok-close.ensures.ends

pub returns-in-Err-close-clause-ends : goal.returns-in-Err-close-clause-ends
returns-in-Err-close-clause-ends g c =
    behind_back c.args.core.now c.release.new.core (g.S.Shelf.meaning c.args.shelf.now) (g.S.Shelf.meaning c.release.new.shelf) c.requires.stands c.release.ensures.narrows c.release.ensures.volumes c.release.ensures.failing (c.in-Ok.ensures.done (let le = c.if-core.false in omega (arith, le))) c.in-Ok.ensures.cause c.release.ensures.parts c.in-Ok.ensures.trust c.close.new.core (g.S.Shelf.meaning c.close.new.shelf) c.in-Err-close.ensures.ends

pub returns-then-core-clause-back : goal.returns-then-core-clause-back
returns-then-core-clause-back g c = same_Goes Nothing (inner_meaning (wide c.args.core.now) (g.S.Shelf.meaning c.args.shelf.now))

pub returns-then-is_down-clause-back : goal.returns-then-is_down-clause-back
returns-then-is_down-clause-back g c = same_Goes Nothing (inner_meaning (wide c.args.core.now) (g.S.Shelf.meaning c.args.shelf.now))

pub returns-in-Err-clause-back : goal.returns-in-Err-clause-back
returns-in-Err-clause-back g c = released_goes c.args.core.now c.release.new.core (g.S.Shelf.meaning c.args.shelf.now) (g.S.Shelf.meaning c.release.new.shelf) c.requires.stands c.release.ensures.narrows c.release.ensures.volumes (g.met.S.Shelf.lawful c.release.new.shelf)

pub returns-in-Err-close-clause-back : goal.returns-in-Err-close-clause-back
returns-in-Err-close-clause-back g c =
    let none = c.in-Ok.ensures.done (let le = c.if-core.false in omega (arith, le)) in
    through_goes c.args.core.now c.release.new.core (record { inner = c.close.new.core; held = c.release.new.core.held }) c.release.new.core.inner c.close.new.core (g.S.Shelf.meaning c.args.shelf.now) (g.S.Shelf.meaning c.release.new.shelf) (g.S.Shelf.meaning c.close.new.shelf)
    (sym (wide_none c.release.new.core none)) (wide_none (record { inner = c.close.new.core; held = c.release.new.core.held }) none) Nothing
    (released_goes c.args.core.now c.release.new.core (g.S.Shelf.meaning c.args.shelf.now) (g.S.Shelf.meaning c.release.new.shelf) c.requires.stands c.release.ensures.narrows c.release.ensures.volumes (g.met.S.Shelf.lawful c.release.new.shelf))
    (back_goes c.release.new.core.inner c.close.new.core (g.S.Shelf.meaning c.release.new.shelf) (g.S.Shelf.meaning c.close.new.shelf) (g.met.S.Shelf.lawful c.close.new.shelf)
    (from_none c.release.new.core (g.S.Shelf.meaning c.release.new.shelf) none c.release.ensures.stands) c.in-Err-close.ensures.ends)

pub returns-then-core-clause-finds : goal.returns-then-core-clause-finds
returns-then-core-clause-finds g c =
    still_images c.args.core.now (g.S.Shelf.meaning c.args.shelf.now)

pub returns-then-is_down-clause-finds : goal.returns-then-is_down-clause-finds
returns-then-is_down-clause-finds g c =
    still_images c.args.core.now (g.S.Shelf.meaning c.args.shelf.now)

pub returns-in-Err-clause-finds : goal.returns-in-Err-clause-finds
returns-in-Err-clause-finds g c =
    images_of c.args.core.now c.release.new.core (g.S.Shelf.meaning c.args.shelf.now) (g.S.Shelf.meaning c.release.new.shelf) c.release.ensures.finds

pub returns-in-Err-close-clause-finds : goal.returns-in-Err-close-clause-finds
returns-in-Err-close-clause-finds g c =
    second_images c.args.core.now c.release.new.core c.close.new.core (g.S.Shelf.meaning c.args.shelf.now) (g.S.Shelf.meaning c.release.new.shelf) (g.S.Shelf.meaning c.close.new.shelf) (c.in-Ok.ensures.done (let le = c.if-core.false in omega (arith, le))) c.release.ensures.finds c.in-Err-close.ensures.finds

pub returns-then-core-clause-logs : goal.returns-then-core-clause-logs
returns-then-core-clause-logs g c = same_logs c.args.core.now.inner.config

pub returns-then-is_down-clause-logs : goal.returns-then-is_down-clause-logs
returns-then-is_down-clause-logs g c = same_logs c.args.core.now.inner.config

pub returns-in-Err-clause-logs : goal.returns-in-Err-clause-logs
returns-in-Err-clause-logs g c = c.release.ensures.logs

pub returns-in-Err-close-clause-logs : goal.returns-in-Err-close-clause-logs
returns-in-Err-close-clause-logs g c = then_logs c.args.core.now.inner.config c.release.new.core.inner.config c.close.new.core.config c.release.ensures.logs c.in-Err-close.ensures.logs

pub returns-then-core-clause-settles : goal.returns-then-core-clause-settles
returns-then-core-clause-settles g c = λ reads. same_told (wide c.args.core.now) (g.S.Shelf.meaning c.args.shelf.now)

pub returns-then-is_down-clause-settles : goal.returns-then-is_down-clause-settles
returns-then-is_down-clause-settles g c = λ reads. same_told (wide c.args.core.now) (g.S.Shelf.meaning c.args.shelf.now)

pub returns-in-Err-clause-settles : goal.returns-in-Err-clause-settles
returns-in-Err-clause-settles g c = λ reads. c.release.ensures.finds.settles

pub returns-in-Err-close-clause-settles : goal.returns-in-Err-close-clause-settles
returns-in-Err-close-clause-settles g c = λ reads.
    let none = c.in-Ok.ensures.done (let le = c.if-core.false in omega (arith, le)) in
    ahead_told c.args.core.now c.release.new.core (record { inner = c.close.new.core; held = c.release.new.core.held }) c.close.new.core (g.S.Shelf.meaning c.args.shelf.now) (g.S.Shelf.meaning c.release.new.shelf) (g.S.Shelf.meaning c.close.new.shelf) none (wide_none (record { inner = c.close.new.core; held = c.release.new.core.held }) none) c.release.ensures.finds
    (c.in-Err-close.ensures.settles (subst (λ (i : Inner). ReadsSure i (g.S.Shelf.meaning c.release.new.shelf)) (wide_none c.release.new.core none) (reads_behind (wide c.args.core.now) (wide c.release.new.core) (g.S.Shelf.meaning c.args.shelf.now) (g.S.Shelf.meaning c.release.new.shelf) c.requires.stands.stands c.release.ensures.narrows c.in-Ok.ensures.cause (reads (not_down c.is_down.result (g.S.Shelf.meaning c.args.shelf.now).down c.is_down.ensures c.if-is_down.false)))))

pub returns-then-core-clause-agreed : goal.returns-then-core-clause-agreed
returns-then-core-clause-agreed g c = c.requires.stands.stands.trusts.both

pub returns-then-is_down-clause-agreed : goal.returns-then-is_down-clause-agreed
returns-then-is_down-clause-agreed g c = c.requires.stands.stands.trusts.both

pub returns-in-Err-clause-agreed : goal.returns-in-Err-clause-agreed
returns-in-Err-clause-agreed g c = c.in-Err.ensures.agreed

pub returns-in-Err-close-clause-agreed : goal.returns-in-Err-close-clause-agreed
returns-in-Err-close-clause-agreed g c = λ is. c.in-Err-close.ensures.agreed (c.in-Ok.ensures.trust is)

pub release-requires-clause-up : goal.release-requires-clause-up
release-requires-clause-up g c = not_down c.is_down.result (g.S.Shelf.meaning c.args.shelf.now).down c.is_down.ensures c.if-is_down.false

pub close-requires-clause-more : goal.close-requires-clause-more
close-requires-clause-more g c = let few = c.in-Ok.ensures.few in let room = c.if-core.false in omega (arith, few, room)

pub close-requires-clause-up : goal.close-requires-clause-up
close-requires-clause-up g c = c.in-Ok.ensures.cause

pub returns-then-core-clause-limit : goal.returns-then-core-clause-limit
returns-then-core-clause-limit g c = λ over. (refl, refl, refl)

pub returns-then-core-clause-ends : goal.returns-then-core-clause-ends
returns-then-core-clause-ends g c = group_still c.args.core.now (g.S.Shelf.meaning c.args.shelf.now) c.requires.stands

pub returns-then-core-clause-cause : goal.returns-then-core-clause-cause
returns-then-core-clause-cause g c = λ le. absurd (let over = c.if-core.true in omega (arith, le, over))

pub returns-then-is_down-clause-limit : goal.returns-then-is_down-clause-limit
returns-then-is_down-clause-limit g c = λ over. absurd (let le = c.if-core.false in omega (arith, over, le))

pub returns-then-is_down-clause-ends : goal.returns-then-is_down-clause-ends
returns-then-is_down-clause-ends g c = group_still c.args.core.now (g.S.Shelf.meaning c.args.shelf.now) c.requires.stands

pub returns-then-is_down-clause-cause : goal.returns-then-is_down-clause-cause
returns-then-is_down-clause-cause g c = λ le. sym c.is_down.ensures ∙ c.if-is_down.true

pub returns-in-Err-clause-limit : goal.returns-in-Err-clause-limit
returns-in-Err-clause-limit g c = λ over. absurd (let le = c.if-core.false in omega (arith, over, le))

pub returns-in-Err-clause-cause : goal.returns-in-Err-clause-cause
returns-in-Err-clause-cause g c = λ le. subst (λ (why : No). DeviceCause (g.S.Shelf.meaning c.args.shelf.now) (g.S.Shelf.meaning c.release.new.shelf) why) (sym c.refusal.ensures) (blamed_cause (Unit {0}) (g.S.Shelf.meaning c.args.shelf.now) (g.S.Shelf.meaning c.release.new.shelf) c.in-Err.error c.in-Err.ensures.cause)

pub returns-in-Ok-close-clause-limit : goal.returns-in-Ok-close-clause-limit
returns-in-Ok-close-clause-limit g c = λ over. absurd (let le = c.if-core.false in omega (arith, over, le))

pub returns-in-Ok-close-clause-up : goal.returns-in-Ok-close-clause-up
returns-in-Ok-close-clause-up g c = c.in-Ok-close.ensures.up

pub returns-in-Ok-close-clause-cause : goal.returns-in-Ok-close-clause-cause
returns-in-Ok-close-clause-cause g c = λ le. tt

pub returns-in-Err-close-clause-limit : goal.returns-in-Err-close-clause-limit
returns-in-Err-close-clause-limit g c = λ over. absurd (let le = c.if-core.false in omega (arith, over, le))

pub returns-in-Err-close-clause-cause : goal.returns-in-Err-close-clause-cause
returns-in-Err-close-clause-cause g c = λ le.
    subst (λ (why : No). DeviceCause (g.S.Shelf.meaning c.args.shelf.now) (g.S.Shelf.meaning c.close.new.shelf) why) (sym c.refusal-in-Err-close.ensures)
    (stops_cause (Unit {0}) (g.S.Shelf.meaning c.args.shelf.now) (g.S.Shelf.meaning c.close.new.shelf) c.in-Err-close.error (stops_later {T = Unit {0}} (Err c.in-Err-close.error) (g.S.Shelf.meaning c.args.shelf.now) (g.S.Shelf.meaning c.release.new.shelf) (g.S.Shelf.meaning c.close.new.shelf) c.release.ensures.narrows.acts.disk_faults c.in-Err-close.ensures.cause))
