-- `add_last`: clauses stands, stays, adds, beside, cause and whole; what `zero_volume` and `commit_next` ask.
use Rattle.std.proofs.Common.{◌≡◌, ℕ, true, false, length, Err, refl, ap, sym, subst, arith}
use Rattle.vx_disk.specs.Shelf.{Goes, Meaning}
use Rattle.vx_disk.specs.declared.shelf.ShelfError.{ShelfError}
use Rattle.vx_volume.specs.Plexes.{SomeActive}
use Rattle.vx_group.specs.Blames.{StopsByDevice, fault_of as fault_is}
use Rattle.vx_group.specs.Makes.{AreZero, ZerosOn}
use Rattle.vx_group.proofs.AddLemmas.{added, added_Stands, added_stay, missed_Stands, missed_blames, missed_stay, next_can, next_count, next_fit, next_follows, next_on, next_some, next_tidy, next_wanted, whole_beside, zero_Stands, zero_beside, zero_stay, zero_finds, left_alike, zero_alike}
use Rattle.vx_group.proofs.CallLemmas.{not_down}
use Rattle.vx_group.proofs.DeportLemmas.{blames_stop, stops_later}
use Rattle.vx_group.proofs.LoseLemmas.{grown_parts, none_parts, then_parts}
use Rattle.vx_group.proofs.MakeLemmas.{next_parts}
use Rattle.vx_group.proofs.Standing.{kept_of, still_large}
use Rattle.vx_group.proofs.TrustLemmas.{committed_or}
use Rattle.vx_config.specs.declared.config.Config.{Config}
use Rattle.vx_group.proofs.FailingLemmas.{no_failing, then_failing}
use Rattle.vx_group.proofs.FindingLemmas.{before_ends, done_ends, ends_finds, left_ends, stays_finds}
use Rattle.vx_group.proofs.TrustStillLemmas.{added_logs, same_logs, volumes_logs}
use Rattle.vx_group.proofs.SettleFinds.{none_done, none_still}
use Rattle.vx_group.proofs.SettleMore.{none_alikes}
use Rattle.vx_group.proofs.making.add_last.Goals as goal

pub zero_volume-requires-clause-checked : goal.zero_volume-requires-clause-checked
zero_volume-requires-clause-checked g c = c.requires.is_next.sound

pub zero_volume-requires-clause-volume : goal.zero_volume-requires-clause-volume
zero_volume-requires-clause-volume g c = let count = next_count c.args.core.now c.args.next (g.S.Shelf.meaning c.args.shelf.now) c.requires.stands c.requires.is_next in omega (arith, ap length c.as_slice.ensures.volumes, count)

pub zero_volume-requires-clause-some : goal.zero_volume-requires-clause-some
zero_volume-requires-clause-some g c = subst (λ (k : ℕ). SomeActive c.args.next k) (sym (ap length c.as_slice.ensures.volumes)) (next_some c.args.core.now c.args.next (g.S.Shelf.meaning c.args.shelf.now) c.requires.stands c.requires.is_next)

pub zero_volume-requires-clause-disks : goal.zero_volume-requires-clause-disks
zero_volume-requires-clause-disks g c = next_fit c.args.core.now c.args.next (g.S.Shelf.meaning c.args.shelf.now) c.requires.stands c.requires.is_next

pub returns-in-Err-clause-stands : goal.returns-in-Err-clause-stands
returns-in-Err-clause-stands g c = zero_Stands c.args.core.now c.args.next (g.S.Shelf.meaning c.args.shelf.now) c.requires.stands c.requires.is_next (g.S.Shelf.meaning c.zero_volume.new.shelf) (g.met.S.Shelf.lawful c.args.shelf.now) (g.met.S.Shelf.lawful c.zero_volume.new.shelf) (subst (λ (k : ℕ). Goes (ZerosOn c.args.next k) (g.S.Shelf.meaning c.args.shelf.now) (g.S.Shelf.meaning c.zero_volume.new.shelf)) (ap length c.as_slice.ensures.volumes) c.zero_volume.ensures.goes)

pub returns-in-Err-clause-stays : goal.returns-in-Err-clause-stays
returns-in-Err-clause-stays g c = zero_stay c.args.core.now c.args.next (g.S.Shelf.meaning c.args.shelf.now) c.requires.stands c.requires.is_next (g.S.Shelf.meaning c.zero_volume.new.shelf) (g.met.S.Shelf.lawful c.args.shelf.now) (g.met.S.Shelf.lawful c.zero_volume.new.shelf) (subst (λ (k : ℕ). Goes (ZerosOn c.args.next k) (g.S.Shelf.meaning c.args.shelf.now) (g.S.Shelf.meaning c.zero_volume.new.shelf)) (ap length c.as_slice.ensures.volumes) c.zero_volume.ensures.goes)

pub returns-in-Err-clause-adds : goal.returns-in-Err-clause-adds
returns-in-Err-clause-adds g c = refl

pub returns-in-Err-clause-cause : goal.returns-in-Err-clause-cause
returns-in-Err-clause-cause g c = blames_stop (g.S.Shelf.meaning c.args.shelf.now) (g.S.Shelf.meaning c.zero_volume.new.shelf) c.in-Err.error c.in-Err.ensures.cause

pub commit_next-requires-clause-large : goal.commit_next-requires-clause-large
commit_next-requires-clause-large g c = still_large (g.S.Shelf.meaning c.args.shelf.now) (g.S.Shelf.meaning c.zero_volume.new.shelf) c.zero_volume.ensures.goes.units c.zero_volume.ensures.goes.size c.requires.stands.large

pub commit_next-requires-clause-can : goal.commit_next-requires-clause-can
commit_next-requires-clause-can g c = next_can c.args.core.now c.args.next (g.S.Shelf.meaning c.args.shelf.now) c.requires.stands c.requires.is_next

pub commit_next-requires-clause-wanted : goal.commit_next-requires-clause-wanted
commit_next-requires-clause-wanted g c = next_wanted c.args.core.now c.args.next (g.S.Shelf.meaning c.args.shelf.now) c.requires.stands c.requires.is_next (g.S.Shelf.meaning c.zero_volume.new.shelf) c.zero_volume.ensures.goes.units c.zero_volume.ensures.goes.size

pub commit_next-requires-clause-on : goal.commit_next-requires-clause-on
commit_next-requires-clause-on g c = next_on c.args.core.now c.args.next (g.S.Shelf.meaning c.args.shelf.now) c.requires.stands c.requires.is_next

pub commit_next-requires-clause-follows : goal.commit_next-requires-clause-follows
commit_next-requires-clause-follows g c = next_follows c.args.core.now c.args.next (g.S.Shelf.meaning c.args.shelf.now) c.requires.stands c.requires.is_next

pub commit_next-requires-clause-kept : goal.commit_next-requires-clause-kept
commit_next-requires-clause-kept g c = kept_of c.args.core.now (g.S.Shelf.meaning c.zero_volume.new.shelf) (zero_Stands c.args.core.now c.args.next (g.S.Shelf.meaning c.args.shelf.now) c.requires.stands c.requires.is_next (g.S.Shelf.meaning c.zero_volume.new.shelf) (g.met.S.Shelf.lawful c.args.shelf.now) (g.met.S.Shelf.lawful c.zero_volume.new.shelf) (subst (λ (k : ℕ). Goes (ZerosOn c.args.next k) (g.S.Shelf.meaning c.args.shelf.now) (g.S.Shelf.meaning c.zero_volume.new.shelf)) (ap length c.as_slice.ensures.volumes) c.zero_volume.ensures.goes))

pub commit_next-requires-clause-tidy : goal.commit_next-requires-clause-tidy
commit_next-requires-clause-tidy g c = next_tidy c.args.core.now c.args.next (g.S.Shelf.meaning c.args.shelf.now) c.requires.stands c.requires.is_next (g.S.Shelf.meaning c.zero_volume.new.shelf) (g.met.S.Shelf.lawful c.args.shelf.now) (g.met.S.Shelf.lawful c.zero_volume.new.shelf) (subst (λ (k : ℕ). Goes (ZerosOn c.args.next k) (g.S.Shelf.meaning c.args.shelf.now) (g.S.Shelf.meaning c.zero_volume.new.shelf)) (ap length c.as_slice.ensures.volumes) c.zero_volume.ensures.goes) c.requires.settled

pub returns-in-Ok-commit_next-clause-stands : goal.returns-in-Ok-commit_next-clause-stands
returns-in-Ok-commit_next-clause-stands g c = added_Stands c.args.core.now c.args.next (g.S.Shelf.meaning c.args.shelf.now) c.requires.stands c.requires.is_next (g.S.Shelf.meaning c.zero_volume.new.shelf) (g.met.S.Shelf.lawful c.args.shelf.now) (g.met.S.Shelf.lawful c.zero_volume.new.shelf) (subst (λ (k : ℕ). Goes (ZerosOn c.args.next k) (g.S.Shelf.meaning c.args.shelf.now) (g.S.Shelf.meaning c.zero_volume.new.shelf)) (ap length c.as_slice.ensures.volumes) c.zero_volume.ensures.goes) (g.S.Shelf.meaning c.commit_next.new.shelf) (g.met.S.Shelf.lawful c.commit_next.new.shelf) c.commit_next.ensures.acts _ refl refl c.in-Ok-commit_next.ensures.ends c.good_of-core.ensures c.commit_next.ensures.wanted c.commit_next.ensures.can c.commit_next.ensures.on (c.in-Ok-commit_next.ensures.trusts c.args.core.now.committed c.args.core.now.agreed (zero_Stands c.args.core.now c.args.next (g.S.Shelf.meaning c.args.shelf.now) c.requires.stands c.requires.is_next (g.S.Shelf.meaning c.zero_volume.new.shelf) (g.met.S.Shelf.lawful c.args.shelf.now) (g.met.S.Shelf.lawful c.zero_volume.new.shelf) (subst (λ (k : ℕ). Goes (ZerosOn c.args.next k) (g.S.Shelf.meaning c.args.shelf.now) (g.S.Shelf.meaning c.zero_volume.new.shelf)) (ap length c.as_slice.ensures.volumes) c.zero_volume.ensures.goes)).trusts c.is_committed-core.result c.is_committed-core.ensures.some)

pub returns-in-Ok-commit_next-clause-stays : goal.returns-in-Ok-commit_next-clause-stays
returns-in-Ok-commit_next-clause-stays g c = added_stay c.args.core.now c.args.next (g.S.Shelf.meaning c.args.shelf.now) c.requires.stands c.requires.is_next (g.S.Shelf.meaning c.zero_volume.new.shelf) (g.met.S.Shelf.lawful c.args.shelf.now) (g.met.S.Shelf.lawful c.zero_volume.new.shelf) (subst (λ (k : ℕ). Goes (ZerosOn c.args.next k) (g.S.Shelf.meaning c.args.shelf.now) (g.S.Shelf.meaning c.zero_volume.new.shelf)) (ap length c.as_slice.ensures.volumes) c.zero_volume.ensures.goes) (g.S.Shelf.meaning c.commit_next.new.shelf) (g.met.S.Shelf.lawful c.commit_next.new.shelf) c.commit_next.ensures.acts _ refl refl c.in-Ok-commit_next.ensures.ends c.good_of-core.ensures c.commit_next.ensures.wanted c.commit_next.ensures.can c.commit_next.ensures.on

pub returns-in-Ok-commit_next-clause-adds : goal.returns-in-Ok-commit_next-clause-adds
returns-in-Ok-commit_next-clause-adds g c = added c.args.core.now c.args.next (g.S.Shelf.meaning c.args.shelf.now) c.requires.stands c.requires.is_next (g.S.Shelf.meaning c.zero_volume.new.shelf) (g.met.S.Shelf.lawful c.args.shelf.now) (g.met.S.Shelf.lawful c.zero_volume.new.shelf) (subst (λ (k : ℕ). Goes (ZerosOn c.args.next k) (g.S.Shelf.meaning c.args.shelf.now) (g.S.Shelf.meaning c.zero_volume.new.shelf)) (ap length c.as_slice.ensures.volumes) c.zero_volume.ensures.goes) (g.S.Shelf.meaning c.commit_next.new.shelf) (g.met.S.Shelf.lawful c.commit_next.new.shelf) c.commit_next.ensures.acts _ refl refl c.in-Ok-commit_next.ensures.ends c.good_of-core.ensures c.commit_next.ensures.wanted c.commit_next.ensures.can c.commit_next.ensures.on (subst (λ (k : ℕ). AreZero c.args.next k (g.S.Shelf.meaning c.zero_volume.new.shelf)) (ap length c.as_slice.ensures.volumes) c.in-Ok.ensures.ok)

pub returns-then-is_down-clause-stands : goal.returns-then-is_down-clause-stands
returns-then-is_down-clause-stands g c = missed_Stands c.args.core.now c.args.next (g.S.Shelf.meaning c.args.shelf.now) c.requires.stands c.requires.is_next (g.S.Shelf.meaning c.zero_volume.new.shelf) (g.met.S.Shelf.lawful c.args.shelf.now) (g.met.S.Shelf.lawful c.zero_volume.new.shelf) (subst (λ (k : ℕ). Goes (ZerosOn c.args.next k) (g.S.Shelf.meaning c.args.shelf.now) (g.S.Shelf.meaning c.zero_volume.new.shelf)) (ap length c.as_slice.ensures.volumes) c.zero_volume.ensures.goes) (g.S.Shelf.meaning c.commit_next.new.shelf) (g.met.S.Shelf.lawful c.commit_next.new.shelf) c.commit_next.ensures.acts _ refl refl c.commit_next.new.next c.in-Err-commit_next.no c.in-Err-commit_next.ensures.ends c.commit_next.ensures.can refl refl refl (c.in-Err-commit_next.ensures.trusts c.args.core.now.committed c.args.core.now.agreed (zero_Stands c.args.core.now c.args.next (g.S.Shelf.meaning c.args.shelf.now) c.requires.stands c.requires.is_next (g.S.Shelf.meaning c.zero_volume.new.shelf) (g.met.S.Shelf.lawful c.args.shelf.now) (g.met.S.Shelf.lawful c.zero_volume.new.shelf) (subst (λ (k : ℕ). Goes (ZerosOn c.args.next k) (g.S.Shelf.meaning c.args.shelf.now) (g.S.Shelf.meaning c.zero_volume.new.shelf)) (ap length c.as_slice.ensures.volumes) c.zero_volume.ensures.goes)).trusts)

pub returns-then-is_down-clause-stays : goal.returns-then-is_down-clause-stays
returns-then-is_down-clause-stays g c = missed_stay c.args.core.now c.args.next (g.S.Shelf.meaning c.args.shelf.now) c.requires.stands c.requires.is_next (g.S.Shelf.meaning c.zero_volume.new.shelf) (g.met.S.Shelf.lawful c.args.shelf.now) (g.met.S.Shelf.lawful c.zero_volume.new.shelf) (subst (λ (k : ℕ). Goes (ZerosOn c.args.next k) (g.S.Shelf.meaning c.args.shelf.now) (g.S.Shelf.meaning c.zero_volume.new.shelf)) (ap length c.as_slice.ensures.volumes) c.zero_volume.ensures.goes) (g.S.Shelf.meaning c.commit_next.new.shelf) (g.met.S.Shelf.lawful c.commit_next.new.shelf) c.commit_next.ensures.acts _ refl refl c.commit_next.new.next c.in-Err-commit_next.no c.in-Err-commit_next.ensures.ends c.commit_next.ensures.can refl refl refl

pub returns-then-is_down-clause-adds : goal.returns-then-is_down-clause-adds
returns-then-is_down-clause-adds g c = refl

pub returns-else-is_down-clause-stands : goal.returns-else-is_down-clause-stands
returns-else-is_down-clause-stands g c = missed_Stands c.args.core.now c.args.next (g.S.Shelf.meaning c.args.shelf.now) c.requires.stands c.requires.is_next (g.S.Shelf.meaning c.zero_volume.new.shelf) (g.met.S.Shelf.lawful c.args.shelf.now) (g.met.S.Shelf.lawful c.zero_volume.new.shelf) (subst (λ (k : ℕ). Goes (ZerosOn c.args.next k) (g.S.Shelf.meaning c.args.shelf.now) (g.S.Shelf.meaning c.zero_volume.new.shelf)) (ap length c.as_slice.ensures.volumes) c.zero_volume.ensures.goes) (g.S.Shelf.meaning c.commit_next.new.shelf) (g.met.S.Shelf.lawful c.commit_next.new.shelf) c.commit_next.ensures.acts _ refl refl c.commit_next.new.next c.in-Err-commit_next.no c.in-Err-commit_next.ensures.ends c.commit_next.ensures.can refl refl refl (c.in-Err-commit_next.ensures.trusts c.args.core.now.committed c.args.core.now.agreed (zero_Stands c.args.core.now c.args.next (g.S.Shelf.meaning c.args.shelf.now) c.requires.stands c.requires.is_next (g.S.Shelf.meaning c.zero_volume.new.shelf) (g.met.S.Shelf.lawful c.args.shelf.now) (g.met.S.Shelf.lawful c.zero_volume.new.shelf) (subst (λ (k : ℕ). Goes (ZerosOn c.args.next k) (g.S.Shelf.meaning c.args.shelf.now) (g.S.Shelf.meaning c.zero_volume.new.shelf)) (ap length c.as_slice.ensures.volumes) c.zero_volume.ensures.goes)).trusts)

pub returns-else-is_down-clause-stays : goal.returns-else-is_down-clause-stays
returns-else-is_down-clause-stays g c = missed_stay c.args.core.now c.args.next (g.S.Shelf.meaning c.args.shelf.now) c.requires.stands c.requires.is_next (g.S.Shelf.meaning c.zero_volume.new.shelf) (g.met.S.Shelf.lawful c.args.shelf.now) (g.met.S.Shelf.lawful c.zero_volume.new.shelf) (subst (λ (k : ℕ). Goes (ZerosOn c.args.next k) (g.S.Shelf.meaning c.args.shelf.now) (g.S.Shelf.meaning c.zero_volume.new.shelf)) (ap length c.as_slice.ensures.volumes) c.zero_volume.ensures.goes) (g.S.Shelf.meaning c.commit_next.new.shelf) (g.met.S.Shelf.lawful c.commit_next.new.shelf) c.commit_next.ensures.acts _ refl refl c.commit_next.new.next c.in-Err-commit_next.no c.in-Err-commit_next.ensures.ends c.commit_next.ensures.can refl refl refl

pub returns-else-is_down-clause-adds : goal.returns-else-is_down-clause-adds
returns-else-is_down-clause-adds g c = refl

pub returns-else-is_down-clause-cause : goal.returns-else-is_down-clause-cause
returns-else-is_down-clause-cause g c =
    let m : Meaning = g.S.Shelf.meaning c.args.shelf.now in
    let m1 : Meaning = g.S.Shelf.meaning c.zero_volume.new.shelf in
    let m2 : Meaning = g.S.Shelf.meaning c.commit_next.new.shelf in
    subst (λ (e : ShelfError). StopsByDevice {T = Unit {0}} m m2 (Err e)) (sym c.fault_of.ensures)
    (stops_later {T = Unit {0}} (Err (fault_is c.in-Err-commit_next.no 0)) m m1 m2 c.zero_volume.ensures.goes.disk_faults
    (blames_stop m1 m2 (fault_is c.in-Err-commit_next.no 0)
    (missed_blames c.args.core.now c.args.next (g.S.Shelf.meaning c.args.shelf.now) c.requires.stands c.requires.is_next m1 m2 _ c.in-Err-commit_next.no c.in-Err-commit_next.ensures.ends.cause (not_down c.is_down.result m2.down c.is_down.ensures c.if-is_down.false) c.requires.more)))

pub returns-in-Ok-commit_next-clause-whole : goal.returns-in-Ok-commit_next-clause-whole
returns-in-Ok-commit_next-clause-whole g c = committed_or c.is_committed-core.result _ (λ is. (c.is_committed-core.ensures.none is).1)

pub returns-in-Err-clause-beside : goal.returns-in-Err-clause-beside
returns-in-Err-clause-beside g c = zero_beside c.args.core.now c.args.next (g.S.Shelf.meaning c.args.shelf.now) c.requires.stands c.requires.is_next (g.S.Shelf.meaning c.zero_volume.new.shelf) (g.met.S.Shelf.lawful c.args.shelf.now) (g.met.S.Shelf.lawful c.zero_volume.new.shelf) (subst (λ (k : ℕ). Goes (ZerosOn c.args.next k) (g.S.Shelf.meaning c.args.shelf.now) (g.S.Shelf.meaning c.zero_volume.new.shelf)) (ap length c.as_slice.ensures.volumes) c.zero_volume.ensures.goes)

pub returns-in-Ok-commit_next-clause-beside : goal.returns-in-Ok-commit_next-clause-beside
returns-in-Ok-commit_next-clause-beside g c = whole_beside c.args.core.now c.args.next (g.S.Shelf.meaning c.args.shelf.now) c.requires.stands c.requires.is_next (g.S.Shelf.meaning c.zero_volume.new.shelf) (g.met.S.Shelf.lawful c.args.shelf.now) (g.met.S.Shelf.lawful c.zero_volume.new.shelf) (subst (λ (k : ℕ). Goes (ZerosOn c.args.next k) (g.S.Shelf.meaning c.args.shelf.now) (g.S.Shelf.meaning c.zero_volume.new.shelf)) (ap length c.as_slice.ensures.volumes) c.zero_volume.ensures.goes) (g.S.Shelf.meaning c.commit_next.new.shelf) (g.met.S.Shelf.lawful c.commit_next.new.shelf) c.commit_next.ensures.acts c.args.core.now refl refl

pub returns-then-is_down-clause-beside : goal.returns-then-is_down-clause-beside
returns-then-is_down-clause-beside g c = whole_beside c.args.core.now c.args.next (g.S.Shelf.meaning c.args.shelf.now) c.requires.stands c.requires.is_next (g.S.Shelf.meaning c.zero_volume.new.shelf) (g.met.S.Shelf.lawful c.args.shelf.now) (g.met.S.Shelf.lawful c.zero_volume.new.shelf) (subst (λ (k : ℕ). Goes (ZerosOn c.args.next k) (g.S.Shelf.meaning c.args.shelf.now) (g.S.Shelf.meaning c.zero_volume.new.shelf)) (ap length c.as_slice.ensures.volumes) c.zero_volume.ensures.goes) (g.S.Shelf.meaning c.commit_next.new.shelf) (g.met.S.Shelf.lawful c.commit_next.new.shelf) c.commit_next.ensures.acts c.args.core.now refl refl

pub returns-else-is_down-clause-beside : goal.returns-else-is_down-clause-beside
returns-else-is_down-clause-beside g c = whole_beside c.args.core.now c.args.next (g.S.Shelf.meaning c.args.shelf.now) c.requires.stands c.requires.is_next (g.S.Shelf.meaning c.zero_volume.new.shelf) (g.met.S.Shelf.lawful c.args.shelf.now) (g.met.S.Shelf.lawful c.zero_volume.new.shelf) (subst (λ (k : ℕ). Goes (ZerosOn c.args.next k) (g.S.Shelf.meaning c.args.shelf.now) (g.S.Shelf.meaning c.zero_volume.new.shelf)) (ap length c.as_slice.ensures.volumes) c.zero_volume.ensures.goes) (g.S.Shelf.meaning c.commit_next.new.shelf) (g.met.S.Shelf.lawful c.commit_next.new.shelf) c.commit_next.ensures.acts c.args.core.now refl refl

pub returns-in-Err-clause-parts : goal.returns-in-Err-clause-parts
returns-in-Err-clause-parts g c = none_parts c.args.core.now.config

pub returns-in-Ok-commit_next-clause-parts : goal.returns-in-Ok-commit_next-clause-parts
returns-in-Ok-commit_next-clause-parts g c =
    then_parts c.args.core.now.config c.args.next c.commit_next.new.next (next_parts c.args.core.now.config c.args.next c.requires.is_next) (grown_parts (g.S.Shelf.meaning c.zero_volume.new.shelf) (g.S.Shelf.meaning c.commit_next.new.shelf) c.args.next c.commit_next.new.next c.in-Ok-commit_next.ensures.ends.grown c.in-Ok-commit_next.ensures.ends.later)

pub returns-then-is_down-clause-parts : goal.returns-then-is_down-clause-parts
returns-then-is_down-clause-parts g c = record { site = refl; rvg = refl; count = refl; later = c.in-Err-commit_next.ensures.ends.later }

pub returns-else-is_down-clause-parts : goal.returns-else-is_down-clause-parts
returns-else-is_down-clause-parts g c = record { site = refl; rvg = refl; count = refl; later = c.in-Err-commit_next.ensures.ends.later }

pub returns-in-Ok-commit_next-clause-newest : goal.returns-in-Ok-commit_next-clause-newest
returns-in-Ok-commit_next-clause-newest g c = record { finds = c.in-Ok-commit_next.ensures.ends.finds }

pub returns-in-Ok-commit_next-clause-up : goal.returns-in-Ok-commit_next-clause-up
returns-in-Ok-commit_next-clause-up g c = c.in-Ok-commit_next.ensures.up c.in-Ok.ensures.cause

pub returns-in-Err-clause-disks : goal.returns-in-Err-clause-disks
returns-in-Err-clause-disks g c = no_failing (g.S.Shelf.meaning c.args.shelf.now) (g.S.Shelf.meaning c.zero_volume.new.shelf) c.args.core.now.config.disks c.args.core.now.config.disks refl

pub returns-in-Ok-commit_next-clause-disks : goal.returns-in-Ok-commit_next-clause-disks
returns-in-Ok-commit_next-clause-disks g c =
    then_failing (g.S.Shelf.meaning c.args.shelf.now) (g.S.Shelf.meaning c.zero_volume.new.shelf) (g.S.Shelf.meaning c.commit_next.new.shelf) c.zero_volume.ensures.goes.faults c.commit_next.ensures.acts.faults
    c.args.core.now.config.disks c.args.next.disks c.commit_next.new.next.disks
    (no_failing (g.S.Shelf.meaning c.args.shelf.now) (g.S.Shelf.meaning c.zero_volume.new.shelf) c.args.core.now.config.disks c.args.next.disks (ap (λ (x : Config). x.disks) c.requires.is_next.is))
    c.in-Ok-commit_next.ensures.ends.grown.disks

pub returns-then-is_down-clause-disks : goal.returns-then-is_down-clause-disks
returns-then-is_down-clause-disks g c = no_failing (g.S.Shelf.meaning c.args.shelf.now) (g.S.Shelf.meaning c.commit_next.new.shelf) c.args.core.now.config.disks c.args.core.now.config.disks refl

pub returns-else-is_down-clause-disks : goal.returns-else-is_down-clause-disks
returns-else-is_down-clause-disks g c = no_failing (g.S.Shelf.meaning c.args.shelf.now) (g.S.Shelf.meaning c.commit_next.new.shelf) c.args.core.now.config.disks c.args.core.now.config.disks refl

pub returns-in-Err-clause-finds : goal.returns-in-Err-clause-finds
returns-in-Err-clause-finds g c =
    stays_finds c.args.core.now c.args.core.now (g.S.Shelf.meaning c.args.shelf.now) (g.S.Shelf.meaning c.zero_volume.new.shelf) refl refl refl
    (zero_finds c.args.core.now c.args.next (g.S.Shelf.meaning c.args.shelf.now) c.requires.stands c.requires.is_next (g.S.Shelf.meaning c.zero_volume.new.shelf) (g.met.S.Shelf.lawful c.args.shelf.now) (g.met.S.Shelf.lawful c.zero_volume.new.shelf) (subst (λ (k : ℕ). Goes (ZerosOn c.args.next k) (g.S.Shelf.meaning c.args.shelf.now) (g.S.Shelf.meaning c.zero_volume.new.shelf)) (ap length c.as_slice.ensures.volumes) c.zero_volume.ensures.goes))

pub returns-in-Ok-commit_next-clause-finds : goal.returns-in-Ok-commit_next-clause-finds
returns-in-Ok-commit_next-clause-finds g c =
    ends_finds c.args.core.now _ (g.S.Shelf.meaning c.args.shelf.now) (g.S.Shelf.meaning c.commit_next.new.shelf) (before_ends _ (g.S.Shelf.meaning c.args.shelf.now) (g.S.Shelf.meaning c.zero_volume.new.shelf) (g.S.Shelf.meaning c.commit_next.new.shelf)
    (zero_finds c.args.core.now c.args.next (g.S.Shelf.meaning c.args.shelf.now) c.requires.stands c.requires.is_next (g.S.Shelf.meaning c.zero_volume.new.shelf) (g.met.S.Shelf.lawful c.args.shelf.now) (g.met.S.Shelf.lawful c.zero_volume.new.shelf) (subst (λ (k : ℕ). Goes (ZerosOn c.args.next k) (g.S.Shelf.meaning c.args.shelf.now) (g.S.Shelf.meaning c.zero_volume.new.shelf)) (ap length c.as_slice.ensures.volumes) c.zero_volume.ensures.goes))
    (done_ends c.args.next _ (g.S.Shelf.meaning c.zero_volume.new.shelf) (g.S.Shelf.meaning c.commit_next.new.shelf) c.commit_next.ensures.finds c.requires.settled (record { finds = c.in-Ok-commit_next.ensures.ends.finds })))

pub returns-then-is_down-clause-finds : goal.returns-then-is_down-clause-finds
returns-then-is_down-clause-finds g c =
    ends_finds c.args.core.now _ (g.S.Shelf.meaning c.args.shelf.now) (g.S.Shelf.meaning c.commit_next.new.shelf) (before_ends _ (g.S.Shelf.meaning c.args.shelf.now) (g.S.Shelf.meaning c.zero_volume.new.shelf) (g.S.Shelf.meaning c.commit_next.new.shelf)
    (zero_finds c.args.core.now c.args.next (g.S.Shelf.meaning c.args.shelf.now) c.requires.stands c.requires.is_next (g.S.Shelf.meaning c.zero_volume.new.shelf) (g.met.S.Shelf.lawful c.args.shelf.now) (g.met.S.Shelf.lawful c.zero_volume.new.shelf) (subst (λ (k : ℕ). Goes (ZerosOn c.args.next k) (g.S.Shelf.meaning c.args.shelf.now) (g.S.Shelf.meaning c.zero_volume.new.shelf)) (ap length c.as_slice.ensures.volumes) c.zero_volume.ensures.goes))
    (left_ends c.args.next _ (g.S.Shelf.meaning c.zero_volume.new.shelf) (g.S.Shelf.meaning c.commit_next.new.shelf) c.commit_next.ensures.finds refl))

pub returns-else-is_down-clause-finds : goal.returns-else-is_down-clause-finds
returns-else-is_down-clause-finds g c =
    ends_finds c.args.core.now _ (g.S.Shelf.meaning c.args.shelf.now) (g.S.Shelf.meaning c.commit_next.new.shelf) (before_ends _ (g.S.Shelf.meaning c.args.shelf.now) (g.S.Shelf.meaning c.zero_volume.new.shelf) (g.S.Shelf.meaning c.commit_next.new.shelf)
    (zero_finds c.args.core.now c.args.next (g.S.Shelf.meaning c.args.shelf.now) c.requires.stands c.requires.is_next (g.S.Shelf.meaning c.zero_volume.new.shelf) (g.met.S.Shelf.lawful c.args.shelf.now) (g.met.S.Shelf.lawful c.zero_volume.new.shelf) (subst (λ (k : ℕ). Goes (ZerosOn c.args.next k) (g.S.Shelf.meaning c.args.shelf.now) (g.S.Shelf.meaning c.zero_volume.new.shelf)) (ap length c.as_slice.ensures.volumes) c.zero_volume.ensures.goes))
    (left_ends c.args.next _ (g.S.Shelf.meaning c.zero_volume.new.shelf) (g.S.Shelf.meaning c.commit_next.new.shelf) c.commit_next.ensures.finds refl))

pub returns-in-Err-clause-logs : goal.returns-in-Err-clause-logs
returns-in-Err-clause-logs g c = same_logs c.args.core.now.config

pub returns-in-Ok-commit_next-clause-logs : goal.returns-in-Ok-commit_next-clause-logs
returns-in-Ok-commit_next-clause-logs g c =
    added_logs c.args.core.now.config c.args.next c.commit_next.new.next c.requires.is_next.volume c.requires.is_next.is c.in-Ok-commit_next.ensures.ends.grown.volumes

pub returns-then-is_down-clause-logs : goal.returns-then-is_down-clause-logs
returns-then-is_down-clause-logs g c =
    volumes_logs c.args.core.now.config (record { serial = c.commit_next.new.next.serial; site = c.args.core.now.config.site; disks = c.args.core.now.config.disks; volumes = c.args.core.now.config.volumes; rvg = c.args.core.now.config.rvg }) refl

pub returns-else-is_down-clause-logs : goal.returns-else-is_down-clause-logs
returns-else-is_down-clause-logs g c =
    volumes_logs c.args.core.now.config (record { serial = c.commit_next.new.next.serial; site = c.args.core.now.config.site; disks = c.args.core.now.config.disks; volumes = c.args.core.now.config.volumes; rvg = c.args.core.now.config.rvg }) refl

pub returns-in-Err-clause-off : goal.returns-in-Err-clause-off
returns-in-Err-clause-off g c = λ off. off

pub returns-in-Ok-commit_next-clause-off : goal.returns-in-Ok-commit_next-clause-off
returns-in-Ok-commit_next-clause-off g c = tt

pub returns-then-is_down-clause-off : goal.returns-then-is_down-clause-off
returns-then-is_down-clause-off g c = λ off. refl

pub returns-else-is_down-clause-off : goal.returns-else-is_down-clause-off
returns-else-is_down-clause-off g c = λ off. refl

pub returns-in-Err-clause-alikes : goal.returns-in-Err-clause-alikes
returns-in-Err-clause-alikes g c = zero_alike c.args.core.now c.args.next (g.S.Shelf.meaning c.args.shelf.now) c.requires.stands c.requires.is_next (g.S.Shelf.meaning c.zero_volume.new.shelf) (g.met.S.Shelf.lawful c.args.shelf.now) (g.met.S.Shelf.lawful c.zero_volume.new.shelf) (subst (λ (k : ℕ). Goes (ZerosOn c.args.next k) (g.S.Shelf.meaning c.args.shelf.now) (g.S.Shelf.meaning c.zero_volume.new.shelf)) (ap length c.as_slice.ensures.volumes) c.zero_volume.ensures.goes)

pub returns-in-Err-clause-nones : goal.returns-in-Err-clause-nones
returns-in-Err-clause-nones g c = λ was off v. none_still v (g.S.Shelf.meaning c.args.shelf.now) (g.S.Shelf.meaning c.zero_volume.new.shelf) (zero_finds c.args.core.now c.args.next (g.S.Shelf.meaning c.args.shelf.now) c.requires.stands c.requires.is_next (g.S.Shelf.meaning c.zero_volume.new.shelf) (g.met.S.Shelf.lawful c.args.shelf.now) (g.met.S.Shelf.lawful c.zero_volume.new.shelf) (subst (λ (k : ℕ). Goes (ZerosOn c.args.next k) (g.S.Shelf.meaning c.args.shelf.now) (g.S.Shelf.meaning c.zero_volume.new.shelf)) (ap length c.as_slice.ensures.volumes) c.zero_volume.ensures.goes)) (was v)

pub returns-in-Ok-commit_next-clause-alikes : goal.returns-in-Ok-commit_next-clause-alikes
returns-in-Ok-commit_next-clause-alikes g c = none_alikes (g.S.Shelf.meaning c.args.shelf.now) (g.S.Shelf.meaning c.commit_next.new.shelf) (λ v. none_done _ v (g.S.Shelf.meaning c.commit_next.new.shelf) c.commit_next.ensures.on (record { finds = c.in-Ok-commit_next.ensures.ends.finds }))

pub returns-in-Ok-commit_next-clause-nones : goal.returns-in-Ok-commit_next-clause-nones
returns-in-Ok-commit_next-clause-nones g c = λ was off. (λ v. none_done _ v (g.S.Shelf.meaning c.commit_next.new.shelf) c.commit_next.ensures.on (record { finds = c.in-Ok-commit_next.ensures.ends.finds }))

pub returns-in-Ok-commit_next-clause-dones : goal.returns-in-Ok-commit_next-clause-dones
returns-in-Ok-commit_next-clause-dones g c = λ v. none_done _ v (g.S.Shelf.meaning c.commit_next.new.shelf) c.commit_next.ensures.on (record { finds = c.in-Ok-commit_next.ensures.ends.finds })

pub returns-then-is_down-clause-alikes : goal.returns-then-is_down-clause-alikes
returns-then-is_down-clause-alikes g c = left_alike c.args.core.now c.args.next (g.S.Shelf.meaning c.args.shelf.now) c.requires.stands c.requires.is_next (g.S.Shelf.meaning c.zero_volume.new.shelf) (g.met.S.Shelf.lawful c.args.shelf.now) (g.met.S.Shelf.lawful c.zero_volume.new.shelf) (subst (λ (k : ℕ). Goes (ZerosOn c.args.next k) (g.S.Shelf.meaning c.args.shelf.now) (g.S.Shelf.meaning c.zero_volume.new.shelf)) (ap length c.as_slice.ensures.volumes) c.zero_volume.ensures.goes) (g.S.Shelf.meaning c.commit_next.new.shelf) c.commit_next.ensures.acts c.commit_next.ensures.finds

pub returns-then-is_down-clause-nones : goal.returns-then-is_down-clause-nones
returns-then-is_down-clause-nones g c = λ was off. absurd (let clash : true ≡ false = off in cc)

pub returns-else-is_down-clause-alikes : goal.returns-else-is_down-clause-alikes
returns-else-is_down-clause-alikes g c = left_alike c.args.core.now c.args.next (g.S.Shelf.meaning c.args.shelf.now) c.requires.stands c.requires.is_next (g.S.Shelf.meaning c.zero_volume.new.shelf) (g.met.S.Shelf.lawful c.args.shelf.now) (g.met.S.Shelf.lawful c.zero_volume.new.shelf) (subst (λ (k : ℕ). Goes (ZerosOn c.args.next k) (g.S.Shelf.meaning c.args.shelf.now) (g.S.Shelf.meaning c.zero_volume.new.shelf)) (ap length c.as_slice.ensures.volumes) c.zero_volume.ensures.goes) (g.S.Shelf.meaning c.commit_next.new.shelf) c.commit_next.ensures.acts c.commit_next.ensures.finds

pub returns-else-is_down-clause-nones : goal.returns-else-is_down-clause-nones
returns-else-is_down-clause-nones g c = λ was off. absurd (let clash : true ≡ false = off in cc)
