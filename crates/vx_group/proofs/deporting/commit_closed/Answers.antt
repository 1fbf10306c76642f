-- `commit_closed`: clauses ends and cause; what `commit_clean` asks.
use Rattle.std.proofs.Common.{inl, true, List, length, Err, refl, sym, subst, arith}
use Rattle.vx_disk.specs.Shelf.{Meaning}
use Rattle.vx_disk.specs.declared.shelf.ShelfError.{ShelfError}
use Rattle.vx_config.specs.declared.config.Config.{Config}
use Rattle.vx_config.specs.declared.entry.DiskEntry.{DiskEntry}
use Rattle.vx_copies.specs.Marks.{NoneGood}
use Rattle.vx_kept.specs.Cleans.{cleaned}
use Rattle.vx_kept.proofs.CleanLemmas.{all_clean}
use Rattle.vx_group.specs.Blames.{StopsByDevice}
use Rattle.vx_group.proofs.CallLemmas.{not_down}
use Rattle.vx_group.proofs.DeportLemmas.{blames_stop, closed, given_back}
use Rattle.vx_group.proofs.DetachLemmas.{stop_sure}
use Rattle.vx_group.proofs.Standing.{kept_of, tidy_of}
use Rattle.vx_group.proofs.FindingLemmas.{ends_finds, left_ends}
use Rattle.vx_group.proofs.TrustStillLemmas.{volumes_logs}
use Rattle.vx_group.proofs.SettleDeport.{closed_settled}
use Rattle.vx_group.proofs.deporting.commit_closed.Goals as goal

pub commit_clean-requires-clause-kept : goal.commit_clean-requires-clause-kept
commit_clean-requires-clause-kept g c = kept_of c.args.core.now (g.S.Shelf.meaning c.args.shelf.now) c.requires.stands

pub commit_clean-requires-clause-tidy : goal.commit_clean-requires-clause-tidy
commit_clean-requires-clause-tidy g c = tidy_of c.args.core.now (g.S.Shelf.meaning c.args.shelf.now) c.requires.stands c.requires.settled

pub returns-in-Ok-clause-ends : goal.returns-in-Ok-clause-ends
returns-in-Ok-clause-ends g c = closed c.args.core.now c.commit_clean.new.config (g.S.Shelf.meaning c.args.shelf.now) (g.S.Shelf.meaning c.commit_clean.new.shelf) c.requires.stands c.commit_clean.ensures.acts c.in-Ok.ensures.ends (λ is. c.in-Ok.ensures.trusts c.args.core.now.committed c.args.core.now.agreed c.requires.stands.trusts true (λ now. inl is))

pub returns-then-is_down-clause-ends : goal.returns-then-is_down-clause-ends
returns-then-is_down-clause-ends g c = given_back c.args.core.now _ (g.S.Shelf.meaning c.args.shelf.now) (g.S.Shelf.meaning c.commit_clean.new.shelf) c.requires.stands c.commit_clean.ensures.acts c.commit_clean.ensures.wanted c.commit_clean.ensures.can refl refl _ c.in-Err.no c.in-Err.ensures.ends refl refl (c.in-Err.ensures.trusts c.args.core.now.committed c.args.core.now.agreed c.requires.stands.trusts)

pub returns-else-is_down-clause-ends : goal.returns-else-is_down-clause-ends
returns-else-is_down-clause-ends g c = given_back c.args.core.now _ (g.S.Shelf.meaning c.args.shelf.now) (g.S.Shelf.meaning c.commit_clean.new.shelf) c.requires.stands c.commit_clean.ensures.acts c.commit_clean.ensures.wanted c.commit_clean.ensures.can refl refl _ c.in-Err.no c.in-Err.ensures.ends refl refl (c.in-Err.ensures.trusts c.args.core.now.committed c.args.core.now.agreed c.requires.stands.trusts)

pub returns-else-is_down-clause-cause : goal.returns-else-is_down-clause-cause
returns-else-is_down-clause-cause g c =
    let core = c.args.core.now in
    let m : Meaning = g.S.Shelf.meaning c.args.shelf.now in
    let new : Meaning = g.S.Shelf.meaning c.commit_clean.new.shelf in
    let a : Config = cleaned core.unsure core.config (length core.config.volumes) in
    let alike = (all_clean core.unsure (length core.config.volumes) core.config).alike in
    subst (λ (e : ShelfError). StopsByDevice {T = Unit {0}} m new (Err e)) (sym c.fault_of.ensures) (blames_stop m new _
    (stop_sure core.good a _ m new (subst (λ (ds : List DiskEntry). NoneGood ds (length ds) core.good → ⊥) (sym alike.disks) c.requires.stands.some)
    (not_down c.is_down.result new.down c.is_down.ensures c.if-is_down.false) c.in-Err.no 0
    (let same = alike.serial in let less = c.requires.more in omega (arith, same, less)) c.in-Err.ensures.ends.cause))

pub returns-then-is_down-clause-finds : goal.returns-then-is_down-clause-finds
returns-then-is_down-clause-finds g c =
    ends_finds c.args.core.now _ (g.S.Shelf.meaning c.args.shelf.now) (g.S.Shelf.meaning c.commit_clean.new.shelf) (left_ends (cleaned c.args.core.now.unsure c.args.core.now.config (length c.args.core.now.config.volumes)) _ (g.S.Shelf.meaning c.args.shelf.now) (g.S.Shelf.meaning c.commit_clean.new.shelf) c.commit_clean.ensures.finds refl)

pub returns-else-is_down-clause-finds : goal.returns-else-is_down-clause-finds
returns-else-is_down-clause-finds g c =
    ends_finds c.args.core.now _ (g.S.Shelf.meaning c.args.shelf.now) (g.S.Shelf.meaning c.commit_clean.new.shelf) (left_ends (cleaned c.args.core.now.unsure c.args.core.now.config (length c.args.core.now.config.volumes)) _ (g.S.Shelf.meaning c.args.shelf.now) (g.S.Shelf.meaning c.commit_clean.new.shelf) c.commit_clean.ensures.finds refl)

pub returns-then-is_down-clause-logs : goal.returns-then-is_down-clause-logs
returns-then-is_down-clause-logs g c = volumes_logs c.args.core.now.config c.commit_clean.new.config c.in-Err.ensures.ends.volumes

pub returns-else-is_down-clause-logs : goal.returns-else-is_down-clause-logs
returns-else-is_down-clause-logs g c = volumes_logs c.args.core.now.config c.commit_clean.new.config c.in-Err.ensures.ends.volumes

pub returns-then-is_down-clause-settles : goal.returns-then-is_down-clause-settles
returns-then-is_down-clause-settles g c = closed_settled c.args.core.now _ (g.S.Shelf.meaning c.args.shelf.now) (g.S.Shelf.meaning c.commit_clean.new.shelf) c.requires.stands c.commit_clean.ensures.acts c.commit_clean.ensures.finds refl

pub returns-else-is_down-clause-settles : goal.returns-else-is_down-clause-settles
returns-else-is_down-clause-settles g c = closed_settled c.args.core.now _ (g.S.Shelf.meaning c.args.shelf.now) (g.S.Shelf.meaning c.commit_clean.new.shelf) c.requires.stands c.commit_clean.ensures.acts c.commit_clean.ensures.finds refl

pub returns-then-is_down-clause-agreed : goal.returns-then-is_down-clause-agreed
returns-then-is_down-clause-agreed g c = λ is. is

pub returns-else-is_down-clause-agreed : goal.returns-else-is_down-clause-agreed
returns-else-is_down-clause-agreed g c = λ is. is
