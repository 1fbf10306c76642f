-- `start`: clause created; what `commit_first` asks.
use Rattle.std.proofs.Common.{⊎_elim, false, ◌≡◌, true, inr, ℕ, List, None, length, refl, ap, sym, subst, arith}
use Rattle.vx_config.specs.declared.config.Config.{Config}
use Rattle.vx_config.specs.declared.entry.VolumeEntry.{VolumeEntry}
use Rattle.vx_copies.specs.Bodies.{is_wanted}
use Rattle.vx_copies.specs.Marks.{NoneGood}
use Rattle.vx_copies.proofs.OneTry.{wanted_same}
use Rattle.vx_kept.specs.Commits.{Taken}
use Rattle.vx_kept.specs.Keeping.{AllOn}
use Rattle.vx_group.proofs.CreateLemmas.{all_good, cause_before, empty_on, empty_wanted, empty_with, first_cause, new_Stands}
use Rattle.vx_group.proofs.Standing.{still_large}
use Rattle.vx_group.proofs.TrustLemmas.{committed_or}
use Rattle.vx_group.proofs.UnitLemmas.{same_units, then_units}
use Rattle.vx_group.proofs.create.start.Goals as goal

pub commit_first-requires-clause-wanted : goal.commit_first-requires-clause-wanted
commit_first-requires-clause-wanted g c =
    let same = c.in-Ok-prepare.ensures.ready.same in
    let first = empty_wanted c.args.site c.disks_of.result (g.S.Shelf.meaning c.args.shelf.now).units (g.S.Shelf.meaning c.args.shelf.now).size c.disks_of.ensures.count c.disks_of.ensures.sized in
    wanted_same (g.S.Shelf.meaning c.args.shelf.now) (g.S.Shelf.meaning c.prepare.new.shelf) (record { serial = 0; site = c.args.site; disks = c.disks_of.result; volumes = c.new.result; rvg = None }) same.units same.size
    (subst (λ (x : Config). is_wanted (g.S.Shelf.meaning c.args.shelf.now).units (g.S.Shelf.meaning c.args.shelf.now).size x ≡ true) (sym (ap (λ (vs : List VolumeEntry). empty_with c.args.site c.disks_of.result vs) c.new.ensures)) first)

pub commit_first-requires-clause-on : goal.commit_first-requires-clause-on
commit_first-requires-clause-on g c = subst AllOn (sym (ap (λ (vs : List VolumeEntry). empty_with c.args.site c.disks_of.result vs) c.new.ensures)) (empty_on c.args.site c.disks_of.result)

pub returns-in-Err-commit_first-clause-created : goal.returns-in-Err-commit_first-clause-created
returns-in-Err-commit_first-clause-created g c =
    inr (cause_before (g.S.Shelf.meaning c.args.shelf.now) (g.S.Shelf.meaning c.prepare.new.shelf) (g.S.Shelf.meaning c.commit_first.new.shelf) c.prepare.ensures.counts c.in-Err-commit_first.no
    (first_cause c.good_of-good.result (record { serial = 0; site = c.args.site; disks = c.disks_of.result; volumes = c.new.result; rvg = None }) c.commit_first.new.config.serial (g.S.Shelf.meaning c.prepare.new.shelf) (g.S.Shelf.meaning c.commit_first.new.shelf)
    (subst (λ (k : ℕ). NoneGood c.disks_of.result (length c.disks_of.result) k → ⊥) (sym c.good_of-good.ensures) (all_good c.disks_of.result (let n = c.disks_of.ensures.count in let s = c.requires.some in omega (arith, n, s)) c.disks_of.ensures.good))
    (omega arith) c.in-Err-commit_first.no c.in-Err-commit_first.ensures.ends))

pub returns-clause-created : goal.returns-clause-created
returns-clause-created g c =
    let same = c.in-Ok-prepare.ensures.ready.same in
    let large = still_large (g.S.Shelf.meaning c.args.shelf.now) (g.S.Shelf.meaning c.prepare.new.shelf) same.units same.size (c.if-not-are_large.ensures.large refl) in
    new_Stands c.args.site c.disks_of.result _ (g.S.Shelf.meaning c.args.shelf.now) (g.S.Shelf.meaning c.prepare.new.shelf) (g.S.Shelf.meaning c.commit_first.new.shelf) c.prepare.ensures.faults c.disks_of.ensures.good
    (still_large (g.S.Shelf.meaning c.prepare.new.shelf) (g.S.Shelf.meaning c.commit_first.new.shelf) c.commit_first.ensures.units c.commit_first.ensures.size large) c.commit_first.ensures.can c.commit_first.ensures.wanted
    (subst (λ (x : Config). Taken x x c.commit_first.new.config (g.S.Shelf.meaning c.prepare.new.shelf) (g.S.Shelf.meaning c.commit_first.new.shelf)) (ap (λ (vs : List VolumeEntry). empty_with c.args.site c.disks_of.result vs) c.new.ensures) c.in-Ok-commit_first.ensures.ends.0) c.in-Ok-commit_first.ensures.ends.1 c.good_of-good-2.ensures
    (c.in-Ok-commit_first.ensures.trusts c.is_committed-committed.result (λ is. ⊎_elim (λ was. absurd (let clash : false ≡ true = was in cc)) (λ all. all) (c.is_committed-committed.ensures.some is)))
    (committed_or c.is_committed-committed.result c.commit_first.new.config.disks (λ off. (c.is_committed-committed.ensures.none off).1)) refl

pub returns-then-not-are_large-clause-same : goal.returns-then-not-are_large-clause-same
returns-then-not-are_large-clause-same g c = same_units (g.S.Shelf.meaning c.args.shelf.now)

pub returns-in-Err-clause-same : goal.returns-in-Err-clause-same
returns-in-Err-clause-same g c = same_units (g.S.Shelf.meaning c.args.shelf.now)

pub returns-in-Err-commit_first-clause-same : goal.returns-in-Err-commit_first-clause-same
returns-in-Err-commit_first-clause-same g c = then_units (g.S.Shelf.meaning c.args.shelf.now) (g.S.Shelf.meaning c.prepare.new.shelf) (g.S.Shelf.meaning c.commit_first.new.shelf) c.prepare.ensures.same (record { units = c.commit_first.ensures.units; size = c.commit_first.ensures.size })

pub returns-clause-same : goal.returns-clause-same
returns-clause-same g c = then_units (g.S.Shelf.meaning c.args.shelf.now) (g.S.Shelf.meaning c.prepare.new.shelf) (g.S.Shelf.meaning c.commit_first.new.shelf) c.prepare.ensures.same (record { units = c.commit_first.ensures.units; size = c.commit_first.ensures.size })
