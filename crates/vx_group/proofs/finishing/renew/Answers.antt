-- `renew`: clauses renews, only, trust and agreed; what `mend_volumes` asks.
use Rattle.std.proofs.Common.{◌∙◌, inl, sym, subst, ap, length, arith}
use Rattle.vx_disk.specs.Causes.{DeviceCause}
use Rattle.vx_model.specs.declared.no.No.{No}
use Rattle.vx_group.specs.Resumes.{source_at}
use Rattle.vx_kept.specs.Commits.{Member}
use Rattle.vx_kept.specs.Keeping.{Sees}
use Rattle.vx_kept.proofs.Chosen.{active_volumes}
use Rattle.vx_kept.proofs.StateLemmas.{same_shape}
use Rattle.vx_group.specs.Attaches.{AnyImage}
use Rattle.vx_group.proofs.CreateLemmas.{cause_before}
use Rattle.vx_group.proofs.FinishLemmas.{blamed_cause, narrows_on, renew_all, stopped_on}
use Rattle.vx_group.proofs.MendLemmas.{marks_later, none_marked, then_marked}
use Rattle.vx_group.proofs.MissLemmas.{narrows_reads}
use Rattle.vx_group.proofs.Standing.{apart_of_core}
use Rattle.vx_group.proofs.TrustLemmas.{err_from, ok_from}
use Rattle.vx_group.proofs.finishing.renew.Goals as goal
use Rattle.vx_group.proofs.LoseLemmas.{but_parts}

pub mend_volumes-requires-clause-on : goal.mend_volumes-requires-clause-on
mend_volumes-requires-clause-on g c = λ v lt.
    active_volumes c.settle_headers.new.core.config c.args.core.now.config c.settle_headers.ensures.volumes v (source_at c.args.sources.now v) ∙ c.requires.on v (let same = ap length c.settle_headers.ensures.volumes in omega (arith, same, lt))

pub returns-in-Err-clause-renews : goal.returns-in-Err-clause-renews
returns-in-Err-clause-renews g c = (
  narrows_on c.args.core.now c.settle_headers.new.core (g.S.Shelf.meaning c.args.shelf.now) (g.S.Shelf.meaning c.settle_headers.new.shelf) (g.met.S.Shelf.lawful c.settle_headers.new.shelf) c.requires.stands c.settle_headers.ensures.stands c.settle_headers.ensures.narrows,
  inl (subst (λ (no : No). DeviceCause (g.S.Shelf.meaning c.args.shelf.now) (g.S.Shelf.meaning c.settle_headers.new.shelf) no) (sym c.refusal.ensures)
      (blamed_cause (Unit {0}) (g.S.Shelf.meaning c.args.shelf.now) (g.S.Shelf.meaning c.settle_headers.new.shelf) c.in-Err.error c.in-Err.ensures.cause)),
)

pub returns-in-Err-mend_volumes-clause-renews : goal.returns-in-Err-mend_volumes-clause-renews
returns-in-Err-mend_volumes-clause-renews g c = (
  stopped_on c.args.core.now c.settle_headers.new.core c.mend_volumes.new.core c.mend_volumes.new.core c.args.stopped.now c.args.sources.now c.args.logs.now (g.S.Shelf.meaning c.args.shelf.now) (g.S.Shelf.meaning c.settle_headers.new.shelf) (g.S.Shelf.meaning c.mend_volumes.new.shelf) (g.S.Shelf.meaning c.mend_volumes.new.shelf)
      (g.met.S.Shelf.lawful c.settle_headers.new.shelf) c.requires.stands c.settle_headers.ensures.stands c.settle_headers.ensures.narrows c.in-Err-mend_volumes.ensures.mended,
  inl (cause_before (g.S.Shelf.meaning c.args.shelf.now) (g.S.Shelf.meaning c.settle_headers.new.shelf) (g.S.Shelf.meaning c.mend_volumes.new.shelf) c.settle_headers.ensures.narrows.acts.disk_faults _
      (subst (λ (no : No). DeviceCause (g.S.Shelf.meaning c.settle_headers.new.shelf) (g.S.Shelf.meaning c.mend_volumes.new.shelf) no) (sym c.refusal-in-Err-mend_volumes.ensures)
      (blamed_cause (Unit {0}) (g.S.Shelf.meaning c.settle_headers.new.shelf) (g.S.Shelf.meaning c.mend_volumes.new.shelf) c.in-Err-mend_volumes.error c.in-Err-mend_volumes.ensures.cause))),
)

pub returns-clause-renews : goal.returns-clause-renews
returns-clause-renews g c =
    renew_all c.args.core.now c.settle_headers.new.core c.mend_volumes.new.core c.commit_whole.new.core c.args.stopped.now c.args.sources.now c.args.logs.now (g.S.Shelf.meaning c.args.shelf.now) (g.S.Shelf.meaning c.settle_headers.new.shelf) (g.S.Shelf.meaning c.mend_volumes.new.shelf) (g.S.Shelf.meaning c.commit_whole.new.shelf)
    (g.met.S.Shelf.lawful c.settle_headers.new.shelf) c.requires.stands c.settle_headers.ensures.stands c.settle_headers.ensures.narrows c.settle_headers.ensures.volumes c.settle_headers.ensures.serial c.in-Ok.ensures.still c.settle_headers.ensures.failing (but_parts c.args.core.now.config c.settle_headers.new.core.config c.settle_headers.ensures.same) c.in-Ok.ensures.cause c.in-Ok-mend_volumes.ensures.mended
    c.commit_whole.result c.requires.more c.requires.on c.commit_whole.ensures.commits

pub mend_volumes-requires-clause-tell : goal.mend_volumes-requires-clause-tell
mend_volumes-requires-clause-tell g c =
    marks_later c.args.core.now.config c.settle_headers.new.core.config (g.S.Shelf.meaning c.args.shelf.now) (g.S.Shelf.meaning c.settle_headers.new.shelf) c.settle_headers.ensures.volumes (apart_of_core c.settle_headers.new.core (g.S.Shelf.meaning c.settle_headers.new.shelf) c.settle_headers.ensures.stands).above
    (narrows_reads c.args.core.now c.settle_headers.new.core (g.S.Shelf.meaning c.args.shelf.now) (g.S.Shelf.meaning c.settle_headers.new.shelf) c.settle_headers.ensures.narrows c.in-Ok.ensures.cause) c.args.stopped.now c.args.logs.now c.requires.tell

pub returns-in-Err-clause-only : goal.returns-in-Err-clause-only
returns-in-Err-clause-only g c = (none_marked c.args.core.now.config c.args.stopped.now c.args.logs.now (Sees c.args.core.now.config (Member c.args.core.now.good (g.S.Shelf.meaning c.args.shelf.now)) (g.S.Shelf.meaning c.args.shelf.now)) (g.S.Shelf.meaning c.args.shelf.now) (g.S.Shelf.meaning c.settle_headers.new.shelf) c.settle_headers.ensures.narrows.acts)

pub returns-in-Err-mend_volumes-clause-only : goal.returns-in-Err-mend_volumes-clause-only
returns-in-Err-mend_volumes-clause-only g c =
    (then_marked c.args.core.now.config c.settle_headers.new.core.config c.args.stopped.now c.args.logs.now c.settle_headers.ensures.narrows.shape c.settle_headers.ensures.narrows.on (g.S.Shelf.meaning c.args.shelf.now) (g.S.Shelf.meaning c.settle_headers.new.shelf) (g.S.Shelf.meaning c.mend_volumes.new.shelf) (none_marked c.args.core.now.config c.args.stopped.now c.args.logs.now (Sees c.args.core.now.config (Member c.args.core.now.good (g.S.Shelf.meaning c.args.shelf.now)) (g.S.Shelf.meaning c.args.shelf.now)) (g.S.Shelf.meaning c.args.shelf.now) (g.S.Shelf.meaning c.settle_headers.new.shelf) c.settle_headers.ensures.narrows.acts) c.mend_volumes.ensures.only)

pub returns-clause-only : goal.returns-clause-only
returns-clause-only g c =
    then_marked c.args.core.now.config c.args.core.now.config c.args.stopped.now c.args.logs.now (same_shape c.args.core.now.config) (λ w p is. is) (g.S.Shelf.meaning c.args.shelf.now) (g.S.Shelf.meaning c.mend_volumes.new.shelf) (g.S.Shelf.meaning c.commit_whole.new.shelf)
    (then_marked c.args.core.now.config c.settle_headers.new.core.config c.args.stopped.now c.args.logs.now c.settle_headers.ensures.narrows.shape c.settle_headers.ensures.narrows.on (g.S.Shelf.meaning c.args.shelf.now) (g.S.Shelf.meaning c.settle_headers.new.shelf) (g.S.Shelf.meaning c.mend_volumes.new.shelf) (none_marked c.args.core.now.config c.args.stopped.now c.args.logs.now (Sees c.args.core.now.config (Member c.args.core.now.good (g.S.Shelf.meaning c.args.shelf.now)) (g.S.Shelf.meaning c.args.shelf.now)) (g.S.Shelf.meaning c.args.shelf.now) (g.S.Shelf.meaning c.settle_headers.new.shelf) c.settle_headers.ensures.narrows.acts) c.mend_volumes.ensures.only)
    (none_marked c.args.core.now.config c.args.stopped.now c.args.logs.now AnyImage (g.S.Shelf.meaning c.mend_volumes.new.shelf) (g.S.Shelf.meaning c.commit_whole.new.shelf) c.commit_whole.ensures.acts)

pub returns-in-Err-clause-agreed : goal.returns-in-Err-clause-agreed
returns-in-Err-clause-agreed g c = λ is. c.settle_headers.ensures.agreed ∙ c.requires.stands.trusts.both is

pub returns-in-Err-mend_volumes-clause-agreed : goal.returns-in-Err-mend_volumes-clause-agreed
returns-in-Err-mend_volumes-clause-agreed g c = λ is. c.in-Err-mend_volumes.ensures.agreed (c.settle_headers.ensures.trust ∙ is)

pub returns-clause-trust : goal.returns-clause-trust
returns-clause-trust g c = ok_from c.commit_whole.result (λ keeps is. keeps (c.in-Ok-mend_volumes.ensures.mended.trust (c.settle_headers.ensures.trust ∙ is))) c.commit_whole.ensures.trust

pub returns-clause-agreed : goal.returns-clause-agreed
returns-clause-agreed g c = err_from c.commit_whole.result (λ keeps is. keeps (c.in-Ok-mend_volumes.ensures.mended.trust (c.settle_headers.ensures.trust ∙ is))) c.commit_whole.ensures.agreed
