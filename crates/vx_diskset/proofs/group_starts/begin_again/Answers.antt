-- `begin_again`: a group on the disks on which one was begun before.
use Rattle.std.proofs.Common.{subst, sym}
use Rattle.vx_watched.specs.Since.{CalledSince}
use Rattle.vx_watched.proofs.SinceLemmas.{since_none}
use Rattle.vx_grouped.specs.Begins.{BeginsGroup, CanBegin}
use Rattle.vx_grouped.specs.GroupSites.{site_disks, site_below}
use Rattle.vx_diskset.specs.GroupCalls.{AtSite, AtPlain}
use Rattle.vx_diskset.proofs.GroupBegun.{marked_only}
use Rattle.vx_watched.specs.Traces.{TellsLess}
use Rattle.vx_diskset.proofs.group_starts.begin_again.Goals as goal

pub returns-in-Marked-clause-begun : goal.returns-in-Marked-clause-begun
returns-in-Marked-clause-begun g c = λ n stands state can. (
  subst (λ s. AtPlain (λ e. BeginsGroup c.args.site n (site_disks s) e c.begin_on.result.1) c.begin_on.result.0) (sym c.in-Marked.is)
      (c.begin_on.ensures.begun n (subst (λ s. CanBegin n (site_disks s)) c.in-Marked.is can)),
  c.begin_on.ensures.cut,
)

pub returns-in-Marked-clause-since : goal.returns-in-Marked-clause-since
returns-in-Marked-clause-since g c = subst (λ s. AtSite (λ e. CalledSince (site_disks s) (site_disks e)) c.begin_on.result.0) (sym c.in-Marked.is) c.begin_on.ensures.since

pub returns-in_default-clause-begun : goal.returns-in_default-clause-begun
returns-in_default-clause-begun g c = λ n stands state can. marked_only n c.args.marked stands state (λ rack is. c.in_default.not-Marked rack is)

pub returns-in_default-clause-since : goal.returns-in_default-clause-since
returns-in_default-clause-since g c = since_none (site_disks c.args.marked)

pub returns-in-Marked-clause-told : goal.returns-in-Marked-clause-told
returns-in-Marked-clause-told g c = subst (λ s. AtSite (λ e. TellsLess (site_below s) (site_below e)) c.begin_on.result.0) (sym c.in-Marked.is) c.begin_on.ensures.told

pub returns-in_default-clause-told : goal.returns-in_default-clause-told
returns-in_default-clause-told g c = λ told. told
