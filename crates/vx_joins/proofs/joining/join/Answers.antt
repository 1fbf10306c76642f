-- A change of the line at the disks of any site.
use Rattle.std.proofs.Common.{◌∙◌, sym, subst, refl}
use Rattle.vx_model.specs.declared.no.No.TheVariants.{Role}
use Rattle.vx_events.specs.declared.said.Said.TheVariants.{Refused}
use Rattle.vx_diskset.specs.Asked.{HeadUnder, LeavesFuse}
use Rattle.vx_diskset.specs.Burning.{NoMore}
use Rattle.vx_diskset.specs.DiskSets.{Later}
use Rattle.vx_diskset.specs.Keeps.{done_by}
use Rattle.vx_diskset.specs.Stands.{SiteStands}
use Rattle.vx_diskset.proofs.CallsBurn.{called_still}
use Rattle.vx_diskset.proofs.HeadCalls.{head_still}
use Rattle.vx_joins.specs.Joins.{JoinedAt}
use Rattle.vx_joins.proofs.JoinCall.{later_self, never_joins}
use Rattle.vx_joins.proofs.joining.join.Goals as goal

pub returns-in-Up-clause-joined : goal.returns-in-Up-clause-joined
returns-in-Up-clause-joined g c = λ beside a p n stands can is.
    let here = sym c.replace.ensures.value ∙ c.in-Up.is in
    subst (λ e. JoinedAt beside a p n e c.join_up-after.result.0 c.join_up-after.result.1) (sym here)
    (c.join_up-after.ensures.joined beside a p n (subst (λ e. SiteStands beside n e) here stands) can is)

pub returns-in-Up-clause-called : goal.returns-in-Up-clause-called
returns-in-Up-clause-called g c = λ beside n stands.
    let here = sym c.replace.ensures.value ∙ c.in-Up.is in
    subst (λ e. LeavesFuse NoMore (done_by c.join_up-after.result.1) e c.join_up-after.result.0) (sym here)
    (c.join_up-after.ensures.called beside n (subst (λ e. SiteStands beside n e) here stands))

pub returns-in-Up-clause-headed : goal.returns-in-Up-clause-headed
returns-in-Up-clause-headed g c = λ beside n stands can.
    let here = sym c.replace.ensures.value ∙ c.in-Up.is in
    subst (λ e. HeadUnder 2 (done_by c.join_up-after.result.1) e c.join_up-after.result.0) (sym here)
    (c.join_up-after.ensures.headed beside n (subst (λ e. SiteStands beside n e) here stands) can)

pub returns-in-Up-clause-later : goal.returns-in-Up-clause-later
returns-in-Up-clause-later g c = subst (λ e. Later e c.join_up-after.result.0) (sym (sym c.replace.ensures.value ∙ c.in-Up.is)) c.join_up-after.ensures.later

pub returns-in_default : goal.returns-in_default
returns-in_default g c =
    let same = sym c.replace.ensures.value in
    record {
      joined = λ beside a p n stands can is. never_joins n c.args.disks.now (λ rvg e. c.in_default.not-Up rvg (c.replace.ensures.value ∙ e)) stands can;
      called = λ beside n stands. subst (λ e. LeavesFuse NoMore (Refused Role) c.args.disks.now e) same (called_still NoMore Role c.args.disks.now refl);
      headed = λ beside n stands can. subst (λ e. HeadUnder 2 (Refused Role) c.args.disks.now e) same (head_still 2 Role c.args.disks.now refl);
      later = subst (λ e. Later c.args.disks.now e) same (later_self c.args.disks.now);
    }
