-- The group behind a change of its line, with the room for updates, or down, or as it was.
use Rattle.std.proofs.Common.{sym, ◌∙◌}
use Rattle.std.specs.Prelude.{Ok, Err}
use Rattle.vx_diskset.specs.Burning.{NoMore}
use Rattle.vx_diskset.specs.DiskSets.{halted_at}
use Rattle.vx_diskset.specs.declared.disk_set.DiskSet.TheVariants.{Up}
use Rattle.vx_events.specs.declared.said.Said.TheVariants.{Done}
use Rattle.vx_history.specs.Events.{joined}
use Rattle.vx_history.specs.Steps.{worked}
use Rattle.vx_diskset.proofs.CallsBurn.{called_cut, done_called}
use Rattle.vx_diskset.proofs.HeadCalls.{head_called, head_cut, log_place}
use Rattle.vx_joins.specs.Joins.{joins_in_doubt, joined_anew}
use Rattle.vx_joins.proofs.JoinCall.{called_group, head_group, joined_off, joined_on, later_receives, receives_group}
use Rattle.vx_joins.proofs.JoinGroup.{none_wait}
use Rattle.vx_joins.proofs.joining.join_up.Goals as goal
use Rattle.vx_diskset.proofs.RawSets.{raw_sure}

pub together-requires : goal.together-requires
together-requires g c = none_wait c.join_group.new.rvg.core (g.R.Shelf.meaning c.join_group.new.rvg.shelf).size c.args.waiting c.requires.empty

pub returns-in-Ok-clause-joined : goal.returns-in-Ok-clause-joined
returns-in-Ok-clause-joined g c = λ beside a p n up can is.
    (receives_group (worked (joined a p n)) c.together.result c.join_group.new.rvg c.together.ensures.group (c.together.ensures.waiting ∙ c.requires.empty) (raw_sure (joined_anew beside a p n) (worked (joined a p n)) up.0.0) (c.in-Ok.ensures.joined beside a p n up.1 can is), tt)

pub returns-in-Ok-clause-called : goal.returns-in-Ok-clause-called
returns-in-Ok-clause-called g c = λ beside n up.
    called_group Done c.args.rvg c.join_group.new.rvg c.together.result c.together.ensures.group
    (done_called (Ok tt) c.args.rvg c.join_group.new.rvg up.1.up (c.in-Ok.ensures.off up.1.up) c.join_group.ensures.spends)

pub returns-in-Ok-clause-later : goal.returns-in-Ok-clause-later
returns-in-Ok-clause-later g c = later_receives c.args.rvg c.join_group.new.rvg c.together.result c.together.ensures.group c.join_group.ensures.later

pub returns-then-is_off-clause-joined : goal.returns-then-is_off-clause-joined
returns-then-is_off-clause-joined g c = λ beside a p n up can is.
    joined_off beside a p n c.args.rvg c.join_group.new.rvg c.crash.result c.in-Err.no up.0 (sym c.is_off.ensures ∙ c.if-is_off.true) (c.in-Err.ensures.joined beside a p n up.1 can is) (c.crash.ensures.cut (joins_in_doubt beside a p n 0) (halted_at n 0))

pub returns-then-is_off-clause-called : goal.returns-then-is_off-clause-called
returns-then-is_off-clause-called g c = λ beside n up.
    called_cut NoMore c.in-Err.no 0xffff_ffff_ffff_ffff (Up c.args.rvg) (Up c.join_group.new.rvg) c.crash.result (sym c.is_off.ensures ∙ c.if-is_off.true)
    (done_called (Err c.in-Err.no) c.args.rvg c.join_group.new.rvg up.1.up (c.in-Err.ensures.off up.1.up) c.join_group.ensures.spends) c.crash.ensures.stopped

pub returns-else-is_off-clause-joined : goal.returns-else-is_off-clause-joined
returns-else-is_off-clause-joined g c = λ beside a p n up can is.
    joined_on beside a p n c.args.rvg c.join_group.new.rvg c.in-Err.no up.0 (sym c.is_off.ensures ∙ c.if-is_off.false) (c.in-Err.ensures.joined beside a p n up.1 can is)

pub returns-else-is_off-clause-called : goal.returns-else-is_off-clause-called
returns-else-is_off-clause-called g c = λ beside n up.
    done_called (Err c.in-Err.no) c.args.rvg c.join_group.new.rvg up.1.up (c.in-Err.ensures.off up.1.up) c.join_group.ensures.spends

pub returns-in-Ok-clause-headed : goal.returns-in-Ok-clause-headed
returns-in-Ok-clause-headed g c = λ beside n up can.
    head_group c.args.rvg c.join_group.new.rvg c.together.result c.together.ensures.group
    (head_called 2 (Ok tt) c.args.rvg c.join_group.new.rvg (log_place c.args.rvg n up.0.0 up.1.units) up.1.up (c.in-Ok.ensures.off up.1.up) (c.in-Ok.ensures.calls beside n up.1 can) (c.join_group.ensures.short beside n up.1 can) c.in-Ok.ensures.works c.join_group.ensures.spends)

pub returns-then-is_off-clause-headed : goal.returns-then-is_off-clause-headed
returns-then-is_off-clause-headed g c = λ beside n up can.
    head_cut 2 c.in-Err.no 0xffff_ffff_ffff_ffff (Up c.args.rvg) (Up c.join_group.new.rvg) c.crash.result (sym c.is_off.ensures ∙ c.if-is_off.true)
    (head_called 2 (Err c.in-Err.no) c.args.rvg c.join_group.new.rvg (log_place c.args.rvg n up.0.0 up.1.units) up.1.up (c.in-Err.ensures.off up.1.up) tt (c.join_group.ensures.short beside n up.1 can) tt c.join_group.ensures.spends) c.crash.ensures.stopped

pub returns-else-is_off-clause-headed : goal.returns-else-is_off-clause-headed
returns-else-is_off-clause-headed g c = λ beside n up can.
    head_called 2 (Err c.in-Err.no) c.args.rvg c.join_group.new.rvg (log_place c.args.rvg n up.0.0 up.1.units) up.1.up (c.in-Err.ensures.off up.1.up) tt (c.join_group.ensures.short beside n up.1 can) tt c.join_group.ensures.spends
