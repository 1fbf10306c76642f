-- A replicated volume group that is made over a group that is up, whatever is answered.
use Rattle.std.proofs.Common.{ℕ, subst}
use Rattle.std.specs.Prelude.{Contains, IfErr, OnOk}
use Rattle.vx_disk.specs.Causes.{DeviceCause, refusal_of}
use Rattle.vx_ground.specs.Lifted.{laid_volumes}
use Rattle.vx_ground.specs.Rewrites.{OneRests}
use Rattle.vx_grouped.specs.GroupSites.{laid_disks, site_disks}
use Rattle.vx_model.specs.States.{first_state}
use Rattle.vx_diskset.proofs.MakeStepping.{alone_as, made_after, may_then, refused_after, refused_rewritten}
use Rattle.vx_diskset.proofs.OverMaking.{large_then, placed_then, since_both}
use Rattle.vx_diskset.proofs.over_group.make_over.Goals as goal

pub rewrite_over-laid-requires-clause-may : goal.rewrite_over-laid-requires-clause-may
rewrite_over-laid-requires-clause-may g c = λ κs lives. c.requires.may

pub log_named-requires-clause-placed : goal.log_named-requires-clause-placed
log_named-requires-clause-placed g c = λ κs lives. placed_then c.args.laid c.args.units.now c.requires.may (laid_volumes c.rewrite_over-laid.result.0) c.rewrite_over-laid.ensures.does.goes.units c.rewrite_over-laid.ensures.does.goes.size

pub log_named-requires-clause-large : goal.log_named-requires-clause-large
log_named-requires-clause-large g c = λ κs lives. large_then c.args.laid c.args.units.now c.requires.may (laid_volumes c.rewrite_over-laid.result.0) c.rewrite_over-laid.ensures.does.goes.units c.rewrite_over-laid.ensures.does.goes.size

pub log_named-requires-clause-may : goal.log_named-requires-clause-may
log_named-requires-clause-may g c = λ κs lives. may_then c.args.units.now c.args.laid c.rewrite_over-laid.result.0 c.rewrite_over-laid.ensures.does.goes.units c.rewrite_over-laid.ensures.does.goes.size c.requires.may

pub returns-in-Ok-clause-sound : goal.returns-in-Ok-clause-sound
returns-in-Ok-clause-sound g c = c.log_named.ensures.sound

pub returns-in-Ok-clause-since : goal.returns-in-Ok-clause-since
returns-in-Ok-clause-since g c = since_both (laid_disks c.args.laid) (laid_disks c.rewrite_over-laid.result.0) (site_disks c.log_named.result.0) c.rewrite_over-laid.ensures.since c.log_named.ensures.since

pub returns-in-Ok-clause-told : goal.returns-in-Ok-clause-told
returns-in-Ok-clause-told g c = λ told. c.rewrite_over-laid.ensures.told (c.log_named.ensures.told told)

pub returns-in-Ok-clause-calm : goal.returns-in-Ok-clause-calm
returns-in-Ok-clause-calm g c = c.log_named.ensures.calm

pub returns-in-Ok-clause-made : goal.returns-in-Ok-clause-made
returns-in-Ok-clause-made g c =
    made_after c.args.units.now (first_state c.args.site) c.args.laid c.rewrite_over-laid.result.0 c.log_named.result.0 c.log_named.result.1
    (record { ground = c.rewrite_over-laid.ensures.ground; since = c.rewrite_over-laid.ensures.since; told = c.rewrite_over-laid.ensures.told }) c.rewrite_over-laid.ensures.does.goes
    (subst (λ r. OnOk r ((v : ℕ) → Contains c.args.units.now.vols v → OneRests v (laid_volumes c.rewrite_over-laid.result.0))) c.in-Ok.is c.rewrite_over-laid.ensures.does.one)
    (placed_then c.args.laid c.args.units.now c.requires.may (laid_volumes c.rewrite_over-laid.result.0) c.rewrite_over-laid.ensures.does.goes.units c.rewrite_over-laid.ensures.does.goes.size) c.log_named.ensures.logged

pub returns-in-Ok-clause-refused : goal.returns-in-Ok-clause-refused
returns-in-Ok-clause-refused g c =
    refused_after c.args.units.now c.args.laid c.rewrite_over-laid.result.0 c.log_named.result.0 c.log_named.result.1
    (record { ground = c.rewrite_over-laid.ensures.ground; since = c.rewrite_over-laid.ensures.since; told = c.rewrite_over-laid.ensures.told })
    (alone_as c.args.units.now (laid_volumes c.args.laid) (laid_volumes c.rewrite_over-laid.result.0) c.rewrite_over-laid.ensures.does.goes) c.log_named.ensures.refused

pub returns-in-Err-clause-sound : goal.returns-in-Err-clause-sound
returns-in-Err-clause-sound g c = tt

pub returns-in-Err-clause-since : goal.returns-in-Err-clause-since
returns-in-Err-clause-since g c = since_both (laid_disks c.args.laid) (laid_disks c.rewrite_over-laid.result.0) (site_disks c.stays-below.result.0) c.rewrite_over-laid.ensures.since c.stays-below.ensures.since

pub returns-in-Err-clause-told : goal.returns-in-Err-clause-told
returns-in-Err-clause-told g c = λ told. c.rewrite_over-laid.ensures.told (c.stays-below.ensures.told told)

pub returns-in-Err-clause-calm : goal.returns-in-Err-clause-calm
returns-in-Err-clause-calm g c = c.stays-below.ensures.calm

pub returns-in-Err-clause-made : goal.returns-in-Err-clause-made
returns-in-Err-clause-made g c = tt

pub returns-in-Err-clause-refused : goal.returns-in-Err-clause-refused
returns-in-Err-clause-refused g c =
    refused_rewritten c.args.units.now c.args.laid c.rewrite_over-laid.result.0 c.in-Err.error c.refusal.result c.stays-below.result.0 c.stays-below.result.1 c.refusal.ensures
    (record { ground = c.rewrite_over-laid.ensures.ground; since = c.rewrite_over-laid.ensures.since; told = c.rewrite_over-laid.ensures.told }) c.rewrite_over-laid.ensures.does.goes
    (subst (λ r. IfErr r (λ e. DeviceCause (laid_volumes c.args.laid) (laid_volumes c.rewrite_over-laid.result.0) (refusal_of e))) c.in-Err.is c.rewrite_over-laid.ensures.does.cause) c.stays-below.ensures.stays
