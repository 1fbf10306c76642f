-- The log of a replicated volume group is begun, and then it is named.
use Rattle.std.proofs.Common.{subst}
use Rattle.vx_model.specs.States.{first_state}
use Rattle.vx_ground.specs.Lifted.{laid_volumes}
use Rattle.vx_grouped.specs.GroupSites.{laid_disks, site_disks}
use Rattle.vx_diskset.specs.Works.{DoesMake}
use Rattle.vx_diskset.proofs.MakeStepping.{alone_log, logged_after, may_then, refused_after, refused_log}
use Rattle.vx_diskset.proofs.OverMaking.{since_both}
use Rattle.vx_diskset.proofs.over_group.log_named.Goals as goal

pub log_over-laid-requires-clause-placed : goal.log_over-laid-requires-clause-placed
log_over-laid-requires-clause-placed g c = λ κs lives. c.requires.placed

pub log_over-laid-requires-clause-large : goal.log_over-laid-requires-clause-large
log_over-laid-requires-clause-large g c = λ κs lives. c.requires.large

pub name_log-requires-clause-sound : goal.name_log-requires-clause-sound
name_log-requires-clause-sound g c = λ κs lives.
    let made = subst (λ r. DoesMake c.args.units.now (first_state c.args.site) (laid_volumes c.args.laid) (laid_volumes c.log_over-laid.result.0) r) c.in-Ok.is c.log_over-laid.ensures.does in
    made.1

pub name_log-requires-clause-may : goal.name_log-requires-clause-may
name_log-requires-clause-may g c = λ κs lives.
    let made = subst (λ r. DoesMake c.args.units.now (first_state c.args.site) (laid_volumes c.args.laid) (laid_volumes c.log_over-laid.result.0) r) c.in-Ok.is c.log_over-laid.ensures.does in
    may_then c.args.units.now c.args.laid c.log_over-laid.result.0 made.0.units made.0.size c.requires.may

pub returns-in-Ok-clause-sound : goal.returns-in-Ok-clause-sound
returns-in-Ok-clause-sound g c = c.name_log.ensures.sound

pub returns-in-Ok-clause-since : goal.returns-in-Ok-clause-since
returns-in-Ok-clause-since g c = since_both (laid_disks c.args.laid) (laid_disks c.log_over-laid.result.0) (site_disks c.name_log.result.0) c.log_over-laid.ensures.since c.name_log.ensures.since

pub returns-in-Ok-clause-told : goal.returns-in-Ok-clause-told
returns-in-Ok-clause-told g c = λ told. c.log_over-laid.ensures.told (c.name_log.ensures.told told)

pub returns-in-Ok-clause-calm : goal.returns-in-Ok-clause-calm
returns-in-Ok-clause-calm g c = c.name_log.ensures.calm

pub returns-in-Ok-clause-logged : goal.returns-in-Ok-clause-logged
returns-in-Ok-clause-logged g c =
    let made = subst (λ r. DoesMake c.args.units.now (first_state c.args.site) (laid_volumes c.args.laid) (laid_volumes c.log_over-laid.result.0) r) c.in-Ok.is c.log_over-laid.ensures.does in
    logged_after c.args.units.now (first_state c.args.site) c.args.laid c.log_over-laid.result.0 c.name_log.result.0 c.in-Ok.core c.name_log.result.1
    (record { ground = c.log_over-laid.ensures.ground; since = c.log_over-laid.ensures.since; told = c.log_over-laid.ensures.told }) made.0 made.2 made.4 c.name_log.ensures.named

pub returns-in-Ok-clause-refused : goal.returns-in-Ok-clause-refused
returns-in-Ok-clause-refused g c =
    let made = subst (λ r. DoesMake c.args.units.now (first_state c.args.site) (laid_volumes c.args.laid) (laid_volumes c.log_over-laid.result.0) r) c.in-Ok.is c.log_over-laid.ensures.does in
    refused_after c.args.units.now c.args.laid c.log_over-laid.result.0 c.name_log.result.0 c.name_log.result.1
    (record { ground = c.log_over-laid.ensures.ground; since = c.log_over-laid.ensures.since; told = c.log_over-laid.ensures.told }) (alone_log c.args.units.now (laid_volumes c.args.laid) (laid_volumes c.log_over-laid.result.0) made.0) c.name_log.ensures.refused

pub returns-in-Err-clause-sound : goal.returns-in-Err-clause-sound
returns-in-Err-clause-sound g c = tt

pub returns-in-Err-clause-since : goal.returns-in-Err-clause-since
returns-in-Err-clause-since g c = since_both (laid_disks c.args.laid) (laid_disks c.log_over-laid.result.0) (site_disks c.stays-below.result.0) c.log_over-laid.ensures.since c.stays-below.ensures.since

pub returns-in-Err-clause-told : goal.returns-in-Err-clause-told
returns-in-Err-clause-told g c = λ told. c.log_over-laid.ensures.told (c.stays-below.ensures.told told)

pub returns-in-Err-clause-calm : goal.returns-in-Err-clause-calm
returns-in-Err-clause-calm g c = c.stays-below.ensures.calm

pub returns-in-Err-clause-logged : goal.returns-in-Err-clause-logged
returns-in-Err-clause-logged g c = tt

pub returns-in-Err-clause-refused : goal.returns-in-Err-clause-refused
returns-in-Err-clause-refused g c =
    let unmade = subst (λ r. DoesMake c.args.units.now (first_state c.args.site) (laid_volumes c.args.laid) (laid_volumes c.log_over-laid.result.0) r) c.in-Err.is c.log_over-laid.ensures.does in
    refused_log c.args.units.now c.args.laid c.log_over-laid.result.0 c.in-Err.why c.stays-below.result.0 c.stays-below.result.1
    (record { ground = c.log_over-laid.ensures.ground; since = c.log_over-laid.ensures.since; told = c.log_over-laid.ensures.told }) unmade.0 unmade.1 c.stays-below.ensures.stays
