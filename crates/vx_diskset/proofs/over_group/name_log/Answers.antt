-- The commit that names a replicated volume group.
use Rattle.std.proofs.Common.{IsTrue, refl, subst}
use Rattle.std.specs.Prelude.{OnOk}
use Rattle.vx_grouped.specs.GroupSites.{laid_disks, site_disks}
use Rattle.vx_diskset.proofs.MakeStepping.{named_on, refused_name}
use Rattle.vx_diskset.proofs.OverMaking.{since_both, sound_named}
use Rattle.vx_diskset.proofs.StaysUp.{not_true}
use Rattle.vx_diskset.proofs.over_group.name_log.Goals as goal

pub returns-in-Ok-clause-sound : goal.returns-in-Ok-clause-sound
returns-in-Ok-clause-sound g c = sound_named c.args.core c.args.laid c.name_over-laid.result.0 c.name_over-laid.ensures.names.goes c.requires.sound

pub returns-in-Ok-clause-since : goal.returns-in-Ok-clause-since
returns-in-Ok-clause-since g c = c.name_over-laid.ensures.since

pub returns-in-Ok-clause-told : goal.returns-in-Ok-clause-told
returns-in-Ok-clause-told g c = c.name_over-laid.ensures.told

pub returns-in-Ok-clause-calm : goal.returns-in-Ok-clause-calm
returns-in-Ok-clause-calm g c = not_true (laid_disks c.name_over-laid.result.0).down (subst (λ r. OnOk r (IsTrue (laid_disks c.name_over-laid.result.0).down → ⊥)) c.in-Ok.is c.name_over-laid.ensures.names.up)

pub returns-in-Ok-clause-named : goal.returns-in-Ok-clause-named
returns-in-Ok-clause-named g c =
    let is_rack = (g.met.R.Rack g.world.𝓛 g.world.𝓜 g.world.𝓡 ((λ s x. x), (λ x. x), (λ x. x), λ x. x)).rack in
    let up = not_true (laid_disks c.name_over-laid.result.0).down (subst (λ r. OnOk r (IsTrue (laid_disks c.name_over-laid.result.0).down → ⊥)) c.in-Ok.is c.name_over-laid.ensures.names.up) in
    (refl, named_on is_rack c.args.units.now c.args.laid c.name_over-laid.result.0 c.name_over-laid.result.1 c.name_over-laid.ensures.names c.name_over-laid.ensures.since c.name_over-laid.ensures.told tt c.in-Ok.is up)

pub returns-in-Ok-clause-refused : goal.returns-in-Ok-clause-refused
returns-in-Ok-clause-refused g c = tt

pub returns-in-Err-clause-sound : goal.returns-in-Err-clause-sound
returns-in-Err-clause-sound g c = tt

pub returns-in-Err-clause-since : goal.returns-in-Err-clause-since
returns-in-Err-clause-since g c = since_both (laid_disks c.args.laid) (laid_disks c.name_over-laid.result.0) (site_disks c.stays-below.result.0) c.name_over-laid.ensures.since c.stays-below.ensures.since

pub returns-in-Err-clause-told : goal.returns-in-Err-clause-told
returns-in-Err-clause-told g c = λ told. c.name_over-laid.ensures.told (c.stays-below.ensures.told told)

pub returns-in-Err-clause-calm : goal.returns-in-Err-clause-calm
returns-in-Err-clause-calm g c = c.stays-below.ensures.calm

pub returns-in-Err-clause-named : goal.returns-in-Err-clause-named
returns-in-Err-clause-named g c = tt

pub returns-in-Err-clause-refused : goal.returns-in-Err-clause-refused
returns-in-Err-clause-refused g c =
    let is_rack = (g.met.R.Rack g.world.𝓛 g.world.𝓜 g.world.𝓡 ((λ s x. x), (λ x. x), (λ x. x), λ x. x)).rack in
    refused_name is_rack c.args.units.now c.args.laid c.name_over-laid.result.0 c.name_over-laid.result.1 c.name_over-laid.ensures.names c.name_over-laid.ensures.since c.name_over-laid.ensures.told c.in-Err.why c.in-Err.is c.requires.may
    c.stays-below.result.0 c.stays-below.result.1 c.stays-below.ensures.stays
