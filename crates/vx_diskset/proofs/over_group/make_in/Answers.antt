-- The disks of a site on which a replicated volume group is made.
use Rattle.std.proofs.Common.{◌≡◌, ◌∙◌, true, false, inl, inr, refl, ap, subst, sym}
use Rattle.std.specs.Prelude.{IfErr, IfOk}
use Rattle.vx_config.specs.Checks.{is_group}
use Rattle.vx_group.specs.declared.group_core.GroupCore.{GroupCore}
use Rattle.vx_watched.specs.Since.{CalledSince}
use Rattle.vx_watched.specs.Traces.{TellsLess}
use Rattle.vx_watched.proofs.SinceLemmas.{since_none}
use Rattle.vx_grouped.specs.GroupSites.{site_below, site_disks}
use Rattle.vx_diskset.specs.Aboves.{AboveStays}
use Rattle.vx_model.specs.States.{first_state}
use Rattle.vx_diskset.specs.MakeSteps.{MadeOn, RefusedOn}
use Rattle.vx_diskset.specs.Makings.{UpOrFell}
use Rattle.vx_diskset.specs.declared.above.Above.TheVariants.{Origin}
use Rattle.vx_diskset.proofs.MakeSites.{make_done, make_refused, may_here, never_up}
use Rattle.vx_diskset.proofs.OverMaking.{since_in, told_in}
use Rattle.vx_diskset.proofs.over_group.make_in.Goals as goal

pub make_over-below-requires-clause-may : goal.make_over-below-requires-clause-may
make_over-below-requires-clause-may g c = λ κs lives. ap (λ (k : GroupCore). is_group k.inner.config.volumes c.args.units.now) c.can_name-laid.ensures.core ∙ sym c.can_name-laid.ensures.is ∙ c.if-not-may.false

pub of-requires-after_bounds : goal.of-requires-after_bounds
of-requires-after_bounds g c = λ κs lives. subst (λ r. IfOk r (λ k. AboveStays (Origin k) c.make_over-below.result.0)) c.in-Ok.is c.make_over-below.ensures.sound

pub returns-then-not-may-clause-made : goal.returns-then-not-may-clause-made
returns-then-not-may-clause-made g c = λ n note config noted up first has none may.
    let is_rack = (g.met.R.Rack g.world.𝓛 g.world.𝓜 g.world.𝓡 ((λ s x. x), (λ x. x), (λ x. x), λ x. x)).rack in
    let lawful = (g.met.R.Shelf g.world.𝓛 g.world.𝓜 g.world.𝓡 ((λ s x. x), (λ x. x), (λ x. x), λ x. x)).lawful in
    let here = may_here is_rack lawful c.args.site n note c.args.units.now c.args.group c.in-Up.laid c.can_name-laid.result.0 c.in-Up.is c.can_name-laid.ensures.core c.can_name-laid.ensures.shelf config noted has may in
    absurd (let clash : true ≡ false = sym here ∙ ap (λ (k : GroupCore). is_group k.inner.config.volumes c.args.units.now) c.can_name-laid.ensures.core ∙ sym c.can_name-laid.ensures.is ∙ c.if-not-may.true in cc)

pub returns-then-not-may-clause-since : goal.returns-then-not-may-clause-since
returns-then-not-may-clause-since g c = since_in c.args.group.site c.in-Up.laid c.can_name-laid.result.0 (c.stays-below.result.0) c.in-Up.is c.can_name-laid.ensures.shelf c.stays-below.ensures.since

pub returns-then-not-may-clause-told : goal.returns-then-not-may-clause-told
returns-then-not-may-clause-told g c = told_in c.args.group.site c.in-Up.laid c.can_name-laid.result.0 (c.stays-below.result.0) c.in-Up.is c.can_name-laid.ensures.shelf (c.stays-below.ensures.told)

pub returns-then-not-may-clause-calm : goal.returns-then-not-may-clause-calm
returns-then-not-may-clause-calm g c = inr c.stays-below.ensures.calm

pub returns-in-Ok-clause-made : goal.returns-in-Ok-clause-made
returns-in-Ok-clause-made g c = λ n note config noted up first has none may.
    let is_rack = (g.met.R.Rack g.world.𝓛 g.world.𝓜 g.world.𝓡 ((λ s x. x), (λ x. x), (λ x. x), λ x. x)).rack in
    let lawful = (g.met.R.Shelf g.world.𝓛 g.world.𝓜 g.world.𝓡 ((λ s x. x), (λ x. x), (λ x. x), λ x. x)).lawful in
    let made = subst (λ r. IfOk r (λ k. MadeOn c.args.units.now (first_state c.args.site) c.can_name-laid.result.0 c.make_over-below.result.0 k)) c.in-Ok.is c.make_over-below.ensures.made in
    let sound = subst (λ r. IfOk r (λ k. AboveStays (Origin k) c.make_over-below.result.0)) c.in-Ok.is c.make_over-below.ensures.sound in
    make_done is_rack lawful c.args.site n note c.args.units.now c.args.group c.in-Up.laid c.can_name-laid.result.0 c.in-Up.is c.can_name-laid.ensures.core c.can_name-laid.ensures.shelf config noted has first may c.make_over-below.result.0 c.in-Ok.core made sound c.of.result c.of.ensures.site c.of.ensures.above c.of.ensures.cut

pub returns-in-Ok-clause-since : goal.returns-in-Ok-clause-since
returns-in-Ok-clause-since g c =
    subst (λ e. CalledSince (site_disks c.args.group.site) (site_disks e)) (sym c.of.ensures.site) (since_in c.args.group.site c.in-Up.laid c.can_name-laid.result.0 (c.make_over-below.result.0) c.in-Up.is c.can_name-laid.ensures.shelf (c.make_over-below.ensures.since))

pub returns-in-Ok-clause-told : goal.returns-in-Ok-clause-told
returns-in-Ok-clause-told g c =
    subst (λ e. TellsLess (site_below c.args.group.site) (site_below e)) (sym c.of.ensures.site) (told_in c.args.group.site c.in-Up.laid c.can_name-laid.result.0 (c.make_over-below.result.0) c.in-Up.is c.can_name-laid.ensures.shelf (c.make_over-below.ensures.told))

pub returns-in-Ok-clause-calm : goal.returns-in-Ok-clause-calm
returns-in-Ok-clause-calm g c = inr (subst (λ e. UpOrFell e) (sym c.of.ensures.site) c.make_over-below.ensures.calm)

pub returns-in-Err-clause-made : goal.returns-in-Err-clause-made
returns-in-Err-clause-made g c = λ n note config noted up first has none may.
    let is_rack = (g.met.R.Rack g.world.𝓛 g.world.𝓜 g.world.𝓡 ((λ s x. x), (λ x. x), (λ x. x), λ x. x)).rack in
    let lawful = (g.met.R.Shelf g.world.𝓛 g.world.𝓜 g.world.𝓡 ((λ s x. x), (λ x. x), (λ x. x), λ x. x)).lawful in
    let refused = subst (λ r. IfErr r (λ stop. RefusedOn c.args.units.now c.can_name-laid.result.0 c.make_over-below.result.0 stop)) c.in-Err.is c.make_over-below.ensures.refused in
    make_refused is_rack lawful c.args.site n note c.args.units.now c.args.group c.in-Up.laid c.can_name-laid.result.0 c.in-Up.is c.can_name-laid.ensures.core c.can_name-laid.ensures.shelf config noted has c.make_over-below.result.0 c.in-Err.stop refused

pub returns-in-Err-clause-since : goal.returns-in-Err-clause-since
returns-in-Err-clause-since g c = since_in c.args.group.site c.in-Up.laid c.can_name-laid.result.0 (c.make_over-below.result.0) c.in-Up.is c.can_name-laid.ensures.shelf (c.make_over-below.ensures.since)

pub returns-in-Err-clause-told : goal.returns-in-Err-clause-told
returns-in-Err-clause-told g c = told_in c.args.group.site c.in-Up.laid c.can_name-laid.result.0 (c.make_over-below.result.0) c.in-Up.is c.can_name-laid.ensures.shelf (c.make_over-below.ensures.told)

pub returns-in-Err-clause-calm : goal.returns-in-Err-clause-calm
returns-in-Err-clause-calm g c = inr c.make_over-below.ensures.calm

pub returns-in_default-clause-made : goal.returns-in_default-clause-made
returns-in_default-clause-made g c = λ n note config noted up first has none may. never_up c.args.group.site config (λ laid is. c.in_default.not-Up laid is) has

pub returns-in_default-clause-since : goal.returns-in_default-clause-since
returns-in_default-clause-since g c = since_none (site_disks c.args.group.site)

pub returns-in_default-clause-told : goal.returns-in_default-clause-told
returns-in_default-clause-told g c = λ told. told

pub returns-in_default-clause-calm : goal.returns-in_default-clause-calm
returns-in_default-clause-calm g c = inl refl
