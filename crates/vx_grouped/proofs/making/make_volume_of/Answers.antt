-- A volume that is made: what it leaves, and refusals of disks that are down behind it.
use Rattle.std.proofs.Common.{ℕ, ap, length, refl, sym, ◌-◌, ◌∙◌, ◌≡◌}
use Rattle.std.specs.Prelude.{nat_le, nat_lt, not}
use Rattle.std.specs.List.{list_any}
use Rattle.vx_config.specs.Table.{greatest}
use Rattle.vx_group.specs.Dets.{margin}
use Rattle.vx_group.specs.Holding.{wide}
use Rattle.vx_group.specs.Makes.{VolumeMade, has_name, is_shape, make_refusal}
use Rattle.vx_group.specs.Stands.{inner_meaning}
use Rattle.vx_group.proofs.CallLemmas.{not_down}
use Rattle.vx_model.specs.declared.limits.TheConstants.{MOST_PLEXES, MOST_VOLUMES}
use Rattle.vx_model.specs.declared.no.Counted.TheVariants.{Number, Plexes, Volumes}
use Rattle.vx_model.specs.declared.errors.Stop.TheVariants.{No as Refused}
use Rattle.vx_model.specs.declared.no.No.TheVariants as refusal
use Rattle.vx_grouped.proofs.AddedLemmas.{added_goes, err_one, made_by, made_leaves, make_not_down, refused_volumes, same_goes, stop_volumes, volume_cut, volume_up}
use Rattle.vx_grouped.proofs.KeepLemmas.{never_fell, same_at}
use Rattle.vx_grouped.proofs.BothLemmas.{still_by}
use Rattle.vx_grouped.proofs.VolumeLemmas.{none_go}
use Rattle.vx_loggroup.specs.LoggedVolumes.{is_alike}
use Rattle.vx_loggroup.proofs.FactLemmas.{from_logged}
use Rattle.vx_grouped.proofs.AddMapLemmas.{added_parts, none_parts, volumes_kept}
use Rattle.vx_grouped.specs.PlainMaps.{PartsStay, map_parts}
use Rattle.vx_grouped.proofs.StayPartLemmas.{quiet_unmoved, stay_left}
use Rattle.vx_grouped.proofs.making.make_volume_of.Goals as goal

pub returns-in-Ok-clause-leaves : goal.returns-in-Ok-clause-leaves
returns-in-Ok-clause-leaves g c = λ n note at.
    made_leaves n note c.args.name.now c.args.want.now c.args.group.now.core c.make_volume.new.self.core (g.S.Shelf.meaning c.args.group.now.shelf) (g.S.Shelf.meaning c.make_volume.new.self.shelf) at c.make_volume.new.self.stands.group
    (g.met.S.Shelf.lawful c.make_volume.new.self.shelf) c.make_volume.ensures.below c.make_volume.ensures.stays c.make_volume.ensures.finds c.in-Ok.vol c.in-Ok.ensures.held c.in-Ok.ensures.up c.in-Ok.ensures.trust
    (made_by (VolumeMade c.args.name.now c.args.want.now c.in-Ok.vol c.args.group.now.core.inner c.make_volume.new.self.core.inner (g.S.Shelf.meaning c.make_volume.new.self.shelf)) _ c.in-Ok.vol
    (make_refusal c.args.group.now.core.inner.config c.args.name.now c.args.want.now) refl c.in-Ok.ensures.ends (λ why is. (c.in-Ok.ensures.refused why is).0))

pub returns-then-is_down-clause-refused : goal.returns-then-is_down-clause-refused
returns-then-is_down-clause-refused g c = λ why is.
    absurd (never_fell g.S.Shelf.meaning c.args.group.now.shelf c.make_volume.new.self.shelf (c.make_volume.ensures.refused why is).2 c.requires.up (sym c.is_down.ensures ∙ c.if-is_down.true))

pub returns-then-is_down-clause-leaves : goal.returns-then-is_down-clause-leaves
returns-then-is_down-clause-leaves g c = λ n note at.
    volume_cut n note c.args.name.now c.args.want.now c.args.group.now.core c.make_volume.new.self.core (g.S.Shelf.meaning c.args.group.now.shelf) (g.S.Shelf.meaning c.make_volume.new.self.shelf) at c.make_volume.new.self.stands.group
    (g.met.S.Shelf.lawful c.make_volume.new.self.shelf) c.make_volume.ensures.below c.make_volume.ensures.stays c.make_volume.ensures.finds (make_refusal c.args.group.now.core.inner.config c.args.name.now c.args.want.now)
    (λ none. stop_volumes c.args.name.now c.args.want.now c.args.group.now.core.inner c.make_volume.new.self.core.inner (g.S.Shelf.meaning c.args.group.now.shelf) (g.S.Shelf.meaning c.make_volume.new.self.shelf) c.in-Err.stop (c.in-Err.ensures.ends none))
    (λ why is. never_fell g.S.Shelf.meaning c.args.group.now.shelf c.make_volume.new.self.shelf (c.make_volume.ensures.refused why is).2 c.requires.up) (sym c.is_down.ensures ∙ c.if-is_down.true)

pub returns-then-is_down-clause-ends : goal.returns-then-is_down-clause-ends
returns-then-is_down-clause-ends g c = λ none. (
  stop_volumes c.args.name.now c.args.want.now c.args.group.now.core.inner c.make_volume.new.self.core.inner (g.S.Shelf.meaning c.args.group.now.shelf) (g.S.Shelf.meaning c.make_volume.new.self.shelf) c.in-Err.stop (c.in-Err.ensures.ends none),
  sym c.is_down.ensures ∙ c.if-is_down.true,
)

pub returns-else-is_down-clause-leaves : goal.returns-else-is_down-clause-leaves
returns-else-is_down-clause-leaves g c = λ n note at.
    volume_up n note c.args.name.now c.args.want.now c.args.group.now.core c.make_volume.new.self.core (g.S.Shelf.meaning c.args.group.now.shelf) (g.S.Shelf.meaning c.make_volume.new.self.shelf) at c.make_volume.new.self.stands.group
    (g.met.S.Shelf.lawful c.make_volume.new.self.shelf) c.make_volume.ensures.below c.make_volume.ensures.stays c.make_volume.ensures.finds
    (not_down c.is_down.result (g.S.Shelf.meaning c.make_volume.new.self.shelf).down c.is_down.ensures c.if-is_down.false)
    ((c.make_volume.new.self.core ≡ c.args.group.now.core) × (c.make_volume.new.self.shelf ≡ c.args.group.now.shelf))
    (λ same. same_at g.S.Shelf.meaning n note c.args.group.now.core c.make_volume.new.self.core c.args.group.now.shelf c.make_volume.new.self.shelf same.0 same.1 at)
    c.in-Err.stop (make_refusal c.args.group.now.core.inner.config c.args.name.now c.args.want.now) c.in-Err.ensures.ends c.in-Err.ensures.unmoved
    (λ why is. let it = c.make_volume.ensures.refused why is in (
      err_one _ c.in-Err.stop (Refused why) refl (c.in-Err.ensures.refused why is).0,
      same_at g.S.Shelf.meaning n note c.args.group.now.core c.make_volume.new.self.core c.args.group.now.shelf c.make_volume.new.self.shelf it.1 it.2 at,
      ap (λ x. x.inner.config.volumes) it.1,
    ))
    (make_not_down (list_any (has_name c.args.name.now) c.args.group.now.core.inner.config.volumes) (nat_le MOST_VOLUMES (length c.args.group.now.core.inner.config.volumes)) (nat_lt MOST_PLEXES c.args.want.now.mirrors)
    (nat_lt (greatest - margin) c.args.group.now.core.inner.config.serial) (not (is_shape c.args.want.now)) _ _ _ _ _
    (λ is. let clash : refusal.Exists c.args.name.now ≡ refusal.Down = is in cc) (λ is. let clash : refusal.Limit Volumes MOST_VOLUMES ≡ refusal.Down = is in cc) (λ is. let clash : refusal.Limit Plexes MOST_PLEXES ≡ refusal.Down = is in cc)
    (λ is. let clash : refusal.Limit Number greatest ≡ refusal.Down = is in cc) (λ is. let clash : refusal.Size ≡ refusal.Down = is in cc))

pub returns-else-is_down-clause-still : goal.returns-else-is_down-clause-still
returns-else-is_down-clause-still g c = still_by ℕ ℕ c.in-Err.stop _ c.in-Err.ensures.unmoved

pub returns-in-Ok-clause-maps : goal.returns-in-Ok-clause-maps
returns-in-Ok-clause-maps g c = λ was now.
    let made =
    made_by (VolumeMade c.args.name.now c.args.want.now c.in-Ok.vol c.args.group.now.core.inner c.make_volume.new.self.core.inner (g.S.Shelf.meaning c.make_volume.new.self.shelf)) _ c.in-Ok.vol (make_refusal c.args.group.now.core.inner.config c.args.name.now c.args.want.now) refl c.in-Ok.ensures.ends
    (λ why is. (c.in-Ok.ensures.refused why is).0) in
    added_parts c.args.group.now.core c.make_volume.new.self.core c.args.group.now.logs.items c.make_volume.new.self.logs.items c.args.group.now.stopped c.make_volume.new.self.stopped c.args.group.now.alike c.make_volume.new.self.alike (g.S.Shelf.meaning c.args.group.now.shelf) (g.S.Shelf.meaning c.make_volume.new.self.shelf) was now
    (from_logged c.args.group.now.core c.args.group.now.logs.items c.args.group.now.alike c.args.group.now.stopped (g.S.Shelf.meaning c.args.group.now.shelf) c.args.group.now.stands) c.make_volume.new.self.stands.group c.make_volume.ensures.stays.shape c.make_volume.ensures.ends_maps c.make_volume.ensures.comes c.make_volume.ensures.moves c.make_volume.ensures.left
    c.make_volume.ensures.flags c.make_volume.ensures.stopped
    made.volume made.volumes (ap (λ (v : ℕ). is_alike c.make_volume.new.self.alike v) (sym made.number) ∙ c.in-Ok.ensures.alike)

pub returns-then-is_down-clause-maps : goal.returns-then-is_down-clause-maps
returns-then-is_down-clause-maps g c = λ was now. (record { so = λ w up noted. absurd (up (sym c.is_down.ensures ∙ c.if-is_down.true)) }, tt)

pub returns-else-is_down-clause-maps : goal.returns-else-is_down-clause-maps
returns-else-is_down-clause-maps g c = λ was now. (
  none_parts c.args.group.now.core c.make_volume.new.self.core c.args.group.now.logs.items c.make_volume.new.self.logs.items c.args.group.now.stopped c.make_volume.new.self.stopped c.args.group.now.alike c.make_volume.new.self.alike (g.S.Shelf.meaning c.args.group.now.shelf) (g.S.Shelf.meaning c.make_volume.new.self.shelf) was now
      (from_logged c.args.group.now.core c.args.group.now.logs.items c.args.group.now.alike c.args.group.now.stopped (g.S.Shelf.meaning c.args.group.now.shelf) c.args.group.now.stands) c.make_volume.new.self.stands.group c.make_volume.ensures.stays.shape c.make_volume.ensures.ends_maps c.make_volume.ensures.comes c.make_volume.ensures.moves c.make_volume.ensures.left
      c.make_volume.ensures.flags c.make_volume.ensures.stopped
      (volumes_kept (make_refusal c.args.group.now.core.inner.config c.args.name.now c.args.want.now)
      (λ none. stop_volumes c.args.name.now c.args.want.now c.args.group.now.core.inner c.make_volume.new.self.core.inner (g.S.Shelf.meaning c.args.group.now.shelf) (g.S.Shelf.meaning c.make_volume.new.self.shelf) c.in-Err.stop (c.in-Err.ensures.ends none)) (λ why is. ap (λ x. x.inner.config.volumes) (c.make_volume.ensures.refused why is).1)),
  quiet_unmoved ((c.make_volume.new.self.core ≡ c.args.group.now.core) × (c.make_volume.new.self.shelf ≡ c.args.group.now.shelf)) (PartsStay (map_parts c.args.group.now.core.inner.config c.args.group.now.logs.items c.args.group.now.alike c.args.group.now.stopped) (map_parts c.make_volume.new.self.core.inner.config c.make_volume.new.self.logs.items c.make_volume.new.self.alike c.make_volume.new.self.stopped)) c.in-Err.stop
      (λ same.
      stay_left c.args.group.now.core.inner.config c.make_volume.new.self.core.inner.config c.args.group.now.logs.items c.make_volume.new.self.logs.items c.args.group.now.alike c.make_volume.new.self.alike c.args.group.now.stopped c.make_volume.new.self.stopped
      c.make_volume.ensures.left c.make_volume.ensures.flags c.make_volume.ensures.stopped (ap (λ x. x.inner.config) same.0)) c.in-Err.ensures.unmoved,
)

pub returns-in-Ok-clause-volumes : goal.returns-in-Ok-clause-volumes
returns-in-Ok-clause-volumes g c =
    added_goes c.args.group.now.core c.make_volume.new.self.core (g.S.Shelf.meaning c.args.group.now.shelf) (g.S.Shelf.meaning c.make_volume.new.self.shelf) c.make_volume.new.self.stands.group (g.met.S.Shelf.lawful c.make_volume.new.self.shelf) c.make_volume.ensures.stays c.in-Ok.ensures.held

pub returns-then-is_down-clause-volumes : goal.returns-then-is_down-clause-volumes
returns-then-is_down-clause-volumes g c =
    none_go (inner_meaning (wide c.args.group.now.core) (g.S.Shelf.meaning c.args.group.now.shelf)) (inner_meaning (wide c.make_volume.new.self.core) (g.S.Shelf.meaning c.make_volume.new.self.shelf))
    (same_goes c.args.group.now.core c.make_volume.new.self.core (g.S.Shelf.meaning c.args.group.now.shelf) (g.S.Shelf.meaning c.make_volume.new.self.shelf) c.make_volume.new.self.stands.group (g.met.S.Shelf.lawful c.make_volume.new.self.shelf) c.make_volume.ensures.stays
    (refused_volumes c.args.name.now c.args.want.now c.args.group.now.core c.make_volume.new.self.core (g.S.Shelf.meaning c.args.group.now.shelf) (g.S.Shelf.meaning c.make_volume.new.self.shelf) c.in-Err.stop (make_refusal c.args.group.now.core.inner.config c.args.name.now c.args.want.now) c.in-Err.ensures.ends (λ why is. (c.in-Err.ensures.refused why is).1)))

pub returns-else-is_down-clause-volumes : goal.returns-else-is_down-clause-volumes
returns-else-is_down-clause-volumes g c =
    none_go (inner_meaning (wide c.args.group.now.core) (g.S.Shelf.meaning c.args.group.now.shelf)) (inner_meaning (wide c.make_volume.new.self.core) (g.S.Shelf.meaning c.make_volume.new.self.shelf))
    (same_goes c.args.group.now.core c.make_volume.new.self.core (g.S.Shelf.meaning c.args.group.now.shelf) (g.S.Shelf.meaning c.make_volume.new.self.shelf) c.make_volume.new.self.stands.group (g.met.S.Shelf.lawful c.make_volume.new.self.shelf) c.make_volume.ensures.stays
    (refused_volumes c.args.name.now c.args.want.now c.args.group.now.core c.make_volume.new.self.core (g.S.Shelf.meaning c.args.group.now.shelf) (g.S.Shelf.meaning c.make_volume.new.self.shelf) c.in-Err.stop (make_refusal c.args.group.now.core.inner.config c.args.name.now c.args.want.now) c.in-Err.ensures.ends (λ why is. (c.in-Err.ensures.refused why is).1)))

pub returns-in-Ok-clause-trust : goal.returns-in-Ok-clause-trust
returns-in-Ok-clause-trust g c = c.in-Ok.ensures.trust

pub returns-in-Ok-clause-agreed : goal.returns-in-Ok-clause-agreed
returns-in-Ok-clause-agreed g c = tt

pub returns-in-Ok-clause-parts : goal.returns-in-Ok-clause-parts
returns-in-Ok-clause-parts g c = c.make_volume.ensures.parts

pub returns-in-Ok-clause-disks : goal.returns-in-Ok-clause-disks
returns-in-Ok-clause-disks g c = c.make_volume.ensures.disks

pub returns-else-is_down-clause-trust : goal.returns-else-is_down-clause-trust
returns-else-is_down-clause-trust g c = tt

pub returns-else-is_down-clause-agreed : goal.returns-else-is_down-clause-agreed
returns-else-is_down-clause-agreed g c = c.in-Err.ensures.agreed

pub returns-else-is_down-clause-parts : goal.returns-else-is_down-clause-parts
returns-else-is_down-clause-parts g c = c.make_volume.ensures.parts

pub returns-else-is_down-clause-disks : goal.returns-else-is_down-clause-disks
returns-else-is_down-clause-disks g c = c.make_volume.ensures.disks

pub returns-then-is_down-clause-trust : goal.returns-then-is_down-clause-trust
returns-then-is_down-clause-trust g c = tt

pub returns-then-is_down-clause-agreed : goal.returns-then-is_down-clause-agreed
returns-then-is_down-clause-agreed g c = c.in-Err.ensures.agreed

pub returns-then-is_down-clause-parts : goal.returns-then-is_down-clause-parts
returns-then-is_down-clause-parts g c = c.make_volume.ensures.parts

pub returns-then-is_down-clause-disks : goal.returns-then-is_down-clause-disks
returns-then-is_down-clause-disks g c = c.make_volume.ensures.disks
