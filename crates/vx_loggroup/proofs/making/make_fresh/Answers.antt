-- `make_fresh`: its clauses; what the calls ask.
use Rattle.std.proofs.Common.{◌≡◌, ◌∙◌, ◌-◌, inl, inr, ℕ, None, true, List, [], ◌∷◌, ◌++◌, length, refl, ap, sym, subst, arith, vec_len}
use Rattle.std.specs.Prelude.{Some, take}
use Rattle.std.proofs.lemmas.Bool.{cases_eq}
use Rattle.vx_config.specs.declared.entry.VolumeLog.TheVariants.{Drl}
use Rattle.vx_group.specs.Makes.{AreZero}
use Rattle.vx_group.proofs.BehindLemmas.{no_stays}
use Rattle.vx_group.proofs.FailingLemmas.{no_failing}
use Rattle.vx_group.proofs.HoldLemmas.{wide_shape}
use Rattle.vx_group.proofs.LoseLemmas.{none_parts}
use Rattle.vx_group.proofs.UnitLemmas.{beside_units, same_units}
use Rattle.vx_logs.specs.declared.logs.Logs.{Logs}
use Rattle.vx_model.specs.declared.errors.Stop.TheVariants.{No as Refused}
use Rattle.vx_loggroup.specs.Attaching.{fmr_at}
use Rattle.vx_loggroup.specs.LoggedVolumes.{LoggedStands, is_alike}
use Rattle.vx_loggroup.proofs.ComesLemmas.{more_maps}
use Rattle.vx_loggroup.proofs.FreshLemmas.{fresh_still}
use Rattle.vx_loggroup.proofs.MadeLogs.{fresh_made, long_one, none_goes, none_made, one_made, refused_volumes, take_front, unmoved_by}
use Rattle.vx_group.proofs.FindingLemmas.{still_group}
use Rattle.vx_loggroup.proofs.KeepingLemmas.{extends_places, memory_more, stay_keeps, stays_more, stays_none, stays_same}
use Rattle.vx_loggroup.specs.Keeping.{LogsKeep, SureKept}
use Rattle.vx_logged.proofs.StandLemmas.{narrowed_same}
use Rattle.vx_loggroup.proofs.SureLemmas.{front_item, made_sure, narrow_kept}
use Rattle.vx_loggroup.proofs.making.make_fresh.Goals as goal

pub make_in-requires-clause-stands : goal.make_in-requires-clause-stands
make_in-requires-clause-stands g c = c.requires.stands.group

pub returns-in-Some-clause-agreed : goal.returns-in-Some-clause-agreed
returns-in-Some-clause-agreed g c = c.requires.stands.group.stands.trusts.both

pub returns-in-Some-clause-unmoved : goal.returns-in-Some-clause-unmoved
returns-in-Some-clause-unmoved g c = unmoved_by ℕ (Refused c.in-Some.no) _ (refl, refl)

pub returns-in-Some-clause-stays : goal.returns-in-Some-clause-stays
returns-in-Some-clause-stays g c = no_stays c.args.core.now (g.S.Shelf.meaning c.args.shelf.now)

pub returns-in-Some-clause-below : goal.returns-in-Some-clause-below
returns-in-Some-clause-below g c = same_units (g.S.Shelf.meaning c.args.shelf.now)

pub returns-in-Some-clause-parts : goal.returns-in-Some-clause-parts
returns-in-Some-clause-parts g c = none_parts c.args.core.now.inner.config

pub returns-in-Some-clause-disks : goal.returns-in-Some-clause-disks
returns-in-Some-clause-disks g c = no_failing (g.S.Shelf.meaning c.args.shelf.now) (g.S.Shelf.meaning c.args.shelf.now) c.args.core.now.inner.config.disks c.args.core.now.inner.config.disks refl

pub returns-in-Err-clause-stands : goal.returns-in-Err-clause-stands
returns-in-Err-clause-stands g c = subst (λ (ls : List Logs). LoggedStands c.args.core.now ls c.args.alike.now c.args.stopped (g.S.Shelf.meaning c.args.shelf.now)) (sym c.in-Err.ensures.items) c.requires.stands

pub returns-in-Err-clause-refused : goal.returns-in-Err-clause-refused
returns-in-Err-clause-refused g c = λ why is. absurd (let clash : None ≡ Some why = sym (sym c.refuse_volume.ensures ∙ c.in_default.is) ∙ is in cc)

pub returns-in-Err-clause-agreed : goal.returns-in-Err-clause-agreed
returns-in-Err-clause-agreed g c = c.requires.stands.group.stands.trusts.both

pub returns-in-Err-clause-stays : goal.returns-in-Err-clause-stays
returns-in-Err-clause-stays g c = no_stays c.args.core.now (g.S.Shelf.meaning c.args.shelf.now)

pub returns-in-Err-clause-below : goal.returns-in-Err-clause-below
returns-in-Err-clause-below g c = same_units (g.S.Shelf.meaning c.args.shelf.now)

pub returns-in-Err-clause-parts : goal.returns-in-Err-clause-parts
returns-in-Err-clause-parts g c = none_parts c.args.core.now.inner.config

pub returns-in-Err-clause-disks : goal.returns-in-Err-clause-disks
returns-in-Err-clause-disks g c = no_failing (g.S.Shelf.meaning c.args.shelf.now) (g.S.Shelf.meaning c.args.shelf.now) c.args.core.now.inner.config.disks c.args.core.now.inner.config.disks refl

pub set_alike-requires : goal.set_alike-requires
set_alike-requires g c = record {
  inside =
      let few = c.make_in.ensures.stands.stands.few in
      let same = (wide_shape c.make_in.new.core).volumes in
      let long = ap length (c.in-Ok-make_in.ensures.ends (sym c.refuse_volume.ensures ∙ c.in_default.is)).volumes ∙ long_one c.args.core.now.inner.config.volumes (c.in-Ok-make_in.ensures.ends (sym c.refuse_volume.ensures ∙ c.in_default.is)).volume in
      let number = (c.in-Ok-make_in.ensures.ends (sym c.refuse_volume.ensures ∙ c.in_default.is)).number in
      omega (arith, few, same, long, number);
}

pub set_alike-requires-in-Ok-make_in : goal.set_alike-requires-in-Ok-make_in
set_alike-requires-in-Ok-make_in g c = record {
  inside =
      let few = c.make_in.ensures.stands.stands.few in
      let same = (wide_shape c.make_in.new.core).volumes in
      let long = ap length (c.in-Ok-make_in.ensures.ends (sym c.refuse_volume.ensures ∙ c.in_default.is)).volumes ∙ long_one c.args.core.now.inner.config.volumes (c.in-Ok-make_in.ensures.ends (sym c.refuse_volume.ensures ∙ c.in_default.is)).volume in
      let number = (c.in-Ok-make_in.ensures.ends (sym c.refuse_volume.ensures ∙ c.in_default.is)).number in
      omega (arith, few, same, long, number);
}

pub returns-in-Ok-make_in-clause-stands : goal.returns-in-Ok-make_in-clause-stands
returns-in-Ok-make_in-clause-stands g c = subst (λ (ls : List Logs). LoggedStands c.make_in.new.core ls c.set_alike.new.alike c.args.stopped (g.S.Shelf.meaning c.make_in.new.shelf)) (sym c.in-Ok.ensures.items)
    (one_made c.args.core.now c.make_in.new.core c.args.logs.now.items c.args.alike.now c.set_alike.new.alike c.args.stopped (g.S.Shelf.meaning c.args.shelf.now) (g.S.Shelf.meaning c.make_in.new.shelf) (c.in-Ok-make_in.ensures.ends (sym c.refuse_volume.ensures ∙ c.in_default.is)).volume c.requires.stands c.make_in.ensures.stands c.make_in.ensures.stays c.make_in.ensures.beside c.in-Ok-make_in.ensures.held (c.in-Ok-make_in.ensures.ends (sym c.refuse_volume.ensures ∙ c.in_default.is)).volumes ((c.in-Ok-make_in.ensures.ends (sym c.refuse_volume.ensures ∙ c.in_default.is)).is_volume.lost Drl)
    (subst (λ (n : ℕ). AreZero c.make_in.new.core.inner.config n (g.S.Shelf.meaning c.make_in.new.shelf)) (c.in-Ok-make_in.ensures.ends (sym c.refuse_volume.ensures ∙ c.in_default.is)).number (c.in-Ok-make_in.ensures.ends (sym c.refuse_volume.ensures ∙ c.in_default.is)).begins) (g.met.S.Shelf.lawful c.make_in.new.shelf) (subst (λ (n : ℕ). is_alike c.set_alike.new.alike n ≡ true) (c.in-Ok-make_in.ensures.ends (sym c.refuse_volume.ensures ∙ c.in_default.is)).number c.set_alike.ensures.here) (λ w apart. c.set_alike.ensures.others w (λ same. apart (same ∙ (c.in-Ok-make_in.ensures.ends (sym c.refuse_volume.ensures ∙ c.in_default.is)).number))))

pub returns-in-Ok-make_in-clause-fresh : goal.returns-in-Ok-make_in-clause-fresh
returns-in-Ok-make_in-clause-fresh g c =
    fresh_made c.args.core.now c.make_in.new.core c.args.fresh.now c.set_alike-in-Ok-make_in.new.alike (g.S.Shelf.meaning c.args.shelf.now) (g.S.Shelf.meaning c.make_in.new.shelf) (c.in-Ok-make_in.ensures.ends (sym c.refuse_volume.ensures ∙ c.in_default.is)).volume c.requires.stands.group c.make_in.ensures.stays c.in-Ok-make_in.ensures.held (c.in-Ok-make_in.ensures.ends (sym c.refuse_volume.ensures ∙ c.in_default.is)).volumes (subst (λ (n : ℕ). AreZero c.make_in.new.core.inner.config n (g.S.Shelf.meaning c.make_in.new.shelf)) (c.in-Ok-make_in.ensures.ends (sym c.refuse_volume.ensures ∙ c.in_default.is)).number (c.in-Ok-make_in.ensures.ends (sym c.refuse_volume.ensures ∙ c.in_default.is)).begins) (λ w apart. c.set_alike-in-Ok-make_in.ensures.others w (λ same. apart (same ∙ (c.in-Ok-make_in.ensures.ends (sym c.refuse_volume.ensures ∙ c.in_default.is)).number))) c.requires.fresh

pub returns-in-Ok-make_in-clause-below : goal.returns-in-Ok-make_in-clause-below
returns-in-Ok-make_in-clause-below g c = beside_units c.args.core.now.inner.config (g.S.Shelf.meaning c.args.shelf.now) (g.S.Shelf.meaning c.make_in.new.shelf) c.make_in.ensures.beside

pub returns-in-Err-make_in-clause-below : goal.returns-in-Err-make_in-clause-below
returns-in-Err-make_in-clause-below g c = beside_units c.args.core.now.inner.config (g.S.Shelf.meaning c.args.shelf.now) (g.S.Shelf.meaning c.make_in.new.shelf) c.make_in.ensures.beside

pub returns-in-Err-make_in-clause-stands : goal.returns-in-Err-make_in-clause-stands
returns-in-Err-make_in-clause-stands g c =
    subst (λ (ls : List Logs). LoggedStands c.make_in.new.core ls c.args.alike.now c.args.stopped (g.S.Shelf.meaning c.make_in.new.shelf)) (sym (c.pop.ensures.rest ∙ ap (take (vec_len c.push.new.self - 1)) c.in-Ok.ensures.items ∙ take_front c.args.logs.now.items ((record { drl = None; fmr = None }) ∷ []) (vec_len c.push.new.self - 1) (let long = ap length c.in-Ok.ensures.items ∙ long_one c.args.logs.now.items (record { drl = None; fmr = None }) in omega (arith, c.push.new.self.ok, long))))
    (none_made c.args.core.now c.make_in.new.core c.args.logs.now.items c.args.alike.now c.args.stopped (g.S.Shelf.meaning c.args.shelf.now) (g.S.Shelf.meaning c.make_in.new.shelf) c.requires.stands c.make_in.ensures.stands c.make_in.ensures.stays c.make_in.ensures.beside (refused_volumes c.args.name.now c.args.want.now c.args.core.now c.make_in.new.core (g.S.Shelf.meaning c.args.shelf.now) (g.S.Shelf.meaning c.make_in.new.shelf) c.in-Err-make_in.stop (λ why is. (c.make_in.ensures.refused why is).1) c.in-Err-make_in.ensures.ends))

pub returns-in-Err-make_in-clause-fresh : goal.returns-in-Err-make_in-clause-fresh
returns-in-Err-make_in-clause-fresh g c = fresh_still c.args.core.now c.make_in.new.core c.args.fresh.now (g.S.Shelf.meaning c.args.shelf.now) (g.S.Shelf.meaning c.make_in.new.shelf) (none_goes c.args.core.now c.make_in.new.core (g.S.Shelf.meaning c.args.shelf.now) (g.S.Shelf.meaning c.make_in.new.shelf) c.make_in.ensures.stays (refused_volumes c.args.name.now c.args.want.now c.args.core.now c.make_in.new.core (g.S.Shelf.meaning c.args.shelf.now) (g.S.Shelf.meaning c.make_in.new.shelf) c.in-Err-make_in.stop (λ why is. (c.make_in.ensures.refused why is).1) c.in-Err-make_in.ensures.ends)) c.requires.fresh

pub returns-in-Some-clause-finds : goal.returns-in-Some-clause-finds
returns-in-Some-clause-finds g c =
    still_group c.args.core.now (g.S.Shelf.meaning c.args.shelf.now)

pub returns-in-Err-clause-finds : goal.returns-in-Err-clause-finds
returns-in-Err-clause-finds g c =
    still_group c.args.core.now (g.S.Shelf.meaning c.args.shelf.now)

pub returns-in-Ok-make_in-clause-finds : goal.returns-in-Ok-make_in-clause-finds
returns-in-Ok-make_in-clause-finds g c =
    c.make_in.ensures.finds

pub returns-in-Err-make_in-clause-finds : goal.returns-in-Err-make_in-clause-finds
returns-in-Err-make_in-clause-finds g c =
    c.make_in.ensures.finds

pub returns-in-Some-clause-keeps : goal.returns-in-Some-clause-keeps
returns-in-Some-clause-keeps g c = stay_keeps c.args.core.now c.args.core.now c.args.logs.now.items c.args.logs.now.items (g.S.Shelf.meaning c.args.shelf.now) (g.S.Shelf.meaning c.args.shelf.now) (stays_none c.args.core.now.inner.config c.args.logs.now.items (g.S.Shelf.meaning c.args.shelf.now) (g.S.Shelf.meaning c.args.shelf.now))

pub returns-in-Err-clause-keeps : goal.returns-in-Err-clause-keeps
returns-in-Err-clause-keeps g c = subst (λ (ls : List Logs). LogsKeep c.args.core.now c.args.core.now c.args.logs.now.items ls (g.S.Shelf.meaning c.args.shelf.now) (g.S.Shelf.meaning c.args.shelf.now)) (sym c.in-Err.ensures.items) (stay_keeps c.args.core.now c.args.core.now c.args.logs.now.items c.args.logs.now.items (g.S.Shelf.meaning c.args.shelf.now) (g.S.Shelf.meaning c.args.shelf.now) (stays_none c.args.core.now.inner.config c.args.logs.now.items (g.S.Shelf.meaning c.args.shelf.now) (g.S.Shelf.meaning c.args.shelf.now)))

pub returns-in-Ok-make_in-clause-keeps : goal.returns-in-Ok-make_in-clause-keeps
returns-in-Ok-make_in-clause-keeps g c =
    subst (λ (ls : List Logs). LogsKeep c.args.core.now c.make_in.new.core c.args.logs.now.items ls (g.S.Shelf.meaning c.args.shelf.now) (g.S.Shelf.meaning c.make_in.new.shelf)) (sym c.in-Ok.ensures.items)
    (stay_keeps c.args.core.now c.make_in.new.core c.args.logs.now.items (c.args.logs.now.items ++ ((record { drl = None; fmr = None }) ∷ [])) (g.S.Shelf.meaning c.args.shelf.now) (g.S.Shelf.meaning c.make_in.new.shelf)
    (stays_more c.args.core.now.inner.config c.make_in.new.core.inner.config c.args.logs.now.items (c.args.logs.now.items ++ ((record { drl = None; fmr = None }) ∷ [])) (g.S.Shelf.meaning c.args.shelf.now) (g.S.Shelf.meaning c.make_in.new.shelf) (extends_places c.args.core.now.inner.config c.make_in.new.core.inner.config c.make_in.ensures.stays.shape) c.make_in.ensures.disks.blamed c.make_in.ensures.logs (λ v log has. memory_more c.args.logs.now.items ((record { drl = None; fmr = None }) ∷ []) v log has)))

pub returns-in-Err-make_in-clause-keeps : goal.returns-in-Err-make_in-clause-keeps
returns-in-Err-make_in-clause-keeps g c =
    subst (λ (ls : List Logs). LogsKeep c.args.core.now c.make_in.new.core c.args.logs.now.items ls (g.S.Shelf.meaning c.args.shelf.now) (g.S.Shelf.meaning c.make_in.new.shelf)) (sym (c.pop.ensures.rest ∙ ap (take (vec_len c.push.new.self - 1)) c.in-Ok.ensures.items ∙ take_front c.args.logs.now.items ((record { drl = None; fmr = None }) ∷ []) (vec_len c.push.new.self - 1) (let long = ap length c.in-Ok.ensures.items ∙ long_one c.args.logs.now.items (record { drl = None; fmr = None }) in omega (arith, c.push.new.self.ok, long))))
    (stay_keeps c.args.core.now c.make_in.new.core c.args.logs.now.items c.args.logs.now.items (g.S.Shelf.meaning c.args.shelf.now) (g.S.Shelf.meaning c.make_in.new.shelf)
    (stays_same c.args.core.now.inner.config c.make_in.new.core.inner.config c.args.logs.now.items (g.S.Shelf.meaning c.args.shelf.now) (g.S.Shelf.meaning c.make_in.new.shelf) (extends_places c.args.core.now.inner.config c.make_in.new.core.inner.config c.make_in.ensures.stays.shape) c.make_in.ensures.disks.blamed c.make_in.ensures.logs))

pub returns-in-Some-clause-left : goal.returns-in-Some-clause-left
returns-in-Some-clause-left g c = λ v. refl

pub returns-in-Err-clause-left : goal.returns-in-Err-clause-left
returns-in-Err-clause-left g c = λ v. ap (λ (ls : List Logs). fmr_at ls v) c.in-Err.ensures.items

pub returns-in-Ok-make_in-clause-left : goal.returns-in-Ok-make_in-clause-left
returns-in-Ok-make_in-clause-left g c = λ v. ap (λ (ls : List Logs). fmr_at ls v) c.in-Ok.ensures.items ∙ more_maps c.args.logs.now.items (record { drl = None; fmr = None }) refl v

pub returns-in-Err-make_in-clause-left : goal.returns-in-Err-make_in-clause-left
returns-in-Err-make_in-clause-left g c = λ v. ap (λ (ls : List Logs). fmr_at ls v) (c.pop.ensures.rest ∙ ap (take (vec_len c.push.new.self - 1)) c.in-Ok.ensures.items ∙ take_front c.args.logs.now.items ((record { drl = None; fmr = None }) ∷ []) (vec_len c.push.new.self - 1) (let long = ap length c.in-Ok.ensures.items ∙ long_one c.args.logs.now.items (record { drl = None; fmr = None }) in omega (arith, c.push.new.self.ok, long)))

pub returns-in-Some-clause-trusts : goal.returns-in-Some-clause-trusts
returns-in-Some-clause-trusts g c = record { each = λ w log told. told }

pub returns-in-Err-clause-trusts : goal.returns-in-Err-clause-trusts
returns-in-Err-clause-trusts g c = record { each = λ w log told. told }

pub returns-in-Ok-make_in-clause-trusts : goal.returns-in-Ok-make_in-clause-trusts
returns-in-Ok-make_in-clause-trusts g c = c.make_in.ensures.logs

pub returns-in-Err-make_in-clause-trusts : goal.returns-in-Err-make_in-clause-trusts
returns-in-Err-make_in-clause-trusts g c = c.make_in.ensures.logs

pub returns-in-Some-clause-alike : goal.returns-in-Some-clause-alike
returns-in-Some-clause-alike g c = tt

pub returns-in-Some-clause-flags : goal.returns-in-Some-clause-flags
returns-in-Some-clause-flags g c = λ w is. is

pub returns-in-Err-clause-alike : goal.returns-in-Err-clause-alike
returns-in-Err-clause-alike g c = tt

pub returns-in-Err-clause-flags : goal.returns-in-Err-clause-flags
returns-in-Err-clause-flags g c = λ w is. is

pub returns-in-Err-make_in-clause-alike : goal.returns-in-Err-make_in-clause-alike
returns-in-Err-make_in-clause-alike g c = tt

pub returns-in-Err-make_in-clause-flags : goal.returns-in-Err-make_in-clause-flags
returns-in-Err-make_in-clause-flags g c = λ w is. is

pub returns-in-Ok-make_in-clause-alike : goal.returns-in-Ok-make_in-clause-alike
returns-in-Ok-make_in-clause-alike g c = c.set_alike.ensures.here

pub returns-in-Ok-make_in-clause-flags : goal.returns-in-Ok-make_in-clause-flags
returns-in-Ok-make_in-clause-flags g c = λ w is. elim (cases_eq w c.in-Ok-make_in.vol) [
  | inl same ↦ ap (is_alike c.set_alike.new.alike) same ∙ c.set_alike.ensures.here
  | inr apart ↦ c.set_alike.ensures.others w apart ∙ is
]

pub returns-in-Some-clause-kept : goal.returns-in-Some-clause-kept
returns-in-Some-clause-kept g c = narrow_kept c.args.core.now c.args.core.now c.args.logs.now.items (narrowed_same c.args.core.now)

pub returns-in-Err-clause-kept : goal.returns-in-Err-clause-kept
returns-in-Err-clause-kept g c = subst (λ (ls : List Logs). SureKept c.args.core.now c.args.core.now c.args.logs.now.items ls) (sym c.in-Err.ensures.items) (narrow_kept c.args.core.now c.args.core.now c.args.logs.now.items (narrowed_same c.args.core.now))

pub returns-in-Ok-make_in-clause-kept : goal.returns-in-Ok-make_in-clause-kept
returns-in-Ok-make_in-clause-kept g c = subst (λ (ls : List Logs). SureKept c.args.core.now c.make_in.new.core c.args.logs.now.items ls) (sym c.in-Ok.ensures.items)
    (made_sure c.args.core.now c.make_in.new.core c.args.logs.now.items (c.args.logs.now.items ++ ((record { drl = None; fmr = None }) ∷ [])) (g.S.Shelf.meaning c.args.shelf.now) c.requires.stands.group c.make_in.ensures.stays.shape c.requires.stands.many (λ v k low is. front_item c.args.logs.now.items ((record { drl = None; fmr = None }) ∷ []) v k low is))

pub returns-in-Err-make_in-clause-kept : goal.returns-in-Err-make_in-clause-kept
returns-in-Err-make_in-clause-kept g c = subst (λ (ls : List Logs). SureKept c.args.core.now c.make_in.new.core c.args.logs.now.items ls) (sym (c.pop.ensures.rest ∙ ap (take (vec_len c.push.new.self - 1)) c.in-Ok.ensures.items ∙ take_front c.args.logs.now.items ((record { drl = None; fmr = None }) ∷ []) (vec_len c.push.new.self - 1) (let long = ap length c.in-Ok.ensures.items ∙ long_one c.args.logs.now.items (record { drl = None; fmr = None }) in omega (arith, c.push.new.self.ok, long))))
    (made_sure c.args.core.now c.make_in.new.core c.args.logs.now.items c.args.logs.now.items (g.S.Shelf.meaning c.args.shelf.now) c.requires.stands.group c.make_in.ensures.stays.shape c.requires.stands.many (λ v k low is. is))

pub returns-in-Ok-make_in-clause-begins : goal.returns-in-Ok-make_in-clause-begins
returns-in-Ok-make_in-clause-begins g c = c.set_alike-in-Ok-make_in.ensures.here

pub returns-in-Ok-make_in-clause-refused : goal.returns-in-Ok-make_in-clause-refused
returns-in-Ok-make_in-clause-refused g c = c.in-Ok-make_in.ensures.refused

pub returns-in-Ok-make_in-clause-stays : goal.returns-in-Ok-make_in-clause-stays
returns-in-Ok-make_in-clause-stays g c = c.make_in.ensures.stays

pub returns-in-Ok-make_in-clause-ends : goal.returns-in-Ok-make_in-clause-ends
returns-in-Ok-make_in-clause-ends g c = c.in-Ok-make_in.ensures.ends

pub returns-in-Ok-make_in-clause-parts : goal.returns-in-Ok-make_in-clause-parts
returns-in-Ok-make_in-clause-parts g c = c.make_in.ensures.parts

pub returns-in-Ok-make_in-clause-disks : goal.returns-in-Ok-make_in-clause-disks
returns-in-Ok-make_in-clause-disks g c = c.make_in.ensures.disks

pub returns-in-Ok-make_in-clause-held : goal.returns-in-Ok-make_in-clause-held
returns-in-Ok-make_in-clause-held g c = c.in-Ok-make_in.ensures.held

pub returns-in-Ok-make_in-clause-up : goal.returns-in-Ok-make_in-clause-up
returns-in-Ok-make_in-clause-up g c = c.in-Ok-make_in.ensures.up

pub returns-in-Ok-make_in-clause-newest : goal.returns-in-Ok-make_in-clause-newest
returns-in-Ok-make_in-clause-newest g c = c.in-Ok-make_in.ensures.newest

pub returns-in-Ok-make_in-clause-trust : goal.returns-in-Ok-make_in-clause-trust
returns-in-Ok-make_in-clause-trust g c = c.in-Ok-make_in.ensures.trust

pub returns-in-Ok-make_in-clause-whole : goal.returns-in-Ok-make_in-clause-whole
returns-in-Ok-make_in-clause-whole g c = c.in-Ok-make_in.ensures.whole

pub returns-in-Ok-make_in-clause-agreed : goal.returns-in-Ok-make_in-clause-agreed
returns-in-Ok-make_in-clause-agreed g c = tt

pub returns-in-Ok-make_in-clause-unmoved : goal.returns-in-Ok-make_in-clause-unmoved
returns-in-Ok-make_in-clause-unmoved g c = c.in-Ok-make_in.ensures.unmoved

pub returns-in-Err-make_in-clause-refused : goal.returns-in-Err-make_in-clause-refused
returns-in-Err-make_in-clause-refused g c = c.in-Err-make_in.ensures.refused

pub returns-in-Err-make_in-clause-stays : goal.returns-in-Err-make_in-clause-stays
returns-in-Err-make_in-clause-stays g c = c.make_in.ensures.stays

pub returns-in-Err-make_in-clause-ends : goal.returns-in-Err-make_in-clause-ends
returns-in-Err-make_in-clause-ends g c = c.in-Err-make_in.ensures.ends

pub returns-in-Err-make_in-clause-parts : goal.returns-in-Err-make_in-clause-parts
returns-in-Err-make_in-clause-parts g c = c.make_in.ensures.parts

pub returns-in-Err-make_in-clause-disks : goal.returns-in-Err-make_in-clause-disks
returns-in-Err-make_in-clause-disks g c = c.make_in.ensures.disks

pub returns-in-Err-make_in-clause-held : goal.returns-in-Err-make_in-clause-held
returns-in-Err-make_in-clause-held g c = tt

pub returns-in-Err-make_in-clause-up : goal.returns-in-Err-make_in-clause-up
returns-in-Err-make_in-clause-up g c = tt

pub returns-in-Err-make_in-clause-newest : goal.returns-in-Err-make_in-clause-newest
returns-in-Err-make_in-clause-newest g c = tt

pub returns-in-Err-make_in-clause-trust : goal.returns-in-Err-make_in-clause-trust
returns-in-Err-make_in-clause-trust g c = tt

pub returns-in-Err-make_in-clause-whole : goal.returns-in-Err-make_in-clause-whole
returns-in-Err-make_in-clause-whole g c = tt

pub returns-in-Err-make_in-clause-agreed : goal.returns-in-Err-make_in-clause-agreed
returns-in-Err-make_in-clause-agreed g c = c.in-Err-make_in.ensures.agreed

pub returns-in-Err-make_in-clause-unmoved : goal.returns-in-Err-make_in-clause-unmoved
returns-in-Err-make_in-clause-unmoved g c = c.in-Err-make_in.ensures.unmoved

pub returns-in-Err-make_in-clause-begins : goal.returns-in-Err-make_in-clause-begins
returns-in-Err-make_in-clause-begins g c = tt

pub returns-in-Err-clause-held : goal.returns-in-Err-clause-held
returns-in-Err-clause-held g c = tt

pub returns-in-Some-clause-held : goal.returns-in-Some-clause-held
returns-in-Some-clause-held g c = tt

pub returns-in-Err-clause-up : goal.returns-in-Err-clause-up
returns-in-Err-clause-up g c = tt

pub returns-in-Some-clause-up : goal.returns-in-Some-clause-up
returns-in-Some-clause-up g c = tt

pub returns-in-Err-clause-newest : goal.returns-in-Err-clause-newest
returns-in-Err-clause-newest g c = tt

pub returns-in-Some-clause-newest : goal.returns-in-Some-clause-newest
returns-in-Some-clause-newest g c = tt

pub returns-in-Err-clause-trust : goal.returns-in-Err-clause-trust
returns-in-Err-clause-trust g c = tt

pub returns-in-Some-clause-trust : goal.returns-in-Some-clause-trust
returns-in-Some-clause-trust g c = tt

pub returns-in-Err-clause-whole : goal.returns-in-Err-clause-whole
returns-in-Err-clause-whole g c = tt

pub returns-in-Some-clause-whole : goal.returns-in-Some-clause-whole
returns-in-Some-clause-whole g c = tt

pub returns-in-Err-clause-begins : goal.returns-in-Err-clause-begins
returns-in-Err-clause-begins g c = tt

pub returns-in-Some-clause-begins : goal.returns-in-Some-clause-begins
returns-in-Some-clause-begins g c = tt

pub returns-in-Err-clause-fresh : goal.returns-in-Err-clause-fresh
returns-in-Err-clause-fresh g c = c.requires.fresh

pub returns-in-Some-clause-fresh : goal.returns-in-Some-clause-fresh
returns-in-Some-clause-fresh g c = c.requires.fresh

pub returns-in-Some-clause-stands : goal.returns-in-Some-clause-stands
returns-in-Some-clause-stands g c = c.requires.stands

pub returns-in-Some-clause-ends : goal.returns-in-Some-clause-ends
returns-in-Some-clause-ends g c = λ none. absurd (let clash : None ≡ Some c.in-Some.no = sym none ∙ sym c.refuse_volume.ensures ∙ c.in-Some.is in cc)
