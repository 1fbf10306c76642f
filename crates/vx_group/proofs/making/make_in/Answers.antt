-- `make_in`: clauses stays, beside, unmoved, ends and stands; what `plan` and `add` ask.
use Rattle.std.proofs.Common.{◌≡◌, inl, ℕ, List, length, Err, refl, ap, sym, ◌∙◌, subst, arith}
use Rattle.vx_config.specs.declared.entry.DiskEntry.{DiskEntry}
use Rattle.vx_disk.specs.Moves.{Anything}
use Rattle.vx_kept.proofs.Steps.{same_Acts}
use Rattle.vx_model.specs.declared.errors.Stop.TheVariants.{No as Refused}
use Rattle.vx_model.specs.declared.no.No.{No}
use Rattle.vx_group.specs.Makes.{MakeStops, Unmoved, VolumeMade}
use Rattle.vx_group.proofs.LoseLemmas.{none_parts, then_parts}
use Rattle.vx_group.proofs.MakeLemmas.{beside_counts, made_volume, makes_behind, nothing_beside, plan_next, plan_stops, stopped_by, unmoved_error, unmoved_stop}
use Rattle.vx_group.proofs.BehindLemmas.{behind_added, behind_next, later_stays, no_stays, released_stays}
use Rattle.vx_group.proofs.DeportLemmas.{blames_stop, stops_later}
use Rattle.vx_group.proofs.HoldLemmas.{from_none, narrow_can, narrow_sound, none_Stands}
use Rattle.vx_group.proofs.ShapeLemmas.{may_make}
use Rattle.vx_group.proofs.FailingLemmas.{no_failing, then_failing}
use Rattle.vx_group.proofs.FindingLemmas.{still_group}
use Rattle.vx_group.proofs.FoundThrough.{second_finds}
use Rattle.vx_group.proofs.TrustStillLemmas.{same_logs, then_logs}
use Rattle.vx_group.proofs.UnsureMarks.{same_unsure}
use Rattle.std.specs.Prelude.{None, Some}
use Rattle.vx_group.proofs.making.make_in.Goals as goal

pub returns-in-Some-clause-stays : goal.returns-in-Some-clause-stays
returns-in-Some-clause-stays g c = no_stays c.args.core.now (g.S.Shelf.meaning c.args.shelf.now)

pub returns-in-Some-clause-unmoved : goal.returns-in-Some-clause-unmoved
returns-in-Some-clause-unmoved g c = unmoved_stop _ (Refused c.in-Some.no) (refl, refl)

pub plan-requires-clause-can : goal.plan-requires-clause-can
plan-requires-clause-can g c = narrow_can c.args.core.now (g.S.Shelf.meaning c.args.shelf.now) c.requires.stands

pub plan-requires-clause-checked : goal.plan-requires-clause-checked
plan-requires-clause-checked g c = narrow_sound c.args.core.now (g.S.Shelf.meaning c.args.shelf.now) c.requires.stands

pub returns-in-Err-clause-stays : goal.returns-in-Err-clause-stays
returns-in-Err-clause-stays g c = no_stays c.args.core.now (g.S.Shelf.meaning c.args.shelf.now)

pub returns-in-Err-clause-ends : goal.returns-in-Err-clause-ends
returns-in-Err-clause-ends g c = λ none. plan_stops c.args.core.now.inner c.args.name.now c.args.want.now (g.S.Shelf.meaning c.args.shelf.now) c.in-Err.stop c.in-Err.ensures.ends

pub returns-in-Err-clause-unmoved : goal.returns-in-Err-clause-unmoved
returns-in-Err-clause-unmoved g c = unmoved_stop _ c.in-Err.stop (refl, refl)

pub returns-then-is_down-clause-stays : goal.returns-then-is_down-clause-stays
returns-then-is_down-clause-stays g c = no_stays c.args.core.now (g.S.Shelf.meaning c.args.shelf.now)

pub returns-then-is_down-clause-ends : goal.returns-then-is_down-clause-ends
returns-then-is_down-clause-ends g c = λ none. (refl, sym c.is_down.ensures ∙ c.if-is_down.true)

pub returns-in-Err-release-clause-stays : goal.returns-in-Err-release-clause-stays
returns-in-Err-release-clause-stays g c = released_stays c.args.core.now c.release.new.core (g.S.Shelf.meaning c.args.shelf.now) (g.S.Shelf.meaning c.release.new.shelf) c.requires.stands c.release.ensures.narrows c.release.ensures.volumes c.release.ensures.stands (g.met.S.Shelf.lawful c.release.new.shelf)

pub returns-in-Err-release-clause-ends : goal.returns-in-Err-release-clause-ends
returns-in-Err-release-clause-ends g c = λ none. (
  c.release.ensures.volumes,
  subst (λ (no : No). MakeStops c.args.core.now.inner.config c.args.name.now c.args.want.now (g.S.Shelf.meaning c.args.shelf.now) (g.S.Shelf.meaning c.release.new.shelf) no) (sym c.refusal.ensures)
      (stopped_by c.args.core.now.inner.config c.args.name.now c.args.want.now (g.S.Shelf.meaning c.args.shelf.now) (g.S.Shelf.meaning c.release.new.shelf) c.in-Err-release.error (blames_stop (g.S.Shelf.meaning c.args.shelf.now) (g.S.Shelf.meaning c.release.new.shelf) c.in-Err-release.error c.in-Err-release.ensures.cause)),
)

pub returns-in-Err-release-clause-unmoved : goal.returns-in-Err-release-clause-unmoved
returns-in-Err-release-clause-unmoved g c =
    subst (λ (no : No). Unmoved {T = ℕ} (Err (Refused no)) ((c.release.new.core ≡ c.args.core.now) × (c.release.new.shelf ≡ c.args.shelf.now))) (sym c.refusal.ensures) (unmoved_error _ c.in-Err-release.error)

pub add-requires-clause-stands : goal.add-requires-clause-stands
add-requires-clause-stands g c = from_none c.release.new.core (g.S.Shelf.meaning c.release.new.shelf) (c.in-Ok-release.ensures.done (may_make c.args.core.now.inner.config c.args.name.now c.args.want.now c.plan.ensures.may).serial) c.release.ensures.stands

pub add-requires-clause-more : goal.add-requires-clause-more
add-requires-clause-more g c = let le = c.in-Ok-release.ensures.few in let room = (may_make c.args.core.now.inner.config c.args.name.now c.args.want.now c.plan.ensures.may).left in omega (arith, le, room)

pub add-requires-clause-is_next : goal.add-requires-clause-is_next
add-requires-clause-is_next g c =
    behind_next (g.S.Shelf.meaning c.args.shelf.now) (g.S.Shelf.meaning c.release.new.shelf) c.args.core.now.inner.config c.release.new.core.inner.config c.in-Ok.next _ c.release.ensures.volumes c.release.ensures.parts c.release.ensures.failing
    (plan_next c.args.core.now.inner.config c.args.name.now c.args.want.now c.in-Ok.next c.plan.ensures.may c.in-Ok.ensures.ends)
    (ap (λ (ds : List DiskEntry). record { serial = c.release.new.core.inner.config.serial; site = c.in-Ok.next.site; disks = ds; volumes = c.in-Ok.next.volumes; rvg = c.in-Ok.next.rvg }) c.copy-next.ensures)

pub returns-in-Ok-add-clause-stands : goal.returns-in-Ok-add-clause-stands
returns-in-Ok-add-clause-stands g c = none_Stands (record { inner = c.add.new.core; held = c.release.new.core.held }) (g.S.Shelf.meaning c.add.new.shelf) (c.in-Ok-release.ensures.done (may_make c.args.core.now.inner.config c.args.name.now c.args.want.now c.plan.ensures.may).serial) c.add.ensures.stands

pub returns-in-Err-add-clause-stands : goal.returns-in-Err-add-clause-stands
returns-in-Err-add-clause-stands g c = none_Stands (record { inner = c.add.new.core; held = c.release.new.core.held }) (g.S.Shelf.meaning c.add.new.shelf) (c.in-Ok-release.ensures.done (may_make c.args.core.now.inner.config c.args.name.now c.args.want.now c.plan.ensures.may).serial) c.add.ensures.stands

pub returns-in-Ok-add-clause-stays : goal.returns-in-Ok-add-clause-stays
returns-in-Ok-add-clause-stays g c = later_stays c.args.core.now c.release.new.core (g.S.Shelf.meaning c.args.shelf.now) (g.S.Shelf.meaning c.release.new.shelf) c.requires.stands c.release.ensures.narrows c.release.ensures.volumes c.release.ensures.stands (g.met.S.Shelf.lawful c.release.new.shelf) (c.in-Ok-release.ensures.done (may_make c.args.core.now.inner.config c.args.name.now c.args.want.now c.plan.ensures.may).serial) c.add.new.core (g.S.Shelf.meaning c.add.new.shelf) (g.met.S.Shelf.lawful c.add.new.shelf) c.add.ensures.stays

pub returns-in-Err-add-clause-stays : goal.returns-in-Err-add-clause-stays
returns-in-Err-add-clause-stays g c = later_stays c.args.core.now c.release.new.core (g.S.Shelf.meaning c.args.shelf.now) (g.S.Shelf.meaning c.release.new.shelf) c.requires.stands c.release.ensures.narrows c.release.ensures.volumes c.release.ensures.stands (g.met.S.Shelf.lawful c.release.new.shelf) (c.in-Ok-release.ensures.done (may_make c.args.core.now.inner.config c.args.name.now c.args.want.now c.plan.ensures.may).serial) c.add.new.core (g.S.Shelf.meaning c.add.new.shelf) (g.met.S.Shelf.lawful c.add.new.shelf) c.add.ensures.stays

pub returns-in-Ok-add-clause-ends : goal.returns-in-Ok-add-clause-ends
returns-in-Ok-add-clause-ends g c = λ none.
    subst (λ (k : ℕ). VolumeMade c.args.name.now c.args.want.now k c.args.core.now.inner c.add.new.core (g.S.Shelf.meaning c.add.new.shelf)) (sym (ap length c.as_slice.ensures.volumes))
    (made_volume c.args.core.now.inner c.add.new.core c.args.name.now c.args.want.now c.in-Ok.next (g.S.Shelf.meaning c.args.shelf.now) (g.S.Shelf.meaning c.add.new.shelf) c.in-Ok.ensures.ends
    (behind_added c.args.core.now.inner c.release.new.core.inner c.add.new.core c.in-Ok.next _ (g.S.Shelf.meaning c.add.new.shelf) c.release.ensures.volumes refl c.in-Ok-add.ensures.adds))

pub returns-in-Err-add-clause-ends : goal.returns-in-Err-add-clause-ends
returns-in-Err-add-clause-ends g c = λ none. (
  c.in-Err-add.ensures.adds ∙ c.release.ensures.volumes,
  subst (λ (no : No). MakeStops c.args.core.now.inner.config c.args.name.now c.args.want.now (g.S.Shelf.meaning c.args.shelf.now) (g.S.Shelf.meaning c.add.new.shelf) no) (sym c.refusal-in-Err-add.ensures)
      (stopped_by c.args.core.now.inner.config c.args.name.now c.args.want.now (g.S.Shelf.meaning c.args.shelf.now) (g.S.Shelf.meaning c.add.new.shelf) c.in-Err-add.error (stops_later {T = Unit {0}} (Err c.in-Err-add.error) (g.S.Shelf.meaning c.args.shelf.now) (g.S.Shelf.meaning c.release.new.shelf) (g.S.Shelf.meaning c.add.new.shelf) c.release.ensures.narrows.acts.disk_faults c.in-Err-add.ensures.cause)),
)

pub returns-in-Err-add-clause-unmoved : goal.returns-in-Err-add-clause-unmoved
returns-in-Err-add-clause-unmoved g c =
    subst (λ (no : No). Unmoved {T = ℕ} (Err (Refused no)) ((record { inner = c.add.new.core; held = c.release.new.core.held } ≡ c.args.core.now) × (c.add.new.shelf ≡ c.args.shelf.now))) (sym c.refusal-in-Err-add.ensures) (unmoved_error _ c.in-Err-add.error)

pub returns-in-Some-clause-beside : goal.returns-in-Some-clause-beside
returns-in-Some-clause-beside g c = inl (same_Acts Anything (g.S.Shelf.meaning c.args.shelf.now))

pub returns-in-Err-clause-beside : goal.returns-in-Err-clause-beside
returns-in-Err-clause-beside g c = inl (same_Acts Anything (g.S.Shelf.meaning c.args.shelf.now))

pub returns-then-is_down-clause-beside : goal.returns-then-is_down-clause-beside
returns-then-is_down-clause-beside g c = inl (same_Acts Anything (g.S.Shelf.meaning c.args.shelf.now))

pub returns-in-Err-release-clause-beside : goal.returns-in-Err-release-clause-beside
returns-in-Err-release-clause-beside g c = inl (nothing_beside _ (g.S.Shelf.meaning c.args.shelf.now) (g.S.Shelf.meaning c.release.new.shelf) c.release.ensures.narrows.acts)

pub returns-in-Ok-add-clause-beside : goal.returns-in-Ok-add-clause-beside
returns-in-Ok-add-clause-beside g c =
    makes_behind _ c.args.core.now.inner.config c.release.new.core.inner.config (g.S.Shelf.meaning c.args.shelf.now) (g.S.Shelf.meaning c.release.new.shelf) (g.S.Shelf.meaning c.add.new.shelf) c.release.ensures.volumes c.release.ensures.narrows.acts c.add.ensures.beside

pub returns-in-Err-add-clause-beside : goal.returns-in-Err-add-clause-beside
returns-in-Err-add-clause-beside g c =
    makes_behind _ c.args.core.now.inner.config c.release.new.core.inner.config (g.S.Shelf.meaning c.args.shelf.now) (g.S.Shelf.meaning c.release.new.shelf) (g.S.Shelf.meaning c.add.new.shelf) c.release.ensures.volumes c.release.ensures.narrows.acts c.add.ensures.beside

pub returns-in-Some-clause-parts : goal.returns-in-Some-clause-parts
returns-in-Some-clause-parts g c = none_parts c.args.core.now.inner.config

pub returns-in-Err-clause-parts : goal.returns-in-Err-clause-parts
returns-in-Err-clause-parts g c = none_parts c.args.core.now.inner.config

pub returns-then-is_down-clause-parts : goal.returns-then-is_down-clause-parts
returns-then-is_down-clause-parts g c = none_parts c.args.core.now.inner.config

pub returns-in-Ok-add-clause-parts : goal.returns-in-Ok-add-clause-parts
returns-in-Ok-add-clause-parts g c = then_parts c.args.core.now.inner.config c.release.new.core.inner.config c.add.new.core.config c.release.ensures.parts c.add.ensures.parts

pub returns-in-Err-add-clause-parts : goal.returns-in-Err-add-clause-parts
returns-in-Err-add-clause-parts g c = then_parts c.args.core.now.inner.config c.release.new.core.inner.config c.add.new.core.config c.release.ensures.parts c.add.ensures.parts

pub returns-in-Ok-add-clause-held : goal.returns-in-Ok-add-clause-held
returns-in-Ok-add-clause-held g c = c.in-Ok-release.ensures.done (may_make c.args.core.now.inner.config c.args.name.now c.args.want.now c.plan.ensures.may).serial

pub returns-in-Some-clause-disks : goal.returns-in-Some-clause-disks
returns-in-Some-clause-disks g c = no_failing (g.S.Shelf.meaning c.args.shelf.now) (g.S.Shelf.meaning c.args.shelf.now) c.args.core.now.inner.config.disks c.args.core.now.inner.config.disks refl

pub returns-in-Err-clause-disks : goal.returns-in-Err-clause-disks
returns-in-Err-clause-disks g c = no_failing (g.S.Shelf.meaning c.args.shelf.now) (g.S.Shelf.meaning c.args.shelf.now) c.args.core.now.inner.config.disks c.args.core.now.inner.config.disks refl

pub returns-then-is_down-clause-disks : goal.returns-then-is_down-clause-disks
returns-then-is_down-clause-disks g c = no_failing (g.S.Shelf.meaning c.args.shelf.now) (g.S.Shelf.meaning c.args.shelf.now) c.args.core.now.inner.config.disks c.args.core.now.inner.config.disks refl

pub returns-in-Ok-add-clause-disks : goal.returns-in-Ok-add-clause-disks
returns-in-Ok-add-clause-disks g c =
    then_failing (g.S.Shelf.meaning c.args.shelf.now) (g.S.Shelf.meaning c.release.new.shelf) (g.S.Shelf.meaning c.add.new.shelf) c.release.ensures.narrows.acts.faults (beside_counts c.release.new.core.inner.config (g.S.Shelf.meaning c.release.new.shelf) (g.S.Shelf.meaning c.add.new.shelf) c.add.ensures.beside)
    c.args.core.now.inner.config.disks c.release.new.core.inner.config.disks c.add.new.core.config.disks c.release.ensures.failing c.add.ensures.disks

pub returns-in-Err-add-clause-disks : goal.returns-in-Err-add-clause-disks
returns-in-Err-add-clause-disks g c =
    then_failing (g.S.Shelf.meaning c.args.shelf.now) (g.S.Shelf.meaning c.release.new.shelf) (g.S.Shelf.meaning c.add.new.shelf) c.release.ensures.narrows.acts.faults (beside_counts c.release.new.core.inner.config (g.S.Shelf.meaning c.release.new.shelf) (g.S.Shelf.meaning c.add.new.shelf) c.add.ensures.beside)
    c.args.core.now.inner.config.disks c.release.new.core.inner.config.disks c.add.new.core.config.disks c.release.ensures.failing c.add.ensures.disks

pub returns-in-Some-clause-finds : goal.returns-in-Some-clause-finds
returns-in-Some-clause-finds g c =
    still_group c.args.core.now (g.S.Shelf.meaning c.args.shelf.now)

pub returns-in-Err-clause-finds : goal.returns-in-Err-clause-finds
returns-in-Err-clause-finds g c =
    still_group c.args.core.now (g.S.Shelf.meaning c.args.shelf.now)

pub returns-then-is_down-clause-finds : goal.returns-then-is_down-clause-finds
returns-then-is_down-clause-finds g c =
    still_group c.args.core.now (g.S.Shelf.meaning c.args.shelf.now)

pub returns-in-Err-release-clause-finds : goal.returns-in-Err-release-clause-finds
returns-in-Err-release-clause-finds g c =
    c.release.ensures.finds

pub returns-in-Ok-add-clause-finds : goal.returns-in-Ok-add-clause-finds
returns-in-Ok-add-clause-finds g c =
    second_finds c.args.core.now c.release.new.core c.add.new.core (g.S.Shelf.meaning c.args.shelf.now) (g.S.Shelf.meaning c.release.new.shelf) (g.S.Shelf.meaning c.add.new.shelf) (c.in-Ok-release.ensures.done (may_make c.args.core.now.inner.config c.args.name.now c.args.want.now c.plan.ensures.may).serial) c.release.ensures.finds c.add.ensures.finds c.add.ensures.settles (same_unsure c.release.new.core.inner.unsure c.add.new.core.unsure c.add.ensures.stays.unsure)

pub returns-in-Err-add-clause-finds : goal.returns-in-Err-add-clause-finds
returns-in-Err-add-clause-finds g c =
    second_finds c.args.core.now c.release.new.core c.add.new.core (g.S.Shelf.meaning c.args.shelf.now) (g.S.Shelf.meaning c.release.new.shelf) (g.S.Shelf.meaning c.add.new.shelf) (c.in-Ok-release.ensures.done (may_make c.args.core.now.inner.config c.args.name.now c.args.want.now c.plan.ensures.may).serial) c.release.ensures.finds c.add.ensures.finds c.add.ensures.settles (same_unsure c.release.new.core.inner.unsure c.add.new.core.unsure c.add.ensures.stays.unsure)

pub returns-in-Some-clause-logs : goal.returns-in-Some-clause-logs
returns-in-Some-clause-logs g c = same_logs c.args.core.now.inner.config

pub returns-in-Err-clause-logs : goal.returns-in-Err-clause-logs
returns-in-Err-clause-logs g c = same_logs c.args.core.now.inner.config

pub returns-then-is_down-clause-logs : goal.returns-then-is_down-clause-logs
returns-then-is_down-clause-logs g c = same_logs c.args.core.now.inner.config

pub returns-in-Err-release-clause-logs : goal.returns-in-Err-release-clause-logs
returns-in-Err-release-clause-logs g c = c.release.ensures.logs

pub returns-in-Ok-add-clause-logs : goal.returns-in-Ok-add-clause-logs
returns-in-Ok-add-clause-logs g c = then_logs c.args.core.now.inner.config c.release.new.core.inner.config c.add.new.core.config c.release.ensures.logs c.add.ensures.logs

pub returns-in-Err-add-clause-logs : goal.returns-in-Err-add-clause-logs
returns-in-Err-add-clause-logs g c = then_logs c.args.core.now.inner.config c.release.new.core.inner.config c.add.new.core.config c.release.ensures.logs c.add.ensures.logs

pub returns-in-Err-clause-held : goal.returns-in-Err-clause-held
returns-in-Err-clause-held g c = tt

pub returns-in-Err-clause-up : goal.returns-in-Err-clause-up
returns-in-Err-clause-up g c = tt

pub returns-in-Err-clause-newest : goal.returns-in-Err-clause-newest
returns-in-Err-clause-newest g c = tt

pub returns-in-Err-clause-trust : goal.returns-in-Err-clause-trust
returns-in-Err-clause-trust g c = tt

pub returns-in-Err-clause-whole : goal.returns-in-Err-clause-whole
returns-in-Err-clause-whole g c = tt

pub returns-in-Err-clause-refused : goal.returns-in-Err-clause-refused
returns-in-Err-clause-refused g c = λ why is. absurd (let clash : None ≡ Some why = sym (sym c.refuse_volume.ensures ∙ c.in_default.is) ∙ is in cc)

pub returns-in-Err-add-clause-held : goal.returns-in-Err-add-clause-held
returns-in-Err-add-clause-held g c = tt

pub returns-in-Err-add-clause-up : goal.returns-in-Err-add-clause-up
returns-in-Err-add-clause-up g c = tt

pub returns-in-Err-add-clause-newest : goal.returns-in-Err-add-clause-newest
returns-in-Err-add-clause-newest g c = tt

pub returns-in-Err-add-clause-trust : goal.returns-in-Err-add-clause-trust
returns-in-Err-add-clause-trust g c = tt

pub returns-in-Err-add-clause-whole : goal.returns-in-Err-add-clause-whole
returns-in-Err-add-clause-whole g c = tt

pub returns-in-Err-add-clause-refused : goal.returns-in-Err-add-clause-refused
returns-in-Err-add-clause-refused g c = λ why is. absurd (let clash : None ≡ Some why = sym (sym c.refuse_volume.ensures ∙ c.in_default.is) ∙ is in cc)

pub returns-in-Err-release-clause-held : goal.returns-in-Err-release-clause-held
returns-in-Err-release-clause-held g c = tt

pub returns-in-Err-release-clause-up : goal.returns-in-Err-release-clause-up
returns-in-Err-release-clause-up g c = tt

pub returns-in-Err-release-clause-newest : goal.returns-in-Err-release-clause-newest
returns-in-Err-release-clause-newest g c = tt

pub returns-in-Err-release-clause-trust : goal.returns-in-Err-release-clause-trust
returns-in-Err-release-clause-trust g c = tt

pub returns-in-Err-release-clause-whole : goal.returns-in-Err-release-clause-whole
returns-in-Err-release-clause-whole g c = tt

pub returns-in-Err-release-clause-refused : goal.returns-in-Err-release-clause-refused
returns-in-Err-release-clause-refused g c = λ why is. absurd (let clash : None ≡ Some why = sym (sym c.refuse_volume.ensures ∙ c.in_default.is) ∙ is in cc)

pub returns-in-Some-clause-held : goal.returns-in-Some-clause-held
returns-in-Some-clause-held g c = tt

pub returns-in-Some-clause-up : goal.returns-in-Some-clause-up
returns-in-Some-clause-up g c = tt

pub returns-in-Some-clause-newest : goal.returns-in-Some-clause-newest
returns-in-Some-clause-newest g c = tt

pub returns-in-Some-clause-trust : goal.returns-in-Some-clause-trust
returns-in-Some-clause-trust g c = tt

pub returns-in-Some-clause-whole : goal.returns-in-Some-clause-whole
returns-in-Some-clause-whole g c = tt

pub returns-then-is_down-clause-held : goal.returns-then-is_down-clause-held
returns-then-is_down-clause-held g c = tt

pub returns-then-is_down-clause-up : goal.returns-then-is_down-clause-up
returns-then-is_down-clause-up g c = tt

pub returns-then-is_down-clause-newest : goal.returns-then-is_down-clause-newest
returns-then-is_down-clause-newest g c = tt

pub returns-then-is_down-clause-trust : goal.returns-then-is_down-clause-trust
returns-then-is_down-clause-trust g c = tt

pub returns-then-is_down-clause-whole : goal.returns-then-is_down-clause-whole
returns-then-is_down-clause-whole g c = tt

pub returns-then-is_down-clause-refused : goal.returns-then-is_down-clause-refused
returns-then-is_down-clause-refused g c = λ why is. absurd (let clash : None ≡ Some why = sym (sym c.refuse_volume.ensures ∙ c.in_default.is) ∙ is in cc)

pub returns-in-Ok-add-clause-refused : goal.returns-in-Ok-add-clause-refused
returns-in-Ok-add-clause-refused g c = λ why is. absurd (let clash : None ≡ Some why = sym (sym c.refuse_volume.ensures ∙ c.in_default.is) ∙ is in cc)

pub returns-in-Ok-add-clause-agreed : goal.returns-in-Ok-add-clause-agreed
returns-in-Ok-add-clause-agreed g c = tt

pub returns-in-Err-clause-stands : goal.returns-in-Err-clause-stands
returns-in-Err-clause-stands g c = c.requires.stands

pub returns-in-Err-clause-agreed : goal.returns-in-Err-clause-agreed
returns-in-Err-clause-agreed g c = c.requires.stands.stands.trusts.both

pub returns-in-Some-clause-stands : goal.returns-in-Some-clause-stands
returns-in-Some-clause-stands g c = c.requires.stands

pub returns-in-Some-clause-agreed : goal.returns-in-Some-clause-agreed
returns-in-Some-clause-agreed g c = c.requires.stands.stands.trusts.both

pub returns-then-is_down-clause-stands : goal.returns-then-is_down-clause-stands
returns-then-is_down-clause-stands g c = c.requires.stands

pub returns-then-is_down-clause-agreed : goal.returns-then-is_down-clause-agreed
returns-then-is_down-clause-agreed g c = c.requires.stands.stands.trusts.both

pub returns-in-Some-clause-ends : goal.returns-in-Some-clause-ends
returns-in-Some-clause-ends g c = λ none. absurd (let clash : None ≡ Some c.in-Some.no = sym none ∙ sym c.refuse_volume.ensures ∙ c.in-Some.is in cc)

pub returns-in-Err-release-clause-stands : goal.returns-in-Err-release-clause-stands
returns-in-Err-release-clause-stands g c = c.release.ensures.stands

pub returns-in-Err-release-clause-parts : goal.returns-in-Err-release-clause-parts
returns-in-Err-release-clause-parts g c = c.release.ensures.parts

pub returns-in-Err-release-clause-disks : goal.returns-in-Err-release-clause-disks
returns-in-Err-release-clause-disks g c = c.release.ensures.failing

pub returns-in-Err-release-clause-agreed : goal.returns-in-Err-release-clause-agreed
returns-in-Err-release-clause-agreed g c = c.in-Err-release.ensures.agreed
