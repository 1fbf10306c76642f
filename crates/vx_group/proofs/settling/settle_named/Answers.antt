-- `settle_named`: clauses stands, narrows, cause, same, still, failing, named and 2 more; what `settle` asks; what stays true in its loop over `disk`.
use Rattle.std.proofs.Common.{◌≡◌, ◌+◌, ◌<◌, ◌∙◌, ℕ, Bool, true, false, List, length, refl, ap, sym, subst, arith, inl}
use Rattle.vx_config.specs.declared.entry.DiskEntry.{DiskEntry}
use Rattle.vx_copies.proofs.OneTry.{wanted_count}
use Rattle.vx_copies.proofs.Settling.{failed_at as failed_is, no_disk}
use Rattle.vx_copies.specs.Marks.{NoneGood, failed_at}
use Rattle.vx_group.specs.Settled.{SameBut, SettledTo}
use Rattle.vx_group.specs.declared.inner.Inner.{Inner}
use Rattle.vx_group.proofs.FailingLemmas.{no_failing}
use Rattle.vx_group.proofs.ReadyLemmas.{core_back, core_settled, disks_Narrows, disks_Stands, fault_cause, one_failed, same_but, settle_acts, settle_end, settle_kept, settle_mark, settle_one, settle_pass, settle_start, settled_named, settle_less, settle_trusts, settled_still, settle_finds}
use Rattle.vx_group.specs.Moves.{Narrows}
use Rattle.vx_group.specs.Stands.{InnerStands}
use Rattle.vx_kept.proofs.Trusting.{less_trusts, less_finds}
use Rattle.vx_group.proofs.CallLemmas.{settled_Stands, settled_only}
use Rattle.vx_group.proofs.DetachLemmas.{some_good}
use Rattle.vx_group.proofs.Standing.{kept_of}
use Rattle.vx_kept.proofs.Findings.{same_from}
use Rattle.vx_kept.specs.Finds.{NoConfiguration}
use Rattle.vx_group.proofs.FindingLemmas.{none_finds, open_finds, stays_finds}
use Rattle.vx_group.specs.Finds.{CoreFinds}
use Rattle.vx_group.proofs.settling.settle_named.Goals.{then-not-as_slice-disk+in-Ok, then-not-as_slice-disk+in-Err-Fault, else-not-as_slice-disk}
use Rattle.vx_group.proofs.settling.settle_named.Goals as goal

pub settle-requires-clause-there : goal.settle-requires-clause-there
settle-requires-clause-there g c = let count = wanted_count (g.S.Shelf.meaning c.args.shelf.now).units (g.S.Shelf.meaning c.args.shelf.now).size c.args.core.now.config c.requires.stands.wanted in let ds = ap length (c.as_slice.ensures.disks ∙ c.copy-kept.ensures) in let units = c.loop-disk.invariant.0.acts.units in omega (arith, count, ds, units, c.loop-disk-test.true)

pub settle-requires-clause-room : goal.settle-requires-clause-room
settle-requires-clause-room g c =
    let count = wanted_count (g.S.Shelf.meaning c.args.shelf.now).units (g.S.Shelf.meaning c.args.shelf.now).size c.args.core.now.config c.requires.stands.wanted in let ds = ap length (c.as_slice.ensures.disks ∙ c.copy-kept.ensures) in let units = c.loop-disk.invariant.0.acts.units in
    let size = c.loop-disk.invariant.0.acts.size c.loop-disk.disk in
    let large = c.requires.stands.large.each c.loop-disk.disk (omega (arith, count, ds, units, c.loop-disk-test.true)) in
    omega (arith, size, large)

pub loop-disk-init : goal.loop-disk-init
loop-disk-init g c = (settle_start c.args.core.now.good c.args.core.now.config (g.S.Shelf.meaning c.args.shelf.now) (kept_of c.args.core.now (g.S.Shelf.meaning c.args.shelf.now) c.requires.stands) c.requires.stands.wanted c.requires.up, refl)

pub loop-disk-preserved : goal.loop-disk-preserved
loop-disk-preserved g c =
    let there : c.loop-disk.disk < length c.as_slice-in-loop-disk.result.now = (let ds = ap length (c.as_slice.ensures.disks ∙ c.copy-kept.ensures) in let now = ap length c.as_slice-in-loop-disk.ensures.disks in omega (arith, ds, now, c.loop-disk.invariant.0.same.count, c.loop-disk-test.true)) in
    elim c.if-not-as_slice-disk.branch [
      | then-not-as_slice-disk+in-Ok w ↦
          subst (λ s. SettledTo c.args.core.now.good c.args.core.now.config c.if-not-as_slice-disk.core.config (c.loop-disk.disk + 1) c.if-not-as_slice-disk.device c.if-not-as_slice-disk.failed (g.S.Shelf.meaning c.args.shelf.now) (g.S.Shelf.meaning s) × (c.if-not-as_slice-disk.core ≡ record { config = c.if-not-as_slice-disk.core.config; good = c.args.core.now.good; room = c.args.core.now.room; unsettled = c.args.core.now.unsettled; committed = c.args.core.now.committed; agreed = c.args.core.now.agreed; next = c.args.core.now.next; faults = c.args.core.now.faults; unsure = c.args.core.now.unsure })) (sym w.shelf-is)
          (subst (λ (k : Inner). SettledTo c.args.core.now.good c.args.core.now.config k.config (c.loop-disk.disk + 1) c.if-not-as_slice-disk.device c.if-not-as_slice-disk.failed (g.S.Shelf.meaning c.args.shelf.now) (g.S.Shelf.meaning w.settle.new.shelf) × (k ≡ record { config = k.config; good = c.args.core.now.good; room = c.args.core.now.room; unsettled = c.args.core.now.unsettled; committed = c.args.core.now.committed; agreed = c.args.core.now.agreed; next = c.args.core.now.next; faults = c.args.core.now.faults; unsure = c.args.core.now.unsure })) (sym w.core-is)
          (subst (λ (d : ℕ). SettledTo c.args.core.now.good c.args.core.now.config c.loop-disk.core.config (c.loop-disk.disk + 1) d c.if-not-as_slice-disk.failed (g.S.Shelf.meaning c.args.shelf.now) (g.S.Shelf.meaning w.settle.new.shelf) × (c.loop-disk.core ≡ record { config = c.loop-disk.core.config; good = c.args.core.now.good; room = c.args.core.now.room; unsettled = c.args.core.now.unsettled; committed = c.args.core.now.committed; agreed = c.args.core.now.agreed; next = c.args.core.now.next; faults = c.args.core.now.faults; unsure = c.args.core.now.unsure })) (sym w.device-is)
          (subst (λ (f : Bool). SettledTo c.args.core.now.good c.args.core.now.config c.loop-disk.core.config (c.loop-disk.disk + 1) c.loop-disk.device f (g.S.Shelf.meaning c.args.shelf.now) (g.S.Shelf.meaning w.settle.new.shelf) × (c.loop-disk.core ≡ record { config = c.loop-disk.core.config; good = c.args.core.now.good; room = c.args.core.now.room; unsettled = c.args.core.now.unsettled; committed = c.args.core.now.committed; agreed = c.args.core.now.agreed; next = c.args.core.now.next; faults = c.args.core.now.faults; unsure = c.args.core.now.unsure })) (sym w.failed-is)
          (settle_one c.args.core.now.good c.args.core.now.config c.loop-disk.core.config c.loop-disk.disk c.loop-disk.device c.loop-disk.failed (g.S.Shelf.meaning c.args.shelf.now) (g.S.Shelf.meaning c.loop-disk.shelf) c.loop-disk.invariant.0 (g.S.Shelf.meaning w.settle.new.shelf) w.settle.ensures.goes (g.met.S.Shelf.lawful c.loop-disk.shelf) (g.met.S.Shelf.lawful w.settle.new.shelf) w.in-Ok.ensures.one w.in-Ok.ensures.cause.after, c.loop-disk.invariant.1))))
      | then-not-as_slice-disk+in-Err-Fault w ↦
          let why = fault_cause (g.S.Shelf.meaning c.loop-disk.shelf) (g.S.Shelf.meaning w.settle.new.shelf) c.loop-disk.disk w.in-Err-Fault.unit w.in-Err-Fault.field-0 w.in-Err-Fault.field-0-is w.in-Err-Fault.ensures.cause in
          let held : Inner = record { config = w.hold_failed.new.config; good = c.loop-disk.core.good; room = c.loop-disk.core.room; unsettled = c.loop-disk.core.unsettled; committed = c.loop-disk.core.committed; agreed = c.loop-disk.core.agreed; next = c.loop-disk.core.next; faults = c.loop-disk.core.faults; unsure = c.loop-disk.core.unsure } in
          subst (λ s. SettledTo c.args.core.now.good c.args.core.now.config c.if-not-as_slice-disk.core.config (c.loop-disk.disk + 1) c.if-not-as_slice-disk.device c.if-not-as_slice-disk.failed (g.S.Shelf.meaning c.args.shelf.now) (g.S.Shelf.meaning s) × (c.if-not-as_slice-disk.core ≡ record { config = c.if-not-as_slice-disk.core.config; good = c.args.core.now.good; room = c.args.core.now.room; unsettled = c.args.core.now.unsettled; committed = c.args.core.now.committed; agreed = c.args.core.now.agreed; next = c.args.core.now.next; faults = c.args.core.now.faults; unsure = c.args.core.now.unsure })) (sym w.shelf-is)
          (subst (λ (k : Inner). SettledTo c.args.core.now.good c.args.core.now.config k.config (c.loop-disk.disk + 1) c.if-not-as_slice-disk.device c.if-not-as_slice-disk.failed (g.S.Shelf.meaning c.args.shelf.now) (g.S.Shelf.meaning w.settle.new.shelf) × (k ≡ record { config = k.config; good = c.args.core.now.good; room = c.args.core.now.room; unsettled = c.args.core.now.unsettled; committed = c.args.core.now.committed; agreed = c.args.core.now.agreed; next = c.args.core.now.next; faults = c.args.core.now.faults; unsure = c.args.core.now.unsure })) (sym w.core-is)
          (subst (λ (d : ℕ). SettledTo c.args.core.now.good c.args.core.now.config held.config (c.loop-disk.disk + 1) d c.if-not-as_slice-disk.failed (g.S.Shelf.meaning c.args.shelf.now) (g.S.Shelf.meaning w.settle.new.shelf) × (held ≡ record { config = held.config; good = c.args.core.now.good; room = c.args.core.now.room; unsettled = c.args.core.now.unsettled; committed = c.args.core.now.committed; agreed = c.args.core.now.agreed; next = c.args.core.now.next; faults = c.args.core.now.faults; unsure = c.args.core.now.unsure })) (sym w.device-is)
          (subst (λ (f : Bool). SettledTo c.args.core.now.good c.args.core.now.config held.config (c.loop-disk.disk + 1) w.in-Err-Fault.unit f (g.S.Shelf.meaning c.args.shelf.now) (g.S.Shelf.meaning w.settle.new.shelf) × (held ≡ record { config = held.config; good = c.args.core.now.good; room = c.args.core.now.room; unsettled = c.args.core.now.unsettled; committed = c.args.core.now.committed; agreed = c.args.core.now.agreed; next = c.args.core.now.next; faults = c.args.core.now.faults; unsure = c.args.core.now.unsure })) (sym w.failed-is)
          (settle_mark c.args.core.now.good c.args.core.now.config c.loop-disk.core.config c.loop-disk.disk c.loop-disk.device c.loop-disk.failed (g.S.Shelf.meaning c.args.shelf.now) (g.S.Shelf.meaning c.loop-disk.shelf) c.loop-disk.invariant.0 (g.S.Shelf.meaning w.settle.new.shelf) w.settle.ensures.goes (g.met.S.Shelf.lawful c.loop-disk.shelf) (g.met.S.Shelf.lawful w.settle.new.shelf) w.hold_failed.new.config w.in-Err-Fault.unit true (let ds = ap length (c.as_slice.ensures.disks ∙ c.copy-kept.ensures) in omega (arith, ds, c.loop-disk.invariant.0.same.count, c.loop-disk-test.true)) w.hold_failed.ensures.marked (w.hold_failed.ensures.wanted (g.S.Shelf.meaning c.args.shelf.now).units (g.S.Shelf.meaning c.args.shelf.now).size c.loop-disk.invariant.0.wanted) why.0 why.1.after refl, ap (λ (x : Inner). record { config = w.hold_failed.new.config; good = x.good; room = x.room; unsettled = x.unsettled; committed = x.committed; agreed = x.agreed; next = x.next; faults = x.faults; unsure = x.unsure }) c.loop-disk.invariant.1))))
      | else-not-as_slice-disk w ↦
          subst (λ s. SettledTo c.args.core.now.good c.args.core.now.config c.if-not-as_slice-disk.core.config (c.loop-disk.disk + 1) c.if-not-as_slice-disk.device c.if-not-as_slice-disk.failed (g.S.Shelf.meaning c.args.shelf.now) (g.S.Shelf.meaning s) × (c.if-not-as_slice-disk.core ≡ record { config = c.if-not-as_slice-disk.core.config; good = c.args.core.now.good; room = c.args.core.now.room; unsettled = c.args.core.now.unsettled; committed = c.args.core.now.committed; agreed = c.args.core.now.agreed; next = c.args.core.now.next; faults = c.args.core.now.faults; unsure = c.args.core.now.unsure })) (sym w.shelf-is)
          (subst (λ (k : Inner). SettledTo c.args.core.now.good c.args.core.now.config k.config (c.loop-disk.disk + 1) c.if-not-as_slice-disk.device c.if-not-as_slice-disk.failed (g.S.Shelf.meaning c.args.shelf.now) (g.S.Shelf.meaning c.loop-disk.shelf) × (k ≡ record { config = k.config; good = c.args.core.now.good; room = c.args.core.now.room; unsettled = c.args.core.now.unsettled; committed = c.args.core.now.committed; agreed = c.args.core.now.agreed; next = c.args.core.now.next; faults = c.args.core.now.faults; unsure = c.args.core.now.unsure })) (sym w.core-is)
          (subst (λ (d : ℕ). SettledTo c.args.core.now.good c.args.core.now.config c.loop-disk.core.config (c.loop-disk.disk + 1) d c.if-not-as_slice-disk.failed (g.S.Shelf.meaning c.args.shelf.now) (g.S.Shelf.meaning c.loop-disk.shelf) × (c.loop-disk.core ≡ record { config = c.loop-disk.core.config; good = c.args.core.now.good; room = c.args.core.now.room; unsettled = c.args.core.now.unsettled; committed = c.args.core.now.committed; agreed = c.args.core.now.agreed; next = c.args.core.now.next; faults = c.args.core.now.faults; unsure = c.args.core.now.unsure })) (sym w.device-is)
          (subst (λ (f : Bool). SettledTo c.args.core.now.good c.args.core.now.config c.loop-disk.core.config (c.loop-disk.disk + 1) c.loop-disk.device f (g.S.Shelf.meaning c.args.shelf.now) (g.S.Shelf.meaning c.loop-disk.shelf) × (c.loop-disk.core ≡ record { config = c.loop-disk.core.config; good = c.args.core.now.good; room = c.args.core.now.room; unsettled = c.args.core.now.unsettled; committed = c.args.core.now.committed; agreed = c.args.core.now.agreed; next = c.args.core.now.next; faults = c.args.core.now.faults; unsure = c.args.core.now.unsure })) (sym w.failed-is)
          (settle_pass c.args.core.now.good c.args.core.now.config c.loop-disk.core.config c.loop-disk.disk c.loop-disk.device c.loop-disk.failed (g.S.Shelf.meaning c.args.shelf.now) (g.S.Shelf.meaning c.loop-disk.shelf) c.loop-disk.invariant.0 (ap (λ (ds : List DiskEntry). failed_at ds c.loop-disk.disk) (sym c.as_slice-in-loop-disk.ensures.disks) ∙ failed_is c.as_slice-in-loop-disk.result.now c.loop-disk.disk no_disk there ∙ w.if-not-as_slice-disk.false), c.loop-disk.invariant.1))))
    ]

pub returns-in-Err-Down-clause-stands : goal.returns-in-Err-Down-clause-stands
returns-in-Err-Down-clause-stands g c =
    subst (λ (k : Inner). InnerStands k (g.S.Shelf.meaning c.settle.new.shelf)) (sym (core_back c.args.core.now c.loop-disk.core c.copy-kept.result c.loop-disk.invariant.1 c.loop-disk.invariant.0.same c.copy-kept.ensures))
    (settled_Stands c.args.core.now c.args.core.now.unsettled (g.S.Shelf.meaning c.args.shelf.now) (g.S.Shelf.meaning c.settle.new.shelf) c.requires.stands (settle_kept c.args.core.now.good c.args.core.now.config c.loop-disk.core.config c.loop-disk.disk c.loop-disk.device c.loop-disk.failed (g.S.Shelf.meaning c.args.shelf.now) (g.S.Shelf.meaning c.loop-disk.shelf) c.loop-disk.invariant.0 (g.S.Shelf.meaning c.settle.new.shelf) c.settle.ensures.goes (g.met.S.Shelf.lawful c.loop-disk.shelf) (g.met.S.Shelf.lawful c.settle.new.shelf)) (settle_acts c.args.core.now.good c.args.core.now.config c.loop-disk.core.config c.loop-disk.disk c.loop-disk.device c.loop-disk.failed (g.S.Shelf.meaning c.args.shelf.now) (g.S.Shelf.meaning c.loop-disk.shelf) c.loop-disk.invariant.0 (g.S.Shelf.meaning c.settle.new.shelf) c.settle.ensures.goes (g.met.S.Shelf.lawful c.loop-disk.shelf) (g.met.S.Shelf.lawful c.settle.new.shelf)) (λ is. absurd (let un = c.if-not-core.false in let clash : true ≡ false = sym un ∙ is in cc)) (less_trusts c.args.core.now.committed c.args.core.now.agreed c.args.core.now.good (g.S.Shelf.meaning c.args.shelf.now) (g.S.Shelf.meaning c.settle.new.shelf) (g.met.S.Shelf.lawful c.args.shelf.now) (g.met.S.Shelf.lawful c.settle.new.shelf) (c.settle.ensures.goes.units ∙ c.loop-disk.invariant.0.acts.units) (λ u. c.settle.ensures.goes.size u ∙ c.loop-disk.invariant.0.acts.size u) (c.settle.ensures.goes.tells ∙ c.loop-disk.invariant.0.acts.tells) (λ u b v lt left. settle_less c.args.core.now.good c.args.core.now.config c.loop-disk.core.config c.loop-disk.disk c.loop-disk.device c.loop-disk.failed (g.S.Shelf.meaning c.args.shelf.now) (g.S.Shelf.meaning c.loop-disk.shelf) c.loop-disk.invariant.0 (g.S.Shelf.meaning c.settle.new.shelf) c.settle.ensures.goes (g.met.S.Shelf.lawful c.loop-disk.shelf) (g.met.S.Shelf.lawful c.settle.new.shelf) u b v left) c.requires.stands.trusts))

pub returns-in-Err-Down-clause-narrows : goal.returns-in-Err-Down-clause-narrows
returns-in-Err-Down-clause-narrows g c =
    subst (λ (k : Inner). Narrows c.args.core.now k (g.S.Shelf.meaning c.args.shelf.now) (g.S.Shelf.meaning c.settle.new.shelf)) (sym (core_back c.args.core.now c.loop-disk.core c.copy-kept.result c.loop-disk.invariant.1 c.loop-disk.invariant.0.same c.copy-kept.ensures))
    (settled_only c.args.core.now c.args.core.now.unsettled (g.S.Shelf.meaning c.args.shelf.now) (g.S.Shelf.meaning c.settle.new.shelf) c.requires.stands (settle_kept c.args.core.now.good c.args.core.now.config c.loop-disk.core.config c.loop-disk.disk c.loop-disk.device c.loop-disk.failed (g.S.Shelf.meaning c.args.shelf.now) (g.S.Shelf.meaning c.loop-disk.shelf) c.loop-disk.invariant.0 (g.S.Shelf.meaning c.settle.new.shelf) c.settle.ensures.goes (g.met.S.Shelf.lawful c.loop-disk.shelf) (g.met.S.Shelf.lawful c.settle.new.shelf)) (settle_acts c.args.core.now.good c.args.core.now.config c.loop-disk.core.config c.loop-disk.disk c.loop-disk.device c.loop-disk.failed (g.S.Shelf.meaning c.args.shelf.now) (g.S.Shelf.meaning c.loop-disk.shelf) c.loop-disk.invariant.0 (g.S.Shelf.meaning c.settle.new.shelf) c.settle.ensures.goes (g.met.S.Shelf.lawful c.loop-disk.shelf) (g.met.S.Shelf.lawful c.settle.new.shelf)))

pub returns-then-not-has_good-clause-stands : goal.returns-then-not-has_good-clause-stands
returns-then-not-has_good-clause-stands g c =
    subst (λ (k : Inner). InnerStands k (g.S.Shelf.meaning c.loop-disk.shelf)) (sym (core_back c.args.core.now c.loop-disk.core c.copy-kept.result c.loop-disk.invariant.1 c.loop-disk.invariant.0.same c.copy-kept.ensures))
    (settled_Stands c.args.core.now c.args.core.now.unsettled (g.S.Shelf.meaning c.args.shelf.now) (g.S.Shelf.meaning c.loop-disk.shelf) c.requires.stands c.loop-disk.invariant.0.kept c.loop-disk.invariant.0.acts (λ is. absurd (let un = c.if-not-core.false in let clash : true ≡ false = sym un ∙ is in cc)) (settle_trusts c.args.core.now.committed c.args.core.now.agreed c.args.core.now.good c.args.core.now.config c.loop-disk.core.config c.loop-disk.disk c.loop-disk.device c.loop-disk.failed (g.S.Shelf.meaning c.args.shelf.now) (g.S.Shelf.meaning c.loop-disk.shelf) (g.met.S.Shelf.lawful c.args.shelf.now) (g.met.S.Shelf.lawful c.loop-disk.shelf) c.loop-disk.invariant.0 c.requires.stands.trusts))

pub returns-then-not-has_good-clause-narrows : goal.returns-then-not-has_good-clause-narrows
returns-then-not-has_good-clause-narrows g c =
    subst (λ (k : Inner). Narrows c.args.core.now k (g.S.Shelf.meaning c.args.shelf.now) (g.S.Shelf.meaning c.loop-disk.shelf)) (sym (core_back c.args.core.now c.loop-disk.core c.copy-kept.result c.loop-disk.invariant.1 c.loop-disk.invariant.0.same c.copy-kept.ensures))
    (settled_only c.args.core.now c.args.core.now.unsettled (g.S.Shelf.meaning c.args.shelf.now) (g.S.Shelf.meaning c.loop-disk.shelf) c.requires.stands c.loop-disk.invariant.0.kept c.loop-disk.invariant.0.acts)

pub returns-then-not-has_good-clause-cause : goal.returns-then-not-has_good-clause-cause
returns-then-not-has_good-clause-cause g c = (
  one_failed c.args.core.now c.loop-disk.core c.loop-disk.disk c.loop-disk.device c.loop-disk.failed (g.S.Shelf.meaning c.args.shelf.now) (g.S.Shelf.meaning c.loop-disk.shelf) c.requires.stands c.loop-disk.invariant.0 c.loop-disk.invariant.1 (c.has_good.ensures.none c.if-not-has_good.true),
  c.loop-disk.invariant.0.up,
)

pub returns-clause-stands : goal.returns-clause-stands
returns-clause-stands g c =
    let count = wanted_count (g.S.Shelf.meaning c.args.shelf.now).units (g.S.Shelf.meaning c.args.shelf.now).size c.args.core.now.config c.requires.stands.wanted in let ds = ap length (c.as_slice.ensures.disks ∙ c.copy-kept.ensures) in let units = c.loop-disk.invariant.0.acts.units in
    subst (λ (k : Inner). InnerStands k (g.S.Shelf.meaning c.loop-disk.shelf)) (sym (core_settled c.args.core.now c.loop-disk.core c.loop-disk.invariant.1))
    (disks_Stands c.args.core.now c.loop-disk.core.config c.loop-disk.disk c.loop-disk.device c.loop-disk.failed (g.S.Shelf.meaning c.args.shelf.now) (g.S.Shelf.meaning c.loop-disk.shelf) c.requires.stands c.loop-disk.invariant.0
    (subst (λ (k : ℕ). NoneGood c.loop-disk.core.config.disks (length c.loop-disk.core.config.disks) k → ⊥) (ap (λ (x : Inner). x.good) c.loop-disk.invariant.1)
    (some_good c.loop-disk.core.config.disks c.loop-disk.core.good (c.has_good.ensures.some c.if-not-has_good.false)))
    (settle_end c.args.core.now.good c.args.core.now.config c.loop-disk.core.config c.loop-disk.disk c.loop-disk.device c.loop-disk.failed (g.S.Shelf.meaning c.args.shelf.now) (g.S.Shelf.meaning c.loop-disk.shelf) (omega (arith, count, ds, units, c.loop-disk-test.false)) c.loop-disk.invariant.0)
    (settle_trusts c.args.core.now.committed c.args.core.now.agreed c.args.core.now.good c.args.core.now.config c.loop-disk.core.config c.loop-disk.disk c.loop-disk.device c.loop-disk.failed (g.S.Shelf.meaning c.args.shelf.now) (g.S.Shelf.meaning c.loop-disk.shelf) (g.met.S.Shelf.lawful c.args.shelf.now) (g.met.S.Shelf.lawful c.loop-disk.shelf) c.loop-disk.invariant.0 c.requires.stands.trusts))

pub returns-clause-narrows : goal.returns-clause-narrows
returns-clause-narrows g c =
    subst (λ (k : Inner). Narrows c.args.core.now k (g.S.Shelf.meaning c.args.shelf.now) (g.S.Shelf.meaning c.loop-disk.shelf)) (sym (core_settled c.args.core.now c.loop-disk.core c.loop-disk.invariant.1)) (disks_Narrows c.args.core.now c.loop-disk.core.config c.loop-disk.disk c.loop-disk.device c.loop-disk.failed (g.S.Shelf.meaning c.args.shelf.now) (g.S.Shelf.meaning c.loop-disk.shelf) c.requires.stands c.loop-disk.invariant.0)

pub returns-in-Err-Down-clause-same : goal.returns-in-Err-Down-clause-same
returns-in-Err-Down-clause-same g c =
    subst (λ (k : Inner). SameBut c.args.core.now.config k.config) (sym (core_back c.args.core.now c.loop-disk.core c.copy-kept.result c.loop-disk.invariant.1 c.loop-disk.invariant.0.same c.copy-kept.ensures)) (same_but c.args.core.now.config)

pub returns-then-not-has_good-clause-same : goal.returns-then-not-has_good-clause-same
returns-then-not-has_good-clause-same g c =
    subst (λ (k : Inner). SameBut c.args.core.now.config k.config) (sym (core_back c.args.core.now c.loop-disk.core c.copy-kept.result c.loop-disk.invariant.1 c.loop-disk.invariant.0.same c.copy-kept.ensures)) (same_but c.args.core.now.config)

pub returns-clause-same : goal.returns-clause-same
returns-clause-same g c = subst (λ (k : Inner). SameBut c.args.core.now.config k.config) (sym (core_settled c.args.core.now c.loop-disk.core c.loop-disk.invariant.1)) c.loop-disk.invariant.0.same

pub returns-clause-still : goal.returns-clause-still
returns-clause-still g c =
    settled_still c.args.core.now.good c.args.core.now.config c.loop-disk.core.config c.loop-disk.disk c.loop-disk.device c.loop-disk.failed (g.S.Shelf.meaning c.args.shelf.now) (g.S.Shelf.meaning c.loop-disk.shelf) c.loop-disk.invariant.0

pub returns-then-not-core-clause-failing : goal.returns-then-not-core-clause-failing
returns-then-not-core-clause-failing g c = no_failing (g.S.Shelf.meaning c.args.shelf.now) (g.S.Shelf.meaning c.args.shelf.now) c.args.core.now.config.disks c.args.core.now.config.disks refl

pub returns-in-Err-Down-clause-failing : goal.returns-in-Err-Down-clause-failing
returns-in-Err-Down-clause-failing g c = no_failing (g.S.Shelf.meaning c.args.shelf.now) (g.S.Shelf.meaning c.settle.new.shelf) c.args.core.now.config.disks c.copy-kept.result c.copy-kept.ensures

pub returns-then-not-has_good-clause-failing : goal.returns-then-not-has_good-clause-failing
returns-then-not-has_good-clause-failing g c = no_failing (g.S.Shelf.meaning c.args.shelf.now) (g.S.Shelf.meaning c.loop-disk.shelf) c.args.core.now.config.disks c.copy-kept.result c.copy-kept.ensures

pub returns-clause-failing : goal.returns-clause-failing
returns-clause-failing g c = c.loop-disk.invariant.0.failing

pub returns-clause-named : goal.returns-clause-named
returns-clause-named g c =
    settled_named c.args.core.now.good c.args.core.now.config c.loop-disk.core.config c.loop-disk.disk c.loop-disk.device c.loop-disk.failed (g.S.Shelf.meaning c.args.shelf.now) (g.S.Shelf.meaning c.loop-disk.shelf) c.loop-disk.invariant.0

pub returns-in-Err-Down-clause-trust : goal.returns-in-Err-Down-clause-trust
returns-in-Err-Down-clause-trust g c = ap (λ (x : Inner). x.committed) c.loop-disk.invariant.1

pub returns-then-not-has_good-clause-trust : goal.returns-then-not-has_good-clause-trust
returns-then-not-has_good-clause-trust g c = ap (λ (x : Inner). x.committed) c.loop-disk.invariant.1

pub returns-clause-trust : goal.returns-clause-trust
returns-clause-trust g c = ap (λ (x : Inner). x.committed) c.loop-disk.invariant.1

pub returns-in-Err-Down-clause-agreed : goal.returns-in-Err-Down-clause-agreed
returns-in-Err-Down-clause-agreed g c = ap (λ (x : Inner). x.agreed) c.loop-disk.invariant.1

pub returns-then-not-has_good-clause-agreed : goal.returns-then-not-has_good-clause-agreed
returns-then-not-has_good-clause-agreed g c = ap (λ (x : Inner). x.agreed) c.loop-disk.invariant.1

pub returns-clause-agreed : goal.returns-clause-agreed
returns-clause-agreed g c = ap (λ (x : Inner). x.agreed) c.loop-disk.invariant.1

pub returns-then-not-core-clause-less : goal.returns-then-not-core-clause-less
returns-then-not-core-clause-less g c =
    same_from NoConfiguration (g.S.Shelf.meaning c.args.shelf.now)

pub returns-in-Err-Down-clause-less : goal.returns-in-Err-Down-clause-less
returns-in-Err-Down-clause-less g c =
    less_finds (g.S.Shelf.meaning c.args.shelf.now) (g.S.Shelf.meaning c.settle.new.shelf) (g.met.S.Shelf.lawful c.args.shelf.now) (g.met.S.Shelf.lawful c.settle.new.shelf) (c.settle.ensures.goes.units ∙ c.loop-disk.invariant.0.acts.units) (λ u. c.settle.ensures.goes.size u ∙ c.loop-disk.invariant.0.acts.size u) (c.settle.ensures.goes.tells ∙ c.loop-disk.invariant.0.acts.tells) (λ u b v lt left. settle_less c.args.core.now.good c.args.core.now.config c.loop-disk.core.config c.loop-disk.disk c.loop-disk.device c.loop-disk.failed (g.S.Shelf.meaning c.args.shelf.now) (g.S.Shelf.meaning c.loop-disk.shelf) c.loop-disk.invariant.0 (g.S.Shelf.meaning c.settle.new.shelf) c.settle.ensures.goes (g.met.S.Shelf.lawful c.loop-disk.shelf) (g.met.S.Shelf.lawful c.settle.new.shelf) u b v left)

pub returns-then-not-has_good-clause-less : goal.returns-then-not-has_good-clause-less
returns-then-not-has_good-clause-less g c =
    settle_finds c.args.core.now.good c.args.core.now.config c.loop-disk.core.config c.loop-disk.disk c.loop-disk.device c.loop-disk.failed (g.S.Shelf.meaning c.args.shelf.now) (g.S.Shelf.meaning c.loop-disk.shelf) (g.met.S.Shelf.lawful c.args.shelf.now) (g.met.S.Shelf.lawful c.loop-disk.shelf) c.loop-disk.invariant.0

pub returns-clause-less : goal.returns-clause-less
returns-clause-less g c =
    settle_finds c.args.core.now.good c.args.core.now.config c.loop-disk.core.config c.loop-disk.disk c.loop-disk.device c.loop-disk.failed (g.S.Shelf.meaning c.args.shelf.now) (g.S.Shelf.meaning c.loop-disk.shelf) (g.met.S.Shelf.lawful c.args.shelf.now) (g.met.S.Shelf.lawful c.loop-disk.shelf) c.loop-disk.invariant.0

pub returns-in-Err-Down-clause-back : goal.returns-in-Err-Down-clause-back
returns-in-Err-Down-clause-back g c =
    ap (λ (x : Inner). x.config) (core_back c.args.core.now c.loop-disk.core c.copy-kept.result c.loop-disk.invariant.1 c.loop-disk.invariant.0.same c.copy-kept.ensures)

pub returns-then-not-has_good-clause-back : goal.returns-then-not-has_good-clause-back
returns-then-not-has_good-clause-back g c =
    ap (λ (x : Inner). x.config) (core_back c.args.core.now c.loop-disk.core c.copy-kept.result c.loop-disk.invariant.1 c.loop-disk.invariant.0.same c.copy-kept.ensures)

pub returns-then-not-core-clause-finds : goal.returns-then-not-core-clause-finds
returns-then-not-core-clause-finds g c =
    none_finds c.args.core.now (g.S.Shelf.meaning c.args.shelf.now)

pub returns-in-Err-Down-clause-finds : goal.returns-in-Err-Down-clause-finds
returns-in-Err-Down-clause-finds g c =
    subst (λ (k : Inner). CoreFinds c.args.core.now k (g.S.Shelf.meaning c.args.shelf.now) (g.S.Shelf.meaning c.settle.new.shelf)) (sym (core_back c.args.core.now c.loop-disk.core c.copy-kept.result c.loop-disk.invariant.1 c.loop-disk.invariant.0.same c.copy-kept.ensures))
    (stays_finds c.args.core.now c.args.core.now (g.S.Shelf.meaning c.args.shelf.now) (g.S.Shelf.meaning c.settle.new.shelf) refl refl refl
    (less_finds (g.S.Shelf.meaning c.args.shelf.now) (g.S.Shelf.meaning c.settle.new.shelf) (g.met.S.Shelf.lawful c.args.shelf.now) (g.met.S.Shelf.lawful c.settle.new.shelf) (c.settle.ensures.goes.units ∙ c.loop-disk.invariant.0.acts.units) (λ u. c.settle.ensures.goes.size u ∙ c.loop-disk.invariant.0.acts.size u) (c.settle.ensures.goes.tells ∙ c.loop-disk.invariant.0.acts.tells) (λ u b v lt left. settle_less c.args.core.now.good c.args.core.now.config c.loop-disk.core.config c.loop-disk.disk c.loop-disk.device c.loop-disk.failed (g.S.Shelf.meaning c.args.shelf.now) (g.S.Shelf.meaning c.loop-disk.shelf) c.loop-disk.invariant.0 (g.S.Shelf.meaning c.settle.new.shelf) c.settle.ensures.goes (g.met.S.Shelf.lawful c.loop-disk.shelf) (g.met.S.Shelf.lawful c.settle.new.shelf) u b v left)))

pub returns-then-not-has_good-clause-finds : goal.returns-then-not-has_good-clause-finds
returns-then-not-has_good-clause-finds g c =
    subst (λ (k : Inner). CoreFinds c.args.core.now k (g.S.Shelf.meaning c.args.shelf.now) (g.S.Shelf.meaning c.loop-disk.shelf)) (sym (core_back c.args.core.now c.loop-disk.core c.copy-kept.result c.loop-disk.invariant.1 c.loop-disk.invariant.0.same c.copy-kept.ensures))
    (stays_finds c.args.core.now c.args.core.now (g.S.Shelf.meaning c.args.shelf.now) (g.S.Shelf.meaning c.loop-disk.shelf) refl refl refl
    (settle_finds c.args.core.now.good c.args.core.now.config c.loop-disk.core.config c.loop-disk.disk c.loop-disk.device c.loop-disk.failed (g.S.Shelf.meaning c.args.shelf.now) (g.S.Shelf.meaning c.loop-disk.shelf) (g.met.S.Shelf.lawful c.args.shelf.now) (g.met.S.Shelf.lawful c.loop-disk.shelf) c.loop-disk.invariant.0))

pub returns-clause-finds : goal.returns-clause-finds
returns-clause-finds g c =
    subst (λ (k : Inner). CoreFinds c.args.core.now k (g.S.Shelf.meaning c.args.shelf.now) (g.S.Shelf.meaning c.loop-disk.shelf)) (sym (core_settled c.args.core.now c.loop-disk.core c.loop-disk.invariant.1))
    (open_finds c.args.core.now _ (g.S.Shelf.meaning c.args.shelf.now) (g.S.Shelf.meaning c.loop-disk.shelf) (λ openly. openly c.if-not-core.false)
    (settle_finds c.args.core.now.good c.args.core.now.config c.loop-disk.core.config c.loop-disk.disk c.loop-disk.device c.loop-disk.failed (g.S.Shelf.meaning c.args.shelf.now) (g.S.Shelf.meaning c.loop-disk.shelf) (g.met.S.Shelf.lawful c.args.shelf.now) (g.met.S.Shelf.lawful c.loop-disk.shelf) c.loop-disk.invariant.0))

pub returns-clause-settled : goal.returns-clause-settled
returns-clause-settled g c = refl

pub returns-clause-missed : goal.returns-clause-missed
returns-clause-missed g c = tt

pub returns-clause-back : goal.returns-clause-back
returns-clause-back g c = tt

pub returns-in-Err-Down-clause-settled : goal.returns-in-Err-Down-clause-settled
returns-in-Err-Down-clause-settled g c = tt

pub returns-in-Err-Down-clause-still : goal.returns-in-Err-Down-clause-still
returns-in-Err-Down-clause-still g c = tt

pub returns-in-Err-Down-clause-named : goal.returns-in-Err-Down-clause-named
returns-in-Err-Down-clause-named g c = tt

pub returns-then-not-has_good-clause-settled : goal.returns-then-not-has_good-clause-settled
returns-then-not-has_good-clause-settled g c = tt

pub returns-then-not-has_good-clause-still : goal.returns-then-not-has_good-clause-still
returns-then-not-has_good-clause-still g c = tt

pub returns-then-not-has_good-clause-named : goal.returns-then-not-has_good-clause-named
returns-then-not-has_good-clause-named g c = tt

pub returns-then-not-core-clause-volumes : goal.returns-then-not-core-clause-volumes
returns-then-not-core-clause-volumes g c = refl

pub returns-then-not-core-clause-serial : goal.returns-then-not-core-clause-serial
returns-then-not-core-clause-serial g c = refl

pub returns-then-not-core-clause-good : goal.returns-then-not-core-clause-good
returns-then-not-core-clause-good g c = refl

pub returns-then-not-core-clause-trust : goal.returns-then-not-core-clause-trust
returns-then-not-core-clause-trust g c = refl

pub returns-then-not-core-clause-agreed : goal.returns-then-not-core-clause-agreed
returns-then-not-core-clause-agreed g c = refl

pub returns-then-not-core-clause-missed : goal.returns-then-not-core-clause-missed
returns-then-not-core-clause-missed g c = tt

pub returns-then-not-core-clause-back : goal.returns-then-not-core-clause-back
returns-then-not-core-clause-back g c = tt

pub returns-then-not-core-clause-stands : goal.returns-then-not-core-clause-stands
returns-then-not-core-clause-stands g c = c.requires.stands

pub returns-then-not-core-clause-cause : goal.returns-then-not-core-clause-cause
returns-then-not-core-clause-cause g c = c.requires.up

pub returns-then-not-core-clause-still : goal.returns-then-not-core-clause-still
returns-then-not-core-clause-still g c = inl refl
