-- `stop`: clauses stopped, crash and failing; the invariant of what it hands on.
use Rattle.std.proofs.Common.{refl, sym, ◌∙◌, subst}
use Rattle.std.proofs.lemmas.List.{with_items_is}
use Rattle.vx_disk.specs.Memory.{Settled}
use Rattle.vx_disk.proofs.Stops.{settled-Stopped}
use Rattle.vx_disk.proofs.Crashes.{settled-Crashed, settled-failing, settled-NoneLoose}
use Rattle.vx_disk.proofs.disks.MemDisks.stop.Goals as goal

pub returns-clause-stopped : goal.returns-clause-stopped
returns-clause-stopped c =
    let s = c.settle_all.ensures in
    let units = c.args.self.now.units in
    let same = with_items_is units c.settle_all.new.units (s.number ∙ c.deref_mut.ensures.len) in
    let settled = subst (λ us. Settled us c.args.pick c.settle_all.new.units) c.deref_mut.ensures.value s in
    settled-Stopped _ _ c.args.pick (subst (λ us. Settled units.items c.args.pick us) (sym same) settled) units _ _ _ _ refl c.note.ensures

pub returns-clause-crash : goal.returns-clause-crash
returns-clause-crash c =
    let s = c.settle_all.ensures in
    let units = c.args.self.now.units in
    let same = with_items_is units c.settle_all.new.units (s.number ∙ c.deref_mut.ensures.len) in
    let settled = subst (λ us. Settled us c.args.pick c.settle_all.new.units) c.deref_mut.ensures.value s in
    settled-Crashed _ _ c.args.pick _ (subst (λ us. Settled units.items c.args.pick us) (sym same) settled)

pub returns-clause-failing : goal.returns-clause-failing
returns-clause-failing c =
    let s = c.settle_all.ensures in
    let units = c.args.self.now.units in
    let same = with_items_is units c.settle_all.new.units (s.number ∙ c.deref_mut.ensures.len) in
    let settled = subst (λ us. Settled us c.args.pick c.settle_all.new.units) c.deref_mut.ensures.value s in
    settled-failing _ _ c.args.pick c.args.self.now.fuse (subst (λ us. Settled units.items c.args.pick us) (sym same) settled)

pub invariant_of-self-clause-at_rest : goal.invariant_of-self-clause-at_rest
invariant_of-self-clause-at_rest c =
    let s = c.settle_all.ensures in
    let units = c.args.self.now.units in
    let same = with_items_is units c.settle_all.new.units (s.number ∙ c.deref_mut.ensures.len) in
    let settled = subst (λ us. Settled us c.args.pick c.settle_all.new.units) c.deref_mut.ensures.value s in
    λ down. settled-NoneLoose _ _ c.args.pick c.args.self.now.fuse (subst (λ us. Settled units.items c.args.pick us) (sym same) settled)
