-- `fuse`: clauses fused and asked.
use Rattle.std.proofs.Common.{subst, sym}
use Rattle.vx_history.specs.World.{FuseSet}
use Rattle.vx_diskset.specs.Asked.{IsRawSet}
use Rattle.vx_diskset.proofs.OverStays.{fused_over, fused_raw, fused_rest}
use Rattle.vx_diskset.proofs.RawSets.{receiver_there, up_there}
use Rattle.vx_diskset.proofs.Asking.{fuse_did}
use Rattle.vx_diskset.proofs.FuseGroup.{up_fused}
use Rattle.vx_diskset.proofs.Receiving.{receiver_fused}
use Rattle.vx_diskset.proofs.OverDisks.{set_fuse, set_in, set_over, set_role, set_later as over_later}
use Rattle.vx_diskset.proofs.OverGroups.{set_asked, set_fused, set_later}
use Rattle.vx_diskset.proofs.disk_set.DiskSet.fuse.Goals as goal

pub returns-in-Up-clause-fused : goal.returns-in-Up-clause-fused
returns-in-Up-clause-fused g c = λ beside n stands state.
    let is_rack = (g.met.R.Rack g.world.𝓛 g.world.𝓜 g.world.𝓡 ((λ s x. x), (λ x. x), (λ x. x), λ x. x)).rack in
    let at = up_there beside n c.args.self.now c.in-Up.rvg c.in-Up.is stands in
    (at.0, up_fused n c.in-Up.rvg.core _ _ c.args.calls c.args.pick (is_rack c.fuse.new.self) c.fuse.ensures.alike c.fuse.ensures.down c.fuse.ensures.disks at.1)

pub returns-in-Up-clause-asked : goal.returns-in-Up-clause-asked
returns-in-Up-clause-asked g c = λ beside n stands state. fuse_did c.args.self.now c.in-Up.rvg (g.R.Shelf.meaning c.fuse.new.self).disks c.args.calls c.args.pick c.in-Up.is c.fuse.ensures.disks

pub returns-in-Receives-clause-fused : goal.returns-in-Receives-clause-fused
returns-in-Receives-clause-fused g c = λ beside n stands state.
    let is_rack = (g.met.R.Rack g.world.𝓛 g.world.𝓜 g.world.𝓡 ((λ s x. x), (λ x. x), (λ x. x), λ x. x)).rack in
    let at = receiver_there beside n c.args.self.now c.in-Receives.site c.in-Receives.is stands in (
      at.0,
      receiver_fused n c.in-Receives.site.rvg.core c.in-Receives.site.waiting _ _ c.args.calls c.args.pick (is_rack c.fuse-in-Receives.new.self) c.fuse-in-Receives.ensures.alike c.fuse-in-Receives.ensures.down c.fuse-in-Receives.ensures.disks at.1,
    )

pub returns-in-OfGroup-clause-fused : goal.returns-in-OfGroup-clause-fused
returns-in-OfGroup-clause-fused g c = λ beside n stands state.
    set_fused beside n c.args.calls c.args.self.now c.in-OfGroup.group c.fuse-in-OfGroup.new.self c.in-OfGroup.is (λ note. c.fuse-in-OfGroup.ensures.fused n note) c.fuse-in-OfGroup.ensures.maps stands state

pub returns-in-OfGroup-clause-asked : goal.returns-in-OfGroup-clause-asked
returns-in-OfGroup-clause-asked g c = λ beside n stands state.
    set_asked beside n c.args.calls c.args.pick c.args.self.now c.in-OfGroup.group c.fuse-in-OfGroup.new.self c.in-OfGroup.is (λ note. c.fuse-in-OfGroup.ensures.asked n note) stands state

pub returns-in-OfGroup-clause-later : goal.returns-in-OfGroup-clause-later
returns-in-OfGroup-clause-later g c = set_later c.args.self.now c.in-OfGroup.group c.fuse-in-OfGroup.new.self c.in-OfGroup.is c.fuse-in-OfGroup.ensures.later

pub returns-in-Over-clause-fused : goal.returns-in-Over-clause-fused
returns-in-Over-clause-fused g c = λ beside n stands state.
    set_over c.args.self.now c.in-Over.over c.fuse-in-Over.new.self c.in-Over.is n (record n { fuse = FuseSet c.args.calls }) beside (λ over. over) (λ it. c.fuse-in-Over.ensures.fused beside n it state) stands

pub returns-in-Over-clause-asked : goal.returns-in-Over-clause-asked
returns-in-Over-clause-asked g c = λ beside n stands state.
    set_fuse c.args.self.now c.in-Over.over c.fuse-in-Over.new.self c.in-Over.is c.args.calls c.args.pick
    (c.fuse-in-Over.ensures.asked beside n (set_in c.args.self.now c.in-Over.over c.fuse-in-Over.new.self c.in-Over.is beside n stands) state)

pub returns-in-Over-clause-role : goal.returns-in-Over-clause-role
returns-in-Over-clause-role g c = set_role c.args.self.now c.in-Over.over c.fuse-in-Over.new.self c.in-Over.is c.fuse-in-Over.ensures.above

pub returns-in-Over-clause-later : goal.returns-in-Over-clause-later
returns-in-Over-clause-later g c = over_later c.args.self.now c.in-Over.over c.fuse-in-Over.new.self c.in-Over.is c.fuse-in-Over.ensures.later

pub returns-in-Up-clause-noted : goal.returns-in-Up-clause-noted
returns-in-Up-clause-noted g c = fused_raw c.args.calls c.args.self.now _ (subst (λ e. IsRawSet e) (sym c.in-Up.is) tt) tt

pub returns-in-Receives-clause-noted : goal.returns-in-Receives-clause-noted
returns-in-Receives-clause-noted g c = fused_raw c.args.calls c.args.self.now _ (subst (λ e. IsRawSet e) (sym c.in-Receives.is) tt) tt

pub returns-in-OfGroup-clause-noted : goal.returns-in-OfGroup-clause-noted
returns-in-OfGroup-clause-noted g c = fused_raw c.args.calls c.args.self.now _ (subst (λ e. IsRawSet e) (sym c.in-OfGroup.is) tt) tt

pub returns-in-Over-clause-noted : goal.returns-in-Over-clause-noted
returns-in-Over-clause-noted g c = fused_over c.args.calls c.args.self.now c.in-Over.over c.fuse-in-Over.new.self c.in-Over.is c.fuse-in-Over.ensures.noted

pub returns-in_default-clause-noted : goal.returns-in_default-clause-noted
returns-in_default-clause-noted g c = fused_rest c.args.calls c.args.self.now c.in_default.not-Over
