-- `fail`: clause stands; the invariant of what it hands on.
use Rattle.std.proofs.Common.{refl, subst, sym}
use Rattle.vx_rvg.proofs.ReadStands.{rest_sound}
use Rattle.vx_diskset.specs.Asked.{IsRawSet}
use Rattle.vx_diskset.specs.Stands.{SiteStands}
use Rattle.vx_diskset.proofs.OverStays.{stays_over, stays_raw}
use Rattle.vx_diskset.proofs.RawSets.{receiver_there, up_there}
use Rattle.vx_diskset.proofs.StartBare.{clean_read}
use Rattle.vx_diskset.proofs.MakeGroup.{bare_still, up_still, fuse_still}
use Rattle.vx_diskset.proofs.StartGroup.{down_still}
use Rattle.vx_diskset.proofs.Receiving.{receiver_still, wait_as}
use Rattle.vx_diskset.proofs.OverDisks.{set_asked, set_over, set_role, set_later as over_later}
use Rattle.vx_diskset.proofs.OverGroups.{set_alike, set_later}
use Rattle.vx_diskset.proofs.disk_set.DiskSet.fail.Goals as goal

pub invariant_of-rvg : goal.invariant_of-rvg
invariant_of-rvg g c = record { sound = rest_sound c.in-Up.rvg.core _ _ c.fail-in-Up.ensures.goes c.in-Up.rvg.sound }

pub returns-in-Bare-clause-stands : goal.returns-in-Bare-clause-stands
returns-in-Bare-clause-stands g c = λ beside n stands. clean_read n _ _ c.fail.ensures.goes (subst (λ e. SiteStands beside n e) c.in-Bare.is stands)

pub returns-in-Spoiled-clause-stands : goal.returns-in-Spoiled-clause-stands
returns-in-Spoiled-clause-stands g c = λ beside n stands. bare_still _ _ _ c.fail-in-Spoiled.ensures.goes c.fail-in-Spoiled.ensures.down c.fail-in-Spoiled.ensures.armed (subst (λ e. SiteStands beside n e) c.in-Spoiled.is stands)

pub returns-in-Up-clause-stands : goal.returns-in-Up-clause-stands
returns-in-Up-clause-stands g c = λ beside n stands.
    let at = up_there beside n c.args.self.now c.in-Up.rvg c.in-Up.is stands in (
      at.0,
      up_still n c.in-Up.rvg.core _ _ c.fail-in-Up.ensures.goes c.fail-in-Up.ensures.alike.contents.now c.fail-in-Up.ensures.down
          (fuse_still n.fuse _ _ _ (λ o k is. is.0.fuse) c.fail-in-Up.ensures.armed c.fail-in-Up.ensures.disks at.1.fuse) at.1,
    )

pub returns-in-Down-clause-stands : goal.returns-in-Down-clause-stands
returns-in-Down-clause-stands g c = λ beside n stands. down_still n _ _ c.fail-in-Down.ensures.goes c.fail-in-Down.ensures.down c.fail-in-Down.ensures.armed (subst (λ e. SiteStands beside n e) c.in-Down.is stands)

pub returns-in-Receives-clause-stands : goal.returns-in-Receives-clause-stands
returns-in-Receives-clause-stands g c = λ beside n stands.
    let at = receiver_there beside n c.args.self.now c.in-Receives.site c.in-Receives.is stands in (
      at.0,
      receiver_still n c.in-Receives.site.rvg.core c.in-Receives.site.waiting _ _ c.fail-in-Receives.ensures.goes c.fail-in-Receives.ensures.alike.contents.now c.fail-in-Receives.ensures.down
          (fuse_still n.fuse _ _ _ (λ o k is. is.0.fuse) c.fail-in-Receives.ensures.armed c.fail-in-Receives.ensures.disks at.1.fuse) at.1,
    )

pub invariant_of-site : goal.invariant_of-site
invariant_of-site g c = (
  (rest_sound c.in-Receives.site.rvg.core _ _ c.fail-in-Receives.ensures.goes c.in-Receives.site.rvg.sound, tt),
  (
    wait_as c.in-Receives.site.rvg.core c.in-Receives.site.rvg.core (g.R.Shelf.meaning c.in-Receives.site.rvg.shelf).size (g.R.Shelf.meaning c.fail-in-Receives.new.self).size c.in-Receives.site.waiting refl refl refl refl
        c.fail-in-Receives.ensures.goes.size c.in-Receives.site.waits,
    tt,
  ),
)

pub returns-in-OfGroup-clause-stands : goal.returns-in-OfGroup-clause-stands
returns-in-OfGroup-clause-stands g c = λ beside n stands. set_alike beside n c.args.self.now c.in-OfGroup.group c.fail-in-OfGroup.new.self c.in-OfGroup.is c.fail-in-OfGroup.ensures.stands c.fail-in-OfGroup.ensures.maps stands

pub returns-in-OfGroup-clause-later : goal.returns-in-OfGroup-clause-later
returns-in-OfGroup-clause-later g c = set_later c.args.self.now c.in-OfGroup.group c.fail-in-OfGroup.new.self c.in-OfGroup.is c.fail-in-OfGroup.ensures.later

pub returns-in-Over-clause-stands : goal.returns-in-Over-clause-stands
returns-in-Over-clause-stands g c = λ beside n stands. set_over c.args.self.now c.in-Over.over c.fail-in-Over.new.self c.in-Over.is n n beside (λ over. over) (λ it. c.fail-in-Over.ensures.stands beside n it) stands

pub returns-in-Over-clause-asked : goal.returns-in-Over-clause-asked
returns-in-Over-clause-asked g c = λ low. set_asked c.args.self.now c.in-Over.over c.fail-in-Over.new.self c.in-Over.is c.args.disk c.args.on c.fail-in-Over.ensures.asked low

pub returns-in-Over-clause-role : goal.returns-in-Over-clause-role
returns-in-Over-clause-role g c = set_role c.args.self.now c.in-Over.over c.fail-in-Over.new.self c.in-Over.is c.fail-in-Over.ensures.above

pub returns-in-Over-clause-later : goal.returns-in-Over-clause-later
returns-in-Over-clause-later g c = over_later c.args.self.now c.in-Over.over c.fail-in-Over.new.self c.in-Over.is c.fail-in-Over.ensures.later

pub returns-in-Bare-clause-noted : goal.returns-in-Bare-clause-noted
returns-in-Bare-clause-noted g c = stays_raw c.args.self.now _ (subst (λ e. IsRawSet e) (sym c.in-Bare.is) tt) tt

pub returns-in-Spoiled-clause-noted : goal.returns-in-Spoiled-clause-noted
returns-in-Spoiled-clause-noted g c = stays_raw c.args.self.now _ (subst (λ e. IsRawSet e) (sym c.in-Spoiled.is) tt) tt

pub returns-in-Up-clause-noted : goal.returns-in-Up-clause-noted
returns-in-Up-clause-noted g c = stays_raw c.args.self.now _ (subst (λ e. IsRawSet e) (sym c.in-Up.is) tt) tt

pub returns-in-Receives-clause-noted : goal.returns-in-Receives-clause-noted
returns-in-Receives-clause-noted g c = stays_raw c.args.self.now _ (subst (λ e. IsRawSet e) (sym c.in-Receives.is) tt) tt

pub returns-in-Down-clause-noted : goal.returns-in-Down-clause-noted
returns-in-Down-clause-noted g c = stays_raw c.args.self.now _ (subst (λ e. IsRawSet e) (sym c.in-Down.is) tt) tt

pub returns-in-OfGroup-clause-noted : goal.returns-in-OfGroup-clause-noted
returns-in-OfGroup-clause-noted g c = stays_raw c.args.self.now _ (subst (λ e. IsRawSet e) (sym c.in-OfGroup.is) tt) tt

pub returns-in-Over-clause-noted : goal.returns-in-Over-clause-noted
returns-in-Over-clause-noted g c = stays_over c.args.self.now c.in-Over.over c.fail-in-Over.new.self c.in-Over.is c.fail-in-Over.ensures.noted
