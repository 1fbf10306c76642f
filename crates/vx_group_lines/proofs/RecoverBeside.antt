-- The group of a site that is down comes up, and a replicated volume group may be found over it.
use Rattle.std.proofs.Common.{◌≡◌, inl, inr, ℕ, false, [], sym, subst, refl}
use Rattle.std.specs.Prelude.{Option, Some, slice_get, Result, Ok, Err}
use Rattle.vx_model.specs.declared.errors.OutOfMemory.{OutOfMemory}
use Rattle.vx_model.specs.declared.errors.Stop.{Stop}
use Rattle.vx_model.specs.declared.site.SiteState.TheVariants.{Down as IsDown}
use Rattle.vx_disk.specs.declared.shelf.Shelf.{Ghosts}
use Rattle.vx_history.specs.Doubts.{Doubted}
use Rattle.vx_history.specs.Groups.{GroupNode}
use Rattle.vx_history.specs.World.{Node}
use Rattle.vx_order.specs.declared.facts.SiteFacts.{SiteFacts}
use Rattle.vx_grouped.specs.GroupSites.{DownNoted}
use Rattle.vx_diskset.specs.GroupCalls.{AtSite, cut_behind}
use Rattle.vx_diskset.specs.Holds.{KeptBeside, beside_of}
use Rattle.vx_diskset.specs.OverRises.{FindsOver, PlainFound}
use Rattle.vx_diskset.specs.OverStarts.{HandsOut, RaisesBy, RaisesIn}
use Rattle.vx_diskset.specs.Recovers.{RaisesGroup, RaisesMaps}
use Rattle.vx_diskset.specs.Stands.{SiteStands}
use Rattle.vx_diskset.specs.declared.disk_set.DiskSet.{DiskSet}
use Rattle.vx_diskset.specs.declared.disk_set.DiskSet.TheVariants.{Over}
use Rattle.vx_diskset.specs.declared.group_set.CutWrite.{CutWrite}
use Rattle.vx_events.specs.GroupNotes.{note_at}
use Rattle.vx_events.specs.declared.said.Said.{Said}
use Rattle.vx_yard.specs.declared.yard.Yard.{Yard}
use Rattle.vx_group_lines.specs.Noting.{reply_noted}
use Rattle.vx_group_lines.specs.Rises.{RisesBeside, StoodUp}
use Rattle.vx_group_lines.proofs.GroupAt.{GroupAt, down_noted, down_notes, group_by}
use Rattle.vx_group_lines.proofs.ImportBeside.{CameEither, CameOver, CamePlain, imports_either}
use Rattle.vx_group_lines.proofs.Raising.{Begins, RaisedTo}
use Rattle.vx_group_lines.proofs.RecoverFound.{found_risen}
use Rattle.vx_group_lines.proofs.Recovering.{came_down, came_up}

-- ---- what is handed out

-- a recovery that was answered so was answered so in its import
hands_ok : (cut was : Option CutWrite) (answer : Result (Unit {0}) Stop) → HandsOut was answer (Ok cut) → (answer ≡ Ok tt) × (cut ≡ was)
hands_ok cut was (Ok done) it = (refl, cc)
hands_ok cut was (Err stop) it = absurd (let clash : Ok cut ≡ Err stop = it in cc)

hands_err : (was : Option CutWrite) (answer : Result (Unit {0}) Stop) (stop : Stop) → HandsOut was answer (Err stop) → answer ≡ Ok tt → ⊥
hands_err was (Ok done) stop it ok = let clash : Err stop ≡ Ok was = it in cc
hands_err was (Err other) stop it ok = cc

module _ {R : Type 0} {g : Ghosts R} where
  module _ (old mid new : Yard R g) (s : ℕ) (before between : DiskSet R g) (first : RaisedTo old mid s before between) (e : Doubted) (begin : Begins e s old) where
    at : GroupAt e old [] s before
    at = group_by e old [] s before begin.stands begin.below begin.over first.there

    raised_by : (r : Result (Option CutWrite) Stop) → RaisesIn before between r → RaisesBy at.set.site at.set.cut between r
    raised_by r it = subst (λ (x : DiskSet R g). RaisesIn x between r) at.is_set it

    stood : SiteStands (beside_of e s) (e.world.nodes s) before
    stood = subst (λ (x : DiskSet R g). SiteStands (beside_of e s) (e.world.nodes s) x) (sym at.is_set) at.stands

    group : (e.world.nodes s).group ≡ Some (note_at (e.world.nodes s))
    group = (down_notes (e.world.nodes s) (note_at (e.world.nodes s)) at.set.site (down_noted (e.world.nodes s) at.set.site at.stands.stands begin.down)).0.is

    -- it came up
    pub beside_up : (cut : Option CutWrite) (result : Result Said OutOfMemory) → RaisesIn before between (Ok cut)
        → ((n : Node) (note : GroupNode) → AtSite (DownNoted n note) before → RaisesGroup n note before between (Ok cut)) → ((n : Node) (note : GroupNode) → AtSite (DownNoted n note) before → RaisesMaps before between (Ok cut))
        → ((beside : KeptBeside) (m : Node) (k : GroupNode) → SiteStands beside m before → m.group ≡ Some k → m.state ≡ IsDown → FindsOver beside m k before between) → StoodUp s cut mid new result → RisesBeside e s old new result
    beside_up cut result brought raises moved finds st = by (imports_either false at.set.site at.set.cut between raised.answer raised.by)
      where
        raised : RaisesBy at.set.site at.set.cut between (Ok cut)
        raised = raised_by (Ok cut) brought

        hands : (raised.answer ≡ Ok tt) × (cut ≡ cut_behind between at.set.cut)
        hands = hands_ok cut (cut_behind between at.set.cut) raised.answer raised.is

        by : CameEither between raised.answer → RisesBeside e s old new result
        by (CamePlain t is none) = inl (came_up old mid new s before between first e begin cut result t is (none hands.0) raises moved st)
        by (CameOver x is ok) =
            let found : PlainFound (beside_of e s) (e.world.nodes s) (note_at (e.world.nodes s)) x
            = subst (λ (y : DiskSet R g). FindsOver (beside_of e s) (e.world.nodes s) (note_at (e.world.nodes s)) y (Over x)) at.is_set
            (subst (λ (y : DiskSet R g). FindsOver (beside_of e s) (e.world.nodes s) (note_at (e.world.nodes s)) before y) is (finds (beside_of e s) (e.world.nodes s) (note_at (e.world.nodes s)) stood group begin.down)) in
            inr (found_risen e s old mid new before between first begin cut result st x is (subst (λ (y : DiskSet R g). cut ≡ cut_behind y at.set.cut) is hands.1) found)

    -- it did not
    pub beside_down : (stop : Stop) (result : Result Said OutOfMemory) → RaisesIn before between (Err stop)
        → ((n : Node) (note : GroupNode) → AtSite (DownNoted n note) before → RaisesGroup n note before between (Err stop)) → ((n : Node) (note : GroupNode) → AtSite (DownNoted n note) before → RaisesMaps before between (Err stop))
        → ((f : SiteFacts) → slice_get mid.facts.items s ≡ Some f → reply_noted s f stop mid new result) → RisesBeside e s old new result
    beside_down stop result brought raises moved replied = by (imports_either false at.set.site at.set.cut between raised.answer raised.by)
      where
        raised : RaisesBy at.set.site at.set.cut between (Err stop)
        raised = raised_by (Err stop) brought

        by : CameEither between raised.answer → RisesBeside e s old new result
        by (CamePlain t is none) = inl (came_down old mid new s before between first e begin stop result t is raises moved replied)
        by (CameOver x is ok) = absurd (hands_err (cut_behind between at.set.cut) raised.answer stop raised.is ok)
