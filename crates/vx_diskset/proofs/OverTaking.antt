-- What an import leaves of the disks of a site that was deported, whose group has a replicated volume group, and of the write that is cut.
use Rattle.std.proofs.Common.{◌≡◌, ◌∙◌, Bool, true, false, ap, inl, inr, subst, sym}
use Rattle.std.specs.Prelude.{◌&&◌, Err, None, Ok, Option, Result, Some, not}
use Rattle.vx_disk.specs.Racks.{IsRack}
use Rattle.vx_disk.specs.declared.shelf.Shelf.{Ghosts}
use Rattle.vx_model.specs.declared.errors.Stop.{Stop}
use Rattle.vx_model.specs.declared.units.Units.{Units}
use Rattle.vx_untold.specs.Shades.{shade_meaning}
use Rattle.vx_untold.specs.declared.shade.Shade.{Shade}
use Rattle.vx_grouped.specs.GroupSites.{laid_disks}
use Rattle.vx_grouped.specs.SiteEnds.{stops_down}
use Rattle.vx_grouped.specs.declared.group_site.GroupSite.{GroupSite}
use Rattle.vx_grouped.specs.declared.group_site.GroupSite.TheVariants.{Up, Deported, Down, Marked, Gone}
use Rattle.vx_grouped.specs.declared.idle.Idle.{Idle}
use Rattle.vx_grouped.specs.declared.laid.Laid.{Laid}
use Rattle.vx_diskset.specs.Aboves.{site_in}
use Rattle.vx_diskset.specs.GroupCalls.{AtSite, cut_in}
use Rattle.vx_diskset.specs.GroupSets.{cut_value}
use Rattle.vx_diskset.specs.OverStarts.{BackAt, BehindImport, FellBack, StartFails, Started, StartsOver, TakesOver, WithUnits}
use Rattle.vx_diskset.specs.Recovers.{cut_past}
use Rattle.vx_diskset.specs.declared.disk_set.DiskSet.{DiskSet}
use Rattle.vx_diskset.specs.declared.disk_set.DiskSet.TheVariants.{Bare, Spoiled, Up as UpSet, Receives, Down as DownSet, OfGroup, Over, Gone as GoneSet}
use Rattle.vx_diskset.specs.declared.group_set.CutWrite.{CutWrite}
use Rattle.vx_diskset.specs.declared.over_set.OverSet.{OverSet}
use Rattle.vx_diskset.proofs.GroupCalling.{IsSettled}
use Rattle.vx_diskset.proofs.OverImports.{at_behind}
use Rattle.vx_diskset.proofs.StaysUp.{not_true}

-- ---- its disks are up, or have no fuse

module _ {R : Type 0} {g : Ghosts R} (racks : (s : Shade R) → IsRack (shade_meaning g.meaning s)) where
  back_settled : (away : Bool) (mid : Laid R g) (idle : Idle R g) (e : GroupSite R g) → FellBack mid idle → BackAt away idle e → IsSettled e
  back_settled false mid idle e fell at =
      subst (λ (x : GroupSite R g). IsSettled x) (sym at) (record { rack = racks idle.rack; at = inr (ap (λ (s : Shade R). (shade_meaning g.meaning s).armed) fell.rack ∙ fell.is.stopped.unarmed) })
  back_settled true mid idle e fell (x, at, up) = subst (λ (y : GroupSite R g). IsSettled y) (sym at) (record { rack = racks x.rack; at = inl up.up })

  starts_settled : (units : Units) (laid : Laid R g) (cut : Option CutWrite) (new : DiskSet R g) (r : Result (Unit {0}) Stop) → StartsOver true units laid cut new r → AtSite IsSettled new
  starts_settled units laid cut (Bare rack) r it = absurd it
  starts_settled units laid cut (Spoiled rack) r it = absurd it
  starts_settled units laid cut (UpSet rvg) r it = absurd it
  starts_settled units laid cut (Receives s) r it = absurd it
  starts_settled units laid cut (DownSet rack) r it = absurd it
  starts_settled units laid cut (OfGroup s) r it = absurd it
  starts_settled units laid cut (Over s) (Ok done) it =
      let up : Started units laid s = it in
      subst (λ (e : GroupSite R g). IsSettled e) (sym up.site) (record { rack = racks up.laid.shelf; at = inl (not_true (laid_disks up.laid).down up.starts.does.3) })
  starts_settled units laid cut (Over s) (Err stop) it =
      let off : StartFails true units laid cut s stop = it in
      back_settled (true && not (stops_down stop)) off.mid off.idle (site_in s) off.fell off.site
  starts_settled units laid cut GoneSet r it = absurd it

  pub take_settles : (old : GroupSite R g) (cut : Option CutWrite) (new : DiskSet R g) (r : Result (Unit {0}) Stop) (it : TakesOver old cut new r) → IsSettled it.mid → AtSite IsSettled new
  take_settles old cut new r it settled = at_behind true (λ e. IsSettled e) (λ laid units cut new r up over. starts_settled units laid cut new r over) it.mid cut new it.answer r settled it.behind

-- ---- the write that is cut: none where it came up, the same where it did not

module _ {R : Type 0} {g : Ghosts R} where
  abbrev CutPast : Option CutWrite → Result (Unit {0}) Stop → DiskSet R g → Type 0
  CutPast cut (Ok done) new = cut_in new ≡ None
  CutPast cut (Err stop) new = cut_in new ≡ cut_value cut

  cut_starts : (units : Units) (laid : Laid R g) (cut : Option CutWrite) (new : DiskSet R g) (r : Result (Unit {0}) Stop) → StartsOver true units laid cut new r → CutPast cut r new
  cut_starts units laid cut (Bare rack) r it = absurd it
  cut_starts units laid cut (Spoiled rack) r it = absurd it
  cut_starts units laid cut (UpSet rvg) r it = absurd it
  cut_starts units laid cut (Receives s) r it = absurd it
  cut_starts units laid cut (DownSet rack) r it = absurd it
  cut_starts units laid cut (OfGroup s) r it = absurd it
  cut_starts units laid cut (Over s) (Ok done) it = let up : Started units laid s = it in ap (λ (k : Option CutWrite). cut_value k) up.cut
  cut_starts units laid cut (Over s) (Err stop) it = let off : StartFails true units laid cut s stop = it in ap (λ (k : Option CutWrite). cut_value k) off.cut_is
  cut_starts units laid cut GoneSet r it = absurd it

  cut_units : (rvg : Option Units) (laid : Laid R g) (cut : Option CutWrite) (new : DiskSet R g) (r : Result (Unit {0}) Stop) → WithUnits true rvg laid cut new r → CutPast cut r new
  cut_units None laid cut new r it = subst (λ (x : Result (Unit {0}) Stop). CutPast cut x new) (sym it.1) (ap (λ (x : DiskSet R g). cut_in x) it.0)
  cut_units (Some units) laid cut new r it = cut_starts units laid cut new r it

  cut_behind : (mid : GroupSite R g) (cut : Option CutWrite) (new : DiskSet R g) (answer r : Result (Unit {0}) Stop) → BehindImport true mid cut new answer r → CutPast cut r new
  cut_behind (Up laid) cut new (Ok done) r behind = cut_units laid.core.inner.config.rvg laid cut new r behind
  cut_behind (Deported idle) cut new (Ok done) r behind = subst (λ (x : Result (Unit {0}) Stop). CutPast cut x new) (sym behind.1) (ap (λ (x : DiskSet R g). cut_in x) behind.0)
  cut_behind (Down idle) cut new (Ok done) r behind = subst (λ (x : Result (Unit {0}) Stop). CutPast cut x new) (sym behind.1) (ap (λ (x : DiskSet R g). cut_in x) behind.0)
  cut_behind (Marked rack) cut new (Ok done) r behind = subst (λ (x : Result (Unit {0}) Stop). CutPast cut x new) (sym behind.1) (ap (λ (x : DiskSet R g). cut_in x) behind.0)
  cut_behind Gone cut new (Ok done) r behind = subst (λ (x : Result (Unit {0}) Stop). CutPast cut x new) (sym behind.1) (ap (λ (x : DiskSet R g). cut_in x) behind.0)
  cut_behind mid cut new (Err stop) r behind = subst (λ (x : Result (Unit {0}) Stop). CutPast cut x new) (sym behind.2) behind.1

  past_cut : (o : OverSet R g) (new : DiskSet R g) (r : Result (Unit {0}) Stop) → CutPast o.cut r new → cut_in new ≡ cut_past r (Over o)
  past_cut o new (Ok done) it = it
  past_cut o new (Err stop) it = it

  pub take_cut : (o : OverSet R g) (new : DiskSet R g) (r : Result (Unit {0}) Stop) → TakesOver (site_in o) o.cut new r → cut_in new ≡ cut_past r (Over o)
  take_cut o new r it = past_cut o new r (cut_behind it.mid o.cut new it.answer r it.behind)
