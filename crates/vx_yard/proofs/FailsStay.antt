-- The disks that a world makes fail, and those that the racks of its sites make fail.
use Rattle.std.proofs.Common.{◌≡◌, ◌∙◌, ℕ, Bool, true, false, ap, sym, refl}
use Rattle.std.specs.Prelude.{◌≢◌, Option, Some, None}
use Rattle.vx_history.proofs.Updates.{all_updated}
use Rattle.vx_history.specs.World.{Node, updated}
use Rattle.vx_history.specs.Steps.{written}
use Rattle.vx_model.specs.declared.site.SiteState.{SiteState}
use Rattle.vx_model.specs.declared.site.SiteState.TheVariants.{Bare as IsBare, Up as IsUp, Deported, Down as IsDown}
use Rattle.vx_disk.specs.Causes.{OnDisks, WithDisks}
use Rattle.vx_disk.specs.Racks.{IsRack}
use Rattle.vx_disk.specs.Disks.{Disks, SameBlocks, Untouched}
use Rattle.vx_disk.specs.declared.shelf.Shelf.{Ghosts}
use Rattle.vx_order.specs.declared.facts.SiteFacts.{SiteFacts}
use Rattle.vx_events.specs.Facts.{group_by}
use Rattle.vx_events.specs.declared.said.Said.{Said}
use Rattle.vx_events.specs.declared.said.Said.TheVariants.{DoneAt, Logged}
use Rattle.vx_events.specs.Sayings.{is_written}
use Rattle.vx_diskset.specs.Asked.{FailsAs, LeavesAlone, SameFailing, SetsFuse, disks_told}
use Rattle.vx_diskset.specs.Burning.{Burnt, IsLogged}
use Rattle.vx_diskset.specs.Holds.{KeptBeside}
use Rattle.vx_diskset.specs.Stands.{OverStands, SiteStands}
use Rattle.vx_diskset.specs.Aboves.{below_site}
use Rattle.vx_disk.specs.Spends.{Passed}
use Rattle.vx_diskset.specs.declared.disk_set.DiskSet.{DiskSet}
use Rattle.vx_diskset.specs.declared.disk_set.DiskSet.TheVariants.{Bare, Spoiled, Up, Receives, Down, OfGroup, Over, Gone}
use Rattle.vx_diskset.specs.declared.over_set.OverSite.{OverSite}
use Rattle.vx_diskset.specs.declared.over_set.OverSite.TheVariants.{Origin as OriginSite, Receiver as ReceiverSite, Deported as OverAway, Down as OverFell, Gone as NoOver}
use Rattle.vx_grouped.specs.GroupSites.{GroupSiteStands, site_disks}
use Rattle.vx_grouped.specs.declared.group_site.GroupSite.{GroupSite}
use Rattle.vx_grouped.specs.declared.group_site.GroupSite.TheVariants.{Up as GroupUp, Deported as GroupAway, Down as GroupDown, Marked, Gone as GroupGone}
use Rattle.vx_untold.specs.Shades.{shade_rack, shade_meaning}
use Rattle.vx_diskset.proofs.KeepsFailing.{Same, same_on}
use Rattle.vx_untold.specs.declared.shade.Shade.{Shade}
use Rattle.vx_events.specs.LinkedFacts.{seen_fact}

-- ---- which disks are made to fail is seen by no test

group_as : (state : SiteState) (n : Node) (failing : ℕ → Bool) → group_by state (record n { failing = failing }) ≡ group_by state n
group_as IsBare n failing = refl
group_as IsUp n failing = refl
group_as Deported n failing = refl
group_as IsDown n failing = refl

pub failing_fact : (n : Node) (failing : ℕ → Bool) → seen_fact (record n { failing = failing }) ≡ seen_fact n
failing_fact n failing = ap (λ r. let x : SiteFacts = record (seen_fact n) { rvg = r } in x) (group_as n.state n failing)

fails_on : (o n : Option Disks) (f f' : ℕ → Bool) → f' ≡ f → ((d : Disks) → o ≡ Some d → (u : ℕ) → f u ≡ true → d.failing u ≡ true) → Same o n → (d : Disks) → n ≡ Some d → (u : ℕ) → f' u ≡ true → d.failing u ≡ true
fails_on None None f f' is told same d there u on = absurd (cc)
fails_on None (Some n) f f' is told same d there u on = absurd same
fails_on (Some o) None f f' is told same d there u on = absurd same
fails_on (Some o) (Some n) f f' is told same d there u on =
    let here : n ≡ d = cc in
    ap (λ (x : Disks). x.failing u) (sym here) ∙ same u ∙ told o refl u (ap (λ (h : ℕ → Bool). h u) (sym is) ∙ on)

-- so many calls of this disk fail, or no longer
pub set_on : (disk : ℕ) (on : Bool) (o n : Option Disks) (f : ℕ → Bool) → ((d : Disks) → o ≡ Some d → (u : ℕ) → f u ≡ true → d.failing u ≡ true)
    → WithDisks o n (λ x y. Untouched x y × (y.failing disk ≡ on) × ((u : ℕ) → u ≢ disk → y.failing u ≡ x.failing u)) → (d : Disks) → n ≡ Some d → (u : ℕ) → updated f disk on u ≡ true → d.failing u ≡ true
set_on disk on None None f told sets d there u fails = absurd (cc)
set_on disk on None (Some n) f told sets d there u fails = absurd sets
set_on disk on (Some o) None f told sets d there u fails = absurd sets
set_on disk on (Some o) (Some n) f told sets d there u fails =
    let here : n ≡ d = cc in
    ap (λ (x : Disks). x.failing u) (sym here)
    ∙ all_updated (λ k b. b ≡ true → n.failing k ≡ true) f disk on (λ is. sets.1 ∙ is) (λ k apart is. sets.2 k apart ∙ told o refl k is) u fails

-- what is known where a write is done
pub written_burnt : (P : Disks → Disks → Type 0) (size : ℕ → ℕ) (said : Said) (o n : Disks) → is_written said ≡ true → Burnt P said size o n → Passed o n × P o n
written_burnt P size (DoneAt number) o n is burnt = burnt
written_burnt P size (Logged number) o n is burnt = burnt
written_burnt P size other o n is burnt = absurd (cc)

-- the disk of the log of a write that is done
pub works_by : (o n : Option Disks) (size : ℕ → ℕ) (d : Disks) (said : Said) → is_written said ≡ true → o ≡ Some d → OnDisks o n (Burnt IsLogged said size) → d.failing 0 ≡ false
works_by None n size d said written is on = absurd (cc)
works_by (Some o) None size d said written is on = absurd on
works_by (Some o) (Some n) size d said written is on =
    let same : o ≡ d = cc in ap (λ (x : Disks). x.failing 0) (sym same) ∙ (written_burnt IsLogged size said o n written on.0).1.works

shade_told : {R : Type 0} (g : Ghosts R) → ((r : R) → IsRack (g.meaning r)) → (s : Shade R) → (d : Disks) × ((shade_meaning g.meaning s).disks ≡ Some d)
shade_told g racks s = let rack = shade_rack g.meaning racks s in (rack.told, rack.is)

module _ {R : Type 0} {g : Ghosts R} where
  pub fails_then : (n m : Node) (e after : DiskSet R g) → m.failing ≡ n.failing → SameFailing e after → FailsAs n e → FailsAs m after
  fails_then n m e after is same fails = record { told = λ d there u on. fails_on (disks_told e) (disks_told after) n.failing m.failing is fails.told same.told d there u on }

  pub fuse_keeps : (calls pick : ℕ) (a b : DiskSet R g) → SetsFuse calls pick a b → SameFailing a b
  fuse_keeps calls pick a b did = record { told = same_on (λ o n. SameBlocks o n × (n.fuse ≡ Some (calls, pick))) (disks_told a) (disks_told b) did }

  pub alone_keeps : (a b : DiskSet R g) → LeavesAlone a b → SameFailing a b
  alone_keeps a b did = record { told = same_on Untouched (disks_told a) (disks_told b) did.told }

  -- ---- a write is done only where the disk of the log works

  -- those of a group
  site_told : ((r : R) → IsRack (g.meaning r)) → (n : Node) (s : GroupSite R g) → GroupSiteStands n s → (d : Disks) × ((site_disks s).disks ≡ Some d)
  site_told racks n (GroupUp laid) h = let rack = shade_rack g.meaning racks laid.shelf in (rack.told, rack.is)
  site_told racks n (GroupAway idle) h = let rack = shade_rack g.meaning racks idle.rack in (rack.told, rack.is)
  site_told racks n (GroupDown idle) h = let rack = shade_rack g.meaning racks idle.rack in (rack.told, rack.is)
  site_told racks n (Marked rack) h = ((racks rack).told, (racks rack).is)
  site_told racks n GroupGone h = absurd h

  over_told : ((r : R) → IsRack (g.meaning r)) → (beside : KeptBeside) (n : Node) (s : OverSite R g) → OverStands beside n s → (d : Disks) × ((site_disks (below_site s)).disks ≡ Some d)
  over_told racks beside n (OriginSite f) h = shade_told g racks f.laid.shelf
  over_told racks beside n (ReceiverSite f) h = shade_told g racks f.laid.shelf
  over_told racks beside n (OverAway idle) h = shade_told g racks idle.rack
  over_told racks beside n (OverFell idle) h = shade_told g racks idle.rack
  over_told racks beside n NoOver h = absurd h

  pub told_disks : ((r : R) → IsRack (g.meaning r)) → (beside : KeptBeside) (n : Node) (e : DiskSet R g) → SiteStands beside n e → (d : Disks) × (disks_told e ≡ Some d)
  told_disks racks beside n (Bare rack) h = ((racks rack).told, (racks rack).is)
  told_disks racks beside n (Spoiled rack) h = ((racks rack).told, (racks rack).is)
  told_disks racks beside n (Up rvg) h = ((racks rvg.shelf).told, (racks rvg.shelf).is)
  told_disks racks beside n (Receives s) h = ((racks s.rvg.shelf).told, (racks s.rvg.shelf).is)
  told_disks racks beside n (Down rack) h = ((racks rack).told, (racks rack).is)
  told_disks racks beside n (OfGroup s) h = site_told racks n s.site h.stands
  told_disks racks beside n (Over s) h = over_told racks beside n s.site h.1
  told_disks racks beside n Gone h = absurd h
