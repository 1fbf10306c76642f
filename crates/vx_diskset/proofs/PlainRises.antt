-- A replicated volume group that a recovery or an import finds over a group that had none, where nothing is known of what the disks hold.
use Rattle.std.proofs.Common.{◌≡◌, ◌∙◌, ◌⊎◌, inl, inr, Bool, true, false, [], IsTrue, refl, subst, sym}
use Rattle.std.specs.Prelude.{◌||◌, Err, None, Ok, Option, Result, Some}
use Rattle.vx_disk.specs.Shelf.{Lawful}
use Rattle.vx_disk.specs.declared.shelf.Shelf.{Ghosts}
use Rattle.vx_grouped.specs.GroupNotes.{note_dimmed}
use Rattle.vx_grouped.specs.GroupSites.{AwayNoted, DownNoted, GroupSiteStands, dimmed_site, laid_disks}
use Rattle.vx_grouped.specs.SiteReturns.{ReturnsUp, SiteImports, SiteRecovers, as_imported, is_dimmed, returned_with, site_rested}
use Rattle.vx_grouped.specs.declared.group_site.GroupSite.{GroupSite}
use Rattle.vx_grouped.specs.declared.group_site.GroupSite.TheVariants.{Up, Deported, Down, Marked, Gone}
use Rattle.vx_grouped.specs.declared.laid.Laid.{Laid}
use Rattle.vx_grouped.proofs.LitLemmas.{dims_away, dims_down}
use Rattle.vx_history.specs.Groups.{GroupNode}
use Rattle.vx_history.specs.World.{Node}
use Rattle.vx_history.proofs.Fuses.{burned_twice}
use Rattle.vx_logimport.specs.declared.rested.Rested.{Rested}
use Rattle.vx_model.proofs.Tests.{by_bool}
use Rattle.vx_model.specs.declared.errors.Stop.{Stop}
use Rattle.vx_model.specs.declared.site.SiteState.TheVariants.{Bare as IsBare, Deported as IsAway, Down as IsDown, Up as IsUp}
use Rattle.vx_model.specs.declared.units.Units.{Units}
use Rattle.vx_untold.specs.Shades.{shade_meaning}
use Rattle.vx_untold.specs.declared.shade.Shade.{Shade}
use Rattle.vx_diskset.specs.Holds.{KeptBeside}
use Rattle.vx_diskset.specs.OverRises.{FindsOver, PlainFound}
use Rattle.vx_diskset.specs.OverStarts.{BehindPlain, ImportsBy, PlainUnits, Started, WithPlain}
use Rattle.vx_diskset.specs.Stands.{IsGroupSet}
use Rattle.vx_diskset.specs.declared.disk_set.DiskSet.{DiskSet}
use Rattle.vx_diskset.specs.declared.disk_set.DiskSet.TheVariants.{Bare, Spoiled, Up as UpSet, Receives, Down as DownSet, OfGroup, Over, Gone as GoneSet}
use Rattle.vx_diskset.specs.declared.group_set.CutWrite.{CutWrite}
use Rattle.vx_diskset.specs.declared.group_set.GroupSet.{GroupSet}
use Rattle.vx_diskset.specs.declared.over_set.OverSet.{OverSet}
use Rattle.vx_diskset.proofs.FoundOvers.{dark_untold, found_less, found_over_set}

one_note : (x y : GroupNode) → Some x ≡ Some y → x ≡ y
one_note x y same = cc

dark_note : (d b : Bool) → d ≡ false → (d || b) ≡ true → b ≡ true
dark_note false b off it = it
dark_note true b off it = absurd (let clash : true ≡ false = off in cc)

module _ {R : Type 0} {g : Ghosts R} where
  -- ---- what the site notes

  away_as : (n : Node) (note : GroupNode) (e : GroupSite R g) → GroupSiteStands n e → n.group ≡ Some note → n.state ≡ IsAway → AwayNoted n note e
  away_as n note (Up laid) (other, it) group away = absurd (let clash : IsUp ≡ IsAway = sym it.at.state ∙ away in cc)
  away_as n note (Deported idle) (other, it) group away = subst (λ (k : GroupNode). AwayNoted {g = g} n k (Deported idle)) (one_note other note (sym it.noted.is ∙ group)) it
  away_as n note (Down idle) (other, it) group away = absurd (let clash : IsDown ≡ IsAway = sym it.away.state ∙ away in cc)
  away_as n note (Marked rack) it group away = absurd (let clash : IsBare ≡ IsAway = sym it.state ∙ away in cc)
  away_as n note Gone it group away = absurd it

  down_as : (n : Node) (note : GroupNode) (e : GroupSite R g) → GroupSiteStands n e → n.group ≡ Some note → n.state ≡ IsDown → DownNoted n note e
  down_as n note (Up laid) (other, it) group down = absurd (let clash : IsUp ≡ IsDown = sym it.at.state ∙ down in cc)
  down_as n note (Deported idle) (other, it) group down = absurd (let clash : IsAway ≡ IsDown = sym it.away.state ∙ down in cc)
  down_as n note (Down idle) (other, it) group down = subst (λ (k : GroupNode). DownNoted {g = g} n k (Down idle)) (one_note other note (sym it.noted.is ∙ group)) it
  down_as n note (Marked rack) it group down = absurd (let clash : IsBare ≡ IsDown = sym it.state ∙ down in cc)
  down_as n note Gone it group down = absurd it

  never_plain : (p : OverSet R g) (x : GroupSet R g) → Over p ≡ OfGroup x → ⊥
  never_plain p x is = cc

-- ---- what was started over the group as the import brought it

module _ {R : Type 0} {g : Ghosts R} (laws : (s : Shade R) → Lawful (shade_meaning g.meaning s)) (beside : KeptBeside) (n : Node) (note : GroupNode) (old : GroupSite R g) (away : Bool) (rested : Option Rested) (cut : Option CutWrite) (p : OverSet R g)
    (sure : beside.doubt ≡ None) (links : beside.links ≡ []) (dims : is_dimmed old ≡ true → note.loose ≡ true) where
  abbrev ready : GroupNode
  ready = note_dimmed (is_dimmed old) note

  abbrev here : Node
  here = dimmed_site (is_dimmed old) note n

  known : (middle : GroupNode) → middle.dark ≡ ready.dark → middle.dark ≡ true → (note.dark ≡ true) ⊎ (note.loose ≡ true)
  known middle same dark = by_bool (is_dimmed old) (λ is. inr (dims is)) (λ off. inl (dark_note (is_dimmed old) note.dark off (sym same ∙ dark)))

  found_on : (laid : Laid R g) (units : Units) → ReturnsUp here ready (as_imported old) (Up laid) → laid.core.inner.config.rvg ≡ Some units → (IsTrue (laid_disks laid).tells → ⊥) → Started units laid p → PlainFound beside n note p
  found_on laid units it has dim started =
      let found = found_over_set laws n (returned_with it.0 here) it.0 units laid p it.2 has dim started refl refl (burned_twice n.fuse) it.1.cut beside sure links in
      record {
        over = found.0;
        less = found_less laws n (returned_with it.0 here) it.0 units laid p it.2 has dim started refl refl (burned_twice n.fuse) it.1.cut note found.0.next found.1 (known it.0 it.1.dark);
      }

  by_units : (laid : Laid R g) (o : Option Units) (r : Result (Unit {0}) Stop) → ReturnsUp here ready (as_imported old) (Up laid) → laid.core.inner.config.rvg ≡ o → PlainUnits away rested o laid cut (Over p) r → PlainFound beside n note p
  by_units laid None r it is starts = absurd (never_plain p (record { site = Up laid; cut = None }) starts.0)
  by_units laid (Some units) (Ok done) it is starts = found_on laid units it is (dark_untold g.meaning laid.shelf starts.0) starts.1
  by_units laid (Some units) (Err stop) it is starts = absurd starts

  by_with : (mid : GroupSite R g) (r : Result (Unit {0}) Stop) → ReturnsUp here ready (as_imported old) mid → WithPlain away rested mid cut (Over p) r → PlainFound beside n note p
  by_with (Up laid) r it over = by_units laid laid.core.inner.config.rvg r it refl over
  by_with (Deported idle) r it over = absurd it.2
  by_with (Down idle) r it over = absurd it.2
  by_with (Marked rack) r it over = absurd it.2
  by_with Gone r it over = absurd it.2

  plain_found : (mid : GroupSite R g) (answer r : Result (Unit {0}) Stop) → ((done : Unit {0}) → answer ≡ Ok done → ReturnsUp here ready (as_imported old) mid) → BehindPlain away rested mid cut (Over p) answer r → PlainFound beside n note p
  plain_found mid (Ok done) r returns behind = by_with mid r (returns done refl) behind
  plain_found mid (Err stop) r returns behind = absurd (never_plain p (record { site = mid; cut = cut }) behind.0)

-- ---- an import of a site that was deported, and a recovery of one that is down

module _ {R : Type 0} {g : Ghosts R} (laws : (s : Shade R) → Lawful (shade_meaning g.meaning s)) (beside : KeptBeside) (n : Node) (note : GroupNode) (s : GroupSet R g) (stands : IsGroupSet beside n s) (group : n.group ≡ Some note) where
  pub finds_away : (new : DiskSet R g) (r : Result (Unit {0}) Stop) → n.state ≡ IsAway → ImportsBy true s.site s.cut new r → FindsOver beside n note (OfGroup s) new
  finds_away (Over p) r away by =
      let noted = away_as n note s.site stands.stands group away in
      plain_found laws beside n note s.site true (site_rested s.site) s.cut p (stands.sure never_bare) (stands.unlinked never_bare) (dims_away n note s.site noted) by.mid by.answer r
      (λ done is. (subst (λ (a : Result (Unit {0}) Stop). SiteImports n note s.site by.mid a) is (by.by.imported n note noted)).0) by.behind
    where
      never_bare : n.state ≡ IsBare → ⊥
      never_bare bare = let clash : IsAway ≡ IsBare = sym away ∙ bare in cc
  finds_away (Bare rack) r away by = tt
  finds_away (Spoiled rack) r away by = tt
  finds_away (UpSet rvg) r away by = tt
  finds_away (Receives x) r away by = tt
  finds_away (DownSet rack) r away by = tt
  finds_away (OfGroup x) r away by = tt
  finds_away GoneSet r away by = tt

  pub finds_down : (new : DiskSet R g) (r : Result (Unit {0}) Stop) → n.state ≡ IsDown → ImportsBy false s.site s.cut new r → FindsOver beside n note (OfGroup s) new
  finds_down (Over p) r down by =
      let noted = down_as n note s.site stands.stands group down in
      plain_found laws beside n note s.site false (site_rested s.site) s.cut p (stands.sure never_bare) (stands.unlinked never_bare) (dims_down n note s.site noted) by.mid by.answer r
      (λ done is. subst (λ (a : Result (Unit {0}) Stop). SiteRecovers n note s.site by.mid a) is (by.by.recovered n note noted)) by.behind
    where
      never_bare : n.state ≡ IsBare → ⊥
      never_bare bare = let clash : IsDown ≡ IsBare = sym down ∙ bare in cc
  finds_down (Bare rack) r down by = tt
  finds_down (Spoiled rack) r down by = tt
  finds_down (UpSet rvg) r down by = tt
  finds_down (Receives x) r down by = tt
  finds_down (DownSet rack) r down by = tt
  finds_down (OfGroup x) r down by = tt
  finds_down GoneSet r down by = tt

-- of other disks nothing is said
pub finds_rest : {R : Type 0} {g : Ghosts R} (beside : KeptBeside) (n : Node) (note : GroupNode) (e new : DiskSet R g) → ((s : GroupSet R g) → e ≡ OfGroup s → ⊥) → FindsOver beside n note e new
finds_rest beside n note (Bare rack) new plain = tt
finds_rest beside n note (Spoiled rack) new plain = tt
finds_rest beside n note (UpSet rvg) new plain = tt
finds_rest beside n note (Receives x) new plain = tt
finds_rest beside n note (DownSet rack) new plain = tt
finds_rest beside n note (OfGroup s) new plain = absurd (plain s refl)
finds_rest beside n note (Over s) new plain = tt
finds_rest beside n note GoneSet new plain = tt
