-- What an import leaves of the disks of a site whose group had no replicated volume group.
use Rattle.std.proofs.Common.{◌≡◌, ◌∙◌, inl, inr, ◌&&◌, Bool, true, false, ap, refl, subst, sym}
use Rattle.std.specs.Prelude.{Err, IsFalse, None, not, Ok, Option, Result, Some}
use Rattle.vx_disk.specs.Racks.{IsRack}
use Rattle.vx_disk.specs.Shelf.{Lawful, Meaning}
use Rattle.vx_disk.specs.declared.shelf.Shelf.{Ghosts}
use Rattle.vx_history.specs.Groups.{GroupNode}
use Rattle.vx_history.specs.World.{Node}
use Rattle.vx_logimport.specs.declared.rested.Rested.{Rested}
use Rattle.vx_model.specs.declared.errors.Stop.{Stop}
use Rattle.vx_model.specs.declared.errors.Stop.TheVariants.{No as Refused}
use Rattle.vx_model.specs.declared.no.No.TheVariants.{Role as NoRole}
use Rattle.vx_model.specs.declared.units.Units.{Units}
use Rattle.vx_untold.specs.Shades.{rack_of, shade_meaning}
use Rattle.vx_untold.specs.declared.shade.Shade.{Shade}
use Rattle.vx_untold.specs.declared.shade.Shade.TheVariants.{Dark}
use Rattle.vx_watched.specs.Traces.{TellsLess}
use Rattle.vx_grouped.specs.GroupSites.{AwayNoted, DownNoted, idle_below, idle_disks, laid_below, laid_disks, site_below, site_disks}
use Rattle.vx_grouped.specs.SiteEnds.{stops_down}
use Rattle.vx_grouped.specs.SiteMaps.{CameMapped}
use Rattle.vx_grouped.specs.SiteReturns.{SiteImports, SiteRecovers, site_rested}
use Rattle.vx_grouped.specs.declared.group_site.GroupSite.{GroupSite}
use Rattle.vx_grouped.specs.declared.group_site.GroupSite.TheVariants.{Up, Deported, Down, Marked, Gone}
use Rattle.vx_grouped.specs.declared.idle.Idle.{Idle}
use Rattle.vx_grouped.specs.declared.laid.Laid.{Laid}
use Rattle.vx_grouped.proofs.SinceReturns.{dark_armed, return_ready}
use Rattle.vx_diskset.specs.GroupCalls.{AtFound, AtSite, ImportsOn, cut_behind, cut_in}
use Rattle.vx_diskset.specs.GroupSets.{cut_value}
use Rattle.vx_diskset.specs.OverStarts.{BehindPlain, BroughtBy, DarkBack, FellDark, HandsOut, ImportsBy, ImportsIn, PlainFails, PlainStarts, PlainTried, PlainUnits, RaisesBy, RaisesIn, Started, WithPlain}
use Rattle.vx_diskset.specs.Recovers.{RaisesAt, RaisesMapsAt, RisesSince, cut_past}
use Rattle.vx_diskset.specs.declared.disk_set.DiskSet.{DiskSet}
use Rattle.vx_diskset.specs.declared.disk_set.DiskSet.TheVariants.{Bare, Spoiled, Up as UpSet, Receives, Down as DownSet, OfGroup, Over, Gone as GoneSet}
use Rattle.vx_diskset.specs.declared.group_set.CutWrite.{CutWrite}
use Rattle.vx_diskset.specs.declared.group_set.GroupSet.{GroupSet}
use Rattle.vx_diskset.specs.declared.over_set.OverSet.{OverSet}
use Rattle.vx_diskset.proofs.GroupCalling.{IsSettled, rises_fell, rises_returned}
use Rattle.vx_diskset.proofs.OverImports.{rises_alone, rises_on, tried_rises, tried_tells}
use Rattle.vx_diskset.proofs.PlainBacks.{plain_away_mapped, plain_down_mapped, plain_imports, plain_recovers}
use Rattle.vx_diskset.proofs.StaysUp.{not_true}

never_ok : (stop : Stop) → ◌≡◌ {A = Result (Unit {0}) Stop} (Ok tt) (Err stop) → ⊥
never_ok stop is = cc

module _ {R : Type 0} {g : Ghosts R} where
  -- ---- the import, and what is behind it

  pub imports_done : (away : Bool) (old mid : GroupSite R g) (cut : Option CutWrite) (new : DiskSet R g) (answer r : Result (Unit {0}) Stop) → BroughtBy old mid answer → answer ≡ Ok tt → WithPlain away (site_rested old) mid cut new r → ImportsBy away old cut new r
  imports_done away old mid cut new answer r by is over = record { mid = mid; answer = answer; by = by; behind = subst (λ (a : Result (Unit {0}) Stop). BehindPlain away (site_rested old) mid cut new a r) (sym is) over }

  pub imports_stopped : (away : Bool) (old mid : GroupSite R g) (cut : Option CutWrite) (answer : Result (Unit {0}) Stop) (stop : Stop) → BroughtBy old mid answer → answer ≡ Err stop
      → ImportsBy away old cut (let s : GroupSet R g = record { site = mid; cut = cut } in OfGroup s) (Err stop)
  imports_stopped away old mid cut answer stop by is = record {
    mid = mid;
    answer = answer;
    by = by;
    behind = subst (λ (a : Result (Unit {0}) Stop). BehindPlain away (site_rested old) mid cut (let s : GroupSet R g = record { site = mid; cut = cut } in OfGroup s) a (Err stop)) (sym is) (refl, refl);
  }

  pub raises_by : (old : GroupSite R g) (cut : Option CutWrite) (new : DiskSet R g) (answer : Result (Unit {0}) Stop) (r : Result (Option CutWrite) Stop) → ImportsBy false old cut new answer → HandsOut (cut_behind new cut) answer r → RaisesBy old cut new r
  raises_by old cut new answer r by hands = record { answer = answer; by = by; is = hands }

  -- ---- sites that have no group, or one with a replicated volume group

  pub imports_rest : (P : GroupSite R g → Type 0) (Q : GroupSite R g → GroupSite R g → Type 0) (e : DiskSet R g) → ((o : GroupSet R g) → e ≡ OfGroup o → ⊥) → AtSite P e → ImportsOn Q e e
  imports_rest P Q (Bare rack) never it = it
  imports_rest P Q (Spoiled rack) never it = it
  imports_rest P Q (UpSet rvg) never it = it
  imports_rest P Q (Receives s) never it = it
  imports_rest P Q (DownSet rack) never it = it
  imports_rest P Q (OfGroup s) never it = absurd (never s refl)
  imports_rest P Q (Over s) never it = tt
  imports_rest P Q GoneSet never it = it

  pub imports_none : (e new : DiskSet R g) (r : Result (Unit {0}) Stop) → ((s : GroupSet R g) → e ≡ OfGroup s → ⊥) → ((s : OverSet R g) → e ≡ Over s → ⊥) → ImportsIn e new r
  imports_none (Bare rack) new r plain over = tt
  imports_none (Spoiled rack) new r plain over = tt
  imports_none (UpSet rvg) new r plain over = tt
  imports_none (Receives s) new r plain over = tt
  imports_none (DownSet rack) new r plain over = tt
  imports_none (OfGroup s) new r plain over = absurd (plain s refl)
  imports_none (Over s) new r plain over = absurd (over s refl)
  imports_none GoneSet new r plain over = tt

  pub raises_rest : (e new : DiskSet R g) (r : Result (Option CutWrite) Stop) → ((s : GroupSet R g) → e ≡ OfGroup s → ⊥) → ((s : OverSet R g) → e ≡ Over s → ⊥) → RaisesIn e new r
  raises_rest (Bare rack) new r plain over = tt
  raises_rest (Spoiled rack) new r plain over = tt
  raises_rest (UpSet rvg) new r plain over = tt
  raises_rest (Receives s) new r plain over = tt
  raises_rest (DownSet rack) new r plain over = tt
  raises_rest (OfGroup s) new r plain over = absurd (plain s refl)
  raises_rest (Over s) new r plain over = absurd (over s refl)
  raises_rest GoneSet new r plain over = tt

  -- ---- what holds of the group behind the import, by the answer, and so behind what was found

  module _ (P : GroupSite R g → Result (Unit {0}) Stop → Type 0) where
    -- what is not taken up leaves it
    module _ (away : Bool) (rested : Option Rested) (laid : Laid R g) (fails : (units : Units) (mid : Laid R g) (stop : Stop) (e : GroupSite R g) → PlainTried units laid mid stop → DarkBack (away && not (stops_down stop)) rested mid e → P e (Err stop)) where
      found_starts : (units : Units) (cut : Option CutWrite) (new : DiskSet R g) (r : Result (Unit {0}) Stop) → PlainStarts away rested units laid cut new r → AtFound (λ e. P e r) new
      found_starts units cut (Bare rack) r over = absurd over
      found_starts units cut (Spoiled rack) r over = absurd over
      found_starts units cut (UpSet rvg) r over = absurd over
      found_starts units cut (Receives s) r over = absurd over
      found_starts units cut (DownSet rack) r over = absurd over
      found_starts units cut (OfGroup s) (Ok done) over = absurd over
      found_starts units cut (OfGroup s) (Err stop) over = let off : PlainFails away rested units laid cut s stop = over in fails units off.mid stop s.site off.tried off.fell
      found_starts units cut (Over s) r over = tt
      found_starts units cut GoneSet r over = absurd over

      found_units : (rvg : Option Units) (cut : Option CutWrite) (new : DiskSet R g) (r : Result (Unit {0}) Stop) → PlainUnits away rested rvg laid cut new r → P (Up laid) (Ok tt) → AtFound (λ e. P e r) new
      found_units None cut new r over it =
          subst (λ (x : DiskSet R g). AtFound (λ e. P e r) x) (sym over.0) (subst (λ (x : Result (Unit {0}) Stop). P (Up laid) x) (sym over.1) it)
      found_units (Some units) cut new r over it = found_starts units cut new r over

    -- a group that the import left as it was
    found_plain : (e : GroupSite R g) (cut : Option CutWrite) (new : DiskSet R g) (r : Result (Unit {0}) Stop) (stop : Stop) → new ≡ (let s : GroupSet R g = record { site = e; cut = cut } in OfGroup s) → r ≡ Err stop → P e (Err stop) → AtFound (λ e. P e r) new
    found_plain e cut new r stop is refused it =
        subst (λ (x : DiskSet R g). AtFound (λ e. P e r) x) (sym is) (subst (λ (x : Result (Unit {0}) Stop). P e x) (sym refused) it)

  module _ (racks : (s : Shade R) → IsRack (shade_meaning g.meaning s)) (laws : (s : Shade R) → Lawful (shade_meaning g.meaning s)) (old : GroupSite R g) (n : Node) (note : GroupNode) where
    -- ---- of a site that was deported

    imports_behind : (mid : GroupSite R g) (cut : Option CutWrite) (new : DiskSet R g) (answer r : Result (Unit {0}) Stop) → AwayNoted n note old → BroughtBy old mid answer → BehindPlain true (site_rested old) mid cut new answer r → AtFound (λ e. SiteImports n note old e r) new
    imports_behind (Up laid) cut new (Ok done) r noted by behind =
        found_units (λ e a. SiteImports n note old e a) true (site_rested old) laid
        (λ units mid stop e tried fell. plain_imports racks laws n note old laid mid units stop e noted (by.imported n note noted) by.since by.told tried fell) laid.core.inner.config.rvg cut new r behind (by.imported n note noted)
    imports_behind (Deported idle) cut new (Ok done) r noted by behind = let it = by.imported n note noted in absurd it.0.2
    imports_behind (Down idle) cut new (Ok done) r noted by behind = let it = by.imported n note noted in absurd it.0.2
    imports_behind (Marked rack) cut new (Ok done) r noted by behind = let it = by.imported n note noted in absurd it.0.2
    imports_behind Gone cut new (Ok done) r noted by behind = let it = by.imported n note noted in absurd it.0.2
    imports_behind mid cut new (Err stop) r noted by behind = found_plain (λ e a. SiteImports n note old e a) mid cut new r stop behind.0 behind.1 (by.imported n note noted)

    pub import_found : (cut : Option CutWrite) (new : DiskSet R g) (r : Result (Unit {0}) Stop) → ImportsBy true old cut new r → AwayNoted n note old → AtFound (λ e. SiteImports n note old e r) new
    import_found cut new r it noted = imports_behind it.mid cut new it.answer r noted it.by it.behind

    away_behind : (mid : GroupSite R g) (cut : Option CutWrite) (new : DiskSet R g) (answer r : Result (Unit {0}) Stop) → AwayNoted n note old → BroughtBy old mid answer → BehindPlain true (site_rested old) mid cut new answer r → AtFound (λ e. CameMapped old e r) new
    away_behind (Up laid) cut new (Ok done) r noted by behind =
        found_units (λ e a. CameMapped old e a) true (site_rested old) laid (λ units mid stop e tried fell. plain_away_mapped racks laws n note old laid mid units stop e noted tried fell) laid.core.inner.config.rvg cut new r behind by.maps
    away_behind (Deported idle) cut new (Ok done) r noted by behind = let it = by.imported n note noted in absurd it.0.2
    away_behind (Down idle) cut new (Ok done) r noted by behind = let it = by.imported n note noted in absurd it.0.2
    away_behind (Marked rack) cut new (Ok done) r noted by behind = let it = by.imported n note noted in absurd it.0.2
    away_behind Gone cut new (Ok done) r noted by behind = let it = by.imported n note noted in absurd it.0.2
    away_behind mid cut new (Err stop) r noted by behind = found_plain (λ e a. CameMapped old e a) mid cut new r stop behind.0 behind.1 by.maps

    pub import_mapped : (cut : Option CutWrite) (new : DiskSet R g) (r : Result (Unit {0}) Stop) → ImportsBy true old cut new r → AwayNoted n note old → AtFound (λ e. CameMapped old e r) new
    import_mapped cut new r it noted = away_behind it.mid cut new it.answer r noted it.by it.behind

    -- ---- of one that crashed

    recovers_behind : (mid : GroupSite R g) (cut : Option CutWrite) (new : DiskSet R g) (answer r : Result (Unit {0}) Stop) → DownNoted n note old → BroughtBy old mid answer → BehindPlain false (site_rested old) mid cut new answer r → AtFound (λ e. SiteRecovers n note old e r) new
    recovers_behind (Up laid) cut new (Ok done) r noted by behind =
        found_units (λ e a. SiteRecovers n note old e a) false (site_rested old) laid
        (λ units mid stop e tried fell. plain_recovers racks laws n note old laid mid units stop e noted (by.recovered n note noted) by.since by.told tried fell) laid.core.inner.config.rvg cut new r behind (by.recovered n note noted)
    recovers_behind (Deported idle) cut new (Ok done) r noted by behind = let it = by.recovered n note noted in absurd it.2
    recovers_behind (Down idle) cut new (Ok done) r noted by behind = let it = by.recovered n note noted in absurd it.2
    recovers_behind (Marked rack) cut new (Ok done) r noted by behind = let it = by.recovered n note noted in absurd it.2
    recovers_behind Gone cut new (Ok done) r noted by behind = let it = by.recovered n note noted in absurd it.2
    recovers_behind mid cut new (Err stop) r noted by behind = found_plain (λ e a. SiteRecovers n note old e a) mid cut new r stop behind.0 behind.1 (by.recovered n note noted)

    recover_found : (cut : Option CutWrite) (new : DiskSet R g) (r : Result (Unit {0}) Stop) → ImportsBy false old cut new r → DownNoted n note old → AtFound (λ e. SiteRecovers n note old e r) new
    recover_found cut new r it noted = recovers_behind it.mid cut new it.answer r noted it.by it.behind

    down_behind : (mid : GroupSite R g) (cut : Option CutWrite) (new : DiskSet R g) (answer r : Result (Unit {0}) Stop) → DownNoted n note old → BroughtBy old mid answer → BehindPlain false (site_rested old) mid cut new answer r → AtFound (λ e. CameMapped old e r) new
    down_behind (Up laid) cut new (Ok done) r noted by behind =
        found_units (λ e a. CameMapped old e a) false (site_rested old) laid (λ units mid stop e tried fell. plain_down_mapped racks laws n note old laid mid units stop e noted tried fell) laid.core.inner.config.rvg cut new r behind by.maps
    down_behind (Deported idle) cut new (Ok done) r noted by behind = let it = by.recovered n note noted in absurd it.2
    down_behind (Down idle) cut new (Ok done) r noted by behind = let it = by.recovered n note noted in absurd it.2
    down_behind (Marked rack) cut new (Ok done) r noted by behind = let it = by.recovered n note noted in absurd it.2
    down_behind Gone cut new (Ok done) r noted by behind = let it = by.recovered n note noted in absurd it.2
    down_behind mid cut new (Err stop) r noted by behind = found_plain (λ e a. CameMapped old e a) mid cut new r stop behind.0 behind.1 by.maps

    recover_mapped : (cut : Option CutWrite) (new : DiskSet R g) (answer : Result (Unit {0}) Stop) → ImportsBy false old cut new answer → DownNoted n note old → AtFound (λ e. CameMapped old e answer) new
    recover_mapped cut new answer it noted = down_behind it.mid cut new it.answer answer noted it.by it.behind

    -- the same where the write that was cut is handed out
    pub raise_mapped : (cut : Option CutWrite) (new : DiskSet R g) (answer : Result (Unit {0}) Stop) (r : Result (Option CutWrite) Stop) → ImportsBy false old cut new answer → HandsOut (cut_behind new cut) answer r → DownNoted n note old → RaisesMapsAt old new r
    raise_mapped cut new (Ok done) r by hands noted = subst (λ (x : Result (Option CutWrite) Stop). RaisesMapsAt old new x) (sym hands) (recover_mapped cut new (Ok done) by noted)
    raise_mapped cut new (Err stop) r by hands noted = subst (λ (x : Result (Option CutWrite) Stop). RaisesMapsAt old new x) (sym hands) (recover_mapped cut new (Err stop) by noted)

  -- ---- the disks behind it

  module _ (racks : (s : Shade R) → IsRack (shade_meaning g.meaning s)) where
    dark_rises : (rested : Option Rested) (m : Meaning) (mid : Laid R g) (idle : Idle R g) → RisesSince m (laid_disks mid) → FellDark rested mid idle → RisesSince m (idle_disks idle)
    dark_rises rested m mid idle since fell =
        subst (λ (s : Shade R). RisesSince m (shade_meaning g.meaning s)) (sym fell.rack)
        (rises_alone m (idle_disks fell.fell) (shade_meaning g.meaning (Dark (rack_of fell.fell.rack))) (rises_fell m (laid_disks mid) (idle_disks fell.fell) 0xffff_ffff_ffff_ffff since fell.is.stopped fell.is.disks) (return_ready g.meaning false fell.fell.rack)
        (racks (Dark (rack_of fell.fell.rack))) (dark_armed g.meaning fell.fell.rack ∙ fell.is.stopped.unarmed))

    dark_unarmed : (rested : Option Rested) (mid : Laid R g) (idle : Idle R g) → FellDark rested mid idle → IsFalse (idle_disks idle).armed
    dark_unarmed rested mid idle fell = ap (λ (s : Shade R). (shade_meaning g.meaning s).armed) fell.rack ∙ dark_armed g.meaning fell.fell.rack ∙ fell.is.stopped.unarmed

    back_rises : (rested : Option Rested) (away : Bool) (m : Meaning) (mid : Laid R g) (e : GroupSite R g) → RisesSince m (laid_disks mid) → DarkBack away rested mid e → RisesSince m (site_disks e)
    back_rises rested false m mid (Down idle) since fell = dark_rises rested m mid idle since fell
    back_rises rested false m mid (Up laid) since fell = absurd fell
    back_rises rested false m mid (Deported idle) since fell = absurd fell
    back_rises rested false m mid (Marked rack) since fell = absurd fell
    back_rises rested false m mid Gone since fell = absurd fell
    back_rises rested true m mid (Deported idle) since fell =
        rises_alone m (idle_disks fell.0) (idle_disks idle) (dark_rises rested m mid fell.0 since fell.1) fell.2.since (racks idle.rack) (fell.2.armed ∙ dark_unarmed rested mid fell.0 fell.1)
    back_rises rested true m mid (Up laid) since fell = absurd fell
    back_rises rested true m mid (Down idle) since fell = absurd fell
    back_rises rested true m mid (Marked rack) since fell = absurd fell
    back_rises rested true m mid Gone since fell = absurd fell

    back_settled : (rested : Option Rested) (away : Bool) (mid : Laid R g) (e : GroupSite R g) → DarkBack away rested mid e → IsSettled e
    back_settled rested false mid (Down idle) fell = record { rack = racks idle.rack; at = inr (dark_unarmed rested mid idle fell) }
    back_settled rested false mid (Up laid) fell = absurd fell
    back_settled rested false mid (Deported idle) fell = absurd fell
    back_settled rested false mid (Marked rack) fell = absurd fell
    back_settled rested false mid Gone fell = absurd fell
    back_settled rested true mid (Deported idle) fell = record { rack = racks idle.rack; at = inl fell.2.up }
    back_settled rested true mid (Up laid) fell = absurd fell
    back_settled rested true mid (Down idle) fell = absurd fell
    back_settled rested true mid (Marked rack) fell = absurd fell
    back_settled rested true mid Gone fell = absurd fell

    tried_plain : (m : Meaning) (units : Units) (old mid : Laid R g) (stop : Stop) → RisesSince m (laid_disks old) → PlainTried units old mid stop → RisesSince m (laid_disks mid)
    tried_plain m units old mid stop since (inl it) = tried_rises m units old mid stop since it.1
    tried_plain m units old mid stop since (inr it) = subst (λ (x : Laid R g). RisesSince m (laid_disks x)) (sym it.0) since

    starts_rises : (rested : Option Rested) (m : Meaning) (away : Bool) (units : Units) (laid : Laid R g) (cut : Option CutWrite) (new : DiskSet R g) (r : Result (Unit {0}) Stop) → RisesSince m (laid_disks laid) → PlainStarts away rested units laid cut new r → AtSite (λ e. RisesSince m (site_disks e)) new
    starts_rises rested m away units laid cut (Bare rack) r since it = absurd it
    starts_rises rested m away units laid cut (Spoiled rack) r since it = absurd it
    starts_rises rested m away units laid cut (UpSet rvg) r since it = absurd it
    starts_rises rested m away units laid cut (Receives s) r since it = absurd it
    starts_rises rested m away units laid cut (DownSet rack) r since it = absurd it
    starts_rises rested m away units laid cut (OfGroup s) (Ok done) since it = absurd it
    starts_rises rested m away units laid cut (OfGroup s) (Err stop) since it =
        let off : PlainFails away rested units laid cut s stop = it in
        back_rises rested (away && not (stops_down stop)) m off.mid s.site (tried_plain m units laid off.mid stop since off.tried) off.fell
    starts_rises rested m away units laid cut (Over s) (Ok done) since it =
        let up : Started units laid s = it.1 in
        subst (λ (e : GroupSite R g). RisesSince m (site_disks e)) (sym up.site) (rises_on m (laid_disks laid) (laid_disks up.laid) since up.starts.since)
    starts_rises rested m away units laid cut (Over s) (Err stop) since it = absurd it
    starts_rises rested m away units laid cut GoneSet r since it = absurd it

    starts_settled : (rested : Option Rested) (away : Bool) (units : Units) (laid : Laid R g) (cut : Option CutWrite) (new : DiskSet R g) (r : Result (Unit {0}) Stop) → PlainStarts away rested units laid cut new r → AtSite IsSettled new
    starts_settled rested away units laid cut (Bare rack) r it = absurd it
    starts_settled rested away units laid cut (Spoiled rack) r it = absurd it
    starts_settled rested away units laid cut (UpSet rvg) r it = absurd it
    starts_settled rested away units laid cut (Receives s) r it = absurd it
    starts_settled rested away units laid cut (DownSet rack) r it = absurd it
    starts_settled rested away units laid cut (OfGroup s) (Ok done) it = absurd it
    starts_settled rested away units laid cut (OfGroup s) (Err stop) it =
        let off : PlainFails away rested units laid cut s stop = it in
        back_settled rested (away && not (stops_down stop)) off.mid s.site off.fell
    starts_settled rested away units laid cut (Over s) (Ok done) it =
        let up : Started units laid s = it.1 in
        subst (λ (e : GroupSite R g). IsSettled e) (sym up.site) (record { rack = racks up.laid.shelf; at = inl (not_true (laid_disks up.laid).down up.starts.does.3) })
    starts_settled rested away units laid cut (Over s) (Err stop) it = absurd it
    starts_settled rested away units laid cut GoneSet r it = absurd it

  -- ---- what is told of them

  dark_less : (rested : Option Rested) (m : Meaning) (mid : Laid R g) (idle : Idle R g) → TellsLess m (laid_below mid) → FellDark rested mid idle → TellsLess m (idle_below idle)
  dark_less rested m mid idle less fell = subst (λ (s : Shade R). TellsLess m (g.meaning (rack_of s))) (sym fell.rack) (λ told. less (fell.is.told told))

  back_tells : (rested : Option Rested) (away : Bool) (m : Meaning) (mid : Laid R g) (e : GroupSite R g) → TellsLess m (laid_below mid) → DarkBack away rested mid e → TellsLess m (site_below e)
  back_tells rested false m mid (Down idle) less fell = dark_less rested m mid idle less fell
  back_tells rested false m mid (Up laid) less fell = absurd fell
  back_tells rested false m mid (Deported idle) less fell = absurd fell
  back_tells rested false m mid (Marked rack) less fell = absurd fell
  back_tells rested false m mid Gone less fell = absurd fell
  back_tells rested true m mid (Deported idle) less fell = λ told. dark_less rested m mid fell.0 less fell.1 (fell.2.told told)
  back_tells rested true m mid (Up laid) less fell = absurd fell
  back_tells rested true m mid (Down idle) less fell = absurd fell
  back_tells rested true m mid (Marked rack) less fell = absurd fell
  back_tells rested true m mid Gone less fell = absurd fell

  tried_less : (m : Meaning) (units : Units) (old mid : Laid R g) (stop : Stop) → TellsLess m (laid_below old) → PlainTried units old mid stop → TellsLess m (laid_below mid)
  tried_less m units old mid stop less (inl it) = tried_tells m units old mid stop less it.1
  tried_less m units old mid stop less (inr it) = subst (λ (x : Laid R g). TellsLess m (laid_below x)) (sym it.0) less

  starts_tells : (rested : Option Rested) (m : Meaning) (away : Bool) (units : Units) (laid : Laid R g) (cut : Option CutWrite) (new : DiskSet R g) (r : Result (Unit {0}) Stop) → TellsLess m (laid_below laid) → PlainStarts away rested units laid cut new r → AtSite (λ e. TellsLess m (site_below e)) new
  starts_tells rested m away units laid cut (Bare rack) r less it = absurd it
  starts_tells rested m away units laid cut (Spoiled rack) r less it = absurd it
  starts_tells rested m away units laid cut (UpSet rvg) r less it = absurd it
  starts_tells rested m away units laid cut (Receives s) r less it = absurd it
  starts_tells rested m away units laid cut (DownSet rack) r less it = absurd it
  starts_tells rested m away units laid cut (OfGroup s) (Ok done) less it = absurd it
  starts_tells rested m away units laid cut (OfGroup s) (Err stop) less it =
      let off : PlainFails away rested units laid cut s stop = it in
      back_tells rested (away && not (stops_down stop)) m off.mid s.site (tried_less m units laid off.mid stop less off.tried) off.fell
  starts_tells rested m away units laid cut (Over s) (Ok done) less it =
      let up : Started units laid s = it.1 in
      subst (λ (e : GroupSite R g). TellsLess m (site_below e)) (sym up.site) (λ told. less (up.starts.told told))
  starts_tells rested m away units laid cut (Over s) (Err stop) less it = absurd it
  starts_tells rested m away units laid cut GoneSet r less it = absurd it

  -- ---- behind the import, and behind what was found

  module _ (P : GroupSite R g → Type 0) (away : Bool) (rested : Option Rested) (starts : (laid : Laid R g) (units : Units) (cut : Option CutWrite) (new : DiskSet R g) (r : Result (Unit {0}) Stop) → P (Up laid) → PlainStarts away rested units laid cut new r → AtSite P new) where
    at_units : (laid : Laid R g) (rvg : Option Units) (cut : Option CutWrite) (new : DiskSet R g) (r : Result (Unit {0}) Stop) → P (Up laid) → PlainUnits away rested rvg laid cut new r → AtSite P new
    at_units laid None cut new r it over = subst (λ (x : DiskSet R g). AtSite P x) (sym over.0) it
    at_units laid (Some units) cut new r it over = starts laid units cut new r it over

    at_same : (e : GroupSite R g) (cut : Option CutWrite) (new : DiskSet R g) → P e → new ≡ (let s : GroupSet R g = record { site = e; cut = cut } in OfGroup s) → AtSite P new
    at_same e cut new it is = subst (λ (x : DiskSet R g). AtSite P x) (sym is) it

    at_with : (e : GroupSite R g) (cut : Option CutWrite) (new : DiskSet R g) (r : Result (Unit {0}) Stop) → P e → WithPlain away rested e cut new r → AtSite P new
    at_with (Up laid) cut new r it over = at_units laid laid.core.inner.config.rvg cut new r it over
    at_with (Deported idle) cut new r it over = at_same (Deported idle) cut new it over.0
    at_with (Down idle) cut new r it over = at_same (Down idle) cut new it over.0
    at_with (Marked rack) cut new r it over = at_same (Marked rack) cut new it over.0
    at_with Gone cut new r it over = at_same Gone cut new it over.0

    at_behind : (mid : GroupSite R g) (cut : Option CutWrite) (new : DiskSet R g) (answer r : Result (Unit {0}) Stop) → P mid → BehindPlain away rested mid cut new answer r → AtSite P new
    at_behind mid cut new (Ok done) r it behind = at_with mid cut new r it behind
    at_behind mid cut new (Err stop) r it behind = at_same mid cut new it behind.0

  module _ (racks : (s : Shade R) → IsRack (shade_meaning g.meaning s)) (away : Bool) where
    pub import_rises : (old : GroupSite R g) (cut : Option CutWrite) (new : DiskSet R g) (r : Result (Unit {0}) Stop) → ImportsBy away old cut new r → AtSite (λ e. RisesSince (site_disks old) (site_disks e)) new
    import_rises old cut new r it =
        at_behind (λ e. RisesSince (site_disks old) (site_disks e)) away (site_rested old) (λ laid units cut new r since over. starts_rises racks (site_rested old) (site_disks old) away units laid cut new r since over) it.mid cut new it.answer r (rises_returned (site_disks old) (site_disks it.mid) it.by.since) it.behind

    -- the same of a group that was found
    pub with_rises : (rested : Option Rested) (m : Meaning) (e : GroupSite R g) (cut : Option CutWrite) (new : DiskSet R g) (r : Result (Unit {0}) Stop) → RisesSince m (site_disks e) → WithPlain away rested e cut new r → AtSite (λ x. RisesSince m (site_disks x)) new
    with_rises rested m e cut new r since over = at_with (λ x. RisesSince m (site_disks x)) away rested (λ laid units cut new r up starts. starts_rises racks rested m away units laid cut new r up starts) e cut new r since over

    pub import_settles : (old : GroupSite R g) (cut : Option CutWrite) (new : DiskSet R g) (r : Result (Unit {0}) Stop) (it : ImportsBy away old cut new r) → IsSettled it.mid → AtSite IsSettled new
    import_settles old cut new r it settled = at_behind IsSettled away (site_rested old) (λ laid units cut new r up over. starts_settled racks (site_rested old) away units laid cut new r over) it.mid cut new it.answer r settled it.behind

  pub import_tells : (away : Bool) (old : GroupSite R g) (cut : Option CutWrite) (new : DiskSet R g) (r : Result (Unit {0}) Stop) → ImportsBy away old cut new r → AtSite (λ e. TellsLess (site_below old) (site_below e)) new
  import_tells away old cut new r it =
      at_behind (λ e. TellsLess (site_below old) (site_below e)) away (site_rested old) (λ laid units cut new r less over. starts_tells (site_rested old) (site_below old) away units laid cut new r less over) it.mid cut new it.answer r it.by.told it.behind

  pub with_tells : (away : Bool) (rested : Option Rested) (m : Meaning) (e : GroupSite R g) (cut : Option CutWrite) (new : DiskSet R g) (r : Result (Unit {0}) Stop) → TellsLess m (site_below e) → WithPlain away rested e cut new r → AtSite (λ x. TellsLess m (site_below x)) new
  with_tells away rested m e cut new r less over = at_with (λ x. TellsLess m (site_below x)) away rested (λ laid units cut new r up starts. starts_tells rested m away units laid cut new r up starts) e cut new r less over

  -- ---- the write that is cut behind it

  -- none where it came up, the same where it did not
  abbrev pub CutAs : Option CutWrite → Result (Unit {0}) Stop → DiskSet R g → Type 0
  CutAs cut (Ok done) new = cut_in new ≡ None
  CutAs cut (Err stop) new = cut_in new ≡ cut_value cut

  cut_starts : (rested : Option Rested) (away : Bool) (units : Units) (laid : Laid R g) (cut : Option CutWrite) (new : DiskSet R g) (r : Result (Unit {0}) Stop) → PlainStarts away rested units laid cut new r → CutAs cut r new
  cut_starts rested away units laid cut (Bare rack) r it = absurd it
  cut_starts rested away units laid cut (Spoiled rack) r it = absurd it
  cut_starts rested away units laid cut (UpSet rvg) r it = absurd it
  cut_starts rested away units laid cut (Receives s) r it = absurd it
  cut_starts rested away units laid cut (DownSet rack) r it = absurd it
  cut_starts rested away units laid cut (OfGroup s) (Ok done) it = absurd it
  cut_starts rested away units laid cut (OfGroup s) (Err stop) it = let off : PlainFails away rested units laid cut s stop = it in ap (λ (k : Option CutWrite). cut_value k) off.cut_is
  cut_starts rested away units laid cut (Over s) (Ok done) it = let up : Started units laid s = it.1 in ap (λ (k : Option CutWrite). cut_value k) up.cut
  cut_starts rested away units laid cut (Over s) (Err stop) it = absurd it
  cut_starts rested away units laid cut GoneSet r it = absurd it

  cut_units : (rested : Option Rested) (away : Bool) (rvg : Option Units) (laid : Laid R g) (cut : Option CutWrite) (new : DiskSet R g) (r : Result (Unit {0}) Stop) → PlainUnits away rested rvg laid cut new r → CutAs cut r new
  cut_units rested away None laid cut new r it = subst (λ (x : Result (Unit {0}) Stop). CutAs cut x new) (sym it.1) (ap (λ (x : DiskSet R g). cut_in x) it.0)
  cut_units rested away (Some units) laid cut new r it = cut_starts rested away units laid cut new r it

  -- of a site that is not up it is the same
  cut_same : (e : GroupSite R g) (cut : Option CutWrite) (new : DiskSet R g) (r : Result (Unit {0}) Stop) (stop : Stop) → new ≡ (let s : GroupSet R g = record { site = e; cut = cut } in OfGroup s) → r ≡ Err stop → CutAs cut r new
  cut_same e cut new r stop is refused = subst (λ (x : Result (Unit {0}) Stop). CutAs cut x new) (sym refused) (ap (λ (x : DiskSet R g). cut_in x) is)

  cut_behind_it : (rested : Option Rested) (away : Bool) (mid : GroupSite R g) (cut : Option CutWrite) (new : DiskSet R g) (answer r : Result (Unit {0}) Stop) → BehindPlain away rested mid cut new answer r → CutAs cut r new
  cut_behind_it rested away (Up laid) cut new (Ok done) r behind = cut_units rested away laid.core.inner.config.rvg laid cut new r behind
  cut_behind_it rested away (Deported idle) cut new (Ok done) r behind = cut_same (Deported idle) cut new r (Refused NoRole) behind.0 behind.1
  cut_behind_it rested away (Down idle) cut new (Ok done) r behind = cut_same (Down idle) cut new r (Refused NoRole) behind.0 behind.1
  cut_behind_it rested away (Marked rack) cut new (Ok done) r behind = cut_same (Marked rack) cut new r (Refused NoRole) behind.0 behind.1
  cut_behind_it rested away Gone cut new (Ok done) r behind = cut_same Gone cut new r (Refused NoRole) behind.0 behind.1
  cut_behind_it rested away mid cut new (Err stop) r behind = cut_same mid cut new r stop behind.0 behind.1

  pub import_cut : (away : Bool) (old : GroupSite R g) (cut : Option CutWrite) (new : DiskSet R g) (r : Result (Unit {0}) Stop) → ImportsBy away old cut new r → CutAs cut r new
  import_cut away old cut new r it = cut_behind_it (site_rested old) away it.mid cut new it.answer r it.behind

  pub past_group : (s : GroupSet R g) (new : DiskSet R g) (r : Result (Unit {0}) Stop) → ImportsBy true s.site s.cut new r → cut_in new ≡ cut_past r (OfGroup s)
  past_group s new (Ok done) it = import_cut true s.site s.cut new (Ok done) it
  past_group s new (Err stop) it = import_cut true s.site s.cut new (Err stop) it

  -- ---- a recovery

  module _ (racks : (s : Shade R) → IsRack (shade_meaning g.meaning s)) (laws : (s : Shade R) → Lawful (shade_meaning g.meaning s)) (old : GroupSite R g) (was : Option CutWrite) (n : Node) (note : GroupNode) (new : DiskSet R g) where
    pub import_raises : (answer : Result (Unit {0}) Stop) (r : Result (Option CutWrite) Stop) → ImportsBy false old was new answer → HandsOut (cut_behind new was) answer r → DownNoted n note old → RaisesAt n note old was new r
    import_raises (Ok done) r by hands noted =
        subst (λ (x : Result (Option CutWrite) Stop). RaisesAt n note old was new x) (sym hands) (recover_found racks laws old n note was new (Ok done) by noted, import_cut false old was new (Ok done) by, refl)
    import_raises (Err stop) r by hands noted =
        subst (λ (x : Result (Option CutWrite) Stop). RaisesAt n note old was new x) (sym hands)
        (record { refused = recover_found racks laws old n note was new (Err stop) by noted; cut_stays = import_cut false old was new (Err stop) by })

  -- ---- a group that came up without a replicated volume group has a configuration without one

  plain_starts_none : (rested : Option Rested) (away : Bool) (units : Units) (laid : Laid R g) (cut : Option CutWrite) (s : GroupSet R g) → PlainStarts away rested units laid cut (OfGroup s) (Ok tt) → (x : Laid R g) × (s.site ≡ Up x) × (x.core.inner.config.rvg ≡ None)
  plain_starts_none rested away units laid cut s it = absurd it

  plain_rvg : (rested : Option Rested) (away : Bool) (rvg : Option Units) (laid : Laid R g) (cut : Option CutWrite) (s : GroupSet R g) → laid.core.inner.config.rvg ≡ rvg → PlainUnits away rested rvg laid cut (OfGroup s) (Ok tt) → (x : Laid R g) × (s.site ≡ Up x) × (x.core.inner.config.rvg ≡ None)
  plain_rvg rested away None laid cut s is it = (laid, group_site (OfGroup s) it.0, is)
    where
      site_of : DiskSet R g → GroupSite R g
      site_of (OfGroup x) = x.site
      site_of other = Gone

      group_site : (e : DiskSet R g) → e ≡ (let x : GroupSet R g = record { site = Up laid; cut = None } in OfGroup x) → site_of e ≡ Up laid
      group_site e same = ap (λ (x : DiskSet R g). site_of x) same
  plain_rvg rested away (Some units) laid cut s is it = plain_starts_none rested away units laid cut s it

  plain_behind : (rested : Option Rested) (away : Bool) (mid : GroupSite R g) (cut : Option CutWrite) (s : GroupSet R g) (answer : Result (Unit {0}) Stop) → BehindPlain away rested mid cut (OfGroup s) answer (Ok tt) → (x : Laid R g) × (s.site ≡ Up x) × (x.core.inner.config.rvg ≡ None)
  plain_behind rested away (Up laid) cut s (Ok done) behind = plain_rvg rested away laid.core.inner.config.rvg laid cut s refl behind
  plain_behind rested away (Deported idle) cut s (Ok done) behind = absurd (never_ok (Refused NoRole) behind.1)
  plain_behind rested away (Down idle) cut s (Ok done) behind = absurd (never_ok (Refused NoRole) behind.1)
  plain_behind rested away (Marked rack) cut s (Ok done) behind = absurd (never_ok (Refused NoRole) behind.1)
  plain_behind rested away Gone cut s (Ok done) behind = absurd (never_ok (Refused NoRole) behind.1)
  plain_behind rested away mid cut s (Err stop) behind = absurd (never_ok stop behind.1)

  pub imports_plain : (away : Bool) (old : GroupSite R g) (cut : Option CutWrite) (s : GroupSet R g) → ImportsBy away old cut (OfGroup s) (Ok tt) → (x : Laid R g) × (s.site ≡ Up x) × (x.core.inner.config.rvg ≡ None)
  imports_plain away old cut s it = plain_behind (site_rested old) away it.mid cut s it.answer it.behind
