-- What a recovery leaves of the disks of a site whose group has a replicated volume group.
use Rattle.std.proofs.Common.{◌≡◌, ◌∙◌, Bool, true, false, ap, arith, inl, inr, refl, subst, sym}
use Rattle.std.specs.Prelude.{◌&&◌, Err, IsFalse, None, Ok, Option, Result, Some, not}
use Rattle.vx_disk.specs.Disks.{Disks}
use Rattle.vx_disk.specs.Racks.{IsRack}
use Rattle.vx_disk.specs.Shelf.{Meaning}
use Rattle.vx_disk.specs.declared.shelf.Shelf.{Ghosts}
use Rattle.vx_model.specs.declared.errors.Stop.{Stop}
use Rattle.vx_model.specs.declared.errors.Stop.TheVariants.{No as Refused, OutOfMemory}
use Rattle.vx_model.specs.declared.units.Units.{Units}
use Rattle.vx_untold.specs.Shades.{rack_of, shade_meaning}
use Rattle.vx_untold.specs.declared.shade.Shade.{Shade}
use Rattle.vx_watched.specs.Since.{CalledSince, is_rack}
use Rattle.vx_watched.specs.Traces.{TellsLess}
use Rattle.vx_grouped.specs.Brings.{AnswersUp, ComesUp}
use Rattle.vx_grouped.specs.GroupSites.{idle_below, idle_disks, laid_below, laid_disks, site_below, site_disks}
use Rattle.vx_grouped.specs.SiteEnds.{stops_down}
use Rattle.vx_grouped.specs.SiteReturns.{ReturnSince}
use Rattle.vx_grouped.specs.declared.group_site.GroupSite.{GroupSite}
use Rattle.vx_grouped.specs.declared.group_site.GroupSite.TheVariants.{Up, Deported, Down, Marked, Gone}
use Rattle.vx_grouped.specs.declared.idle.Idle.{Idle}
use Rattle.vx_grouped.specs.declared.laid.Laid.{Laid}
use Rattle.vx_diskset.specs.Aboves.{AboveStays, site_in}
use Rattle.vx_diskset.specs.GroupCalls.{AtOver, AtSite, cut_above, cut_in}
use Rattle.vx_diskset.specs.GroupSets.{cut_value}
use Rattle.vx_diskset.specs.OverStarts.{BackAt, BehindImport, BroughtBy, FellBack, HandsOut, RaisesOver, StartFails, Started, StartsOver, TakesOver, TriedOn, WithRvg, WithUnits}
use Rattle.vx_diskset.specs.Recovers.{RisesSince}
use Rattle.vx_diskset.specs.declared.above.Above.{Above}
use Rattle.vx_diskset.specs.declared.disk_set.DiskSet.{DiskSet}
use Rattle.vx_diskset.specs.declared.disk_set.DiskSet.TheVariants.{Bare, Spoiled, Up as UpSet, Receives, Down as DownSet, OfGroup, Over, Gone as GoneSet}
use Rattle.vx_diskset.specs.declared.group_set.CutWrite.{CutWrite}
use Rattle.vx_diskset.specs.declared.group_set.GroupSet.{GroupSet}
use Rattle.vx_diskset.proofs.GroupCalling.{never_set, rises_fell, rises_returned}

-- ---- disks behind an import, and behind what followed

was_up : (before after : Bool) → (before ≡ true → after ≡ true) → IsFalse after → IsFalse before
was_up false after falls up = refl
was_up true after falls up = absurd (let e : true ≡ false = sym (falls refl) ∙ up in cc)

some_rack : (o : Option Disks) → is_rack o ≡ true → (y : Disks) × (o ≡ Some y)
some_rack None is = absurd (let e : false ≡ true = is in cc)
some_rack (Some y) is = (y, refl)

-- where something is told of the disks before and behind, so it is between
between : (m a : Meaning) (x : Disks) → is_rack a.disks ≡ is_rack m.disks → m.disks ≡ Some x → (y : Disks) × (a.disks ≡ Some y)
between m a x rack is = some_rack a.disks (rack ∙ ap (λ (o : Option Disks). is_rack o) is)

-- and then calls
pub rises_on : (m a b : Meaning) → RisesSince m a → CalledSince a b → RisesSince m b
rises_on m a b first after = record {
  counts = λ d. let one = first.counts d in let two = after.counts d in omega (arith, one, two);
  rack = after.rack ∙ first.rack;
  failing = λ x z was is u.
      let mid = between m a x first.rack was in
      (after.told mid.0 z mid.1 is).failing u ∙ first.failing x mid.0 was mid.1 u;
  passes = λ x z was is up.
      let mid = between m a x first.rack was in
      let one = first.passes x mid.0 was mid.1 (was_up a.down b.down after.falls up) in
      let two = (after.told mid.0 z mid.1 is).fuse up in
      record {
        failing = λ u. (after.told mid.0 z mid.1 is).failing u ∙ one.failing u;
        set = λ on. one.set (sym two.set ∙ on);
        left = λ on. let later = one.left (sym two.set ∙ on) in let more = two.left in omega (arith, later, more);
      };
}

-- and then, of disks without a fuse, a rise by themselves
pub rises_alone : (m a b : Meaning) → RisesSince m a → ReturnSince a b → IsRack b → IsFalse b.armed → RisesSince m b
rises_alone m a b first after rack unarmed = record {
  counts = λ d. let one = first.counts d in let two = after.counts d in omega (arith, one, two);
  rack = after.rack ∙ first.rack;
  failing = λ x z was is u.
      let mid = between m a x first.rack was in
      (after.told mid.0 z mid.1 is).failing u ∙ first.failing x mid.0 was mid.1 u;
  passes = λ x z was is up.
      let mid = between m a x first.rack was in
      record {
        failing = λ u. (after.told mid.0 z mid.1 is).failing u ∙ first.failing x mid.0 was mid.1 u;
        set = λ on. absurd (never_set b rack unarmed z is on);
        left = λ on. absurd (never_set b rack unarmed z is on);
      };
}

module _ {R : Type 0} {g : Ghosts R} where
  -- ---- the import, and what is behind it

  -- by other names of the group
  pub brought_as : (old o mid : GroupSite R g) (answer : Result (Unit {0}) Stop) → old ≡ o → BroughtBy old mid answer → BroughtBy o mid answer
  brought_as old o mid answer is it = subst (λ (x : GroupSite R g). BroughtBy x mid answer) is it

  pub raises_done : (old mid : GroupSite R g) (was cut : Option CutWrite) (new : DiskSet R g) (answer started : Result (Unit {0}) Stop) (r : Result (Option CutWrite) Stop) → BroughtBy old mid answer → was ≡ cut → answer ≡ Ok tt → WithRvg false mid was new started → HandsOut (cut_above new was) started r → RaisesOver old cut new r
  raises_done old mid was cut new answer started r by same is over hands = record {
    mid = mid;
    answer = answer;
    by = by;
    started = started;
    behind = subst (λ (a : Result (Unit {0}) Stop). BehindImport false mid cut new a started) (sym is) (subst (λ (k : Option CutWrite). WithRvg false mid k new started) same over);
    is = subst (λ (k : Option CutWrite). HandsOut (cut_above new k) started r) same hands;
  }

  pub raises_stopped : (old mid : GroupSite R g) (cut : Option CutWrite) (new : DiskSet R g) (answer : Result (Unit {0}) Stop) (stop : Stop) → BroughtBy old mid answer → answer ≡ Err stop → AtOver (λ e. e ≡ mid) new → cut_in new ≡ cut_value cut → RaisesOver old cut new (Err stop)
  raises_stopped old mid cut new answer stop by is at cut_is = record {
    mid = mid;
    answer = answer;
    by = by;
    started = Err stop;
    behind = subst (λ (a : Result (Unit {0}) Stop). BehindImport false mid cut new a (Err stop)) (sym is) (at, cut_is, refl);
    is = refl;
  }

  pub takes_done : (old mid : GroupSite R g) (was cut : Option CutWrite) (new : DiskSet R g) (answer r : Result (Unit {0}) Stop) → BroughtBy old mid answer → was ≡ cut → answer ≡ Ok tt → WithRvg true mid was new r → TakesOver old cut new r
  takes_done old mid was cut new answer r by same is over = record {
    mid = mid;
    answer = answer;
    by = by;
    behind = subst (λ (a : Result (Unit {0}) Stop). BehindImport true mid cut new a r) (sym is) (subst (λ (k : Option CutWrite). WithRvg true mid k new r) same over);
  }

  pub takes_stopped : (old mid : GroupSite R g) (cut : Option CutWrite) (new : DiskSet R g) (answer : Result (Unit {0}) Stop) (stop : Stop) → BroughtBy old mid answer → answer ≡ Err stop → AtOver (λ e. e ≡ mid) new → cut_in new ≡ cut_value cut → TakesOver old cut new (Err stop)
  takes_stopped old mid cut new answer stop by is at cut_is = record {
    mid = mid;
    answer = answer;
    by = by;
    behind = subst (λ (a : Result (Unit {0}) Stop). BehindImport true mid cut new a (Err stop)) (sym is) (at, cut_is, refl);
  }

  -- ---- what holds of the group behind the import, and stays so in a start, holds behind both

  module _ (away : Bool) (P : GroupSite R g → Type 0) (starts : (laid : Laid R g) (units : Units) (cut : Option CutWrite) (new : DiskSet R g) (r : Result (Unit {0}) Stop) → P (Up laid) → StartsOver away units laid cut new r → AtSite P new) where
    at_with : (laid : Laid R g) (rvg : Option Units) (cut : Option CutWrite) (new : DiskSet R g) (r : Result (Unit {0}) Stop) → P (Up laid) → WithUnits away rvg laid cut new r → AtSite P new
    at_with laid None cut new r it over = subst (λ (x : DiskSet R g). AtSite P x) (sym over.0) it
    at_with laid (Some units) cut new r it over = starts laid units cut new r it over

    at_plain : (e : GroupSite R g) (cut : Option CutWrite) (new : DiskSet R g) → P e → new ≡ (let s : GroupSet R g = record { site = e; cut = cut } in OfGroup s) → AtSite P new
    at_plain e cut new it is = subst (λ (x : DiskSet R g). AtSite P x) (sym is) it

    at_same : (mid : GroupSite R g) (new : DiskSet R g) → P mid → AtOver (λ e. e ≡ mid) new → AtSite P new
    at_same mid (Bare rack) it at = absurd at
    at_same mid (Spoiled rack) it at = absurd at
    at_same mid (UpSet rvg) it at = absurd at
    at_same mid (Receives s) it at = absurd at
    at_same mid (DownSet rack) it at = absurd at
    at_same mid (OfGroup s) it at = absurd at
    at_same mid (Over s) it at = subst P (sym at) it
    at_same mid GoneSet it at = absurd at

    pub at_behind : (mid : GroupSite R g) (cut : Option CutWrite) (new : DiskSet R g) (answer r : Result (Unit {0}) Stop) → P mid → BehindImport away mid cut new answer r → AtSite P new
    at_behind (Up laid) cut new (Ok done) r it behind = at_with laid laid.core.inner.config.rvg cut new r it behind
    at_behind (Deported idle) cut new (Ok done) r it behind = at_plain (Deported idle) cut new it behind.0
    at_behind (Down idle) cut new (Ok done) r it behind = at_plain (Down idle) cut new it behind.0
    at_behind (Marked rack) cut new (Ok done) r it behind = at_plain (Marked rack) cut new it behind.0
    at_behind Gone cut new (Ok done) r it behind = at_plain Gone cut new it behind.0
    at_behind mid cut new (Err stop) r it behind = at_same mid new it behind.0

  -- ---- the disks behind it

  tried_since : (units : Units) (old mid : Laid R g) (why : Stop) → TriedOn units old mid why → (P : Laid R g → Type 0) → P old → (CalledSince (laid_disks old) (laid_disks mid) → TellsLess (laid_below old) (laid_below mid) → P mid) → P mid
  tried_since units old mid (Refused why) (inl starts) P was by = by starts.since starts.told
  tried_since units old mid (Refused why) (inr off) P was by = by off.1.starts.since off.1.starts.told
  tried_since units old mid OutOfMemory tried P was by = subst P (sym tried) was

  pub tried_rises : (m : Meaning) (units : Units) (old mid : Laid R g) (stop : Stop) → RisesSince m (laid_disks old) → TriedOn units old mid stop → RisesSince m (laid_disks mid)
  tried_rises m units old mid stop since tried = tried_since units old mid stop tried (λ x. RisesSince m (laid_disks x)) since (λ called told. rises_on m (laid_disks old) (laid_disks mid) since called)

  pub tried_tells : (m : Meaning) (units : Units) (old mid : Laid R g) (stop : Stop) → TellsLess m (laid_below old) → TriedOn units old mid stop → TellsLess m (laid_below mid)
  tried_tells m units old mid stop less tried = tried_since units old mid stop tried (λ x. TellsLess m (laid_below x)) less (λ called told on. less (told on))

  -- disks that crashed
  back_rises : (m : Meaning) (mid : Laid R g) (idle : Idle R g) → RisesSince m (laid_disks mid) → FellBack mid idle → RisesSince m (idle_disks idle)
  back_rises m mid idle since fell = subst (λ (s : Shade R). RisesSince m (shade_meaning g.meaning s)) (sym fell.rack) (rises_fell m (laid_disks mid) (idle_disks fell.fell) 0xffff_ffff_ffff_ffff since fell.is.stopped fell.is.disks)

  back_tells : (m : Meaning) (mid : Laid R g) (idle : Idle R g) → TellsLess m (laid_below mid) → FellBack mid idle → TellsLess m (idle_below idle)
  back_tells m mid idle less fell = subst (λ (s : Shade R). TellsLess m (g.meaning (rack_of s))) (sym fell.rack) (λ told. less (fell.is.told told))

  -- those of a site that was deported are by themselves
  at_tells : (m : Meaning) (away : Bool) (idle : Idle R g) (e : GroupSite R g) → TellsLess m (idle_below idle) → BackAt away idle e → TellsLess m (site_below e)
  at_tells m false idle e less at = subst (λ (x : GroupSite R g). TellsLess m (site_below x)) (sym at) less
  at_tells m true idle e less (x, at, up) = subst (λ (y : GroupSite R g). TellsLess m (site_below y)) (sym at) (λ told. less (up.told told))

  over_tells : (away : Bool) (m : Meaning) (units : Units) (laid : Laid R g) (cut : Option CutWrite) (new : DiskSet R g) (r : Result (Unit {0}) Stop) → TellsLess m (laid_below laid) → StartsOver away units laid cut new r → AtSite (λ e. TellsLess m (site_below e)) new
  over_tells away m units laid cut (Bare rack) r less it = absurd it
  over_tells away m units laid cut (Spoiled rack) r less it = absurd it
  over_tells away m units laid cut (UpSet rvg) r less it = absurd it
  over_tells away m units laid cut (Receives s) r less it = absurd it
  over_tells away m units laid cut (DownSet rack) r less it = absurd it
  over_tells away m units laid cut (OfGroup s) r less it = absurd it
  over_tells away m units laid cut (Over s) (Ok done) less it =
      let up : Started units laid s = it in
      subst (λ (e : GroupSite R g). TellsLess m (site_below e)) (sym up.site) (λ told. less (up.starts.told told))
  over_tells away m units laid cut (Over s) (Err stop) less it =
      let off : StartFails away units laid cut s stop = it in
      at_tells m (away && not (stops_down stop)) off.idle (site_in s) (back_tells m off.mid off.idle (tried_tells m units laid off.mid stop less off.tried) off.fell) off.site
  over_tells away m units laid cut GoneSet r less it = absurd it

  module _ (racks : (s : Shade R) → IsRack (shade_meaning g.meaning s)) where
    at_rises : (m : Meaning) (away : Bool) (mid : Laid R g) (idle : Idle R g) (e : GroupSite R g) → FellBack mid idle → RisesSince m (idle_disks idle) → BackAt away idle e → RisesSince m (site_disks e)
    at_rises m false mid idle e fell since at = subst (λ (x : GroupSite R g). RisesSince m (site_disks x)) (sym at) since
    at_rises m true mid idle e fell since (x, at, up) =
        subst (λ (y : GroupSite R g). RisesSince m (site_disks y)) (sym at)
        (rises_alone m (idle_disks idle) (idle_disks x) since up.since (racks x.rack) (up.armed ∙ ap (λ (s : Shade R). (shade_meaning g.meaning s).armed) fell.rack ∙ fell.is.stopped.unarmed))

    over_rises : (away : Bool) (m : Meaning) (units : Units) (laid : Laid R g) (cut : Option CutWrite) (new : DiskSet R g) (r : Result (Unit {0}) Stop) → RisesSince m (laid_disks laid) → StartsOver away units laid cut new r → AtSite (λ e. RisesSince m (site_disks e)) new
    over_rises away m units laid cut (Bare rack) r since it = absurd it
    over_rises away m units laid cut (Spoiled rack) r since it = absurd it
    over_rises away m units laid cut (UpSet rvg) r since it = absurd it
    over_rises away m units laid cut (Receives s) r since it = absurd it
    over_rises away m units laid cut (DownSet rack) r since it = absurd it
    over_rises away m units laid cut (OfGroup s) r since it = absurd it
    over_rises away m units laid cut (Over s) (Ok done) since it =
        let up : Started units laid s = it in
        subst (λ (e : GroupSite R g). RisesSince m (site_disks e)) (sym up.site) (rises_on m (laid_disks laid) (laid_disks up.laid) since up.starts.since)
    over_rises away m units laid cut (Over s) (Err stop) since it =
        let off : StartFails away units laid cut s stop = it in
        at_rises m (away && not (stops_down stop)) off.mid off.idle (site_in s) off.fell (back_rises m off.mid off.idle (tried_rises m units laid off.mid stop since off.tried) off.fell) off.site
    over_rises away m units laid cut GoneSet r since it = absurd it

    behind_rises : (away : Bool) (old mid : GroupSite R g) (cut : Option CutWrite) (new : DiskSet R g) (answer r : Result (Unit {0}) Stop) → BroughtBy old mid answer → BehindImport away mid cut new answer r → AtSite (λ e. RisesSince (site_disks old) (site_disks e)) new
    behind_rises away old mid cut new answer r by behind =
        at_behind away (λ e. RisesSince (site_disks old) (site_disks e)) (λ laid units cut new r since over. over_rises away (site_disks old) units laid cut new r since over) mid cut new answer r (rises_returned (site_disks old) (site_disks mid) by.since) behind

    pub raise_rises : (old : GroupSite R g) (cut : Option CutWrite) (new : DiskSet R g) (r : Result (Option CutWrite) Stop) → RaisesOver old cut new r → AtSite (λ e. RisesSince (site_disks old) (site_disks e)) new
    raise_rises old cut new r it = behind_rises false old it.mid cut new it.answer it.started it.by it.behind

    pub take_rises : (old : GroupSite R g) (cut : Option CutWrite) (new : DiskSet R g) (r : Result (Unit {0}) Stop) → TakesOver old cut new r → AtSite (λ e. RisesSince (site_disks old) (site_disks e)) new
    take_rises old cut new r it = behind_rises true old it.mid cut new it.answer r it.by it.behind

  behind_tells : (away : Bool) (old mid : GroupSite R g) (cut : Option CutWrite) (new : DiskSet R g) (answer r : Result (Unit {0}) Stop) → BroughtBy old mid answer → BehindImport away mid cut new answer r → AtSite (λ e. TellsLess (site_below old) (site_below e)) new
  behind_tells away old mid cut new answer r by behind =
      at_behind away (λ e. TellsLess (site_below old) (site_below e)) (λ laid units cut new r less over. over_tells away (site_below old) units laid cut new r less over) mid cut new answer r by.told behind

  pub raise_tells : (old : GroupSite R g) (cut : Option CutWrite) (new : DiskSet R g) (r : Result (Option CutWrite) Stop) → RaisesOver old cut new r → AtSite (λ e. TellsLess (site_below old) (site_below e)) new
  raise_tells old cut new r it = behind_tells false old it.mid cut new it.answer it.started it.by it.behind

  pub take_tells : (old : GroupSite R g) (cut : Option CutWrite) (new : DiskSet R g) (r : Result (Unit {0}) Stop) → TakesOver old cut new r → AtSite (λ e. TellsLess (site_below old) (site_below e)) new
  take_tells old cut new r it = behind_tells true old it.mid cut new it.answer r it.by it.behind

  -- ---- what stood over the group

  above_off : (above : Above) (new : GroupSite R g) (stop : Stop) → AnswersUp new (Err stop) → AboveStays above new
  above_off above (Up laid) stop it = absurd it
  above_off above (Deported idle) stop it = tt
  above_off above (Down idle) stop it = tt
  above_off above (Marked rack) stop it = absurd it
  above_off above Gone stop it = tt

  -- stands where a refused import leaves the group up
  pub above_refused : (above : Above) (old new : GroupSite R g) (stop : Stop) → ComesUp old new (Err stop) → AboveStays above old → AboveStays above new
  above_refused above (Up laid) new stop it stays = subst (λ (e : GroupSite R g). AboveStays above e) (sym it) stays
  above_refused above (Deported idle) new stop it stays = above_off above new stop it
  above_refused above (Down idle) new stop it stays = above_off above new stop it
  above_refused above (Marked rack) new stop it stays = absurd stays
  above_refused above Gone new stop it stays = above_off above new stop it
