-- An import of a site that was deported, whose group of disks has a replicated volume group: what it comes to.
use Rattle.std.proofs.Common.{◌≡◌, ◌∙◌, ℕ, Bool, true, false, IsTrue, length, ap, arith, refl, subst, sym}
use Rattle.std.specs.Prelude.{Err, Ok, Option, None, Result, Some, not}
use Rattle.std.proofs.lemmas.Option.{same_Some}
use Rattle.std.proofs.lemmas.Bool.{false_from_ne_true}
use Rattle.vx_disk.specs.Disks.{Disks}
use Rattle.vx_disk.specs.Racks.{IsRack}
use Rattle.vx_disk.specs.Shelf.{Lawful, Meaning}
use Rattle.vx_disk.specs.declared.shelf.Shelf.{Ghosts}
use Rattle.vx_events.specs.RvgFits.{entries_noted}
use Rattle.vx_grouped.specs.GroupNotes.{note_dimmed}
use Rattle.vx_grouped.specs.GroupSites.{AwayNoted, idle_disks, laid_disks, site_disks}
use Rattle.vx_grouped.specs.SiteEnds.{stops_down}
use Rattle.vx_grouped.specs.declared.group_site.GroupSite.{GroupSite}
use Rattle.vx_grouped.specs.declared.group_site.GroupSite.TheVariants.{Up, Deported, Down, Marked, Gone}
use Rattle.vx_grouped.specs.declared.idle.Idle.{Idle}
use Rattle.vx_grouped.specs.declared.laid.Laid.{Laid}
use Rattle.vx_history.specs.Groups.{GroupNode}
use Rattle.vx_history.specs.Steps.{burned}
use Rattle.vx_history.specs.World.{Node}
use Rattle.vx_model.specs.declared.errors.Stop.{Stop}
use Rattle.vx_model.specs.declared.errors.Stop.TheVariants.{No as Refused}
use Rattle.vx_model.specs.declared.no.No.TheVariants.{Down as IsOff}
use Rattle.vx_model.specs.declared.site.SPhase.TheVariants.{Quiet}
use Rattle.vx_model.specs.declared.site.SiteState.TheVariants.{Deported as IsAway, Down as IsDown, Up as IsUp}
use Rattle.vx_model.specs.declared.units.Units.{Units}
use Rattle.vx_untold.specs.Shades.{shade_meaning}
use Rattle.vx_untold.specs.declared.shade.Shade.{Shade}
use Rattle.vx_untold.specs.declared.shade.Shade.TheVariants.{Bright, Dark}
use Rattle.vx_grouped.specs.Readies.{ready_of}
use Rattle.vx_watched.specs.Since.{CalledSince, FuseGoes, is_rack}
use Rattle.vx_grouped.specs.SiteReturns.{ImportRefused, KeepsFuse}
use Rattle.vx_diskset.specs.Aboves.{InsideOf, below_site, site_in}
use Rattle.vx_diskset.specs.GroupSets.{cut_value}
use Rattle.vx_diskset.specs.Holds.{KeptBeside}
use Rattle.vx_diskset.specs.Layouts.{units_of}
use Rattle.vx_diskset.specs.Noted.{FoundNamed, NotedOn, RestsNamed, SiteNoted, TidyNote, below_rvg}
use Rattle.vx_diskset.specs.OverRises.{FoundAgain, RoseAgain, came_with}
use Rattle.vx_diskset.specs.OverStarts.{BehindImport, BroughtBy, Revived, StartFails, Started, StartsOver, TakesOver, TriedOn, WithUnits, BackAt}
use Rattle.vx_diskset.specs.OverTakes.{OverTakes, TakesAbove, TakesAgain, TakesFound, TakesHeld, TakesHeldOff, TakesLost, TakesLostOff, TakesPlain}
use Rattle.vx_diskset.specs.Stands.{AwayLeft, IsOverSite, OverStands, RestsOver, idle_ready}
use Rattle.vx_diskset.specs.declared.disk_set.DiskSet.{DiskSet}
use Rattle.vx_diskset.specs.declared.disk_set.DiskSet.TheVariants.{Bare, Spoiled, Up as UpSet, Receives, Down as DownSet, OfGroup, Over, Gone as GoneSet}
use Rattle.vx_diskset.specs.declared.group_set.CutWrite.{CutWrite}
use Rattle.vx_diskset.specs.declared.group_set.GroupSet.{GroupSet}
use Rattle.vx_diskset.specs.declared.over_set.OverSet.{OverSet}
use Rattle.vx_diskset.specs.declared.over_set.OverSite.{OverSite}
use Rattle.vx_diskset.specs.declared.over_set.OverSite.TheVariants.{Origin as OriginSite, Receiver as ReceiverSite, Deported as GroupAway, Down as GroupFell, Gone as NoGroup}
use Rattle.vx_diskset.proofs.OverHolds.{CameUp, came_away, names_found, never_both, never_none}
use Rattle.vx_diskset.proofs.OverTakesHeld.{away_refused, found_taken, held_fused, held_taken, off_refused, plain_taken}
use Rattle.vx_diskset.proofs.OverTakesLost.{lost_fused, lost_taken, taken}

-- a fuse ran out only where it is answered so
off_is : (stop : Stop) → stops_down stop ≡ true → stop ≡ Refused IsOff
off_is (Refused IsOff) off = refl
off_is other off = absurd (let clash : false ≡ true = off in cc)

-- what is told of disks is told of them as an import sees them
ready_disks : {R : Type 0} (meaning : R → Meaning) (agreed : Bool) (s : Shade R) → (shade_meaning meaning (ready_of agreed s)).disks ≡ (shade_meaning meaning s).disks
ready_disks meaning true s = refl
ready_disks meaning false (Dark r) = refl
ready_disks meaning false (Bright r) = refl

fuse_then : (a b c : Option (ℕ × ℕ)) → FuseGoes a b → FuseGoes b c → FuseGoes a c
fuse_then a b c first second = record { set = second.set ∙ first.set; left = omega (arith, first.left, second.left); pick = second.pick ∙ first.pick }

some_disks : (o : Option Disks) → is_rack o ≡ true → (d : Disks) × (o ≡ Some d)
some_disks None is = absurd (let clash : false ≡ true = is in cc)
some_disks (Some d) is = (d, refl)

-- that of disks behind calls that all passed
fuse_since : (idle old mid now : Meaning) → old.disks ≡ idle.disks → is_rack mid.disks ≡ is_rack idle.disks → KeepsFuse old mid → CalledSince mid now → (IsTrue now.down → ⊥) → KeepsFuse old now
fuse_since idle old mid now same rack first since up = record {
  goes = λ o x at there.
      let between = some_disks mid.disks (rack ∙ ap (λ (y : Option Disks). is_rack y) (sym same ∙ at)) in
      fuse_then o.fuse between.0.fuse x.fuse (first.goes o between.0 at between.1) ((since.told between.0 x between.1 there).fuse (false_from_ne_true now.down up));
}

module _ {R : Type 0} {g : Ghosts R} (racks : (s : Shade R) → IsRack (shade_meaning g.meaning s)) (laws : (s : Shade R) → Lawful (shade_meaning g.meaning s)) (beside : KeptBeside) (n : Node) (note : GroupNode) (idle : Idle R g) (cut : Option CutWrite) (group : n.group ≡ Some note)
    (state : n.state ≡ IsAway) (quiet : n.phase ≡ Quiet) (over : IsOverSite beside n) (rests : RestsOver (λ c. AwayLeft c beside n (idle_ready idle)) beside n (idle_ready idle)) (away : AwayNoted (below_rvg n) note (Deported idle)) (cut_is : cut_value cut ≡ note.cut) (inside : InsideOf (units_of n) note)
    (tidy : TidyNote (units_of n) note) (names : FoundNamed (units_of n) (length (entries_noted note)) (idle_ready idle)) where
  abbrev ready : GroupNode
  ready = note_dimmed (not idle.agreed) note

  abbrev site_ready : Node
  site_ready = record (below_rvg n) { group = Some ready }

  -- ---- the group came up

  module _ (laid : Laid R g) (by : BroughtBy (Deported idle) (Up laid) (Ok tt)) where
    risen : CameUp n note idle laid
    risen = came_away n note idle away laid by

    -- ---- by what came of it

    same_units_of : (u : Units) → laid.core.inner.config.rvg ≡ Some u → IsTrue (laid_disks laid).tells → u ≡ units_of n
    same_units_of u has told = same_Some u (units_of n) (sym has ∙ (names_found n note idle away.agrees names laid risen told).0)

    brought_fuse : KeepsFuse (idle_ready idle) (laid_disks laid)
    brought_fuse = (by.imported (below_rvg n) note away).1

    started_fuse : (u : Units) (s : OverSet R g) → Started u laid s → (IsTrue (site_disks (site_in s)).down → ⊥) → KeepsFuse (idle_ready idle) (site_disks (site_in s))
    started_fuse u s it up =
        fuse_since (idle_disks idle) (idle_ready idle) (laid_disks laid) (site_disks (site_in s)) (ready_disks g.meaning idle.agreed idle.rack) by.since.rack brought_fuse
        (subst (λ (e : GroupSite R g). CalledSince (laid_disks laid) (site_disks e)) (sym it.site) it.starts.since) up

    started_up : (u : Units) (s : OverSet R g) → Started u laid s → (k : Node) (next : GroupNode) → SiteNoted k next (Over s) → IsTrue (site_disks (site_in s)).down → ⊥
    started_up u s it k next noted = subst (λ (e : GroupSite R g). NotedOn (below_rvg k) next e → IsTrue (site_disks e).down → ⊥) (sym it.site) (λ up. up.at.up) noted.0

    started_by : (u : Units) → laid.core.inner.config.rvg ≡ Some u → (s : OverSet R g) → Started u laid s → (b : Bool) → (laid_disks laid).tells ≡ b → OverTakes beside n note (Deported idle) (Over s) (Ok tt)
    started_by u has s started true told =
        let it : RoseAgain beside n note (Deported idle) s = taken racks laws beside n note idle cut group state quiet over rests away cut_is inside tidy names laid by told s (subst (λ (x : Units). Started x laid s) (same_units_of u has told) started) in
        TakesAgain s refl refl (started_fuse u s started (started_up u s started (came_with (burned n.fuse) it.over.next n) it.over.next it.over.noted)) it
    started_by u has s started false dim =
        let it : FoundAgain beside n note (Deported idle) s = found_taken racks laws beside n note idle cut group state quiet over rests away cut_is inside tidy names laid by (λ told. never_both (laid_disks laid).tells told dim) u has s started in
        TakesFound s refl refl (started_fuse u s started (started_up u s started it.over.node it.over.next it.over.noted)) it

    module _ (u : Units) (has : laid.core.inner.config.rvg ≡ Some u) (s : OverSet R g) (stop : Stop) (off : StartFails true u laid cut s stop) where
      gone_end : (x : Idle R g) → site_in s ≡ Deported x → Revived off.idle x → stops_down stop ≡ false → (b : Bool) → (laid_disks laid).tells ≡ b → OverTakes beside n note (Deported idle) (Over s) (Err stop)
      gone_end x at back on true told =
          TakesLost s stop refl refl (lost_taken racks laws beside n note idle cut group state quiet over rests away cut_is inside tidy names laid by told off.mid off.idle off.fell s x at back off.cut_is stop on off.up (subst (λ (y : Units). TriedOn y laid off.mid stop) (same_units_of u has told) off.tried))
      gone_end x at back on false dim = TakesHeld s stop refl refl (held_taken racks laws beside n note idle cut group state quiet over rests away cut_is inside tidy names laid by (λ told. never_both (laid_disks laid).tells told dim) u off.mid off.idle off.fell s off.cut_is stop off.tried x at back on)

      fell_end : site_in s ≡ Down off.idle → (is : stop ≡ Refused IsOff) → (b : Bool) → (laid_disks laid).tells ≡ b → OverTakes beside n note (Deported idle) (Over s) (Err stop)
      fell_end at is true told =
          TakesLostOff s refl (ap (λ (w : Stop). let r : Result (Unit {0}) Stop = Err w in r) is)
          (lost_fused racks laws beside n note idle cut group state quiet over rests away cut_is inside tidy names laid by told off.mid off.idle off.fell s at off.cut_is (subst (λ (w : Stop). TriedOn (units_of n) laid off.mid w) is (subst (λ (y : Units). TriedOn y laid off.mid stop) (same_units_of u has told) off.tried)))
      fell_end at is false dim =
          TakesHeldOff s refl (ap (λ (w : Stop). let r : Result (Unit {0}) Stop = Err w in r) is)
          (held_fused racks laws beside n note idle cut group state quiet over rests away cut_is inside tidy names laid by (λ told. never_both (laid_disks laid).tells told dim) u off.mid off.idle off.fell s off.cut_is stop off.tried at is)

      end_by : (t : Bool) → stops_down stop ≡ t → BackAt (not t) off.idle (site_in s) → OverTakes beside n note (Deported idle) (Over s) (Err stop)
      end_by true is at = fell_end at (off_is stop is) (laid_disks laid).tells refl
      end_by false is at = gone_end at.0 at.1 at.2 is (laid_disks laid).tells refl

      failed_by : OverTakes beside n note (Deported idle) (Over s) (Err stop)
      failed_by = end_by (stops_down stop) refl off.site

    start_in : (u : Units) → laid.core.inner.config.rvg ≡ Some u → (new : DiskSet R g) (r : Result (Unit {0}) Stop) → StartsOver true u laid cut new r → OverTakes beside n note (Deported idle) new r
    start_in u has (Bare rack) r it = absurd it
    start_in u has (Spoiled rack) r it = absurd it
    start_in u has (UpSet rvg) r it = absurd it
    start_in u has (Receives s) r it = absurd it
    start_in u has (DownSet rack) r it = absurd it
    start_in u has (OfGroup s) r it = absurd it
    start_in u has (Over s) (Ok done) it = started_by u has s it (laid_disks laid).tells refl
    start_in u has (Over s) (Err stop) it = failed_by u has s stop it
    start_in u has GoneSet r it = absurd it

    start_units : (o : Option Units) → laid.core.inner.config.rvg ≡ o → (new : DiskSet R g) (r : Result (Unit {0}) Stop) → WithUnits true o laid cut new r → OverTakes beside n note (Deported idle) new r
    start_units None has new r it =
        let s : GroupSet R g = record { site = Up laid; cut = None } in
        TakesPlain s it.0 it.1 brought_fuse (plain_taken racks laws beside n note idle cut group state quiet over rests away cut_is inside tidy names laid by (λ told. never_none (sym (names_found n note idle away.agrees names laid risen told).0 ∙ has)) s refl has)
    start_units (Some u) has new r it = start_in u has new r it

  -- ---- refused

  away_in : (now : Idle R g) (stop : Stop) → BroughtBy (Deported idle) (Deported now) (Err stop) → stops_down stop ≡ false → (new : DiskSet R g) (r : Result (Unit {0}) Stop) → BehindImport true (Deported now) cut new (Err stop) r → OverTakes beside n note (Deported idle) new r
  away_in now stop by on (Bare rack) r behind = absurd behind.0
  away_in now stop by on (Spoiled rack) r behind = absurd behind.0
  away_in now stop by on (UpSet rvg) r behind = absurd behind.0
  away_in now stop by on (Receives s) r behind = absurd behind.0
  away_in now stop by on (DownSet rack) r behind = absurd behind.0
  away_in now stop by on (OfGroup s) r behind = absurd behind.0
  away_in now stop by on (Over s) r behind = TakesHeld s stop refl behind.2 (away_refused racks laws beside n note idle cut group state quiet over rests away cut_is inside tidy names now stop by on s behind.0 behind.1)
  away_in now stop by on GoneSet r behind = absurd behind.0

  off_in : (now : Idle R g) → BroughtBy (Deported idle) (Down now) (Err (Refused IsOff)) → (new : DiskSet R g) (r : Result (Unit {0}) Stop) → BehindImport true (Down now) cut new (Err (Refused IsOff)) r → OverTakes beside n note (Deported idle) new r
  off_in now by (Bare rack) r behind = absurd behind.0
  off_in now by (Spoiled rack) r behind = absurd behind.0
  off_in now by (UpSet rvg) r behind = absurd behind.0
  off_in now by (Receives s) r behind = absurd behind.0
  off_in now by (DownSet rack) r behind = absurd behind.0
  off_in now by (OfGroup s) r behind = absurd behind.0
  off_in now by (Over s) r behind = TakesHeldOff s refl behind.2 (off_refused racks laws beside n note idle cut group state quiet over rests away cut_is inside tidy names now by s behind.0 behind.1)
  off_in now by GoneSet r behind = absurd behind.0

  refused_by : (mid : GroupSite R g) (stop : Stop) → BroughtBy (Deported idle) mid (Err stop) → (t : Bool) → stops_down stop ≡ t → ImportRefused t site_ready ready (idle_ready idle) mid stop → (new : DiskSet R g) (r : Result (Unit {0}) Stop) → BehindImport true mid cut new (Err stop) r
      → OverTakes beside n note (Deported idle) new r
  refused_by (Up laid) stop by true is it new r behind = absurd it.0
  refused_by (Deported now) stop by true is it new r behind = absurd it.0
  refused_by (Down now) stop by true is it new r behind =
      subst (λ (w : Stop). BroughtBy (Deported idle) (Down now) (Err w) → BehindImport true (Down now) cut new (Err w) r → OverTakes beside n note (Deported idle) new r) (sym (off_is stop is)) (λ by_off behind_off. off_in now by_off new r behind_off) by behind
  refused_by (Marked rack) stop by true is it new r behind = absurd it.0
  refused_by Gone stop by true is it new r behind = absurd it.0
  refused_by (Up laid) stop by false is it new r behind = absurd it.0
  refused_by (Deported now) stop by false is it new r behind = away_in now stop by is new r behind
  refused_by (Down now) stop by false is it new r behind = absurd it.0
  refused_by (Marked rack) stop by false is it new r behind = absurd it.0
  refused_by Gone stop by false is it new r behind = absurd it.0

  takes_behind : (mid : GroupSite R g) (answer : Result (Unit {0}) Stop) → BroughtBy (Deported idle) mid answer → (new : DiskSet R g) (r : Result (Unit {0}) Stop) → BehindImport true mid cut new answer r → OverTakes beside n note (Deported idle) new r
  takes_behind (Up laid) (Ok done) by new r behind = start_units laid by laid.core.inner.config.rvg refl new r behind
  takes_behind (Deported x) (Ok done) by new r behind = let it = by.imported (below_rvg n) note away in absurd it.0.2
  takes_behind (Down x) (Ok done) by new r behind = let it = by.imported (below_rvg n) note away in absurd it.0.2
  takes_behind (Marked rack) (Ok done) by new r behind = let it = by.imported (below_rvg n) note away in absurd it.0.2
  takes_behind Gone (Ok done) by new r behind = let it = by.imported (below_rvg n) note away in absurd it.0.2
  takes_behind mid (Err stop) by new r behind = refused_by mid stop by (stops_down stop) refl (by.imported (below_rvg n) note away) new r behind

-- ---- any site that was deported

module _ {R : Type 0} {g : Ghosts R} (racks : (s : Shade R) → IsRack (shade_meaning g.meaning s)) (laws : (s : Shade R) → Lawful (shade_meaning g.meaning s)) (beside : KeptBeside) (n : Node) (note : GroupNode) (group : n.group ≡ Some note) (state : n.state ≡ IsAway) (quiet : n.phase ≡ Quiet) where
  by_site : (x : OverSite R g) (cut : Option CutWrite) → IsOverSite beside n → OverStands beside n x → NotedOn (below_rvg n) note (below_site x) → cut_value cut ≡ note.cut → InsideOf (units_of n) note → TidyNote (units_of n) note → RestsNamed (units_of n) (length (entries_noted note)) (below_site x)
      → (new : DiskSet R g) (r : Result (Unit {0}) Stop) → TakesOver (below_site x) cut new r → OverTakes beside n note (below_site x) new r
  by_site (OriginSite f) cut over stands noted cut_is inside tidy names new r it = absurd (let clash : IsUp ≡ IsAway = sym stands.state ∙ state in cc)
  by_site (ReceiverSite f) cut over stands noted cut_is inside tidy names new r it = absurd (let clash : IsUp ≡ IsAway = sym stands.state ∙ state in cc)
  by_site (GroupAway idle) cut over stands noted cut_is inside tidy names new r it =
      takes_behind racks laws beside n note idle cut group state quiet over stands.1 noted cut_is inside tidy names it.mid it.answer it.by new r it.behind
  by_site (GroupFell idle) cut over stands noted cut_is inside tidy names new r it = absurd (let clash : IsDown ≡ IsAway = sym stands.0 ∙ state in cc)
  by_site NoGroup cut over stands noted cut_is inside tidy names new r it = absurd stands

module _ {R : Type 0} {g : Ghosts R} where
  pub takes_over : ((s : Shade R) → IsRack (shade_meaning g.meaning s)) → ((s : Shade R) → Lawful (shade_meaning g.meaning s)) → (o : OverSet R g) (new : DiskSet R g) (r : Result (Unit {0}) Stop) → TakesOver (site_in o) o.cut new r → TakesAbove (Over o) new r
  takes_over racks laws o new r it = λ beside n note group state quiet stands noted. by_site racks laws beside n note group state quiet o.site o.cut stands.0 stands.1 noted.0 noted.1 noted.2 noted.3 noted.4 new r it

  -- of other disks nothing is said
  pub takes_rest : (e new : DiskSet R g) (r : Result (Unit {0}) Stop) → ((s : OverSet R g) → e ≡ Over s → ⊥) → TakesAbove e new r
  takes_rest (Bare rack) new r never = tt
  takes_rest (Spoiled rack) new r never = tt
  takes_rest (UpSet rvg) new r never = tt
  takes_rest (Receives s) new r never = tt
  takes_rest (DownSet rack) new r never = tt
  takes_rest (OfGroup s) new r never = tt
  takes_rest (Over s) new r never = absurd (never s refl)
  takes_rest GoneSet new r never = tt
