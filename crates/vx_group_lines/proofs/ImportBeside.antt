-- The line that imports a group which was deported, and may find a replicated volume group over it.
use Rattle.std.proofs.Common.{◌≡◌, ◌∙◌, ℕ, Bool, true, false, List, map, ap, sym, subst, refl, arith, IsTrue}
use Rattle.std.proofs.lemmas.Bool.{false_from_ne_true}
use Rattle.std.specs.Prelude.{Option, Some, None, slice_set, Result, Ok, Err}
use Rattle.vx_model.specs.declared.errors.OutOfMemory.{OutOfMemory}
use Rattle.vx_model.specs.declared.errors.Stop.{Stop}
use Rattle.vx_model.specs.declared.errors.Stop.TheVariants.{No as Refused}
use Rattle.vx_model.specs.declared.no.No.TheVariants.{Role as NoRole}
use Rattle.vx_model.specs.declared.site.SiteState.{SiteState}
use Rattle.vx_model.specs.declared.site.SiteState.TheVariants.{Deported as IsDeported}
use Rattle.vx_model.specs.declared.units.Units.{Units}
use Rattle.vx_disk.specs.Disks.{Disks}
use Rattle.vx_disk.specs.declared.shelf.Shelf.{Ghosts}
use Rattle.vx_config.specs.declared.config.Config.{Config}
use Rattle.vx_history.specs.Doubts.{Doubted}
use Rattle.vx_history.specs.Groups.{GroupNode}
use Rattle.vx_history.specs.Steps.{burned}
use Rattle.vx_history.specs.World.{Node}
use Rattle.vx_rvg.specs.Views.{Core}
use Rattle.vx_script.specs.declared.line.ScriptLine.TheVariants.{GroupImport}
use Rattle.vx_watched.specs.Since.{CalledSince, FuseGoes, is_rack}
use Rattle.vx_grouped.specs.GroupSites.{AwayNoted, laid_disks, site_config, site_disks}
use Rattle.vx_grouped.specs.SiteMaps.{CameMapped}
use Rattle.vx_grouped.specs.SiteReturns.{KeepsFuse, SiteImports, as_imported, site_rested}
use Rattle.vx_grouped.specs.declared.group_site.GroupSite.{GroupSite}
use Rattle.vx_grouped.specs.declared.group_site.GroupSite.TheVariants.{Up, Deported, Down, Marked, Gone}
use Rattle.vx_grouped.specs.declared.laid.Laid.{Laid}
use Rattle.vx_logimport.specs.declared.rested.Rested.{Rested}
use Rattle.vx_diskset.specs.Aboves.{site_in}
use Rattle.vx_diskset.specs.Asked.{FusedAs, SameFailing}
use Rattle.vx_diskset.specs.GroupCalls.{AtSite, ImportsOn, OnSites, core_in, cut_in}
use Rattle.vx_diskset.specs.Holds.{KeptBeside, beside_of}
use Rattle.vx_diskset.specs.OverRises.{FindsOver, FoundOver, PlainFound}
use Rattle.vx_diskset.specs.OverStarts.{BehindPlain, ImportsBy, ImportsIn, PlainStarts, PlainUnits, Started}
use Rattle.vx_diskset.specs.Stands.{SiteStands}
use Rattle.vx_diskset.specs.declared.disk_set.DiskSet.{DiskSet}
use Rattle.vx_diskset.specs.declared.disk_set.DiskSet.TheVariants.{Bare, Spoiled, Up as UpSet, Receives, Down as DownSet, OfGroup, Over, Gone as GoneSet}
use Rattle.vx_diskset.specs.declared.group_set.CutWrite.{CutWrite}
use Rattle.vx_diskset.specs.declared.group_set.GroupSet.{GroupSet}
use Rattle.vx_diskset.specs.declared.over_set.OverSet.{OverSet}
use Rattle.vx_events.proofs.Places.{some_same}
use Rattle.vx_events.proofs.RvgEvents.{rvg_apart}
use Rattle.vx_events.specs.Doubts.{run_as}
use Rattle.vx_events.specs.GroupNotes.{note_at}
use Rattle.vx_events.specs.GroupViews.{plain_fact}
use Rattle.vx_events.specs.RvgBack.{RvgFinds, fall_first}
use Rattle.vx_events.specs.RvgSteps.{FoundOne}
use Rattle.vx_events.specs.StepsOver.{fact_of_group, group_place, over_group_at}
use Rattle.vx_events.specs.declared.said.Said.{Said}
use Rattle.vx_events.specs.declared.said.Said.TheVariants.{Done}
use Rattle.vx_yard.proofs.Carrying.{SameLoad}
use Rattle.vx_yard.proofs.OneSite.{Changed}
use Rattle.vx_yard.proofs.OverGroup.{over_rvg}
use Rattle.vx_yard.specs.AboveLines.{LeadsBeside, LeadsBesideIs}
use Rattle.vx_yard.specs.GroupFacts.{group_up_facts}
use Rattle.vx_yard.specs.Standing.{StandsFor}
use Rattle.vx_yard.specs.Yards.{IsTold}
use Rattle.vx_yard.specs.declared.yard.Yard.{Yard}
use Rattle.vx_above.proofs.FuseGoing.{fused_goes, some_disks}
use Rattle.vx_above.proofs.Works.{beside_over}
use Rattle.vx_group_lines.specs.Noting.{made_facts, reply_kept}
use Rattle.vx_group_lines.specs.RvgRises.{rests_world}
use Rattle.vx_group_lines.proofs.GroupAt.{away_notes}
use Rattle.vx_group_lines.proofs.GroupCalls.{Called}
use Rattle.vx_group_lines.proofs.GroupEnding.{Midway}
use Rattle.vx_group_lines.proofs.GroupImports.{import_done, import_stopped}
use Rattle.vx_group_lines.proofs.GroupNamed.{plain_reply}
use Rattle.vx_group_lines.proofs.ImportWhys.{imported_disks}
use Rattle.vx_group_lines.proofs.RvgComing.{none_after}
use Rattle.vx_group_lines.proofs.RvgFound.{FoundCall, found_carries, found_ends, found_fails, found_left, found_rose, found_sits, found_stands}
use Rattle.vx_group_lines.proofs.RvgStanding.{RvgOver, rvg_over}

never_ok : (stop : Stop) (r : Result (Unit {0}) Stop) → r ≡ Err stop → r ≡ Ok tt → ⊥
never_ok stop r err ok = cc

-- a fuse behind calls, and behind calls more
fuse_then : (a b c : Option (ℕ × ℕ)) → FuseGoes a b → FuseGoes b c → FuseGoes a c
fuse_then a b c first second = record { set = second.set ∙ first.set; left = omega (arith, first.left, second.left); pick = second.pick ∙ first.pick }

-- a site that was deported does not crash first
rest_away : (d : Doubted) (s : ℕ) → (d.world.nodes s).state ≡ IsDeported → rests_world d s 0 false ≡ d
rest_away d s away = ap (λ (t : SiteState). run_as false d (fall_first t s 0)) away

module _ {R : Type 0} {g : Ghosts R} where
  -- ---- what the import brought

  -- a group without a replicated volume group, or one with one
  pub data CameEither (new : DiskSet R g) (r : Result (Unit {0}) Stop) : Type 0 where
    CamePlain : (t : GroupSet R g) → new ≡ OfGroup t → (r ≡ Ok tt → (c : Config) → site_config t.site ≡ Some c → c.rvg ≡ None) → CameEither new r
    CameOver : (p : OverSet R g) → new ≡ Over p → r ≡ Ok tt → CameEither new r

  either_refused : (e : GroupSite R g) (cut : Option CutWrite) (new : DiskSet R g) (r : Result (Unit {0}) Stop) (stop : Stop) → new ≡ (let s : GroupSet R g = record { site = e; cut = cut } in OfGroup s) → r ≡ Err stop → CameEither new r
  either_refused e cut new r stop is refused = CamePlain (let s : GroupSet R g = record { site = e; cut = cut } in s) is (λ ok. absurd (never_ok stop r refused ok))

  either_starts : (away : Bool) (rested : Option Rested) (units : Units) (laid : Laid R g) (cut : Option CutWrite) (new : DiskSet R g) (r : Result (Unit {0}) Stop) → PlainStarts away rested units laid cut new r → CameEither new r
  either_starts away rested units laid cut (Bare rack) r it = absurd it
  either_starts away rested units laid cut (Spoiled rack) r it = absurd it
  either_starts away rested units laid cut (UpSet rvg) r it = absurd it
  either_starts away rested units laid cut (Receives s) r it = absurd it
  either_starts away rested units laid cut (DownSet rack) r it = absurd it
  either_starts away rested units laid cut (OfGroup t) (Ok done) it = absurd it
  either_starts away rested units laid cut (OfGroup t) (Err stop) it = CamePlain t refl (λ ok. absurd (never_ok stop (Err stop) refl ok))
  either_starts away rested units laid cut (Over p) (Ok done) it = CameOver p refl refl
  either_starts away rested units laid cut (Over p) (Err stop) it = absurd it
  either_starts away rested units laid cut GoneSet r it = absurd it

  either_units : (away : Bool) (rested : Option Rested) (o : Option Units) (laid : Laid R g) (cut : Option CutWrite) (new : DiskSet R g) (r : Result (Unit {0}) Stop) → laid.core.inner.config.rvg ≡ o → PlainUnits away rested o laid cut new r → CameEither new r
  either_units away rested None laid cut new r rvg it =
      CamePlain (let s : GroupSet R g = record { site = Up laid; cut = None } in s) it.0 (λ ok c has. subst (λ (x : Config). x.rvg ≡ None) (some_same has) rvg)
  either_units away rested (Some units) laid cut new r rvg it = either_starts away rested units laid cut new r it

  either_behind : (away : Bool) (rested : Option Rested) (mid : GroupSite R g) (cut : Option CutWrite) (new : DiskSet R g) (answer r : Result (Unit {0}) Stop) → BehindPlain away rested mid cut new answer r → CameEither new r
  either_behind away rested (Up laid) cut new (Ok done) r it = either_units away rested laid.core.inner.config.rvg laid cut new r refl it
  either_behind away rested (Deported idle) cut new (Ok done) r it = either_refused (Deported idle) cut new r (Refused NoRole) it.0 it.1
  either_behind away rested (Down idle) cut new (Ok done) r it = either_refused (Down idle) cut new r (Refused NoRole) it.0 it.1
  either_behind away rested (Marked rack) cut new (Ok done) r it = either_refused (Marked rack) cut new r (Refused NoRole) it.0 it.1
  either_behind away rested Gone cut new (Ok done) r it = either_refused Gone cut new r (Refused NoRole) it.0 it.1
  either_behind away rested mid cut new (Err stop) r it = either_refused mid cut new r stop it.0 it.1

  pub imports_either : (away : Bool) (old : GroupSite R g) (cut : Option CutWrite) (new : DiskSet R g) (r : Result (Unit {0}) Stop) → ImportsBy away old cut new r → CameEither new r
  imports_either away old cut new r by = either_behind away (site_rested old) by.mid cut new by.answer r by.behind

  came_either : (set : GroupSet R g) (before new : DiskSet R g) (r : Result (Unit {0}) Stop) → before ≡ OfGroup set → ImportsIn before new r → CameEither new r
  came_either set before new r is it =
      let by : ImportsBy true set.site set.cut new r = subst (λ (x : DiskSet R g). ImportsIn x new r) is it in
      imports_either true set.site set.cut new r by

  -- so a call that says what it does where it finds none says it here
  on_plain : (P : GroupSite R g → GroupSite R g → Type 0) (before after : DiskSet R g) (set t : GroupSet R g) → before ≡ OfGroup set → after ≡ OfGroup t → ImportsOn P before after → OnSites P before after
  on_plain P before after set t was is it =
      let here : P set.site t.site = subst (λ (y : DiskSet R g). ImportsOn P (OfGroup set) y) is (subst (λ (x : DiskSet R g). ImportsOn P x after) was it) in
      subst (λ (x : DiskSet R g). OnSites P x after) (sym was) (subst (λ (y : DiskSet R g). OnSites P (OfGroup set) y) (sym is) here)

  -- ---- the fuse of the disks

  -- the group came up, and calls were made on its disks
  record StartedBy (mid : GroupSite R g) (answer : Result (Unit {0}) Stop) (p : OverSet R g) : Type 0 where
    laid : Laid R g
    is : mid ≡ Up laid
    done : answer ≡ Ok tt
    since : CalledSince (laid_disks laid) (site_disks (site_in p))

  started_set : (laid : Laid R g) (answer : Result (Unit {0}) Stop) (units : Units) (p : OverSet R g) → answer ≡ Ok tt → Started units laid p → StartedBy (Up laid) answer p
  started_set laid answer units p done it = record {
    laid = laid;
    is = refl;
    done = done;
    since = subst (λ (e : GroupSite R g). CalledSince (laid_disks laid) (site_disks e)) (sym it.site) it.starts.since;
  }

  started_units : (rested : Option Rested) (o : Option Units) (laid : Laid R g) (cut : Option CutWrite) (p : OverSet R g) (answer r : Result (Unit {0}) Stop) → answer ≡ Ok tt → PlainUnits true rested o laid cut (Over p) r → StartedBy (Up laid) answer p
  started_units rested None laid cut p answer r done it = absurd (let clash : Over p ≡ (let s : GroupSet R g = record { site = Up laid; cut = None } in OfGroup s) = it.0 in cc)
  started_units rested (Some units) laid cut p answer (Ok yes_) done it = started_set laid answer units p done it.1
  started_units rested (Some units) laid cut p answer (Err stop) done it = absurd it

  never_over : (e : GroupSite R g) (cut : Option CutWrite) (p : OverSet R g) → Over p ≡ (let s : GroupSet R g = record { site = e; cut = cut } in OfGroup s) → ⊥
  never_over e cut p clash = cc

  started_by : (rested : Option Rested) (mid : GroupSite R g) (cut : Option CutWrite) (p : OverSet R g) (answer r : Result (Unit {0}) Stop) → BehindPlain true rested mid cut (Over p) answer r → StartedBy mid answer p
  started_by rested (Up laid) cut p (Ok done) r it = started_units rested laid.core.inner.config.rvg laid cut p (Ok done) r refl it
  started_by rested (Deported idle) cut p (Ok done) r it = absurd (never_over (Deported idle) cut p it.0)
  started_by rested (Down idle) cut p (Ok done) r it = absurd (never_over (Down idle) cut p it.0)
  started_by rested (Marked rack) cut p (Ok done) r it = absurd (never_over (Marked rack) cut p it.0)
  started_by rested Gone cut p (Ok done) r it = absurd (never_over Gone cut p it.0)
  started_by rested mid cut p (Err stop) r it = absurd (never_over mid cut p it.0)

  import_fused : (n m : Node) (note : GroupNode) (before : DiskSet R g) (set : GroupSet R g) (p : OverSet R g) (r : Result (Unit {0}) Stop) → before ≡ OfGroup set → m.fuse ≡ burned n.fuse → AwayNoted n note set.site
      → ImportsIn before (Over p) r → (IsTrue (site_disks (site_in p)).down → ⊥) → FusedAs n before → FusedAs m (Over p)
  import_fused n m note before set p r was fuse noted it up h =
      let by : ImportsBy true set.site set.cut (Over p) r = subst (λ (x : DiskSet R g). ImportsIn x (Over p) r) was it in
      let st : StartedBy by.mid by.answer p = started_by (site_rested set.site) by.mid set.cut p by.answer r by.behind in
      let keeps : KeepsFuse (as_imported set.site) (site_disks by.mid) = (subst (λ (a : Result (Unit {0}) Stop). SiteImports n note set.site by.mid a) st.done (by.by.imported n note noted)).1 in
      let laid_is : (laid_disks st.laid).disks ≡ (site_disks by.mid).disks = ap (λ (e : GroupSite R g). (site_disks e).disks) (sym st.is) in
      fused_goes n m (OfGroup set) (Over p) fuse (st.since.rack ∙ ap (λ (o : Option Disks). is_rack o) laid_is ∙ by.by.since.rack)
      (λ o x at now.
      let mid = some_disks (site_disks by.mid).disks (by.by.since.rack ∙ ap (λ (y : Option Disks). is_rack y) at) in
      fuse_then o.fuse mid.0.fuse x.fuse (keeps.goes o mid.0 (imported_disks set.site ∙ at) mid.1)
      ((st.since.told mid.0 x (laid_is ∙ mid.1) now).fuse (false_from_ne_true (site_disks (site_in p)).down up)))
      (subst (λ (y : DiskSet R g). FusedAs n y) was h)

  -- ---- the line

  module _ (d : Doubted) (old new : Yard R g) (name : List ℕ) (s : ℕ) (before after : DiskSet R g) (stands : StandsFor d old) (call : Called d old new name s before after)
      (place : group_place d.world (GroupImport name) ≡ s) (away : (d.world.nodes s).state ≡ IsDeported) (noted : AwayNoted (d.world.nodes s) (note_at (d.world.nodes s)) call.at.set.site) (over : over_group_at d.world name ≡ true) where
    abbrev n : Node
    n = d.world.nodes s

    abbrev note : GroupNode
    note = note_at (d.world.nodes s)

    rest : rests_world d s 0 false ≡ d
    rest = rest_away d s away

    stood : SiteStands (beside_of d s) (d.world.nodes s) before
    stood = subst (λ (x : DiskSet R g). SiteStands (beside_of d s) n x) (sym call.at.is_set) call.at.stands

    -- one with a replicated volume group came up
    module _ (p : OverSet R g) (is : after ≡ Over p) (brought : ImportsIn before after (Ok tt)) (found : PlainFound (beside_of d s) (d.world.nodes s) (note_at (d.world.nodes s)) p) where
      here : FoundOver (beside_of d s) (d.world.nodes s) (burned (d.world.nodes s).fuse) p
      here = found.over

      up : IsTrue (site_disks (site_in p)).down → ⊥
      up = (rvg_over (beside_of d s) here.node here.next (Over p) here.stands here.noted (rvg_apart here.node (over_rvg (beside_of d s) here.node p here.stands)) here.same.up here.origin).up

      rests : FoundCall d d (GroupImport name) s false old new before p (burned (d.world.nodes s).fuse)
      unfolding here
      rests = record {
        stands = stands;
        fits = stands.links;
        below = call.at.below;
        sure = none_after d.world s (d.after s) (call.at.stands.sure call.at.made);
        links = call.at.stands.unlinked call.at.made;
        note = refl;
        changed = subst (λ (x : DiskSet R g). Changed old new s before x) is call.changed;
        failing = subst (λ (x : DiskSet R g). SameFailing before x) is call.failing;
        brings = tt;
        over = here;
        less = found.less;
        lit_is = refl;
        fused = import_fused n here.node note before call.at.set p (Ok tt) call.at.is_set here.same.fuse noted (subst (λ (x : DiskSet R g). ImportsIn before x (Ok tt)) is brought) up
            (stands.fuses s before call.at.below call.changed.there);
      }

      sits : RvgOver (beside_of (found_left d d (GroupImport name) s false old new before p (burned (d.world.nodes s).fuse) rests) s) rests.over.node rests.over.next (Over p)
      sits = found_sits d d (GroupImport name) s false old new before p (burned n.fuse) rests

      over_leads : SameLoad old new
          → ((core : Core) (c : Config) → core_in after ≡ Some core → AtSite (λ x. site_config x ≡ Some c) after
          → new.facts.items ≡ slice_set old.facts.items s (made_facts core c (fact_of_group (d.world.nodes s) (note_at (d.world.nodes s))))) → LeadsBeside d (GroupImport name) Done old new
      unfolding sits
      over_leads load made = record {
        next = found_left d d (GroupImport name) s false old new before p (burned n.fuse) rests;
        fails = found_fails d d (GroupImport name) s false old new before p (burned n.fuse) rests;
        works = FoundOne (subst (λ (k : ℕ). let e : Doubted = found_left d d (GroupImport name) s false old new before p (burned n.fuse) rests in
            RvgFinds (IsTold new) d (GroupImport name) k (found_fails d d (GroupImport name) s false old new before p (burned n.fuse) rests) Done e) (sym place)
            (found_ends d d (GroupImport name) s false old new before p (burned n.fuse) rests 0 Done (sym rest) refl));
        stands = found_stands d d (GroupImport name) s false old new before p (burned n.fuse) rests
            (made sits.core sits.config (subst (λ (x : DiskSet R g). core_in x ≡ Some sits.core) (sym is) sits.has_core) (subst (λ (x : DiskSet R g). AtSite (λ y. site_config y ≡ Some sits.config) x) (sym is) sits.has));
        carries = λ carried. found_carries d d (GroupImport name) s false old new before p (burned n.fuse) rests load carried;
        rose = found_rose d d (GroupImport name) s false old new before p (burned n.fuse) rests;
      }

    -- it is done
    pub import_came : ImportsIn before after (Ok tt) → ImportsOn (λ o e. SiteImports (d.world.nodes s) (note_at (d.world.nodes s)) o e (Ok (tt {0}))) before after → ImportsOn (λ o e. CameMapped o e (Ok (tt {0}))) before after → cut_in after ≡ None
        → ((beside : KeptBeside) (m : Node) (k : GroupNode) → SiteStands beside m before → m.group ≡ Some k → m.state ≡ IsDeported → FindsOver beside m k before after) → SameLoad old new
        → ((c : Config) → AtSite (λ x. site_config x ≡ Some c) after → c.rvg ≡ None → core_in after ≡ None
        → new.facts.items ≡ slice_set old.facts.items s (group_up_facts (map plain_fact c.volumes) (fact_of_group (d.world.nodes s) (note_at (d.world.nodes s)))))
        → ((core : Core) (c : Config) → core_in after ≡ Some core → AtSite (λ x. site_config x ≡ Some c) after
        → new.facts.items ≡ slice_set old.facts.items s (made_facts core c (fact_of_group (d.world.nodes s) (note_at (d.world.nodes s))))) → LeadsBeside d (GroupImport name) Done old new
    import_came brought on maps cut finds load plain made = by (came_either call.at.set before after (Ok tt) call.at.is_set brought)
      where
        by : CameEither after (Ok tt) → LeadsBeside d (GroupImport name) Done old new
        by (CamePlain t is none) =
            let alone : (c : Config) → AtSite (λ x. site_config x ≡ Some c) after → c.rvg ≡ None = λ c has. none refl c (subst (λ (x : DiskSet R g). AtSite (λ y. site_config y ≡ Some c) x) is has) in
            beside_over d (GroupImport name) old new (Ok Done) over
            (import_done d old new name s before after stands call place away noted
            (on_plain (λ o e. SiteImports n note o e (Ok (tt {0}))) before after call.at.set t call.at.is_set is on)
            (on_plain (λ o e. CameMapped o e (Ok (tt {0}))) before after call.at.set t call.at.is_set is maps) cut load alone
            (λ c has. plain c has (alone c has) (ap (λ (x : DiskSet R g). core_in x) is)))
        by (CameOver p is ok) =
            over_leads p is brought
            (subst (λ (x : DiskSet R g). FindsOver (beside_of d s) n note x (Over p)) call.at.is_set
            (subst (λ (y : DiskSet R g). FindsOver (beside_of d s) n note before y) is (finds (beside_of d s) n note stood (away_notes n note call.at.set.site noted).0.is away)))
            load made

    -- it is refused, or memory ran out
    pub import_kept : (mid : Yard R g) → Midway old mid → (result : Result Said OutOfMemory) → cut_in after ≡ cut_in before → (stop : Stop) → ImportsIn before after (Err stop)
        → ImportsOn (λ o e. SiteImports (d.world.nodes s) (note_at (d.world.nodes s)) o e (Err stop)) before after → ImportsOn (λ o e. CameMapped o e (Err stop)) before after
        → reply_kept after s (fact_of_group (d.world.nodes s) (note_at (d.world.nodes s))) stop mid new result → LeadsBesideIs d (GroupImport name) old new result
    import_kept mid half result cut stop brought on maps reply = by (came_either call.at.set before after (Err stop) call.at.is_set brought)
      where
        by : CameEither after (Err stop) → LeadsBesideIs d (GroupImport name) old new result
        by (CamePlain t is none) =
            beside_over d (GroupImport name) old new result over
            (import_stopped d old new name s before after stands call place away noted mid half result cut stop
            (on_plain (λ o e. SiteImports n note o e (Err stop)) before after call.at.set t call.at.is_set is on)
            (on_plain (λ o e. CameMapped o e (Err stop)) before after call.at.set t call.at.is_set is maps) over
            (plain_reply t s (fact_of_group (d.world.nodes s) (note_at (d.world.nodes s))) stop mid new result
            (subst (λ (x : DiskSet R g). reply_kept x s (fact_of_group (d.world.nodes s) (note_at (d.world.nodes s))) stop mid new result) is reply)))
        by (CameOver p is ok) = absurd (never_ok stop (Err stop) refl ok)
