-- A group that is found on the disks of a bare site.
use Rattle.std.proofs.Common.{◌≡◌, ◌∙◌, inl, inr, ℕ, Bool, true, false, ap, refl, subst, sym, IsTrue}
use Rattle.std.specs.Prelude.{Result, Ok, Err, Option, Some, None, not}
use Rattle.vx_model.specs.Content.{zero_block}
use Rattle.vx_model.specs.declared.errors.Stop.{Stop}
use Rattle.vx_model.specs.declared.errors.Stop.TheVariants.{No as Refused}
use Rattle.vx_model.specs.declared.no.No.TheVariants.{NoConfig}
use Rattle.vx_model.specs.declared.site.SiteState.TheVariants.{Bare as IsBare, Up as IsUp, Down as IsDown, Deported as IsDeported}
use Rattle.vx_diskset.specs.declared.over_set.OverSite.TheVariants.{Origin as OriginSite, Receiver as ReceiverSite, Deported as GroupAway, Down as GroupFell, Gone as NoGroup}
use Rattle.vx_config.specs.declared.config.Config.{Config}
use Rattle.vx_disk.specs.Shelf.{Keeps, Lawful, Meaning}
use Rattle.vx_disk.specs.declared.shelf.Shelf.{Ghosts}
use Rattle.vx_history.specs.World.{Node}
use Rattle.vx_watched.specs.Since.{CalledSince}
use Rattle.vx_grouped.specs.Finds.{CanFind, FindStops}
use Rattle.vx_disk.specs.Racks.{IsRack}
use Rattle.vx_grouped.specs.GroupSites.{laid_disks, site_disks, site_below}
use Rattle.vx_grouped.specs.SiteEnds.{stops_down}
use Rattle.vx_grouped.specs.SiteReturns.{ReturnSince}
use Rattle.vx_grouped.specs.declared.idle.Idle.{Idle}
use Rattle.vx_grouped.proofs.SinceReturns.{dark_armed, dark_counts, dark_down, dark_size, dark_units, returns_unarmed}
use Rattle.vx_untold.specs.Shades.{rack_of, shade_meaning}
use Rattle.vx_untold.specs.declared.shade.Shade.{Shade}
use Rattle.vx_untold.specs.declared.shade.Shade.TheVariants.{Bright, Dark}
use Rattle.vx_grouped.specs.declared.group_site.GroupSite.{GroupSite}
use Rattle.vx_grouped.specs.declared.group_site.GroupSite.TheVariants.{Up, Deported, Down, Marked, Gone}
use Rattle.vx_grouped.specs.declared.laid.Laid.{Laid}
use Rattle.vx_model.specs.declared.units.Units.{Units}
use Rattle.vx_diskset.specs.Asked.{SameFailing}
use Rattle.vx_diskset.specs.DiskSets.{Later}
use Rattle.vx_diskset.specs.GroupFinds.{FindsIs, FindsOn, FoundApart, FoundIn, FoundUp, HasPlain, InBare, StartsBare, bare_again, given_bare}
use Rattle.vx_diskset.specs.Holds.{KeptBeside}
use Rattle.vx_diskset.specs.Stands.{IsCleanAt, IsGroupSet, IsRackTold, IsToldAt, SiteStands, OverStands}
use Rattle.vx_diskset.specs.declared.disk_set.DiskSet.{DiskSet}
use Rattle.vx_diskset.specs.declared.disk_set.DiskSet.TheVariants.{Bare, Spoiled, Up as UpSet, Receives, Down as DownSet, OfGroup, Over, Gone as GoneSet}
use Rattle.vx_diskset.specs.declared.group_set.CutWrite.{CutWrite}
use Rattle.vx_diskset.specs.declared.group_set.GroupSet.{GroupSet}
use Rattle.vx_diskset.specs.GroupCalls.{AtSite, cut_in}
use Rattle.vx_diskset.specs.GroupSets.{cut_value}
use Rattle.vx_diskset.specs.OverStarts.{DarkBack, FellDark, PlainFails, PlainStarts, PlainTried, PlainUnits, Revived, Started, is_dark}
use Rattle.vx_diskset.specs.Recovers.{RisesSince}
use Rattle.vx_diskset.proofs.GroupCalling.{failing_risen, has_bare, later_risen, on_group, rises_called, told_behind}
use Rattle.vx_diskset.proofs.PlainBacks.{Went, dark_risen, never_down, off_by, went_by, why_by}
use Rattle.vx_diskset.proofs.PlainImports.{with_rises, with_tells}
use Rattle.vx_diskset.proofs.StaysUp.{not_true}
use Rattle.vx_watched.specs.Traces.{TellsLess}
use Rattle.vx_diskset.specs.declared.over_set.OverSet.{OverSet}
use Rattle.vx_diskset.specs.declared.over_set.OverSite.{OverSite}

pub find_can : (n : Node) (m : Meaning) → IsCleanAt n m → n.state ≡ IsBare → CanFind n m
find_can n m it state = record {
  state = state;
  unfused = ap (λ (x : Node). x.fuse) it.bare.is;
  units = it.bare.fitted.units;
  size = it.bare.fitted.size;
  up = it.bare.fitted.up;
  unarmed = it.bare.unarmed;
}

-- of contents that are not told nothing is said
found_clean : (n : Node) (m last : Meaning) (stop : Stop) → Lawful last → (IsTrue last.tells → ⊥) → IsCleanAt n m → FindStops n m last stop → IsCleanAt n last
found_clean n m last stop lawful untold clean it = record {
  bare = record {
    is = clean.bare.is;
    fitted = record { units = it.units; size = it.size; up = it.up };
    unarmed = it.unarmed;
    few = clean.bare.few;
    some = clean.bare.some;
    blank = λ u b some past below. none u b;
  };
  front = λ b below. none 0 b;
}
  where
    none : (u b : ℕ) → Keeps last u b zero_block
    none u b = record { only = λ v left. absurd (lawful.none (not_true last.tells untold) u b v left) }

rack_rises : {R : Type 0} (meaning : R → Meaning) (m : Meaning) (s : Shade R) → RisesSince m (shade_meaning meaning s) → RisesSince m (meaning (rack_of s))
rack_rises meaning m (Bright r) it = it
rack_rises meaning m (Dark r) it = record { counts = it.counts; rack = it.rack; failing = it.failing; passes = it.passes }

module _ {R : Type 0} {g : Ghosts R} where
  -- ---- what is told of the disks

  pub found_failing : (rack : R) (new : DiskSet R g) → AtSite (λ e. RisesSince (g.meaning rack) (site_disks e)) new → SameFailing (Bare rack) new
  found_failing rack new since =
      let on = on_group (λ e. RisesSince (g.meaning rack) (site_disks e)) new since in
      failing_risen (Bare rack) new (g.meaning rack) (site_disks on.site) (has_bare (Bare rack) rack refl) on.disks on.has

  pub found_later : (rack : R) (new : DiskSet R g) → AtSite (λ e. RisesSince (g.meaning rack) (site_disks e)) new → AtSite (λ e. TellsLess (g.meaning rack) (site_below e)) new → Later (Bare rack) new
  found_later rack new since less =
      let on = on_group (λ e. RisesSince (g.meaning rack) (site_disks e)) new since in
      later_risen (Bare rack) new (g.meaning rack) (site_disks on.site) (has_bare (Bare rack) rack refl) on.disks on.has (λ told. told_behind (g.meaning rack) new less told)

  -- ---- disks by themselves, as those of a bare site

  site_rises : (rack : R) (e : GroupSite R g) (cut : Option CutWrite) → RisesSince (g.meaning rack) (site_disks e) → SameFailing (Bare rack) (given_bare e cut)
  site_rises rack (Deported idle) cut it =
      failing_risen (Bare rack) (Bare (rack_of idle.rack)) (g.meaning rack) (g.meaning (rack_of idle.rack)) (has_bare (Bare rack) rack refl) (has_bare (Bare (rack_of idle.rack)) (rack_of idle.rack) refl) (rack_rises g.meaning (g.meaning rack) idle.rack it)
  site_rises rack (Up laid) cut it = found_failing rack (let s : GroupSet R g = record { site = Up laid; cut = cut } in OfGroup s) it
  site_rises rack (Down idle) cut it = found_failing rack (let s : GroupSet R g = record { site = Down idle; cut = cut } in OfGroup s) it
  site_rises rack (Marked r) cut it = found_failing rack (let s : GroupSet R g = record { site = Marked r; cut = cut } in OfGroup s) it
  site_rises rack Gone cut it = found_failing rack (let s : GroupSet R g = record { site = Gone; cut = cut } in OfGroup s) it

  again_failing : (rack : R) (mid : DiskSet R g) → AtSite (λ e. RisesSince (g.meaning rack) (site_disks e)) mid → SameFailing (Bare rack) (bare_again mid)
  again_failing rack (Bare r) it = absurd it
  again_failing rack (Spoiled r) it = absurd it
  again_failing rack (UpSet rvg) it = absurd it
  again_failing rack (Receives s) it = absurd it
  again_failing rack (DownSet r) it = absurd it
  again_failing rack (OfGroup s) it = site_rises rack s.site s.cut it
  again_failing rack (Over s) it = found_failing rack (Over s) it
  again_failing rack GoneSet it = absurd it

  site_later : (rack : R) (e : GroupSite R g) (cut : Option CutWrite) → RisesSince (g.meaning rack) (site_disks e) → TellsLess (g.meaning rack) (site_below e) → Later (Bare rack) (given_bare e cut)
  site_later rack (Deported idle) cut it less =
      later_risen (Bare rack) (Bare (rack_of idle.rack)) (g.meaning rack) (g.meaning (rack_of idle.rack)) (has_bare (Bare rack) rack refl) (has_bare (Bare (rack_of idle.rack)) (rack_of idle.rack) refl) (rack_rises g.meaning (g.meaning rack) idle.rack it) less
  site_later rack (Up laid) cut it less = found_later rack (let s : GroupSet R g = record { site = Up laid; cut = cut } in OfGroup s) it less
  site_later rack (Down idle) cut it less = found_later rack (let s : GroupSet R g = record { site = Down idle; cut = cut } in OfGroup s) it less
  site_later rack (Marked r) cut it less = found_later rack (let s : GroupSet R g = record { site = Marked r; cut = cut } in OfGroup s) it less
  site_later rack Gone cut it less = found_later rack (let s : GroupSet R g = record { site = Gone; cut = cut } in OfGroup s) it less

  again_later : (rack : R) (mid : DiskSet R g) → AtSite (λ e. RisesSince (g.meaning rack) (site_disks e)) mid → AtSite (λ e. TellsLess (g.meaning rack) (site_below e)) mid → Later (Bare rack) (bare_again mid)
  again_later rack (Bare r) it less = absurd it
  again_later rack (Spoiled r) it less = absurd it
  again_later rack (UpSet rvg) it less = absurd it
  again_later rack (Receives s) it less = absurd it
  again_later rack (DownSet r) it less = absurd it
  again_later rack (OfGroup s) it less = site_later rack s.site s.cut it less
  again_later rack (Over s) it less = found_later rack (Over s) it less
  again_later rack GoneSet it less = absurd it

  module _ (racks : (s : Shade R) → IsRack (shade_meaning g.meaning s)) (rack : R) (e : GroupSite R g) (since : RisesSince (g.meaning rack) (site_disks e)) where
    pub starts_failing : (new : DiskSet R g) (r : Result (Unit {0}) Stop) → StartsBare e new r → SameFailing (Bare rack) new
    starts_failing new (Ok done) it = found_failing rack new (with_rises racks true None (g.meaning rack) e None new (Ok done) since it)
    starts_failing new (Err stop) it =
        subst (λ (x : DiskSet R g). SameFailing (Bare rack) x) (sym it.1) (again_failing rack it.0 (with_rises racks true None (g.meaning rack) e None it.0 (Err stop) since it.2))

    pub starts_later : (new : DiskSet R g) (r : Result (Unit {0}) Stop) → TellsLess (g.meaning rack) (site_below e) → StartsBare e new r → Later (Bare rack) new
    starts_later new (Ok done) less it =
        found_later rack new (with_rises racks true None (g.meaning rack) e None new (Ok done) since it) (with_tells true None (g.meaning rack) e None new (Ok done) less it)
    starts_later new (Err stop) less it =
        subst (λ (x : DiskSet R g). Later (Bare rack) x) (sym it.1)
        (again_later rack it.0 (with_rises racks true None (g.meaning rack) e None it.0 (Err stop) since it.2) (with_tells true None (g.meaning rack) e None it.0 (Err stop) less it.2))

  -- what stays as it is
  pub site_rest : (e : GroupSite R g) (cut : Option CutWrite) → ((idle : Idle R g) → e ≡ Deported idle → ⊥) → (let s : GroupSet R g = record { site = e; cut = cut } in OfGroup s) ≡ given_bare e cut
  site_rest (Deported idle) cut never = absurd (never idle refl)
  site_rest (Up laid) cut never = refl
  site_rest (Down idle) cut never = refl
  site_rest (Marked rack) cut never = refl
  site_rest Gone cut never = refl

  pub again_rest : (e : DiskSet R g) → ((s : GroupSet R g) → e ≡ OfGroup s → ⊥) → e ≡ bare_again e
  again_rest (OfGroup s) never = absurd (never s refl)
  again_rest (Bare rack) never = refl
  again_rest (Spoiled rack) never = refl
  again_rest (UpSet rvg) never = refl
  again_rest (Receives s) never = refl
  again_rest (DownSet rack) never = refl
  again_rest (Over s) never = refl
  again_rest GoneSet never = refl

  -- ---- a group that was found, with the replicated volume group that its configuration names

  module _ (racks : (s : Shade R) → IsRack (shade_meaning g.meaning s)) (site : ℕ) (n : Node) (rack : R) (can : CanFind n (g.meaning rack))
      (over : (laid : Laid R g) (units : Units) (s : OverSet R g) → FoundUp site n (Up laid) → laid.core.inner.config.rvg ≡ Some units → is_dark laid.shelf ≡ true → Started units laid s → FoundApart n s) where
    -- of disks that are not taken up
    module _ (laid mid : Laid R g) (units : Units) (stop : Stop) (up : FoundUp site n (Up laid)) (since : ReturnSince (g.meaning rack) (laid_disks laid)) (tried : PlainTried units laid mid stop) where
      went : Went laid mid
      went = went_by units laid mid stop tried

      -- the fuse of a bare site does not run out
      bare_up : stops_down stop ≡ true → ⊥
      bare_up off = up.4.at.up (went.since.safe (returns_unarmed (g.meaning rack) (laid_disks laid) (racks (Bright rack)) (racks laid.shelf) since can.unarmed) (off_by units laid mid stop off tried))

      back_stops : (fell idle : Idle R g) → stops_down stop ≡ false → FellDark None mid fell → Revived fell idle → FindStops n (g.meaning rack) (g.meaning (rack_of idle.rack)) stop
      back_stops fell idle off dark risen =
          let back = dark_risen None mid fell idle dark risen in
          let counts : (d : ℕ) → (g.meaning (rack_of idle.rack)).disk_faults d ≡ (laid_disks mid).disk_faults d
          = λ d. dark_counts g.meaning idle.rack d ∙ back.counts d in
          record {
            units = dark_units g.meaning idle.rack ∙ back.units ∙ went.since.units ∙ since.units ∙ can.units;
            size = λ u low. dark_size g.meaning idle.rack u ∙ back.size u ∙ went.since.size u ∙ since.size u ∙ can.size u low;
            up = dark_down g.meaning idle.rack ∙ risen.up;
            unarmed = dark_armed g.meaning idle.rack ∙ back.unarmed;
            why = why_by units laid mid (g.meaning rack) (g.meaning (rack_of idle.rack)) since.counts counts ⊥ ⊥ (λ none. none) (λ none. none) stop (never_down stop off) tried;
          }

      in_bare : (t : Bool) → stops_down stop ≡ t → (e : GroupSite R g) (cut : Option CutWrite) → DarkBack (not t) None mid e → InBare (λ m. FindStops n (g.meaning rack) m stop) (given_bare e cut)
      in_bare true off e cut fell = absurd (bare_up off)
      in_bare false off (Deported idle) cut fell = back_stops fell.0 idle off fell.1 fell.2
      in_bare false off (Up x) cut fell = absurd fell
      in_bare false off (Down idle) cut fell = absurd fell
      in_bare false off (Marked r) cut fell = absurd fell
      in_bare false off Gone cut fell = absurd fell

    module _ (laid : Laid R g) (up : FoundUp site n (Up laid)) (since : ReturnSince (g.meaning rack) (laid_disks laid)) where
      done_starts : (units : Units) (new : DiskSet R g) (done : Unit {0}) → laid.core.inner.config.rvg ≡ Some units → PlainStarts true None units laid None new (Ok done) → FoundIn site n new × (cut_in new ≡ None)
      done_starts units (Bare r) done has it = absurd it
      done_starts units (Spoiled r) done has it = absurd it
      done_starts units (UpSet rvg) done has it = absurd it
      done_starts units (Receives s) done has it = absurd it
      done_starts units (DownSet r) done has it = absurd it
      done_starts units (OfGroup s) done has it = absurd it
      done_starts units (Over s) done has it =
          let started : Started units laid s = it.1 in
          (over laid units s up has it.0 started, ap (λ (k : Option CutWrite). cut_value k) started.cut)
      done_starts units GoneSet done has it = absurd it

      up_plain : laid.core.inner.config.rvg ≡ None → HasPlain (Up laid)
      up_plain none c is = ap (λ (k : Config). k.rvg) (one c laid.core.inner.config (sym is)) ∙ none
        where
          one : (x y : Config) → Some x ≡ Some y → x ≡ y
          one x y same = cc

      done_units : (rvg : Option Units) (new : DiskSet R g) (done : Unit {0}) → laid.core.inner.config.rvg ≡ rvg → PlainUnits true None rvg laid None new (Ok done) → FoundIn site n new × (cut_in new ≡ None)
      done_units None new done is it = subst (λ (x : DiskSet R g). FoundIn site n x × (cut_in x ≡ None)) (sym it.0) ((up, up_plain is), refl)
      done_units (Some units) new done is it = done_starts units new done is it

      stop_starts : (units : Units) (mid : DiskSet R g) (stop : Stop) → PlainStarts true None units laid None mid (Err stop) → InBare (λ m. FindStops n (g.meaning rack) m stop) (bare_again mid)
      stop_starts units (Bare r) stop it = absurd it
      stop_starts units (Spoiled r) stop it = absurd it
      stop_starts units (UpSet rvg) stop it = absurd it
      stop_starts units (Receives s) stop it = absurd it
      stop_starts units (DownSet r) stop it = absurd it
      stop_starts units (OfGroup s) stop it =
          let off : PlainFails true None units laid None s stop = it in
          in_bare laid off.mid units stop up since off.tried (stops_down stop) refl s.site s.cut off.fell
      stop_starts units (Over s) stop it = absurd it
      stop_starts units GoneSet stop it = absurd it

      stop_units : (rvg : Option Units) (mid : DiskSet R g) (stop : Stop) → PlainUnits true None rvg laid None mid (Err stop) → InBare (λ m. FindStops n (g.meaning rack) m stop) (bare_again mid)
      stop_units None mid stop it = absurd (never_err stop it.1)
        where
          never_err : (stop : Stop) → ◌≡◌ {A = Result (Unit {0}) Stop} (Err stop) (Ok tt) → ⊥
          never_err stop is = cc
      stop_units (Some units) mid stop it = stop_starts units mid stop it

    pub finds_with : (e : GroupSite R g) (new : DiskSet R g) (r : Result (Unit {0}) Stop) → FoundUp site n e → ReturnSince (g.meaning rack) (site_disks e) → StartsBare e new r → FindsOn site n (g.meaning rack) new r
    finds_with (Up laid) new (Ok done) up since it = done_units laid up since laid.core.inner.config.rvg new done refl it
    finds_with (Up laid) new (Err stop) up since it =
        subst (λ (x : DiskSet R g). InBare (λ m. FindStops n (g.meaning rack) m stop) x) (sym it.1) (stop_units laid up since laid.core.inner.config.rvg it.0 stop it.2)
    finds_with (Deported idle) new r up since it = absurd up.4
    finds_with (Down idle) new r up since it = absurd up.4
    finds_with (Marked r) new a up since it = absurd up.4
    finds_with Gone new r up since it = absurd up.4

  pub back_failing : (rack new : R) → CalledSince (g.meaning rack) (g.meaning new) → SameFailing {g = g} (Bare rack) (Bare new)
  back_failing rack new since =
      failing_risen (Bare rack) (Bare new) (g.meaning rack) (g.meaning new) (has_bare (Bare rack) rack refl) (has_bare (Bare new) new refl) (rises_called (g.meaning rack) (g.meaning new) since)

  pub back_later : (rack new : R) → CalledSince (g.meaning rack) (g.meaning new) → Later {g = g} (Bare rack) (Bare new)
  back_later rack new since =
      later_risen (Bare rack) (Bare new) (g.meaning rack) (g.meaning new) (has_bare (Bare rack) rack refl) (has_bare (Bare new) new refl) (rises_called (g.meaning rack) (g.meaning new) since) (λ told. sym since.tells ∙ told)

  -- ---- the site

  module _ (site : ℕ) (n : Node) (rack : R) (clean : IsCleanAt n (g.meaning rack)) (lawful : (r : R) → Lawful (g.meaning r)) where
    find_bare : (new : DiskSet R g) (stop : Stop) → (IsRackTold new → ⊥) → InBare (λ m. FindStops n (g.meaning rack) m stop) new → FindsIs site n (Bare rack) new (Err stop)
    find_bare (Bare last) stop untold it = (λ beside. found_clean n (g.meaning rack) (g.meaning last) stop (lawful last) untold clean it, inr it.why)
    find_bare (Spoiled last) stop untold it = absurd it
    find_bare (UpSet rvg) stop untold it = absurd it
    find_bare (Receives s) stop untold it = absurd it
    find_bare (DownSet last) stop untold it = absurd it
    find_bare (OfGroup s) stop untold it = absurd it
    find_bare (Over s) stop untold it = absurd it
    find_bare GoneSet stop untold it = absurd it

    pub finds_is : (new : DiskSet R g) (r : Result (Unit {0}) Stop) → (IsRackTold new → ⊥) → FindsOn site n (g.meaning rack) new r → FindsIs site n (Bare rack) new r
    finds_is new (Ok done) untold it = (untold, it.0, it.1)
    finds_is new (Err stop) untold it = find_bare new stop untold it

  -- a rack that is no group's now was none's before
  pub untold_later : (rack : R) (old new : DiskSet R g) → old ≡ Bare rack → Later old new → (IsToldAt old → ⊥) → IsRackTold new → ⊥
  untold_later rack old new is later untold told = untold (subst (λ (x : DiskSet R g). IsToldAt x) (sym is) (subst (λ (x : DiskSet R g). IsRackTold x) is (later.told told)))

  -- ---- other disks of a bare site

  marked_beside : (beside other : KeptBeside) (n : Node) (s : GroupSet R g) → n.state ≡ IsBare → IsGroupSet beside n s → IsGroupSet other n s
  marked_beside beside other n s state it = record {
    sure = λ never. absurd (never state);
    unlinked = λ never. absurd (never state);
    stands = it.stands;
    cut = it.cut;
    lies = it.lies;
    bare = it.bare;
    few = it.few;
    some = it.some;
    maps = it.maps;
    plain = it.plain;
  }

  -- a site with a replicated volume group is not bare
  pub over_made : (beside : KeptBeside) (n : Node) (s : OverSite R g) → OverStands beside n s → n.state ≡ IsBare → ⊥
  over_made beside n (OriginSite f) it state = let e : IsUp ≡ IsBare = sym it.state ∙ state in cc
  over_made beside n (ReceiverSite f) it state = let e : IsUp ≡ IsBare = sym it.state ∙ state in cc
  over_made beside n (GroupAway idle) it state = let e : IsDeported ≡ IsBare = sym it.0 ∙ state in cc
  over_made beside n (GroupFell idle) it state = let e : IsDown ≡ IsBare = sym it.0 ∙ state in cc
  over_made beside n NoGroup it state = it

  pub other_finds : (site : ℕ) (n : Node) → n.state ≡ IsBare → (beside : KeptBeside) (e : DiskSet R g) → SiteStands beside n e → FindsIs site n e e (Err (Refused NoConfig))
  other_finds site n state beside (Bare rack) stands = (λ other. stands, inl refl)
  other_finds site n state beside (Spoiled rack) stands = (λ other. stands, inl refl)
  other_finds site n state beside (UpSet rvg) stands = absurd (let e : IsUp ≡ IsBare = sym stands.1.state ∙ state in cc)
  other_finds site n state beside (Receives s) stands = absurd (let e : IsUp ≡ IsBare = sym stands.1.state ∙ state in cc)
  other_finds site n state beside (DownSet rack) stands = absurd (let e : IsDown ≡ IsBare = sym stands.state ∙ state in cc)
  other_finds site n state beside (OfGroup s) stands = (λ other. marked_beside beside other n s state stands, inl refl)
  other_finds site n state beside (Over s) stands = absurd (over_made beside n s.site stands.1 state)
  other_finds site n state beside GoneSet stands = absurd stands
