-- A group of a site that had no replicated volume group, over which one was found and not taken up: it is as behind an import that was refused.
use Rattle.std.proofs.Common.{◌≡◌, ◌∙◌, inl, inr, ℕ, ◌≤◌, ◌&&◌, Bool, true, false, IsTrue, ap, arith, refl, subst, sym}
use Rattle.std.proofs.lemmas.Bool.{both_ways}
use Rattle.std.specs.Prelude.{Err, IsFalse, not, Ok, Option}
use Rattle.vx_disk.proofs.Causing.{Rose_before}
use Rattle.vx_disk.specs.Counts.{Rose}
use Rattle.vx_disk.specs.Racks.{IsRack}
use Rattle.vx_disk.specs.Shelf.{Lawful, Meaning}
use Rattle.vx_disk.specs.declared.shelf.Shelf.{Ghosts}
use Rattle.vx_ground.specs.Lifted.{laid_volumes}
use Rattle.vx_history.specs.Groups.{GroupNode}
use Rattle.vx_history.specs.Steps.{burned, crashed, worked}
use Rattle.vx_history.specs.Stops.{IsFused}
use Rattle.vx_history.specs.World.{Fuse, FuseLit, FuseSet, NoFuse, Node}
use Rattle.vx_logimport.specs.declared.rested.Rested.{Rested}
use Rattle.vx_model.specs.declared.errors.Stop.{Stop}
use Rattle.vx_model.specs.declared.errors.Stop.TheVariants.{No as Refused, OutOfMemory}
use Rattle.vx_model.specs.declared.no.No.{No}
use Rattle.vx_model.specs.declared.no.No.TheVariants.{Damaged, Device, Down as IsOff, Limit, NoConfig}
use Rattle.vx_model.specs.declared.units.Units.{Units}
use Rattle.vx_rvg.specs.Starts.{StartCause}
use Rattle.vx_untold.specs.Shades.{rack_of, shade_meaning}
use Rattle.vx_untold.specs.declared.shade.Shade.{Shade}
use Rattle.vx_untold.specs.declared.shade.Shade.TheVariants.{Bright, Dark}
use Rattle.vx_watched.proofs.SinceLemmas.{since_none}
use Rattle.vx_watched.specs.Since.{CalledSince}
use Rattle.vx_watched.specs.Traces.{TellsLess}
use Rattle.vx_grouped.specs.GroupNotes.{note_dimmed}
use Rattle.vx_grouped.specs.GroupSites.{AreStopped, AwayNoted, DownNoted, GroupAway, GroupDown, IsLit, dimmed_site, idle_below, idle_disks, laid_below, laid_disks, site_below, site_disks}
use Rattle.vx_grouped.specs.Readies.{ready_of}
use Rattle.vx_grouped.specs.SetFuses.{HasFuse}
use Rattle.vx_grouped.specs.SiteEnds.{stops_down}
use Rattle.vx_grouped.specs.SiteMaps.{CameMapped, RestsNot}
use Rattle.vx_grouped.specs.SiteReturns.{ImportRefused, ImportWhy, KnownAway, ReturnSince, SiteImports, SiteRecovers, TellsNone, returned_with, site_rested, stops_early}
use Rattle.vx_grouped.specs.declared.group_site.GroupSite.{GroupSite}
use Rattle.vx_grouped.specs.declared.group_site.GroupSite.TheVariants.{Up, Deported, Down, Marked, Gone}
use Rattle.vx_grouped.specs.declared.idle.Idle.{Idle}
use Rattle.vx_grouped.specs.declared.laid.Laid.{Laid}
use Rattle.vx_grouped.proofs.ImageLemmas.{none_noted}
use Rattle.vx_grouped.proofs.ReadyLemmas.{ImportedSame, imported_same, ready_away, ready_down}
use Rattle.vx_grouped.proofs.ReturnMapLemmas.{down_late}
use Rattle.vx_grouped.proofs.SettleLemmas.{fell_fused}
use Rattle.vx_grouped.proofs.SinceReturns.{dark_armed, dark_counts, dark_down, dark_none, dark_size, dark_units}
use Rattle.vx_grouped.proofs.SiteLemmas.{away_dimmed, lit_dimmed, noted_dimmed, runs_dimmed, some_as}
use Rattle.vx_grouped.proofs.SiteReturnLemmas.{dark_away, frames_blocks, none_can, unarmed_any}
use Rattle.vx_grouped.proofs.TellLemmas.{none_risen}
use Rattle.vx_diskset.specs.OverStarts.{DarkBack, FellDark, PlainTried, Revived, TriedOn, is_dark}

-- ---- disks that tell nothing, by a note of before

-- a site that crashed
down_as : (n : Node) (note : GroupNode) (was : Bool) (old : Meaning) → GroupDown n note true was old → (dims told agreed : Bool) (m : Meaning) → agreed ≡ true → TellsNone m → AreStopped m → m.units ≡ old.units → ((u : ℕ) → m.size u ≡ old.size u)
    → IsLit (note_dimmed dims note) told m → GroupDown (dimmed_site dims note n) (note_dimmed dims note) agreed told m
down_as n note was old it dims told agreed m agrees none stopped units size lit = record {
  noted = noted_dimmed dims n note it.noted;
  lit = lit;
  agrees = λ tight. agrees;
  unfused = it.unfused;
  stopped = stopped;
  last = it.last;
  spells = it.spells;
  away = record {
    state = it.away.state;
    config = it.away.config;
    found = none_noted (note_dimmed dims note) it.last m none.leaves;
    runs = runs_dimmed dims note it.last it.away.runs;
    some = some_as n (dimmed_site dims note n) it.last refl refl it.away.some;
    lies = away_dimmed dims n (dimmed_site dims note n) note it.last m refl refl (dark_away n note it.last old m units size none it.away.lies);
  };
}

-- one that was deported
away_as : (n : Node) (note : GroupNode) (was : Bool) (old : Meaning) → GroupAway n note true was old → (dims told agreed : Bool) (m : Meaning) → agreed ≡ true → TellsNone m → (IsTrue m.down → ⊥) → IsFalse m.armed → m.units ≡ old.units → ((u : ℕ) → m.size u ≡ old.size u)
    → IsLit (note_dimmed dims note) told m → GroupAway (worked (dimmed_site dims note n)) (note_dimmed dims note) agreed told m
away_as n note was old it dims told agreed m agrees none up unarmed units size lit = record {
  noted = record { is = refl; none = record { role = it.noted.none.role; volumes = it.noted.none.volumes; log = it.noted.none.log; safe = it.noted.none.safe; running = it.noted.none.running } };
  lit = lit;
  agrees = λ tight. agrees;
  up = up;
  fuse = unarmed_any n.fuse m unarmed;
  last = it.last;
  newest = it.newest;
  spells = it.spells;
  away = record {
    state = it.away.state;
    config = it.away.config;
    frames = it.away.frames;
    found = none_noted (note_dimmed dims note) it.newest m none.leaves;
    some = some_as n (worked (dimmed_site dims note n)) it.newest refl refl it.away.some;
    lies = away_dimmed dims n (worked (dimmed_site dims note n)) note it.last m refl refl (dark_away n note it.last old m units size none it.away.lies);
  };
}

-- one whose fuse ran out
cut_as : (n : Node) (note : GroupNode) (was : Bool) (old : Meaning) → GroupAway n note true was old → (told agreed : Bool) (m : Meaning) → agreed ≡ true → TellsNone m → AreStopped m → m.units ≡ old.units → ((u : ℕ) → m.size u ≡ old.size u)
    → GroupDown (crashed (returned_with (note_dimmed true note) n) 0) (note_dimmed true note) agreed told m
cut_as n note was old it told agreed m agrees none stopped units size = record {
  noted = record { is = refl; none = record { role = it.noted.none.role; volumes = it.noted.none.volumes; log = refl; safe = refl; running = refl } };
  lit = lit_dimmed note told m;
  agrees = λ tight. agrees;
  unfused = refl;
  stopped = stopped;
  last = it.newest;
  spells = it.spells;
  away = record {
    state = refl;
    config = it.away.config;
    found = none_noted (note_dimmed true note) it.newest m none.leaves;
    runs = λ bright. absurd (let clash : true ≡ false = bright in cc);
    some = some_as n (crashed (returned_with (note_dimmed true note) n) 0) it.newest refl refl it.away.some;
    lies = record {
      units = units ∙ it.away.lies.units;
      size = λ u low. size u ∙ it.away.lies.size u low;
      can = λ tight. none_can m none;
      sizes = λ v. it.away.lies.sizes v ∙ sym (frames_blocks it.newest it.last it.away.frames v);
      finds = λ i each. absurd (none.leaves 0 0 (i 0 0) (each 0 0));
      volumes = λ i x each is. absurd (none.leaves 0 0 (i 0 0) (each 0 0));
      has = λ i x each is. absurd (none.leaves 0 0 (i 0 0) (each 0 0));
    };
  };
}

pub fused_back : (f : Fuse) → IsFused (burned f) → IsFused f
fused_back NoFuse it = it
fused_back (FuseSet calls) it = tt
fused_back (FuseLit most) it = tt

pub never_down : (stop : Stop) → stops_down stop ≡ false → stop ≡ Refused IsOff → ⊥
never_down stop up is = let clash : false ≡ true = sym up ∙ ap (λ (s : Stop). stops_down s) is in cc

tells_not : {R : Type 0} (meaning : R → Meaning) (s : Shade R) → is_dark s ≡ true → (shade_meaning meaning s).tells ≡ false
tells_not meaning (Bright rack) is = absurd (let clash : false ≡ true = is in cc)
tells_not meaning (Dark rack) is = refl

module _ {R : Type 0} {g : Ghosts R} where
  -- ---- the disks

  -- a group crashed, and its disks tell nothing from then on
  pub record Back (mid : Laid R g) (m : Meaning) (told : Bool) : Type 0 where
    pub none : TellsNone m
    pub units : m.units ≡ (laid_disks mid).units
    pub size : (u : ℕ) → m.size u ≡ (laid_disks mid).size u
    pub counts : (d : ℕ) → m.disk_faults d ≡ (laid_disks mid).disk_faults d
    pub unarmed : IsFalse m.armed
    pub less : IsTrue told → IsTrue (laid_below mid).tells

  dark_fell : (rested : Option Rested) (mid : Laid R g) (idle : Idle R g) → FellDark rested mid idle → Back mid (idle_disks idle) (idle_below idle).tells
  dark_fell rested mid idle it =
      subst (λ (s : Shade R). Back mid (shade_meaning g.meaning s) (g.meaning (rack_of s)).tells) (sym it.rack) (record {
        none = dark_none g.meaning it.fell.rack;
        units = dark_units g.meaning it.fell.rack ∙ it.is.stopped.units;
        size = λ u. dark_size g.meaning it.fell.rack u ∙ it.is.stopped.size u;
        counts = λ d. dark_counts g.meaning it.fell.rack d ∙ it.is.stopped.counts.disk_faults d;
        unarmed = dark_armed g.meaning it.fell.rack ∙ it.is.stopped.unarmed;
        less = λ told. it.is.told told;
      })

  dark_stopped : (rested : Option Rested) (mid : Laid R g) (idle : Idle R g) → FellDark rested mid idle → AreStopped (idle_disks idle)
  dark_stopped rested mid idle it = record {
    down = ap (λ (s : Shade R). (shade_meaning g.meaning s).down) it.rack ∙ dark_down g.meaning it.fell.rack ∙ it.is.stopped.down;
    unarmed = (dark_fell rested mid idle it).unarmed;
  }

  -- and they are up again
  pub dark_risen : (rested : Option Rested) (mid : Laid R g) (fell idle : Idle R g) → FellDark rested mid fell → Revived fell idle → Back mid (idle_disks idle) (idle_below idle).tells
  dark_risen rested mid fell idle it up =
      let was = dark_fell rested mid fell it in
      record {
        none = none_risen (idle_disks fell) (idle_disks idle) up.alike up.since.tells was.none;
        units = up.alike.contents.units ∙ was.units;
        size = λ u. up.alike.contents.size u ∙ was.size u;
        counts = λ d. up.alike.counts.disk_faults d ∙ was.counts d;
        unarmed = up.armed ∙ was.unarmed;
        less = λ told. was.less (up.told told);
      }

  -- ---- the start

  pub record Went (laid mid : Laid R g) : Type 0 where
    pub since : CalledSince (laid_disks laid) (laid_disks mid)
    pub told : TellsLess (laid_below laid) (laid_below mid)

  went_none : (laid : Laid R g) → Went laid laid
  went_none laid = record { since = since_none (laid_disks laid); told = λ told. told }

  pub went_on : (units : Units) (laid mid : Laid R g) (stop : Stop) → TriedOn units laid mid stop → Went laid mid
  went_on units laid mid (Refused why) (inl it) = record { since = it.since; told = it.told }
  went_on units laid mid (Refused why) (inr it) = record { since = it.1.starts.since; told = it.1.starts.told }
  went_on units laid mid OutOfMemory it = subst (λ (x : Laid R g). Went laid x) (sym it) (went_none laid)

  pub went_by : (units : Units) (laid mid : Laid R g) (stop : Stop) → PlainTried units laid mid stop → Went laid mid
  went_by units laid mid stop (inl it) = went_on units laid mid stop it.1
  went_by units laid mid stop (inr it) = subst (λ (x : Laid R g). Went laid x) (sym it.0) (went_none laid)

  -- a refusal before the first write comes only of disks that tell nothing
  early_dark : (units : Units) (laid mid : Laid R g) (stop : Stop) → PlainTried units laid mid stop → stops_early stop ≡ true → is_dark laid.shelf ≡ true
  early_dark units laid mid stop (inl it) early = it.0
  early_dark units laid mid stop (inr it) early = absurd (let clash : false ≡ true = sym (ap (λ (s : Stop). stops_early s) it.1) ∙ early in cc)

  lit_back : (note middle : GroupNode) (units : Units) (laid mid : Laid R g) (stop : Stop) (m : Meaning) (told : Bool) → middle.dark ≡ note.dark → IsLit middle (laid_below laid).tells (laid_disks laid) → PlainTried units laid mid stop → Back mid m told
      → (t : Bool) → stops_early stop ≡ t → IsLit (note_dimmed (not t) note) told m
  lit_back note middle units laid mid stop m told dark lit tried back true early =
      λ bright tells.
      absurd (let clash : false ≡ true = sym (tells_not g.meaning laid.shelf (early_dark units laid mid stop tried early)) ∙ lit (dark ∙ bright) ((went_by units laid mid stop tried).told (back.less tells)) in cc)
  lit_back note middle units laid mid stop m told dark lit tried back false early = lit_dimmed note told m

  -- ---- why it was refused

  module _ (units : Units) (laid mid : Laid R g) where
    pub off_tried : (why : No) → stops_down (Refused why) ≡ true → TriedOn units laid mid (Refused why) → IsTrue (laid_disks mid).down
    off_tried why off (inr it) = absurd (let clash : false ≡ true = sym (ap (λ (x : No). stops_down (Refused x)) it.0) ∙ off in cc)
    off_tried IsOff off (inl it) = it.does.2
    off_tried other off (inl it) = absurd (let clash : false ≡ true = off in cc)

    -- the disks are down where the fuse ran out
    pub off_by : (stop : Stop) → stops_down stop ≡ true → PlainTried units laid mid stop → IsTrue (laid_disks mid).down
    off_by stop off (inr it) = absurd (let clash : false ≡ true = sym (ap (λ (s : Stop). stops_down s) it.1) ∙ off in cc)
    off_by (Refused why) off (inl it) = off_tried why off it.1
    off_by OutOfMemory off (inl it) = absurd (let clash : false ≡ true = off in cc)

    module _ (old m : Meaning) (before : (d : ℕ) → old.disk_faults d ≤ (laid_disks laid).disk_faults d) (counts : (d : ℕ) → m.disk_faults d ≡ (laid_disks mid).disk_faults d) (told known : Type 0) (never : told → ⊥) (unknown : known → ⊥) where
      rose : (disk : ℕ) → Rose ((laid_disks laid).disk_faults disk) ((laid_disks mid).disk_faults disk) → Rose (old.disk_faults disk) (m.disk_faults disk)
      rose disk it = subst (λ (x : ℕ). Rose (old.disk_faults disk) x) (sym (counts disk)) (Rose_before (old.disk_faults disk) ((laid_disks laid).disk_faults disk) ((laid_disks mid).disk_faults disk) (before disk) it)

      cause : (why : No) → (why ≡ IsOff → ⊥) → StartCause units (laid_volumes laid) (laid_volumes mid) why → ImportWhy told known old m (Refused why)
      cause (Device disk) up it = rose disk it
      cause IsOff up it = absurd (up refl)
      cause NoConfig up it = λ sure. absurd (unknown sure)
      cause (Limit what most) up it = (it.0, it.1)
      cause (Damaged disk block stored computed) up it = never
      cause other up it = absurd it

      pub why_tried : (why : No) → (why ≡ IsOff → ⊥) → TriedOn units laid mid (Refused why) → ImportWhy told known old m (Refused why)
      why_tried why up (inl it) = cause why up it.does.2
      why_tried why up (inr it) = subst (λ (x : No). ImportWhy told known old m (Refused x)) (sym it.0) (λ sure. absurd (unknown sure))

      pub why_by : (stop : Stop) → (stop ≡ Refused IsOff → ⊥) → PlainTried units laid mid stop → ImportWhy told known old m stop
      why_by stop up (inr it) = subst (λ (s : Stop). ImportWhy told known old m s) (sym it.1) (refl, refl)
      why_by (Refused why) up (inl it) = why_tried why (λ is. up (ap (λ (x : No). Refused x) is)) it.1
      why_by OutOfMemory up (inl it) = tt

  -- ---- a site that crashed

  module _ (n : Node) (note : GroupNode) (was : Idle R g) (laid mid : Laid R g) (units : Units) (stop : Stop) (down : DownNoted n note (Down was)) (came : SiteRecovers n note (Down was) (Up laid) (Ok tt)) (since : ReturnSince (idle_disks was) (laid_disks laid)) (tried : PlainTried units laid mid stop) where
    abbrev node_down : Node
    node_down = dimmed_site (not was.agreed) note n

    abbrev noted_down : GroupNode
    noted_down = note_dimmed (not was.agreed) note

    abbrev first_down : Meaning
    first_down = shade_meaning g.meaning (ready_of was.agreed was.rack)

    same_down : ImportedSame (idle_disks was) first_down
    same_down = imported_same (Down was)

    went_down : Went laid mid
    went_down = went_by units laid mid stop tried

    fuseless : IsFalse (laid_disks laid).armed
    fuseless = subst (λ (f : Fuse). HasFuse (burned f) (laid_disks laid)) down.unfused came.2.fuse

    not_off : stop ≡ Refused IsOff → ⊥
    not_off is = came.2.at.up (went_down.since.safe fuseless (off_by units laid mid stop (ap (λ (s : Stop). stops_down s) is) tried))

    recovers : (idle : Idle R g) → FellDark was.rested mid idle → SiteRecovers n note (Down was) (Down idle) (Err stop)
    recovers idle fell =
        let back = dark_fell was.rested mid idle fell in
        let never : IsTrue (idle_disks idle).tells → ⊥ = (λ tells. let clash : false ≡ true = sym back.none.tells ∙ tells in cc) in (
          down_as node_down noted_down (idle_below was).tells first_down (ready_down g.meaning n note (idle_below was).tells was.agreed was.rack down) (not (stops_early stop)) (idle_below idle).tells idle.agreed (idle_disks idle) fell.agreed back.none
              (dark_stopped was.rested mid idle fell) (back.units ∙ went_down.since.units ∙ since.units ∙ sym same_down.units) (λ u. back.size u ∙ went_down.since.size u ∙ since.size u ∙ sym (same_down.size u))
              (lit_back noted_down came.0 units laid mid stop (idle_disks idle) (idle_below idle).tells came.1.dark came.2.lit tried back (stops_early stop) refl),
          why_by units laid mid first_down (idle_disks idle) (λ d. let e = same_down.counts d in let le = since.counts d in omega (arith, e, le)) back.counts (IsTrue (idle_disks idle).tells) (KnownAway (IsTrue (idle_disks idle).tells) noted_down) never
              (λ known. never known.0) stop not_off tried,
          λ tells. absurd (never tells),
        )

  down_maps : (rested : Option Rested) (was idle : Idle R g) (mid : Laid R g) (stop : Stop) → rested ≡ was.rested → FellDark rested mid idle → CameMapped (Down was) (Down idle) (Err stop)
  down_maps rested was idle mid stop is fell =
      λ early w c it. record {
        disks = record { each = λ i x each at. absurd ((dark_fell rested mid idle fell).none.leaves 0 0 (i 0 0) (each 0 0)) };
        rests = subst (λ (o : Option Rested). RestsNot o) (sym (fell.stays ∙ is)) it.rests;
      }

  -- ---- a site that was deported

  module _ (n : Node) (note : GroupNode) (was : Idle R g) (laid mid : Laid R g) (units : Units) (stop : Stop) (away : AwayNoted n note (Deported was)) (came : SiteImports n note (Deported was) (Up laid) (Ok tt)) (since : ReturnSince (idle_disks was) (laid_disks laid)) (tried : PlainTried units laid mid stop) where
    abbrev node_away : Node
    node_away = dimmed_site (not was.agreed) note n

    abbrev noted_away : GroupNode
    noted_away = note_dimmed (not was.agreed) note

    abbrev first_away : Meaning
    first_away = shade_meaning g.meaning (ready_of was.agreed was.rack)

    same_away : ImportedSame (idle_disks was) first_away
    same_away = imported_same (Deported was)

    went_away : Went laid mid
    went_away = went_by units laid mid stop tried

    ready : GroupAway node_away noted_away true (idle_below was).tells first_away
    ready = ready_away g.meaning n note (idle_below was).tells was.agreed was.rack away

    -- the disks are by themselves
    rests : (idle fell : Idle R g) → stops_down stop ≡ false → FellDark was.rested mid fell → Revived fell idle → ImportRefused false node_away noted_away first_away (Deported idle) stop
    rests idle fell up dark risen =
        let back = dark_risen was.rested mid fell idle dark risen in
        let never : IsTrue (idle_disks idle).tells → ⊥ = (λ tells. let clash : false ≡ true = sym back.none.tells ∙ tells in cc) in (
          away_as node_away noted_away (idle_below was).tells first_away ready (not (stops_early stop)) (idle_below idle).tells idle.agreed (idle_disks idle) (risen.agreed ∙ dark.agreed) back.none (both_ways (idle_disks idle).down risen.up) back.unarmed
              (back.units ∙ went_away.since.units ∙ since.units ∙ sym same_away.units) (λ u. back.size u ∙ went_away.since.size u ∙ since.size u ∙ sym (same_away.size u))
              (lit_back noted_away came.0.0 units laid mid stop (idle_disks idle) (idle_below idle).tells came.0.1.dark came.0.2.lit tried back (stops_early stop) refl),
          inl back.unarmed,
          why_by units laid mid first_away (idle_disks idle) (λ d. let e = same_away.counts d in let le = since.counts d in omega (arith, e, le)) back.counts (IsTrue (idle_disks idle).tells) (KnownAway (IsTrue (idle_disks idle).tells) noted_away) never
              (λ known. never known.0) stop (never_down stop up) tried,
        )

    -- the fuse ran out
    cuts : (idle : Idle R g) → stops_down stop ≡ true → FellDark was.rested mid idle → ImportRefused true node_away noted_away first_away (Down idle) stop
    cuts idle off fell =
        let back = dark_fell was.rested mid idle fell in (
          cut_as node_away noted_away (idle_below was).tells first_away ready (idle_below idle).tells idle.agreed (idle_disks idle) fell.agreed back.none (dark_stopped was.rested mid idle fell) (back.units ∙ went_away.since.units ∙ since.units ∙ sym same_away.units)
              (λ u. back.size u ∙ went_away.since.size u ∙ since.size u ∙ sym (same_away.size u)),
          fused_back n.fuse (fell_fused (burned n.fuse) (laid_disks laid) (laid_disks mid) came.0.2.fuse came.0.2.at.up went_away.since.safe (off_by units laid mid stop off tried)),
        )

    imports_by : (t : Bool) → stops_down stop ≡ t → (e : GroupSite R g) → DarkBack (not t) was.rested mid e → ImportRefused t node_away noted_away first_away e stop
    imports_by true off (Down idle) fell = cuts idle off fell
    imports_by true off (Up x) fell = absurd fell
    imports_by true off (Deported idle) fell = absurd fell
    imports_by true off (Marked rack) fell = absurd fell
    imports_by true off Gone fell = absurd fell
    imports_by false up (Deported idle) fell = rests idle fell.0 up fell.1 fell.2
    imports_by false up (Up x) fell = absurd fell
    imports_by false up (Down idle) fell = absurd fell
    imports_by false up (Marked rack) fell = absurd fell
    imports_by false up Gone fell = absurd fell

  away_maps : (was : Idle R g) (mid : Laid R g) (stop : Stop) (t : Bool) → stops_down stop ≡ t → (e : GroupSite R g) → DarkBack (not t) was.rested mid e → CameMapped (Deported was) e (Err stop)
  away_maps was mid stop true off (Down idle) fell = λ early w c it. absurd (down_late stop off early)
  away_maps was mid stop true off (Up x) fell = absurd fell
  away_maps was mid stop true off (Deported idle) fell = absurd fell
  away_maps was mid stop true off (Marked rack) fell = absurd fell
  away_maps was mid stop true off Gone fell = absurd fell
  away_maps was mid stop false up (Deported idle) fell =
      let back = dark_risen was.rested mid fell.0 idle fell.1 fell.2 in
      let stays : idle.rested ≡ was.rested = fell.2.rested ∙ fell.1.stays in
      λ early w c it. record {
        all = record { finds = λ i each. absurd (back.none.leaves 0 0 (i 0 0) (each 0 0)) };
        disks = record { each = λ i x each at. absurd (back.none.leaves 0 0 (i 0 0) (each 0 0)) };
        alike = λ r is v low sure. it.alike r (sym stays ∙ is) v low sure;
        maps = λ r is v on. it.maps r (sym stays ∙ is) v on;
        serial = λ i each. absurd (back.none.leaves 0 0 (i 0 0) (each 0 0));
        known = λ i r v e each is rest low used good. absurd (back.none.leaves 0 0 (i 0 0) (each 0 0));
      }
  away_maps was mid stop false up (Up x) fell = absurd fell
  away_maps was mid stop false up (Down idle) fell = absurd fell
  away_maps was mid stop false up (Marked rack) fell = absurd fell
  away_maps was mid stop false up Gone fell = absurd fell

  -- ---- any site

  module _ (racks : (s : Shade R) → IsRack (shade_meaning g.meaning s)) (laws : (s : Shade R) → Lawful (shade_meaning g.meaning s)) where
    pub plain_recovers : (n : Node) (note : GroupNode) (old : GroupSite R g) (laid mid : Laid R g) (units : Units) (stop : Stop) (e : GroupSite R g) → DownNoted n note old → SiteRecovers n note old (Up laid) (Ok tt) → ReturnSince (site_disks old) (laid_disks laid)
        → TellsLess (site_below old) (laid_below laid) → PlainTried units laid mid stop → DarkBack (false && not (stops_down stop)) (site_rested old) mid e → SiteRecovers n note old e (Err stop)
    plain_recovers n note (Up x) laid mid units stop e noted came since told tried fell = absurd noted
    plain_recovers n note (Deported was) laid mid units stop e noted came since told tried fell = absurd noted
    plain_recovers n note (Marked rack) laid mid units stop e noted came since told tried fell = absurd noted
    plain_recovers n note Gone laid mid units stop e noted came since told tried fell = absurd noted
    plain_recovers n note (Down was) laid mid units stop (Down idle) noted came since told tried fell = recovers n note was laid mid units stop noted came since tried idle fell
    plain_recovers n note (Down was) laid mid units stop (Up x) noted came since told tried fell = absurd fell
    plain_recovers n note (Down was) laid mid units stop (Deported idle) noted came since told tried fell = absurd fell
    plain_recovers n note (Down was) laid mid units stop (Marked rack) noted came since told tried fell = absurd fell
    plain_recovers n note (Down was) laid mid units stop Gone noted came since told tried fell = absurd fell

    pub plain_imports : (n : Node) (note : GroupNode) (old : GroupSite R g) (laid mid : Laid R g) (units : Units) (stop : Stop) (e : GroupSite R g) → AwayNoted n note old → SiteImports n note old (Up laid) (Ok tt) → ReturnSince (site_disks old) (laid_disks laid)
        → TellsLess (site_below old) (laid_below laid) → PlainTried units laid mid stop → DarkBack (true && not (stops_down stop)) (site_rested old) mid e → SiteImports n note old e (Err stop)
    plain_imports n note (Up x) laid mid units stop e noted came since told tried fell = absurd noted
    plain_imports n note (Down was) laid mid units stop e noted came since told tried fell = absurd noted
    plain_imports n note (Marked rack) laid mid units stop e noted came since told tried fell = absurd noted
    plain_imports n note Gone laid mid units stop e noted came since told tried fell = absurd noted
    plain_imports n note (Deported was) laid mid units stop e noted came since told tried fell = imports_by n note was laid mid units stop noted came since tried (stops_down stop) refl e fell

    -- what is noted of the regions that plexes missed
    pub plain_down_mapped : (n : Node) (note : GroupNode) (old : GroupSite R g) (laid mid : Laid R g) (units : Units) (stop : Stop) (e : GroupSite R g) → DownNoted n note old → PlainTried units laid mid stop → DarkBack (false && not (stops_down stop)) (site_rested old) mid e
        → CameMapped old e (Err stop)
    plain_down_mapped n note (Up x) laid mid units stop e noted tried fell = absurd noted
    plain_down_mapped n note (Deported was) laid mid units stop e noted tried fell = absurd noted
    plain_down_mapped n note (Marked rack) laid mid units stop e noted tried fell = absurd noted
    plain_down_mapped n note Gone laid mid units stop e noted tried fell = absurd noted
    plain_down_mapped n note (Down was) laid mid units stop (Down idle) noted tried fell = down_maps was.rested was idle mid stop refl fell
    plain_down_mapped n note (Down was) laid mid units stop (Up x) noted tried fell = absurd fell
    plain_down_mapped n note (Down was) laid mid units stop (Deported idle) noted tried fell = absurd fell
    plain_down_mapped n note (Down was) laid mid units stop (Marked rack) noted tried fell = absurd fell
    plain_down_mapped n note (Down was) laid mid units stop Gone noted tried fell = absurd fell

    pub plain_away_mapped : (n : Node) (note : GroupNode) (old : GroupSite R g) (laid mid : Laid R g) (units : Units) (stop : Stop) (e : GroupSite R g) → AwayNoted n note old → PlainTried units laid mid stop → DarkBack (true && not (stops_down stop)) (site_rested old) mid e
        → CameMapped old e (Err stop)
    plain_away_mapped n note (Up x) laid mid units stop e noted tried fell = absurd noted
    plain_away_mapped n note (Down was) laid mid units stop e noted tried fell = absurd noted
    plain_away_mapped n note (Marked rack) laid mid units stop e noted tried fell = absurd noted
    plain_away_mapped n note Gone laid mid units stop e noted tried fell = absurd noted
    plain_away_mapped n note (Deported was) laid mid units stop e noted tried fell = away_maps was mid stop (stops_down stop) refl e fell
