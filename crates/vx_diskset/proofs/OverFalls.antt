-- The disks below a replicated volume group, which crash.
use Rattle.std.proofs.Common.{◌≡◌, ◌∙◌, ◌⊎◌, inl, inr, ℕ, Bool, true, false, ap, arith, length, refl, subst, sym}
use Rattle.std.specs.Prelude.{Option, Some}
use Rattle.vx_config.specs.Configs.{HasSpelling}
use Rattle.vx_config.specs.declared.config.Config.{Config}
use Rattle.vx_copyfmt.specs.Imports.{Found}
use Rattle.vx_disk.specs.Causes.{OnDisks}
use Rattle.vx_disk.specs.Disks.{Crashed}
use Rattle.vx_disk.specs.Shelf.{Each}
use Rattle.vx_disk.specs.declared.shelf.Shelf.{Ghosts}
use Rattle.vx_events.specs.GroupViews.{volumes_of}
use Rattle.vx_events.specs.RvgFits.{config_rvg, entries_noted, rvg_noted}
use Rattle.vx_group.specs.Holding.{wide}
use Rattle.vx_group.specs.declared.inner.Inner.{Inner}
use Rattle.vx_group.proofs.HoldLemmas.{wide_none}
use Rattle.vx_history.specs.Groups.{GroupNode}
use Rattle.vx_history.specs.Steps.{crashed}
use Rattle.vx_history.specs.World.{Node}
use Rattle.vx_kept.specs.Cleans.{at_serial}
use Rattle.vx_kept.specs.Groups.{found}
use Rattle.vx_kept.proofs.Low.{found_same}
use Rattle.vx_model.specs.declared.units.Units.{Units}
use Rattle.vx_untold.specs.Shades.{shade_meaning}
use Rattle.vx_watched.specs.Traces.{TellsLess}
use Rattle.vx_grouped.specs.GroupNotes.{GroupLies, is_sure}
use Rattle.vx_grouped.specs.Readies.{ready_of}
use Rattle.vx_grouped.specs.GroupSites.{CutNoted, DownNoted, UpNoted, idle_below, idle_disks, laid_below, laid_disks, site_below, site_disks}
use Rattle.vx_grouped.specs.SiteEnds.{MayCrashSite}
use Rattle.vx_grouped.specs.declared.group_site.GroupSite.{GroupSite}
use Rattle.vx_grouped.specs.declared.group_site.GroupSite.TheVariants.{Up, Deported, Down, Marked, Gone}
use Rattle.vx_grouped.specs.declared.idle.Idle.{Idle}
use Rattle.vx_grouped.specs.declared.laid.Laid.{Laid}
use Rattle.vx_grouped.proofs.ImageLemmas.{sure_by, sure_free, sure_kept}
use Rattle.vx_grouped.proofs.SiteLemmas.{down_noted}
use Rattle.vx_grouped.proofs.TraceLemmas.{lit_since}
use Rattle.vx_diskset.specs.Aboves.{above_in, site_in}
use Rattle.vx_diskset.specs.Asked.{CrashesBy, MayCrash}
use Rattle.vx_diskset.specs.DiskSets.{Later}
use Rattle.vx_diskset.specs.Founded.{LaidFell}
use Rattle.vx_diskset.specs.Noted.{FoundNamed, IsNoteTidy, OversFall, RestsNamed}
use Rattle.vx_diskset.specs.Stands.{IsToldAt, KeepsRole, RoleBy, idle_ready}
use Rattle.vx_diskset.specs.declared.disk_set.DiskSet.{DiskSet}
use Rattle.vx_diskset.specs.declared.disk_set.DiskSet.TheVariants.{Over}
use Rattle.vx_diskset.specs.declared.over_set.OverSet.{OverSet}
use Rattle.vx_diskset.proofs.OverCrash.{IsUnder, ready_under}
use Rattle.vx_diskset.proofs.OverGroups.{may_by}
use Rattle.vx_diskset.proofs.OverNoted.{note_read}
use Rattle.vx_diskset.proofs.UnderCalling.{under_fell}

module _ {R : Type 0} {g : Ghosts R} where
  pub fell_of : (pick : ℕ) (a b : Laid R g) (idle : Idle R g) → b ≡ a → LaidFell pick b idle → LaidFell pick a idle
  fell_of pick a b idle same it = subst (λ x. LaidFell pick x idle) same it

  module _ (pick : ℕ) (l : Laid R g) (idle : Idle R g) (it : LaidFell pick l idle) where
    -- imports agree of a group whose newest configuration is committed
    fell_agrees : (n : Node) (note : GroupNode) → IsNoteTidy note → GroupLies n note l.core (laid_disks l) → note.loose ≡ false → idle.agreed ≡ true
    fell_agrees n note tidy lies tight = it.agreed ∙ sure_by l.core.inner.committed l.core.held (lies.committed tight (tidy tight)) (lies.images.free tight (tidy tight))

    fell_up : (n : Node) (note : GroupNode) → IsNoteTidy note → UpNoted n note (Up l) → DownNoted (crashed n 0) note (Down idle)
    fell_up n note tidy up =
        down_noted n note idle.agreed (idle_below idle).tells l.core.inner.config (idle_disks idle) up.noted
        (lit_since note note (laid_below l).tells (idle_below idle).tells (laid_disks l) (idle_disks idle) refl it.stopped.tells it.told up.lit)
        (fell_agrees n note tidy up.at.lies) (record { down = it.stopped.down; unarmed = it.stopped.unarmed }) up.spells (it.away n note up.at.lies)

    fell_cut : (n : Node) (note : GroupNode) → IsNoteTidy note → CutNoted n note (Up l) → DownNoted (crashed n 0) note (Down idle)
    fell_cut n note tidy fallen =
        down_noted n note idle.agreed (idle_below idle).tells l.core.inner.config (idle_disks idle) fallen.noted
        (lit_since note note (laid_below l).tells (idle_below idle).tells (laid_disks l) (idle_disks idle) refl it.stopped.tells it.told fallen.lit)
        (fell_agrees n note tidy fallen.cut.lies) (record { down = it.stopped.down; unarmed = it.stopped.unarmed }) fallen.spells (it.away n note fallen.cut.lies)

    -- each configuration that an import may find names the replicated volume group that is noted, and has the volumes that are
    named_by : (n : Node) (note : GroupNode) (units : Units) → GroupLies n note l.core (laid_disks l) → HasSpelling (at_serial 0 l.core.inner.config) → rvg_noted note ≡ Some units → (b : Bool) → idle.agreed ≡ b → FoundNamed units (length (entries_noted note)) (idle_ready idle)
    named_by n note units lies spells named true agreed = record {
      each = λ i x each is.
          let sure : is_sure l.core ≡ true = sym it.agreed ∙ agreed in
          let under : IsUnder (idle_ready idle) (idle_disks idle) = ready_under g idle.agreed idle.rack in
          let was : Each (laid_disks l).leaves i = (λ u b. it.stopped.leaves u b (i u b) (under.leaves u b (i u b) (each u b))) in
          let found_was : found (laid_disks l) i ≡ Found x = sym (found_same (laid_disks l) (idle_ready idle) (under.units ∙ it.stopped.units) (λ u. under.size u ∙ it.stopped.size u) (λ u. true) i) ∙ is in
          let one : at_serial 0 x ≡ at_serial 0 (wide l.core).config = (lies.images.newest (sure_kept l.core.inner.committed l.core.held sure)).each i x was found_was in
          let free = wide_none l.core (sure_free l.core.inner.committed l.core.held sure) in
          let read = note_read note l.core.inner.config (record { is = lies.config; spells = spells }) in (
            ap (λ (y : Config). y.rvg) one ∙ ap (λ (e : Inner). e.config.rvg) free ∙ sym (ap (λ (o : Option Config). config_rvg o) read) ∙ named,
            ap (λ (y : Config). length y.volumes) one ∙ ap (λ (e : Inner). length e.config.volumes) free ∙ sym (ap (λ (o : Option Config). length (volumes_of o)) read),
          );
    }
    named_by n note units lies spells named false agreed = record {
      each = λ i x each is. absurd (subst (λ (b : Bool). (shade_meaning g.meaning (ready_of b idle.rack)).leaves 0 0 (i 0 0)) agreed (each 0 0));
    }

    fell_named : (n : Node) (note : GroupNode) (units : Units) → UpNoted n note (Up l) ⊎ CutNoted n note (Up l) → rvg_noted note ≡ Some units → FoundNamed units (length (entries_noted note)) (idle_ready idle)
    fell_named n note units (inl up) named = named_by n note units up.at.lies up.spells named idle.agreed refl
    fell_named n note units (inr cut) named = named_by n note units cut.cut.lies cut.spells named idle.agreed refl

    module _ (e : GroupSite R g) (is : e ≡ Up l) where
      pub crash_noted : (n : Node) (note : GroupNode) → IsNoteTidy note → UpNoted n note e → DownNoted (crashed n 0) note (Down idle)
      crash_noted n note tidy up = fell_up n note tidy (subst (λ (x : GroupSite R g). UpNoted n note x) is up)

      pub crash_fallen : (n : Node) (note : GroupNode) → IsNoteTidy note → CutNoted n note e → DownNoted (crashed n 0) note (Down idle)
      crash_fallen n note tidy cut = fell_cut n note tidy (subst (λ (x : GroupSite R g). CutNoted n note x) is cut)

      pub crash_named : (n : Node) (note : GroupNode) (units : Units) → UpNoted n note e ⊎ CutNoted n note e → rvg_noted note ≡ Some units → RestsNamed units (length (entries_noted note)) (Down idle)
      crash_named n note units noted named = fell_named n note units (subst (λ (x : GroupSite R g). UpNoted n note x ⊎ CutNoted n note x) is noted) named

      pub crash_asked : OnDisks (site_disks e).disks (idle_disks idle).disks (Crashed (site_disks e).size pick)
      crash_asked = subst (λ (x : GroupSite R g). OnDisks (site_disks x).disks (idle_disks idle).disks (Crashed (site_disks x).size pick)) (sym is) it.disks

      pub crash_stopped : MayCrashSite pick e (Down idle)
      crash_stopped = subst (λ (x : GroupSite R g). MayCrashSite pick x (Down idle)) (sym is) (it.stopped, it.disks)

      pub crash_told : TellsLess (site_below e) (idle_below idle)
      crash_told = subst (λ (x : GroupSite R g). TellsLess (site_below x) (idle_below idle)) (sym is) it.told

  -- disks that are by themselves stay as they are
  module _ (e s : GroupSite R g) (is : e ≡ s) where
    pub still_noted : ((n : Node) (note : GroupNode) → UpNoted n note s → ⊥) → (n : Node) (note : GroupNode) → IsNoteTidy note → UpNoted n note e → DownNoted (crashed n 0) note s
    still_noted never n note tidy up = absurd (never n note (subst (λ (x : GroupSite R g). UpNoted n note x) is up))

    pub still_fallen : ((n : Node) (note : GroupNode) → CutNoted n note s → ⊥) → (n : Node) (note : GroupNode) → IsNoteTidy note → CutNoted n note e → DownNoted (crashed n 0) note s
    still_fallen never n note tidy cut = absurd (never n note (subst (λ (x : GroupSite R g). CutNoted n note x) is cut))

    pub still_named : ((n : Node) (note : GroupNode) → UpNoted n note s → ⊥) → ((n : Node) (note : GroupNode) → CutNoted n note s → ⊥) → (n : Node) (note : GroupNode) (units : Units) → UpNoted n note e ⊎ CutNoted n note e → rvg_noted note ≡ Some units → RestsNamed units (length (entries_noted note)) s
    still_named never none n note units (inl up) named = absurd (never n note (subst (λ (x : GroupSite R g). UpNoted n note x) is up))
    still_named never none n note units (inr cut) named = absurd (none n note (subst (λ (x : GroupSite R g). CutNoted n note x) is cut))

    pub still_told : TellsLess (site_below e) (site_below s)
    still_told = subst (λ (x : GroupSite R g). TellsLess (site_below e) (site_below x)) is (λ told. told)

    pub still_stopped : (pick : ℕ) → ((l : Laid R g) → s ≡ Up l → ⊥) → MayCrashSite pick e s
    still_stopped pick never = subst (λ (x : GroupSite R g). MayCrashSite pick x s) (sym is) (rests s never)
      where
        rests : (x : GroupSite R g) → ((l : Laid R g) → x ≡ Up l → ⊥) → MayCrashSite pick x x
        rests (Up l) never = absurd (never l refl)
        rests (Deported idle) never = refl
        rests (Down idle) never = refl
        rests (Marked rack) never = refl
        rests Gone never = refl

  -- ---- the same of a disk set

  told_by : (pick : ℕ) (o s : GroupSite R g) → MayCrashSite pick o s → (site_disks s).tells ≡ (site_disks o).tells
  told_by pick (Up l) s it = it.0.tells
  told_by pick other s it = ap (λ (x : GroupSite R g). (site_disks x).tells) it

  counts_by : (pick : ℕ) (o s : GroupSite R g) → MayCrashSite pick o s → (d : ℕ) → (site_disks s).disk_faults d ≡ (site_disks o).disk_faults d
  counts_by pick (Up l) s it d = it.0.counts.disk_faults d
  counts_by pick other s it d = ap (λ (x : GroupSite R g). (site_disks x).disk_faults d) it

  module _ (pick : ℕ) (e : DiskSet R g) (o s : OverSet R g) (is : e ≡ Over o) (it : MayCrashSite pick (site_in o) (site_in s)) where
    pub fell_stopped : MayCrash pick e (Over s)
    fell_stopped =
        let may = may_by pick (site_in o) (site_in s) it in
        subst (λ (x : DiskSet R g). MayCrash pick x (Over s)) (sym is) (record { told = may.0; sizes = may.1 })

    pub fell_later : TellsLess (site_below (site_in o)) (site_below (site_in s)) → Later e (Over s)
    fell_later less = subst (λ (x : DiskSet R g). Later x (Over s)) (sym is)
        (record { counts = λ d. let same = counts_by pick (site_in o) (site_in s) it d in omega (arith, same); told = less })

    -- as much is told of the disks
    pub fell_seen : IsToldAt (Over s) → IsToldAt e
    fell_seen told = subst (λ (x : DiskSet R g). IsToldAt x) (sym is) (sym (told_by pick (site_in o) (site_in s) it) ∙ told)

    -- what its site notes of the group falls with it
    pub fell_notes : ((n : Node) (note : GroupNode) → IsNoteTidy note → CutNoted n note (site_in o) → DownNoted (crashed n 0) note (site_in s)) → ((n : Node) (note : GroupNode) → IsNoteTidy note → UpNoted n note (site_in o) → DownNoted (crashed n 0) note (site_in s))
        → ((n : Node) (note : GroupNode) (units : Units) → UpNoted n note (site_in o) ⊎ CutNoted n note (site_in o) → rvg_noted note ≡ Some units → RestsNamed units (length (entries_noted note)) (site_in s)) → s.cut ≡ o.cut → OversFall e (Over s)
    fell_notes fallen up named cut =
        subst (λ (x : DiskSet R g). OversFall x (Over s)) (sym is) (record { fallen = fallen; up = up; named = named; counts = counts_by pick (site_in o) (site_in s) it; cut = cut; calls = under_fell pick (site_in o) (site_in s) it })

    pub fell_role : ((n : Node) → RoleBy n (above_in s)) → KeepsRole e (Over s)
    fell_role role = record { kept = λ n was. role n }

    pub fell_asked : OnDisks (site_disks (site_in o)).disks (site_disks (site_in s)).disks (Crashed (site_disks (site_in o)).size pick) → CrashesBy pick e (Over s)
    fell_asked asked = subst (λ (x : DiskSet R g). CrashesBy pick x (Over s)) (sym is) asked
