-- Plexes of a site's group that are detached and attached, by its note.
use Rattle.std.proofs.Common.{◌≡◌, ◌-◌, ◌&&◌, ℕ, Bool, true, false, IsTrue, length, refl, sym, ap, subst}
use Rattle.std.specs.Prelude.{Some, Result, Ok, Err, nat_le, nat_lt, not}
use Rattle.vx_model.specs.declared.errors.Stop.{Stop}
use Rattle.vx_model.specs.declared.errors.Stop.TheVariants.{No as Refused}
use Rattle.vx_model.specs.declared.no.No.{No}
use Rattle.vx_model.specs.declared.no.No.TheVariants.{Device, Down as IsOff}
use Rattle.vx_model.specs.declared.site.SiteState.TheVariants.{Down as IsDown}
use Rattle.vx_disk.specs.Counts.{Rose}
use Rattle.vx_disk.specs.Racks.{IsRack, Stopped}
use Rattle.vx_disk.specs.Shelf.{Meaning}
use Rattle.vx_disk.specs.declared.shelf.Shelf.{Ghosts}
use Rattle.vx_history.specs.Groups.{GroupNode}
use Rattle.vx_history.specs.World.{Node}
use Rattle.vx_config.specs.Checks.{plexes_of}
use Rattle.vx_config.specs.Configs.{HasSpelling}
use Rattle.vx_config.specs.Table.{greatest}
use Rattle.vx_config.specs.declared.config.Config.{Config}
use Rattle.vx_volume.specs.Plexes.{active, uses}
use Rattle.vx_kept.specs.Cleans.{at_serial}
use Rattle.vx_group.specs.Attaches.{att_refusal}
use Rattle.vx_group.specs.Dets.{any_below, det_refusal, is_other, margin}
use Rattle.vx_untold.specs.Shades.{shade_meaning}
use Rattle.vx_untold.specs.declared.shade.Shade.{Shade}
use Rattle.vx_watched.specs.Since.{CalledSince}
use Rattle.vx_grouped.specs.Away.{IsAwayAt}
use Rattle.vx_grouped.specs.ConfigMoves.{AttCuts, AttDone, AttFails, DetCuts, DetDone, DetFails, none_again}
use Rattle.vx_grouped.specs.CoreMoves.{CoreMoves}
use Rattle.vx_grouped.specs.GroupNotes.{GroupLies}
use Rattle.vx_grouped.specs.GroupSites.{GroupUp, idle_disks, laid_disks, laid_below, idle_below}
use Rattle.vx_grouped.specs.SiteEnds.{AttCalled, DetCalled, refuses_att, refuses_det, stops_down}
use Rattle.vx_grouped.specs.Watches.{PlexAtts, PlexDets}
use Rattle.vx_grouped.specs.declared.idle.Idle.{Idle}
use Rattle.vx_grouped.specs.declared.laid.Laid.{Laid}
use Rattle.vx_grouped.specs.declared.group_site.GroupSite.TheVariants.{Up, Down}
use Rattle.vx_grouped.proofs.CalledLemmas.{blames_device, called_cut, called_done, called_up, lacks_by, none_refused, rose_by}
use Rattle.vx_grouped.proofs.KeepLemmas.{att_not_device, att_not_down, det_not_device, det_not_down}
use Rattle.vx_grouped.proofs.PlexMoveLemmas.{att_cuts, att_done, att_fails, det_cuts, det_done, det_fails}
use Rattle.vx_grouped.proofs.SpellLemmas.{spells_like}
use Rattle.vx_watched.specs.Traces.{TellsLess}

-- a crash raises no count
moves_since : (again : ℕ → Bool) (c d : Config) (m m' r : Meaning) → Stopped m' r → CoreMoves again c d m m' → CoreMoves again c d m r
moves_since again c d m m' r stopped it = record {
  parts = it.parts;
  frames = it.frames;
  on = it.on;
  blocks = it.blocks;
  blamed = λ u was is. subst (λ (x : ℕ). Rose (m.faults u) x) (sym (stopped.counts.faults u)) (it.blamed u was is);
  stays = it.stays;
}

module _ (c : Config) (v p : ℕ) where
  pub det_never_off : det_refusal c v p ≡ Some IsOff → ⊥
  det_never_off = det_not_down (nat_le (length c.volumes) v) (nat_le (plexes_of c v) p) (active c v p && not (any_below (is_other c v p) (plexes_of c v))) (nat_lt (greatest - margin) c.serial) v p greatest

  det_never_device : (disk : ℕ) → det_refusal c v p ≡ Some (Device disk) → ⊥
  det_never_device disk = det_not_device (nat_le (length c.volumes) v) (nat_le (plexes_of c v) p) (active c v p && not (any_below (is_other c v p) (plexes_of c v))) (nat_lt (greatest - margin) c.serial) v p greatest disk

  pub att_never_off : att_refusal c v p ≡ Some IsOff → ⊥
  att_never_off = att_not_down (nat_le (length c.volumes) v) (nat_le (plexes_of c v) p) (nat_lt (greatest - margin) c.serial) v p greatest

  att_never_device : (disk : ℕ) → att_refusal c v p ≡ Some (Device disk) → ⊥
  att_never_device disk = att_not_device (nat_le (length c.volumes) v) (nat_le (plexes_of c v) p) (nat_lt (greatest - margin) c.serial) v p greatest disk

module _ {R : Type 0} {g : Ghosts R} (n : Node) (note : GroupNode) (v p : ℕ) (group new : Laid R g) (up : GroupUp n note (laid_below group).tells group.core (laid_disks group)) (since : CalledSince (laid_disks group) (laid_disks new)) (less : TellsLess (laid_below group) (laid_below new))
    (racks : (s : Shade R) → IsRack (shade_meaning g.meaning s)) where
  abbrev was : Config
  was = group.core.inner.config

  abbrev now : Config
  now = new.core.inner.config

  -- ---- a detach

  module _ (r : Result (Unit {0}) Stop) (works : PlexDets v p group.core (laid_disks group) new.core (laid_disks new) r) where
    spells_det : HasSpelling (at_serial 0 now)
    spells_det = spells_like was now works.moves.parts works.moves.frames works.moves.blocks up.spells

    cuts_det : (s : Shade R) → CoreMoves none_again was now (laid_disks group) (shade_meaning g.meaning s) → DetCuts v p (laid_disks group) (shade_meaning g.meaning s) was now
    cuts_det s moves = det_cuts was now v p (laid_disks group) (shade_meaning g.meaning s) (racks group.shelf).counts (racks s).counts works.others moves works.narrows

  module _ (stop : Stop) (works : PlexDets v p group.core (laid_disks group) new.core (laid_disks new) (Err stop)) where
    -- where a disk failed it takes part as it did
    still_same : stops_down stop ≡ false → (which : No) → stop ≡ Refused which → blames_device which ≡ true → active now v p ≡ active was v p
    still_same up_still (Device disk) is blames = works.undone disk (ap (λ (x : Stop). let r : Result (Unit {0}) Stop = Err x in r) is)
    still_same up_still IsOff is blames = absurd (let clash : true ≡ false = subst (λ (x : Stop). stops_down x ≡ false) is up_still in cc)
    still_same up_still other is blames = absurd (let clash : false ≡ true = blames in cc)

    fails_det : stops_down stop ≡ false → (which : No) → stop ≡ Refused which → blames_device which ≡ true → DetFails (laid_disks group) (laid_disks new) was now
    fails_det up_still which is blames =
        det_fails was now v p (laid_disks group) (laid_disks new) (racks group.shelf).counts (racks new.shelf).counts works.others works.moves (still_same up_still which is blames)

  pub det_site_done : PlexDets v p group.core (laid_disks group) new.core (laid_disks new) (Ok tt) → DetCalled n note v p (Up group) (Up new) (Ok tt)
  det_site_done works =
      called_done (Unit {0}) n note group new up since less (spells_det (Ok tt) works) false (DetDone v p (laid_disks group) (laid_disks new)) (DetFails (laid_disks group) (laid_disks new)) (DetCuts v p (laid_disks group) (laid_disks new)) (λ which. refuses_det (Up group) v p ≡ Some which)
      tt (works.leaves n note up.at) (det_done was now v p (laid_disks group) (laid_disks new) (racks group.shelf).counts (racks new.shelf).counts works.others works.moves works.off)

  pub det_site_up : (stop : Stop) → stops_down stop ≡ false → PlexDets v p group.core (laid_disks group) new.core (laid_disks new) (Err stop) → DetCalled n note v p (Up group) (Up new) (Err stop)
  det_site_up stop off works =
      called_up (Unit {0}) n note group new up since less (spells_det (Err stop) works) false (DetDone v p (laid_disks group) (laid_disks new)) (DetFails (laid_disks group) (laid_disks new)) (DetCuts v p (laid_disks group) (laid_disks new)) (λ which. refuses_det (Up group) v p ≡ Some which)
      stop off (works.leaves n note up.at) (λ once tight none. works.agreed (up.at.lies.committed tight none))
      (λ disk is. rose_by (Unit {0}) (laid_disks group) (laid_disks new) (det_refusal was v p) disk (Err stop) (ap (λ (x : Stop). Err x) is) works.cause works.refused (det_never_device was v p disk))
      (fails_det stop works off)
      (lacks_by (Unit {0}) (laid_disks group) (laid_disks new) (det_refusal was v p) stop (Err stop) refl works.cause works.refused)

  -- ---- an attach

  module _ (r : Result ℕ Stop) (works : PlexAtts v p group.core (laid_disks group) new.core (laid_disks new) r) where
    spells_att : HasSpelling (at_serial 0 now)
    spells_att = spells_like was now works.moves.parts works.moves.frames works.moves.blocks up.spells

  module _ (stop : Stop) (works : PlexAtts v p group.core (laid_disks group) new.core (laid_disks new) (Err stop)) where
    -- it was not ACTIVE, or nothing would have been done
    was_off : (which : No) → stop ≡ Refused which → blames_device which ≡ true → active was v p ≡ false
    was_off which is blames = by (active was v p) refl
      where
        never : {k : ℕ} → Err stop ≡ Ok k → ⊥
        never clash = cc

        by : (t : Bool) → active was v p ≡ t → t ≡ false
        by false off = refl
        by true on =
            absurd (never (works.already (none_refused ℕ (att_refusal was v p) stop (Err stop) refl works.refused (att_never_off was v p) (att_never_device was v p) which is blames) on))

    -- nor is it then, where a disk failed
    still_off : stops_down stop ≡ false → (which : No) → stop ≡ Refused which → blames_device which ≡ true → active now v p ≡ false
    still_off up_still (Device disk) is blames = works.undone (was_off (Device disk) is blames) disk (ap (λ (x : Stop). let r : Result ℕ Stop = Err x in r) is)
    still_off up_still IsOff is blames = absurd (let clash : true ≡ false = subst (λ (x : Stop). stops_down x ≡ false) is up_still in cc)
    still_off up_still other is blames = absurd (let clash : false ≡ true = blames in cc)

    fails_att : stops_down stop ≡ false → (which : No) → stop ≡ Refused which → blames_device which ≡ true → AttFails v p (laid_disks group) (laid_disks new) was now
    fails_att up_still which is blames =
        att_fails was now v p (laid_disks group) (laid_disks new) (racks group.shelf).counts (racks new.shelf).counts works.others works.moves (was_off which is blames) (still_off up_still which is blames)

    cuts_att : (s : Shade R) → CoreMoves (uses was v p) was now (laid_disks group) (shade_meaning g.meaning s) → (which : No) → stop ≡ Refused which → blames_device which ≡ true → AttCuts v p (laid_disks group) (shade_meaning g.meaning s) was now
    cuts_att s moves which is blames =
        att_cuts was now v p (laid_disks group) (shade_meaning g.meaning s) (racks group.shelf).counts (racks s).counts works.others moves (was_off which is blames)

  att_on : (k : ℕ) → PlexAtts v p group.core (laid_disks group) new.core (laid_disks new) (Ok k) → (t : Bool) → active was v p ≡ t → IsTrue (active now v p)
  att_on k works false off = (works.attached off).is_on
  att_on k works true on = works.stays on

  pub att_site_done : (k : ℕ) → PlexAtts v p group.core (laid_disks group) new.core (laid_disks new) (Ok k) → AttCalled n note v p (Up group) (Up new) (Ok k)
  att_site_done k works =
      called_done ℕ n note group new up since less (spells_att (Ok k) works) true (AttDone v p (laid_disks group) (laid_disks new)) (AttFails v p (laid_disks group) (laid_disks new)) (AttCuts v p (laid_disks group) (laid_disks new)) (λ which. refuses_att (Up group) v p ≡ Some which)
      k (works.leaves n note up.at)
      (att_done was now v p (laid_disks group) (laid_disks new) (racks group.shelf).counts (racks new.shelf).counts works.others works.moves (att_on k works (active was v p) refl))

  pub att_site_up : (stop : Stop) → stops_down stop ≡ false → PlexAtts v p group.core (laid_disks group) new.core (laid_disks new) (Err stop) → AttCalled n note v p (Up group) (Up new) (Err stop)
  att_site_up stop off works =
      called_up ℕ n note group new up since less (spells_att (Err stop) works) true (AttDone v p (laid_disks group) (laid_disks new)) (AttFails v p (laid_disks group) (laid_disks new)) (AttCuts v p (laid_disks group) (laid_disks new)) (λ which. refuses_att (Up group) v p ≡ Some which)
      stop off (works.leaves n note up.at) (λ once tight none. let clash : true ≡ false = once in cc)
      (λ disk is. rose_by ℕ (laid_disks group) (laid_disks new) (att_refusal was v p) disk (Err stop) (ap (λ (x : Stop). Err x) is) works.cause works.refused (att_never_device was v p disk))
      (fails_att stop works off)
      (lacks_by ℕ (laid_disks group) (laid_disks new) (att_refusal was v p) stop (Err stop) refl works.cause works.refused)

  -- ---- the fuse ran out

  module _ (idle : Idle R g) (stopped : Stopped (laid_disks new) (idle_disks idle))
      (away : (k : Node) (next : GroupNode) → GroupLies k next new.core (laid_disks new) → IsAwayAt (record k { state = IsDown }) next new.core.inner.config (idle_disks idle))
      (same : idle.agreed ≡ new.core.inner.agreed) (fell : TellsLess (laid_below new) (idle_below idle)) where
    pub det_site_cut : (stop : Stop) → stops_down stop ≡ true → PlexDets v p group.core (laid_disks group) new.core (laid_disks new) (Err stop) → DetCalled n note v p (Up group) (Down idle) (Err stop)
    det_site_cut stop off works =
        called_cut (Unit {0}) n note group new up since less (spells_det (Err stop) works) false (DetDone v p (laid_disks group) (idle_disks idle)) (DetFails (laid_disks group) (idle_disks idle)) (DetCuts v p (laid_disks group) (idle_disks idle)) (λ which. refuses_det (Up group) v p ≡ Some which)
        idle stopped away same fell stop off (works.leaves n note up.at) (λ once tight none. works.agreed (up.at.lies.committed tight none))
        (λ which is blames. cuts_det (Err stop) works idle.rack (moves_since none_again was now (laid_disks group) (laid_disks new) (idle_disks idle) stopped works.moves))

    pub att_site_cut : (stop : Stop) → stops_down stop ≡ true → PlexAtts v p group.core (laid_disks group) new.core (laid_disks new) (Err stop) → AttCalled n note v p (Up group) (Down idle) (Err stop)
    att_site_cut stop off works =
        called_cut ℕ n note group new up since less (spells_att (Err stop) works) true (AttDone v p (laid_disks group) (idle_disks idle)) (AttFails v p (laid_disks group) (idle_disks idle)) (AttCuts v p (laid_disks group) (idle_disks idle)) (λ which. refuses_att (Up group) v p ≡ Some which)
        idle stopped away same fell stop off (works.leaves n note up.at) (λ once tight none. let clash : true ≡ false = once in cc)
        (cuts_att stop works idle.rack (moves_since (uses was v p) was now (laid_disks group) (laid_disks new) (idle_disks idle) stopped works.moves))
