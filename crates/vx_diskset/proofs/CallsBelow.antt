-- Calls on the group below a replicated volume group that write to no volume, by what the site notes of it.
use Rattle.std.proofs.Common.{◌≡◌, ◌-◌, inr, ℕ, Bool, true, false, [], length, refl, sym, subst}
use Rattle.std.specs.Prelude.{Some, Result, Ok, Err, nat_le, nat_lt}
use Rattle.vx_model.specs.declared.errors.Stop.{Stop}
use Rattle.vx_model.specs.declared.errors.Stop.TheVariants.{No as Refused, OutOfMemory}
use Rattle.vx_model.specs.declared.no.No.{No}
use Rattle.vx_model.specs.declared.no.No.TheVariants.{Device, Down as IsOff}
use Rattle.vx_disk.specs.Counts.{Rose}
use Rattle.vx_disk.specs.Moves.{Nowhere}
use Rattle.vx_disk.specs.Racks.{IsRack, Stopped}
use Rattle.vx_disk.specs.Shelf.{Meaning}
use Rattle.vx_disk.specs.declared.shelf.Shelf.{Ghosts}
use Rattle.vx_config.specs.Checks.{plexes_of}
use Rattle.vx_config.specs.Configs.{HasSpelling}
use Rattle.vx_config.specs.Table.{greatest}
use Rattle.vx_config.specs.declared.config.Config.{Config}
use Rattle.vx_kept.specs.Cleans.{at_serial}
use Rattle.vx_volume.specs.Plexes.{active, uses}
use Rattle.vx_group.specs.Attaches.{att_refusal}
use Rattle.vx_group.specs.Dets.{margin}
use Rattle.vx_history.specs.Groups.{GroupNode}
use Rattle.vx_history.specs.Steps.{crashed, worked}
use Rattle.vx_history.specs.World.{Node}
use Rattle.vx_untold.specs.Shades.{shade_meaning}
use Rattle.vx_untold.specs.declared.shade.Shade.{Shade}
use Rattle.vx_watched.specs.Since.{CalledSince}
use Rattle.vx_watched.specs.Traces.{TellsLess}
use Rattle.vx_grouped.specs.ConfigMoves.{AttCuts, AttDone, AttFails, DetCuts, DetDone, DetFails, none_again}
use Rattle.vx_grouped.specs.CoreMoves.{CoreMoves}
use Rattle.vx_grouped.specs.Ends.{CallLeaves}
use Rattle.vx_grouped.specs.GroupNotes.{note_called}
use Rattle.vx_grouped.specs.GroupSites.{GroupFallen, GroupUp, UpNoted, idle_disks, laid_below, laid_disks, site_disks, with_note}
use Rattle.vx_grouped.specs.SiteEnds.{SiteCalled, refuses_att, refuses_det, stops_down}
use Rattle.vx_grouped.specs.Watches.{PlexAtts, PlexDets}
use Rattle.vx_grouped.specs.declared.group_site.GroupSite.{GroupSite}
use Rattle.vx_grouped.specs.declared.group_site.GroupSite.TheVariants.{Up, Deported, Down, Marked, Gone}
use Rattle.vx_grouped.specs.declared.idle.Idle.{Idle}
use Rattle.vx_grouped.specs.declared.laid.Laid.{Laid}
use Rattle.vx_grouped.proofs.CalledLemmas.{blames_device, goes, none_refused}
use Rattle.vx_grouped.proofs.KeepLemmas.{att_not_device}
use Rattle.vx_grouped.proofs.PlexMoveLemmas.{att_cuts, det_cuts}
use Rattle.vx_grouped.proofs.SettleLemmas.{called_unsettles, fell_fused}
use Rattle.vx_grouped.proofs.SiteLemmas.{lies_as, noted_with}
use Rattle.vx_grouped.proofs.SitePlexLemmas.{att_never_off, att_site_done, att_site_up, det_site_done, det_site_up}
use Rattle.vx_grouped.proofs.SpellLemmas.{spells_like}
use Rattle.vx_grouped.proofs.TraceLemmas.{lit_since}
use Rattle.vx_diskset.specs.Founded.{LaidFell}
use Rattle.vx_diskset.specs.OverKeeps.{BelowGoes}
use Rattle.vx_diskset.specs.OverPlains.{AttBelow, CalledBelow, DetBelow, note_tidied}
use Rattle.vx_diskset.proofs.GroupCalling.{IsSettled, down_settled, up_settled}
use Rattle.vx_diskset.proofs.OverFalls.{crash_fallen, crash_named}
use Rattle.vx_diskset.proofs.Tidied.{fallen_tidied, note_tidy, site_tidied}

module _ {R : Type 0} {g : Ghosts R} (T : Type 0) (n : Node) (note : GroupNode) (group new : Laid R g) (twice : Bool) (Done Fails Cuts : Config → Config → Type 0) (Lacks : No → Type 0) where
  -- over disks that are up
  pub called_below : (r : Result T Stop) → SiteCalled twice Done Fails Cuts Lacks n note (Up group) (Up new) r → CalledBelow twice Done Fails Cuts Lacks n note (Up group) (Up new) r
  called_below (Ok done) it = (it.0, it.1, site_tidied n it.0 (Up new) it.2, it.3)
  called_below (Err (Refused (Device disk))) it = (it.0, it.1, site_tidied n it.0 (Up new) it.2, it.3, it.4)
  called_below (Err (Refused IsOff)) it = absurd it.2
  called_below (Err (Refused other)) it = it
  called_below (Err OutOfMemory) it = absurd it

  -- the fuse ran out: the disks crash, and imports of them may disagree where a configuration is begun
  module _ (up : GroupUp n note (laid_below group).tells group.core (laid_disks group)) (since : CalledSince (laid_disks group) (laid_disks new)) (less : TellsLess (laid_below group) (laid_below new)) (spells : HasSpelling (at_serial 0 new.core.inner.config))
      (pick : ℕ) (idle : Idle R g) (fell : LaidFell pick new idle) where
    pub cut_below : (stop : Stop) → stops_down stop ≡ true → CallLeaves {T = T} n note new.core (laid_disks new) (Err stop) → (twice ≡ false → note.loose ≡ false → note.begun ≡ [] → new.core.inner.agreed ≡ true)
        → ((which : No) → stop ≡ Refused which → blames_device which ≡ true → Cuts group.core.inner.config new.core.inner.config) → CalledBelow {T = T} twice Done Fails Cuts Lacks n note (Up group) (Down idle) (Err stop)
    cut_below (Refused (Device disk)) off leaves agrees cuts = cc
    cut_below (Refused IsOff) off leaves agrees cuts =
        let next : GroupNode = note_called leaves.0 new.core note in
        let fallen : GroupFallen (with_note next n) next (laid_below new).tells new.core (laid_disks new) = record {
          noted = noted_with n note next up.noted;
          lit = lit_since note next (laid_below group).tells (laid_below new).tells (laid_disks group) (laid_disks new) refl since.tells less up.lit;
          spells = spells;
          cut = record { down = leaves.1.down; lies = lies_as n (with_note next n) next new.core (laid_disks new) refl refl leaves.1.lies };
        } in (
          next,
          called_unsettles twice leaves.0 new.core note agrees,
          crash_fallen pick new idle fell (Up new) refl (with_note (note_tidied next) n) (note_tidied next) (note_tidy next) (fallen_tidied n next (laid_below new).tells new.core (laid_disks new) fallen),
          fell_fused n.fuse (laid_disks group) (laid_disks new) up.fuse up.at.up since.safe leaves.1.down,
          goes T n note group new up since less spells Cuts next refl (Down idle) tt (cuts IsOff refl refl),
          λ units named. crash_named pick new idle fell (Up new) refl (with_note next n) next units (inr fallen) named,
        )
    cut_below (Refused other) off leaves agrees cuts = cc
    cut_below OutOfMemory off leaves agrees cuts = cc

-- a crash raises no count
moves_since : (again : ℕ → Bool) (c d : Config) (m m' r : Meaning) → Stopped m' r → CoreMoves again c d m m' → CoreMoves again c d m r
moves_since again c d m m' r stopped it = record {
  parts = it.parts;
  frames = it.frames;
  on = it.on;
  blocks = it.blocks;
  blamed = λ u was is. subst (λ (x : ℕ). Rose (m.faults u) x) (sym (stopped.counts.faults u)) (it.blamed u was is);
  stays = it.stays;
}

module _ {R : Type 0} {g : Ghosts R} (n : Node) (note : GroupNode) (v p : ℕ) (group new : Laid R g) (up : GroupUp n note (laid_below group).tells group.core (laid_disks group)) (since : CalledSince (laid_disks group) (laid_disks new)) (less : TellsLess (laid_below group) (laid_below new))
    (racks : (s : Shade R) → IsRack (shade_meaning g.meaning s)) where
  abbrev was : Config
  was = group.core.inner.config

  abbrev now : Config
  now = new.core.inner.config

  -- ---- a detach

  pub det_below_done : PlexDets v p group.core (laid_disks group) new.core (laid_disks new) (Ok tt) → DetBelow n note v p (Up group) (Up new) (Ok tt)
  det_below_done works =
      called_below (Unit {0}) n note group new false (DetDone v p (laid_disks group) (laid_disks new)) (DetFails (laid_disks group) (laid_disks new)) (DetCuts v p (laid_disks group) (laid_disks new)) (λ which. refuses_det (Up group) v p ≡ Some which) (Ok tt)
      (det_site_done n note v p group new up since less racks works)

  pub det_below_up : (stop : Stop) → stops_down stop ≡ false → PlexDets v p group.core (laid_disks group) new.core (laid_disks new) (Err stop) → DetBelow n note v p (Up group) (Up new) (Err stop)
  det_below_up stop off works =
      called_below (Unit {0}) n note group new false (DetDone v p (laid_disks group) (laid_disks new)) (DetFails (laid_disks group) (laid_disks new)) (DetCuts v p (laid_disks group) (laid_disks new)) (λ which. refuses_det (Up group) v p ≡ Some which) (Err stop)
      (det_site_up n note v p group new up since less racks stop off works)

  -- ---- an attach

  pub att_below_done : (k : ℕ) → PlexAtts v p group.core (laid_disks group) new.core (laid_disks new) (Ok k) → AttBelow n note v p (Up group) (Up new) (Ok k)
  att_below_done k works =
      called_below ℕ n note group new true (AttDone v p (laid_disks group) (laid_disks new)) (AttFails v p (laid_disks group) (laid_disks new)) (AttCuts v p (laid_disks group) (laid_disks new)) (λ which. refuses_att (Up group) v p ≡ Some which) (Ok k)
      (att_site_done n note v p group new up since less racks k works)

  pub att_below_up : (stop : Stop) → stops_down stop ≡ false → PlexAtts v p group.core (laid_disks group) new.core (laid_disks new) (Err stop) → AttBelow n note v p (Up group) (Up new) (Err stop)
  att_below_up stop off works =
      called_below ℕ n note group new true (AttDone v p (laid_disks group) (laid_disks new)) (AttFails v p (laid_disks group) (laid_disks new)) (AttCuts v p (laid_disks group) (laid_disks new)) (λ which. refuses_att (Up group) v p ≡ Some which) (Err stop)
      (att_site_up n note v p group new up since less racks stop off works)

  att_never_device : (disk : ℕ) → att_refusal was v p ≡ Some (Device disk) → ⊥
  att_never_device disk = att_not_device (nat_le (length was.volumes) v) (nat_le (plexes_of was v) p) (nat_lt (greatest - margin) was.serial) v p greatest disk

  -- it was not ACTIVE, or nothing would have been done
  was_off : (stop : Stop) → PlexAtts v p group.core (laid_disks group) new.core (laid_disks new) (Err stop) → (which : No) → stop ≡ Refused which → blames_device which ≡ true → active was v p ≡ false
  was_off stop works which is blames = by (active was v p) refl
    where
      never : {k : ℕ} → Err stop ≡ Ok k → ⊥
      never clash = cc

      by : (t : Bool) → active was v p ≡ t → t ≡ false
      by false off = refl
      by true on =
          absurd (never (works.already (none_refused ℕ (att_refusal was v p) stop (Err stop) refl works.refused (att_never_off was v p) att_never_device which is blames) on))

  -- ---- the fuse ran out

  module _ (pick : ℕ) (idle : Idle R g) (fell : LaidFell pick new idle) where
    pub det_below_cut : (stop : Stop) → stops_down stop ≡ true → PlexDets v p group.core (laid_disks group) new.core (laid_disks new) (Err stop) → DetBelow n note v p (Up group) (Down idle) (Err stop)
    det_below_cut stop off works =
        cut_below (Unit {0}) n note group new false (DetDone v p (laid_disks group) (idle_disks idle)) (DetFails (laid_disks group) (idle_disks idle)) (DetCuts v p (laid_disks group) (idle_disks idle)) (λ which. refuses_det (Up group) v p ≡ Some which)
        up since less (spells_like was now works.moves.parts works.moves.frames works.moves.blocks up.spells) pick idle fell stop off (works.leaves n note up.at) (λ once tight none. works.agreed (up.at.lies.committed tight none))
        (λ which is blames. det_cuts was now v p (laid_disks group) (idle_disks idle) (racks group.shelf).counts (racks idle.rack).counts works.others
        (moves_since none_again was now (laid_disks group) (laid_disks new) (idle_disks idle) fell.stopped works.moves) works.narrows)

    pub att_below_cut : (stop : Stop) → stops_down stop ≡ true → PlexAtts v p group.core (laid_disks group) new.core (laid_disks new) (Err stop) → AttBelow n note v p (Up group) (Down idle) (Err stop)
    att_below_cut stop off works =
        cut_below ℕ n note group new true (AttDone v p (laid_disks group) (idle_disks idle)) (AttFails v p (laid_disks group) (idle_disks idle)) (AttCuts v p (laid_disks group) (idle_disks idle)) (λ which. refuses_att (Up group) v p ≡ Some which)
        up since less (spells_like was now works.moves.parts works.moves.frames works.moves.blocks up.spells) pick idle fell stop off (works.leaves n note up.at) (λ once tight none. let clash : true ≡ false = once in cc)
        (λ which is blames. att_cuts was now v p (laid_disks group) (idle_disks idle) (racks group.shelf).counts (racks idle.rack).counts works.others
        (moves_since (uses was v p) was now (laid_disks group) (laid_disks new) (idle_disks idle) fell.stopped works.moves) (was_off stop works which is blames))

-- ---- a group that is not up

module _ {R : Type 0} {g : Ghosts R} where
  pub up_never : {A : Type 0} (n : Node) (note : GroupNode) (e : GroupSite R g) → ((laid : Laid R g) → e ≡ Up laid → ⊥) → UpNoted n note e → A
  up_never n note (Up laid) never it = absurd (never laid refl)
  up_never n note (Deported idle) never it = absurd it
  up_never n note (Down idle) never it = absurd it
  up_never n note (Marked rack) never it = absurd it
  up_never n note Gone never it = absurd it

  pub rest_below : (e : GroupSite R g) → ((laid : Laid R g) → e ≡ Up laid → ⊥) → BelowGoes Nowhere e e
  rest_below (Up laid) never = absurd (never laid refl)
  rest_below (Deported idle) never = refl
  rest_below (Down idle) never = refl
  rest_below (Marked rack) never = refl
  rest_below Gone never = refl

  -- behind a call its disks are up, or have no fuse
  module _ (rackful : (r : R) → IsRack (g.meaning r)) where
    pub calls_settled : (T : Type 0) (twice : Bool) (Done Fails Cuts : Config → Config → Type 0) (Lacks : No → Type 0) (n : Node) (note : GroupNode) (old new : GroupSite R g) (r : Result T Stop) → CalledBelow {T = T} twice Done Fails Cuts Lacks n note old new r → IsSettled new
    calls_settled T twice Done Fails Cuts Lacks n note old new (Ok done) it = up_settled rackful (with_note (note_tidied it.0) n) (note_tidied it.0) new it.2
    calls_settled T twice Done Fails Cuts Lacks n note old new (Err (Refused (Device disk))) it = up_settled rackful (with_note (note_tidied it.0) n) (note_tidied it.0) new it.2
    calls_settled T twice Done Fails Cuts Lacks n note old new (Err (Refused IsOff)) it = down_settled rackful (crashed (with_note (note_tidied it.0) n) 0) (note_tidied it.0) new it.2
    calls_settled T twice Done Fails Cuts Lacks n note old new (Err (Refused other)) it = up_settled rackful (worked n) note new it.0
    calls_settled T twice Done Fails Cuts Lacks n note old new (Err OutOfMemory) it = absurd it

    pub det_below_settled : (n : Node) (note : GroupNode) (v p : ℕ) (old new : GroupSite R g) (r : Result (Unit {0}) Stop) → DetBelow n note v p old new r → IsSettled new
    det_below_settled n note v p old new r it =
        calls_settled (Unit {0}) false (DetDone v p (site_disks old) (site_disks new)) (DetFails (site_disks old) (site_disks new)) (DetCuts v p (site_disks old) (site_disks new)) (λ which. refuses_det old v p ≡ Some which) n note old new r it

    pub att_below_settled : (n : Node) (note : GroupNode) (v p : ℕ) (old new : GroupSite R g) (r : Result ℕ Stop) → AttBelow n note v p old new r → IsSettled new
    att_below_settled n note v p old new r it =
        calls_settled ℕ true (AttDone v p (site_disks old) (site_disks new)) (AttFails v p (site_disks old) (site_disks new)) (AttCuts v p (site_disks old) (site_disks new)) (λ which. refuses_att old v p ≡ Some which) n note old new r it
