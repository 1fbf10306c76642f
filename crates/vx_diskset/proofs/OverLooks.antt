-- What is read of a write that was cut, at a site whose replicated volume group came up with its group.
use Rattle.std.proofs.Common.{◌≡◌, ◌∙◌, ◌⊎◌, inl, ℕ, ap, length, refl, subst, sym}
use Rattle.std.specs.Prelude.{Err, Ok, Option, Result, Some}
use Rattle.vx_disk.specs.Counts.{Rose}
use Rattle.vx_disk.specs.Moves.{Nowhere}
use Rattle.vx_disk.specs.Racks.{IsRack}
use Rattle.vx_disk.specs.Shelf.{Lawful}
use Rattle.vx_disk.specs.declared.shelf.Shelf.{Ghosts}
use Rattle.vx_grouped.specs.GroupSites.{CutNoted, DownNoted, UpNoted, site_disks, with_note}
use Rattle.vx_grouped.specs.SiteEnds.{MayCrashSite}
use Rattle.vx_grouped.specs.Volumes.{SiteGoes}
use Rattle.vx_grouped.specs.declared.group_site.GroupSite.{GroupSite}
use Rattle.vx_grouped.specs.declared.group_site.GroupSite.TheVariants.{Deported, Down, Gone, Marked, Up}
use Rattle.vx_events.specs.RvgFits.{entries_noted, rvg_noted}
use Rattle.vx_history.specs.Groups.{GroupNode}
use Rattle.vx_history.specs.Steps.{crashed, worked}
use Rattle.vx_history.specs.World.{Node}
use Rattle.vx_model.specs.declared.errors.Stop.{Stop}
use Rattle.vx_model.specs.declared.errors.Stop.TheVariants.{No as Refused}
use Rattle.vx_model.specs.declared.no.No.{No}
use Rattle.vx_model.specs.declared.no.No.TheVariants.{Device}
use Rattle.vx_model.specs.declared.site.SiteState.TheVariants.{Up as IsUp}
use Rattle.vx_model.specs.declared.units.Units.{Units}
use Rattle.vx_untold.specs.Shades.{shade_meaning}
use Rattle.vx_untold.specs.declared.shade.Shade.{Shade}
use Rattle.vx_diskset.specs.Aboves.{AboveStays, InsideOf, above_in, site_in}
use Rattle.vx_diskset.specs.DiskSets.{CrashedAt}
use Rattle.vx_diskset.specs.GroupSets.{cut_value}
use Rattle.vx_diskset.specs.Holds.{KeptBeside}
use Rattle.vx_diskset.specs.Layouts.{units_by, units_of}
use Rattle.vx_diskset.specs.Noted.{IsNoteTidy, RestsNamed, SiteNoted, below_rvg}
use Rattle.vx_diskset.specs.OverKeeps.{KeepsOver, KeptBy, StaysAbove, StaysHere}
use Rattle.vx_diskset.specs.OverRises.{LookedOver, LooksOver}
use Rattle.vx_diskset.specs.Recovers.{KeptIs, LooksKept, still_cut}
use Rattle.vx_diskset.specs.Stands.{SiteStands}
use Rattle.vx_diskset.specs.declared.above.Above.{Above}
use Rattle.vx_diskset.specs.declared.disk_set.DiskSet.{DiskSet}
use Rattle.vx_diskset.specs.declared.disk_set.DiskSet.TheVariants.{Bare, Spoiled, Up as UpSet, Receives, Down as DownSet, OfGroup, Over, Gone as GoneSet}
use Rattle.vx_diskset.specs.declared.group_set.CutWrite.{CutWrite}
use Rattle.vx_diskset.specs.declared.group_set.KeptWrite.{KeptWrite}
use Rattle.vx_diskset.specs.declared.over_set.OverSet.{OverSet}
use Rattle.vx_diskset.proofs.GroupRising.{crash_counts, down_cut}
use Rattle.vx_diskset.proofs.OverKept.{keeps_over, nowhere_aside}
use Rattle.vx_diskset.proofs.OverNoted.{down_again, noted_up, up_group, up_named, up_noted}
use Rattle.vx_diskset.proofs.StaysUp.{not_true}

module _ {R : Type 0} {g : Ghosts R} where
  -- of sites without one nothing is said
  pub looks_rest : (cut : Option CutWrite) (e new : DiskSet R g) (r : Result (Option KeptWrite) Stop) → ((s : OverSet R g) → e ≡ Over s → ⊥) → LooksOver cut e new r
  looks_rest cut (Bare rack) new r never = tt
  looks_rest cut (Spoiled rack) new r never = tt
  looks_rest cut (UpSet rvg) new r never = tt
  looks_rest cut (Receives s) new r never = tt
  looks_rest cut (DownSet rack) new r never = tt
  looks_rest cut (OfGroup s) new r never = tt
  looks_rest cut (Over s) new r never = absurd (never s refl)
  looks_rest cut GoneSet new r never = tt

  up_here : (k : Node) (note : GroupNode) (e : GroupSite R g) → UpNoted k note e → StaysHere e
  up_here k note (Up laid) it = not_true _ (λ down. it.at.up down)
  up_here k note (Deported idle) it = absurd it
  up_here k note (Down idle) it = absurd it
  up_here k note (Marked rack) it = absurd it
  up_here k note Gone it = absurd it

  up_kept : (beside : KeptBeside) (n k : Node) (note : GroupNode) (s : OverSet R g) (e : GroupSite R g) → UpNoted k note e → KeptBy beside n s e → SiteStands beside (worked n) (Over s)
  up_kept beside n k note s (Up laid) up it = it
  up_kept beside n k note s (Deported idle) up it = absurd it
  up_kept beside n k note s (Down idle) up it = absurd up
  up_kept beside n k note s (Marked rack) up it = absurd it
  up_kept beside n k note s Gone up it = absurd it

  module _ (racks : (s : Shade R) → IsRack (shade_meaning g.meaning s)) (laws : (s : Shade R) → Lawful (shade_meaning g.meaning s)) (beside : KeptBeside) (n : Node) (note : GroupNode) (cut : Option CutWrite) (o : OverSet R g) (site mid : GroupSite R g) (above : Above) (at : site ≡ site_in o)
      (over : above ≡ above_in o) (sound : AboveStays above site) (goes : SiteGoes Nowhere site mid) (stands : SiteStands beside n (Over o)) (state : n.state ≡ IsUp) (noted : SiteNoted n note (Over o)) where
    pub up_old : UpNoted (below_rvg n) note site
    up_old = subst (λ (e : GroupSite R g). UpNoted (below_rvg n) note e) (sym at) (noted_up beside n note o.site stands.1 state noted.0)

    -- behind the read, with this write cut
    module _ (up : UpNoted (worked (below_rvg n)) note mid) (s : OverSet R g) (new_at : site_in s ≡ mid) (new_above : StaysAbove above mid (above_in s)) where
      keeps : KeepsOver o s
      keeps = keeps_over laws racks Nowhere o s above site mid over at new_at new_above goes sound (nowhere_aside above)

      up_new : UpNoted (below_rvg (worked n)) note (site_in s)
      up_new = subst (λ (e : GroupSite R g). UpNoted (below_rvg (worked n)) note e) (sym new_at) up

      stood : SiteStands beside (worked n) (Over s)
      stood =
          up_kept beside n (below_rvg (worked n)) note s (site_in s) up_new
          (keeps.each beside n stands state (up_here (below_rvg (worked n)) note (site_in s) up_new))

      noted_new : s.cut ≡ o.cut → SiteNoted (worked n) note (Over s)
      noted_new same = (
        up_noted (below_rvg (worked n)) note (site_in s) up_new,
        ap (λ (k : Option CutWrite). cut_value k) same ∙ noted.1,
        noted.2,
        noted.3,
        up_named (below_rvg (worked n)) note (units_of n) (length (entries_noted note)) (site_in s) up_new,
      )

      -- the crash behind a disk that failed, where the write is cut still
      module _ (was : s.cut ≡ cut) (last : OverSet R g) (fell : (x : Node) (next : GroupNode) → IsNoteTidy next → UpNoted x next (site_in s) → DownNoted (crashed x 0) next (site_in last))
          (named : (x : Node) (next : GroupNode) (units : Units) → UpNoted x next (site_in s) ⊎ CutNoted x next (site_in s) → rvg_noted next ≡ Some units → RestsNamed units (length (entries_noted next)) (site_in last)) (cut_is : last.cut ≡ s.cut) where
        abbrev next : GroupNode
        next = still_cut cut note

        abbrev k : Node
        k = with_note next n

        same : units_of n ≡ units_of k
        same = ap (λ (x : Option GroupNode). units_by x n.disks) (up_group (below_rvg n) note site up_old)

        noted_so : SiteNoted (crashed k 0) next (Over last)
        noted_so = (
          down_again k next (site_in last) refl (down_cut (below_rvg n) note cut (site_in last) (fell (worked (below_rvg n)) note noted.3.tidy up_new)),
          ap (λ (x : Option CutWrite). cut_value x) (cut_is ∙ was),
          subst (λ (u : Units). InsideOf u note) same noted.2,
          record { tidy = noted.3.tidy; named = noted.3.named ∙ ap (λ (u : Units). Some u) same },
          subst (λ (u : Units). RestsNamed u (length (entries_noted note)) (site_in last)) same (named (worked (below_rvg n)) note (units_of n) (inl up_new) noted.3.named),
        )

    -- ---- by what was read

    pub looks_done : (kept : Option KeptWrite) → LooksKept (below_rvg n) note cut site mid (Ok kept) → (s : OverSet R g) → site_in s ≡ mid → StaysAbove above mid (above_in s) → s.cut ≡ o.cut → LookedOver beside n note cut o s (Ok kept)
    looks_done kept looks s new_at new_above same =
        (stood looks.0 s new_at new_above, noted_new looks.0 s new_at new_above same, subst (λ (e : GroupSite R g). KeptIs note (site_disks e) cut kept) at looks.1)

    pub looks_lost : (no : No) → LooksKept (below_rvg n) note cut site mid (Err no) → (s : OverSet R g) → site_in s ≡ mid → StaysAbove above mid (above_in s) → s.cut ≡ cut
        → (last : OverSet R g) → ((b : KeptBeside) (x : Node) → SiteStands b x (Over s) → x.state ≡ IsUp → CrashedAt b x (Over last)) → ((x : Node) (next : GroupNode) → IsNoteTidy next → UpNoted x next (site_in s) → DownNoted (crashed x 0) next (site_in last))
        → ((x : Node) (next : GroupNode) (units : Units) → UpNoted x next (site_in s) ⊎ CutNoted x next (site_in s) → rvg_noted next ≡ Some units → RestsNamed units (length (entries_noted next)) (site_in last)) → last.cut ≡ s.cut → (pick : ℕ) → MayCrashSite pick (site_in s) (site_in last)
        → LookedOver beside n note cut o last (Err (Refused no))
    looks_lost (Device disk) looks s new_at new_above was last crash fell named cut_is pick stopped = (
      crash beside (worked n) (stood looks.0 s new_at new_above) state,
      noted_so looks.0 s new_at new_above was last fell named cut_is,
      looks.1,
      subst (λ (e : GroupSite R g). Rose ((site_disks e).disk_faults disk) ((site_disks (site_in last)).disk_faults disk)) at
          (subst (λ (x : ℕ). Rose ((site_disks site).disk_faults disk) x) (sym (crash_counts pick (site_in s) (site_in last) stopped disk))
          (subst (λ (e : GroupSite R g). Rose ((site_disks site).disk_faults disk) ((site_disks e).disk_faults disk)) (sym new_at) looks.2)),
    )
    looks_lost other looks s new_at new_above was last crash fell named cut_is pick stopped = absurd looks
