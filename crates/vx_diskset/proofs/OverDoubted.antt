-- Calls on the group below a replicated volume group behind which imports of disks that crashed may disagree.
use Rattle.std.proofs.Common.{◌≡◌, ◌∙◌, ℕ, Bool, false, true, IsTrue, refl, subst, sym}
use Rattle.std.specs.Prelude.{Err, Ok, Result, Some}
use Rattle.vx_disk.specs.Counts.{Rose}
use Rattle.vx_disk.specs.Moves.{Blocks}
use Rattle.vx_disk.specs.Racks.{IsRack}
use Rattle.vx_disk.specs.Shelf.{Lawful, Meaning}
use Rattle.vx_disk.specs.declared.shelf.Shelf.{Ghosts}
use Rattle.vx_events.specs.RvgOver.{note_loosened}
use Rattle.vx_grouped.specs.ConfigMoves.{LosesSome}
use Rattle.vx_grouped.specs.GroupSites.{AwayNoted, DownNoted, UpNoted, deported_with, site_below, site_disks, with_note}
use Rattle.vx_grouped.specs.Readies.{ready_of}
use Rattle.vx_grouped.specs.SiteEnds.{ConfigGoes, SiteDeported}
use Rattle.vx_grouped.specs.Volumes.{SiteGoes}
use Rattle.vx_grouped.specs.declared.group_site.GroupSite.{GroupSite}
use Rattle.vx_grouped.specs.declared.group_site.GroupSite.TheVariants.{Up, Deported, Down, Marked, Gone}
use Rattle.vx_grouped.specs.declared.idle.Idle.{Idle}
use Rattle.vx_history.specs.Groups.{GroupNode}
use Rattle.vx_history.specs.Steps.{crashed, worked}
use Rattle.vx_history.specs.World.{Node}
use Rattle.vx_model.specs.declared.errors.Stop.{Stop}
use Rattle.vx_model.specs.declared.errors.Stop.TheVariants.{No as Refused, OutOfMemory}
use Rattle.vx_model.specs.declared.no.No.TheVariants.{Device, Down as IsOff}
use Rattle.vx_model.specs.declared.units.Units.{Units}
use Rattle.vx_untold.specs.Shades.{rack_of, shade_meaning}
use Rattle.vx_untold.specs.declared.shade.Shade.{Shade}
use Rattle.vx_watched.specs.Since.{CalledSince}
use Rattle.vx_watched.specs.Traces.{TellsLess}
use Rattle.vx_diskset.specs.Aboves.{AboveStays, above_in, site_in}
use Rattle.vx_diskset.specs.DiskSets.{CrashedAt, fell_to}
use Rattle.vx_diskset.specs.Holds.{KeptBeside, sure_of}
use Rattle.vx_diskset.specs.Noted.{RestsNamed}
use Rattle.vx_diskset.specs.OverAways.{DeportedBelow, Doubts, DoubtsFallen}
use Rattle.vx_diskset.specs.OverKeeps.{KeepsOver, KeptBy, StaysAbove}
use Rattle.vx_diskset.specs.Stands.{FellOver, OverStands, RoleBy, idle_ready}
use Rattle.vx_diskset.specs.declared.above.Above.{Above}
use Rattle.vx_diskset.specs.declared.disk_set.DiskSet.TheVariants.{Over}
use Rattle.vx_diskset.specs.declared.over_set.OverSet.{OverSet}
use Rattle.vx_diskset.specs.declared.over_set.OverSite.{OverSite}
use Rattle.vx_diskset.specs.declared.over_set.OverSite.TheVariants.{Down as GroupFell}
use Rattle.vx_diskset.proofs.GroupCalling.{IsSettled, away_settled, down_settled, up_settled}
use Rattle.vx_diskset.proofs.Loosened.{begun_tidy, down_doubted, is_some_begun, loose_tidy, up_loosened}
use Rattle.vx_diskset.proofs.OverDims.{fell_dim}
use Rattle.vx_diskset.proofs.OverKept.{IsAside, fell_site, keeps_over, role_kept}

module _ {R : Type 0} {g : Ghosts R} where
  pub doubts_rest : (e : GroupSite R g) → ((x : Idle R g) → e ≡ Down x → ⊥) → DoubtsFallen e e
  doubts_rest (Up laid) never = refl
  doubts_rest (Deported idle) never = refl
  doubts_rest (Down idle) never = absurd (never idle refl)
  doubts_rest (Marked rack) never = refl
  doubts_rest Gone never = refl

  -- what hangs on the disks alone
  pub doubts_by : (P : GroupSite R g → Type 0) → ((x y : Idle R g) → Doubts x y → P (Down x) → P (Down y)) → (e e' : GroupSite R g) → DoubtsFallen e e' → P e → P e'
  doubts_by P same (Up laid) e' is it = subst (λ (x : GroupSite R g). P x) (sym is) it
  doubts_by P same (Deported idle) e' is it = subst (λ (x : GroupSite R g). P x) (sym is) it
  doubts_by P same (Down idle) e' (y, is, doubts) it = subst (λ (x : GroupSite R g). P x) (sym is) (same idle y doubts it)
  doubts_by P same (Marked rack) e' is it = subst (λ (x : GroupSite R g). P x) (sym is) it
  doubts_by P same Gone e' is it = subst (λ (x : GroupSite R g). P x) (sym is) it

  pub doubts_since : (o e e' : GroupSite R g) → DoubtsFallen e e' → CalledSince (site_disks o) (site_disks e) → CalledSince (site_disks o) (site_disks e')
  doubts_since o e e' is it =
      doubts_by (λ x. CalledSince (site_disks o) (site_disks x)) (λ x y doubts was. subst (λ (s : Shade R). CalledSince (site_disks o) (shade_meaning g.meaning s)) (sym doubts.rack) was) e e' is it

  pub doubts_told : (o e e' : GroupSite R g) → DoubtsFallen e e' → TellsLess (site_below o) (site_below e) → TellsLess (site_below o) (site_below e')
  doubts_told o e e' is it = doubts_by (λ x. TellsLess (site_below o) (site_below x)) (λ x y doubts was. subst (λ (s : Shade R). TellsLess (site_below o) (g.meaning (rack_of s))) (sym doubts.rack) was) e e' is it

  pub doubts_rose : (old : Meaning) (disk : ℕ) (e e' : GroupSite R g) → DoubtsFallen e e' → Rose (old.disk_faults disk) ((site_disks e).disk_faults disk) → Rose (old.disk_faults disk) ((site_disks e').disk_faults disk)
  doubts_rose old disk e e' is it =
      doubts_by (λ x. Rose (old.disk_faults disk) ((site_disks x).disk_faults disk)) (λ x y doubts was. subst (λ (s : Shade R). Rose (old.disk_faults disk) ((shade_meaning g.meaning s).disk_faults disk)) (sym doubts.rack) was) e e' is it

  pub doubts_above : (a : Above) (e e' : GroupSite R g) → DoubtsFallen e e' → AboveStays a e → AboveStays a e'
  doubts_above a e e' is it = doubts_by (λ x. AboveStays a x) (λ x y doubts was. tt) e e' is it

  -- a group that is up, or was deported, is as it was
  pub same_up : (n : Node) (note : GroupNode) (e e' : GroupSite R g) → DoubtsFallen e e' → UpNoted n note e → e' ≡ e
  same_up n note (Up laid) e' is it = is
  same_up n note (Deported idle) e' is it = absurd it
  same_up n note (Down idle) e' is it = absurd it
  same_up n note (Marked rack) e' is it = absurd it
  same_up n note Gone e' is it = absurd it

  same_away : (n : Node) (note : GroupNode) (e e' : GroupSite R g) → DoubtsFallen e e' → AwayNoted n note e → e' ≡ e
  same_away n note (Up laid) e' is it = absurd it
  same_away n note (Deported idle) e' is it = is
  same_away n note (Down idle) e' is it = absurd it
  same_away n note (Marked rack) e' is it = absurd it
  same_away n note Gone e' is it = absurd it

  pub doubted_away : (mid new : GroupSite R g) (idle : Idle R g) → DoubtsFallen mid new → new ≡ Deported idle → mid ≡ Deported idle
  doubted_away (Up laid) new idle same is = sym same ∙ is
  doubted_away (Deported x) new idle same is = sym same ∙ is
  doubted_away (Down x) new idle (y, same, doubts) is = absurd (down_away y idle (sym same ∙ is))
    where
      down_away : (a b : Idle R g) → ◌≡◌ {A = GroupSite R g} (Down a) (Deported b) → ⊥
      down_away a b e = cc
  doubted_away (Marked rack) new idle same is = sym same ∙ is
  doubted_away Gone new idle same is = sym same ∙ is

  pub doubted_down : (n : Node) (note : GroupNode) (e e' : GroupSite R g) → DoubtsFallen e e' → DownNoted n note e → DownNoted (record n { group = Some (note_loosened true note) }) (note_loosened true note) e'
  doubted_down n note (Up laid) e' is it = absurd it
  doubted_down n note (Deported idle) e' is it = absurd it
  doubted_down n note (Down idle) e' (y, is, doubts) it =
      subst (λ (x : GroupSite R g). DownNoted (record n { group = Some (note_loosened true note) }) (note_loosened true note) x) (sym is) (down_doubted true n note idle y doubts refl it)
  doubted_down n note (Marked rack) e' is it = absurd it
  doubted_down n note Gone e' is it = absurd it

  pub goes_down : (n : Node) (seen note next : GroupNode) (o e e' : GroupSite R g) → DoubtsFallen e e' → DownNoted n seen e → ConfigGoes (LosesSome (site_disks o) (site_disks e)) note next o e → ConfigGoes (LosesSome (site_disks o) (site_disks e')) note next o e'
  goes_down n seen note next o (Up laid) e' is it goes = absurd it
  goes_down n seen note next o (Deported idle) e' is it goes = absurd it
  goes_down n seen note next o (Down idle) e' (y, is, doubts) it goes =
      subst (λ (x : GroupSite R g). ConfigGoes (LosesSome (site_disks o) (site_disks x)) note next o x) (sym is)
      (record {
        was = goes.was;
        now = goes.now;
        had = goes.had;
        has = tt;
        noted = goes.noted;
        noted_now = goes.noted_now;
        change = subst (λ (s : Shade R). LosesSome (site_disks o) (shade_meaning g.meaning s) goes.was goes.now) (sym doubts.rack) goes.change;
      })
  goes_down n seen note next o (Marked rack) e' is it goes = absurd it
  goes_down n seen note next o Gone e' is it goes = absurd it

  -- ---- a deport

  module _ (n : Node) (note : GroupNode) (o mid new : GroupSite R g) (is : DoubtsFallen mid new) where
    pub deported_below : (r : Result (Unit {0}) Stop) → SiteDeported n note o mid r → DeportedBelow n note o new r
    deported_below (Ok done) it = subst (λ (x : GroupSite R g). SiteDeported n note o x (Ok tt)) (sym (same_away (deported_with it.0 n) it.0 mid new is it.2)) it
    deported_below (Err (Refused (Device disk))) it =
        let same : new ≡ mid = same_up (with_note it.0 n) it.0 mid new is it.2 in (
          it.0,
          is_some_begun it.0.begun,
          it.1,
          begun_tidy it.0,
          subst (λ (x : GroupSite R g). UpNoted (with_note (note_loosened (is_some_begun it.0.begun) it.0) n) (note_loosened (is_some_begun it.0.begun) it.0) x) (sym same) (up_loosened (is_some_begun it.0.begun) (with_note it.0 n) it.0 mid it.2),
          doubts_rose (site_disks o) disk mid new is it.3,
          subst (λ (x : GroupSite R g). ConfigGoes (LosesSome (site_disks o) (site_disks x)) note it.0 o x) (sym same) it.4,
        )
    deported_below (Err (Refused IsOff)) it = (
      it.0,
      true,
      it.1,
      loose_tidy it.0,
      doubted_down (crashed (with_note it.0 n) 0) it.0 mid new is it.2,
      it.3,
      goes_down (crashed (with_note it.0 n) 0) it.0 note it.0 o mid new is it.2 it.4,
    )
    deported_below (Err (Refused other)) it = (subst (λ (x : GroupSite R g). UpNoted (worked n) note x) (sym (same_up (worked n) note mid new is it.0)) it.0, it.1)
    deported_below (Err OutOfMemory) it = absurd it

  -- imports of disks that crashed find nothing that is told
  pub doubted_named : (units : Units) (count : ℕ) (mid new : GroupSite R g) → DoubtsFallen mid new → (k : Node) (note : GroupNode) → DownNoted k note new → RestsNamed units count new
  doubted_named units count (Up laid) new is k note down = subst (λ (x : GroupSite R g). RestsNamed units count x) (sym is) tt
  doubted_named units count (Deported idle) new is k note down = absurd (subst (λ (x : GroupSite R g). DownNoted k note x) is down)
  doubted_named units count (Down idle) new (y, is, doubts) k note down =
      subst (λ (x : GroupSite R g). RestsNamed units count x) (sym is)
      (record { each = λ i x each found. absurd (subst (λ (b : Bool). (shade_meaning g.meaning (ready_of b y.rack)).leaves 0 0 (i 0 0)) doubts.agreed (each 0 0)) })
  doubted_named units count (Marked rack) new is k note down = subst (λ (x : GroupSite R g). RestsNamed units count x) (sym is) tt
  doubted_named units count Gone new is k note down = subst (λ (x : GroupSite R g). RestsNamed units count x) (sym is) tt

  module _ (rackful : (r : R) → IsRack (g.meaning r)) where
    pub below_settled : (n : Node) (note : GroupNode) (o new : GroupSite R g) (r : Result (Unit {0}) Stop) → DeportedBelow n note o new r → IsSettled new
    below_settled n note o new (Ok done) it = away_settled rackful (deported_with it.0 n) it.0 new it.2
    below_settled n note o new (Err (Refused (Device disk))) it = up_settled rackful (with_note (note_loosened it.1 it.0) n) (note_loosened it.1 it.0) new it.4
    below_settled n note o new (Err (Refused IsOff)) it = down_settled rackful (crashed (with_note (note_loosened it.1 it.0) n) 0) (note_loosened it.1 it.0) new it.4
    below_settled n note o new (Err (Refused other)) it = up_settled rackful (worked n) note new it.0
    below_settled n note o new (Err OutOfMemory) it = absurd it

-- ---- what stood over it

module _ {R : Type 0} {g : Ghosts R} (laws : (s : Shade R) → Lawful (shade_meaning g.meaning s)) where
  module _ (beside : KeptBeside) (n : Node) (idle other : Idle R g) (doubts : Doubts idle other) where
    untold : IsTrue (idle_ready other).tells → ⊥
    untold tells = let clash : false ≡ true = subst (λ (b : Bool). IsTrue (shade_meaning g.meaning (ready_of b other.rack)).tells) doubts.agreed tells in cc

    -- a site that crashed stands still
    crashed_doubted : (mid new : OverSet R g) → mid.site ≡ GroupFell idle → new.site ≡ GroupFell other → CrashedAt beside n (Over mid) → CrashedAt beside n (Over new)
    crashed_doubted mid new was now it =
        let k : Node = fell_to n it.kept.node it.count in
        let rests : OverStands (sure_of it.kept) k (GroupFell idle) = subst (λ (x : OverSite R g). OverStands (sure_of it.kept) k x) was it.stands.1 in
        record {
          kept = it.kept;
          is = it.is;
          count = it.count;
          least = it.least;
          most = it.most;
          stands = fell_dim (sure_of it.kept) k k.group refl it.stands.0.0 (λ c. FellOver c (sure_of it.kept) k (idle_ready idle)) (idle_ready idle) rests.2 it.stands.0 other untold laws new now;
        }

  module _ (racks : (s : Shade R) → IsRack (shade_meaning g.meaning s)) (mine : Blocks) (old new : OverSet R g) (a : Above) (e mid : GroupSite R g) (above_is : a ≡ above_in old) (site_is : e ≡ site_in old) (goes : SiteGoes mine e mid) (sound : AboveStays a e) (aside : IsAside mine a) where
    fallen : (idle other : Idle R g) → mid ≡ Down idle → site_in new ≡ Down other → Doubts idle other → KeepsOver old new
    fallen idle other was now doubts =
        let between : OverSet R g = record { site = GroupFell idle; cut = new.cut } in
        let kept : KeepsOver old between = keeps_over laws racks mine old between a e (Down idle) above_is site_is refl tt (subst (λ (x : GroupSite R g). SiteGoes mine e x) was goes) sound aside in
        record {
          each = λ beside n stands state here.
              subst (λ (x : GroupSite R g). KeptBy beside n new x) (sym now)
              (crashed_doubted beside n idle other doubts between new refl (fell_site new.site other now) (kept.each beside n stands state tt));
          above = λ n role. role_kept n a (Down other) new.site now tt (subst (λ (x : Above). RoleBy n x) (sym above_is) role);
        }

    as_it_was : (x : GroupSite R g) → mid ≡ x → (last : GroupSite R g) → site_in new ≡ last → StaysAbove a last (above_in new) → last ≡ x → KeepsOver old new
    as_it_was x was last now above same =
        keeps_over laws racks mine old new a e x above_is site_is (now ∙ same) (subst (λ (y : GroupSite R g). StaysAbove a y (above_in new)) same above) (subst (λ (y : GroupSite R g). SiteGoes mine e y) was goes) sound aside

    -- it stands as it did; or the site crashed, and imports may disagree
    pub keeps_doubted : (last : GroupSite R g) → site_in new ≡ last → StaysAbove a last (above_in new) → DoubtsFallen mid last → KeepsOver old new
    keeps_doubted last now above is = by mid refl is
      where
        by : (x : GroupSite R g) → mid ≡ x → DoubtsFallen x last → KeepsOver old new
        by (Up laid) was same = as_it_was (Up laid) was last now above same
        by (Deported idle) was same = as_it_was (Deported idle) was last now above same
        by (Down idle) was (other, same, doubts) = fallen idle other was (now ∙ same) doubts
        by (Marked rack) was same = as_it_was (Marked rack) was last now above same
        by Gone was same = as_it_was Gone was last now above same
