-- A group that is begun on the disks of a bare site.
use Rattle.std.proofs.Common.{◌≡◌, ◌∙◌, ◌<◌, ◌≤◌, ℕ, ap, refl, subst, sym, IsTrue}
use Rattle.std.specs.Prelude.{IfErr, Option, Some, None, Result, Ok, Err}
use Rattle.vx_model.specs.declared.errors.Stop.{Stop}
use Rattle.vx_model.specs.declared.errors.Stop.TheVariants.{No as Refused, OutOfMemory}
use Rattle.vx_model.specs.declared.limits.TheConstants.{LEAST_BLOCKS, LEAST_GROUP_BLOCKS, MOST_DISKS}
use Rattle.vx_model.specs.declared.no.No.TheVariants.{Device}
use Rattle.vx_model.specs.declared.site.SiteState.TheVariants.{Bare as IsBare, Up as IsUp, Down as IsDown, Deported as IsDeported}
use Rattle.vx_disk.specs.Racks.{IsRack}
use Rattle.vx_disk.specs.Shelf.{Meaning}
use Rattle.vx_disk.specs.declared.shelf.Shelf.{Ghosts}
use Rattle.vx_history.specs.Groups.{GroupNode}
use Rattle.vx_history.specs.World.{Node}
use Rattle.vx_grouped.specs.Begins.{BeginsGroup, CanBegin, group_begun}
use Rattle.vx_watched.specs.Since.{CalledSince}
use Rattle.vx_grouped.specs.GroupSites.{GroupSiteStands, IsMarkedSite, site_disks, site_below}
use Rattle.vx_diskset.specs.Asked.{FuseGoesOn, SameFailing}
use Rattle.vx_diskset.specs.DiskSets.{Later}
use Rattle.vx_diskset.specs.Recovers.{RisesSince}
use Rattle.vx_grouped.specs.declared.group_site.GroupSite.{GroupSite}
use Rattle.vx_grouped.specs.declared.group_site.GroupSite.TheVariants.{Up, Deported, Down, Marked, Gone}
use Rattle.vx_diskset.specs.GroupCalls.{AtSite, bare_disks, cut_in, AtPlain}
use Rattle.vx_diskset.specs.GroupSets.{cut_value, noted_cut}
use Rattle.vx_diskset.specs.Holds.{KeptBeside}
use Rattle.vx_diskset.specs.Stands.{IsBareAt, IsGroupSet, SiteStands, bare_with, IsRackTold}
use Rattle.vx_diskset.specs.declared.disk_set.DiskSet.{DiskSet}
use Rattle.vx_diskset.specs.declared.disk_set.DiskSet.TheVariants.{OfGroup}
use Rattle.vx_diskset.specs.declared.group_set.CutWrite.{CutWrite}
use Rattle.vx_diskset.specs.declared.group_set.GroupSet.{GroupSet}
use Rattle.vx_diskset.proofs.GroupCalling.{HasDisks, IsSettled, OnGroup, failing_risen, fuse_risen, later_risen, on_group, rises_called, settled, up_settled, told_behind, plain_set, at_both}
use Rattle.vx_watched.specs.Traces.{TellsLess}

-- ---- disks of which a group can be made

pub begin_bare : (n : Node) (m : Meaning) → IsBareAt n m → n.state ≡ IsBare → 0 < n.disks → LEAST_GROUP_BLOCKS ≤ n.blocks → CanBegin n m
begin_bare n m it state some large = record {
  state = state;
  unfused = ap (λ (x : Node). x.fuse) it.is;
  some = some;
  few = it.few;
  large = large;
  units = it.fitted.units;
  size = it.fitted.size;
  up = it.fitted.up;
  unarmed = it.unarmed;
}

pub begin_marked : (n : Node) (m : Meaning) → IsMarkedSite n m → n.disks ≤ MOST_DISKS → 0 < n.disks → LEAST_GROUP_BLOCKS ≤ n.blocks → CanBegin n m
begin_marked n m it few some large = record {
  state = it.state;
  unfused = it.unfused;
  some = some;
  few = few;
  large = large;
  units = it.units;
  size = it.size;
  up = it.up;
  unarmed = it.unarmed;
}

module _ {R : Type 0} {g : Ghosts R} where
  -- ---- a site that is bare still

  module _ (beside : KeptBeside) (n : Node) (is : n ≡ bare_with n) (state : n.state ≡ IsBare) (few : n.disks ≤ MOST_DISKS) (some : LEAST_BLOCKS ≤ n.blocks) where
    bare_set : (s : GroupSet R g) → GroupSiteStands n s.site → cut_value s.cut ≡ None → IsGroupSet beside n s
    bare_set s stands cut = record {
      sure = λ never. absurd (never state);
      unlinked = λ never. absurd (never state);
      stands = stands;
      cut = cut ∙ sym (ap (λ (o : Option GroupNode). noted_cut o) (ap (λ (x : Node). x.group) is));
      lies = λ x there. absurd (let e : cut_value (Some x) ≡ None = ap (λ (o : Option CutWrite). cut_value o) (sym there) ∙ cut in cc);
      bare = λ same. is;
      few = few;
      some = some;
      maps = λ never note there. absurd (never state);
      plain = λ never note there. absurd (never state);
    }

    bare_stop : (site : ℕ) (old : Meaning) (s : GroupSet R g) (stop : Stop) → cut_value s.cut ≡ None → BeginsGroup site n old s.site (Err stop) → IsGroupSet beside n s
    bare_stop site old s (Refused (Device disk)) cut it = bare_set s it.0 cut
    bare_stop site old s (Refused other) cut it = absurd it
    bare_stop site old s OutOfMemory cut it = bare_set s it cut

    bare_ends : (site : ℕ) (old : Meaning) (s : GroupSet R g) (r : Result (Unit {0}) Stop) → cut_value s.cut ≡ None → BeginsGroup site n old s.site r → IfErr r (λ stop. IsGroupSet beside n s)
    bare_ends site old s (Ok done) cut it = tt
    bare_ends site old s (Err stop) cut it = bare_stop site old s stop cut it

    pub begun_stays : (site : ℕ) (old : Meaning) (new : DiskSet R g) (r : Result (Unit {0}) Stop) → cut_in new ≡ None → AtPlain (λ e. BeginsGroup site n old e r) new → IfErr r (λ stop. SiteStands beside n new)
    begun_stays site old new r cut it =
        let on = plain_set (λ e. BeginsGroup site n old e r) new it in
        subst (λ (x : DiskSet R g). IfErr r (λ stop. SiteStands beside n x)) (sym on.is)
        (bare_ends site old on.set r (subst (λ (x : DiskSet R g). cut_in x ≡ None) on.is cut) on.has)

  -- ---- the disks behind it

  module _ (rackful : (r : R) → IsRack (g.meaning r)) where
    begun_settled : (site : ℕ) (n : Node) (old : Meaning) (s : GroupSite R g) (r : Result (Unit {0}) Stop) → BeginsGroup site n old s r → IsSettled s
    begun_settled site n old s (Ok done) it = up_settled rackful (group_begun it.0 site n) it.0 s it.2
    begun_settled site n old s (Err (Refused (Device disk))) it = settled rackful n s it.0
    begun_settled site n old s (Err (Refused other)) it = absurd it
    begun_settled site n old s (Err OutOfMemory) it = settled rackful n s it

    pub begin_settled : (site : ℕ) (n : Node) (old : Meaning) (new : DiskSet R g) (r : Result (Unit {0}) Stop) → AtPlain (λ e. BeginsGroup site n old e r) new → AtSite IsSettled new
    begin_settled site n old new r it =
        let on = plain_set (λ e. BeginsGroup site n old e r) new it in
        subst (λ (x : DiskSet R g). AtSite IsSettled x) (sym on.is) (begun_settled site n old on.set.site r on.has)

  module _ (old new : DiskSet R g) (m : Meaning) (was : HasDisks old m) (since : AtSite (λ e. CalledSince m (site_disks e)) new) where
    now : OnGroup new (λ e. CalledSince m (site_disks e))
    now = on_group (λ e. CalledSince m (site_disks e)) new since

    risen : RisesSince m (site_disks now.site)
    risen = rises_called m (site_disks now.site) now.has

    pub begin_failing : SameFailing old new
    begin_failing = failing_risen old new m (site_disks now.site) was now.disks risen

    pub begin_later : (below : Meaning) → (IsTrue below.tells → IsRackTold old) → AtSite (λ e. TellsLess below (site_below e)) new → Later old new
    begin_later below was_told less = later_risen old new m (site_disks now.site) was now.disks risen (λ told. was_told (told_behind below new less told))

    pub begin_fuse : AtSite IsSettled new → FuseGoesOn old new
    begin_fuse at =
        let on = on_group (λ e. CalledSince m (site_disks e) × IsSettled e) new (at_both (λ e. CalledSince m (site_disks e)) IsSettled new since at) in
        fuse_risen old new m (site_disks on.site) was on.disks (rises_called m (site_disks on.site) on.has.0) on.has.1.rack on.has.1.at

  -- ---- the disks on which a group was begun before

  pub marked_only : {A : Type 0} (n : Node) (s : GroupSite R g) → GroupSiteStands n s → n.state ≡ IsBare → ((rack : R) → s ≡ Marked rack → ⊥) → A
  marked_only n (Up group) it state never = absurd (let e : IsUp ≡ IsBare = sym it.1.at.state ∙ state in cc)
  marked_only n (Deported idle) it state never = absurd (let e : IsDeported ≡ IsBare = sym it.1.away.state ∙ state in cc)
  marked_only n (Down idle) it state never = absurd (let e : IsDown ≡ IsBare = sym it.1.away.state ∙ state in cc)
  marked_only n (Marked rack) it state never = absurd (never rack refl)
  marked_only n Gone it state never = absurd it

  pub marked_bare : (e : DiskSet R g) (s : GroupSet R g) → e ≡ OfGroup s → bare_disks e ≡ site_disks s.site
  marked_bare e s is = ap (λ (x : DiskSet R g). bare_disks x) is

  pub marked_at : (beside : KeptBeside) (n : Node) (e : DiskSet R g) (s : GroupSet R g) → e ≡ OfGroup s → SiteStands beside n e → IsGroupSet beside n s
  marked_at beside n e s is stands = subst (λ (x : DiskSet R g). SiteStands beside n x) is stands

  pub marked_can : (n : Node) (s : GroupSite R g) → GroupSiteStands n s → n.state ≡ IsBare → n.disks ≤ MOST_DISKS → 0 < n.disks → LEAST_GROUP_BLOCKS ≤ n.blocks → CanBegin n (site_disks s)
  marked_can n (Up group) it state few some large = absurd (let e : IsUp ≡ IsBare = sym it.1.at.state ∙ state in cc)
  marked_can n (Deported idle) it state few some large = absurd (let e : IsDeported ≡ IsBare = sym it.1.away.state ∙ state in cc)
  marked_can n (Down idle) it state few some large = absurd (let e : IsDown ≡ IsBare = sym it.1.away.state ∙ state in cc)
  marked_can n (Marked rack) it state few some large = begin_marked n (g.meaning rack) it few some large
  marked_can n Gone it state few some large = absurd it
