-- What a call on the group of a site leaves of the disks below it.
use Rattle.std.proofs.Common.{arith, ◌≡◌, ◌∙◌, ◌⊎◌, inl, inr, ℕ, ◌≤◌, Bool, true, false, List, ap, refl, subst, sym, IsTrue}
use Rattle.std.specs.Prelude.{Option, Some, None, IsFalse, Result, Ok, Err, OnOk, unwrap_or}
use Rattle.vx_model.specs.Content.{Write}
use Rattle.vx_model.specs.declared.errors.Stop.{Stop}
use Rattle.vx_model.specs.declared.errors.Stop.TheVariants.{No as Refused, OutOfMemory}
use Rattle.vx_model.specs.declared.no.No.{No}
use Rattle.vx_model.specs.declared.no.No.TheVariants.{Device, Down as IsOff}
use Rattle.vx_disk.specs.Causes.{OnDisks, WithDisks}
use Rattle.vx_disk.specs.Disks.{Crashed, Disks, is_set}
use Rattle.vx_disk.specs.Racks.{IsRack, Stopped}
use Rattle.vx_disk.specs.Shelf.{Meaning}
use Rattle.vx_disk.specs.declared.shelf.Shelf.{Ghosts}
use Rattle.vx_history.specs.Groups.{GroupNode, note_cut, note_doubt, note_write}
use Rattle.vx_history.specs.Steps.{crashed, worked}
use Rattle.vx_history.specs.World.{Node}
use Rattle.vx_watched.proofs.SinceLemmas.{since_none}
use Rattle.vx_watched.specs.Since.{CalledSince, is_rack}
use Rattle.vx_grouped.specs.Added.{note_added}
use Rattle.vx_grouped.specs.GroupSites.{AwayNoted, DownNoted, GroupSiteStands, UpNoted, deported_with, site_disks, with_note, site_below}
use Rattle.vx_grouped.specs.SiteAdds.{LacksVolume, SiteAdded}
use Rattle.vx_grouped.specs.SiteEnds.{AttCalled, DetCalled, LacksDeport, PlainRead, PlainWrote, SiteCalled, SiteDeported, is_plex_on, refuses_att, refuses_det}
use Rattle.vx_grouped.specs.ConfigMoves.{AttCuts, AttDone, AttFails, DetCuts, DetDone, DetFails, LosesSome}
use Rattle.vx_config.specs.declared.config.Config.{Config}
use Rattle.vx_untold.specs.Shades.{rack_of, shade_meaning, shade_rack}
use Rattle.vx_untold.specs.declared.shade.Shade.{Shade}
use Rattle.vx_untold.specs.declared.shade.Shade.TheVariants.{Bright, Dark}
use Rattle.vx_layout.specs.declared.shape.Shape.{Shape}
use Rattle.vx_grouped.specs.SiteReturns.{ReturnSince}
use Rattle.vx_diskset.specs.Recovers.{RisesSince}
use Rattle.vx_grouped.specs.declared.group_site.GroupSite.{GroupSite}
use Rattle.vx_grouped.specs.declared.group_site.GroupSite.TheVariants.{Up, Deported, Down, Marked, Gone}
use Rattle.vx_diskset.specs.Asked.{FuseGoesOn, SameFailing, disks_told}
use Rattle.vx_diskset.specs.DiskSets.{Later}
use Rattle.vx_diskset.specs.GroupCalls.{AtSite, CalledOn, OnSites, AtPlain}
use Rattle.vx_diskset.specs.Stands.{IsRackTold, IsToldAt, faults_at}
use Rattle.vx_diskset.specs.declared.disk_set.DiskSet.{DiskSet}
use Rattle.vx_diskset.specs.declared.disk_set.DiskSet.TheVariants.{Bare, Spoiled, Up as UpSet, Receives, Down as DownSet, OfGroup, Over, Gone as GoneSet}
use Rattle.vx_diskset.specs.declared.group_set.GroupSet.{GroupSet}
use Rattle.vx_diskset.proofs.StaysUp.{never_both, not_true}
use Rattle.vx_watched.specs.Traces.{TellsLess}
use Rattle.vx_diskset.specs.Aboves.{site_in}

-- ---- two racks of which something is told

with_by : (P : Disks → Disks → Type 0) (o n : Option Disks) → is_rack n ≡ is_rack o → ((x y : Disks) → o ≡ Some x → n ≡ Some y → P x y) → WithDisks o n P
with_by P None None same each = tt
with_by P None (Some y) same each = absurd (let e : true ≡ false = same in cc)
with_by P (Some x) None same each = absurd (let e : false ≡ true = same in cc)
with_by P (Some x) (Some y) same each = each x y refl refl

-- no fuse is set on a rack that has none
pub never_set : (m : Meaning) → IsRack m → IsFalse m.armed → (y : Disks) → m.disks ≡ Some y → is_set y.fuse ≡ true → ⊥
never_set m rack unarmed y is on =
    let told : rack.told ≡ y = ap (λ (o : Option Disks). unwrap_or o y) (sym rack.is ∙ is) in
    let e : true ≡ false = sym on ∙ sym (ap (λ (d : Disks). is_set d.fuse) told) ∙ sym rack.armed ∙ unarmed in
    cc

-- disks behind their calls
pub rises_called : (m m' : Meaning) → CalledSince m m' → RisesSince m m'
rises_called m m' since = record {
  counts = since.counts;
  rack = since.rack;
  failing = λ x y was is. (since.told x y was is).failing;
  passes = λ x y was is up. let goes = (since.told x y was is).fuse up in record { failing = (since.told x y was is).failing; set = λ on. sym goes.set ∙ on; left = λ on. goes.left };
}

-- behind an import
pub rises_returned : (m m' : Meaning) → ReturnSince m m' → RisesSince m m'
rises_returned m m' since = record {
  counts = since.counts;
  rack = since.rack;
  failing = λ x y was is. (since.told x y was is).failing;
  passes = λ x y was is up. since.told x y was is;
}

-- and behind a crash
module _ (m middle m' : Meaning) (pick : ℕ) (since : RisesSince m middle) (fell : Stopped middle m') where
  rack_on : (o n : Option Disks) → OnDisks o n (Crashed middle.size pick) → is_rack n ≡ is_rack o
  rack_on None None it = refl
  rack_on None (Some z) it = absurd it
  rack_on (Some y) None it = absurd it
  rack_on (Some y) (Some z) it = refl

  failing_on : (c n : Option Disks) (x z : Disks) → m.disks ≡ Some x → n ≡ Some z → is_rack c ≡ is_rack m.disks → ((y : Disks) → c ≡ Some y → (u : ℕ) → y.failing u ≡ x.failing u) → OnDisks c n (Crashed middle.size pick)
      → (u : ℕ) → z.failing u ≡ x.failing u
  failing_on None n x z was is same each it u = absurd (let e : true ≡ false = ap (λ (d : Option Disks). is_rack d) (sym was) ∙ sym same in cc)
  failing_on (Some y) None x z was is same each it u = absurd it
  failing_on (Some y) (Some w) x z was is same each it u =
      let w_is : w ≡ z = ap (λ (o : Option Disks). unwrap_or o w) is in
      ap (λ (d : Disks). d.failing u) (sym w_is) ∙ it.1 u ∙ each y refl u

  pub rises_fell : OnDisks middle.disks m'.disks (Crashed middle.size pick) → RisesSince m m'
  rises_fell on = record {
    counts = λ d. omega (arith, since.counts d, fell.counts.disk_faults d);
    rack = rack_on middle.disks m'.disks on ∙ since.rack;
    failing = λ x z was is. failing_on middle.disks m'.disks x z was is since.rack (λ y there. since.failing x y was there) on;
    passes = λ x z was is up. absurd (never_both m'.down fell.down up);
  }

-- what a shaded rack tells, the rack tells
shade_bright : {R : Type 0} (g : Ghosts R) (s : Shade R) → IsTrue (shade_meaning g.meaning s).tells → IsTrue (g.meaning (rack_of s)).tells
shade_bright g (Bright rack) told = told
shade_bright g (Dark rack) told = absurd (let wrong : false ≡ true = told in cc)

module _ {R : Type 0} {g : Ghosts R} where
  -- ---- the disks below a disk set

  pub record HasDisks (e : DiskSet R g) (m : Meaning) : Type 0 where
    pub disks : disks_told e ≡ m.disks
    pub faults : (d : ℕ) → faults_at e d ≡ m.disk_faults d

  pub has_group : (e : DiskSet R g) (s : GroupSet R g) → e ≡ OfGroup s → HasDisks e (site_disks s.site)
  has_group e s is = subst (λ (x : DiskSet R g). HasDisks x (site_disks s.site)) (sym is) (record { disks = refl; faults = λ d. refl })

  pub has_bare : (e : DiskSet R g) (rack : R) → e ≡ Bare rack → HasDisks e (g.meaning rack)
  has_bare e rack is = subst (λ (x : DiskSet R g). HasDisks x (g.meaning rack)) (sym is) (record { disks = refl; faults = λ d. refl })

  pub has_spoiled : (e : DiskSet R g) (rack : R) → e ≡ Spoiled rack → HasDisks e (g.meaning rack)
  has_spoiled e rack is = subst (λ (x : DiskSet R g). HasDisks x (g.meaning rack)) (sym is) (record { disks = refl; faults = λ d. refl })

  -- a group below a disk set, and its disks
  pub record OnGroup (e : DiskSet R g) (P : GroupSite R g → Type 0) : Type 0 where
    pub site : GroupSite R g
    pub has : P site
    pub disks : HasDisks e (site_disks site)
    pub told : IsRackTold e → IsTrue (site_below site).tells

  pub told_below : (s : GroupSite R g) → IsTrue (site_disks s).tells → IsTrue (site_below s).tells
  told_below (Up laid) told = shade_bright g laid.shelf told
  told_below (Deported idle) told = shade_bright g idle.rack told
  told_below (Down idle) told = shade_bright g idle.rack told
  told_below (Marked rack) told = told
  told_below Gone told = told

  -- contents that are told are told by the rack
  pub rack_tells : (e : DiskSet R g) → IsToldAt e → IsRackTold e
  rack_tells (Bare rack) told = told
  rack_tells (Spoiled rack) told = told
  rack_tells (UpSet rvg) told = told
  rack_tells (Receives s) told = told
  rack_tells (DownSet rack) told = told
  rack_tells (OfGroup s) told = told
  rack_tells (Over s) told = told_below (site_in s) told
  rack_tells GoneSet told = told

  pub on_group : (P : GroupSite R g → Type 0) (e : DiskSet R g) → AtSite P e → OnGroup e P
  on_group P (Bare rack) it = absurd it
  on_group P (Spoiled rack) it = absurd it
  on_group P (UpSet rvg) it = absurd it
  on_group P (Receives s) it = absurd it
  on_group P (DownSet rack) it = absurd it
  on_group P (OfGroup s) it = record { site = s.site; has = it; disks = record { disks = refl; faults = λ d. refl }; told = λ told. told }
  on_group P (Over s) it = record { site = site_in s; has = it; disks = record { disks = refl; faults = λ d. refl }; told = λ told. told }
  on_group P GoneSet it = absurd it

  -- ---- behind calls on them

  module _ (old new : DiskSet R g) (m m' : Meaning) (was : HasDisks old m) (now : HasDisks new m') where
    failing_by : is_rack m'.disks ≡ is_rack m.disks → ((x y : Disks) → m.disks ≡ Some x → m'.disks ≡ Some y → (u : ℕ) → y.failing u ≡ x.failing u) → SameFailing old new
    failing_by rack each = record {
      told = subst (λ (o : Option Disks). WithDisks o (disks_told new) (λ x y. (u : ℕ) → y.failing u ≡ x.failing u)) (sym was.disks)
          (subst (λ (o : Option Disks). WithDisks m.disks o (λ x y. (u : ℕ) → y.failing u ≡ x.failing u)) (sym now.disks)
          (with_by (λ x y. (u : ℕ) → y.failing u ≡ x.failing u) m.disks m'.disks rack each));
    }

    later_by : ((d : ℕ) → m.disk_faults d ≤ m'.disk_faults d) → (IsRackTold new → IsRackTold old) → Later old new
    later_by counts told = record {
      counts = λ d. omega (arith, was.faults d, now.faults d, counts d);
      told = told;
    }

    pub failing_risen : RisesSince m m' → SameFailing old new
    failing_risen since = failing_by since.rack since.failing

    pub later_risen : RisesSince m m' → (IsRackTold new → IsRackTold old) → Later old new
    later_risen since told = later_by since.counts told

    -- of disks that are up, or have no fuse
    pub fuse_risen : RisesSince m m' → IsRack m' → IsFalse m'.down ⊎ IsFalse m'.armed → FuseGoesOn old new
    fuse_risen since rack (inl up) = record {
      set = λ x y one two on. (since.passes x y (sym was.disks ∙ one) (sym now.disks ∙ two) up).set on;
      left = λ x y one two on. (since.passes x y (sym was.disks ∙ one) (sym now.disks ∙ two) up).left on;
    }
    fuse_risen since rack (inr unarmed) = record {
      set = λ x y one two on. absurd (never_set m' rack unarmed y (sym now.disks ∙ two) on);
      left = λ x y one two on. absurd (never_set m' rack unarmed y (sym now.disks ∙ two) on);
    }

  pub group_failing : (old : DiskSet R g) (o s : GroupSet R g) → old ≡ OfGroup o → CalledSince (site_disks o.site) (site_disks s.site) → SameFailing old (OfGroup s)
  group_failing old o s is since = failing_risen old (OfGroup s) (site_disks o.site) (site_disks s.site) (has_group old o is) (has_group (OfGroup s) s refl) (rises_called (site_disks o.site) (site_disks s.site) since)

  -- what is told of them
  pub told_before : (old : DiskSet R g) (o : GroupSet R g) → old ≡ OfGroup o → IsTrue (site_below o.site).tells → IsRackTold old
  told_before old o is told = subst (λ (x : DiskSet R g). IsRackTold x) (sym is) told

  pub told_behind : (m : Meaning) (new : DiskSet R g) → AtSite (λ e. TellsLess m (site_below e)) new → IsRackTold new → IsTrue m.tells
  told_behind m new at told =
      let on = on_group (λ e. TellsLess m (site_below e)) new at in
      on.has (on.told told)

  pub group_later : (old : DiskSet R g) (o s : GroupSet R g) → old ≡ OfGroup o → CalledSince (site_disks o.site) (site_disks s.site) → TellsLess (site_below o.site) (site_below s.site) → Later old (OfGroup s)
  group_later old o s is since less =
      later_risen old (OfGroup s) (site_disks o.site) (site_disks s.site) (has_group old o is) (has_group (OfGroup s) s refl) (rises_called (site_disks o.site) (site_disks s.site) since) (λ told. told_before old o is (less told))

  -- where nothing was called
  pub called_rest : (e : DiskSet R g) → CalledOn e e
  called_rest (Bare rack) = tt
  called_rest (Spoiled rack) = tt
  called_rest (UpSet rvg) = tt
  called_rest (Receives s) = tt
  called_rest (DownSet rack) = tt
  called_rest (OfGroup s) = since_none (site_disks s.site)
  called_rest (Over s) = since_none (site_disks (site_in s))
  called_rest GoneSet = tt

  -- ---- facts of the site of a group hold of its disk set

  pub at_sites : (P : GroupSite R g → Type 0) (A : Type 0) (e : DiskSet R g) (o : GroupSet R g) → e ≡ OfGroup o → (P o.site → A) → AtSite P e → A
  at_sites P A e o is go it = go (subst (λ (x : DiskSet R g). AtSite P x) is it)

  pub on_sites : (P : GroupSite R g → Type 0) (Q : GroupSite R g → GroupSite R g → Type 0) (e : DiskSet R g) (o s : GroupSet R g) → e ≡ OfGroup o → (P o.site → Q o.site s.site) → AtSite P e → OnSites Q e (OfGroup s)
  on_sites P Q e o s is go it = subst (λ (x : DiskSet R g). OnSites Q x (OfGroup s)) (sym is) (at_sites P (Q o.site s.site) e o is go it)

  pub at_plain : (P : GroupSite R g → Type 0) (A : Type 0) (e : DiskSet R g) (o : GroupSet R g) → e ≡ OfGroup o → (P o.site → A) → AtPlain P e → A
  at_plain P A e o is go it = go (subst (λ (x : DiskSet R g). AtPlain P x) is it)

  -- nothing is called where they are of no group, or have a replicated volume group
  pub on_rest : (P : GroupSite R g → Type 0) (Q : GroupSite R g → GroupSite R g → Type 0) (e : DiskSet R g) → ((o : GroupSet R g) → e ≡ OfGroup o → ⊥) → AtSite P e → OnSites Q e e
  on_rest P Q (Bare rack) never it = it
  on_rest P Q (Spoiled rack) never it = it
  on_rest P Q (UpSet rvg) never it = it
  on_rest P Q (Receives s) never it = it
  on_rest P Q (DownSet rack) never it = it
  on_rest P Q (OfGroup s) never it = absurd (never s refl)
  on_rest P Q (Over s) never it = tt
  on_rest P Q GoneSet never it = it

  pub plain_none : (P : GroupSite R g → Type 0) (A : Type 0) (e : DiskSet R g) → ((o : GroupSet R g) → e ≡ OfGroup o → ⊥) → AtPlain P e → A
  plain_none P A (Bare rack) never it = absurd it
  plain_none P A (Spoiled rack) never it = absurd it
  plain_none P A (UpSet rvg) never it = absurd it
  plain_none P A (Receives s) never it = absurd it
  plain_none P A (DownSet rack) never it = absurd it
  plain_none P A (OfGroup s) never it = absurd (never s refl)
  plain_none P A (Over s) never it = absurd it
  plain_none P A GoneSet never it = absurd it

  -- a group without a replicated volume group
  pub record IsPlainSet (e : DiskSet R g) (P : GroupSite R g → Type 0) : Type 0 where
    pub set : GroupSet R g
    pub is : e ≡ OfGroup set
    pub has : P set.site

  pub plain_set : (P : GroupSite R g → Type 0) (e : DiskSet R g) → AtPlain P e → IsPlainSet e P
  plain_set P (Bare rack) it = absurd it
  plain_set P (Spoiled rack) it = absurd it
  plain_set P (UpSet rvg) it = absurd it
  plain_set P (Receives s) it = absurd it
  plain_set P (DownSet rack) it = absurd it
  plain_set P (OfGroup s) it = record { set = s; is = refl; has = it }
  plain_set P (Over s) it = absurd it
  plain_set P GoneSet it = absurd it

  pub at_both : (P Q : GroupSite R g → Type 0) (e : DiskSet R g) → AtSite P e → AtSite Q e → AtSite (λ s. P s × Q s) e
  at_both P Q (Bare rack) it other = absurd it
  at_both P Q (Spoiled rack) it other = absurd it
  at_both P Q (UpSet rvg) it other = absurd it
  at_both P Q (Receives s) it other = absurd it
  at_both P Q (DownSet rack) it other = absurd it
  at_both P Q (OfGroup s) it other = (it, other)
  at_both P Q (Over s) it other = (it, other)
  at_both P Q GoneSet it other = absurd it

  -- of both kinds
  pub at_map : (P Q : GroupSite R g → Type 0) → ((s : GroupSite R g) → P s → Q s) → (e : DiskSet R g) → AtSite P e → AtSite Q e
  at_map P Q each (Bare rack) it = absurd it
  at_map P Q each (Spoiled rack) it = absurd it
  at_map P Q each (UpSet rvg) it = absurd it
  at_map P Q each (Receives s) it = absurd it
  at_map P Q each (DownSet rack) it = absurd it
  at_map P Q each (OfGroup s) it = each s.site it
  at_map P Q each (Over s) it = each (site_in s) it
  at_map P Q each GoneSet it = absurd it

  -- the other plexes
  pub others_on : {T : Type 0} (r : Result T Stop) (e : DiskSet R g) (o s : GroupSet R g) → e ≡ OfGroup o → (v p : ℕ)
      → OnOk r ((w q : ℕ) → (w ≡ v → q ≡ p → ⊥) → is_plex_on s.site w q ≡ is_plex_on o.site w q)
      → OnOk r ((w q : ℕ) → (w ≡ v → q ≡ p → ⊥) → OnSites (λ x y. is_plex_on y w q ≡ is_plex_on x w q) e (OfGroup s))
  others_on (Ok done) e o s is v p all = λ w q other. subst (λ (x : DiskSet R g). OnSites (λ a b. is_plex_on b w q ≡ is_plex_on a w q) x (OfGroup s)) (sym is) (all w q other)
  others_on (Err stop) e o s is v p all = tt

  -- ---- disks that stand for a site are up, or have no fuse

  pub record IsSettled (s : GroupSite R g) : Type 0 where
    pub rack : IsRack (site_disks s)
    pub at : IsFalse (site_disks s).down ⊎ IsFalse (site_disks s).armed

  pub group_fuse : (old : DiskSet R g) (o s : GroupSet R g) → old ≡ OfGroup o → CalledSince (site_disks o.site) (site_disks s.site) → IsSettled s.site → FuseGoesOn old (OfGroup s)
  group_fuse old o s is since it = fuse_risen old (OfGroup s) (site_disks o.site) (site_disks s.site) (has_group old o is) (has_group (OfGroup s) s refl) (rises_called (site_disks o.site) (site_disks s.site) since) it.rack it.at

  module _ (rackful : (r : R) → IsRack (g.meaning r)) where
    pub settled : (n : Node) (s : GroupSite R g) → GroupSiteStands n s → IsSettled s
    settled n (Up group) it = record { rack = shade_rack g.meaning rackful group.shelf; at = inl (not_true (shade_meaning g.meaning group.shelf).down it.1.at.up) }
    settled n (Deported idle) it = record { rack = shade_rack g.meaning rackful idle.rack; at = inl (not_true (shade_meaning g.meaning idle.rack).down it.1.up) }
    settled n (Down idle) it = record { rack = shade_rack g.meaning rackful idle.rack; at = inr it.1.stopped.unarmed }
    settled n (Marked rack) it = record { rack = rackful rack; at = inl it.up }
    settled n Gone it = absurd it

    pub up_settled : (n : Node) (note : GroupNode) (s : GroupSite R g) → UpNoted n note s → IsSettled s
    up_settled n note (Up group) it = settled n (Up group) (note, it)
    up_settled n note (Deported idle) it = absurd it
    up_settled n note (Down idle) it = absurd it
    up_settled n note (Marked rack) it = absurd it
    up_settled n note Gone it = absurd it

    pub down_settled : (n : Node) (note : GroupNode) (s : GroupSite R g) → DownNoted n note s → IsSettled s
    down_settled n note (Up group) it = absurd it
    down_settled n note (Deported idle) it = absurd it
    down_settled n note (Down idle) it = settled n (Down idle) (note, it)
    down_settled n note (Marked rack) it = absurd it
    down_settled n note Gone it = absurd it

    pub away_settled : (n : Node) (note : GroupNode) (s : GroupSite R g) → AwayNoted n note s → IsSettled s
    away_settled n note (Up group) it = absurd it
    away_settled n note (Deported idle) it = settled n (Deported idle) (note, it)
    away_settled n note (Down idle) it = absurd it
    away_settled n note (Marked rack) it = absurd it
    away_settled n note Gone it = absurd it

    called_settled : (T : Type 0) (twice : Bool) (Done Fails Cuts : Config → Config → Type 0) (Lacks : No → Type 0) (n : Node) (note : GroupNode) (old new : GroupSite R g) (r : Result T Stop) → SiteCalled {T = T} twice Done Fails Cuts Lacks n note old new r → IsSettled new
    called_settled T twice Done Fails Cuts Lacks n note old new (Ok done) it = up_settled (with_note it.0 n) it.0 new it.2
    called_settled T twice Done Fails Cuts Lacks n note old new (Err (Refused (Device disk))) it = up_settled (with_note it.0 n) it.0 new it.2
    called_settled T twice Done Fails Cuts Lacks n note old new (Err (Refused IsOff)) it = down_settled (crashed (with_note it.0 n) 0) it.0 new it.2
    called_settled T twice Done Fails Cuts Lacks n note old new (Err (Refused other)) it = up_settled (worked n) note new it.0
    called_settled T twice Done Fails Cuts Lacks n note old new (Err OutOfMemory) it = absurd it

    pub det_settled : (n : Node) (note : GroupNode) (vol plex : ℕ) (old new : GroupSite R g) (r : Result (Unit {0}) Stop) → DetCalled n note vol plex old new r → IsSettled new
    det_settled n note vol plex old new r it =
        called_settled (Unit {0}) false (DetDone vol plex (site_disks old) (site_disks new)) (DetFails (site_disks old) (site_disks new)) (DetCuts vol plex (site_disks old) (site_disks new)) (λ no. refuses_det old vol plex ≡ Some no) n note old new r it

    pub att_settled : (n : Node) (note : GroupNode) (vol plex : ℕ) (old new : GroupSite R g) (r : Result ℕ Stop) → AttCalled n note vol plex old new r → IsSettled new
    att_settled n note vol plex old new r it =
        called_settled ℕ true (AttDone vol plex (site_disks old) (site_disks new)) (AttFails vol plex (site_disks old) (site_disks new)) (AttCuts vol plex (site_disks old) (site_disks new)) (λ no. refuses_att old vol plex ≡ Some no) n note old new r it

    pub wrote_settled : (n : Node) (note : GroupNode) (x : Write) (old new : GroupSite R g) (r : Result (Unit {0}) No) → PlainWrote n note x old new r → IsSettled new
    wrote_settled n note x old new (Ok done) it = up_settled (with_note (note_write x it.0) n) (note_write x it.0) new it.2
    wrote_settled n note x old new (Err (Device disk)) it = up_settled (with_note (note_doubt x it.0) n) (note_doubt x it.0) new it.2
    wrote_settled n note x old new (Err IsOff) it = down_settled (crashed (with_note (note_cut x it.0) n) 0) (note_cut x it.0) new it.2
    wrote_settled n note x old new (Err other) it = absurd it

    pub read_settled : (n : Node) (note : GroupNode) (v b : ℕ) (bytes : List ℕ) (old new : GroupSite R g) (r : Result (Unit {0}) No) → PlainRead n note v b bytes old new r → IsSettled new
    read_settled n note v b bytes old new (Ok done) it = up_settled (worked n) note new it.1
    read_settled n note v b bytes old new (Err (Device disk)) it = up_settled (worked n) note new it.0
    read_settled n note v b bytes old new (Err other) it = absurd it

    pub deported_settled : (n : Node) (note : GroupNode) (old new : GroupSite R g) (r : Result (Unit {0}) Stop) → SiteDeported n note old new r → IsSettled new
    deported_settled n note old new (Ok done) it = away_settled (deported_with it.0 n) it.0 new it.2
    deported_settled n note old new (Err stop) it = called_settled (Unit {0}) false (λ c d. ⊥) (LosesSome (site_disks old) (site_disks new)) (LosesSome (site_disks old) (site_disks new)) (λ no. LacksDeport old no) n note old new (Err stop) it

    pub added_settled : (n : Node) (note : GroupNode) (name : List ℕ) (want : Shape) (old new : GroupSite R g) (r : Result ℕ Stop) → SiteAdded n note name want old new r → IsSettled new
    added_settled n note name want old new (Ok vol) it = up_settled (with_note (note_added vol want.blocks it.0) n) (note_added vol want.blocks it.0) new it.2
    added_settled n note name want old new (Err (Refused why)) it = called_settled ℕ false (λ c d. ⊥) (LosesSome (site_disks old) (site_disks new)) (LosesSome (site_disks old) (site_disks new)) (LacksVolume old name want) n note old new (Err (Refused why)) it
    added_settled n note name want old new (Err OutOfMemory) it = up_settled n note new it
