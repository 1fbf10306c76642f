-- The disks of a site on which a replicated volume group is made: what holds of the group by its parts holds of the site.
use Rattle.std.proofs.Common.{◌≡◌, ◌∙◌, ℕ, true, Option, None, Some, ap, refl, subst, sym}
use Rattle.std.specs.Prelude.{Err, Ok, Result}
use Rattle.std.proofs.lemmas.Option.{same_Some}
use Rattle.vx_config.specs.Checks.{is_group}
use Rattle.vx_config.specs.declared.config.Config.{Config}
use Rattle.vx_disk.specs.Counts.{Rose}
use Rattle.vx_disk.specs.Racks.{IsRack}
use Rattle.vx_disk.specs.Shelf.{Lawful, Meaning}
use Rattle.vx_disk.specs.declared.shelf.Shelf.{Ghosts}
use Rattle.vx_events.specs.RvgNotes.{as_replicated}
use Rattle.vx_group.specs.declared.group_core.GroupCore.{GroupCore}
use Rattle.vx_grouped.specs.ConfigMoves.{LosesSome}
use Rattle.vx_grouped.specs.GroupSites.{GroupUp, with_note, laid_below, laid_disks, site_config, site_disks}
use Rattle.vx_grouped.specs.SiteEnds.{ConfigGoes}
use Rattle.vx_grouped.specs.declared.group_site.GroupSite.{GroupSite}
use Rattle.vx_grouped.specs.declared.group_site.GroupSite.TheVariants.{Up, Deported, Down, Marked, Gone}
use Rattle.vx_grouped.specs.declared.laid.Laid.{Laid}
use Rattle.vx_history.specs.Groups.{GroupNode}
use Rattle.vx_history.specs.Steps.{crashed}
use Rattle.vx_history.specs.World.{Node}
use Rattle.vx_model.specs.States.{first_state}
use Rattle.vx_model.specs.declared.errors.Stop.{Stop}
use Rattle.vx_model.specs.declared.errors.Stop.TheVariants.{No as Refused, OutOfMemory}
use Rattle.vx_model.specs.declared.no.No.{No}
use Rattle.vx_model.specs.declared.no.No.TheVariants.{Device, Down as IsOff, Limit, Role as OtherRole}
use Rattle.vx_model.specs.declared.site.SiteState.TheVariants.{Up as IsUp}
use Rattle.vx_model.specs.declared.units.Units.{Units}
use Rattle.vx_rvg.specs.Views.{Core}
use Rattle.vx_untold.specs.Shades.{rack_of, shade_meaning}
use Rattle.vx_untold.specs.declared.shade.Shade.{Shade}
use Rattle.vx_diskset.specs.Aboves.{AboveStays, above_in, site_in}
use Rattle.vx_diskset.specs.GroupSets.{cut_value}
use Rattle.vx_diskset.specs.MakeSteps.{MadeOn, RefusedOn}
use Rattle.vx_diskset.specs.GroupCalls.{config_in}
use Rattle.vx_diskset.specs.Makings.{IsFirstSite, MadeOver, MakesNone, MakesRvgIs, PlainNoted, StaysNone, note_begun}
use Rattle.vx_diskset.specs.Noted.{AgreesStill, NotedOn, SiteNoted}
use Rattle.vx_diskset.specs.OverKeeps.{StaysAbove}
use Rattle.vx_diskset.specs.declared.above.Above.TheVariants.{Origin}
use Rattle.vx_diskset.specs.declared.disk_set.DiskSet.{DiskSet}
use Rattle.vx_diskset.specs.declared.disk_set.DiskSet.TheVariants.{OfGroup, Over}
use Rattle.vx_diskset.specs.declared.group_set.CutWrite.{CutWrite}
use Rattle.vx_diskset.specs.declared.group_set.GroupSet.{GroupSet}
use Rattle.vx_diskset.specs.declared.over_set.OverSet.{OverSet}
use Rattle.vx_diskset.proofs.MadeOver.{made_over}
use Rattle.vx_diskset.proofs.MakeEnds.{refused_made}

-- ---- of a group that is the same by its parts

module _ {R : Type 0} {g : Ghosts R} (o o' : GroupSite R g) (config : site_config o' ≡ site_config o) (carry : (P : Meaning → Type 0) → P (site_disks o') → P (site_disks o)) where
  goes_as : (Ch Ch' : Config → Config → Type 0) → ((x y : Config) → Ch x y → Ch' x y) → (note next : GroupNode) (e : GroupSite R g) → ConfigGoes Ch note next o' e → ConfigGoes Ch' note next o e
  goes_as Ch Ch' by note next e it = record {
    was = it.was;
    now = it.now;
    had = sym config ∙ it.had;
    has = it.has;
    noted = it.noted;
    noted_now = it.noted_now;
    change = by it.was it.now it.change;
  }

  none_as : (Still Still' : GroupNode → GroupNode → Type 0) → ((b m : GroupNode) → Still b m → Still' b m) → (n : Node) (note : GroupNode) (u : Units) (below : GroupSite R g) → MakesNone Still n note u o' below → MakesNone Still' n note u o below
  none_as Still Still' by n note u below (middle, next, narrows, works, goes, maps, still) = (
    middle,
    next,
    narrows,
    works,
    goes_as (LosesSome (site_disks o') (site_disks below)) (LosesSome (site_disks o) (site_disks below)) (λ x y it. carry (λ m. LosesSome m (site_disks below) x y) it) middle next below goes,
    maps,
    by (note_begun u middle) next still,
  )

  stays_as : (n : Node) (below : GroupSite R g) (new : DiskSet R g) (begun next : GroupNode) → StaysNone n o' below new begun next → StaysNone n o below new begun next
  stays_as n below new begun next (agrees, noted) = (carry (λ m. AgreesStill begun next m (site_disks below)) agrees, noted)

  up_as : (n : Node) (note : GroupNode) (u : Units) (new : DiskSet R g) (below : GroupSite R g) → MakesNone (StaysNone n o' below new) n note u o' below → MakesNone (StaysNone n o below new) n note u o below
  up_as n note u new below it = none_as (StaysNone n o' below new) (StaysNone n o below new) (λ begun next still. stays_as n below new begun next still) n note u below it

  refused_as : (site : ℕ) (n : Node) (note : GroupNode) (u : Units) (c : Config) (new : DiskSet R g) (below : GroupSite R g) (why : No) → MakesRvgIs site n note u c o' new below (Err (Refused why)) → MakesRvgIs site n note u c o new below (Err (Refused why))
  refused_as site n note u c new below (Device disk) it = (up_as n note u new below it.0, carry (λ m. Rose (m.disk_faults disk) ((site_disks below).disk_faults disk)) it.1)
  refused_as site n note u c new below IsOff it = (
    none_as (λ begun next. PlainNoted (crashed (with_note next n) 0) next new) (λ begun next. PlainNoted (crashed (with_note next n) 0) next new) (λ begun next still. still) n note u below it.0,
    it.1,
  )
  refused_as site n note u c new below (Limit what most) it = (it.0, it.1, up_as n note u new below it.2)
  refused_as site n note u c new below other it = absurd it

  pub as_old : (site : ℕ) (n : Node) (note : GroupNode) (u : Units) (c : Config) (new : DiskSet R g) (below : GroupSite R g) (r : Result (Unit {0}) Stop) → MakesRvgIs site n note u c o' new below r → MakesRvgIs site n note u c o new below r
  as_old site n note u c new below (Ok done) (middle, settled, narrows, one, works, goes, agrees, stands, noted) = (
    middle,
    settled,
    narrows,
    one,
    works,
    goes_as (λ x y. LosesSome (site_disks o') (site_disks below) (as_replicated u x) y) (λ x y. LosesSome (site_disks o) (site_disks below) (as_replicated u x) y)
        (λ x y it. carry (λ m. LosesSome m (site_disks below) (as_replicated u x) y) it) middle settled below goes,
    carry (λ m. AgreesStill middle settled m (site_disks below)) agrees,
    stands,
    noted,
  )
  as_old site n note u c new below (Err (Refused why)) it = refused_as site n note u c new below why it
  as_old site n note u c new below (Err OutOfMemory) it = up_as n note u new below it

-- ---- of a site that is up

module _ {R : Type 0} {g : Ghosts R} (rackful : (s : R) → IsRack (g.meaning s)) (lawful : (s : R) → Lawful (g.meaning s)) (site : ℕ) (n : Node) (note : GroupNode) (u : Units) (group : GroupSet R g) (laid l : Laid R g) (is : group.site ≡ Up laid)
    (core : l.core ≡ laid.core) (shelf : l.shelf ≡ laid.shelf) (c : Config) (noted : SiteNoted n note (OfGroup group)) (has : config_in (OfGroup group) ≡ Some c) where
  there : laid.core.inner.config ≡ c
  there = same_Some laid.core.inner.config c (subst (λ (s : GroupSite R g). site_config s ≡ Some c) is has)

  here : l.core.inner.config ≡ c
  here = ap (λ (k : GroupCore). k.inner.config) core ∙ there

  config : site_config (Up l) ≡ site_config group.site
  config = ap (λ (x : Config). Some x) here ∙ sym has

  carry : (P : Meaning → Type 0) → P (site_disks (Up l)) → P (site_disks group.site)
  carry P it = subst (λ (s : GroupSite R g). P (site_disks s)) (sym is) (subst (λ (x : Shade R). P (shade_meaning g.meaning x)) shelf it)

  up : GroupUp n note (laid_below l).tells l.core (laid_disks l)
  up = subst (λ (k : GroupCore). GroupUp n note (laid_below l).tells k (laid_disks l)) (sym core)
      (subst (λ (x : Shade R). GroupUp n note (g.meaning (rack_of x)).tells laid.core (shade_meaning g.meaning x)) (sym shelf) (subst (λ (s : GroupSite R g). NotedOn n note s) is noted.0))

  pub may_here : is_group c.volumes u ≡ true → is_group l.core.inner.config.volumes u ≡ true
  may_here may = ap (λ (x : Config). is_group x.volumes u) here ∙ may

  pub make_refused : (e : GroupSite R g) (stop : Stop) → RefusedOn u l e stop → MakesRvgIs site n note u c group.site (OfGroup (record { site = e; cut = group.cut })) e (Err stop)
  make_refused e stop it = as_old group.site (Up l) config carry site n note u c (OfGroup (record { site = e; cut = group.cut })) e (Err stop) (refused_made rackful n note u l up group.cut noted.1 site c e stop it)

  pub make_done : IsFirstSite site n → is_group c.volumes u ≡ true → (below : GroupSite R g) (k : Core) → MadeOn u (first_state site) l below k → AboveStays (Origin k) below → (o : OverSet R g) → site_in o ≡ below → StaysAbove (Origin k) below (above_in o) → o.cut ≡ group.cut
      → MakesRvgIs site n note u c group.site (Over o) (site_in o) (Ok tt)
  make_done first may below k made sound o same above cut = as_old group.site (Up l) config carry site n note u c (Over o) (site_in o) (Ok tt)
      (subst (λ (x : Config). MakesRvgIs site n note u x (Up l) (Over o) (site_in o) (Ok tt)) here
      (made_over rackful lawful site n note u l up first (may_here may) below k made (subst (λ (s : GroupSite R g). AboveStays (Origin k) s) made.is sound) o (same ∙ made.is)
      (subst (λ (s : GroupSite R g). StaysAbove (Origin k) s (above_in o)) made.is above) (ap (λ (x : Option CutWrite). cut_value x) cut ∙ noted.1)))

-- a site that has a configuration is up
pub never_up : {R : Type 0} {g : Ghosts R} {A : Type 0} (s : GroupSite R g) (c : Config) → ((laid : Laid R g) → s ≡ Up laid → ⊥) → site_config s ≡ Some c → A
never_up (Up laid) c off is = absurd (off laid refl)
never_up (Deported idle) c off is = absurd (let clash : None ≡ Some c = is in cc)
never_up (Down idle) c off is = absurd (let clash : None ≡ Some c = is in cc)
never_up (Marked rack) c off is = absurd (let clash : None ≡ Some c = is in cc)
never_up Gone c off is = absurd (let clash : None ≡ Some c = is in cc)

-- ---- of any site

module _ {R : Type 0} {g : Ghosts R} (site : ℕ) where
  -- what it makes of these disks
  abbrev pub MadeOf : Units → DiskSet R g → DiskSet R g → Result (Unit {0}) Stop → Type 0
  MadeOf u old new r = (n : Node) (note : GroupNode) (c : Config) → SiteNoted n note old → n.state ≡ IsUp → IsFirstSite site n → config_in old ≡ Some c → c.rvg ≡ None → is_group c.volumes u ≡ true → MadeOver site n note u c old new r

  pub made_of : (u : Units) (old : DiskSet R g) (group : GroupSet R g) → old ≡ OfGroup group → (new : DiskSet R g) (r : Result (Unit {0}) Stop) → MadeOf u (OfGroup group) new r → MadeOf u old new r
  made_of u old group is new r it = subst (λ (e : DiskSet R g). MadeOf u e new r) (sym is) it

  pub made_else : (n : Node) (note : GroupNode) (u : Units) (c : Config) (old : DiskSet R g) → ((group : GroupSet R g) → old ≡ OfGroup group → ⊥) → MadeOver site n note u c old old (Err (Refused OtherRole))
  made_else n note u c (OfGroup group) off = absurd (off group refl)
  made_else n note u c (Over s) off = (refl, refl)
  made_else n note u c other off = (refl, refl)
