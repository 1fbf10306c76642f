-- What a recovery of a site that is down leads a yard to, where its group comes up.
use Rattle.std.proofs.Common.{◌≡◌, ◌∙◌, ◌⊎◌, ⊎_elim, ◌/◌, ◌<◌, ℕ, zero, suc, false, List, [], ◌∷◌, ◌++◌, length, ap, sym, subst, refl, arith, IsTrue}
use Rattle.std.specs.Prelude.{Option, Some, None, slice_get}
use Rattle.vx_model.specs.Content.{Write}
use Rattle.vx_model.specs.declared.site.SiteState.{SiteState}
use Rattle.vx_model.specs.declared.site.SiteState.TheVariants.{Up as IsUp, Down as IsDown}
use Rattle.vx_disk.specs.Shelf.{Meaning}
use Rattle.vx_disk.specs.declared.shelf.Shelf.{Ghosts}
use Rattle.vx_config.specs.Checks.{blocks_of}
use Rattle.vx_config.specs.declared.config.Config.{Config}
use Rattle.vx_config.specs.declared.entry.VolumeEntry.{VolumeEntry}
use Rattle.vx_kept.specs.Cleans.{at_serial}
use Rattle.vx_history.specs.Doubts.{Doubted, happened}
use Rattle.vx_history.specs.Groups.{GroupNode}
use Rattle.vx_history.specs.Steps.{burned, group_up, worked}
use Rattle.vx_history.specs.World.{Fuse as FuseOf, Node, NoFuse}
use Rattle.vx_history.specs.declared.event.Event.TheVariants.{Crash as CrashAt, Group as GroupAt}
use Rattle.vx_report.specs.declared.view.Kept.{Kept}
use Rattle.vx_grouped.proofs.ReadyLemmas.{imported_same}
use Rattle.vx_grouped.specs.Ends.{plain_write}
use Rattle.vx_grouped.specs.GroupSites.{DownNoted, FitsPlain, UpNoted, site_below, site_config}
use Rattle.vx_grouped.specs.SiteReturns.{as_imported, returned_with}
use Rattle.vx_grouped.specs.declared.group_site.GroupSite.{GroupSite}
use Rattle.vx_grouped.specs.declared.group_site.GroupSite.TheVariants.{Up as SiteUp, Deported as SiteAway, Down as SiteDown, Marked, Gone as SiteGone}
use Rattle.vx_diskset.specs.GroupSets.{cut_value}
use Rattle.vx_diskset.specs.Recovers.{CutFits, KeptIs}
use Rattle.vx_diskset.specs.Stands.{IsRackTold}
use Rattle.vx_diskset.specs.declared.disk_set.DiskSet.{DiskSet}
use Rattle.vx_diskset.specs.declared.disk_set.DiskSet.TheVariants.{OfGroup}
use Rattle.vx_diskset.specs.declared.group_set.CutWrite.{CutWrite}
use Rattle.vx_diskset.specs.declared.group_set.GroupSet.{GroupSet}
use Rattle.vx_diskset.specs.declared.group_set.KeptWrite.{KeptWrite}
use Rattle.vx_events.proofs.Places.{some_same}
use Rattle.vx_events.specs.Doubts.{run_as}
use Rattle.vx_events.specs.GroupLines.{crash_first, group_recovery, unread_events}
use Rattle.vx_events.specs.GroupNotes.{IsKnown}
use Rattle.vx_events.specs.GroupReplies.{ShowsKept}
use Rattle.vx_events.specs.GroupViews.{config_of, volumes_of}
use Rattle.vx_yard.specs.Yards.{IsTold}
use Rattle.vx_yard.specs.declared.yard.Yard.{Yard}
use Rattle.vx_group_lines.specs.Rises.{ComesDown, kept_of_volume, kept_shown}
use Rattle.vx_group_lines.proofs.GroupAt.{no_value}
use Rattle.vx_above.proofs.GroupStatus.{config_is}
use Rattle.vx_group_lines.proofs.Returning.{SitsOn}

-- ---- the events

module _ (d e : Doubted) (s : ℕ) (comes : ComesDown d e s) where
  -- the group comes up in the world that the crash left
  pub up_as : run_as false d (group_recovery (d.world.nodes s).state s) ≡ happened e (GroupAt s) false
  up_as = ⊎_elim
      (λ (down : ((d.world.nodes s).state ≡ IsDown) × (e ≡ d)).
      ap (λ (t : SiteState). run_as false d (group_recovery t s)) down.0 ∙ ap (λ (x : Doubted). happened x (GroupAt s) false) (sym down.1))
      (λ (up : ((d.world.nodes s).state ≡ IsUp) × (e ≡ happened d (CrashAt s 0) false)).
      ap (λ (t : SiteState). run_as false d (group_recovery t s)) up.0 ∙ ap (λ (x : Doubted). happened x (GroupAt s) false) (sym up.1))
      comes.how

  -- a recovery that came up and went down again
  pub unread_as : run_as false d (unread_events (d.world.nodes s) s) ≡ happened (happened e (GroupAt s) false) (CrashAt s 0) false
  unread_as = ⊎_elim
      (λ (down : ((d.world.nodes s).state ≡ IsDown) × (e ≡ d)).
      ap (λ (t : SiteState). run_as false d (group_recovery t s ++ CrashAt s 0 ∷ [])) down.0
      ∙ ap (λ (x : Doubted). happened (happened x (GroupAt s) false) (CrashAt s 0) false) (sym down.1))
      (λ (up : ((d.world.nodes s).state ≡ IsUp) × (e ≡ happened d (CrashAt s 0) false)).
      ap (λ (t : SiteState). run_as false d (group_recovery t s ++ CrashAt s 0 ∷ [])) up.0
      ∙ ap (λ (x : Doubted). happened (happened x (GroupAt s) false) (CrashAt s 0) false) (sym up.1))
      comes.how

  -- and one that did not
  pub refused_as : run_as false d (crash_first (d.world.nodes s).state s) ≡ e
  refused_as = ⊎_elim
      (λ (down : ((d.world.nodes s).state ≡ IsDown) × (e ≡ d)). ap (λ (t : SiteState). run_as false d (crash_first t s)) down.0 ∙ sym down.1)
      (λ (up : ((d.world.nodes s).state ≡ IsUp) × (e ≡ happened d (CrashAt s 0) false)). ap (λ (t : SiteState). run_as false d (crash_first t s)) up.0 ∙ sym up.1)
      comes.how

-- ---- the write that was cut

-- the write that was cut lies in its volume
abbrev fits_write : GroupNode → Option Write → Type 0
fits_write note None = Unit {0}
fits_write note (Some w) = FitsPlain note w.volume w.start (length w.bytes)

fits_all : (note : GroupNode) (o : Option CutWrite) → ((x : CutWrite) → o ≡ Some x → FitsPlain note x.volume x.block (length x.bytes)) → fits_write note (cut_value o)
fits_all note None fits = tt
fits_all note (Some x) fits = fits x refl

fits_each : (note : GroupNode) (o : Option CutWrite) → fits_write note (cut_value o) → (x : CutWrite) → o ≡ Some x → FitsPlain note x.volume x.block (length x.bytes)
fits_each note None it x is = absurd (cc)
fits_each note (Some y) it x is = subst (λ (z : CutWrite). FitsPlain note z.volume z.block (length z.bytes)) (some_same is) it

cut_fits : (note : GroupNode) (o : Option CutWrite) → CutFits note o → fits_write note (cut_value o)
cut_fits note None it = tt
cut_fits note (Some x) it = it

-- two of the same value
pub fits_as : (note : GroupNode) (o k : Option CutWrite) → cut_value k ≡ cut_value o → ((x : CutWrite) → o ≡ Some x → FitsPlain note x.volume x.block (length x.bytes))
    → (x : CutWrite) → k ≡ Some x → FitsPlain note x.volume x.block (length x.bytes)
fits_as note o k same fits x is = fits_each note k (subst (λ (w : Option Write). fits_write note w) (sym same) (fits_all note o fits)) x is

-- a write that fits was cut
pub cut_some : (note : GroupNode) (o : Option CutWrite) → CutFits note o → cut_value o ≡ None → ⊥
cut_some note None fits none = fits
cut_some note (Some x) fits none = let no_one : Some x ≡ None = no_value (Some x) none in cc

pub fits_by : (note : GroupNode) (o k : Option CutWrite) → cut_value k ≡ cut_value o → CutFits note o → (x : CutWrite) → k ≡ Some x → FitsPlain note x.volume x.block (length x.bytes)
fits_by note o k same fits x is = fits_each note k (subst (λ (w : Option Write). fits_write note w) (sym same) (cut_fits note o fits)) x is

-- a place with blocks is that of a volume
some_entry : (vs : List VolumeEntry) (v : ℕ) → 0 < blocks_of vs v → (entry : VolumeEntry) × (slice_get vs v ≡ Some entry)
some_entry [] v low = absurd (omega (arith, low))
some_entry (x ∷ vs) zero low = (x, refl)
some_entry (x ∷ vs) (suc v) low = some_entry vs v low

-- what is shown of it
module _ (told : Type 0) (next : GroupNode) (m : Meaning) (c : Config) (tells : IsKnown told next → IsTrue m.tells) (is_config : config_of next.config ≡ Some (at_serial 0 c)) (sizes : (v : ℕ) → next.bytes.size v ≡ blocks_of c.volumes v) where
  shows_one : (x : CutWrite) (k : KeptWrite) → FitsPlain next x.volume x.block (length x.bytes) → KeptIs next m (Some x) (Some k) → ShowsKept told (Some (plain_write x.volume x.block x.bytes)) next (kept_shown c.volumes (Some k))
  shows_one x k fits is =
      let some : 0 < blocks_of c.volumes x.volume = omega (arith, fits.some, fits.within, fits.whole, sizes x.volume) in
      let entry = some_entry c.volumes x.volume some in
      let write : k.write ≡ x = is.0 in
      let view : Kept = record { volume = entry.0.name; block = k.write.block; count = length k.write.bytes / 512; bits = k.bits } in
      let found : slice_get c.volumes k.write.volume ≡ Some entry.0 = ap (λ (y : CutWrite). slice_get c.volumes y.volume) write ∙ entry.1 in (
        view,
        ap (λ (o : Option VolumeEntry). kept_of_volume o k) found,
        record {
          volume = entry.0;
          is_volume = ap (λ (o : Option Config). slice_get (volumes_of o) x.volume) is_config ∙ entry.1;
          name = refl;
          block = ap (λ (y : CutWrite). y.block) write;
          many = ap (λ (y : CutWrite). length y.bytes / 512) write;
          each = λ yes_ i low. is.1.each (tells yes_) i (omega (arith, low));
        },
      )

  pub shows_cut : (o : Option CutWrite) (kept : Option KeptWrite) → ((x : CutWrite) → o ≡ Some x → FitsPlain next x.volume x.block (length x.bytes)) → KeptIs next m o kept
      → ShowsKept told (cut_value o) next (kept_shown c.volumes kept)
  shows_cut None kept fits is = ap (λ (k : Option KeptWrite). kept_shown c.volumes k) is
  shows_cut (Some x) None fits is = absurd (is (fits x refl))
  shows_cut (Some x) (Some k) fits is = shows_one x k (fits x refl) is

-- ---- the node

-- the fuse of a site that is down
still_none : (f : FuseOf) → f ≡ NoFuse → burned (burned f) ≡ f
still_none f is = ap (λ (x : FuseOf). burned (burned x)) is ∙ sym is

abbrev pub risen_node : GroupNode → Node → Node
risen_node next n = record (group_up n) { group = Some next }

pub risen_is : (n : Node) (next : GroupNode) → n.fuse ≡ NoFuse → worked (returned_with next n) ≡ risen_node next n
risen_is n next none = ap (λ (x : FuseOf). let k : Node = record (risen_node next n) { fuse = x } in k) (still_none n.fuse none)

pub some_config : (c d : Config) → Some (at_serial 0 c) ≡ Some (at_serial 0 d) → c.volumes ≡ d.volumes
some_config c d is = ap (λ (x : Config). x.volumes) (some_same is)

module _ {R : Type 0} {g : Ghosts R} where
  -- the configuration of a group that is up
  pub record HasUp (n : Node) (note : GroupNode) (e : GroupSite R g) : Type 0 where
    pub config : Config
    pub has : site_config e ≡ Some config
    pub reads : config_of note.config ≡ Some (at_serial 0 config)

  pub has_up : (n : Node) (note : GroupNode) (e : GroupSite R g) → UpNoted n note e → HasUp n note e
  has_up n note (SiteUp laid) it = record { config = laid.core.inner.config; has = refl; reads = config_is note.config laid.core.inner.config it.at.lies.config it.spells }
  has_up n note (SiteAway idle) it = absurd it
  has_up n note (SiteDown idle) it = absurd it
  has_up n note (Marked rack) it = absurd it
  has_up n note SiteGone it = absurd it

  pub unfused_down : (n : Node) (note : GroupNode) (e : GroupSite R g) → DownNoted n note e → n.fuse ≡ NoFuse
  unfused_down n note (SiteUp laid) it = absurd it
  unfused_down n note (SiteAway idle) it = absurd it
  unfused_down n note (SiteDown idle) it = it.unfused
  unfused_down n note (Marked rack) it = absurd it
  unfused_down n note SiteGone it = absurd it

  pub sits_down : (n : Node) (note : GroupNode) (e : GroupSite R g) → DownNoted n note e → SitsOn n (as_imported e)
  sits_down n note (SiteUp laid) it = absurd it
  sits_down n note (SiteAway idle) it = absurd it
  sits_down n note (SiteDown idle) it =
      let same = imported_same {R = R} {g = g} (SiteDown idle) in
      record { units = same.units ∙ it.away.lies.units; size = λ u low. same.size u ∙ it.away.lies.size u low }
  sits_down n note (Marked rack) it = absurd it
  sits_down n note SiteGone it = absurd it

  pub told_of : (y : Yard R g) (s : ℕ) (e : DiskSet R g) (set : GroupSet R g) → slice_get y.disk_sets.items s ≡ Some e → e ≡ OfGroup set → IsTold y → IsTrue (site_below set.site).tells
  told_of y s e set there is told = subst (λ (x : DiskSet R g). IsRackTold x) is (told.each s e there)
