-- Calls on a site's group that write to no volume, by its note.
use Rattle.std.proofs.Common.{◌≡◌, Bool, ℕ, true, false, [], IsTrue, refl, sym, ◌∙◌, ap, subst}
use Rattle.std.specs.Prelude.{Option, Some, None, Result, Ok, Err}
use Rattle.vx_model.specs.declared.errors.Stop.{Stop}
use Rattle.vx_model.specs.declared.errors.Stop.TheVariants.{No as Refused, OutOfMemory}
use Rattle.vx_model.specs.declared.no.No.{No}
use Rattle.vx_model.specs.declared.no.No.TheVariants.{Device, Down as IsOff}
use Rattle.vx_model.specs.declared.site.SiteState.TheVariants.{Down as IsDown}
use Rattle.vx_disk.specs.Counts.{Rose}
use Rattle.vx_disk.specs.Racks.{Stopped}
use Rattle.vx_disk.specs.Shelf.{Meaning}
use Rattle.vx_disk.specs.declared.shelf.Shelf.{Ghosts}
use Rattle.vx_history.specs.Groups.{GroupNode}
use Rattle.vx_history.specs.World.{Node}
use Rattle.vx_group.specs.Dets.{DetStops}
use Rattle.vx_watched.specs.Since.{CalledSince}
use Rattle.vx_config.specs.declared.config.Config.{Config}
use Rattle.vx_grouped.specs.Away.{IsAwayAt}
use Rattle.vx_grouped.specs.Ends.{CallLeaves}
use Rattle.vx_grouped.specs.GroupNotes.{GroupLies, note_called, noted_config}
use Rattle.vx_grouped.specs.GroupSites.{GroupUp, idle_disks, laid_disks, IsLit, laid_below, idle_below}
use Rattle.vx_grouped.specs.SiteEnds.{SiteCalled, stops_down, ConfigGoes, HasNow}
use Rattle.vx_grouped.specs.declared.idle.Idle.{Idle}
use Rattle.vx_grouped.specs.declared.laid.Laid.{Laid}
use Rattle.vx_grouped.specs.declared.group_site.GroupSite.{GroupSite}
use Rattle.vx_grouped.specs.declared.group_site.GroupSite.TheVariants.{Up, Down}
use Rattle.vx_grouped.proofs.SettleLemmas.{called_settles, called_unsettles, fell_fused, fuse_burned}
use Rattle.vx_grouped.proofs.SiteLemmas.{down_with, up_burned, up_with}
use Rattle.vx_disk.specs.Causes.{DeviceCause}
use Rattle.vx_config.specs.Configs.{HasSpelling}
use Rattle.vx_kept.specs.Cleans.{at_serial}
use Rattle.vx_watched.specs.Traces.{TellsLess}
use Rattle.vx_grouped.proofs.TraceLemmas.{lit_since}

pub err_is : {T : Type 0} (x : Result T Stop) (a b : Stop) → x ≡ Err a → x ≡ Err b → a ≡ b
err_is (Ok y) a b one two = cc
err_is (Err s) a b one two = let p : s ≡ a = cc in let q : s ≡ b = cc in sym p ∙ q

-- a refusal of a device is no test's
pub rose_by : (T : Type 0) (m m' : Meaning) (o : Option No) (disk : ℕ) (r : Result T Stop) → r ≡ Err (Refused (Device disk)) → (o ≡ None → DetStops m m' r) → ((which : No) → o ≡ Some which → r ≡ Err (Refused which)) → (o ≡ Some (Device disk) → ⊥)
    → Rose (m.disk_faults disk) (m'.disk_faults disk)
rose_by T m m' None disk r is stops refused never = by_stop r is (stops refl)
  where
    by_stop : (x : Result T Stop) → x ≡ Err (Refused (Device disk)) → DetStops m m' x → Rose (m.disk_faults disk) (m'.disk_faults disk)
    by_stop x same it = subst (λ (y : Result T Stop). DetStops m m' y) same it
rose_by T m m' (Some why) disk r is stops refused never =
    let same : Refused why ≡ Refused (Device disk) = err_is r (Refused why) (Refused (Device disk)) (refused why refl) is in
    let one : why ≡ Device disk = cc in
    absurd (never (ap (λ (x : No). Some x) one))

-- where it says that they are down they are
pub down_by_stop : (T : Type 0) (m m' : Meaning) (o : Option No) (stop : Stop) (r : Result T Stop) → r ≡ Err stop → stops_down stop ≡ true → (o ≡ None → DetStops m m' r) → ((which : No) → o ≡ Some which → r ≡ Err (Refused which)) → (o ≡ Some IsOff → ⊥) → IsTrue m'.down
down_by_stop T m m' None stop r is off stops refused never = by_stop stop off (subst (λ (y : Result T Stop). DetStops m m' y) is (stops refl))
  where
    by_stop : (x : Stop) → stops_down x ≡ true → DetStops {T = T} m m' (Err x) → IsTrue m'.down
    by_stop (Refused (Device disk)) on it = cc
    by_stop (Refused IsOff) on it = it
    by_stop (Refused other) on it = cc
    by_stop OutOfMemory on it = cc
down_by_stop T m m' (Some why) stop r is off stops refused never =
    let one : stop ≡ Refused why = err_is r stop (Refused why) is (refused why refl) in
    absurd (never (ap (λ (x : No). Some x) (only why (subst (λ (x : Stop). stops_down x ≡ true) one off))))
  where
    only : (x : No) → stops_down (Refused x) ≡ true → x ≡ IsOff
    only (Device disk) on = cc
    only IsOff on = refl
    only other on = cc

-- whether a refusal blames a device
abbrev pub blames_device : No → Bool
blames_device (Device disk) = true
blames_device IsOff = true
blames_device other = false

pub none_else : (m m' : Meaning) (which : No) → blames_device which ≡ false → DeviceCause m m' which → ⊥
none_else m m' (Device disk) is cause = let clash : true ≡ false = is in cc
none_else m m' IsOff is cause = let clash : true ≡ false = is in cc
none_else m m' other is cause = cause

-- another refusal is that of the tests
pub lacks_by : (T : Type 0) (m m' : Meaning) (o : Option No) (stop : Stop) (r : Result T Stop) → r ≡ Err stop → (o ≡ None → DetStops m m' r) → ((which : No) → o ≡ Some which → r ≡ Err (Refused which)) → (which : No) → stop ≡ Refused which → blames_device which ≡ false → o ≡ Some which
lacks_by T m m' None stop r is stops refused which same other =
    absurd (none_else m m' which other (subst (λ (x : Result T Stop). DetStops m m' x) (is ∙ ap (λ (x : Stop). Err x) same) (stops refl)))
lacks_by T m m' (Some why) stop r is stops refused which same other =
    let one : stop ≡ Refused why = err_is r stop (Refused why) is (refused why refl) in
    let two : Refused why ≡ Refused which = sym one ∙ same in
    let three : why ≡ which = cc in
    ap (λ (x : No). Some x) three

-- where it blames a device no test refused it, as tests of names and counts blame none
pub none_refused : (T : Type 0) (o : Option No) (stop : Stop) (r : Result T Stop) → r ≡ Err stop → ((which : No) → o ≡ Some which → r ≡ Err (Refused which)) → (o ≡ Some IsOff → ⊥) → ((disk : ℕ) → o ≡ Some (Device disk) → ⊥) → (which : No) → stop ≡ Refused which → blames_device which ≡ true → o ≡ None
none_refused T None stop r is refused off device which same blames = refl
none_refused T (Some why) stop r is refused off device which same blames =
    let one : stop ≡ Refused why = err_is r stop (Refused why) is (refused why refl) in
    let two : Refused why ≡ Refused which = sym one ∙ same in
    let three : why ≡ which = cc in
    absurd (by why (λ here. off (ap (λ (x : No). Some x) here)) (λ disk here. device disk (ap (λ (x : No). Some x) here)) (subst (λ (x : No). blames_device x ≡ true) (sym three) blames))
  where
    by : (x : No) → (x ≡ IsOff → ⊥) → ((disk : ℕ) → x ≡ Device disk → ⊥) → blames_device x ≡ true → ⊥
    by (Device disk) never none is = none disk refl
    by IsOff never none is = never refl
    by other never none is = let clash : false ≡ true = is in cc

module _ {R : Type 0} {g : Ghosts R} (T : Type 0) (n : Node) (note : GroupNode) (group new : Laid R g) (up : GroupUp n note (laid_below group).tells group.core (laid_disks group)) (since : CalledSince (laid_disks group) (laid_disks new)) (less : TellsLess (laid_below group) (laid_below new)) (spells : HasSpelling (at_serial 0 new.core.inner.config)) where
  -- the configuration that is noted behind the call
  pub goes : (Change : Config → Config → Type 0) (next : GroupNode) → next.config ≡ noted_config new.core.inner.config → (e : GroupSite R g) → HasNow new.core.inner.config e → Change group.core.inner.config new.core.inner.config → ConfigGoes Change note next (Up group) e
  goes Change next is e has change = record {
    was = group.core.inner.config;
    now = new.core.inner.config;
    had = refl;
    has = has;
    noted = record { is = up.at.lies.config; spells = up.spells };
    noted_now = record { is = is; spells = spells };
    change = change;
  }

  lit : (next : GroupNode) → next.dark ≡ note.dark → IsLit next (laid_below new).tells (laid_disks new)
  lit next dark = lit_since note next (laid_below group).tells (laid_below new).tells (laid_disks group) (laid_disks new) dark since.tells less up.lit

  module _ (twice : Bool) (Done Fails Cuts : Config → Config → Type 0) (Lacks : No → Type 0) where
    -- it is done
    pub called_done : (done : T) → CallLeaves n note new.core (laid_disks new) (Ok done) → Done group.core.inner.config new.core.inner.config
        → SiteCalled twice Done Fails Cuts Lacks n note (Up group) (Up new) (Ok done)
    called_done done leaves change = (
      note_called leaves.0 new.core note,
      called_settles leaves.0 new.core note leaves.2,
      up_with n note (note_called leaves.0 new.core note) (laid_below new).tells new.core (laid_disks new) up.noted (lit (note_called leaves.0 new.core note) refl) spells (fuse_burned n.fuse (laid_disks group) (laid_disks new) since.unarmed up.fuse) leaves.1,
      goes Done (note_called leaves.0 new.core note) refl (Up new) refl change,
    )

    -- it was refused, over disks that are up
    pub called_up : (stop : Stop) → stops_down stop ≡ false → CallLeaves {T = T} n note new.core (laid_disks new) (Err stop) → (twice ≡ false → note.loose ≡ false → note.begun ≡ [] → new.core.inner.agreed ≡ true)
        → ((disk : ℕ) → stop ≡ Refused (Device disk) → Rose ((laid_disks group).disk_faults disk) ((laid_disks new).disk_faults disk))
        → ((which : No) → stop ≡ Refused which → blames_device which ≡ true → Fails group.core.inner.config new.core.inner.config) → ((which : No) → stop ≡ Refused which → blames_device which ≡ false → Lacks which)
        → SiteCalled {T = T} twice Done Fails Cuts Lacks n note (Up group) (Up new) (Err stop)
    called_up (Refused (Device disk)) off leaves agrees rose fails lacks = (
      note_called leaves.0 new.core note,
      called_unsettles twice leaves.0 new.core note agrees,
      up_with n note (note_called leaves.0 new.core note) (laid_below new).tells new.core (laid_disks new) up.noted (lit (note_called leaves.0 new.core note) refl) spells (fuse_burned n.fuse (laid_disks group) (laid_disks new) since.unarmed up.fuse) leaves.1,
      rose disk refl,
      goes Fails (note_called leaves.0 new.core note) refl (Up new) refl (fails (Device disk) refl refl),
    )
    called_up (Refused IsOff) off leaves agrees rose fails lacks = cc
    called_up (Refused other) off leaves agrees rose fails lacks =
        (up_burned n note (laid_below new).tells new.core (laid_disks new) up.noted (lit note refl) spells (fuse_burned n.fuse (laid_disks group) (laid_disks new) since.unarmed up.fuse) leaves, lacks other refl refl)
    called_up OutOfMemory off leaves agrees rose fails lacks = absurd leaves

    module _ (idle : Idle R g) (stopped : Stopped (laid_disks new) (idle_disks idle))
        (away : (k : Node) (next : GroupNode) → GroupLies k next new.core (laid_disks new) → IsAwayAt (record k { state = IsDown }) next new.core.inner.config (idle_disks idle))
        (same : idle.agreed ≡ new.core.inner.agreed) (fell : TellsLess (laid_below new) (idle_below idle)) where
      -- the fuse ran out in it
      pub called_cut : (stop : Stop) → stops_down stop ≡ true → CallLeaves {T = T} n note new.core (laid_disks new) (Err stop) → (twice ≡ false → note.loose ≡ false → note.begun ≡ [] → new.core.inner.agreed ≡ true) → ((which : No) → stop ≡ Refused which → blames_device which ≡ true → Cuts group.core.inner.config new.core.inner.config)
          → SiteCalled {T = T} twice Done Fails Cuts Lacks n note (Up group) (Down idle) (Err stop)
      called_cut (Refused (Device disk)) off leaves agrees fails = cc
      called_cut (Refused IsOff) off leaves agrees fails = (
        note_called leaves.0 new.core note,
        called_unsettles twice leaves.0 new.core note agrees,
        down_with n note (note_called leaves.0 new.core note) idle.agreed (idle_below idle).tells new.core.inner.config (idle_disks idle) up.noted
            (lit_since note (note_called leaves.0 new.core note) (laid_below new).tells (idle_below idle).tells (laid_disks new) (idle_disks idle) refl stopped.tells fell (lit note refl)) (λ tight. same ∙ leaves.1.lies.agreed tight) (record { down = stopped.down; unarmed = stopped.unarmed }) spells (away n (note_called leaves.0 new.core note) leaves.1.lies),
        fell_fused n.fuse (laid_disks group) (laid_disks new) up.fuse up.at.up since.safe leaves.1.down,
        goes Cuts (note_called leaves.0 new.core note) refl (Down idle) tt (fails IsOff refl refl),
      )
      called_cut (Refused other) off leaves agrees fails = cc
      called_cut OutOfMemory off leaves agrees fails = cc
