-- What is left of a start of a replicated volume group over a group that came up.
use Rattle.std.proofs.Common.{◌≡◌, ◌∙◌, Bool, false, inl, refl, subst, sym, true}
use Rattle.std.specs.Prelude.{Err, IsTrue, None, Ok, Option, Result, Some}
use Rattle.std.proofs.lemmas.Option.{none-some}
use Rattle.vx_disk.specs.declared.shelf.Shelf.{Ghosts}
use Rattle.vx_ground.specs.Accounts.{GroundSince, ground_state}
use Rattle.vx_ground.specs.Lifted.{laid_volumes}
use Rattle.vx_grouped.specs.GroupSites.{laid_below, laid_disks}
use Rattle.vx_grouped.specs.declared.group_site.GroupSite.{GroupSite}
use Rattle.vx_grouped.specs.declared.group_site.GroupSite.TheVariants.{Deported, Down, Gone, Marked, Up}
use Rattle.vx_grouped.specs.declared.idle.Idle.{Idle}
use Rattle.vx_grouped.specs.declared.laid.Laid.{Laid}
use Rattle.vx_logimport.specs.declared.rested.Rested.{Rested}
use Rattle.vx_model.specs.declared.errors.Stop.{Stop}
use Rattle.vx_model.specs.declared.errors.Stop.TheVariants.{No as Refused}
use Rattle.vx_model.specs.declared.no.No.{No}
use Rattle.vx_model.specs.declared.no.No.TheVariants.{Down as IsOff, Role as NoRole}
use Rattle.vx_model.specs.declared.units.Units.{Units}
use Rattle.vx_rvg.specs.Views.{Core}
use Rattle.vx_watched.specs.Since.{CalledSince}
use Rattle.vx_watched.specs.Traces.{TellsLess}
use Rattle.vx_diskset.specs.OverStarts.{BackAt, PlainBack, PlainStarts, PlainTried, PlainUnits, StartsIn, StartsOn, WithPlain, WithRvg, WithUnits}
use Rattle.vx_diskset.specs.Works.{DoesStart}
use Rattle.vx_diskset.specs.declared.disk_set.DiskSet.{DiskSet}
use Rattle.vx_diskset.specs.declared.disk_set.DiskSet.TheVariants.{Bare, Spoiled, Up as UpSet, Receives, Down as DownSet, OfGroup, Over, Gone as GoneSet}
use Rattle.vx_diskset.specs.declared.group_set.CutWrite.{CutWrite}
use Rattle.vx_diskset.specs.declared.group_set.GroupSet.{GroupSet}

module _ {R : Type 0} {g : Ghosts R} where
  -- by what was answered
  pub starts_as : (units : Units) (old new : Laid R g) (r q : Result Core No) → DoesStart units (laid_volumes old) (laid_volumes new) r → GroundSince (ground_state old.core) (laid_disks old) (ground_state new.core) (laid_disks new) → CalledSince (laid_disks old) (laid_disks new)
      → TellsLess (laid_below old) (laid_below new) → r ≡ q → StartsOn units old new q
  starts_as units old new r q does ground since told is = record { does = subst (λ (x : Result Core No). DoesStart units (laid_volumes old) (laid_volumes new) x) is does; ground = ground; since = since; told = told }

  -- ---- a site that had no replicated volume group

  pub plain_fails : (away : Bool) (rested : Option Rested) (units : Units) (old mid : Laid R g) (cut : Option CutWrite) (stop : Stop) (new : DiskSet R g) (r : Result (Unit {0}) Stop) → PlainTried units old mid stop → PlainBack away rested mid cut stop new r → PlainStarts away rested units old cut new r
  plain_fails away rested units old mid cut stop (Bare rack) r tried back = absurd back
  plain_fails away rested units old mid cut stop (Spoiled rack) r tried back = absurd back
  plain_fails away rested units old mid cut stop (UpSet rvg) r tried back = absurd back
  plain_fails away rested units old mid cut stop (Receives s) r tried back = absurd back
  plain_fails away rested units old mid cut stop (DownSet rack) r tried back = absurd back
  plain_fails away rested units old mid cut stop (OfGroup s) r tried back =
      subst (λ (x : Result (Unit {0}) Stop). PlainStarts away rested units old cut (OfGroup s) x) (sym back.2) (record { mid = mid; tried = tried; fell = back.0; cut_is = back.1 })
  plain_fails away rested units old mid cut stop (Over s) r tried back = absurd back
  plain_fails away rested units old mid cut stop GoneSet r tried back = absurd back

  -- ---- disks that crashed

  pub back_as : (away rests : Bool) (idle : Idle R g) (e new : GroupSite R g) → rests ≡ away → new ≡ e → BackAt rests idle e → BackAt away idle new
  back_as away rests idle e new same at it = subst (λ (x : GroupSite R g). BackAt away idle x) (sym at) (subst (λ (b : Bool). BackAt b idle e) same it)

  -- ---- a group without one

  pub units_none : (away : Bool) (o : Option Units) (laid : Laid R g) (cut : Option CutWrite) → o ≡ None → WithUnits away o laid cut (let s : GroupSet R g = record { site = Up laid; cut = None } in OfGroup s) (Ok tt)
  units_none away None laid cut is = (refl, refl)
  units_none away (Some units) laid cut is = absurd (none-some units (sym is))

  pub plain_units_none : (away : Bool) (rested : Option Rested) (o : Option Units) (laid : Laid R g) (cut : Option CutWrite) → o ≡ None → PlainUnits away rested o laid cut (let s : GroupSet R g = record { site = Up laid; cut = None } in OfGroup s) (Ok tt)
  plain_units_none away rested None laid cut is = (refl, refl)
  plain_units_none away rested (Some units) laid cut is = absurd (none-some units (sym is))

  -- ---- a site that did not come up

  pub with_none : (away : Bool) (e : GroupSite R g) (cut : Option CutWrite) → ((laid : Laid R g) → e ≡ Up laid → ⊥) → WithRvg away e cut (let s : GroupSet R g = record { site = e; cut = cut } in OfGroup s) (Err (Refused NoRole))
  with_none away (Up laid) cut never = absurd (never laid refl)
  with_none away (Deported idle) cut never = (refl, refl)
  with_none away (Down idle) cut never = (refl, refl)
  with_none away (Marked rack) cut never = (refl, refl)
  with_none away Gone cut never = (refl, refl)

  pub plain_none : (away : Bool) (rested : Option Rested) (e : GroupSite R g) (cut : Option CutWrite) → ((laid : Laid R g) → e ≡ Up laid → ⊥) → WithPlain away rested e cut (let s : GroupSet R g = record { site = e; cut = cut } in OfGroup s) (Err (Refused NoRole))
  plain_none away rested (Up laid) cut never = absurd (never laid refl)
  plain_none away rested (Deported idle) cut never = (refl, refl)
  plain_none away rested (Down idle) cut never = (refl, refl)
  plain_none away rested (Marked rack) cut never = (refl, refl)
  plain_none away rested Gone cut never = (refl, refl)

-- ---- a start that was refused, in which the fuse may have run out

module _ {R : Type 0} {g : Ghosts R} (units : Units) (old mid : Laid R g) (no why : No) (it : StartsOn units old mid (Err no)) (off : IsTrue (laid_disks mid).down → why ≡ IsOff) (up : (IsTrue (laid_disks mid).down → ⊥) → why ≡ no) where
  refused_by : (b : Bool) → (laid_disks mid).down ≡ b → StartsIn units old mid (Err (Refused why))
  refused_by true down =
      subst (λ (w : No). StartsIn units old mid (Err (Refused w))) (sym (off down)) (
        inl (record { does = (it.does.0, it.does.1, down, tt); ground = it.ground; since = it.since; told = it.told }),
        (λ w same on is. let clash : true ≡ false = on in cc),
      )
  refused_by false runs =
      let never : IsTrue (laid_disks mid).down → ⊥ = λ down. let clash : true ≡ false = sym down ∙ runs in cc in
      subst (λ (w : No). StartsIn units old mid (Err (Refused w))) (sym (up never)) (inl it, (λ w same on is. never is))

  pub start_refused : StartsIn units old mid (Err (Refused why))
  start_refused = refused_by (laid_disks mid).down refl
