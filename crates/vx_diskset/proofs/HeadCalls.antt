-- The calls of a header on the disks of a site: how many, and what they leave of the fuse.
use Rattle.std.proofs.Common.{◌≡◌, ◌∙◌, ℕ, ap, arith, sym, subst, refl, true, false}
use Rattle.std.specs.Prelude.{Option, None, Result, Ok, Err, OnOk, IsFalse}
use Rattle.vx_model.specs.declared.no.No.{No}
use Rattle.vx_model.specs.declared.no.No.TheVariants.{Down as IsDown}
use Rattle.vx_model.specs.declared.units.Units.{Units}
use Rattle.vx_disk.specs.Burns.{FallsShort, FewerLeft, MakesCalls}
use Rattle.vx_disk.specs.Causes.{WithDisks, Works}
use Rattle.vx_disk.specs.Disks.{Disks}
use Rattle.vx_disk.specs.Shelf.{Meaning}
use Rattle.vx_disk.specs.declared.shelf.Shelf.{Ghosts}
use Rattle.vx_disk.proofs.Burning.{no_calls}
use Rattle.vx_disk.specs.Spends.{Spends}
use Rattle.vx_rvg.specs.declared.group.Rvg.{Rvg}
use Rattle.vx_grouped.specs.GroupSites.{site_disks}
use Rattle.vx_grouped.specs.SiteEnds.{is_off}
use Rattle.vx_secondary.specs.declared.secondary.Secondary.{Secondary}
use Rattle.vx_events.specs.declared.said.Said.{Said}
use Rattle.vx_events.specs.declared.said.Said.TheVariants.{Done, Refused}
use Rattle.vx_history.specs.World.{Node}
use Rattle.vx_diskset.specs.Aboves.{site_in}
use Rattle.vx_diskset.specs.Asked.{HeadUnder, LeavesFuse, MayCrash, ShortBy, TakesBy, WorksBy, disks_told}
use Rattle.vx_diskset.specs.Burning.{NoMore, OffIf}
use Rattle.vx_diskset.specs.Holds.{KeptBeside}
use Rattle.vx_diskset.specs.Keeps.{done_by}
use Rattle.vx_diskset.specs.Layouts.{units_of}
use Rattle.vx_diskset.specs.Received.{reached_by}
use Rattle.vx_diskset.specs.Stands.{IsReceiverAt, IsUpAt, SiteStands, IsUngrouped}
use Rattle.vx_diskset.specs.declared.receivers.Reached.{Reached}
use Rattle.vx_diskset.specs.declared.disk_set.DiskSet.{DiskSet}
use Rattle.vx_diskset.specs.declared.disk_set.DiskSet.TheVariants.{Bare, Spoiled, Up, Receives, Down, OfGroup, Over, Gone}
use Rattle.vx_diskset.proofs.CallsBurn.{called_by, called_cut, called_still, done_called, is_done, still_on}
use Rattle.vx_diskset.proofs.RawSets.{up_there, receiver_there}
use Rattle.vx_diskset.proofs.Laying.{units_raw}

-- an answer says how many
takes_by : (k : ℕ) (r : Result (Unit {0}) No) (m new : Meaning) → OnOk r (MakesCalls k m new) → TakesBy k (done_by r) m.disks new.disks
takes_by k (Ok done) m new calls = calls.fuses
takes_by k (Err why) m new calls = tt

short_why : (k : ℕ) (why : No) (m new : Meaning) → IsFalse m.down → new.down ≡ is_off why → FallsShort k m new → ShortBy k (Refused why) m.disks
short_why k IsDown m new up off short = short.left up off
short_why k other m new up off short = tt

short_by : (k : ℕ) (r : Result (Unit {0}) No) (m new : Meaning) → IsFalse m.down → OffIf r new.down → FallsShort k m new → ShortBy k (done_by r) m.disks
short_by k (Ok done) m new up off short = tt
short_by k (Err why) m new up off short = short_why k why m new up off short

short_none : (k : ℕ) (why : No) (o : Option Disks) → is_off why ≡ false → ShortBy k (Refused why) o
short_none k IsDown o on = absurd (let e : true ≡ false = on in cc)
short_none k other o on = tt

works_by : (k : ℕ) (r : Result (Unit {0}) No) (o : Option Disks) (unit : ℕ) → unit ≡ 0 → OnOk r (Works o unit) → WorksBy k (done_by r) o
works_by k (Ok done) o unit is works = λ some. subst (λ (u : ℕ). Works o u) is works
works_by k (Err why) o unit is works = tt

module _ {R : Type 0} {g : Ghosts R} where
  -- the log of a raw set lies on its first disk
  pub log_place : (rvg : Rvg R g) (n : Node) → n.group ≡ None → rvg.core.units ≡ units_of n → rvg.core.log.unit ≡ 0
  log_place rvg n raw units = rvg.sound.log_unit ∙ ap (λ (u : Units). u.srl) (units ∙ units_raw n raw)

  -- a call on a group that is up
  pub head_called : (k : ℕ) (r : Result (Unit {0}) No) (old new : Rvg R g) → old.core.log.unit ≡ 0 → IsFalse (g.meaning old.shelf).down → OffIf r (g.meaning new.shelf).down → OnOk r (MakesCalls k (g.meaning old.shelf) (g.meaning new.shelf))
      → FallsShort k (g.meaning old.shelf) (g.meaning new.shelf) → OnOk r (Works (g.meaning old.shelf).disks old.core.log.unit) → Spends (g.meaning old.shelf) (g.meaning new.shelf) → HeadUnder k (done_by r) (Up old) (Up new)
  head_called k r old new place up off calls short works spends =
      record {
        burns = done_called r old new up off spends;
        takes = takes_by k r (g.meaning old.shelf) (g.meaning new.shelf) calls;
        short = short_by k r (g.meaning old.shelf) (g.meaning new.shelf) up off short;
        works = works_by k r (g.meaning old.shelf).disks old.core.log.unit place works;
      }

  -- of a site that is up
  pub head_up : (k : ℕ) (said : Said) (beside : KeptBeside) (n : Node) (e after : DiskSet R g) (rvg : Rvg R g) → e ≡ Up rvg → SiteStands beside n e → (IsUngrouped beside n → IsUpAt beside n rvg.core (g.meaning rvg.shelf) → HeadUnder k said (Up rvg) after)
      → HeadUnder k said e after
  head_up k said beside n e after rvg is stands headed =
      let at = up_there beside n e rvg is stands in
      subst (λ (x : DiskSet R g). HeadUnder k said x after) (sym is) (headed at.0 at.1)

  -- of a site that receives
  pub head_received : (k : ℕ) (said : Said) (beside : KeptBeside) (n : Node) (e : DiskSet R g) (s s' : Secondary R g) → e ≡ Receives s → SiteStands beside n e
      → (IsUngrouped beside n → IsReceiverAt beside n s.rvg.core s.waiting (g.meaning s.rvg.shelf) → HeadUnder k said (Up s.rvg) (Up s'.rvg)) → HeadUnder k said e (Receives s')
  head_received k said beside n e s s' is stands headed =
      let at = receiver_there beside n e s is stands in
      let here = headed at.0 at.1 in
      subst (λ (x : DiskSet R g). HeadUnder k said x (Receives s')) (sym is) (record { burns = record { told = here.burns.told; sizes = here.burns.sizes }; takes = here.takes; short = here.short; works = here.works })

  -- one in which the fuse ran out, and behind which the disks crashed
  pub head_cut : (k : ℕ) (why : No) (pick : ℕ) (a b c : DiskSet R g) → is_off why ≡ true → HeadUnder k (Refused why) a b → MayCrash pick b c → HeadUnder k (Refused why) a c
  head_cut k why pick a b c off one two = record {
    burns = called_cut NoMore why pick a b c off one.burns two;
    takes = tt;
    short = one.short;
    works = tt;
  }

  -- one that did nothing, and was not answered 6
  pub head_still : (k : ℕ) (why : No) (e : DiskSet R g) → is_off why ≡ false → HeadUnder k (Refused why) e e
  head_still k why e on = record { burns = called_still NoMore why e on; takes = tt; short = short_none k why (disks_told e) on; works = tt }

  none_taken : (e : DiskSet R g) → WithDisks (disks_told e) (disks_told e) (λ o n. FewerLeft 0 o.fuse n.fuse)
  none_taken (Bare rack) = (no_calls (g.meaning rack) 0 refl).fuses
  none_taken (Spoiled rack) = (no_calls (g.meaning rack) 0 refl).fuses
  none_taken (Up rvg) = (no_calls (g.meaning rvg.shelf) 0 refl).fuses
  none_taken (Receives s) = (no_calls (g.meaning s.rvg.shelf) 0 refl).fuses
  none_taken (Down rack) = (no_calls (g.meaning rack) 0 refl).fuses
  none_taken (OfGroup s) = (no_calls (site_disks s.site) 0 refl).fuses
  none_taken (Over s) = (no_calls (site_disks (site_in s)) 0 refl).fuses
  none_taken Gone = tt

  -- no call
  pub head_none : (e : DiskSet R g) → HeadUnder 0 Done e e
  head_none e = record { burns = record { told = still_on (disks_told e); sizes = λ u. refl }; takes = none_taken e; short = tt; works = λ some. absurd (omega (arith, some)) }

  -- an apply of what waits
  pub reached_called : (r : Result Reached No) (old new : Rvg R g) → IsFalse (g.meaning old.shelf).down → OffIf r (g.meaning new.shelf).down → Spends (g.meaning old.shelf) (g.meaning new.shelf) → LeavesFuse NoMore (reached_by r) (Up old) (Up new)
  reached_called (Ok x) old new up off spends =
      called_by NoMore (Ok x.number) old new up off (is_done (Ok x.number) (g.meaning old.shelf) (g.meaning new.shelf) spends) spends
  reached_called (Err why) old new up off spends = called_by NoMore (Err why) old new up off (is_done (Err why) (g.meaning old.shelf) (g.meaning new.shelf) spends) spends

  -- of a site that receives
  pub called_received : (said : Said) (beside : KeptBeside) (n : Node) (e : DiskSet R g) (s s' : Secondary R g) → e ≡ Receives s → SiteStands beside n e
      → (IsFalse (g.meaning s.rvg.shelf).down → LeavesFuse NoMore said (Up s.rvg) (Up s'.rvg)) → LeavesFuse NoMore said e (Receives s')
  called_received said beside n e s s' is stands called =
      let at : IsReceiverAt beside n s.rvg.core s.waiting (g.meaning s.rvg.shelf) = (receiver_there beside n e s is stands).1 in
      let here = called at.up in
      subst (λ (x : DiskSet R g). LeavesFuse NoMore said x (Receives s')) (sym is) (record { told = here.told; sizes = here.sizes })
