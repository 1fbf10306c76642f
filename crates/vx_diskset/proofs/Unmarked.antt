-- The disks of a bare site on which a group was begun: what they stand for, and a raw set over them.
use Rattle.std.proofs.Common.{◌≡◌, ◌∙◌, ◌<◌, ◌≤◌, ℕ, ap, arith, refl, subst, sym}
use Rattle.std.specs.Prelude.{Option, None, Result, Ok, Err, IsFalse}
use Rattle.vx_model.specs.declared.errors.Stop.{Stop}
use Rattle.vx_model.specs.declared.errors.Stop.TheVariants.{No as Refused, OutOfMemory}
use Rattle.vx_model.specs.declared.no.No.TheVariants.{Device, Down as Off}
use Rattle.vx_model.specs.declared.no.No.{No}
use Rattle.vx_model.specs.declared.site.SiteState.TheVariants.{Bare as IsBare, Up as IsUp, Down as IsDown, Deported as IsDeported}
use Rattle.vx_disk.specs.Causes.{DeviceCause, refusal_of}
use Rattle.vx_disk.specs.Counts.{Rose}
use Rattle.vx_disk.proofs.Causing.{Rose_before}
use Rattle.vx_disk.specs.Shelf.{Goes, Meaning}
use Rattle.vx_disk.specs.declared.shelf.Shelf.{Ghosts}
use Rattle.vx_disk.specs.declared.shelf.ShelfError.{ShelfError}
use Rattle.vx_disk.specs.declared.shelf.ShelfError.TheVariants.{Fault, Down as IsOff}
use Rattle.vx_history.specs.Groups.{GroupNode}
use Rattle.vx_history.specs.World.{Node}
use Rattle.vx_grouped.specs.GroupSites.{GroupSiteStands}
use Rattle.vx_grouped.specs.declared.group_site.GroupSite.{GroupSite}
use Rattle.vx_grouped.specs.declared.group_site.GroupSite.TheVariants.{Up, Deported, Down, Marked, Gone}
use Rattle.vx_diskset.specs.DiskSets.{MadeIs}
use Rattle.vx_diskset.specs.GroupSets.{noted_cut}
use Rattle.vx_diskset.specs.Holds.{KeptBeside}
use Rattle.vx_diskset.specs.Stands.{IsBareAt, IsCleanAt, IsGroupSet, IsMarkedAt, SiteStands, faults_at}
use Rattle.vx_diskset.specs.Zeroing.{LeavesZeros}
use Rattle.vx_diskset.specs.Zeros.{OnlyZeros}
use Rattle.vx_diskset.specs.declared.disk_set.DiskSet.{DiskSet}
use Rattle.vx_diskset.specs.declared.disk_set.DiskSet.TheVariants.{Bare, Spoiled, OfGroup}
use Rattle.vx_diskset.specs.declared.group_set.GroupSet.{GroupSet}
use Rattle.vx_diskset.proofs.StaysUp.{never_both, not_true}

module _ (n : Node) (m new : Meaning) (goes : Goes OnlyZeros m new) (it : IsMarkedAt n m) where
  still_up : IsFalse new.down
  still_up = not_true new.down (λ fell. never_both m.down (goes.safe it.marked.unarmed fell) it.marked.up)

  still_size : (u : ℕ) → u < n.disks → new.size u ≡ n.blocks
  still_size u low = goes.size u ∙ it.marked.size u low

  -- some of it written over
  pub marked_still : IsMarkedAt n new
  marked_still = record {
    marked = record {
      state = it.marked.state;
      units = goes.units ∙ it.marked.units;
      size = still_size;
      unfused = it.marked.unfused;
      up = still_up;
      unarmed = goes.unarmed it.marked.unarmed;
    };
    is = it.is;
    few = it.few;
    some = it.some;
  }

  -- all of it
  pub zeroed_bare : LeavesZeros m.units new → IsBareAt n new
  zeroed_bare zeros = record {
    is = it.is;
    fitted = record { units = goes.units ∙ it.marked.units; size = still_size; up = still_up };
    unarmed = goes.unarmed it.marked.unarmed;
    few = it.few;
    some = it.some;
    blank = λ u b past low inside. zeros.each u b (omega (arith, low, it.marked.units)) (omega (arith, inside, still_size u low));
  }

module _ {R : Type 0} {g : Ghosts R} where
  pub marked_set : (beside : KeptBeside) (n : Node) (rack : R) → IsMarkedAt n (g.meaning rack) → SiteStands {g = g} beside n (OfGroup (record { site = Marked rack; cut = None }))
  marked_set beside n rack it = record {
    sure = λ some. absurd (some it.marked.state);
    unlinked = λ some. absurd (some it.marked.state);
    stands = it.marked;
    cut = sym (ap (λ (o : Option GroupNode). noted_cut o) (ap (λ (k : Node). k.group) it.is));
    lies = λ x is. absurd (cc);
    bare = λ state. it.is;
    few = it.few;
    some = it.some;
    maps = λ some note there. absurd (some it.marked.state);
    plain = λ some note there. absurd (some it.marked.state);
  }

  -- what such a set stands for
  pub marked_at : (beside : KeptBeside) (n : Node) (e : DiskSet R g) (s : GroupSet R g) (rack : R) → e ≡ OfGroup s → s.site ≡ Marked rack → SiteStands beside n e → n.state ≡ IsBare → IsMarkedAt n (g.meaning rack)
  marked_at beside n e s rack is marked stands state =
      let it : IsGroupSet beside n s = subst (λ (x : DiskSet R g). SiteStands beside n x) is stands in
      record { marked = subst (λ (x : GroupSite R g). GroupSiteStands n x) marked it.stands; is = it.bare state; few = it.few; some = it.some }

  only_by : (n : Node) (s : GroupSite R g) → GroupSiteStands n s → n.state ≡ IsBare → ((rack : R) → s ≡ Marked rack → ⊥) → ⊥
  only_by n (Up group) (note, it) state none = let e : IsUp ≡ IsBare = sym it.at.state ∙ state in absurd (cc)
  only_by n (Deported rack) (note, it) state none = let e : IsDeported ≡ IsBare = sym it.away.state ∙ state in absurd (cc)
  only_by n (Down rack) (note, it) state none = let e : IsDown ≡ IsBare = sym it.away.state ∙ state in absurd (cc)
  only_by n (Marked rack) it state none = none rack refl
  only_by n Gone it state none = it

  -- a bare site with a group that was begun has such disks
  pub only_marked : {A : Type 0} (beside : KeptBeside) (n : Node) (e : DiskSet R g) (s : GroupSet R g) → e ≡ OfGroup s → SiteStands beside n e → n.state ≡ IsBare → ((rack : R) → s.site ≡ Marked rack → ⊥) → A
  only_marked beside n e s is stands state none =
      let it : IsGroupSet beside n s = subst (λ (x : DiskSet R g). SiteStands beside n x) is stands in
      absurd (only_by n s.site it.stands state none)

  -- ---- a raw set over them, and over clean disks

  -- behind calls that only raise counts
  pub made_behind : (site : ℕ) (n : Node) (first mid new : DiskSet R g) (result : Result (Unit {0}) Stop) → ((d : ℕ) → faults_at first d ≤ faults_at mid d) → MadeIs site n mid new result → MadeIs site n first new result
  made_behind site n first mid new (Ok done) less is = is
  made_behind site n first mid new (Err OutOfMemory) less is = is
  made_behind site n first mid new (Err (Refused (Device disk))) less is = (is.0, Rose_before (faults_at first disk) (faults_at mid disk) (faults_at new disk) (less disk) is.1)
  made_behind site n first mid new (Err (Refused other)) less is = is

  pub unlabelled_failed : (site : ℕ) (n : Node) (e : DiskSet R g) (rack last : R) (why : No) → e ≡ Bare rack → IsCleanAt n (g.meaning last) → DeviceCause (g.meaning rack) (g.meaning last) why → MadeIs site n e (Bare last) (Err (Refused why))
  unlabelled_failed site n e rack last (Device disk) is clean cause = ((λ beside. clean), subst (λ (x : DiskSet R g). Rose (faults_at x disk) ((g.meaning last).disk_faults disk)) (sym is) cause)
  unlabelled_failed site n e rack last Off is clean cause = absurd (never_both (g.meaning last).down cause clean.bare.fitted.up)
  unlabelled_failed site n e rack last other is clean cause = absurd cause

  zeroed_why : (site : ℕ) (n : Node) (e : DiskSet R g) (rack last : R) (error : ShelfError) → e ≡ Spoiled rack → DeviceCause (g.meaning rack) (g.meaning last) (refusal_of error) → IsMarkedAt n (g.meaning last)
      → MadeIs site n e (OfGroup (record { site = Marked last; cut = None })) (Err (Refused (refusal_of error)))
  zeroed_why site n e rack last (Fault disk) is cause it = ((λ beside. marked_set beside n last it), subst (λ (x : DiskSet R g). Rose (faults_at x disk) ((g.meaning last).disk_faults disk)) (sym is) cause)
  zeroed_why site n e rack last IsOff is cause it = absurd (never_both (g.meaning last).down cause it.marked.up)

  pub zeroed_failed : (site : ℕ) (n : Node) (e : DiskSet R g) (rack last : R) (error : ShelfError) (stop : Stop) → e ≡ Spoiled rack → stop ≡ Refused (refusal_of error) → Goes OnlyZeros (g.meaning rack) (g.meaning last)
      → DeviceCause (g.meaning rack) (g.meaning last) (refusal_of error) → IsMarkedAt n (g.meaning rack) → MadeIs site n e (OfGroup (record { site = Marked last; cut = None })) (Err stop)
  zeroed_failed site n e rack last error stop old is goes cause it =
      subst (λ (s : Stop). MadeIs site n e (OfGroup (record { site = Marked last; cut = None })) (Err s)) (sym is) (zeroed_why site n e rack last error old cause (marked_still n (g.meaning rack) (g.meaning last) goes it))
