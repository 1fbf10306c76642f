-- What the calls on the disks of a site leave of their fuse.
use Rattle.std.proofs.Common.{◌≡◌, ◌∙◌, ◌⊎◌, ◌<◌, inl, inr, ℕ, Bool, true, false, ap, sym, subst, refl, List, IsTrue, arith}
use Rattle.std.specs.Prelude.{Option, Some, None, Result, Ok, Err, OnOk, IsFalse, if◌then◌else◌, leb, ltb, ◌&&◌, ◌||◌, ◌+◌}
use Rattle.vx_model.specs.Answer.{is_too_large}
use Rattle.vx_model.specs.declared.no.No.{No}
use Rattle.vx_model.specs.declared.no.No.TheVariants.{Device, Size, Range, Limit, Down as IsDown}
use Rattle.vx_diskset.specs.Shelves.{BurnsOn}
use Rattle.vx_diskset.specs.Holds.{KeptBeside}
use Rattle.vx_model.specs.declared.no.Counted.TheVariants.{Number}
use Rattle.vx_model.specs.Content.{blocks_in}
use Rattle.vx_disk.specs.Burns.{FallsShort, RackIsShort}
use Rattle.vx_disk.specs.Causes.{OnDisks, WithDisks, Works as IsWorking}
use Rattle.vx_disk.specs.Disks.{Disks, Crashed, Untouched}
use Rattle.vx_disk.specs.Shelf.{Meaning}
use Rattle.vx_disk.specs.declared.shelf.Shelf.{Ghosts}
use Rattle.vx_disk.proofs.Alikes.{picked_stable}
use Rattle.vx_disk.proofs.Spending.{loses_none, loses_both, loses_fewer, works_since}
use Rattle.vx_disk.specs.Spends.{BurntOut, Loses, MakesAtLeast, Passed, Spends, Spent}
use Rattle.vx_rvg.specs.Groups.{ApplyIs, GroupFails, WriteIs, halted_or, write_refusal}
use Rattle.vx_rvg.specs.Saves.{SaveIs, change_refusal, reclaim_refusal}
use Rattle.vx_rvg.specs.Views.{Core, last_of}
use Rattle.vx_rvg.specs.declared.group.Rvg.{Rvg}
use Rattle.vx_srl.specs.Views.{BodyFits, free_of, most_number}
use Rattle.vx_events.specs.declared.said.Said.{Said}
use Rattle.vx_events.specs.declared.said.Said.TheVariants.{Refused}
use Rattle.vx_history.specs.World.{Node}
use Rattle.vx_grouped.specs.SiteEnds.{is_off}
use Rattle.vx_diskset.specs.Asked.{CutsShort, LeavesFuse, MayCrash, disks_told, size_in}
use Rattle.vx_diskset.specs.Burning.{Burnt, NoMore, IsLogged, OffIf, said_by}
use Rattle.vx_diskset.specs.Keeps.{done_by}
use Rattle.vx_diskset.specs.Stands.{IsUpAt, SiteStands}
use Rattle.vx_diskset.specs.declared.disk_set.DiskSet.{DiskSet}
use Rattle.vx_diskset.specs.declared.disk_set.DiskSet.TheVariants.{Up}
use Rattle.vx_diskset.proofs.StaysUp.{never_both}
use Rattle.vx_diskset.proofs.RawSets.{up_there}

-- ---- a shelf that is up behind a call of its group was not found down

abbrev never_down : Option No → Type 0
never_down None = Unit {0}
never_down (Some why) = is_off why ≡ false

one_of : (b : Bool) (x y : Option No) → never_down x → never_down y → never_down (if b then x else y)
one_of true x y one two = one
one_of false x y one two = two

unless : (halted : Option ℕ) (rest : Option No) → never_down rest → never_down (halted_or halted rest)
unless None rest never = never
unless (Some disk) rest never = refl

fails_off : (c : Core) (old new : Meaning) (c' : Core) (why : No) → IsFalse new.down → GroupFails c old new c' why → new.down ≡ is_off why
fails_off c old new c' (Device disk) up fails = up
fails_off c old new c' IsDown up fails = absurd (never_both new.down fails.1 up)
fails_off c old new c' other up fails = absurd fails

err_off : {T : Type 0} (r : Result T No) (why : No) (down : Bool) → is_off why ≡ false → IsFalse down → r ≡ Err why → OffIf r down
err_off r why down never up is = subst (λ x. OffIf x down) (sym is) (up ∙ sym never)

apply_by : (refusal : Option No) (c : Core) (count : ℕ) (old new : Meaning) (c' : Core) (r : Result ℕ No) → never_down refusal → IsFalse new.down → ApplyIs refusal c count old new c' r → OffIf r new.down
apply_by (Some why) c count old new c' r never up is = err_off r why new.down never up is.0
apply_by None c count old new c' (Ok number) never up is = up
apply_by None c count old new c' (Err why) never up is = fails_off c old new c' why up is

pub apply_off : (c : Core) (count : ℕ) (old new : Meaning) (c' : Core) (r : Result ℕ No) → IsFalse new.down → ApplyIs (halted_or c.halted None) c count old new c' r → OffIf r new.down
apply_off c count old new c' r up is = apply_by (halted_or c.halted None) c count old new c' r (unless c.halted None tt) up is

save_by : (refusal : Option No) (c after : Core) (old new : Meaning) (c' : Core) (r : Result (Unit {0}) No) → never_down refusal → IsFalse new.down → SaveIs refusal c after old new c' r → OffIf r new.down
save_by (Some why) c after old new c' r never up is = err_off r why new.down never up is.0
save_by None c after old new c' (Ok done) never up is = up
save_by None c after old new c' (Err why) never up is = fails_off c old new c' why up is

pub reclaim_off : (c : Core) (to : ℕ) (after : Core) (old new : Meaning) (c' : Core) (r : Result (Unit {0}) No) → IsFalse new.down → SaveIs (reclaim_refusal c to) c after old new c' r → OffIf r new.down
reclaim_off c to after old new c' r up is =
    save_by (reclaim_refusal c to) c after old new c' r
    (unless c.halted (if leb c.log.header.low to && (leb most_number c.log.header.stamp || leb most_number to) then Some (Limit Number most_number) else None)
    (one_of (leb c.log.header.low to && (leb most_number c.log.header.stamp || leb most_number to)) (Some (Limit Number most_number)) None refl tt)) up is

pub state_off : (c : Core) (after : Core) (old new : Meaning) (c' : Core) (r : Result (Unit {0}) No) → IsFalse new.down → SaveIs (change_refusal c) c after old new c' r → OffIf r new.down
state_off c after old new c' r up is =
    save_by (change_refusal c) c after old new c' r
    (unless c.halted (if leb most_number c.log.header.stamp then Some (Limit Number most_number) else None) (one_of (leb most_number c.log.header.stamp) (Some (Limit Number most_number)) None refl tt)) up is

write_by : (refusal : Option No) (c : Core) (vol start : ℕ) (bytes : List ℕ) (old new : Meaning) (c' : Core) (r : Result ℕ No) → never_down refusal → IsFalse new.down → WriteIs refusal c vol start bytes old new c' r → OffIf r new.down
write_by (Some why) c vol start bytes old new c' r never up is = err_off r why new.down never up is.0
write_by None c vol start bytes old new c' (Ok number) never up is = up
write_by None c vol start bytes old new c' (Err why) never up is = fails_off c old new c' why up is

pub write_off : (c : Core) (vol size start count : ℕ) (bytes : List ℕ) (old new : Meaning) (c' : Core) (r : Result ℕ No) → IsFalse new.down → WriteIs (write_refusal c size start count) c vol start bytes old new c' r → OffIf r new.down
write_off c vol size start count bytes old new c' r up is =
    let last : Option No = if leb most_number (last_of c) then Some (Limit Number most_number) else None in
    let mid : Option No = if ltb size (start + count) then Some Range else last in
    let rest : Option No = if is_too_large c.log.ring count then Some Size else mid in
    write_by (write_refusal c size start count) c vol start bytes old new c' r
    (unless c.halted rest
    (one_of (is_too_large c.log.ring count) (Some Size) mid refl
    (one_of (ltb size (start + count)) (Some Range) last refl (one_of (leb most_number (last_of c)) (Some (Limit Number most_number)) None refl tt)))) up is

-- ---- the fuse behind calls of a group

passed_none : (d : Disks) → Passed d d
passed_none d = record { fuse = loses_none d.fuse; still = λ f first last. record { stable = λ u b. refl; latest = λ u b. refl; loose = λ u b. refl } }

spent_up : (size : ℕ → ℕ) (before after : Bool) (o n : Disks) → IsFalse after → Spent size before after o n → Passed o n
spent_up size before after o n up spent = elim spent.burnt [
  | inl passed ↦ passed.0
  | inr out ↦ absurd (never_both after out.1 up)
]

spent_off : (size : ℕ → ℕ) (before after : Bool) (o n : Disks) → IsFalse before → IsTrue after → Spent size before after o n → BurntOut size o n
spent_off size before after o n up down spent = elim spent.burnt [
  | inl passed ↦ absurd (never_both before (passed.1 down) up)
  | inr out ↦ out.0
]

by_why : (P : Disks → Disks → Type 0) (size : ℕ → ℕ) (before after : Bool) (why : No) (o n : Disks) → IsFalse before → after ≡ is_off why → Spent size before after o n → Burnt P (Refused why) size o n
by_why P size before after IsDown o n up off spent = spent_off size before after o n up off spent
by_why P size before after other o n up off spent = spent_up size before after o n off spent

burnt_by : (P : Disks → Disks → Type 0) (size : ℕ → ℕ) (before after : Bool) (r : Result ℕ No) (o n : Disks) → IsFalse before → OffIf r after → OnOk r (P o n) → Spent size before after o n → Burnt P (said_by r) size o n
burnt_by P size before after (Ok number) o n up off done spent = (spent_up size before after o n off spent, done)
burnt_by P size before after (Err why) o n up off done spent = by_why P size before after why o n up off spent

done_at : (P : Disks → Disks → Type 0) (r : Result ℕ No) (o n : Disks) → OnOk r (WithDisks (Some o) (Some n) P) → OnOk r (P o n)
done_at P (Ok number) o n on = on
done_at P (Err why) o n on = tt

burnt_on : (P : Disks → Disks → Type 0) (size : ℕ → ℕ) (before after : Bool) (r : Result ℕ No) (o n : Option Disks) → IsFalse before → OffIf r after → OnOk r (WithDisks o n P) → WithDisks o n (Spent size before after)
    → OnDisks o n (Burnt P (said_by r) size)
burnt_on P size before after r None None up off done spent = tt
burnt_on P size before after r None (Some n) up off done spent = absurd spent
burnt_on P size before after r (Some o) None up off done spent = absurd spent
burnt_on P size before after r (Some o) (Some n) up off done spent = (burnt_by P size before after r o n up off (done_at P r o n done) spent, spent.failing)

-- the same of a call that answers nothing
done_with : (size : ℕ → ℕ) (before after : Bool) (r : Result (Unit {0}) No) (o n : Disks) → IsFalse before → OffIf r after → Spent size before after o n → Burnt NoMore (done_by r) size o n
done_with size before after (Ok done) o n up off spent = spent_up size before after o n off spent
done_with size before after (Err why) o n up off spent = by_why NoMore size before after why o n up off spent

done_burnt : (size : ℕ → ℕ) (before after : Bool) (r : Result (Unit {0}) No) (o n : Option Disks) → IsFalse before → OffIf r after → WithDisks o n (Spent size before after) → OnDisks o n (Burnt NoMore (done_by r) size)
done_burnt size before after r None None up off spent = tt
done_burnt size before after r None (Some n) up off spent = absurd spent
done_burnt size before after r (Some o) None up off spent = absurd spent
done_burnt size before after r (Some o) (Some n) up off spent = (done_with size before after r o n up off spent, spent.failing)

least_both : (size : ℕ → ℕ) (before after : Bool) (k : ℕ) (a b c : Option Disks) → IsFalse after → WithDisks a b (Spent size before after) → WithDisks b c (λ x y. Loses k x.fuse y.fuse) → WithDisks a c (λ x y. Loses k x.fuse y.fuse)
least_both size before after k None None None up spent made = tt
least_both size before after k None None (Some c) up spent made = absurd made
least_both size before after k None (Some b) c up spent made = absurd spent
least_both size before after k (Some a) None c up spent made = absurd spent
least_both size before after k (Some a) (Some b) None up spent made = absurd made
least_both size before after k (Some a) (Some b) (Some c) up spent made =
    loses_fewer k (0 + k) (omega arith) a.fuse c.fuse (loses_both 0 k a.fuse b.fuse c.fuse (spent_up size before after a b up spent).fuse made)

-- so many calls behind others that passed
pub least_since : (k : ℕ) (r : Result ℕ No) (m mid new : Meaning) → IsFalse mid.down → Spends m mid → OnOk r (MakesAtLeast k mid new) → OnOk r (MakesAtLeast k m new)
least_since k (Ok number) m mid new up spends made = record { fuses = least_both m.size m.down mid.down k m.disks mid.disks new.disks up spends.told made.fuses }
least_since k (Err why) m mid new up spends made = tt

logged_on : (o n : Option Disks) → WithDisks o n (λ x y. Loses 4 x.fuse y.fuse) → IsWorking o 0 → WithDisks o n IsLogged
logged_on None None loses works = tt
logged_on None (Some n) loses works = absurd loses
logged_on (Some o) None loses works = absurd loses
logged_on (Some o) (Some n) loses works = record { calls = loses; works = works }

-- a write that is done
pub is_logged : (r : Result ℕ No) (m mid new : Meaning) (unit : ℕ) → unit ≡ 0 → Spends m mid → OnOk r (MakesAtLeast 4 m new) → OnOk r (IsWorking mid.disks unit) → OnOk r (WithDisks m.disks new.disks IsLogged)
is_logged (Ok number) m mid new unit is spends made works = logged_on m.disks new.disks made.fuses (works_since m mid 0 spends (subst (λ (u : ℕ). IsWorking mid.disks u) is works))
is_logged (Err why) m mid new unit is spends made works = tt

done_on : (size : ℕ → ℕ) (before after : Bool) (o n : Option Disks) → WithDisks o n (Spent size before after) → WithDisks o n NoMore
done_on size before after None None spent = tt
done_on size before after None (Some n) spent = absurd spent
done_on size before after (Some o) None spent = absurd spent
done_on size before after (Some o) (Some n) spent = tt

-- any other call
pub is_done : (r : Result ℕ No) (m new : Meaning) → Spends m new → OnOk r (WithDisks m.disks new.disks NoMore)
is_done (Ok number) m new spends = done_on m.size m.down new.down m.disks new.disks spends.told
is_done (Err why) m new spends = tt

-- the fuse ran out, and the disks crashed again
again : (size size' : ℕ → ℕ) (pick : ℕ) (o m n : Disks) → BurntOut size o m → Crashed size' pick m n ⊎ Untouched m n → BurntOut size o n
again size size' pick o m n burnt (inl crash) = record {
  middle = burnt.middle;
  passed = burnt.passed;
  out = record {
    pick = burnt.out.pick;
    out = burnt.out.out;
    crash = record {
      stable = λ u b. crash.stable u b ∙ picked_stable size' m pick u b (burnt.out.crash.loose u b) ∙ burnt.out.crash.stable u b;
      latest = λ u b. crash.latest u b ∙ picked_stable size' m pick u b (burnt.out.crash.loose u b) ∙ burnt.out.crash.stable u b;
      loose = λ u b. crash.loose u b;
      fuse = crash.fuse;
    };
  };
}
again size size' pick o m n burnt (inr same) = record {
  middle = burnt.middle;
  passed = burnt.passed;
  out = record {
    pick = burnt.out.pick;
    out = burnt.out.out;
    crash = record {
      stable = λ u b. same.blocks.stable u b ∙ burnt.out.crash.stable u b;
      latest = λ u b. same.blocks.latest u b ∙ burnt.out.crash.latest u b;
      loose = λ u b. same.blocks.loose u b ∙ burnt.out.crash.loose u b;
      fuse = same.fuse ∙ burnt.out.crash.fuse;
    };
  };
}

again_on : (size size' : ℕ → ℕ) (pick : ℕ) (o m n : Option Disks) → OnDisks o m (BurntOut size) → OnDisks m n (λ x y. Crashed size' pick x y ⊎ Untouched x y) → OnDisks o n (BurntOut size)
again_on size size' pick None None None one two = tt
again_on size size' pick None None (Some n) one two = absurd two
again_on size size' pick None (Some m) n one two = absurd one
again_on size size' pick (Some o) None n one two = absurd one
again_on size size' pick (Some o) (Some m) None one two = absurd two
again_on size size' pick (Some o) (Some m) (Some n) one two = (again size size' pick o m n one.0 two.0, λ u. two.1 u ∙ one.1 u)

out_as : (P : Disks → Disks → Type 0) (why : No) (size : ℕ → ℕ) (o n : Option Disks) → is_off why ≡ true → OnDisks o n (Burnt P (Refused why) size) → OnDisks o n (BurntOut size)
out_as P IsDown size o n off burnt = burnt
out_as P other size o n off burnt = absurd (let e : false ≡ true = off in cc)

as_out : (P : Disks → Disks → Type 0) (why : No) (size : ℕ → ℕ) (o n : Option Disks) → is_off why ≡ true → OnDisks o n (BurntOut size) → OnDisks o n (Burnt P (Refused why) size)
as_out P IsDown size o n off burnt = burnt
as_out P other size o n off burnt = absurd (let e : false ≡ true = off in cc)

pub still_on : (o : Option Disks) → OnDisks o o Passed
still_on None = tt
still_on (Some d) = (passed_none d, λ u. refl)

still_by : (P : Disks → Disks → Type 0) (why : No) (size : ℕ → ℕ) (o : Option Disks) → is_off why ≡ false → OnDisks o o (Burnt P (Refused why) size)
still_by P IsDown size o on = absurd (let e : true ≡ false = on in cc)
still_by P other size o on = still_on o

-- ---- a write with room at hand, whose blocks do not pass the end of the ring

pub never_off : {T : Type 0} (why : No) → is_off why ≡ false → (let r : Result T No = Err why in r) ≡ Err IsDown → ⊥
never_off why on is = let same : why ≡ IsDown = cc in never_both (is_off why) (ap is_off same) on

pub up_not_off : (r : Result ℕ No) (down : Bool) → r ≡ Err IsDown → IsFalse down → OffIf r down → ⊥
up_not_off r down is up off = let at : OffIf (let e : Result ℕ No = Err IsDown in e) down = subst (λ x. OffIf x down) is off in never_both down at up

off_result : (r : Result ℕ No) → said_by r ≡ Refused IsDown → r ≡ Err IsDown
off_result (Ok number) is = absurd (cc)
off_result (Err why) is = let same : why ≡ IsDown = cc in ap (λ (k : No). let r : Result ℕ No = Err k in r) same

-- a call on a group
pub burns_by : (P : Disks → Disks → Type 0) (r : Result ℕ No) (old new : Meaning) → IsFalse old.down → OffIf r new.down → OnOk r (WithDisks old.disks new.disks P) → Spends old new → BurnsOn P (said_by r) old new
burns_by P r old new up off done spends = record { told = burnt_on P old.size old.down new.down r old.disks new.disks up off done spends.told; sizes = spends.size }

-- one that did nothing, and was not answered 6
pub burns_still : (P : Disks → Disks → Type 0) (why : No) (m : Meaning) → is_off why ≡ false → BurnsOn P (Refused why) m m
burns_still P why m on = record { told = still_by P why m.size m.disks on; sizes = λ u. refl }

module _ {R : Type 0} {g : Ghosts R} where
  -- the same of disk sets
  pub burns_up : (P : Disks → Disks → Type 0) (said : Said) (old new : Rvg R g) → BurnsOn P said (g.meaning old.shelf) (g.meaning new.shelf) → LeavesFuse P said (Up old) (Up new)
  burns_up P said old new burns = record { told = burns.told; sizes = burns.sizes }

  pub cut_short : (old mid : Rvg R g) (bytes : List ℕ) (new : Meaning) → mid ≡ old → (BodyFits mid.core.log bytes → FallsShort 4 (g.meaning mid.shelf) new) → BodyFits old.core.log bytes → IsFalse (g.meaning old.shelf).down → IsTrue new.down
      → RackIsShort 4 (g.meaning old.shelf).disks
  cut_short old mid bytes new same short fits up down =
      let here : BodyFits old.core.log bytes → FallsShort 4 (g.meaning old.shelf) new = subst (λ (k : Rvg R g). BodyFits k.core.log bytes → FallsShort 4 (g.meaning k.shelf) new) same short in
      (here fits).left up down

  up_same : (rvg there : Rvg R g) → (let e : DiskSet R g = Up there in e) ≡ Up rvg → there ≡ rvg
  up_same rvg there is = cc

  -- of a site that is up
  pub cuts_up : (beside : KeptBeside) (n : Node) (e : DiskSet R g) (there : Rvg R g) (bytes : List ℕ) (r : Result ℕ No) → e ≡ Up there → SiteStands beside n e
      → (IsFalse (g.meaning there.shelf).down → blocks_in bytes < free_of there.core.log → BodyFits there.core.log bytes → r ≡ Err IsDown → RackIsShort 4 (g.meaning there.shelf).disks) → CutsShort bytes (said_by r) e
  cuts_up beside n e there bytes r at stands cuts = record {
    short = λ rvg is hand fits said.
        let up : IsUpAt beside n there.core (g.meaning there.shelf) = (up_there beside n e there at stands).1 in
        let same : there ≡ rvg = up_same rvg there (sym at ∙ is) in
        subst (λ (k : Rvg R g). RackIsShort 4 (g.meaning k.shelf).disks) same
        (cuts up.up (subst (λ (k : Rvg R g). blocks_in bytes < free_of k.core.log) (sym same) hand) (subst (λ (k : Rvg R g). BodyFits k.core.log bytes) (sym same) fits) (off_result r said));
  }

  -- a call that was not answered 6
  pub cuts_none : (bytes : List ℕ) (why : No) (e : DiskSet R g) → is_off why ≡ false → CutsShort bytes (Refused why) e
  cuts_none bytes why e on = record { short = λ rvg is hand fits said. absurd (never_said why on said) }
    where
      never_said : (why : No) → is_off why ≡ false → Refused why ≡ Refused IsDown → ⊥
      never_said why on said = let same : why ≡ IsDown = cc in never_both (is_off why) (ap is_off same) on

  -- a call on a group
  pub called_by : (P : Disks → Disks → Type 0) (r : Result ℕ No) (old new : Rvg R g) → IsFalse (g.meaning old.shelf).down → OffIf r (g.meaning new.shelf).down → OnOk r (WithDisks (g.meaning old.shelf).disks (g.meaning new.shelf).disks P)
      → Spends (g.meaning old.shelf) (g.meaning new.shelf) → LeavesFuse P (said_by r) (Up old) (Up new)
  called_by P r old new up off done spends = record {
    told = burnt_on P (g.meaning old.shelf).size (g.meaning old.shelf).down (g.meaning new.shelf).down r (g.meaning old.shelf).disks (g.meaning new.shelf).disks up off done spends.told;
    sizes = spends.size;
  }

  -- a call that answers nothing
  pub done_called : (r : Result (Unit {0}) No) (old new : Rvg R g) → IsFalse (g.meaning old.shelf).down → OffIf r (g.meaning new.shelf).down → Spends (g.meaning old.shelf) (g.meaning new.shelf) → LeavesFuse NoMore (done_by r) (Up old) (Up new)
  done_called r old new up off spends = record {
    told = done_burnt (g.meaning old.shelf).size (g.meaning old.shelf).down (g.meaning new.shelf).down r (g.meaning old.shelf).disks (g.meaning new.shelf).disks up off spends.told;
    sizes = spends.size;
  }

  -- a call that did nothing, and was not answered 6
  pub called_still : (P : Disks → Disks → Type 0) (why : No) (e : DiskSet R g) → is_off why ≡ false → LeavesFuse P (Refused why) e e
  called_still P why e on = record { told = still_by P why (size_in e) (disks_told e) on; sizes = λ u. refl }

  -- a call in which the fuse ran out, and behind which the disks crashed
  pub called_cut : (P : Disks → Disks → Type 0) (why : No) (pick : ℕ) (a b c : DiskSet R g) → is_off why ≡ true → LeavesFuse P (Refused why) a b → MayCrash pick b c → LeavesFuse P (Refused why) a c
  called_cut P why pick a b c off one two = record {
    told = as_out P why (size_in a) (disks_told a) (disks_told c) off
        (again_on (size_in a) (size_in b) pick (disks_told a) (disks_told b) (disks_told c) (out_as P why (size_in a) (disks_told a) (disks_told b) off one.told) two.told);
    sizes = λ u. two.sizes u ∙ one.sizes u;
  }

  -- a call on the group of a site that is up
  pub called_up : (P : Disks → Disks → Type 0) (said : Said) (beside : KeptBeside) (n : Node) (e after : DiskSet R g) (rvg : Rvg R g) → e ≡ Up rvg → SiteStands beside n e → (IsUpAt beside n rvg.core (g.meaning rvg.shelf) → LeavesFuse P said (Up rvg) after) → LeavesFuse P said e after
  called_up P said beside n e after rvg is stands called =
      subst (λ (x : DiskSet R g). LeavesFuse P said x after) (sym is) (called (up_there beside n e rvg is stands).1)
