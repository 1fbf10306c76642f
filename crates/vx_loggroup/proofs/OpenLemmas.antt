-- A group with logs as an import gives it.
use Rattle.std.proofs.Common.{◌≡◌, ◌∙◌, ◌⊎◌, inl, inr, ℕ, ◌<◌, Bool, true, false, Option, Some, None, List, length, refl, sym, ap, subst, arith}
use Rattle.std.proofs.lemmas.Bool.{both_ways}
use Rattle.std.specs.Prelude.{Err, Ok, Result, slice_get}
use Rattle.std.proofs.lemmas.Option.{slice_get_within}
use Rattle.vx_config.specs.declared.config.Config.{Config}
use Rattle.vx_disk.specs.Shelf.{Goes, Lawful, Meaning, Nothing}
use Rattle.vx_disk.proofs.Causing.{Rose_after}
use Rattle.vx_disk.proofs.Runs.{then_nothing}
use Rattle.vx_drl.specs.Dirty.{Dirty}
use Rattle.vx_kept.specs.Finds.{AllAtOnce}
use Rattle.vx_kept.proofs.Findings.{less_newest, newest_at}
use Rattle.vx_group.specs.Finds.{GroupFinds}
use Rattle.vx_group.proofs.FindingLemmas.{newest_group, quiet_finds}
use Rattle.vx_group.specs.Creates.{SameUnits}
use Rattle.vx_group.specs.Dets.{DetStops}
use Rattle.vx_group.specs.Holding.{wide}
use Rattle.vx_group.specs.Imports.{HalfResumed, ImportStops}
use Rattle.vx_group.specs.Loses.{LosesAlong}
use Rattle.vx_group.specs.Mends.{drl_at, drl_or}
use Rattle.vx_group.specs.Resumes.{CanImport, TakenUp, stopped}
use Rattle.vx_group.specs.Stands.{inner_meaning}
use Rattle.vx_group.specs.declared.group_core.GroupCore.{GroupCore}
use Rattle.vx_group.specs.declared.inner.Inner.{Inner}
use Rattle.vx_group.proofs.CreateLemmas.{cause_before}
use Rattle.vx_config.specs.Checks.{blocks_of}
use Rattle.vx_group.proofs.HoldLemmas.{whole_Stands, wide_none, wide_shape}
use Rattle.vx_grouplogs.proofs.LogShape.{same_count}
use Rattle.vx_group.proofs.LoseLemmas.{along_same, then_along}
use Rattle.vx_group.proofs.UnitLemmas.{goes_units, then_units}
use Rattle.vx_grouplogs.specs.Covering.{AllAlike}
use Rattle.vx_grouplogs.specs.Marking.{HoldsMany}
use Rattle.vx_grouplogs.specs.On.{VolumeOn}
use Rattle.vx_group.specs.Settles.{ReadsOne}
use Rattle.vx_grouplogs.proofs.KnowActs.{know_none}
use Rattle.vx_groupmaps.specs.Missing.{none_spared}
use Rattle.vx_kept.specs.Cleans.{is_unsure}
use Rattle.vx_kept.specs.Groups.{OnSome, group_meaning}
use Rattle.vx_kept.proofs.Lasting.{cases_bool}
use Rattle.vx_kept.proofs.StateLemmas.{then_shape}
use Rattle.vx_logged.proofs.StandLemmas.{alike_goes}
use Rattle.vx_logimport.specs.Marked.{LogRead, ResumedBy, dirty_logs}
use Rattle.vx_logimport.specs.Rests.{LogsTell, MapsTell, rests}
use Rattle.vx_logimport.specs.declared.importing.Marked.{Marked}
use Rattle.vx_logimport.specs.declared.rested.Rested.{Rested}
use Rattle.vx_logimport.proofs.RestLemmas.{rests_alike, rests_maps}
use Rattle.vx_logs.specs.declared.logs.Logs.{Logs}
use Rattle.vx_model.specs.declared.errors.Stop.{Stop}
use Rattle.vx_model.specs.declared.errors.Stop.TheVariants.{No as Refused, OutOfMemory}
use Rattle.vx_loggroup.specs.Fresh.{FreshStands}
use Rattle.vx_loggroup.specs.LoggedVolumes.{LoggedStands, is_alike}
use Rattle.vx_loggroup.specs.Marks.{MarksAreOff}
use Rattle.vx_loggroup.specs.Opens.{NotSettled, OpensLogged, SettlesLogs}
use Rattle.vx_loggroup.specs.Taking.{LogsSettle, MapsWere, MapsWhy, SameDrls}
use Rattle.vx_loggroup.specs.declared.opening.Opened.{Opened}
use Rattle.vx_loggroup.proofs.StillLemmas.{core_goes}
use Rattle.vx_loggroup.proofs.SetLemmas.{item_at}
use Rattle.vx_loggroup.proofs.TakenMaps.{shrink_why}
use Rattle.vx_loggroup.proofs.TookLemmas.{maps_taken}

-- of which a crash leaves one value, that reads as one
pub alike_reads : (c : Config) (v : ℕ) (m : Meaning) → Lawful m → AllAlike c v m → ReadsOne c v m
alike_reads c v m law alike = record { one = λ b x y one two. alike.one b x y refl (left b x one) (left b y two) }
  where
    left : (b : ℕ) (x : List ℕ) → OnSome c m.reads v b x → OnSome c m.leaves v b x
    left b x is = record { inside = is.inside; plex = is.plex; is_on = is.is_on; value = law.shown _ _ x is.value }

-- the logs of a volume
logs_at : (ls : List Logs) (v : ℕ) (l : Logs) → slice_get ls v ≡ Some l → l.fmr ≡ None → dirty_logs (drl_at ls v) ≡ l
logs_at ls v l is plain = ap (λ (o : Option Logs). dirty_logs (drl_or o)) is ∙ ap (λ (f : _). record { drl = l.drl; fmr = f }) (sym plain)

-- what is said of plexes that are alike holds of volumes that there are
pub begins_later : (c d : GroupCore) (a : List Bool) (ls : List Logs) (m m' : Meaning) → LoggedStands c ls a false m → ((v : ℕ) → v < length ls → is_alike a v ≡ true → AllAlike (wide c).config v m)
    → Goes Nothing (inner_meaning (wide c) m) (inner_meaning (wide d) m') → FreshStands d a m'
begins_later c d a ls m m' stands same goes = record {
  each = λ v is. alike_goes c d v m m' goes (record { one = λ b x y off one two. (same v (low v one.inside.volume) is).one b x y off one two });
}
  where
    low : (v : ℕ) → v < length (wide c).config.volumes → v < length ls
    low v lt = let many = stands.many in let shape = (wide_shape c).volumes in omega (arith, lt, many, shape)

module _ (old m1 : Meaning) (k : Marked) (law0 : Lawful old) (law : Lawful m1) (can : CanImport old) (r : Rested) (it : ResumedBy r.drls old k m1) (tells : LogsTell r old) where
  abbrev first : GroupCore
  first = record { inner = k.core; held = None }

  low_of : (v : ℕ) → v < length k.logs.items → v < length k.core.config.volumes
  low_of v lt = let many = it.logs.many in omega (arith, lt, many)

  clean_of : (v : ℕ) → v < length k.core.config.volumes → is_unsure k.stopped v ≡ false → stopped it.config v ≡ false
  clean_of v lt off = sym (it.flags v lt) ∙ off

  module _ (a : List Bool) (why : (v : ℕ) → is_alike a v ≡ true → is_unsure k.stopped v ≡ false → rests r.alike v ≡ true) where
    pub opened_same : (v : ℕ) → v < length k.logs.items → is_alike a v ≡ true → AllAlike k.core.config v m1
    opened_same v lt same_at = elim (cases_bool (is_unsure k.stopped v)) [
      | inl is ↦ it.alike v (low_of v lt) is
      | inr off ↦ rests_alike r.drls old m1 k law0 can it v (clean_of v (low_of v lt) off) (tells.alike v (why v same_at off))
    ]

    pub opened_stands : LoggedStands first k.logs.items a false m1
    opened_stands = record {
      group = whole_Stands k.core m1 it.resumed.stands;
      many = it.logs.many;
      each = λ v l is.
          let lt = slice_get_within k.logs.items v l is in
          record {
            on = λ going. subst (λ (x : Logs). VolumeOn k.core.config v x m1) (logs_at k.logs.items v l is (it.logs.plain v l is)) (it.stand v (low_of v lt));
            maps = λ going. know_none k.core.config v none_spared l m1 (it.logs.plain v l is);
            alike = λ same_at up. alike_reads k.core.config v m1 law (opened_same v lt same_at);
          };
    }

  pub opened_maps : (v : ℕ) → v < length k.core.config.volumes → is_unsure k.stopped v ≡ false → rests r.maps v ≡ true → MapsTell k.core.config v m1
  opened_maps v lt off is = rests_maps r.drls old m1 k law0 can it v (clean_of v lt off) (tells.maps v is)

  opened_full : (v : ℕ) (l : Logs) → slice_get k.logs.items v ≡ Some l → HoldsMany l.drl
  opened_full v l is = by l.drl (it.read.each v l is)
    where
      by : (o : Option Dirty) → LogRead k.good r.drls it.opened v o old m1 → HoldsMany o
      by None read = tt
      by (Some d) read = read.3

  -- ---- behind the maps

  module _ (ls : List Logs) (m2 new : Meaning) (drls : SameDrls k.logs.items ls) (long : length ls ≡ length k.logs.items) (goes : Goes Nothing m1 m2) (law2 : Lawful m2) where
    first_goes : Goes Nothing (inner_meaning k.core m1) (inner_meaning k.core m2)
    first_goes = core_goes first m1 m2 law law2 (whole_Stands k.core m1 it.resumed.stands) goes

    pub taken_full : (v : ℕ) (l : Logs) → slice_get ls v ≡ Some l → HoldsMany l.drl
    taken_full v l is =
        let lt = slice_get_within ls v l is in
        let was = item_at k.logs.items v (omega (arith, lt, long)) in
        subst (λ (o : Option Dirty). HoldsMany o) (sym (drls.each v was.0 l was.1 is)) (opened_full v was.0 was.1)

    pub taken_same : (a : List Bool) → ((v : ℕ) → is_alike a v ≡ true → is_unsure k.stopped v ≡ false → rests r.alike v ≡ true) → (v : ℕ) → v < length ls → is_alike a v ≡ true → AllAlike k.core.config v m2
    taken_same a why v lt same_at = alike_goes first first v m1 m2 first_goes (opened_same a why v (omega (arith, lt, long)) same_at)

    module _ (core : GroupCore) (settles : LogsSettle first core m2 new) where
      pub settled_goes : Goes Nothing (inner_meaning k.core m1) (inner_meaning (wide core) new)
      settled_goes = then_nothing Nothing (inner_meaning k.core m1) (inner_meaning k.core m2) (inner_meaning (wide core) new) first_goes settles.goes

      pub settled_loses : LosesAlong k.core.config core.inner.config m1 new
      settled_loses = then_along k.core.config k.core.config core.inner.config m1 m2 new (along_same k.core.config m1 m2 goes.faults) settles.loses

      settled_size : (v : ℕ) → blocks_of core.inner.config.volumes v ≡ blocks_of k.core.config.volumes v
      settled_size v = let size = settled_goes.size v in let same = (wide_shape core).blocks v in omega (arith, size, same)

      pub settled_units : SameUnits m1 new
      settled_units = then_units m1 m2 new (goes_units Nothing m1 m2 goes) settles.below

    -- a refusal behind what was taken up
    module _ (stop : Stop) (it_not : NotSettled first m2 new stop) where
      taken_new : TakenUp old new it.config it.opened
      taken_new = record {
        readable = it.taken.readable;
        image = it.taken.image;
        blamed = λ u lt off. Rose_after (old.faults u) (m1.faults u) (new.faults u) (it.taken.blamed u lt off) ((settled_loses it_not.core it_not.settles).rises u);
        read = it.taken.read;
        is = it.taken.is;
        opens = it.taken.opens;
      }

      half : HalfResumed old new
      half = record {
        config = it.config;
        core = wide it_not.core;
        opened = it.opened;
        taken = taken_new;
        stands = it_not.stands.group.stands;
        shape = then_shape (wide it_not.core).config k.core.config it.opened it_not.settles.narrow.shape it.shape;
        agreed = it_not.agreed it.resumed.committed;
        goes = then_nothing Nothing (group_meaning it.opened (λ v. 0) old) (inner_meaning k.core m1) (inner_meaning (wide it_not.core) new) it.goes (settled_goes it_not.core it_not.settles);
      }

      pub opened_late : ImportStops old new stop
      opened_late = by stop it_not.cause
        where
          by : (s : Stop) → DetStops {T = Unit {0}} m2 new (Err s) → ImportStops old new s
          by (Refused why) cause = inr (half, inl (cause_before old m2 new (λ d. let one = it.goes.disk_faults d in let two = goes.disk_faults d in omega (arith, one, two)) why cause))
          by OutOfMemory none = absurd none

-- each image has the configuration in memory
opened_newest : (may : List Bool) (old m1 : Meaning) (k : Marked) → Lawful m1 → ResumedBy may old k m1 → (m2 new : Meaning) → Goes Nothing m1 m2 → Lawful m2 → (core : GroupCore) → GroupFinds (record { inner = k.core; held = None }) core m2 new → core.inner.committed ≡ true
    → AllAtOnce core.inner.config new
opened_newest may old m1 k law it m2 new goes law2 core finds is =
    let first : GroupCore = record { inner = k.core; held = None } in
    let made : AllAtOnce k.core.config m1 = newest_at k.core.config m1 (record { finds = it.resumed.finds }) in
    let now : AllAtOnce k.core.config m2 = less_newest k.core.config m1 m2 made (quiet_finds m1 m2 law law2 goes) in
    subst (λ (i : Inner). AllAtOnce i.config new) (wide_none core (finds.free refl)) (newest_group first core m2 new refl it.resumed.settled now finds is)

-- how an import ends
pub opens_by : {S : Type 0} (meaning : S → Meaning) (moment : S) (old : Meaning) (k : Marked) (law0 : Lawful old) (law : Lawful (meaning moment)) (can : CanImport old) (r : Rested) (it : ResumedBy r.drls old k (meaning moment)) (tells : LogsTell r old) (a : List Bool)
    → ((v : ℕ) → v < 32 → is_unsure k.stopped v ≡ true → is_alike a v ≡ true) → ((v : ℕ) → v < 32 → rests r.alike v ≡ true → is_alike a v ≡ true) → (ls : List Logs) (m2 new : Meaning) → SameDrls k.logs.items ls → length ls ≡ length k.logs.items → Goes Nothing (meaning moment) m2 → Lawful m2
    → (res : Result Opened Stop) → SettlesLogs (record { inner = k.core; held = None }) ls a m2 new res → MapsWhy k.good k.core.config k.stopped r ls → MapsWere k.core.config ls (meaning moment) → OpensLogged meaning r old new res
opens_by meaning moment old k law0 law can r it tells a mended resting ls m2 new drls long goes law2 (Ok o) fin why were = (
  record {
    moment = moment;
    marked = k;
    resumed = it;
    goes = settled_goes old (meaning moment) k law0 law can r it tells ls m2 new drls long goes law2 o.core fin.settles;
    committed = fin.trust it.resumed.committed;
    newest = opened_newest r.drls old (meaning moment) k law it m2 new goes law2 o.core fin.settles.finds (fin.trust it.resumed.committed);
    free = fin.settles.finds.free refl;
    openly = λ un. fin.settles.finds.core.openly (λ missed. absurd (both_ways k.core.unsettled it.resumed.settled missed)) un;
    up = fin.up;
    same = settled_units old (meaning moment) k law0 law can r it tells ls m2 new drls long goes law2 o.core fin.settles;
    counts = (settled_loses old (meaning moment) k law0 law can r it tells ls m2 new drls long goes law2 o.core fin.settles).rises;
    loses = (settled_loses old (meaning moment) k law0 law can r it tells ls m2 new drls long goes law2 o.core fin.settles).loses;
    mended = λ v lt is. ap (λ (f : List Bool). is_alike f v) fin.same ∙ mended v (let few = it.resumed.stands.few in omega (arith, lt, few)) (it.flags v lt ∙ is);
    resting = λ v lt is. ap (λ (f : List Bool). is_alike f v) fin.same ∙ resting v (let few = it.resumed.stands.few in omega (arith, lt, few)) is;
    off = λ going. subst (λ (f : List Bool). MarksAreOff k.core.config f (length o.logs.items) o.logs.items) (sym fin.same) (fin.off going);
    maps = shrink_why k.good k.core.config k.stopped r ls o.logs.items fin.shrink why;
    took = maps_taken r.drls old (meaning moment) k law0 can it r tells ls o.logs.items why were fin.shrink o.core.inner.config
        (λ v. same_count k.core.config o.core.inner.config v ((settled_loses old (meaning moment) k law0 law can r it tells ls m2 new drls long goes law2 o.core fin.settles).loses.frames v) (settled_size old (meaning moment) k law0 law can r it tells ls m2 new drls long goes law2 o.core fin.settles v))
        (settled_size old (meaning moment) k law0 law can r it tells ls m2 new drls long goes law2 o.core fin.settles)
        (λ v l at. let low = slice_get_within ls v l at in let many = it.logs.many in omega (arith, low, long, many));
    sure = fin.sure;
  },
  fin.stands,
  fin.begins,
)
opens_by meaning moment old k law0 law can r it tells a mended resting ls m2 new drls long goes law2 (Err stop) fin why were = opened_late old (meaning moment) k law0 law can r it tells ls m2 new drls long goes law2 stop fin

pub settled_below : (c : GroupCore) (ls : List Logs) (a : List Bool) (m m' : Meaning) (res : Result Opened Stop) → SettlesLogs c ls a m m' res → SameUnits m m'
settled_below c ls a m m' (Ok o) fin = fin.settles.below
settled_below c ls a m m' (Err stop) fin = fin.settles.below
