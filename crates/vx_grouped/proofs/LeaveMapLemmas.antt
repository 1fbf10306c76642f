-- What a deport makes of what is noted of the maps of a group, and of the logs on its disks.
use Rattle.std.proofs.Common.{◌≡◌, ◌∙◌, ◌<◌, ◌||◌, ◌+◌, ◌*◌, inl, inr, ℕ, Bool, true, false, List, length, refl, sym, ap, subst, ◌&&◌, arith, ◌≤◌, ◌-◌}
use Rattle.std.specs.Prelude.{Option, None, Some, ltb, not, is_some, slice_get, Err}
use Rattle.std.proofs.lemmas.Bool.{lt-ltb, ltb-true, cases_lt}
use Rattle.vx_config.specs.Checks.{blocks_of, plexes_of}
use Rattle.vx_config.specs.declared.config.Config.{Config}
use Rattle.vx_config.specs.declared.entry.LogEntry.{LogEntry}
use Rattle.vx_config.specs.declared.entry.PlexEntry.{PlexEntry}
use Rattle.vx_config.specs.declared.entry.Subdisk.{Subdisk}
use Rattle.vx_config.specs.declared.entry.VolumeEntry.{VolumeEntry}
use Rattle.vx_config.specs.declared.entry.VolumeLog.TheVariants.{Fmr}
use Rattle.vx_copyfmt.specs.Imports.{Found}
use Rattle.vx_disk.specs.Racks.{IsRack}
use Rattle.vx_disk.specs.Shelf.{Each, Image, Meaning}
use Rattle.vx_fmr.specs.Missed.{Missed, has_missed}
use Rattle.vx_group.specs.Calls.{GroupBack}
use Rattle.vx_group.specs.Deports.{DeportedBy}
use Rattle.vx_group.specs.Holding.{GroupStands, wide}
use Rattle.vx_group.specs.declared.group_core.GroupCore.{GroupCore}
use Rattle.vx_grouplogs.proofs.LogShape.{same_count}
use Rattle.vx_history.specs.Groups.{MissedNote}
use Rattle.vx_history.specs.Missing.{missed_then, no_plex, none_missed, perhaps_then}
use Rattle.vx_kept.specs.Choice.{live, live_or}
use Rattle.vx_kept.specs.Cleans.{cleaned}
use Rattle.vx_kept.specs.Commits.{IsCommitted}
use Rattle.vx_kept.specs.Keeping.{frame_at}
use Rattle.vx_kept.specs.LogRuns.{log_place, log_trusted}
use Rattle.vx_kept.proofs.Chosen.{frames_volumes}
use Rattle.vx_kept.proofs.CleanLemmas.{all_clean}
use Rattle.vx_kept.proofs.Narrower.{on_live}
use Rattle.vx_layout.specs.Places.{plex_at}
use Rattle.vx_logimport.specs.Rests.{rests}
use Rattle.vx_logimport.specs.declared.rested.Rested.{Rested}
use Rattle.vx_loggroup.specs.Attaching.{fmr_at, fmr_or}
use Rattle.vx_loggroup.specs.LoggedVolumes.{LoggedStands}
use Rattle.vx_loggroup.specs.Moving.{IsThere, MapsBackIn, MapsStand, RestsMaps, RestsOr}
use Rattle.vx_loggroup.proofs.KeepingLemmas.{frames_places}
use Rattle.vx_loggroup.proofs.MovedLemmas.{move_none}
use Rattle.vx_logs.specs.Held.{InUse, logged_in, stale, stale_or}
use Rattle.vx_logs.specs.Marks.{stride_of}
use Rattle.vx_logs.specs.declared.logs.Logs.{Logs}
use Rattle.vx_model.specs.Sizes.{map_blocks, regions_of}
use Rattle.vx_model.specs.declared.limits.TheConstants.{MAP_REGIONS}
use Rattle.vx_volume.specs.Plexes.{active}
use Rattle.vx_grouped.specs.MapsNoted.{MapsNoted, MapsOnDisk}
use Rattle.vx_grouped.specs.PlainMaps.{PartsLeft, PartsMoved, map_parts, PartsStay}
use Rattle.vx_grouped.specs.SiteMaps.{DiskMaps, MapsLike, MapsQuiet}
use Rattle.vx_grouped.proofs.DiskMapLemmas.{MapLies, log_there, missed_logged, LogThere}
use Rattle.vx_grouped.proofs.MapStandLemmas.{stood_lies}
use Rattle.vx_grouped.proofs.NotedMapLemmas.{going, had_b, map_in, missed_b, noted_b}
use Rattle.vx_grouped.proofs.PlexMapLemmas.{like_parts}
use Rattle.vx_copies.specs.Marks.{failed_at}
use Rattle.vx_group.proofs.HoldLemmas.{wide_shape}
use Rattle.vx_groupmaps.specs.Loading.{failed_under, on_failed_disk}
use Rattle.vx_logimport.proofs.RestLemmas.{in_use_trusts}
use Rattle.vx_loggroup.proofs.EndedLemmas.{failed_entry}
use Rattle.vx_loggroup.proofs.SetLemmas.{item_at}
use Rattle.vx_grouped.proofs.StayPartLemmas.{quiet_serial, stay_same}
use Rattle.vx_group.specs.Dets.{DetStops, margin}
use Rattle.vx_config.specs.Table.{greatest}
use Rattle.vx_model.specs.declared.errors.Stop.{Stop}
use Rattle.vx_model.specs.declared.errors.Stop.TheVariants.{No as Refused, OutOfMemory}
use Rattle.vx_maplog.specs.Logs.{log_or, used_or}

-- ---- states of plexes

-- one that is STALE is neither ACTIVE nor CLEAN
stale_gone : (c : Config) (v p : ℕ) → stale c v p ≡ true → live c v p ≡ false
unfolding stale live
stale_gone c v p is = by (plex_at c v p) is
  where
    by : (o : Option PlexEntry) → stale_or o ≡ true → live_or o ≡ false
    by None is = refl
    by (Some a) is = ap not is

off_of : (x y : Bool) → (x ≡ true → y ≡ true) → y ≡ false → x ≡ false
off_of false y more off = refl
off_of true y more off = let clash : false ≡ true = sym off ∙ more refl in cc

-- ---- places that are the same either way

same_run : (o q : Option Subdisk) → ((r : Subdisk) → o ≡ Some r → q ≡ Some r) → ((r : Subdisk) → q ≡ Some r → o ≡ Some r) → q ≡ o
same_run None None there back = refl
same_run None (Some r) there back = let clash : None ≡ Some r = back r refl in cc
same_run (Some r) q there back = there r refl

-- logs are trusted by volumes alone
trusted_same : (x y : Config) → x.volumes ≡ y.volumes → (v : ℕ) → log_trusted x v Fmr ≡ true → log_trusted y v Fmr ≡ true
unfolding log_trusted
trusted_same x y same v is = ap (λ (vs : List VolumeEntry). used_or (log_or Fmr (slice_get vs v))) (sym same) ∙ is

some_of : (o : Option Missed) → (o ≡ None → ⊥) → is_some o ≡ true
some_of None none = absurd (none refl)
some_of (Some f) none = refl

all_three : (s x y : Bool) → s ≡ false → x ≡ false → y ≡ true → (not s && (not x && y)) ≡ true
all_three false false y going good some = some
all_three false true y going good some = let clash : true ≡ false = good in cc
all_three true x y going good some = let clash : true ≡ false = going in cc

-- ---- volumes of which no write failed

no_more : (x y : Bool) → y ≡ true → (x || not y) ≡ x
no_more true y is = refl
no_more false true is = refl
no_more false false is = let clash : false ≡ true = is in cc

sure_of : (x y : Bool) → (x || not y) ≡ false → (x ≡ false) × (y ≡ true)
sure_of false true is = (refl, refl)
sure_of false false is = let clash : true ≡ false = is in cc
sure_of true y is = let clash : true ≡ false = is in cc

-- what a deport answers says no more of a group of which it answers nothing
rests_of : (c : Config) (s : Bool) (logs : List Logs) (flags : List Bool) (o : Option Rested) (r : Rested) → RestsOr c s logs flags o → o ≡ Some r → RestsMaps c s logs flags r
rests_of c s logs flags None r it is = absurd (let clash : None ≡ Some r = is in cc)
rests_of c s logs flags (Some x) r it is = subst (λ (y : Rested). RestsMaps c s logs flags y) (one x r is) it
  where
    one : (x y : Rested) → Some x ≡ Some y → x ≡ y
    one x y same = cc

found_same : (x y : Config) → Found x ≡ Found y → y ≡ x
found_same x y is = cc

module _ (core : GroupCore) (logs : List Logs) (flags : List Bool) (s : Bool) (m m' : Meaning) (stands : LoggedStands core logs flags s m) (left : DeportedBy (wide core).config core.inner m m') (rested : Option Rested) (maps : s ≡ false → MapsStand logs m')
    (rest : RestsOr core.inner.config s logs flags rested) where
  -- ---- the configuration that the disks have

  closed_frames : (v : ℕ) → frame_at left.config v ≡ frame_at core.inner.config v
  closed_frames v =
      frames_volumes left.config (cleaned left.behind.unsure left.behind.config (length core.inner.config.volumes)) left.volumes v
      ∙ (all_clean left.behind.unsure (length core.inner.config.volumes) left.behind.config).alike.shape.frames v ∙ left.quiesces.shape.frames v

  closed_blocks : (v : ℕ) → blocks_of left.config.volumes v ≡ blocks_of core.inner.config.volumes v
  closed_blocks v =
      ap (λ (vs : List VolumeEntry). blocks_of vs v) left.volumes
      ∙ (all_clean left.behind.unsure (length core.inner.config.volumes) left.behind.config).alike.shape.blocks v ∙ left.quiesces.shape.blocks v

  closed_places : (v : ℕ) → log_place left.config v Fmr ≡ log_place core.inner.config v Fmr
  closed_places v =
      same_run (log_place core.inner.config v Fmr) (log_place left.config v Fmr) (λ r at. frames_places core.inner.config left.config closed_frames v Fmr r at)
      (λ r at. frames_places left.config core.inner.config (λ w. sym (closed_frames w)) v Fmr r at)

  -- a log that it trusts was trusted
  closed_trusted : (v : ℕ) → log_trusted left.config v Fmr ≡ true → log_trusted core.inner.config v Fmr ≡ true
  closed_trusted v is =
      left.quiesces.shape.trusted v Fmr
      ((all_clean left.behind.unsure (length core.inner.config.volumes) left.behind.config).alike.shape.trusted v Fmr (trusted_same left.config (cleaned left.behind.unsure left.behind.config (length core.inner.config.volumes)) left.volumes v is))

  closed_many : length left.config.volumes ≡ length core.inner.config.volumes
  closed_many = ap length left.volumes ∙ (all_clean left.behind.unsure (length core.inner.config.volumes) left.behind.config).alike.shape.volumes ∙ left.quiesces.shape.volumes

  module _ (w : MissedNote) (noted : MapsNoted w core.inner.config logs flags s) (d : Config) where
    abbrev left_note : MissedNote
    left_note = record {
      mapped = w.mapped;
      missed = missed_then w (live core.inner.config) (live d) none_missed;
      perhaps = perhaps_then w (live core.inner.config) (live d) no_plex;
      doubt = λ v. w.doubt v || not (ltb v (length core.inner.config.volumes));
      serial = left.config.serial;
    }

    module _ (same : d ≡ left.config) where
      count : (v : ℕ) → plexes_of d v ≡ plexes_of core.inner.config v
      count v = ap (λ (x : Config). plexes_of x v) same ∙ same_count core.inner.config left.config v (closed_frames v) (closed_blocks v)

      blocks : (v : ℕ) → blocks_of d.volumes v ≡ blocks_of core.inner.config.volumes v
      blocks v = ap (λ (x : Config). blocks_of x.volumes v) same ∙ closed_blocks v

      was_there : (v p r : ℕ) → IsThere d v p r → IsThere core.inner.config v p r
      was_there v p r it = record { plex = subst (λ (n : ℕ). p < n) (count v) it.plex; region = subst (λ (n : ℕ). r < n) (ap regions_of (blocks v)) it.region }

      stride : (v : ℕ) → stride_of d v ≡ stride_of core.inner.config v
      stride v = ap (λ (x : Config). stride_of x v) same ∙ by_size (blocks_of left.config.volumes v) (blocks_of core.inner.config.volumes v) (closed_blocks v)
        where
          by_size : (x y : ℕ) → x ≡ y → MAP_REGIONS * map_blocks x ≡ MAP_REGIONS * map_blocks y
          by_size x y is = ap (λ (n : ℕ). MAP_REGIONS * map_blocks n) is

      -- the map that memory had of a volume, as the disks have it
      pub record LeftMap (v p r : ℕ) (e : LogEntry) (i : Image) : Type 0 where
        pub map : Missed
        pub at : fmr_at logs v ≡ Some map
        pub logged : logged_in e i (p * stride_of d v + r) ≡ has_missed map p r

      left_map : (i : Image) → Each m'.leaves i → (e : LogEntry) (v p r : ℕ) → w.mapped v ≡ true → InUse d v Fmr e → IsThere d v p r → LeftMap v p r e i
      left_map i each e v p r on used it =
          let goes = sym (noted.mapped v) ∙ on in
          let f = map_in logs core.inner.config s v goes in
          let runs = going logs core.inner.config s v goes in
          let was = stood_lies core logs flags s m stands v p r f.0 runs f.1 (was_there v p r it) in
          let lies : MapLies core.inner.config v f.0 m' = (record { there = was.there; begins = was.begins; stride = was.stride; fit = was.fit; on = (maps runs).each v f.0 f.1 }) in
          let at = log_there core.inner.config d v (ap (λ (x : Config). log_place x v Fmr) same ∙ closed_places v) e used.is in
          record {
            map = f.0;
            at = f.1;
            logged = ap (λ (n : ℕ). logged_in e i (p * n + r)) (stride v) ∙ missed_logged core.inner.config v p r f.0 m' i e lies at each (was_there v p r it);
          }

      on_disk : (i : Image) → Each m'.leaves i → MapsOnDisk left_note d d i
      on_disk i each = record {
        most = λ e v p r on used it has.
            let now = left_map i each e v p r on used it in
            noted_b (live core.inner.config v p) (live d v p) false (w.mapped v) (w.missed v p r) (w.perhaps v p r) false (λ was gone. refl) on (noted.most v p r now.map on now.at (was_there v p r it) (sym now.logged ∙ has));
        least = λ e v p r on used it old has.
            let now = left_map i each e v p r on used it in
            elim (had_b (live core.inner.config v p) (w.mapped v) (w.missed v p r) false (off_has (live d v p) (stale_gone d v p old) v p r has)) [
              | inl none ↦ absurd (let clash : false ≡ true = none in cc)
              | inr had ↦
                  now.logged
                  ∙ noted.least v p r now.map on now.at (was_there v p r it) (off_of (active core.inner.config v p) (live core.inner.config v p) (λ is. on_live core.inner.config v p is) had.off) (had.noted on)
            ];
      }
        where
          off_has : (now : Bool) → now ≡ false → (v p r : ℕ) → missed_b (live core.inner.config v p) now (w.mapped v) (w.missed v p r) false ≡ true → missed_b (live core.inner.config v p) false (w.mapped v) (w.missed v p r) false ≡ true
          off_has now is v p r has = subst (λ (x : Bool). missed_b (live core.inner.config v p) x (w.mapped v) (w.missed v p r) false ≡ true) is has

      -- a map that rests was known, where its log is in use on a good disk
      good_disk : (v : ℕ) (e : LogEntry) → InUse d v Fmr e → failed_at d.disks e.disk ≡ false → on_failed_disk core.inner.config v Fmr ≡ false
      good_disk v e used good = by (on_failed_disk core.inner.config v Fmr) refl
        where
          at : LogThere core.inner.config v e
          at = log_there core.inner.config d v (ap (λ (x : Config). log_place x v Fmr) same ∙ closed_places v) e used.is

          by : (x : Bool) → on_failed_disk core.inner.config v Fmr ≡ x → on_failed_disk core.inner.config v Fmr ≡ false
          by false is = is
          by true is = absurd (
              let was : failed_at core.inner.config.disks at.entry.disk ≡ true = failed_entry core.inner.config.disks at.entry.disk at.entry (sym (ap (failed_under core.inner.config.disks) at.is) ∙ is) in
              let now : failed_at left.config.disks e.disk ≡ true = left.failing.stays e.disk (subst (λ (u : ℕ). failed_at core.inner.config.disks u ≡ true) at.disk was) in
              let clash : false ≡ true = sym good ∙ ap (λ (x : Config). failed_at x.disks e.disk) same ∙ now in
              cc
              )

      was_known : (r : Rested) (v : ℕ) (e : LogEntry) → rested ≡ Some r → rests r.maps v ≡ true → v < length d.volumes → InUse d v Fmr e → failed_at d.disks e.disk ≡ false → w.mapped v ≡ true
      was_known r v e is on low used good =
          let told : RestsMaps core.inner.config s logs flags r = rests_of core.inner.config s logs flags rested r rest is in
          let trusted : log_trusted core.inner.config v Fmr ≡ true = closed_trusted v (ap (λ (x : Config). log_trusted x v Fmr) (sym same) ∙ in_use_trusts d v e used) in
          let one = item_at logs v (let many = stands.many in let wide = (wide_shape core).volumes in let count = closed_many in let here = ap (λ (x : Config). length x.volumes) same in omega (arith, low, many, wide, count, here)) in
          noted.mapped v
          ∙ all_three s (on_failed_disk core.inner.config v Fmr) (is_some (fmr_at logs v)) told.going (good_disk v e used good)
          (some_of (fmr_at logs v) (λ none. told.there v one.0 one.1 on trusted (sym (ap fmr_or one.1) ∙ none)))

    left_like : MapsLike m m' core.inner.config d w left_note
    left_like = record {
      known = record { stays = λ v on. inl on; begins = λ v on. inl on; later = let was = noted.serial in let later = left.parts.later in omega (arith, was, later) };
      written = record {
        missed = λ v p r on. refl;
        perhaps = λ v p r on. refl;
        doubt = λ v lt. no_more (w.doubt v) (ltb v (length core.inner.config.volumes)) (lt-ltb v (length core.inner.config.volumes) lt);
      };
    }

    left_alike : (r : Rested) → rested ≡ Some r → (v : ℕ) → v < length d.volumes → left_note.doubt v ≡ false → rests r.alike v ≡ true
    left_alike r is v low sure =
        let both = sure_of (w.doubt v) (ltb v (length core.inner.config.volumes)) sure in
        (rests_of core.inner.config s logs flags rested r rest is).same v (noted.alike v (ltb-true v (length core.inner.config.volumes) both.1) both.0)

    left_mapped : (r : Rested) → rested ≡ Some r → (v : ℕ) → w.mapped v ≡ true → rests r.maps v ≡ true
    left_mapped r is v on =
        let f = map_in logs core.inner.config s v (sym (noted.mapped v) ∙ on) in
        (rests_of core.inner.config s logs flags rested r rest is).maps v f.0 f.1

    left_disks : IsCommitted d m' → DiskMaps left_note d m'
    left_disks all = record {
      each = λ i x each at.
          let one : x ≡ d = found_same d x (sym (all.finds i each) ∙ at) in
          subst (λ (y : Config). MapsOnDisk left_note d y i) (sym one) (on_disk (found_same left.config d (sym (left.finds i each) ∙ all.finds i each)) i each);
    }

    left_serial : IsCommitted d m' → (i : Image) → Each m'.leaves i → left.config.serial ≤ d.serial
    left_serial all i each = let same : d.serial ≡ left.config.serial = ap (λ (x : Config). x.serial) (found_same left.config d (sym (left.finds i each) ∙ all.finds i each)) in omega (arith, same)

    left_known : IsCommitted d m' → (i : Image) → Each m'.leaves i → (r : Rested) (v : ℕ) (e : LogEntry) → rested ≡ Some r → rests r.maps v ≡ true → v < length d.volumes → InUse d v Fmr e → failed_at d.disks e.disk ≡ false → w.mapped v ≡ true
    left_known all i each = was_known (found_same left.config d (sym (left.finds i each) ∙ all.finds i each))

  pub parts_left : PartsLeft (map_parts core.inner.config logs flags s) rested m m'
  parts_left = record {
    so = λ w d noted all. (
      left_note w noted d,
      left_like w noted d,
      record { all = all; disks = left_disks w noted d all; alike = λ r is v low sure. left_alike w noted d r is v low sure; maps = λ r is v on. left_mapped w noted d r is v on; serial = λ i each. left_serial w noted d all i each; known = λ i r v e each is on low used good. left_known w noted d all i each r v e is on low used good },
    );
  }

-- ---- a group that is given back

pub parts_back : (c d : GroupCore) (l k : List Logs) (s t : Bool) (a b : List Bool) (m m' : Meaning) → IsRack m → IsRack m' → GroupStands c m → GroupBack c d m m' → MapsBackIn c.inner.config d.inner.config s t l k a b m m'
    → PartsMoved (MapsLike m m') (map_parts c.inner.config l a s) (map_parts d.inner.config k b t) m'
parts_back c d l k s t a b m m' was now stands back kept =
    like_parts c d l k s t a b m m' was now stands back.stands back.quiesces.loses.frames back.quiesces.shape.volumes back.quiesces.shape.blocks kept.ends (kept.alike, kept.stopped) kept.comes
    (move_none c.inner.config d.inner.config l k (λ v. inl (ap (λ (ls : List Logs). fmr_at ls v) kept.logs)))

-- for want of serials it is as it was
pub quiet_back : (c d : GroupCore) (l k : List Logs) (s t : Bool) (a b : List Bool) (m m' : Meaning) (stop : Stop) → MapsBackIn c.inner.config d.inner.config s t l k a b m m' → (greatest - margin < c.inner.config.serial → d ≡ c)
    → (c.inner.config.serial ≤ greatest - margin → DetStops {T = Unit {0}} m m' (Err stop)) → MapsQuiet stop (PartsStay (map_parts c.inner.config l a s) (map_parts d.inner.config k b t))
quiet_back c d l k s t a b m m' (Refused why) kept full cause =
    quiet_serial (PartsStay (map_parts c.inner.config l a s) (map_parts d.inner.config k b t)) m m' c.inner.config.serial why
    (λ lt. stay_same c.inner.config d.inner.config l k a b s t kept.logs kept.alike kept.stopped (ap (λ (x : GroupCore). x.inner.config) (full lt))) cause
quiet_back c d l k s t a b m m' OutOfMemory kept full cause = elim (cases_lt (greatest - margin) c.inner.config.serial) [
  | inl lt ↦ stay_same c.inner.config d.inner.config l k a b s t kept.logs kept.alike kept.stopped (ap (λ (x : GroupCore). x.inner.config) (full lt))
  | inr le ↦ absurd (cause le)
]
