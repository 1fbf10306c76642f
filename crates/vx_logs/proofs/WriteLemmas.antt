-- A write of a volume: marks, and then the plexes.
use Rattle.std.proofs.Common.{◌≡◌, ◌∙◌, inl, inr, ⊎_elim, ◌⊎◌, ℕ, ◌+◌, ◌*◌, ◌/◌, ◌%◌, ◌<◌, ◌≤◌, Bool, true, false, Option, Some, None, List, length, IsTrue, refl, sym, ap, subst, arith}
use Rattle.std.specs.Prelude.{◌&&◌, ◌||◌, ◌==◌, if◌then◌else◌, Err}
use Rattle.std.proofs.lemmas.Bool.{eq-eqb}
use Rattle.vx_model.specs.Sizes.{regions_of as regions_in}
use Rattle.vx_model.specs.declared.no.No.{No}
use Rattle.vx_model.specs.declared.no.No.TheVariants as refusal
use Rattle.vx_bitmap.proofs.Blocks.{by_block}
use Rattle.vx_bitmap.proofs.Runs.{slot_before}
use Rattle.vx_bitmap.specs.Bits.{is_marked}
use Rattle.vx_bitmap.specs.Maps.{Map, MapOn, map_block_count, marks_with, regions_mapped}
use Rattle.vx_config.specs.Checks.{blocks_of as blocks_in, is_sound, is_stale}
use Rattle.vx_config.specs.declared.entry.PlexEntry.{PlexEntry}
use Rattle.vx_model.specs.declared.site.PlexState.{PlexState}
use Rattle.vx_model.specs.declared.site.PlexState.TheVariants.{Active, Clean, Stale}
use Rattle.vx_config.specs.declared.config.Config.{Config}
use Rattle.vx_config.specs.declared.entry.LogEntry.{LogEntry}
use Rattle.vx_config.specs.declared.entry.VolumeLog.TheVariants.{Drl as DrlLog, Fmr as FmrLog}
use Rattle.vx_disk.specs.Counts.{Rose}
use Rattle.vx_disk.specs.Moves.{Along}
use Rattle.vx_disk.specs.Shelf.{Each, Goes, Image, Meaning, Or}
use Rattle.vx_disk.proofs.Causing.{Rose_after, Rose_before}
use Rattle.vx_disk.proofs.Moving.{both_Along, goes_Along}
use Rattle.vx_disk.proofs.Runs.{both_Goes, weaker}
use Rattle.vx_drl.specs.Dirty.{Dirty, is_dirty}
use Rattle.vx_fmr.specs.Missed.{Missed, has_missed, missed_place}
use Rattle.vx_drl.proofs.Keeping.{kept_of as drl_kept}
use Rattle.vx_fmr.proofs.Keeping.{kept_of as fmr_kept}
use Rattle.vx_layout.specs.Places.{place, plex_at}
use Rattle.vx_maplog.specs.Logs.{log_of}
use Rattle.vx_volume.specs.Plexes.{DisksFit, active, active_or, is_active}
use Rattle.vx_volume.specs.Volumes.{OnPlexes}
use Rattle.vx_logs.specs.Dirtying.{DrlEnds, DrlKeeps, DrlMarked}
use Rattle.vx_logs.specs.Held.{DrlRun, FmrRun, InUse, LogsFit, LogsStand, LogsWhole, logged_in, stale, stale_or}
use Rattle.vx_logs.specs.Marks.{AreMarked, MarksFirst, stride_of}
use Rattle.vx_logs.specs.Noting.{FmrAt, FmrEnds, FmrNoted, MayBeNoted, NotedAt, SameFmr, is_one, noted_region}
use Rattle.vx_logs.specs.Writes.{FmrAfter, IsPlexPut, MapsAt, MarkedLogs, MarkedAt, MarksLogs, NonePut, NoneTook, PutAt, PutsPlexes, Took, WasPut, WritesMarked, WritesPlexes, first_region, last_region, missed_after}
use Rattle.vx_logs.specs.declared.logs.Logs.{Logs}
use Rattle.vx_logs.specs.declared.logs.Lost.{Lost}
use Rattle.vx_logs.specs.declared.writing.Stored.{Stored}
use Rattle.vx_logs.proofs.LogLemmas.{stale_below}
use Rattle.vx_logs.proofs.MarkLemmas.{drl_ends, drl_run, fmr_run, logs_apart}
use Rattle.vx_logs.proofs.NoteLemmas.{among_is, noted_maybe, same_run, with_moved, with_there}
use Rattle.vx_logs.proofs.PutLemmas.{blamed_around, fmr_stays, last_around, last_inside, off_logs, write_off}

-- ---- the marks of an image

-- a region of a map by the value of its block
abbrev in_block : Map → Image → ℕ → Bool
in_block map i r = is_marked (i map.unit (map.first + r / 4096)) (r % 4096)

-- where the block is one that a crash might leave while the map stands, or one with the region marked
map_marked : (map : Map) (m : Meaning) (i : Image) (r : ℕ) → MapOn map m → r / 4096 < map_block_count map → is_marked map.bytes r ≡ true
    → m.leaves map.unit (map.first + r / 4096) (i map.unit (map.first + r / 4096)) ⊎ (in_block map i r ≡ true) → in_block map i r ≡ true
map_marked map m i r on low is (inl left) = ap (λ (x : List ℕ). is_marked x (r % 4096)) ((on.each (r / 4096) low).only (i map.unit (map.first + r / 4096)) left) ∙ sym (by_block map.bytes r) ∙ is
map_marked map m i r on low is (inr now) = now

-- a log of the configuration is the one in memory
same_log : (e : LogEntry) (map : Map) (i : Image) (r : ℕ) → e.disk ≡ map.unit → e.start ≡ map.first → in_block map i r ≡ logged_in e i r
same_log e map i r disk start = ap (λ (u : ℕ). is_marked (i u (map.first + r / 4096)) (r % 4096)) (sym disk) ∙ ap (λ (n : ℕ). is_marked (i e.disk (n + r / 4096)) (r % 4096)) (sym start)

one_entry : (o : Option LogEntry) (d e : LogEntry) → o ≡ Some d → o ≡ Some e → e ≡ d
one_entry o d e one two = let both : Some e ≡ Some d = sym two ∙ one in cc

-- a plex that is STALE is not ACTIVE
stale_off : (c : Config) (v p : ℕ) → IsTrue (stale c v p) → IsTrue (active c v p) → ⊥
unfolding stale active
stale_off c v p is on = by (plex_at c v p) is on
  where
    states : (s : PlexState) → is_stale s ≡ true → is_active s ≡ true → ⊥
    states Active is on = let clash : false ≡ true = is in absurd cc
    states Clean is on = let clash : false ≡ true = is in absurd cc
    states Stale is on = let clash : false ≡ true = on in absurd cc

    by : (o : Option PlexEntry) → stale_or o ≡ true → active_or o ≡ true → ⊥
    by None is on = let clash : false ≡ true = is in absurd cc
    by (Some x) is on = states x.state is on

-- ---- the logs behind marks of which none was lost

record DrlNow (first last : ℕ) (d : Dirty) (n : Option Dirty) (m m1 : Meaning) : Type 0 where
  new : Dirty
  is : n ≡ Some new
  marked : DrlMarked first last d new m m1

drl_now : (first last : ℕ) (lost : Bool) (o n : Option Dirty) (d : Dirty) (m m1 : Meaning) → lost ≡ false → o ≡ Some d → DrlEnds first last lost o n m m1 → DrlNow first last d n m m1
drl_now first last lost None n d m m1 kept is ends = absurd cc
drl_now first last lost (Some e) None d m m1 kept is ends = absurd (let clash : true ≡ false = sym ends.0 ∙ kept in cc)
drl_now first last lost (Some e) (Some g) d m m1 kept is ends = let same : e ≡ d = cc in record { new = g; is = refl; marked = subst (λ (x : Dirty). DrlMarked first last x g m m1) same ends.1 }

record FmrNow (those : ℕ → Bool) (anew : Bool) (first last : ℕ) (f : Missed) (n : Option Missed) (m m1 : Meaning) : Type 0 where
  new : Missed
  is : n ≡ Some new
  noted : FmrNoted those anew first last f new m m1

fmr_now : (those : ℕ → Bool) (anew : Bool) (first last : ℕ) (lost : Bool) (o n : Option Missed) (f : Missed) (m m1 : Meaning) → lost ≡ false → o ≡ Some f → FmrEnds those anew first last lost o n m m1 → FmrNow those anew first last f n m m1
fmr_now those anew first last lost None n f m m1 kept is ends = absurd cc
fmr_now those anew first last lost (Some e) None f m m1 kept is ends = absurd (let clash : true ≡ false = sym ends.0 ∙ kept in cc)
fmr_now those anew first last lost (Some e) (Some g) f m m1 kept is ends = let same : e ≡ f = cc in record { new = g; is = refl; noted = subst (λ (x : Missed). FmrNoted those anew first last x g m m1) same ends.1 }

-- what is written of a log lies in it
pub marked_run : (c : Config) (v first last : ℕ) (l : Logs) (m : Meaning) (u b : ℕ) (x : List ℕ) → MarkedAt c v first last l m u b x → DrlRun l.drl u b ⊎ FmrRun l.fmr u b
marked_run c v first last l m u b x (inl at) = inl (drl_run first last true l.drl m u b x at)
marked_run c v first last l m u b x (inr at) = inr (fmr_run (stale c v) false first last l.fmr m u b x at)

pub mark_Along : (c : Config) (v first last : ℕ) (l : Logs) (m m1 : Meaning) → Goes (MarkedAt c v first last l m) m m1 → Along m m1 (MarksFirst c v first last l m)
mark_Along c v first last l m m1 goes = goes_Along (MarkedAt c v first last l m) m m1 (MarksFirst c v first last l m) goes
    (λ i each. record { so = λ whole stand. inl (λ u b. ⊎_elim (λ was. inl was) (λ at. inr (record { here = marked_run c v first last l m u b (i u b) at })) (each u b)) })

maps_first : (c : Config) (v first last : ℕ) (o : Option Missed) (m : Meaning) (u b : ℕ) (x : List ℕ) → FmrAt (stale c v) false first last o m u b x → MapsAt c v first last o m u b x
maps_first c v first last None m u b x at = at
maps_first c v first last (Some f) m u b x at = record { run = at.run; so = λ on p r lt low. inl (at.so on p r lt low) }

pub mark_writes : (c : Config) (v block n : ℕ) (bytes : List ℕ) (l : Logs) (m m1 : Meaning) → Goes (MarkedAt c v (first_region block) (last_region block n) l m) m m1 → Goes (WritesPlexes c v block n bytes l m) m m1
mark_writes c v block n bytes l m m1 goes = weaker (MarkedAt c v (first_region block) (last_region block n) l m) (WritesPlexes c v block n bytes l m) m m1 goes
    (λ u b x. ⊎_elim (λ at. record { here = inr (inl at) }) (λ at. record { here = inr (inr (maps_first c v (first_region block) (last_region block n) l.fmr m u b x at)) }))

-- what a note of the plexes that failed leaves, behind the marks
maps_then : (c : Config) (v first last : ℕ) (lost : Bool) (o n : Option Missed) (m m1 : Meaning) (u b : ℕ) (x : List ℕ) → FmrEnds (stale c v) false first last lost o n m m1 → FmrAt (active c v) true first last n m1 u b x → MapsAt c v first last o m u b x
maps_then c v first last lost None None m m1 u b x ends at = at
maps_then c v first last lost None (Some g) m m1 u b x ends at = absurd ends
maps_then c v first last lost (Some f) None m m1 u b x ends at = absurd at
maps_then c v first last lost (Some f) (Some g) m m1 u b x ends at = record {
  run = same_run f g ends.1.same.place u b at.run;
  so = λ on p r lt low. by p r lt low (at.so (ends.1.stands on) p r (omega (arith, lt, ends.1.same.shape.plexes)) (omega (arith, low, ends.1.same.shape.stride))) (f.map.first + missed_place f p r / 4096 == b) refl;
}
  where
    by : (p r : ℕ) → p < f.plexes → r < f.stride → MayBeNoted (active c v) true first last p r (has_missed g p r) (marks_with g.map b x (missed_place g p r)) → (t : Bool) → (f.map.first + missed_place f p r / 4096 == b) ≡ t
        → MayBeNoted (stale c v) false first last p r (has_missed f p r) (marks_with f.map b x (missed_place f p r)) ⊎ MayBeNoted (active c v) true first last p r (has_missed f p r) (marks_with f.map b x (missed_place f p r))
    by p r lt low now false test = inl (inl (with_there f b x p r false test))
    by p r lt low now true test =
        let here : marks_with g.map b x (missed_place g p r) ≡ marks_with f.map b x (missed_place f p r) = with_moved f g b x ends.1.same p r true test ∙ sym (with_there f b x p r true test) in
        elim now [
          | inl same ↦ inl (subst (λ (w : Bool). MayBeNoted (stale c v) false first last p r (has_missed f p r) w) (sym same ∙ here) (noted_maybe (stale c v) false first last p r (has_missed f p r) (has_missed g p r) (ends.1.notes.each p r lt low)))
          | inr changed ↦ inr (inr (changed.0, ⊎_elim (λ set. inl (set.0, sym here ∙ set.1)) (λ off. inr (off.0, sym here ∙ off.1)) changed.1))
        ]

drl_run_on : (first last : ℕ) (lost : Bool) (o n : Option Dirty) (m m1 : Meaning) → lost ≡ false → DrlEnds first last lost o n m m1 → (u b : ℕ) → DrlRun o u b → DrlRun n u b
drl_run_on first last lost None n m m1 kept ends u b run = absurd run
drl_run_on first last lost (Some d) None m m1 kept ends u b run = absurd (let clash : true ≡ false = sym ends.0 ∙ kept in cc)
drl_run_on first last lost (Some d) (Some e) m m1 kept ends u b run =
    let place = ends.1.same.place in
    record { there = run.there ∙ sym place.unit; first = omega (arith, run.first, place.first); last = omega (arith, run.last, place.first, place.long) }

drl_stand : (first last : ℕ) (lost : Bool) (o n : Option Dirty) (m m1 : Meaning) → DrlEnds first last lost o n m m1 → ((d : Dirty) → o ≡ Some d → MapOn d.map m) → (e : Dirty) → n ≡ Some e → MapOn e.map m1
drl_stand first last lost None None m m1 ends on e is = absurd cc
drl_stand first last lost None (Some g) m m1 ends on e is = absurd ends
drl_stand first last lost (Some d) None m m1 ends on e is = absurd cc
drl_stand first last lost (Some d) (Some g) m m1 ends on e is = let same : g ≡ e = cc in subst (λ (x : Dirty). MapOn x.map m1) same (ends.1.stands (on d refl))

fmr_stand : (those : ℕ → Bool) (anew : Bool) (first last : ℕ) (lost : Bool) (o n : Option Missed) (m m1 : Meaning) → FmrEnds those anew first last lost o n m m1 → ((f : Missed) → o ≡ Some f → MapOn f.map m) → (g : Missed) → n ≡ Some g → MapOn g.map m1
fmr_stand those anew first last lost None None m m1 ends on e is = absurd cc
fmr_stand those anew first last lost None (Some g) m m1 ends on e is = absurd ends
fmr_stand those anew first last lost (Some d) None m m1 ends on e is = absurd cc
fmr_stand those anew first last lost (Some d) (Some g) m m1 ends on e is = let same : g ≡ e = cc in subst (λ (x : Missed). MapOn x.map m1) same (ends.1.stands (on d refl))

-- a note, and calls behind it that leave the map
fmr_over : (those : ℕ → Bool) (anew : Bool) (first last : ℕ) (lost : Bool) (o n : Option Missed) (m m1 m2 : Meaning) → ((u : ℕ) → m1.faults u ≤ m2.faults u) → ((g : Missed) → n ≡ Some g → MapOn g.map m1 → MapOn g.map m2)
    → FmrEnds those anew first last lost o n m m1 → FmrEnds those anew first last lost o n m m2
fmr_over those anew first last lost None None m m1 m2 counts stays ends = ends
fmr_over those anew first last lost None (Some g) m m1 m2 counts stays ends = ends
fmr_over those anew first last lost (Some f) None m m1 m2 counts stays ends = (ends.0, Rose_after (m.faults f.map.unit) (m1.faults f.map.unit) (m2.faults f.map.unit) ends.1 (counts f.map.unit))
fmr_over those anew first last lost (Some f) (Some g) m m1 m2 counts stays ends = (ends.0, record { same = ends.1.same; notes = ends.1.notes; stands = λ on. stays g refl (ends.1.stands on) })

-- both notes of a write
fmr_after : (c : Config) (v failed first last : ℕ) (none lost : Bool) (o k n : Option Missed) (m m1 m2 : Meaning) → none ≡ false → ((u : ℕ) → m.faults u ≤ m1.faults u)
    → FmrEnds (stale c v) false first last none o k m m1 → FmrEnds (is_one failed) true first last lost k n m1 m2 → FmrAfter c v failed first last lost o n m m2
fmr_after c v failed first last none lost None None None m m1 m2 kept counts one two = two
fmr_after c v failed first last none lost None None (Some g) m m1 m2 kept counts one two = absurd two
fmr_after c v failed first last none lost None (Some h) n m m1 m2 kept counts one two = absurd one
fmr_after c v failed first last none lost (Some f) None n m m1 m2 kept counts one two = absurd (let clash : true ≡ false = sym one.0 ∙ kept in cc)
fmr_after c v failed first last none lost (Some f) (Some h) None m m1 m2 kept counts one two = (
  two.0,
  subst (λ (u : ℕ). Rose (m.faults u) (m2.faults u)) one.1.same.place.unit (Rose_before (m.faults h.map.unit) (m1.faults h.map.unit) (m2.faults h.map.unit) (counts h.map.unit) two.1),
)
fmr_after c v failed first last none lost (Some f) (Some h) (Some g) m m1 m2 kept counts one two = (two.0, record { same = both one.1.same two.1.same; each = λ p r lt low. step p r lt low })
  where
    both : SameFmr f h → SameFmr h g → SameFmr f g
    both a b = record {
      place = record { unit = b.place.unit ∙ a.place.unit; first = b.place.first ∙ a.place.first; long = b.place.long ∙ a.place.long };
      shape = record { plexes = b.shape.plexes ∙ a.shape.plexes; stride = b.shape.stride ∙ a.shape.stride; regions = b.shape.regions ∙ a.shape.regions };
    }

    step : (p r : ℕ) → p < f.plexes → r < f.stride → has_missed g p r ≡ missed_after (stale c v p) (is_one failed p) first last r (has_missed f p r)
    step p r lt low =
        two.1.notes.each p r (omega (arith, lt, one.1.same.shape.plexes)) (omega (arith, low, one.1.same.shape.stride)) ∙ by (is_one failed p) (one.1.notes.each p r lt low)
      where
        by : (t : Bool) → has_missed h p r ≡ (if stale c v p then noted_region false first last r (has_missed f p r) else has_missed f p r)
            → (if t then noted_region true first last r (has_missed h p r) else has_missed h p r) ≡ missed_after (stale c v p) t first last r (has_missed f p r)
        by true is = refl
        by false is = is

module _ (c : Config) (sound : is_sound c ≡ true) (v block n : ℕ) (bytes : List ℕ) (positive : 0 < n) (volume : v < length c.volumes) (within : block + n ≤ blocks_in c.volumes v)
    (l l1 : Logs) (fits1 : LogsFit c v l1) (lost : Lost) (kept_drl : lost.drl ≡ false) (kept_fmr : lost.fmr ≡ false) (m m1 : Meaning) (fit1 : DisksFit c.disks m1)
    (marked : MarkedLogs c v (first_region block) (last_region block n) lost l l1 m m1) where
  abbrev first : ℕ
  first = first_region block

  abbrev last : ℕ
  last = last_region block n

  some : 0 < blocks_in c.volumes v
  some = omega (arith, positive, within)

  inside : last_region block n < regions_in (blocks_in c.volumes v)
  inside = last_inside (blocks_in c.volumes v) block n positive within

  module _ (whole : LogsWhole c v l) (stand : LogsStand l m) (i : Image) (each : Each (Or m1.leaves (PutAt c v block n bytes l1 m1)) i) where
    dirty : (e : LogEntry) → InUse c v DrlLog e → (r : ℕ) → first_region block ≤ r → r ≤ last_region block n → logged_in e i r ≡ true
    dirty e used r low high =
        let d = whole.drl e used in
        let now = drl_now (first_region block) (last_region block n) lost.drl l.drl l1.drl d.0 m m1 kept_drl d.1 marked.drl in
        let fits = fits1.drl now.new now.is in
        let entry : e ≡ fits.log.entry = one_entry (log_of c v DrlLog) fits.log.entry e fits.log.is used.is in
        let disk : e.disk ≡ now.new.map.unit = ap (λ (x : LogEntry). x.disk) entry ∙ sym fits.log.run.there in
        let start : e.start ≡ now.new.map.first = ap (λ (x : LogEntry). x.start) entry ∙ sym fits.log.run.begins in
        let kept = drl_kept c v now.new.map (blocks_in c.volumes v) now.new.regions fits.log refl some fits.regions in
        let few : r < regions_mapped now.new.map = omega (arith, high, inside, kept.fit, fits.regions) in
        let few_old : r < regions_mapped d.0.map = omega (arith, few, now.marked.same.place.long) in
        let is : is_marked now.new.map.bytes r ≡ true = now.marked.marks.each r few_old ∙ ap (λ (t : Bool). if t then true else is_dirty d.0 r) (among_is (first_region block) (last_region block n) r low high) in
        sym (same_log e now.new.map i r disk start)
        ∙ map_marked now.new.map m1 i r (now.marked.stands (stand.drl d.0 d.1)) (omega (arith, few, fits.log.run.long)) is (value now.new now.is r (omega (arith, few, fits.log.run.long)))
      where
        value : (g : Dirty) → l1.drl ≡ Some g → (r : ℕ) → r / 4096 < map_block_count g.map → m1.leaves g.map.unit (g.map.first + r / 4096) (i g.map.unit (g.map.first + r / 4096)) ⊎ (in_block g.map i r ≡ true)
        value g is r low =
            let run : DrlRun l1.drl g.map.unit (g.map.first + r / 4096) = subst (λ (o : Option Dirty). DrlRun o g.map.unit (g.map.first + r / 4096)) (sym is) (record { there = refl; first = omega arith; last = omega (arith, low) }) in
            elim (each g.map.unit (g.map.first + r / 4096)) [
              | inl left ↦ inl left
              | inr (inl on) ↦ absurd (write_off c sound v some l1 fits1 m1 fit1 block n bytes volume within g.map.unit (g.map.first + r / 4096) (i g.map.unit (g.map.first + r / 4096)) (inl run) on)
              | inr (inr at) ↦ absurd (logs_apart c sound v some l1 fits1 m1 fit1 g.map.unit (g.map.first + r / 4096) run (fmr_run (active c v) true (first_region block) (last_region block n) l1.fmr m1 g.map.unit (g.map.first + r / 4096) (i g.map.unit (g.map.first + r / 4096)) at))
            ]

    missed : (e : LogEntry) → InUse c v FmrLog e → (p r : ℕ) → IsTrue (stale c v p) → first_region block ≤ r → r ≤ last_region block n → logged_in e i (p * stride_of c v + r) ≡ true
    missed e used p r stale_is low high =
        let f = whole.fmr e used in
        let now = fmr_now (stale c v) false (first_region block) (last_region block n) lost.fmr l.fmr l1.fmr f.0 m m1 kept_fmr f.1 marked.fmr in
        let fits = fits1.fmr now.new now.is in
        let entry : e ≡ fits.log.entry = one_entry (log_of c v FmrLog) fits.log.entry e fits.log.is used.is in
        let disk : e.disk ≡ now.new.map.unit = ap (λ (x : LogEntry). x.disk) entry ∙ sym fits.log.run.there in
        let start : e.start ≡ now.new.map.first = ap (λ (x : LogEntry). x.start) entry ∙ sym fits.log.run.begins in
        let kept = fmr_kept c v now.new.map (blocks_in c.volumes v) now.new.plexes now.new.stride now.new.regions fits.log refl some fits.plexes fits.stride fits.regions in
        let lt : p < now.new.plexes = omega (arith, stale_below c v p stale_is, fits.plexes) in
        let narrow : r < now.new.stride = omega (arith, high, inside, kept.fit, fits.regions) in
        let few : missed_place now.new p r < regions_mapped now.new.map = omega (arith, narrow, slot_before p now.new.plexes now.new.stride lt, kept.all) in
        let block_low : missed_place now.new p r / 4096 < map_block_count now.new.map = omega (arith, few, fits.log.run.long) in
        let is : has_missed now.new p r ≡ true =
        now.noted.notes.each p r (omega (arith, lt, now.noted.same.shape.plexes)) (omega (arith, narrow, now.noted.same.shape.stride))
        ∙ ap (λ (t : Bool). if t then noted_region false (first_region block) (last_region block n) r (has_missed f.0 p r) else has_missed f.0 p r) stale_is
        ∙ ap (λ (t : Bool). t || (true && has_missed f.0 p r)) (among_is (first_region block) (last_region block n) r low high) in
        let stands = now.noted.stands (stand.fmr f.0 f.1) in
        ap (λ (s : ℕ). logged_in e i (p * s + r)) (sym fits.stride) ∙ sym (same_log e now.new.map i (missed_place now.new p r) disk start)
        ∙ map_marked now.new.map m1 i (missed_place now.new p r) stands block_low is (value now.new now.is p r stale_is stands lt narrow block_low is)
      where
        value : (g : Missed) → l1.fmr ≡ Some g → (p r : ℕ) → IsTrue (stale c v p) → MapOn g.map m1 → p < g.plexes → r < g.stride → missed_place g p r / 4096 < map_block_count g.map → has_missed g p r ≡ true
            → m1.leaves g.map.unit (g.map.first + missed_place g p r / 4096) (i g.map.unit (g.map.first + missed_place g p r / 4096)) ⊎ (in_block g.map i (missed_place g p r) ≡ true)
        value g is p r stale_is on lt narrow low was = by l1.fmr is (each g.map.unit (g.map.first + missed_place g p r / 4096))
          where
            x : List ℕ
            x = i g.map.unit (g.map.first + missed_place g p r / 4096)

            run : FmrRun l1.fmr g.map.unit (g.map.first + missed_place g p r / 4096)
            run = subst (λ (o : Option Missed). FmrRun o g.map.unit (g.map.first + missed_place g p r / 4096)) (sym is) (record { there = refl; first = omega arith; last = omega (arith, low) })

            own : marks_with g.map (g.map.first + missed_place g p r / 4096) (i g.map.unit (g.map.first + missed_place g p r / 4096)) (missed_place g p r) ≡ in_block g.map i (missed_place g p r)
            own = ap (λ (t : Bool). if t then in_block g.map i (missed_place g p r) else has_missed g p r) (eq-eqb (g.map.first + missed_place g p r / 4096) (g.map.first + missed_place g p r / 4096) refl)

            noted_here : NotedAt (active c v) true (first_region block) (last_region block n) g m1 g.map.unit (g.map.first + missed_place g p r / 4096) (i g.map.unit (g.map.first + missed_place g p r / 4096)) → in_block g.map i (missed_place g p r) ≡ true
            noted_here at = elim (at.so on p r lt narrow) [
              | inl same ↦ sym own ∙ same ∙ was
              | inr changed ↦ absurd (stale_off c v p stale_is changed.0)
            ]

            by : (o : Option Missed) → o ≡ Some g → Or m1.leaves (Or (OnPlexes c v block n bytes) (FmrAt (active c v) true (first_region block) (last_region block n) o m1)) g.map.unit (g.map.first + missed_place g p r / 4096) (i g.map.unit (g.map.first + missed_place g p r / 4096))
                → m1.leaves g.map.unit (g.map.first + missed_place g p r / 4096) (i g.map.unit (g.map.first + missed_place g p r / 4096)) ⊎ (in_block g.map i (missed_place g p r) ≡ true)
            by o o_is (inl left) = inl left
            by o o_is (inr (inl on_plex)) = absurd (write_off c sound v some l1 fits1 m1 fit1 block n bytes volume within g.map.unit (g.map.first + missed_place g p r / 4096) (i g.map.unit (g.map.first + missed_place g p r / 4096)) (inr run) on_plex)
            by o o_is (inr (inr at)) = inr (noted_here (subst (λ (q : Option Missed). FmrAt (active c v) true (first_region block) (last_region block n) q m1 g.map.unit (g.map.first + missed_place g p r / 4096) (i g.map.unit (g.map.first + missed_place g p r / 4096))) o_is at))

    pub are_marked : AreMarked c v (first_region block) (last_region block n) i
    are_marked = record { dirty = dirty; missed = missed }

  -- ---- the whole of it

  module _ (m2 : Meaning) (puts : Goes (PutAt c v block n bytes l1 m1) m1 m2) where
    pub first_Along : Goes (MarkedAt c v (first_region block) (last_region block n) l m) m m1 → Along m m2 (MarksFirst c v (first_region block) (last_region block n) l m)
    first_Along marks =
        both_Along m m1 m2 (MarksFirst c v (first_region block) (last_region block n) l m) marks.later (mark_Along c v (first_region block) (last_region block n) l m m1 marks)
        (goes_Along (PutAt c v block n bytes l1 m1) m1 m2 (MarksFirst c v (first_region block) (last_region block n) l m) puts (λ i each. record { so = λ whole stand. inr (are_marked whole stand i each) }))

    pub whole_writes : Goes (MarkedAt c v (first_region block) (last_region block n) l m) m m1 → Goes (WritesPlexes c v block n bytes l m) m m2
    whole_writes marks =
        weaker (Or (WritesPlexes c v block n bytes l m) (PutAt c v block n bytes l1 m1)) (WritesPlexes c v block n bytes l m) m m2
        (both_Goes (WritesPlexes c v block n bytes l m) (PutAt c v block n bytes l1 m1) m m1 m2 (mark_writes c v block n bytes l m m1 marks) puts)
        (λ u b x. ⊎_elim (λ at. at) (⊎_elim (λ on. record { here = inl on }) (λ at. record { here = inr (inr (maps_then c v (first_region block) (last_region block n) lost.fmr l.fmr l1.fmr m m1 u b x marked.fmr at)) })))

    -- the dirty region log is in none of the blocks
    puts_off : (u b : ℕ) (x : List ℕ) → DrlRun l.drl u b → PutAt c v block n bytes l1 m1 u b x → ⊥
    puts_off u b x run = ⊎_elim (write_off c sound v some l1 fits1 m1 fit1 block n bytes volume within u b x (inl (drl_run_on (first_region block) (last_region block n) lost.drl l.drl l1.drl m m1 kept_drl marked.drl u b run)))
        (λ at. logs_apart c sound v some l1 fits1 m1 fit1 u b (drl_run_on (first_region block) (last_region block n) lost.drl l.drl l1.drl m m1 kept_drl marked.drl u b run) (fmr_run (active c v) true (first_region block) (last_region block n) l1.fmr m1 u b x at))

    -- a plex of which the write was told behind the marks took it from the start
    took_from : Goes (MarkedAt c v (first_region block) (last_region block n) l m) m m1 → LogsFit c v l → DisksFit c.disks m → (p : ℕ) → IsTrue (active c v p) → (IsTrue m1.down → ⊥) → Took c v block n bytes m1 m2 p → Took c v block n bytes m m2 p
    took_from marks fits fit p is_on up took = record {
      each = λ k x in_it is. elim (took.each k x in_it is) [
        | inl put ↦ inl put
        | inr out ↦ inr (
          out.0,
          elim (marks.reads (place c v p k).0 (place c v p k).1 x out.1) [
            | inl (inl was) ↦ was
            | inl (inr at) ↦ absurd (off_logs c sound v some l fits m fit p k (place c v p k).0 (place c v p k).1 in_it is_on refl (marked_run c v (first_region block) (last_region block n) l m (place c v p k).0 (place c v p k).1 x at))
            | inr down ↦ absurd (up down)
          ],
        )
      ];
    }

    pub was_put : Goes (MarkedAt c v (first_region block) (last_region block n) l m) m m1 → LogsFit c v l → DisksFit c.disks m → (IsTrue m1.down → ⊥) → DrlKeeps l.drl l1.drl → (stored : Stored) (l2 : Logs) → IsPlexPut c v block n bytes stored l1 l2 m1 m2
        → WasPut c v block n bytes stored l l2 m m2
    was_put marks fits fit up keeps stored l2 put = record {
      plexes = record {
        is_done = λ p is_on out. took_from marks fits fit p is_on up (put.plexes.is_done p is_on out);
        blamed = λ p in_set. let it = put.plexes.blamed p in_set in (it.0, blamed_around c v p m m1 m2 m2 marks.faults (λ u. omega arith) it.1);
        some = put.plexes.some;
        up = put.plexes.up;
      };
      disk = last_around stored.failed m m1 m2 m2 marks.disk_faults (λ u. omega arith) put.disk;
      drl = drl_after keeps l2 put.drl;
      fmr = fmr_after c v stored.failed.set (first_region block) (last_region block n) lost.fmr stored.lost l.fmr l1.fmr l2.fmr m m1 m2 kept_fmr (λ u. marks.faults u) marked.fmr put.fmr;
      stands = λ on. put.stands (logs_then on);
    }
      where
        logs_then : LogsStand l m → LogsStand l1 m1
        logs_then on = record { drl = λ d is. drl_stand (first_region block) (last_region block n) lost.drl l.drl l1.drl m m1 marked.drl on.drl d is; fmr = λ f is. fmr_stand (stale c v) false (first_region block) (last_region block n) lost.fmr l.fmr l1.fmr m m1 marked.fmr on.fmr f is }

        drl_after : DrlKeeps l.drl l1.drl → (l2 : Logs) → l2.drl ≡ l1.drl → DrlEnds (first_region block) (last_region block n) false l.drl l2.drl m m2
        drl_after keeps l2 same =
            subst (λ (o : Option Dirty). DrlEnds (first_region block) (last_region block n) false l.drl o m m2) (sym same)
            (subst (λ (b : Bool). DrlEnds (first_region block) (last_region block n) b l.drl l1.drl m m2) kept_drl (drl_ends (first_region block) (last_region block n) lost.drl l.drl l1.drl (PutAt c v block n bytes l1 m1) m m1 m2 keeps puts puts_off marked.drl))

    pub none_took : Goes (MarkedAt c v (first_region block) (last_region block n) l m) m m1 → DrlKeeps l.drl l1.drl → (disk : ℕ) (l2 : Logs) → NonePut c v block n bytes disk l1 l2 m1 m2 → NoneTook c v block n disk l l2 m m2
    none_took marks keeps disk l2 put = record {
      plexes = record {
        each = λ p is_on. blamed_around c v p m m1 m2 m2 marks.faults (λ u. omega arith) (put.plexes.each p is_on);
        rose = Rose_before (m.disk_faults disk) (m1.disk_faults disk) (m2.disk_faults disk) (marks.disk_faults disk) put.plexes.rose;
        up = put.plexes.up;
      };
      marked = record {
        drl = subst (λ (o : Option Dirty). DrlEnds (first_region block) (last_region block n) false l.drl o m m2) (sym put.drl)
            (subst (λ (b : Bool). DrlEnds (first_region block) (last_region block n) b l.drl l1.drl m m2) kept_drl
            (drl_ends (first_region block) (last_region block n) lost.drl l.drl l1.drl (OnPlexes c v block n bytes) m m1 m2 keeps put.writes (λ u b x run on. puts_off u b x run (inl on)) marked.drl));
        fmr = subst (λ (o : Option Missed). FmrEnds (stale c v) false (first_region block) (last_region block n) false l.fmr o m m2) (sym put.fmr)
            (subst (λ (b : Bool). FmrEnds (stale c v) false (first_region block) (last_region block n) b l.fmr l1.fmr m m2) kept_fmr
            (fmr_over (stale c v) false (first_region block) (last_region block n) lost.fmr l.fmr l1.fmr m m1 m2 put.writes.faults (fmr_stays c sound v some l1 fits1 m1 fit1 block n bytes volume within m2 put.writes) marked.fmr));
        up = λ down. absurd (put.plexes.up down);
      };
    }

    pub puts_refused : Goes (MarkedAt c v (first_region block) (last_region block n) l m) m m1 → DrlKeeps l.drl l1.drl → (l2 : Logs) (no : No) → PutsPlexes c v block n bytes l1 l2 m1 m2 (Err no) → WritesMarked c v block n bytes l l2 m m2 (Err no)
    puts_refused marks keeps l2 (refusal.Device disk) put = none_took marks keeps disk l2 put
    puts_refused marks keeps l2 refusal.Down down = down
    puts_refused marks keeps l2 other none = absurd none

pub marks_refused : (c : Config) (v block n : ℕ) (bytes : List ℕ) (first last : ℕ) (l l' : Logs) (m m' : Meaning) (no : No) → MarksLogs c v first last l l' m m' (Err no) → WritesMarked c v block n bytes l l' m m' (Err no)
marks_refused c v block n bytes first last l l' m m' (refusal.Device disk) none = absurd none
marks_refused c v block n bytes first last l l' m m' refusal.Down down = down
marks_refused c v block n bytes first last l l' m m' other none = absurd none

-- a log that was marked stands where it stood
pub ends_keep : (first last : ℕ) (lost : Bool) (o n : Option Dirty) (m m1 : Meaning) → DrlEnds first last lost o n m m1 → DrlKeeps o n
ends_keep first last lost None None m m1 ends = tt
ends_keep first last lost None (Some g) m m1 ends = ends
ends_keep first last lost (Some d) None m m1 ends = tt
ends_keep first last lost (Some d) (Some g) m m1 ends = ends.1.same
