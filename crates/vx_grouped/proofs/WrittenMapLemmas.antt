-- What plexes missed behind a call, by which of them took part before and behind it.
use Rattle.std.proofs.Common.{◌≡◌, ◌⊎◌, ◌≤◌, ◌+◌, ◌&&◌, ◌||◌, ℕ, Bool, true, false, List, refl, sym, ◌∙◌, ap, IsTrue, inl, inr, arith, ◌<◌, length}
use Rattle.std.specs.Prelude.{Option, Some, None, if◌then◌else◌, not, slice_get}
use Rattle.vx_config.specs.Table.{greatest}
use Rattle.vx_config.specs.declared.config.Config.{Config}
use Rattle.vx_history.specs.Groups.{MissedNote}
use Rattle.vx_config.specs.declared.entry.LogEntry.{LogEntry}
use Rattle.vx_config.specs.declared.entry.VolumeLog.TheVariants.{Fmr}
use Rattle.vx_disk.specs.Counts.{Rose}
use Rattle.vx_disk.specs.Shelf.{Meaning}
use Rattle.vx_history.specs.MapChanges.{MapsFailed, MapsGone, MapsWritten, StayKnown}
use Rattle.vx_history.specs.Missing.{first_failed, missed_then, no_plex, none_missed, perhaps_then, this_volume}
use Rattle.vx_kept.specs.LogRuns.{log_trusted}
use Rattle.vx_logs.specs.declared.logs.Logs.{Logs}
use Rattle.vx_maplog.specs.Logs.{log_of, used_or}
use Rattle.vx_loggroup.specs.Moving.{MapsEnd, goes_by}
use Rattle.vx_grouped.specs.MapsNoted.{MapsNoted}
use Rattle.vx_grouped.specs.SiteMaps.{FailedAt, map_disk_of, map_disk_or}
use Rattle.vx_kept.specs.Choice.{live}
use Rattle.vx_kept.specs.Keeping.{AllOn}
use Rattle.vx_kept.proofs.Narrower.{on_live}
use Rattle.vx_volume.specs.Plexes.{active, active_or}
use Rattle.vx_config.specs.Checks.{plexes_of, plexes_or}
use Rattle.vx_config.specs.declared.entry.PlexEntry.{PlexEntry}
use Rattle.vx_config.specs.declared.entry.VolumeEntry.{VolumeEntry}
use Rattle.vx_layout.specs.Places.{plex_in}
use Rattle.std.proofs.lemmas.Option.{slice_get_within}

-- by plexes that take part as those do
module _ (w next : MissedNote) (was now was' now' anew these : ℕ → ℕ → Bool) (before : (v p : ℕ) → was v p ≡ was' v p) (behind : (v p : ℕ) → now v p ≡ now' v p) where
  pub missed_as : (v p r : ℕ) → missed_then w was now these v p r ≡ missed_then w was' now' these v p r
  missed_as v p r =
      ap (λ (x : Bool). if x && not (now v p) then these v r else ((if w.mapped v then w.missed v p r else not x) || (not (now v p) && these v r))) (before v p)
      ∙ ap (λ (y : Bool). if was' v p && not y then these v r else ((if w.mapped v then w.missed v p r else not (was' v p)) || (not y && these v r))) (behind v p)

  pub perhaps_as : (v p r : ℕ) → perhaps_then w was now anew v p r ≡ perhaps_then w was' now' anew v p r
  perhaps_as v p r =
      ap (λ (x : Bool). not ((x && not (now v p)) && anew v p) && ((w.mapped v && w.perhaps v p r) || ((x && not (now v p)) && (if w.mapped v then w.missed v p r else not x)))) (before v p)
      ∙ ap (λ (y : Bool). not ((was' v p && not y) && anew v p) && ((w.mapped v && w.perhaps v p r) || ((was' v p && not y) && (if w.mapped v then w.missed v p r else not (was' v p))))) (behind v p)

  pub written_as : (count : ℕ) → MapsWritten count was now anew these w next → MapsWritten count was' now' anew these w next
  written_as count it = record {
    missed = λ v p r on. it.missed v p r on ∙ missed_as v p r;
    perhaps = λ v p r on. it.perhaps v p r on ∙ perhaps_as v p r;
    doubt = it.doubt;
  }

-- the same of a write that failed
module _ (w next : MissedNote) (was now was' now' : ℕ → ℕ → Bool) (vol : ℕ) (these : ℕ → ℕ → Bool) (before : (v p : ℕ) → was v p ≡ was' v p) (behind : (v p : ℕ) → now v p ≡ now' v p) where
  first_failed_as : (fell : Bool) (v p : ℕ) → first_failed w vol fell was v p ≡ first_failed w vol fell was' v p
  first_failed_as fell v p = ap (λ (x : Bool). this_volume vol v && (x && (not (w.doubt v) && fell))) (before v p)

  pub doubted_as : MapsFailed vol was now these w next → MapsFailed vol was' now' these w next
  doubted_as it = record {
    fell = it.fell;
    missed = λ v p r on.
        it.missed v p r on ∙ ap (λ (x : Bool). not x && missed_then w was now none_missed v p r) (first_failed_as it.fell v p)
        ∙ ap (λ (y : Bool). not (first_failed w vol it.fell was' v p) && y) (missed_as w next was now was' now' no_plex none_missed before behind v p r);
    perhaps = λ v p r on has. by v p r (it.perhaps v p r on has);
    doubt = it.doubt;
  }
    where
      by : (v p r : ℕ) → (these v r ≡ true) ⊎ ((first_failed w vol it.fell was v p ≡ false) × (perhaps_then w was now no_plex v p r ≡ true)) → (these v r ≡ true) ⊎ ((first_failed w vol it.fell was' v p ≡ false) × (perhaps_then w was' now' no_plex v p r ≡ true))
      by v p r (inl here) = inl here
      by v p r (inr (first, is)) = inr (sym (first_failed_as it.fell v p) ∙ first, sym (perhaps_as w next was now was' now' no_plex none_missed before behind v p r) ∙ is)

-- each plex that takes part is ACTIVE
pub live_active : (c : Config) → AllOn c → (v p : ℕ) → active c v p ≡ live c v p
live_active c all v p = by (active c v p) (live c v p) (λ on. on_live c v p on) (λ on. all.each v p on)
  where
    by : (x y : Bool) → (x ≡ true → y ≡ true) → (y ≡ true → x ≡ true) → x ≡ y
    by true y there back = sym (there refl)
    by false true there back = back refl
    by false false there back = refl

-- a plex that is ACTIVE is counted
pub on_count : (c : Config) (v p : ℕ) → active c v p ≡ true → p < plexes_of c v
unfolding active
on_count c v p on = by (slice_get c.volumes v) on
  where
    in_list : (plexes : List PlexEntry) (o : Option PlexEntry) → slice_get plexes p ≡ o → active_or o ≡ true → p < length plexes
    in_list plexes None is on = let clash : false ≡ true = on in cc
    in_list plexes (Some a) is on = slice_get_within plexes p a is

    by : (o : Option VolumeEntry) → active_or (plex_in o p) ≡ true → p < plexes_or o
    by None on = absurd (let clash : false ≡ true = on in cc)
    by (Some x) on = in_list x.plexes (slice_get x.plexes p) refl on

-- ---- which maps are known

disk_of : (o : Option LogEntry) → used_or o ≡ false → map_disk_or o ≡ None
disk_of None is = refl
disk_of (Some e) is = by e.lost refl is
  where
    by : (b : Bool) → e.lost ≡ b → not b ≡ false → (if e.lost then None else Some e.disk) ≡ None
    by true lost is = ap (λ (x : Bool). if x then None else Some e.disk) lost
    by false lost is = let clash : true ≡ false = is in cc

-- a log that is held as lost lies on no disk
lost_none : (c : Config) (v : ℕ) → log_trusted c v Fmr ≡ false → map_disk_of c v ≡ None
unfolding log_trusted
lost_none c v is = disk_of (log_of c v Fmr) is

module _ (w next : MissedNote) (c d : Config) (l k : List Logs) (s t : Bool) (flags : List Bool) (m m' : Meaning) (noted : MapsNoted w c l flags s) (mapped : (v : ℕ) → next.mapped v ≡ goes_by k d t v) (serial : next.serial ≡ d.serial)
    (up : IsTrue m'.down → ⊥) (rack : (u : ℕ) → Rose (m.faults u) (m'.faults u) → Rose (m.disk_faults u) (m'.disk_faults u)) (ends : MapsEnd c d s t l k m m') where
  -- of a log on this disk
  fails_on : (v : ℕ) (e : LogEntry) → log_of c v Fmr ≡ Some e → Rose (m.faults e.disk) (m'.faults e.disk) → MapsGone (FailedAt m m') (map_disk_of c) w next v
  fails_on v e at rose = by e.lost refl
    where
      by : (b : Bool) → e.lost ≡ b → MapsGone (FailedAt m m') (map_disk_of c) w next v
      by true lost = inr (inl (ap map_disk_or at ∙ ap (λ (x : Bool). if x then None else Some e.disk) lost))
      by false lost = inl (e.disk, ap map_disk_or at ∙ ap (λ (x : Bool). if x then None else Some e.disk) lost, rack e.disk rose)

  gone_by : (v : ℕ) → ((e : LogEntry) × (log_of c v Fmr ≡ Some e) × Rose (m.faults e.disk) (m'.faults e.disk)) ⊎ (log_trusted c v Fmr ≡ false) ⊎ IsTrue m'.down ⊎ (greatest ≤ c.serial + 54) ⊎ (greatest ≤ d.serial + 9)
      → MapsGone (FailedAt m m') (map_disk_of c) w next v
  gone_by v (inl (e, at, rose)) = fails_on v e at rose
  gone_by v (inr (inl lost)) = inr (inl (lost_none c v lost))
  gone_by v (inr (inr (inl down))) = absurd (up down)
  gone_by v (inr (inr (inr (inl far)))) = inr (inr (inl (let is = noted.serial in omega (arith, far, is))))
  gone_by v (inr (inr (inr (inr far)))) = inr (inr (inr (let is = serial in omega (arith, far, is))))

  pub stay_known : (Lost Begins : ℕ → Type 0) → ((v : ℕ) → goes_by l c s v ≡ false → goes_by k d t v ≡ true → Begins v) → StayKnown (FailedAt m m') Lost Begins (map_disk_of c) w next
  stay_known Lost Begins begins = record {
    stays = λ v on. stays v on (goes_by k d t v) refl;
    begins = λ v on. begun v on (goes_by l c s v) refl;
    later = let was = noted.serial in let later = ends.later in omega (arith, was, serial, later);
  }
    where
      stays : (v : ℕ) → w.mapped v ≡ true → (b : Bool) → goes_by k d t v ≡ b → (next.mapped v ≡ true) ⊎ MapsGone (FailedAt m m') (map_disk_of c) w next v ⊎ Lost v
      stays v on true is = inl (mapped v ∙ is)
      stays v on false is = inr (inl (gone_by v (ends.so v (sym (noted.mapped v) ∙ on) is)))

      begun : (v : ℕ) → next.mapped v ≡ true → (b : Bool) → goes_by l c s v ≡ b → (w.mapped v ≡ true) ⊎ Begins v
      begun v on true is = inl (noted.mapped v ∙ is)
      begun v on false is = inr (begins v is (sym (mapped v) ∙ on))
