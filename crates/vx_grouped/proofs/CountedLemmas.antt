-- How many regions an attach copies, by what a site notes of the regions that plexes missed.
use Rattle.std.proofs.Common.{◌≡◌, ◌<◌, ◌&&◌, ℕ, zero, suc, Bool, true, false, List, refl, sym, ◌∙◌, ap, arith}
use Rattle.std.proofs.lemmas.Bool.{lt-leb}
use Rattle.std.specs.Prelude.{Option, Some, None, if◌then◌else◌, is_some, not, nat_le}
use Rattle.vx_config.specs.Checks.{plexes_of}
use Rattle.vx_config.specs.declared.config.Config.{Config}
use Rattle.vx_config.specs.declared.entry.VolumeLog.TheVariants.{Fmr}
use Rattle.vx_fmr.specs.Missed.{Missed, has_missed}
use Rattle.vx_group.specs.Attaches.{missed_regions, region_count}
use Rattle.vx_group.proofs.MissLemmas.{count_all}
use Rattle.vx_groupmaps.specs.Loading.{on_failed_disk}
use Rattle.vx_history.specs.Groups.{MissedNote}
use Rattle.vx_history.specs.Missing.{CopiesMissed, count_regions}
use Rattle.vx_logs.specs.declared.logs.Logs.{Logs}
use Rattle.vx_model.specs.Numbers.{one_if}
use Rattle.vx_resync.specs.Picks.{picked_below}
use Rattle.vx_volume.specs.Plexes.{active}
use Rattle.vx_loggroup.specs.Attaching.{fmr_at, map_by}
use Rattle.vx_grouped.specs.MapsNoted.{CopiesNoted, MapsNoted}
use Rattle.vx_grouped.proofs.NotedMapLemmas.{map_in}

one_or : (b : Bool) → one_if b ≡ (if b then 1 else 0)
one_or true = refl
one_or false = refl

-- both count the regions of a set
counts_same : (f : ℕ → Bool) (n : ℕ) → picked_below f n ≡ count_regions f n
counts_same f zero = refl
counts_same f (suc n) = let rest = counts_same f n in let one = one_or (f n) in omega (arith, rest, one)

-- the map of an attach is that in memory, where attaches go by it, and none else
by_four : (s le x : Bool) (o : Option Missed) → le ≡ false → (not s && (not x && is_some o)) ≡ true → (if s then None else (if false then None else (if le then None else (if x then None else o)))) ≡ o
by_four true le x o low on = let clash : false ≡ true = on in cc
by_four false true x o low on = let clash : true ≡ false = low in cc
by_four false false true o low on = let clash : false ≡ true = on in cc
by_four false false false o low on = refl

none_four : (s le x : Bool) (o : Option Missed) → (not s && (not x && is_some o)) ≡ false → (if s then None else (if false then None else (if le then None else (if x then None else o)))) ≡ None
none_four true le x o off = refl
none_four false true x o off = refl
none_four false false true o off = refl
none_four false false false None off = refl
none_four false false false (Some f) off = let clash : true ≡ false = off in cc

module _ (w : MissedNote) (c : Config) (logs : List Logs) (alike : List Bool) (s : Bool) (noted : MapsNoted w c logs alike s) (v p n : ℕ) (is : n ≡ missed_regions c v p (map_by logs c s false v p)) where
  -- where nothing is known of its maps all regions are copied
  pub copies_all : w.mapped v ≡ false → n ≡ region_count c v
  copies_all off =
      is ∙ ap (missed_regions c v p) (none_four s (nat_le (plexes_of c v) p) (on_failed_disk c v Fmr) (fmr_at logs v) (sym (noted.mapped v) ∙ off)) ∙ count_all c v p

  -- else those that it has missed, and perhaps more
  pub copies_noted : p < plexes_of c v → active c v p ≡ false → w.mapped v ≡ true → CopiesMissed w v p (region_count c v) n
  copies_noted low off on =
      let goes = sym (noted.mapped v) ∙ on in
      let f = map_in logs c s v goes in
      record {
        set = has_missed f.0 p;
        least = λ r below has. noted.least v p r f.0 on f.1 (record { plex = low; region = below }) off has;
        most = λ r below has. noted.most v p r f.0 on f.1 (record { plex = low; region = below }) has;
        count_is = is ∙ ap (missed_regions c v p) (by_four s (nat_le (plexes_of c v) p) (on_failed_disk c v Fmr) (fmr_at logs v) (lt-leb (plexes_of c v) p low) goes ∙ f.1) ∙ counts_same (has_missed f.0 p) (region_count c v);
      }

  pub counts_noted : p < plexes_of c v → active c v p ≡ false → CopiesNoted w c v p n
  counts_noted low off = record { unknown = copies_all; missed = copies_noted low off }
