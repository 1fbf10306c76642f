-- The log of missed regions of a volume as it begins anew, beside its dirty region log.
use Rattle.std.proofs.Common.{◌≡◌, ◌∙◌, ◌⊎◌, inl, inr, ℕ, ◌+◌, ◌-◌, ◌/◌, ◌<◌, ◌≤◌, Bool, true, false, Option, Some, None, List, IsTrue, ⊎_elim, refl, sym, ap, subst, arith}
use Rattle.vx_bitmap.specs.Maps.{MapOn, map_block_count}
use Rattle.vx_config.specs.Checks.{blocks_of as blocks_in, is_sound}
use Rattle.vx_config.specs.declared.config.Config.{Config}
use Rattle.vx_config.specs.declared.entry.LogEntry.{LogEntry}
use Rattle.vx_config.specs.declared.entry.VolumeLog.TheVariants.{Drl as DrlLog, Fmr as FmrLog}
use Rattle.vx_disk.specs.Moves.{Run, Settled}
use Rattle.vx_disk.specs.Shelf.{Goes, Meaning, Or}
use Rattle.vx_disk.proofs.Runs.{both_Goes, weaker}
use Rattle.vx_drl.specs.Dirty.{Dirty, is_dirty}
use Rattle.vx_fmr.specs.Missed.{FmrLoaded, Missed, has_missed}
use Rattle.vx_groupmaps.specs.Knowing.{MapsKnow}
use Rattle.vx_groupmaps.specs.Missing.{HoldMissed, OnMaps}
use Rattle.vx_groupmaps.proofs.MapPlaces.{maps_on}
use Rattle.vx_kept.specs.Groups.{OnSome}
use Rattle.vx_kept.specs.Keeping.{AllOn}
use Rattle.vx_layout.specs.Places.{HasBlock, place}
use Rattle.vx_logs.specs.Held.{DrlRun, FmrRun, LogsFit, LogsStand, stale}
use Rattle.vx_logs.specs.Dirtying.{DrlEnds}
use Rattle.vx_logs.specs.Writes.{MarkedAt, MarkedLogs, first_region, last_region}
use Rattle.vx_logs.specs.declared.logs.Lost.{Lost}
use Rattle.vx_logs.specs.declared.logs.Logs.{Logs}
use Rattle.vx_logs.proofs.LogLemmas.{log_placed, logs_off}
use Rattle.vx_logs.proofs.WriteLemmas.{marked_run}
use Rattle.vx_maplog.specs.Logs.{log_of}
use Rattle.vx_volume.specs.Plexes.{DisksFit}
use Rattle.vx_wire.specs.Fields.{zero_bytes}
use Rattle.vx_grouplogs.specs.Covering.{OnLogs}
use Rattle.vx_grouplogs.specs.Mapping.{map_logs}
use Rattle.vx_grouplogs.specs.On.{VolumeOn}
use Rattle.vx_group.specs.Settles.{ReadsOne}
use Rattle.vx_grouplogs.specs.Zeroing.{AreZeros, ZerosIn}
use Rattle.vx_grouplogs.proofs.CoverLemmas.{alike_stays, mark_stands, plex_stays, region_inside}
use Rattle.vx_grouplogs.proofs.FreshLemmas.{fresh_active}
use Rattle.vx_grouplogs.proofs.LogPlaces.{entry_blocks, logs_beside}

pub maps_logs : (c : Config) (v u b : ℕ) (x : List ℕ) → OnMaps c v u b x → OnLogs c v u b x
maps_logs c v u b x on = record { log = FmrLog; entry = on.entry; is = on.is; run = on.run }

pub goes_logs : (c : Config) (v : ℕ) (m m' : Meaning) → Goes (OnMaps c v) m m' → Goes (OnLogs c v) m m'
goes_logs c v m m' goes = weaker (OnMaps c v) (OnLogs c v) m m' goes (maps_logs c v)

-- zeros of its run are of it
pub zeros_maps : (c : Config) (v : ℕ) (e : LogEntry) (m m' : Meaning) → log_of c v FmrLog ≡ Some e → Goes (ZerosIn e.disk e.start e.blocks) m m' → Goes (OnMaps c v) m m'
zeros_maps c v e m m' is goes = weaker (ZerosIn e.disk e.start e.blocks) (OnMaps c v) m m' goes (λ u b x put. record { entry = e; is = is; run = put.run })

entry_one : (o : Option LogEntry) (e f : LogEntry) → o ≡ Some e → o ≡ Some f → e ≡ f
entry_one o e f one two = let both : Some e ≡ Some f = sym one ∙ two in cc

-- behind them a crash leaves one value of each block of it
pub maps_settled : (c : Config) (v : ℕ) (e : LogEntry) (f : Missed) (m : Meaning) → log_of c v FmrLog ≡ Some e → map_block_count f.map ≤ e.blocks → FmrLoaded c v f → AreZeros e.disk e.start e.blocks m → Settled m (Run f.map.unit f.map.first (map_block_count f.map))
maps_settled c v e f m is low loaded zeros = record {
  each = λ u b y z run left_y left_z. at u b y run left_y ∙ sym (at u b z run left_z);
}
  where
    same : loaded.log.entry ≡ e
    same = entry_one (log_of c v FmrLog) loaded.log.entry e loaded.log.is is

    at : (u b : ℕ) (y : List ℕ) → Run f.map.unit f.map.first (map_block_count f.map) u b → m.leaves u b y → y ≡ zero_bytes 512
    at u b y run left =
        let start : f.map.first ≡ e.start = loaded.log.run.begins ∙ ap (λ (x : LogEntry). x.start) same in
        let unit : u ≡ e.disk = run.there ∙ loaded.log.run.there ∙ ap (λ (x : LogEntry). x.disk) same in
        let place : b ≡ e.start + (b - e.start) = omega (arith, run.first, start) in
        zeros.each (b - e.start) y (omega (arith, run.first, run.last, start, low)) (subst (λ (n : ℕ). m.leaves e.disk n y) place (subst (λ (n : ℕ). m.leaves n b y) unit left))

pub map_low : (c : Config) → is_sound c ≡ true → (v : ℕ) → 0 < blocks_in c.volumes v → (e : LogEntry) (f : Missed) (m : Meaning) → DisksFit c.disks m → log_of c v FmrLog ≡ Some e → FmrLoaded c v f → map_block_count f.map ≤ e.blocks
map_low c sound v some e f m fit is loaded =
    let put = log_placed c v FmrLog f.map m sound some fit loaded.log in
    let same : loaded.log.entry ≡ e = entry_one (log_of c v FmrLog) loaded.log.entry e loaded.log.is is in
    let blocks : loaded.log.entry.blocks ≡ e.blocks = ap (λ (x : LogEntry). x.blocks) same in
    omega (arith, put.blocks, blocks, loaded.log.run.long)

-- marks of maps by themselves
pub bare_maps : (c : Config) → is_sound c ≡ true → (v : ℕ) → 0 < blocks_in c.volumes v → (l : Logs) → l.drl ≡ None → LogsFit c v l → (m : Meaning) → DisksFit c.disks m → (first last : ℕ) (m' : Meaning) → Goes (MarkedAt c v first last l m) m m' → Goes (OnMaps c v) m m'
bare_maps c sound v some l none fits m fit first last m' goes = weaker (MarkedAt c v first last l m) (OnMaps c v) m m' goes on
  where
    on : (u b : ℕ) (x : List ℕ) → MarkedAt c v first last l m u b x → OnMaps c v u b x
    on u b x at = by l.drl l.fmr none refl (marked_run c v first last l m u b x at)
      where
        by : (o : Option Dirty) (q : Option Missed) → o ≡ None → l.fmr ≡ q → DrlRun o u b ⊎ FmrRun q u b → OnMaps c v u b x
        by None q is is' (inl run) = absurd run
        by (Some d) q is is' (inl run) = absurd (let clash : Some d ≡ None = is in cc)
        by o None is is' (inr run) = absurd run
        by o (Some f) is is' (inr run) = maps_on c sound v some f (fits.fmr f is') m fit u b x run

-- ---- the dirty region log of the volume beside it

module _ (c : Config) (sound : is_sound c ≡ true) (v : ℕ) (some : 0 < blocks_in c.volumes v) (m m' : Meaning) (fit : DisksFit c.disks m) (goes : Goes (OnMaps c v) m m') where
  drl_still : (e : LogEntry) (k : ℕ) (x : List ℕ) → log_of c v DrlLog ≡ Some e → k < e.blocks → m'.leaves e.disk (e.start + k) x → m.leaves e.disk (e.start + k) x
  drl_still e k x is lt left = elim (goes.leaves e.disk (e.start + k) x left) [
    | inl was ↦ was
    | inr on ↦ absurd (logs_off c sound v e on.entry is on.is on.run.there (e.start + k) (omega arith) (omega (arith, lt)) on.run.first on.run.last)
  ]

  pub on_mapped : (l : Logs) (o : Option Missed) → ((f : Missed) → o ≡ Some f → FmrLoaded c v f) → ((f : Missed) → o ≡ Some f → MapOn f.map m') → VolumeOn c v l m → VolumeOn c v (record { drl = l.drl; fmr = o }) m'
  on_mapped l o loaded on_map on = record {
    fits = record { drl = on.fits.drl; fmr = loaded };
    stands = record {
      drl = λ d is. record {
        each = λ k lt. record {
          only = λ x left.
              let it = (on.fits.drl d is).log in
              let blocks = entry_blocks c sound v some m fit it.entry it.is in
              let long = it.run.long in
              let at : m'.leaves it.entry.disk (it.entry.start + k) x = subst (λ (n : ℕ). m'.leaves it.entry.disk (n + k) x) it.run.begins (subst (λ (u : ℕ). m'.leaves u (d.map.first + k) x) it.run.there left) in
              let was = drl_still it.entry k x it.is (omega (arith, lt, blocks, long)) at in
              ((on.stands.drl d is).each k lt).only x (subst (λ (u : ℕ). m.leaves u (d.map.first + k) x) (sym it.run.there) (subst (λ (n : ℕ). m.leaves it.entry.disk (n + k) x) (sym it.run.begins) was));
        };
      };
      fmr = on_map;
    };
    memory = record { so = λ d is. alike_stays c sound v (OnMaps c v) m m' goes (maps_logs c v) v (is_dirty d) (is_dirty d) (λ b inside off. off) (on.memory.so d is) };
    disk = λ trusted. record {
      so = λ e b p q x y z is inside on_p on_q left off at_p at_q.
          let blocks = entry_blocks c sound v some m fit e is in
          (on.disk trusted).so e b p q x y z is inside on_p on_q
          (drl_still e ((b / 64) / 4096) z is (omega (arith, blocks, region_inside (blocks_in c.volumes v) b inside.within)) left) off
          (plex_stays c sound v (OnMaps c v) m m' goes (maps_logs c v) v p b x inside on_p at_p) (plex_stays c sound v (OnMaps c v) m m' goes (maps_logs c v) v q b y inside on_q at_q);
    };
  }

-- ---- what new maps know

pub new_knows : (c : Config) (v : ℕ) (o : Option Missed) (m : Meaning) → AllOn c → ((IsTrue m.down → ⊥) → ReadsOne c v m) → HoldMissed c v (first_region 0) (last_region 0 (blocks_in c.volumes v)) (map_logs o) → (l : Logs) → l.fmr ≡ o → MapsKnow c v l m
new_knows c v o m all one holds l same = record {
  so = λ f is up. record {
    so = λ p q b x y has on inside clear at_p at_q.
        (one up).one b x y (record { inside = inside; plex = p; is_on = fresh_active c v p b all has (fresh f is p b has clear (stale c v p) refl); value = at_p }) (record { inside = inside; plex = q; is_on = on; value = at_q });
  };
}
  where
    fresh : (f : Missed) → l.fmr ≡ Some f → (p b : ℕ) → HasBlock c v p b → has_missed f p (b / 64) ≡ false → (t : Bool) → stale c v p ≡ t → stale c v p ≡ false
    fresh f is p b has clear true on = absurd (let block = has.block in let clash : true ≡ false = sym (holds.so f (sym same ∙ is) p (b / 64) on (omega arith) (omega (arith, block))) ∙ clear in cc)
    fresh f is p b has clear false off = off

-- the configuration's disks fit behind calls on the log
pub fit_behind : (c : Config) (v : ℕ) (m m' : Meaning) → DisksFit c.disks m → Goes (OnMaps c v) m m' → DisksFit c.disks m'
fit_behind c v m m' fit goes = record { there = λ u lt. let low = fit.there u lt in let same = goes.units in omega (arith, low, same); size = λ u lt. goes.size u ∙ fit.size u lt }

pub maps_then : (c : Config) (v : ℕ) (m m1 m2 : Meaning) → Goes (OnMaps c v) m m1 → Goes (OnMaps c v) m1 m2 → Goes (OnMaps c v) m m2
maps_then c v m m1 m2 one two = weaker (Or (OnMaps c v) (OnMaps c v)) (OnMaps c v) m m2 (both_Goes (OnMaps c v) (OnMaps c v) m m1 m2 one two) (λ u b x. ⊎_elim (λ on. on) (λ on. on))

no_marks : (first last : ℕ) (lost : Bool) (o n : Option Dirty) (m m' : Meaning) → o ≡ None → DrlEnds first last lost o n m m' → n ≡ None
no_marks first last lost None None m m' is ends = refl
no_marks first last lost None (Some e) m m' is ends = absurd ends
no_marks first last lost (Some d) n m m' is ends = absurd (let clash : Some d ≡ None = is in cc)

-- marks of maps by themselves stand
pub bare_stands : (c : Config) → is_sound c ≡ true → (v : ℕ) → 0 < blocks_in c.volumes v → (l : Logs) → LogsFit c v l → (m : Meaning) → DisksFit c.disks m → (first last : ℕ) (m' : Meaning) → Goes (MarkedAt c v first last l m) m m' → (lost : Lost) (l' : Logs) → MarkedLogs c v first last lost l l' m m'
    → LogsStand l m → (f : Missed) → l'.fmr ≡ Some f → MapOn f.map m'
bare_stands c sound v some l fits m fit first last m' goes lost l' marked stand f is = (mark_stands c sound v some l fits m fit first last m' goes lost l' marked stand).fmr f is

-- a volume reads as one value behind calls on the log
pub behind_one : (c : Config) → is_sound c ≡ true → (v : ℕ) (m m' : Meaning) → Goes (OnMaps c v) m m' → ((IsTrue m.down → ⊥) → ReadsOne c v m) → (IsTrue m'.down → ⊥) → ReadsOne c v m'
behind_one c sound v m m' goes one up = record { one = λ b x y at_x at_y. (one (λ down. up (goes.falls down))).one b x y (back b x at_x) (back b y at_y) }
  where
    back : (b : ℕ) (x : List ℕ) → OnSome c m'.reads v b x → OnSome c m.reads v b x
    back b x is = elim (goes.reads (place c v is.plex b).0 (place c v is.plex b).1 x is.value) [
      | inl (inl was) ↦ record { inside = is.inside; plex = is.plex; is_on = is.is_on; value = was }
      | inl (inr on) ↦ absurd (logs_beside c sound v v is.plex b (place c v is.plex b).0 (place c v is.plex b).1 x is.inside is.is_on refl (maps_logs c v (place c v is.plex b).0 (place c v is.plex b).1 x on))
      | inr down ↦ absurd (up down)
    ]
