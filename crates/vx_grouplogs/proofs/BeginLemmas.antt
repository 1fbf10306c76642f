-- A dirty region log that begins without marks.
use Rattle.std.proofs.Common.{◌≡◌, ◌∙◌, ⊎_elim, ℕ, ◌+◌, ◌-◌, ◌<◌, ◌≤◌, true, false, Option, Some, None, List, refl, sym, ap, subst, arith}
use Rattle.vx_bitmap.specs.Maps.{MapOn, map_block_count}
use Rattle.vx_config.specs.Checks.{blocks_of as blocks_in, is_sound}
use Rattle.vx_config.specs.declared.config.Config.{Config}
use Rattle.vx_config.specs.declared.entry.LogEntry.{LogEntry}
use Rattle.vx_config.specs.declared.entry.VolumeLog.TheVariants.{Drl}
use Rattle.vx_disk.specs.Moves.{Run, Settled}
use Rattle.vx_disk.specs.Shelf.{Goes, Lawful, Meaning, Nothing, Or}
use Rattle.vx_disk.proofs.Runs.{both_Goes, then_nothing, weaker}
use Rattle.vx_drl.specs.Dirty.{Dirty, DrlLoaded}
use Rattle.vx_logs.specs.Held.{DrlFits}
use Rattle.vx_logs.specs.declared.logs.Logs.{Logs}
use Rattle.vx_maplog.specs.Logs.{log_of}
use Rattle.vx_volume.specs.Plexes.{DisksFit}
use Rattle.vx_wire.specs.Fields.{zero_bytes}
use Rattle.vx_grouplogs.specs.Covering.{AllAlike, OnLogs}
use Rattle.vx_grouplogs.specs.Keeps.{KeepsGroup}
use Rattle.vx_grouplogs.specs.Marking.{NoMarks, dirty_or}
use Rattle.vx_grouplogs.specs.On.{VolumeOn}
use Rattle.vx_grouplogs.specs.Zeroing.{AreZeros, ZerosIn}
use Rattle.vx_grouplogs.proofs.CoverLemmas.{alike_stays, others_kept}
use Rattle.vx_grouplogs.proofs.GroupLemmas.{logs_keep}
use Rattle.vx_grouplogs.proofs.OnCalls.{on_gone, on_others}
use Rattle.vx_grouplogs.proofs.SeenLemmas.{alike_covers}

entry_one : (o : Option LogEntry) (e f : LogEntry) → o ≡ Some e → o ≡ Some f → e ≡ f
entry_one o e f one two = let both : Some e ≡ Some f = sym one ∙ two in cc

pub no_log : (n : ℕ) (l : Logs) → l.drl ≡ None → NoMarks n l
no_log n l none = record { each = λ r lt. off r l.drl none }
  where
    off : (r : ℕ) (o : Option Dirty) → o ≡ None → dirty_or o r ≡ false
    off r None is = refl
    off r (Some d) is = absurd (let clash : Some d ≡ None = is in cc)

-- disks fit behind calls
pub fit_later : (c : Config) (v : ℕ) (m m' : Meaning) → DisksFit c.disks m → Goes (OnLogs c v) m m' → DisksFit c.disks m'
fit_later c v m m' fit goes = record { there = λ u lt. let low = fit.there u lt in let same = goes.units in omega (arith, low, same); size = λ u lt. goes.size u ∙ fit.size u lt }

module _ (c : Config) (sound : is_sound c ≡ true) (v : ℕ) (some : 0 < blocks_in c.volumes v) (m m' : Meaning) (law : Lawful m) (law' : Lawful m') (fit : DisksFit c.disks m) (alike : AllAlike c v m) (goes : Goes (OnLogs c v) m m') where
  pub begin_alike : AllAlike c v m'
  begin_alike = alike_stays c sound v (OnLogs c v) m m' goes (λ u b x on. on) v (λ r. false) (λ r. false) (λ b inside off. off) alike

  pub begin_gone : VolumeOn c v (record { drl = None; fmr = None }) m'
  begin_gone = on_gone c v m' (λ trusted. alike_covers c v m' begin_alike)

  pub begin_others : (w : ℕ) (l : Logs) → (w ≡ v → ⊥) → VolumeOn c w l m → VolumeOn c w l m'
  begin_others = on_others c v m m' (others_kept c sound v m m' fit goes)

  pub begin_keeps : KeepsGroup c m m'
  begin_keeps = logs_keep c sound v m m' law law' goes

  -- the log as it is read then
  pub begin_on : (d : Dirty) → DrlLoaded c v d → MapOn d.map m' → VolumeOn c v (record { drl = Some d; fmr = None }) m'
  begin_on d loaded on = record {
    fits = record { drl = λ e is. let same : d ≡ e = cc in subst (λ (x : Dirty). DrlFits c v x) same (record { log = loaded.log; regions = loaded.regions }); fmr = λ f is. absurd (let clash : None ≡ Some f = is in cc) };
    stands = record { drl = λ e is. let same : d ≡ e = cc in subst (λ (x : Dirty). MapOn x.map m') same on; fmr = λ f is. absurd (let clash : None ≡ Some f = is in cc) };
    memory = record { so = λ e is. record { one = λ b x y off one two. begin_alike.one b x y refl one two } };
    disk = λ trusted. alike_covers c v m' begin_alike;
  }

-- zeros of its run are of the logs
pub zeros_logs : (c : Config) (v : ℕ) (e : LogEntry) (m m' : Meaning) → log_of c v Drl ≡ Some e → Goes (ZerosIn e.disk e.start e.blocks) m m' → Goes (OnLogs c v) m m'
zeros_logs c v e m m' is goes = weaker (ZerosIn e.disk e.start e.blocks) (OnLogs c v) m m' goes (λ u b x put. record { log = Drl; entry = e; is = is; run = put.run })

-- behind them a crash leaves one value of each block of it
pub zeros_settled : (c : Config) (v : ℕ) (e : LogEntry) (d : Dirty) (m : Meaning) → log_of c v Drl ≡ Some e → map_block_count d.map ≤ e.blocks → DrlLoaded c v d → AreZeros e.disk e.start e.blocks m → Settled m (Run d.map.unit d.map.first (map_block_count d.map))
zeros_settled c v e d m is low loaded zeros = record {
  each = λ u b y z run left_y left_z. at u b y run left_y ∙ sym (at u b z run left_z);
}
  where
    same : loaded.log.entry ≡ e
    same = entry_one (log_of c v Drl) loaded.log.entry e loaded.log.is is

    at : (u b : ℕ) (y : List ℕ) → Run d.map.unit d.map.first (map_block_count d.map) u b → m.leaves u b y → y ≡ zero_bytes 512
    at u b y run left =
        let start : d.map.first ≡ e.start = loaded.log.run.begins ∙ ap (λ (f : LogEntry). f.start) same in
        let unit : u ≡ e.disk = run.there ∙ loaded.log.run.there ∙ ap (λ (f : LogEntry). f.disk) same in
        let place : b ≡ e.start + (b - e.start) = omega (arith, run.first, start) in
        zeros.each (b - e.start) y (omega (arith, run.first, run.last, start, low)) (subst (λ (n : ℕ). m.leaves e.disk n y) place (subst (λ (n : ℕ). m.leaves n b y) unit left))

-- calls in a row
pub then_none : (c : Config) (v : ℕ) (m m1 m2 : Meaning) → Goes (OnLogs c v) m m1 → Goes Nothing m1 m2 → Goes (OnLogs c v) m m2
then_none c v m m1 m2 one two = then_nothing (OnLogs c v) m m1 m2 one two

pub then_more : (c : Config) (v : ℕ) (m m1 m2 : Meaning) → Goes (OnLogs c v) m m1 → Goes (OnLogs c v) m1 m2 → Goes (OnLogs c v) m m2
then_more c v m m1 m2 one two = weaker (Or (OnLogs c v) (OnLogs c v)) (OnLogs c v) m m2 (both_Goes (OnLogs c v) (OnLogs c v) m m1 m2 one two) (λ u b x. ⊎_elim (λ on. on) (λ on. on))
