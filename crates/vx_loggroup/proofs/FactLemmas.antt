-- What stands of a group with logs as facts, and back.
use Rattle.std.proofs.Common.{◌≡◌, ◌∙◌, ℕ, Bool, true, false, Option, Some, None, List, refl, sym, ap}
use Rattle.std.specs.Prelude.{is_some}
use Rattle.vx_config.specs.declared.config.Config.{Config}
use Rattle.vx_config.specs.declared.entry.LogEntry.{LogEntry}
use Rattle.vx_bitmap.specs.Maps.{Map}
use Rattle.vx_config.specs.declared.entry.VolumeLog.{VolumeLog}
use Rattle.vx_config.specs.declared.entry.VolumeLog.TheVariants.{Drl, Fmr}
use Rattle.vx_disk.specs.Shelf.{Meaning}
use Rattle.vx_group.specs.Holding.{wide}
use Rattle.vx_group.specs.declared.group_core.GroupCore.{GroupCore}
use Rattle.vx_grouplogs.specs.On.{VolumeOn}
use Rattle.vx_logs.specs.declared.logs.Logs.{Logs}
use Rattle.vx_maplog.specs.Logs.{LogLoaded, log_of}
use Rattle.vx_loggroup.specs.Facts.{LogFact, LoggedFact, RunFact}
use Rattle.vx_loggroup.specs.LoggedVolumes.{LoggedStands}

entry_is : (o : Option LogEntry) (e f : LogEntry) → o ≡ Some e → o ≡ Some f → e ≡ f
entry_is o e f one two = let both : Some e ≡ Some f = sym one ∙ two in cc

run_fact : (c : Config) (v : ℕ) (log : VolumeLog) (map : Map) → LogLoaded c v log map → RunFact c v log map
run_fact c v log map it = record {
  has = ap is_some it.is;
  there = λ e is. it.run.there ∙ ap (λ (f : LogEntry). f.disk) (entry_is (log_of c v log) it.entry e it.is is);
  begins = λ e is. it.run.begins ∙ ap (λ (f : LogEntry). f.start) (entry_is (log_of c v log) it.entry e it.is is);
  long = it.run.long;
  few = it.run.few;
}

run_of_fact : (c : Config) (v : ℕ) (log : VolumeLog) (map : Map) → RunFact c v log map → LogLoaded c v log map
run_of_fact c v log map it = by (log_of c v log) refl
  where
    by : (o : Option LogEntry) → log_of c v log ≡ o → LogLoaded c v log map
    by None none = absurd (let clash : false ≡ true = sym (ap is_some none) ∙ it.has in cc)
    by (Some e) is = record { entry = e; is = is; run = record { there = it.there e is; begins = it.begins e is; long = it.long; few = it.few } }

log_fact : (c : Config) (v : ℕ) (l : Logs) (m : Meaning) → VolumeOn c v l m → LogFact c v l m
log_fact c v l m on = record {
  drl = λ d is. let it = on.fits.drl d is in record { run = run_fact c v Drl d.map it.log; regions = it.regions };
  fmr = λ f is. let it = on.fits.fmr f is in record { run = run_fact c v Fmr f.map it.log; plexes = it.plexes; stride = it.stride; regions = it.regions };
  stands = on.stands;
  memory = on.memory;
  disk = on.disk;
}

log_back : (c : Config) (v : ℕ) (l : Logs) (m : Meaning) → LogFact c v l m → VolumeOn c v l m
log_back c v l m it = record {
  fits = record {
    drl = λ d is. let a = it.drl d is in record { log = run_of_fact c v Drl d.map a.run; regions = a.regions };
    fmr = λ f is. let a = it.fmr f is in record { log = run_of_fact c v Fmr f.map a.run; plexes = a.plexes; stride = a.stride; regions = a.regions };
  };
  stands = it.stands;
  memory = it.memory;
  disk = it.disk;
}

pub to_logged : (core : GroupCore) (logs : List Logs) (alike : List Bool) (stopped : Bool) (m : Meaning) → LoggedStands core logs alike stopped m → LoggedFact core logs alike stopped m
to_logged core logs alike stopped m it = record {
  group = it.group;
  many = it.many;
  each = λ v l is. let was = it.each v l is in record { on = λ going. log_fact (wide core).config v l m (was.on going); maps = was.maps; alike = was.alike };
}

pub from_logged : (core : GroupCore) (logs : List Logs) (alike : List Bool) (stopped : Bool) (m : Meaning) → LoggedFact core logs alike stopped m → LoggedStands core logs alike stopped m
from_logged core logs alike stopped m it = record {
  group = it.group;
  many = it.many;
  each = λ v l is. let was = it.each v l is in record { on = λ going. log_back (wide core).config v l m (was.on going); maps = was.maps; alike = was.alike };
}
