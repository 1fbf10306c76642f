-- An import by logs as a whole.
use Rattle.std.proofs.Common.{◌≡◌, inl, ℕ, ◌<◌, ◌≤◌, Bool, true, IsTrue, Option, List, length, refl, sym, ◌∙◌, subst, arith}
use Rattle.std.specs.Prelude.{Vec}
use Rattle.std.specs.declared.alloc.Global.{Global}
use Rattle.vx_disk.specs.Shelf.{Goes, Lawful, Meaning, Nothing}
use Rattle.vx_disk.proofs.Causing.{Rose_after}
use Rattle.vx_disk.proofs.Runs.{weaker}
use Rattle.vx_drl.specs.Dirty.{Dirty}
use Rattle.vx_logs.specs.declared.logs.Logs.{Logs}
use Rattle.vx_model.specs.declared.errors.Stop.{Stop}
use Rattle.vx_model.specs.declared.errors.Stop.TheVariants.{No as Refused, OutOfMemory}
use Rattle.vx_model.specs.declared.no.No.TheVariants as refusal
use Rattle.vx_config.specs.declared.config.Config.{Config}
use Rattle.vx_copies.specs.Answers.{returned}
use Rattle.vx_copyio.specs.Labelling.{AreLarge}
use Rattle.vx_volume.proofs.ReadRuns.{still}
use Rattle.vx_kept.specs.Cleans.{is_unsure}
use Rattle.vx_kept.specs.Groups.{group_meaning}
use Rattle.vx_kept.specs.Keeping.{Acts}
use Rattle.vx_kept.proofs.StateLemmas.{same_shape}
use Rattle.vx_group.specs.Attaches.{AnyImage}
use Rattle.vx_group.specs.Finishes.{Renewed}
use Rattle.vx_group.specs.Imports.{ImportStops}
use Rattle.vx_group.specs.Mends.{GroupGoesOn, MarksTell, OnMarked}
use Rattle.vx_group.specs.Resumes.{CanImport, IsTaken, TakenUp, source_at, stopped}
use Rattle.vx_group.specs.Stands.{inner_meaning, volume_faults}
use Rattle.vx_group.specs.declared.inner.Inner.{Inner}
use Rattle.vx_group.specs.declared.taking.Plan.{Plan}
use Rattle.vx_group.proofs.ImportLemmas.{import_late, import_ok, stopped_back}
use Rattle.vx_group.proofs.ResumeLemmas.{taken_Goes}
use Rattle.vx_group.proofs.Standing.{fit_of, kept_of, low_Stands, sound_of}
use Rattle.vx_grouplogs.specs.Covering.{OnLogs}
use Rattle.vx_groupmaps.specs.Loading.{LoadIsRefused}
use Rattle.vx_grouplogs.specs.On.{VolumeOn}
use Rattle.vx_grouplogs.proofs.GroupLemmas.{logs_keep}
use Rattle.vx_logimport.specs.Covers.{DisksCover, DisksTell}
use Rattle.vx_logimport.specs.Marked.{AreDirtyLogs, LogsRead, ResumedBy, dirty_logs}
use Rattle.vx_logimport.specs.Rests.{rests}
use Rattle.vx_logimport.proofs.MarkLemmas.{marks_of, on_opened, taken_later}
use Rattle.vx_logimport.proofs.ReadLemmas.{all_read, read_behind}
use Rattle.vx_logimport.proofs.RenewLemmas.{alike_new, on_new, only_stopped}

module _ (old m1 : Meaning) (plan : Plan) (taken : IsTaken old m1 plan) (law : Lawful old) (law1 : Lawful m1) (goes : Goes Nothing old m1) (large : AreLarge old) (can : CanImport old) (new : Meaning) where
  abbrev opened : Config
  opened = plan.core.config

  -- nothing but reads
  pub reads_on : Lawful new → Goes Nothing m1 new → GroupGoesOn plan.core plan.core m1 new
  reads_on law2 reads = record {
    stands = low_Stands plan.core Nothing m1 new reads (λ u b y none. absurd none) law1 law2 taken.stands;
    shape = same_shape opened;
    on = λ w p is. is;
    faults = refl;
    unsure = refl;
    goes = (logs_keep opened (sound_of plan.core m1 taken.stands) 0 m1 new law1 law2 (weaker Nothing (OnLogs opened 0) m1 new reads (λ u b y none. absurd none))).goes plan.core.good (volume_faults plan.core.faults) (kept_of plan.core m1 taken.stands);
    unit_faults = reads.faults;
    disk_faults = reads.disk_faults;
  }

  -- logs that were not read
  pub unread : Lawful new → Goes Nothing m1 new → (stop : Stop) → LoadIsRefused new stop → ImportStops old new stop
  unread law2 reads (Refused refusal.Down) down = import_late old m1 plan taken new law law1 goes large can plan.core refusal.Down (reads_on law2 reads, inl down) (λ committed. taken.made.agreed)
  unread law2 reads (Refused other) none = absurd none
  unread law2 reads OutOfMemory is = inl (still old m1 new goes reads, tt)

  module _ (d : Inner) (logs : Vec Logs Global) (m2 : Meaning) (may : List Bool) (read : LogsRead plan.core.good may opened logs.items old m2) (counts : (disk : ℕ) → m2.disk_faults disk ≤ new.disk_faults disk) (are : AreDirtyLogs (length opened.volumes) logs.items) (cover : (v : ℕ) → DisksCover v old) (tells : (v : ℕ) → rests may v ≡ true → DisksTell v old)
      (law2 : Lawful new) (up1 : IsTrue m1.down → ⊥) (fin : Renewed plan.core plan.stopped plan.sources d m1 new) (keeps : plan.core.committed ≡ true → d.committed ≡ true) (only : Acts (OnMarked opened plan.stopped logs.items) AnyImage m1 new) where
    in_back : (v : ℕ) → v < length opened.volumes → v < length (returned taken.up.readable taken.config).volumes
    in_back v lt = let same : length opened.volumes ≡ length (returned taken.up.readable taken.config).volumes = taken.up.opens.alike.shape.volumes in omega (arith, same, lt)

    unclean : (v : ℕ) → v < length opened.volumes → is_unsure plan.stopped v ≡ stopped taken.config v
    unclean v lt = taken.made.stopped v (in_back v lt) ∙ stopped_back taken.up.readable taken.config v

    in_opened : (v : ℕ) → v < length d.config.volumes → v < length opened.volumes
    in_opened v lt = let same : length d.config.volumes ≡ length opened.volumes = fin.made.on.shape.volumes in omega (arith, same, lt)

    taken_new : TakenUp old new taken.config opened
    taken_new = record {
      readable = taken.up.readable;
      image = taken.up.image;
      blamed = λ u lt off. Rose_after (old.faults u) (m1.faults u) (new.faults u) (taken.up.blamed u lt off) (fin.made.on.unit_faults u);
      read = taken.up.read;
      is = taken.up.is;
      opens = taken.up.opens;
    }

    pub resumed_by : ResumedBy may old (record { core = d; logs = logs; stopped = plan.stopped; good = plan.core.good }) new
    resumed_by = record {
      resumed = import_ok old m1 plan taken new law law1 goes large can d law2 up1 fin keeps;
      config = taken.config;
      opened = opened;
      taken = taken_new;
      shape = fin.made.on.shape;
      on = fin.made.on.on;
      goes = still (group_meaning opened (λ v. 0) old) (inner_meaning plan.core m1) (inner_meaning d new)
          (taken_Goes old m1 law law1 goes large can taken.config opened taken.up.readable taken.up.image taken.up.read taken.up.is taken.up.opens (λ is. taken.made.sound) (volume_faults plan.core.faults)) fin.made.on.goes;
      good = taken.made.good;
      read = record { each = λ v l is. read_behind plan.core.good may opened v l.drl old m2 new counts (read.each v l is) };
      only = only_stopped taken.config opened plan.stopped logs.items old m1 new unclean goes only;
      logs = record { many = let same : length d.config.volumes ≡ length opened.volumes = fin.made.on.shape.volumes in are.many ∙ sym same; plain = are.plain };
      stand = λ v lt. on_new plan.core d plan.stopped logs.items m1 new (sound_of plan.core m1 taken.stands) (fit_of plan.core m1 taken.stands) fin.made.on only v
          (λ o is. subst (λ (q : Option Dirty). VolumeOn opened v (dirty_logs q) m1) is (on_opened old m1 plan taken law law1 goes can may cover tells plan.core.good logs.items m2 read v))
          (λ mark. alike_new plan.core d plan.stopped logs.items m1 new (sound_of plan.core m1 taken.stands) (fit_of plan.core m1 taken.stands) fin.made.on only v (source_at plan.sources v) m1 (fin.mended v (in_opened v lt) mark));
      flags = λ v lt. unclean v (in_opened v lt);
      alike = λ v lt mark. alike_new plan.core d plan.stopped logs.items m1 new (sound_of plan.core m1 taken.stands) (fit_of plan.core m1 taken.stands) fin.made.on only v (source_at plan.sources v) m1 (fin.mended v (in_opened v lt) mark);
    }

-- ---- behind reads of the logs

module _ (old m1 m2 : Meaning) (plan : Plan) (taken : IsTaken old m1 plan) (law : Lawful old) (law1 : Lawful m1) (law2 : Lawful m2) (goes : Goes Nothing old m1) (reads : Goes Nothing m1 m2) where
  pub taken_read : IsTaken old m2 plan
  taken_read = taken_later old m1 m2 plan taken reads law1 law2

  pub whole_goes : Goes Nothing old m2
  whole_goes = still old m1 m2 goes reads

  module _ (may : List Bool) (logs : List Logs) (up : IsTrue m1.down → ⊥) (read : LogsRead plan.core.good may plan.core.config logs m1 m2) where
    pub reads_old : LogsRead plan.core.good may plan.core.config logs old m2
    reads_old = all_read plan.core.good may plan.core.config logs old m1 m2 m2 goes up (λ d. omega arith) read

    pub told_by : CanImport old → ((v : ℕ) → DisksCover v old) → ((v : ℕ) → rests may v ≡ true → DisksTell v old) → MarksTell plan.core.config plan.stopped logs m2
    told_by can cover tells = marks_of old m2 plan taken_read law law2 whole_goes can may cover tells plan.core.good logs m2 reads_old plan.stopped
