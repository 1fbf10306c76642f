-- An import as a whole: what was taken up and then renewed.
use Rattle.std.proofs.Common.{◌≡◌, inl, inr, ⊎_elim, ℕ, ◌<◌, Bool, true, IsTrue, List, length, Err, refl, ap, sym, ◌∙◌, subst, arith}
use Rattle.vx_disk.specs.Shelf.{Goes, Lawful, Meaning, Nothing}
use Rattle.vx_disk.proofs.Causing.{Rose_after, Rose_before}
use Rattle.vx_model.specs.declared.errors.Stop.{Stop}
use Rattle.vx_model.specs.declared.errors.Stop.TheVariants.{No as Refused, OutOfMemory}
use Rattle.vx_model.specs.declared.no.No.{No}
use Rattle.vx_config.specs.Checks.{is_sound}
use Rattle.vx_config.specs.Table.{greatest}
use Rattle.vx_config.specs.declared.config.Config.{Config}
use Rattle.vx_copies.specs.Answers.{good_set, returned}
use Rattle.vx_copies.specs.Bodies.{is_wanted}
use Rattle.vx_copyio.specs.Labelling.{AreLarge}
use Rattle.vx_layout.specs.Places.{place}
use Rattle.vx_volume.specs.Plexes.{active}
use Rattle.vx_volume.proofs.ReadRuns.{still}
use Rattle.vx_kept.specs.Choice.{chosen}
use Rattle.vx_kept.specs.Cleans.{is_unsure}
use Rattle.vx_kept.specs.Groups.{group_meaning}
use Rattle.vx_kept.proofs.Narrower.{wanted_sound}
use Rattle.vx_group.specs.Finishes.{AnyFault, Renewed, StopsLate}
use Rattle.vx_group.specs.Imports.{HalfResumed, ImportStops, Resumed}
use Rattle.vx_group.specs.Laws.{group_lawful}
use Rattle.vx_group.specs.Mends.{GroupGoesOn}
use Rattle.vx_group.specs.Resumes.{CanImport, IsMended, IsTaken, TakesPlan, TakenUp, source_at, source_of, stopped}
use Rattle.vx_group.specs.Stands.{volume_faults, inner_meaning}
use Rattle.vx_group.specs.declared.inner.Inner.{Inner}
use Rattle.vx_group.specs.declared.taking.Plan.{Plan}
use Rattle.vx_group.proofs.LoseLemmas.{loses_later}
use Rattle.vx_group.proofs.CreateLemmas.{cause_before}
use Rattle.vx_group.proofs.GivingLemmas.{gives_image}
use Rattle.vx_group.proofs.FoundLemmas.{found_wanted, wanted_back_again}
use Rattle.vx_group.proofs.PlanLemmas.{source_live}
use Rattle.vx_group.proofs.ResumeLemmas.{taken_Goes}
use Rattle.vx_group.proofs.SourceLemmas.{source_chosen}

pub stopped_back : (R : ℕ → Bool) (x : Config) (v : ℕ) → stopped (returned R x) v ≡ stopped x v
unfolding stopped active
stopped_back R x v = refl

source_back : (R : ℕ → Bool) (x : Config) (good v : ℕ) → source_of good (returned R x) v ≡ source_of good x v
unfolding source_of
source_back R x good v = refl

module _ (old m1 : Meaning) (plan : Plan) (taken : IsTaken old m1 plan) where
  abbrev opened : Config
  opened = plan.core.config

  abbrev set : ℕ
  set = good_set taken.config.disks

  abbrev back : Config
  back = returned taken.up.readable taken.config

  x_wanted : is_wanted old.units old.size taken.config ≡ true
  x_wanted = found_wanted old taken.up.readable taken.up.image taken.config taken.up.is

  in_back : (v : ℕ) → v < length opened.volumes → v < length back.volumes
  in_back v lt = let same : length opened.volumes ≡ length back.volumes = taken.up.opens.alike.shape.volumes in omega (arith, same, lt)

  pub source_active : (v : ℕ) → v < length opened.volumes → IsTrue (active opened v (source_at plan.sources v))
  source_active v lt =
      let there = in_back v lt in
      let sound : is_sound back ≡ true = wanted_sound old.units old.size back (wanted_back_again taken.up.readable old.units old.size taken.config x_wanted) in
      subst (λ (p : ℕ). IsTrue (active opened v p)) (sym (taken.made.sources v there))
      (taken.stands.on.each v (source_of set back v) (taken.up.opens.alike.lives v (source_of set back v) ∙ source_live back set v sound there))

  pub serial_left : opened.serial < greatest
  serial_left = let le = taken.made.serial in let same : opened.serial ≡ back.serial = taken.up.opens.alike.serial in omega (arith, le, same)

  is_chosen : (v : ℕ) → v < length opened.volumes → source_at plan.sources v ≡ chosen taken.config v
  is_chosen v lt =
      taken.made.sources v (in_back v lt) ∙ source_back taken.up.readable taken.config set v ∙ source_chosen taken.config v (wanted_sound old.units old.size taken.config x_wanted)

  module _ (new : Meaning) (law : Lawful old) (law1 : Lawful m1) (goes : Goes Nothing old m1) (large : AreLarge old) (can : CanImport old) (d : Inner) where
    module _ (on : GroupGoesOn plan.core d m1 new) where
      up_to : TakenUp old new taken.config opened
      up_to = record {
        readable = taken.up.readable;
        image = taken.up.image;
        blamed = λ u lt off. Rose_after (old.faults u) (m1.faults u) (new.faults u) (taken.up.blamed u lt off) (on.unit_faults u);
        read = taken.up.read;
        is = taken.up.is;
        opens = taken.up.opens;
      }

      whole_goes : Goes Nothing (group_meaning opened (λ v. 0) old) (inner_meaning d new)
      whole_goes = still (group_meaning opened (λ v. 0) old) (inner_meaning plan.core m1) (inner_meaning d new)
          (taken_Goes old m1 law law1 goes large can taken.config opened taken.up.readable taken.up.image taken.up.read taken.up.is taken.up.opens (λ is. taken.made.sound) (volume_faults plan.core.faults)) on.goes

      half : d.agreed ≡ true → HalfResumed old new
      half agreed = record { config = taken.config; core = d; opened = opened; taken = up_to; stands = on.stands; shape = on.shape; agreed = agreed; goes = whole_goes }

    stops_before : (why : No) → StopsLate m1 new why → StopsLate old new why
    stops_before why (inl cause) = inl (cause_before old m1 new goes.disk_faults why cause)
    stops_before why (inr limit) = inr (limit.0, (limit.1.0, Rose_before (old.disk_faults limit.1.0) (m1.disk_faults limit.1.0) (new.disk_faults limit.1.0) (goes.disk_faults limit.1.0) limit.1.1))

    fault_before : AnyFault m1 new → AnyFault old new
    fault_before (inl rose) = inl (rose.0, Rose_before (old.disk_faults rose.0) (m1.disk_faults rose.0) (new.disk_faults rose.0) (goes.disk_faults rose.0) rose.1)
    fault_before (inr rose) = inr (rose.0, Rose_before (old.faults rose.0) (m1.faults rose.0) (new.faults rose.0) (goes.faults rose.0) rose.1)

    module _ (law2 : Lawful new) (up1 : IsTrue m1.down → ⊥) (fin : Renewed plan.core plan.stopped plan.sources d m1 new) where
      mended : (v : ℕ) → v < length opened.volumes → stopped taken.config v ≡ true → IsMended opened v (chosen taken.config v) d old new
      mended v lt stop =
          let was = fin.mended v lt (taken.made.stopped v (in_back v lt) ∙ stopped_back taken.up.readable taken.config v ∙ stop) in
          subst (λ (s : ℕ). IsMended opened v s d old new) (is_chosen v lt) (record {
            value = was.value;
            origin = λ k in_it tells. elim (goes.reads (place opened v (source_at plan.sources v) k).0 (place opened v (source_at plan.sources v) k).1 (was.value k) (was.origin k in_it (goes.tells ∙ tells))) [
              | inl (inl is) ↦ is
              | inl (inr none) ↦ absurd none
              | inr down ↦ absurd (up1 down)
            ];
            one = was.one;
          })

      resumed : (plan.core.committed ≡ true → d.committed ≡ true) → Resumed old d new
      resumed keeps = record {
        config = taken.config;
        opened = opened;
        taken = up_to fin.made.on;
        stands = fin.made.on.stands;
        settled = fin.made.settled;
        up = fin.made.up;
        fresh = record {
          faults = λ v. ap (λ (f : List ℕ). volume_faults f v) fin.made.on.faults ∙ taken.made.fresh.faults v;
          sure = λ v. ap (λ (f : List Bool). is_unsure f v) fin.made.on.unsure ∙ taken.made.fresh.sure v;
        };
        same = ⊎_elim (λ same. inl same) (λ fault. inr (fault_before fault)) fin.made.same;
        loses = loses_later opened d.config old m1 new goes.faults fin.made.on.unit_faults fin.made.loses;
        on = fin.made.on.on;
        finds = fin.made.finds;
        committed = keeps taken.made.committed;
        goes = whole_goes fin.made.on;
        mended = mended;
        gives = gives_image old taken.config opened d new taken.up.readable taken.up.image law (group_lawful d new law2 fin.made.on.stands) can taken.up.read taken.up.is taken.up.opens mended;
      }

    pub import_ok : Lawful new → (IsTrue m1.down → ⊥) → Renewed plan.core plan.stopped plan.sources d m1 new → (plan.core.committed ≡ true → d.committed ≡ true) → Resumed old d new
    import_ok law2 up1 fin keeps = resumed law2 up1 fin keeps

    pub import_late : (why : No) → GroupGoesOn plan.core d m1 new × StopsLate m1 new why → (plan.core.committed ≡ true → d.agreed ≡ true) → ImportStops old new (Refused why)
    import_late why stops agrees = inr (half stops.0 (agrees taken.made.committed), stops_before why stops.1)

pub import_early : (old new : Meaning) (stop : Stop) → Goes Nothing old new → TakesPlan old new (Err stop) → ImportStops old new stop
import_early old new (Refused why) goes (inl imported) = inl (goes, inr (inr (inl imported)))
import_early old new (Refused why) goes (inr not) = inl (goes, inr (inr (inr not)))
import_early old new OutOfMemory goes is = inl (goes, tt)
