-- What an import answers, taken up.
use Rattle.std.proofs.Common.{◌≡◌, inl, inr, ℕ, Bool, true, List, Result, Ok, Err, refl, ap, sym, subst, arith}
use Rattle.vx_disk.specs.Shelf.{Goes, Lawful, Meaning, Nothing}
use Rattle.vx_model.specs.declared.errors.Stop.{Stop}
use Rattle.vx_model.specs.declared.errors.Stop.TheVariants.{No as Refused, OutOfMemory}
use Rattle.vx_copyfmt.specs.Imports.{Damaged, Format, Found, Missing, NoConfig, ImportOutcome}
use Rattle.vx_config.specs.Checks.{is_sound}
use Rattle.vx_config.specs.declared.config.Config.{Config}
use Rattle.vx_config.specs.declared.entry.DiskEntry.{DiskEntry}
use Rattle.vx_copies.specs.Answers.{Imported, IsAnswer, answer_to, good_set, returned}
use Rattle.vx_copies.specs.Marks.{HasGood}
use Rattle.vx_copyio.specs.Labelling.{AreLarge}
use Rattle.vx_kept.specs.Groups.{found_by}
use Rattle.vx_kept.proofs.Narrower.{wanted_sound}
use Rattle.vx_group.specs.Resumes.{CanImport, IsPlan, Planned, TakesPlan}
use Rattle.vx_group.specs.declared.taking.Plan.{Plan}
use Rattle.vx_group.proofs.FoundLemmas.{found_wanted, wanted_back_again}
use Rattle.vx_group.proofs.ResumeLemmas.{resumed_Stands}

-- what was answered came of this configuration
pub record CameOf (R : ℕ → Bool) (o : ImportOutcome Config) (y : Config) (good : ℕ) : Type 0 where
  pub config : Config
  pub found : o ≡ Found config
  pub is : y ≡ returned R config
  pub set : good ≡ good_set config.disks

came_of : (R : ℕ → Bool) (o : ImportOutcome Config) (y : Config) (good : ℕ) → IsAnswer (answer_to R o) (Ok (y, good)) → CameOf R o y good
came_of R (Found x) y good (inl is) = absurd cc
came_of R (Found x) y good (inr is) =
    let pair : (y, good) ≡ (returned R x, good_set x.disks) = cc in
    record { config = x; found = refl; is = ap (λ (q : Config × ℕ). q.0) pair; set = ap (λ (q : Config × ℕ). q.1) pair }
came_of R (Missing disk) y good (inl is) = absurd cc
came_of R (Missing disk) y good (inr is) = absurd cc
came_of R NoConfig y good (inl is) = absurd cc
came_of R NoConfig y good (inr is) = absurd cc
came_of R (Damaged disk block s t) y good (inl is) = absurd cc
came_of R (Damaged disk block s t) y good (inr is) = absurd cc
came_of R (Format version) y good (inl is) = absurd cc
came_of R (Format version) y good (inr is) = absurd cc

module _ (old new : Meaning) (y : Config) (good : ℕ) (imported : Imported old new (Ok (y, good))) where
  came : CameOf imported.readable (found_by old imported.readable imported.image) y good
  came = came_of imported.readable (found_by old imported.readable imported.image) y good imported.answer

  pub came_sound : is_sound y ≡ true
  came_sound = subst (λ (c : Config). is_sound c ≡ true) (sym came.is)
      (wanted_sound old.units old.size (returned imported.readable came.config) (wanted_back_again imported.readable old.units old.size came.config (found_wanted old imported.readable imported.image came.config came.found)))

  module _ (law : Lawful old) (law' : Lawful new) (goes : Goes Nothing old new) (large : AreLarge old) (can : CanImport old) where
    as_plan : (plan : Plan) → IsPlan y good plan → IsPlan (returned imported.readable came.config) (good_set came.config.disks) plan
    as_plan plan made = subst (λ (s : ℕ). IsPlan (returned imported.readable came.config) s plan) came.set (subst (λ (c : Config). IsPlan c good plan) came.is made)

    as_refused : (r : Result Plan Stop) → Planned y good r → Planned (returned imported.readable came.config) (good_set came.config.disks) r
    as_refused r made = subst (λ (s : ℕ). Planned (returned imported.readable came.config) s r) came.set (subst (λ (c : Config). Planned c good r) came.is made)

    pub takes_all : (r : Result Plan Stop) → Planned y good r → TakesPlan old new r
    takes_all (Ok plan) planned =
        let made = as_plan plan planned in
        let alike = made.opens.alike in
        record {
          config = came.config;
          up = record { readable = imported.readable; image = imported.image; blamed = imported.blamed; read = imported.read; is = came.found; opens = made.opens };
          made = made;
          stands = resumed_Stands old new law law' goes large can came.config plan.core.config imported.readable imported.image imported.read came.found made.opens (λ is. made.sound) plan.core refl made.good made.unsettled made.committed made.agreed
              (let few = made.few in let same = alike.shape.volumes in omega (arith, few, same)) (λ v. let small = made.small v in let same = alike.shape.blocks v in omega (arith, small, same))
              (let le = made.serial in let same = alike.serial in omega (arith, le, same))
              (subst (λ (ds : List DiskEntry). HasGood ds (good_set came.config.disks)) (sym alike.disks) made.some);
        }
    takes_all (Err (Refused why)) planned = inr (record {
      config = came.config;
      readable = imported.readable;
      image = imported.image;
      blamed = imported.blamed;
      read = imported.read;
      is = came.found;
      refuses = as_refused (Err (Refused why)) planned;
    })
    takes_all (Err OutOfMemory) planned = tt

pub err_takes : (old new : Meaning) (stop : Stop) → Imported old new (Err stop) → TakesPlan old new (Err stop)
err_takes old new (Refused why) imported = inl imported
err_takes old new OutOfMemory imported = tt
