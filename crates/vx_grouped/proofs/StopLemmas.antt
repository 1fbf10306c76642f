-- Why an import of a site was refused, and what that says of its disks.
use Rattle.std.proofs.Common.{◌≡◌, ◌⊎◌, inl, inr, ℕ, Bool, true, false, IsTrue, refl, sym, ◌∙◌, subst, not}
use Rattle.std.specs.Prelude.{Result, Ok, Err}
use Rattle.vx_model.specs.declared.errors.Stop.{Stop}
use Rattle.vx_model.specs.declared.errors.Stop.TheVariants.{No as Refused, OutOfMemory}
use Rattle.vx_model.specs.declared.no.Counted.TheVariants.{Number as Numbers}
use Rattle.vx_model.specs.declared.no.No.{No}
use Rattle.vx_model.specs.declared.no.No.TheVariants.{Damaged as IsDamaged, Device, Down as IsOff, Format as HasFormat, Limit, Missing as Lacks, NoConfig}
use Rattle.vx_disk.specs.Causes.{DeviceCause}
use Rattle.vx_disk.specs.Shelf.{Goes, Meaning, Nothing}
use Rattle.vx_config.specs.declared.config.Config.{Config}
use Rattle.vx_config.specs.Table.{greatest}
use Rattle.vx_copyfmt.specs.Imports.{ImportOutcome, Found, Missing, NoConfig as NothingFound, Damaged, Format, import_of}
use Rattle.vx_copies.specs.Answers.{IsAnswer, answer_to}
use Rattle.vx_copies.specs.Bodies.{failed_in}
use Rattle.vx_copies.specs.Looking.{on_shelf}
use Rattle.vx_group.specs.Imports.{ImportStops, StopsEarly}
use Rattle.vx_group.specs.Resumes.{CanImport}
use Rattle.vx_group.proofs.AgainLemmas.{goes_can}
use Rattle.vx_grouped.specs.SiteEnds.{stops_down}
use Rattle.vx_grouped.specs.SiteReturns.{stops_early}
use Rattle.vx_grouped.proofs.CalledLemmas.{blames_device, err_is}

not_blame : (why x : No) → why ≡ x → blames_device x ≡ false → blames_device why ≡ true → ⊥
not_blame why x same off on = let clash : true ≡ false = sym (subst (λ (y : No). blames_device y ≡ true) same on) ∙ off in never_both clash
  where
    never_both : true ≡ false → ⊥
    never_both clash = cc

answer_is : (why x : No) (r : Result (Config × ℕ) Stop) → r ≡ Err (Refused why) → (r ≡ Err OutOfMemory) ⊎ (r ≡ Err (Refused x)) → why ≡ x
answer_is why x r is (inl none) = let clash : Refused why ≡ OutOfMemory = err_is r (Refused why) OutOfMemory is none in absurd (never_memory why clash)
  where
    never_memory : (y : No) → Refused y ≡ OutOfMemory → ⊥
    never_memory y clash = cc
answer_is why x r is (inr other) = let same : Refused why ≡ Refused x = err_is r (Refused why) (Refused x) is other in cc

never_answer : (readable : ℕ → Bool) (o : ImportOutcome Config) (why : No) (r : Result (Config × ℕ) Stop) → r ≡ Err (Refused why) → blames_device why ≡ true → IsAnswer (answer_to readable o) r → ⊥
never_answer readable (Found x) why r is on (inl none) = not_blame why NoConfig (answer_is why NoConfig r is (inl none)) refl on
never_answer readable (Found x) why r is on (inr done) = never_done (sym is ∙ done)
  where
    never_done : {a : Config × ℕ} → Err (Refused why) ≡ Ok a → ⊥
    never_done clash = cc
never_answer readable (Missing d) why r is on it = not_blame why (Lacks d) (answer_is why (Lacks d) r is it) refl on
never_answer readable NothingFound why r is on it = not_blame why NoConfig (answer_is why NoConfig r is it) refl on
never_answer readable (Damaged d block stored computed) why r is on it = not_blame why (IsDamaged d block stored computed) (answer_is why (IsDamaged d block stored computed) r is it) refl on
never_answer readable (Format version) why r is on it = not_blame why (HasFormat version) (answer_is why (HasFormat version) r is it) refl on

early_blames : (m m' : Meaning) (why : No) → blames_device why ≡ true → Goes Nothing m m' → StopsEarly m m' (Refused why) → DeviceCause m m' why
early_blames m m' why on goes (inl down) = subst (λ (x : No). DeviceCause m m' x) (sym down.1) (goes.falls down.0)
early_blames m m' why on goes (inr (inl small)) = absurd (not_blame why NoConfig small.1 refl on)
early_blames m m' why on goes (inr (inr (inl imported))) =
    absurd (never_answer imported.readable (import_of (on_shelf m) failed_in m.units imported.readable imported.image) why (Err (Refused why)) refl on imported.answer)
early_blames m m' why on goes (inr (inr (inr not))) = elim not.refuses [
  | inl full ↦ absurd (not_blame why (Limit Numbers greatest) full.1 refl on)
  | inr none ↦ absurd (not_blame why NoConfig none.1 refl on)
]

blames : (m m' : Meaning) (why : No) → blames_device why ≡ true → ImportStops m m' (Refused why) → DeviceCause m m' why
blames m m' why on (inl early) = early_blames m m' why on early.0 early.1
blames m m' why on (inr late) = elim late.1 [
  | inl cause ↦ cause
  | inr full ↦ absurd (not_blame why (Limit Numbers greatest) full.0 refl on)
]

-- where it says that they are down they are
pub down_of : (m m' : Meaning) (stop : Stop) → stops_down stop ≡ true → ImportStops m m' stop → IsTrue m'.down
down_of m m' (Refused IsOff) off stops = blames m m' IsOff refl stops
down_of m m' (Refused (Device disk)) off stops = cc
down_of m m' (Refused other) off stops = cc
down_of m m' OutOfMemory off stops = cc

-- an import that was refused so had written nothing
not_limit : (why : No) → stops_early (Refused why) ≡ true → why ≡ Limit Numbers greatest → ⊥
not_limit why early is = let clash : false ≡ true = subst (λ (x : No). stops_early (Refused x) ≡ true) is early in never_both clash
  where
    never_both : false ≡ true → ⊥
    never_both clash = cc

late_none : (m m' : Meaning) (why : No) → stops_early (Refused why) ≡ true → DeviceCause m m' why → ⊥
late_none m m' (Device disk) early cause = cc
late_none m m' IsOff early cause = cc
late_none m m' other early cause = cause

pub early_goes : (m m' : Meaning) (stop : Stop) → stops_early stop ≡ true → ImportStops m m' stop → Goes Nothing m m'
early_goes m m' stop early (inl it) = it.0
early_goes m m' (Refused why) early (inr it) = elim it.1 [
  | inl cause ↦ absurd (late_none m m' why early cause)
  | inr full ↦ absurd (not_limit why early full.0)
]
early_goes m m' OutOfMemory early (inr it) = absurd it.1

-- the disks may be imported still
pub still_can : (m m' : Meaning) (stop : Stop) → stops_early stop ≡ true → CanImport m → ImportStops m m' stop → CanImport m'
still_can m m' stop early can stops = goes_can m m' (early_goes m m' stop early stops) can
