-- The lowest run of free blocks.
use Rattle.std.proofs.Common.{◌≡◌, ◌⊎◌, inl, inr, ℕ, ◌+◌, ◌<◌, ◌≤◌, Bool, true, false, List, [], ◌∷◌, ◌++◌, length, refl, ap, sym, ◌∙◌, subst, arith}
use Rattle.std.specs.Prelude.{max, Result, Ok, Err}
use Rattle.std.proofs.lemmas.Bool.{cases_lt}
use Rattle.std.proofs.lemmas.Option.{slice_get_past}
use Rattle.vx_config.specs.Checks.{blocks_or}
use Rattle.vx_config.specs.declared.entry.DiskEntry.{DiskEntry}
use Rattle.vx_config.specs.declared.entry.Subdisk.{Subdisk}
use Rattle.vx_layout.specs.Places.{disk_blocks}
use Rattle.vx_layout.specs.Free.{HasNoRun, HasRun, IsGap, IsLowestRun}
use Rattle.vx_layout.specs.Runs.{FreeRun, LongestBefore, LongestOn, LowestOn}
use Rattle.vx_layout.specs.Space.{AreLogs, NoLog, drl_blocks, fmr_blocks}
use Rattle.vx_layout.specs.Steps.{AddsDrl, AddsFmr, AddsLog, DrlShort, StepEnds, FmrShort, LogShort, NoneBelow}
use Rattle.vx_layout.specs.declared.gap.Gap.{Gap}
use Rattle.vx_layout.specs.declared.shape.Shape.{Shape}
use Rattle.vx_layout.specs.declared.short.Short.{Short}
use Rattle.vx_layout.specs.declared.short.Short.TheVariants.{OutOfMemory, Space}
use Rattle.vx_layout.proofs.Gaps.{not_both}

-- a run that begins before the end of a gap lies in it
gap_run : (used : List Subdisk) (disk from end n b : ℕ) (gap : Gap) → IsGap used disk from end gap → FreeRun used disk end n b → 0 < n → from ≤ b → b < gap.start + gap.blocks → (gap.start ≤ b) × (b + n ≤ gap.start + gap.blocks)
gap_run used disk from end n b gap is run some behind lt = (low (cases_lt b gap.start), high (cases_lt (gap.start + gap.blocks) (b + n)))
  where
    low : (b < gap.start) ⊎ (gap.start ≤ b) → gap.start ≤ b
    low (inl before) = absurd (not_both (run.free b (omega arith) (omega (arith, some))) (is.before b behind before))
    low (inr le) = le

    high : (gap.start + gap.blocks < b + n) ⊎ (b + n ≤ gap.start + gap.blocks) → b + n ≤ gap.start + gap.blocks
    high (inl more) = absurd (not_both (run.free (gap.start + gap.blocks) (omega (arith, lt)) more) (is.stops (omega (arith, more, run.within))))
    high (inr le) = le

part_run : (used : List Subdisk) (disk from end n : ℕ) (gap : Gap) → IsGap used disk from end gap → 512 ≤ from → n ≤ gap.blocks → FreeRun used disk end n gap.start
part_run used disk from end n gap is public le = record { public = omega (arith, public, is.behind); within = omega (arith, is.within, le); free = λ b low high. is.free b low (omega (arith, high, le)) }

pub before_start : (used : List Subdisk) (disk end count : ℕ) → 0 < count → LongestBefore used disk end count 512 0
before_start used disk end count some = record { public = omega arith; inside = inr refl; short = some; some = inl refl; most = λ b n pos lt run. absurd (omega (arith, lt, run.public)) }

pub before_more : (used : List Subdisk) (disk end count block longest new : ℕ) (gap : Gap) → LongestBefore used disk end count block longest → IsGap used disk block end gap → gap.blocks < count → new ≡ max longest gap.blocks
    → LongestBefore used disk end count (gap.start + gap.blocks) new
before_more used disk end count block longest new gap is g short new_is = record {
  public = omega (arith, is.public, g.behind);
  inside = inl g.within;
  short = omega (arith, is.short, short, new_is);
  some = some (cases_lt longest gap.blocks);
  most = λ b n pos lt run. elim (cases_lt b block) [
    | inl before ↦ omega (arith, is.most b n pos before run, new_is)
    | inr behind ↦ let in_gap = gap_run used disk block end n b gap g run pos behind lt in omega (arith, in_gap.0, in_gap.1, new_is)
  ];
}
  where
    some : (longest < gap.blocks) ⊎ (gap.blocks ≤ longest) → (new ≡ 0) ⊎ ((b : ℕ) × FreeRun used disk end new b)
    some (inl less) = let same : new ≡ gap.blocks = omega (arith, less, new_is) in inr (gap.start, part_run used disk block end new gap g is.public (omega (arith, same)))
    some (inr le) = let same : longest ≡ new = omega (arith, le, new_is) in subst (λ (n : ℕ). (n ≡ 0) ⊎ ((b : ℕ) × FreeRun used disk end n b)) same is.some

pub before_end : (used : List Subdisk) (disk end count block longest : ℕ) → end ≤ block → LongestBefore used disk end count block longest → LongestOn used disk end count longest
before_end used disk end count block longest le is = record { short = is.short; some = is.some; most = λ b n pos run. is.most b n pos (omega (arith, run.within, le, pos)) run }

pub before_hit : (used : List Subdisk) (disk end count block longest : ℕ) (gap : Gap) → 0 < count → LongestBefore used disk end count block longest → IsGap used disk block end gap → count ≤ gap.blocks → LowestOn used disk end count gap.start
before_hit used disk end count block longest gap pos is g le = record {
  run = part_run used disk block end count gap g is.public le;
  first = λ b run. elim (cases_lt b gap.start) [
    | inr at ↦ at
    | inl before ↦ elim (cases_lt b block) [
      | inl early ↦ absurd (let most : count ≤ longest = is.most b count pos early run in omega (arith, most, is.short))
      | inr behind ↦ absurd (not_both (run.free b (omega arith) (omega (arith, pos))) (g.before b behind before))
    ]
  ];
}

-- ---- over the disks

to_run : (used : List Subdisk) (disks : List DiskEntry) (disk end n b : ℕ) → end ≡ disk_blocks disks disk → HasRun used disks n disk b → FreeRun used disk end n b
to_run used disks disk end n b is run = record { public = run.public; within = omega (arith, run.end, is); free = run.free }

from_run : (used : List Subdisk) (disks : List DiskEntry) (disk end n b : ℕ) → end ≡ disk_blocks disks disk → FreeRun used disk end n b → HasRun used disks n disk b
from_run used disks disk end n b is run = record { public = run.public; end = omega (arith, run.within, is); free = run.free }

pub none_start : (used : List Subdisk) (disks : List DiskEntry) (count : ℕ) → 0 < count → NoneBelow used disks count 0 0
none_start used disks count some = record { short = some; some = inl refl; most = λ d b n pos lt run. absurd (omega (arith, lt)) }

pub none_more : (used : List Subdisk) (disks : List DiskEntry) (count disk end longest blocks new : ℕ) → end ≡ disk_blocks disks disk → NoneBelow used disks count disk longest → LongestOn used disk end count blocks → new ≡ max longest blocks → NoneBelow used disks count (disk + 1) new
none_more used disks count disk end longest blocks new end_is is on new_is = record {
  short = omega (arith, is.short, on.short, new_is);
  some = some (cases_lt longest blocks);
  most = λ d b n pos lt run. elim (cases_lt d disk) [
    | inl below ↦ omega (arith, is.most d b n pos below run, new_is)
    | inr behind ↦
        let same : d ≡ disk = omega (arith, lt, behind) in
        let here : HasRun used disks n disk b = subst (λ (k : ℕ). HasRun used disks n k b) same run in
        omega (arith, on.most b n pos (to_run used disks disk end n b end_is here), new_is)
  ];
}
  where
    mine : (new ≡ blocks) → (blocks ≡ 0) ⊎ ((b : ℕ) × FreeRun used disk end blocks b) → (new ≡ 0) ⊎ ((d : ℕ) × (b : ℕ) × HasRun used disks new d b)
    mine same (inl none) = inl (omega (arith, same, none))
    mine same (inr w) = inr (disk, w.0, subst (λ (n : ℕ). HasRun used disks n disk w.0) (sym same) (from_run used disks disk end blocks w.0 end_is w.1))

    some : (longest < blocks) ⊎ (blocks ≤ longest) → (new ≡ 0) ⊎ ((d : ℕ) × (b : ℕ) × HasRun used disks new d b)
    some (inl less) = mine (omega (arith, less, new_is)) on.some
    some (inr le) = let same : longest ≡ new = omega (arith, le, new_is) in subst (λ (n : ℕ). (n ≡ 0) ⊎ ((d : ℕ) × (b : ℕ) × HasRun used disks n d b)) same is.some

pub none_end : (used : List Subdisk) (disks : List DiskEntry) (count disk longest : ℕ) → length disks ≤ 8 → 8 ≤ disk → NoneBelow used disks count disk longest → LogShort used disks count count longest
none_end used disks count disk longest few le is = record {
  is_need = refl;
  none = record {
    short = is.short;
    some = is.some;
    most = λ d b n pos run. elim (cases_lt d disk) [
      | inl below ↦ is.most d b n pos below run
      | inr behind ↦ absurd (past d b n pos behind run)
    ];
  };
}
  where
    past : (d b n : ℕ) → 0 < n → disk ≤ d → HasRun used disks n d b → ⊥
    past d b n pos behind run = let none : disk_blocks disks d ≡ 0 = ap blocks_or (slice_get_past disks d (omega (arith, few, le, behind))) in omega (arith, run.end, none, pos)

pub none_hit : (used : List Subdisk) (disks : List DiskEntry) (count disk end longest start : ℕ) → 0 < count → end ≡ disk_blocks disks disk → NoneBelow used disks count disk longest → LowestOn used disk end count start
    → IsLowestRun used disks count (record { disk = disk; start = start; blocks = count })
none_hit used disks count disk end longest start pos end_is is low = record {
  blocks = refl;
  run = from_run used disks disk end count start end_is low.run;
  first = λ d b run. elim (cases_lt disk d) [
    | inl above ↦ inl above
    | inr le ↦ elim (cases_lt d disk) [
      | inl below ↦ absurd (let most : count ≤ longest = is.most d b count pos below run in omega (arith, most, is.short))
      | inr ge ↦
          let same : d ≡ disk = omega (arith, le, ge) in
          inr (sym same, low.first b (to_run used disks disk end count b end_is (subst (λ (k : ℕ). HasRun used disks count k b) same run)))
    ]
  ];
}

-- ---- the logs that are wanted

pub log_added : (used slice : List Subdisk) (disks : List DiskEntry) (blocks : ℕ) (run : Subdisk) (new_used logs new_logs : List Subdisk) → slice ≡ used → IsLowestRun slice disks blocks run → new_used ≡ used ++ (run ∷ []) → new_logs ≡ logs ++ (run ∷ []) → AddsLog used disks blocks new_used logs new_logs
log_added used slice disks blocks run new_used logs new_logs same is used_is logs_is = record { run = run; is_run = subst (λ (u : List Subdisk). IsLowestRun u disks blocks run) same is; is_used = used_is; is_logs = logs_is }

pub log_short : (used slice : List Subdisk) (disks : List DiskEntry) (blocks need have : ℕ) → slice ≡ used → LogShort slice disks blocks need have → LogShort used disks blocks need have
log_short used slice disks blocks need have same is = subst (λ (u : List Subdisk). LogShort u disks blocks need have) same is

pub drl_from : (want : Shape) (used : List Subdisk) (disks : List DiskEntry) (blocks : ℕ) (new_used logs new_logs : List Subdisk) (r : Result (Unit {0}) Short) → want.drl ≡ true → blocks ≡ drl_blocks want
    → StepEnds (λ _. AddsLog used disks blocks new_used logs new_logs) (LogShort used disks blocks) r → StepEnds (λ _. AddsDrl want used disks new_used logs new_logs) (DrlShort want used disks) r
drl_from want used disks blocks new_used logs new_logs (Ok x) is same adds = record {
  none = λ not. absurd (not_both is not);
  one = λ _. (adds.run, subst (λ (n : ℕ). IsLowestRun used disks n adds.run) same adds.is_run, adds.is_used, adds.is_logs);
}
drl_from want used disks blocks new_used logs new_logs (Err (Space need have)) is same short = record { wanted = is; is_need = short.is_need ∙ same; is_short = short.none }
drl_from want used disks blocks new_used logs new_logs (Err OutOfMemory) is same short = short

pub drl_none : (want : Shape) (used : List Subdisk) (disks : List DiskEntry) (logs : List Subdisk) → want.drl ≡ false → AddsDrl want used disks used logs logs
drl_none want used disks logs not = record { none = λ _. (refl, refl); one = λ is. absurd (not_both is not) }

pub fmr_from : (want : Shape) (used : List Subdisk) (disks : List DiskEntry) (blocks : ℕ) (new_used logs new_logs : List Subdisk) (r : Result (Unit {0}) Short) → want.fmr ≡ true → blocks ≡ fmr_blocks want
    → StepEnds (λ _. AddsLog used disks blocks new_used logs new_logs) (LogShort used disks blocks) r → StepEnds (λ _. AddsFmr want used disks logs new_logs) (FmrShort want used disks) r
fmr_from want used disks blocks new_used logs new_logs (Ok x) is same adds = record {
  none = λ not. absurd (not_both is not);
  one = λ _. (adds.run, subst (λ (n : ℕ). IsLowestRun used disks n adds.run) same adds.is_run, adds.is_logs);
}
fmr_from want used disks blocks new_used logs new_logs (Err (Space need have)) is same short = record { wanted = is; is_need = short.is_need ∙ same; is_short = short.none }
fmr_from want used disks blocks new_used logs new_logs (Err OutOfMemory) is same short = short

pub fmr_none : (want : Shape) (used : List Subdisk) (disks : List DiskEntry) (logs : List Subdisk) → want.fmr ≡ false → AddsFmr want used disks logs logs
fmr_none want used disks logs not = record { none = λ _. refl; one = λ is. absurd (not_both is not) }

by_wants : (want : Shape) (used : List Subdisk) (disks : List DiskEntry) (d f : Bool) (new_used logs new_logs : List Subdisk) → want.drl ≡ d → want.fmr ≡ f → AddsDrl want used disks new_used [] logs → AddsFmr want new_used disks logs new_logs → AreLogs want used disks d f new_logs
by_wants want used disks false false new_used logs new_logs d f drl fmr = fmr.none f ∙ (drl.none d).1
by_wants want used disks true false new_used logs new_logs d f drl fmr = let it = drl.one d in (it.0, fmr.none f ∙ it.3, it.1)
by_wants want used disks false true new_used logs new_logs d f drl fmr =
    let it = fmr.one f in
    let before = drl.none d in
    (it.0, it.2 ∙ ap (λ (xs : List Subdisk). xs ++ (it.0 ∷ [])) before.1, subst (λ (u : List Subdisk). IsLowestRun u disks (fmr_blocks want) it.0) before.0 it.1)
by_wants want used disks true true new_used logs new_logs d f drl fmr =
    let one = drl.one d in
    let it = fmr.one f in
    (one.0, it.0, it.2 ∙ ap (λ (xs : List Subdisk). xs ++ (it.0 ∷ [])) one.3, one.1, subst (λ (u : List Subdisk). IsLowestRun u disks (fmr_blocks want) it.0) one.2 it.1)

pub logs_are : (want : Shape) (used : List Subdisk) (disks : List DiskEntry) (new_used none logs new_logs : List Subdisk) → none ≡ [] → AddsDrl want used disks new_used none logs → AddsFmr want new_used disks logs new_logs → AreLogs want used disks want.drl want.fmr new_logs
logs_are want used disks new_used none logs new_logs empty drl fmr = by_wants want used disks want.drl want.fmr new_used logs new_logs refl refl (subst (λ (xs : List Subdisk). AddsDrl want used disks new_used xs logs) empty drl) fmr

pub no_drl : (want : Shape) (used : List Subdisk) (disks : List DiskEntry) (need have : ℕ) → DrlShort want used disks need have → NoLog want used disks need have
no_drl want used disks need have short = inl (short.wanted, short.is_need, short.is_short)

pub no_fmr : (want : Shape) (used : List Subdisk) (disks : List DiskEntry) (new_used none logs : List Subdisk) (need have : ℕ) → AddsDrl want used disks new_used none logs → FmrShort want new_used disks need have → NoLog want used disks need have
no_fmr want used disks new_used none logs need have drl short = inr (short.wanted, short.is_need, by want.drl refl)
  where
    by : (d : Bool) → want.drl ≡ d → ((want.drl ≡ false) × HasNoRun used disks need have) ⊎ ((want.drl ≡ true) × ((run : Subdisk) × IsLowestRun used disks (drl_blocks want) run × HasNoRun (used ++ (run ∷ [])) disks need have))
    by false is = inl (is, subst (λ (u : List Subdisk). HasNoRun u disks need have) (drl.none is).0 short.is_short)
    by true is = let one = drl.one is in inr (is, (one.0, one.1, subst (λ (u : List Subdisk). HasNoRun u disks need have) one.2 short.is_short))
