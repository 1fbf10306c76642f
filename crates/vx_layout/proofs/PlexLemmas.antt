-- The plexes of a new volume, one after the other.
use Rattle.std.proofs.Common.{◌≡◌, inl, inr, ℕ, ◌+◌, ◌-◌, ◌<◌, List, [], ◌∷◌, ◌++◌, length, drop, take, append_assoc, refl, ap, sym, ◌∙◌, subst, arith}
use Rattle.std.specs.Prelude.{Result, Err}
use Rattle.std.proofs.lemmas.List.{append-nil, length-drop, length_push, take_all}
use Rattle.vx_config.specs.declared.config.Config.{Config}
use Rattle.vx_config.specs.declared.entry.DiskEntry.{DiskEntry}
use Rattle.vx_config.specs.declared.entry.Subdisk.{Subdisk}
use Rattle.vx_config.specs.Checks.{runs}
use Rattle.vx_layout.specs.Space.{AreLogs, ArePlexes, IsFound, IsPlex, IsSpaceShort, NoLog, NoPlex, flat}
use Rattle.vx_layout.specs.Steps.{AddsPlex, StepEnds, Placed, Placing, PlexesShort}
use Rattle.vx_layout.specs.declared.shape.Found.{Found}
use Rattle.vx_layout.specs.declared.shape.Shape.{Shape}
use Rattle.vx_layout.specs.declared.short.Short.{Short}
use Rattle.vx_layout.specs.declared.short.Short.TheVariants.{OutOfMemory, Space}

flat_push : (ps : List (List Subdisk)) (p : List Subdisk) → flat (ps ++ (p ∷ [])) ≡ flat ps ++ p
flat_push [] p = append-nil p
flat_push (q ∷ ps) p = ap (λ (xs : List Subdisk). q ++ xs) (flat_push ps p) ∙ sym (append_assoc q (flat ps) p)

drop_front : (xs ys : List Subdisk) → drop (length xs) (xs ++ ys) ≡ ys
drop_front [] ys = refl
drop_front (x ∷ xs) ys = drop_front xs ys

pub placing_start : (want : Shape) (used : List Subdisk) (disks : List DiskEntry) (found : List Subdisk) (plexes : List (List Subdisk)) → found ≡ [] → plexes ≡ [] → Placing want used disks 0 found plexes
placing_start want used disks found plexes empty none = record {
  many = ap length none;
  is = empty ∙ ap flat (sym none);
  rest = λ more are. subst (λ (ps : List (List Subdisk)). ArePlexes want used disks [] (ps ++ more)) (sym none) (subst (λ (f : List Subdisk). ArePlexes want used disks f more) empty are);
}

pub placing_more : (want : Shape) (used : List Subdisk) (disks : List DiskEntry) (placed : ℕ) (found next p : List Subdisk) (plexes new : List (List Subdisk)) → Placing want used disks placed found plexes → AddsPlex want used disks found next → p ≡ drop (length found) next → new ≡ plexes ++ (p ∷ [])
    → Placing want used disks (placed + 1) next new
placing_more want used disks placed found next p plexes new is adds part push =
    let mine : p ≡ adds.runs = part ∙ ap (drop (length found)) adds.is ∙ drop_front found adds.runs in
    let next_is : next ≡ found ++ p = adds.is ∙ ap (λ (xs : List Subdisk). found ++ xs) (sym mine) in
    record {
      many = ap length push ∙ length_push plexes p ∙ ap (λ (n : ℕ). n + 1) is.many;
      is = next_is ∙ ap (λ (xs : List Subdisk). xs ++ p) is.is ∙ sym (flat_push plexes p) ∙ ap flat (sym push);
      rest = λ more are. subst (λ (ps : List (List Subdisk)). ArePlexes want used disks [] (ps ++ more)) (sym push)
          (subst (λ (ps : List (List Subdisk)). ArePlexes want used disks [] ps) (sym (append_assoc plexes (p ∷ []) more))
          (is.rest (p ∷ more) (subst (λ (xs : List Subdisk). IsPlex want used disks found xs) (sym mine) adds.are, subst (λ (f : List Subdisk). ArePlexes want used disks f more) next_is are)));
    }

placing_so : (want : Shape) (used : List Subdisk) (disks : List DiskEntry) (placed : ℕ) (found : List Subdisk) (plexes : List (List Subdisk)) → Placing want used disks placed found plexes → ArePlexes want used disks [] plexes
placing_so want used disks placed found plexes is = subst (λ (ps : List (List Subdisk)). ArePlexes want used disks [] ps) (append-nil plexes) (is.rest [] tt)

pub placing_end : (want : Shape) (used : List Subdisk) (disks : List DiskEntry) (placed : ℕ) (found : List Subdisk) (plexes : List (List Subdisk)) → placed ≡ want.mirrors → Placing want used disks placed found plexes → Placed want used disks found plexes
placing_end want used disks placed found plexes all is = record { many = is.many ∙ all; is = is.is; are = placing_so want used disks placed found plexes is }

pub placing_short : (want : Shape) (used : List Subdisk) (disks : List DiskEntry) (placed need have : ℕ) (found : List Subdisk) (plexes : List (List Subdisk)) → placed < want.mirrors → Placing want used disks placed found plexes → NoPlex want used disks found need have → PlexesShort want used disks need have
placing_short want used disks placed need have found plexes lt is short = record {
  plexes = plexes;
  are = placing_so want used disks placed found plexes is;
  few = omega (arith, lt, is.many);
  next = subst (λ (f : List Subdisk). NoPlex want used disks f need have) is.is short;
}

-- ---- all together

module _ (c : Config) (want : Shape) (used slice : List Subdisk) (disks : List DiskEntry) (used_is : used ≡ runs c) (slice_is : slice ≡ used) (disks_is : disks ≡ c.disks) where
  same_used : slice ≡ runs c
  same_used = slice_is ∙ used_is

  plexes_of : (plexes : List (List Subdisk)) → ArePlexes want slice disks [] plexes → ArePlexes want (runs c) c.disks [] plexes
  plexes_of plexes are = subst (λ (d : List DiskEntry). ArePlexes want (runs c) d [] plexes) disks_is (subst (λ (u : List Subdisk). ArePlexes want u disks [] plexes) same_used are)

  pub short_of_plexes : (need have : ℕ) → PlexesShort want slice disks need have → IsSpaceShort c want need have
  short_of_plexes need have short = record {
    plexes = short.plexes;
    are = plexes_of short.plexes short.are;
    next = inl (short.few, subst (λ (d : List DiskEntry). NoPlex want (runs c) d (flat short.plexes) need have) disks_is (subst (λ (u : List Subdisk). NoPlex want u disks (flat short.plexes) need have) same_used short.next));
  }

  module _ (found found_slice all : List Subdisk) (plexes : List (List Subdisk)) (placed : Placed want slice disks found plexes) (found_is : found_slice ≡ found) (all_is : all ≡ used ++ found_slice) where
    all_so : all ≡ runs c ++ flat plexes
    all_so = all_is ∙ ap (λ (f : List Subdisk). used ++ f) (found_is ∙ placed.is) ∙ ap (λ (u : List Subdisk). u ++ flat plexes) used_is

    pub short_of_logs : (need have : ℕ) → NoLog want all disks need have → IsSpaceShort c want need have
    short_of_logs need have short = record {
      plexes = plexes;
      are = plexes_of plexes placed.are;
      next = inr (placed.many, subst (λ (d : List DiskEntry). NoLog want (runs c ++ flat plexes) d need have) disks_is (subst (λ (u : List Subdisk). NoLog want u disks need have) all_so short));
    }

    pub found_all : (f : Found) → f.plexes.items ≡ plexes → AreLogs want all disks want.drl want.fmr f.logs → IsFound c want f
    found_all f plexes_is logs = record {
      many = ap length plexes_is ∙ placed.many;
      plexes = subst (λ (ps : List (List Subdisk)). ArePlexes want (runs c) c.disks [] ps) (sym plexes_is) (plexes_of plexes placed.are);
      logs = subst (λ (ps : List (List Subdisk)). AreLogs want (runs c ++ flat ps) c.disks want.drl want.fmr f.logs) (sym plexes_is)
          (subst (λ (d : List DiskEntry). AreLogs want (runs c ++ flat plexes) d want.drl want.fmr f.logs) disks_is (subst (λ (u : List Subdisk). AreLogs want u disks want.drl want.fmr f.logs) all_so logs));
    }

-- a plex that has no place ends the search for plexes
pub placing_err : {T : Type 0} (done : T → Type 0) (want : Shape) (used : List Subdisk) (disks : List DiskEntry) (placed : ℕ) (found next : List Subdisk) (plexes : List (List Subdisk)) (s : Short) (r : Result T Short) → placed < want.mirrors → Placing want used disks placed found plexes → r ≡ Err s
    → StepEnds {T = Unit {0}} (λ _. AddsPlex want used disks found next) (NoPlex want used disks found) (Err s) → StepEnds done (PlexesShort want used disks) r
placing_err {T} done want used disks placed found next plexes s r lt is same short =
    subst (λ (x : Result T Short). StepEnds done (PlexesShort want used disks) x) (sym same) (by s short)
  where
    by : (s : Short) → StepEnds {T = Unit {0}} (λ _. AddsPlex want used disks found next) (NoPlex want used disks found) (Err s) → StepEnds {T = T} done (PlexesShort want used disks) (Err s)
    by (Space need have) short = placing_short want used disks placed need have found plexes lt is short
    by OutOfMemory short = short

pub tail_of : (slice xs : List Subdisk) (start n : ℕ) → slice ≡ xs → start ≡ n → take (length slice - start) (drop start slice) ≡ drop n xs
tail_of slice xs start n same start_is =
    take_all (length slice - start) (drop start slice) (let e = length-drop start slice in omega (arith, e)) ∙ ap (λ (k : ℕ). drop k slice) start_is ∙ ap (drop n) same
