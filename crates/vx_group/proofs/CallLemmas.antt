-- Calls of a group as calls of a shelf, with their causes.
use Rattle.std.proofs.Common.{◌≡◌, inl, inr, ⊎_elim, ℕ, ◌≤◌, Bool, true, false, IsTrue, List, Result, Ok, Err, OnOk, refl, sym, ◌∙◌, subst, arith}
use Rattle.vx_disk.specs.Blocks.{bit_at}
use Rattle.vx_disk.specs.Causes.{Cause}
use Rattle.vx_disk.specs.Counts.{Rose}
use Rattle.vx_disk.specs.Shelf.{Flushed, Goes, Image, Lawful, Meaning, Nothing, Or, Values, Wrote}
use Rattle.vx_disk.specs.declared.shelf.ShelfError.{ShelfError}
use Rattle.vx_disk.specs.declared.shelf.ShelfError.TheVariants.{Fault, Down}
use Rattle.vx_disk.proofs.Causing.{Rose_after, Rose_before}
use Rattle.vx_config.specs.declared.config.Config.{Config}
use Rattle.vx_volume.specs.Plexes.{active}
use Rattle.vx_model.specs.declared.no.No.{No}
use Rattle.vx_model.specs.declared.no.No.TheVariants as refusal
use Rattle.vx_volume.specs.Volumes.{AllBut, EndsAt, PlexCause}
use Rattle.vx_kept.specs.Commits.{Member}
use Rattle.vx_kept.specs.Groups.{group_meaning}
use Rattle.vx_kept.specs.Keeping.{Acts, Kept, IsTidy, Sees}
use Rattle.vx_kept.proofs.StateLemmas.{same_shape, then_shape}
use Rattle.vx_kept.proofs.Steps.{both_Acts, group-Goes, wide_Acts}
use Rattle.vx_kept.proofs.Whole.{sees_back}
use Rattle.vx_group.specs.Blames.{Blames, BlamesOr, CountsRise, fault_of}
use Rattle.vx_group.specs.Moves.{AreOff, Narrows}
use Rattle.vx_kept.specs.Trusts.{Trusts}
use Rattle.vx_group.specs.Stands.{InnerStands}
use Rattle.vx_group.specs.declared.inner.Inner.{Inner}
use Rattle.vx_group.proofs.ReadyLemmas.{kin_volumes}
use Rattle.vx_group.proofs.Standing.{apart_of_core, made, can_of, still_large}
use Rattle.vx_copies.proofs.OneTry.{wanted_same}

-- ---- answers

pub ok_by : {T Q P : Type 0} (r : Result T ShelfError) (disk : ℕ) (old new : Meaning) → OnOk r Q → BlamesOr disk old new r → (Q → (IsTrue new.down → ⊥) → P) → OnOk r P
ok_by (Ok x) disk old new is up made_by = made_by is up
ok_by (Err error) disk old new is why made_by = tt

-- the disk of the failed plexes or of the commit
pub blames_by : {T : Type 0} (r : Result T ShelfError) (disk : ℕ) (old mid new : Meaning) → Rose (old.disk_faults disk) (mid.disk_faults disk) → ((d : ℕ) → old.disk_faults d ≤ mid.disk_faults d)
    → ((d : ℕ) → mid.disk_faults d ≤ new.disk_faults d) → BlamesOr disk mid new r → Blames old new r
blames_by (Ok x) disk old mid new rose before after up = up
blames_by (Err (Fault d)) disk old mid new rose before after why = (
  ⊎_elim (λ now. Rose_before (old.disk_faults d) (mid.disk_faults d) (new.disk_faults d) (before d) now)
      (λ same. subst (λ (k : ℕ). Rose (old.disk_faults k) (new.disk_faults k)) (sym same) (Rose_after (old.disk_faults disk) (mid.disk_faults disk) (new.disk_faults disk) rose (after disk))) why.0,
  why.1,
)
blames_by (Err Down) disk old mid new rose before after down = down

pub blames_later : {T : Type 0} (r : Result T ShelfError) (old mid new : Meaning) → ((d : ℕ) → old.disk_faults d ≤ mid.disk_faults d) → Blames mid new r → Blames old new r
blames_later (Ok x) old mid new before up = up
blames_later (Err (Fault d)) old mid new before why = (Rose_before (old.disk_faults d) (mid.disk_faults d) (new.disk_faults d) (before d) why.0, why.1)
blames_later (Err Down) old mid new before down = down

-- a plex that failed
pub plex_blames : (T : Type 0) (c : Config) (v p : ℕ) (old new : Meaning) (error : ShelfError) → PlexCause {T = T} c v p old new (Err error) → Blames {T = T} old new (Err error)
plex_blames T c v p old new (Fault disk) why = (why.1, why.2)
plex_blames T c v p old new Down down = down

pub counts_less : (error : ShelfError) (v : ℕ) (old new : ℕ → ℕ) → CountsRise error v old new → (u : ℕ) → old u ≤ new u
counts_less (Fault d) v old new raised u = raised.no_less u
counts_less Down v old new same u = let is = same u in omega (arith, is)

-- a failed call whose fault was counted
pub cause_by : (T : Type 0) (error : ShelfError) (c d : Config) (v : ℕ) (f f' : ℕ → ℕ) (m m' : Meaning) → (IsTrue m.down → ⊥) → Blames {T = T} m m' (Err error) → CountsRise error v f f'
    → Cause {T = T} (group_meaning c f m) (group_meaning d f' m') v (Err error)
cause_by T (Fault disk) c d v f f' m m' up why counts = (record { count = counts.rose; disk_count = why.0 }, record { before = up; after = why.1 })
cause_by T Down c d v f f' m m' up down counts = down

pub not_down : (r d : Bool) → r ≡ d → r ≡ false → IsTrue d → ⊥
not_down r d is off down = let clash : false ≡ true = sym off ∙ is ∙ down in cc

-- ---- calls that change no block of a plex

module _ (core d : Inner) (m m' : Meaning) (after : Lawful m') (stands : InnerStands core m) (narrows : Narrows core d m m') where
  pub narrows_Goes : (f f' : ℕ → ℕ) → ((u : ℕ) → f u ≤ f' u) → Goes Nothing (group_meaning core.config f m) (group_meaning d.config f' m')
  narrows_Goes f f' no_less = group-Goes core.config d.config (Member core.good m) f f' m m' Nothing Nothing narrows.acts (apart_of_core core m stands) narrows.shape narrows.on
      (λ v p b x in_it is_on none. none) no_less (λ not t i left. after.never not t i left)

-- ---- what follows a call that changes nothing

pub nothing_Wrote : (unit block : ℕ) (bytes : List ℕ) (a b c : Meaning) → Goes Nothing a b → (IsTrue b.down → ⊥) → Wrote unit block bytes b c → Wrote unit block bytes a c
nothing_Wrote unit block bytes a b c goes up wrote = record {
  each = λ u k x is. elim (wrote.each u k x is) [
    | inl put ↦ inl put
    | inr out ↦ elim (goes.reads u k x out.1) [
      | inl (inl was) ↦ inr (out.0, was)
      | inl (inr none) ↦ absurd none
      | inr down ↦ absurd (up down)
    ]
  ];
}

pub nothing_Flushed : (unit : ℕ) (a b c : Meaning) → Goes Nothing a b → (IsTrue b.down → ⊥) → Flushed unit b c → Flushed unit a c
nothing_Flushed unit a b c goes up flushed = record {
  each = λ k x left. elim (goes.reads unit k x (flushed.each k x left)) [
    | inl (inl was) ↦ was
    | inl (inr none) ↦ absurd none
    | inr down ↦ absurd (up down)
  ];
}

-- a call behind which a fault of a volume was counted
pub raised_Goes : (W : Values) (old : Meaning) (c : Config) (f f' : ℕ → ℕ) (m : Meaning) → ((u : ℕ) → f u ≤ f' u) → Goes W old (group_meaning c f m) → Goes W old (group_meaning c f' m)
raised_Goes W old c f f' m no_less goes = record {
  units = goes.units;
  size = goes.size;
  tells = goes.tells;
  reads = goes.reads;
  leaves = goes.leaves;
  later = goes.later;
  since = goes.since;
  keeps = goes.keeps;
  faults = λ u. let was = goes.faults u in let more = no_less u in omega (arith, was, more);
  disk_faults = goes.disk_faults;
  falls = goes.falls;
  unarmed = goes.unarmed;
  safe = goes.safe;
}

-- ---- the plexes that were not detached

pub left_done : (c d : Config) (v set : ℕ) (done : ℕ → Type 0) (old new : Meaning) → ((p : ℕ) → IsTrue (active d v p) → IsTrue (active c v p)) → AllBut c v (bit_at set) done old new → AreOff d v set
    → (p : ℕ) → IsTrue (active d v p) → done p
left_done c d v set done old new on but off p is_on = by (bit_at set p) refl
  where
    by : (b : Bool) → bit_at set p ≡ b → done p
    by false is = but.is_done p (on p is_on) is
    by true is = absurd (let out = off.each p is in let clash : false ≡ true = sym out ∙ is_on in cc)

-- ---- with other marks

pub with_Stands : (core : Inner) (next faults : List ℕ) (m : Meaning) → InnerStands core m → InnerStands (record { config = core.config; good = core.good; room = core.room; unsettled = core.unsettled; committed = core.committed; agreed = core.agreed; next = next; faults = faults; unsure = core.unsure }) m
with_Stands core next faults m s = record {
  wanted = s.wanted;
  serial = s.serial;
  disks = s.disks;
  rvg = s.rvg;
  few = s.few;
  small = s.small;
  large = s.large;
  on = s.on;
  some = s.some;
  kept = s.kept;
  tidy = s.tidy;
  trusts = s.trusts;
}

-- ---- headers that were written back

module _ (core : Inner) (b : Bool) (m m' : Meaning) (stands : InnerStands core m) (kept : Kept core.config (Member core.good m') m') (acts : Acts Nothing (Sees core.config (Member core.good m) m) m m') where
  abbrev settled : Inner
  settled = record { config = core.config; good = core.good; room = core.room; unsettled = b; committed = core.committed; agreed = core.agreed; next = core.next; faults = core.faults; unsure = core.unsure }

  pub settled_Stands : (b ≡ false → IsTidy core.config m') → Trusts core.committed core.agreed core.good m' → InnerStands settled m'
  settled_Stands tidy trusts = made settled m' (wanted_same m m' core.config acts.units acts.size stands.wanted) (can_of core m stands) stands.few stands.small (still_large m m' acts.units acts.size stands.large) stands.on stands.some kept tidy trusts

  pub settled_Narrows : (d : Inner) (last : Meaning) → Narrows settled d m' last → Narrows core d m last
  settled_Narrows d last narrows = record {
    acts = wide_Acts (Or Nothing Nothing) Nothing (Sees core.config (Member core.good m) m) m last
        (both_Acts Nothing Nothing (Sees core.config (Member core.good m) m) (Sees core.config (Member core.good m') m') m m' last acts narrows.acts (λ i sees. sees_back core.good core.config m m' acts.units acts.size i sees))
        (λ u k x. ⊎_elim (λ none. none) (λ none. none));
    shape = narrows.shape;
    on = narrows.on;
    faults = narrows.faults;
    unsure = narrows.unsure;
  }

  pub settled_to : Narrows core settled m m'
  settled_to = record { acts = acts; shape = same_shape core.config; on = λ v p is. is; faults = refl; unsure = refl }

  pub settled_only : Narrows core core m m'
  settled_only = record { acts = acts; shape = same_shape core.config; on = λ v p is. is; faults = refl; unsure = refl }

pub sees_volumes : (c d : Config) (G : ℕ → Type 0) (m : Meaning) (i : Image) → d.volumes ≡ c.volumes → Sees c G m i → Sees d G m i
sees_volumes c d G m i volumes sees = record {
  config = sees.config;
  found = sees.found;
  kin = kin_volumes c d sees.config volumes sees.kin;
  others = λ R g x held in_it is. kin_volumes c d x volumes (sees.others R g x held in_it is);
}

-- ---- two in a row, of which the first left the configuration

pub both_acts : (a b : Inner) (m m' last : Meaning) → b.config.volumes ≡ a.config.volumes → b.good ≡ a.good → Acts Nothing (Sees a.config (Member a.good m) m) m m'
    → Acts Nothing (Sees b.config (Member b.good m') m') m' last → Acts Nothing (Sees a.config (Member a.good m) m) m last
both_acts a b m m' last config good one two = wide_Acts (Or Nothing Nothing) Nothing (Sees a.config (Member a.good m) m) m last
    (both_Acts Nothing Nothing (Sees a.config (Member a.good m) m) (Sees b.config (Member b.good m') m') m m' last one two
    (λ i sees. sees_back a.good a.config m m' one.units one.size i (sees_volumes b.config a.config (Member a.good m') m' i (sym config) (subst (λ (k : ℕ). Sees b.config (Member k m') m' i) good sees))))
    (λ u k x. ⊎_elim (λ none. none) (λ none. none))

pub both_Narrows : (a b d : Inner) (m m' last : Meaning) → b.config.volumes ≡ a.config.volumes → b.good ≡ a.good → Narrows a b m m' → Narrows b d m' last → Narrows a d m last
both_Narrows a b d m m' last config good one two = record {
  acts = both_acts a b m m' last config good one.acts two.acts;
  shape = then_shape d.config b.config a.config two.shape one.shape;
  on = λ v p is. one.on v p (two.on v p is);
  faults = two.faults ∙ one.faults;
  unsure = two.unsure ∙ one.unsure;
}

-- ---- refusals of a volume

pub ends_blame : (c : Config) (v : ℕ) (done : ℕ → Type 0) (old new : Meaning) (why : No) (device : ℕ) → EndsAt c v done old new (Err why) → Blames {T = Unit {0}} old new (Err (fault_of why device))
ends_blame c v done old new (refusal.Device disk) device failed = (failed.rose, failed.up)
ends_blame c v done old new refusal.Down device down = down
ends_blame c v done old new other device ends = absurd ends
