-- The disk set of a site within its yard: a line that sets no disk makes none of it fail.
use Rattle.std.proofs.Common.{◌≡◌, ◌∙◌, ◌⊎◌, ◌<◌, ℕ, List, length, ap, sym, subst, refl, inl, inr, ⊎_elim}
use Rattle.std.specs.Prelude.{Some, slice_get, slice_set}
use Rattle.std.proofs.lemmas.Bool.{cases_eq}
use Rattle.std.proofs.lemmas.Option.{slice_get_within}
use Rattle.vx_model.proofs.Lists.{get_there}
use Rattle.vx_disk.specs.Disks.{Disks}
use Rattle.vx_disk.specs.declared.shelf.Shelf.{Ghosts}
use Rattle.vx_events.proofs.Places.{some_same}
use Rattle.vx_events.specs.declared.said.Said.{Said}
use Rattle.vx_model.specs.declared.site.SiteState.{SiteState}
use Rattle.vx_model.specs.declared.site.SiteState.TheVariants.{Up as UpState}
use Rattle.vx_diskset.specs.Asked.{CrashesBy, SameFailing, LeavesFuse, WritesUnder, disks_told, size_in}
use Rattle.vx_yard.specs.OfSites.{AllSameFailing, FallsFirst, OfSite, RecoversAs}
use Rattle.vx_diskset.specs.Burning.{Burnt, IsLogged}
use Rattle.vx_diskset.specs.declared.disk_set.DiskSet.{DiskSet}
use Rattle.vx_yard.specs.declared.yard.Yard.{Yard}
use Rattle.vx_diskset.proofs.KeepsFailing.{failing_same, failing_then, same_on}
use Rattle.vx_yard.proofs.Lists.{get-set_other, get-set_same, set_same, set_twice}

module _ {R : Type 0} {g : Ghosts R} where
  -- the calls of a line
  pub called_keeps : (P : Disks → Disks → Type 0) (said : Said) (s : ℕ) (a b : Yard R g) → OfSite (LeavesFuse P said) s a b → OfSite SameFailing s a b
  called_keeps P said s a b of = record {
    before = of.before;
    after = of.after;
    there = of.there;
    disk_sets = of.disk_sets;
    did = record { told = same_on (Burnt P said (size_in of.before)) (disks_told of.before) (disks_told of.after) of.did.told };
  }

  -- a write
  pub burns_of : (bytes : List ℕ) (said : Said) (s : ℕ) (a b : Yard R g) → OfSite (WritesUnder bytes said) s a b → OfSite (LeavesFuse IsLogged said) s a b
  burns_of bytes said s a b of = record { before = of.before; after = of.after; there = of.there; disk_sets = of.disk_sets; did = of.did.burns }

  pub bytes_as : (bytes other : List ℕ) (said : Said) (s : ℕ) (a b : Yard R g) → bytes ≡ other → OfSite (WritesUnder bytes said) s a b → OfSite (WritesUnder other said) s a b
  bytes_as bytes other said s a b is of = subst (λ (bs : List ℕ). OfSite (WritesUnder bs said) s a b) is of

  pub writes_keep : (bytes : List ℕ) (said : Said) (s : ℕ) (a b : Yard R g) → OfSite (WritesUnder bytes said) s a b → OfSite SameFailing s a b
  writes_keep bytes said s a b of = called_keeps IsLogged said s a b (burns_of bytes said s a b of)

  -- nothing was done
  pub site_still : (Did : DiskSet R g → DiskSet R g → Type 0) (s : ℕ) (old new : Yard R g) → ((e : DiskSet R g) → Did e e) → s < length old.disk_sets.items → new.disk_sets.items ≡ old.disk_sets.items → OfSite Did s old new
  site_still Did s old new none below same =
      let there = get_there old.disk_sets.items s below in
      record { before = there.0; after = there.0; there = there.1; disk_sets = same ∙ sym (set_same old.disk_sets.items s there.0 there.1); did = none there.0 }

  -- by its number
  pub site_by : (s k : ℕ) (old new : Yard R g) → k ≡ s → OfSite SameFailing k old new → OfSite SameFailing s old new
  site_by s k old new is of = subst (λ (n : ℕ). OfSite SameFailing n old new) is of

  pub site_kept : (s k : ℕ) (old new : Yard R g) (before after : DiskSet R g) → k ≡ s → slice_get old.disk_sets.items k ≡ Some before → new.disk_sets.items ≡ slice_set old.disk_sets.items k after → SameFailing before after → OfSite SameFailing s old new
  site_kept s k old new before after is there disk_sets did = site_by s k old new is (record { before = before; after = after; there = there; disk_sets = disk_sets; did = did })

  -- two in a row
  pub site_then : (s : ℕ) (a b c : Yard R g) → s < length a.disk_sets.items → OfSite SameFailing s a b → OfSite SameFailing s b c → OfSite SameFailing s a c
  site_then s a b c below one two =
      let mid : slice_get b.disk_sets.items s ≡ Some one.after = ap (λ es. slice_get es s) one.disk_sets ∙ get-set_same a.disk_sets.items s one.after below in
      record {
        before = one.before;
        after = two.after;
        there = one.there;
        disk_sets = two.disk_sets ∙ ap (λ es. slice_set es s two.after) one.disk_sets ∙ set_twice a.disk_sets.items s one.after two.after;
        did = failing_then one.before one.after two.after one.did
            (subst (λ (e : DiskSet R g). SameFailing e two.after) (some_same (sym two.there ∙ mid)) two.did);
      }

  -- ---- recoveries

  -- by its number, whatever was done
  pub site_numbered : (Did : DiskSet R g → DiskSet R g → Type 0) (s k : ℕ) (old new : Yard R g) → k ≡ s → OfSite Did k old new → OfSite Did s old new
  site_numbered Did s k old new is of = subst (λ (n : ℕ). OfSite Did n old new) is of

  -- nothing was done
  pub recovers_none : (state : SiteState) (s : ℕ) (y : Yard R g) → OfSite SameFailing s y y → RecoversAs state s y y
  recovers_none state s y of = record { failing = of; first = λ _. inl refl }

  -- of a site that is not up
  pub recovers_rest : (state : SiteState) (s : ℕ) (old new : Yard R g) → (state ≡ UpState → ⊥) → OfSite SameFailing s old new → RecoversAs state s old new
  recovers_rest state s old new rest of = record { failing = of; first = λ up. absurd (rest up) }

  -- one that is up crashed first
  pub recovers_up : (state : SiteState) (s : ℕ) (a b c : Yard R g) → s < length a.disk_sets.items → OfSite (CrashesBy 0xffff_ffff_ffff_ffff) s a b → OfSite SameFailing s a b → OfSite SameFailing s b c → RecoversAs state s a c
  recovers_up state s a b c below crashed one two = record {
    failing = site_then s a b c below one two;
    first = λ _. inr (record { middle = b; crashed = crashed; goes = two });
  }

  falls_from : (s : ℕ) (a b c : Yard R g) → b.disk_sets.items ≡ a.disk_sets.items → FallsFirst s b c → FallsFirst s a c
  falls_from s a b c same falls = record {
    middle = falls.middle;
    crashed = record {
      before = falls.crashed.before;
      after = falls.crashed.after;
      there = sym (ap (λ es. slice_get es s) same) ∙ falls.crashed.there;
      disk_sets = falls.crashed.disk_sets ∙ ap (λ es. slice_set es s falls.crashed.after) same;
      did = falls.crashed.did;
    };
    goes = falls.goes;
  }

  falls_on : (s : ℕ) (a b c : Yard R g) → FallsFirst s a b → OfSite SameFailing s b c → FallsFirst s a c
  falls_on s a b c falls two = record {
    middle = falls.middle;
    crashed = falls.crashed;
    goes = site_then s falls.middle b c (slice_get_within falls.middle.disk_sets.items s falls.goes.before falls.goes.there) falls.goes two;
  }

  -- two in a row
  pub recovers_then : (state : SiteState) (s : ℕ) (a b c : Yard R g) → RecoversAs state s a b → RecoversAs state s b c → RecoversAs state s a c
  recovers_then state s a b c one two = record {
    failing = site_then s a b c (slice_get_within a.disk_sets.items s one.failing.before one.failing.there) one.failing two.failing;
    first = λ up. ⊎_elim
        (λ (same : b.disk_sets.items ≡ a.disk_sets.items).
        ⊎_elim
        (λ (still : c.disk_sets.items ≡ b.disk_sets.items). inl (still ∙ same))
        (λ (falls : FallsFirst s b c). inr (falls_from s a b c same falls)) (two.first up))
        (λ (falls : FallsFirst s a b). inr (falls_on s a b c falls two.failing)) (one.first up);
  }

  -- ---- of each site

  -- nothing was done
  pub all_still : (old new : Yard R g) → new.disk_sets.items ≡ old.disk_sets.items → AllSameFailing old new
  all_still old new same = record { each = λ s after is. (after, sym (ap (λ es. slice_get es s) same) ∙ is, failing_same after) }

  -- one of them did so
  pub all_of_site : (s : ℕ) (old new : Yard R g) → OfSite SameFailing s old new → AllSameFailing old new
  all_of_site s old new of = record {
    each = λ i after is.
        let found : slice_get (slice_set old.disk_sets.items s of.after) i ≡ Some after = sym (ap (λ es. slice_get es i) of.disk_sets) ∙ is in
        ⊎_elim
        (λ (same : i ≡ s).
        let here : of.after ≡ after = some_same (sym (get-set_same old.disk_sets.items s of.after (slice_get_within old.disk_sets.items s of.before of.there))
        ∙ ap (λ (k : ℕ). slice_get (slice_set old.disk_sets.items s of.after) k) (sym same) ∙ found) in
        (of.before, ap (λ (k : ℕ). slice_get old.disk_sets.items k) same ∙ of.there, subst (λ (e : DiskSet R g). SameFailing of.before e) here of.did))
        (λ apart. (after, sym (get-set_other old.disk_sets.items s i of.after apart) ∙ found, failing_same after))
        (cases_eq i s);
  }

  -- two in a row
  pub all_then : (a b c : Yard R g) → AllSameFailing a b → AllSameFailing b c → AllSameFailing a c
  all_then a b c one two = record {
    each = λ s after is.
        let mid = two.each s after is in
        let first = one.each s mid.0 mid.1 in
        (first.0, first.1, failing_then first.0 mid.0 after first.2 mid.2);
  }
