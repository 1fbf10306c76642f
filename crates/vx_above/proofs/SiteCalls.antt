-- The failed calls of a line at one site, by the counts of its disks.
use Rattle.std.proofs.Common.{◌≡◌, ◌∙◌, ◌≤◌, ℕ, List, ap, sym, subst}
use Rattle.std.proofs.lemmas.Option.{slice_get_within}
use Rattle.std.specs.Prelude.{Option, slice_get}
use Rattle.vx_disk.specs.Counts.{Rose}
use Rattle.vx_disk.specs.Shelf.{Meaning}
use Rattle.vx_disk.specs.declared.shelf.Shelf.{Ghosts}
use Rattle.vx_diskset.specs.Stands.{faults_at}
use Rattle.vx_diskset.specs.declared.disk_set.DiskSet.{DiskSet}
use Rattle.vx_events.specs.Fails.{Fails}
use Rattle.vx_yard.proofs.ChangeSite.{counts_later}
use Rattle.vx_yard.proofs.Lists.{get-set_same}
use Rattle.vx_yard.proofs.OneSite.{Changed}
use Rattle.vx_yard.specs.Stands.{RoseAll, fault_count}
use Rattle.vx_yard.specs.Yards.{count_of}
use Rattle.vx_yard.specs.declared.yard.Yard.{Yard}
use Rattle.vx_above.proofs.Fails.{all_rose, calls_name, failed_calls}
use Rattle.vx_above.proofs.Losing.{Names}

module _ {R : Type 0} {g : Ghosts R} where
  -- one of each of the first disks whose count rose
  abbrev pub calls : (s : ℕ) (old new : Yard R g) → ℕ → Fails
  calls s old new many = failed_calls s (count_of old s) (count_of new s) many

  module _ (old new : Yard R g) (s : ℕ) (before after : DiskSet R g) (changed : Changed old new s before after) where
    pub count_old : (k : ℕ) → count_of old s k ≡ faults_at before k
    count_old k = ap (λ (o : Option (DiskSet R g)). fault_count o k) changed.there

    pub count_new : (k : ℕ) → count_of new s k ≡ faults_at after k
    count_new k =
        ap (λ (es : List (DiskSet R g)). fault_count (slice_get es s) k) changed.disk_sets
        ∙ ap (λ (o : Option (DiskSet R g)). fault_count o k) (get-set_same old.disk_sets.items s after (slice_get_within old.disk_sets.items s before changed.there))

    -- they name each of the first disks whose count rose
    pub names_below : (o e : Meaning) → ((k : ℕ) → faults_at before k ≡ o.disk_faults k) → ((k : ℕ) → faults_at after k ≡ e.disk_faults k) → (many : ℕ) → o.units ≤ many → Names s many (calls s old new many) o e
    names_below o e was now many enough = record {
      many = enough;
      each = λ k below rose. calls_name s (count_of old s) (count_of new s) many k below
          (subst (λ (a : ℕ). Rose a (count_of new s k)) (sym (count_old k ∙ was k)) (subst (λ (b : ℕ). Rose (o.disk_faults k) b) (sym (count_new k ∙ now k)) rose));
    }

    -- no count of any site fell
    pub all_later : (t k : ℕ) → count_of old t k ≤ count_of new t k
    all_later t k = subst (λ (es : List (DiskSet R g)). count_of old t k ≤ fault_count (slice_get es t) k) (sym changed.disk_sets) (counts_later old.disk_sets.items s before after changed.there changed.later t k)

    pub rose_below : (many : ℕ) → RoseAll (calls s old new many) (count_of old) (count_of new)
    rose_below many =
        all_rose s many (count_of old) (count_of new)
        (λ t k. subst (λ (es : List (DiskSet R g)). count_of old t k ≤ fault_count (slice_get es t) k) (sym changed.disk_sets)
        (counts_later old.disk_sets.items s before after changed.there changed.later t k))
