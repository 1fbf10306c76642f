-- A whole flush of a group, and a read.
use Rattle.std.proofs.Common.{inl, inr, ⊎_elim, ℕ, ◌≤◌, List, sym, ◌∙◌, subst, IsTrue}
use Rattle.vx_disk.specs.Shelf.{Flushed, Goes, Lawful, Meaning, Nothing, Or}
use Rattle.vx_config.specs.declared.config.Config.{Config}
use Rattle.vx_kept.specs.Commits.{Member}
use Rattle.vx_kept.specs.Groups.{PlacesApart, group_meaning, seen}
use Rattle.vx_kept.specs.Keeping.{Acts, Kept, SameShape, Sees}
use Rattle.vx_volume.specs.Plexes.{Inside}
use Rattle.vx_layout.specs.Places.{place}
use Rattle.vx_volume.specs.Plexes.{active}
use Rattle.vx_kept.proofs.Lasting.{low_Acts}
use Rattle.vx_kept.proofs.Steps.{both_Acts, group-Goes, inside_back, inside_same, wide_Acts}
use Rattle.vx_kept.proofs.Whole.{sees_back}

module _ (good : ℕ) (c d : Config) (v : ℕ) (faults faults' : ℕ → ℕ) (m0 m1 m2 : Meaning) (lawful0 : Lawful m0) (lawful1 : Lawful m1) (lawful2 : Lawful m2) (kept : Kept c (Member good m0) m0)
    (apart : PlacesApart c) (flush : Goes Nothing m0 m1) (commit : Acts Nothing (Sees c (Member good m1) m1) m1 m2)
    (same : SameShape d c) (narrows : (w p : ℕ) → IsTrue (active d w p) → IsTrue (active c w p)) (no_less : (u : ℕ) → faults u ≤ faults' u) where
  flush_Acts : Acts Nothing (Sees c (Member good m0) m0) m0 m2
  flush_Acts = wide_Acts (Or Nothing Nothing) Nothing (Sees c (Member good m0) m0) m0 m2
      (both_Acts Nothing Nothing (Sees c (Member good m0) m0) (Sees c (Member good m1) m1) m0 m1 m2 (low_Acts c (Member good m0) m0 m1 Nothing flush (λ u b x none. absurd none) lawful0 lawful1 kept) commit (λ i sees. sees_back good c m0 m1 flush.units flush.size i sees))
      (λ u b x. ⊎_elim (λ none. none) (λ none. none))

  -- whatever the flush answers
  pub flush_Goes : Goes Nothing (group_meaning c faults m0) (group_meaning d faults' m2)
  flush_Goes = group-Goes c d (Member good m0) faults faults' m0 m2 Nothing Nothing flush_Acts apart same narrows (λ w p b x in_it is_on none. none) no_less (λ not t i left. lawful2.never not t i left)

  -- where each plex that is still ACTIVE was flushed
  pub flush_Flushed : ((p b : ℕ) (x : List ℕ) → IsTrue (active d v p) → Inside c v b → m1.leaves (place c v p b).0 (place c v p b).1 x → m0.reads (place c v p b).0 (place c v p b).1 x)
      → Flushed v (group_meaning c faults m0) (group_meaning d faults' m2)
  flush_Flushed flushed = record { each = each }
    where
      each : (b : ℕ) (x : List ℕ) → seen m2.tells d m2.leaves v b x → seen m0.tells c m0.reads v b x
      each b x (inl left) =
          let p = left.plex in
          let in_it = inside_same d c same v b left.inside in
          let is_on = narrows v p left.is_on in
          let value : m2.leaves (place c v p b).0 (place c v p b).1 x = subst (λ (q : ℕ × ℕ). m2.leaves q.0 q.1 x) (same.place v p b) left.value in
          inl (record {
            inside = in_it;
            plex = p;
            is_on = is_on;
            value = flushed p b x left.is_on in_it (⊎_elim (λ was. was) (λ none. absurd none) (commit.leaves (place c v p b).0 (place c v p b).1 x (apart.above v p b in_it is_on) value));
          })
      each b x (inr out) = inr (record { tells = sym flush_Acts.tells ∙ out.tells; outside = λ in_it. out.outside (inside_back d c same v b in_it); empty = out.empty })
