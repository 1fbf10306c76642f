-- A whole write or flush of a volume: its plexes, and a commit that detaches those that failed.
use Rattle.std.proofs.Common.{◌≡◌, ◌⊎◌, inl, inr, ⊎_elim, ℕ, ◌+◌, ◌/◌, ◌<◌, ◌≤◌, IsTrue, List, length, refl, ap, sym, subst, arith}
use Rattle.vx_disk.specs.Shelf.{Fits, Flushed, Goes, Lawful, Meaning, Nothing, Or, Written, Wrote, piece}
use Rattle.vx_layout.specs.Places.{place}
use Rattle.vx_volume.specs.Plexes.{InRun, Inside, active}
use Rattle.vx_volume.specs.Volumes.{OnPlexes, PlexFlushed, PlexWrote}
use Rattle.vx_kept.specs.Commits.{Member}
use Rattle.vx_kept.specs.Finds.{FindsFrom, NoConfiguration}
use Rattle.vx_kept.specs.Groups.{group_meaning}
use Rattle.vx_kept.specs.Keeping.{Sees}
use Rattle.vx_kept.proofs.Flushes.{flush_Flushed, flush_Goes}
use Rattle.vx_kept.proofs.StateLemmas.{same_shape}
use Rattle.vx_kept.proofs.Lasting.{low_Acts}
use Rattle.vx_kept.proofs.Steps.{both_Acts, inside_same, same_Acts, wide_Acts}
use Rattle.vx_kept.proofs.Whole.{sees_back, whole_Goes, whole_Wrote}
use Rattle.vx_group.specs.Moves.{AllFlushed, AllWrote, Narrows}
use Rattle.vx_group.specs.Stands.{InnerStands, volume_faults, inner_meaning}
use Rattle.vx_group.specs.declared.inner.Inner.{Inner}
use Rattle.vx_group.proofs.Standing.{apart_of_core, kept_of, low_Stands, low_finds}

-- no commit
pub no_commit : (core : Inner) (m : Meaning) → Narrows core core m m
no_commit core m = record { acts = same_Acts (Sees core.config (Member core.good m) m) m; shape = same_shape core.config; on = λ v p is. is; faults = refl; unsure = refl }

module _ (core : Inner) (v block : ℕ) (bytes : List ℕ) (m m' : Meaning) (before : Lawful m) (after : Lawful m') (stands : InnerStands core m) (fits : Fits (inner_meaning core m) v block (length bytes))
    (write : Goes (OnPlexes core.config v block (length bytes / 512) bytes) m m') where
  pub run_inside : (k : ℕ) → InRun block (length bytes / 512) k → Inside core.config v k
  run_inside k run = record { volume = fits.exists; within = let last : k < block + length bytes / 512 = run.last in omega (arith, last, fits.within) }

  behind : (u b : ℕ) (x : List ℕ) → OnPlexes core.config v block (length bytes / 512) bytes u b x → 512 ≤ b
  behind u b x put =
      let it = put.put in
      let far : 512 ≤ (place core.config v put.plex it.number).1 = (apart_of_core core m stands).above v put.plex it.number (run_inside it.number it.run) put.is_on in
      let is : (place core.config v put.plex it.number).1 ≡ b = ap (λ (q : ℕ × ℕ). q.1) it.at in
      omega (arith, far, is)

  pub wrote_Stands : InnerStands core m'
  wrote_Stands = low_Stands core (OnPlexes core.config v block (length bytes / 512) bytes) m m' write (λ u b x put. behind u b x put) before after stands

  pub wrote_finds : FindsFrom NoConfiguration m m'
  wrote_finds = low_finds core (OnPlexes core.config v block (length bytes / 512) bytes) m m' write (λ u b x put. behind u b x put) before after stands

  module _ (d : Inner) (last : Meaning) (lawful : Lawful last) (narrows : Narrows core d m' last) where
    no_less : (u : ℕ) → volume_faults core.faults u ≤ volume_faults d.faults u
    no_less u = let same : volume_faults d.faults u ≡ volume_faults core.faults u = ap (λ (f : List ℕ). volume_faults f u) narrows.faults in omega (arith, same)

    pub wrote_Goes : Goes (Written v block bytes) (inner_meaning core m) (inner_meaning d last)
    wrote_Goes = whole_Goes core.good core.config d.config v block bytes (volume_faults core.faults) (volume_faults d.faults) m m' last before after lawful (kept_of core m stands) (apart_of_core core m stands) run_inside fits.whole write
        narrows.acts narrows.shape narrows.on no_less

    module _ (up : IsTrue last.down → ⊥) (wrote : (p : ℕ) → IsTrue (active d.config v p) → PlexWrote core.config v p block (length bytes / 512) block (length bytes / 512) bytes m m') where
      pub wrote_Wrote : Wrote v block bytes (inner_meaning core m) (inner_meaning d last)
      wrote_Wrote = whole_Wrote core.good core.config d.config v block bytes (volume_faults core.faults) (volume_faults d.faults) m m' last before after lawful (kept_of core m stands) (apart_of_core core m stands) run_inside fits.whole write
          narrows.acts narrows.shape narrows.on no_less up wrote

      pub wrote_all : AllWrote d.config v block bytes m last
      wrote_all = record { each = λ p is_on. record { each = λ k x in_it is. one p is_on k x in_it is } }
        where
          one : (p : ℕ) (is_on : IsTrue (active d.config v p)) (k : ℕ) (x : List ℕ) → Inside d.config v k → last.reads (place d.config v p k).0 (place d.config v p k).1 x
              → (InRun block (length bytes / 512) k × (x ≡ piece block bytes k)) ⊎ ((InRun block (length bytes / 512) k → ⊥) × m.reads (place d.config v p k).0 (place d.config v p k).1 x)
          one p is_on k x in_it is =
              let at : place d.config v p k ≡ place core.config v p k = narrows.shape.place v p k in
              let in_c = inside_same d.config core.config narrows.shape v k in_it in
              let is_c : last.reads (place core.config v p k).0 (place core.config v p k).1 x = subst (λ (q : ℕ × ℕ). last.reads q.0 q.1 x) at is in
              elim (narrows.acts.reads (place core.config v p k).0 (place core.config v p k).1 x ((apart_of_core core m stands).above v p k in_c (narrows.on v p is_on)) is_c) [
                | inl (inl was) ↦ elim ((wrote p is_on).each k x in_c was) [
                  | inl put ↦ inl put
                  | inr out ↦ inr (out.0, subst (λ (q : ℕ × ℕ). m.reads q.0 q.1 x) (sym at) out.1)
                ]
                | inl (inr none) ↦ absurd none
                | inr down ↦ absurd (up down)
              ]

-- ---- a flush

module _ (core : Inner) (v : ℕ) (m m' : Meaning) (before : Lawful m) (after : Lawful m') (stands : InnerStands core m) (flush : Goes Nothing m m') where
  pub flushed_Stands : InnerStands core m'
  flushed_Stands = low_Stands core Nothing m m' flush (λ u b x none. absurd none) before after stands

  pub flushed_finds : FindsFrom NoConfiguration m m'
  flushed_finds = low_finds core Nothing m m' flush (λ u b x none. absurd none) before after stands

  -- whatever is counted
  pub plain_Goes : (f' : ℕ → ℕ) → ((u : ℕ) → volume_faults core.faults u ≤ f' u) → Goes Nothing (inner_meaning core m) (group_meaning core.config f' m')
  plain_Goes f' no_less = flush_Goes core.good core.config core.config v (volume_faults core.faults) f' m m' m' before after after (kept_of core m stands) (apart_of_core core m stands) flush
      (same_Acts (Sees core.config (Member core.good m') m') m') (same_shape core.config) (λ w p is. is) no_less

  module _ (d : Inner) (last : Meaning) (lawful : Lawful last) (narrows : Narrows core d m' last) where
    flush_less : (u : ℕ) → volume_faults core.faults u ≤ volume_faults d.faults u
    flush_less u = let same : volume_faults d.faults u ≡ volume_faults core.faults u = ap (λ (f : List ℕ). volume_faults f u) narrows.faults in omega (arith, same)

    pub flushed_Goes : Goes Nothing (inner_meaning core m) (inner_meaning d last)
    flushed_Goes = flush_Goes core.good core.config d.config v (volume_faults core.faults) (volume_faults d.faults) m m' last before after lawful (kept_of core m stands) (apart_of_core core m stands) flush
        narrows.acts narrows.shape narrows.on flush_less

    pub flushed_Narrows : Narrows core d m last
    flushed_Narrows = record {
      acts = wide_Acts (Or Nothing Nothing) Nothing (Sees core.config (Member core.good m) m) m last
          (both_Acts Nothing Nothing (Sees core.config (Member core.good m) m) (Sees core.config (Member core.good m') m') m m' last
          (low_Acts core.config (Member core.good m) m m' Nothing flush (λ u b x none. absurd none) before after (kept_of core m stands)) narrows.acts (λ i sees. sees_back core.good core.config m m' flush.units flush.size i sees))
          (λ u b x. ⊎_elim (λ none. none) (λ none. none));
      shape = narrows.shape;
      on = narrows.on;
      faults = narrows.faults;
      unsure = narrows.unsure;
    }

    module _ (flushed : (p : ℕ) → IsTrue (active d.config v p) → PlexFlushed core.config v p m m') where
      pub flushed_Flushed : Flushed v (inner_meaning core m) (inner_meaning d last)
      flushed_Flushed = flush_Flushed core.good core.config d.config v (volume_faults core.faults) (volume_faults d.faults) m m' last before after lawful (kept_of core m stands) (apart_of_core core m stands) flush
          narrows.acts narrows.shape narrows.on flush_less (λ p b x is_on in_it left. (flushed p is_on).each b x in_it left)

      pub flushed_all : AllFlushed d.config v m last
      flushed_all = record { each = λ p is_on. record { each = λ k x in_it left. one p is_on k x in_it left } }
        where
          one : (p : ℕ) (is_on : IsTrue (active d.config v p)) (k : ℕ) (x : List ℕ) → Inside d.config v k → last.leaves (place d.config v p k).0 (place d.config v p k).1 x
              → m.reads (place d.config v p k).0 (place d.config v p k).1 x
          one p is_on k x in_it left =
              let at : place d.config v p k ≡ place core.config v p k = narrows.shape.place v p k in
              let in_c = inside_same d.config core.config narrows.shape v k in_it in
              let left_c : last.leaves (place core.config v p k).0 (place core.config v p k).1 x = subst (λ (q : ℕ × ℕ). last.leaves q.0 q.1 x) at left in
              let was : m'.leaves (place core.config v p k).0 (place core.config v p k).1 x = ⊎_elim (λ is. is) (λ none. absurd none)
              (narrows.acts.leaves (place core.config v p k).0 (place core.config v p k).1 x ((apart_of_core core m stands).above v p k in_c (narrows.on v p is_on)) left_c) in
              subst (λ (q : ℕ × ℕ). m.reads q.0 q.1 x) (sym at) ((flushed p is_on).each k x in_c was)
