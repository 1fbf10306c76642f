-- A whole write of a group: the plexes, and then a commit.
use Rattle.std.proofs.Common.{◌≡◌, ◌⊎◌, inl, inr, ⊎_elim, ℕ, ◌/◌, ◌%◌, ◌≤◌, List, length, refl, ap, sym, ◌∙◌, subst, arith, IsTrue}
use Rattle.std.proofs.lemmas.Bool.{cases_eq}
use Rattle.vx_disk.specs.Shelf.{Covers, Goes, Image, Lawful, Meaning, Nothing, Or, Values, Written, Wrote, piece}
use Rattle.vx_config.specs.declared.config.Config.{Config}
use Rattle.vx_kept.specs.Commits.{Member}
use Rattle.vx_kept.specs.Groups.{PlacesApart, group_meaning}
use Rattle.vx_kept.specs.Keeping.{Acts, Kept, SameShape, Sees}
use Rattle.vx_volume.specs.Plexes.{Inside}
use Rattle.vx_layout.specs.Places.{place}
use Rattle.vx_volume.specs.Plexes.{active}
use Rattle.vx_volume.specs.Plexes.{InRun}
use Rattle.vx_volume.specs.Volumes.{OnPlexes, PlexWrote}
use Rattle.vx_kept.proofs.Lasting.{low_Acts, low_Kept, sees_same}
use Rattle.vx_kept.proofs.Steps.{both_Acts, group-Goes, inside_back, inside_same, wide_Acts}

-- what is seen goes over units and sizes that do not change
pub sees_back : (good : ℕ) (c : Config) (m m' : Meaning) → m'.units ≡ m.units → ((u : ℕ) → m'.size u ≡ m.size u) → (i : Image) → Sees c (Member good m') m' i → Sees c (Member good m) m i
sees_back good c m m' units size i sees =
    let it = sees_same c (Member good m') m' m (sym units) (λ u. sym (size u)) i sees in
    record { config = it.config; found = it.found; kin = it.kin; others = λ R g x held in_it is. it.others R g x (record { below = omega (arith, units, held.below); is = held.is }) in_it is }

module _ (good : ℕ) (c d : Config) (v block : ℕ) (bytes : List ℕ) (faults faults' : ℕ → ℕ) (m0 m1 m2 : Meaning) (lawful0 : Lawful m0) (lawful1 : Lawful m1) (lawful2 : Lawful m2) (kept : Kept c (Member good m0) m0)
    (apart : PlacesApart c) (inside : (k : ℕ) → InRun block (length bytes / 512) k → Inside c v k) (whole : length bytes % 512 ≡ 0)
    (write : Goes (OnPlexes c v block (length bytes / 512) bytes) m0 m1) (commit : Acts Nothing (Sees c (Member good m1) m1) m1 m2)
    (same : SameShape d c) (narrows : (w p : ℕ) → IsTrue (active d w p) → IsTrue (active c w p)) (no_less : (u : ℕ) → faults u ≤ faults' u) where
  abbrev n : ℕ
  n = length bytes / 512

  abbrev W : Values
  W = OnPlexes c v block n bytes

  abbrev old : Meaning
  old = group_meaning c faults m0

  abbrev new : Meaning
  new = group_meaning d faults' m2

  high : (u b : ℕ) (x : List ℕ) → W u b x → 512 ≤ b
  high u b x put =
      let it = put.put in
      let far : 512 ≤ (place c v put.plex it.number).1 = apart.above v put.plex it.number (inside it.number it.run) put.is_on in
      let is : (place c v put.plex it.number).1 ≡ b = ap (λ (q : ℕ × ℕ). q.1) it.at in
      omega (arith, far, is)

  pub write_Kept : Kept c (Member good m0) m1
  write_Kept = low_Kept c (Member good m0) m0 m1 W write high lawful0 lawful1 kept

  pub whole_Acts : Acts W (Sees c (Member good m0) m0) m0 m2
  whole_Acts = wide_Acts (Or W Nothing) W (Sees c (Member good m0) m0) m0 m2
      (both_Acts W Nothing (Sees c (Member good m0) m0) (Sees c (Member good m1) m1) m0 m1 m2 (low_Acts c (Member good m0) m0 m1 W write high lawful0 lawful1 kept) commit (λ i sees. sees_back good c m0 m1 write.units write.size i sees))
      (λ u b x. ⊎_elim (λ put. put) (λ none. absurd none))

  -- at a block of a plex that is ACTIVE it is the write of this block of the volume
  in_volume : (w p b : ℕ) (x : List ℕ) → Inside c w b → IsTrue (active c w p) → W (place c w p b).0 (place c w p b).1 x → Written v block bytes w b x
  in_volume w p b x in_it is_on put =
      let it = put.put in
      let one = apart.one w p b v put.plex it.number in_it (inside it.number it.run) is_on put.is_on (sym it.at) in
      let at : b ≡ it.number = one.2 in
      record {
        covers = record { there = one.0; first = omega (arith, at, it.run.first); last = omega (arith, at, it.run.first, it.run.last, whole) };
        value = subst (λ (k : ℕ). x ≡ piece block bytes k) (sym at) it.value;
      }

  -- whatever the write answers
  pub whole_Goes : Goes (Written v block bytes) old new
  whole_Goes = group-Goes c d (Member good m0) faults faults' m0 m2 W (Written v block bytes) whole_Acts apart same narrows in_volume no_less (λ not t i left. lawful2.never not t i left)

  -- where each plex that is still ACTIVE was written
  module _ (up : IsTrue m2.down → ⊥) (wrote : (p : ℕ) → IsTrue (active d v p) → PlexWrote c v p block n block n bytes m0 m1) where
    at_old : (s : Values) (w p b : ℕ) (x : List ℕ) → s (place d w p b).0 (place d w p b).1 x → s (place c w p b).0 (place c w p b).1 x
    at_old s w p b x is = subst (λ (q : ℕ × ℕ). s q.0 q.1 x) (same.place w p b) is

    covers_run : (b : ℕ) → Covers v block bytes v b → InRun block n b
    covers_run b covers = record { first = covers.first; last = omega (arith, covers.first, covers.last, whole) }

    run_covers : (b : ℕ) → InRun block n b → Covers v block bytes v b
    run_covers b run = record { there = refl; first = run.first; last = omega (arith, run.first, run.last, whole) }

    keeps_old : (w p b : ℕ) (x : List ℕ) → Inside c w b → IsTrue (active c w p) → m0.reads (place c w p b).0 (place c w p b).1 x → old.reads w b x
    keeps_old w p b x in_it is_on is = inl (record { inside = in_it; plex = p; is_on = is_on; value = is })

    here : (w p b : ℕ) (x : List ℕ) → Inside c w b → IsTrue (active d w p) → m1.reads (place c w p b).0 (place c w p b).1 x
        → Written v block bytes w b x ⊎ ((Covers v block bytes w b → ⊥) × old.reads w b x)
    here w p b x in_it is_on is = elim (cases_eq w v) [
      | inl vol ↦
          let on_v : IsTrue (active d v p) = subst (λ (q : ℕ). IsTrue (active d q p)) vol is_on in
          let in_v : Inside c v b = subst (λ (q : ℕ). Inside c q b) vol in_it in
          let is_v : m1.reads (place c v p b).0 (place c v p b).1 x = subst (λ (q : ℕ). m1.reads (place c q p b).0 (place c q p b).1 x) vol is in
          subst (λ (q : ℕ). Written v block bytes q b x ⊎ ((Covers v block bytes q b → ⊥) × old.reads q b x)) (sym vol) (elim ((wrote p on_v).each b x in_v is_v) [
            | inl put ↦ inl (record { covers = run_covers b put.0; value = put.1 })
            | inr out ↦ inr ((λ covers. out.0 (covers_run b covers)), keeps_old v p b x in_v (narrows v p on_v) out.1)
          ])
      | inr not ↦ elim (write.reads (place c w p b).0 (place c w p b).1 x is) [
        | inl (inl was) ↦ inr ((λ covers. not covers.there), keeps_old w p b x in_it (narrows w p is_on) was)
        | inl (inr put) ↦ absurd (not (in_volume w p b x in_it (narrows w p is_on) put).covers.there)
        | inr down ↦ absurd (up (commit.falls down))
      ]
    ]

    pub whole_Wrote : Wrote v block bytes old new
    whole_Wrote = record { each = each }
      where
        each : (w b : ℕ) (x : List ℕ) → new.reads w b x → Written v block bytes w b x ⊎ ((Covers v block bytes w b → ⊥) × old.reads w b x)
        each w b x (inl is) =
            let p = is.plex in
            let in_it = inside_same d c same w b is.inside in
            let is_on = narrows w p is.is_on in
            elim (commit.reads (place c w p b).0 (place c w p b).1 x (apart.above w p b in_it is_on) (at_old m2.reads w p b x is.value)) [
              | inl (inl was) ↦ here w p b x in_it is.is_on was
              | inl (inr none) ↦ absurd none
              | inr down ↦ absurd (up down)
            ]
        each w b x (inr out) = inr (
          (λ covers. out.outside (inside_back d c same w b (subst (λ (q : ℕ). Inside c q b) (sym covers.there) (inside b (record { first = covers.first; last = omega (arith, covers.first, covers.last, whole) }))))),
          inr (record { tells = sym whole_Acts.tells ∙ out.tells; outside = λ in_it. out.outside (inside_back d c same w b in_it); empty = out.empty }),
        )
