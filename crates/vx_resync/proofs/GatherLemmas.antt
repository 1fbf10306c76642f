-- A plex that has got the regions that it had missed.
use Rattle.std.proofs.Common.{◌≡◌, ◌⊎◌, inl, inr, ℕ, ◌/◌, Bool, true, false, IsTrue, IsFalse, List, refl, ap, sym, ◌∙◌, subst}
use Rattle.std.proofs.lemmas.Bool.{cases_Bool}
use Rattle.std.specs.Prelude.{Some}
use Rattle.vx_config.specs.declared.config.Config.{Config}
use Rattle.vx_disk.specs.Shelf.{Goes, Lawful, Meaning, Nothing}
use Rattle.vx_layout.specs.Places.{place}
use Rattle.vx_volume.specs.Copies.{IsCopied}
use Rattle.vx_volume.specs.Plexes.{Apart, Inside, active}
use Rattle.vx_volume.specs.Volumes.{PlexFlushed}
use Rattle.vx_resync.specs.Copies.{FromPlex, ReadAlike}
use Rattle.vx_resync.specs.Gathers.{MissesOnly}
use Rattle.vx_resync.specs.Picks.{InPicked}

module _ (c : Config) (v source p : ℕ) (apart : Apart c) (to : IsTrue (active c v p)) (f : ℕ → Bool) (old m : Meaning) (goes : Goes (FromPlex c v source (Some p) (InPicked f) old) old m) (up : IsTrue m.down → ⊥) where
  -- a block of a region that is not missed reads on each plex what it read
  pub rest_reads : (q k : ℕ) (x : List ℕ) → IsTrue (active c v q) → Inside c v k → f (k / 64) ≡ false → m.reads (place c v q k).0 (place c v q k).1 x → old.reads (place c v q k).0 (place c v q k).1 x
  rest_reads q k x is_on in_it off is = elim (goes.reads (place c v q k).0 (place c v q k).1 x is) [
    | inl (inl was) ↦ was
    | inl (inr put) ↦
        let target : IsTrue (active c v put.plex) = subst (λ (i : ℕ). IsTrue (active c v i)) (sym put.is_target) to in
        let one = apart.one v put.plex put.number v q k put.inside in_it target is_on put.at in
        let picked : true ≡ false = sym put.is_one ∙ ap (λ (j : ℕ). f (j / 64)) one.2 ∙ off in
        absurd (let clash : true ≡ false = picked in cc)
    | inr down ↦ absurd (up down)
  ]

  -- so the regions that it misses stay those
  pub misses_later : (q : ℕ) → IsTrue (active c v q) → MissesOnly c v q p f old → MissesOnly c v q p f m
  misses_later q is_on misses = record { same = λ k x y in_it off here there. misses.same k x y in_it off (rest_reads p k x to in_it off here) (rest_reads q k y is_on in_it off there) }

  pub all_copied : (new : Meaning) → Lawful old → Lawful new → Goes Nothing m new → ReadAlike c v source (Some p) (InPicked f) old m → PlexFlushed c v p m new → MissesOnly c v source p f old → IsCopied c v source p old new
  all_copied new law_old law_new flush alike flushed misses = record { each = λ k x in_it left. by k x in_it left (cases_Bool (f (k / 64))) }
    where
      told : (u b : ℕ) (x : List ℕ) → new.leaves u b x → IsTrue old.tells
      told u b x left = elim (cases_Bool new.tells) [ inl tells ↦ sym (flush.tells ∙ goes.tells) ∙ tells | inr not ↦ absurd (law_new.none not u b x left) ]

      by : (k : ℕ) (x : List ℕ) → Inside c v k → new.leaves (place c v p k).0 (place c v p k).1 x → IsTrue (f (k / 64)) ⊎ IsFalse (f (k / 64)) → old.reads (place c v source k).0 (place c v source k).1 x
      by k x in_it left (inl picked) =
          let same : x ≡ alike.value k = alike.copied p k x refl in_it picked (flushed.each k x in_it left) in
          subst (λ (y : List ℕ). old.reads (place c v source k).0 (place c v source k).1 y) (sym same) (alike.origin k in_it picked (told (place c v p k).0 (place c v p k).1 x left))
      by k x in_it left (inr off) =
          let any = law_old.some (told (place c v p k).0 (place c v p k).1 x left) (place c v source k).0 (place c v source k).1 in
          let same : x ≡ any.0 = misses.same k x any.0 in_it off (rest_reads p k x to in_it off (flushed.each k x in_it left)) any.1 in
          subst (λ (y : List ℕ). old.reads (place c v source k).0 (place c v source k).1 y) (sym same) any.1
