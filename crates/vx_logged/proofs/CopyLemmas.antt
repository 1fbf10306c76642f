-- The map of a plex that becomes that of another one: what it knows then.
use Rattle.std.proofs.Common.{◌≡◌, ◌∙◌, ◌⊎◌, inl, inr, ℕ, ◌/◌, ◌<◌, Bool, true, false, Option, Some, None, List, IsTrue, refl, sym, ap, subst, arith, is_some}
use Rattle.std.specs.Prelude.{◌||◌, not}
use Rattle.std.proofs.lemmas.Bool.{cases_eq, eq-eqb}
use Rattle.vx_config.specs.Checks.{blocks_of as blocks_in, is_sound}
use Rattle.vx_config.specs.declared.config.Config.{Config}
use Rattle.vx_disk.specs.Counts.{Rose}
use Rattle.vx_disk.specs.Shelf.{Goes, Meaning}
use Rattle.vx_fmr.specs.Missed.{Missed, has_missed}
use Rattle.vx_group.specs.Holding.{GroupStands, wide}
use Rattle.vx_group.specs.declared.group_core.GroupCore.{GroupCore}
use Rattle.vx_grouplogs.specs.Gone.{LogsDrop}
use Rattle.vx_grouplogs.proofs.CoverLemmas.{region_inside}
use Rattle.vx_grouplogs.proofs.GoneLemmas.{drops_of}
use Rattle.vx_grouplogs.proofs.KnowActs.{know_logs, logs_off_plex}
use Rattle.vx_grouplogs.proofs.MapLemmas.{goes_logs, maps_logs}
use Rattle.vx_groupmaps.specs.Copying.{CopyEnds, MapCopied}
use Rattle.vx_groupmaps.specs.Knowing.{MapsKnow, PlexesKnow}
use Rattle.vx_groupmaps.specs.Missing.{OnMaps, none_spared, or_spared}
use Rattle.vx_groupmaps.proofs.BetweenLemmas.{goes_reads}
use Rattle.vx_groupmaps.proofs.KnowLemmas.{plex_below, read_old}
use Rattle.vx_groupmaps.proofs.MapPlaces.{region_low}
use Rattle.vx_layout.specs.Places.{HasBlock, place}
use Rattle.vx_logs.specs.Held.{LogsFit}
use Rattle.vx_logs.specs.declared.logs.Logs.{Logs}
use Rattle.vx_volume.specs.Plexes.{Inside}
use Rattle.vx_volume.proofs.PlaceLemmas.{has_of}
use Rattle.vx_logged.specs.Copied.{MapsTake, ReadsRow, TakesRow}
use Rattle.vx_logged.proofs.EmptyLemmas.{maps_alike}
use Rattle.vx_logged.proofs.StandLemmas.{inner_wide}

-- blocks of the maps by the configuration in memory are such ones by that which the disks keep
pub maps_wide : (core : GroupCore) (v : ℕ) (m m1 m2 : Meaning) → GroupStands core m → Goes (OnMaps core.inner.config v) m1 m2 → Goes (OnMaps (wide core).config v) m1 m2
maps_wide core v m m1 m2 stands goes = maps_alike core.inner.config (wide core).config v (λ log. sym ((inner_wide core m stands).logs v log)) m1 m2 goes

module _ (c : Config) (sound : is_sound c ≡ true) (v : ℕ) (some : 0 < blocks_in c.volumes v) (to from : ℕ) (l k : Logs) (m m' : Meaning) (goes : Goes (OnMaps c v) m m') (fits : LogsFit c v l) (gone : Bool) (ends : CopyEnds to from gone l.fmr k.fmr m m') where
  off_maps : (p b : ℕ) (x : List ℕ) → HasBlock c v p b → OnMaps c v (place c v p b).0 (place c v p b).1 x → ⊥
  off_maps p b x has on = logs_off_plex c sound v v p b x has (maps_logs c v (place c v p b).0 (place c v p b).1 x on)

  -- a region that it has not the other one has not
  unheld : (f g : Missed) → l.fmr ≡ Some f → MapCopied to from f g m m' → (b : ℕ) → Inside c v b → has_missed g to (b / 64) ≡ false → has_missed f from (b / 64) ≡ false
  unheld f g at it b inside clear = by (has_missed f from (b / 64)) refl
    where
      by : (t : Bool) → has_missed f from (b / 64) ≡ t → t ≡ false
      by false is = refl
      by true is = absurd (let clash : true ≡ false = sym (it.has (b / 64) (omega (arith, region_inside (blocks_in c.volumes v) b inside.within, (fits.fmr f at).regions)) is) ∙ clear in cc)

  pub copied_knows : ReadsRow c v to from l m → MapsKnow c v l m → MapsKnow c v k m'
  copied_knows reads know = record { so = λ g is up. by g up l.fmr k.fmr refl is ends }
    where
      known : (f g : Missed) → l.fmr ≡ Some f → (IsTrue m'.down → ⊥) → MapCopied to from f g m m' → PlexesKnow c v (or_spared none_spared (has_missed g)) m'.reads
      known f g at up it = record {
        so = λ p q b x y has on inside clear at_p at_q. elim (cases_eq p to) [
          | inl same ↦ (
              let old_p = read_old c sound v (OnMaps c v) m m' (goes_reads (OnMaps c v) m m' goes) up p b x has (off_maps p b x has) at_p in
              let has_q = has_of c v q b on inside in
              let old_q = read_old c sound v (OnMaps c v) m m' (goes_reads (OnMaps c v) m m' goes) up q b y has_q (off_maps q b y has_q) at_q in
              (reads.so f at (λ down. up (goes.falls down))).so p q b x y has on inside
              (ap (λ (t : Bool). not t || has_missed f from (b / 64)) (eq-eqb p to same) ∙ unheld f g at it b inside (subst (λ (n : ℕ). has_missed g n (b / 64) ≡ false) same clear)) old_p old_q
              )
          | inr other ↦ (
              let low = plex_below c v p b has in
              let many = (fits.fmr f at).plexes in
              let bit = it.others.each p (b / 64) (omega (arith, low, many)) (region_low c sound v some f (fits.fmr f at) b inside) other in
              ((know_logs c sound v m m' (goes_logs c v m m' goes) v none_spared l know).so f at up).so p q b x y has on inside (sym bit ∙ clear) at_p at_q
              )
        ];
      }

      by : (g : Missed) → (IsTrue m'.down → ⊥) → (o n : Option Missed) → l.fmr ≡ o → n ≡ Some g → CopyEnds to from gone o n m m' → PlexesKnow c v (or_spared none_spared (has_missed g)) m'.reads
      by g up None None at is ends = absurd cc
      by g up None (Some h) at is ends = absurd ends
      by g up (Some f) None at is ends = absurd cc
      by g up (Some f) (Some h) at is ends = let same : h ≡ g = cc in subst (λ (x : Missed). PlexesKnow c v (or_spared none_spared (has_missed x)) m'.reads) same (known f h at up ends.1)

  pub copied_takes : MapsTake to from l k
  copied_takes = record { gone = λ none. by_none l.fmr k.fmr none ends; each = λ f g is at. by f g l.fmr k.fmr is at ends }
    where
      by_none : (o n : Option Missed) → o ≡ None → CopyEnds to from gone o n m m' → n ≡ None
      by_none None None is ends = refl
      by_none None (Some h) is ends = absurd ends
      by_none (Some f) n is ends = absurd (let clash : Some f ≡ None = is in cc)

      by : (f g : Missed) (o n : Option Missed) → o ≡ Some f → n ≡ Some g → CopyEnds to from gone o n m m' → TakesRow to from f g
      by f g None n is at ends = absurd cc
      by f g (Some e) None is at ends = absurd cc
      by f g (Some e) (Some h) is at ends =
          let old : e ≡ f = cc in
          let new : h ≡ g = cc in
          subst (λ (x : Missed). TakesRow to from x g) old (subst (λ (y : Missed). TakesRow to from e y) new (record { shape = ends.1.same.shape; all = ends.1.has; only = ends.1.only; others = ends.1.others }))

  pub copied_drops : k.drl ≡ l.drl → LogsDrop c v l k m m'
  copied_drops same = drops_of c v l k m m' fits
      (λ d is none. absurd (let clash : Some d ≡ None = sym is ∙ sym same ∙ none in cc)) (λ has. sym (ap is_some same) ∙ has)
      (λ f is none. lost f l.fmr k.fmr is none ends) (there l.fmr k.fmr ends)
    where
      lost : (f : Missed) (o n : Option Missed) → o ≡ Some f → n ≡ None → CopyEnds to from gone o n m m' → Rose (m.faults f.map.unit) (m'.faults f.map.unit) ⊎ IsTrue m'.down
      lost f None n is none ends = absurd cc
      lost f (Some e) None is none ends = let same : e ≡ f = cc in inl (subst (λ (x : Missed). Rose (m.faults x.map.unit) (m'.faults x.map.unit)) same ends.1)
      lost f (Some e) (Some g) is none ends = absurd cc

      there : (o n : Option Missed) → CopyEnds to from gone o n m m' → is_some n ≡ true → is_some o ≡ true
      there None None ends has = has
      there None (Some g) ends has = absurd ends
      there (Some f) n ends has = refl

-- no map is in memory any more
pub takes_none : (to from : ℕ) (l k : Logs) → k.fmr ≡ None → MapsTake to from l k
takes_none to from l k none = record { gone = λ is. none; each = λ f g is at. absurd (let clash : None ≡ Some g = sym none ∙ at in cc) }
