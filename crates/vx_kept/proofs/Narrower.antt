-- A configuration with plexes of a volume STALE follows the one before.
use Rattle.std.proofs.Common.{◌≡◌, ◌⊎◌, inl, inr, ℕ, zero, suc, ◌<◌, ◌≤◌, Bool, true, false, IsTrue, Option, Some, None, List, [], ◌∷◌, length, refl, ap, sym, ◌∙◌, subst, arith}
use Rattle.std.specs.Prelude.{◌&&◌, nat_le, slice_get}
use Rattle.std.specs.List.{list_all, list_any}
use Rattle.std.proofs.lemmas.Bool.{and_parts, cases_eq, cases_lt, leb-true}
use Rattle.std.proofs.lemmas.Option.{slice_get_past}
use Rattle.vx_disk.specs.Blocks.{bit_at}
use Rattle.vx_model.specs.declared.site.PlexState.{PlexState}
use Rattle.vx_model.specs.declared.site.PlexState.TheVariants.{Active, Clean, Stale}
use Rattle.vx_config.specs.Changes.{has_live}
use Rattle.vx_config.specs.Checks.{are_placed, differ, group_or_none, has_logs, has_plexes, has_shape, is_live, is_sound, is_volume, pairwise, plex_fills, preferred_is}
use Rattle.vx_config.specs.Configs.{subdisk_count}
use Rattle.vx_config.specs.declared.config.Config.{Config}
use Rattle.vx_config.specs.declared.entry.PlexEntry.{PlexEntry}
use Rattle.vx_config.specs.declared.entry.VolumeEntry.{VolumeEntry}
use Rattle.vx_copies.specs.Bodies.{is_wanted, fits_units}
use Rattle.vx_layout.proofs.Pairs.{all_at, and_right}
use Rattle.vx_layout.proofs.Placing.{from_sound, sound_apart}
use Rattle.vx_layout.specs.Places.{plex_at, plex_in}
use Rattle.vx_volume.proofs.PlaceLemmas.{apart_of, has_of}
use Rattle.vx_volume.specs.Plexes.{active, active_or, is_active}
use Rattle.vx_kept.specs.Choice.{chosen, chosen_or, live, live_or}
use Rattle.vx_kept.specs.Groups.{PlacesApart, HasActive}
use Rattle.vx_kept.specs.Keeping.{AllOn, MayBeNext}
use Rattle.vx_kept.specs.States.{SomeLeft, staled}
use Rattle.vx_kept.proofs.Chosen.{any_at, first_live, same_extends}
use Rattle.vx_kept.proofs.StateLemmas.{active_left, is_staled, live_left}

-- ---- a checked configuration

pub wanted_sound : (units : ℕ) (size : ℕ → ℕ) (c : Config) → is_wanted units size c ≡ true → is_sound c ≡ true
wanted_sound units size c is = (and_parts (is_sound c) (fits_units units size c) is).0

pub sound_few : (c : Config) → is_sound c ≡ true → subdisk_count c ≤ 1024
unfolding is_sound
sound_few c sound =
    let four = and_parts (nat_le (subdisk_count c) 1024 && are_placed c && pairwise differ c.volumes && list_all is_volume c.volumes) (group_or_none c.volumes c.rvg) sound in
    let three = and_parts (nat_le (subdisk_count c) 1024 && are_placed c && pairwise differ c.volumes) (list_all is_volume c.volumes) four.0 in
    let two = and_parts (nat_le (subdisk_count c) 1024 && are_placed c) (pairwise differ c.volumes) three.0 in
    leb-true (subdisk_count c) 1024 (and_parts (nat_le (subdisk_count c) 1024) (are_placed c) two.0).0

on_live_state : (p : PlexEntry) (s : PlexState) → p.state ≡ s → is_active s ≡ true → is_live p ≡ true
on_live_state p Active at is = rw at refl
on_live_state p Clean at is = absurd (let clash : false ≡ true = is in cc)
on_live_state p Stale at is = absurd (let clash : false ≡ true = is in cc)

on_live_or : (o : Option PlexEntry) → active_or o ≡ true → live_or o ≡ true
on_live_or None is = is
on_live_or (Some p) is = on_live_state p p.state refl is

pub on_live : (c : Config) (v p : ℕ) → IsTrue (active c v p) → IsTrue (live c v p)
unfolding active live
on_live c v p is = on_live_or (plex_at c v p) is

has_live_or : (o : Option VolumeEntry) (p : ℕ) → live_or (plex_in o p) ≡ true → has_live o ≡ true
has_live_or None p is = refl
has_live_or (Some x) p is = by (slice_get x.plexes p) refl is
  where
    by : (o : Option PlexEntry) → slice_get x.plexes p ≡ o → live_or o ≡ true → list_any is_live x.plexes ≡ true
    by None at it = absurd (let clash : false ≡ true = it in cc)
    by (Some q) at it = any_at is_live x.plexes p q at it

pub live_has : (c : Config) (v p : ℕ) → IsTrue (live c v p) → has_live (slice_get c.volumes v) ≡ true
unfolding live
live_has c v p is = has_live_or (slice_get c.volumes v) p is

none_past : {A : Type 0} (xs : List A) (k : ℕ) → slice_get xs k ≡ None → length xs ≤ k
none_past [] k none = omega arith
none_past (x ∷ xs) zero none = absurd cc
none_past (x ∷ xs) (suc k) none = let le = none_past xs k none in omega (arith, le)

-- the plex that an import goes by takes part
pub sound_chosen : (c : Config) → is_sound c ≡ true → (v : ℕ) → v < length c.volumes → IsTrue (live c v (chosen c v))
unfolding live chosen
sound_chosen c sound v lt = by (slice_get c.volumes v) refl
  where
    by : (o : Option VolumeEntry) → slice_get c.volumes v ≡ o → live_or (plex_in (slice_get c.volumes v) (chosen_or c.disks (slice_get c.volumes v))) ≡ true
    by None at = absurd (let le = none_past c.volumes v at in omega (arith, le, lt))
    by (Some x) at =
        let is = all_at is_volume c.volumes v x (from_sound c sound).2 at in
        let plexes : has_plexes x ≡ true = and_right (has_shape x && has_logs x) _ is in
        let some : list_any is_live x.plexes ≡ true = and_right (nat_le (length x.plexes) 8 && list_all (plex_fills x) x.plexes && preferred_is (length x.plexes) x.prefer) _ plexes in
        let it = first_live c.disks x.plexes some in
        ap (λ (o : Option VolumeEntry). live_or (plex_in o (chosen_or c.disks o))) at ∙ ap live_or it.1 ∙ it.2

pub has_active : (c : Config) → is_sound c ≡ true → AllOn c → HasActive c
has_active c sound on = record { first = chosen c; is_on = λ v lt. on.each v (chosen c v) (sound_chosen c sound v lt) }

pub stand_apart : (c : Config) → is_sound c ≡ true → PlacesApart c
stand_apart c sound = record {
  above = λ v p b in_it is_on. ((sound_apart c sound).region v p b (has_of c v p b is_on in_it)).public;
  one = (apart_of c sound).one;
}

-- ---- with plexes STALE

module _ (v set : ℕ) (c : Config) (left : v < length c.volumes → SomeLeft c v set) where
  -- after any number of them the volume has a plex that takes part
  pub still_live : (n : ℕ) → has_live (slice_get (staled v set c n).volumes v) ≡ true
  still_live n = elim (cases_lt v (length c.volumes)) [
    | inl lt ↦
        let some = left lt in
        let out : bit_at set some.plex ≡ true → ⊥ = λ in_it. (let clash : false ≡ true = sym some.out ∙ in_it in cc) in
        live_has (staled v set c n) v some.plex (live_left v set n c v some.plex (λ same less in_it. out in_it) ∙ on_live c v some.plex some.is_on)
    | inr le ↦ ap has_live (slice_get_past (staled v set c n).volumes v (let same = (is_staled v set n c).shape.volumes in omega (arith, same, le)))
  ]

  module _ (sound : is_sound c ≡ true) (on : AllOn c) where
    abbrev d : Config
    d = staled v set c 8

    pub staled_on : AllOn d
    staled_on = record {
      each = λ x q is. elim (cases_in x q) [
        | inl in_it ↦ absurd (let off = (is_staled v set 8 c).off q in_it.1 in_it.2 in
            let is_v : IsTrue (live d v q) = subst (λ (y : ℕ). IsTrue (live d y q)) in_it.0 is in
            let clash : false ≡ true = sym off ∙ is_v in cc)
        | inr out ↦ active_left v set 8 c x q out ∙ on.each x q ((is_staled v set 8 c).lives x q is)
      ];
    }
      where
        cases_in : (x q : ℕ) → ((x ≡ v) × (q < 8) × (bit_at set q ≡ true)) ⊎ (x ≡ v → q < 8 → bit_at set q ≡ true → ⊥)
        cases_in x q = elim (cases_eq x v) [
          | inl same ↦ elim (cases_lt q 8) [
            | inl lt ↦ by_bit (bit_at set q) refl same lt
            | inr le ↦ inr (λ same lt is. omega (arith, lt, le))
          ]
          | inr apart ↦ inr (λ same lt is. apart same)
        ]
          where
            by_bit : (b : Bool) → bit_at set q ≡ b → x ≡ v → q < 8 → ((x ≡ v) × (q < 8) × (bit_at set q ≡ true)) ⊎ (x ≡ v → q < 8 → bit_at set q ≡ true → ⊥)
            by_bit true is same lt = inl (same, lt, is)
            by_bit false is same lt = inr (λ s l t. (let clash : false ≡ true = sym is ∙ t in cc))

    pub staled_follows : MayBeNext c d
    staled_follows = record {
      shape = same_extends d c (is_staled v set 8 c).shape;
      serial = (is_staled v set 8 c).serial;
      narrows = λ x q lt is. on.each x q ((is_staled v set 8 c).lives x q is);
      some = λ x less. let lt : x < length c.volumes = was_below x less in elim (cases_eq x v) [
        | inl same ↦
            let some = left (omega (arith, same, lt)) in (
              some.plex,
              subst (λ (y : ℕ). IsTrue (live d y some.plex)) (sym same)
                  (live_left v set 8 c v some.plex (λ s l in_it. (let clash : false ≡ true = sym some.out ∙ in_it in cc)) ∙ on_live c v some.plex some.is_on),
            )
        | inr apart ↦ (chosen c x, live_left v set 8 c x (chosen c x) (λ s l in_it. apart s) ∙ sound_chosen c sound x lt)
      ];
    }
      where
        was_below : (x : ℕ) → x < length d.volumes → x < length c.volumes
        was_below x less = let same = (is_staled v set 8 c).shape.volumes in omega (arith, same, less)

pub live_by : (v set : ℕ) (c : Config) → (v < length c.volumes → SomeLeft c v set) → (n : ℕ) (d : Config) → d ≡ staled v set c n → has_live (slice_get d.volumes v) ≡ true
live_by v set c left n d is = ap (λ (x : Config). has_live (slice_get x.volumes v)) is ∙ still_live v set c left n
