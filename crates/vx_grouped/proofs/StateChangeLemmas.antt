-- The states of plexes behind a call in which some may have failed.
use Rattle.std.proofs.Common.{◌≡◌, ◌⊎◌, inl, inr, ℕ, Bool, true, false, IsTrue, [], Some, refl, ap, sym, ◌∙◌}
use Rattle.vx_model.specs.declared.site.PlexState.{PlexState}
use Rattle.vx_model.specs.declared.site.PlexState.TheVariants.{Active, Clean, Stale}
use Rattle.vx_disk.specs.Shelf.{Meaning}
use Rattle.vx_config.specs.Changes.{live_again}
use Rattle.vx_config.specs.declared.config.Config.{Config}
use Rattle.vx_config.specs.declared.entry.PlexEntry.{PlexEntry}
use Rattle.vx_layout.specs.Places.{plex_at}
use Rattle.vx_volume.specs.Plexes.{active, active_or}
use Rattle.vx_volume.specs.Volumes.{PlexBlamed}
use Rattle.vx_kept.specs.Choice.{live, live_or}
use Rattle.vx_kept.specs.Keeping.{AllOn}
use Rattle.vx_group.specs.Loses.{AnyBlamed, LosesPlexes}
use Rattle.vx_grouped.specs.StateChanges.{StateStays}

abbrev pub on_state : PlexState → Bool
on_state s = active_or (Some (record { state = s; whole = false; subdisks = [] }))

abbrev pub live_state : PlexState → Bool
live_state s = live_or (Some (record { state = s; whole = false; subdisks = [] }))

module _ (c : Config) (v k : ℕ) (m m' : Meaning) where
  by_state : (s t : PlexState) → (live_state s ≡ true → on_state s ≡ true) → (live_state t ≡ true → on_state t ≡ true)
      → (on_state s ≡ true → (on_state t ≡ true) ⊎ PlexBlamed c v k m m') → (on_state t ≡ true → (on_state s ≡ true) ⊎ AnyBlamed c v m m') → StateStays c v k m m' s t
  by_state Active Active one two down up = inl refl
  by_state Stale Stale one two down up = inl refl
  by_state Active Stale one two down up = elim (down refl) [ inl on ↦ absurd (let no_one : false ≡ true = on in cc) | inr blamed ↦ inr (inl (refl, blamed)) ]
  by_state Stale Active one two down up = elim (up refl) [ inl on ↦ absurd (let no_one : false ≡ true = on in cc) | inr any ↦ inr (inr (refl, any)) ]
  by_state Clean t one two down up = absurd (let no_one : false ≡ true = one refl in cc)
  by_state Active Clean one two down up = absurd (let no_one : false ≡ true = two refl in cc)
  by_state Stale Clean one two down up = absurd (let no_one : false ≡ true = two refl in cc)

-- a plex that takes part as one does that is ACTIVE where it takes part
pub opened_as : (s t : PlexState) → live_state t ≡ live_state s → (live_state t ≡ true → on_state t ≡ true) → t ≡ live_again s
opened_as Active Active same on = refl
opened_as Active Clean same on = absurd (let no_one : false ≡ true = on refl in cc)
opened_as Active Stale same on = absurd (let no_one : false ≡ true = same in cc)
opened_as Clean Active same on = refl
opened_as Clean Clean same on = absurd (let no_one : false ≡ true = on refl in cc)
opened_as Clean Stale same on = absurd (let no_one : false ≡ true = same in cc)
opened_as Stale Active same on = absurd (let no_one : true ≡ false = same in cc)
opened_as Stale Clean same on = absurd (let no_one : true ≡ false = same in cc)
opened_as Stale Stale same on = refl

pub on_there : (c : Config) (v k : ℕ) (p : PlexEntry) → plex_at c v k ≡ Some p → active c v k ≡ on_state p.state
unfolding active
on_there c v k p at = ap active_or at

pub live_there : (c : Config) (v k : ℕ) (p : PlexEntry) → plex_at c v k ≡ Some p → live c v k ≡ live_state p.state
unfolding live
live_there c v k p at = ap live_or at

pub states_stay : (c d : Config) (m m' : Meaning) → AllOn c → AllOn d → LosesPlexes c d m m' → (v k : ℕ) (p q : PlexEntry) → plex_at c v k ≡ Some p → plex_at d v k ≡ Some q → StateStays c v k m m' p.state q.state
states_stay c d m m' one two loses v k p q was is =
    let was_on = on_there c v k p was in
    let is_on = on_there d v k q is in
    by_state c v k m m' p.state q.state
    (λ live_p. sym was_on ∙ one.each v k (live_there c v k p was ∙ live_p))
    (λ live_q. sym is_on ∙ two.each v k (live_there d v k q is ∙ live_q))
    (λ on. down (loses.plexes v k (was_on ∙ on)))
    (λ on. up (loses.on v k (is_on ∙ on)))
  where
    down : IsTrue (active d v k) ⊎ PlexBlamed c v k m m' → (on_state q.state ≡ true) ⊎ PlexBlamed c v k m m'
    down (inl on) = inl (sym (on_there d v k q is) ∙ on)
    down (inr blamed) = inr blamed

    up : IsTrue (active c v k) ⊎ AnyBlamed c v m m' → (on_state p.state ≡ true) ⊎ AnyBlamed c v m m'
    up (inl on) = inl (sym (on_there c v k p was) ∙ on)
    up (inr any) = inr any
