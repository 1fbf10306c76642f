-- What a detach and an attach make of a configuration.
use Rattle.std.proofs.Common.{◌≡◌, ◌⊎◌, inl, inr, ℕ, Bool, true, false, IsTrue, Option, Some, None, refl, sym, ◌∙◌, ap, subst}
use Rattle.std.proofs.lemmas.Bool.{cases_eq}
use Rattle.std.proofs.lemmas.Option.{same_Some}
use Rattle.vx_model.specs.declared.site.PlexState.{PlexState}
use Rattle.vx_model.specs.declared.site.PlexState.TheVariants.{Active, Clean, Stale}
use Rattle.vx_disk.specs.Shelf.{Meaning}
use Rattle.vx_config.specs.Changes.{stated, with_state}
use Rattle.vx_config.specs.declared.config.Config.{Config}
use Rattle.vx_config.specs.declared.entry.PlexEntry.{PlexEntry}
use Rattle.vx_layout.specs.Places.{plex_at}
use Rattle.vx_volume.specs.Plexes.{active, uses}
use Rattle.vx_kept.specs.Choice.{live}
use Rattle.vx_kept.specs.Keeping.{AllOn}
use Rattle.vx_kept.proofs.StateLemmas.{map_one, plex_apart, plex_same, stated_shape}
use Rattle.vx_grouped.specs.ConfigMoves.{AttCuts, AttDone, AttFails, ConfigMoves, DetCuts, DetDone, DetFails, StateKeeps, none_again}
use Rattle.vx_grouped.specs.CoreMoves.{CoreMoves}
use Rattle.vx_grouped.proofs.MovesLemmas.{config_moves, disk_at, volume_moves}
use Rattle.vx_grouped.proofs.StateChangeLemmas.{live_state, live_there, on_state, on_there}

-- ---- states, of plexes that are ACTIVE where they take part

pub same_state : (s t : PlexState) → (live_state s ≡ true → on_state s ≡ true) → (live_state t ≡ true → on_state t ≡ true) → on_state t ≡ on_state s → t ≡ s
same_state Active Active one two same = refl
same_state Stale Stale one two same = refl
same_state Active Stale one two same = let clash : false ≡ true = same in cc
same_state Stale Active one two same = let clash : true ≡ false = same in cc
same_state Clean t one two same = absurd (let clash : false ≡ true = one refl in cc)
same_state Active Clean one two same = absurd (let clash : false ≡ true = two refl in cc)
same_state Stale Clean one two same = absurd (let clash : false ≡ true = two refl in cc)

stale_state : (t : PlexState) → (live_state t ≡ true → on_state t ≡ true) → on_state t ≡ false → t ≡ Stale
stale_state Stale two off = refl
stale_state Active two off = let clash : true ≡ false = off in cc
stale_state Clean two off = absurd (let clash : false ≡ true = two refl in cc)

active_state : (t : PlexState) → on_state t ≡ true → t ≡ Active
active_state Active on = refl
active_state Stale on = let clash : false ≡ true = on in cc
active_state Clean on = let clash : false ≡ true = on in cc

pub on_by : (c : Config) → AllOn c → (v k : ℕ) (p : PlexEntry) → plex_at c v k ≡ Some p → live_state p.state ≡ true → on_state p.state ≡ true
on_by c all v k p at live = sym (on_there c v k p at) ∙ all.each v k (live_there c v k p at ∙ live)

state_same : (s : PlexState) (w : Bool) (o : Option PlexEntry) (p : PlexEntry) → map_one (with_state s w) o ≡ Some p → p.state ≡ s
state_same s w None p is = absurd (let no_one : None ≡ Some p = is in cc)
state_same s w (Some x) p is = sym (ap (λ (e : PlexEntry). e.state) (same_Some (with_state s w x) p is))

-- either it is this plex, or another one
this_plex : (v p w q : ℕ) → ((w ≡ v) × (q ≡ p)) ⊎ (w ≡ v → q ≡ p → ⊥)
this_plex v p w q = elim (cases_eq w v) [
  | inl in_v ↦ elim (cases_eq q p) [
    | inl in_p ↦ inl (in_v, in_p)
    | inr apart ↦ inr (λ same at. apart at)
  ]
  | inr apart ↦ inr (λ same at. apart same)
]

module _ (c d : Config) (v p : ℕ) (m m' : Meaning) (one : (u : ℕ) → m.disk_faults u ≡ m.faults u) (two : (u : ℕ) → m'.disk_faults u ≡ m'.faults u) (others : (w q : ℕ) → (w ≡ v → q ≡ p → ⊥) → active d w q ≡ active c w q) where
  -- each other plex has the state that it had
  other_state : (again : ℕ → Bool) → CoreMoves again c d m m' → (w q : ℕ) (x y : PlexEntry) → (w ≡ v → q ≡ p → ⊥) → plex_at c w q ≡ Some x → plex_at d w q ≡ Some y → y.state ≡ x.state
  other_state again it w q x y apart at_x at_y =
      same_state x.state y.state (on_by c it.on.was w q x at_x) (on_by d it.on.now w q y at_y) (sym (on_there d w q y at_y) ∙ others w q apart ∙ on_there c w q x at_x)

  -- it has this state behind the call
  module _ (again : ℕ → Bool) (s : PlexState) (w : Bool) (it : CoreMoves again c d m m') (has : (y : PlexEntry) → plex_at d v p ≡ Some y → y.state ≡ s) where
    restated_state : (x q : ℕ) (a b : PlexEntry) → plex_at (stated v p s w c) x q ≡ Some a → plex_at d x q ≡ Some b → b.state ≡ a.state
    restated_state x q a b at_a at_b = elim (this_plex v p x q) [
      | inl same ↦
          let here : plex_at (stated v p s w c) v p ≡ Some a = subst (λ (k : ℕ). plex_at (stated v p s w c) k p ≡ Some a) same.0 (subst (λ (k : ℕ). plex_at (stated v p s w c) x k ≡ Some a) same.1 at_a) in
          let there : plex_at d v p ≡ Some b = subst (λ (k : ℕ). plex_at d k p ≡ Some b) same.0 (subst (λ (k : ℕ). plex_at d x k ≡ Some b) same.1 at_b) in
          has b there ∙ sym (state_same s w (plex_at c v p) a (sym (plex_same v p s w c) ∙ here))
      | inr apart ↦ other_state again it x q a b apart (sym (plex_apart v p s w c x q apart) ∙ at_a) at_b
    ]

    restated_moves : ConfigMoves again StateKeeps m m' (stated v p s w c) d
    restated_moves = record {
      parts = record { site = it.parts.site; rvg = it.parts.rvg; count = it.parts.count; later = it.parts.later };
      disks = disk_at c d m m' one two again it;
      volumes = λ x. volume_moves StateKeeps (stated v p s w c) d x (it.frames x ∙ sym ((stated_shape v p s w c).frames x)) (λ e q a b at_e at_a at_b. restated_state x q a b at_a at_b);
    }

  -- ---- a detach

  off_stale : CoreMoves none_again c d m m' → active d v p ≡ false → (y : PlexEntry) → plex_at d v p ≡ Some y → y.state ≡ Stale
  off_stale it off y at = stale_state y.state (on_by d it.on.now v p y at) (sym (on_there d v p y at) ∙ off)

  pub det_done : CoreMoves none_again c d m m' → active d v p ≡ false → DetDone v p m m' c d
  det_done it off = record { whole = false; moves = restated_moves none_again Stale false it (off_stale it off) }

  -- where it is as it was
  as_was : (again : ℕ → Bool) → CoreMoves again c d m m' → active d v p ≡ active c v p → ConfigMoves again StateKeeps m m' c d
  as_was again it same = config_moves again StateKeeps c d m m' one two it (λ w e q x y at_e at_x at_y. each w q x y at_x at_y)
    where
      each : (w q : ℕ) (x y : PlexEntry) → plex_at c w q ≡ Some x → plex_at d w q ≡ Some y → y.state ≡ x.state
      each w q x y at_x at_y = elim (this_plex v p w q) [
        | inl here ↦
            let on : active d w q ≡ active c w q = subst (λ (k : ℕ). active d k q ≡ active c k q) (sym here.0) (subst (λ (k : ℕ). active d v k ≡ active c v k) (sym here.1) same) in
            same_state x.state y.state (on_by c it.on.was w q x at_x) (on_by d it.on.now w q y at_y) (sym (on_there d w q y at_y) ∙ on ∙ on_there c w q x at_x)
        | inr apart ↦ other_state again it w q x y apart at_x at_y
      ]

  pub det_fails : CoreMoves none_again c d m m' → active d v p ≡ active c v p → DetFails m m' c d
  det_fails it same = as_was none_again it same

  pub det_cuts : CoreMoves none_again c d m m' → ((w q : ℕ) → IsTrue (active d w q) → IsTrue (active c w q)) → DetCuts v p m m' c d
  det_cuts it narrows = by (active d v p) refl
    where
      by : (t : Bool) → active d v p ≡ t → DetCuts v p m m' c d
      by true on = inl (det_fails it (on ∙ sym (narrows v p on)))
      by false off = inr (det_done it off)

  -- ---- an attach

  pub att_done : CoreMoves (uses c v p) c d m m' → IsTrue (active d v p) → AttDone v p m m' c d
  att_done it on = record { whole = false; moves = restated_moves (uses c v p) Active false it (λ y at. active_state y.state (sym (on_there d v p y at) ∙ on)) }

  pub att_fails : CoreMoves (uses c v p) c d m m' → active c v p ≡ false → active d v p ≡ false → AttFails v p m m' c d
  att_fails it off still = as_was (uses c v p) it (still ∙ sym off)

  pub att_cuts : CoreMoves (uses c v p) c d m m' → active c v p ≡ false → AttCuts v p m m' c d
  att_cuts it off = by (active d v p) refl
    where
      by : (t : Bool) → active d v p ≡ t → AttCuts v p m m' c d
      by true on = inr (att_done it on)
      by false still = inl (att_fails it off still)
