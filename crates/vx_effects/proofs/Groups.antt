-- What the events of groups of disks change.
use Rattle.std.proofs.Common.{◌≡◌, ◌∙◌, ℕ, ◌<◌, List, Bool, true, false, refl, ap}
use Rattle.std.specs.Prelude.{[], eqb, None, if◌then◌else◌}
use Rattle.vx_model.specs.declared.site.SiteState.TheVariants.{Bare, Up}
use Rattle.vx_history.proofs.Updates.{at_place}
use Rattle.vx_history.specs.Doubts.{Doubted, happened}
use Rattle.vx_history.specs.Events.{crash_at, deport_at, kept_of, link_left, lost_touch}
use Rattle.vx_history.specs.Step.{done}
use Rattle.vx_history.specs.Sound.{is_at_rest}
use Rattle.vx_history.specs.Steps.{crashed, deported_site, group_back, group_made, group_set, group_up}
use Rattle.vx_history.specs.Volumes.{volumes_made, volumes_set}
use Rattle.vx_history.specs.World.{Node, World, with_node}
use Rattle.vx_history.specs.declared.event.Event.TheVariants.{Group, Deport, Volumes}
use Rattle.vx_history.specs.declared.volumes.DataVolume.{DataVolume}
use Rattle.vx_events.proofs.Steps.{again_step, data_step, deport_step, group_step}
use Rattle.vx_model.specs.declared.site.Role.TheVariants.{Primary}
use Rattle.vx_events.specs.Effects.{EffectAt}
use Rattle.vx_events.specs.LinksFit.{RowFits}
use Rattle.vx_effects.proofs.Effects.{Turns, crash_turns, effect_plain, effect_row, turns_like, turns_node}
use Rattle.vx_effects.proofs.Links.{row_left}

module _ (d : Doubted) (s : ℕ) where
  abbrev w : World
  w = d.world

  abbrev n : Node
  n = w.nodes s

  pub group_effect : (taken : Bool) → s < w.sites → n.state ≡ Bare
      → EffectAt s d (happened d (Group s) taken) (group_set s n) (w.links s) (w.headers s) (d.after s) w.packets (w.gathering s)
  group_effect taken below bare =
      effect_plain d (Group s) (done (group_made w s)) s (group_step w s below bare)
      (turns_like s w (with_node w s (group_set s n)) (group_made w s) w.packets refl (λ i. refl) (λ i k. refl) (λ i. refl) refl (λ i. refl) (turns_node s w (group_set s n))) (λ i. refl)

  pub again_effect : (taken : Bool) → s < w.sites → is_at_rest n.state ≡ true → n.role ≡ Primary → n.volumes ≡ [] → n.log ≡ []
      → EffectAt s d (happened d (Group s) taken) (group_up n) (w.links s) (w.headers s) (d.after s) w.packets (w.gathering s)
  again_effect taken below rest role volumes log =
      effect_plain d (Group s) (done (group_back w s)) s (again_step w s below rest role volumes log)
      (turns_like s w (with_node w s (group_up n)) (group_back w s) w.packets refl (λ i. refl) (λ i k. refl) (λ i. refl) refl (λ i. refl) (turns_node s w (group_up n))) (λ i. refl)

  -- it gets data volumes
  pub data_effect : (log : ℕ) (xs : List DataVolume) (taken : Bool) → s < w.sites → n.state ≡ Up → n.halted ≡ None → n.role ≡ Primary → n.volumes ≡ [] → n.log ≡ []
      → EffectAt s d (happened d (Volumes s log xs) taken) (volumes_set log xs n) (w.links s) (w.headers s) (d.after s) w.packets (w.gathering s)
  data_effect log xs taken below up running role volumes none =
      effect_plain d (Volumes s log xs) (done (volumes_made w s log xs)) s (data_step w s log xs below up running role volumes none)
      (turns_like s w (with_node w s (volumes_set log xs n)) (volumes_made w s log xs) w.packets refl (λ i. refl) (λ i k. refl) (λ i. refl) refl (λ i. refl) (turns_node s w (volumes_set log xs n))) (λ i. refl)

  abbrev k : ℕ
  k = kept_of n 0

  pub deport_turns : Turns s w (deport_at w s) (deported_site n.fuse (crashed n k)) (λ to. link_left n k (w.links s to)) w.packets None
  deport_turns =
      let t = crash_turns s w k in
      record { sites = t.sites; nodes = λ i. by i (eqb i s) refl; links = t.links; headers = t.headers; sent = t.sent; gathering = t.gathering }
    where
      by : (i : ℕ) (b : Bool) → eqb i s ≡ b
          → (if b then deported_site (d.world.nodes s).fuse ((crash_at d.world s (kept_of (d.world.nodes s) 0)).nodes s) else (crash_at d.world s (kept_of (d.world.nodes s) 0)).nodes i)
          ≡ (if b then deported_site (d.world.nodes s).fuse (crashed (d.world.nodes s) (kept_of (d.world.nodes s) 0)) else d.world.nodes i)
      by i true is = ap (λ (m : Node). deported_site (d.world.nodes s).fuse m) ((crash_turns s d.world (kept_of (d.world.nodes s) 0)).nodes s ∙ at_place d.world.nodes s (crashed (d.world.nodes s) (kept_of (d.world.nodes s) 0)))
      by i false is =
          (crash_turns s d.world (kept_of (d.world.nodes s) 0)).nodes i
          ∙ ap (λ (b : Bool). if b then crashed (d.world.nodes s) (kept_of (d.world.nodes s) 0) else d.world.nodes i) is

  pub deport_effect : (taken : Bool) → RowFits s w.sites (w.links s) → s < w.sites → n.state ≡ Up → n.halted ≡ None
      → EffectAt s d (happened d (Deport s) taken) (deported_site n.fuse (crashed n k)) (λ to. lost_touch (w.links s to)) (w.headers s) (d.after s) w.packets None
  deport_effect taken fits below up runs =
      effect_row s d (happened d (Deport s) taken) (effect_plain d (Deport s) (done (deport_at w s)) s (deport_step w s below up runs) deport_turns (λ i. refl))
      (λ to. row_left n k s w.sites (w.links s) fits to)
