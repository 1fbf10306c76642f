-- What the events make of a site that was deported, by which its log comes up in its next session, or the site is down.
use Rattle.std.proofs.Common.{◌≡◌, ◌∙◌, ◌++◌, ◌+◌, ◌<◌, ℕ, Bool, true, false, List, [], ap, subst, sym, refl}
use Rattle.std.proofs.lemmas.List.{append-nil}
use Rattle.std.specs.Prelude.{Option, Some, None, if◌then◌else◌, leb}
use Rattle.vx_model.specs.Sites.{is_origin}
use Rattle.vx_model.specs.declared.limits.TheConstants.{MOST_NUMBER}
use Rattle.vx_model.specs.declared.no.Counted.TheVariants.{Number}
use Rattle.vx_model.specs.declared.no.No.TheVariants.{Limit}
use Rattle.vx_model.specs.declared.site.SiteState.{SiteState}
use Rattle.vx_model.specs.declared.site.SiteState.TheVariants.{Deported as IsAway}
use Rattle.vx_history.specs.Doubts.{Doubted, happened}
use Rattle.vx_history.specs.Events.{come_back, fall_from, recover_from, recovery, recovery_greeting, restarted_link}
use Rattle.vx_history.specs.Sends.{greeting}
use Rattle.vx_history.specs.Step.{done, outcome_of}
use Rattle.vx_history.specs.Steps.{fallen_site, fallen_world, recovered}
use Rattle.vx_history.specs.World.{Gathering, Link, Node, Packet, World}
use Rattle.vx_history.specs.declared.event.Event.TheVariants.{Fall as FallAt, Recover as RecoverAt}
use Rattle.vx_events.proofs.Passing.{above, is_site, off}
use Rattle.vx_events.specs.Effects.{EffectAt}
use Rattle.vx_effects.proofs.Effects.{effect_plain, turns_node, updated_self}
use Rattle.vx_effects.proofs.Fitting.{fit_happened}
use Rattle.vx_effects.proofs.Rows.{restarted_kept}
use Rattle.vx_above.proofs.RiseWorlds.{come_quiet}
use Rattle.vx_group_lines.proofs.Arriving.{Arrives, arrives_as, arrives_then}

-- ---- the steps

recover_step : (w : World) (s : ℕ) (fails : Option ℕ) → s < w.sites → (w.nodes s).state ≡ IsAway → (w.nodes s).session < MOST_NUMBER → outcome_of w (RecoverAt s fails) ≡ recovery w s fails
recover_step w s fails below away some =
    is_site w s (recover_from (w.nodes s).state w s fails) below
    ∙ ap (λ (t : SiteState). recover_from t w s fails) away
    ∙ off (leb MOST_NUMBER (w.nodes s).session) (Limit Number MOST_NUMBER) w (recovery w s fails) (above MOST_NUMBER (w.nodes s).session some)

fall_step : (w : World) (s : ℕ) → s < w.sites → (w.nodes s).state ≡ IsAway → outcome_of w (FallAt s) ≡ done (fallen_world w s)
fall_step w s below away = is_site w s (fall_from (w.nodes s).state w s) below ∙ ap (λ (t : SiteState). fall_from t w s) away

-- ---- what they change

module _ (d : Doubted) (s : ℕ) (below : s < d.world.sites) (away : (d.world.nodes s).state ≡ IsAway) where
  abbrev w : World
  w = d.world

  abbrev n : Node
  n = d.world.nodes s

  back_effect : n.session < MOST_NUMBER
      → EffectAt s d (happened d (RecoverAt s None) false) (come_back n) (λ k. restarted_link (come_back n) k (w.links s k)) (w.headers s) (d.after s) (w.packets ++ recovery_greeting s (come_back n)) (w.gathering s)
  back_effect some =
      effect_plain d (RecoverAt s None) (recovery w s None) s (recover_step w s None below away some)
      (record {
        sites = refl;
        nodes = λ i. refl;
        links = λ i k. refl;
        headers = λ i. refl;
        sent = refl;
        gathering = λ i. updated_self w.gathering s i;
      })
      (λ i. refl)

  begun_effect : (disk : ℕ) → n.session < MOST_NUMBER → EffectAt s d (happened d (RecoverAt s (Some disk)) false) (record n { session = n.session + 1 }) (w.links s) (w.headers s) (d.after s) w.packets (w.gathering s)
  begun_effect disk some =
      effect_plain d (RecoverAt s (Some disk)) (recovery w s (Some disk)) s (recover_step w s (Some disk) below away some) (turns_node s w (record n { session = n.session + 1 })) (λ i. refl)

  fall_effect : EffectAt s d (happened d (FallAt s) false) (fallen_site n) (w.links s) (w.headers s) (d.after s) w.packets (w.gathering s)
  fall_effect = effect_plain d (FallAt s) (done (fallen_world w s)) s (fall_step w s below away) (turns_node s w (fallen_site n)) (λ i. refl)

-- ---- behind what the world arrived at

-- one where writes arise greets no other
greets_none : (s : ℕ) (n : Node) → is_origin n.role ≡ true → recovery_greeting s n ≡ []
greets_none s n origin = ap (λ (b : Bool). if b then [] else greeting s n.other n) origin

module _ (d e : Doubted) (s : ℕ) (n : Node) (before : Option Gathering) (arrives : Arrives d e s n before) (below : s < e.world.sites) (away : n.state ≡ IsAway) (some : n.volumes ≡ [] → ⊥) where
  abbrev there : Node
  there = e.world.nodes s

  abbrev begun : Node → Node
  begun k = record k { session = k.session + 1 }

  away_there : there.state ≡ IsAway
  away_there = ap (λ (x : Node). x.state) arrives.node ∙ away

  volumes_there : there.volumes ≡ [] → n.volumes ≡ []
  volumes_there none = ap (λ (x : Node). x.volumes) (sym arrives.node) ∙ none

  session_there : n.session < MOST_NUMBER → there.session < MOST_NUMBER
  session_there less = subst (λ (x : Node). x.session < MOST_NUMBER) (sym arrives.node) less

  -- its log comes up in its next session
  module _ (less : n.session < MOST_NUMBER) where
    back_is : come_back there ≡ recovered there
    back_is = come_quiet there (arrives.fits.quiet s)

    abbrev row : ℕ → Link
    row = λ k. restarted_link (come_back (e.world.nodes s)) k (e.world.links s k)

    pub arrives_back : is_origin n.role ≡ true → Arrives d (happened e (RecoverAt s None) false) s (recovered n) before
    arrives_back origin =
        arrives_as d (happened e (RecoverAt s None) false) s (come_back there) (recovered n) before (back_is ∙ ap (λ (x : Node). recovered x) arrives.node)
        (subst (λ (o : Option Gathering). Arrives d (happened e (RecoverAt s None) false) s (come_back there) o) arrives.gathering
        (arrives_then d e (happened e (RecoverAt s None) false) s n (come_back there) row (e.world.headers s) (e.after s) (e.world.packets ++ recovery_greeting s (come_back there)) before (e.world.gathering s) arrives
        (back_effect e s below away_there (session_there less)) (fit_happened e (RecoverAt s None) false tt arrives.fits) arrives.sure
        (ap (λ (ps : List Packet). e.world.packets ++ ps)
        (greets_none s (come_back there) (ap (λ (x : Node). is_origin x.role) back_is ∙ ap (λ (x : Node). is_origin x.role) arrives.node ∙ origin)) ∙ append-nil e.world.packets)
        (restarted_kept (come_back there) s e.world.sites (e.world.links s) (arrives.fits.rows s) ∙ arrives.links)
        (λ _ made none. absurd (some (volumes_there (ap (λ (x : Node). x.volumes) (sym back_is) ∙ none))))))

    pub back_headers : (happened e (RecoverAt s None) false).world.headers s ≡ e.world.headers s
    back_headers = (back_effect e s below away_there (session_there less)).is.headers

    -- or a disk failed behind the header of its next session
    pub arrives_begun : (disk : ℕ) → Arrives d (happened e (RecoverAt s (Some disk)) false) s (record n { session = n.session + 1 }) before
    arrives_begun disk =
        arrives_as d (happened e (RecoverAt s (Some disk)) false) s (begun there) (begun n) before (ap (λ (x : Node). let y : Node = record x { session = x.session + 1 } in y) arrives.node)
        (subst (λ (o : Option Gathering). Arrives d (happened e (RecoverAt s (Some disk)) false) s (begun there) o) arrives.gathering
        (arrives_then d e (happened e (RecoverAt s (Some disk)) false) s n (begun there) (e.world.links s) (e.world.headers s) (e.after s) e.world.packets before (e.world.gathering s) arrives
        (begun_effect e s below away_there disk (session_there less)) (fit_happened e (RecoverAt s (Some disk)) false tt arrives.fits) arrives.sure refl arrives.links
        (λ _ made none. absurd (some (volumes_there none)))))

    pub begun_headers : (disk : ℕ) → (happened e (RecoverAt s (Some disk)) false).world.headers s ≡ e.world.headers s
    begun_headers disk = (begun_effect e s below away_there disk (session_there less)).is.headers

  -- the site is down
  pub arrives_fallen : Arrives d (happened e (FallAt s) false) s (fallen_site n) before
  arrives_fallen =
      arrives_as d (happened e (FallAt s) false) s (fallen_site there) (fallen_site n) before (ap (λ (x : Node). fallen_site x) arrives.node)
      (subst (λ (o : Option Gathering). Arrives d (happened e (FallAt s) false) s (fallen_site there) o) arrives.gathering
      (arrives_then d e (happened e (FallAt s) false) s n (fallen_site there) (e.world.links s) (e.world.headers s) (e.after s) e.world.packets before (e.world.gathering s) arrives
      (fall_effect e s below away_there) (fit_happened e (FallAt s) false tt arrives.fits) arrives.sure refl arrives.links (λ _ made none. absurd (some (volumes_there none)))))

  pub fallen_headers : (happened e (FallAt s) false).world.headers s ≡ e.world.headers s
  fallen_headers = (fall_effect e s below away_there).is.headers
