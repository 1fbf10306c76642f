-- What the events make of a site by which its log comes up in its next session, where it keeps no link and writes of its line arise there.
use Rattle.std.proofs.Common.{◌≡◌, ◌∙◌, ◌++◌, ◌+◌, ◌<◌, ◌≤◌, ℕ, Bool, true, false, List, [], length, ap, sym, subst, refl, arith}
use Rattle.std.proofs.lemmas.List.{append-nil}
use Rattle.std.specs.Prelude.{Option, Some, None, if◌then◌else◌}
use Rattle.vx_model.specs.Sites.{is_origin}
use Rattle.vx_model.specs.declared.limits.TheConstants.{MOST_NUMBER}
use Rattle.vx_model.specs.declared.site.Role.{Role}
use Rattle.vx_model.specs.declared.site.SiteState.{SiteState}
use Rattle.vx_model.specs.declared.site.SiteState.TheVariants.{Bare as IsBare, Up as IsUp, Deported as IsAway, Down as IsDown}
use Rattle.vx_history.specs.Doubts.{After, Doubted, happened, resolved_at, taken_up}
use Rattle.vx_history.specs.Events.{come_back, kept_of, lost_touch, recovery_greeting, restarted_link}
use Rattle.vx_history.specs.Sends.{greeting}
use Rattle.vx_history.specs.Steps.{crashed, recovered}
use Rattle.vx_history.specs.World.{Link, Node, Packet, World}
use Rattle.vx_history.specs.declared.event.Event.{Event}
use Rattle.vx_history.specs.declared.event.Event.TheVariants.{Crash as CrashAt, Recover as RecoverAt}
use Rattle.vx_diskset.specs.Holds.{beside_of, header_links, row_links}
use Rattle.vx_effects.proofs.Effects.{crash_effect}
use Rattle.vx_effects.proofs.Fitting.{fit_happened}
use Rattle.vx_effects.proofs.Leaving.{fit_disks}
use Rattle.vx_effects.proofs.Rises.{recover_effect, session_effect}
use Rattle.vx_effects.proofs.Rows.{restarted_kept, touch_kept}
use Rattle.vx_events.specs.Doubts.{run_as}
use Rattle.vx_events.specs.Effects.{EffectAt}
use Rattle.vx_events.specs.LinksFit.{LinksFit, RowFits}
use Rattle.vx_events.specs.RvgBack.{fall_first}
use Rattle.vx_above.proofs.RiseWorlds.{behind_disks, come_quiet, own_gathering, own_headers, own_is, own_links, own_node, own_packets, own_recovered, own_session, own_sites}
use Rattle.vx_above.specs.OwnDisks.{own_disks}
use Rattle.vx_yard.proofs.CrashSite.{beside_sure}
use Rattle.vx_yard.proofs.Rows.{row_links_same}
use Rattle.vx_group_lines.specs.RvgRises.{rests_as, rests_world}
use Rattle.vx_group_lines.proofs.Arriving.{Arrives, arrives_then}

-- ---- lists of events

-- events behind those with which the line begins
pub rest_then : (d : Doubted) (s kept : ℕ) (taken : Bool) (es : List Event) → run_as taken d (fall_first (d.world.nodes s).state s kept ++ es) ≡ run_as taken (rests_world d s kept taken) es
rest_then d s kept taken es = by (d.world.nodes s).state
  where
    by : (t : SiteState) → run_as taken d (fall_first t s kept ++ es) ≡ run_as taken (run_as taken d (fall_first t s kept)) es
    by IsBare = refl
    by IsUp = refl
    by IsAway = refl
    by IsDown = refl

-- one that is down begins with none
pub rest_down : (d : Doubted) (s : ℕ) → (d.world.nodes s).state ≡ IsDown → rests_as d s 0 false ≡ d
rest_down d s down = ap (λ (t : SiteState). own_disks false s d.world (run_as false d (fall_first t s 0))) down

-- one that is up with its crash
pub rest_up : (d : Doubted) (s kept : ℕ) (taken : Bool) → (d.world.nodes s).state ≡ IsUp → rests_as d s kept taken ≡ own_disks taken s d.world (happened d (CrashAt s kept) taken)
rest_up d s kept taken up = ap (λ (t : SiteState). own_disks taken s d.world (run_as taken d (fall_first t s kept))) up

-- ---- nodes

-- one where writes arise greets no other
greets_none : (s : ℕ) (n : Node) → is_origin n.role ≡ true → recovery_greeting s n ≡ []
greets_none s n origin = ap (λ (b : Bool). if b then [] else greeting s n.other n) origin

pub own_state : (b : Bool) (was n : Node) → (own_node b was n).state ≡ n.state
own_state true was n = refl
own_state false was n = refl

own_role : (b : Bool) (was n : Node) → (own_node b was n).role ≡ n.role
own_role true was n = refl
own_role false was n = refl

own_number : (b : Bool) (was n : Node) → (own_node b was n).session ≡ n.session
own_number true was n = refl
own_number false was n = refl

-- so much of what crashed is kept
pub kept_at : (n : Node) → n.safe ≤ length n.log → kept_of n 0 ≡ n.safe
kept_at n most = omega (arith, most)

own_crashed : (b : Bool) (was n : Node) → own_node b was (crashed n (kept_of n 0)) ≡ crashed (own_node b was n) (kept_of (own_node b was n) 0)
own_crashed true was n = refl
own_crashed false was n = refl

-- what comes up has the role that it had
back_role : (n : Node) → is_origin n.role ≡ true → come_back n ≡ recovered n → is_origin (come_back n).role ≡ true
back_role n origin is = ap (λ (k : Node). is_origin k.role) is ∙ origin

-- a world in which a site is in no doubt is as it is, whatever is kept
sure_world : (d : Doubted) (s : ℕ) → d.after s ≡ None → (taken : Bool) → (resolved_at d s taken).world ≡ d.world
sure_world d s sure true = ap (λ (o : Option After). taken_up d.world s o) sure
sure_world d s sure false = refl

-- ---- the links of a row

links_as : (row new : ℕ → Link) (sites more : ℕ) → ((k : ℕ) → new k ≡ row k) → more ≡ sites → row_links new more ≡ row_links row sites
links_as row new sites more links same = row_links_same row new links more ∙ ap (λ (k : ℕ). row_links row k) same

-- a world in which the site keeps no link, and so many headers
pub beside_as : (d e : Doubted) (s : ℕ) → header_links d.world s ≡ [] → header_links e.world s ≡ [] → e.world.headers s ≡ d.world.headers s → d.after s ≡ None → e.after s ≡ None → beside_of e s ≡ beside_of d s
beside_as d e s were links headers was sure =
    beside_sure e s [] (d.world.headers s) links headers sure ∙ sym (beside_sure d s [] (d.world.headers s) were refl was)

-- ---- the recovery

module _ (d : Doubted) (s kept : ℕ) (taken : Bool) (fit : LinksFit (rests_world d s kept taken)) (below : s < (rests_world d s kept taken).world.sites) (sure : (rests_world d s kept taken).after s ≡ None)
    (links : header_links (rests_as d s kept taken).world s ≡ []) (origin : is_origin ((rests_as d s kept taken).world.nodes s).role ≡ true) (some : ((rests_as d s kept taken).world.nodes s).volumes ≡ [] → ⊥) where
  abbrev w : World
  w = d.world

  -- behind the crash
  abbrev h : Doubted
  h = rests_world d s kept taken

  abbrev e : Doubted
  e = rests_as d s kept taken

  abbrev was : Node
  was = d.world.nodes s

  abbrev at_h : Node
  at_h = h.world.nodes s

  abbrev n : Node
  n = e.world.nodes s

  here : (rests_as d s kept taken).world.nodes s ≡ own_node taken (d.world.nodes s) ((rests_world d s kept taken).world.nodes s)
  here = own_is s w h taken

  links_h : row_links (h.world.links s) h.world.sites ≡ []
  links_h = sym (links_as (h.world.links s) (e.world.links s) h.world.sites e.world.sites (own_links s w h taken) (own_sites s w h taken)) ∙ links

  origin_h : is_origin at_h.role ≡ true
  origin_h = ap (λ (r : Role). is_origin r) (sym (ap (λ (k : Node). k.role) here ∙ own_role taken was at_h)) ∙ origin

  back_is : come_back at_h ≡ recovered at_h
  back_is = come_quiet at_h (fit.quiet s)

  -- the world behind an event, with the disks that are made to fail
  abbrev behind : Event → Doubted
  behind event = own_disks taken s d.world (happened (rests_world d s kept taken) event taken)

  module _ (down : ((rests_as d s kept taken).world.nodes s).state ≡ IsDown) (less : ((rests_as d s kept taken).world.nodes s).session < MOST_NUMBER) where
    down_h : at_h.state ≡ IsDown
    down_h = sym (ap (λ (k : Node). k.state) here ∙ own_state taken was at_h) ∙ down

    less_h : at_h.session < MOST_NUMBER
    less_h = let same = ap (λ (k : Node). k.session) here ∙ own_number taken was at_h in omega (arith, less, same)

    -- ---- it is done

    abbrev pub world_back : Doubted
    world_back = own_disks taken s d.world (happened (rests_world d s kept taken) (RecoverAt s None) taken)

    abbrev row_back : ℕ → Link
    row_back = λ k. restarted_link (come_back ((rests_world d s kept taken).world.nodes s)) k ((rests_world d s kept taken).world.links s k)

    back_effect : EffectAt s e world_back (own_node taken was (come_back at_h)) row_back (h.world.headers s) (h.after s) (h.world.packets ++ recovery_greeting s (come_back at_h)) (h.world.gathering s)
    back_effect =
        behind_disks s w h (happened h (RecoverAt s None) taken) (come_back at_h) row_back (h.world.headers s) (h.after s) (h.world.packets ++ recovery_greeting s (come_back at_h)) (h.world.gathering s) taken
        (recover_effect h s taken below down_h less_h)

    back_node : own_node taken was (come_back at_h) ≡ recovered n
    back_node = ap (λ (k : Node). own_node taken was k) back_is ∙ own_recovered taken was at_h ∙ ap (λ (k : Node). recovered k) (sym here)

    pub back_fits : LinksFit world_back
    back_fits = fit_disks taken s w (happened h (RecoverAt s None) taken) (fit_happened h (RecoverAt s None) taken tt fit)

    pub back_arrives : Arrives (rests_as d s kept taken) world_back s (recovered ((rests_as d s kept taken).world.nodes s)) ((rests_as d s kept taken).world.gathering s)
    back_arrives = record {
      site = back_effect.site;
      fits = back_fits;
      node = back_effect.is.node ∙ back_node;
      first = λ _ made none. absurd (some none);
      sure = back_effect.is.after ∙ sure;
      links = links_as row_back (world_back.world.links s) h.world.sites world_back.world.sites back_effect.is.links (back_effect.site.sites ∙ own_sites s w h taken)
          ∙ restarted_kept (come_back at_h) s h.world.sites (h.world.links s) (fit.rows s) ∙ links_h;
      packets = back_effect.sent ∙ ap (λ (ps : List Packet). h.world.packets ++ ps) (greets_none s (come_back at_h) (back_role at_h origin_h back_is)) ∙ append-nil h.world.packets ∙ sym (own_packets s w h taken);
      gathering = back_effect.gathering ∙ sym (own_gathering s w h taken);
    }

    -- it is up
    pub back_up : ((happened (rests_world d s kept taken) (RecoverAt s None) taken).world.nodes s).state ≡ IsUp
    back_up = ap (λ (k : Node). k.state) ((recover_effect h s taken below down_h less_h).is.node ∙ back_is)

    pub back_headers : world_back.world.headers s ≡ e.world.headers s
    back_headers = back_effect.is.headers ∙ sym (own_headers s w h taken)

    -- ---- a disk failed in it, behind the header of its next session

    abbrev pub world_begun : ℕ → Doubted
    world_begun disk = own_disks taken s d.world (happened (rests_world d s kept taken) (RecoverAt s (Some disk)) taken)

    module _ (disk : ℕ) where
      abbrev begun : Node → Node
      begun k = record k { session = k.session + 1 }

      begun_effect : EffectAt s e (world_begun disk) (own_node taken was (begun at_h)) (h.world.links s) (h.world.headers s) (h.after s) h.world.packets (h.world.gathering s)
      begun_effect =
          behind_disks s w h (happened h (RecoverAt s (Some disk)) taken) (begun at_h) (h.world.links s) (h.world.headers s) (h.after s) h.world.packets (h.world.gathering s) taken
          (session_effect h s disk taken below down_h less_h)

      pub begun_arrives : Arrives (rests_as d s kept taken) (world_begun disk) s (record ((rests_as d s kept taken).world.nodes s) { session = ((rests_as d s kept taken).world.nodes s).session + 1 }) ((rests_as d s kept taken).world.gathering s)
      begun_arrives = record {
        site = begun_effect.site;
        fits = fit_disks taken s w (happened h (RecoverAt s (Some disk)) taken) (fit_happened h (RecoverAt s (Some disk)) taken tt fit);
        node = begun_effect.is.node ∙ own_session taken was at_h ∙ ap (λ (k : Node). begun k) (sym here);
        first = λ _ made none. absurd (some none);
        sure = begun_effect.is.after ∙ sure;
        links = links_as (h.world.links s) ((world_begun disk).world.links s) h.world.sites (world_begun disk).world.sites begun_effect.is.links (begun_effect.site.sites ∙ own_sites s w h taken) ∙ links_h;
        packets = begun_effect.sent ∙ sym (own_packets s w h taken);
        gathering = begun_effect.gathering ∙ sym (own_gathering s w h taken);
      }

      pub begun_headers : (world_begun disk).world.headers s ≡ e.world.headers s
      begun_headers = begun_effect.is.headers ∙ sym (own_headers s w h taken)

    -- ---- it crashes again

    abbrev up_h : Doubted
    up_h = happened (rests_world d s kept taken) (RecoverAt s None) taken

    abbrev pub world_fell_back : Doubted
    world_fell_back = own_disks taken s d.world (happened (happened (rests_world d s kept taken) (RecoverAt s None) taken) (CrashAt s 0) taken)

    abbrev up_node : Node
    up_node = up_h.world.nodes s

    abbrev row_fell : ℕ → Link
    row_fell = λ k. lost_touch ((happened (rests_world d s kept taken) (RecoverAt s None) taken).world.links s k)

    up_effect : EffectAt s h up_h (come_back at_h) row_back (h.world.headers s) (h.after s) (h.world.packets ++ recovery_greeting s (come_back at_h)) (h.world.gathering s)
    up_effect = recover_effect h s taken below down_h less_h

    up_fits : LinksFit up_h
    up_fits = fit_happened h (RecoverAt s None) taken tt fit

    same_world : (resolved_at up_h s taken).world ≡ up_h.world
    same_world = sure_world up_h s (up_effect.is.after ∙ sure) taken

    -- its node and its row
    abbrev crashed_from : World → Doubted → Type 0
    crashed_from v x = EffectAt s up_h x (crashed (v.nodes s) (kept_of (v.nodes s) 0)) (λ k. lost_touch (v.links s k)) (up_h.world.headers s) None up_h.world.packets None

    fell_effect : crashed_from up_h.world (happened up_h (CrashAt s 0) taken)
    fell_effect =
        subst (λ (v : World). crashed_from v (happened up_h (CrashAt s 0) taken)) same_world
        (crash_effect up_h s 0 taken (subst (λ (v : World). RowFits s v.sites (v.links s)) (sym same_world) (up_fits.rows s))
        (subst (λ (v : World). s < v.sites) (sym same_world) (omega (arith, below, up_effect.site.sites)))
        (subst (λ (v : World). (v.nodes s).state ≡ IsUp) (sym same_world) (ap (λ (k : Node). k.state) (up_effect.is.node ∙ back_is))))

    own_fell : own_node taken was (crashed up_node (kept_of up_node 0)) ≡ crashed (recovered n) (kept_of (recovered n) 0)
    own_fell =
        own_crashed taken was up_node
        ∙ ap (λ (k : Node). crashed k (kept_of k 0)) (ap (λ (k : Node). own_node taken was k) up_effect.is.node ∙ back_node)

    fell_back_effect : EffectAt s world_back world_fell_back (crashed (recovered n) (kept_of (recovered n) 0)) row_fell (up_h.world.headers s) None up_h.world.packets None
    fell_back_effect =
        subst (λ (k : Node). EffectAt s world_back world_fell_back k row_fell (up_h.world.headers s) None up_h.world.packets None) own_fell
        (behind_disks s w up_h (happened up_h (CrashAt s 0) taken) (crashed up_node (kept_of up_node 0)) row_fell (up_h.world.headers s) None up_h.world.packets None taken fell_effect)

    pub fell_back_arrives : Arrives (rests_as d s kept taken) world_fell_back s (crashed (recovered ((rests_as d s kept taken).world.nodes s)) (kept_of (recovered ((rests_as d s kept taken).world.nodes s)) 0)) None
    fell_back_arrives =
        arrives_then e world_back world_fell_back s (recovered n) (crashed (recovered n) (kept_of (recovered n) 0)) row_fell (up_h.world.headers s) None up_h.world.packets (e.world.gathering s) None back_arrives
        fell_back_effect (fit_disks taken s w (happened up_h (CrashAt s 0) taken) (fit_happened up_h (CrashAt s 0) taken tt up_fits)) refl (sym (own_packets s w up_h taken))
        (touch_kept (up_h.world.links s) world_back.world.sites ∙ row_links_same (world_back.world.links s) (up_h.world.links s) (λ k. sym (own_links s w up_h taken k)) world_back.world.sites ∙ back_arrives.links)
        (λ _ made none. absurd (some none))

    pub fell_back_headers : world_fell_back.world.headers s ≡ e.world.headers s
    fell_back_headers = fell_back_effect.is.headers ∙ up_effect.is.headers ∙ sym (own_headers s w h taken)
