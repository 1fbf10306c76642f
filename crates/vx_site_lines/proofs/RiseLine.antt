-- What a line leads to that starts the group of a site which is down.
use Rattle.std.proofs.Common.{◌≡◌, ◌∙◌, ◌<◌, ◌++◌, ℕ, zero, suc, Bool, true, false, List, [], ◌∷◌, length, ap, sym, subst, refl, arith}
use Rattle.std.specs.Prelude.{Option, Some, None, ◌&&◌, ◌||◌, slice_get}
use Rattle.vx_model.specs.Sites.{is_origin}
use Rattle.vx_model.specs.Sizes.{ring_of}
use Rattle.vx_model.specs.declared.limits.TheConstants.{MOST_NUMBER}
use Rattle.vx_model.specs.declared.site.SPhase.{SPhase}
use Rattle.vx_model.specs.declared.site.SPhase.TheVariants.{Quiet, Regions, Log as LogPhase, ForkKept}
use Rattle.vx_model.specs.declared.site.SiteState.TheVariants.{Bare as IsBare, Up as IsUp, Down as IsDown}
use Rattle.vx_model.specs.declared.state.KeptLink.{KeptLink}
use Rattle.vx_model.specs.declared.state.State.{State}
use Rattle.vx_model.proofs.Tests.{both_true}
use Rattle.vx_disk.specs.Shelf.{Lawful}
use Rattle.vx_disk.specs.declared.shelf.Shelf.{Ghosts}
use Rattle.vx_diskset.specs.Asked.{FailsAs, FusedAs, SameFailing}
use Rattle.vx_diskset.specs.DiskSets.{CameUp}
use Rattle.vx_diskset.specs.Holds.{KeptBeside, beside_of, header_links, row_links, state_with}
use Rattle.vx_diskset.specs.Stands.{IsToldAt, RoleIs, SiteStands}
use Rattle.vx_diskset.specs.declared.disk_set.DiskSet.{DiskSet}
use Rattle.vx_diskset.specs.declared.disk_set.DiskSet.TheVariants.{Bare, Spoiled, Up, Receives, Down, OfGroup, Over, Gone}
use Rattle.vx_diskset.proofs.TakenBack.{any_links}
use Rattle.vx_history.proofs.Updates.{and_left, and_right}
use Rattle.vx_history.specs.Groups.{GroupNode}
use Rattle.vx_history.specs.Doubts.{After, Doubted, happened}
use Rattle.vx_history.specs.Events.{come_back, linked_sites, recovery_greeting, restarted_link}
use Rattle.vx_history.specs.KeptLinks.{kept_links}
use Rattle.vx_history.specs.Sends.{is_linked}
use Rattle.vx_history.specs.Steps.{recovered}
use Rattle.vx_history.specs.World.{Gathering, Link, Node, NoFuse, Packet}
use Rattle.vx_history.specs.declared.event.Event.TheVariants.{Crash as CrashAt, Recover as RecoverAt}
use Rattle.vx_effects.proofs.Fitting.{fit_happened, fit_run}
use Rattle.vx_effects.proofs.Leaving.{fit_disks, fit_found}
use Rattle.vx_effects.proofs.Restarts.{found_again, found_fits, found_kept, kept_fine, restarted_again}
use Rattle.vx_effects.proofs.Rises.{recover_effect}
use Rattle.vx_effects.proofs.Rows.{restarted_kept}
use Rattle.vx_effects.specs.Restarts.{are_fine, row_of_kept}
use Rattle.vx_events.proofs.LinkTesting.{AllLinked, all_linked}
use Rattle.vx_events.proofs.Places.{never_some}
use Rattle.vx_events.specs.Effects.{EffectAt}
use Rattle.vx_events.specs.Ends.{found_linked}
use Rattle.vx_events.specs.Found.{ComesUpAs, SameDisks}
use Rattle.vx_events.specs.GroupLines.{is_over_group}
use Rattle.vx_events.specs.Lists.{Choice, crash_count}
use Rattle.vx_events.specs.LinksFit.{LinksFit, is_plain_mode}
use Rattle.vx_diskset.proofs.Roles.{role_like}
use Rattle.vx_above.specs.OwnDisks.{own_disks}
use Rattle.vx_site_lines.specs.Rises.{RisesFrom, WasDown, WasUp, can_rise, is_none, is_quiet}
use Rattle.vx_yard.specs.Standing.{StandsFor}
use Rattle.vx_yard.specs.declared.yard.Yard.{Yard}
use Rattle.vx_yard.proofs.CrashSite.{beside_sure}
use Rattle.vx_yard.proofs.FailsStay.{fails_then}
use Rattle.vx_yard.proofs.FuseStays.{fused_none}
use Rattle.vx_site_lines.proofs.Apart.{never_apart, never_down}
use Rattle.vx_above.proofs.SeenSites.{IsWhole}
use Rattle.vx_site_lines.proofs.RiseSite.{AllPlain, ComesUp}
use Rattle.vx_above.proofs.RiseWorlds.{behind_disks, come_quiet, found_effect, own_gathering, own_greeting, own_headers, own_is, own_links, own_node, own_packets, own_recovered, own_sites}
use Rattle.vx_yard.proofs.Rows.{row_links_same}
use Rattle.vx_diskset.proofs.GroupStands.{none_apart}
use Rattle.vx_diskset.proofs.Laying.{raw_in}

-- ---- nodes

pub quiet_is : (p : SPhase) → is_quiet p ≡ true → p ≡ Quiet
quiet_is Quiet e = refl
quiet_is Regions e = absurd (cc)
quiet_is LogPhase e = absurd (cc)
quiet_is ForkKept e = absurd (cc)

or_left : (a b : Bool) → a ≡ true → (a || b) ≡ true
or_left true b e = refl
or_left false b e = absurd (cc)

-- a node without the disks that were made to fail since
own_same : (b : Bool) (was n k : Node) → SameDisks (own_node b was n) k → SameDisks n (record k { failing = n.failing; group = n.group })
own_same true was n k same = record {
  name = same.name;
  disks = same.disks;
  blocks = same.blocks;
  volumes = same.volumes;
  up = same.up;
  running = same.running;
  failing = refl;
  fuse = same.fuse;
  group = refl;
}
own_same false was n k same = record {
  name = same.name;
  disks = same.disks;
  blocks = same.blocks;
  volumes = same.volumes;
  up = same.up;
  running = same.running;
  failing = refl;
  fuse = same.fuse;
  group = refl;
}

own_back : (b : Bool) (was n k : Node) → k.failing ≡ (own_node b was n).failing → k.group ≡ (own_node b was n).group
    → own_node b was (record k { failing = n.failing; group = n.group }) ≡ k
own_back true was n k e f =
    ap (λ (x : ℕ → Bool). let m : Node = record k { failing = x; group = was.group } in m) (sym e) ∙ ap (λ (x : Option GroupNode). let m : Node = record k { group = x } in m) (sym f)
own_back false was n k e f =
    ap (λ (x : ℕ → Bool). let m : Node = record k { failing = x; group = n.group } in m) (sym e) ∙ ap (λ (x : Option GroupNode). let m : Node = record k { group = x } in m) (sym f)

own_down : (b : Bool) (was n : Node) → (own_node b was n).state ≡ IsDown → n.state ≡ IsDown
own_down true was n e = e
own_down false was n e = e

pub own_at : (b : Bool) (was n : Node) → (own_node b was n).session ≡ n.session
own_at true was n = refl
own_at false was n = refl

pub own_safe : (b : Bool) (was n : Node) → (own_node b was n).safe ≡ n.safe
own_safe true was n = refl
own_safe false was n = refl

own_log : (b : Bool) (was n : Node) → length (own_node b was n).log ≡ length n.log
own_log true was n = refl
own_log false was n = refl

-- ---- the links that a header keeps

module _ (row : ℕ → Link) (role : Bool) (starts : (k : ℕ) → is_linked (row k) ≡ true → role ≡ true) where
  one_origin : (ss : List ℕ) → AllLinked row ss → (k : ℕ) (l : KeptLink) → slice_get (kept_links row ss) k ≡ Some l → role ≡ true
  one_origin [] all k l at = absurd (none k at)
    where
      none : (k : ℕ) → slice_get (let xs : List KeptLink = [] in xs) k ≡ Some l → ⊥
      none zero e = never_some e
      none (suc k) e = never_some e
  one_origin (s ∷ ss) all k l at = starts s all.0

  none_or : (ss : List ℕ) → AllLinked row ss → (role || is_none (kept_links row ss)) ≡ true
  none_or [] all = by_role role
    where
      by_role : (b : Bool) → (b || true) ≡ true
      by_role true = refl
      by_role false = refl
  none_or (s ∷ ss) all = or_left role _ (starts s all.0)

-- links come up only where writes arise
pub row_starts : (ls : List KeptLink) (role : Bool) → (role || is_none ls) ≡ true → (k : ℕ) → is_linked (row_of_kept ls k) ≡ true → role ≡ true
row_starts [] role e k linked = let f : false ≡ true = linked in absurd (cc)
row_starts (l ∷ ls) true e k linked = refl
row_starts (l ∷ ls) false e k linked = absurd (cc)

-- ---- effects, with other spellings of the same
pub effect_as : (s : ℕ) (d e : Doubted) (n k : Node) (row : ℕ → Link) (many more : ℕ) (doubt other : Option After) (packets sent : List Packet) (gathered gathering : Option Gathering)
    → n ≡ k → many ≡ more → doubt ≡ other → packets ≡ sent → gathered ≡ gathering → EffectAt s d e n row many doubt packets gathered → EffectAt s d e k row more other sent gathering
effect_as s d e n k row many more doubt other packets sent gathered gathering node headers after flight puts eff = record {
  site = eff.site;
  is = record { node = eff.is.node ∙ node; links = eff.is.links; headers = eff.is.headers ∙ headers; after = eff.is.after ∙ after };
  sent = eff.sent ∙ flight;
  gathering = eff.gathering ∙ puts;
}

-- each link of a world goes by the log or by nothing yet
pub plain_of : (s : ℕ) (e : Doubted) (row : ℕ → Link) → LinksFit e → ((k : ℕ) → e.world.links s k ≡ row k) → AllPlain row
plain_of s e row fits is k linked =
    ap (λ (l : Link). is_plain_mode l.mode) (sym (is k)) ∙ ((fits.rows s).plain k (ap is_linked (is k) ∙ linked)).mode

module _ {R : Type 0} {g : Ghosts R} where
  -- a site with a group has a log as large as its disks
  pub shape_at : (beside : KeptBeside) (n : Node) (e : DiskSet R g) → SiteStands beside n e → n.group ≡ None → (n.state ≡ IsBare → ⊥) → (n.low ≡ 1) × (n.ring ≡ ring_of n.blocks)
  shape_at beside n (Bare rack) h apart some = absurd (some (ap (λ (x : Node). x.state) h.bare.is))
  shape_at beside n (Spoiled rack) h apart some = absurd (some (ap (λ (x : Node). x.state) h.is))
  shape_at beside n (Up rvg) h apart some = let lies = raw_in n (g.meaning rvg.shelf) apart h.1.lies in (h.1.low, lies.laid.ring_is ∙ ap ring_of (lies.size 0 (omega (arith, lies.can.some))))
  shape_at beside n (Receives s) h apart some = let lies = raw_in n (g.meaning s.rvg.shelf) apart h.1.lies in (h.1.low, lies.laid.ring_is ∙ ap ring_of (lies.size 0 (omega (arith, lies.can.some))))
  shape_at beside n (Down rack) h apart some = (h.low, h.lies.laid.ring_is ∙ ap ring_of (h.lies.size 0 (omega (arith, h.lies.can.some))))
  shape_at beside n (OfGroup s) h apart some = never_apart beside n s h (none_apart n apart) some
  shape_at beside n (Over s) h apart some = absurd (h.0.0 apart)
  shape_at beside n Gone h apart some = absurd h

  pub unfused_down : (beside : KeptBeside) (n : Node) (e : DiskSet R g) → SiteStands beside n e → n.group ≡ None → n.state ≡ IsDown → n.fuse ≡ NoFuse
  unfused_down beside n (Bare rack) h apart down = let e : IsBare ≡ IsDown = sym (ap (λ (x : Node). x.state) h.bare.is) ∙ down in absurd (cc)
  unfused_down beside n (Spoiled rack) h apart down = let e : IsBare ≡ IsDown = sym (ap (λ (x : Node). x.state) h.is) ∙ down in absurd (cc)
  unfused_down beside n (Up rvg) h apart down = let e : IsUp ≡ IsDown = sym h.1.state ∙ down in absurd (cc)
  unfused_down beside n (Receives s) h apart down = let e : IsUp ≡ IsDown = sym h.1.state ∙ down in absurd (cc)
  unfused_down beside n (Down rack) h apart down = h.unfused
  unfused_down beside n (OfGroup s) h apart down = never_down beside n s h (none_apart n apart) down
  unfused_down beside n (Over s) h apart down = absurd (h.0.0 apart)
  unfused_down beside n Gone h apart down = absurd h

  -- the site, from the world behind the crash with which its line began, where it did
  module _ (lawful : (r : R) → Lawful (g.meaning r)) (d h : Doubted) (old : Yard R g) (s ring : ℕ) (c : Choice) (taken : Bool) (from : RisesFrom d s c taken h) (fit_d : LinksFit d)
      (stands : StandsFor (own_disks taken s d.world h) old) (below : s < h.world.sites) (down : ((own_disks taken s d.world h).world.nodes s).state ≡ IsDown) (apart : ((own_disks taken s d.world h).world.nodes s).group ≡ None)
      (ring_is : ring ≡ ring_of ((own_disks taken s d.world h).world.nodes s).blocks) (before after : DiskSet R g) (there : slice_get old.disk_sets.items s ≡ Some before) (same : SameFailing before after) where
    abbrev mid : Doubted
    mid = own_disks taken s d.world h

    abbrev m : Node
    m = mid.world.nodes s

    abbrev was : Node
    was = d.world.nodes s

    pub fit_h : LinksFit h
    fit_h = by_from from
      where
        by_from : RisesFrom d s c taken h → LinksFit h
        by_from (WasUp up is) = subst (λ (x : Doubted). LinksFit x) (sym is) (fit_run taken d (CrashAt s (crash_count (d.world.nodes s) c.kept) ∷ []) (tt, tt) fit_d)
        by_from (WasDown was_down not_taken is) = subst (λ (x : Doubted). LinksFit x) (sym is) fit_d

    below_mid : s < mid.world.sites
    below_mid = omega (arith, below, own_sites s d.world h taken)

    pub down_h : (h.world.nodes s).state ≡ IsDown
    down_h = own_down taken was (h.world.nodes s) (ap (λ (n : Node). n.state) (sym (own_is s d.world h taken)) ∙ down)

    -- a site that is down is in no doubt
    pub sure : h.after s ≡ None
    sure = by_doubt (h.after s) refl
      where
        by_doubt : (o : Option After) → h.after s ≡ o → h.after s ≡ None
        by_doubt None e = e
        by_doubt (Some a) e = let f : IsUp ≡ IsDown = sym (fit_h.doubts s a e).up ∙ down_h in absurd (cc)

    stood : SiteStands (beside_of mid s) m before
    stood = stands.disk_sets.sites s before below_mid there

    abbrev beside_now : (ℕ → Link) → KeptBeside
    beside_now row = record { links = row_links row mid.world.sites; headers = mid.world.headers s; doubt = None }

    beside_is : (row : ℕ → Link) → row_links row mid.world.sites ≡ header_links mid.world s → beside_of mid s ≡ beside_now row
    beside_is row links = beside_sure mid s (row_links row mid.world.sites) (mid.world.headers s) (sym links) refl sure

    -- what came up is over no group either
    none_of : (k : Node) → SameDisks m k → k.group ≡ None
    none_of k disks = disks.group ∙ apart

    apart_of : (k : Node) → SameDisks m k → is_over_group k ≡ false
    apart_of k disks = none_apart k (none_of k disks)

    -- what came up has a log as large
    whole_of : (b : KeptBeside) (k : Node) → SameDisks m k → length k.log ≡ k.safe → SiteStands b k after → IsWhole k ring
    whole_of b k disks whole at =
        let up_shape = shape_at b k after at (none_of k disks) (λ bare. let e : IsUp ≡ IsBare = sym disks.up ∙ bare in cc) in
        record {
          up = disks.up;
          running = disks.running;
          whole = whole;
          low = up_shape.0;
          ring = ring_is ∙ ap ring_of (sym disks.blocks) ∙ sym up_shape.1;
        }

    fails_of : (k : Node) → SameDisks m k → FailsAs k after
    fails_of k disks = fails_then m k before after disks.failing same (stands.failing s before below_mid there)

    fuse_of : (k : Node) → SameDisks m k → FusedAs k after
    fuse_of k disks = fused_none k after (disks.fuse ∙ unfused_down (beside_of mid s) m before stood apart down)

    -- ---- contents are told

    module _ (came : CameUp (beside_of mid s) m after) (told : IsToldAt after) where
      abbrev k : Node
      k = came.node

      abbrev last : Doubted
      last = happened h (RecoverAt s None) taken

      abbrev row : ℕ → Link
      row = λ j. restarted_link (come_back (h.world.nodes s)) j (h.world.links s j)

      pub free_h : (h.world.nodes s).session < MOST_NUMBER
      free_h = let e = ap (λ (n : Node). n.session) (own_is s d.world h taken) ∙ own_at taken was (h.world.nodes s) in omega (arith, came.next told, e)

      node_is : own_node taken was (come_back (h.world.nodes s)) ≡ k
      node_is =
          ap (λ (n : Node). own_node taken was n) (come_quiet (h.world.nodes s) (fit_h.quiet s)) ∙ own_recovered taken was (h.world.nodes s)
          ∙ ap recovered (sym (own_is s d.world h taken)) ∙ sym (came.is told)

      pub told_effect : EffectAt s mid (own_disks taken s d.world last) k row (mid.world.headers s) None (mid.world.packets ++ recovery_greeting s k) (mid.world.gathering s)
      told_effect =
          effect_as s mid (own_disks taken s d.world last) (own_node taken was (come_back (h.world.nodes s))) k row (h.world.headers s) (mid.world.headers s) (h.after s) None
          (h.world.packets ++ recovery_greeting s (come_back (h.world.nodes s))) (mid.world.packets ++ recovery_greeting s k) (h.world.gathering s) (mid.world.gathering s)
          node_is (sym (own_headers s d.world h taken)) sure
          (ap (λ (ps : List Packet). ps ++ recovery_greeting s (come_back (h.world.nodes s))) (sym (own_packets s d.world h taken))
          ∙ ap (λ (ps : List Packet). mid.world.packets ++ ps) (sym (own_greeting taken was (come_back (h.world.nodes s)) s) ∙ ap (recovery_greeting s) node_is))
          (sym (own_gathering s d.world h taken))
          (behind_disks s d.world h last (come_back (h.world.nodes s)) row (h.world.headers s) (h.after s) (h.world.packets ++ recovery_greeting s (come_back (h.world.nodes s))) (h.world.gathering s) taken
          (recover_effect h s taken below down_h free_h))

      told_fits : LinksFit (own_disks taken s d.world last)
      told_fits = fit_disks taken s d.world last (fit_happened h (RecoverAt s None) taken tt fit_h)

      pub told_kept : row_links row mid.world.sites ≡ header_links mid.world s
      told_kept =
          ap (row_links row) (own_sites s d.world h taken) ∙ restarted_kept (come_back (h.world.nodes s)) s h.world.sites (h.world.links s) (fit_h.rows s)
          ∙ sym (row_links_same (h.world.links s) (mid.world.links s) (own_links s d.world h taken) mid.world.sites ∙ ap (row_links (h.world.links s)) (own_sites s d.world h taken))

      pub told_comes : RoleIs k after → ComesUp mid (own_disks taken s d.world last) s ring k row after
      told_comes role = record {
        effect = told_effect;
        fits = told_fits;
        plain = plain_of s (own_disks taken s d.world last) row told_fits told_effect.is.links;
        again = restarted_again s h.world.sites (h.world.links s) (fit_h.rows s) (come_back (h.world.nodes s));
        whole = whole_of (beside_of mid s) k came.same came.whole came.stands;
        none = none_of k came.same;
        rests = ap (λ (n : Node). n.fed_by) (came.is told) ∙ stands.links.rests s down ∙ ap (λ (n : Node). n.other) (sym (came.is told));
        stands = subst (λ (b : KeptBeside). SiteStands b k after) (beside_is row told_kept) came.stands;
        failing = fails_of k came.same;
        fuse = fuse_of k came.same;
        role = role;
      }

      -- so many writes came back
      pub told_last : k.safe ≡ length (h.world.nodes s).log
      told_last =
          sym came.whole ∙ ap (λ (n : Node). length n.log) (came.is told) ∙ ap (λ (n : Node). length n.log) (own_is s d.world h taken) ∙ own_log taken was (h.world.nodes s)

      -- no test refuses what came up
      pub told_origin : (j : ℕ) (l : KeptLink) → slice_get (header_links mid.world s) j ≡ Some l → is_origin k.role ≡ true
      told_origin j l at =
          ap (λ (n : Node). is_origin n.role) (came.is told)
          ∙ one_origin (mid.world.links s) (is_origin m.role) (stands.links.starts s) (linked_sites (mid.world.links s) mid.world.sites 0 mid.world.sites)
          (all_linked (mid.world.links s) mid.world.sites 0 mid.world.sites) j l at

      pub told_may : can_rise s mid.world.sites (state_with k (header_links mid.world s)) ≡ true
      told_may =
          let ss : List ℕ = linked_sites (mid.world.links s) mid.world.sites 0 mid.world.sites in
          let ls : List KeptLink = header_links mid.world s in
          both_true (is_quiet k.phase) (are_fine s mid.world.sites ls && (is_origin k.role || is_none ls))
          (ap (λ (n : Node). is_quiet n.phase) (came.is told) ∙ ap is_quiet (stands.links.quiet s))
          (both_true (are_fine s mid.world.sites ls) (is_origin k.role || is_none ls) (kept_fine s mid.world.sites (mid.world.links s) (stands.links.rows s))
          (ap (λ (n : Node). is_origin n.role || is_none ls) (came.is told)
          ∙ none_or (mid.world.links s) (is_origin m.role) (stands.links.starts s) ss (all_linked (mid.world.links s) mid.world.sites 0 mid.world.sites)))

    -- ---- they are not

    module _ (came : CameUp (beside_of mid s) m after) (untold : IsToldAt after → ⊥) (state : State) (may : can_rise s mid.world.sites state ≡ true) (kept : state ≡ state_with came.node state.links) where
      abbrev k_found : Node
      k_found = record came.node { fed_by = came.node.other }

      -- before its disks are noted
      abbrev found : Node
      found = record k_found { failing = (h.world.nodes s).failing; group = (h.world.nodes s).group }

      abbrev row_found : ℕ → Link
      row_found = row_of_kept state.links

      abbrev last_found : Doubted
      last_found = found_linked h s found row_found

      fine : are_fine s mid.world.sites state.links ≡ true
      fine = and_left (are_fine s mid.world.sites state.links) (is_origin state.role || is_none state.links)
          (and_right (is_quiet state.phase) (are_fine s mid.world.sites state.links && (is_origin state.role || is_none state.links)) may)

      fine_h : are_fine s h.world.sites state.links ≡ true
      fine_h = ap (λ (n : ℕ). are_fine s n state.links) (sym (own_sites s d.world h taken)) ∙ fine

      origin : (is_origin k_found.role || is_none state.links) ≡ true
      origin = ap (λ (x : State). is_origin x.role || is_none state.links) (sym kept)
          ∙ and_right (are_fine s mid.world.sites state.links) (is_origin state.role || is_none state.links)
          (and_right (is_quiet state.phase) (are_fine s mid.world.sites state.links && (is_origin state.role || is_none state.links)) may)

      quiet : k_found.phase ≡ Quiet
      quiet = ap (λ (x : State). x.phase) (sym kept) ∙ quiet_is state.phase (and_left (is_quiet state.phase) (are_fine s mid.world.sites state.links && (is_origin state.role || is_none state.links)) may)

      disks_same : SameDisks m k_found
      disks_same = let x = came.same in record { name = x.name; disks = x.disks; blocks = x.blocks; volumes = x.volumes; up = x.up; running = x.running; failing = x.failing; fuse = x.fuse; group = x.group }

      pub found_as : ComesUpAs s h.world.sites (h.world.nodes s) found row_found
      found_as = record {
        same = own_same taken was (h.world.nodes s) k_found (subst (λ (n : Node). SameDisks n k_found) (own_is s d.world h taken) disks_same);
        whole = came.whole;
        quiet = quiet;
        rests = refl;
        fits = found_fits s h.world.sites state.links fine_h;
        starts = row_starts state.links (is_origin k_found.role) origin;
      }

      node_back : own_node taken was found ≡ k_found
      node_back = own_back taken was (h.world.nodes s) k_found (came.same.failing ∙ ap (λ (n : Node). n.failing) (own_is s d.world h taken)) (came.same.group ∙ ap (λ (n : Node). n.group) (own_is s d.world h taken))

      pub untold_effect : EffectAt s mid (own_disks taken s d.world last_found) k_found row_found (mid.world.headers s) None (mid.world.packets ++ recovery_greeting s k_found) (mid.world.gathering s)
      untold_effect =
          effect_as s mid (own_disks taken s d.world last_found) (own_node taken was found) k_found row_found (h.world.headers s) (mid.world.headers s) (h.after s) None
          (h.world.packets ++ recovery_greeting s found) (mid.world.packets ++ recovery_greeting s k_found) (h.world.gathering s) (mid.world.gathering s)
          node_back (sym (own_headers s d.world h taken)) sure
          (ap (λ (ps : List Packet). ps ++ recovery_greeting s found) (sym (own_packets s d.world h taken))) (sym (own_gathering s d.world h taken))
          (behind_disks s d.world h last_found found row_found (h.world.headers s) (h.after s) (h.world.packets ++ recovery_greeting s found) (h.world.gathering s) taken (found_effect h s found row_found))

      untold_fits : LinksFit (own_disks taken s d.world last_found)
      untold_fits = fit_disks taken s d.world last_found (fit_found h s (h.world.nodes s) found row_found below sure found_as fit_h)

      pub untold_kept : row_links row_found mid.world.sites ≡ state.links
      untold_kept = found_kept s mid.world.sites state.links fine

      pub untold_comes : RoleIs came.node after → ComesUp mid (own_disks taken s d.world last_found) s ring k_found row_found after
      untold_comes role = record {
        effect = untold_effect;
        fits = untold_fits;
        plain = plain_of s (own_disks taken s d.world last_found) row_found untold_fits untold_effect.is.links;
        again = found_again s mid.world.sites state.links fine;
        whole = whole_of (beside_now row_found) k_found disks_same came.whole stands_now;
        none = none_of k_found disks_same;
        rests = refl;
        stands = stands_now;
        failing = fails_of k_found disks_same;
        fuse = fuse_of k_found disks_same;
        role = role_like came.node k_found after refl role;
      }
        where
          stands_now : SiteStands (beside_now row_found) k_found after
          stands_now = any_links lawful (beside_of mid s) (beside_now row_found) came.node came.node.other after untold refl came.same.up (none_of came.node came.same) came.stands
