-- Whatever happens, the links of every world fit.
use Rattle.std.proofs.Common.{◌≡◌, ◌∙◌, ℕ, ◌+◌, ◌≤◌, ◌<◌, List, [], ◌∷◌, Bool, true, false, refl, ap, sym, subst, arith}
use Rattle.std.proofs.lemmas.Bool.{not-false}
use Rattle.std.specs.Prelude.{not, ◌&&◌, ◌||◌, eqb, leb, ltb, Option, Some, None, bytes_eq}
pub use Rattle.vx_history.proofs.Updates.{updated_other}
use Rattle.vx_model.specs.Sites.{is_origin, is_up}
use Rattle.vx_model.specs.declared.limits.TheConstants.{LEAST_BLOCKS, MOST_DISKS, MOST_SITES}
use Rattle.vx_model.specs.declared.link.Prot.{Prot}
use Rattle.vx_model.specs.declared.link.Prot.TheVariants.{Fail as FailsWhenFull}
use Rattle.vx_model.specs.declared.link.SyncMode.{SyncMode}
use Rattle.vx_model.specs.declared.no.Counted.TheVariants.{Disks, Sites}
use Rattle.vx_model.specs.declared.no.No.{No}
use Rattle.vx_model.specs.declared.no.No.TheVariants.{Down as NotUp, Exists, Limit, Role as WrongRole, Size}
use Rattle.vx_model.specs.declared.site.Role.{Role}
use Rattle.vx_model.specs.declared.site.Role.TheVariants.{Primary, Secondary, Handing, Bunker}
use Rattle.vx_model.specs.declared.site.SPhase.TheVariants.{Quiet}
use Rattle.vx_model.specs.declared.site.SiteState.TheVariants.{Bare, Down, Up}
use Rattle.vx_history.proofs.CrashLemmas.{crash_state}
use Rattle.vx_history.proofs.Places.{places_further, places_made}
use Rattle.vx_history.proofs.StateCases.{primary_leads, up_is}
use Rattle.vx_history.proofs.Updates.{all_updated, and_left, at_place, by_test, eqb_apart, eqb_equal}
use Rattle.vx_history.specs.Doubts.{After, Doubted, Runs, happened, resolved, resolved_at, taken_up}
use Rattle.vx_history.specs.Events.{crash_at, deport_at, kept_of, new_link}
use Rattle.vx_history.specs.Headers.{headers_by}
use Rattle.vx_history.specs.Refusals.{Outcome, at_site, at_work, both_at_work, follows, is_primary, is_running, count_links_of, refused, some_below, unless}
use Rattle.vx_history.specs.Sends.{is_linked, with_link}
use Rattle.vx_history.specs.Step.{done, link_part, outcome_of, step}
use Rattle.vx_history.specs.Steps.{crash_left, crashed, site_made}
use Rattle.vx_history.specs.World.{Link as LinkOf, Node, World, bare_site, no_link, updated, with_node}
use Rattle.vx_history.specs.declared.event.Event.{Event}
use Rattle.vx_history.specs.declared.event.Event.TheVariants.{Site, Raw, Group, Volumes, Write, Read, Apply, Pump, Tick, Deliver, Connect, Cut, Pause, Resume, Wait, Link, Set, Attach, Detach, Crash, Deport, Fall, Recover, Fault}
use Rattle.vx_history.specs.declared.event.LinkPart.TheVariants.{Joins, Made, Marked, Opened}
use Rattle.vx_events.specs.Doubts.{run_as}
use Rattle.vx_events.specs.LinksFit.{DoubtFits, IsBlank, IsPlain, IsRested, LinksFit, RowFits, StartsAt}
use Rattle.vx_events.proofs.Places.{never_some}
use Rattle.vx_effects.specs.Settings.{AllSetFail, SetsFail}
use Rattle.vx_effects.proofs.Headers.{bare_none}
use Rattle.vx_effects.proofs.Moves.{All, fit_moves, moves_like, moves_same}
use Rattle.vx_effects.proofs.Outcomes.{IsSettled, crash_moves, deported_moves, outcome_moves}
use Rattle.vx_effects.proofs.Tests

-- ---- sites in doubt

-- of other sites nothing is in doubt but what was
left_doubts : (after : ℕ → Option After) (s : ℕ) (p : ℕ) (a : After) → updated after s None p ≡ Some a → (after p ≡ Some a) × (p ≡ s → ⊥)
left_doubts after s =
    all_updated (λ (p : ℕ) (o : Option After). (a : After) → o ≡ Some a → (after p ≡ Some a) × (p ≡ s → ⊥)) after s None (λ a e. absurd (never_some e)) (λ p apart a e. (e, apart))

pub fit_without : (d : Doubted) (s : ℕ) → LinksFit d → LinksFit (record d { after = updated d.after s None })
fit_without d s fit =
    fit_moves d (record d { after = updated d.after s None }) (moves_same All d.world) (λ p _. refl) (λ p a e. ((left_doubts d.after s p a e).0, tt)) fit

-- a site that turns out to be what it was in doubt of
pub fit_taken : (d : Doubted) (s : ℕ) (a : After) → d.after s ≡ Some a → LinksFit d → LinksFit (record { world = resolved d.world s a; after = updated d.after s None; strayed = d.strayed })
fit_taken d s a is fit = record {
  rows = all_updated (λ (p : ℕ) (row : ℕ → LinkOf). RowFits p d.world.sites row) d.world.links s a.row f.row (λ p _. fit.rows p);
  later = all_updated (λ (p : ℕ) (n : Node). d.world.sites ≤ p → n.state ≡ Bare) d.world.nodes s a.node
      (λ h. let e : Up ≡ Bare = sym f.up ∙ fit.later s h in absurd (cc)) (λ p _ h. fit.later p h);
  bare = λ p bare. blank p (apart p bare) (subst (λ (n : Node). n.state ≡ Bare) (updated_other d.world.nodes s p a.node (apart p bare)) bare);
  doubts = λ p b e.
      let left = left_doubts d.after s p b e in
      still p b left.1 (fit.doubts p b left.0);
  starts = λ p. starting p (eqb p s) refl;
  quiet = all_updated (λ (p : ℕ) (n : Node). n.phase ≡ Quiet) d.world.nodes s a.node f.quiet (λ p _. fit.quiet p);
  rests = all_updated (λ (p : ℕ) (n : Node). IsRested n) d.world.nodes s a.node (λ down. let e : Up ≡ Down = sym f.up_too ∙ down in absurd (cc)) (λ p _. fit.rests p);
}
  where
    f : DoubtFits d.world s a
    f = fit.doubts s a is

    apart : (p : ℕ) → (updated d.world.nodes s a.node p).state ≡ Bare → p ≡ s → ⊥
    apart p bare same =
        let here : (updated d.world.nodes s a.node s).state ≡ Bare = subst (λ (k : ℕ). (updated d.world.nodes s a.node k).state ≡ Bare) same bare in
        let e : Up ≡ Bare = sym (fit.doubts s a is).up_too ∙ ap (λ (n : Node). n.state) (sym (at_place d.world.nodes s a.node)) ∙ here in cc

    blank : (p : ℕ) → (p ≡ s → ⊥) → (d.world.nodes p).state ≡ Bare → IsBlank (resolved d.world s a) p
    blank p other bare = record {
      links = λ k. ap (λ (row : ℕ → LinkOf). is_linked (row k)) (updated_other d.world.links s p a.row other) ∙ (fit.bare p bare).links k;
      headers = (fit.bare p bare).headers;
    }

    -- of the site itself, and of any other
    starting : (p : ℕ) (b : Bool) → eqb p s ≡ b → StartsAt (updated d.world.nodes s a.node p) (updated d.world.links s a.row p)
    starting p true e =
        subst (λ (k : ℕ). StartsAt (updated d.world.nodes s a.node k) (updated d.world.links s a.row k)) (sym (eqb_equal p s e))
        (subst (λ (n : Node). StartsAt n (updated d.world.links s a.row s)) (sym (at_place d.world.nodes s a.node))
        (subst (λ (row : ℕ → LinkOf). StartsAt a.node row) (sym (at_place d.world.links s a.row)) f.starts))
    starting p false e =
        let other : p ≡ s → ⊥ = eqb_apart p s e in
        subst (λ (n : Node). StartsAt n (updated d.world.links s a.row p)) (sym (updated_other d.world.nodes s p a.node other))
        (subst (λ (row : ℕ → LinkOf). StartsAt (d.world.nodes p) row) (sym (updated_other d.world.links s p a.row other)) (fit.starts p))

    still : (p : ℕ) (b : After) → (p ≡ s → ⊥) → DoubtFits d.world p b → DoubtFits (resolved d.world s a) p b
    still p b other g = record {
      up = ap (λ (n : Node). n.state) (updated_other d.world.nodes s p a.node other) ∙ g.up;
      halted = ap (λ (n : Node). is_running n.halted) (updated_other d.world.nodes s p a.node other) ∙ g.halted;
      up_too = g.up_too;
      halted_too = g.halted_too;
      row = g.row;
      starts = g.starts;
      quiet = g.quiet;
    }

pub fit_resolved : (d : Doubted) (s : ℕ) (taken : Bool) → LinksFit d → LinksFit (resolved_at d s taken)
fit_resolved d s false fit = fit_without d s fit
fit_resolved d s true fit = by_doubt (d.after s) refl
  where
    by_doubt : (o : Option After) → d.after s ≡ o → LinksFit (record { world = taken_up d.world s o; after = updated d.after s None; strayed = d.strayed })
    by_doubt None e = fit_without d s fit
    by_doubt (Some a) e = fit_taken d s a e fit

-- ---- events that are done

-- with the headers counted
fit_counted : (d : Doubted) (h : ℕ → ℕ) → ((p : ℕ) → (d.world.nodes p).state ≡ Bare → h p ≡ d.world.headers p) → LinksFit d
    → LinksFit (record d { world = record d.world { headers = h } })
fit_counted d h same fit =
    fit_moves d (record d { world = record d.world { headers = h } })
    (moves_like All d.world d.world (record d.world { headers = h }) refl (λ p. refl) (λ p k. refl) (moves_same All d.world)) same (λ p a e. (e, tt)) fit

pub none_more : (n k : ℕ) → k ≡ 0 → n + k ≡ n
none_more n k e = omega (arith, e)

fit_settled : (d : Doubted) (e : Event) → IsSettled e → LinksFit d → LinksFit (record d { world = (step d.world e).world })
fit_settled d e one fit =
    let v : World = (outcome_of d.world e).world in
    fit_moves d (record d { world = (step d.world e).world })
    (moves_like All d.world v (step d.world e).world refl (λ p. refl) (λ p k. refl) (outcome_moves d.world e one))
    (λ p bare. none_more (d.world.headers p) (headers_by e d.world (outcome_of d.world e) p) (bare_none d.world p bare e))
    (λ p a is. (is, tt)) fit

-- a further site
fit_site_made : (d : Doubted) (name : List ℕ) (disks blocks : ℕ) → LinksFit d → LinksFit (record d { world = site_made d.world name disks blocks })
fit_site_made d name disks blocks fit = record {
  rows = λ p. further p (d.world.links p) (fit.rows p);
  later = all_updated (λ (p : ℕ) (n : Node). d.world.sites + 1 ≤ p → n.state ≡ Bare) d.world.nodes d.world.sites (bare_site name disks blocks) (λ h. refl)
      (λ p _ h. fit.later p (omega (arith, h)));
  bare = all_updated (λ (p : ℕ) (n : Node). n.state ≡ Bare → IsBlank v p) d.world.nodes d.world.sites (bare_site name disks blocks)
      (λ _. blank d.world.sites (fit.bare d.world.sites (fit.later d.world.sites (omega arith)))) (λ p _ b. blank p (fit.bare p b));
  doubts = λ p a is.
      let f : DoubtFits d.world p a = fit.doubts p a is in
      let other : p ≡ d.world.sites → ⊥ = (λ (e : p ≡ d.world.sites).
      let b : (d.world.nodes p).state ≡ Bare = fit.later p (omega (arith, e)) in let g : Up ≡ Bare = sym f.up ∙ b in cc) in
      let same : updated d.world.nodes d.world.sites (bare_site name disks blocks) p ≡ d.world.nodes p = updated_other d.world.nodes d.world.sites p (bare_site name disks blocks) other in
      record {
        up = ap (λ (n : Node). n.state) same ∙ f.up;
        halted = ap (λ (n : Node). is_running n.halted) same ∙ f.halted;
        up_too = f.up_too;
        halted_too = f.halted_too;
        row = further p a.row f.row;
        starts = f.starts;
        quiet = f.quiet;
      };
  starts = all_updated (λ (p : ℕ) (n : Node). StartsAt n (d.world.links p)) d.world.nodes d.world.sites (bare_site name disks blocks) (λ k _. refl) (λ p _. fit.starts p);
  quiet = all_updated (λ (p : ℕ) (n : Node). n.phase ≡ Quiet) d.world.nodes d.world.sites (bare_site name disks blocks) refl (λ p _. fit.quiet p);
  rests = all_updated (λ (p : ℕ) (n : Node). IsRested n) d.world.nodes d.world.sites (bare_site name disks blocks)
      (λ down. let e : Bare ≡ Down = down in absurd (cc)) (λ p _. fit.rests p);
}
  where
    v : World
    v = site_made d.world name disks blocks

    further : (p : ℕ) (row : ℕ → LinkOf) → RowFits p d.world.sites row → RowFits p (d.world.sites + 1) row
    further p row f = record { places = places_further d.world.sites row f.places; apart = f.apart; plain = f.plain; none = f.none }

    blank : (p : ℕ) → IsBlank d.world p → IsBlank v p
    blank p b = record { links = b.links; headers = b.headers }

fit_site : (d : Doubted) (name : List ℕ) (disks blocks : ℕ) → LinksFit d → LinksFit (record d { world = (step d.world (Site name disks blocks)).world })
fit_site d name disks blocks fit =
    let w : World = d.world in
    let o : Outcome = done (site_made w name disks blocks) in
    let sized : Outcome = unless (eqb disks 0 || ltb blocks LEAST_BLOCKS) Size w o in
    let fits : Outcome = unless (ltb MOST_DISKS disks) (Limit Disks MOST_DISKS) w sized in
    let room : Outcome = unless (leb MOST_SITES w.sites) (Limit Sites MOST_SITES) w fits in
    let Q : Outcome → Type 0 = λ (r : Outcome). (LinksFit (record d { world = r.world })) × ((p : ℕ) → r.world.headers p ≡ w.headers p) in
    let refusals : (why : No) → Q (refused w why) = λ why. (fit, λ p. refl) in
    let all : Q (outcome_of w (Site name disks blocks)) =
    Tests.unless_ends Q w refusals (some_below w.sites (λ k. bytes_eq (w.nodes k).name name)) (Exists name) room
    (λ _. Tests.unless_ends Q w refusals (leb MOST_SITES w.sites) (Limit Sites MOST_SITES) fits
    (λ _. Tests.unless_ends Q w refusals (ltb MOST_DISKS disks) (Limit Disks MOST_DISKS) sized
    (λ _. Tests.unless_ends Q w refusals (eqb disks 0 || ltb blocks LEAST_BLOCKS) Size o (λ _. (fit_site_made d name disks blocks fit, λ p. refl))))) in
    fit_counted (record d { world = (outcome_of w (Site name disks blocks)).world }) (λ i. w.headers i + 0)
    (λ p _. none_more (w.headers p) 0 refl ∙ sym (all.1 p)) all.0

-- a further link
new_plain : (place : ℕ) (sync : SyncMode) (prot : Prot) (n : Node) → prot ≡ FailsWhenFull → IsPlain (new_link place sync prot n)
new_plain place sync prot n fails = record { prot = fails; mode = refl; bunker = refl; trimmed = refl; map = λ volume region. refl }

fit_link_made : (d : Doubted) (p s : ℕ) (sync : SyncMode) (prot : Prot) → prot ≡ FailsWhenFull → s < d.world.sites → (s ≡ p → ⊥) → (d.world.nodes p).state ≡ Up → is_origin (d.world.nodes p).role ≡ true
    → is_linked (d.world.links p s) ≡ false → LinksFit d
    → LinksFit (record d { world = with_link d.world p s (new_link (count_links_of d.world p) sync prot (d.world.nodes s)) })
fit_link_made d p s sync prot fails below other up keeps free fit = record {
  rows = all_updated (λ (q : ℕ) (row : ℕ → LinkOf). RowFits q d.world.sites row) d.world.links p (updated (d.world.links p) s l)
      (record {
        places = places_made d.world.sites (d.world.links p) s l below free refl (fit.rows p).places;
        apart = all_updated (λ (k : ℕ) (m : LinkOf). is_linked m ≡ true → k ≡ p → ⊥) (d.world.links p) s l (λ _. other) (λ k _. (fit.rows p).apart k);
        plain = all_updated (λ (k : ℕ) (m : LinkOf). is_linked m ≡ true → IsPlain m) (d.world.links p) s l (λ _. new_plain (count_links_of d.world p) sync prot (d.world.nodes s) fails)
            (λ k _. (fit.rows p).plain k);
        none = all_updated (λ (k : ℕ) (m : LinkOf). is_linked m ≡ false → m ≡ no_link) (d.world.links p) s l (λ e. let f : true ≡ false = e in absurd (cc)) (λ k _. (fit.rows p).none k);
      }) (λ q _. fit.rows q);
  later = fit.later;
  bare = λ q bare. record {
    links = λ k.
        ap (λ (row : ℕ → LinkOf). is_linked (row k))
        (updated_other d.world.links p q (updated (d.world.links p) s l)
        (λ (same : q ≡ p). let e : (d.world.nodes p).state ≡ Bare = subst (λ (i : ℕ). (d.world.nodes i).state ≡ Bare) same bare in let f : Up ≡ Bare = sym up ∙ e in cc))
        ∙ (fit.bare q bare).links k;
    headers = (fit.bare q bare).headers;
  };
  doubts = λ q a is.
      let f : DoubtFits d.world q a = fit.doubts q a is in
      record { up = f.up; halted = f.halted; up_too = f.up_too; halted_too = f.halted_too; row = f.row; starts = f.starts; quiet = f.quiet };
  starts = all_updated (λ (q : ℕ) (row : ℕ → LinkOf). StartsAt (d.world.nodes q) row) d.world.links p (updated (d.world.links p) s l) (λ _ _. keeps) (λ q _. fit.starts q);
  quiet = fit.quiet;
  rests = fit.rests;
}
  where
    l : LinkOf
    l = new_link (count_links_of d.world p) sync prot (d.world.nodes s)

-- writes arise at a primary, which does not follow itself
follows_keeps : (w : World) (p s : ℕ) → (is_primary (w.nodes p).role && follows w p s) ≡ true → is_origin (w.nodes p).role ≡ true
follows_keeps w p s e = primary_leads (w.nodes p).role (and_left (is_primary (w.nodes p).role) (follows w p s) e)

follows_other : (w : World) (p s : ℕ) → (is_primary (w.nodes p).role && follows w p s) ≡ true → s ≡ p → ⊥
follows_other w p s e same =
    let led = first (is_primary (w.nodes p).role) (follows w p s) e in
    let not_origin : not (is_origin (w.nodes s).role) ≡ true = first (not (is_origin (w.nodes s).role)) _ (second (is_primary (w.nodes p).role) (follows w p s) e) in
    never (w.nodes p).role led (subst (λ (k : ℕ). not (is_origin (w.nodes k).role) ≡ true) same not_origin)
  where
    first : (a b : Bool) → (a && b) ≡ true → a ≡ true
    first true b e = refl
    first false b e = absurd (cc)

    second : (a b : Bool) → (a && b) ≡ true → b ≡ true
    second true b e = e
    second false b e = absurd (cc)

    never : (r : Role) → is_primary r ≡ true → not (is_origin r) ≡ true → ⊥
    never Primary a b = cc
    never Secondary a b = cc
    never (Handing to) a b = cc
    never Bunker a b = cc

fit_made : (d : Doubted) (p s : ℕ) (sync : SyncMode) (prot : Prot) → prot ≡ FailsWhenFull → LinksFit d → LinksFit (record d { world = (step d.world (Link p s sync prot Made)).world })
fit_made d p s sync prot fails fit =
    let w : World = d.world in
    let e : Event = Link p s sync prot Made in
    let o : Outcome = done (with_link w p s (new_link (count_links_of w p) sync prot (w.nodes s))) in
    let free : Outcome = unless (is_linked (w.links p s)) (Exists (w.nodes s).name) w o in
    let part : Outcome = link_part Made w p s sync prot in
    let Q : Outcome → Type 0 = λ (r : Outcome).
    (LinksFit (record d { world = r.world })) × ((i : ℕ) → r.world.headers i ≡ w.headers i) × ((i : ℕ) → r.world.nodes i ≡ w.nodes i) in
    let refusals : (why : No) → Q (refused w why) = λ why. (fit, λ i. refl, λ i. refl) in
    let all : Q (outcome_of w e) =
    Tests.site_ends Q w refusals p (at_site w s (both_at_work w p s part))
    (λ _. Tests.site_ends Q w refusals s (both_at_work w p s part)
    (λ below. Tests.both_ends Q w refusals p s part
    (λ up _ _ _. Tests.unless_ends Q w refusals (not (is_primary (w.nodes p).role && follows w p s)) WrongRole free
    (λ led. Tests.unless_ends Q w refusals (is_linked (w.links p s)) (Exists (w.nodes s).name) o
    (λ none.
    let leads : (is_primary (w.nodes p).role && follows w p s) ≡ true = not-false (is_primary (w.nodes p).role && follows w p s) led in
    (fit_link_made d p s sync prot fails below (follows_other w p s leads) up (follows_keeps w p s leads) none fit, λ i. refl, λ i. refl)))))) in
    fit_counted (record d { world = (outcome_of w e).world }) (λ i. w.headers i + headers_by e w (outcome_of w e) i)
    (λ i bare. none_more (w.headers i) (headers_by e w (outcome_of w e) i) (bare_none w i (subst (λ (n : Node). n.state ≡ Bare) (all.2 i) bare) e) ∙ sym (all.1 i)) all.0

-- crashes
pub crash_headers : (w : World) (s k p : ℕ) → (crash_at w s k).headers p ≡ w.headers p
crash_headers w s k p = by_test (λ (v : World). v.headers p ≡ w.headers p) (is_origin (w.nodes s).role) (crash_left w s k) (with_node w s (crashed (w.nodes s) k)) (λ _. refl) (λ _. refl)

pub fit_crashed : (r : Doubted) (s k : ℕ) → r.after s ≡ None → (r.world.nodes s).state ≡ Up → LinksFit r → LinksFit (record r { world = crash_at r.world s k })
fit_crashed r s k sure up fit =
    fit_moves r (record r { world = crash_at r.world s k }) (crash_moves r.world s k up) (λ p _. crash_headers r.world s k p)
    (λ p a is. (is, λ (same : p ≡ s). never_some (sym sure ∙ subst (λ (i : ℕ). r.after i ≡ Some a) same is))) fit

fit_crash : (r : Doubted) (s kept : ℕ) → r.after s ≡ None → LinksFit r → LinksFit (record r { world = (step r.world (Crash s kept)).world })
fit_crash r s kept sure fit =
    let w : World = r.world in
    let o : Outcome = done (crash_at w s (kept_of (w.nodes s) kept)) in
    let Q : Outcome → Type 0 = λ (x : Outcome). (LinksFit (record r { world = x.world })) × ((p : ℕ) → x.world.headers p ≡ w.headers p) in
    let refusals : (why : No) → Q (refused w why) = λ why. (fit, λ p. refl) in
    let all : Q (outcome_of w (Crash s kept)) =
    Tests.site_ends Q w refusals s (unless (not (is_up (w.nodes s).state)) NotUp w o)
    (λ _. Tests.unless_ends Q w refusals (not (is_up (w.nodes s).state)) NotUp o
    (λ u. (
      fit_crashed r s (kept_of (w.nodes s) kept) sure (up_is (w.nodes s).state (not-false (is_up (w.nodes s).state) u)) fit,
      λ p. crash_headers w s (kept_of (w.nodes s) kept) p,
    ))) in
    fit_counted (record r { world = (outcome_of w (Crash s kept)).world }) (λ i. w.headers i + 0) (λ p _. none_more (w.headers p) 0 refl ∙ sym (all.1 p)) all.0

-- a site that is deported runs, so that it is in no doubt
fit_deported : (d : Doubted) (s : ℕ) → (d.world.nodes s).state ≡ Up → (d.world.nodes s).halted ≡ None → LinksFit d → LinksFit (record d { world = deport_at d.world s })
fit_deported d s up runs fit =
    let k : ℕ = kept_of (d.world.nodes s) 0 in
    let mid : Doubted = record d { world = crash_at d.world s k } in
    fit_moves mid (record d { world = deport_at d.world s }) (deported_moves All mid.world s (d.world.nodes s).fuse (crash_state d.world s k)) (λ p _. refl) (λ p a is. (is, tt))
    (fit_crashed d s k (sure (d.after s) refl) up fit)
  where
    sure : (o : Option After) → d.after s ≡ o → d.after s ≡ None
    sure None is = is
    sure (Some a) is = let e : true ≡ false = sym (ap is_running runs) ∙ (fit.doubts s a is).halted in absurd (cc)

fit_deport : (d : Doubted) (s : ℕ) → LinksFit d → LinksFit (record d { world = (step d.world (Deport s)).world })
fit_deport d s fit =
    let w : World = d.world in
    let o : Outcome = done (deport_at w s) in
    let Q : Outcome → Type 0 = λ (x : Outcome). (LinksFit (record d { world = x.world })) × ((p : ℕ) → x.world.headers p ≡ w.headers p) in
    let refusals : (why : No) → Q (refused w why) = λ why. (fit, λ p. refl) in
    let all : Q (outcome_of w (Deport s)) =
    Tests.site_ends Q w refusals s (at_work w s o)
    (λ _. Tests.work_ends Q w refusals s o (λ up runs. (fit_deported d s up runs fit, λ p. crash_headers w s (kept_of (w.nodes s) 0) p))) in
    fit_counted (record d { world = (outcome_of w (Deport s)).world }) (λ i. w.headers i + 0) (λ p _. none_more (w.headers p) 0 refl ∙ sym (all.1 p)) all.0

-- whatever happens
pub fit_happened : (d : Doubted) (e : Event) (taken : Bool) → SetsFail e → LinksFit d → LinksFit (happened d e taken)
fit_happened d (Site name disks blocks) taken sets fit = fit_site d name disks blocks fit
fit_happened d (Raw s) taken sets fit = fit_settled d (Raw s) tt fit
fit_happened d (Group s) taken sets fit = fit_settled d (Group s) tt fit
fit_happened d (Volumes s log xs) taken sets fit = fit_settled d (Volumes s log xs) tt fit
fit_happened d (Write s volume start bytes fails) taken sets fit = fit_settled d (Write s volume start bytes fails) tt fit
fit_happened d (Read s volume start count) taken sets fit = fit_settled d (Read s volume start count) tt fit
fit_happened d (Apply s count reached) taken sets fit = fit_settled d (Apply s count reached) tt fit
fit_happened d (Pump p s) taken sets fit = fit_settled d (Pump p s) tt fit
fit_happened d (Tick p s) taken sets fit = fit_settled d (Tick p s) tt fit
fit_happened d (Deliver number) taken sets fit = fit_settled d (Deliver number) tt fit
fit_happened d (Connect p s) taken sets fit = fit_settled d (Connect p s) tt fit
fit_happened d (Cut p s) taken sets fit = fit_settled d (Cut p s) tt fit
fit_happened d (Pause p s) taken sets fit = fit_settled d (Pause p s) tt fit
fit_happened d (Resume p s) taken sets fit = fit_settled d (Resume p s) tt fit
fit_happened d (Wait p number) taken sets fit = fit_settled d (Wait p number) tt fit
fit_happened d (Link p s sync prot Joins) taken sets fit = fit_settled d (Link p s sync prot Joins) tt fit
fit_happened d (Link p s sync prot Made) taken sets fit = fit_made d p s sync prot sets fit
fit_happened d (Link p s sync prot Marked) taken sets fit = fit_settled d (Link p s sync prot Marked) tt fit
fit_happened d (Link p s sync prot Opened) taken sets fit = fit_settled d (Link p s sync prot Opened) tt fit
fit_happened d (Set p s sync prot) taken sets fit = fit_settled d (Set p s sync prot) sets fit
fit_happened d (Attach p s) taken sets fit = fit_settled d (Attach p s) tt fit
fit_happened d (Detach p s) taken sets fit = fit_settled d (Detach p s) tt fit
fit_happened d (Crash s kept) taken sets fit = fit_crash (resolved_at d s taken) s kept (at_place d.after s None) (fit_resolved d s taken fit)
fit_happened d (Deport s) taken sets fit = fit_deport d s fit
fit_happened d (Fall s) taken sets fit = fit_settled d (Fall s) tt fit
fit_happened d (Recover s fails) taken sets fit = fit_settled d (Recover s fails) tt fit
fit_happened d (Fault s disk) taken sets fit = fit_settled d (Fault s disk) tt fit

pub fit_run : (taken : Bool) (d : Doubted) (events : List Event) → AllSetFail events → LinksFit d → LinksFit (run_as taken d events)
fit_run taken d [] sets fit = fit
fit_run taken d (e ∷ es) sets fit = fit_run taken (happened d e taken) es sets.1 (fit_happened d e taken sets.0 fit)

pub fit_runs : (d new : Doubted) (events : List Event) → Runs d events new → AllSetFail events → LinksFit d → LinksFit new
fit_runs d new [] runs sets fit = subst (λ (x : Doubted). LinksFit x) (sym runs) fit
fit_runs d new (e ∷ es) runs sets fit = fit_runs (happened d e runs.0) new es runs.1 sets.1 (fit_happened d e runs.0 sets.0 fit)
