-- Worlds of which no site is in doubt, and of which no site keeps a link: what a line does in them, by what events do.
use Rattle.std.proofs.Common.{◌≡◌, ◌∙◌, ◌+◌, ◌≤◌, ℕ, suc, Bool, false, List, [], ◌∷◌, length, ap, sym, refl, arith}
use Rattle.std.specs.Prelude.{Option, Some, None, nat_lt, if◌then◌else◌}
use Rattle.std.proofs.lemmas.Bool.Decides.{nat_tests}
use Rattle.vx_model.specs.declared.limits.TheConstants.{MOST_NUMBER}
use Rattle.vx_model.specs.declared.site.SiteState.{SiteState}
use Rattle.vx_model.specs.declared.site.SiteState.TheVariants.{Bare, Up, Deported, Down}
use Rattle.vx_history.proofs.Updates.{all_updated}
use Rattle.vx_history.specs.Doubts.{After, Doubted, crashed_by, happened, resolved_for}
use Rattle.vx_history.specs.Step.{step, run}
use Rattle.vx_history.specs.World.{World}
use Rattle.vx_history.specs.declared.event.Event.{Event}
use Rattle.vx_report.specs.declared.view.LinkView.{LinkView}
use Rattle.vx_report.specs.declared.view.SiteView.{SiteView}
use Rattle.vx_script.specs.declared.line.ScriptLine.{ScriptLine}
use Rattle.vx_events.proofs.Steps.{no_sites}
use Rattle.vx_events.proofs.Straying.{run_strays}
use Rattle.vx_events.specs.Doubts.{sure, doubt_chosen, run_as}
use Rattle.vx_events.specs.Ends.{IsLeft, noted}
use Rattle.vx_events.specs.LinkViews.{link_views, linked_view, views_by}
use Rattle.vx_events.specs.Plain.{IsUnlinked}
use Rattle.vx_events.specs.Sent.{sent_between}
use Rattle.vx_events.specs.Stamps.{most_stamp, most_stamp_at}
use Rattle.vx_events.specs.Views.{view_of}

-- ---- events

-- a crash that takes a site as it is changes nothing before it
resolved_world : (o : Option ℕ) (d : Doubted) → (resolved_for o d false).world ≡ d.world
resolved_world None d = refl
resolved_world (Some s) d = refl

pub chosen_world : (d : Doubted) (e : Event) → (doubt_chosen false d e).world ≡ d.world
chosen_world d e = resolved_world (crashed_by e) d

pub run_world : (d : Doubted) (es : List Event) → (run_as false d es).world ≡ run d.world es
run_world d [] = refl
run_world d (e ∷ es) = run_world (happened d e false) es ∙ ap (λ (v : World). run (step v e).world es) (chosen_world d e)

resolved_calm : (o : Option ℕ) (d : Doubted) → ((i : ℕ) → d.after i ≡ None) → (i : ℕ) → (resolved_for o d false).after i ≡ None
resolved_calm None d calm i = calm i
resolved_calm (Some s) d calm i = all_updated (λ _ (a : Option After). a ≡ None) d.after s None refl (λ k _. calm k) i

-- no event that is done brings a site into doubt
pub run_calm : (d : Doubted) (es : List Event) → ((i : ℕ) → d.after i ≡ None) → (i : ℕ) → (run_as false d es).after i ≡ None
run_calm d [] calm i = calm i
run_calm d (e ∷ es) calm i = run_calm (happened d e false) es (resolved_calm (crashed_by e) d calm) i

-- what a line leaves, by the world to which its events came
pub left_sure : (s : ℕ) (line : ScriptLine) (w : World) (es : List Event) (new : World) → new ≡ noted s line (run w es)
    → IsLeft s line false (sure w) (run_as false (sure w) es) (sure new)
left_sure s line w es new is = record {
  world = is ∙ ap (λ (v : World). noted s line v) (sym (run_world (sure w) es));
  after = λ i. sym (run_calm (sure w) es (λ _. refl) i);
  strayed = sym (run_strays false (sure w) es);
}

-- ---- what is said

nothing_shown : (state : SiteState) → views_by state [] ≡ []
nothing_shown Bare = refl
nothing_shown Up = refl
nothing_shown Deported = refl
nothing_shown Down = refl

-- a status shows no links
pub view_unlinked : (w : World) (s : ℕ) → IsUnlinked w → linked_view w s ≡ view_of w (w.nodes s)
view_unlinked w s none =
    ap (λ (ls : List LinkView). let v : SiteView = record (view_of w (w.nodes s)) { links = ls } in v)
    (ap (λ (ss : List ℕ). views_by (w.nodes s).state (link_views w s ss)) (no_sites (w.links s) w.sites 0 w.sites (none.none s)) ∙ nothing_shown (w.nodes s).state)

not_more : (n : ℕ) → nat_lt n n ≡ false
not_more n = grind (arith, nat_tests)

-- where no packet came to those that were sent, none is told
pub none_sent : (w new : World) → new.packets ≡ w.packets → sent_between w new ≡ None
none_sent w new same =
    let many : length new.packets ≡ length w.packets = ap (λ ps. length ps) same in
    ap (λ (n : ℕ). if nat_lt (length w.packets) n then Some (suc (length w.packets), n) else None) many
    ∙ ap (λ (b : Bool). if b then Some (suc (length w.packets), length w.packets) else None) (not_more (length w.packets))

-- ---- numbers

-- a log of which headers of links may have taken numbers too has no more of them
pub more_left : (w : World) (s k : ℕ) → MOST_NUMBER ≤ most_stamp (w.nodes s) + k → MOST_NUMBER ≤ most_stamp_at w s + k
more_left w s k least = omega (arith, least)
