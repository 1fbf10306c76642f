-- The events of a line that recovers a site which is down or goes down first, and how they end.
use Rattle.std.proofs.Common.{◌≡◌, ◌∙◌, ◌<◌, ◌≤◌, ◌++◌, ◌+◌, ℕ, Bool, List, [], ◌∷◌, length, ap, sym, subst, refl, inl, inr}
use Rattle.std.specs.Prelude.{Some, None}
use Rattle.vx_model.specs.declared.limits.TheConstants.{MOST_NUMBER}
use Rattle.vx_model.specs.declared.no.Counted.TheVariants.{Number}
use Rattle.vx_model.specs.declared.no.No.{No}
use Rattle.vx_model.specs.declared.no.No.TheVariants.{Device, Limit}
use Rattle.vx_model.specs.declared.site.SiteState.{SiteState}
use Rattle.vx_model.specs.declared.site.SiteState.TheVariants.{Up, Down}
use Rattle.vx_model.specs.Refusals.{IsNoDevice}
use Rattle.vx_history.specs.Doubts.{Doubted, happened}
use Rattle.vx_history.specs.Refusals.{Outcome}
use Rattle.vx_history.specs.Step.{step}
use Rattle.vx_history.specs.World.{Link, Node, World}
use Rattle.vx_history.specs.declared.event.Event.{Event}
use Rattle.vx_history.specs.declared.event.Event.TheVariants.{Crash as CrashAt, Recover as RecoverAt}
use Rattle.vx_history.specs.declared.event.Said.{Said as EventSaid}
use Rattle.vx_history.specs.declared.event.Said.TheVariants.{Recovered as IsRecovered}
use Rattle.vx_script.specs.declared.line.ScriptLine.{ScriptLine}
use Rattle.vx_script.specs.declared.line.ScriptLine.TheVariants.{Recover}
use Rattle.vx_events.proofs.Steps.{recover_step}
use Rattle.vx_events.specs.Doubts.{run_as}
use Rattle.vx_events.specs.Ends.{AllDone, DiskFails, Ends, FindsLinks, FindsNone, FromDown, FromUp, IsLeft, NoNumber, Recovering, found_linked}
use Rattle.vx_events.specs.Facts.{site_number}
use Rattle.vx_events.specs.Found.{ComesUpAs}
use Rattle.vx_events.specs.LinkViews.{linked_view}
use Rattle.vx_events.specs.Lists.{Choice, crash_count, events_of, recovery_of}
use Rattle.vx_events.specs.Sayings.{RepeatsSaid, Replies}
use Rattle.vx_events.specs.Stamps.{most_stamp_at}
use Rattle.vx_events.specs.declared.said.Said.{Said}
use Rattle.vx_events.specs.declared.said.Said.TheVariants.{Recovered, Refused}
use Rattle.vx_above.specs.OwnDisks.{own_disks}
use Rattle.vx_site_lines.specs.Rises.{RisesFrom, WasDown, WasUp}

-- the events before the recovery, by which the world came to where it begins
record Opening (d h : Doubted) (s : ℕ) (c : Choice) (taken : Bool) (name : List ℕ) : Type 1 where
  before : List Event
  list : events_of d.world (Recover name) c ≡ before ++ RecoverAt s None ∷ []
  runs : run_as taken d before ≡ h
  more : (es : List Event) → run_as taken d (before ++ es) ≡ run_as taken h es
  says : (T : Type 0) (said : Said) → Replies T (Recover name) s taken h (RecoverAt s None ∷ []) said → Replies T (Recover name) s taken d (before ++ RecoverAt s None ∷ []) said

-- its events, by the state of the site
list_by : (d : Doubted) (s : ℕ) (c : Choice) (name : List ℕ) (t : SiteState) → site_number d.world name ≡ s → (d.world.nodes s).state ≡ t
    → events_of d.world (Recover name) c ≡ recovery_of t s (crash_count (d.world.nodes s) c.kept)
list_by d s c name t number is =
    ap (λ (k : ℕ). recovery_of (d.world.nodes k).state k (crash_count (d.world.nodes k) c.kept)) number
    ∙ ap (λ (x : SiteState). recovery_of x s (crash_count (d.world.nodes s) c.kept)) is

opening : (d h : Doubted) (s : ℕ) (c : Choice) (taken : Bool) (name : List ℕ) → site_number d.world name ≡ s → RisesFrom d s c taken h → Opening d h s c taken name
opening d h s c taken name number (WasUp up is) = record {
  before = CrashAt s (crash_count (d.world.nodes s) c.kept) ∷ [];
  list = list_by d s c name Up number up;
  runs = sym is;
  more = λ es. ap (λ (x : Doubted). run_as taken x es) (sym is);
  says = λ T said replies. subst (λ (x : Doubted). Replies T (Recover name) s taken x (RecoverAt s None ∷ []) said) is replies;
}
opening d h s c taken name number (WasDown down not_taken is) = record {
  before = [];
  list = list_by d s c name Down number down;
  runs = sym is;
  more = λ es. ap (λ (x : Doubted). run_as taken x es) (sym is);
  says = λ T said replies. subst (λ (x : Doubted). Replies T (Recover name) s taken x (RecoverAt s None ∷ []) said) is replies;
}

module _ (T : Type 0) (d h : Doubted) (s : ℕ) (c : Choice) (taken : Bool) (name : List ℕ) (number : site_number d.world name ≡ s) (from : RisesFrom d s c taken h) where
  abbrev line : ScriptLine
  line = Recover name

  opens : Opening d h s c taken name
  opens = opening d h s c taken name number from

  recovering : Recovering d s c taken h (h.world.nodes s)
  recovering = by_from from
    where
      by_from : RisesFrom d s c taken h → Recovering d s c taken h (h.world.nodes s)
      by_from (WasUp up is) = FromUp up is refl
      by_from (WasDown down not_taken is) = FromDown down is refl

  -- what the line leaves of these events
  left_by : (es : List Event) → IsLeft s line taken d (run_as taken d (opens.before ++ es)) (own_disks taken s d.world (run_as taken h es))
  left_by es =
      subst (λ (x : Doubted). IsLeft s line taken d x (own_disks taken s d.world (run_as taken h es))) (sym (opens.more es)) (record { world = refl; after = λ i. refl; strayed = refl })

  left_first : IsLeft s line taken d (run_as taken d opens.before) (own_disks taken s d.world h)
  left_first = subst (λ (x : Doubted). IsLeft s line taken d x (own_disks taken s d.world h)) (sym opens.runs) (record { world = refl; after = λ i. refl; strayed = refl })

  -- the site came up
  pub rose_ends : (last : ℕ) (said : Said) → s < h.world.sites → (h.world.nodes s).state ≡ Down → (h.world.nodes s).session < MOST_NUMBER → last ≡ length (h.world.nodes s).log
      → said ≡ Recovered last (linked_view (happened h (RecoverAt s None) taken).world s) → Ends T d line s [] said (own_disks taken s d.world (happened h (RecoverAt s None) taken))
  rose_ends last said below down free last_is says =
      let v : World = (step h.world (RecoverAt s None)).world in
      let said_is : (step h.world (RecoverAt s None)).said ≡ IsRecovered (length (h.world.nodes s).log) = ap (λ (o : Outcome). o.said) (recover_step h.world s None below down free) in
      let repeats : RepeatsSaid v s (step h.world (RecoverAt s None)).said said =
      subst (λ (x : EventSaid). RepeatsSaid v s x said) (sym said_is) (says ∙ ap (λ (k : ℕ). Recovered k (linked_view v s)) last_is) in
      AllDone c taken tt
      (subst (λ (es : List Event). Replies T line s taken d es said) (sym opens.list) (opens.says T said repeats))
      (subst (λ (es : List Event). IsLeft s line taken d (run_as taken d es) (own_disks taken s d.world (happened h (RecoverAt s None) taken))) (sym opens.list) (left_by (RecoverAt s None ∷ [])))

  -- a disk failed, before its next session or behind it
  pub unread_ends : (disk : ℕ) → Ends T d line s ((s, disk) ∷ []) (Refused (Device disk)) (own_disks taken s d.world h)
  unread_ends disk = DiskFails c taken opens.before (RecoverAt s None) [] [] disk opens.list (inl refl) tt refl refl (left_by [])

  pub begun_ends : (disk : ℕ) → Ends T d line s ((s, disk) ∷ []) (Refused (Device disk)) (own_disks taken s d.world (happened h (RecoverAt s (Some disk)) taken))
  begun_ends disk = DiskFails c taken opens.before (RecoverAt s None) [] (RecoverAt s (Some disk) ∷ []) disk opens.list (inr refl) tt refl refl (left_by (RecoverAt s (Some disk) ∷ []))

  -- no number is left for its next session
  pub none_ends : (T → MOST_NUMBER ≤ most_stamp_at h.world s + 2) → Ends T d line s [] (Refused (Limit Number MOST_NUMBER)) (own_disks taken s d.world h)
  none_ends most = NoNumber c taken opens.before (RecoverAt s None) [] opens.list tt
      (λ told. subst (λ (x : Doubted). MOST_NUMBER ≤ most_stamp_at x.world s + 2) (sym opens.runs) (most told)) refl refl left_first

  -- disks that tell nothing came up, or were refused
  pub found_ends : (T → ⊥) → (k : Node) (row : ℕ → Link) (said : Said) → ComesUpAs s h.world.sites (h.world.nodes s) k row → said ≡ Recovered k.safe (linked_view (found_linked h s k row).world s)
      → Ends T d line s [] said (own_disks taken s d.world (found_linked h s k row))
  found_ends never k row said comes says = FindsLinks never c taken name h (h.world.nodes s) k row refl recovering comes tt says (record { world = refl; after = λ i. refl; strayed = refl })

  pub refused_ends : (T → ⊥) → (why : No) → IsNoDevice why → Ends T d line s [] (Refused why) (own_disks taken s d.world h)
  refused_ends never why other = FindsNone never c taken name h (h.world.nodes s) why refl recovering other refl refl (record { world = refl; after = λ i. refl; strayed = refl })
