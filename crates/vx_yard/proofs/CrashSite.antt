-- A site that crashes, which may be in doubt.
use Rattle.std.proofs.Common.{◌≡◌, ◌∙◌, ◌<◌, ◌≤◌, ℕ, Bool, true, false, List, [], ◌∷◌, length, ap, sym, subst, refl, arith, ⊎_elim}
use Rattle.std.specs.Prelude.{Option, Some, None, slice_get, slice_set}
use Rattle.vx_history.proofs.Updates.{at_place}
use Rattle.vx_history.specs.Doubts.{After, Doubted, happened, resolved_at, taken_up}
use Rattle.vx_history.specs.Events.{kept_of, link_left}
use Rattle.vx_history.specs.Groups.{GroupNode}
use Rattle.vx_history.specs.Refusals.{Outcome}
use Rattle.vx_history.specs.Step.{step}
use Rattle.vx_history.specs.Steps.{crashed}
use Rattle.vx_history.specs.World.{Link, Node, World}
use Rattle.vx_history.specs.declared.event.Event.TheVariants.{Crash as CrashAt}
use Rattle.vx_history.specs.declared.event.Said.TheVariants.{Done as IsDone}
use Rattle.vx_model.specs.declared.site.SiteState.TheVariants.{Down as IsDown, Up}
use Rattle.vx_model.specs.declared.limits.TheConstants.{MOST_SITES}
use Rattle.vx_model.specs.declared.state.KeptLink.{KeptLink}
use Rattle.vx_disk.specs.declared.shelf.Shelf.{Ghosts}
use Rattle.vx_order.specs.declared.facts.SiteFacts.{SiteFacts}
use Rattle.vx_script.specs.declared.line.ScriptLine.TheVariants.{Crash}
use Rattle.vx_diskset.specs.Asked.{FailsAs, FusedAs, SameFailing}
use Rattle.vx_diskset.specs.DiskSets.{CrashedAt, CrashedTo}
use Rattle.vx_diskset.specs.Holds.{KeptBeside, KeptSite, beside_of, doubt_of, itself, row_links, sure_of}
use Rattle.vx_diskset.specs.Noted.{FellAs, NotedOver}
use Rattle.vx_diskset.specs.Stands.{SiteStands}
use Rattle.vx_diskset.specs.declared.disk_set.DiskSet.{DiskSet}
use Rattle.vx_diskset.proofs.FailSets.{stands_failing}
use Rattle.vx_diskset.specs.DiskSets.{fell_to}
use Rattle.vx_effects.proofs.Effects.{changes_same, changes_then, left_effect, resolved_changes}
use Rattle.vx_effects.proofs.Fitting.{fit_happened}
use Rattle.vx_effects.proofs.Leaving.{fit_disks}
use Rattle.vx_effects.proofs.Rows.{left_kept}
use Rattle.vx_events.proofs.Places.{never_some, some_same}
use Rattle.vx_events.proofs.Steps.{crash_step, kept_is}
use Rattle.vx_events.specs.Doubts.{doubt_chosen, run_as, with_disks}
use Rattle.vx_events.proofs.Refused.{crash_may}
use Rattle.vx_yard.specs.OfSites.{OfSite}
use Rattle.vx_diskset.specs.Asked.{CrashesBy}
use Rattle.vx_yard.specs.Working.{IsFree}
use Rattle.vx_yard.specs.Yards.{IsTold, in_files}
use Rattle.vx_yard.proofs.CrashLine.{rose_still}
use Rattle.vx_yard.proofs.NamedSite.{fact_of, fact_placed, place_at}
use Rattle.vx_yard.proofs.SiteEvents.{keeps_k}
use Rattle.vx_events.specs.Effects.{ChangesNode, EffectAt}
use Rattle.vx_events.specs.Ends.{AllDone, Ends, IsLeft}
use Rattle.vx_events.specs.Facts.{seat_of, site_number}
use Rattle.vx_events.proofs.OverSeats.{over_reads}
use Rattle.vx_events.specs.GroupLines.{is_over_group}
use Rattle.vx_events.specs.StepsOver.{fact_over}
use Rattle.vx_grouped.specs.GroupSites.{HasNoRvg}
use Rattle.vx_model.specs.Content.{Write}
use Rattle.vx_events.specs.Sayings.{RepeatsSaid, Replies}
use Rattle.vx_events.specs.declared.said.Said.TheVariants.{Done}
use Rattle.vx_history.specs.declared.event.Event.{Event}
use Rattle.vx_history.specs.declared.event.Said.{Said as EventSaid}
use Rattle.vx_events.specs.LinksFit.{LinksFit}
use Rattle.vx_events.specs.Lists.{crash_count, kept_while}
use Rattle.vx_effects.specs.Facts.{down_fact}
use Rattle.vx_yard.specs.Standing.{Falls, Leads, StandsFor, crash_of, BeginsFirst}
use Rattle.vx_yard.specs.declared.yard.Yard.{Yard}
use Rattle.vx_yard.proofs.Alike.{apart_place}
use Rattle.vx_yard.proofs.FailsStay.{fails_then}
use Rattle.vx_yard.proofs.FuseStays.{fused_none}
use Rattle.vx_yard.proofs.OneSite.{Changed, Comes, role_off, stands_at, told_by}
use Rattle.vx_yard.proofs.Carrying.{LetsGo, carries_let}
use Rattle.vx_yard.proofs.OverGroup.{doubt_apart, over_none}
use Rattle.vx_yard.proofs.Rows.{down_over, over_same, row_links_same}
use Rattle.vx_yard.proofs.FirstSites.{begins_like, never_bare}

-- the node that it leaves
abbrev pub crashed_node : (n m : Node) → (count : ℕ) → Node
crashed_node n m count = record (crashed m count) { failing = n.failing; group = n.group }

-- it stays on its line, and in its session
pub begins_fell : (site : ℕ) (n m : Node) (count : ℕ) → m.state ≡ Up → BeginsFirst site m → BeginsFirst site (crashed_node n m count)
begins_fell site n m count up was = begins_like site m (crashed_node n m count) (λ is. never_bare m up is) refl refl refl refl was

-- which of its disks are made to fail, and the group that they are
abbrev pub disk_notes : Node → (ℕ → Bool) × Option GroupNode
disk_notes n = (n.failing, n.group)

changes_disks : (b : Bool) (s : ℕ) (w : World) (h : Doubted) → ChangesNode s h (record h { world = with_disks b s w h.world })
changes_disks false s w h = changes_same s h
changes_disks true s w h = record {
  sites = refl;
  nodes = λ i apart. apart_place h.world.nodes s (record (h.world.nodes s) { failing = (w.nodes s).failing; group = (w.nodes s).group }) i apart;
  links = λ i k apart. refl;
  headers = λ i apart. refl;
  after = λ i apart. refl;
  strayed = λ calm. calm;
  gathering = λ i apart. refl;
}

same_links : (b : Bool) (s : ℕ) (w v : World) (k : ℕ) → (with_disks b s w v).links s k ≡ v.links s k
same_links false s w v k = refl
same_links true s w v k = refl

same_headers : (b : Bool) (s : ℕ) (w v : World) → (with_disks b s w v).headers s ≡ v.headers s
same_headers false s w v = refl
same_headers true s w v = refl

same_packets : (b : Bool) (s : ℕ) (w v : World) → (with_disks b s w v).packets ≡ v.packets
same_packets false s w v = refl
same_packets true s w v = refl

same_gathering : (b : Bool) (s : ℕ) (w v : World) → (with_disks b s w v).gathering s ≡ v.gathering s
same_gathering false s w v = refl
same_gathering true s w v = refl

pub down_up : IsDown ≡ Up → ⊥
down_up e = cc

-- the node, by what it was before
disks_node : (b : Bool) (s : ℕ) (w v : World) (n : Node) → v.nodes s ≡ n → (b ≡ false → disk_notes n ≡ disk_notes (w.nodes s))
    → (with_disks b s w v).nodes s ≡ record n { failing = (w.nodes s).failing; group = (w.nodes s).group }
disks_node false s w v n is same = is ∙ ap (λ (p : (ℕ → Bool) × Option GroupNode). let k : Node = record n { failing = p.0; group = p.1 } in k) (same refl)
disks_node true s w v n is same =
    at_place v.nodes s (record (v.nodes s) { failing = (w.nodes s).failing; group = (w.nodes s).group })
    ∙ ap (λ (k : Node). let x : Node = record k { failing = (w.nodes s).failing; group = (w.nodes s).group } in x) is

-- a site that is not in doubt
pub beside_sure : (e : Doubted) (s : ℕ) (ls : List KeptLink) (many : ℕ) → row_links (e.world.links s) e.world.sites ≡ ls → e.world.headers s ≡ many → e.after s ≡ None
    → beside_of e s ≡ record { links = ls; headers = many; doubt = None }
beside_sure e s ls many links headers sure =
    ap (λ (x : List KeptLink). let b : KeptBeside = record { links = x; headers = e.world.headers s; doubt = doubt_of e.world s (e.after s) } in b) links
    ∙ ap (λ (k : ℕ). let b : KeptBeside = record { links = ls; headers = k; doubt = doubt_of e.world s (e.after s) } in b) headers
    ∙ ap (λ (o : Option After). let b : KeptBeside = record { links = ls; headers = many; doubt = doubt_of e.world s o } in b) sure

-- a site that is one of the two that it may be
module _ (d : Doubted) (s count : ℕ) (taken : Bool) (m : Node) (row : ℕ → Link) (node_is : (resolved_at d s taken).world.nodes s ≡ m) (row_is : (k : ℕ) → (resolved_at d s taken).world.links s k ≡ row k)
    (own : taken ≡ false → disk_notes m ≡ disk_notes (d.world.nodes s)) (below : s < d.world.sites) (up : m.state ≡ Up) (least : m.safe ≤ count) (most : count ≤ length m.log) where
  abbrev r : Doubted
  r = resolved_at d s taken

  abbrev h : Doubted
  h = happened d (CrashAt s count) taken

  abbrev e : Doubted
  e = crash_of d s count taken

  below_r : s < r.world.sites
  below_r = let same = (resolved_changes d s taken).site.sites in omega (arith, below, same)

  up_r : (r.world.nodes s).state ≡ Up
  up_r = ap (λ (k : Node). k.state) node_is ∙ up

  eff : EffectAt s d h (crashed (r.world.nodes s) (kept_of (r.world.nodes s) count)) (λ k. link_left (r.world.nodes s) (kept_of (r.world.nodes s) count) (r.world.links s k)) (d.world.headers s) None d.world.packets None
  eff = left_effect d s count taken below_r up_r

  pub crash_changes : ChangesNode s d e
  crash_changes = changes_then s d h e eff.site (changes_disks taken s d.world h)

  pub crash_node : e.world.nodes s ≡ crashed_node (d.world.nodes s) m count
  crash_node =
      disks_node taken s d.world h.world (crashed m count)
      (eff.is.node ∙ ap (λ (k : Node). crashed k (kept_of k count)) node_is ∙ ap (λ (j : ℕ). crashed m j) (kept_is m count least most)) own

  pub crash_sent : e.world.packets ≡ d.world.packets
  crash_sent = same_packets taken s d.world h.world ∙ eff.sent

  pub crash_gathering : e.world.gathering s ≡ None
  crash_gathering = same_gathering taken s d.world h.world ∙ eff.gathering

  pub crash_down : (e.world.nodes s).state ≡ Up → ⊥
  crash_down is_up = down_up (sym (ap (λ (k : Node). k.state) crash_node) ∙ is_up)

  pub crash_beside : beside_of e s ≡ record { links = row_links row d.world.sites; headers = d.world.headers s; doubt = None }
  crash_beside =
      let left : Link → Link = link_left (r.world.nodes s) (kept_of (r.world.nodes s) count) in
      beside_sure e s (row_links row d.world.sites) (d.world.headers s)
      (row_links_same (λ k. left (row k)) (e.world.links s) (λ k. same_links taken s d.world h.world k ∙ eff.is.links k ∙ ap left (row_is k)) e.world.sites
      ∙ ap (λ (n : ℕ). row_links (λ k. left (row k)) n) crash_changes.sites ∙ left_kept (r.world.nodes s) (kept_of (r.world.nodes s) count) row d.world.sites)
      (same_headers taken s d.world h.world ∙ eff.is.headers) eff.is.after

  pub crash_said : (step (doubt_chosen taken d (CrashAt s count)).world (CrashAt s count)).said ≡ IsDone
  crash_said = ap (λ (o : Outcome). o.said) (crash_step r.world s count below_r up_r)

  pub crash_fits : LinksFit d → LinksFit e
  crash_fits fits = fit_disks taken s d.world h (fit_happened d (CrashAt s count) taken tt fits)

  -- what the tests see of it
  pub crash_fact : m.name ≡ (d.world.nodes s).name → m.disks ≡ (d.world.nodes s).disks → m.blocks ≡ (d.world.nodes s).blocks → m.volumes ≡ (d.world.nodes s).volumes
      → down_fact (fact_over d.world s) ≡ fact_over e.world s
  crash_fact name disks blocks volumes =
      let n : Node = d.world.nodes s in
      let c : Node = crashed_node n m count in
      down_over n c (d.world.links s) (e.world.links s) d.world.sites e.world.sites (record { name = name; disks = disks; blocks = blocks; volumes = volumes; group = refl; state = refl })
      ∙ sym (over_same c (e.world.nodes s) (e.world.links s) (e.world.links s) e.world.sites e.world.sites crash_node (λ k. refl) refl)

module _ {R : Type 0} {g : Ghosts R} where
  -- the site, whose disks crashed
  pub crash_comes : (d : Doubted) (s count : ℕ) (taken : Bool) (m : Node) (row : ℕ → Link) (node_is : (resolved_at d s taken).world.nodes s ≡ m) (row_is : (k : ℕ) → (resolved_at d s taken).world.links s k ≡ row k)
      (own : taken ≡ false → disk_notes m ≡ disk_notes (d.world.nodes s)) (below : s < d.world.sites) (up : m.state ≡ Up) (least : m.safe ≤ count) (most : count ≤ length m.log) (before after : DiskSet R g)
      → LinksFit d → FailsAs (d.world.nodes s) before → SameFailing before after
      → SiteStands (record { links = row_links row d.world.sites; headers = d.world.headers s; doubt = None }) (fell_to (d.world.nodes s) m count) after
      → Comes d (crash_of d s count taken) s after
  crash_comes d s count taken m row node_is row_is own below up least most before after fits fails same stands =
      let e : Doubted = crash_of d s count taken in
      let n : Node = crashed_node (d.world.nodes s) m count in
      let here : n ≡ e.world.nodes s = sym (crash_node d s count taken m row node_is row_is own below up least most) in
      let there : beside_of e s ≡ record { links = row_links row d.world.sites; headers = d.world.headers s; doubt = None } =
      crash_beside d s count taken m row node_is row_is own below up least most in
      record {
        changes = crash_changes d s count taken m row node_is row_is own below up least most;
        links = crash_fits d s count taken m row node_is row_is own below up least most fits;
        stands = subst (λ (k : Node). SiteStands (beside_of e s) k after) here
            (subst (λ (b : KeptBeside). SiteStands b n after) (sym there) (stands_failing (record { links = row_links row d.world.sites; headers = d.world.headers s; doubt = None }) (fell_to (d.world.nodes s) m count) (d.world.nodes s).failing after stands));
        failing = subst (λ (k : Node). FailsAs k after) here (fails_then (d.world.nodes s) n before after refl same fails);
        fuse = subst (λ (k : Node). FusedAs k after) here (fused_none n after refl);
        role = role_off (record { links = row_links row d.world.sites; headers = d.world.headers s; doubt = None }) (fell_to (d.world.nodes s) m count) (e.world.nodes s) after stands (λ is_up. down_up is_up);
        doubt = λ was a is. absurd (never_some (sym (eff d s count taken m row node_is row_is own below up least most).is.after ∙ is));
      }

  -- the same of a yard
  pub falls : (d : Doubted) (old new : Yard R g) (s : ℕ) (f f' : SiteFacts) (before after : DiskSet R g) → StandsFor d old → s < d.world.sites → (d.world.nodes s).state ≡ Up → slice_get old.facts.items s ≡ Some f
      → Changed old new s before after → CrashedAt (beside_of d s) (d.world.nodes s) after → ((d.world.nodes s).halted ≡ None → CrashedTo (beside_of d s) (d.world.nodes s) (d.world.nodes s).safe after) → SameFailing before after → ((m : Node) → FellAs (d.world.nodes s) m → NotedOver (d.world.nodes s) before → NotedOver m after)
      → f' ≡ down_fact f → new.facts.items ≡ slice_set old.facts.items s f' → LetsGo old new s → Falls d s old new
  falls d old new s f f' before after stands below up at changed fell durable same noted is facts lets = by_halt (d.world.nodes s).halted refl
    where
      n : Node
      n = d.world.nodes s

      was : down_fact f ≡ down_fact (fact_over d.world s)
      was = ap down_fact (some_same (sym at ∙ fact_of d old s stands below))

      never : true ≡ false → ⊥
      never e = cc

      small : s < MOST_SITES
      small = omega (arith, below, stands.disk_sets.few)

      no_rvg : is_over_group n ≡ true → HasNoRvg n
      no_rvg over = over_none (beside_of d s) n before (stands.disk_sets.sites s before below changed.there) over

      itself_by : (k : KeptSite) → k ≡ itself (beside_of d s) n → (count : ℕ) → crash_count (d.world.nodes s) count ≡ count → k.node.safe ≤ count → count ≤ length k.node.log → SiteStands (sure_of k) (fell_to n k.node count) after → Falls d s old new
      itself_by k own =
          subst (λ (x : KeptSite). (count : ℕ) → crash_count (d.world.nodes s) count ≡ count → x.node.safe ≤ count → count ≤ length x.node.log → SiteStands (sure_of x) (fell_to n x.node count) after → Falls d s old new) (sym own)
          (λ count keeps least most here. record {
            count = count;
            taken = false;
            keeps = keeps;
            said = crash_said d s count false n (d.world.links s) refl (λ j. refl) (λ _. refl) below up least most;
            down = ap (λ (x : Node). x.state) (crash_node d s count false n (d.world.links s) refl (λ j. refl) (λ _. refl) below up least most);
            disks = ap (λ (x : Node). x.disks) (crash_node d s count false n (d.world.links s) refl (λ j. refl) (λ _. refl) below up least most);
            blocks = ap (λ (x : Node). x.blocks) (crash_node d s count false n (d.world.links s) refl (λ j. refl) (λ _. refl) below up least most);
            sites = (crash_changes d s count false n (d.world.links s) refl (λ j. refl) (λ _. refl) below up least most).sites;
            plain = λ over. (omega (arith, most, ap (λ (xs : List Write). length xs) (no_rvg over).log), refl);
            group = ap (λ (x : Node). x.group) (crash_node d s count false n (d.world.links s) refl (λ j. refl) (λ _. refl) below up least most);
            volumes = ap (λ (x : Node). x.volumes) (crash_node d s count false n (d.world.links s) refl (λ j. refl) (λ _. refl) below up least most);
            fuse = ap (λ (x : Node). x.fuse) (crash_node d s count false n (d.world.links s) refl (λ j. refl) (λ _. refl) below up least most);
            carries = carries_let s d (crash_of d s count false) old new lets small (crash_changes d s count false n (d.world.links s) refl (λ j. refl) (λ _. refl) below up least most)
                (crash_sent d s count false n (d.world.links s) refl (λ j. refl) (λ _. refl) below up least most) (crash_gathering d s count false n (d.world.links s) refl (λ j. refl) (λ _. refl) below up least most)
                (crash_down d s count false n (d.world.links s) refl (λ j. refl) (λ _. refl) below up least most) (told_by old new s before after changed);
            stands = stands_at d (crash_of d s count false) old new s f' before after stands below changed
                (crash_comes d s count false n (d.world.links s) refl (λ j. refl) (λ _. refl) below up least most before after stands.links (stands.failing s before below changed.there) same here)
                (λ first. subst (λ (x : Node). BeginsFirst s x) (sym (crash_node d s count false n (d.world.links s) refl (λ j. refl) (λ _. refl) below up least most)) (begins_fell s n n count up first))
                (λ was. subst (λ (x : Node). NotedOver x after) (sym (crash_node d s count false n (d.world.links s) refl (λ j. refl) (λ _. refl) below up least most))
                (noted (crashed_node n n count) (record { name = refl; disks = refl; blocks = refl; volumes = refl; group = refl; state = refl; fuse = refl }) was))
                (is ∙ was ∙ crash_fact d s count false n (d.world.links s) refl (λ j. refl) (λ _. refl) below up least most refl refl refl refl) facts;
            rose = rose_still old new s before after changed.there changed.later changed.disk_sets;
          })

      doubt_by : (o : Option After) → d.after s ≡ o → (k : KeptSite) → doubt_of d.world s (d.after s) ≡ Some k → (count : ℕ) → crash_count (d.world.nodes s) count ≡ count → k.node.safe ≤ count → count ≤ length k.node.log → SiteStands (sure_of k) (fell_to n k.node count) after → Falls d s old new
      doubt_by None none k other = absurd (never_some (sym (ap (λ (o : Option After). doubt_of d.world s o) none) ∙ other))
      doubt_by (Some a) some k other =
          let kept : (let x : KeptSite = record { node = a.node; links = row_links a.row d.world.sites; headers = d.world.headers s } in x) ≡ k =
          some_same (sym (ap (λ (o : Option After). doubt_of d.world s o) some) ∙ other) in
          let fits = stands.links.doubts s a some in
          let same_site = stands.doubts s a some in
          let node_is : (resolved_at d s true).world.nodes s ≡ a.node = ap (λ (o : Option After). (taken_up d.world s o).nodes s) some ∙ at_place d.world.nodes s a.node in
          let row_is : (j : ℕ) → (resolved_at d s true).world.links s j ≡ a.row j =
          λ j. ap (λ (o : Option After). (taken_up d.world s o).links s j) some ∙ ap (λ (r : ℕ → Link). r j) (at_place d.world.links s a.row) in
          subst (λ (x : KeptSite). (count : ℕ) → crash_count (d.world.nodes s) count ≡ count → x.node.safe ≤ count → count ≤ length x.node.log → SiteStands (sure_of x) (fell_to n x.node count) after → Falls d s old new) kept
          (λ count keeps least most here. record {
            count = count;
            taken = true;
            keeps = keeps;
            said = crash_said d s count true a.node a.row node_is row_is (λ e. absurd (never e)) below fits.up_too least most;
            down = ap (λ (x : Node). x.state) (crash_node d s count true a.node a.row node_is row_is (λ e. absurd (never e)) below fits.up_too least most);
            disks = ap (λ (x : Node). x.disks) (crash_node d s count true a.node a.row node_is row_is (λ e. absurd (never e)) below fits.up_too least most) ∙ same_site.disks;
            blocks = ap (λ (x : Node). x.blocks) (crash_node d s count true a.node a.row node_is row_is (λ e. absurd (never e)) below fits.up_too least most) ∙ same_site.blocks;
            sites = (crash_changes d s count true a.node a.row node_is row_is (λ e. absurd (never e)) below fits.up_too least most).sites;
            plain = λ over. absurd (doubt_apart (beside_of d s) n before k (stands.disk_sets.sites s before below changed.there) up other (no_rvg over).volumes);
            group = ap (λ (x : Node). x.group) (crash_node d s count true a.node a.row node_is row_is (λ e. absurd (never e)) below fits.up_too least most);
            volumes = ap (λ (x : Node). x.volumes) (crash_node d s count true a.node a.row node_is row_is (λ e. absurd (never e)) below fits.up_too least most) ∙ same_site.volumes;
            fuse = ap (λ (x : Node). x.fuse) (crash_node d s count true a.node a.row node_is row_is (λ e. absurd (never e)) below fits.up_too least most);
            carries = carries_let s d (crash_of d s count true) old new lets small (crash_changes d s count true a.node a.row node_is row_is (λ e. absurd (never e)) below fits.up_too least most)
                (crash_sent d s count true a.node a.row node_is row_is (λ e. absurd (never e)) below fits.up_too least most)
                (crash_gathering d s count true a.node a.row node_is row_is (λ e. absurd (never e)) below fits.up_too least most)
                (crash_down d s count true a.node a.row node_is row_is (λ e. absurd (never e)) below fits.up_too least most) (told_by old new s before after changed);
            stands = stands_at d (crash_of d s count true) old new s f' before after stands below changed
                (crash_comes d s count true a.node a.row node_is row_is (λ e. absurd (never e)) below fits.up_too least most before after stands.links (stands.failing s before below changed.there) same here)
                (λ _. subst (λ (x : Node). BeginsFirst s x) (sym (crash_node d s count true a.node a.row node_is row_is (λ e. absurd (never e)) below fits.up_too least most))
                (begins_fell s n a.node count fits.up_too
                (λ made none. absurd (doubt_apart (beside_of d s) n before k (stands.disk_sets.sites s before below changed.there) up other (sym same_site.volumes ∙ none)))))
                (λ was. subst (λ (x : Node). NotedOver x after) (sym (crash_node d s count true a.node a.row node_is row_is (λ e. absurd (never e)) below fits.up_too least most))
                (noted (crashed_node n a.node count)
                (record { name = same_site.name; disks = same_site.disks; blocks = same_site.blocks; volumes = same_site.volumes; group = refl; state = refl; fuse = refl }) was))
                (is ∙ was ∙ crash_fact d s count true a.node a.row node_is row_is (λ e. absurd (never e)) below fits.up_too least most same_site.name same_site.disks same_site.blocks same_site.volumes) facts;
            rose = rose_still old new s before after changed.there changed.later changed.disk_sets;
          })

      -- one that ran keeps what is durable
      by_halt : (h : Option ℕ) → (d.world.nodes s).halted ≡ h → Falls d s old new
      by_halt None runs =
          let k = durable runs in
          let whole : (d.world.nodes s).safe ≡ k.count = omega (arith, k.least, k.few) in
          itself_by (itself (beside_of d s) (d.world.nodes s)) refl k.count (ap (λ (o : Option ℕ). kept_while o (d.world.nodes s).safe k.count) runs ∙ whole) k.least k.most k.stands
      by_halt (Some disk) halted =
          let keeps : crash_count (d.world.nodes s) fell.count ≡ fell.count = ap (λ (o : Option ℕ). kept_while o (d.world.nodes s).safe fell.count) halted in
          ⊎_elim (λ own. itself_by fell.kept own fell.count keeps fell.least fell.most fell.stands) (λ other. doubt_by (d.after s) refl fell.kept other fell.count keeps fell.least fell.most fell.stands) fell.is

  -- the site of a line that crashes one is up
  pub crash_up : (d : Doubted) (old : Yard R g) (name : List ℕ) (pick s : ℕ) → StandsFor d old → IsFree old (Crash name pick) → seat_of old.facts.items name ≡ Some s → (d.world.nodes s).state ≡ Up
  crash_up d old name pick s stands free seat =
      let may = crash_may old.facts.items (in_files old) name pick free in
      sym (over_reads d.world s (λ (f : SiteFacts). f.state) (d.world.nodes s).state refl refl)
      ∙ ap (λ (f : SiteFacts). f.state) (sym (fact_placed d old name s (place_at d old name s stands seat) seat may.0)) ∙ may.1

  -- the line ends so, whatever is told
  pub crash_ends : (told : Type 0) (d : Doubted) (name : List ℕ) (pick s : ℕ) (old new : Yard R g) → site_number d.world name ≡ s → (f : Falls d s old new) → Ends told d (Crash name pick) (site_number d.world name) [] Done (crash_of d s f.count f.taken)
  crash_ends told d name pick s old new number f =
      let e : Doubted = crash_of d s f.count f.taken in
      let ev : (let es : List Event = CrashAt (site_number d.world name) (crash_count (d.world.nodes (site_number d.world name)) f.count) ∷ [] in es) ≡ CrashAt s f.count ∷ [] =
      ap (λ (i : ℕ). let es : List Event = CrashAt i (crash_count (d.world.nodes i) f.count) ∷ [] in es) number ∙ ap (λ (k : ℕ). let es : List Event = CrashAt s k ∷ [] in es) f.keeps in
      subst (λ (i : ℕ). Ends told d (Crash name pick) i [] Done e) (sym number)
      (AllDone (keeps_k f.count) f.taken tt
      (subst (λ (es : List Event). Replies told (Crash name pick) s f.taken d es Done) (sym ev)
      (subst (λ (o : EventSaid). RepeatsSaid (step (doubt_chosen f.taken d (CrashAt s f.count)).world (CrashAt s f.count)).world s o Done) (sym f.said) refl))
      (subst (λ (es : List Event). IsLeft s (Crash name pick) f.taken d (run_as f.taken d es) e) (sym ev) (record { world = refl; after = λ i. refl; strayed = refl })))

  pub crash_leads : (d : Doubted) (old new : Yard R g) (name : List ℕ) (pick s : ℕ) → StandsFor d old → IsFree old (Crash name pick) → seat_of old.facts.items name ≡ Some s
      → ((d : Doubted) → StandsFor d old → s < d.world.sites → (d.world.nodes s).state ≡ Up → Falls d s old new) → Leads d (Crash name pick) Done old new
  crash_leads d old new name pick s stands free seat fell =
      let here = place_at d old name s stands seat in
      let f = fell d stands here.below (crash_up d old name pick s stands free seat) in
      record {
        next = crash_of d s f.count f.taken;
        fails = [];
        done = record { ends = crash_ends (IsTold new) d name pick s old new here.number f; counts = tt; works = tt; calls = tt };
        carries = f.carries;
        stands = f.stands;
        rose = f.rose;
      }

  pub crash_asks : (d : Doubted) (old new : Yard R g) (name : List ℕ) (pick s : ℕ) → StandsFor d old → IsFree old (Crash name pick) → seat_of old.facts.items name ≡ Some s
      → ((d : Doubted) → StandsFor d old → s < d.world.sites → (d.world.nodes s).state ≡ Up → OfSite (CrashesBy pick) s old new) → OfSite (CrashesBy pick) (site_number d.world name) old new
  crash_asks d old new name pick s stands free seat asks =
      let here = place_at d old name s stands seat in
      subst (λ (k : ℕ). OfSite (CrashesBy pick) k old new) (sym here.number) (asks d stands here.below (crash_up d old name pick s stands free seat))
