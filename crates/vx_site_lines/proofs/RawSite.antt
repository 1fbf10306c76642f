-- A line that makes a raw set of a bare site, where other sites may keep links.
use Rattle.std.proofs.Common.{◌≡◌, ◌∙◌, ◌+◌, ◌-◌, ◌<◌, ℕ, true, false, List, [], ◌∷◌, ap, sym, subst, refl, arith}
use Rattle.std.specs.Prelude.{◌&&◌, Bool, Option, Some, None, Result, Ok, Err, map, not, eqb, is_some, length, slice_get, slice_set}
use Rattle.vx_history.proofs.Updates.{at_place}
use Rattle.vx_history.specs.Doubts.{After, Doubted}
use Rattle.vx_history.specs.Groups.{GroupNode}
use Rattle.vx_history.specs.KeptLinks.{kept_links}
use Rattle.vx_history.specs.Refusals.{Outcome}
use Rattle.vx_history.specs.Step.{headers_counted, done as is_done, outcome_of}
use Rattle.vx_history.specs.Steps.{raw_made, raw_set, raw_volumes}
use Rattle.vx_history.specs.World.{Node, NoFuse, World}
use Rattle.vx_history.specs.declared.event.Event.TheVariants.{Raw as MakeRaw}
use Rattle.vx_model.specs.Sizes.{is_raw_shape}
use Rattle.vx_model.specs.declared.errors.OutOfMemory.{OutOfMemory as MemoryError}
use Rattle.vx_model.specs.declared.errors.Stop.{Stop}
use Rattle.vx_model.specs.declared.errors.Stop.TheVariants.{No as Refused, OutOfMemory}
use Rattle.vx_model.specs.declared.no.No.TheVariants.{Device, Size as WrongSize}
use Rattle.vx_model.specs.declared.site.SiteState.TheVariants.{Bare as IsBare, Up as IsUp, Down as IsDown}
use Rattle.vx_model.specs.declared.state.KeptLink.{KeptLink}
use Rattle.vx_disk.specs.declared.shelf.Shelf.{Ghosts}
use Rattle.vx_order.specs.Order.{line_refusal}
use Rattle.vx_order.specs.Shapes.{raw_size, wrong_size}
use Rattle.vx_order.specs.Subject.{first_name}
use Rattle.vx_order.specs.declared.facts.LinkFacts.{LinkFacts}
use Rattle.vx_order.specs.declared.facts.SiteFacts.{SiteFacts}
use Rattle.vx_order.specs.declared.facts.VolumeFacts.{VolumeFacts}
use Rattle.vx_script.specs.declared.line.ScriptLine.TheVariants.{Raw}
use Rattle.vx_diskset.specs.Asked.{FailsAs, FusedAs, SameFailing}
use Rattle.vx_diskset.specs.DiskSets.{MadeIs}
use Rattle.vx_diskset.specs.Holds.{KeptBeside, KeptSite, site_alone, beside_of, doubt_of, row_links}
use Rattle.vx_diskset.specs.Layouts.{CanBeRaw}
use Rattle.vx_diskset.specs.Stands.{RoleIs, StandsAlone, SiteStands, bare_with}
use Rattle.vx_diskset.specs.declared.disk_set.DiskSet.{DiskSet}
use Rattle.vx_diskset.specs.declared.disk_set.DiskSet.TheVariants.{Bare, Spoiled, Up, Receives, Down, OfGroup, Over, Gone}
use Rattle.vx_effects.proofs.Fitting.{fit_happened}
use Rattle.vx_events.proofs.LinkTesting.{nothing_shown}
use Rattle.vx_events.proofs.Places.{never_some, some_same}
use Rattle.vx_events.proofs.Refused.{Named, not_false, passes, raw_may, when_none}
use Rattle.vx_events.proofs.Steps.{no_sites, raw_step}
use Rattle.vx_events.specs.Ends.{Ends}
use Rattle.vx_model.specs.Sites.{is_origin, no_line}
use Rattle.vx_model.specs.declared.site.Role.TheVariants.{Primary}
use Rattle.vx_events.specs.Facts.{seat_of, site_number, volume_fact}
use Rattle.vx_events.specs.GroupLines.{is_over_group}
use Rattle.vx_events.specs.LinkedFacts.{link_facts, linked_fact, links_by, seen_fact}
use Rattle.vx_events.specs.LinksFit.{IsBlank, LinksFit}
use Rattle.vx_events.specs.declared.said.Said.{Said}
use Rattle.vx_events.specs.declared.said.Said.TheVariants.{Done}
use Rattle.vx_diskset.proofs.Roles.{role_origin}
use Rattle.vx_yard.specs.Changes.{raw_facts}
use Rattle.vx_yard.specs.Replies.{reply_to}
use Rattle.vx_yard.specs.Standing.{Leads, LeadsIs, StandsFor}
use Rattle.vx_yard.specs.Stands.{RoseAll}
use Rattle.vx_yard.specs.Working.{IsFree}
use Rattle.vx_yard.specs.Yards.{IsTold, count_of, in_files}
use Rattle.vx_yard.specs.declared.yard.Yard.{Yard}
use Rattle.vx_yard.proofs.Alike.{apart_place}
use Rattle.vx_yard.proofs.CrashLine.{rose_still}
use Rattle.vx_yard.proofs.FailsStay.{fails_then}
use Rattle.vx_yard.proofs.FuseStays.{fused_none}
use Rattle.vx_yard.proofs.NamedSite.{SiteAt, fact_named}
use Rattle.vx_yard.proofs.NoteSite.{comes_same, one_left, only_left}
use Rattle.vx_yard.proofs.OneSite.{Changed, Comes, role_off, rose_at, stands_at, stands_still, told_by}
use Rattle.vx_yard.proofs.Carrying.{Feeds, SameLoad, carries_at, carries_same, feeds_none}
use Rattle.vx_above.proofs.SeenSites.{state_placed}
use Rattle.vx_site_lines.proofs.Apart.{bare_seat, fact_at, over_is}
use Rattle.vx_site_lines.proofs.RawLine.{raw_fact_of}
use Rattle.vx_yard.proofs.Rows.{fact_from, fact_same}
use Rattle.vx_yard.proofs.SiteEvents.{first_choice}
use Rattle.vx_diskset.proofs.GroupFinding.{over_made}
use Rattle.vx_yard.proofs.OverGroup.{begins_apart, noted_none}

no_more : (n : ℕ) → n + 0 ≡ n
no_more n = omega arith

-- ---- a bare site keeps nothing beside its node

blank_sites : (d : Doubted) (s : ℕ) → IsBlank d.world s → (sites : ℕ) → row_links (d.world.links s) sites ≡ []
blank_sites d s blank sites = ap (λ (ss : List ℕ). kept_links (d.world.links s) ss) (no_sites (d.world.links s) sites 0 sites blank.links)

pub bare_sure : (d : Doubted) (s : ℕ) → (d.world.nodes s).state ≡ IsBare → LinksFit d → d.after s ≡ None
bare_sure d s bare fits = by (d.after s) refl
  where
    never : IsBare ≡ IsUp → ⊥
    never e = cc

    by : (o : Option After) → d.after s ≡ o → o ≡ None
    by None is = refl
    by (Some a) is = absurd (never (sym bare ∙ (fits.doubts s a is).up))

-- the same of one that has these links and headers
beside_blank : (d : Doubted) (s headers : ℕ) → row_links (d.world.links s) d.world.sites ≡ [] → headers ≡ 0 → (o : Option KeptSite) → o ≡ None
    → (let b : KeptBeside = record { links = row_links (d.world.links s) d.world.sites; headers = headers; doubt = o } in b) ≡ site_alone
beside_blank d s headers links none o sure =
    ap (λ (ls : List KeptLink). let b : KeptBeside = record { links = ls; headers = headers; doubt = o } in b) links
    ∙ ap (λ (k : ℕ). let b : KeptBeside = record { links = []; headers = k; doubt = o } in b) none
    ∙ ap (λ (x : Option KeptSite). let b : KeptBeside = record { links = []; headers = 0; doubt = x } in b) sure

-- ---- the event

-- a primary does not receive
origin_receives : is_origin Primary ≡ false → ⊥
origin_receives e = cc

abbrev raw_event : Doubted → ℕ → Doubted
raw_event d s = record d { world = (headers_counted d.world (MakeRaw s) (is_done (raw_made d.world s))).world }

raw_fits : (d : Doubted) (s : ℕ) → outcome_of d.world (MakeRaw s) ≡ is_done (raw_made d.world s) → LinksFit d → LinksFit (raw_event d s)
raw_fits d s at fits = subst (λ (o : Outcome). LinksFit (record d { world = (headers_counted d.world (MakeRaw s) o).world })) at (fit_happened d (MakeRaw s) false tt fits)

raw_beside : (d : Doubted) (s : ℕ) → (d.world.nodes s).state ≡ IsBare → LinksFit d → beside_of (raw_event d s) s ≡ site_alone
raw_beside d s bare fits =
    let blank = fits.bare s bare in
    beside_blank d s (d.world.headers s + 0) (blank_sites d s blank d.world.sites) (no_more (d.world.headers s) ∙ blank.headers) (doubt_of (raw_event d s).world s (d.after s))
    (ap (λ (o : Option After). doubt_of (raw_event d s).world s o) (bare_sure d s bare fits))

blank_fact : (d : Doubted) (s : ℕ) (n : Node) → IsBlank d.world s → fact_from n (d.world.links s) d.world.sites ≡ seen_fact n
blank_fact d s n blank =
    ap (λ (ls : List LinkFacts). let f : SiteFacts = record (seen_fact n) { links = ls } in f)
    (ap (λ (ss : List ℕ). links_by n.state (link_facts n (d.world.links s) ss)) (no_sites (d.world.links s) d.world.sites 0 d.world.sites blank.links) ∙ nothing_shown n.state)

-- one without a group becomes a raw set without one
pub raw_apart : (s : ℕ) (n : Node) → n.group ≡ None → is_over_group (raw_set s n) ≡ false
raw_apart s n none = ap (λ (o : Option GroupNode). is_some o && eqb (length (raw_set s n).volumes) 0) none

raw_outcome : (w : World) (files : Bool) (facts : List SiteFacts) (name : List ℕ) (s : ℕ) → line_refusal facts files (Raw name) ≡ None → s < w.sites → (w.nodes s).state ≡ IsBare
    → ((n : Named facts name) → n.facts ≡ linked_fact w s) → outcome_of w (MakeRaw s) ≡ is_done (raw_made w s)
unfolding first_name wrong_size
raw_outcome w files facts name s free below bare named_is =
    let p = passes facts files (Raw name) free in
    let may = raw_may facts files name free in
    let size : raw_size (Some may.0.facts) ≡ None = subst (λ (o : Option SiteFacts). raw_size o ≡ None) may.0.found p.size in
    let shape : is_raw_shape may.0.facts.disks may.0.facts.blocks ≡ true =
    not_false (is_raw_shape may.0.facts.disks may.0.facts.blocks) (when_none (not (is_raw_shape may.0.facts.disks may.0.facts.blocks)) WrongSize size) in
    raw_step w s below bare (subst (λ (f : SiteFacts). is_raw_shape f.disks f.blocks ≡ true) (named_is may.0) shape)

module _ {R : Type 0} {g : Ghosts R} where
  pub bare_at : (beside : KeptBeside) (n : Node) (e : DiskSet R g) → SiteStands beside n e → n.state ≡ IsBare → (n.parent ≡ no_line) × (n.low ≡ 1) × (n.fuse ≡ NoFuse) × (n.group ≡ None)
  bare_at beside n (Bare rack) stands is = (ap (λ (k : Node). k.parent) stands.bare.is, ap (λ (k : Node). k.low) stands.bare.is, ap (λ (k : Node). k.fuse) stands.bare.is, ap (λ (k : Node). k.group) stands.bare.is)
  bare_at beside n (Spoiled rack) stands is = (ap (λ (k : Node). k.parent) stands.is, ap (λ (k : Node). k.low) stands.is, ap (λ (k : Node). k.fuse) stands.is, ap (λ (k : Node). k.group) stands.is)
  bare_at beside n (Up rvg) stands is = absurd (let e : IsBare ≡ IsUp = sym is ∙ stands.1.state in cc)
  bare_at beside n (Receives site) stands is = absurd (let e : IsBare ≡ IsUp = sym is ∙ stands.1.state in cc)
  bare_at beside n (Down rack) stands is = absurd (let e : IsBare ≡ IsDown = sym is ∙ stands.state in cc)
  bare_at beside n (OfGroup s) stands is =
      let same : n ≡ bare_with n = stands.bare is in
      (ap (λ (k : Node). k.parent) same, ap (λ (k : Node). k.low) same, ap (λ (k : Node). k.fuse) same, ap (λ (k : Node). k.group) same)
  bare_at beside n (Over s) stands is = absurd (over_made beside n s.site stands.1 is)
  bare_at beside n Gone stands is = absurd stands

  -- what the tests of the line found
  record IsRawSite (d : Doubted) (y : Yard R g) (name : List ℕ) (s : ℕ) (site : SiteFacts) : Type 0 where
    seat : SiteAt d y name s
    fact : site ≡ seen_fact (d.world.nodes s)
    bare : (d.world.nodes s).state ≡ IsBare
    can : CanBeRaw (d.world.nodes s).disks (d.world.nodes s).blocks
    outcome : outcome_of d.world (MakeRaw s) ≡ is_done (raw_made d.world s)

  raw_site : (d : Doubted) (y : Yard R g) (name : List ℕ) (s : ℕ) (site : SiteFacts) → StandsFor d y → IsFree y (Raw name) → seat_of y.facts.items name ≡ Some s → slice_get y.facts.items s ≡ Some site → IsRawSite d y name s site
  raw_site d y name s site stands free is there =
      let may = raw_may y.facts.items (in_files y) name free in
      let bare : (d.world.nodes s).state ≡ IsBare = state_placed d y name s stands is may.0 ∙ may.1 in
      let seat = bare_seat d y name s stands is bare in
      let found = fact_named d y name s seat is may.0 in
      record {
        seat = seat;
        fact = some_same (sym there ∙ seat.fact) ∙ blank_fact d s (d.world.nodes s) (stands.links.bare s bare);
        bare = bare;
        can = subst (λ (f : SiteFacts). CanBeRaw f.disks f.blocks) found (record { some = may.2; maps = may.4 });
        outcome = raw_outcome d.world (in_files y) y.facts.items name s free seat.below bare (λ n. fact_named d y name s seat is n);
      }

  pub raw_leads : (d : Doubted) (old new : Yard R g) (name : List ℕ) (s : ℕ) (site : SiteFacts) (volumes : List VolumeFacts) (before after : DiskSet R g) (r : Result (Unit {0}) Stop) (done : Unit {0}) → StandsFor d old → IsFree old (Raw name)
      → seat_of old.facts.items name ≡ Some s → slice_get old.facts.items s ≡ Some site → volumes ≡ map volume_fact (raw_volumes 1 (site.disks - 2) site.blocks)
      → Changed old new s before after → SameFailing before after → r ≡ Ok done → ((beside : KeptBeside) (n : Node) → SiteStands beside n before → n.state ≡ IsBare → CanBeRaw n.disks n.blocks → MadeIs s n before after r)
      → new.facts.items ≡ slice_set old.facts.items s (raw_facts s volumes site) → SameLoad old new → Leads d (Raw name) Done old new
  raw_leads d old new name s site volumes before after r done stands free is there table changed same ok made facts load =
      let found = raw_site d old name s site stands free is there in
      let n : Node = d.world.nodes s in
      let e : Doubted = raw_event d s in
      let blank = stands.links.bare s found.bare in
      let stood = stands.disk_sets.sites s before found.seat.below changed.there in
      let parts = bare_at (beside_of d s) n before stood found.bare in
      let here : raw_set s n ≡ e.world.nodes s = sym (at_place d.world.nodes s (raw_set s n)) in
      let stands_now : StandsAlone (raw_set s n) after = subst (MadeIs s n before after) ok (made (beside_of d s) n stood found.bare found.can) in
      let comes : Comes d e s after = record {
        changes = record {
          sites = refl;
          nodes = λ i apart. apart_place d.world.nodes s (raw_set s n) i apart;
          links = λ i k apart. refl;
          headers = λ i apart. no_more (d.world.headers i);
          after = λ i apart. refl;
          strayed = λ calm. calm;
          gathering = λ i apart. refl;
        };
        links = raw_fits d s found.outcome stands.links;
        stands = subst (λ (m : Node). SiteStands (beside_of e s) m after) here (subst (λ (b : KeptBeside). SiteStands b (raw_set s n) after) (sym (raw_beside d s found.bare stands.links)) stands_now);
        failing = subst (λ (m : Node). FailsAs m after) here (fails_then n (raw_set s n) before after refl same (stands.failing s before found.seat.below changed.there));
        fuse = subst (λ (m : Node). FusedAs m after) here (fused_none (raw_set s n) after parts.2);
        role = subst (λ (m : Node). RoleIs m after) here (role_origin (raw_set s n) after refl);
        doubt = λ was a is. absurd (never_some (sym (bare_sure d s found.bare stands.links) ∙ is));
      } in
      let k : ℕ = site_number d.world name in
      record {
        next = e;
        fails = [];
        done = record {
          ends = subst (λ (i : ℕ). Ends (IsTold new) d (Raw name) i [] Done e) (sym found.seat.number)
              (one_left (IsTold new) d (Raw name) s first_choice (MakeRaw s) (is_done (raw_made d.world s)) Done e.world (ap (λ (i : ℕ). MakeRaw i ∷ []) found.seat.number) refl found.outcome refl refl);
          counts = tt;
          works = tt;
          calls = tt;
        };
        carries = λ was. carries_at s d e old new was load (record { site = comes.changes; packets = refl; gathering = refl })
            (subst (λ (m : Node). Feeds (d.world.nodes s) m) here (feeds_none (d.world.nodes s) (raw_set s n) (λ up receives. origin_receives receives))) (told_by old new s before after changed);
        stands = stands_at d e old new s (raw_facts s volumes site) before after stands found.seat.below changed comes
            (λ _. begins_apart s (beside_of e s) (e.world.nodes s) after comes.stands (over_is (raw_set s n) (e.world.nodes s) (sym here) (raw_apart s n parts.3)))
            (λ _. noted_none (beside_of e s) (e.world.nodes s) (e.world.nodes s) after comes.stands (ap (λ (m : Node). m.group) (sym here) ∙ parts.3))
            (fact_at e.world s (raw_facts s volumes site) (over_is (raw_set s n) (e.world.nodes s) (sym here) (raw_apart s n parts.3))
            (raw_fact_of s n site volumes found.fact table parts.3 parts.0 parts.1 ∙ sym (blank_fact d s (raw_set s n) blank)
            ∙ sym (fact_same (raw_set s n) (e.world.nodes s) (d.world.links s) (e.world.links s) d.world.sites e.world.sites (sym here) (λ j. refl) refl)))
            facts;
        rose = rose_still old new s before after changed.there changed.later changed.disk_sets;
      }

  pub raw_stops : (stop : Stop) (said : Result Said MemoryError) (d : Doubted) (old new : Yard R g) (name : List ℕ) (s : ℕ) (site : SiteFacts) (before after : DiskSet R g) (r : Result (Unit {0}) Stop) → said ≡ reply_to stop → StandsFor d old
      → IsFree old (Raw name) → seat_of old.facts.items name ≡ Some s → slice_get old.facts.items s ≡ Some site → Changed old new s before after → SameFailing before after → r ≡ Err stop
      → ((beside : KeptBeside) (n : Node) → SiteStands beside n before → n.state ≡ IsBare → CanBeRaw n.disks n.blocks → MadeIs s n before after r)
      → new.facts ≡ old.facts → SameLoad old new → LeadsIs d (Raw name) old new said
  raw_stops stop said d old new name s site before after r says stands free is there changed same err made facts load =
      subst (λ r. LeadsIs d (Raw name) old new r) (sym says) (by_stop stop (subst (MadeIs s n before after) err (made (beside_of d s) n stood found.bare found.can)))
    where
      n : Node
      n = d.world.nodes s

      found : IsRawSite d old name s site
      found = raw_site d old name s site stands free is there

      stood : SiteStands (beside_of d s) n before
      stood = stands.disk_sets.sites s before found.seat.below changed.there

      stays : SiteStands (beside_of d s) n after → StandsFor d new
      stays here = stands_still d d old new s before after stands found.seat.below changed
          (comes_same d s after stands.links here (fails_then n n before after refl same (stands.failing s before found.seat.below changed.there))
          (fused_none n after (bare_at (beside_of d s) n before stood found.bare).2)
          (role_off (beside_of d s) n n after here (λ up. let e : IsBare ≡ IsUp = sym found.bare ∙ up in cc))) (λ first. first)
          (λ _. noted_none (beside_of d s) n n after here (bare_at (beside_of d s) n before stood found.bare).3) refl (ap (λ fs. fs.items) facts)

      by_stop : (stop : Stop) → MadeIs s n before after (Err stop) → LeadsIs d (Raw name) old new (reply_to stop)
      by_stop OutOfMemory here = record { stands = stays (here (beside_of d s)); carries = carries_same d old new load (told_by old new s before after changed); rose = rose_still old new s before after changed.there changed.later changed.disk_sets }
      by_stop (Refused (Device disk)) h = record {
        next = d;
        fails = (site_number d.world name, disk) ∷ [];
        done = record { ends = only_left (IsTold new) d (Raw name) (site_number d.world name) (MakeRaw (site_number d.world name)) disk refl refl tt refl; counts = tt; works = tt; calls = tt };
        carries = carries_same d old new load (told_by old new s before after changed);
        stands = stays (h.0 (beside_of d s));
        rose = subst (λ (i : ℕ). RoseAll ((i, disk) ∷ []) (count_of old) (count_of new)) (sym found.seat.number) (rose_at old new s disk before after changed h.1);
      }
      by_stop (Refused other) h = absurd h
