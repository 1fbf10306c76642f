-- What an import leaves of a site that was deported, with a replicated volume group over its group of disks.
use Rattle.std.proofs.Common.{◌≡◌, ◌∙◌, ◌<◌, ℕ, true, false, [], ap, sym, subst, refl}
use Rattle.std.specs.Prelude.{Option, None, slice_set}
use Rattle.vx_model.specs.Sites.{is_origin}
use Rattle.vx_model.specs.declared.site.SiteState.{SiteState}
use Rattle.vx_model.specs.declared.site.SiteState.TheVariants.{Up as IsUp, Deported as IsAway, Down as IsDown}
use Rattle.vx_disk.specs.Shelf.{Meaning}
use Rattle.vx_disk.specs.declared.shelf.Shelf.{Ghosts}
use Rattle.vx_config.specs.declared.config.Config.{Config}
use Rattle.vx_effects.specs.Facts.{down_fact}
use Rattle.vx_history.specs.Doubts.{Doubted}
use Rattle.vx_history.specs.Groups.{GroupNode}
use Rattle.vx_history.specs.Steps.{burned}
use Rattle.vx_history.specs.World.{Fuse, Gathering, Node, World}
use Rattle.vx_order.specs.declared.facts.SiteFacts.{SiteFacts}
use Rattle.vx_rvg.specs.Views.{Core}
use Rattle.vx_grouped.specs.GroupSites.{AwayNoted}
use Rattle.vx_grouped.specs.SiteReturns.{KeepsFuse, as_imported}
use Rattle.vx_diskset.specs.Aboves.{below_site, site_in}
use Rattle.vx_diskset.specs.Asked.{FailsAs, FusedAs, SameFailing, disks_told}
use Rattle.vx_diskset.specs.Holds.{KeptBeside, beside_of, header_links}
use Rattle.vx_diskset.specs.Noted.{IsNamed, NotedOver, NotedOn, SiteNoted, below_rvg}
use Rattle.vx_diskset.specs.OverTakes.{fallen_in, gone_in}
use Rattle.vx_diskset.specs.Stands.{OverStands, RoleIs, SiteStands}
use Rattle.vx_diskset.specs.declared.disk_set.DiskSet.{DiskSet}
use Rattle.vx_diskset.specs.declared.disk_set.DiskSet.TheVariants.{Over}
use Rattle.vx_diskset.specs.declared.over_set.OverSet.{OverSet}
use Rattle.vx_diskset.specs.declared.over_set.OverSite.{OverSite}
use Rattle.vx_diskset.specs.declared.over_set.OverSite.TheVariants.{Origin as OriginSite, Receiver as ReceiverSite, Deported as OverAway, Down as OverFell, Gone as NoOver}
use Rattle.vx_diskset.proofs.Roles.{role_origin}
use Rattle.vx_events.proofs.OverSeats.{fact_apart}
use Rattle.vx_events.proofs.Places.{never_some, some_same}
use Rattle.vx_events.proofs.RvgEvents.{rvg_apart}
use Rattle.vx_events.specs.Doubts.{run_as}
use Rattle.vx_events.specs.Facts.{group_by}
use Rattle.vx_events.specs.GroupLines.{is_over_group}
use Rattle.vx_events.specs.GroupNotes.{note_at}
use Rattle.vx_events.specs.LinkedFacts.{linked_fact, links_by, links_of_site, seen_fact}
use Rattle.vx_events.specs.RvgBack.{fall_first}
use Rattle.vx_events.specs.RvgViews.{is_over_rvg, over_table}
use Rattle.vx_events.specs.StepsOver.{fact_of_group, fact_over}
use Rattle.vx_yard.proofs.Carrying.{SameLoad, carries_at, feeds_none}
use Rattle.vx_yard.proofs.FailsStay.{fails_then}
use Rattle.vx_yard.proofs.FuseStays.{fused_none}
use Rattle.vx_yard.proofs.OneSite.{Changed, Comes, stands_at, told_by}
use Rattle.vx_yard.proofs.Rows.{facts_is}
use Rattle.vx_yard.specs.Carries.{Carries}
use Rattle.vx_yard.specs.Standing.{BeginsFirst, StandsFor}
use Rattle.vx_yard.specs.declared.yard.Yard.{Yard}
use Rattle.vx_above.proofs.FuseGoing.{fused_goes}
use Rattle.vx_above.proofs.OverSeen.{table_by}
use Rattle.vx_above.proofs.OverSites.{over_again, site_named, site_noted}
use Rattle.vx_group_lines.specs.Noting.{made_facts}
use Rattle.vx_group_lines.proofs.Arriving.{Arrives, arrives_none}
use Rattle.vx_group_lines.proofs.GroupAt.{loose_away}
use Rattle.vx_group_lines.proofs.ImportWhys.{imported_disks, failing_rack, sits_away}
use Rattle.vx_group_lines.proofs.RvgComing.{RestCall, none_after, some_data}
use Rattle.vx_group_lines.proofs.RvgWorlds.{beside_as}

-- ---- what the tests see

away_shown : (w : World) (s : ℕ) (k : Node) → w.nodes s ≡ k → k.state ≡ IsAway → linked_fact w s ≡ (let f : SiteFacts = record (seen_fact k) { links = [] } in f)
away_shown w s k at away =
    ap (λ (x : Node). let f : SiteFacts = record (seen_fact x) { links = links_by x.state (links_of_site w s) } in f) at
    ∙ ap (λ (t : SiteState). let f : SiteFacts = record (seen_fact k) { links = links_by t (links_of_site w s) } in f) away

fell_shown : (w : World) (s : ℕ) (k : Node) → w.nodes s ≡ k → k.state ≡ IsDown → linked_fact w s ≡ (let f : SiteFacts = record (seen_fact k) { links = [] } in f)
fell_shown w s k at down =
    ap (λ (x : Node). let f : SiteFacts = record (seen_fact x) { links = links_by x.state (links_of_site w s) } in f) at
    ∙ ap (λ (t : SiteState). let f : SiteFacts = record (seen_fact k) { links = links_by t (links_of_site w s) } in f) down

-- the volumes that it notes, in any session and with any fuse
gone_seen : (n : Node) (fuse : Fuse) (session : ℕ) (next : GroupNode) → is_over_rvg n ≡ true → n.state ≡ IsAway → over_table (gone_in fuse session next n) next ≡ over_table n (note_at n) → seen_fact (gone_in fuse session next n) ≡ seen_fact n
gone_seen n fuse session next over away table =
    let m : Node = gone_in fuse session next n in
    let over_m : is_over_rvg m ≡ true = over_again n m next over refl refl in
    facts_is (seen_fact m) (seen_fact n) refl refl refl refl (over_m ∙ sym over) (table_by m over_m ∙ table ∙ sym (table_by n over))
    (ap (λ (t : SiteState). group_by t m) away ∙ sym (ap (λ (t : SiteState). group_by t n) away)) refl

-- and of one that is down then
fallen_seen : (n : Node) (session : ℕ) (next : GroupNode) → is_over_rvg n ≡ true → over_table (fallen_in session next n) next ≡ over_table n (note_at n) → (links : SiteFacts) → links ≡ (let f : SiteFacts = record (seen_fact n) { links = [] } in f)
    → down_fact links ≡ (let f : SiteFacts = record (seen_fact (fallen_in session next n)) { links = [] } in f)
fallen_seen n session next over table links is =
    let m : Node = fallen_in session next n in
    let over_m : is_over_rvg m ≡ true = over_again n m next over refl refl in
    let base : SiteFacts = record (seen_fact n) { links = [] } in
    let first : SiteFacts = down_fact base in
    let last : SiteFacts = record (seen_fact m) { links = [] } in
    ap (λ (f : SiteFacts). down_fact f) is ∙ facts_is first last refl refl refl refl (over ∙ sym over_m) (table_by n over ∙ sym table ∙ sym (table_by m over_m)) refl refl

-- what is seen of one that comes up does not tell that it was deported
pub away_made : (core : Core) (c : Config) (w : World) (s : ℕ) (note : GroupNode) → (w.nodes s).state ≡ IsAway → made_facts core c (linked_fact w s) ≡ made_facts core c (fact_of_group (w.nodes s) note)
away_made core c w s note away = ap (λ (t : SiteState). let f : SiteFacts = record (made_facts core c (linked_fact w s)) { links = links_by t (links_of_site w s) } in f) away

-- such a site does not crash first
pub away_rest : (d : Doubted) (s : ℕ) → (d.world.nodes s).state ≡ IsAway → run_as false d (fall_first (d.world.nodes s).state s 0) ≡ d
away_rest d s away = ap (λ (t : SiteState). run_as false d (fall_first t s 0)) away

module _ {R : Type 0} {g : Ghosts R} where
  -- the note of one that was deported is that of disks by themselves
  pub away_on : (n k : Node) (note : GroupNode) (beside : KeptBeside) (s : OverSite R g) → OverStands beside n s → n.state ≡ IsAway → NotedOn k note (below_site s) → AwayNoted k note (below_site s)
  away_on n k note beside (OriginSite f) stands away it = absurd (let clash : IsUp ≡ IsAway = sym stands.state ∙ away in cc)
  away_on n k note beside (ReceiverSite f) stands away it = absurd (let clash : IsUp ≡ IsAway = sym stands.state ∙ away in cc)
  away_on n k note beside (OverAway idle) stands away it = it
  away_on n k note beside (OverFell idle) stands away it = absurd (let clash : IsDown ≡ IsAway = sym stands.0 ∙ away in cc)
  away_on n k note beside NoOver stands away it = absurd stands

  -- a call on the disks of a site that was deported
  pub record AwayCall (d : Doubted) (old new : Yard R g) (s : ℕ) (o : OverSet R g) (after : DiskSet R g) : Type 0 where
    pub stands : StandsFor d old
    pub below : s < d.world.sites
    pub over : is_over_rvg (d.world.nodes s) ≡ true
    pub away : (d.world.nodes s).state ≡ IsAway
    pub changed : Changed old new s (Over o) after
    pub failing : SameFailing (Over o) after

  module _ (d : Doubted) (old new : Yard R g) (s : ℕ) (o : OverSet R g) (after : DiskSet R g) (call : AwayCall d old new s o after) where
    abbrev n : Node
    n = d.world.nodes s

    abbrev note : GroupNode
    note = note_at (d.world.nodes s)

    pub away_stood : SiteStands (beside_of d s) (d.world.nodes s) (Over o)
    away_stood = call.stands.disk_sets.sites s (Over o) call.below call.changed.there

    pub away_noted : SiteNoted (d.world.nodes s) (note_at (d.world.nodes s)) (Over o)
    away_noted = site_noted d old s o call.stands call.below call.changed.there call.over

    pub away_named : IsNamed (d.world.nodes s)
    away_named = site_named d old s o call.stands call.below call.changed.there

    pub away_sure : d.after s ≡ None
    away_sure = none_after d.world s (d.after s) away_stood.0.1

    pub away_links : header_links d.world s ≡ []
    away_links = away_stood.0.4

    pub away_origin : is_origin (d.world.nodes s).role ≡ true
    away_origin = away_stood.0.5

    pub away_some : (d.world.nodes s).volumes ≡ [] → ⊥
    away_some none = some_data n call.over none

    pub away_group : AwayNoted (below_rvg (d.world.nodes s)) (note_at (d.world.nodes s)) (site_in o)
    away_group = away_on n (below_rvg n) note (beside_of d s) o.site away_stood.1 call.away away_noted.0

    pub away_call : RestCall d old new s o after
    away_call = record { changed = call.changed; noted = away_noted; sits = sits_away (below_rvg n) note (site_in o) away_group; loose = loose_away (below_rvg n) note (site_in o) away_group }

    -- the world in which the line begins
    pub away_begins : Arrives d d s (d.world.nodes s) (d.world.gathering s)
    away_begins = arrives_none d s call.stands.links away_sure away_links

    -- the fuse behind calls of which each passed
    pub away_fused : (m : Node) (k : Meaning) → m.fuse ≡ burned (d.world.nodes s).fuse → disks_told after ≡ k.disks → KeepsFuse (as_imported (site_in o)) k → FusedAs m after
    away_fused m k is told keeps =
        fused_goes n m (Over o) after is (failing_rack (disks_told (Over o)) (disks_told after) (λ a b. (u : ℕ) → b.failing u ≡ a.failing u) call.failing.told)
        (λ x y at now. keeps.goes x y (imported_disks (site_in o) ∙ at) (sym told ∙ now)) (call.stands.fuses s (Over o) call.below call.changed.there)

    -- ---- such a site behind the line

    module _ (e : Doubted) (m : Node) (gathered : Option Gathering) (arrives : Arrives d e s m gathered) (here : SiteStands (beside_of e s) m after) (failing : m.failing ≡ (d.world.nodes s).failing) (fused : FusedAs m after) (role : RoleIs m after) where
      comes : Comes d e s after
      comes = record {
        changes = arrives.site;
        links = arrives.fits;
        stands = subst (λ (x : Node). SiteStands (beside_of e s) x after) (sym arrives.node) here;
        failing = subst (λ (x : Node). FailsAs x after) (sym arrives.node) (fails_then n m (Over o) after failing call.failing (call.stands.failing s (Over o) call.below call.changed.there));
        fuse = subst (λ (x : Node). FusedAs x after) (sym arrives.node) fused;
        role = subst (λ (x : Node). RoleIs x after) (sym arrives.node) role;
        doubt = λ was a is. absurd (never_some (sym arrives.sure ∙ is));
      }

      pub away_stands : (f : SiteFacts) → NotedOver m after → f ≡ fact_over e.world s → new.facts.items ≡ slice_set old.facts.items s f → StandsFor e new
      away_stands f noted seen facts =
          stands_at d e old new s f (Over o) after call.stands call.below call.changed comes
          (λ was. subst (λ (x : Node). BeginsFirst s x) (sym arrives.node) (arrives.first was)) (λ _. subst (λ (x : Node). NotedOver x after) (sym arrives.node) noted) seen facts

    -- what the yard carries, where writes arise at the site, or it is not up
    pub away_carries : (e : Doubted) (m : Node) → Arrives d e s m (d.world.gathering s) → (m.state ≡ IsUp → is_origin m.role ≡ false → ⊥) → SameLoad old new → Carries d old → Carries e new
    away_carries e m arrives never load carries =
        carries_at s d e old new carries load (record { site = arrives.site; packets = arrives.packets; gathering = arrives.gathering })
        (feeds_none n (e.world.nodes s) (λ up receives. never (ap (λ (x : Node). x.state) (sym arrives.node) ∙ up) (ap (λ (x : Node). is_origin x.role) (sym arrives.node) ∙ receives)))
        (told_by old new s (Over o) after call.changed)

  -- ---- a site that is deported still

  module _ (d : Doubted) (old new : Yard R g) (s : ℕ) (o p : OverSet R g) (call : AwayCall d old new s o (Over p)) (fuse : Fuse) (session : ℕ) (next : GroupNode)
      (table : over_table (gone_in fuse session next (d.world.nodes s)) next ≡ over_table (d.world.nodes s) (note_at (d.world.nodes s))) (named : IsNamed (gone_in fuse session next (d.world.nodes s)))
      (noted : SiteNoted (gone_in fuse session next (d.world.nodes s)) next (Over p)) (stood : SiteStands (beside_of d s) (gone_in fuse session next (d.world.nodes s)) (Over p)) (fused : FusedAs (gone_in fuse session next (d.world.nodes s)) (Over p))
      (e : Doubted) (arrives : Arrives d e s (gone_in fuse session next (d.world.nodes s)) (d.world.gathering s)) (headers : e.world.headers s ≡ d.world.headers s) where
    abbrev gone_node : Node
    gone_node = gone_in fuse session next (d.world.nodes s)

    gone_apart : is_over_group gone_node ≡ false
    gone_apart = rvg_apart gone_node (over_again (d.world.nodes s) gone_node next call.over refl refl)

    gone_fact : linked_fact d.world s ≡ fact_over e.world s
    gone_fact =
        away_shown d.world s (d.world.nodes s) refl call.away ∙ ap (λ (f : SiteFacts). let x : SiteFacts = record f { links = [] } in x) (sym (gone_seen (d.world.nodes s) fuse session next call.over call.away table))
        ∙ sym (away_shown e.world s gone_node arrives.node call.away) ∙ sym (fact_apart e.world s (ap (λ (k : Node). is_over_group k) arrives.node ∙ gone_apart))

    pub gone_stands : new.facts.items ≡ slice_set old.facts.items s (linked_fact d.world s) → StandsFor e new
    gone_stands facts =
        away_stands d old new s o (Over p) call e gone_node (d.world.gathering s) arrives
        (subst (λ (q : KeptBeside). SiteStands q gone_node (Over p)) (sym (beside_as d e s (away_links d old new s o (Over p) call) arrives.links headers (away_sure d old new s o (Over p) call) arrives.sure)) stood) refl fused
        (role_origin gone_node (Over p) (away_origin d old new s o (Over p) call)) (linked_fact d.world s)
        ((λ k is. subst (λ (y : GroupNode). SiteNoted gone_node y (Over p)) (some_same is) noted), named) gone_fact facts

    pub gone_carries : SameLoad old new → Carries d old → Carries e new
    gone_carries load was = away_carries d old new s o (Over p) call e gone_node arrives (λ up. let w : IsAway ≡ IsUp = sym call.away ∙ up in absurd (cc)) load was

  -- ---- a site that is down then

  module _ (d : Doubted) (old new : Yard R g) (s : ℕ) (o p : OverSet R g) (call : AwayCall d old new s o (Over p)) (session : ℕ) (next : GroupNode)
      (table : over_table (fallen_in session next (d.world.nodes s)) next ≡ over_table (d.world.nodes s) (note_at (d.world.nodes s))) (named : IsNamed (fallen_in session next (d.world.nodes s)))
      (noted : SiteNoted (fallen_in session next (d.world.nodes s)) next (Over p)) (stood : SiteStands (beside_of d s) (fallen_in session next (d.world.nodes s)) (Over p))
      (e : Doubted) (arrives : Arrives d e s (fallen_in session next (d.world.nodes s)) (d.world.gathering s)) (headers : e.world.headers s ≡ d.world.headers s) where
    abbrev fell_node : Node
    fell_node = fallen_in session next (d.world.nodes s)

    fell_apart : is_over_group fell_node ≡ false
    fell_apart = rvg_apart fell_node (over_again (d.world.nodes s) fell_node next call.over refl refl)

    fell_fact : down_fact (linked_fact d.world s) ≡ fact_over e.world s
    fell_fact =
        fallen_seen (d.world.nodes s) session next call.over table (linked_fact d.world s) (away_shown d.world s (d.world.nodes s) refl call.away)
        ∙ sym (fell_shown e.world s fell_node arrives.node refl) ∙ sym (fact_apart e.world s (ap (λ (k : Node). is_over_group k) arrives.node ∙ fell_apart))

    pub fell_stands : new.facts.items ≡ slice_set old.facts.items s (down_fact (linked_fact d.world s)) → StandsFor e new
    fell_stands facts =
        away_stands d old new s o (Over p) call e fell_node (d.world.gathering s) arrives
        (subst (λ (q : KeptBeside). SiteStands q fell_node (Over p)) (sym (beside_as d e s (away_links d old new s o (Over p) call) arrives.links headers (away_sure d old new s o (Over p) call) arrives.sure)) stood) refl (fused_none fell_node (Over p) refl)
        (role_origin fell_node (Over p) (away_origin d old new s o (Over p) call)) (down_fact (linked_fact d.world s))
        ((λ k is. subst (λ (y : GroupNode). SiteNoted fell_node y (Over p)) (some_same is) noted), named) fell_fact facts

    pub fell_goes : SameLoad old new → Carries d old → Carries e new
    fell_goes load was = away_carries d old new s o (Over p) call e fell_node arrives (λ up. let clash : IsDown ≡ IsUp = up in absurd (cc)) load was
