-- A site whose group has a replicated volume group is down still behind a recovery that was refused.
use Rattle.std.proofs.Common.{◌≡◌, ◌∙◌, ◌++◌, ◌+◌, ◌<◌, ℕ, Bool, true, false, List, [], ◌∷◌, ap, sym, subst, refl}
use Rattle.std.proofs.lemmas.List.{append-nil}
use Rattle.std.specs.Prelude.{Some, slice_set}
use Rattle.vx_model.specs.declared.limits.TheConstants.{MOST_NUMBER}
use Rattle.vx_model.specs.declared.site.SiteState.{SiteState}
use Rattle.vx_model.specs.declared.site.SiteState.TheVariants.{Up as IsUp, Down as IsDown}
use Rattle.vx_disk.specs.declared.shelf.Shelf.{Ghosts}
use Rattle.vx_history.specs.Doubts.{Doubted, happened}
use Rattle.vx_history.specs.Groups.{GroupNode}
use Rattle.vx_history.specs.World.{Fuse, Node, NoFuse, World}
use Rattle.vx_history.specs.declared.event.Event.{Event}
use Rattle.vx_history.specs.declared.event.Event.TheVariants.{Recover as RecoverAt}
use Rattle.vx_order.specs.declared.facts.SiteFacts.{SiteFacts}
use Rattle.vx_script.specs.declared.line.ScriptLine.TheVariants.{Recover}
use Rattle.vx_diskset.proofs.Roles.{role_origin}
use Rattle.vx_diskset.specs.Holds.{KeptBeside, beside_of}
use Rattle.vx_diskset.specs.Noted.{IsNamed, NotedOver, SiteNoted}
use Rattle.vx_diskset.specs.OverRises.{rest_in}
use Rattle.vx_diskset.specs.Stands.{SiteStands}
use Rattle.vx_diskset.specs.declared.disk_set.DiskSet.TheVariants.{Over}
use Rattle.vx_diskset.specs.declared.over_set.OverSet.{OverSet}
use Rattle.vx_events.proofs.OverSeats.{fact_apart}
use Rattle.vx_events.proofs.Places.{some_same}
use Rattle.vx_events.proofs.RvgEvents.{rvg_apart}
use Rattle.vx_events.specs.Doubts.{run_as}
use Rattle.vx_events.specs.Facts.{group_by}
use Rattle.vx_events.specs.GroupLines.{fuse_lost, is_over_group, noting}
use Rattle.vx_events.specs.GroupNotes.{note_at}
use Rattle.vx_events.specs.LinkedFacts.{linked_fact, links_by, links_of_site, seen_fact}
use Rattle.vx_events.specs.RvgBack.{IsLeftBut, fall_first}
use Rattle.vx_events.specs.RvgViews.{is_over_rvg, over_table}
use Rattle.vx_events.specs.StepsOver.{fact_over}
use Rattle.vx_yard.proofs.Carrying.{SameLoad}
use Rattle.vx_yard.proofs.Rows.{facts_is}
use Rattle.vx_yard.specs.Carries.{Carries}
use Rattle.vx_yard.specs.Standing.{StandsFor}
use Rattle.vx_yard.specs.declared.yard.Yard.{Yard}
use Rattle.vx_above.proofs.OverSeen.{table_by}
use Rattle.vx_above.proofs.OverSites.{over_again}
use Rattle.vx_above.specs.OwnDisks.{own_disks}
use Rattle.vx_group_lines.specs.RvgRises.{RestsSo, rests_as, rests_world}
use Rattle.vx_group_lines.proofs.Arriving.{Arrives, arrives_as, arrives_none, arrives_unfused}
use Rattle.vx_group_lines.proofs.RvgComing.{DownCall, carries_so, stands_so}
use Rattle.vx_group_lines.proofs.RvgRose.{below_rest, links_rest, origin_rest, some_rest, sure_rest, unfused_rest}
use Rattle.vx_group_lines.proofs.RvgWorlds.{begun_arrives, begun_headers, beside_as, rest_then}

-- ---- what the tests see of a site that is down

rest_shown : (w : World) (s : ℕ) (k : Node) → w.nodes s ≡ k → k.state ≡ IsDown → linked_fact w s ≡ (let f : SiteFacts = record (seen_fact k) { links = [] } in f)
rest_shown w s k at down =
    ap (λ (x : Node). let f : SiteFacts = record (seen_fact x) { links = links_by x.state (links_of_site w s) } in f) at
    ∙ ap (λ (t : SiteState). let f : SiteFacts = record (seen_fact k) { links = links_by t (links_of_site w s) } in f) down

-- the volumes that it notes, in any session
rest_seen : (n : Node) (session : ℕ) (next : GroupNode) → is_over_rvg n ≡ true → n.state ≡ IsDown → over_table (rest_in session next n) next ≡ over_table n (note_at n) → seen_fact (rest_in session next n) ≡ seen_fact n
rest_seen n session next over down table =
    let m : Node = rest_in session next n in
    let over_m : is_over_rvg m ≡ true = over_again n m next over refl refl in
    facts_is (seen_fact m) (seen_fact n) refl refl refl refl (over_m ∙ sym over) (table_by m over_m ∙ table ∙ sym (table_by n over))
    (ap (λ (t : SiteState). group_by t m) down ∙ sym (ap (λ (t : SiteState). group_by t n) down)) refl

module _ {R : Type 0} {g : Ghosts R} (d : Doubted) (s kept : ℕ) (taken : Bool) (rests : RestsSo d s kept taken) (old new : Yard R g) (o p : OverSet R g) (call : DownCall (rests_as d s kept taken) old new s o (Over p)) where
  abbrev b : Doubted
  b = rests_as d s kept taken

  abbrev n : Node
  n = (rests_as d s kept taken).world.nodes s

  -- ---- the worlds

  -- with this note, and without a fuse
  abbrev pub left_world : GroupNode → Doubted
  left_world next = record (rests_as d s kept taken) { world = fuse_lost (noting (rests_as d s kept taken).world s next) s }

  pub left_arrives : (next : GroupNode) → Arrives (rests_as d s kept taken) (left_world next) s (rest_in ((rests_as d s kept taken).world.nodes s).session next ((rests_as d s kept taken).world.nodes s)) ((rests_as d s kept taken).world.gathering s)
  left_arrives next =
      arrives_as b (left_world next) s (let k : Node = record n { group = Some next; fuse = NoFuse } in k) (rest_in n.session next n) (b.world.gathering s)
      (ap (λ (f : Fuse). let k : Node = record n { group = Some next; fuse = f } in k) (sym (unfused_rest d s kept taken rests old new o p call)))
      (arrives_unfused b b s n next (b.world.gathering s)
      (arrives_none b s call.stands.links (sure_rest d s kept taken rests old new o p call) (links_rest d s kept taken rests old new o p call)))

  pub left_is : (name : List ℕ) (next : GroupNode) → IsLeftBut true s (Recover name) taken next d (run_as taken d (fall_first (d.world.nodes s).state s kept)) (left_world next)
  left_is name next = record { world = refl; after = λ i. refl; strayed = refl }

  -- where no event came behind the crash
  pub left_none : (name : List ℕ) (next : GroupNode) → IsLeftBut true s (Recover name) taken next d (run_as taken d (fall_first (d.world.nodes s).state s kept ++ [])) (left_world next)
  left_none name next =
      subst (λ (es : List Event). IsLeftBut true s (Recover name) taken next d (run_as taken d es) (left_world next)) (sym (append-nil (fall_first (d.world.nodes s).state s kept))) (left_is name next)

  -- where the next session has begun
  abbrev pub begun_world : (disk : ℕ) → GroupNode → Doubted
  begun_world disk next =
      let e : Doubted = own_disks taken s d.world (happened (rests_world d s kept taken) (RecoverAt s (Some disk)) taken) in record e { world = fuse_lost (noting e.world s next) s }

  module _ (less : ((rests_as d s kept taken).world.nodes s).session < MOST_NUMBER) (disk : ℕ) (next : GroupNode) where
    pub begun_left : Arrives (rests_as d s kept taken) (begun_world disk next) s
        (rest_in (((rests_as d s kept taken).world.nodes s).session + 1) next ((rests_as d s kept taken).world.nodes s)) ((rests_as d s kept taken).world.gathering s)
    begun_left =
        arrives_as b (begun_world disk next) s (let k : Node = record n { session = n.session + 1; group = Some next; fuse = NoFuse } in k) (rest_in (n.session + 1) next n) (b.world.gathering s)
        (ap (λ (f : Fuse). let k : Node = record n { session = n.session + 1; group = Some next; fuse = f } in k) (sym (unfused_rest d s kept taken rests old new o p call)))
        (arrives_unfused b (own_disks taken s d.world (happened (rests_world d s kept taken) (RecoverAt s (Some disk)) taken)) s (let k : Node = record n { session = n.session + 1 } in k) next (b.world.gathering s)
        (begun_arrives d s kept taken rests.fits (below_rest d s kept taken rests old new o p call) (sure_rest d s kept taken rests old new o p call) (links_rest d s kept taken rests old new o p call)
        (origin_rest d s kept taken rests old new o p call) (some_rest d s kept taken rests old new o p call) call.down less disk))

    pub headers_begun : (begun_world disk next).world.headers s ≡ (rests_as d s kept taken).world.headers s
    headers_begun =
        begun_headers d s kept taken rests.fits (below_rest d s kept taken rests old new o p call) (sure_rest d s kept taken rests old new o p call) (links_rest d s kept taken rests old new o p call)
        (origin_rest d s kept taken rests old new o p call) (some_rest d s kept taken rests old new o p call) call.down less disk

    pub begun_is : (name : List ℕ) → IsLeftBut true s (Recover name) taken next d (run_as taken d (fall_first (d.world.nodes s).state s kept ++ RecoverAt s (Some disk) ∷ [])) (begun_world disk next)
    begun_is name =
        subst (λ (e : Doubted). IsLeftBut true s (Recover name) taken next d e (begun_world disk next)) (sym (rest_then d s kept taken (RecoverAt s (Some disk) ∷ []))) (record { world = refl; after = λ i. refl; strayed = refl })

  -- ---- the yard

  module _ (session : ℕ) (next : GroupNode) (table : over_table (rest_in session next ((rests_as d s kept taken).world.nodes s)) next ≡ over_table ((rests_as d s kept taken).world.nodes s) (note_at ((rests_as d s kept taken).world.nodes s)))
      (named : IsNamed (rest_in session next ((rests_as d s kept taken).world.nodes s))) (noted : SiteNoted (rest_in session next ((rests_as d s kept taken).world.nodes s)) next (Over p))
      (stood : SiteStands (beside_of (rests_as d s kept taken) s) (rest_in session next ((rests_as d s kept taken).world.nodes s)) (Over p)) where
    abbrev m : Node
    m = rest_in session next n

    apart : is_over_group m ≡ false
    apart = rvg_apart m (over_again n m next call.over refl refl)

    noted_there : NotedOver m (Over p)
    noted_there = ((λ k is. subst (λ (y : GroupNode). SiteNoted m y (Over p)) (some_same is) noted), named)

    module _ (e : Doubted) (arrives : Arrives (rests_as d s kept taken) e s (rest_in session next ((rests_as d s kept taken).world.nodes s)) ((rests_as d s kept taken).world.gathering s))
        (headers : e.world.headers s ≡ (rests_as d s kept taken).world.headers s) where
      fact : linked_fact b.world s ≡ fact_over e.world s
      fact =
          rest_shown b.world s n refl call.down ∙ ap (λ (f : SiteFacts). let x : SiteFacts = record f { links = [] } in x) (sym (rest_seen n session next call.over call.down table))
          ∙ sym (rest_shown e.world s m arrives.node call.down) ∙ sym (fact_apart e.world s (ap (λ (k : Node). is_over_group k) arrives.node ∙ apart))

      pub rests_stands : new.facts.items ≡ slice_set old.facts.items s (linked_fact (rests_as d s kept taken).world s) → StandsFor e new
      rests_stands facts =
          stands_so b old new s o (Over p) call e m (b.world.gathering s) arrives
          (subst (λ (q : KeptBeside). SiteStands q m (Over p))
          (sym (beside_as b e s (links_rest d s kept taken rests old new o p call) arrives.links headers (sure_rest d s kept taken rests old new o p call) arrives.sure)) stood) refl
          (unfused_rest d s kept taken rests old new o p call) (role_origin m (Over p) (origin_rest d s kept taken rests old new o p call)) (linked_fact b.world s) noted_there fact facts

      pub rests_carries : SameLoad old new → Carries (rests_as d s kept taken) old → Carries e new
      rests_carries load was = carries_so b old new s o (Over p) call e m arrives (λ up. let w : IsDown ≡ IsUp = sym call.down ∙ up in absurd (cc)) load was
