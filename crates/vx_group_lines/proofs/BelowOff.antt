-- What calls on the group below a replicated volume group lead the yard of a site to whose fuse ran out in them: it crashed, and keeps all its writes, or, where it
-- was halted, some of them.
use Rattle.std.proofs.Common.{◌≡◌, ◌∙◌, ◌⊎◌, inl, inr, ℕ, ◌<◌, ◌≤◌, Bool, true, false, List, length, map, ap, sym, subst, refl, arith}
use Rattle.std.specs.Prelude.{Option, Some, None, if◌then◌else◌, slice_set}
use Rattle.vx_model.specs.Content.{Write}
use Rattle.vx_model.specs.Sites.{is_origin}
use Rattle.vx_model.specs.declared.site.SiteState.TheVariants.{Up as IsUp, Down as IsDown}
use Rattle.vx_model.specs.declared.units.Units.{Units}
use Rattle.vx_disk.specs.declared.shelf.Shelf.{Ghosts}
use Rattle.vx_effects.proofs.Leaving.{fit_note, fit_worked}
use Rattle.vx_effects.proofs.Rises.{note_effect}
use Rattle.vx_effects.specs.Facts.{down_fact}
use Rattle.vx_history.specs.Doubts.{Doubted, happened, resolved_at}
use Rattle.vx_history.specs.Events.{crash_at, kept_of}
use Rattle.vx_history.specs.Groups.{GroupNode}
use Rattle.vx_history.specs.Refusals.{Outcome}
use Rattle.vx_history.specs.Step.{done, headers_counted}
use Rattle.vx_history.specs.Steps.{burned, crashed}
use Rattle.vx_history.specs.World.{Fuse, Node, NoFuse}
use Rattle.vx_history.specs.declared.event.Event.TheVariants.{Crash as CrashAt}
use Rattle.vx_grouped.specs.GroupSites.{DownNoted, FitsPlain, idle_below, idle_disks, with_note}
use Rattle.vx_grouped.specs.SetFuses.{HasFuse}
use Rattle.vx_grouped.specs.declared.group_site.GroupSite.{GroupSite}
use Rattle.vx_grouped.specs.declared.group_site.GroupSite.TheVariants.{Up as SiteUp, Deported as SiteAway, Down as SiteDown, Marked, Gone as SiteGone}
use Rattle.vx_diskset.proofs.GroupStands.{IsLikeGroup, down_like}
use Rattle.vx_diskset.proofs.OverLikes.{over_like}
use Rattle.vx_diskset.specs.Aboves.{site_in}
use Rattle.vx_diskset.specs.Asked.{FailsAs, FusedAs, SameFailing}
use Rattle.vx_diskset.specs.Blames.{IsGroupDisk}
use Rattle.vx_diskset.specs.DiskSets.{CrashedAt, fell_to}
use Rattle.vx_diskset.specs.GroupSets.{cut_value}
use Rattle.vx_diskset.specs.Holds.{KeptBeside, KeptSite, beside_of, itself, sure_of}
use Rattle.vx_diskset.specs.Layouts.{units_of}
use Rattle.vx_diskset.specs.Noted.{NotedOn, NotedOver, RestsNamed, SiteNoted, below_rvg}
use Rattle.vx_diskset.specs.OverKeeps.{KeptBy, StaysHere}
use Rattle.vx_diskset.specs.Stands.{OverStands, SiteStands}
use Rattle.vx_diskset.specs.declared.disk_set.DiskSet.{DiskSet}
use Rattle.vx_diskset.specs.declared.disk_set.DiskSet.TheVariants.{Over}
use Rattle.vx_diskset.specs.declared.over_set.OverSet.{OverSet}
use Rattle.vx_diskset.specs.declared.over_set.OverSite.{OverSite}
use Rattle.vx_diskset.specs.declared.over_set.OverSite.TheVariants.{Origin as OriginSite, Receiver as ReceiverSite, Deported as GroupAway, Down as GroupFell, Gone as NoGroup}
use Rattle.vx_events.proofs.Places.{never_some, some_same}
use Rattle.vx_events.proofs.RvgEvents.{rvg_apart}
use Rattle.vx_events.proofs.Steps.{crash_step}
use Rattle.vx_events.specs.Effects.{EffectAt}
use Rattle.vx_events.specs.Facts.{volume_fact}
use Rattle.vx_events.specs.GroupLines.{noting}
use Rattle.vx_events.specs.GroupNotes.{note_at}
use Rattle.vx_events.specs.LinksFit.{LinksFit}
use Rattle.vx_events.specs.Lists.{crash_count, kept_while}
use Rattle.vx_events.specs.RvgFits.{entries_noted, rvg_noted}
use Rattle.vx_events.specs.RvgViews.{is_over_rvg, over_table}
use Rattle.vx_yard.proofs.ApplySite.{comes_effect, worked_effect}
use Rattle.vx_yard.proofs.Carrying.{LetsGo, carries_let}
use Rattle.vx_yard.proofs.CrashSite.{crash_comes, crash_gathering, crash_node, crash_sent, crashed_node, down_up}
use Rattle.vx_yard.proofs.FuseStays.{fused_none}
use Rattle.vx_yard.proofs.NoteSite.{comes_then}
use Rattle.vx_yard.proofs.OneSite.{Comes, stands_at, told_by}
use Rattle.vx_yard.proofs.OverGroup.{begins_apart}
use Rattle.vx_yard.proofs.Rows.{apart_same, facts_is, fact_from}
use Rattle.vx_yard.specs.Standing.{BeginsFirst, StandsFor, crash_of}
use Rattle.vx_yard.specs.declared.yard.Yard.{Yard}
use Rattle.vx_above.proofs.OverComes.{none_still, on_still}
use Rattle.vx_above.proofs.OverSites.{over_again}
use Rattle.vx_group_lines.proofs.BelowUp.{BelowAs, BelowCalled, NotesBelow, NotesStill, below_as, changed_over, none_cut, notes_still, same_cut, same_rvg, same_units, there_before}
use Rattle.vx_group_lines.proofs.GroupEnding.{world_up}
use Rattle.vx_group_lines.proofs.GroupLeads.{Follows}
use Rattle.vx_group_lines.proofs.RvgReturns.{named_again}

-- ---- the crash

-- the world behind one of a site, which kept so many writes if it was halted
abbrev pub crash_kept : Doubted → ℕ → ℕ → Doubted
crash_kept d s count = happened d (CrashAt s (crash_count (d.world.nodes s) count)) false

-- and with this note
abbrev pub world_kept : Doubted → ℕ → ℕ → GroupNode → Doubted
world_kept d s count k = world_up (crash_kept d s count) s k

-- two crashes that keep as many writes are one
crash_as : (d : Doubted) (s j k : ℕ) → s < d.world.sites → (d.world.nodes s).state ≡ IsUp → kept_of (d.world.nodes s) j ≡ kept_of (d.world.nodes s) k → happened d (CrashAt s j) false ≡ happened d (CrashAt s k) false
crash_as d s j k below up same =
    ap (λ (o : Outcome). let x : Doubted = record (resolved_at d s false) { world = (headers_counted d.world (CrashAt s 0) o).world } in x)
    (crash_step d.world s j below up ∙ ap (λ (x : ℕ). done (crash_at d.world s x)) same ∙ sym (crash_step d.world s k below up))

-- a site all of whose writes are durable keeps them
all_kept : (n : Node) (count : ℕ) → length n.log ≤ n.safe → n.safe ≤ count → count ≤ length n.log → kept_of n count ≡ kept_of n n.safe
all_kept n count durable least most = omega (arith, durable, least, most)

-- so one that keeps so many is told of by how many a line keeps
kept_counts : (n : Node) (count : ℕ) → (n.halted ≡ None → length n.log ≤ n.safe) → n.safe ≤ count → count ≤ length n.log → kept_of n count ≡ kept_of n (crash_count n count)
kept_counts n count durable least most = by n.halted refl
  where
    by : (o : Option ℕ) → n.halted ≡ o → kept_of n count ≡ kept_of n (crash_count n count)
    by None is = all_kept n count (durable is) least most ∙ sym (ap (λ (x : Option ℕ). kept_of n (kept_while x n.safe count)) is)
    by (Some disk) is = sym (ap (λ (x : Option ℕ). kept_of n (kept_while x n.safe count)) is)

-- so many writes are kept of those of the site
pub record FellSo {R : Type 0} {g : Ghosts R} (beside : KeptBeside) (n : Node) (p : OverSet R g) : Type 0 where
  pub count : ℕ
  pub least : n.safe ≤ count
  pub most : count ≤ length n.log
  pub stands : SiteStands (sure_of (itself beside n)) (fell_to n n count) (Over p)

-- of a crash nothing but the disks of the group is noted
fell_like : (n : Node) (k : GroupNode) (m : Node) → m.state ≡ IsDown → m.disks ≡ n.disks → m.blocks ≡ n.blocks → m.group ≡ Some k → m.fuse ≡ NoFuse → IsLikeGroup (crashed (with_note k (below_rvg n)) 0) (below_rvg m)
fell_like n k m state disks blocks group fuse = record {
  state = sym state;
  disks = sym disks;
  blocks = sym blocks;
  group = sym group;
  none = λ none. record { role = refl; volumes = refl; log = refl; safe = refl; running = refl };
  fuse = λ x has. subst (λ (f : Fuse). HasFuse f x) (sym fuse) has;
  unfused = λ none. fuse;
}

module _ {R : Type 0} {g : Ghosts R} where
  -- writes arise at the site, and while it runs all are durable
  running_durable : (beside : KeptBeside) (n : Node) (s : OverSite R g) → n.state ≡ IsUp → is_origin n.role ≡ true → OverStands beside n s → n.halted ≡ None → length n.log ≤ n.safe
  running_durable beside n (OriginSite f) up origin it running = it.durable running
  running_durable beside n (ReceiverSite f) up origin it running = absurd (let clash : true ≡ false = sym origin ∙ it.role in cc)
  running_durable beside n (GroupAway idle) up origin it running = absurd (let clash = sym it.0 ∙ up in cc)
  running_durable beside n (GroupFell idle) up origin it running = absurd (down_up (sym it.0 ∙ up))
  running_durable beside n NoGroup up origin it running = absurd it

  -- the yard stands for such a crash, and carries it
  pub record FollowsOff (d : Doubted) (s : ℕ) (k : GroupNode) (old new : Yard R g) : Type 0 where
    pub count : ℕ
    pub follows : Follows d (world_kept d s count k) old new

  -- the disks crashed
  off_kept : (beside : KeptBeside) (n m : Node) (note : GroupNode) (p : OverSet R g) (e : GroupSite R g) → DownNoted m note e → (StaysHere e → KeptBy beside n p e) → CrashedAt beside n (Over p)
  off_kept beside n m note p (SiteUp laid) it by = absurd it
  off_kept beside n m note p (SiteAway idle) it by = absurd it
  off_kept beside n m note p (SiteDown idle) it by = by tt
  off_kept beside n m note p (Marked rack) it by = absurd it
  off_kept beside n m note p SiteGone it by = absurd it

  fell_itself : (beside : KeptBeside) (n : Node) (p : OverSet R g) (kept : KeptSite) → kept ≡ itself beside n → (count : ℕ) → kept.node.safe ≤ count → count ≤ length kept.node.log → SiteStands (sure_of kept) (fell_to n kept.node count) (Over p) → FellSo beside n p
  fell_itself beside n p kept own =
      subst (λ (x : KeptSite). (count : ℕ) → x.node.safe ≤ count → count ≤ length x.node.log → SiteStands (sure_of x) (fell_to n x.node count) (Over p) → FellSo beside n p) (sym own)
      (λ count least most stands. record { count = count; least = least; most = most; stands = stands })

  pub fell_so : (beside : KeptBeside) (n : Node) (p : OverSet R g) → beside.doubt ≡ None → CrashedAt beside n (Over p) → FellSo beside n p
  fell_so beside n p sure fell = fell_itself beside n p fell.kept (by fell.is) fell.count fell.least fell.most fell.stands
    where
      by : (fell.kept ≡ itself beside n) ⊎ (beside.doubt ≡ Some fell.kept) → fell.kept ≡ itself beside n
      by (inl own) = own
      by (inr doubt) = absurd (never_some (sym sure ∙ doubt))

  on_down : (n m : Node) (note : GroupNode) (e : GroupSite R g) → IsLikeGroup n m → DownNoted n note e → NotedOn m note e
  on_down n m note (SiteUp laid) like it = absurd it
  on_down n m note (SiteAway idle) like it = absurd it
  on_down n m note (SiteDown idle) like it = down_like n m like note idle.agreed (idle_below idle).tells (idle_disks idle) it
  on_down n m note (Marked rack) like it = absurd it
  on_down n m note SiteGone like it = absurd it

  module _ (d : Doubted) (old new : Yard R g) (name : List ℕ) (s : ℕ) (before after : DiskSet R g) (p : OverSet R g) (stands : StandsFor d old) (call : BelowAs d old new name s before after p)
      (k : GroupNode) (noted : DownNoted (crashed (with_note k (below_rvg (d.world.nodes s))) 0) k (site_in p)) (notes : NotesStill (note_at (d.world.nodes s)) k)
      (cut : cut_value p.cut ≡ k.cut) (fits_cut : (x : Write) → k.cut ≡ Some x → FitsPlain k x.volume x.start (length x.bytes))
      (rests : (units : Units) → rvg_noted k ≡ Some units → RestsNamed units (length (entries_noted k)) (site_in p)) (table : over_table (with_note k (d.world.nodes s)) k ≡ over_table (d.world.nodes s) (note_at (d.world.nodes s))) where
    abbrev n : Node
    n = d.world.nodes s

    abbrev note : GroupNode
    note = note_at (d.world.nodes s)

    -- how it crashed
    fell : FellSo (beside_of d s) (d.world.nodes s) p
    fell =
        fell_so (beside_of d s) n p call.at.stands.0.1
        (off_kept (beside_of d s) n (crashed (with_note k (below_rvg n)) 0) k p (site_in p) noted (call.kept.each (beside_of d s) n call.at.stands call.up))

    kept_same : kept_of n fell.count ≡ kept_of n (crash_count n fell.count)
    kept_same = kept_counts n fell.count (running_durable (beside_of d s) n call.at.set.site call.up call.at.stands.0.5 call.at.stands.1) fell.least fell.most

    abbrev e : Doubted
    e = crash_of d s fell.count false

    abbrev c : Node
    c = crashed_node (d.world.nodes s) (d.world.nodes s) fell.count

    abbrev m : Node
    m = with_note k (crashed_node (d.world.nodes s) (d.world.nodes s) fell.count)

    node : e.world.nodes s ≡ c
    node = crash_node d s fell.count false n (d.world.links s) refl (λ j. refl) (λ _. refl) call.at.seat.below call.up fell.least fell.most

    comes_fell : Comes d e s (Over p)
    comes_fell =
        crash_comes d s fell.count false n (d.world.links s) refl (λ j. refl) (λ _. refl) call.at.seat.below call.up fell.least fell.most before (Over p) stands.links
        (stands.failing s before call.at.seat.below (there_before d old new name s before after p stands call)) (subst (λ (x : DiskSet R g). SameFailing before x) call.is call.failing) fell.stands

    -- ---- with the note

    abbrev begun : Doubted
    begun = record e { world = noting e.world s k }

    abbrev first : Node
    first = record (e.world.nodes s) { group = Some k }

    abbrev m_there : Node
    m_there = with_note k (e.world.nodes s)

    effect : EffectAt s e (world_up e s k) m_there (e.world.links s) (e.world.headers s) (e.after s) e.world.packets (e.world.gathering s)
    effect = worked_effect s e begun first (e.world.links s) (e.world.headers s) (e.after s) e.world.packets (e.world.gathering s) (note_effect e s first)

    fits : LinksFit (world_up e s k)
    fits = fit_worked begun s (fit_note e s first refl refl refl (record { quiet = λ is. is; rests = λ is. is }) comes_fell.links)

    here : m_there ≡ m
    here = ap (λ (x : Node). with_note k x) node

    units_here : units_of m ≡ units_of n
    units_here = same_units d old new name s before after p stands call k notes.keeps

    units_there : units_of m_there ≡ units_of (e.world.nodes s)
    units_there = units_here ∙ sym (ap (λ (x : Node). units_of x) node)

    stood : SiteStands (beside_of e s) m_there (Over p)
    stood = over_like (beside_of e s) (e.world.nodes s) m_there p refl (λ none. never_some (sym none)) units_there (λ x lit. on_still (e.world.nodes s).fuse x lit) (λ none. none_still (e.world.nodes s).fuse none) comes_fell.stands

    fails : FailsAs m_there (Over p)
    fails = let was = comes_fell.failing in record { told = λ x told u on. was.told x told u on }

    fused : FusedAs m_there (Over p)
    fused = fused_none m_there (Over p) (ap (λ (x : Node). burned x.fuse) node)

    comes : Comes d (world_up e s k) s (Over p)
    comes =
        comes_then d e (world_up e s k) s (Over p) (Over p) comes_fell
        (comes_effect e (world_up e s k) s m_there e.world.packets (e.world.gathering s) (Over p) effect fits refl refl refl refl refl stood fails fused comes_fell.role)

    node_now : (world_up e s k).world.nodes s ≡ m
    node_now = effect.is.node ∙ here

    still_over : is_over_rvg m ≡ true
    still_over = over_again n m k call.at.over refl refl

    named_now : rvg_noted k ≡ Some (units_of m)
    named_now = same_rvg d old new name s before after p stands call k notes.keeps ∙ call.at.noted.3.named ∙ ap (λ (us : Units). Some us) (sym units_here)

    site_now : SiteNoted m k (Over p)
    site_now = (
      on_down (crashed (with_note k (below_rvg n)) 0) (below_rvg m) k (site_in p) (fell_like n k m refl refl refl refl refl) noted,
      cut,
      λ u inside. ap (λ (f : ℕ → Bool). f u) notes.inside ∙ call.at.noted.2 u (subst (λ (us : Units). IsGroupDisk us u) units_here inside),
      record { tidy = notes.tidy; named = named_now },
      rests (units_of m) named_now,
    )

    noted_now : NotedOver m (Over p)
    noted_now = ((λ other there. subst (λ (x : GroupNode). SiteNoted m x (Over p)) (some_same there) site_now), named_again n m k refl refl notes.keeps (λ up. absurd (down_up up), fits_cut) call.at.named)

    seen : down_fact (fact_from n (d.world.links s) d.world.sites) ≡ fact_from m ((world_up e s k).world.links s) (world_up e s k).world.sites
    seen = facts_is (down_fact (fact_from n (d.world.links s) d.world.sites)) (fact_from m ((world_up e s k).world.links s) (world_up e s k).world.sites) refl refl refl refl
        (call.at.over ∙ sym still_over)
        (ap (λ (b : Bool). if b then over_table n note else map volume_fact n.volumes) call.at.over ∙ sym table ∙ sym (ap (λ (b : Bool). if b then over_table m k else map volume_fact m.volumes) still_over)) refl refl

    fell_follows : new.facts.items ≡ slice_set old.facts.items s (down_fact (fact_from (d.world.nodes s) (d.world.links s) d.world.sites)) → LetsGo old new s → Follows d (world_up e s k) old new
    fell_follows facts lets = record {
      stands = stands_at d (world_up e s k) old new s (down_fact (fact_from n (d.world.links s) d.world.sites)) before (Over p) stands call.at.seat.below (changed_over d old new name s before after p stands call) comes
          (λ _. subst (λ (x : Node). BeginsFirst s x) (sym node_now) (begins_apart s (beside_of e s) m (Over p) (subst (λ (x : Node). SiteStands (beside_of e s) x (Over p)) here stood) (rvg_apart m still_over)))
          (λ _. subst (λ (x : Node). NotedOver x (Over p)) (sym node_now) noted_now)
          (seen ∙ sym (apart_same m ((world_up e s k).world.nodes s) ((world_up e s k).world.links s) ((world_up e s k).world.links s) (world_up e s k).world.sites (world_up e s k).world.sites
          (rvg_apart m still_over) node_now (λ j. refl) refl)) facts;
      carries = λ carries.
          carries_let s d (world_up e s k) old new lets (omega (arith, call.at.seat.below, stands.disk_sets.few)) comes.changes
          (effect.sent ∙ crash_sent d s fell.count false n (d.world.links s) refl (λ j. refl) (λ _. refl) call.at.seat.below call.up fell.least fell.most)
          (effect.gathering ∙ crash_gathering d s fell.count false n (d.world.links s) refl (λ j. refl) (λ _. refl) call.at.seat.below call.up fell.least fell.most)
          (λ is_up. down_up (sym (ap (λ (x : Node). x.state) node_now) ∙ is_up)) (told_by old new s before (Over p) (changed_over d old new name s before after p stands call)) carries;
    }

    pub fell_by : new.facts.items ≡ slice_set old.facts.items s (down_fact (fact_from (d.world.nodes s) (d.world.links s) d.world.sites)) → LetsGo old new s → FollowsOff d s k old new
    fell_by facts lets = record {
      count = fell.count;
      follows = subst (λ (x : Doubted). Follows d (world_up x s k) old new) (crash_as d s fell.count (crash_count (d.world.nodes s) fell.count) call.at.seat.below call.up kept_same) (fell_follows facts lets);
    }

  -- where no write is cut
  module _ (d : Doubted) (old new : Yard R g) (name : List ℕ) (s : ℕ) (before after : DiskSet R g) (p : OverSet R g) (stands : StandsFor d old) (call : BelowCalled d old new name s before after p)
      (k : GroupNode) (noted : DownNoted (crashed (with_note k (below_rvg (d.world.nodes s))) 0) k (site_in p)) (notes : NotesBelow (note_at (d.world.nodes s)) k)
      (rests : (units : Units) → rvg_noted k ≡ Some units → RestsNamed units (length (entries_noted k)) (site_in p)) (table : over_table (with_note k (d.world.nodes s)) k ≡ over_table (d.world.nodes s) (note_at (d.world.nodes s))) where
    clear : k.cut ≡ None
    clear = notes.cut ∙ none_cut d old new name s before after p stands call

    pub below_fell : new.facts.items ≡ slice_set old.facts.items s (down_fact (fact_from (d.world.nodes s) (d.world.links s) d.world.sites)) → LetsGo old new s → FollowsOff d s k old new
    below_fell =
        fell_by d old new name s before after p stands (below_as d old new name s before after p call) k noted (notes_still (note_at (d.world.nodes s)) k notes) (same_cut d old new name s before after p stands call k notes.cut)
        (λ x is. absurd (never_some (sym clear ∙ is))) rests table
