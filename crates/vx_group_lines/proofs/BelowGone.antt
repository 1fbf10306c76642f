-- What a deport of the group below a replicated volume group leads the yard of a site to: the site has the writes that are durable.
use Rattle.std.proofs.Common.{◌≡◌, ◌∙◌, ◌≤◌, ℕ, Bool, true, false, List, map, length, ap, sym, subst, refl, arith}
use Rattle.std.proofs.lemmas.Bool.{false_from_ne_true}
use Rattle.std.proofs.lemmas.List.{length-take}
use Rattle.std.specs.Prelude.{Option, Some, None, if◌then◌else◌, slice_get, slice_set, take}
use Rattle.vx_model.specs.declared.site.SiteState.TheVariants.{Up as IsUp, Deported as IsDeported}
use Rattle.vx_model.specs.declared.units.Units.{Units}
use Rattle.vx_disk.specs.declared.shelf.Shelf.{Ghosts}
use Rattle.vx_effects.proofs.Effects.{changes_then}
use Rattle.vx_effects.proofs.Fitting.{fit_happened}
use Rattle.vx_effects.proofs.Groups.{deport_effect}
use Rattle.vx_effects.proofs.Leaving.{fit_note, fit_worked}
use Rattle.vx_effects.proofs.Rises.{note_effect}
use Rattle.vx_effects.proofs.Rows.{touch_kept}
use Rattle.vx_history.specs.Doubts.{After, Doubted, happened}
use Rattle.vx_history.specs.Events.{kept_of, lost_touch}
use Rattle.vx_history.specs.Groups.{GroupNode}
use Rattle.vx_history.specs.Steps.{burned, crashed, deported_site, worked_on}
use Rattle.vx_history.specs.World.{Fuse, Node, World}
use Rattle.vx_history.specs.declared.event.Event.TheVariants.{Deport as DeportAt}
use Rattle.vx_watched.specs.Since.{CalledSince}
use Rattle.vx_grouped.specs.GroupSites.{AwayNoted, deported_with, idle_below, idle_disks, site_disks, with_note}
use Rattle.vx_grouped.specs.SetFuses.{HasFuse}
use Rattle.vx_grouped.specs.declared.group_site.GroupSite.{GroupSite}
use Rattle.vx_grouped.specs.declared.group_site.GroupSite.TheVariants.{Up as SiteUp, Deported as SiteAway, Down as SiteDown, Marked, Gone as SiteGone}
use Rattle.vx_grouped.specs.declared.idle.Idle.{Idle}
use Rattle.vx_diskset.proofs.Fallen.{running_sure}
use Rattle.vx_diskset.proofs.GroupStands.{IsLikeGroup, away_like}
use Rattle.vx_diskset.proofs.NotedLikes.{cut_none}
use Rattle.vx_diskset.proofs.OverLikes.{over_like}
use Rattle.vx_diskset.specs.Aboves.{above_site, below_site, site_in}
use Rattle.vx_diskset.specs.Asked.{FailsAs, FusedAs}
use Rattle.vx_diskset.specs.Blames.{IsGroupDisk}
use Rattle.vx_diskset.specs.GroupCalls.{CalledOn}
use Rattle.vx_diskset.specs.Holds.{KeptBeside, beside_of, doubt_of, row_links}
use Rattle.vx_diskset.specs.Layouts.{units_of}
use Rattle.vx_diskset.specs.Noted.{NotedOn, NotedOver, RestsNamed, SiteNoted, below_rvg}
use Rattle.vx_diskset.specs.OverAways.{given_up}
use Rattle.vx_diskset.specs.Stands.{OverStands, RoleBy, RoleIs, SiteStands}
use Rattle.vx_diskset.specs.declared.disk_set.DiskSet.{DiskSet}
use Rattle.vx_diskset.specs.declared.disk_set.DiskSet.TheVariants.{Over}
use Rattle.vx_diskset.specs.declared.over_set.OverSet.{OverSet}
use Rattle.vx_diskset.specs.declared.over_set.OverSite.{OverSite}
use Rattle.vx_diskset.specs.declared.over_set.OverSite.TheVariants.{Origin as OriginSite, Receiver as ReceiverSite, Deported as OverAway, Down as OverFell, Gone as NoGroup}
use Rattle.vx_events.proofs.Places.{never_some, some_same}
use Rattle.vx_events.proofs.RvgEvents.{rvg_apart}
use Rattle.vx_events.specs.Effects.{ChangesNode, EffectAt}
use Rattle.vx_events.specs.Facts.{volume_fact}
use Rattle.vx_events.specs.GroupLines.{noting}
use Rattle.vx_events.specs.GroupNotes.{note_at}
use Rattle.vx_events.specs.LinksFit.{LinksFit}
use Rattle.vx_events.specs.RvgFits.{entries_noted, rvg_noted}
use Rattle.vx_events.specs.RvgViews.{is_over_rvg, over_table}
use Rattle.vx_yard.proofs.ApplySite.{worked_effect}
use Rattle.vx_yard.proofs.Carrying.{LetsGo, carries_let}
use Rattle.vx_yard.proofs.CrashSite.{beside_sure}
use Rattle.vx_yard.proofs.FailsStay.{fails_then}
use Rattle.vx_yard.proofs.OneSite.{Changed, Comes, stands_at, told_by}
use Rattle.vx_yard.proofs.OverGroup.{begins_apart}
use Rattle.vx_yard.proofs.Rows.{apart_same, facts_is, fact_from, row_links_same}
use Rattle.vx_yard.specs.GroupFacts.{deported_facts}
use Rattle.vx_yard.specs.Standing.{BeginsFirst, StandsFor}
use Rattle.vx_yard.specs.declared.yard.Yard.{Yard}
use Rattle.vx_above.proofs.FuseGoing.{fused_goes}
use Rattle.vx_above.proofs.OverSites.{over_again}
use Rattle.vx_group_lines.proofs.BelowUp.{BelowCalled, NotesBelow, below_as, changed_over, none_cut, same_cut, same_rvg, same_units, there_before}
use Rattle.vx_group_lines.proofs.GroupDeports.{site_away}
use Rattle.vx_group_lines.proofs.GroupLeads.{Follows}
use Rattle.vx_group_lines.proofs.RvgReturns.{named_again}

-- the worlds behind the deport, with this note
abbrev pub world_gone : Doubted → ℕ → GroupNode → Doubted
world_gone d s k = let e : Doubted = happened d (DeportAt s) false in record e { world = worked_on (noting e.world s k) s }

-- a deport keeps what is safe
kept_safe : (n : Node) → n.safe ≤ length n.log → kept_of n 0 ≡ n.safe
kept_safe n most = omega (arith, most)

no_after : (w : World) (s : ℕ) (o : Option After) → doubt_of w s o ≡ None → o ≡ None
no_after w s None is = refl
no_after w s (Some a) is = absurd (never_some (sym is))

-- of a deport nothing but the disks of the group is noted
gone_like : (n : Node) (k : GroupNode) (m : Node) → m.state ≡ IsDeported → m.disks ≡ n.disks → m.blocks ≡ n.blocks → m.group ≡ Some k → m.fuse ≡ burned n.fuse → IsLikeGroup (deported_with k (below_rvg n)) (below_rvg m)
gone_like n k m state disks blocks group fuse = record {
  state = sym state;
  disks = sym disks;
  blocks = sym blocks;
  group = sym group;
  none = λ none. record { role = refl; volumes = refl; log = refl; safe = refl; running = refl };
  fuse = λ x has. subst (λ (f : Fuse). HasFuse f x) (sym fuse) has;
  unfused = λ none. fuse ∙ none;
}

module _ {R : Type 0} {g : Ghosts R} where
  away_idle : (c : Node) (k : GroupNode) (e : GroupSite R g) → AwayNoted c k e → (idle : Idle R g) × (e ≡ SiteAway idle)
  away_idle c k (SiteUp laid) it = absurd it
  away_idle c k (SiteAway idle) it = (idle, refl)
  away_idle c k (SiteDown idle) it = absurd it
  away_idle c k (Marked rack) it = absurd it
  away_idle c k SiteGone it = absurd it

  on_away : (n m : Node) (note : GroupNode) (e : GroupSite R g) → IsLikeGroup n m → AwayNoted n note e → NotedOn m note e
  on_away n m note (SiteUp laid) like it = absurd it
  on_away n m note (SiteAway idle) like it = away_like n m like note idle.agreed (idle_below idle).tells (idle_disks idle) it
  on_away n m note (SiteDown idle) like it = absurd it
  on_away n m note (Marked rack) like it = absurd it
  on_away n m note SiteGone like it = absurd it

  -- over a group that was deported all writes are safe, and nothing stands
  gone_logged : (beside : KeptBeside) (n c : Node) (k : GroupNode) (x : OverSite R g) → AwayNoted c k (below_site x) → OverStands beside n x → length n.log ≡ n.safe
  gone_logged beside n c k (OriginSite founded) away it = absurd away
  gone_logged beside n c k (ReceiverSite founded) away it = absurd away
  gone_logged beside n c k (OverAway idle) away it = it.1.logged
  gone_logged beside n c k (OverFell idle) away it = absurd away
  gone_logged beside n c k NoGroup away it = absurd away

  gone_role : (n c : Node) (k : GroupNode) (x : OverSite R g) → AwayNoted c k (below_site x) → RoleBy n (above_site x)
  gone_role n c k (OriginSite founded) away = absurd away
  gone_role n c k (ReceiverSite founded) away = absurd away
  gone_role n c k (OverAway idle) away = tt
  gone_role n c k (OverFell idle) away = absurd away
  gone_role n c k NoGroup away = absurd away

  module _ (d : Doubted) (old new : Yard R g) (name : List ℕ) (s : ℕ) (before after : DiskSet R g) (p : OverSet R g) (stands : StandsFor d old) (call : BelowCalled d old new name s before after p)
      (running : (d.world.nodes s).halted ≡ None) (k : GroupNode) (noted : AwayNoted (deported_with k (below_rvg (d.world.nodes s))) k (site_in p)) (notes : NotesBelow (note_at (d.world.nodes s)) k)
      (rests : (units : Units) → rvg_noted k ≡ Some units → RestsNamed units (length (entries_noted k)) (site_in p))
      (away : (beside : KeptBeside) (n : Node) (idle : Idle R g) → SiteStands beside n (Over call.at.set) → n.state ≡ IsUp → n.halted ≡ None → site_in p ≡ SiteAway idle → SiteStands beside (given_up n) (Over p))
      (table : over_table (with_note k (d.world.nodes s)) k ≡ over_table (d.world.nodes s) (note_at (d.world.nodes s))) where
    abbrev n : Node
    n = d.world.nodes s

    abbrev note : GroupNode
    note = note_at (d.world.nodes s)

    abbrev o : OverSet R g
    o = call.at.set

    abbrev c : Node
    c = deported_with k (below_rvg (d.world.nodes s))

    -- as it is noted
    abbrev m : Node
    m = with_note k (deported_site (d.world.nodes s).fuse (crashed (d.world.nodes s) (d.world.nodes s).safe))

    abbrev h : Doubted
    h = happened d (DeportAt s) false

    abbrev begun : Doubted
    begun = let e : Doubted = happened d (DeportAt s) false in record e { world = noting e.world s k }

    abbrev first : Node
    first = let x : Node = (happened d (DeportAt s) false).world.nodes s in record x { group = Some k }

    abbrev last : Doubted
    last = world_gone d s k

    -- as the disks have it
    gave_up : SiteStands (beside_of d s) (given_up n) (Over p)
    gave_up = let there = away_idle c k (site_in p) noted in away (beside_of d s) n there.0 call.at.stands call.up running there.1

    most : n.safe ≤ length n.log
    most =
        let logged : length (take n.safe n.log) ≡ n.safe = gone_logged (beside_of d s) (given_up n) c k p.site noted gave_up.1 in
        omega (arith, logged, length-take n.safe n.log)

    changed_to : Changed old new s before (Over p)
    changed_to = changed_over d old new name s before after p stands (below_as d old new name s before after p call)

    before_there : slice_get old.disk_sets.items s ≡ Some before
    before_there = there_before d old new name s before after p stands (below_as d old new name s before after p call)

    -- ---- the deport, and then the note

    dropped : EffectAt s d h (deported_site n.fuse (crashed n (kept_of n 0))) (λ j. lost_touch (d.world.links s j)) (d.world.headers s) (d.after s) d.world.packets None
    dropped = deport_effect d s false (stands.links.rows s) call.at.seat.below call.up running

    effect : EffectAt s h last (with_note k (h.world.nodes s)) (h.world.links s) (h.world.headers s) (h.after s) h.world.packets (h.world.gathering s)
    effect = worked_effect s h begun first (h.world.links s) (h.world.headers s) (h.after s) h.world.packets (h.world.gathering s) (note_effect h s first)

    changes : ChangesNode s d last
    changes = changes_then s d h last dropped.site effect.site

    fits : LinksFit last
    fits = fit_worked begun s (fit_note h s first refl refl refl (record { quiet = λ is. is; rests = λ is. is }) (fit_happened d (DeportAt s) false tt stands.links))

    node_now : last.world.nodes s ≡ m
    node_now =
        effect.is.node ∙ ap (λ (x : Node). with_note k x) dropped.is.node
        ∙ ap (λ (j : ℕ). with_note k (deported_site n.fuse (crashed n j))) (kept_safe n most)

    links_now : (j : ℕ) → last.world.links s j ≡ lost_touch (d.world.links s j)
    links_now j = effect.is.links j ∙ dropped.is.links j

    sure : d.after s ≡ None
    sure = no_after d.world s (d.after s) (running_sure (beside_of d s) n (Over o) call.at.stands call.up running)

    sure_now : last.after s ≡ None
    sure_now = effect.is.after ∙ dropped.is.after ∙ sure

    beside_now : beside_of last s ≡ beside_of d s
    beside_now =
        beside_sure last s (row_links (d.world.links s) d.world.sites) (d.world.headers s)
        (row_links_same (λ j. lost_touch (d.world.links s j)) (last.world.links s) links_now last.world.sites
        ∙ ap (λ (many : ℕ). row_links (λ j. lost_touch (d.world.links s j)) many) changes.sites ∙ touch_kept (d.world.links s) d.world.sites)
        (effect.is.headers ∙ dropped.is.headers) sure_now
        ∙ sym (beside_sure d s (row_links (d.world.links s) d.world.sites) (d.world.headers s) refl refl sure)

    -- ---- its disks

    units_here : units_of m ≡ units_of n
    units_here = same_units d old new name s before after p stands (below_as d old new name s before after p call) k notes.keeps

    stood : SiteStands (beside_of d s) m (Over p)
    stood = over_like (beside_of d s) (given_up n) m p refl (λ none. never_some (sym none)) units_here (λ x lit. lit) (λ none. none) gave_up

    fails : FailsAs m (Over p)
    fails = subst (λ (x : DiskSet R g). FailsAs m x) call.is (fails_then n m before after refl call.failing (stands.failing s before call.at.seat.below before_there))

    since_below : CalledSince (site_disks (site_in o)) (site_disks (site_in p))
    since_below = subst (λ (x : DiskSet R g). CalledOn (Over o) x) call.is (subst (λ (x : DiskSet R g). CalledOn x after) call.at.is_set call.since)

    fused : FusedAs m (Over p)
    fused =
        fused_goes n m (Over o) (Over p) refl since_below.rack (λ x y was now. (since_below.told x y was now).fuse (false_from_ne_true (site_disks (site_in p)).down (site_away c k (site_in p) noted)))
        (subst (λ (x : DiskSet R g). FusedAs n x) call.at.is_set (stands.fuses s before call.at.seat.below before_there))

    kind : RoleIs m (Over p)
    kind = gone_role m c k p.site noted

    comes : Comes d last s (Over p)
    comes = record {
      changes = changes;
      links = fits;
      stands = subst (λ (x : Node). SiteStands (beside_of last s) x (Over p)) (sym node_now) (subst (λ (b : KeptBeside). SiteStands b m (Over p)) (sym beside_now) stood);
      failing = subst (λ (x : Node). FailsAs x (Over p)) (sym node_now) fails;
      fuse = subst (λ (x : Node). FusedAs x (Over p)) (sym node_now) fused;
      role = subst (λ (x : Node). RoleIs x (Over p)) (sym node_now) kind;
      doubt = λ was a some. absurd (never_some (sym sure_now ∙ some));
    }

    -- ---- what is noted, and what the tests see

    still_over : is_over_rvg m ≡ true
    still_over = over_again n m k call.at.over refl refl

    named_now : rvg_noted k ≡ Some (units_of m)
    named_now =
        same_rvg d old new name s before after p stands (below_as d old new name s before after p call) k notes.keeps ∙ call.at.noted.3.named ∙ ap (λ (us : Units). Some us) (sym units_here)

    site_now : SiteNoted m k (Over p)
    site_now = (
      on_away c (below_rvg m) k (site_in p) (gone_like n k m refl refl refl refl refl) noted,
      same_cut d old new name s before after p stands call k notes.cut,
      λ u inside. ap (λ (f : ℕ → Bool). f u) notes.inside ∙ call.at.noted.2 u (subst (λ (us : Units). IsGroupDisk us u) units_here inside),
      record { tidy = notes.tidy; named = named_now },
      rests (units_of m) named_now,
    )

    noted_now : NotedOver m (Over p)
    noted_now = (
      (λ other there. subst (λ (x : GroupNode). SiteNoted m x (Over p)) (some_same there) site_now),
      named_again n m k refl refl notes.keeps (cut_none m k refl (notes.cut ∙ none_cut d old new name s before after p stands call)) call.at.named,
    )

    seen : deported_facts (fact_from n (d.world.links s) d.world.sites) ≡ fact_from m (last.world.links s) last.world.sites
    seen = facts_is (deported_facts (fact_from n (d.world.links s) d.world.sites)) (fact_from m (last.world.links s) last.world.sites) refl refl refl refl
        (call.at.over ∙ sym still_over)
        (ap (λ (b : Bool). if b then over_table n note else map volume_fact n.volumes) call.at.over ∙ sym table ∙ sym (ap (λ (b : Bool). if b then over_table m k else map volume_fact m.volumes) still_over)) refl refl

    -- the yard stands for it, and carries it
    pub below_gone : new.facts.items ≡ slice_set old.facts.items s (deported_facts (fact_from (d.world.nodes s) (d.world.links s) d.world.sites)) → LetsGo old new s → Follows d (world_gone d s k) old new
    below_gone facts lets = record {
      stands = stands_at d last old new s (deported_facts (fact_from n (d.world.links s) d.world.sites)) before (Over p) stands call.at.seat.below changed_to comes
          (λ _. subst (λ (x : Node). BeginsFirst s x) (sym node_now) (begins_apart s (beside_of d s) m (Over p) stood (rvg_apart m still_over)))
          (λ _. subst (λ (x : Node). NotedOver x (Over p)) (sym node_now) noted_now)
          (seen ∙ sym (apart_same m (last.world.nodes s) (last.world.links s) (last.world.links s) last.world.sites last.world.sites (rvg_apart m still_over) node_now (λ j. refl) refl)) facts;
      carries = λ carries.
          carries_let s d last old new lets (omega (arith, call.at.seat.below, stands.disk_sets.few)) changes (effect.sent ∙ dropped.sent) (effect.gathering ∙ dropped.gathering)
          (λ is_up. let clash : IsDeported ≡ IsUp = sym (ap (λ (x : Node). x.state) node_now) ∙ is_up in absurd (cc)) (told_by old new s before (Over p) changed_to) carries;
    }
