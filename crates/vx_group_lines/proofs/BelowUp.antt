-- What calls on the group below a replicated volume group lead the yard of a site to that is up still.
use Rattle.std.proofs.Common.{◌≡◌, ◌∙◌, ℕ, Bool, true, List, length, ap, sym, subst, refl}
use Rattle.std.proofs.lemmas.Bool.{false_from_ne_true}
use Rattle.std.specs.Prelude.{Option, Some, None, IsTrue, slice_get, slice_set}
use Rattle.vx_model.specs.declared.site.SiteState.TheVariants.{Up as IsUp}
use Rattle.vx_model.specs.declared.units.Units.{Units}
use Rattle.vx_disk.specs.declared.shelf.Shelf.{Ghosts}
use Rattle.vx_config.specs.declared.config.Config.{Config}
use Rattle.vx_effects.proofs.Leaving.{fit_note, fit_worked}
use Rattle.vx_effects.proofs.Rises.{note_effect}
use Rattle.vx_history.specs.Doubts.{Doubted}
use Rattle.vx_history.specs.Groups.{GroupNode}
use Rattle.vx_history.specs.Steps.{worked}
use Rattle.vx_history.specs.World.{Node}
use Rattle.vx_order.specs.declared.facts.SiteFacts.{SiteFacts}
use Rattle.vx_watched.specs.Since.{CalledSince}
use Rattle.vx_grouped.specs.GroupSites.{UpNoted, site_disks, with_note}
use Rattle.vx_grouped.specs.declared.group_site.GroupSite.{GroupSite}
use Rattle.vx_grouped.specs.declared.group_site.GroupSite.TheVariants.{Up as SiteUp, Deported as SiteAway, Down as SiteDown, Marked, Gone as SiteGone}
use Rattle.vx_diskset.proofs.NotedLikes.{cut_none}
use Rattle.vx_diskset.proofs.OverLikes.{over_like}
use Rattle.vx_diskset.proofs.OverNoted.{up_named, up_noted}
use Rattle.vx_diskset.specs.Aboves.{site_in}
use Rattle.vx_diskset.specs.Asked.{FailsAs, FusedAs, SameFailing}
use Rattle.vx_diskset.specs.Blames.{IsGroupDisk}
use Rattle.vx_diskset.specs.GroupCalls.{CalledOn}
use Rattle.vx_diskset.specs.GroupSets.{cut_value}
use Rattle.vx_diskset.specs.Holds.{KeptBeside, beside_of}
use Rattle.vx_diskset.specs.Layouts.{config_units, units_by, units_of, units_or}
use Rattle.vx_diskset.specs.Noted.{IsNoteTidy, NotedOver, SiteNoted, below_rvg}
use Rattle.vx_diskset.specs.OverKeeps.{KeepsOver, KeptBy, StaysHere}
use Rattle.vx_diskset.specs.OverPlains.{OnOver}
use Rattle.vx_diskset.specs.Stands.{RoleIs, SiteStands}
use Rattle.vx_diskset.specs.declared.disk_set.DiskSet.{DiskSet}
use Rattle.vx_diskset.specs.declared.disk_set.DiskSet.TheVariants.{Bare, Spoiled, Up as RaisedSet, Receives, Down as DownSet, OfGroup, Over, Gone as GoneSet}
use Rattle.vx_diskset.specs.declared.over_set.OverSet.{OverSet}
use Rattle.vx_events.proofs.Places.{never_some, some_same}
use Rattle.vx_events.proofs.RvgEvents.{rvg_apart}
use Rattle.vx_events.specs.Effects.{EffectAt}
use Rattle.vx_events.specs.GroupLines.{noting}
use Rattle.vx_events.specs.GroupNotes.{note_at}
use Rattle.vx_events.specs.GroupViews.{config_of}
use Rattle.vx_events.specs.LinksFit.{LinksFit}
use Rattle.vx_events.specs.RvgFits.{KeptConfig, NoteKeepsRvg, config_rvg, entries_noted, rvg_noted}
use Rattle.vx_events.specs.RvgViews.{is_over_rvg}
use Rattle.vx_yard.proofs.ApplySite.{comes_effect, worked_effect}
use Rattle.vx_yard.proofs.Carrying.{SameLoad, carries_at, feeds_like}
use Rattle.vx_yard.proofs.FailsStay.{fails_then}
use Rattle.vx_yard.proofs.OneSite.{Changed, Comes, stands_at, told_by}
use Rattle.vx_yard.proofs.OverGroup.{begins_apart}
use Rattle.vx_yard.proofs.Rows.{apart_same, fact_from}
use Rattle.vx_yard.specs.Standing.{BeginsFirst, StandsFor}
use Rattle.vx_yard.specs.declared.yard.Yard.{Yard}
use Rattle.vx_above.proofs.FuseGoing.{fused_goes}
use Rattle.vx_above.proofs.OverSites.{note_is, over_again}
use Rattle.vx_group_lines.proofs.BelowAt.{BelowAt}
use Rattle.vx_group_lines.proofs.GroupEnding.{world_up}
use Rattle.vx_group_lines.proofs.GroupLeads.{Follows}
use Rattle.vx_group_lines.proofs.RvgReturns.{named_again}

-- What is noted of it is the same but for the configuration, which names the same replicated volume group with the same volumes; and imports may disagree where a
-- configuration is begun.
pub record NotesBelow (note next : GroupNode) : Type 0 where
  pub keeps : NoteKeepsRvg note next
  pub tidy : IsNoteTidy next
  pub cut : next.cut ≡ note.cut
  pub inside : next.inside ≡ note.inside

-- the same, whatever write is cut
pub record NotesStill (note next : GroupNode) : Type 0 where
  pub keeps : NoteKeepsRvg note next
  pub tidy : IsNoteTidy next
  pub inside : next.inside ≡ note.inside

pub notes_still : (note next : GroupNode) → NotesBelow note next → NotesStill note next
notes_still note next it = record { keeps = it.keeps; tidy = it.tidy; inside = it.inside }

module _ {R : Type 0} {g : Ghosts R} where
  -- the disks behind a call, of which this holds
  pub record OverBehind (P : OverSet R g → Type 0) (e : DiskSet R g) : Type 0 where
    pub set : OverSet R g
    pub is : e ≡ Over set
    pub holds : P set

  over_behind : (P : OverSet R g → OverSet R g → Type 0) (o : OverSet R g) (e : DiskSet R g) → OnOver P (Over o) e → OverBehind (P o) e
  over_behind P o (Bare rack) it = absurd it
  over_behind P o (Spoiled rack) it = absurd it
  over_behind P o (RaisedSet rvg) it = absurd it
  over_behind P o (Receives s) it = absurd it
  over_behind P o (DownSet rack) it = absurd it
  over_behind P o (OfGroup set) it = absurd it
  over_behind P o (Over set) it = record { set = set; is = refl; holds = it }
  over_behind P o GoneSet it = absurd it

  pub overs_behind : (P : OverSet R g → OverSet R g → Type 0) (before after : DiskSet R g) (o : OverSet R g) → before ≡ Over o → OnOver P before after → OverBehind (P o) after
  overs_behind P before after o is it = over_behind P o after (subst (λ (x : DiskSet R g). OnOver P x after) is it)

  -- a call on the group, and what it left of the yard
  pub record BelowAs (d : Doubted) (old new : Yard R g) (name : List ℕ) (s : ℕ) (before after : DiskSet R g) (p : OverSet R g) : Type 0 where
    pub at : BelowAt d old name s before
    pub up : (d.world.nodes s).state ≡ IsUp
    pub changed : Changed old new s before after
    pub failing : SameFailing before after
    pub since : CalledOn before after
    pub is : after ≡ Over p
    pub kept : KeepsOver at.set p

  -- one in which no write is cut
  pub record BelowCalled (d : Doubted) (old new : Yard R g) (name : List ℕ) (s : ℕ) (before after : DiskSet R g) (p : OverSet R g) : Type 0 where
    pub at : BelowAt d old name s before
    pub up : (d.world.nodes s).state ≡ IsUp
    pub changed : Changed old new s before after
    pub failing : SameFailing before after
    pub since : CalledOn before after
    pub is : after ≡ Over p
    pub cut : p.cut ≡ at.set.cut
    pub kept : KeepsOver at.set p

  pub below_as : (d : Doubted) (old new : Yard R g) (name : List ℕ) (s : ℕ) (before after : DiskSet R g) (p : OverSet R g) → BelowCalled d old new name s before after p → BelowAs d old new name s before after p
  below_as d old new name s before after p it =
      record { at = it.at; up = it.up; changed = it.changed; failing = it.failing; since = it.since; is = it.is; kept = it.kept }

  -- the disks of a group that is up are up
  pub below_runs : (n : Node) (note : GroupNode) (e : GroupSite R g) → UpNoted n note e → IsTrue (site_disks e).down → ⊥
  below_runs n note (SiteUp laid) it = it.at.up
  below_runs n note (SiteAway idle) it = absurd it
  below_runs n note (SiteDown idle) it = absurd it
  below_runs n note (Marked rack) it = absurd it
  below_runs n note SiteGone it = absurd it

  -- so what stood over them stands
  up_kept : (beside : KeptBeside) (n m : Node) (note : GroupNode) (p : OverSet R g) (e : GroupSite R g) → UpNoted m note e → (StaysHere e → KeptBy beside n p e) → SiteStands beside (worked n) (Over p)
  up_kept beside n m note p (SiteUp laid) it by = by (false_from_ne_true _ it.at.up)
  up_kept beside n m note p (SiteAway idle) it by = absurd it
  up_kept beside n m note p (SiteDown idle) it by = absurd it
  up_kept beside n m note p (Marked rack) it by = absurd it
  up_kept beside n m note p SiteGone it by = absurd it

  module _ (d : Doubted) (old new : Yard R g) (name : List ℕ) (s : ℕ) (before after : DiskSet R g) (p : OverSet R g) (stands : StandsFor d old) (call : BelowAs d old new name s before after p) where
    abbrev n : Node
    n = d.world.nodes s

    abbrev note : GroupNode
    note = note_at (d.world.nodes s)

    abbrev o : OverSet R g
    o = call.at.set

    pub there_before : slice_get old.disk_sets.items s ≡ Some before
    there_before = call.changed.there

    pub changed_over : Changed old new s before (Over p)
    changed_over = subst (λ (x : DiskSet R g). Changed old new s before x) call.is call.changed

    -- the replicated volume group that a note names which has that of the site
    pub same_rvg : (k : GroupNode) → NoteKeepsRvg (note_at (d.world.nodes s)) k → rvg_noted k ≡ rvg_noted (note_at (d.world.nodes s))
    same_rvg k keeps =
        let c : Config = call.at.named.0 in
        let kept : KeptConfig c k = keeps c call.at.named.2 in
        ap (λ (x : Option Config). config_rvg x) kept.is ∙ kept.keeps.rvg ∙ sym (ap (λ (x : Option Config). config_rvg x) call.at.named.2)

    noted_units : (k : GroupNode) → NoteKeepsRvg (note_at (d.world.nodes s)) k → config_units (config_of k.config) ≡ config_units (config_of note.config)
    noted_units k keeps =
        let c : Config = call.at.named.0 in
        let kept : KeptConfig c k = keeps c call.at.named.2 in
        ap (λ (x : Option Config). config_units x) kept.is ∙ ap (λ (x : Option Units). units_or x) kept.keeps.rvg ∙ sym (ap (λ (x : Option Config). config_units x) call.at.named.2)

    pub same_units : (k : GroupNode) → NoteKeepsRvg (note_at (d.world.nodes s)) k → units_of (with_note k (d.world.nodes s)) ≡ units_of (d.world.nodes s)
    same_units k keeps = noted_units k keeps ∙ sym (ap (λ (x : Option GroupNode). units_by x n.disks) (note_is n call.at.over))

    module _ (k : GroupNode) (noted : UpNoted (below_rvg (with_note k (d.world.nodes s))) k (site_in p)) (notes : NotesStill (note_at (d.world.nodes s)) k) (cut : cut_value p.cut ≡ k.cut) (clear : k.cut ≡ None) where
      abbrev m : Node
      m = with_note k (d.world.nodes s)

      abbrev first : Node
      first = record (d.world.nodes s) { group = Some k }

      abbrev begun : Doubted
      begun = record d { world = noting d.world s k }

      effect : EffectAt s d (world_up d s k) m (d.world.links s) (d.world.headers s) (d.after s) d.world.packets (d.world.gathering s)
      effect = worked_effect s d begun first (d.world.links s) (d.world.headers s) (d.after s) d.world.packets (d.world.gathering s) (note_effect d s first)

      fits : LinksFit (world_up d s k)
      fits = fit_worked begun s (fit_note d s first refl refl refl (record { quiet = λ is. is; rests = λ is. is }) stands.links)

      stood : SiteStands (beside_of d s) m (Over p)
      stood =
          over_like (beside_of d s) (worked n) m p refl (λ none. never_some (sym none)) (same_units k notes.keeps) (λ x lit. lit) (λ none. none)
          (up_kept (beside_of d s) n (below_rvg m) k p (site_in p) noted (call.kept.each (beside_of d s) n call.at.stands call.up))

      fails : FailsAs m (Over p)
      fails = subst (λ (x : DiskSet R g). FailsAs m x) call.is (fails_then n m before after refl call.failing (stands.failing s before call.at.seat.below there_before))

      since_below : CalledSince (site_disks (site_in o)) (site_disks (site_in p))
      since_below = subst (λ (x : DiskSet R g). CalledOn (Over o) x) call.is (subst (λ (x : DiskSet R g). CalledOn x after) call.at.is_set call.since)

      fused : FusedAs m (Over p)
      fused =
          fused_goes n m (Over o) (Over p) refl since_below.rack (λ x y was now. (since_below.told x y was now).fuse (false_from_ne_true (site_disks (site_in p)).down (below_runs (below_rvg m) k (site_in p) noted)))
          (subst (λ (x : DiskSet R g). FusedAs n x) call.at.is_set (stands.fuses s before call.at.seat.below there_before))

      kind : RoleIs n (Over p)
      kind = call.kept.above n (subst (λ (x : DiskSet R g). RoleIs n x) call.at.is_set (stands.roles.each s before call.at.seat.below there_before))

      comes : Comes d (world_up d s k) s (Over p)
      comes = comes_effect d (world_up d s k) s m d.world.packets (d.world.gathering s) (Over p) effect fits refl refl refl refl refl stood fails fused kind

      still_over : is_over_rvg m ≡ true
      still_over = over_again n m k call.at.over refl refl

      site_now : SiteNoted m k (Over p)
      site_now = (
        up_noted (below_rvg m) k (site_in p) noted,
        cut,
        λ u here. ap (λ (f : ℕ → Bool). f u) notes.inside ∙ call.at.noted.2 u (subst (λ (us : Units). IsGroupDisk us u) (same_units k notes.keeps) here),
        record { tidy = notes.tidy; named = same_rvg k notes.keeps ∙ call.at.noted.3.named ∙ ap (λ (us : Units). Some us) (sym (same_units k notes.keeps)) },
        up_named (below_rvg m) k (units_of m) (length (entries_noted k)) (site_in p) noted,
      )

      noted_now : NotedOver m (Over p)
      noted_now = ((λ other here. subst (λ (x : GroupNode). SiteNoted m x (Over p)) (some_same here) site_now), named_again n m k refl refl notes.keeps (cut_none m k refl clear) call.at.named)

      -- the yard stands for it, and carries it
      pub follows_by : (f : SiteFacts) → f ≡ fact_from m (d.world.links s) d.world.sites → new.facts.items ≡ slice_set old.facts.items s f → SameLoad old new → Follows d (world_up d s k) old new
      follows_by f shown facts load = record {
        stands = stands_at d (world_up d s k) old new s f before (Over p) stands call.at.seat.below changed_over comes
            (λ _. subst (λ (x : Node). BeginsFirst s x) (sym effect.is.node) (begins_apart s (beside_of d s) m (Over p) stood (rvg_apart m still_over)))
            (λ _. subst (λ (x : Node). NotedOver x (Over p)) (sym effect.is.node) noted_now)
            (shown ∙ sym (apart_same m ((world_up d s k).world.nodes s) (d.world.links s) ((world_up d s k).world.links s) d.world.sites (world_up d s k).world.sites (rvg_apart m still_over) effect.is.node effect.is.links effect.site.sites)) facts;
        carries = λ carries.
            carries_at s d (world_up d s k) old new carries load (record { site = effect.site; packets = effect.sent; gathering = effect.gathering })
            (feeds_like n ((world_up d s k).world.nodes s) (ap (λ (x : Node). x.state) effect.is.node) (ap (λ (x : Node). x.role) effect.is.node) (ap (λ (x : Node). x.fed_by) effect.is.node))
            (told_by old new s before (Over p) changed_over);
      }

  -- where no write is cut
  module _ (d : Doubted) (old new : Yard R g) (name : List ℕ) (s : ℕ) (before after : DiskSet R g) (p : OverSet R g) (stands : StandsFor d old) (call : BelowCalled d old new name s before after p) where
    -- none was
    pub none_cut : (note_at (d.world.nodes s)).cut ≡ None
    none_cut = let rests = call.at.named.6 in rests.0 call.up

    pub same_cut : (k : GroupNode) → k.cut ≡ (note_at (d.world.nodes s)).cut → cut_value p.cut ≡ k.cut
    same_cut k same = ap (λ c. cut_value c) call.cut ∙ call.at.noted.1 ∙ sym same

    pub below_follows : (k : GroupNode) → UpNoted (below_rvg (with_note k (d.world.nodes s))) k (site_in p) → NotesBelow (note_at (d.world.nodes s)) k → (f : SiteFacts) → f ≡ fact_from (with_note k (d.world.nodes s)) (d.world.links s) d.world.sites
        → new.facts.items ≡ slice_set old.facts.items s f → SameLoad old new → Follows d (world_up d s k) old new
    below_follows k noted notes =
        follows_by d old new name s before after p stands (below_as d old new name s before after p call) k noted (notes_still (note_at (d.world.nodes s)) k notes) (same_cut k notes.cut) (notes.cut ∙ none_cut)
