-- The site of a line that made no replicated volume group, as a failed call, want of a serial or of memory ended it: its group is up still.
use Rattle.std.proofs.Common.{◌≡◌, ◌∙◌, ℕ, true, false, List, length, ap, sym, subst, refl, ⊎_elim}
use Rattle.std.proofs.lemmas.Bool.{cases_eq}
use Rattle.std.specs.Prelude.{◌&&◌, eqb, not, Option, None}
use Rattle.vx_model.specs.declared.site.SiteState.TheVariants.{Up as IsUp, Deported as IsAway, Down as IsDown}
use Rattle.vx_disk.specs.declared.shelf.Shelf.{Ghosts}
use Rattle.vx_history.specs.Doubts.{Doubted}
use Rattle.vx_history.specs.Groups.{GroupNode}
use Rattle.vx_history.specs.Steps.{worked_on}
use Rattle.vx_history.specs.World.{Node, Volume}
use Rattle.vx_grouped.specs.GroupSites.{HasNoRvg, UpNoted, with_note}
use Rattle.vx_grouped.specs.SiteMaps.{StandMaps}
use Rattle.vx_grouped.specs.declared.group_site.GroupSite.{GroupSite}
use Rattle.vx_grouped.specs.declared.group_site.GroupSite.TheVariants.{Up as SiteUp, Deported as SiteAway, Down as SiteFell, Marked, Gone as SiteGone}
use Rattle.vx_diskset.specs.Asked.{FailsAs, FusedAs, SameFailing}
use Rattle.vx_diskset.specs.GroupCalls.{CalledOn}
use Rattle.vx_diskset.specs.GroupSets.{cut_value, noted_cut}
use Rattle.vx_diskset.specs.Holds.{beside_of}
use Rattle.vx_diskset.specs.Makings.{PlainNoted}
use Rattle.vx_diskset.specs.Noted.{NotedOn}
use Rattle.vx_diskset.specs.declared.disk_set.DiskSet.{DiskSet}
use Rattle.vx_diskset.specs.declared.disk_set.DiskSet.TheVariants.{Bare, Spoiled, Up, Receives, Down, OfGroup, Over, Gone}
use Rattle.vx_diskset.specs.declared.group_set.GroupSet.{GroupSet}
use Rattle.vx_events.specs.GroupLines.{is_over_group, noting}
use Rattle.vx_events.specs.GroupNotes.{note_at}
use Rattle.vx_events.specs.GroupViews.{noted_table}
use Rattle.vx_events.specs.RvgFits.{rvg_noted}
use Rattle.vx_events.specs.RvgSteps.{HasNoRvgs}
use Rattle.vx_events.specs.RvgViews.{is_over_rvg}
use Rattle.vx_events.specs.StepsOver.{fact_of_group, fact_over}
use Rattle.vx_yard.proofs.Carrying.{Feeds, SameLoad, carries_at}
use Rattle.vx_yard.proofs.FailsStay.{fails_then}
use Rattle.vx_yard.proofs.Lists.{set_same}
use Rattle.vx_yard.proofs.OneSite.{Changed, stands_at, told_by}
use Rattle.vx_yard.proofs.OverGroup.{noted_over, set_notes}
use Rattle.vx_yard.specs.Carries.{Carries}
use Rattle.vx_yard.specs.Standing.{StandsFor, BeginsFirst}
use Rattle.vx_yard.specs.declared.yard.Yard.{Yard}
use Rattle.vx_group_lines.proofs.Arriving.{Arrives, arrives_worked}
use Rattle.vx_group_lines.proofs.GroupAt.{uncut, up_notes}
use Rattle.vx_group_lines.proofs.GroupCalls.{fused_since, seen_as, site_up}
use Rattle.vx_group_lines.proofs.GroupLeads.{Sized, feeds_nobody, group_comes, sized_of, up_set}
use Rattle.vx_group_lines.proofs.GroupMarks.{group_noted_at}
use Rattle.vx_group_lines.proofs.RvgAt.{RvgAt}
use Rattle.vx_group_lines.proofs.RvgGained.{rvg_begins}
use Rattle.vx_events.proofs.OverSeats.{fact_grouped}

module _ {R : Type 0} {g : Ghosts R} where
  noted_up : (m : Node) (next : GroupNode) (e : GroupSite R g) → NotedOn m next e → m.state ≡ IsUp → UpNoted m next e
  noted_up m next (SiteUp laid) it up = it
  noted_up m next (SiteAway idle) it up = absurd (let clash : IsAway ≡ IsUp = sym it.away.state ∙ up in cc)
  noted_up m next (SiteFell idle) it up = absurd (let clash : IsDown ≡ IsUp = sym it.away.state ∙ up in cc)
  noted_up m next (Marked rack) it up = absurd it
  noted_up m next SiteGone it up = absurd it

  -- the group of such a site
  pub record PlainUp (m : Node) (next : GroupNode) (e : DiskSet R g) : Type 0 where
    pub set : GroupSet R g
    pub is : e ≡ OfGroup set
    pub noted : UpNoted m next set.site
    pub cut : cut_value set.cut ≡ next.cut

  pub plain_up : (m : Node) (next : GroupNode) (e : DiskSet R g) → PlainNoted m next e → m.state ≡ IsUp → PlainUp m next e
  plain_up m next (OfGroup s) it up = record { set = s; is = refl; noted = noted_up m next s.site it.0 up; cut = it.1 }
  plain_up m next (Bare rack) it up = absurd it
  plain_up m next (Spoiled rack) it up = absurd it
  plain_up m next (Up rvg) it up = absurd it
  plain_up m next (Receives s) it up = absurd it
  plain_up m next (Down rack) it up = absurd it
  plain_up m next (Over s) it up = absurd it
  plain_up m next Gone it up = absurd it

  module _ (d : Doubted) (old new : Yard R g) (name srl maps : List ℕ) (volumes : List (List ℕ)) (s : ℕ) (before after : DiskSet R g) (stands : StandsFor d old)
      (at : RvgAt d old name srl maps volumes s before) (changed : Changed old new s before after) (failing : SameFailing before after) (since : CalledOn before after) where
    abbrev n : Node
    n = d.world.nodes s

    abbrev note : GroupNode
    note = note_at (d.world.nodes s)

    none : HasNoRvg (d.world.nodes s)
    none = (set_notes (beside_of d s) n at.group.set at.group.stands at.group.made).1.none

    -- no write is cut
    pub rvg_uncut : (note_at (d.world.nodes s)).cut ≡ None
    rvg_uncut =
        ap (λ (o : Option GroupNode). noted_cut o) (sym (group_noted_at d old name s before at.group)) ∙ sym at.group.stands.cut
        ∙ uncut (beside_of d s) n at.group.set at.group.stands (λ down. let clash : IsUp ≡ IsDown = sym at.up ∙ down in absurd (cc))

    module _ (next : GroupNode) (noted : PlainNoted (with_note next (d.world.nodes s)) next after) (maps_stand : (e : GroupSet R g) → after ≡ OfGroup e → StandMaps next e.site) (same_cut : next.cut ≡ (note_at (d.world.nodes s)).cut)
        (table : noted_table next ≡ noted_table (note_at (d.world.nodes s))) where
      abbrev pub rvg_left : Doubted
      rvg_left = record d { world = worked_on (noting d.world s next) s }

      abbrev m : Node
      m = with_note next (d.world.nodes s)

      plain : PlainUp m next after
      plain = plain_up m next after noted at.up

      arrives : Arrives d rvg_left s m (d.world.gathering s)
      arrives = arrives_worked d d s n next (d.world.gathering s) (rvg_begins d old new name srl maps volumes s before after stands at changed failing since)

      to : Changed old new s before (OfGroup plain.set)
      to = subst (λ (x : DiskSet R g). Changed old new s before x) plain.is changed

      fails : FailsAs m (OfGroup plain.set)
      fails = subst (λ (x : DiskSet R g). FailsAs m x) plain.is (fails_then n m before after refl failing (stands.failing s before at.group.below changed.there))

      fused : FusedAs m (OfGroup plain.set)
      fused = fused_since n m at.group.set plain.set refl (subst (λ (x : DiskSet R g). CalledOn (OfGroup at.group.set) x) plain.is (subst (λ (x : DiskSet R g). CalledOn x after) at.group.is_set since))
          (site_up m next plain.set.site plain.noted) (subst (λ (x : DiskSet R g). FusedAs n x) at.group.is_set (stands.fuses s before at.group.below changed.there))

      alone : is_over_rvg m ≡ false
      alone = ap (λ (vs : List Volume). true && not (eqb (length vs) 0)) none.volumes

      over : is_over_group m ≡ true
      over = noted_over m next (up_notes m next plain.set.site plain.noted).0

      seen : fact_of_group n note ≡ fact_over rvg_left.world s
      seen =
          seen_as n m note next refl refl refl refl table
          ∙ ap (λ (x : Node). fact_of_group x (note_at x)) (sym arrives.node)
          ∙ sym (fact_grouped rvg_left.world s (ap (λ (x : Node). is_over_group x) arrives.node ∙ over))

      large : Sized n
      large = sized_of (beside_of d s) n at.group.set at.group.stands

      pub stays_stands : rvg_noted next ≡ rvg_noted (note_at (d.world.nodes s)) → new.facts.items ≡ old.facts.items → StandsFor rvg_left new
      stays_stands rvg facts =
          stands_at d rvg_left old new s (fact_of_group n note) before (OfGroup plain.set) stands at.group.below to
          (group_comes d rvg_left s m (d.world.gathering s) plain.set arrives
          (up_set m next plain.set (record { few = large.few; some = large.some }) plain.noted (maps_stand plain.set plain.is)
          (rvg ∙ at.group.stands.plain at.group.made note (group_noted_at d old name s before at.group)) (plain.cut ∙ same_cut ∙ rvg_uncut) (same_cut ∙ rvg_uncut)) fails fused)
          (λ was. subst (λ (x : Node). BeginsFirst s x) (sym arrives.node) (arrives.first was)) (λ _. tt) seen
          (facts ∙ sym (set_same old.facts.items s (fact_of_group n note) at.group.fact))

      pub stays_carries : SameLoad old new → Carries d old → Carries rvg_left new
      stays_carries load carries =
          carries_at s d rvg_left old new carries load (record { site = arrives.site; packets = arrives.packets; gathering = arrives.gathering })
          (subst (λ (x : Node). Feeds n x) (sym arrives.node) (feeds_nobody n m none.role)) (told_by old new s before after changed)

      -- no site gets a replicated volume group
      pub stays_none : HasNoRvgs d.world → HasNoRvgs rvg_left.world
      stays_none never i = ⊎_elim
          (λ (same : i ≡ s). ap (λ (j : ℕ). is_over_rvg (rvg_left.world.nodes j)) same ∙ ap (λ (x : Node). is_over_rvg x) arrives.node ∙ alone)
          (λ apart. ap (λ (x : Node). is_over_rvg x) (arrives.site.nodes i apart) ∙ never i)
          (cases_eq i s)
