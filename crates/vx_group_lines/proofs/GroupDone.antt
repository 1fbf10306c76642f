-- What lines lead to that called the group of a site that is up: refused, or done.
use Rattle.std.proofs.Common.{◌≡◌, ◌∙◌, ◌⊎◌, ◌+◌, ℕ, Bool, false, List, [], length, ap, sym, subst, refl, arith, inl, inr}
use Rattle.std.specs.Prelude.{Option, Some, slice_set, Result, Ok, Err}
use Rattle.vx_model.specs.declared.errors.OutOfMemory.{OutOfMemory}
use Rattle.vx_model.specs.declared.errors.Stop.TheVariants.{No as StopsBy}
use Rattle.vx_model.specs.declared.no.No.{No}
use Rattle.vx_model.specs.declared.no.No.TheVariants.{Down as IsOff, Device}
use Rattle.vx_disk.specs.Shelf.{Meaning}
use Rattle.vx_disk.specs.declared.shelf.Shelf.{Ghosts}
use Rattle.vx_config.specs.declared.config.Config.{Config}
use Rattle.vx_history.specs.Doubts.{Doubted}
use Rattle.vx_history.specs.Groups.{GroupNode, NoteSettles, NoteUnsettles}
use Rattle.vx_history.specs.Steps.{burned, crashed, worked}
use Rattle.vx_history.specs.World.{Node}
use Rattle.vx_order.specs.declared.facts.SiteFacts.{SiteFacts}
use Rattle.vx_script.specs.declared.line.ScriptLine.{ScriptLine}
use Rattle.vx_grouped.specs.GroupSites.{UpNoted, site_disks, with_note}
use Rattle.vx_grouped.specs.SiteEnds.{ConfigGoes, SiteCalled}
use Rattle.vx_grouped.specs.declared.group_site.GroupSite.{GroupSite}
use Rattle.vx_diskset.specs.GroupCalls.{OnSites}
use Rattle.vx_diskset.specs.declared.disk_set.DiskSet.{DiskSet}
use Rattle.vx_events.specs.GroupEnds.{GroupCut, GroupCuts, GroupDoes, GroupDone, GroupFails, GroupLacks, GroupSpoils, GroupWants, IsLeftOver}
use Rattle.vx_events.specs.Doubts.{run_as}
use Rattle.vx_events.specs.GroupLines.{group_events}
use Rattle.vx_events.specs.GroupNotes.{note_at}
use Rattle.vx_events.specs.StepsOver.{fact_of_group}
use Rattle.vx_events.specs.declared.said.Said.{Said}
use Rattle.vx_events.specs.declared.said.Said.TheVariants.{Refused}
use Rattle.vx_yard.proofs.Carrying.{SameLoad}
use Rattle.vx_yard.proofs.Lists.{set_same}
use Rattle.vx_yard.specs.Standing.{LeadsOver, LeadsOverIs, StandsFor}
use Rattle.vx_yard.specs.Writes.{below_facts}
use Rattle.vx_yard.specs.Yards.{IsTold}
use Rattle.vx_yard.specs.declared.yard.Yard.{Yard}
use Rattle.vx_group_lines.proofs.GroupCalls.{SetThen, calls_all, calls_are, calls_named, calls_names, calls_none, note_uncut, sets_then, maps_were, plain_were}
use Rattle.vx_group_lines.proofs.GroupEnding.{Broke, Calling, FellOff, LeftDone, Means, Midway, SameTable, Wanted, called_why, lets_on, load_on, off_leads, up_leads, world_up}
use Rattle.vx_group_lines.proofs.GroupMarks.{group_noted_at}
use Rattle.vx_above.proofs.SiteCalls.{calls}
use Rattle.vx_above.proofs.Losing.{Names}
use Rattle.vx_grouped.specs.SiteMaps.{MapsQuiet, StandMaps, StaysMapped, UpMaps}
use Rattle.vx_grouped.proofs.MapNoteLemmas.{down_with_maps, up_with_maps}
use Rattle.vx_history.specs.Missing.{no_maps, with_maps}
use Rattle.vx_events.specs.GroupMaps.{MapsLost}
use Rattle.vx_group_lines.proofs.MapGoing.{Goes, MapsOn, goes_up, off_stands, on_both}
use Rattle.vx_group_lines.proofs.MapLines.{logs_bound}
use Rattle.vx_group_lines.specs.Noting.{IsNotedRefusal}

-- a change of a configuration, with the disks before and behind it
abbrev pub Turns : Type 1
Turns = Meaning → Meaning → Config → Config → Type 0

module _ {R : Type 0} {g : Ghosts R} where
  pub burned_noted : (n : Node) (note : GroupNode) (e : GroupSite R g) → n.group ≡ Some note → UpNoted (worked n) note e → UpNoted (with_note note n) note e
  burned_noted n note e is noted = subst (λ (o : Option GroupNode). let m : Node = record n { group = o; fuse = burned n.fuse } in UpNoted m note e) is noted

  module _ (d : Doubted) (line : ScriptLine) (old new : Yard R g) (name : List ℕ) (s : ℕ) (before after : DiskSet R g) (stands : StandsFor d old) (it : Calling d line old new name s before after) where
    abbrev n : Node
    n = d.world.nodes s

    abbrev note : GroupNode
    note = note_at (d.world.nodes s)

    abbrev was_site : GroupSite R g
    was_site = it.call.at.set.site

    -- the calls of a disk set that comes of this one
    abbrev many_of : Config → ℕ → ℕ
    many_of was disk = (site_disks it.call.at.set.site).units + length was.disks + logs_bound was.volumes + disk + 1

    had : StandMaps note was_site
    had = maps_were d old new name s before after stands it.call

    -- ---- done

    pub done_leads : {T : Type 0} (twice : Bool) (Done Lost Cut : Turns) (By : Goes) (Lacks : GroupSite R g → No → Type 0) (said : Said) (value : T) → ((k : GroupNode) → LeftDone d s line k → IsLeftOver s line k (run_as false d (group_events (d.world.nodes s) s line)) (world_up d s k)) → Means s note NoteSettles Done By (λ fails next. GroupDoes (IsTold new) s n note line fails said next) → SameTable note Done
        → OnSites (λ o e. SiteCalled {T = T} twice (Done (site_disks o) (site_disks e)) (Lost (site_disks o) (site_disks e)) (Cut (site_disks o) (site_disks e)) (Lacks o) n note o e (Ok value)) before after
        → OnSites (λ o e. UpMaps By o e) before after → new.facts.items ≡ old.facts.items → SameLoad old new → LeadsOver d line said old new
    done_leads {T} twice Done Lost Cut By Lacks said value leaves means table on maps facts load =
        let P : GroupSite R g → GroupSite R g → Type 0 = λ o e. SiteCalled {T = T} twice (Done (site_disks o) (site_disks e)) (Lost (site_disks o) (site_disks e)) (Cut (site_disks o) (site_disks e)) (Lacks o) n note o e (Ok value) in
        let then : SetThen (P was_site) after = sets_then P before after it.call.at.set it.call.at.is_set on in
        let next : GroupNode = then.holds.0 in
        let goes : ConfigGoes (Done (site_disks was_site) (site_disks then.set.site)) note next was_site then.set.site = then.holds.3 in
        let many : ℕ = many_of goes.was 0 in
        let names : Names s many (calls s old new many) (site_disks was_site) (site_disks then.set.site)
        = calls_names d old new name s before after stands it.call it.call.at.set then.set it.call.at.is_set then.is many (omega arith) in
        let moved : UpMaps By was_site then.set.site = on_both (λ o e. UpMaps By o e) before after it.call.at.set then.set it.call.at.is_set then.is maps in
        let go : MapsOn (By (site_disks was_site) (site_disks then.set.site) goes.was goes.now) note next then.set.site
        = goes_up By (with_note next n) note next next was_site then.set.site (Done (site_disks was_site) (site_disks then.set.site)) had goes then.holds.2 moved in
        let k : GroupNode = with_maps go.maps next in
        up_leads d line old new name s before after stands it said (calls s old new many) k then.set then.is (up_with_maps go.maps (with_note next n) next then.set.site then.holds.2) go.stands
        (table.rvg (site_disks was_site) (site_disks then.set.site) next goes.was goes.now goes.noted goes.noted_now goes.change ∙ plain_were d old new name s before after stands it.call) then.holds.1.same.cut
        (table.same many (site_disks was_site) (site_disks then.set.site) s (calls s old new many) next goes.was goes.now names goes.noted goes.noted_now goes.change) facts load
        (GroupDone k (calls_are d old new name s before after stands it.call many)
        (means.ends many (calls s old new many) (site_disks was_site) (site_disks then.set.site) next goes.was goes.now names goes.noted goes.noted_now (omega arith) (omega arith) goes.change then.holds.1 go.maps go.by) (leaves k (it.is_line.done k)))
        (calls_all d old new name s before after stands it.call many)

    -- ---- refused

    module _ (mid : Yard R g) (half : Midway old mid) (result : Result Said OutOfMemory) where
      abbrev f : SiteFacts
      f = fact_of_group (d.world.nodes s) (note_at (d.world.nodes s))

      facts_same : (x : SiteFacts) → x ≡ f → new.facts.items ≡ slice_set mid.facts.items s x → new.facts.items ≡ old.facts.items
      facts_same x is facts =
          facts ∙ ap (λ (fs : List SiteFacts). slice_set fs s x) half.facts ∙ ap (λ (y : SiteFacts). slice_set old.facts.items s y) is ∙ set_same old.facts.items s f it.call.at.fact

      broke_leads : (twice : Bool) (Lost : Turns) (By : Goes) (why : No) (disk : ℕ) (next : SetThen (λ e. Broke twice (Lost (site_disks was_site) (site_disks e)) n note was_site e disk × UpMaps By was_site e) after) → Means s note (NoteUnsettles twice) Lost By (λ fails k. GroupSpoils s note line fails k)
          → SameTable note Lost → why ≡ Device disk → IsNotedRefusal s f why mid new result → LeadsOverIs d line old new result
      broke_leads twice Lost By why disk then spoils table is refusal =
          let r : IsNotedRefusal s f (Device disk) mid new result = subst (λ (w : No). IsNotedRefusal s f w mid new result) is refusal in
          let b = then.holds.0 in
          let many : ℕ = many_of b.goes.was disk in
          let names : Names s many (calls s old new many) (site_disks was_site) (site_disks then.set.site)
          = calls_names d old new name s before after stands it.call it.call.at.set then.set it.call.at.is_set then.is many (omega arith) in
          subst (λ (x : Result Said OutOfMemory). LeadsOverIs d line old new x) (sym r.said)
          (let go : MapsOn (By (site_disks was_site) (site_disks then.set.site) b.goes.was b.goes.now) note b.next then.set.site
          = goes_up By (with_note b.next n) note b.next b.next was_site then.set.site (Lost (site_disks was_site) (site_disks then.set.site)) had b.goes b.noted then.holds.1 in
          let k : GroupNode = with_maps go.maps b.next in
          up_leads d line old new name s before after stands it (Refused (Device disk)) (calls s old new many) k then.set then.is (up_with_maps go.maps (with_note b.next n) b.next then.set.site b.noted) go.stands
          (table.rvg (site_disks was_site) (site_disks then.set.site) b.next b.goes.was b.goes.now b.goes.noted b.goes.noted_now b.goes.change ∙ plain_were d old new name s before after stands it.call) b.keeps.same.cut
          (table.same many (site_disks was_site) (site_disks then.set.site) s (calls s old new many) b.next b.goes.was b.goes.now names b.goes.noted b.goes.noted_now b.goes.change)
          (facts_same (below_facts (Device disk) f) refl r.facts) (load_on old mid new half r.same r.assemblies)
          (GroupFails disk k (calls_are d old new name s before after stands it.call many)
          (calls_named d old new name s before after stands it.call it.call.at.set then.set it.call.at.is_set then.is many disk (omega arith) b.rose)
          (spoils.ends many (calls s old new many) (site_disks was_site) (site_disks then.set.site) b.next b.goes.was b.goes.now names b.goes.noted b.goes.noted_now (omega arith) (omega arith) b.goes.change b.keeps go.maps go.by) refl (it.is_line.broke k))
          (calls_all d old new name s before after stands it.call many))

      off_ends : (twice : Bool) (Lost : Turns) (By : Goes) (why : No) (next : SetThen (λ e. FellOff twice (Lost (site_disks was_site) (site_disks e)) n note was_site e × UpMaps By was_site e) after) → Means s note (NoteUnsettles twice) Lost (λ o e. MapsLost) (λ fails k. GroupCuts s note line fails k)
          → SameTable note Lost → why ≡ IsOff → IsNotedRefusal s f why mid new result → LeadsOverIs d line old new result
      off_ends twice Lost By why then cuts table is refusal =
          let r : IsNotedRefusal s f IsOff mid new result = subst (λ (w : No). IsNotedRefusal s f w mid new result) is refusal in
          let b = then.holds.0 in
          let many : ℕ = many_of b.goes.was 0 in
          let k : GroupNode = with_maps no_maps b.next in
          let names : Names s many (calls s old new many) (site_disks was_site) (site_disks then.set.site)
          = calls_names d old new name s before after stands it.call it.call.at.set then.set it.call.at.is_set then.is many (omega arith) in
          subst (λ (x : Result Said OutOfMemory). LeadsOverIs d line old new x) (sym r.said)
          (off_leads d line old new name s before after stands it (Refused IsOff) (calls s old new many) k then.set then.is (down_with_maps no_maps (crashed (with_note b.next n) 0) b.next then.set.site b.noted)
          (off_stands (crashed (with_note b.next n) 0) b.next b.next b.goes.now then.set.site b.goes.noted_now b.noted then.holds.1.1)
          (table.rvg (site_disks was_site) (site_disks then.set.site) b.next b.goes.was b.goes.now b.goes.noted b.goes.noted_now b.goes.change ∙ plain_were d old new name s before after stands it.call) b.keeps.same.cut
          (note_uncut d old new name s before after stands it.call it.up)
          (table.same many (site_disks was_site) (site_disks then.set.site) s (calls s old new many) b.next b.goes.was b.goes.now names b.goes.noted b.goes.noted_now b.goes.change)
          (below_facts IsOff f) refl (r.facts ∙ ap (λ (fs : List SiteFacts). slice_set fs s (below_facts IsOff f)) half.facts) (lets_on old mid new s half r.same r.assemblies)
          (GroupCut k (calls_are d old new name s before after stands it.call many) b.fused
          (cuts.ends many (calls s old new many) (site_disks was_site) (site_disks then.set.site) b.next b.goes.was b.goes.now names b.goes.noted b.goes.noted_now (omega arith) (omega arith) b.goes.change b.keeps no_maps (record { none = λ v. refl })) refl (it.is_line.off k))
          (calls_all d old new name s before after stands it.call many))

      lacks_leads : (Lacks : No → Type 0) (why : No) (next : SetThen (λ e. Wanted Lacks n note was_site e why) after) → (Lacks why → GroupWants note line why) → IsNotedRefusal s f why mid new result → LeadsOverIs d line old new result
      lacks_leads Lacks why then wants refusal =
          let w = then.holds in
          subst (λ (x : Result Said OutOfMemory). LeadsOverIs d line old new x) (sym refusal.said)
          (up_leads d line old new name s before after stands it (Refused why) [] note then.set then.is
          (burned_noted n note then.set.site (group_noted_at d old name s before it.call.at) w.noted) (w.maps note had) (plain_were d old new name s before after stands it.call) refl refl
          (facts_same (below_facts why f) (w.quiet.facts f) refusal.facts) (load_on old mid new half refusal.same (w.quiet.loads s mid.assemblies.items new.assemblies.items refusal.assemblies))
          (GroupLacks why (wants w.lacks) refl refl (it.is_line.lacks note)) (calls_none d old new name s before after stands it.call))

      pub refused_leads : (T : Type 0) (twice : Bool) (Done Lost Cut : Turns) (By : Goes) (Lacks : GroupSite R g → No → Type 0) → Means s note (NoteUnsettles twice) Lost By (λ fails k. GroupSpoils s note line fails k) → Means s note (NoteUnsettles twice) Cut (λ o e. MapsLost) (λ fails k. GroupCuts s note line fails k)
          → SameTable note Lost → SameTable note Cut → ((why : No) → Lacks it.call.at.set.site why → GroupWants note line why) → (why : No)
          → OnSites (λ o e. SiteCalled {T = T} twice (Done (site_disks o) (site_disks e)) (Lost (site_disks o) (site_disks e)) (Cut (site_disks o) (site_disks e)) (Lacks o) n note o e (Err (StopsBy why))) before after
          → OnSites (λ o e. UpMaps By o e × MapsQuiet (StopsBy why) (StaysMapped o e)) before after → IsNotedRefusal s (fact_of_group (d.world.nodes s) (note_at (d.world.nodes s))) why mid new result → LeadsOverIs d line old new result
      refused_leads T twice Done Lost Cut By Lacks spoils cuts table cut_table wants why on maps refusal =
          let P : GroupSite R g → GroupSite R g → Type 0
          = λ o e. SiteCalled {T = T} twice (Done (site_disks o) (site_disks e)) (Lost (site_disks o) (site_disks e)) (Cut (site_disks o) (site_disks e)) (Lacks o) n note o e (Err (StopsBy why)) in
          let then : SetThen (P was_site) after = sets_then P before after it.call.at.set it.call.at.is_set on in
          let moved : UpMaps By was_site then.set.site × MapsQuiet (StopsBy why) (StaysMapped was_site then.set.site)
          = on_both (λ o e. UpMaps By o e × MapsQuiet (StopsBy why) (StaysMapped o e)) before after it.call.at.set then.set it.call.at.is_set then.is maps in
          by_why then (called_why T twice (Done (site_disks was_site) (site_disks then.set.site)) (Lost (site_disks was_site) (site_disks then.set.site)) (Cut (site_disks was_site) (site_disks then.set.site)) (Lacks was_site) n note was_site then.set.site why then.holds moved.1) moved.0
        where
          by_why : (then : SetThen (λ e. SiteCalled {T = T} twice (Done (site_disks was_site) (site_disks e)) (Lost (site_disks was_site) (site_disks e)) (Cut (site_disks was_site) (site_disks e)) (Lacks was_site) n note was_site e (Err (StopsBy why))) after)
              → ((disk : ℕ) × (why ≡ Device disk) × Broke twice (Lost (site_disks was_site) (site_disks then.set.site)) n note was_site then.set.site disk)
              ⊎ ((why ≡ IsOff) × FellOff twice (Cut (site_disks was_site) (site_disks then.set.site)) n note was_site then.set.site) ⊎ Wanted (Lacks was_site) n note was_site then.set.site why → UpMaps By was_site then.set.site → LeadsOverIs d line old new result
          by_why then (inl (disk, is, b)) moved = broke_leads twice Lost By why disk (record { set = then.set; is = then.is; holds = (b, moved) }) spoils table is refusal
          by_why then (inr (inl (is, b))) moved = off_ends twice Cut By why (record { set = then.set; is = then.is; holds = (b, moved) }) cuts cut_table is refusal
          by_why then (inr (inr w)) moved = lacks_leads (Lacks was_site) why (record { set = then.set; is = then.is; holds = w }) (wants why) refusal
