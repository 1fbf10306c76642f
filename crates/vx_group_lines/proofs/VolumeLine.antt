-- The line that makes a volume, in the yard of its site.
use Rattle.std.proofs.Common.{◌≡◌, ◌∙◌, ◌<◌, ℕ, List, length, ap, sym, subst, refl, true, false, arith}
use Rattle.std.specs.Prelude.{Option, Some, None, find, bytes_eq, slice_get, slice_set, Result, Ok, Err, IfOk, IsSome}
use Rattle.std.proofs.lemmas.Option.{slice_get_within}
use Rattle.vx_model.specs.declared.errors.OutOfMemory.{OutOfMemory}
use Rattle.vx_model.specs.declared.errors.Stop.{Stop}
use Rattle.vx_model.specs.declared.errors.Stop.TheVariants.{No as StopsBy, OutOfMemory as MemoryStop}
use Rattle.vx_model.specs.declared.limits.TheConstants.{MOST_VOLUMES}
use Rattle.vx_model.specs.declared.site.SiteState.TheVariants.{Up as IsUp}
use Rattle.vx_model.proofs.Lists.{get_there}
use Rattle.vx_disk.specs.declared.shelf.Shelf.{Ghosts}
use Rattle.vx_config.specs.declared.config.Config.{Config}
use Rattle.vx_history.specs.Doubts.{Doubted}
use Rattle.vx_history.specs.Groups.{GroupNode}
use Rattle.vx_history.specs.World.{Node}
use Rattle.vx_layout.specs.declared.shape.Shape.{Shape}
use Rattle.vx_order.specs.declared.facts.SiteFacts.{SiteFacts}
use Rattle.vx_order.specs.declared.facts.VolumeFacts.{VolumeFacts}
use Rattle.vx_script.specs.declared.line.Layout.{Layout}
use Rattle.vx_script.specs.declared.line.ReadPolicy.{ReadPolicy}
use Rattle.vx_script.specs.declared.line.ScriptLine.TheVariants.{Volume}
use Rattle.vx_script.specs.declared.line.VolumeLog.{VolumeLog}
use Rattle.vx_script.specs.declared.line.VolumeMap.{VolumeMap}
use Rattle.vx_grouped.specs.GroupSites.{UpNoted}
use Rattle.vx_grouped.specs.SiteAdds.{SiteAdded}
use Rattle.vx_diskset.proofs.KeepsFailing.{failing_same}
use Rattle.vx_diskset.specs.Asked.{FuseGoesOn, SameFailing}
use Rattle.vx_diskset.specs.GroupCalls.{AtSite, CalledOn, OnSites, cut_in}
use Rattle.vx_diskset.specs.declared.disk_set.DiskSet.{DiskSet}
use Rattle.vx_events.specs.Facts.{seat_of, site_number}
use Rattle.vx_events.specs.GroupLines.{shape_of}
use Rattle.vx_events.specs.GroupNotes.{note_at}
use Rattle.vx_events.specs.RvgViews.{kinds_by}
use Rattle.vx_events.specs.StepsOver.{fact_of_group, over_group_at}
use Rattle.vx_events.specs.declared.said.Said.{Said}
use Rattle.vx_events.specs.declared.said.Said.TheVariants.{Done}
use Rattle.vx_yard.proofs.Lists.{get-set_same, set_same}
use Rattle.vx_yard.proofs.NamedSite.{asks_at, named_same, place_at}
use Rattle.vx_yard.proofs.OneSite.{Changed, told_by}
use Rattle.vx_yard.specs.GroupFacts.{with_table}
use Rattle.vx_yard.specs.OfSites.{OfSite}
use Rattle.vx_yard.specs.Standing.{LeadsOver, LeadsOverIs, StandsFor}
use Rattle.vx_yard.specs.Working.{IsFree}
use Rattle.vx_yard.specs.Stands.{AreTold}
use Rattle.vx_yard.specs.Yards.{IsTold, in_files}
use Rattle.vx_yard.specs.declared.yard.Yard.{Yard}
use Rattle.vx_group_lines.proofs.GroupAt.{GroupAt, group_at, up_noted}
use Rattle.vx_group_lines.proofs.GroupCalls.{at_up}
use Rattle.vx_group_lines.proofs.GroupEnding.{Calling, Midway, behind, load_on}
use Rattle.vx_group_lines.proofs.GroupVolume.{volume_done, volume_stopped}
use Rattle.vx_group_lines.proofs.Tests.{VolumeMay, volume_may}
use Rattle.vx_grouped.specs.SiteMaps.{AddedMapped}
use Rattle.vx_group_lines.specs.Noting.{HasConfig, KeepsRest, reply_noted}

pub if_ok : {A B : Type 0} (r : Result A B) (P : A → Type 0) → ((x : A) → P x) → IfOk r P
if_ok (Ok x) P each = each x
if_ok (Err e) P each = tt

module _ {R : Type 0} {g : Ghosts R} where
  rest_by : (s : ℕ) (f : SiteFacts) (stop : Stop) (mid new : Yard R g) (result : Result Said OutOfMemory) → reply_noted s f stop mid new result → KeepsRest mid new
  rest_by s f (StopsBy why) mid new result reply = reply.same
  rest_by s f MemoryStop mid new result reply =
      subst (λ (y : Yard R g). KeepsRest mid y) (sym reply.0) (record { disk_sets = refl; racks = refl; flight = refl; feeders = refl; dir = refl })

  module _ (d : Doubted) (old mid : Yard R g) (name volume : List ℕ) (blocks mirrors : ℕ) (layout : Layout) (log : VolumeLog) (map_of : VolumeMap) (policy : ReadPolicy) (want : Shape)
      (is_want : want ≡ shape_of blocks mirrors layout log map_of policy) (s : ℕ) (before after : DiskSet R g) (stands : StandsFor d old) (seat : seat_of old.facts.items name ≡ Some s) (over : over_group_at d.world name ≡ true)
      (free : IsFree old (Volume name volume blocks mirrors layout log map_of policy)) (changed : Changed old mid s before after) (failing : SameFailing before after) (cut : cut_in after ≡ cut_in before)
      (since : CalledOn before after) (half : Midway old mid) where
    abbrev n : Node
    n = d.world.nodes s

    abbrev note : GroupNode
    note = note_at (d.world.nodes s)

    at : GroupAt d old name s before
    at = group_at d old name s before stands seat over changed.there

    may : VolumeMay old.facts.items name volume blocks mirrors layout policy
    may = volume_may old.facts.items (in_files old) name volume blocks mirrors layout log map_of policy free

    fact : may.may.site.facts ≡ fact_of_group (d.world.nodes s) (note_at (d.world.nodes s))
    fact = named_same old name s (fact_of_group (d.world.nodes s) (note_at (d.world.nodes s))) may.may.site seat at.fact

    up : (d.world.nodes s).state ≡ IsUp
    up = ap (λ (f : SiteFacts). f.state) (sym fact) ∙ may.may.up

    calling : (new : Yard R g) → KeepsRest mid new → Calling d (Volume name volume blocks mirrors layout log map_of policy) old new name s before after
    calling new rest = record {
      call = behind d old mid new name s before after (record { at = at; changed = changed; failing = failing }) rest;
      is_line = record {
        place = (place_at d old name s stands seat).number;
        done = λ k. record { world = refl; after = λ i. refl; strayed = refl };
        broke = λ k. record { world = refl; after = λ i. refl; strayed = refl };
        lacks = λ k. record { world = refl; after = λ i. refl; strayed = refl };
        off = λ k. record { world = refl; after = λ i. refl; strayed = refl };
      };
      up = up;
      cut = cut;
      since = since;
    }

    is_up : AtSite (UpNoted (d.world.nodes s) (note_at (d.world.nodes s))) before
    is_up = at_up d old name s before at up

    line_done : (new : Yard R g) (vol : ℕ) → ((k : Node) (next : GroupNode) → AtSite (UpNoted k next) before → OnSites (λ o e. SiteAdded k next volume want o e (Ok vol)) before after) → ((k : Node) (next : GroupNode) → AtSite (UpNoted k next) before → OnSites (λ o e. AddedMapped o e (Ok vol)) before after)
        → ((f : SiteFacts) (c : Config) → slice_get mid.facts.items s ≡ Some f → HasConfig s c mid → new.facts.items ≡ slice_set mid.facts.items s (with_table (kinds_by c.rvg c.volumes) f))
        → new.assemblies ≡ mid.assemblies → KeepsRest mid new → LeadsOver d (Volume name volume blocks mirrors layout log map_of policy) Done old new
    line_done new vol made maps facts assemblies rest =
        volume_done d old new name volume blocks mirrors layout log map_of policy want is_want s before after stands (calling new rest) vol (made n note is_up) (maps n note is_up)
        (λ c has.
        facts (fact_of_group (d.world.nodes s) (note_at (d.world.nodes s))) c (ap (λ (fs : List SiteFacts). slice_get fs s) half.facts ∙ at.fact)
        (record { disk_set = after; there = ap (λ (es : List (DiskSet R g)). slice_get es s) changed.disk_sets ∙ get-set_same old.disk_sets.items s after (slice_get_within old.disk_sets.items s before changed.there); is = has })
        ∙ ap (λ (fs : List SiteFacts). slice_set fs s (with_table (kinds_by c.rvg c.volumes) (fact_of_group (d.world.nodes s) (note_at (d.world.nodes s))))) half.facts)
        (load_on old mid new half rest (ap (λ xs. xs.items) assemblies))

    line_stopped : (new : Yard R g) (stop : Stop) (result : Result Said OutOfMemory) → ((k : Node) (next : GroupNode) → AtSite (UpNoted k next) before → OnSites (λ o e. SiteAdded k next volume want o e (Err stop)) before after) → ((k : Node) (next : GroupNode) → AtSite (UpNoted k next) before → OnSites (λ o e. AddedMapped o e (Err stop)) before after)
        → ((f : SiteFacts) → slice_get mid.facts.items s ≡ Some f → reply_noted s f stop mid new result) → LeadsOverIs d (Volume name volume blocks mirrors layout log map_of policy) old new result
    line_stopped new stop result made maps reply =
        let said : reply_noted s (fact_of_group (d.world.nodes s) (note_at (d.world.nodes s))) stop mid new result
        = reply (fact_of_group (d.world.nodes s) (note_at (d.world.nodes s))) (ap (λ (fs : List SiteFacts). slice_get fs s) half.facts ∙ at.fact) in
        by_calling (calling new (rest_by s (fact_of_group (d.world.nodes s) (note_at (d.world.nodes s))) stop mid new result said)) said
      where
        by_calling : Calling d (Volume name volume blocks mirrors layout log map_of policy) old new name s before after → reply_noted s (fact_of_group (d.world.nodes s) (note_at (d.world.nodes s))) stop mid new result
            → LeadsOverIs d (Volume name volume blocks mirrors layout log map_of policy) old new result
        by_calling it said =
            volume_stopped d old new name volume blocks mirrors layout log map_of policy want is_want s before after stands it mid half result (up_noted (d.world.nodes s) it.call.at.set.site it.call.at.stands.stands up)
            (subst (λ (f : SiteFacts). find (λ (v : VolumeFacts). bytes_eq v.name volume) f.volumes ≡ None) fact may.free) (subst (λ (f : SiteFacts). length f.volumes < MOST_VOLUMES) fact may.few) may.plexes may.shape
            stop (made (d.world.nodes s) (note_at (d.world.nodes s)) is_up) (maps (d.world.nodes s) (note_at (d.world.nodes s)) is_up) said

  -- ---- by what is known of the yard between the call and the reply

  pub rest_of : (s : ℕ) (stop : Stop) (result : Result Said OutOfMemory) (mid new : Yard R g) → ((f : SiteFacts) → slice_get mid.facts.items s ≡ Some f → reply_noted s f stop mid new result)
      → (facts : List SiteFacts) → mid.facts.items ≡ facts → s < length facts → KeepsRest mid new
  rest_of s stop result mid new reply facts same low =
      let f = get_there facts s low in rest_by s f.0 stop mid new result (reply f.0 (ap (λ (fs : List SiteFacts). slice_get fs s) same ∙ f.1))

  pub told_on : (mid new : Yard R g) → KeepsRest mid new → (old : Yard R g) (s : ℕ) (before after : DiskSet R g) → Changed old mid s before after → IsTold new → IsTold old
  told_on mid new rest old s before after changed told = told_by old mid s before after changed (subst (λ es. AreTold es) (ap (λ es. es.items) rest.disk_sets) told)

  pub done_by : (mid new : Yard R g) → KeepsRest mid new → (d : Doubted) (old : Yard R g) (name volume : List ℕ) (blocks mirrors : ℕ) (layout : Layout) (log : VolumeLog) (map_of : VolumeMap) (policy : ReadPolicy) (want : Shape)
      → want ≡ shape_of blocks mirrors layout log map_of policy → (s : ℕ) (before after : DiskSet R g) → StandsFor d old → seat_of old.facts.items name ≡ Some s → over_group_at d.world name ≡ true
      → IsFree old (Volume name volume blocks mirrors layout log map_of policy) → Changed old mid s before after → SameFailing before after → cut_in after ≡ cut_in before → CalledOn before after → Midway old mid
      → (vol : ℕ) → ((k : Node) (next : GroupNode) → AtSite (UpNoted k next) before → OnSites (λ o e. SiteAdded k next volume want o e (Ok vol)) before after) → ((k : Node) (next : GroupNode) → AtSite (UpNoted k next) before → OnSites (λ o e. AddedMapped o e (Ok vol)) before after)
      → ((f : SiteFacts) (c : Config) → slice_get mid.facts.items s ≡ Some f → HasConfig s c mid → new.facts.items ≡ slice_set mid.facts.items s (with_table (kinds_by c.rvg c.volumes) f))
      → new.assemblies ≡ mid.assemblies → LeadsOver d (Volume name volume blocks mirrors layout log map_of policy) Done old new
  done_by mid new rest d old name volume blocks mirrors layout log map_of policy want is_want s before after stands seat over free changed failing cut since half vol made maps facts assemblies =
      line_done d old mid name volume blocks mirrors layout log map_of policy want is_want s before after stands seat over free changed failing cut since half new vol made maps facts assemblies rest

  pub stopped_by : (s : ℕ) (stop : Stop) (result : Result Said OutOfMemory) (mid new : Yard R g) → ((f : SiteFacts) → slice_get mid.facts.items s ≡ Some f → reply_noted s f stop mid new result)
      → (d : Doubted) (old : Yard R g) (name volume : List ℕ) (blocks mirrors : ℕ) (layout : Layout) (log : VolumeLog) (map_of : VolumeMap) (policy : ReadPolicy) (want : Shape)
      → want ≡ shape_of blocks mirrors layout log map_of policy → (before after : DiskSet R g) → StandsFor d old → seat_of old.facts.items name ≡ Some s → over_group_at d.world name ≡ true
      → IsFree old (Volume name volume blocks mirrors layout log map_of policy) → Changed old mid s before after → SameFailing before after → cut_in after ≡ cut_in before → CalledOn before after → Midway old mid
      → ((k : Node) (next : GroupNode) → AtSite (UpNoted k next) before → OnSites (λ o e. SiteAdded k next volume want o e (Err stop)) before after) → ((k : Node) (next : GroupNode) → AtSite (UpNoted k next) before → OnSites (λ o e. AddedMapped o e (Err stop)) before after)
      → LeadsOverIs d (Volume name volume blocks mirrors layout log map_of policy) old new result
  stopped_by s stop result mid new reply d old name volume blocks mirrors layout log map_of policy want is_want before after stands seat over free changed failing cut since half made maps =
      line_stopped d old mid name volume blocks mirrors layout log map_of policy want is_want s before after stands seat over free changed failing cut since half new stop result made maps reply

  pub asked_by : (mid new : Yard R g) → KeepsRest mid new → (d : Doubted) (old : Yard R g) (name : List ℕ) (s : ℕ) (before after : DiskSet R g) → StandsFor d old → seat_of old.facts.items name ≡ Some s
      → Changed old mid s before after → SameFailing before after → OfSite SameFailing (site_number d.world name) old new
  asked_by mid new rest d old name s before after stands seat changed failing =
      asks_at SameFailing d old new name s before after stands seat changed.there (ap (λ es. es.items) rest.disk_sets ∙ changed.disk_sets) failing

  pub called_by : (mid new : Yard R g) → KeepsRest mid new → (d : Doubted) (old : Yard R g) (name volume : List ℕ) (blocks mirrors : ℕ) (layout : Layout) (log : VolumeLog) (map_of : VolumeMap) (policy : ReadPolicy) (s : ℕ) (before after : DiskSet R g)
      → StandsFor d old → seat_of old.facts.items name ≡ Some s → over_group_at d.world name ≡ true → IsFree old (Volume name volume blocks mirrors layout log map_of policy) → Changed old mid s before after
      → ((k : Node) (next : GroupNode) → AtSite (UpNoted k next) before → FuseGoesOn before after) → OfSite FuseGoesOn (site_number d.world name) old new
  called_by mid new rest d old name volume blocks mirrors layout log map_of policy s before after stands seat over free changed fuse =
      let at : GroupAt d old name s before = group_at d old name s before stands seat over changed.there in
      let may = volume_may old.facts.items (in_files old) name volume blocks mirrors layout log map_of policy free in
      let fact = named_same old name s (fact_of_group (d.world.nodes s) (note_at (d.world.nodes s))) may.may.site seat at.fact in
      let up : (d.world.nodes s).state ≡ IsUp = ap (λ (f : SiteFacts). f.state) (sym fact) ∙ may.may.up in
      asks_at FuseGoesOn d old new name s before after stands seat changed.there (ap (λ es. es.items) rest.disk_sets ∙ changed.disk_sets)
      (fuse (d.world.nodes s) (note_at (d.world.nodes s)) (at_up d old name s before at up))

  -- nothing was asked of any disk
  pub asked_none : (d : Doubted) (y : Yard R g) (name : List ℕ) → StandsFor d y → IsSome (seat_of y.facts.items name) → OfSite SameFailing (site_number d.world name) y y
  asked_none d y name stands named = by (seat_of y.facts.items name) refl named
    where
      by : (o : Option ℕ) → seat_of y.facts.items name ≡ o → IsSome o → OfSite SameFailing (site_number d.world name) y y
      by None is some = absurd (let no_one : false ≡ true = some in cc)
      by (Some s) is some =
          let place = place_at d y name s stands is in
          let low : s < length y.disk_sets.items = (let below = place.below in let few = stands.disk_sets.few in let eight = stands.disk_sets.eight in omega (arith, below, few, eight)) in
          let e = get_there y.disk_sets.items s low in
          asks_at SameFailing d y y name s e.0 e.0 stands is e.1 (sym (set_same y.disk_sets.items s e.0 e.1)) (failing_same e.0)
