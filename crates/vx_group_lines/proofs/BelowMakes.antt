-- The line that makes a volume of a group below a replicated volume group, in the yard of its site.
use Rattle.std.proofs.Common.{◌≡◌, ◌∙◌, ◌<◌, ◌≤◌, ℕ, true, false, List, length, ap, arith, refl, subst, sym}
use Rattle.std.specs.List.{find, list_any}
use Rattle.std.specs.Prelude.{Some, None, slice_get, slice_set, Result, Ok, Err}
use Rattle.std.specs.Str.{bytes_eq}
use Rattle.std.proofs.lemmas.Option.{slice_get_within}
use Rattle.vx_model.specs.declared.errors.OutOfMemory.{OutOfMemory}
use Rattle.vx_model.specs.declared.errors.Stop.{Stop}
use Rattle.vx_model.specs.declared.errors.Stop.TheVariants.{No as StopsBy, OutOfMemory as MemoryStop}
use Rattle.vx_model.specs.declared.limits.TheConstants.{MOST_VOLUMES}
use Rattle.vx_model.specs.declared.site.SiteState.TheVariants.{Up as IsUp}
use Rattle.vx_disk.specs.declared.shelf.Shelf.{Ghosts}
use Rattle.vx_config.specs.declared.config.Config.{Config}
use Rattle.vx_kept.specs.Cleans.{at_serial}
use Rattle.vx_history.specs.Doubts.{Doubted}
use Rattle.vx_history.specs.Groups.{GroupNode}
use Rattle.vx_history.specs.World.{Node}
use Rattle.vx_layout.specs.declared.shape.Shape.{Shape}
use Rattle.vx_group.specs.Makes.{has_name}
use Rattle.vx_order.specs.declared.facts.SiteFacts.{SiteFacts}
use Rattle.vx_order.specs.declared.facts.VolumeFacts.{VolumeFacts}
use Rattle.vx_script.specs.declared.line.Layout.{Layout}
use Rattle.vx_script.specs.declared.line.ReadPolicy.{ReadPolicy}
use Rattle.vx_script.specs.declared.line.ScriptLine.TheVariants.{Volume}
use Rattle.vx_script.specs.declared.line.VolumeLog.{VolumeLog}
use Rattle.vx_script.specs.declared.line.VolumeMap.{VolumeMap}
use Rattle.vx_grouped.specs.GroupSites.{site_config}
use Rattle.vx_diskset.proofs.OverNoted.{note_read, noted_up}
use Rattle.vx_diskset.specs.Aboves.{site_in}
use Rattle.vx_diskset.specs.Asked.{SameFailing}
use Rattle.vx_diskset.specs.GroupCalls.{AtSite, CalledOn}
use Rattle.vx_diskset.specs.Holds.{beside_of}
use Rattle.vx_diskset.specs.Noted.{below_rvg}
use Rattle.vx_diskset.specs.OverPlains.{OnOver}
use Rattle.vx_diskset.specs.OverVolumes.{VolsBelow}
use Rattle.vx_diskset.specs.declared.disk_set.DiskSet.{DiskSet}
use Rattle.vx_events.proofs.Places.{some_same}
use Rattle.vx_events.specs.Facts.{seat_of}
use Rattle.vx_events.specs.GroupLines.{shape_of}
use Rattle.vx_events.specs.GroupNotes.{note_at}
use Rattle.vx_events.specs.LinkedFacts.{linked_fact}
use Rattle.vx_events.specs.RvgOver.{missed_world}
use Rattle.vx_events.specs.RvgSteps.{over_rvg_at}
use Rattle.vx_events.specs.RvgViews.{kinds_by, table_at}
use Rattle.vx_events.specs.declared.said.Said.{Said}
use Rattle.vx_events.specs.declared.said.Said.TheVariants.{Done}
use Rattle.vx_yard.proofs.Lists.{get-set_same}
use Rattle.vx_yard.proofs.NamedSite.{fact_named}
use Rattle.vx_yard.proofs.OneSite.{Changed}
use Rattle.vx_yard.specs.AboveLines.{LeadsAboveIs}
use Rattle.vx_yard.specs.GroupFacts.{with_table}
use Rattle.vx_yard.specs.Standing.{StandsFor}
use Rattle.vx_yard.specs.Working.{IsFree}
use Rattle.vx_yard.specs.Yards.{in_files}
use Rattle.vx_yard.specs.declared.yard.Yard.{Yard}
use Rattle.vx_above.proofs.Works.{beside_short}
use Rattle.vx_group_lines.proofs.BelowAt.{BelowAt, below_at}
use Rattle.vx_group_lines.proofs.BelowDone.{BelowLine}
use Rattle.vx_group_lines.proofs.BelowPlex.{SoundUp, sound_up}
use Rattle.vx_group_lines.proofs.BelowShort.{short_stays}
use Rattle.vx_group_lines.proofs.BelowStart.{BelowStart, above_is, below_start}
use Rattle.vx_group_lines.proofs.BelowUp.{OverBehind, overs_behind}
use Rattle.vx_group_lines.proofs.BelowVolume.{vol_done, vol_refused, wants_volume}
use Rattle.vx_group_lines.proofs.GroupEnding.{Midway, load_on}
use Rattle.vx_group_lines.proofs.Tests.{VolumeMay, volume_may}
use Rattle.vx_group_lines.proofs.VolumePlaces.{count_shown, unnamed_shown}
use Rattle.vx_group_lines.specs.Noting.{HasConfig, KeepsRest, reply_noted}

module _ {R : Type 0} {g : Ghosts R} (d : Doubted) (old mid : Yard R g) (name volume : List ℕ) (blocks mirrors : ℕ) (layout : Layout) (log : VolumeLog) (map_of : VolumeMap) (policy : ReadPolicy) (want : Shape) (is_want : want ≡ shape_of blocks mirrors layout log map_of policy)
    (s : ℕ) (before after : DiskSet R g) (stands : StandsFor d old) (seat : seat_of old.facts.items name ≡ Some s) (over : over_rvg_at d.world name ≡ true)
    (free : IsFree old (Volume name volume blocks mirrors layout log map_of policy)) (changed : Changed old mid s before after) (failing : SameFailing before after) (since : CalledOn before after) (half : Midway old mid) where
  may : VolumeMay old.facts.items name volume blocks mirrors layout policy
  may = volume_may old.facts.items (in_files old) name volume blocks mirrors layout log map_of policy free

  start : BelowStart d old name s before
  start = below_start d old name s before stands seat over may.may changed.there

  abbrev e : Doubted
  e = missed_world start.missed d s

  abbrev n : Node
  n = e.world.nodes s

  abbrev note : GroupNode
  note = note_at n

  -- no volume of the group has the name, and there is room for one more
  frees : (c : Config) → site_config (site_in start.at.set) ≡ Some c → (list_any (has_name volume) c.volumes ≡ false) × (length c.volumes < MOST_VOLUMES)
  frees c is =
      let fact : may.may.site.facts ≡ linked_fact e.world s = fact_named e old name s start.at.seat seat may.may.site in
      let up : SoundUp note (site_in start.at.set) = sound_up (below_rvg n) note (site_in start.at.set) start.asks in
      let here : c ≡ up.config = some_same (sym is ∙ up.has) in
      let same : start.at.named.0 ≡ at_serial 0 c = some_same (sym start.at.named.2 ∙ note_read note up.config up.noted) ∙ ap (λ (x : Config). at_serial 0 x) (sym here) in
      let none : find (λ (v : VolumeFacts). bytes_eq v.name volume) (table_at n) ≡ None = ap (λ (f : SiteFacts). find (λ (v : VolumeFacts). bytes_eq v.name volume) f.volumes) (sym fact) ∙ may.free in
      let count : length start.at.named.0.volumes ≤ length (table_at n) = count_shown n start.at.named.0 start.at.named.1 start.at.over start.at.named.2 start.at.named.3 start.at.named.4 in
      let long : length may.may.site.facts.volumes ≡ length (table_at n) = ap (λ (f : SiteFacts). length f.volumes) fact in
      let few : length start.at.named.0.volumes < MOST_VOLUMES = omega (arith, count, long, may.few) in (
        ap (λ (x : Config). list_any (has_name volume) x.volumes) (sym same) ∙ unnamed_shown n start.at.named.0 start.at.named.1 start.at.over start.at.named.2 start.at.named.3 start.at.named.4 volume none,
        subst (λ (x : Config). length x.volumes < MOST_VOLUMES) same few,
      )

  changed_on : (new : Yard R g) → KeepsRest mid new → Changed old new s before after
  changed_on new rest = record {
    there = changed.there;
    later = changed.later;
    disk_sets = ap (λ es. es.items) rest.disk_sets ∙ changed.disk_sets;
    racks = rest.racks ∙ changed.racks;
  }

  then_of : (r : Result ℕ Stop) → OnOver (VolsBelow volume want r) before after → OverBehind (VolsBelow volume want r start.at.set) after
  then_of r on = overs_behind (VolsBelow volume want r) before after start.at.set start.at.is_set on

  line_of : (new : Yard R g) → KeepsRest mid new → (r : Result ℕ Stop) (then : OverBehind (VolsBelow volume want r start.at.set) after) → BelowLine e (Volume name volume blocks mirrors layout log map_of policy) old new name s before after then.set
  line_of new rest r then = record {
    call = record {
      at = start.at;
      up = start.up;
      changed = changed_on new rest;
      failing = failing;
      since = since;
      is = then.is;
      cut = then.holds.cut;
      kept = then.holds.kept;
    };
    is_line = record {
      done = λ k. record { world = refl; after = λ i. refl; strayed = refl };
      broke = λ k. record { world = refl; after = λ i. refl; strayed = refl };
      lacks = λ k. record { world = refl; after = λ i. refl; strayed = refl };
      off = λ count k. record { world = refl; after = λ i. refl; strayed = refl };
    };
    maps = start.maps;
  }

  -- it is made
  pub made : (new : Yard R g) (vol : ℕ) → OnOver (VolsBelow volume want (Ok vol)) before after
      → ((f : SiteFacts) (c : Config) → slice_get mid.facts.items s ≡ Some f → HasConfig s c mid → new.facts.items ≡ slice_set mid.facts.items s (with_table (kinds_by c.rvg c.volumes) f))
      → new.assemblies ≡ mid.assemblies → KeepsRest mid new → LeadsAboveIs d (Volume name volume blocks mirrors layout log map_of policy) old new (Ok Done)
  unfolding line_of
  made new vol on facts assemblies rest =
      let r : Result ℕ Stop = Ok vol in
      let then : OverBehind (VolsBelow volume want r start.at.set) after = then_of r on in
      let shown : (c : Config) → site_config (site_in then.set) ≡ Some c → new.facts.items ≡ slice_set old.facts.items s (with_table (kinds_by c.rvg c.volumes) (linked_fact e.world s))
      = λ c has.
      facts (linked_fact e.world s) c (ap (λ (fs : List SiteFacts). slice_get fs s) half.facts ∙ start.at.seat.fact)
      (record {
        disk_set = after;
        there = ap (λ (es : List (DiskSet R g)). slice_get es s) changed.disk_sets ∙ get-set_same old.disk_sets.items s after (slice_get_within old.disk_sets.items s before changed.there);
        is = subst (λ (x : DiskSet R g). AtSite (λ z. site_config z ≡ Some c) x) (sym then.is) has;
      })
      ∙ ap (λ (fs : List SiteFacts). slice_set fs s (with_table (kinds_by c.rvg c.volumes) (linked_fact e.world s))) half.facts in
      above_is d old new name s before (Volume name volume blocks mirrors layout log map_of policy) (Ok Done) start start.number (λ said fails next ends. ends) (
        Done,
        refl,
        vol_done e old new name volume blocks mirrors layout log map_of policy want is_want s before after then.set start.stands (line_of new rest r then) start.asks vol
            (then.holds.made (below_rvg n) note start.asks) (then.holds.maps (below_rvg n) note start.asks) shown (load_on old mid new half rest (ap (λ xs. xs.items) assemblies)),
      )

  -- it is not
  pub unmade : (new : Yard R g) (stop : Stop) (result : Result Said OutOfMemory) → OnOver (VolsBelow volume want (Err stop)) before after → KeepsRest mid new → ((f : SiteFacts) → slice_get mid.facts.items s ≡ Some f → reply_noted s f stop mid new result)
      → LeadsAboveIs d (Volume name volume blocks mirrors layout log map_of policy) old new result
  unfolding line_of
  unmade new (StopsBy why) result on rest reply =
      let r : Result ℕ Stop = Err (StopsBy why) in
      let then : OverBehind (VolsBelow volume want r start.at.set) after = then_of r on in
      above_is d old new name s before (Volume name volume blocks mirrors layout log map_of policy) result start start.number (λ said fails next ends. ends)
      (vol_refused e old new name volume blocks mirrors layout log map_of policy want is_want s before after then.set start.stands (line_of new rest r then) start.asks mid result half why
      (then.holds.made (below_rvg n) note start.asks) (then.holds.maps (below_rvg n) note start.asks)
      (λ which lacks. wants_volume (below_rvg n) note (site_in start.at.set) name volume blocks mirrors layout log map_of policy want is_want start.asks start.maps frees may.plexes may.shape which lacks)
      (reply (linked_fact e.world s) (ap (λ (fs : List SiteFacts). slice_get fs s) half.facts ∙ start.at.seat.fact)))
  unmade new MemoryStop result on rest reply =
      let r : Result ℕ Stop = Err MemoryStop in
      let first : BelowAt d old name s before = below_at d old name s before stands seat over changed.there in
      let then : OverBehind (VolsBelow volume want r first.set) after = overs_behind (VolsBelow volume want r) before after first.set first.is_set on in
      let up : (d.world.nodes s).state ≡ IsUp = sym (ap (λ (f : SiteFacts). f.state) (fact_named d old name s first.seat seat may.may.site)) ∙ may.may.up in
      let said : reply_noted s (linked_fact d.world s) MemoryStop mid new result = reply (linked_fact d.world s) (ap (λ (fs : List SiteFacts). slice_get fs s) half.facts ∙ first.seat.fact) in
      let asks = noted_up (beside_of d s) (d.world.nodes s) (note_at (d.world.nodes s)) first.set.site first.stands.1 up first.noted.0 in
      let stays = short_stays d old new name s before after then.set stands first (changed_on new rest) then.is (then.holds.made (below_rvg (d.world.nodes s)) (note_at (d.world.nodes s)) asks) then.holds.cut then.holds.kept
      (then.holds.still.same (beside_of d s) (d.world.nodes s) first.stands up) then.holds.disks
      (ap (λ (y : Yard R g). y.facts.items) said.0 ∙ half.facts) (load_on old mid new half rest (ap (λ (y : Yard R g). y.assemblies.items) said.0)) in
      subst (λ (x : Result Said OutOfMemory). LeadsAboveIs d (Volume name volume blocks mirrors layout log map_of policy) old new x) (sym said.1) (beside_short d (Volume name volume blocks mirrors layout log map_of policy) old new stays)
