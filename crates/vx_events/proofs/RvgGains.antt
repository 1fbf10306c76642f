-- A group that gets a replicated volume group has the one of its configuration.
use Rattle.std.proofs.Common.{◌≡◌, ◌∙◌, ℕ, List, [], ◌∷◌, Option, Some, None, ap, map, refl, sym, subst}
use Rattle.std.specs.Prelude.{slice_get}
use Rattle.vx_model.specs.Sizes.{ring_of}
use Rattle.vx_model.specs.declared.no.No.{No}
use Rattle.vx_model.specs.declared.units.Units.{Units}
use Rattle.vx_history.proofs.Updates.{at_place}
use Rattle.vx_history.specs.Doubts.{Doubted}
use Rattle.vx_history.specs.Groups.{GroupNode}
use Rattle.vx_history.specs.Refusals.{Outcome}
use Rattle.vx_history.specs.Step.{step}
use Rattle.vx_history.specs.Steps.{burned}
use Rattle.vx_history.specs.Volumes.{as_volume, volumes_set}
use Rattle.vx_history.specs.World.{Node, World}
use Rattle.vx_history.specs.declared.event.Event.TheVariants.{Volumes as VolumesAt}
use Rattle.vx_history.specs.declared.volumes.DataVolume.{DataVolume}
use Rattle.vx_config.specs.Checks.{blocks_of, blocks_or_none}
use Rattle.vx_config.specs.declared.config.Config.{Config}
use Rattle.vx_config.specs.declared.entry.VolumeEntry.{VolumeEntry}
use Rattle.vx_script.specs.declared.line.ScriptLine.{ScriptLine}
use Rattle.vx_events.proofs.Places.{some_same}
use Rattle.vx_events.proofs.Steps.{data_step}
use Rattle.vx_events.specs.Fails.{Fails}
use Rattle.vx_events.specs.GroupConfigs.{ConfigLoses, StateLoses, VolumeGoesBy}
use Rattle.vx_config.specs.Changes.{Matched}
use Rattle.vx_events.specs.GroupLines.{noting}
use Rattle.vx_events.specs.GroupNotes.{note_at}
use Rattle.vx_events.specs.GroupViews.{config_of, volumes_of}
use Rattle.vx_events.specs.RvgFits.{FitsSome, MayGetRvg, data_at, data_of, entries_noted, entry_name}
use Rattle.vx_events.specs.RvgMakes.{MakesRvg, RvgCut, RvgDone, RvgFails, RvgLacks, units_at}
use Rattle.vx_events.specs.RvgNotes.{NotesRvg, as_replicated}
use Rattle.vx_events.specs.declared.said.Said.{Said}
use Rattle.vx_events.specs.declared.said.Said.TheVariants.{Done, Refused}
use Rattle.vx_config.specs.declared.entry.PlexEntry.{PlexEntry}
use Rattle.vx_model.specs.declared.site.PlexState.{PlexState}

-- ---- volumes of which plexes alone may have changed

same_name : (By : VolumeEntry → PlexEntry → PlexState → Type 0) (o p : Option VolumeEntry) → Matched (VolumeGoesBy By) o p → entry_name p ≡ entry_name o
same_name By None None is = refl
same_name By None (Some y) is = absurd is
same_name By (Some x) None is = absurd is
same_name By (Some x) (Some y) is = is.name

same_blocks : (By : VolumeEntry → PlexEntry → PlexState → Type 0) (o p : Option VolumeEntry) → Matched (VolumeGoesBy By) o p → blocks_or_none p ≡ blocks_or_none o
same_blocks By None None is = refl
same_blocks By None (Some y) is = absurd is
same_blocks By (Some x) None is = absurd is
same_blocks By (Some x) (Some y) is = is.blocks

module _ (s : ℕ) (fails : Fails) (c d : Config) (loses : ConfigLoses s fails c d) where
  data_same : (place : ℕ) → data_at d.volumes place ≡ data_at c.volumes place
  data_same place =
      ap (λ (name : List ℕ). let x : DataVolume = record { place = place; name = name; blocks = blocks_of d.volumes place } in x)
      (same_name (StateLoses s fails) (slice_get c.volumes place) (slice_get d.volumes place) (loses.volumes place))
      ∙ ap (λ (blocks : ℕ). let x : DataVolume = record { place = place; name = entry_name (slice_get c.volumes place); blocks = blocks } in x)
      (same_blocks (StateLoses s fails) (slice_get c.volumes place) (slice_get d.volumes place) (loses.volumes place))

  list_same : (places : List ℕ) → map (data_at d.volumes) places ≡ map (data_at c.volumes) places
  list_same [] = refl
  list_same (x ∷ xs) =
      ap (λ (y : DataVolume). y ∷ map (data_at d.volumes) xs) (data_same x) ∙ ap (λ (ys : List DataVolume). data_at c.volumes x ∷ ys) (list_same xs)

  size_same : (place : ℕ) → blocks_of d.volumes place ≡ blocks_of c.volumes place
  size_same place = same_blocks (StateLoses s fails) (slice_get c.volumes place) (slice_get d.volumes place) (loses.volumes place)

-- ---- the site behind the event

module _ (w : World) (s : ℕ) (may : MayGetRvg w s) (middle : GroupNode) (log : ℕ) (xs : List DataVolume) where
  abbrev noted_world : World
  noted_world = noting w s middle

  -- the note changes nothing that the tests see
  here : noted_world.nodes s ≡ record (w.nodes s) { group = Some middle }
  here = at_place w.nodes s (record (w.nodes s) { group = Some middle })

  node_gained : (step noted_world (VolumesAt s log xs)).world.nodes s ≡ volumes_set log xs (noted_world.nodes s)
  node_gained =
      ap (λ (o : Outcome). o.world.nodes s)
      (data_step noted_world s log xs may.below (ap (λ (n : Node). n.state) here ∙ may.up) (ap (λ (n : Node). n.halted) here ∙ may.running)
      (ap (λ (n : Node). n.role) here ∙ may.role) (ap (λ (n : Node). n.volumes) here ∙ may.volumes) (ap (λ (n : Node). n.log) here ∙ may.log))
      ∙ at_place noted_world.nodes s (volumes_set log xs (noted_world.nodes s))

-- ---- the line

module _ (told : Type 0) (d : Doubted) (s : ℕ) (fails : Fails) (new : Doubted) (may : MayGetRvg d.world s) (c : Config)
    (found : config_of (note_at (new.world.nodes s)).config ≡ Some c) (units : Units) (middle next : GroupNode)
    (x : NotesRvg told s fails units (note_at (d.world.nodes s)) middle next) where
  abbrev note : GroupNode
  note = note_at (d.world.nodes s)

  abbrev last : World
  last = (step (noting d.world s middle) (VolumesAt s (blocks_of (entries_noted note) units.srl) (data_of (entries_noted note) units))).world

  fits : new.world.nodes s ≡ record (last.nodes s) { group = Some next; fuse = burned (last.nodes s).fuse } → FitsSome (new.world.nodes s) c
  fits is =
      let noted : config_of next.config ≡ Some c = ap (λ (n : Node). config_of (note_at n).config) (sym is) ∙ found in
      let now_is : config_of next.config ≡ Some x.moves.now = ap (λ (g : GroupNode). config_of g.config) x.is ∙ x.moves.is in
      let same : x.moves.now ≡ c = some_same (sym now_is ∙ noted) in
      let old_is : config_of note.config ≡ Some x.moves.old = ap (λ (g : GroupNode). config_of g.config) (sym x.narrowed.same) ∙ x.moves.was in
      let entries : entries_noted note ≡ x.moves.old.volumes = ap volumes_of old_is in
      let loses : ConfigLoses s fails (as_replicated units x.moves.old) c =
      subst (λ (k : Config). ConfigLoses s fails (as_replicated units x.moves.old) k) same x.moves.change in
      let gained = node_gained d.world s may middle (blocks_of (entries_noted note) units.srl) (data_of (entries_noted note) units) in (
        units,
        record {
          rvg = loses.rvg;
          volumes = ap (λ (n : Node). n.volumes) is ∙ ap (λ (n : Node). n.volumes) gained
              ∙ ap (λ (vs : List VolumeEntry). map as_volume (data_of vs units)) entries
              ∙ sym (ap (λ (ys : List DataVolume). map as_volume ys) (list_same s fails (as_replicated units x.moves.old) c loses units.vols));
          ring = ap (λ (n : Node). n.ring) is ∙ ap (λ (n : Node). n.ring) gained
              ∙ ap (λ (vs : List VolumeEntry). ring_of (blocks_of vs units.srl)) entries
              ∙ sym (ap ring_of (size_same s fails (as_replicated units x.moves.old) c loses units.srl));
        },
      )

pub refused_done : (why : No) → Refused why ≡ Done → ⊥
refused_done why e = cc

pub made_fits : (told : Type 0) (d : Doubted) (line : ScriptLine) (s : ℕ) (fails : Fails) (said : Said) (new : Doubted) (c : Config) → MayGetRvg d.world s
    → MakesRvg told d line s fails said new → said ≡ Done → config_of (note_at (new.world.nodes s)).config ≡ Some c → FitsSome (new.world.nodes s) c
made_fits told d line s fails said new c may (RvgDone site srl maps volumes middle next is are x says left) done found =
    let u : Units = units_at d s srl maps volumes in
    let v : World = last told d s fails new may c found u middle next x in
    let noted : World = noting v s next in
    fits told d s fails new may c found u middle next x
    (ap (λ (w : World). w.nodes s) left.world
    ∙ at_place noted.nodes s (record (noted.nodes s) { fuse = burned (noted.nodes s).fuse })
    ∙ ap (λ (n : Node). let k : Node = record n { fuse = burned n.fuse } in k) (at_place v.nodes s (record (v.nodes s) { group = Some next })))
made_fits told d line s fails said new c may (RvgLacks site srl maps volumes next is are x says left) done found = absurd (refused_done _ (sym says ∙ done))
made_fits told d line s fails said new c may (RvgFails site srl maps volumes disk next is are has x says left) done found = absurd (refused_done _ (sym says ∙ done))
made_fits told d line s fails said new c may (RvgCut site srl maps volumes next is are fused x says left) done found = absurd (refused_done _ (sym says ∙ done))
