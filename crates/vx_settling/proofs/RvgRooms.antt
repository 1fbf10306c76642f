-- Behind a line over groups of disks each site has the log and the data volumes that it had, and one with a replicated volume group the one that it notes.
use Rattle.std.proofs.Common.{◌≡◌, ◌∙◌, ◌⊎◌, inl, inr, ℕ, List, [], length, Bool, Some, true, false, ap, sym, subst}
use Rattle.std.specs.Prelude.{eqb, is_some, not}
use Rattle.vx_model.specs.declared.units.Units.{Units}
use Rattle.vx_history.proofs.Updates.{and_right, at_place, eqb_self}
use Rattle.vx_history.specs.Doubts.{Doubted}
use Rattle.vx_history.specs.Good.{IsMade}
use Rattle.vx_history.specs.Groups.{GroupNode}
use Rattle.vx_history.specs.Steps.{group_set}
use Rattle.vx_history.specs.Stops.{IsLikeDoubted}
use Rattle.vx_history.specs.World.{Link, Node, Volume, no_link}
use Rattle.vx_config.specs.declared.config.Config.{Config}
use Rattle.vx_script.specs.declared.line.ScriptLine.{ScriptLine}
use Rattle.vx_world.proofs.Doubting.{like_good}
use Rattle.vx_world.proofs.RoomLines.{like_has, like_stays, line_room}
use Rattle.vx_world.proofs.Rooms.{room_then}
use Rattle.vx_world.specs.Lines.{DoubtsAlike, GoodDoubted, HasData, RoomStays, SameRoom}
use Rattle.vx_events.proofs.RvgAgain.{fits_again, fits_found}
use Rattle.vx_events.proofs.RvgEnding.{back_like, fall_stops, stops_or_finds}
use Rattle.vx_events.proofs.RvgStays.{back_group, but_keeps, same_config, stays_or_finds, unmade_config}
use Rattle.vx_events.specs.Ends.{found_linked}
use Rattle.vx_events.specs.Fails.{Fails}
use Rattle.vx_events.specs.GroupNotes.{note_at}
use Rattle.vx_events.specs.GroupViews.{config_of}
use Rattle.vx_events.specs.RvgBack.{FindsLost, FindsNoRvg, FindsPlain, FindsRvg, IsLeftBack, RvgFinds, fallen, found_fallen, unmade_site}
use Rattle.vx_events.specs.RvgFits.{FitsNoted, FitsRvg, HasUnits, NoteKeepsRvg}
use Rattle.vx_events.specs.RvgMakes.{RvgStops}
use Rattle.vx_events.specs.RvgOver.{OpensFor, OverRvg}
use Rattle.vx_events.specs.RvgViews.{is_over_rvg}
use Rattle.vx_events.specs.Strays.{gone_astray}
use Rattle.vx_events.specs.declared.said.Said.{Said}

-- ---- a site with a replicated volume group has data volumes

some_volumes : (vs : List Volume) → not (eqb (length vs) 0) ≡ true → vs ≡ [] → ⊥
some_volumes vs some none =
    let empty : eqb (length vs) 0 ≡ true = subst (λ (xs : List Volume). eqb (length xs) 0 ≡ true) (sym none) (eqb_self 0) in
    let other : not (eqb (length vs) 0) ≡ false = ap not empty in
    let f : true ≡ false = sym some ∙ other in cc

pub has_data : (n : Node) → IsMade n → is_over_rvg n ≡ true → HasData n
has_data n made over = (made, some_volumes n.volumes (and_right (is_some n.group) (not (eqb (length n.volumes) 0)) over))

-- ---- what events leave

pub stops_room : (d new : Doubted) → GoodDoubted d → DoubtsAlike d → RvgStops d new → RoomStays d new
stops_room d new good alike x =
    let e : Doubted = x.before in
    let first : RoomStays d e = like_stays d e x.like alike in
    let last : RoomStays e new = line_room e new x.events x.ending (like_good d e good x.like) first.doubts x.stops in
    record {
      sites = λ i has.
          room_then (d.world.nodes i) (e.world.nodes i) (new.world.nodes i) (first.sites i has) (last.sites i (like_has d e x.like i has));
      doubts = last.doubts;
    }

-- ---- what is found on disks of which nothing is known

module _ (told : Type 0) (d : Doubted) (line : ScriptLine) (s : ℕ) (fails : Fails) (said : Said) (new : Doubted) where
  -- the site as the world had it behind the line
  left_as : (taken : Bool) (next : GroupNode) (last : Doubted) (k : Node) → last.world.nodes s ≡ k → IsLeftBack s line taken next d (gone_astray last) new → SameRoom k (new.world.nodes s)
  left_as taken next last k here left =
      let like : IsLikeDoubted (gone_astray last) new = back_like s line taken next d (gone_astray last) new left in
      record {
        ring = ap (λ (n : Node). n.ring) (like.worlds.nodes s) ∙ ap (λ (n : Node). n.ring) here;
        volumes = ap (λ (n : Node). n.volumes) (like.worlds.nodes s) ∙ ap (λ (n : Node). n.volumes) here;
      }

  -- the site as it came up
  came_as : (taken : Bool) (next : GroupNode) (mid : Doubted) (k : Node) (row : ℕ → Link) → IsLeftBack s line taken next d (gone_astray (found_linked mid s k row)) new
      → SameRoom k (new.world.nodes s)
  came_as taken next mid k row left = left_as taken next (found_linked mid s k row) k (at_place mid.world.nodes s k) left

  -- with the replicated volume group of the configuration that was found
  room_fits : (next : GroupNode) (k : Node) (c : Config) (units : Units) → config_of next.config ≡ Some c → FitsRvg k c units → HasUnits c.volumes units → (new.world.nodes s).group ≡ Some next → SameRoom k (new.world.nodes s)
      → FitsNoted (new.world.nodes s)
  room_fits next k c units config fits has noted same = fits_found k (new.world.nodes s) c units next noted same.ring same.volumes config fits has

  found_fits : (taken : Bool) (next : GroupNode) (mid : Doubted) (k : Node) (row : ℕ → Link) (c : Config) (units : Units) → config_of next.config ≡ Some c
      → FitsRvg k c units → HasUnits c.volumes units → IsLeftBack s line taken next d (gone_astray (found_linked mid s k row)) new → FitsNoted (new.world.nodes s)
  found_fits taken next mid k row c units config fits has left =
      room_fits next k c units config fits has (back_group s line taken next d (gone_astray (found_linked mid s k row)) new left) (came_as taken next mid k row left)

  fallen_fits : (taken : Bool) (next : GroupNode) (mid : Doubted) (k : Node) (row : ℕ → Link) (c : Config) (units : Units) → config_of next.config ≡ Some c
      → FitsRvg k c units → HasUnits c.volumes units → IsLeftBack s line taken next d (gone_astray (found_fallen mid s k row)) new → FitsNoted (new.world.nodes s)
  fallen_fits taken next mid k row c units config fits has left =
      let same : SameRoom (fallen k) (new.world.nodes s) = left_as taken next (found_fallen mid s k row) (fallen k) (at_place mid.world.nodes s (fallen k)) left in
      room_fits next k c units config fits has (back_group s line taken next d (gone_astray (found_fallen mid s k row)) new left) (record { ring = same.ring; volumes = same.volumes })

  -- a site that had none
  pub finds_gained : (is_over_rvg (d.world.nodes s) ≡ true → ⊥) → RvgFinds told d line s fails said new → FitsNoted (new.world.nodes s)
  finds_gained none (FindsRvg kept taken next mid n k row c units are brings unknown dark is same comes config fits lies says left) =
      found_fits taken next mid k row c units config fits lies left
  finds_gained none (FindsLost site kept taken disk next mid n k row c units has cut is are failed unknown dark rests same comes config fits lies says left) = absurd (none has)
  finds_gained none (FindsPlain kept taken next mid has are brings unknown dark is bare says left) = absurd (none has)
  finds_gained none (FindsNoRvg kept taken lost next why has are brings unknown device notes says left) = absurd (none has)

-- ---- lines

module _ (told : Type 0) (d : Doubted) (good : GoodDoubted d) (alike : DoubtsAlike d) (line : ScriptLine) (fails : Fails) (said : Said) (new : Doubted) where
  -- the line ended as events do
  stopped_fits : (s : ℕ) → IsMade (d.world.nodes s) → is_over_rvg (d.world.nodes s) ≡ true → RvgStops d new
      → NoteKeepsRvg (note_at (d.world.nodes s)) (note_at (new.world.nodes s)) → FitsNoted (d.world.nodes s) → FitsNoted (new.world.nodes s)
  stopped_fits s made over stops keeps fits =
      let stays : RoomStays d new = stops_room d new good alike stops in
      let same : SameRoom (d.world.nodes s) (new.world.nodes s) = stays.sites s (has_data (d.world.nodes s) made over) in
      fits_again (d.world.nodes s) (new.world.nodes s) same.ring same.volumes keeps fits

  -- it found something else, or nothing
  finds_fits : (s : ℕ) → IsMade (d.world.nodes s) → is_over_rvg (d.world.nodes s) ≡ true → FitsNoted (d.world.nodes s) → is_over_rvg (new.world.nodes s) ≡ true
      → RvgFinds told d line s fails said new → FitsNoted (new.world.nodes s)
  finds_fits s made over fits still (FindsRvg kept taken next mid n k row c units are brings unknown dark is same comes config rvg lies says left) =
      found_fits told d line s fails said new taken next mid k row c units config rvg lies left
  finds_fits s made over fits still (FindsLost site kept taken disk next mid n k row c units has cut is are failed unknown dark rests same comes config rvg lies says left) =
      fallen_fits told d line s fails said new taken next mid k row c units config rvg lies left
  finds_fits s made over fits still (FindsPlain kept taken next mid has are brings unknown dark is none says left) =
      let same : SameRoom (group_set s (unmade_site (mid.world.nodes s))) (new.world.nodes s) =
      came_as told d line s fails said new taken next mid (group_set s (unmade_site (mid.world.nodes s))) (λ k. no_link) left in
      absurd (some_volumes (new.world.nodes s).volumes (and_right (is_some (new.world.nodes s).group) (not (eqb (length (new.world.nodes s).volumes) 0)) still) same.volumes)
  finds_fits s made over fits still (FindsNoRvg kept taken lost next why has are brings unknown device notes says left) =
      stopped_fits s made over (fall_stops d s line kept taken lost next new left)
      (but_keeps told d line s fails said new over lost taken next d _ left
      (same_config (note_at (d.world.nodes s)) next (unmade_config (note_at (d.world.nodes s)) next notes))) fits

  pub over_fits : (s : ℕ) → IsMade (d.world.nodes s) → is_over_rvg (d.world.nodes s) ≡ true → OpensFor d.world line
      → OverRvg told d line s fails said new → FitsNoted (d.world.nodes s) → is_over_rvg (new.world.nodes s) ≡ true → FitsNoted (new.world.nodes s)
  over_fits s made over opens ends fits still =
      by (stops_or_finds told d s fails said new line opens ends) (stays_or_finds told d s fails said new over line ends)
    where
      by : RvgStops d new ⊎ RvgFinds told d line s fails said new
          → NoteKeepsRvg (note_at (d.world.nodes s)) (note_at (new.world.nodes s)) ⊎ RvgFinds told d line s fails said new → FitsNoted (new.world.nodes s)
      by (inl stops) (inl keeps) = stopped_fits s made over stops keeps fits
      by (inl stops) (inr finds) = finds_fits s made over fits still finds
      by (inr finds) keeps = finds_fits s made over fits still finds
