-- A line that makes a replicated volume group, and that no test refuses, names volumes of a group of disks without one. Where it is done its site has that one.
use Rattle.std.proofs.Common.{◌≡◌, ◌∙◌, ℕ, zero, suc, Bool, true, false, List, [], ◌∷◌, Option, Some, None, ap, map, length, refl, sym, subst}
use Rattle.std.specs.List.{AllByRecursion, find}
use Rattle.std.specs.Prelude.{◌&&◌, if◌then◌else◌, is_some, not, slice_get, unwrap_or, eqb}
use Rattle.std.specs.Str.{bytes_eq}
use Rattle.vx_model.specs.Sites.{is_up}
use Rattle.vx_model.specs.declared.no.No.{No}
use Rattle.vx_model.specs.declared.no.No.TheVariants.{Size}
use Rattle.vx_model.specs.declared.site.SiteState.{SiteState}
use Rattle.vx_model.specs.declared.site.SiteState.TheVariants.{Bare, Up, Deported, Down}
use Rattle.vx_model.specs.declared.units.Units.{Units}
use Rattle.vx_history.proofs.Updates.{and_left, at_place}
use Rattle.vx_history.specs.Doubts.{Doubted}
use Rattle.vx_history.specs.Groups.{GroupNode}
use Rattle.vx_history.specs.Steps.{burned}
use Rattle.vx_history.specs.World.{Node, World}
use Rattle.vx_config.specs.declared.config.Config.{Config}
use Rattle.vx_config.specs.declared.entry.VolumeEntry.{VolumeEntry}
use Rattle.vx_order.specs.Calls.{call_unknown}
use Rattle.vx_order.specs.Grouping.{group_role}
use Rattle.vx_order.specs.Replicating.{fits_group, group_taken, group_unknown, names_unknown}
use Rattle.vx_order.specs.Shapes.{line_role, line_unknown, taken, wrong_size}
use Rattle.vx_order.specs.Sites.{rvg_of, volume_of}
use Rattle.vx_order.specs.Subject.{first_name}
use Rattle.vx_order.specs.Tests.{before, when}
use Rattle.vx_order.specs.declared.facts.RvgFacts.{RvgFacts}
use Rattle.vx_order.specs.declared.facts.SiteFacts.{SiteFacts}
use Rattle.vx_order.specs.declared.facts.VolumeFacts.{VolumeFacts}
use Rattle.vx_script.specs.declared.line.ScriptLine.TheVariants.{Rvg}
use Rattle.vx_events.proofs.Places.{some_same}
use Rattle.vx_events.proofs.Refused.{FoundAt, found_at, not_false, passes, when_none}
use Rattle.vx_events.proofs.RvgAgain.{all_kept, has_kept}
use Rattle.vx_events.proofs.RvgConfigs.{loses_keeps}
use Rattle.vx_events.proofs.RvgGains.{made_fits, refused_done}
use Rattle.vx_events.proofs.LinkTesting.{Seat, seat_at}
use Rattle.vx_events.specs.Facts.{group_by, site_number}
use Rattle.vx_events.specs.Fails.{Fails}
use Rattle.vx_events.specs.GroupLines.{is_over_group, noting, plain_number}
use Rattle.vx_events.specs.GroupNotes.{note_at}
use Rattle.vx_events.specs.GroupViews.{config_of, noted_table, plain_fact, volumes_of}
use Rattle.vx_events.specs.LinkedFacts.{linked_fact}
use Rattle.vx_events.specs.RvgFits.{FitsNoted, FitsSome, HasUnits, HasVolume, KeepsRvg, MayGetRvg, entries_noted}
use Rattle.vx_events.specs.RvgMakes.{IsLeftRvg, MakesRvg, RvgCut, RvgDone, RvgFails, RvgLacks, units_at}
use Rattle.vx_events.specs.RvgNotes.{NotesRvg, as_replicated, units_named}
use Rattle.vx_events.specs.RvgViews.{is_over_rvg}
use Rattle.vx_events.specs.StepsOver.{fact_of_group, fact_over, facts_over, refused_over}
use Rattle.vx_events.specs.declared.said.Said.{Said}
use Rattle.vx_events.specs.declared.said.Said.TheVariants.{Done}

-- ---- names

pub both_none : (t o : Option No) → before t o ≡ None → (t ≡ None) × (o ≡ None)
both_none None o e = (refl, e)
both_none (Some why) o e = absurd (cc)

pub known_name : (o : Option VolumeFacts) (name : List ℕ) → call_unknown o name ≡ None → (v : VolumeFacts) × (o ≡ Some v)
known_name None name e = absurd (cc)
known_name (Some v) name e = (v, refl)

-- what stands there as the tests see it stands there
stands_there : (xs : List VolumeEntry) (k : ℕ) (v : VolumeFacts) → slice_get (map plain_fact xs) k ≡ Some v → HasVolume xs k
stands_there [] k v at = absurd (cc)
stands_there (x ∷ xs) zero v at = (x, refl)
stands_there (x ∷ xs) (suc k) v at = stands_there xs k v at

module _ (n : Node) (up : is_up n.state ≡ true) where
  abbrev here : SiteFacts
  here = fact_of_group n (note_at n)

  name_has : (name : List ℕ) → call_unknown (volume_of (Some here) name) name ≡ None → HasVolume (entries_noted (note_at n)) (plain_number (note_at n) name)
  name_has name e =
      let table : List VolumeFacts = noted_table (note_at n) in
      let known = known_name (volume_of (Some here) name) name e in
      let picked : find (λ (volume : VolumeFacts). bytes_eq volume.name name) table ≡ Some known.0 =
      sym (ap (λ (b : Bool). if b then find (λ (volume : VolumeFacts). bytes_eq volume.name name) table else None) up) ∙ known.1 in
      let at : FoundAt (λ (volume : VolumeFacts). bytes_eq volume.name name) table known.0 = found_at (λ (volume : VolumeFacts). bytes_eq volume.name name) table known.0 picked in
      subst (λ (k : ℕ). HasVolume (entries_noted (note_at n)) k) (sym (ap (λ (o : Option ℕ). unwrap_or o 0) at.is)) (stands_there (entries_noted (note_at n)) at.place known.0 at.there)

  names_have : (names : List (List ℕ)) → names_unknown (Some here) names ≡ None → AllByRecursion (HasVolume (entries_noted (note_at n))) (map (plain_number (note_at n)) names)
  names_have [] e = tt
  names_have (name ∷ names) e =
      let both = both_none (call_unknown (volume_of (Some here) name) name) (names_unknown (Some here) names) e in (name_has name both.0, names_have names both.1)

  units_have : (srl maps : List ℕ) (volumes : List (List ℕ)) → group_unknown (Some here) srl maps volumes ≡ None
      → HasUnits (entries_noted (note_at n)) (units_named (note_at n) srl maps volumes)
  units_have srl maps volumes e =
      let first = both_none (call_unknown (volume_of (Some here) srl) srl) (before (call_unknown (volume_of (Some here) maps) maps) (names_unknown (Some here) volumes)) e in
      let second = both_none (call_unknown (volume_of (Some here) maps) maps) (names_unknown (Some here) volumes) first.1 in
      record { srl = name_has srl first.0; vols = names_have volumes second.1 }

-- ---- the tests

-- none of these refuses
record PassesRvg (f : SiteFacts) (srl maps : List ℕ) (volumes : List (List ℕ)) : Type 0 where
  role : (is_up f.state && f.grouped) ≡ true
  free : is_some (rvg_of (Some f)) ≡ false
  known : group_unknown (Some f) srl maps volumes ≡ None
  size : fits_group (Some f) srl maps volumes ≡ true

-- a site that is up shows its replicated volume group
shows : (t : SiteState) (n : Node) → is_up t ≡ true → is_some (let o : Option RvgFacts = (if is_up t then group_by t n else None) in o) ≡ true
shows Bare n up = absurd (cc)
shows Up n up = refl
shows Deported n up = absurd (cc)
shows Down n up = absurd (cc)

never : true ≡ false → ⊥
never e = absurd (cc)

either_kind : (a b : Bool) → (a && b) ≡ true → (a && not b) ≡ false
either_kind true true e = refl
either_kind true false e = absurd (cc)
either_kind false b e = refl

-- a site over a group without a replicated volume group
pub group_alone : (n : Node) → is_over_group n ≡ true → is_over_rvg n ≡ false
group_alone n over = either_kind (is_some n.group) (eqb (length n.volumes) 0) over

-- what no refusal tells of the site and the volumes that it names
pub record RvgMay (w : World) (s : ℕ) (srl maps : List ℕ) (volumes : List (List ℕ)) : Type 0 where
  pub over : is_over_group (w.nodes s) ≡ true
  pub up : is_up (w.nodes s).state ≡ true
  pub alone : is_over_rvg (w.nodes s) ≡ false
  pub known : group_unknown (Some (fact_of_group (w.nodes s) (note_at (w.nodes s)))) srl maps volumes ≡ None
  pub fits : fits_group (Some (fact_of_group (w.nodes s) (note_at (w.nodes s)))) srl maps volumes ≡ true
  pub has : HasUnits (entries_noted (note_at (w.nodes s))) (units_named (note_at (w.nodes s)) srl maps volumes)

module _ (w : World) (s : ℕ) (srl maps : List ℕ) (volumes : List (List ℕ)) where
  abbrev n : Node
  n = w.nodes s

  by_kind : (g : Bool) → is_over_group (w.nodes s) ≡ g
      → PassesRvg (if g then fact_of_group (w.nodes s) (note_at (w.nodes s)) else linked_fact w s) srl maps volumes
      → RvgMay w s srl maps volumes
  by_kind true is p = record {
    over = is;
    up = and_left (is_up n.state) true p.role;
    alone = group_alone n is;
    known = p.known;
    fits = p.size;
    has = units_have n (and_left (is_up n.state) true p.role) srl maps volumes p.known;
  }
  by_kind false is p = absurd (never (sym (shows n.state n (and_left (is_up n.state) (is_over_rvg n) p.role)) ∙ p.free))

pub rvg_may : (w : World) (files : Bool) (site srl maps : List ℕ) (volumes : List (List ℕ)) → refused_over w files (Rvg site srl maps volumes) ≡ None
    → RvgMay w (site_number w site) srl maps volumes
unfolding first_name line_role line_unknown taken wrong_size
rvg_may w files site srl maps volumes e =
    let s : ℕ = site_number w site in
    let p = passes (facts_over w) files (Rvg site srl maps volumes) e in
    let seat : Seat w site = seat_at w site p.known in
    let role : group_role (Some (fact_over w s)) ≡ None = subst (λ (o : Option SiteFacts). group_role o ≡ None) seat.found p.role in
    let known : group_unknown (Some (fact_over w s)) srl maps volumes ≡ None = subst (λ (o : Option SiteFacts). group_unknown o srl maps volumes ≡ None) seat.found p.other in
    let free : group_taken (rvg_of (Some (fact_over w s))) ≡ None = subst (λ (o : Option SiteFacts). group_taken (rvg_of o) ≡ None) seat.found p.free in
    let size : when (not (fits_group (Some (fact_over w s)) srl maps volumes)) Size ≡ None = subst (λ (o : Option SiteFacts). when (not (fits_group o srl maps volumes)) Size ≡ None) seat.found p.size in
    by_kind w s srl maps volumes (is_over_group (w.nodes s)) refl
    (record {
      role = not_false (is_up (fact_over w s).state && (fact_over w s).grouped) (when_none (not (is_up (fact_over w s).state && (fact_over w s).grouped)) _ role);
      free = when_none (is_some (rvg_of (Some (fact_over w s)))) _ free;
      known = known;
      size = not_false (fits_group (Some (fact_over w s)) srl maps volumes) (when_none (not (fits_group (Some (fact_over w s)) srl maps volumes)) Size size);
    })

-- ---- the line that is done

-- what the site notes then
pub gained_note : (s : ℕ) (next : GroupNode) (last new : Doubted) → IsLeftRvg s next last new → note_at (new.world.nodes s) ≡ next
gained_note s next last new left =
    let v : World = noting last.world s next in
    ap (λ (w : World). note_at (w.nodes s)) left.world
    ∙ ap (λ (k : Node). note_at k) (at_place v.nodes s (record (v.nodes s) { fuse = burned (v.nodes s).fuse }))
    ∙ ap (λ (k : Node). note_at k) (at_place last.world.nodes s (record (last.world.nodes s) { group = Some next }))

-- the units are volumes of the configuration that is noted then
pub gained_units : (told : Type 0) (s : ℕ) (fails : Fails) (units : Units) (note middle next : GroupNode) (x : NotesRvg told s fails units note middle next)
    → HasUnits (entries_noted note) units → HasUnits x.moves.now.volumes units
gained_units told s fails units note middle next x has =
    let c : Config = as_replicated units x.moves.old in
    let keeps : KeepsRvg c x.moves.now = loses_keeps (λ _. false) s fails c x.moves.now x.moves.change in
    let entries : entries_noted note ≡ c.volumes = ap (λ (o : Option Config). volumes_of o) (ap (λ (g : GroupNode). config_of g.config) (sym x.narrowed.same) ∙ x.moves.was) in
    let first : HasUnits c.volumes units = subst (λ (vs : List VolumeEntry). HasUnits vs units) entries has in
    record { srl = has_kept c x.moves.now keeps units.srl first.srl; vols = all_kept c x.moves.now keeps units.vols first.vols }

pub made_noted : (told : Type 0) (files : Bool) (d : Doubted) (site srl maps : List ℕ) (volumes : List (List ℕ)) (fails : Fails) (said : Said) (new : Doubted)
    → MayGetRvg d.world (site_number d.world site) → refused_over d.world files (Rvg site srl maps volumes) ≡ None
    → MakesRvg told d (Rvg site srl maps volumes) (site_number d.world site) fails said new → said ≡ Done → FitsNoted (new.world.nodes (site_number d.world site))
made_noted told files d site srl maps volumes fails said new may free (RvgDone site' srl' maps' volumes' middle next is are x says left) done =
    let s : ℕ = site_number d.world site in
    let note : GroupNode = note_at (d.world.nodes s) in
    let units : Units = units_at d s srl' maps' volumes' in
    let log_same : srl ≡ srl' = cc in
    let maps_same : maps ≡ maps' = cc in
    let data_same : volumes ≡ volumes' = cc in
    let named_as : units_named note srl maps volumes ≡ units =
    ap (λ (name : List ℕ). units_named note name maps volumes) log_same ∙ ap (λ (name : List ℕ). units_named note srl' name volumes) maps_same
    ∙ ap (λ (names : List (List ℕ)). units_named note srl' maps' names) data_same in
    let has : HasUnits (entries_noted note) units =
    subst (λ (u : Units). HasUnits (entries_noted note) u) named_as (rvg_may d.world files site srl maps volumes free).has in
    let noted : config_of (note_at (new.world.nodes s)).config ≡ Some x.moves.now =
    ap (λ (g : GroupNode). config_of g.config) (gained_note s next _ new left) ∙ ap (λ (g : GroupNode). config_of g.config) x.is ∙ x.moves.is in
    let fits : FitsSome (new.world.nodes s) x.moves.now =
    made_fits told d (Rvg site srl maps volumes) s fails said new x.moves.now may (RvgDone site' srl' maps' volumes' middle next is are x says left) done noted in
    let same : units ≡ fits.0 = some_same (sym x.moves.change.rvg ∙ fits.1.rvg) in
    record {
      config = x.moves.now;
      is = noted;
      units = fits.0;
      fits = fits.1;
      has = subst (λ (u : Units). HasUnits x.moves.now.volumes u) same (gained_units told s fails units note middle next x has);
    }
made_noted told files d site srl maps volumes fails said new may free (RvgLacks site' srl' maps' volumes' next is are x says left) done = absurd (refused_done _ (sym says ∙ done))
made_noted told files d site srl maps volumes fails said new may free (RvgFails site' srl' maps' volumes' disk next is are has x says left) done = absurd (refused_done _ (sym says ∙ done))
made_noted told files d site srl maps volumes fails said new may free (RvgCut site' srl' maps' volumes' next is are fused x says left) done = absurd (refused_done _ (sym says ∙ done))
