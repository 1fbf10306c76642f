-- The volume of a group that a write names which no test refuses, where it is no data volume of the replicated volume group: it is none of the volumes of that one.
use Rattle.std.proofs.Common.{◌≡◌, ◌∙◌, ◌+◌, ◌<◌, ℕ, zero, suc, Bool, true, false, List, [], ◌∷◌, Option, Some, None, ap, arith, length, map, refl, subst, sym}
use Rattle.std.proofs.lemmas.Bool.{eq-eqb}
use Rattle.std.proofs.lemmas.Iterator.Adapters.{position_from-zero}
use Rattle.std.specs.List.{find, position, position_from}
use Rattle.std.specs.Prelude.{◌&&◌, ◌==◌, ◌||◌, cond, if◌then◌else◌, not, slice_index}
use Rattle.std.specs.Str.{bytes_eq}
use Rattle.vx_model.specs.Sites.{is_up}
use Rattle.vx_model.specs.declared.no.No.TheVariants.{Role as WrongRole}
use Rattle.vx_model.specs.declared.site.SiteState.{SiteState}
use Rattle.vx_model.specs.declared.site.SiteState.TheVariants.{Up as IsUp}
use Rattle.vx_model.specs.declared.units.Units.{Units}
use Rattle.vx_config.specs.declared.config.Config.{Config}
use Rattle.vx_config.specs.declared.entry.VolumeEntry.{VolumeEntry}
use Rattle.vx_history.specs.Volumes.{as_volume}
use Rattle.vx_history.specs.World.{Node, World}
use Rattle.vx_order.specs.Calls.{call_role, is_data, takes_calls}
use Rattle.vx_order.specs.Sites.{rvg_of, volume_of}
use Rattle.vx_order.specs.Tests.{when}
use Rattle.vx_order.specs.declared.facts.RvgFacts.{RvgFacts}
use Rattle.vx_order.specs.declared.facts.SiteFacts.{SiteFacts}
use Rattle.vx_order.specs.declared.facts.VolumeFacts.{VolumeFacts}
use Rattle.vx_order.specs.declared.facts.VolumeKind.{VolumeKind}
use Rattle.vx_order.specs.declared.facts.VolumeKind.TheVariants.{Data, Map, Plain, Srl}
use Rattle.vx_order.specs.declared.span.Way.TheVariants.{Writes}
use Rattle.vx_events.proofs.DataNamed.{SpanTests}
use Rattle.vx_events.proofs.OtherPlaces.{AmongOthers, OthersNamed, among_others, first_named, named, never_found, rest_named}
use Rattle.vx_events.proofs.Places.{some_same}
use Rattle.vx_events.specs.Facts.{group_by, group_fact}
use Rattle.vx_events.specs.GroupNotes.{note_at}
use Rattle.vx_events.specs.GroupViews.{config_of}
use Rattle.vx_events.specs.LinkedFacts.{linked_fact}
use Rattle.vx_events.specs.RvgFits.{data_of}
use Rattle.vx_events.specs.RvgViews.{is_data_unit, is_over_rvg, kind_at, kinded, others_from, table_at, unless_data}

-- ---- what it is

-- of the volumes that are no data volumes only plain ones take writes
kind_plain : (kind : VolumeKind) (rvg : Option RvgFacts) → when (true && not (takes_calls kind rvg)) WrongRole ≡ None → is_data kind ≡ false → kind ≡ Plain
kind_plain Data rvg role off = absurd (let clash : true ≡ false = off in cc)
kind_plain Srl rvg role off = absurd (cc)
kind_plain Map rvg role off = absurd (cc)
kind_plain Plain rvg role off = refl

pub plain_written : (w : World) (s : ℕ) (volume : List ℕ) (start count : ℕ) → (w.nodes s).state ≡ IsUp → SpanTests (linked_fact w s) volume start count → (v : VolumeFacts)
    → find (λ (x : VolumeFacts). bytes_eq x.name volume) (table_at (w.nodes s)) ≡ Some v → is_data v.kind ≡ false → v.kind ≡ Plain
plain_written w s volume start count up tests v there off =
    let m : Node = w.nodes s in
    let f : SiteFacts = linked_fact w s in
    let found : Option VolumeFacts = find (λ (x : VolumeFacts). bytes_eq x.name volume) (table_at m) in
    let volume_is : volume_of (Some f) volume ≡ found = ap (λ (t : SiteState). if is_up t then found else None) up in
    let rvg_is : rvg_of (Some f) ≡ Some (group_fact m) = ap (λ (t : SiteState). if is_up t then group_by t m else None) up in
    let role_led : call_role (Some (group_fact m)) found Writes ≡ None =
    subst (λ (o : Option VolumeFacts). call_role (Some (group_fact m)) o Writes ≡ None) volume_is
    (subst (λ (o : Option RvgFacts). call_role o (volume_of (Some f) volume) Writes ≡ None) rvg_is tests.role) in
    kind_plain v.kind (Some (group_fact m)) (subst (λ (o : Option VolumeFacts). call_role (Some (group_fact m)) o Writes ≡ None) there role_led) off

-- ---- where it stands

-- this place is that of a plain volume
abbrev IsPlainAt : Units → ℕ → Type 0
IsPlainAt units k = (is_data_unit units.vols k ≡ false) × (kind_at units k ≡ Plain)

-- the first volume of this name
abbrev entry_named : List ℕ → VolumeEntry → Bool
entry_named name v = bytes_eq v.name name

-- so many behind this place, where a plain volume of this name is found
record PlainFrom (name : List ℕ) (units : Units) (place : ℕ) (vs : List VolumeEntry) : Type 0 where
  more : ℕ
  is : position_from (entry_named name) place vs ≡ Some (place + more)
  plain : IsPlainAt units (place + more)

plain_later : (name : List ℕ) (units : Units) (place : ℕ) (v : VolumeEntry) (vs : List VolumeEntry) → bytes_eq v.name name ≡ false → PlainFrom name units (place + 1) vs → PlainFrom name units place (v ∷ vs)
plain_later name units place v vs off it =
    let over : (place + 1) + it.more ≡ place + (it.more + 1) = omega arith in
    record {
      more = it.more + 1;
      is = ap (λ (b : Bool). cond b (Some place) (position_from (entry_named name) (place + 1) vs)) off ∙ it.is ∙ ap (λ (j : ℕ). Some j) over;
      plain = subst (λ (j : ℕ). IsPlainAt units j) over it.plain;
    }

others_place : (name : List ℕ) (units : Units) (place : ℕ) (vs : List VolumeEntry) (x : VolumeFacts) → OthersNamed name units place vs → find (named name) (others_from units place vs) ≡ Some x → x.kind ≡ Plain → PlainFrom name units place vs
others_place name units place [] x away e plain = never_found x e
others_place name units place (v ∷ vs) x away e plain =
    by (is_data_unit units.vols place) refl (bytes_eq v.name name) refl (λ found. others_place name units (place + 1) vs x (rest_named name units place v vs away) found plain) e
  where
    zero_more : place ≡ place + 0
    zero_more = omega arith

    by : (b : Bool) → is_data_unit units.vols place ≡ b → (c : Bool) → bytes_eq v.name name ≡ c → (find (named name) (others_from units (place + 1) vs) ≡ Some x → PlainFrom name units (place + 1) vs)
        → find (named name) (unless_data b (kinded units place v) (others_from units (place + 1) vs)) ≡ Some x → PlainFrom name units place (v ∷ vs)
    by true is c named_is later found = plain_later name units place v vs (first_named name units place v vs away is) (later found)
    by false is true named_is later found =
        let same : kinded units place v ≡ x = some_same (sym (ap (λ (b : Bool). cond b (Some (kinded units place v)) (find (named name) (others_from units (place + 1) vs))) named_is) ∙ found) in
        record {
          more = 0;
          is = ap (λ (b : Bool). cond b (Some place) (position_from (entry_named name) (place + 1) vs)) named_is ∙ ap (λ (j : ℕ). Some j) zero_more;
          plain = subst (λ (j : ℕ). IsPlainAt units j) zero_more (is, ap (λ (f : VolumeFacts). f.kind) same ∙ plain);
        }
    by false is false named_is later found =
        plain_later name units place v vs named_is (later (sym (ap (λ (b : Bool). cond b (Some (kinded units place v)) (find (named name) (others_from units (place + 1) vs))) named_is) ∙ found))

-- ---- the volumes of the replicated volume group

-- this place is none of theirs
pub record IsOtherPlace (units : Units) (k : ℕ) : Type 0 where
  pub log : k ≡ units.srl → ⊥
  pub maps : k ≡ units.maps → ⊥
  pub vols : (v : ℕ) → v < length units.vols → k ≡ slice_index units.vols v → ⊥

srl_plain : Srl ≡ Plain → ⊥
srl_plain e = cc

map_plain : Map ≡ Plain → ⊥
map_plain e = cc

not_log : (units : Units) (k : ℕ) → kind_at units k ≡ Plain → k ≡ units.srl → ⊥
not_log units k plain same = srl_plain (sym (ap (λ (b : Bool). if b then Srl else if k == units.maps then Map else Plain) (eq-eqb k units.srl same)) ∙ plain)

not_maps : (units : Units) (k : ℕ) (b : Bool) → (if b then Srl else if k == units.maps then Map else Plain) ≡ Plain → k ≡ units.maps → ⊥
not_maps units k true plain same = srl_plain plain
not_maps units k false plain same = map_plain (sym (ap (λ (c : Bool). if c then Map else Plain) (eq-eqb k units.maps same)) ∙ plain)

or_first : (a b : Bool) → a ≡ true → (a || b) ≡ false → ⊥
or_first true b on off = let clash : true ≡ false = off in cc
or_first false b on off = let clash : false ≡ true = on in cc

or_rest : (a b : Bool) → (a || b) ≡ false → b ≡ false
or_rest true b off = absurd (let clash : true ≡ false = off in cc)
or_rest false b off = off

not_data : (vols : List ℕ) (k : ℕ) → is_data_unit vols k ≡ false → (v : ℕ) → v < length vols → k ≡ slice_index vols v → ⊥
not_data [] k off v low same = omega (arith, low)
not_data (u ∷ us) k off zero low same = or_first (u == k) (is_data_unit us k) (eq-eqb u k (sym same)) off
not_data (u ∷ us) k off (suc v) low same = not_data us k (or_rest (u == k) (is_data_unit us k) off) v (omega (arith, low)) same

other_at : (units : Units) (k : ℕ) → IsPlainAt units k → IsOtherPlace units k
other_at units k it = record { log = not_log units k it.1; maps = not_maps units k (k == units.srl) it.1; vols = not_data units.vols k it.0 }

-- the number of such a volume in the group
pub other_number : (n : Node) (name : List ℕ) (x : VolumeFacts) (c : Config) (units : Units) → is_over_rvg n ≡ true → config_of (note_at n).config ≡ Some c → c.rvg ≡ Some units → n.volumes ≡ map as_volume (data_of c.volumes units)
    → find (λ (v : VolumeFacts). bytes_eq v.name name) (table_at n) ≡ Some x → is_data x.kind ≡ false → x.kind ≡ Plain → (i : ℕ) × (position (λ (v : VolumeEntry). bytes_eq v.name name) c.volumes ≡ Some i) × IsOtherPlace units i
other_number n name x c units over noted rvg volumes e off plain =
    let it : AmongOthers name x c units = among_others n name x c units over noted rvg volumes e off in
    let at : PlainFrom name units 0 c.volumes = others_place name units 0 c.volumes x it.away it.found plain in
    (0 + at.more, position_from-zero (entry_named name) c.volumes ∙ at.is, other_at units (0 + at.more) at.plain)
