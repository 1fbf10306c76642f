-- What is known of a line of a disk group that no test refuses.
use Rattle.std.proofs.Common.{◌≡◌, ◌∙◌, ◌*◌, ◌<◌, ◌≤◌, ℕ, List, ◌∷◌, length, ap, subst, sym, refl, arith, Bool, true, false}
use Rattle.std.proofs.lemmas.Bool.{and_parts}
use Rattle.std.specs.Prelude.{Option, Some, None, not, ◌&&◌, nat_le, nat_lt, if◌then◌else◌}
use Rattle.std.specs.List.{find, sum_by}
use Rattle.std.specs.Str.{bytes_eq}
use Rattle.std.proofs.lemmas.Bool.Decides.{nat_tests}
use Rattle.vx_model.specs.declared.limits.TheConstants.{LEAST_BLOCKS, LEAST_GROUP_BLOCKS, LINK_PLACES, MOST_DATA_VOLUMES, MOST_PLEXES, MOST_VOLUMES}
use Rattle.vx_model.specs.declared.no.No.{No}
use Rattle.vx_model.specs.declared.site.SiteState.{SiteState}
use Rattle.vx_model.specs.declared.site.SiteState.TheVariants.{Bare, Up, Deported, Down}
use Rattle.vx_model.specs.Sites.{is_bare, is_up}
use Rattle.vx_history.proofs.StateCases.{bare_is, up_is}
use Rattle.vx_script.specs.declared.line.Layout.{Layout}
use Rattle.vx_script.specs.declared.line.ReadPolicy.{ReadPolicy}
use Rattle.vx_script.specs.declared.line.ScriptLine.TheVariants.{GroupInit, GroupDeport, GroupImport, Volume, PlexDetach, PlexAttach, Recover, Rvg}
use Rattle.vx_script.specs.declared.line.VolumeLog.{VolumeLog}
use Rattle.vx_script.specs.declared.line.VolumeMap.{VolumeMap}
use Rattle.vx_order.specs.Grouping.{group_role, group_size, import_role, is_deported, recover_role}
use Rattle.vx_order.specs.Order.{line_refusal}
use Rattle.vx_order.specs.Replicating.{are_distinct, blocks_named, fits_group, maps_named}
use Rattle.vx_order.specs.Shapes.{line_role, line_unknown, over_limit, raw_role, taken, wrong_size}
use Rattle.vx_order.specs.Sites.{halted_one, site_named, volume_of}
use Rattle.vx_order.specs.Subject.{first_name, halt_of}
use Rattle.vx_order.specs.Volumes.{is_volume_shape, plex_unknown, preferred_unknown, volume_count, volume_limit, volume_taken}
use Rattle.vx_order.specs.declared.facts.RvgFacts.{RvgFacts}
use Rattle.vx_order.specs.declared.facts.SiteFacts.{SiteFacts}
use Rattle.vx_order.specs.declared.facts.VolumeFacts.{VolumeFacts}
use Rattle.vx_events.proofs.Refused.{FoundAt, Named, found_at, lt_false, named, not_false, passes, running_by, when_none}

away_by : (state : SiteState) → is_deported state ≡ true → state ≡ Deported
away_by Deported e = refl
away_by Bare e = absurd (cc)
away_by Up e = absurd (cc)
away_by Down e = absurd (cc)

below_by : (a b : ℕ) → nat_le a b ≡ false → b < a
below_by a b e = grind (arith, nat_tests)

-- ---- a group that is made

pub record InitMay (sites : List SiteFacts) (name : List ℕ) : Type 0 where
  pub site : Named sites name
  pub bare : site.facts.state ≡ Bare
  pub large : LEAST_GROUP_BLOCKS ≤ site.facts.blocks

bare_role : (f : SiteFacts) → raw_role (Some f) ≡ None → f.state ≡ Bare
bare_role f e = bare_is f.state (not_false (is_bare f.state) (when_none (not (is_bare f.state)) _ e))

large_by : (f : SiteFacts) → group_size (Some f) ≡ None → LEAST_GROUP_BLOCKS ≤ f.blocks
large_by f e = lt_false f.blocks LEAST_GROUP_BLOCKS (when_none (nat_lt f.blocks LEAST_GROUP_BLOCKS) _ e)

pub init_may : (sites : List SiteFacts) (files : Bool) (name : List ℕ) → line_refusal sites files (GroupInit name) ≡ None → InitMay sites name
unfolding first_name line_role wrong_size
init_may sites files name e =
    let p = passes sites files (GroupInit name) e in
    let site = named sites name p.known in
    record {
      site = site;
      bare = bare_role site.facts (subst (λ (o : Option SiteFacts). raw_role o ≡ None) site.found p.role);
      large = large_by site.facts (subst (λ (o : Option SiteFacts). group_size o ≡ None) site.found p.size);
    }

-- ---- a group that is up

-- the site is up as a group
pub record UpMay (sites : List SiteFacts) (name : List ℕ) : Type 0 where
  pub site : Named sites name
  pub up : site.facts.state ≡ Up
  pub grouped : site.facts.grouped ≡ true

up_role : (f : SiteFacts) → group_role (Some f) ≡ None → (f.state ≡ Up) × (f.grouped ≡ true)
up_role f e =
    let parts = and_parts (is_up f.state) f.grouped (not_false (is_up f.state && f.grouped) (when_none (not (is_up f.state && f.grouped)) _ e)) in
    (up_is f.state parts.0, parts.1)

up_may : (sites : List SiteFacts) (name : List ℕ) (site : Named sites name) → group_role (site_named sites name) ≡ None → UpMay sites name
up_may sites name site e =
    let role = up_role site.facts (subst (λ (o : Option SiteFacts). group_role o ≡ None) site.found e) in
    record { site = site; up = role.0; grouped = role.1 }

pub deport_may : (sites : List SiteFacts) (files : Bool) (name : List ℕ) → line_refusal sites files (GroupDeport name) ≡ None → UpMay sites name
unfolding first_name line_role
deport_may sites files name e = let p = passes sites files (GroupDeport name) e in up_may sites name (named sites name p.known) p.role

-- its replicated volume group, if it has one, is not halted
pub deport_runs : (sites : List SiteFacts) (files : Bool) (name : List ℕ) → line_refusal sites files (GroupDeport name) ≡ None → (may : UpMay sites name) → (rvg : RvgFacts) → may.site.facts.rvg ≡ Some rvg → rvg.halted ≡ None
unfolding first_name line_role halt_of
deport_runs sites files name e may rvg is =
    let p = passes sites files (GroupDeport name) e in
    running_by may.site.facts rvg (subst (λ (o : Option SiteFacts). halted_one o ≡ None) may.site.found p.running) (ap (λ (state : SiteState). if is_up state then may.site.facts.rvg else None) may.up) is

-- a plex that is there
pub record PlexMay (sites : List SiteFacts) (name volume : List ℕ) (plex : ℕ) : Type 0 where
  pub may : UpMay sites name
  pub found : VolumeFacts
  pub finds : find (λ (v : VolumeFacts). bytes_eq v.name volume) may.site.facts.volumes ≡ Some found
  pub at : FoundAt (λ (v : VolumeFacts). bytes_eq v.name volume) may.site.facts.volumes found
  pub below : plex < found.plexes

plex_by : (o : Option VolumeFacts) (volume : List ℕ) (plex : ℕ) → plex_unknown o volume plex ≡ None → (v : VolumeFacts) × (o ≡ Some v) × (plex < v.plexes)
plex_by None volume plex e = absurd (cc)
plex_by (Some v) volume plex e = (v, refl, below_by v.plexes plex (when_none (nat_le v.plexes plex) _ e))

-- what is found at a site that is up
volume_up : (f : SiteFacts) (volume : List ℕ) → f.state ≡ Up → volume_of (Some f) volume ≡ find (λ (v : VolumeFacts). bytes_eq v.name volume) f.volumes
volume_up f volume up = ap (λ (t : SiteState). if is_up t then find (λ (v : VolumeFacts). bytes_eq v.name volume) f.volumes else None) up

plex_may : (sites : List SiteFacts) (name volume : List ℕ) (plex : ℕ) → UpMay sites name → plex_unknown (volume_of (site_named sites name) volume) volume plex ≡ None → PlexMay sites name volume plex
plex_may sites name volume plex may e =
    let found = plex_by (volume_of (Some may.site.facts) volume) volume plex (subst (λ (o : Option SiteFacts). plex_unknown (volume_of o volume) volume plex ≡ None) may.site.found e) in
    let finds : find (λ (v : VolumeFacts). bytes_eq v.name volume) may.site.facts.volumes ≡ Some found.0 = sym (volume_up may.site.facts volume may.up) ∙ found.1 in
    record {
      may = may;
      found = found.0;
      finds = finds;
      at = found_at (λ (v : VolumeFacts). bytes_eq v.name volume) may.site.facts.volumes found.0 finds;
      below = found.2;
    }

pub detach_may : (sites : List SiteFacts) (files : Bool) (name volume : List ℕ) (plex : ℕ) → line_refusal sites files (PlexDetach name volume plex) ≡ None → PlexMay sites name volume plex
unfolding first_name line_role line_unknown
detach_may sites files name volume plex e =
    let p = passes sites files (PlexDetach name volume plex) e in plex_may sites name volume plex (up_may sites name (named sites name p.known) p.role) p.other

pub attach_may : (sites : List SiteFacts) (files : Bool) (name volume : List ℕ) (plex : ℕ) → line_refusal sites files (PlexAttach name volume plex) ≡ None → PlexMay sites name volume plex
unfolding first_name line_role line_unknown
attach_may sites files name volume plex e =
    let p = passes sites files (PlexAttach name volume plex) e in plex_may sites name volume plex (up_may sites name (named sites name p.known) p.role) p.other

-- ---- a volume that is made

pub record VolumeMay (sites : List SiteFacts) (name volume : List ℕ) (blocks mirrors : ℕ) (layout : Layout) (policy : ReadPolicy) : Type 0 where
  pub may : UpMay sites name
  pub free : find (λ (v : VolumeFacts). bytes_eq v.name volume) may.site.facts.volumes ≡ None
  pub few : length may.site.facts.volumes < MOST_VOLUMES
  pub plexes : mirrors ≤ MOST_PLEXES
  pub shape : is_volume_shape blocks mirrors layout ≡ true
  pub prefer : preferred_unknown policy mirrors ≡ None

free_by : (o : Option VolumeFacts) (volume : List ℕ) → volume_taken o volume ≡ None → o ≡ None
free_by None volume e = refl
free_by (Some v) volume e = absurd (cc)

limit_by : (a b : Bool) (x y : No) → (if a then Some x else if b then Some y else None) ≡ None → (a ≡ false) × (b ≡ false)
limit_by true b x y e = absurd (cc)
limit_by false true x y e = absurd (cc)
limit_by false false x y e = (refl, refl)

few_by : (volumes mirrors : ℕ) → volume_limit volumes mirrors ≡ None → (volumes < MOST_VOLUMES) × (mirrors ≤ MOST_PLEXES)
few_by volumes mirrors e =
    let parts = limit_by (nat_le MOST_VOLUMES volumes) (nat_lt MOST_PLEXES mirrors) _ _ e in (below_by MOST_VOLUMES volumes parts.0, lt_false MOST_PLEXES mirrors parts.1)

pub volume_may : (sites : List SiteFacts) (files : Bool) (name volume : List ℕ) (blocks mirrors : ℕ) (layout : Layout) (log : VolumeLog) (map : VolumeMap) (policy : ReadPolicy)
    → line_refusal sites files (Volume name volume blocks mirrors layout log map policy) ≡ None → VolumeMay sites name volume blocks mirrors layout policy
unfolding first_name line_role line_unknown taken over_limit wrong_size
volume_may sites files name volume blocks mirrors layout log map policy e =
    let p = passes sites files (Volume name volume blocks mirrors layout log map policy) e in
    let may = up_may sites name (named sites name p.known) p.role in
    let free = free_by (volume_of (Some may.site.facts) volume) volume (subst (λ (o : Option SiteFacts). volume_taken (volume_of o volume) volume ≡ None) may.site.found p.free) in
    let many : volume_count (Some may.site.facts) ≡ length may.site.facts.volumes = ap (λ (t : SiteState). if is_up t then length may.site.facts.volumes else 0) may.up in
    let few = few_by (volume_count (Some may.site.facts)) mirrors (subst (λ (o : Option SiteFacts). volume_limit (volume_count o) mirrors ≡ None) may.site.found p.limit) in
    record {
      may = may;
      free = sym (volume_up may.site.facts volume may.up) ∙ free;
      few = omega (arith, few.0, many);
      plexes = few.1;
      shape = not_false (is_volume_shape blocks mirrors layout) (when_none (not (is_volume_shape blocks mirrors layout)) _ p.size);
      prefer = p.other;
    }

-- ---- a group that comes up again

pub record AwayMay (sites : List SiteFacts) (name : List ℕ) : Type 0 where
  pub site : Named sites name
  pub away : site.facts.state ≡ Deported

away_role : (f : SiteFacts) → import_role (Some f) ≡ None → f.state ≡ Deported
away_role f e = away_by f.state (not_false (is_deported f.state) (when_none (not (is_deported f.state)) _ e))

pub import_may : (sites : List SiteFacts) (files : Bool) (name : List ℕ) → line_refusal sites files (GroupImport name) ≡ None → AwayMay sites name
unfolding first_name line_role
import_may sites files name e =
    let p = passes sites files (GroupImport name) e in
    let site = named sites name p.known in
    record { site = site; away = away_role site.facts (subst (λ (o : Option SiteFacts). import_role o ≡ None) site.found p.role) }

pub record RecoverMay (sites : List SiteFacts) (name : List ℕ) : Type 0 where
  pub site : Named sites name
  pub home : site.facts.state ≡ Deported → ⊥

home_role : (f : SiteFacts) → recover_role (Some f) ≡ None → f.state ≡ Deported → ⊥
home_role f e away =
    let none : is_deported f.state ≡ false = when_none (is_deported f.state) _ e in
    let is : true ≡ false = sym (ap is_deported away) ∙ none in
    absurd (cc)

pub rise_may : (sites : List SiteFacts) (files : Bool) (name : List ℕ) → line_refusal sites files (Recover name) ≡ None → RecoverMay sites name
unfolding first_name line_role
rise_may sites files name e =
    let p = passes sites files (Recover name) e in
    let site = named sites name p.known in
    record { site = site; home = home_role site.facts (subst (λ (o : Option SiteFacts). recover_role o ≡ None) site.found p.role) }

-- ---- a replicated volume group that is made

pub rvg_named : (sites : List SiteFacts) (files : Bool) (name srl maps : List ℕ) (volumes : List (List ℕ)) → line_refusal sites files (Rvg name srl maps volumes) ≡ None → Named sites name
unfolding first_name
rvg_named sites files name srl maps volumes e = named sites name (passes sites files (Rvg name srl maps volumes) e).known

few_by_test : (a b : ℕ) → nat_le a b ≡ true → a ≤ b
few_by_test a b e = grind (arith, nat_tests)

few_volumes : (site : Option SiteFacts) (srl maps : List ℕ) (volumes : List (List ℕ)) → fits_group site srl maps volumes ≡ true → length volumes ≤ MOST_DATA_VOLUMES
few_volumes site srl maps volumes fits =
    let some : Bool = nat_le 1 (length volumes) in
    let few : Bool = nat_le (length volumes) MOST_DATA_VOLUMES in
    let apart : Bool = are_distinct (srl ∷ maps ∷ volumes) in
    let large : Bool = nat_le LEAST_BLOCKS (blocks_named site srl) in
    let room : Bool = nat_le (LINK_PLACES * sum_by (maps_named site) volumes) (blocks_named site maps) in
    let four = (and_parts (some && few && apart && large) room fits).0 in
    let three = (and_parts (some && few && apart) large four).0 in
    let two = (and_parts (some && few) apart three).0 in
    few_by_test (length volumes) MOST_DATA_VOLUMES (and_parts some few two).1

-- it has few data volumes
pub rvg_few : (sites : List SiteFacts) (files : Bool) (name srl maps : List ℕ) (volumes : List (List ℕ)) → line_refusal sites files (Rvg name srl maps volumes) ≡ None → length volumes ≤ MOST_DATA_VOLUMES
unfolding first_name wrong_size
rvg_few sites files name srl maps volumes e =
    let p = passes sites files (Rvg name srl maps volumes) e in
    few_volumes (site_named sites name) srl maps volumes (not_false (fits_group (site_named sites name) srl maps volumes) (when_none (not (fits_group (site_named sites name) srl maps volumes)) _ p.size))
