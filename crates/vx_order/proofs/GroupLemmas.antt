-- The tests of one kind of line of disk groups, from the one order.
use Rattle.std.proofs.Common.{◌≡◌, ℕ, refl, Bool, true, false, List, [], ◌∷◌, not, ◌&&◌, nat_lt, if◌then◌else◌, is_some}
use Rattle.std.specs.Prelude.{Option, Some, None}
use Rattle.vx_model.specs.declared.no.No.{No}
use Rattle.vx_model.specs.declared.no.No.TheVariants.{Exists, Size, Role, Down}
use Rattle.vx_model.specs.Sites.{is_bare, is_up}
use Rattle.vx_model.specs.declared.limits.TheConstants.{LEAST_GROUP_BLOCKS}
use Rattle.vx_script.specs.declared.line.Layout.{Layout}
use Rattle.vx_script.specs.declared.line.ReadPolicy.{ReadPolicy}
use Rattle.vx_script.specs.declared.line.ScriptLine.TheVariants.{GroupInit, GroupDeport, GroupImport, Volume, PlexDetach, PlexAttach, Rvg}
use Rattle.vx_script.specs.declared.line.VolumeLog.{VolumeLog}
use Rattle.vx_script.specs.declared.line.VolumeMap.{VolumeMap}
use Rattle.vx_order.specs.declared.facts.SiteFacts.{SiteFacts}
use Rattle.vx_order.specs.declared.subject.Halt.TheVariants.{First}
use Rattle.vx_order.specs.declared.subject.Need.TheVariants.{FirstUp}
use Rattle.vx_order.specs.Asks.{ask_of}
use Rattle.vx_order.specs.GroupKinds.{init_refusal, import_refusal, deport_refusal, volume_refusal, plex_refusal, rvg_refusal}
use Rattle.vx_order.specs.Grouping.{is_deported, group_role, import_role, group_size}
use Rattle.vx_order.specs.Order.{line_refusal}
use Rattle.vx_order.specs.Replicating.{group_unknown, group_word, group_taken, fits_group}
use Rattle.vx_order.specs.Shapes.{line_role, line_unknown, taken, over_limit, wrong_size, raw_role}
use Rattle.vx_order.specs.Sites.{site_named, volume_of, rvg_of, halted_one, unknown_one, down_by, halted_by}
use Rattle.vx_order.specs.Spans.{span_of}
use Rattle.vx_order.specs.Subject.{first_name, second_name, need_of, halt_of}
use Rattle.vx_order.specs.Tests.{when, before, first_said_no}
use Rattle.vx_order.specs.Volumes.{preferred_unknown, plex_unknown, volume_taken, volume_count, volume_limit, is_volume_shape}
use Rattle.vx_order.proofs.KindLemmas.{before_none, one_test, two_tests}

-- ---- the group as a whole

init_tests : (site : Option SiteFacts) (name : List ℕ) → first_said_no (unknown_one (Some name) site ∷ raw_role site ∷ group_size site ∷ []) ≡ init_refusal site name
unfolding first_said_no
init_tests None name = refl
init_tests (Some site) name = two_tests (not (is_bare site.state)) (nat_lt site.blocks LEAST_GROUP_BLOCKS) Role Size

pub init_lines_are : (sites : List SiteFacts) (files : Bool) (name : List ℕ) → line_refusal sites files (GroupInit name) ≡ init_refusal (site_named sites name) name
unfolding line_refusal first_said_no first_name second_name need_of halt_of line_role line_unknown taken over_limit wrong_size span_of ask_of
init_lines_are sites files name = init_tests (site_named sites name) name

import_tests : (site : Option SiteFacts) (name : List ℕ) → first_said_no (unknown_one (Some name) site ∷ import_role site ∷ []) ≡ import_refusal site name
unfolding first_said_no
import_tests None name = refl
import_tests (Some site) name = one_test (not (is_deported site.state)) Role

pub import_lines_are : (sites : List SiteFacts) (files : Bool) (name : List ℕ) → line_refusal sites files (GroupImport name) ≡ import_refusal (site_named sites name) name
unfolding line_refusal first_said_no first_name second_name need_of halt_of line_role line_unknown taken over_limit wrong_size span_of ask_of
import_lines_are sites files name = import_tests (site_named sites name) name

-- A site that is up, the disk on which it is halted, and whether it is a group.
halted_group_tests : (up grouped : Bool) (halted : Option No) (a b : No)
    → before (when (not up) a) (before halted (before (when (not (up && grouped)) b) None)) ≡ (if not up then Some a else before halted (if not grouped then Some b else None))
halted_group_tests false grouped halted a b = refl
halted_group_tests true grouped (Some refused) a b = refl
halted_group_tests true true None a b = refl
halted_group_tests true false None a b = refl

deport_tests : (site : Option SiteFacts) (name : List ℕ)
    → first_said_no (unknown_one (Some name) site ∷ down_by FirstUp site None ∷ halted_by First site None ∷ group_role site ∷ []) ≡ deport_refusal site name
unfolding first_said_no
deport_tests None name = refl
deport_tests (Some site) name = halted_group_tests (is_up site.state) site.grouped (halted_one (Some site)) Down Role

pub deport_lines_are : (sites : List SiteFacts) (files : Bool) (name : List ℕ) → line_refusal sites files (GroupDeport name) ≡ deport_refusal (site_named sites name) name
unfolding line_refusal first_said_no first_name second_name need_of halt_of line_role line_unknown taken over_limit wrong_size span_of ask_of
deport_lines_are sites files name = deport_tests (site_named sites name) name

-- ---- its volumes

-- A site that is up as a group stands before the other tests.
group_front : (up grouped : Bool) (a b : No) (tests rest : Option No) → tests ≡ rest
    → before (when (not up) a) (before (when (not (up && grouped)) b) tests) ≡ (if not up then Some a else if not grouped then Some b else rest)
group_front false grouped a b tests rest e = refl
group_front true false a b tests rest e = refl
group_front true true a b tests rest e = e

-- The tests of a new volume: its plex, its name, the limits, its shape.
new_volume_tests : (t : Option No) (p : Bool) (a : No) (u : Option No) (q : Bool) (b : No)
    → before t (before (when p a) (before u (before (when q b) None))) ≡ before t (if p then Some a else before u (if q then Some b else None))
new_volume_tests (Some refused) p a u q b = refl
new_volume_tests None true a u q b = refl
new_volume_tests None false a (Some refused) q b = refl
new_volume_tests None false a None true b = refl
new_volume_tests None false a None false b = refl

volume_tests : (site : Option SiteFacts) (name volume : List ℕ) (blocks mirrors : ℕ) (layout : Layout) (policy : ReadPolicy)
    → first_said_no (unknown_one (Some name) site ∷ down_by FirstUp site None ∷ group_role site ∷ preferred_unknown policy mirrors ∷ volume_taken (volume_of site volume) volume ∷ volume_limit (volume_count site) mirrors ∷ when (not (is_volume_shape blocks mirrors layout)) Size ∷ [])
    ≡ volume_refusal site name volume blocks mirrors layout policy
unfolding first_said_no
volume_tests None name volume blocks mirrors layout policy = refl
volume_tests (Some site) name volume blocks mirrors layout policy =
    group_front (is_up site.state) site.grouped Down Role _ _
    (new_volume_tests (preferred_unknown policy mirrors) (is_some (volume_of (Some site) volume)) (Exists volume) (volume_limit (volume_count (Some site)) mirrors) (not (is_volume_shape blocks mirrors layout)) Size)

pub volume_lines_are : (sites : List SiteFacts) (files : Bool) (name volume : List ℕ) (blocks mirrors : ℕ) (layout : Layout) (log : VolumeLog) (map : VolumeMap) (policy : ReadPolicy)
    → line_refusal sites files (Volume name volume blocks mirrors layout log map policy) ≡ volume_refusal (site_named sites name) name volume blocks mirrors layout policy
unfolding line_refusal first_said_no first_name second_name need_of halt_of line_role line_unknown taken over_limit wrong_size span_of ask_of
volume_lines_are sites files name volume blocks mirrors layout log map policy = volume_tests (site_named sites name) name volume blocks mirrors layout policy

plex_tests : (site : Option SiteFacts) (name volume : List ℕ) (plex : ℕ)
    → first_said_no (unknown_one (Some name) site ∷ down_by FirstUp site None ∷ group_role site ∷ plex_unknown (volume_of site volume) volume plex ∷ []) ≡ plex_refusal site name volume plex
unfolding first_said_no
plex_tests None name volume plex = refl
plex_tests (Some site) name volume plex = group_front (is_up site.state) site.grouped Down Role _ _ (before_none (plex_unknown (volume_of (Some site) volume) volume plex))

pub detach_lines_are : (sites : List SiteFacts) (files : Bool) (name volume : List ℕ) (plex : ℕ) → line_refusal sites files (PlexDetach name volume plex) ≡ plex_refusal (site_named sites name) name volume plex
unfolding line_refusal first_said_no first_name second_name need_of halt_of line_role line_unknown taken over_limit wrong_size span_of ask_of
detach_lines_are sites files name volume plex = plex_tests (site_named sites name) name volume plex

pub attach_lines_are : (sites : List SiteFacts) (files : Bool) (name volume : List ℕ) (plex : ℕ) → line_refusal sites files (PlexAttach name volume plex) ≡ plex_refusal (site_named sites name) name volume plex
unfolding line_refusal first_said_no first_name second_name need_of halt_of line_role line_unknown taken over_limit wrong_size span_of ask_of
attach_lines_are sites files name volume plex = plex_tests (site_named sites name) name volume plex

-- ---- its replicated volume group

-- The tests of a replicated volume group: its names, the one that is there, its volumes.
new_group_tests : (t : Option No) (p q : Bool) (a b : No)
    → before t (before (when p a) (before (when q b) None)) ≡ before t (if p then Some a else if q then Some b else None)
new_group_tests (Some refused) p q a b = refl
new_group_tests None true q a b = refl
new_group_tests None false true a b = refl
new_group_tests None false false a b = refl

rvg_tests : (site : Option SiteFacts) (name srl maps : List ℕ) (volumes : List (List ℕ))
    → first_said_no (unknown_one (Some name) site ∷ down_by FirstUp site None ∷ group_role site ∷ group_unknown site srl maps volumes ∷ group_taken (rvg_of site) ∷ when (not (fits_group site srl maps volumes)) Size ∷ [])
    ≡ rvg_refusal site name srl maps volumes
unfolding first_said_no
rvg_tests None name srl maps volumes = refl
rvg_tests (Some site) name srl maps volumes =
    group_front (is_up site.state) site.grouped Down Role _ _
    (new_group_tests (group_unknown (Some site) srl maps volumes) (is_some (rvg_of (Some site))) (not (fits_group (Some site) srl maps volumes)) (Exists group_word) Size)

pub rvg_lines_are : (sites : List SiteFacts) (files : Bool) (name srl maps : List ℕ) (volumes : List (List ℕ))
    → line_refusal sites files (Rvg name srl maps volumes) ≡ rvg_refusal (site_named sites name) name srl maps volumes
unfolding line_refusal first_said_no first_name second_name need_of halt_of line_role line_unknown taken over_limit wrong_size span_of ask_of
rvg_lines_are sites files name srl maps volumes = rvg_tests (site_named sites name) name srl maps volumes
