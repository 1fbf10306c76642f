-- What is said of an event that no test of its own refuses, and the world that it leaves.
use Rattle.std.proofs.Common.{◌≡◌, ◌∙◌, ◌+◌, ◌<◌, ◌≤◌, ℕ, zero, suc, Bool, true, false, ap, refl, arith, length, List, [], ◌∷◌}
use Rattle.std.specs.Prelude.{not, ◌&&◌, ◌||◌, leb, ltb, eqb, min, max, Option, Some, None, bytes_eq, if◌then◌else◌}
use Rattle.vx_model.specs.Answer.{is_too_large}
use Rattle.vx_model.specs.Content.{Write as WriteBlocks, blocks_in, blocks_from}
use Rattle.vx_model.specs.Sites.{is_origin, is_up, is_bare}
use Rattle.vx_model.specs.Sizes.{is_raw_shape}
use Rattle.vx_model.specs.declared.limits.TheConstants.{MOST_NUMBER, MOST_SITES, MOST_DISKS, LEAST_BLOCKS}
use Rattle.vx_model.specs.declared.no.No.TheVariants.{Exists, Limit, Size, Role as WrongRole, Down as NotUp, Device, NoConfig}
use Rattle.vx_model.specs.declared.no.Counted.TheVariants.{Sites, Disks, Number}
use Rattle.vx_model.specs.declared.site.SiteState.{SiteState}
use Rattle.vx_model.specs.declared.site.SiteState.TheVariants.{Bare, Up, Deported, Down}
use Rattle.vx_history.proofs.GroupLemmas.{group_passes}
use Rattle.vx_history.proofs.Updates.{at_place}
use Rattle.vx_history.specs.Sound.{is_at_rest}
use Rattle.vx_model.specs.declared.site.Role.TheVariants.{Primary}
use Rattle.vx_history.specs.Admission.{Admitted, Goes, admit}
use Rattle.vx_history.specs.Events.{group_again, group_from, is_plain_group, admitted, written_if, put_in, links_changed, links_marked, link_after, said_of_write, is_in_place, link_in_place, put_before, linked_sites, plain_links, log_uses, reached_at, apply_at, crash_at, deport_at, kept_of, recover_from, recovery}
use Rattle.vx_history.specs.Refusals.{Outcome, says, unless, at_work, some_below, is_waited_for, waits, goes, refused}
use Rattle.vx_history.specs.Sends.{is_made, is_linked}
use Rattle.vx_history.specs.Step.{outcome_of, done, joined_blocks}
use Rattle.vx_history.specs.Steps.{site_made, raw_made, group_back, group_made, written, half_written, stopped_by}
use Rattle.vx_history.specs.Volumes.{volumes_made}
use Rattle.vx_history.specs.World.{Node, Link as LinkOf, World}
use Rattle.vx_history.specs.declared.volumes.DataVolume.{DataVolume}
use Rattle.vx_history.specs.declared.event.Event.TheVariants.{Site, Raw, Group, Volumes, Write, Read, Apply, Crash, Deport, Recover, Fault}
use Rattle.vx_history.specs.declared.event.Said.{Said}
use Rattle.vx_history.specs.declared.event.Said.TheVariants.{DoneAt, Logged, Got, Refused}
use Rattle.vx_events.specs.Plain.{IsUnlinked}
use Rattle.vx_events.proofs.Passing.{off, above, not_below, is_more, neither, is_site, is_at_work, IsCall, is_call, none_below}

-- ---- sites

pub site_step : (w : World) (name : List ℕ) (disks blocks : ℕ) → some_below w.sites (λ k. bytes_eq (w.nodes k).name name) ≡ false → w.sites < 8 → disks ≤ 8 → 1 ≤ disks → 8 ≤ blocks
    → outcome_of w (Site name disks blocks) ≡ done (site_made w name disks blocks)
site_step w name disks blocks free few narrow some large =
    let o : Outcome = done (site_made w name disks blocks) in
    let sized : Outcome = unless (eqb disks 0 || ltb blocks LEAST_BLOCKS) Size w o in
    let fits : Outcome = unless (ltb MOST_DISKS disks) (Limit Disks MOST_DISKS) w sized in
    let room : Outcome = unless (leb MOST_SITES w.sites) (Limit Sites MOST_SITES) w fits in
    off (some_below w.sites (λ k. bytes_eq (w.nodes k).name name)) (Exists name) w room free
    ∙ off (leb MOST_SITES w.sites) (Limit Sites MOST_SITES) w fits (above MOST_SITES w.sites few)
    ∙ off (ltb MOST_DISKS disks) (Limit Disks MOST_DISKS) w sized (not_below MOST_DISKS disks narrow)
    ∙ off (eqb disks 0 || ltb blocks LEAST_BLOCKS) Size w o (neither (eqb disks 0) (ltb blocks LEAST_BLOCKS) (is_more disks some) (not_below blocks LEAST_BLOCKS large))

pub raw_step : (w : World) (s : ℕ) → s < w.sites → (w.nodes s).state ≡ Bare → is_raw_shape (w.nodes s).disks (w.nodes s).blocks ≡ true → outcome_of w (Raw s) ≡ done (raw_made w s)
raw_step w s below bare shape =
    let o : Outcome = done (raw_made w s) in
    let sized : Outcome = unless (not (is_raw_shape (w.nodes s).disks (w.nodes s).blocks)) Size w o in
    is_site w s (unless (not (is_bare (w.nodes s).state)) WrongRole w sized) below
    ∙ off (not (is_bare (w.nodes s).state)) WrongRole w sized (ap (λ (t : SiteState). not (is_bare t)) bare)
    ∙ off (not (is_raw_shape (w.nodes s).disks (w.nodes s).blocks)) Size w o (ap (λ (b : Bool). not b) shape)

pub group_step : (w : World) (s : ℕ) → s < w.sites → (w.nodes s).state ≡ Bare → outcome_of w (Group s) ≡ done (group_made w s)
group_step w s below bare = is_site w s (group_from (w.nodes s).state w s) below ∙ ap (λ (t : SiteState). group_from t w s) bare

-- a group that runs gets its volumes
pub data_step : (w : World) (s log : ℕ) (xs : List DataVolume) → s < w.sites → (w.nodes s).state ≡ Up → (w.nodes s).halted ≡ None → (w.nodes s).role ≡ Primary
    → (w.nodes s).volumes ≡ [] → (w.nodes s).log ≡ [] → outcome_of w (Volumes s log xs) ≡ done (volumes_made w s log xs)
data_step w s log xs below up running role volumes none =
    let tested : Outcome = unless (not (is_plain_group (w.nodes s))) WrongRole w (done (volumes_made w s log xs)) in
    is_site w s (at_work w s tested) below
    ∙ is_at_work w s tested up running
    ∙ off (not (is_plain_group (w.nodes s))) WrongRole w (done (volumes_made w s log xs)) (ap (λ (b : Bool). not b) (group_passes (w.nodes s) role volumes none))

-- and a group that is at rest comes up again
pub again_step : (w : World) (s : ℕ) → s < w.sites → is_at_rest (w.nodes s).state ≡ true → (w.nodes s).role ≡ Primary → (w.nodes s).volumes ≡ []
    → (w.nodes s).log ≡ [] → outcome_of w (Group s) ≡ done (group_back w s)
again_step w s below rest role volumes log =
    is_site w s (group_from (w.nodes s).state w s) below
    ∙ by_state (w.nodes s).state rest
    ∙ off (not (is_plain_group (w.nodes s))) WrongRole w (done (group_back w s)) (ap (λ (b : Bool). not b) (group_passes (w.nodes s) role volumes log))
  where
    by_state : (t : SiteState) → is_at_rest t ≡ true → group_from t w s ≡ group_again w s
    by_state Bare e = absurd (cc)
    by_state Up e = absurd (cc)
    by_state Deported e = refl
    by_state Down e = refl

-- ---- crashes, deports, recoveries and failing disks

pub crash_step : (w : World) (s kept : ℕ) → s < w.sites → (w.nodes s).state ≡ Up → outcome_of w (Crash s kept) ≡ done (crash_at w s (kept_of (w.nodes s) kept))
crash_step w s kept below up =
    let o : Outcome = done (crash_at w s (kept_of (w.nodes s) kept)) in
    is_site w s (unless (not (is_up (w.nodes s).state)) NotUp w o) below
    ∙ off (not (is_up (w.nodes s).state)) NotUp w o (ap (λ (t : SiteState). not (is_up t)) up)

pub deport_step : (w : World) (s : ℕ) → s < w.sites → (w.nodes s).state ≡ Up → (w.nodes s).halted ≡ None → outcome_of w (Deport s) ≡ done (deport_at w s)
deport_step w s below up runs = let o : Outcome = done (deport_at w s) in is_site w s (at_work w s o) below ∙ is_at_work w s o up runs

pub kept_is : (n : Node) (k : ℕ) → n.safe ≤ k → k ≤ length n.log → kept_of n k ≡ k
kept_is n k least most = omega arith

pub recover_step : (w : World) (s : ℕ) (fails : Option ℕ) → s < w.sites → (w.nodes s).state ≡ Down → (w.nodes s).session < MOST_NUMBER → outcome_of w (Recover s fails) ≡ recovery w s fails
recover_step w s fails below down some =
    is_site w s (recover_from (w.nodes s).state w s fails) below
    ∙ ap (λ (t : SiteState). recover_from t w s fails) down
    ∙ off (leb MOST_NUMBER (w.nodes s).session) (Limit Number MOST_NUMBER) w (recovery w s fails) (above MOST_NUMBER (w.nodes s).session some)

pub bare_step : (w : World) (s : ℕ) (fails : Option ℕ) → s < w.sites → (w.nodes s).state ≡ Bare → outcome_of w (Recover s fails) ≡ refused w NoConfig
bare_step w s fails below bare =
    is_site w s (recover_from (w.nodes s).state w s fails) below
    ∙ ap (λ (t : SiteState). recover_from t w s fails) bare

pub fault_step : (w : World) (s disk : ℕ) → s < w.sites → (w.nodes s).state ≡ Up → outcome_of w (Fault s disk) ≡ says (stopped_by w s disk) (Refused (Device disk))
fault_step w s disk below up =
    let o : Outcome = says (stopped_by w s disk) (Refused (Device disk)) in
    is_site w s (unless (not (is_up (w.nodes s).state)) NotUp w o) below
    ∙ off (not (is_up (w.nodes s).state)) NotUp w o (ap (λ (t : SiteState). not (is_up t)) up)

-- ---- reads and writes

pub read_step : (w : World) (s volume start count : ℕ) → IsCall w s volume start count
    → outcome_of w (Read s volume start count) ≡ says w (Got (joined_blocks (blocks_from (w.nodes s).base volume start count)))
read_step w s volume start count call = is_call w s volume start count false (says w (Got (joined_blocks (blocks_from (w.nodes s).base volume start count)))) call refl

-- a site without links lets every write in
pub not_made : (made : Option ℕ) (place : ℕ) → is_made made ≡ false → is_in_place made place ≡ false
not_made None place e = refl
not_made (Some k) place e = absurd (cc)

no_place : (row : ℕ → LinkOf) (place sites : ℕ) → ((k : ℕ) → is_linked (row k) ≡ false) → link_in_place row place sites ≡ None
no_place row place zero none = refl
no_place row place (suc k) none =
    ap (λ (b : Bool). if b then Some k else link_in_place row place k) (not_made (row k).made place (none k)) ∙ no_place row place k none

pub no_sites : (row : ℕ → LinkOf) (sites place n : ℕ) → ((k : ℕ) → is_linked (row k) ≡ false) → linked_sites row sites place n ≡ []
no_sites row sites place zero none = refl
no_sites row sites place (suc k) none =
    ap (λ (o : Option ℕ). put_before o (linked_sites row sites (place + 1) k)) (no_place row place sites none) ∙ no_sites row sites (place + 1) k none

pub lets_in : (w : World) (s : ℕ) (x : WriteBlocks) → IsUnlinked w → admitted w s x ≡ Goes []
lets_in w s x none =
    ap (λ (sites : List ℕ). admit (blocks_in x.bytes + 1) (w.nodes s).ring (plain_links (w.links s) sites) (log_uses (w.nodes s) (w.links s) sites))
    (no_sites (w.links s) w.sites 0 w.sites (none.none s))

-- a write that nothing but a failing disk can refuse
pub record CanPut (w : World) (s : ℕ) (x : WriteBlocks) : Type 0 where
  pub call : IsCall w s x.volume x.start (blocks_in x.bytes)
  pub fits : blocks_in x.bytes + 1 ≤ (w.nodes s).ring
  pub free : (w.nodes s).safe < MOST_NUMBER
  pub unlinked : IsUnlinked w

put_step : (w : World) (s : ℕ) (x : WriteBlocks) (fails : Option ℕ) → CanPut w s x → outcome_of w (Write s x.volume x.start x.bytes fails) ≡ put_in (links_changed w s x) s x fails
put_step w s x fails can =
    let put : Outcome = put_in (links_changed w s x) s x fails in
    is_call w s x.volume x.start (blocks_in x.bytes) (is_too_large (w.nodes s).ring (blocks_in x.bytes)) (written_if (admitted w s x) w s x fails) can.call (not_below (w.nodes s).ring (blocks_in x.bytes + 1) can.fits)
    ∙ ap (λ (a : Admitted). written_if a w s x fails) (lets_in w s x can.unlinked)
    ∙ off (leb MOST_NUMBER (w.nodes s).safe) (Limit Number MOST_NUMBER) w put (above MOST_NUMBER (w.nodes s).safe can.free)

-- no link is to confirm it
confirmed : (w : World) (s : ℕ) (x : WriteBlocks) (number : ℕ) → IsUnlinked w → said_of_write (links_changed w s x) s number ≡ DoneAt number
confirmed w s x number none =
    ap (λ (b : Bool). if b then Logged number else DoneAt number)
    (none_below w.sites (λ k. is_waited_for k ((links_changed w s x).links s k))
    (λ k. unwaited k ((links_changed w s x).links s k) (ap (λ (r : ℕ → LinkOf). is_linked (r k)) (at_place w.links s (λ j. link_after (w.nodes s) x j (w.links s j))) ∙ none.none s k)))
  where
    unwaited : (k : ℕ) (l : LinkOf) → is_linked l ≡ false → is_waited_for k l ≡ false
    unwaited k l e = ap (λ (b : Bool). b && (waits l.sync && goes k l)) e

pub write_step : (w : World) (s : ℕ) (x : WriteBlocks) → CanPut w s x
    → outcome_of w (Write s x.volume x.start x.bytes None) ≡ says (written (links_marked (links_changed w s x) s (x ∷ [])) s x) (DoneAt ((w.nodes s).safe + 1))
write_step w s x can =
    put_step w s x None can ∙ ap (λ (said : Said). says (written (links_marked (links_changed w s x) s (x ∷ [])) s x) said) (confirmed w s x ((w.nodes s).safe + 1) can.unlinked)

pub half_step : (w : World) (s : ℕ) (x : WriteBlocks) (disk : ℕ) → CanPut w s x
    → outcome_of w (Write s x.volume x.start x.bytes (Some disk)) ≡ says (half_written (links_changed w s x) s x disk) (Refused (Device disk))
half_step w s x disk can = put_step w s x (Some disk) can

-- ---- applies

pub apply_step : (w : World) (s count reached : ℕ) → s < w.sites → (w.nodes s).state ≡ Up → (w.nodes s).halted ≡ None → is_origin (w.nodes s).role ≡ true
    → min count (w.nodes s).safe ≤ reached → reached ≤ (w.nodes s).safe → outcome_of w (Apply s count reached) ≡ says w (DoneAt reached)
apply_step w s count reached below up runs origin least most =
    let o : Outcome = (if is_origin (w.nodes s).role then reached_at w s count reached else apply_at w s count) in
    let number : min (w.nodes s).safe (max reached (min count (w.nodes s).safe)) ≡ reached = omega arith in
    is_site w s (at_work w s o) below
    ∙ is_at_work w s o up runs
    ∙ ap (λ (b : Bool). if b then reached_at w s count reached else apply_at w s count) origin
    ∙ ap (λ (k : ℕ). says w (DoneAt k)) number
