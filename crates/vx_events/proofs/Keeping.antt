-- What the events of sites without links keep.
use Rattle.std.proofs.Common.{◌≡◌, ◌∙◌, ◌+◌, ℕ, Bool, true, false, ap, sym, refl, length, List, [], ◌∷◌, ◌++◌}
use Rattle.std.specs.Prelude.{not, ◌||◌, leb, eqb, ltb, bytes_eq, Option, Some, None, if◌then◌else◌}
use Rattle.vx_model.specs.Answer.{is_wrong_count, is_past, is_too_large}
use Rattle.vx_model.specs.Content.{Write as WriteBlocks, blocks_in, blocks_from}
use Rattle.vx_model.specs.Sites.{is_origin, is_up, is_bare}
use Rattle.vx_model.specs.Sizes.{is_raw_shape}
use Rattle.vx_model.specs.declared.limits.TheConstants.{LEAST_BLOCKS, MOST_DISKS, MOST_NUMBER, MOST_SITES}
use Rattle.vx_model.specs.declared.no.Counted.TheVariants.{Sites, Disks, Number}
use Rattle.vx_model.specs.declared.no.Named.TheVariants.{Number as ByNumber}
use Rattle.vx_model.specs.declared.no.No.{No}
use Rattle.vx_model.specs.declared.no.No.TheVariants.{Unknown, Exists, Range, Size, Role as WrongRole, Down as NotUp, Limit, Device}
use Rattle.vx_model.specs.declared.site.Mark.{Mark}
use Rattle.vx_model.specs.declared.site.Role.{Role}
use Rattle.vx_model.specs.declared.site.Role.TheVariants.{Primary}
use Rattle.vx_model.specs.declared.site.SiteState.{SiteState}
use Rattle.vx_model.specs.declared.site.SiteState.TheVariants.{Bare, Up, Deported, Down}
use Rattle.vx_history.proofs.Updates.{all_updated}
use Rattle.vx_history.specs.Admission.{Admitted, Held_by, Goes}
use Rattle.vx_history.specs.Events.{fall_from, group_again, group_from, is_plain_group, admitted, written_if, put_in, links_changed, link_after, acknowledged, applied, applied_by, apply_at, reached_at, crash_at, deport_at, crash_world, kept_of, link_left, link_marked, links_marked, recover_from, recovery, recovered_at, restarted_link, come_back, recovery_greeting}
use Rattle.vx_history.specs.LinkForms.{plain_receiver}
use Rattle.vx_history.specs.Receiving.{Received, received_step}
use Rattle.vx_history.specs.Refusals.{Outcome, says, unless, unless_halted, is_primary, some_below, at_site, at_work, on_volume}
use Rattle.vx_history.specs.Sends.{is_linked, with_links, sending}
use Rattle.vx_history.specs.Headers.{headers_by}
use Rattle.vx_history.specs.Step.{step, outcome_of, run, done, joined_blocks}
use Rattle.vx_history.specs.declared.event.Said.TheVariants.{Got, Refused}
use Rattle.vx_history.specs.Steps.{site_made, raw_made, raw_set, group_back, group_made, group_set, group_up, written, logged, half_written, crashed, crash_left, deported_site, deported_world, fallen_site, fallen_world, session_begun, stopped_by, recovered, burned}
use Rattle.vx_history.specs.World.{Node, Fuse, Link as LinkOf, World, bare_site, updated, with_node}
use Rattle.vx_history.specs.declared.event.Event.{Event}
use Rattle.vx_history.specs.declared.event.Event.TheVariants.{Site, Raw, Group, Volumes, Write, Read, Apply, Pump, Tick, Deliver, Connect, Cut, Pause, Resume, Wait, Link, Set, Attach, Detach, Crash, Deport, Fall, Recover, Fault}
use Rattle.vx_history.specs.declared.receiver.RAction.{RAction}
use Rattle.vx_history.specs.declared.receiver.RAction.TheVariants.{Nothing, Ignored, IgnoredAck, Take, DataAck}
use Rattle.vx_history.specs.declared.receiver.RState.{RState}
use Rattle.vx_history.specs.declared.receiver.REvent.TheVariants.{Applied, Restart as RestartSite}
use Rattle.vx_events.specs.Plain.{IsUnlinked, ArePrimaries}
use Rattle.vx_history.specs.Volumes.{volumes_made, volumes_set}
use Rattle.vx_history.specs.declared.volumes.DataVolume.{DataVolume}

-- events of one site by itself
abbrev pub IsSingle : Event → Type 0
IsSingle (Site name disks blocks) = Unit {0}
IsSingle (Raw s) = Unit {0}
IsSingle (Group s) = Unit {0}
IsSingle (Volumes s log xs) = Unit {0}
IsSingle (Write s volume start bytes fails) = Unit {0}
IsSingle (Read s volume start count) = Unit {0}
IsSingle (Apply s count reached) = Unit {0}
IsSingle (Crash s kept) = Unit {0}
IsSingle (Deport s) = Unit {0}
IsSingle (Fall s) = Unit {0}
IsSingle (Recover s fails) = Unit {0}
IsSingle (Fault s disk) = Unit {0}
IsSingle other = ⊥

abbrev pub AllSingle : List Event → Type 0
AllSingle [] = Unit {0}
AllSingle (e ∷ es) = IsSingle e × AllSingle es

-- whatever each change of such an event keeps, the event keeps
pub record KeptBy (P : World → Type 0) : Type 0 where
  pub site : (w : World) (name : List ℕ) (disks blocks : ℕ) → P w → P (site_made w name disks blocks)
  pub raw : (w : World) (s : ℕ) → P w → P (raw_made w s)
  pub group : (w : World) (s : ℕ) → P w → P (group_made w s)
  pub back : (w : World) (s : ℕ) → P w → P (group_back w s)
  pub volumes : (w : World) (s log : ℕ) (xs : List DataVolume) → P w → P (volumes_made w s log xs)
  pub links : (w : World) (s : ℕ) (x : WriteBlocks) → P w → P (links_changed w s x)
  pub marks : (w : World) (s : ℕ) (xs : List WriteBlocks) → P w → P (links_marked w s xs)
  pub write : (w : World) (s : ℕ) (x : WriteBlocks) → P w → P (written w s x)
  pub half : (w : World) (s : ℕ) (x : WriteBlocks) (disk : ℕ) → P w → P (half_written w s x disk)
  pub apply : (w : World) (s number : ℕ) (mark : Mark) → P w → P (acknowledged w s (applied (w.nodes s) number mark))
  pub crash : (w : World) (s kept : ℕ) → P w → P (crash_at w s kept)
  pub deport : (w : World) (s : ℕ) (fuse : Fuse) → P w → P (deported_world fuse w s)
  pub fall : (w : World) (s : ℕ) → P w → P (fallen_world w s)
  pub recover : (w : World) (s : ℕ) → P w → P (recovered_at w s)
  pub session : (w : World) (s : ℕ) → P w → P (session_begun w s)
  pub stop : (w : World) (s disk : ℕ) → P w → P (stopped_by w s disk)
  pub count : (w : World) (headers : ℕ → ℕ) → P w → P (record w { headers = headers })

-- whatever holds of the world before an event and behind its tests holds behind it
module _ (P : World → Type 0) where
  abbrev pub Holds : Outcome → Type 0
  Holds o = P o.world

  pub past : (b : Bool) (why : No) (w : World) (o : Outcome) → P w → Holds o → Holds (unless b why w o)
  past true why w o p h = p
  past false why w o p h = h

  past_halted : (halted : Option ℕ) (w : World) (o : Outcome) → P w → Holds o → Holds (unless_halted halted w o)
  past_halted None w o p h = h
  past_halted (Some disk) w o p h = p

  pub past_site : (w : World) (s : ℕ) (o : Outcome) → P w → Holds o → Holds (at_site w s o)
  past_site w s o p h = past (leb w.sites s) (Unknown (ByNumber s)) w o p h

  pub past_work : (w : World) (s : ℕ) (o : Outcome) → P w → Holds o → Holds (at_work w s o)
  past_work w s o p h = past (not (is_up (w.nodes s).state)) NotUp w (unless_halted (w.nodes s).halted w o) p (past_halted (w.nodes s).halted w o p h)

  pub past_volume : (w : World) (s volume start count : ℕ) (large : Bool) (o : Outcome) → P w → Holds o → Holds (on_volume w s volume start count large o)
  past_volume w s volume start count large o p h =
      let range : Outcome = unless (is_past (w.nodes s).base volume start count) Range w o in
      let sized : Outcome = unless (is_wrong_count count || large) Size w range in
      let known : Outcome = unless (leb (length (w.nodes s).volumes) volume) (Unknown (ByNumber volume)) w sized in
      let led : Outcome = unless (not (is_primary (w.nodes s).role)) WrongRole w known in
      let works : Outcome = at_work w s led in
      past_site w s (unless (is_bare (w.nodes s).state) (Unknown (ByNumber volume)) w works) p
      (past (is_bare (w.nodes s).state) (Unknown (ByNumber volume)) w works p
      (past_work w s led p
      (past (not (is_primary (w.nodes s).role)) WrongRole w known p
      (past (leb (length (w.nodes s).volumes) volume) (Unknown (ByNumber volume)) w sized p
      (past (is_wrong_count count || large) Size w range p
      (past (is_past (w.nodes s).base volume start count) Range w o p h))))))

-- a read leaves the world as it is
pub read_stays : (w : World) (s volume start count : ℕ) → (outcome_of w (Read s volume start count)).world ≡ w
read_stays w s volume start count = past_volume (λ (v : World). v ≡ w) w s volume start count false (says w (Got (joined_blocks (blocks_from (w.nodes s).base volume start count)))) refl refl

module _ (P : World → Type 0) (keeps : KeptBy P) where
  put_keeps : (w : World) (s : ℕ) (x : WriteBlocks) (fails : Option ℕ) → P w → Holds P (put_in w s x fails)
  put_keeps w s x None p = keeps.write (links_marked w s (x ∷ [])) s x (keeps.marks w s (x ∷ []) p)
  put_keeps w s x (Some disk) p = keeps.half w s x disk p

  written_keeps : (a : Admitted) (w : World) (s : ℕ) (x : WriteBlocks) (fails : Option ℕ) → P w → Holds P (written_if a w s x fails)
  written_keeps (Held_by why) w s x fails p = p
  written_keeps (Goes changes) w s x fails p = past P (leb MOST_NUMBER (w.nodes s).safe) (Limit Number MOST_NUMBER) w (put_in (links_changed w s x) s x fails) p (put_keeps (links_changed w s x) s x fails (keeps.links w s x p))

  applied_keeps : (w : World) (s : ℕ) (r : RState) (a : RAction) → P w → Holds P (applied_by w s r a)
  applied_keeps w s r Nothing p = p
  applied_keeps w s r Ignored p = p
  applied_keeps w s r (IgnoredAck number) p = p
  applied_keeps w s r (Take number) p = p
  applied_keeps w s r (DataAck number) p = keeps.apply w s number r.mark p

  apply_by : (b : Bool) (w : World) (s count reached : ℕ) → P w → Holds P (if b then reached_at w s count reached else apply_at w s count)
  apply_by true w s count reached p = p
  apply_by false w s count reached p =
      let r : Received = received_step (plain_receiver (w.nodes s)) (Applied count) in applied_keeps w s r.state r.action p

  recovery_keeps : (w : World) (s : ℕ) (fails : Option ℕ) → P w → Holds P (recovery w s fails)
  recovery_keeps w s None p = keeps.recover w s p
  recovery_keeps w s (Some disk) p = keeps.session w s p

  recover_keeps : (state : SiteState) (w : World) (s : ℕ) (fails : Option ℕ) → P w → Holds P (recover_from state w s fails)
  recover_keeps Bare w s fails p = p
  recover_keeps Up w s fails p = p
  recover_keeps Deported w s fails p = past P (leb MOST_NUMBER (w.nodes s).session) (Limit Number MOST_NUMBER) w (recovery w s fails) p (recovery_keeps w s fails p)
  recover_keeps Down w s fails p = past P (leb MOST_NUMBER (w.nodes s).session) (Limit Number MOST_NUMBER) w (recovery w s fails) p (recovery_keeps w s fails p)

  again_keeps : (w : World) (s : ℕ) → P w → Holds P (group_again w s)
  again_keeps w s p = past P (not (is_plain_group (w.nodes s))) WrongRole w (done (group_back w s)) p (keeps.back w s p)

  group_keeps : (state : SiteState) (w : World) (s : ℕ) → P w → Holds P (group_from state w s)
  group_keeps Bare w s p = keeps.group w s p
  group_keeps Up w s p = p
  group_keeps Deported w s p = again_keeps w s p
  group_keeps Down w s p = again_keeps w s p

  fall_keeps : (state : SiteState) (w : World) (s : ℕ) → P w → Holds P (fall_from state w s)
  fall_keeps Bare w s p = p
  fall_keeps Up w s p = p
  fall_keeps Deported w s p = keeps.fall w s p
  fall_keeps Down w s p = p

  outcome_keeps : (w : World) (e : Event) → IsSingle e → P w → P (outcome_of w e).world
  outcome_keeps w (Site name disks blocks) one p =
      let o : Outcome = done (site_made w name disks blocks) in
      let sized : Outcome = unless (eqb disks 0 || ltb blocks LEAST_BLOCKS) Size w o in
      let fits : Outcome = unless (ltb MOST_DISKS disks) (Limit Disks MOST_DISKS) w sized in
      let room : Outcome = unless (leb MOST_SITES w.sites) (Limit Sites MOST_SITES) w fits in
      past P (some_below w.sites (λ k. bytes_eq (w.nodes k).name name)) (Exists name) w room p
      (past P (leb MOST_SITES w.sites) (Limit Sites MOST_SITES) w fits p
      (past P (ltb MOST_DISKS disks) (Limit Disks MOST_DISKS) w sized p
      (past P (eqb disks 0 || ltb blocks LEAST_BLOCKS) Size w o p (keeps.site w name disks blocks p))))
  outcome_keeps w (Raw s) one p =
      let o : Outcome = done (raw_made w s) in
      let sized : Outcome = unless (not (is_raw_shape (w.nodes s).disks (w.nodes s).blocks)) Size w o in
      past_site P w s (unless (not (is_bare (w.nodes s).state)) WrongRole w sized) p
      (past P (not (is_bare (w.nodes s).state)) WrongRole w sized p
      (past P (not (is_raw_shape (w.nodes s).disks (w.nodes s).blocks)) Size w o p (keeps.raw w s p)))
  outcome_keeps w (Group s) one p = past_site P w s (group_from (w.nodes s).state w s) p (group_keeps (w.nodes s).state w s p)
  outcome_keeps w (Volumes s log xs) one p =
      let o : Outcome = done (volumes_made w s log xs) in
      let tested : Outcome = unless (not (is_plain_group (w.nodes s))) WrongRole w o in
      past_site P w s (at_work w s tested) p (past_work P w s tested p (past P (not (is_plain_group (w.nodes s))) WrongRole w o p (keeps.volumes w s log xs p)))
  outcome_keeps w (Write s volume start bytes fails) one p =
      let x : WriteBlocks = record { volume = volume; start = start; bytes = bytes } in
      past_volume P w s volume start (blocks_in bytes) (is_too_large (w.nodes s).ring (blocks_in bytes)) (written_if (admitted w s x) w s x fails) p (written_keeps (admitted w s x) w s x fails p)
  outcome_keeps w (Read s volume start count) one p =
      past_volume P w s volume start count false (says w (Got (joined_blocks (blocks_from (w.nodes s).base volume start count)))) p p
  outcome_keeps w (Apply s count reached) one p =
      let o : Outcome = (if is_origin (w.nodes s).role then reached_at w s count reached else apply_at w s count) in
      past_site P w s (at_work w s o) p (past_work P w s o p (apply_by (is_origin (w.nodes s).role) w s count reached p))
  outcome_keeps w (Crash s kept) one p =
      let o : Outcome = done (crash_at w s (kept_of (w.nodes s) kept)) in
      past_site P w s (unless (not (is_up (w.nodes s).state)) NotUp w o) p
      (past P (not (is_up (w.nodes s).state)) NotUp w o p (keeps.crash w s (kept_of (w.nodes s) kept) p))
  outcome_keeps w (Deport s) one p =
      let k : ℕ = kept_of (w.nodes s) 0 in
      let o : Outcome = done (deport_at w s) in
      past_site P w s (at_work w s o) p (past_work P w s o p (keeps.deport (crash_at w s k) s (w.nodes s).fuse (keeps.crash w s k p)))
  outcome_keeps w (Fall s) one p = past_site P w s (fall_from (w.nodes s).state w s) p (fall_keeps (w.nodes s).state w s p)
  outcome_keeps w (Recover s fails) one p = past_site P w s (recover_from (w.nodes s).state w s fails) p (recover_keeps (w.nodes s).state w s fails p)
  outcome_keeps w (Fault s disk) one p =
      let o : Outcome = says (stopped_by w s disk) (Refused (Device disk)) in
      past_site P w s (unless (not (is_up (w.nodes s).state)) NotUp w o) p
      (past P (not (is_up (w.nodes s).state)) NotUp w o p (keeps.stop w s disk p))
  outcome_keeps w (Pump s q) one p = absurd one
  outcome_keeps w (Tick s q) one p = absurd one
  outcome_keeps w (Deliver number) one p = absurd one
  outcome_keeps w (Connect s q) one p = absurd one
  outcome_keeps w (Cut s q) one p = absurd one
  outcome_keeps w (Pause s q) one p = absurd one
  outcome_keeps w (Resume s q) one p = absurd one
  outcome_keeps w (Wait s number) one p = absurd one
  outcome_keeps w (Link s q sync prot part) one p = absurd one
  outcome_keeps w (Set s q sync prot) one p = absurd one
  outcome_keeps w (Attach s q) one p = absurd one
  outcome_keeps w (Detach s q) one p = absurd one

  pub step_keeps : (w : World) (e : Event) → IsSingle e → P w → P (step w e).world
  step_keeps w e one p = keeps.count (outcome_of w e).world (λ i. w.headers i + headers_by e w (outcome_of w e) i) (outcome_keeps w e one p)

  pub run_keeps : (w : World) (es : List Event) → AllSingle es → P w → P (run w es)
  run_keeps w [] all p = p
  run_keeps w (e ∷ es) all p = run_keeps (step w e).world es all.1 (step_keeps w e all.0 p)

-- ---- no site gets a link

pub row_unlinked : (w : World) (s : ℕ) (row : ℕ → LinkOf) → IsUnlinked w → ((k : ℕ) → is_linked (row k) ≡ is_linked (w.links s k)) → IsUnlinked (with_links w s row)
row_unlinked w s row none same = record {
  none = λ p q. all_updated (λ _ r. is_linked (r q) ≡ false) w.links s row (same q ∙ none.none s q) (λ k apart. none.none k q) p;
}

pub same_links : (w v : World) → ((p s : ℕ) → v.links p s ≡ w.links p s) → IsUnlinked w → IsUnlinked v
same_links w v same none = record { none = λ p s. ap (λ (l : LinkOf). is_linked l) (same p s) ∙ none.none p s }

-- a site that crashes has its links, whatever its role
crash_links : (b : Bool) (w : World) (s kept p q : ℕ) → (if b then crash_left w s kept else with_node w s (crashed (w.nodes s) kept)).links p q ≡ w.links p q
crash_links true w s kept p q = refl
crash_links false w s kept p q = refl

unlinked_kept : KeptBy IsUnlinked
unlinked_kept = record {
  site = λ w name disks blocks none. same_links w (site_made w name disks blocks) (λ p s. refl) none;
  raw = λ w s none. same_links w (raw_made w s) (λ p q. refl) none;
  group = λ w s none. same_links w (group_made w s) (λ p q. refl) none;
  back = λ w s none. same_links w (group_back w s) (λ p q. refl) none;
  volumes = λ w s log xs none. same_links w (volumes_made w s log xs) (λ p q. refl) none;
  links = λ w s x none. row_unlinked w s (λ k. link_after (w.nodes s) x k (w.links s k)) none (λ k. refl);
  marks = λ w s xs none. row_unlinked w s (λ k. link_marked xs (w.links s k)) none (λ k. refl);
  write = λ w s x none. same_links w (written w s x) (λ p q. refl) none;
  half = λ w s x disk none. same_links w (half_written w s x disk) (λ p q. refl) none;
  apply = λ w s number mark none. same_links w (acknowledged w s (applied (w.nodes s) number mark)) (λ p q. refl) none;
  crash = λ w s kept none.
      same_links (with_links (crash_world w s kept) s (λ to. link_left (w.nodes s) kept (w.links s to))) (crash_at w s kept) (λ p q. refl)
      (row_unlinked (crash_world w s kept) s (λ to. link_left (w.nodes s) kept (w.links s to)) (same_links w (crash_world w s kept) (crash_links (is_origin (w.nodes s).role) w s kept) none)
      (λ k. ap (λ (l : LinkOf). is_linked l) (sym (crash_links (is_origin (w.nodes s).role) w s kept s k))));
  fall = λ w s none. same_links w (fallen_world w s) (λ p q. refl) none;
  deport = λ w s fuse none. same_links w (deported_world fuse w s) (λ p q. refl) none;
  recover = λ w s none.
      let n : Node = come_back (w.nodes s) in
      let v : World = with_links (with_node w s n) s (λ to. restarted_link n to (w.links s to)) in
      same_links v (sending v (recovery_greeting s n)) (λ p q. refl)
      (row_unlinked (with_node w s n) s (λ to. restarted_link n to (w.links s to)) (same_links w (with_node w s n) (λ p q. refl) none) (λ k. refl));
  session = λ w s none. same_links w (session_begun w s) (λ p q. refl) none;
  stop = λ w s disk none. same_links w (stopped_by w s disk) (λ p q. refl) none;
  count = λ w headers none. record { none = none.none };
}

-- these events make no link
pub run_unlinked : (w : World) (es : List Event) → AllSingle es → IsUnlinked w → IsUnlinked (run w es)
run_unlinked w es all none = run_keeps IsUnlinked unlinked_kept w es all none

-- ---- each site stays a primary

pub node_primary : (w v : World) (s : ℕ) (n : Node) → ((k : ℕ) → v.nodes k ≡ updated w.nodes s n k) → n.role ≡ Primary → ArePrimaries w → ArePrimaries v
node_primary w v s n same role all = record {
  each = λ i. ap (λ (m : Node). m.role) (same i) ∙ all_updated (λ _ m. m.role ≡ Primary) w.nodes s n role (λ k apart. all.each k) i;
}

crash_nodes : (b : Bool) (w : World) (s kept k : ℕ) → (if b then crash_left w s kept else with_node w s (crashed (w.nodes s) kept)).nodes k ≡ updated w.nodes s (crashed (w.nodes s) kept) k
crash_nodes true w s kept k = refl
crash_nodes false w s kept k = refl

-- the nodes behind a crash
pub crash_nodes_are : (w : World) (s kept k : ℕ) → (crash_at w s kept).nodes k ≡ updated w.nodes s (crashed (w.nodes s) kept) k
crash_nodes_are w s kept k = crash_nodes (is_origin (w.nodes s).role) w s kept k

-- a primary that comes up
pub back_primary : (n : Node) → n.role ≡ Primary → come_back n ≡ recovered n
back_primary n primary =
    let r : RState = (received_step (plain_receiver n) (RestartSite (length n.log) (n.session + 1))).state in
    ap (λ (role : Role). if is_origin role then recovered n else record (recovered n) { session = r.session; mark = r.mark }) primary

primaries_kept : KeptBy ArePrimaries
primaries_kept = record {
  site = λ w name disks blocks all. node_primary w (site_made w name disks blocks) w.sites (bare_site name disks blocks) (λ k. refl) refl all;
  raw = λ w s all. node_primary w (raw_made w s) s (raw_set s (w.nodes s)) (λ k. refl) refl all;
  group = λ w s all. node_primary w (group_made w s) s (group_set s (w.nodes s)) (λ k. refl) refl all;
  back = λ w s all. node_primary w (group_back w s) s (group_up (w.nodes s)) (λ k. refl) (all.each s) all;
  volumes = λ w s log xs all. node_primary w (volumes_made w s log xs) s (volumes_set log xs (w.nodes s)) (λ k. refl) (all.each s) all;
  links = λ w s x all. record { each = all.each };
  marks = λ w s xs all. record { each = all.each };
  write = λ w s x all. node_primary w (written w s x) s (logged (w.nodes s) x) (λ k. refl) (all.each s) all;
  half = λ w s x disk all. node_primary w (half_written w s x disk) s (record (w.nodes s) { log = (w.nodes s).log ++ x ∷ []; halted = Some disk; fuse = burned (w.nodes s).fuse }) (λ k. refl) (all.each s) all;
  apply = λ w s number mark all. node_primary w (acknowledged w s (applied (w.nodes s) number mark)) s (applied (w.nodes s) number mark) (λ k. refl) (all.each s) all;
  crash = λ w s kept all. node_primary w (crash_at w s kept) s (crashed (w.nodes s) kept) (crash_nodes_are w s kept) (all.each s) all;
  fall = λ w s all. node_primary w (fallen_world w s) s (fallen_site (w.nodes s)) (λ k. refl) (all.each s) all;
  deport = λ w s fuse all. node_primary w (deported_world fuse w s) s (deported_site fuse (w.nodes s)) (λ k. refl) (all.each s) all;
  recover = λ w s all.
      node_primary w (recovered_at w s) s (come_back (w.nodes s)) (λ k. refl) (ap (λ (n : Node). n.role) (back_primary (w.nodes s) (all.each s)) ∙ all.each s) all;
  session = λ w s all. node_primary w (session_begun w s) s (record (w.nodes s) { session = (w.nodes s).session + 1 }) (λ k. refl) (all.each s) all;
  stop = λ w s disk all. node_primary w (stopped_by w s disk) s (record (w.nodes s) { halted = Some disk; fuse = burned (w.nodes s).fuse }) (λ k. refl) (all.each s) all;
  count = λ w headers all. record { each = all.each };
}

-- these events change no role
pub run_primaries : (w : World) (es : List Event) → AllSingle es → ArePrimaries w → ArePrimaries (run w es)
run_primaries w es all are = run_keeps ArePrimaries primaries_kept w es all are

sites_by : (b : Bool) (w : World) (s kept : ℕ) → (if b then crash_left w s kept else with_node w s (crashed (w.nodes s) kept)).sites ≡ w.sites
sites_by true w s kept = refl
sites_by false w s kept = refl

pub crash_sites : (w : World) (s kept : ℕ) → (crash_at w s kept).sites ≡ w.sites
crash_sites w s kept = sites_by (is_origin (w.nodes s).role) w s kept

packets_by : (b : Bool) (w : World) (s kept : ℕ) → (if b then crash_left w s kept else with_node w s (crashed (w.nodes s) kept)).packets ≡ w.packets
packets_by true w s kept = refl
packets_by false w s kept = refl

-- a crash sends nothing
pub crash_packets : (w : World) (s kept : ℕ) → (crash_at w s kept).packets ≡ w.packets
crash_packets w s kept = packets_by (is_origin (w.nodes s).role) w s kept
