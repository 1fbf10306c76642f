-- What each event keeps of links, of the states of sites and of sites in doubt, but for those that make a site or a link, or crash a site.
use Rattle.std.proofs.Common.{◌≡◌, ◌∙◌, ℕ, zero, suc, ◌+◌, ◌<◌, List, [], ◌∷◌, ◌++◌, length, Bool, true, false, refl, ap, sym, subst, arith}
use Rattle.std.proofs.lemmas.Bool.{not-false, not-true, or_parts}
use Rattle.std.proofs.lemmas.Bool.Decides.{nat_tests}
use Rattle.std.specs.Prelude.{not, ◌&&◌, ◌||◌, eqb, leb, ltb, Option, Some, None, if◌then◌else◌}
use Rattle.vx_model.specs.Answer.{is_too_large}
use Rattle.vx_model.specs.Content.{Write as WriteBlocks, blocks_in, blocks_from}
use Rattle.vx_model.specs.Sites.{first_line, is_origin, is_up, is_bare, same_line}
use Rattle.vx_model.specs.Sizes.{is_raw_shape}
use Rattle.vx_model.specs.declared.limits.TheConstants.{MOST_LINKS, MOST_NUMBER}
use Rattle.vx_model.specs.declared.link.Prot.{Prot}
use Rattle.vx_model.specs.declared.link.Prot.TheVariants.{Fail as FailsWhenFull}
use Rattle.vx_model.specs.declared.link.SyncMode.{SyncMode}
use Rattle.vx_model.specs.declared.no.Counted.TheVariants.{Links, Number}
use Rattle.vx_model.specs.declared.no.Named.TheVariants.{Number as ByNumber}
use Rattle.vx_model.specs.declared.no.No.{No}
use Rattle.vx_model.specs.declared.no.No.TheVariants.{Device, Down as NotUp, Exists, Limit, Role as WrongRole, Size, Unconfirmed, Unknown}
use Rattle.vx_model.specs.declared.site.Mark.TheVariants.{Consistent}
use Rattle.vx_model.specs.declared.site.SPhase.TheVariants.{Quiet}
use Rattle.vx_model.specs.declared.site.SiteState.{SiteState}
use Rattle.vx_model.specs.declared.site.SiteState.TheVariants.{Bare, Up, Deported, Down}
use Rattle.vx_history.proofs.StateCases.{bare_is, up_is}
use Rattle.vx_history.proofs.Updates.{and_left, and_right, by_test, eqb_equal}
use Rattle.vx_history.specs.Admission.{Admitted, Goes, Held_by}
use Rattle.vx_history.specs.Events.{fall_from, acknowledged, admitted, applied, applied_by, apply_at, come_back, crash_at, delivered, receiver_facts, from_memory, gathered_if, greeting_back, group_again, group_from, handed, heard, is_plain_group, is_taken, joined, link_after, link_attached, link_detached, link_event, link_heard, link_left, link_marked, link_step, link_with, links_changed, links_marked, opened, packet_at, promises_of, put_in, reached_at, recover_from, recovered_at, recovery, restarted_link, taken_if, ticked_at, ticked_link, update_taken, waited, with_write, written_if}
use Rattle.vx_history.specs.Gatherings.{completes, emptied, gathered}
use Rattle.vx_history.specs.LinkForms.{plain_receiver, with_plain}
use Rattle.vx_history.specs.Receiving.{Received, phase_takes, received_step}
use Rattle.vx_history.specs.Refusals.{Outcome, sizes_meet, at_site, at_work, both_at_work, follows, holds_back, is_consistent, is_empty, is_fresh, is_primary, is_running, is_stale_mode, is_unconfirmed, keeps_links, count_links_of, may_link, refused, rings_fit, says, some_below, unless, when_live}
use Rattle.vx_history.specs.Sends.{is_linked, promising, sending, with_link, with_links}
use Rattle.vx_history.specs.Step.{done, joined_blocks, link_part, outcome_of}
use Rattle.vx_history.specs.Sound.{is_at_rest}
use Rattle.vx_history.specs.Steps.{burned, crash_left, crashed, deported_site, deported_world, fallen_site, fallen_world, group_back, group_made, group_set, group_up, half_written, logged, raw_made, raw_set, recovered, stopped_by, written}
use Rattle.vx_history.specs.World.{DataAck, Fuse, Hello, Link as LinkOf, Message, NetAck, Node, Packet, Update, World, with_node}
use Rattle.vx_history.specs.declared.event.Event.{Event}
use Rattle.vx_history.specs.declared.event.Event.TheVariants.{Site, Raw, Group, Volumes, Write, Read, Apply, Pump, Tick, Deliver, Connect, Cut, Pause, Resume, Wait, Link, Set, Attach, Detach, Crash, Deport, Fall, Recover, Fault}
use Rattle.vx_history.specs.declared.event.LinkPart.{LinkPart}
use Rattle.vx_history.specs.declared.event.LinkPart.TheVariants.{Joins, Made, Marked, Opened}
use Rattle.vx_history.specs.declared.event.Said.TheVariants.{DoneAt, Got, Ignored as IsIgnored, Pending, Refused}
use Rattle.vx_history.specs.declared.receiver.RAction.{RAction}
use Rattle.vx_history.specs.declared.receiver.RAction.TheVariants.{Nothing as DoesNothing, Ignored as Ignores, IgnoredAck, Take, DataAck as AcksFromDisk}
use Rattle.vx_history.specs.declared.receiver.REvent.TheVariants.{Applied, Restart as RestartSite, Update as HearUpdate}
use Rattle.vx_history.specs.declared.receiver.RState.{RState}
use Rattle.vx_history.specs.declared.sender.SEvent.{SEvent}
use Rattle.vx_history.specs.declared.sender.SEvent.TheVariants.{Connect as ConnectLink, Cut as CutLink, DataAck as HearDataAck, Hello as HearHello, NetAck as HearNetAck, Pause as PauseLink, Pump as PumpLink, Resume as ResumeLink}
use Rattle.vx_events.specs.LinksFit.{IsPlain, IsRested}
use Rattle.vx_history.specs.Volumes.{volumes_made, volumes_set}
use Rattle.vx_history.specs.declared.volumes.DataVolume.{DataVolume}
use Rattle.vx_effects.proofs.Links.{KeepsLink, keeps_restarted, keeps_left, keeps_marked, keeps_stepped, keeps_ticked, none_after, none_of, plain_after}
use Rattle.vx_effects.proofs.Moves.{All, Moves, Rests, Stays, StillKeeps, keeps_role, moves_alike, moves_kept, moves_like, moves_link, moves_node, moves_row, moves_same, moves_then}
use Rattle.vx_effects.proofs.Tests

-- the event makes no site and no link, and crashes or deports no site
abbrev pub IsSettled : Event → Type 0
IsSettled (Site name disks blocks) = ⊥
IsSettled (Raw s) = Unit {0}
IsSettled (Group s) = Unit {0}
IsSettled (Volumes s log xs) = Unit {0}
IsSettled (Write s volume start bytes fails) = Unit {0}
IsSettled (Read s volume start count) = Unit {0}
IsSettled (Apply s count reached) = Unit {0}
IsSettled (Pump p s) = Unit {0}
IsSettled (Tick p s) = Unit {0}
IsSettled (Deliver number) = Unit {0}
IsSettled (Connect p s) = Unit {0}
IsSettled (Cut p s) = Unit {0}
IsSettled (Pause p s) = Unit {0}
IsSettled (Resume p s) = Unit {0}
IsSettled (Wait p number) = Unit {0}
IsSettled (Link p s sync prot Joins) = Unit {0}
IsSettled (Link p s sync prot Made) = ⊥
IsSettled (Link p s sync prot Marked) = Unit {0}
IsSettled (Link p s sync prot Opened) = Unit {0}
IsSettled (Set p s sync prot) = prot ≡ FailsWhenFull
IsSettled (Attach p s) = Unit {0}
IsSettled (Detach p s) = Unit {0}
IsSettled (Crash s kept) = ⊥
IsSettled (Deport s) = ⊥
IsSettled (Fall s) = Unit {0}
IsSettled (Recover s fails) = Unit {0}
IsSettled (Fault s disk) = Unit {0}

halts : (n m : Node) → m.state ≡ n.state → is_running m.halted ≡ false → Stays n m
halts n m state halted = record { up = λ up. state ∙ up; halted = λ up h. halted }

not_up : (n m : Node) → (n.state ≡ Up → ⊥) → Stays n m
not_up n m never = record { up = λ up. absurd (never up); halted = λ up h. absurd (never up) }

keeps_after : (n : Node) (x : WriteBlocks) (s : ℕ) (l : LinkOf) → KeepsLink l (link_after n x s l)
keeps_after n x s l = record {
  made = refl;
  plain = λ p. subst IsPlain (sym (plain_after n x s l p)) p;
  none = λ e. none_after n x s l e ∙ e;
}

keeps_opened : (l : LinkOf) (head : ℕ) → is_linked l ≡ true → KeepsLink l (opened l head)
keeps_opened l head linked = record {
  made = refl;
  plain = λ p. record { prot = p.prot; mode = refl; bunker = p.bunker; trimmed = p.trimmed; map = p.map };
  none = none_of l (opened l head) linked;
}

keeps_set : (l : LinkOf) (sync : SyncMode) (prot : Prot) → prot ≡ FailsWhenFull → is_linked l ≡ true → KeepsLink l (link_with sync prot l)
keeps_set l sync prot fails linked = record {
  made = refl;
  plain = λ p. record { prot = fails; mode = p.mode; bunker = p.bunker; trimmed = p.trimmed; map = p.map };
  none = none_of l (link_with sync prot l) linked;
}

keeps_attached : (l : LinkOf) → is_linked l ≡ true → KeepsLink l (link_attached l)
keeps_attached l linked = record {
  made = refl;
  plain = λ p. record { prot = p.prot; mode = p.mode; bunker = p.bunker; trimmed = p.trimmed; map = p.map };
  none = none_of l (link_attached l) linked;
}

keeps_detached : (l : LinkOf) → is_linked l ≡ true → KeepsLink l (link_detached l)
keeps_detached l linked = record {
  made = refl;
  plain = λ p. record { prot = p.prot; mode = refl; bunker = p.bunker; trimmed = p.trimmed; map = λ volume region. refl };
  none = none_of l (link_detached l) linked;
}

-- what is written of a site leaves its phase and who feeds it
calm : {n m : Node} → (n.phase ≡ Quiet → m.phase ≡ Quiet) → (IsRested n → IsRested m) → Rests n m
calm quiet rests = record { quiet = quiet; rests = rests }

-- a site that is up may be fed by any
awake : (n m : Node) → m.state ≡ Up → (n.phase ≡ Quiet → m.phase ≡ Quiet) → Rests n m
awake n m up quiet = record { quiet = quiet; rests = λ _ down. let f : Up ≡ Down = sym up ∙ down in absurd (cc) }

-- ---- the links of a site that joins another line

less_than : (k n : ℕ) → k < suc n → eqb k n ≡ false → k < n
less_than k n less e = grind (arith, nat_tests)

none_in : (n : ℕ) (test : ℕ → Bool) → some_below n test ≡ false → (k : ℕ) → k < n → test k ≡ false
none_in zero test none k less = absurd (omega (arith, less))
none_in (suc n) test none k less =
    let split = or_parts (test n) (some_below n test) none in by_place split.0 (none_in n test split.1 k) (eqb k n) refl
  where
    by_place : test n ≡ false → (k < n → test k ≡ false) → (b : Bool) → eqb k n ≡ b → test k ≡ false
    by_place last rest true e = subst (λ (i : ℕ). test i ≡ false) (sym (eqb_equal k n e)) last
    by_place last rest false e = rest (less_than k n less e)

module _ (w : World) (p s : ℕ) where
  no_links : is_fresh w s ≡ true → (k : ℕ) → k < w.sites → is_linked (w.links s k) ≡ false
  no_links fresh =
      none_in w.sites (λ k. is_linked (w.links s k))
      (not-true (some_below w.sites (λ k. is_linked (w.links s k)))
      (and_right (is_empty (w.nodes s).log) (not (some_below w.sites (λ k. is_linked (w.links s k))))
      (and_right (is_primary (w.nodes s).role) (is_empty (w.nodes s).log && not (some_below w.sites (λ k. is_linked (w.links s k)))) fresh)))

  fresh_of : may_link w p s ≡ true → is_fresh w s ≡ true
  fresh_of may =
      let lined : Bool = same_line (w.nodes p).line (first_line p) in
      and_right lined (is_fresh w s)
      (and_right (is_empty (w.nodes p).log) (lined && is_fresh w s)
      (and_right (not (eqb s p)) (is_empty (w.nodes p).log && (lined && is_fresh w s))
      (and_right (is_primary (w.nodes p).role) (not (eqb s p) && (is_empty (w.nodes p).log && (lined && is_fresh w s))) may)))

  -- it keeps none, so its role need not keep any
  joins_without : may_link w p s ≡ true → StillKeeps w.sites (w.links s) (w.nodes s) (joined (w.nodes p) p (w.nodes s))
  joins_without may k below linked keeps = let f : true ≡ false = sym linked ∙ no_links (fresh_of may) k below in absurd (cc)

module _ (E : ℕ → Type 0) (w : World) where
  pub written_moves : (s : ℕ) (x : WriteBlocks) → Moves E w (written w s x)
  written_moves s x = moves_like E w (with_node w s (logged (w.nodes s) x)) (written w s x) refl (λ p. refl) (λ p k. refl)
      (moves_alike E w s (logged (w.nodes s) x) refl refl refl (calm (λ e. e) (λ e. e)))

  pub half_moves : (s : ℕ) (x : WriteBlocks) (disk : ℕ) → Moves E w (half_written w s x disk)
  half_moves s x disk =
      let n : Node = record (w.nodes s) { log = (w.nodes s).log ++ x ∷ []; halted = Some disk; fuse = burned (w.nodes s).fuse } in
      moves_node E w s n (λ b. b) (λ h b. b) (λ e. halts (w.nodes s) n refl refl) (keeps_role w.sites (w.links s) (w.nodes s) n refl) (calm (λ e. e) (λ e. e))

  pub changed_moves : (s : ℕ) (x : WriteBlocks) → Moves E w (links_changed w s x)
  changed_moves s x = moves_row E w s (λ k. link_after (w.nodes s) x k (w.links s k)) (λ k. keeps_after (w.nodes s) x k (w.links s k))

  pub marked_moves : (s : ℕ) (xs : List WriteBlocks) → Moves E w (links_marked w s xs)
  marked_moves s xs = moves_row E w s (λ k. link_marked xs (w.links s k)) (λ k. keeps_marked xs (w.links s k))

  pub stopped_moves : (s disk : ℕ) → Moves E w (stopped_by w s disk)
  stopped_moves s disk =
      let n : Node = record (w.nodes s) { halted = Some disk; fuse = burned (w.nodes s).fuse } in
      moves_node E w s n (λ b. b) (λ h b. b) (λ e. halts (w.nodes s) n refl refl) (keeps_role w.sites (w.links s) (w.nodes s) n refl) (calm (λ e. e) (λ e. e))

  pub raw_moves : (s : ℕ) → s < w.sites → (w.nodes s).state ≡ Bare → Moves E w (raw_made w s)
  raw_moves s below bare =
      let n : Node = raw_set s (w.nodes s) in
      moves_like E w (with_node w s n) (raw_made w s) refl (λ p. refl) (λ p k. refl)
      (moves_node E w s n (λ b. bare) (λ h b. absurd (omega (arith, below, h))) (λ e. not_up (w.nodes s) n (λ up. let f : Up ≡ Bare = sym up ∙ bare in cc))
      (λ k _ _ _. refl) (awake (w.nodes s) n refl (λ e. e)))

  pub group_moves : (s : ℕ) → s < w.sites → (w.nodes s).state ≡ Bare → Moves E w (group_made w s)
  group_moves s below bare =
      let n : Node = group_set s (w.nodes s) in
      moves_like E w (with_node w s n) (group_made w s) refl (λ p. refl) (λ p k. refl)
      (moves_node E w s n (λ b. bare) (λ h b. absurd (omega (arith, below, h))) (λ e. not_up (w.nodes s) n (λ up. let f : Up ≡ Bare = sym up ∙ bare in cc))
      (λ k _ _ _. refl) (awake (w.nodes s) n refl (λ e. e)))

  -- a group that is at rest and comes up again
  pub back_moves : (s : ℕ) → is_at_rest (w.nodes s).state ≡ true → Moves E w (group_back w s)
  back_moves s rest =
      let n : Node = group_up (w.nodes s) in
      moves_node E w s n (λ b. let f : Up ≡ Bare = b in absurd (cc)) (λ h b. let f : false ≡ true = sym (ap is_at_rest b) ∙ rest in absurd (cc))
      (λ e. not_up (w.nodes s) n (λ up. let f : false ≡ true = sym (ap is_at_rest up) ∙ rest in cc))
      (keeps_role w.sites (w.links s) (w.nodes s) n refl) (awake (w.nodes s) n refl (λ e. e))

  -- a group of disks that gets its replicated volume group
  pub volumes_moves : (s log : ℕ) (xs : List DataVolume) → Moves E w (volumes_made w s log xs)
  volumes_moves s log xs =
      moves_like E w (with_node w s (volumes_set log xs (w.nodes s))) (volumes_made w s log xs) refl (λ p. refl) (λ p k. refl)
      (moves_alike E w s (volumes_set log xs (w.nodes s)) refl refl refl (calm (λ e. e) (λ e. e)))

  -- a site that is down and gives its disks up
  pub deported_moves : (s : ℕ) (fuse : Fuse) → (w.nodes s).state ≡ Down → Moves E w (deported_world fuse w s)
  deported_moves s fuse down =
      let n : Node = deported_site fuse (w.nodes s) in
      moves_node E w s n (λ b. let f : Deported ≡ Bare = b in absurd (cc)) (λ h b. let f : Down ≡ Bare = sym down ∙ b in absurd (cc))
      (λ e. not_up (w.nodes s) n (λ up. let f : Up ≡ Down = sym up ∙ down in cc))
      (keeps_role w.sites (w.links s) (w.nodes s) n refl) (calm (λ e. e) (λ _ d. let f : Deported ≡ Down = d in absurd (cc)))

  -- one that gave them up is down
  pub fallen_moves : (s : ℕ) → (w.nodes s).state ≡ Deported → Moves E w (fallen_world w s)
  fallen_moves s away =
      let n : Node = fallen_site (w.nodes s) in
      moves_node E w s n (λ b. let f : Down ≡ Bare = b in absurd (cc)) (λ h b. let f : Deported ≡ Bare = sym away ∙ b in absurd (cc))
      (λ e. not_up (w.nodes s) n (λ up. let f : Up ≡ Deported = sym up ∙ away in cc))
      (keeps_role w.sites (w.links s) (w.nodes s) n refl) (calm (λ e. e) (λ _ _. refl))

  pub linked_moves : (p s : ℕ) (l : LinkOf) → KeepsLink (w.links p s) l → (v : World) → v.sites ≡ w.sites → ((i : ℕ) → v.nodes i ≡ w.nodes i)
      → ((i k : ℕ) → v.links i k ≡ (with_link w p s l).links i k) → Moves E w v
  linked_moves p s l keeps v sites nodes links = moves_like E w (with_link w p s l) v sites nodes links (moves_link E w p s l keeps)

  pub event_moves : (p s : ℕ) (e : SEvent) → is_linked (w.links p s) ≡ true → Moves E w (link_event w p s e)
  event_moves p s e linked =
      linked_moves p s (with_plain (w.links p s) (link_step w p s e).link) (keeps_stepped s (w.links p s) e _ linked) (link_event w p s e) refl (λ i. refl) (λ i k. refl)

  -- a site that comes up was down or deported
  back_up : (n : Node) → (come_back n).state ≡ Up
  back_up n =
      let r : RState = (received_step (plain_receiver n) (RestartSite (length n.log) (n.session + 1))).state in
      by_test (λ (m : Node). m.state ≡ Up) (is_origin n.role) (recovered n) (record (recovered n) { session = r.session; mark = r.mark }) (λ _. refl) (λ _. refl)

  -- it has the role that it had, and comes to no replay
  same_role : (n : Node) → (come_back n).role ≡ n.role
  same_role n =
      let r : RState = (received_step (plain_receiver n) (RestartSite (length n.log) (n.session + 1))).state in
      by_test (λ (m : Node). m.role ≡ n.role) (is_origin n.role) (recovered n) (record (recovered n) { session = r.session; mark = r.mark }) (λ _. refl) (λ _. refl)

  same_phase : (n : Node) → (come_back n).phase ≡ n.phase
  same_phase n =
      let r : RState = (received_step (plain_receiver n) (RestartSite (length n.log) (n.session + 1))).state in
      by_test (λ (m : Node). m.phase ≡ n.phase) (is_origin n.role) (recovered n) (record (recovered n) { session = r.session; mark = r.mark }) (λ _. refl) (λ _. refl)

  pub recovered_moves : (s : ℕ) → is_at_rest (w.nodes s).state ≡ true → Moves E w (recovered_at w s)
  recovered_moves s rest =
      let n : Node = come_back (w.nodes s) in
      let up : n.state ≡ Up = back_up (w.nodes s) in
      let v : World = with_node w s n in
      let u : World = with_links v s (λ to. restarted_link n to (w.links s to)) in
      moves_like E w u (recovered_at w s) refl (λ p. refl) (λ p k. refl)
      (moves_then E w v u
      (moves_node E w s n (λ b. let f : Up ≡ Bare = sym up ∙ b in absurd (cc)) (λ h b. let f : false ≡ true = sym (ap is_at_rest b) ∙ rest in absurd (cc))
      (λ e. not_up (w.nodes s) n (λ up. let f : false ≡ true = sym (ap is_at_rest up) ∙ rest in cc))
      (keeps_role w.sites (w.links s) (w.nodes s) n (same_role (w.nodes s))) (awake (w.nodes s) n up (λ e. same_phase (w.nodes s) ∙ e)))
      (moves_row E v s (λ to. restarted_link n to (w.links s to)) (λ k. keeps_restarted n k (w.links s k))))

-- a site that goes down is in doubt no more
abbrev pub Apart : ℕ → ℕ → Type 0
Apart s p = p ≡ s → ⊥

pub crash_moves : (w : World) (s k : ℕ) → (w.nodes s).state ≡ Up → Moves (Apart s) w (crash_at w s k)
crash_moves w s k up =
    let n : Node = crashed (w.nodes s) k in
    let row : ℕ → LinkOf = λ to. link_left (w.nodes s) k (w.links s to) in
    let v : World = with_node w s n in
    let u : World = with_links v s row in
    let moves : Moves (Apart s) w u =
    moves_then (Apart s) w v u
    (moves_node (Apart s) w s n (λ b. let f : Down ≡ Bare = b in absurd (cc)) (λ h b. let f : Up ≡ Bare = sym up ∙ b in absurd (cc)) (λ e. absurd (e refl))
    (keeps_role w.sites (w.links s) (w.nodes s) n refl) (calm (λ e. e) (λ _ _. refl)))
    (moves_row (Apart s) v s row (λ j. keeps_left (w.nodes s) k (w.links s j))) in
    by_test (λ (x : World). Moves (Apart s) w (emptied (with_links x s row) s)) (is_origin (w.nodes s).role) (crash_left w s k) (with_node w s n)
    (λ _. moves_like (Apart s) w u (emptied (with_links (crash_left w s k) s row) s) refl (λ p. refl) (λ p j. refl) moves)
    (λ _. moves_like (Apart s) w u (emptied (with_links (with_node w s n) s row) s) refl (λ p. refl) (λ p j. refl) moves)

-- ---- the events, behind their tests

module _ (w : World) where
  abbrev Leaves : Outcome → Type 0
  Leaves o = Moves All w o.world

  refusals : (why : No) → Leaves (refused w why)
  refusals why = moves_same All w

  put_moves : (s : ℕ) (x : WriteBlocks) (fails : Option ℕ) → Leaves (put_in (links_changed w s x) s x fails)
  put_moves s x None =
      let u : World = links_changed w s x in
      let v : World = links_marked u s (x ∷ []) in
      moves_then All w u (written v s x) (changed_moves All w s x) (moves_then All u v (written v s x) (marked_moves All u s (x ∷ [])) (written_moves All v s x))
  put_moves s x (Some disk) =
      moves_then All w (links_changed w s x) (half_written (links_changed w s x) s x disk) (changed_moves All w s x) (half_moves All (links_changed w s x) s x disk)

  written_if_moves : (a : Admitted) (s : ℕ) (x : WriteBlocks) (fails : Option ℕ) → Leaves (written_if a w s x fails)
  written_if_moves (Held_by why) s x fails = moves_same All w
  written_if_moves (Goes changes) s x fails =
      Tests.unless_ends Leaves w refusals (leb MOST_NUMBER (w.nodes s).safe) (Limit Number MOST_NUMBER) (put_in (links_changed w s x) s x fails) (λ _. put_moves s x fails)

  applied_moves : (s : ℕ) (r : RState) (a : RAction) → Leaves (applied_by w s r a)
  applied_moves s r DoesNothing = moves_same All w
  applied_moves s r Ignores = moves_same All w
  applied_moves s r (IgnoredAck number) = moves_same All w
  applied_moves s r (Take number) = moves_same All w
  applied_moves s r (AcksFromDisk number) =
      let n : Node = applied (w.nodes s) number r.mark in
      moves_like All w (with_node w s n) (acknowledged w s n) refl (λ p. refl) (λ p k. refl) (moves_alike All w s n refl refl refl (calm (λ e. e) (λ e. e)))

  recovery_moves : (s : ℕ) (fails : Option ℕ) → is_at_rest (w.nodes s).state ≡ true → Leaves (recovery w s fails)
  recovery_moves s None rest = recovered_moves All w s rest
  recovery_moves s (Some disk) rest = moves_alike All w s (record (w.nodes s) { session = (w.nodes s).session + 1 }) refl refl refl (calm (λ e. e) (λ e. e))

  again_moves : (s : ℕ) → is_at_rest (w.nodes s).state ≡ true → Leaves (group_again w s)
  again_moves s rest =
      Tests.unless_ends Leaves w refusals (not (is_plain_group (w.nodes s))) WrongRole (done (group_back w s)) (λ _. back_moves All w s rest)

  group_from_moves : (state : SiteState) (s : ℕ) → s < w.sites → (w.nodes s).state ≡ state → Leaves (group_from state w s)
  group_from_moves Bare s below e = group_moves All w s below e
  group_from_moves Up s below e = moves_same All w
  group_from_moves Deported s below e = again_moves s (ap is_at_rest e)
  group_from_moves Down s below e = again_moves s (ap is_at_rest e)

  fall_moves : (state : SiteState) (s : ℕ) → (w.nodes s).state ≡ state → Leaves (fall_from state w s)
  fall_moves Bare s e = moves_same All w
  fall_moves Up s e = moves_same All w
  fall_moves Deported s e = fallen_moves All w s e
  fall_moves Down s e = moves_same All w

  recover_moves : (state : SiteState) (s : ℕ) (fails : Option ℕ) → (w.nodes s).state ≡ state → Leaves (recover_from state w s fails)
  recover_moves Bare s fails e = moves_same All w
  recover_moves Up s fails e = moves_same All w
  recover_moves Deported s fails e =
      Tests.unless_ends Leaves w refusals (leb MOST_NUMBER (w.nodes s).session) (Limit Number MOST_NUMBER) (recovery w s fails) (λ _. recovery_moves s fails (ap is_at_rest e))
  recover_moves Down s fails e =
      Tests.unless_ends Leaves w refusals (leb MOST_NUMBER (w.nodes s).session) (Limit Number MOST_NUMBER) (recovery w s fails) (λ _. recovery_moves s fails (ap is_at_rest e))

  -- packets that are delivered
  heard_by_link : (p : Packet) (e : SEvent) → Leaves (link_heard w p e)
  heard_by_link p e =
      let l : LinkOf = w.links p.target p.source in
      by_test Leaves (keeps_links (w.nodes p.target).role && is_linked l) _ (says w IsIgnored)
      (λ both. moves_link All w p.target p.source _ (keeps_stepped p.source l e _ (and_right (keeps_links (w.nodes p.target).role) (is_linked l) both)))
      (λ _. moves_same All w)

  taken_moves : (whole : Bool) (p : Packet) (x : WriteBlocks) (number : ℕ) → (w.nodes p.target).state ≡ Up → Leaves (taken_if whole w p x number)
  taken_moves true p x number up =
      let n : Node = with_write (w.nodes p.target) p.source x in
      moves_like All w (with_node w p.target n) (taken_if true w p x number).world refl (λ i. refl) (λ i k. refl)
      (moves_alike All w p.target n refl refl refl (awake (w.nodes p.target) n up (λ e. e)))
  taken_moves false p x number up = moves_same All w

  update_moves : (p : Packet) (x : WriteBlocks) (a : RAction) → (w.nodes p.target).state ≡ Up → Leaves (update_taken w p x a)
  update_moves p x DoesNothing up = moves_same All w
  update_moves p x Ignores up = moves_same All w
  update_moves p x (IgnoredAck number) up = moves_like All w w (from_memory w (w.nodes p.target) p number) refl (λ i. refl) (λ i k. refl) (moves_same All w)
  update_moves p x (Take number) up = taken_moves (completes (w.gathering p.target) p) p x number up
  update_moves p x (AcksFromDisk number) up = moves_same All w

  heard_moves : (p : Packet) (m : Message) → (w.nodes p.target).state ≡ Up → Leaves (heard w p m)
  heard_moves p (Hello session number stored) up = heard_by_link p (HearHello session number stored)
  heard_moves p (Update number x) up =
      by_test Leaves (is_origin (w.nodes p.target).role) (says w IsIgnored) _ (λ _. moves_same All w)
      (λ _. update_moves p x (received_step (plain_receiver (w.nodes p.target)) (HearUpdate p.line number)).action up)
  heard_moves p (NetAck session number) up = heard_by_link p (HearNetAck session number)
  heard_moves p (DataAck number) up = heard_by_link p (HearDataAck number)

  handed_moves : (p : Packet) → Leaves (handed w p)
  handed_moves p =
      by_test Leaves (is_up (w.nodes p.target).state && is_running (w.nodes p.target).halted) (heard w p p.message) (says w IsIgnored)
      (λ both. heard_moves p p.message (up_is (w.nodes p.target).state (and_left (is_up (w.nodes p.target).state) (is_running (w.nodes p.target).halted) both)))
      (λ _. moves_same All w)

  gathered_moves : (b : Bool) (v : World) (p : Packet) → Moves All w v → Moves All w (gathered_if b v p)
  gathered_moves true v p m = moves_like All w v (gathered v p) refl (λ i. refl) (λ i k. refl) m
  gathered_moves false v p m = m

  delivered_moves : (number : ℕ) (p : Option Packet) → Leaves (delivered w number p)
  delivered_moves number None = moves_same All w
  delivered_moves number (Some p) = gathered_moves (is_taken (handed w p).said) (handed w p).world p (handed_moves p)

  -- the parts of a line that links
  part_moves : (part : LinkPart) (p s : ℕ) (sync : SyncMode) (prot : Prot) → IsSettled (Link p s sync prot part) → Leaves (link_part part w p s sync prot)
  part_moves Joins p s sync prot one =
      let n : Node = joined (w.nodes p) p (w.nodes s) in
      let o : Outcome = done (emptied (with_node w s n) s) in
      let sized : Outcome = unless (not (sizes_meet (w.nodes p).volumes (w.nodes s).volumes && rings_fit (w.nodes p) (w.nodes s))) Size w o in
      let few : Outcome = unless (leb MOST_LINKS (count_links_of w p)) (Limit Links MOST_LINKS) w sized in
      let free : Outcome = unless (is_linked (w.links p s)) (Exists (w.nodes s).name) w few in
      Tests.unless_ends Leaves w refusals (not (may_link w p s)) WrongRole free
      (λ may. Tests.unless_ends Leaves w refusals (is_linked (w.links p s)) (Exists (w.nodes s).name) few
      (λ _. Tests.unless_ends Leaves w refusals (leb MOST_LINKS (count_links_of w p)) (Limit Links MOST_LINKS) sized
      (λ _. Tests.unless_ends Leaves w refusals (not (sizes_meet (w.nodes p).volumes (w.nodes s).volumes && rings_fit (w.nodes p) (w.nodes s))) Size o
      (λ _. moves_like All w (with_node w s n) (emptied (with_node w s n) s) refl (λ i. refl) (λ i k. refl)
      (moves_kept All w s n refl refl (joins_without w p s (not-false (may_link w p s) may)) (calm (λ _. refl) (λ _ _. refl)))))))
  part_moves Made p s sync prot one = absurd one
  part_moves Marked p s sync prot one =
      Tests.unless_ends Leaves w refusals _ WrongRole _ (λ _. moves_alike All w s (record (w.nodes s) { mark = Consistent }) refl refl refl (calm (λ e. e) (λ e. e)))
  part_moves Opened p s sync prot one =
      let l : LinkOf = w.links p s in
      let rest : Bool = is_empty (w.nodes p).log && (is_stale_mode l.mode && (phase_takes (w.nodes s).phase && is_consistent (w.nodes s).mark)) in
      Tests.unless_ends Leaves w refusals (not (is_primary (w.nodes p).role && (follows w p s && (is_linked l && rest)))) WrongRole
      (done (with_link w p s (opened l (w.nodes p).safe)))
      (λ e. moves_link All w p s (opened l (w.nodes p).safe) (keeps_opened l (w.nodes p).safe (third (is_primary (w.nodes p).role) (follows w p s) (is_linked l) rest e)))
    where
      third : (a b c d : Bool) → not (a && (b && (c && d))) ≡ false → c ≡ true
      third true true true d e = refl
      third true true false d e = absurd (cc)
      third true false c d e = absurd (cc)
      third false b c d e = absurd (cc)

  waited_moves : (p number : ℕ) → Leaves (waited w p number)
  waited_moves p number =
      let last : Outcome = (if some_below w.sites (λ k. holds_back number k (w.links p k)) then says w (Pending number) else says (promising w (promises_of (w.nodes p) number (w.links p) w.sites)) (DoneAt number)) in
      let confirmed : Outcome = unless (some_below w.sites (λ k. is_unconfirmed number k (w.links p k))) (Unconfirmed number) w last in
      Tests.unless_ends Leaves w refusals (eqb number 0 || ltb (w.nodes p).safe number) (Unknown (ByNumber number)) confirmed
      (λ _. Tests.unless_ends Leaves w refusals (some_below w.sites (λ k. is_unconfirmed number k (w.links p k))) (Unconfirmed number) last
      (λ _. by_test Leaves (some_below w.sites (λ k. holds_back number k (w.links p k))) (says w (Pending number))
      (says (promising w (promises_of (w.nodes p) number (w.links p) w.sites)) (DoneAt number)) (λ _. moves_same All w)
      (λ _. moves_like All w w (promising w (promises_of (w.nodes p) number (w.links p) w.sites)) refl (λ i. refl) (λ i k. refl) (moves_same All w))))

  pub outcome_moves : (e : Event) → IsSettled e → Leaves (outcome_of w e)
  outcome_moves (Site name disks blocks) one = absurd one
  outcome_moves (Raw s) one =
      let o : Outcome = done (raw_made w s) in
      let sized : Outcome = unless (not (is_raw_shape (w.nodes s).disks (w.nodes s).blocks)) Size w o in
      Tests.site_ends Leaves w refusals s (unless (not (is_bare (w.nodes s).state)) WrongRole w sized)
      (λ below. Tests.unless_ends Leaves w refusals (not (is_bare (w.nodes s).state)) WrongRole sized
      (λ bare. Tests.unless_ends Leaves w refusals (not (is_raw_shape (w.nodes s).disks (w.nodes s).blocks)) Size o
      (λ _. raw_moves All w s below (bare_is (w.nodes s).state (not-false (is_bare (w.nodes s).state) bare)))))
  outcome_moves (Group s) one =
      Tests.site_ends Leaves w refusals s (group_from (w.nodes s).state w s) (λ below. group_from_moves (w.nodes s).state s below refl)
  outcome_moves (Volumes s log xs) one =
      let o : Outcome = done (volumes_made w s log xs) in
      let tested : Outcome = unless (not (is_plain_group (w.nodes s))) WrongRole w o in
      Tests.site_ends Leaves w refusals s (at_work w s tested)
      (λ _. Tests.work_ends Leaves w refusals s tested
      (λ _ _. Tests.unless_ends Leaves w refusals (not (is_plain_group (w.nodes s))) WrongRole o (λ _. volumes_moves All w s log xs)))
  outcome_moves (Write s volume start bytes fails) one =
      let x : WriteBlocks = record { volume = volume; start = start; bytes = bytes } in
      Tests.volume_ends Leaves w refusals s volume start (blocks_in bytes) (is_too_large (w.nodes s).ring (blocks_in bytes)) (written_if (admitted w s x) w s x fails)
      (λ _. written_if_moves (admitted w s x) s x fails)
  outcome_moves (Read s volume start count) one =
      Tests.volume_ends Leaves w refusals s volume start count false (says w (Got (joined_blocks (blocks_from (w.nodes s).base volume start count)))) (λ _. moves_same All w)
  outcome_moves (Apply s count reached) one =
      let o : Outcome = (if is_origin (w.nodes s).role then reached_at w s count reached else apply_at w s count) in
      let r : Received = received_step (plain_receiver (w.nodes s)) (Applied count) in
      Tests.site_ends Leaves w refusals s (at_work w s o)
      (λ _. Tests.work_ends Leaves w refusals s o
      (λ _ _. by_test Leaves (is_origin (w.nodes s).role) (reached_at w s count reached) (apply_at w s count) (λ _. moves_same All w) (λ _. applied_moves s r.state r.action)))
  outcome_moves (Pump p s) one =
      Tests.link_ends Leaves w refusals keeps_links p s (when_live w s (w.links p s) (done (link_event w p s PumpLink)))
      (λ _ linked. Tests.live_ends Leaves w refusals s (w.links p s) (done (link_event w p s PumpLink)) (event_moves All w p s PumpLink linked))
  outcome_moves (Tick p s) one =
      Tests.link_ends Leaves w refusals keeps_links p s (done (ticked_at w p s)) (λ _ linked. moves_link All w p s (ticked_link w p s) (keeps_ticked s (w.links p s) (receiver_facts (w.nodes p) (w.nodes p).line) linked))
  outcome_moves (Deliver number) one = delivered_moves number (packet_at w.packets number)
  outcome_moves (Connect p s) one =
      Tests.link_ends Leaves w refusals keeps_links p s (done (sending (link_event w p s ConnectLink) (greeting_back w p s)))
      (λ _ linked. moves_like All w (link_event w p s ConnectLink) (sending (link_event w p s ConnectLink) (greeting_back w p s)) refl (λ i. refl) (λ i k. refl)
      (event_moves All w p s ConnectLink linked))
  outcome_moves (Cut p s) one = Tests.link_ends Leaves w refusals keeps_links p s (done (link_event w p s CutLink)) (λ _ linked. event_moves All w p s CutLink linked)
  outcome_moves (Pause p s) one = Tests.link_ends Leaves w refusals keeps_links p s (done (link_event w p s PauseLink)) (λ _ linked. event_moves All w p s PauseLink linked)
  outcome_moves (Resume p s) one = Tests.link_ends Leaves w refusals keeps_links p s (done (link_event w p s ResumeLink)) (λ _ linked. event_moves All w p s ResumeLink linked)
  outcome_moves (Wait p number) one =
      let led : Outcome = unless (not (is_origin (w.nodes p).role)) WrongRole w (waited w p number) in
      Tests.site_ends Leaves w refusals p (at_work w p led)
      (λ _. Tests.work_ends Leaves w refusals p led
      (λ _ _. Tests.unless_ends Leaves w refusals (not (is_origin (w.nodes p).role)) WrongRole (waited w p number) (λ _. waited_moves p number)))
  outcome_moves (Link p s sync prot part) one =
      let o : Outcome = link_part part w p s sync prot in
      Tests.site_ends Leaves w refusals p (at_site w s (both_at_work w p s o))
      (λ _. Tests.site_ends Leaves w refusals s (both_at_work w p s o)
      (λ _. Tests.both_ends Leaves w refusals p s o (λ _ _ _ _. part_moves part p s sync prot one)))
  outcome_moves (Set p s sync prot) one =
      Tests.link_ends Leaves w refusals is_origin p s (done (with_link w p s (link_with sync prot (w.links p s))))
      (λ _ linked. moves_link All w p s (link_with sync prot (w.links p s)) (keeps_set (w.links p s) sync prot one linked))
  outcome_moves (Attach p s) one =
      Tests.link_ends Leaves w refusals is_origin p s (done (with_link w p s (link_attached (w.links p s))))
      (λ _ linked. moves_link All w p s (link_attached (w.links p s)) (keeps_attached (w.links p s) linked))
  outcome_moves (Detach p s) one =
      Tests.link_ends Leaves w refusals is_origin p s (done (with_link w p s (link_detached (w.links p s))))
      (λ _ linked. moves_link All w p s (link_detached (w.links p s)) (keeps_detached (w.links p s) linked))
  outcome_moves (Crash s kept) one = absurd one
  outcome_moves (Deport s) one = absurd one
  outcome_moves (Fall s) one = Tests.site_ends Leaves w refusals s (fall_from (w.nodes s).state w s) (λ below. fall_moves (w.nodes s).state s refl)
  outcome_moves (Recover s fails) one =
      Tests.site_ends Leaves w refusals s (recover_from (w.nodes s).state w s fails) (λ _. recover_moves (w.nodes s).state s fails refl)
  outcome_moves (Fault s disk) one =
      let o : Outcome = says (stopped_by w s disk) (Refused (Device disk)) in
      Tests.site_ends Leaves w refusals s (unless (not (is_up (w.nodes s).state)) NotUp w o)
      (λ _. Tests.unless_ends Leaves w refusals (not (is_up (w.nodes s).state)) NotUp o (λ _. stopped_moves All w s disk))
