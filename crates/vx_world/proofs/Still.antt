-- A halted site stands still: no event changes it or its links, but a crash, and a disk that halts it again.
use Rattle.std.proofs.Common.{◌≡◌, ◌∙◌, ℕ, ◌<◌, List, [], ◌∷◌, ap, sym, refl, arith, Bool, true, false}
use Rattle.std.proofs.lemmas.Bool.{not-false}
use Rattle.std.specs.Prelude.{length, Option, Some, None, not, ◌&&◌, ◌||◌, eqb, leb, ltb, bytes_eq}
use Rattle.vx_model.specs.Content.{Write as LogWrite, blocks_in}
use Rattle.vx_model.specs.Answer.{is_too_large, is_wrong_count, is_past}
use Rattle.vx_model.specs.Sites.{is_origin, is_up, is_bare}
use Rattle.vx_model.specs.Sizes.{is_raw_shape}
use Rattle.vx_model.specs.declared.limits.TheConstants.{MOST_DISKS, MOST_LINKS, MOST_NUMBER, MOST_SITES}
use Rattle.vx_model.specs.declared.link.Prot.{Prot}
use Rattle.vx_model.specs.declared.link.SyncMode.{SyncMode}
use Rattle.vx_model.specs.declared.no.No.{No}
use Rattle.vx_model.specs.declared.no.No.TheVariants.{Role as WrongRole, Down as NotUp, Unknown}
use Rattle.vx_model.specs.declared.no.Named.TheVariants.{Number as ByNumber}
use Rattle.vx_model.specs.declared.site.Mark.TheVariants.{Consistent}
use Rattle.vx_model.specs.declared.site.Role.{Role}
use Rattle.vx_model.specs.declared.site.SiteState.{SiteState}
use Rattle.vx_model.specs.declared.site.SiteState.TheVariants.{Bare, Up, Deported, Down}
use Rattle.vx_history.proofs.StateCases.{bare_is}
use Rattle.vx_history.proofs.Updates.{by_test}
use Rattle.vx_history.specs.Volumes.{volumes_set}
use Rattle.vx_history.specs.Admission.{Admitted, Held_by, Goes}
use Rattle.vx_history.specs.Events
use Rattle.vx_history.specs.Gatherings.{completes}
use Rattle.vx_history.specs.LinkForms.{plain_receiver, with_plain}
use Rattle.vx_history.specs.Receiving.{Received, received_step, phase_takes}
use Rattle.vx_history.specs.Refusals.{Outcome, says, unless, unless_halted, at_site, at_work, both_at_work, on_link_if, on_volume, keeps_links, is_primary, is_consistent, is_stale_mode, is_empty, is_running, is_unconfirmed, holds_back, follows, some_below, may_link, sizes_meet, rings_fit, count_links_of}
use Rattle.vx_history.specs.Sending.{Sent}
use Rattle.vx_history.specs.Sends.{is_linked, with_links, with_link, sending, sent_by}
use Rattle.vx_history.specs.Step.{outcome_of, step, link_part}
use Rattle.vx_history.specs.Steps.{raw_set, group_set, group_up, logged, crashed, crash_left, deported_site, fallen_site}
use Rattle.vx_history.specs.World.{World, Node, Link as LinkRecord, History, Gathering, Packet, Message, Hello, Update, NetAck, DataAck, with_node, with_history, bare_site, updated}
use Rattle.vx_history.specs.declared.event.Event.{Event}
use Rattle.vx_history.specs.declared.event.Event.TheVariants.{Site, Raw, Group, Volumes, Write as WriteAt, Read, Apply, Pump, Tick, Deliver, Connect, Cut, Pause, Resume, Wait, Link, Set, Attach, Detach, Crash, Deport, Fall, Recover, Fault}
use Rattle.vx_history.specs.declared.event.LinkPart.{LinkPart}
use Rattle.vx_history.specs.declared.event.LinkPart.TheVariants.{Joins, Made, Marked, Opened}
use Rattle.vx_history.specs.declared.event.Said.TheVariants.{Ignored as IsIgnored, Pending}
use Rattle.vx_history.specs.declared.receiver.RAction.{RAction}
use Rattle.vx_history.specs.declared.receiver.RAction.TheVariants as act
use Rattle.vx_history.specs.declared.receiver.REvent.TheVariants.{Update as HearUpdate, Applied}
use Rattle.vx_history.specs.declared.receiver.RState.{RState}
use Rattle.vx_history.specs.declared.sender.SEvent.{SEvent}
use Rattle.vx_history.specs.declared.sender.SEvent.TheVariants.{Pump as PumpLink, Connect as ConnectLink, Cut as CutLink, Pause as PauseLink, Resume as ResumeLink, Hello as HearHello, NetAck as HearNetAck, DataAck as HearDataAck}
use Rattle.vx_world.specs.Twins.{IsElsewhere}
use Rattle.vx_world.proofs.Halving.{aside}

-- the site and its links are as they were
pub record Stands (s : ℕ) (w v : World) : Type 0 where
  pub node : v.nodes s ≡ w.nodes s
  pub row : v.links s ≡ w.links s

-- a site that is up and that a disk has halted
module _ (s : ℕ) (w : World) (up : (w.nodes s).state ≡ Up) (halted : is_running (w.nodes s).halted ≡ false) where
  abbrev pub Leaves : Outcome → Type 0
  Leaves o = Stands s w o.world

  pub same : Stands s w w
  same = record { node = refl; row = refl }

  -- a site that runs is another one
  runs_apart : (p : ℕ) → (w.nodes p).halted ≡ None → s ≡ p → ⊥
  runs_apart p none e =
      let g : is_running (w.nodes s).halted ≡ true = ap (λ (i : ℕ). is_running (w.nodes i).halted) e ∙ ap is_running none in
      let h : true ≡ false = sym g ∙ halted in absurd (cc)

  tested : (b : Bool) (why : No) (o : Outcome) → (b ≡ false → Leaves o) → Leaves (unless b why w o)
  tested true why o is = same
  tested false why o is = is refl

  running : (h : Option ℕ) (o : Outcome) → (h ≡ None → Leaves o) → Leaves (unless_halted h w o)
  running None o is = is refl
  running (Some disk) o is = same

  at_work_still : (p : ℕ) (o : Outcome) → ((s ≡ p → ⊥) → Leaves o) → Leaves (at_work w p o)
  at_work_still p o is = tested (not (is_up (w.nodes p).state)) NotUp (unless_halted (w.nodes p).halted w o)
      (λ _. running (w.nodes p).halted o (λ none. is (runs_apart p none)))

  site_still : (p : ℕ) (o : Outcome) → Leaves o → Leaves (at_site w p o)
  site_still p o is = tested (leb w.sites p) (Unknown (ByNumber p)) o (λ _. is)

  work_still : (p : ℕ) (o : Outcome) → ((s ≡ p → ⊥) → Leaves o) → Leaves (at_site w p (at_work w p o))
  work_still p o is = site_still p (at_work w p o) (at_work_still p o is)

  link_still : (test : Role → Bool) (p q : ℕ) (o : Outcome) → ((s ≡ p → ⊥) → Leaves o) → Leaves (on_link_if test w p q o)
  link_still test p q o is =
      let linked : Outcome = unless (not (is_linked (w.links p q))) (Unknown (ByNumber q)) w o in
      let tests : Outcome = unless (not (test (w.nodes p).role)) WrongRole w linked in
      site_still p (at_site w q (at_work w p tests))
      (site_still q (at_work w p tests)
      (at_work_still p tests
      (λ apart. tested (not (test (w.nodes p).role)) WrongRole linked
      (λ _. tested (not (is_linked (w.links p q))) (Unknown (ByNumber q)) o (λ _. is apart)))))

  both_still : (p q : ℕ) (o : Outcome) → ((s ≡ p → ⊥) → (s ≡ q → ⊥) → Leaves o) → Leaves (at_site w p (at_site w q (both_at_work w p q o)))
  both_still p q o is =
      site_still p (at_site w q (both_at_work w p q o))
      (site_still q (both_at_work w p q o)
      (tested (not (is_up (w.nodes p).state && is_up (w.nodes q).state)) NotUp (unless_halted (w.nodes p).halted w (unless_halted (w.nodes q).halted w o))
      (λ _. running (w.nodes p).halted (unless_halted (w.nodes q).halted w o)
      (λ here. running (w.nodes q).halted o (λ there. is (runs_apart p here) (runs_apart q there))))))

  -- another site, or links of another one, change
  node_still : (p : ℕ) (n : Node) → (s ≡ p → ⊥) → Stands s w (with_node w p n)
  node_still p n apart = record { node = aside w.nodes p n s apart; row = refl }

  history_still : (p : ℕ) (n : Node) (h : History) → (s ≡ p → ⊥) → Stands s w (with_history w p n h)
  history_still p n h apart = record { node = aside w.nodes p n s apart; row = refl }

  row_still : (v : World) (p : ℕ) (row : ℕ → LinkRecord) → Stands s w v → (s ≡ p → ⊥) → Stands s w (with_links v p row)
  row_still v p row is apart = record { node = is.node; row = aside v.links p row s apart ∙ is.row }

  sent_still : (v : World) (ps : List Packet) → Stands s w v → Stands s w (sending v ps)
  sent_still v ps is = record { node = is.node; row = is.row }

  gathering_still : (v : World) (g : ℕ → Option Gathering) → Stands s w v → Stands s w (record v { gathering = g })
  gathering_still v g is = record { node = is.node; row = is.row }

  -- ## Writes, and records that are applied

  put_still : (p : ℕ) (x : LogWrite) (fails : Option ℕ) → (s ≡ p → ⊥) → Leaves (Events.put_in (Events.links_changed w p x) p x fails)
  put_still p x None apart = record {
    node = aside w.nodes p (logged (w.nodes p) x) s apart;
    row =
        let v : World = Events.links_changed w p x in
        aside v.links p (λ k. Events.link_marked (x ∷ []) (v.links p k)) s apart ∙ aside w.links p (λ k. Events.link_after (w.nodes p) x k (w.links p k)) s apart;
  }
  put_still p x (Some disk) apart = record {
    node = aside w.nodes p _ s apart;
    row = aside w.links p (λ k. Events.link_after (w.nodes p) x k (w.links p k)) s apart;
  }

  written_still : (admitted : Admitted) (p : ℕ) (x : LogWrite) (fails : Option ℕ) → (s ≡ p → ⊥) → Leaves (Events.written_if admitted w p x fails)
  written_still (Held_by why) p x fails apart = same
  written_still (Goes changes) p x fails apart = tested (leb MOST_NUMBER (w.nodes p).safe) _ _ (λ _. put_still p x fails apart)

  volume_still : (p volume start count : ℕ) (too_large : Bool) (o : Outcome) → ((s ≡ p → ⊥) → Leaves o)
      → Leaves (on_volume w p volume start count too_large o)
  volume_still p volume start count too_large o is =
      site_still p _
      (tested (is_bare (w.nodes p).state) _ _
      (λ _. at_work_still p _
      (λ apart. tested (not (is_primary (w.nodes p).role)) _ _
      (λ _. tested (leb (length (w.nodes p).volumes) volume) _ _
      (λ _. tested (is_wrong_count count || too_large) _ _
      (λ _. tested (is_past (w.nodes p).base volume start count) _ _ (λ _. is apart)))))))

  applied_still : (q : ℕ) (r : RState) (action : RAction) → (s ≡ q → ⊥) → Leaves (Events.applied_by w q r action)
  applied_still q r act.Nothing apart = same
  applied_still q r act.Ignored apart = same
  applied_still q r (act.IgnoredAck number) apart = same
  applied_still q r (act.Take number) apart = same
  applied_still q r (act.DataAck number) apart =
      sent_still (with_node w q (Events.applied (w.nodes q) number r.mark)) _ (node_still q (Events.applied (w.nodes q) number r.mark) apart)

  -- ## Links and packets

  moved_still : (p q : ℕ) (e : SEvent) → (s ≡ p → ⊥) → Stands s w (Events.link_event w p q e)
  moved_still p q e apart =
      let r : Sent = Events.link_step w p q e in
      sent_still (with_link w p q (with_plain (w.links p q) r.link)) (sent_by r.action p q (w.nodes p)) (row_still w p _ same apart)

  heard_link_still : (p : Packet) (e : SEvent) → (s ≡ p.target → ⊥) → Leaves (Events.link_heard w p e)
  heard_link_still p e apart =
      by_test Leaves (keeps_links (w.nodes p.target).role && is_linked (w.links p.target p.source)) _ (says w IsIgnored)
      (λ _. row_still w p.target _ same apart) (λ _. same)

  taken_still : (p : Packet) (x : LogWrite) (action : RAction) → (s ≡ p.target → ⊥) → Leaves (Events.update_taken w p x action)
  taken_still p x act.Nothing apart = same
  taken_still p x act.Ignored apart = same
  taken_still p x (act.IgnoredAck number) apart = sent_still w _ same
  taken_still p x (act.Take number) apart = by_whole (completes (w.gathering p.target) p)
    where
      by_whole : (b : Bool) → Leaves (Events.taken_if b w p x number)
      by_whole true = sent_still (with_node w p.target (Events.with_write (w.nodes p.target) p.source x)) _
          (node_still p.target (Events.with_write (w.nodes p.target) p.source x) apart)
      by_whole false = same
  taken_still p x (act.DataAck number) apart = same

  heard_still : (p : Packet) (m : Message) → (s ≡ p.target → ⊥) → Leaves (Events.heard w p m)
  heard_still p (Hello session number stored) apart = heard_link_still p (HearHello session number stored) apart
  heard_still p (Update number x) apart =
      by_test Leaves (is_origin (w.nodes p.target).role) (says w IsIgnored) _ (λ _. same)
      (λ _. taken_still p x (received_step (plain_receiver (w.nodes p.target)) (HearUpdate p.line number)).action apart)
  heard_still p (NetAck session number) apart = heard_link_still p (HearNetAck session number) apart
  heard_still p (DataAck number) apart = heard_link_still p (HearDataAck number) apart

  gathers_still : (p : Packet) (o : Outcome) → Leaves o → Leaves (Events.gathers p o)
  gathers_still p o is = by_taken (Events.is_taken o.said)
    where
      by_taken : (b : Bool) → Stands s w (Events.gathered_if b o.world p)
      by_taken true = gathering_still o.world _ is
      by_taken false = is

  delivered_still : (number : ℕ) (p : Option Packet) → Leaves (Events.delivered w number p)
  delivered_still number None = same
  delivered_still number (Some p) =
      gathers_still p (Events.handed w p)
      (by_test Leaves (is_up (w.nodes p.target).state && is_running (w.nodes p.target).halted) (Events.heard w p p.message) (says w IsIgnored)
      (λ opens. heard_still p p.message (λ e. closed p.target e opens)) (λ _. same))
    where
      none : (b : Bool) → (b && false) ≡ true → ⊥
      none true e = let g : false ≡ true = e in absurd (cc)
      none false e = let g : false ≡ true = e in absurd (cc)

      closed : (t : ℕ) → s ≡ t → (is_up (w.nodes t).state && is_running (w.nodes t).halted) ≡ true → ⊥
      closed t e opens =
          none (is_up (w.nodes t).state)
          (ap (λ (b : Bool). is_up (w.nodes t).state && b) (sym (ap (λ (i : ℕ). is_running (w.nodes i).halted) (sym e) ∙ halted)) ∙ opens)

  -- ## Lines that link, crashes and recoveries

  part_still : (part : LinkPart) (p q : ℕ) (sync : SyncMode) (prot : Prot) → (s ≡ p → ⊥) → (s ≡ q → ⊥) → Leaves (link_part part w p q sync prot)
  part_still Joins p q sync prot here there =
      tested (not (may_link w p q)) _ _
      (λ _. tested (is_linked (w.links p q)) _ _
      (λ _. tested (leb MOST_LINKS (count_links_of w p)) _ _
      (λ _. tested (not (sizes_meet (w.nodes p).volumes (w.nodes q).volumes && rings_fit (w.nodes p) (w.nodes q))) _ _
      (λ _. gathering_still (with_node w q (Events.joined (w.nodes p) p (w.nodes q))) _ (node_still q (Events.joined (w.nodes p) p (w.nodes q)) there)))))
  part_still Made p q sync prot here there =
      tested (not (is_primary (w.nodes p).role && follows w p q)) _ _
      (λ _. tested (is_linked (w.links p q)) _ _ (λ _. row_still w p (updated (w.links p) q (Events.new_link (count_links_of w p) sync prot (w.nodes q))) same here))
  part_still Marked p q sync prot here there = tested (not (is_primary (w.nodes p).role && (follows w p q && (is_linked (w.links p q) && is_empty (w.nodes p).log)))) _ _ (λ _. node_still q (record (w.nodes q) { mark = Consistent }) there)
  part_still Opened p q sync prot here there =
      tested
      (not (is_primary (w.nodes p).role && (follows w p q && (is_linked (w.links p q) && (is_empty (w.nodes p).log && (is_stale_mode (w.links p q).mode && (phase_takes (w.nodes q).phase && is_consistent (w.nodes q).mark)))))))
      _ _ (λ _. row_still w p (updated (w.links p) q (Events.opened (w.links p q) (w.nodes p).safe)) same here)

  crash_still : (q k : ℕ) → (s ≡ q → ⊥) → Stands s w (Events.crash_at w q k)
  crash_still q k apart =
      gathering_still (with_links (Events.crash_world w q k) q (λ to. Events.link_left (w.nodes q) k (w.links q to))) _
      (by_test (λ (v : World). Stands s w (with_links v q (λ to. Events.link_left (w.nodes q) k (w.links q to)))) (is_origin (w.nodes q).role) (crash_left w q k)
      (with_node w q (crashed (w.nodes q) k))
      (λ _. row_still (crash_left w q k) q _ (history_still q (crashed (w.nodes q) k) _ apart) apart)
      (λ _. row_still (with_node w q (crashed (w.nodes q) k)) q _ (node_still q (crashed (w.nodes q) k) apart) apart))

  deport_still : (q : ℕ) → (s ≡ q → ⊥) → Stands s w (Events.deport_at w q)
  deport_still q apart =
      let k : ℕ = Events.kept_of (w.nodes q) 0 in
      let v : World = Events.crash_at w q k in
      let is : Stands s w v = crash_still q k apart in
      record { node = aside v.nodes q (deported_site (w.nodes q).fuse (v.nodes q)) s apart ∙ is.node; row = is.row }

  recovery_still : (q : ℕ) (fails : Option ℕ) → (s ≡ q → ⊥) → Leaves (Events.recovery w q fails)
  recovery_still q None apart =
      let n : Node = Events.come_back (w.nodes q) in
      sent_still (with_links (with_node w q n) q (λ to. Events.restarted_link n to (w.links q to))) _
      (row_still (with_node w q n) q _ (node_still q n apart) apart)
  recovery_still q (Some disk) apart = node_still q _ apart

  recover_still : (q : ℕ) (state : SiteState) (fails : Option ℕ) → (w.nodes q).state ≡ state → Leaves (Events.recover_from state w q fails)
  recover_still q Bare fails e = same
  recover_still q Up fails e = same
  recover_still q Deported fails e = tested (leb MOST_NUMBER (w.nodes q).session) _ _ (λ _. recovery_still q fails
      (λ here. let g : Up ≡ Deported = sym up ∙ ap (λ (i : ℕ). (w.nodes i).state) here ∙ e in absurd (cc)))
  recover_still q Down fails e = tested (leb MOST_NUMBER (w.nodes q).session) _ _ (λ _. recovery_still q fails
      (λ here. let g : Up ≡ Down = sym up ∙ ap (λ (i : ℕ). (w.nodes i).state) here ∙ e in absurd (cc)))

  group_still : (q : ℕ) (state : SiteState) → (w.nodes q).state ≡ state → Leaves (Events.group_from state w q)
  group_still q Bare e =
      history_still q (group_set q (w.nodes q)) _
      (λ here. let g : Up ≡ Bare = sym up ∙ ap (λ (i : ℕ). (w.nodes i).state) here ∙ e in absurd (cc))
  group_still q Up e = same
  group_still q Deported e = tested (not (Events.is_plain_group (w.nodes q))) _ _ (λ _. node_still q (group_up (w.nodes q))
      (λ here. let g : Up ≡ Deported = sym up ∙ ap (λ (i : ℕ). (w.nodes i).state) here ∙ e in absurd (cc)))
  group_still q Down e = tested (not (Events.is_plain_group (w.nodes q))) _ _ (λ _. node_still q (group_up (w.nodes q))
      (λ here. let g : Up ≡ Down = sym up ∙ ap (λ (i : ℕ). (w.nodes i).state) here ∙ e in absurd (cc)))

  fall_still : (q : ℕ) (state : SiteState) → (w.nodes q).state ≡ state → Leaves (Events.fall_from state w q)
  fall_still q Bare e = same
  fall_still q Up e = same
  fall_still q Deported e = node_still q (fallen_site (w.nodes q))
      (λ here. let g : Up ≡ Deported = sym up ∙ ap (λ (i : ℕ). (w.nodes i).state) here ∙ e in absurd (cc))
  fall_still q Down e = same

  outcome_still : (e : Event) → s < w.sites → IsElsewhere s e → Leaves (outcome_of w e)
  outcome_still (Site name disks blocks) there calm =
      tested (some_below w.sites (λ k. bytes_eq (w.nodes k).name name)) _ _
      (λ _. tested (leb MOST_SITES w.sites) _ _
      (λ _. tested (ltb MOST_DISKS disks) _ _
      (λ _. tested (eqb disks 0 || ltb blocks 8) _ _
      (λ _. record { node = aside w.nodes w.sites (bare_site name disks blocks) s (λ e. absurd (omega (arith, e, there))); row = refl }))))
  outcome_still (Raw q) there calm =
      site_still q _
      (tested (not (is_bare (w.nodes q).state)) _ _
      (λ bare. tested (not (is_raw_shape (w.nodes q).disks (w.nodes q).blocks)) _ _
      (λ _. history_still q (raw_set q (w.nodes q)) _
      (λ here. let g : Up ≡ Bare = sym up ∙ ap (λ (i : ℕ). (w.nodes i).state) here ∙ bare_is (w.nodes q).state
      (not-false (is_bare (w.nodes q).state) bare) in absurd (cc)))))
  outcome_still (Group q) there calm = site_still q _ (group_still q (w.nodes q).state refl)
  outcome_still (Volumes q log xs) there calm =
      work_still q _ (λ apart. tested (not (Events.is_plain_group (w.nodes q))) _ _ (λ _. history_still q (volumes_set log xs (w.nodes q)) _ apart))
  outcome_still (WriteAt p volume start bytes fails) there calm =
      let x : LogWrite = record { volume = volume; start = start; bytes = bytes } in
      volume_still p volume start (blocks_in bytes) (is_too_large (w.nodes p).ring (blocks_in bytes))
      (Events.written_if (Events.admitted w p x) w p x fails) (written_still (Events.admitted w p x) p x fails)
  outcome_still (Read p volume start count) there calm = volume_still p volume start count false _ (λ _. same)
  outcome_still (Apply q count reached) there calm =
      let r : Received = received_step (plain_receiver (w.nodes q)) (Applied count) in
      work_still q _
      (λ apart. by_test Leaves (is_origin (w.nodes q).role) (Events.reached_at w q count reached) (Events.apply_at w q count) (λ _. same)
      (λ _. applied_still q r.state r.action apart))
  outcome_still (Pump p q) there calm =
      link_still keeps_links p q _
      (λ apart. tested (not ((w.links p q).attached && (w.links p q).connected)) _ _
      (λ _. tested (w.links p q).paused _ _ (λ _. moved_still p q PumpLink apart)))
  outcome_still (Tick p q) there calm = link_still keeps_links p q _ (λ apart. row_still w p _ same apart)
  outcome_still (Deliver number) there calm = delivered_still number (Events.packet_at w.packets number)
  outcome_still (Connect p q) there calm =
      link_still keeps_links p q _ (λ apart. sent_still (Events.link_event w p q ConnectLink) (Events.greeting_back w p q) (moved_still p q ConnectLink apart))
  outcome_still (Cut p q) there calm = link_still keeps_links p q _ (λ apart. moved_still p q CutLink apart)
  outcome_still (Pause p q) there calm = link_still keeps_links p q _ (λ apart. moved_still p q PauseLink apart)
  outcome_still (Resume p q) there calm = link_still keeps_links p q _ (λ apart. moved_still p q ResumeLink apart)
  outcome_still (Wait p number) there calm =
      work_still p _
      (λ _. tested (not (is_origin (w.nodes p).role)) _ _
      (λ _. tested (eqb number 0 || ltb (w.nodes p).safe number) _ _
      (λ _. tested (some_below w.sites (λ k. is_unconfirmed number k (w.links p k))) _ _
      (λ _. by_test Leaves (some_below w.sites (λ k. holds_back number k (w.links p k))) (says w (Pending number)) _ (λ _. same)
      (λ _. record { node = refl; row = refl })))))
  outcome_still (Link p q sync prot part) there calm = both_still p q (link_part part w p q sync prot) (part_still part p q sync prot)
  outcome_still (Set p q sync prot) there calm = link_still is_origin p q _ (λ apart. row_still w p (updated (w.links p) q (Events.link_with sync prot (w.links p q))) same apart)
  outcome_still (Attach p q) there calm = link_still is_origin p q _ (λ apart. row_still w p (updated (w.links p) q (Events.link_attached (w.links p q))) same apart)
  outcome_still (Detach p q) there calm = link_still is_origin p q _ (λ apart. row_still w p (updated (w.links p) q (Events.link_detached (w.links p q))) same apart)
  outcome_still (Crash q kept) there calm =
      site_still q _ (tested (not (is_up (w.nodes q).state)) _ _ (λ _. crash_still q (Events.kept_of (w.nodes q) kept) (λ e. calm (sym e))))
  outcome_still (Deport q) there calm = work_still q _ (λ apart. deport_still q apart)
  outcome_still (Fall q) there calm = site_still q _ (fall_still q (w.nodes q).state refl)
  outcome_still (Recover q fails) there calm = site_still q _ (recover_still q (w.nodes q).state fails refl)
  outcome_still (Fault q disk) there calm =
      site_still q _ (tested (not (is_up (w.nodes q).state)) _ _ (λ _. node_still q _ (λ e. calm (sym e))))

-- whatever headers it writes
pub step_still : (s : ℕ) (w : World) (e : Event) → (w.nodes s).state ≡ Up → is_running (w.nodes s).halted ≡ false → s < w.sites → IsElsewhere s e
    → Stands s w (step w e).world
step_still s w e up halted there calm =
    let is : Stands s w (outcome_of w e).world = outcome_still s w up halted e there calm in record { node = is.node; row = is.row }
