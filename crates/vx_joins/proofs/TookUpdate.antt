-- What comes of an update at the disks of its target, whatever is in assembly there.
use Rattle.std.proofs.Common.{◌≡◌, ◌∙◌, ◌⊎◌, inl, inr, ⊎_elim, ℕ, Bool, length, true, false, List, [], ◌∷◌, ◌++◌, drop, ap, sym, subst, refl, arith}
use Rattle.std.specs.Prelude.{◌&&◌, None, Option, Some, if◌then◌else◌}
use Rattle.std.proofs.lemmas.List.{append-nil, drop-append-le, map-append}
use Rattle.vx_model.specs.Content.{Write}
use Rattle.vx_model.specs.Sites.{is_origin, is_up}
use Rattle.vx_model.specs.declared.call.Update.{Update as Logged}
use Rattle.vx_history.specs.Events.{delivered, gathers, heard, packet_at, update_taken, with_write}
use Rattle.vx_history.specs.LinkForms.{plain_receiver}
use Rattle.vx_history.specs.Receiving.{Received, received_step, repeats, takes, with_next}
use Rattle.vx_history.specs.Refusals.{is_running, says}
use Rattle.vx_history.specs.Sends.{packets_of, sending}
use Rattle.vx_history.specs.World.{NetAck, Node, Packet, Update, World}
use Rattle.vx_history.specs.declared.receiver.RAction.{RAction}
use Rattle.vx_history.specs.declared.receiver.RAction.TheVariants.{DataAck, Ignored, IgnoredAck, Nothing, Take}
use Rattle.vx_history.specs.declared.receiver.REvent.TheVariants.{Update as HearUpdate}
use Rattle.vx_history.specs.declared.receiver.RState.{RState}
use Rattle.vx_model.specs.declared.history.Line.{Line}
use Rattle.vx_model.specs.declared.site.SiteState.{SiteState}
use Rattle.vx_model.specs.declared.site.SiteState.TheVariants.{Up as IsUp}
use Rattle.vx_history.specs.declared.event.Said.{Said}
use Rattle.vx_history.specs.declared.event.Said.TheVariants.{Ignored as IsIgnored}
use Rattle.vx_net.specs.Flights.{Flying}
use Rattle.vx_packet.specs.Assemblies.{Assembled}
use Rattle.vx_disk.specs.Shelf.{Meaning}
use Rattle.vx_disk.specs.declared.shelf.Shelf.{Ghosts}
use Rattle.vx_rvg.specs.Contents.{write_of_update}
use Rattle.vx_rvg.specs.declared.group.Rvg.{Rvg}
use Rattle.vx_peers.proofs.MorePackets.{more_none}
use Rattle.vx_peers.specs.Receivers.{AcksAgain, IsIdle, NoneWaits, NotHeard, OneWaits, ReceivesWrites as ReceivesAt, TookOne, acks_of, rule_at}
use Rattle.vx_peers.specs.Senders.{Sends}
use Rattle.vx_events.specs.LinkFinds.{rule_of}
use Rattle.vx_secondary.specs.Receivers.{writes_of_updates}
use Rattle.vx_secondary.specs.declared.secondary.Secondary.{Secondary}
use Rattle.vx_diskset.specs.Holds.{KeptBeside}
use Rattle.vx_diskset.specs.Stands.{IsReceiverAt, RoleIs, SiteStands}
use Rattle.vx_diskset.specs.declared.disk_set.DiskSet.{DiskSet}
use Rattle.vx_diskset.specs.declared.disk_set.DiskSet.TheVariants.{Bare, Spoiled, Up, Receives, Down, OfGroup, Over, Gone}
use Rattle.vx_diskset.proofs.GroupStands.{off_or_origin}
use Rattle.vx_diskset.specs.Asked.{IsRawSet}
use Rattle.vx_joins.specs.Deliveries.{IsUnheard, TakesNone, TakesOne, TookTo}
use Rattle.vx_joins.proofs.TakesUpdate.{halted_off, ignored_is, more_receiver, receives_at, same_receiver}

abbrev received : RState → RAction → Received
received s a = record { state = s; action = a }

next_is : (takes repeats : Bool) (s t : RState) (k last m : ℕ) → (if takes then received s (Take k) else received t (if repeats then IgnoredAck last else Ignored)).action ≡ Take m → m ≡ k
next_is true repeats s t k last m is = let f : k ≡ m = cc in sym f
next_is false true s t k last m is = absurd (cc)
next_is false false s t k last m is = absurd (cc)

module _ (w : World) (number : ℕ) (p : Packet) (k : ℕ) (x : Write) (at : packet_at w.packets number ≡ Some p) (message : p.message ≡ Update k x) where
  abbrev there : Node
  there = w.nodes p.target

  nothing_sent : says w IsIgnored ≡ says (sending w []) IsIgnored
  nothing_sent = ap (λ (ps : List Packet). let v : World = record w { packets = ps } in says v IsIgnored) (sym (append-nil w.packets))

  -- what an open site that receives does is by its rule
  heard_is : there.state ≡ IsUp → there.halted ≡ None → is_origin there.role ≡ false → delivered w number (packet_at w.packets number) ≡ gathers p (update_taken w p x (rule_of w p k))
  heard_is up running receives =
      ap (delivered w number) at
      ∙ ap (gathers p)
      (ap (λ (st : SiteState). if is_up st && is_running there.halted then heard w p p.message else says w IsIgnored) up
      ∙ ap (λ (h : Option ℕ). if is_running h then heard w p p.message else says w IsIgnored) running
      ∙ ap (heard w p) message
      ∙ ap (λ (b : Bool). if b then says w IsIgnored else update_taken w p x (rule_of w p k)) receives)

  idle_ignored : (r : RAction) → IsIdle r → gathers p (update_taken w p x r) ≡ says w IsIgnored
  idle_ignored Nothing idle = refl
  idle_ignored Ignored idle = refl
  idle_ignored (IgnoredAck number) idle = absurd idle
  idle_ignored (Take number) idle = absurd idle
  idle_ignored (DataAck number) idle = refl

  -- an update that is taken is the next one
  next_of : (m : ℕ) → rule_of w p k ≡ Take m → m ≡ k
  next_of m is = next_is (takes (plain_receiver there) p.line k) (repeats (plain_receiver there) p.line k) (with_next (plain_receiver there)) (plain_receiver there) k (length there.log) m is

  module _ {R : Type 0} {g : Ghosts R} (beside : KeptBeside) where
    unheard : (e : DiskSet R g) (fed : ℕ) (a : Assembled) (f : Flying) → ((is_up there.state ≡ false) ⊎ (is_running there.halted ≡ false)) ⊎ (is_origin there.role ≡ true) → SiteStands beside there e → fed ≡ there.fed_by
        → TookTo w number p k beside e fed a a f f IsIgnored
    unheard e fed a f why stands fed_by = IsUnheard [] (ignored_is w number p k x at message why ∙ nothing_sent) refl stands fed_by refl (more_none f f refl)

    -- disks that receive nothing
    pub other_took : (e : DiskSet R g) (fed : ℕ) (a : Assembled) (f : Flying) → ((s : Secondary R g) → e ≡ Receives s → ⊥) → RoleIs there e → IsRawSet e → SiteStands beside there e → fed ≡ there.fed_by → TookTo w number p k beside e fed a a f f IsIgnored
    other_took (Bare rack) fed a f other role raw stands = unheard (Bare rack) fed a f (inl (inl (ap (λ (n : Node). is_up n.state) stands.bare.is))) stands
    other_took (Spoiled rack) fed a f other role raw stands = unheard (Spoiled rack) fed a f (inl (inl (ap (λ (n : Node). is_up n.state) stands.is))) stands
    other_took (Up rvg) fed a f other role raw stands = unheard (Up rvg) fed a f (inr role) stands
    other_took (Receives s) fed a f other role raw stands = absurd (other s refl)
    other_took (Down rack) fed a f other role raw stands = unheard (Down rack) fed a f (inl (inl (ap is_up stands.state))) stands
    other_took (OfGroup s) fed a f other role raw stands = unheard (OfGroup s) fed a f (⊎_elim (λ off. inl (inl off)) (λ origin. inr origin) (off_or_origin beside there s stands)) stands
    other_took (Over s) fed a f other role raw stands = absurd raw
    other_took Gone fed a f other role raw stands = absurd stands

    -- a receiver that is halted
    pub halted_took : (s : Secondary R g) (disk fed : ℕ) (a : Assembled) (f : Flying) → Some disk ≡ s.rvg.core.halted → SiteStands beside there (Receives s) → fed ≡ there.fed_by → TookTo w number p k beside (Receives s) fed a a f f IsIgnored
    halted_took s disk fed a f is stands = unheard (Receives s) fed a f (inl (inr (halted_off there.halted disk (is ∙ stands.1.halted)))) stands

    -- one that runs
    module _ (old new : Secondary R g) (fed fed' : ℕ) (a a' : Assembled) (f f' : Flying) (same : new.rvg ≡ old.rvg) (r : SiteStands beside there (Receives old)) (running : there.halted ≡ None) (fed_by : fed ≡ there.fed_by) where
      abbrev m : Meaning
      m = g.meaning old.rvg.shelf

      waits : writes_of_updates old.waiting ≡ drop there.safe there.log
      waits = r.1.waits ∙ ap (λ (i : ℕ). drop i there.log) (r.1.head running)

      group_same : (n : Node) → n.group ≡ there.group → IsReceiverAt beside n old.rvg.core new.waiting m → SiteStands beside n (Receives new)
      group_same n group here = ((group ∙ r.0.0, r.0.1), subst (λ (v : Rvg R g). IsReceiverAt beside n v.core new.waiting (g.meaning v.shelf)) (sym same) here)

      same_waits : new.waiting ≡ old.waiting → IsReceiverAt beside there old.rvg.core new.waiting m
      same_waits is = same_receiver there old.rvg.core old.waiting m r.1 running new.waiting (ap (λ (us : List Logged). writes_of_updates us) is ∙ waits)

      peer : ReceivesAt there old.rvg.core old.waiting fed
      peer = receives_at there old.rvg.core old.waiting m r.1 running fed fed_by

      rule : rule_at old.rvg.core old.waiting p.line k ≡ rule_of w p k
      rule = ap (λ (s : RState). (received_step s (HearUpdate p.line k)).action) peer.rule

      acks : (n : ℕ) → Sends (acks_of p.target p.source old.rvg.core n) f f' → Sends (packets_of p.target p.source there.line (NetAck there.session n)) f f'
      acks n sends =
          subst (λ (l : Line). Sends (packets_of p.target p.source l (NetAck there.session n)) f f') (ap (λ (s : RState). s.line) peer.rule)
          (subst (λ (i : ℕ). Sends (packets_of p.target p.source old.rvg.core.log.header.state.line (NetAck i n)) f f') (ap (λ (s : RState). s.session) peer.rule) sends)

      pub running_took : (said : Said) → TookOne (rule_at old.rvg.core old.waiting p.line k) p.source p.target old.rvg.core old.waiting new.waiting fed fed' a a' f f' said
          → TookTo w number p k beside (Receives new) fed' a a' f f' said
      running_took said (OneWaits u n takes is from sends taken) =
          let next : n ≡ k = next_of n (sym rule ∙ takes) in
          TakesOne (r.1.state, running) r.1.role (sym rule ∙ takes ∙ ap (λ (i : ℕ). Take i) next) (write_of_update u) taken
          (group_same (with_write there p.source (write_of_update u)) refl
          (more_receiver there old.rvg.core old.waiting m r.1 running p.source (write_of_update u) new.waiting
          (ap (λ (us : List Logged). writes_of_updates us) is ∙ map-append write_of_update old.waiting (u ∷ []) ∙ ap (λ (ws : List Write). ws ++ write_of_update u ∷ []) waits
          ∙ sym (drop-append-le there.safe there.log (write_of_update u ∷ []) (omega (arith, r.1.least, r.1.most))))))
          from (subst (λ (i : ℕ). Sends (packets_of p.target p.source there.line (NetAck there.session i)) f f') next (acks n sends))
      running_took said (NoneWaits n takes is from still how) =
          let next : n ≡ k = next_of n (sym rule ∙ takes) in
          TakesNone (r.1.state, running) r.1.role (sym rule ∙ takes ∙ ap (λ (i : ℕ). Take i) next) how (group_same there refl (same_waits is)) (from ∙ fed_by) still
      running_took said (AcksAgain n again is from kept sends how) =
          IsUnheard (packets_of p.target p.source there.line (NetAck there.session n))
          (heard_is r.1.state running r.1.role ∙ ap (λ (x' : RAction). gathers p (update_taken w p x x')) (sym rule ∙ again)) how (group_same there refl (same_waits is)) (from ∙ fed_by) kept (acks n sends)
      running_took said (NotHeard idle is from kept still how) =
          IsUnheard [] (heard_is r.1.state running r.1.role ∙ idle_ignored (rule_of w p k) (subst IsIdle rule idle) ∙ nothing_sent) how (group_same there refl (same_waits is)) (from ∙ fed_by) kept (more_none f f' still)
