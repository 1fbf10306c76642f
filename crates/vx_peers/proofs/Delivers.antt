-- The packet of an update, as the world has it delivered.
use Rattle.std.proofs.Common.{◌≡◌, ◌∙◌, ◌⊎◌, inl, inr, ◌+◌, ◌-◌, ◌<◌, ℕ, Bool, true, false, List, [], ◌∷◌, ◌++◌, length, map, drop, ap, sym, subst, refl, arith, length-append}
use Rattle.std.specs.Prelude.{Option, Some, None, Result, ◌&&◌, slice_get, if◌then◌else◌}
use Rattle.std.proofs.lemmas.List.{drop-append-le, map-append}
use Rattle.vx_model.specs.Content.{Write}
use Rattle.vx_model.specs.Sites.{is_up, same_line}
use Rattle.vx_model.specs.declared.call.Update.{Update as Logged}
use Rattle.vx_model.specs.declared.history.Line.{Line}
use Rattle.vx_model.specs.declared.no.No.{No}
use Rattle.vx_model.specs.declared.site.SiteState.{SiteState}
use Rattle.vx_history.specs.Events.{delivered, from_memory, gathers, handed, heard, packet_at, taken_if, update_taken, with_write}
use Rattle.vx_history.specs.Gatherings.{completes, gathered, left_by}
use Rattle.vx_history.specs.LinkForms.{plain_receiver}
use Rattle.vx_history.specs.Receiving.{Received, received_step}
use Rattle.vx_history.specs.Refusals.{Outcome, is_running, says}
use Rattle.vx_history.specs.Sends.{packets_of}
use Rattle.vx_history.specs.World.{Gathering, Message, NetAck, Node, Packet, Update, World, with_node}
use Rattle.vx_history.specs.declared.event.Said.TheVariants.{Ignored as IsIgnored, Taken as IsTaken}
use Rattle.vx_history.specs.declared.receiver.RAction.{RAction}
use Rattle.vx_history.specs.declared.receiver.RAction.TheVariants.{DataAck, Ignored, IgnoredAck, Nothing, Take}
use Rattle.vx_history.specs.declared.receiver.REvent.TheVariants.{Update as HearUpdate}
use Rattle.vx_history.specs.declared.receiver.RState.{RState}
use Rattle.vx_history.proofs.Updates.{at_place, same_line_equal}
use Rattle.vx_courier.specs.Together.{AreOne, AssemblyStands, IsPutTo}
use Rattle.vx_courier.specs.UnderWay.{CanFly, FlightStands, carrier, part_carried, way_of}
use Rattle.vx_courier.proofs.Flying.{place_of_number}
use Rattle.vx_courier.proofs.Joining.{put_together, stands_later}
use Rattle.vx_net.specs.Flights.{Flying, greatest_packet, kept_packet as bytes_at}
use Rattle.vx_packet.specs.Assemblies.{Assembled, TakesPart}
use Rattle.vx_packet.specs.Messages.{row}
use Rattle.vx_packet.specs.Packets.{IsPacket, part_numbered, payload_in}
use Rattle.vx_packet.specs.declared.assembly.Taken.{Taken}
use Rattle.vx_packet.specs.declared.assembly.Taken.TheVariants as taken
use Rattle.vx_packet.specs.declared.message.Envelope.{Envelope}
use Rattle.vx_packet.specs.declared.message.Message.{Message as Spelled}
use Rattle.vx_packet.specs.declared.part.Part.{Part}
use Rattle.vx_parts.specs.Spelling.{spelled_message}
use Rattle.vx_rvg.specs.Contents.{write_of_update}
use Rattle.vx_rvg.specs.Holdings.{update_of as update_on}
use Rattle.vx_rvg.specs.Views.{Core}
use Rattle.vx_secondary.specs.Answers.{KeptIf, TakeIs, TakenBy, action_of}
use Rattle.vx_secondary.specs.Receivers.{can_log, receiver_of}
use Rattle.vx_peers.proofs.Found.{read_so}
use Rattle.vx_peers.specs.Receivers.{GatheredIs, IsIdle, ReceivesWrites, SendsOn, StandsForOutcome, rule_at, update_from, waits_now}

-- ---- what is read of a packet

pub record ReadOf (p : Packet) (k : ℕ) (bytes : List ℕ) (part : Part) : Type 0 where
  pub part_is : part ≡ part_carried p
  pub bytes_are : bytes ≡ carrier p
  pub fly : CanFly p
  pub line : part.line ≡ p.line
  pub source : part.source ≡ p.source
  pub number : part.number ≡ k

abbrev received : RState → RAction → Received
received s a = record { state = s; action = a }

-- an update that the rule takes is of the receiver's line
line_of_take : (same rest repeated : Bool) (s t : RState) (k last m : ℕ) → (if same && rest then received s (Take k) else received t (if repeated then IgnoredAck last else Ignored)).action ≡ Take m → same ≡ true
line_of_take true rest repeated s t k last m is = refl
line_of_take false rest true s t k last m is = absurd (cc)
line_of_take false rest false s t k last m is = absurd (cc)

-- the rule in memory says what it says of the update that was read
pub rule_read : (c : Core) (us : List Logged) (p : Packet) (k : ℕ) (bytes : List ℕ) (part : Part) → ReadOf p k bytes part → (r : RAction) → r ≡ rule_at c us part.line part.number → r ≡ rule_at c us p.line k
rule_read c us p k bytes part read r is = is ∙ ap (λ (l : Line). rule_at c us l part.number) read.line ∙ ap (λ (i : ℕ). rule_at c us p.line i) read.number

pub is_idle : (a r : RAction) → r ≡ a → (r ≡ Nothing) ⊎ ((r ≡ Ignored) ⊎ ((m : ℕ) × (r ≡ DataAck m))) → IsIdle a
is_idle a r is (inl nothing) = subst IsIdle (sym nothing ∙ is) tt
is_idle a r is (inr (inl ignored)) = subst IsIdle (sym ignored ∙ is) tt
is_idle a r is (inr (inr ack)) = subst IsIdle (sym ack.1 ∙ is) tt

number_of_part : (e : Envelope) (m : Spelled) (k : ℕ) → (part_numbered e m k).number ≡ (row m).number
unfolding part_numbered
number_of_part e m k = refl

module _ (w : World) (number : ℕ) (p : Packet) (k : ℕ) (x : Write) (at : packet_at w.packets number ≡ Some p) (message : p.message ≡ Update k x) (f : Flying) (flight : FlightStands w.packets f) where
  abbrev place : ℕ
  place = (place_of_number w.packets number p at).0

  there : slice_get w.packets place ≡ Some p
  there = (place_of_number w.packets number p at).2

  pub read_of : (bytes : List ℕ) (part : Part) → Some bytes ≡ bytes_at f number → (r : Option Part) → ((q : Part) → IsPacket bytes q → r ≡ Some q) → r ≡ Some part → ReadOf p k bytes part
  read_of bytes part some r only is =
      let read = read_so w.packets number p at f flight bytes part some r only is in
      record {
        part_is = read.part_is;
        bytes_are = read.bytes_are;
        fly = read.fly;
        line = read.line;
        source = read.source;
        number = ap (λ (q : Part). q.number) read.part_is ∙ number_of_part (way_of p) (spelled_message p.message) p.part ∙ ap (λ (m : Message). (row (spelled_message m)).number) message;
      }

  -- ---- what the world makes of it

  module _ (c : Core) (us : List Logged) (fed : ℕ) (receives : ReceivesWrites (w.nodes p.target) c us fed) (running : (w.nodes p.target).halted ≡ None) where
    abbrev n : Node
    n = w.nodes p.target

    abbrev act : RAction
    act = (received_step (plain_receiver n) (HearUpdate p.line k)).action

    handed_is : handed w p ≡ update_taken w p x act
    handed_is =
        ap (λ (st : SiteState). if is_up st && is_running n.halted then heard w p p.message else says w IsIgnored) receives.up
        ∙ ap (λ (h : Option ℕ). if is_running h then heard w p p.message else says w IsIgnored) running
        ∙ ap (heard w p) message
        ∙ ap (λ (b : Bool). if b then says w IsIgnored else update_taken w p x act) receives.role

    outcome_is : delivered w number (packet_at w.packets number) ≡ gathers p (update_taken w p x act)
    outcome_is = ap (delivered w number) at ∙ ap (gathers p) handed_is

    -- the rule in memory says what it says of the world's site
    pub rule_is : (bytes : List ℕ) (part : Part) → ReadOf p k bytes part → (r : RAction) → r ≡ (received_step (receiver_of c us) (HearUpdate part.line part.number)).action → r ≡ act
    rule_is bytes part read r is =
        is ∙ ap (λ (s : RState). (received_step s (HearUpdate part.line part.number)).action) receives.rule
        ∙ ap (λ (l : Line). (received_step (plain_receiver n) (HearUpdate l part.number)).action) read.line
        ∙ ap (λ (i : ℕ). (received_step (plain_receiver n) (HearUpdate p.line i)).action) read.number

    module _ (a : Assembled) (stands : AssemblyStands w.packets p.target (w.gathering p.target) a) where
      -- nothing came of it
      ignored_so : update_taken w p x act ≡ says w IsIgnored → StandsForOutcome (delivered w number (packet_at w.packets number)) p.target c us fed a f IsIgnored
      ignored_so is =
          subst (λ (o : Outcome). StandsForOutcome o p.target c us fed a f IsIgnored) (sym (outcome_is ∙ ap (gathers p) is))
          (record { says = refl; receiver = receives; assembly = stands; flight = flight })

      pub ignored_at : (r : RAction) → r ≡ act → (r ≡ Nothing) ⊎ ((r ≡ Ignored) ⊎ ((m : ℕ) × (r ≡ DataAck m))) → StandsForOutcome (delivered w number (packet_at w.packets number)) p.target c us fed a f IsIgnored
      ignored_at r is (inl nothing) = ignored_so (ap (update_taken w p x) (sym is ∙ nothing))
      ignored_at r is (inr (inl ignored)) = ignored_so (ap (update_taken w p x) (sym is ∙ ignored))
      ignored_at r is (inr (inr ack)) = ignored_so (ap (update_taken w p x) (sym is ∙ ack.1))

      -- it is acknowledged again
      pub again_at : (m : ℕ) → act ≡ IgnoredAck m → (bytes : List ℕ) (part : Part) → ReadOf p k bytes part → (line : Line) (session : ℕ) → line ≡ c.log.header.state.line → session ≡ c.log.header.incarnation → (f' : Flying)
          → f.count < greatest_packet → SendsOn p.target part.source line session m f f' → StandsForOutcome (delivered w number (packet_at w.packets number)) p.target c us fed a f' IsIgnored
      again_at m is bytes part read line session line_is session_is f' room sends =
          let lines : line ≡ n.line = line_is ∙ ap (λ (s : RState). s.line) receives.rule in
          let sessions : session ≡ n.session = session_is ∙ ap (λ (s : RState). s.session) receives.rule in
          let on : FlightStands (from_memory w n p m).packets f'
          = subst (λ (q : ℕ). FlightStands (w.packets ++ packets_of p.target q n.line (NetAck n.session m)) f') read.source
          (subst (λ (l : Line). FlightStands (w.packets ++ packets_of p.target part.source l (NetAck n.session m)) f') lines
          (subst (λ (s : ℕ). FlightStands (w.packets ++ packets_of p.target part.source line (NetAck s m)) f') sessions (sends w.packets flight room))) in
          subst (λ (o : Outcome). StandsForOutcome o p.target c us fed a f' IsIgnored) (sym (outcome_is ∙ ap (λ (r : RAction). gathers p (update_taken w p x r)) is))
          (record { says = refl; receiver = receives; assembly = stands_later w.packets (packets_of p.target p.source n.line (NetAck n.session m)) p.target (w.gathering p.target) a stands; flight = on })

      -- ---- a part that can be taken

      module _ (m : ℕ) (takes : act ≡ Take m) (size : ℕ → ℕ) (fits : p.line ≡ c.log.header.state.line → can_log c size (update_on p.line k x) ≡ true) (one : AreOne w.packets) (bytes : List ℕ) (part : Part) (read : ReadOf p k bytes part) where
        abbrev g : Option Gathering
        g = w.gathering p.target

        abbrev u : Logged
        u = record { line = part.line; number = k; vol = x.volume; block = x.start; bytes = x.bytes }

        update_is : update_from (spelled_message p.message) part.line ≡ Some u
        update_is = ap (λ (t : Message). update_from (spelled_message t) part.line) message

        rule_here : action_of c us u ≡ Take m
        rule_here =
            ap (λ (s : RState). (received_step s (HearUpdate part.line k)).action) receives.rule
            ∙ ap (λ (l : Line). (received_step (plain_receiver n) (HearUpdate l k)).action) read.line ∙ takes

        can : can_log c size u ≡ true
        can = ap (λ (l : Line). can_log c size (record { line = l; number = k; vol = x.volume; block = x.start; bytes = x.bytes })) read.line ∙ fits (same_line_equal p.line n.line (line_of_take (same_line p.line n.line) _ _ _ _ _ _ m takes) ∙ sym (ap (λ (s : RState). s.line) receives.rule))

        -- it waits where it is whole
        taken_here : (us' : List Logged) (r : Result RAction No) → TakeIs c size us u r us' → (waits_now r ≡ Some true) × (us' ≡ us ++ u ∷ [])
        taken_here us' r is =
            let by_rule : TakenBy (Take m) c size us u r us' = subst (λ (o : RAction). TakenBy o c size us u r us') rule_here is in
            let kept : KeptIf true us u m r us' = subst (λ (b : Bool). KeptIf b us u m r us') can by_rule in
            (ap waits_now kept.0, kept.1)

        put_so : (t : Taken) (new : Assembled) → TakesPart a part (payload_in part bytes) t new → IsPutTo w.packets p.target g p t new
        put_so t new is =
            put_together w.packets p.target place p one there refl read.fly g a stands t new
            (subst (λ (bs : List ℕ). TakesPart a (part_carried p) (payload_in (part_carried p) bs) t new) read.bytes_are (subst (λ (q : Part). TakesPart a q (payload_in q bytes) t new) read.part_is is))

        -- another part is missing
        kept_world : completes g p ≡ false → delivered w number (packet_at w.packets number) ≡ says (gathered w p) IsTaken
        kept_world missing =
            outcome_is ∙ ap (λ (r : RAction). gathers p (update_taken w p x r)) takes
            ∙ ap (λ (b : Bool). gathers p (taken_if b w p x m)) missing

        gathered_there : (v : World) → (gathered v p).gathering p.target ≡ left_by (v.gathering p.target) p
        gathered_there v = at_place v.gathering p.target (left_by (v.gathering p.target) p)

        kept_so : (new : Assembled) → IsPutTo w.packets p.target g p taken.Kept new → StandsForOutcome (delivered w number (packet_at w.packets number)) p.target c us fed new f IsTaken
        kept_so new put =
            subst (λ (o : Outcome). StandsForOutcome o p.target c us fed new f IsTaken) (sym (kept_world put.0))
            (record {
              says = refl;
              receiver = receives;
              assembly = subst (λ (h : Option Gathering). AssemblyStands w.packets p.target h new) (sym (gathered_there w)) put.1;
              flight = flight;
            })

        -- it waits, and is acknowledged
        abbrev logged_node : Node
        logged_node = with_write n p.source x

        abbrev acked : World
        acked = from_memory (with_node w p.target logged_node) n p m

        waits_world : completes g p ≡ true → delivered w number (packet_at w.packets number) ≡ says (gathered acked p) IsTaken
        waits_world all =
            outcome_is ∙ ap (λ (r : RAction). gathers p (update_taken w p x r)) takes
            ∙ ap (λ (b : Bool). gathers p (taken_if b w p x m)) all

        more_rule : receiver_of c (us ++ u ∷ []) ≡ plain_receiver logged_node
        more_rule =
            let before : length us ≡ length n.log - n.safe = ap (λ (s : RState). s.waiting) receives.rule in
            let last : (receiver_of c us).last ≡ length n.log = ap (λ (s : RState). s.last) receives.rule in
            let longer : length (us ++ u ∷ []) ≡ length us + 1 = length-append us (u ∷ []) in
            let log : length (n.log ++ x ∷ []) ≡ length n.log + 1 = length-append n.log (x ∷ []) in
            let waiting : length (us ++ u ∷ []) ≡ length (n.log ++ x ∷ []) - n.safe = omega (arith, before, longer, log, receives.logged) in
            let number_is : (receiver_of c (us ++ u ∷ [])).last ≡ length (n.log ++ x ∷ []) = omega (arith, last, longer, log) in
            let one : receiver_of c (us ++ u ∷ []) ≡ record (plain_receiver n) { last = (receiver_of c (us ++ u ∷ [])).last; waiting = length (us ++ u ∷ []) } = ap (λ (s : RState). record s { last = (receiver_of c (us ++ u ∷ [])).last; waiting = length (us ++ u ∷ []) }) receives.rule in
            one
            ∙ ap (λ (i : ℕ). record (plain_receiver n) { last = i; waiting = length (us ++ u ∷ []) }) number_is
            ∙ ap (λ (i : ℕ). record (plain_receiver n) { last = length (n.log ++ x ∷ []); waiting = i }) waiting

        more_waits : map write_of_update (us ++ u ∷ []) ≡ drop n.safe (n.log ++ x ∷ [])
        more_waits =
            map-append write_of_update us (u ∷ [])
            ∙ ap (λ (ws : List Write). ws ++ x ∷ []) receives.waits
            ∙ sym (drop-append-le n.safe n.log (x ∷ []) receives.logged)

        receives_more : ReceivesWrites logged_node c (us ++ u ∷ []) part.source
        receives_more = record {
          up = receives.up;
          role = receives.role;
          halted = receives.halted;
          rule = more_rule;
          logged = omega (arith, receives.logged, length-append n.log (x ∷ []));
          fed_by = read.source;
          waits = more_waits;
        }

        waits_so : (new : Assembled) (us' : List Logged) → IsPutTo w.packets p.target g p taken.Whole new → us' ≡ us ++ u ∷ [] → (line : Line) (session : ℕ) → line ≡ c.log.header.state.line → session ≡ c.log.header.incarnation → (f' : Flying)
            → f.count < greatest_packet → SendsOn p.target part.source line session m f f' → StandsForOutcome (delivered w number (packet_at w.packets number)) p.target c us' part.source new f' IsTaken
        waits_so new us' put us_are line session line_is session_is f' room sends =
            let lines : line ≡ n.line = line_is ∙ ap (λ (s : RState). s.line) receives.rule in
            let sessions : session ≡ n.session = session_is ∙ ap (λ (s : RState). s.session) receives.rule in
            let on : FlightStands (w.packets ++ packets_of p.target p.source n.line (NetAck n.session m)) f'
            = subst (λ (q : ℕ). FlightStands (w.packets ++ packets_of p.target q n.line (NetAck n.session m)) f') read.source
            (subst (λ (l : Line). FlightStands (w.packets ++ packets_of p.target part.source l (NetAck n.session m)) f') lines
            (subst (λ (s : ℕ). FlightStands (w.packets ++ packets_of p.target part.source line (NetAck s m)) f') sessions (sends w.packets flight room))) in
            let here : (gathered acked p).nodes p.target ≡ logged_node = at_place w.nodes p.target logged_node in
            subst (λ (o : Outcome). StandsForOutcome o p.target c us' part.source new f' IsTaken) (sym (waits_world put.0))
            (record {
              says = refl;
              receiver = subst (λ (vs : List Logged). ReceivesWrites ((gathered acked p).nodes p.target) c vs part.source) (sym us_are) (subst (λ (y : Node). ReceivesWrites y c (us ++ u ∷ []) part.source) (sym here) receives_more);
              assembly = subst (λ (h : Option Gathering). AssemblyStands (gathered acked p).packets p.target h new) (sym (gathered_there acked))
                  (stands_later w.packets (packets_of p.target p.source n.line (NetAck n.session m)) p.target (left_by g p) new put.1);
              flight = on;
            })

        -- by what the receiver says of it

        pub some_kept : (us' : List Logged) (new : Assembled) → GatheredIs c size part (payload_in part bytes) us a us' new (Some false) → StandsForOutcome (delivered w number (packet_at w.packets number)) p.target c us' fed new f IsTaken
        some_kept us' new (taken.Kept, (is, by)) = subst (λ (vs : List Logged). StandsForOutcome (delivered w number (packet_at w.packets number)) p.target c vs fed new f IsTaken) (sym by.1) (kept_so new (put_so taken.Kept new is))
        some_kept us' new (taken.Bad, (is, by)) = absurd (put_so taken.Bad new is)
        some_kept us' new (taken.Whole, (is, by)) =
            let put = put_so taken.Whole new is in
            let took = by (spelled_message p.message) u put.2 update_is in
            let e : Some false ≡ Some true = took.1.1 ∙ (taken_here us' took.0 took.1.0).0 in absurd (cc)

        pub some_waits : (us' : List Logged) (new : Assembled) → GatheredIs c size part (payload_in part bytes) us a us' new (Some true) → (line : Line) (session : ℕ) → line ≡ c.log.header.state.line → session ≡ c.log.header.incarnation → (f' : Flying)
            → f.count < greatest_packet → SendsOn p.target part.source line session m f f' → StandsForOutcome (delivered w number (packet_at w.packets number)) p.target c us' part.source new f' IsTaken
        some_waits us' new (taken.Kept, (is, by)) line session line_is session_is f' room sends = let e : Some true ≡ Some false = by.0 in absurd (cc)
        some_waits us' new (taken.Bad, (is, by)) line session line_is session_is f' room sends = absurd (put_so taken.Bad new is)
        some_waits us' new (taken.Whole, (is, by)) line session line_is session_is f' room sends =
            let put = put_so taken.Whole new is in
            let took = by (spelled_message p.message) u put.2 update_is in
            waits_so new us' put (taken_here us' took.0 took.1.0).1 line session line_is session_is f' room sends

        pub never_lost : (us' : List Logged) (new : Assembled) → GatheredIs c size part (payload_in part bytes) us a us' new None → ⊥
        never_lost us' new (taken.Kept, (is, by)) = let e : None ≡ Some false = by.0 in absurd (cc)
        never_lost us' new (taken.Bad, (is, by)) = put_so taken.Bad new is
        never_lost us' new (taken.Whole, (is, by)) =
            let put = put_so taken.Whole new is in
            let took = by (spelled_message p.message) u put.2 update_is in
            let e : None ≡ Some true = took.1.1 ∙ (taken_here us' took.0 took.1.0).0 in absurd (cc)
