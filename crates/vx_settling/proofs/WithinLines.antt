-- What a line within one that settles a link comes to, in a world in which fuses were noted.
use Rattle.std.proofs.Common.{◌≡◌, ◌∙◌, ◌⊎◌, inl, ◌+◌, ◌<◌, ◌≤◌, ℕ, List, [], ◌∷◌, Bool, true, false, ap, sym, subst, refl}
use Rattle.std.proofs.lemmas.Option.{same_Some}
use Rattle.std.proofs.Math.Path.{fun_ext}
use Rattle.std.specs.Prelude.{Option, Some, None, ltb, if◌then◌else◌}
use Rattle.vx_model.specs.declared.limits.TheConstants.{MOST_NUMBER}
use Rattle.vx_model.specs.declared.no.Counted.TheVariants.{Number}
use Rattle.vx_model.specs.declared.no.No.TheVariants.{Device, Limit, Down as IsOff}
use Rattle.vx_history.specs.Doubts.{After, Doubted, crashed_as, halved, happened}
use Rattle.vx_history.specs.Events.{packet_at, with_write}
use Rattle.vx_history.specs.Headers.{is_refused}
use Rattle.vx_history.specs.Gatherings.{came_after, key_of}
use Rattle.vx_history.specs.Sends.{packets_of}
use Rattle.vx_history.specs.Settling.{is_between}
use Rattle.vx_history.specs.Step.{step}
use Rattle.vx_history.specs.Steps.{worked_on}
use Rattle.vx_history.specs.Stops.{IsFused, IsOpen, WritesAt, stored_by}
use Rattle.vx_history.specs.World.{DataAck, Fuse, Gathering, Hello, Link, Message, NetAck, NoFuse, Node, Packet, Update, World, updated}
use Rattle.vx_history.specs.declared.event.Event.{Event}
use Rattle.vx_history.specs.declared.event.Event.TheVariants.{Connect as ConnectAt, Deliver as DeliverAt, Pump as PumpAt, Tick as TickAt}
use Rattle.vx_history.specs.declared.event.Said.{Said as EventSaid}
use Rattle.vx_script.specs.declared.line.ScriptLine.TheVariants.{Connect, Deliver, Pump, Tick}
use Rattle.vx_events.specs.Doubts.{IsAs}
use Rattle.vx_events.proofs.Bearing.{borne_none}
use Rattle.vx_events.specs.Facts.{site_number}
use Rattle.vx_events.specs.Fails.{Fails, IsLogDisk}
use Rattle.vx_events.specs.LinkEnds.{AreLeft, LinkEnds, link_noted, target_noted}
use Rattle.vx_events.specs.LinkFinds.{FindsOther, KeepsOther, LosesOther, MayTake, PumpSends, ReadsNone, SendsOther, SettlesOther, TakesOther, kept_with, pumped_with, taken_with, target_with}
use Rattle.vx_events.specs.LinksFit.{LinksFit}
use Rattle.vx_events.specs.Sayings.{RepeatsSaid}
use Rattle.vx_events.specs.Stamps.{most_stamp_at, stamps_of}
use Rattle.vx_events.specs.declared.said.Said.{Said}
use Rattle.vx_events.specs.declared.said.Said.TheVariants.{Done, Refused}
use Rattle.vx_world.proofs.LikeSteps.{said_like}
use Rattle.vx_settling.specs.Between.{IsSent, MayMove}
use Rattle.vx_settling.specs.Burnt.{EndTo, GoesTo, MayBurn, NotedAs, OnTo, burnt_world, noted_as}
use Rattle.vx_settling.specs.Kinds.{is_settling}
use Rattle.vx_settling.specs.Works.{SettleStops}
use Rattle.vx_settling.proofs.Burning.{burns_kept, crashed_sites, burns_noted, crashed_burnt, burns_crashed, burns_halved, fused_pure, halved_burnt, like_burnt, noted_at, pumped_burnt, step_burnt, target_burnt, worked_burnt}
use Rattle.vx_settling.proofs.Ends.{connect_done, pump_done, tick_done}
use Rattle.vx_settling.proofs.Running.{event_stays, happens}
use Rattle.vx_settling.proofs.Working.{cuts_header, gives_up, lacks_header, stops_header, stops_unread, works_connect, works_deliver, works_keep_other, works_lose_other, works_pump, works_pump_other, works_take_other, works_tick}
use Rattle.vx_settling.proofs.WithinOne.{OneCut, OneDone, OneEnds, OneFinds, OneFull, OneHalts, OneUnread, delivered_says, first_heard, fuse_at, number_burnt, one_ends, reply_on, target_of}

-- ---- in a world with noted fuses

-- what a link counts as stored does not go by the fuse of its site
stored_pure : (n : Node) (f : Fuse) (l : Link) (q : Packet) (m : Message) → stored_by (record n { fuse = f }) l q m ≡ stored_by n l q m
stored_pure n f l q (Hello session number stored) = refl
stored_pure n f l q (Update number x) = refl
stored_pure n f l q (NetAck session number) = refl
stored_pure n f l q (DataAck number) = refl

module _ (told : Type 0) (a b : ℕ) (d : Doubted) (calm : told → d.strayed ≡ false) (may : MayMove a b d.world) (fuses : ℕ → Fuse) (burns : MayBurn a b fuses d.world) (fit : LinksFit (noted_as fuses d)) where
  abbrev D : Doubted
  D = noted_as fuses d

  after_is : (v : World) (new : Doubted) (m : Doubted) → IsAs m v new → new ≡ record m { world = v }
  after_is v new m left =
      ap (λ (x : World). let q : Doubted = record new { world = x } in q) left.world
      ∙ ap (λ (f : ℕ → Option After). let q : Doubted = record { world = v; after = f; strayed = new.strayed } in q) (fun_ext (λ s. left.after s))
      ∙ ap (λ (b : Bool). let q : Doubted = record { world = v; after = m.after; strayed = b } in q) left.strayed

  -- an event that is done
  done_noted : (e : Event) → is_settling e ≡ true → happened (noted_as fuses d) e false ≡ noted_as fuses (happened d e false)
  done_noted e is =
      happens (noted_as fuses d) e false is ∙ ap (λ (x : World). let q : Doubted = record d { world = x } in q) (step_burnt fuses d fit e is)
      ∙ sym (ap (λ (q : Doubted). noted_as fuses q) (happens d e false is))

  burns_done : (e : Event) → is_settling e ≡ true → MayBurn a b fuses (happened d e false).world
  burns_done e is =
      subst (λ (q : Doubted). MayBurn a b fuses q.world) (sym (happens d e false is))
      (burns_kept a b fuses d.world (step d.world e).world (λ i. ap (λ (n : Node). n.fuse) ((event_stays d.world e is).nodes i)) burns)

  -- a line that notes nothing
  plain_done : (e : Event) (new : Doubted) → is_settling e ≡ true → IsAs (happened (noted_as fuses d) e false) (happened (noted_as fuses d) e false).world new → NotedAs a b (happened d e false) new
  plain_done e new is left = record { fuses = fuses; burns = burns_done e is; is = after_is (happened (noted_as fuses d) e false).world new (happened (noted_as fuses d) e false) left ∙ done_noted e is }

  plain_same : (new : Doubted) → IsAs (noted_as fuses d) (burnt_world fuses d.world) new → NotedAs a b d new
  plain_same new left = record { fuses = fuses; burns = burns; is = after_is (burnt_world fuses d.world) new (noted_as fuses d) left }

  said_same : (e : Event) → (step (burnt_world fuses d.world) e).said ≡ (step d.world e).said
  said_same e = said_like d.world (burnt_world fuses d.world) e (like_burnt fuses d.world)

  -- ---- each line

  pub connect_goes : (p s : List ℕ) (fails : Fails) (said : Said) (new : Doubted) → site_number d.world p ≡ a → site_number d.world s ≡ b → LinkEnds told (noted_as fuses d) (Connect p s) fails said new
      → GoesTo told a b d (ConnectAt a b ∷ []) fails new said
  connect_goes p s fails said new from to ends =
      by (one_ends told (noted_as fuses d) calm (Connect p s) (ConnectAt a b) fails said new (ap (λ (i : ℕ). ConnectAt i (site_number (burnt_world fuses d.world) s) ∷ []) (number_burnt fuses d.world p ∙ from) ∙ ap (λ (j : ℕ). ConnectAt a j ∷ []) (number_burnt fuses d.world s ∙ to)) refl refl (λ last reply. reply) ends)
    where
      by : OneEnds told (noted_as fuses d) (Connect p s) (ConnectAt a b) fails said new → GoesTo told a b d (ConnectAt a b ∷ []) fails new said
      by (OneDone none reply left) =
          reply_on (OnTo told a b d (ConnectAt a b ∷ []) fails new) (λ why. EndTo told a b d (ConnectAt a b ∷ []) fails why new) (step (burnt_world fuses d.world) (ConnectAt a b)).world 0 (step (burnt_world fuses d.world) (ConnectAt a b)).said said
          (ap (λ (x : EventSaid). is_refused x) (said_same (ConnectAt a b) ∙ connect_done d.world a b may.can)) reply
          (record { next = happened d (ConnectAt a b) false; borne = borne_none d.world b fails none; works = works_connect told a b d may; noted = plain_done (ConnectAt a b) new refl left })
      by (OneHalts site disk opens writes place one says left) = absurd writes
      by (OneCut site kept taken opens writes fused one says left) = absurd writes
      by (OneUnread site disk reads place one says left) = absurd reads
      by (OneFull site takes lacks one says left) = absurd takes
      by (OneFinds untold last (SendsOther q r more is sends none says leaves) left) = absurd (cc)
      by (OneFinds untold last (ReadsNone q r why is other none says leaves) left) = absurd (cc)
      by (OneFinds untold last (TakesOther number q x is takes none says leaves) left) = absurd (cc)
      by (OneFinds untold last (KeepsOther number q is takes none says leaves) left) = absurd (cc)
      by (OneFinds untold last (LosesOther number q is takes none says leaves) left) = absurd (cc)
      by (OneFinds untold last (SettlesOther q r middle is moves finds) left) = absurd (cc)

  pub tick_goes : (p s : List ℕ) (fails : Fails) (said : Said) (new : Doubted) → site_number d.world p ≡ a → site_number d.world s ≡ b → LinkEnds told (noted_as fuses d) (Tick p s) fails said new
      → GoesTo told a b d (TickAt a b ∷ []) fails new said
  tick_goes p s fails said new from to ends =
      by (one_ends told (noted_as fuses d) calm (Tick p s) (TickAt a b) fails said new (ap (λ (i : ℕ). TickAt i (site_number (burnt_world fuses d.world) s) ∷ []) (number_burnt fuses d.world p ∙ from) ∙ ap (λ (j : ℕ). TickAt a j ∷ []) (number_burnt fuses d.world s ∙ to)) refl refl (λ last reply. reply) ends)
    where
      by : OneEnds told (noted_as fuses d) (Tick p s) (TickAt a b) fails said new → GoesTo told a b d (TickAt a b ∷ []) fails new said
      by (OneDone none reply left) =
          reply_on (OnTo told a b d (TickAt a b ∷ []) fails new) (λ why. EndTo told a b d (TickAt a b ∷ []) fails why new) (step (burnt_world fuses d.world) (TickAt a b)).world 0 (step (burnt_world fuses d.world) (TickAt a b)).said said
          (ap (λ (x : EventSaid). is_refused x) (said_same (TickAt a b) ∙ tick_done d.world a b may.can)) reply
          (record { next = happened d (TickAt a b) false; borne = borne_none d.world b fails none; works = works_tick told a b d may; noted = plain_done (TickAt a b) new refl left })
      by (OneHalts site disk opens writes place one says left) = absurd writes
      by (OneCut site kept taken opens writes fused one says left) = absurd writes
      by (OneUnread site disk reads place one says left) = absurd reads
      by (OneFull site takes lacks one says left) = absurd takes
      by (OneFinds untold last (SendsOther q r more is sends none says leaves) left) = absurd (cc)
      by (OneFinds untold last (ReadsNone q r why is other none says leaves) left) = absurd (cc)
      by (OneFinds untold last (TakesOther number q x is takes none says leaves) left) = absurd (cc)
      by (OneFinds untold last (KeepsOther number q is takes none says leaves) left) = absurd (cc)
      by (OneFinds untold last (LosesOther number q is takes none says leaves) left) = absurd (cc)
      by (OneFinds untold last (SettlesOther q r middle is moves finds) left) = absurd (cc)

  pub pump_goes : (p s : List ℕ) (fails : Fails) (said : Said) (new : Doubted) → site_number d.world p ≡ a → site_number d.world s ≡ b → LinkEnds told (noted_as fuses d) (Pump p s) fails said new
      → GoesTo told a b d (PumpAt a b ∷ []) fails new said
  pump_goes p s fails said new from to ends =
      by (one_ends told (noted_as fuses d) calm (Pump p s) (PumpAt a b) fails said new (ap (λ (i : ℕ). PumpAt i (site_number (burnt_world fuses d.world) s) ∷ []) (number_burnt fuses d.world p ∙ from) ∙ ap (λ (j : ℕ). PumpAt a j ∷ []) (number_burnt fuses d.world s ∙ to)) refl refl (λ last reply. reply) ends)
    where
      sends : (more : List Packet) → PumpSends d.world a b more → (told → ⊥) → fails ≡ [] → IsAs (record (noted_as fuses d) { world = pumped_with (burnt_world fuses d.world) a b more }) (pumped_with (burnt_world fuses d.world) a b more) new → OnTo told a b d (PumpAt a b ∷ []) fails new
      sends more any untold none left =
          record {
            next = record d { world = pumped_with d.world a b more };
            borne = borne_none d.world b fails none;
            works = works_pump_other told a b d may more any untold;
            noted = record {
              fuses = fuses;
              burns = burns_kept a b fuses d.world (pumped_with d.world a b more) (λ i. ap (λ (n : Node). n.fuse) ((event_stays d.world (PumpAt a b) refl).nodes i)) burns;
              is = after_is (pumped_with (burnt_world fuses d.world) a b more) new (record (noted_as fuses d) { world = pumped_with (burnt_world fuses d.world) a b more }) left
                  ∙ ap (λ (x : World). let q : Doubted = record d { world = x } in q) (pumped_burnt fuses d fit a b more);
            };
          }

      by_finds : (told → ⊥) → (last : Doubted) → FindsOther (noted_as fuses d) (Pump p s) fails said last → AreLeft (Pump p s) (noted_as fuses d) last new → GoesTo told a b d (PumpAt a b ∷ []) fails new said
      by_finds untold last (SendsOther q r more is any none says leaves) left =
          let one : q ≡ p = (let e : Pump p s ≡ Pump q r = is in cc) in
          let two : r ≡ s = (let e : Pump p s ≡ Pump q r = is in cc) in
          let here : site_number (burnt_world fuses d.world) q ≡ a = ap (λ (x : List ℕ). site_number (burnt_world fuses d.world) x) one ∙ number_burnt fuses d.world p ∙ from in
          let there : site_number (burnt_world fuses d.world) r ≡ b = ap (λ (x : List ℕ). site_number (burnt_world fuses d.world) x) two ∙ number_burnt fuses d.world s ∙ to in
          let last_is : last ≡ record (noted_as fuses d) { world = pumped_with (burnt_world fuses d.world) a b more } =
          leaves ∙ ap (λ (i : ℕ). let x : Doubted = record (noted_as fuses d) { world = pumped_with (burnt_world fuses d.world) i (site_number (burnt_world fuses d.world) r) more } in x) here
          ∙ ap (λ (j : ℕ). let x : Doubted = record (noted_as fuses d) { world = pumped_with (burnt_world fuses d.world) a j more } in x) there in
          let there_any : PumpSends d.world a b more =
          subst (λ (j : ℕ). PumpSends (burnt_world fuses d.world) a j more) there (subst (λ (i : ℕ). PumpSends (burnt_world fuses d.world) i (site_number (burnt_world fuses d.world) r) more) here any) in
          subst (λ (x : Said). GoesTo told a b d (PumpAt a b ∷ []) fails new x) (sym says) (sends more there_any untold none (subst (λ (m : Doubted). IsAs m m.world new) last_is left))
      by_finds untold last (ReadsNone q r why is other none says leaves) left =
          subst (λ (x : Said). GoesTo told a b d (PumpAt a b ∷ []) fails new x) (sym says)
          (record {
            last = d;
            sites = refl;
            stops = subst (λ (f : Fails). SettleStops told a b d (PumpAt a b ∷ []) f (Refused why) d) (sym none) (gives_up told a b d may (PumpAt a b ∷ []) why untold (inl other));
            noted = plain_same new (subst (λ (m : Doubted). IsAs m m.world new) leaves left);
          })
      by_finds untold last (TakesOther number q x is takes none says leaves) left = absurd (cc)
      by_finds untold last (KeepsOther number q is takes none says leaves) left = absurd (cc)
      by_finds untold last (LosesOther number q is takes none says leaves) left = absurd (cc)
      by_finds untold last (SettlesOther q r middle is moves finds) left = absurd (cc)

      by : OneEnds told (noted_as fuses d) (Pump p s) (PumpAt a b) fails said new → GoesTo told a b d (PumpAt a b ∷ []) fails new said
      by (OneDone none reply left) =
          reply_on (OnTo told a b d (PumpAt a b ∷ []) fails new) (λ why. EndTo told a b d (PumpAt a b ∷ []) fails why new) (step (burnt_world fuses d.world) (PumpAt a b)).world 0 (step (burnt_world fuses d.world) (PumpAt a b)).said said
          (ap (λ (x : EventSaid). is_refused x) (said_same (PumpAt a b) ∙ pump_done d.world a b may.can)) reply
          (record { next = happened d (PumpAt a b) false; borne = borne_none d.world b fails none; works = works_pump told a b d may; noted = plain_done (PumpAt a b) new refl left })
      by (OneHalts site disk opens writes place one says left) = absurd writes
      by (OneCut site kept taken opens writes fused one says left) = absurd writes
      by (OneUnread site disk reads place one says left) =
          subst (λ (x : Said). GoesTo told a b d (PumpAt a b ∷ []) fails new x) (sym says)
          (record {
            last = d;
            sites = refl;
            stops = subst (λ (f : Fails). SettleStops told a b d (PumpAt a b ∷ []) f (Refused (Device disk)) d) (ap (λ (i : ℕ). (i, disk) ∷ []) reads.0 ∙ sym one) (stops_unread told a b d may disk reads.1 (subst (λ (i : ℕ). IsLogDisk (d.world.nodes i) disk) (sym reads.0) place));
            noted = plain_same new left;
          })
      by (OneFull site takes lacks one says left) = absurd takes
      by (OneFinds untold last finds left) = by_finds untold last finds left

  -- a packet that settling sent, and which goes between the two

  pub deliver_goes : (number : ℕ) (q : Packet) (fails : Fails) (said : Said) (new : Doubted) → packet_at d.world.packets number ≡ Some q → IsSent a b q → is_between a b q ≡ true
      → LinkEnds told (noted_as fuses d) (Deliver number) fails said new → GoesTo told a b d (DeliverAt number ∷ []) fails new said
  deliver_goes number q fails said new at sent between ends =
      by (one_ends told (noted_as fuses d) calm (Deliver number) (DeliverAt number) fails said new refl refl refl (λ last reply. reply) ends)
    where
      target_one : (q.target ≡ a) ⊎ (q.target ≡ b)
      target_one = target_of a b q between

      -- what the line notes
      noted_on : (m : Doubted) (f : ℕ → Fuse) → MayBurn a b f m.world → (c : Bool) → (e : Doubted) → e ≡ record m { world = if c then worked_on (burnt_world f m.world) q.target else burnt_world f m.world } → NotedAs a b m e
      noted_on m f some true e is = record {
        fuses = noted_at f q.target;
        burns = burns_noted a b f m.world q.target target_one some;
        is = is ∙ ap (λ (x : World). let y : Doubted = record m { world = x } in y) (worked_burnt f m.world q.target);
      }
      noted_on m f some false e is = record { fuses = f; burns = some; is = is }

      left_noted : (m : Doubted) (f : ℕ → Fuse) (last : Doubted) → MayBurn a b f m.world → last ≡ noted_as f m → AreLeft (Deliver number) (noted_as fuses d) last new → NotedAs a b m new
      left_noted m f last some is left =
          noted_on m f some (ltb q.target d.world.sites) new
          (after_is (link_noted (burnt_world fuses d.world) (Deliver number) last.world) new last left
          ∙ ap (λ (x : Doubted). let y : Doubted = record x { world = link_noted (burnt_world fuses d.world) (Deliver number) x.world } in y) is
          ∙ ap (λ (o : Option Packet). let y : Doubted = record m { world = target_noted d.world.sites o (burnt_world f m.world) } in y) at)

      -- one that is heard of a link is heard at the first site
      site_is : (site : ℕ) → WritesAt (burnt_world fuses d.world) (DeliverAt number) site → site ≡ a
      site_is site writes =
          let same : writes.0 ≡ q = same_Some writes.0 q (sym writes.1 ∙ at) in
          sym writes.2 ∙ ap (λ (x : Packet). x.target) same ∙ first_heard a b q may.can.apart sent between (λ k x is. writes.3 k x (ap (λ (y : Packet). y.message) same ∙ is))

      -- and its header is written whatever fuses are noted
      heard_pure : (site : ℕ) → WritesAt (burnt_world fuses d.world) (DeliverAt number) site → WritesAt d.world (DeliverAt number) site
      heard_pure site h = (
        h.0,
        h.1,
        h.2,
        h.3,
        subst (λ (k : ℕ). (d.world.links site h.0.source).stored < k) (stored_pure (d.world.nodes site) (fuses site) (d.world.links site h.0.source) h.0 h.0.message) h.4,
      )

      moved_may : (q' : Packet) → q' ≡ q → (m : MayTake d.world number q') → (n : MayTake d.world number q) × (n.count ≡ m.count)
      moved_may q' same m = subst (λ (x : Packet). (n : MayTake d.world number x) × (n.count ≡ m.count)) same (m, refl)

      take : (number' : ℕ) (q' : Packet) → Deliver number ≡ Deliver number' → (takes : MayTake (burnt_world fuses d.world) number' q') → (q' ≡ q) × ((n : MayTake d.world number q) × (n.count ≡ takes.count))
      take number' q' is takes =
          let n : number' ≡ number = (let e : Deliver number ≡ Deliver number' = is in cc) in
          let there : packet_at d.world.packets number ≡ Some q' = ap (λ (k : ℕ). packet_at d.world.packets k) (sym n) ∙ takes.packet in
          let same : q' ≡ q = same_Some q' q (sym there ∙ at) in (
            same,
            moved_may q' same (record { packet = there; count = takes.count; write = takes.write; message = takes.message; opens = takes.opens; receives = takes.receives; next = takes.next }),
          )

      other_noted : (m : Doubted) (n : Node) (g : Option Gathering) (more : List Packet) (last : Doubted) → m ≡ record d { world = target_with d.world q.target n g more } → n.fuse ≡ (d.world.nodes q.target).fuse
          → last ≡ record (noted_as fuses d) { world = target_with (burnt_world fuses d.world) q.target (record n { fuse = fuses q.target }) g more } → AreLeft (Deliver number) (noted_as fuses d) last new → NotedAs a b m new
      other_noted m n g more last m_is fuse last_is left =
          subst (λ (x : Doubted). NotedAs a b x new) (sym m_is)
          (left_noted (record d { world = target_with d.world q.target n g more }) fuses last
          (burns_kept a b fuses d.world (target_with d.world q.target n g more) (λ i. fuse_at d.world.nodes q.target n i fuse) burns)
          (last_is ∙ ap (λ (x : World). let y : Doubted = record d { world = x } in y) (target_burnt fuses d.world q.target n g more)) left)

      by_finds : (told → ⊥) → (last : Doubted) → FindsOther (noted_as fuses d) (Deliver number) fails said last → AreLeft (Deliver number) (noted_as fuses d) last new → GoesTo told a b d (DeliverAt number ∷ []) fails new said
      by_finds untold last (SendsOther p r more is sends none says leaves) left = absurd (cc)
      by_finds untold last (ReadsNone p r why is other none says leaves) left = absurd (cc)
      by_finds untold last (TakesOther number' q' x is takes none says leaves) left =
          let t = take number' q' is takes in
          let m : MayTake d.world number q = t.1.0 in
          let n : Node = with_write (d.world.nodes q.target) q.source x in
          let more : List Packet = packets_of q.target q.source (d.world.nodes q.target).line (NetAck (d.world.nodes q.target).session m.count) in
          subst (λ (y : Said). GoesTo told a b d (DeliverAt number ∷ []) fails new y) (sym says)
          (record {
            next = record d { world = taken_with d.world q m.count x };
            borne = borne_none d.world b fails none;
            works = works_take_other told a b d may number q sent x untold m;
            noted = other_noted (record d { world = taken_with d.world q m.count x }) n None more last refl refl
                (leaves
                ∙ ap (λ (k : ℕ). let z : Doubted = record (noted_as fuses d) { world = taken_with (burnt_world fuses d.world) q' k x } in z) (sym t.1.1)
                ∙ ap (λ (y : Packet). let z : Doubted = record (noted_as fuses d) { world = taken_with (burnt_world fuses d.world) y m.count x } in z) t.0) left;
          })
      by_finds untold last (KeepsOther number' q' is takes none says leaves) left =
          let t = take number' q' is takes in
          subst (λ (y : Said). GoesTo told a b d (DeliverAt number ∷ []) fails new y) (sym says)
          (record {
            next = record d { world = kept_with d.world q };
            borne = borne_none d.world b fails none;
            works = works_keep_other told a b d may number q sent untold t.1.0;
            noted = other_noted (record d { world = kept_with d.world q }) (d.world.nodes q.target) (Some (record { key = key_of q; came = came_after (d.world.gathering q.target) q })) [] last refl refl
                (leaves ∙ ap (λ (y : Packet). let z : Doubted = record (noted_as fuses d) { world = kept_with (burnt_world fuses d.world) y } in z) t.0) left;
          })
      by_finds untold last (LosesOther number' q' is takes none says leaves) left =
          subst (λ (y : Said). GoesTo told a b d (DeliverAt number ∷ []) fails new y) (sym says)
          (record { next = d; borne = borne_none d.world b fails none; works = works_lose_other told a b d may number q sent untold; noted = left_noted d fuses last burns leaves left })
      by_finds untold last (SettlesOther p r middle is moves finds) left = absurd (cc)

      by : OneEnds told (noted_as fuses d) (Deliver number) (DeliverAt number) fails said new → GoesTo told a b d (DeliverAt number ∷ []) fails new said
      by (OneDone none reply left) =
          reply_on (OnTo told a b d (DeliverAt number ∷ []) fails new) (λ why. EndTo told a b d (DeliverAt number ∷ []) fails why new) (step (burnt_world fuses d.world) (DeliverAt number)).world 0 (step (burnt_world fuses d.world) (DeliverAt number)).said said
          (delivered_says (burnt_world fuses d.world) number q at) reply
          (record {
            next = happened d (DeliverAt number) false;
            borne = borne_none d.world b fails none;
            works = works_deliver told a b d may number q sent at between;
            noted = left_noted (happened d (DeliverAt number) false) fuses (happened (noted_as fuses d) (DeliverAt number) false) (burns_done (DeliverAt number) refl) (done_noted (DeliverAt number) refl) left;
          })
      by (OneHalts site disk opens writes place one says left) =
          let here : site ≡ a = site_is site writes in
          subst (λ (x : Said). GoesTo told a b d (DeliverAt number ∷ []) fails new x) (sym says)
          (record {
            last = halved d (DeliverAt number) site disk;
            sites = refl;
            stops = subst (λ (f : Fails). SettleStops told a b d (DeliverAt number ∷ []) f (Refused (Device disk)) (halved d (DeliverAt number) site disk)) (sym one)
                (subst (λ (i : ℕ). SettleStops told a b d (DeliverAt number ∷ []) ((i, disk) ∷ []) (Refused (Device disk)) (halved d (DeliverAt number) i disk)) (sym here)
                (stops_header told a b d may number disk (subst (λ (i : ℕ). IsOpen (d.world.nodes i)) here opens) (subst (λ (i : ℕ). WritesAt d.world (DeliverAt number) i) here (heard_pure site writes)) (subst (λ (i : ℕ). IsLogDisk (d.world.nodes i) disk) here place)));
            noted = left_noted (halved d (DeliverAt number) site disk) (noted_at fuses site) (halved (noted_as fuses d) (DeliverAt number) site disk) (burns_halved a b fuses d (DeliverAt number) site disk burns)
                (halved_burnt fuses d fit a b burns (DeliverAt number) refl site disk) left;
          })
      by (OneCut site kept taken opens writes lit one says left) =
          let here : site ≡ a = site_is site writes in
          let half : Doubted = halved d (DeliverAt number) site 0 in
          subst (λ (x : Said). GoesTo told a b d (DeliverAt number ∷ []) fails new x) (sym says)
          (record {
            last = crashed_as half site kept taken;
            sites = crashed_sites half site kept taken;
            stops = subst (λ (f : Fails). SettleStops told a b d (DeliverAt number ∷ []) f (Refused IsOff) (crashed_as half site kept taken)) (sym one)
                (subst (λ (i : ℕ). SettleStops told a b d (DeliverAt number ∷ []) [] (Refused IsOff) (crashed_as (halved d (DeliverAt number) i 0) i kept taken)) (sym here)
                (cuts_header told a b d may number kept taken (subst (λ (i : ℕ). IsOpen (d.world.nodes i)) here opens) (subst (λ (i : ℕ). WritesAt d.world (DeliverAt number) i) here (heard_pure site writes))
                (subst (λ (i : ℕ). IsFused (d.world.nodes i).fuse) here (fused_pure a b fuses d.world burns site lit))));
            noted = left_noted (crashed_as half site kept taken) (updated (noted_at fuses site) site NoFuse) (crashed_as (halved (noted_as fuses d) (DeliverAt number) site 0) site kept taken)
                (burns_crashed a b (noted_at fuses site) half site kept taken (burns_halved a b fuses d (DeliverAt number) site 0 burns))
                (ap (λ (x : Doubted). crashed_as x site kept taken) (halved_burnt fuses d fit a b burns (DeliverAt number) refl site 0) ∙ crashed_burnt (noted_at fuses site) half site kept taken) left;
          })
      by (OneUnread site disk reads place one says left) = absurd reads
      by (OneFull site takes lacks one says left) =
          let here : site ≡ a = site_is site takes in
          subst (λ (x : Said). GoesTo told a b d (DeliverAt number ∷ []) fails new x) (sym says)
          (record {
            last = d;
            sites = refl;
            stops = subst (λ (f : Fails). SettleStops told a b d (DeliverAt number ∷ []) f (Refused (Limit Number MOST_NUMBER)) d) (sym one)
                (lacks_header told a b d may number (subst (λ (i : ℕ). WritesAt d.world (DeliverAt number) i) here (heard_pure site takes))
                (subst (λ (i : ℕ). told → MOST_NUMBER ≤ most_stamp_at d.world i + stamps_of (DeliverAt number) d.world i) here lacks));
            noted = left_noted d fuses (noted_as fuses d) burns refl left;
          })
      by (OneFinds untold last finds left) = by_finds untold last finds left

  -- a connect is done
  pub connect_says : (p s : List ℕ) (fails : Fails) (said : Said) (new : Doubted) → site_number d.world p ≡ a → site_number d.world s ≡ b → LinkEnds told (noted_as fuses d) (Connect p s) fails said new → said ≡ Done
  connect_says p s fails said new from to ends =
      by (one_ends told (noted_as fuses d) calm (Connect p s) (ConnectAt a b) fails said new
      (ap (λ (i : ℕ). ConnectAt i (site_number (burnt_world fuses d.world) s) ∷ []) (number_burnt fuses d.world p ∙ from) ∙ ap (λ (j : ℕ). ConnectAt a j ∷ []) (number_burnt fuses d.world s ∙ to)) refl refl (λ last reply. reply) ends)
    where
      by : OneEnds told (noted_as fuses d) (Connect p s) (ConnectAt a b) fails said new → said ≡ Done
      by (OneDone none reply left) =
          subst (λ (x : EventSaid). RepeatsSaid (step (burnt_world fuses d.world) (ConnectAt a b)).world 0 x said) (said_same (ConnectAt a b) ∙ connect_done d.world a b may.can) reply
      by (OneHalts site disk opens writes place one says left) = absurd writes
      by (OneCut site kept taken opens writes fused one says left) = absurd writes
      by (OneUnread site disk reads place one says left) = absurd reads
      by (OneFull site takes lacks one says left) = absurd takes
      by (OneFinds untold last (SendsOther q r more is sends none says leaves) left) = absurd (cc)
      by (OneFinds untold last (ReadsNone q r why is other none says leaves) left) = absurd (cc)
      by (OneFinds untold last (TakesOther number q x is takes none says leaves) left) = absurd (cc)
      by (OneFinds untold last (KeepsOther number q is takes none says leaves) left) = absurd (cc)
      by (OneFinds untold last (LosesOther number q is takes none says leaves) left) = absurd (cc)
      by (OneFinds untold last (SettlesOther q r middle is moves finds) left) = absurd (cc)
