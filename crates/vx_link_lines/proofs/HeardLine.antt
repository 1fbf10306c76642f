-- A greeting or an acknowledgement that a link hears leads a yard to what the event makes of the world.
use Rattle.std.proofs.Common.{◌≡◌, ◌∙◌, ◌⊎◌, ⊎_elim, ◌+◌, ◌<◌, ◌≤◌, ℕ, Bool, true, false, List, [], ◌++◌, length, ap, sym, subst, refl, arith}
use Rattle.std.specs.Prelude.{Option, Some, None, Err, slice_get, slice_set, ltb, if◌then◌else◌}
use Rattle.std.proofs.lemmas.Bool.{cases_eq, cases_lt}
use Rattle.std.proofs.lemmas.Bool.Decides.{nat_tests}
use Rattle.std.proofs.lemmas.List.{append-nil}
use Rattle.vx_model.specs.Sites.{is_origin}
use Rattle.vx_model.specs.declared.errors.Stop.{Stop}
use Rattle.vx_model.specs.declared.errors.Stop.TheVariants.{No as StoppedBy, OutOfMemory as NoMemory}
use Rattle.vx_model.specs.declared.limits.TheConstants.{MOST_SITES}
use Rattle.vx_model.specs.declared.no.No.{No}
use Rattle.vx_model.specs.declared.no.No.TheVariants.{Device, Limit, Down as IsOff}
use Rattle.vx_model.specs.declared.state.KeptLink.{KeptLink}
use Rattle.vx_history.proofs.Fuses.{burned_twice, worked_twice}
use Rattle.vx_history.proofs.Updates.{all_updated}
use Rattle.vx_history.specs.Doubts.{After, Doubted}
use Rattle.vx_history.specs.Events.{delivered, handed, packet_at}
use Rattle.vx_history.specs.Headers.{heard_headers}
use Rattle.vx_history.specs.Refusals.{Outcome, says}
use Rattle.vx_history.specs.Step.{headers_counted, step}
use Rattle.vx_history.specs.Steps.{burned, worked, worked_on}
use Rattle.vx_history.specs.Stops.{IsFused, IsOpen}
use Rattle.vx_history.specs.World.{Fuse, FuseLit, FuseSet, NoFuse, Node, Packet, World}
use Rattle.vx_history.specs.declared.event.Event.{Event}
use Rattle.vx_history.specs.declared.event.Event.TheVariants.{Deliver as DeliverAt}
use Rattle.vx_history.specs.declared.event.Said.{Said as EventSaid}
use Rattle.vx_history.specs.declared.event.Said.TheVariants.{Ignored as IsIgnored, Taken as IsTaken}
use Rattle.vx_order.specs.declared.facts.SiteFacts.{SiteFacts}
use Rattle.vx_script.specs.declared.line.ScriptLine.TheVariants.{Deliver}
use Rattle.vx_courier.specs.Together.{AssemblyStands}
use Rattle.vx_courier.specs.UnderWay.{FlightStands}
use Rattle.vx_disk.specs.declared.shelf.Shelf.{Ghosts}
use Rattle.vx_net.specs.Flights.{Flying}
use Rattle.vx_packet.specs.Assemblies.{Assembled}
use Rattle.vx_peers.specs.Answers.{is_answer}
use Rattle.vx_diskset.proofs.Roles.{role_like}
use Rattle.vx_diskset.proofs.Worked.{stands_worked}
use Rattle.vx_diskset.specs.Asked.{FailsAs, FusedAs, LeavesFuse, size_in}
use Rattle.vx_diskset.specs.Burning.{Burnt, NoMore}
use Rattle.vx_diskset.specs.DiskSets.{CrashedAt, halted_at}
use Rattle.vx_diskset.specs.Holds.{KeptBeside, beside_of, doubt_of, header_links, row_links, state_with}
use Rattle.vx_diskset.specs.Keeps.{KeptAt}
use Rattle.vx_diskset.specs.Stands.{KeepsRole, RoleIs, SiteStands}
use Rattle.vx_diskset.specs.declared.disk_set.DiskSet.{DiskSet}
use Rattle.vx_effects.proofs.TargetAnswers.{deaf_stays, source_stays, target_stays}
use Rattle.vx_effects.proofs.Fitting.{fit_happened}
use Rattle.vx_effects.proofs.Leaving.{fit_worked}
use Rattle.vx_effects.proofs.Packets.{no_header}
use Rattle.vx_events.proofs.Places.{never_some, some_same}
use Rattle.vx_events.specs.Effects.{ChangesNode, EffectAt}
use Rattle.vx_events.specs.LinkEnds.{LinkEnds, LinksDone, link_noted, target_noted}
use Rattle.vx_events.specs.StepsOver.{facts_over}
use Rattle.vx_events.specs.LinksFit.{LinksFit}
use Rattle.vx_events.specs.Sayings.{RepeatsSaid}
use Rattle.vx_events.specs.declared.said.Said.{Said}
use Rattle.vx_events.specs.declared.said.Said.TheVariants.{Done, Ignored, Refused}
use Rattle.vx_joins.specs.Hearings.{StoresAt}
use Rattle.vx_linked.specs.Disks.{LeavesDisks}
use Rattle.vx_yard.specs.Carries.{Carries}
use Rattle.vx_yard.specs.Happenings.{reply_of}
use Rattle.vx_link_lines.specs.Headed.{NextFor, behind, noted_by}
use Rattle.vx_yard.specs.Replies.{refusal_in}
use Rattle.vx_yard.specs.Standing.{Leads, StandsFor, StaysFor, BeginsFirst}
use Rattle.vx_yard.specs.Writes.{noted_facts}
use Rattle.vx_yard.specs.Yards.{IsTold, count_of}
use Rattle.vx_yard.specs.declared.yard.Yard.{Yard}
use Rattle.vx_yard.proofs.ApplySite.{calls_keep}
use Rattle.vx_yard.proofs.Carrying.{Feeds, LetsGoBy, carries_on, feeds_like, feeds_same}
use Rattle.vx_yard.proofs.ChangeSite.{rose_none}
use Rattle.vx_yard.proofs.CrashLine.{rose_still}
use Rattle.vx_yard.proofs.CrashSite.{beside_sure}
use Rattle.vx_yard.proofs.FailsStay.{fails_then}
use Rattle.vx_yard.proofs.FuseStays.{fused_on, left_passed}
use Rattle.vx_link_lines.proofs.HeaderCalls.{Answered, IsHeader, answered_keep, in_doubt}
use Rattle.vx_link_lines.proofs.Headed.{headed_refused}
use Rattle.vx_link_lines.proofs.HeadedEnds.{IsBehind, headed_ends}
use Rattle.vx_link_lines.proofs.HeadedWorlds.{noted_effect}
use Rattle.vx_link_lines.proofs.HeardWorld.{answer_says, heard_effect, heard_header, heard_kept, heard_rose, no_update, rises_by, row}
use Rattle.vx_yard.proofs.LinkLines.{Relinks, carries_kept, stands_kept}
use Rattle.vx_yard.proofs.Lists.{get-set_other, get-set_same, length-set}
use Rattle.vx_link_lines.proofs.NotedYard.{note_one, notes_one, stands_noted, sure_open}
use Rattle.vx_yard.proofs.OverGroup.{noted_none}
use Rattle.vx_yard.proofs.OneSite.{Changed, role_kept, told_by}
use Rattle.vx_link_lines.proofs.PartLine.{header_done}
use Rattle.vx_yard.proofs.Rows.{row_links_same}
use Rattle.vx_link_lines.proofs.Turned.{stands_turned}
use Rattle.vx_link_lines.proofs.UpdateLine.{done_as}

less_true : (a b : ℕ) → a < b → ltb a b ≡ true
less_true a b less = grind (arith, nat_tests)

-- what is noted of the target
noted_for : (d : Doubted) (number : ℕ) (p : Packet) (v : World) → packet_at d.world.packets number ≡ Some p → p.target < d.world.sites → link_noted d.world (Deliver number) v ≡ worked_on v p.target
noted_for d number p v at below =
    ap (λ (o : Option Packet). target_noted d.world.sites o v) at ∙ ap (λ (b : Bool). if b then worked_on v p.target else v) (less_true p.target d.world.sites below)

-- a fuse that may run out may do so behind a note
burns_too : (f : Fuse) → IsFused f → IsFused (burned f)
burns_too NoFuse h = h
burns_too (FuseSet calls) h = tt
burns_too (FuseLit most) h = tt

-- a stop is a refusal, or want of memory
pub stop_is : (stop : Stop) (why : No) → refusal_in stop ≡ Some why → stop ≡ StoppedBy why
stop_is (StoppedBy x) why e = ap (λ (y : No). StoppedBy y) (some_same e)
stop_is NoMemory why e = absurd (never_some e)

pub stop_none : (stop : Stop) → refusal_in stop ≡ None → stop ≡ NoMemory
stop_none (StoppedBy x) e = absurd (never_some (sym e))
stop_none NoMemory e = refl

-- what is said of an answer is its reply
says_so : (v : World) (x : EventSaid) → (x ≡ IsTaken) ⊎ (x ≡ IsIgnored) → RepeatsSaid v 0 x (reply_of x)
says_so v x one = ⊎_elim
    (λ (is : x ≡ IsTaken). subst (λ (y : EventSaid). RepeatsSaid v 0 y (reply_of y)) (sym is) refl)
    (λ (is : x ≡ IsIgnored). subst (λ (y : EventSaid). RepeatsSaid v 0 y (reply_of y)) (sym is) refl) one

halted_noted : (n : Node) (disk : ℕ) → halted_at (worked n) disk ≡ halted_at n disk
halted_noted n disk = ap (λ (f : Fuse). let m : Node = record n { halted = Some disk; fuse = f } in m) (burned_twice n.fuse)

-- no header is written of what nobody hears
none_heard : (w : World) (i : ℕ) (q : Option Packet) → heard_headers w w i q ≡ 0
none_heard w i None = refl
none_heard w i (Some p) = no_header w w i p refl

none_more : (w : World) (i : ℕ) (q : Option Packet) → w.headers i + heard_headers w w i q ≡ w.headers i
none_more w i q = let zero = none_heard w i q in omega (arith, zero)

-- what is sent to no site notes nothing
unnoted : (d : Doubted) (number : ℕ) (p : Packet) (v : World) → packet_at d.world.packets number ≡ Some p → d.world.sites ≤ p.target → link_noted d.world (Deliver number) v ≡ v
unnoted d number p v at past =
    ap (λ (o : Option Packet). target_noted d.world.sites o v) at ∙ ap (λ (b : Bool). if b then worked_on v p.target else v) (not_below p.target d.world.sites past)
  where
    not_below : (a b : ℕ) → b ≤ a → ltb a b ≡ false
    not_below a b past = grind (arith, nat_tests)

-- no link hears it: its source is no site, or the target does not listen
pub deaf_to : (d : Doubted) (number : ℕ) (p : Packet) → packet_at d.world.packets number ≡ Some p → is_answer p.message ≡ true → LinksFit d → (p.source < d.world.sites → handed d.world p ≡ says d.world IsIgnored)
    → delivered d.world number (packet_at d.world.packets number) ≡ says d.world IsIgnored
deaf_to d number p at answers fits deaf = ⊎_elim
    (λ (small : p.source < d.world.sites). deaf_stays d.world number p at (deaf small))
    (λ (past : d.world.sites ≤ p.source). source_stays d number p fits at (no_update d number p at answers) past) (cases_lt p.source d.world.sites)

module _ {R : Type 0} {g : Ghosts R} where
  -- a refusal of a header at a site whose fuse is noted
  doubted : (P : KeptBeside → Node → DiskSet R g → Type 0) (beside : KeptBeside) (n : Node) (ls : List KeptLink) (disk : ℕ) (e : DiskSet R g) → P (in_doubt beside n ls disk) (halted_at n disk) e
      → P (in_doubt beside (worked n) ls disk) (halted_at (worked n) disk) e
  doubted P beside n ls disk e is =
      subst (λ (k : Node). P (record { links = beside.links; headers = beside.headers + 1; doubt = Some (record { node = k; links = ls; headers = beside.headers + 1 }) }) k e) (sym (halted_noted n disk)) is

  pub refused_noted : (beside : KeptBeside) (n : Node) (ls : List KeptLink) (old new : DiskSet R g) (why : No) → Answered CrashedAt beside n n ls old new (Err why) → Answered CrashedAt beside (worked n) (worked n) ls old new (Err why)
  refused_noted beside n ls old new (Device disk) is = (doubted (λ b k e. SiteStands b k e) beside n ls disk new is.0, is.1, is.2)
  refused_noted beside n ls old new (Limit what most) is = (is.0, is.1, stands_worked beside n new is.2)
  refused_noted beside n ls old new IsOff is = (burns_too n.fuse is.0, doubted (λ b k e. CrashedAt b k e) beside n ls 0 new is.1)
  refused_noted beside n ls old new other is = absurd is

  -- ---- what the yard carries

  -- another thing is in assembly at one site
  pub carries_heard : (d e : Doubted) (s : ℕ) (a : Assembled) (old new : Yard R g) → ChangesNode s d e → e.world.packets ≡ d.world.packets → new.flight ≡ old.flight → (IsTold new → e.strayed ≡ false → AssemblyStands e.world.packets s (e.world.gathering s) a)
      → new.assemblies.items ≡ slice_set old.assemblies.items s a → new.feeders.items ≡ old.feeders.items → Feeds (d.world.nodes s) (e.world.nodes s) → s < MOST_SITES → (IsTold new → IsTold old) → Carries d old → Carries e new
  carries_heard d e s a old new changes packets flight here assemblies feeders feeds below told carries = record {
    flight = subst (λ (ps : List Packet). FlightStands ps new.flight) (sym packets) (subst (λ (f : Flying). FlightStands d.world.packets f) (sym flight) carries.flight);
    places = ap (λ (xs : List Assembled). length xs) assemblies ∙ length-set old.assemblies.items s a ∙ carries.places;
    assemblies = λ tells calm i b is. ⊎_elim
        (λ (same : i ≡ s).
        let found : a ≡ b = some_same (sym (get-set_same old.assemblies.items s a (omega (arith, below, carries.places))) ∙ ap (λ (k : ℕ). slice_get (slice_set old.assemblies.items s a) k) (sym same) ∙ at i b is) in
        subst (λ (k : ℕ). AssemblyStands e.world.packets k (e.world.gathering k) b) (sym same) (subst (λ (c : Assembled). AssemblyStands e.world.packets s (e.world.gathering s) c) found (here tells calm)))
        (λ apart.
        subst (λ (ps : List Packet). AssemblyStands ps i (e.world.gathering i) b) (sym packets)
        (subst (λ o. AssemblyStands d.world.packets i o b) (sym (changes.gathering i apart))
        (carries.assemblies (told tells) (changes.strayed calm) i b (sym (get-set_other old.assemblies.items s i a apart) ∙ at i b is))))
        (cases_eq i s);
    numbers = ap (λ (fs : List ℕ). length fs) feeders ∙ carries.numbers;
    feeders = λ i f is up receives.
        let was = (feeds_at i).each up receives in
        carries.feeders i f (sym (ap (λ (fs : List ℕ). slice_get fs i) feeders) ∙ is) was.0 was.1 ∙ sym was.2;
  }
    where
      at : (i : ℕ) (b : Assembled) → slice_get new.assemblies.items i ≡ Some b → slice_get (slice_set old.assemblies.items s a) i ≡ Some b
      at i b is = sym (ap (λ (xs : List Assembled). slice_get xs i) assemblies) ∙ is

      feeds_at : (i : ℕ) → Feeds (d.world.nodes i) (e.world.nodes i)
      feeds_at i = ⊎_elim (λ (same : i ≡ s). subst (λ (k : ℕ). Feeds (d.world.nodes k) (e.world.nodes k)) (sym same) feeds) (λ apart. feeds_same (d.world.nodes i) (e.world.nodes i) (changes.nodes i apart)) (cases_eq i s)

  -- it does not look at fuses
  pub carries_noted : (d : Doubted) (s : ℕ) (y : Yard R g) → Carries d y → Carries (noted_by (note_one s) d) y
  carries_noted d s y carries = carries_on d (noted_by (note_one s) d) y y carries (record { flight = refl; assemblies = refl; feeders = refl }) refl (λ i. refl) feeds_noted (λ told. told) (λ calm. calm)
    where
      feeds_noted : (i : ℕ) → Feeds (d.world.nodes i) (note_one s d.world.nodes i)
      feeds_noted = all_updated (λ (i : ℕ) (m : Node). Feeds (d.world.nodes i) m) d.world.nodes s (worked (d.world.nodes s)) (feeds_like (d.world.nodes s) (worked (d.world.nodes s)) refl refl refl)
          (λ i apart. feeds_same (d.world.nodes i) (d.world.nodes i) refl)

  -- ---- the yard behind the call

  module _ (d : Doubted) (number : ℕ) (p : Packet) (at : packet_at d.world.packets number ≡ Some p) (answers : is_answer p.message ≡ true) (old new : Yard R g) (before after : DiskSet R g) (stands : StandsFor d old)
      (below : p.target < d.world.sites) (changed : Changed old new p.target before after) (keeps : KeepsRole before after) (opens : IsOpen (d.world.nodes p.target))
      (none : (d.world.nodes p.target).group ≡ None) where
    abbrev s : ℕ
    s = p.target

    abbrev n : Node
    n = d.world.nodes s

    abbrev event : Event
    event = DeliverAt number

    abbrev o : Outcome
    o = delivered d.world number (packet_at d.world.packets number)

    abbrev ls : List KeptLink
    ls = header_links o.world s

    abbrev start : Doubted
    start = noted_by (note_one s) d

    abbrev to : Doubted
    to = noted_by (note_one s) (behind d event)

    noted : StandsFor start old
    noted = stands_noted d old s before stands below changed.there

    role : RoleIs n after
    role = role_kept d old s before after stands below changed.there keeps

    sure : d.after s ≡ None
    sure = sure_open d s stands.links opens

    leads_by : {e : Doubted} {fails : List (ℕ × ℕ)} {said : Said} → LinkEnds (IsTold new) d (Deliver number) fails said e → NextFor fails start e old new → Leads d (Deliver number) said old new
    leads_by {e} {fails} ends next = record {
      next = e;
      fails = fails;
      done = record { ends = ends; counts = tt; works = tt; calls = tt };
      stands = next.stands;
      carries = λ carries. next.carries (carries_noted d s old carries);
      rose = next.rose;
    }

    -- what the yard has of it, where it is heard
    pub record Heard (a : Assembled) (said : EventSaid) : Type 0 where
      pub says : said ≡ o.said
      pub calls : LeavesFuse NoMore Done before after
      pub facts : new.facts.items ≡ facts_over (behind d event).world
      pub flight : new.flight ≡ old.flight
      pub assemblies : new.assemblies.items ≡ slice_set old.assemblies.items s a
      pub feeders : new.feeders.items ≡ old.feeders.items
      pub exact : IsTold new → d.strayed ≡ false → AssemblyStands o.world.packets s (o.world.gathering s) a

    module _ (a : Assembled) (said : EventSaid) (h : Heard a said) where
      carried : {many : ℕ} → EffectAt s d (behind d event) n (row d number p at answers) many (d.after s) d.world.packets (o.world.gathering s) → Carries start old → Carries to new
      carried f carries =
          let w = noted_effect (note_one s) s (notes_one s) d (behind d event) f in
          let was : start.world.nodes s ≡ worked n = (notes_one s).here d.world.nodes in
          carries_heard start to s a old new w.site w.sent h.flight h.exact h.assemblies h.feeders
          (subst (λ (m : Node). Feeds m (to.world.nodes s)) (sym was) (subst (λ (m : Node). Feeds (worked n) m) (sym w.is.node) (feeds_same (worked n) (worked n) refl)))
          (omega (arith, below, stands.disk_sets.few)) (λ told. told_by old new s before after changed told) carries

      ends : LinkEnds (IsTold new) d (Deliver number) [] (reply_of said) to
      ends =
          done_as (IsTold new) d number p (reply_of said) said at below (sym h.says)
          (subst (λ (x : EventSaid). RepeatsSaid (behind d event).world 0 x (reply_of x)) (sym h.says) (says_so (behind d event).world o.said (answer_says d number p at answers)))

      -- a header was written
      wrote : ltb (d.world.links s p.source).stored (o.world.links s p.source).stored ≡ true → StoresAt (beside_of d s) n true ls after → NextFor [] start to old new
      wrote rises stored =
          let header : IsHeader d event s n ls (o.world.gathering s) = heard_header d number p at answers rises stands.links opens none in
          header_done (note_one s) s (notes_one s) d event n ls (o.world.gathering s) header old before noted below changed.there new after changed role
          (subst (λ (k : Node). SiteStands (record { links = ls; headers = d.world.headers s + 1; doubt = None }) k after) (sym (worked_twice n)) stored) h.calls h.facts (carried (heard_rose d number p at answers rises))

      -- none was
      kept : ltb (d.world.links s p.source).stored (o.world.links s p.source).stored ≡ false → StoresAt (beside_of d s) n false ls after → NextFor [] start to old new
      kept stays stored =
          let f = heard_effect d number p at answers stays in
          let w = noted_effect (note_one s) s (notes_one s) d (behind d event) f in
          let there : worked n ≡ to.world.nodes s = sym w.is.node in
          let beside : beside_of to s ≡ record { links = ls; headers = d.world.headers s; doubt = None } =
          beside_sure to s ls (d.world.headers s)
          (row_links_same (row d number p at answers) (to.world.links s) w.is.links to.world.sites ∙ ap (λ (k : ℕ). row_links (row d number p at answers) k) w.site.sites ∙ heard_kept d number p at answers) w.is.headers (w.is.after ∙ sure) in
          let stood : SiteStands (record { links = ls; headers = d.world.headers s; doubt = None }) n after =
          subst (λ (x : Option After). SiteStands (record { links = ls; headers = d.world.headers s; doubt = doubt_of d.world s x }) n after) sure stored in
          record {
            stands = stands_turned start to old new s before after noted below changed
                (record {
                  changes = w.site;
                  links = (notes_one s).fits (behind d event) (fit_happened d event false tt stands.links);
                  stands = subst (λ (k : Node). SiteStands (beside_of to s) k after) there (subst (λ (b : KeptBeside). SiteStands b (worked n) after) (sym beside) (stands_worked (record { links = ls; headers = d.world.headers s; doubt = None }) n after stood));
                  failing = subst (λ (k : Node). FailsAs k after) there (fails_then n (worked n) before after refl (calls_keep NoMore Done before after h.calls) (stands.failing s before below changed.there));
                  fuse = subst (λ (k : Node). FusedAs k after) there
                      (fused_on (Burnt NoMore Done (size_in before)) n (worked n) (burned n.fuse) before after refl (λ x y burns left. left_passed n.fuse x.fuse y.fuse burns.fuse left) h.calls.told
                      (stands.fuses s before below changed.there));
                  role = role_like n (to.world.nodes s) after (ap (λ (k : Node). is_origin k.role) (sym there)) role;
                })
                (λ first. subst (λ (k : Node). BeginsFirst s k) ((notes_one s).here d.world.nodes ∙ there) first)
                (λ _. noted_none (record { links = ls; headers = d.world.headers s; doubt = None }) n (to.world.nodes s) after stood none)
                (h.facts ∙ sym ((notes_one s).shows (behind d event).world))
                (λ b is. absurd (never_some (sym (w.is.after ∙ sure) ∙ is)));
            carries = carried f;
            rose = rose_still old new s before after changed.there changed.later changed.disk_sets;
          }

      by_rose : (b : Bool) → ltb (d.world.links s p.source).stored (o.world.links s p.source).stored ≡ b → StoresAt (beside_of d s) n b ls after → NextFor [] start to old new
      by_rose true rises stored = wrote rises stored
      by_rose false stays stored = kept stays stored

      -- it was heard
      pub heard_leads : StoresAt (beside_of d s) n (ltb (d.world.links s p.source).stored (o.world.links s p.source).stored) ls after → Leads d (Deliver number) (reply_of said) old new
      heard_leads stored = leads_by ends (by_rose (ltb (d.world.links s p.source).stored (o.world.links s p.source).stored) refl stored)

    -- a header of it was refused
    pub unheard_leads : (why : No) (said : Said) (x x' : SiteFacts) → said ≡ Refused why → ltb (d.world.links s p.source).stored (o.world.links s p.source).stored ≡ true → KeptAt (beside_of d s) n (state_with n ls) before after (Err why)
        → LeavesFuse NoMore (Refused why) before after → slice_get old.facts.items s ≡ Some x → x' ≡ noted_facts why x → new.facts.items ≡ slice_set old.facts.items s x' → LetsGoBy why old new s → Leads d (Deliver number) said old new
    unheard_leads why said x x' says rises is calls shown facts_is facts lets =
        let header : IsHeader d event s n ls (o.world.gathering s) = heard_header d number p at answers rises stands.links opens none in
        let h = headed_refused (note_one s) s (notes_one s) d event n ls (o.world.gathering s) header old new before after noted below changed role why x x'
        (refused_noted (beside_of d s) n ls before after why (answered_keep CrashedAt (beside_of d s) n (state_with n ls) before after (Err why) is)) calls shown facts_is facts lets in
        let b : IsBehind d (Deliver number) (note_one s) event s d = record {
          before = [];
          rest = [];
          split = refl;
          runs = refl;
          none = refl;
          opens = opens;
          writes = (p, at, refl, no_update d number p at answers, rises_by d number p at answers opens rises);
          takes = (p, at, refl, no_update d number p at answers, rises_by d number p at answers opens rises);
          notes = λ v. noted_for d number p v at below;
          fused = λ f. f;
        } in
        let e = headed_ends d (Deliver number) (note_one s) event s d b old new why h in
        subst (λ (r : Said). Leads d (Deliver number) r old new) (sym says) (leads_by e.ends e.goes)

  -- ---- by the number of the site

  -- it was heard
  pub record HeardBy (d : Doubted) (number : ℕ) (p : Packet) (old new : Yard R g) (before after : DiskSet R g) (a : Assembled) (said : EventSaid) (t : ℕ) : Type 0 where
    pub below : t < d.world.sites
    pub changed : Changed old new t before after
    pub keeps : KeepsRole before after
    pub opens : IsOpen (d.world.nodes t)
    pub none : (d.world.nodes t).group ≡ None
    pub says : said ≡ (delivered d.world number (packet_at d.world.packets number)).said
    pub calls : LeavesFuse NoMore Done before after
    pub facts : new.facts.items ≡ facts_over (behind d (DeliverAt number)).world
    pub flight : new.flight ≡ old.flight
    pub assemblies : new.assemblies.items ≡ slice_set old.assemblies.items t a
    pub feeders : new.feeders.items ≡ old.feeders.items
    pub exact : IsTold new → d.strayed ≡ false → AssemblyStands (delivered d.world number (packet_at d.world.packets number)).world.packets t ((delivered d.world number (packet_at d.world.packets number)).world.gathering t) a
    pub stored : StoresAt (beside_of d t) (d.world.nodes t) (ltb (d.world.links t p.source).stored ((delivered d.world number (packet_at d.world.packets number)).world.links t p.source).stored)
        (header_links (delivered d.world number (packet_at d.world.packets number)).world t) after

  pub heard_by : (d : Doubted) (number : ℕ) (p : Packet) (old new : Yard R g) (before after : DiskSet R g) (a : Assembled) (said : EventSaid) (reply : Said) (t : ℕ) → packet_at d.world.packets number ≡ Some p → is_answer p.message ≡ true → StandsFor d old
      → p.target ≡ t → reply ≡ reply_of said → HeardBy d number p old new before after a said t → Leads d (Deliver number) reply old new
  heard_by d number p old new before after a said reply t at answers stands to says there =
      let h = subst (λ (i : ℕ). HeardBy d number p old new before after a said i) (sym to) there in
      subst (λ (r : Said). Leads d (Deliver number) r old new) (sym says)
      (heard_leads d number p at answers old new before after stands h.below h.changed h.keeps h.opens h.none a said
      (record { says = h.says; calls = h.calls; facts = h.facts; flight = h.flight; assemblies = h.assemblies; feeders = h.feeders; exact = h.exact }) h.stored)

  -- its header was refused
  pub record RefusedBy (d : Doubted) (number : ℕ) (p : Packet) (old new : Yard R g) (before after : DiskSet R g) (why : No) (x x' : SiteFacts) (t : ℕ) : Type 0 where
    pub below : t < d.world.sites
    pub changed : Changed old new t before after
    pub keeps : KeepsRole before after
    pub opens : IsOpen (d.world.nodes t)
    pub none : (d.world.nodes t).group ≡ None
    pub rises : (d.world.links t p.source).stored < ((delivered d.world number (packet_at d.world.packets number)).world.links t p.source).stored
    pub stops : KeptAt (beside_of d t) (d.world.nodes t) (state_with (d.world.nodes t) (header_links (delivered d.world number (packet_at d.world.packets number)).world t)) before after (Err why)
    pub calls : LeavesFuse NoMore (Refused why) before after
    pub shown : slice_get old.facts.items t ≡ Some x
    pub notes : x' ≡ noted_facts why x
    pub facts : new.facts.items ≡ slice_set old.facts.items t x'
    pub lets : LetsGoBy why old new t

  pub refused_by : (d : Doubted) (number : ℕ) (p : Packet) (old new : Yard R g) (before after : DiskSet R g) (why : No) (said : Said) (x x' : SiteFacts) (t : ℕ) → packet_at d.world.packets number ≡ Some p → is_answer p.message ≡ true
      → StandsFor d old → p.target ≡ t → said ≡ Refused why → RefusedBy d number p old new before after why x x' t → Leads d (Deliver number) said old new
  refused_by d number p old new before after why said x x' t at answers stands to says there =
      let h = subst (λ (i : ℕ). RefusedBy d number p old new before after why x x' i) (sym to) there in
      unheard_leads d number p at answers old new before after stands h.below h.changed h.keeps h.opens h.none why said x x' says
      (less_true (d.world.links p.target p.source).stored ((delivered d.world number (packet_at d.world.packets number)).world.links p.target p.source).stored h.rises) h.stops h.calls h.shown h.notes h.facts h.lets

  -- ---- nobody hears it

  -- nothing changes but the note of the fuse of its target
  pub unheard_stays : (d : Doubted) (number : ℕ) (p : Packet) (y : Yard R g) (e : DiskSet R g) → packet_at d.world.packets number ≡ Some p → StandsFor d y → p.target < d.world.sites → slice_get y.disk_sets.items p.target ≡ Some e
      → delivered d.world number (packet_at d.world.packets number) ≡ says d.world IsIgnored → Leads d (Deliver number) Ignored y y
  unheard_stays d number p y e at stands below there is =
      let s : ℕ = p.target in
      let start : Doubted = noted_by (note_one s) d in
      let v : World = worked_on (step d.world (DeliverAt number)).world s in
      let left : LeavesDisks start.world v =
      subst (λ (o : Outcome). LeavesDisks start.world (worked_on (headers_counted d.world (DeliverAt number) o).world s)) (sym is)
      (record { sites = refl; nodes = λ i. refl; kept = λ i. refl; headers = λ i. none_more d.world i (packet_at d.world.packets number); gathering = λ i. refl }) in
      let noted = stands_noted d y s e stands below there in
      let sent : v.packets ≡ start.world.packets ++ [] = ap (λ (o : Outcome). o.world.packets) is ∙ sym (append-nil d.world.packets) in
      let same : Relinks y y = record { disk_sets = refl; racks = refl; assemblies = refl; feeders = refl } in
      record {
        next = record start { world = v };
        fails = [];
        done = record {
          ends = done_as (IsTold y) d number p Ignored IsIgnored at below (ap (λ (o : Outcome). o.said) is) refl;
          counts = tt;
          works = tt;
          calls = tt;
        };
        stands = stands_kept start v y y noted left (fit_worked (behind d (DeliverAt number)) s (fit_happened d (DeliverAt number) false tt stands.links)) same
            (noted.facts ∙ subst (λ (o : Outcome). facts_over start.world ≡ facts_over (worked_on (headers_counted d.world (DeliverAt number) o).world s)) (sym is) refl);
        carries = λ carries. carries_kept start v y y [] (carries_noted d s y carries) left sent same
            (subst (λ (ps : List Packet). FlightStands ps y.flight) (sym (ap (λ (o : Outcome). o.world.packets) is)) carries.flight);
        rose = rose_none (count_of y) (count_of y) (λ k u. omega arith);
      }

  -- nor is there such a site
  pub unsited_stays : (d : Doubted) (number : ℕ) (p : Packet) (y : Yard R g) → packet_at d.world.packets number ≡ Some p → StandsFor d y → d.world.sites ≤ p.target → Leads d (Deliver number) Ignored y y
  unsited_stays d number p y at stands past =
      let is = target_stays d number p stands.links at past in
      let v : World = (step d.world (DeliverAt number)).world in
      let left : LeavesDisks d.world v =
      subst (λ (o : Outcome). LeavesDisks d.world (headers_counted d.world (DeliverAt number) o).world) (sym is)
      (record { sites = refl; nodes = λ i. refl; kept = λ i. refl; headers = λ i. none_more d.world i (packet_at d.world.packets number); gathering = λ i. refl }) in
      let sent : v.packets ≡ d.world.packets ++ [] = ap (λ (o : Outcome). o.world.packets) is ∙ sym (append-nil d.world.packets) in
      let same : Relinks y y = record { disk_sets = refl; racks = refl; assemblies = refl; feeders = refl } in
      record {
        next = behind d (DeliverAt number);
        fails = [];
        done = record {
          ends = LinksDone (behind d (DeliverAt number)) (false, refl) refl refl
              (subst (λ (o : Outcome). RepeatsSaid (behind d (DeliverAt number)).world 0 o.said Ignored) (sym is) refl)
              (record { world = sym (unnoted d number p v at past); after = λ i. refl; strayed = refl });
          counts = tt;
          works = tt;
          calls = tt;
        };
        stands = stands_kept d v y y stands left (fit_happened d (DeliverAt number) false tt stands.links) same
            (stands.facts ∙ subst (λ (o : Outcome). facts_over d.world ≡ facts_over (headers_counted d.world (DeliverAt number) o).world) (sym is) refl);
        carries = λ carries. carries_kept d v y y [] carries left sent same (subst (λ (ps : List Packet). FlightStands ps y.flight) (sym (ap (λ (o : Outcome). o.world.packets) is)) carries.flight);
        rose = rose_none (count_of y) (count_of y) (λ k u. omega arith);
      }

  -- nothing was done
  pub stays_same : (d : Doubted) (y : Yard R g) → StandsFor d y → StaysFor d y y
  stays_same d y stands = record { stands = stands; carries = λ carries. carries; rose = rose_none (count_of y) (count_of y) (λ k u. omega arith) }
