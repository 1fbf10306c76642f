-- What a line leaves that sends on a link.
use Rattle.std.proofs.Common.{◌≡◌, ◌∙◌, inl, inr, ◌<◌, ℕ, zero, suc, List, [], ◌∷◌, length, false, true, ap, sym, subst, refl}
use Rattle.std.specs.Prelude.{◌≢◌, Option, Some, None, Result, Err, slice_get}
use Rattle.vx_disk.specs.Disks.{Untouched}
use Rattle.vx_disk.specs.declared.shelf.Shelf.{Ghosts}
use Rattle.vx_diskset.specs.Asked.{LeavesAlone}
use Rattle.vx_diskset.specs.Fuses.{LeftAs}
use Rattle.vx_diskset.specs.Holds.{KeptBeside, beside_of, header_links}
use Rattle.vx_diskset.specs.Pumps.{PumpStop, PumpedIs}
use Rattle.vx_diskset.specs.Stands.{KeepsRole, SiteStands, faults_at}
use Rattle.vx_diskset.specs.declared.disk_set.DiskSet.{DiskSet}
use Rattle.vx_effects.proofs.Finding.{fit_finds}
use Rattle.vx_effects.proofs.Fitting.{fit_happened}
use Rattle.vx_events.specs.Facts.{seat_of, site_number}
use Rattle.vx_events.specs.Fails.{IsLogDisk}
use Rattle.vx_events.specs.LinkEnds.{LinksDone, LinksFind, LogUnread}
use Rattle.vx_events.specs.LinkFinds.{FindsOther, IsUnreadable, PumpSends, ReadsNone, SendsOther, SentBy, pumped_with}
use Rattle.vx_events.specs.GroupLines.{is_over_group}
use Rattle.vx_events.specs.RvgViews.{is_over_rvg}
use Rattle.vx_events.specs.LinkedFacts.{link_fact}
use Rattle.vx_events.specs.StepsOver.{facts_over}
use Rattle.vx_events.specs.Lines.{IsDone}
use Rattle.vx_events.specs.Sayings.{RepeatsSaid}
use Rattle.vx_events.specs.declared.said.Said.{Said}
use Rattle.vx_events.specs.declared.said.Said.TheVariants.{Done, Refused}
use Rattle.vx_events.proofs.LinkTesting.{OnLink}
use Rattle.vx_history.specs.Doubts.{Doubted}
use Rattle.vx_history.specs.Events.{link_step, linked_sites}
use Rattle.vx_history.specs.KeptLinks.{kept_link, kept_links}
use Rattle.vx_history.specs.LinkForms.{plain_link}
use Rattle.vx_history.specs.Listed.{IsAmong}
use Rattle.vx_history.specs.Refusals.{keeps_links}
use Rattle.vx_history.specs.Step.{step}
use Rattle.vx_history.specs.World.{Link, Node, Packet, World}
use Rattle.vx_history.specs.declared.event.Event.TheVariants.{Pump as PumpAt}
use Rattle.vx_history.specs.declared.event.Said.{Said as EventSaid}
use Rattle.vx_history.specs.declared.event.Said.TheVariants.{Done as IsDoneSo}
use Rattle.vx_history.specs.Sends.{updates}
use Rattle.vx_history.specs.declared.sender.Action.{Action}
use Rattle.vx_history.specs.declared.sender.Action.TheVariants.{Ignored, Nothing, Taken, Updates}
use Rattle.vx_history.specs.declared.sender.SEvent.TheVariants.{Pump as PumpLink}
use Rattle.vx_model.specs.declared.history.Line.{Line}
use Rattle.vx_linked.proofs.Finding.{Tested, on_link, pump_tested}
use Rattle.vx_linked.proofs.Leaving.{pump_leaves, pump_sends}
use Rattle.vx_linked.proofs.Shown.{link_there}
use Rattle.vx_linked.specs.Tables.{FoundLink}
use Rattle.vx_linked.specs.Disks.{LeavesDisks}
use Rattle.vx_linked.specs.Turns.{ComesBehind}
use Rattle.vx_model.specs.declared.errors.OutOfMemory.{OutOfMemory}
use Rattle.vx_model.specs.declared.errors.Stop.{Stop}
use Rattle.vx_model.specs.declared.errors.Stop.TheVariants.{No as RefusedSo, OutOfMemory as MemoryStop}
use Rattle.vx_model.specs.declared.link.Link.{Link as PlainLink}
use Rattle.vx_model.specs.declared.no.No.{No}
use Rattle.vx_model.specs.declared.no.No.TheVariants.{Device}
use Rattle.vx_model.specs.Sites.{is_origin}
use Rattle.vx_model.specs.declared.site.SiteState.TheVariants.{Up}
use Rattle.vx_net.specs.Flights.{Flying}
use Rattle.vx_order.specs.declared.facts.LinkFacts.{LinkFacts}
use Rattle.vx_order.specs.declared.facts.SiteFacts.{SiteFacts}
use Rattle.vx_peers.proofs.MorePackets.{more_none}
use Rattle.vx_peers.specs.Senders.{LinkMoved, Sends, SendsBy, pump_asks, pumped_at, way_from}
use Rattle.vx_script.specs.declared.line.ScriptLine.TheVariants.{Pump}
use Rattle.vx_yard.specs.Carries.{Carries}
use Rattle.vx_yard.specs.Replies.{reply_to}
use Rattle.vx_yard.specs.Standing.{Leads, LeadsIs, StandsFor, StaysFor}
use Rattle.vx_yard.specs.Stands.{RoseAll}
use Rattle.vx_yard.specs.Working.{IsFree}
use Rattle.vx_yard.specs.Yards.{IsTold, count_of, in_files}
use Rattle.vx_yard.specs.declared.yard.Yard.{Yard}
use Rattle.vx_yard.proofs.CrashLine.{rose_still}
use Rattle.vx_yard.proofs.FailsStay.{alone_keeps, fails_then}
use Rattle.vx_yard.proofs.FuseStays.{fused_on}
use Rattle.vx_yard.proofs.LinkLines.{Relinks, carries_kept, listed, stands_kept, stays_as}
use Rattle.vx_yard.proofs.NamedSite.{SiteAt, place_at, site_at}
use Rattle.vx_yard.proofs.NoteSite.{comes_same}
use Rattle.vx_yard.proofs.OneSite.{Changed, role_kept, rose_at, stands_still}
use Rattle.vx_yard.proofs.OverGroup.{noted_none}
use Rattle.vx_link_lines.proofs.OverGroups.{linked_off}

-- a link that is one stands among those that the header keeps
among_kept : (row : ℕ → Link) (s : ℕ) (ss : List ℕ) → IsAmong s ss → (k : ℕ) × (slice_get (kept_links row ss) k ≡ Some (kept_link s (row s)))
among_kept row s [] among = absurd among
among_kept row s (t ∷ ts) (inl same) = (zero, ap (λ (j : ℕ). Some (kept_link j (row j))) (sym same))
among_kept row s (t ∷ ts) (inr more) = let there = among_kept row s ts more in (suc there.0, there.1)

-- a line that was done
pub pump_done : (told : Type 0) (d : Doubted) (p s : List ℕ) → (step d.world (PumpAt (site_number d.world p) (site_number d.world s))).said ≡ IsDoneSo
    → IsDone told d (Pump p s) [] Done (record d { world = (step d.world (PumpAt (site_number d.world p) (site_number d.world s))).world })
pump_done told d p s is =
    let v : World = (step d.world (PumpAt (site_number d.world p) (site_number d.world s))).world in
    record {
      ends = LinksDone (record d { world = v }) (false, refl) refl refl (subst (λ (x : EventSaid). RepeatsSaid v 0 x Done) (sym is) refl) (record { world = refl; after = λ i. refl; strayed = refl });
      counts = tt;
      works = tt;
      calls = tt;
    }

-- a refusal of a log that cannot be read
abbrev NoDevice : Stop → Type 0
NoDevice MemoryStop = Unit {0}
NoDevice (RefusedSo why) = IsUnreadable why

-- where contents are told nothing but a disk ends it
pub pump_told : (w : World) (s to : ℕ) (l : PlainLink) (f : Flying) (one two : ℕ → ℕ) (stop : Stop) → PumpedIs w s to l f one two (Err stop) → (why : No) → stop ≡ RefusedSo why → IsUnreadable why → ⊥
pump_told w s to l f one two MemoryStop is why same other = absurd (let e : MemoryStop ≡ RefusedSo why = same in cc)
pump_told w s to l f one two (RefusedSo (Device disk)) is why same other = subst (λ (x : Stop). NoDevice x) (sym same) other
pump_told w s to l f one two (RefusedSo any) is why same other = absurd is

-- the same of one over disks that tell nothing, which sent these packets
pump_other : (told : Type 0) (d : Doubted) (p s : List ℕ) (more : List Packet) → PumpSends d.world (site_number d.world p) (site_number d.world s) more → (told → ⊥) → IsDone told d (Pump p s) [] Done (record d { world = pumped_with d.world (site_number d.world p) (site_number d.world s) more })
pump_other told d p s more any untold =
    let v : World = pumped_with d.world (site_number d.world p) (site_number d.world s) more in
    record { ends = LinksFind (λ tells calm. untold tells) (record d { world = v }) (SendsOther p s more refl any refl refl refl) (record { world = refl; after = λ i. refl; strayed = refl }); counts = tt; works = tt; calls = tt }

-- and of one of which nothing could be read
pump_none : (told : Type 0) (d : Doubted) (p s : List ℕ) (why : No) → (told → ⊥) → IsUnreadable why → IsDone told d (Pump p s) [] (Refused why) d
pump_none told d p s why untold other =
    record { ends = LinksFind (λ tells calm. untold tells) d (ReadsNone p s why refl other refl refl refl) (record { world = refl; after = λ i. refl; strayed = refl }); counts = tt; works = tt; calls = tt }

-- one whose log could not be read
pub pump_unread : (told : Type 0) (d : Doubted) (p s : List ℕ) (disk : ℕ) → (link_step d.world (site_number d.world p) (site_number d.world s) PumpLink).action ≢ Nothing → IsLogDisk (d.world.nodes (site_number d.world p)) disk → IsDone told d (Pump p s) ((site_number d.world p, disk) ∷ []) (Refused (Device disk)) d
pump_unread told d p s disk asks here =
    let a : ℕ = site_number d.world p in
    record {
      ends = LogUnread [] [] (PumpAt a (site_number d.world s)) a disk d refl (refl, asks) refl refl here refl refl (record { world = refl; after = λ i. refl; strayed = refl });
      counts = tt;
      works = tt;
      calls = tt;
    }

-- what was sent, of whatever writes
pub record AnySent (w : World) (p s : ℕ) (f f' : Flying) : Type 0 where
  pub packets : List Packet
  pub asked : PumpSends w p s packets
  pub flies : Sends packets f f'

any_sent : (a : Action) (p s : ℕ) (line : Line) (f f' : Flying) → SendsBy a (way_from p s line) f f' → (more : List Packet) × SentBy a p s line more × Sends more f f'
any_sent (Updates from to) p s line f f' range = (updates p s line from range.writes, (range.writes, range.all, refl), range.flies)
any_sent Nothing p s line f f' still = ([], refl, more_none f f' still)
any_sent Ignored p s line f f' still = ([], refl, more_none f f' still)
any_sent Taken p s line f f' still = ([], refl, more_none f f' still)

module _ {R : Type 0} {g : Ghosts R} where
  -- what the pump of a link asks
  pub record Pumping (d : Doubted) (y : Yard R g) (p s : List ℕ) (here : ℕ) (link : PlainLink) : Type 0 where
    pub seat : SiteAt d y p here
    pub up : (d.world.nodes here).state ≡ Up
    pub running : (d.world.nodes here).halted ≡ None
    pub origin : is_origin (d.world.nodes here).role ≡ true
    pub raw : is_over_rvg (d.world.nodes here) ≡ false
    pub to : link.site ≡ site_number d.world s
    pub link_is : link ≡ plain_link link.site (d.world.links here link.site)
    pub place : ℕ
    pub kept : slice_get (header_links d.world here) place ≡ Some (kept_link link.site (d.world.links here link.site))

  pub pumping : (d : Doubted) (y : Yard R g) (p s : List ℕ) (here : ℕ) (fs : List SiteFacts) (l : LinkFacts) → StandsFor d y → IsFree y (Pump p s) → seat_of y.facts.items p ≡ Some here → fs ≡ y.facts.items
      → ((f : FoundLink fs p s) → l ≡ f.link) → FoundLink fs p s → Pumping d y p s here l.link
  pumping d y p s here fs l stands free is same named found =
      let w : World = d.world in
      let a : ℕ = site_number w p in
      let b : ℕ = site_number w s in
      let tested = subst (λ (xs : List SiteFacts). Tested xs p s) stands.facts (pump_tested y.facts.items p s (in_files y, free)) in
      let on : OnLink w p s keeps_links = on_link w p s tested in
      let seat = site_at d y p here stands (subst (λ (k : ℕ). is_over_group (w.nodes k) ≡ false) (place_at d y p here stands is).number on.apart) is in
      let there : FoundLink (facts_over w) p s = subst (λ (xs : List SiteFacts). FoundLink xs p s) (same ∙ stands.facts) found in
      let names : (f : FoundLink (facts_over w) p s) → l ≡ f.link = subst (λ (xs : List SiteFacts). (f : FoundLink xs p s) → l ≡ f.link) (same ∙ stands.facts) named in
      let fact : l ≡ link_fact (w.nodes a) b (w.links a b) = names there ∙ link_there w p s there on.up in
      let plain : l.link ≡ plain_link b (w.links a b) = ap (λ (x : LinkFacts). x.link) fact in
      let to : l.link.site ≡ b = ap (λ (x : PlainLink). x.site) plain in
      let place = among_kept (w.links a) b (linked_sites (w.links a) w.sites 0 w.sites) ((listed d stands.links).each a b on.there on.linked) in
      record {
        seat = seat;
        up = subst (λ (k : ℕ). (w.nodes k).state ≡ Up) seat.number on.up;
        running = subst (λ (k : ℕ). (w.nodes k).halted ≡ None) seat.number on.running;
        origin = subst (λ (k : ℕ). is_origin (w.nodes k).role ≡ true) seat.number (stands.links.starts a b on.linked);
        raw = subst (λ (k : ℕ). is_over_rvg (w.nodes k) ≡ false) seat.number (linked_off d y a b stands on.here on.linked);
        to = to;
        link_is = plain ∙ ap (λ (k : ℕ). plain_link k (w.links a k)) (sym to) ∙ ap (λ (k : ℕ). plain_link l.link.site (w.links k l.link.site)) seat.number;
        place = place.0;
        kept = subst (λ (k : ℕ). slice_get (header_links w k) place.0 ≡ Some (kept_link l.link.site (w.links k l.link.site))) seat.number
            (place.1 ∙ ap (λ (k : ℕ). Some (kept_link k (w.links a k))) (sym to));
      }

  -- the link and the packets are those of the sites that the line names
  pub moved_named : (d : Doubted) (y : Yard R g) (p s : List ℕ) (here : ℕ) (link l : PlainLink) (f : Flying) → Pumping d y p s here link → LinkMoved d.world here link.site PumpLink l f
      → LinkMoved d.world (site_number d.world p) (site_number d.world s) PumpLink l f
  moved_named d y p s here link l f asks moved =
      subst (λ (k : ℕ). LinkMoved d.world k (site_number d.world s) PumpLink l f) (sym asks.seat.number) (subst (λ (k : ℕ). LinkMoved d.world here k PumpLink l f) asks.to moved)

  -- the link as its rule leaves it
  pub pumped_named : (d : Doubted) (y : Yard R g) (p s : List ℕ) (here : ℕ) (link l : PlainLink) → Pumping d y p s here link → l ≡ pumped_at link (d.world.nodes here).safe
      → l ≡ (link_step d.world (site_number d.world p) (site_number d.world s) PumpLink).link
  pumped_named d y p s here link l asks is =
      let w : World = d.world in
      is ∙ ap (λ (x : PlainLink). pumped_at x (w.nodes here).safe) asks.link_is ∙ ap (λ (k : ℕ). pumped_at (plain_link k (w.links here k)) (w.nodes here).safe) asks.to
      ∙ ap (λ (k : ℕ). pumped_at (plain_link (site_number w s) (w.links k (site_number w s))) (w.nodes k).safe) (sym asks.seat.number)

  -- what its rule asks of the site
  pub asked_named : (d : Doubted) (y : Yard R g) (p s : List ℕ) (here : ℕ) (link : PlainLink) → Pumping d y p s here link
      → pump_asks link (d.world.nodes here).safe ≡ (link_step d.world (site_number d.world p) (site_number d.world s) PumpLink).action
  asked_named d y p s here link asks =
      let w : World = d.world in
      ap (λ (x : PlainLink). pump_asks x (w.nodes here).safe) asks.link_is ∙ ap (λ (k : ℕ). pump_asks (plain_link k (w.links here k)) (w.nodes here).safe) asks.to
      ∙ ap (λ (k : ℕ). pump_asks (plain_link (site_number w s) (w.links k (site_number w s))) (w.nodes k).safe) (sym asks.seat.number)

  -- what was sent between the sites that the line names
  pub sent_named : (d : Doubted) (y : Yard R g) (p s : List ℕ) (here : ℕ) (link : PlainLink) (f f' : Flying) → Pumping d y p s here link
      → SendsBy (pump_asks link (d.world.nodes here).safe) (way_from here link.site (d.world.nodes here).line) f f' → AnySent d.world (site_number d.world p) (site_number d.world s) f f'
  sent_named d y p s here link f f' asks sends =
      let w : World = d.world in
      let a : ℕ = site_number w p in
      let b : ℕ = site_number w s in
      let of_world = subst (λ (x : PlainLink). SendsBy (pump_asks x (w.nodes here).safe) (way_from here link.site (w.nodes here).line) f f') asks.link_is sends in
      let to_second = subst (λ (k : ℕ). SendsBy (pump_asks (plain_link k (w.links here k)) (w.nodes here).safe) (way_from here k (w.nodes here).line) f f') asks.to of_world in
      let from_first = subst (λ (k : ℕ). SendsBy (pump_asks (plain_link b (w.links k b)) (w.nodes k).safe) (way_from k b (w.nodes k).line) f f') (sym asks.seat.number) to_second in
      let any = any_sent (pump_asks (plain_link b (w.links a b)) (w.nodes a).safe) a b (w.nodes a).line f f' from_first in
      record { packets = any.0; asked = any.1; flies = any.2 }

  -- the yard with the disk set of the site as it is behind the pump, and all else as it was
  abbrev between : (old new : Yard R g) → Yard R g
  between old new = record new { facts = old.facts; flight = old.flight }

  -- what is changed beside the disk set
  pub record Rests (old new : Yard R g) : Type 0 where
    pub assemblies : new.assemblies ≡ old.assemblies
    pub feeders : new.feeders ≡ old.feeders

  module _ (d : Doubted) (old new : Yard R g) (s : ℕ) (before after : DiskSet R g) (stands : StandsFor d old) (carries : Carries d old) (below : s < d.world.sites) (changed : Changed old new s before after)
      (alone : LeavesAlone before after) (on : (beside : KeptBeside) (n : Node) → SiteStands beside n before → SiteStands beside n after) (keeps : KeepsRole before after) (none : (d.world.nodes s).group ≡ None) (rests : Rests old new) (told : IsTold new → IsTold old) where
    middle_stands : StandsFor d (between old new)
    middle_stands =
        let n : Node = d.world.nodes s in
        stands_still d d old (between old new) s before after stands below (record { there = changed.there; later = changed.later; disk_sets = changed.disk_sets; racks = changed.racks })
        (comes_same d s after stands.links (on (beside_of d s) n (stands.disk_sets.sites s before below changed.there))
        (fails_then n n before after refl (alone_keeps before after alone) (stands.failing s before below changed.there)) (fused_on Untouched n n n.fuse before after refl (λ x y same left. subst (λ (z : Option (ℕ × ℕ)). LeftAs n.fuse z) (sym same.fuse) left) alone.told (stands.fuses s before below changed.there))
        (role_kept d old s before after stands below changed.there keeps)) (λ first. first)
        (λ _. noted_none (beside_of d s) n n after (on (beside_of d s) n (stands.disk_sets.sites s before below changed.there)) none) refl refl

    middle_carries : Carries d (between old new)
    middle_carries = record {
      flight = carries.flight;
      places = ap (λ xs. length xs.items) rests.assemblies ∙ carries.places;
      assemblies = λ tells calm i a is. carries.assemblies (told tells) calm i a (sym (ap (λ xs. slice_get xs.items i) rests.assemblies) ∙ is);
      numbers = ap (λ fs. length fs.items) rests.feeders ∙ carries.numbers;
      feeders = λ i f is. carries.feeders i f (sym (ap (λ fs. slice_get fs.items i) rests.feeders) ∙ is);
    }

    rises : RoseAll [] (count_of old) (count_of new)
    rises = rose_still old new s before after changed.there changed.later changed.disk_sets

    -- it was done
    pub pump_brings : (p q : List ℕ) (fs : List SiteFacts) → ComesBehind d.world (PumpAt (site_number d.world p) (site_number d.world q)) fs new.flight → new.facts.items ≡ fs → Leads d (Pump p q) Done old new
    pump_brings p q fs comes facts =
        let a : ℕ = site_number d.world p in
        let b : ℕ = site_number d.world q in
        let v : World = (step d.world (PumpAt a b)).world in
        let left = pump_leaves d.world a b in
        let sends = pump_sends d.world a b in
        let relinks : Relinks (between old new) new = record { disk_sets = refl; racks = refl; assemblies = refl; feeders = refl } in
        record {
          next = record d { world = v };
          fails = [];
          done = pump_done (IsTold new) d p q comes.said;
          stands = stands_kept d v (between old new) new middle_stands left (fit_happened d (PumpAt a b) false tt stands.links) relinks (facts ∙ comes.stands.facts);
          carries = λ _. carries_kept d v (between old new) new sends.0 middle_carries left sends.1 relinks comes.stands.flight;
          rose = rises;
        }

    -- it was done over disks that tell nothing
    pub pump_finds : (p q : List ℕ) (fs : List SiteFacts) → (IsTold new → ⊥) → (more : AnySent d.world (site_number d.world p) (site_number d.world q) old.flight new.flight) → fs ≡ facts_over (step d.world (PumpAt (site_number d.world p) (site_number d.world q))).world → new.facts.items ≡ fs
        → Leads d (Pump p q) Done old new
    pump_finds p q fs untold more comes facts =
        let a : ℕ = site_number d.world p in
        let b : ℕ = site_number d.world q in
        let v : World = pumped_with d.world a b more.packets in
        let by = pump_leaves d.world a b in
        let left : LeavesDisks d.world v = record { sites = by.sites; nodes = by.nodes; kept = by.kept; headers = by.headers; gathering = by.gathering } in
        let finds : FindsOther d (Pump p q) [] Done (record d { world = v }) = SendsOther p q more.packets refl more.asked refl refl refl in
        let relinks : Relinks (between old new) new = record { disk_sets = refl; racks = refl; assemblies = refl; feeders = refl } in
        record {
          next = record d { world = v };
          fails = [];
          done = pump_other (IsTold new) d p q more.packets more.asked untold;
          stands = stands_kept d v (between old new) new middle_stands left (fit_finds d (Pump p q) [] Done (record d { world = v }) finds stands.links) relinks (facts ∙ comes);
          carries = λ _. carries_kept d v (between old new) new more.packets middle_carries left refl relinks (more.flies d.world.packets carries.flight);
          rose = rises;
        }

    -- it stopped
    stays : (fs : List SiteFacts) (f : Flying) → new.facts.items ≡ fs → fs ≡ old.facts.items → new.flight ≡ f → f ≡ old.flight → StaysFor d (between old new) new
    stays fs f facts same flight still = stays_as d (between old new) new fs f middle_stands middle_carries (record { disk_sets = refl; racks = refl; assemblies = refl; feeders = refl }) facts same flight still

    pub pump_stops : (p q : List ℕ) (f : Flying) (stop : Stop) (r : Result Said OutOfMemory) → PumpStop (d.world.nodes s) (link_step d.world (site_number d.world p) (site_number d.world q) PumpLink).action (faults_at before) (faults_at after) stop → ((why : No) → stop ≡ RefusedSo why → IsUnreadable why → IsTold new → ⊥) → r ≡ reply_to stop
        → site_number d.world p ≡ s → new.facts.items ≡ old.facts.items → new.flight ≡ f → f ≡ old.flight → LeadsIs d (Pump p q) old new r
    pump_stops p q f MemoryStop r stopped untold is number facts flight still =
        let stay = stays old.facts.items f facts refl flight still in
        subst (λ (x : Result Said OutOfMemory). LeadsIs d (Pump p q) old new x) (sym is) (record { stands = stay.stands; carries = λ _. stay.carries middle_carries; rose = rises })
    pump_stops p q f (RefusedSo (Device disk)) r stopped untold is number facts flight still =
        let stay = stays old.facts.items f facts refl flight still in
        subst (λ (x : Result Said OutOfMemory). LeadsIs d (Pump p q) old new x) (sym is) (record {
          next = d;
          fails = (site_number d.world p, disk) ∷ [];
          done = pump_unread (IsTold new) d p q disk stopped.1 (subst (λ (k : ℕ). IsLogDisk (d.world.nodes k) disk) (sym number) stopped.2);
          stands = stay.stands;
          carries = λ _. stay.carries middle_carries;
          rose = subst (λ (k : ℕ). RoseAll ((k, disk) ∷ []) (count_of old) (count_of new)) (sym number) (rose_at old new s disk before after changed stopped.0);
        })
    pump_stops p q f (RefusedSo other) r stopped untold is number facts flight still =
        let stay = stays old.facts.items f facts refl flight still in
        subst (λ (x : Result Said OutOfMemory). LeadsIs d (Pump p q) old new x) (sym is) (record {
          next = d;
          fails = [];
          done = pump_none (IsTold new) d p q other (untold other refl stopped) stopped;
          stands = stay.stands;
          carries = λ _. stay.carries middle_carries;
          rose = rises;
        })
