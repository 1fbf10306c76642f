-- What a line of links leaves that needs no disk.
use Rattle.std.proofs.Common.{◌≡◌, ◌∙◌, ◌++◌, ◌⊎◌, ◌≤◌, ℕ, List, [], length, false, ap, sym, subst, refl, arith, ⊎_elim}
use Rattle.std.proofs.lemmas.List.{append-nil}
use Rattle.std.specs.Prelude.{Option, Some, None, Bool, Result, Err, slice_get}
use Rattle.std.specs.Vec.{vec_capacity}
use Rattle.vx_courier.proofs.Joining.{stands_later}
use Rattle.vx_courier.specs.Together.{AssemblyStands}
use Rattle.vx_courier.specs.UnderWay.{FlightStands}
use Rattle.vx_disk.specs.declared.shelf.Shelf.{Ghosts}
use Rattle.vx_diskset.specs.Asked.{FailsAs, FusedAs}
use Rattle.vx_diskset.specs.Holds.{KeptBeside, KeptSite, beside_of, doubt_of, header_links}
use Rattle.vx_diskset.specs.Stands.{RoleIs, SiteStands}
use Rattle.vx_diskset.specs.declared.disk_set.DiskSet.{DiskSet}
use Rattle.vx_diskset.specs.Noted.{NotedOver}
use Rattle.vx_effects.proofs.Fitting.{fit_happened}
use Rattle.vx_events.proofs.LinkWaiting.{wait_agrees}
use Rattle.vx_events.specs.Facts.{seat_of, site_number}
use Rattle.vx_events.specs.GroupLines.{is_over_group}
use Rattle.vx_events.specs.LinkEnds.{LinksDone}
use Rattle.vx_events.specs.StepsOver.{facts_over, refused_over}
use Rattle.vx_events.specs.Lines.{IsDone}
use Rattle.vx_events.specs.LinksFit.{LinksFit}
use Rattle.vx_events.specs.Sayings.{RepeatsSaid}
use Rattle.vx_events.specs.declared.said.Said.{Said}
use Rattle.vx_events.specs.declared.said.Said.TheVariants.{Done}
use Rattle.vx_history.proofs.Places.{all_listed}
use Rattle.vx_history.specs.Doubts.{Doubted}
use Rattle.vx_history.specs.Listed.{AreListed}
use Rattle.vx_history.specs.Step.{step}
use Rattle.vx_history.specs.World.{Gathering, Node, Packet, World}
use Rattle.vx_history.specs.declared.event.Event.TheVariants.{Connect as ConnectAt, Cut as CutAt, Pause as PauseAt, Resume as ResumeAt, Tick as TickAt, Wait as WaitAt}
use Rattle.vx_history.specs.declared.event.Said.{Said as EventSaid}
use Rattle.vx_history.specs.declared.event.Said.TheVariants.{Done as IsDoneSo, DoneAt as IsDoneAt, Pending as IsPending}
use Rattle.vx_linked.proofs.Leaving.{connect_leaves, connect_sends, cut_leaves, cut_sends, pause_leaves, pause_sends, resume_leaves, resume_sends, tick_leaves, tick_sends, wait_leaves, wait_sends}
use Rattle.vx_linked.specs.Disks.{LeavesDisks}
use Rattle.vx_linked.specs.Greetings.{Tells}
use Rattle.vx_linked.specs.Turns.{ComesBehind, FactsStandFor as LinksStand}
use Rattle.vx_model.specs.declared.errors.OutOfMemory.{OutOfMemory}
use Rattle.vx_model.specs.declared.limits.TheConstants.{MOST_SITES}
use Rattle.vx_model.specs.Sites.{is_origin}
use Rattle.vx_model.specs.declared.site.Role.{Role}
use Rattle.vx_model.specs.declared.site.SiteState.TheVariants.{Up}
use Rattle.vx_net.specs.Flights.{Flying}
use Rattle.vx_order.specs.Order.{line_refusal}
use Rattle.vx_order.specs.declared.facts.SiteFacts.{SiteFacts}
use Rattle.vx_script.specs.declared.line.ScriptLine.{ScriptLine}
use Rattle.vx_script.specs.declared.line.ScriptLine.TheVariants.{Connect, Cut, Pause, Resume, Tick, Wait}
use Rattle.vx_yard.specs.Carries.{Carries}
use Rattle.vx_yard.specs.Happenings.{reply_of}
use Rattle.vx_yard.specs.Standing.{Leads, LeadsIs, SitesAgree, StandsFor, StaysFor, BeginsFirst}
use Rattle.vx_yard.specs.Stands.{AreTold, RoseAll, site_faults}
use Rattle.vx_yard.specs.Working.{IsFree}
use Rattle.vx_yard.specs.Yards.{IsTold, count_of, in_files}
use Rattle.vx_yard.specs.declared.yard.Yard.{Yard}
use Rattle.vx_yard.proofs.Carrying.{feeds_same}
use Rattle.vx_yard.proofs.ChangeSite.{rose_none}
use Rattle.vx_yard.proofs.NamedSite.{place_at}
use Rattle.vx_yard.proofs.OneSite.{doubt_same}
use Rattle.vx_yard.proofs.OverGroup.{over_none, receives_apart}

-- what the world has of a site beside its node stays
beside_kept : (d : Doubted) (v : World) (s : ℕ) → LeavesDisks d.world v → beside_of (record d { world = v }) s ≡ beside_of d s
beside_kept d v s left =
    ap (λ ls. let b : KeptBeside = record { links = ls; headers = v.headers s; doubt = doubt_of v s (d.after s) } in b) (left.kept s)
    ∙ ap (λ (k : ℕ). let b : KeptBeside = record { links = header_links d.world s; headers = k; doubt = doubt_of v s (d.after s) } in b) (left.headers s)
    ∙ ap (λ (o : Option KeptSite). let b : KeptBeside = record { links = header_links d.world s; headers = d.world.headers s; doubt = o } in b)
    (doubt_same d.world v s left.sites (left.headers s) (d.after s))

-- ---- one event of a link, as the end of its line

pub connect_done : (told : Type 0) (d : Doubted) (p s : List ℕ) → (step d.world (ConnectAt (site_number d.world p) (site_number d.world s))).said ≡ IsDoneSo
    → IsDone told d (Connect p s) [] Done (record d { world = (step d.world (ConnectAt (site_number d.world p) (site_number d.world s))).world })
connect_done told d p s is =
    let v : World = (step d.world (ConnectAt (site_number d.world p) (site_number d.world s))).world in
    record {
      ends = LinksDone (record d { world = v }) (false, refl) refl refl (subst (λ (x : EventSaid). RepeatsSaid v 0 x Done) (sym is) refl) (record { world = refl; after = λ i. refl; strayed = refl });
      counts = tt;
      works = tt;
      calls = tt;
    }

pub cut_done : (told : Type 0) (d : Doubted) (p s : List ℕ) → (step d.world (CutAt (site_number d.world p) (site_number d.world s))).said ≡ IsDoneSo
    → IsDone told d (Cut p s) [] Done (record d { world = (step d.world (CutAt (site_number d.world p) (site_number d.world s))).world })
cut_done told d p s is =
    let v : World = (step d.world (CutAt (site_number d.world p) (site_number d.world s))).world in
    record {
      ends = LinksDone (record d { world = v }) (false, refl) refl refl (subst (λ (x : EventSaid). RepeatsSaid v 0 x Done) (sym is) refl) (record { world = refl; after = λ i. refl; strayed = refl });
      counts = tt;
      works = tt;
      calls = tt;
    }

pub pause_done : (told : Type 0) (d : Doubted) (p s : List ℕ) → (step d.world (PauseAt (site_number d.world p) (site_number d.world s))).said ≡ IsDoneSo
    → IsDone told d (Pause p s) [] Done (record d { world = (step d.world (PauseAt (site_number d.world p) (site_number d.world s))).world })
pause_done told d p s is =
    let v : World = (step d.world (PauseAt (site_number d.world p) (site_number d.world s))).world in
    record {
      ends = LinksDone (record d { world = v }) (false, refl) refl refl (subst (λ (x : EventSaid). RepeatsSaid v 0 x Done) (sym is) refl) (record { world = refl; after = λ i. refl; strayed = refl });
      counts = tt;
      works = tt;
      calls = tt;
    }

pub resume_done : (told : Type 0) (d : Doubted) (p s : List ℕ) → (step d.world (ResumeAt (site_number d.world p) (site_number d.world s))).said ≡ IsDoneSo
    → IsDone told d (Resume p s) [] Done (record d { world = (step d.world (ResumeAt (site_number d.world p) (site_number d.world s))).world })
resume_done told d p s is =
    let v : World = (step d.world (ResumeAt (site_number d.world p) (site_number d.world s))).world in
    record {
      ends = LinksDone (record d { world = v }) (false, refl) refl refl (subst (λ (x : EventSaid). RepeatsSaid v 0 x Done) (sym is) refl) (record { world = refl; after = λ i. refl; strayed = refl });
      counts = tt;
      works = tt;
      calls = tt;
    }

pub tick_done : (told : Type 0) (d : Doubted) (p s : List ℕ) → (step d.world (TickAt (site_number d.world p) (site_number d.world s))).said ≡ IsDoneSo
    → IsDone told d (Tick p s) [] Done (record d { world = (step d.world (TickAt (site_number d.world p) (site_number d.world s))).world })
tick_done told d p s is =
    let v : World = (step d.world (TickAt (site_number d.world p) (site_number d.world s))).world in
    record {
      ends = LinksDone (record d { world = v }) (false, refl) refl refl (subst (λ (x : EventSaid). RepeatsSaid v 0 x Done) (sym is) refl) (record { world = refl; after = λ i. refl; strayed = refl });
      counts = tt;
      works = tt;
      calls = tt;
    }

pub listed : (d : Doubted) → LinksFit d → AreListed d.world
listed d fits = all_listed d.world (λ p. (fits.rows p).places)

-- what is said of a wait is its reply
repeated : (v : World) (number : ℕ) (x : EventSaid) → (x ≡ IsDoneAt number) ⊎ (x ≡ IsPending number) → RepeatsSaid v 0 x (reply_of x)
repeated v number x one = ⊎_elim
    (λ (is : x ≡ IsDoneAt number). subst (λ (y : EventSaid). RepeatsSaid v 0 y (reply_of y)) (sym is) refl)
    (λ (is : x ≡ IsPending number). subst (λ (y : EventSaid). RepeatsSaid v 0 y (reply_of y)) (sym is) refl) one

pub wait_done : (told : Type 0) (files : Bool) (d : Doubted) (p : List ℕ) (number : ℕ) → AreListed d.world → refused_over d.world files (Wait p number) ≡ None
    → IsDone told d (Wait p number) [] (reply_of (step d.world (WaitAt (site_number d.world p) number)).said) (record d { world = (step d.world (WaitAt (site_number d.world p) number)).world })
wait_done told files d p number listed free =
    let v : World = (step d.world (WaitAt (site_number d.world p) number)).world in
    record {
      ends = LinksDone (record d { world = v }) (false, refl) refl refl
          (repeated v number (step d.world (WaitAt (site_number d.world p) number)).said (wait_agrees d.world files p number listed free)) (record { world = refl; after = λ i. refl; strayed = refl });
      counts = tt;
      works = tt;
      calls = tt;
    }

module _ {R : Type 0} {g : Ghosts R} where
  -- the facts of the sites change, and what is under way, and nothing else of the yard
  pub record Relinks (old new : Yard R g) : Type 0 where
    pub disk_sets : new.disk_sets ≡ old.disk_sets
    pub racks : new.racks ≡ old.racks
    pub assemblies : new.assemblies ≡ old.assemblies
    pub feeders : new.feeders ≡ old.feeders

  sites_kept : (d : Doubted) (v : World) (es : List (DiskSet R g)) → SitesAgree d es → LeavesDisks d.world v → SitesAgree (record d { world = v }) es
  sites_kept d v es agree left = record {
    eight = agree.eight;
    few = omega (arith, agree.few, left.sites);
    sites = λ s e inside is.
        subst (λ (b : KeptBeside). SiteStands b (v.nodes s) e) (sym (beside_kept d v s left))
        (subst (λ (n : Node). SiteStands (beside_of d s) n e) (sym (left.nodes s)) (agree.sites s e (omega (arith, inside, left.sites)) is));
    others = λ s e past is. agree.others s e (omega (arith, past, left.sites)) is;
  }

  pub stands_kept : (d : Doubted) (v : World) (old new : Yard R g) → StandsFor d old → LeavesDisks d.world v → LinksFit (record d { world = v }) → Relinks old new → new.facts.items ≡ facts_over v
      → StandsFor (record d { world = v }) new
  stands_kept d v old new stands left fits relinks facts = record {
    facts = facts;
    disk_sets = subst (λ es. SitesAgree (record d { world = v }) es) (sym same) (sites_kept d v old.disk_sets.items stands.disk_sets left);
    links = fits;
    roles = record {
      each = λ s e inside is.
          subst (λ (n : Node). RoleIs n e) (sym (left.nodes s)) (stands.roles.each s e (omega (arith, inside, left.sites)) (sym (ap (λ es. slice_get es s) same) ∙ is));
    };
    first = λ s inside. subst (λ (n : Node). BeginsFirst s n) (sym (left.nodes s)) (stands.first s (omega (arith, inside, left.sites)));
    noted = λ s e inside is.
        subst (λ (n : Node). NotedOver n e) (sym (left.nodes s)) (stands.noted s e (omega (arith, inside, left.sites)) (sym (ap (λ es. slice_get es s) same) ∙ is));
    doubts = λ s a is.
        let was = stands.doubts s a is in
        record {
          name = was.name ∙ ap (λ (n : Node). n.name) (sym (left.nodes s));
          disks = was.disks ∙ ap (λ (n : Node). n.disks) (sym (left.nodes s));
          blocks = was.blocks ∙ ap (λ (n : Node). n.blocks) (sym (left.nodes s));
          volumes = was.volumes ∙ ap (λ (n : Node). n.volumes) (sym (left.nodes s));
        };
    failing = λ s e inside is.
        subst (λ (n : Node). FailsAs n e) (sym (left.nodes s)) (stands.failing s e (omega (arith, inside, left.sites)) (sym (ap (λ es. slice_get es s) same) ∙ is));
    fuses = λ s e inside is.
        subst (λ (n : Node). FusedAs n e) (sym (left.nodes s)) (stands.fuses s e (omega (arith, inside, left.sites)) (sym (ap (λ es. slice_get es s) same) ∙ is));
    none = ap (λ r. r.items) relinks.racks ∙ stands.none;
    room = subst (λ r. MOST_SITES ≤ vec_capacity r) (sym relinks.racks) stands.room;
  }
    where
      same : new.disk_sets.items ≡ old.disk_sets.items
      same = ap (λ es. es.items) relinks.disk_sets

  relinked_disks : (old new : Yard R g) → Relinks old new → new.disk_sets.items ≡ old.disk_sets.items
  relinked_disks old new relinks = ap (λ es. es.items) relinks.disk_sets

  pub carries_kept : (d : Doubted) (v : World) (old new : Yard R g) (more : List Packet) → Carries d old → LeavesDisks d.world v → v.packets ≡ d.world.packets ++ more → Relinks old new → FlightStands v.packets new.flight
      → Carries (record d { world = v }) new
  carries_kept d v old new more carries left sends relinks flight = record {
    flight = flight;
    places = ap (λ xs. length xs.items) relinks.assemblies ∙ carries.places;
    assemblies = λ told calm s a is.
        subst (λ (ps : List Packet). AssemblyStands ps s (v.gathering s) a) (sym sends)
        (stands_later d.world.packets more s (v.gathering s) a
        (subst (λ (o : Option Gathering). AssemblyStands d.world.packets s o a) (sym (left.gathering s))
        (carries.assemblies (subst (λ es. AreTold es) (relinked_disks old new relinks) told) calm s a (sym (ap (λ xs. slice_get xs.items s) relinks.assemblies) ∙ is))));
    numbers = ap (λ fs. length fs.items) relinks.feeders ∙ carries.numbers;
    feeders = λ s feeder is up receives.
        let was = (feeds_same (d.world.nodes s) (v.nodes s) (left.nodes s)).each up receives in
        carries.feeders s feeder (sym (ap (λ fs. slice_get fs.items s) relinks.feeders) ∙ is) was.0 was.1 ∙ sym was.2;
  }

  rose_kept : (old new : Yard R g) → Relinks old new → RoseAll [] (count_of old) (count_of new)
  rose_kept old new relinks = subst (λ es. RoseAll [] (count_of old) (site_faults es)) (sym (relinked_disks old new relinks)) (rose_none (count_of old) (count_of old) (λ s u. omega arith))

  -- a line that changes links in memory, and may have sent something
  pub brings_by : (d : Doubted) (v : World) (line : ScriptLine) (said : Said) (old new : Yard R g) (more : List Packet) → StandsFor d old → Carries d old → LeavesDisks d.world v
      → v.packets ≡ d.world.packets ++ more → LinksFit (record d { world = v }) → IsDone (IsTold new) d line [] said (record d { world = v }) → Relinks old new → new.facts.items ≡ facts_over v
      → FlightStands v.packets new.flight → Leads d line said old new
  brings_by d v line said old new more stands carries left sends fits done relinks facts flight = record {
    next = record d { world = v };
    fails = [];
    done = done;
    stands = stands_kept d v old new stands left fits relinks facts;
    carries = λ _. carries_kept d v old new more carries left sends relinks flight;
    rose = rose_kept old new relinks;
  }

  -- nothing was done
  pub stays_as : (d : Doubted) (old new : Yard R g) (fs : List SiteFacts) (f : Flying) → StandsFor d old → Carries d old → Relinks old new → new.facts.items ≡ fs → fs ≡ old.facts.items → new.flight ≡ f → f ≡ old.flight
      → StaysFor d old new
  stays_as d old new fs f stands carries relinks facts same flight still =
      let left : LeavesDisks d.world d.world = record { sites = refl; nodes = λ i. refl; kept = λ i. refl; headers = λ i. refl; gathering = λ i. refl } in
      record {
        stands = stands_kept d d.world old new stands left stands.links relinks (facts ∙ same ∙ stands.facts);
        rose = rose_kept old new relinks;
        carries = λ _. carries_kept d d.world old new [] carries left (sym (append-nil d.world.packets)) relinks
            (subst (λ (x : Flying). FlightStands d.world.packets x) (sym (flight ∙ still)) carries.flight);
      }

  -- want of memory, and nothing was done
  pub stays_short : (d : Doubted) (line : ScriptLine) (old new : Yard R g) (r : Result Said OutOfMemory) (e : OutOfMemory) (fs : List SiteFacts) (f : Flying) → r ≡ Err e → StandsFor d old → Carries d old → Relinks old new
      → new.facts.items ≡ fs → fs ≡ old.facts.items → new.flight ≡ f → f ≡ old.flight → LeadsIs d line old new r
  stays_short d line old new r e fs f is stands carries relinks facts same flight still =
      subst (λ (x : Result Said OutOfMemory). LeadsIs d line old new x) (sym is) (stays_as d old new fs f stands carries relinks facts same flight still)

  -- ---- what the calls of links ask

  pub links_stand : (d : Doubted) (y : Yard R g) → StandsFor d y → Carries d y → LinksStand d.world y.facts.items y.flight
  links_stand d y stands carries = record { facts = stands.facts; flight = carries.flight }

  -- the session and the last durable write of the site that may greet
  pub tells : (d : Doubted) (y : Yard R g) (name : List ℕ) (s session stored : ℕ) (e f : DiskSet R g) → StandsFor d y → seat_of y.facts.items name ≡ Some s → slice_get y.disk_sets.items s ≡ Some e
      → slice_get y.disk_sets.items s ≡ Some f → ((beside : KeptBeside) (n : Node) → SiteStands beside n e → n.state ≡ Up → is_over_group n ≡ false → session ≡ n.session)
      → ((beside : KeptBeside) (n : Node) → SiteStands beside n f → n.state ≡ Up → n.halted ≡ None → stored ≡ n.safe) → Tells (d.world.nodes (site_number d.world name)) session stored
  tells d y name s session stored e f stands is there too session_is stored_is =
      let at = place_at d y name s stands is in
      let here = stands.disk_sets.sites s e at.below there in
      let same = stands.disk_sets.sites s f at.below too in
      subst (λ (k : ℕ). Tells (d.world.nodes k) session stored) (sym at.number) (record {
        session_is = λ up receives. session_is (beside_of d s) (d.world.nodes s) here up (receives_apart (beside_of d s) (d.world.nodes s) e here receives);
        stored_is = λ up runs receives. stored_is (beside_of d s) (d.world.nodes s) same up runs;
        origin = λ over. ap (λ (r : Role). is_origin r) (over_none (beside_of d s) (d.world.nodes s) e here over).role;
      })

  -- ---- the lines

  pub connect_brings : (d : Doubted) (old new : Yard R g) (p s : List ℕ) (fs : List SiteFacts) → StandsFor d old → Carries d old → ComesBehind d.world (ConnectAt (site_number d.world p) (site_number d.world s)) fs new.flight
      → new.facts.items ≡ fs → Relinks old new → Leads d (Connect p s) Done old new
  connect_brings d old new p s fs stands carries comes facts relinks =
      let a : ℕ = site_number d.world p in
      let b : ℕ = site_number d.world s in
      let sends = connect_sends d.world a b in
      brings_by d (step d.world (ConnectAt a b)).world (Connect p s) Done old new sends.0 stands carries (connect_leaves d.world a b) sends.1 (fit_happened d (ConnectAt a b) false tt stands.links)
      (connect_done (IsTold new) d p s comes.said) relinks (facts ∙ comes.stands.facts) comes.stands.flight

  pub cut_brings : (d : Doubted) (old new : Yard R g) (p s : List ℕ) (fs : List SiteFacts) → StandsFor d old → Carries d old → ComesBehind d.world (CutAt (site_number d.world p) (site_number d.world s)) fs new.flight
      → new.facts.items ≡ fs → Relinks old new → Leads d (Cut p s) Done old new
  cut_brings d old new p s fs stands carries comes facts relinks =
      let a : ℕ = site_number d.world p in
      let b : ℕ = site_number d.world s in
      brings_by d (step d.world (CutAt a b)).world (Cut p s) Done old new [] stands carries (cut_leaves d.world a b) (cut_sends d.world a b ∙ sym (append-nil d.world.packets))
      (fit_happened d (CutAt a b) false tt stands.links) (cut_done (IsTold new) d p s comes.said) relinks (facts ∙ comes.stands.facts) comes.stands.flight

  pub pause_brings : (d : Doubted) (old new : Yard R g) (p s : List ℕ) (fs : List SiteFacts) → StandsFor d old → Carries d old → ComesBehind d.world (PauseAt (site_number d.world p) (site_number d.world s)) fs new.flight
      → new.facts.items ≡ fs → Relinks old new → Leads d (Pause p s) Done old new
  pause_brings d old new p s fs stands carries comes facts relinks =
      let a : ℕ = site_number d.world p in
      let b : ℕ = site_number d.world s in
      brings_by d (step d.world (PauseAt a b)).world (Pause p s) Done old new [] stands carries (pause_leaves d.world a b) (pause_sends d.world a b ∙ sym (append-nil d.world.packets))
      (fit_happened d (PauseAt a b) false tt stands.links) (pause_done (IsTold new) d p s comes.said) relinks (facts ∙ comes.stands.facts) comes.stands.flight

  pub resume_brings : (d : Doubted) (old new : Yard R g) (p s : List ℕ) (fs : List SiteFacts) → StandsFor d old → Carries d old → ComesBehind d.world (ResumeAt (site_number d.world p) (site_number d.world s)) fs new.flight
      → new.facts.items ≡ fs → Relinks old new → Leads d (Resume p s) Done old new
  resume_brings d old new p s fs stands carries comes facts relinks =
      let a : ℕ = site_number d.world p in
      let b : ℕ = site_number d.world s in
      brings_by d (step d.world (ResumeAt a b)).world (Resume p s) Done old new [] stands carries (resume_leaves d.world a b) (resume_sends d.world a b ∙ sym (append-nil d.world.packets))
      (fit_happened d (ResumeAt a b) false tt stands.links) (resume_done (IsTold new) d p s comes.said) relinks (facts ∙ comes.stands.facts) comes.stands.flight

  pub tick_brings : (d : Doubted) (old new : Yard R g) (p s : List ℕ) (fs : List SiteFacts) → StandsFor d old → Carries d old → ComesBehind d.world (TickAt (site_number d.world p) (site_number d.world s)) fs new.flight
      → new.facts.items ≡ fs → Relinks old new → Leads d (Tick p s) Done old new
  tick_brings d old new p s fs stands carries comes facts relinks =
      let a : ℕ = site_number d.world p in
      let b : ℕ = site_number d.world s in
      brings_by d (step d.world (TickAt a b)).world (Tick p s) Done old new [] stands carries (tick_leaves d.world a b) (tick_sends d.world a b ∙ sym (append-nil d.world.packets))
      (fit_happened d (TickAt a b) false tt stands.links) (tick_done (IsTold new) d p s comes.said) relinks (facts ∙ comes.stands.facts) comes.stands.flight

  pub wait_brings : (d : Doubted) (y : Yard R g) (p : List ℕ) (number : ℕ) (said : Said) (o : EventSaid) (fs : List SiteFacts) → StandsFor d y → Carries d y → (files : Bool) → refused_over d.world files (Wait p number) ≡ None
      → o ≡ (step d.world (WaitAt (site_number d.world p) number)).said → fs ≡ y.facts.items → fs ≡ facts_over (step d.world (WaitAt (site_number d.world p) number)).world → said ≡ reply_of o
      → Leads d (Wait p number) said y y
  wait_brings d y p number said o fs stands carries files free is same facts replied =
      let a : ℕ = site_number d.world p in
      let v : World = (step d.world (WaitAt a number)).world in
      let sends : v.packets ≡ d.world.packets = wait_sends d.world a number in
      subst (λ (x : Said). Leads d (Wait p number) x y y) (sym (replied ∙ ap reply_of is))
      (brings_by d v (Wait p number) (reply_of (step d.world (WaitAt a number)).said) y y [] stands carries (wait_leaves d.world a number) (sends ∙ sym (append-nil d.world.packets))
      (fit_happened d (WaitAt a number) false tt stands.links) (wait_done (IsTold y) files d p number (all_listed d.world (λ k. (stands.links.rows k).places)) free)
      (record { disk_sets = refl; racks = refl; assemblies = refl; feeders = refl }) (sym same ∙ facts) (subst (λ (ps : List Packet). FlightStands ps y.flight) (sym sends) carries.flight))

  -- no test of the line refuses it, as the world sees it
  pub wait_free : (d : Doubted) (y : Yard R g) (p : List ℕ) (number : ℕ) → StandsFor d y → IsFree y (Wait p number) → refused_over d.world (in_files y) (Wait p number) ≡ None
  wait_free d y p number stands free = subst (λ (fs : List SiteFacts). line_refusal fs (in_files y) (Wait p number) ≡ None) stands.facts free
