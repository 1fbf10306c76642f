-- What a yard carries, where its sites change.
use Rattle.std.proofs.Common.{◌≡◌, ◌∙◌, ◌<◌, ℕ, List, [], length, map, false, ap, sym, subst, arith, ⊎_elim, refl}
use Rattle.std.specs.Prelude.{Option, Some, None, All, get_or, slice_get, slice_set}
use Rattle.std.proofs.lemmas.Bool.{cases_eq}
use Rattle.std.proofs.lemmas.List.{length-map}
use Rattle.std.proofs.lemmas.List.Elements.{All-get_or}
use Rattle.std.proofs.lemmas.Option.{get_or_from_slice_get, slice_get-get_or, slice_get_within}
use Rattle.vx_courier.specs.Together.{AssemblyStands}
use Rattle.vx_courier.specs.UnderWay.{FlightStands, carrier}
use Rattle.vx_disk.specs.declared.shelf.Shelf.{Ghosts}
use Rattle.vx_events.specs.Doubts.{sure}
use Rattle.vx_events.specs.Effects.{AddsSite, ChangesAt, ChangesNode}
use Rattle.vx_events.proofs.Places.{never_some, some_same}
use Rattle.vx_history.specs.Doubts.{Doubted}
use Rattle.vx_history.specs.World.{Gathering, Node, Packet, empty_world}
use Rattle.vx_model.specs.Sites.{is_origin}
use Rattle.vx_model.specs.declared.limits.TheConstants.{MOST_SITES}
use Rattle.vx_model.specs.declared.no.No.{No}
use Rattle.vx_model.specs.declared.site.Role.{Role}
use Rattle.vx_model.specs.declared.site.SiteState.TheVariants.{Bare, Up}
use Rattle.vx_net.proofs.Sent.{all-sent}
use Rattle.vx_net.specs.Flights.{Flying, nothing_sent}
use Rattle.vx_packet.specs.Assemblies.{Assembled, HeldParts}
use Rattle.vx_parts.specs.Spelling.{IsTied}
use Rattle.vx_yard.specs.Carries.{Carries}
use Rattle.vx_yard.specs.Loads.{LetGo, LetGoBy}
use Rattle.vx_yard.specs.Yards.{IsTold}
use Rattle.vx_yard.specs.declared.yard.Yard.{Yard}
use Rattle.vx_yard.proofs.Lists.{get-set_other, get-set_same, length-set, set_same}

-- nothing is in assembly
pub empty_stands : (ps : List Packet) (s : ℕ) (a : Assembled) → a.held ≡ None → AssemblyStands ps s None a
empty_stands ps s a none = record {
  tied = subst (λ (h : Option HeldParts). IsTied h None) (sym none) tt;
  each = λ h some. absurd (never_some (sym none ∙ some));
}

-- in no place is anything in assembly
pub none_held : (xs : List Assembled) → All (λ a. a.held ≡ None) xs → (s : ℕ) (a : Assembled) → slice_get xs s ≡ Some a → a.held ≡ None
none_held xs all s a is =
    subst (λ (b : Assembled). b.held ≡ None) (get_or_from_slice_get xs s a a is) (All-get_or (λ (b : Assembled). b.held ≡ None) xs s a (slice_get_within xs s a is) all)

-- nothing was sent
pub none_flying : (f : Flying) → f ≡ nothing_sent → FlightStands [] f
none_flying f is = record { each = λ k p below. absurd (omega (arith, below)); few = omega arith; flying = is }

-- a site that is up and receives did so before, and the same one feeds it
pub record Feeds (n m : Node) : Type 0 where
  pub each : m.state ≡ Up → is_origin m.role ≡ false → (n.state ≡ Up) × (is_origin n.role ≡ false) × (m.fed_by ≡ n.fed_by)

-- the same site
pub feeds_same : (n m : Node) → m ≡ n → Feeds n m
feeds_same n m same = record {
  each = λ up receives. (
    ap (λ (k : Node). k.state) (sym same) ∙ up,
    ap (λ (k : Node). is_origin k.role) (sym same) ∙ receives,
    ap (λ (k : Node). k.fed_by) same,
  );
}

-- one that is up, receives and is fed as another one
pub feeds_like : (n m : Node) → m.state ≡ n.state → m.role ≡ n.role → m.fed_by ≡ n.fed_by → Feeds n m
feeds_like n m state role fed = record {
  each = λ up receives. (sym state ∙ up, ap (λ (r : Role). is_origin r) (sym role) ∙ receives, fed);
}

-- one that is not up, or does not receive
pub feeds_none : (n m : Node) → (m.state ≡ Up → is_origin m.role ≡ false → ⊥) → Feeds n m
feeds_none n m never = record { each = λ up receives. absurd (never up receives) }

module _ {R : Type 0} {g : Ghosts R} where
  -- as many packets are under way as the world has sent
  pub sent_count : (d : Doubted) (y : Yard R g) → Carries d y → y.flight.count ≡ length d.world.packets
  sent_count d y carries =
      let many : length (map carrier d.world.packets) ≡ length d.world.packets = length-map d.world.packets carrier in
      ap (λ (f : Flying). f.count) carries.flight.flying
      ∙ ap (λ (f : Flying). f.count) (all-sent (map carrier d.world.packets) (omega (arith, many, carries.flight.few))) ∙ many

  -- what the yard carries beside its sites is as it was
  pub record SameLoad (old new : Yard R g) : Type 0 where
    pub flight : new.flight ≡ old.flight
    pub assemblies : new.assemblies.items ≡ old.assemblies.items
    pub feeders : new.feeders.items ≡ old.feeders.items

  -- A yard that sends, puts together and feeds nothing goes on carrying what it did.
  pub carries_on : (d e : Doubted) (old new : Yard R g) → Carries d old → SameLoad old new → e.world.packets ≡ d.world.packets → ((i : ℕ) → e.world.gathering i ≡ d.world.gathering i)
      → ((i : ℕ) → Feeds (d.world.nodes i) (e.world.nodes i)) → (IsTold new → IsTold old) → (e.strayed ≡ false → d.strayed ≡ false) → Carries e new
  carries_on d e old new carries load packets gathering feeds told was_calm = record {
    flight = subst (λ (ps : List Packet). FlightStands ps new.flight) (sym packets) (subst (λ (f : Flying). FlightStands d.world.packets f) (sym load.flight) carries.flight);
    places = ap (λ (xs : List Assembled). length xs) load.assemblies ∙ carries.places;
    assemblies = λ tells calm s a is.
        subst (λ (ps : List Packet). AssemblyStands ps s (e.world.gathering s) a) (sym packets)
        (subst (λ (o : Option Gathering). AssemblyStands d.world.packets s o a) (sym (gathering s))
        (carries.assemblies (told tells) (was_calm calm) s a (sym (ap (λ (xs : List Assembled). slice_get xs s) load.assemblies) ∙ is)));
    numbers = ap (λ (fs : List ℕ). length fs) load.feeders ∙ carries.numbers;
    feeders = λ s feeder is up receives.
        let was = (feeds s).each up receives in
        carries.feeders s feeder (sym (ap (λ (fs : List ℕ). slice_get fs s) load.feeders) ∙ is) was.0 was.1 ∙ sym was.2;
  }

  -- The same where one site changed, and what it puts together stays.
  pub carries_at : (s : ℕ) (d e : Doubted) (old new : Yard R g) → Carries d old → SameLoad old new → ChangesAt s d e → Feeds (d.world.nodes s) (e.world.nodes s) → (IsTold new → IsTold old) → Carries e new
  carries_at s d e old new carries load changes feeds told =
      carries_on d e old new carries load changes.packets
      (λ i. ⊎_elim (λ (same : i ≡ s). subst (λ (k : ℕ). e.world.gathering k ≡ d.world.gathering k) (sym same) changes.gathering) (λ apart. changes.site.gathering i apart) (cases_eq i s))
      (λ i. ⊎_elim (λ (same : i ≡ s). subst (λ (k : ℕ). Feeds (d.world.nodes k) (e.world.nodes k)) (sym same) feeds)
      (λ apart. feeds_same (d.world.nodes i) (e.world.nodes i) (changes.site.nodes i apart)) (cases_eq i s))
      told changes.site.strayed

  -- The same where that site is another node, which is up, receives and is fed as the one before.
  pub carries_node : (s : ℕ) (d e : Doubted) (n : Node) (old new : Yard R g) → SameLoad old new → ChangesNode s d e → e.world.packets ≡ d.world.packets → e.world.gathering s ≡ d.world.gathering s
      → e.world.nodes s ≡ n → n.state ≡ (d.world.nodes s).state → n.role ≡ (d.world.nodes s).role → n.fed_by ≡ (d.world.nodes s).fed_by → (IsTold new → IsTold old) → Carries d old → Carries e new
  carries_node s d e n old new load changes packets gathering node state role fed told carries =
      carries_at s d e old new carries load (record { site = changes; packets = packets; gathering = gathering })
      (subst (λ (m : Node). Feeds (d.world.nodes s) m) (sym node) (feeds_like (d.world.nodes s) n state role fed)) told

  -- The same where no site changed.
  pub carries_same : (d : Doubted) (old new : Yard R g) → SameLoad old new → (IsTold new → IsTold old) → Carries d old → Carries d new
  carries_same d old new load told carries = carries_on d d old new carries load refl (λ i. refl) (λ i. feeds_same (d.world.nodes i) (d.world.nodes i) refl) told (λ calm. calm)

  -- The same where a site that is not up was added.
  pub carries_more : (d e : Doubted) (n : Node) (old new : Yard R g) → SameLoad old new → AddsSite d e n → (n.state ≡ Up → ⊥) → (IsTold new → IsTold old) → Carries d old → Carries e new
  carries_more d e n old new load adds down told carries =
      carries_on d e old new carries load adds.packets adds.gathering
      (λ i. ⊎_elim
      (λ (same : i ≡ d.world.sites).
      feeds_none (d.world.nodes i) (e.world.nodes i) (λ up receives. down (ap (λ (m : Node). m.state) (sym adds.node) ∙ ap (λ (k : ℕ). (e.world.nodes k).state) (sym same) ∙ up)))
      (λ apart. feeds_same (d.world.nodes i) (e.world.nodes i) (adds.nodes i apart)) (cases_eq i d.world.sites))
      told adds.strayed

  -- The same of a site that goes down or comes to a line: what it had in assembly is let go.
  pub record Cleared (old new : Yard R g) (s : ℕ) : Type 0 where
    pub flight : new.flight ≡ old.flight
    pub assembly : Assembled
    pub none : assembly.held ≡ None
    pub assemblies : new.assemblies.items ≡ slice_set old.assemblies.items s assembly

  pub carries_cleared : (s feeder : ℕ) (d e : Doubted) (old new : Yard R g) → Carries d old → Cleared old new s → s < MOST_SITES → new.feeders.items ≡ slice_set old.feeders.items s feeder → ChangesNode s d e
      → e.world.packets ≡ d.world.packets → e.world.gathering s ≡ None
      → ((e.world.nodes s).state ≡ Up → is_origin (e.world.nodes s).role ≡ false → feeder ≡ (e.world.nodes s).fed_by) → (IsTold new → IsTold old) → Carries e new
  carries_cleared s feeder d e old new carries cleared below fed changes packets empty feeds told = record {
    flight = subst (λ (ps : List Packet). FlightStands ps new.flight) (sym packets) (subst (λ (f : Flying). FlightStands d.world.packets f) (sym cleared.flight) carries.flight);
    places = ap (λ (xs : List Assembled). length xs) cleared.assemblies ∙ length-set old.assemblies.items s cleared.assembly ∙ carries.places;
    assemblies = λ tells calm i a is. ⊎_elim
        (λ (same : i ≡ s).
        let here : cleared.assembly ≡ a = some_same (sym (get-set_same old.assemblies.items s cleared.assembly (omega (arith, below, carries.places)))
        ∙ ap (λ (k : ℕ). slice_get (slice_set old.assemblies.items s cleared.assembly) k) (sym same) ∙ at i a is) in
        subst (λ (k : ℕ). AssemblyStands e.world.packets k (e.world.gathering k) a) (sym same)
        (subst (λ (o : Option Gathering). AssemblyStands e.world.packets s o a) (sym empty) (empty_stands e.world.packets s a (ap (λ (b : Assembled). b.held) (sym here) ∙ cleared.none))))
        (λ apart.
        subst (λ (ps : List Packet). AssemblyStands ps i (e.world.gathering i) a) (sym packets)
        (subst (λ (o : Option Gathering). AssemblyStands d.world.packets i o a) (sym (changes.gathering i apart))
        (carries.assemblies (told tells) (changes.strayed calm) i a (sym (get-set_other old.assemblies.items s i cleared.assembly apart) ∙ at i a is))))
        (cases_eq i s);
    numbers = ap (λ (fs : List ℕ). length fs) fed ∙ length-set old.feeders.items s feeder ∙ carries.numbers;
    feeders = λ i f is. ⊎_elim
        (λ (same : i ≡ s) up receives.
        let here : feeder ≡ f = some_same (sym (get-set_same old.feeders.items s feeder (omega (arith, below, carries.numbers)))
        ∙ ap (λ (k : ℕ). slice_get (slice_set old.feeders.items s feeder) k) (sym same) ∙ by i f is) in
        sym here ∙ subst (λ (k : ℕ). (e.world.nodes k).state ≡ Up → is_origin (e.world.nodes k).role ≡ false → feeder ≡ (e.world.nodes k).fed_by) (sym same) feeds up receives)
        (λ apart up receives.
        let was = (feeds_same (d.world.nodes i) (e.world.nodes i) (changes.nodes i apart)).each up receives in
        carries.feeders i f (sym (get-set_other old.feeders.items s i feeder apart) ∙ by i f is) was.0 was.1 ∙ sym was.2)
        (cases_eq i s);
  }
    where
      at : (i : ℕ) (a : Assembled) → slice_get new.assemblies.items i ≡ Some a → slice_get (slice_set old.assemblies.items s cleared.assembly) i ≡ Some a
      at i a is = sym (ap (λ (xs : List Assembled). slice_get xs i) cleared.assemblies) ∙ is

      by : (i f : ℕ) → slice_get new.feeders.items i ≡ Some f → slice_get (slice_set old.feeders.items s feeder) i ≡ Some f
      by i f is = sym (ap (λ (fs : List ℕ). slice_get fs i) fed) ∙ is

  -- what a site has in assembly is let go, and nothing else of what the yard carries changes
  pub record LetsGo (old new : Yard R g) (s : ℕ) : Type 0 where
    pub flight : new.flight ≡ old.flight
    pub assemblies : LetGo s old.assemblies.items new.assemblies.items
    pub feeders : new.feeders.items ≡ old.feeders.items

  -- the same where a refusal says that the site is down
  pub record LetsGoBy (why : No) (old new : Yard R g) (s : ℕ) : Type 0 where
    pub flight : new.flight ≡ old.flight
    pub assemblies : LetGoBy why s old.assemblies.items new.assemblies.items
    pub feeders : new.feeders.items ≡ old.feeders.items

  -- The same of a site that goes down, which the same site goes on feeding.
  pub carries_down : (s : ℕ) (d e : Doubted) (old new : Yard R g) → Carries d old → Cleared old new s → s < MOST_SITES → new.feeders.items ≡ old.feeders.items → ChangesNode s d e → e.world.packets ≡ d.world.packets
      → e.world.gathering s ≡ None → ((e.world.nodes s).state ≡ Up → ⊥) → (IsTold new → IsTold old) → Carries e new
  carries_down s d e old new carries cleared below fed changes packets empty down told =
      let feeder : ℕ = get_or old.feeders.items s 0 in
      let there : slice_get old.feeders.items s ≡ Some feeder = slice_get-get_or old.feeders.items s 0 (omega (arith, below, carries.numbers)) in
      carries_cleared s feeder d e old new carries cleared below (fed ∙ sym (set_same old.feeders.items s feeder there)) changes packets empty (λ up receives. absurd (down up)) told

  -- The same, by what is let go.
  pub carries_let : (s : ℕ) (d e : Doubted) (old new : Yard R g) → LetsGo old new s → s < MOST_SITES → ChangesNode s d e → e.world.packets ≡ d.world.packets → e.world.gathering s ≡ None
      → ((e.world.nodes s).state ≡ Up → ⊥) → (IsTold new → IsTold old) → Carries d old → Carries e new
  carries_let s d e old new lets below changes packets empty down told carries =
      carries_down s d e old new carries (record { flight = lets.flight; assembly = lets.assemblies.assembly; none = lets.assemblies.none; assemblies = lets.assemblies.is }) below lets.feeders changes packets empty down told

  -- a yard without sites, where nothing was sent and nothing is in assembly
  pub carries_none : (y : Yard R g) → y.flight ≡ nothing_sent → length y.assemblies.items ≡ MOST_SITES → ((s : ℕ) (a : Assembled) → slice_get y.assemblies.items s ≡ Some a → a.held ≡ None)
      → length y.feeders.items ≡ MOST_SITES → Carries (sure empty_world) y
  carries_none y flight places none numbers = record {
    flight = none_flying y.flight flight;
    places = places;
    assemblies = λ tells calm s a is. empty_stands [] s a (none s a is);
    numbers = numbers;
    feeders = λ s feeder is up receives. absurd (bare_up up);
  }
    where
      bare_up : Bare ≡ Up → ⊥
      bare_up e = cc
