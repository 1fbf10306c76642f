-- A line within one that settles a link, as its one event: how it ends, what it is answered, and which packets go between two sites.
use Rattle.std.proofs.Common.{◌≡◌, ◌∙◌, ◌⊎◌, inl, inr, ◌+◌, ◌≤◌, ℕ, List, [], ◌∷◌, ◌++◌, Bool, true, false, ap, sym, subst, refl}
use Rattle.std.proofs.lemmas.Bool.{and_parts}
use Rattle.std.proofs.Math.Path.{fun_ext}
use Rattle.std.specs.Prelude.{◌&&◌, ◌||◌, Option, Some, eqb, unwrap_or, if◌then◌else◌}
use Rattle.vx_model.specs.Content.{Write}
use Rattle.vx_model.specs.declared.limits.TheConstants.{MOST_NUMBER}
use Rattle.vx_model.specs.declared.no.Counted.TheVariants.{Number}
use Rattle.vx_model.specs.declared.no.No.{No}
use Rattle.vx_model.specs.declared.no.No.TheVariants.{Device, Limit, Down as IsOff}
use Rattle.vx_history.proofs.Updates.{by_test, eqb_equal}
use Rattle.vx_history.specs.Doubts.{Doubted, Runs, crashed_as, halved, happened}
use Rattle.vx_history.specs.Events.{delivered, heard, packet_at, said_of_link, taken_if, update_taken}
use Rattle.vx_history.specs.Headers.{is_refused}
use Rattle.vx_history.specs.Refusals.{Outcome, is_running, keeps_links}
use Rattle.vx_history.specs.Gatherings.{completes}
use Rattle.vx_history.specs.Sends.{is_linked}
use Rattle.vx_model.specs.Sites.{is_origin, is_up}
use Rattle.vx_history.specs.Settling.{is_between}
use Rattle.vx_history.specs.Step.{step}
use Rattle.vx_history.specs.Stops.{ComesTo, IsFused, IsOpen, WritesAt}
use Rattle.vx_history.specs.World.{DataAck, Fuse, Hello, Message, NetAck, Node, Packet, Update, World, updated}
use Rattle.vx_history.specs.declared.event.Event.{Event}
use Rattle.vx_history.specs.declared.event.Event.TheVariants.{Apply as ApplyAt, Deliver as DeliverAt}
use Rattle.vx_history.specs.declared.event.Said.{Said as EventSaid}
use Rattle.vx_history.specs.declared.event.Said.TheVariants as happening
use Rattle.vx_history.specs.declared.receiver.RAction.{RAction}
use Rattle.vx_history.specs.declared.receiver.RAction.TheVariants as receiving
use Rattle.vx_history.specs.declared.sender.Action.{Action}
use Rattle.vx_history.specs.declared.sender.Action.TheVariants as sending
use Rattle.vx_script.specs.declared.line.ScriptLine.{ScriptLine}
use Rattle.vx_events.specs.Facts.{group_by, seat_of, site_fact, site_number, values_from}
use Rattle.vx_order.specs.declared.facts.RvgFacts.{RvgFacts}
use Rattle.vx_order.specs.declared.facts.SiteFacts.{SiteFacts}
use Rattle.vx_model.specs.declared.site.SiteState.{SiteState}
use Rattle.vx_model.specs.declared.site.SiteState.TheVariants.{Bare, Deported, Down, Up}
use Rattle.vx_events.specs.Fails.{Fails, IsLogDisk}
use Rattle.vx_events.specs.LinkEnds.{AppliesCut, AppliesPart, AreLeft, LinkEnds, LinkReplies, LinksCut, LinksDone, LinksFind, LinksHalt, LogUnread, NoHeader, ReadsLog, TakesNumber}
use Rattle.vx_events.specs.LinkFinds.{FindsOther}
use Rattle.vx_events.specs.LinkLists.{link_events}
use Rattle.vx_events.specs.Sayings.{RepeatsSaid}
use Rattle.vx_events.specs.Stamps.{most_stamp_at, stamps_of}
use Rattle.vx_events.specs.declared.said.Said.{Said}
use Rattle.vx_events.specs.declared.said.Said.TheVariants.{Refused}
use Rattle.vx_settling.specs.Between.{IsSent, is_update}
use Rattle.vx_settling.specs.Burnt.{Going, burnt_world}
use Rattle.vx_settling.specs.Kinds.{is_settling}
use Rattle.vx_settling.proofs.Running.{happens}

-- ---- a line of one event

-- how it ended
pub data OneEnds (told : Type 0) (d : Doubted) (line : ScriptLine) (e : Event) (fails : Fails) (said : Said) (new : Doubted) : Type 0 where
  OneDone : fails ≡ [] → RepeatsSaid (step d.world e).world 0 (step d.world e).said said → AreLeft line d (happened d e false) new → OneEnds told d line e fails said new
  OneHalts : (site disk : ℕ) → IsOpen (d.world.nodes site) → WritesAt d.world e site → IsLogDisk (d.world.nodes site) disk → fails ≡ (site, disk) ∷ [] → said ≡ Refused (Device disk) → AreLeft line d (halved d e site disk) new
      → OneEnds told d line e fails said new
  OneCut : (site kept : ℕ) (taken : Bool) → IsOpen (d.world.nodes site) → WritesAt d.world e site → IsFused (d.world.nodes site).fuse → fails ≡ [] → said ≡ Refused IsOff
      → AreLeft line d (crashed_as (halved d e site 0) site kept taken) new → OneEnds told d line e fails said new
  OneUnread : (site disk : ℕ) → ReadsLog d.world e site → IsLogDisk (d.world.nodes site) disk → fails ≡ (site, disk) ∷ [] → said ≡ Refused (Device disk) → AreLeft line d d new → OneEnds told d line e fails said new
  OneFull : (site : ℕ) → TakesNumber d.world e site → (told → MOST_NUMBER ≤ most_stamp_at d.world site + stamps_of e d.world site) → fails ≡ [] → said ≡ Refused (Limit Number MOST_NUMBER)
      → AreLeft line d d new → OneEnds told d line e fails said new
  OneFinds : (told → ⊥) → (last : Doubted) → FindsOther d line fails said last → AreLeft line d last new → OneEnds told d line e fails said new

pub head_same : (x y : Event) (xs ys : List Event) → x ∷ xs ≡ y ∷ ys → (x ≡ y) × (xs ≡ ys)
head_same x y xs ys e = (let f : x ≡ y = cc in f, let f : xs ≡ ys = cc in f)

never_behind : (xs ys : List Event) (e : Event) → [] ≡ xs ++ e ∷ ys → ⊥
never_behind [] ys e is = cc
never_behind (x ∷ xs) ys e is = cc

-- the events of a list of one up to one of them
pub single : (x e : Event) (before rest : List Event) → x ∷ [] ≡ before ++ e ∷ rest → (before ≡ []) × (e ≡ x)
single x e [] rest is = (refl, sym (head_same x e [] rest is).0)
single x e (y ∷ ys) rest is = absurd (never_behind ys rest e (head_same x y [] (ys ++ e ∷ rest) is).1)

abbrev pub is_apply : Event → Bool
is_apply (ApplyAt s count reached) = true
is_apply other = false

module _ (told : Type 0) (d : Doubted) (calm : told → d.strayed ≡ false) (line : ScriptLine) (x : Event) (fails : Fails) (said : Said) (new : Doubted) (events : link_events d.world line ≡ x ∷ []) (other : is_apply x ≡ false) (plain : is_settling x ≡ true)
    (replies : (last : Doubted) → LinkReplies line d last (x ∷ []) said → RepeatsSaid (step d.world x).world 0 (step d.world x).said said) where
  comes_first : (e : Event) (site : ℕ) (middle : Doubted) → ComesTo d (link_events d.world line) e site middle → (e ≡ x) × (middle ≡ d) × IsOpen (middle.world.nodes site) × WritesAt middle.world e site
  comes_first e site middle comes =
      let one = single x e comes.before comes.rest (sym events ∙ comes.split) in
      (one.1, subst (λ (es : List Event). Runs d es middle) one.0 comes.runs, comes.opens, comes.writes)

  runs_first : (last : Doubted) → Runs d (link_events d.world line) last → last ≡ happened d x false
  runs_first last runs =
      let one : Runs d (x ∷ []) last = subst (λ (es : List Event). Runs d es last) events runs in
      one.1 ∙ happens d x one.0 plain ∙ sym (happens d x false plain)

  not_apply : (before rest : List Event) (site count reached : ℕ) → link_events d.world line ≡ before ++ ApplyAt site count reached ∷ rest → ⊥
  not_apply before rest site count reached split =
      let one = single x (ApplyAt site count reached) before rest (sym events ∙ split) in
      let e : true ≡ false = ap is_apply one.1 ∙ other in cc

  pub one_ends : LinkEnds told d line fails said new → OneEnds told d line x fails said new
  one_ends (LinksDone last runs _ none reply left) =
      let is = runs_first last runs in
      OneDone none (replies last (subst (λ (es : List Event). LinkReplies line d last es said) events reply)) (subst (λ (m : Doubted). AreLeft line d m new) is left)
  one_ends (LinksHalt e site disk middle comes here one says left) =
      let c = comes_first e site middle comes in
      OneHalts site disk (subst (λ (m : Doubted). IsOpen (m.world.nodes site)) c.1 c.2)
      (subst (λ (f : Event). WritesAt d.world f site) c.0 (subst (λ (m : Doubted). WritesAt m.world e site) c.1 c.3)) (subst (λ (m : Doubted). IsLogDisk (m.world.nodes site) disk) c.1 here) one says
      (subst (λ (f : Event). AreLeft line d (halved d f site disk) new) c.0 (subst (λ (m : Doubted). AreLeft line d (halved m e site disk) new) c.1 left))
  one_ends (AppliesPart before rest site count reached disk last split runs none here one says left) = absurd (not_apply before rest site count reached split)
  one_ends (AppliesCut before rest site count reached kept taken middle split runs none few opens fused one says left) = absurd (not_apply before rest site count reached split)
  one_ends (LinksCut e site kept taken middle comes fused one says left) =
      let c = comes_first e site middle comes in
      OneCut site kept taken (subst (λ (m : Doubted). IsOpen (m.world.nodes site)) c.1 c.2)
      (subst (λ (f : Event). WritesAt d.world f site) c.0 (subst (λ (m : Doubted). WritesAt m.world e site) c.1 c.3)) fused one says
      (subst (λ (f : Event). AreLeft line d (crashed_as (halved d f site 0) site kept taken) new) c.0 (subst (λ (m : Doubted). AreLeft line d (crashed_as (halved m e site 0) site kept taken) new) c.1 left))
  one_ends (LogUnread before rest e site disk middle split reads runs none here one says left) =
      let o = single x e before rest (sym events ∙ split) in
      let same : middle ≡ d = subst (λ (es : List Event). Runs d es middle) o.0 runs in
      OneUnread site disk (subst (λ (f : Event). ReadsLog d.world f site) o.1 (subst (λ (m : Doubted). ReadsLog m.world e site) same reads)) (subst (λ (m : Doubted). IsLogDisk (m.world.nodes site) disk) same here) one says (subst (λ (m : Doubted). AreLeft line d m new) same left)
  one_ends (NoHeader before rest e site middle split takes runs none lacks one says left) =
      let o = single x e before rest (sym events ∙ split) in
      let same : middle ≡ d = subst (λ (es : List Event). Runs d es middle) o.0 runs in
      OneFull site (subst (λ (f : Event). TakesNumber d.world f site) o.1 (subst (λ (m : Doubted). TakesNumber m.world e site) same takes))
      (subst (λ (f : Event). told → MOST_NUMBER ≤ most_stamp_at d.world site + stamps_of f d.world site) o.1
      (subst (λ (m : Doubted). told → MOST_NUMBER ≤ most_stamp_at m.world site + stamps_of e m.world site) same lacks)) one says (subst (λ (m : Doubted). AreLeft line d m new) same left)
  one_ends (LinksFind untold last finds left) = OneFinds (λ tells. untold tells (calm tells)) last finds left

-- ---- by the reply

pub reply_on : (on : Type 0) (off : No → Type 0) (w : World) (s : ℕ) (x : EventSaid) (said : Said) → is_refused x ≡ false → RepeatsSaid w s x said → on → Going on off said
reply_on on off w s happening.Done said not is it = subst (λ (y : Said). Going on off y) (sym is) it
reply_on on off w s (happening.DoneAt number) said not is it = subst (λ (y : Said). Going on off y) (sym is) it
reply_on on off w s (happening.Logged number) said not is it = subst (λ (y : Said). Going on off y) (sym is) it
reply_on on off w s (happening.Pending number) said not is it = subst (λ (y : Said). Going on off y) (sym is) it
reply_on on off w s (happening.Got bytes) said not is it = subst (λ (y : Said). Going on off y) (sym is) it
reply_on on off w s happening.Taken said not is it = subst (λ (y : Said). Going on off y) (sym is) it
reply_on on off w s happening.Ignored said not is it = subst (λ (y : Said). Going on off y) (sym is) it
reply_on on off w s (happening.Recovered number) said not is it = subst (λ (y : Said). Going on off y) (sym is) it
reply_on on off w s (happening.Refused why) said not is it = absurd (cc)

-- ---- names

fact_fuse : (n : Node) (f : Fuse) → site_fact (record n { fuse = f }) ≡ site_fact n
fact_fuse n f = ap (λ (r : Option RvgFacts). let x : SiteFacts = record (site_fact n) { rvg = r } in x) (by n.state)
  where
    by : (t : SiteState) → group_by t (record n { fuse = f }) ≡ group_by t n
    by Bare = refl
    by Up = refl
    by Deported = refl
    by Down = refl

pub number_burnt : (fuses : ℕ → Fuse) (w : World) (name : List ℕ) → site_number (burnt_world fuses w) name ≡ site_number w name
number_burnt fuses w name =
    let one : ℕ → SiteFacts = λ i. site_fact (record (w.nodes i) { fuse = fuses i }) in
    let two : ℕ → SiteFacts = λ i. site_fact (w.nodes i) in
    let same : one ≡ two = fun_ext (λ i. fact_fuse (w.nodes i) (fuses i)) in
    ap (λ (f : ℕ → SiteFacts). unwrap_or (seat_of (values_from f 0 w.sites) name) 0) same

-- ---- packets

one_is : (x y : Bool) → (x || y) ≡ true → (x ≡ true) ⊎ (y ≡ true)
one_is true y e = inl refl
one_is false y e = inr e

-- the ends of a packet between two sites
ends_of : (a b : ℕ) (q : Packet) → is_between a b q ≡ true → ((q.source ≡ a) × (q.target ≡ b)) ⊎ ((q.source ≡ b) × (q.target ≡ a))
ends_of a b q between = by (one_is (eqb q.source a && eqb q.target b) (eqb q.source b && eqb q.target a) between)
  where
    by : ((eqb q.source a && eqb q.target b) ≡ true) ⊎ ((eqb q.source b && eqb q.target a) ≡ true) → ((q.source ≡ a) × (q.target ≡ b)) ⊎ ((q.source ≡ b) × (q.target ≡ a))
    by (inl there) = let e = and_parts (eqb q.source a) (eqb q.target b) there in inl (eqb_equal q.source a e.0, eqb_equal q.target b e.1)
    by (inr back) = let e = and_parts (eqb q.source b) (eqb q.target a) back in inr (eqb_equal q.source b e.0, eqb_equal q.target a e.1)

pub target_of : (a b : ℕ) (q : Packet) → is_between a b q ≡ true → (q.target ≡ a) ⊎ (q.target ≡ b)
target_of a b q between = by (ends_of a b q between)
  where
    by : ((q.source ≡ a) × (q.target ≡ b)) ⊎ ((q.source ≡ b) × (q.target ≡ a)) → (q.target ≡ a) ⊎ (q.target ≡ b)
    by (inl there) = inr there.1
    by (inr back) = inl back.1

update_or : (m : Message) → is_update m ≡ true → ((k : ℕ) (x : Write) → m ≡ Update k x → ⊥) → ⊥
update_or (Hello session number stored) is none = absurd (cc)
update_or (Update number x) is none = none number x refl
update_or (NetAck session number) is none = absurd (cc)
update_or (DataAck number) is none = absurd (cc)

-- what is no update goes to the first one
pub first_heard : (a b : ℕ) (q : Packet) → (b ≡ a → ⊥) → IsSent a b q → is_between a b q ≡ true → ((k : ℕ) (x : Write) → q.message ≡ Update k x → ⊥) → q.target ≡ a
first_heard a b q apart (inl update) between none = absurd (update_or q.message update.2 none)
first_heard a b q apart (inr answer) between none = by (ends_of a b q between)
  where
    by : ((q.source ≡ a) × (q.target ≡ b)) ⊎ ((q.source ≡ b) × (q.target ≡ a)) → q.target ≡ a
    by (inl there) = absurd (apart (sym answer.0 ∙ there.0))
    by (inr back) = back.1

pub fuse_at : (nodes : ℕ → Node) (s : ℕ) (n : Node) (i : ℕ) → n.fuse ≡ (nodes s).fuse → (updated nodes s n i).fuse ≡ (nodes i).fuse
fuse_at nodes s n i same = by (eqb i s) refl
  where
    by : (c : Bool) → eqb i s ≡ c → (if c then n else nodes i).fuse ≡ (nodes i).fuse
    by true is = same ∙ ap (λ (j : ℕ). (nodes j).fuse) (sym (eqb_equal i s is))
    by false is = refl

-- ---- what is said of a packet is no refusal

link_says : (w : World) (x : Action) → is_refused (said_of_link x) ≡ false
link_says w sending.Nothing = refl
link_says w sending.Ignored = refl
link_says w sending.Taken = refl
link_says w (sending.Updates from to) = refl

update_says : (w : World) (q : Packet) (x : Write) (r : RAction) → is_refused (update_taken w q x r).said ≡ false
update_says w q x receiving.Nothing = refl
update_says w q x receiving.Ignored = refl
update_says w q x (receiving.IgnoredAck number) = refl
update_says w q x (receiving.Take number) = by (completes (w.gathering q.target) q)
  where
    by : (c : Bool) → is_refused (taken_if c w q x number).said ≡ false
    by true = refl
    by false = refl
update_says w q x (receiving.DataAck number) = refl

heard_says : (w : World) (q : Packet) (m : Message) → is_refused (heard w q m).said ≡ false
heard_says w q (Hello session number stored) = by_test (λ (o : Outcome). is_refused o.said ≡ false) (keeps_links (w.nodes q.target).role && is_linked (w.links q.target q.source)) _ _ (λ hears. link_says w _) (λ deaf. refl)
heard_says w q (Update number x) = by_test (λ (o : Outcome). is_refused o.said ≡ false) (is_origin (w.nodes q.target).role) _ _ (λ origin. refl) (λ receives. update_says w q x _)
heard_says w q (NetAck session number) = by_test (λ (o : Outcome). is_refused o.said ≡ false) (keeps_links (w.nodes q.target).role && is_linked (w.links q.target q.source)) _ _ (λ hears. link_says w _) (λ deaf. refl)
heard_says w q (DataAck number) = by_test (λ (o : Outcome). is_refused o.said ≡ false) (keeps_links (w.nodes q.target).role && is_linked (w.links q.target q.source)) _ _ (λ hears. link_says w _) (λ deaf. refl)

pub delivered_says : (w : World) (number : ℕ) (q : Packet) → packet_at w.packets number ≡ Some q → is_refused (step w (DeliverAt number)).said ≡ false
delivered_says w number q at =
    ap (λ (o : Option Packet). is_refused (delivered w number o).said) at
    ∙ by_test (λ (o : Outcome). is_refused o.said ≡ false) (is_up (w.nodes q.target).state && is_running (w.nodes q.target).halted) _ _ (λ up. heard_says w q q.message) (λ closed. refl)
