-- A greeting or an acknowledgement that is handed to a site: what changes of the world is the site's link to its sender, and what the site puts together.
use Rattle.std.proofs.Common.{◌≡◌, ◌∙◌, ◌+◌, ◌≤◌, ℕ, Bool, true, false, ap, sym, subst, refl, arith}
use Rattle.std.specs.Prelude.{◌&&◌, eqb, ltb, Option, Some, None, if◌then◌else◌}
use Rattle.vx_model.specs.Content.{Write}
use Rattle.vx_model.specs.Sites.{is_up}
use Rattle.vx_model.specs.declared.site.SiteState.{SiteState}
use Rattle.vx_history.proofs.Updates.{at_place, by_test, eqb_apart, eqb_equal, eqb_self}
use Rattle.vx_history.specs.Doubts.{Doubted, happened}
use Rattle.vx_history.specs.Events.{delivered, gathered_if, gathers, handed, heard, is_taken, packet_at}
use Rattle.vx_history.specs.Gatherings.{left_by}
use Rattle.vx_history.specs.Headers.{count_at, heard_headers}
use Rattle.vx_history.specs.Refusals.{Outcome, is_running, keeps_links, says}
use Rattle.vx_history.specs.Sends.{is_linked, with_link}
use Rattle.vx_history.specs.World.{DataAck, Hello, Link, Message, NetAck, Packet, Update, World, updated}
use Rattle.vx_history.specs.declared.event.Event.TheVariants.{Deliver}
use Rattle.vx_history.specs.declared.event.Said.{Said}
use Rattle.vx_history.specs.declared.event.Said.TheVariants.{Ignored as IsIgnored}
use Rattle.vx_events.specs.Effects.{EffectAt}
use Rattle.vx_events.specs.LinksFit.{LinksFit}
use Rattle.vx_effects.proofs.Effects.{Turns, effect_of, turns_none, updated_self}
use Rattle.vx_effects.proofs.Fitting.{updated_other}
use Rattle.vx_effects.proofs.Packets.{no_header}

-- another value in the place where two functions may differ
place_again : {A : Type 0} (f g : ℕ → A) (t : ℕ) (x : A) → ((i : ℕ) → g i ≡ updated f t (g t) i) → (i : ℕ) → updated g t x i ≡ updated f t (updated g t x t) i
place_again f g t x same i =
    by_test (λ y. y ≡ updated f t (updated g t x t) i) (eqb i t) x (g i)
    (λ e. sym (ap (updated f t (updated g t x t)) (eqb_equal i t e) ∙ at_place f t (updated g t x t) ∙ at_place g t x))
    (λ e. same i ∙ updated_other f t i (g t) (eqb_apart i t e) ∙ sym (updated_other f t i (updated g t x t) (eqb_apart i t e)))

and_false : (a b : Bool) → b ≡ false → (a && b) ≡ false
and_false true b is = is
and_false false b is = refl

never_true : (b : Bool) → (b ≡ true → ⊥) → b ≡ false
never_true true never = absurd (never refl)
never_true false never = refl

-- a message that is no update
abbrev pub Answers : Message → Type 0
Answers m = (n : ℕ) (x : Write) → m ≡ Update n x → ⊥

module _ (w : World) (p : Packet) where
  abbrev t : ℕ
  t = p.target

  -- a world in which that link and what the target puts together may differ
  abbrev pub LinkTurns : World → Type 0
  LinkTurns v = Turns t w v (w.nodes t) (updated (w.links t) p.source (v.links t p.source)) w.packets (v.gathering t)

  link_none : (i k : ℕ) → w.links i k ≡ updated w.links t (updated (w.links t) p.source (w.links t p.source)) i k
  link_none i k =
      by_test (λ (row : ℕ → Link). w.links i k ≡ row k) (eqb i t) (updated (w.links t) p.source (w.links t p.source)) (w.links i)
      (λ e. ap (λ (j : ℕ). w.links j k) (eqb_equal i t e) ∙ updated_self (w.links t) p.source k) (λ _. refl)

  none_turns : LinkTurns w
  none_turns = record {
    sites = refl;
    nodes = λ i. updated_self w.nodes t i;
    links = link_none;
    headers = λ i. refl;
    sent = refl;
    gathering = λ i. updated_self w.gathering t i;
  }

  one_turns : (l : Link) → LinkTurns (with_link w t p.source l)
  one_turns l =
      let own : (with_link w t p.source l).links t p.source ≡ l =
      ap (λ (row : ℕ → Link). row p.source) (at_place w.links t (updated (w.links t) p.source l)) ∙ at_place (w.links t) p.source l in
      record {
        sites = refl;
        nodes = λ i. updated_self w.nodes t i;
        links = λ i k. ap (λ (x : Link). updated w.links t (updated (w.links t) p.source x) i k) (sym own);
        headers = λ i. refl;
        sent = refl;
        gathering = λ i. updated_self w.gathering t i;
      }

  heard_turns : (b : Bool) (l : Link) (said : Said) → LinkTurns (if b then says (with_link w t p.source l) said else says w IsIgnored).world
  heard_turns true l said = one_turns l
  heard_turns false l said = none_turns

  message_turns : (m : Message) → Answers m → LinkTurns (heard w p m).world
  message_turns (Hello session number stored) answers = heard_turns (keeps_links (w.nodes t).role && is_linked (w.links t p.source)) _ _
  message_turns (Update number x) answers = absurd (answers number x refl)
  message_turns (NetAck session number) answers = heard_turns (keeps_links (w.nodes t).role && is_linked (w.links t p.source)) _ _
  message_turns (DataAck number) answers = heard_turns (keeps_links (w.nodes t).role && is_linked (w.links t p.source)) _ _

  state_turns : (up : Bool) → Answers p.message → LinkTurns (if up then heard w p p.message else says w IsIgnored).world
  state_turns true answers = message_turns p.message answers
  state_turns false answers = none_turns

  gathered_turns : (taken : Bool) (v : World) → LinkTurns v → LinkTurns (gathered_if taken v p)
  gathered_turns true v turns = record {
    sites = turns.sites;
    nodes = turns.nodes;
    links = turns.links;
    headers = turns.headers;
    sent = turns.sent;
    gathering = place_again w.gathering v.gathering t (left_by (v.gathering t) p) turns.gathering;
  }
  gathered_turns false v turns = turns

  pub answer_turns : (number : ℕ) → packet_at w.packets number ≡ Some p → Answers p.message → LinkTurns (delivered w number (packet_at w.packets number)).world
  answer_turns number at answers =
      subst (λ (o : Option Packet). LinkTurns (delivered w number o).world) (sym at)
      (gathered_turns (is_taken (handed w p).said) (handed w p).world (state_turns (is_up (w.nodes t).state && is_running (w.nodes t).halted) answers))

-- ---- the event

-- one header where the link came to count more as stored
abbrev pub rose_by : (old new : Link) → ℕ
rose_by old new = if ltb old.stored new.stored then 1 else 0

pub answer_effect : (d : Doubted) (number : ℕ) (p : Packet) (taken : Bool) → packet_at d.world.packets number ≡ Some p → ((n : ℕ) (x : Write) → p.message ≡ Update n x → ⊥)
    → EffectAt p.target d (happened d (Deliver number) taken) (d.world.nodes p.target)
    (updated (d.world.links p.target) p.source ((delivered d.world number (packet_at d.world.packets number)).world.links p.target p.source))
    (d.world.headers p.target + (if ltb (d.world.links p.target p.source).stored ((delivered d.world number (packet_at d.world.packets number)).world.links p.target p.source).stored then 1 else 0))
    (d.after p.target) d.world.packets ((delivered d.world number (packet_at d.world.packets number)).world.gathering p.target)
answer_effect d number p taken at answers =
    let w : World = d.world in
    let o : Outcome = delivered w number (packet_at w.packets number) in
    let many : ℕ = rose_by (w.links p.target p.source) (o.world.links p.target p.source) in
    let headers : (i : ℕ) → heard_headers w o.world i (packet_at w.packets number) ≡ count_at p.target i many = λ i. ap (λ (q : Option Packet). heard_headers w o.world i q) at in
    effect_of d (Deliver number) o p.target many refl (answer_turns w p number at answers)
    (headers p.target ∙ ap (λ (b : Bool). if b then many else 0) (eqb_self p.target))
    (λ i apart. headers i ∙ by_test (λ (k : ℕ). k ≡ 0) (eqb p.target i) many 0 (λ e. absurd (apart (sym (eqb_equal p.target i e)))) (λ _. refl))

-- ---- nobody hears

none_heard : (w : World) (i : ℕ) (o : Option Packet) → heard_headers w w i o ≡ 0
none_heard w i None = refl
none_heard w i (Some p) = no_header w w i p refl

pub ignored_effect : (d : Doubted) (number s : ℕ) (taken : Bool) → delivered d.world number (packet_at d.world.packets number) ≡ says d.world IsIgnored
    → EffectAt s d (happened d (Deliver number) taken) (d.world.nodes s) (d.world.links s) (d.world.headers s) (d.after s) d.world.packets (d.world.gathering s)
ignored_effect d number s taken is =
    let w : World = d.world in
    let same : w.headers s + 0 ≡ w.headers s = omega arith in
    subst (λ (k : ℕ). EffectAt s d (happened d (Deliver number) taken) (w.nodes s) (w.links s) k (d.after s) w.packets (w.gathering s)) same
    (effect_of d (Deliver number) (says w IsIgnored) s 0 is (turns_none s w) (none_heard w s (packet_at w.packets number)) (λ i apart. none_heard w i (packet_at w.packets number)))

pub deaf_stays : (w : World) (number : ℕ) (p : Packet) → packet_at w.packets number ≡ Some p → handed w p ≡ says w IsIgnored → delivered w number (packet_at w.packets number) ≡ says w IsIgnored
deaf_stays w number p at is = ap (λ (o : Option Packet). delivered w number o) at ∙ ap (λ (o : Outcome). gathers p o) is

-- no such site
pub target_stays : (d : Doubted) (number : ℕ) (p : Packet) → LinksFit d → packet_at d.world.packets number ≡ Some p → d.world.sites ≤ p.target
    → delivered d.world number (packet_at d.world.packets number) ≡ says d.world IsIgnored
target_stays d number p fits at past =
    let w : World = d.world in
    deaf_stays w number p at
    (ap (λ (s : SiteState). if is_up s && is_running (w.nodes p.target).halted then heard w p p.message else says w IsIgnored) (fits.later p.target past))

module _ (w : World) (p : Packet) (none : is_linked (w.links p.target p.source) ≡ false) where
  no_link_hears : (o : Outcome) → (if keeps_links (w.nodes p.target).role && is_linked (w.links p.target p.source) then o else says w IsIgnored) ≡ says w IsIgnored
  no_link_hears o = ap (λ (b : Bool). if b then o else says w IsIgnored) (and_false (keeps_links (w.nodes p.target).role) (is_linked (w.links p.target p.source)) none)

  none_hear : (m : Message) → Answers m → heard w p m ≡ says w IsIgnored
  none_hear (Hello session number stored) answers = no_link_hears _
  none_hear (Update number x) answers = absurd (answers number x refl)
  none_hear (NetAck session number) answers = no_link_hears _
  none_hear (DataAck number) answers = no_link_hears _

  none_handed : (up : Bool) → Answers p.message → (if up then heard w p p.message else says w IsIgnored) ≡ says w IsIgnored
  none_handed true answers = none_hear p.message answers
  none_handed false answers = refl

-- an answer of no such site
pub source_stays : (d : Doubted) (number : ℕ) (p : Packet) → LinksFit d → packet_at d.world.packets number ≡ Some p → ((n : ℕ) (x : Write) → p.message ≡ Update n x → ⊥) → d.world.sites ≤ p.source
    → delivered d.world number (packet_at d.world.packets number) ≡ says d.world IsIgnored
source_stays d number p fits at answers past =
    let w : World = d.world in
    let none : is_linked (w.links p.target p.source) ≡ false =
    never_true (is_linked (w.links p.target p.source)) (λ is. let below = (fits.rows p.target).places.within p.source is in absurd (omega (arith, below, past))) in
    deaf_stays w number p at (none_handed w p none (is_up (w.nodes p.target).state && is_running (w.nodes p.target).halted) answers)
