-- Packets among all that were sent, and sites and links that settle still.
use Rattle.std.proofs.Common.{◌≡◌, ◌∙◌, ℕ, zero, suc, ◌+◌, List, [], ◌∷◌, ◌++◌, length, refl, ap, sym, subst, arith, Bool, true, false}
use Rattle.std.proofs.lemmas.Bool.Decides.{nat_tests}
use Rattle.std.specs.Prelude.{slice_get, Some, eqb, ◌&&◌, ◌||◌, if◌then◌else◌}
use Rattle.std.specs.List.{AllByRecursion}
use Rattle.vx_model.specs.Content.{Write}
use Rattle.vx_model.specs.declared.history.Line.{Line}
use Rattle.vx_model.proofs.Lists.{found_more}
use Rattle.vx_history.proofs.Updates.{eqb_self}
use Rattle.vx_history.specs.World.{Node, Link, Packet, Message, Update, Regions}
use Rattle.vx_history.specs.Sends.{packet, packets_of, updates}
use Rattle.vx_history.specs.declared.event.Event.{Event}
use Rattle.vx_history.specs.declared.event.Event.TheVariants.{Deliver}
use Rattle.vx_history.specs.Settling.{is_between, deliver_between}
use Rattle.vx_world.proofs.Lists.{each_append}
use Rattle.vx_world.proofs.Links.{each_packet}
use Rattle.vx_world.proofs.Pair.{Fit}

-- these packets are delivered in their order; so many stand before the first
abbrev pub deliver_each : (before : ℕ) → List Packet → List Event
deliver_each before [] = []
deliver_each before (p ∷ ps) = Deliver (suc before) ∷ deliver_each (suc before) ps

-- where each goes between the two sites, each is delivered
pub all_between : (p s k : ℕ) (qs : List Packet) → AllByRecursion (λ q. is_between p s q ≡ true) qs → deliver_between p s k qs ≡ deliver_each k qs
all_between p s k [] are = refl
all_between p s k (q ∷ qs) (here, rest) =
    ap (λ (b : Bool). if b then Deliver (suc k) ∷ deliver_between p s (suc k) qs else deliver_between p s (suc k) qs) here
    ∙ ap (λ (es : List Event). Deliver (suc k) ∷ es) (all_between p s (suc k) qs rest)

pub between_on : (p s : ℕ) (line : Line) (m : Message) (part : ℕ) → is_between p s (packet p s line m part) ≡ true
between_on p s line m part = either (eqb p p && eqb s s) _ (both (eqb p p) (eqb s s) (eqb_self p) (eqb_self s))
  where
    both : (a b : Bool) → a ≡ true → b ≡ true → (a && b) ≡ true
    both true b e f = f
    both false b e f = absurd (cc)

    either : (a b : Bool) → a ≡ true → (a || b) ≡ true
    either true b e = refl
    either false b e = absurd (cc)

pub between_back : (p s : ℕ) (line : Line) (m : Message) (part : ℕ) → is_between p s (packet s p line m part) ≡ true
between_back p s line m part = either _ (eqb s s && eqb p p) (both (eqb s s) (eqb p p) (eqb_self s) (eqb_self p))
  where
    both : (a b : Bool) → a ≡ true → b ≡ true → (a && b) ≡ true
    both true b e f = f
    both false b e f = absurd (cc)

    either : (a b : Bool) → b ≡ true → (a || b) ≡ true
    either true b e = refl
    either false b e = e

-- what the receiver says to a third site
pub between_none : (p s q : ℕ) (line : Line) (m : Message) (part : ℕ) → (p ≡ s → ⊥) → eqb q p ≡ false → is_between p s (packet s q line m part) ≡ false
between_none p s q line m part apart other = neither (eqb s p) (eqb q s) (eqb s s) (eqb q p) (differs s p (λ e. apart (sym e))) other
  where
    neither : (a b c d : Bool) → a ≡ false → d ≡ false → ((a && b) || (c && d)) ≡ false
    neither false b true false e f = refl
    neither false b false false e f = refl
    neither true b c d e f = absurd (cc)
    neither false b c true e f = absurd (cc)

    differs : (m n : ℕ) → (m ≡ n → ⊥) → eqb m n ≡ false
    differs m n h = grind (arith, nat_tests)

-- the updates on a link
pub updates_between : (p s : ℕ) (line : Line) (n : ℕ) (xs : List Write) → AllByRecursion (λ q. is_between p s q ≡ true) (updates p s line n xs)
updates_between p s line n [] = tt
updates_between p s line n (x ∷ xs) =
    each_append (λ q. is_between p s q ≡ true) (packets_of p s line (Update n x)) (updates p s line (n + 1) xs)
    (each_packet (λ q. is_between p s q ≡ true) p s line (Update n x) (between_on p s line (Update n x))) (updates_between p s line (n + 1) xs)

-- these packets stand among all that were sent, the first behind k others
abbrev pub IsIn : List Packet → ℕ → List Packet → Type 0
IsIn ps k qs = (j : ℕ) (q : Packet) → slice_get qs j ≡ Some q → slice_get ps (k + j) ≡ Some q

pub in_head : (ps : List Packet) (k : ℕ) (q : Packet) (qs : List Packet) → IsIn ps k (q ∷ qs) → slice_get ps k ≡ Some q
in_head ps k q qs h = subst (λ i. slice_get ps i ≡ Some q) (let e : k + zero ≡ k = omega arith in e) (h zero q refl)

pub in_tail : (ps : List Packet) (k : ℕ) (q : Packet) (qs : List Packet) → IsIn ps k (q ∷ qs) → IsIn ps (suc k) qs
in_tail ps k q qs h j x e = subst (λ i. slice_get ps i ≡ Some x) (let f : k + suc j ≡ suc k + j = omega arith in f) (h (suc j) x e)

pub in_more : (ps more : List Packet) (k : ℕ) (qs : List Packet) → IsIn ps k qs → IsIn (ps ++ more) k qs
in_more ps more k qs h j q e = found_more ps more (k + j) q (h j q e)

pub in_new : (xs ys : List Packet) → IsIn (xs ++ ys) (length xs) ys
in_new [] ys j q e = subst (λ i. slice_get ys i ≡ Some q) (let f : j ≡ zero + j = omega arith in f) e
in_new (x ∷ xs) ys j q e = subst (λ i. slice_get (x ∷ xs ++ ys) i ≡ Some q) (let f : suc (length xs + j) ≡ suc (length xs) + j = omega arith in f)
    (in_new xs ys j q e)

pub fit_log : (p s : ℕ) (a b : Node) (l : Link) (log : List Write) (fed : ℕ) → Fit p s a b l → Fit p s a (record b { log = log; fed_by = fed }) l
fit_log p s a b l log fed fit = record {
  apart = fit.apart;
  up_a = fit.up_a;
  up_b = fit.up_b;
  runs_a = fit.runs_a;
  runs_b = fit.runs_b;
  sends = fit.sends;
  receives = fit.receives;
  line = fit.line;
  takes = fit.takes;
  linked = fit.linked;
  attached = fit.attached;
  connected = fit.connected;
  running = fit.running;
  mode = fit.mode;
}

pub fit_link : (p s : ℕ) (a b : Node) (l : Link) (session net stored sent trimmed : ℕ) → Fit p s a b l
    → Fit p s a b (record l { session = session; net = net; stored = stored; sent = sent; trimmed = trimmed })
fit_link p s a b l session net stored sent trimmed fit = record {
  apart = fit.apart;
  up_a = fit.up_a;
  up_b = fit.up_b;
  runs_a = fit.runs_a;
  runs_b = fit.runs_b;
  sends = fit.sends;
  receives = fit.receives;
  line = fit.line;
  takes = fit.takes;
  linked = fit.linked;
  attached = fit.attached;
  connected = fit.connected;
  running = fit.running;
  mode = fit.mode;
}

pub fit_since : (p s : ℕ) (a b : Node) (l : Link) (since : Regions) → Fit p s a b l → Fit p s a b (record l { since = since })
fit_since p s a b l since fit = record {
  apart = fit.apart;
  up_a = fit.up_a;
  up_b = fit.up_b;
  runs_a = fit.runs_a;
  runs_b = fit.runs_b;
  sends = fit.sends;
  receives = fit.receives;
  line = fit.line;
  takes = fit.takes;
  linked = fit.linked;
  attached = fit.attached;
  connected = fit.connected;
  running = fit.running;
  mode = fit.mode;
}
