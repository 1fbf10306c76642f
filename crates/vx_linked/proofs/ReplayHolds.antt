-- A link that holds the log before an event of its replay and behind it holds the same of it.
use Rattle.std.proofs.Common.{◌≡◌, ◌∙◌, ℕ, Bool, true, false, ap, sym, refl}
use Rattle.std.specs.Prelude.{◌-◌, ◌&&◌, eqb, leb, if◌then◌else◌}
use Rattle.vx_history.specs.Admission.{hold, is_holding, mode_hold, mode_holds}
use Rattle.vx_model.specs.declared.link.Link.{Link}
use Rattle.vx_model.specs.declared.link.Mode.{Mode}
use Rattle.vx_model.specs.declared.link.Mode.TheVariants.{Dcm, Fork, Log, Replay, Stale}
use Rattle.vx_model.specs.declared.link.Phase.TheVariants.{Done, Log as ByLogAgain, Regions, Start}
use Rattle.vx_replay.specs.Primary.{AtPrimary, acked, as_it_was, begun, can_begin, done_heard, ends_at, in_mode, mode_fallen, mode_read, primary_step, region_heard, start_heard, stored_up_to}
use Rattle.vx_replay.specs.declared.event.PAction.TheVariants as pact
use Rattle.vx_replay.specs.declared.event.PEvent.{PEvent}
use Rattle.vx_replay.specs.declared.event.PEvent.TheVariants.{Ack, Begin, Pump, Read, Restart, Stored}

-- ---- choices

by_if : (b : Bool) (x y : AtPrimary) (n : ℕ) → hold x.link ≡ n → hold y.link ≡ n → hold (if b then x else y).link ≡ n
by_if true x y n one two = one
by_if false x y n one two = two

no_if : (b : Bool) (x y : AtPrimary) (n : ℕ) → hold y.link ≡ n → hold (if b && false then x else y).link ≡ n
no_if true x y n other = other
no_if false x y n other = other

not_held : (a : Bool) → (a && false) ≡ true → ⊥
not_held true is = let wrong : false ≡ true = is in cc
not_held false is = let wrong : false ≡ true = is in cc

copying_hold : (b : Bool) (id left start end stored : ℕ) → mode_hold (if b then Replay id Done left start end else Replay id Regions left start end) stored ≡ start
copying_hold true id left start end stored = refl
copying_hold false id left start end stored = refl

-- ---- the answers

start_hold : (l : Link) (id : ℕ) (mode : Mode) → l.mode ≡ mode → hold (start_heard l id mode).link ≡ hold l
start_hold l id Log is = refl
start_hold l id Dcm is = refl
start_hold l id (Replay of Start left start end) is =
    by_if (eqb id of && true) _ _ (hold l) (copying_hold (eqb left 0) of left start end l.stored ∙ sym (ap (λ (m : Mode). mode_hold m l.stored) is)) refl
start_hold l id (Replay of Regions left start end) is = no_if (eqb id of) _ _ (hold l) refl
start_hold l id (Replay of Done left start end) is = no_if (eqb id of) _ _ (hold l) refl
start_hold l id (Replay of ByLogAgain left start end) is = no_if (eqb id of) _ _ (hold l) refl
start_hold l id (Fork maps) is = refl
start_hold l id Stale is = refl

region_hold : (l : Link) (id : ℕ) (marked : Bool) (mode : Mode) → l.mode ≡ mode → hold (region_heard l id marked mode).link ≡ hold l
region_hold l id marked Log is = refl
region_hold l id marked Dcm is = refl
region_hold l id marked (Replay of Regions left start end) is =
    by_if (eqb id of && (true && marked)) _ _ (hold l) (copying_hold (eqb (left - 1) 0) of (left - 1) start end l.stored ∙ sym (ap (λ (m : Mode). mode_hold m l.stored) is)) refl
region_hold l id marked (Replay of Start left start end) is = no_if (eqb id of) _ _ (hold l) refl
region_hold l id marked (Replay of Done left start end) is = no_if (eqb id of) _ _ (hold l) refl
region_hold l id marked (Replay of ByLogAgain left start end) is = no_if (eqb id of) _ _ (hold l) refl
region_hold l id marked (Fork maps) is = refl
region_hold l id marked Stale is = refl

done_hold : (l : Link) (id : ℕ) (mode : Mode) → l.mode ≡ mode → hold (done_heard l id mode).link ≡ hold l
done_hold l id Log is = refl
done_hold l id Dcm is = refl
done_hold l id (Replay of Done left start end) is =
    let was : start ≡ hold l = sym (ap (λ (m : Mode). mode_hold m l.stored) is) in
    by_if (eqb id of && true) _ _ (hold l) (by_if (leb end start) _ _ (hold l) was was) refl
done_hold l id (Replay of Start left start end) is = no_if (eqb id of) _ _ (hold l) refl
done_hold l id (Replay of Regions left start end) is = no_if (eqb id of) _ _ (hold l) refl
done_hold l id (Replay of ByLogAgain left start end) is = no_if (eqb id of) _ _ (hold l) refl
done_hold l id (Fork maps) is = refl
done_hold l id Stale is = refl

acked_hold : (l : Link) (id kind : ℕ) (marked : Bool) → hold (acked l id kind marked).link ≡ hold l
acked_hold l id kind marked =
    by_if (eqb kind 0) _ _ (hold l) (start_hold l id l.mode refl)
    (by_if (eqb kind 1) _ _ (hold l) (region_hold l id marked l.mode refl) (by_if (eqb kind 2) _ _ (hold l) (done_hold l id l.mode refl) refl))

-- ---- the other events

begins_by : (m : Mode) → can_begin m ≡ true → mode_holds m ≡ false
begins_by Log is = cc
begins_by Dcm is = refl
begins_by (Replay id phase left start end) is = cc
begins_by (Fork maps) is = refl
begins_by Stale is = refl

begun_hold : (l : Link) (id head regions : ℕ) (b : Bool) → can_begin l.mode ≡ b → is_holding l ≡ true → hold (begun l id head regions).link ≡ hold l
begun_hold l id head regions true is held = absurd (not_held l.attached (sym (ap (λ (t : Bool). l.attached && t) (begins_by l.mode is)) ∙ held))
begun_hold l id head regions false is held =
    ap (λ (t : Bool). hold (if t then in_mode l (Replay id Start regions head head) pact.SendStart else as_it_was l pact.Nothing).link) is

read_hold : (head : ℕ) (m : Mode) (stored : ℕ) → mode_hold (mode_read head m) stored ≡ mode_hold m stored
read_hold head Log stored = refl
read_hold head Dcm stored = refl
read_hold head (Replay id phase left start end) stored = refl
read_hold head (Fork maps) stored = refl
read_hold head Stale stored = refl

ends_hold : (number : ℕ) (m : Mode) (stored : ℕ) → ends_at number m ≡ true → stored ≡ mode_hold m stored
ends_hold number Log stored is = refl
ends_hold number Dcm stored is = refl
ends_hold number (Replay id ByLogAgain left start end) stored is = refl
ends_hold number (Replay id Start left start end) stored is = cc
ends_hold number (Replay id Regions left start end) stored is = cc
ends_hold number (Replay id Done left start end) stored is = cc
ends_hold number (Fork maps) stored is = refl
ends_hold number Stale stored is = refl

stored_hold : (l : Link) (number : ℕ) (b : Bool) → ends_at number l.mode ≡ b → hold (stored_up_to l number).link ≡ hold l
stored_hold l number true is =
    ap (λ (t : Bool). hold (if t then in_mode l Log pact.Finished else as_it_was l pact.Nothing).link) is ∙ ends_hold number l.mode l.stored is
stored_hold l number false is = ap (λ (t : Bool). hold (if t then in_mode l Log pact.Finished else as_it_was l pact.Nothing).link) is

fallen_hold : (a : Bool) (m : Mode) (stored : ℕ) → (a && mode_holds (mode_fallen m)) ≡ true → mode_hold (mode_fallen m) stored ≡ mode_hold m stored
fallen_hold a Log stored held = refl
fallen_hold a Dcm stored held = refl
fallen_hold a (Replay id phase left start end) stored held = absurd (not_held a held)
fallen_hold a (Fork maps) stored held = refl
fallen_hold a Stale stored held = refl

pub replay_holds : (l : Link) (e : PEvent) → is_holding l ≡ true → is_holding (primary_step l e).link ≡ true → hold (primary_step l e).link ≡ hold l
replay_holds l (Begin id head regions) held next = begun_hold l id head regions (can_begin l.mode) refl held
replay_holds l (Ack id kind marked) held next = acked_hold l id kind marked
replay_holds l (Read head) held next = read_hold head l.mode l.stored
replay_holds l (Stored number) held next = stored_hold l number (ends_at number l.mode) refl
replay_holds l Pump held next = refl
replay_holds l Restart held next = fallen_hold l.attached l.mode l.stored next
