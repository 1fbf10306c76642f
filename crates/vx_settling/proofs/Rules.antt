-- What the rule of a link leaves of it in the events of which settling is made.
use Rattle.std.proofs.Common.{◌≡◌, ◌∙◌, ◌≤◌, ℕ, Bool, true, false, refl, ap, sym, arith}
use Rattle.std.proofs.lemmas.Bool.Decides.{nat_tests}
use Rattle.std.specs.Prelude.{◌&&◌, ◌+◌, eqb, ltb, max, min}
use Rattle.vx_history.proofs.Updates.{and_right, by_test}
use Rattle.vx_history.specs.Admission.{is_live_link}
use Rattle.vx_history.specs.LinkForms.{plain_link, with_plain}
use Rattle.vx_history.specs.Sending.{Sent, by_log, greeted, greeted_apart, greeted_by_log, pumped_up_to, memory_acknowledged, disk_acknowledged, sent_step, with_ignored, with_nothing, with_taken}
use Rattle.vx_history.specs.World.{Link, Regions}
use Rattle.vx_history.specs.declared.sender.SEvent.TheVariants.{Connect, DataAck, Hello, NetAck, Pump, Tick}
use Rattle.vx_history.specs.declared.sender.SFacts.{SFacts}
use Rattle.vx_model.specs.declared.limits.TheConstants.{MOST_AHEAD}
use Rattle.vx_model.specs.declared.link.Link.{Link as PlainLink}
use Rattle.vx_model.specs.declared.link.Mode.TheVariants.{Log}
use Rattle.vx_settling.specs.Kinds.{StillGoes}

-- it is paused as it was, stays connected, and goes by the log still; neither its session falls nor what is stored
pub record PlainGoes (a b : PlainLink) : Type 0 where
  pub pauses : b.paused ≡ a.paused
  pub connects : a.connected ≡ true → b.connected ≡ true
  pub trims : a.trimmed ≡ 0 → b.trimmed ≡ 0
  pub logs : a.mode ≡ Log → b.mode ≡ Log
  pub sessions : a.session ≤ b.session
  pub stores : a.stored ≤ b.stored

less_of : (a b : ℕ) → ltb a b ≡ true → a ≤ b
less_of a b e = grind (arith, nat_tests)

most_left : (a b : ℕ) → a ≤ max a b
most_left a b = omega arith

abbrev SentGoes : PlainLink → Sent → Type 0
SentGoes a r = PlainGoes a r.link

plain_same : (a : PlainLink) → PlainGoes a a
plain_same a = record { pauses = refl; connects = λ e. e; trims = λ e. e; logs = λ e. e; sessions = omega arith; stores = omega arith }

pub connect_goes : (a : PlainLink) (facts : SFacts) → PlainGoes a (sent_step a Connect facts).link
connect_goes a facts = record { pauses = refl; connects = λ e. refl; trims = λ e. e; logs = λ e. e; sessions = omega arith; stores = omega arith }

pub tick_goes : (a : PlainLink) (facts : SFacts) → PlainGoes a (sent_step a Tick facts).link
tick_goes a facts = record { pauses = refl; connects = λ e. e; trims = λ e. refl; logs = λ e. e; sessions = omega arith; stores = omega arith }

pub pump_goes : (a : PlainLink) (facts : SFacts) → PlainGoes a (sent_step a Pump facts).link
pump_goes a facts =
    let low : ℕ = max a.sent a.stored in
    let high : ℕ = min facts.safe (a.net + MOST_AHEAD) in
    by_test (SentGoes a) (is_live_link a && by_log a.mode) (pumped_up_to a low high) (with_nothing a)
    (λ _. by_test (SentGoes a) (ltb low high) _ (with_nothing (record a { sent = low }))
    (λ _. record { pauses = refl; connects = λ e. e; trims = λ e. e; logs = λ e. e; sessions = omega arith; stores = omega arith })
    (λ _. record { pauses = refl; connects = λ e. e; trims = λ e. e; logs = λ e. e; sessions = omega arith; stores = omega arith }))
    (λ _. plain_same a)

log_greeted : (a : PlainLink) (session number stored : ℕ) → PlainGoes a (greeted_by_log a session number stored)
log_greeted a session number stored =
    by_test (PlainGoes a) (ltb a.session session) _ _
    (λ more. record { pauses = refl; connects = λ e. e; trims = λ e. e; logs = λ e. e; sessions = less_of a.session session more; stores = most_left a.stored stored })
    (λ _. record { pauses = refl; connects = λ e. e; trims = λ e. e; logs = λ e. e; sessions = omega arith; stores = most_left a.stored stored })

apart_greeted : (a : PlainLink) (session number : ℕ) → by_log a.mode ≡ false → PlainGoes a (greeted_apart a session number)
apart_greeted a session number other =
    by_test (PlainGoes a) (ltb a.session session) _ _
    (λ more. record { pauses = refl; connects = λ e. e; trims = λ e. e; logs = never; sessions = less_of a.session session more; stores = omega arith })
    (λ _. record { pauses = refl; connects = λ e. e; trims = λ e. e; logs = never; sessions = omega arith; stores = omega arith })
  where
    never : {A : Type 0} → a.mode ≡ Log → A
    never e = let same : true ≡ false = ap by_log (sym e) ∙ other in absurd (cc)

pub hello_goes : (a : PlainLink) (session number stored : ℕ) (facts : SFacts) → PlainGoes a (sent_step a (Hello session number stored) facts).link
hello_goes a session number stored facts =
    by_test (SentGoes a) facts.line_ok (greeted a session number stored) (with_ignored a)
    (λ _. by_test (SentGoes a) (ltb session a.session) (with_ignored a) _ (λ _. plain_same a)
    (λ _. by_test (PlainGoes a) (by_log a.mode) (greeted_by_log a session number stored) (greeted_apart a session number) (λ _. log_greeted a session number stored)
    (λ other. apart_greeted a session number other)))
    (λ _. plain_same a)

pub memory_goes : (a : PlainLink) (session number : ℕ) (facts : SFacts) → PlainGoes a (sent_step a (NetAck session number) facts).link
memory_goes a session number facts =
    by_test (SentGoes a) facts.line_ok (memory_acknowledged a session number) (with_ignored a)
    (λ _. by_test (SentGoes a) (by_log a.mode && (eqb session a.session && ltb a.net number)) (with_taken (record a { net = number })) (with_ignored a)
    (λ _. record { pauses = refl; connects = λ e. e; trims = λ e. e; logs = λ e. e; sessions = omega arith; stores = omega arith }) (λ _. plain_same a))
    (λ _. plain_same a)

pub disk_goes : (a : PlainLink) (number : ℕ) (facts : SFacts) → PlainGoes a (sent_step a (DataAck number) facts).link
disk_goes a number facts =
    by_test (SentGoes a) facts.line_ok (disk_acknowledged a number) (with_ignored a)
    (λ _. by_test (SentGoes a) (by_log a.mode && ltb a.stored number) (with_taken (record a { stored = number; net = max a.net number })) (with_ignored a)
    (λ more. record {
      pauses = refl;
      connects = λ e. e;
      trims = λ e. e;
      logs = λ e. e;
      sessions = omega arith;
      stores = less_of a.stored number (and_right (by_log a.mode) (ltb a.stored number) more);
    }) (λ _. plain_same a))
    (λ _. plain_same a)

-- ---- the world's links

pub goes_same : (l : Link) → StillGoes l l
goes_same l = record { rest = refl; connects = λ e. e; trims = λ e. e; logs = λ e. e; sessions = omega arith; stores = omega arith }

pub goes_then : (l m n : Link) → StillGoes l m → StillGoes m n → StillGoes l n
goes_then l m n one two = record {
  rest =
      two.rest
      ∙ ap (λ (x : Link). let y : Link = record x { connected = n.connected; session = n.session; net = n.net; stored = n.stored; sent = n.sent; trimmed = n.trimmed; mode = n.mode; since = n.since } in y)
      one.rest;
  connects = λ e. two.connects (one.connects e);
  trims = λ e. two.trims (one.trims e);
  logs = λ e. two.logs (one.logs e);
  sessions = let first = one.sessions in let second = two.sessions in omega (arith, first, second);
  stores = let first = one.stores in let second = two.stores in omega (arith, first, second);
}

-- the link of the world with what its rule made of it, and with these regions as sent since the last tick
pub goes_plain : (s : ℕ) (l : Link) (b : PlainLink) (since : Regions) → PlainGoes (plain_link s l) b → StillGoes l (record (with_plain l b) { since = since })
goes_plain s l b since goes = record {
  rest =
      ap (λ (x : Bool). let y : Link = record l { connected = b.connected; paused = x; session = b.session; net = b.net; stored = b.stored; sent = b.sent; trimmed = b.trimmed; mode = b.mode; since = since } in y)
      goes.pauses;
  connects = goes.connects;
  trims = goes.trims;
  logs = goes.logs;
  sessions = goes.sessions;
  stores = goes.stores;
}
