-- What waits behind a receiver once an update was put to it.
use Rattle.std.proofs.Common.{◌≡◌, ℕ, Bool, true, false, List, [], ◌∷◌, ◌++◌}
use Rattle.std.specs.Prelude.{Result, Ok, Err}
use Rattle.vx_model.specs.declared.call.Update.{Update}
use Rattle.vx_model.specs.declared.no.No.{No}
use Rattle.vx_history.specs.declared.receiver.RAction.{RAction}
use Rattle.vx_history.specs.declared.receiver.RAction.TheVariants.{Nothing, Ignored, IgnoredAck, Take, DataAck}
use Rattle.vx_rvg.specs.Views.{Core}
use Rattle.vx_secondary.specs.Answers.{KeptIf, TakeIs, TakenBy, action_of}
use Rattle.vx_secondary.specs.Receivers.{can_log}
use Rattle.vx_peers.specs.Receivers.{WaitsBy, waits_now}

kept_waits : (b : Bool) (us : List Update) (u : Update) (ack got : ℕ) (new : List Update) → KeptIf b us u ack (Ok (Take got)) new → new ≡ us ++ u ∷ []
kept_waits true us u ack got new is = is.1
kept_waits false us u ack got new is = absurd (cc)

taken_by : (a : RAction) (c : Core) (size : ℕ → ℕ) (us : List Update) (u : Update) (got : ℕ) (new : List Update) → TakenBy a c size us u (Ok (Take got)) new → new ≡ us ++ u ∷ []
taken_by (Take ack) c size us u got new is = kept_waits (can_log c size u) us u ack got new is
taken_by Nothing c size us u got new is = absurd (let e : Ok (Take got) ≡ Ok Nothing = is.0 in cc)
taken_by Ignored c size us u got new is = absurd (let e : Ok (Take got) ≡ Ok Ignored = is.0 in cc)
taken_by (IgnoredAck number) c size us u got new is = absurd (let e : Ok (Take got) ≡ Ok (IgnoredAck number) = is.0 in cc)
taken_by (DataAck number) c size us u got new is = absurd (let e : Ok (Take got) ≡ Ok (DataAck number) = is.0 in cc)

-- it was taken
pub one_waits : (c : Core) (size : ℕ → ℕ) (us : List Update) (u : Update) (got : ℕ) (new : List Update) → TakeIs c size us u (Ok (Take got)) new → new ≡ us ++ u ∷ []
one_waits c size us u got new is = taken_by (action_of c us u) c size us u got new is

kept_not : (b : Bool) (us : List Update) (u : Update) (ack : ℕ) (r : Result RAction No) (new : List Update) → ((got : ℕ) → r ≡ Ok (Take got) → ⊥) → KeptIf b us u ack r new → new ≡ us
kept_not true us u ack r new not is = absurd (not ack is.0)
kept_not false us u ack r new not is = is.1

not_by : (a : RAction) (c : Core) (size : ℕ → ℕ) (us : List Update) (u : Update) (r : Result RAction No) (new : List Update) → ((got : ℕ) → r ≡ Ok (Take got) → ⊥) → TakenBy a c size us u r new → new ≡ us
not_by (Take ack) c size us u r new not is = kept_not (can_log c size u) us u ack r new not is
not_by Nothing c size us u r new not is = is.1
not_by Ignored c size us u r new not is = is.1
not_by (IgnoredAck number) c size us u r new not is = is.1
not_by (DataAck number) c size us u r new not is = is.1

-- it was not
pub none_waits : (c : Core) (size : ℕ → ℕ) (us : List Update) (u : Update) (r : Result RAction No) (new : List Update) → ((got : ℕ) → r ≡ Ok (Take got) → ⊥) → TakeIs c size us u r new → new ≡ us
none_waits c size us u r new not is = not_by (action_of c us u) c size us u r new not is

-- by what it was answered
pub waits_by : (c : Core) (size : ℕ → ℕ) (us : List Update) (u : Update) (r : Result RAction No) (new : List Update) → TakeIs c size us u r new → WaitsBy (waits_now r) us new
waits_by c size us u (Ok (Take got)) new is = (u, one_waits c size us u got new is)
waits_by c size us u (Ok Nothing) new is = none_waits c size us u (Ok Nothing) new (λ got e. cc) is
waits_by c size us u (Ok Ignored) new is = none_waits c size us u (Ok Ignored) new (λ got e. cc) is
waits_by c size us u (Ok (IgnoredAck number)) new is = none_waits c size us u (Ok (IgnoredAck number)) new (λ got e. cc) is
waits_by c size us u (Ok (DataAck number)) new is = none_waits c size us u (Ok (DataAck number)) new (λ got e. cc) is
waits_by c size us u (Err why) new is = none_waits c size us u (Err why) new (λ got e. cc) is
