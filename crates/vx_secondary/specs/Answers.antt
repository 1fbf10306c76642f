-- What a receiver answers to an update.
use Rattle.std.specs.Prelude.{◌≡◌, ℕ, ◌+◌, ◌<◌, Bool, true, false, List, [], ◌∷◌, ◌++◌, length, Result, Ok, Err}
use Rattle.vx_model.specs.declared.call.Update.{Update}
use Rattle.vx_model.specs.declared.limits.TheConstants.{MOST_WAITING}
use Rattle.vx_model.specs.declared.no.No.{No}
use Rattle.vx_model.specs.declared.no.No.TheVariants.{Range}
use Rattle.vx_history.specs.Receiving.{received_step}
use Rattle.vx_history.specs.declared.receiver.REvent.TheVariants.{Update as HearUpdate}
use Rattle.vx_history.specs.declared.receiver.RAction.{RAction}
use Rattle.vx_history.specs.declared.receiver.RAction.TheVariants.{Nothing, Ignored, IgnoredAck, Take, DataAck}
use Rattle.vx_rvg.specs.Views.{Core, last_of}
use Rattle.vx_secondary.specs.Receivers.{can_log, receiver_of}

-- what the rule says of the update
abbrev pub action_of : Core → List Update → Update → RAction
action_of c us u = (received_step (receiver_of c us) (HearUpdate u.line u.number)).action

-- the rule takes it: it is the next one of the group's line, and has room to wait
pub record TakesNext (c : Core) (us : List Update) (u : Update) (ack : ℕ) : Type 0 where
  pub line : u.line ≡ c.log.header.state.line
  pub next : u.number ≡ last_of c + length us + 1
  pub room : length us < MOST_WAITING
  pub is : action_of c us u ≡ Take ack

-- the update waits behind the others, or is refused as no write that the group can log
abbrev pub KeptIf : Bool → List Update → Update → ℕ → Result RAction No → List Update → Type 0
KeptIf true us u ack result new = (result ≡ Ok (Take ack)) × (new ≡ us ++ u ∷ [])
KeptIf false us u ack result new = (result ≡ Err Range) × (new ≡ us)

abbrev pub KeepIs : Core → (size : ℕ → ℕ) → List Update → Update → ℕ → Result RAction No → List Update → Type 0
KeepIs c size us u ack result new = KeptIf (can_log c size u) us u ack result new

-- by what the rule says: an update that it takes is kept, and any other is answered and changes nothing
abbrev pub TakenBy : RAction → Core → (size : ℕ → ℕ) → List Update → Update → Result RAction No → List Update → Type 0
TakenBy (Take ack) c size us u result new = KeepIs c size us u ack result new
TakenBy Nothing c size us u result new = (result ≡ Ok Nothing) × (new ≡ us)
TakenBy Ignored c size us u result new = (result ≡ Ok Ignored) × (new ≡ us)
TakenBy (IgnoredAck number) c size us u result new = (result ≡ Ok (IgnoredAck number)) × (new ≡ us)
TakenBy (DataAck number) c size us u result new = (result ≡ Ok (DataAck number)) × (new ≡ us)

abbrev pub TakeIs : Core → (size : ℕ → ℕ) → List Update → Update → Result RAction No → List Update → Type 0
TakeIs c size us u result new = TakenBy (action_of c us u) c size us u result new
