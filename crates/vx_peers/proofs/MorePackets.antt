-- What is under way behind a call is what was, and some packets more.
use Rattle.std.proofs.Common.{◌≡◌, ◌⊎◌, inl, inr, ◌+◌, ◌<◌, ℕ, List, [], ◌++◌, length, sym, subst, map, refl, arith}
use Rattle.std.proofs.lemmas.List.{append-nil, length-map}
use Rattle.vx_model.specs.declared.call.Update.{Update}
use Rattle.vx_model.specs.declared.history.Line.{Line}
use Rattle.vx_history.specs.Sends.{packets_of, updates}
use Rattle.vx_history.specs.World.{NetAck, Packet}
use Rattle.vx_history.specs.declared.sender.Action.{Action}
use Rattle.vx_history.specs.declared.sender.Action.TheVariants.{Ignored, Nothing, Taken}
use Rattle.vx_courier.specs.UnderWay.{FlightStands}
use Rattle.vx_net.specs.Flights.{Flying, greatest_packet}
use Rattle.vx_packet.specs.declared.message.Envelope.{Envelope}
use Rattle.vx_rvg.specs.Contents.{write_of_update}
use Rattle.vx_rvg.specs.Views.{Core}
use Rattle.vx_peers.specs.Receivers.{SendsOn, acks_of}
use Rattle.vx_peers.specs.Senders.{Sends, SendsBy, SendsRange}

-- nothing was sent
pub more_none : (f f' : Flying) → f' ≡ f → Sends [] f f'
more_none f f' same = λ ps stands. subst (λ (qs : List Packet). FlightStands qs f') (sym (append-nil ps)) (subst (λ (g : Flying). FlightStands ps g) (sym same) stands)

-- an acknowledgement was
pub more_acknowledged : (source target : ℕ) (c : Core) (line : Line) (session number : ℕ) (f f' : Flying) → line ≡ c.log.header.state.line → session ≡ c.log.header.incarnation → f.count < greatest_packet
    → SendsOn source target line session number f f' → Sends (acks_of source target c number) f f'
more_acknowledged source target c line session number f f' line_is session_is room sends = λ ps stands.
    subst (λ (l : Line). FlightStands (ps ++ packets_of source target l (NetAck c.log.header.incarnation number)) f') line_is
    (subst (λ (n : ℕ). FlightStands (ps ++ packets_of source target line (NetAck n number)) f') session_is (sends ps stands room))

-- updates were
pub more_updates : (e : Envelope) (from to : ℕ) (us : List Update) (f f' : Flying) → from + length us ≡ to + 1
    → ((ps : List Packet) → FlightStands ps f → FlightStands (ps ++ updates e.source e.target e.line from (map write_of_update us)) f') → SendsRange e from to f f'
more_updates e from to us f f' all flies = record { writes = map write_of_update us; all = omega (arith, all, length-map us write_of_update); flies = flies }

-- as a rule asks that has nothing sent
pub none_asked : (a : Action) (e : Envelope) (f : Flying) → (a ≡ Nothing) ⊎ ((a ≡ Ignored) ⊎ (a ≡ Taken)) → SendsBy a e f f
none_asked a e f (inl nothing) = subst (λ (b : Action). SendsBy b e f f) (sym nothing) refl
none_asked a e f (inr (inl ignored)) = subst (λ (b : Action). SendsBy b e f f) (sym ignored) refl
none_asked a e f (inr (inr taken)) = subst (λ (b : Action). SendsBy b e f f) (sym taken) refl
