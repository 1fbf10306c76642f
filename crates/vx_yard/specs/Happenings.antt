-- What an event of links or packets is answered.
use Rattle.vx_events.specs.declared.said.Said.{Said}
use Rattle.vx_events.specs.declared.said.Said.TheVariants.{Done, DoneAt, Ignored, Logged, Pending, Refused, Taken}
use Rattle.vx_history.specs.declared.event.Said.{Said as EventSaid}
use Rattle.vx_history.specs.declared.event.Said.TheVariants.{Done as IsDone, DoneAt as IsDoneAt, Logged as IsLogged, Pending as IsPending, Got as HasGot, Taken as IsTaken, Ignored as IsIgnored, Recovered as IsRecovered, Refused as IsRefused}

-- the reply that repeats what is said of such an event, none of which reads blocks or brings a site up
abbrev pub reply_of : EventSaid → Said
reply_of IsDone = Done
reply_of (IsDoneAt number) = DoneAt number
reply_of (IsLogged number) = Logged number
reply_of (IsPending number) = Pending number
reply_of (HasGot bytes) = Done
reply_of IsTaken = Taken
reply_of IsIgnored = Ignored
reply_of (IsRecovered number) = DoneAt number
reply_of (IsRefused why) = Refused why
