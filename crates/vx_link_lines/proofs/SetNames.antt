-- The sites that a line names which sets a link are found.
use Rattle.std.proofs.Common.{◌≡◌, ℕ, List, Bool}
use Rattle.std.specs.Prelude.{IsSome, None}
use Rattle.vx_model.specs.declared.link.Prot.{Prot}
use Rattle.vx_model.specs.declared.link.SyncMode.{SyncMode}
use Rattle.vx_order.specs.Asks.{ask_of}
use Rattle.vx_order.specs.Order.{line_refusal}
use Rattle.vx_order.specs.Subject.{first_name, halt_of, need_of, second_name}
use Rattle.vx_order.specs.declared.facts.SiteFacts.{SiteFacts}
use Rattle.vx_script.specs.declared.line.ScriptLine.TheVariants.{Set}
use Rattle.vx_events.proofs.Refused.{passes}
use Rattle.vx_events.specs.Facts.{seat_of}
use Rattle.vx_linked.proofs.Finding.{seat_found}

pub set_first : (sites : List SiteFacts) (files : Bool) (first second : List ℕ) (sync : SyncMode) (prot : Prot) → line_refusal sites files (Set first second sync prot) ≡ None → IsSome (seat_of sites first)
unfolding first_name second_name need_of halt_of ask_of
set_first sites files first second sync prot free = seat_found sites first (passes sites files (Set first second sync prot) free).known

pub set_second : (sites : List SiteFacts) (files : Bool) (first second : List ℕ) (sync : SyncMode) (prot : Prot) → line_refusal sites files (Set first second sync prot) ≡ None → IsSome (seat_of sites second)
unfolding first_name second_name need_of halt_of ask_of
set_second sites files first second sync prot free = seat_found sites second (passes sites files (Set first second sync prot) free).other_known
