-- The text of each reply.
use Rattle.std.specs.Prelude.{ℕ, zero, suc, ◌+◌, eqb, List, [], ◌∷◌, ◌++◌, codes, Option, Some, None, if◌then◌else◌}
use Rattle.std.specs.Fmt.{decimal}
use Rattle.vx_model.specs.Content.{block_of, blocks_in}
use Rattle.vx_events.specs.declared.said.Said.{Said}
use Rattle.vx_events.specs.declared.said.Said.TheVariants.{Done, DoneAt, Got, Shown, Recovered, Resumed, Logged, Pending, Taken, Ignored, Settled, Refused}
use Rattle.vx_model.specs.declared.errors.Stop.{Stop}
use Rattle.vx_model.specs.declared.no.No.{No as Refusal}
use Rattle.vx_model.specs.declared.errors.Stop.TheVariants.{No, OutOfMemory as MemoryStop}
use Rattle.vx_model.specs.declared.errors.OutOfMemory.{OutOfMemory}
use Rattle.std.specs.Prelude.{Result, Ok, Err}
use Rattle.vx_report.specs.BlockText.{block_text}
use Rattle.vx_report.specs.KeptText.{kept_line}
use Rattle.vx_report.specs.Refusals.{refusal_text}
use Rattle.vx_report.specs.Statuses.{status_text}
use Rattle.vx_report.specs.declared.view.Kept.{Kept}
use Rattle.vx_report.specs.declared.view.RvgView.{RvgView}
use Rattle.vx_report.specs.declared.view.SiteView.{SiteView}

-- a line for each of so many blocks of these bytes, from block k on
abbrev pub blocks_text : List ℕ → ℕ → ℕ → List ℕ
blocks_text bytes k zero = []
blocks_text bytes k (suc n) = block_text (block_of bytes k) ++ blocks_text bytes (k + 1) n

-- the last number of the log that a site came up with, and then the lines of its status
abbrev pub recovered_text : ℕ → SiteView → List ℕ
recovered_text last view = codes "recovered " ++ decimal last ++ 10 ∷ [] ++ status_text view

-- the line on a write that was cut, where one was
abbrev pub kept_lines : Option Kept → List ℕ
kept_lines None = []
kept_lines (Some kept) = kept_line kept

-- that a site over a group came up: where it has a replicated volume group, with the last number of its log
abbrev pub came_up_text : Option RvgView → List ℕ
came_up_text None = codes "recovered\n"
came_up_text (Some rvg) = codes "recovered " ++ decimal rvg.head ++ 10 ∷ []

-- that, the lines of its status, and what is kept of a write that its crash cut
abbrev pub resumed_text : SiteView → Option Kept → List ℕ
resumed_text view kept = came_up_text view.rvg ++ status_text view ++ kept_lines kept

-- a reply by itself
abbrev pub reply_text : Said → List ℕ
reply_text Done = codes "done" ++ 10 ∷ []
reply_text (DoneAt number) = codes "done " ++ decimal number ++ 10 ∷ []
reply_text (Got bytes) = blocks_text bytes 0 (blocks_in bytes)
reply_text (Shown view) = status_text view
reply_text (Recovered last view) = recovered_text last view
reply_text (Resumed view kept) = resumed_text view kept
reply_text (Logged number) = codes "logged " ++ decimal number ++ 10 ∷ []
reply_text (Pending number) = codes "pending " ++ decimal number ++ 10 ∷ []
reply_text Taken = codes "taken" ++ 10 ∷ []
reply_text Ignored = codes "ignored" ++ 10 ∷ []
reply_text (Settled number) = codes "settled " ++ decimal number ++ 10 ∷ []
reply_text (Refused why) = refusal_text why

-- what a reply's first line ends with, where packets from the first of these numbers to the second were sent
abbrev pub sent_text : (first last : ℕ) → List ℕ
sent_text first last = codes " sent " ++ decimal first ++ 32 ∷ decimal last

-- a text with this at the end of its first line
abbrev pub first_line_with : List ℕ → List ℕ → List ℕ
first_line_with more [] = more
first_line_with more (byte ∷ bytes) = if eqb byte 10 then more ++ byte ∷ bytes else byte ∷ first_line_with more bytes

-- the text that answers a line, in which packets of these numbers were sent
abbrev pub text_of : Said → Option (ℕ × ℕ) → List ℕ
text_of said None = reply_text said
text_of said (Some (first, last)) = first_line_with (sent_text first last) (reply_text said)

-- what a refusal of the disks is to the line
abbrev pub reply_to : Stop → Result Said OutOfMemory
reply_to (No why) = Ok (Refused why)
reply_to MemoryStop = Err (record {})

-- the refusal of a call that did not end for want of memory
abbrev pub refusal_in : Stop → Option Refusal
refusal_in (No why) = Some why
refusal_in MemoryStop = None
