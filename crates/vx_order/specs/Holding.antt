-- The tests of a write by the links of its site.
use Rattle.std.specs.Prelude.{ℕ, ◌+◌, ◌&&◌, nat_le, List, [], ◌∷◌, Option, Some, None, if◌then◌else◌}
use Rattle.vx_model.specs.declared.limits.TheConstants.{MOST_CALL_BLOCKS}
use Rattle.vx_history.specs.Admission.{is_down, held_by_room}
use Rattle.vx_model.specs.declared.no.No.{No}
use Rattle.vx_model.specs.declared.no.No.TheVariants.{LinkDown, LogFull, Stalled}
use Rattle.vx_model.specs.declared.no.SiteName.{SiteName}
use Rattle.vx_model.specs.Sites.{is_up}
use Rattle.vx_policy.specs.Verdicts.{refusal_if}
use Rattle.vx_order.specs.declared.facts.SiteFacts.{SiteFacts}
use Rattle.vx_order.specs.declared.facts.VolumeFacts.{VolumeFacts}
use Rattle.vx_order.specs.declared.facts.LinkFacts.{LinkFacts}
use Rattle.vx_order.specs.declared.facts.RvgFacts.{RvgFacts}
use Rattle.vx_order.specs.declared.span.Span.{Span}
use Rattle.vx_order.specs.Calls.{is_write, is_data}
use Rattle.vx_order.specs.Links.{site_name}
use Rattle.vx_order.specs.Sites.{volume_of}
use Rattle.vx_order.specs.Tests.{before}

-- the blocks that a run of blocks takes in the log, of a write that is logged
abbrev pub record_size : Option VolumeFacts → Span → Option ℕ
record_size None span = None
record_size (Some volume) span = if is_write span.way && (is_data volume.kind && nat_le span.count MOST_CALL_BLOCKS) then Some (span.count + 1) else None

abbrev pub span_record : Option SiteFacts → Option Span → Option ℕ
span_record site None = None
span_record site (Some span) = record_size (volume_of site span.volume) span

-- 14 of the first link that is down
abbrev pub down_link : List SiteFacts → List LinkFacts → Option No
down_link sites [] = None
down_link sites (l ∷ ls) = if is_down l.link then Some (LinkDown (site_name sites l.link.site)) else down_link sites ls

abbrev pub down_at : List SiteFacts → Option SiteFacts → Option No
down_at sites None = None
down_at sites (Some site) = if is_up site.state then down_link sites site.links else None

abbrev pub held_down : List SiteFacts → Option SiteFacts → Option ℕ → Option No
held_down sites site None = None
held_down sites site (Some need) = down_at sites site

-- 14: a link has to confirm the write, and is down
abbrev pub span_down : List SiteFacts → Option SiteFacts → Option Span → Option No
span_down sites site span = held_down sites site (span_record site span)

-- a refusal by a link, with the name of its site
abbrev pub with_name : SiteName → Option No → Option No
with_name name (Some (LogFull link)) = Some (LogFull name)
with_name name (Some (Stalled link)) = Some (Stalled name)
with_name name other = other

-- 12 or 13 of a link that leaves too little room and says so
abbrev pub full_by : List SiteFacts → (need room : ℕ) → LinkFacts → Option No
full_by sites need room l = with_name (site_name sites l.link.site) (refusal_if (held_by_room need room l.link l.used))

-- of the first such link
abbrev pub full_link : List SiteFacts → (need room : ℕ) → List LinkFacts → Option No
full_link sites need room [] = None
full_link sites need room (l ∷ ls) = before (full_by sites need room l) (full_link sites need room ls)

abbrev pub full_in : List SiteFacts → ℕ → Option RvgFacts → List LinkFacts → Option No
full_in sites need None links = None
full_in sites need (Some rvg) links = full_link sites need rvg.ring links

abbrev pub full_at : List SiteFacts → Option SiteFacts → ℕ → Option No
full_at sites None need = None
full_at sites (Some site) need = if is_up site.state then full_in sites need site.rvg site.links else None

abbrev pub held_full : List SiteFacts → Option SiteFacts → Option ℕ → Option No
held_full sites site None = None
held_full sites site (Some need) = full_at sites site need

-- 12 or 13: a link leaves too little room for the write
abbrev pub span_full : List SiteFacts → Option SiteFacts → Option Span → Option No
span_full sites site span = held_full sites site (span_record site span)
