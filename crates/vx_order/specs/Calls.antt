-- The tests of a run of blocks.
use Rattle.std.specs.Prelude.{ℕ, ◌+◌, Bool, true, false, not, ◌&&◌, ◌||◌, ◌==◌, nat_lt, List, Option, Some, None}
use Rattle.vx_model.specs.declared.limits.TheConstants.{MOST_CALL_BLOCKS}
use Rattle.vx_history.specs.Refusals.{is_primary}
use Rattle.vx_model.specs.declared.no.No.{No}
use Rattle.vx_model.specs.declared.no.No.TheVariants.{Unknown, Range, Size, Role as WrongRole}
use Rattle.vx_model.specs.declared.no.Named.TheVariants.{Of}
use Rattle.vx_order.specs.declared.facts.SiteFacts.{SiteFacts}
use Rattle.vx_order.specs.declared.facts.VolumeFacts.{VolumeFacts}
use Rattle.vx_order.specs.declared.facts.RvgFacts.{RvgFacts}
use Rattle.vx_order.specs.declared.facts.VolumeKind.{VolumeKind}
use Rattle.vx_order.specs.declared.facts.VolumeKind.TheVariants.{Data, Srl, Map, Plain}
use Rattle.vx_order.specs.declared.span.Span.{Span}
use Rattle.vx_order.specs.declared.span.Way.{Way}
use Rattle.vx_order.specs.declared.span.Way.TheVariants.{Writes, Reads, Shows}
use Rattle.vx_order.specs.Tests.{when}
use Rattle.vx_order.specs.Sites.{volume_of, rvg_of}

abbrev pub is_data : VolumeKind → Bool
is_data Data = true
is_data Srl = false
is_data Map = false
is_data Plain = false

-- the site is the primary of its replicated volume group
abbrev pub leads : Option RvgFacts → Bool
leads None = false
leads (Some rvg) = is_primary rvg.role

-- whether a volume is written and read: a plain one always, a data volume at a primary
abbrev pub takes_calls : VolumeKind → Option RvgFacts → Bool
takes_calls Plain rvg = true
takes_calls Data rvg = leads rvg
takes_calls Srl rvg = false
takes_calls Map rvg = false

-- whether the line asks for such a volume; `show` takes each
abbrev pub asks_role : Way → Bool
asks_role Writes = true
asks_role Reads = true
asks_role Shows = false

abbrev pub is_write : Way → Bool
is_write Writes = true
is_write Reads = false
is_write Shows = false

abbrev pub call_role : Option RvgFacts → Option VolumeFacts → Way → Option No
call_role rvg None way = None
call_role rvg (Some volume) way = when (asks_role way && not (takes_calls volume.kind rvg)) WrongRole

-- 5: the volume, or its site, has not the role for a write or a read
abbrev pub span_role : Option SiteFacts → Option Span → Option No
span_role site None = None
span_role site (Some span) = call_role (rvg_of site) (volume_of site span.volume) span.way

abbrev pub call_unknown : Option VolumeFacts → List ℕ → Option No
call_unknown None name = Some (Unknown (Of name))
call_unknown (Some volume) name = None

-- 1: the site has no such volume
abbrev pub span_unknown : Option SiteFacts → Option Span → Option No
span_unknown site None = None
span_unknown site (Some span) = call_unknown (volume_of site span.volume) span.volume

-- whether a record of so many blocks and its header is larger than the ring of the volume's log
abbrev pub outgrows : Option RvgFacts → Option VolumeFacts → ℕ → Bool
outgrows None volume count = false
outgrows (Some rvg) None count = false
outgrows (Some rvg) (Some volume) count = is_data volume.kind && nat_lt rvg.ring (count + 1)

abbrev pub call_size : Option RvgFacts → Option VolumeFacts → Span → Option No
call_size rvg volume span = when (span.count == 0 || nat_lt MOST_CALL_BLOCKS span.count || (is_write span.way && outgrows rvg volume span.count)) Size

-- 4: the count is not from 1 to 16, or the ring is too short for the write
abbrev pub span_size : Option SiteFacts → Option Span → Option No
span_size site None = None
span_size site (Some span) = call_size (rvg_of site) (volume_of site span.volume) span

abbrev pub call_range : Option VolumeFacts → Span → Option No
call_range None span = None
call_range (Some volume) span = when (nat_lt volume.blocks (span.start + span.count)) Range

-- 3: the blocks end past the volume
abbrev pub span_range : Option SiteFacts → Option Span → Option No
span_range site None = None
span_range site (Some span) = call_range (volume_of site span.volume) span
