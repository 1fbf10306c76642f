-- The tests of one kind of line, from the one order.
use Rattle.std.proofs.Common.{◌≡◌, ◌∙◌, ap, ℕ, ◌+◌, refl, Bool, true, false, List, [], ◌∷◌, length, not, ◌&&◌, ◌||◌, ◌==◌, nat_lt, nat_le, if◌then◌else◌, is_some}
use Rattle.std.specs.Prelude.{Option, Some, None}
use Rattle.vx_model.specs.declared.no.No.{No}
use Rattle.vx_model.specs.declared.no.No.TheVariants.{Unknown, Exists, Range, Size, Role, Down, Limit}
use Rattle.vx_model.specs.declared.no.Named.TheVariants.{Number}
use Rattle.vx_model.specs.declared.no.Counted.TheVariants.{Sites, Disks, Blocks}
use Rattle.vx_model.specs.declared.block_list.Blocks.{Blocks as BlockList}
use Rattle.vx_script.specs.declared.line.DiskState.{DiskState}
use Rattle.vx_script.specs.declared.line.ScriptLine.TheVariants.{Site, Raw, Disk, Crash, Fuse, Recover, Status, Write, Put, Read, Show, Apply}
use Rattle.vx_order.specs.declared.facts.SiteFacts.{SiteFacts}
use Rattle.vx_order.specs.declared.facts.VolumeFacts.{VolumeFacts}
use Rattle.vx_order.specs.declared.facts.RvgFacts.{RvgFacts}
use Rattle.vx_order.specs.declared.span.Span.{Span}
use Rattle.vx_order.specs.declared.span.Way.TheVariants.{Writes, Reads, Shows}
use Rattle.vx_order.specs.declared.subject.Need.TheVariants.{FirstUp, FirstUpOrBare}
use Rattle.vx_order.specs.declared.subject.Halt.TheVariants.{First}
use Rattle.vx_order.specs.Tests.{when, before, first_said_no}
use Rattle.vx_order.specs.Asks.{ask_of}
use Rattle.vx_order.specs.Grouping.{is_deported, recover_role, apply_role}
use Rattle.vx_order.specs.Holding.{span_down, span_full}
use Rattle.vx_order.specs.Order.{line_refusal}
use Rattle.vx_order.specs.Subject.{first_name, second_name, need_of, halt_of}
use Rattle.vx_order.specs.Spans.{span_of}
use Rattle.vx_order.specs.Sites.{site_named, site_gone, volume_of, rvg_of, halted_one, unknown_one, down_by, halted_by}
use Rattle.vx_model.specs.Sites.{is_bare, is_up}
use Rattle.vx_order.specs.Shapes.{most_disk_blocks, line_role, line_unknown, taken, over_limit, wrong_size, raw_role, raw_size, disk_unknown}
use Rattle.vx_model.specs.Sizes.{is_raw_shape}
use Rattle.vx_order.specs.Calls.{takes_calls, asks_role, is_write, outgrows, call_role, call_unknown, call_size, call_range, span_role, span_unknown, span_size, span_range}
use Rattle.vx_order.specs.Kinds.{site_refusal, raw_refusal, disk_refusal, status_refusal, call_on, call_refusal, recover_refusal, up_refusal, apply_refusal}

-- The tests of a site's name, limits and size.
site_tests : (known many wide long small : Bool) (a b c d e : No)
    → first_said_no (when known a ∷ (if many then Some b else if wide then Some c else if long then Some d else None) ∷ when small e ∷ [])
    ≡ (if known then Some a else if many then Some b else if wide then Some c else if long then Some d else if small then Some e else None)
unfolding first_said_no
site_tests true many wide long small a b c d e = refl
site_tests false true wide long small a b c d e = refl
site_tests false false true long small a b c d e = refl
site_tests false false false true small a b c d e = refl
site_tests false false false false true a b c d e = refl
site_tests false false false false false a b c d e = refl

pub site_lines_are : (sites : List SiteFacts) (files : Bool) (name : List ℕ) (disks blocks : ℕ)
    → line_refusal sites files (Site name disks blocks) ≡ site_refusal sites files name disks blocks
unfolding line_refusal first_said_no first_name second_name need_of halt_of line_role line_unknown taken over_limit wrong_size span_of ask_of
site_lines_are sites files name disks blocks =
    site_tests (is_some (site_named sites name)) (nat_le 8 (length sites)) (nat_lt 8 disks) (nat_lt (most_disk_blocks files) blocks) (disks == 0 || nat_lt blocks 8)
    (Exists name) (Limit Sites 8) (Limit Disks 8) (Limit Blocks (most_disk_blocks files)) Size

-- Two tests of a known site.
pub two_tests : (p q : Bool) (a b : No) → first_said_no (when p a ∷ when q b ∷ []) ≡ (if p then Some a else if q then Some b else None)
unfolding first_said_no
two_tests true q a b = refl
two_tests false true a b = refl
two_tests false false a b = refl

-- The tests of a `raw` line, once its site was looked for.
raw_tests : (site : Option SiteFacts) (name : List ℕ)
    → first_said_no (unknown_one (Some name) site ∷ raw_role site ∷ raw_size site ∷ []) ≡ raw_refusal site name
unfolding first_said_no
raw_tests None name = refl
raw_tests (Some site) name = two_tests (not (is_bare site.state)) (not (is_raw_shape site.disks site.blocks)) Role Size

pub raw_lines_are : (sites : List SiteFacts) (files : Bool) (name : List ℕ) → line_refusal sites files (Raw name) ≡ raw_refusal (site_named sites name) name
unfolding line_refusal first_said_no first_name second_name need_of halt_of line_role line_unknown taken over_limit wrong_size span_of ask_of
raw_lines_are sites files name = raw_tests (site_named sites name) name

-- One test of a known site.
pub one_test : (p : Bool) (a : No) → first_said_no (when p a ∷ []) ≡ (if p then Some a else None)
unfolding first_said_no
one_test true a = refl
one_test false a = refl

-- The tests of a `disk` line, once its site was looked for.
disk_tests : (site : Option SiteFacts) (name : List ℕ) (disk : ℕ) → first_said_no (unknown_one (Some name) site ∷ disk_unknown disk site ∷ []) ≡ disk_refusal site name disk
unfolding first_said_no
disk_tests None name disk = refl
disk_tests (Some site) name disk = one_test (nat_le site.disks disk) (Unknown (Number disk))

pub disk_lines_are : (sites : List SiteFacts) (files : Bool) (name : List ℕ) (disk : ℕ) (state : DiskState)
    → line_refusal sites files (Disk name disk state) ≡ disk_refusal (site_named sites name) name disk
unfolding line_refusal first_said_no first_name second_name need_of halt_of line_role line_unknown taken over_limit wrong_size span_of ask_of
disk_lines_are sites files name disk state = disk_tests (site_named sites name) name disk

-- The test of a `status` line, once its site was looked for.
status_tests : (site : Option SiteFacts) (name : List ℕ) → first_said_no (unknown_one (Some name) site ∷ []) ≡ status_refusal site name
unfolding first_said_no
status_tests None name = refl
status_tests (Some site) name = refl

pub status_lines_are : (sites : List SiteFacts) (files : Bool) (name : List ℕ) → line_refusal sites files (Status name) ≡ status_refusal (site_named sites name) name
unfolding line_refusal first_said_no first_name second_name need_of halt_of line_role line_unknown taken over_limit wrong_size span_of ask_of
status_lines_are sites files name = status_tests (site_named sites name) name

-- Three tests of a known volume, and further ones.
three_tests : (p q r : Bool) (a b c : No) (rest : Option No)
    → before (when p a) (before (when q b) (before (when r c) rest)) ≡ before (if p then Some a else if q then Some b else if r then Some c else None) rest
three_tests true q r a b c rest = refl
three_tests false true r a b c rest = refl
three_tests false false true a b c rest = refl
three_tests false false false a b c rest = refl

-- The tests of a run of blocks, once its volume was looked for.
call_tests : (rvg : Option RvgFacts) (volume : Option VolumeFacts) (span : Span) (rest : Option No)
    → before (call_role rvg volume span.way) (before (call_unknown volume span.volume) (before (call_size rvg volume span) (before (call_range volume span) rest))) ≡ before (call_on rvg volume span) rest
call_tests rvg None span rest = refl
call_tests rvg (Some volume) span rest =
    three_tests (asks_role span.way && not (takes_calls volume.kind rvg)) (span.count == 0 || nat_lt 16 span.count || (is_write span.way && outgrows rvg (Some volume) span.count))
    (nat_lt volume.blocks (span.start + span.count)) Role Size Range rest

-- A known site's state and halted disk stand before the tests of the run.
call_front : (gone : Bool) (halted tests rest : Option No) → tests ≡ rest
    → before (when gone Down) (before halted tests) ≡ (if gone then Some Down else before halted rest)
call_front true halted tests rest e = refl
call_front false None tests rest e = e
call_front false (Some refused) tests rest e = refl

-- Nothing comes behind the last test.
pub before_none : (o : Option No) → before o None ≡ o
before_none None = refl
before_none (Some refused) = refl

-- The tests of a run of blocks, once its site was looked for.
span_tests : (sites : List SiteFacts) (site : Option SiteFacts) (name : List ℕ) (span : Span)
    → first_said_no (unknown_one (Some name) site ∷ down_by FirstUpOrBare site None ∷ halted_by First site None ∷ span_role site (Some span) ∷ span_unknown site (Some span) ∷ span_size site (Some span) ∷ span_range site (Some span) ∷ span_down sites site (Some span) ∷ span_full sites site (Some span) ∷ [])
    ≡ call_refusal sites site name span
unfolding first_said_no
span_tests sites None name span = refl
span_tests sites (Some site) name span =
    let down : Option No = span_down sites (Some site) (Some span) in
    let full : Option No = span_full sites (Some site) (Some span) in
    call_front (site_gone (Some site)) (halted_one (Some site)) _ _
    (call_tests (rvg_of (Some site)) (volume_of (Some site) span.volume) span (before down (before full None))
    ∙ ap (λ (o : Option No). before (call_on (rvg_of (Some site)) (volume_of (Some site) span.volume) span) (before down o)) (before_none full))

pub write_lines_are : (sites : List SiteFacts) (files : Bool) (name volume : List ℕ) (start count fill : ℕ)
    → line_refusal sites files (Write name volume start count fill) ≡ call_refusal sites (site_named sites name) name (record { volume = volume; start = start; count = count; way = Writes })
unfolding line_refusal first_said_no first_name second_name need_of halt_of line_role line_unknown taken over_limit wrong_size span_of ask_of
write_lines_are sites files name volume start count fill = span_tests sites (site_named sites name) name (record { volume = volume; start = start; count = count; way = Writes })

pub put_lines_are : (sites : List SiteFacts) (files : Bool) (name volume : List ℕ) (start : ℕ) (bytes : BlockList)
    → line_refusal sites files (Put name volume start bytes) ≡ call_refusal sites (site_named sites name) name (record { volume = volume; start = start; count = 1; way = Writes })
unfolding line_refusal first_said_no first_name second_name need_of halt_of line_role line_unknown taken over_limit wrong_size span_of ask_of
put_lines_are sites files name volume start bytes = span_tests sites (site_named sites name) name (record { volume = volume; start = start; count = 1; way = Writes })

pub read_lines_are : (sites : List SiteFacts) (files : Bool) (name volume : List ℕ) (start count : ℕ)
    → line_refusal sites files (Read name volume start count) ≡ call_refusal sites (site_named sites name) name (record { volume = volume; start = start; count = count; way = Reads })
unfolding line_refusal first_said_no first_name second_name need_of halt_of line_role line_unknown taken over_limit wrong_size span_of ask_of
read_lines_are sites files name volume start count = span_tests sites (site_named sites name) name (record { volume = volume; start = start; count = count; way = Reads })

pub show_lines_are : (sites : List SiteFacts) (files : Bool) (name volume : List ℕ) (start count : ℕ)
    → line_refusal sites files (Show name volume start count) ≡ call_refusal sites (site_named sites name) name (record { volume = volume; start = start; count = count; way = Shows })
unfolding line_refusal first_said_no first_name second_name need_of halt_of line_role line_unknown taken over_limit wrong_size span_of ask_of
show_lines_are sites files name volume start count = span_tests sites (site_named sites name) name (record { volume = volume; start = start; count = count; way = Shows })

-- The tests of a line that needs a known site that is not deported.
recover_tests : (site : Option SiteFacts) (name : List ℕ) → first_said_no (unknown_one (Some name) site ∷ recover_role site ∷ []) ≡ recover_refusal site name
unfolding first_said_no
recover_tests None name = refl
recover_tests (Some site) name = one_test (is_deported site.state) Role

pub recover_lines_are : (sites : List SiteFacts) (files : Bool) (name : List ℕ) → line_refusal sites files (Recover name) ≡ recover_refusal (site_named sites name) name
unfolding line_refusal first_said_no first_name second_name need_of halt_of line_role line_unknown taken over_limit wrong_size span_of ask_of
recover_lines_are sites files name = recover_tests (site_named sites name) name

-- The tests of a line that needs a site that is up.
up_tests : (site : Option SiteFacts) (name : List ℕ)
    → first_said_no (unknown_one (Some name) site ∷ down_by FirstUp site None ∷ []) ≡ up_refusal site name
unfolding first_said_no
up_tests None name = refl
up_tests (Some site) name = one_test (not (is_up site.state)) Down

pub crash_lines_are : (sites : List SiteFacts) (files : Bool) (name : List ℕ) (pick : ℕ) → line_refusal sites files (Crash name pick) ≡ up_refusal (site_named sites name) name
unfolding line_refusal first_said_no first_name second_name need_of halt_of line_role line_unknown taken over_limit wrong_size span_of ask_of
crash_lines_are sites files name pick = up_tests (site_named sites name) name

pub fuse_lines_are : (sites : List SiteFacts) (files : Bool) (name : List ℕ) (calls pick : ℕ) → line_refusal sites files (Fuse name calls pick) ≡ up_refusal (site_named sites name) name
unfolding line_refusal first_said_no first_name second_name need_of halt_of line_role line_unknown taken over_limit wrong_size span_of ask_of
fuse_lines_are sites files name calls pick = up_tests (site_named sites name) name

-- The tests of a line that needs a site that is up and not halted, with a replicated volume group.
running_tests : (p q : Bool) (a b : No) (halted : Option No)
    → first_said_no (when p a ∷ halted ∷ when q b ∷ []) ≡ (if p then Some a else before halted (if q then Some b else None))
unfolding first_said_no
running_tests true q a b halted = refl
running_tests false q a b (Some refused) = refl
running_tests false true a b None = refl
running_tests false false a b None = refl

apply_tests : (site : Option SiteFacts) (name : List ℕ)
    → first_said_no (unknown_one (Some name) site ∷ down_by FirstUp site None ∷ halted_by First site None ∷ apply_role site ∷ []) ≡ apply_refusal site name
unfolding first_said_no
apply_tests None name = refl
apply_tests (Some site) name = running_tests (not (is_up site.state)) (not (is_some (rvg_of (Some site)))) Down Role (halted_one (Some site))

pub apply_lines_are : (sites : List SiteFacts) (files : Bool) (name : List ℕ) (to : ℕ) → line_refusal sites files (Apply name to) ≡ apply_refusal (site_named sites name) name
unfolding line_refusal first_said_no first_name second_name need_of halt_of line_role line_unknown taken over_limit wrong_size span_of ask_of
apply_lines_are sites files name to = apply_tests (site_named sites name) name
