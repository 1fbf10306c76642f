-- Where no test of a line refuses, its event does not either.
use Rattle.std.proofs.Common.{◌≡◌, ◌+◌, ◌*◌, ◌<◌, ◌≤◌, ℕ, List, length, Bool, true, ap, arith}
use Rattle.std.specs.Prelude.{None, min, replicate}
use Rattle.vx_model.specs.Content.{Write as WriteBlocks, blocks_from}
use Rattle.vx_model.specs.Sites.{is_origin}
use Rattle.vx_model.specs.declared.limits.TheConstants.{MOST_NUMBER}
use Rattle.vx_model.specs.declared.site.Role.TheVariants.{Primary}
use Rattle.vx_history.specs.Refusals.{Outcome}
use Rattle.vx_history.specs.Step.{step, joined_blocks}
use Rattle.vx_history.specs.World.{World}
use Rattle.vx_history.specs.declared.event.Event.TheVariants.{Site as MakeSite, Raw as MakeRaw, Write as WriteAt, Read as ReadAt, Apply as ApplyAt, Crash as CrashAt}
use Rattle.vx_history.specs.declared.event.Said.TheVariants.{Done, DoneAt, Got}
use Rattle.vx_order.specs.Order.{line_refusal}
use Rattle.vx_script.specs.declared.line.ScriptLine.TheVariants.{Site, Raw, Crash, Write, Put, Read, Show, Apply}
use Rattle.vx_events.specs.Facts.{facts_of, site_number, volume_number}
use Rattle.vx_events.specs.Lines.{write_in}
use Rattle.vx_events.specs.Plain.{IsUnlinked, IsSizedAs}
use Rattle.vx_events.proofs.Refused.{crash_may, apply_may}
use Rattle.vx_events.proofs.RefusedCalls.{write_may, put_may, read_may, show_may}
use Rattle.vx_events.proofs.Steps.{crash_step, read_step, write_step, apply_step}
use Rattle.vx_events.proofs.Testing.{seat_in, up_in, running_in, site_free, raw_free, called, call_of, can_put, write_primary, put_primary, read_primary, blocks_filled}

pub site_agrees : (w : World) (files : Bool) (name : List ℕ) (disks blocks : ℕ) → line_refusal (facts_of w) files (Site name disks blocks) ≡ None → (step w (MakeSite name disks blocks)).said ≡ Done
site_agrees w files name disks blocks free = ap (λ (o : Outcome). o.said) (site_free w files name disks blocks free)

pub raw_agrees : (w : World) (files : Bool) (name : List ℕ) → line_refusal (facts_of w) files (Raw name) ≡ None → (step w (MakeRaw (site_number w name))).said ≡ Done
raw_agrees w files name free = ap (λ (o : Outcome). o.said) (raw_free w files name free)

pub crash_agrees : (w : World) (files : Bool) (name : List ℕ) (pick kept : ℕ) → line_refusal (facts_of w) files (Crash name pick) ≡ None → (step w (CrashAt (site_number w name) kept)).said ≡ Done
crash_agrees w files name pick kept free =
    let may = crash_may (facts_of w) files name pick free in
    ap (λ (o : Outcome). o.said) (crash_step w (site_number w name) kept (seat_in w name may.0).0 (up_in w name may.0 may.1))

pub write_agrees : (w : World) (files : Bool) (name volume : List ℕ) (start count fill : ℕ) → line_refusal (facts_of w) files (Write name volume start count fill) ≡ None
    → IsUnlinked w → IsSizedAs (w.nodes (site_number w name)) → (w.nodes (site_number w name)).safe < MOST_NUMBER
    → (step w (WriteAt (site_number w name) (volume_number (w.nodes (site_number w name)) volume) start (replicate (512 * count) fill) None)).said ≡ DoneAt ((w.nodes (site_number w name)).safe + 1)
write_agrees w files name volume start count fill free none sized below =
    let x : WriteBlocks = write_in w name volume start (replicate (512 * count) fill) in
    let may = write_may (facts_of w) files name volume start count fill free in
    ap (λ (o : Outcome). o.said) (write_step w (site_number w name) x
    (can_put w name volume start count (replicate (512 * count) fill) sized none may (blocks_filled count fill) (write_primary w files name volume start count fill free) below))

pub put_agrees : (w : World) (files : Bool) (name volume : List ℕ) (start : ℕ) (bytes : List ℕ) → line_refusal (facts_of w) files (Put name volume start bytes) ≡ None
    → length bytes ≡ 512 → IsUnlinked w → IsSizedAs (w.nodes (site_number w name)) → (w.nodes (site_number w name)).safe < MOST_NUMBER
    → (step w (WriteAt (site_number w name) (volume_number (w.nodes (site_number w name)) volume) start bytes None)).said ≡ DoneAt ((w.nodes (site_number w name)).safe + 1)
put_agrees w files name volume start bytes free one none sized below =
    let x : WriteBlocks = write_in w name volume start bytes in
    let may = put_may (facts_of w) files name volume start bytes free in
    ap (λ (o : Outcome). o.said) (write_step w (site_number w name) x
    (can_put w name volume start 1 bytes sized none may (omega (arith, one)) (put_primary w files name volume start bytes free) below))

pub read_agrees : (w : World) (files : Bool) (name volume : List ℕ) (start count : ℕ) → line_refusal (facts_of w) files (Read name volume start count) ≡ None
    → IsSizedAs (w.nodes (site_number w name))
    → (step w (ReadAt (site_number w name) (volume_number (w.nodes (site_number w name)) volume) start count)).said
    ≡ Got (joined_blocks (blocks_from (w.nodes (site_number w name)).base (volume_number (w.nodes (site_number w name)) volume) start count))
read_agrees w files name volume start count free sized =
    ap (λ (o : Outcome). o.said) (read_step w (site_number w name) (volume_number (w.nodes (site_number w name)) volume) start count
    (call_of w name volume start count (called w name volume start count sized (read_may (facts_of w) files name volume start count free)) (read_primary w files name volume start count free)))

pub show_agrees : (w : World) (files : Bool) (name volume : List ℕ) (start count : ℕ) → line_refusal (facts_of w) files (Show name volume start count) ≡ None
    → IsSizedAs (w.nodes (site_number w name)) → (w.nodes (site_number w name)).role ≡ Primary
    → (step w (ReadAt (site_number w name) (volume_number (w.nodes (site_number w name)) volume) start count)).said
    ≡ Got (joined_blocks (blocks_from (w.nodes (site_number w name)).base (volume_number (w.nodes (site_number w name)) volume) start count))
show_agrees w files name volume start count free sized primary =
    ap (λ (o : Outcome). o.said) (read_step w (site_number w name) (volume_number (w.nodes (site_number w name)) volume) start count
    (call_of w name volume start count (called w name volume start count sized (show_may (facts_of w) files name volume start count free)) primary))

pub apply_agrees : (w : World) (files : Bool) (name : List ℕ) (to reached : ℕ) → line_refusal (facts_of w) files (Apply name to) ≡ None → is_origin (w.nodes (site_number w name)).role ≡ true
    → min to (w.nodes (site_number w name)).safe ≤ reached → reached ≤ (w.nodes (site_number w name)).safe → (step w (ApplyAt (site_number w name) to reached)).said ≡ DoneAt reached
apply_agrees w files name to reached free origin least most =
    let may = apply_may (facts_of w) files name to free in
    let up = up_in w name may.site may.up in
    ap (λ (o : Outcome). o.said) (apply_step w (site_number w name) to reached (seat_in w name may.site).0 up (running_in w name may.site up may.running) origin least most)
