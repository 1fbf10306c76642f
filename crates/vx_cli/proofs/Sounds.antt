-- A line leaves a good world good, where it has not strayed behind it, whichever of the sites in doubt are as they may be on their disks.
use Rattle.std.proofs.Common.{◌≡◌, ◌∙◌, ◌⊎◌, inl, inr, ℕ, Bool, false, List, [], ◌∷◌, Option, Some, None, Result, Ok, Err, ap, sym, subst}
use Rattle.vx_history.specs.Doubts.{Doubted}
use Rattle.vx_history.specs.Likes.{IsLike}
use Rattle.vx_history.specs.Steps.{burned, worked_on}
use Rattle.vx_history.specs.World.{NoFuse, World}
use Rattle.vx_history.specs.declared.event.Event.{Event}
use Rattle.vx_script.specs.declared.line.ScriptLine.{ScriptLine}
use Rattle.vx_world.specs.Lines.{GoodDoubted}
use Rattle.vx_world.proofs.Doubting.{like_good, runs_good}
use Rattle.vx_world.proofs.Lining.{line_good}
use Rattle.vx_events.specs.Doubts.{IsAs, run_as}
use Rattle.vx_events.specs.Fails.{Fails}
use Rattle.vx_events.specs.GroupLines.{crash_first, fuse_lost, noting}
use Rattle.vx_events.specs.Parts.{DonePart, FellFirst, PartLeft, ReadFirst, StopsShort}
use Rattle.vx_events.specs.RvgMakes.{RvgStops}
use Rattle.vx_events.specs.RvgParts.{ShortFull, short_place}
use Rattle.vx_events.specs.StepsOver.{group_place}
use Rattle.vx_events.proofs.Noting.{as_like, like_disks, like_noted, like_then, links_like}
use Rattle.vx_events.proofs.Parts.{told_part}
use Rattle.vx_events.proofs.RvgEvents.{step_stops}
use Rattle.vx_events.proofs.Stopping.{runs_as}
use Rattle.vx_events.proofs.StrayLines.{full_short_strays, step_calm}
use Rattle.vx_settling.proofs.Shorts.{short_good}
use Rattle.vx_yard.specs.Lines.{script_line}
use Rattle.vx_yard.specs.Steps.{SaidStep}
use Rattle.vx_cli.specs.Runs.{RunsLines}

-- what has not strayed behind a line had not before it
pub said_calm : (told : Type 0) (files : Bool) (d : Doubted) (r : Result (Option ScriptLine) ℕ) (fails : Fails) (text : List ℕ) (new : Doubted) → SaidStep told files d r fails text new
    → new.strayed ≡ false → d.strayed ≡ false
said_calm told files d (Ok None) fails text new step calm = ap (λ (x : Doubted). x.strayed) (sym step.2) ∙ calm
said_calm told files d (Ok (Some line)) fails text new step calm = step_calm told files d line fails step.said new step.step calm
said_calm told files d (Err column) fails text new step calm = absurd step

-- nor behind a run
pub run_calm : (told : Type 0) (files : Bool) (d : Doubted) (lines : List (List ℕ)) (failures : List Fails) (texts : List (List ℕ)) (new : Doubted)
    → RunsLines told files d lines failures texts new → new.strayed ≡ false → d.strayed ≡ false
run_calm told files d [] [] [] new run calm = ap (λ (x : Doubted). x.strayed) (sym run) ∙ calm
run_calm told files d [] [] (text ∷ texts) new run calm = absurd run
run_calm told files d [] (fails ∷ failures) texts new run calm = absurd run
run_calm told files d (line ∷ lines) [] texts new run calm = absurd run
run_calm told files d (line ∷ lines) (fails ∷ failures) [] new run calm = absurd run
run_calm told files d (line ∷ lines) (fails ∷ failures) (text ∷ texts) new run calm =
    said_calm told files d (script_line line) fails text run.0 run.1 (run_calm told files run.0 lines failures texts new run.2 calm)

-- however its events end
stops_good : (d new : Doubted) → GoodDoubted d → RvgStops d new → GoodDoubted new
stops_good d new good x = line_good x.before new x.events x.ending (like_good d x.before good x.like) x.stops

pub said_good : {told : Type 0} → told → (files : Bool) (d : Doubted) (r : Result (Option ScriptLine) ℕ) (fails : Fails) (text : List ℕ) (new : Doubted) → GoodDoubted d → new.strayed ≡ false
    → SaidStep told files d r fails text new → GoodDoubted new
said_good is files d (Ok None) fails text new good calm step = subst GoodDoubted (sym step.2) good
said_good {told} is files d (Ok (Some line)) fails text new good calm step = stops_good d new good (step_stops told is files d fails step.said new line calm step.step)
said_good is files d (Err column) fails text new good calm step = absurd step

-- so does want of memory within a line
left_good : (line : ScriptLine) (d : Doubted) (es : List Event) (new : Doubted) → GoodDoubted d → PartLeft line d es new → GoodDoubted new
left_good line d [] new good left = subst GoodDoubted (sym left) good
left_good line d (e ∷ es) new good left =
    let last : Doubted = run_as false d (e ∷ es) in
    like_good last new (runs_good (e ∷ es) d last good (runs_as false d (e ∷ es))) (links_like line d last new left)

-- or of which the crash alone was done
fell_good : (d : Doubted) (line : ScriptLine) (new : Doubted) → GoodDoubted d → FellFirst d line new → GoodDoubted new
fell_good d line new good fell =
    let s : ℕ = group_place d.world line in
    let es : List Event = crash_first (d.world.nodes s).state s in
    let last : Doubted = run_as false d es in
    like_good last new (runs_good es d last good (runs_as false d es))
    (as_like last new (noting last.world s fell.next) (like_disks last.world s (last.world.nodes s).failing (Some fell.next)) fell.leads)

-- or of which only the reads were done, or the fuse is lost
read_good : (d : Doubted) (line : ScriptLine) (new : Doubted) → GoodDoubted d → ReadFirst d line new → GoodDoubted new
read_good d line new good read = by read.leads
  where
    s : ℕ
    s = group_place d.world line

    v : World
    v = noting d.world s read.next

    noted : IsLike d.world v
    noted = like_disks d.world s (d.world.nodes s).failing (Some read.next)

    by : IsAs d (worked_on v s) new ⊎ IsAs d (fuse_lost v s) new → GoodDoubted new
    by (inl worked) = like_good d new good (as_like d new (worked_on v s) (like_then noted (like_noted v s (burned (v.nodes s).fuse))) worked)
    by (inr lost) = like_good d new good (as_like d new (fuse_lost v s) (like_then noted (like_noted v s NoFuse)) lost)

pub part_good : {told : Type 0} → told → (d : Doubted) (line : ScriptLine) (new : Doubted) → GoodDoubted d → d.strayed ≡ false → StopsShort told d line new → GoodDoubted new
part_good {told} is d line new good calm short = by (told_part told d line new is calm short)
  where
    by : DonePart d line new ⊎ FellFirst d line new ⊎ ReadFirst d line new → GoodDoubted new
    by (inl part) = left_good line d part.before new good part.leads
    by (inr (inl fell)) = fell_good d line new good fell
    by (inr (inr read)) = read_good d line new good read

-- or within one at a site with a replicated volume group
pub short_full_good : {told : Type 0} → told → (d : Doubted) (line : ScriptLine) (new : Doubted) → GoodDoubted d → d.strayed ≡ false → ShortFull told d line new → GoodDoubted new
short_full_good is d line new good calm (inl short) = part_good is d line new good calm short
short_full_good {told} is d line new good calm (inr short) = short_good told d line (short_place d.world line) new good short

pub short_calm : (told : Type 0) (d : Doubted) (line : ScriptLine) (new : Doubted) → ShortFull told d line new → new.strayed ≡ false → d.strayed ≡ false
short_calm told d line new short calm = sym (full_short_strays told d line new short) ∙ calm
