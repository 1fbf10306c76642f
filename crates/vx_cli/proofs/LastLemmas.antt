-- The last world of a run.
use Rattle.std.proofs.Common.{◌≡◌, ◌∙◌, ℕ, true, false, List, [], ◌∷◌, Option, Some, None, Result, Ok, Err, inl, inr, subst, sym}
use Rattle.vx_history.specs.Doubts.{Doubted}
use Rattle.vx_history.specs.World.{World}
use Rattle.vx_script.specs.declared.line.ScriptLine.{ScriptLine}
use Rattle.vx_events.specs.GroupEnds.{BringsUp}
use Rattle.vx_events.specs.RvgParts.{RvgShort, ShortGroup, ShortLog, ShortMade, short_place}
use Rattle.vx_events.specs.RvgViews.{is_over_rvg}
use Rattle.vx_script.specs.declared.line.ScriptLine.TheVariants.{GroupImport, Recover}
use Rattle.vx_events.proofs.Parts.{whole_short}
use Rattle.vx_yard.specs.Lines.{script_line}
use Rattle.vx_cli.specs.Ends.{GoesWhole, NextGoesWhole, PartOfLine, PartOfNext, LastWorld, may_short}
use Rattle.vx_cli.specs.declared.status.Status.{Status}
use Rattle.vx_cli.specs.declared.status.Status.TheVariants.{OutOfMemory}

-- a line that brings a group up at a site that has one over it
may_bring : (w : World) (line : ScriptLine) → BringsUp line → may_short w line ≡ false → is_over_rvg (w.nodes (short_place w line)) ≡ false
may_bring w (GroupImport site) brings off = off
may_bring w (Recover site) brings off = off
may_bring w other brings off = absurd brings

module _ (told : Type 0) (w last : Doubted) (words : ScriptLine) (off : may_short w.world words ≡ false) where
  never_over : is_over_rvg (w.world.nodes (short_place w.world words)) ≡ true → BringsUp words → last ≡ w
  never_over over brings = absurd (let clash : true ≡ false = sym over ∙ may_bring w.world words brings off in cc)

  none_short : RvgShort told w words (short_place w.world words) last → last ≡ w
  none_short (ShortGroup kept taken lost next over is notes left) = never_over over is
  none_short (ShortLog kept taken fails middle next over is of back keeps cut left) = never_over over is
  none_short (ShortMade site srl maps volumes fails next is of notes left) = absurd (let clash : true ≡ false = subst (λ (l : ScriptLine). may_short w.world l ≡ false) is off in cc)

by_line : (told : Type 0) (r : Result (Option ScriptLine) ℕ) (w last : Doubted) → GoesWhole w.world r → PartOfLine told r w last → last ≡ w
by_line told (Ok (Some words)) w last whole (inl short) = whole_short told w words last whole.0 short
by_line told (Ok (Some words)) w last whole (inr short) = none_short told w last words whole.1 short
by_line told (Ok None) w last whole short = short
by_line told (Err column) w last whole short = short

by_next : (told : Type 0) (others : List (List ℕ)) (w last : Doubted) → NextGoesWhole w.world others → PartOfNext told others w last → last ≡ w
by_next told [] w last whole short = short
by_next told (line ∷ lines) w last whole short = by_line told (script_line line) w last whole short

pub last_is : (told : Type 0) (status : Status) (others : List (List ℕ)) (w last : Doubted) → NextGoesWhole w.world others → LastWorld told status others w last → last ≡ w
last_is told OutOfMemory others w last whole short = by_next told others w last whole short
last_is told other others w last whole short = short
