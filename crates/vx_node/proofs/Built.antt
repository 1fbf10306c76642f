-- The one line that goes in parts settles a link; and a line that goes to no group.
use Rattle.std.proofs.Common.{◌≡◌, ◌∙◌, ℕ, Bool, List, true, false, refl, sym}
use Rattle.std.specs.Prelude.{◌||◌}
use Rattle.vx_script.specs.declared.line.ScriptLine.{ScriptLine}
use Rattle.vx_script.specs.declared.line.ScriptLine.TheVariants.{Settle}
use Rattle.vx_events.specs.Parts.{goes_in_parts}

pub goes_whole : (line : ScriptLine) → ((p s : List ℕ) → line ≡ Settle p s → ⊥) → goes_in_parts line ≡ false
goes_whole (Settle p s) not = absurd (not p s refl)
goes_whole other not = refl

-- a line that goes to no group is none that goes to one alone
pub not_alone : (alone goes : Bool) → (alone ≡ true → goes ≡ true) → goes ≡ false → alone ≡ false
not_alone true goes always not = sym (always refl) ∙ not
not_alone false goes always not = refl

pub neither : (a b : Bool) → (a || b) ≡ false → (a ≡ false) × (b ≡ false)
neither true b off = absurd (let clash : true ≡ false = off in cc)
neither false b off = (refl, off)
