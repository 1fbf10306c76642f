-- Lines on which a site ever stood.
use Rattle.std.proofs.Common.{◌≡◌, ℕ, List, [], ◌∷◌, ◌++◌, refl, sym, ap, subst, Bool, true, false}
use Rattle.std.specs.Prelude.{◌||◌}
use Rattle.std.specs.List.{AllByRecursion}
use Rattle.vx_model.specs.Sites.{same_line}
use Rattle.vx_model.specs.declared.history.Line.{Line}
use Rattle.vx_model.proofs.Tests.{or_true}
use Rattle.vx_history.proofs.Updates.{same_line_equal, same_line_self}
use Rattle.vx_history.specs.World.{World}
use Rattle.vx_history.specs.Sound.{has_line, HasCome, CameTo, Sound}

one_of_both : (a b : Bool) (P : Type 0) → (a || b) ≡ true → (a ≡ true → P) → (b ≡ true → P) → P
one_of_both true b P e f g = f refl
one_of_both false b P e f g = g e

either_true : (a b c : Bool) → (a || b) ≡ true → (b ≡ true → c ≡ true) → (a || c) ≡ true
either_true true b c e f = refl
either_true false b c e f = f e

-- what holds of each of these lines holds of one of them
pub of_line : (P : Line → Type 0) (ls : List Line) (line : Line) → has_line ls line ≡ true → AllByRecursion P ls → P line
of_line P [] line e all = absurd (cc)
of_line P (l ∷ ls) line e (here, rest) =
    one_of_both (same_line line l) (has_line ls line) (P line) e
    (λ is. subst P (sym (same_line_equal line l is)) here)
    (λ f. of_line P ls line f rest)

-- one of these is one of more
pub more_lines : (ls ms : List Line) (line : Line) → has_line ls line ≡ true → has_line (ls ++ ms) line ≡ true
more_lines [] ms line e = absurd (cc)
more_lines (l ∷ ls) ms line e = either_true (same_line line l) (has_line ls line) (has_line (ls ++ ms) line) e (λ f. more_lines ls ms line f)

-- and so is the last of them
pub last_line : (ls : List Line) (line : Line) → has_line (ls ++ line ∷ []) line ≡ true
last_line [] line = ap (λ (b : Bool). b || false) (same_line_self line)
last_line (l ∷ ls) line = or_true (same_line line l) (has_line (ls ++ line ∷ []) line) (last_line ls line)

-- who came to a line
pub who_came : (w : World) (s : Sound w) (line : Line) (i : ℕ) → CameTo w.nodes line i → HasCome w.nodes i line
who_came w s line i came = of_line (HasCome w.nodes i) (w.nodes i).stood line came (s.come i)
