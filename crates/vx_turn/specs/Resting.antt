-- The view of a pass between two calls.
use Rattle.std.specs.Prelude.{◌≡◌, ℕ, true, false, List, [], ◌∷◌}
use Rattle.vx_turn.specs.declared.view.View.{View}
use Rattle.vx_turn.specs.Turning.{IsOneSeat, blank_view}

abbrev pub view_or : View → List View → View
view_or d [] = d
view_or d (v ∷ vs) = v

abbrev pub only : List View → View
only vs = view_or blank_view vs

abbrev pub IsAtRest : ℕ → List View → Type 0
IsAtRest number views = (views ≡ only views ∷ []) × ((only views).holds ≡ false) × ((only views).low ≡ number) × IsOneSeat (only views) × ((only views).live ≡ true)
