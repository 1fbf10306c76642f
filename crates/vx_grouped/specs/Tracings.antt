-- A rack inside what is known of its contents.
use Rattle.vx_untold.specs.declared.shade.Shade.{Shade}
use Rattle.vx_untold.specs.declared.shade.Shade.TheVariants.{Bright, Dark}

-- the same over another rack inside
abbrev pub shade_over : {T R : Type 0} → (T → R) → Shade T → Shade R
shade_over f (Bright t) = Bright (f t)
shade_over f (Dark t) = Dark (f t)
