-- How many regions are marked.
use Rattle.std.specs.Prelude.{ℕ, zero, suc, ◌+◌, Bool, if◌then◌else◌, length}
use Rattle.vx_model.specs.Sizes.{regions_of}
use Rattle.vx_dcm.specs.Places.{Maps, has_mark, mapped_size}

-- how many of the regions below n are marked
abbrev pub marks_below : (ℕ → Bool) → ℕ → ℕ
marks_below marks zero = 0
marks_below marks (suc n) = marks_below marks n + (if marks n then 1 else 0)

-- how many regions of a volume are marked for a place of a link
abbrev pub left_in : Maps → ℕ → ℕ → ℕ
left_in d slot v = marks_below (λ r. has_mark d slot v r) (regions_of (mapped_size d v))

-- the same of the volumes below n
abbrev pub left_to : Maps → ℕ → ℕ → ℕ
left_to d slot zero = 0
left_to d slot (suc n) = left_to d slot n + left_in d slot n

-- the same of all volumes
abbrev pub marks_left : Maps → ℕ → ℕ
marks_left d slot = left_to d slot (length d.sizes)
