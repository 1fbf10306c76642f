-- Disks on which nothing but zeros is written.
use Rattle.std.specs.Prelude.{◌≡◌}
use Rattle.vx_model.specs.Content.{zero_block}
use Rattle.vx_disk.specs.Shelf.{Values}

-- a block of zeros, anywhere
abbrev pub OnlyZeros : Values
OnlyZeros u b v = v ≡ zero_block
