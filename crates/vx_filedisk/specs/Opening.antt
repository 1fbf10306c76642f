-- Why the files of a rack were not opened.
use Rattle.std.specs.Prelude.{ℕ, ◌<◌}
use Rattle.vx_filedisk.specs.declared.fit.OpenError.{OpenError}
use Rattle.vx_filedisk.specs.declared.fit.OpenError.TheVariants.{OutOfMemory, Disk}

-- memory ran out, or the file system failed at one of so many disks
abbrev pub Unopened : ℕ → OpenError → Type 0
Unopened disks OutOfMemory = Unit {0}
Unopened disks (Disk disk) = disk < disks
