-- What the file system answers, and what a disk's call answers then.
use Rattle.std.specs.Prelude.{◌≡◌, ℕ, Result, Ok, Err}
use Rattle.vx_disk.specs.declared.shelf.ShelfError.{ShelfError}
use Rattle.vx_disk.specs.declared.shelf.ShelfError.TheVariants.{Fault, Down}

-- a fault of the disk exactly where the file system answered with an error
abbrev pub Told : {T E : Type 0} → ℕ → Result T E → Result T ShelfError → Type 0
Told unit (Ok _) (Ok _) = Unit {0}
Told unit (Ok _) (Err _) = ⊥
Told unit (Err _) (Ok _) = ⊥
Told unit (Err _) (Err (Fault disk)) = disk ≡ unit
Told unit (Err _) (Err Down) = ⊥

-- a call that may pass is answered with Ok or a fault of the disk, and any other as it was before the files were reached
abbrev pub FollowsFiles : {T : Type 0} → ℕ → Result T ShelfError → Result T ShelfError → Type 0
FollowsFiles unit (Ok _) (Ok _) = Unit {0}
FollowsFiles unit (Ok _) (Err (Fault disk)) = disk ≡ unit
FollowsFiles unit (Ok _) (Err Down) = ⊥
FollowsFiles unit (Err before) (Ok _) = ⊥
FollowsFiles unit (Err before) (Err after) = after ≡ before
