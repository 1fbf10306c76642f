-- The failed calls of a line.
use Rattle.std.specs.Prelude.{◌≡◌, ◌⊎◌, ◌+◌, ◌<◌, IsSome, None, ℕ, List, []}
use Rattle.std.specs.List.{AllByRecursion}
use Rattle.vx_history.specs.World.{Node, World}

-- for each its site and its disk
abbrev pub Fails : Type 0
Fails = List (ℕ × ℕ)

-- The disk may have the log of the site: of a raw set that is on the first one, and of a site over a group on any.
abbrev pub IsLogDisk : Node → (disk : ℕ) → Type 0
IsLogDisk n disk = n.group ≡ None → disk ≡ 0

-- The disk may have blocks of the log or of a volume of the site: of a raw set it is the first one, or one before the last.
abbrev pub IsSiteDisk : Node → (disk : ℕ) → Type 0
IsSiteDisk n disk = n.group ≡ None → (disk ≡ 0) ⊎ (disk + 1 < n.disks)

-- The failed calls in spite of which a line at this site is done: each is one of a disk of that site, which is over a group, where another disk may
-- have the blocks. A raw set has each volume on one disk, so none of its calls may fail.
abbrev pub AreBorne : World → (site : ℕ) → Fails → Type 0
AreBorne w site fails = AllByRecursion (λ (f : ℕ × ℕ). (f.0 ≡ site) × IsSome (w.nodes site).group) fails

-- of the failed calls of a line at this site those by which its events ended: all of them, or none where the line is done in spite of them
abbrev pub AreEnding : World → (site : ℕ) → (all ending : Fails) → Type 0
AreEnding w site all ending = (ending ≡ all) ⊎ ((ending ≡ []) × AreBorne w site all)
