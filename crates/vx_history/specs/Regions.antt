-- Contents that are right outside a map of regions, or right at some moment.
use Rattle.std.specs.Prelude.{◌≡◌, ℕ, ◌*◌, ◌-◌, ◌/◌, ◌≤◌, Bool, true, false, ◌&&◌, ◌||◌, eqb, leb, ltb, List, [], ◌∷◌, length, take, drop}
use Rattle.std.specs.List.{AllByRecursion}
use Rattle.vx_model.specs.Content.{Write, Content, fold_writes, touches}
use Rattle.vx_model.specs.declared.limits.TheConstants.{REGION}
use Rattle.vx_history.specs.World.{Regions}

-- the region of this block is in the map
abbrev pub marks_block : Regions → (volume block : ℕ) → Bool
marks_block map volume block = map volume (block / REGION)

abbrev pub joined_maps : Regions → Regions → Regions
joined_maps a b v r = a v r || b v r

-- the regions of which the write touches a block
abbrev pub marks_of : Write → Regions
marks_of x v r = eqb v x.volume && (leb (x.start / REGION) r && ltb (512 * (REGION * r - x.start)) (length x.bytes))

abbrev pub marks_of_all : List Write → Regions
marks_of_all [] v r = false
marks_of_all (x ∷ xs) v r = marks_of x v r || marks_of_all xs v r

-- the map has every region that the write touches
abbrev pub CoversWrite : Regions → Write → Type 0
CoversWrite map x = (v b : ℕ) → touches x v b ≡ true → marks_block map v b ≡ true

-- every region of the one map is in the other
abbrev pub IsWithin : Regions → Regions → Type 0
IsWithin map wide = (v r : ℕ) → map v r ≡ true → wide v r ≡ true

-- Each block of c outside the map has its value in the content that these writes make of s.
abbrev pub Near : Content → Content → List Write → Regions → Type 0
Near c s xs map = (v b : ℕ) → marks_block map v b ≡ false → c.block v b ≡ (fold_writes s xs).block v b

-- The block has its value after some number from low to high of these writes.
abbrev pub AtSome : Content → Content → List Write → (low high v b : ℕ) → Type 0
AtSome c s xs low high v b = (q : ℕ) × (low ≤ q) × (q ≤ high) × (c.block v b ≡ (fold_writes s (take q xs)).block v b)

-- Each block of c outside the map has its value after some number from low to high of these writes.
abbrev pub Fuzzy : Content → Content → List Write → ℕ → ℕ → Regions → Type 0
Fuzzy c s xs low high map = (v b : ℕ) → marks_block map v b ≡ false → AtSome c s xs low high v b

-- The base is right outside the map after all of these writes, of which the map covers those above n.
pub record IsMapped (xs : List Write) (n : ℕ) (base start : Content) (map : Regions) : Type 0 where
  pub near : Near base start xs map
  pub covers : AllByRecursion (CoversWrite map) (drop n xs)
