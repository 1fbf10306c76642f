-- The volumes of an engine as lists, and what a write makes of them.
use Rattle.std.specs.Prelude.{ℕ, suc, List, [], ◌∷◌, length, slice_index_or}
use Rattle.vx_model.specs.Content.{Content, Write, put}

-- each volume is a list of blocks of 512 bytes
abbrev pub Volumes : Type 0
Volumes = List (List (List ℕ))

-- the same as a content, which goes by number of volume and block
abbrev pub as_content : Volumes → Content
as_content vs = record { size = λ v. length (slice_index_or vs v []); block = λ v b. slice_index_or (slice_index_or vs v []) b [] }

-- as many blocks as these, with what the content has there, from block b of volume v on
abbrev pub blocks_as : Content → ℕ → ℕ → List (List ℕ) → List (List ℕ)
blocks_as c v b [] = []
blocks_as c v b (x ∷ xs) = c.block v b ∷ blocks_as c v (suc b) xs

-- volumes of the sizes of these, with what the content has there, from volume v on
abbrev pub volumes_as : Content → ℕ → Volumes → Volumes
volumes_as c v [] = []
volumes_as c v (x ∷ xs) = blocks_as c v 0 x ∷ volumes_as c (suc v) xs

-- the volumes after a write, which changes nothing where it does not lie within its volume
abbrev pub volumes_written : Volumes → Write → Volumes
volumes_written vs w = volumes_as (put (as_content vs) w) 0 vs
