-- How many blocks of a unit hold records or maps, and which disks can be a raw set.
use Rattle.std.specs.Prelude.{ℕ, ◌+◌, ◌-◌, ◌*◌, Bool, ◌&&◌, nat_le, min}
use Rattle.std.specs.Int.{div_ceil}
use Rattle.vx_model.specs.declared.limits.TheConstants.{LEAST_BLOCKS, LEAST_RAW_DISKS, LINK_PLACES, LOG_HEADERS, MAP_REGIONS, MOST_DATA_VOLUMES, MOST_LOG_BLOCKS, REGION}

-- the blocks of a log unit that hold records: all but its two headers, and no more than 65,536 blocks are used
abbrev pub ring_of : ℕ → ℕ
ring_of blocks = min blocks MOST_LOG_BLOCKS - LOG_HEADERS

-- the regions of a volume
abbrev pub regions_of : ℕ → ℕ
regions_of blocks = div_ceil blocks REGION

-- the map blocks of a volume: a bit for each region of 64 blocks, 4,096 bits in a block
abbrev pub map_blocks : ℕ → ℕ
map_blocks blocks = div_ceil (regions_of blocks) MAP_REGIONS

-- disks of so many blocks are a raw set: a log of at least 8 blocks, 1 to 30 data volumes, and a map unit of at least
-- eight times the map blocks of the data volumes
unfoldable pub is_raw_shape : ℕ → ℕ → Bool
is_raw_shape disks blocks =
    nat_le LEAST_RAW_DISKS disks && nat_le disks (MOST_DATA_VOLUMES + 2) && nat_le LEAST_BLOCKS blocks
    && nat_le (LINK_PLACES * (disks - 2) * map_blocks blocks) blocks
