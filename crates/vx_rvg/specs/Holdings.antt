-- What a group holds: the writes of its log, the content of its volumes with them, and the blocks of its maps.
use Rattle.std.specs.Prelude.{ℕ, ◌+◌, ◌-◌, List, [], ◌∷◌, ◌++◌, length, drop}
use Rattle.vx_model.specs.Content.{Content, Write, blocks_in, fold_writes}
use Rattle.vx_model.specs.declared.call.Update.{Update}
use Rattle.vx_model.specs.declared.history.Line.{Line}
use Rattle.vx_rvg.specs.Views.{Core}

pub record Holding : Type 0 where
  -- the number of the first write that the log has, or would have, and the writes from it on
  pub low : ℕ
  pub writes : List Write
  -- where the first of them begins in the ring of the log, or the next write where there is none
  pub place : ℕ
  -- the volumes with all of them
  pub content : Content
  -- the blocks of the map unit
  pub maps : List (List ℕ)

-- that of a new group
abbrev pub nothing_logged : Content → List (List ℕ) → Holding
nothing_logged c maps = record { low = 1; writes = []; place = 0; content = c; maps = maps }

-- with these writes behind the others
abbrev pub with_writes : List Write → Holding → Holding
with_writes xs h = record { low = h.low; writes = h.writes ++ xs; place = h.place; content = fold_writes h.content xs; maps = h.maps }

-- with another content
abbrev pub with_content : Content → Holding → Holding
with_content c h = record { low = h.low; writes = h.writes; place = h.place; content = c; maps = h.maps }

-- with so many of the writes, the last ones, of which the first has this number and place
abbrev pub with_last : ℕ → ℕ → ℕ → Holding → Holding
with_last low place count h = record { low = low; writes = drop (length h.writes - count) h.writes; place = place; content = h.content; maps = h.maps }

-- what a group still has of it, whose log gave up writes
abbrev pub kept_in : Core → Holding → Holding
kept_in core h = with_last core.log.header.low core.log.header.place (length core.log.held) h

-- so many blocks of the ring are taken by these writes
abbrev pub blocks_taken : List Write → ℕ
blocks_taken [] = 0
blocks_taken (x ∷ xs) = blocks_in x.bytes + 1 + blocks_taken xs

-- a write as it is fetched: under its number, on a line
abbrev pub update_of : Line → ℕ → Write → Update
update_of line number x = record { line = line; number = number; vol = x.volume; block = x.start; bytes = x.bytes }
