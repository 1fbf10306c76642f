-- What the source and the sink in memory are seen as.
use Rattle.std.specs.Prelude.{ℕ, ◌+◌, ◌-◌, ◌^◌, min, List, length}

-- the bytes that are left, the calls so far, those that are to fail, and the faults so far
pub record SourceView : Type 0 where
  pub left : List ℕ
  pub calls : ℕ
  pub fails : List ℕ
  pub faults : ℕ

-- the bytes that were written, the room in all, the calls so far, those that are to fail, and the faults so far
pub record SinkView : Type 0 where
  pub written : List ℕ
  pub room : ℕ
  pub calls : ℕ
  pub fails : List ℕ
  pub faults : ℕ

-- one more, up to the greatest number of 64 bits
abbrev pub next_count : ℕ → ℕ
next_count calls = min (calls + 1) (2 ^ 64 - 1)

-- the room that is left
abbrev pub free : SinkView → ℕ
free sink = sink.room - length sink.written
