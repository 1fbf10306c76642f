-- What the laws say, by the lemmas.
use Rattle.vx_model.proofs.Contents.{fold_size}
use Rattle.vx_overlay.proofs.WriteLemmas.{fold_newest, put_there_in, put_there_at, newest_append, newest_drop, covered, uncovered, newest_entries, entries_append, entries_count, entries_drop, entries_at_snoc, newest_entries_at}
use Rattle.vx_overlay.proofs.laws.writes_wait.Goals as goal

pub returns : goal.returns
returns c = record {
  folded = fold_newest;
  sizes = fold_size;
  own = put_there_in;
  puts = put_there_at;
  later = newest_append;
  dropped = newest_drop;
  covered = covered;
  uncovered = uncovered;
  wait = newest_entries;
  joined = entries_append;
  count = entries_count;
  left = entries_drop;
  more = entries_at_snoc;
  each = newest_entries_at;
}
