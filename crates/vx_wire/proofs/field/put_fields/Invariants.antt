-- The loop of `put_fields` over `field`: what stays true.
use Rattle.std.proofs.Common.{◌≡◌, ◌+◌, length, take}
use Rattle.vx_wire.specs.Fields.{spelled}
use Rattle.vx_wire.specs.Places.{put_at}
use Rattle.vx_wire.proofs.field.put_fields.Given as goal

abbrev pub invariant-loop-field : goal.invariant-loop-field
invariant-loop-field l = record {
  next : l.place ≡ l.at + length (spelled (take l.field-index l.fields));
  written : l.bytes ≡ put_at l.at (spelled (take l.field-index l.fields)) l.fn.bytes;
}
