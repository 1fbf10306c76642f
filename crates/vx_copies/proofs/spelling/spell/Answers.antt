-- `spell`: clauses can, text, digest and body.
use Rattle.std.proofs.Common.{◌≡◌, ℕ, ◌++◌, arith, ap, ◌∙◌, take}
use Rattle.vx_wire.specs.Fields.{zero_bytes}
use Rattle.vx_wire.specs.Places.{put_at}
use Rattle.vx_config.specs.Configs.{spelled_config}
use Rattle.vx_wire.specs.Seals.{digest_of}
use Rattle.vx_copies.proofs.Fronts.{ceil_is, front_after, spelled_some, text_after}
use Rattle.vx_copies.proofs.spelling.spell.Goals as goal

body : (c : goal.After-digest) → take c.encode_into-length.result c.put_zeros.new.bytes ≡ spelled_config c.args.config.now
body c = front_after c.encode_into-length.result (spelled_config c.args.config.now) _ c.args.room.now c.encode_into-length.new.into c.put_zeros.new.bytes
    c.encode_into-length.ensures.len (omega (arith, c.requires.room)) c.encode_into-length.ensures.bytes c.put_zeros.ensures

pub returns-clause-can : goal.returns-clause-can
returns-clause-can c = record {
  serial = omega (arith, c.requires.can.serial);
  some = omega (arith, c.encode_into-length.ensures.len, spelled_some c.args.config.now);
  few = omega (arith, c.encode_into-length.ensures.len, c.is_short.ensures);
}

pub returns-clause-text : goal.returns-clause-text
returns-clause-text c = text_after c.encode_into-length.result (spelled_config c.args.config.now) _ c.args.room.now c.encode_into-length.new.into c.put_zeros.new.bytes
    c.encode_into-length.ensures.len c.encode_into-length.ensures.bytes c.put_zeros.ensures
    ∙ ap (λ (n : ℕ). put_at 0 (spelled_config c.args.config.now ++ zero_bytes n) c.args.room.now)
    (omega (arith, c.encode_into-length.ensures.len, c.div_ceil-filled.ensures, ceil_is c.encode_into-length.result))

pub returns-clause-digest : goal.returns-clause-digest
returns-clause-digest c = c.digest.ensures ∙ ap digest_of (body c)

pub returns-clause-body : goal.returns-clause-body
returns-clause-body c = body c
