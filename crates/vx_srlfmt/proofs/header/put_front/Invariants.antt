-- The loop of `put_front` over `link`: what stays true.
use Rattle.std.proofs.Common.{◌≡◌, ◌++◌, length, take}
use Rattle.std.specs.Prelude.{flat_map}
use Rattle.vx_wire.specs.Fields.{spelled}
use Rattle.vx_wire.specs.Places.{put_at}
use Rattle.vx_srlfmt.specs.Headers.{header_table, link_bytes}
use Rattle.vx_srlfmt.proofs.header.put_front.Given as goal

abbrev pub invariant-loop-link : goal.invariant-loop-link
invariant-loop-link l =
    let so_far = spelled (header_table l.h) ++ flat_map link_bytes (take l.link-index l.h.state.links) in
    record {
      next : l.place ≡ length so_far;
      written : l.into ≡ put_at 0 so_far l.fn.into;
    }
