-- `put_front`: its result; what `put_fields-place` and `put_zeros` ask; what stays true in its loop over `link`; that no number grows too large.
use Rattle.std.proofs.Common.{arith, ◌≡◌, ◌<◌, ◌+◌, ◌-◌, ◌∙◌, ◌++◌, ap, sym, List, ℕ, length, get_or, take}
use Rattle.std.proofs.lemmas.List.{length-take, length-append, append-nil}
use Rattle.vx_model.specs.declared.state.KeptLink.{KeptLink}
use Rattle.vx_wire.specs.Fields.{spelled, zero_bytes}
use Rattle.vx_wire.specs.Places.{put_at}
use Rattle.vx_wire.specs.Seals.{filled}
use Rattle.vx_wire.proofs.PlaceLemmas.{put_at-put_at}
use Rattle.vx_srlfmt.specs.Headers.{header_table, link_bytes, header_fields}
use Rattle.vx_srlfmt.proofs.Lengths.{no_link, length-header_table, length-link_bytes, front_of, length-front_of, front_of-more, front_of-all}
use Rattle.vx_srlfmt.proofs.header.put_front.Goals as goal

pub put_fields-place-requires : goal.put_fields-place-requires
put_fields-place-requires c =
    let same : length (spelled c.table.result) ≡ length (spelled (header_table c.args.h.now)) = ap (λ t. length (spelled t)) c.table.ensures in
    omega (arith, same, length-header_table c.args.h.now)

pub loop-link-init : goal.loop-link-init
loop-link-init c =
    let table : List ℕ = spelled (header_table c.args.h.now) in
    let same : spelled c.table.result ≡ table = ap spelled c.table.ensures in
    record {
      next = c.put_fields-place.ensures.next ∙ omega (arith, ap length same, ap length (append-nil table));
      written = c.put_fields-place.ensures.written ∙ ap (λ (b : List ℕ). put_at 0 b c.args.into.now) (same ∙ sym (append-nil table));
    }

pub put_fields-place-requires-in-loop-link : goal.put_fields-place-requires-in-loop-link
put_fields-place-requires-in-loop-link c =
    let links : List KeptLink = c.args.h.now.state.links in
    let link : KeptLink = get_or c.as_slice-link-items.result.now c.loop-link.link-index no_link in
    let same : length (spelled c.link_fields.result) ≡ length (link_bytes link) = ap (λ t. length (spelled t)) c.link_fields.ensures in
    omega (arith, same, length-link_bytes link, c.loop-link.invariant.next, length-front_of c.args.h.now (take c.loop-link.link-index links), length-take c.loop-link.link-index links)

pub loop-link-preserved : goal.loop-link-preserved
loop-link-preserved c =
    let links : List KeptLink = c.args.h.now.state.links in
    let i : ℕ = c.loop-link.link-index in
    let items : c.as_slice-link-items.result.now ≡ links = c.as_slice-link-items.ensures.links in
    let lt : i < length links = omega (arith, c.loop-link-test.true, ap length items) in
    let link : KeptLink = get_or links i no_link in
    let same : spelled c.link_fields.result ≡ link_bytes link = ap spelled c.link_fields.ensures ∙ ap (λ (ls : List KeptLink). link_bytes (get_or ls i no_link)) items in
    let more : front_of c.args.h.now (take (i + 1) links) ≡ front_of c.args.h.now (take i links) ++ link_bytes link = front_of-more c.args.h.now links i no_link lt in
    let new : List ℕ = spelled c.link_fields.result in
    record {
      next = c.put_fields-place-in-loop-link.ensures.next ∙ omega (arith, ap length same, ap length more, c.loop-link.invariant.next, length-append (front_of c.args.h.now (take i links)) (link_bytes link));
      written = c.put_fields-place-in-loop-link.ensures.written ∙ ap (put_at c.loop-link.place new) c.loop-link.invariant.written
          ∙ put_at-put_at 0 c.loop-link.place (front_of c.args.h.now (take i links)) new c.args.into.now (c.loop-link.invariant.next ∙ omega arith) (omega arith)
          ∙ ap (λ (b : List ℕ). put_at 0 (front_of c.args.h.now (take i links) ++ b) c.args.into.now) same
          ∙ ap (λ (b : List ℕ). put_at 0 b c.args.into.now) (sym more);
    }

pub overflow_sub-place : goal.overflow_sub-place
overflow_sub-place c =
    let links : List KeptLink = c.args.h.now.state.links in
    omega (arith, c.loop-link.invariant.next, length-front_of c.args.h.now (take c.loop-link.link-index links), length-take c.loop-link.link-index links)

pub put_zeros-requires : goal.put_zeros-requires
put_zeros-requires c =
    let links : List KeptLink = c.args.h.now.state.links in
    omega (arith, c.loop-link.invariant.next, length-front_of c.args.h.now (take c.loop-link.link-index links), length-take c.loop-link.link-index links)

pub returns : goal.returns
unfolding filled
returns c =
    let links : List KeptLink = c.args.h.now.state.links in
    let i : ℕ = c.loop-link.link-index in
    let items : c.as_slice-link-items.result.now ≡ links = c.as_slice-link-items.ensures.links in
    let all : front_of c.args.h.now (take i links) ≡ header_fields c.args.h.now = front_of-all c.args.h.now i (omega (arith, c.loop-link-test.false, ap length items)) in
    let place : c.loop-link.place ≡ length (header_fields c.args.h.now) = c.loop-link.invariant.next ∙ ap length all in
    c.put_zeros.ensures ∙ ap (put_at c.loop-link.place (zero_bytes (480 - c.loop-link.place))) (c.loop-link.invariant.written ∙ ap (λ (b : List ℕ). put_at 0 b c.args.into.now) all)
    ∙ put_at-put_at 0 c.loop-link.place (header_fields c.args.h.now) (zero_bytes (480 - c.loop-link.place)) c.args.into.now (place ∙ omega arith) (omega arith)
    ∙ ap (λ (n : ℕ). put_at 0 (header_fields c.args.h.now ++ zero_bytes (480 - n)) c.args.into.now) place
