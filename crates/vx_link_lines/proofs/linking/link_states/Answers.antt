-- The states that the headers keep are computed of the states and the links before the first part.
use Rattle.std.proofs.Common.{◌∙◌, ◌++◌, ◌∷◌, [], List, length, ap, arith}
use Rattle.std.proofs.lemmas.List.{length-map}
use Rattle.vx_model.specs.declared.link.Link.{Link as PlainLink}
use Rattle.vx_model.specs.declared.state.KeptLink.{KeptLink}
use Rattle.vx_order.specs.declared.facts.LinkFacts.{LinkFacts}
use Rattle.vx_diskset.specs.Holds.{beside_of}
use Rattle.vx_effects.specs.LinkParts.{kept_over}
use Rattle.vx_linked.specs.Making.{fresh_link, kept_plain, opened_link}
use Rattle.vx_link_lines.proofs.StatesAre.{states_are}
use Rattle.vx_link_lines.proofs.linking.link_states.Goals as goal

pub join_state-joined-requires-clause-first : goal.join_state-joined-requires-clause-first
join_state-joined-requires-clause-first g c = c.in-Some.ensures.spelled

pub join_state-joined-requires-clause-second : goal.join_state-joined-requires-clause-second
join_state-joined-requires-clause-second g c = c.in-Some-state.ensures.spelled

pub mark_state-marked-requires : goal.mark_state-marked-requires
mark_state-marked-requires g c = record { state = c.join_state-joined.ensures.spell }

pub kept_further-further-requires : goal.kept_further-further-requires
kept_further-further-requires g c = record { room = omega (arith, c.in-Some-kept_facts.ensures.few) }

pub kept_with-over-requires : goal.kept_with-over-requires
kept_with-over-requires g c = record { few = omega (arith, c.as_slice.ensures.few, ap (λ (ls : List KeptLink). length ls) c.as_slice.ensures.links) }

pub with_links-requires : goal.with_links-requires
with_links-requires g c = record { state = c.in-Some.ensures.spelled }

pub with_links-requires-2 : goal.with_links-requires-2
with_links-requires-2 g c = record { state = c.in-Some.ensures.spelled }

pub returns-clause-spelled : goal.returns-clause-spelled
returns-clause-spelled g c = record {
  joined = c.join_state-joined.ensures.spell;
  made = c.in-Some-with_links.ensures.spell;
  marked = c.mark_state-marked.ensures.spell;
  opened = c.in-Some-with_links-2.ensures.spell;
}

pub returns-clause-few : goal.returns-clause-few
returns-clause-few g c =
    let many = length-map c.args.links.now (λ (l : LinkFacts). kept_plain l.link) in
    omega (arith, c.in-Some-kept_facts.ensures.few, ap (λ (ls : List KeptLink). length ls) c.in-Some-kept_facts.ensures.links, many)

pub returns-clause-is : goal.returns-clause-is
returns-clause-is g c = λ d stood stood_too alone alone_too up runs up_too links.
    let p = c.args.here in
    let s = c.args.there in
    let kept = c.in-Some-kept_facts.kept in
    let session = c.session-session.result in
    let last = c.last-last.result in
    states_are d.world p s c.args.sync c.in-Some.state.now c.in-Some-state.other.now c.join_state-joined.result c.in-Some-with_links.made c.mark_state-marked.result c.in-Some-with_links-2.open session last kept
    c.kept_further-further.result c.kept_with-over.result (c.in-Some.ensures.is (beside_of d p) (d.world.nodes p) stood up alone).0 (c.in-Some-state.ensures.is (beside_of d s) (d.world.nodes s) stood_too up_too alone_too).0
    (c.in-Some-kept_facts.ensures.world d.world p links) (c.kept_further-further.ensures.links ∙ ap (λ (l : PlainLink). kept ++ kept_plain l ∷ []) c.new_link-link.ensures)
    (c.kept_with-over.ensures.links
    ∙ ap (λ (l : PlainLink). kept_over (kept_plain l) c.as_slice.result.now) (c.opened-log_link.ensures ∙ ap (λ (l : PlainLink). opened_link l last) c.new_link-link.ensures)
    ∙ ap (λ (ls : List KeptLink). kept_over (kept_plain (opened_link (fresh_link s c.args.sync session) last)) ls) c.as_slice.ensures.links)
    c.join_state-joined.ensures.is c.mark_state-marked.ensures.is c.in-Some-with_links.ensures.is c.in-Some-with_links-2.ensures.is (c.session-session.ensures.is (beside_of d s) (d.world.nodes s) stood_too up_too alone_too)
    (c.last-last.ensures.is (beside_of d p) (d.world.nodes p) stood up runs)
