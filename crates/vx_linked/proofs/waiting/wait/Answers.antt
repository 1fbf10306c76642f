-- `wait`: clauses said, world and facts; what `seat-here` asks.
use Rattle.std.proofs.Common.{◌≡◌, ◌∙◌, ap, sym}
use Rattle.vx_order.specs.declared.facts.SiteFacts.{SiteFacts}
use Rattle.vx_events.specs.Facts.{site_number}
use Rattle.vx_events.proofs.Places.{some_same}
use Rattle.vx_linked.specs.Waits.{wait_said}
use Rattle.vx_linked.proofs.Confirms.{wait_is, wait_named, wait_shows}
use Rattle.vx_linked.proofs.Finding.{seat_named}
use Rattle.vx_linked.proofs.Shown.{get_at}
use Rattle.vx_linked.proofs.waiting.wait.Goals as goal

pub seat-here-requires : goal.seat-here-requires
seat-here-requires c = record { named = wait_named c.args.sites.now c.args.from.now c.args.number c.requires.free }

pub returns-clause-said : goal.returns-clause-said
returns-clause-said c = λ site found.
    let sites = c.args.sites.now in
    let at = get_at sites c.seat-here.result c.index-sites-here.result c.seat-here.ensures.within c.index-sites-here.is in
    let same : c.index-sites-here.result ≡ site = some_same (sym at ∙ sym (seat_named sites c.args.from.now c.seat-here.result c.seat-here.ensures.seat) ∙ found) in
    c.answer.ensures ∙ ap (wait_said c.args.number) c.as_slice.ensures ∙ ap (λ (s : SiteFacts). wait_said c.args.number s.links) (sym c.index-sites-here.is ∙ same)

pub returns-clause-world : goal.returns-clause-world
returns-clause-world c = λ w is listed.
    let sites = c.args.sites.now in
    let at = get_at sites c.seat-here.result c.index-sites-here.result c.seat-here.ensures.within c.index-sites-here.is in
    c.answer.ensures ∙ ap (wait_said c.args.number) c.as_slice.ensures ∙ ap (λ (s : SiteFacts). wait_said c.args.number s.links) (sym c.index-sites-here.is)
    ∙ wait_is w sites c.args.from.now c.args.number c.index-sites-here.result is listed c.requires.free (seat_named sites c.args.from.now c.seat-here.result c.seat-here.ensures.seat ∙ at)

pub returns-clause-facts : goal.returns-clause-facts
returns-clause-facts c = λ w is. is ∙ wait_shows w (site_number w c.args.from.now) c.args.number
