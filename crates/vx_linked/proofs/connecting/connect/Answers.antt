-- `connect`: clauses done, world and silent; what `seat-here`, `seat-there` and `turn` ask.
use Rattle.std.proofs.Common.{◌≡◌, ◌∙◌, true, false, List, ap, sym, subst}
use Rattle.vx_history.specs.declared.sender.SEvent.TheVariants.{Connect}
use Rattle.vx_order.specs.declared.facts.SiteFacts.{SiteFacts}
use Rattle.vx_events.specs.Facts.{seat_of, site_number}
use Rattle.std.specs.Prelude.{Some}
use Rattle.vx_linked.specs.Greetings.{greeter}
use Rattle.vx_linked.proofs.Finding.{connect_tested, found, seat_found}
use Rattle.vx_linked.proofs.Greets.{greeted, greeter_there, numbered}
use Rattle.vx_linked.proofs.Moves.{connect_comes, tested_there, with_facts}
use Rattle.vx_linked.proofs.Shown.{get_at, number_is}
use Rattle.vx_linked.proofs.connecting.connect.Goals as goal

pub seat-here-requires : goal.seat-here-requires
seat-here-requires g c = record { named = seat_found c.args.sites.now c.args.from.now (connect_tested c.args.sites.now c.args.from.now c.args.to.now c.requires.free).known }

pub seat-there-requires : goal.seat-there-requires
seat-there-requires g c = record { named = seat_found c.args.sites.now c.args.to.now (connect_tested c.args.sites.now c.args.from.now c.args.to.now c.requires.free).other }

pub turn-requires : goal.turn-requires
turn-requires g c = record { found = found c.args.sites.now c.args.from.now c.args.to.now (connect_tested c.args.sites.now c.args.from.now c.args.to.now c.requires.free) }

pub returns-in_err-greet-clause-done : goal.returns-in_err-greet-clause-done
returns-in_err-greet-clause-done g c = λ fits.
    let sites = c.args.sites.now in
    let here = c.seat-here.result in
    let there = c.seat-there.result in
    let first = get_at sites here c.index-sites-here.result c.seat-here.ensures.within c.index-sites-here.is in
    let second = get_at sites there c.index-sites-there.result c.seat-there.ensures.within c.index-sites-there.is in
    let is = greeter_there sites c.args.from.now c.args.to.now here there c.index-sites-here.result c.index-sites-there.result c.seat-here.ensures.seat c.seat-there.ensures.seat first second ∙ sym c.find_greeter-rvg.ensures in
    let e : false ≡ true = c.in_err-greet.ensures.done (λ r some. fits r (is ∙ some)) in
    absurd (cc)

pub returns-clause-world : goal.returns-clause-world
returns-clause-world g c = λ w stands tells.
    let sites = c.args.sites.now in
    let from = c.args.from.now in
    let to = c.args.to.now in
    let here = c.seat-here.result in
    let there = c.seat-there.result in
    let tested = tested_there w sites from to stands.facts (connect_tested sites from to c.requires.free) in
    let first = get_at sites here c.index-sites-here.result c.seat-here.ensures.within c.index-sites-here.is in
    let second = get_at sites there c.index-sites-there.result c.seat-there.ensures.within c.index-sites-there.is in
    let is = c.find_greeter-rvg.ensures ∙ sym (greeter_there sites from to here there c.index-sites-here.result c.index-sites-there.result c.seat-here.ensures.seat c.seat-there.ensures.seat first second) in
    let a = number_is w from here (subst (λ (fs : List SiteFacts). seat_of fs from ≡ Some here) stands.facts c.seat-here.ensures.seat) in
    let b = number_is w to there (subst (λ (fs : List SiteFacts). seat_of fs to ≡ Some there) stands.facts c.seat-there.ensures.seat) in
    let f = g.N.Net.flying c.greet.new.flight in
    connect_comes w from to tested c.turn.new.sites f (with_facts w sites c.turn.new.sites Connect from to stands.facts c.turn.ensures)
    (greeted w from to tested c.args.session c.args.stored c.find_greeter-rvg.result f tells (is ∙ ap (λ (fs : List SiteFacts). greeter fs from to) stands.facts)
    (numbered w c.find_greeter-rvg.result here there (site_number w from) (site_number w to) c.args.session c.args.stored f a b (c.in_ok-greet.ensures.sends w.packets stands.flight)))

pub returns-clause-silent : goal.returns-clause-silent
returns-clause-silent g c = λ none.
    let sites = c.args.sites.now in
    let here = c.seat-here.result in
    let there = c.seat-there.result in
    let first = get_at sites here c.index-sites-here.result c.seat-here.ensures.within c.index-sites-here.is in
    let second = get_at sites there c.index-sites-there.result c.seat-there.ensures.within c.index-sites-there.is in
    c.greet.ensures.silent (c.find_greeter-rvg.ensures ∙ sym (greeter_there sites c.args.from.now c.args.to.now here there c.index-sites-here.result c.index-sites-there.result c.seat-here.ensures.seat c.seat-there.ensures.seat first second) ∙ none)
