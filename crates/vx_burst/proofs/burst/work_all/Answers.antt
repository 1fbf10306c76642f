-- `work_all`: its result; what `join_all-left` and `ask_rest` ask.
use Rattle.std.proofs.Common.{rules, ◌≡◌, ◌∙◌, ◌+◌, sym, ap, subst, length, List}
use Rattle.vx_turn.specs.Passing.{table_of, first_engine, AreDealt}
use Rattle.vx_settle.specs.Bringing.{HaveLinks}
use Rattle.vx_burst_threads.specs.declared.plan.Answered.{Answered}
use Rattle.vx_burst.specs.Setting.{AreBlank}
use Rattle.vx_burst.specs.Placing.{Renumbered}
use Rattle.vx_burst.specs.Finishing.{BurstStage, WaitsOn, unplaced}
use Rattle.vx_burst.proofs.Rans.{joined-stages, stage-links, ran, ran-back, overwritten}
use Rattle.vx_burst.proofs.burst.work_all.Goals as goal

pub join_all-left-requires-clause-dealt : goal.join_all-left-requires-clause-dealt
join_all-left-requires-clause-dealt g c κs within = let e : length c.args.peers.items ≡ c.len.result = search rules in
    subst (λ n. AreDealt (table_of c.args.turn) (g.E.Engine.state (first_engine c.args.turn).inner) (c.args.threads + n + 1) (c.args.threads + n + 1) c.args.passes) e c.requires.dealt

pub ask_rest-requires-clause-links : goal.ask_rest-requires-clause-links
ask_rest-requires-clause-links g c κs within =
    let size : length c.join_all-left.new.answers ≡ c.args.room.answers.len = search rules in
    let back : c.as_mut_slice-2.result.now ≡ c.join_all-left.new.answers = c.as_mut_slice-2.ensures.value ∙ overwritten c.args.room.answers.len c.join_all-left.new.answers _ size in
    let s = joined-stages g.P.Peer.stand g.P.Peer.root _ _ (first_engine c.args.turn) (table_of c.args.turn) _ c.args.plan.now c.args.peers.items c.as_mut_slice.result.now _ c.join_all-left.result.peers.items
    c.join_all-left.new.answers c.renumber-taken.new.answers c.renumber-taken.result c.join_all-left.ensures
    (subst AreBlank (sym c.as_mut_slice.ensures.value) c.requires.room.blank) (ap (λ l. length l) c.as_mut_slice.ensures.value ∙ c.requires.room.long)
    (subst (λ l. Renumbered l c.renumber-taken.new.answers c.renumber-taken.result) back c.renumber-taken.ensures) in
    subst (λ l. HaveLinks g.P.Peer.stand (g.E.Engine.state c.join_all-left.result.engine.inner) l) (sym c.as_mut_slice-3.ensures.value)
    (stage-links g.P.Peer.stand g.P.Peer.root (g.E.Engine.state (first_engine c.args.turn).inner) c.args.peers.items c.args.plan.now s.0 (g.E.Engine.state c.join_all-left.result.engine.inner) c.join_all-left.result.peers.items
    c.renumber-taken.new.answers c.renumber-taken.result s.1 s.2 c.requires.links)

pub ask_rest-requires-clause-rest : goal.ask_rest-requires-clause-rest
ask_rest-requires-clause-rest g c κs within =
    let size : length c.join_all-left.new.answers ≡ c.args.room.answers.len = search rules in
    let back : c.as_mut_slice-2.result.now ≡ c.join_all-left.new.answers = c.as_mut_slice-2.ensures.value ∙ overwritten c.args.room.answers.len c.join_all-left.new.answers _ size in
    let s = joined-stages g.P.Peer.stand g.P.Peer.root _ _ (first_engine c.args.turn) (table_of c.args.turn) _ c.args.plan.now c.args.peers.items c.as_mut_slice.result.now _ c.join_all-left.result.peers.items
    c.join_all-left.new.answers c.renumber-taken.new.answers c.renumber-taken.result c.join_all-left.ensures
    (subst AreBlank (sym c.as_mut_slice.ensures.value) c.requires.room.blank) (ap (λ l. length l) c.as_mut_slice.ensures.value ∙ c.requires.room.long)
    (subst (λ l. Renumbered l c.renumber-taken.new.answers c.renumber-taken.result) back c.renumber-taken.ensures) in
    let many : length c.renumber-taken.new.answers ≡ c.args.room.answers.len = search rules in
    let them : c.as_mut_slice-4.result.now ≡ c.renumber-taken.new.answers = c.as_mut_slice-4.ensures.value ∙ overwritten c.args.room.answers.len c.renumber-taken.new.answers _ many in
    subst (λ l. c.renumber-taken.result + unplaced l ≡ length c.args.plan.now) (sym them) s.2.rest

pub wait_all-requires-after_bounds : goal.wait_all-requires-after_bounds
wait_all-requires-after_bounds g c κs within =
    let size : length c.ask_rest.new.peers ≡ c.join_all-left.result.peers.len = search rules in
    let same : c.as_mut_slice-5.result.now ≡ c.ask_rest.new.peers = c.as_mut_slice-5.ensures.value ∙ overwritten c.join_all-left.result.peers.len c.ask_rest.new.peers _ size in
    subst (λ l. HaveLinks g.P.Peer.stand (g.E.Engine.state c.ask_rest.new.engine) l) (sym same) c.ask_rest.ensures.links

pub returns : goal.returns
returns g c =
    let size : length c.join_all-left.new.answers ≡ c.args.room.answers.len = search rules in
    let back : c.as_mut_slice-2.result.now ≡ c.join_all-left.new.answers = c.as_mut_slice-2.ensures.value ∙ overwritten c.args.room.answers.len c.join_all-left.new.answers _ size in
    let s = joined-stages g.P.Peer.stand g.P.Peer.root _ _ (first_engine c.args.turn) (table_of c.args.turn) _ c.args.plan.now c.args.peers.items c.as_mut_slice.result.now _ c.join_all-left.result.peers.items
    c.join_all-left.new.answers c.renumber-taken.new.answers c.renumber-taken.result c.join_all-left.ensures
    (subst AreBlank (sym c.as_mut_slice.ensures.value) c.requires.room.blank) (ap (λ l. length l) c.as_mut_slice.ensures.value ∙ c.requires.room.long)
    (subst (λ l. Renumbered l c.renumber-taken.new.answers c.renumber-taken.result) back c.renumber-taken.ensures) in
    let many : length c.renumber-taken.new.answers ≡ c.args.room.answers.len = search rules in
    let them : c.as_mut_slice-4.result.now ≡ c.renumber-taken.new.answers = c.as_mut_slice-4.ensures.value ∙ overwritten c.args.room.answers.len c.renumber-taken.new.answers _ many in
    let st = g.E.Engine.state in
    let old : c.as_mut_slice-3.result.now ≡ c.join_all-left.result.peers.items = c.as_mut_slice-3.ensures.value in
    let size3 : length c.ask_rest.new.peers ≡ c.join_all-left.result.peers.len = search rules in
    let mid : c.as_mut_slice-5.result.now ≡ c.ask_rest.new.peers = c.as_mut_slice-5.ensures.value ∙ overwritten c.join_all-left.result.peers.len c.ask_rest.new.peers _ size3 in
    let size4 : length c.ask_rest.new.answers ≡ c.args.room.answers.len = search rules in
    let asked : c.as_mut_slice-6.result.now ≡ c.ask_rest.new.answers = c.as_mut_slice-6.ensures.value ∙ overwritten c.args.room.answers.len c.ask_rest.new.answers _ size4 in
    let size5 : length c.wait_all.new.peers ≡ c.join_all-left.result.peers.len = search rules in
    let size6 : length c.wait_all.new.answers ≡ c.args.room.answers.len = search rules in
    let stage = subst (λ (x : List g.row.P.Denot × List Answered). BurstStage g.P.Peer.stand g.P.Peer.root (st (first_engine c.args.turn).inner) c.args.peers.items c.args.plan.now s.0 (st c.join_all-left.result.engine.inner) x.0 x.1 c.renumber-taken.result s.1)
    (λ i. (sym old i, sym them i)) s.2 in
    let waits = subst (λ (x : List g.row.P.Denot × List Answered). WaitsOn g.P.Peer.stand g.P.Peer.root (st c.ask_rest.new.engine) x.0 x.1 (length x.1) (st c.wait_all.new.engine) c.wait_all.new.peers c.wait_all.new.answers)
    (λ i. (mid i, asked i)) c.wait_all.ensures.waits in
    let whole = ran g.P.Peer.stand g.P.Peer.root st g.E.Engine.root c.args.plan.now (first_engine c.args.turn).inner c.args.peers.items s.0 s.1 (st c.join_all-left.result.engine.inner) c.as_mut_slice-3.result.now c.as_mut_slice-4.result.now
    c.renumber-taken.result (st c.ask_rest.new.engine) c.ask_rest.new.peers c.ask_rest.new.answers c.ask_rest.result c.wait_all.new.engine c.wait_all.new.peers c.wait_all.new.answers
    stage c.ask_rest.ensures.stages c.ask_rest.ensures.placed waits
    (c.wait_all.ensures.root ∙ (c.ask_rest.ensures.root ∙ ap (λ e. e.inner) c.join_all-left.ensures.closes.rooted)) in
    ran-back g.P.Peer.stand g.P.Peer.root st g.E.Engine.root c.args.plan.now (first_engine c.args.turn).inner c.args.peers.items c.wait_all.new.engine c.join_all-left.result.peers.len c.args.room.answers.len
    c.wait_all.new.peers _ c.wait_all.new.answers _ size5 size6 whole
