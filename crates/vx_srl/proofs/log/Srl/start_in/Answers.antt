-- `start_in`: clauses starts, moves, limit and spends.
use Rattle.std.proofs.Common.{◌≡◌, ◌∙◌, ◌+◌, ℕ, subst, ap}
use Rattle.vx_disk.specs.Moves.{Moves, Run}
use Rattle.vx_disk.specs.Shelf.{Goes, Nothing}
use Rattle.vx_disk.proofs.Runs.{then_nothing}
use Rattle.vx_model.specs.Sizes.{ring_of}
use Rattle.vx_srl.specs.Starts.{LogStartCause, Restarting, IsStartedLog, LogSpace}
use Rattle.vx_srl.proofs.StartCauses.{fronts_before, limit_since, no_header_cause, scan_cause, take_over_cause}
use Rattle.vx_srl.proofs.StartLogs.{rests, header_left, scans_left, goes_over, is_started}
use Rattle.vx_ringio.proofs.Aside.{aside_reads_since}
use Rattle.vx_disk.proofs.Spending.{then_spends}
use Rattle.vx_srl.proofs.log.Srl.start_in.Goals as goal

pub returns-in-Err-clause-starts : goal.returns-in-Err-clause-starts
returns-in-Err-clause-starts g c =
    let ring_is : c.room.inside.ring ≡ ring_of ((g.S.Shelf.meaning c.args.shelf.now).size c.args.unit) = ap (λ (r : LogSpace). r.ring) c.room.view_is ∙ c.requires.room in
    subst (λ (r : ℕ). LogStartCause c.args.unit r (g.S.Shelf.meaning c.args.shelf.now) (g.S.Shelf.meaning c.find_header.new.shelf) c.in-Err.no) ring_is
    (no_header_cause c.args.unit (c.room.inside.ring) (g.S.Shelf.meaning c.args.shelf.now) (g.S.Shelf.meaning c.find_header.new.shelf) (g.met.S.Shelf.lawful c.args.shelf.now) c.in-Err.no c.in-Err.ensures.cause)

pub returns-in-Err-clause-moves : goal.returns-in-Err-clause-moves
returns-in-Err-clause-moves g c =
    rests c.args.unit (ring_of ((g.S.Shelf.meaning c.args.shelf.now).size c.args.unit)) _ (g.met.S.Shelf.lawful c.args.shelf.now) _ c.find_header.ensures.goes

pub returns-in-Err-scan-clause-starts : goal.returns-in-Err-scan-clause-starts
returns-in-Err-scan-clause-starts g c =
    let ring_is : c.room.inside.ring ≡ ring_of ((g.S.Shelf.meaning c.args.shelf.now).size c.args.unit) = ap (λ (r : LogSpace). r.ring) c.room.view_is ∙ c.requires.room in
    subst (λ (r : ℕ). LogStartCause c.args.unit r (g.S.Shelf.meaning c.args.shelf.now) (g.S.Shelf.meaning c.scan.new.shelf) c.in-Err-scan.no) ring_is
    (scan_cause c.args.unit (c.room.inside.ring) c.in-Ok.standing.header (g.S.Shelf.meaning c.args.shelf.now) (g.S.Shelf.meaning c.find_header.new.shelf) (g.S.Shelf.meaning c.scan.new.shelf) c.find_header.ensures.goes c.in-Ok.ensures.up
    (λ h rs left. scans_left c.args.unit (c.room.inside.ring) c.in-Ok.standing _ (g.met.S.Shelf.lawful c.args.shelf.now) c.in-Ok.ensures.found _ c.find_header.ensures.goes c.in-Ok.ensures.up h rs left)
    c.in-Err-scan.no c.in-Err-scan.ensures.cause)

pub returns-in-Err-scan-clause-moves : goal.returns-in-Err-scan-clause-moves
returns-in-Err-scan-clause-moves g c =
    rests c.args.unit (ring_of ((g.S.Shelf.meaning c.args.shelf.now).size c.args.unit)) _ (g.met.S.Shelf.lawful c.args.shelf.now) _
    (then_nothing Nothing _ _ _ c.find_header.ensures.goes c.scan.ensures.goes)

pub returns-in-Ok-take_over-clause-starts : goal.returns-in-Ok-take_over-clause-starts
returns-in-Ok-take_over-clause-starts g c =
    let ring_is : c.room.inside.ring ≡ ring_of ((g.S.Shelf.meaning c.args.shelf.now).size c.args.unit) = ap (λ (r : LogSpace). r.ring) c.room.view_is ∙ c.requires.room in
    let goes : Goes Nothing (g.S.Shelf.meaning c.args.shelf.now) (g.S.Shelf.meaning c.scan.new.shelf) = then_nothing Nothing _ _ _ c.find_header.ensures.goes c.scan.ensures.goes in (
      subst (λ (r : ℕ). IsStartedLog c.args.unit r c.made.result (g.S.Shelf.meaning c.args.shelf.now) (g.S.Shelf.meaning c.take_over.new.shelf)) ring_is
          (is_started c.args.unit (c.room.inside.ring) c.in-Ok.standing _ (g.met.S.Shelf.lawful c.args.shelf.now) c.in-Ok.ensures.found _ (g.met.S.Shelf.lawful c.scan.new.shelf) goes _ c.scan.new.records.items
          (λ rs h left. c.in-Ok-scan.ensures.finds rs
          (scans_left c.args.unit (c.room.inside.ring) c.in-Ok.standing _ (g.met.S.Shelf.lawful c.args.shelf.now) c.in-Ok.ensures.found _ c.find_header.ensures.goes c.in-Ok.ensures.up h rs left))
          (fronts_before c.args.unit (c.room.inside.ring) c.scan.new.records.items (g.S.Shelf.meaning c.args.shelf.now) (g.S.Shelf.meaning c.find_header.new.shelf) c.find_header.ensures.goes c.in-Ok.ensures.up c.in-Ok-scan.ensures.fronts)
          (aside_reads_since c.args.unit (g.S.Shelf.meaning c.args.shelf.now) (g.S.Shelf.meaning c.scan.new.shelf) (g.S.Shelf.meaning c.take_over.new.shelf) goes c.take_over.ensures.aside c.in-Ok-take_over.ensures.up)
          c.in-Ok-take_over.ensures.arrives c.in-Ok-take_over.header c.made.result c.in-Ok-take_over.ensures.header c.made.ensures),
      c.in-Ok-take_over.ensures.up,
    )

pub returns-in-Ok-take_over-clause-moves : goal.returns-in-Ok-take_over-clause-moves
returns-in-Ok-take_over-clause-moves g c =
    let ring_is : c.room.inside.ring ≡ ring_of ((g.S.Shelf.meaning c.args.shelf.now).size c.args.unit) = ap (λ (r : LogSpace). r.ring) c.room.view_is ∙ c.requires.room in
    let goes : Goes Nothing (g.S.Shelf.meaning c.args.shelf.now) (g.S.Shelf.meaning c.scan.new.shelf) = then_nothing Nothing _ _ _ c.find_header.ensures.goes c.scan.ensures.goes in
    subst (λ (r : ℕ). Moves (Run c.args.unit 0 (r + 2)) (Restarting c.args.unit r (g.S.Shelf.meaning c.args.shelf.now)) (g.S.Shelf.meaning c.args.shelf.now) (g.S.Shelf.meaning c.take_over.new.shelf)) ring_is
    (goes_over c.args.unit (c.room.inside.ring) c.in-Ok.standing _ (g.met.S.Shelf.lawful c.args.shelf.now) c.in-Ok.ensures.found _ (g.met.S.Shelf.lawful c.scan.new.shelf) goes _ c.take_over.ensures.follows)

pub returns-in-Err-take_over-clause-starts : goal.returns-in-Err-take_over-clause-starts
returns-in-Err-take_over-clause-starts g c =
    let ring_is : c.room.inside.ring ≡ ring_of ((g.S.Shelf.meaning c.args.shelf.now).size c.args.unit) = ap (λ (r : LogSpace). r.ring) c.room.view_is ∙ c.requires.room in
    let goes : Goes Nothing (g.S.Shelf.meaning c.args.shelf.now) (g.S.Shelf.meaning c.scan.new.shelf) = then_nothing Nothing _ _ _ c.find_header.ensures.goes c.scan.ensures.goes in
    subst (λ (r : ℕ). LogStartCause c.args.unit r (g.S.Shelf.meaning c.args.shelf.now) (g.S.Shelf.meaning c.take_over.new.shelf) c.in-Err-take_over.no) ring_is
    (take_over_cause c.args.unit (c.room.inside.ring) c.in-Ok.standing.header (g.S.Shelf.meaning c.args.shelf.now) (g.S.Shelf.meaning c.scan.new.shelf) (g.S.Shelf.meaning c.take_over.new.shelf) goes
    (λ h rs left. header_left c.args.unit (c.room.inside.ring) c.in-Ok.standing _ (g.met.S.Shelf.lawful c.args.shelf.now) c.in-Ok.ensures.found h rs left)
    c.in-Err-take_over.no c.in-Err-take_over.ensures.cause)

pub returns-in-Err-take_over-clause-moves : goal.returns-in-Err-take_over-clause-moves
returns-in-Err-take_over-clause-moves g c =
    let ring_is : c.room.inside.ring ≡ ring_of ((g.S.Shelf.meaning c.args.shelf.now).size c.args.unit) = ap (λ (r : LogSpace). r.ring) c.room.view_is ∙ c.requires.room in
    let goes : Goes Nothing (g.S.Shelf.meaning c.args.shelf.now) (g.S.Shelf.meaning c.scan.new.shelf) = then_nothing Nothing _ _ _ c.find_header.ensures.goes c.scan.ensures.goes in
    subst (λ (r : ℕ). Moves (Run c.args.unit 0 (r + 2)) (Restarting c.args.unit r (g.S.Shelf.meaning c.args.shelf.now)) (g.S.Shelf.meaning c.args.shelf.now) (g.S.Shelf.meaning c.take_over.new.shelf)) ring_is
    (goes_over c.args.unit (c.room.inside.ring) c.in-Ok.standing _ (g.met.S.Shelf.lawful c.args.shelf.now) c.in-Ok.ensures.found _ (g.met.S.Shelf.lawful c.scan.new.shelf) goes _ c.take_over.ensures.follows)

pub returns-in-Err-take_over-clause-limit : goal.returns-in-Err-take_over-clause-limit
returns-in-Err-take_over-clause-limit g c =
    limit_since _ _ _ (then_nothing Nothing _ _ _ c.find_header.ensures.goes c.scan.ensures.goes) c.in-Err-take_over.no c.in-Err-take_over.ensures.limit

pub returns-in-Err-scan-clause-spends : goal.returns-in-Err-scan-clause-spends
returns-in-Err-scan-clause-spends g c = then_spends _ _ _ c.find_header.ensures.spends c.scan.ensures.spends

pub returns-in-Ok-take_over-clause-spends : goal.returns-in-Ok-take_over-clause-spends
returns-in-Ok-take_over-clause-spends g c = then_spends _ _ _ (then_spends _ _ _ c.find_header.ensures.spends c.scan.ensures.spends) c.take_over.ensures.spends

pub returns-in-Err-take_over-clause-spends : goal.returns-in-Err-take_over-clause-spends
returns-in-Err-take_over-clause-spends g c = then_spends _ _ _ (then_spends _ _ _ c.find_header.ensures.spends c.scan.ensures.spends) c.take_over.ensures.spends
