-- `look`: clauses agrees, shown, stands, fits and spends; what `take` asks.
use Rattle.std.proofs.Common.{arith, inl, refl, subst, IsTrue, false}
use Rattle.vx_ringlog.specs.Chain.{block}
use Rattle.vx_ringlog.specs.Records.{era_of}
use Rattle.vx_ringio.specs.Reading.{SeesFront, ShowsFront, FrontCanSpell}
use Rattle.vx_srlfmt.specs.declared.record.Seen.{Seen}
use Rattle.vx_ringio.proofs.Following.{reads_stay}
use Rattle.vx_srl.proofs.ScanLooks.{damaged_agrees, other_agrees, passed_agrees, answer_agrees, answer_shown, answer_stands, answer_fits}
use Rattle.vx_disk.proofs.Spending.{then_spends}
use Rattle.vx_srl.proofs.scan.look.Goals.{then-not-may_follow-via-then-not-may_follow, then-not-may_follow-via-else-not-may_follow+then-head-left}
use Rattle.vx_srl.proofs.scan.look.Goals as goal

pub returns-in-Damaged-clause-agrees : goal.returns-in-Damaged-clause-agrees
returns-in-Damaged-clause-agrees g c = λ k rs reads scan fits.
    damaged_agrees c.args.ring k (era_of c.args.header.now) c.args.place c.args.number c.args.last rs _ _ _
    (subst (λ (s : Seen). ShowsFront s (k (block c.args.ring c.args.place))) c.in-Damaged.is (c.in_ok-head.ensures.shows k reads)) scan

pub returns-in-Damaged-clause-shown : goal.returns-in-Damaged-clause-shown
returns-in-Damaged-clause-shown g c = λ tells.
    inl (subst (λ (s : Seen). SeesFront c.args.unit (block c.args.ring c.args.place) (g.S.Shelf.meaning c.args.shelf.now) s) c.in-Damaged.is (c.in_ok-head.ensures.sees tells))

pub returns-in-Other-clause-agrees : goal.returns-in-Other-clause-agrees
returns-in-Other-clause-agrees g c = λ k rs reads scan fits.
    other_agrees c.args.ring k (era_of c.args.header.now) c.args.place c.args.number c.args.last rs
    (subst (λ (s : Seen). ShowsFront s (k (block c.args.ring c.args.place))) c.in-Other.is (c.in_ok-head.ensures.shows k reads)).0 scan

pub returns-then-not-may_follow-clause-agrees : goal.returns-then-not-may_follow-clause-agrees
returns-then-not-may_follow-clause-agrees g c = λ k rs reads scan fits.
    passed_agrees c.args.ring k (era_of c.args.header.now) c.args.place c.args.number c.args.last c.args.left rs c.in-Record.head
    (subst (λ (s : Seen). ShowsFront s (k (block c.args.ring c.args.place))) c.in-Record.is (c.in_ok-head.ensures.shows k reads))
    (λ may less. elim c.then-not-may_follow.branch [
      | then-not-may_follow-via-then-not-may_follow w ↦ (let no : IsTrue false = w.if-not-may_follow.ensures.1 may in cc)
      | then-not-may_follow-via-else-not-may_follow+then-head-left w ↦ omega (arith, less, w.if-head-left.true)
    ])
    scan fits

pub take-requires-clause-spell : goal.take-requires-clause-spell
take-requires-clause-spell g c = subst FrontCanSpell c.in-Record.is c.in_ok-head.ensures.spell

pub returns-clause-agrees : goal.returns-clause-agrees
returns-clause-agrees g c =
    answer_agrees c.args.unit c.args.ring _ (era_of c.args.header.now) c.args.place c.args.number c.args.last c.in-Record.head (c.if-not-may_follow.ensures.0 refl)
    (λ k reads. subst (λ (s : Seen). ShowsFront s (k (block c.args.ring c.args.place))) c.in-Record.is (c.in_ok-head.ensures.shows k reads))
    _ (λ k reads. reads_stay c.args.unit c.args.ring k _ _ c.read_front.ensures.goes c.in_ok-head.ensures.cause.after reads)
    c.args.left c.take.result c.take.ensures.has

pub returns-clause-stands : goal.returns-clause-stands
returns-clause-stands g c =
    answer_stands c.args.unit c.args.ring _ (era_of c.args.header.now) c.args.place c.args.number c.args.last c.in-Record.head (c.if-not-may_follow.ensures.0 refl)
    (λ k reads. subst (λ (s : Seen). ShowsFront s (k (block c.args.ring c.args.place))) c.in-Record.is (c.in_ok-head.ensures.shows k reads))
    _ (λ k reads. reads_stay c.args.unit c.args.ring k _ _ c.read_front.ensures.goes c.in_ok-head.ensures.cause.after reads)
    c.take.result c.take.ensures.stands c.take.ensures.taken

pub returns-clause-fits : goal.returns-clause-fits
returns-clause-fits g c =
    answer_fits c.args.left c.args.number c.in-Record.head c.take.result (subst FrontCanSpell c.in-Record.is c.in_ok-head.ensures.spell) (c.if-not-may_follow.ensures.0 refl).number c.if-head-left.false c.take.ensures.taken

pub returns-clause-shown : goal.returns-clause-shown
returns-clause-shown g c =
    answer_shown c.args.unit c.args.ring c.args.place c.in-Record.head (g.S.Shelf.meaning c.args.shelf.now) (g.S.Shelf.meaning c.read_front.new.shelf) c.read_front.ensures.goes c.in_ok-head.ensures.cause.after
    (λ tells. subst (λ (s : Seen). SeesFront c.args.unit (block c.args.ring c.args.place) (g.S.Shelf.meaning c.args.shelf.now) s) c.in-Record.is (c.in_ok-head.ensures.sees tells))
    c.take.result c.take.ensures.taken c.take.ensures.shown

pub returns-clause-spends : goal.returns-clause-spends
returns-clause-spends g c = then_spends _ _ _ c.read_front.ensures.spends c.take.ensures.spends
