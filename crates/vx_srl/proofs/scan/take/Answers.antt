-- `take`: clauses has, stands and shown.
use Rattle.std.proofs.Common.{rules, sym, refl, ap, ◌≡◌, ℕ, List, ◌*◌, ◌∙◌, length, IsTrue, false}
use Rattle.vx_wire.specs.Seals.{digest_of}
use Rattle.vx_srl.proofs.ScanBodies.{body_shown, read_are_bodies, read_digest, read_stands}
use Rattle.vx_srl.proofs.scan.take.Goals as goal

pub returns-then-not-is_body-clause-has : goal.returns-then-not-is_body-clause-has
returns-then-not-is_body-clause-has g c = λ k r reads is genuine has.
    let size : length c.read_body.new.into ≡ 512 * c.args.head.count = c.in_ok-read_body.ensures.size ∙ (search rules) in
    let no : IsTrue false = c.if-not-is_body.ensures.1 (read_are_bodies c.args.ring k _ c.args.head c.read_body.new.into size (c.in_ok-read_body.ensures.shows k reads) r is genuine has) in
    absurd (cc)

pub returns-in-Whole-clause-stands : goal.returns-in-Whole-clause-stands
returns-in-Whole-clause-stands g c = λ k reads.
    let size : length c.read_body.new.into ≡ 512 * c.args.head.count = c.in_ok-read_body.ensures.size ∙ (search rules) in
    read_stands c.args.ring k _ c.args.head c.read_body.new.into size (c.in_ok-read_body.ensures.shows k reads) (c.if-not-is_body.ensures.0 refl) (c.in-Whole.ensures.is.1 ∙ ap (λ (x : List ℕ). digest_of x) c.in-Whole.ensures.is.0)

pub returns-in-Differs-clause-has : goal.returns-in-Differs-clause-has
returns-in-Differs-clause-has g c = λ k r reads is genuine has.
    let size : length c.read_body.new.into ≡ 512 * c.args.head.count = c.in_ok-read_body.ensures.size ∙ (search rules) in
    absurd (c.in-Differs.ensures.is.2 (c.in-Differs.ensures.is.0 ∙ read_digest c.args.ring k _ c.args.head c.read_body.new.into size (c.in_ok-read_body.ensures.shows k reads) r is genuine has ∙ sym c.in-Differs.ensures.is.1))

pub returns-in-Differs-clause-shown : goal.returns-in-Differs-clause-shown
returns-in-Differs-clause-shown g c = λ tells.
    let size : length c.read_body.new.into ≡ 512 * c.args.head.count = c.in_ok-read_body.ensures.size ∙ (search rules) in
    (refl, c.in-Differs.ensures.is.0, body_shown c.args.unit c.args.ring c.args.place c.args.head c.read_body.new.into _ c.in-Differs.computed size (c.in_ok-read_body.ensures.gave tells) c.in-Differs.ensures.is.1)
