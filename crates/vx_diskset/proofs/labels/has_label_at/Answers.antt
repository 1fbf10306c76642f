-- `has_label_at`: a read leaves the disks alone.
use Rattle.std.proofs.Common.{◌∙◌, ℕ, ap}
use Rattle.std.proofs.lemmas.List.{length-replicate}
use Rattle.std.specs.Prelude.{not}
use Rattle.vx_copyfmt.specs.Labels.{seen_in}
use Rattle.vx_diskset.proofs.LabelLemmas.{zero_read, zero_seen}
use Rattle.vx_diskset.proofs.labels.has_label_at.Goals.{in-Other, in_default}
use Rattle.vx_disk.proofs.Spending.{spends_read}
use Rattle.vx_diskset.proofs.labels.has_label_at.Goals as goal

pub returns-after-matches-clause-spends : goal.returns-after-matches-clause-spends
returns-after-matches-clause-spends g c = spends_read (g.R.Shelf.meaning c.args.rack.now) (g.R.Shelf.meaning c.read.new.self) c.read.ensures.goes c.read.ensures.down c.read.ensures.disks

pub returns-in-Err-clause-spends : goal.returns-in-Err-clause-spends
returns-in-Err-clause-spends g c = spends_read (g.R.Shelf.meaning c.args.rack.now) (g.R.Shelf.meaning c.read.new.self) c.read.ensures.goes c.read.ensures.down c.read.ensures.disks

pub returns-after-matches-clause-none : goal.returns-after-matches-clause-none
returns-after-matches-clause-none g c = λ tells keeps.
    let lawful = (g.met.R.Shelf g.world.𝓛 g.world.𝓜 g.world.𝓡 ((λ s x. x), (λ x. x), (λ x. x), λ x. x)).lawful in
    let zero = zero_read (g.R.Shelf.meaning c.args.rack.now) c.args.disk c.read.new.into (lawful c.args.rack.now) (c.read.auto.into ∙ length-replicate {A = ℕ} 512 0) tells keeps c.in-Ok.ensures.ok in
    let other = c.get_label.ensures ∙ ap (λ xs. seen_in xs) zero ∙ zero_seen in
    elim c.match-matches.branch [
      | in-Other w ↦ ap (λ b. not b) w.matches-is
      | in_default w ↦ absurd (w.in_default.not-Other other)
    ]
