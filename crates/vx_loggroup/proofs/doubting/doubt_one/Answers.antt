-- `doubt_one`: its clauses.
use Rattle.std.proofs.Common.{◌∙◌, sym}
use Rattle.std.proofs.lemmas.Bool.{both_ways}
use Rattle.vx_group.proofs.UnsureMarks.{marked_unsure}
use Rattle.vx_kept.specs.Cleans.{is_unsure}
use Rattle.vx_loggroup.proofs.doubting.doubt_one.Goals as goal

pub returns-then-is_alike-clause-here : goal.returns-then-is_alike-clause-here
returns-then-is_alike-clause-here c = λ off. sym c.is_alike.ensures ∙ c.if-is_alike.true

pub returns-then-is_alike-clause-more : goal.returns-then-is_alike-clause-more
returns-then-is_alike-clause-more c = λ v off. off

pub returns-clause-here : goal.returns-clause-here
returns-clause-here c = λ off. absurd (both_ways (is_unsure c.mark_unsure.new.unsure c.args.vol) off c.mark_unsure.ensures.here)

pub returns-clause-more : goal.returns-clause-more
returns-clause-more c = marked_unsure c.args.vol c.args.unsure.now c.mark_unsure.new.unsure c.mark_unsure.ensures
