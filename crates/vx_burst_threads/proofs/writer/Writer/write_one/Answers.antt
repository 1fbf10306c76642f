-- `write_one`: its result.
use Rattle.std.proofs.Common.{rules, ◌≡◌, true, ◌∷◌, ◌++◌, [], ap, ◌∙◌, refl}
use Rattle.std.specs.Bool.{if◌then◌else◌}
use Rattle.std.specs.Result.{is_ok}
use Rattle.vx_burst_threads.proofs.Making.{goes-made}
use Rattle.vx_burst_threads.proofs.writer.Writer.write_one.Goals as goal

pub returns-else-is_err : goal.returns-else-is_err
returns-else-is_err g c =
    let ok : is_ok c.push.result ≡ true = search rules in
    let items : c.push.new.self.items ≡ c.args.self.now.made.items ++ c.in-Some.made ∷ [] = c.push.ensures.items ∙ ap (λ b. if b then c.args.self.now.made.items ++ c.in-Some.made ∷ [] else c.args.self.now.made.items) ok in
    let own : c.args.planned.now.thread ≡ c.args.self.now.thread = search rules in
    goes-made c.args.planned.now c.args.at c.args.self.now (record { thread = c.args.self.now.thread; pass = c.ask.new.pass; made = c.push.new.self }) c.in-Some.made c.ask.result c.in-Some.is c.ask.ensures own refl c.push.ensures.capacity items
