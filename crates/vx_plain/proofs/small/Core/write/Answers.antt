-- `write`: its result.
use Rattle.std.proofs.Common.{rules, ◌≡◌, ◌<◌, ◌≤◌, ◌+◌, true, false, refl, inl, inr, arith, sym, subst, length}
use Rattle.vx_model.specs.Content.{blocks_in}
use Rattle.vx_model.specs.declared.call.Call.TheVariants.{Write as WriteBlocks}
use Rattle.vx_model.specs.declared.call.Reply.TheVariants.{Logged}
use Rattle.vx_turn.specs.declared.ask.Ask.TheVariants.{Ordered}
use Rattle.vx_turn.specs.declared.ask.Said.TheVariants.{Replied}
use Rattle.vx_plain.specs.declared.small.TheConstants.{VOLUME_BLOCKS}
use Rattle.vx_plain.specs.Logging.{Does, Grew}
use Rattle.vx_plain.proofs.Logged.{write-range, write-held, write-logged}
use Rattle.vx_plain.proofs.small.Core.write.Goals as goal
use Rattle.vx_plain.proofs.small.Core.write.Goals.{then-vol-ne0-via-then-vol-ne0, then-vol-ne0-via-else-vol-ne0+then-start-count}

pub returns-then-vol-ne0 : goal.returns-then-vol-ne0
returns-then-vol-ne0 c = let n = c.count_of-count.ensures.0 in let s = c.count_of-count.ensures.1 in let f = c.count_of-count.ensures.2 in
    let some : 0 < blocks_in c.args.bytes.now = omega (arith, n, s) in let few : blocks_in c.args.bytes.now ≤ 16 = omega (arith, n, f) in
    elim c.then-vol-ne0.branch [
      | then-vol-ne0-via-then-vol-ne0 w ↦ (let far : 0 < c.args.vol = search rules in write-range c.args.self.now c.args.vol c.args.start c.args.bytes.now (inl far) some few)
      | then-vol-ne0-via-else-vol-ne0+then-start-count w ↦ (let t = w.if-start-count in let over : VOLUME_BLOCKS < c.args.start + blocks_in c.args.bytes.now = omega (arith, t, n, f) in
          write-range c.args.self.now c.args.vol c.args.start c.args.bytes.now (inr over) some few)
    ]

pub returns-in-Some : goal.returns-in-Some
returns-in-Some c = let n = c.count_of-count.ensures.0 in let s = c.count_of-count.ensures.1 in let f = c.count_of-count.ensures.2 in
    let is : c.args.vol ≡ 0 = search rules in let t = c.if-start-count.false in let within : c.args.start + blocks_in c.args.bytes.now ≤ VOLUME_BLOCKS = omega (arith, t, n, f) in
    write-held c.args.self.now c.args.self.now c.held_by.new.self c.args.vol c.args.start c.args.bytes.now c.held_by.result is within (omega (arith, n, s)) (omega (arith, n, f)) refl refl refl refl c.held_by.ensures

pub returns-then-not-put : goal.returns-then-not-put
returns-then-not-put c = let n = c.count_of-count.ensures.0 in let s = c.count_of-count.ensures.1 in let f = c.count_of-count.ensures.2 in
    let is : c.args.vol ≡ 0 = search rules in let t = c.if-start-count.false in let within : c.args.start + blocks_in c.args.bytes.now ≤ VOLUME_BLOCKS = omega (arith, t, n, f) in
    let no : c.put.result ≡ false = search rules in
    let same = subst (λ b. Grew c.args.self.now.slips.items (record { vol = c.args.vol; start = c.args.start; bytes = c.args.bytes.now }) b c.put.new.all.items) no c.put.ensures in
    write-held c.args.self.now (record c.args.self.now { slips = c.put.new.all }) c.held_by-then-not-put.new.self c.args.vol c.args.start c.args.bytes.now c.held_by-then-not-put.result is within (omega (arith, n, s)) (omega (arith, n, f)) same refl refl refl
    c.held_by-then-not-put.ensures

pub returns : goal.returns
returns c = let n = c.count_of-count.ensures.0 in let s = c.count_of-count.ensures.1 in let f = c.count_of-count.ensures.2 in
    let is : c.args.vol ≡ 0 = search rules in let t = c.if-start-count.false in let within : c.args.start + blocks_in c.args.bytes.now ≤ VOLUME_BLOCKS = omega (arith, t, n, f) in
    let yes : c.put.result ≡ true = search rules in let long : c.len.result ≡ length c.put.new.all.items = search rules in
    let more = subst (λ b. Grew c.args.self.now.slips.items (record { vol = c.args.vol; start = c.args.start; bytes = c.args.bytes.now }) b c.put.new.all.items) yes c.put.ensures in
    subst (λ k. Does c.args.self.now (Ordered (WriteBlocks c.args.vol c.args.start c.args.bytes.now)) (Replied (Logged k)) (record c.args.self.now { slips = c.put.new.all })) (sym long)
    (write-logged c.args.self.now (record c.args.self.now { slips = c.put.new.all }) c.args.vol c.args.start c.args.bytes.now is within (omega (arith, n, s)) (omega (arith, n, f)) more refl refl refl)
