-- `u8`: its result.
use Rattle.std.proofs.Common.{sym, ap, ◌∙◌, List, ℕ, arith}
use Rattle.vx_wire.proofs.NumberLemmas.{be_bytes-byte}
use Rattle.vx_config.specs.Pages.{onto}
use Rattle.vx_config.proofs.page.Page.u8.Goals as goal

pub returns : goal.returns
returns c = c.byte.ensures ∙ ap (λ (t : List ℕ). onto c.args.self.now t) (sym (be_bytes-byte c.args.number (omega arith)))
