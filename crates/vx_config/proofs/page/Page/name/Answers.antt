-- `name`: its result.
use Rattle.std.proofs.Common.{ap, ◌∙◌, List, ◌∷◌, [], ℕ, length}
use Rattle.vx_config.specs.Pages.{onto}
use Rattle.vx_config.proofs.PageLemmas.{onto-onto}
use Rattle.vx_config.proofs.page.Page.name.Goals as goal

pub returns : goal.returns
returns c =
    let text : List ℕ = c.as_bytes-text.result.now in
    c.text.ensures ∙ ap (λ (front : List ℕ). onto front text) c.byte.ensures ∙ onto-onto c.args.self.now (length text ∷ []) text
    ∙ ap (λ (t : List ℕ). onto c.args.self.now (length t ∷ t)) c.as_bytes-text.ensures.bytes
