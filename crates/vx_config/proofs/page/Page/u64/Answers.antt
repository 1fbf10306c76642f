-- `u64`: its result.
use Rattle.std.proofs.Common.{ap, ◌∙◌, List, ℕ, refl}
use Rattle.vx_config.specs.Pages.{onto}
use Rattle.vx_config.proofs.PageLemmas.{put_at-whole}
use Rattle.vx_config.proofs.page.Page.u64.Goals as goal

pub returns : goal.returns
returns c = c.text.ensures ∙ ap (λ (t : List ℕ). onto c.args.self.now t) (c.put_u64.ensures ∙ put_at-whole 8 c.args.number _ refl)
