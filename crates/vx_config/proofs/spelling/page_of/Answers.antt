-- `page_of`: its result.
use Rattle.std.proofs.Common.{◌∙◌}
use Rattle.vx_config.specs.Configs.{spelled_config}
use Rattle.vx_config.proofs.PageLemmas.{onto-nothing}
use Rattle.vx_config.proofs.spelling.page_of.Goals as goal

pub returns : goal.returns
returns c = c.cut_page.ensures ∙ onto-nothing (spelled_config c.args.config.now) c.requires.short
