-- Lines of links work at no site of a group, and make no replicated volume group.
use Rattle.std.proofs.Common.{◌≡◌, false, true, refl}
use Rattle.vx_history.specs.World.{World}
use Rattle.vx_script.specs.declared.line.ScriptLine.{ScriptLine}
use Rattle.vx_script.specs.declared.line.ScriptLine.TheVariants.{Connect, Cut, Link, Pause, Pump, Resume, Set, Tick, Wait}
use Rattle.vx_events.specs.RvgSteps.{MakesNoRvg, is_for_rvg}
use Rattle.vx_events.specs.StepsOver.{is_for_group}
use Rattle.vx_yard.specs.LinkLines.{is_on_links}

pub links_make_none : (line : ScriptLine) → is_on_links line ≡ true → MakesNoRvg line
links_make_none (Link p s sync prot) on = tt
links_make_none (Set p s sync prot) on = tt
links_make_none (Connect p s) on = tt
links_make_none (Cut p s) on = tt
links_make_none (Pause p s) on = tt
links_make_none (Resume p s) on = tt
links_make_none (Pump p s) on = tt
links_make_none (Tick p s) on = tt
links_make_none (Wait p number) on = tt
links_make_none other on = absurd (cc)

pub links_no_rvg : (w : World) (line : ScriptLine) → is_on_links line ≡ true → is_for_rvg w line ≡ false
links_no_rvg w (Link p s sync prot) on = refl
links_no_rvg w (Set p s sync prot) on = refl
links_no_rvg w (Connect p s) on = refl
links_no_rvg w (Cut p s) on = refl
links_no_rvg w (Pause p s) on = refl
links_no_rvg w (Resume p s) on = refl
links_no_rvg w (Pump p s) on = refl
links_no_rvg w (Tick p s) on = refl
links_no_rvg w (Wait p number) on = refl
links_no_rvg w other on = absurd (cc)

pub links_no_group : (w : World) (line : ScriptLine) → is_on_links line ≡ true → is_for_group w line ≡ false
links_no_group w (Link p s sync prot) on = refl
links_no_group w (Set p s sync prot) on = refl
links_no_group w (Connect p s) on = refl
links_no_group w (Cut p s) on = refl
links_no_group w (Pause p s) on = refl
links_no_group w (Resume p s) on = refl
links_no_group w (Pump p s) on = refl
links_no_group w (Tick p s) on = refl
links_no_group w (Wait p number) on = refl
links_no_group w other on = absurd (cc)
