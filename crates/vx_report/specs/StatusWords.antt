-- The words of a status for each state of a site, a group, a volume and a link.
use Rattle.std.specs.Prelude.{ℕ, List, ◌∷◌, ◌++◌, codes}
use Rattle.std.specs.Fmt.{decimal}
use Rattle.vx_model.specs.declared.link.Mode.{Mode}
use Rattle.vx_model.specs.declared.link.Mode.TheVariants.{Log, Dcm, Replay, Fork, Stale}
use Rattle.vx_model.specs.declared.link.Phase.{Phase}
use Rattle.vx_model.specs.declared.link.Phase.TheVariants.{Start, Regions, Done, Log as LastPhase}
use Rattle.vx_model.specs.declared.site.Role.{Role}
use Rattle.vx_model.specs.declared.site.Role.TheVariants.{Primary, Secondary, Handing, Bunker}
use Rattle.vx_model.specs.declared.site.Mark.{Mark}
use Rattle.vx_model.specs.declared.site.Mark.TheVariants.{Consistent, Inconsistent}
use Rattle.vx_model.specs.declared.site.PlexState.{PlexState}
use Rattle.vx_model.specs.declared.site.PlexState.TheVariants.{Active, Clean, Stale as StalePlex}
use Rattle.vx_model.specs.declared.site.SiteState.{SiteState}
use Rattle.vx_model.specs.declared.site.SiteState.TheVariants.{Bare, Up, Deported, Down}

-- how a site stands
abbrev pub state_text : SiteState → List ℕ
state_text Bare = codes "bare"
state_text Up = codes "up"
state_text Deported = codes "deported"
state_text Down = codes "down"

-- what part a site has
abbrev pub role_text : Role → List ℕ
role_text Primary = codes "primary"
role_text Secondary = codes "secondary"
role_text (Handing to) = codes "handing"
role_text Bunker = codes "bunker"

-- the mark of a site
abbrev pub mark_text : Mark → List ℕ
mark_text Consistent = codes "consistent"
mark_text Inconsistent = codes "inconsistent"

-- the state of a plex
abbrev pub plex_state_text : PlexState → List ℕ
plex_state_text Active = codes "ACTIVE"
plex_state_text Clean = codes "CLEAN"
plex_state_text StalePlex = codes "STALE"

-- how far a replay is
abbrev pub phase_text : Phase → List ℕ
phase_text Start = codes "start"
phase_text Regions = codes "regions"
phase_text Done = codes "done"
phase_text LastPhase = codes "log"

-- the mode of a link whose map marks so many regions
abbrev pub mode_text : Mode → ℕ → List ℕ
mode_text Log marked = codes "log"
mode_text Dcm marked = codes "dcm " ++ decimal marked
mode_text (Replay id phase left start end) marked = codes "replay " ++ phase_text phase ++ 32 ∷ decimal left
mode_text (Fork maps) marked = codes "fork"
mode_text Stale marked = codes "stale"
