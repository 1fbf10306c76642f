-- The words of the places that take one of a few.
use Rattle.std.specs.Prelude.{ℕ, List, codes}
use Rattle.vx_script.specs.declared.line.DiskState.{DiskState}
use Rattle.vx_script.specs.declared.line.DiskState.TheVariants.{Fail, Work}
use Rattle.vx_script.specs.declared.choice.GroupVerb.{GroupVerb}
use Rattle.vx_script.specs.declared.choice.GroupVerb.TheVariants.{Init, Deport, Import}
use Rattle.vx_script.specs.declared.choice.PlexVerb.{PlexVerb}
use Rattle.vx_script.specs.declared.choice.PlexVerb.TheVariants.{Detach, Attach}
use Rattle.vx_script.specs.declared.choice.LayoutWord.{LayoutWord}
use Rattle.vx_script.specs.declared.choice.LayoutWord.TheVariants.{IsConcat, IsStripe}
use Rattle.vx_script.specs.declared.line.VolumeLog.{VolumeLog}
use Rattle.vx_script.specs.declared.line.VolumeLog.TheVariants.{NoLog, Drl}
use Rattle.vx_script.specs.declared.line.VolumeMap.{VolumeMap}
use Rattle.vx_script.specs.declared.line.VolumeMap.TheVariants.{NoMap, Fmr}
use Rattle.vx_script.specs.declared.choice.CallVerb.{CallVerb}
use Rattle.vx_script.specs.declared.choice.CallVerb.TheVariants.{CallsWrite, CallsRead}
use Rattle.vx_model.specs.declared.link.SyncMode.{SyncMode}
use Rattle.vx_model.specs.declared.link.SyncMode.TheVariants.{Off as SyncOff, Override as SyncOverride, Fail as SyncFail}
use Rattle.vx_model.specs.declared.link.Prot.{Prot}
use Rattle.vx_model.specs.declared.link.Prot.TheVariants.{Off as ProtOff, Override as ProtOverride, Fail as ProtFail, Dcm as ProtDcm, Autodcm as ProtAutodcm}

-- what a disk does
abbrev pub disk_state_text : DiskState → List ℕ
disk_state_text Fail = codes "fail"
disk_state_text Work = codes "ok"

-- what is done to a group
abbrev pub group_text : GroupVerb → List ℕ
group_text Init = codes "init"
group_text Deport = codes "deport"
group_text Import = codes "import"

-- what is done to a plex
abbrev pub plex_text : PlexVerb → List ℕ
plex_text Detach = codes "det"
plex_text Attach = codes "att"

-- a layout's first word
abbrev pub layout_text : LayoutWord → List ℕ
layout_text IsConcat = codes "layout=concat"
layout_text IsStripe = codes "layout=stripe"

-- a volume's log
abbrev pub log_text : VolumeLog → List ℕ
log_text NoLog = codes "log=none"
log_text Drl = codes "log=drl"

-- a volume's maps
abbrev pub map_text : VolumeMap → List ℕ
map_text NoMap = codes "fmr=off"
map_text Fmr = codes "fmr=on"

-- whether a write waits for a link's site
abbrev pub sync_text : SyncMode → List ℕ
sync_text SyncOff = codes "synchronous=off"
sync_text SyncOverride = codes "synchronous=override"
sync_text SyncFail = codes "synchronous=fail"

-- what a write does where the log is full
abbrev pub prot_text : Prot → List ℕ
prot_text ProtOff = codes "srlprot=off"
prot_text ProtOverride = codes "srlprot=override"
prot_text ProtFail = codes "srlprot=fail"
prot_text ProtDcm = codes "srlprot=dcm"
prot_text ProtAutodcm = codes "srlprot=autodcm"

-- what a call of a burst does
abbrev pub call_text : CallVerb → List ℕ
call_text CallsWrite = codes "write"
call_text CallsRead = codes "read"
