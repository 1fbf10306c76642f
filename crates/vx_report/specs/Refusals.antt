-- The line of a refusal.
use Rattle.std.specs.Prelude.{ℕ, List, [], ◌∷◌, ◌++◌, codes}
use Rattle.std.specs.Fmt.{decimal}
use Rattle.hex.specs.Hex.{encode_lower}
use Rattle.vx_report.specs.Words.{site_name_text, named_text, counted_text}
use Rattle.vx_model.specs.declared.no.No.{No}
use Rattle.vx_model.specs.declared.no.No.TheVariants.{Unknown, Exists, Range, Size, Role, Down, Device, Missing, NoConfig, LastPlex, Space, LogFull, Stalled, LinkDown, Unconfirmed, Inconsistent, Behind, Replaying, Limit, Halted, Gap, Damaged, Paused, Unsettled, Format}

-- the code of a refusal, and its words
unfoldable pub refusal_words : No → List ℕ
refusal_words (Unknown what) = codes "1 unknown " ++ named_text what
refusal_words (Exists name) = codes "2 exists " ++ name
refusal_words Range = codes "3 range"
refusal_words Size = codes "4 size"
refusal_words Role = codes "5 role"
refusal_words Down = codes "6 down"
refusal_words (Device disk) = codes "7 device " ++ decimal disk
refusal_words (Missing disk) = codes "8 missing " ++ decimal disk
refusal_words NoConfig = codes "9 noconfig"
refusal_words LastPlex = codes "10 lastplex"
refusal_words (Space need have) = codes "11 space " ++ decimal need ++ 32 ∷ decimal have
refusal_words (LogFull link) = codes "12 logfull " ++ site_name_text link
refusal_words (Stalled link) = codes "13 stalled " ++ site_name_text link
refusal_words (LinkDown link) = codes "14 linkdown " ++ site_name_text link
refusal_words (Unconfirmed number) = codes "15 unconfirmed " ++ decimal number
refusal_words Inconsistent = codes "16 inconsistent"
refusal_words (Behind stored head) = codes "17 behind " ++ decimal stored ++ 32 ∷ decimal head
refusal_words (Replaying link) = codes "18 replaying " ++ site_name_text link
refusal_words (Limit what most) = codes "19 limit " ++ counted_text what ++ 32 ∷ decimal most
refusal_words (Halted disk) = codes "20 halted " ++ decimal disk
refusal_words (Gap low need) = codes "21 gap " ++ decimal low ++ 32 ∷ decimal need
refusal_words (Damaged unit block stored computed) =
    codes "22 damaged " ++ decimal unit ++ 32 ∷ decimal block ++ 32 ∷ encode_lower stored ++ 32 ∷ encode_lower computed
refusal_words Paused = codes "23 paused"
refusal_words (Unsettled stored head) = codes "24 unsettled " ++ decimal stored ++ 32 ∷ decimal head
refusal_words (Format version) = codes "25 format " ++ decimal version

-- the line of a refusal
abbrev pub refusal_text : No → List ℕ
refusal_text refused = codes "no " ++ refusal_words refused ++ 10 ∷ []
