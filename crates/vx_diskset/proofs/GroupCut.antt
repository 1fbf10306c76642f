-- The write that the fuse of a group cut, behind the answer to it.
use Rattle.std.proofs.Common.{◌≡◌, ◌∙◌, ℕ, true, false, List, ap, refl}
use Rattle.std.specs.Prelude.{Option, Some, Err}
use Rattle.vx_model.specs.Content.{Write}
use Rattle.vx_model.specs.declared.no.No.{No}
use Rattle.vx_model.specs.declared.no.No.TheVariants.{Down as IsOff}
use Rattle.vx_grouped.specs.Ends.{plain_write}
use Rattle.vx_grouped.specs.SiteEnds.{is_off}
use Rattle.vx_diskset.specs.GroupSets.{cut_behind, cut_value}
use Rattle.vx_diskset.specs.declared.group_set.CutWrite.{CutWrite}

off_cut : (why : No) (x : Write) (old : Option Write) → is_off why ≡ true → Some x ≡ cut_behind {T = Unit {0}} (Err why) x old
off_cut IsOff x old is = refl
off_cut other x old is = absurd (let e : false ≡ true = is in cc)

-- it is kept where the disks were found down
pub cut_some : (why : No) (volume block : ℕ) (held bytes : List ℕ) (old : Option CutWrite) → held ≡ bytes → is_off why ≡ true
    → cut_value (Some (record { volume = volume; block = block; bytes = held })) ≡ cut_behind {T = Unit {0}} (Err why) (plain_write volume block bytes) (cut_value old)
cut_some why volume block held bytes old same is =
    ap (λ (xs : List ℕ). let x : Option Write = Some (plain_write volume block xs) in x) same ∙ off_cut why (plain_write volume block bytes) (cut_value old) is

-- and else that of before stays
pub cut_none : (why : No) (x : Write) (old : Option CutWrite) → is_off why ≡ false → cut_value old ≡ cut_behind {T = Unit {0}} (Err why) x (cut_value old)
cut_none IsOff x old is = absurd (let e : true ≡ false = is in cc)
cut_none other x old is = refl
