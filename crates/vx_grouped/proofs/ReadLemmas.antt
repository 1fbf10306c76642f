-- A read of a volume of a group, as its site notes it.
use Rattle.std.proofs.Common.{◌≡◌, ℕ, List, length, sym, ◌∙◌, ap, subst, arith, IsTrue}
use Rattle.std.specs.Prelude.{Result, Ok, Err}
use Rattle.vx_model.specs.declared.no.No.{No}
use Rattle.vx_model.specs.declared.no.No.TheVariants.{Device, Down as IsOff}
use Rattle.vx_disk.specs.Causes.{refusal_of}
use Rattle.vx_disk.specs.declared.shelf.ShelfError.{ShelfError}
use Rattle.vx_disk.specs.declared.shelf.ShelfError.TheVariants.{Fault, Down}
use Rattle.vx_config.specs.declared.config.Config.{Config}
use Rattle.vx_group.specs.GivesUp.{EachBlamed}
use Rattle.vx_group.specs.Turns.{ReadsInTurn}
use Rattle.vx_disk.specs.Shelf.{Fits, Goes, Lawful, Meaning, Nothing, Read}
use Rattle.vx_history.specs.Groups.{GroupNode}
use Rattle.vx_history.specs.World.{Node}
use Rattle.vx_group.specs.Holding.{wide}
use Rattle.vx_group.specs.Stands.{inner_meaning}
use Rattle.vx_group.specs.declared.group_core.GroupCore.{GroupCore}
use Rattle.vx_grouped.specs.GroupNotes.{IsGroupAt, noted_config}
use Rattle.vx_grouped.specs.Plain.{HoldsPlain, ReadsPlain}
use Rattle.vx_group.proofs.FindingLemmas.{quiet_finds}
use Rattle.vx_grouped.proofs.ImageLemmas.{images_still}
use Rattle.vx_grouped.proofs.PlainLemmas.{still_holds}

-- what was read is what a crash may leave
pub reads_plain : (note : GroupNode) (m below : Meaning) (v block : ℕ) (old bytes : List ℕ) → length bytes ≡ length old → m.tells ≡ below.tells → Lawful m → HoldsPlain note m → Fits m v block (length old) → Read m v block bytes
    → ReadsPlain note below v block bytes
reads_plain note m below v block old bytes same tells lawful it room read = record {
  each = λ told b covers.
      it.has v b _ room.exists (let end = room.within in let whole = room.whole in let first = covers.first in let last = covers.last in omega (arith, end, whole, first, last, same))
      (lawful.shown v b _ (read.each (subst IsTrue (sym tells) told) b covers));
}

-- ---- where it gives up

pub read_not : {disk : ℕ} {value : Unit {0}} → (let r : Result (Unit {0}) No = Ok value in r) ≡ Err (Device disk) → ⊥
read_not is = cc

off_else : (no : No) (disk : ℕ) → no ≡ IsOff → (let r : Result (Unit {0}) No = Err no in r) ≡ Err (Device disk) → ⊥
off_else what disk is refused = cc

-- a call on a disk of each plex failed that takes part
pub read_gives : (e : ShelfError) (no : No) (v : ℕ) (c : Config) (before after : List ℕ) (block n : ℕ) (bytes : List ℕ) (m m' : Meaning) (disk : ℕ) → no ≡ refusal_of e → (let r : Result (Unit {0}) No = Err no in r) ≡ Err (Device disk)
    → ReadsInTurn c v before after block n bytes m m' (Err e) → EachBlamed c v m m'
read_gives (Fault k) what v c before after block n bytes m m' disk is refused it = record { each = it.0.each }
read_gives Down what v c before after block n bytes m m' disk is refused it = absurd (off_else what disk is refused)

-- what is noted stays
pub read_stays : (n : Node) (note : GroupNode) (c d : GroupCore) (m m' : Meaning) → Lawful m → Lawful m' → Goes Nothing m m' → m'.down ≡ m.down → Goes Nothing (inner_meaning (wide c) m) (inner_meaning (wide d) m') → d.inner.config ≡ c.inner.config
    → d.held ≡ c.held → d.inner.unsettled ≡ c.inner.unsettled → (d.inner.committed ≡ c.inner.committed) × (d.inner.agreed ≡ c.inner.agreed) → IsGroupAt n note c m → IsGroupAt n note d m'
read_stays n note c d m m' lawful lawful' below down goes config held settled trusted at = record {
  state = at.state;
  up = λ is. at.up (subst IsTrue down is);
  lies = record {
    units = below.units ∙ at.lies.units;
    size = λ u low. below.size u ∙ at.lies.size u low;
    config = at.lies.config ∙ ap noted_config (sym config);
    agreed = λ tight. trusted.1 ∙ at.lies.agreed tight;
    committed = λ tight none. trusted.0 ∙ at.lies.committed tight none;
    images = images_still note c d m m' config held trusted.0 settled (quiet_finds m m' lawful lawful' below) at.lies.images;
    holds = still_holds note (inner_meaning (wide c) m) (inner_meaning (wide d) m') at.lies.holds goes;
  };
}
