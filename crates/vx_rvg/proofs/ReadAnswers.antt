-- What a read answers, from what its parts are.
use Rattle.std.proofs.Common.{◌≡◌, ℕ, ◌+◌, ◌<◌, ◌≤◌, Bool, true, false, List, length, Option, Some, None, Result, Ok, Err, OnOk, IsTrue, refl, sym, ◌∙◌, ap, subst, arith}
use Rattle.std.specs.Prelude.{if◌then◌else◌, ltb}
use Rattle.std.proofs.lemmas.Bool.Decides.{nat_tests}
use Rattle.std.proofs.lemmas.Option.{none-some}
use Rattle.vx_model.specs.Content.{Content, blocks_in}
use Rattle.vx_ringlog.specs.Records.{Record}
use Rattle.vx_model.specs.declared.no.No.{No}
use Rattle.vx_model.specs.declared.no.No.TheVariants.{Halted, Range}
use Rattle.vx_disk.specs.Shelf.{Lawful, Meaning, Read}
use Rattle.vx_ringio.specs.Bodies.{IsBlocks}
use Rattle.vx_rvg.specs.Contents.{ShowsContent}
use Rattle.vx_rvg.specs.Groups.{IsPatched, read_refusal, halted_or}
use Rattle.vx_rvg.specs.Stands.{IsCovered}
use Rattle.vx_rvg.specs.Views.{Core, unit_of}
use Rattle.vx_rvg.proofs.ReadStands.{shows}

-- ---- a read that is not refused

pub not_halted : (halted : Option ℕ) (rest : Option No) → halted_or halted rest ≡ None → rest ≡ None
not_halted (Some disk) rest is = absurd (none-some (Halted disk) (sym is))
not_halted None rest is = is

pub in_range : (t : Bool) → (if t then Some Range else None) ≡ None → t ≡ false
in_range true is = absurd (none-some Range (sym is))
in_range false is = refl

pub ends_within : (size last : ℕ) → ltb size last ≡ false → last ≤ size
ends_within size last is = grind (arith, nat_tests)

pub read_fits : (core : Core) (size start count : ℕ) → read_refusal core size start count ≡ None → start + count ≤ size
read_fits core size start count is =
    ends_within size (start + count) (in_range (ltb size (start + count)) (not_halted core.halted (if ltb size (start + count) then Some Range else None) is))

-- ---- what it gives

pub shows_at : (core : Core) (c : Content) (rs : List Record) (m : Meaning) → IsCovered core c rs m → Lawful m → IsTrue m.tells → (vol start unit size : ℕ) → vol < length core.units.vols → (old mid new : List ℕ) → IsBlocks old
    → length mid ≡ length old → unit ≡ unit_of core.units.vols vol → size ≡ m.size unit → (refused : Option No) → refused ≡ read_refusal core size start (blocks_in old) → refused ≡ None → Read m unit start mid
    → IsPatched core.pending.entries vol start mid new → ShowsContent c vol start (blocks_in old) new
shows_at core c rs m covers lawful tells vol start unit size exists old mid new blocks same unit_is size_is refused refused_is none read patched =
    let free : read_refusal core size start (blocks_in old) ≡ None = sym refused_is ∙ none in
    shows core c m rs covers lawful tells vol start exists old mid new blocks same
    (omega (arith, read_fits core size start (blocks_in old) free, size_is, ap (λ (u : ℕ). m.size u) unit_is)) (subst (λ (u : ℕ). Read m u start mid) unit_is read) patched

pub on_ok : (result : Result (Unit {0}) No) (P : Type 0) → result ≡ Ok tt → P → OnOk result P
on_ok result P is it = subst (λ (r : Result (Unit {0}) No). OnOk r P) (sym is) it

pub on_err : (result : Result (Unit {0}) No) (why : No) (P : Type 0) → result ≡ Err why → OnOk result P
on_err result why P is = subst (λ (r : Result (Unit {0}) No). OnOk r P) (sym is) tt

pub on_same : (result : Result (Unit {0}) No) (P Q : Type 0) → (P → Q) → OnOk result P → OnOk result Q
on_same (Ok done) P Q to it = to it
on_same (Err why) P Q to it = it
