-- What a map that was read keeps.
use Rattle.std.proofs.Common.{◌≡◌, ◌∙◌, ◌/◌, ℕ, List, length, ap, refl, sym, subst}
use Rattle.std.proofs.lemmas.List.{with_items_is}
use Rattle.vx_disk.proofs.Spending.{spends_none, spends_read}
use Rattle.vx_disk.specs.Moves.{Run, Settled}
use Rattle.vx_bitmap.specs.Maps.{Lies, MapOn}
use Rattle.vx_bitmap.proofs.Loads.{load_lies, load_stands}
use Rattle.vx_bitmap.proofs.bitmap.Bitmap.load_in.Goals as goal

pub returns-in-Ok-clause-stands : goal.returns-in-Ok-clause-stands
returns-in-Ok-clause-stands g c = λ settled.
    let same = with_items_is c.args.bytes c.read.new.into (c.read.auto.into ∙ c.deref_mut.ensures.len) in
    subst (λ (bs : List ℕ). MapOn (record { unit = c.args.unit; first = c.args.first; bytes = bs }) (g.S.Shelf.meaning c.read.new.self)) (sym same)
    (load_stands (g.S.Shelf.meaning c.args.shelf.now) (g.S.Shelf.meaning c.read.new.self) (record { unit = c.args.unit; first = c.args.first; bytes = c.read.new.into }) (g.met.S.Shelf.lawful c.args.shelf.now) c.in-Ok.ensures.ok c.read.ensures.goes
    (subst (λ (bs : List ℕ). Settled (g.S.Shelf.meaning c.args.shelf.now) (Run c.args.unit c.args.first (length bs / 512))) same settled))

pub returns-in-Ok-clause-spends : goal.returns-in-Ok-clause-spends
returns-in-Ok-clause-spends g c = spends_read _ _ c.read.ensures.goes c.read.ensures.down c.read.ensures.disks

pub returns-in-Err-clause-spends : goal.returns-in-Err-clause-spends
returns-in-Err-clause-spends g c = spends_read _ _ c.read.ensures.goes c.read.ensures.down c.read.ensures.disks

pub returns-then-is_empty-clause-spends : goal.returns-then-is_empty-clause-spends
returns-then-is_empty-clause-spends g c = spends_none (g.S.Shelf.meaning c.args.shelf.now)

pub returns-then-is_empty-clause-lies : goal.returns-then-is_empty-clause-lies
returns-then-is_empty-clause-lies g c =
    load_lies (g.S.Shelf.meaning c.args.shelf.now) (g.S.Shelf.meaning c.args.shelf.now) c.args.unit c.args.first c.args.bytes.items c.args.bytes.items c.requires.exists c.requires.within refl refl refl

pub returns-in-Ok-clause-lies : goal.returns-in-Ok-clause-lies
returns-in-Ok-clause-lies g c =
    let long : length c.read.new.into ≡ length c.args.bytes.items = c.read.auto.into ∙ ap (λ (bs : List ℕ). length bs) c.deref_mut.ensures.value in
    let same = with_items_is c.args.bytes c.read.new.into (c.read.auto.into ∙ c.deref_mut.ensures.len) in
    subst (λ (bs : List ℕ). Lies (record { unit = c.args.unit; first = c.args.first; bytes = bs }) (g.S.Shelf.meaning c.read.new.self)) (sym same)
    (load_lies (g.S.Shelf.meaning c.args.shelf.now) (g.S.Shelf.meaning c.read.new.self) c.args.unit c.args.first c.args.bytes.items c.read.new.into c.requires.exists c.requires.within long c.read.ensures.goes.units (c.read.ensures.goes.size c.args.unit))
