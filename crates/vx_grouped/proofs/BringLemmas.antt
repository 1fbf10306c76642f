-- What an import by logs makes of the volumes of a group.
use Rattle.std.proofs.Common.{◌≡◌, ◌∙◌, inl, inr, ℕ, ◌<◌, Bool, true, IsTrue, List, length, refl, ap, sym, subst, arith}
use Rattle.vx_config.specs.Checks.{blocks_of}
use Rattle.vx_disk.specs.Racks.{Alike}
use Rattle.vx_disk.specs.Shelf.{Each, Image, Lawful, Meaning, Nothing}
use Rattle.vx_disk.proofs.Runs.{then_nothing}
use Rattle.vx_config.specs.declared.config.Config.{Config}
use Rattle.vx_copyfmt.specs.Imports.{Found}
use Rattle.vx_kept.specs.Groups.{Shows, found}
use Rattle.vx_kept.specs.Keeping.{Extends}
use Rattle.vx_volume.specs.Plexes.{Inside}
use Rattle.vx_group.specs.Holding.{wide}
use Rattle.vx_group.specs.Imports.{Resumed}
use Rattle.vx_group.specs.Laws.{group_lawful}
use Rattle.vx_group.specs.Resumes.{AtRest, CanImport, stopped}
use Rattle.vx_group.specs.Stands.{inner_meaning}
use Rattle.vx_group.specs.declared.group_core.GroupCore.{GroupCore}
use Rattle.vx_loggroup.specs.Opens.{IsOpened}
use Rattle.vx_logimport.specs.declared.rested.Rested.{Rested}
use Rattle.vx_logs.specs.declared.logs.Logs.{Logs}
use Rattle.vx_grouped.specs.Brings.{BringsVolumes, TookVolumes}

-- disks are as they are
pub alike_self : (m : Meaning) → Alike m m
alike_self m = record {
  contents = record {
    units = refl;
    size = λ u. refl;
    tells = refl;
    moment = refl;
    reads = λ u b v it. it;
    still_reads = λ u b v it. it;
    leaves = λ u b v it. it;
    still_leaves = λ u b v it. it;
    now = λ i it. it;
    still_now = λ i it. it;
    since = λ t i it. it;
    keeps = λ t i it. it;
  };
  counts = record { faults = λ u. refl; disk_faults = λ d. refl };
}

found_one : (x y : Config) → Found x ≡ Found y → x ≡ y
found_one x y is = cc

module _ (old : Meaning) (law : Lawful old) {S : Type 0} (meaning : S → Meaning) (laws : (s : S) → Lawful (meaning s)) (rested : Rested) (core : GroupCore) (logs : List Logs) (flags : List Bool) (ended : Bool) (new : Meaning) (can : CanImport old)
    (it : IsOpened meaning rested old core logs flags ended new) where
  abbrev mid : Meaning
  mid = meaning it.moment

  r : Resumed old it.marked.core mid
  r = it.resumed.resumed

  -- the image that was read is one that a crash may leave
  seen : IsTrue old.tells → Each old.leaves r.taken.image
  seen tells u b = law.shown u b (r.taken.image u b) (r.taken.read tells u b)

  found_here : IsTrue old.tells → found old r.taken.image ≡ Found r.config
  found_here tells = can.one r.taken.image r.taken.image r.taken.readable r.config (seen tells) (seen tells) r.taken.is

  took : IsTrue old.tells → TookVolumes old core new
  took tells = record {
    image = r.taken.image;
    config = r.config;
    readable = r.taken.readable;
    opened = r.opened;
    each = seen tells;
    is = found_here tells;
    opens = r.taken.opens;
    goes = then_nothing Nothing _ _ _ r.goes it.goes;
    rvg = it.loses.parts.rvg ∙ r.loses.parts.rvg ∙ r.taken.opens.alike.rvg;
  }

  inner_law : Lawful (inner_meaning it.marked.core mid)
  inner_law = group_lawful it.marked.core mid (laws it.moment) r.stands

  unclean : IsTrue old.tells → (c x : Config) (i above : Image) (v b : ℕ) (value : List ℕ) → AtRest old → Each old.leaves i → found old i ≡ Found x → Extends x c → Shows c x i above → stopped x v ≡ true → Inside c v b
      → (inner_meaning (wide core) new).leaves v b value → value ≡ above v b
  unclean tells c x i above v b value rest each is ext shows off inside left =
      let same : r.config ≡ x = found_one r.config x (sym (can.one r.taken.image i r.taken.readable r.config (seen tells) each r.taken.is) ∙ is) in
      let off_here : stopped r.config v ≡ true = subst (λ (y : Config). stopped y v ≡ true) (sym same) off in
      let many : length r.opened.volumes ≡ length r.config.volumes = r.taken.opens.alike.shape.volumes in
      let long : length r.config.volumes ≡ length x.volumes = subst (λ (y : Config). length y.volumes ≡ length x.volumes) (sym same) refl in
      let there : v < length r.opened.volumes = (let a = ext.volumes in let lt = inside.volume in omega (arith, a, lt, many, long)) in
      let mend = r.mended v there off_here in
      let in_opened : Inside r.opened v b = record {
        volume = there;
        within = (let a = ext.blocks v inside.volume in let w = inside.within in let z = r.taken.opens.alike.shape.blocks v in let y = ap (λ (q : Config). blocks_of q.volumes v) same in omega (arith, a, w, z, y));
      } in
      let read = inner_law.some (r.goes.tells ∙ tells) v b in
      let was = r.gives.reads c x i above v b read.0 rest each is ext shows off inside read.1 in
      elim (it.goes.leaves v b value left) [
        | inl before ↦ mend.one b value in_opened before ∙ sym (mend.one b read.0 in_opened (inner_law.shown v b read.0 read.1)) ∙ was
        | inr none ↦ absurd none
      ]

  pub opened_brings : BringsVolumes old core new
  opened_brings = record { tells = it.goes.tells ∙ r.goes.tells; took = took; unclean = unclean }
