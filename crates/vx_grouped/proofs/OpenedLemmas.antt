-- A group that comes back by its logs, as its site notes it: since it came up marks were taken off, and logs may have been lost.
use Rattle.std.proofs.Common.{◌≡◌, ◌∙◌, inl, ℕ, ◌<◌, ◌≤◌, Bool, true, false, IsTrue, List, None, length, refl, sym, subst, arith}
use Rattle.vx_disk.specs.Counts.{Rose}
use Rattle.vx_disk.specs.Shelf.{Goes, Lawful, Meaning, Nothing}
use Rattle.vx_disk.proofs.Causing.{Rose_after, Rose_before}
use Rattle.vx_history.specs.Groups.{GroupNode}
use Rattle.vx_history.specs.World.{Node}
use Rattle.vx_config.specs.Checks.{blocks_of}
use Rattle.vx_config.specs.declared.config.Config.{Config}
use Rattle.vx_copies.specs.Marks.{failed_at}
use Rattle.vx_kept.specs.Finds.{AllAtOnce}
use Rattle.vx_kept.specs.Keeping.{AllOn}
use Rattle.vx_kept.proofs.Frames.{names_of}
use Rattle.vx_group.specs.Creates.{SameUnits}
use Rattle.vx_group.specs.Finds.{MissesOpenly}
use Rattle.vx_group.specs.Holding.{wide}
use Rattle.vx_group.specs.Loses.{LosesPlexes}
use Rattle.vx_group.specs.Resumes.{CanImport}
use Rattle.vx_group.specs.Stands.{inner_meaning}
use Rattle.vx_group.specs.declared.group_core.GroupCore.{GroupCore}
use Rattle.vx_group.specs.declared.inner.Inner.{Inner}
use Rattle.vx_group.proofs.HoldLemmas.{wide_none, wide_shape}
use Rattle.vx_group.proofs.LoseLemmas.{then_loses}
use Rattle.vx_loggroup.specs.Opens.{IsOpened}
use Rattle.vx_logimport.specs.declared.rested.Rested.{Rested}
use Rattle.vx_logs.specs.declared.logs.Logs.{Logs}
use Rattle.vx_grouped.specs.Away.{AwayLies}
use Rattle.vx_grouped.specs.Plain.{HoldsPlain}
use Rattle.vx_grouped.specs.Returns.{GroupReturns, TakesOpened, VolumesReturn, note_imported}
use Rattle.vx_grouped.proofs.PlainLemmas.{still_holds}
use Rattle.vx_grouped.proofs.ReturnLemmas.{group_returns}

module _ (n : Node) (note : GroupNode) (last : Config) (old : Meaning) (c d : GroupCore) (m m' : Meaning) (same : SameUnits m m') (goes : Goes Nothing (inner_meaning (wide c) m) (inner_meaning (wide d) m')) (loses : LosesPlexes c.inner.config d.inner.config m m')
    (before : (u : ℕ) → old.faults u ≤ m.faults u) (since : (u : ℕ) → m.faults u ≤ m'.faults u) (committed : d.inner.committed ≡ true) (agreed : d.inner.agreed ≡ true) (up : IsTrue m'.down → ⊥)
    (newest : AllAtOnce d.inner.config m') (free : d.held ≡ None) (openly : MissesOpenly d.inner) (all : AllOn d.inner.config) (back : VolumesReturn n note last old c m) where
  long : length d.inner.config.volumes ≡ length c.inner.config.volumes
  long = sym (wide_shape d).volumes ∙ goes.units ∙ (wide_shape c).volumes

  blocks : (v : ℕ) → blocks_of d.inner.config.volumes v ≡ blocks_of c.inner.config.volumes v
  blocks v = sym ((wide_shape d).blocks v) ∙ goes.size v ∙ (wide_shape c).blocks v

  held : HoldsPlain (note_imported d.inner back.renewed back.value note) (inner_meaning (wide d) m')
  held =
      let it = still_holds (note_imported c.inner back.renewed back.value note) (inner_meaning (wide c) m) (inner_meaning (wide d) m') back.holds goes in
      record { size = λ v. sym ((wide_shape d).blocks v); has = it.has }

  failed : (u : ℕ) → u < old.units → failed_at d.inner.config.disks u ≡ true → Rose (old.faults u) (m'.faults u)
  failed u low is = by (failed_at c.inner.config.disks u) refl
    where
      by : (t : Bool) → failed_at c.inner.config.disks u ≡ t → Rose (old.faults u) (m'.faults u)
      by true was = Rose_after (old.faults u) (m.faults u) (m'.faults u) (back.disks.failed u low was) (since u)
      by false was = Rose_before (old.faults u) (m.faults u) (m'.faults u) (before u) (loses.disks.blamed u was is)

  taken : IsTrue old.tells → TakesOpened old d.inner.config m'
  taken tells =
      let t = back.takes tells in
      record {
        image = t.image;
        config = t.config;
        opened = t.opened;
        each = t.each;
        finds = t.finds;
        sound = t.sound;
        count = t.count;
        site = t.site;
        rvg = t.rvg;
        frames = t.frames;
        states = t.states;
        on = t.on;
        loses = then_loses old m m' before since t.opened c.inner.config d.inner.config t.loses loses;
      }

  pub then_returns : GroupReturns n note last old d m'
  then_returns = record {
    renewed = back.renewed;
    value = back.value;
    at = record {
      state = refl;
      up = up;
      lies = record {
        units = same.units ∙ back.units;
        size = λ u low. same.size u ∙ back.size u low;
        config = refl;
        agreed = λ tight. agreed;
        committed = λ tight empty. committed;
        images = record {
          noted = record { each = λ tight i x each is. inl (newest.each i x each is) };
          newest = λ is. subst (λ (e : Inner). AllAtOnce e.config m') (sym (wide_none d free)) newest;
          openly = openly;
          free = λ tight empty. free;
        };
        holds = held;
      };
    };
    volumes = λ tells. let a = back.volumes tells in let b = long in omega (arith, a, b);
    sizes = λ tells v lt. blocks v ∙ back.sizes tells v lt;
    frames = λ tells v lt. loses.frames v ∙ back.frames tells v lt;
    names = λ tells v lt. names_of d.inner.config c.inner.config v v (loses.frames v) ∙ back.names tells v lt;
    disks = record {
      count = loses.parts.count ∙ back.disks.count;
      blocks = λ u low. loses.disks.blocks u ∙ back.disks.blocks u low;
      failed = failed;
    };
    may = back.may;
    stops = λ tells v low. back.stops tells v (let b = long in omega (arith, low, b));
    takes = taken;
    on = all;
  }

-- the same of an import by logs
pub opened_returns : (n : Node) (note : GroupNode) (last : Config) (old : Meaning) → Lawful old → AwayLies n note last old → {S : Type 0} (meaning : S → Meaning) (rested : Rested) (core : GroupCore) (logs : List Logs) (flags : List Bool) (stopped : Bool) (new : Meaning) → CanImport old
    → IsOpened meaning rested old core logs flags stopped new → (core.inner.committed ≡ true → core.inner.agreed ≡ true) → AllOn core.inner.config → GroupReturns n note last old core new
opened_returns n note last old law away {S} meaning rested core logs flags stopped new can it both all =
    let middle : GroupCore = record { inner = it.marked.core; held = None } in
    let only = it.resumed.only in
    then_returns n note last old middle core (meaning it.moment) new it.same it.goes it.loses only.faults it.counts it.committed (both it.committed) it.up it.newest it.free it.openly all
    (group_returns n note last old law away it.marked.core (meaning it.moment) can it.resumed.resumed (record { units = only.units; size = only.size }) middle refl refl)
