-- Notes behind calls, and the fuse behind them.
use Rattle.std.proofs.Common.{◌≡◌, ◌⊎◌, inl, inr, ℕ, ◌||◌, Bool, true, false, List, [], ◌++◌, IsTrue, IsFalse, refl, ap}
use Rattle.std.specs.Prelude.{if◌then◌else◌, not}
use Rattle.vx_disk.specs.Shelf.{Meaning}
use Rattle.vx_history.specs.Groups.{GroupNode, NoteSettles, NoteUnsettles}
use Rattle.vx_history.specs.Steps.{burned}
use Rattle.vx_history.specs.Stops.{IsFused}
use Rattle.vx_history.specs.World.{Fuse, NoFuse, FuseSet, FuseLit}
use Rattle.vx_config.specs.declared.config.Config.{Config}
use Rattle.vx_group.specs.declared.group_core.GroupCore.{GroupCore}
use Rattle.vx_group.specs.declared.inner.Inner.{Inner}
use Rattle.vx_grouped.specs.Away.{note_deported}
use Rattle.vx_grouped.specs.GroupNotes.{IsTight, is_sure, note_called}
use Rattle.vx_grouped.specs.SetFuses.{HasFuse}

-- ---- flags: `kept` is committed, `agr` agreed, `l` what was loose

loose_stays : (agr l : Bool) → l ≡ true → (l || not agr) ≡ true
loose_stays agr l is = ap (λ (b : Bool). b || not agr) is

begun_called : (sure agr l : Bool) (nexts begun : List (List ℕ))
    → (((if sure then [] else nexts ++ begun) ≡ []) × ((if sure then false else (l || not agr)) ≡ false))
    ⊎ ((more : List (List ℕ)) × ((if sure then [] else nexts ++ begun) ≡ more ++ begun) × (l ≡ true → (if sure then false else (l || not agr)) ≡ true))
begun_called true agr l nexts begun = inl (refl, refl)
begun_called false agr l nexts begun = inr (nexts, refl, loose_stays agr l)

tight_called : (sure agr l : Bool) (nexts begun : List (List ℕ)) → sure ≡ true → ((if sure then [] else nexts ++ begun) ≡ []) × ((if sure then false else (l || not agr)) ≡ false)
tight_called true agr l nexts begun is = (refl, refl)
tight_called false agr l nexts begun is = cc

agrees_called : (sure agr l : Bool) → l ≡ false → agr ≡ true → (if sure then false else (l || not agr)) ≡ false
agrees_called true agr l was agrees = refl
agrees_called false true false was agrees = refl
agrees_called false true true was agrees = cc
agrees_called false false l was agrees = cc

-- ---- notes

pub called_settles : (nexts : List (List ℕ)) (core : GroupCore) (note : GroupNode) → IsTight note core → NoteSettles note (note_called nexts core note)
called_settles nexts core note tight = record {
  same = record { dark = refl; bytes = refl; others = refl; cut = refl; maps = refl; inside = refl };
  begun = begun_called (is_sure core) core.inner.agreed note.loose nexts note.begun;
  tight = λ was none. tight_called (is_sure core) core.inner.agreed note.loose nexts note.begun (tight was none);
}

pub called_unsettles : (twice : Bool) (nexts : List (List ℕ)) (core : GroupCore) (note : GroupNode) → (twice ≡ false → note.loose ≡ false → note.begun ≡ [] → core.inner.agreed ≡ true) → NoteUnsettles twice note (note_called nexts core note)
called_unsettles twice nexts core note agrees = record {
  same = record { dark = refl; bytes = refl; others = refl; cut = refl; maps = refl; inside = refl };
  begun = begun_called (is_sure core) core.inner.agreed note.loose nexts note.begun;
  tight = λ once was none. agrees_called (is_sure core) core.inner.agreed note.loose was (agrees once was none);
}

begun_deported : (kept l : Bool) (begun : List (List ℕ))
    → (((if kept then [] else begun) ≡ []) × ((if kept then false else true) ≡ false))
    ⊎ ((more : List (List ℕ)) × ((if kept then [] else begun) ≡ more ++ begun) × (l ≡ true → (if kept then false else true) ≡ true))
begun_deported true l begun = inl (refl, refl)
begun_deported false l begun = inr ([], refl, λ is. refl)

tight_deported : (kept : Bool) (begun : List (List ℕ)) → kept ≡ true → ((if kept then [] else begun) ≡ []) × ((if kept then false else true) ≡ false)
tight_deported true begun is = (refl, refl)
tight_deported false begun is = cc

pub deport_settles : (x : Config) (core : Inner) (note : GroupNode) → (note.loose ≡ false → note.begun ≡ [] → core.committed ≡ true) → NoteSettles note (note_deported x core note)
deport_settles x core note tight = record {
  same = record { dark = refl; bytes = refl; others = refl; cut = refl; maps = refl; inside = refl };
  begun = begun_deported core.committed note.loose note.begun;
  tight = λ was none. tight_deported core.committed note.begun (tight was none);
}

-- ---- the fuse

pub fuse_burned : (f : Fuse) (m m' : Meaning) → (IsFalse m.armed → IsFalse m'.armed) → HasFuse f m → HasFuse (burned f) m'
fuse_burned NoFuse m m' unarmed it = unarmed it
fuse_burned (FuseSet calls) m m' unarmed it = tt
fuse_burned (FuseLit most) m m' unarmed it = tt

-- what was up falls only where a fuse was set
pub fell_fused : (f : Fuse) (m m' : Meaning) → HasFuse f m → (IsTrue m.down → ⊥) → (IsFalse m.armed → IsTrue m'.down → IsTrue m.down) → IsTrue m'.down → IsFused f
fell_fused NoFuse m m' it up safe down = absurd (up (safe it down))
fell_fused (FuseSet calls) m m' it up safe down = tt
fell_fused (FuseLit most) m m' it up safe down = tt
