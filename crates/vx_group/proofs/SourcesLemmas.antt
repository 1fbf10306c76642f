-- Plexes that are tried as sources of a copy, one after the other.
use Rattle.std.proofs.Common.{◌≡◌, ◌⊎◌, inl, inr, ⊎_elim, ℕ, ◌+◌, ◌<◌, ◌≤◌, true, false, IsTrue, Option, Result, Ok, Err, length, refl, sym, ◌∙◌, subst, arith}
use Rattle.std.proofs.lemmas.Bool.{cases_lt}
use Rattle.vx_disk.specs.Counts.{Rose}
use Rattle.vx_disk.specs.Shelf.{Lawful, Meaning}
use Rattle.vx_disk.specs.declared.shelf.ShelfError.{ShelfError}
use Rattle.vx_disk.specs.declared.shelf.ShelfError.TheVariants.{Fault, Down}
use Rattle.vx_disk.proofs.Causing.{Rose_after, Rose_before}
use Rattle.vx_config.specs.declared.config.Config.{Config}
use Rattle.vx_fmr.specs.Missed.{Missed}
use Rattle.vx_volume.specs.Copies.{CopyCause}
use Rattle.vx_volume.specs.Plexes.{active, uses}
use Rattle.vx_volume.specs.Volumes.{PlexBlamed}
use Rattle.vx_volume.proofs.PlaceLemmas.{active_few}
use Rattle.vx_kept.specs.Finds.{FindsFrom, NoConfiguration}
use Rattle.vx_kept.proofs.Findings.{same_from, then_from}
use Rattle.vx_resync.proofs.CauseLemmas.{blamed_since}
use Rattle.vx_group.specs.Attaches.{Attaches, CopyTried, SourcesTried}
use Rattle.vx_group.specs.Blames.{Blames}
use Rattle.vx_group.specs.Stands.{InnerStands}
use Rattle.vx_group.specs.declared.inner.Inner.{Inner}
use Rattle.vx_group.proofs.AttachLemmas.{narrows_attaches, then_attaches}
use Rattle.vx_group.proofs.RegainLemmas.{same_narrows}
use Rattle.vx_group.proofs.Standing.{some_active, sound_of}
use Rattle.vx_group.proofs.UsesLemmas.{blamed_before, blamed_by}
use Rattle.vx_group.proofs.LoseLemmas.{none_parts}

-- a configuration in which plexes lie on the same disks
pub copy_by : {T : Type 0} (c e : Config) (v source p : ℕ) (old new : Meaning) → ((x q u : ℕ) → uses e x q u ≡ uses c x q u) → (r : Result T ShelfError) → CopyCause e v source p old new r → CopyCause c v source p old new r
copy_by c e v source p old new same (Ok x) up = up
copy_by c e v source p old new same (Err (Fault disk)) why = (
  ⊎_elim (λ from. inl (blamed_by c e v source old new (same v source) from)) (λ to. inr (blamed_by c e v p old new (same v p) to)) why.0,
  why.1,
  why.2,
)
copy_by c e v source p old new same (Err Down) down = down

pub tried_by : {T : Type 0} (c : Config) (v source p device : ℕ) (old new : Meaning) (r : Result T ShelfError) → CopyCause c v source p old new r → CopyTried c v source p device old new r
tried_by c v source p device old new (Ok x) up = up
tried_by c v source p device old new (Err (Fault disk)) why = (inr (why.0, why.1), why.2)
tried_by c v source p device old new (Err Down) down = down

-- no call was made
pub no_attaches : (v p : ℕ) (f : Option Missed) (core : Inner) (m : Meaning) → Lawful m → InnerStands core m → Attaches v p f core core m m
no_attaches v p f core m lawful stands = narrows_attaches v p f core core m m lawful stands (same_narrows core core m refl refl refl) (none_parts core.config) (λ w q apart. refl)

pub sources_start : (core : Inner) (v p : ℕ) (f : Option Missed) (device : ℕ) (m : Meaning) → Lawful m → InnerStands core m → (IsTrue m.down → ⊥) → SourcesTried core v p f 0 device m m
sources_start core v p f device m lawful stands up = record {
  stands = stands;
  attaches = no_attaches v p f core m lawful stands;
  less = same_from NoConfiguration m;
  up = up;
  tried = λ q lt is_on. absurd (omega (arith, lt));
}

module _ (core : Inner) (v p : ℕ) (f : Option Missed) (n device : ℕ) (m0 m1 m2 : Meaning) (so_far : SourcesTried core v p f n device m0 m1) (l d : Inner) (at : l ≡ core) (same : d ≡ l) where
  core_is : d ≡ core
  core_is = same ∙ at

  module _ (attaches : Attaches v p f l d m1 m2) where
    one_more : Attaches v p f core core m1 m2
    one_more = subst (λ (x : Inner). Attaches v p f core x m1 m2) core_is (subst (λ (x : Inner). Attaches v p f x d m1 m2) at attaches)

    before : (u : ℕ) → m0.faults u ≤ m1.faults u
    before = so_far.attaches.acts.faults

    after : (u : ℕ) → m1.faults u ≤ m2.faults u
    after = one_more.acts.faults

    either : (q : ℕ) → PlexBlamed core.config v q m0 m1 ⊎ PlexBlamed core.config v p m0 m1 → PlexBlamed core.config v q m0 m2 ⊎ PlexBlamed core.config v p m0 m2
    either q (inl from) = inl (blamed_before core.config v q m0 m1 m2 after from)
    either q (inr to) = inr (blamed_before core.config v p m0 m1 m2 after to)

    newer : (q : ℕ) → PlexBlamed core.config v q m1 m2 ⊎ PlexBlamed core.config v p m1 m2 → PlexBlamed core.config v q m0 m2 ⊎ PlexBlamed core.config v p m0 m2
    newer q (inl from) = inl (blamed_since core.config v q m0 m1 m2 before from)
    newer q (inr to) = inr (blamed_since core.config v p m0 m1 m2 before to)

    pub all_attaches : Attaches v p f core core m0 m2
    all_attaches = then_attaches v p f core core core m0 m1 m2 so_far.attaches one_more

    -- one plex more was tried
    pub sources_next : (disk : ℕ) (error : ShelfError) → error ≡ Fault disk → InnerStands d m2 → FindsFrom NoConfiguration m1 m2 → CopyTried {T = ℕ} l.config v n p device m1 m2 (Err error) → SourcesTried core v p f (n + 1) disk m0 m2
    sources_next disk error fault stands less tried = record {
      stands = subst (λ (x : Inner). InnerStands x m2) core_is stands;
      attaches = all_attaches;
      less = then_from NoConfiguration m0 m1 m2 so_far.less less;
      up = here.1;
      tried = λ q lt is_on. elim (cases_lt q n) [
        | inl less ↦ earlier q less is_on (here.0)
        | inr le ↦ now q (omega (arith, lt, le)) is_on (here.0)
      ];
    }
      where
        here : CopyTried {T = ℕ} core.config v n p device m1 m2 (Err (Fault disk))
        here = subst (λ (x : Inner). CopyTried {T = ℕ} x.config v n p device m1 m2 (Err (Fault disk))) at (subst (λ (e : ShelfError). CopyTried {T = ℕ} l.config v n p device m1 m2 (Err e)) fault tried)

        earlier : (q : ℕ) → q < n → IsTrue (active core.config v q)
            → ((active core.config v n ≡ false) × (disk ≡ device)) ⊎ ((PlexBlamed core.config v n m1 m2 ⊎ PlexBlamed core.config v p m1 m2) × Rose (m1.disk_faults disk) (m2.disk_faults disk))
            → (PlexBlamed core.config v q m0 m2 ⊎ PlexBlamed core.config v p m0 m2) × Rose (m0.disk_faults disk) (m2.disk_faults disk)
        earlier q less is_on (inl off) =
            let was = so_far.tried q less is_on in
            (either q was.0, subst (λ (k : ℕ). Rose (m0.disk_faults k) (m2.disk_faults k)) (sym off.1) (Rose_after (m0.disk_faults device) (m1.disk_faults device) (m2.disk_faults device) was.1 (one_more.acts.disk_faults device)))
        earlier q less is_on (inr failed) =
            let was = so_far.tried q less is_on in
            (either q was.0, Rose_before (m0.disk_faults disk) (m1.disk_faults disk) (m2.disk_faults disk) (so_far.attaches.acts.disk_faults disk) failed.1)

        now : (q : ℕ) → q ≡ n → IsTrue (active core.config v q)
            → ((active core.config v n ≡ false) × (disk ≡ device)) ⊎ ((PlexBlamed core.config v n m1 m2 ⊎ PlexBlamed core.config v p m1 m2) × Rose (m1.disk_faults disk) (m2.disk_faults disk))
            → (PlexBlamed core.config v q m0 m2 ⊎ PlexBlamed core.config v p m0 m2) × Rose (m0.disk_faults disk) (m2.disk_faults disk)
        now q same_q is_on (inl off) = absurd (let on : IsTrue (active core.config v n) = subst (λ (k : ℕ). IsTrue (active core.config v k)) same_q is_on in let clash : false ≡ true = sym off.0 ∙ on in cc)
        now q same_q is_on (inr failed) = (
          subst (λ (k : ℕ). PlexBlamed core.config v k m0 m2 ⊎ PlexBlamed core.config v p m0 m2) (sym same_q) (newer n failed.0),
          Rose_before (m0.disk_faults disk) (m1.disk_faults disk) (m2.disk_faults disk) (so_far.attaches.acts.disk_faults disk) failed.1,
        )

-- a copy that failed with a fault leaves the shelf up
pub tried_up : (c : Config) (v source p device disk : ℕ) (error : ShelfError) (old new : Meaning) → error ≡ Fault disk → CopyTried {T = ℕ} c v source p device old new (Err error) → IsTrue new.down → ⊥
tried_up c v source p device disk error old new fault tried = (subst (λ (e : ShelfError). CopyTried {T = ℕ} c v source p device old new (Err e)) fault tried).1

-- behind the last one
pub sources_blame : (core : Inner) (v p : ℕ) (f : Option Missed) (n device : ℕ) (m0 m1 : Meaning) → SourcesTried core v p f n device m0 m1 → 8 ≤ n → v < length core.config.volumes → Blames {T = ℕ} m0 m1 (Err (Fault device))
sources_blame core v p f n device m0 m1 tried le lt =
    let some = some_active core m1 tried.stands v lt in
    let few : some.plex < 8 = active_few core.config (sound_of core m1 tried.stands) v some.plex some.is_on in
    ((tried.tried some.plex (omega (arith, few, le)) some.is_on).1, tried.up)

pub sources_all : (core : Inner) (v p : ℕ) (f : Option Missed) (n device : ℕ) (m0 m1 : Meaning) → SourcesTried core v p f n device m0 m1 → 8 ≤ n → (q : ℕ) → IsTrue (active core.config v q) → PlexBlamed core.config v q m0 m1 ⊎ PlexBlamed core.config v p m0 m1
sources_all core v p f n device m0 m1 tried le q is_on =
    let few : q < 8 = active_few core.config (sound_of core m1 tried.stands) v q is_on in
    (tried.tried q (omega (arith, few, le)) is_on).0
