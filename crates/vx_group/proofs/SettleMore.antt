-- What flushes, attaches and makings keep of images that say that a volume stopped cleanly.
use Rattle.std.proofs.Common.{◌≡◌, ◌∙◌, inl, inr, ⊎_elim, ℕ, ◌<◌, ◌≤◌, Bool, true, false, IsTrue, Option, Result, Ok, Err, arith, subst, sym, refl}
use Rattle.std.specs.Prelude.{IfErr}
use Rattle.vx_config.specs.Checks.{is_sound}
use Rattle.vx_config.specs.Table.{greatest}
use Rattle.vx_config.specs.declared.config.Config.{Config}
use Rattle.vx_disk.specs.Shelf.{Meaning}
use Rattle.vx_disk.specs.declared.shelf.ShelfError.{ShelfError}
use Rattle.vx_disk.specs.declared.shelf.ShelfError.TheVariants.{Fault, Down}
use Rattle.vx_fmr.specs.Missed.{Missed}
use Rattle.vx_kept.specs.Commits.{Member}
use Rattle.vx_kept.specs.Finds.{FindsFrom, NoConfiguration}
use Rattle.vx_kept.specs.Groups.{PlacesApart}
use Rattle.vx_kept.specs.Keeping.{Acts, SameShape}
use Rattle.vx_kept.proofs.Narrower.{stand_apart}
use Rattle.vx_kept.proofs.Steps.{inside_back}
use Rattle.vx_layout.specs.Places.{place}
use Rattle.vx_volume.specs.Plexes.{Inside, active}
use Rattle.vx_volume.proofs.UsesLemmas.{TherePlex}
use Rattle.vx_group.specs.Attaches.{AnyImage, OnMissed, attached}
use Rattle.vx_group.specs.Blames.{Blames}
use Rattle.vx_group.specs.Moves.{Narrows}
use Rattle.vx_group.specs.Quiesces.{GoesOnBy}
use Rattle.vx_group.specs.Settles.{CoreSettles, EndsSettled, FindsAlike, FindsNoneClean, KeepsAlike, KeepsSettled}
use Rattle.vx_group.specs.Stands.{InnerStands}
use Rattle.vx_group.specs.declared.inner.Inner.{Inner}
use Rattle.vx_group.proofs.MissingLemmas.{with_mark}
use Rattle.vx_group.proofs.OpeningLemmas.{open_on, open_shape, open_sound, open_wider}
use Rattle.vx_group.proofs.SettleCalls.{alike_behind, ends_behind, ends_told, header_less, headers_ended}
use Rattle.vx_group.proofs.SettleFinds.{NoMoreLeft, none_alike, none_still}

-- ---- disks that are down

pub down_settled : (d : Inner) (m m' : Meaning) → IsTrue m'.down → KeepsAlike m m' → EndsSettled d m m'
down_settled d m m' down alike = record { ends = λ was. record { alike = alike.alike was; none = λ up off v. absurd (up down) } }

-- a flush of a volume that stops the rest
pub leaves_settled : (d : Inner) (m m' : Meaning) (error : ShelfError) (r : Result (Unit {0}) ShelfError) → GoesOnBy error r → Blames {T = Unit {0}} m m' (Err error) → KeepsAlike m m' → IfErr r (λ e. EndsSettled d m m')
leaves_settled d m m' (Fault disk) (Ok x) on blames alike = tt
leaves_settled d m m' (Fault disk) (Err e) on blames alike = absurd on
leaves_settled d m m' Down (Ok x) on blames alike = absurd on
leaves_settled d m m' Down (Err (Fault disk)) on blames alike = absurd on
leaves_settled d m m' Down (Err Down) on blames alike = down_settled d m m' blames alike

-- ---- in a row

pub alike_ends : (d : Inner) (m m1 m2 : Meaning) → KeepsAlike m m1 → EndsSettled d m1 m2 → EndsSettled d m m2
alike_ends d m m1 m2 alike ends = record { ends = λ was. ends.ends (alike.alike was) }

pub ends_alike : (d : Inner) (m m' : Meaning) → EndsSettled d m m' → KeepsAlike m m'
ends_alike d m m' ends = record { alike = λ was. (ends.ends was).alike }

pub ends_kept : (d e : Inner) (m m1 m2 : Meaning) → EndsSettled d m m1 → KeepsSettled d e m1 m2 → EndsSettled e m m2
ends_kept d e m m1 m2 ends keeps = record { ends = λ alike. keeps.keeps (ends.ends alike) }

-- what a call leaves beside the flag does not count
pub as_ends : (d e : Inner) (m m' : Meaning) → e.unsettled ≡ d.unsettled → EndsSettled d m m' → EndsSettled e m m'
as_ends d e m m' flag ends = record { ends = λ alike. (let it = ends.ends alike in record { alike = it.alike; none = λ up off. it.none up (sym flag ∙ off) }) }

-- where no image has a plex that is CLEAN
pub none_alikes : (m m' : Meaning) → ((v : ℕ) → FindsNoneClean v m') → KeepsAlike m m'
none_alikes m m' none = record { alike = λ was v. none_alike v m' (none v) }

-- ---- a commit that takes a plex back

pub still_kept : (c : Inner) (m : Meaning) → KeepsSettled c c m m
still_kept c m = record { keeps = λ it. it }

pub missed_kept : (c s : Inner) (m m' : Meaning) → InnerStands c m → Narrows c s m m' → FindsFrom NoConfiguration m m' → s.unsettled ≡ true → KeepsSettled c s m m'
missed_kept c s m m' stands narrows finds missed = record { keeps = λ it. (headers_ended c s m m' stands narrows finds missed).ends it.alike }

pub behind_kept : (c s e : Inner) (m m1 m2 : Meaning) → InnerStands c m → Narrows c s m m1 → FindsFrom NoConfiguration m m1 → EndsSettled e m1 m2 → KeepsSettled c e m m2
behind_kept c s e m m1 m2 stands narrows finds ends = record { keeps = λ it. (ends_behind c s e m m1 m2 stands narrows finds ends).ends it.alike }

-- ---- a copy to a plex that is not ACTIVE

module _ (c : Config) (v p : ℕ) (f : Option Missed) (there : TherePlex c v p) (sound : is_sound c ≡ true) (off : active c v p ≡ false) (m m' : Meaning) (acts : Acts (OnMissed c v p f) AnyImage m m') where
  shape : SameShape (attached v p c) c
  shape = open_shape c v p there

  apart : PlacesApart (attached v p c)
  apart = stand_apart (attached v p c) (open_sound c v p there sound)

  pub copy_less : NoMoreLeft c m m'
  copy_less = record {
    each = λ w q b y on inside left. elim (acts.leaves _ _ y (high w q b on inside) left) [
      | inl was ↦ was
      | inr put ↦
          let d : Config = attached v p c in
          let one = apart.one w q b v p put.put.number (inside_back d c shape w b inside) (inside_back d c shape v put.put.number put.put.inside) (open_wider c v p there w q on) (open_on c v p there) (shape.place w q b ∙ sym put.put.at ∙ sym (shape.place v p put.put.number)) in
          let at : active c v p ≡ true = subst (λ (k : ℕ). active c k p ≡ true) one.0 (subst (λ (k : ℕ). active c w k ≡ true) one.1 on) in
          let clash : false ≡ true = sym off ∙ at in
          absurd (cc)
    ];
  }
    where
      high : (w q b : ℕ) → IsTrue (active c w q) → Inside c w b → 512 ≤ (place c w q b).1
      high w q b on inside = subst (λ (s : ℕ × ℕ). 512 ≤ s.1) (shape.place w q b) (apart.above w q b (inside_back (attached v p c) c shape w b inside) (open_wider c v p there w q on))

-- behind headers that were written back
module _ (c s : Inner) (m m1 m2 : Meaning) (stands : InnerStands c m) (narrows : Narrows c s m m1) (finds : FindsFrom NoConfiguration m m1) (behind : InnerStands s m1) (less : NoMoreLeft s.config m1 m2) (still : FindsFrom NoConfiguration m1 m2) where
  pub copied_alike : KeepsAlike m m2
  copied_alike = record {
    alike = λ was.
        alike_behind s.config (Member s.good m1) m1 m2 behind.kept less still (alike_behind c.config (Member c.good m) m m1 stands.kept (header_less c s m m1 stands narrows) finds was);
  }

  pub copied_ends : (e : Inner) (m3 : Meaning) → c.config.serial < greatest → EndsSettled e m2 m3 → CoreSettles c e m m3
  copied_ends e m3 more ends = ends_told c e m m3 (λ lacks. let spent = lacks.spent in omega (arith, more, spent)) (alike_ends e m m2 m3 copied_alike ends)

  -- in vain, where memory has the flag of before
  pub copied_missed : (d : Inner) → (IsTrue m.down → ⊥) → d.config.serial ≡ c.config.serial → CoreSettles c (with_mark d c.unsettled) m m2
  copied_missed d up serial = record {
    keeps = λ told. ⊎_elim
        (λ lacks. inl (record { missed = lacks.missed; spent = subst (λ (k : ℕ). greatest ≤ k) (sym serial) lacks.spent }))
        (λ it. inr (record { alike = copied_alike.alike it.alike; none = λ now off v. none_still v m1 m2 still (none_still v m m1 finds (it.none up off v)) }))
        told;
  }

-- ---- a volume that is made

module _ (c s d : Inner) (m m1 m2 : Meaning) (stands : InnerStands c m) (up : IsTrue m.down → ⊥) (more : c.config.serial < greatest) (narrows : Narrows c s m m1) (finds : FindsFrom NoConfiguration m m1) (alikes : KeepsAlike m1 m2) where
  made_alike : ((v : ℕ) → FindsAlike v m) → (v : ℕ) → FindsAlike v m2
  made_alike was = alikes.alike (alike_behind c.config (Member c.good m) m m1 stands.kept (header_less c s m m1 stands narrows) finds was)

  made_by : (((v : ℕ) → FindsNoneClean v m) → c.unsettled ≡ false → d.unsettled ≡ false → (v : ℕ) → FindsNoneClean v m2) → (c.unsettled ≡ true → d.unsettled ≡ false → (v : ℕ) → FindsNoneClean v m2) → CoreSettles c d m m2
  made_by off on = record {
    keeps = λ told. ⊎_elim
        (λ lacks. absurd (let spent = lacks.spent in omega (arith, more, spent)))
        (λ it. inr (record { alike = made_alike it.alike; none = λ now at. by c.unsettled refl (λ b. it.none up b) at }))
        told;
  }
    where
      by : (b : Bool) → c.unsettled ≡ b → (c.unsettled ≡ false → (v : ℕ) → FindsNoneClean v m) → d.unsettled ≡ false → (v : ℕ) → FindsNoneClean v m2
      by true is none at = on is at
      by false is none at = off (none is) is at

  -- done
  pub made_told : ((v : ℕ) → FindsNoneClean v m2) → CoreSettles c d m m2
  made_told none = made_by (λ was off at. none) (λ on at. none)

  -- in vain: a commit that is missed stays so
  pub made_marked : d.unsettled ≡ true → CoreSettles c d m m2
  made_marked missed = made_by (λ was off at. absurd (let clash : true ≡ false = sym missed ∙ at in cc)) (λ on at. absurd (let clash : true ≡ false = sym missed ∙ at in cc))

  pub made_missed : c.unsettled ≡ false → (((v : ℕ) → FindsNoneClean v m1) → d.unsettled ≡ false → (v : ℕ) → FindsNoneClean v m2) → CoreSettles c d m m2
  made_missed off none = made_by (λ was same at. none (λ v. none_still v m m1 finds (was v)) at) (λ on at. absurd (let clash : true ≡ false = sym on ∙ off in cc))
