-- Plexes that calls take out of use, in one call and in two in a row.
use Rattle.std.proofs.Common.{◌≡◌, ◌⊎◌, inl, inr, ℕ, ◌<◌, ◌≤◌, Bool, true, false, IsTrue, refl, ap, sym, ◌∙◌, subst, arith}
use Rattle.std.proofs.lemmas.Bool.{cases_eq}
use Rattle.vx_disk.specs.Blocks.{bit_at}
use Rattle.vx_disk.specs.Shelf.{Meaning}
use Rattle.vx_config.specs.declared.config.Config.{Config}
use Rattle.vx_copies.specs.Commits.{Grown, MoreFailed}
use Rattle.vx_layout.specs.Places.{plex_at}
use Rattle.vx_volume.specs.Plexes.{active, active_or, uses, uses_or}
use Rattle.vx_volume.specs.Volumes.{PlexBlamed}
use Rattle.vx_kept.specs.States.{staled}
use Rattle.vx_kept.specs.Keeping.{SameShape, frame_at}
use Rattle.vx_kept.proofs.Chosen.{active_volumes, frames_volumes}
use Rattle.vx_resync.proofs.CauseLemmas.{blamed_since}
use Rattle.vx_group.specs.Loses.{LosesAlong, LosesPlexes, SameParts}
use Rattle.vx_group.specs.Settled.{SameBut}
use Rattle.vx_group.proofs.FailingLemmas.{no_failing, then_failing}
use Rattle.vx_group.proofs.UsesLemmas.{blamed_before, blamed_by, uses_staled, uses_volumes}

pub le_same : (n : ℕ) → n ≤ n
le_same n = omega arith

pub le_less : (a b : ℕ) → a < b → a ≤ b
le_less a b lt = omega (arith, lt)

pub then_parts : (c d e : Config) → SameParts c d → SameParts d e → SameParts c e
then_parts c d e one two = record {
  site = two.site ∙ one.site;
  rvg = two.rvg ∙ one.rvg;
  count = two.count ∙ one.count;
  later = (let first = one.later in let second = two.later in omega (arith, first, second));
}

pub none_parts : (c : Config) → SameParts c c
none_parts c = record { site = refl; rvg = refl; count = refl; later = le_same c.serial }

pub but_parts : (c d : Config) → SameBut c d → SameParts c d
but_parts c d same = record { site = same.site; rvg = same.rvg; count = same.count; later = (let is = same.serial in omega (arith, is)) }

pub grown_parts : (old new : Meaning) (c d : Config) → Grown old new c d → c.serial < d.serial → SameParts c d
grown_parts old new c d grown later = record { site = grown.site; rvg = grown.rvg; count = grown.disks.count; later = le_less c.serial d.serial later }

pub loses_none : (c d : Config) (m m' : Meaning) → d.volumes ≡ c.volumes → MoreFailed m m' c.disks d.disks → SameParts c d → LosesPlexes c d m m'
loses_none c d m m' volumes more parts = record { parts = parts; frames = frames_volumes d c volumes; lies = uses_volumes c d volumes; on = λ v p is. inl (sym (active_volumes d c volumes v p) ∙ is); plexes = λ v p is. inl (active_volumes d c volumes v p ∙ is); disks = more }

pub loses_same : (c : Config) (m m' : Meaning) → LosesPlexes c c m m'
loses_same c m m' = loses_none c c m m' refl (no_failing m m' c.disks c.disks refl) (none_parts c)

-- where each plex is as it was, and flags of logs changed alone
pub loses_plexes : (c d : Config) (m m' : Meaning) → ((v : ℕ) → frame_at d v ≡ frame_at c v) → ((v p : ℕ) → plex_at d v p ≡ plex_at c v p) → MoreFailed m m' c.disks d.disks → SameParts c d → LosesPlexes c d m m'
unfolding active uses
loses_plexes c d m m' frames plexes more parts = record {
  parts = parts;
  frames = frames;
  lies = λ v p u. ap (uses_or u) (plexes v p);
  on = λ v p is. inl (sym (ap active_or (plexes v p)) ∙ is);
  plexes = λ v p is. inl (ap active_or (plexes v p) ∙ is);
  disks = more;
}

pub staled_lies : (v set : ℕ) (c d : Config) → d.volumes ≡ (staled v set c 8).volumes → (w p u : ℕ) → uses d w p u ≡ uses c w p u
staled_lies v set c d volumes w p u = uses_volumes (staled v set c 8) d volumes w p u ∙ uses_staled v set c 8 w p u

module _ (m0 m1 m2 : Meaning) (one : (u : ℕ) → m0.faults u ≤ m1.faults u) (two : (u : ℕ) → m1.faults u ≤ m2.faults u) where
  pub then_loses : (c d e : Config) → LosesPlexes c d m0 m1 → LosesPlexes d e m1 m2 → LosesPlexes c e m0 m2
  then_loses c d e first second = record {
    parts = then_parts c d e first.parts second.parts;
    frames = λ v. second.frames v ∙ first.frames v;
    lies = λ v p u. second.lies v p u ∙ first.lies v p u;
    on = λ v p is. elim (second.on v p is) [
      | inl on ↦ elim (first.on v p on) [
        | inl still ↦ inl still
        | inr any ↦ inr (any.0, blamed_before c v any.0 m0 m1 m2 two any.1)
      ]
      | inr any ↦ inr (any.0, blamed_since c v any.0 m0 m1 m2 one (blamed_by c d v any.0 m1 m2 (first.lies v any.0) any.1))
    ];
    plexes = λ v p is. elim (first.plexes v p is) [
      | inl on ↦ elim (second.plexes v p on) [
        | inl still ↦ inl still
        | inr blamed ↦ inr (blamed_since c v p m0 m1 m2 one (blamed_by c d v p m1 m2 (first.lies v p) blamed))
      ]
      | inr blamed ↦ inr (blamed_before c v p m0 m1 m2 two blamed)
    ];
    disks = then_failing m0 m1 m2 one two c.disks d.disks e.disks first.disks second.disks;
  }

  -- plexes that failed in a first call are detached by a second one
  pub loses_detach : (c d : Config) (v set : ℕ) → ((p : ℕ) → bit_at set p ≡ true → PlexBlamed c v p m0 m1) → ((w p u : ℕ) → uses d w p u ≡ uses c w p u)
      → ((w p : ℕ) → (w ≡ v → bit_at set p ≡ true → ⊥) → active d w p ≡ active c w p) → MoreFailed m1 m2 c.disks d.disks → SameParts c d → SameShape d c → ((w p : ℕ) → IsTrue (active d w p) → IsTrue (active c w p)) → LosesPlexes c d m0 m2
  loses_detach c d v set blamed lies others more parts shape narrower = record {
    on = λ w p is. inl (narrower w p is);
    parts = parts;
    frames = shape.frames;
    lies = lies;
    plexes = λ w p is. elim (cases_eq w v) [
      | inl same ↦ by w p is same (bit_at set p) refl
      | inr apart ↦ inl (others w p (λ at bit. apart at) ∙ is)
    ];
    disks = then_failing m0 m1 m2 one two c.disks c.disks d.disks (no_failing m0 m1 c.disks c.disks refl) more;
  }
    where
      by : (w p : ℕ) → IsTrue (active c w p) → w ≡ v → (b : Bool) → bit_at set p ≡ b → IsTrue (active d w p) ⊎ PlexBlamed c w p m0 m2
      by w p is same true bit = inr (subst (λ (y : ℕ). PlexBlamed c y p m0 m2) (sym same) (blamed_before c v p m0 m1 m2 two (blamed p bit)))
      by w p is same false bit = inl (others w p (λ at on. let clash : false ≡ true = sym bit ∙ on in cc) ∙ is)

-- ---- calls in a row, of which no count of a unit falls

pub then_along : (c d e : Config) (m0 m1 m2 : Meaning) → LosesAlong c d m0 m1 → LosesAlong d e m1 m2 → LosesAlong c e m0 m2
then_along c d e m0 m1 m2 one two = record {
  loses = then_loses m0 m1 m2 one.rises two.rises c d e one.loses two.loses;
  rises = λ u. let first = one.rises u in let second = two.rises u in omega (arith, first, second);
}

-- the configuration is as it was
pub along_same : (c : Config) (m m' : Meaning) → ((u : ℕ) → m.faults u ≤ m'.faults u) → LosesAlong c c m m'
along_same c m m' rises = record { loses = loses_same c m m'; rises = rises }

pub along_none : (c : Config) (m : Meaning) → LosesAlong c c m m
along_none c m = along_same c m m (λ u. omega arith)

-- counted from an earlier moment
pub loses_later : (c d : Config) (m0 m1 m2 : Meaning) → ((u : ℕ) → m0.faults u ≤ m1.faults u) → ((u : ℕ) → m1.faults u ≤ m2.faults u) → LosesPlexes c d m1 m2 → LosesPlexes c d m0 m2
loses_later c d m0 m1 m2 one two second = then_loses m0 m1 m2 one two c c d (loses_same c m0 m1) second
