-- What a deport that is refused keeps of images that say that a volume stopped cleanly.
use Rattle.std.proofs.Common.{◌≡◌, ◌∙◌, ◌⊎◌, inl, inr, ⊎_elim, ℕ, ◌<◌, ◌≤◌, Bool, true, false, IsTrue, Option, List, length, ap, arith, subst, sym, refl}
use Rattle.std.proofs.lemmas.Bool.{both_ways, cases_lt}
use Rattle.vx_config.specs.Table.{greatest}
use Rattle.vx_config.specs.declared.config.Config.{Config}
use Rattle.vx_config.specs.declared.entry.PlexEntry.{PlexEntry}
use Rattle.vx_config.specs.declared.entry.VolumeEntry.{VolumeEntry}
use Rattle.vx_config.specs.Checks.{blocks_of}
use Rattle.vx_disk.specs.Shelf.{Meaning, Nothing}
use Rattle.vx_kept.specs.Choice.{live}
use Rattle.vx_kept.specs.Cleans.{NoneClean, clean, clean_or, cleaned, is_unsure}
use Rattle.vx_kept.specs.Commits.{Member}
use Rattle.vx_kept.specs.Finds.{FindsFrom, IsTryOf, NoConfiguration}
use Rattle.vx_kept.specs.Groups.{OnSome}
use Rattle.vx_kept.specs.Keeping.{Acts, Sees}
use Rattle.vx_kept.proofs.Chosen.{live_volumes, place_volumes}
use Rattle.vx_kept.proofs.CleanLemmas.{AllClean, all_clean, none_clean}
use Rattle.vx_layout.specs.Places.{place, plex_at}
use Rattle.vx_volume.specs.Plexes.{Inside, active}
use Rattle.vx_group.specs.Deports.{IsVolumeOf}
use Rattle.vx_group.specs.Moves.{Narrows}
use Rattle.vx_group.specs.Quiesces.{Quiesced}
use Rattle.vx_group.specs.Settles.{ClosesSettled, CoreSettles, FindsAlike, KeepsAlike, LeavesSure, LivesAgree, ReadsOne, ReadsSure}
use Rattle.vx_group.specs.Stands.{InnerStands}
use Rattle.vx_group.specs.declared.inner.Inner.{Inner}
use Rattle.vx_group.proofs.MissLemmas.{narrows_reads}
use Rattle.vx_group.proofs.SettleCalls.{alike_behind, header_less, less_acts}
use Rattle.vx_group.proofs.SettleFinds.{NoMoreLeft, alike_by, clean_volumes}
use Rattle.vx_group.proofs.Standing.{apart_of_core}

-- ---- a commit by which plexes are CLEAN, in vain

module _ (c d : Inner) (m m' : Meaning) (stands : InnerStands c m) (acts : Acts Nothing (Sees c.config (Member c.good m) m) m m') (finds : FindsFrom (IsTryOf (cleaned c.unsure c.config (length c.config.volumes))) m m') (missed : d.unsettled ≡ true) where
  abbrev tried : Config
  tried = cleaned c.unsure c.config (length c.config.volumes)

  all : AllClean c.unsure (length c.config.volumes) c.config tried
  all = all_clean c.unsure (length c.config.volumes) c.config

  less : NoMoreLeft c.config m m'
  less = less_acts c.config (Sees c.config (Member c.good m) m) m m' (apart_of_core c m stands) acts

  module _ (leaves : LeavesSure c m) (x : Config) (it : IsTryOf tried x) (v : ℕ) where
    volumes : x.volumes ≡ tried.volumes
    volumes = ap (λ (y : Config). y.volumes) it

    -- a volume that is unsure has its plexes in the state of before
    clean_here : is_unsure c.unsure v ≡ true → (p : ℕ) → clean tried v p ≡ clean c.config v p
    unfolding clean
    clean_here mark p = ap clean_or (all.same v p (λ lt off. both_ways (is_unsure c.unsure v) off mark))

    module _ (low : v < length c.config.volumes) (sure : is_unsure c.unsure v ≡ false) where
      inside_c : (b : ℕ) → Inside x v b → Inside c.config v b
      inside_c b inside = record {
        volume = low;
        within = let lt = inside.within in let same : blocks_of x.volumes v ≡ blocks_of c.config.volumes v = ap (λ (vs : List VolumeEntry). blocks_of vs v) volumes ∙ all.alike.shape.blocks v in omega (arith, lt, same);
      }

      on_c : (p : ℕ) → IsTrue (live x v p) → IsTrue (live c.config v p)
      on_c p on = sym (live_volumes x tried volumes v p ∙ all.alike.lives v p) ∙ on

      back : (p b : ℕ) (y : List ℕ) → Inside x v b → IsTrue (live x v p) → m'.leaves (place x v p b).0 (place x v p b).1 y → m.leaves (place c.config v p b).0 (place c.config v p b).1 y
      back p b y inside on left =
          less.each v p b y (stands.on.each v p (on_c p on)) (inside_c b inside) (subst (λ (s : ℕ × ℕ). m'.leaves s.0 s.1 y) (place_volumes x tried volumes v p b ∙ all.alike.shape.place v p b) left)

      agree : LivesAgree x v m'
      agree = record {
        so = λ p q b y z inside on_p on_q at_p at_q. (leaves.each v low sure).so p q b y z (inside_c b inside) (on_c p on_p) (on_c q on_q) (back p b y inside on_p at_p) (back q b z inside on_q at_q);
      }

    beyond : length c.config.volumes ≤ v → LivesAgree x v m'
    beyond high = record {
      so = λ p q b y z inside on_p on_q at_p at_q. absurd (let lt = inside.volume in let one = ap (λ (vs : List VolumeEntry). length vs) volumes in let two = all.alike.shape.volumes in omega (arith, lt, one, two, high));
    }

    low_by : v < length c.config.volumes → (b : Bool) → is_unsure c.unsure v ≡ b → NoneClean x v ⊎ LivesAgree x v m'
    low_by low true mark = inl (record { each = λ p. clean_volumes x tried volumes v p ∙ clean_here mark p ∙ (none_clean c.config stands.on v).each p })
    low_by low false sure = inr (agree low sure)

    tried_so : NoneClean x v ⊎ LivesAgree x v m'
    tried_so = ⊎_elim (λ low. low_by low (is_unsure c.unsure v) refl) (λ high. inr (beyond high)) (cases_lt v (length c.config.volumes))

  pub closed_settled : ClosesSettled c d m m'
  closed_settled = record {
    closes = λ leaves was. record {
      alike = λ v. alike_by c.config (Member c.good m) m m' stands.kept less v (was v) (IsTryOf tried) (λ x it. tried_so leaves x it v) finds;
      none = λ up off v. absurd (both_ways d.unsettled off missed);
    };
  }

-- ---- what plexes read

-- behind commits and headers that were written back
pub reads_behind : (c d : Inner) (m m' : Meaning) → InnerStands c m → Narrows c d m m' → (IsTrue m'.down → ⊥) → ReadsSure c m → ReadsSure d m'
reads_behind c d m m' stands narrows up reads = record {
  each = λ v low sure. record {
    one = λ b x y at_x at_y.
        (reads.each v (low_c v low) (ap (λ (xs : List Bool). is_unsure xs v) (sym narrows.unsure) ∙ sure)).one b x y (back v b x at_x) (back v b y at_y);
  };
}
  where
    low_c : (v : ℕ) → v < length d.config.volumes → v < length c.config.volumes
    low_c v low = let same = narrows.shape.volumes in omega (arith, low, same)

    inside_c : (v b : ℕ) → Inside d.config v b → Inside c.config v b
    inside_c v b inside = record { volume = low_c v inside.volume; within = let lt = inside.within in let same = narrows.shape.blocks v in omega (arith, lt, same) }

    back : (v b : ℕ) (x : List ℕ) → OnSome d.config m'.reads v b x → OnSome c.config m.reads v b x
    back v b x some = record {
      inside = inside_c v b some.inside;
      plex = some.plex;
      is_on = narrows.on v some.plex some.is_on;
      value =
          narrows_reads c d m m' narrows up (place c.config v some.plex b).0 (place c.config v some.plex b).1 x ((apart_of_core c m stands).above v some.plex b (inside_c v b some.inside) (narrows.on v some.plex some.is_on))
          (subst (λ (s : ℕ × ℕ). m'.reads s.0 s.1 x) (narrows.shape.place v some.plex b) some.value);
    }

-- behind flushes of all volumes a crash leaves what was read
pub leaves_sure : (s fl : Inner) (m1 m2 : Meaning) → Quiesced s fl (IsVolumeOf s) m1 m2 → ReadsSure s m1 → LeavesSure fl m2
leaves_sure s fl m1 m2 it reads = record {
  each = λ v low sure. record {
    so = λ p q b y z inside on_p on_q at_p at_q.
        (reads.each v (low_s v low) (it.quiesces.sure v sure)).one b y z (some v low sure p b y inside on_p at_p) (some v low sure q b z inside on_q at_q);
  };
}
  where
    low_s : (v : ℕ) → v < length fl.config.volumes → v < length s.config.volumes
    low_s v low = let same = it.quiesces.shape.volumes in omega (arith, low, same)

    some : (v : ℕ) → v < length fl.config.volumes → is_unsure fl.unsure v ≡ false → (p b : ℕ) (y : List ℕ) → Inside fl.config v b → IsTrue (live fl.config v p) → m2.leaves (place fl.config v p b).0 (place fl.config v p b).1 y → OnSome s.config m1.reads v b y
    some v low sure p b y inside on left =
        let on_fl : IsTrue (active fl.config v p) = it.stands.on.each v p on in
        let inside_s : Inside s.config v b = record { volume = low_s v low; within = let lt = inside.within in let same = it.quiesces.shape.blocks v in omega (arith, lt, same) } in
        record {
          inside = inside_s;
          plex = p;
          is_on = it.quiesces.on v p on_fl;
          value = (it.quiesces.flushed v p (low_s v low) sure on_fl).each b y inside_s (subst (λ (s : ℕ × ℕ). m2.leaves s.0 s.1 y) (it.quiesces.shape.place v p b) left);
        }

-- ---- headers, flushes, and that commit in vain

pub closed_told : (c s fl d : Inner) (m m1 m2 m3 : Meaning) → InnerStands c m → c.config.serial < greatest → Narrows c s m m1 → FindsFrom NoConfiguration m m1 → KeepsAlike m1 m2 → LeavesSure fl m2 → ClosesSettled fl d m2 m3 → CoreSettles c d m m3
closed_told c s fl d m m1 m2 m3 stands more narrows finds alikes leaves closes = record {
  keeps = λ told. ⊎_elim
      (λ lacks. absurd (let spent = lacks.spent in omega (arith, more, spent)))
      (λ it. inr (closes.closes leaves (alikes.alike (alike_behind c.config (Member c.good m) m m1 stands.kept (header_less c s m m1 stands narrows) finds it.alike))))
      told;
}
