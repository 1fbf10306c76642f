-- What calls keep of images that say of a volume that it stopped cleanly.
use Rattle.std.proofs.Common.{◌≡◌, ◌∙◌, ◌⊎◌, inl, inr, ⊎_elim, ℕ, ◌<◌, ◌≤◌, Bool, true, false, IsTrue, arith, subst, sym, refl}
use Rattle.vx_config.specs.Table.{greatest}
use Rattle.vx_config.specs.declared.config.Config.{Config}
use Rattle.vx_disk.specs.Moves.{Says}
use Rattle.vx_disk.specs.Shelf.{Goes, Meaning, Nothing}
use Rattle.vx_kept.specs.Commits.{IsCommitted, Member}
use Rattle.vx_kept.specs.Facts.{KeptFact}
use Rattle.vx_kept.specs.Finds.{FindsFrom, IsTryOf, NoConfiguration}
use Rattle.vx_kept.specs.Groups.{PlacesApart}
use Rattle.vx_kept.specs.Keeping.{Acts, AllOn, Sees}
use Rattle.vx_group.specs.Moves.{Narrows}
use Rattle.vx_group.specs.Settles.{CleanSettled, CleansTold, CoreSettles, EndsSettled, FindsAlike, KeepsAlike, LacksCommit}
use Rattle.vx_group.specs.Stands.{InnerStands}
use Rattle.vx_group.specs.declared.inner.Inner.{Inner}
use Rattle.vx_group.proofs.SettleFinds.{NoMoreLeft, alike_still, alike_tried, none_alike, none_done, none_still}
use Rattle.vx_group.proofs.Standing.{apart_of_core}

not_missed : (b : Bool) → b ≡ true → b ≡ false → ⊥
not_missed true is off = let clash : true ≡ false = off in cc
not_missed false is off = let clash : false ≡ true = is in cc

-- calls that put no block of a plex
pub less_acts : (c : Config) (during : Says) (m m' : Meaning) → PlacesApart c → Acts Nothing during m m' → NoMoreLeft c m m'
less_acts c during m m' apart acts = record {
  each = λ v p b y on inside left. ⊎_elim (λ was. was) (λ none. absurd none) (acts.leaves _ _ y (apart.above v p b inside on) left);
}

pub less_goes : (c : Config) (m m' : Meaning) → Goes Nothing m m' → NoMoreLeft c m m'
less_goes c m m' goes = record { each = λ v p b y on inside left. ⊎_elim (λ was. was) (λ none. absurd none) (goes.leaves _ _ y left) }

-- ---- plexes that are alike

pub alike_behind : (c : Config) (good : ℕ → Type 0) (m m' : Meaning) → KeptFact c good m → NoMoreLeft c m m' → FindsFrom NoConfiguration m m' → ((v : ℕ) → FindsAlike v m) → (v : ℕ) → FindsAlike v m'
alike_behind c good m m' kept less finds alike v = alike_still c good m m' kept less v (alike v) finds

-- where no commit is missed, whatever is written
pub alike_told : (c : Inner) (m m' : Meaning) → (IsTrue m.down → ⊥) → c.unsettled ≡ false → FindsFrom NoConfiguration m m' → CleansTold c m → (v : ℕ) → FindsAlike v m'
alike_told c m m' up off finds (inl lacks) v = absurd (not_missed c.unsettled lacks.missed off)
alike_told c m m' up off finds (inr it) v = none_alike v m' (none_still v m m' finds (it.none up off v))

-- ---- commits

-- one that is done
pub done_settled : (d : Inner) (m m' : Meaning) → AllOn d.config → IsCommitted d.config m' → EndsSettled d m m'
done_settled d m m' on committed = record {
  ends = λ alike. record {
    alike = λ v. none_alike v m' (none_done d.config v m' on committed);
    none = λ up off v. none_done d.config v m' on committed;
  };
}

-- one that is refused
pub left_settled : (a c : Config) (good : ℕ → Type 0) (d : Inner) (m m' : Meaning) → AllOn a → KeptFact c good m → NoMoreLeft c m m' → FindsFrom (IsTryOf a) m m' → d.unsettled ≡ true → EndsSettled d m m'
left_settled a c good d m m' on kept less finds missed = record {
  ends = λ alike. record {
    alike = λ v. alike_tried c good m m' kept less v (alike v) a on finds;
    none = λ up off v. absurd (not_missed d.unsettled missed off);
  };
}

-- calls that write no plex, and then one
pub before_settled : (d : Inner) (m m1 m2 : Meaning) → (((v : ℕ) → FindsAlike v m) → (v : ℕ) → FindsAlike v m1) → EndsSettled d m1 m2 → EndsSettled d m m2
before_settled d m m1 m2 first ends = record { ends = λ alike. ends.ends (first alike) }

-- as a serial was left for it
pub ends_told : (c d : Inner) (m m' : Meaning) → (LacksCommit c → ⊥) → EndsSettled d m m' → CoreSettles c d m m'
ends_told c d m m' can ends = record { keeps = λ told. ⊎_elim (λ lacks. absurd (can lacks)) (λ it. inr (ends.ends it.alike)) told }

-- behind calls while no commit was missed
pub wrote_told : (c d : Inner) (m m1 m2 : Meaning) → (IsTrue m.down → ⊥) → c.unsettled ≡ false → FindsFrom NoConfiguration m m1 → EndsSettled d m1 m2 → CoreSettles c d m m2
wrote_told c d m m1 m2 up off finds ends = record { keeps = λ told. inr (ends.ends (alike_told c m m1 up off finds told)) }

-- ---- calls without a commit

-- nothing is called
pub same_told : (c : Inner) (m : Meaning) → CoreSettles c c m m
same_told c m = record { keeps = λ told. told }

pub then_told : (c d e : Inner) (m m1 m2 : Meaning) → CoreSettles c d m m1 → CoreSettles d e m1 m2 → CoreSettles c e m m2
then_told c d e m m1 m2 one two = record { keeps = λ told. two.keeps (one.keeps told) }

-- what a call leaves beside the serial and the flag does not count
pub as_told : (c d e : Inner) (m m' : Meaning) → e.config.serial ≡ d.config.serial → e.unsettled ≡ d.unsettled → CoreSettles c d m m' → CoreSettles c e m m'
as_told c d e m m' serial flag it = record {
  keeps = λ told. ⊎_elim
      (λ lacks. inl (record { missed = flag ∙ lacks.missed; spent = subst (λ (k : ℕ). greatest ≤ k) (sym serial) lacks.spent }))
      (λ is. inr (record { alike = is.alike; none = λ up off. is.none up (sym flag ∙ off) }))
      (it.keeps told);
}

-- memory has the serial and the flag that it had; where a commit is missed plexes stay alike, or no serial is left
module _ (c d : Inner) (m m' : Meaning) (serial : d.config.serial ≡ c.config.serial) (flag : d.unsettled ≡ c.unsettled) (finds : FindsFrom NoConfiguration m m') where
  lacks_still : LacksCommit c → LacksCommit d
  lacks_still lacks = record { missed = flag ∙ lacks.missed; spent = subst (λ (k : ℕ). greatest ≤ k) (sym serial) lacks.spent }

  -- on disks that are up
  module _ (up : IsTrue m.down → ⊥) (quiet : c.unsettled ≡ true → ((v : ℕ) → FindsAlike v m) → LacksCommit d ⊎ ((v : ℕ) → FindsAlike v m')) where
    told_by : CleanSettled c m → (b : Bool) → c.unsettled ≡ b → CleansTold d m'
    told_by it false off = inr (record {
      alike = λ v. none_alike v m' (none_still v m m' finds (it.none up off v));
      none = λ still same v. none_still v m m' finds (it.none up off v);
    })
    told_by it true on = ⊎_elim
        (λ lacks. inl lacks)
        (λ alike. inr (record { alike = alike; none = λ still off v. absurd (not_missed d.unsettled (flag ∙ on) off) }))
        (quiet on it.alike)

    pub stays_told : CoreSettles c d m m'
    stays_told = record { keeps = λ told. ⊎_elim (λ lacks. inl (lacks_still lacks)) (λ it. told_by it c.unsettled refl) told }

  -- no plex is written
  module _ (good : ℕ → Type 0) (kept : KeptFact c.config good m) (less : NoMoreLeft c.config m m') (falls : IsTrue m.down → IsTrue m'.down) where
    quiet_settled : CleanSettled c m → CleanSettled d m'
    quiet_settled it = record {
      alike = alike_behind c.config good m m' kept less finds it.alike;
      none = λ up off v. none_still v m m' finds (it.none (λ down. up (falls down)) (sym flag ∙ off) v);
    }

    pub quiet_told : CoreSettles c d m m'
    quiet_told = record { keeps = λ told. ⊎_elim (λ lacks. inl (lacks_still lacks)) (λ it. inr (quiet_settled it)) told }

-- calls that write nothing
pub idle_told : (c d : Inner) (good : ℕ → Type 0) (m m' : Meaning) → d.config.serial ≡ c.config.serial → d.unsettled ≡ c.unsettled → KeptFact c.config good m → Goes Nothing m m' → FindsFrom NoConfiguration m m' → CoreSettles c d m m'
idle_told c d good m m' serial flag kept goes finds = quiet_told c d m m' serial flag finds good kept (less_goes c.config m m' goes) goes.falls

-- and of plexes alone
pub idle_alike : (c : Inner) (m m' : Meaning) → InnerStands c m → Goes Nothing m m' → FindsFrom NoConfiguration m m' → KeepsAlike m m'
idle_alike c m m' stands goes finds = record { alike = alike_behind c.config (Member c.good m) m m' stands.kept (less_goes c.config m m' goes) finds }

pub same_alike : (m : Meaning) → KeepsAlike m m
same_alike m = record { alike = λ was. was }

pub then_alike : (m m1 m2 : Meaning) → KeepsAlike m m1 → KeepsAlike m1 m2 → KeepsAlike m m2
then_alike m m1 m2 one two = record { alike = λ was. two.alike (one.alike was) }

-- ---- headers that are written back

pub header_less : (c s : Inner) (m m' : Meaning) → InnerStands c m → Narrows c s m m' → NoMoreLeft c.config m m'
header_less c s m m' stands narrows = less_acts c.config (Sees c.config (Member c.good m) m) m m' (apart_of_core c m stands) narrows.acts

-- in vain
pub headers_missed : (c s : Inner) (m m' : Meaning) → InnerStands c m → Narrows c s m m' → s.config.serial ≡ c.config.serial → FindsFrom NoConfiguration m m' → s.unsettled ≡ true → CoreSettles c s m m'
headers_missed c s m m' stands narrows serial finds missed = record {
  keeps = λ told. ⊎_elim
      (λ lacks. inl (record { missed = missed; spent = subst (λ (k : ℕ). greatest ≤ k) (sym serial) lacks.spent }))
      (λ it. inr (record {
        alike = alike_behind c.config (Member c.good m) m m' stands.kept (header_less c s m m' stands narrows) finds it.alike;
        none = λ up off v. absurd (not_missed s.unsettled missed off);
      }))
      told;
}

-- before a commit
pub settled_behind : (c s e : Inner) (m m1 m2 : Meaning) → InnerStands c m → c.config.serial < greatest → Narrows c s m m1 → FindsFrom NoConfiguration m m1 → EndsSettled e m1 m2 → CoreSettles c e m m2
settled_behind c s e m m1 m2 stands more narrows finds ends =
    ends_told c e m m2 (λ lacks. let spent = lacks.spent in omega (arith, more, spent))
    (before_settled e m m1 m2 (λ alike. alike_behind c.config (Member c.good m) m m1 stands.kept (header_less c s m m1 stands narrows) finds alike) ends)

-- the same where the call is one that ends with a commit
pub headers_ended : (c s : Inner) (m m' : Meaning) → InnerStands c m → Narrows c s m m' → FindsFrom NoConfiguration m m' → s.unsettled ≡ true → EndsSettled s m m'
headers_ended c s m m' stands narrows finds missed = record {
  ends = λ alike. record {
    alike = alike_behind c.config (Member c.good m) m m' stands.kept (header_less c s m m' stands narrows) finds alike;
    none = λ up off v. absurd (not_missed s.unsettled missed off);
  };
}

pub ends_behind : (c s e : Inner) (m m1 m2 : Meaning) → InnerStands c m → Narrows c s m m1 → FindsFrom NoConfiguration m m1 → EndsSettled e m1 m2 → EndsSettled e m m2
ends_behind c s e m m1 m2 stands narrows finds ends =
    before_settled e m m1 m2 (λ alike. alike_behind c.config (Member c.good m) m m1 stands.kept (header_less c s m m1 stands narrows) finds alike) ends
