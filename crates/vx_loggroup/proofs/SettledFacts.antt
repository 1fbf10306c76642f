-- What images say of volumes that stopped cleanly, as facts and back, behind the calls of a group with logs.
use Rattle.std.proofs.Common.{◌≡◌, ◌∙◌, ◌⊎◌, inl, inr, ⊎_elim, ℕ, zero, suc, ◌<◌, ◌≤◌, ◌+◌, [], ◌∷◌, Bool, true, false, IsTrue, Option, Some, None, List, length, ap, arith, refl, subst, sym}
use Rattle.std.specs.Prelude.{Err, IfOk, Ok, OnOk, Result, slice_get}
use Rattle.std.proofs.lemmas.Bool.{both_ways, cases_eq, cases_lt}
use Rattle.std.proofs.lemmas.Option.{slice_get_within}
use Rattle.vx_config.specs.Table.{greatest}
use Rattle.vx_config.specs.declared.config.Config.{Config}
use Rattle.vx_config.specs.declared.entry.PlexEntry.{PlexEntry}
use Rattle.vx_config.specs.declared.entry.VolumeEntry.{VolumeEntry}
use Rattle.vx_copyfmt.specs.Imports.{Found}
use Rattle.vx_disk.specs.Racks.{Alike}
use Rattle.vx_disk.specs.Shelf.{Each, Goes, Image, Lawful, Meaning, Nothing, Values}
use Rattle.vx_group.specs.Finds.{GroupFinds, MoreUnsure}
use Rattle.vx_group.specs.Holding.{GroupStands, wide}
use Rattle.vx_group.specs.Makes.{MakeEnds, make_refusal}
use Rattle.vx_group.specs.Settles.{CleanSettled, CleansTold, CoreSettles, FindsNoneClean, LacksCommit, LivesAgree, ReadsSure}
use Rattle.vx_group.specs.Stands.{inner_meaning}
use Rattle.vx_group.specs.declared.group_core.GroupCore.{GroupCore}
use Rattle.vx_group.specs.declared.inner.Inner.{Inner}
use Rattle.vx_group.proofs.FindingLemmas.{marked_group, quiet_finds}
use Rattle.vx_group.proofs.HoldLemmas.{wide_shape, wide_none}
use Rattle.vx_group.proofs.UnsureMarks.{same_unsure}
use Rattle.vx_kept.specs.Cleans.{NoneClean, clean, clean_or, is_unsure}
use Rattle.vx_kept.specs.Groups.{found}
use Rattle.vx_kept.proofs.Low.{found_same}
use Rattle.vx_layout.specs.Places.{plex_in}
use Rattle.vx_layout.specs.declared.shape.Shape.{Shape}
use Rattle.vx_model.specs.declared.errors.Stop.{Stop}
use Rattle.vx_model.specs.declared.errors.Stop.TheVariants.{No as Refused, OutOfMemory}
use Rattle.vx_model.specs.declared.no.No.{No}
use Rattle.vx_loggroup.specs.LoggedVolumes.{is_alike, LoggedStands}
use Rattle.vx_loggroup.specs.Settled.{CleanFact, SettledFact, SureFlags}
use Rattle.vx_loggroup.proofs.MadeLogs.{long_one}
use Rattle.vx_logs.specs.declared.logs.Logs.{Logs}
use Rattle.vx_loggroup.proofs.SetLemmas.{item_at}
use Rattle.vx_kept.specs.Finds.{AllAtOnce}
use Rattle.vx_kept.specs.Keeping.{AllOn}
use Rattle.vx_kept.proofs.CleanLemmas.{none_clean}
use Rattle.vx_group.proofs.SettleFinds.{clean_volumes, none_done}
use Rattle.vx_group.specs.Creates.{IsNewGroup}
use Rattle.vx_group.specs.Blames.{MarksOrFell}
use Rattle.vx_disk.specs.Causes.{Cause}
use Rattle.vx_disk.specs.declared.shelf.ShelfError.{ShelfError}
use Rattle.vx_disk.specs.declared.shelf.ShelfError.TheVariants.{Down, Fault}

-- ---- facts, and back

-- a test that fails from n on passes somewhere, or nowhere
seek : (A : Type 0) (test : ℕ → Bool) (n : ℕ) → ((p : ℕ) → n ≤ p → test p ≡ false) → ((p : ℕ) → test p ≡ true → A) → ((p : ℕ) → test p ≡ false) ⊎ A
seek A test zero high on = inl (λ p. high p (omega arith))
seek A test (suc n) high on =
    by (test n) refl
    (λ off. seek A test n
    (λ p le. elim (cases_lt n p) [
      | inl lt ↦ high p (omega (arith, lt))
      | inr ge ↦ let same : p ≡ n = omega (arith, le, ge) in ap test same ∙ off
    ])
    on)
  where
    by : (b : Bool) → test n ≡ b → (test n ≡ false → ((p : ℕ) → test p ≡ false) ⊎ A) → ((p : ℕ) → test p ≡ false) ⊎ A
    by true is rest = inr (on n is)
    by false is rest = rest is

-- how many plexes a volume has
abbrev pub count_or : Option VolumeEntry → ℕ
count_or None = 0
count_or (Some e) = length e.plexes

-- beyond them there is none
pub plex_high : (o : Option VolumeEntry) (p : ℕ) → count_or o ≤ p → plex_in o p ≡ None
plex_high None p high = refl
plex_high (Some e) p high = by (slice_get e.plexes p) refl
  where
    by : (o : Option PlexEntry) → slice_get e.plexes p ≡ o → slice_get e.plexes p ≡ None
    by None at = at
    by (Some x) at = absurd (let lt = slice_get_within e.plexes p x at in omega (arith, lt, high))

clean_high : (o : Option VolumeEntry) (p : ℕ) → count_or o ≤ p → clean_or (plex_in o p) ≡ false
clean_high o p high = ap clean_or (plex_high o p high)

-- a volume has a plex that is CLEAN, or none
clean_any : (A : Type 0) (x : Config) (v : ℕ) → ((p : ℕ) → clean x v p ≡ true → A) → NoneClean x v ⊎ A
unfolding clean
clean_any A x v on = ⊎_elim (λ none. inl (record { each = none })) (λ is. inr is)
    (seek A (λ p. clean_or (plex_in (slice_get x.volumes v) p)) (count_or (slice_get x.volumes v)) (clean_high (slice_get x.volumes v)) on)

pub settled_of : (c : Inner) (m : Meaning) → CleanFact c m → CleanSettled c m
settled_of c m fact = record {
  alike = λ v. record { each = λ i x each is. clean_any (LivesAgree x v m) x v (λ p on. fact.agree v p i x each is on) };
  none = fact.none;
}

fact_of : (c : Inner) (m : Meaning) → CleanSettled c m → CleanFact c m
fact_of c m it = record {
  agree = λ v p i x each is on. elim ((it.alike v).each i x each is) [
    | inl none ↦ absurd (both_ways (clean x v p) (none.each p) on)
    | inr agree ↦ agree
  ];
  none = it.none;
}

-- a group lacks a commit, or it does not
pub told_of : (core : GroupCore) (alike : List Bool) (m : Meaning) → SettledFact core alike m → CleansTold (wide core) m
told_of core alike m fact = by (wide core).unsettled refl
  where
    not_spent : (wide core).config.serial < greatest → LacksCommit (wide core) → ⊥
    not_spent left lacks = let spent = lacks.spent in omega (arith, left, spent)

    by : (b : Bool) → (wide core).unsettled ≡ b → CleansTold (wide core) m
    by false off = inr (settled_of (wide core) m (fact.told (λ lacks. both_ways (wide core).unsettled off lacks.missed)))
    by true missed = ⊎_elim (λ left. inr (settled_of (wide core) m (fact.told (not_spent left)))) (λ spent. inl (record { missed = missed; spent = spent })) (cases_lt (wide core).config.serial greatest)

fact_told : (core : GroupCore) (m : Meaning) → CleansTold (wide core) m → (LacksCommit (wide core) → ⊥) → CleanFact (wide core) m
fact_told core m told free = ⊎_elim (λ lacks. absurd (free lacks)) (λ it. fact_of (wide core) m it) told

-- ---- calls

-- behind a call
pub settled_by : (c d : GroupCore) (a b : List Bool) (m m' : Meaning) → CoreSettles (wide c) (wide d) m m' → ((IsTrue m'.down → ⊥) → SureFlags (length d.inner.config.volumes) d.inner.unsure b) → SettledFact c a m → SettledFact d b m'
settled_by c d a b m m' settles sure fact = record { told = fact_told d m' (settles.keeps (told_of c a m fact)); sure = sure }

-- flags that were set stay so, and what is unsure stays so
pub sure_next : (n k : ℕ) (u u' a b : List Bool) → k ≤ n → MoreUnsure u u' → ((v : ℕ) → is_unsure u' v ≡ false → is_alike a v ≡ true → is_alike b v ≡ true) → SureFlags n u a → SureFlags k u' b
sure_next n k u u' a b less more set sure = record { each = λ v lt is. set v is (sure.each v (omega (arith, lt, less)) (more v is)) }

pub settled_next : (c d : GroupCore) (a b : List Bool) (m m' : Meaning) → GroupFinds c d m m' → length d.inner.config.volumes ≤ length c.inner.config.volumes → (IsTrue m.down → IsTrue m'.down)
    → ((IsTrue m'.down → ⊥) → (v : ℕ) → is_unsure d.inner.unsure v ≡ false → is_alike a v ≡ true → is_alike b v ≡ true) → SettledFact c a m → SettledFact d b m'
settled_next c d a b m m' finds few falls set fact =
    settled_by c d a b m m' finds.settles
    (λ up. sure_next (length c.inner.config.volumes) (length d.inner.config.volumes) c.inner.unsure d.inner.unsure a b few finds.unsure (set up) (fact.sure (λ down. up (falls down)))) fact

-- where a call leaves all flags
pub settled_same : (c d : GroupCore) (a : List Bool) (m m' : Meaning) → GroupFinds c d m m' → length d.inner.config.volumes ≤ length c.inner.config.volumes → (IsTrue m.down → IsTrue m'.down) → SettledFact c a m → SettledFact d a m'
settled_same c d a m m' finds few falls fact = settled_next c d a a m m' finds few falls (λ up v is set. set) fact

-- a call makes no volume
pub volumes_few : (c d : GroupCore) (m m' : Meaning) (written : Values) → Goes written (inner_meaning (wide c) m) (inner_meaning (wide d) m') → length d.inner.config.volumes ≤ length c.inner.config.volumes
volumes_few c d m m' written goes =
    let units : length (wide d).config.volumes ≡ length (wide c).config.volumes = goes.units in
    let one = (wide_shape c).volumes in
    let two = (wide_shape d).volumes in
    omega (arith, units, one, two)

-- behind a read
pub settled_read : (c d : GroupCore) (a : List Bool) (m m' : Meaning) (law : Lawful m) (law' : Lawful m') → GroupStands c m → Goes Nothing m m' → d.inner.config ≡ c.inner.config → d.held ≡ c.held → d.inner.committed ≡ c.inner.committed → d.inner.unsettled ≡ c.inner.unsettled → d.inner.unsure ≡ c.inner.unsure
    → SettledFact c a m → SettledFact d a m'
settled_read c d a m m' law law' stands goes config held committed unsettled unsure fact =
    settled_same c d a m m' (marked_group c d m m' stands.stands goes config held committed unsettled (same_unsure c.inner.unsure d.inner.unsure unsure) (quiet_finds m m' law law' goes))
    (let same = ap (λ (x : Config). length x.volumes) config in omega (arith, same)) goes.falls fact

-- behind the making of a volume
module _ (c d : GroupCore) (name : List ℕ) (want : Shape) (m m' : Meaning) (S : Type 0) (a b : List Bool) (res : Result ℕ Stop) (finds : GroupFinds c d m m') (refused : (no : No) → make_refusal c.inner.config name want ≡ Some no → (res ≡ Err (Refused no)) × (d ≡ c) × S) (ends : make_refusal c.inner.config name want ≡ None → MakeEnds name want c.inner d.inner m m' res)
    (one : IfOk res (λ n. is_alike b n ≡ true)) (set : (w : ℕ) → is_alike a w ≡ true → is_alike b w ≡ true) (falls : IsTrue m.down → IsTrue m'.down) (fact : SettledFact c a m) where
  made_old : (IsTrue m'.down → ⊥) → (v : ℕ) → v < length c.inner.config.volumes → is_unsure d.inner.unsure v ≡ false → is_alike b v ≡ true
  made_old up v lt is = set v ((fact.sure (λ down. up (falls down))).each v lt (finds.unsure v is))

  made_none : (IsTrue m'.down → ⊥) → length d.inner.config.volumes ≡ length c.inner.config.volumes → SureFlags (length d.inner.config.volumes) d.inner.unsure b
  made_none up same = record { each = λ v lt is. made_old up v (omega (arith, lt, same)) is }

  made_by : (IsTrue m'.down → ⊥) → (r : Result ℕ Stop) → MakeEnds name want c.inner d.inner m m' r → IfOk r (λ n. is_alike b n ≡ true) → SureFlags (length d.inner.config.volumes) d.inner.unsure b
  made_by up (Ok vol) made on = record {
    each = λ v lt is. ⊎_elim (λ low. made_old up v low is)
        (λ high.
        let many : length d.inner.config.volumes ≡ length c.inner.config.volumes + 1 = ap length made.volumes ∙ long_one c.inner.config.volumes made.volume in
        let number = made.number in
        let same : v ≡ vol = omega (arith, lt, high, many, number) in
        ap (λ (k : ℕ). is_alike b k) same ∙ on)
        (cases_lt v (length c.inner.config.volumes));
  }
  made_by up (Err (Refused why)) stops on = made_none up (ap length stops.0)
  made_by up (Err OutOfMemory) same on = made_none up (ap length same)

  made_sure : (IsTrue m'.down → ⊥) → SureFlags (length d.inner.config.volumes) d.inner.unsure b
  made_sure up = by (make_refusal c.inner.config name want) refl
    where
      by : (o : Option No) → make_refusal c.inner.config name want ≡ o → SureFlags (length d.inner.config.volumes) d.inner.unsure b
      by None none = made_by up res (ends none) one
      by (Some why) is = made_none up (ap (λ (k : GroupCore). length k.inner.config.volumes) (refused why is).1)

  pub settled_made : SettledFact d b m'
  settled_made = settled_by c d a b m m' finds.settles made_sure fact

-- a write that is refused marks its volume, or the disks are down
pub wrote_flags : (T : Type 0) (v : ℕ) (u u' a b : List Bool) (old new : Meaning) (r : Result T ShelfError) → OnOk r (b ≡ a) → ((w : ℕ) → (w ≡ v → ⊥) → is_alike b w ≡ is_alike a w) → MarksOrFell v u u' r → Cause old new v r → (IsTrue new.down → ⊥) → (w : ℕ) → is_unsure u' w ≡ false → is_alike a w ≡ true → is_alike b w ≡ true
wrote_flags T v u u' a b old new (Ok x) same others marks cause up w off is = ap (λ (f : List Bool). is_alike f w) same ∙ is
wrote_flags T v u u' a b old new (Err (Fault disk)) same others marks cause up w off is = elim (cases_eq w v) [
  | inl here ↦ absurd (both_ways (is_unsure u' w) off (ap (λ (k : ℕ). is_unsure u' k) here ∙ marks.here))
  | inr apart ↦ others w apart ∙ is
]
wrote_flags T v u u' a b old new (Err Down) same others marks cause up w off is = absurd (up cause)

-- ---- disks that leave no more

module _ (core : GroupCore) (alike : List Bool) (m m' : Meaning) (units : m'.units ≡ m.units) (size : (u : ℕ) → m'.size u ≡ m.size u) (less : (u b : ℕ) (x : List ℕ) → m'.leaves u b x → m.leaves u b x) (falls : IsTrue m.down → IsTrue m'.down) where
  each_was : (i : Image) → Each m'.leaves i → Each m.leaves i
  each_was i each u b = less u b (i u b) (each u b)

  found_was : (i : Image) (x : Config) → found m' i ≡ Found x → found m i ≡ Found x
  found_was i x is = sym (found_same m m' units size (λ u. true) i) ∙ is

  agree_less : (x : Config) (v : ℕ) → LivesAgree x v m → LivesAgree x v m'
  agree_less x v agree = record { so = λ p q b y z inside on_p on_q at_p at_q. agree.so p q b y z inside on_p on_q (less _ _ y at_p) (less _ _ z at_q) }

  clean_less : CleanFact (wide core) m → CleanFact (wide core) m'
  clean_less it = record {
    agree = λ v p i x each is on. agree_less x v (it.agree v p i x (each_was i each) (found_was i x is) on);
    none = λ up off v. record { each = λ i x each is. (it.none (λ down. up (falls down)) off v).each i x (each_was i each) (found_was i x is) };
  }

  pub settled_less : SettledFact core alike m → SettledFact core alike m'
  settled_less it = record { told = λ free. clean_less (it.told free); sure = λ up. it.sure (λ down. up (falls down)) }

pub settled_alike : (core : GroupCore) (alike : List Bool) (m m' : Meaning) → Alike m m' → m'.down ≡ m.down → SettledFact core alike m → SettledFact core alike m'
settled_alike core alike m m' same down = settled_less core alike m m' same.contents.units same.contents.size same.contents.leaves (λ is. down ∙ is)

-- ---- where no image has a plex that is CLEAN

pub settled_none : (core : GroupCore) (alike : List Bool) (m : Meaning) → ((v : ℕ) → FindsNoneClean v m) → SureFlags (length core.inner.config.volumes) core.inner.unsure alike → SettledFact core alike m
settled_none core alike m none sure = record {
  told = λ free. record {
    agree = λ v p i x each is on. absurd (both_ways (clean x v p) (((none v).each i x each is).each p) on);
    none = λ up off v. none v;
  };
  sure = λ up. sure;
}

-- ---- a deport

-- of volumes of which no write failed each block reads as one value
pub reads_sure : (c : GroupCore) (ls : List Logs) (a : List Bool) (s : Bool) (m : Meaning) → LoggedStands c ls a s m → ((IsTrue m.down → ⊥) → SureFlags (length c.inner.config.volumes) c.inner.unsure a) → (IsTrue m.down → ⊥) → ReadsSure (wide c) m
reads_sure c ls a s m stands sure up = record {
  each = λ v lt off.
      let low : v < length c.inner.config.volumes = (let same = (wide_shape c).volumes in omega (arith, lt, same)) in
      let l = item_at ls v (let many = stands.many in omega (arith, low, many)) in
      (stands.each v l.0 l.1).alike ((sure up).each v low off) up;
}

-- each image has the configuration in memory, of which the plexes that take part are ACTIVE
pub settled_import : (core : GroupCore) (alike : List Bool) (m : Meaning) → GroupStands core m → core.held ≡ None → AllAtOnce core.inner.config m → SureFlags (length core.inner.config.volumes) core.inner.unsure alike → SettledFact core alike m
settled_import core alike m stands free newest sure = settled_none core alike m
    (λ v. record {
      each = λ i x each is. record {
        each = λ p. clean_volumes x core.inner.config (ap (λ (y : Config). y.volumes) (newest.each i x each is)) v p
            ∙ (none_clean core.inner.config (subst (λ (i : Inner). AllOn i.config) (wide_none core free) stands.stands.on) v).each p;
      };
    })
    sure

-- a group that was made has no volume
pub settled_new : (site : ℕ) (old : Meaning) (core : Inner) (alike : List Bool) (m : Meaning) → IsNewGroup site old core m → SettledFact (record { inner = core; held = None }) alike m
settled_new site old core alike m new = settled_none (record { inner = core; held = None }) alike m (λ v. none_done core.config v m new.stands.on new.newest)
    (record { each = λ v lt off. absurd (let none : length core.config.volumes ≡ 0 = ap length new.volumes in omega (arith, lt, none)) })
