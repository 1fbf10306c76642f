-- Blocks that are copied from one plex to all that are ACTIVE, and two such copies in a row.
use Rattle.std.proofs.Common.{◌≡◌, ◌⊎◌, inl, inr, ⊎_elim, ℕ, ◌+◌, ◌/◌, ◌<◌, ◌≤◌, Bool, true, false, IsTrue, List, [], length, Result, Ok, Err, OnOk, refl, ap, sym, ◌∙◌, subst, arith}
use Rattle.std.proofs.lemmas.Bool.{cases_lt}
use Rattle.vx_disk.specs.Counts.{Rose}
use Rattle.vx_disk.specs.Moves.{Says}
use Rattle.vx_disk.specs.Shelf.{Fits, Goes, Image, Lawful, Meaning, Nothing, Or, Values, piece}
use Rattle.vx_disk.specs.declared.shelf.ShelfError.{ShelfError}
use Rattle.vx_group.specs.Blames.{Blames}
use Rattle.vx_disk.proofs.Causing.{Rose_after, Rose_before}
use Rattle.vx_config.specs.declared.config.Config.{Config}
use Rattle.vx_layout.specs.Places.{place}
use Rattle.vx_volume.specs.Plexes.{Asked, InRun, Inside, RunFits, active}
use Rattle.vx_volume.specs.Volumes.{OnPlexes, PlexRead, PlexWrote}
use Rattle.vx_volume.proofs.PlaceLemmas.{fits_of}
use Rattle.vx_resync.specs.Picks.{InPicked, InPickedBelow}
use Rattle.vx_kept.specs.Commits.{Member}
use Rattle.vx_kept.specs.Keeping.{Acts, Kin, SameShape, Sees}
use Rattle.vx_kept.proofs.Lasting.{low_Acts, sees_same}
use Rattle.vx_kept.proofs.StateLemmas.{same_shape, then_shape}
use Rattle.vx_kept.proofs.Steps.{both_Acts, inside_back, inside_same, same_Acts, wide_Acts}
use Rattle.vx_kept.proofs.Whole.{sees_back, whole_Acts}
use Rattle.vx_group.specs.Copying.{CopyMoved, FromSource, Mirrored, NoMember, RunCopied, SpentBy}
use Rattle.vx_group.specs.Moves.{AllFlushed, Narrows}
use Rattle.vx_group.specs.Stands.{InnerStands, volume_faults, inner_meaning}
use Rattle.vx_group.specs.declared.inner.Inner.{Inner}
use Rattle.vx_group.specs.Loses.{LosesPlexes}
use Rattle.vx_group.proofs.LoseLemmas.{loses_same, then_loses}
use Rattle.vx_group.proofs.Standing.{apart_of_core, fit_of, kept_of, sound_of}
use Rattle.vx_group.proofs.WriteLemmas.{flushed_Stands, run_inside, wrote_Stands}
use Rattle.vx_kept.proofs.Chosen.{extends_shape}

-- ---- what is said of each image may be less

module _ (p : Values) (P Q : Says) (old new : Meaning) (acts : Acts p P old new) (less : (i : Image) → P i → Q i) where
  pub loose_Acts : Acts p Q old new
  loose_Acts = record {
    units = acts.units;
    size = acts.size;
    tells = acts.tells;
    reads = acts.reads;
    leaves = acts.leaves;
    later = acts.later;
    since = λ t i le left. ⊎_elim (λ was. inl was) (λ now. inr (now.0, less i now.1)) (acts.since t i le left);
    keeps = acts.keeps;
    faults = acts.faults;
    disk_faults = acts.disk_faults;
    falls = acts.falls;
    unarmed = acts.unarmed;
    safe = acts.safe;
  }

pub sees_none : (c : Config) (G : ℕ → Type 0) (m : Meaning) (i : Image) → Sees c G m i → Sees c NoMember m i
sees_none c G m i sees = record { config = sees.config; found = sees.found; kin = sees.kin; others = λ R g x no. absurd no }

-- over fewer plexes that are ACTIVE, and from units that do not change
pub sees_wider : (c d : Config) (G : ℕ → Type 0) (m m' : Meaning) → SameShape d c → ((w p : ℕ) → IsTrue (active d w p) → IsTrue (active c w p)) → m'.units ≡ m.units → ((u : ℕ) → m'.size u ≡ m.size u)
    → (i : Image) → Sees d G m' i → Sees c NoMember m i
sees_wider c d G m m' shape on units size i sees =
    let it = sees_same d G m' m (sym units) (λ u. sym (size u)) i sees in
    record { config = it.config; found = it.found; kin = kin_wider it.config it.kin; others = λ R g x no. absurd no }
  where
    there : (w : ℕ) → w < length c.volumes → w < length d.volumes
    there w lt = let same : length d.volumes ≡ length c.volumes = shape.volumes in omega (arith, same, lt)

    kin_wider : (x : Config) → Kin d x → Kin c x
    kin_wider x kin = record {
      shape = extends_shape x d c kin.shape shape;
      on = λ w p lt is. on w p (kin.on w p (there w lt) is);
      some = λ w lt. kin.some w (there w lt);
    }

-- ---- serials that were used

pub spent_none : (c : Config) (m m' : Meaning) → SpentBy c c m m'
spent_none c m m' = record { any = inl refl; loses = loses_same c m m' }

any_both : (c d e : Config) (m0 m1 m2 : Meaning) → ((u : ℕ) → m0.disk_faults u ≤ m1.disk_faults u) → ((u : ℕ) → m1.disk_faults u ≤ m2.disk_faults u)
    → (d ≡ c) ⊎ ((disk : ℕ) × Rose (m0.disk_faults disk) (m1.disk_faults disk)) → (e ≡ d) ⊎ ((disk : ℕ) × Rose (m1.disk_faults disk) (m2.disk_faults disk))
    → (e ≡ c) ⊎ ((disk : ℕ) × Rose (m0.disk_faults disk) (m2.disk_faults disk))
any_both c d e m0 m1 m2 before after (inr rose) two = inr (rose.0, Rose_after (m0.disk_faults rose.0) (m1.disk_faults rose.0) (m2.disk_faults rose.0) rose.1 (after rose.0))
any_both c d e m0 m1 m2 before after (inl same) (inl more) = inl (more ∙ same)
any_both c d e m0 m1 m2 before after (inl same) (inr rose) = inr (rose.0, Rose_before (m0.disk_faults rose.0) (m1.disk_faults rose.0) (m2.disk_faults rose.0) (before rose.0) rose.1)

pub spent_both : (c d e : Config) (m0 m1 m2 : Meaning) → ((u : ℕ) → m0.disk_faults u ≤ m1.disk_faults u) → ((u : ℕ) → m1.disk_faults u ≤ m2.disk_faults u) → ((u : ℕ) → m0.faults u ≤ m1.faults u) → ((u : ℕ) → m1.faults u ≤ m2.faults u)
    → SpentBy c d m0 m1 → SpentBy d e m1 m2 → SpentBy c e m0 m2
spent_both c d e m0 m1 m2 before after first second one two = record {
  any = any_both c d e m0 m1 m2 before after one.any two.any;
  loses = then_loses m0 m1 m2 first second c d e one.loses two.loses;
}

-- a disk failed between
pub spent_by : (c d : Config) (m0 m1 m2 m3 : Meaning) (disk : ℕ) → ((u : ℕ) → m0.disk_faults u ≤ m1.disk_faults u) → ((u : ℕ) → m2.disk_faults u ≤ m3.disk_faults u) → Rose (m1.disk_faults disk) (m2.disk_faults disk) → LosesPlexes c d m0 m3 → SpentBy c d m0 m3
spent_by c d m0 m1 m2 m3 disk before after rose loses = record {
  any = inr (
    disk,
    Rose_after (m0.disk_faults disk) (m2.disk_faults disk) (m3.disk_faults disk) (Rose_before (m0.disk_faults disk) (m1.disk_faults disk) (m2.disk_faults disk) (before disk) rose) (after disk),
  );
  loses = loses;
}

-- ---- a read alone

module _ (core : Inner) (v source : ℕ) (m0 m1 : Meaning) (law0 : Lawful m0) (law1 : Lawful m1) (stands : InnerStands core m0) (read : Goes Nothing m0 m1) where
  pub read_acts : Acts Nothing (Sees core.config (Member core.good m0) m0) m0 m1
  read_acts = low_Acts core.config (Member core.good m0) m0 m1 Nothing read (λ u b x none. absurd none) law0 law1 (kept_of core m0 stands)

  pub read_Moved : (P : ℕ → Type 0) → CopyMoved core v source P core m0 m1
  read_Moved P = record {
    stands = flushed_Stands core v m0 m1 law0 law1 stands read;
    shape = same_shape core.config;
    on = λ w p is. is;
    others = λ w p apart. refl;
    faults = refl;
    unsure = refl;
    spent = spent_none core.config m0 m1;
    acts = wide_Acts Nothing (FromSource core.config v source P m0) (Sees core.config NoMember m0) m0 m1
        (loose_Acts Nothing (Sees core.config (Member core.good m0) m0) (Sees core.config NoMember m0) m0 m1 read_acts (λ i sees. sees_none core.config (Member core.good m0) m0 i sees)) (λ u b x none. absurd none);
  }

-- what is asked of a read of the source
module _ (core : Inner) (v source block n : ℕ) (m : Meaning) (stands : InnerStands core m) (is_on : IsTrue (active core.config v source)) (fits : Fits (inner_meaning core m) v block n) where
  run_in : (k : ℕ) → InRun block (n / 512) k → Inside core.config v k
  run_in k run = record { volume = fits.exists; within = let last : k < block + n / 512 = run.last in omega (arith, last, fits.within) }

  pub asked_source : Asked core.config v source block (n / 512)
  asked_source = record { inside = run_in; is_on = is_on; sound = sound_of core m stands; end = let small = stands.small v in omega (arith, fits.within, small) }

  pub fits_source : RunFits core.config v source block (n / 512) m
  fits_source = fits_of core.config (sound_of core m stands) v source block (n / 512) m (fit_of core m stands) is_on run_in

  -- and of the write behind it
  pub fits_again : (m' : Meaning) → Fits (inner_meaning core m') v block n
  fits_again m' = record { exists = fits.exists; some = fits.some; whole = fits.whole; within = fits.within }

-- ---- a read, a write, and a commit or none

module _ (core d : Inner) (v source block : ℕ) (bytes : List ℕ) (m0 m1 m2 m3 : Meaning) (law0 : Lawful m0) (law1 : Lawful m1) (law2 : Lawful m2) (law3 : Lawful m3) (stands : InnerStands core m0)
    (fits : Fits (inner_meaning core m0) v block (length bytes)) (read : Goes Nothing m0 m1) (was_read : PlexRead core.config v source block block (length bytes / 512) bytes m0)
    (write : Goes (OnPlexes core.config v block (length bytes / 512) bytes) m1 m2) (narrows : Narrows core d m2 m3) (stands3 : InnerStands d m3) (spent : SpentBy core.config d.config m0 m3) (others_on : (w p : ℕ) → (w ≡ v → ⊥) → active d.config w p ≡ active core.config w p) where
  abbrev n : ℕ
  n = length bytes / 512

  abbrev W : Values
  W = OnPlexes core.config v block n bytes

  stands1 : InnerStands core m1
  stands1 = flushed_Stands core v m0 m1 law0 law1 stands read

  fits1 : Fits (inner_meaning core m1) v block (length bytes)
  fits1 = record { exists = fits.exists; some = fits.some; whole = fits.whole; within = fits.within }

  in_run : (k : ℕ) → InRun block n k → Inside core.config v k
  in_run = run_inside core v block bytes m1 m2 law1 law2 stands1 fits1 write

  no_less : (u : ℕ) → volume_faults core.faults u ≤ volume_faults d.faults u
  no_less u = let same : volume_faults d.faults u ≡ volume_faults core.faults u = ap (λ (f : List ℕ). volume_faults f u) narrows.faults in omega (arith, same)

  put_acts : Acts W (Sees core.config (Member core.good m1) m1) m1 m3
  put_acts = whole_Acts core.good core.config d.config v block bytes (volume_faults core.faults) (volume_faults d.faults) m1 m2 m3 law1 law2 law3 (kept_of core m1 stands1) (apart_of_core core m1 stands1) in_run fits.whole write
      narrows.acts narrows.shape narrows.on no_less

  run_acts : Acts (Or Nothing W) (Sees core.config (Member core.good m0) m0) m0 m3
  run_acts = both_Acts Nothing W (Sees core.config (Member core.good m0) m0) (Sees core.config (Member core.good m1) m1) m0 m1 m3 (read_acts core v source m0 m1 law0 law1 stands read) put_acts
      (λ i sees. sees_back core.good core.config m0 m1 read.units read.size i sees)

  as_copy : (u b : ℕ) (x : List ℕ) → Or Nothing W u b x → FromSource core.config v source (InRun block n) m0 u b x
  as_copy u b x (inl none) = absurd none
  as_copy u b x (inr put) =
      let it = put.put in record {
        number = it.number;
        plex = put.plex;
        inside = in_run it.number it.run;
        is_one = it.run;
        is_on = put.is_on;
        at = it.at;
        value = λ tells. subst (λ (y : List ℕ). m0.reads (place core.config v source it.number).0 (place core.config v source it.number).1 y) (sym it.value) (was_read.each tells it.number it.run);
      }

  pub run_Moved : CopyMoved core v source (InRun block n) d m0 m3
  run_Moved = record {
    stands = stands3;
    shape = narrows.shape;
    on = narrows.on;
    others = others_on;
    faults = narrows.faults;
    unsure = narrows.unsure;
    spent = spent;
    acts = wide_Acts (Or Nothing W) (FromSource core.config v source (InRun block n) m0) (Sees core.config NoMember m0) m0 m3
        (loose_Acts (Or Nothing W) (Sees core.config (Member core.good m0) m0) (Sees core.config NoMember m0) m0 m3 run_acts (λ i sees. sees_none core.config (Member core.good m0) m0 i sees)) as_copy;
  }

  module _ (trust : core.committed ≡ true → d.committed ≡ true) (settled : d.unsettled ≡ false) (source_on : IsTrue (active d.config v source)) (up : IsTrue m3.down → ⊥)
      (wrote : (p : ℕ) → IsTrue (active d.config v p) → PlexWrote core.config v p block n block n bytes m1 m2) where
    before_commit : (w p k : ℕ) (x : List ℕ) → Inside core.config w k → IsTrue (active d.config w p) → m3.reads (place core.config w p k).0 (place core.config w p k).1 x → m2.reads (place core.config w p k).0 (place core.config w p k).1 x
    before_commit w p k x in_it is_on is = elim (narrows.acts.reads (place core.config w p k).0 (place core.config w p k).1 x ((apart_of_core core m0 stands).above w p k in_it (narrows.on w p is_on)) is) [
      | inl (inl was) ↦ was
      | inl (inr none) ↦ absurd none
      | inr down ↦ absurd (up down)
    ]

    before_read : (u b : ℕ) (x : List ℕ) → m1.reads u b x → m0.reads u b x
    before_read u b x is = elim (read.reads u b x is) [
      | inl (inl was) ↦ was
      | inl (inr none) ↦ absurd none
      | inr down ↦ absurd (up (narrows.acts.falls (write.falls down)))
    ]

    one_value : (p k : ℕ) (x : List ℕ) → InRun block n k → Inside core.config v k → IsTrue (active d.config v p) → m3.reads (place core.config v p k).0 (place core.config v p k).1 x → x ≡ piece block bytes k
    one_value p k x run in_it is_on is = elim ((wrote p is_on).each k x in_it (before_commit v p k x in_it is_on is)) [ inl put ↦ put.1 | inr out ↦ absurd (out.0 run) ]

    others : (w p k : ℕ) (x : List ℕ) → (w ≡ v → InRun block n k → ⊥) → Inside core.config w k → IsTrue (active d.config w p) → m3.reads (place core.config w p k).0 (place core.config w p k).1 x
        → m0.reads (place core.config w p k).0 (place core.config w p k).1 x
    others w p k x apart in_it is_on is = elim (write.reads (place core.config w p k).0 (place core.config w p k).1 x (before_commit w p k x in_it is_on is)) [
      | inl (inl was) ↦ before_read (place core.config w p k).0 (place core.config w p k).1 x was
      | inl (inr put) ↦
          let it = put.put in
          let one = (apart_of_core core m0 stands).one w p k v put.plex it.number in_it (in_run it.number it.run) (narrows.on w p is_on) put.is_on (sym it.at) in
          absurd (apart one.0 (subst (λ (j : ℕ). InRun block n j) (sym one.2) it.run))
      | inr down ↦ absurd (up (narrows.acts.falls down))
    ]

    pub run_Copied : RunCopied core v source (InRun block n) d m0 m3
    run_Copied = record {
      moved = run_Moved;
      settled = settled;
      trust = trust;
      source_on = source_on;
      up = up;
      value = λ k. piece block bytes k;
      origin = λ k run in_it tells. was_read.each tells k run;
      copied = one_value;
      rest = others;
    }

-- the same where the bytes have the length of those that were handed in
module _ (core : Inner) (v source block len : ℕ) (bytes : List ℕ) (m0 m1 m2 : Meaning) (law0 : Lawful m0) (law1 : Lawful m1) (law2 : Lawful m2) (stands : InnerStands core m0) (same : length bytes ≡ len)
    (fits : Fits (inner_meaning core m0) v block len) (read : Goes Nothing m0 m1) (was_read : PlexRead core.config v source block block (len / 512) bytes m0) (write : Goes (OnPlexes core.config v block (length bytes / 512) bytes) m1 m2) where
  fits_len : Fits (inner_meaning core m0) v block (length bytes)
  fits_len = subst (λ (n : ℕ). Fits (inner_meaning core m0) v block n) (sym same) fits

  read_len : PlexRead core.config v source block block (length bytes / 512) bytes m0
  read_len = subst (λ (n : ℕ). PlexRead core.config v source block block (n / 512) bytes m0) (sym same) was_read

  pub put_Stands : InnerStands core m2
  put_Stands = wrote_Stands core v block bytes m1 m2 law1 law2 (flushed_Stands core v m0 m1 law0 law1 stands read) (record { exists = fits_len.exists; some = fits_len.some; whole = fits_len.whole; within = fits_len.within }) write

  module _ (d : Inner) (m3 : Meaning) (law3 : Lawful m3) (narrows : Narrows core d m2 m3) (stands3 : InnerStands d m3) (spent : SpentBy core.config d.config m0 m3) (others_on : (w p : ℕ) → (w ≡ v → ⊥) → active d.config w p ≡ active core.config w p) where
    pub put_Moved : CopyMoved core v source (InRun block (len / 512)) d m0 m3
    put_Moved = subst (λ (n : ℕ). CopyMoved core v source (InRun block (n / 512)) d m0 m3) same
        (run_Moved core d v source block bytes m0 m1 m2 m3 law0 law1 law2 law3 stands fits_len read read_len write narrows stands3 spent others_on)

    pub put_Copied : (core.committed ≡ true → d.committed ≡ true) → d.unsettled ≡ false → IsTrue (active d.config v source) → (IsTrue m3.down → ⊥)
        → ((p : ℕ) → IsTrue (active d.config v p) → PlexWrote core.config v p block (length bytes / 512) block (length bytes / 512) bytes m1 m2) → RunCopied core v source (InRun block (len / 512)) d m0 m3
    put_Copied trust settled source_on up wrote = subst (λ (n : ℕ). RunCopied core v source (InRun block (n / 512)) d m0 m3) same
        (run_Copied core d v source block bytes m0 m1 m2 m3 law0 law1 law2 law3 stands fits_len read read_len write narrows stands3 spent others_on trust settled source_on up wrote)

pub ok_both : {T E : Type 0} (P Q : Type 0) (r : Result T E) → OnOk r P → OnOk r Q → OnOk r (P × Q)
ok_both P Q (Ok x) p q = (p, q)
ok_both P Q (Err e) p q = tt

-- ---- blocks of picked regions

pub has_picked : (f : ℕ → Bool) (k : ℕ) → InPicked f k ⊎ (InPicked f k → ⊥)
has_picked f k = by (f (k / 64))
  where
    by : (b : Bool) → IsTrue b ⊎ (IsTrue b → ⊥)
    by true = inl refl
    by false = inr (λ (is : false ≡ true). let clash : false ≡ true = is in cc)

pub not_picked : (f : ℕ → Bool) (k : ℕ) → (InPicked f k → ⊥) → f (k / 64) ≡ false
not_picked f k = by (f (k / 64))
  where
    by : (b : Bool) → (IsTrue b → ⊥) → b ≡ false
    by true never = absurd (never refl)
    by false never = refl

pub has_below : (f : ℕ → Bool) (n k : ℕ) → InPickedBelow f n k ⊎ (InPickedBelow f n k → ⊥)
has_below f n k = elim (cases_lt (k / 64) n) [
  | inl lt ↦ ⊎_elim (λ is. inl (record { below = lt; picked = is })) (λ never. inr (λ it. never it.picked)) (has_picked f k)
  | inr le ↦ inr (λ it. absurd (let lt = it.below in omega (arith, lt, le)))
]

-- ---- no block, and two sets of blocks in a row

pub none_Copied : (core : Inner) (v source : ℕ) (f : ℕ → Bool) (m : Meaning) → InnerStands core m → core.unsettled ≡ false → IsTrue (active core.config v source) → (IsTrue m.down → ⊥) → RunCopied core v source (InPickedBelow f 0) core m m
none_Copied core v source f m stands settled is_on up = record {
  moved = record {
    stands = stands;
    shape = same_shape core.config;
    on = λ w p is. is;
    others = λ w p apart. refl;
    faults = refl;
    unsure = refl;
    spent = spent_none core.config m m;
    acts = wide_Acts Nothing (FromSource core.config v source (InPickedBelow f 0) m) (Sees core.config NoMember m) m m (same_Acts (Sees core.config NoMember m) m) (λ u b x none. absurd none);
  };
  settled = settled;
  trust = λ is. is;
  source_on = is_on;
  up = up;
  value = λ k. [];
  origin = λ k is in_it tells. absurd (let lt = is.below in omega (arith, lt));
  copied = λ p k x is in_it on reads. absurd (let lt = is.below in omega (arith, lt));
  rest = λ w p k x apart in_it on is. is;
}

-- more blocks of the volume
pub moved_wider : (core : Inner) (v source : ℕ) (P Q : ℕ → Type 0) (d : Inner) (m m' : Meaning) → ((k : ℕ) → P k → Q k) → CopyMoved core v source P d m m' → CopyMoved core v source Q d m m'
moved_wider core v source P Q d m m' into moved = record {
  stands = moved.stands;
  shape = moved.shape;
  on = moved.on;
  others = moved.others;
  faults = moved.faults;
  unsure = moved.unsure;
  spent = moved.spent;
  acts = wide_Acts (FromSource core.config v source P m) (FromSource core.config v source Q m) (Sees core.config NoMember m) m m' moved.acts
      (λ u b x it. record { number = it.number; plex = it.plex; inside = it.inside; is_one = into it.number it.is_one; is_on = it.is_on; at = it.at; value = it.value });
}

-- the same blocks of the volume by another name
pub copied_as : (core : Inner) (v source : ℕ) (P Q : ℕ → Type 0) (d : Inner) (m m' : Meaning) → ((k : ℕ) → Inside core.config v k → Q k → P k) → ((k : ℕ) → P k → Q k) → RunCopied core v source P d m m' → RunCopied core v source Q d m m'
copied_as core v source P Q d m m' back into run = record {
  moved = moved_wider core v source P Q d m m' into run.moved;
  settled = run.settled;
  trust = run.trust;
  source_on = run.source_on;
  up = run.up;
  value = run.value;
  origin = λ k is in_it tells. run.origin k (back k in_it is) in_it tells;
  copied = λ p k x is in_it on reads. run.copied p k x (back k in_it is) in_it on reads;
  rest = λ w p k x apart in_it on reads. run.rest w p k x (λ same is. apart same (into k is)) in_it on reads;
}

module _ (core d e : Inner) (v source : ℕ) (P Q R : ℕ → Type 0) (first : (k : ℕ) → P k → R k) (second : (k : ℕ) → Q k → R k) (m0 m1 m2 : Meaning) (one : CopyMoved core v source P d m0 m1)
    (origin : (k : ℕ) (x : List ℕ) → Inside core.config v k → m1.reads (place core.config v source k).0 (place core.config v source k).1 x → IsTrue m0.tells → m0.reads (place core.config v source k).0 (place core.config v source k).1 x)
    (two : CopyMoved d v source Q e m1 m2) where
  as_first : (u b : ℕ) (x : List ℕ) → FromSource d.config v source Q m1 u b x → FromSource core.config v source R m0 u b x
  as_first u b x it =
      let in_it = inside_same d.config core.config one.shape v it.number it.inside in record {
        number = it.number;
        plex = it.plex;
        inside = in_it;
        is_one = second it.number it.is_one;
        is_on = one.on v it.plex it.is_on;
        at = sym (one.shape.place v it.plex it.number) ∙ it.at;
        value = λ tells. origin it.number x in_it (subst (λ (q : ℕ × ℕ). m1.reads q.0 q.1 x) (one.shape.place v source it.number) (it.value (one.acts.tells ∙ tells))) tells;
      }

  as_wider : (u b : ℕ) (x : List ℕ) → FromSource core.config v source P m0 u b x → FromSource core.config v source R m0 u b x
  as_wider u b x it = record { number = it.number; plex = it.plex; inside = it.inside; is_one = first it.number it.is_one; is_on = it.is_on; at = it.at; value = it.value }

  pub both_Moved : CopyMoved core v source R e m0 m2
  both_Moved = record {
    stands = two.stands;
    shape = then_shape e.config d.config core.config two.shape one.shape;
    on = λ w p is. one.on w p (two.on w p is);
    others = λ w p apart. two.others w p apart ∙ one.others w p apart;
    faults = two.faults ∙ one.faults;
    unsure = two.unsure ∙ one.unsure;
    spent = spent_both core.config d.config e.config m0 m1 m2 one.acts.disk_faults two.acts.disk_faults one.acts.faults two.acts.faults one.spent two.spent;
    acts = wide_Acts (Or (FromSource core.config v source P m0) (FromSource d.config v source Q m1)) (FromSource core.config v source R m0) (Sees core.config NoMember m0) m0 m2
        (both_Acts (FromSource core.config v source P m0) (FromSource d.config v source Q m1) (Sees core.config NoMember m0) (Sees d.config NoMember m1) m0 m1 m2 one.acts two.acts
        (λ i sees. sees_wider core.config d.config NoMember m0 m1 one.shape one.on one.acts.units one.acts.size i sees))
        (λ u b x. ⊎_elim (λ put. as_wider u b x put) (λ put. as_first u b x put));
  }

module _ (core d e : Inner) (v source : ℕ) (P : ℕ → Type 0) (m0 m1 m2 : Meaning) (one : RunCopied core v source P d m0 m1) (has : (k : ℕ) → P k ⊎ (P k → ⊥)) where
  -- the source still has what it read
  pub source_origin : (k : ℕ) (x : List ℕ) → Inside core.config v k → m1.reads (place core.config v source k).0 (place core.config v source k).1 x → IsTrue m0.tells → m0.reads (place core.config v source k).0 (place core.config v source k).1 x
  source_origin k x in_it is tells = elim (has k) [
    | inl put ↦
        let same : x ≡ one.value k = one.copied source k x put in_it one.source_on is in
        subst (λ (y : List ℕ). m0.reads (place core.config v source k).0 (place core.config v source k).1 y) (sym same) (one.origin k put in_it tells)
    | inr none ↦ one.rest v source k x (λ same put. none put) in_it one.source_on is
  ]

  module _ (Q R : ℕ → Type 0) (two : RunCopied d v source Q e m1 m2) (parts : (k : ℕ) → R k → P k ⊎ Q k) (first : (k : ℕ) → P k → R k) (second : (k : ℕ) → Q k → R k) (never : (k : ℕ) → P k → Q k → ⊥) where
    value : ℕ → List ℕ
    value k = elim (has k) [ inl put ↦ one.value k | inr none ↦ two.value k ]

    at_d : (s : Values) (w p k : ℕ) (x : List ℕ) → s (place core.config w p k).0 (place core.config w p k).1 x → s (place d.config w p k).0 (place d.config w p k).1 x
    at_d s w p k x is = subst (λ (q : ℕ × ℕ). s q.0 q.1 x) (sym (one.moved.shape.place w p k)) is

    at_core : (s : Values) (w p k : ℕ) (x : List ℕ) → s (place d.config w p k).0 (place d.config w p k).1 x → s (place core.config w p k).0 (place core.config w p k).1 x
    at_core s w p k x is = subst (λ (q : ℕ × ℕ). s q.0 q.1 x) (one.moved.shape.place w p k) is

    inside_d : (w k : ℕ) → Inside core.config w k → Inside d.config w k
    inside_d w k in_it = inside_back d.config core.config one.moved.shape w k in_it

    -- a block that the second copy left alone
    not_second : (w p k : ℕ) (x : List ℕ) → (w ≡ v → Q k → ⊥) → Inside core.config w k → IsTrue (active e.config w p) → m2.reads (place core.config w p k).0 (place core.config w p k).1 x → m1.reads (place core.config w p k).0 (place core.config w p k).1 x
    not_second w p k x apart in_it is_on is = at_core m1.reads w p k x (two.rest w p k x apart (inside_d w k in_it) is_on (at_d m2.reads w p k x is))

    -- one that the first did not copy is one of the second
    left_over : (k : ℕ) → (P k → ⊥) → R k → Q k
    left_over k none is = ⊎_elim (λ put. absurd (none put)) (λ put. put) (parts k is)

    origin_both : (k : ℕ) → R k → Inside core.config v k → IsTrue m0.tells → m0.reads (place core.config v source k).0 (place core.config v source k).1 (value k)
    unfolding value
    origin_both k is in_it tells = by (has k)
      where
        by : (c : P k ⊎ (P k → ⊥)) → m0.reads (place core.config v source k).0 (place core.config v source k).1 (elim c [ inl put ↦ one.value k | inr none ↦ two.value k ])
        by (inl put) = one.origin k put in_it tells
        by (inr none) = source_origin k (two.value k) in_it (at_core m1.reads v source k (two.value k) (two.origin k (left_over k none is) (inside_d v k in_it) (one.moved.acts.tells ∙ tells))) tells

    copied_both : (p k : ℕ) (x : List ℕ) → R k → Inside core.config v k → IsTrue (active e.config v p) → m2.reads (place core.config v p k).0 (place core.config v p k).1 x → x ≡ value k
    unfolding value
    copied_both p k x is in_it is_on reads = by (has k)
      where
        by : (c : P k ⊎ (P k → ⊥)) → x ≡ elim c [ inl put ↦ one.value k | inr none ↦ two.value k ]
        by (inl put) = one.copied p k x put in_it (two.moved.on v p is_on) (not_second v p k x (λ same later. never k put later) in_it is_on reads)
        by (inr none) = two.copied p k x (left_over k none is) (inside_d v k in_it) is_on (at_d m2.reads v p k x reads)

    pub both_Copied : RunCopied core v source R e m0 m2
    both_Copied = record {
      moved = both_Moved core d e v source P Q R first second m0 m1 m2 one.moved source_origin two.moved;
      settled = two.settled;
      trust = λ is. two.trust (one.trust is);
      source_on = two.source_on;
      up = two.up;
      value = value;
      origin = origin_both;
      copied = copied_both;
      rest = λ w p k x apart in_it is_on is.
          one.rest w p k x (λ same put. apart same (first k put)) in_it (two.moved.on w p is_on)
          (not_second w p k x (λ same put. apart same (second k put)) in_it is_on is);
    }

-- and a flush behind them
module _ (core d e : Inner) (v source : ℕ) (f : ℕ → Bool) (m0 m1 m2 : Meaning) (one : RunCopied core v source (InPicked f) d m0 m1) (narrows : Narrows d e m1 m2) (spent : SpentBy d.config e.config m1 m2)
    (others_on : (w p : ℕ) → (w ≡ v → ⊥) → active e.config w p ≡ active d.config w p) (stands : InnerStands e m2) where
  narrows_Moved : CopyMoved d v source (InPicked f) e m1 m2
  narrows_Moved = record {
    stands = stands;
    shape = narrows.shape;
    on = narrows.on;
    others = others_on;
    faults = narrows.faults;
    unsure = narrows.unsure;
    spent = spent;
    acts = wide_Acts Nothing (FromSource d.config v source (InPicked f) m1) (Sees d.config NoMember m1) m1 m2
        (loose_Acts Nothing (Sees d.config (Member d.good m1) m1) (Sees d.config NoMember m1) m1 m2 narrows.acts (λ i sees. sees_none d.config (Member d.good m1) m1 i sees)) (λ u b x none. absurd none);
  }

  pub flush_Moved : CopyMoved core v source (InPicked f) e m0 m2
  flush_Moved = both_Moved core d e v source (InPicked f) (InPicked f) (InPicked f) (λ k is. is) (λ k is. is) m0 m1 m2 one.moved (source_origin core d e v source (InPicked f) m0 m1 m2 one (has_picked f)) narrows_Moved

  module _ (settled : e.unsettled ≡ false) (trust : d.committed ≡ true → e.committed ≡ true) (up : IsTrue m2.down → ⊥) (flushed : AllFlushed e.config v m1 m2) where
    place_e : (w p k : ℕ) → place e.config w p k ≡ place core.config w p k
    place_e w p k = narrows.shape.place w p k ∙ one.moved.shape.place w p k

    inside_e : (w k : ℕ) → Inside core.config w k → Inside e.config w k
    inside_e w k in_it = inside_back e.config d.config narrows.shape w k (inside_back d.config core.config one.moved.shape w k in_it)

    was_read : (p k : ℕ) (x : List ℕ) → Inside core.config v k → IsTrue (active e.config v p) → m2.leaves (place core.config v p k).0 (place core.config v p k).1 x → m1.reads (place core.config v p k).0 (place core.config v p k).1 x
    was_read p k x in_it is_on left =
        let at : m2.leaves (place e.config v p k).0 (place e.config v p k).1 x = subst (λ (q : ℕ × ℕ). m2.leaves q.0 q.1 x) (sym (place_e v p k)) left in
        subst (λ (q : ℕ × ℕ). m1.reads q.0 q.1 x) (place_e v p k) ((flushed.each p is_on).each k x (inside_e v k in_it) at)

    pub flush_Mirrored : (above : (w p k : ℕ) → Inside core.config w k → IsTrue (active core.config w p) → 512 ≤ (place core.config w p k).1) → Mirrored core v source f e m0 m2
    flush_Mirrored above = record {
      moved = flush_Moved;
      settled = settled;
      trust = λ is. trust (one.trust is);
      up = up;
      value = one.value;
      origin = one.origin;
      one = λ p k x is in_it is_on left. one.copied p k x is in_it (narrows.on v p is_on) (was_read p k x in_it is_on left);
      kept = λ p k x off in_it is_on left. one.rest v p k x (λ same is. off is) in_it (narrows.on v p is_on) (was_read p k x in_it is_on left);
      rest = λ w p k x apart in_it is_on is. elim (narrows.acts.reads (place core.config w p k).0 (place core.config w p k).1 x (above w p k in_it (one.moved.on w p (narrows.on w p is_on))) is) [
        | inl (inl was) ↦ one.rest w p k x (λ same run. apart same) in_it (narrows.on w p is_on) was
        | inl (inr none) ↦ absurd none
        | inr down ↦ absurd (up down)
      ];
    }

-- ---- answers

pub ok_blamed : {T : Type 0} (Q P : Type 0) (r : Result T ShelfError) (old new : Meaning) → OnOk r Q → Blames old new r → (Q → (IsTrue new.down → ⊥) → P) → OnOk r P
ok_blamed Q P (Ok x) old new is up made_by = made_by is up
ok_blamed Q P (Err error) old new is why made_by = tt
