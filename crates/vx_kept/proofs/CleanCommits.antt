-- The commit of a configuration with plexes CLEAN.
use Rattle.std.proofs.Common.{◌≡◌, ℕ, zero, suc, ◌+◌, Bool, true, false, List, length, refl, ap, sym, ◌∙◌, subst, arith}
use Rattle.std.specs.Prelude.{◌&&◌, ◌==◌, if◌then◌else◌, slice_get}
use Rattle.std.proofs.lemmas.Bool.{and_from, and_parts}
use Rattle.vx_disk.specs.Shelf.{Each, Image, Lawful, Meaning}
use Rattle.vx_copyfmt.specs.Commits.{Tidy}
use Rattle.vx_copyfmt.specs.Imports.{Found, settle}
use Rattle.vx_model.specs.declared.no.No.{No}
use Rattle.vx_model.specs.declared.site.PlexState.TheVariants.{Clean}
use Rattle.vx_config.specs.Changes.{changed_at, stated, with_plex}
use Rattle.vx_config.specs.Checks.{is_sound}
use Rattle.vx_config.specs.declared.config.Config.{Config}
use Rattle.vx_config.specs.declared.entry.DiskEntry.{DiskEntry}
use Rattle.vx_config.specs.declared.entry.VolumeEntry.{VolumeEntry}
use Rattle.vx_layout.specs.Places.{plex_in}
use Rattle.vx_copies.specs.Bodies.{failed_in, fits_units, have_blocks, is_wanted}
use Rattle.vx_copies.specs.Commits.{Begins, Done, HeldGood, IsTry, Refused, StayFit}
use Rattle.vx_copies.specs.Looking.{on_shelf}
use Rattle.vx_copies.specs.Marks.{failed_at}
use Rattle.vx_copies.proofs.OneTry.{wanted_count}
use Rattle.vx_volume.specs.Plexes.{active}
use Rattle.vx_kept.specs.Choice.{chosen}
use Rattle.vx_kept.specs.Cleans.{Shown, at_serial, clean_at, clean_plexes, cleaned, is_unsure}
use Rattle.vx_kept.specs.Groups.{found_by}
use Rattle.vx_kept.specs.Keeping.{AllOn, MayBeNext, IsTidy, Kept, Kin}
use Rattle.vx_kept.specs.States.{whole_of, whole_or}
use Rattle.vx_kept.proofs.Chosen.{active_volumes, alike_extends, chosen_live, extends_volumes, live_volumes, same_extends, settle_all, settle_found}
use Rattle.vx_kept.proofs.CleanLemmas.{AllClean, all_clean, cleaned_more, cleaned_none, plexes_more, plexes_none}
use Rattle.vx_kept.proofs.Committed.{base_of, below_a, counts_new, labels_new}
use Rattle.vx_kept.proofs.Narrower.{sound_chosen}

module _ (unsure : List Bool) (c a : Config) (is : a ≡ cleaned unsure c (length c.volumes)) where
  all : AllClean unsure (length c.volumes) c a
  all = subst (AllClean unsure (length c.volumes) c) (sym is) (all_clean unsure (length c.volumes) c)

  pub clean_tidy : (m : Meaning) → IsTidy c m → IsTidy a m
  clean_tidy m tidy = record {
    each = λ u held. subst (λ (s : ℕ). Tidy (on_shelf m) (s + 1) (m.leaves u)) (sym all.alike.serial)
        (tidy.each u (record { below = held.below; good = ap (λ (ds : List DiskEntry). failed_at ds u) (sym all.alike.disks) ∙ held.good }));
  }

  pub clean_wanted : (units : ℕ) (size : ℕ → ℕ) → is_wanted units size c ≡ true → (is_sound c ≡ true → is_sound a ≡ true) → is_wanted units size a ≡ true
  clean_wanted units size wanted sound =
      let parts = and_parts (is_sound c) (fits_units units size c) wanted in
      and_from (is_sound a) (fits_units units size a) (sound parts.0) (ap (λ (ds : List DiskEntry). length ds == units && have_blocks size 0 ds) all.alike.disks ∙ parts.1)

  pub clean_follows : is_sound c ≡ true → AllOn c → MayBeNext c a
  clean_follows sound on = record {
    shape = same_extends a c all.alike.shape;
    serial = all.alike.serial;
    narrows = λ v p lt is. on.each v p (sym (all.alike.lives v p) ∙ is);
    some = λ v lt. (chosen c v, all.alike.lives v (chosen c v) ∙ sound_chosen c sound v (let same = all.alike.shape.volumes in omega (arith, same, lt)));
  }

-- ---- done

-- another serial in memory
kin_serial : (s : ℕ) (c x : Config) → Kin c x → Kin (at_serial s c) x
kin_serial s c x kin = record {
  shape = extends_volumes x c (at_serial s c) refl kin.shape;
  on = λ v p lt is. active_volumes (at_serial s c) c refl v p ∙ kin.on v p lt is;
  some = kin.some;
}

module _ (good : ℕ) (c a d : Config) (G : ℕ → Type 0) (old new : Meaning) (lawful : Lawful old) (lawful' : Lawful new) (kept : Kept c G old) (tidy : IsTidy a old) (follows : MayBeNext c a)
    (begins : Begins (IsTry a d.serial old new) a old new) (fit : StayFit a d.serial old new) (done : Done good a d old new) (wanted : is_wanted new.units new.size d ≡ true) where
  count : length d.disks ≡ new.units
  count = wanted_count new.units new.size d wanted

  kin : Kin (at_serial d.serial c) d
  kin = kin_serial d.serial c d (record {
    shape = alike_extends d a c done.grown.volumes follows.shape;
    on = λ v p lt is. follows.narrows v p lt (sym (live_volumes d a done.grown.volumes v p) ∙ is);
    some = λ v lt. let some = follows.some v (let le = follows.shape.volumes in omega (arith, lt, le)) in live_volumes d a done.grown.volumes v (chosen d v) ∙ chosen_live d a v some.0 done.grown.volumes some.1;
  })

  found_d : (i : Image) → Each new.leaves i → (R : ℕ → Bool) (g : ℕ) → HeldGood d new g → R g ≡ true → found_by new R i ≡ settle failed_in new.units R d
  found_d i each R g held in_it = done.found (below_a c a d old new lawful lawful' (base_of c G old kept) tidy follows begins fit) kept.labels i R g each held in_it

  found_all : (i : Image) → Each new.leaves i → found_by new (λ u. true) i ≡ Found d
  found_all i each =
      let g = done.left in
      found_d i each (λ u. true) g.disk (record { below = (let less = g.below in omega (arith, less, count)); good = g.held }) refl ∙ settle_all new.units d

  pub clean_shown : Shown c a d old new
  clean_shown = record {
    finds = found_all;
    reads = λ i R g each held in_it. found_d i each R g held in_it;
    grown = done.grown;
    later = (let more = done.later in let same = follows.serial in omega (arith, more, same));
    kept = record {
      below = record { each = λ u lt. (done.below (below_a c a d old new lawful lawful' (base_of c G old kept) tidy follows begins fit)).each u lt };
      counts = counts_new c a d old new lawful lawful' (base_of c G old kept) tidy follows begins fit;
      labels = labels_new c a d old new lawful lawful' (base_of c G old kept) tidy follows begins fit;
      sees = λ i each. record {
        config = d;
        found = found_all i each;
        kin = kin;
        others = λ R g x held in_it is. subst (Kin (at_serial d.serial c)) (settle_found new.units R d x (sym (found_d i each R g held in_it) ∙ is)) kin;
      };
    };
    some = λ all. let clash : true ≡ false = sym (all.each done.left.disk done.left.below) ∙ done.left.held in cc;
  }

-- ---- refused

whole_serial : (s : ℕ) (d : Config) (v p : ℕ) → whole_of (at_serial s d) v p ≡ whole_of d v p
unfolding whole_of
whole_serial s d v p = refl

one_serial : (s v p : ℕ) (d : Config) → clean_at v p (at_serial s d) ≡ at_serial s (clean_at v p d)
one_serial s v p d =
    ap (λ (b : Bool). if b then stated v p Clean (whole_of (at_serial s d) v p) (at_serial s d) else at_serial s d) (active_volumes (at_serial s d) d refl v p)
    ∙ ap (λ (w : Bool). if active d v p then stated v p Clean w (at_serial s d) else at_serial s d) (whole_serial s d v p) ∙ by (active d v p)
  where
    by : (b : Bool) → (if b then stated v p Clean (whole_of d v p) (at_serial s d) else at_serial s d) ≡ at_serial s (if b then stated v p Clean (whole_of d v p) d else d)
    by true = refl
    by false = refl

plexes_serial : (s v n : ℕ) (d : Config) → clean_plexes v (at_serial s d) n ≡ at_serial s (clean_plexes v d n)
plexes_serial s v zero d = plexes_none v (at_serial s d) ∙ ap (at_serial s) (sym (plexes_none v d))
plexes_serial s v (suc n) d =
    plexes_more v n (at_serial s d) ∙ ap (clean_at v n) (plexes_serial s v n d) ∙ one_serial s v n (clean_plexes v d n) ∙ ap (at_serial s) (sym (plexes_more v n d))

cleaned_serial : (s : ℕ) (unsure : List Bool) (n : ℕ) (c : Config) → cleaned unsure (at_serial s c) n ≡ at_serial s (cleaned unsure c n)
cleaned_serial s unsure zero c = cleaned_none unsure (at_serial s c) ∙ ap (at_serial s) (sym (cleaned_none unsure c))
cleaned_serial s unsure (suc n) c =
    cleaned_more unsure n (at_serial s c)
    ∙ ap (λ (x : Config). if is_unsure unsure n then x else clean_plexes n x 8) (cleaned_serial s unsure n c)
    ∙ by (is_unsure unsure n) (plexes_serial s n 8 (cleaned unsure c n)) ∙ ap (at_serial s) (sym (cleaned_more unsure n c))
  where
    by : (b : Bool) → clean_plexes n (at_serial s (cleaned unsure c n)) 8 ≡ at_serial s (clean_plexes n (cleaned unsure c n) 8)
        → (if b then at_serial s (cleaned unsure c n) else clean_plexes n (at_serial s (cleaned unsure c n)) 8) ≡ at_serial s (if b then cleaned unsure c n else clean_plexes n (cleaned unsure c n) 8)
    by true same = refl
    by false same = same

-- what is refused is put back
pub clean_back : (good : ℕ) (unsure : List Bool) (c a d : Config) (old new : Meaning) (why : No) → a ≡ cleaned unsure c (length c.volumes) → Refused good a d old new why → d ≡ cleaned unsure (at_serial d.serial c) (length c.volumes)
clean_back good unsure c a d old new why is refused = refused.kept ∙ ap (at_serial d.serial) is ∙ sym (cleaned_serial d.serial unsure (length c.volumes) c)

-- ---- the same volumes

whole_volumes : (d c : Config) → d.volumes ≡ c.volumes → (v p : ℕ) → whole_of d v p ≡ whole_of c v p
unfolding whole_of
whole_volumes d c same v p = ap (λ (vs : List VolumeEntry). whole_or (plex_in (slice_get vs v) p)) same

one_volumes : (v p : ℕ) (d c : Config) → d.volumes ≡ c.volumes → (clean_at v p d).volumes ≡ (clean_at v p c).volumes
one_volumes v p d c same =
    ap (λ (b : Bool). (if b then stated v p Clean (whole_of d v p) d else d).volumes) (active_volumes d c same v p)
    ∙ ap (λ (w : Bool). (if active c v p then stated v p Clean w d else d).volumes) (whole_volumes d c same v p) ∙ by (active c v p)
  where
    by : (b : Bool) → (if b then stated v p Clean (whole_of c v p) d else d).volumes ≡ (if b then stated v p Clean (whole_of c v p) c else c).volumes
    by true = ap (changed_at (with_plex p Clean (whole_of c v p)) v) same
    by false = same

plexes_volumes : (v n : ℕ) (d c : Config) → d.volumes ≡ c.volumes → (clean_plexes v d n).volumes ≡ (clean_plexes v c n).volumes
plexes_volumes v zero d c same = ap (λ (x : Config). x.volumes) (plexes_none v d) ∙ same ∙ ap (λ (x : Config). x.volumes) (sym (plexes_none v c))
plexes_volumes v (suc n) d c same =
    ap (λ (x : Config). x.volumes) (plexes_more v n d) ∙ one_volumes v n (clean_plexes v d n) (clean_plexes v c n) (plexes_volumes v n d c same)
    ∙ ap (λ (x : Config). x.volumes) (sym (plexes_more v n c))

-- what is made CLEAN hangs on the volumes alone
pub cleaned_volumes : (unsure : List Bool) (n : ℕ) (d c : Config) → d.volumes ≡ c.volumes → (cleaned unsure d n).volumes ≡ (cleaned unsure c n).volumes
cleaned_volumes unsure zero d c same = ap (λ (x : Config). x.volumes) (cleaned_none unsure d) ∙ same ∙ ap (λ (x : Config). x.volumes) (sym (cleaned_none unsure c))
cleaned_volumes unsure (suc n) d c same =
    ap (λ (x : Config). x.volumes) (cleaned_more unsure n d)
    ∙ by (is_unsure unsure n) (cleaned_volumes unsure n d c same) (plexes_volumes n 8 (cleaned unsure d n) (cleaned unsure c n) (cleaned_volumes unsure n d c same))
    ∙ ap (λ (x : Config). x.volumes) (sym (cleaned_more unsure n c))
  where
    by : (b : Bool) → (cleaned unsure d n).volumes ≡ (cleaned unsure c n).volumes → (clean_plexes n (cleaned unsure d n) 8).volumes ≡ (clean_plexes n (cleaned unsure c n) 8).volumes
        → (if b then cleaned unsure d n else clean_plexes n (cleaned unsure d n) 8).volumes ≡ (if b then cleaned unsure c n else clean_plexes n (cleaned unsure c n) 8).volumes
    by true was more = was
    by false was more = more
