-- A plex that is attached, as calls of a group.
use Rattle.std.proofs.Common.{◌≡◌, ◌≢◌, ◌⊎◌, inl, inr, ⊎_elim, ℕ, ◌<◌, ◌≤◌, Bool, true, false, IsTrue, Option, List, set, Result, Ok, Err, refl, ap, sym, ◌∙◌, subst, arith}
use Rattle.std.proofs.lemmas.Bool.{cases_eq}
use Rattle.vx_disk.specs.Blocks.{bit_at}
use Rattle.vx_disk.specs.Moves.{Says}
use Rattle.vx_disk.specs.Shelf.{Goes, Image, Lawful, Meaning, Nothing, Or, Values}
use Rattle.vx_disk.specs.declared.shelf.ShelfError.{ShelfError}
use Rattle.vx_disk.specs.declared.shelf.ShelfError.TheVariants.{Fault, Down}
use Rattle.vx_disk.proofs.Runs.{then_nothing}
use Rattle.vx_model.specs.declared.site.PlexState.TheVariants.{Stale}
use Rattle.vx_config.specs.Changes.{stated}
use Rattle.vx_config.specs.declared.config.Config.{Config}
use Rattle.vx_layout.specs.Places.{place}
use Rattle.vx_volume.specs.Copies.{CopyCause, IsCopied}
use Rattle.vx_volume.specs.Plexes.{Inside, SomeActive, active}
use Rattle.vx_volume.specs.Sets.{bits}
use Rattle.vx_volume.proofs.UsesLemmas.{TherePlex}
use Rattle.vx_fmr.specs.Missed.{Missed}
use Rattle.vx_kept.specs.Commits.{Member}
use Rattle.vx_kept.specs.Groups.{PlacesApart, OnSome, OutsideVolumes, Shows, seen}
use Rattle.vx_kept.specs.Finds.{FindsFrom, NoConfiguration}
use Rattle.vx_kept.specs.Keeping.{Acts, SameShape, Sees}
use Rattle.vx_kept.specs.States.{AreOn, SomeLeft, whole_of}
use Rattle.vx_kept.proofs.Lasting.{low_Acts}
use Rattle.vx_kept.proofs.Narrower.{stand_apart}
use Rattle.vx_kept.proofs.StateLemmas.{same_shape, then_shape}
use Rattle.vx_kept.proofs.Steps.{both_Acts, group-Goes, inside_back, inside_same, same_Acts, wide_Acts}
use Rattle.vx_group.specs.Attaches.{AnyImage, Attaches, HasOther, MayAttach, OnMissed, attached}
use Rattle.vx_group.specs.Blames.{Blames}
use Rattle.vx_group.specs.Holding.{with_config}
use Rattle.vx_group.specs.Moves.{Narrows}
use Rattle.vx_group.specs.Stands.{InnerStands, volume_faults, inner_meaning}
use Rattle.vx_group.specs.declared.inner.Inner.{Inner}
use Rattle.vx_group.proofs.CallLemmas.{narrows_Goes}
use Rattle.vx_group.proofs.DetLemmas.{bit_other, no_flags}
use Rattle.vx_group.proofs.DetachLemmas.{zero_bit}
use Rattle.vx_group.proofs.OpeningLemmas.{closed, open_Stands, open_on, open_others, open_shape, open_sound, open_wider, opened, present}
use Rattle.vx_group.proofs.Standing.{apart_of_core, kept_of, low_Stands, low_finds, sound_of}
use Rattle.vx_group.proofs.LoseLemmas.{le_same, none_parts, then_parts}
use Rattle.vx_group.specs.Loses.{SameParts}

-- ---- two in a row

pub any_acts : (W V : Values) (P : Says) (a b : Meaning) → Acts W P a b → ((u k : ℕ) (x : List ℕ) → W u k x → V u k x) → Acts V AnyImage a b
any_acts W V P a b acts wide = wide_Acts (Or Nothing W) V AnyImage a b (both_Acts Nothing W AnyImage P a a b (same_Acts AnyImage a) acts (λ i now. tt)) (λ u k x. ⊎_elim (λ none. absurd none) (λ put. wide u k x put))

pub on_back : (c d : Config) (v p : ℕ) (f : Option Missed) → SameShape d c → (u b : ℕ) (x : List ℕ) → OnMissed d v p f u b x → OnMissed c v p f u b x
on_back c d v p f shape u b x it = record {
  put = record { number = it.put.number; inside = inside_same d c shape v it.put.number it.put.inside; at = sym (shape.place v p it.put.number) ∙ it.put.at };
  missed = it.missed;
}

pub then_attaches : (v p : ℕ) (f : Option Missed) (c d e : Inner) (m0 m1 m2 : Meaning) → Attaches v p f c d m0 m1 → Attaches v p f d e m1 m2 → Attaches v p f c e m0 m2
then_attaches v p f c d e m0 m1 m2 one two = record {
  goes = then_nothing Nothing (inner_meaning c m0) (inner_meaning d m1) (inner_meaning e m2) one.goes two.goes;
  acts = wide_Acts (Or (OnMissed c.config v p f) (OnMissed d.config v p f)) (OnMissed c.config v p f) AnyImage m0 m2
      (both_Acts (OnMissed c.config v p f) (OnMissed d.config v p f) AnyImage AnyImage m0 m1 m2 one.acts two.acts (λ i now. tt))
      (λ u b x. ⊎_elim (λ put. put) (λ put. on_back c.config d.config v p f one.shape u b x put));
  shape = then_shape e.config d.config c.config two.shape one.shape;
  others = λ w q apart. two.others w q apart ∙ one.others w q apart;
  parts = then_parts c.config d.config e.config one.parts two.parts;
  faults = two.faults ∙ one.faults;
  unsure = two.unsure ∙ one.unsure;
}

-- a commit that changes no other plex
pub narrows_attaches : (v p : ℕ) (f : Option Missed) (c d : Inner) (m m' : Meaning) → Lawful m' → InnerStands c m → Narrows c d m m' → SameParts c.config d.config → ((w q : ℕ) → (w ≡ v → q ≡ p → ⊥) → active d.config w q ≡ active c.config w q) → Attaches v p f c d m m'
narrows_attaches v p f c d m m' after stands narrows parts others = record {
  goes = narrows_Goes c d m m' after stands narrows (volume_faults c.faults) (volume_faults d.faults) (λ u. let same = ap (λ (f : List ℕ). volume_faults f u) narrows.faults in omega (arith, same));
  acts = any_acts Nothing (OnMissed c.config v p f) (Sees c.config (Member c.good m) m) m m' narrows.acts (λ u k x none. absurd none);
  shape = narrows.shape;
  others = others;
  parts = parts;
  faults = narrows.faults;
  unsure = narrows.unsure;
}

-- ---- the copy

module _ (core : Inner) (v p : ℕ) (f : Option Missed) (there : TherePlex core.config v p) (off : active core.config v p ≡ false) (m m' : Meaning) (before : Lawful m) (after : Lawful m') (stands : InnerStands core m)
    (goes : Goes (OnMissed (attached v p core.config) v p f) m m') where
  abbrev c : Config
  c = core.config

  abbrev d : Config
  d = attached v p core.config

  shape : SameShape d c
  shape = open_shape c v p there

  apart_wide : PlacesApart d
  apart_wide = stand_apart d (open_sound c v p there (sound_of core m stands))

  high : (u b : ℕ) (x : List ℕ) → OnMissed d v p f u b x → 512 ≤ b
  high u b x put =
      let far : 512 ≤ (place d v p put.put.number).1 = apart_wide.above v p put.put.number put.put.inside (open_on c v p there) in
      let is : (place d v p put.put.number).1 ≡ b = ap (λ (q : ℕ × ℕ). q.1) put.put.at in
      omega (arith, far, is)

  pub missed_Stands : InnerStands core m'
  missed_Stands = low_Stands core (OnMissed d v p f) m m' goes high before after stands

  pub copied_finds : FindsFrom NoConfiguration m m'
  copied_finds = low_finds core (OnMissed d v p f) m m' goes high before after stands

  pub copied_Stands : InnerStands (opened v p core) m'
  copied_Stands = low_Stands (opened v p core) (OnMissed d v p f) m m' goes high before after (open_Stands core v p there m stands)

  low : Acts (OnMissed d v p f) (Sees c (Member core.good m) m) m m'
  low = low_Acts c (Member core.good m) m m' (OnMissed d v p f) goes high before after (kept_of core m stands)

  not_here : (w q b : ℕ) (x : List ℕ) → Inside c w b → IsTrue (active c w q) → OnMissed d v p f (place c w q b).0 (place c w q b).1 x → ⊥
  not_here w q b x in_it is_on put =
      let one = apart_wide.one w q b v p put.put.number (inside_back d c shape w b in_it) put.put.inside (open_wider c v p there w q is_on) (open_on c v p there) (shape.place w q b ∙ sym put.put.at) in
      let at : IsTrue (active c v p) = subst (λ (y : ℕ). IsTrue (active c y p)) one.0 (subst (λ (r : ℕ). IsTrue (active c w r)) one.1 is_on) in
      let clash : false ≡ true = sym off ∙ at in cc

  narrow_goes : Goes Nothing (inner_meaning core m) (inner_meaning core m')
  narrow_goes = group-Goes c c (Member core.good m) (volume_faults core.faults) (volume_faults core.faults) m m' (OnMissed d v p f) Nothing low (apart_of_core core m stands) (same_shape c) (λ w q is. is)
      (λ w q b x in_it is_on put. absurd (not_here w q b x in_it is_on put)) (λ w. omega arith) (λ not t i left. after.never not t i left)

  plex_acts : Acts (OnMissed c v p f) AnyImage m m'
  plex_acts = any_acts (OnMissed d v p f) (OnMissed c v p f) (Sees c (Member core.good m) m) m m' low (λ u b x put. on_back c d v p f shape u b x put)

  pub missed_attaches : Attaches v p f core core m m'
  missed_attaches = record { goes = narrow_goes; acts = plex_acts; shape = same_shape c; others = λ w q apart. refl; parts = none_parts c; faults = refl; unsure = refl }

  -- ---- done

  module _ (source : ℕ) (from : IsTrue (active c v source)) (copied : IsCopied d v source p m m') where
    shows_c : (x : Config) (j i : Image) → Shows d x j i → Shows c x j i
    shows_c x j i shows = record { here = λ w b in_it. shows.here w b (inside_back d c shape w b in_it); beyond = λ w b out. shows.beyond w b (λ in_it. out (inside_same d c shape w b in_it)) }

    shows_d : (x : Config) (j i : Image) → Shows c x j i → Shows d x j i
    shows_d x j i shows = record { here = λ w b in_it. shows.here w b (inside_same d c shape w b in_it); beyond = λ w b out. shows.beyond w b (λ in_it. out (inside_back d c shape w b in_it)) }

    old_at : (s : Values) (w q b : ℕ) (x : List ℕ) → s (place d w q b).0 (place d w q b).1 x → s (place c w q b).0 (place c w q b).1 x
    old_at s w q b x is = subst (λ (r : ℕ × ℕ). s r.0 r.1 x) (shape.place w q b) is

    -- what the plex has the source read
    from_source : (b : ℕ) (x : List ℕ) → Inside c v b → m'.leaves (place d v p b).0 (place d v p b).1 x → m.reads (place c v source b).0 (place c v source b).1 x
    from_source b x in_it left = old_at m.reads v source b x (copied.each b x (inside_back d c shape v b in_it) left)

    -- a value of a volume is one of a plex that was ACTIVE, or the source read it
    by_plex : (s : Values) (w b : ℕ) (x : List ℕ) → OnSome d s w b x → OnSome c s w b x ⊎ ((w ≡ v) × Inside c v b × s (place d v p b).0 (place d v p b).1 x)
    by_plex s w b x is = elim (cases_eq w v) [
      | inl same ↦ elim (cases_eq is.plex p) [
        | inl at ↦ inr (
          same,
          subst (λ (y : ℕ). Inside c y b) same (inside_same d c shape w b is.inside),
          subst (λ (y : ℕ). s (place d y p b).0 (place d y p b).1 x) same (subst (λ (r : ℕ). s (place d w r b).0 (place d w r b).1 x) at is.value),
        )
        | inr other ↦ inl (was (λ s t. other t))
      ]
      | inr apart ↦ inl (was (λ s t. apart s))
    ]
      where
        was : (w ≡ v → is.plex ≡ p → ⊥) → OnSome c s w b x
        was apart = record { inside = inside_same d c shape w b is.inside; plex = is.plex; is_on = sym (open_others c v p there w is.plex apart) ∙ is.is_on; value = old_at s w is.plex b x is.value }

    out_c : (told : Bool) (w b : ℕ) (x : List ℕ) → OutsideVolumes told d w b x → OutsideVolumes told c w b x
    out_c told w b x out = record { tells = out.tells; outside = λ in_it. out.outside (inside_back d c shape w b in_it); empty = out.empty }

    source_seen : (s : Values) (w b : ℕ) (x : List ℕ) → w ≡ v → Inside c v b → s (place c v source b).0 (place c v source b).1 x → OnSome c s w b x
    source_seen s w b x same in_it is = subst (λ (y : ℕ). OnSome c s y b x) (sym same) (record { inside = in_it; plex = source; is_on = from; value = is })

    wide_reads : (w b : ℕ) (x : List ℕ) → seen m'.tells d m'.reads w b x → Or (seen m.tells c m.reads) Nothing w b x ⊎ IsTrue m'.down
    wide_reads w b x (inl is) = elim (by_plex m'.reads w b x is) [
      | inl was ↦ narrow_goes.reads w b x (inl was)
      | inr here ↦ inl (inl (inl (source_seen m.reads w b x here.0 here.1 (from_source b x here.1 (after.shown (place d v p b).0 (place d v p b).1 x here.2)))))
    ]
    wide_reads w b x (inr out) = narrow_goes.reads w b x (inr (out_c m'.tells w b x out))

    wide_leaves : (w b : ℕ) (x : List ℕ) → seen m'.tells d m'.leaves w b x → Or (seen m.tells c m.leaves) Nothing w b x
    wide_leaves w b x (inl is) = elim (by_plex m'.leaves w b x is) [
      | inl was ↦ narrow_goes.leaves w b x (inl was)
      | inr here ↦ inl (inl (source_seen m.leaves w b x here.0 here.1 (before.shown (place c v source b).0 (place c v source b).1 x (from_source b x here.1 here.2))))
    ]
    wide_leaves w b x (inr out) = narrow_goes.leaves w b x (inr (out_c m'.tells w b x out))

    wide_goes : Goes Nothing (inner_meaning core m) (inner_meaning (opened v p core) m')
    wide_goes = record {
      units = shape.volumes;
      size = shape.blocks;
      tells = narrow_goes.tells;
      reads = wide_reads;
      leaves = wide_leaves;
      later = narrow_goes.later;
      since = λ t i le left. narrow_goes.since t i le (record { image = left.image; left = left.left; config = left.config; found = left.found; shows = shows_c left.config left.image i left.shows });
      keeps = λ t i le left. let it = narrow_goes.keeps t i le left in record { image = it.image; left = it.left; config = it.config; found = it.found; shows = shows_d it.config it.image i it.shows };
      faults = narrow_goes.faults;
      disk_faults = narrow_goes.disk_faults;
      falls = narrow_goes.falls;
      unarmed = narrow_goes.unarmed;
      safe = narrow_goes.safe;
    }

    pub copied_attaches : Attaches v p f core (opened v p core) m m'
    copied_attaches = record { goes = wide_goes; acts = plex_acts; shape = shape; others = λ w q apart. open_others c v p there w q apart; parts = record { site = refl; rvg = refl; count = refl; later = le_same core.config.serial }; faults = refl; unsure = refl }

-- ---- why

pub copy_blames : {T : Type 0} (c : Config) (v source p : ℕ) (old new : Meaning) (r : Result T ShelfError) → CopyCause c v source p old new r → Blames old new r
copy_blames c v source p old new (Ok x) up = up
copy_blames c v source p old new (Err (Fault disk)) why = (why.1, why.2)
copy_blames c v source p old new (Err Down) down = down

-- ---- sets

pub none_on : (c : Config) (v : ℕ) → AreOn c v 0
none_on c v = record { each = λ q in_it. absurd (let clash : false ≡ true = sym (zero_bit 0 q refl) ∙ in_it in cc) }

-- another plex is ACTIVE
pub has_other : (c d : Config) (v p : ℕ) → SomeActive c v → active c v p ≡ false → ((w q : ℕ) → (w ≡ v → q ≡ p → ⊥) → active d w q ≡ active c w q) → HasOther d v p
has_other c d v p some off others =
    let apart : some.plex ≢ p = (λ (at : some.plex ≡ p). let on : IsTrue (active c v p) = subst (λ (q : ℕ). IsTrue (active c v q)) at some.is_on in let clash : false ≡ true = sym off ∙ on in cc) in
    record { plex = some.plex; is_on = others v some.plex (λ same at. apart at) ∙ some.is_on; apart = apart }

pub other_left : (c : Config) (v p value : ℕ) → p < 8 → value ≡ bits (set no_flags p true) → HasOther c v p → SomeLeft c v value
other_left c v p value lt is other = record { plex = other.plex; is_on = other.is_on; out = bit_other p value lt is other.plex other.apart }

pub no_bit : (q : ℕ) → bit_at 0 q ≡ true → ⊥
no_bit q in_it = let clash : false ≡ true = sym (zero_bit 0 q refl) ∙ in_it in cc

-- ---- the configuration as the code has it

module _ (core : Inner) (v p : ℕ) (f : Option Missed) (may : MayAttach core.config v p) (off : active core.config v p ≡ false) (m m' : Meaning) (before : Lawful m) (after : Lawful m') (stands : InnerStands core m)
    (e : Config) (is : e ≡ attached v p core.config) (goes : Goes (OnMissed e v p f) m m') where
  goes_by : Goes (OnMissed (attached v p core.config) v p f) m m'
  goes_by = subst (λ (x : Config). Goes (OnMissed x v p f) m m') is goes

  pub to_Stands : InnerStands (with_config e core) m'
  to_Stands = subst (λ (x : Config). InnerStands (with_config x core) m') (sym is) (copied_Stands core v p f (present core.config v p may) off m m' before after stands goes_by)

  pub to_finds : FindsFrom NoConfiguration m m'
  to_finds = copied_finds core v p f (present core.config v p may) off m m' before after stands goes_by

  pub to_attaches : (source : ℕ) → IsTrue (active core.config v source) → IsCopied e v source p m m' → Attaches v p f core (with_config e core) m m'
  to_attaches source from copied =
      subst (λ (x : Config). Attaches v p f core (with_config x core) m m') (sym is)
      (copied_attaches core v p f (present core.config v p may) off m m' before after stands goes_by source from (subst (λ (x : Config). IsCopied x v source p m m') is copied))

  module _ (g : Config) (whole : Bool) (flag : whole ≡ whole_of core.config v p) (back : g ≡ stated v p Stale whole e) where
    pub same_back : g ≡ core.config
    same_back = back ∙ ap (stated v p Stale whole) is ∙ closed core.config v p (present core.config v p may) stands.on off whole flag

    pub back_Stands : InnerStands (with_config g core) m'
    back_Stands = subst (λ (x : Config). InnerStands (with_config x core) m') (sym same_back) (missed_Stands core v p f (present core.config v p may) off m m' before after stands goes_by)

    pub back_attaches : Attaches v p f core (with_config g core) m m'
    back_attaches = subst (λ (x : Config). Attaches v p f core (with_config x core) m m') (sym same_back) (missed_attaches core v p f (present core.config v p may) off m m' before after stands goes_by)
