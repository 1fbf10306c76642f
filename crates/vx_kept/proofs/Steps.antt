-- What calls on the shelf below are to a group over it.
use Rattle.std.proofs.Common.{◌≡◌, ◌⊎◌, inl, inr, ⊎_elim, ℕ, ◌<◌, ◌≤◌, List, refl, sym, ◌∙◌, ap, subst, arith, Bool, true, IsTrue, IsFalse, length, ◌^◌, []}
use Rattle.std.proofs.lemmas.Bool.{cases_lt}
use Rattle.vx_disk.specs.Moves.{Says}
use Rattle.vx_disk.specs.Shelf.{Each, Goes, Image, Lawful, Meaning, Nothing, Or, Values}
use Rattle.vx_copyfmt.specs.Imports.{Found}
use Rattle.vx_config.specs.Checks.{blocks_of}
use Rattle.vx_config.specs.declared.config.Config.{Config}
use Rattle.vx_kept.specs.Choice.{chosen}
use Rattle.vx_layout.specs.Places.{place}
use Rattle.vx_volume.specs.Plexes.{active}
use Rattle.vx_kept.specs.Groups.{PlacesApart, HasActive, ImportedImage, OutsideVolumes, Shows, group_meaning, seen}
use Rattle.vx_kept.specs.Keeping.{Acts, Kept, Kin, SameShape, Sees}
use Rattle.vx_volume.specs.Plexes.{Inside}
use Rattle.vx_kept.proofs.Lasting.{cases_bool}
use Rattle.vx_kept.proofs.Low.{found_same}

pub inside : (c : Config) (v b : ℕ) → Inside c v b ⊎ (Inside c v b → ⊥)
inside c v b = elim (cases_lt v (length c.volumes)) [
  | inl volume ↦ elim (cases_lt b (blocks_of c.volumes v)) [
    | inl within ↦ inl (record { volume = volume; within = within })
    | inr past ↦ inr (λ in_it. omega (arith, past, in_it.within))
  ]
  | inr past ↦ inr (λ in_it. omega (arith, past, in_it.volume))
]

pub inside_same : (x c : Config) → SameShape x c → (v b : ℕ) → Inside x v b → Inside c v b
inside_same x c same v b in_it = record { volume = omega (arith, same.volumes, in_it.volume); within = omega (arith, same.blocks v, in_it.within) }

pub inside_back : (x c : Config) → SameShape x c → (v b : ℕ) → Inside c v b → Inside x v b
inside_back x c same v b in_it = record { volume = omega (arith, same.volumes, in_it.volume); within = omega (arith, same.blocks v, in_it.within) }

-- two runs of calls are one
module _ (p q : Values) (P Q : Says) (first mid last : Meaning) (one : Acts p P first mid) (two : Acts q Q mid last) (here : (i : Image) → Q i → P i) where
  during : (u b : ℕ) (v : List ℕ) → 512 ≤ b → Or mid.leaves q u b v → Or first.leaves (Or p q) u b v
  during u b v le (inl left) = ⊎_elim (λ old. inl old) (λ put. inr (inl put)) (one.leaves u b v le left)
  during u b v le (inr put) = inr (inr put)

  widen : (u b : ℕ) (v : List ℕ) → Or first.leaves p u b v → Or first.leaves (Or p q) u b v
  widen u b v = ⊎_elim (λ old. inl old) (λ put. inr (inl put))

  pub both_Acts : Acts (Or p q) P first last
  both_Acts = record {
    units = two.units ∙ one.units;
    size = λ u. two.size u ∙ one.size u;
    tells = two.tells ∙ one.tells;
    reads = λ u b v le is. elim (two.reads u b v le is) [
      | inl (inl was) ↦ elim (one.reads u b v le was) [ inl (inl old) ↦ inl (inl old) | inl (inr put) ↦ inl (inr (inl put)) | inr down ↦ inr (two.falls down) ]
      | inl (inr put) ↦ inl (inr (inr put))
      | inr down ↦ inr down
    ];
    leaves = λ u b v le left. during u b v le (two.leaves u b v le left);
    later = omega (arith, one.later, two.later);
    since = λ t i le left. elim (two.since t i (omega (arith, le, one.later)) left) [
      | inl was ↦ elim (one.since t i le was) [ inl old ↦ inl old | inr now ↦ inr ((λ u b far. widen u b (i u b) (now.0 u b far)), now.1) ]
      | inr now ↦ inr ((λ u b far. during u b (i u b) far (now.0 u b far)), here i now.1)
    ];
    keeps = λ t i le left. two.keeps t i (omega (arith, le, one.later)) (one.keeps t i le left);
    faults = λ u. omega (arith, one.faults u, two.faults u);
    disk_faults = λ d. omega (arith, one.disk_faults d, two.disk_faults d);
    falls = λ down. two.falls (one.falls down);
    unarmed = λ no. two.unarmed (one.unarmed no);
    safe = λ no down. one.safe no (two.safe (one.unarmed no) down);
  }

-- what was written is within this
module _ (p q : Values) (P : Says) (old new : Meaning) (acts : Acts p P old new) (wide : (u b : ℕ) (v : List ℕ) → p u b v → q u b v) where
  wider : (s : Values) (u b : ℕ) (v : List ℕ) → Or s p u b v → Or s q u b v
  wider s u b v = ⊎_elim (λ was. inl was) (λ put. inr (wide u b v put))

  pub wide_Acts : Acts q P old new
  wide_Acts = record {
    units = acts.units;
    size = acts.size;
    tells = acts.tells;
    reads = λ u b v le is. ⊎_elim (λ or. inl (wider old.reads u b v or)) (λ down. inr down) (acts.reads u b v le is);
    leaves = λ u b v le left. wider old.leaves u b v (acts.leaves u b v le left);
    later = acts.later;
    since = λ t i le left. ⊎_elim (λ was. inl was) (λ now. inr ((λ u b far. wider old.leaves u b (i u b) (now.0 u b far)), now.1)) (acts.since t i le left);
    keeps = acts.keeps;
    faults = acts.faults;
    disk_faults = acts.disk_faults;
    falls = acts.falls;
    unarmed = acts.unarmed;
    safe = acts.safe;
  }

-- the central lemma: from a configuration c in memory to d
module _ (c d : Config) (G : ℕ → Type 0) (faults faults' : ℕ → ℕ) (m m' : Meaning) (W V : Values)
    (acts : Acts W (Sees c G m) m m') (apart : PlacesApart c) (same : SameShape d c) (narrows : (v p : ℕ) → IsTrue (active d v p) → IsTrue (active c v p))
    (in_v : (v p b : ℕ) (x : List ℕ) → Inside c v b → IsTrue (active c v p) → W (place c v p b).0 (place c v p b).1 x → V v b x) (no_less : (v : ℕ) → faults v ≤ faults' v)
    (blind : IsFalse m'.tells → (t : ℕ) (i : Image) → m'.left_since t i → ⊥) where
  abbrev old : Meaning
  old = group_meaning c faults m

  abbrev new : Meaning
  new = group_meaning d faults' m'

  put : (s : Values) (v p b : ℕ) (x : List ℕ) → Inside c v b → IsTrue (active c v p) → Or s W (place c v p b).0 (place c v p b).1 x → Or (seen m.tells c s) V v b x
  put s v p b x in_it is_on = ⊎_elim (λ was. inl (inl (record { inside = in_it; plex = p; is_on = is_on; value = was }))) (λ w. inr (in_v v p b x in_it is_on w))

  out_old : (v b : ℕ) (x : List ℕ) → OutsideVolumes m'.tells d v b x → OutsideVolumes m.tells c v b x
  out_old v b x out = record { tells = sym acts.tells ∙ out.tells; outside = λ in_it. out.outside (inside_back d c same v b in_it); empty = out.empty }

  at_old : (s : Values) (v p b : ℕ) (x : List ℕ) → s (place d v p b).0 (place d v p b).1 x → s (place c v p b).0 (place c v p b).1 x
  at_old s v p b x is = subst (λ (q : ℕ × ℕ). s q.0 q.1 x) (same.place v p b) is

  reads : (v b : ℕ) (x : List ℕ) → new.reads v b x → Or old.reads V v b x ⊎ IsTrue m'.down
  reads v b x (inl is) =
      let p = is.plex in
      let in_it = inside_same d c same v b is.inside in
      let is_on = narrows v p is.is_on in
      ⊎_elim (λ or. inl (put m.reads v p b x in_it is_on or)) (λ down. inr down) (acts.reads (place c v p b).0 (place c v p b).1 x (apart.above v p b in_it is_on) (at_old m'.reads v p b x is.value))
  reads v b x (inr out) = inl (inl (inr (out_old v b x out)))

  leaves : (v b : ℕ) (x : List ℕ) → new.leaves v b x → Or old.leaves V v b x
  leaves v b x (inl left) =
      let p = left.plex in
      let in_it = inside_same d c same v b left.inside in
      let is_on = narrows v p left.is_on in
      put m.leaves v p b x in_it is_on (acts.leaves (place c v p b).0 (place c v p b).1 x (apart.above v p b in_it is_on) (at_old m'.leaves v p b x left.value))
  leaves v b x (inr out) = inl (inr (out_old v b x out))

  -- an image in the call, by its configuration x
  image_during : (j i : Image) (x : Config) → IsTrue m'.tells → Kin c x → Shows c x j i → ((u b : ℕ) → 512 ≤ b → Or m.leaves W u b (j u b)) → Each (Or old.leaves V) i
  image_during j i x tells kin shows far v b = elim (inside c v b) [
    | inl in_it ↦
        let p = chosen x v in
        let is_on = kin.on v p in_it.volume (kin.some v in_it.volume) in
        let is : i v b ≡ j (place c v p b).0 (place c v p b).1 = shows.here v b in_it ∙ ap (λ (q : ℕ × ℕ). j q.0 q.1) (kin.shape.place v p b in_it.volume) in
        put m.leaves v p b (i v b) in_it is_on (subst (λ (y : List ℕ). Or m.leaves W (place c v p b).0 (place c v p b).1 y) (sym is) (far (place c v p b).0 (place c v p b).1 (apart.above v p b in_it is_on)))
    | inr out ↦ inl (inr (record { tells = sym acts.tells ∙ tells; outside = out; empty = shows.beyond v b out }))
  ]

  shows_old : (x : Config) (j i : Image) → Shows d x j i → Shows c x j i
  shows_old x j i shows = record { here = λ v b in_it. shows.here v b (inside_back d c same v b in_it); beyond = λ v b out. shows.beyond v b (λ in_it. out (inside_same d c same v b in_it)) }

  shows_new : (x : Config) (j i : Image) → Shows c x j i → Shows d x j i
  shows_new x j i shows = record { here = λ v b in_it. shows.here v b (inside_same d c same v b in_it); beyond = λ v b out. shows.beyond v b (λ in_it. out (inside_back d c same v b in_it)) }

  before : (P : Image → Type 0) (i : Image) (left : ImportedImage d m' P i) (Q : Image → Type 0) → Q left.image → ImportedImage c m Q i
  before P i left Q was = record { image = left.image; left = was; config = left.config; found = sym (found_same m m' acts.units acts.size (λ u. true) left.image) ∙ left.found; shows = shows_old left.config left.image i left.shows }

  since : (t : ℕ) (i : Image) → t ≤ m.moment → new.left_since t i → old.left_since t i ⊎ Each (Or old.leaves V) i
  since t i le left = elim (acts.since t left.image le left.left) [
    | inl was ↦ inl (before (m'.left_since t) i left (m.left_since t) was)
    | inr now ↦
        let sees = now.1 in
        let one : Found left.config ≡ Found sees.config = sym left.found ∙ found_same m m' acts.units acts.size (λ u. true) left.image ∙ sees.found in
        let is : left.config ≡ sees.config = cc in
        elim (cases_bool m'.tells) [
          | inl tells ↦ inr (image_during left.image i left.config tells (subst (Kin c) (sym is) sees.kin) (shows_old left.config left.image i left.shows) now.0)
          | inr not ↦ absurd (blind not t left.image left.left)
        ]
  ]

  pub group-Goes : Goes V (group_meaning c faults m) (group_meaning d faults' m')
  group-Goes = record {
    units = same.volumes;
    size = same.blocks;
    tells = acts.tells;
    reads = reads;
    leaves = leaves;
    later = acts.later;
    since = since;
    keeps = λ t i le left. record { image = left.image; left = acts.keeps t left.image le left.left; config = left.config; found = found_same m m' acts.units acts.size (λ u. true) left.image ∙ left.found; shows = shows_new left.config left.image i left.shows };
    faults = no_less;
    disk_faults = acts.disk_faults;
    falls = acts.falls;
    unarmed = acts.unarmed;
    safe = acts.safe;
  }

-- ---- a group obeys the laws of a shelf

module _ (c : Config) (G : ℕ → Type 0) (faults : ℕ → ℕ) (m : Meaning) (lawful : Lawful m) (kept : Kept c G m) (some_on : HasActive c) (few : length c.volumes < 2 ^ 32) (small : (v : ℕ) → blocks_of c.volumes v < 2 ^ 64) where
  some : IsTrue m.tells → (v b : ℕ) → (x : List ℕ) × seen m.tells c m.reads v b x
  some tells v b = elim (inside c v b) [
    | inl in_it ↦
        let p = some_on.first v in
        let it = lawful.some tells (place c v p b).0 (place c v p b).1 in
        (it.0, inl (record { inside = in_it; plex = p; is_on = some_on.is_on v in_it.volume; value = it.1 }))
    | inr out ↦ ([], inr (record { tells = tells; outside = out; empty = refl }))
  ]

  none : IsFalse m.tells → (v b : ℕ) (x : List ℕ) → seen m.tells c m.leaves v b x → ⊥
  none not v b x (inl left) = lawful.none not (place c v left.plex b).0 (place c v left.plex b).1 x left.value
  none not v b x (inr out) = true_false m.tells out.tells not
    where
      true_false : (b : Bool) → IsTrue b → IsFalse b → ⊥
      true_false b is not = cc

  shown : (v b : ℕ) (x : List ℕ) → seen m.tells c m.reads v b x → seen m.tells c m.leaves v b x
  shown v b x (inl is) = inl (record { inside = is.inside; plex = is.plex; is_on = is.is_on; value = lawful.shown (place c v is.plex b).0 (place c v is.plex b).1 x is.value })
  shown v b x (inr out) = inr out

  abbrev volumes_by : Config → Image → (v b : ℕ) → Inside c v b ⊎ (Inside c v b → ⊥) → List ℕ
  volumes_by x j v b (inl in_it) = j (place x v (chosen x v) b).0 (place x v (chosen x v) b).1
  volumes_by x j v b (inr out) = []

  by_here : (x : Config) (j : Image) (v b : ℕ) → Inside c v b → (t : Inside c v b ⊎ (Inside c v b → ⊥)) → volumes_by x j v b t ≡ j (place x v (chosen x v) b).0 (place x v (chosen x v) b).1
  by_here x j v b in_it (inl held) = refl
  by_here x j v b in_it (inr out) = absurd (out in_it)

  by_beyond : (x : Config) (j : Image) (v b : ℕ) → (Inside c v b → ⊥) → (t : Inside c v b ⊎ (Inside c v b → ⊥)) → volumes_by x j v b t ≡ []
  by_beyond x j v b out (inl held) = absurd (out held)
  by_beyond x j v b out (inr not) = refl

  imported : IsTrue m.tells → (i : Image) × ImportedImage c m m.now i
  imported tells =
      let it = lawful.image tells in
      let j : Image = it.0 in
      let sees = kept.sees j (lawful.within j it.1) in
      let x : Config = sees.config in (
        (λ v b. volumes_by x j v b (inside c v b)),
        record {
          image = j;
          left = it.1;
          config = x;
          found = sees.found;
          shows = record {
            here = λ v b in_it. by_here x j v b in_it (inside c v b);
            beyond = λ v b out. by_beyond x j v b out (inside c v b);
          };
        },
      )

  within : (i : Image) → ImportedImage c m m.now i → Each (seen m.tells c m.leaves) i
  within i left v b =
      let j : Image = left.image in
      let each = lawful.within j left.left in
      let sees = kept.sees j each in
      let one : Found left.config ≡ Found sees.config = sym left.found ∙ sees.found in
      let is : left.config ≡ sees.config = cc in
      let kin : Kin c left.config = subst (Kin c) (sym is) sees.kin in
      let p = chosen left.config v in
      elim (inside c v b) [
        | inl in_it ↦ inl (record {
          inside = in_it;
          plex = p;
          is_on = kin.on v p in_it.volume (kin.some v in_it.volume);
          value =
              let here : i v b ≡ j (place c v p b).0 (place c v p b).1 = left.shows.here v b in_it ∙ ap (λ (q : ℕ × ℕ). j q.0 q.1) (kin.shape.place v p b in_it.volume) in
              subst (λ (y : List ℕ). m.leaves (place c v p b).0 (place c v p b).1 y) (sym here) (each (place c v p b).0 (place c v p b).1);
        })
        | inr out ↦ elim (cases_bool m.tells) [
          | inl tells ↦ inr (record { tells = tells; outside = out; empty = left.shows.beyond v b out })
          | inr not ↦ absurd (lawful.none not 0 0 (j 0 0) (each 0 0))
        ]
      ]

  pub group-Lawful : Lawful (group_meaning c faults m)
  group-Lawful = record {
    some = some;
    none = none;
    never = λ not t i left. lawful.never not t left.image left.left;
    few = few;
    small = small;
    shown = shown;
    image = imported;
    within = within;
    counts_now = λ t i le left. record { image = left.image; left = lawful.counts_now t left.image le left.left; config = left.config; found = left.found; shows = left.shows };
    only_now = λ i left. record { image = left.image; left = lawful.only_now left.image left.left; config = left.config; found = left.found; shows = left.shows };
  }

-- ---- no call

pub same_Acts : (P : Says) (m : Meaning) → Acts Nothing P m m
same_Acts P m = record {
  units = refl;
  size = λ u. refl;
  tells = refl;
  reads = λ u b v le is. inl (inl is);
  leaves = λ u b v le left. inl left;
  later = omega arith;
  since = λ t i le left. inl left;
  keeps = λ t i le left. left;
  faults = λ u. omega arith;
  disk_faults = λ d. omega arith;
  falls = λ is. is;
  unarmed = λ is. is;
  safe = λ no is. is;
}
