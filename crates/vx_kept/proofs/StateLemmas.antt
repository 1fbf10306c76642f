-- What a change of the states of plexes leaves as it was.
use Rattle.std.proofs.Common.{◌≡◌, inl, inr, ℕ, zero, suc, ◌<◌, Bool, true, false, IsTrue, Option, Some, None, List, [], ◌∷◌, refl, ap, sym, ◌∙◌, subst, arith}
use Rattle.std.specs.Prelude.{map, slice_get, if◌then◌else◌}
use Rattle.std.proofs.lemmas.Bool.{both_ways, cases_eq, cases_lt}
use Rattle.vx_disk.specs.Blocks.{bit_at}
use Rattle.vx_model.specs.declared.site.PlexState.{PlexState}
use Rattle.vx_model.specs.declared.site.PlexState.TheVariants.{Active, Clean, Stale}
use Rattle.vx_config.specs.Changes.{changed_at, lost_as, stated, with_plex, with_state}
use Rattle.vx_config.specs.Checks.{blocks_of, blocks_or_none, column_blocks}
use Rattle.vx_config.specs.declared.config.Config.{Config}
use Rattle.vx_config.specs.declared.entry.PlexEntry.{PlexEntry}
use Rattle.vx_config.specs.declared.entry.VolumeEntry.{VolumeEntry}
use Rattle.vx_config.specs.declared.entry.VolumeLog.{VolumeLog}
use Rattle.vx_config.specs.declared.entry.VolumeLog.TheVariants.{Drl, Fmr}
use Rattle.vx_config.proofs.Changed.{changed-length}
use Rattle.vx_config.proofs.Fewer.{stated_back}
use Rattle.vx_layout.specs.Places.{linear, located, place, place_in, place_or, plex_at, plex_in}
use Rattle.vx_volume.specs.Plexes.{active, active_or, is_active}
use Rattle.vx_kept.specs.Choice.{live, live_or}
use Rattle.vx_kept.specs.Keeping.{SameShape, frame, frame_or}
use Rattle.vx_kept.specs.States.{staled, stale_at, whole_of, whole_or}
use Rattle.vx_kept.proofs.RunLemmas.{run_same, trust_from}
use Rattle.vx_maplog.specs.Logs.{log_of, log_or}

-- ---- lists

abbrev pub map_one : {A : Type 0} → (A → A) → Option A → Option A
map_one f None = None
map_one f (Some x) = Some (f x)

module _ {A : Type 0} (f : A → A) where
  pub get_other : (k n : ℕ) → (n ≡ k → ⊥) → (xs : List A) → slice_get (changed_at f k xs) n ≡ slice_get xs n
  get_other k n apart [] = refl
  get_other zero zero apart (x ∷ xs) = absurd (apart refl)
  get_other zero (suc n) apart (x ∷ xs) = refl
  get_other (suc k) zero apart (x ∷ xs) = refl
  get_other (suc k) (suc n) apart (x ∷ xs) = get_other k n (λ same. apart (ap suc same)) xs

  pub get_same : (k : ℕ) (xs : List A) → slice_get (changed_at f k xs) k ≡ map_one f (slice_get xs k)
  get_same k [] = refl
  get_same zero (x ∷ xs) = refl
  get_same (suc k) (x ∷ xs) = get_same k xs

-- ---- one plex in another state

module _ (v p : ℕ) (s : PlexState) (w : Bool) (c : Config) where
  abbrev d : Config
  d = stated v p s w c

  volume_other : (x : ℕ) → (x ≡ v → ⊥) → slice_get d.volumes x ≡ slice_get c.volumes x
  volume_other x apart = get_other (with_plex p s w) v x apart c.volumes

  volume_same : slice_get d.volumes v ≡ map_one (with_plex p s w) (slice_get c.volumes v)
  volume_same = get_same (with_plex p s w) v c.volumes

  in_other : (o : Option VolumeEntry) (q : ℕ) → (q ≡ p → ⊥) → plex_in (map_one (with_plex p s w) o) q ≡ plex_in o q
  in_other None q apart = refl
  in_other (Some x) q apart = get_other (with_state s w) p q apart x.plexes

  in_same : (o : Option VolumeEntry) → plex_in (map_one (with_plex p s w) o) p ≡ map_one (with_state s w) (plex_in o p)
  in_same None = refl
  in_same (Some x) = get_same (with_state s w) p x.plexes

  pub plex_volume : (x q : ℕ) → (x ≡ v → ⊥) → plex_at d x q ≡ plex_at c x q
  plex_volume x q apart = ap (λ (o : Option VolumeEntry). plex_in o q) (volume_other x apart)

  pub plex_other : (q : ℕ) → (q ≡ p → ⊥) → plex_at d v q ≡ plex_at c v q
  plex_other q apart = ap (λ (o : Option VolumeEntry). plex_in o q) volume_same ∙ in_other (slice_get c.volumes v) q apart

  pub plex_same : plex_at d v p ≡ map_one (with_state s w) (plex_at c v p)
  plex_same = ap (λ (o : Option VolumeEntry). plex_in o p) volume_same ∙ in_same (slice_get c.volumes v)

  -- each plex but this one
  pub plex_apart : (x q : ℕ) → (x ≡ v → q ≡ p → ⊥) → plex_at d x q ≡ plex_at c x q
  plex_apart x q apart = elim (cases_eq x v) [
    | inl same ↦ subst (λ (y : ℕ). plex_at d y q ≡ plex_at c y q) (sym same) (plex_other q (apart same))
    | inr other ↦ plex_volume x q other
  ]

  -- ---- logs

  logs_map : (k : VolumeLog) (o : Option VolumeEntry) → log_or k (map_one (with_plex p s w) o) ≡ log_or k o
  logs_map k None = refl
  logs_map Drl (Some x) = refl
  logs_map Fmr (Some x) = refl

  pub stated_logs : (x : ℕ) (k : VolumeLog) → log_of d x k ≡ log_of c x k
  stated_logs x k = elim (cases_eq x v) [
    | inl same ↦ subst (λ (y : ℕ). log_of d y k ≡ log_of c y k) (sym same) (ap (log_or k) volume_same ∙ logs_map k (slice_get c.volumes v))
    | inr other ↦ ap (log_or k) (volume_other x other)
  ]

  -- ---- frames

  bare_set : (q : ℕ) (ps : List PlexEntry) → map (with_state Stale false) (changed_at (with_state s w) q ps) ≡ map (with_state Stale false) ps
  bare_set q [] = refl
  bare_set zero (e ∷ ps) = refl
  bare_set (suc q) (e ∷ ps) = ap (λ (rest : List PlexEntry). with_state Stale false e ∷ rest) (bare_set q ps)

  frames_map : (o : Option VolumeEntry) → frame_or (map_one (with_plex p s w) o) ≡ frame_or o
  unfolding frame
  frames_map None = refl
  frames_map (Some x) = ap (λ (ps : List PlexEntry). Some (record { name = x.name; blocks = x.blocks; ncol = x.ncol; width = x.width; prefer = x.prefer; drl = lost_as false x.drl; fmr = lost_as false x.fmr; plexes = ps })) (bare_set p x.plexes)

  -- ---- places

  blocks_map : (o : Option VolumeEntry) → blocks_or_none (map_one (with_plex p s w) o) ≡ blocks_or_none o
  blocks_map None = refl
  blocks_map (Some x) = refl

  columns_same : (x : VolumeEntry) → column_blocks (with_plex p s w x) ≡ column_blocks x
  unfolding column_blocks
  columns_same x = refl

  place_plex : (x : VolumeEntry) (o : Option PlexEntry) (b : ℕ) → place_in (with_plex p s w x) (map_one (with_state s w) o) b ≡ place_in x o b
  place_plex x None b = refl
  place_plex x (Some e) b = ap (λ (n : ℕ). located e.subdisks (linear n x.ncol x.width b)) (columns_same x)

  place_rest : (x : VolumeEntry) (o : Option PlexEntry) (b : ℕ) → place_in (with_plex p s w x) o b ≡ place_in x o b
  place_rest x None b = refl
  place_rest x (Some e) b = ap (λ (n : ℕ). located e.subdisks (linear n x.ncol x.width b)) (columns_same x)

  place_map : (o : Option VolumeEntry) (q b : ℕ) → place_or (map_one (with_plex p s w) o) q b ≡ place_or o q b
  place_map None q b = refl
  place_map (Some x) q b = elim (cases_eq q p) [
    | inl same ↦ subst (λ (r : ℕ). place_in (with_plex p s w x) (slice_get (changed_at (with_state s w) p x.plexes) r) b ≡ place_in x (slice_get x.plexes r) b) (sym same)
        (ap (λ (o : Option PlexEntry). place_in (with_plex p s w x) o b) (get_same (with_state s w) p x.plexes) ∙ place_plex x (slice_get x.plexes p) b)
    | inr other ↦ ap (λ (o : Option PlexEntry). place_in (with_plex p s w x) o b) (get_other (with_state s w) p q other x.plexes) ∙ place_rest x (slice_get x.plexes q) b
  ]

  pub stated_shape : SameShape d c
  unfolding place
  stated_shape = record {
    volumes = changed-length (with_plex p s w) v c.volumes;
    frames = λ x. elim (cases_eq x v) [
      | inl same ↦ subst (λ (y : ℕ). frame_or (slice_get d.volumes y) ≡ frame_or (slice_get c.volumes y)) (sym same) (ap frame_or volume_same ∙ frames_map (slice_get c.volumes v))
      | inr other ↦ ap frame_or (volume_other x other)
    ];
    blocks = λ x. elim (cases_eq x v) [
      | inl same ↦ subst (λ (y : ℕ). blocks_of d.volumes y ≡ blocks_of c.volumes y) (sym same) (ap blocks_or_none volume_same ∙ blocks_map (slice_get c.volumes v))
      | inr other ↦ ap blocks_or_none (volume_other x other)
    ];
    place = λ x q b. elim (cases_eq x v) [
      | inl same ↦ subst (λ (y : ℕ). place_or (slice_get d.volumes y) q b ≡ place_or (slice_get c.volumes y) q b) (sym same)
          (ap (λ (o : Option VolumeEntry). place_or o q b) volume_same ∙ place_map (slice_get c.volumes v) q b)
      | inr other ↦ ap (λ (o : Option VolumeEntry). place_or o q b) (volume_other x other)
    ];
    logs = λ x k. run_same d c x x k (stated_logs x k);
    trusted = λ x k. trust_from d c x x k (stated_logs x k);
  }

  -- ---- what takes part

  pub active_apart : (x q : ℕ) → (x ≡ v → q ≡ p → ⊥) → active d x q ≡ active c x q
  unfolding active
  active_apart x q apart = ap active_or (plex_apart x q apart)

  pub live_apart : (x q : ℕ) → (x ≡ v → q ≡ p → ⊥) → live d x q ≡ live c x q
  unfolding live
  live_apart x q apart = ap live_or (plex_apart x q apart)

-- ---- one plex STALE

module _ (v p : ℕ) (c : Config) where
  stale_map : (w : Bool) (o : Option PlexEntry) → live_or (map_one (with_state Stale w) o) ≡ false
  stale_map w None = refl
  stale_map w (Some e) = refl

  off_map : (w : Bool) (o : Option PlexEntry) → active_or (map_one (with_state Stale w) o) ≡ false
  off_map w None = refl
  off_map w (Some e) = refl

  pub live_off : live (stale_at v p c) v p ≡ false
  unfolding live
  live_off = ap live_or (plex_same v p Stale (whole_of c v p) c) ∙ stale_map (whole_of c v p) (plex_at c v p)

  pub active_off : active (stale_at v p c) v p ≡ false
  unfolding active
  active_off = ap active_or (plex_same v p Stale (whole_of c v p) c) ∙ off_map (whole_of c v p) (plex_at c v p)

-- ---- several plexes STALE

pub same_shape : (c : Config) → SameShape c c
same_shape c = record { volumes = refl; frames = λ v. refl; blocks = λ v. refl; place = λ v p b. refl; logs = λ v log. refl; trusted = λ v log is. is }

pub then_shape : (x y z : Config) → SameShape x y → SameShape y z → SameShape x z
then_shape x y z one two = record {
  volumes = one.volumes ∙ two.volumes;
  frames = λ v. one.frames v ∙ two.frames v;
  blocks = λ v. one.blocks v ∙ two.blocks v;
  place = λ v p b. one.place v p b ∙ two.place v p b;
  logs = λ v log. one.logs v log ∙ two.logs v log;
  trusted = λ v log is. two.trusted v log (one.trusted v log is);
}

-- what stale plexes leave as it was
pub record IsStaled (v set n : ℕ) (c d : Config) : Type 0 where
  pub shape : SameShape d c
  pub serial : d.serial ≡ c.serial
  pub site : d.site ≡ c.site
  pub disks : d.disks ≡ c.disks
  pub rvg : d.rvg ≡ c.rvg
  pub same : (x q : ℕ) → (x ≡ v → q < n → bit_at set q ≡ true → ⊥) → plex_at d x q ≡ plex_at c x q
  pub lives : (x q : ℕ) → IsTrue (live d x q) → IsTrue (live c x q)
  pub off : (q : ℕ) → q < n → bit_at set q ≡ true → live d v q ≡ false

one_more : (v set n : ℕ) (c d : Config) → bit_at set n ≡ true → IsStaled v set n c d → IsStaled v set (suc n) c (stale_at v n d)
unfolding live
one_more v set n c d bit was = record {
  shape = then_shape (stale_at v n d) d c (stated_shape v n Stale (whole_of d v n) d) was.shape;
  serial = was.serial;
  site = was.site;
  disks = was.disks;
  rvg = was.rvg;
  same = λ x q apart. plex_apart v n Stale (whole_of d v n) d x q (λ in_v at. apart in_v (omega (arith, at)) (ap (bit_at set) at ∙ bit)) ∙ was.same x q (λ in_v lt is. apart in_v (omega (arith, lt)) is);
  lives = λ x q is. elim (cases_eq x v) [
    | inl in_v ↦ elim (cases_eq q n) [
      | inl at ↦ absurd (both_ways (live (stale_at v n d) v n) (live_off v n d) (subst (λ (r : ℕ). IsTrue (live (stale_at v n d) v r)) at (subst (λ (y : ℕ). IsTrue (live (stale_at v n d) y q)) in_v is)))
      | inr other ↦ was.lives x q (sym (live_apart v n Stale (whole_of d v n) d x q (λ same at. other at)) ∙ is)
    ]
    | inr apart ↦ was.lives x q (sym (live_apart v n Stale (whole_of d v n) d x q (λ same at. apart same)) ∙ is)
  ];
  off = λ q lt is. elim (cases_lt q n) [
    | inl less ↦ live_apart v n Stale (whole_of d v n) d v q (λ same at. omega (arith, at, less)) ∙ was.off q less is
    | inr le ↦ let at : q ≡ n = omega (arith, lt, le) in subst (λ (r : ℕ). live (stale_at v n d) v r ≡ false) (sym at) (live_off v n d)
  ];
}

none_more : (v set n : ℕ) (c d : Config) → bit_at set n ≡ false → IsStaled v set n c d → IsStaled v set (suc n) c d
none_more v set n c d bit was = record {
  shape = was.shape;
  serial = was.serial;
  site = was.site;
  disks = was.disks;
  rvg = was.rvg;
  same = λ x q apart. was.same x q (λ in_v lt is. apart in_v (omega (arith, lt)) is);
  lives = was.lives;
  off = λ q lt is. elim (cases_lt q n) [
    | inl less ↦ was.off q less is
    | inr le ↦ let at : q ≡ n = omega (arith, lt, le) in absurd (both_ways (bit_at set n) bit (subst (λ (r : ℕ). bit_at set r ≡ true) at is))
  ];
}

pub is_staled : (v set n : ℕ) (c : Config) → IsStaled v set n c (staled v set c n)
is_staled v set zero c = record {
  shape = same_shape c;
  serial = refl;
  site = refl;
  disks = refl;
  rvg = refl;
  same = λ x q apart. refl;
  lives = λ x q is. is;
  off = λ q lt is. absurd (omega (arith, lt));
}
is_staled v set (suc n) c = by (is_staled v set n c) (bit_at set n) refl
  where
    by : IsStaled v set n c (staled v set c n) → (b : Bool) → bit_at set n ≡ b → IsStaled v set (suc n) c (if b then stale_at v n (staled v set c n) else staled v set c n)
    by was true is = one_more v set n c (staled v set c n) is was
    by was false is = none_more v set n c (staled v set c n) is was

-- a plex that is left is ACTIVE as before
module _ (v set n : ℕ) (c : Config) where
  pub active_left : (x q : ℕ) → (x ≡ v → q < n → bit_at set q ≡ true → ⊥) → active (staled v set c n) x q ≡ active c x q
  unfolding active
  active_left x q out = ap active_or ((is_staled v set n c).same x q out)

  pub live_left : (x q : ℕ) → (x ≡ v → q < n → bit_at set q ≡ true → ⊥) → live (staled v set c n) x q ≡ live c x q
  unfolding live
  live_left x q out = ap live_or ((is_staled v set n c).same x q out)

-- one more, as the code makes it
pub staled_more : (v set n : ℕ) (w : Bool) (c d e : Config) → bit_at set n ≡ true → d ≡ staled v set c n → w ≡ whole_of d v n → e ≡ stated v n Stale w d → e ≡ staled v set c (suc n)
staled_more v set n w c d e bit is whole made =
    made ∙ ap (λ (b : Bool). stated v n Stale b d) whole ∙ ap (stale_at v n) is ∙ sym (ap (λ (b : Bool). if b then stale_at v n (staled v set c n) else staled v set c n) bit)

pub staled_same : (v set n : ℕ) (c d : Config) → bit_at set n ≡ false → d ≡ staled v set c n → d ≡ staled v set c (suc n)
staled_same v set n c d bit is = is ∙ sym (ap (λ (b : Bool). if b then stale_at v n (staled v set c n) else staled v set c n) bit)

-- ---- and back

pub record There (c : Config) (v p : ℕ) : Type 0 where
  pub volume : VolumeEntry
  pub plex : PlexEntry
  pub at_v : slice_get c.volumes v ≡ Some volume
  pub at_p : slice_get volume.plexes p ≡ Some plex
  pub state : plex.state ≡ Active

is_on_state : (s : PlexState) → is_active s ≡ true → s ≡ Active
is_on_state Active is = refl
is_on_state Clean is = absurd (let clash : false ≡ true = is in cc)
is_on_state Stale is = absurd (let clash : false ≡ true = is in cc)

pub there_of : (c : Config) (v p : ℕ) → IsTrue (active c v p) → There c v p
unfolding active
there_of c v p is_on = by_volume (slice_get c.volumes v) refl
  where
    by_plex : (x : VolumeEntry) → slice_get c.volumes v ≡ Some x → (o : Option PlexEntry) → slice_get x.plexes p ≡ o → active_or o ≡ true → There c v p
    by_plex x at None at_p is = absurd (let clash : false ≡ true = is in cc)
    by_plex x at (Some a) at_p is = record { volume = x; plex = a; at_v = at; at_p = at_p; state = is_on_state a.state is }

    by_volume : (o : Option VolumeEntry) → slice_get c.volumes v ≡ o → There c v p
    by_volume None at = absurd (let clash : false ≡ true = ap (λ (o : Option VolumeEntry). active_or (plex_in o p)) (sym at) ∙ is_on in cc)
    by_volume (Some x) at = by_plex x at (slice_get x.plexes p) refl (ap (λ (o : Option VolumeEntry). active_or (plex_in o p)) (sym at) ∙ is_on)

unstaled : (v n : ℕ) (d : Config) → IsTrue (active d v n) → stated v n Active (whole_of (stale_at v n d) v n) (stale_at v n d) ≡ d
unfolding whole_of
unstaled v n d is_on =
    let t = there_of d v n is_on in
    let at : plex_at d v n ≡ Some t.plex = ap (λ (o : Option VolumeEntry). plex_in o n) t.at_v ∙ t.at_p in
    let w : Bool = whole_of d v n in
    let w_is : w ≡ t.plex.whole = ap whole_or at in
    let now : whole_of (stale_at v n d) v n ≡ t.plex.whole = ap whole_or (plex_same v n Stale w d ∙ ap (map_one (with_state Stale w)) at) ∙ w_is in
    ap (λ (b : Bool). stated v n Active b (stale_at v n d)) now ∙ ap (λ (s : PlexState). stated v n s t.plex.whole (stale_at v n d)) (sym t.state) ∙ stated_back d v n t.volume t.plex Stale w t.at_v t.at_p

pub back_more : (v set n : ℕ) (w : Bool) (c d e : Config) → IsTrue (active c v n) → bit_at set n ≡ true → d ≡ staled v set c (suc n) → w ≡ whole_of d v n → e ≡ stated v n Active w d → e ≡ staled v set c n
back_more v set n w c d e is_on bit is whole made =
    let was : d ≡ stale_at v n (staled v set c n) = is ∙ ap (λ (b : Bool). if b then stale_at v n (staled v set c n) else staled v set c n) bit in
    let still : IsTrue (active (staled v set c n) v n) = active_left v set n c v n (λ same lt in_it. omega (arith, lt)) ∙ is_on in
    made ∙ ap (λ (b : Bool). stated v n Active b d) whole ∙ ap (λ (x : Config). stated v n Active (whole_of x v n) x) was ∙ unstaled v n (staled v set c n) still

pub back_same : (v set n : ℕ) (c d : Config) → bit_at set n ≡ false → d ≡ staled v set c (suc n) → d ≡ staled v set c n
back_same v set n c d bit is = is ∙ ap (λ (b : Bool). if b then stale_at v n (staled v set c n) else staled v set c n) bit
