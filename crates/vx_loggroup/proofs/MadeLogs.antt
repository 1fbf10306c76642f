-- What is kept of the volumes of a group with logs, behind a volume that is made, or not.
use Rattle.std.proofs.Common.{◌≡◌, ◌⊎◌, ◌∙◌, inl, inr, ℕ, ◌+◌, ◌<◌, ◌≤◌, Bool, true, false, IsTrue, Option, Some, None, List, [], ◌∷◌, ◌++◌, length, refl, sym, ap, subst, arith}
use Rattle.std.specs.Prelude.{Err, Ok, is_some, slice_get, take}
use Rattle.vx_config.specs.Checks.{blocks_of as blocks_in, blocks_or_none}
use Rattle.std.proofs.lemmas.Bool.{cases_eq, cases_lt}
use Rattle.std.proofs.lemmas.Option.{slice_get_within}
use Rattle.vx_config.specs.declared.config.Config.{Config}
use Rattle.vx_config.specs.declared.entry.VolumeEntry.{VolumeEntry}
use Rattle.vx_config.specs.declared.entry.VolumeLog.TheVariants.{Drl}
use Rattle.vx_disk.specs.Shelf.{Goes, Lawful, Meaning, Nothing}
use Rattle.vx_disk.proofs.Runs.{then_nothing}
use Rattle.vx_kept.specs.Groups.{OnSome, group_meaning}
use Rattle.vx_kept.specs.Keeping.{SameShape, frame_at}
use Rattle.vx_kept.specs.LogRuns.{log_trusted}
use Rattle.vx_kept.proofs.Chosen.{active_volumes, alike_shape}
use Rattle.vx_kept.proofs.StateLemmas.{same_shape}
use Rattle.vx_layout.specs.Places.{HasBlock, has_plex, place, place_or, plex_in}
use Rattle.vx_layout.specs.declared.shape.Shape.{Shape}
use Rattle.vx_layout.proofs.Placing.{sound_apart}
use Rattle.vx_logs.specs.declared.logs.Logs.{Logs}
use Rattle.vx_maplog.specs.Logs.{log_or, used_or}
use Rattle.vx_model.specs.declared.errors.Stop.{Stop}
use Rattle.vx_model.specs.declared.errors.Stop.TheVariants.{No as Refused, OutOfMemory}
use Rattle.vx_model.specs.declared.no.No.{No}
use Rattle.vx_model.specs.declared.no.No.TheVariants as refusal
use Rattle.vx_model.proofs.Lists.{get_end, get_front}
use Rattle.vx_volume.specs.Plexes.{Inside}
use Rattle.vx_volume.proofs.PlaceLemmas.{has_of}
use Rattle.vx_group.specs.Calls.{GroupStays}
use Rattle.vx_group.specs.Holding.{GroupStands, config_by, wide}
use Rattle.vx_group.specs.Makes.{AreZero, MakeEnds, MakesBeside, Unmoved, ZerosOn, make_refusal}
use Rattle.vx_group.specs.Stands.{inner_meaning, volume_faults}
use Rattle.vx_group.specs.declared.group_core.GroupCore.{GroupCore}
use Rattle.vx_group.specs.declared.group_core.Held.{Held}
use Rattle.vx_group.specs.declared.inner.Inner.{Inner}
use Rattle.vx_group.proofs.HoldLemmas.{active_at_volumes, narrow_sound, wide_none, wide_shape}
use Rattle.vx_group.proofs.Standing.{fit_of, sound_of}
use Rattle.vx_group.proofs.TrustingLemmas.{places_Goes}
use Rattle.vx_groupmaps.specs.Knowing.{MapsKnow, MapsKnowBy}
use Rattle.vx_groupmaps.specs.Missing.{none_spared}
use Rattle.vx_grouplogs.specs.Covering.{AllAlike, OnLogs}
use Rattle.vx_grouplogs.specs.On.{VolumeOn}
use Rattle.vx_group.specs.Settles.{ReadsOne}
use Rattle.vx_grouplogs.proofs.LogPlaces.{log_public, logs_beside}
use Rattle.vx_grouplogs.proofs.OnCalls.{on_gone}
use Rattle.vx_grouplogs.proofs.KnowActs.{know_none}
use Rattle.vx_grouplogs.proofs.LogShape.{has_back}
use Rattle.vx_grouplogs.proofs.SeenLemmas.{KeepsVolume, logs_same, on_seen}
use Rattle.vx_logged.proofs.StandLemmas.{inner_wide, wide_both}
use Rattle.vx_logimport.proofs.ReadLemmas.{each_more}
use Rattle.vx_loggroup.specs.Fresh.{FreshStands}
use Rattle.vx_loggroup.specs.LoggedVolumes.{LoggedStands, VolumeStands, is_alike}
use Rattle.vx_loggroup.proofs.AlikeLemmas.{all_whole}
use Rattle.vx_loggroup.proofs.KnownLemmas.{know_seen, some_read}
use Rattle.vx_loggroup.proofs.StayLemmas.{each_seen}

-- ---- lists with one item more

pub long_one : {A : Type 0} (xs : List A) (y : A) → length (xs ++ (y ∷ [])) ≡ length xs + 1
long_one [] y = refl
long_one (x ∷ xs) y = let more = long_one xs y in omega (arith, more)

-- a volume with a log is there
logs_low : (c : Config) (v u b : ℕ) (x : List ℕ) → OnLogs c v u b x → v < length c.volumes
logs_low c v u b x at = by (slice_get c.volumes v) refl
  where
    by : (o : Option VolumeEntry) → slice_get c.volumes v ≡ o → v < length c.volumes
    by None none = absurd (let clash : None ≡ Some at.entry = sym (ap (log_or at.log) none) ∙ at.is in cc)
    by (Some x) is = slice_get_within c.volumes v x is

-- so is one with a plex
has_low : (c : Config) (v p b : ℕ) → HasBlock c v p b → v < length c.volumes
unfolding has_plex
has_low c v p b has = by (slice_get c.volumes v) refl
  where
    by : (o : Option VolumeEntry) → slice_get c.volumes v ≡ o → v < length c.volumes
    by None none = absurd (let clash : false ≡ true = sym (ap (λ (o : Option VolumeEntry). is_some (plex_in o p)) none) ∙ has.plex in cc)
    by (Some x) is = slice_get_within c.volumes v x is

-- ---- the logs of the volumes that stood

-- their blocks are left alone
pub made_logs : (c : GroupCore) (m m' : Meaning) → GroupStands c m → MakesBeside c.inner.config m m' → (v u b : ℕ) (x : List ℕ) → OnLogs c.inner.config v u b x → m'.leaves u b x → m.leaves u b x
made_logs c m m' stands (inl acts) v u b x at left = elim (acts.leaves u b x (omega (arith, log_public c.inner.config (narrow_sound c m stands) v at.log at.entry at.is, at.run.first)) left) [
  | inl was ↦ was
  | inr none ↦ absurd none
]
made_logs c m m' stands (inr begins) v u b x at left = elim (begins.acts.leaves u b x (omega (arith, log_public c.inner.config (narrow_sound c m stands) v at.log at.entry at.is, at.run.first)) left) [
  | inl was ↦ was
  | inr put ↦ absurd (logs_beside begins.next begins.sound v (length c.inner.config.volumes) put.plex put.number u b x put.inside put.is_on put.at next)
]
  where
    next : OnLogs begins.next v u b x
    next = record {
      log = at.log;
      entry = at.entry;
      is = ap (λ (vs : List VolumeEntry). log_or at.log (slice_get vs v)) begins.is ∙ ap (log_or at.log) (get_front c.inner.config.volumes (begins.volume ∷ []) v (logs_low c.inner.config v u b x at)) ∙ at.is;
      run = at.run;
    }

-- what the maps of a volume that stood know
module _ (c : GroupCore) (d : Config) (m m' : Meaning) (stands : GroupStands c m) (v : ℕ) (frames : frame_at d v ≡ frame_at (wide c).config v) (blocks : blocks_in d.volumes v ≡ blocks_in (wide c).config.volumes v) (places : (p b : ℕ) → place d v p b ≡ place (wide c).config v p b)
    (some : (b : ℕ) (y : List ℕ) → (IsTrue m'.down → ⊥) → OnSome d m'.reads v b y → OnSome (wide c).config m.reads v b y) where
  pub made_know : (spare : ℕ → ℕ → Bool) (l : Logs) → MakesBeside c.inner.config m m' → MapsKnowBy (wide c).config v spare l m → MapsKnowBy d v spare l m'
  unfolding has_plex place
  made_know spare l (inl acts) know = know_seen Nothing (wide c).config d (sound_of (wide c) m stands.stands) v frames blocks places m m' (record { so = acts.reads; falls = acts.falls }) some spare l (λ f is p b x has clear none. none) know
  made_know spare l (inr begins) know = know_seen (ZerosOn begins.next (length c.inner.config.volumes)) (wide c).config d (sound_of (wide c) m stands.stands) v frames blocks places m m' (record { so = begins.acts.reads; falls = begins.acts.falls }) some spare l
      (λ f is p b x has clear put. off p b x has put) know
    where
      off : (p b : ℕ) (x : List ℕ) → HasBlock (wide c).config v p b → ZerosOn begins.next (length c.inner.config.volumes) (place (wide c).config v p b).0 (place (wide c).config v p b).1 x → ⊥
      off p b x has put =
          let shape = inner_wide c m stands in
          let has_c = has_back c.inner.config (wide c).config v ((wide_shape c).frames v) ((wide_shape c).blocks v) p b has in
          let low = has_low c.inner.config v p b has_c in
          let same : slice_get begins.next.volumes v ≡ slice_get c.inner.config.volumes v = ap (λ (vs : List VolumeEntry). slice_get vs v) begins.is ∙ get_front c.inner.config.volumes (begins.volume ∷ []) v low in
          let has_n : HasBlock begins.next v p b = record { plex = ap (λ (o : Option VolumeEntry). is_some (plex_in o p)) same ∙ has_c.plex; block = let n = ap blocks_or_none same in let block = has_c.block in omega (arith, block, n) } in
          let at : place begins.next v p b ≡ place begins.next (length c.inner.config.volumes) put.plex put.number = ap (λ (o : Option VolumeEntry). place_or o p b) same ∙ shape.place v p b ∙ sym put.at in
          let one = (sound_apart begins.next begins.sound).one v p b (length c.inner.config.volumes) put.plex put.number has_n (has_of begins.next (length c.inner.config.volumes) put.plex put.number put.is_on put.inside) at in
          let equal = one.0 in
          omega (arith, low, equal)

-- ---- none was made

-- what the disks may keep goes by the volumes
by_volumes : (o : Option Held) (c d : Config) → d.volumes ≡ c.volumes → (config_by o d).volumes ≡ (config_by o c).volumes
by_volumes None c d same = same
by_volumes (Some h) c d same = active_at_volumes h.vol h.plex c d same

pub none_goes : (c d : GroupCore) (m m' : Meaning) → GroupStays c d m m' → d.inner.config.volumes ≡ c.inner.config.volumes → Goes Nothing (inner_meaning (wide c) m) (inner_meaning (wide d) m')
none_goes c d m m' stays volumes = then_nothing Nothing (inner_meaning (wide c) m) (group_meaning (config_by d.held c.inner.config) (volume_faults d.inner.faults) m') (inner_meaning (wide d) m') stays.goes last
  where
    by : (wide d).config.volumes ≡ (config_by d.held c.inner.config).volumes
    by = by_volumes d.held c.inner.config d.inner.config volumes

    last : Goes Nothing (group_meaning (config_by d.held c.inner.config) (volume_faults d.inner.faults) m') (inner_meaning (wide d) m')
    last = places_Goes (config_by d.held c.inner.config) (wide d).config (volume_faults d.inner.faults) m' (alike_shape (config_by d.held c.inner.config) (wide d).config (wide d).config (sym by) (same_shape (wide d).config)) (active_volumes (wide d).config (config_by d.held c.inner.config) by)

pub none_made : (c d : GroupCore) (ls : List Logs) (a : List Bool) (s : Bool) (m m' : Meaning) → LoggedStands c ls a s m → GroupStands d m' → GroupStays c d m m' → MakesBeside c.inner.config m m' → d.inner.config.volumes ≡ c.inner.config.volumes → LoggedStands d ls a s m'
none_made c d ls a s m m' stands group stays beside volumes = all_whole c d ls a s m m' stands group goes (each_seen c d m m' stands.group shape goes (made_logs c m m' stands.group beside)
    (λ v spare l know. let both = wide_both c d m stands.group shape in made_know c (wide d).config m m' stands.group v (both.frames v) (both.blocks v) (both.place v) (some_read c d m m' both goes v) spare l beside know))
  where
    shape : SameShape d.inner.config c.inner.config
    shape = alike_shape d.inner.config c.inner.config c.inner.config volumes (same_shape c.inner.config)

    goes : Goes Nothing (inner_meaning (wide c) m) (inner_meaning (wide d) m')
    goes = none_goes c d m m' stays volumes

-- ---- one was made

module _ (c d : GroupCore) (m m' : Meaning) (stands : GroupStands c m) (stays : GroupStays c d m m') (none : d.held ≡ None) where
  config_now : (wide d).config ≡ d.inner.config
  config_now = ap (λ (i : Inner). i.config) (wide_none d none)

  goes_front : Goes Nothing (inner_meaning (wide c) m) (group_meaning c.inner.config (volume_faults d.inner.faults) m')
  goes_front = subst (λ (o : Option Held). Goes Nothing (inner_meaning (wide c) m) (group_meaning (config_by o c.inner.config) (volume_faults d.inner.faults) m')) none stays.goes

  module _ (v : ℕ) (lt : v < length c.inner.config.volumes) where
    inside_front : (b : ℕ) → Inside d.inner.config v b → Inside c.inner.config v b
    inside_front b is = record { volume = lt; within = let same = stays.shape.blocks v lt in omega (arith, is.within, same) }

    inside_wide : (b : ℕ) → Inside c.inner.config v b → Inside (wide c).config v b
    inside_wide b is = record { volume = let same = (inner_wide c m stands).volumes in omega (arith, is.volume, same); within = let same = (inner_wide c m stands).blocks v in omega (arith, is.within, same) }

    made_keeps : KeepsVolume v (wide c).config d.inner.config
    made_keeps = record {
      inside = λ b is. inside_wide b (inside_front b is);
      blocks = stays.shape.blocks v lt ∙ (inner_wide c m stands).blocks v;
      logs = λ log. stays.shape.logs v log lt ∙ (inner_wide c m stands).logs v log;
      frames = stays.shape.frames v lt ∙ (inner_wide c m stands).frames v;
    }

    made_trusted : log_trusted d.inner.config v Drl ≡ true → log_trusted (wide c).config v Drl ≡ true
    made_trusted is = (inner_wide c m stands).trusted v Drl (stays.shape.trusted v Drl lt is)

    front : (values : ℕ → ℕ → List ℕ → Type 0) (b : ℕ) (x : List ℕ) → OnSome d.inner.config values v b x → OnSome c.inner.config values v b x
    front values b x is = record {
      inside = inside_front b is.inside;
      plex = is.plex;
      is_on = sym (stays.on v is.plex lt) ∙ is.is_on;
      value = subst (λ (at : ℕ × ℕ). values at.0 at.1 x) (stays.shape.place v is.plex b lt) is.value;
    }

    some_front : (b : ℕ) (x : List ℕ) → OnSome d.inner.config m'.leaves v b x → OnSome (wide c).config m.leaves v b x
    some_front b x is = elim (goes_front.leaves v b x (inl (front m'.leaves b x is))) [
      | inl (inl some) ↦ some
      | inl (inr out) ↦ absurd (out.outside (inside_wide b (inside_front b is.inside)))
      | inr nothing ↦ absurd nothing
    ]

    reads_front : (b : ℕ) (x : List ℕ) → (IsTrue m'.down → ⊥) → OnSome d.inner.config m'.reads v b x → OnSome (wide c).config m.reads v b x
    reads_front b x up is = elim (goes_front.reads v b x (inl (front m'.reads b x is))) [
      | inl (inl (inl some)) ↦ some
      | inl (inl (inr out)) ↦ absurd (out.outside (inside_wide b (inside_front b is.inside)))
      | inl (inr nothing) ↦ absurd nothing
      | inr down ↦ absurd (up down)
    ]

    pub made_volume_stands : (l : Logs) (a s : Bool) → MakesBeside c.inner.config m m' → VolumeStands c v l a s m → VolumeStands d v l a s m'
    made_volume_stands l a s beside was = record {
      on = λ going. subst (λ (x : Config). VolumeOn x v l m') (sym config_now) (on_seen v (wide c).config d.inner.config (sound_of (wide c) m stands.stands) l m m' (fit_of (wide c) m stands.stands) made_keeps
          (record {
            logs = λ u b x at left. made_logs c m m' stands beside v u b x (logs_same (wide c).config c.inner.config v u b x ((inner_wide c m stands).logs v) at) left;
            some = some_front;
          }) (was.on going) made_trusted);
      maps = λ going. subst (λ (x : Config). MapsKnow x v l m') (sym config_now)
          (made_know c d.inner.config m m' stands v made_keeps.frames made_keeps.blocks (λ p b. stays.shape.place v p b lt ∙ (inner_wide c m stands).place v p b) (λ b x up is. reads_front b x up is) none_spared l beside (was.maps going));
      alike = λ is up. subst (λ (x : Config). ReadsOne x v m') (sym config_now) (record { one = λ b x y one two. (was.alike is (λ down. up (goes_front.falls down))).one b x y (reads_front b x up one) (reads_front b y up two) });
    }

    -- a crash leaves one value of its blocks, where it left one
    pub made_left : AllAlike (wide c).config v m → AllAlike (wide d).config v m'
    made_left alike = subst (λ (x : Config). AllAlike x v m') (sym config_now) (record { one = λ b x y off one two. alike.one b x y refl (some_front b x one) (some_front b y two) })

  -- the new one
  module _ (v : ℕ) (zeros : AreZero d.inner.config v m') where
    pub made_alike : AllAlike (wide d).config v m'
    made_alike = subst (λ (x : Config). AllAlike x v m') (sym config_now)
        (record { one = λ b x y off one two. zeros.each one.plex b x one.is_on one.inside one.value ∙ sym (zeros.each two.plex b y two.is_on two.inside two.value) })

    pub fresh_stands : Lawful m' → (s : Bool) → log_trusted d.inner.config v Drl ≡ false → VolumeStands d v (record { drl = None; fmr = None }) true s m'
    fresh_stands law s lost = record {
      on = λ going. subst (λ (x : Config). VolumeOn x v (record { drl = None; fmr = None }) m') (sym config_now) (on_gone d.inner.config v m' (λ trusted. absurd (let clash : true ≡ false = sym trusted ∙ lost in cc)));
      maps = λ going. know_none (wide d).config v none_spared (record { drl = None; fmr = None }) m' refl;
      alike = λ is up. record { one = λ b x y one two. made_alike.one b x y refl (left b x one) (left b y two) };
    }
      where
        left : (b : ℕ) (x : List ℕ) → OnSome (wide d).config m'.reads v b x → OnSome (wide d).config m'.leaves v b x
        left b x is = record { inside = is.inside; plex = is.plex; is_on = is.is_on; value = law.shown _ _ x is.value }

-- the log of the last volume is lost
pub last_lost : (c d : Config) (volume : VolumeEntry) → d.volumes ≡ c.volumes ++ (volume ∷ []) → used_or (log_or Drl (Some volume)) ≡ false → log_trusted d (length c.volumes) Drl ≡ false
unfolding log_trusted
last_lost c d volume is lost = ap (λ (vs : List VolumeEntry). used_or (log_or Drl (slice_get vs (length c.volumes)))) is ∙ ap (λ (o : Option VolumeEntry). used_or (log_or Drl o)) (get_end c.volumes volume) ∙ lost

-- the group with it
pub one_made : (c d : GroupCore) (ls : List Logs) (a a' : List Bool) (s : Bool) (m m' : Meaning) (volume : VolumeEntry) → LoggedStands c ls a s m → GroupStands d m' → GroupStays c d m m' → MakesBeside c.inner.config m m' → d.held ≡ None
    → d.inner.config.volumes ≡ c.inner.config.volumes ++ (volume ∷ []) → used_or (log_or Drl (Some volume)) ≡ false → AreZero d.inner.config (length c.inner.config.volumes) m' → Lawful m'
    → is_alike a' (length c.inner.config.volumes) ≡ true → ((w : ℕ) → (w ≡ length c.inner.config.volumes → ⊥) → is_alike a' w ≡ is_alike a w) → LoggedStands d (ls ++ (record { drl = None; fmr = None } ∷ [])) a' s m'
one_made c d ls a a' s m m' volume stands group stays beside none volumes lost zeros law here others = record {
  group = group;
  many = long_one ls (record { drl = None; fmr = None }) ∙ ap (λ (n : ℕ). n + 1) stands.many ∙ sym (long_one c.inner.config.volumes volume) ∙ sym (ap length volumes);
  each = each_more ls (record { drl = None; fmr = None }) (λ w l. VolumeStands d w l (is_alike a' w) s m') old
      (subst (λ (w : ℕ). VolumeStands d w (record { drl = None; fmr = None }) (is_alike a' w) s m') (sym stands.many)
      (subst (λ (b : Bool). VolumeStands d (length c.inner.config.volumes) (record { drl = None; fmr = None }) b s m') (sym here)
      (fresh_stands c d m m' stands.group stays none (length c.inner.config.volumes) zeros law s (last_lost c.inner.config d.inner.config volume volumes lost))));
}
  where
    old : (w : ℕ) (l : Logs) → slice_get ls w ≡ Some l → VolumeStands d w l (is_alike a' w) s m'
    old w l is =
        let low = slice_get_within ls w l is in
        let many = stands.many in
        let lt : w < length c.inner.config.volumes = omega (arith, low, many) in
        subst (λ (b : Bool). VolumeStands d w l b s m') (sym (others w (λ same. omega (arith, lt, same)))) (made_volume_stands c d m m' stands.group stays none w lt l (is_alike a w) s beside (stands.each w l is))

-- what is known of the plexes of fresh volumes, of which this is one more
pub fresh_made : (c d : GroupCore) (f f' : List Bool) (m m' : Meaning) (volume : VolumeEntry) → GroupStands c m → GroupStays c d m m' → d.held ≡ None → d.inner.config.volumes ≡ c.inner.config.volumes ++ (volume ∷ []) → AreZero d.inner.config (length c.inner.config.volumes) m'
    → ((w : ℕ) → (w ≡ length c.inner.config.volumes → ⊥) → is_alike f' w ≡ is_alike f w) → FreshStands c f m → FreshStands d f' m'
fresh_made c d f f' m m' volume stands stays none volumes zeros others fresh = record { each = λ v is. by v is (cases_eq v (length c.inner.config.volumes)) }
  where
    many : length (wide d).config.volumes ≡ length c.inner.config.volumes + 1
    many = ap (λ (i : Inner). length i.config.volumes) (wide_none d none) ∙ ap length volumes ∙ long_one c.inner.config.volumes volume

    left : (v : ℕ) → is_alike f v ≡ true → (v ≡ length c.inner.config.volumes → ⊥) → (v < length c.inner.config.volumes) ⊎ (length c.inner.config.volumes ≤ v) → AllAlike (wide d).config v m'
    left v is apart (inl low) = made_left c d m m' stands stays none v low (fresh.each v is)
    left v is apart (inr high) = record { one = λ b x y off one two. absurd (let low : v < length (wide d).config.volumes = one.inside.volume in omega (arith, low, many, high, apart)) }

    by : (v : ℕ) → is_alike f' v ≡ true → (v ≡ length c.inner.config.volumes) ⊎ (v ≡ length c.inner.config.volumes → ⊥) → AllAlike (wide d).config v m'
    by v is (inl same) = subst (λ (w : ℕ). AllAlike (wide d).config w m') (sym same) (made_alike c d m m' stands stays none (length c.inner.config.volumes) zeros)
    by v is (inr apart) = left v (sym (others v apart) ∙ is) apart (cases_lt v (length c.inner.config.volumes))

-- ---- answers

-- where nothing changed, whatever is answered
pub unmoved_by : (T : Type 0) (stop : Stop) (P : Type 0) → P → Unmoved {T = T} (Err stop) P
unmoved_by T (Refused (refusal.Device disk)) P it = tt
unmoved_by T (Refused refusal.Down) P it = tt
unmoved_by T (Refused other) P it = it
unmoved_by T OutOfMemory P it = it

pub no_refusal : (o : Option No) → ((why : No) → o ≡ Some why → ⊥) → o ≡ None
no_refusal None off = refl
no_refusal (Some why) off = absurd (off why refl)

pub ok_clash : {T E : Type 0} (x : T) (e : E) → Ok x ≡ Err e → ⊥
ok_clash x e is = cc

pub ends_volumes : (name : List ℕ) (want : Shape) (c d : Inner) (m m' : Meaning) (stop : Stop) → MakeEnds name want c d m m' (Err stop) → d.config.volumes ≡ c.config.volumes
ends_volumes name want c d m m' (Refused why) ends = ends.0
ends_volumes name want c d m m' OutOfMemory ends = ends

-- where it was refused the volumes are those of before
pub refused_volumes : (name : List ℕ) (want : Shape) (c d : GroupCore) (m m' : Meaning) (stop : Stop) → ((why : No) → make_refusal c.inner.config name want ≡ Some why → d ≡ c) → (make_refusal c.inner.config name want ≡ None → MakeEnds name want c.inner d.inner m m' (Err stop))
    → d.inner.config.volumes ≡ c.inner.config.volumes
refused_volumes name want c d m m' stop refused ends = by (make_refusal c.inner.config name want) refl
  where
    by : (o : Option No) → make_refusal c.inner.config name want ≡ o → d.inner.config.volumes ≡ c.inner.config.volumes
    by None may = ends_volumes name want c.inner d.inner m m' stop (ends may)
    by (Some why) is = ap (λ (x : GroupCore). x.inner.config.volumes) (refused why is)

front_all : {A : Type 0} (xs ys : List A) → take (length xs) (xs ++ ys) ≡ xs
front_all [] ys = refl
front_all {A} (x ∷ xs) ys = ap (λ (zs : List A). x ∷ zs) (front_all xs ys)

pub take_front : {A : Type 0} (xs ys : List A) (n : ℕ) → n ≡ length xs → take n (xs ++ ys) ≡ xs
take_front xs ys n is = subst (λ (k : ℕ). take k (xs ++ ys) ≡ xs) (sym is) (front_all xs ys)
