-- A log that is trusted again, over the core of a group.
use Rattle.std.proofs.Common.{◌≡◌, ◌⊎◌, inl, inr, ℕ, zero, suc, ◌<◌, ◌≤◌, true, false, IsTrue, Option, Some, None, List, [], ◌∷◌, length, refl, ap, sym, ◌∙◌, subst, arith}
use Rattle.std.specs.Prelude.{not, slice_get}
use Rattle.std.proofs.lemmas.Bool.{and_from, and_parts, cases_eq}
use Rattle.vx_disk.specs.Shelf.{Goes, Image, Lawful, Meaning, Nothing}
use Rattle.vx_disk.proofs.Runs.{then_nothing}
use Rattle.vx_config.specs.Changes.{changed_at, lost, lost_as, with_lost, with_volumes}
use Rattle.vx_config.specs.Checks.{is_sound}
use Rattle.vx_config.specs.declared.config.Config.{Config}
use Rattle.vx_config.specs.declared.entry.LogEntry.{LogEntry}
use Rattle.vx_config.specs.declared.entry.VolumeEntry.{VolumeEntry}
use Rattle.vx_config.specs.declared.entry.VolumeLog.{VolumeLog}
use Rattle.vx_config.specs.declared.entry.VolumeLog.TheVariants.{Drl, Fmr}
use Rattle.vx_copies.specs.Commits.{MoreFailed}
use Rattle.vx_copies.specs.Bodies.{fits_units}
use Rattle.vx_layout.specs.Places.{plex_at}
use Rattle.vx_maplog.specs.Logs.{log_of, log_or, used_or}
use Rattle.vx_volume.specs.Plexes.{Inside, active, active_or}
use Rattle.vx_kept.specs.Choice.{live, live_or}
use Rattle.vx_kept.specs.Commits.{Member}
use Rattle.vx_kept.specs.Groups.{ImportedImage, OnSome, OutsideVolumes, group_meaning}
use Rattle.vx_kept.specs.Keeping.{AllOn, Kept, Kin, SameShape, frame_at}
use Rattle.vx_kept.specs.LogRuns.{log_trusted}
use Rattle.vx_kept.specs.Losses.{SamePlexes}
use Rattle.vx_kept.specs.PlexActs.{PlexActs}
use Rattle.vx_kept.proofs.Chosen.{active_volumes, alike_shape, extends_shape, frames_volumes}
use Rattle.vx_kept.proofs.LosingLemmas.{loses, lost_plexes}
use Rattle.vx_kept.proofs.PlexActing.{both_PlexActs, wider_Acts}
use Rattle.vx_disk.specs.Moves.{Anything}
use Rattle.vx_kept.proofs.StateLemmas.{get_same, map_one, same_shape, then_shape}
use Rattle.vx_kept.proofs.Steps.{same_Acts}
use Rattle.vx_logs.specs.Held.{InUse}
use Rattle.vx_group.specs.Holding.{with_config}
use Rattle.vx_group.specs.Loses.{LosesPlexes, SameParts}
use Rattle.vx_group.specs.Moves.{Narrows}
use Rattle.vx_group.specs.Stands.{InnerStands, inner_meaning, volume_faults}
use Rattle.vx_group.specs.declared.inner.Inner.{Inner}
use Rattle.vx_group.proofs.ActsLemmas.{narrow_PlexActs}
use Rattle.vx_group.proofs.CallLemmas.{narrows_Goes}
use Rattle.vx_group.proofs.LoseLemmas.{loses_none, loses_plexes, then_loses}
use Rattle.vx_group.proofs.LostLemmas.{left_plexes}
use Rattle.vx_group.proofs.Standing.{can_of, kept_of, made, tidy_of}

-- ---- a log that is trusted, and then lost

over_entry : (o : Option LogEntry) → lost_as true (lost_as false o) ≡ lost_as true o
over_entry None = refl
over_entry (Some e) = refl

over_volume : (log : VolumeLog) (x : VolumeEntry) → with_lost log true (with_lost log false x) ≡ with_lost log true x
over_volume Drl x = ap (λ (o : Option LogEntry). record x { drl = o }) (over_entry x.drl)
over_volume Fmr x = ap (λ (o : Option LogEntry). record x { fmr = o }) (over_entry x.fmr)

over_at : (log : VolumeLog) (v : ℕ) (xs : List VolumeEntry) → changed_at (with_lost log true) v (changed_at (with_lost log false) v xs) ≡ changed_at (with_lost log true) v xs
over_at log v [] = refl
over_at log zero (x ∷ xs) = ap (λ (y : VolumeEntry). y ∷ xs) (over_volume log x)
over_at log (suc v) (x ∷ xs) = ap (λ (ys : List VolumeEntry). x ∷ ys) (over_at log v xs)

over : (v : ℕ) (log : VolumeLog) (c : Config) → lost v log true (lost v log false c) ≡ lost v log true c
over v log c = ap (λ (vs : List VolumeEntry). with_volumes vs c) (over_at log v c.volumes)

-- ---- one entry

found_entry : (log : VolumeLog) (o : Option VolumeEntry) → log_or log (map_one (with_lost log false) o) ≡ lost_as false (log_or log o)
found_entry log None = refl
found_entry Drl (Some x) = refl
found_entry Fmr (Some x) = refl

trusts_more : (o : Option LogEntry) → used_or o ≡ true → used_or (lost_as false o) ≡ true
trusts_more None is = is
trusts_more (Some e) is = refl

same_log : (k log : VolumeLog) → (k ≡ log) ⊎ (k ≡ log → ⊥)
same_log Drl Drl = inl refl
same_log Drl Fmr = inr (λ is. absurd cc)
same_log Fmr Drl = inr (λ is. absurd cc)
same_log Fmr Fmr = inl refl

-- ---- the configuration

module _ (v : ℕ) (log : VolumeLog) (c : Config) where
  abbrev t : Config
  t = lost v log false c

  on_lost : SamePlexes t (lost v log true c)
  on_lost = subst (SamePlexes t) (over v log c) (lost_plexes v log t)

  pub trusting_plexes : (w q : ℕ) → plex_at t w q ≡ plex_at c w q
  trusting_plexes w q = sym (on_lost.plexes w q) ∙ (lost_plexes v log c).plexes w q

  pub trusting_here : log_of t v log ≡ lost_as false (log_of c v log)
  trusting_here = ap (log_or log) (get_same (with_lost log false) v c.volumes) ∙ found_entry log (slice_get c.volumes v)

  pub trusting_others : (w : ℕ) (k : VolumeLog) → (w ≡ v → k ≡ log → ⊥) → log_of t w k ≡ log_of c w k
  trusting_others w k apart = sym ((loses v log t).others w k apart) ∙ ap (λ (x : Config). log_of x w k) (over v log c) ∙ (loses v log c).others w k apart

  here_more : (w : ℕ) (k : VolumeLog) → w ≡ v → k ≡ log → used_or (log_of c w k) ≡ true → used_or (log_of t w k) ≡ true
  here_more w k same at = subst (λ (y : ℕ). used_or (log_of c y k) ≡ true → used_or (log_of t y k) ≡ true) (sym same)
      (subst (λ (j : VolumeLog). used_or (log_of c v j) ≡ true → used_or (log_of t v j) ≡ true) (sym at) (λ is. ap used_or trusting_here ∙ trusts_more (log_of c v log) is))

  more : (w : ℕ) (k : VolumeLog) → used_or (log_of c w k) ≡ true → used_or (log_of t w k) ≡ true
  more w k is = elim (cases_eq w v) [
    | inl same ↦ elim (same_log k log) [
      | inl at ↦ here_more w k same at is
      | inr apart ↦ ap used_or (trusting_others w k (λ _ at. apart at)) ∙ is
    ]
    | inr apart ↦ ap used_or (trusting_others w k (λ same _. apart same)) ∙ is
  ]

  pub trusting_more : (w : ℕ) (k : VolumeLog) → log_trusted c w k ≡ true → log_trusted t w k ≡ true
  unfolding log_trusted
  trusting_more w k = more w k

  -- plexes and logs lie where they lay
  pub trusting_shape : SameShape c t
  trusting_shape = record {
    volumes = sym ((lost_plexes v log c).shape.volumes) ∙ on_lost.shape.volumes;
    frames = λ w. sym ((lost_plexes v log c).shape.frames w) ∙ on_lost.shape.frames w;
    blocks = λ w. sym ((lost_plexes v log c).shape.blocks w) ∙ on_lost.shape.blocks w;
    place = λ w q b. sym ((lost_plexes v log c).shape.place w q b) ∙ on_lost.shape.place w q b;
    logs = λ w k. sym ((lost_plexes v log c).shape.logs w k) ∙ on_lost.shape.logs w k;
    trusted = trusting_more;
  }

  pub trusting_active : (w q : ℕ) → active t w q ≡ active c w q
  unfolding active
  trusting_active w q = ap active_or (trusting_plexes w q)

  trusting_live : (w q : ℕ) → live t w q ≡ live c w q
  unfolding live
  trusting_live w q = ap live_or (trusting_plexes w q)

  trusting_on : AllOn c → AllOn t
  trusting_on on = record { each = λ w q is. trusting_active w q ∙ on.each w q (sym (trusting_live w q) ∙ is) }

  there : (w : ℕ) → w < length t.volumes → w < length c.volumes
  there w lt = let same : length c.volumes ≡ length t.volumes = trusting_shape.volumes in omega (arith, lt, same)

  kin_trusting : (x : Config) → Kin c x → Kin t x
  kin_trusting x kin = record {
    shape = extends_shape x c t kin.shape trusting_shape;
    on = λ w q lt is. trusting_active w q ∙ kin.on w q (there w lt) is;
    some = λ w lt. kin.some w (there w lt);
  }

  kept_trusting : (G : ℕ → Type 0) (m : Meaning) → Kept c G m → Kept t G m
  kept_trusting G m kept = record {
    below = record { each = λ u lt. kept.below.each u lt };
    counts = kept.counts;
    labels = kept.labels;
    sees = λ i each.
        let sees = kept.sees i each in
        record { config = sees.config; found = sees.found; kin = kin_trusting sees.config sees.kin; others = λ R g x held in_it is. kin_trusting x (sees.others R g x held in_it is) };
  }

-- the group stands with it
trusting_Stands : (v : ℕ) (log : VolumeLog) (core : Inner) (m : Meaning) → is_sound (lost v log false core.config) ≡ is_sound core.config → InnerStands core m → InnerStands (with_config (lost v log false core.config) core) m
trusting_Stands v log core m sound stands =
    made (with_config (lost v log false core.config) core) m
    (let parts = and_parts (is_sound core.config) (fits_units m.units m.size core.config) stands.wanted in
    and_from (is_sound (lost v log false core.config)) (fits_units m.units m.size core.config) (sound ∙ parts.0) parts.1)
    (record { serial = stands.serial; disks = stands.disks; rvg = (can_of core m stands).rvg })
    (let few = stands.few in let same = (trusting_shape v log core.config).volumes in omega (arith, few, same))
    (λ w. let small = stands.small w in let same = (trusting_shape v log core.config).blocks w in omega (arith, small, same))
    stands.large (trusting_on v log core.config stands.on) stands.some (kept_trusting v log core.config (Member core.good m) m (kept_of core m stands))
    (λ is. record { each = λ u held. (tidy_of core m stands is).each u (record { below = held.below; good = held.good }) }) stands.trusts

pub now_Stands : (v : ℕ) (log : VolumeLog) (core : Inner) (e : Config) (m : Meaning) → e ≡ lost v log false core.config → is_sound e ≡ is_sound core.config → InnerStands core m → InnerStands (with_config e core) m
now_Stands v log core e m is sound stands =
    subst (λ (x : Config). InnerStands (with_config x core) m) (sym is) (trusting_Stands v log core m (subst (λ (x : Config). is_sound x ≡ is_sound core.config) is sound) stands)

-- ---- to its volumes nothing changes

module _ (c d : Config) (f : ℕ → ℕ) (m : Meaning) (shape : SameShape c d) (on : (w q : ℕ) → active d w q ≡ active c w q) where
  to_old : (w b : ℕ) → Inside d w b → Inside c w b
  to_old w b is = record { volume = let same = shape.volumes in omega (arith, is.volume, same); within = let same = shape.blocks w in omega (arith, is.within, same) }

  to_new : (w b : ℕ) → Inside c w b → Inside d w b
  to_new w b is = record { volume = let same = shape.volumes in omega (arith, is.volume, same); within = let same = shape.blocks w in omega (arith, is.within, same) }

  some_back : (values : ℕ → ℕ → List ℕ → Type 0) (w b : ℕ) (x : List ℕ) → OnSome d values w b x ⊎ OutsideVolumes m.tells d w b x → OnSome c values w b x ⊎ OutsideVolumes m.tells c w b x
  some_back values w b x (inl is) = inl (record {
    inside = to_old w b is.inside;
    plex = is.plex;
    is_on = sym (on w is.plex) ∙ is.is_on;
    value = subst (λ (at : ℕ × ℕ). values at.0 at.1 x) (sym (shape.place w is.plex b)) is.value;
  })
  some_back values w b x (inr out) = inr (record { tells = out.tells; outside = λ inside. out.outside (to_new w b inside); empty = out.empty })

  image_back : (P : Image → Type 0) (i : Image) → ImportedImage d m P i → ImportedImage c m P i
  image_back P i is = record {
    image = is.image;
    left = is.left;
    config = is.config;
    found = is.found;
    shows = record { here = λ w b inside. is.shows.here w b (to_new w b inside); beyond = λ w b out. is.shows.beyond w b (λ inside. out (to_old w b inside)) };
  }

  image_on : (P : Image → Type 0) (i : Image) → ImportedImage c m P i → ImportedImage d m P i
  image_on P i is = record {
    image = is.image;
    left = is.left;
    config = is.config;
    found = is.found;
    shows = record { here = λ w b inside. is.shows.here w b (to_old w b inside); beyond = λ w b out. is.shows.beyond w b (λ inside. out (to_new w b inside)) };
  }

  pub places_Goes : Goes Nothing (group_meaning c f m) (group_meaning d f m)
  places_Goes = record {
    units = sym shape.volumes;
    size = λ w. sym (shape.blocks w);
    tells = refl;
    reads = λ w b x is. inl (inl (some_back m.reads w b x is));
    leaves = λ w b x is. inl (some_back m.leaves w b x is);
    later = omega arith;
    since = λ t i le left. inl (image_back (m.left_since t) i left);
    keeps = λ t i le left. image_on (m.left_since t) i left;
    faults = λ u. omega arith;
    disk_faults = λ u. omega arith;
    falls = λ is. is;
    unarmed = λ is. is;
    safe = λ _ is. is;
  }

-- ---- a commit behind it

module _ (v : ℕ) (log : VolumeLog) (core mid : Inner) (e : Config) (new : Inner) (m m1 m2 : Meaning) (law1 : Lawful m1) (law2 : Lawful m2) (stands : InnerStands core m)
    (first : Narrows core mid m m1) (volumes : mid.config.volumes ≡ core.config.volumes) where
  abbrev told : Config
  told = lost v log false core.config

  mid_volumes : (lost v log false mid.config).volumes ≡ told.volumes
  mid_volumes = ap (λ (vs : List VolumeEntry). changed_at (with_lost log false) v vs) volumes

  -- refused before it
  pub early_PlexActs : PlexActs Nothing told mid.config m m1
  early_PlexActs = record {
    acts = wider_Acts Nothing Nothing _ m m1 first.acts (λ u b x none. none);
    shape = then_shape mid.config (lost v log false mid.config) told (trusting_shape v log mid.config) (alike_shape (lost v log false mid.config) told told mid_volumes (same_shape told));
    on = λ w q is. sym (active_volumes (lost v log false mid.config) told mid_volumes w q) ∙ trusting_active v log mid.config w q ∙ is;
  }

  module _ (is : e ≡ lost v log false mid.config) (sound : is_sound e ≡ is_sound mid.config) (stands1 : InnerStands mid m1) (second : Narrows (with_config e mid) new m1 m2) where
    first_PlexActs : PlexActs Nothing told e m m1
    first_PlexActs = record {
      acts = wider_Acts Nothing Nothing _ m m1 first.acts (λ u b x none. none);
      shape = subst (λ (x : Config). SameShape x told) (sym is) (alike_shape (lost v log false mid.config) told told mid_volumes (same_shape told));
      on = subst (λ (x : Config). (w q : ℕ) → IsTrue (active x w q) → IsTrue (active told w q)) (sym is) (λ w q on. sym (active_volumes (lost v log false mid.config) told mid_volumes w q) ∙ on);
    }

    pub both_acts : PlexActs Nothing told new.config m m2
    both_acts = both_PlexActs Nothing Nothing Nothing told e new.config m m1 m2 first_PlexActs (narrow_PlexActs Nothing (with_config e mid) new m1 m2 second) (λ u b x none. none) (λ u b x none. none)

    now_shape : SameShape mid.config e
    now_shape = subst (SameShape mid.config) (sym is) (trusting_shape v log mid.config)

    now_active : (w q : ℕ) → active e w q ≡ active mid.config w q
    now_active = subst (λ (x : Config). (w q : ℕ) → active x w q ≡ active mid.config w q) (sym is) (trusting_active v log mid.config)

    pub both_goes : Goes Nothing (inner_meaning core m) (inner_meaning new m2)
    both_goes =
        let one : Goes Nothing (inner_meaning core m) (inner_meaning mid m1) = narrows_Goes core mid m m1 law1 stands first (volume_faults core.faults) (volume_faults mid.faults) (λ u. let same = ap (λ (x : List ℕ). volume_faults x u) first.faults in omega (arith, same)) in
        let two : Goes Nothing (inner_meaning mid m1) (inner_meaning (with_config e mid) m1) = places_Goes mid.config e (volume_faults mid.faults) m1 now_shape now_active in
        let three : Goes Nothing (inner_meaning (with_config e mid) m1) (inner_meaning new m2) = narrows_Goes (with_config e mid) new m1 m2 law2 (now_Stands v log mid e m1 is sound stands1) second (volume_faults mid.faults) (volume_faults new.faults) (λ u. let same = ap (λ (x : List ℕ). volume_faults x u) second.faults in omega (arith, same)) in
        then_nothing Nothing (inner_meaning core m) (inner_meaning mid m1) (inner_meaning new m2) one
        (then_nothing Nothing (inner_meaning mid m1) (inner_meaning (with_config e mid) m1) (inner_meaning new m2) two three)

    pub both_volumes : new.config.volumes ≡ e.volumes → new.config.volumes ≡ told.volumes
    both_volumes same = same ∙ ap (λ (x : Config). x.volumes) is ∙ mid_volumes

-- no call
pub still_PlexActs : (v : ℕ) (log : VolumeLog) (c : Config) (m : Meaning) → PlexActs Nothing (lost v log false c) c m m
still_PlexActs v log c m = record {
  acts = wider_Acts Nothing Nothing Anything m m (same_Acts Anything m) (λ u b x none. none);
  shape = trusting_shape v log c;
  on = λ w q is. trusting_active v log c w q ∙ is;
}

-- ---- what it leaves of plexes and disks

pub trusted_loses : (v : ℕ) (log : VolumeLog) (c b lost_by d : Config) (m m1 m2 : Meaning) → ((u : ℕ) → m.faults u ≤ m1.faults u) → ((u : ℕ) → m1.faults u ≤ m2.faults u) → b.volumes ≡ c.volumes → MoreFailed m m1 c.disks b.disks → SameParts c b
    → lost_by ≡ lost v log false b → d.volumes ≡ lost_by.volumes → MoreFailed m1 m2 lost_by.disks d.disks → SameParts lost_by d → LosesPlexes c d m m2
trusted_loses v log c b told d m m1 m2 one two first failing parts is last failed same =
    then_loses m m1 m2 one two c b d (loses_none c b m m1 first failing parts)
    (loses_plexes b d m1 m2 (λ w. frames_volumes d told last w ∙ ap (λ (x : Config). frame_at x w) is ∙ sym ((trusting_shape v log b).frames w)) (λ w p. left_plexes told d last w p ∙ ap (λ (x : Config). plex_at x w p) is ∙ trusting_plexes v log b w p)
    (subst (λ (x : Config). MoreFailed m1 m2 x.disks d.disks) is failed) (record { site = same.site ∙ ap (λ (x : Config). x.site) is; rvg = same.rvg ∙ ap (λ (x : Config). x.rvg) is; count = same.count ∙ ap (λ (x : Config). length x.disks) is; later = (let one' : told.serial ≡ b.serial = ap (λ (x : Config). x.serial) is in let two' = same.later in omega (arith, one', two')) }))

pub used_trusted : (x : Config) (v : ℕ) (e : LogEntry) → InUse x v Drl e → log_trusted x v Drl ≡ true
unfolding log_trusted
used_trusted x v e use_it = ap used_or use_it.is ∙ ap not use_it.kept
