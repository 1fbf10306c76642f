-- A configuration in which one plex more is ACTIVE, over the core of a group.
use Rattle.std.proofs.Common.{◌≡◌, ◌⊎◌, inl, inr, ℕ, ◌+◌, ◌-◌, ◌<◌, ◌≤◌, Bool, true, false, IsTrue, Option, Some, None, List, length, refl, ap, sym, ◌∙◌, subst, arith}
use Rattle.std.specs.Prelude.{nat_le, nat_lt, if◌then◌else◌, slice_get}
use Rattle.std.proofs.lemmas.Bool.{and_from, and_parts, cases_eq, cases_lt, false_from_ne_true, le-leb, lt-ltb}
use Rattle.vx_disk.specs.Shelf.{Meaning}
use Rattle.vx_model.specs.declared.no.No.{No}
use Rattle.vx_model.specs.declared.site.PlexState.{PlexState}
use Rattle.vx_model.specs.declared.site.PlexState.TheVariants.{Active, Clean, Stale}
use Rattle.vx_model.proofs.Lists.{get_there}
use Rattle.vx_config.specs.Changes.{stated, with_state}
use Rattle.vx_config.specs.Checks.{is_live, is_sound, plexes_of, plexes_or}
use Rattle.vx_config.specs.Table.{greatest}
use Rattle.vx_config.specs.declared.config.Config.{Config}
use Rattle.vx_config.specs.declared.entry.PlexEntry.{PlexEntry}
use Rattle.vx_config.specs.declared.entry.VolumeEntry.{VolumeEntry}
use Rattle.vx_config.proofs.Changed.{state_sound}
use Rattle.vx_config.proofs.Fewer.{stated_back}
use Rattle.vx_copies.specs.Bodies.{fits_units, is_wanted}
use Rattle.vx_layout.specs.Places.{plex_at, plex_in}
use Rattle.vx_volume.specs.Plexes.{active, active_or}
use Rattle.vx_volume.proofs.UsesLemmas.{TherePlex}
use Rattle.vx_kept.specs.Choice.{live, live_or}
use Rattle.vx_kept.specs.Commits.{Member}
use Rattle.vx_kept.specs.Keeping.{AllOn, Kept, Kin, SameShape}
use Rattle.vx_kept.specs.States.{whole_of, whole_or}
use Rattle.vx_kept.proofs.Narrower.{live_has, on_live}
use Rattle.vx_kept.proofs.RunLemmas.{trust_from}
use Rattle.vx_kept.proofs.StateLemmas.{active_apart, live_apart, map_one, plex_same, stated_logs, stated_shape}
use Rattle.vx_group.specs.Attaches.{MayAttach, att_refusal, attached}
use Rattle.vx_group.specs.Dets.{margin}
use Rattle.vx_group.specs.Holding.{with_config}
use Rattle.vx_group.specs.Stands.{InnerStands}
use Rattle.vx_group.specs.declared.inner.Inner.{Inner}
use Rattle.vx_group.proofs.Standing.{can_of, kept_of, made, sound_of, tidy_of}

-- ---- no refusal

none_of : (a b d : Bool) (n1 n2 n3 : No) → (if a then Some n1 else (if b then Some n2 else (if d then Some n3 else None))) ≡ None → (a ≡ false) × (b ≡ false) × (d ≡ false)
none_of true b d n1 n2 n3 is = absurd (let clash : Some n1 ≡ None = is in cc)
none_of false true d n1 n2 n3 is = absurd (let clash : Some n2 ≡ None = is in cc)
none_of false false true n1 n2 n3 is = absurd (let clash : Some n3 ≡ None = is in cc)
none_of false false false n1 n2 n3 is = (refl, refl, refl)

less_of : (n k : ℕ) → nat_le n k ≡ false → k < n
less_of n k is = elim (cases_lt k n) [
  | inl lt ↦ lt
  | inr le ↦ absurd (let clash : true ≡ false = sym (le-leb n k le) ∙ is in cc)
]

module _ (c : Config) (v p : ℕ) (may : att_refusal c v p ≡ None) where
  pub may_volume : v < length c.volumes
  may_volume = less_of (length c.volumes) v (none_of (nat_le (length c.volumes) v) (nat_le (plexes_of c v) p) (nat_lt (greatest - margin) c.serial) _ _ _ may).0

  pub may_less : c.serial < greatest
  may_less = elim (cases_lt (greatest - margin) c.serial) [
    | inl lt ↦ absurd (let clash : true ≡ false = sym (lt-ltb (greatest - margin) c.serial lt) ∙ (none_of (nat_le (length c.volumes) v) (nat_le (plexes_of c v) p) (nat_lt (greatest - margin) c.serial) _ _ _ may).2 in cc)
    | inr le ↦ omega (arith, le)
  ]

  pub may_attach : MayAttach c v p
  may_attach = record { volume = may_volume; plex = less_of (plexes_of c v) p (none_of (nat_le (length c.volumes) v) (nat_le (plexes_of c v) p) (nat_lt (greatest - margin) c.serial) _ _ _ may).1; more = may_less }

  -- so many serials are left that two commits use less
  pub may_room : c.serial + 18 < greatest
  may_room = elim (cases_lt (greatest - margin) c.serial) [
    | inl lt ↦ absurd (let clash : true ≡ false = sym (lt-ltb (greatest - margin) c.serial lt) ∙ (none_of (nat_le (length c.volumes) v) (nat_le (plexes_of c v) p) (nat_lt (greatest - margin) c.serial) _ _ _ may).2 in cc)
    | inr le ↦ omega (arith, le)
  ]

-- so it is with as many serials less as a commit uses at most
pub may_behind : (c d : Config) (v p : ℕ) → MayAttach c v p → c.serial + 9 < greatest → d.volumes ≡ c.volumes → d.serial ≤ c.serial + 9 → MayAttach d v p
may_behind c d v p may room volumes few = record {
  volume = let lt = may.volume in omega (arith, lt, ap length volumes);
  plex = let count : plexes_of d v ≡ plexes_of c v = ap (λ (vs : List VolumeEntry). plexes_or (slice_get vs v)) volumes in let lt = may.plex in omega (arith, count, lt);
  more = omega (arith, room, few);
}

-- so it is behind one commit, where an attach may begin
pub later_may : (c d : Config) (v p : ℕ) → att_refusal c v p ≡ None → d.volumes ≡ c.volumes → d.serial ≤ c.serial + 9 → MayAttach d v p
later_may c d v p may volumes few = may_behind c d v p (may_attach c v p may) (let room = may_room c v p may in omega (arith, room)) volumes few

pub present : (c : Config) (v p : ℕ) → MayAttach c v p → TherePlex c v p
present c v p may =
    let one = get_there c.volumes v may.volume in
    let count : plexes_of c v ≡ length (one.0).plexes = ap plexes_or one.1 in
    let two = get_there (one.0).plexes p (let less = may.plex in omega (arith, count, less)) in
    record { volume = one.0; plex = two.0; at_v = one.1; at_p = two.1 }

-- what may be attached hangs on volumes and serial
pub same_may : (c d : Config) (v p : ℕ) → d.volumes ≡ c.volumes → d.serial ≡ c.serial → MayAttach c v p → MayAttach d v p
same_may c d v p volumes serial may = record {
  volume = let lt = may.volume in omega (arith, lt, ap length volumes);
  plex = let count : plexes_of d v ≡ plexes_of c v = ap (λ (vs : List VolumeEntry). plexes_or (slice_get vs v)) volumes in let lt = may.plex in omega (arith, count, lt);
  more = let lt = may.more in omega (arith, lt, serial);
}

-- ---- the states

stale_state : (e : PlexEntry) (s : PlexState) → e.state ≡ s → is_live e ≡ false → s ≡ Stale
stale_state e Stale at off = refl
stale_state e Active at off = absurd (let on : is_live e ≡ true = rw at refl in let clash : true ≡ false = sym on ∙ off in cc)
stale_state e Clean at off = absurd (let on : is_live e ≡ true = rw at refl in let clash : true ≡ false = sym on ∙ off in cc)

pub here_or_apart : (x v q p : ℕ) → ((x ≡ v) × (q ≡ p)) ⊎ (x ≡ v → q ≡ p → ⊥)
here_or_apart x v q p = elim (cases_eq x v) [
  | inl same ↦ elim (cases_eq q p) [ inl at ↦ inl (same, at) | inr other ↦ inr (λ s t. other t) ]
  | inr apart ↦ inr (λ s t. apart s)
]

module _ (c : Config) (v p : ℕ) (there : TherePlex c v p) where
  abbrev d : Config
  d = attached v p c

  at_plex : plex_at c v p ≡ Some there.plex
  at_plex = ap (λ (o : Option VolumeEntry). plex_in o p) there.at_v ∙ there.at_p

  pub open_shape : SameShape d c
  open_shape = stated_shape v p Active false c

  pub open_on : IsTrue (active d v p)
  unfolding active
  open_on = ap active_or (plex_same v p Active false c ∙ ap (map_one (with_state Active false)) at_plex)

  pub open_others : (w q : ℕ) → (w ≡ v → q ≡ p → ⊥) → active d w q ≡ active c w q
  open_others w q apart = active_apart v p Active false c w q apart

  at_here : (w q : ℕ) → w ≡ v → q ≡ p → IsTrue (active d w q)
  at_here w q same at = subst (λ (y : ℕ). IsTrue (active d y q)) (sym same) (subst (λ (r : ℕ). IsTrue (active d v r)) (sym at) open_on)

  pub open_wider : (w q : ℕ) → IsTrue (active c w q) → IsTrue (active d w q)
  open_wider w q is = elim (here_or_apart w v q p) [
    | inl here ↦ at_here w q here.0 here.1
    | inr apart ↦ open_others w q apart ∙ is
  ]

  pub open_all : AllOn c → AllOn d
  open_all on = record {
    each = λ w q is. elim (here_or_apart w v q p) [
      | inl here ↦ at_here w q here.0 here.1
      | inr apart ↦ open_others w q apart ∙ on.each w q (sym (live_apart v p Active false c w q apart) ∙ is)
    ];
  }

  pub open_sound : is_sound c ≡ true → is_sound d ≡ true
  open_sound sound = state_sound v p Active false c d.volumes refl sound (live_has d v p (on_live d v p open_on))

  -- a plex that takes no part is put back
  pub closed : AllOn c → active c v p ≡ false → (whole : Bool) → whole ≡ whole_of c v p → stated v p Stale whole d ≡ c
  unfolding live whole_of
  closed on off whole is =
      let none : live c v p ≡ false = false_from_ne_true (live c v p) (λ is_on. let clash : false ≡ true = sym off ∙ on.each v p is_on in cc) in
      let state : there.plex.state ≡ Stale = stale_state there.plex there.plex.state refl (sym (ap live_or at_plex) ∙ none) in
      let flag : whole ≡ there.plex.whole = is ∙ ap whole_or at_plex in
      ap (λ (b : Bool). stated v p Stale b d) flag ∙ ap (λ (s : PlexState). stated v p s there.plex.whole d) (sym state) ∙ stated_back c v p there.volume there.plex Active false there.at_v there.at_p

  there_volume : (w : ℕ) → w < length d.volumes → w < length c.volumes
  there_volume w lt = let same = open_shape.volumes in omega (arith, lt, same)

  kin_wider : (x : Config) → Kin c x → Kin d x
  kin_wider x kin = record {
    shape = record {
      volumes = let le = kin.shape.volumes in let same = open_shape.volumes in omega (arith, le, same);
      frames = λ w lt. kin.shape.frames w (there_volume w lt) ∙ sym (open_shape.frames w);
      blocks = λ w lt. kin.shape.blocks w (there_volume w lt) ∙ sym (open_shape.blocks w);
      place = λ w q b lt. kin.shape.place w q b (there_volume w lt) ∙ sym (open_shape.place w q b);
      logs = λ w log lt. kin.shape.logs w log (there_volume w lt) ∙ sym (open_shape.logs w log);
      trusted = λ w log lt is. trust_from c d w w log (sym (stated_logs v p Active false c w log)) (kin.shape.trusted w log (there_volume w lt) is);
      beyond = λ w log past. kin.shape.beyond w log (let same = open_shape.volumes in omega (arith, same, past));
      fresh = λ w q past is. kin.shape.fresh w q (let same = open_shape.volumes in omega (arith, same, past)) is;
    };
    on = λ w q lt is. open_wider w q (kin.on w q (there_volume w lt) is);
    some = λ w lt. kin.some w (there_volume w lt);
  }

  kept_wider : (G : ℕ → Type 0) (m : Meaning) → Kept c G m → Kept d G m
  kept_wider G m kept = record {
    below = record { each = λ u lt. kept.below.each u lt };
    counts = kept.counts;
    labels = kept.labels;
    sees = λ i each.
        let sees = kept.sees i each in
        record { config = sees.config; found = sees.found; kin = kin_wider sees.config sees.kin; others = λ R g x held in_it is. kin_wider x (sees.others R g x held in_it is) };
  }

-- a core in which the plex is ACTIVE
abbrev pub opened : ℕ → ℕ → Inner → Inner
opened v p core = with_config (attached v p core.config) core

module _ (core : Inner) (v p : ℕ) (there : TherePlex core.config v p) (m : Meaning) (stands : InnerStands core m) where
  sound_here : is_sound (attached v p core.config) ≡ true
  sound_here = open_sound core.config v p there (sound_of core m stands)

  wanted_here : is_wanted m.units m.size (attached v p core.config) ≡ true
  wanted_here = and_from (is_sound (attached v p core.config)) (fits_units m.units m.size (attached v p core.config)) sound_here
      (and_parts (is_sound core.config) (fits_units m.units m.size core.config) stands.wanted).1

  pub open_Stands : InnerStands (opened v p core) m
  open_Stands = made (opened v p core) m wanted_here (record { serial = stands.serial; disks = stands.disks; rvg = (can_of core m stands).rvg })
      (let few = stands.few in let same = (open_shape core.config v p there).volumes in omega (arith, few, same))
      (λ w. let small = stands.small w in let same = (open_shape core.config v p there).blocks w in omega (arith, small, same))
      stands.large (open_all core.config v p there stands.on) stands.some (kept_wider core.config v p there (Member core.good m) m (kept_of core m stands))
      (λ is. record { each = λ u held. (tidy_of core m stands is).each u (record { below = held.below; good = held.good }) }) stands.trusts
