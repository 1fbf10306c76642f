-- The logs of a group beside its calls, and the group beside calls on a log.
use Rattle.std.proofs.Common.{◌≡◌, ◌∙◌, inl, inr, ⊎_elim, ℕ, ◌/◌, Bool, true, IsTrue, Option, Some, None, List, length, refl, sym, ap, subst, arith}
use Rattle.vx_config.specs.Checks.{blocks_of, is_sound}
use Rattle.vx_config.specs.declared.config.Config.{Config}
use Rattle.vx_model.specs.declared.site.PlexState.TheVariants.{Stale}
use Rattle.std.specs.Prelude.{IfErr, IfOk, Result, Ok, Err}
use Rattle.vx_disk.specs.Causes.{Cause}
use Rattle.vx_disk.specs.declared.shelf.ShelfError.{ShelfError}
use Rattle.vx_disk.specs.declared.shelf.ShelfError.TheVariants.{Fault, Down}
use Rattle.vx_disk.specs.Shelf.{Fits, Flushed, Goes, Lawful, Meaning, Nothing, Values, Wrote}
use Rattle.vx_kept.specs.Commits.{Member}
use Rattle.vx_kept.specs.Finds.{FindsFrom, NoConfiguration}
use Rattle.vx_kept.specs.Groups.{OnSome}
use Rattle.vx_kept.specs.Keeping.{Kept, SameShape}
use Rattle.vx_kept.specs.PlexActs.{PlexActs}
use Rattle.vx_kept.specs.States.{whole_of}
use Rattle.vx_kept.proofs.PlexActing.{wider_Acts}
use Rattle.vx_kept.proofs.StateLemmas.{same_shape, stated_shape, then_shape}
use Rattle.vx_kept.proofs.Steps.{inside_same}
use Rattle.vx_logs.specs.Writes.{first_region, last_region}
use Rattle.vx_logs.specs.declared.logs.Logs.{Logs}
use Rattle.vx_layout.specs.Places.{HasBlock, place}
use Rattle.vx_layout.proofs.Placing.{sound_apart}
use Rattle.vx_volume.specs.Plexes.{DisksFit, InRun, Inside}
use Rattle.vx_volume.proofs.PlaceLemmas.{has_of}
use Rattle.vx_groupmaps.specs.Knowing.{MapsKnowBy}
use Rattle.vx_groupmaps.specs.Missing.{OnMaps, none_spared}
use Rattle.vx_volume.specs.Volumes.{OnPlexes}
use Rattle.vx_group.specs.Calls.{GroupNarrows}
use Rattle.vx_group.specs.Holding.{GroupStands, active_at, config_by, wide}
use Rattle.vx_group.specs.Stands.{inner_meaning, volume_faults}
use Rattle.vx_group.specs.declared.group_core.GroupCore.{GroupCore}
use Rattle.vx_group.specs.declared.group_core.Held.{Held}
use Rattle.vx_group.specs.declared.inner.Inner.{Inner}
use Rattle.vx_group.proofs.HoldLemmas.{wide_none, wide_shape}
use Rattle.vx_group.proofs.Standing.{fit_of, kept_of, low_Stands, low_finds, sound_of}
use Rattle.vx_grouplogs.specs.Covering.{AllAlike, OnLogs}
use Rattle.vx_grouplogs.specs.Keeps.{KeepsGroup}
use Rattle.vx_grouplogs.specs.Marking.{MarksFewer, MarksOnly, NoMarks}
use Rattle.vx_model.specs.Sizes.{regions_of as regions_in}
use Rattle.vx_grouplogs.specs.On.{VolumeOn}
use Rattle.vx_group.specs.Settles.{ReadsOne}
use Rattle.vx_grouplogs.proofs.KnowActs.{know_acts, know_idle, know_logs, logs_off_plex}
use Rattle.vx_grouplogs.proofs.LogPlaces.{logs_above}
use Rattle.vx_grouplogs.proofs.OnLemmas.{on_acts, spares_marked, spares_none, spares_other}
use Rattle.vx_logged.specs.Logged.{EachOn, KnownBy, LogOn, MayWrite, Narrowed, OthersOn}
use Rattle.vx_group.specs.Finds.{GroupFinds}
use Rattle.vx_group.proofs.FindingLemmas.{idle_group}
use Rattle.vx_grouplogs.proofs.MapLemmas.{goes_logs}

-- ---- calls that write no block of a plex or a log

pub each_same : (c : GroupCore) (m : Meaning) → EachOn c c m m
each_same c m = record { each = λ w l on. on; maps = λ w spare l know. know }

pub each_then : (c d e : GroupCore) (m m1 m2 : Meaning) → EachOn c d m m1 → EachOn d e m1 m2 → EachOn c e m m2
each_then c d e m m1 m2 one two = record { each = λ w l on. two.each w l (one.each w l on); maps = λ w spare l know. two.maps w spare l (one.maps w spare l know) }

pub each_on : (c d : GroupCore) (m m' : Meaning) → GroupStands c m → PlexActs Nothing (wide c).config (wide d).config m m' → EachOn c d m m'
each_on c d m m' stands acts = record {
  each = λ w l on. on_acts Nothing (wide c).config (wide d).config (sound_of (wide c) m stands.stands) w l m m' (fit_of (wide c) m stands.stands) acts (spares_none Nothing (wide c).config w l (λ u b x none. none)) on;
  maps = λ w spare l know. know_idle (wide c).config (wide d).config (sound_of (wide c) m stands.stands) w spare l m m' acts know;
}

-- calls in a row that detach plexes and lose logs alone
pub narrowed_then : (c d e : GroupCore) → Narrowed c d → Narrowed d e → Narrowed c e
narrowed_then c d e one two = record { shape = then_shape (wide e).config (wide d).config (wide c).config two.shape one.shape; less = λ w log is. one.less w log (two.less w log is); on = λ w p is. one.on w p (two.on w p is) }

pub narrowed_acts : (W : Values) (c d : GroupCore) (m m' : Meaning) → PlexActs W (wide c).config (wide d).config m m' → Narrowed c d
narrowed_acts W c d m m' acts = record { shape = acts.shape; less = acts.shape.trusted; on = acts.on }

pub narrowed_same : (c : GroupCore) → Narrowed c c
narrowed_same c = record { shape = same_shape (wide c).config; less = λ w log is. is; on = λ w p is. is }

-- the configuration in memory has the places of that with the plex that is held back
pub inner_wide : (c : GroupCore) (m : Meaning) → GroupStands c m → SameShape c.inner.config (wide c).config
inner_wide c m stands = by c.held refl
  where
    by : (o : Option Held) → c.held ≡ o → SameShape c.inner.config (wide c).config
    by None is = subst (λ (x : Config). SameShape c.inner.config x) (sym (ap (λ (i : Inner). i.config) (wide_none c is))) (same_shape c.inner.config)
    by (Some h) is =
        let kept = stands.held h is in
        let on : Config = active_at h.vol h.plex c.inner.config in
        subst (λ (o : Option Held). SameShape c.inner.config (config_by o c.inner.config)) (sym is)
        (subst (λ (x : Config). SameShape x on) kept.back (stated_shape h.vol h.plex Stale (whole_of on h.vol h.plex) on))

-- so it is of two groups in a row, as the disks may keep them
pub wide_both : (c d : GroupCore) (m : Meaning) → GroupStands c m → SameShape d.inner.config c.inner.config → SameShape (wide d).config (wide c).config
wide_both c d m stands shape = then_shape (wide d).config d.inner.config (wide c).config (wide_shape d) (then_shape d.inner.config c.inner.config (wide c).config shape (inner_wide c m stands))

-- commits that touch no block of a plex
module _ (c d : GroupCore) (m m' : Meaning) (stands : GroupStands c m) (narrows : GroupNarrows c d m m') where
  pub narrows_acts : PlexActs Nothing (wide c).config (wide d).config m m'
  narrows_acts = record {
    acts = wider_Acts Nothing Nothing _ m m' narrows.acts (λ u b x none. none);
    shape = wide_both c d m stands narrows.shape;
    on = narrows.wide_on;
  }

-- ---- calls on a log

-- no plex that is ACTIVE is written
pub wide_idle : (core : GroupCore) (v : ℕ) (m m' : Meaning) → GroupStands core m → Goes (OnLogs (wide core).config v) m m' → FindsFrom NoConfiguration m m' → GroupFinds core core m m'
wide_idle core v m m' stands goes finds =
    idle_group core m m' stands.stands
    (record {
      each = λ w p b y on inside left.
          ⊎_elim (λ was. was) (λ put. absurd (logs_off_plex (wide core).config (sound_of (wide core) m stands.stands) v w p b y (has_of (wide core).config w p b on inside) put)) (goes.leaves _ _ y left);
    })
    goes.falls finds

-- the same of its maps
pub wide_maps_idle : (core : GroupCore) (v : ℕ) (m m' : Meaning) → GroupStands core m → Goes (OnMaps (wide core).config v) m m' → FindsFrom NoConfiguration m m' → GroupFinds core core m m'
wide_maps_idle core v m m' stands goes finds = wide_idle core v m m' stands (goes_logs (wide core).config v m m' goes) finds

-- ---- where no plex is held back

module _ (core : GroupCore) (v : ℕ) (m m' : Meaning) (none : core.held ≡ None) (stands : GroupStands core m) where
  pub config_is : (wide core).config ≡ core.inner.config
  config_is = ap (λ (i : Inner). i.config) (wide_none core none)

  pub inner_sound : is_sound core.inner.config ≡ true
  inner_sound = subst (λ (c : Config). is_sound c ≡ true) config_is (sound_of (wide core) m stands.stands)

  pub inner_fit : DisksFit core.inner.config.disks m
  inner_fit = fit_of (wide core) m stands.stands

  pub to_inner : (w : ℕ) (l : Logs) → LogOn core w l m → VolumeOn core.inner.config w l m
  to_inner w l on = subst (λ (c : Config). VolumeOn c w l m) config_is on

  pub to_wide : (w : ℕ) (l : Logs) → VolumeOn core.inner.config w l m' → LogOn core w l m'
  to_wide w l on = subst (λ (c : Config). VolumeOn c w l m') (sym config_is) on

  inner_kept : Kept core.inner.config (Member core.inner.good m) m
  inner_kept = subst (λ (c : Config). Kept c (Member core.inner.good m) m) config_is (kept_of (wide core) m stands.stands)

  pub logs_goes : KeepsGroup core.inner.config m m' → Goes Nothing (inner_meaning (wide core) m) (inner_meaning (wide core) m')
  logs_goes keeps = subst (λ (i : Inner). Goes Nothing (inner_meaning i m) (inner_meaning i m')) (sym (wide_none core none)) (keeps.goes core.inner.good (volume_faults core.inner.faults) inner_kept)

  pub logs_Stands : Goes (OnLogs core.inner.config v) m m' → Lawful m → Lawful m' → GroupStands core m'
  logs_Stands goes before after =
      let wide_goes : Goes (OnLogs (wide core).config v) m m' = subst (λ (c : Config). Goes (OnLogs c v) m m') (sym config_is) goes in
      record {
        stands = low_Stands (wide core) (OnLogs (wide core).config v) m m' wide_goes (logs_above (wide core).config (sound_of (wide core) m stands.stands) v) before after stands.stands;
        held = stands.held;
      }

  pub logs_finds : Goes (OnLogs core.inner.config v) m m' → Lawful m → Lawful m' → FindsFrom NoConfiguration m m'
  logs_finds goes before after =
      let wide_goes : Goes (OnLogs (wide core).config v) m m' = subst (λ (c : Config). Goes (OnLogs c v) m m') (sym config_is) goes in
      low_finds (wide core) (OnLogs (wide core).config v) m m' wide_goes (logs_above (wide core).config (sound_of (wide core) m stands.stands) v) before after stands.stands

  pub logs_idle : Goes (OnLogs core.inner.config v) m m' → Lawful m → Lawful m' → GroupFinds core core m m'
  logs_idle goes before after = wide_idle core v m m' stands (subst (λ (c : Config). Goes (OnLogs c v) m m') (sym config_is) goes) (logs_finds goes before after)

  pub maps_idle : Goes (OnMaps core.inner.config v) m m' → FindsFrom NoConfiguration m m' → GroupFinds core core m m'
  maps_idle goes finds = wide_maps_idle core v m m' stands (subst (λ (c : Config). Goes (OnMaps c v) m m') (sym config_is) goes) finds

  pub know_inner : (w : ℕ) (spare : ℕ → ℕ → Bool) (l : Logs) → KnownBy core w spare l m → MapsKnowBy core.inner.config w spare l m
  know_inner w spare l know = subst (λ (c : Config). MapsKnowBy c w spare l m) config_is know

  pub know_wide : (w : ℕ) (spare : ℕ → ℕ → Bool) (l : Logs) → MapsKnowBy core.inner.config w spare l m' → KnownBy core w spare l m'
  know_wide w spare l know = subst (λ (c : Config). MapsKnowBy c w spare l m') (sym config_is) know

  pub inner_others : Goes (OnLogs core.inner.config v) m m' → ((w : ℕ) (l : Logs) → (w ≡ v → ⊥) → VolumeOn core.inner.config w l m → VolumeOn core.inner.config w l m') → OthersOn v core core m m'
  inner_others goes others = record {
    each = λ w l apart on. to_wide w l (others w l apart (to_inner w l on));
    maps = λ w l apart know. know_wide w none_spared l (know_logs core.inner.config inner_sound v m m' goes w none_spared l (know_inner w none_spared l know));
  }

pub others_each : (v : ℕ) (c d : GroupCore) (m m' : Meaning) → EachOn c d m m' → OthersOn v c d m m'
others_each v c d m m' on = record { each = λ w l apart was. on.each w l was; maps = λ w l apart know. on.maps w none_spared l know }

pub others_then : (v : ℕ) (c d e : GroupCore) (m m1 m2 : Meaning) → OthersOn v c d m m1 → OthersOn v d e m1 m2 → OthersOn v c e m m2
others_then v c d e m m1 m2 one two = record { each = λ w l apart on. two.each w l apart (one.each w l apart on); maps = λ w l apart know. two.maps w l apart (one.maps w l apart know) }

-- ---- a write

module _ (c d : GroupCore) (v block : ℕ) (bytes : List ℕ) (m m' : Meaning) (stands : GroupStands c m) (fits : Fits (inner_meaning (wide c) m) v block (length bytes))
    (acts : PlexActs (OnPlexes (wide c).config v block (length bytes / 512) bytes) (wide c).config (wide d).config m m') where
  within : (k : ℕ) → InRun block (length bytes / 512) k → Inside (wide c).config v k
  within k run = record { volume = fits.exists; within = omega (arith, run.last, fits.within) }

  -- a block of a plex that gets a value is one of the run
  pub put_at : (w p b : ℕ) (x : List ℕ) → HasBlock (wide c).config w p b → OnPlexes (wide c).config v block (length bytes / 512) bytes (place (wide c).config w p b).0 (place (wide c).config w p b).1 x → (w ≡ v) × InRun block (length bytes / 512) b
  put_at w p b x has put =
      let one = (sound_apart (wide c).config (sound_of (wide c) m stands.stands)).one w p b v put.plex put.put.number has (has_of (wide c).config v put.plex put.put.number put.is_on (within put.put.number put.put.run)) (sym put.put.at) in
      (one.0, subst (λ (k : ℕ). InRun block (length bytes / 512) k) (sym one.2) put.put.run)

  pub write_others : OthersOn v c d m m'
  write_others = record {
    each = λ w l apart on. on_acts (OnPlexes (wide c).config v block (length bytes / 512) bytes) (wide c).config (wide d).config (sound_of (wide c) m stands.stands) w l m m' (fit_of (wide c) m stands.stands) acts
        (spares_other (wide c).config (sound_of (wide c) m stands.stands) v block (length bytes / 512) bytes within w l apart) on;
    maps = λ w l apart know. know_acts (OnPlexes (wide c).config v block (length bytes / 512) bytes) (wide c).config (wide d).config (sound_of (wide c) m stands.stands) w none_spared l m m' acts (λ p b x has put. apart (put_at w p b x has put).0) know;
  }

  pub write_here : (l : Logs) → MayWrite c v (first_region block) (last_region block (length bytes / 512)) l → LogOn c v l m → LogOn d v l m'
  write_here l may on = on_acts (OnPlexes (wide c).config v block (length bytes / 512) bytes) (wide c).config (wide d).config (sound_of (wide c) m stands.stands) v l m m' (fit_of (wide c) m stands.stands) acts
      (spares_marked (wide c).config (sound_of (wide c) m stands.stands) v block (length bytes / 512) bytes within l may.some may.held) on

-- ---- plexes that are alike

-- behind calls that write no block of the group
pub alike_goes : (c d : GroupCore) (v : ℕ) (m m' : Meaning) → Goes Nothing (inner_meaning (wide c) m) (inner_meaning (wide d) m') → AllAlike (wide c).config v m → AllAlike (wide d).config v m'
alike_goes c d v m m' goes alike = record { one = λ b x y off one two. alike.one b x y refl (back b x one) (back b y two) }
  where
    back : (b : ℕ) (x : List ℕ) → OnSome (wide d).config m'.leaves v b x → OnSome (wide c).config m.leaves v b x
    back b x is = elim (goes.leaves v b x (inl is)) [
      | inl (inl some) ↦ some
      | inl (inr out) ↦ absurd (out.outside (record { volume = omega (arith, is.inside.volume, goes.units); within = omega (arith, is.inside.within, goes.size v) }))
      | inr none ↦ absurd none
    ]

-- ---- a flush

-- what was flushed has one value behind a crash where it read as one
pub flushed_alike : (c d : GroupCore) (v : ℕ) (m m' : Meaning) → PlexActs Nothing (wide c).config (wide d).config m m' → Flushed v (inner_meaning (wide c) m) (inner_meaning (wide d) m') → ReadsOne (wide c).config v m → AllAlike (wide d).config v m'
flushed_alike c d v m m' acts flushed reads = record { one = λ b x y off one two. reads.one b x y (back b x one) (back b y two) }
  where
    back : (b : ℕ) (x : List ℕ) → OnSome (wide d).config m'.leaves v b x → OnSome (wide c).config m.reads v b x
    back b x is = elim (flushed.each b x (inl is)) [
      | inl some ↦ some
      | inr out ↦ absurd (out.outside (inside_same (wide d).config (wide c).config acts.shape v b is.inside))
    ]

pub flushed_then : (v : ℕ) (a b c : Meaning) → Flushed v a b → Goes Nothing b c → Flushed v a c
flushed_then v a b c flushed goes = record { each = λ k x left. flushed.each k x (⊎_elim (λ was. was) (λ none. absurd none) (goes.leaves v k x left)) }

-- what was written is read still
pub wrote_nothing : (unit block : ℕ) (bytes : List ℕ) (a b c : Meaning) → Wrote unit block bytes a b → Goes Nothing b c → (IsTrue c.down → ⊥) → Wrote unit block bytes a c
wrote_nothing unit block bytes a b c wrote goes up = record {
  each = λ u k x is. elim (goes.reads u k x is) [
    | inl (inl was) ↦ wrote.each u k x was
    | inl (inr none) ↦ absurd none
    | inr down ↦ absurd (up down)
  ];
}

-- a log stands where that of missed regions is in memory no more
pub drop_map : (core : GroupCore) (v : ℕ) (l : Logs) (m : Meaning) → LogOn core v l m → LogOn core v (record { drl = l.drl; fmr = None }) m
drop_map core v l m on = record {
  fits = record { drl = on.fits.drl; fmr = λ f is. absurd (let clash : None ≡ Some f = is in cc) };
  stands = record { drl = on.stands.drl; fmr = λ f is. absurd (let clash : None ≡ Some f = is in cc) };
  memory = record { so = on.memory.so };
  disk = on.disk;
}

-- marks in a row
pub only_then : (n n' first last : ℕ) (l k j : Logs) → n' ≡ n → MarksOnly n first last l k → MarksOnly n' first last k j → MarksOnly n first last l j
only_then n n' first last l k j same one two = record {
  each = λ r lt is. elim (two.each r (omega (arith, lt, same)) is) [ inl was ↦ one.each r lt was | inr now ↦ inr now ];
}

-- a refusal, whatever an Ok would answer
pub cause_to : (T U : Type 0) (v : ℕ) (error : ShelfError) (a c : Meaning) → Cause {T = T} a c v (Err error) → Cause {T = U} a c v (Err error)
cause_to T U v (Fault disk) a c cause = cause
cause_to T U v Down a c down = down

-- a run of blocks fits on behind calls that changed nothing
pub fits_later : (c d : GroupCore) (v block n : ℕ) (m m' : Meaning) → Goes Nothing (inner_meaning (wide c) m) (inner_meaning (wide d) m') → Fits (inner_meaning (wide c) m) v block n → Fits (inner_meaning (wide d) m') v block n
fits_later c d v block n m m' goes fits = record {
  exists = omega (arith, fits.exists, goes.units);
  some = fits.some;
  whole = fits.whole;
  within = omega (arith, fits.within, goes.size v);
}

-- ---- an answer that is turned

-- ---- the regions that a log has

pub same_only : (n first last : ℕ) (l : Logs) → MarksOnly n first last l l
same_only n first last l = record { each = λ r lt is. inl is }

pub same_fewer : (n : ℕ) (l : Logs) → MarksFewer n l l
same_fewer n l = record { each = λ r lt is. is }

-- a volume has as many regions behind calls that change nothing, by the configuration in memory where no plex is held back
pub same_regions : (c d : GroupCore) (v : ℕ) (m m' : Meaning) → d.held ≡ None → Goes Nothing (inner_meaning (wide c) m) (inner_meaning (wide d) m') → regions_in (blocks_of d.inner.config.volumes v) ≡ regions_in (blocks_of (wide c).config.volumes v)
same_regions c d v m m' none goes = ap (λ (i : Inner). regions_in (blocks_of i.config.volumes v)) (sym (wide_none d none)) ∙ ap regions_in (goes.size v)

-- a volume without blocks has none
pub no_regions : (c d : GroupCore) (v blocks : ℕ) (l : Logs) (m m' : Meaning) → d.held ≡ None → Goes Nothing (inner_meaning (wide c) m) (inner_meaning (wide d) m') → blocks ≡ blocks_of d.inner.config.volumes v → blocks ≡ 0 → NoMarks (regions_in (blocks_of (wide c).config.volumes v)) l
no_regions c d v blocks l m m' none goes is zero = record {
  each = λ r lt.
      let same : blocks_of d.inner.config.volumes v ≡ blocks_of (wide c).config.volumes v = ap (λ (i : Inner). blocks_of i.config.volumes v) (sym (wide_none d none)) ∙ goes.size v in
      absurd (omega (arith, lt, same, is, zero));
}

pub if_ok_any : {T E : Type 0} {P : T → Type 0} (r : Result T E) → ((x : T) → P x) → IfOk r P
if_ok_any (Ok x) f = f x
if_ok_any (Err error) f = tt

pub if_err_any : {T E P : Type 0} (r : Result T E) → P → IfErr r (λ e. P)
if_err_any (Ok x) p = tt
if_err_any (Err error) p = p
