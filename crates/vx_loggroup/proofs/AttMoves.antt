-- What an attach makes of the maps of missed regions in memory.
use Rattle.std.proofs.Common.{◌≡◌, ◌∙◌, ◌<◌, ◌⊎◌, ◌||◌, inl, inr, ℕ, Bool, true, false, IsTrue, Option, Some, None, List, refl, sym, ap, subst, arith}
use Rattle.std.specs.Prelude.{◌&&◌, is_some, not, slice_get, Result, Ok, Err}
use Rattle.vx_config.specs.declared.config.Config.{Config}
use Rattle.vx_config.specs.declared.entry.VolumeLog.TheVariants.{Fmr}
use Rattle.std.proofs.lemmas.Bool.{cases_eq}
use Rattle.std.proofs.lemmas.Option.{slice_get_within}
use Rattle.vx_disk.specs.Shelf.{Meaning}
use Rattle.vx_fmr.specs.Missed.{FmrLoaded, Missed, has_missed}
use Rattle.vx_group.specs.Attaches.{GroupAttachEnds, att_refusal}
use Rattle.vx_group.specs.Holding.{wide}
use Rattle.vx_group.specs.declared.group_core.GroupCore.{GroupCore}
use Rattle.vx_groupmaps.specs.Loading.{on_failed_disk}
use Rattle.vx_logged.specs.Copied.{MapsTake, TakesRow}
use Rattle.vx_logs.specs.declared.logs.Logs.{Logs}
use Rattle.vx_model.specs.declared.errors.Stop.{Stop}
use Rattle.vx_model.specs.declared.errors.Stop.TheVariants.{No as Refused}
use Rattle.vx_model.specs.declared.no.No.{No}
use Rattle.vx_volume.specs.Plexes.{active}
use Rattle.vx_loggroup.specs.Attaching.{MapsFollow, MapsHeld, fmr_at, fmr_or, leaves_maps, maps_gone, went}
use Rattle.vx_loggroup.specs.Moving.{IsThere, MapsAttach, MapsBeginIn, MapsMove, MovesAtt, MovesBy, in_none, missed_by, missed_in, no_volume}
use Rattle.vx_loggroup.proofs.ComesLemmas.{att_comes, held_comes, held_moves}
use Rattle.vx_loggroup.proofs.FreshLemmas.{lists_none}
use Rattle.vx_loggroup.proofs.MovedLemmas.{move_none, same_missed}
use Rattle.vx_loggroup.proofs.NewLemmas.{HasMaps, has_maps, list_same}
use Rattle.vx_loggroup.proofs.SetLemmas.{item_at}
use Rattle.vx_loggroup.proofs.VolumeMoves.{MapFirst}
use Rattle.vx_loggroup.proofs.WroteMoves.{first_maps}

either : (x y : Bool) → (x || y) ≡ false → y ≡ false
either true y is = let clash : true ≡ false = is in cc
either false y is = is

first_off : (x y : Bool) → (x || y) ≡ false → x ≡ false
first_off true y is = let clash : true ≡ false = is in cc
first_off false y is = refl

-- where it changes maps, logs go on
pub going_on : {T E : Type 0} (same stopped gone : Bool) (r : Result T E) → leaves_maps same stopped gone r ≡ false → stopped ≡ false
going_on same stopped gone (Ok x) is = either same stopped is
going_on same stopped gone (Err e) is = either same stopped (first_off (same || stopped) (not gone) is)

-- and the plex is ACTIVE behind it, where it is done
abbrev pub IsOnOk : {T E : Type 0} → Config → ℕ → ℕ → Result T E → Type 0
IsOnOk d vol plex (Ok x) = IsTrue (active d vol plex)
IsOnOk d vol plex (Err e) = Unit {0}

pub attached_on : (r : Result ℕ Stop) (c d : GroupCore) (vol plex : ℕ) (m : Meaning) → ((no : No) → att_refusal c.inner.config vol plex ≡ Some no → r ≡ Err (Refused no))
    → (att_refusal c.inner.config vol plex ≡ None → IsTrue (active c.inner.config vol plex) → d ≡ c) → (active c.inner.config vol plex ≡ false → GroupAttachEnds vol plex d.inner.config m r) → IsOnOk d.inner.config vol plex r
attached_on (Err e) c d vol plex m refused already ends = tt
attached_on (Ok x) c d vol plex m refused already ends = by (active c.inner.config vol plex) refl
  where
    was : (o : Option No) → att_refusal c.inner.config vol plex ≡ o → IsTrue (active c.inner.config vol plex) → IsTrue (active d.inner.config vol plex)
    was None none on = subst (λ (e : GroupCore). IsTrue (active e.inner.config vol plex)) (sym (already none on)) on
    was (Some why) some on = absurd (let clash : Ok x ≡ Err (Refused why) = refused why some in cc)

    by : (b : Bool) → active c.inner.config vol plex ≡ b → IsTrue (active d.inner.config vol plex)
    by true on = was (att_refusal c.inner.config vol plex) refl on
    by false off = (ends off).is_on

module _ (c d : GroupCore) (vol plex : ℕ) (ls ks : List Logs) (follow : MapsFollow c.inner.config vol plex ls ks) where
  -- maps of its volume were there before
  was_there : (l k : Logs) → slice_get ls vol ≡ Some l → slice_get ks vol ≡ Some k → on_failed_disk c.inner.config vol Fmr ≡ false → MapsTake plex follow.from l k
  was_there l k was now good = follow.here good l k was now

  follow_none : (v : ℕ) → on_failed_disk c.inner.config v Fmr ≡ false → fmr_at ls v ≡ None → fmr_at ks v ≡ None
  follow_none v good none = elim (cases_eq v vol) [
    | inl same ↦ by (slice_get ks vol) refl same
    | inr apart ↦ ap fmr_or (follow.same v apart good) ∙ none
  ]
    where
      by : (o : Option Logs) → slice_get ks vol ≡ o → v ≡ vol → fmr_at ks v ≡ None
      by None at same = ap (fmr_at ks) same ∙ ap fmr_or at
      by (Some k) at same =
          let l = item_at ls vol (let low = slice_get_within ks vol k at in let many = follow.many in omega (arith, low, many)) in
          ap (fmr_at ks) same ∙ ap fmr_or at ∙ (was_there l.0 k l.1 at (subst (λ (w : ℕ). on_failed_disk c.inner.config w Fmr ≡ false) same good)).gone (sym (ap fmr_or l.1) ∙ ap (fmr_at ls) (sym same) ∙ none)

  pub follow_comes : (s : Bool) → MapsBeginIn no_volume c.inner.config d.inner.config s s ls ks
  follow_comes = att_comes c.inner.config d.inner.config ls ks follow.gone follow_none

  module _ (fits : (l : Logs) → slice_get ls vol ≡ Some l → (f : Missed) → l.fmr ≡ Some f → FmrLoaded (wide c).config vol f) (on : IsTrue (active d.inner.config vol plex)) where
    -- the map of its volume before
    pub record FollowMap (g : Missed) : Type 0 where
      pub map : Missed
      pub at : fmr_at ls vol ≡ Some map
      pub takes : TakesRow plex follow.from map g
      pub first : MapFirst c.inner.config vol ls map

    follow_map : (g : Missed) → fmr_at ks vol ≡ Some g → FollowMap g
    follow_map g is = by_disk (on_failed_disk c.inner.config vol Fmr) refl
      where
        now : HasMaps ks vol g
        now = has_maps ks vol g is

        old : (l : Logs) × (slice_get ls vol ≡ Some l)
        old = item_at ls vol (let low = slice_get_within ks vol now.logs now.at in let many = follow.many in omega (arith, low, many))

        by_map : on_failed_disk c.inner.config vol Fmr ≡ false → (o : Option Missed) → old.0.fmr ≡ o → FollowMap g
        by_map good None none = absurd (let clash : None ≡ Some g = sym ((was_there old.0 now.logs old.1 now.at good).gone none) ∙ now.has in cc)
        by_map good (Some f) has =
            let at : fmr_at ls vol ≡ Some f = ap fmr_or old.1 ∙ has in
            record {
              map = f;
              at = at;
              takes = (was_there old.0 now.logs old.1 now.at good).each f g has now.has;
              first = first_maps c c d vol 0 ls ls ks (λ w p. refl) refl refl (lists_none vol 0 ls) (list_same c.inner.config vol ls) fits f at;
            }

        by_disk : (x : Bool) → on_failed_disk c.inner.config vol Fmr ≡ x → FollowMap g
        by_disk true failed = absurd (let clash : None ≡ Some g = sym (follow.gone vol failed) ∙ is in cc)
        by_disk false good = by_map good old.0.fmr refl

    -- of other volumes
    as_was : (v : ℕ) → (v ≡ vol → ⊥) → (g : Missed) → fmr_at ks v ≡ Some g → fmr_at ks v ≡ fmr_at ls v
    as_was v apart g at = by (on_failed_disk c.inner.config v Fmr) refl
      where
        by : (x : Bool) → on_failed_disk c.inner.config v Fmr ≡ x → fmr_at ks v ≡ fmr_at ls v
        by true failed = absurd (let clash : None ≡ Some g = sym (follow.gone v failed) ∙ at in cc)
        by false good = ap fmr_or (follow.same v apart good)

    had : (f : Missed) → fmr_at ls vol ≡ Some f → (p r : ℕ) → missed_in ls c.inner.config vol p r ≡ has_missed f p r
    had f at p r = ap (λ (o : Option Missed). missed_by o (active c.inner.config vol p) p r) at

    most_here : (p r : ℕ) (g : Missed) → fmr_at ks vol ≡ Some g → IsThere c.inner.config vol p r → has_missed g p r ≡ true → (missed_in ls c.inner.config vol p r ≡ true) ⊎ ((p ≡ plex) × (missed_in ls c.inner.config vol follow.from r ≡ true))
    most_here p r g at it has =
        let m = follow_map g at in
        let low : p < m.map.plexes = (let plex = it.plex in let few = m.first.plexes in omega (arith, plex, few)) in
        let region : r < m.map.stride = (let lt = it.region in let few = m.first.stride in omega (arith, lt, few)) in
        elim (cases_eq p plex) [
          | inl same ↦ inr (same, had m.map m.at follow.from r ∙ m.takes.only r region (subst (λ (q : ℕ). has_missed g q r ≡ true) same has))
          | inr apart ↦ inl (had m.map m.at p r ∙ sym (m.takes.others.each p r low region apart) ∙ has)
        ]

    stay_here : (p r : ℕ) (g : Missed) → fmr_at ks vol ≡ Some g → IsThere c.inner.config vol p r → active d.inner.config vol p ≡ false → missed_in ls c.inner.config vol p r ≡ true → has_missed g p r ≡ true
    stay_here p r g at it off has =
        let m = follow_map g at in
        let low : p < m.map.plexes = (let plex = it.plex in let few = m.first.plexes in omega (arith, plex, few)) in
        let region : r < m.map.stride = (let lt = it.region in let few = m.first.stride in omega (arith, lt, few)) in
        elim (cases_eq p plex) [
          | inl same ↦ absurd (let clash : true ≡ false = sym on ∙ subst (λ (q : ℕ). active d.inner.config vol q ≡ false) same off in cc)
          | inr apart ↦ m.takes.others.each p r low region apart ∙ sym (had m.map m.at p r) ∙ has
        ]

    pub follow_moves : MapsAttach c.inner.config d.inner.config vol plex ls ks
    follow_moves = record {
      from = follow.from;
      is_on = follow.is_on;
      most = λ v p r g at it has. elim (cases_eq v vol) [
        | inl here ↦ most_at v here p r g at it has
        | inr apart ↦ inl (same_missed c.inner.config ls ks v (as_was v apart g at) p r g at ∙ has)
      ];
      stay = λ v p r g at it was off has. elim (cases_eq v vol) [
        | inl here ↦
            stay_here p r g (subst (λ (w : ℕ). fmr_at ks w ≡ Some g) here at) (subst (λ (w : ℕ). IsThere c.inner.config w p r) here it) (subst (λ (w : ℕ). active d.inner.config w p ≡ false) here off)
            (subst (λ (w : ℕ). missed_in ls c.inner.config w p r ≡ true) here has)
        | inr apart ↦ sym (same_missed c.inner.config ls ks v (as_was v apart g at) p r g at) ∙ has
      ];
    }
      where
        most_at : (v : ℕ) → v ≡ vol → (p r : ℕ) (g : Missed) → fmr_at ks v ≡ Some g → IsThere c.inner.config v p r → has_missed g p r ≡ true
            → (missed_in ls c.inner.config v p r ≡ true) ⊎ ((v ≡ vol) × (p ≡ plex) × (missed_in ls c.inner.config vol follow.from r ≡ true))
        most_at v here p r g at it has = elim (most_here p r g (subst (λ (w : ℕ). fmr_at ks w ≡ Some g) here at) (subst (λ (w : ℕ). IsThere c.inner.config w p r) here it) has) [
          | inl was ↦ inl (subst (λ (w : ℕ). missed_in ls c.inner.config w p r ≡ true) (sym here) was)
          | inr row ↦ inr (here, row.0, row.1)
        ]

-- ---- maps that went in an attach that was refused

gone_none : (same stopped good : Bool) (a b : Option Missed) → (same || stopped) || not (good && (is_some a && not (is_some b))) ≡ false → b ≡ None
gone_none true stopped good a b is = let clash : true ≡ false = is in cc
gone_none false true good a b is = let clash : true ≡ false = is in cc
gone_none false false false a b is = let clash : true ≡ false = is in cc
gone_none false false true None b is = let clash : true ≡ false = is in cc
gone_none false false true (Some f) None is = refl
gone_none false false true (Some f) (Some g) is = let clash : true ≡ false = is in cc

-- each map is as it was, or in memory no more
pub gone_moves : (c d : Config) (vol plex : ℕ) (ls ks : List Logs) → MapsFollow c vol plex ls ks → fmr_at ks vol ≡ None → MapsMove c d in_none in_none ls ks
gone_moves c d vol plex ls ks follow none = move_none c d ls ks (λ v. by v (on_failed_disk c v Fmr) refl)
  where
    by : (v : ℕ) (x : Bool) → on_failed_disk c v Fmr ≡ x → (fmr_at ks v ≡ fmr_at ls v) ⊎ (fmr_at ks v ≡ None)
    by v true failed = inr (follow.gone v failed)
    by v false good = elim (cases_eq v vol) [
      | inl same ↦ inr (ap (fmr_at ks) same ∙ none)
      | inr apart ↦ inl (ap fmr_or (follow.same v apart good))
    ]

-- ---- by whether it leaves the maps as they are

moves_by : (b : Bool) (c d : GroupCore) (vol plex : ℕ) (ls ks : List Logs) → (b ≡ true → MapsHeld c.inner.config ls ks) → (b ≡ false → MapsFollow c.inner.config vol plex ls ks)
    → (b ≡ false → (l : Logs) → slice_get ls vol ≡ Some l → (f : Missed) → l.fmr ≡ Some f → FmrLoaded (wide c).config vol f) → IsTrue (active d.inner.config vol plex) → MovesBy b c.inner.config d.inner.config vol plex ls ks
moves_by true c d vol plex ls ks held follow fits on = held_moves c.inner.config d.inner.config ls ks (held refl)
moves_by false c d vol plex ls ks held follow fits on = follow_moves c d vol plex ls ks (follow refl) (fits refl) on

refused_moves : (same stopped good : Bool) (b : Bool) (c d : Config) (vol plex : ℕ) (ls ks : List Logs) → (same || stopped) || not (good && went ls ks vol) ≡ b → (b ≡ true → MapsHeld c ls ks) → (b ≡ false → MapsFollow c vol plex ls ks) → MapsMove c d in_none in_none ls ks
refused_moves same stopped good true c d vol plex ls ks is held follow = held_moves c d ls ks (held refl)
refused_moves same stopped good false c d vol plex ls ks is held follow = gone_moves c d vol plex ls ks (follow refl) (gone_none same stopped good (fmr_at ls vol) (fmr_at ks vol) is)

pub att_moves : (same stopped : Bool) (r : Result ℕ Stop) (c d : GroupCore) (vol plex : ℕ) (ls ks : List Logs) → (leaves_maps same stopped (maps_gone c.inner.config ls ks vol) r ≡ true → MapsHeld c.inner.config ls ks)
    → (leaves_maps same stopped (maps_gone c.inner.config ls ks vol) r ≡ false → MapsFollow c.inner.config vol plex ls ks)
    → (leaves_maps same stopped (maps_gone c.inner.config ls ks vol) r ≡ false → (l : Logs) → slice_get ls vol ≡ Some l → (f : Missed) → l.fmr ≡ Some f → FmrLoaded (wide c).config vol f) → IsOnOk d.inner.config vol plex r
    → MovesAtt (leaves_maps same stopped (maps_gone c.inner.config ls ks vol) r) c.inner.config d.inner.config vol plex ls ks r
att_moves same stopped (Ok x) c d vol plex ls ks held follow fits on = moves_by (same || stopped) c d vol plex ls ks held follow fits on
att_moves same stopped (Err e) c d vol plex ls ks held follow fits on =
    refused_moves same stopped (not (on_failed_disk c.inner.config vol Fmr)) ((same || stopped) || not (maps_gone c.inner.config ls ks vol)) c.inner.config d.inner.config vol plex ls ks refl held follow

pub att_begins : (b : Bool) (c d : GroupCore) (vol plex : ℕ) (ls ks : List Logs) (s : Bool) → (b ≡ true → MapsHeld c.inner.config ls ks) → (b ≡ false → MapsFollow c.inner.config vol plex ls ks) → MapsBeginIn no_volume c.inner.config d.inner.config s s ls ks
att_begins true c d vol plex ls ks s held follow = held_comes c.inner.config d.inner.config ls ks (held refl) s
att_begins false c d vol plex ls ks s held follow = follow_comes c d vol plex ls ks (follow refl) s
