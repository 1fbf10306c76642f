-- Maps of missed regions that are given up, as their disk is held as failed.
use Rattle.std.proofs.Common.{◌≡◌, ◌∙◌, inl, inr, ℕ, ◌+◌, ◌<◌, ◌≤◌, Bool, true, false, Option, Some, None, List, length, refl, sym, ap, arith}
use Rattle.std.proofs.Math.ListN.{set}
use Rattle.std.proofs.lemmas.Bool.{cases_eq}
use Rattle.std.proofs.lemmas.List.{length-set}
use Rattle.std.proofs.lemmas.Option.{slice_get_within}
use Rattle.std.specs.Prelude.{if◌then◌else◌, nat_le, slice_get}
use Rattle.vx_config.specs.Checks.{plexes_of}
use Rattle.vx_config.specs.declared.config.Config.{Config}
use Rattle.vx_config.specs.declared.entry.VolumeEntry.{VolumeEntry}
use Rattle.vx_config.specs.declared.entry.VolumeLog.TheVariants.{Fmr}
use Rattle.vx_disk.specs.Shelf.{Meaning}
use Rattle.vx_group.specs.Holding.{wide}
use Rattle.vx_group.specs.declared.group_core.GroupCore.{GroupCore}
use Rattle.vx_grouplogs.specs.On.{VolumeOn}
use Rattle.vx_grouplogs.proofs.KnowActs.{know_none}
use Rattle.vx_groupmaps.specs.Loading.{failed_under, on_failed_disk}
use Rattle.vx_groupmaps.specs.Missing.{none_spared}
use Rattle.vx_logs.specs.declared.logs.Logs.{Logs}
use Rattle.vx_maplog.specs.Logs.{log_or}
use Rattle.vx_loggroup.specs.Attaching.{MapHeld, MapsHeld, fmr_at, fmr_or, map_by, map_there}
use Rattle.vx_loggroup.specs.LoggedVolumes.{LoggedStands, VolumeStands, is_alike}
use Rattle.vx_loggroup.proofs.SetLemmas.{item_at, set_each, set_here, set_other}

-- such a volume is there
pub held_there : (c : Config) (v : ℕ) → on_failed_disk c v Fmr ≡ true → v < length c.volumes
held_there c v is = by (slice_get c.volumes v) refl
  where
    by : (o : Option VolumeEntry) → slice_get c.volumes v ≡ o → v < length c.volumes
    by None at = absurd (let clash : true ≡ false = sym is ∙ ap (λ (x : Option VolumeEntry). failed_under c.disks (log_or Fmr x)) at in cc)
    by (Some x) at = slice_get_within c.volumes v x at

-- without its maps a log stands on
drop_on : (c : Config) (v : ℕ) (l k : Logs) (m : Meaning) → k.drl ≡ l.drl → k.fmr ≡ None → VolumeOn c v l m → VolumeOn c v k m
drop_on c v l k m same none on = record {
  fits = record { drl = λ d is. on.fits.drl d (sym same ∙ is); fmr = λ f is. absurd (let clash : None ≡ Some f = sym none ∙ is in cc) };
  stands = record { drl = λ d is. on.stands.drl d (sym same ∙ is); fmr = λ f is. absurd (let clash : None ≡ Some f = sym none ∙ is in cc) };
  memory = record { so = λ d is. on.memory.so d (sym same ∙ is) };
  disk = on.disk;
}

pub drop_stands : (c : GroupCore) (ls : List Logs) (a : List Bool) (s : Bool) (m : Meaning) (v : ℕ) (l k : Logs) → slice_get ls v ≡ Some l → k.drl ≡ l.drl → k.fmr ≡ None → LoggedStands c ls a s m → LoggedStands c (set ls v k) a s m
drop_stands c ls a s m v l k at same none stands = record {
  group = stands.group;
  many = length-set ls v k ∙ stands.many;
  each = set_each ls v k (λ w x. VolumeStands c w x (is_alike a w) s m) (λ w x apart is. stands.each w x is)
      (let was = stands.each v l at in record { on = λ going. drop_on (wide c).config v l k m same none (was.on going); maps = λ going. know_none (wide c).config v none_spared k m none; alike = was.alike });
}

-- nothing is given up
pub held_same : (c : Config) (v : ℕ) (ls : List Logs) → on_failed_disk c v Fmr ≡ false → MapHeld c v ls ls
held_same c v ls off = record {
  many = refl;
  same = λ is. refl;
  gone = λ is. absurd (let clash : true ≡ false = sym is ∙ off in cc);
  drl = λ w l k was now. let both : Some l ≡ Some k = sym was ∙ now in let one : l ≡ k = cc in ap (λ (x : Logs). x.drl) (sym one);
  others = λ w apart. refl;
}

pub held_set : (c : Config) (v : ℕ) (ls : List Logs) (l k : Logs) → slice_get ls v ≡ Some l → on_failed_disk c v Fmr ≡ true → k.drl ≡ l.drl → k.fmr ≡ None → MapHeld c v ls (set ls v k)
held_set c v ls l k at on same none = record {
  many = length-set ls v k;
  same = λ off. absurd (let clash : true ≡ false = sym on ∙ off in cc);
  gone = λ is. here (slice_get (set ls v k) v) refl;
  drl = λ w x y was now. elim (cases_eq w v) [
    | inl is ↦ here_drl w x y is was now
    | inr apart ↦ (held_drl (slice_get ls w) x y was (sym (set_other ls v k w apart) ∙ now))
  ];
  others = λ w apart. set_other ls v k w apart;
}
  where
    here : (o : Option Logs) → slice_get (set ls v k) v ≡ o → fmr_at (set ls v k) v ≡ None
    here None is = ap fmr_or is
    here (Some y) is = ap fmr_or is ∙ ap (λ (z : Logs). z.fmr) (sym (set_here ls v k y is)) ∙ none

    held_drl : (o : Option Logs) (x y : Logs) → o ≡ Some x → o ≡ Some y → y.drl ≡ x.drl
    held_drl o x y one two = let both : Some x ≡ Some y = sym one ∙ two in let is : x ≡ y = cc in ap (λ (z : Logs). z.drl) (sym is)

    here_drl : (w : ℕ) (x y : Logs) → w ≡ v → slice_get ls w ≡ Some x → slice_get (set ls v k) w ≡ Some y → y.drl ≡ x.drl
    here_drl w x y is was now =
        let new : k ≡ y = set_here ls v k y (sym (ap (slice_get (set ls v k)) is) ∙ now) in
        let both : Some l ≡ Some x = sym at ∙ sym (ap (slice_get ls) is) ∙ was in
        let old : l ≡ x = cc in
        ap (λ (z : Logs). z.drl) (sym new) ∙ same ∙ ap (λ (z : Logs). z.drl) old

-- ---- of each volume

-- those of the first volumes were, and the others are as they were
pub record HeldSoFar (c : GroupCore) (a : List Bool) (s : Bool) (ls0 : List Logs) (m : Meaning) (n : ℕ) (ls : List Logs) : Type 0 where
  pub stands : LoggedStands c ls a s m
  pub many : length ls ≡ length ls0
  pub same : (w : ℕ) → on_failed_disk c.inner.config w Fmr ≡ false → slice_get ls w ≡ slice_get ls0 w
  pub gone : (w : ℕ) → w < n → on_failed_disk c.inner.config w Fmr ≡ true → fmr_at ls w ≡ None
  pub drl : (w : ℕ) (l k : Logs) → slice_get ls0 w ≡ Some l → slice_get ls w ≡ Some k → k.drl ≡ l.drl

pub same_drls : (o : Option Logs) (l k : Logs) → o ≡ Some l → o ≡ Some k → k.drl ≡ l.drl
same_drls o l k one two = let both : Some l ≡ Some k = sym one ∙ two in let is : l ≡ k = cc in ap (λ (x : Logs). x.drl) (sym is)

pub none_held : (c : GroupCore) (a : List Bool) (s : Bool) (ls : List Logs) (m : Meaning) → LoggedStands c ls a s m → HeldSoFar c a s ls m 0 ls
none_held c a s ls m stands = record { stands = stands; many = refl; same = λ w off. refl; gone = λ w lt is. absurd (omega (arith, lt)); drl = λ w l k was now. same_drls (slice_get ls w) l k was now }

module _ (c : GroupCore) (a : List Bool) (s : Bool) (ls0 : List Logs) (m : Meaning) (n : ℕ) (ls : List Logs) (was : HeldSoFar c a s ls0 m n ls) where
  pub one_held : (ls' : List Logs) → LoggedStands c ls' a s m → MapHeld c.inner.config n ls ls' → HeldSoFar c a s ls0 m (n + 1) ls'
  one_held ls' stands held = record {
    stands = stands;
    many = held.many ∙ was.many;
    same = λ w off. elim (cases_eq w n) [
      | inl is ↦ ap (λ (x : List Logs). slice_get x w) (held.same (sym (ap (λ (x : ℕ). on_failed_disk c.inner.config x Fmr) is) ∙ off)) ∙ was.same w off
      | inr apart ↦ held.others w apart ∙ was.same w off
    ];
    gone = λ w lt on. elim (cases_eq w n) [
      | inl is ↦ ap (fmr_at ls') is ∙ held.gone (sym (ap (λ (x : ℕ). on_failed_disk c.inner.config x Fmr) is) ∙ on)
      | inr apart ↦ ap fmr_or (held.others w apart) ∙ was.gone w (omega (arith, lt, apart)) on
    ];
    drl = λ w l k old now.
        let low = slice_get_within ls0 w l old in
        let middle = item_at ls w (let long = was.many in omega (arith, low, long)) in
        held.drl w middle.0 k middle.1 now ∙ was.drl w l middle.0 old middle.1;
  }

  pub all_held : length ls ≤ n → MapsHeld c.inner.config ls0 ls
  all_held le = record {
    many = was.many;
    same = was.same;
    gone = λ w on. let lt = held_there c.inner.config w on in let many = was.stands.many in was.gone w (omega (arith, le, lt, many)) on;
    drl = was.drl;
  }

-- what is gone by
pub by_held : (c : Config) (v p : ℕ) (s down : Bool) (old new : List Logs) → MapsHeld c old new → map_there new c s down v p ≡ map_by old c s down v p
by_held c v p s down old new held = by s down (nat_le (plexes_of c v) p) (on_failed_disk c v Fmr) refl
  where
    by : (st dn few bad : Bool) → on_failed_disk c v Fmr ≡ bad → (if st then None else (if dn then None else (if few then None else fmr_at new v))) ≡ (if st then None else (if dn then None else (if few then None else (if bad then None else fmr_at old v))))
    by true dn few bad is = refl
    by false true few bad is = refl
    by false false true bad is = refl
    by false false false true is = held.gone v is
    by false false false false is = ap fmr_or (held.same v is)
