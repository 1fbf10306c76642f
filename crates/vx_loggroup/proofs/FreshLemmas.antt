-- Volumes of which a crash leaves one value of each block, beside calls; and logs that begin.
use Rattle.std.proofs.Common.{◌≡◌, ◌∙◌, inl, inr, ℕ, ◌<◌, ◌≤◌, Bool, true, false, IsTrue, Option, Some, None, List, refl, sym, ap, subst, arith}
use Rattle.std.specs.Prelude.{◌&&◌, ◌||◌, Result, Ok, Err, is_some, not, slice_get}
use Rattle.std.proofs.Math.ListN.{set}
use Rattle.std.proofs.lemmas.Bool.{cases_eq}
use Rattle.std.proofs.lemmas.List.{length-set}
use Rattle.std.proofs.lemmas.Option.{slice_get_within}
use Rattle.vx_config.specs.Checks.{blocks_of}
use Rattle.vx_config.specs.declared.config.Config.{Config}
use Rattle.vx_disk.specs.Shelf.{Goes, Meaning, Nothing, Values}
use Rattle.vx_disk.proofs.Runs.{then_nothing}
use Rattle.vx_drl.specs.Dirty.{Dirty}
use Rattle.vx_kept.specs.Groups.{OnSome, group_meaning}
use Rattle.vx_group.specs.Attaches.{region_count}
use Rattle.vx_group.specs.Holding.{GroupStands, wide}
use Rattle.vx_group.specs.Stands.{inner_meaning}
use Rattle.vx_group.specs.declared.group_core.GroupCore.{GroupCore}
use Rattle.vx_group.proofs.FindingLemmas.{still_group, then_group}
use Rattle.vx_group.proofs.HoldLemmas.{wide_shape}
use Rattle.vx_group.proofs.LoseLemmas.{along_none, then_along}
use Rattle.vx_group.proofs.MendLemmas.{same_Goes}
use Rattle.vx_group.proofs.UnitLemmas.{same_units, then_units}
use Rattle.vx_grouplogs.specs.Covering.{AllAlike}
use Rattle.vx_grouplogs.specs.Marking.{MarksOnly, NoMarks, dirty_or, logs_dirty}
use Rattle.vx_groupmaps.proofs.KnowLemmas.{note_same}
use Rattle.vx_logged.proofs.RefuseLemmas.{stale_kept}
use Rattle.vx_logged.proofs.StandLemmas.{others_then, same_only}
use Rattle.vx_logs.specs.Held.{stale}
use Rattle.vx_logs.specs.declared.logs.Logs.{Logs}
use Rattle.vx_model.specs.Sizes.{regions_of}
use Rattle.vx_volume.specs.Plexes.{active, Inside}
use Rattle.vx_loggroup.specs.Fresh.{LogsStart, FirstLogs, FreshStands, LogsFirst}
use Rattle.vx_loggroup.specs.LoggedVolumes.{is_alike}
use Rattle.vx_loggroup.specs.Marks.{MarksVolume, NotesMaps, RunsMaps}
use Rattle.vx_logged.specs.Begun.{begun_in, begun_refused, fell_in}
use Rattle.vx_logged.proofs.BeginLemmas.{but_note}
use Rattle.vx_logged.proofs.FallenLemmas.{run_less}
use Rattle.vx_loggroup.proofs.SetLemmas.{item_at, set_here, set_other}

-- ---- volumes that are fresh

-- of a volume of which nothing was written a crash leaves one value still
pub alike_apart : (W : Values) (c d : GroupCore) (v : ℕ) (m m' : Meaning) → Goes W (inner_meaning (wide c) m) (inner_meaning (wide d) m') → ((b : ℕ) (x : List ℕ) → W v b x → ⊥) → AllAlike (wide c).config v m → AllAlike (wide d).config v m'
alike_apart W c d v m m' goes off alike = record { one = λ b x y clear one two. alike.one b x y refl (back b x one) (back b y two) }
  where
    back : (b : ℕ) (x : List ℕ) → OnSome (wide d).config m'.leaves v b x → OnSome (wide c).config m.leaves v b x
    back b x is = elim (goes.leaves v b x (inl is)) [
      | inl (inl some) ↦ some
      | inl (inr out) ↦ absurd (out.outside (record { volume = omega (arith, is.inside.volume, goes.units); within = omega (arith, is.inside.within, goes.size v) }))
      | inr put ↦ absurd (off b x put)
    ]

clash : (b : Bool) → b ≡ false → b ≡ true → ⊥
clash b off is = let one : false ≡ true = sym off ∙ is in cc

-- a call that writes to no volume
pub fresh_still : (c d : GroupCore) (f : List Bool) (m m' : Meaning) → Goes Nothing (inner_meaning (wide c) m) (inner_meaning (wide d) m') → FreshStands c f m → FreshStands d f m'
fresh_still c d f m m' goes fresh = record { each = λ v is. alike_apart Nothing c d v m m' goes (λ b x none. none) (fresh.each v is) }

-- one that writes to a volume that is fresh no more
pub fresh_goes : (W : Values) (v : ℕ) (c d : GroupCore) (f f' : List Bool) (m m' : Meaning) → Goes W (inner_meaning (wide c) m) (inner_meaning (wide d) m') → ((w b : ℕ) (x : List ℕ) → (w ≡ v → ⊥) → W w b x → ⊥) → is_alike f' v ≡ false
    → ((w : ℕ) → (w ≡ v → ⊥) → is_alike f' w ≡ is_alike f w) → FreshStands c f m → FreshStands d f' m'
fresh_goes W v c d f f' m m' goes off here others fresh = record {
  each = λ w is. elim (cases_eq w v) [
    | inl same ↦ absurd (clash (is_alike f' v) here (ap (is_alike f') (sym same) ∙ is))
    | inr apart ↦ alike_apart W c d w m m' goes (λ b x put. off w b x apart put) (fresh.each w (sym (others w apart) ∙ is))
  ];
}

-- one is fresh no more
pub fresh_taken : (v : ℕ) (c : GroupCore) (f f' : List Bool) (m : Meaning) → is_alike f' v ≡ false → ((w : ℕ) → (w ≡ v → ⊥) → is_alike f' w ≡ is_alike f w) → FreshStands c f m → FreshStands c f' m
fresh_taken v c f f' m here others fresh = record {
  each = λ w is. elim (cases_eq w v) [
    | inl same ↦ absurd (clash (is_alike f' v) here (ap (is_alike f') (sym same) ∙ is))
    | inr apart ↦ fresh.each w (sym (others w apart) ∙ is)
  ];
}

-- ---- counts of volumes that rose

pub counted_Goes : (c : Config) (f f' : ℕ → ℕ) (m : Meaning) → ((u : ℕ) → f u ≤ f' u) → Goes Nothing (group_meaning c f m) (group_meaning c f' m)
counted_Goes c f f' m more =
    let same = same_Goes (group_meaning c f m) in
    record {
      units = same.units;
      size = same.size;
      tells = same.tells;
      reads = same.reads;
      leaves = same.leaves;
      later = same.later;
      since = same.since;
      keeps = same.keeps;
      faults = more;
      disk_faults = same.disk_faults;
      falls = same.falls;
      unarmed = same.unarmed;
      safe = same.safe;
    }

-- ---- logs that begin, in a row

pub begins_none : (v : ℕ) (c : GroupCore) (m : Meaning) → LogsStart v c c m m
begins_none v c m = record {
  goes = same_Goes (inner_meaning (wide c) m);
  loses = along_none c.inner.config m;
  finds = still_group c m;
  trusts = record { each = λ w log told. told };
  still = λ w p. refl;
  on = λ w p is. is;
  units = same_units m;
  others = record { each = λ w l apart on. on; maps = λ w l apart know. know };
}

pub begins_then : (v : ℕ) (c d e : GroupCore) (m0 m1 m2 : Meaning) → LogsStart v c d m0 m1 → LogsStart v d e m1 m2 → LogsStart v c e m0 m2
begins_then v c d e m0 m1 m2 one two = record {
  goes = then_nothing Nothing (inner_meaning (wide c) m0) (inner_meaning (wide d) m1) (inner_meaning (wide e) m2) one.goes two.goes;
  loses = then_along c.inner.config d.inner.config e.inner.config m0 m1 m2 one.loses two.loses;
  finds = then_group c d e m0 m1 m2 one.finds two.finds;
  trusts = record { each = λ w log told. two.trusts.each w log (one.trusts.each w log told) };
  still = λ w p. two.still w p ∙ one.still w p;
  on = λ w p is. one.on w p (two.on w p is);
  units = then_units m0 m1 m2 one.units two.units;
  others = others_then v c d e m0 m1 m2 one.others two.others;
}

none_marked : (n : ℕ) (l : Logs) → l.drl ≡ None → NoMarks n l
none_marked n l none = record { each = λ r lt. ap (λ (o : Option Dirty). dirty_or o r) none }

pub first_none : (n : ℕ) (l : Logs) → FirstLogs n l l
first_none n l = record { drl = λ d is. is; fmr = λ f is. is; off = none_marked n l }

-- a log that is as it was has what it had
same_marked : (n : ℕ) (k j : Logs) (d : Dirty) → k.drl ≡ Some d → j.drl ≡ Some d → NoMarks n k → NoMarks n j
same_marked n k j d one two off = record { each = λ r lt. ap (λ (o : Option Dirty). dirty_or o r) (two ∙ sym one) ∙ off.each r lt }

pub first_then : (n n' : ℕ) (l k j : Logs) → n' ≡ n → FirstLogs n l k → FirstLogs n' k j → FirstLogs n l j
first_then n n' l k j same one two = record {
  drl = λ d is. two.drl d (one.drl d is);
  fmr = λ f is. two.fmr f (one.fmr f is);
  off = λ none. by k.drl refl (one.off none);
}
  where
    by : (o : Option Dirty) → k.drl ≡ o → NoMarks n k → NoMarks n j
    by None is off = subst (λ (x : ℕ). NoMarks x j) same (two.off is)
    by (Some d) is off = same_marked n k j d is (two.drl d is) off

-- logs of which none was in memory
pub first_begun : (n : ℕ) (l k : Logs) → l.drl ≡ None → l.fmr ≡ None → NoMarks n k → FirstLogs n l k
first_begun n l k none gone off = record {
  drl = λ d is. absurd (let no_one : None ≡ Some d = sym none ∙ is in cc);
  fmr = λ f is. absurd (let no_one : None ≡ Some f = sym gone ∙ is in cc);
  off = λ is. off;
}

-- maps that were not
pub first_mapped : (n : ℕ) (l k : Logs) → l.fmr ≡ None → k.drl ≡ l.drl → FirstLogs n l k
first_mapped n l k gone same = record {
  drl = λ d is. same ∙ is;
  fmr = λ f is. absurd (let no_one : None ≡ Some f = sym gone ∙ is in cc);
  off = λ is. none_marked n k (same ∙ is);
}

-- ---- calls behind it

-- what a log has then is of the run, or it had it before
pub first_marks : (n first last : ℕ) (l k j : Logs) → FirstLogs n l k → MarksOnly n first last k j → MarksOnly n first last l j
first_marks n first last l k j one two = record { each = λ r lt is. elim (two.each r lt is) [ inl was ↦ inl (by l.drl refl r lt was) | inr now ↦ inr now ] }
  where
    by : (o : Option Dirty) → l.drl ≡ o → (r : ℕ) → r < n → logs_dirty k r ≡ true → logs_dirty l r ≡ true
    by None is r lt was = absurd (clash (logs_dirty k r) ((one.off is).each r lt) was)
    by (Some d) is r lt was = ap (λ (o : Option Dirty). dirty_or o r) (is ∙ sym (one.drl d is)) ∙ was

pub lists_none : (v n : ℕ) (ls : List Logs) → LogsFirst v n ls ls
lists_none v n ls = record {
  many = refl;
  here = λ l k one two. let same : l ≡ k = same_some (slice_get ls v) l k one two in subst (FirstLogs n l) same (first_none n l);
  others = λ w apart. refl;
}
  where
    same_some : (o : Option Logs) (l k : Logs) → o ≡ Some l → o ≡ Some k → l ≡ k
    same_some o l k one two = let both : Some l ≡ Some k = sym one ∙ two in cc

pub lists_set : (v n n' : ℕ) (ls : List Logs) (l k : Logs) → slice_get ls v ≡ Some l → n' ≡ n → FirstLogs n' l k → LogsFirst v n ls (set ls v k)
lists_set v n n' ls l k is same first = record {
  many = length-set ls v k;
  here = λ x y was now.
      let old : l ≡ x = (let both : Some l ≡ Some x = sym is ∙ was in cc) in
      subst (λ (z : Logs). FirstLogs n x z) (set_here ls v k y now) (subst (λ (z : Logs). FirstLogs n z k) old (subst (λ (r : ℕ). FirstLogs r l k) same first));
  others = λ w apart. set_other ls v k w apart;
}

-- ---- writes behind it

-- an item that is there still
kept_item : (v n : ℕ) (ls ks : List Logs) (l : Logs) → LogsFirst v n ls ks → slice_get ls v ≡ Some l → (k : Logs) × (slice_get ks v ≡ Some k)
kept_item v n ls ks l first is = item_at ks v (let low = slice_get_within ls v l is in let many = first.many in omega (arith, low, many))

-- marks of a write
pub lists_marks : (c d : Config) (v first last : ℕ) (ls ks js : List Logs) → blocks_of d.volumes v ≡ blocks_of c.volumes v → LogsFirst v (region_count c v) ls ks → MarksVolume d v first last ks js → MarksVolume c v first last ls js
lists_marks c d v first last ls ks js size one two = record {
  here = λ l j was now.
      let k = kept_item v (region_count c v) ls ks l one was in
      first_marks (region_count c v) first last l k.0 j (one.here l k.0 was k.1) (subst (λ (n : ℕ). MarksOnly n first last k.0 j) (ap regions_of size) (two.here k.0 j k.1 now));
  others = λ w apart. two.others w apart ∙ one.others w apart;
}

-- none is made
pub lists_only : (c : Config) (v first last : ℕ) (ls ks : List Logs) → LogsFirst v (region_count c v) ls ks → MarksVolume c v first last ls ks
lists_only c v first last ls ks one = record {
  here = λ l k was now. first_marks (region_count c v) first last l k k (one.here l k was now) (same_only (region_count c v) first last k);
  others = one.others;
}

-- notes of a write
pub lists_notes : (fell fall those : ℕ → Bool) (v n first last : ℕ) (ls ks js : List Logs) → ((p : ℕ) → fell p ≡ fall p) → LogsFirst v n ls ks → NotesMaps fell those v first last ks js → NotesMaps fall those v first last ls js
lists_notes fell fall those v n first last ls ks js same one two = record {
  here = λ l j f h was now has gets.
      let k = kept_item v n ls ks l one was in
      let it = two.here k.0 j f h k.1 now ((one.here l k.0 was k.1).fmr f has) gets in
      record { shape = it.shape; stay = λ p r lt low off on. it.stay p r lt low (same p ∙ off) on; only = it.only };
}

pub lists_same : (fell those : ℕ → Bool) (v n first last : ℕ) (ls ks : List Logs) → LogsFirst v n ls ks → NotesMaps fell those v first last ls ks
lists_same fell those v n first last ls ks one = record {
  here = λ l k f h was now has gets. (but_note fell those first last k k (note_same those first last k k refl)).each f h ((one.here l k was now).fmr f has) gets;
}

-- the same plexes fell since logs began
pub fell_first : (c d e : GroupCore) (v : ℕ) → ((w p : ℕ) → active d.inner.config w p ≡ active c.inner.config w p) → (p : ℕ) → fell_in d e v p ≡ fell_in c e v p
fell_first c d e v still p = ap (λ (t : Bool). t && not (active e.inner.config v p)) (still v p)

-- so those whose maps a write may begin are the same
pub begun_first : {T E : Type 0} → (c d e : GroupCore) (v : ℕ) (s : Bool) (r : Result T E) → ((w p : ℕ) → active d.inner.config w p ≡ active c.inner.config w p) → (p : ℕ) → begun_in d e v s r p ≡ begun_in c e v s r p
begun_first c d e v s (Ok x) still p = fell_first c d e v still p
begun_first c d e v s (Err x) still p = ap (λ (t : Bool). t || (s && active d.inner.config v p)) (fell_first c d e v still p) ∙ ap (λ (t : Bool). fell_in c e v p || (s && t)) (still v p)

-- they are those of a write that is sure less often, and more
pub begun_more : (c d : GroupCore) (v : ℕ) (s a : Bool) → (s ≡ true → a ≡ true) → (p : ℕ) → begun_refused c d v s p ≡ true → begun_refused c d v a p ≡ true
begun_more c d v s a more p on = by s a (active c.inner.config v p) (fell_in c d v p) more on
  where
    by : (s a t f : Bool) → (s ≡ true → a ≡ true) → f || (s && t) ≡ true → f || (a && t) ≡ true
    by s a t true more on = refl
    by true a t false more on = ap (λ (x : Bool). x && t) (more refl) ∙ on
    by false a t false more on = absurd (let clash : false ≡ true = on in cc)

pub runs_same : (fell fall : ℕ → Bool) (v first last : ℕ) (ls : List Logs) → ((p : ℕ) → fell p ≡ fall p) → RunsMaps fell v first last ls → RunsMaps fall v first last ls
runs_same fell fall v first last ls same runs = record { here = λ l is. run_less fall fell first last l (λ p on. same p ∙ on) (runs.here l is) }

-- ---- the plexes behind it

-- one that was STALE is so
pub begins_stale : (b c : GroupCore) (v : ℕ) (m m' : Meaning) → GroupStands c m' → LogsStart v b c m m' → Inside (wide b).config v 0 → (p : ℕ) → IsTrue (stale (wide b).config v p) → IsTrue (stale (wide c).config v p)
begins_stale b c v m m' stands begins inside =
    stale_kept b c v m' stands ((wide_shape c).frames v ∙ begins.loses.loses.frames v ∙ sym ((wide_shape b).frames v)) (begins.goes.size v) (begins.on v) inside

-- ---- tests

pub none_of : {A : Type 0} (o : Option A) → is_some o ≡ false → o ≡ None
none_of None is = refl
none_of (Some x) is = absurd (let clash : true ≡ false = is in cc)
