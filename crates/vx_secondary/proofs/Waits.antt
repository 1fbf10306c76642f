-- Updates that wait behind a receiver's group, as the first of them are logged.
use Rattle.std.proofs.Common.{◌≡◌, ◌∙◌, ◌⊎◌, inl, inr, ⊎_elim, ℕ, zero, suc, ◌+◌, ◌<◌, ◌≤◌, true, List, [], ◌∷◌, ◌++◌, length, take, drop, Some, None, refl, sym, ap, subst, arith, length-append, length-drop, drop-drop}
use Rattle.std.specs.Prelude.{slice_get, min}
use Rattle.std.proofs.lemmas.Bool.{cases_lt, le-leb}
use Rattle.std.proofs.lemmas.List.{map-append, length-map, take_all}
use Rattle.vx_model.specs.Content.{Write, blocks_in, is_within}
use Rattle.vx_model.specs.declared.call.Update.{Update}
use Rattle.vx_model.specs.declared.limits.TheConstants.{MOST_WAITING}
use Rattle.vx_model.specs.declared.no.No.{No}
use Rattle.vx_model.specs.declared.state.State.{State as SiteState}
use Rattle.vx_disk.specs.Shelf.{Meaning}
use Rattle.vx_rvg.specs.Contents.{write_of_update}
use Rattle.vx_rvg.specs.Holdings.{Holding}
use Rattle.vx_rvg.specs.Stands.{Stands}
use Rattle.vx_rvg.specs.Views.{Core, last_of, unit_of}
use Rattle.vx_secondary.specs.Logging.{SameGroup, Step, LogsAll, EndsLogging, EndsAfter}
use Rattle.vx_secondary.specs.Receivers.{Wait, can_log, writes_of_updates}
use Rattle.vx_secondary.proofs.Steps.{step_self, step_then, step_more, logs_self, logs_then}
use Rattle.vx_secondary.specs.Overs.{AreWithin}
use Rattle.vx_secondary.proofs.Writings.{can_parts, can_same, ends_later}

-- ---- lists

get_drop : (n k : ℕ) (us : List Update) → slice_get (drop n us) k ≡ slice_get us (n + k)
get_drop zero k us = ap (λ (j : ℕ). slice_get us j) (let e : k ≡ 0 + k = omega arith in e)
get_drop (suc n) k [] = none k (suc n + k) where
  none : (i j : ℕ) → slice_get {X = Update} [] i ≡ slice_get [] j
  none i j = refl
get_drop (suc n) k (u ∷ us) = get_drop n k us ∙ ap (λ (j : ℕ). slice_get (u ∷ us) j) (let e : suc (n + k) ≡ suc n + k = omega arith in e)

take_next : (n : ℕ) (us : List Update) (u : Update) → slice_get us n ≡ Some u → take (suc n) us ≡ take n us ++ u ∷ []
take_next zero (v ∷ us) u is = let same : v ≡ u = cc in ap (λ (w : Update). w ∷ []) same
take_next (suc n) (v ∷ us) u is = ap (λ (ws : List Update). v ∷ ws) (take_next n us u is)
take_next zero [] u is = cc
take_next (suc n) [] u is = cc

get_last : (us : List Update) (u v : Update) (k : ℕ) → slice_get (us ++ u ∷ []) k ≡ Some v → (slice_get us k ≡ Some v) ⊎ ((k ≡ length us) × (v ≡ u))
get_last [] u v zero is = inr (refl, let same : v ≡ u = cc in same)
get_last [] u v (suc k) is = cc
get_last (w ∷ us) u v zero is = inl is
get_last (w ∷ us) u v (suc k) is = ⊎_elim (λ one. inl one) (λ two. inr (ap suc two.0, two.1)) (get_last us u v k is)

there : (n : ℕ) (us : List Update) → n < length us → (u : Update) × (slice_get us n ≡ Some u)
there zero [] low = absurd (omega (arith, low))
there (suc n) [] low = absurd (omega (arith, low))
there zero (u ∷ us) low = (u, refl)
there (suc n) (u ∷ us) low = there n us (omega (arith, low))

-- ---- what waits

pub wait_moved : (n : ℕ) (c d : Core) (one two : ℕ → ℕ) (us : List Update) → Wait c one us → SameGroup c d → last_of d ≡ last_of c + n → ((v : ℕ) → two v ≡ one v) → Wait d two (drop n us)
wait_moved n c d one two us wait same last sizes = record {
  few = omega (arith, wait.few, length-drop n us);
  line = λ k u is. wait.line (n + k) u (sym (get_drop n k us) ∙ is) ∙ sym (ap (λ (s : SiteState). s.line) same.state);
  number = λ k u is. omega (arith, wait.number (n + k) u (sym (get_drop n k us) ∙ is), last);
  fits = λ k u is. can_same c d one two u same sizes (wait.fits (n + k) u (sym (get_drop n k us) ∙ is));
}

pub wait_pushed : (c : Core) (size : ℕ → ℕ) (us : List Update) (u : Update) → Wait c size us → u.line ≡ c.log.header.state.line → u.number ≡ last_of c + length us + 1 → length us < MOST_WAITING
    → can_log c size u ≡ true → Wait c size (us ++ u ∷ [])
wait_pushed c size us u wait line number room can = record {
  few = omega (arith, room, length-append us (u ∷ []));
  line = λ k v is. ⊎_elim (λ was. wait.line k v was) (λ now. ap (λ (w : Update). w.line) now.1 ∙ line) (get_last us u v k is);
  number = λ k v is. ⊎_elim (λ was. wait.number k v was) (λ now. omega (arith, ap (λ (w : Update). w.number) now.1, number, now.0)) (get_last us u v k is);
  fits = λ k v is. ⊎_elim (λ was. wait.fits k v was) (λ now. ap (λ (w : Update). can_log c size w) now.1 ∙ can) (get_last us u v k is);
}

-- ---- the loop

-- so many of the updates are logged
pub record LoggedTo (us : List Update) (n : ℕ) (c d : Core) (m mid : Meaning) (waiting : List Update) : Type 0 where
  pub left : waiting ≡ drop n us
  pub step : Step (writes_of_updates (take n us)) c d m mid
  pub logs : LogsAll (writes_of_updates (take n us)) c d m mid
  pub waits : Wait d mid.size waiting
  pub few : n ≤ length us

pub logged_none : (us : List Update) (c : Core) (m : Meaning) → c.halted ≡ None → Wait c m.size us → LoggedTo us 0 c c m m us
logged_none us c m running waits = record { left = refl; step = step_self [] c m; logs = logs_self c m running; waits = waits; few = omega arith }

writes_next : (n : ℕ) (us : List Update) (u : Update) → slice_get us n ≡ Some u → writes_of_updates (take (n + 1) us) ≡ writes_of_updates (take n us) ++ write_of_update u ∷ []
writes_next n us u is =
    ap (λ (k : ℕ). writes_of_updates (take k us)) (let e : n + 1 ≡ suc n = omega arith in e) ∙ ap (λ (ws : List Update). writes_of_updates ws) (take_next n us u is) ∙ map-append write_of_update (take n us) (u ∷ [])

taken : (n : ℕ) (us : List Update) → n ≤ length us → length (take n us) ≡ n
taken zero us le = refl
taken (suc n) [] le = absurd (omega (arith, le))
taken (suc n) (v ∷ vs) le = ap suc (taken n vs (omega (arith, le)))

pub count_taken : (n : ℕ) (us : List Update) → n ≤ length us → length (writes_of_updates (take n us)) ≡ n
count_taken n us le = length-map (take n us) write_of_update ∙ taken n us le

module _ (us : List Update) (n count : ℕ) (c d e : Core) (m mid m' : Meaning) (waiting : List Update) (u : Update) (at : LoggedTo us n c d m mid waiting) (front : Some u ≡ slice_get waiting 0)
    (step : Step (write_of_update u ∷ []) d e mid m') (low : n < count) (some : count ≤ length us) where
  here : slice_get us n ≡ Some u
  here = subst (λ (k : ℕ). slice_get us k ≡ Some u) (let e : n + 0 ≡ n = omega arith in e) (sym (get_drop n 0 us) ∙ ap (λ (ws : List Update). slice_get ws 0) (sym at.left) ∙ sym front)

  next_step : Step (writes_of_updates (take (n + 1) us)) c e m m'
  next_step = subst (λ (xs : List Write). Step xs c e m m') (sym (writes_next n us u here)) (step_then (writes_of_updates (take n us)) (write_of_update u ∷ []) c d e m mid m' at.step at.logs step)

  pub fits_next : can_log d mid.size u ≡ true
  fits_next = at.waits.fits 0 u (sym front)

  -- all of them, of which these are the first
  all_step : Step (writes_of_updates (take count us)) c e m m'
  all_step =
      subst (λ (xs : List Write). Step xs c e m m') (sym (map-append write_of_update (take (suc n) us) (drop (suc n) (take count us))) ∙ ap (λ (ws : List Update). writes_of_updates ws) (both n count us low))
      (step_more (writes_of_updates (take (suc n) us)) (writes_of_updates (drop (suc n) (take count us))) c e m m' (subst (λ (k : ℕ). Step (writes_of_updates (take k us)) c e m m') (let e : n + 1 ≡ suc n = omega arith in e) next_step))
    where
      both : (n count : ℕ) (us : List Update) → n < count → take (suc n) us ++ drop (suc n) (take count us) ≡ take count us
      both n zero us low = absurd (omega (arith, low))
      both n (suc k) [] low = refl
      both zero (suc k) (v ∷ vs) low = refl
      both (suc n) (suc k) (v ∷ vs) low = ap (λ (ws : List Update). v ∷ ws) (both n k vs (omega (arith, low)))

  pub next_ends : (w : No) → EndsLogging 0 d e mid m' w → EndsAfter count us waiting c e m m' w
  next_ends w ends = (
    n,
    (
      omega (arith, low),
      (
        at.left,
        subst (λ (k : ℕ). EndsLogging k c e m m' w) (let e : length (writes_of_updates (take n us)) + 0 ≡ n = omega (arith, counted) in e)
            (ends_later (length (writes_of_updates (take n us))) 0 c d e m mid m' w at.logs.last at.step.moves.disk_faults ends),
      ),
    ),
  )
    where
      counted : length (writes_of_updates (take n us)) ≡ n
      counted = count_taken n us at.few

  pub all_steps : Step (writes_of_updates (take count us)) c e m m'
  all_steps = all_step

  -- what waits, where it is not logged
  pub stopped_waits : last_of e ≡ last_of d + 0 → Wait e m'.size waiting
  stopped_waits last = wait_moved 0 d e mid.size m'.size waiting at.waits step.same last step.moves.size

  pub logged_next : LogsAll (write_of_update u ∷ []) d e mid m' → (left : List Update) → left ≡ drop 1 waiting → LoggedTo us (n + 1) c e m m' left
  logged_next logs left is = record {
    left = is ∙ ap (λ (ws : List Update). drop 1 ws) at.left ∙ drop-drop 1 n us;
    step = next_step;
    logs = subst (λ (xs : List Write). LogsAll xs c e m m') (sym (writes_next n us u here)) (logs_then (writes_of_updates (take n us)) (write_of_update u ∷ []) c d e m mid m' at.logs logs);
    waits = subst (λ (ws : List Update). Wait e m'.size ws) (sym is) (wait_moved 1 d e mid.size m'.size waiting at.waits step.same logs.last step.moves.size);
    few = omega (arith, low, some);
  }

-- one more of them is there
pub front_there : (us : List Update) (n count : ℕ) (c d : Core) (m mid : Meaning) (waiting : List Update) → LoggedTo us n c d m mid waiting → n < count → count ≤ length us → None ≡ slice_get waiting 0 → ⊥
front_there us n count c d m mid waiting at low some none =
    let one = there n us (omega (arith, low, some)) in
    let got : slice_get waiting 0 ≡ slice_get us (n + 0) = ap (λ (ws : List Update). slice_get ws 0) at.left ∙ get_drop n 0 us in
    let same : slice_get us (n + 0) ≡ Some one.0 = subst (λ (k : ℕ). slice_get us k ≡ Some one.0) (let e : n ≡ n + 0 = omega arith in e) one.1 in
    let wrong : None ≡ Some one.0 = none ∙ got ∙ same in
    cc

-- ---- as many as there are

-- the first of them, where fewer are there than were asked for
pub first_of_few : (count k : ℕ) (us : List Update) → (k ≡ count) ⊎ ((k ≡ length us) × (length us ≤ count)) → take k us ≡ take count us
first_of_few count k us (inl is) = ap (λ (n : ℕ). take n us) is
first_of_few count k us (inr is) = ap (λ (n : ℕ). take n us) is.0 ∙ take_all (length us) us (omega arith) ∙ sym (take_all count us is.1)

pub rest_of_few : (count k : ℕ) (us : List Update) → (k ≡ count) ⊎ ((k ≡ length us) × (length us ≤ count)) → drop k us ≡ drop count us
rest_of_few count k us (inl is) = ap (λ (n : ℕ). drop n us) is
rest_of_few count k us (inr is) = none k us (omega (arith, is.0)) ∙ sym (none count us is.1) where
  none : (n : ℕ) (us : List Update) → length us ≤ n → drop n us ≡ []
  none zero [] le = refl
  none zero (v ∷ vs) le = absurd (omega (arith, le))
  none (suc n) [] le = refl
  none (suc n) (v ∷ vs) le = none n vs (omega (arith, le))

-- by the two tests of the call
pub few_are : (count few k long : ℕ) → few ≡ min count MOST_WAITING → k ≡ min few long → long ≤ MOST_WAITING → (k ≡ count) ⊎ ((k ≡ long) × (long ≤ count))
few_are count few k long one two le =
    ⊎_elim
    (λ (lt : count < long). inl (two ∙ ap (λ (n : ℕ). min n long) one ∙ both lt))
    (λ (ge : long ≤ count). inr (two ∙ ap (λ (n : ℕ). min n long) one ∙ past ge, ge))
    (cases_lt count long)
  where
    both : count < long → min (min count MOST_WAITING) long ≡ count
    both lt = omega (arith, lt, le)

    past : long ≤ count → min (min count MOST_WAITING) long ≡ long
    past ge = omega (arith, ge, le)

-- ---- what waits lies within the volumes

pub get_map : (us : List Update) (k : ℕ) (x : Write) → slice_get (writes_of_updates us) k ≡ Some x → (u : Update) × ((slice_get us k ≡ Some u) × (write_of_update u ≡ x))
get_map [] k x is = cc
get_map (u ∷ us) zero x is = (u, (refl, let same : write_of_update u ≡ x = cc in same))
get_map (u ∷ us) (suc k) x is = get_map us k x is

pub map_get : (us : List Update) (k : ℕ) (u : Update) → slice_get us k ≡ Some u → slice_get (writes_of_updates us) k ≡ Some (write_of_update u)
map_get [] k u is = cc
map_get (v ∷ us) zero u is = let same : v ≡ u = cc in ap (λ (w : Update). Some (write_of_update w)) same
map_get (v ∷ us) (suc k) u is = map_get us k u is

pub waits_within : (c : Core) (h : Holding) (m : Meaning) (us : List Update) → Stands c h m → Wait c m.size us → AreWithin h.content (writes_of_updates us)
waits_within c h m us stands wait k x is =
    let got = get_map us k x is in
    let can = can_parts c m.size got.0 (wait.fits k got.0 got.1.0) in
    let size : h.content.size got.0.vol ≡ m.size (unit_of c.units.vols got.0.vol) = stands.ready.sizes.each got.0.vol can.0 in
    let within : is_within h.content (write_of_update got.0) ≡ true = (let le : got.0.block + blocks_in got.0.bytes ≤ h.content.size got.0.vol = omega (arith, can.1.1, size) in le-leb (got.0.block + blocks_in got.0.bytes) (h.content.size got.0.vol) le) in
    subst (λ (y : Write). is_within h.content y ≡ true) got.1.1 within
