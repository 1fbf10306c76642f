-- The plex that an image goes by takes part.
use Rattle.std.proofs.Common.{Bool, IsTrue, List, None, Option, Some, [], ap, arith, false, length, refl, suc, sym, true, zero, ℕ, ◌<◌, ◌∙◌, ◌∷◌, ◌≡◌}
use Rattle.std.specs.Prelude.{◌&&◌, ◌||◌, slice_get, if◌then◌else◌}
use Rattle.std.specs.List.{list_any}
use Rattle.vx_model.proofs.Tests.{and_left}
use Rattle.vx_copyfmt.specs.Imports.{Found, first_of, missing, or_missing, settle}
use Rattle.vx_config.specs.Checks.{blocks_of, is_live}
use Rattle.vx_config.specs.declared.config.Config.{Config}
use Rattle.vx_config.specs.declared.entry.DiskEntry.{DiskEntry}
use Rattle.vx_config.specs.declared.entry.PlexEntry.{PlexEntry}
use Rattle.vx_config.specs.declared.entry.VolumeEntry.{VolumeEntry}
use Rattle.vx_copies.specs.Bodies.{failed_in}
use Rattle.vx_kept.specs.Choice.{chosen, chosen_or, first_plex, first_where, is_whole, live, live_or}
use Rattle.vx_layout.specs.Places.{place, place_or, plex_in}
use Rattle.vx_volume.specs.Plexes.{active, active_or}
use Rattle.vx_kept.specs.Keeping.{Extends, SameShape, frame_or, frame_at}
use Rattle.vx_kept.proofs.RunLemmas.{logs_volumes, none_live, none_trusted, run_same, trust_from, trust_same}

-- ---- where every disk can be read, none is missing

none_missing : (failed : ℕ → Bool) (n : ℕ) → missing failed (λ u. true) n ≡ None
none_missing failed zero = refl
none_missing failed (suc n) = rw (none_missing failed n) (by (failed n))
  where
    by : (b : Bool) → first_of None (if b || true then None else Some n) ≡ None
    by true = refl
    by false = refl

pub settle_all : (units : ℕ) (c : Config) → settle failed_in units (λ u. true) c ≡ Found c
settle_all units c = ap (or_missing c) (none_missing (failed_in c) units)

pub settle_found : (units : ℕ) (R : ℕ → Bool) (c x : Config) → settle failed_in units R c ≡ Found x → c ≡ x
settle_found units R c x is = by (missing (failed_in c) R units) is
  where
    by : (o : Option ℕ) → or_missing c o ≡ Found x → c ≡ x
    by None is = cc
    by (Some disk) is = absurd cc

-- ---- shapes

pub place_volumes : (x a : Config) → x.volumes ≡ a.volumes → (v p b : ℕ) → place x v p b ≡ place a v p b
unfolding place
place_volumes x a volumes v p b = ap (λ vs. place_or (slice_get vs v) p b) volumes

pub active_volumes : (x a : Config) → x.volumes ≡ a.volumes → (v p : ℕ) → active x v p ≡ active a v p
unfolding active
active_volumes x a volumes v p = ap (λ vs. active_or (plex_in (slice_get vs v) p)) volumes

pub live_volumes : (x a : Config) → x.volumes ≡ a.volumes → (v p : ℕ) → live x v p ≡ live a v p
unfolding live
live_volumes x a volumes v p = ap (λ vs. live_or (plex_in (slice_get vs v) p)) volumes

pub frames_volumes : (x a : Config) → x.volumes ≡ a.volumes → (v : ℕ) → frame_at x v ≡ frame_at a v
frames_volumes x a volumes v = ap (λ vs. frame_or (slice_get vs v)) volumes

pub alike_shape : (x a c : Config) → x.volumes ≡ a.volumes → SameShape a c → SameShape x c
alike_shape x a c volumes shape = record {
  volumes = ap length volumes ∙ shape.volumes;
  frames = λ v. frames_volumes x a volumes v ∙ shape.frames v;
  blocks = λ v. ap (λ vs. blocks_of vs v) volumes ∙ shape.blocks v;
  place = λ v p b. place_volumes x a volumes v p b ∙ shape.place v p b;
  logs = λ v log. run_same x a v v log (logs_volumes x a volumes v log) ∙ shape.logs v log;
  trusted = λ v log is. shape.trusted v log (trust_from x a v v log (logs_volumes x a volumes v log) is);
}

pub alike_extends : (x a c : Config) → x.volumes ≡ a.volumes → Extends a c → Extends x c
alike_extends x a c volumes shape = record {
  volumes = let le = shape.volumes in omega (arith, ap length volumes, le);
  frames = λ v lt. frames_volumes x a volumes v ∙ shape.frames v lt;
  blocks = λ v lt. ap (λ vs. blocks_of vs v) volumes ∙ shape.blocks v lt;
  place = λ v p b lt. place_volumes x a volumes v p b ∙ shape.place v p b lt;
  logs = λ v log lt. run_same x a v v log (logs_volumes x a volumes v log) ∙ shape.logs v log lt;
  trusted = λ v log lt is. shape.trusted v log lt (trust_from x a v v log (logs_volumes x a volumes v log) is);
  beyond = λ v log past. trust_same x a v v log (logs_volumes x a volumes v log) ∙ shape.beyond v log past;
  fresh = λ v p past is. active_volumes x a volumes v p ∙ shape.fresh v p past (sym (live_volumes x a volumes v p) ∙ is);
}

pub same_extends : (x c : Config) → SameShape x c → Extends x c
same_extends x c same = record {
  volumes = let is = same.volumes in omega (arith, is);
  frames = λ v lt. same.frames v;
  blocks = λ v lt. same.blocks v;
  place = λ v p b lt. same.place v p b;
  logs = λ v log lt. same.logs v log;
  trusted = λ v log lt. same.trusted v log;
  beyond = λ v log past. none_trusted x v log (let is = same.volumes in omega (arith, is, past));
  fresh = λ v p past is. absurd (let clash : false ≡ true = sym (none_live x v p (let count = same.volumes in omega (arith, count, past))) ∙ is in cc);
}

-- the volumes of memory are the same
pub extends_volumes : (x c e : Config) → e.volumes ≡ c.volumes → Extends x c → Extends x e
extends_volumes x c e volumes shape = record {
  volumes = let le = shape.volumes in omega (arith, ap length volumes, le);
  frames = λ v lt. shape.frames v (omega (arith, ap length volumes, lt)) ∙ sym (frames_volumes e c volumes v);
  blocks = λ v lt. shape.blocks v (omega (arith, ap length volumes, lt)) ∙ ap (λ vs. blocks_of vs v) (sym volumes);
  place = λ v p b lt. shape.place v p b (omega (arith, ap length volumes, lt)) ∙ sym (place_volumes e c volumes v p b);
  logs = λ v log lt. shape.logs v log (omega (arith, ap length volumes, lt)) ∙ sym (run_same e c v v log (logs_volumes e c volumes v log));
  trusted = λ v log lt is. trust_from c e v v log (sym (logs_volumes e c volumes v log)) (shape.trusted v log (omega (arith, ap length volumes, lt)) is);
  beyond = λ v log past. shape.beyond v log (omega (arith, ap length volumes, past));
  fresh = λ v p past is. shape.fresh v p (omega (arith, ap length volumes, past)) is;
}

-- so are they by their shape
pub extends_shape : (x d c : Config) → Extends x d → SameShape d c → Extends x c
extends_shape x d c more same = record {
  volumes = let le = more.volumes in let is = same.volumes in omega (arith, le, is);
  frames = λ v lt. more.frames v (there v lt) ∙ same.frames v;
  blocks = λ v lt. more.blocks v (there v lt) ∙ same.blocks v;
  place = λ v p b lt. more.place v p b (there v lt) ∙ same.place v p b;
  logs = λ v log lt. more.logs v log (there v lt) ∙ same.logs v log;
  trusted = λ v log lt is. same.trusted v log (more.trusted v log (there v lt) is);
  beyond = λ v log past. more.beyond v log (let is = same.volumes in omega (arith, is, past));
  fresh = λ v p past on. more.fresh v p (let is = same.volumes in omega (arith, is, past)) on;
}
  where
    there : (v : ℕ) → v < length c.volumes → v < length d.volumes
    there v lt = let is = same.volumes in omega (arith, is, lt)

-- ---- the first that passes

abbrev Passes : (PlexEntry → Bool) → List PlexEntry → Type 0
Passes test ps = (p : PlexEntry) × (slice_get ps (first_where test ps) ≡ Some p) × (test p ≡ true)

first_passes : (test : PlexEntry → Bool) (ps : List PlexEntry) → list_any test ps ≡ true → Passes test ps
first_passes test [] is = absurd cc
first_passes test (p ∷ ps) is = by (test p) refl (λ some. first_passes test ps some)
  where
    by : (b : Bool) → test p ≡ b → (list_any test ps ≡ true → Passes test ps) → Passes test (p ∷ ps)
    by true passes rest = rw passes (p, refl, passes)
    by false fails rest = let it = rest (sym (ap (λ (b : Bool). b || list_any test ps) fails) ∙ is) in rw fails it

pub any_at : (test : PlexEntry → Bool) (ps : List PlexEntry) (k : ℕ) (p : PlexEntry) → slice_get ps k ≡ Some p → test p ≡ true → list_any test ps ≡ true
any_at test [] k p at passes = absurd cc
any_at test (q ∷ ps) zero p at passes = let same : q ≡ p = cc in let is : test q ≡ true = ap test same ∙ passes in rw is refl
any_at test (q ∷ ps) (suc k) p at passes = by (test q) (any_at test ps k p at passes)
  where
    by : (b : Bool) → list_any test ps ≡ true → b || list_any test ps ≡ true
    by true rest = refl
    by false rest = rest

pub first_live : (disks : List DiskEntry) (ps : List PlexEntry) → list_any is_live ps ≡ true → (p : PlexEntry) × (slice_get ps (first_plex disks ps) ≡ Some p) × (is_live p ≡ true)
first_live disks ps some = by (list_any (λ p. is_live p && is_whole disks p) ps) refl
  where
    by : (b : Bool) → list_any (λ p. is_live p && is_whole disks p) ps ≡ b → (p : PlexEntry) × (slice_get ps (first_plex disks ps) ≡ Some p) × (is_live p ≡ true)
    by true is = let it = first_passes (λ p. is_live p && is_whole disks p) ps is in rw is (it.0, it.1, and_left (is_live it.0) (is_whole disks it.0) it.2)
    by false is = rw is (first_passes is_live ps some)

live_in : (disks : List DiskEntry) (o : Option VolumeEntry) (p : ℕ) → IsTrue (live_or (plex_in o p)) → IsTrue (live_or (plex_in o (chosen_or disks o)))
live_in disks None p is = absurd cc
live_in disks (Some v) p is = by (slice_get v.plexes p) refl is
  where
    by : (o : Option PlexEntry) → slice_get v.plexes p ≡ o → IsTrue (live_or o) → IsTrue (live_or (slice_get v.plexes (first_plex disks v.plexes)))
    by None at is = absurd cc
    by (Some q) at is = let it = first_live disks v.plexes (any_at is_live v.plexes p q at is) in rw it.1 it.2

-- where some plex of the volume takes part in a, the one that x goes by takes part in a
pub chosen_live : (x a : Config) (v p : ℕ) → x.volumes ≡ a.volumes → IsTrue (live a v p) → IsTrue (live a v (chosen x v))
unfolding live chosen
chosen_live x a v p volumes is = rw volumes (live_in x.disks (slice_get a.volumes v) p is)
