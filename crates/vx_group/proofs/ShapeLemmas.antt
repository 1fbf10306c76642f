-- A volume that may be made.
use Rattle.std.proofs.Common.{◌≡◌, inl, inr, ℕ, ◌+◌, ◌-◌, ◌<◌, ◌≤◌, ◌^◌, Bool, true, false, Option, Some, None, List, [], ◌∷◌, ◌++◌, length, refl, ap, ◌∙◌, arith}
use Rattle.std.specs.Prelude.{◌&&◌, ◌||◌, ◌==◌, not, nat_le, nat_lt, if◌then◌else◌, is_some, slice_get}
use Rattle.std.specs.List.{list_all, list_any}
use Rattle.std.specs.Str.{bytes_eq}
use Rattle.std.proofs.lemmas.Bool.{and_parts, both_ways, cases_lt, eq-eqb, eqb-true, le-leb, leb-true, lt-ltb, not-false, or_parts}
use Rattle.vx_model.specs.declared.limits.TheConstants.{MOST_COLUMNS, MOST_PLEXES, MOST_VOLUMES}
use Rattle.vx_model.specs.declared.no.No.{No}
use Rattle.vx_config.specs.Checks.{differ, log_runs}
use Rattle.vx_config.specs.Table.{greatest}
use Rattle.vx_config.specs.declared.config.Config.{Config}
use Rattle.vx_config.specs.declared.entry.DiskEntry.{DiskEntry}
use Rattle.vx_config.specs.declared.entry.LogEntry.{LogEntry}
use Rattle.vx_config.specs.declared.entry.Subdisk.{Subdisk}
use Rattle.vx_config.specs.declared.entry.VolumeEntry.{VolumeEntry}
use Rattle.vx_config.specs.declared.entry.VolumeLog.{VolumeLog}
use Rattle.vx_config.specs.declared.entry.VolumeLog.TheVariants.{Drl, Fmr}
use Rattle.vx_layout.specs.Space.{AreLogs, IsShape}
use Rattle.vx_layout.specs.declared.shape.Shape.{Shape}
use Rattle.vx_group.specs.Dets.{margin}
use Rattle.vx_maplog.specs.Logs.{log_in, used_or}
use Rattle.vx_group.specs.Makes.{has_name, is_shape, lost_log, make_refusal}

none_of : (a b d e f : Bool) (n1 n2 n3 n4 n5 : No) → (if a then Some n1 else (if b then Some n2 else (if d then Some n3 else (if e then Some n4 else (if f then Some n5 else None))))) ≡ None
    → (a ≡ false) × (b ≡ false) × (d ≡ false) × (e ≡ false) × (f ≡ false)
none_of true b d e f n1 n2 n3 n4 n5 is = absurd (let clash : Some n1 ≡ None = is in cc)
none_of false true d e f n1 n2 n3 n4 n5 is = absurd (let clash : Some n2 ≡ None = is in cc)
none_of false false true e f n1 n2 n3 n4 n5 is = absurd (let clash : Some n3 ≡ None = is in cc)
none_of false false false true f n1 n2 n3 n4 n5 is = absurd (let clash : Some n4 ≡ None = is in cc)
none_of false false false false true n1 n2 n3 n4 n5 is = absurd (let clash : Some n5 ≡ None = is in cc)
none_of false false false false false n1 n2 n3 n4 n5 is = (refl, refl, refl, refl, refl)

or_right : (a b : Bool) → not a || b ≡ true → a ≡ true → b ≡ true
or_right true b is on = is
or_right false b is on = absurd (let clash : false ≡ true = on in cc)

-- none of the refusals holds
pub record MayMake (c : Config) (name : List ℕ) (want : Shape) : Type 0 where
  pub fresh : list_any (has_name name) c.volumes ≡ false
  pub room : length c.volumes < MOST_VOLUMES
  pub serial : c.serial < greatest
  pub left : c.serial + 9 < greatest
  pub shape : want.width < 2 ^ 32 → IsShape want
  pub blocks : want.blocks ≤ 2 ^ 40

shape_of : (want : Shape) → want.mirrors ≤ MOST_PLEXES → want.width < 2 ^ 32 → is_shape want ≡ true → IsShape want
shape_of want plexes width is =
    let five = and_parts (nat_le 1 want.blocks && nat_le want.blocks (2 ^ 40) && nat_le 1 want.mirrors && nat_le 1 want.ncol && nat_le want.ncol MOST_COLUMNS) (not (want.width == 0) || want.ncol == 1) is in
    let four = and_parts (nat_le 1 want.blocks && nat_le want.blocks (2 ^ 40) && nat_le 1 want.mirrors && nat_le 1 want.ncol) (nat_le want.ncol MOST_COLUMNS) five.0 in
    let three = and_parts (nat_le 1 want.blocks && nat_le want.blocks (2 ^ 40) && nat_le 1 want.mirrors) (nat_le 1 want.ncol) four.0 in
    let two = and_parts (nat_le 1 want.blocks && nat_le want.blocks (2 ^ 40)) (nat_le 1 want.mirrors) three.0 in
    let one = and_parts (nat_le 1 want.blocks) (nat_le want.blocks (2 ^ 40)) two.0 in
    record {
      some = leb-true 1 want.blocks one.0;
      few = leb-true want.blocks (2 ^ 40) one.1;
      mirrors = leb-true 1 want.mirrors two.1;
      plexes = plexes;
      columns = leb-true 1 want.ncol three.1;
      ncol = leb-true want.ncol MOST_COLUMNS four.1;
      one = λ none. eqb-true want.ncol 1 (or_right (want.width == 0) (want.ncol == 1) five.1 (eq-eqb want.width 0 none));
      width = width;
    }

few_blocks : (want : Shape) → is_shape want ≡ true → want.blocks ≤ 2 ^ 40
few_blocks want is =
    let five = and_parts (nat_le 1 want.blocks && nat_le want.blocks (2 ^ 40) && nat_le 1 want.mirrors && nat_le 1 want.ncol && nat_le want.ncol MOST_COLUMNS) (not (want.width == 0) || want.ncol == 1) is in
    let four = and_parts (nat_le 1 want.blocks && nat_le want.blocks (2 ^ 40) && nat_le 1 want.mirrors && nat_le 1 want.ncol) (nat_le want.ncol MOST_COLUMNS) five.0 in
    let three = and_parts (nat_le 1 want.blocks && nat_le want.blocks (2 ^ 40) && nat_le 1 want.mirrors) (nat_le 1 want.ncol) four.0 in
    let two = and_parts (nat_le 1 want.blocks && nat_le want.blocks (2 ^ 40)) (nat_le 1 want.mirrors) three.0 in
    leb-true want.blocks (2 ^ 40) (and_parts (nat_le 1 want.blocks) (nat_le want.blocks (2 ^ 40)) two.0).1

module _ (c : Config) (name : List ℕ) (want : Shape) (may : make_refusal c name want ≡ None) where
  parts : (list_any (has_name name) c.volumes ≡ false) × (nat_le MOST_VOLUMES (length c.volumes) ≡ false) × (nat_lt MOST_PLEXES want.mirrors ≡ false) × (nat_lt (greatest - margin) c.serial ≡ false) × (not (is_shape want) ≡ false)
  parts = none_of (list_any (has_name name) c.volumes) (nat_le MOST_VOLUMES (length c.volumes)) (nat_lt MOST_PLEXES want.mirrors) (nat_lt (greatest - margin) c.serial) (not (is_shape want)) _ _ _ _ _ may

  few_plexes : want.mirrors ≤ MOST_PLEXES
  few_plexes = elim (cases_lt MOST_PLEXES want.mirrors) [
    | inl lt ↦ absurd (both_ways (nat_lt MOST_PLEXES want.mirrors) parts.2 (lt-ltb MOST_PLEXES want.mirrors lt))
    | inr le ↦ le
  ]

  pub may_make : MayMake c name want
  may_make = record {
    fresh = parts.0;
    room = elim (cases_lt (length c.volumes) MOST_VOLUMES) [
      | inl lt ↦ lt
      | inr le ↦ absurd (both_ways (nat_le MOST_VOLUMES (length c.volumes)) parts.1 (le-leb MOST_VOLUMES (length c.volumes) le))
    ];
    serial = elim (cases_lt (greatest - margin) c.serial) [
      | inl lt ↦ absurd (both_ways (nat_lt (greatest - margin) c.serial) parts.3 (lt-ltb (greatest - margin) c.serial lt))
      | inr le ↦ omega (arith, le)
    ];
    left = elim (cases_lt (greatest - margin) c.serial) [
      | inl lt ↦ absurd (both_ways (nat_lt (greatest - margin) c.serial) parts.3 (lt-ltb (greatest - margin) c.serial lt))
      | inr le ↦ omega (arith, le)
    ];
    shape = λ width. shape_of want few_plexes width (not-false (is_shape want) parts.4);
    blocks = few_blocks want (not-false (is_shape want) parts.4);
  }

-- no volume has the name
pub fresh_name : (name : List ℕ) (v : VolumeEntry) → v.name ≡ name → (vs : List VolumeEntry) → list_any (has_name name) vs ≡ false → list_all (λ u. differ u v) vs ≡ true
fresh_name name v is [] none = refl
fresh_name name v is (u ∷ vs) none =
    let two = or_parts (has_name name u) (list_any (has_name name) vs) none in
    let here : differ u v ≡ true = ap (λ (n : List ℕ). not (bytes_eq u.name n)) is ∙ ap not two.0 in
    rw here (fresh_name name v is vs two.1)

-- ---- logs

pub log_long : (want : Shape) (used : List Subdisk) (disks : List DiskEntry) (a b : Bool) (logs : List Subdisk) → AreLogs want used disks a b logs → length logs ≡ (if a then 1 else 0) + (if b then 1 else 0)
log_long want used disks false false logs is = ap length is
log_long want used disks true false logs is = ap length is.1
log_long want used disks false true logs is = ap length is.1
log_long want used disks true true logs is = ap length is.2

abbrev pub drl_is : Bool → List Subdisk → Option LogEntry
drl_is a logs = if a then lost_log (slice_get logs 0) else None

abbrev pub fmr_is : Bool → Bool → List Subdisk → Option LogEntry
fmr_is a b logs = if b then lost_log (slice_get logs (if a then 1 else 0)) else None

pub logs_are : (a b : Bool) (logs : List Subdisk) → length logs ≡ (if a then 1 else 0) + (if b then 1 else 0)
    → (is_some (drl_is a logs) ≡ a) × (is_some (fmr_is a b logs) ≡ b) × (log_runs (drl_is a logs) ++ log_runs (fmr_is a b logs) ≡ logs)
logs_are false false [] long = (refl, refl, refl)
logs_are false false (x ∷ xs) long = absurd (omega (arith, long))
logs_are true false [] long = absurd (omega (arith, long))
logs_are true false (x ∷ []) long = (refl, refl, refl)
logs_are true false (x ∷ (y ∷ xs)) long = absurd (omega (arith, long))
logs_are false true [] long = absurd (omega (arith, long))
logs_are false true (x ∷ []) long = (refl, refl, refl)
logs_are false true (x ∷ (y ∷ xs)) long = absurd (omega (arith, long))
logs_are true true [] long = absurd (omega (arith, long))
logs_are true true (x ∷ []) long = absurd (omega (arith, long))
logs_are true true (x ∷ (y ∷ [])) long = (refl, refl, refl)
logs_are true true (x ∷ (y ∷ (z ∷ xs))) long = absurd (omega (arith, long))

pub logs_made : (a b : Bool) (logs : List Subdisk) (drl fmr : Option LogEntry) → length logs ≡ (if a then 1 else 0) + (if b then 1 else 0) → drl ≡ drl_is a logs → fmr ≡ fmr_is a b logs
    → (is_some drl ≡ a) × (is_some fmr ≡ b) × (log_runs drl ++ log_runs fmr ≡ logs)
logs_made a b logs drl fmr long one two = rw one (rw two (logs_are a b logs long))

-- the logs of a new volume are held as lost
lost_none : (o : Option Subdisk) → used_or (lost_log o) ≡ false
lost_none None = refl
lost_none (Some s) = refl

pub logs_lost : (v : VolumeEntry) → used_or v.drl ≡ false → used_or v.fmr ≡ false → (log : VolumeLog) → used_or (log_in log v) ≡ false
logs_lost v drl fmr Drl = drl
logs_lost v drl fmr Fmr = fmr

pub drl_lost : (a : Bool) (logs : List Subdisk) → used_or (drl_is a logs) ≡ false
drl_lost true logs = lost_none (slice_get logs 0)
drl_lost false logs = refl

pub fmr_lost : (a b : Bool) (logs : List Subdisk) → used_or (fmr_is a b logs) ≡ false
fmr_lost a true logs = lost_none (slice_get logs (if a then 1 else 0))
fmr_lost a false logs = refl
