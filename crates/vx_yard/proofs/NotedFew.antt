-- Whatever a site notes as the configuration of its group, it has no more volumes than a group may have.
use Rattle.std.proofs.Common.{◌≡◌, ◌∙◌, ◌≤◌, ℕ, zero, suc, cond, List, [], ◌∷◌, length, ap, sym, refl, arith}
use Rattle.std.specs.Prelude.{◌&&◌, ◌==◌, Option, Ok, Err, nat_le}
use Rattle.std.proofs.lemmas.Bool.{leb-true}
use Rattle.std.proofs.lemmas.List.{length-map}
use Rattle.vx_model.specs.declared.limits.TheConstants.{MOST_DISKS, MOST_VOLUMES}
use Rattle.vx_model.specs.declared.units.Units.{Units}
use Rattle.vx_model.proofs.Tests.{and_right}
use Rattle.vx_history.specs.Groups.{GroupNode}
use Rattle.vx_config.specs.Forms.{Reading, ◌>>=◌, Form, counted, number, optional, pair, read_many, within}
use Rattle.vx_config.specs.Table.{behind_version, config, disk, format_1, greatest, units, volume}
use Rattle.vx_config.specs.declared.config.Config.{Config}
use Rattle.vx_config.specs.declared.entry.DiskEntry.{DiskEntry}
use Rattle.vx_config.specs.declared.entry.VolumeEntry.{VolumeEntry}
use Rattle.vx_config.proofs.FormLaws.{bind_ok, test_ok}
use Rattle.vx_events.specs.GroupViews.{config_of, noted_table, plain_fact, read_front, volumes_of}

abbrev read_as : {A : Type 0} → A × List ℕ → Reading A
read_as x = Ok x

same_read : {A : Type 0} (x y : A × List ℕ) → read_as x ≡ read_as y → x ≡ y
same_read x y e = cc

-- ---- what forms read

many_long : {A : Type 0} (form : Form A) (n : ℕ) (bytes : List ℕ) (x : List A × List ℕ) → read_many form n bytes ≡ Ok x → length x.0 ≡ n
unfolding read_many
many_long {A} form zero bytes x e = let none : List A × List ℕ = ([], bytes) in ap (λ (y : List A × List ℕ). length y.0) (sym (same_read none x e))
many_long {A} form (suc n) bytes x e =
    let one = bind_ok (form.read bytes) (λ a. read_many form n a.1 >>= λ xs. Ok (a.0 ∷ xs.0, xs.1)) x e in
    let more = bind_ok (read_many form n one.0.1) (λ xs. Ok (one.0.0 ∷ xs.0, xs.1)) x one.2 in
    let whole : List A × List ℕ = (one.0.0 ∷ more.0.0, more.0.1) in
    ap (λ (y : List A × List ℕ). length y.0) (sym (same_read whole x more.2)) ∙ ap suc (many_long form n one.0.1 more.0 more.1)

within_few : (w least most : ℕ) (bytes : List ℕ) (n : ℕ × List ℕ) → (within w least most).read bytes ≡ Ok n → n.0 ≤ most
within_few w least most bytes n e =
    let one = bind_ok ((number w).read bytes) (λ (x : ℕ × List ℕ). cond (nat_le least x.0 && nat_le x.0 most) (read_as x) (Err (length bytes))) n e in
    let tested = test_ok (nat_le least one.0.0 && nat_le one.0.0 most) (length bytes) (read_as one.0) n one.2 in
    let few : one.0.0 ≤ most = leb-true one.0.0 most (and_right (nat_le least one.0.0) (nat_le one.0.0 most) tested.0) in
    omega (arith, few, ap (λ (x : ℕ × List ℕ). x.0) (same_read one.0 n tested.1))

counted_few : {A : Type 0} (least most : ℕ) (form : Form A) (bytes : List ℕ) (x : List A × List ℕ) → (counted least most form).read bytes ≡ Ok x → length x.0 ≤ most
counted_few least most form bytes x e =
    let n = bind_ok ((within 1 least most).read bytes) (λ (k : ℕ × List ℕ). read_many form k.0 k.1) x e in
    omega (arith, many_long form n.0.0 n.0.1 x n.2, within_few 1 least most bytes n.0 n.1)

-- the parts of a pair
record ReadsPair {A B : Type 0} (first : Form A) (second : Form B) (bytes : List ℕ) (a : A) (b : B) : Type 0 where
  between : List ℕ
  rest : List ℕ
  one : first.read bytes ≡ Ok (a, between)
  two : second.read between ≡ Ok (b, rest)

pair_reads : {A B : Type 0} (first : Form A) (second : Form B) (bytes : List ℕ) (x : (A × B) × List ℕ) → (pair first second).read bytes ≡ Ok x → ReadsPair first second bytes x.0.0 x.0.1
pair_reads {A} {B} first second bytes x e =
    let a = bind_ok (first.read bytes) (λ a. second.read a.1 >>= λ b. Ok ((a.0, b.0), b.1)) x e in
    let b = bind_ok (second.read a.0.1) (λ b. Ok ((a.0.0, b.0), b.1)) x a.2 in
    let whole : (A × B) × List ℕ = ((a.0.0, b.0.0), b.0.1) in
    let same : whole ≡ x = same_read whole x b.2 in
    record {
      between = a.0.1;
      rest = b.0.1;
      one = a.1 ∙ ap (λ (y : (A × B) × List ℕ). read_as (y.0.0, a.0.1)) same;
      two = b.1 ∙ ap (λ (y : (A × B) × List ℕ). read_as (y.0.1, b.0.1)) same;
    }

-- ---- a configuration

abbrev Parts : Type 0
Parts = ℕ × (ℕ × (List DiskEntry × (List VolumeEntry × Option Units)))

abbrev of_parts : Parts → Config
of_parts p = record { serial = p.0; site = p.1.0; disks = p.1.1.0; volumes = p.1.1.1.0; rvg = p.1.1.1.1 }

few_in : (bytes : List ℕ) (x : Config × List ℕ) → format_1.read bytes ≡ Ok x → length x.0.volumes ≤ MOST_VOLUMES
unfolding format_1
few_in bytes x e =
    let tail : Form (List VolumeEntry × Option Units) = pair (counted 0 MOST_VOLUMES volume) (optional units) in
    let behind : Form (List DiskEntry × (List VolumeEntry × Option Units)) = pair (counted 1 MOST_DISKS disk) tail in
    let behind_site : Form (ℕ × (List DiskEntry × (List VolumeEntry × Option Units))) = pair (number 4) behind in
    let whole : Form Parts = pair (within 8 0 greatest) behind_site in
    let made = bind_ok (whole.read bytes) (λ (p : Parts × List ℕ). read_as (of_parts p.0, p.1)) x e in
    let first = pair_reads (within 8 0 greatest) behind_site bytes made.0 made.1 in
    let second = pair_reads (number 4) behind first.between (made.0.0.1, first.rest) first.two in
    let third = pair_reads (counted 1 MOST_DISKS disk) tail second.between (made.0.0.1.1, second.rest) second.two in
    let last = pair_reads (counted 0 MOST_VOLUMES volume) (optional units) third.between (made.0.0.1.1.1, third.rest) third.two in
    let few : length made.0.0.1.1.1.0 ≤ MOST_VOLUMES = counted_few 0 MOST_VOLUMES volume third.between (made.0.0.1.1.1.0, last.between) last.one in
    let is : Config × List ℕ = (of_parts made.0.0, made.0.1) in
    omega (arith, few, ap (λ (y : Config × List ℕ). length y.0.volumes) (same_read is x made.2))

few_read : (bytes : List ℕ) (x : Config × List ℕ) → config.read bytes ≡ Ok x → length x.0.volumes ≤ MOST_VOLUMES
unfolding config
few_read bytes x e =
    let version = bind_ok ((number 4).read bytes) (λ (v : ℕ × List ℕ). behind_version v.0 (length bytes) v.1) x e in
    let tested = test_ok (version.0.0 == 1) (length bytes) (format_1.read version.0.1) x version.2 in
    few_in version.0.1 x tested.1

pub few_of : (bytes : List ℕ) (r : Reading Config) → config.read bytes ≡ r → length (volumes_of (read_front r)) ≤ MOST_VOLUMES
few_of bytes (Ok x) is = few_read bytes x is
few_of bytes (Err left) is = omega arith

pub few_noted : (note : GroupNode) → length (noted_table note) ≤ MOST_VOLUMES
few_noted note = omega (arith, length-map (volumes_of (config_of note.config)) plain_fact, few_of note.config (config.read note.config) refl)
