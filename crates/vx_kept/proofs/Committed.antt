-- A commit keeps a configuration of the group's kind, whatever it answers.
use Rattle.std.proofs.Common.{◌≡◌, ◌⊎◌, inl, inr, ⊎_elim, ℕ, ◌+◌, ◌<◌, ◌≤◌, Bool, true, IsTrue, Option, List, length, refl, ap, sym, ◌∙◌, subst, arith}
use Rattle.std.proofs.lemmas.Bool.{both_ways}
use Rattle.std.specs.Prelude.{not}
use Rattle.vx_disk.specs.Moves.{Beside}
use Rattle.vx_disk.specs.Shelf.{Each, Image, Lawful, Meaning, Nothing}
use Rattle.vx_copyfmt.specs.Commits.{Amid, Counts, FindsNew, FindsOld, FromNew, FromOld, Spoilt, Torn}
use Rattle.vx_copyfmt.specs.Imports.{Found, settle}
use Rattle.vx_copyfmt.proofs.Areas.{lower_older, no_forged, no_torn}
use Rattle.vx_copyfmt.proofs.Spoiling.{torn_gives}
use Rattle.vx_copyfmt.proofs.Subs.{counts_sub}
use Rattle.vx_copyio.specs.Putting.{AreasOf}
use Rattle.vx_config.specs.declared.config.Config.{Config}
use Rattle.vx_copies.specs.Bodies.{failed_in}
use Rattle.vx_copies.specs.Commits.{Becomes, Begins, Below, Done, HaveLabels, HeldGood, IsTry, MayFind, OldOrBegun, ReadyDisks, Refused, StayFit}
use Rattle.vx_copies.specs.Looking.{on_shelf}
use Rattle.vx_copies.specs.Marks.{HasGood, failed_at}
use Rattle.vx_copies.proofs.OneTry.{as_before, held_or, shelf_same}
use Rattle.vx_kept.specs.Choice.{chosen}
use Rattle.vx_model.specs.declared.no.No.{No}
use Rattle.vx_copies.specs.Answers.{good_set}
use Rattle.vx_copies.specs.Bodies.{is_wanted}
use Rattle.vx_copies.proofs.Goods.{good_bit}
use Rattle.vx_copies.proofs.OneTry.{wanted_count}
use Rattle.vx_copies.proofs.Settling.{not_true}
use Rattle.vx_kept.specs.Commits.{Left, Member, Taken}
use Rattle.vx_kept.specs.Groups.{found, found_by}
use Rattle.vx_kept.specs.Keeping.{Acts, AllOn, Base, MayBeNext, IsTidy, Kept, Extends, Kin, Sees}
use Rattle.vx_kept.proofs.Chosen.{active_volumes, alike_extends, extends_volumes, live_volumes, chosen_live, same_extends, settle_all, settle_found}
use Rattle.vx_kept.proofs.Lasting.{cases_bool, sees_same}
use Rattle.vx_kept.proofs.StateLemmas.{same_shape}

-- what the disks are ready by
pub base_of : (c : Config) (G : ℕ → Type 0) (m : Meaning) → Kept c G m → Base c m
base_of c G m kept = record { below = kept.below; counts = kept.counts; labels = kept.labels }

-- c is the configuration in memory, which the disks keep; a that of the commit; d what the commit made of it
module _ (c a d : Config) (old new : Meaning) (lawful : Lawful old) (lawful' : Lawful new) (base : Base c old) (tidy : IsTidy a old) (follows : MayBeNext c a)
    (begins : Begins (IsTry a d.serial old new) a old new) (fit : StayFit a d.serial old new) where
  abbrev Begun : ℕ → Config → Type 0
  Begun = IsTry a d.serial old new

  pub below_a : Below a old
  below_a = record { each = λ u lt b v h is left head. let was = base.below.each u lt b v h is left head in omega (arith, was, follows.serial) }

  ready : ReadyDisks a old
  ready = record { below = below_a; counts = λ u held. base.counts u held.below }

  -- a configuration that was begun is of the kind
  begun_kin : (s : ℕ) (x : Config) → Begun s x → Kin c x
  begun_kin s x try = record {
    shape = alike_extends x a c try.grown.volumes follows.shape;
    on = λ v p lt is. follows.narrows v p lt (sym (live_volumes x a try.grown.volumes v p) ∙ is);
    some = λ v lt. let some = follows.some v (let le = follows.shape.volumes in omega (arith, lt, le)) in live_volumes x a try.grown.volumes v (chosen x v) ∙ chosen_live x a v some.0 try.grown.volumes some.1;
  }

  kin_at : (R : ℕ → Bool) (x : Config) (i : Image) → FindsNew (on_shelf old) failed_in Begun old.units R i → found_by old R i ≡ Found x → Kin c x
  kin_at R x i new_one is =
      let same : new_one.config ≡ x = settle_found old.units R new_one.config x (sym new_one.found ∙ is) in
      subst (Kin c) same (begun_kin new_one.serial new_one.config new_one.made)

  -- ---- each image of the commit, whenever it was left

  failed_left : (i : Image) → Beside (AreasOf (HeldGood a old)) old.leaves i → (u b : ℕ) → failed_at a.disks u ≡ true → old.leaves u b (i u b)
  failed_left i beside u b failed = ⊎_elim (λ was. was) (λ (mine : AreasOf (HeldGood a old) u b). absurd (both_ways (failed_at a.disks u) mine.on.good failed)) (beside u b)

  amid : (i : Image) → Beside (AreasOf (HeldGood a old)) old.leaves i → OldOrBegun Begun a old i → Amid (on_shelf old) Begun (HeldGood a old) old.units old.leaves i
  amid i beside seen u lt = elim (held_or a.disks u) [
    | inl good ↦ let mine : HeldGood a old u = record { below = lt; good = good } in with_held u mine (seen.each ready u mine)
    | inr failed ↦ inl (as_before (on_shelf old) (old.leaves u) (i u) (λ b. failed_left i beside u b failed))
  ]
    where
      with_held : (v : ℕ) → HeldGood a old v → Becomes Begun old v (i v) → FromOld (on_shelf old) (old.leaves v) (i v) ⊎ FromNew (on_shelf old) Begun (old.leaves v) (i v) ⊎ (HeldGood a old v × Torn (on_shelf old) (old.leaves v) (i v))
      with_held v mine (inl from) = inl from
      with_held v mine (inr (inl from)) = inr (inl from)
      with_held v mine (inr (inr torn)) = inr (inr (mine, torn))

  may_find : IsTrue old.tells → (i : Image) → Beside (AreasOf (HeldGood a old)) old.leaves i → OldOrBegun Begun a old i → MayFind Begun a old i
  may_find tells i beside seen =
      let some = lawful.image tells in
      record {
        each = λ R. torn_gives (on_shelf old) failed_in Begun (a.serial + 1) (λ s x made. let lt : a.serial < s = made.above in omega (arith, lt)) (HeldGood a old) old.units old.leaves i some.0
            (amid i beside seen) (lawful.within some.0 some.1)
            (λ u b le. ⊎_elim (λ was. was) (λ (mine : AreasOf (HeldGood a old) u b). absurd (let lt : u < old.units = mine.on.below in omega (arith, le, lt))) (beside u b))
            (λ u lt. lower_older (on_shelf old) (a.serial + 1) (old.leaves u) (below_a.each u lt)) R;
      }

  told : IsTrue new.tells → IsTrue old.tells
  told tells = sym begins.moves.tells ∙ tells

  far_off : (u b : ℕ) → 512 ≤ b → AreasOf (HeldGood a old) u b → ⊥
  far_off u b le mine = let last : b ≤ 256 = mine.last in omega (arith, le, last)

  -- ---- behind it

  pub counts_new : (u : ℕ) → u < new.units → Counts (on_shelf new) (new.leaves u)
  counts_new u lt = subst (λ (r : ℕ → List ℕ → Option Config). Counts r (new.leaves u)) (shelf_same old new begins.moves.units begins.moves.size) (elim (held_or a.disks u) [
    | inl good ↦ good_counts u (record { below = omega (arith, begins.moves.units, lt); good = good })
    | inr failed ↦ counts_sub (on_shelf old) (old.leaves u) (new.leaves u) (λ b v left. ⊎_elim (λ was. was) (λ (mine : AreasOf (HeldGood a old) u b). absurd (both_ways (failed_at a.disks u) mine.on.good failed)) (begins.moves.leaves u b v left))
        (base.counts u (omega (arith, begins.moves.units, lt)))
  ])
    where
      good_counts : (u : ℕ) → HeldGood a old u → Counts (on_shelf old) (new.leaves u)
      good_counts u mine e b h is among top = elim (fit.now below_a u e mine (base.counts u mine.below) among) [
        | inl one ↦ one.fit.counts e b h is (λ k. refl) top
        | inr forged ↦ absurd (no_forged (on_shelf old) (a.serial + 1) (old.leaves u) e (tidy.each u mine) forged)
      ]

  pub labels_new : HaveLabels new
  labels_new = record {
    each = λ u v lt left. elim (begins.moves.leaves u 0 v left) [
      | inl was ↦ base.labels.each u v (omega (arith, begins.moves.units, lt)) was
      | inr mine ↦ absurd (let first : 1 ≤ 0 = mine.first in omega (arith, first))
    ];
  }

  -- done: memory has d
  module _ (good : ℕ) (on : AllOn a) (done : Done good a d old new) (count : length d.disks ≡ new.units) where
    kin_done : Kin d d
    kin_done = record {
      shape = same_extends d d (same_shape d);
      on = λ v p lt is. active_volumes d a done.grown.volumes v p ∙ on.each v p (sym (live_volumes d a done.grown.volumes v p) ∙ is);
      some = λ v lt.
          let same : length d.volumes ≡ length a.volumes = ap length done.grown.volumes in
          let some = follows.some v (omega (arith, same, lt)) in
          live_volumes d a done.grown.volumes v (chosen d v) ∙ chosen_live d a v some.0 done.grown.volumes some.1;
    }

    found_d : (i : Image) → Each new.leaves i → (R : ℕ → Bool) (g : ℕ) → HeldGood d new g → R g ≡ true → found_by new R i ≡ settle failed_in new.units R d
    found_d i each R g held in_it = done.found below_a base.labels i R g each held in_it

    pub done_Kept : Kept d (HeldGood d new) new
    done_Kept = record {
      below = done.below below_a;
      counts = counts_new;
      labels = labels_new;
      sees = λ i each.
          let g = done.left in
          record {
            config = d;
            found = found_d i each (λ u. true) g.disk (record { below = omega (arith, g.below, count); good = g.held }) refl ∙ settle_all new.units d;
            kin = kin_done;
            others = λ R g x held in_it is. subst (Kin d) (settle_found new.units R d x (sym (found_d i each R g held in_it) ∙ is)) kin_done;
          };
    }

    pub done_tidy : IsTidy d new
    done_tidy = record { each = λ u held. done.tidy.each below_a u held }

    pub done_shape : Extends d c
    done_shape = alike_extends d a c done.grown.volumes follows.shape

module _ (c a d : Config) (G : ℕ → Type 0) (old new : Meaning) (lawful : Lawful old) (lawful' : Lawful new) (kept : Kept c G old) (tidy : IsTidy a old) (follows : MayBeNext c a)
    (begins : Begins (IsTry a d.serial old new) a old new) (fit : StayFit a d.serial old new) where
  -- what all imports may find in an image
  module _ (i : Image) (may : MayFind (IsTry a d.serial old new) a old i) where
    by_all : FindsOld (on_shelf old) failed_in old.units old.leaves (λ u. true) i ⊎ FindsNew (on_shelf old) failed_in (IsTry a d.serial old new) old.units (λ u. true) i ⊎ Spoilt (on_shelf old) failed_in (HeldGood a old) old.units old.leaves (λ u. true) i
        → (x : Config) × (found old i ≡ Found x) × Kin c x
    by_all (inl was) = let sees = kept.sees was.image was.left in (sees.config, was.same ∙ sees.found, sees.kin)
    by_all (inr (inl now)) = (now.config, now.found ∙ settle_all old.units now.config, begun_kin c a d old new lawful lawful' (base_of c G old kept) tidy follows begins fit now.serial now.config now.made)
    by_all (inr (inr bad)) = absurd (no_torn (on_shelf old) (a.serial + 1) (old.leaves bad.disk) (i bad.disk) (tidy.each bad.disk bad.is) bad.torn)

    by_some : (R : ℕ → Bool) (g : ℕ) (x : Config) → G g → R g ≡ true → found_by old R i ≡ Found x
        → FindsOld (on_shelf old) failed_in old.units old.leaves R i ⊎ FindsNew (on_shelf old) failed_in (IsTry a d.serial old new) old.units R i ⊎ Spoilt (on_shelf old) failed_in (HeldGood a old) old.units old.leaves R i → Kin c x
    by_some R g x held in_it is (inl was) = (kept.sees was.image was.left).others R g x held in_it (sym was.same ∙ is)
    by_some R g x held in_it is (inr (inl now)) = (kin_at c a d old new lawful lawful' (base_of c G old kept) tidy follows begins fit) R x i now is
    by_some R g x held in_it is (inr (inr bad)) = absurd (no_torn (on_shelf old) (a.serial + 1) (old.leaves bad.disk) (i bad.disk) (tidy.each bad.disk bad.is) bad.torn)

    sees_may : Sees c G old i
    sees_may = let it = by_all (may.each (λ u. true)) in record {
      config = it.0;
      found = it.1;
      kin = it.2;
      others = λ R g x held in_it is. by_some R g x held in_it is (may.each R);
    }

  -- ---- each image of the commit

  pub commit_Acts : Acts Nothing (Sees c G old) old new
  commit_Acts = record {
    units = begins.moves.units;
    size = begins.moves.size;
    tells = begins.moves.tells;
    reads = λ u b v le is. elim (begins.moves.reads u b v is) [
      | inl was ↦ inl (inl was)
      | inr (inl mine) ↦ absurd (far_off c a d old new lawful lawful' (base_of c G old kept) tidy follows begins fit u b le mine)
      | inr (inr down) ↦ inr down
    ];
    leaves = λ u b v le left. ⊎_elim (λ was. inl was) (λ mine. absurd (far_off c a d old new lawful lawful' (base_of c G old kept) tidy follows begins fit u b le mine)) (begins.moves.leaves u b v left);
    later = begins.moves.later;
    since = λ t i le left. elim (begins.moves.since t i le left) [
      | inl was ↦ inl was
      | inr now ↦ inr (
        (λ u b far. ⊎_elim (λ was. inl was) (λ mine. absurd (far_off c a d old new lawful lawful' (base_of c G old kept) tidy follows begins fit u b far mine)) (now.0 u b)),
        elim (cases_bool new.tells) [
          | inl tells ↦ sees_may i ((may_find c a d old new lawful lawful' (base_of c G old kept) tidy follows begins fit) ((told c a d old new lawful lawful' (base_of c G old kept) tidy follows begins fit) tells) i now.0 now.1)
          | inr not ↦ absurd (lawful'.never not t i left)
        ],
      )
    ];
    keeps = begins.moves.keeps;
    faults = begins.moves.faults;
    disk_faults = begins.moves.disk_faults;
    falls = begins.moves.falls;
    unarmed = begins.moves.unarmed;
    safe = begins.moves.safe;
  }

  -- ---- behind it

  sees_new : (i : Image) → Each new.leaves i → Sees c G old i
  sees_new i each = elim (cases_bool new.tells) [
    | inl tells ↦ sees_may i ((may_find c a d old new lawful lawful' (base_of c G old kept) tidy follows begins fit) ((told c a d old new lawful lawful' (base_of c G old kept) tidy follows begins fit) tells) i (λ u b. begins.moves.leaves u b (i u b) (each u b)) (begins.leaves i each))
    | inr not ↦ absurd (lawful'.none not 0 0 (i 0 0) (each 0 0))
  ]

  -- refused: memory keeps c, but for the serial
  module _ (e : Config) (serial : e.serial ≡ d.serial) (volumes : e.volumes ≡ c.volumes) (below : Below a old → Below d new) where
    kin_back : (x : Config) → Kin c x → Kin e x
    kin_back x kin = record {
      shape = extends_volumes x c e volumes kin.shape;
      on = λ v p lt is. active_volumes e c volumes v p ∙ kin.on v p (omega (arith, ap length volumes, lt)) is;
      some = λ v lt. kin.some v (omega (arith, ap length volumes, lt));
    }

    pub refused_Kept : Kept e G new
    refused_Kept = record {
      below = record { each = λ u lt b v h is left head. let was = (below (below_a c a d old new lawful lawful' (base_of c G old kept) tidy follows begins fit)).each u lt b v h is left head in omega (arith, was, serial) };
      counts = (counts_new c a d old new lawful lawful' (base_of c G old kept) tidy follows begins fit);
      labels = (labels_new c a d old new lawful lawful' (base_of c G old kept) tidy follows begins fit);
      sees = λ i each.
          let sees = sees_same c G old new begins.moves.units begins.moves.size i (sees_new i each) in
          record {
            config = sees.config;
            found = sees.found;
            kin = kin_back sees.config sees.kin;
            others = λ R g x held in_it is. kin_back x (sees.others R g x held in_it is);
          };
    }

-- ---- in sets of bits

pub member_same : (good : ℕ) (m m' : Meaning) → m'.units ≡ m.units → (u : ℕ) → Member good m' u → Member good m u
member_same good m m' units u it = record { below = omega (arith, units, it.below); is = it.is }

pub held_of : (d : Config) (m : Meaning) → length d.disks ≡ m.units → (u : ℕ) → Member (good_set d.disks) m u → HeldGood d m u
held_of d m count u it =
    let lt : u < length d.disks = omega (arith, count, it.below) in
    let is : not (failed_at d.disks u) ≡ true = sym (good_bit d.disks u lt) ∙ it.is in
    record { below = it.below; good = not_true (failed_at d.disks u) is }

-- a good disk of any set is one of the good disks
some_good : {good : ℕ} (d : Config) (m : Meaning) → length d.disks ≡ m.units → HasGood d.disks good → HasGood d.disks (good_set d.disks)
some_good d m count some = record { disk = some.disk; below = some.below; held = some.held; member = good_bit d.disks some.disk some.below ∙ ap not some.held }

-- fewer disks
pub fewer : (c : Config) (G H : ℕ → Type 0) (m : Meaning) → ((u : ℕ) → H u → G u) → Kept c G m → Kept c H m
fewer c G H m sub kept = record {
  below = kept.below;
  counts = kept.counts;
  labels = kept.labels;
  sees = λ i each. let sees = kept.sees i each in record { config = sees.config; found = sees.found; kin = sees.kin; others = λ R g x held in_it is. sees.others R g x (sub g held) in_it is };
}

module _ (good : ℕ) (c a d : Config) (old new : Meaning) (lawful : Lawful old) (lawful' : Lawful new) (base : Base c old) (tidy : IsTidy a old) (follows : MayBeNext c a)
    (begins : Begins (IsTry a d.serial old new) a old new) (fit : StayFit a d.serial old new) where
  pub base_done : AllOn a → Done good a d old new → is_wanted new.units new.size d ≡ true → Taken c a d old new
  base_done on done wanted =
      let count : length d.disks ≡ new.units = wanted_count new.units new.size d wanted in
      record {
        later = done.later;
        few = done.few;
        finds = λ i each.
            let g = done.left in
            done.found (below_a c a d old new lawful lawful' base tidy follows begins fit) base.labels i (λ u. true) g.disk each (record { below = (let less = g.below in omega (arith, less, count)); good = g.held }) refl
            ∙ settle_all new.units d;
        kept = fewer d (HeldGood d new) (Member (good_set d.disks) new) new (held_of d new count) (done_Kept c a d old new lawful lawful' base tidy follows begins fit good on done count);
        tidy = done_tidy c a d old new lawful lawful' base tidy follows begins fit good on done count;
        shape = done_shape c a d old new lawful lawful' base tidy follows begins fit good on done count;
        grown = done.grown;
        some = some_good d new count done.left;
      }

module _ (good : ℕ) (c a d : Config) (old new : Meaning) (lawful : Lawful old) (lawful' : Lawful new) (kept : Kept c (Member good old) old) (tidy : IsTidy a old) (follows : MayBeNext c a)
    (begins : Begins (IsTry a d.serial old new) a old new) (fit : StayFit a d.serial old new) where
  pub take_acts : Acts Nothing (Sees c (Member good old) old) old new
  take_acts = commit_Acts c a d (Member good old) old new lawful lawful' kept tidy follows begins fit

  pub take_done : AllOn a → Done good a d old new → is_wanted new.units new.size d ≡ true → Taken c a d old new
  take_done = base_done good c a d old new lawful lawful' (base_of c (Member good old) old kept) tidy follows begins fit

  pub take_refused : (e : Config) (why : No) → Refused good a d old new why → e ≡ record { serial = d.serial; site = c.site; disks = c.disks; volumes = c.volumes; rvg = c.rvg } → Left good c a e old new why
  take_refused e why refused is = rw is (record {
    kept = fewer _ (Member good old) (Member good new) new (member_same good old new begins.moves.units)
        (refused_Kept c a d (Member good old) old new lawful lawful' kept tidy follows begins fit (record { serial = d.serial; site = c.site; disks = c.disks; volumes = c.volumes; rvg = c.rvg }) refl refl refused.below);
    site = refl;
    rvg = refl;
    volumes = refl;
    disks = refl;
    later = (let more = refused.later in let same = follows.serial in omega (arith, more, same));
    cause = refused.cause;
  })

-- each plex that takes part is ACTIVE as before
pub take_on : (a d : Config) → d.volumes ≡ a.volumes → AllOn a → AllOn d
take_on a d volumes on = record { each = λ v p is. active_volumes d a volumes v p ∙ on.each v p (sym (live_volumes d a volumes v p) ∙ is) }
