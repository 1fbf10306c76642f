-- What an import finds in the middle of a commit, and behind it.
use Rattle.std.proofs.Common.{◌≡◌, ◌⊎◌, inl, inr, ⊎_elim, ℕ, zero, suc, ◌+◌, ◌<◌, ◌≤◌, Bool, true, false, IsFalse, Option, Some, Err, List, length, refl, ap, sym, subst, ◌∙◌, arith}
use Rattle.std.specs.Prelude.{not}
use Rattle.std.proofs.lemmas.Bool.{both_ways, cases_lt}
use Rattle.vx_disk.specs.Moves.{Along, Beside}
use Rattle.vx_disk.specs.Shelf.{Each, Image, Lawful, Meaning}
use Rattle.vx_disk.proofs.Moving.{wider}
use Rattle.vx_copyfmt.specs.Copies.{Disk, Holds}
use Rattle.vx_copyfmt.specs.Commits.{Amid, Among, FindsNew, FindsOld, FromNew, FromOld, GivesConfig, Older, Spoilt, Torn}
use Rattle.vx_copyfmt.specs.Imports.{import_of, is_label, settle}
use Rattle.vx_copyfmt.specs.Labels.{seen_in}
use Rattle.vx_copyfmt.proofs.Areas.{lower_older, no_torn}
use Rattle.vx_copyfmt.proofs.Spoiling.{torn_gives}
use Rattle.vx_copyfmt.proofs.Committing.{commit_gives, front_settles, settle_gives}
use Rattle.vx_copyio.specs.Putting.{AreasOf}
use Rattle.vx_model.specs.declared.no.No.{No}
use Rattle.vx_model.specs.declared.no.No.TheVariants as refusal
use Rattle.vx_config.specs.Table.{greatest}
use Rattle.vx_config.specs.declared.config.Config.{Config}
use Rattle.vx_config.specs.declared.entry.DiskEntry.{DiskEntry}
use Rattle.vx_copies.specs.Answers.{good_set}
use Rattle.vx_copies.specs.Bodies.{failed_in}
use Rattle.vx_copies.specs.Commits.{AllFailed, AreTidy, Becomes, Begins, Below, CommitStops, Counted, Done, Finds, Grown, HaveLabels, HeldGood, IsBefore, IsFew, IsNone, IsOne, IsTry, Marked, MayFind, OldOrBegun, FoundOutcome, OwnCopy, ReadyDisks, Remain, Silent, Spared, Stage, CopiesStand, StayFit, TriesEnd, Underway, WasCommitted, WereTidy}
use Rattle.vx_copies.specs.Looking.{on_shelf}
use Rattle.vx_copies.specs.Marks.{HasGood, NoneGood, failed_at, good_count}
use Rattle.vx_copies.proofs.Goods.{good_bit}
use Rattle.vx_copies.proofs.Outcomes.{outcome}
use Rattle.vx_copies.proofs.OneTry.{as_before, held_or, new_wider, shelf_same}
use Rattle.vx_copies.proofs.Silence.{committed_silent, none_gives, quiet}

-- some image of before, where the shelf tells
base_of : (c : Config) (old new : Meaning) → Lawful old → new.tells ≡ old.tells → (IsFalse new.tells → ⊥) → (base : Image) × Each old.leaves base
base_of c old new lawful same never = by_tells old.tells refl
  where
    by_tells : (b : Bool) → old.tells ≡ b → (base : Image) × Each old.leaves base
    by_tells true tells = let some = lawful.image tells in (some.0, lawful.within some.0 some.1)
    by_tells false tells = absurd (never (same ∙ tells))

-- ---- in the middle

module _ (begun : ℕ → Config → Type 0) (c : Config) (old new : Meaning) (late : (s : ℕ) (d : Config) → begun s d → c.serial + 1 ≤ s) (begins : Begins begun c old new) where
  older_all : Below c old → (u : ℕ) → u < old.units → Older (on_shelf old) (c.serial + 1) (old.leaves u)
  older_all below u lt = lower_older (on_shelf old) (c.serial + 1) (old.leaves u) (below.each u lt)

  out_of_reach : (i : Image) → Beside (AreasOf (HeldGood c old)) old.leaves i → (u b : ℕ) → old.units ≤ u → old.leaves u b (i u b)
  out_of_reach i beside u b le = ⊎_elim (λ was. was) (λ (mine : AreasOf (HeldGood c old) u b). absurd (omega (arith, le, mine.on.below))) (beside u b)

  failed_left : (i : Image) → Beside (AreasOf (HeldGood c old)) old.leaves i → (u b : ℕ) → failed_at c.disks u ≡ true → old.leaves u b (i u b)
  failed_left i beside u b failed = ⊎_elim (λ was. was) (λ (mine : AreasOf (HeldGood c old) u b). absurd (both_ways (failed_at c.disks u) mine.on.good failed)) (beside u b)

  amid : ReadyDisks c old → (i : Image) → Beside (AreasOf (HeldGood c old)) old.leaves i → OldOrBegun begun c old i → Amid (on_shelf old) begun (HeldGood c old) old.units old.leaves i
  amid ready i beside seen u lt = elim (held_or c.disks u) [
    | inl good ↦ let mine : HeldGood c old u = record { below = lt; good = good } in with_held u mine (seen.each ready u mine)
    | inr failed ↦ inl (as_before (on_shelf old) (old.leaves u) (i u) (λ b. failed_left i beside u b failed))
  ]
    where
      with_held : (v : ℕ) → HeldGood c old v → Becomes begun old v (i v) → FromOld (on_shelf old) (old.leaves v) (i v) ⊎ FromNew (on_shelf old) begun (old.leaves v) (i v) ⊎ (HeldGood c old v × Torn (on_shelf old) (old.leaves v) (i v))
      with_held v mine (inl from) = inl from
      with_held v mine (inr (inl from)) = inr (inl from)
      with_held v mine (inr (inr torn)) = inr (inr (mine, torn))

  -- with some image of before
  find_of : ReadyDisks c old → (base : Image) → Each old.leaves base → (i : Image) → Beside (AreasOf (HeldGood c old)) old.leaves i → OldOrBegun begun c old i → MayFind begun c old i
  find_of ready base has i beside seen = record {
    each = λ readable. torn_gives (on_shelf old) failed_in begun (c.serial + 1) late (HeldGood c old) old.units old.leaves i base (amid ready i beside seen) has (out_of_reach i beside) (older_all ready.below) readable;
  }

  module _ (before : Lawful old) (after : Lawful new) where
    pub since : ReadyDisks c old → Along old new (MayFind begun c old)
    since ready = record {
      each = λ t i le left.
          let some = base_of c old new before begins.moves.tells (λ none. after.never none t i left) in
          elim (begins.moves.since t i le left) [
            | inl was ↦ inl was
            | inr now ↦ inr (find_of ready some.0 some.1 i now.0 now.1)
          ];
    }

    pub now : ReadyDisks c old → (i : Image) → Each new.leaves i → MayFind begun c old i
    now ready i left =
        let some = base_of c old new before begins.moves.tells (λ none. after.none none 0 0 (i 0 0) (left 0 0)) in
        find_of ready some.0 some.1 i (λ u b. begins.moves.leaves u b (i u b) (left u b)) (begins.leaves i left)

-- ---- what tries began

module _ (good : ℕ) (c d : Config) (old new : Meaning) (underway : Underway good c d old new) where
  one_before : (u s : ℕ) (x : Config) → IsOne c d.serial underway.tries u s x → IsBefore c d old new s x
  one_before u s x one = subst (IsBefore c d old new s) (sym one.is) (underway.tried s one.above one.within)

  one_try : (u s : ℕ) (x : Config) → IsOne c d.serial underway.tries u s x → IsTry c d.serial old new s x
  one_try u s x one = (one_before u s x one).is

  -- said of what was begun in another way
  module _ (begun : ℕ → Config → Type 0) (wide : (u s : ℕ) (x : Config) → IsOne c d.serial underway.tries u s x → begun s x) where
    widen : (u : ℕ) (e : Disk) → Becomes (IsOne c d.serial underway.tries u) old u e → Becomes begun old u e
    widen u e (inl from) = inl from
    widen u e (inr (inl from)) = inr (inl (new_wider (on_shelf old) (IsOne c d.serial underway.tries u) begun (old.leaves u) e (wide u) from))
    widen u e (inr (inr torn)) = inr (inr torn)

    of_stage : (i : Image) → Stage good c d.serial underway.tries old i → OldOrBegun begun c old i
    of_stage i stage = record { each = λ ready u held. widen u (i u) (stage.each ready u held) }

    begins_so : Begins begun c old new
    begins_so = record {
      moves = wider (AreasOf (HeldGood c old)) (AreasOf (HeldGood c old)) (Stage good c d.serial underway.tries old) (OldOrBegun begun c old) old new underway.moves (λ u b mine. mine) (λ i beside seen. of_stage i seen);
      leaves = λ i left. of_stage i (underway.now i left);
    }

  pub begins_try : Begins (IsTry c d.serial old new) c old new
  begins_try = begins_so (IsTry c d.serial old new) one_try

  before_of : (u : ℕ) (e : Disk) → Becomes (IsOne c d.serial underway.tries u) old u e → Becomes (IsBefore c d old new) old u e
  before_of = widen (IsBefore c d old new) one_before

  -- ---- what is ready for the next serial

  own_copy : (u : ℕ) (e : Disk) → Becomes (IsOne c d.serial underway.tries u) old u e → FromOld (on_shelf old) (old.leaves u) e ⊎ OwnCopy old u e ⊎ Torn (on_shelf old) (old.leaves u) e
  own_copy u e (inl from) = inl from
  own_copy u e (inr (inl from)) =
      let serial : from.serial ≡ from.config.serial = (one_try u from.serial from.config from.made).serial_is in
      inr (inl (record { config = from.config; area = from.area; copy = from.copy ∙ ap (λ (s : ℕ). Some (record { serial = s; area = from.area; body = Holds from.config })) serial; holds = from.made.holds }))
  own_copy u e (inr (inr torn)) = inr (inr torn)

  pub fits_try : Lawful old → StayFit c d.serial old new
  fits_try before = record {
    since = λ ready. record {
      each = λ t i le left. elim (underway.moves.since t i le left) [
        | inl was ↦ inl was
        | inr now ↦ inr (record { each = λ u mine. now.1.fit ready u mine; own = λ u mine. own_copy u (i u) (now.1.each ready u mine) })
      ];
    };
    now = underway.fits;
    own = λ below u e held counts among. own_copy u e (underway.leaves below u e held counts among);
  }

  -- ---- one configuration for all imports

  module _ (before : Lawful old) (after : Lawful new) (held : Option Config) (was : WasCommitted good held old) (ready : ReadyDisks c old) (labels : HaveLabels old) where
    outcome_since : Along old new (FoundOutcome (IsTry c d.serial old new) held c old)
    outcome_since = record {
      each = λ t i le left.
          let some = base_of c old new before underway.moves.tells (λ none. after.never none t i left) in
          elim (underway.moves.since t i le left) [
            | inl is ↦ inl is
            | inr now ↦ inr (outcome good c d old new underway held was ready labels some.0 some.1 i now.0 now.1)
          ];
    }

    outcome_now : (i : Image) → Each new.leaves i → FoundOutcome (IsTry c d.serial old new) held c old i
    outcome_now i left =
        let some = base_of c old new before underway.moves.tells (λ none. after.none none 0 0 (i 0 0) (left 0 0)) in
        outcome good c d old new underway held was ready labels some.0 some.1 i (λ u b. underway.moves.leaves u b (i u b) (left u b)) (underway.now i left)

  pub finds_try : Lawful old → Lawful new → Finds good (IsTry c d.serial old new) c old new
  finds_try before after =
      let late : (s : ℕ) (x : Config) → IsTry c d.serial old new s x → c.serial + 1 ≤ s = λ s x made. omega (arith, made.above) in
      record {
        since = λ ready. since (IsTry c d.serial old new) c old new late begins_try before after ready;
        now = λ ready. now (IsTry c d.serial old new) c old new late begins_try before after ready;
        outcome_since = λ held was ready labels. outcome_since before after held was ready labels;
        outcome_now = λ held was ready labels. outcome_now before after held was ready labels;
      }

  -- ---- behind it

  module _ (count : length d.disks ≡ old.units) (before : Lawful old) (after : Lawful new) (left : HasGood d.disks good) (later : c.serial < d.serial) (stands : CopiesStand c d old new) where
    block_kept : (u : ℕ) (v : List ℕ) → new.leaves u 0 v → old.leaves u 0 v
    block_kept u v is = ⊎_elim (λ was. was) (λ (mine : AreasOf (HeldGood c old) u 0). absurd (omega (arith, mine.first))) (underway.moves.leaves u 0 v is)

    still_good : (s : ℕ) (x : Config) → IsBefore c d old new s x → failed_in x left.disk ≡ false
    still_good s x made = elim (held_or x.disks left.disk) [
      | inl is ↦ is
      | inr failed ↦ absurd (both_ways (failed_at d.disks left.disk) left.held (made.fewer left.disk failed))
    ]

    leading : left.disk < old.units
    leading = omega (arith, left.below, count)

    over_new : (P : (ℕ → List ℕ → Option Config) → ℕ → Type 0) → P (on_shelf old) old.units → P (on_shelf new) new.units
    over_new P is = subst (P (on_shelf new)) (sym underway.moves.units) (subst (λ (r : ℕ → List ℕ → Option Config). P r old.units) (shelf_same old new underway.moves.units underway.moves.size) is)

    module _ (i : Image) (is : Each new.leaves i) (below : Below c old) (labels : HaveLabels old) where
      labelled : (u : ℕ) → u < old.units → is_label (seen_in (i u 0)) ≡ true
      labelled u lt = labels.each u (i u 0) lt (block_kept u (i u 0) (is u 0))

      -- an import that reads one of its disks
      reads_one : (readable : ℕ → Bool) (g : ℕ) → g < old.units → failed_at d.disks g ≡ false → readable g ≡ true → import_of (on_shelf old) failed_in old.units readable i ≡ settle failed_in old.units readable d
      reads_one readable g lt good_one in_it = front_settles failed_in (on_shelf old) d.serial d old.units i readable labelled (stands.each below i is) g lt good_one in_it

      -- ---- what each disk has

      has_last : (u : ℕ) → u < old.units → failed_at d.disks u ≡ false → FromNew (on_shelf old) (IsBefore c d old new) (old.leaves u) (i u)
      has_last u lt good_one =
          let copy = (stands.each below i is).new u lt good_one in
          record {
            serial = d.serial;
            config = d;
            area = copy.0;
            made = record { is = record { serial_is = refl; above = later; within = omega arith; grown = underway.grown }; fewer = λ v failed. failed };
            first = i u 0;
            there = block_kept u (i u 0) (is u 0);
            label = refl;
            copy = copy.1;
          }

      left_so : (u : ℕ) → failed_at c.disks u ≡ true → Among (old.leaves u) (i u)
      left_so u failed b =
          ⊎_elim (λ was. was) (λ (mine : AreasOf (HeldGood c old) u b). absurd (both_ways (failed_at c.disks u) mine.on.good failed)) (underway.moves.leaves u b (i u b) (is u b))

      of_marked : (u : ℕ) → Marked c d old u → Becomes (IsBefore c d old new) old u (i u)
          → FromOld (on_shelf old) (old.leaves u) (i u) ⊎ FromNew (on_shelf old) (IsBefore c d old new) (old.leaves u) (i u) ⊎ (Marked c d old u × Torn (on_shelf old) (old.leaves u) (i u))
      of_marked u marked (inl from) = inl from
      of_marked u marked (inr (inl from)) = inr (inl from)
      of_marked u marked (inr (inr torn)) = inr (inr (marked, torn))

      amid_now : Counted c d old → Amid (on_shelf old) (IsBefore c d old new) (Marked c d old) old.units old.leaves i
      amid_now counted u lt = elim (held_or d.disks u) [
        | inl stays ↦ inr (inl (has_last u lt stays))
        | inr failed ↦ elim (held_or c.disks u) [
          | inr was ↦ inl (as_before (on_shelf old) (old.leaves u) (i u) (left_so u was))
          | inl good_one ↦
              let marked : Marked c d old u = record { held = record { below = lt; good = good_one }; failed = failed } in
              of_marked u marked (before_of u (i u) (underway.leaves below u (i u) marked.held (counted.each u marked) (λ b. is u b)))
        ]
      ]

      far : (u b : ℕ) → old.units ≤ u → old.leaves u b (i u b)
      far u b le = ⊎_elim (λ was. was) (λ (mine : AreasOf (HeldGood c old) u b). absurd (omega (arith, le, mine.on.below))) (underway.moves.leaves u b (i u b) (is u b))

      tells : IsFalse old.tells → ⊥
      tells none = after.none (underway.moves.tells ∙ none) 0 0 (i 0 0) (is 0 0)

      finds_now : Counted c d old → (readable : ℕ → Bool)
          → FindsOld (on_shelf old) failed_in old.units old.leaves readable i ⊎ FindsNew (on_shelf old) failed_in (IsBefore c d old new) old.units readable i ⊎ Spoilt (on_shelf old) failed_in (Marked c d old) old.units old.leaves readable i
      finds_now counted readable =
          let some = base_of c old new before underway.moves.tells (λ none. after.none none 0 0 (i 0 0) (is 0 0)) in
          torn_gives (on_shelf old) failed_in (IsBefore c d old new) (c.serial + 1) (λ s x made. omega (arith, made.is.above)) (Marked c d old) old.units old.leaves i some.0 (amid_now counted) some.1 far
          (λ u lt. lower_older (on_shelf old) (c.serial + 1) (old.leaves u) (below.each u lt)) readable

      gives : (held : Option Config) → WasCommitted good held old → Counted c d old → (readable : ℕ → Bool)
          → GivesConfig d (import_of (on_shelf old) failed_in old.units readable i) ⊎ Spoilt (on_shelf old) failed_in (Marked c d old) old.units old.leaves readable i
      gives held was counted readable =
          commit_gives failed_in (on_shelf old) d.serial d old.units i readable labelled (stands.each below i is)
          held (IsBefore c d old new) (Marked c d old) old.leaves left.disk leading left.held (was.members left.disk leading left.member) was.committed still_good
          (finds_now counted readable)

      -- where no disk that was marked could be torn
      gives_all : (held : Option Config) → WasCommitted good held old → WereTidy c d old → (readable : ℕ → Bool) → GivesConfig d (import_of (on_shelf old) failed_in old.units readable i)
      gives_all held was tidy readable =
          ⊎_elim (λ given. given)
          (λ (spoilt : Spoilt (on_shelf old) failed_in (Marked c d old) old.units old.leaves readable i).
          absurd (no_torn (on_shelf old) (c.serial + 1) (old.leaves spoilt.disk) (i spoilt.disk) (tidy.each spoilt.disk spoilt.is) spoilt.torn))
          (gives held was (record { each = λ u marked. (tidy.each u marked).fit.counts }) readable)

      -- where none was marked, and the others say nothing
      gives_again : Silent c old → d.disks ≡ c.disks → (readable : ℕ → Bool) → GivesConfig d (import_of (on_shelf old) failed_in old.units readable i)
      gives_again silent same readable = elim some_read [
        | inl found ↦ subst (GivesConfig d) (sym (reads_one readable found.0 found.1 found.2 found.3)) (settle_gives failed_in old.units readable d)
        | inr none ↦ none_gives d (import_of (on_shelf old) failed_in old.units readable i)
            (quiet good c d old new underway before i readable tells is silent (λ u held. none u held.below (subst (λ (ds : List DiskEntry). failed_at ds u ≡ false) (sym same) held.good)))
      ]
        where
          one_more : (n : ℕ) → ((u : ℕ) → u < n → failed_at d.disks u ≡ false → readable u ≡ false) → (failed_at d.disks n ≡ false) ⊎ (failed_at d.disks n ≡ true) → (b : Bool) → readable n ≡ b → n < old.units
              → ((g : ℕ) × (g < old.units) × (failed_at d.disks g ≡ false) × (readable g ≡ true)) ⊎ ((u : ℕ) → u < suc n → failed_at d.disks u ≡ false → readable u ≡ false)
          one_more n none (inl stays) true in_it lt = inl (n, lt, stays, in_it)
          one_more n none (inl stays) false out lt = inr (λ u below_u good_one. elim (cases_lt u n) [
            | inl less ↦ none u less good_one
            | inr last ↦ let same_disk : n ≡ u = omega (arith, below_u, last) in subst (λ (k : ℕ). readable k ≡ false) same_disk out
          ])
          one_more n none (inr failed) b is_b lt = inr (λ u below_u good_one. elim (cases_lt u n) [
            | inl less ↦ none u less good_one
            | inr last ↦ let same_disk : n ≡ u = omega (arith, below_u, last) in absurd (both_ways (failed_at d.disks u) good_one (subst (λ (k : ℕ). failed_at d.disks k ≡ true) same_disk failed))
          ])

          some_of : (n : ℕ) → n ≤ old.units → ((g : ℕ) × (g < old.units) × (failed_at d.disks g ≡ false) × (readable g ≡ true)) ⊎ ((u : ℕ) → u < n → failed_at d.disks u ≡ false → readable u ≡ false)
          some_of zero le = inr (λ u lt good_one. absurd (omega (arith, lt)))
          some_of (suc n) le = elim (some_of n (omega (arith, le))) [
            | inl found ↦ inl found
            | inr none ↦ one_more n none (held_or d.disks n) (readable n) refl (omega (arith, le))
          ]

          some_read : ((g : ℕ) × (g < old.units) × (failed_at d.disks g ≡ false) × (readable g ≡ true)) ⊎ ((u : ℕ) → u < old.units → failed_at d.disks u ≡ false → readable u ≡ false)
          some_read = some_of old.units (omega arith)

    newly_committed : ((i : Image) (readable : ℕ → Bool) → Each new.leaves i → GivesConfig d (import_of (on_shelf old) failed_in old.units readable i)) → WasCommitted (good_set d.disks) (Some d) new
    newly_committed all = record {
      committed = record {
        each = λ i readable is. over_new (λ r n. GivesConfig d (import_of r failed_in n readable i)) (all i readable is);
      };
      members = λ u lt bit. is_good (failed_at d.disks u) (sym (good_bit d.disks u (omega (arith, count, lt, underway.moves.units))) ∙ bit);
    }
      where
        is_good : (b : Bool) → not b ≡ true → b ≡ false
        is_good false is = refl
        is_good true is = absurd cc

    pub is_done : AreTidy c d old new → IsFew 1 c d → Done good c d old new
    is_done tidy few = record {
      later = later;
      few = few;
      grown = underway.grown;
      left = left;
      below = underway.below;
      tidy = tidy;
      stands = stands;
      found = λ below labels i readable g is held in_it.
          over_new (λ r n. import_of r failed_in n readable i ≡ settle failed_in n readable d) (reads_one i is below labels readable g (omega (arith, held.below, underway.moves.units)) held.good in_it);
      newest = λ held was below counted labels i readable is. gives i is below labels held was counted readable;
      committed = λ held was below marked labels. newly_committed (λ i readable is. gives_all i is below labels held was marked readable);
      again = λ below silent labels same. newly_committed (λ i readable is. gives_again i is below labels silent same readable);
      silent = λ was. committed_silent good (good_set d.disks) d new left (omega (arith, leading, underway.moves.units)) was;
    }

  -- a refused one leaves what the others say as it was
  pub stays_silent : (e : Config) → Lawful old → Lawful new → e.disks ≡ c.disks → Silent c old → Silent e new
  stays_silent e before after same silent = record {
    each = λ i readable is reads_one unread.
        let here = quiet good c d old new underway before i readable (λ none. after.none (underway.moves.tells ∙ none) 0 0 (i 0 0) (is 0 0)) is silent
        (λ u held. unread u (record { below = omega (arith, held.below, underway.moves.units); good = subst (λ (ds : List DiskEntry). failed_at ds u ≡ false) (sym same) held.good })) in
        subst (λ (n : ℕ). IsNone (import_of (on_shelf new) failed_in n readable i)) (sym underway.moves.units)
        (subst (λ (r : ℕ → List ℕ → Option Config). IsNone (import_of r failed_in old.units readable i)) (shelf_same old new underway.moves.units underway.moves.size) here);
  }

-- ---- refusals

-- what was marked had failed
pub all_failed : (good : ℕ) (c d : Config) (old new : Meaning) → Grown old new c d → NoneGood d.disks (length d.disks) good → AllFailed good c old new
all_failed good c d old new grown none = record {
  each = λ u lt bit. elim (held_or c.disks u) [
    | inl held ↦ inr (grown.disks.blamed u held (none.each u (omega (arith, lt, grown.disks.count)) bit))
    | inr failed ↦ inl failed
  ];
}

-- a configuration that has its disks back
pub restored : (c d e : Config) (old new : Meaning) → Grown old new c d → e ≡ record { serial = d.serial; site = d.site; disks = c.disks; volumes = d.volumes; rvg = d.rvg }
    → e ≡ record { serial = d.serial; site = c.site; disks = c.disks; volumes = c.volumes; rvg = c.rvg }
restored c d e old new grown is =
    is ∙ ap (λ s. record { serial = d.serial; site = s; disks = c.disks; volumes = d.volumes; rvg = d.rvg }) grown.site
    ∙ ap (λ v. record { serial = d.serial; site = c.site; disks = c.disks; volumes = v; rvg = d.rvg }) grown.volumes
    ∙ ap (λ r. record { serial = d.serial; site = c.site; disks = c.disks; volumes = c.volumes; rvg = r }) grown.rvg

-- and what was not is as it was, or has a later copy
spared : (c d : Config) (old new : Meaning) → Grown old new c d → new.units ≡ old.units → Remain c d old new → Spared c d.serial old new
spared c d old new grown units remain = record {
  each = λ u held. elim (held_or d.disks u) [
    | inl stays ↦ inr (remain.each u (record { below = omega (arith, held.below, units); good = stays }))
    | inr failed ↦ inl (grown.disks.blamed u held.good failed)
  ];
}

pub why_refused : (good : ℕ) (c d : Config) (old new : Meaning) (why : No) → c.serial < greatest → Grown old new c d → new.units ≡ old.units → TriesEnd {T = Unit {0}} good c d old new (Err why) → CommitStops good c d.serial old new why
why_refused good c d old new (refusal.Device disk) more grown units ends =
    (more, ends.0, ⊎_elim (λ none. inl (all_failed good c d old new grown none)) (λ most. inr most) ends.1, spared c d old new grown units ends.2)
why_refused good c d old new refusal.Down more grown units ends = (more, ends.0)
why_refused good c d old new other more grown units ends = absurd ends

-- and how many serials it used
pub few_refused : (good : ℕ) (c d : Config) (old new : Meaning) (why : No) → TriesEnd {T = Unit {0}} good c d old new (Err why) → d.serial ≤ c.serial + good_count c.disks
few_refused good c d old new (refusal.Device disk) ends = omega (arith, ends.3)
few_refused good c d old new refusal.Down ends = ends.1
few_refused good c d old new other ends = absurd ends
